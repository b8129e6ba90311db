-- The checks 3 and 4 of a report, and where it leads the site that passes them.
use Rattle.std.specs.Prelude.{Bool, List, [], ◌∷◌, ℕ, unwrap_or, Result}
use Rattle.refusals.specs.declared.Refusal.{Refusal}
use Rattle.method.specs.declared.Stage.{Stage}
use Rattle.method.specs.declared.Report.{Report}
use Rattle.method.specs.declared.Row.{Row}
use Rattle.method.specs.Records.{part_at}
use Rattle.method.specs.Stages.{step_of}
use Rattle.method.specs.Conditions.{not_listed, no_step}
use Rattle.method.specs.Calls.{checked}

abbrev pub place_checks : Row → ℕ → Report → List (Refusal × Bool)
place_checks r s p = (Refusal.BadSite, not_listed r s) ∷ (Refusal.OutOfTurn, no_step r s p) ∷ []

abbrev pub next_stage : Row → ℕ → Report → Stage
next_stage r s p = unwrap_or (step_of (part_at r s).stage p) (part_at r s).stage

abbrev pub place_of : Row → ℕ → Report → Result Stage Refusal
place_of r s p = checked (place_checks r s p) (next_stage r s p)
