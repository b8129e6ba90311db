-- What a report finds: the slot of the number and the stage that the site comes to, and then the row as it will be.
use Rattle.std.specs.Prelude.{Bool, List, [], ◌∷◌, ℕ, Result}
use Rattle.refusals.specs.declared.Refusal.{Refusal}
use Rattle.method.specs.declared.Stage.{Stage}
use Rattle.method.specs.declared.Report.{Report}
use Rattle.method.specs.declared.Row.{Row}
use Rattle.method.specs.declared.Table.{Table}
use Rattle.method.specs.Records.{ticket, part_at}
use Rattle.method.specs.Slots.{slot_of, row_of_number}
use Rattle.method.specs.Conditions.{is_closed, unknown, not_listed, no_step}
use Rattle.method.specs.Calls.{checked}
use Rattle.method.specs.Effects.{reported}
use Rattle.stages.specs.Place.{next_stage}

-- the checks that both reports begin with
abbrev pub shared : Table → ℕ → ℕ → Report → List (Refusal × Bool)
shared t n s p =
    (Refusal.NotOpen, is_closed t) ∷ (Refusal.Unknown, unknown t n)
    ∷ (Refusal.BadSite, not_listed (row_of_number t n) s) ∷ (Refusal.OutOfTurn, no_step (row_of_number t n) s p) ∷ []

abbrev pub placed : Table → ℕ → ℕ → Report → Result (ℕ × Stage) Refusal
placed t n s p = checked (shared t n s p) (slot_of t n, next_stage (row_of_number t n) s p)

abbrev pub ticketed : Table → ℕ → ℕ → ℕ → ℕ × Row
ticketed t n s k = (slot_of t n, reported (row_of_number t n) s Report.Ticket (ticket k))

abbrev pub prepared : Table → ℕ → ℕ → ℕ × Row
prepared t n s = (slot_of t n, reported (row_of_number t n) s Report.Prepared (part_at (row_of_number t n) s).ticket)
