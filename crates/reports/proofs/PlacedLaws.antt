-- What the place of a report says of the checks that both reports begin with. Assumes nothing.
use mathlib.Core.Path.{◌≡◌, ap}
use mathlib.Core.List.{List, ◌++◌}
use mathlib.Core.Bool.{Bool}
use Prim.Native.Nat.{ℕ}
use Rattle.std.specs.Prelude.{Ok, Err}
use Rattle.refusals.specs.declared.Refusal.{Refusal}
use Rattle.method.specs.declared.Stage.{Stage}
use Rattle.method.specs.declared.Report.{Report}
use Rattle.method.specs.declared.Table.{Table}
use Rattle.method.specs.Slots.{slot_of, row_of_number}
use Rattle.method.specs.Calls.{checked}
use Rattle.method.proofs.CheckLaws.{stops, goes_on}
use Rattle.stages.specs.Place.{next_stage}
use Rattle.reports.specs.Reported.{shared, placed}

module _ (t : Table) (n s : ℕ) (p : Report) (rest : List (Refusal × Bool)) {A : Type 0} (a : A) where
  abbrev found : ℕ × Stage
  found = (slot_of t n, next_stage (row_of_number t n) s p)

  pub place_stops : {k : Refusal} → placed t n s p ≡ Err k → checked (shared t n s p ++ rest) a ≡ Err k
  place_stops e = stops (shared t n s p) rest found a e

  pub place_goes_on : {i : ℕ} {g : Stage} → placed t n s p ≡ Ok (i, g)
      → (checked (shared t n s p ++ rest) a ≡ checked rest a) × (i ≡ slot_of t n) × (g ≡ next_stage (row_of_number t n) s p)
  place_goes_on {i} {g} e =
      let w : ℕ × Stage = (i, g) in
      let (on, v) = goes_on (shared t n s p) rest found a {v = w} e in
      (on, ap (λ (x : ℕ × Stage). x.0) v, ap (λ (x : ℕ × Stage). x.1) v)
