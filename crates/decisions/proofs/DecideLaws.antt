-- What the graph says of a decision that nothing refuses. Assumes nothing.
use mathlib.Core.Path.{◌≡◌, sym, ap, ◌∙◌}
use mathlib.Core.Bool.{Bool, true, false, not}
use mathlib.Core.List.{List, ◌∷◌, map}
use Prim.Native.Nat.{ℕ, ◌<◌}
use lib.ListN.{length}
use Rattle.graph.specs.Acyclic.{acyclic}
use Rattle.std.specs.Prelude.{Some}
use Rattle.orders.specs.Arrow.{Tickets, arrowb}
use Rattle.paths.specs.Paths.{TellsCycle}
use Rattle.paths.proofs.SlottedLaws.{acyclic_of_answer}
use Rattle.method.specs.declared.Table.{Table}
use Rattle.method.specs.Records.{row_at, tickets_of}
use Rattle.method.specs.Slots.{slot_of, kept}
use Rattle.method.specs.Calls.Call.{decide}
use Rattle.method.specs.Effects.{decided, effect}
use Rattle.kept.specs.Aligned.{Aligned}
use Rattle.kept.proofs.AlignedLaws.{In, slotted_with}
use Rattle.decisions.specs.Ways.{committing, cancelling}

module _ (t : Table) (l : length t.rows ≡ 32) (n i : ℕ) (slot : i ≡ slot_of t n) (inside : i < 32) (slots : List Tickets) (al : Aligned t (Some i) slots) (b : Bool) (tells : TellsCycle slots b) where
  verdict : acyclic arrowb (tickets_of (row_at t i) ∷ map tickets_of (kept t)) ≡ not b
  verdict = acyclic_of_answer tickets_of (row_at t i ∷ kept t) (In t (Some i)) slots (slotted_with t l i inside slots al) b tells

  goes : effect t (decide n) ≡ decided t n (not b)
  unfolding effect
  goes = ap (decided t n) (rw slot at verdict)

  pub cycle_effect : b ≡ true → effect t (decide n) ≡ cancelling t i n
  unfolding decided
  cycle_effect e = goes ∙ rw (e, sym slot)

  pub commit_effect : b ≡ false → effect t (decide n) ≡ committing t i n
  unfolding decided
  commit_effect e = goes ∙ rw (e, sym slot)
