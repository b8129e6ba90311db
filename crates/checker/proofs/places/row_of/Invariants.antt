use Rattle.std.proofs.Common.{◌≡◌, ℕ, ◌<◌}
use Rattle.orders.specs.Entries.{entry_at}
use Rattle.checker.proofs.places.row_of.Given as goal

abbrev pub invariant-loop-i : goal.invariant-loop-i
invariant-loop-i l = (j : ℕ) → j < l.i → (entry_at l.rows j).number ≡ l.n → ⊥
