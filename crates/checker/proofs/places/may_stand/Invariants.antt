use Rattle.std.proofs.Common.{◌≡◌, ℕ, ◌<◌, false}
use Rattle.arrows.specs.Placed.{waits}
use Rattle.checker.proofs.places.may_stand.Given as goal

abbrev pub invariant-loop-j : goal.invariant-loop-j
invariant-loop-j l = (k : ℕ) → k < l.j → waits l.rows l.placed l.i k ≡ false
