use mathlib.Core.Path.{◌≡◌}
use Prim.Native.Nat.{◌-◌}
use lib.ListN.{length}
use Rattle.turns.proofs.TurnLaws.{Going}
use Rattle.turns.proofs.take_turn.Given as goal

abbrev pub invariant-loop-out : goal.invariant-loop-out
invariant-loop-out l = (length l.out ≡ length l.initial.out) × Going l.last l.initial.table.held l.input l.initial.out l.table.held l.used l.out l.written

abbrev pub decreases-loop-out : goal.decreases-loop-out
decreases-loop-out l = length l.input - l.used
