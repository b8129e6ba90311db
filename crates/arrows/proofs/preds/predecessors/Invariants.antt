use Rattle.arrows.specs.Preds.{Joined}
use Rattle.arrows.proofs.preds.predecessors.Given as goal

abbrev pub invariant-loop-i : goal.invariant-loop-i
invariant-loop-i l = Joined l.rows l.i l.preds
