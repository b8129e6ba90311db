use Rattle.arrows.specs.Preds.{Joining}
use Rattle.arrows.proofs.preds.join.Given as goal

abbrev pub invariant-loop-j : goal.invariant-loop-j
invariant-loop-j l = Joining l.rows l.i l.j l.mine l.preds
