use Rattle.orders.proofs.WalkLaws.{arrow_more}
use Rattle.orders.proofs.arrow.goes_before.Goals as goal

pub loop-s-preserved : goal.loop-s-preserved
loop-s-preserved c = rw (c.loop-s.invariant, arrow_more c.args.a.now c.args.b.now c.loop-s.s)
