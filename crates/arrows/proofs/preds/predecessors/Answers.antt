-- `arrows::preds::predecessors` meets its contract: after i turns the first i rows have met. Assumes nothing.
use Rattle.std.proofs.Common.{◌≡◌, arith}
use Rattle.arrows.specs.Preds.{worded}
use Rattle.arrows.proofs.PredsLaws.{joined_none, preds_of_joined}
use Rattle.arrows.proofs.preds.predecessors.Goals as goal

pub loop-i-init : goal.loop-i-init
loop-i-init c = joined_none c.args.rows.now

pub returns : goal.returns
returns c =
    let flat = c.args.rows.now in
    let e : c.loop-i.i ≡ worded flat = omega (arith, c.loop-i.auto.i-end, c.loop-i-test.false, c.min-n.ensures) in
    record { answer = preds_of_joined flat c.loop-i.preds (rw e at c.loop-i.invariant) }
