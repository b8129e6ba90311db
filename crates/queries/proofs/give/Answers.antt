-- `queries::give` meets its contract: whatever the writer answered to the kept rows, that is said. Assumes nothing.
use Rattle.method.specs.Slots.{kept_flat}
use Rattle.queries.proofs.AnswerLaws.{order_said, open_spoken}
use Rattle.queries.proofs.give.Goals as goal

pub returns : goal.returns
returns c = let t = c.args.t.now.held in
    let e = c.write_kept.ensures in
    let o = order_said (kept_flat t) e.few c.write_kept.result _ e.answer e.buffer in
    record { answer = open_spoken t _ _ _ c.if_open.ensures.answer (rw c.written-said.ensures.answer o) }
