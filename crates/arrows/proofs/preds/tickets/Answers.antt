-- `arrows::preds::tickets` meets its contract: the eight entries of a whole row behind its number. Assumes nothing.
use Rattle.std.proofs.Common.{◌≡◌, ◌+◌, ◌-◌, ◌*◌, ◌∙◌, arith}
use Rattle.orders.specs.Entries.{entry_at}
use Rattle.arrows.proofs.preds.tickets.Goals as goal

pub returns : goal.returns
unfolding entry_at
returns c =
    let e : 9 * c.args.i + 1 + 8 - (9 * c.args.i + 1) ≡ 8 = omega arith in
    let read = rw c.unwrap.ensures at c.try_from.ensures.1 in
    record { answer = read.same ∙ rw e }
