-- `good::entries::tickets_at` meets its contract: the eight entries of a whole row behind its number. Assumes nothing.
use Rattle.std.proofs.Common.{◌≡◌, ◌+◌, ◌-◌, ◌*◌, ◌/◌, length, ◌∙◌, arith}
use borrow.Author.Tests.{lt-ltb}
use Rattle.orders.specs.Entries.{entry_at}
use Rattle.good.proofs.entries.tickets_at.Goals as goal

pub returns-then-i-rows : goal.returns-then-i-rows
unfolding entry_at
returns-then-i-rows c = let a = c.args in
    let e : 9 * a.i + 1 + 8 - (9 * a.i + 1) ≡ 8 = omega arith in
    let read = rw c.unwrap.ensures at c.try_from.ensures.1 in
    record { answer = read.same ∙ rw (lt-ltb a.i (length a.rows.now / 9) c.if-i-rows.true, e) }
