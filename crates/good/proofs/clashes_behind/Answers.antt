-- `good::clashes_behind` meets its contract: what is found behind row i is what is found from row j on. Assumes nothing.
use Rattle.std.proofs.Common.{◌≡◌, ◌/◌, Bool, length, sym, ◌∙◌}
use borrow.Author.Tests.{lt-ltb}
use Rattle.orders.specs.Entries.{entry_at}
use Rattle.orders.specs.Good.{clash}
use Rattle.orders.proofs.WalkLaws.{any_row_hit, any_row_skip, any_row_end}
use Rattle.good.proofs.clashes_behind.Goals.{At-loop-j}
use Rattle.good.proofs.clashes_behind.Goals as goal

-- row i against row j, found by what was read of row i
clash_of : (c : At-loop-j) (b : Bool) → b ≡ clash (record { number = c.number_at-number.result; tickets = c.tickets_at-own.result }) (entry_at c.args.rows.now c.loop-j.j)
    → clash (entry_at c.args.rows.now c.args.i) (entry_at c.args.rows.now c.loop-j.j) ≡ b
clash_of c b e =
    let own : c.tickets_at-own.result ≡ (entry_at c.args.rows.now c.args.i).tickets = c.tickets_at-own.ensures.answer ∙ rw (lt-ltb c.args.i (length c.args.rows.now / 9) c.requires) in
    sym (e ∙ rw (c.number_at-number.ensures.answer, own))

pub returns-then-clashes : goal.returns-then-clashes
returns-then-clashes c = let a = c.args in
    let f = clash (entry_at a.rows.now a.i) in record { answer = sym (c.loop-j.invariant ∙ any_row_hit a.rows.now c.loop-j.j _ f c.loop-j-test.true (clash_of ((goal.at.returns-then-clashes c).At-loop-j) c.clashes.result c.clashes.ensures.answer ∙ c.if-clashes.true)) }

pub loop-j-preserved : goal.loop-j-preserved
loop-j-preserved c = let a = c.args in
    let f = clash (entry_at a.rows.now a.i) in
    c.loop-j.invariant ∙ any_row_skip a.rows.now c.loop-j.j _ f c.loop-j-test.true (clash_of ((goal.at.loop-j-preserved c).At-loop-j) c.clashes.result c.clashes.ensures.answer ∙ c.if-clashes.false)

pub returns : goal.returns
returns c = let a = c.args in
    let f = clash (entry_at a.rows.now a.i) in record { answer = sym (c.loop-j.invariant ∙ any_row_end a.rows.now c.loop-j.j _ f c.loop-j-test.false) }
