-- `good::is_good` meets its contract: the rows from row i on decide. Assumes nothing.
use Rattle.std.proofs.Common.{sym, ◌∙◌, arith}
use Rattle.good.proofs.ScanLaws.{bad_of_part, bad_of_many, good_of_rest, rest_end, rest_of_unnamed, rest_of_clash, rest_of_more}
use Rattle.good.proofs.is_good.Goals as goal

pub returns-then-rows-ne0 : goal.returns-then-rows-ne0
returns-then-rows-ne0 c = record { answer = sym (bad_of_part c.args.rows.now (λ e. omega (arith, c.if-rows-ne0.true))) }

pub returns-then-rows-gt288 : goal.returns-then-rows-gt288
returns-then-rows-gt288 c = record { answer = sym (bad_of_many c.args.rows.now (omega arith)) }

pub loop-i-init : goal.loop-i-init
loop-i-init c = good_of_rest c.args.rows.now (omega arith) (omega arith)

pub returns-then-number_at-eq0 : goal.returns-then-number_at-eq0
returns-then-number_at-eq0 c = record { answer = sym (c.loop-i.invariant ∙ rest_of_unnamed c.args.rows.now c.loop-i.i _ c.loop-i-test.true (sym c.number_at.ensures.answer ∙ c.if-number_at-eq0.true)) }

pub returns-then-clashes_behind : goal.returns-then-clashes_behind
returns-then-clashes_behind c = record { answer = sym (c.loop-i.invariant ∙ rest_of_clash c.args.rows.now c.loop-i.i _ c.loop-i-test.true (sym c.clashes_behind.ensures.answer ∙ c.if-clashes_behind.true)) }

pub loop-i-preserved : goal.loop-i-preserved
loop-i-preserved c = c.loop-i.invariant ∙ rest_of_more c.args.rows.now c.loop-i.i _ c.loop-i-test.true
    (λ z. c.if-number_at-eq0.false (c.number_at.ensures.answer ∙ z)) (sym c.clashes_behind.ensures.answer ∙ c.if-clashes_behind.false)

pub returns : goal.returns
returns c = record { answer = sym (c.loop-i.invariant ∙ rest_end c.args.rows.now c.loop-i.i _ c.loop-i-test.false) }
