-- `checker::check` meets its contract: the places from n-index on decide. Assumes nothing.
use Rattle.std.proofs.Common.{◌≡◌, ◌%◌, true, get_or, take, sym, ◌∙◌, add-one, Some, None, arith}
use native.Mathlib.Nat.{mod-eq_of_lt}
use lib.Seq.{take-suc}
use Rattle.orders.specs.Entries.{entries_in}
use Rattle.orders.specs.Good.{goodb}
use Rattle.orders.proofs.GoodLaws.{goodb→good}
use Rattle.orders.proofs.OrderLaws.{no_order_of_length}
use Rattle.arrows.proofs.PlacedLaws.{marked_none, marked_more}
use Rattle.checker.proofs.AnswerLaws.{check_of_bad, check_of_wrong, check_of_right}
use Rattle.checker.proofs.StandLaws.{stand_of_found, stand_end, stand_no, stand_more, order_of_places}
use Rattle.checker.proofs.check.Goals.{Else-not-is_good}
use Rattle.checker.proofs.check.Goals as goal

-- behind the first check
good : (c : Else-not-is_good) → goodb c.args.rows.now ≡ true
good c = sym c.is_good.ensures.answer ∙ c.if-not-is_good.false

pub returns-then-not-is_good : goal.returns-then-not-is_good
returns-then-not-is_good c = let a = c.args in record { answer = sym (check_of_bad a.rows.now a.order.now (sym c.is_good.ensures.answer ∙ c.if-not-is_good.true)) }

pub returns-then-order-rows : goal.returns-then-order-rows
returns-then-order-rows c = let a = c.args in
    let g = good ((goal.at.returns-then-order-rows c).Else-not-is_good) in
    record { answer = sym (check_of_wrong a.rows.now a.order.now g (no_order_of_length a.rows.now a.order.now (λ l. omega (arith, c.if-order-rows.true)))) }

pub loop-n-init : goal.loop-n-init
loop-n-init c = (order_of_places c.args.rows.now c.args.order.now (omega arith), marked_none c.args.rows.now)

pub returns-in_default : goal.returns-in_default
returns-in_default c = let a = c.args in
    let g = good ((goal.at.returns-in_default c).Else-not-is_good) in
    let p = c.loop-n.n-index in
    let stands = stand_of_found a.rows.now c.loop-n.placed (take p a.order.now) c.loop-n.invariant.1 (goodb→good a.rows.now g).apart.numbers (get_or a.order.now p 0) None c.in_default.ensures.answer in
    record { answer = sym (check_of_wrong a.rows.now a.order.now g (c.loop-n.invariant.0 ∙ stand_no (entries_in a.rows.now) a.order.now p c.loop-n-test.true stands)) }

pub may_stand-requires : goal.may_stand-requires
may_stand-requires c = ((goodb→good c.args.rows.now (good ((goal.at.may_stand-requires c).Else-not-is_good))).few, c.in-Some.ensures.answer.0)

pub returns-then-not-may_stand : goal.returns-then-not-may_stand
returns-then-not-may_stand c = let a = c.args in
    let g = good ((goal.at.returns-then-not-may_stand c).Else-not-is_good) in
    let p = c.loop-n.n-index in
    let row = c.in-Some.ensures.answer in
    let stands = stand_of_found a.rows.now c.loop-n.placed (take p a.order.now) c.loop-n.invariant.1 (goodb→good a.rows.now g).apart.numbers (get_or a.order.now p 0) (Some c.in-Some.i) row in
    record {
      answer = sym (check_of_wrong a.rows.now a.order.now g
          (c.loop-n.invariant.0 ∙ stand_no (entries_in a.rows.now) a.order.now p c.loop-n-test.true (stands ∙ sym c.may_stand.ensures.answer ∙ c.if-not-may_stand.true)));
    }

pub loop-n-preserved : goal.loop-n-preserved
loop-n-preserved c = let a = c.args in
    let flat = a.rows.now in
    let good = goodb→good flat (good ((goal.at.loop-n-preserved c).Else-not-is_good)) in
    let p = c.loop-n.n-index in
    let i = c.in-Some.i in
    let before = take p a.order.now in
    let v = c.loop-n.invariant in
    let row = c.in-Some.ensures.answer in
    let stands = stand_of_found flat c.loop-n.placed before v.1 good.apart.numbers (get_or a.order.now p 0) (Some i) row in
    let may = sym c.may_stand.ensures.answer ∙ c.if-not-may_stand.false in
    let small : i % 32 ≡ i = mod-eq_of_lt (omega (arith, good.few, row.0)) in
    let word = rw small at c.with-placed.ensures.answer in
    let m = rw row.1 at (marked_more flat c.loop-n.placed before v.1 good.apart.numbers i row.0) in (
      v.0 ∙ stand_more (entries_in flat) a.order.now p c.loop-n-test.true (stands ∙ may),
      rw (word, add-one p, take-suc a.order.now p 0 c.loop-n-test.true) m,
    )

pub returns : goal.returns
returns c = let a = c.args in
    let g = good ((goal.at.returns c).Else-not-is_good) in
    record { answer = sym (check_of_right a.rows.now a.order.now g (c.loop-n.invariant.0 ∙ stand_end (entries_in a.rows.now) a.order.now c.loop-n.n-index c.loop-n-test.false)) }
