-- `writer::write` meets its contract: the checks in their sequence, then the order over the part that is lent on. Assumes nothing.
use Rattle.std.proofs.Common.{rules, ◌≡◌, ◌+◌, ◌/◌, ◌≤◌, length, sym, ◌∙◌, arith, true, Err}
use lib.Seq.{length-take-le}
use borrow.Author.Tests.{leb-true, leb-false}
use Rattle.endian.proofs.PartLaws.{part_is, part_put, laid_of_part}
use Rattle.orders.specs.Good.{goodb}
use Rattle.orders.proofs.GoodLaws.{goodb→good}
use Rattle.writer.proofs.WriterLaws.{leaves_bad, leaves_no_room, leaves_no_order, leaves_numbers, refused_of_picked, numbers_of_picked}
use Rattle.writer.proofs.write.Goals.{Else-not-is_good, Else-not-has_room}
use Rattle.writer.proofs.write.Goals as goal

-- behind the first check, and behind the second
good : (c : Else-not-is_good) → goodb c.args.rows.now ≡ true
good c = sym c.is_good.ensures.answer ∙ c.if-not-is_good.false

room : (c : Else-not-has_room) → c.args.place + length c.args.rows.now / 9 ≤ length c.args.out.now
room c = leb-true _ _ (sym c.has_room.ensures.answer ∙ c.if-not-has_room.false)

pub returns-then-not-is_good : goal.returns-then-not-is_good
returns-then-not-is_good c = let a = c.args in
    let r = leaves_bad a.rows.now a.place a.out.now (sym c.is_good.ensures.answer ∙ c.if-not-is_good.true) in
    record { answer = r.0; buffer = r.1 }

pub returns-then-not-has_room : goal.returns-then-not-has_room
returns-then-not-has_room c = let a = c.args in
    let full = leb-false (a.place + length a.rows.now / 9) (length a.out.now) (sym c.has_room.ensures.answer ∙ c.if-not-has_room.true) in
    let r = leaves_no_room a.rows.now a.place a.out.now (good ((goal.at.returns-then-not-has_room c).Else-not-is_good)) full in
    record { answer = r.0; buffer = r.1 }

pub pick-requires : goal.pick-requires
pick-requires c = goodb→good _ (good ((goal.at.pick-requires c).Else-not-is_good))

pub returns-in_err-numbers : goal.returns-in_err-numbers
returns-in_err-numbers c = let a = c.args in
    let (cyclic, e) = refused_of_picked a.rows.now c.pick.result c.pick.ensures.answer c.in_err-numbers.field-0.0 (sym c.ok_or.ensures.value ∙ c.in_err-numbers.was) in
    let f : c.from_residual.result ≡ Err c.in_err-numbers.field-0.0 = search rules in
    let r = leaves_no_order a.rows.now a.place a.out.now (good ((goal.at.returns-in_err-numbers c).Else-not-is_good)) (room ((goal.at.returns-in_err-numbers c).Else-not-has_room)) cyclic in
    record { answer = rw (f, e) r.0; buffer = r.1 }

pub slice_bounds-numbers-end : goal.slice_bounds-numbers-end
slice_bounds-numbers-end c =
    let g = goodb→good _ (good ((goal.at.slice_bounds-numbers-end c).Else-not-is_good)) in
    let p = numbers_of_picked c.args.rows.now c.pick.result c.pick.ensures.answer c.in_ok-numbers.numbers (sym c.ok_or.ensures.value ∙ c.in_ok-numbers.was) in
    omega (arith, p.0, g.few)

pub slice_bounds-lay-end-2 : goal.slice_bounds-lay-end-2
slice_bounds-lay-end-2 c =
    let g = goodb→good _ (good ((goal.at.slice_bounds-lay-end-2 c).Else-not-is_good)) in
    let p = numbers_of_picked c.args.rows.now c.pick.result c.pick.ensures.answer c.in_ok-numbers.numbers (sym c.ok_or.ensures.value ∙ c.in_ok-numbers.was) in
    sym (length-take-le (length c.args.rows.now / 9) c.in_ok-numbers.numbers (omega (arith, p.0, g.few)))

pub returns : goal.returns
returns c = let a = c.args in
    let l = a.out.now in
    let fits = room ((goal.at.returns c).Else-not-has_room) in
    let h : a.place ≤ length l = omega (arith, fits) in
    let p = numbers_of_picked a.rows.now c.pick.result c.pick.ensures.answer c.in_ok-numbers.numbers (sym c.ok_or.ensures.value ∙ c.in_ok-numbers.was) in
    let r = leaves_numbers a.rows.now a.place l (good ((goal.at.returns c).Else-not-is_good)) fits p.1 c.in_ok-numbers.numbers p.0 p.2 in
    record {
      answer = r.0;
      buffer = part_put l a.place h c.lay.new.out ∙ rw (c.lay.ensures.buffer, part_is l a.place h, laid_of_part l a.place h) r.1;
    }
