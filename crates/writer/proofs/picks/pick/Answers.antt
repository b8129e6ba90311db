-- `writer::picks::pick` meets its contract: after k turns k numbers of the order are picked. Assumes nothing.
use Rattle.std.proofs.Common.{◌≡◌, ◌/◌, ◌%◌, ◌≤◌, length, refl, sym, ◌∙◌, arith, Some, None}
use native.Mathlib.Nat.{mod-eq_of_lt}
use lib.ListN.{length-set}
use borrow.Author.Tests.{eq-eqb, ne_eqb}
use Rattle.writer.specs.Next.{next_of}
use Rattle.writer.proofs.PlacingLaws.{placing_none, placing_row, placing_more, order_of_stuck, order_of_all}
use Rattle.writer.proofs.WriterLaws.{acyclic_of_count}
use Rattle.writer.proofs.picks.pick.Goals as goal

pub loop-k-init : goal.loop-k-init
loop-k-init c = (refl, placing_none c.args.rows.now _)

pub returns-in_err-j : goal.returns-in_err-j
returns-in_err-j c =
    let flat = c.args.rows.now in
    let v = c.loop-k.invariant in
    let k = c.loop-k.k in
    let g = c.requires in
    let stuck : None ≡ next_of flat c.loop-k.placed = sym c.in_err-j.was ∙ c.next_row.ensures.answer in
    let order = order_of_stuck flat c.loop-k.numbers c.loop-k.placed k v.1 stuck in
    let short = acyclic_of_count flat g c.loop-k.numbers k v.0 (omega (arith, g.few, c.loop-k-test.true)) order
    ∙ ne_eqb k (length flat / 9) (λ e. omega (arith, c.loop-k-test.true)) in
    record { answer = rw c.from_residual.ensures short }

pub loop-k-preserved : goal.loop-k-preserved
loop-k-preserved c =
    let flat = c.args.rows.now in
    let v = c.loop-k.invariant in
    let g = c.requires in
    let j = c.in_ok-j.j in
    let next : Some j ≡ next_of flat c.loop-k.placed = sym c.in_ok-j.was ∙ c.next_row.ensures.answer in
    let wide : length flat / 9 ≤ length c.loop-k.numbers = omega (arith, v.0, g.few) in
    let row = placing_row flat c.loop-k.numbers c.loop-k.placed c.loop-k.k v.1 g.apart.numbers c.loop-k-test.true wide j next in
    let small : j % 32 ≡ j = mod-eq_of_lt (omega (arith, row, g.few)) in
    let word = rw small at c.with-placed.ensures.answer in (
      simp length-set v.0,
      rw (c.number_at.ensures.answer, word) (placing_more flat c.loop-k.numbers c.loop-k.placed c.loop-k.k v.1 g.apart.numbers c.loop-k-test.true wide j next),
    )

pub returns : goal.returns
returns c =
    let flat = c.args.rows.now in
    let v = c.loop-k.invariant in
    let k = c.loop-k.k in
    let all : k ≡ length flat / 9 = omega (arith, c.loop-k.auto.k-end, c.loop-k-test.false) in
    let order = order_of_all flat c.loop-k.numbers c.loop-k.placed k v.1 (omega (arith, all)) in
    let full = acyclic_of_count flat c.requires c.loop-k.numbers k v.0 (omega (arith, all, c.requires.few)) order ∙ eq-eqb k (length flat / 9) all in
    record { answer = (v.0, full, rw all at order) }
