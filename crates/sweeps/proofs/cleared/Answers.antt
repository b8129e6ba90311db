-- `sweeps::cleared` meets its contract: after i turns the first i rows are as they will be, and those that went are counted.
-- Assumes nothing.
use mathlib.Core.Path.{refl, sym, ◌∙◌}
use Prim.Native.Nat.{◌+◌, ◌≤◌}
use native.Mathlib.Omega.{arith}
use borrow.Author.Rules.{rules}
use Rattle.method.specs.Records.{past_end, with_rows}
use Rattle.method.proofs.SearchLaws.{unmapped}
use Rattle.sweeps.proofs.SweepLaws.{row_now, row_goes, row_stays, gone_few, swept_all}
use Rattle.sweeps.proofs.cleared.Goals.{then-goes, else-goes}
use Rattle.sweeps.proofs.cleared.Goals as goal

pub loop-i-init : goal.loop-i-init
loop-i-init c = (search (rules, unmapped), c.requires, refl, refl)

pub overflow_add-n : goal.overflow_add-n
overflow_add-n c =
    let few = gone_few c.args.t c.loop-i.i c.loop-i.invariant.0 c.loop-i-test.true in
    let n : c.loop-i.n + 1 ≤ 32 = omega (arith, few, c.loop-i.invariant.3) in
    omega arith

pub loop-i-preserved : goal.loop-i-preserved
loop-i-preserved c = let t = c.args.t in
    let marks = c.args.stay in
    let i = c.loop-i.i in
    let v = c.loop-i.invariant in
    elim c.if-goes.branch [
      | then-goes w ↦
          let g = row_goes t i v.0 c.loop-i-test.true marks v.1 (rw (← row_now t i past_end, ← v.2) (sym c.goes.ensures.answer ∙ w.if-goes.true)) in
          (v.0, v.1, rw (w.row-items-is, v.2, w.free_row.ensures.answer) g.0, rw (w.n-is, v.3) g.1)
      | else-goes w ↦
          let g = row_stays t i v.0 c.loop-i-test.true marks v.1 (rw (← row_now t i past_end, ← v.2) (sym c.goes.ensures.answer ∙ w.if-goes.false)) in
          (v.0, v.1, rw (w.row-items-is, v.2) g.0, rw (w.n-is, v.3) g.1)
    ]

pub returns : goal.returns
returns c = let t = c.args.t in
    let v = c.loop-i.invariant in
    record { answer = swept_all t (with_rows t c.loop-i.row-items) c.loop-i.n c.loop-i.i v.0 c.loop-i-test.false (rw v.2) v.3 }
