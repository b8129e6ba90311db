-- `arrows::preds::join` meets its contract: after j turns row i and the first j rows have met, both ways. Assumes nothing.
use Rattle.std.proofs.Common.{◌≡◌, ◌%◌, ◌<◌, sym, ap, ◌∙◌, arith}
use mathlib.Core.Bool.{cond}
use lib.ListN.{get_or, set}
use native.Mathlib.Nat.{mod-eq_of_lt}
use Rattle.words.specs.Word.{with}
use Rattle.arrows.specs.Preds.{leads}
use Rattle.arrows.proofs.PredsLaws.{joining_none, joining_more, joined_more}
use Rattle.arrows.proofs.preds.join.Goals.{then-goes_before, else-goes_before, then-goes_before-2, else-goes_before-2}
use Rattle.arrows.proofs.preds.join.Goals as goal

pub loop-j-init : goal.loop-j-init
loop-j-init c = joining_none c.args.rows.now c.args.i c.requires.bounds.1 c.args.preds.now c.requires.joined

pub loop-j-preserved : goal.loop-j-preserved
loop-j-preserved c =
    let flat = c.args.rows.now in
    let i = c.args.i in
    let j = c.loop-j.j in
    let mine = c.loop-j.mine in
    let preds = c.loop-j.preds in
    let before : j < i = c.loop-j-test.true in
    let small_i : i % 32 ≡ i = mod-eq_of_lt c.requires.bounds.1 in
    let small_j : j % 32 ≡ j = mod-eq_of_lt (omega (arith, before, c.requires.bounds.1)) in
    let own = c.tickets-own.ensures.answer in
    let other = c.tickets-other.ensures.answer in
    let to : c.goes_before.result ≡ leads flat i j = c.goes_before.ensures.answer ∙ rw (other, own) in
    let from : c.goes_before-in-loop-j.result ≡ leads flat j i = c.goes_before-in-loop-j.ensures.answer ∙ rw (other, own) in
    let mine_is : c.if-goes_before.mine ≡ cond (leads flat i j) (with mine j) mine =
    elim c.if-goes_before.branch [
      | then-goes_before w ↦ rw (sym to ∙ w.if-goes_before.true) (w.mine-is ∙ rw small_j at w.with-mine.ensures.answer)
      | else-goes_before w ↦ rw (sym to ∙ w.if-goes_before.false) w.mine-is
    ] in
    let preds_is : c.if-goes_before-2.preds ≡ cond (leads flat j i) (set preds j (with (get_or preds j 0) i)) preds =
    elim c.if-goes_before-2.branch [
      | then-goes_before-2 w ↦ rw (sym from ∙ w.if-goes_before-2.true) (w.preds-is ∙ ap (set preds j) (rw small_i at w.with.ensures.answer))
      | else-goes_before-2 w ↦ rw (sym from ∙ w.if-goes_before-2.false) w.preds-is
    ] in
    rw (mine_is, preds_is) (joining_more flat i c.requires.bounds.1 j mine preds c.loop-j.invariant before)

pub returns : goal.returns
returns c =
    let a = c.args in
    let e : c.loop-j.j ≡ a.i = omega (arith, c.loop-j.auto.j-end, c.loop-j-test.false) in
    record { joined = joined_more a.rows.now a.i c.requires.bounds.1 c.loop-j.mine c.loop-j.preds (rw e at c.loop-j.invariant) }
