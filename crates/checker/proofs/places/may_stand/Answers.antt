-- `checker::places::may_stand` meets its contract: row i waits for none of the first j rows. Assumes nothing.
use Rattle.std.proofs.Common.{◌≡◌, ◌/◌, ◌%◌, ◌<◌, true, false, length, sym, ap, ◌∙◌, arith}
use Rattle.std.specs.Prelude.{not}
use native.Mathlib.Nat.{mod-eq_of_lt}
use Rattle.words.specs.Word.{has as has_of}
use Rattle.words.proofs.BelowLaws.{any_below_hit, any_below_none}
use Rattle.arrows.specs.Placed.{waits}
use Rattle.arrows.proofs.PlacedLaws.{not_may_of_marked, may_of_unmarked}
use Rattle.checker.proofs.places.may_stand.Goals.{Else-has}
use Rattle.checker.proofs.places.may_stand.Goals as goal

-- row i is not placed
unmarked : (c : Else-has) → has_of c.args.placed c.args.i ≡ false
unmarked c =
    let small : c.args.i < 32 = omega arith in
    let e : has_of c.args.placed (c.args.i % 32) ≡ false = sym c.has.ensures.answer ∙ c.if-has.false in
    rw (mod-eq_of_lt small) at e

pub returns-then-has : goal.returns-then-has
returns-then-has c = let a = c.args in
    let small : a.i < 32 = omega arith in
    let e : has_of a.placed (a.i % 32) ≡ true = sym c.has.ensures.answer ∙ c.if-has.true in
    record { answer = sym (not_may_of_marked a.rows.now a.placed a.i (rw (mod-eq_of_lt small) at e)) }

pub returns-then-holds_up : goal.returns-then-holds_up
returns-then-holds_up c = let a = c.args in
    let e = any_below_hit (waits a.rows.now a.placed a.i) (length a.rows.now / 9) c.loop-j.j c.loop-j-test.true (sym c.holds_up.ensures.answer ∙ c.if-holds_up.true) in
    record { answer = sym (may_of_unmarked a.rows.now a.placed a.i (unmarked ((goal.at.returns-then-holds_up c).Else-has)) ∙ ap not e) }

pub returns : goal.returns
returns c = let a = c.args in
    let e = any_below_none (waits a.rows.now a.placed a.i) (length a.rows.now / 9) (λ k h. c.loop-j.invariant k (omega (arith, c.loop-j-test.false))) in
    record { answer = sym (may_of_unmarked a.rows.now a.placed a.i (unmarked ((goal.at.returns c).Else-has)) ∙ ap not e) }
