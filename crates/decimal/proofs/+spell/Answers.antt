-- `decimal::spell` meets its contract: the last digit is stored, and those before it go into what stands before. Assumes nothing.
use Rattle.std.proofs.Common.{◌≡◌, ◌∙◌, sym, ap, List, ◌++◌, ℕ, ◌/◌, length, ◌+◌, ◌-◌, ◌%◌, arith}
use Rattle.decimal.specs.Decimal.{decimal}
use Rattle.decimal.proofs.DecimalLaws.{decimal_of_small, decimal_of_more, length_decimal_small, length_decimal_more, length_decimal_pos}
use Rattle.decimal.proofs.WrittenLaws.{length_front, last_of_set}
use Rattle.decimal.proofs.+spell.Goals as goal

pub overflow_sub-last : goal.overflow_sub-last
overflow_sub-last t c = omega (arith, c.requires, length_decimal_pos c.args.x)

pub bounds-out-last : goal.bounds-out-last
bounds-out-last t c = omega (arith, c.requires, length_decimal_pos c.args.x)

pub spell-requires : goal.spell-requires
spell-requires t c =
    let x = c.args.x in
    (omega arith, length_front c.args.out.now _ _ (omega (arith, c.requires, length_decimal_more x (omega arith))))

pub returns-then-x-ge10 : goal.returns-then-x-ge10
returns-then-x-ge10 t c =
    let x = c.args.x in
    let long : length c.args.out.now - 1 + 1 ≡ length c.args.out.now = omega (arith, c.requires, length_decimal_pos x) in
    record { buffer = rw c.spell.ensures.buffer (ap (λ (r : List ℕ). decimal (x / 10) ++ r) (last_of_set c.args.out.now _ _ long) ∙ sym (decimal_of_more x (omega arith))) }

pub returns-else-x-ge10 : goal.returns-else-x-ge10
returns-else-x-ge10 t c =
    let a = c.args in
    let one : length a.out.now ≡ 1 = omega (arith, c.requires, length_decimal_small a.x (omega arith)) in
    let first : length a.out.now - 1 ≡ 0 = omega (arith, one) in
    let digit : a.x % 10 ≡ a.x = omega arith in
    record { buffer = rw (first, digit) (last_of_set a.out.now 0 (48 + a.x) (omega (arith, one)) ∙ sym (decimal_of_small a.x (omega arith))) }
