-- `decimal::digit_count` meets its contract, as the number falls from call to call. Assumes nothing.
use native.Mathlib.Omega.{arith}
use Rattle.decimal.proofs.DecimalLaws.{length_decimal_small, length_decimal_more, length_decimal_32}
use Rattle.decimal.proofs.+digit_count.Goals as goal

pub returns-then-x-lt10 : goal.returns-then-x-lt10
returns-then-x-lt10 t c = record { count = omega (arith, length_decimal_small c.args.x (omega arith)); few = omega arith }

pub returns-else-x-lt10 : goal.returns-else-x-lt10
returns-else-x-lt10 t c =
    let x = c.args.x in
    let more = length_decimal_more x (omega arith) in record { count = omega (arith, more, c.digit_count.ensures.count); few = omega (arith, more, c.digit_count.ensures.count, length_decimal_32 x (omega arith)) }
