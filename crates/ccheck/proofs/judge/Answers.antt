-- `ccheck::judge` meets its contract. Assumes nothing.
use mathlib.Core.Path.{ap, ◌∙◌}
use native.Mathlib.Omega.{arith}
use lib.ListN.{replicate}
use Rattle.endian.proofs.WordsLaws.{words_of_stored}
use Rattle.orders.specs.Order.{check_result}
use Rattle.ccheck.proofs.CallLaws.{result_of_many, result_of_check}
use Rattle.ccheck.proofs.judge.Goals as goal

pub returns-then-order-gt128 : goal.returns-then-order-gt128
returns-then-order-gt128 c = let a = c.args in record { answer = c.bad_or_no-then-order-gt128.ensures.answer ∙ result_of_many a.rows.now a.order.now (omega arith) (omega arith) }

pub returns : goal.returns
returns c = let a = c.args in
    let w = words_of_stored (replicate 32 0) _ a.order.now c.get_words.ensures.buffer (omega arith) in record { answer = c.number_of.ensures.answer ∙ result_of_check a.rows.now a.order.now (omega arith) c.check-answer.result (c.check-answer.ensures.answer ∙ ap (check_result a.rows.now) w) }
