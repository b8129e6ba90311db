-- `ccheck::order_check` meets its contract: the rows stand as numbers in the front of the local array. Assumes nothing.
use mathlib.Core.Path.{sym, ap, ◌∙◌}
use native.Mathlib.Omega.{arith}
use lib.ListN.{replicate}
use Rattle.endian.proofs.WordsLaws.{words_of_stored}
use Rattle.ccheck.specs.Answer.{byte_result}
use Rattle.ccheck.proofs.CallLaws.{call_of_part, call_of_many, call_of_rows}
use Rattle.ccheck.proofs.order_check.Goals as goal

pub returns-then-rows-ne0 : goal.returns-then-rows-ne0
returns-then-rows-ne0 c = let a = c.args in record { answer = sym (call_of_part a.rows.now a.order.now (λ e. omega (arith, c.if-rows-ne0.true))) }

pub returns-then-rows-gt1152 : goal.returns-then-rows-gt1152
returns-then-rows-gt1152 c = let a = c.args in record { answer = sym (call_of_many a.rows.now a.order.now (omega arith)) }

pub returns : goal.returns
returns c = let a = c.args in
    let w = words_of_stored (replicate 288 0) _ a.rows.now c.get_words.ensures.buffer (omega arith) in record { answer = c.judge.ensures.answer ∙ ap (λ t. byte_result t a.order.now) w ∙ sym (call_of_rows a.rows.now a.order.now (omega arith) (omega arith)) }
