-- `arrows::goes_before` meets its contract. Assumes nothing.
use Rattle.std.proofs.Common.{sym, ◌∙◌}
use Rattle.arrows.proofs.PastLaws.{no_arrow_of_past, no_arrow_to_past, same_arrow}
use Rattle.arrows.proofs.goes_before.Goals as goal

pub returns-then-n-a : goal.returns-then-n-a
returns-then-n-a c = let a = c.args in record { answer = sym (no_arrow_of_past a.rows.now a.a a.b c.if-n-a.true) }

pub returns-then-n-b : goal.returns-then-n-b
returns-then-n-b c = let a = c.args in record { answer = sym (no_arrow_to_past a.rows.now a.a a.b c.if-n-b.true) }

pub returns : goal.returns
returns c = record { answer = c.goes_before.ensures.answer ∙ same_arrow _ _ _ _ c.tickets_of.ensures.answer c.tickets_of-2.ensures.answer }
