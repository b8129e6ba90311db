-- `openings::may_open` meets its contract. Assumes nothing.
use borrow.Author.Rules.{rules}
use Rattle.method.specs.Calls.{checks}
use Rattle.openings.proofs.may_open.Goals as goal

pub returns-then-t-ne0-clause-answer : goal.returns-then-t-ne0-clause-answer
unfolding checks
returns-then-t-ne0-clause-answer c = search rules

pub returns-then-is_bad_opening-clause-answer : goal.returns-then-is_bad_opening-clause-answer
unfolding checks
returns-then-is_bad_opening-clause-answer c = search rules

pub returns-clause-answer : goal.returns-clause-answer
unfolding checks
returns-clause-answer c = search rules
