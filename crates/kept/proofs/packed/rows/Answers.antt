-- `kept::packed::rows` meets its contract: what is packed of all rows is what a table keeps. Assumes nothing.
use Rattle.method.specs.Slots.{kept}
use Rattle.kept.specs.Packed.{packed_of}
use Rattle.kept.proofs.packed.rows.Goals as goal

pub returns-clause-answer : goal.returns-clause-answer
unfolding packed_of kept
returns-clause-answer c = c.packed.ensures.answer
