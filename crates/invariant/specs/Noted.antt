-- What a step adds to all that was ever committed: for a commit its row, as the table after the step has it; for any other answer
-- nothing.
use Rattle.std.specs.Prelude.{List, ◌∷◌}
use Rattle.orders.specs.Entries.{Entry}
use Rattle.method.specs.Calls.{CallAnswer}
use Rattle.std.specs.Prelude.{Ok, Err}
use Rattle.method.specs.declared.Table.{Table}
use Rattle.method.specs.declared.Answer.{Answer}
use Rattle.method.specs.Slots.{row_of_number, entry_of}

abbrev pub noted : Table → CallAnswer → List Entry → List Entry
noted u (Ok Answer.Done) es = es
noted u (Ok (Answer.Begun n)) es = es
noted u (Ok (Answer.Commit n)) es = entry_of (row_of_number u n.0) ∷ es
noted u (Ok (Answer.Cycle n)) es = es
noted u (Ok (Answer.Swept k)) es = es
noted u (Err k) es = es
