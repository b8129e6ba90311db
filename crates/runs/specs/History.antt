-- All that a run committed, forgotten ones too: a row for each commit answer, with the tickets that it had then.
use Rattle.std.specs.Prelude.{List, []}
use Rattle.orders.specs.Entries.{Entry}
use Rattle.invariant.specs.Noted.{noted}
use Rattle.runs.specs.Run.{Run, Run.start, Run.call, after, answer_to}

-- the latest first
unfoldable pub history : Run → List Entry
history start = []
history (call r c) = noted (after (call r c)) (answer_to r c) (history r)
