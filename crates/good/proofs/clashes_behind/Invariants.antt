use Rattle.std.proofs.Common.{◌≡◌, ◌+◌, ◌-◌, ◌/◌, length}
use Rattle.graph.specs.Lists.{any_of}
use Rattle.orders.specs.Entries.{entry_at, entries_from}
use Rattle.orders.specs.Good.{clash}
use Rattle.good.proofs.clashes_behind.Given as goal

abbrev pub invariant-loop-j : goal.invariant-loop-j
invariant-loop-j l = any_of (clash (entry_at l.rows l.i)) (entries_from l.rows (l.i + 1) (length l.rows / 9 - (l.i + 1))) ≡ any_of (clash (entry_at l.rows l.i)) (entries_from l.rows l.j (length l.rows / 9 - l.j))
