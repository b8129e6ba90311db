use Rattle.std.proofs.Common.{◌≡◌, ℕ, ◌<◌, length, get_or}
use Rattle.orders.specs.Arrow.{ticket_at}
use Rattle.orders.specs.Entries.{entry_at}
use Rattle.arrows.proofs.tickets_of.Given as goal

abbrev pub invariant-loop-s : goal.invariant-loop-s
invariant-loop-s l = (length l.own ≡ 8) × ((k : ℕ) → k < l.s → get_or l.own k 0 ≡ ticket_at (entry_at l.rows l.i).tickets k)
