-- The tickets of a row as they are read into an array. No public contract that a user meets cites it.
use Rattle.std.specs.Prelude.{cond, List, ℕ, ◌/◌, ltb, length, replicate}
use Rattle.orders.specs.Arrow.{Tickets}
use Rattle.orders.specs.Entries.{entry_at}

-- past the whole rows they are zeros
abbrev pub tickets_in : List ℕ → ℕ → Tickets
tickets_in flat i = cond (ltb i (length flat / 9)) (entry_at flat i).tickets (replicate 8 0)
