-- Where a number stands in the table, which slot is free, which rows are active, and which are kept, also as a ticket table.
use Rattle.std.specs.Prelude.{Bool, ◌&&◌, List, map, ℕ, eqb}
use Rattle.std.specs.List.{position_or_len}
use Rattle.graph.specs.Lists.{keep}
use Rattle.orders.specs.Entries.{Entry, flat_of}
use Rattle.method.specs.declared.Row.{Row}
use Rattle.method.specs.declared.Table.{Table}
use Rattle.method.specs.Records.{is_free, in_use, active, committed, row_at, tickets_of}

abbrev pub has_number : ℕ → Row → Bool
has_number n r = in_use r && eqb r.number.0 n

-- the slot of a number, and its row; past the last slot where none has it
unfoldable pub slot_of : Table → ℕ → ℕ
slot_of t n = position_or_len (has_number n) t.rows

abbrev pub row_of_number : Table → ℕ → Row
row_of_number t n = row_at t (slot_of t n)

-- the lowest free slot; past the last one where none is
unfoldable pub free_slot : Table → ℕ
free_slot t = position_or_len (λ (r : Row). is_free r.state) t.rows

-- the committed transactions that the table keeps, and the active ones, by slot
unfoldable pub kept : Table → List Row
kept t = keep committed t.rows

unfoldable pub active_rows : Table → List Row
active_rows t = keep active t.rows

-- a row as a row of a ticket table, and the kept ones as such a table: RULES, Orders
unfoldable pub entry_of : Row → Entry
entry_of r = record { number = r.number.0; tickets = tickets_of r }

abbrev pub kept_entries : Table → List Entry
kept_entries t = map entry_of (kept t)

-- the same, nine entries a row
abbrev pub kept_flat : Table → List ℕ
kept_flat t = flat_of (kept_entries t)
