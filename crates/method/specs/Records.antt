-- The values that a table starts from, what a row says of itself, and one helper for each field that a call changes.
use Rattle.std.specs.Prelude.{Bool, true, false, not, List, [], map, ℕ, get_or, set, replicate}
use Rattle.orders.specs.Arrow.{Tickets, Arrow, arrowb}
use Rattle.method.specs.declared.Number.{Number}
use Rattle.method.specs.declared.Ticket.{Ticket}
use Rattle.method.specs.declared.Stage.{Stage}
use Rattle.method.specs.declared.State.{State}
use Rattle.method.specs.declared.Part.{Part}
use Rattle.method.specs.declared.Row.{Row}
use Rattle.method.specs.declared.Table.{Table}

abbrev pub number : ℕ → Number
number n = record { 0 = n }

abbrev pub ticket : ℕ → Ticket
ticket k = record { 0 = k }

abbrev pub part : Stage → Ticket → Ticket → Part
part g b k = record { stage = g; base = b; ticket = k }

-- what stands at a site that a transaction does not list
abbrev pub no_part : Part
no_part = part Stage.Begun (ticket 0) (ticket 0)

abbrev pub row_of : State → Number → ℕ → Number → List Part → Row
row_of st n x l ps = record { state = st; number = n; sites = x; last = l; parts = ps }

-- what a free slot holds: zeros
abbrev pub free_row : Row
free_row = row_of State.Free (number 0) 0 (number 0) (replicate 8 no_part)

-- what a slot past the last one would hold; it has no parts, and is no slot of any table
abbrev pub past_end : Row
past_end = row_of State.Free (number 0) 0 (number 0) []

abbrev pub table_of : ℕ → Number → List Ticket → List Row → Table
table_of x l hs rs = record { sites = x; last = l; high = hs; rows = rs }

abbrev pub closed : Table
closed = table_of 0 (number 0) (replicate 8 (ticket 0)) (replicate 32 free_row)

-- a slot of the table, a site of a row, the highest committed ticket of a site
abbrev pub row_at : Table → ℕ → Row
row_at t i = get_or t.rows i past_end

abbrev pub part_at : Row → ℕ → Part
part_at r s = get_or r.parts s no_part

abbrev pub high_at : Table → ℕ → ℕ
high_at t s = (get_or t.high s (ticket 0)).0

abbrev pub is_free : State → Bool
is_free State.Free = true
is_free State.Active = false
is_free State.Committed = false

abbrev pub is_active : State → Bool
is_active State.Free = false
is_active State.Active = true
is_active State.Committed = false

abbrev pub is_committed : State → Bool
is_committed State.Free = false
is_committed State.Active = false
is_committed State.Committed = true

abbrev pub is_prepared : Stage → Bool
is_prepared Stage.Begun = false
is_prepared Stage.Ticketed = false
is_prepared Stage.Prepared = true

abbrev pub in_use : Row → Bool
in_use r = not (is_free r.state)

abbrev pub active : Row → Bool
active r = is_active r.state

abbrev pub committed : Row → Bool
committed r = is_committed r.state

-- the tickets of a row, site by site
unfoldable pub tickets_of : Row → Tickets
tickets_of r = map (λ (p : Part). p.ticket.0) r.parts

-- which transaction goes before which
abbrev pub Goes : Row → Row → Type 0
Goes q r = Arrow (tickets_of q) (tickets_of r)

abbrev pub goesb : Row → Row → Bool
goesb q r = arrowb (tickets_of q) (tickets_of r)

-- a field changed
abbrev pub with_rows : Table → List Row → Table
with_rows t rs = table_of t.sites t.last t.high rs

abbrev pub with_row : Table → ℕ → Row → Table
with_row t i r = with_rows t (set t.rows i r)

abbrev pub with_high : Table → List Ticket → Table
with_high t hs = table_of t.sites t.last hs t.rows

abbrev pub with_last : Table → Number → Table
with_last t n = table_of t.sites n t.high t.rows

abbrev pub with_part : Row → ℕ → Part → Row
with_part r s p = row_of r.state r.number r.sites r.last (set r.parts s p)
