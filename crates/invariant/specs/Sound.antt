-- What every method keeps true of a table and of all that was ever committed. The table is seen as functions, the row of
-- a slot and the highest ticket of a site, so that nothing here depends on how long a list is. docs/ARCHITECTURE.md says why
-- each field is needed.
use Rattle.std.specs.Prelude.{◌≡◌, List, ◌≢◌, ◌⊎◌, ℕ, ◌≤◌, ◌<◌}
use Rattle.graph.specs.Lists.{◌∈◌}
use Rattle.graph.specs.Path.{Cycle}
use Rattle.orders.specs.Arrow.{Tickets, ticket_at, Arrow}
use Rattle.orders.specs.Entries.{Entry, EntryArrow}
use Rattle.orders.specs.Good.{Apart}
use Rattle.method.specs.declared.Stage.{Stage}
use Rattle.method.specs.declared.Row.{Row}
use Rattle.method.specs.Slots.{entry_of}
use Rattle.method.specs.Records.{part_at, tickets_of}
use Rattle.method.specs.Seen.{IsFree, IsActive, IsCommitted, num, Has, base, tick}

-- the row's bases are at or above these tickets
unfoldable pub Above : Row → Tickets → Type 0
Above r ts = (s : ℕ) → Has r s → ticket_at ts s ≤ base r s

-- no ticket of q is also r's
abbrev pub Differs : Row → Row → Type 0
Differs q r = (s : ℕ) → 0 < tick q s → tick q s ≢ tick r s

-- of one slot
pub record RowSound (high : ℕ → ℕ) (last : ℕ) (r : Row) : Type 0 where
  -- a free one holds no ticket
  pub blank : IsFree r → (s : ℕ) → tick r s ≡ 0
  -- numbers were given by the table
  pub named : ¬ IsFree r → 0 < num r
  pub counted : num r ≤ last
  pub marked : r.last.0 ≤ last
  -- a ticket stands at a listed site, above the base there
  pub listed : (s : ℕ) → 0 < tick r s → Has r s
  pub over : (s : ℕ) → 0 < tick r s → base r s < tick r s
  -- a base is at most the highest ticket, and each committed ticket is
  pub based : (s : ℕ) → Has r s → base r s ≤ high s
  pub below : IsCommitted r → (s : ℕ) → tick r s ≤ high s
  -- each site of a committed one is prepared
  pub prepared : IsCommitted r → (s : ℕ) → Has r s → (part_at r s).stage ≡ Stage.Prepared

-- of two slots
pub record PairSound (q r : Row) : Type 0 where
  pub numbers : 0 < num q → num q ≢ num r
  pub tickets : IsCommitted q → IsCommitted r → Differs q r
  -- one begun after this commit starts above it
  pub later : IsCommitted q → IsActive r → q.last.0 < num r → Above r (tickets_of q)

-- of a forgotten one and a slot: no arrow leads from the slot to it, now or later
pub record Past (e : Entry) (r : Row) : Type 0 where
  pub unpointed : IsCommitted r → ¬ Arrow (tickets_of r) e.tickets
  pub other : IsActive r → num r ≢ e.number
  pub above : IsActive r → Above r e.tickets

module _ (row : ℕ → Row) where
  -- a slot still holds it; or it is forgotten
  abbrev pub Still : Entry → Type 0
  Still e = (i : ℕ) × IsCommitted (row i) × (entry_of (row i) ≡ e)

  abbrev pub Gone : Entry → Type 0
  Gone e = (i : ℕ) → Past e (row i)

  -- of one that was ever committed
  pub record EntrySound (high : ℕ → ℕ) (last : ℕ) (e : Entry) : Type 0 where
    pub counted : e.number ≤ last
    pub below : (s : ℕ) → ticket_at e.tickets s ≤ high s
    pub place : Still e ⊎ Gone e

  pub record Sound (high : ℕ → ℕ) (last : ℕ) (es : List Entry) : Type 0 where
    pub rows : (i : ℕ) → RowSound high last (row i)
    pub pairs : (i j : ℕ) → i ≢ j → PairSound (row i) (row j)
    pub entries : (e : Entry) → e ∈ es → EntrySound high last e
    -- what a slot holds as committed was committed
    pub noted : (i : ℕ) → IsCommitted (row i) → entry_of (row i) ∈ es
    -- all that was ever committed differs, and makes no cycle
    pub apart : Apart es
    pub acyclic : ¬ Cycle EntryArrow es
