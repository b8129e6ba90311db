-- A table as statements see it: what a row says of itself, and which numbers stand in it.
use Rattle.std.specs.Prelude.{◌≡◌, ◌≢◌, ℕ}
use Rattle.graph.specs.Lists.{◌∈◌}
use Rattle.orders.specs.Arrow.{ticket_at}
use Rattle.sites.specs.Sites.{sites_of}
use Rattle.method.specs.declared.State.{State}
use Rattle.method.specs.declared.Row.{Row}
use Rattle.method.specs.declared.Table.{Table}
use Rattle.method.specs.Records.{row_at, part_at, tickets_of}

-- what a row says of itself, and of a site
abbrev pub IsFree : Row → Type 0
IsFree r = r.state ≡ State.Free

abbrev pub IsActive : Row → Type 0
IsActive r = r.state ≡ State.Active

abbrev pub IsCommitted : Row → Type 0
IsCommitted r = r.state ≡ State.Committed

abbrev pub num : Row → ℕ
num r = r.number.0

abbrev pub Has : Row → ℕ → Type 0
Has r s = s ∈ sites_of r.sites

abbrev pub base : Row → ℕ → ℕ
base r s = (part_at r s).base.0

abbrev pub tick : Row → ℕ → ℕ
tick r s = ticket_at (tickets_of r) s

-- the number stands in a slot; as that of an active transaction, or of a committed one
abbrev pub Known : Table → ℕ → Type 0
Known t n = (i : ℕ) × ((row_at t i).state ≢ State.Free) × ((row_at t i).number.0 ≡ n)

abbrev pub Active : Table → ℕ → Type 0
Active t n = (i : ℕ) × ((row_at t i).state ≡ State.Active) × ((row_at t i).number.0 ≡ n)

abbrev pub Kept : Table → ℕ → Type 0
Kept t n = (i : ℕ) × ((row_at t i).state ≡ State.Committed) × ((row_at t i).number.0 ≡ n)
