-- What the functions inside this crate say of the rows that are still to come. No public contract cites it.
use Rattle.std.specs.Prelude.{Bool, not, ◌&&◌, List, ℕ, ◌-◌, eqb}
use Rattle.graph.specs.Lists.{any_of}
use Rattle.orders.specs.Entries.{entries_from}
use Rattle.orders.specs.Good.{apartb}

-- of n rows, those from row i on have numbers and are apart
abbrev pub rest_good : List ℕ → ℕ → ℕ → Bool
rest_good flat i n = not (any_of (λ r. eqb r.number 0) (entries_from flat i (n - i))) && apartb (entries_from flat i (n - i))
