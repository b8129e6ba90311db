-- The kept ones of a list of rows as a ticket table, nine entries a row: the rows from the front of 288 entries, zeros behind them.
use Rattle.std.specs.Prelude.{cond, List, ◌∷◌, map, ℕ, ◌+◌, ◌*◌, length, replicate}
use Rattle.endian.specs.Laid.{laid}
use Rattle.graph.specs.Lists.{keep}
use Rattle.orders.specs.Entries.{flat_of}
use Rattle.method.specs.declared.Row.{Row}
use Rattle.method.specs.declared.Table.{Table}
use Rattle.method.specs.Records.{committed, tickets_of}
use Rattle.method.specs.Slots.{entry_of, kept, kept_flat}
use Rattle.kept.specs.declared.packed.Kept.{Kept}

abbrev pub flat : List Row → List ℕ
flat rs = flat_of (map entry_of (keep committed rs))

abbrev pub kept_of : ℕ → List ℕ → Kept
kept_of n rows = record { count = n; rows = rows }

abbrev pub zeros : List ℕ
zeros = replicate 288 0

unfoldable pub packed_of : Table → Kept
packed_of t = kept_of (length (kept t)) (laid zeros 0 (kept_flat t))

-- the same of any list of rows, as the loop builds it: the nine entries of a row, and what one more row does
abbrev pub packed_rows : List Row → Kept
packed_rows rs = kept_of (length (keep committed rs)) (laid zeros 0 (flat rs))

abbrev pub entries : Row → List ℕ
entries r = r.number.0 ∷ tickets_of r

abbrev pub grown : Kept → Row → Kept
grown k r = cond (committed r) (kept_of (k.count + 1) (laid k.rows (9 * k.count) (entries r))) k
