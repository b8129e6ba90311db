-- A ticket table: rows of a number and eight tickets, as they lie in a flat list of nine entries a row. RULES, Orders.
use Rattle.std.specs.Prelude.{Bool, List, [], ◌∷◌, ◌++◌, ℕ, zero, suc, ◌+◌, ◌*◌, ◌/◌, length, get_or, take, drop}
use Rattle.orders.specs.Arrow.{Tickets, Arrow, arrowb}

pub record Entry : Type 0 where
  pub number : ℕ
  pub tickets : Tickets

abbrev pub number_of : Entry → ℕ
number_of r = r.number

abbrev pub EntryArrow : Entry → Entry → Type 0
EntryArrow q r = Arrow q.tickets r.tickets

abbrev pub entry_arrowb : Entry → Entry → Bool
entry_arrowb q r = arrowb q.tickets r.tickets

-- row i of a flat list: the nine entries from 9 × i on, the number first
unfoldable pub entry_at : List ℕ → ℕ → Entry
entry_at flat i = record { number = get_or flat (9 * i) 0; tickets = take 8 (drop (9 * i + 1) flat) }

-- k rows from row i on
unfoldable pub entries_from : List ℕ → ℕ → ℕ → List Entry
entries_from flat i zero = []
entries_from flat i (suc k) = entry_at flat i ∷ entries_from flat (suc i) k

unfoldable pub entries_in : List ℕ → List Entry
entries_in flat = entries_from flat 0 (length flat / 9)

-- and back: the rows one behind the other
unfoldable pub flat_of : List Entry → List ℕ
flat_of [] = []
flat_of (r ∷ rs) = r.number ∷ (r.tickets ++ flat_of rs)
