-- When a ticket table is good, by its places: a table that fails one of these is bad (13). RULES, Orders.
use Rattle.std.specs.Prelude.{◌≡◌, Bool, true, not, ◌&&◌, ◌||◌, List, [], ◌∷◌, map, ◌⊎◌, ℕ, ◌<◌, ◌≤◌, ◌%◌, eqb, leb, ltb, length}
use Rattle.graph.specs.Lists.{◌∈◌, At, Once, any_of}
use Rattle.orders.specs.Arrow.{ticket_at, any_site}
use Rattle.orders.specs.Entries.{Entry, number_of, entries_in}

-- rows that differ: two places never hold equal numbers, nor equal tickets at a site
pub record Apart (rows : List Entry) : Type 0 where
  pub numbers : Once (map number_of rows)
  pub tickets : (s i j : ℕ) (q r : Entry) → At rows i q → At rows j r → 0 < ticket_at q.tickets s → ticket_at q.tickets s ≡ ticket_at r.tickets s → i ≡ j

pub record GoodRows (flat : List ℕ) : Type 0 where
  -- a whole number of rows, nine entries each, and at most 32 of them
  pub whole : length flat % 9 ≡ 0
  pub few : length flat ≤ 288
  -- no row has the number 0
  pub named : (r : Entry) → r ∈ entries_in flat → 0 < r.number
  pub apart : Apart (entries_in flat)

-- two rows that may not stand in one table: equal numbers, or at some site equal tickets
abbrev pub Clash : Entry → Entry → Type 0
Clash q r = (q.number ≡ r.number) ⊎ ((s : ℕ) × (0 < ticket_at q.tickets s) × (ticket_at q.tickets s ≡ ticket_at r.tickets s))

-- the same, as tests that compute
abbrev pub sameb : ℕ → ℕ → Bool
sameb x y = ltb 0 x && eqb x y

abbrev pub clash : Entry → Entry → Bool
clash q r = eqb q.number r.number || any_site sameb q.tickets r.tickets

unfoldable pub apartb : List Entry → Bool
apartb [] = true
apartb (r ∷ rs) = not (any_of (clash r) rs) && apartb rs

unfoldable pub goodb : List ℕ → Bool
goodb flat = eqb (length flat % 9) 0 && leb (length flat) 288 && not (any_of (λ r. eqb r.number 0) (entries_in flat)) && apartb (entries_in flat)
