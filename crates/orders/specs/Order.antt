-- The rule for an order of a ticket table, in sites, tickets and places, and what the check answers. RULES, Orders.
use Rattle.std.specs.Prelude.{◌≡◌, Bool, List, ℕ, ◌<◌}
use Rattle.graph.specs.Lists.{◌∈◌, At, Once}
use Rattle.graph.specs.Check.{orderb}
use Rattle.orders.specs.Arrow.{Before}
use Rattle.orders.specs.Entries.{Entry, number_of, entry_arrowb, entries_in}
use Rattle.orders.specs.Good.{GoodRows, goodb}
use Rattle.orders.specs.Judged.{Judged, judged}
use Rattle.orders.specs.Reply.{Reply}
use Rattle.orders.specs.Reply.Reply.{refused, yes, no}

pub record InOrder (rows : List Entry) (order : List ℕ) : Type 0 where
  -- it names each row's number, no number at two places, and no other
  pub each : (r : Entry) → r ∈ rows → (i : ℕ) × At order i r.number
  pub once : Once order
  pub only : (n i : ℕ) → At order i n → (r : Entry) × (r ∈ rows) × (r.number ≡ n)
  -- of two rows that hold a ticket at the same site, the one with the smaller ticket there stands earlier
  pub earlier : (q r : Entry) → q ∈ rows → r ∈ rows → (s : ℕ) → Before q.tickets r.tickets s → (i j : ℕ) → At order i q.number → At order j r.number → i < j

-- what the check answers
abbrev pub Checked : List ℕ → List ℕ → Reply → Type 0
Checked flat order = Judged (refused 13) yes no (GoodRows flat) (InOrder (entries_in flat) order)

-- the same, computed
unfoldable pub in_orderb : List Entry → List ℕ → Bool
in_orderb rows order = orderb entry_arrowb number_of rows order

unfoldable pub check_result : List ℕ → List ℕ → Reply
check_result flat order = judged (refused 13) yes no (goodb flat) (in_orderb (entries_in flat) order)
