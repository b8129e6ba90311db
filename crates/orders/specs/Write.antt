-- What the writer of an order answers, and what the lent buffer holds then. RULES, Orders.
use Rattle.std.specs.Prelude.{◌≡◌, cond, List, ℕ, ◌+◌, ◌≤◌, ltb, length}
use Rattle.endian.specs.Laid.{laid}
use Rattle.graph.specs.Acyclic.{acyclic}
use Rattle.graph.specs.Order.{greedy}
use Rattle.graph.specs.Smallest.{SmallestFirst}
use Rattle.orders.specs.Entries.{number_of, EntryArrow, entry_arrowb, entries_in}
use Rattle.orders.specs.Good.{GoodRows, goodb}
use Rattle.orders.specs.Order.{InOrder}
use Rattle.orders.specs.Reply.{Reply}
use Rattle.orders.specs.Reply.Reply.{refused, wrote}

-- the place lies within the buffer, or at its end, and as many entries follow as there are rows
abbrev pub Room : List ℕ → ℕ → List ℕ → Type 0
Room flat place out = place + length (entries_in flat) ≤ length out

-- the four ways a write can end: the answer, and the buffer after it
pub data Written (flat : List ℕ) (place : ℕ) (out : List ℕ) (r : Reply) (after : List ℕ) : Type 0 where
  bad : r ≡ refused 13 → after ≡ out → ¬ GoodRows flat → Written flat place out r after
  no_room : r ≡ refused 14 → after ≡ out → GoodRows flat → ¬ Room flat place out → Written flat place out r after
  no_order : r ≡ refused 12 → after ≡ out → GoodRows flat → Room flat place out → ¬ ((o : List ℕ) × InOrder (entries_in flat) o) → Written flat place out r after
  written : (o : List ℕ) → r ≡ wrote (length o) → after ≡ laid out place o → GoodRows flat → Room flat place out
      → InOrder (entries_in flat) o → SmallestFirst EntryArrow number_of (entries_in flat) o → Written flat place out r after

-- the same, computed: the answer, and the buffer
unfoldable pub order_written : List ℕ → ℕ → List ℕ → List ℕ → Reply × List ℕ
order_written flat place out o = (wrote (length o), laid out place o)

unfoldable pub write_result : List ℕ → ℕ → List ℕ → Reply × List ℕ
write_result flat place out =
    cond (goodb flat)
    (cond (ltb (length out) (place + length (entries_in flat))) (refused 14, out)
    (cond (acyclic entry_arrowb (entries_in flat)) (order_written flat place out (greedy entry_arrowb number_of (entries_in flat))) (refused 12, out)))
    (refused 13, out)
