-- The check as a C program calls it, with both lists as bytes: 36 bytes a row, 4 bytes a number, big-endian. RULES, The C call.
use Rattle.std.specs.Prelude.{◌≡◌, Bool, ◌&&◌, List, ℕ, ◌≤◌, ◌%◌, eqb, leb, length}
use Rattle.endian.specs.Bytes.{words}
use Rattle.orders.specs.Entries.{entries_in}
use Rattle.orders.specs.Good.{GoodRows, goodb}
use Rattle.orders.specs.Judged.{Judged, judged}
use Rattle.orders.specs.Order.{InOrder, in_orderb}

-- whole rows, at most 32 of them, and what they hold is a good table
pub record GoodBytes (rows : List ℕ) : Type 0 where
  pub whole : length rows % 36 ≡ 0
  pub few : length rows ≤ 1152
  pub good : GoodRows (words rows)

-- whole numbers, and they are an order of the rows
pub record OrderBytes (rows order : List ℕ) : Type 0 where
  pub whole : length order % 4 ≡ 0
  pub ordered : InOrder (entries_in (words rows)) (words order)

-- what the call answers
abbrev pub Called : List ℕ → List ℕ → ℕ → Type 0
Called rows order = Judged 13 1 0 (GoodBytes rows) (OrderBytes rows order)

-- the same, computed
unfoldable pub good_bytesb : List ℕ → Bool
good_bytesb rows = eqb (length rows % 36) 0 && leb (length rows) 1152 && goodb (words rows)

unfoldable pub order_bytesb : List ℕ → List ℕ → Bool
order_bytesb rows order = eqb (length order % 4) 0 && in_orderb (entries_in (words rows)) (words order)

unfoldable pub call_result : List ℕ → List ℕ → ℕ
call_result rows order = judged 13 1 0 (good_bytesb rows) (order_bytesb rows order)
