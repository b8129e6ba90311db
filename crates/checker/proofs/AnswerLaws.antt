-- What the check answers, told from its two tests. Assumes nothing.
use mathlib.Core.Path.{◌≡◌}
use mathlib.Core.Bool.{true, false}
use mathlib.Core.List.{List}
use Prim.Native.Nat.{ℕ}
use Rattle.orders.specs.Entries.{entries_in}
use Rattle.orders.specs.Good.{goodb}
use Rattle.orders.specs.Reply.Reply.{refused, yes, no}
use Rattle.orders.specs.Order.{in_orderb, check_result}

module _ (flat order : List ℕ) where
  pub check_of_bad : goodb flat ≡ false → check_result flat order ≡ refused 13
  unfolding check_result
  check_of_bad e = rw e

  pub check_of_wrong : goodb flat ≡ true → in_orderb (entries_in flat) order ≡ false → check_result flat order ≡ no
  unfolding check_result
  check_of_wrong e f = rw (e, f)

  pub check_of_right : goodb flat ≡ true → in_orderb (entries_in flat) order ≡ true → check_result flat order ≡ yes
  unfolding check_result
  check_of_right e f = rw (e, f)
