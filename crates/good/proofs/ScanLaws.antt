-- The test of a table, row by row: what is left of it from row i on. Assumes nothing.
use mathlib.Core.Path.{◌≡◌}
use mathlib.Core.Bool.{true, false, not, and-false}
use mathlib.Core.List.{List, ◌∷◌}
use Prim.Native.Nat.{ℕ, ◌+◌, ◌-◌, ◌/◌, ◌%◌, ◌<◌, ◌≤◌}
use native.Mathlib.Omega.{arith}
use lib.Dec.{eqb}
use lib.ListN.{length}
use borrow.Author.Tests.{eq-eqb, ne_eqb, le-leb, lt-leb}
use Rattle.graph.specs.Lists.{any_of}
use Rattle.orders.specs.Entries.{entry_at, entries_from, entries_in}
use Rattle.orders.specs.Good.{clash, apartb, goodb}
use Rattle.orders.proofs.WalkLaws.{rows_more, rows_end}
use Rattle.good.specs.Scan.{rest_good}

module _ (flat : List ℕ) where
  pub bad_of_part : (length flat % 9 ≡ 0 → ⊥) → goodb flat ≡ false
  unfolding goodb
  bad_of_part h = rw (ne_eqb (length flat % 9) 0 h)

  pub bad_of_many : 288 < length flat → goodb flat ≡ false
  unfolding goodb
  bad_of_many h = rw (lt-leb (length flat) 288 h, and-false (eqb (length flat % 9) 0))

  -- whole rows, and few enough: the rest decides
  pub good_of_rest : length flat % 9 ≡ 0 → length flat ≤ 288 → goodb flat ≡ rest_good flat 0 (length flat / 9)
  unfolding goodb entries_in
  good_of_rest w f =
      let e : length flat / 9 - 0 ≡ length flat / 9 = omega arith in
      rw (eq-eqb (length flat % 9) 0 w, le-leb (length flat) 288 f, e)

  module _ (i n : ℕ) where
    pub rest_end : n ≤ i → rest_good flat i n ≡ true
    unfolding apartb
    rest_end h = rw (rows_end flat i n h)

    module _ (h : i < n) where
      pub rest_of_unnamed : (entry_at flat i).number ≡ 0 → rest_good flat i n ≡ false
      rest_of_unnamed z = rw (rows_more flat i n h, eq-eqb (entry_at flat i).number 0 z)

      pub rest_of_clash : any_of (clash (entry_at flat i)) (entries_from flat (i + 1) (n - (i + 1))) ≡ true → rest_good flat i n ≡ false
      unfolding apartb
      rest_of_clash e = rw (rows_more flat i n h, e) (and-false (not (any_of (λ r. eqb r.number 0) (entry_at flat i ∷ entries_from flat (i + 1) (n - (i + 1))))))

      pub rest_of_more : ((entry_at flat i).number ≡ 0 → ⊥) → any_of (clash (entry_at flat i)) (entries_from flat (i + 1) (n - (i + 1))) ≡ false
          → rest_good flat i n ≡ rest_good flat (i + 1) n
      unfolding apartb
      rest_of_more z e = rw (rows_more flat i n h, ne_eqb (entry_at flat i).number 0 z, e)
