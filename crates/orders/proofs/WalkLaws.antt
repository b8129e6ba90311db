-- Loops over the rows of a flat list and over the sites of two rows: what one turn more shows. Assumes nothing.
use mathlib.Core.Path.{◌≡◌, refl, sym}
use mathlib.Core.Bool.{Bool, true, false, ◌||◌, or-false, or_assoc}
use mathlib.Core.List.{List, [], ◌∷◌}
use Prim.Native.Nat.{ℕ, zero, suc, ◌+◌, ◌-◌, ◌/◌, ◌<◌, ◌≤◌}
use native.Mathlib.Numerals.{add-one}
use native.Mathlib.Omega.{arith}
use lib.ListN.{length, take}
use Rattle.graph.specs.Lists.{any_of}
use Rattle.orders.specs.Arrow.{Tickets, ticket_at, any_site, beforeb, arrowb}
use Rattle.orders.specs.Entries.{Entry, entry_at, entries_from, entries_in}
use Rattle.orders.proofs.ArrowLaws.{beforeb_zero}

-- of n rows, those from row i on
module _ (flat : List ℕ) (i n : ℕ) where
  pub rows_more : i < n → entries_from flat i (n - i) ≡ entry_at flat i ∷ entries_from flat (i + 1) (n - (i + 1))
  unfolding entries_from
  rows_more h = let e : n - i ≡ suc (n - (i + 1)) = omega arith in rw (e, add-one i)

  pub rows_end : n ≤ i → entries_from flat i (n - i) ≡ []
  unfolding entries_from
  rows_end h = let e : n - i ≡ 0 = omega arith in rw e

  -- a search among them
  module _ (f : Entry → Bool) where
    pub any_row_hit : i < n → f (entry_at flat i) ≡ true → any_of f (entries_from flat i (n - i)) ≡ true
    any_row_hit h e = rw (rows_more h, e)

    pub any_row_skip : i < n → f (entry_at flat i) ≡ false → any_of f (entries_from flat i (n - i)) ≡ any_of f (entries_from flat (i + 1) (n - (i + 1)))
    any_row_skip h e = rw (rows_more h, e)

    pub any_row_end : n ≤ i → any_of f (entries_from flat i (n - i)) ≡ false
    any_row_end h = rw (rows_end h)

-- a search through all of them
pub any_row_start : (flat : List ℕ) (f : Entry → Bool) → any_of f (entries_in flat) ≡ any_of f (entries_from flat 0 (length flat / 9 - 0))
unfolding entries_in
any_row_start flat f = let e : length flat / 9 - 0 ≡ length flat / 9 = omega arith in rw e

-- a test of two tickets that fails where one of them is 0, over the first s sites
module _ (f : ℕ → ℕ → Bool) (left : (y : ℕ) → f 0 y ≡ false) (right : (x : ℕ) → f x 0 ≡ false) where
  one_more : (xs ys : Tickets) (s : ℕ) → any_site f (take (suc s) xs) (take (suc s) ys) ≡ any_site f (take s xs) (take s ys) || f (ticket_at xs s) (ticket_at ys s)
  one_more [] ys zero = rw (left (ticket_at ys zero))
  one_more [] ys (suc s) = rw (left (ticket_at ys (suc s)))
  one_more (x ∷ xs) [] zero = rw (right x)
  one_more (x ∷ xs) [] (suc s) = rw (right (ticket_at xs s))
  one_more (x ∷ xs) (y ∷ ys) zero = or-false (f x y)
  one_more (x ∷ xs) (y ∷ ys) (suc s) = rw (one_more xs ys s) (sym (or_assoc (f x y) (any_site f (take s xs) (take s ys)) (f (ticket_at xs s) (ticket_at ys s))))

  pub any_site_more : (xs ys : Tickets) (s : ℕ)
      → any_site f (take (s + 1) xs) (take (s + 1) ys) ≡ any_site f (take s xs) (take s ys) || f (ticket_at xs s) (ticket_at ys s)
  any_site_more xs ys s = rw (add-one s) (one_more xs ys s)

-- an arrow, site by site
pub arrow_more : (xs ys : Tickets) (s : ℕ)
    → arrowb (take (s + 1) xs) (take (s + 1) ys) ≡ arrowb (take s xs) (take s ys) || beforeb (ticket_at xs s) (ticket_at ys s)
arrow_more = any_site_more beforeb (λ y. refl) beforeb_zero
