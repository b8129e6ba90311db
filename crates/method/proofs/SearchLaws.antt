-- A search through two lists of tickets, site by site, and one among those that pass a test. The length of an array that a struct
-- holds. (For any that passes, see SearchLaws of the graph.) Assumes nothing.
use mathlib.Core.Path.{◌≡◌, refl}
use mathlib.Core.Bool.{Bool, true, false, cond, ◌&&◌, ◌||◌}
use mathlib.Core.List.{List, [], ◌∷◌, map}
use Prim.Native.Nat.{ℕ, ◌+◌, ◌<◌, ◌≤◌}
use native.Mathlib.Numerals.{add-one}
use lib.ListN.{length, drop, drop_of_length-le, length-map}
use lib.Seq.{drop-cons}
use Rattle.graph.specs.Lists.{any_of, keep}
use Rattle.orders.specs.Arrow.{Tickets, ticket_at, any_site}

-- from what owning the struct tells: `search (needs, unmapped)` finds it
pub unmapped : (X Y : Type 0) (f : X → Y) (l : List X) (n : ℕ) → length (map f l) ≡ n → length l ≡ n
unmapped X Y f l n p = simp length-map at p

-- a loop over two lists of tickets, site by site
module _ (f : ℕ → ℕ → Bool) (xs ys : Tickets) (s : ℕ) where
  pub site_hit : s < length xs → s < length ys → f (ticket_at xs s) (ticket_at ys s) ≡ true → any_site f (drop s xs) (drop s ys) ≡ true
  site_hit h l e = rw (drop-cons xs s 0 h, drop-cons ys s 0 l, e)

  pub site_skip : s < length xs → s < length ys → f (ticket_at xs s) (ticket_at ys s) ≡ false → any_site f (drop s xs) (drop s ys) ≡ any_site f (drop (s + 1) xs) (drop (s + 1) ys)
  site_skip h l e = rw (drop-cons xs s 0 h, drop-cons ys s 0 l, e, add-one s)

  pub site_end : length xs ≤ s → any_site f (drop s xs) (drop s ys) ≡ false
  site_end h = rw (drop_of_length-le xs h)

-- any of those that pass a test
pub any_of_kept : {A : Type 0} (f g : A → Bool) (rs : List A) → any_of f (keep g rs) ≡ any_of (λ x. g x && f x) rs
any_of_kept f g [] = refl
any_of_kept f g (x ∷ xs) = go (g x) (any_of_kept f g xs)
  where
    go : (b : Bool) → any_of f (keep g xs) ≡ any_of (λ x. g x && f x) xs → any_of f (cond b (x ∷ keep g xs) (keep g xs)) ≡ (b && f x) || any_of (λ x. g x && f x) xs
    go true e = rw e
    go false e = e
