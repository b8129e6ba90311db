-- `reachedb` finds exactly what is reached. A round that finds nothing new is the last, and each other round finds at least
-- one more, so as many rounds as there are members are enough. Assumes nothing.
use mathlib.Core.Path.{◌≡◌, refl, sym}
use mathlib.Core.Bool.{Bool, true, false, cond}
use mathlib.Core.List.Memᴰ
use mathlib.Core.List.Memᴰ.{head as here}
use mathlib.Core.List.Memᴰ.{tail as there}
use mathlib.Core.List.{List, [], ◌∷◌}
use mathlib.Core.Logic.{◌⊎◌, inl, inr}
use Prim.Native.Nat.{ℕ, zero, suc, ◌≤◌}
use native.Mathlib.Omega.{arith}
use native.Mathlib.Decide.{dec_le}
use lib.ListN.{length}
use Rattle.graph.specs.Lists.{◌∈◌, ◌⊆◌, keep}
use Rattle.graph.specs.Path.{ArrowPath, ArrowPath.one, ArrowPath.more, Holds}
use Rattle.graph.specs.Acyclic.{into}
use Rattle.graph.specs.Reached.{Reached, spread, rounds, reachedb}
use Rattle.graph.proofs.TestLaws.{true_not_false, either_of_or, or_of_left, or_of_right}
use Rattle.graph.proofs.MemberLaws.{any_of_member, member_of_any, kept_of_member, member_of_kept, length_keep_le}
use Rattle.graph.proofs.PathLaws.{start_of_path, path_of_two, path_of_weaker}

module _ {A : Type 0} where
  -- a weaker test keeps no fewer, and where it keeps no more it is no weaker
  module _ (p q : A → Bool) (weak : (x : A) → p x ≡ true → q x ≡ true) where
    length_keep_weaker : (xs : List A) → length (keep p xs) ≤ length (keep q xs)
    length_keep_weaker [] = omega arith
    length_keep_weaker (x ∷ xs) = go (p x) (q x) (weak x) (length_keep_weaker xs)
      where
        go : (b c : Bool) → (b ≡ true → c ≡ true) → length (keep p xs) ≤ length (keep q xs)
            → length (cond b (x ∷ keep p xs) (keep p xs)) ≤ length (cond c (x ∷ keep q xs) (keep q xs))
        go true true w h = omega arith
        go true false w h = absurd (true_not_false (w refl) refl)
        go false true w h = omega arith
        go false false w h = h

    stronger_of_length : (xs : List A) → length (keep q xs) ≤ length (keep p xs) → (x : A) → x ∈ xs → q x ≡ true → p x ≡ true
    stronger_of_length [] h x m t = absurd (Memᴰ.not-nil m)
    stronger_of_length (y ∷ xs) h x m t = go (p y) (q y) refl refl h (length_keep_weaker xs) (λ l n. stronger_of_length xs l x n t) m
      where
        go : (b c : Bool) → p y ≡ b → q y ≡ c → length (cond c (y ∷ keep q xs) (keep q xs)) ≤ length (cond b (y ∷ keep p xs) (keep p xs))
            → length (keep p xs) ≤ length (keep q xs) → (length (keep q xs) ≤ length (keep p xs) → x ∈ xs → p x ≡ true) → x ∈ y ∷ xs → p x ≡ true
        go true c b d h l below (here e) = rw e b
        go true true b d h l below (there n) = below (omega arith) n
        go true false b d h l below (there n) = absurd (true_not_false (weak y b) d)
        go false true b d h l below k = absurd (omega arith)
        go false false b d h l below (here e) = absurd (true_not_false t (rw e d))
        go false false b d h l below (there n) = below h n

-- an arrow from what is reached reaches further
pub reached_of_next : {A : Type 0} {Arrow : A → A → Type 0} {Mark : A → Type 0} {rs : List A} {a r : A}
    → r ∈ rs → Reached Arrow Mark rs a → a ∈ rs → Arrow a r → Reached Arrow Mark rs r
reached_of_next m (b, n, e, inl p) k h = (b, n, e, inr (one n m (rw (sym p) at h)))
reached_of_next m (b, n, e, inr q) k h = (b, n, e, inr (path_of_two q (one k m h)))

module _ {A : Type 0} (arrow : A → A → Bool) (mark : A → Bool) (rs : List A) where
  abbrev found : ℕ → List A
  found = rounds arrow mark rs

  abbrev finds : List A → A → Bool
  finds = spread arrow mark rs

  spread_wider : (s u : List A) → s ⊆ u → (r : A) → finds s r ≡ true → finds u r ≡ true
  unfolding spread
  spread_wider s u sub r e = go (either_of_or (mark r) (into arrow s r) e)
    where
      go : (mark r ≡ true) ⊎ (into arrow s r ≡ true) → finds u r ≡ true
      go (inl h) = or_of_left (into arrow u r) h
      go (inr h) = let (a, m, k) = member_of_any (λ s. arrow s r) s h in or_of_right (mark r) (any_of_member (λ s. arrow s r) (sub a m) k)

  Still : ℕ → Type 0
  Still k = (r : A) → r ∈ rs → finds (found (suc k)) r ≡ true → finds (found k) r ≡ true

  found_grows : (k : ℕ) → found k ⊆ found (suc k)
  unfolding rounds
  found_grows zero r m = absurd (Memᴰ.not-nil m)
  found_grows (suc k) r m =
      let (n, e) = member_of_kept (finds (found k)) rs m in
      kept_of_member (finds (found (suc k))) n (spread_wider (found k) (found (suc k)) (found_grows k) r e)

  finds_grows : (k : ℕ) (r : A) → finds (found k) r ≡ true → finds (found (suc k)) r ≡ true
  finds_grows k r = spread_wider (found k) (found (suc k)) (found_grows k) r

  still_suc : (k : ℕ) → Still k → Still (suc k)
  unfolding Still rounds
  still_suc k h r m = spread_wider (found (suc (suc k))) (found (suc k)) less r
    where
      less : found (suc (suc k)) ⊆ found (suc k)
      less a n = let (l, e) = member_of_kept (finds (found (suc k))) rs n in kept_of_member (finds (found k)) l (h a l e)

  still_or_more : (k : ℕ) → k ≤ length (keep (finds (found k)) rs) → Still k ⊎ (suc k ≤ length (keep (finds (found (suc k))) rs))
  unfolding Still
  still_or_more k h = elim (dec_le (length (keep (finds (found (suc k))) rs)) (length (keep (finds (found k)) rs))) [
    | yes l ↦ inl (stronger_of_length (finds (found k)) (finds (found (suc k))) (finds_grows k) rs l)
    | no l ↦ inr (omega arith)
  ]

  still_or_long : (k : ℕ) → Still k ⊎ (suc k ≤ length (keep (finds (found (suc k))) rs))
  still_or_long zero = still_or_more zero (omega arith)
  still_or_long (suc k) = elim (still_or_long k) [ inl s ↦ inl (still_suc k s) | inr h ↦ still_or_more (suc k) h ]

  still_at_last : Still (length rs)
  still_at_last = elim (still_or_long (length rs)) [ inl s ↦ s | inr h ↦ absurd (omega (arith, length_keep_le (finds (found (suc (length rs)))) rs)) ]

  abbrev Marked : A → Type 0
  Marked a = mark a ≡ true

  -- what a round finds is reached: by induction on the round
  reached_of_spread : (s : List A) → ((a : A) → a ∈ s → (a ∈ rs) × Reached (Holds arrow) Marked rs a) → (r : A) → r ∈ rs → finds s r ≡ true → Reached (Holds arrow) Marked rs r
  unfolding spread
  reached_of_spread s h r m e = go (either_of_or (mark r) (into arrow s r) e)
    where
      go : (mark r ≡ true) ⊎ (into arrow s r ≡ true) → Reached (Holds arrow) Marked rs r
      go (inl k) = (r, m, k, inl refl)
      go (inr k) =
          let (a, n, f) = member_of_any (λ s. arrow s r) s k in
          let (l, w) = h a n in
          reached_of_next m w l f

  reached_of_found : (k : ℕ) (a : A) → a ∈ found k → (a ∈ rs) × Reached (Holds arrow) Marked rs a
  unfolding rounds
  reached_of_found zero a m = absurd (Memᴰ.not-nil m)
  reached_of_found (suc k) a m =
      let (n, e) = member_of_kept (finds (found k)) rs m in
      (n, reached_of_spread (found k) (reached_of_found k) a n e)

  pub reachedb→reached : (r : A) → r ∈ rs → reachedb arrow mark rs r ≡ true → Reached (Holds arrow) Marked rs r
  unfolding reachedb
  reachedb→reached r m e = reached_of_spread (found (length rs)) (reached_of_found (length rs)) r m e

  -- what a member that is found has an arrow to is found
  reachedb_of_arrow : {a r : A} → a ∈ rs → r ∈ rs → reachedb arrow mark rs a ≡ true → arrow a r ≡ true → reachedb arrow mark rs r ≡ true
  unfolding reachedb Still rounds spread
  reachedb_of_arrow {a} {r} m n e f = still_at_last r n (or_of_right (mark r) (any_of_member (λ s. arrow s r) (kept_of_member (finds (found (length rs))) m e) f))

  reachedb_of_path : {a r : A} → reachedb arrow mark rs a ≡ true → ArrowPath (Holds arrow) rs a r → reachedb arrow mark rs r ≡ true
  reachedb_of_path e (one m n f) = reachedb_of_arrow m n e f
  reachedb_of_path e (more m f p) = reachedb_of_path (reachedb_of_arrow m (start_of_path p) e f) p

  pub reached→reachedb : (r : A) → Reached (Holds arrow) Marked rs r → reachedb arrow mark rs r ≡ true
  unfolding reachedb spread
  reached→reachedb r (a, m, e, inl p) = rw (sym p) (or_of_left (into arrow (found (length rs)) a) e)
  reached→reachedb r (a, m, e, inr q) = reachedb_of_path (or_of_left (into arrow (found (length rs)) a) e) q

-- a weaker relation and a weaker mark reach the same and more
pub reached_of_weaker : {A : Type 0} {Arrow Brrow : A → A → Type 0} {Mark Nark : A → Type 0} {rs : List A} {r : A}
    → ((a b : A) → Arrow a b → Brrow a b) → ((a : A) → Mark a → Nark a) → Reached Arrow Mark rs r → Reached Brrow Nark rs r
reached_of_weaker f g (a, m, k, inl e) = (a, m, g a k, inl e)
reached_of_weaker f g (a, m, k, inr p) = (a, m, g a k, inr (path_of_weaker f p))
