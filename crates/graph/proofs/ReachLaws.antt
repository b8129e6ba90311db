-- After as many of Warshall's steps as there are rows, an entry is true just where there is a path. Assumes nothing.
use mathlib.Core.Path.{◌≡◌, refl}
use mathlib.Core.Bool.{Bool, true, false, ◌&&◌, ◌||◌}
use mathlib.Core.List.{List}
use mathlib.Core.Logic.{◌↔◌, ◌⊎◌, inl, inr}
use Prim.Native.Nat.{ℕ, zero, suc, ◌<◌}
use native.Mathlib.Nat.{not-suc-le-zero}
use native.Mathlib.Omega.{arith}
use native.Mathlib.Decide.{ℕ_discrete}
use lib.ListN.{length, get_or}
use Rattle.graph.specs.Path.{ArrowPath, ArrowPath.one, ArrowPath.more, Cycle, Holds}
use Rattle.graph.specs.Reach.{edge_of, reach}
use Rattle.graph.proofs.TestLaws.{either_of_or, both_of_and, or_of_left, or_of_right, and_of_both}
use Rattle.graph.proofs.PathLaws.{start_of_path}
use Rattle.graph.proofs.PlaceLaws.{member_of_place, place_of_member}

module _ (edge : ℕ → ℕ → Bool) where
  pub reach_zero : (i j : ℕ) → reach edge 0 i j ≡ edge i j
  unfolding reach
  reach_zero i j = refl

  pub reach_step : (k i j : ℕ) → reach edge (suc k) i j ≡ reach edge k i j || (reach edge k i k && reach edge k k j)
  unfolding reach
  reach_step k i j = refl

  -- step k leaves column k and row k as they were, so that it can be made in place
  or_and_left : (a b : Bool) → a || (a && b) ≡ a
  or_and_left true b = refl
  or_and_left false b = refl

  or_false : (a : Bool) → a || false ≡ a
  or_false true = refl
  or_false false = refl

  or_and_right : (a b : Bool) → a || (b && a) ≡ a
  or_and_right true b = refl
  or_and_right false true = refl
  or_and_right false false = refl

  pub reach_column_kept : (k i : ℕ) → reach edge (suc k) i k ≡ reach edge k i k
  reach_column_kept k i = rw (reach_step k i k) (or_and_left (reach edge k i k) (reach edge k k k))

  pub reach_row_kept : (k j : ℕ) → reach edge (suc k) k j ≡ reach edge k k j
  reach_row_kept k j = rw (reach_step k k j) (or_and_right (reach edge k k j) (reach edge k k k))

  -- the two entries that a step reads may be of before this pass or of after it
  pub reach_step_in_place : (k i j : ℕ) (a b : Bool) → (a ≡ reach edge k i k) ⊎ (a ≡ reach edge (suc k) i k) → (b ≡ reach edge k k j) ⊎ (b ≡ reach edge (suc k) k j)
      → reach edge k i j || (a && b) ≡ reach edge (suc k) i j
  reach_step_in_place k i j a b (inl p) (inl q) = rw (reach_step k i j, p, q)
  reach_step_in_place k i j a b (inl p) (inr q) = rw (reach_step k i j, p, q, reach_row_kept k j)
  reach_step_in_place k i j a b (inr p) (inl q) = rw (reach_step k i j, p, q, reach_column_kept k i)
  reach_step_in_place k i j a b (inr p) (inr q) = rw (reach_step k i j, p, q, reach_column_kept k i, reach_row_kept k j)

  -- a whole row at a time: row k is put to row i where i reaches k, and else row i stays
  pub reach_step_of_true : (k i j : ℕ) → reach edge k i k ≡ true → reach edge (suc k) i j ≡ reach edge k i j || reach edge k k j
  reach_step_of_true k i j e = rw (reach_step k i j, e)

  pub reach_step_of_false : (k i j : ℕ) → reach edge k i k ≡ false → reach edge (suc k) i j ≡ reach edge k i j
  reach_step_of_false k i j e = rw (reach_step k i j, e) (or_false (reach edge k i j))

  -- one or more edges, with places below k between them
  pub data Below (k : ℕ) : ℕ → ℕ → Type 0 where
    direct : {i j : ℕ} → edge i j ≡ true → Below k i j
    via : {i m j : ℕ} → m < k → edge i m ≡ true → Below k m j → Below k i j

  below_suc : {k i j : ℕ} → Below k i j → Below (suc k) i j
  below_suc (direct e) = direct e
  below_suc (via {m = m} h e p) = via {m = m} (omega arith) e (below_suc p)

  below_of_two : {k i m j : ℕ} → m < k → Below k i m → Below k m j → Below k i j
  below_of_two h (direct e) q = via h e q
  below_of_two h (via l e p) q = via l e (below_of_two h p q)

  -- a path over places up to k goes over places below k, or to k and on from k
  either_of_below : {k i j : ℕ} → Below (suc k) i j → Below k i j ⊎ (Below k i k × Below k k j)
  either_of_below (direct e) = inl (direct e)
  either_of_below {k} {i} {j} (via {m = m} h e p) = go (ℕ_discrete m k) (either_of_below p)
    where
      go : Dec (m ≡ k) → Below k m j ⊎ (Below k m k × Below k k j) → Below k i j ⊎ (Below k i k × Below k k j)
      go (yes s) (inl q) = inr (direct (rw s at e), rw s at q)
      go (yes s) (inr (q, r)) = inr (direct (rw s at e), r)
      go (no n) (inl q) = inl (via {m = m} (omega arith) e q)
      go (no n) (inr (q, r)) = inr (via {m = m} (omega arith) e q, r)

  pub below_of_reach : (k i j : ℕ) → reach edge k i j ≡ true → Below k i j
  unfolding reach
  below_of_reach zero i j e = direct e
  below_of_reach (suc k) i j e = go (below_of_reach k) (either_of_or (reach edge k i j) (reach edge k i k && reach edge k k j) e)
    where
      go : ((a b : ℕ) → reach edge k a b ≡ true → Below k a b) → (reach edge k i j ≡ true) ⊎ (reach edge k i k && reach edge k k j ≡ true) → Below (suc k) i j
      go r (inl h) = below_suc (r i j h)
      go r (inr h) =
          let (p, q) = both_of_and (reach edge k i k) (reach edge k k j) h in
          below_of_two (omega arith) (below_suc (r i k p)) (below_suc (r k j q))

  direct_of_below : {i j : ℕ} → Below 0 i j → edge i j ≡ true
  direct_of_below (direct e) = e
  direct_of_below (via h e p) = absurd (not-suc-le-zero h)

  pub reach_of_below : (k : ℕ) {i j : ℕ} → Below k i j → reach edge k i j ≡ true
  unfolding reach
  reach_of_below zero p = direct_of_below p
  reach_of_below (suc k) {i} {j} p = go (λ a b q. reach_of_below k q) (either_of_below p)
    where
      go : ((a b : ℕ) → Below k a b → reach edge k a b ≡ true) → Below k i j ⊎ (Below k i k × Below k k j) → reach edge (suc k) i j ≡ true
      go r (inl q) = or_of_left (reach edge k i k && reach edge k k j) (r i j q)
      go r (inr (q, s)) = or_of_right (reach edge k i j) (and_of_both (r i k q) (r k j s))

module _ {A : Type 0} (arrow : A → A → Bool) (rs : List A) (d : A) where
  path_of_below : {i j : ℕ} → i < length rs → j < length rs → Below (edge_of arrow rs d) (length rs) i j → ArrowPath (Holds arrow) rs (get_or rs i d) (get_or rs j d)
  path_of_below h l (direct {i = i} {j = j} e) = one (member_of_place rs i d h) (member_of_place rs j d l) e
  path_of_below h l (via {i = i} g e p) = more (member_of_place rs i d h) e (path_of_below g l p)

  below_of_path : {a b : A} (i j : ℕ) → get_or rs i d ≡ a → get_or rs j d ≡ b → ArrowPath (Holds arrow) rs a b → Below (edge_of arrow rs d) (length rs) i j
  below_of_path i j p q (one m n e) = direct {i = i} {j = j} (rw (p, q) e)
  below_of_path i j p q (more m e r) = let (k, h, s) = place_of_member d (start_of_path r) in via {i = i} {m = k} h (rw (p, s) e) (below_of_path k j s q r)

  -- the law of the whole square
  pub reach_iff_path : (i j : ℕ) → i < length rs → j < length rs → (reach (edge_of arrow rs d) (length rs) i j ≡ true) ↔ ArrowPath (Holds arrow) rs (get_or rs i d) (get_or rs j d)
  reach_iff_path i j h l = (
    λ e. path_of_below h l (below_of_reach (edge_of arrow rs d) (length rs) i j e),
    λ p. reach_of_below (edge_of arrow rs d) (length rs) (below_of_path i j refl refl p),
  )

  -- a cycle is a true entry on the diagonal
  pub cycle_iff_reach : Cycle (Holds arrow) rs ↔ ((i : ℕ) × (i < length rs) × (reach (edge_of arrow rs d) (length rs) i i ≡ true))
  cycle_iff_reach = (there, back)
    where
      there : Cycle (Holds arrow) rs → (i : ℕ) × (i < length rs) × (reach (edge_of arrow rs d) (length rs) i i ≡ true)
      there (a, p) = let (i, h, e) = place_of_member d (start_of_path p) in (i, h, reach_of_below (edge_of arrow rs d) (length rs) (below_of_path i i e e p))

      back : ((i : ℕ) × (i < length rs) × (reach (edge_of arrow rs d) (length rs) i i ≡ true)) → Cycle (Holds arrow) rs
      back (i, h, e) = (get_or rs i d, (reach_iff_path i i h h).0 e)
