-- The greedy writer, a place at a time: what a loop that writes it needs, and what stands at each place. Assumes nothing.
use mathlib.Core.Path.{◌≡◌, refl, sym, ap, ◌∙◌}
use mathlib.Core.Bool.{Bool, true, false}
use mathlib.Core.List.{List, [], ◌∷◌, ◌++◌, append-nil}
use mathlib.Core.Option.{Option, none, some}
use Prim.Native.Nat.{ℕ, zero, suc}
use native.Mathlib.Omega.{arith}
use lib.ListN.{length, take}
use lib.Seq.{append_snoc}
use Rattle.graph.specs.Lists.{◌∈◌, At}
use Rattle.graph.specs.Path.{Cycle, Holds}
use Rattle.graph.specs.Acyclic.{into}
use Rattle.graph.specs.Order.{Distinct, next, write, greedy}
use Rattle.graph.specs.Smallest.{placed, left, Ready, NextAfter, SmallestFirst}
use Rattle.graph.proofs.TestLaws.{true_not_false, false_of_not_true}
use Rattle.graph.proofs.MemberLaws.{any_of_member, member_of_any}
use Rattle.graph.proofs.PathLaws.{cycle_of_larger}
use Rattle.graph.proofs.GreedyLaws.{free_of_next, least_of_next, no_next_of_free, cycle_of_stuck, write_of_stuck, write_of_next}
use Rattle.graph.proofs.LeftLaws.{in_of_placed, placed_of_in, left_of_new, new_of_left, left_subset, left_of_none, left_of_one_more}

module _ {A : Type 0} (arrow : A → A → Bool) (num : A → ℕ) (rows : List A) where
  -- ready is: no row that is left has an arrow to it
  pub free_of_ready : (before : List ℕ) (x : A) → Ready (Holds arrow) num rows before x → into arrow (left num rows before) x ≡ false
  free_of_ready before x h = false_of_not_true (into arrow (left num rows before) x) no_pred
    where
      no_pred : into arrow (left num rows before) x ≡ true → ⊥
      no_pred e =
          let (y, m, a) = member_of_any (λ s. arrow s x) (left num rows before) e in
          let (k, n) = new_of_left num rows before m in
          n (h y k a)

  pub ready_of_free : (before : List ℕ) (x : A) → into arrow (left num rows before) x ≡ false → Ready (Holds arrow) num rows before x
  ready_of_free before x f y m e = go (placed num before y) refl
    where
      go : (b : Bool) → placed num before y ≡ b → num y ∈ before
      go true p = in_of_placed num before y p
      go false p = absurd (true_not_false (any_of_member (λ s. arrow s x) (left_of_new num rows before m (λ n. true_not_false (placed_of_in num y n) p)) e) f)

  pub next_after_of_next : (before : List ℕ) (x : A) → next arrow num (left num rows before) ≡ some x → NextAfter (Holds arrow) num rows before x
  next_after_of_next before x e =
      let (m, f) = free_of_next arrow num (left num rows before) x e in
      let (k, n) = new_of_left num rows before m in
      record {
        row = k;
        new = n;
        ready = ready_of_free before x f;
        least = λ y l o r. least_of_next arrow num (left num rows before) x y e (left_of_new num rows before l o) (free_of_ready before y r);
      }

  pub next_of_next_after : (before : List ℕ) (x : A) → Distinct num rows → NextAfter (Holds arrow) num rows before x → next arrow num (left num rows before) ≡ some x
  next_of_next_after before x d h = go (next arrow num (left num rows before)) refl
    where
      go : (o : Option A) → next arrow num (left num rows before) ≡ o → next arrow num (left num rows before) ≡ some x
      go none e = absurd (no_next_of_free arrow num (left num rows before) x (left_of_new num rows before h.row h.new) (free_of_ready before x h.ready) e)
      go (some y) e =
          let k = next_after_of_next before y e in
          let p = h.least y k.row k.new k.ready in
          let q = k.least x h.row h.new h.ready in
          e ∙ ap {B = Option A} (λ z. some z) (d y x k.row h.row (omega arith))

  -- the loop: at its start, at a place, at its end, and where it finds no row to place
  pub greedy_of_left : greedy arrow num rows ≡ write arrow num (length rows) (left num rows [])
  unfolding greedy
  greedy_of_left = rw (left_of_none num rows)

  pub write_of_next_after : (k : ℕ) (before : List ℕ) (x : A) → Distinct num rows → NextAfter (Holds arrow) num rows before x
      → write arrow num (suc k) (left num rows before) ≡ num x ∷ write arrow num k (left num rows (before ++ num x ∷ []))
  write_of_next_after k before x d h =
      rw (write_of_next arrow num k (left num rows before) x (next_of_next_after before x d h), left_of_one_more num rows before x)

  -- the invariant of a loop that has written `before`: the order is `before`, and then what is written of the rows left
  pub order_of_one_more : (k : ℕ) (before : List ℕ) (x : A) → Distinct num rows → NextAfter (Holds arrow) num rows before x → greedy arrow num rows ≡ before ++ write arrow num (suc k) (left num rows before)
      → greedy arrow num rows ≡ (before ++ num x ∷ []) ++ write arrow num k (left num rows (before ++ num x ∷ []))
  order_of_one_more k before x d h e =
      e ∙ ap (λ (l : List ℕ). before ++ l) (write_of_next_after k before x d h) ∙ sym (append_snoc before (num x) (write arrow num k (left num rows (before ++ num x ∷ []))))

  pub write_of_no_next_after : (k : ℕ) (before : List ℕ) → ((x : A) → NextAfter (Holds arrow) num rows before x → ⊥) → write arrow num k (left num rows before) ≡ []
  unfolding write
  write_of_no_next_after zero before h = refl
  write_of_no_next_after (suc k) before h = go (next arrow num (left num rows before)) refl
    where
      go : (o : Option A) → next arrow num (left num rows before) ≡ o → write arrow num (suc k) (left num rows before) ≡ []
      go none e = write_of_stuck arrow num k (left num rows before) e
      go (some x) e = absurd (h x (next_after_of_next before x e))

  pub cycle_of_no_next_after : (before : List ℕ) (a : A) → a ∈ rows → (num a ∈ before → ⊥)
      → ((x : A) → x ∈ rows → (num x ∈ before → ⊥) → Ready (Holds arrow) num rows before x → ⊥) → Cycle (Holds arrow) rows
  cycle_of_no_next_after before a m n h = cycle_of_larger (left_subset num rows before) (go (next arrow num (left num rows before)) refl)
    where
      go : (o : Option A) → next arrow num (left num rows before) ≡ o → Cycle (Holds arrow) (left num rows before)
      go none e = cycle_of_stuck arrow num (left num rows before) e a (left_of_new num rows before m n)
      go (some x) e = let k = next_after_of_next before x e in absurd (h x k.row k.new k.ready)

  -- the row to place stands at place i of l, which stands after `before`
  abbrev NextAt : List ℕ → List ℕ → ℕ → ℕ → Type 0
  NextAt before l i n = (x : A) × (num x ≡ n) × NextAfter (Holds arrow) num rows (before ++ take i l) x

  next_at_of_cons : (before rest : List ℕ) (x : A) (n : ℕ) → NextAfter (Holds arrow) num rows before x
      → ((j : ℕ) → At rest j n → NextAt (before ++ num x ∷ []) rest j n) → (i : ℕ) → At (num x ∷ rest) i n → NextAt before (num x ∷ rest) i n
  next_at_of_cons before rest x n h r zero p = (x, p, rw (append-nil before) h)
  next_at_of_cons before rest x n h r (suc i) p =
      let (y, e, k) = r i p in
      (y, e, rw (append_snoc before (num x) (take i rest)) at k)

  next_at_of_write : (k : ℕ) (before : List ℕ) (n i : ℕ) → At (write arrow num k (left num rows before)) i n → NextAt before (write arrow num k (left num rows before)) i n
  unfolding write
  next_at_of_write zero before n i p = absurd p
  next_at_of_write (suc k) before n i p = go (λ x. next_at_of_write k (before ++ num x ∷ []) n) (next arrow num (left num rows before)) refl
    where
      rest : A → List ℕ
      rest x = write arrow num k (left num rows (before ++ num x ∷ []))

      go : ((x : A) (j : ℕ) → At (rest x) j n → NextAt (before ++ num x ∷ []) (rest x) j n) → (o : Option A) → next arrow num (left num rows before) ≡ o
          → NextAt before (write arrow num (suc k) (left num rows before)) i n
      go r none e = absurd (rw (write_of_stuck arrow num k (left num rows before) e) at p)
      go r (some x) e =
          let w : write arrow num (suc k) (left num rows before) ≡ num x ∷ rest x = rw (write_of_next arrow num k (left num rows before) x e, left_of_one_more num rows before x) in
          rw w (next_at_of_cons before (rest x) x n (next_after_of_next before x e) (r x) i (rw w at p))

  pub greedy_smallest_first : SmallestFirst (Holds arrow) num rows (greedy arrow num rows)
  greedy_smallest_first i n p = rw greedy_of_left (next_at_of_write (length rows) [] n i (rw greedy_of_left at p))

-- what stands at each place is settled by what stands before it, so two such orders are one
module _ {A : Type 0} (Arrow : A → A → Type 0) (num : A → ℕ) (rows : List A) where
  abbrev SmallestAfter : List ℕ → List ℕ → Type 0
  SmallestAfter before l = (i n : ℕ) → At l i n → (x : A) × (num x ≡ n) × NextAfter Arrow num rows (before ++ take i l) x

  smallest_tail : (before : List ℕ) (n : ℕ) (l : List ℕ) → SmallestAfter before (n ∷ l) → SmallestAfter (before ++ n ∷ []) l
  smallest_tail before n l h i m p = let (x, e, k) = h (suc i) m p in (x, e, rw (append_snoc before n (take i l)) k)

  same_head : (before : List ℕ) (n m : ℕ) (l k : List ℕ) → SmallestAfter before (n ∷ l) → SmallestAfter before (m ∷ k) → n ≡ m
  same_head before n m l k h g =
      let (x, e, p) = h zero n refl in
      let (y, f, q) = g zero m refl in
      let a = rw (append-nil before) at p in
      let b = rw (append-nil before) at q in
      omega (arith, a.least y b.row b.new b.ready, b.least x a.row a.new a.ready)

  same_of_smallest_after : (before l k : List ℕ) → length l ≡ length k → SmallestAfter before l → SmallestAfter before k → l ≡ k
  same_of_smallest_after before [] [] e h g = refl
  same_of_smallest_after before [] (m ∷ k) e h g = absurd (omega arith)
  same_of_smallest_after before (n ∷ l) [] e h g = absurd (omega arith)
  same_of_smallest_after before (n ∷ l) (m ∷ k) e h g =
      let p = same_head before n m l k h g in
      let q = same_of_smallest_after (before ++ n ∷ []) l k (omega arith) (smallest_tail before n l h) (rw p (smallest_tail before m k g)) in
      cc

  pub smallest_first_unique : (l k : List ℕ) → length l ≡ length k → SmallestFirst Arrow num rows l → SmallestFirst Arrow num rows k → l ≡ k
  smallest_first_unique l k = same_of_smallest_after [] l k
