-- The test `orderb` passes exactly the orders, where no two rows have the same number. Assumes nothing.
-- A number missing from an order that is otherwise sound would make it shorter than the rows are many.
use mathlib.Core.Path.{◌≡◌, refl, sym}
use mathlib.Core.Bool.{Bool, true, false, not, ◌&&◌}
use mathlib.Core.List.Memᴰ
use mathlib.Core.List.{List, [], ◌∷◌, ◌++◌, map, append-nil}
use Prim.Native.Nat.{ℕ, zero, suc, ◌<◌}
use native.Mathlib.Omega.{arith}
use native.Mathlib.Decide.{dec_lt}
use lib.Dec.{eqb}
use lib.ListN.{length, take, length-map}
use lib.Seq.{append_snoc}
use borrow.Author.Tests.{eqb-true, eq-eqb}
use Rattle.graph.specs.Lists.{◌∈◌, ◌⊆◌, At, Once, any_of}
use Rattle.graph.specs.Path.{Holds}
use Rattle.graph.specs.Order.{OrderOf}
use Rattle.graph.specs.Smallest.{placed, Ready}
use Rattle.graph.specs.Check.{unready, may_stand, all_stand, orderb}
use Rattle.graph.proofs.TestLaws.{true_not_false, both_of_and, and_of_both, false_of_not, not_of_false, false_of_not_true}
use Rattle.graph.proofs.MemberLaws.{any_of_member, member_of_any}
use Rattle.graph.proofs.PlaceLaws.{at_of_member, member_of_at, at_of_take, take_of_at}
use Rattle.graph.proofs.CountLaws.{all_of_once, length_of_order, distinct_of_once}
use Rattle.graph.proofs.LeftLaws.{in_of_placed, placed_of_in}

-- of numbers, each may stand once
once_of_new : (l : List ℕ) → ((i n : ℕ) → At l i n → ¬ (n ∈ take i l)) → Once l
once_of_new l h n i j p q = go (dec_lt i j) (dec_lt j i)
  where
    go : Dec (i < j) → Dec (j < i) → i ≡ j
    go (yes a) b = absurd (h j n q (member_of_at (take j l) i (take_of_at j l i n a p)))
    go (no a) (yes b) = absurd (h i n p (member_of_at (take i l) j (take_of_at i l j n b q)))
    go (no a) (no b) = omega arith

module _ {A : Type 0} (arrow : A → A → Bool) (num : A → ℕ) (rows : List A) where
  -- what `may_stand` says
  pub record Stands (before : List ℕ) (n : ℕ) : Type 0 where
    pub new : ¬ (n ∈ before)
    pub row : A
    pub member : row ∈ rows
    pub named : num row ≡ n
    pub ready : Ready (Holds arrow) num rows before row

  ready_of_test : (before : List ℕ) (x : A) → unready arrow num rows before x ≡ false → Ready (Holds arrow) num rows before x
  ready_of_test before x e y m a = go (placed num before y) refl
    where
      go : (b : Bool) → placed num before y ≡ b → num y ∈ before
      go true p = in_of_placed num before y p
      go false p = absurd (true_not_false (any_of_member (λ z. arrow z x && not (placed num before z)) m (and_of_both a (not_of_false p))) e)

  test_of_ready : (before : List ℕ) (x : A) → Ready (Holds arrow) num rows before x → unready arrow num rows before x ≡ false
  test_of_ready before x r = false_of_not_true (unready arrow num rows before x) waits
    where
      waits : unready arrow num rows before x ≡ true → ⊥
      waits e =
          let (y, m, t) = member_of_any (λ z. arrow z x && not (placed num before z)) rows e in
          let (a, p) = both_of_and (arrow y x) (not (placed num before y)) t in
          true_not_false (placed_of_in num y (r y m a)) (false_of_not (placed num before y) p)

  pub may_stand→stands : (before : List ℕ) (n : ℕ) → may_stand arrow num rows before n ≡ true → Stands before n
  unfolding may_stand
  may_stand→stands before n e =
      let (f, g) = both_of_and (not (any_of (eqb n) before)) (any_of (λ x. eqb (num x) n && not (unready arrow num rows before x)) rows) e in
      let (x, m, h) = member_of_any (λ x. eqb (num x) n && not (unready arrow num rows before x)) rows g in
      let (p, r) = both_of_and (eqb (num x) n) (not (unready arrow num rows before x)) h in
      record {
        new = λ k. true_not_false (any_of_member (eqb n) k (eq-eqb n n refl)) (false_of_not (any_of (eqb n) before) f);
        row = x;
        member = m;
        named = eqb-true (num x) n p;
        ready = ready_of_test before x (false_of_not (unready arrow num rows before x) r);
      }

  pub stands→may_stand : (before : List ℕ) (n : ℕ) → Stands before n → may_stand arrow num rows before n ≡ true
  unfolding may_stand
  stands→may_stand before n s = and_of_both
      (not_of_false (false_of_not_true (any_of (eqb n) before) (λ e. let (k, m, p) = member_of_any (eqb n) before e in s.new (Memᴰ.cast (eqb-true n k p) m))))
      (any_of_member (λ x. eqb (num x) n && not (unready arrow num rows before x)) s.member
      (and_of_both (eq-eqb (num s.row) n s.named) (not_of_false (test_of_ready before s.row s.ready))))

  -- of the places of a list that stands after `before`
  abbrev StandAfter : List ℕ → List ℕ → Type 0
  StandAfter before l = (i n : ℕ) → At l i n → Stands (before ++ take i l) n

  stand_of_all_stand : (before l : List ℕ) → all_stand arrow num rows before l ≡ true → StandAfter before l
  unfolding all_stand
  stand_of_all_stand before [] e i n p = absurd p
  stand_of_all_stand before (k ∷ l) e zero n p =
      rw (append-nil before) (may_stand→stands before n (rw p at (both_of_and (may_stand arrow num rows before k) (all_stand arrow num rows (before ++ k ∷ []) l) e).0))
  stand_of_all_stand before (k ∷ l) e (suc i) n p =
      rw (append_snoc before k (take i l)) at
      (stand_of_all_stand (before ++ k ∷ []) l (both_of_and (may_stand arrow num rows before k) (all_stand arrow num rows (before ++ k ∷ []) l) e).1 i n p)

  all_stand_of_stand : (before l : List ℕ) → StandAfter before l → all_stand arrow num rows before l ≡ true
  unfolding all_stand
  all_stand_of_stand before [] h = refl
  all_stand_of_stand before (k ∷ l) h = and_of_both
      (stands→may_stand before k (rw (append-nil before) at (h zero k refl)))
      (all_stand_of_stand (before ++ k ∷ []) l (λ i n p. rw (append_snoc before k (take i l)) (h (suc i) n p)))

  module _ (d : Once (map num rows)) (order : List ℕ) where
    order_of_stand : StandAfter [] order → length order ≡ length rows → OrderOf (Holds arrow) num rows order
    order_of_stand h l = record { once = once; each = each; only = only; arrows = earlier }
      where
        once : Once order
        once = once_of_new order (λ i n p. (h i n p).new)

        named : order ⊆ map num rows
        named n m = let (i, p) = at_of_member m in let s = h i n p in Memᴰ.cast (sym s.named) (Memᴰ.map num s.member)

        each : (x : A) → x ∈ rows → (i : ℕ) × At order i (num x)
        each x m = at_of_member (all_of_once order (map num rows) once named (omega (arith, length-map rows num)) d (num x) (Memᴰ.map num m))

        only : (n i : ℕ) → At order i n → (x : A) × (x ∈ rows) × (num x ≡ n)
        only n i p = let s = h i n p in (s.row, s.member, s.named)

        earlier : (x y : A) → x ∈ rows → y ∈ rows → arrow x y ≡ true → (i j : ℕ) → At order i (num x) → At order j (num y) → i < j
        earlier x y m n a i j p q =
            let s = h j (num y) q in
            let e = distinct_of_once num rows d s.row y s.member n s.named in
            let (k, r) = at_of_member (s.ready x m (rw e a)) in
            let (g, t) = at_of_take j order k (num x) r in
            omega (arith, once (num x) i k p t)

    stand_of_order : OrderOf (Holds arrow) num rows order → StandAfter [] order
    stand_of_order o i n p =
        let (x, m, e) = o.only n i p in
        record {
          new = λ k. let (j, q) = at_of_member k in let (g, t) = at_of_take i order j n q in omega (arith, o.once n i j p t);
          row = x;
          member = m;
          named = e;
          ready = λ y k a.
              let (j, q) = o.each y k in
              member_of_at (take i order) j (take_of_at i order j (num y) (o.arrows y x k m a j i q (rw e p)) q);
        }

    pub orderb→order : orderb arrow num rows order ≡ true → OrderOf (Holds arrow) num rows order
    unfolding orderb
    orderb→order e =
        let (a, b) = both_of_and (all_stand arrow num rows [] order) (eqb (length order) (length rows)) e in
        order_of_stand (stand_of_all_stand [] order a) (eqb-true (length order) (length rows) b)

    pub order→orderb : OrderOf (Holds arrow) num rows order → orderb arrow num rows order ≡ true
    unfolding orderb
    order→orderb o = and_of_both (all_stand_of_stand [] order (stand_of_order o)) (eq-eqb (length order) (length rows) (length_of_order num rows order d o))
