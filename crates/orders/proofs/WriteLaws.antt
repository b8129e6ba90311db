-- What the writer answers: one of the four ways, and only one. Assumes nothing.
use mathlib.Core.Path.{◌≡◌, refl, sym, ap, ◌∙◌}
use mathlib.Core.Bool.{Bool, true, false, cond}
use mathlib.Core.List.{List}
use Prim.Native.Nat.{ℕ, ◌+◌}
use native.Mathlib.Omega.{arith}
use lib.Dec.{ltb}
use lib.ListN.{length}
use borrow.Author.Tests.{ltb-true, ltb-false}
use Rattle.endian.specs.Laid.{laid}
use Rattle.graph.specs.Path.{Holds}
use Rattle.graph.specs.Acyclic.{acyclic}
use Rattle.graph.specs.Order.{greedy}
use Rattle.graph.specs.Smallest.{NextAfter, SmallestFirst}
use Rattle.graph.proofs.AcyclicLaws.{no_cycle_of_acyclic, cycle_of_not_acyclic}
use Rattle.graph.proofs.PathLaws.{cycle_of_weaker}
use Rattle.graph.proofs.CountLaws.{length_of_order}
use Rattle.graph.proofs.SmallestLaws.{greedy_smallest_first, smallest_first_unique}
use Rattle.orders.specs.Entries.{Entry, number_of, EntryArrow, entry_arrowb, entries_in}
use Rattle.orders.specs.Good.{GoodRows, goodb}
use Rattle.orders.specs.Reply.{Reply}
use Rattle.orders.specs.Reply.Reply.{refused, wrote}
use Rattle.orders.specs.Order.{InOrder}
use Rattle.orders.specs.Write.{Written, Written.bad, Written.no_room, Written.no_order, Written.written, order_written, write_result}
use Rattle.orders.proofs.ArrowLaws.{arrowb→arrow, arrow→arrowb}
use Rattle.orders.proofs.GoodLaws.{goodb→good, bad_of_goodb}
use Rattle.orders.proofs.OrderLaws.{order_of_in_order, in_order_of_greedy, order_exists_iff_no_cycle}

-- a relation and its test have the same next row
next_of_test : (rows : List Entry) (before : List ℕ) (x : Entry) → NextAfter (Holds entry_arrowb) number_of rows before x → NextAfter EntryArrow number_of rows before x
next_of_test rows before x h = record {
  row = h.row;
  new = h.new;
  ready = λ y m a. h.ready y m (arrow→arrowb y.tickets x.tickets a);
  least = λ y m n r. h.least y m n (λ z k e. r z k (arrowb→arrow z.tickets y.tickets e));
}

pub smallest_first_of_greedy : (rows : List Entry) → SmallestFirst EntryArrow number_of rows (greedy entry_arrowb number_of rows)
smallest_first_of_greedy rows i n p =
    let (x, e, h) = greedy_smallest_first entry_arrowb number_of rows i n p in
    (x, e, next_of_test rows _ x h)

module _ (flat : List ℕ) (place : ℕ) (out : List ℕ) where
  pub write_result_lem : Written flat place out (write_result flat place out).0 (write_result flat place out).1
  unfolding write_result order_written
  write_result_lem = go (goodb flat) refl (ltb (length out) (place + length (entries_in flat))) refl (acyclic entry_arrowb (entries_in flat)) refl
    where
      answer : Bool → Bool → Bool → Reply × List ℕ
      answer b c d = cond b (cond c (refused 14, out) (cond d (order_written flat place out (greedy entry_arrowb number_of (entries_in flat))) (refused 12, out))) (refused 13, out)

      go : (b : Bool) → goodb flat ≡ b → (c : Bool) → ltb (length out) (place + length (entries_in flat)) ≡ c → (d : Bool) → acyclic entry_arrowb (entries_in flat) ≡ d
          → Written flat place out (answer b c d).0 (answer b c d).1
      go false e c f d h = bad refl refl (bad_of_goodb flat e)
      go true e true f d h = no_room refl refl (goodb→good flat e) (λ r. omega (arith, ltb-true (length out) (place + length (entries_in flat)) f))
      go true e false f false h =
          let g = goodb→good flat e in
          no_order refl refl g (ltb-false (length out) (place + length (entries_in flat)) f)
          (λ o. (order_exists_iff_no_cycle (entries_in flat) g.apart.numbers).0 o
          (cycle_of_weaker (λ q r. arrowb→arrow q.tickets r.tickets) (cycle_of_not_acyclic entry_arrowb (entries_in flat) h)))
      go true e false f true h =
          let g = goodb→good flat e in
          written (greedy entry_arrowb number_of (entries_in flat)) refl refl g (ltb-false (length out) (place + length (entries_in flat)) f)
          (in_order_of_greedy (entries_in flat) g.apart.numbers
          (λ c. no_cycle_of_acyclic entry_arrowb (entries_in flat) h (cycle_of_weaker (λ q r. arrow→arrowb q.tickets r.tickets) c)))
          (smallest_first_of_greedy (entries_in flat))

  -- the order that is written is settled by the rows
  same_order : GoodRows flat → (o p : List ℕ) → InOrder (entries_in flat) o → SmallestFirst EntryArrow number_of (entries_in flat) o
      → InOrder (entries_in flat) p → SmallestFirst EntryArrow number_of (entries_in flat) p → o ≡ p
  same_order g o p a s b t = smallest_first_unique EntryArrow number_of (entries_in flat) o p
      (length_of_order number_of (entries_in flat) o g.apart.numbers (order_of_in_order a) ∙ sym (length_of_order number_of (entries_in flat) p g.apart.numbers (order_of_in_order b))) s t

  pub write_unique : (q r : Reply) (a b : List ℕ) → Written flat place out q a → Written flat place out r b → (q ≡ r) × (a ≡ b)
  write_unique q r a b (bad e k n) (bad f l m) = (e ∙ sym f, k ∙ sym l)
  write_unique q r a b (bad e k n) (no_room f l g h) = absurd (n g)
  write_unique q r a b (bad e k n) (no_order f l g h i) = absurd (n g)
  write_unique q r a b (bad e k n) (written o f l g h i s) = absurd (n g)
  write_unique q r a b (no_room e k g n) (bad f l m) = absurd (m g)
  write_unique q r a b (no_room e k g n) (no_room f l h m) = (e ∙ sym f, k ∙ sym l)
  write_unique q r a b (no_room e k g n) (no_order f l h m i) = absurd (n m)
  write_unique q r a b (no_room e k g n) (written o f l h m i s) = absurd (n m)
  write_unique q r a b (no_order e k g n x) (bad f l m) = absurd (m g)
  write_unique q r a b (no_order e k g n x) (no_room f l h m) = absurd (m n)
  write_unique q r a b (no_order e k g n x) (no_order f l h m i) = (e ∙ sym f, k ∙ sym l)
  write_unique q r a b (no_order e k g n x) (written o f l h m i s) = absurd (x (o, i))
  write_unique q r a b (written o e k g n x s) (bad f l m) = absurd (m g)
  write_unique q r a b (written o e k g n x s) (no_room f l h m) = absurd (m n)
  write_unique q r a b (written o e k g n x s) (no_order f l h m i) = absurd (i (o, x))
  write_unique q r a b (written o e k g n x s) (written p f l h m y t) =
      let z = same_order g o p x s y t in
      (e ∙ ap {B = Reply} (λ w. wrote (length w)) z ∙ sym f, k ∙ ap (laid out place) z ∙ sym l)
