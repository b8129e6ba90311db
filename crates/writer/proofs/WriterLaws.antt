-- What the writer answers and leaves at each of its returns. Assumes nothing.
use mathlib.Core.Path.{◌≡◌, refl, sym, ap, ◌∙◌}
use mathlib.Core.Bool.{true, false}
use mathlib.Core.List.{List}
use Prim.Native.Nat.{ℕ, ◌+◌, ◌/◌, ◌<◌, ◌≤◌}
use native.Mathlib.Omega.{arith}
use lib.Dec.{eqb}
use Rattle.std.specs.Prelude.{Option, Some, None, Ok, Err}
use Rattle.std.specs.Option.{ok_or}
use Rattle.refusals.specs.declared.Refusal.{Refusal}
use Rattle.writer.specs.Picks.{Picked}
use lib.ListN.{length, take}
use lib.Seq.{length-take-le}
use borrow.Author.Tests.{lt-ltb, le-ltb}
use Rattle.endian.specs.Laid.{laid}
use Rattle.graph.specs.Acyclic.{acyclic}
use Rattle.graph.specs.Order.{greedy}
use Rattle.graph.proofs.FullLaws.{acyclic_of_length}
use Rattle.orders.specs.Entries.{number_of, entry_arrowb, entries_in}
use Rattle.orders.specs.Good.{GoodRows, goodb}
use Rattle.orders.specs.Reply.{Reply}
use Rattle.orders.specs.Reply.Reply.{refused, wrote}
use Rattle.orders.specs.Write.{order_written, write_result}
use Rattle.orders.proofs.EntriesLaws.{length_entries_in}
use Rattle.orders.proofs.GoodLaws.{goodb→good}

-- how many numbers were picked tells whether there is an order
pub acyclic_of_count : (flat : List ℕ) → GoodRows flat → (numbers : List ℕ) (k : ℕ) → length numbers ≡ 32 → k ≤ 32 → take k numbers ≡ greedy entry_arrowb number_of (entries_in flat)
    → acyclic entry_arrowb (entries_in flat) ≡ eqb k (length flat / 9)
acyclic_of_count flat g numbers k size within order =
    let count : length (greedy entry_arrowb number_of (entries_in flat)) ≡ k = ap length (sym order) ∙ length-take-le k numbers (omega arith) in
    acyclic_of_length entry_arrowb number_of (entries_in flat) g.apart.numbers ∙ rw (count, length_entries_in flat)

module _ (flat : List ℕ) (place : ℕ) (out : List ℕ) where
  -- it answers this and leaves that
  abbrev pub Leaves : Reply → List ℕ → Type 0
  Leaves r after = (r ≡ (write_result flat place out).0) × (after ≡ (write_result flat place out).1)

  pub leaves_bad : goodb flat ≡ false → Leaves (refused 13) out
  unfolding write_result
  leaves_bad e = rw e (refl, refl)

  module _ (g : goodb flat ≡ true) where
    pub leaves_no_room : length out < place + length flat / 9 → Leaves (refused 14) out
    unfolding write_result
    leaves_no_room h = rw (g, length_entries_in flat, lt-ltb (length out) (place + length flat / 9) h) (refl, refl)

    module _ (h : place + length flat / 9 ≤ length out) where
      pub leaves_no_order : acyclic entry_arrowb (entries_in flat) ≡ false → Leaves (refused 12) out
      unfolding write_result
      leaves_no_order e = rw (g, length_entries_in flat, le-ltb (length out) (place + length flat / 9) h, e) (refl, refl)

      pub leaves_order : acyclic entry_arrowb (entries_in flat) ≡ true → (o : List ℕ) → o ≡ greedy entry_arrowb number_of (entries_in flat) → Leaves (wrote (length o)) (laid out place o)
      unfolding write_result order_written
      leaves_order e o q = rw (g, length_entries_in flat, le-ltb (length out) (place + length flat / 9) h, e, q) (refl, refl)

      pub leaves_numbers : acyclic entry_arrowb (entries_in flat) ≡ true → (numbers : List ℕ) → length numbers ≡ 32 → take (length flat / 9) numbers ≡ greedy entry_arrowb number_of (entries_in flat)
          → Leaves (wrote (length flat / 9)) (laid out place (take (length flat / 9) numbers))
      leaves_numbers e numbers size order =
          let n : length (take (length flat / 9) numbers) ≡ length flat / 9 = length-take-le (length flat / 9) numbers (omega (arith, size, (goodb→good flat g).few)) in
          let r = leaves_order e (take (length flat / 9) numbers) order in
          (ap {B = Reply} (λ m. wrote m) (sym n) ∙ r.0, r.1)

-- what is said of a pick that was turned into an answer
module _ (flat : List ℕ) where
  pub refused_of_picked : (p : Option (List ℕ)) → Picked flat p → (r : Refusal) → ok_or p Refusal.NoOrder ≡ Err r → (acyclic entry_arrowb (entries_in flat) ≡ false) × (r ≡ Refusal.NoOrder)
  refused_of_picked None h r e = (h, cc)
  refused_of_picked (Some l) h r e = absurd (cc)

  pub numbers_of_picked : (p : Option (List ℕ)) → Picked flat p → (l : List ℕ) → ok_or p Refusal.NoOrder ≡ Ok l → Picked flat (Some l)
  numbers_of_picked None h l e = absurd (cc)
  numbers_of_picked (Some m) h l e = let q : m ≡ l = cc in rw (sym q) h
