-- On every table that calls can give, the kept rows are a good ticket table and have an order: the service never answers 12
-- or 13. Assumes nothing.
use mathlib.Core.Path.{◌≡◌, sym, ap, ◌∙◌}
use mathlib.Core.Bool.{true, false}
use mathlib.Core.List.Memᴰ
use mathlib.Core.List.{List, [], ◌∷◌, map}
use mathlib.Core.Logic.{◌≢◌, ◌⊎◌, inl, inr}
use Prim.Native.Nat.{ℕ, zero, suc, ◌<◌}
use native.Mathlib.Omega.{arith}
use lib.ListN.{length, get_or, length-map}
use Rattle.graph.specs.Lists.{◌∈◌, ◌⊆◌, keep}
use Rattle.graph.proofs.TestLaws.{true_or_false}
use Rattle.graph.proofs.MemberLaws.{keep_of_true, keep_of_false, length_keep_le}
use Rattle.graph.proofs.PathLaws.{cycle_of_larger}
use Rattle.orders.specs.Entries.{Entry, entries_in}
use Rattle.orders.specs.Good.{Apart, Clash, GoodRows}
use Rattle.orders.specs.Order.{InOrder}
use Rattle.orders.proofs.EntriesLaws.{length_flat_of, entries_of_flat}
use Rattle.orders.proofs.GoodLaws.{apart_of_cons, apart_of_nil}
use Rattle.orders.proofs.OrderLaws.{order_exists_iff_no_cycle}
use Rattle.method.specs.declared.Row.{Row}
use Rattle.method.specs.declared.Table.{Table}
use Rattle.method.specs.Records.{past_end, row_at, committed}
use Rattle.method.specs.Slots.{kept, entry_of, kept_entries, kept_flat}
use Rattle.method.proofs.RecordLaws.{never, committed_iff}
use Rattle.method.proofs.SlotLaws.{place_of_kept}
use Rattle.method.proofs.RowLaws.{length_tickets}
use Rattle.method.specs.Seen.{IsFree, IsCommitted, num}
use Rattle.invariant.specs.Sound.{PairSound}
use Rattle.invariant.specs.Invariant.{Invariant}

not_free_of_committed : (r : Row) → committed r ≡ true → ¬ IsFree r
not_free_of_committed r e f = let c = (committed_iff r.state).0 e in never (cc)

-- rows in different slots that are sound together differ
apart_of_slots : (rs : List Row) → ((i : ℕ) → ¬ IsFree (get_or rs i past_end) → 0 < num (get_or rs i past_end))
    → ((i j : ℕ) → i ≢ j → PairSound (get_or rs i past_end) (get_or rs j past_end)) → Apart (map entry_of (keep committed rs))
unfolding entry_of
apart_of_slots [] n p = apart_of_nil
apart_of_slots (x ∷ rs) n p = go (true_or_false (committed x)) (apart_of_slots rs (λ i. n (suc i)) (λ i j d. p (suc i) (suc j) (λ e. d (omega arith))))
  where
    differ : committed x ≡ true → (j : ℕ) (r : Row) → get_or rs j past_end ≡ r → committed r ≡ true → ¬ Clash (entry_of x) (entry_of r)
    differ c j r e d (inl k) = (p zero (suc j) (λ z. omega arith)).numbers (n zero (not_free_of_committed x c)) (rw e k)
    differ c j r e d (inr (s, h, k)) =
        (p zero (suc j) (λ z. omega arith)).tickets ((committed_iff x.state).0 c) (rw e ((committed_iff r.state).0 d)) s h (rw e k)

    no_clash : committed x ≡ true → (e : Entry) → e ∈ map entry_of (keep committed rs) → ¬ Clash (entry_of x) e
    no_clash c e m =
        let (r, l, q) = Memᴰ.of_map entry_of (keep committed rs) m in
        let (j, h, f, d) = place_of_kept committed rs past_end l in
        rw (sym q) (differ c j r f d)

    go : (committed x ≡ true) ⊎ (committed x ≡ false) → Apart (map entry_of (keep committed rs)) → Apart (map entry_of (keep committed (x ∷ rs)))
    go (inl c) a = rw (keep_of_true committed x rs c) (apart_of_cons (entry_of x) (map entry_of (keep committed rs)) (no_clash c) a)
    go (inr c) a = rw (keep_of_false committed x rs c) a

module _ (t : Table) (es : List Entry) (v : Invariant t es) where
  kept_slot : (r : Row) → r ∈ kept t → (i : ℕ) × (i < 32) × (row_at t i ≡ r) × IsCommitted r
  unfolding kept
  kept_slot r m = let (i, h, e, c) = place_of_kept committed t.rows past_end m in (i, omega (arith, v.shape.slots), e, (committed_iff r.state).0 c)

  eight : (e : Entry) → e ∈ kept_entries t → length e.tickets ≡ 8
  unfolding entry_of
  eight e m =
      let (r, l, q) = Memᴰ.of_map entry_of (kept t) m in
      let (i, h, f, c) = kept_slot r l in
      rw (sym q) (length_tickets r ∙ rw (sym f) (v.shape.parts i h))

  -- the flat list says the same as the rows
  pub rows_of_kept : entries_in (kept_flat t) ≡ kept_entries t
  rows_of_kept = entries_of_flat (kept_entries t) eight

  pub kept_apart : Apart (kept_entries t)
  unfolding kept
  kept_apart = apart_of_slots t.rows (λ i. (v.sound.rows i).named) v.sound.pairs

  kept_named : (e : Entry) → e ∈ kept_entries t → 0 < e.number
  unfolding entry_of
  kept_named e m =
      let (r, l, q) = Memᴰ.of_map entry_of (kept t) m in
      let (i, h, f, c) = kept_slot r l in
      rw (sym q, sym f) ((v.sound.rows i).named (λ z. let k : (row_at t i).state ≡ r.state = ap (λ (x : Row). x.state) f in never (cc)))

  pub kept_good : GoodRows (kept_flat t)
  unfolding kept
  kept_good =
      let l = length_flat_of (kept_entries t) eight in
      let m = length-map (kept t) entry_of in
      let k = length_keep_le committed t.rows in
      record {
        whole = omega arith;
        few = omega (arith, v.shape.slots);
        named = λ e i. kept_named e (rw rows_of_kept at i);
        apart = rw rows_of_kept kept_apart;
      }

  -- they are among all that was committed, which makes no cycle
  pub kept_ordered : (order : List ℕ) × InOrder (kept_entries t) order
  kept_ordered = (order_exists_iff_no_cycle (kept_entries t) kept_apart.numbers).1 (λ c. v.sound.acyclic (cycle_of_larger among c))
    where
      among : kept_entries t ⊆ es
      among e m =
          let (r, l, q) = Memᴰ.of_map entry_of (kept t) m in
          let (i, h, f, c) = kept_slot r l in
          rw (sym q, sym f) (v.sound.noted i (rw f c))
