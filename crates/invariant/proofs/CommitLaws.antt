-- An active row is committed: it and the kept rows make no cycle, and it holds no ticket of theirs; its last number is the table's, and the highest tickets rise
-- to its own. Then all that were ever committed make no cycle, and it differs from each of them. Assumes nothing.
use mathlib.Core.Path.{◌≡◌, sym, ap, subst}
use mathlib.Core.Logic.{◌≢◌, ◌⊎◌, inl, inr}
use mathlib.Core.List.Memᴰ
use mathlib.Core.List.Memᴰ.{head as here}
use mathlib.Core.List.Memᴰ.{tail as behind}
use mathlib.Core.List.{List, ◌∷◌}
use Prim.Native.Nat.{ℕ, ◌≤◌}
use native.Mathlib.Omega.{arith}
use Rattle.graph.specs.Lists.{◌∈◌}
use Rattle.graph.specs.Path.{Cycle}
use Rattle.orders.specs.Arrow.{Tickets, ticket_at, Arrow}
use Rattle.orders.specs.Entries.{Entry, EntryArrow}
use Rattle.orders.proofs.GoodLaws.{apart_of_cons}
use Rattle.method.specs.declared.Stage.{Stage}
use Rattle.method.specs.declared.Row.{Row}
use Rattle.method.specs.Slots.{entry_of}
use Rattle.method.specs.Records.{part_at, tickets_of}
use Rattle.method.proofs.RecordLaws.{never}
use Rattle.method.specs.Seen.{IsActive, IsCommitted, num, Has, base, tick}
use Rattle.invariant.specs.Sound.{Differs, RowSound, PairSound, Past, Still, Gone, EntrySound, Sound}
use Rattle.invariant.proofs.ChangeLaws.{Changed, not_committed, not_free, every, both, there, keeps}
use Rattle.invariant.proofs.NewestLaws.{Keeps, unpointed, no_clash, no_new_cycle}

-- row q, once committed, is row r
pub record Sealed (last : ℕ) (q r : Row) : Type 0 where
  pub was : IsActive q
  pub is : IsCommitted r
  pub same : entry_of r ≡ entry_of q
  pub sites : (s : ℕ) → Has q s → Has r s
  pub sites' : (s : ℕ) → Has r s → Has q s
  pub bases : (s : ℕ) → base r s ≡ base q s
  pub prepared : (s : ℕ) → Has r s → (part_at r s).stage ≡ Stage.Prepared
  pub mark : r.last.0 ≡ last

module _ {row row' : ℕ → Row} {i : ℕ} {r : Row} (ch : Changed row i r row') (last : ℕ) (d : Sealed last (row i) r)
    (ks : List Entry) (kk : Keeps row ks) (fine : ¬ Cycle EntryArrow (entry_of (row i) ∷ ks)) (new : (j : ℕ) → IsCommitted (row j) → Differs (row i) (row j))
    (high high' : ℕ → ℕ) (up : (s : ℕ) → high s ≤ high' s) (own : (s : ℕ) → tick (row i) s ≤ high' s)
    (es : List Entry) (v : Sound row high last es) where
  num_same : num r ≡ num (row i)
  unfolding entry_of
  num_same = ap (λ (y : Entry). y.number) d.same

  tickets_same : tickets_of r ≡ tickets_of (row i)
  unfolding entry_of
  tickets_same = ap (λ (y : Entry). y.tickets) d.same

  tick_same : (s : ℕ) → tick r s ≡ tick (row i) s
  tick_same s = ap (λ (ts : Tickets). ticket_at ts s) tickets_same

  old : RowSound high last (row i)
  old = v.rows i

  row_sound : RowSound high' last r
  row_sound = record {
    blank = λ f. let z = d.is in never (cc);
    named = λ n. omega (arith, num_same, old.named (not_free d.was));
    counted = omega (arith, num_same, old.counted);
    marked = omega (arith, d.mark);
    listed = λ s h. d.sites s (old.listed s (omega (arith, tick_same s)));
    over = λ s h. omega (arith, tick_same s, d.bases s, old.over s (omega (arith, tick_same s)));
    based = λ s h. omega (arith, d.bases s, old.based s (d.sites' s h), up s);
    below = λ c s. omega (arith, tick_same s, own s);
    prepared = λ c. d.prepared;
  }

  rows : (j : ℕ) → RowSound high' last (row j)
  rows j = let o = v.rows j in record {
    blank = o.blank;
    named = o.named;
    counted = o.counted;
    marked = o.marked;
    listed = o.listed;
    over = o.over;
    based = λ s h. omega (arith, o.based s h, up s);
    below = λ c s. omega (arith, o.below c s, up s);
    prepared = o.prepared;
  }

  left : (j : ℕ) → j ≢ i → PairSound r (row j)
  left j n = let p = v.pairs i j (λ e. n (sym e)) in record {
    numbers = λ h. omega (arith, num_same, p.numbers (omega (arith, num_same)));
    tickets = λ c e s h. omega (arith, tick_same s, new j e s (omega (arith, tick_same s)));
    later = λ c a h. absurd (omega (arith, (v.rows j).counted, d.mark));
  }

  right : (j : ℕ) → j ≢ i → PairSound (row j) r
  right j n = let p = v.pairs j i n in record {
    numbers = λ h. omega (arith, num_same, p.numbers h);
    tickets = λ e c s h x. new j e s (omega (arith, x, tick_same s)) (omega (arith, x, tick_same s));
    later = λ c a. absurd (not_committed a d.is);
  }

  past : (e : Entry) → Past e (row i) → Past e r
  past e p = record {
    unpointed = λ c. subst (λ (y : Tickets). ¬ Arrow y e.tickets) (sym tickets_same) (unpointed v i d.was e p);
    other = λ a. absurd (not_committed a d.is);
    above = λ a. absurd (not_committed a d.is);
  }

  place : (e : Entry) → Still row e ⊎ Gone row e → Still row' e ⊎ Gone row' e
  place e (inl k) = inl (keeps ch (not_committed d.was) k)
  place e (inr g) = inr (every ch (Past e) (past e (g i)) (λ j n. g j))

  newest : EntrySound row' high' last (entry_of (row i))
  unfolding entry_of
  newest = record {
    counted = old.counted;
    below = own;
    place = inl (i, there ch IsCommitted d.is, there ch (λ (x : Row). entry_of x ≡ entry_of (row i)) d.same);
  }

  entries : (e : Entry) → e ∈ entry_of (row i) ∷ es → EntrySound row' high' last e
  entries e m = elim (Memᴰ.cases_cons m) [
    | inl q ↦ subst (EntrySound row' high' last) (sym q) newest
    | inr n ↦ let o = v.entries e n in record { counted = o.counted; below = λ s. omega (arith, o.below s, up s); place = place e o.place }
  ]

  pub sound_committed : Sound row' high' last (entry_of (row i) ∷ es)
  sound_committed = record {
    rows = every ch (RowSound high' last) row_sound (λ j n. rows j);
    pairs = both ch PairSound left right v.pairs;
    entries = entries;
    noted = every ch (λ (x : Row). IsCommitted x → entry_of x ∈ entry_of (row i) ∷ es) (λ c. here d.same) (λ j n c. behind (v.noted j c));
    apart = apart_of_cons (entry_of (row i)) es (no_clash v i d.was new) v.apart;
    acyclic = no_new_cycle v i d.was ks kk fine;
  }
