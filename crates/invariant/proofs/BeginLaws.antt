-- A new active row in a slot that held no committed one: a number above all, no tickets, and for a base the highest ticket of
-- each of its sites. Assumes nothing.
use mathlib.Core.Path.{◌≡◌}
use mathlib.Core.Logic.{◌≢◌, ◌⊎◌, inl, inr}
use mathlib.Core.List.{List}
use Prim.Native.Nat.{ℕ, ◌+◌, ◌≤◌}
use native.Mathlib.Omega.{arith}
use Rattle.graph.specs.Lists.{◌∈◌}
use Rattle.orders.specs.Arrow.{Tickets, ticket_at}
use Rattle.orders.specs.Entries.{Entry}
use Rattle.method.specs.declared.Row.{Row}
use Rattle.method.specs.Records.{tickets_of}
use Rattle.method.specs.Slots.{entry_of}
use Rattle.method.specs.Seen.{IsActive, IsCommitted, num, Has, base, tick}
use Rattle.invariant.specs.Sound.{Above, RowSound, PairSound, Past, Still, Gone, EntrySound, Sound}
use Rattle.invariant.proofs.ChangeLaws.{Changed, not_committed, not_free, every, both, keeps}

pub record Fresh (high : ℕ → ℕ) (last : ℕ) (r : Row) : Type 0 where
  pub is : IsActive r
  pub number : num r ≡ last + 1
  pub unmarked : r.last.0 ≡ 0
  pub empty : (s : ℕ) → tick r s ≡ 0
  pub bases : (s : ℕ) → Has r s → base r s ≡ high s

module _ {row row' : ℕ → Row} {i : ℕ} {r : Row} (ch : Changed row i r row') (free : ¬ IsCommitted (row i))
    (high : ℕ → ℕ) (last : ℕ) (f : Fresh high last r) (es : List Entry) (v : Sound row high last es) where
  above : (ts : Tickets) → ((s : ℕ) → ticket_at ts s ≤ high s) → Above r ts
  unfolding Above
  above ts a s h = omega (arith, a s, f.bases s h)

  row_sound : RowSound high (last + 1) r
  row_sound = record {
    blank = λ x. absurd (not_free f.is x);
    named = λ n. omega (arith, f.number);
    counted = omega (arith, f.number);
    marked = omega (arith, f.unmarked);
    listed = λ s h. absurd (omega (arith, f.empty s));
    over = λ s h. absurd (omega (arith, f.empty s));
    based = λ s h. omega (arith, f.bases s h);
    below = λ c. absurd (not_committed f.is c);
    prepared = λ c. absurd (not_committed f.is c);
  }

  rows : (j : ℕ) → RowSound high (last + 1) (row j)
  rows j = let o = v.rows j in record {
    blank = o.blank;
    named = o.named;
    counted = omega (arith, o.counted);
    marked = omega (arith, o.marked);
    listed = o.listed;
    over = o.over;
    based = o.based;
    below = o.below;
    prepared = o.prepared;
  }

  left : (j : ℕ) → j ≢ i → PairSound r (row j)
  left j n = record {
    numbers = λ h. omega (arith, f.number, (v.rows j).counted);
    tickets = λ c. absurd (not_committed f.is c);
    later = λ c. absurd (not_committed f.is c);
  }

  right : (j : ℕ) → j ≢ i → PairSound (row j) r
  right j n = record {
    numbers = λ h. omega (arith, f.number, (v.rows j).counted);
    tickets = λ c d. absurd (not_committed f.is d);
    later = λ c a h. above (tickets_of (row j)) ((v.rows j).below c);
  }

  past : (e : Entry) → EntrySound row high last e → Past e r
  past e o = record {
    unpointed = λ c. absurd (not_committed f.is c);
    other = λ a. omega (arith, f.number, o.counted);
    above = λ a. above e.tickets o.below;
  }

  place : (e : Entry) → EntrySound row high last e → Still row e ⊎ Gone row e → Still row' e ⊎ Gone row' e
  place e o (inl k) = inl (keeps ch free k)
  place e o (inr g) = inr (every ch (Past e) (past e o) (λ j n. g j))

  pub sound_begun : Sound row' high (last + 1) es
  sound_begun = record {
    rows = every ch (RowSound high (last + 1)) row_sound (λ j n. rows j);
    pairs = both ch PairSound left right v.pairs;
    entries = λ e k. let o = v.entries e k in record { counted = omega (arith, o.counted); below = o.below; place = place e o o.place };
    noted = every ch (λ (x : Row). IsCommitted x → entry_of x ∈ es) (λ c. absurd (not_committed f.is c)) (λ j n. v.noted j);
    apart = v.apart;
    acyclic = v.acyclic;
  }
