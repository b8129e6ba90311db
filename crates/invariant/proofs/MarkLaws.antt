-- An active row took a ticket, or was marked prepared: number, sites and bases stayed, and a new ticket stands at a listed site,
-- above the base. Assumes nothing.
use mathlib.Core.Path.{◌≡◌, sym}
use mathlib.Core.Logic.{◌≢◌, ◌⊎◌, inl, inr}
use mathlib.Core.List.{List}
use Prim.Native.Nat.{ℕ, ◌<◌}
use native.Mathlib.Omega.{arith}
use Rattle.graph.specs.Lists.{◌∈◌}
use Rattle.orders.specs.Arrow.{Tickets}
use Rattle.orders.specs.Entries.{Entry}
use Rattle.method.specs.declared.Row.{Row}
use Rattle.method.specs.Records.{tickets_of}
use Rattle.method.specs.Slots.{entry_of}
use Rattle.method.specs.Seen.{IsActive, IsCommitted, num, Has, base, tick}
use Rattle.invariant.specs.Sound.{Above, RowSound, PairSound, Past, Still, Gone, Sound}
use Rattle.invariant.proofs.ChangeLaws.{Changed, not_committed, not_free, every, both, keeps}

-- what a mark may change in row q to give r
pub record Marked (q r : Row) : Type 0 where
  pub was : IsActive q
  pub is : IsActive r
  pub number : num r ≡ num q
  pub last : r.last.0 ≡ q.last.0
  pub sites : (s : ℕ) → Has q s → Has r s
  pub sites' : (s : ℕ) → Has r s → Has q s
  pub bases : (s : ℕ) → base r s ≡ base q s
  pub tickets : (s : ℕ) → (tick r s ≡ tick q s) ⊎ (Has q s × (base q s < tick r s))

module _ {row row' : ℕ → Row} {i : ℕ} {r : Row} (ch : Changed row i r row') (m : Marked (row i) r) where
  above : (ts : Tickets) → Above (row i) ts → Above r ts
  unfolding Above
  above ts a s h = omega (arith, a s (m.sites' s h), m.bases s)

  module _ (high : ℕ → ℕ) (last : ℕ) (es : List Entry) (v : Sound row high last es) where
    old : RowSound high last (row i)
    old = v.rows i

    row_sound : RowSound high last r
    row_sound = record {
      blank = λ f. absurd (not_free m.is f);
      named = λ n. omega (arith, old.named (not_free m.was), m.number);
      counted = omega (arith, old.counted, m.number);
      marked = omega (arith, old.marked, m.last);
      listed = λ s h. elim (m.tickets s) [ inl e ↦ m.sites s (old.listed s (omega arith)) | inr k ↦ m.sites s k.0 ];
      over = λ s h. elim (m.tickets s) [ inl e ↦ omega (arith, m.bases s, old.over s (omega arith)) | inr k ↦ omega (arith, m.bases s) ];
      based = λ s h. omega (arith, m.bases s, old.based s (m.sites' s h));
      below = λ c. absurd (not_committed m.is c);
      prepared = λ c. absurd (not_committed m.is c);
    }

    left : (j : ℕ) → j ≢ i → PairSound r (row j)
    left j n = let p = v.pairs i j (λ e. n (sym e)) in record {
      numbers = λ h. omega (arith, m.number, p.numbers (omega (arith, m.number)));
      tickets = λ c. absurd (not_committed m.is c);
      later = λ c. absurd (not_committed m.is c);
    }

    right : (j : ℕ) → j ≢ i → PairSound (row j) r
    right j n = let p = v.pairs j i n in record {
      numbers = λ h. omega (arith, m.number, p.numbers h);
      tickets = λ c d. absurd (not_committed m.is d);
      later = λ c a h. above (tickets_of (row j)) (p.later c m.was (omega (arith, m.number)));
    }

    past : (e : Entry) → Past e (row i) → Past e r
    past e p = record {
      unpointed = λ c. absurd (not_committed m.is c);
      other = λ a. omega (arith, m.number, p.other m.was);
      above = λ a. above e.tickets (p.above m.was);
    }

    place : (e : Entry) → Still row e ⊎ Gone row e → Still row' e ⊎ Gone row' e
    place e (inl k) = inl (keeps ch (not_committed m.was) k)
    place e (inr g) = inr (every ch (Past e) (past e (g i)) (λ j n. g j))

    pub sound_marked : Sound row' high last es
    sound_marked = record {
      rows = every ch (RowSound high last) row_sound (λ j n. v.rows j);
      pairs = both ch PairSound left right v.pairs;
      entries = λ e k. let o = v.entries e k in record { counted = o.counted; below = o.below; place = place e o.place };
      noted = every ch (λ (x : Row). IsCommitted x → entry_of x ∈ es) (λ c. absurd (not_committed m.is c)) (λ j n. v.noted j);
      apart = v.apart;
      acyclic = v.acyclic;
    }
