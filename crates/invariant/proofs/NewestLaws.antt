-- The newest against all that were ever committed: an active row that makes no cycle with the kept rows makes none with the
-- forgotten ones either, and differs from each of them. Assumes nothing.
use mathlib.Core.Path.{◌≡◌, sym, subst}
use mathlib.Core.Logic.{◌≢◌, ◌⊎◌, inl, inr}
use mathlib.Core.List.Memᴰ
use mathlib.Core.List.Memᴰ.{head as here}
use mathlib.Core.List.Memᴰ.{tail as there}
use mathlib.Core.List.{List, ◌∷◌}
use Prim.Native.Nat.{ℕ, ◌<◌}
use native.Mathlib.Omega.{arith}
use Rattle.graph.specs.Lists.{◌∈◌}
use Rattle.graph.specs.Path.{Cycle}
use Rattle.graph.proofs.PartsLaws.{Old, no_cycle_of_parts}
use Rattle.orders.specs.Arrow.{ticket_at, Arrow}
use Rattle.orders.specs.Entries.{Entry, EntryArrow}
use Rattle.orders.specs.Good.{Clash}
use Rattle.method.specs.declared.Row.{Row}
use Rattle.method.specs.Records.{tickets_of}
use Rattle.method.specs.Slots.{entry_of}
use Rattle.method.specs.Seen.{IsActive, IsCommitted, tick}
use Rattle.invariant.specs.Sound.{Above, Differs, Past, Still, Gone, Sound}
use Rattle.invariant.proofs.ChangeLaws.{not_committed, not_free}

-- these are the kept rows
pub record Keeps (row : ℕ → Row) (ks : List Entry) : Type 0 where
  pub has : (j : ℕ) → IsCommitted (row j) → entry_of (row j) ∈ ks
  pub only : (x : Entry) → x ∈ ks → (j : ℕ) × IsCommitted (row j) × (entry_of (row j) ≡ x)

module _ {row : ℕ → Row} {high : ℕ → ℕ} {last : ℕ} {es : List Entry} (v : Sound row high last es) (i : ℕ) (was : IsActive (row i)) where
  -- a ticket of the new one is above that of a forgotten one
  beyond : (e : Entry) → Past e (row i) → (s : ℕ) → 0 < tick (row i) s → ticket_at e.tickets s < tick (row i) s
  unfolding Above
  beyond e p s h = omega (arith, p.above was s ((v.rows i).listed s h), (v.rows i).over s h)

  pub unpointed : (e : Entry) → Past e (row i) → ¬ Arrow (tickets_of (row i)) e.tickets
  unpointed e p (s, h) = omega (arith, beyond e p s h.0)

  pub no_clash : ((j : ℕ) → IsCommitted (row j) → Differs (row i) (row j)) → (e : Entry) → e ∈ es → ¬ Clash (entry_of (row i)) e
  unfolding entry_of
  no_clash new e m = go (v.entries e m).place
    where
      still : (j : ℕ) → j ≢ i → IsCommitted (row j) → ¬ Clash (entry_of (row i)) (entry_of (row j))
      still j n c (inl p) = (v.pairs i j (λ q. n (sym q))).numbers ((v.rows i).named (not_free was)) p
      still j n c (inr (s, h, p)) = new j c s h p

      gone : Gone row e → ¬ Clash (entry_of (row i)) e
      gone g (inl p) = (g i).other was p
      gone g (inr (s, h, p)) = omega (arith, beyond e (g i) s h)

      go : Still row e ⊎ Gone row e → ¬ Clash (entry_of (row i)) e
      go (inl k) = subst (λ (x : Entry). ¬ Clash (entry_of (row i)) x) k.2
          (still k.0 (λ q. not_committed was (subst (λ (j : ℕ). IsCommitted (row j)) q k.1)) k.1)
      go (inr g) = gone g

  module _ (ks : List Entry) (kk : Keeps row ks) where
    abbrev new : List Entry
    new = entry_of (row i) ∷ ks

    split : (x : Entry) → x ∈ entry_of (row i) ∷ es → (x ∈ new) ⊎ Old EntryArrow new es (entry_of (row i) ∷ es) x
    unfolding entry_of
    split x m = elim (Memᴰ.cases_cons m) [ inl e ↦ inl (here e) | inr n ↦ of n (v.entries x n).place ]
      where
        gone : Gone row x → (k : Entry) → k ∈ new → ¬ EntryArrow k x
        gone g k n a = elim (Memᴰ.cases_cons n) [
          | inl q ↦ unpointed x (g i) (subst (λ (y : Entry). EntryArrow y x) q a)
          | inr l ↦ let j = kk.only k l in (g j.0).unpointed j.1 (subst (λ (y : Entry). EntryArrow y x) (sym j.2) a)
        ]

        of : x ∈ es → Still row x ⊎ Gone row x → (x ∈ new) ⊎ Old EntryArrow new es (entry_of (row i) ∷ es) x
        of n (inl k) = inl (there (Memᴰ.cast (sym k.2) (kk.has k.0 k.1)))
        of n (inr g) = inr (n, gone g)

    pub no_new_cycle : ¬ Cycle EntryArrow new → ¬ Cycle EntryArrow (entry_of (row i) ∷ es)
    no_new_cycle f = no_cycle_of_parts EntryArrow new es (entry_of (row i) ∷ es) split f v.acyclic
