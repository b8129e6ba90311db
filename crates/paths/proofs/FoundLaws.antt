-- A loop over the marked slots: what they reach so far, and after all 32. Assumes nothing.
use mathlib.Core.Path.{◌≡◌}
use mathlib.Core.Bool.{Bool, true, false, ◌||◌}
use mathlib.Core.List.{List}
use mathlib.Core.Logic.{◌⊎◌, inl, inr}
use Prim.Native.Nat.{ℕ, ◌+◌, ◌<◌}
use native.Mathlib.Decide.{ℕ_discrete}
use native.Mathlib.Omega.{arith}
use lib.ListN.{length, get_or}
use Rattle.graph.proofs.TestLaws.{true_not_false, either_of_or, or_of_left, or_of_right}
use Rattle.paths.specs.Paths.{Marked}
use Rattle.paths.specs.Entries.{entry, FoundFrom, FoundBelow}

module _ (marks : List Bool) (square : List (List Bool)) where
  -- one slot more
  more_of_found : (n j : ℕ) → FoundFrom marks square n j → FoundFrom marks square (n + 1) j
  more_of_found n j (inl m) = inl m
  more_of_found n j (inr (i, h, m, p)) = inr (i, omega arith, m, p)

  found_of_more : (n j : ℕ) → FoundFrom marks square (n + 1) j → FoundFrom marks square n j ⊎ (Marked marks n × (entry square n j ≡ true))
  found_of_more n j (inl m) = inl (inl m)
  found_of_more n j (inr (i, h, m, p)) = elim (ℕ_discrete i n) [ yes e ↦ inr (rw e at m, rw e at p) | no e ↦ inl (inr (i, omega arith, m, p)) ]

  pub found_more : {found new : List Bool} {n : ℕ} → Marked marks n → FoundBelow marks square n found
      → length new ≡ 32 → ((j : ℕ) → j < 32 → get_or new j false ≡ get_or found j false || entry square n j) → FoundBelow marks square (n + 1) new
  found_more {found} {new} {n} m b s h = record { size = s; each = λ j l. (there j l, back j l) }
    where
      there : (j : ℕ) → j < 32 → Marked new j → FoundFrom marks square (n + 1) j
      there j l e = elim (either_of_or (get_or found j false) (entry square n j) (rw (h j l) at e)) [
        | inl f ↦ more_of_found n j ((b.each j l).0 f)
        | inr p ↦ inr (n, omega arith, m, p)
      ]

      back : (j : ℕ) → j < 32 → FoundFrom marks square (n + 1) j → Marked new j
      back j l f = elim (found_of_more n j f) [
        | inl g ↦ rw (h j l) (or_of_left (entry square n j) ((b.each j l).1 g))
        | inr p ↦ rw (h j l) (or_of_right (get_or found j false) p.1)
      ]

  pub found_skip : {found : List Bool} {n : ℕ} → get_or marks n false ≡ false → FoundBelow marks square n found → FoundBelow marks square (n + 1) found
  found_skip {found} {n} u b = record { size = b.size; each = λ j l. (λ e. more_of_found n j ((b.each j l).0 e), back j l) }
    where
      back : (j : ℕ) → j < 32 → FoundFrom marks square (n + 1) j → Marked found j
      back j l f = elim (found_of_more n j f) [ inl g ↦ (b.each j l).1 g | inr p ↦ absurd (true_not_false p.0 u) ]
