-- The lengths of bodies are those written out: for every kind and every length. Assumes nothing.
use Rattle.std.proofs.Common.{is_some}
use mathlib.Core.Path.{◌≡◌, refl, sym}
use mathlib.Core.Bool.{Bool, true, false, beq}
use mathlib.Core.List.{[]}
use mathlib.Core.Logic.{⊎_elim}
use Prim.Native.Nat.{ℕ, zero, suc, ◌<◌, ◌≤◌}
use native.Mathlib.Nat.{eq-or-lt_of_le, le_of_suc-le-suc}
use native.Mathlib.Omega.{arith}
use borrow.Author.Tests.{ltb-true, ltb-false}
use lib.Dec.{ltb}
use lib.ListN.{get_or, get_or-eq_default}
use Rattle.kinds.specs.Kinds.{entries_of}
use Rattle.kinds.specs.Lengths.{lengths, listed, agrees, every_below}
use Rattle.kinds.proofs.CaseLaws.{and_left, and_right}

-- computed: the kinds of the table at every length from 0 to 161
swept : every_below (λ k. every_below (agrees k) 162) 10 ≡ true
unfolding entries_of
swept = refl

below_of_every : (f : ℕ → Bool) (m : ℕ) → every_below f m ≡ true → (k : ℕ) → k < m → f k ≡ true
below_of_every f zero e k h = absurd (omega arith)
below_of_every f (suc m) e k h =
    ⊎_elim (λ q. rw q (and_left (f m) (every_below f m) e)) (λ l. below_of_every f m (and_right (f m) (every_below f m) e) k l) (eq-or-lt_of_le (le_of_suc-le-suc h))

same : (a b : Bool) → beq a b ≡ true → a ≡ b
same true true e = refl
same true false e = sym e
same false true e = e
same false false e = refl

-- so of every kind, 10 to 255 among them, at each of these lengths; a longer body has no kind, by `length_le_of_entries`
pub lengths_listed : (k n : ℕ) → n ≤ 161 → is_some (entries_of k n) ≡ listed n (get_or lengths k [])
unfolding entries_of
lengths_listed k n h = go (ltb k 10) refl
  where
    go : (b : Bool) → ltb k 10 ≡ b → is_some (entries_of k n) ≡ listed n (get_or lengths k [])
    go true e =
        same (is_some (entries_of k n)) (listed n (get_or lengths k []))
        (below_of_every (agrees k) 162 (below_of_every (λ j. every_below (agrees j) 162) 10 swept k (ltb-true k 10 e)) n (omega arith))
    go false e = rw (e, get_or-eq_default lengths [] (ltb-false k 10 e))
