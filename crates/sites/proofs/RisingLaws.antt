-- Strictly rising lists: they hold nothing twice, and a part of one rises too. Assumes nothing.
use mathlib.Core.Path.{◌≡◌, refl, ap}
use mathlib.Core.Bool.{Bool, true, false, cond, not}
use mathlib.Core.List.{List, [], ◌∷◌}
use Prim.Native.Nat.{ℕ, zero, suc, ◌<◌}
use native.Mathlib.Omega.{arith}
use lib.Dec.{leb}
use borrow.Author.Tests.{leb-false}
use Rattle.graph.specs.Lists.{◌∈◌, Once, any_of, keep}
use Rattle.graph.proofs.TestLaws.{both_of_and, false_of_not, false_of_not_true, true_not_false}
use Rattle.graph.proofs.MemberLaws.{kept_subset, any_of_member}
use Rattle.graph.proofs.PlaceLaws.{member_of_at}
use Rattle.sites.specs.Sites.{Rising, risingb}

above_of_none : (a : ℕ) (l : List ℕ) → any_of (λ b. leb b a) l ≡ false → (b : ℕ) → b ∈ l → a < b
above_of_none a l e b m = leb-false b a (false_of_not_true (leb b a) (λ h. true_not_false (any_of_member (λ c. leb c a) m h) e))

pub risingb→rising : (l : List ℕ) → risingb l ≡ true → Rising l
risingb→rising [] e = tt
risingb→rising (a ∷ l) e =
    let (p, q) = both_of_and (not (any_of (λ b. leb b a) l)) (risingb l) e in
    (above_of_none a l (false_of_not _ p), risingb→rising l q)

pub rising_keep : (f : ℕ → Bool) (l : List ℕ) → Rising l → Rising (keep f l)
rising_keep f [] r = tt
rising_keep f (a ∷ l) r = go (f a) (rising_keep f l r.1)
  where
    go : (b : Bool) → Rising (keep f l) → Rising (cond b (a ∷ keep f l) (keep f l))
    go true h = ((λ b m. r.0 b (kept_subset f l b m)), h)
    go false h = h

pub once_of_rising : (l : List ℕ) → Rising l → Once l
once_of_rising [] r a i j p q = absurd p
once_of_rising (x ∷ l) r a zero zero p q = refl
once_of_rising (x ∷ l) r a zero (suc j) p q = let h = r.0 a (member_of_at l j q) in absurd (omega arith)
once_of_rising (x ∷ l) r a (suc i) zero p q = let h = r.0 a (member_of_at l i p) in absurd (omega arith)
once_of_rising (x ∷ l) r a (suc i) (suc j) p q = ap suc (once_of_rising l r.1 a i j p q)
