-- What holds at each number below a bound because a test of it was computed there. Assumes nothing.
use mathlib.Core.Path.{◌≡◌, refl}
use mathlib.Core.Bool.{Bool, true, false, beq, false≢true}
use mathlib.Core.List.{List, [], ◌∷◌}
use Prim.Native.Nat.{ℕ, zero, suc, ◌<◌}
use native.Mathlib.Nat.{not-suc-le-zero, le_of_suc-le-suc}
use lib.Dec.{eqb}
use borrow.Author.Tests.{eqb-true}
use Rattle.graph.proofs.TestLaws.{both_of_and}
use Rattle.sites.specs.Every.{every_below, same_list}

pub true_below : (n : ℕ) (f : ℕ → Bool) → every_below n f ≡ true → (x : ℕ) → x < n → f x ≡ true
unfolding every_below
true_below zero f e x h = absurd (not-suc-le-zero h)
true_below (suc n) f e zero h = (both_of_and (f 0) (every_below n (λ x. f (suc x))) e).0
true_below (suc n) f e (suc x) h = true_below n (λ x. f (suc x)) (both_of_and (f 0) (every_below n (λ x. f (suc x))) e).1 x (le_of_suc-le-suc h)

same→eq : (l k : List ℕ) → same_list l k ≡ true → l ≡ k
unfolding same_list
same→eq [] [] e = refl
same→eq [] (y ∷ ys) e = absurd (false≢true e)
same→eq (x ∷ xs) [] e = absurd (false≢true e)
same→eq (x ∷ xs) (y ∷ ys) e =
    let (p, q) = both_of_and (eqb x y) (same_list xs ys) e in
    rw (eqb-true x y p, same→eq xs ys q)

beq→eq : (a b : Bool) → beq a b ≡ true → a ≡ b
beq→eq true true e = refl
beq→eq true false e = absurd (false≢true e)
beq→eq false true e = absurd (false≢true e)
beq→eq false false e = refl

-- two functions of a number that agree below n: numbers, lists, tests
pub numbers_below : (n : ℕ) (f g : ℕ → ℕ) → every_below n (λ x. eqb (f x) (g x)) ≡ true → (x : ℕ) → x < n → f x ≡ g x
numbers_below n f g e x h = eqb-true (f x) (g x) (true_below n (λ y. eqb (f y) (g y)) e x h)

pub lists_below : (n : ℕ) (f g : ℕ → List ℕ) → every_below n (λ x. same_list (f x) (g x)) ≡ true → (x : ℕ) → x < n → f x ≡ g x
lists_below n f g e x h = same→eq (f x) (g x) (true_below n (λ y. same_list (f y) (g y)) e x h)

pub tests_below : (n : ℕ) (f g : ℕ → Bool) → every_below n (λ x. beq (f x) (g x)) ≡ true → (x : ℕ) → x < n → f x ≡ g x
tests_below n f g e x h = beq→eq (f x) (g x) (true_below n (λ y. beq (f y) (g y)) e x h)
