-- The test of an arrow finds exactly the arrows, and the laws of graphs at rows of tickets. Assumes nothing.
use mathlib.Core.Path.{◌≡◌, refl}
use mathlib.Core.Bool.{Bool, true, false, false≢true, and-false}
use mathlib.Core.List.{List, [], ◌∷◌}
use mathlib.Core.Logic.{◌↔◌, ◌⊎◌, inl, inr}
use Prim.Native.Nat.{ℕ, zero, suc, ◌<◌}
use native.Mathlib.Omega.{arith}
use lib.Dec.{ltb, eqb}
use borrow.Author.Tests.{ltb-true, lt-ltb, le-ltb, eqb-true, eq-eqb}
use Rattle.graph.specs.Path.{Cycle}
use Rattle.graph.specs.Acyclic.{acyclic}
use Rattle.graph.proofs.TestLaws.{either_of_or, both_of_and, or_of_left, or_of_right, and_of_both, true_not_false}
use Rattle.graph.proofs.PathLaws.{cycle_of_weaker}
use Rattle.graph.proofs.AcyclicLaws.{acyclic_iff}
use Rattle.orders.specs.Arrow.{Tickets, ticket_at, Arrow, any_site, beforeb, arrowb}
use Rattle.orders.specs.Good.{sameb}

-- a test of two tickets that fails where one of them is 0 passes at some site exactly if `any_site` says so
module _ (f : ℕ → ℕ → Bool) where
  abbrev Site : Tickets → Tickets → Type 0
  Site xs ys = (s : ℕ) × (f (ticket_at xs s) (ticket_at ys s) ≡ true)

  pub any_site→site : (xs ys : Tickets) → any_site f xs ys ≡ true → Site xs ys
  any_site→site [] ys e = absurd (false≢true e)
  any_site→site (x ∷ xs) [] e = absurd (false≢true e)
  any_site→site (x ∷ xs) (y ∷ ys) e = go (any_site→site xs ys) (either_of_or (f x y) (any_site f xs ys) e)
    where
      go : (any_site f xs ys ≡ true → Site xs ys) → (f x y ≡ true) ⊎ (any_site f xs ys ≡ true) → Site (x ∷ xs) (y ∷ ys)
      go r (inl h) = (zero, h)
      go r (inr h) = let (s, k) = r h in (suc s, k)

  module _ (left : (y : ℕ) → f 0 y ≡ false) (right : (x : ℕ) → f x 0 ≡ false) where
    pub site→any_site : (xs ys : Tickets) (s : ℕ) → f (ticket_at xs s) (ticket_at ys s) ≡ true → any_site f xs ys ≡ true
    site→any_site [] ys s e = absurd (true_not_false e (left (ticket_at ys s)))
    site→any_site (x ∷ xs) [] s e = absurd (true_not_false e (right (ticket_at (x ∷ xs) s)))
    site→any_site (x ∷ xs) (y ∷ ys) zero e = or_of_left (any_site f xs ys) e
    site→any_site (x ∷ xs) (y ∷ ys) (suc s) e = or_of_right (f x y) (site→any_site xs ys s e)

pub beforeb_zero : (x : ℕ) → beforeb x 0 ≡ false
beforeb_zero x = rw (le-ltb x 0 (omega arith)) (and-false (ltb 0 x))

pub arrowb→arrow : (a b : Tickets) → arrowb a b ≡ true → Arrow a b
arrowb→arrow a b e =
    let (s, h) = any_site→site beforeb a b e in
    let (p, q) = both_of_and (ltb 0 (ticket_at a s)) (ltb (ticket_at a s) (ticket_at b s)) h in
    (s, (ltb-true 0 (ticket_at a s) p, ltb-true (ticket_at a s) (ticket_at b s) q))

pub arrow→arrowb : (a b : Tickets) → Arrow a b → arrowb a b ≡ true
arrow→arrowb a b (s, h) =
    site→any_site beforeb (λ y. refl) beforeb_zero a b s (and_of_both (lt-ltb 0 (ticket_at a s) h.0) (lt-ltb (ticket_at a s) (ticket_at b s) h.1))

pub not_arrow_self : (a : Tickets) → ¬ Arrow a a
not_arrow_self a (s, h) = omega arith

-- a row without tickets has no arrows
pub not_arrow_of_none : (a b : Tickets) → ((s : ℕ) → ticket_at a s ≡ 0) → ¬ Arrow a b
not_arrow_of_none a b z (s, h) = omega (arith, z s)

pub not_arrow_to_none : (a b : Tickets) → ((s : ℕ) → ticket_at b s ≡ 0) → ¬ Arrow a b
not_arrow_to_none a b z (s, h) = omega (arith, z s)

-- the same ticket, not 0, at some site
pub sameb→same : (x y : ℕ) → sameb x y ≡ true → (0 < x) × (x ≡ y)
sameb→same x y e = let (p, q) = both_of_and (ltb 0 x) (eqb x y) e in (ltb-true 0 x p, eqb-true x y q)

pub same→sameb : (x y : ℕ) → 0 < x → x ≡ y → sameb x y ≡ true
same→sameb x y h e = and_of_both (lt-ltb 0 x h) (eq-eqb x y e)

-- the computed test of a decision
pub acyclic_iff_no_cycle : (ts : List Tickets) → (acyclic arrowb ts ≡ true) ↔ (¬ Cycle Arrow ts)
acyclic_iff_no_cycle ts = (
  λ e c. (acyclic_iff arrowb ts).0 e (cycle_of_weaker arrow→arrowb c),
  λ n. (acyclic_iff arrowb ts).1 (λ c. n (cycle_of_weaker arrowb→arrow c)),
)
