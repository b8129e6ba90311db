-- A check ends in one of the three ways, and only in one. Assumes nothing.
use mathlib.Core.Path.{◌≡◌, refl, sym, ◌∙◌}
use mathlib.Core.Bool.{Bool, true, false}
use Rattle.graph.proofs.TestLaws.{true_not_false}
use Rattle.orders.specs.Judged.{Judged, Judged.refuses, Judged.accepts, Judged.rejects, judged}

module _ {A : Type 0} (bad yes no : A) (Good Right : Type 0) where
  pub judged_of_tests : (b c : Bool) → (b ≡ true → Good) → (Good → b ≡ true) → (Good → c ≡ true → Right) → (Good → Right → c ≡ true)
      → Judged bad yes no Good Right (judged bad yes no b c)
  judged_of_tests false c g f r s = refuses refl (λ x. true_not_false (f x) refl)
  judged_of_tests true true g f r s = accepts refl (g refl) (r (g refl) refl)
  judged_of_tests true false g f r s = rejects refl (g refl) (λ y. true_not_false (s (g refl) y) refl)

  pub judged_unique : (q r : A) → Judged bad yes no Good Right q → Judged bad yes no Good Right r → q ≡ r
  judged_unique q r (refuses e b) (refuses f c) = e ∙ sym f
  judged_unique q r (refuses e b) (accepts f g o) = absurd (b g)
  judged_unique q r (refuses e b) (rejects f g o) = absurd (b g)
  judged_unique q r (accepts e g o) (refuses f c) = absurd (c g)
  judged_unique q r (accepts e g o) (accepts f h p) = e ∙ sym f
  judged_unique q r (accepts e g o) (rejects f h p) = absurd (p o)
  judged_unique q r (rejects e g o) (refuses f c) = absurd (c g)
  judged_unique q r (rejects e g o) (accepts f h p) = absurd (o p)
  judged_unique q r (rejects e g o) (rejects f h p) = e ∙ sym f
