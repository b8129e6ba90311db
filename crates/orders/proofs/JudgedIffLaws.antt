-- Each answer of a check is given exactly under its condition, where the three differ. Assumes nothing.
use mathlib.Core.Path.{◌≡◌, sym, ◌∙◌}
use mathlib.Core.Logic.{◌↔◌, ◌≢◌}
use Rattle.orders.specs.Judged.{Judged, Judged.refuses, Judged.accepts, Judged.rejects}

module _ {A : Type 0} (bad yes no : A) (by : bad ≢ yes) (bn : bad ≢ no) (yn : yes ≢ no) (Good Right : Type 0) (r : A) (j : Judged bad yes no Good Right r) where
  pub bad_iff : (r ≡ bad) ↔ (¬ Good)
  bad_iff = (forth j, back j)
    where
      forth : Judged bad yes no Good Right r → r ≡ bad → ¬ Good
      forth (refuses f n) e = n
      forth (accepts f g o) e = absurd (by (sym e ∙ f))
      forth (rejects f g o) e = absurd (bn (sym e ∙ f))

      back : Judged bad yes no Good Right r → ¬ Good → r ≡ bad
      back (refuses f n) h = f
      back (accepts f g o) h = absurd (h g)
      back (rejects f g o) h = absurd (h g)

  pub yes_iff : (r ≡ yes) ↔ (Good × Right)
  yes_iff = (forth j, back j)
    where
      forth : Judged bad yes no Good Right r → r ≡ yes → Good × Right
      forth (refuses f n) e = absurd (by (sym f ∙ e))
      forth (accepts f g o) e = (g, o)
      forth (rejects f g o) e = absurd (yn (sym e ∙ f))

      back : Judged bad yes no Good Right r → Good × Right → r ≡ yes
      back (refuses f n) h = absurd (n h.0)
      back (accepts f g o) h = f
      back (rejects f g o) h = absurd (o h.1)

  pub no_iff : (r ≡ no) ↔ (Good × (¬ Right))
  no_iff = (forth j, back j)
    where
      forth : Judged bad yes no Good Right r → r ≡ no → Good × (¬ Right)
      forth (refuses f n) e = absurd (bn (sym f ∙ e))
      forth (accepts f g o) e = absurd (yn (sym f ∙ e))
      forth (rejects f g o) e = (g, o)

      back : Judged bad yes no Good Right r → Good × (¬ Right) → r ≡ no
      back (refuses f n) h = absurd (n h.0)
      back (accepts f g o) h = absurd (h.1 o)
      back (rejects f g o) h = f
