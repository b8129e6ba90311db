-- The three ways a check can end, over what it answers and what it checks.
use Rattle.std.specs.Prelude.{◌≡◌, Bool, cond}

module _ {A : Type 0} (bad yes no : A) where
  -- a bad table is refused; of a good one, what is right is accepted and what is wrong is not
  pub data Judged (Good Right : Type 0) (r : A) : Type 0 where
    refuses : r ≡ bad → ¬ Good → Judged Good Right r
    accepts : r ≡ yes → Good → Right → Judged Good Right r
    rejects : r ≡ no → Good → ¬ Right → Judged Good Right r

  -- the same, computed from the two tests
  abbrev pub judged : Bool → Bool → A
  judged good right = cond good (cond right yes no) bad
