-- A step by what its checks gave, and a function that makes some of the checks before others. Assumes nothing.
use mathlib.Core.Path.{◌≡◌, refl, sym, ap}
use mathlib.Core.Bool.{Bool, true, false, cond}
use mathlib.Core.List.{List, [], ◌∷◌, ◌++◌}
use Rattle.std.specs.Prelude.{Option, Some, None, Result, Ok, Err}
use Rattle.refusals.specs.declared.Refusal.{Refusal}
use Rattle.method.specs.declared.Table.{Table}
use Rattle.method.specs.Calls.{Call, checks, first_true, checked}
use Rattle.method.specs.Effects.{answered, effect, act, step}
use Rattle.method.proofs.RecordLaws.{never}

-- what a function of checks gave, said of one that makes the same checks and then more
module _ {A B : Type 0} where
  pub stops : (cs ds : List (Refusal × Bool)) (a : A) (b : B) {k : Refusal} → checked cs a ≡ Err k → checked (cs ++ ds) b ≡ Err k
  stops [] ds a b e = never (cc)
  stops (c ∷ cs) ds a b {k} e = go c.1 (stops cs ds a b) e
    where
      go : (x : Bool) → (checked cs a ≡ Err k → checked (cs ++ ds) b ≡ Err k) → cond x (Err c.0) (checked cs a) ≡ Err k → cond x (Err c.0) (checked (cs ++ ds) b) ≡ Err k
      go true rest e = let h : c.0 ≡ k = cc in ap {B = Result B Refusal} Err h
      go false rest e = rest e

  pub goes_on : (cs ds : List (Refusal × Bool)) (a : A) (b : B) {v : A} → checked cs a ≡ Ok v → (checked (cs ++ ds) b ≡ checked ds b) × (v ≡ a)
  goes_on [] ds a b {v} e = (refl, (let h : a ≡ v = cc in sym h))
  goes_on (c ∷ cs) ds a b {v} e = go c.1 (goes_on cs ds a b) e
    where
      go : (x : Bool) → (checked cs a ≡ Ok v → (checked (cs ++ ds) b ≡ checked ds b) × (v ≡ a)) → cond x (Err c.0) (checked cs a) ≡ Ok v
          → (cond x (Err c.0) (checked (cs ++ ds) b) ≡ checked ds b) × (v ≡ a)
      go true rest e = never (cc)
      go false rest e = rest e

-- and of the first test that passes, and the step
module _ {A : Type 0} where
  first_of_err : (cs : List (Refusal × Bool)) (a : A) (k : Refusal) → checked cs a ≡ Err k → first_true cs ≡ Some k
  first_of_err [] a k e = never (cc)
  first_of_err (c ∷ cs) a k e = go c.1 (first_of_err cs a k) e
    where
      go : (x : Bool) → (checked cs a ≡ Err k → first_true cs ≡ Some k) → cond x (Err c.0) (checked cs a) ≡ Err k → first_true ((c.0, x) ∷ cs) ≡ Some k
      go true rest e = let h : c.0 ≡ k = cc in ap {B = Option Refusal} Some h
      go false rest e = rest e

  none_of_ok : (cs : List (Refusal × Bool)) (a v : A) → checked cs a ≡ Ok v → first_true cs ≡ None
  none_of_ok [] a v e = refl
  none_of_ok (c ∷ cs) a v e = go c.1 (none_of_ok cs a v) e
    where
      go : (x : Bool) → (checked cs a ≡ Ok v → first_true cs ≡ None) → cond x (Err c.0) (checked cs a) ≡ Ok v → first_true ((c.0, x) ∷ cs) ≡ None
      go true rest e = never (cc)
      go false rest e = rest e

  pub refused_step : (t : Table) (c : Call) (a : A) {k : Refusal} → checked (checks t c) a ≡ Err k → step t c ≡ answered t (Err k)
  unfolding step act
  refused_step t c a {k} e = rw (first_of_err (checks t c) a k e)

  pub passed_step : (t : Table) (c : Call) (a : A) {v : A} → checked (checks t c) a ≡ Ok v → (step t c ≡ effect t c) × (v ≡ a)
  unfolding step act
  passed_step t c a {v} e = (rw (none_of_ok (checks t c) a v e), (goes_on (checks t c) [] a a e).1)
