-- Each refusal stands at its own number, so that no two are told by the same. Assumes nothing.
use Rattle.std.proofs.Common.{◌≡◌, ◌-◌, slice_get, unwrap_or, refl, ap, sym, ◌∙◌, Some, ℕ, ◌≤◌, arith}
use Rattle.refusals.specs.declared.Refusal.{Refusal}
use Rattle.refusals.specs.Numbers.{number_of, refusals}

pub at_number : (r : Refusal) → slice_get refusals (number_of r - 1) ≡ Some r
at_number Refusal.NotOpen = refl
at_number Refusal.Unknown = refl
at_number Refusal.BadSite = refl
at_number Refusal.OutOfTurn = refl
at_number Refusal.NotAbove = refl
at_number Refusal.Taken = refl
at_number Refusal.Full = refl
at_number Refusal.UsedUp = refl
at_number Refusal.TooEarly = refl
at_number Refusal.BadBody = refl
at_number Refusal.BadFrame = refl
at_number Refusal.NoOrder = refl
at_number Refusal.BadRows = refl
at_number Refusal.NoRoom = refl

pub numbers_differ : (q r : Refusal) → number_of q ≡ number_of r → q ≡ r
numbers_differ q r e =
    let s : Some q ≡ Some r = sym (at_number q) ∙ ap (λ n. slice_get refusals (n - 1)) e ∙ at_number r in cc

-- the refusal of a number
abbrev pub refusal_at : ℕ → Refusal
refusal_at n = unwrap_or (slice_get refusals (n - 1)) Refusal.NotOpen

pub refusal_of_number : (r : Refusal) → refusal_at (number_of r) ≡ r
refusal_of_number r = ap (λ o. unwrap_or o Refusal.NotOpen) (at_number r)

pub number_small : (r : Refusal) → number_of r ≤ 14
number_small Refusal.NotOpen = omega arith
number_small Refusal.Unknown = omega arith
number_small Refusal.BadSite = omega arith
number_small Refusal.OutOfTurn = omega arith
number_small Refusal.NotAbove = omega arith
number_small Refusal.Taken = omega arith
number_small Refusal.Full = omega arith
number_small Refusal.UsedUp = omega arith
number_small Refusal.TooEarly = omega arith
number_small Refusal.BadBody = omega arith
number_small Refusal.BadFrame = omega arith
number_small Refusal.NoOrder = omega arith
number_small Refusal.BadRows = omega arith
number_small Refusal.NoRoom = omega arith
