-- The highest tickets of an opening, floor by floor. Assumes nothing.
use mathlib.Core.Path.{◌≡◌, refl, ap}
use mathlib.Core.List.{List, [], ◌∷◌}
use Prim.Native.Nat.{ℕ, zero, suc, ◌+◌, ◌<◌}
use native.Mathlib.Omega.{arith}
use native.Mathlib.Numerals.{add-one}
use lib.ListN.{length, get_or, set, take}
use Rattle.method.specs.declared.Ticket.{Ticket}
use Rattle.method.specs.Records.{ticket}
use Rattle.method.specs.Effects.{padded}

next : (k : ℕ) (fs : List ℕ) (i : ℕ) → i < length fs → i < k → set (padded k (take i fs)) i (ticket (get_or fs i 0)) ≡ padded k (take (suc i) fs)
unfolding padded
next zero fs i h l = absurd (omega arith)
next (suc k) [] i h l = absurd (omega arith)
next (suc k) (f ∷ fs) zero h l = refl
next (suc k) (f ∷ fs) (suc i) h l = ap {B = List Ticket} (λ ts. ticket f ∷ ts) (next k fs i (omega arith) (omega arith))

pub padded_set : (k : ℕ) (fs : List ℕ) (i : ℕ) → i < length fs → i < k → set (padded k (take i fs)) i (ticket (get_or fs i 0)) ≡ padded k (take (i + 1) fs)
padded_set k fs i h l = rw (add-one i) (next k fs i h l)
