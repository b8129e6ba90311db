-- What the code can say is in range by its type: a number in it has 32 bits. Assumes nothing.
use mathlib.Core.Path.{◌≡◌, refl}
use mathlib.Core.List.{List, [], ◌∷◌}
use Prim.Native.Nat.{ℕ, ◌<◌, ◌≤◌, ◌^◌}
use native.Mathlib.Omega.{arith}
use lib.ListN.{length, length-take}
use denote.Laws.{Is}
use denote.Enum.Declared.{row}
use denote.Enum.Laws.{val}
use Rattle.endian.specs.Places.{Below}
use Rattle.endian.proofs.BelowLaws.{below_take}
use Rattle.lines.specs.declared.Words.{Words}
use Rattle.lines.specs.Line.{Line, InRange, numbers_of}
use Rattle.queries.specs.declared.Said.{Said}
use Rattle.queries.specs.Said.{said_line}
use Rattle.queries.specs.contracts.Said.{the_type}
use Rattle.queries.proofs.Said.TheLaws.{the_laws}

-- what the prover tells of a parameter: its bytes are those of a value of the type
abbrev pub Held : Said → Type 0
Held s = Is (row the_type) s (val the_type the_laws s ∷ [])

none : (x : Line) → numbers_of x ≡ [] → InRange x
none x e = record { numbers = rw e tt; few = rw e (omega arith) }

one : (x : Line) (n : ℕ) → numbers_of x ≡ n ∷ [] → n < 2 ^ 32 → InRange x
one x n e h = record { numbers = rw e (h, tt); few = rw e (omega arith) }

module _ (l : List ℕ) (b : Below (2 ^ 32) l) (k : length l ≤ 32) where
  whole : (s : Said) → Held s → InRange (said_line s l)
  whole (Said.Words Words.Ok) g = none _ refl
  whole (Said.Words (Words.Begin n)) g = one _ n refl g.1.1.1.1.0.1.1.1.1.0.1
  whole (Said.Words (Words.Commit n)) g = one _ n refl g.1.1.1.1.0.1.1.1.1.0.1
  whole (Said.Words (Words.Cycle n)) g = one _ n refl g.1.1.1.1.0.1.1.1.1.0.1
  whole (Said.Words (Words.Swept n)) g = one _ n refl g.1.1.1.1.0.1.1.1.1.0.1
  whole (Said.Words Words.Good) g = none _ refl
  whole (Said.Words Words.Bad) g = none _ refl
  whole (Said.Words (Words.Refused n)) g = one _ n refl g.1.1.1.1.0.1.1.1.1.0.1
  whole (Said.Order n) g = record { numbers = below_take (2 ^ 32) n l b; few = simp length-take (omega arith) }

  -- the same of the case that the code found
  pub in_range : (s x : Said) → s ≡ x → Held s → InRange (said_line x l)
  in_range s x e g = rw (← e) (whole s g)
