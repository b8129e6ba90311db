-- The number that RULES, Refusals, gives each refusal. proofs/NumberLaws.antt shows that no two share one.
use Rattle.std.specs.Prelude.{ℕ, List, [], ◌∷◌, Option, Some, None, Result, Ok, Err}
use Rattle.refusals.specs.declared.Refusal.{Refusal}

abbrev pub number_of : Refusal → ℕ
number_of Refusal.NotOpen = 1
number_of Refusal.Unknown = 2
number_of Refusal.BadSite = 3
number_of Refusal.OutOfTurn = 4
number_of Refusal.NotAbove = 5
number_of Refusal.Taken = 6
number_of Refusal.Full = 7
number_of Refusal.UsedUp = 8
number_of Refusal.TooEarly = 9
number_of Refusal.BadBody = 10
number_of Refusal.BadFrame = 11
number_of Refusal.NoOrder = 12
number_of Refusal.BadRows = 13
number_of Refusal.NoRoom = 14

-- all of them, in the sequence of their numbers
abbrev pub refusals : List Refusal
refusals = Refusal.NotOpen ∷ Refusal.Unknown ∷ Refusal.BadSite ∷ Refusal.OutOfTurn ∷ Refusal.NotAbove ∷ Refusal.Taken ∷ Refusal.Full
    ∷ Refusal.UsedUp ∷ Refusal.TooEarly ∷ Refusal.BadBody ∷ Refusal.BadFrame ∷ Refusal.NoOrder ∷ Refusal.BadRows ∷ Refusal.NoRoom ∷ []

-- the number that an answer tells, where it is a refusal
abbrev pub told_by : {A : Type 0} → Result A Refusal → Option ℕ
told_by (Ok x) = None
told_by (Err r) = Some (number_of r)
