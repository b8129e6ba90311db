-- The lengths of bodies written out, to compare the table of kinds with. proofs/LengthLaws.antt has them for every kind and every length.
use Rattle.std.specs.Prelude.{Bool, true, false, ◌&&◌, ◌||◌, List, [], ◌∷◌, ℕ, zero, suc, eqb, get_or, is_some}
use Rattle.std.specs.Bool.{beq}
use Rattle.kinds.specs.Kinds.{entries_of}

-- the body lengths of each kind, written out
abbrev pub lengths : List (List ℕ)
lengths =
    (5 ∷ 9 ∷ 13 ∷ 17 ∷ 21 ∷ 25 ∷ 29 ∷ 33 ∷ 37 ∷ 41 ∷ 45 ∷ 49 ∷ 53 ∷ 57 ∷ 61 ∷ 65 ∷ 69 ∷ 73 ∷ 77 ∷ 81 ∷ 85 ∷ 89 ∷ 93 ∷ 97 ∷ 101 ∷ 105 ∷ 109 ∷ 113 ∷ 117 ∷ 121 ∷ 125 ∷ 129 ∷ 133 ∷ 137 ∷ 141 ∷ 145 ∷ 149 ∷ 153 ∷ 157 ∷ [])
    ∷ (2 ∷ [])
    ∷ (10 ∷ [])
    ∷ (6 ∷ [])
    ∷ (5 ∷ [])
    ∷ (5 ∷ [])
    ∷ (5 ∷ [])
    ∷ (1 ∷ [])
    ∷ (1 ∷ 5 ∷ 9 ∷ 13 ∷ 17 ∷ 21 ∷ 25 ∷ 29 ∷ 33 ∷ 37 ∷ 41 ∷ 45 ∷ 49 ∷ 53 ∷ 57 ∷ 61 ∷ 65 ∷ 69 ∷ 73 ∷ 77 ∷ 81 ∷ 85 ∷ 89 ∷ 93 ∷ 97 ∷ 101 ∷ 105 ∷ 109 ∷ 113 ∷ 117 ∷ 121 ∷ 125 ∷ 129 ∷ 133 ∷ 137 ∷ 141 ∷ 145 ∷ 149 ∷ 153 ∷ 157 ∷ [])
    ∷ (1 ∷ [])
    ∷ []

abbrev pub listed : ℕ → List ℕ → Bool
listed n [] = false
listed n (x ∷ l) = eqb n x || listed n l

-- at kind k and length n the test takes what is written out, and nothing else
abbrev pub agrees : ℕ → ℕ → Bool
agrees k n = beq (is_some (entries_of k n)) (listed n (get_or lengths k []))

-- f holds of every number below m
abbrev pub every_below : (ℕ → Bool) → ℕ → Bool
every_below f zero = true
every_below f (suc m) = f m && every_below f m
