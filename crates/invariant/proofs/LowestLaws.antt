-- The first of a list that passes: none in front of it does. So below the slot that a begin takes none is free. Assumes nothing.
use Rattle.std.proofs.Common.{◌≡◌, ℕ, ◌<◌, Bool, false, List, get_or}
use Rattle.std.specs.List.{position_or_len}
use Rattle.std.proofs.lemmas.List.Sums.{fails_before_first}

pub first_lowest : {A : Type 0} (f : A → Bool) (xs : List A) (d : A) (i : ℕ) → i < position_or_len f xs → f (get_or xs i d) ≡ false
first_lowest f xs d i h = fails_before_first f xs i d h
