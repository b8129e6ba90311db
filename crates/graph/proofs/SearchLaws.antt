-- A loop that looks through a list for any member that passes: what is found from place i on. Assumes nothing.
use mathlib.Core.Path.{◌≡◌}
use mathlib.Core.Bool.{Bool, true, false}
use mathlib.Core.List.{List}
use Prim.Native.Nat.{ℕ, ◌+◌, ◌<◌, ◌≤◌}
use native.Mathlib.Numerals.{add-one}
use lib.ListN.{length, get_or, drop, drop_of_length-le}
use lib.Seq.{drop-cons}
use Rattle.graph.specs.Lists.{any_of}

module _ {A : Type 0} (f : A → Bool) (rows : List A) (d : A) (i : ℕ) where
  pub any_hit : i < length rows → f (get_or rows i d) ≡ true → any_of f (drop i rows) ≡ true
  any_hit h e = rw (drop-cons rows i d h, e)

  pub any_skip : i < length rows → f (get_or rows i d) ≡ false → any_of f (drop i rows) ≡ any_of f (drop (i + 1) rows)
  any_skip h e = rw (drop-cons rows i d h, e, add-one i)

  pub any_end : length rows ≤ i → any_of f (drop i rows) ≡ false
  any_end h = rw (drop_of_length-le rows h)
