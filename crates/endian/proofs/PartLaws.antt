-- A list that is filled from its front, and a part `&mut out[place..]` that is lent on: what the callee says of its part, said
-- of the whole. Assumes nothing.
use mathlib.Core.Path.{◌≡◌, sym, ap, ◌∙◌}
use mathlib.Core.List.{List, ◌++◌, append-nil}
use Prim.Native.Nat.{ℕ, ◌+◌, ◌-◌, ◌≤◌, ◌<◌}
use native.Mathlib.Nat.{zero-add}
use native.Mathlib.Numerals.{add-one}
use native.Mathlib.Omega.{arith}
use lib.ListN.{length, get_or, set, take, drop, length-drop, drop_of_length-le}
use lib.Seq.{paste, paste-suc, take_all, drop-drop, length-take-le}
use Rattle.endian.specs.Laid.{laid}

-- one entry more, and all n of them
pub paste_more : (l s : List ℕ) (i : ℕ) → i < length l → i < length s → set (paste l 0 s i) i (get_or s i 0) ≡ paste l 0 s (i + 1)
paste_more l s i k h = rw (add-one i) (ap (λ (j : ℕ). set (paste l 0 s i) j (get_or s i 0)) (sym (zero-add i)) ∙ paste-suc l 0 s i 0 (omega arith) h)

pub laid_of_front : (l s : List ℕ) (n : ℕ) → n ≤ length s → paste l 0 s n ≡ laid l 0 (take n s)
laid_of_front l s n h = rw (length-take-le n s h)

module _ (l : List ℕ) (at : ℕ) (h : at ≤ length l) where
  -- the part from the place on, as the callee was handed it
  pub part_is : take (length l - at) (drop at l) ≡ drop at l
  part_is = take_all (length l - at) (drop at l) (simp length-drop (omega arith))

  -- the whole, with the part at ys
  pub part_put : (ys : List ℕ) → take at l ++ (ys ++ drop (length l - at) (drop at l)) ≡ take at l ++ ys
  part_put ys =
      let e : length (drop at l) ≤ length l - at = simp length-drop (omega arith) in
      rw (drop_of_length-le (drop at l) e, append-nil)

  -- what is laid over the front of the part is laid over the whole from the place on
  pub laid_of_part : (vs : List ℕ) → take at l ++ laid (drop at l) 0 vs ≡ laid l at vs
  laid_of_part vs = rw (zero-add (length vs), drop-drop (length vs) at l)
