-- What stands where after bytes were laid over a list: they themselves at their place, and all else as before. So a number that
-- is written is read again, and a number that was read and is written back changes nothing. Assumes nothing.
use mathlib.Core.Path.{◌≡◌, ◌∙◌, sym, ap}
use mathlib.Core.Bool.{true, false}
use mathlib.Core.List.{List, ◌++◌, append_assoc}
use Prim.Native.Nat.{ℕ, ◌+◌, ◌≤◌, ◌<◌}
use native.Mathlib.Nat.{add_assoc}
use native.Mathlib.Omega.{arith}
use lib.ListN.{length, get_or, take, drop, length-append, length-drop, take-append-drop, get_or-append}
use lib.Seq.{paste, take-length, length-take-le, take_at, drop_at, drop-drop, take-add, get_or-drop, take-append_seam, drop-append_seam}
use borrow.Author.Tests.{le-leb, lt-leb}
use Rattle.endian.specs.Bytes.{bytes16, bytes32}
use Rattle.endian.specs.Places.{Below, word16, word32}
use Rattle.endian.specs.Laid.{has_room, laid, stored}
use Rattle.endian.proofs.BytesLaws.{be16_of_bytes16, be32_of_bytes32}
use Rattle.endian.proofs.PlacesLaws.{word16_at, word32_at, bytes16_of_word16, bytes32_of_word32}

-- what a writer answers and leaves, with room and without
module _ (l vs : List ℕ) (at : ℕ) where
  pub stored_of_room : at + length vs ≤ length l → (true ≡ has_room l at (length vs)) × (laid l at vs ≡ stored l at vs)
  stored_of_room h = let e = le-leb (at + length vs) (length l) h in (sym e, rw e)

  pub stored_of_no_room : length l < at + length vs → (false ≡ has_room l at (length vs)) × (l ≡ stored l at vs)
  stored_of_no_room h = let e = lt-leb (at + length vs) (length l) h in (sym e, rw e)

  -- a whole copy, as the library has it
  pub laid_of_paste : paste l at vs (length vs) ≡ laid l at vs
  laid_of_paste = rw (take-length vs) (append_assoc (take at l) vs (drop (at + length vs) l))

-- what stands where
module _ (l vs : List ℕ) (at : ℕ) (h : at + length vs ≤ length l) where
  front : length (take at l) ≡ at
  front = length-take-le at l (omega arith)

  pub length_laid : length (laid l at vs) ≡ length l
  length_laid = simp (length-append, length-drop) (omega (arith, front))

  pub take_laid : take at (laid l at vs) ≡ take at l
  take_laid = take_at (take at l) (vs ++ drop (at + length vs) l) at front

  pub drop_laid : drop at (laid l at vs) ≡ vs ++ drop (at + length vs) l
  drop_laid = drop_at (take at l) (vs ++ drop (at + length vs) l) at front

  pub take_laid_through : take (at + length vs) (laid l at vs) ≡ take at l ++ vs
  take_laid_through = take-add at (length vs) (laid l at vs) ∙ rw (take_laid, drop_laid, take-append_seam)

  pub drop_laid_behind : drop (at + length vs) (laid l at vs) ≡ drop (at + length vs) l
  drop_laid_behind = sym (drop-drop (length vs) at (laid l at vs)) ∙ rw drop_laid (drop-append_seam vs (drop (at + length vs) l))

  pub get_or_laid : (j : ℕ) → j < length vs → get_or (laid l at vs) (at + j) 0 ≡ get_or vs j 0
  get_or_laid j k = sym (get_or-drop at (laid l at vs) j 0) ∙ rw drop_laid (get_or-append vs (drop (at + length vs) l) 0 j k)

  -- bytes laid right behind others are laid with them
  pub laid_of_laid : (ws : List ℕ) → laid (laid l at vs) (at + length vs) ws ≡ laid l at (vs ++ ws)
  laid_of_laid ws =
      let w = length ws in
      let d : drop (at + length vs + w) (laid l at vs) ≡ drop (at + length vs + w) l =
      sym (drop-drop w (at + length vs) (laid l at vs)) ∙ rw drop_laid_behind (drop-drop w (at + length vs) l) in
      rw (take_laid_through, d) (simp (append_assoc, length-append, add_assoc))

-- two writers one behind the other, with room for both
pub stored_of_stored : (l vs ws : List ℕ) (at : ℕ) → at + length vs + length ws ≤ length l → stored (stored l at vs) (at + length vs) ws ≡ laid l at (vs ++ ws)
stored_of_stored l vs ws at h =
    let k : at + length vs ≤ length l = omega arith in
    let e = stored_of_room (laid l at vs) ws (at + length vs) (rw (length_laid l vs at k) h) in
    ap (λ (m : List ℕ). stored m (at + length vs) ws) (sym (stored_of_room l vs at k).1) ∙ sym e.1 ∙ laid_of_laid l vs at k ws

-- a number that is written is read again
pub word16_of_laid : (l : List ℕ) (at x : ℕ) → at + 2 ≤ length l → word16 (laid l at (bytes16 x)) at ≡ x
word16_of_laid l at x h = word16_at (laid l at (bytes16 x)) at ∙ rw (drop_laid l (bytes16 x) at h) (be16_of_bytes16 x)

pub word32_of_laid : (l : List ℕ) (at x : ℕ) → at + 4 ≤ length l → word32 (laid l at (bytes32 x)) at ≡ x
word32_of_laid l at x h = word32_at (laid l at (bytes32 x)) at ∙ rw (drop_laid l (bytes32 x) at h) (be32_of_bytes32 x)

-- what is read and written back changes nothing
pub laid_of_own : (l : List ℕ) (at n : ℕ) → at + n ≤ length l → laid l at (take n (drop at l)) ≡ l
laid_of_own l at n h =
    let e : length (take n (drop at l)) ≡ n = length-take-le n (drop at l) (simp length-drop (omega arith)) in
    rw (e, ← drop-drop n at l, take-append-drop n (drop at l)) (take-append-drop at l)

pub laid_of_word16 : (l : List ℕ) (at : ℕ) → at + 2 ≤ length l → Below 256 l → laid l at (bytes16 (word16 l at)) ≡ l
laid_of_word16 l at h b = ap (laid l at) (bytes16_of_word16 l at h b) ∙ laid_of_own l at 2 h

pub laid_of_word32 : (l : List ℕ) (at : ℕ) → at + 4 ≤ length l → Below 256 l → laid l at (bytes32 (word32 l at)) ≡ l
laid_of_word32 l at h b = ap (laid l at) (bytes32_of_word32 l at h b) ∙ laid_of_own l at 4 h
