-- What is stored piece by piece is laid as a whole; and what a writer answers and leaves, with room and without. Assumes nothing.
use mathlib.Core.Path.{◌≡◌, ◌∙◌, refl, sym, ap}
use mathlib.Core.List.{List, [], ◌∷◌, ◌++◌}
use Prim.Native.Nat.{ℕ, ◌+◌, ◌-◌, ◌<◌, ◌≤◌}
use native.Mathlib.Nat.{add-zero}
use native.Mathlib.Numerals.{add-one}
use native.Mathlib.Omega.{arith}
use lib.ListN.{length, set, take, drop, drop_of_length-le, take-append-drop}
use lib.Seq.{set_split}
use borrow.Rule.Slice.PartMut.{put_mid}
use borrow.Author.Tests.{le-leb, lt-leb}
use Rattle.std.proofs.lemmas.List.{drop-set, length-set, length-take-le}
use Rattle.std.proofs.lemmas.Slice.{put_mid-paste}
use Rattle.endian.specs.Laid.{laid, stored}
use Rattle.endian.proofs.LaidLaws.{laid_of_paste, length_laid, laid_of_laid, stored_of_room, stored_of_no_room}
use Rattle.std.specs.Prelude.{Some, None}
use Rattle.decimal.specs.Written.{written_count}

-- nothing, one byte, and one byte right behind others
pub laid_of_nil : (l : List ℕ) (at : ℕ) → l ≡ laid l at []
laid_of_nil l at = rw (add-zero at) (sym (take-append-drop at l))

pub laid_of_set : (l : List ℕ) (at b : ℕ) → at < length l → set l at b ≡ laid l at (b ∷ [])
laid_of_set l at b h = rw (add-one at) (set_split l at b h)

pub laid_of_set_behind : (l vs : List ℕ) (at b : ℕ) → at + length vs < length l → set (laid l at vs) (at + length vs) b ≡ laid l at (vs ++ (b ∷ []))
laid_of_set_behind l vs at b h =
    let k = length_laid l vs at (omega arith) in
    laid_of_set (laid l at vs) (at + length vs) b (omega arith) ∙ laid_of_laid l vs at (omega arith) (b ∷ [])

-- how many stand before the last place, and what stands from it on once a byte is stored there
pub length_front : (l : List ℕ) (n b : ℕ) → length l ≡ n + 1 → length (take (length l - 1) (set l (length l - 1) b)) ≡ n
length_front l n b h = length-take-le (length l - 1) (set l (length l - 1) b) (omega (arith, length-set l (length l - 1) b)) ∙ omega (arith, h)

pub last_of_set : (l : List ℕ) (k b : ℕ) → k + 1 ≡ length l → drop k (set l k b) ≡ b ∷ []
last_of_set l k b h = drop-set l k b (omega arith) ∙ ap (λ (r : List ℕ). b ∷ r) (drop_of_length-le l (omega arith))

-- what a write to `&mut l[at..at + n]` leaves
pub laid_of_part : (l vs ys : List ℕ) (at n : ℕ) → ys ≡ vs → n ≡ length vs → put_mid at n l ys ≡ laid l at vs
laid_of_part l vs ys at n e k = put_mid-paste at n l ys vs (length vs) e (sym k) refl ∙ laid_of_paste l vs at

-- the answer and the buffer of a writer of vs
module _ (l vs : List ℕ) (at : ℕ) where
  pub written_of_room : at + length vs ≤ length l → (Some (length vs) ≡ written_count l at vs) × (laid l at vs ≡ stored l at vs)
  written_of_room h = (rw (le-leb (at + length vs) (length l) h), (stored_of_room l vs at h).1)

  pub written_of_no_room : length l < at + length vs → (None ≡ written_count l at vs) × (l ≡ stored l at vs)
  written_of_no_room h = (rw (lt-leb (at + length vs) (length l) h), (stored_of_no_room l vs at h).1)

  -- None says no room and nothing else
  pub no_room_of_none : written_count l at vs ≡ None → at + length vs ≤ length l → ⊥
  no_room_of_none e h = let r = (written_of_room h).0 in absurd (cc (r, e))
