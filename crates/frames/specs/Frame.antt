-- The frame of a body, and what stands in front of the bytes at hand: RULES, Messages. The test `next_frame` looks at the bytes in the
-- sequence in which they come; proofs/FrameLaws.antt shows that its answer is the one that fits.
use Rattle.std.specs.Prelude.{◌≡◌, cond, not, List, [], ◌∷◌, ◌++◌, ℕ, zero, ◌+◌, ◌-◌, ◌<◌, ◌≤◌, ltb, eqb, length, get_or, take, drop}
use Rattle.endian.specs.Bytes.{bytes16}
use Rattle.endian.specs.Places.{word16}

-- version 1, the body's length in two bytes, the body
abbrev pub frame_of : List ℕ → List ℕ
frame_of b = 1 ∷ (bytes16 (length b) ++ b)

-- in front stands the frame of b, and r behind it
pub record Framed (l b r : List ℕ) : Type 0 where
  pub bytes : l ≡ frame_of b ++ r
  pub short : length b ≤ 160

-- the same by the place e at which the frame ends: the body is the part from byte 3 to e, as `&msg[3..e]` is
abbrev pub body_to : ℕ → List ℕ → List ℕ
body_to e l = take (e - 3) (drop 3 l)

pub record EndsAt (e : ℕ) (l : List ℕ) : Type 0 where
  pub start : 3 ≤ e
  pub within : e ≤ length l
  pub front : Framed l (body_to e l) (drop e l)

-- refusal 11: the version is not 1, which the first byte tells, or the length is over 160, which the first three tell. The length is
-- looked at as a whole: a high byte that is not 0 waits for the low one. At the end of input all that is left over is 11, so this settles
-- when the line is written and not which.
pub data Bad (l : List ℕ) : Type 0 where
  version : zero < length l → (get_or l 0 0 ≡ 1 → ⊥) → Bad l
  over : 3 ≤ length l → 160 < word16 l 1 → Bad l

-- not yet whole: something is there, and it is neither an 11 nor a frame
pub record Cut (l : List ℕ) : Type 0 where
  pub begun : zero < length l
  pub not_bad : Bad l → ⊥
  pub not_whole : (b r : List ℕ) → Framed l b r → ⊥

pub data Next : Type 0 where
  nothing cut bad : Next
  -- a body, and what stands behind its frame
  whole : List ℕ → List ℕ → Next

abbrev pub Means : List ℕ → Next → Type 0
Means l nothing = l ≡ []
Means l cut = Cut l
Means l bad = Bad l
Means l (whole b r) = Framed l b r

-- the same as a test
unfoldable pub next_frame : List ℕ → Next
next_frame l =
    cond (eqb (length l) 0) nothing
    (cond (not (eqb (get_or l 0 0) 1)) bad
    (cond (ltb (length l) 3) cut
    (cond (ltb 160 (word16 l 1)) bad
    (cond (ltb (length l) (3 + word16 l 1)) cut
    (whole (take (word16 l 1) (drop 3 l)) (drop (word16 l 1) (drop 3 l)))))))
