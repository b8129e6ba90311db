-- Each line has one newline, at its end, with no space before it, and at most 358 bytes. Assumes nothing.
use mathlib.Core.Path.{◌≡◌, refl, sym}
use mathlib.Core.List.{List, [], ◌∷◌, ◌++◌, append_assoc}
use Prim.Native.Nat.{ℕ, zero, ◌+◌, ◌*◌, ◌^◌, ◌<◌, ◌≤◌}
use native.Mathlib.Omega.{arith}
use lib.ListN.{length, length-append}
use Rattle.endian.specs.Places.{Below}
use Rattle.decimal.specs.Decimal.{decimal}
use Rattle.text.specs.Text.{spaced}
use Rattle.lines.specs.declared.Words.{Words}
use Rattle.lines.specs.Line.{Line, Line.say, Line.order, word_of, numbers_of, line_bytes, InRange}
use Rattle.lines.specs.Reading.{Visible, Lacks, last_of, OneLine}
use Rattle.decimal.proofs.DecimalLaws.{length_decimal_pos, length_decimal_32}
use Rattle.text.proofs.SpacedLaws.{length_text}
use Rattle.lines.proofs.VisibleLaws.{visible_decimal, word_some, visible_word}

-- one newline, no trailing space
lacks_append : (b : ℕ) (l r : List ℕ) → Lacks b l → Lacks b r → Lacks b (l ++ r)
lacks_append b [] r h g = g
lacks_append b (c ∷ l) r h g = (h.0, lacks_append b l r h.1 g)

lacks_of_visible : (b : ℕ) (l : List ℕ) → b ≤ 32 → Visible l → Lacks b l
lacks_of_visible b [] k h = tt
lacks_of_visible b (c ∷ l) k h = (λ e. omega arith, lacks_of_visible b l k h.1)

-- no digit is a newline or a space
pub decimal_lacks : (b n : ℕ) → b ≤ 32 → Lacks b (decimal n)
decimal_lacks b n k = lacks_of_visible b (decimal n) k (visible_decimal n)

spaced_lacks_newline : (l : List ℕ) → Lacks 10 (spaced l)
unfolding spaced
spaced_lacks_newline [] = tt
spaced_lacks_newline (n ∷ l) = (λ e. omega arith, lacks_append 10 (decimal n) (spaced l) (decimal_lacks 10 n (omega arith)) (spaced_lacks_newline l))

last_of_append : (d : ℕ) (l r : List ℕ) → last_of d (l ++ r) ≡ last_of (last_of d l) r
last_of_append d [] r = refl
last_of_append d (b ∷ l) r = last_of_append b l r

last_visible : (d : ℕ) (l : List ℕ) → zero < length l → Visible l → 32 < last_of d l
last_visible d [] k h = absurd (omega arith)
last_visible d (b ∷ []) k h = h.0
last_visible d (b ∷ c ∷ l) k h = last_visible b (c ∷ l) (omega arith) h.1

last_spaced : (d : ℕ) (l : List ℕ) → 32 < d → 32 < last_of d (spaced l)
unfolding spaced
last_spaced d [] h = h
last_spaced d (n ∷ l) h =
    rw (last_of_append 32 (decimal n) (spaced l)) (last_spaced (last_of 32 (decimal n)) l (last_visible 32 (decimal n) (length_decimal_pos n) (visible_decimal n)))

pub one_line : (x : Line) → OneLine (line_bytes x)
one_line x =
    let w = word_of x in
    let s = spaced (numbers_of x) in
    let last = last_spaced (last_of 0 w) (numbers_of x) (last_visible 0 w (word_some x) (visible_word x)) in
    record {
      front = w ++ s;
      whole = sym (append_assoc w s (10 ∷ []));
      no_newline = lacks_append 10 w s (lacks_of_visible 10 w (omega arith) (visible_word x)) (spaced_lacks_newline (numbers_of x));
      no_trailing_space = λ e. omega (arith, sym (last_of_append 0 w s));
    }

-- how long
length_spaced_le : (l : List ℕ) → Below (2 ^ 32) l → length (spaced l) ≤ 11 * length l
unfolding spaced
length_spaced_le [] h = omega arith
length_spaced_le (n ∷ l) h = omega (arith, length-append (decimal n) (spaced l), length_decimal_32 n h.0, length_spaced_le l h.1)

-- a word and at most one number are at most 19 bytes; an order of 32 numbers is at most 6 + 32 * 11
pub length_line_le : (x : Line) → InRange x → length (line_bytes x) ≤ 358
length_line_le x h = by_word x h.few (omega (arith, length_text (word_of x) (numbers_of x), length_spaced_le (numbers_of x) h.numbers)) where
  by_word : (y : Line) → length (numbers_of y) ≤ 32 → length (line_bytes y) ≤ length (word_of y) + 11 * length (numbers_of y) + 1 → length (line_bytes y) ≤ 358
  by_word (say Words.Ok) few e = omega arith
  by_word (say (Words.Begin n)) few e = omega arith
  by_word (say (Words.Commit n)) few e = omega arith
  by_word (say (Words.Cycle n)) few e = omega arith
  by_word (say (Words.Swept c)) few e = omega arith
  by_word (say Words.Good) few e = omega arith
  by_word (say Words.Bad) few e = omega arith
  by_word (order l) few e = omega arith
  by_word (say (Words.Refused r)) few e = omega arith

pub line_some : (x : Line) → zero < length (line_bytes x)
line_some x = omega (arith, length_text (word_of x) (numbers_of x))
