-- Letters and digits are above 32, and a space or a newline is not. Assumes nothing.
use mathlib.Core.Path.{◌≡◌, refl}
use mathlib.Core.Bool.{Bool, true, false, ◌&&◌}
use mathlib.Core.List.{List, [], ◌∷◌}
use Prim.Native.Nat.{ℕ, zero, ◌<◌}
use native.Mathlib.Omega.{arith}
use lib.Dec.{ltb}
use lib.ListN.{length}
use borrow.Author.Tests.{ltb-true}
use Rattle.decimal.specs.Decimal.{decimal, Digits}
use Rattle.lines.specs.declared.Words.{Words}
use Rattle.lines.specs.Line.{Line, Line.say, Line.order, word_of}
use Rattle.lines.specs.Reading.{Visible}
use Rattle.decimal.proofs.DecimalLaws.{digits_decimal}

visible_of_digits : (l : List ℕ) → Digits l → Visible l
visible_of_digits [] h = tt
visible_of_digits (b ∷ l) h = (omega arith, visible_of_digits l h.2)

pub visible_decimal : (n : ℕ) → Visible (decimal n)
visible_decimal n = visible_of_digits (decimal n) (digits_decimal n)

both : (a b : Bool) → a && b ≡ true → (a ≡ true) × (b ≡ true)
both true b e = (refl, e)
both false b e = (e, cc)

-- a word is some letters, and they are visible; computed for each
visibleb : List ℕ → Bool
visibleb [] = true
visibleb (b ∷ l) = ltb 32 b && visibleb l

visibleb→visible : (l : List ℕ) → visibleb l ≡ true → Visible l
unfolding visibleb
visibleb→visible [] e = tt
visibleb→visible (b ∷ l) e = (ltb-true 32 b (both (ltb 32 b) (visibleb l) e).0, visibleb→visible l (both (ltb 32 b) (visibleb l) e).1)

wordb : List ℕ → Bool
wordb w = ltb 0 (length w) && visibleb w

wordb_word : (x : Line) → wordb (word_of x) ≡ true
unfolding wordb visibleb
wordb_word (say Words.Ok) = refl
wordb_word (say (Words.Begin n)) = refl
wordb_word (say (Words.Commit n)) = refl
wordb_word (say (Words.Cycle n)) = refl
wordb_word (say (Words.Swept c)) = refl
wordb_word (say Words.Good) = refl
wordb_word (say Words.Bad) = refl
wordb_word (order l) = refl
wordb_word (say (Words.Refused r)) = refl

pub word_some : (x : Line) → zero < length (word_of x)
unfolding wordb
word_some x = ltb-true 0 (length (word_of x)) (both (ltb 0 (length (word_of x))) (visibleb (word_of x)) (wordb_word x)).0

pub visible_word : (x : Line) → Visible (word_of x)
unfolding wordb
visible_word x = visibleb→visible (word_of x) (both (ltb 0 (length (word_of x))) (visibleb (word_of x)) (wordb_word x)).1
