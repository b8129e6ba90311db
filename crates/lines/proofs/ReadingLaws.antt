-- Lines can be read: those with the same bytes are the same, also one behind the other. A word or a number ends where the first byte stands
-- that is not visible, and lines are a word and numbers. Assumes nothing.
use mathlib.Core.Path.{◌≡◌, ◌∙◌, refl, sym, ap}
use mathlib.Core.Bool.{cond}
use mathlib.Core.List.{List, [], ◌∷◌, ◌++◌, append_assoc, head-eq_of_cons-eq, tail-eq_of_cons-eq}
use Prim.Native.Nat.{ℕ, ◌+◌, ◌*◌, ◌≤◌}
use native.Mathlib.Omega.{arith}
use lib.Dec.{eqb}
use lib.ListN.{length, get_or, length-append}
use Rattle.decimal.specs.Decimal.{decimal}
use Rattle.text.specs.Text.{spaced}
use Rattle.lines.specs.declared.Words.{Words}
use Rattle.lines.specs.Line.{Line, Line.say, Line.order, word_of, numbers_of, line_bytes}
use Rattle.lines.specs.Reading.{Visible, output_bytes}
use Rattle.decimal.proofs.DecimalLaws.{decimal_injective}
use Rattle.text.proofs.SpacedLaws.{length_text}
use Rattle.lines.proofs.VisibleLaws.{visible_decimal, visible_word}

-- a word or a number ends where the first byte stands that is not above the space, or where the list ends
ends_same : (u v r s : List ℕ) → Visible u → Visible v → get_or r 0 0 ≤ 32 → get_or s 0 0 ≤ 32 → u ++ r ≡ v ++ s → (u ≡ v) × (r ≡ s)
ends_same [] [] r s h g p q e = (refl, e)
ends_same [] (c ∷ v) r s h g p q e = absurd (omega (arith, ap (λ (l : List ℕ). get_or l 0 0) e))
ends_same (b ∷ u) [] r s h g p q e = absurd (omega (arith, ap (λ (l : List ℕ). get_or l 0 0) e))
ends_same (b ∷ u) (c ∷ v) r s h g p q e =
    let i = ends_same u v r s h.1 g.1 p q (tail-eq_of_cons-eq e) in
    (cc (head-eq_of_cons-eq e, i.0), i.1)

spaced_stops : (l r : List ℕ) → get_or (spaced l ++ (10 ∷ r)) 0 0 ≤ 32
unfolding spaced
spaced_stops [] r = omega arith
spaced_stops (n ∷ l) r = omega arith

spaced_same : (l m r s : List ℕ) → spaced l ++ (10 ∷ r) ≡ spaced m ++ (10 ∷ s) → (l ≡ m) × (r ≡ s)
unfolding spaced
spaced_same [] [] r s e = (refl, tail-eq_of_cons-eq e)
spaced_same [] (n ∷ m) r s e = absurd (omega (arith, head-eq_of_cons-eq e))
spaced_same (n ∷ l) [] r s e = absurd (omega (arith, head-eq_of_cons-eq e))
spaced_same (k ∷ l) (n ∷ m) r s e =
    let t = sym (append_assoc (decimal k) (spaced l) (10 ∷ r)) ∙ tail-eq_of_cons-eq e ∙ append_assoc (decimal n) (spaced m) (10 ∷ s) in
    let i = ends_same (decimal k) (decimal n) (spaced l ++ (10 ∷ r)) (spaced m ++ (10 ∷ s)) (visible_decimal k) (visible_decimal n) (spaced_stops l r) (spaced_stops m s) t in
    let j = spaced_same l m r s i.1 in
    (cc (decimal_injective k n i.0, j.0), j.1)

-- the line of a word, told by its first two letters, and of its numbers
line_from : List ℕ → List ℕ → Line
line_from w l =
    let k = 256 * get_or w 0 0 + get_or w 1 0 in
    let n = get_or l 0 0 in
    cond (eqb k 28523) (say Words.Ok)
    (cond (eqb k 25189) (say (Words.Begin n))
    (cond (eqb k 25455) (say (Words.Commit n))
    (cond (eqb k 25465) (say (Words.Cycle n))
    (cond (eqb k 29559) (say (Words.Swept n))
    (cond (eqb k 26479) (say Words.Good)
    (cond (eqb k 25185) (say Words.Bad)
    (cond (eqb k 28530) (order l) (say (Words.Refused n)))))))))

line_from_lem : (x : Line) → line_from (word_of x) (numbers_of x) ≡ x
unfolding line_from
line_from_lem (say Words.Ok) = refl
line_from_lem (say (Words.Begin n)) = refl
line_from_lem (say (Words.Commit n)) = refl
line_from_lem (say (Words.Cycle n)) = refl
line_from_lem (say (Words.Swept c)) = refl
line_from_lem (say Words.Good) = refl
line_from_lem (say Words.Bad) = refl
line_from_lem (order l) = refl
line_from_lem (say (Words.Refused r)) = refl

-- with anything behind: the first line is determined, and so is the rest
pub line_and_rest : (x y : Line) (r s : List ℕ) → line_bytes x ++ r ≡ line_bytes y ++ s → (x ≡ y) × (r ≡ s)
line_and_rest x y r s e =
    let i = ends_same (word_of x) (word_of y) (spaced (numbers_of x) ++ (10 ∷ r)) (spaced (numbers_of y) ++ (10 ∷ s)) (visible_word x) (visible_word y) (spaced_stops (numbers_of x) r) (spaced_stops (numbers_of y) s) (sym (opened x r) ∙ e ∙ opened y s) in
    let j = spaced_same (numbers_of x) (numbers_of y) r s i.1 in
    (sym (line_from_lem x) ∙ rw (i.0, j.0) (line_from_lem y), j.1)
  where
    opened : (z : Line) (t : List ℕ) → line_bytes z ++ t ≡ word_of z ++ (spaced (numbers_of z) ++ (10 ∷ t))
    opened z t = append_assoc (word_of z) (spaced (numbers_of z) ++ (10 ∷ [])) t ∙ ap (λ (l : List ℕ). word_of z ++ l) (append_assoc (spaced (numbers_of z)) (10 ∷ []) t)

pub line_bytes_injective : (x y : Line) → line_bytes x ≡ line_bytes y → x ≡ y
line_bytes_injective x y e = (line_and_rest x y [] [] (ap (λ (l : List ℕ). l ++ []) e)).0

-- all lines, from all bytes
pub output_bytes_injective : (xs ys : List Line) → output_bytes xs ≡ output_bytes ys → xs ≡ ys
unfolding output_bytes
output_bytes_injective [] [] e = refl
output_bytes_injective [] (y ∷ ys) e = absurd (omega (arith, ap length e, length-append (line_bytes y) (output_bytes ys), length_text (word_of y) (numbers_of y)))
output_bytes_injective (x ∷ xs) [] e = absurd (omega (arith, ap length e, length-append (line_bytes x) (output_bytes xs), length_text (word_of x) (numbers_of x)))
output_bytes_injective (x ∷ xs) (y ∷ ys) e =
    let i = line_and_rest x y (output_bytes xs) (output_bytes ys) e in
    cc (i.0, output_bytes_injective xs ys i.1)
