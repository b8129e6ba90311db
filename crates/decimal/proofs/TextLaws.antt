-- A number has one text only: digits without a leading zero are the digits of their value. By taking off the last one. Assumes nothing.
use mathlib.Core.Path.{◌≡◌, ◌∙◌, refl, sym, ap, subst}
use mathlib.Core.List.{List, [], ◌∷◌, ◌++◌}
use Prim.Native.Nat.{ℕ, zero, suc, ◌+◌, ◌-◌, ◌*◌, ◌/◌, ◌%◌, ◌<◌, ◌≤◌}
use native.Mathlib.Omega.{arith}
use lib.ListN.{length, get_or, length-append}
use Rattle.decimal.specs.Decimal.{decimal, value_behind, Digits, DecimalOf}
use Rattle.decimal.proofs.DecimalLaws.{decimal_of_small, decimal_of_more, value_append}

last_digit : (b : ℕ) (l : List ℕ) → (m : List ℕ) × (d : ℕ) × (b ∷ l ≡ m ++ (d ∷ []))
last_digit b [] = ([], b, refl)
last_digit b (c ∷ l) = let u = last_digit c l in (b ∷ u.0, u.1, ap (λ (r : List ℕ). b ∷ r) u.2)

digits_of_append : (l r : List ℕ) → Digits (l ++ r) → Digits l × Digits r
digits_of_append [] r h = (tt, h)
digits_of_append (b ∷ l) r h = let g = digits_of_append l r h.2 in ((h.0, h.1, g.0), g.1)

value_le : (a : ℕ) (l : List ℕ) → a ≤ value_behind a l
value_le a [] = omega arith
value_le a (b ∷ l) = let h = value_le (10 * a + (b - 48)) l in omega arith

decimal_of_append : (v d : ℕ) → zero < v → 48 ≤ d → d < 58 → decimal (10 * v + (d - 48)) ≡ decimal v ++ (d ∷ [])
decimal_of_append v d h g f =
    let n = 10 * v + (d - 48) in
    let q : n / 10 ≡ v = omega arith in
    let r : 48 + n % 10 ≡ d = omega arith in
    decimal_of_more n (omega arith) ∙ rw (q, r)

text_of_one : (n b : ℕ) → n + 48 ≡ b → b < 58 → b ∷ [] ≡ decimal n
text_of_one n b e h =
    let s : 48 + n ≡ b = omega arith in
    sym (decimal_of_small n (omega arith) ∙ rw s)

text_of_more : (b d : ℕ) (m : List ℕ) → (b ≡ 48 → ⊥) → Digits ((b ∷ m) ++ (d ∷ [])) →
    (Digits (b ∷ m) → b ∷ m ≡ decimal (value_behind 0 (b ∷ m))) → (b ∷ m) ++ (d ∷ []) ≡ decimal (value_behind 0 ((b ∷ m) ++ (d ∷ [])))
text_of_more b d m z h rest =
    let g = digits_of_append (b ∷ m) (d ∷ []) h in
    let v = value_behind 0 (b ∷ m) in
    let f = value_le (10 * 0 + (b - 48)) m in
    let n : 48 < b = omega arith in
    ap (λ (r : List ℕ). r ++ (d ∷ [])) (rest g.0) ∙ sym (rw (value_append 0 (b ∷ m) d) (decimal_of_append v d (omega arith) g.1.0 g.1.1))

-- by the number of digits less one
abbrev Text : ℕ → Type 0
Text k = (l : List ℕ) → length l ≡ suc k → Digits l → (get_or l 0 0 ≡ 48 → length l ≡ 1) → l ≡ decimal (value_behind 0 l)

text_zero : Text zero
text_zero [] e h z = absurd (omega arith)
text_zero (b ∷ []) e h z = text_of_one (10 * 0 + (b - 48)) b (omega arith) h.1
text_zero (b ∷ c ∷ l) e h z = absurd (omega arith)

text_suc : (k : ℕ) → Text k → Text (suc k)
text_suc k rest [] e h z = absurd (omega arith)
text_suc k rest (b ∷ []) e h z = absurd (omega arith)
text_suc k rest (b ∷ c ∷ l) e h z =
    let u = last_digit c l in
    let m = u.0 in
    let d = u.1 in
    let p : b ∷ c ∷ l ≡ (b ∷ m) ++ (d ∷ []) = ap (λ (r : List ℕ). b ∷ r) u.2 in
    let n : b ≡ 48 → ⊥ = λ q. omega (arith, z q) in
    let size : length (b ∷ m) ≡ suc k = omega (arith, ap length p, length-append (b ∷ m) (d ∷ [])) in
    subst (λ (r : List ℕ). r ≡ decimal (value_behind 0 r)) (sym p) (text_of_more b d m n (subst Digits p h) (λ g. rest (b ∷ m) size g (λ q. absurd (n q))))

text : (k : ℕ) → Text k
text zero = text_zero
text (suc k) = text_suc k (text k)

-- so whatever is a text of n is `decimal n`
pub decimal_of_text : (n : ℕ) (l : List ℕ) → DecimalOf n l → l ≡ decimal n
decimal_of_text n l t = text (length l - 1) l (omega (arith, t.some_digit)) t.all_digits t.no_leading_zero ∙ rw t.value
