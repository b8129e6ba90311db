-- Numbers behind spaces, one more at a time: what the loops add with each turn. Assumes nothing.
use mathlib.Core.Path.{◌≡◌, ◌∙◌, refl, sym, ap}
use mathlib.Core.List.{List, [], ◌∷◌, ◌++◌, append-nil, append_assoc}
use Prim.Native.Nat.{ℕ, ◌+◌, ◌-◌, ◌<◌, ◌≤◌}
use native.Mathlib.Numerals.{add-one}
use native.Mathlib.Omega.{arith}
use lib.ListN.{take-append-drop, length, get_or, take, drop, length-append}
use lib.Seq.{take-suc}
use Rattle.std.specs.List.{fold}
use Rattle.decimal.specs.Decimal.{decimal}
use Rattle.text.specs.Text.{spaced, text_of}

pub spaced_append : (l m : List ℕ) → spaced (l ++ m) ≡ spaced l ++ spaced m
unfolding spaced
spaced_append [] m = refl
spaced_append (n ∷ l) m = rw (spaced_append l m) (ap (λ (r : List ℕ). 32 ∷ r) (sym (append_assoc (decimal n) (spaced l) (spaced m))))

pub spaced_nil : spaced [] ≡ []
unfolding spaced
spaced_nil = refl

pub length_spaced_nil : length (spaced []) ≡ 0
length_spaced_nil = rw spaced_nil

pub spaced_one : (n : ℕ) → spaced (n ∷ []) ≡ 32 ∷ decimal n
unfolding spaced
spaced_one n = rw (append-nil (decimal n))

pub length_spaced_one : (n : ℕ) → length (spaced (n ∷ [])) ≡ 1 + length (decimal n)
length_spaced_one n = rw (spaced_one n) (omega arith)

-- the number at i behind those before it
module _ (l : List ℕ) (i : ℕ) where
  pub spaced_take_more : i < length l → spaced (take (i + 1) l) ≡ spaced (take i l) ++ spaced (get_or l i 0 ∷ [])
  spaced_take_more h = rw (add-one i, take-suc l i 0 h) (spaced_append (take i l) (get_or l i 0 ∷ []))

  pub length_spaced_more : i < length l → length (spaced (take (i + 1) l)) ≡ length (spaced (take i l)) + length (spaced (get_or l i 0 ∷ []))
  length_spaced_more h = rw (spaced_take_more h) (length-append (spaced (take i l)) (spaced (get_or l i 0 ∷ [])))

  -- fewer numbers are no longer
  pub length_spaced_take : length (spaced (take i l)) ≤ length (spaced l)
  length_spaced_take =
      let s : spaced l ≡ spaced (take i l) ++ spaced (drop i l) = ap spaced (sym (take-append-drop i l)) ∙ spaced_append (take i l) (drop i l) in
      omega (arith, ap length s, length-append (spaced (take i l)) (spaced (drop i l)))

-- what is left of a room as the numbers are gone through
pub fold_room : (l : List ℕ) (room : ℕ) → fold (λ left n. left - (1 + length (decimal n))) room l ≡ room - length (spaced l)
unfolding spaced
fold_room [] room = omega arith
fold_room (n ∷ l) room = fold_room l (room - (1 + length (decimal n))) ∙ omega (arith, length-append (decimal n) (spaced l))

pub length_text : (w l : List ℕ) → length (text_of w l) ≡ length w + length (spaced l) + 1
length_text w l = simp length-append (omega arith)
