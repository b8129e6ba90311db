-- What `map` and `from_fn` of an array give, where a call of the closure leaves it as it was. Assumes nothing.
use mathlib.Core.Path.{◌≡◌, refl, sym, ◌∙◌, subst}
use mathlib.Core.List.{List, [], ◌∷◌, map}
use Prim.Native.Nat.{ℕ, zero, suc, ◌+◌, ◌<◌, ◌≤◌}
use native.Mathlib.Decide.{dec_lt}
use native.Mathlib.Omega.{arith}
use lib.ListN.{length, get_or}
use denote.Param.Members.{Mut, Called}
use Rattle.std.specs.Array.{MapsFrom, IsMapOf, IsFromFnResultFrom, IsFromFnResult}
use Rattle.std.proofs.lemmas.List.{get_or-map, length-map, same_lists}

-- each element is what the closure computes of the one at its place
module _ {F A B : Type 0} (g : Mut F (A × Unit {0}) B) (h : A → B) (f : F) (gives : (x : A) (y : B) (q : F) → Called g f (x, tt) y q → (y ≡ h x) × (q ≡ f)) where
  mapped_from : (q : F) (xs : List A) (ys : List B) (i n : ℕ) → q ≡ f → MapsFrom g q xs ys i n
      → (j : ℕ) → i ≤ j → j < i + n → (d : A) (e : B) → get_or ys j e ≡ h (get_or xs j d)
  mapped_from q xs ys i zero s m j l u d e = absurd (omega arith)
  mapped_from q xs ys i (suc n) s (p, x, y, a, b, k, m) j l u d e =
      let c = gives x y p (subst (λ (z : F). Called g z (x, tt) y p) s k) in
      elim (dec_lt i j) [
        | no o ↦ let here : i ≡ j = omega arith in rw (sym here, b.1 e, a.1 d) c.0
        | yes o ↦ mapped_from p xs ys (i + 1) n c.1 m j (omega arith) (omega arith) d e
      ]

  mapped_at : (d : A) (xs : List A) (ys : List B) (n : ℕ) → length xs ≡ n → IsMapOf g f xs ys n
      → (j : ℕ) (e : B) → j < length ys → get_or ys j e ≡ get_or (map h xs) j e
  mapped_at d xs ys n l m j e u =
      let w : j < length xs = omega (arith, m.long) in
      mapped_from f xs ys 0 n refl m.each j (omega arith) (omega arith) d e ∙ sym (get_or-map h xs j d e w)

  pub map_same : (xs : List A) (ys : List B) (n : ℕ) → length xs ≡ n → IsMapOf g f xs ys n → ys ≡ map h xs
  map_same [] ys n l m = same_lists ys [] (m.long ∙ sym l) (λ k d u. absurd (omega (arith, m.long, l)))
  map_same (x ∷ xs) ys n l m = same_lists ys (map h (x ∷ xs)) (m.long ∙ sym (length-map (x ∷ xs) h ∙ l)) (mapped_at x (x ∷ xs) ys n l m)

-- P holds of each place and the element there
module _ {F B : Type 0} (g : Mut F (ℕ × Unit {0}) B) (P : ℕ → B → Type 0) (f : F) (gives : (i : ℕ) (y : B) (q : F) → Called g f (i, tt) y q → P i y × (q ≡ f)) where
  filled_from : (q : F) (ys : List B) (i n : ℕ) → q ≡ f → IsFromFnResultFrom g q ys i n → (j : ℕ) → i ≤ j → j < i + n → (e : B) → P j (get_or ys j e)
  filled_from q ys i zero s m j l u e = absurd (omega arith)
  filled_from q ys i (suc n) s (p, y, b, k, m) j l u e =
      let c = gives i y p (subst (λ (z : F). Called g z (i, tt) y p) s k) in
      elim (dec_lt i j) [
        | no o ↦ let here : i ≡ j = omega arith in rw (sym here, b.1 e) c.0
        | yes o ↦ filled_from p ys (i + 1) n c.1 m j (omega arith) (omega arith) e
      ]

  pub from_fn_each : (ys : List B) (n : ℕ) → IsFromFnResult g f ys n → (j : ℕ) → j < n → (e : B) → P j (get_or ys j e)
  from_fn_each ys n m j l e = filled_from f ys 0 n refl m.each j (omega arith) (omega arith) e

-- and so where the closure computes it of the element of a list at its place
pub from_fn_map : {F A B : Type 0} (g : Mut F (ℕ × Unit {0}) B) (h : A → B) (xs : List A) (d : A) (f : F)
    → ((i : ℕ) (y : B) (q : F) → Called g f (i, tt) y q → (y ≡ h (get_or xs i d)) × (q ≡ f)) → (ys : List B) (n : ℕ) → length xs ≡ n → IsFromFnResult g f ys n → ys ≡ map h xs
from_fn_map {F} {A} {B} g h xs d f gives ys n l m = same_lists ys (map h xs) (m.long ∙ sym (length-map xs h ∙ l)) at
  where
    at : (j : ℕ) (e : B) → j < length ys → get_or ys j e ≡ get_or (map h xs) j e
    at j e u =
        let w : j < length xs = omega (arith, m.long) in
        from_fn_each g (λ i y. y ≡ h (get_or xs i d)) f gives ys n m j (omega (arith, m.long)) e ∙ sym (get_or-map h xs j d e w)
