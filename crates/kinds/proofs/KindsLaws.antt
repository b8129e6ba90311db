-- The test on kind and length says what the table says: a body of kind k that is len bytes long has n entries. Assumes nothing.
use Rattle.std.proofs.Common.{◌≡◌, refl, Bool, true, false, not, List, ℕ, ◌+◌, ◌-◌, ◌*◌, ◌/◌, ◌%◌, ◌<◌, ◌≤◌, Some, length, get_or, ltb, leb, eqb, mul-le-mul_left, arith}
use Rattle.std.specs.List.{list_all}
use Rattle.std.proofs.lemmas.List.Folds.{list_all_at}
use Rattle.std.proofs.lemmas.Option.{same_Some}
use native.Mathlib.Nat.{mul-div_right, mul-mod_right, div-add-mod}
use borrow.Author.Tests.{lt-ltb, le-ltb, ltb-true, ltb-false, leb-true, eqb-true, not-false}
use Rattle.kinds.specs.declared.Shape.{Shape}
use Rattle.kinds.specs.Kinds.{kinds, row_of, HasLength, entries_in, entries_of}
use Rattle.kinds.proofs.CaseLaws.{some_of_cond, some_of_cond_true}

-- a test that every row passes
row_of_all : (f : Shape → Bool) (l : List Shape) (d : Shape) → list_all f l ≡ true → (k : ℕ) → k < length l → f (get_or l k d) ≡ true
row_of_all f l d e k h = go (f (get_or l k d)) refl
  where
    go : (b : Bool) → f (get_or l k d) ≡ b → b ≡ true
    go true g = refl
    go false g = cc (list_all_at f l k d h g)

-- computed over the table: no step is zero, so that there is a quotient, and the longest body of a kind is at most 160 bytes long
pub step_pos : (k : ℕ) → k < length kinds → 0 < (row_of k).step
step_pos k h = ltb-true 0 ((row_of k).step) (row_of_all (λ r. ltb 0 r.step) kinds _ refl k h)

longest : (k : ℕ) → k < length kinds → (row_of k).base + (row_of k).step * (row_of k).most ≤ 160
longest k h = leb-true _ 160 (row_of_all (λ r. leb (r.base + r.step * r.most) 160) kinds _ refl k h)

module _ (r : Shape) (len n : ℕ) where
  length_of_entries_in : entries_in r len ≡ Some n → (r.least ≤ n) × (n ≤ r.most) × (len ≡ r.base + r.step * n)
  length_of_entries_in e =
      let over = len - r.base in
      let (b, e1) = some_of_cond (ltb len r.base) _ n e in
      let (z, e2) = some_of_cond (not (eqb (over % r.step) 0)) _ n e1 in
      let (l, e3) = some_of_cond (ltb (over / r.step) r.least) _ n e2 in
      let (m, e4) = some_of_cond (ltb r.most (over / r.step)) _ n e3 in
      go over (over / r.step) (over % r.step) (same_Some (over / r.step) n e4) (ltb-false _ _ b) refl (eqb-true _ _ (not-false _ z)) (ltb-false _ _ l) (ltb-false _ _ m) (div-add-mod over r.step)
    where
      go : (over q z : ℕ) → q ≡ n → r.base ≤ len → over ≡ len - r.base → z ≡ 0 → r.least ≤ q → q ≤ r.most → r.step * q + z ≡ over → (r.least ≤ n) × (n ≤ r.most) × (len ≡ r.base + r.step * n)
      go over q z e b o ez l m d = rw (← e) (l, m, omega arith)

  entries_in_of_length : 0 < r.step → r.least ≤ n → n ≤ r.most → len ≡ r.base + r.step * n → entries_in r len ≡ Some n
  entries_in_of_length p l m e =
      let o : len - r.base ≡ r.step * n = omega arith in
      let b : ltb len r.base ≡ false = le-ltb len r.base (omega arith) in
      rw (b, o, mul-mod_right r.step n, mul-div_right n p, le-ltb n r.least l, le-ltb r.most n m)

pub length_of_entries : (k len n : ℕ) → entries_of k len ≡ Some n → HasLength k n len
unfolding entries_of
length_of_entries k len n e =
    let (h, g) = some_of_cond_true (ltb k (length kinds)) (entries_in (row_of k) len) n e in
    let (l, m, b) = length_of_entries_in (row_of k) len n g in
    record { known = ltb-true k (length kinds) h; enough = l; few = m; bytes = b }

pub entries_of_length : (k len n : ℕ) → HasLength k n len → entries_of k len ≡ Some n
unfolding entries_of
entries_of_length k len n h =
    rw (lt-ltb k (length kinds) h.known) (entries_in_of_length (row_of k) len n (step_pos k h.known) h.enough h.few h.bytes)

pub length_le_of_entries : (k len n : ℕ) → entries_of k len ≡ Some n → len ≤ 160
length_le_of_entries k len n e =
    let h = length_of_entries k len n e in
    omega (arith, mul-le-mul_left ((row_of k).step) h.few, longest k h.known)
