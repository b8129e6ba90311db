-- What stands in front of the bytes at hand is told rightly, and in one way only; and what is decided stays when more bytes come.
-- Assumes nothing.
use mathlib.Core.Path.{◌≡◌, ◌∙◌, refl, sym, ap, ap₂}
use mathlib.Core.Bool.{Bool, true, false, cond, not}
use mathlib.Core.List.{List, [], ◌∷◌}
use Prim.Native.Nat.{ℕ, zero, ◌+◌, ◌-◌, ◌<◌, ◌≤◌, ◌/◌, ◌%◌}
use native.Mathlib.Omega.{arith}
use borrow.Author.Tests.{ltb-true, ltb-false, eqb-true, eqb-false}
use lib.Dec.{ltb, eqb}
use lib.ListN.{length, get_or, take, drop, length-append, length-drop, take-append-drop}
use lib.Seq.{drop-drop, length-take-le, take-append_seam, drop-append_seam}
use Rattle.endian.specs.Bytes.{be16}
use Rattle.endian.specs.Places.{Below, word16}
use Rattle.endian.proofs.BytesLaws.{be16_of_bytes16}
use Rattle.endian.proofs.BelowLaws.{below_take, below_drop}
use Rattle.frames.specs.Frame.{Framed, body_to, EndsAt, Bad, version, over, Cut, Next, nothing, cut, bad, whole, Means, next_frame}

pub nil_of_length : (l : List ℕ) → length l ≡ 0 → l ≡ []
nil_of_length [] h = refl
nil_of_length (x ∷ l) h = absurd (omega arith)

-- what a frame in front tells of the first three bytes
module _ (l b r : List ℕ) (f : Framed l b r) where
  pub length_framed : length l ≡ 3 + (length b + length r)
  length_framed = rw f.bytes (simp length-append (omega arith))

  pub version_framed : get_or l 0 0 ≡ 1
  version_framed = rw f.bytes

  pub word_framed : word16 l 1 ≡ length b
  word_framed = rw f.bytes (be16_of_bytes16 (length b))

  not_bad_framed : Bad l → ⊥
  not_bad_framed (version h e) = e version_framed
  not_bad_framed (over h g) = omega (arith, word_framed, f.short)

  pub body_framed : b ≡ take (word16 l 1) (drop 3 l)
  body_framed = rw (word_framed, f.bytes) (sym (take-append_seam b r))

  pub rest_framed : r ≡ drop (word16 l 1) (drop 3 l)
  rest_framed = rw (word_framed, f.bytes) (sym (drop-append_seam b r))

-- the body and the rest by the place where the frame ends
pub ends_framed : (l : List ℕ) (e : ℕ) (b r : List ℕ) → Framed l b r → 3 + length b ≡ e → (b ≡ body_to e l) × EndsAt e l
ends_framed l e b r f h =
    let k : word16 l 1 ≡ e - 3 = word_framed l b r f ∙ omega arith in
    let j : 3 + (e - 3) ≡ e = omega arith in
    let p : b ≡ body_to e l = body_framed l b r f ∙ rw k in
    let q : r ≡ drop e l = rest_framed l b r f ∙ rw (k, drop-drop (e - 3) 3 l, j) in
    (p, record { start = omega arith; within = omega (arith, length_framed l b r f); front = rw (← p, ← q) f })

-- the body as a part of the bytes
module _ (l : List ℕ) (e : ℕ) where
  pub length_body_to : EndsAt e l → 3 + length (body_to e l) ≡ e
  length_body_to f = let h : length (body_to e l) ≡ e - 3 = length-take-le (e - 3) (drop 3 l) (simp length-drop (omega arith)) in omega arith

  pub below_body_to : Below 256 l → Below 256 (body_to e l)
  below_body_to w = below_take 256 (e - 3) (drop 3 l) (below_drop 256 3 l w)

-- the header's three bytes and the body, where the length says so
framed_of_length : (l : List ℕ) → get_or l 0 0 ≡ 1 → word16 l 1 ≤ 160 → 3 + word16 l 1 ≤ length l →
    Framed l (take (word16 l 1) (drop 3 l)) (drop (word16 l 1) (drop 3 l))
framed_of_length [] v s h = absurd (omega arith)
framed_of_length (x ∷ []) v s h = absurd (omega arith)
framed_of_length (x ∷ y ∷ []) v s h = absurd (omega arith)
framed_of_length (x ∷ y ∷ z ∷ r) v s h =
    let n = be16 y z in
    let e : length (take n r) ≡ n = length-take-le n r (omega arith) in
    let hi : n / 256 ≡ y = omega arith in
    let lo : n % 256 ≡ z = omega arith in
    record { bytes = rw (e, hi, lo, take-append-drop n r, v); short = rw e s }

-- bytes that begin with version 1 and are fewer than their header says, or fewer than a header
cut_of_short : (l : List ℕ) → zero < length l → get_or l 0 0 ≡ 1 → (3 ≤ length l → word16 l 1 ≤ 160) → length l < 3 + word16 l 1 → Cut l
cut_of_short l p v s h = record { begun = p; not_bad = no_bad; not_whole = no_frame }
  where
    no_bad : Bad l → ⊥
    no_bad (version q e) = e v
    no_bad (over q g) = omega (arith, s q)

    no_frame : (b r : List ℕ) → Framed l b r → ⊥
    no_frame b r f = omega (arith, length_framed l b r f, word_framed l b r f)

pub means_next : (l : List ℕ) → Means l (next_frame l)
unfolding next_frame
means_next l = go (eqb (length l) 0) (eqb (get_or l 0 0) 1) (ltb (length l) 3) (ltb 160 (word16 l 1)) (ltb (length l) (3 + word16 l 1)) refl refl refl refl refl
  where
    some_of_nonzero : eqb (length l) 0 ≡ false → zero < length l
    some_of_nonzero e = let n = eqb-false (length l) 0 e in omega arith

    go : (z v s o w : Bool) → eqb (length l) 0 ≡ z → eqb (get_or l 0 0) 1 ≡ v → ltb (length l) 3 ≡ s → ltb 160 (word16 l 1) ≡ o → ltb (length l) (3 + word16 l 1) ≡ w →
        Means l (cond z nothing (cond (not v) bad (cond s cut (cond o bad (cond w cut (whole (take (word16 l 1) (drop 3 l)) (drop (word16 l 1) (drop 3 l))))))))
    go true v s o w ez ev es eo ew = nil_of_length l (eqb-true _ _ ez)
    go false false s o w ez ev es eo ew = version (some_of_nonzero ez) (eqb-false _ _ ev)
    go false true true o w ez ev es eo ew =
        let h = ltb-true (length l) 3 es in
        cut_of_short l (some_of_nonzero ez) (eqb-true _ _ ev) (λ q. absurd (omega arith)) (omega arith)
    go false true false true w ez ev es eo ew = over (ltb-false _ _ es) (ltb-true _ _ eo)
    go false true false false true ez ev es eo ew =
        cut_of_short l (some_of_nonzero ez) (eqb-true _ _ ev) (λ q. ltb-false _ _ eo) (ltb-true _ _ ew)
    go false true false false false ez ev es eo ew = framed_of_length l (eqb-true _ _ ev) (ltb-false _ _ eo) (ltb-false _ _ ew)

-- the four are apart from each other
pub length_bad : (l : List ℕ) → Bad l → zero < length l
length_bad l (version h e) = h
length_bad l (over h g) = omega arith

module _ (l : List ℕ) where
  pub one_meaning : (x y : Next) → Means l x → Means l y → x ≡ y
  one_meaning nothing nothing p q = refl
  one_meaning nothing cut p q = absurd (omega (arith, ap length p, q.begun))
  one_meaning nothing bad p q = absurd (omega (arith, ap length p, length_bad l q))
  one_meaning nothing (whole b r) p q = absurd (omega (arith, ap length p, length_framed l b r q))
  one_meaning cut nothing p q = absurd (omega (arith, ap length q, p.begun))
  one_meaning cut cut p q = refl
  one_meaning cut bad p q = absurd (p.not_bad q)
  one_meaning cut (whole b r) p q = absurd (p.not_whole b r q)
  one_meaning bad nothing p q = absurd (omega (arith, ap length q, length_bad l p))
  one_meaning bad cut p q = absurd (q.not_bad p)
  one_meaning bad bad p q = refl
  one_meaning bad (whole b r) p q = absurd (not_bad_framed l b r q p)
  one_meaning (whole b r) nothing p q = absurd (omega (arith, ap length q, length_framed l b r p))
  one_meaning (whole b r) cut p q = absurd (q.not_whole b r p)
  one_meaning (whole b r) bad p q = absurd (not_bad_framed l b r p q)
  one_meaning (whole b r) (whole c s) p q =
      ap₂ whole (body_framed l b r p ∙ sym (body_framed l c s q)) (rest_framed l b r p ∙ sym (rest_framed l c s q))

  pub next_of_means : (x : Next) → Means l x → next_frame l ≡ x
  next_of_means x p = one_meaning (next_frame l) x (means_next l) p

  pub means_of_next : (x : Next) → next_frame l ≡ x → Means l x
  means_of_next x e = rw e at (means_next l)

-- bytes that are not yet whole are fewer than the longest message has, so a buffer of 163 never waits for more while it is full
pub length_cut : (l : List ℕ) → Cut l → length l < 163
length_cut l c = go (ltb (length l) 163) (eqb (get_or l 0 0) 1) (ltb 160 (word16 l 1)) refl refl refl
  where
    go : (b v o : Bool) → ltb (length l) 163 ≡ b → eqb (get_or l 0 0) 1 ≡ v → ltb 160 (word16 l 1) ≡ o → length l < 163
    go true v o e ev eo = ltb-true (length l) 163 e
    go false false o e ev eo = absurd (c.not_bad (version c.begun (eqb-false _ _ ev)))
    go false true true e ev eo = let h = ltb-false (length l) 163 e in absurd (c.not_bad (over (omega arith) (ltb-true _ _ eo)))
    go false true false e ev eo =
        let h = ltb-false (length l) 163 e in
        let s = ltb-false 160 (word16 l 1) eo in
        absurd (c.not_whole _ _ (framed_of_length l (eqb-true _ _ ev) s (omega arith)))
