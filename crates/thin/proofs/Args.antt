-- The arguments that a thin function passes on beside its table, any number of them in any order: how they stand in a signature, and what
-- passing them on keeps, to a callee whose lifetimes have other numbers. Assumes `Logic`.
--     value D      plain data.        slice R      a `&[R]`, which the callee reads.        buffer R     a `&mut [R]`, which it may write
--     lfts         how many lifetimes they have: one for each slice, in their order
--     Scope        where those stand among a signature's.        alone, behind     it has no others; they come after the table's
--     gave         what a function has at exit of an argument that it passed on: what the callee's contract says of its last value
--     over, lasts_over     the same values in the callee's signature, and their last values back from there
use mathlib.Core.Path.{◌≡◌, sym, ap, subst}
use Prim.Native.Nat.{ℕ, zero, suc}
use mathlib.Core.List.{[], ◌∷◌, List}
use seplogic.Ra.Ura.{Ura}
use lib.Dec.{T}
use mir.Syntax.{Ty, Lifetime, ty_ref, named, erased, Mutability, imm, mut}
use mir.Val.{Val, WT, has_ty}
use base.Logic.{SProp, ent, emp, id⊢, mono_r, mono∗}
use base.Fml.{Lft}
use types.Logic.{Logic, sem}
use contract.Lifetimes.{Lfts}
use denote.RattleType.{RattleType, Denots, Valss, flat, owns}
use denote.Laws.{Is, Ises, Are, Tellss, Spells, valss}
use denote.Memory.{pointee}
use denote.Ref.{Bor, MutBor}
use denote.Slice.{MutSlice, ShrSlice, slice_ty, shr_slice_vals, mut_slice_vals, mut_slice_Tells, shr_slice_Tells, mut_slice_Lawful, shr_slice_Lawful}
use denote.Signature.{Slot, plain, types_at}
use denote.Triple.End.{Fins, all, lasts_of}
use denote.Triple.Walked.{Stays, fits_of, has_of, AllGo}
use denote.Exit.{left, yes}
use Rattle.thin.proofs.Data.{Data}

pub data Arg : Type 2 where
  value : Data → Arg
  slice buffer : RattleType → Arg

-- a slice's MIR type, where its lifetime is ℓ
abbrev pub slice_ty_of : Mutability → Lifetime → RattleType → Ty
slice_ty_of μ ℓ R = slice_ty (ty_ref ℓ μ (pointee R.written))

pub slice_typed : (ℓ : Lifetime) (κ : Lft) (R : RattleType) {M : Type 1} {𝓤 : Ura M} (𝓛 : Logic 𝓤)
    (x : Bor (List R.Denot)) (v : Val) → Is (ShrSlice ℓ κ R) x (v ∷ []) → T (has_ty (slice_ty_of imm ℓ R) v) × WT v
slice_typed ℓ κ R 𝓛 x v p = ((shr_slice_Lawful 𝓛 ℓ κ R).typed x _ p).0

pub buffer_typed : (ℓ : Lifetime) (κ : Lft) (R : RattleType) {M : Type 1} {𝓤 : Ura M} (𝓛 : Logic 𝓤)
    (x : MutBor (List R.Denot)) (v : Val) → Is (MutSlice ℓ κ R) x (v ∷ []) → T (has_ty (slice_ty_of mut ℓ R) v) × WT v
buffer_typed ℓ κ R 𝓛 x v p = ((mut_slice_Lawful 𝓛 ℓ κ R).typed x _ p).0

-- ---- their lifetimes
abbrev pub lfts : List Arg → ℕ
lfts [] = zero
lfts (value D ∷ Xs) = lfts Xs
lfts (slice R ∷ Xs) = suc (lfts Xs)
lfts (buffer R ∷ Xs) = suc (lfts Xs)

-- m lifetimes among a signature's n: the first has the number j
pub record Scope (m : ℕ) : Type 0 where
  pub n : ℕ
  pub j : ℕ
  pub pick : Lfts n → Lfts m

abbrev pub alone : (m : ℕ) → Scope m
alone m = record { n = m; j = zero; pick = λ κs. κs }

abbrev pub behind : (m : ℕ) → Scope m
behind m = record { n = suc m; j = 1; pick = λ κs. κs.1 }

abbrev pub next : {m : ℕ} → Scope (suc m) → Scope m
next s = record { n = s.n; j = suc s.j; pick = λ κs. (s.pick κs).1 }

-- ---- in a signature
abbrev pub slots : (Xs : List Arg) (s : Scope (lfts Xs)) → List (Slot s.n)
slots [] s = []
slots (value D ∷ Xs) s = plain (λ _. D.row) ∷ slots Xs s
slots (slice R ∷ Xs) s = plain (λ κs. ShrSlice (named s.j) (s.pick κs).0 R) ∷ slots Xs (next s)
slots (buffer R ∷ Xs) s = plain (λ κs. MutSlice (named s.j) (s.pick κs).0 R) ∷ slots Xs (next s)

abbrev pub Rows : (Xs : List Arg) (s : Scope (lfts Xs)) → Lfts s.n → List RattleType
Rows Xs s κs = types_at (slots Xs s) κs

abbrev pub Dens : (Xs : List Arg) (s : Scope (lfts Xs)) → Lfts s.n → Type 0
Dens Xs s κs = Denots (Rows Xs s κs)

abbrev pub spells : (Xs : List Arg) (s : Scope (lfts Xs)) (κs : Lfts s.n) → Spells (Rows Xs s κs)
spells [] s κs = tt
spells (value D ∷ Xs) s κs = ((λ x. D.val x ∷ []), spells Xs s κs)
spells (slice R ∷ Xs) s κs = (shr_slice_vals, spells Xs (next s) κs)
spells (buffer R ∷ Xs) s κs = (mut_slice_vals, spells Xs (next s) κs)

pub tells : (Xs : List Arg) (s : Scope (lfts Xs)) (κs : Lfts s.n) → Tellss (Rows Xs s κs) (Ises (Rows Xs s κs)) (spells Xs s κs)
tells [] s κs = tt
tells (value D ∷ Xs) s κs = (D.tells, tells Xs s κs)
tells (slice R ∷ Xs) s κs = (shr_slice_Tells (named s.j) (s.pick κs).0 R, tells Xs (next s) κs)
tells (buffer R ∷ Xs) s κs = (mut_slice_Tells (named s.j) (s.pick κs).0 R, tells Xs (next s) κs)

-- their machine values: one list for each, and all in a row
abbrev pub vals : (Xs : List Arg) (s : Scope (lfts Xs)) (κs : Lfts s.n) → Dens Xs s κs → Valss (Rows Xs s κs)
vals Xs s κs a = valss (Rows Xs s κs) (spells Xs s κs) a

abbrev pub words : (Xs : List Arg) (s : Scope (lfts Xs)) (κs : Lfts s.n) → Dens Xs s κs → List Val
words Xs s κs a = flat (Rows Xs s κs) (vals Xs s κs a)

abbrev pub Fit : (Xs : List Arg) (s : Scope (lfts Xs)) (κs : Lfts s.n) → Dens Xs s κs → Type 0
Fit Xs s κs a = Are (Rows Xs s κs) (Ises (Rows Xs s κs)) a (vals Xs s κs a)

-- ---- what is had at exit of an argument that was passed on
module _ {n : ℕ} where
  abbrev pub gave : (ss : List (Slot n)) → Stays ss (all yes ss)
  gave [] = tt
  gave (s ∷ ss) = (record { fit = λ κs x f. Unit {0}; has = λ κs x f vs. left ((s.row κs).exit yes) x f }, gave ss)

  pub gave_fits : (κs : Lfts n) (ss : List (Slot n)) (a : Denots (types_at ss κs)) (ws : Fins κs ss (all yes ss) a) → fits_of κs ss (all yes ss) (gave ss) a ws
  gave_fits κs [] a ws = tt
  gave_fits κs (s ∷ ss) a ws = (tt, gave_fits κs ss a.1 ws.1)

  module _ {M : Type 1} {𝓤 : Ura M} (𝓛 : Logic 𝓤) where
    pub gave_has : (κs : Lfts n) (ss : List (Slot n)) (a : Denots (types_at ss κs)) (ws : Fins κs ss (all yes ss) a) (vss : Valss (types_at ss κs))
        → ent 𝓤 (sem 𝓛 (lasts_of κs ss (all yes ss) a ws)) (sem 𝓛 (has_of κs ss (all yes ss) (gave ss) a ws vss))
    gave_has κs [] a ws vss = id⊢ 𝓤 _
    gave_has κs (s ∷ ss) a ws vss = mono_r 𝓤 (sem 𝓛 (left ((s.row κs).exit yes) a.0 ws.0)) (gave_has κs ss a.1 ws.1 vss.1)

    pub gave_goes : (ss : List (Slot n)) → AllGo 𝓛 n ss (all yes ss) (gave ss)
    gave_goes [] = tt
    gave_goes (s ∷ ss) = ((λ κs x f vs ok. 𝓛.laws.⇛_intro _), gave_goes ss)

-- ---- the same values in a signature of other lifetimes
abbrev pub over : (Xs : List Arg) (s s' : Scope (lfts Xs)) (κs : Lfts s.n) (κs' : Lfts s'.n) → Dens Xs s κs → Dens Xs s' κs'
over [] s s' κs κs' a = tt
over (value D ∷ Xs) s s' κs κs' a = (a.0, over Xs s s' κs κs' a.1)
over (slice R ∷ Xs) s s' κs κs' a = (a.0, over Xs (next s) (next s') κs κs' a.1)
over (buffer R ∷ Xs) s s' κs κs' a = (a.0, over Xs (next s) (next s') κs κs' a.1)

abbrev Ends : (Xs : List Arg) (s : Scope (lfts Xs)) (κs : Lfts s.n) → Dens Xs s κs → Type 0
Ends Xs s κs a = Fins κs (slots Xs s) (all yes (slots Xs s)) a

abbrev pub lasts_over : (Xs : List Arg) (s s' : Scope (lfts Xs)) (κs : Lfts s.n) (κs' : Lfts s'.n) (a : Dens Xs s κs)
    → Ends Xs s' κs' (over Xs s s' κs κs' a) → Ends Xs s κs a
lasts_over [] s s' κs κs' a ws = tt
lasts_over (value D ∷ Xs) s s' κs κs' a ws = (ws.0, lasts_over Xs s s' κs κs' a.1 ws.1)
lasts_over (slice R ∷ Xs) s s' κs κs' a ws = (ws.0, lasts_over Xs (next s) (next s') κs κs' a.1 ws.1)
lasts_over (buffer R ∷ Xs) s s' κs κs' a ws = (ws.0, lasts_over Xs (next s) (next s') κs κs' a.1 ws.1)

module _ {M : Type 1} {𝓤 : Ura M} (𝓛 : Logic 𝓤) where
  abbrev Said_of : (Xs : List Arg) (s : Scope (lfts Xs)) (κs : Lfts s.n) (a : Dens Xs s κs) → Ends Xs s κs a → SProp 𝓤
  Said_of Xs s κs a ws = sem 𝓛 (lasts_of κs (slots Xs s) (all yes (slots Xs s)) a ws)

  -- a slice's part of either, at two lifetimes that are the same
  abbrev Given_back : (R : RattleType) → MutBor (List R.Denot) → List R.Denot → Lft → SProp 𝓤
  Given_back R x w κ = sem 𝓛 (left ((MutSlice erased κ R).exit yes) x w)

  abbrev Slice : (R : RattleType) → Bor (List R.Denot) → Lft → SProp 𝓤
  Slice R x κ = sem 𝓛 ((ShrSlice erased κ R).own_val x (shr_slice_vals x))

  abbrev Buffer : (R : RattleType) → MutBor (List R.Denot) → Lft → SProp 𝓤
  Buffer R x κ = sem 𝓛 ((MutSlice erased κ R).own_val x (mut_slice_vals x))

  same_at : (F : Lft → SProp 𝓤) {κ κ' : Lft} → κ ≡ κ' → ent 𝓤 (F κ) (F κ')
  same_at F {κ} e = subst (λ (ν : Lft). ent 𝓤 (F κ) (F ν)) e (id⊢ 𝓤 (F κ))

  -- where the lifetimes are the same but for their numbers
  pub lasts_out : (Xs : List Arg) (s s' : Scope (lfts Xs)) (κs : Lfts s.n) (κs' : Lfts s'.n) → s.pick κs ≡ s'.pick κs' → (a : Dens Xs s κs)
      (ws : Ends Xs s' κs' (over Xs s s' κs κs' a))
      → ent 𝓤 (Said_of Xs s' κs' (over Xs s s' κs κs' a) ws) (Said_of Xs s κs a (lasts_over Xs s s' κs κs' a ws))
  lasts_out [] s s' κs κs' e a ws = id⊢ 𝓤 _
  lasts_out (value D ∷ Xs) s s' κs κs' e a ws = mono_r 𝓤 (sem 𝓛 (left (D.row.exit yes) a.0 ws.0)) (lasts_out Xs s s' κs κs' e a.1 ws.1)
  lasts_out (slice R ∷ Xs) s s' κs κs' e a ws = mono_r 𝓤 (emp 𝓤) (lasts_out Xs (next s) (next s') κs κs' (ap (λ z. z.1) e) a.1 ws.1)
  lasts_out (buffer R ∷ Xs) s s' κs κs' e a ws =
      mono∗ 𝓤 (same_at (Given_back R a.0 ws.0) (sym (ap (λ z. z.0) e))) (lasts_out Xs (next s) (next s') κs κs' (ap (λ z. z.1) e) a.1 ws.1)

  abbrev Owned : (Xs : List Arg) (s : Scope (lfts Xs)) (κs : Lfts s.n) → Dens Xs s κs → SProp 𝓤
  Owned Xs s κs a = sem 𝓛 (owns (Rows Xs s κs) a (vals Xs s κs a))

  pub owns_over : (Xs : List Arg) (s s' : Scope (lfts Xs)) (κs : Lfts s.n) (κs' : Lfts s'.n) → s.pick κs ≡ s'.pick κs' → (a : Dens Xs s κs)
      → ent 𝓤 (Owned Xs s κs a) (Owned Xs s' κs' (over Xs s s' κs κs' a))
  owns_over [] s s' κs κs' e a = id⊢ 𝓤 _
  owns_over (value D ∷ Xs) s s' κs κs' e a = mono_r 𝓤 (sem 𝓛 (D.row.own_val a.0 (D.val a.0 ∷ []))) (owns_over Xs s s' κs κs' e a.1)
  owns_over (slice R ∷ Xs) s s' κs κs' e a =
      mono∗ 𝓤 (same_at (Slice R a.0) (ap (λ z. z.0) e)) (owns_over Xs (next s) (next s') κs κs' (ap (λ z. z.1) e) a.1)
  owns_over (buffer R ∷ Xs) s s' κs κs' e a =
      mono∗ 𝓤 (same_at (Buffer R a.0) (ap (λ z. z.0) e)) (owns_over Xs (next s) (next s') κs κs' (ap (λ z. z.1) e) a.1)
