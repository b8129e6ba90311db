-- The arguments in the MIR of a thin function, and the memory of its locals. The memory of all of them is one entry of a walk's context:
-- `rooms` before they are stored, `cells` afterwards. `up i` is the local of the argument i. A `&mut [R]` is lent again for the call: MIR
-- takes its pointer and makes a slice of that, in two locals more. `temps` are these, `remade` the statements, `trooms` and `tcells` the
-- memory, and `tmp i` the local i of them. Assumes nothing.
use Prim.Native.Nat.{ℕ, zero, suc}
use mathlib.Core.List.{[], ◌∷◌, List}
use seplogic.Ra.Ura.{Ura}
use base.Fraction.{full_share}
use lib.ListN.{length}
use mir.Syntax.{Ty, ty_ref, named, erased, imm, mut, deref, field, place, Opd as Operand, copy, addr_of, aggregate, Body, seq, assign, Local, local, value_local}
use mir.Val.{Val, vptr}
use base.Fml.{ftrue, fat, froom, fdies}
use contract.Lifetimes.{Lfts}
use types.Kit.{Item, ‵, ◌⊛◌}
use denote.RattleType.{RattleType}
use denote.Memory.{lone, pointee}
use denote.Slice.{slice_val}
use Rattle.thin.proofs.Args.{Arg, value, slice, buffer, slice_ty_of, lfts, Scope, next, Dens}

-- ---- the MIR
-- an argument's type, where the next lifetime has the number j, and the number after it
abbrev arg_ty : ℕ → Arg → Ty
arg_ty j (value D) = D.ty
arg_ty j (slice R) = slice_ty_of imm (named j) R
arg_ty j (buffer R) = slice_ty_of mut (named j) R

abbrev pub past : ℕ → Arg → ℕ
past j (value D) = j
past j (slice R) = suc j
past j (buffer R) = suc j

-- the two locals in which a `&mut [R]` is lent again
abbrev pub ptr_ty : RattleType → Ty
ptr_ty R = ty_ref erased mut (pointee R.written)

abbrev pub again_ty : RattleType → Ty
again_ty R = slice_ty_of mut erased R

abbrev pub locals : ℕ → List Arg → List Local
locals j [] = []
locals j (X ∷ Xs) = local (arg_ty j X) value_local ∷ locals (past j X) Xs

abbrev pub temps : List Arg → List Local
temps [] = []
temps (value D ∷ Xs) = temps Xs
temps (slice R ∷ Xs) = temps Xs
temps (buffer R ∷ Xs) = local (ptr_ty R) value_local ∷ local (again_ty R) value_local ∷ temps Xs

-- the arguments as operands of the call
abbrev pub opds : (ℕ → ℕ) → (ℕ → ℕ) → List Arg → List Operand
opds up tmp [] = []
opds up tmp (value D ∷ Xs) = copy (place (up zero) []) ∷ opds (λ i. up (suc i)) tmp Xs
opds up tmp (slice R ∷ Xs) = copy (place (up zero) []) ∷ opds (λ i. up (suc i)) tmp Xs
opds up tmp (buffer R ∷ Xs) = copy (place (tmp 1) []) ∷ opds (λ i. up (suc i)) (λ i. tmp (suc (suc i))) Xs

abbrev pub remade : (ℕ → ℕ) → (ℕ → ℕ) → List Arg → Body → Body
remade up tmp [] rest = rest
remade up tmp (value D ∷ Xs) rest = remade (λ i. up (suc i)) tmp Xs rest
remade up tmp (slice R ∷ Xs) rest = remade (λ i. up (suc i)) tmp Xs rest
remade up tmp (buffer R ∷ Xs) rest =
    seq (assign (place (tmp zero) []) (addr_of (place (up zero) (field 0 ∷ deref (lone R.mir) ∷ []))))
    (seq (assign (place (tmp 1) []) (aggregate (copy (place (tmp zero) []) ∷ copy (place (up zero) (field 1 ∷ [])) ∷ [])))
    (remade (λ i. up (suc i)) (λ i. tmp (suc (suc i))) Xs rest))

-- the local that comes j after the arguments, and the one that comes j after `temps`
abbrev pub idx : (ℕ → ℕ) → List Arg → ℕ → ℕ
idx up [] j = up j
idx up (X ∷ Xs) j = idx (λ i. up (suc i)) Xs j

abbrev pub tidx : (ℕ → ℕ) → List Arg → ℕ → ℕ
tidx tmp [] j = tmp j
tidx tmp (value D ∷ Xs) j = tidx tmp Xs j
tidx tmp (slice R ∷ Xs) j = tidx tmp Xs j
tidx tmp (buffer R ∷ Xs) j = tidx (λ i. tmp (suc (suc i))) Xs j

-- ---- where they are in memory: a block for each local
abbrev pub Blocks : List Arg → Type 0
Blocks [] = Unit {0}
Blocks (X ∷ Xs) = ℕ × Blocks Xs

abbrev pub Temps : List Arg → Type 0
Temps [] = Unit {0}
Temps (value D ∷ Xs) = Temps Xs
Temps (slice R ∷ Xs) = Temps Xs
Temps (buffer R ∷ Xs) = ℕ × ℕ × Temps Xs

abbrev pub envs : (j : ℕ) (Xs : List Arg) → Blocks Xs → List (Ty × ℕ)
envs j [] bs = []
envs j (X ∷ Xs) bs = (arg_ty j X, bs.0) ∷ envs (past j X) Xs bs.1

abbrev pub tenvs : (Xs : List Arg) → Temps Xs → List (Ty × ℕ)
tenvs [] ts = []
tenvs (value D ∷ Xs) ts = tenvs Xs ts
tenvs (slice R ∷ Xs) ts = tenvs Xs ts
tenvs (buffer R ∷ Xs) ts = (ptr_ty R, ts.0) ∷ (again_ty R, ts.1) ∷ tenvs Xs ts.2

module _ {M : Type 1} (𝓤 : Ura M) where
  abbrev pub room1 : Ty → ℕ → Item 𝓤
  room1 τ b = ‵ (froom τ b zero) ⊛ ‵ (fdies τ b)

  abbrev pub cell1 : Ty → ℕ → Val → Item 𝓤
  cell1 τ b v = ‵ (fat full_share τ b zero v) ⊛ ‵ (fdies τ b)

  abbrev pub rooms : (j : ℕ) (Xs : List Arg) → Blocks Xs → Item 𝓤
  rooms j [] bs = ‵ ftrue
  rooms j (X ∷ Xs) bs = room1 (arg_ty j X) bs.0 ⊛ rooms (past j X) Xs bs.1

  abbrev pub cells : (Xs : List Arg) (s : Scope (lfts Xs)) (κs : Lfts s.n) → Blocks Xs → Dens Xs s κs → Item 𝓤
  cells [] s κs bs a = ‵ ftrue
  cells (value D ∷ Xs) s κs bs a = cell1 D.ty bs.0 (D.val a.0) ⊛ cells Xs s κs bs.1 a.1
  cells (slice R ∷ Xs) s κs bs a = cell1 (slice_ty_of imm (named s.j) R) bs.0 (slice_val a.0.ref_ptr (length a.0.now)) ⊛ cells Xs (next s) κs bs.1 a.1
  cells (buffer R ∷ Xs) s κs bs a = cell1 (slice_ty_of mut (named s.j) R) bs.0 (slice_val a.0.ref_ptr (length a.0.now)) ⊛ cells Xs (next s) κs bs.1 a.1

  abbrev pub trooms : (Xs : List Arg) → Temps Xs → Item 𝓤
  trooms [] ts = ‵ ftrue
  trooms (value D ∷ Xs) ts = trooms Xs ts
  trooms (slice R ∷ Xs) ts = trooms Xs ts
  trooms (buffer R ∷ Xs) ts = room1 (ptr_ty R) ts.0 ⊛ (room1 (again_ty R) ts.1 ⊛ trooms Xs ts.2)

  abbrev pub tcells : (Xs : List Arg) (s : Scope (lfts Xs)) (κs : Lfts s.n) → Temps Xs → Dens Xs s κs → Item 𝓤
  tcells [] s κs ts a = ‵ ftrue
  tcells (value D ∷ Xs) s κs ts a = tcells Xs s κs ts a.1
  tcells (slice R ∷ Xs) s κs ts a = tcells Xs (next s) κs ts a.1
  tcells (buffer R ∷ Xs) s κs ts a =
      cell1 (ptr_ty R) ts.0 (vptr a.0.ref_ptr.0 a.0.ref_ptr.1)
      ⊛ (cell1 (again_ty R) ts.1 (slice_val a.0.ref_ptr (length a.0.now)) ⊛ tcells Xs (next s) κs ts.2 a.1)
