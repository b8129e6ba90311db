-- A thin function and the callee that does its work: the two hold the same table in different ways, and pass the other arguments on. Here
-- are their types, what their contracts owe each other, and what a walk of the function's MIR is. Definitions only.
--     Form         the two functions' types.        Outer, Inner     their signatures, with what is kept at exit
--     Passes       what their contracts owe each other.        Walk         a walk of the function's MIR
use mathlib.Core.List.{◌++◌, List}
use seplogic.Ra.Ura.{Ura}
use mir.Syntax.{Callee as FnName, Fn}
use mir.Val.{Val}
use base.Logic.{SProp, ent, sep}
use base.Fml.{Fml}
use prog.Wp.{Calls, Loops, WpFn}
use types.Logic.{Logic}
use contract.Lifetimes.{Lfts, Shares}
use sound.WpLaws.{FmC}
use denote.RattleType.{RattleType}
use denote.Laws.{Is}
use denote.Triple.Statement.{Contract, Triple}
use denote.Triple.End.{all}
use denote.Triple.Entry.{on_entry}
use denote.Triple.Spec.{triple_of}
use denote.Triple.Clauses.{Clauses, Ended, Lasts, at_exit, closing}
use denote.Triple.Walked.{Stays, has_of, walk_of}
use denote.Exit.{yes}
use Rattle.thin.proofs.Data.{Data}
use Rattle.thin.proofs.Args.{Arg, lfts, Scope, slots, Dens, vals, words, Fit, gave, over, lasts_over}
use Rattle.thin.proofs.Held.{Held, Lives, Ref, scope, slot, ended, at, held, Finally, stay, spell}

pub record Form : Type 2 where
  pub tab : Data
  pub args : List Arg
  -- how the function and its callee hold the table, and what they return
  pub outer : Held
  pub inner : Held
  pub Res : RattleType
  pub Res' : RattleType
  -- the function's result and its table at exit, of the callee's
  pub result : (κs : Lives args) (x : Ref tab) → Finally tab args inner κs x → Res'.Denot → Res.Denot
  pub last : (κs : Lives args) (x : Ref tab) → Finally tab args inner κs x → Res'.Denot → Finally tab args outer κs x

module _ (F : Form) where
  abbrev pub T : Data
  T = F.tab

  abbrev pub Xs : List Arg
  Xs = F.args

  -- where the arguments' lifetimes stand in the function's signature and in its callee's
  abbrev pub here : Scope (lfts Xs)
  here = scope T Xs F.outer

  abbrev pub there : Scope (lfts Xs)
  there = scope T Xs F.inner

  abbrev pub Outer : Ended
  Outer = ended T Xs F.outer F.Res

  abbrev pub Inner : Ended
  Inner = ended T Xs F.inner F.Res'

  -- the table's type, as each of them holds it
  abbrev pub Tab : Lfts here.n → RattleType
  Tab κs = (slot T Xs F.outer).row κs

  abbrev pub Tab' : Lfts there.n → RattleType
  Tab' κs = (slot T Xs F.inner).row κs

  abbrev pub stayed : Stays Outer.signature.params Outer.kept
  stayed = (stay T Xs F.outer, gave (slots Xs here))

  -- ---- at the lifetimes κs, with the reference x to the table and the other arguments y
  module _ (κs : Lives Xs) where
    abbrev pub out_at : Lfts here.n
    out_at = at T Xs F.outer κs

    abbrev pub in_at : Lfts there.n
    in_at = at T Xs F.inner κs

    abbrev pub Given_args : Type 0
    Given_args = Dens Xs here out_at

    module _ (x : Ref T) (y : Given_args) where
      -- what the function is handed, and what its callee is
      abbrev pub out_args : (Tab out_at).Denot × Given_args
      out_args = (held T Xs F.outer κs x, y)

      abbrev pub in_args : (Tab' in_at).Denot × Dens Xs there in_at
      in_args = (held T Xs F.inner κs x, over Xs here there out_at in_at y)

      -- the callee's last values, the function's of them, and what is had then of the arguments
      abbrev pub Ends : Type 0
      Ends = Lasts Inner in_at in_args

      abbrev pub ends : F.Res'.Denot → Ends → Lasts Outer out_at out_args
      ends r ws = (F.last κs x ws.0 r, lasts_over Xs here there out_at in_at y ws.1)

      abbrev pub Had : Ends → Fml
      Had ws =
          has_of out_at (slots Xs here) (all yes (slots Xs here)) (gave (slots Xs here)) y (lasts_over Xs here there out_at in_at y ws.1) (vals Xs here out_at y)

  module _ {M : Type 1} {𝓤 : Ura M} (𝓛 : Logic 𝓤) (c : Clauses 𝓤 Outer) (c' : Clauses 𝓤 Inner) where
    -- the function's `requires` gives the callee's, at a ghost value; the callee's `ensures` gives the function's
    pub record Passes : Type 2 where
      pub ghost : (κs : Lives Xs) (x : Ref T) (y : Given_args κs) → (c (out_at κs) (out_args κs x y)).ghost → (c' (in_at κs) (in_args κs x y)).ghost
      pub asks : (κs : Lives Xs) (x : Ref T) (y : Given_args κs) (g : (c (out_at κs) (out_args κs x y)).ghost)
          → ent 𝓤 ((c (out_at κs) (out_args κs x y)).requires g) ((c' (in_at κs) (in_args κs x y)).requires (ghost κs x y g))
      pub gives : (κs : Lives Xs) (x : Ref T) (y : Given_args κs) (g : (c (out_at κs) (out_args κs x y)).ghost) (r : F.Res'.Denot) (ws : Ends κs x y)
          → ent 𝓤 ((c' (in_at κs) (in_args κs x y)).ensures (ghost κs x y g) r (at_exit Inner (in_at κs) (in_args κs x y) ws))
          ((c (out_at κs) (out_args κs x y)).ensures g (F.result κs x ws.0 r) (at_exit Outer (out_at κs) (out_args κs x y) (ends κs x y r ws)))

    abbrev pub Callee : Contract 𝓤
    Callee = triple_of 𝓛 Inner.signature (closing 𝓛 Inner c')

    -- what a walk ends in, where the table's machine values are vs
    abbrev pub Post : (κs : Lfts here.n) → Shares here.n → (a : (Tab κs).Denot × Dens Xs here κs) → List Val → (c κs a).ghost → Val → SProp 𝓤
    Post κs qs a vs g = (walk_of 𝓛 Outer stayed c).post ((κs, qs, tt, a, (vs, vals Xs here κs a.1)), g)

  -- the machine values of the function's table
  abbrev pub its : (κs : Lfts here.n) → (Tab κs).Denot → List Val
  its κs = spell T Xs F.outer κs

  -- a walk of the MIR, of a function that calls g
  abbrev pub Walk : (FnName → Fn) → Type 2
  Walk fn = (M : Type 1) (𝓤 : Ura M) (𝓛 : Logic 𝓤) (c : Clauses 𝓤 Outer) (c' : Clauses 𝓤 Inner) → Passes 𝓛 c c'
      → (C : Calls 𝓤 𝓛.H) (Λ : Loops 𝓤 𝓛.H) → FmC 𝓤 𝓛.H 𝓛.laws C → (g : FnName) → Triple 𝓤 (C g) (Callee 𝓛 c c')
      → (κs : Lfts here.n) (qs : Shares here.n) (a : (Tab κs).Denot × Dens Xs here κs) (u : (c κs a).ghost) → Is (Tab κs) a.0 (its κs a.0)
      → Fit Xs here κs a.1
      → ent 𝓤 (sep 𝓤 (on_entry 𝓛 Outer.signature κs qs a (its κs a.0, vals Xs here κs a.1)) ((c κs a).requires u))
      (WpFn 𝓤 𝓛.H C Λ (fn g) (its κs a.0 ++ words Xs here κs a.1) (Post 𝓛 c c' κs qs a (its κs a.0) u))
