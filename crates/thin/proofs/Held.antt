-- How a function holds the table: `t: T`, `t: &mut T` or `t: &T`. What that makes of its signature, of its table at exit, and of what its
-- walk has to show of it there. Assumes `Logic`.
use mathlib.Core.Path.{◌≡◌, refl}
use Prim.Native.Nat.{suc}
use mathlib.Core.List.{[], ◌∷◌, List}
use seplogic.Ra.Ura.{Ura}
use mir.Syntax.{named}
use mir.Val.{Val}
use types.Logic.{Logic}
use contract.Lifetimes.{Lfts}
use denote.RattleType.{RattleType}
use denote.Laws.{Is, Tells}
use denote.Ref.{MutBor, as_bor, mut_vals, shr_vals, mut_Tells, shr_Tells}
use denote.Signature.{Slot, plain, mut_ref_to, shr_ref_to}
use denote.Triple.End.{all}
use denote.Triple.Clauses.{Ended}
use denote.Triple.Walked.{Stay, stay_none, stay_ref, stay_none_ref, Goes, Goes-none, Goes-ref, Goes-none_ref}
use denote.Exit.{Last, yes}
use Rattle.thin.proofs.Data.{Data, silent}
use Rattle.thin.proofs.Args.{Arg, lfts, Scope, alone, behind, slots}

pub data Held : Type 0 where
  owned lent seen : Held

-- a reference to the table. A `&` has no ghost name: it's the reference seen with its name left out
abbrev pub Ref : Data → Type 0
Ref tab = MutBor tab.row.Denot

-- a lifetime for it, and those of the arguments
abbrev pub Lives : List Arg → Type 0
Lives Xs = Lfts (suc (lfts Xs))

module _ (tab : Data) (Xs : List Arg) where
  -- ---- the signature of a function that holds the table so and returns an R
  abbrev pub scope : Held → Scope (lfts Xs)
  scope owned = alone (lfts Xs)
  scope lent = behind (lfts Xs)
  scope seen = behind (lfts Xs)

  abbrev pub slot : (h : Held) → Slot (scope h).n
  slot owned = plain (λ _. tab.row)
  slot lent = mut_ref_to (0 ∷ []) tt (plain (λ _. tab.row))
  slot seen = shr_ref_to (0 ∷ []) tt (plain (λ _. tab.row))

  abbrev pub ended : Held → RattleType → Ended
  ended h R = record {
    signature = record { lifetimes = (scope h).n; outlives = []; params = slot h ∷ slots Xs (scope h); result = plain (λ _. R) };
    kept = (yes, all yes (slots Xs (scope h)));
  }

  -- ---- its lifetimes and its table, of all lifetimes and of the reference
  abbrev pub at : (h : Held) → Lives Xs → Lfts (scope h).n
  at owned κs = κs.1
  at lent κs = κs
  at seen κs = κs

  abbrev pub held : (h : Held) (κs : Lives Xs) → Ref tab → ((slot h).row (at h κs)).Denot
  held owned κs x = x.now
  held lent κs x = x
  held seen κs x = as_bor x

  -- the arguments' lifetimes are the same, however the table is held
  pub pick_at : (h : Held) (κs : Lives Xs) → (scope h).pick (at h κs) ≡ κs.1
  pick_at owned κs = refl
  pick_at lent κs = refl
  pick_at seen κs = refl

  -- ---- at exit: what is bound of the table, and what is had of it
  abbrev pub Finally : (h : Held) (κs : Lives Xs) → Ref tab → Type 0
  Finally h κs x = Last (((slot h).row (at h κs)).exit yes) (held h κs x)

  -- it is owned as it was passed; a `&mut` is owned at its last value
  abbrev pub stay : (h : Held) → Stay (slot h) yes
  stay owned = stay_none (λ _. tab.row) yes
  stay lent = stay_ref (0 ∷ []) tt (plain (λ _. tab.row))
  stay seen = stay_none_ref (0 ∷ []) tt (plain (λ _. tab.row)) yes

  pub stay_fits : (h : Held) (κs : Lfts (scope h).n) (x : ((slot h).row κs).Denot) (w : Last (((slot h).row κs).exit yes) x) → (stay h).fit κs x w
  stay_fits owned κs x w = tt
  stay_fits lent κs x w = tt
  stay_fits seen κs x w = tt

  pub stay_goes : {M : Type 1} {𝓤 : Ura M} (𝓛 : Logic 𝓤) (h : Held) → Goes 𝓛 (scope h).n (slot h) yes (stay h)
  stay_goes 𝓛 owned = Goes-none 𝓛 (lfts Xs) (λ _. tab.row) yes (λ κs x w. silent tab x w)
  stay_goes 𝓛 lent = Goes-ref 𝓛 (suc (lfts Xs)) 0 tt (plain (λ _. tab.row))
  stay_goes 𝓛 seen = Goes-none_ref 𝓛 (suc (lfts Xs)) (0 ∷ []) tt (plain (λ _. tab.row)) yes

  -- ---- its machine values
  abbrev pub spell : (h : Held) (κs : Lfts (scope h).n) → ((slot h).row κs).Denot → List Val
  spell owned κs x = tab.val x ∷ []
  spell lent κs x = mut_vals x
  spell seen κs x = shr_vals x

  pub spell_tells : (h : Held) (κs : Lfts (scope h).n) → Tells ((slot h).row κs) (Is ((slot h).row κs)) (spell h κs)
  spell_tells owned κs = tab.tells
  spell_tells lent κs = mut_Tells (named 0) κs.0 tab.row
  spell_tells seen κs = shr_Tells (named 0) κs.0 tab.row
