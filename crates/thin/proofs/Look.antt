-- `fn f(t: &T, x: X, ..) -> A { g(*t, x, ..) }`, where `g` takes the table by value: a question, which leaves the table as it is. Its MIR and
-- the walk of that, for every T, A and list of arguments. Assumes `Logic`.
use mathlib.Core.Path.{refl, sym}
use Prim.Native.Nat.{ℕ, zero, suc}
use mathlib.Core.List.{[], ◌∷◌, ◌++◌, List}
use seplogic.Ra.Ura.{Ura}
use mir.Syntax.{Callee as FnName, Ty, ty_ref, named, imm, deref, place, copy, rv_opd, seq, assign, call, return, Fn, local, value_local}
use mir.Val.{Val, vptr}
use base.Logic.{ent, sep}
use base.Fml.{flft}
use prog.Wp.{Calls, Loops, WpFn}
use types.Logic.{Logic}
use contract.Lifetimes.{Shares, toks}
use types.Kit.{‵, raw, ◌⊛◌, ◌$◌, ◌∵◌, !, qed, by, move, drop, use3, split, join, rewrite, fsplit, fjoin, feq_i}
use types.Run.{look as at_entry_lem, look_raw, init, forget, stop, hop, from, load, of_opd, and_then, assigns, land, returns, enter, alloc1, alloc0, params1, pass1, free1, free0}
use types.Part.{look_in}
use sound.WpLaws.{FmC}
use denote.RattleType.{RattleType, owns}
use denote.Laws.{Is, shows}
use denote.Memory.{cell_at, pointee}
use denote.Ref.{Bor, ShrRef}
use denote.Steps.{looks, shuts, owned, peeks, facts}
use denote.Struct.Steps.{spelt}
use denote.Triple.Statement.{Triple}
use denote.Triple.Call.{calls_at}
use denote.Triple.Entry.{on_entry}
use denote.Triple.Clauses.{Clauses}
use Rattle.thin.proofs.Data.{Data, typed}
use Rattle.thin.proofs.Args.{Arg, lfts, Rows, vals, words, Fit}
use Rattle.thin.proofs.Locals.{locals, temps, opds, remade, idx, Blocks, Temps, envs, tenvs}
use Rattle.thin.proofs.Steps.{in_left, in_right, alloc_all, alloc_temps, pass_all, free_all, free_temps, read_all, remakes, Sees, spot, after}
use Rattle.thin.proofs.Held.{Held, Ref, Lives}
use Rattle.thin.proofs.Form.{Form, here, there, Outer, Inner, Given_args, Passes, Callee, Post}
use Rattle.thin.proofs.Call.{to, asked, answered, exits}
use Rattle.thin.proofs.Thin.{Thin}

module _ (tab ans : Data) (Xs : List Arg) where
  abbrev form : Form
  form = record {
    tab = tab;
    args = Xs;
    outer = Held.seen;
    inner = Held.owned;
    Res = ans.row;
    Res' = ans.row;
    result = λ κs x w r. r;
    last = λ κs x w r. tt;
  }

  abbrev T : RattleType
  T = tab.row

  abbrev ref_ty : Ty
  ref_ty = ty_ref (named 0) imm (pointee T.written)

  -- the locals: the result, the reference, the arguments; then the copy of the table, and those in which a buffer is lent again
  abbrev up : ℕ → ℕ
  up i = suc (suc i)

  abbrev nth : ℕ → ℕ
  nth i = idx up Xs i

  abbrev tmp : ℕ → ℕ
  tmp i = nth (suc i)

  abbrev look_fn : FnName → Fn
  look_fn g = record {
    lifetimes = suc (lfts Xs);
    outlives = [];
    ty_params = [];
    givens = 0;
    params = idx suc Xs zero;
    locals = local ans.ty value_local ∷ local ref_ty value_local ∷ (locals 1 Xs ++ (local tab.ty value_local ∷ (temps Xs ++ [])));
    body =
        seq (assign (place (nth zero) []) (rv_opd (copy (place 1 (deref tab.ty ∷ [])))))
        (remade up tmp Xs
        (seq (call g (copy (place (nth zero) []) ∷ opds up tmp Xs) (place 0 [])) return));
  }

  module _ {M : Type 1} {𝓤 : Ura M} (𝓛 : Logic 𝓤) (c : Clauses 𝓤 (Outer form)) (c' : Clauses 𝓤 (Inner form))
      (Q : Passes form 𝓛 c c') (C : Calls 𝓤 𝓛.H) (Λ : Loops 𝓤 𝓛.H) (fm : FmC 𝓤 𝓛.H 𝓛.laws C) (g : FnName) (known : Triple 𝓤 (C g) (Callee form 𝓛 c c'))
      (κs : Lives Xs) (qs : Shares (suc (lfts Xs))) (b o : ℕ) (h : T.Denot) (y : Given_args form κs)
      (u : (c κs (record { ref_ptr = (b, o); now = h }, y)).ghost) (isy : Fit Xs (here form) κs y) where
    open 𝓛 use {H}

    -- the reference, and the same under a name that nothing says a word of
    abbrev r : Bor T.Denot
    r = record { ref_ptr = (b, o); now = h }

    abbrev x : Ref tab
    x = record { ref_ptr = (b, o); ghost_name = 0; now = h }

    abbrev tv : List Val
    tv = tab.val h ∷ []

    pub walk : ent 𝓤 (sep 𝓤 (on_entry 𝓛 (Outer form).signature κs qs (r, y) (vptr b o ∷ [], vals Xs (here form) κs y)) ((c κs (r, y)).requires u))
        (WpFn 𝓤 H C Λ (look_fn g) (vptr b o ∷ words Xs (here form) κs y) (Post form 𝓛 c c' κs qs (r, y) (vptr b o ∷ []) u))
    walk =
        qed 𝓛 (((‵ (flft κs.0 qs.0) ⊛ raw (toks 𝓛 (lfts Xs) κs.1 qs.1))
        ⊛ ‵ (owns (ShrRef (named 0) κs.0 T ∷ Rows Xs (here form) κs) (r, y) (vptr b o ∷ [], vals Xs (here form) κs y)))
        ∷ raw ((c κs (r, y)).requires u) ∷ []) ∵
        split ! $ split ! $ move ! (2 ∷ []) $ fsplit ! $ fsplit ! $ drop ! $ move ! (1 ∷ []) $
        -- [the arguments'; the shared table; the token; the other tokens; the requires]
        enter ! C Λ (look_fn g) (vptr b o ∷ words Xs (here form) κs y) _ $
        alloc1 ! (λ l₀. alloc1 ! (λ l₁. alloc_all ! 1 Xs (λ bs. alloc1 ! (λ l₂. alloc_temps ! Xs (λ ts.
        alloc0 ! $ params1 ! $ pass1 ! (init ! 4 refl (tt, tt)) $ move ! (3 ∷ []) $ pass_all ! Xs (here form) κs bs y isy (rest l₂ ts) $ join ! $
        -- [the arguments' cells and the rooms to lend again in; room for the copy; …; t; …; room for _0; …; the arguments';
        --  the shared table; the token; the other tokens; the requires]
        move ! (8 ∷ 9 ∷ []) $ looks ! tt T (tab.opens 𝓛) h b o (λ q' vs.
        spelt ! T (Is T) (shows 𝓛 T) (λ z. tab.val z ∷ []) tab.tells q' h vs b o $
        rewrite ! 0 (λ ms. ‵ (cell_at q' ms tv b o)) tab.mir refl $ move ! (1 ∷ []) $ peeks ! T (Is T) (shows 𝓛 T) h tv (λ was.
        -- [what the table owns; a share of its cell; what shuts it; the shared table; the arguments' cells and rooms; room for the copy; …; t;
        --  …; room for _0; …; the arguments'; the other tokens; the requires]
        assigns ! (of_opd ! (load ! (from ! (hop ! (at_entry_lem ! 7 refl) (stop !))) (look_raw ! 1 refl)))
        (spot ! (tab.ty, l₂, zero) (found l₀ l₁ l₂ bs ts zero) (stop !)) (init ! 5 refl (typed tab 𝓛 h _ was)) $
        rewrite ! 1 (λ ms. ‵ (cell_at q' ms tv b o)) (sym tab.mir) refl $ move ! (1 ∷ 0 ∷ 2 ∷ []) $ shuts ! tt T q' h tv b o $
        move ! (2 ∷ []) $ split ! $ move ! (1 ∷ 0 ∷ []) $ remakes ! Xs (here form) κs bs ts y isy (rest l₂ ts) [] up tmp (λ i. refl)
        (λ i. found l₀ l₁ l₂ bs ts (suc i)) $
        move ! (1 ∷ 0 ∷ []) $ join ! $ move ! (1 ∷ 2 ∷ 0 ∷ []) $
        -- [the token; the shared table; the arguments' cells; the copy; …; t; …; room for _0; …; the arguments'; the other tokens; the requires]
        owned ! T (Is T) (tab.makes 𝓛) h _ was $ move ! (11 ∷ 0 ∷ []) $ join ! $ move ! (0 ∷ 10 ∷ 11 ∷ []) $
        use3 𝓛 (raw ((Callee form 𝓛 c c').pre (to form 𝓛 c c' Q κs x y u qs.1 tv))) (asked form 𝓛 c c' Q κs x y u qs.1 tv) $
        calls_at ! fm (Callee form 𝓛 c c') known (to form 𝓛 c c' Q κs x y u qs.1 tv)
        (and_then ! (load ! (spot ! (tab.ty, l₂, zero) (found l₀ l₁ l₂ bs ts zero) (stop !)) (at_entry_lem ! 4 refl))
        (read_all ! Xs (here form) (there form) κs κs.1 bs ts y (rest l₂ ts) [] up tmp (λ i. refl) (λ i. found l₀ l₁ l₂ bs ts (suc i))
        (λ s τ b' o' v back p. look_in ! 3 (in_left p)) (λ s τ b' o' v back p. look_in ! 3 (in_right p)))) (λ w.
        answered form 𝓛 c c' Q κs x y u qs.1 tv ! tt w (λ r ws. facts ! ans.row (Is ans.row) (shows 𝓛 ans.row) r (w ∷ []) (λ is. drop ! $
        -- [what is said, with the other tokens; the token; the shared table; the arguments' cells; the copy; …; t; …; room for _0; …]
        land ! (from ! (stop !)) (init ! 8 refl (typed ans 𝓛 r w is)) $
        returns ! (at_entry_lem ! 8 refl) $ forget ! 4 refl $ forget ! 6 refl $ forget ! 8 refl $ move ! (8 ∷ 9 ∷ []) $ free1 ! $ move ! (6 ∷ 7 ∷ []) $ free1 ! $
        move ! (3 ∷ []) $ split ! $ free_all ! Xs (here form) κs bs y $ move ! (4 ∷ 5 ∷ []) $ free1 ! $ free_temps ! Xs (here form) κs ts y $ free0 ! $
        move ! (2 ∷ []) $ feq_i ! (List Val) (vptr b o ∷ []) (vptr b o ∷ []) refl $ fjoin ! $ move ! (1 ∷ []) $ split ! $ move ! (3 ∷ 0 ∷ []) $ join ! $
        by ! (exits form 𝓛 c c' Q κs x y u qs (vptr b o ∷ []) r ws w (ans.makes 𝓛) is)))))))))))
      where
        -- the locals after the arguments, and where the i-th of them is found
        rest : ℕ → Temps Xs → List (Ty × ℕ)
        rest l₂ ts = (tab.ty, l₂) ∷ (tenvs Xs ts ++ [])

        env : ℕ → ℕ → ℕ → Blocks Xs → Temps Xs → List (Ty × ℕ)
        env l₀ l₁ l₂ bs ts = (ans.ty, l₀) ∷ (ref_ty, l₁) ∷ (envs 1 Xs bs ++ rest l₂ ts)

        found : (l₀ l₁ l₂ : ℕ) (bs : Blocks Xs) (ts : Temps Xs) → Sees 𝓤 H (env l₀ l₁ l₂ bs ts) nth (rest l₂ ts)
        found l₀ l₁ l₂ bs ts = after 𝓤 H (env l₀ l₁ l₂ bs ts) (rest l₂ ts) 1 Xs bs up (λ i. refl)

  abbrev pub look : Thin
  look = record {
    form = form;
    fn = look_fn;
    walk = λ M 𝓤 𝓛 c c' Q C Λ fm g known κs qs a u ist isy. walk 𝓛 c c' Q C Λ fm g known κs qs a.0.ref_ptr.0 a.0.ref_ptr.1
        a.0.now a.1 u isy;
  }
