-- `fn f(t: &mut T, x: X, ..) -> A { let r = g(*t, x, ..); *t = r.table; r.answer }`, where `g` takes the table by value and returns the new
-- table and the answer: its MIR and the walk of that, for every T, A and list of arguments. Assumes `Logic`.
use mathlib.Core.Path.{◌≡◌, refl, sym}
use Prim.Native.Nat.{ℕ, zero, suc}
use mathlib.Core.List.{[], ◌∷◌, ◌++◌, List}
use seplogic.Ra.Ura.{Ura}
use base.Fraction.{full_share}
use mir.Syntax.{Callee as FnName, Ty, ty_ref, named, mut, deref, field, place, copy, rv_opd, seq, assign, call, return, Fn, local, value_local}
use mir.Val.{Val, vptr}
use base.Logic.{ent, sep}
use base.Fml.{GName, flft, fat}
use prog.Wp.{Calls, Loops, WpFn, spot_of}
use types.Logic.{Logic}
use contract.Lifetimes.{Shares, toks}
use types.Kit.{‵, raw, ◌⊛◌, ◌$◌, ◌∵◌, !, qed, by, move, drop, use3, split, join, rewrite, fsplit, fsplit3, fjoin3, feq_i}
use types.Run.{look, look_raw, store_raw, init, forget, stop, hop, fld, from, load, of_opd, and_then, assigns, land, returns, enter, alloc1, alloc0, params1, pass1, free1, free0}
use types.Part.{whole, sub, look_in}
use sound.WpLaws.{FmC}
use denote.RattleType.{RattleType, owns}
use denote.Laws.{Is, shows}
use denote.Memory.{cell_at, pointee}
use denote.Ref.{MutRef}
use denote.Steps.{opens, closes, owned, peeks, facts}
use denote.Struct.Steps.{spelt}
use denote.Triple.Statement.{Triple}
use denote.Triple.Call.{calls_at}
use denote.Triple.Entry.{on_entry}
use denote.Triple.Clauses.{Clauses}
use Rattle.thin.proofs.Data.{typed}
use Rattle.thin.proofs.Args.{Arg, lfts, Rows, vals, words, Fit}
use Rattle.thin.proofs.Locals.{locals, temps, opds, remade, idx, tidx, Blocks, Temps, envs, tenvs}
use Rattle.thin.proofs.Steps.{in_left, in_right, alloc_all, alloc_temps, pass_all, free_all, free_temps, read_all, remakes, Sees, spot, after, tafter}
use Rattle.thin.proofs.Pair.{Pair, pair_ty}
use Rattle.thin.proofs.Held.{Held, Ref, Lives}
use Rattle.thin.proofs.Form.{Form, here, there, Outer, Inner, Given_args, Passes, Callee, Post}
use Rattle.thin.proofs.Call.{to, asked, answered, exits}
use Rattle.thin.proofs.Thin.{Thin}

module _ (P : Pair) (Xs : List Arg) where
  abbrev form : Form
  form = record {
    tab = P.tab;
    args = Xs;
    outer = Held.lent;
    inner = Held.owned;
    Res = P.ans.row;
    Res' = P.row;
    result = λ κs x w r. P.answer_of r;
    last = λ κs x w r. P.table_of r;
  }

  abbrev T : RattleType
  T = P.tab.row

  abbrev ref_ty : Ty
  ref_ty = ty_ref (named 0) mut (pointee T.written)

  -- the locals: the result, the reference, the arguments; then r, the copy of the table, those in which a buffer is lent again, and the
  -- table that r has
  abbrev up : ℕ → ℕ
  up i = suc (suc i)

  abbrev nth : ℕ → ℕ
  nth i = idx up Xs i

  abbrev tmp : ℕ → ℕ
  tmp i = nth (suc (suc i))

  abbrev last : ℕ
  last = tidx tmp Xs zero

  abbrev lend_fn : FnName → Fn
  lend_fn g = record {
    lifetimes = suc (lfts Xs);
    outlives = [];
    ty_params = [];
    givens = 0;
    params = idx suc Xs zero;
    locals =
        local P.ans.ty value_local ∷ local ref_ty value_local
        ∷ (locals 1 Xs ++ (local (pair_ty P) value_local ∷ local P.tab.ty value_local ∷ (temps Xs ++ (local P.tab.ty value_local ∷ []))));
    body =
        seq (assign (place (nth 1) []) (rv_opd (copy (place 1 (deref P.tab.ty ∷ [])))))
        (remade up tmp Xs
        (seq (call g (copy (place (nth 1) []) ∷ opds up tmp Xs) (place (nth zero) []))
        (seq (assign (place last []) (rv_opd (copy (place (nth zero) (field 0 ∷ [])))))
        (seq (assign (place 1 (deref P.tab.ty ∷ [])) (rv_opd (copy (place last []))))
        (seq (assign (place 0 []) (rv_opd (copy (place (nth zero) (field 1 ∷ []))))) return)))));
  }

  module _ {M : Type 1} {𝓤 : Ura M} (𝓛 : Logic 𝓤) (c : Clauses 𝓤 (Outer form)) (c' : Clauses 𝓤 (Inner form))
      (Q : Passes form 𝓛 c c') (C : Calls 𝓤 𝓛.H) (Λ : Loops 𝓤 𝓛.H) (fm : FmC 𝓤 𝓛.H 𝓛.laws C) (g : FnName) (known : Triple 𝓤 (C g) (Callee form 𝓛 c c'))
      (κs : Lives Xs) (qs : Shares (suc (lfts Xs))) (b o : ℕ) (γ : GName) (h : T.Denot) (y : Given_args form κs)
      (u : (c κs (record { ref_ptr = (b, o); ghost_name = γ; now = h }, y)).ghost) (isy : Fit Xs (here form) κs y) where
    open 𝓛 use {H}

    abbrev x : Ref P.tab
    x = record { ref_ptr = (b, o); ghost_name = γ; now = h }

    abbrev tv : List Val
    tv = P.tab.val h ∷ []

    pub walk : ent 𝓤 (sep 𝓤 (on_entry 𝓛 (Outer form).signature κs qs (x, y) (vptr b o ∷ [], vals Xs (here form) κs y)) ((c κs (x, y)).requires u))
        (WpFn 𝓤 H C Λ (lend_fn g) (vptr b o ∷ words Xs (here form) κs y) (Post form 𝓛 c c' κs qs (x, y) (vptr b o ∷ []) u))
    walk =
        qed 𝓛 (((‵ (flft κs.0 qs.0) ⊛ raw (toks 𝓛 (lfts Xs) κs.1 qs.1))
        ⊛ ‵ (owns (MutRef (named 0) κs.0 T ∷ Rows Xs (here form) κs) (x, y) (vptr b o ∷ [], vals Xs (here form) κs y)))
        ∷ raw ((c κs (x, y)).requires u) ∷ []) ∵
        split ! $ split ! $ move ! (2 ∷ []) $ fsplit ! $ fsplit3 ! $ drop ! $ move ! (2 ∷ []) $
        -- [the arguments'; obs; the borrow; the token; the other tokens; the requires]
        enter ! C Λ (lend_fn g) (vptr b o ∷ words Xs (here form) κs y) _ $
        alloc1 ! (λ l₀. alloc1 ! (λ l₁. alloc_all ! 1 Xs (λ bs. alloc1 ! (λ l₂. alloc1 ! (λ l₃. alloc_temps ! Xs (λ ts. alloc1 ! (λ l₄.
        alloc0 ! $ params1 ! $ pass1 ! (init ! 8 refl (tt, tt)) $ move ! (7 ∷ []) $ pass_all ! Xs (here form) κs bs y isy (rest l₂ l₃ l₄ ts) $
        move ! (0 ∷ 3 ∷ []) $ join ! $
        -- [the arguments' cells and the rooms to lend again in; room for the new table; …; room for the copy; …; room for r; …; t; …;
        --  room for _0; …; the arguments'; obs; the borrow; the token; the other tokens; the requires]
        move ! (12 ∷ 13 ∷ 14 ∷ []) $ opens ! tt T {h = h} b o (λ vs. spelt ! T (Is T) (shows 𝓛 T) (λ z. P.tab.val z ∷ [])
        P.tab.tells full_share h vs b o $
        rewrite ! 0 (λ ms. ‵ (cell_at full_share ms tv b o)) P.tab.mir refl $ move ! (1 ∷ []) $ peeks ! T (Is T) (shows 𝓛 T) h tv (λ was.
        -- [what the table owns; its cell; the open borrow; obs; auth; the arguments' cells and rooms; room for the new table; …;
        --  room for the copy; …; room for r; …; t; …; room for _0; …; the arguments'; the other tokens; the requires]
        assigns ! (of_opd ! (load ! (from ! (hop ! (look ! 12 refl) (stop !))) (look_raw ! 1 refl)))
        (spot ! (P.tab.ty, l₃, zero) (found l₀ l₁ l₂ l₃ l₄ bs ts 1) (stop !)) (init ! 8 refl (typed P.tab 𝓛 h _ was)) $
        move ! (5 ∷ []) $ split ! $ move ! (1 ∷ 0 ∷ []) $
        remakes ! Xs (here form) κs bs ts y isy (rest l₂ l₃ l₄ ts) ((P.tab.ty, l₄) ∷ []) up tmp (λ i. refl)
        (λ i. found l₀ l₁ l₂ l₃ l₄ bs ts (suc (suc i))) $ move ! (1 ∷ 0 ∷ []) $ join ! $
        -- [the arguments' cells; what the table owns; its cell; the open borrow; obs; auth; room for the new table; …; the copy; …;
        --  room for r; …; t; …; room for _0; …; the arguments'; the other tokens; the requires]
        move ! (17 ∷ 1 ∷ []) $ join ! $ move ! (0 ∷ 16 ∷ 17 ∷ []) $
        use3 𝓛 (raw ((Callee form 𝓛 c c').pre (to form 𝓛 c c' Q κs x y u qs.1 tv))) (asked form 𝓛 c c' Q κs x y u qs.1 tv) $
        move ! (0 ∷ 2 ∷ 3 ∷ 4 ∷ 5 ∷ 1 ∷ []) $
        -- [what the callee asks; the table's cell; the open borrow; obs; auth; the arguments' cells; room for the new table; …; the copy; …;
        --  room for r; …; t; …; room for _0; …]
        calls_at ! fm (Callee form 𝓛 c c') known (to form 𝓛 c c' Q κs x y u qs.1 tv)
        (and_then ! (load ! (spot ! (P.tab.ty, l₃, zero) (found l₀ l₁ l₂ l₃ l₄ bs ts 1) (stop !)) (look ! 8 refl))
        (read_all ! Xs (here form) (there form) κs κs.1 bs ts y (rest l₂ l₃ l₄ ts) ((P.tab.ty, l₄) ∷ []) up tmp (λ i. refl)
        (λ i. found l₀ l₁ l₂ l₃ l₄ bs ts (suc (suc i)))
        (λ s τ b' o' v back p. look_in ! 5 (in_left p)) (λ s τ b' o' v back p. look_in ! 5 (in_right p)))) (λ w.
        answered form 𝓛 c c' Q κs x y u qs.1 tv ! tt w (λ r ws. facts ! P.row (Is P.row) (shows 𝓛 P.row) r (w ∷ []) (λ is. drop ! $
        -- [what is said, with the other tokens; the table's cell; the open borrow; obs; auth; the arguments' cells; room for the new table; …;
        --  the copy; …; room for r; …; t; …; room for _0; …]
        land ! (spot ! (pair_ty P, l₂, zero) (found l₀ l₁ l₂ l₃ l₄ bs ts zero) (stop !)) (init ! 10 refl (P.typed 𝓛 r w is)) $
        rewrite ! 10 (λ (v : Val). ‵ (fat full_share (pair_ty P) l₂ 0 v)) (P.is r w is) refl $
        assigns ! (of_opd ! (load ! (spot ! (pair_ty P, l₂, zero) (found l₀ l₁ l₂ l₃ l₄ bs ts zero) (fld ! refl (stop !)))
        (look_in ! 10 (sub ! 0 refl (whole !)))))
        (spot ! (P.tab.ty, l₄, zero) (found_last l₀ l₁ l₂ l₃ l₄ bs ts) (stop !))
        (init ! 6 refl (typed P.tab 𝓛 (P.table_of r) _ (P.is_table r w is))) $
        assigns ! (of_opd ! (load ! (spot ! (P.tab.ty, l₄, zero) (found_last l₀ l₁ l₂ l₃ l₄ bs ts) (stop !)) (look ! 6 refl)))
        (from ! (hop ! (look ! 12 refl) (stop !))) (store_raw ! 1 refl (typed P.tab 𝓛 (P.table_of r) _ (P.is_table r w is))) $
        assigns ! (of_opd ! (load ! (spot ! (pair_ty P, l₂, zero) (found l₀ l₁ l₂ l₃ l₄ bs ts zero) (fld ! refl (stop !)))
        (look_in ! 10 (sub ! 1 refl (whole !)))))
        (from ! (stop !)) (init ! 14 refl (typed P.ans 𝓛 (P.answer_of r) _ (P.is_answer r w is))) $
        rewrite ! 1 (λ ms. ‵ (cell_at full_share ms (P.tab.val (P.table_of r) ∷ []) b o)) (sym P.tab.mir) refl $
        owned ! T (Is T) (P.tab.makes 𝓛) (P.table_of r) _ (P.is_table r w is) $ move ! (2 ∷ 0 ∷ 3 ∷ 4 ∷ 5 ∷ []) $
        closes ! tt T (P.table_of r) (P.tab.val (P.table_of r) ∷ []) b o $
        -- [obs; the borrow; the token; what is said; the arguments' cells; the new table; …; the copy; …; r; …; t; …; _0; …]
        returns ! (look ! 13 refl) $ forget ! 5 refl $ forget ! 7 refl $ forget ! 9 refl $ forget ! 11 refl $ forget ! 13 refl $
        move ! (13 ∷ 14 ∷ []) $ free1 ! $ move ! (11 ∷ 12 ∷ []) $ free1 ! $
        move ! (4 ∷ []) $ split ! $ free_all ! Xs (here form) κs bs y $ move ! (9 ∷ 10 ∷ []) $ free1 ! $ move ! (7 ∷ 8 ∷ []) $ free1 ! $
        free_temps ! Xs (here form) κs ts y $ move ! (4 ∷ 5 ∷ []) $ free1 ! $ free0 ! $
        feq_i ! (List Val) (vptr b o ∷ []) (vptr b o ∷ []) refl $ fjoin3 ! $ move ! (2 ∷ []) $ split ! $ move ! (3 ∷ 0 ∷ []) $ join ! $
        by ! (exits form 𝓛 c c' Q κs x y u qs (vptr b o ∷ []) r ws _ (P.ans.makes 𝓛) (P.is_answer r w is))))))))))))))
      where
        -- the locals after the arguments, and where the i-th and the last of them are found
        rest : ℕ → ℕ → ℕ → Temps Xs → List (Ty × ℕ)
        rest l₂ l₃ l₄ ts = (pair_ty P, l₂) ∷ (P.tab.ty, l₃) ∷ (tenvs Xs ts ++ ((P.tab.ty, l₄) ∷ []))

        env : ℕ → ℕ → ℕ → ℕ → ℕ → Blocks Xs → Temps Xs → List (Ty × ℕ)
        env l₀ l₁ l₂ l₃ l₄ bs ts = (P.ans.ty, l₀) ∷ (ref_ty, l₁) ∷ (envs 1 Xs bs ++ rest l₂ l₃ l₄ ts)

        found : (l₀ l₁ l₂ l₃ l₄ : ℕ) (bs : Blocks Xs) (ts : Temps Xs) → Sees 𝓤 H (env l₀ l₁ l₂ l₃ l₄ bs ts) nth (rest l₂ l₃ l₄ ts)
        found l₀ l₁ l₂ l₃ l₄ bs ts = after 𝓤 H (env l₀ l₁ l₂ l₃ l₄ bs ts) (rest l₂ l₃ l₄ ts) 1 Xs bs up (λ i. refl)

        found_last : (l₀ l₁ l₂ l₃ l₄ : ℕ) (bs : Blocks Xs) (ts : Temps Xs) → spot_of 𝓤 H (env l₀ l₁ l₂ l₃ l₄ bs ts) last ≡ (P.tab.ty, l₄, zero)
        found_last l₀ l₁ l₂ l₃ l₄ bs ts =
            tafter 𝓤 H (env l₀ l₁ l₂ l₃ l₄ bs ts) ((P.tab.ty, l₄) ∷ []) Xs ts tmp (λ i. found l₀ l₁ l₂ l₃ l₄ bs ts (suc (suc i))) zero

  abbrev pub lend : Thin
  lend = record {
    form = form;
    fn = lend_fn;
    walk = λ M 𝓤 𝓛 c c' Q C Λ fm g known κs qs a u ist isy. walk 𝓛 c c' Q C Λ fm g known κs qs a.0.ref_ptr.0 a.0.ref_ptr.1
        a.0.ghost_name a.0.now a.1 u isy;
  }
