-- `fn f(mut t: T, x: X, ..) -> Out { let a = g(&mut t, x, ..); Out { table: t, answer: a } }`, where `g` takes the table by `&mut`: the wrapper
-- through which code that has its table by value lends it. Its MIR and the walk of that, for every T, A and list of arguments. Assumes `Logic`.
use mathlib.Core.Path.{◌≡◌, refl, sym, ap, subst}
use Prim.Native.Nat.{ℕ, zero, suc}
use mathlib.Core.List.{[], ◌∷◌, ◌++◌, List}
use seplogic.Ra.Ura.{Ura}
use base.Fraction.{full_share}
use mir.Syntax.{Callee as FnName, Ty, ty_ref, erased, named, mut, addr_of, aggregate, place, copy, rv_opd, seq, assign, call, return, Fn, local, value_local, memory_slot}
use mir.Val.{Val, vptr}
use mir.Raw.{raw as raw_ty}
use base.Logic.{ent, sep, id⊢}
use base.Fml.{GName, flft, flent, fsep, fat}
use prog.Wp.{Calls, Loops, WpFn, spot_of}
use types.Logic.{Logic, sem}
use contract.Lifetimes.{Lfts, Shares, toks}
use types.Kit.{‵, raw, ◌⊛◌, some, later, ◌$◌, ◌∵◌, !, qed, by, move, drop, use1, use2, use3, fpick, fpack, split, join, pick, rewrite, fsplit, fjoin, await, done}
use types.Run.{look, init, forget, stop, from, load, of_opd, addr, and_then, no_more, assigns, land, returns, enter, alloc1, alloc0, params1, pass1, free1, free0}
use types.Part.{agg, look_in}
use types.Tokens.{lft_new, lft_end}
use types.SemTy.{Body}
use sound.WpLaws.{FmC}
use denote.RattleType.{RattleType, owns}
use denote.Laws.{Is, shows}
use denote.Memory.{mem, cell_at, pointee, part_of}
use denote.Ref.{MutRef}
use denote.Lend.{lends_ref, ref_back}
use denote.Steps.{only, owned, facts}
use denote.Struct.Steps.{spelt}
use denote.Triple.Statement.{Triple}
use denote.Triple.Call.{calls_at}
use denote.Triple.Entry.{on_entry}
use denote.Triple.Clauses.{Clauses}
use Rattle.thin.proofs.Data.{Data, typed, last as last_of}
use Rattle.thin.proofs.Args.{Arg, lfts, Rows, Dens, vals, words, Fit}
use Rattle.thin.proofs.Locals.{locals, temps, opds, remade, idx, tidx, Blocks, Temps, envs, tenvs}
use Rattle.thin.proofs.Steps.{in_left, in_right, alloc_all, alloc_temps, pass_all, free_all, free_temps, read_all, remakes, Sees, spot, after, tafter}
use Rattle.thin.proofs.Pair.{Pair, pair_ty}
use Rattle.thin.proofs.Held.{Held, Ref, Lives}
use Rattle.thin.proofs.Form.{Form, here, there, Outer, Inner, Passes, Callee, Post}
use Rattle.thin.proofs.Call.{to, asked, answered, exits}
use Rattle.thin.proofs.Thin.{Thin}

-- a table in a cell of its own, as the lender of a reference wants it, and back
module _ (D : Data) {M : Type 1} {𝓤 : Ura M} (𝓛 : Logic 𝓤) (t : D.row.Denot) (b : ℕ) where
  open 𝓛 use {H}

  lies_in : ent 𝓤 (sep 𝓤 (H.at full_share D.ty b 0 (D.val t)) (sem 𝓛 (D.row.own_val t (D.val t ∷ [])))) (sem 𝓛 ((mem D.row).own_at t b 0))
  unfolding part_of
  lies_in =
      qed 𝓛 (‵ (fat full_share D.ty b 0 (D.val t)) ∷ ‵ (D.row.own_val t (D.val t ∷ [])) ∷ []) ∵
      use1 𝓛 (‵ (fat full_share (raw_ty D.ty) b 0 (D.val t))) (𝓛.laws.at_raw full_share D.ty b 0 (D.val t)) $
      rewrite ! 0 (λ ms. ‵ (cell_at full_share ms (D.val t ∷ []) b 0)) (sym D.mir) refl $
      fjoin ! $ fpack ! (List Val) (λ vs. fsep (cell_at full_share D.row.mir vs b 0) (D.row.own_val t vs)) (D.val t ∷ []) $ done !

  lies_out : ent 𝓤 (sem 𝓛 ((mem D.row).own_at t b 0)) (sep 𝓤 (H.at full_share D.ty b 0 (D.val t)) (sem 𝓛 (D.row.own_val t (D.val t ∷ []))))
  unfolding part_of
  lies_out =
      qed 𝓛 (‵ ((mem D.row).own_at t b 0) ∷ []) ∵ fpick ! (λ vs. fsplit ! $
      spelt ! D.row (Is D.row) (shows 𝓛 D.row) (λ z. D.val z ∷ []) D.tells full_share t vs b 0 $
      rewrite ! 0 (λ ms. ‵ (cell_at full_share ms (D.val t ∷ []) b 0)) D.mir refl $
      use1 𝓛 (‵ (fat full_share D.ty b 0 (D.val t))) (𝓛.laws.raw_at full_share D.ty b 0 (D.val t)) $ done !)

module _ (P : Pair) (Xs : List Arg) where
  abbrev form : Form
  form = record {
    tab = P.tab;
    args = Xs;
    outer = Held.owned;
    inner = Held.lent;
    Res = P.row;
    Res' = P.ans.row;
    result = λ κs x w r. P.make w r;
    last = λ κs x w r. last_of P.tab x.now;
  }

  abbrev T : RattleType
  T = P.tab.row

  abbrev ref_ty : Ty
  ref_ty = ty_ref erased mut (pointee T.written)

  -- the locals: the result, the table, the arguments; then t, a, the reference, those in which a buffer is lent again, and a copy of t
  abbrev up : ℕ → ℕ
  up i = suc (suc i)

  abbrev nth : ℕ → ℕ
  nth i = idx up Xs i

  abbrev tmp : ℕ → ℕ
  tmp i = nth (suc (suc (suc i)))

  abbrev last : ℕ
  last = tidx tmp Xs zero

  abbrev take_fn : FnName → Fn
  take_fn g = record {
    lifetimes = lfts Xs;
    outlives = [];
    ty_params = [];
    givens = 0;
    params = idx suc Xs zero;
    locals =
        local (pair_ty P) value_local ∷ local P.tab.ty value_local
        ∷ (locals 0 Xs ++ (local P.tab.ty memory_slot ∷ local P.ans.ty value_local ∷ local ref_ty value_local ∷
        (temps Xs ++ (local P.tab.ty value_local ∷ []))));
    body =
        seq (assign (place (nth zero) []) (rv_opd (copy (place 1 []))))
        (seq (assign (place (nth 2) []) (addr_of (place (nth zero) [])))
        (remade up tmp Xs
        (seq (call g (copy (place (nth 2) []) ∷ opds up tmp Xs) (place (nth 1) []))
        (seq (assign (place last []) (rv_opd (copy (place (nth zero) []))))
        (seq (assign (place 0 []) (aggregate (copy (place last []) ∷ copy (place (nth 1) []) ∷ []))) return)))));
  }

  module _ {M : Type 1} {𝓤 : Ura M} (𝓛 : Logic 𝓤) (c : Clauses 𝓤 (Outer form)) (c' : Clauses 𝓤 (Inner form))
      (Q : Passes form 𝓛 c c') (C : Calls 𝓤 𝓛.H) (Λ : Loops 𝓤 𝓛.H) (fm : FmC 𝓤 𝓛.H 𝓛.laws C) (g : FnName) (known : Triple 𝓤 (C g) (Callee form 𝓛 c c'))
      (ρs : Lfts (lfts Xs)) (rs : Shares (lfts Xs)) (h : T.Denot) (y : Dens Xs (here form) ρs) (u : (c ρs (h, y)).ghost)
      (ish : Is T h (P.tab.val h ∷ [])) (isy : Fit Xs (here form) ρs y) where
    -- the reference to the block b under the name δ, and the lifetimes of the call, of which ν is the table's
    open 𝓛 use {H}

    abbrev x : ℕ → GName → Ref P.tab
    x b δ = record { ref_ptr = (b, 0); ghost_name = δ; now = h }

    abbrev κs : ℕ → Lives Xs
    κs ν = (ν ∷ [], ρs)

    abbrev tv : List Val
    tv = P.tab.val h ∷ []

    said : (r : P.ans.row.Denot) (w : Val) → Is P.ans.row r (w ∷ []) → Is P.ans.row r (P.ans.val r ∷ [])
    said r w p = subst (Is P.ans.row r) (P.ans.tells r _ p) p

    pub walk : ent 𝓤 (sep 𝓤 (on_entry 𝓛 (Outer form).signature ρs rs (h, y) (tv, vals Xs (here form) ρs y)) ((c ρs (h, y)).requires u))
        (WpFn 𝓤 H C Λ (take_fn g) (P.tab.val h ∷ words Xs (here form) ρs y) (Post form 𝓛 c c' ρs rs (h, y) tv u))
    walk =
        qed 𝓛 ((raw (toks 𝓛 (lfts Xs) ρs rs) ⊛ ‵ (owns (T ∷ Rows Xs (here form) ρs) (h, y) (tv, vals Xs (here form) ρs y)))
        ∷ raw ((c ρs (h, y)).requires u) ∷ []) ∵
        split ! $ move ! (1 ∷ []) $ fsplit ! $
        -- [the table's; the arguments'; the tokens; the requires]
        enter ! C Λ (take_fn g) (P.tab.val h ∷ words Xs (here form) ρs y) _ $
        alloc1 ! (λ l₀. alloc1 ! (λ l₁. alloc_all ! 0 Xs (λ bs. alloc1 ! (λ l₂. alloc1 ! (λ l₃. alloc1 ! (λ l₄. alloc_temps ! Xs (λ ts. alloc1 ! (λ l₅.
        alloc0 ! $ params1 ! $ pass1 ! (init ! 10 refl (typed P.tab 𝓛 h _ ish)) $ move ! (9 ∷ []) $
        pass_all ! Xs (here form) ρs bs y isy (rest l₂ l₃ l₄ l₅ ts) $
        move ! (0 ∷ 3 ∷ []) $ join ! $
        -- [the arguments' cells and the rooms to lend again in; room for the copy; …; room for the reference; …; room for a; …; room for t; …; _1;
        --  …; room for _0; …; the table's; the arguments'; the tokens; the requires]
        assigns ! (of_opd ! (load ! (from ! (stop !)) (look ! 9 refl))) (spot ! (P.tab.ty, l₂, zero) (found l₀ l₁ l₂ l₃ l₄ l₅ bs ts zero) (stop !))
        (init ! 7 refl (typed P.tab 𝓛 h _ ish)) $
        assigns ! (addr ! (spot ! (P.tab.ty, l₂, zero) (found l₀ l₁ l₂ l₃ l₄ l₅ bs ts zero) (stop !)))
        (spot ! (ref_ty, l₄, zero) (found l₀ l₁ l₂ l₃ l₄ l₅ bs ts 2) (stop !)) (init ! 3 refl (tt, tt)) $
        split ! $ move ! (1 ∷ 0 ∷ []) $
        remakes ! Xs (here form) ρs bs ts y isy (rest l₂ l₃ l₄ l₅ ts) ((P.tab.ty, l₅) ∷ []) up tmp (λ i. refl)
        (λ i. found l₀ l₁ l₂ l₃ l₄ l₅ bs ts (suc (suc (suc i)))) $ move ! (1 ∷ 0 ∷ []) $ join ! $
        -- t is lent, for a lifetime ν of the call
        move ! (7 ∷ 13 ∷ []) $ use2 𝓛 (‵ ((mem T).own_at h l₂ 0)) (lies_in P.tab 𝓛 h l₂) $ lft_new ! tt (λ ν. move ! (1 ∷ []) $
        use1 𝓛 (later (some (λ (δ : GName). ‵ ((MutRef (named 0) (ν ∷ []) T).own_val (x l₂ δ) (vptr l₂ 0 ∷ [])) ⊛ ‵ (flent (ν ∷ []) (Body (mem T) l₂ 0 δ)))))
        (lends_ref 𝓛 T (named 0) (ν ∷ []) h l₂ 0) $
        await ! tt $ pick ! (λ δ. split ! $ move ! (2 ∷ 16 ∷ []) $ join ! $ join ! $ move ! (0 ∷ 14 ∷ 15 ∷ []) $
        use3 𝓛 (raw ((Callee form 𝓛 c c').pre (to form 𝓛 c c' Q (κs ν) (x l₂ δ) y u (full_share, rs) (vptr l₂ 0 ∷ []))))
        (asked form 𝓛 c c' Q (κs ν) (x l₂ δ) y u (full_share, rs) (vptr l₂ 0 ∷ [])) $
        -- [what the callee asks; the lender's part; the arguments' cells; room for the copy; …; the reference; …; room for a; …; what frees t; _1;
        --  …; room for _0; …]
        calls_at ! fm (Callee form 𝓛 c c') known (to form 𝓛 c c' Q (κs ν) (x l₂ δ) y u (full_share, rs) (vptr l₂ 0 ∷ []))
        (and_then ! (load ! (spot ! (ref_ty, l₄, zero) (found l₀ l₁ l₂ l₃ l₄ l₅ bs ts 2) (stop !)) (look ! 5 refl))
        (read_all ! Xs (here form) (there form) ρs (κs ν) bs ts y (rest l₂ l₃ l₄ l₅ ts) ((P.tab.ty, l₅) ∷ []) up tmp (λ i. refl)
        (λ i. found l₀ l₁ l₂ l₃ l₄ l₅ bs ts (suc (suc (suc i))))
        (λ s τ b' o' v back p. look_in ! 2 (in_left p)) (λ s τ b' o' v back p. look_in ! 2 (in_right p)))) (λ w.
        answered form 𝓛 c c' Q (κs ν) (x l₂ δ) y u (full_share, rs) (vptr l₂ 0 ∷ []) ! tt w
        (λ r ws. facts ! P.ans.row (Is P.ans.row) (shows 𝓛 P.ans.row) r (w ∷ []) (λ isw.
        move ! (1 ∷ []) $ split ! $ use1 𝓛 (‵ (flft (ν ∷ []) full_share) ⊛ raw (toks 𝓛 (lfts Xs) ρs rs)) (id⊢ 𝓤 _) $ move ! (0 ∷ 2 ∷ []) $
        -- [the tokens; the last value; what is said; the lender's part; the arguments' cells; room for the copy; …; the reference; …; room for a;
        --  …; what frees t; _1; …; room for _0; …]
        land ! (spot ! (P.ans.ty, l₃, zero) (found l₀ l₁ l₂ l₃ l₄ l₅ bs ts 1) (stop !)) (init ! 9 refl (typed P.ans 𝓛 r w isw)) $
        rewrite ! 9 (λ (v : Val). ‵ (fat full_share P.ans.ty l₃ 0 v)) (ap only (P.ans.tells r _ isw)) refl $
        -- the lifetime ends, and t is back
        split ! $ lft_end ! tt $ move ! (2 ∷ []) $ fsplit ! $ move ! (1 ∷ []) $ drop ! $ move ! (1 ∷ 4 ∷ 0 ∷ []) $
        use3 𝓛 (later (‵ ((mem T).own_at ws.0 l₂ 0))) (ref_back 𝓛 T (ν ∷ []) δ ws.0 l₂ 0) $
        await ! tt $
        use1 𝓛 (‵ (fat full_share P.tab.ty l₂ 0 (P.tab.val ws.0)) ⊛ ‵ (T.own_val ws.0 (P.tab.val ws.0 ∷ [])))
        (lies_out P.tab 𝓛 ws.0 l₂) $ split ! $ move ! (1 ∷ []) $
        facts ! T (Is T) (shows 𝓛 T) ws.0 (P.tab.val ws.0 ∷ []) (λ ist.
        -- [t; the other tokens; what is said; the arguments' cells; room for the copy; …; the reference; …; a; …; what frees t; _1; …;
        --  room for _0; …]
        assigns ! (of_opd ! (load ! (spot ! (P.tab.ty, l₂, zero) (found l₀ l₁ l₂ l₃ l₄ l₅ bs ts zero) (stop !)) (look ! 0 refl)))
        (spot ! (P.tab.ty, l₅, zero) (found_last l₀ l₁ l₂ l₃ l₄ l₅ bs ts) (stop !)) (init ! 4 refl (typed P.tab 𝓛 ws.0 _ ist)) $
        assigns ! (agg ! (and_then ! (load ! (spot ! (P.tab.ty, l₅, zero) (found_last l₀ l₁ l₂ l₃ l₄ l₅ bs ts) (stop !)) (look ! 4 refl))
        (and_then ! (load ! (spot ! (P.ans.ty, l₃, zero) (found l₀ l₁ l₂ l₃ l₄ l₅ bs ts 1) (stop !)) (look ! 8 refl)) (no_more !)))) (from ! (stop !))
        (init ! 13 refl (P.typed 𝓛 (P.make ws.0 r) _ (P.made ws.0 r ist (said r w isw)))) $
        returns ! (look ! 13 refl) $ forget ! 0 refl $ forget ! 4 refl $ forget ! 6 refl $ forget ! 8 refl $ forget ! 11 refl $ forget ! 13 refl $
        move ! (13 ∷ 14 ∷ []) $ free1 ! $ move ! (11 ∷ 12 ∷ []) $ free1 ! $ move ! (3 ∷ []) $ split ! $ free_all ! Xs (here form) ρs bs y $
        move ! (1 ∷ 10 ∷ []) $ free1 ! $
        move ! (7 ∷ 8 ∷ []) $ free1 ! $ move ! (5 ∷ 6 ∷ []) $ free1 ! $ free_temps ! Xs (here form) ρs ts y $ move ! (2 ∷ 3 ∷ []) $ free1 ! $ free0 ! $
        owned ! T (Is T) (P.tab.makes 𝓛) h _ ish $ move ! (1 ∷ 2 ∷ 0 ∷ []) $
        by ! (exits form 𝓛 c c' Q (κs ν) (x l₂ δ) y u rs tv r ws _ (P.makes 𝓛) (P.made ws.0 r ist (said r w isw)))))))))))))))))
      where
        -- the locals after the arguments, and where the i-th and the last of them are found
        rest : ℕ → ℕ → ℕ → ℕ → Temps Xs → List (Ty × ℕ)
        rest l₂ l₃ l₄ l₅ ts = (P.tab.ty, l₂) ∷ (P.ans.ty, l₃) ∷ (ref_ty, l₄) ∷ (tenvs Xs ts ++ ((P.tab.ty, l₅) ∷ []))

        env : ℕ → ℕ → ℕ → ℕ → ℕ → ℕ → Blocks Xs → Temps Xs → List (Ty × ℕ)
        env l₀ l₁ l₂ l₃ l₄ l₅ bs ts = (pair_ty P, l₀) ∷ (P.tab.ty, l₁) ∷ (envs 0 Xs bs ++ rest l₂ l₃ l₄ l₅ ts)

        found : (l₀ l₁ l₂ l₃ l₄ l₅ : ℕ) (bs : Blocks Xs) (ts : Temps Xs) → Sees 𝓤 H (env l₀ l₁ l₂ l₃ l₄ l₅ bs ts) nth (rest l₂ l₃ l₄ l₅ ts)
        found l₀ l₁ l₂ l₃ l₄ l₅ bs ts = after 𝓤 H (env l₀ l₁ l₂ l₃ l₄ l₅ bs ts) (rest l₂ l₃ l₄ l₅ ts) 0 Xs bs up (λ i. refl)

        found_last : (l₀ l₁ l₂ l₃ l₄ l₅ : ℕ) (bs : Blocks Xs) (ts : Temps Xs) → spot_of 𝓤 H (env l₀ l₁ l₂ l₃ l₄ l₅ bs ts) last ≡ (P.tab.ty, l₅, zero)
        found_last l₀ l₁ l₂ l₃ l₄ l₅ bs ts =
            tafter 𝓤 H (env l₀ l₁ l₂ l₃ l₄ l₅ bs ts) ((P.tab.ty, l₅) ∷ []) Xs ts tmp (λ i. found l₀ l₁ l₂ l₃ l₄ l₅ bs ts (suc (suc (suc i)))) zero

  abbrev pub take : Thin
  take = record {
    form = form;
    fn = take_fn;
    walk = λ M 𝓤 𝓛 c c' Q C Λ fm g known ρs rs a u ist isy. walk 𝓛 c c' Q C Λ fm g known ρs rs a.0 a.1 u ist isy;
  }
