-- The parts that the walks of all thin functions share: the beginning of the call, its end, and the end of the walk. Assumes `Logic`.
--     asked        the callee has what it asks.        answered     what its answer gives.        exits        what the walk ends with
use mathlib.Core.Path.{sym, ◌∙◌}
use mathlib.Core.List.{[], ◌∷◌, List}
use seplogic.Ra.Ura.{Ura}
use mir.Val.{Val}
use base.Logic.{SProp, ent, via, id⊢}
use types.Logic.{Logic, sem}
use contract.Lifetimes.{Lfts, Shares, toks}
use types.Kit.{Item, Goal, Soaks, Seq, ‵, raw, ◌⊛◌, some, later, ⋆, ◌$◌, ◌∵◌, !, qed, move, use1, split, join, pick, fsplit, fjoin, suffices, await, done}
use denote.RattleType.{owns}
use denote.Laws.{Is, Makes}
use denote.Steps.{owned}
use denote.Triple.End.{all, lasts_of}
use denote.Triple.Clauses.{Clauses, at_exit, lasts as lastly, ensured}
use denote.Triple.Walked.{ends_at}
use denote.Exit.{left, yes}
use Rattle.thin.proofs.Args.{Arg, slots, Rows, Dens, vals, gave_fits, gave_has, lasts_over, lasts_out, owns_over}
use Rattle.thin.proofs.Held.{Lives, Ref, pick_at, stay, stay_fits}
use Rattle.thin.proofs.Form.{Form, here, there, Outer, Inner, Tab, Tab', stayed, out_at, in_at, Given_args, out_args, in_args, Ends, ends, Had, Passes, Callee, Post}

module _ (F : Form) {M : Type 1} {𝓤 : Ura M} (𝓛 : Logic 𝓤) (c : Clauses 𝓤 (Outer F)) (c' : Clauses 𝓤 (Inner F))
    (P : Passes F 𝓛 c c') (κs : Lives F.args) (x : Ref F.tab) (y : Given_args F κs) (g : (c (out_at F κs) (out_args F κs x y)).ghost) where
  open 𝓛 use {H}

  abbrev Xs : List Arg
  Xs = F.args

  -- the lifetimes of the function and of its callee, and what each of them is handed
  abbrev κo : Lfts (here F).n
  κo = out_at F κs

  abbrev κi : Lfts (there F).n
  κi = in_at F κs

  abbrev ao : (Tab F κo).Denot × Dens Xs (here F) κo
  ao = out_args F κs x y

  abbrev ai : (Tab' F κi).Denot × Dens Xs (there F) κi
  ai = in_args F κs x y

  -- what the function's `ensures` says, of the callee's answer
  abbrev Said : F.Res'.Denot → Ends F κs x y → SProp 𝓤
  Said r ws = (c κo ao).ensures g (F.result κs x ws.0 r) (at_exit (Outer F) κo ao (ends F κs x y r ws))

  -- ---- the call: qs are the callee's shares, and vs the machine values of its table
  module _ (qs : Shares (there F).n) (vs : List Val) where
    abbrev pub to : (Callee F 𝓛 c c').Ghost
    to = ((κi, qs, tt, ai, (vs, vals Xs (there F) κi ai.1)), P.ghost κs x y g)

    abbrev Toks : SProp 𝓤
    Toks = toks 𝓛 (there F).n κi qs

    -- what the callee gets: its tokens and its table; the arguments; the `requires`
    abbrev Sent : List (Item 𝓤)
    Sent = (raw Toks ⊛ ‵ ((Tab' F κi).own_val ai.0 vs)) ∷ ‵ (owns (Rows Xs (here F) κo) y (vals Xs (here F) κo y)) ∷ raw ((c κo ao).requires g) ∷ []

    pub asked : ent 𝓤 (⋆ 𝓛 Sent) ((Callee F 𝓛 c c').pre to)
    asked =
        qed 𝓛 Sent ∵ split ! $ move ! (2 ∷ []) $ use1 𝓛 (‵ (owns (Rows Xs (there F) κi) ai.1 (vals Xs (there F) κi ai.1)))
        (owns_over 𝓛 Xs (here F) (there F) κo κi (pick_at F.tab Xs F.outer κs ∙ sym (pick_at F.tab Xs F.inner κs)) y) $
        move ! (2 ∷ 0 ∷ []) $ fjoin ! $ move ! (1 ∷ 0 ∷ []) $ join ! $ move ! (1 ∷ []) $
        use1 𝓛 (raw ((c' κi ai).requires (P.ghost κs x y g))) (P.asks κs x y g) $ move ! (1 ∷ 0 ∷ []) $ done !

    -- what the callee's last values say of the arguments is what is had of them
    hears : (ws : Ends F κs x y) → ent 𝓤 (sem 𝓛 (lasts_of κi (slots Xs (there F)) (all yes (slots Xs (there F))) ai.1 ws.1)) (sem 𝓛 (Had F κs x y ws))
    hears ws = via 𝓤 _ (lasts_out 𝓛 Xs (here F) (there F) κo κi (pick_at F.tab Xs F.outer κs ∙ sym (pick_at F.tab Xs F.inner κs)) y ws.1)
        (gave_has 𝓛 κo (slots Xs (here F)) y (lasts_over Xs (here F) (there F) κo κi y ws.1) (vals Xs (here F) κo y))

    -- what comes back: the answer w; what is left of the callee's table; the tokens, with what is had of the arguments and what is said
    abbrev Came : Val → (r : F.Res'.Denot) → Ends F κs x y → List (Item 𝓤) → List (Item 𝓤)
    Came w r ws Γ =
        ‵ (F.Res'.own_val r (w ∷ [])) ∷ ‵ (left ((Tab' F κi).exit yes) ai.0 ws.0) ∷ (raw Toks ⊛ (‵ (Had F κs x y ws) ⊛ raw (Said r ws))) ∷ Γ

    pub answered : {K : Type 0} {Γ : List (Item 𝓤)} {G : Goal 𝓤 H} → K → Soaks G → (w : Val)
        → ((r : F.Res'.Denot) (ws : Ends F κs x y) → Seq K 𝓛 (Came w r ws Γ) G) → Seq K 𝓛 (raw ((Callee F 𝓛 c c').post to w) ∷ Γ) G
    answered t soaks w k =
        use1 𝓛 (later (some (λ (r : F.Res'.Denot). (raw Toks ⊛ ‵ (F.Res'.own_val r (w ∷ []))) ⊛ raw (ensured 𝓛 (Inner F) c' κi ai (P.ghost κs x y g) r))))
        (id⊢ 𝓤 _) $ await t soaks $ pick t (λ r. split t $ move t (1 ∷ []) $
        use1 𝓛 (some (λ (ws : Ends F κs x y). ‵ (lastly (Inner F) κi ai ws) ⊛ raw ((c' κi ai).ensures (P.ghost κs x y g) r (at_exit (Inner F) κi ai ws))))
        (id⊢ 𝓤 _) $ pick t (λ ws. split t $ move t (1 ∷ []) $ use1 𝓛 (raw (Said r ws)) (P.gives κs x y g r ws) $
        move t (1 ∷ []) $ fsplit t $ move t (1 ∷ []) $ use1 𝓛 (‵ (Had F κs x y ws)) (hears ws) $
        move t (0 ∷ 2 ∷ []) $ join t $ move t (2 ∷ []) $ split t $ move t (0 ∷ 2 ∷ []) $ join t $ move t (1 ∷ 2 ∷ 0 ∷ []) $ k r ws))

  -- ---- the end: qs are the function's shares, and vs the machine values of its table
  module _ (qs : Shares (here F).n) (vs : List Val) where
    -- the tokens; what is had of the arguments and what is said; what is had of the table
    abbrev Left : F.Res'.Denot → Ends F κs x y → List (Item 𝓤)
    Left r ws =
        raw (toks 𝓛 (here F).n κo qs) ∷ (‵ (Had F κs x y ws) ⊛ raw (Said r ws))
        ∷ ‵ ((stay F.tab Xs F.outer).has κo ao.0 (F.last κs x ws.0 r) vs) ∷ []

    pub exits : (r : F.Res'.Denot) (ws : Ends F κs x y) (v : Val) → Makes 𝓛 F.Res (Is F.Res) → Is F.Res (F.result κs x ws.0 r) (v ∷ [])
        → ent 𝓤 (⋆ 𝓛 (Left r ws)) (Post F 𝓛 c c' κo qs ao vs g v)
    exits r ws v makes is =
        qed 𝓛 (Left r ws) ∵
        suffices ! _ (ends_at 𝓛 (Outer F) (stayed F) c ((κo, qs, tt, ao, (vs, vals Xs (here F) κo y)), g) v (F.result κs x ws.0 r) (ends F κs x y r ws)
        (stay_fits F.tab Xs F.outer κo _ (F.last κs x ws.0 r), gave_fits κo (slots Xs (here F)) y (ends F κs x y r ws).1)) $
        move ! (1 ∷ []) $ split ! $ move ! (3 ∷ 0 ∷ []) $ fjoin ! $ owned ! F.Res (Is F.Res) makes (F.result κs x ws.0 r) _ is $
        move ! (1 ∷ 0 ∷ []) $ join ! $ move ! (2 ∷ 0 ∷ []) $ join ! $ done !
