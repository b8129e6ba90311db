-- The steps of a walk for all arguments at once: allocate their locals, store what was passed, lend the buffers again, read them as the
-- call's operands, and free them. Assumes `Logic`.
use mathlib.Core.Path.{◌≡◌, refl, sym, ap, subst}
use Prim.Native.Nat.{ℕ, zero, suc}
use mathlib.Core.List.{[], ◌∷◌, ◌++◌, List}
use seplogic.Ra.Ura.{Ura}
use lib.ListN.{length}
use mir.Syntax.{Ty, named, erased, imm, mut, Step as PStep, deref, field, place, copy, addr_of, aggregate, Body, seq, assign, Local}
use mir.Val.{Val, vptr}
use base.Logic.{SProp, sep, wand, all as each_of, apply∗, all_e}
use base.Fml.{Lft, Share, fat}
use prog.Wp.{Heap, Env, Spot, Calls, Loops, spot_of}
use types.Logic.{Logic}
use contract.Lifetimes.{Lfts}
use types.Kit.{Item, ‵, raw, ◌⊛◌, mean, Goal, Post, runs, allocs, passes, frees, Seq, Step, step, ◌$◌, ◌∵◌, !, qed, move, drop, use1, use2, split, join, each, assume, frame, done}
use types.Run.{Reads, Walks, Finds, Opds, look, init, forget, stop, hop, fld, from, load, addr, and_then, no_more, assigns, alloc1, pass1, pass0, free1}
use types.Part.{Part, whole, sub, agg, look_in}
use denote.RattleType.{RattleType}
use denote.Laws.{Is}
use denote.Memory.{lone}
use denote.Ref.{MutBor}
use denote.Slice.{MutSlice, slice_val, mut_slice_vals}
use denote.Steps.{nothing}
use Rattle.thin.proofs.Data.{typed}
use Rattle.thin.proofs.Args.{Arg, value, slice, buffer, slice_ty_of, slice_typed, buffer_typed, lfts, Scope, next, Dens, words, Fit, over}
use Rattle.thin.proofs.Locals.{past, ptr_ty, again_ty, locals, temps, opds, remade, idx, tidx, Blocks, Temps, envs, tenvs, room1, cell1, rooms, cells, trooms, tcells}

-- ---- a cell within one of two entries that are one
abbrev Way : {M : Type 1} {𝓤 : Ura M} (𝓛 : Logic 𝓤) → Share → Ty → ℕ → ℕ → (Val → Item 𝓤) → Val → SProp 𝓤
Way {𝓤 = 𝓤} 𝓛 q τ b o back u = wand 𝓤 (𝓛.H.at q τ b o u) (mean 𝓛 (back u))

module _ {M : Type 1} {𝓤 : Ura M} {𝓛 : Logic 𝓤} {K : Type 0}
    {i j : Item 𝓤} {q : Share} {τ : Ty} {b o : ℕ} {v : Val} {back : Val → Item 𝓤} where
  open 𝓛 use {H}

  pub in_left : Part K 𝓛 i q τ b o v back → Part K 𝓛 (i ⊛ j) q τ b o v (λ u. back u ⊛ j)
  in_left p = record {
    out = qed 𝓛 ((i ⊛ j) ∷ []) ∵ split ! $ use1 𝓛 (‵ (fat q τ b o v) ⊛ raw (each_of 𝓤 (Way 𝓛 q τ b o back))) p.out $ split ! $ frame ! $
        each ! (λ (u : Val). wand 𝓤 (H.at q τ b o u) (sep 𝓤 (mean 𝓛 (back u)) (mean 𝓛 j))) (λ u. assume ! (‵ (fat q τ b o u)) $ move ! (1 ∷ []) $
        use1 𝓛 (raw (Way 𝓛 q τ b o back u)) (all_e 𝓤 (Way 𝓛 q τ b o back) u) $ move ! (1 ∷ 0 ∷ []) $
        use2 𝓛 (back u) (apply∗ 𝓤 (H.at q τ b o u) (mean 𝓛 (back u))) $ done !);
    same = ap (λ (k : Item 𝓤). k ⊛ j) p.same;
  }

  pub in_right : Part K 𝓛 i q τ b o v back → Part K 𝓛 (j ⊛ i) q τ b o v (λ u. j ⊛ back u)
  in_right p = record {
    out = qed 𝓛 ((j ⊛ i) ∷ []) ∵ split ! $ move ! (1 ∷ []) $ use1 𝓛 (‵ (fat q τ b o v) ⊛ raw (each_of 𝓤 (Way 𝓛 q τ b o back))) p.out $ split ! $ frame ! $
        each ! (λ (u : Val). wand 𝓤 (H.at q τ b o u) (sep 𝓤 (mean 𝓛 j) (mean 𝓛 (back u)))) (λ u. assume ! (‵ (fat q τ b o u)) $ move ! (1 ∷ []) $
        use1 𝓛 (raw (Way 𝓛 q τ b o back u)) (all_e 𝓤 (Way 𝓛 q τ b o back) u) $ move ! (1 ∷ 0 ∷ []) $
        use2 𝓛 (back u) (apply∗ 𝓤 (H.at q τ b o u) (mean 𝓛 (back u))) $ move ! (1 ∷ 0 ∷ []) $ done !);
    same = ap (λ (k : Item 𝓤). j ⊛ k) p.same;
  }

-- the local `up i` of E is the local i of F
abbrev pub Sees : {M : Type 1} (𝓤 : Ura M) (H : Heap 𝓤) → Env 𝓤 H → (ℕ → ℕ) → Env 𝓤 H → Type 0
Sees 𝓤 H E up F = (i : ℕ) → spot_of 𝓤 H E (up i) ≡ spot_of 𝓤 H F i

-- what lies within an entry can be read
abbrev Readable : {M : Type 1} {𝓤 : Ura M} (K : Type 0) (𝓛 : Logic 𝓤) → List (Item 𝓤) → Item 𝓤 → Type 2
Readable {𝓤 = 𝓤} K 𝓛 Γ i = (q : Share) (τ : Ty) (b o : ℕ) (v : Val) (back : Val → Item 𝓤) → Part K 𝓛 i q τ b o v back → Reads K 𝓛 Γ τ b o v

module _ {M : Type 1} {𝓤 : Ura M} {𝓛 : Logic 𝓤} {K : Type 0} where
  -- ---- allocate
  open 𝓛 use {H}

  pub alloc_all : K → (j : ℕ) (Xs : List Arg) {Γ : List (Item 𝓤)} {ls : List Local} {Kt : Env 𝓤 H → Goal 𝓤 H}
      → ((bs : Blocks Xs) → Seq K 𝓛 (rooms 𝓤 j Xs bs ∷ Γ) (allocs ls (λ E. Kt (envs j Xs bs ++ E)))) → Seq K 𝓛 Γ (allocs (locals j Xs ++ ls) Kt)
  alloc_all t j [] k = nothing t $ k tt
  alloc_all t j (X ∷ Xs) k = alloc1 t (λ b. alloc_all t (past j X) Xs (λ bs. move t (1 ∷ 2 ∷ 0 ∷ []) $ join t $ join t $ k (b, bs)))

  pub alloc_temps : K → (Xs : List Arg) {Γ : List (Item 𝓤)} {ls : List Local} {Kt : Env 𝓤 H → Goal 𝓤 H}
      → ((ts : Temps Xs) → Seq K 𝓛 (trooms 𝓤 Xs ts ∷ Γ) (allocs ls (λ E. Kt (tenvs Xs ts ++ E)))) → Seq K 𝓛 Γ (allocs (temps Xs ++ ls) Kt)
  alloc_temps t [] k = nothing t $ k tt
  alloc_temps t (value D ∷ Xs) k = alloc_temps t Xs k
  alloc_temps t (slice R ∷ Xs) k = alloc_temps t Xs k
  alloc_temps t (buffer R ∷ Xs) k =
      alloc1 t (λ b. alloc1 t (λ b'. alloc_temps t Xs (λ ts. move t (1 ∷ 2 ∷ 0 ∷ []) $ join t $ join t $ move t (1 ∷ 2 ∷ 0 ∷ []) $ join t $ join t $
      k (b, b', ts))))

  -- ---- store what was passed
  pub pass_all : K → (Xs : List Arg) {Γ : List (Item 𝓤)} (s : Scope (lfts Xs)) (κs : Lfts s.n) (bs : Blocks Xs) (a : Dens Xs s κs) → Fit Xs s κs a
      → (E : Env 𝓤 H) {g : Goal 𝓤 H} → Step K 𝓛 (cells 𝓤 Xs s κs bs a ∷ Γ) g (rooms 𝓤 s.j Xs bs ∷ Γ) (passes (envs s.j Xs bs ++ E) (words Xs s κs a) g)
  pass_all t [] s κs bs a is E = pass0 t
  pass_all t (value D ∷ Xs) s κs bs a is E = step (λ z. split t $ split t $
      pass1 t (init t 0 refl (typed D 𝓛 a.0 _ is.0)) $ move t (2 ∷ []) $
      pass_all t Xs s κs bs.1 a.1 is.1 E $ move t (1 ∷ 2 ∷ 0 ∷ []) $ join t $ join t $ z)
  pass_all t (slice R ∷ Xs) s κs bs a is E = step (λ z. split t $ split t $
      pass1 t (init t 0 refl (slice_typed (named s.j) (s.pick κs).0 R 𝓛 a.0 _ is.0)) $ move t (2 ∷ []) $
      pass_all t Xs (next s) κs bs.1 a.1 is.1 E $ move t (1 ∷ 2 ∷ 0 ∷ []) $ join t $ join t $ z)
  pass_all t (buffer R ∷ Xs) s κs bs a is E = step (λ z. split t $ split t $
      pass1 t (init t 0 refl (buffer_typed (named s.j) (s.pick κs).0 R 𝓛 a.0 _ is.0)) $ move t (2 ∷ []) $
      pass_all t Xs (next s) κs bs.1 a.1 is.1 E $ move t (1 ∷ 2 ∷ 0 ∷ []) $ join t $ join t $ z)

  -- ---- free
  pub free_all : K → (Xs : List Arg) {Γ : List (Item 𝓤)} (s : Scope (lfts Xs)) (κs : Lfts s.n) (bs : Blocks Xs)
      (a : Dens Xs s κs) {E : Env 𝓤 H} {g : Goal 𝓤 H} → Step K 𝓛 Γ (frees E g) (cells 𝓤 Xs s κs bs a ∷ Γ) (frees (envs s.j Xs bs ++ E) g)
  free_all t [] s κs bs a = drop t
  free_all t (value D ∷ Xs) s κs bs a = step (λ z. split t $ split t $ forget t 0 refl $ free1 t $ free_all t Xs s κs bs.1 a.1 $ z)
  free_all t (slice R ∷ Xs) s κs bs a = step (λ z. split t $ split t $ forget t 0 refl $ free1 t $ free_all t Xs (next s) κs bs.1 a.1 $ z)
  free_all t (buffer R ∷ Xs) s κs bs a = step (λ z. split t $ split t $ forget t 0 refl $ free1 t $ free_all t Xs (next s) κs bs.1 a.1 $ z)

  pub free_temps : K → (Xs : List Arg) {Γ : List (Item 𝓤)} (s : Scope (lfts Xs)) (κs : Lfts s.n) (ts : Temps Xs)
      (a : Dens Xs s κs) {E : Env 𝓤 H} {g : Goal 𝓤 H} → Step K 𝓛 Γ (frees E g) (tcells 𝓤 Xs s κs ts a ∷ Γ) (frees (tenvs Xs ts ++ E) g)
  free_temps t [] s κs ts a = drop t
  free_temps t (value D ∷ Xs) s κs ts a = free_temps t Xs s κs ts a.1
  free_temps t (slice R ∷ Xs) s κs ts a = free_temps t Xs (next s) κs ts a.1
  free_temps t (buffer R ∷ Xs) s κs ts a =
      step (λ z. split t $ split t $ forget t 0 refl $ free1 t $ split t $ split t $ forget t 0 refl $ free1 t $ free_temps t Xs (next s) κs ts.2 a.1 $ z)

  -- ---- read
  module _ {Γ : List (Item 𝓤)} {E : Env 𝓤 H} where
    -- the local i is the spot sp₀
    pub spot : K → {i : ℕ} {st : List PStep} (sp₀ : Spot 𝓤 H) {sp : Spot 𝓤 H} → spot_of 𝓤 H E i ≡ sp₀ → Walks K 𝓛 Γ E sp₀ st sp → Finds K 𝓛 Γ E (place i st) sp
    spot t {i} {st} sp₀ {sp} e w = from t (subst (λ (s : Spot 𝓤 H). Walks K 𝓛 Γ E s st sp) (sym e) w)

    pub read_all : K → (Xs : List Arg) (s s' : Scope (lfts Xs)) (κs : Lfts s.n) (κs' : Lfts s'.n) (bs : Blocks Xs) (ts : Temps Xs) (a : Dens Xs s κs)
        → (F F' : Env 𝓤 H) (up tmp : ℕ → ℕ) → Sees 𝓤 H E up (envs s.j Xs bs ++ F) → Sees 𝓤 H E tmp (tenvs Xs ts ++ F')
        → Readable K 𝓛 Γ (cells 𝓤 Xs s κs bs a) → Readable K 𝓛 Γ (tcells 𝓤 Xs s κs ts a)
        → Opds K 𝓛 Γ E (opds up tmp Xs) (words Xs s' κs' (over Xs s s' κs κs' a))
    read_all t [] s s' κs κs' bs ts a F F' up tmp at tat out tout = no_more t
    read_all t (value D ∷ Xs) s s' κs κs' bs ts a F F' up tmp at tat out tout =
        and_then t (load t (spot t (D.ty, bs.0, zero) (at zero) (stop t)) (out _ _ _ _ _ _ (in_left (in_left (whole t)))))
        (read_all t Xs s s' κs κs' bs.1 ts a.1 F F' (λ i. up (suc i)) tmp (λ i. at (suc i)) tat (λ q τ b o v back p. out q τ b o v _ (in_right p)) tout)
    read_all t (slice R ∷ Xs) s s' κs κs' bs ts a F F' up tmp at tat out tout =
        and_then t (load t (spot t (slice_ty_of imm (named s.j) R, bs.0, zero) (at zero) (stop t)) (out _ _ _ _ _ _ (in_left (in_left (whole t)))))
        (read_all t Xs (next s) (next s') κs κs' bs.1 ts a.1 F F' (λ i. up (suc i)) tmp (λ i. at (suc i)) tat
        (λ q τ b o v back p. out q τ b o v _ (in_right p)) tout)
    read_all t (buffer R ∷ Xs) s s' κs κs' bs ts a F F' up tmp at tat out tout =
        and_then t (load t (spot t (again_ty R, ts.1, zero) (tat 1) (stop t)) (tout _ _ _ _ _ _ (in_right (in_left (in_left (whole t))))))
        (read_all t Xs (next s) (next s') κs κs' bs.1 ts.2 a.1 F F' (λ i. up (suc i)) (λ i. tmp (suc (suc i))) (λ i. at (suc i))
        (λ i. tat (suc (suc i)))
        (λ q τ b o v back p. out q τ b o v _ (in_right p)) (λ q τ b o v back p. tout q τ b o v _ (in_right (in_right p))))

  -- ---- lend the buffers again
  -- one of them, and then what follows is done, with the other cells cs and the other rooms tr, of which it makes tc
  remake : K → {Γ : List (Item 𝓤)} {C : Calls 𝓤 H} {Λ : Loops 𝓤 H} {E : Env 𝓤 H} {q : Post 𝓤 H} {rest body : Body}
      (R : RattleType) (j : ℕ) (κ : Lft) (b t₀ t₁ : ℕ) (x : MutBor (List R.Denot)) → Is (MutSlice (named j) κ R) x (mut_slice_vals x)
      → (i k₀ k₁ : ℕ) → spot_of 𝓤 H E i ≡ (slice_ty_of mut (named j) R, b, zero) → spot_of 𝓤 H E k₀ ≡ (ptr_ty R, t₀, zero) → spot_of 𝓤 H E k₁ ≡ (again_ty R, t₁, zero)
      → (cs tr tc : Item 𝓤) → ((Δ : List (Item 𝓤)) → Step K 𝓛 (tc ∷ cs ∷ Δ) (runs C Λ E rest q) (tr ∷ cs ∷ Δ) (runs C Λ E body q))
      → Step K 𝓛
      ((cell1 𝓤 (ptr_ty R) t₀ (vptr x.ref_ptr.0 x.ref_ptr.1) ⊛ (cell1 𝓤 (again_ty R) t₁ (slice_val x.ref_ptr (length x.now)) ⊛ tc))
      ∷ (cell1 𝓤 (slice_ty_of mut (named j) R) b (slice_val x.ref_ptr (length x.now)) ⊛ cs) ∷ Γ)
      (runs C Λ E rest q)
      ((room1 𝓤 (ptr_ty R) t₀ ⊛ (room1 𝓤 (again_ty R) t₁ ⊛ tr)) ∷ (cell1 𝓤 (slice_ty_of mut (named j) R) b (slice_val x.ref_ptr (length x.now)) ⊛ cs) ∷ Γ)
      (runs C Λ E (seq (assign (place k₀ []) (addr_of (place i (field 0 ∷ deref (lone R.mir) ∷ []))))
      (seq (assign (place k₁ []) (aggregate (copy (place k₀ []) ∷ copy (place i (field 1 ∷ [])) ∷ []))) body)) q)
  remake t R j κ b t₀ t₁ x is i k₀ k₁ at at₀ at₁ cs tr tc others = step (λ z.
      split t $ split t $ move t (2 ∷ []) $ split t $ split t $ move t (5 ∷ []) $ split t $ split t $
      -- [the slice's cell; …; the other cells; room for the slice; …; the other rooms; room for the pointer; …]
      assigns t (addr t (spot t (slice_ty_of mut (named j) R, b, zero) at (fld t refl (hop t (look_in t 0 (sub t 0 refl (whole t))) (stop t)))))
      (spot t (ptr_ty R, t₀, zero) at₀ (stop t)) (init t 6 refl (tt, tt)) $
      assigns t (agg t (and_then t (load t (spot t (ptr_ty R, t₀, zero) at₀ (stop t)) (look t 6 refl))
      (and_then t (load t (spot t (slice_ty_of mut (named j) R, b, zero) at (fld t refl (stop t))) (look_in t 0 (sub t 1 refl (whole t)))) (no_more t))))
      (spot t (again_ty R, t₁, zero) at₁ (stop t)) (init t 3 refl (buffer_typed erased κ R 𝓛 x _ is)) $
      move t (5 ∷ 2 ∷ []) $ others _ $
      move t (4 ∷ 5 ∷ 0 ∷ []) $ join t $ join t $ move t (4 ∷ 5 ∷ 0 ∷ []) $ join t $ join t $ move t (2 ∷ 3 ∷ 1 ∷ []) $ join t $ join t $
      move t (1 ∷ 0 ∷ []) $ z)

  pub remakes : K → {C : Calls 𝓤 H} {Λ : Loops 𝓤 H} {E : Env 𝓤 H} {q : Post 𝓤 H} {rest : Body}
      (Xs : List Arg) {Γ : List (Item 𝓤)} (s : Scope (lfts Xs)) (κs : Lfts s.n) (bs : Blocks Xs) (ts : Temps Xs) (a : Dens Xs s κs) → Fit Xs s κs a
      → (F F' : Env 𝓤 H) (up tmp : ℕ → ℕ) → Sees 𝓤 H E up (envs s.j Xs bs ++ F) → Sees 𝓤 H E tmp (tenvs Xs ts ++ F')
      → Step K 𝓛 (tcells 𝓤 Xs s κs ts a ∷ cells 𝓤 Xs s κs bs a ∷ Γ) (runs C Λ E rest q)
      (trooms 𝓤 Xs ts ∷ cells 𝓤 Xs s κs bs a ∷ Γ) (runs C Λ E (remade up tmp Xs rest) q)
  remakes t [] s κs bs ts a is F F' up tmp at tat = step (λ z. z)
  remakes t (value D ∷ Xs) s κs bs ts a is F F' up tmp at tat = step (λ z. move t (1 ∷ []) $ split t $ move t (2 ∷ 1 ∷ []) $
      remakes t Xs s κs bs.1 ts a.1 is.1 F F' (λ i. up (suc i)) tmp (λ i. at (suc i)) tat $ move t (2 ∷ 1 ∷ []) $ join t $ move t (1 ∷ 0 ∷ []) $ z)
  remakes t (slice R ∷ Xs) s κs bs ts a is F F' up tmp at tat = step (λ z. move t (1 ∷ []) $ split t $ move t (2 ∷ 1 ∷ []) $
      remakes t Xs (next s) κs bs.1 ts a.1 is.1 F F' (λ i. up (suc i)) tmp (λ i. at (suc i)) tat $ move t (2 ∷ 1 ∷ []) $ join t $
      move t (1 ∷ 0 ∷ []) $ z)
  remakes t (buffer R ∷ Xs) s κs bs ts a is F F' up tmp at tat =
      remake t R s.j (s.pick κs).0 bs.0 ts.0 ts.1 a.0 is.0 (up zero) (tmp zero) (tmp 1) (at zero) (tat zero) (tat 1)
      (cells 𝓤 Xs (next s) κs bs.1 a.1) (trooms 𝓤 Xs ts.2) (tcells 𝓤 Xs (next s) κs ts.2 a.1)
      (λ Δ. remakes t Xs {Γ = Δ} (next s) κs bs.1 ts.2 a.1 is.1 F F' (λ i. up (suc i)) (λ i. tmp (suc (suc i))) (λ i. at (suc i))
      (λ i. tat (suc (suc i))))

-- ---- the local that comes i after the arguments, and the one that comes i after `temps`
pub after : {M : Type 1} (𝓤 : Ura M) (H : Heap 𝓤) (E F : Env 𝓤 H) (j : ℕ) (Xs : List Arg) (bs : Blocks Xs) (up : ℕ → ℕ)
    → Sees 𝓤 H E up (envs j Xs bs ++ F) → Sees 𝓤 H E (idx up Xs) F
after 𝓤 H E F j [] bs up at i = at i
after 𝓤 H E F j (X ∷ Xs) bs up at i = after 𝓤 H E F _ Xs bs.1 (λ k. up (suc k)) (λ k. at (suc k)) i

pub tafter : {M : Type 1} (𝓤 : Ura M) (H : Heap 𝓤) (E F : Env 𝓤 H) (Xs : List Arg) (ts : Temps Xs) (tmp : ℕ → ℕ)
    → Sees 𝓤 H E tmp (tenvs Xs ts ++ F) → Sees 𝓤 H E (tidx tmp Xs) F
tafter 𝓤 H E F [] ts tmp at i = at i
tafter 𝓤 H E F (value D ∷ Xs) ts tmp at i = tafter 𝓤 H E F Xs ts tmp at i
tafter 𝓤 H E F (slice R ∷ Xs) ts tmp at i = tafter 𝓤 H E F Xs ts tmp at i
tafter 𝓤 H E F (buffer R ∷ Xs) ts tmp at i = tafter 𝓤 H E F Xs ts.2 (λ k. tmp (suc (suc k))) (λ k. at (suc (suc k))) i
