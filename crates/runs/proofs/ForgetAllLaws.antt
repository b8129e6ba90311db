-- A sweep is some forgets one after the other, and leaves none to forget: among the rows that go there is always one that no kept
-- row has an arrow to, and without it the same others go. Assumes nothing.
use mathlib.Core.Path.{◌≡◌, refl, sym, ap, subst, ◌∙◌}
use mathlib.Core.Bool.{true, false, not}
use mathlib.Core.List.Memᴰ
use mathlib.Core.List.Memᴰ.{head as here}
use mathlib.Core.List.{List, [], ◌∷◌, map}
use mathlib.Core.Logic.{◌≢◌, ◌⊎◌, inl, inr}
use Prim.Native.Nat.{ℕ, zero, suc, ◌<◌}
use native.Mathlib.Omega.{arith}
use native.Mathlib.Decide.{ℕ_discrete}
use native.Mathlib.Nat.{not-suc-le-zero, le_of_suc-le-suc}
use lib.ListN.{length, get_or, set, length-set, length-map}
use lib.Seq.{ext_get_or}
use Rattle.refusals.specs.declared.Refusal.{Refusal}
use Rattle.graph.specs.Lists.{◌∈◌, keep}
use Rattle.graph.specs.Path.{ArrowPath, ArrowPath.one, ArrowPath.more, Cycle}
use Rattle.graph.specs.Acyclic.{into}
use Rattle.graph.specs.Reached.{Reached}
use Rattle.graph.proofs.TestLaws.{true_or_false, true_not_false, false_of_not, not_of_false, same_of_iff}
use Rattle.graph.proofs.MemberLaws.{any_of_member, kept_of_member, member_of_kept, kept_subset, all_or_one, keep_of_true, keep_of_false}
use Rattle.graph.proofs.PathLaws.{start_of_path, cycle_of_larger, cycle_of_weaker, path_of_larger}
use Rattle.graph.proofs.AcyclicLaws.{cycle_of_all_pointed}
use Rattle.graph.proofs.MapLaws.{mapped_cycle_iff}
use Rattle.graph.proofs.ReachedLaws.{reached_of_next}
use Rattle.orders.specs.Entries.{Entry, EntryArrow}
use Rattle.orders.proofs.OrderLaws.{order_exists_iff_no_cycle}
use Rattle.std.specs.Prelude.{Ok}
use Rattle.method.specs.declared.Row.{Row}
use Rattle.method.specs.declared.Table.{Table}
use Rattle.method.specs.declared.Answer.{Answer}
use Rattle.method.specs.declared.Answered.{Answered}
use Rattle.method.specs.Records.{free_row, past_end, row_at, is_free, active, committed, with_rows, with_row, Goes, goesb}
use Rattle.method.specs.Slots.{slot_of, row_of_number, kept, active_rows, entry_of}
use Rattle.method.specs.Conditions.{Closed, Unknown, HasPred, HeldBack}
use Rattle.method.specs.Calls.Call.{forget}
use Rattle.method.specs.Effects.{answered, stays, swept_row, swept_table, swept_count, step}
use Rattle.method.proofs.RecordLaws.{never, free_iff, active_iff, committed_iff}
use Rattle.method.proofs.ConditionLaws.{goes_iff}
use Rattle.method.proofs.SlotLaws.{place_of_kept, kept_of_place}
use Rattle.method.proofs.GraphLaws.{stays_iff}
use Rattle.method.specs.Seen.{IsFree, IsCommitted, num}
use Rattle.invariant.specs.Invariant.{Invariant}
use Rattle.runs.specs.Sweeps.{free_slots, ForgetAll}
use Rattle.invariant.proofs.ChangeLaws.{Changed}
use Rattle.invariant.proofs.KnownLaws.{Found, found, known_iff, changed, slot_of_used}
use Rattle.invariant.proofs.DropLaws.{invariant_forget}
use Rattle.invariant.proofs.SweepLaws.{kept_of_slot, slot_goes, slot_stays, slot_other, free_of_hold, no_arrow_in}
use Rattle.invariant.proofs.KeptLaws.{kept_apart, kept_ordered}
use Rattle.invariant.proofs.StandingLaws.{one_slot}
use Rattle.runs.proofs.ExactlyLaws.{forgets_exactly, sweep_counts}

-- a slot in use that is freed is one free slot more
free_set : (rs : List Row) (i : ℕ) → i < length rs → ¬ IsFree (get_or rs i past_end) → free_slots (set rs i free_row) ≡ suc (free_slots rs)
free_set [] i h f = absurd (not-suc-le-zero h)
free_set (r ∷ rs) zero h f = go (true_or_false (is_free r.state))
  where
    go : (is_free r.state ≡ true) ⊎ (is_free r.state ≡ false) → suc (free_slots rs) ≡ suc (free_slots (r ∷ rs))
    go (inl e) = absurd (f ((free_iff r.state).0 e))
    go (inr e) = rw (keep_of_false (λ (q : Row). is_free q.state) r rs e)
free_set (r ∷ rs) (suc i) h f = go (true_or_false (is_free r.state)) (free_set rs i (le_of_suc-le-suc h) f)
  where
    go : (is_free r.state ≡ true) ⊎ (is_free r.state ≡ false) → free_slots (set rs i free_row) ≡ suc (free_slots rs) → free_slots (r ∷ set rs i free_row) ≡ suc (free_slots (r ∷ rs))
    go (inl e) k = rw (keep_of_true (λ (q : Row). is_free q.state) r (set rs i free_row) e, keep_of_true (λ (q : Row). is_free q.state) r rs e) (omega arith)
    go (inr e) k = rw (keep_of_false (λ (q : Row). is_free q.state) r (set rs i free_row) e, keep_of_false (λ (q : Row). is_free q.state) r rs e) k

module _ (t : Table) (es : List Entry) (v : Invariant t es) (nc : ¬ Closed t) where
  -- the rows that go
  abbrev going : List Row
  going = keep (λ r. not (stays t r)) (kept t)

  kept_acyclic : ¬ Cycle Goes (kept t)
  unfolding entry_of
  kept_acyclic c = (order_exists_iff_no_cycle (map entry_of (kept t)) (kept_apart t es v).numbers).0 (kept_ordered t es v) ((mapped_cycle_iff entry_of (kept t) EntryArrow).0 c)

  -- a slot that goes, with nothing that would keep it from being forgotten
  pub record Loose (i : ℕ) : Type 0 where
    pub is : IsCommitted (row_at t i)
    pub goes : stays t (row_at t i) ≡ false
    pub alone : ¬ HasPred t (row_at t i)

  loose_slot : (x : Row) → x ∈ going → (i : ℕ) × Loose i
  unfolding kept
  loose_slot x m = go (all_or_one (into goesb going) going)
    where
      go : ((y : Row) → y ∈ going → into goesb going y ≡ true) ⊎ ((y : Row) × (y ∈ going) × (into goesb going y ≡ false)) → (i : ℕ) × Loose i
      go (inl all) = absurd (kept_acyclic (cycle_of_larger (kept_subset (λ r. not (stays t r)) (kept t))
          (cycle_of_weaker (λ p q. (goes_iff p q).0) (cycle_of_all_pointed goesb going all x m))))
      go (inr (y, n, f)) =
          let (k, e) = member_of_kept (λ r. not (stays t r)) (kept t) n in
          let (i, h, p, c) = place_of_kept committed t.rows past_end k in
          (i, record { is = (committed_iff (row_at t i).state).0 (rw p c); goes = rw p (false_of_not (stays t y) e); alone = rw p (alone y k (false_of_not (stays t y) e) f i p c) })
        where
          alone : (y : Row) → y ∈ kept t → stays t y ≡ false → into goesb going y ≡ false → (i : ℕ) → row_at t i ≡ y → committed y ≡ true → ¬ HasPred t y
          alone y k s f i p c (q, l, a) =
              let (j, h, e, d) = place_of_kept committed t.rows past_end l in
              elim (true_or_false (stays t q)) [
                | inl z ↦ no_arrow_in t i ((committed_iff (row_at t i).state).0 (rw p c)) (rw p s) j ((committed_iff (row_at t j).state).0 (rw e d)) (rw e z) (rw (e, p) a)
                | inr z ↦ true_not_false (any_of_member (λ w. goesb w y) (kept_of_member (λ r. not (stays t r)) l (not_of_false z)) ((goes_iff q y).1 a)) f
              ]

  -- the slot of a number that stands there
  slot_is : (i : ℕ) → ¬ IsFree (row_at t i) → slot_of t (num (row_at t i)) ≡ i
  slot_is i f = go (found t (num (row_at t i)) ((known_iff t (num (row_at t i))).0 (i, f, refl))) (ℕ_discrete (slot_of t (num (row_at t i))) i)
    where
      go : Found t (num (row_at t i)) → Dec (slot_of t (num (row_at t i)) ≡ i) → slot_of t (num (row_at t i)) ≡ i
      go k (yes e) = e
      go k (no e) = absurd (one_slot t es v i (slot_of t (num (row_at t i))) (num (row_at t i)) e f k.used refl k.named)

  -- one loose slot freed
  module _ (i : ℕ) (l : Loose i) where
    abbrev u : Table
    u = with_row t i free_row

    abbrev n : ℕ
    n = num (row_at t i)

    used : ¬ IsFree (row_at t i)
    used f = let c = l.is in never (cc)

    slot : i < length t.rows
    slot = slot_of_used t i used

    ch : Changed (row_at t) i free_row (row_at u)
    ch = changed t i free_row slot

    row_of_number_lem : row_of_number t n ≡ row_at t i
    row_of_number_lem = ap (row_at t) (slot_is i used)

    known : ¬ Unknown t n
    known = (known_iff t n).0 (i, used, refl)

    free : ¬ HeldBack t (row_at t i)
    free = free_of_hold t i l.is l.goes

    forgets : step t (forget n) ≡ answered u (Ok Answer.Done)
    forgets = (forgets_exactly t n nc known (rw row_of_number_lem l.is)).1 (rw row_of_number_lem l.alone, rw row_of_number_lem free)
        ∙ ap (λ (j : ℕ). answered (with_row t j free_row) (Ok Answer.Done)) (slot_is i used)

    pub invariant_u : Invariant u es
    invariant_u = subst (λ (j : ℕ). Invariant (with_row t j free_row) es) (slot_is i used)
        (invariant_forget t es n v nc known (λ m. elim m [ inl p ↦ l.alone (rw row_of_number_lem at p) | inr p ↦ free (rw row_of_number_lem at p) ]))

    -- the kept rows of the next table are the others
    kept_u : (j : ℕ) → j ≢ i → IsCommitted (row_at t j) → row_at t j ∈ kept u
    kept_u j d c = elim (ch j) [
      | inl e ↦ absurd (d e.0)
      | inr e ↦ subst (λ (x : Row). x ∈ kept u) e.1 (kept_of_slot u j (subst IsCommitted (sym e.1) c))
    ]

    kept_of_u : (x : Row) → x ∈ kept u → x ∈ kept t
    unfolding kept
    kept_of_u x m =
        let (j, h, e, c) = place_of_kept committed u.rows past_end m in
        elim (ch j) [
          | inl k ↦ absurd (let z = ap (λ (y : Row). y.state) (sym k.1 ∙ e) in let w = (committed_iff x.state).0 c in never (cc))
          | inr k ↦ subst (λ (y : Row). y ∈ kept t) (sym k.1 ∙ e) (kept_of_slot t j (subst IsCommitted (sym e ∙ k.1) ((committed_iff x.state).0 c)))
        ]

    -- and the active ones are the same
    held_u : (x : Row) → HeldBack u x → HeldBack t x
    unfolding active_rows
    held_u x (a, m, k) =
        let (j, h, e, c) = place_of_kept active u.rows past_end m in
        elim (ch j) [
          | inl w ↦ absurd (let z = ap (λ (y : Row). y.state) (sym w.1 ∙ e) in let y = (active_iff a.state).0 c in never (cc))
          | inr w ↦ (a, subst (λ (y : Row). y ∈ active_rows t) (sym w.1 ∙ e) (kept_of_place active t.rows j past_end refl (subst (λ (y : Row). active y ≡ true) (sym e ∙ w.1) c)), k)
        ]

    held_t : (x : Row) → HeldBack t x → HeldBack u x
    unfolding active_rows
    held_t x (a, m, k) =
        let (j, h, e, c) = place_of_kept active t.rows past_end m in
        elim (ch j) [
          | inl w ↦ absurd (let z : (row_at t i).state ≡ a.state = ap (λ (y : ℕ). (row_at t y).state) (sym w.0) ∙ ap (λ (y : Row). y.state) e in
              let y = (active_iff a.state).0 c in let g = l.is in never (cc))
          | inr w ↦ (a, subst (λ (y : Row). y ∈ active_rows u) (w.1 ∙ e) (kept_of_place active u.rows j past_end refl (subst (λ (y : Row). active y ≡ true) (sym (w.1 ∙ e)) c)), k)
        ]

    -- a row that stays keeps its place among the kept
    staying_u : (x : Row) → x ∈ kept t → stays t x ≡ true → x ∈ kept u
    unfolding kept
    staying_u x m s =
        let (j, h, e, c) = place_of_kept committed t.rows past_end m in
        subst (λ (y : Row). y ∈ kept u) e (kept_u j (λ d. true_not_false {b = stays t (row_at t j)} (rw e s) (rw d l.goes)) ((committed_iff (row_at t j).state).0 (rw e c)))

    next_stays : {x y : Row} → x ∈ kept t → y ∈ kept t → stays t x ≡ true → Goes x y → stays t y ≡ true
    next_stays {x} {y} m k s a = (stays_iff t y k).1 (reached_of_next k ((stays_iff t x m).0 s) m a)

    path_u : {x y : Row} → stays t x ≡ true → ArrowPath Goes (kept t) x y → ArrowPath Goes (kept u) x y
    path_u s (one {a = x} {b = y} m k a) = one (staying_u x m s) (staying_u y k (next_stays m k s a)) a
    path_u s (more {a = x} m a p) = more (staying_u x m s) a (path_u (next_stays m (start_of_path p) s a) p)

    same_stays : (x : Row) → x ∈ kept t → x ∈ kept u → stays u x ≡ stays t x
    same_stays x m k = same_of_iff (stays u x) (stays t x)
        (λ e. (stays_iff t x m).1 (wide ((stays_iff u x k).0 e))) (λ e. (stays_iff u x k).1 (narrow ((stays_iff t x m).0 e)))
      where
        wide : Reached Goes (HeldBack u) (kept u) x → Reached Goes (HeldBack t) (kept t) x
        wide (b, p, h, inl e) = (b, kept_of_u b p, held_u b h, inl e)
        wide (b, p, h, inr w) = (b, kept_of_u b p, held_u b h, inr (path_of_larger kept_of_u w))

        narrow : Reached Goes (HeldBack t) (kept t) x → Reached Goes (HeldBack u) (kept u) x
        narrow (b, p, h, w) =
            let s : stays t b ≡ true = (stays_iff t b p).1 (b, p, h, inl refl) in
            (b, staying_u b p s, held_t b h, elim w [ inl e ↦ inl e | inr z ↦ inr (path_u s z) ])

    same_slot : (j : ℕ) → row_at (swept_table u) j ≡ row_at (swept_table t) j
    same_slot j = elim (ch j) [ inl e ↦ freed_slot e | inr e ↦ other e.0 e.1 (true_or_false (committed (row_at t j))) (true_or_false (stays t (row_at t j))) ]
      where
        freed_slot : (j ≡ i) × (row_at u j ≡ free_row) → row_at (swept_table u) j ≡ row_at (swept_table t) j
        freed_slot (d, e) = slot_other u j (λ c. let z = ap (λ (y : Row). y.state) e in never (cc)) ∙ e ∙ sym (slot_goes t j (rw d l.is) (rw d l.goes))

        other : j ≢ i → row_at u j ≡ row_at t j → (committed (row_at t j) ≡ true) ⊎ (committed (row_at t j) ≡ false) → (stays t (row_at t j) ≡ true) ⊎ (stays t (row_at t j) ≡ false)
            → row_at (swept_table u) j ≡ row_at (swept_table t) j
        other d e (inr c) s =
            let nt : ¬ IsCommitted (row_at t j) = λ z. true_not_false ((committed_iff (row_at t j).state).1 z) c in
            slot_other u j (λ z. nt (subst IsCommitted e z)) ∙ e ∙ sym (slot_other t j nt)
        other d e (inl c) s =
            let ct = (committed_iff (row_at t j).state).0 c in
            let q = same_stays (row_at t j) (kept_of_slot t j ct) (kept_u j d ct) in
            elim s [
              | inl z ↦ slot_stays u j (ap (stays u) e ∙ q ∙ z) ∙ e ∙ sym (slot_stays t j z)
              | inr z ↦ slot_goes u j (subst IsCommitted (sym e) ct) (ap (stays u) e ∙ q ∙ z) ∙ sym (slot_goes t j ct z)
            ]

    same_sweep : swept_table u ≡ swept_table t
    same_sweep = ap (with_rows t) (ext_get_or past_end (map (swept_row u) u.rows) (map (swept_row t) t.rows)
        (length-map u.rows (swept_row u) ∙ length-set t.rows i free_row ∙ sym (length-map t.rows (swept_row t))) (λ j h. same_slot j))

    fewer : swept_count t ≡ suc (swept_count u)
    fewer = omega (arith, sweep_counts t, sweep_counts u, free_set t.rows i slot used, ap (λ (w : Table). free_slots w.rows) same_sweep)

-- nothing goes: the sweep leaves the table as it is
swept_none : (t : Table) (es : List Entry) → Invariant t es → swept_count t ≡ 0 → t ≡ swept_table t
unfolding swept_count
swept_none t es v e = ap (with_rows t) (ext_get_or past_end t.rows (map (swept_row t) t.rows) (sym (length-map t.rows (swept_row t))) (λ j h. sym (same j)))
  where
    none : (r : Row) → r ∈ kept t → stays t r ≡ true
    none r m = elim (true_or_false (stays t r)) [
      | inl s ↦ s
      | inr s ↦ absurd (empty (keep (λ q. not (stays t q)) (kept t)) e (kept_of_member (λ q. not (stays t q)) m (not_of_false s)))
    ]
      where
        empty : (l : List Row) → length l ≡ 0 → ¬ (r ∈ l)
        empty [] p k = Memᴰ.not-nil k
        empty (x ∷ l) p k = omega arith

    same : (j : ℕ) → row_at (swept_table t) j ≡ row_at t j
    same j = elim (true_or_false (committed (row_at t j))) [
      | inl c ↦ slot_stays t j (none (row_at t j) (kept_of_slot t j ((committed_iff (row_at t j).state).0 c)))
      | inr c ↦ slot_other t j (λ z. true_not_false ((committed_iff (row_at t j).state).1 z) c)
    ]

-- as many forgets as the sweep counts
forget_all_from : (k : ℕ) (t : Table) (es : List Entry) → Invariant t es → ¬ Closed t → swept_count t ≡ k → (ns : List ℕ) × ForgetAll t ns (swept_table t)
unfolding swept_count
forget_all_from zero t es v nc e = ([], swept_none t es v e)
forget_all_from (suc k) t es v nc e = go (λ u w nu f. forget_all_from k u es w nu f) (one_of (going t es v nc) e)
  where
    one_of : (l : List Row) → length l ≡ suc k → (x : Row) × (x ∈ l)
    one_of [] p = absurd (omega arith)
    one_of (x ∷ l) p = (x, here refl)

    go : ((u : Table) → Invariant u es → ¬ Closed u → swept_count u ≡ k → (ns : List ℕ) × ForgetAll u ns (swept_table u)) → (x : Row) × (x ∈ going t es v nc)
        → (ns : List ℕ) × ForgetAll t ns (swept_table t)
    go again (x, m) =
        let (i, l) = loose_slot t es v nc x m in
        let f = forgets t es v nc i l in
        let (ns, r) = again (with_row t i free_row) (invariant_u t es v nc i l) nc (omega (arith, fewer t es v nc i l)) in (
          num (row_at t i) ∷ ns,
          (
            ap (λ (y : Answered Table Refusal). y.answer) f,
            subst (λ (y : Table). ForgetAll y ns (swept_table t)) (sym (ap (λ (y : Answered Table Refusal). y.table) f)) (subst (ForgetAll (with_row t i free_row) ns) (same_sweep t es v nc i l) r),
          ),
        )

pub forget_all : (t : Table) (es : List Entry) → Invariant t es → ¬ Closed t → (ns : List ℕ) × ForgetAll t ns (swept_table t)
forget_all t es v nc = forget_all_from (swept_count t) t es v nc refl
