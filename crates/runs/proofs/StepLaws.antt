-- How one step of a run changes the table: six ways, each with the call, its answer and what became of the slots. Every field of
-- `Follows` is carried over a step by these ways; a new report or a new way to leave the table is an event in one of them. Assumes
-- nothing.
use mathlib.Core.Path.{◌≡◌, refl, sym, ap, subst, ◌∙◌}
use mathlib.Core.Bool.{Bool, true, false}
use mathlib.Core.List.{List, ◌∷◌, map}
use mathlib.Core.Logic.{◌≢◌, ◌⊎◌, inl, inr}
use Prim.Native.Nat.{ℕ, ◌+◌, ◌<◌, max}
use native.Mathlib.Omega.{arith}
use native.Mathlib.Decide.{ℕ_discrete}
use lib.ListN.{length}
use Rattle.graph.specs.Acyclic.{acyclic}
use Rattle.orders.specs.Arrow.{arrowb}
use Rattle.orders.specs.Entries.{Entry}
use Rattle.refusals.specs.declared.Refusal.{Refusal}
use Rattle.method.specs.Calls.{CallAnswer}
use Rattle.std.specs.Prelude.{Some, Ok, Err}
use Rattle.method.specs.declared.Ticket.{Ticket}
use Rattle.method.specs.declared.Stage.{Stage}
use Rattle.method.specs.declared.Report.{Report}
use Rattle.method.specs.declared.Part.{Part}
use Rattle.method.specs.declared.Row.{Row}
use Rattle.method.specs.declared.Table.{Table}
use Rattle.method.specs.declared.Answer.{Answer}
use Rattle.method.specs.declared.Answered.{Answered}
use Rattle.method.specs.Records.{number, ticket, free_row, row_at, part_at, high_at, tickets_of}
use Rattle.method.specs.Slots.{slot_of, row_of_number, free_slot, kept, entry_of}
use Rattle.method.specs.Seen.{IsFree, IsActive, IsCommitted, num, Has, tick, Known}
use Rattle.method.specs.Stages.{step_of}
use Rattle.method.specs.Conditions.{Closed, BadOpening, Unknown, NotListed, NoStep}
use Rattle.method.specs.Calls.{Call, rules, NoneHolds}
use Rattle.method.specs.Calls.Call.{open_with, begin, report_ticket, report_prepared, abort, decide, forget, sweep}
use Rattle.method.specs.Effects.{opened, new_row, reported, committed_row, decided, swept_table, swept_count, effect, step}
use Rattle.method.proofs.RecordLaws.{never}
use Rattle.method.proofs.StageLaws.{to_of_step}
use Rattle.method.proofs.CallLaws.{Steps, Steps.stopped, Steps.passed, step_goes, done_exactly}
use Rattle.invariant.specs.Invariant.{Invariant}
use Rattle.invariant.specs.Noted.{noted}
use Rattle.invariant.proofs.ChangeLaws.{Changed}
use Rattle.invariant.proofs.KnownLaws.{found, changed}
use Rattle.invariant.proofs.StandingLaws.{one_slot}
use Rattle.invariant.proofs.InvariantLaws.{closed_of_not_not}
use Rattle.invariant.proofs.OpenLaws.{begin_slot}
use Rattle.invariant.proofs.ReportLaws.{is_active_lem, inside, has, above_base}
use Rattle.invariant.proofs.DecideLaws.{is_active_lem as active-of-decide, entry_committed, raised_at}
use Rattle.invariant.proofs.SweepLaws.{slot_swept}
use Rattle.runs.specs.Run.{Opens, Begins, report_call, Reports, Commits, Aborts, Forgets, is_begun}
use Rattle.runs.proofs.EventLaws.{no_report_abort, no_report_forget}

-- the ticket that a site holds after a report: the one that it brings, or the one that was there
abbrev pub brought : Report → ℕ → Part → Ticket
brought Report.Ticket k x = ticket k
brought Report.Prepared k x = x.ticket

-- by this call, so answered, the number leaves the table
abbrev pub Leaves : Table → Call → CallAnswer → ℕ → Type 0
Leaves t c a n = Aborts n t c a ⊎ Forgets n t c a

abbrev pub AllStay : Table → Call → CallAnswer → Type 0
AllStay t c a = (n : ℕ) → ¬ Leaves t c a n

all_stay : (t : Table) (c : Call) (a : CallAnswer) → ((n : ℕ) → c ≢ abort n) → ((n : ℕ) → a ≢ (Ok (Answer.Cycle (number n)))) → ((n : ℕ) → c ≢ forget n) → c ≢ sweep → AllStay t c a
all_stay t c a p q r s n (inl (inl k)) = p n k.0
all_stay t c a p q r s n (inl (inr k)) = q n k.1
all_stay t c a p q r s n (inr (inl k)) = r n k.0
all_stay t c a p q r s n (inr (inr k)) = s k.0

-- a refused call makes nobody leave: a sweep that is refused leaves the table as it was
refused_stay : (t : Table) (c : Call) (a : CallAnswer) (k : Refusal) → a ≡ Err k → (step t c).table ≡ t → AllStay t c a
refused_stay t c a k e p n (inl (inl l)) = never (cc)
refused_stay t c a k e p n (inl (inr l)) = never (cc)
refused_stay t c a k e p n (inr (inl l)) = never (cc)
refused_stay t c a k e p n (inr (inr l)) = l.2 (subst (λ (x : Table). Known x n) (sym p) l.1)

-- from a table, by a call and its answer, to the next table
module _ (t : Table) (c : Call) (a : CallAnswer) (u : Table) where
  -- nothing but slots changed
  pub record Same : Type 0 where
    pub last : u.last.0 ≡ t.last.0
    pub high : (s : ℕ) → high_at u s ≡ high_at t s
    pub sites : u.sites ≡ t.sites

  -- nothing was opened, begun, reported or committed
  pub record Quiet : Type 0 where
    pub opens : (first : ℕ) (floors : List ℕ) → ¬ Opens first floors t c a
    pub begins : (n sites : ℕ) → ¬ Begins n sites t c a
    pub reports : (p : Report) (n s : ℕ) → ¬ Reports p n s t c a
    pub commits : (n : ℕ) → ¬ Commits n t c a
    pub notes : (es : List Entry) → noted u a es ≡ es
    pub counts : is_begun a ≡ 0

  -- slot i, active with number n, took the report at site s
  pub record Takes (p : Report) (n s k i : ℕ) : Type 0 where
    pub opened : ¬ Closed t
    pub active : IsActive (row_at t i)
    pub named : num (row_at t i) ≡ n
    pub listed : Has (row_at t i) s
    pub inside : s < length (row_at t i).parts
    pub leads : (h : Stage) × (step_of (part_at (row_at t i) s).stage p ≡ Some h)
    pub positive : p ≡ Report.Ticket → 0 < k
    pub changed : Changed (row_at t) i (reported (row_at t i) s p (brought p k (part_at (row_at t i) s))) (row_at u)

  -- the number is committed
  pub record Seals (n : ℕ) : Type 0 where
    pub opened : ¬ Closed t
    pub active : IsActive (row_of_number t n)
    pub named : num (row_of_number t n) ≡ n
    pub changed : Changed (row_at t) (slot_of t n) (committed_row t (row_of_number t n)) (row_at u)
    pub entry : entry_of (row_of_number u n) ≡ entry_of (row_of_number t n)
    pub last : u.last.0 ≡ t.last.0
    pub sites : u.sites ≡ t.sites
    pub high : (s : ℕ) → (Has (row_of_number t n) s × (high_at u s ≡ max (high_at t s) (tick (row_of_number t n) s))) ⊎ ((¬ Has (row_of_number t n) s) × (high_at u s ≡ high_at t s))

  -- each slot stays, or who stood there leaves and it is free; and who leaves was known, and is known no more
  pub record Empties : Type 0 where
    pub opened : ¬ Closed t
    pub slots : (i : ℕ) → (row_at u i ≡ row_at t i) ⊎ ((row_at u i ≡ free_row) × (¬ IsFree (row_at t i)) × Leaves t c a (num (row_at t i)))
    pub left : (n : ℕ) → Leaves t c a n → Known t n × (¬ Known u n)

  pub data Change : Type 0 where
    refuses : (k : Refusal) → a ≡ Err k → AllStay t c a → u ≡ t → Change
    opens : (first : ℕ) (floors : List ℕ) → c ≡ open_with first floors → a ≡ Ok Answer.Done → AllStay t c a → Closed t → ¬ BadOpening first floors → u ≡ opened first floors → Change
    begins : (sites i : ℕ) → c ≡ begin sites → a ≡ Ok (Answer.Begun (number (t.last.0 + 1))) → AllStay t c a → ¬ Closed t → IsFree (row_at t i) → Changed (row_at t) i (new_row t sites) (row_at u)
        → u.last.0 ≡ t.last.0 + 1 → ((s : ℕ) → high_at u s ≡ high_at t s) → u.sites ≡ t.sites → Change
    reports : (p : Report) (n s k i : ℕ) → c ≡ report_call p n s k → a ≡ Ok Answer.Done → AllStay t c a → Takes p n s k i → Same → Change
    commits : (n : ℕ) → c ≡ decide n → a ≡ Ok (Answer.Commit (number n)) → AllStay t c a → Seals n → Change
    clears : Quiet → Empties → Same → Change

-- one slot freed, whose number and no other leaves
module _ (t : Table) (es : List Entry) (v : Invariant t es) (c : Call) (a : CallAnswer) (u : Table) (i : ℕ) (oc : ¬ Closed t) (used : ¬ IsFree (row_at t i))
    (ch : Changed (row_at t) i free_row (row_at u)) (own : Leaves t c a (num (row_at t i))) (only : (n : ℕ) → Leaves t c a n → num (row_at t i) ≡ n) where
  gone : (n : ℕ) → num (row_at t i) ≡ n → ¬ Known u n
  gone n e (j, f, p) = elim (ch j) [
    | inl z ↦ f (ap (λ (r : Row). r.state) z.1)
    | inr z ↦ one_slot t es v i j n z.0 used (λ g. f (ap (λ (r : Row). r.state) z.1 ∙ g)) e (ap num (sym z.1) ∙ p)
  ]

  empties_one : Empties t c a u
  empties_one = record {
    opened = oc;
    slots = λ j. elim (ch j) [ inl z ↦ inr (z.1, rw z.0 used, rw z.0 own) | inr z ↦ inl z.1 ];
    left = λ n l. let e = only n l in ((i, used, e), gone n e);
  }

-- every step is one of these
module _ (t : Table) (es : List Entry) (v : Invariant t es) where
  abbrev To : Call → Answered Table Refusal → Type 0
  To c r = Change t c r.answer r.table

  same : (u : Table) (c : Call) (a : CallAnswer) → u.last ≡ t.last → u.high ≡ t.high → u.sites ≡ t.sites → Same t c a u
  same u c a l h s = record { last = rw l; high = λ i. rw h; sites = s }

  -- a report that nothing refuses
  module _ (n s : ℕ) (p : Report) (k : ℕ) (nc : ¬ Closed t) (nu : ¬ Unknown t n) (nl : ¬ NotListed (row_of_number t n) s) (ns : ¬ NoStep (row_of_number t n) s p)
      (pos : p ≡ Report.Ticket → 0 < k) (c : Call) (a : CallAnswer) (u : Table) (rows : u.rows ≡ (Rattle.method.specs.Records.with_row t (slot_of t n) (reported (row_of_number t n) s p (brought p k (part_at (row_of_number t n) s)))).rows) where
    takes : Takes t c a u p n s k (slot_of t n)
    takes =
        let g = found t n nu in
        record {
          opened = nc;
          active = is_active_lem t es v n s p nc nu nl ns;
          named = g.named;
          listed = has t es v n s p nc nu nl ns;
          inside = inside t es v n s p nc nu nl ns;
          leads = to_of_step (part_at (row_of_number t n) s).stage p ns;
          positive = pos;
          changed = λ j. rw rows (changed t (slot_of t n) (reported (row_of_number t n) s p (brought p k (part_at (row_of_number t n) s))) g.slot j);
        }

  change_effect : (c : Call) → NoneHolds (rules t c) → To c (effect t c)
  unfolding rules effect decided
  change_effect (open_with first floors) (a, (b, n)) = opens first floors refl refl (all_stay _ _ _ (λ i x. never (cc)) (λ i x. never (cc)) (λ i x. never (cc)) (λ x. never (cc))) (closed_of_not_not t a) b refl
  change_effect (begin sites) (a, (b, (c, (d, n)))) =
      let (h, f) = begin_slot t d in
      begins sites (free_slot t) refl refl (all_stay _ _ _ (λ i x. never (cc)) (λ i x. never (cc)) (λ i x. never (cc)) (λ x. never (cc))) a f (changed t (free_slot t) (new_row t sites) h) refl (λ s. refl) refl
  change_effect (report_ticket m s k) (a, (b, (c, (d, (e, (f, n)))))) =
      reports Report.Ticket m s k (slot_of t m) refl refl (all_stay _ _ _ (λ i x. never (cc)) (λ i x. never (cc)) (λ i x. never (cc)) (λ x. never (cc)))
      (takes m s Report.Ticket k a b c d (λ z. omega (arith, above_base (row_of_number t m) s k e)) (report_ticket m s k) (Ok Answer.Done) _ refl) (same _ _ _ refl refl refl)
  change_effect (report_prepared m s) (a, (b, (c, (d, n)))) =
      reports Report.Prepared m s 0 (slot_of t m) refl refl (all_stay _ _ _ (λ i x. never (cc)) (λ i x. never (cc)) (λ i x. never (cc)) (λ x. never (cc)))
      (takes m s Report.Prepared 0 a b c d (λ z. never (cc)) (report_prepared m s) (Ok Answer.Done) _ refl) (same _ _ _ refl refl refl)
  change_effect (abort m) (a, (b, (c, n))) =
      let g = found t m b in
      clears
      (record { opens = λ f fs x. never (cc); begins = λ i x y. never (cc); reports = no_report_abort t (abort m) (Ok Answer.Done) m refl; commits = λ i x. never (cc); notes = λ es. refl; counts = refl })
      (empties_one t es v (abort m) (Ok Answer.Done) _ (slot_of t m) a g.used (changed t (slot_of t m) free_row g.slot) (inl (inl (rw g.named (refl, refl)))) (λ i l. g.named ∙ aborted i l))
      (same _ _ _ refl refl refl)
    where
      aborted : (i : ℕ) → Leaves t (abort m) (Ok Answer.Done) i → m ≡ i
      aborted i (inl (inl l)) = cc
      aborted i (inl (inr l)) = never (cc)
      aborted i (inr (inl l)) = never (cc)
      aborted i (inr (inr l)) = never (cc)
  change_effect (decide m) (a, (b, (c, n))) = go (acyclic arrowb (tickets_of (row_of_number t m) ∷ map tickets_of (kept t)))
    where
      cycled : (i : ℕ) → Leaves t (decide m) (Ok (Answer.Cycle (number m))) i → m ≡ i
      cycled i (inl (inl l)) = never (cc)
      cycled i (inl (inr l)) = cc
      cycled i (inr (inl l)) = never (cc)
      cycled i (inr (inr l)) = never (cc)

      go : (x : Bool) → To (decide m) (decided t m x)
      go true = let g = found t m b in commits m refl refl (all_stay _ _ _ (λ i x. never (cc)) (λ i x. never (cc)) (λ i x. never (cc)) (λ x. never (cc))) (record {
        opened = a;
        active = active-of-decide t es v m a b c;
        named = g.named;
        changed = changed t (slot_of t m) (committed_row t (row_of_number t m)) g.slot;
        entry = entry_committed t es v m a b c;
        last = refl;
        sites = refl;
        high = raised_at t es v m a b c;
      })
      go false = let g = found t m b in
          clears
          (record { opens = λ f fs x. never (cc); begins = λ i x y. never (cc); reports = λ p i s x. let z = x.2 in never (cc); commits = λ i x. never (cc); notes = λ es. refl; counts = refl })
          (empties_one t es v (decide m) (Ok (Answer.Cycle (number m))) _ (slot_of t m) a g.used (changed t (slot_of t m) free_row g.slot) (inl (inr (rw g.named (refl, refl)))) (λ i l. g.named ∙ cycled i l))
          (same _ _ _ refl refl refl)
  change_effect (forget m) (a, (b, (c, (d, n)))) =
      let g = found t m b in
      clears
      (record { opens = λ f fs x. never (cc); begins = λ i x y. never (cc); reports = no_report_forget t (forget m) (Ok Answer.Done) m refl; commits = λ i x. never (cc); notes = λ es. refl; counts = refl })
      (empties_one t es v (forget m) (Ok Answer.Done) _ (slot_of t m) a g.used (changed t (slot_of t m) free_row g.slot) (inr (inl (rw g.named (refl, refl)))) (λ i l. g.named ∙ forgotten i l))
      (same _ _ _ refl refl refl)
    where
      forgotten : (i : ℕ) → Leaves t (forget m) (Ok Answer.Done) i → m ≡ i
      forgotten i (inl (inl l)) = never (cc)
      forgotten i (inl (inr l)) = never (cc)
      forgotten i (inr (inl l)) = cc
      forgotten i (inr (inr l)) = never (cc)
  change_effect sweep (a, n) = clears
      (record { opens = λ f fs x. never (cc); begins = λ i x y. never (cc); reports = λ p i s x. let z = x.2 in never (cc); commits = λ i x. never (cc); notes = λ es. refl; counts = refl })
      (record { opened = a; slots = slots; left = left })
      (same _ _ _ refl refl refl)
    where
      swept : (step t sweep).table ≡ swept_table t
      swept = ap (λ (x : Answered Table Refusal). x.table) (done_exactly t sweep (a, n))

      used : (i : ℕ) → IsCommitted (row_at t i) → ¬ IsFree (row_at t i)
      used i c f = never (cc)

      gone : (i : ℕ) → IsCommitted (row_at t i) → row_at (swept_table t) i ≡ free_row → ¬ Known (step t sweep).table (num (row_at t i))
      gone i c e k = let (j, f, p) = subst (λ (x : Table). Known x (num (row_at t i))) swept k in elim (slot_swept t j) [
        | inl z ↦ elim (ℕ_discrete j i) [
          | yes d ↦ f (ap (λ (x : ℕ). (row_at (swept_table t) x).state) d ∙ ap (λ (r : Row). r.state) e)
          | no d ↦ one_slot t es v i j (num (row_at t i)) d (used i c) (λ g. f (ap (λ (r : Row). r.state) z ∙ g)) refl (ap num (sym z) ∙ p)
        ]
        | inr z ↦ f (ap (λ (r : Row). r.state) z.1)
      ]

      slots : (i : ℕ) → (row_at (swept_table t) i ≡ row_at t i) ⊎ ((row_at (swept_table t) i ≡ free_row) × (¬ IsFree (row_at t i)) × Leaves t sweep (Ok (Answer.Swept (swept_count t))) (num (row_at t i)))
      slots i = elim (slot_swept t i) [
        | inl e ↦ inl e
        | inr (c, e) ↦ inr (e, used i c, inr (inr (refl, (i, used i c, refl), gone i c e)))
      ]

      left : (m : ℕ) → Leaves t sweep (Ok (Answer.Swept (swept_count t))) m → Known t m × (¬ Known (swept_table t) m)
      left m (inl (inl l)) = never (cc)
      left m (inl (inr l)) = never (cc)
      left m (inr (inl l)) = never (cc)
      left m (inr (inr l)) = (l.1, λ k. l.2 (subst (λ (x : Table). Known x m) (sym swept) k))

  pub change_of_step : (c : Call) → To c (step t c)
  change_of_step c = go (step_goes t c)
    where
      go : Steps t c (step t c) → To c (step t c)
      go (stopped k f p q) = refuses k q (refused_stay t c _ k q p) p
      go (passed n e) = subst (To c) (sym e) (change_effect c n)
