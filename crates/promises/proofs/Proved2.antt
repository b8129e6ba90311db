-- The promises of demand 2, each from laws further down. Assumes nothing.
use mathlib.Core.Path.{◌≡◌, refl, sym, ap, ◌∙◌}
use mathlib.Core.Bool.{true}
use mathlib.Core.List.{List, ◌++◌}
use mathlib.Core.Logic.{◌≢◌, ◌⊎◌, inl, inr}
use Prim.Native.Nat.{ℕ, ◌+◌, ◌<◌}
use native.Mathlib.Omega.{arith}
use lib.ListN.{length, take, drop, length-set, length-map}
use Rattle.graph.proofs.TestLaws.{true_or_false, true_not_false}
use Rattle.graph.specs.Reached.{Reached}
use Rattle.sites.specs.Sites.{sites_of}
use Rattle.sites.proofs.SitesLaws.{rising_sites, lt_of_member}
use Rattle.std.proofs.Common.{Result, Ok, Err}
use Rattle.refusals.specs.declared.Refusal.{Refusal}
use Rattle.wire.specs.Message.{body_of}
use Rattle.frames.specs.Frame.{Next, frame_of}
use Rattle.sending.specs.Meaning.{WriteMeans}
use Rattle.sending.specs.Writing.{write_answer, left_by}
use Rattle.wire.proofs.BodyLaws.{message_of_body, body_of_message, below_body_of}
use Rattle.sending.proofs.MeaningLaws.{write_means}
use Rattle.sending.proofs.RoundLaws.{read_of_written}
use Rattle.frames.proofs.FrameLaws.{next_of_means, means_of_next}
use Rattle.frames.proofs.StreamLaws.{bytes_of_stream, well_formed_stream, one_stream}
use Rattle.method.specs.declared.Ticket.{Ticket}
use Rattle.method.specs.declared.State.{State}
use Rattle.method.specs.declared.Row.{Row}
use Rattle.method.specs.declared.Table.{Table}
use Rattle.method.specs.declared.Answer.{Answer}
use Rattle.method.specs.declared.Answered.{Answered}
use Rattle.method.specs.Records.{free_row, row_at, Goes, with_row}
use Rattle.method.specs.Slots.{slot_of, row_of_number, kept}
use Rattle.method.specs.Conditions.{Closed, Unknown, NotPrepared, HeldBack}
use Rattle.method.specs.Calls.{rules}
use Rattle.method.specs.Calls.Call.{decide, forget, sweep}
use Rattle.method.specs.Effects.{committed_row, decided, stays, swept_row, swept_table, swept_count, effect, step}
use Rattle.method.proofs.RecordLaws.{never}
use Rattle.method.proofs.RowLaws.{length_raised, raised_listed, raised_other}
use Rattle.method.proofs.GraphLaws.{stays_iff}
use Rattle.method.proofs.CallLaws.{Steps, Steps.stopped, Steps.passed, step_goes, done_exactly}
use Rattle.runs.specs.Run.{after}
use Rattle.runs.specs.History.{history}
use Rattle.invariant.proofs.KnownLaws.{found, changed}
use Rattle.invariant.proofs.ChangeLaws.{there}
use Rattle.runs.proofs.HistoryLaws.{invariant_run}
use Rattle.runs.proofs.FollowLaws.{follows as run-follows, active_iff_begun, kept_iff_committed}
use Rattle.runs.proofs.PlacedLaws.{placed}
use Rattle.runs.proofs.PaperLaws.{forget_done_iff, forgotten_iff_paper}
use Rattle.invariant.proofs.SweepLaws.{kept_of_slot, slot_goes, slot_stays, slot_other}
use Rattle.runs.proofs.ExactlyLaws.{commits_exactly as step_decides, Decision.commits as no_cycle, Decision.cycles as a-cycle, sweep_counts}
use Rattle.runs.proofs.ForgetAllLaws.{forget_all}
use Rattle.runs.proofs.NoneToForgetLaws.{none_to_forget}
use Rattle.promises.specs.Demand2.{FollowsEveryRun, Frees, CommitsRow, Decision, Decision.commits, Decision.cycles, CommitsExactly, SlotFound, ForgetsExactly, Sweeps, SweepsExactly, MessageBytes}

pub follows : FollowsEveryRun
follows r = record { follows = run-follows r; placed = placed r; active = active_iff_begun r; kept = kept_iff_committed r }

-- a slot that was set
module _ (t : Table) (i : ℕ) (h : i < length t.rows) (q : Row) where
  set_here : row_at (with_row t i q) i ≡ q
  set_here = there (changed t i q h) (λ (x : Row). x ≡ q) refl

  set_others : (j : ℕ) → j ≢ i → row_at (with_row t i q) j ≡ row_at t j
  set_others j d = elim (changed t i q h j) [ inl e ↦ absurd (d e.0) | inr e ↦ e.1 ]

frees : (t : Table) (i : ℕ) → i < length t.rows → Frees t (with_row t i free_row) i
frees t i h = record {
  zeros = set_here t i h free_row;
  others = set_others t i h free_row;
  slots = length-set t.rows i free_row;
  rest = record { sites = refl; last = refl; high = refl };
}

commits_row : (t : Table) (n : ℕ) → length t.high ≡ 8 → ¬ Unknown t n → CommitsRow t (decided t n true).table (slot_of t n) (row_of_number t n)
unfolding decided committed_row
commits_row t n e nu =
    let q = row_of_number t n in
    let h = (found t n nu).slot in
    let ss = sites_of q.sites in
    record {
      row = set_here t (slot_of t n) h (committed_row t q);
      others = set_others t (slot_of t n) h (committed_row t q);
      slots = length-set t.rows (slot_of t n) (committed_row t q);
      raised = λ s m. ap (λ (k : Ticket). k.0) (raised_listed q ss t.high s (rising_sites q.sites) m (omega (arith, lt_of_member q.sites m, e)));
      unraised = λ s m. ap (λ (k : Ticket). k.0) (raised_other q ss t.high s m);
      highs = length_raised q ss t.high;
      sites = refl;
      last = refl;
    }

decision : (t : Table) (n : ℕ) → length t.high ≡ 8 → ¬ Closed t → ¬ Unknown t n → ¬ NotPrepared (row_of_number t n) → Decision t n (step t (decide n)).answer (step t (decide n)).table
unfolding rules decided
decision t n e nc nu nr = elim (step_decides t n (nc, (nu, (nr, tt)))) [
  | no_cycle f p ↦ rw p (commits f refl (commits_row t n e nu))
  | a-cycle f p ↦ rw p (cycles f refl (frees t (slot_of t n) (found t n nu).slot))
]

pub commits_exactly : CommitsExactly
commits_exactly t n a u (p, q) e nc nu nr = rw (p, q) (decision t.held n e nc nu nr)

pub slot_found : SlotFound
slot_found t n nu = let f = found t n nu in (f.used, f.named)

forget_frees : (t : Table) (n : ℕ) → (step t (forget n)).answer ≡ Ok Answer.Done → Frees t (step t (forget n)).table (slot_of t n)
unfolding rules effect
forget_frees t n e = go (step_goes t (forget n))
  where
    go : Steps t (forget n) (step t (forget n)) → Frees t (step t (forget n)).table (slot_of t n)
    go (stopped k f p q) = never (cc)
    go (passed (a, (b, x)) p) = rw p (frees t (slot_of t n) (found t n b).slot)

pub forgets_exactly : ForgetsExactly
forgets_exactly = record {
  rule = λ t n a u g nc nu cm. rw g.0 (forget_done_iff t.held n nc nu cm);
  frees = λ t n a u g e. rw g.1 (forget_frees t.held n (rw g.0 at e));
  paper = forgotten_iff_paper;
}

sweep_is : (t : Table) → ¬ Closed t → step t sweep ≡ effect t sweep
unfolding rules
sweep_is t nc = done_exactly t sweep (nc, tt)

swept_row_lem : (t : Table) (i : ℕ) → (row_at t i).state ≡ State.Committed
    → (Reached Goes (HeldBack t) (kept t) (row_at t i) × (row_at (swept_table t) i ≡ row_at t i)) ⊎ ((¬ Reached Goes (HeldBack t) (kept t) (row_at t i)) × (row_at (swept_table t) i ≡ free_row))
swept_row_lem t i c =
    let h = stays_iff t (row_at t i) (kept_of_slot t i c) in
    elim (true_or_false (stays t (row_at t i))) [
      | inl e ↦ inl (h.0 e, slot_stays t i e)
      | inr e ↦ inr (λ p. true_not_false (h.1 p) e, slot_goes t i c e)
    ]

sweeps : (t : Table) → Sweeps t (effect t sweep).answer (effect t sweep).table
unfolding effect
sweeps t = record {
  rows = λ i c. swept_row_lem t i c;
  others = slot_other t;
  slots = length-map t.rows (swept_row t);
  rest = record { sites = refl; last = refl; high = refl };
  count = (swept_count t, refl, sweep_counts t);
}

step_sweeps : (t : Table) → ¬ Closed t → Sweeps t (step t sweep).answer (step t sweep).table
step_sweeps t nc = rw (sweep_is t nc) (sweeps t)

swept_is : (t : Table) → ¬ Closed t → (step t sweep).table ≡ swept_table t
unfolding effect
swept_is t nc = ap (λ (a : Answered Table Refusal). a.table) (sweep_is t nc)

pub sweeps_exactly : SweepsExactly
sweeps_exactly = record {
  every = λ t a u g nc. rw (g.0, g.1) (step_sweeps t.held nc);
  forgets = λ r nc. let (ns, f) = forget_all (after r) (history r) (invariant_run r) nc in (ns, rw (swept_is (after r) nc) f);
  none = λ r nc. rw (swept_is (after r) nc) (none_to_forget (after r));
}

written_is : (b out : List ℕ) (place n : ℕ) (r : Result ℕ Refusal) → WriteMeans b out place r → r ≡ Ok n → left_by r b out place ≡ take place out ++ (frame_of b ++ drop (place + n) out)
written_is b out place n (Ok k) m e = let f : k ≡ n = cc in rw (sym f, m.2)
written_is b out place n (Err q) m e = never (cc)

pub message_bytes : MessageBytes
message_bytes = record {
  read = message_of_body;
  made = λ b w m. body_of_message b w m;
  frame = λ b r h. next_of_means _ (Next.whole b r) (record { bytes = refl; short = h });
  framed = λ l b r e. let f = means_of_next l (Next.whole b r) e in (f.bytes, f.short);
  written = λ m out place n after h g. (
    g.1 ∙ written_is (body_of m) out place n (write_answer (body_of m) out place) (write_means (body_of m) out place (below_body_of m h)) (sym g.0),
    λ x e. e ∙ rw g.1 (read_of_written m out place n h (sym g.0)),
  );
  parsed = λ l. (bytes_of_stream l, well_formed_stream l);
  once = one_stream;
}
