-- A row that a report or a commit changed is what its reports made it. Assumes nothing.
use mathlib.Core.Path.{◌≡◌, refl, sym, ap, subst, ◌∙◌}
use mathlib.Core.Bool.{true, false, ◌||◌}
use mathlib.Core.Logic.{◌↔◌, ◌≢◌, inl, inr}
use Prim.Native.Nat.{ℕ, ◌<◌}
use native.Mathlib.Decide.{ℕ_discrete}
use lib.ListN.{length}
use Rattle.graph.proofs.TestLaws.{true_not_false, or_of_left, or_of_right, either_of_or}
use Rattle.method.specs.Calls.{CallAnswer}
use Rattle.std.specs.Prelude.{Some, unwrap_or, Ok}
use Rattle.method.specs.declared.Ticket.{Ticket}
use Rattle.method.specs.declared.Stage.{Stage}
use Rattle.method.specs.declared.Report.{Report}
use Rattle.method.specs.declared.Part.{Part}
use Rattle.method.specs.declared.Row.{Row}
use Rattle.method.specs.declared.Table.{Table}
use Rattle.method.specs.declared.Answer.{Answer}
use Rattle.method.specs.Records.{number, no_part, part_at, tickets_of}
use Rattle.method.specs.Stages.{step_of, given}
use Rattle.method.specs.Calls.{Call}
use Rattle.method.specs.Calls.Call.{report_ticket, decide}
use Rattle.method.specs.Effects.{reported, committed_row}
use Rattle.method.proofs.RecordLaws.{never}
use Rattle.method.proofs.StageLaws.{same, same_iff, given_new, given_step}
use Rattle.method.proofs.RowLaws.{ticket_part, reported_same, reported_other}
use Rattle.runs.specs.Run.{Run, Run.call, after, answer_to, Happened, TakesTicket, report_call, Reports, Commits}
use Rattle.method.specs.Seen.{IsActive, IsCommitted, num, Has, base, tick}
use Rattle.runs.specs.Follows.{BeginsAt, RowFollows}
use Rattle.runs.proofs.EventLaws.{Told, same_told, report_of_ticket, happened_map, later_iff}
use Rattle.runs.proofs.StepLaws.{brought}

module _ (r : Run) (c : Call) (q : Row) (v : RowFollows r q) where
  abbrev a : CallAnswer
  a = answer_to r c

  -- a report at site s: what it leaves as it was
  module _ (s : ℕ) (p : Report) (k : Ticket) (hs : Has q s) (l : s < length q.parts) where
    abbrev w : Row
    w = reported q s p k

    bases : (x : ℕ) → base w x ≡ base q x
    bases x = elim (ℕ_discrete x s) [
      | yes e ↦ rw e (ap (λ (y : Part). y.base.0) (reported_same q s p k l))
      | no n ↦ ap (λ (y : Part). y.base.0) (reported_other q s p k x n)
    ]

    tick_same : tick w s ≡ k.0
    tick_same = ticket_part w s ∙ ap (λ (y : Part). y.ticket.0) (reported_same q s p k l)

    tick_other : (x : ℕ) → x ≢ s → tick w x ≡ tick q x
    tick_other x n = ticket_part w x ∙ ap (λ (y : Part). y.ticket.0) (reported_other q s p k x n) ∙ sym (ticket_part q x)

    stage_other : (x : ℕ) → x ≢ s → (part_at w x).stage ≡ (part_at q x).stage
    stage_other x n = ap (λ (y : Part). y.stage) (reported_other q s p k x n)

    begun : Happened (BeginsAt w) (call r c)
    unfolding Happened reported
    begun = inr (happened_map {P = BeginsAt q} {Q = BeginsAt w} (λ t d b x. (x.0, λ y m. bases y ∙ x.1 y m)) r v.begun)

    unlisted : (x : ℕ) → ¬ Has w x → part_at w x ≡ no_part
    unfolding reported
    unlisted x n = reported_other q s p k x (λ e. n (rw e hs)) ∙ v.unlisted x n

    -- it was not committed, and is not
    uncommitted : IsActive q → ¬ Commits (num q) (after r) c a → IsCommitted w ↔ Happened (Commits (num q)) (call r c)
    unfolding reported
    uncommitted ac nc = later_iff r c (Commits (num q)) nc v.committed

  -- the report that is made now, and no other of this row
  module _ (p : Report) (s k : ℕ) (e : c ≡ report_call p (num q) s k) (f : a ≡ Ok Answer.Done) (ac : IsActive q) (hs : Has q s) (l : s < length q.parts)
      (leads : (h : Stage) × (step_of (part_at q s).stage p ≡ Some h)) (pos : p ≡ Report.Ticket → 0 < k) where
    abbrev b : Ticket
    b = brought p k (part_at q s)

    abbrev w' : Row
    w' = reported q s p b

    told_now : (x : Report) (y : ℕ) → Reports x (num q) y (after r) c a → (x ≡ p) × (y ≡ s)
    told_now x y (j, d, g) =
        let z = same_told p x (num q) (num q) s y k j (sym e ∙ d) in
        (sym (ap (λ (m : Told). m.report) z), sym (ap (λ (m : Told). m.site) z))

    stage_now : (part_at w' s).stage ≡ leads.0
    stage_now = ap (λ (y : Part). y.stage) (reported_same q s p b l) ∙ ap (λ x. unwrap_or x (part_at q s).stage) leads.1

    given_now : (x : Report) → given x (part_at w' s).stage ≡ given x (part_at q s).stage || same x p
    given_now x = ap (given x) stage_now ∙ given_step (part_at q s).stage leads.0 p leads.1 x

    reports : (y : ℕ) (x : Report) → (given x (part_at w' y).stage ≡ true) ↔ Happened (Reports x (num q) y) (call r c)
    unfolding Happened
    reports y x = elim (ℕ_discrete y s) [
      | no n ↦ rw (stage_other s p b hs l y n) (later_iff r c (Reports x (num q) y) (λ z. n (told_now x y z).1) (v.reports y x))
      | yes d ↦ subst (λ (i : ℕ). (given x (part_at w' i).stage ≡ true) ↔ Happened (Reports x (num q) i) (call r c)) (sym d) (here x)
    ]
      where
        here : (x : Report) → (given x (part_at w' s).stage ≡ true) ↔ Happened (Reports x (num q) s) (call r c)
        here x = (
          λ z. elim (either_of_or (given x (part_at q s).stage) (same x p) (sym (given_now x) ∙ z)) [
            | inl g ↦ inr ((v.reports s x).0 g)
            | inr g ↦ inl (k, e ∙ ap (λ (y : Report). report_call y (num q) s k) (sym ((same_iff x p).0 g)), f)
          ],
          λ z. given_now x ∙ elim z [
            | inl g ↦ or_of_right (given x (part_at q s).stage) ((same_iff x p).1 (told_now x s g).0)
            | inr g ↦ or_of_left (same x p) ((v.reports s x).1 g)
          ],
        )

    -- a ticket stands there only if it was brought now, or before
    tickets : (y j : ℕ) → 0 < j → (tick w' y ≡ j) ↔ Happened (TakesTicket (num q) y j) (call r c)
    unfolding Happened
    tickets y j h = elim (ℕ_discrete y s) [
      | no n ↦ rw (tick_other s p b hs l y n) (later_iff r c (TakesTicket (num q) y j) (λ z. n (told_now Report.Ticket y (report_of_ticket (after r) c a (num q) y j z)).1) (v.tickets y j h))
      | yes d ↦ subst (λ (i : ℕ). (tick w' i ≡ j) ↔ Happened (TakesTicket (num q) i j) (call r c)) (sym d) (here p refl)
    ]
      where
        here : (x : Report) → x ≡ p → (tick w' s ≡ j) ↔ Happened (TakesTicket (num q) s j) (call r c)
        here Report.Prepared x = rw same_tick (later_iff r c (TakesTicket (num q) s j) (λ z. not_now (told_now Report.Ticket s (report_of_ticket (after r) c a (num q) s j z)).0) (v.tickets s j h))
          where
            same_tick : tick w' s ≡ tick q s
            same_tick = tick_same s p b hs l ∙ ap (λ (y : Report). (brought y k (part_at q s)).0) (sym x) ∙ sym (ticket_part q s)

            not_now : Report.Ticket ≡ p → ⊥
            not_now z = never (cc)
        here Report.Ticket x = (
          λ z. inl (e ∙ ap (λ (y : Report). report_call y (num q) s k) (sym x) ∙ ap {B = Call} (λ (y : ℕ). report_ticket (num q) s y) (sym now_tick ∙ z), f),
          λ z. elim z [
            | inl g ↦ now_tick ∙ brought_now g
            | inr g ↦ absurd (true_not_false ((v.reports s Report.Ticket).1 (happened_map (λ t d b i. report_of_ticket t d b (num q) s j i) r g)) fresh)
          ],
        )
          where
            now_tick : tick w' s ≡ k
            now_tick = tick_same s p b hs l ∙ ap (λ (y : Report). (brought y k (part_at q s)).0) (sym x)

            brought_now : TakesTicket (num q) s j (after r) c a → k ≡ j
            brought_now g = let z : report_ticket (num q) s k ≡ report_ticket (num q) s j = ap (λ (y : Report). report_call y (num q) s k) x ∙ sym e ∙ g.0 in cc

            fresh : given Report.Ticket (part_at q s).stage ≡ false
            fresh = ap (λ (y : Report). given y (part_at q s).stage) x ∙ given_new (part_at q s).stage leads.0 p leads.1

    pub row_reported : RowFollows (call r c) w'
    unfolding reported
    row_reported = record {
      begun = begun s p b hs l;
      tickets = tickets;
      reports = reports;
      unlisted = unlisted s p b hs l;
      committed = uncommitted s p b hs l ac (λ x. never (cc));
    }

  pub row_committed : (t : Table) → c ≡ decide (num q) → a ≡ Ok (Answer.Commit (number (num q))) → RowFollows (call r c) (committed_row t q)
  unfolding Happened committed_row tickets_of
  row_committed t e f = record {
    begun = inr v.begun;
    tickets = λ x k h. later_iff r c (TakesTicket (num q) x k) (λ z. never (cc)) (v.tickets x k h);
    reports = λ x p. later_iff r c (Reports p (num q) x) (λ z. let y = z.2 in never (cc)) (v.reports x p);
    unlisted = v.unlisted;
    committed = (λ z. inl (e, f), λ z. refl);
  }
