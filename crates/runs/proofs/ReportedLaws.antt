-- The history has a row for each commit answer and no other, and each has the tickets that were reported for it. Assumes nothing.
use mathlib.Core.Path.{◌≡◌, refl, sym, ap, ◌∙◌}
use mathlib.Core.List.Memᴰ
use mathlib.Core.List.Memᴰ.{head as here}
use mathlib.Core.List.Memᴰ.{tail as there}
use mathlib.Core.List.{List, ◌∷◌}
use mathlib.Core.Logic.{◌↔◌, ◌⊎◌, inl, inr}
use Prim.Native.Nat.{ℕ, ◌<◌}
use Rattle.graph.specs.Lists.{◌∈◌}
use Rattle.orders.specs.Arrow.{ticket_at}
use Rattle.orders.specs.Entries.{Entry}
use Rattle.method.specs.Calls.{CallAnswer}
use Rattle.method.specs.declared.Report.{Report}
use Rattle.method.specs.declared.Table.{Table}
use Rattle.method.specs.Slots.{slot_of, row_of_number, entry_of}
use Rattle.method.specs.Calls.{Call}
use Rattle.method.specs.Calls.Call.{decide}
use Rattle.method.specs.Effects.{step}
use Rattle.method.proofs.RecordLaws.{never}
use Rattle.runs.specs.Run.{Run, Run.start, Run.call, after, answer_to, Happened, TakesTicket, Commits}
use Rattle.invariant.specs.Noted.{noted}
use Rattle.runs.specs.History.{history}
use Rattle.method.specs.Seen.{IsActive, num}
use Rattle.invariant.proofs.ChangeLaws.{not_committed, not_free}
use Rattle.runs.proofs.PresentLaws.{change_of_run}
use Rattle.runs.proofs.EventLaws.{report_of_ticket, later_iff}
use Rattle.runs.proofs.RowsFollowLaws.{active_of_report, rows_follow_run}
use Rattle.runs.proofs.StepLaws.{Change, Change.refuses, Change.opens, Change.begins, Change.reports, Change.commits, Change.clears}

-- an answer is a commit, which notes its row, or notes nothing
module _ (t : Table) (c : Call) (a : CallAnswer) (u : Table) (es : List Entry) where
  pub data Notes : Type 0 where
    one : (n : ℕ) → Commits n t c a → IsActive (row_of_number t n) → num (row_of_number t n) ≡ n → noted u a es ≡ entry_of (row_of_number t n) ∷ es → Notes
    none : ((n : ℕ) → ¬ Commits n t c a) → noted u a es ≡ es → Notes

  notes : Change t c a u → Notes
  notes (refuses k e st p) = none (λ n x. never (cc)) (rw e)
  notes (opens first floors e f st cl b p) = none (λ n x. never (cc)) (rw f)
  notes (begins sites i e f st nc fr ch l h s) = none (λ n x. never (cc)) (rw f)
  notes (reports p n s k i e f st w sm) = none (λ n x. never (cc)) (rw f)
  notes (commits n e f st w) = one n (e, f) w.active w.named (rw f (ap (λ (x : Entry). x ∷ es) w.entry))
  notes (clears q w sm) = none q.commits (q.notes es)

-- a row of the history with the number
abbrev EntryWith : List Entry → ℕ → Type 0
EntryWith es n = (e : Entry) × (e ∈ es) × (e.number ≡ n)

abbrev notes_of : (r : Run) (c : Call) → Notes (after r) c (answer_to r c) (step (after r) c).table (history r)
notes_of r c = notes (after r) c (answer_to r c) (step (after r) c).table (history r) (change_of_run r c)

pub history_commits : (r : Run) (n : ℕ) → Happened (Commits n) r ↔ EntryWith (history r) n
unfolding Happened history entry_of after
history_commits start n = (λ x. absurd x, λ x. absurd (Memᴰ.not-nil x.1))
history_commits (call r c) n = go (notes_of r c) (history_commits r n)
  where
    go : Notes (after r) c (answer_to r c) (step (after r) c).table (history r) → Happened (Commits n) r ↔ EntryWith (history r) n
        → (Commits n (after r) c (answer_to r c) ⊎ Happened (Commits n) r) ↔ EntryWith (noted (step (after r) c).table (answer_to r c) (history r)) n
    go (one m x ac nm p) h = rw p (forth, back)
      where
        forth : Commits n (after r) c (answer_to r c) ⊎ Happened (Commits n) r → EntryWith (entry_of (row_of_number (after r) m) ∷ history r) n
        forth (inl z) = (entry_of (row_of_number (after r) m), here refl, nm ∙ (let q : decide m ≡ decide n = cc in cc))
        forth (inr z) = let (e, i, g) = h.0 z in (e, there i, g)

        back : EntryWith (entry_of (row_of_number (after r) m) ∷ history r) n → Commits n (after r) c (answer_to r c) ⊎ Happened (Commits n) r
        back (e, here q, g) = inl (let w : m ≡ n = sym nm ∙ ap (λ (y : Entry). y.number) (sym q) ∙ g in rw w at x)
        back (e, there i, g) = inr (h.1 (e, i, g))
    go (none f p) h = rw p ((λ y. elim y [ inl z ↦ absurd (f n z) | inr z ↦ h.0 z ]), λ y. inr (h.1 y))

abbrev Reported : Run → Entry → Type 0
Reported r e = (s k : ℕ) → 0 < k → (ticket_at e.tickets s ≡ k) ↔ Happened (TakesTicket e.number s k) r

pub history_reported : (r : Run) (e : Entry) → e ∈ history r → Reported r e
unfolding history entry_of after
history_reported start e m = absurd (Memᴰ.not-nil m)
history_reported (call r c) e m = go (notes_of r c) m (history_reported r e)
  where
    -- no ticket is taken for one that is committed
    old : e ∈ history r → Reported r e → Reported (call r c) e
    old i h s k l = later_iff r c (TakesTicket e.number s k) not_now (h s k l)
      where
        not_now : ¬ TakesTicket e.number s k (after r) c (answer_to r c)
        not_now x =
            let (j, ac, nm) = active_of_report (after r) c (answer_to r c) (step (after r) c).table (change_of_run r c) Report.Ticket e.number s (report_of_ticket (after r) c (answer_to r c) e.number s k x) in
            not_committed ac ((rows_follow_run r j (not_free ac)).committed.1 (rw nm ((history_commits r e.number).1 (e, i, refl))))

    go : Notes (after r) c (answer_to r c) (step (after r) c).table (history r) → e ∈ noted (step (after r) c).table (answer_to r c) (history r) → (e ∈ history r → Reported r e) → Reported (call r c) e
    go (none f p) i h = let j : e ∈ history r = rw p at i in old j (h j)
    go (one n x ac nm p) i h = new (rw p at i)
      where
        new : e ∈ (entry_of (row_of_number (after r) n) ∷ history r) → Reported (call r c) e
        new (there j) = old j (h j)
        new (here q) = λ s k l. rw q (later_iff r c (TakesTicket (num (row_of_number (after r) n)) s k) (λ y. never (cc)) ((rows_follow_run r (slot_of (after r) n) (not_free ac)).tickets s k l))
