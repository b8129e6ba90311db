-- Forgetting in the paper's words (Georgakopoulos, Rusinkiewicz and Sheth, Lemma 1): a kept one is forgotten exactly if no kept one has an
-- arrow to it and each that was active when it committed is committed or over by now. Assumes nothing.
use mathlib.Core.Path.{◌≡◌, refl, ap}
use mathlib.Core.Logic.{◌↔◌, ◌⊎◌, inl, inr}
use Prim.Native.Nat.{ℕ}
use native.Mathlib.Decide.{ℕ_discrete}
use Rattle.refusals.specs.declared.Refusal.{Refusal}
use Rattle.std.specs.Prelude.{Ok}
use Rattle.method.specs.declared.State.{State}
use Rattle.method.specs.declared.Row.{Row}
use Rattle.method.specs.declared.Table.{Table}
use Rattle.method.specs.declared.Answer.{Answer}
use Rattle.method.specs.declared.Answered.{Answered}
use Rattle.method.specs.Records.{row_at}
use Rattle.method.specs.Slots.{slot_of, row_of_number}
use Rattle.method.specs.Conditions.{Closed, Unknown, HasPred, HeldBack}
use Rattle.method.specs.Calls.{rules}
use Rattle.method.specs.Calls.Call.{forget}
use Rattle.method.specs.Effects.{step}
use Rattle.method.proofs.RecordLaws.{never}
use Rattle.method.proofs.CallLaws.{Steps, Steps.stopped, Steps.passed, step_goes}
use Rattle.method.specs.Seen.{Known, Active, Kept, IsFree, IsCommitted}
use Rattle.runs.specs.Run.{Run, after, answer_to, Happened, Commits, CommitsBeside, Over}
use Rattle.runs.specs.History.{history}
use Rattle.invariant.proofs.ChangeLaws.{not_free}
use Rattle.runs.proofs.HistoryLaws.{invariant_run}
use Rattle.invariant.proofs.KnownLaws.{found, known_iff}
use Rattle.invariant.proofs.StandingLaws.{one_slot, closed_free}
use Rattle.runs.proofs.PresentLaws.{census}
use Rattle.runs.proofs.RowsFollowLaws.{rows_follow_run, begun_of_happened}
use Rattle.runs.proofs.FollowLaws.{active_iff_begun, held_back_iff_beside}
use Rattle.runs.proofs.ExactlyLaws.{forgets_exactly}

-- a forget is done exactly under its condition
module _ (t : Table) (n : ℕ) (nc : ¬ Closed t) (nu : ¬ Unknown t n) (cm : IsCommitted (row_of_number t n)) where
  pub forget_done_iff : ((step t (forget n)).answer ≡ Ok Answer.Done) ↔ ((¬ HasPred t (row_of_number t n)) × (¬ HeldBack t (row_of_number t n)))
  unfolding rules
  forget_done_iff = (λ e. forth e (step_goes t (forget n)), λ f. ap (λ (a : Answered Table Refusal). a.answer) ((forgets_exactly t n nc nu cm).1 f))
    where
      forth : (step t (forget n)).answer ≡ Ok Answer.Done → Steps t (forget n) (step t (forget n)) → (¬ HasPred t (row_of_number t n)) × (¬ HeldBack t (row_of_number t n))
      forth e (stopped k f p q) = never (cc)
      forth e (passed (a, (b, (c, (d, x)))) p) = (λ h. d (inl h), λ h. d (inr h))

module _ (r : Run) (n : ℕ) (k : Kept (after r) n) where
  abbrev t : Table
  t = after r

  abbrev q : Row
  q = row_of_number t n

  in_use : ¬ IsFree (row_at t k.0)
  in_use z = let c = k.1 in never (cc)

  known : ¬ Unknown t n
  known = (known_iff t n).0 (k.0, in_use, k.2)

  pub open_of_kept : ¬ Closed t
  open_of_kept cl = in_use (closed_free t (history r) (invariant_run r) cl k.0)

  pub committed_of_kept : IsCommitted q
  committed_of_kept = elim (ℕ_discrete (slot_of t n) k.0) [
    | yes e ↦ rw e k.1
    | no d ↦ absurd (let f = found t n known in one_slot t (history r) (invariant_run r) k.0 (slot_of t n) n d in_use f.used k.2 f.named)
  ]

  held_iff : HeldBack t q ↔ ((m : ℕ) × Happened (CommitsBeside n m) r × Active t m)
  held_iff = rw (found t n known).named at (held_back_iff_beside r (slot_of t n) committed_of_kept)

  -- whoever was active at the commit is committed or over, or active still
  settled : (m : ℕ) → Happened (CommitsBeside n m) r → Active t m ⊎ (Happened (Commits m) r ⊎ Over r m)
  settled m x = elim ((census r).present m (begun_of_happened (CommitsBeside n m) m (λ t c a u d p. (p.1.0, not_free p.1.1, p.1.2)) r x)) [
    | inl y ↦ go y (row_at t y.0).state refl
    | inr o ↦ inr (inr o)
  ]
    where
      go : (y : Known t m) (z : State) → (row_at t y.0).state ≡ z → Active t m ⊎ (Happened (Commits m) r ⊎ Over r m)
      go (j, f, e) State.Free p = absurd (f p)
      go (j, f, e) State.Active p = inl (j, p, e)
      go (j, f, e) State.Committed p = inr (inl (rw e at ((rows_follow_run r j f).committed.0 p)))

  pub forgotten_iff_paper : (answer_to r (forget n) ≡ Ok Answer.Done) ↔ ((¬ HasPred t q) × ((m : ℕ) → Happened (CommitsBeside n m) r → Happened (Commits m) r ⊎ Over r m))
  forgotten_iff_paper = (
    λ e. let f = iff.0 e in (f.0, λ m x. elim (settled m x) [ inl y ↦ absurd (f.1 (held_iff.1 (m, x, y))) | inr y ↦ y ]),
    λ f. iff.1 (f.0, λ h. let (m, x, y) = held_iff.0 h in let (b, c, o) = (active_iff_begun r m).0 y in elim (f.1 m x) [ inl z ↦ c z | inr z ↦ o z ]),
  )
    where
      iff : (answer_to r (forget n) ≡ Ok Answer.Done) ↔ ((¬ HasPred t q) × (¬ HeldBack t q))
      iff = forget_done_iff t n open_of_kept known committed_of_kept
