-- Transactions stand in the slot that they were given, a begin takes the lowest free one, and free slots are zeros. Assumes nothing.
use mathlib.Core.Path.{◌≡◌, sym}
use mathlib.Core.List.{List}
use mathlib.Core.Logic.{◌⊎◌, inl, inr}
use Prim.Native.Nat.{ℕ}
use native.Mathlib.Omega.{arith}
use native.Mathlib.Decide.{ℕ_discrete}
use Rattle.graph.proofs.TestLaws.{true_or_false, true_not_false}
use Rattle.orders.specs.Entries.{Entry}
use Rattle.method.specs.Calls.{CallAnswer}
use Rattle.std.specs.Prelude.{Ok}
use Rattle.method.specs.declared.Number.{Number}
use Rattle.method.specs.declared.Row.{Row}
use Rattle.method.specs.declared.Table.{Table}
use Rattle.method.specs.declared.Answer.{Answer}
use Rattle.method.specs.Records.{past_end, row_at, is_free}
use Rattle.method.specs.Slots.{free_slot}
use Rattle.method.specs.Conditions.{Full}
use Rattle.method.specs.Calls.{Call, rules}
use Rattle.method.specs.Calls.Call.{begin}
use Rattle.method.specs.Effects.{new_row, reported, committed_row, effect, step}
use Rattle.method.proofs.RecordLaws.{never, free_iff}
use Rattle.std.proofs.lemmas.List.Sums.{fails_before_first}
use Rattle.method.proofs.CallLaws.{Steps, Steps.stopped, Steps.passed, step_goes}
use Rattle.runs.specs.Run.{Run, after, answer_to, Begins}
use Rattle.runs.specs.History.{history}
use Rattle.method.specs.Seen.{IsFree, num}
use Rattle.invariant.specs.Invariant.{Invariant}
use Rattle.runs.specs.Placed.{Lowest, Placed}
use Rattle.invariant.proofs.ChangeLaws.{not_free}
use Rattle.invariant.proofs.KnownLaws.{changed}
use Rattle.invariant.proofs.OpenLaws.{begin_slot, free_after_open}
use Rattle.runs.proofs.HistoryLaws.{invariant_run}
use Rattle.runs.proofs.PresentLaws.{change_of_run}
use Rattle.runs.proofs.StepLaws.{Change, Change.refuses, Change.opens, Change.begins, Change.reports, Change.commits, Change.clears}

free_or_not : (r : Row) → IsFree r ⊎ (¬ IsFree r)
free_or_not r = elim (true_or_false (is_free r.state)) [
  | inl e ↦ inl ((free_iff r.state).0 e)
  | inr e ↦ inr (λ f. true_not_false ((free_iff r.state).1 f) e)
]

-- the slot that a begin takes is the lowest that is free
module _ (t : Table) (es : List Entry) (v : Invariant t es) where
  lowest : ¬ Full t → Lowest t (free_slot t)
  unfolding free_slot
  lowest nf =
      let (h, f) = begin_slot t nf in
      record {
        within = omega (arith, h, v.shape.slots);
        free = f;
        below = λ j l g. true_not_false ((free_iff (row_at t j).state).1 g) (fails_before_first (λ (r : Row). is_free r.state) t.rows j past_end l);
      }

  begin_takes : (sites j : ℕ) → ¬ Full t → ¬ IsFree (row_at (effect t (begin sites)).table j) → IsFree (row_at t j) → Lowest t j
  unfolding effect
  begin_takes sites j nf u f = elim (changed t (free_slot t) (new_row t sites) (begin_slot t nf).0 j) [
    | inl e ↦ rw e.0 (lowest nf)
    | inr e ↦ absurd (u (rw e.1 f))
  ]

  takes_lowest : (sites j : ℕ) (n : Number) → (step t (begin sites)).answer ≡ Ok (Answer.Begun n) → ¬ IsFree (row_at (step t (begin sites)).table j) → IsFree (row_at t j) → Lowest t j
  unfolding rules
  takes_lowest sites j n e u f = go (step_goes t (begin sites))
    where
      go : Steps t (begin sites) (step t (begin sites)) → Lowest t j
      go (stopped k g p q) = never (cc)
      go (passed (a, (b, (c, (d, x)))) p) = begin_takes sites j d (rw p at u) f

-- what stands in a slot that was taken is still the same; what stands in one that was free was begun
module _ (t : Table) (c : Call) (a : CallAnswer) (u : Table) (j : ℕ) (used : ¬ IsFree (row_at u j)) where
  same_number : Change t c a u → ¬ IsFree (row_at t j) → num (row_at u j) ≡ num (row_at t j)
  unfolding reported committed_row
  same_number (refuses k e st p) f = rw p
  same_number (opens first floors e f st cl b p) g = absurd (used (rw p (free_after_open first floors j).free))
  same_number (begins sites i e f st nc fr ch l h s) g = elim (ch j) [ inl z ↦ absurd (g (rw z.0 fr)) | inr z ↦ rw z.1 ]
  same_number (reports p n s k i e f st w sm) g = elim (w.changed j) [ inl z ↦ rw (z.1, z.0) | inr z ↦ rw z.1 ]
  same_number (commits n e f st w) g = elim (w.changed j) [ inl z ↦ rw (z.1, z.0) | inr z ↦ rw z.1 ]
  same_number (clears q w sm) g = elim (w.slots j) [ inl z ↦ rw z | inr z ↦ absurd (used (rw z.0)) ]

  begun_there : Change t c a u → IsFree (row_at t j) → (sites : ℕ) × Begins (num (row_at u j)) sites t c a
  unfolding new_row
  begun_there (refuses k e st p) g = absurd (used (rw p g))
  begun_there (opens first floors e f st cl b p) g = absurd (used (rw p (free_after_open first floors j).free))
  begun_there (begins sites i e f st nc fr ch l h s) g = elim (ch j) [ inl z ↦ (sites, rw z.1 (e, f)) | inr z ↦ absurd (used (rw z.1 g)) ]
  begun_there (reports p n s k i e f st w sm) g = elim (w.changed j) [ inl z ↦ absurd (not_free w.active (rw (sym z.0) g)) | inr z ↦ absurd (used (rw z.1 g)) ]
  begun_there (commits n e f st w) g = elim (w.changed j) [ inl z ↦ absurd (not_free w.active (rw (sym z.0) g)) | inr z ↦ absurd (used (rw z.1 g)) ]
  begun_there (clears q w sm) g = elim (w.slots j) [ inl z ↦ absurd (used (rw z g)) | inr z ↦ absurd (used (rw z.0)) ]

pub placed : (r : Run) → Placed r
unfolding after
placed r = record {
  slots = (invariant_run r).shape.slots;
  zeros = (invariant_run r).shape.zeros;
  once = λ i j f g e. elim (ℕ_discrete i j) [
    | yes h ↦ h
    | no h ↦ absurd (((invariant_run r).sound.pairs i j h).numbers (((invariant_run r).sound.rows i).named f) e)
  ];
  given = λ c i u. go c i u (free_or_not (row_at (after r) i));
}
  where
    go : (c : Call) (i : ℕ) → ¬ IsFree (row_at (step (after r) c).table i) → IsFree (row_at (after r) i) ⊎ (¬ IsFree (row_at (after r) i))
        → ((¬ IsFree (row_at (after r) i)) × (num (row_at (step (after r) c).table i) ≡ num (row_at (after r) i)))
        ⊎ (Lowest (after r) i × ((sites : ℕ) × Begins (num (row_at (step (after r) c).table i)) sites (after r) c (answer_to r c)))
    go c i u (inr f) = inl (f, same_number (after r) c (answer_to r c) (step (after r) c).table i u (change_of_run r c) f)
    go c i u (inl f) =
        let (sites, b) = begun_there (after r) c (answer_to r c) (step (after r) c).table i u (change_of_run r c) f in
        inr (takes_lowest (after r) (history r) (invariant_run r) sites i _ (rw b.0 at b.1) (rw b.0 at u) f, (sites, b))
