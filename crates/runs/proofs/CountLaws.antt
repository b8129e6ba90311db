-- The highest ticket of each site and the last number, read off the run. Assumes nothing.
use mathlib.Core.Path.{◌≡◌, refl, sym, ap, ◌∙◌}
use mathlib.Core.List.Memᴰ
use mathlib.Core.List.Memᴰ.{head as here}
use mathlib.Core.List.Memᴰ.{tail as behind}
use mathlib.Core.List.{List, [], ◌∷◌}
use mathlib.Core.Logic.{◌⊎◌, inl, inr}
use Prim.Native.Nat.{ℕ, zero, suc, ◌+◌, ◌-◌, ◌<◌, ◌≤◌, max}
use native.Mathlib.Omega.{arith}
use native.Mathlib.Decide.{dec_le}
use native.Mathlib.Nat.{not-suc-le-zero, le_of_suc-le-suc}
use lib.ListN.{length, get_or}
use Rattle.graph.specs.Lists.{◌∈◌}
use Rattle.orders.specs.Arrow.{ticket_at}
use Rattle.orders.specs.Entries.{Entry}
use Rattle.method.specs.Calls.{CallAnswer}
use Rattle.std.specs.Prelude.{Ok}
use Rattle.method.specs.declared.Ticket.{Ticket}
use Rattle.method.specs.declared.Row.{Row}
use Rattle.method.specs.declared.Table.{Table}
use Rattle.method.specs.declared.Answer.{Answer}
use Rattle.method.specs.Records.{number, ticket, high_at}
use Rattle.method.specs.Slots.{slot_of, row_of_number, entry_of}
use Rattle.method.specs.Conditions.{Closed, BadOpening}
use Rattle.method.specs.Calls.{Call}
use Rattle.method.specs.Calls.Call.{open_with, decide}
use Rattle.method.specs.Effects.{padded, opened, step}
use Rattle.method.proofs.RecordLaws.{never}
use Rattle.runs.specs.Run.{Run, Run.start, Run.call, after, answer_to, Happened, Opens, is_begun, begins as begunSoFar}
use Rattle.invariant.specs.Noted.{noted}
use Rattle.runs.specs.History.{history}
use Rattle.method.specs.Seen.{Has, tick}
use Rattle.runs.specs.Follows.{Greatest}
use Rattle.runs.proofs.HistoryLaws.{invariant_run}
use Rattle.runs.proofs.StepLaws.{Change, Change.refuses, Change.opens, Change.begins, Change.reports, Change.commits, Change.clears, Seals}
use Rattle.runs.proofs.EventLaws.{no_report_open}
use Rattle.runs.proofs.CensusLaws.{refused_of_closed}
use Rattle.runs.proofs.PresentLaws.{change_of_run}

floor_at : (k : ℕ) (fs : List ℕ) (s : ℕ) → s < length fs → s < k → get_or (padded k fs) s (ticket 0) ≡ ticket (get_or fs s 0)
unfolding padded
floor_at zero fs s h l = absurd (not-suc-le-zero l)
floor_at (suc k) [] s h l = absurd (not-suc-le-zero h)
floor_at (suc k) (f ∷ fs) zero h l = refl
floor_at (suc k) (f ∷ fs) (suc s) h l = floor_at k fs s (le_of_suc-le-suc h) (le_of_suc-le-suc l)

few_floors : (first : ℕ) (floors : List ℕ) → ¬ BadOpening first floors → length floors ≤ 8
few_floors first floors b = at_most (λ h. b (inr (inl h)))
  where
    at_most : ¬ (8 < length floors) → length floors ≤ 8
    at_most n = omega arith

pub record Counts (r : Run) : Type 0 where
  pub highest : (first : ℕ) (floors : List ℕ) → Happened (Opens first floors) r → (s : ℕ) → s < length floors → Greatest (high_at (after r) s) (get_or floors s 0) (history r) s
  pub sequence : (first : ℕ) (floors : List ℕ) → Happened (Opens first floors) r → (after r).last.0 ≡ first - 1 + begunSoFar r
  pub shut : Closed (after r) → (begunSoFar r ≡ 0) × ((first : ℕ) (floors : List ℕ) → ¬ Happened (Opens first floors) r)

module _ (r : Run) (c : Call) (v : Counts r) where
  abbrev t : Table
  t = after r

  abbrev u : Table
  u = (step (after r) c).table

  abbrev a : CallAnswer
  a = answer_to r c

  -- a step that opens nothing and leaves highest tickets, last number and history as they were
  still : (first : ℕ) (floors : List ℕ) → ¬ Opens first floors t c a → ((s : ℕ) → high_at u s ≡ high_at t s) → noted u a (history r) ≡ history r
      → Happened (Opens first floors) (call r c) → (s : ℕ) → s < length floors → Greatest (high_at u s) (get_or floors s 0) (noted u a (history r)) s
  unfolding Happened
  still first floors n h e (inl x) s l = absurd (n x)
  still first floors n h e (inr x) s l = rw (h s, e) (v.highest first floors x s l)

  raise : (first : ℕ) (floors : List ℕ) (s k : ℕ) (q : Row) → (Has q s × (k ≡ max (high_at t s) (tick q s))) ⊎ ((¬ Has q s) × (k ≡ high_at t s)) → tick q s ≤ k
      → Greatest (high_at t s) (get_or floors s 0) (history r) s → Greatest k (get_or floors s 0) (entry_of q ∷ history r) s
  unfolding entry_of
  raise first floors s k q x own g = record {
    least = omega (arith, up x, g.least);
    all = λ e m. elim (Memᴰ.cases_cons m) [ inl p ↦ rw p own | inr n ↦ omega (arith, up x, g.all e n) ];
    one = one x;
  }
    where
      up : (Has q s × (k ≡ max (high_at t s) (tick q s))) ⊎ ((¬ Has q s) × (k ≡ high_at t s)) → high_at t s ≤ k
      up (inl (m, e)) = omega arith
      up (inr (m, e)) = omega arith

      old : k ≡ high_at t s → (k ≡ get_or floors s 0) ⊎ ((e : Entry) × (e ∈ entry_of q ∷ history r) × (ticket_at e.tickets s ≡ k))
      old p = elim g.one [ inl z ↦ inl (p ∙ z) | inr z ↦ inr (z.0, behind z.1, z.2 ∙ sym p) ]

      one : (Has q s × (k ≡ max (high_at t s) (tick q s))) ⊎ ((¬ Has q s) × (k ≡ high_at t s)) → (k ≡ get_or floors s 0) ⊎ ((e : Entry) × (e ∈ entry_of q ∷ history r) × (ticket_at e.tickets s ≡ k))
      one (inr (m, e)) = old e
      one (inl (m, e)) = elim (dec_le (tick q s) (high_at t s)) [
        | yes l ↦ old (omega arith)
        | no l ↦ inr (entry_of q, here refl, omega arith)
      ]

  opening : (f : ℕ) (fs : List ℕ) → c ≡ open_with f fs → a ≡ Ok Answer.Done → Closed t → ¬ BadOpening f fs → u ≡ opened f fs
      → (first : ℕ) (floors : List ℕ) → Happened (Opens first floors) (call r c) → (s : ℕ) → s < length floors → Greatest (high_at u s) (get_or floors s 0) (noted u a (history r)) s
  unfolding Happened opened
  opening f fs e g cl b p first floors (inr x) s l = absurd ((v.shut cl).1 first floors x)
  opening f fs e g cl b p first floors (inl x) s l =
      let w : open_with f fs ≡ open_with first floors = cc in
      let z : fs ≡ floors = cc in
      let k : high_at u s ≡ get_or floors s 0 =
      ap (λ (y : Table). high_at y s) p ∙ ap (λ (y : List ℕ). (get_or (padded 8 y) s (ticket 0)).0) z
      ∙ ap (λ (y : Ticket). y.0) (floor_at 8 floors s l (omega (arith, few_floors f fs b, ap length z))) in
      rw (g, ((invariant_run r).shut cl).0) (record { least = omega (arith, k); all = λ y m. absurd (Memᴰ.not-nil m); one = inl k })

  committing : (m : ℕ) → c ≡ decide m → a ≡ Ok (Answer.Commit (number m)) → Seals t c a u m
      → (first : ℕ) (floors : List ℕ) → Happened (Opens first floors) (call r c) → (s : ℕ) → s < length floors → Greatest (high_at u s) (get_or floors s 0) (noted u a (history r)) s
  unfolding Happened
  committing m e f w first floors (inl x) s l = never (cc)
  committing m e f w first floors (inr x) s l =
      rw f (rw w.entry (raise first floors s (high_at u s) (row_of_number t m) (w.high s) (own (w.high s)) (v.highest first floors x s l)))
    where
      own : (Has (row_of_number t m) s × (high_at u s ≡ max (high_at t s) (tick (row_of_number t m) s))) ⊎ ((¬ Has (row_of_number t m) s) × (high_at u s ≡ high_at t s)) → tick (row_of_number t m) s ≤ high_at u s
      own (inl (y, z)) = omega arith
      own (inr (y, z)) = elim (dec_le (tick (row_of_number t m) s) 0) [
        | yes k ↦ omega arith
        | no k ↦ absurd (y (((invariant_run r).sound.rows (slot_of t m)).listed s (omega arith)))
      ]

  highest : Change t c a u → (first : ℕ) (floors : List ℕ) → Happened (Opens first floors) (call r c) → (s : ℕ) → s < length floors
      → Greatest (high_at u s) (get_or floors s 0) (noted u a (history r)) s
  highest (refuses k e st p) first floors = still first floors (λ x. never (cc)) (λ s. rw p) (rw e)
  highest (opens f fs e g st cl b p) first floors = opening f fs e g cl b p first floors
  highest (begins sites i e f st nc fr ch l h w) first floors = still first floors (λ x. never (cc)) h (rw f)
  highest (reports p m s k i e f st w sm) first floors = still first floors (λ x. no_report_open t c a first floors x.0 p m s (k, e, f)) sm.high (rw f)
  highest (commits m e f st w) first floors = committing m e f w first floors
  highest (clears q w sm) first floors = still first floors (q.opens first floors) sm.high (q.notes (history r))

  -- numbers: only a begin answered with a number counts, and only an opening starts the count
  steady : (first : ℕ) (floors : List ℕ) → ¬ Opens first floors t c a → is_begun a ≡ 0 → u.last.0 ≡ t.last.0 → Happened (Opens first floors) (call r c)
      → u.last.0 ≡ first - 1 + (begunSoFar r + is_begun a)
  unfolding Happened
  steady first floors n z l (inl x) = absurd (n x)
  steady first floors n z l (inr x) = omega (arith, v.sequence first floors x)

  sequence : Change t c a u → (first : ℕ) (floors : List ℕ) → Happened (Opens first floors) (call r c) → u.last.0 ≡ first - 1 + (begunSoFar r + is_begun a)
  unfolding Happened opened
  sequence (refuses k e st p) first floors x = steady first floors (λ y. never (cc)) (rw e) (rw p) x
  sequence (opens f fs e g st cl b p) first floors (inr x) = absurd ((v.shut cl).1 first floors x)
  sequence (opens f fs e g st cl b p) first floors (inl x) =
      let w : open_with f fs ≡ open_with first floors = cc in
      let z : f ≡ first = cc in
      let k : is_begun a ≡ 0 = rw g in
      omega (arith, ap (λ (y : Table). y.last.0) p, (v.shut cl).0)
  sequence (begins sites i e f st nc fr ch l h w) first floors (inl x) = never (cc)
  sequence (begins sites i e f st nc fr ch l h w) first floors (inr x) = let k : is_begun a ≡ 1 = rw f in omega (arith, v.sequence first floors x)
  sequence (reports p m s k i e f st w sm) first floors x = steady first floors (λ y. no_report_open t c a first floors y.0 p m s (k, e, f)) (rw f) sm.last x
  sequence (commits m e f st w) first floors x = steady first floors (λ y. never (cc)) (rw f) w.last x
  sequence (clears q w sm) first floors x = steady first floors (q.opens first floors) q.counts sm.last x

  shut : Closed u → (begunSoFar r + is_begun a ≡ 0) × ((first : ℕ) (floors : List ℕ) → ¬ Happened (Opens first floors) (call r c))
  unfolding Happened
  shut cl =
      let (k, e, x) = refused_of_closed (after r) (history r) (invariant_run r) c (change_of_run r c) cl in
      let z : is_begun a ≡ 0 = rw e in
      (omega (arith, (v.shut x).0), λ first floors y. elim y [ inl w ↦ never (cc) | inr w ↦ (v.shut x).1 first floors w ])

  counts_call : Counts (call r c)
  unfolding after history begunSoFar
  counts_call = record { highest = highest (change_of_run r c); sequence = sequence (change_of_run r c); shut = shut }

pub counts : (r : Run) → Counts r
unfolding after history begunSoFar Happened
counts start = record { highest = λ f fs x. absurd x; sequence = λ f fs x. absurd x; shut = λ c. (refl, λ f fs x. x) }
counts (call r c) = counts_call r c (counts r)
