-- The numbers that the table knows are those that were begun and are not over, after every run. Assumes nothing.
use mathlib.Core.Path.{◌≡◌, refl, ap}
use mathlib.Core.List.{[]}
use mathlib.Core.Logic.{◌⊎◌, inl, inr}
use Prim.Native.Nat.{ℕ, ◌<◌, ◌≤◌}
use native.Mathlib.Omega.{arith}
use native.Mathlib.Decide.{ℕ_discrete}
use Rattle.method.specs.Calls.{CallAnswer}
use Rattle.std.specs.Prelude.{Ok, Err}
use Rattle.method.specs.declared.Number.{Number}
use Rattle.method.specs.declared.Table.{Table}
use Rattle.method.specs.declared.Answer.{Answer}
use Rattle.method.specs.Conditions.{Closed}
use Rattle.method.specs.Records.{number, closed}
use Rattle.method.specs.Calls.{Call}
use Rattle.method.specs.Calls.Call.{open_with, begin, report_ticket, report_prepared, abort, decide, forget, sweep}
use Rattle.method.specs.Effects.{step}
use Rattle.method.proofs.RecordLaws.{never}
use Rattle.method.specs.Seen.{Known}
use Rattle.runs.specs.Run.{Run, Run.start, Run.call, after, answer_to, Happened, Begins, Aborts, Forgets, Over, BegunIn}
use Rattle.runs.specs.History.{history}
use Rattle.invariant.specs.Invariant.{Invariant}
use Rattle.invariant.proofs.OpenLaws.{invariant_closed}
use Rattle.invariant.proofs.StandingLaws.{closed_free}
use Rattle.runs.proofs.HistoryLaws.{invariant_run}
use Rattle.runs.proofs.StepLaws.{Change, change_of_step}
use Rattle.runs.proofs.CensusLaws.{known_forth, known_back, known_of_leaves, begins_next, last_grows, refused_of_closed}

pub change_of_run : (r : Run) (c : Call) → Change (after r) c (step (after r) c).answer (step (after r) c).table
change_of_run r c = change_of_step (after r) (history r) (invariant_run r) c

pub record Census (r : Run) : Type 0 where
  pub present : (n : ℕ) → BegunIn r n → Known (after r) n ⊎ Over r n
  pub absent : (n : ℕ) → Over r n → ¬ Known (after r) n
  pub first : (n : ℕ) → Known (after r) n ⊎ Over r n → BegunIn r n
  pub counted : (n : ℕ) → BegunIn r n → (0 < n) × (n ≤ (after r).last.0)
  pub shut : Closed (after r) → (n : ℕ) → ¬ BegunIn r n

census_start : Census start
unfolding after Happened
census_start = record {
  present = λ n b. absurd b.1;
  absent = λ n o. absurd (never_over n o);
  first = λ n k. absurd (elim k [ inl x ↦ x.1 (closed_free closed [] invariant_closed refl x.0) | inr o ↦ never_over n o ]);
  counted = λ n b. absurd b.1;
  shut = λ c n b. b.1;
}
  where
    never_over : (n : ℕ) → ¬ Over start n
    never_over n (inl x) = x
    never_over n (inr x) = x

module _ (r : Run) (c : Call) (v : Census r) where
  abbrev i : Invariant (after r) (history r)
  i = invariant_run r

  abbrev ch : Change (after r) c (step (after r) c).answer (step (after r) c).table
  ch = change_of_run r c

  begun_later : (n : ℕ) → BegunIn r n → BegunIn (call r c) n
  unfolding Happened
  begun_later n (sites, b) = (sites, inr b)

  over_later : (n : ℕ) → Over r n → Over (call r c) n
  unfolding Happened
  over_later n (inl x) = inl (inr x)
  over_later n (inr x) = inr (inr x)

  over_now : (n : ℕ) → Aborts n (after r) c (answer_to r c) ⊎ Forgets n (after r) c (answer_to r c) → Over (call r c) n
  unfolding Happened
  over_now n (inl x) = inl (inl x)
  over_now n (inr x) = inr (inl x)

  over_cases : (n : ℕ) → Over (call r c) n → (Aborts n (after r) c (answer_to r c) ⊎ Forgets n (after r) c (answer_to r c)) ⊎ Over r n
  unfolding Happened
  over_cases n (inl (inl x)) = inl (inl x)
  over_cases n (inl (inr x)) = inr (inl x)
  over_cases n (inr (inl x)) = inl (inr x)
  over_cases n (inr (inr x)) = inr (inr x)

  present : (n : ℕ) → BegunIn (call r c) n → Known (after (call r c)) n ⊎ Over (call r c) n
  unfolding Happened after
  present n (sites, inl b) = inl (begins_next (after r) (history r) i c ch n sites b).2
  present n (sites, inr b) = go (v.present n (sites, b))
    where
      go : Known (after r) n ⊎ Over r n → Known (step (after r) c).table n ⊎ Over (call r c) n
      go (inl k) = elim (known_forth (after r) (history r) i c ch n k) [ inl x ↦ inl x | inr x ↦ inr (over_now n x) ]
      go (inr o) = inr (over_later n o)

  absent : (n : ℕ) → Over (call r c) n → ¬ Known (after (call r c)) n
  unfolding after
  absent n o k = go (over_cases n o) (known_back (after r) (history r) i c ch n k)
    where
      go : (Aborts n (after r) c (answer_to r c) ⊎ Forgets n (after r) c (answer_to r c)) ⊎ Over r n → Known (after r) n ⊎ ((sites : ℕ) × Begins n sites (after r) c (answer_to r c)) → ⊥
      go (inl x) y = (known_of_leaves (after r) (history r) i c ch n x).1 k
      go (inr x) (inl y) = v.absent n x y
      go (inr x) (inr (sites, b)) = omega (arith, (begins_next (after r) (history r) i c ch n sites b).0, (v.counted n (v.first n (inr x))).1)

  first : (n : ℕ) → Known (after (call r c)) n ⊎ Over (call r c) n → BegunIn (call r c) n
  unfolding after Happened
  first n (inl k) = elim (known_back (after r) (history r) i c ch n k) [
    | inl x ↦ begun_later n (v.first n (inl x))
    | inr x ↦ (x.0, inl x.1)
  ]
  first n (inr o) = elim (over_cases n o) [
    | inl x ↦ begun_later n (v.first n (inl (known_of_leaves (after r) (history r) i c ch n x).0))
    | inr x ↦ begun_later n (v.first n (inr x))
  ]

  counted : (n : ℕ) → BegunIn (call r c) n → (0 < n) × (n ≤ (after (call r c)).last.0)
  unfolding after Happened
  counted n (sites, inl b) = let (e, l, k) = begins_next (after r) (history r) i c ch n sites b in (omega arith, omega arith)
  counted n (sites, inr b) = let (p, l) = v.counted n (sites, b) in (p, omega (arith, last_grows (after r) (history r) i c ch))

  shut : Closed (after (call r c)) → (n : ℕ) → ¬ BegunIn (call r c) n
  unfolding after Happened
  shut cl n (sites, inl b) = let (k, e, x) = refused_of_closed (after r) (history r) i c ch cl in never (cc)
  shut cl n (sites, inr b) = let (k, e, x) = refused_of_closed (after r) (history r) i c ch cl in v.shut x n (sites, b)

  census_call : Census (call r c)
  census_call = record { present = present; absent = absent; first = first; counted = counted; shut = shut }

pub census : (r : Run) → Census r
census start = census_start
census (call r c) = census_call r c (census r)

-- whether a number was begun can be told
begins_or_not : (t : Table) (c : Call) (a : CallAnswer) (n : ℕ) → ((sites : ℕ) × Begins n sites t c a) ⊎ (¬ ((sites : ℕ) × Begins n sites t c a))
begins_or_not t (open_with f fs) a n = inr (λ b. let e = b.1.0 in never (cc))
begins_or_not t (begin x) (Ok Answer.Done) n = inr (λ b. let e = b.1.1 in never (cc))
begins_or_not t (begin x) (Ok (Answer.Begun m)) n = elim (ℕ_discrete m.0 n) [
  | yes e ↦ inl (x, (refl, λ z. Ok (Answer.Begun (record { 0 = e z }))))
  | no e ↦ inr (λ b. e (let f = b.1.1 in let g : m ≡ number n = cc in ap (λ (k : Number). k.0) g))
]
begins_or_not t (begin x) (Ok (Answer.Commit m)) n = inr (λ b. let e = b.1.1 in never (cc))
begins_or_not t (begin x) (Ok (Answer.Cycle m)) n = inr (λ b. let e = b.1.1 in never (cc))
begins_or_not t (begin x) (Ok (Answer.Swept m)) n = inr (λ b. let e = b.1.1 in never (cc))
begins_or_not t (begin x) (Err m) n = inr (λ b. let e = b.1.1 in never (cc))
begins_or_not t (report_ticket m s k) a n = inr (λ b. let e = b.1.0 in never (cc))
begins_or_not t (report_prepared m s) a n = inr (λ b. let e = b.1.0 in never (cc))
begins_or_not t (abort m) a n = inr (λ b. let e = b.1.0 in never (cc))
begins_or_not t (decide m) a n = inr (λ b. let e = b.1.0 in never (cc))
begins_or_not t (forget m) a n = inr (λ b. let e = b.1.0 in never (cc))
begins_or_not t sweep a n = inr (λ b. let e = b.1.0 in never (cc))

pub begun_or_not : (r : Run) (n : ℕ) → BegunIn r n ⊎ (¬ BegunIn r n)
unfolding Happened
begun_or_not start n = inr (λ b. b.1)
begun_or_not (call r c) n = go (begins_or_not (after r) c (answer_to r c) n) (begun_or_not r n)
  where
    go : ((sites : ℕ) × Begins n sites (after r) c (answer_to r c)) ⊎ (¬ ((sites : ℕ) × Begins n sites (after r) c (answer_to r c))) → BegunIn r n ⊎ (¬ BegunIn r n)
        → BegunIn (call r c) n ⊎ (¬ BegunIn (call r c) n)
    go (inl b) y = inl (b.0, inl b.1)
    go (inr f) (inl b) = inl (b.0, inr b.1)
    go (inr f) (inr g) = inr (λ b. elim b.1 [ inl x ↦ f (b.0, x) | inr x ↦ g (b.0, x) ])
