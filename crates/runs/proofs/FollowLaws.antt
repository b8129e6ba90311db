-- The table follows the run, and what the paper says of forgetting holds of it. Assumes nothing.
use mathlib.Core.Path.{◌≡◌, refl}
use mathlib.Core.Logic.{◌↔◌, ◌⊎◌, inl, inr}
use Prim.Native.Nat.{ℕ}
use Rattle.method.specs.declared.State.{State}
use Rattle.method.specs.declared.Table.{Table}
use Rattle.method.specs.Records.{past_end, row_at, active}
use Rattle.method.specs.Slots.{active_rows}
use Rattle.method.specs.Conditions.{HeldBack, Unknown}
use Rattle.method.proofs.RecordLaws.{never, active_iff}
use Rattle.method.proofs.SlotLaws.{kept_of_place, place_of_kept}
use Rattle.method.specs.Seen.{Known, Active, Kept, IsFree, IsActive, IsCommitted, num}
use Rattle.runs.specs.Run.{Run, after, Happened, Commits, CommitsBeside, Over, BegunIn}
use Rattle.runs.specs.Follows.{Follows}
use Rattle.invariant.proofs.ChangeLaws.{not_committed, not_free}
use Rattle.invariant.proofs.KnownLaws.{known_iff, unknown_of_not_known}
use Rattle.runs.proofs.PresentLaws.{census, begun_or_not}
use Rattle.runs.proofs.RowsFollowLaws.{rows_follow_run, begun_of_commit}
use Rattle.runs.proofs.CountLaws.{counts}
use Rattle.runs.proofs.BesideLaws.{beside}

pub follows : (r : Run) → Follows r
follows r = record {
  rows = rows_follow_run r;
  present = (census r).present;
  absent = (census r).absent;
  first = (census r).first;
  highest = (counts r).highest;
  sequence = (counts r).sequence;
  beside = λ i j cm ac. beside r i j (λ e. not_committed ac (rw e at cm)) cm ac;
}

module _ (r : Run) where
  abbrev t : Table
  t = after r

  -- the active ones are those begun that are neither committed nor over
  pub active_iff_begun : (n : ℕ) → Active t n ↔ (BegunIn r n × (¬ Happened (Commits n) r) × (¬ Over r n))
  active_iff_begun n = (forth, back)
    where
      forth : Active t n → BegunIn r n × (¬ Happened (Commits n) r) × (¬ Over r n)
      forth (i, ac, e) =
          let k : Known t n = (i, not_free ac, e) in
          ((census r).first n (inl k), (λ x. not_committed ac ((rows_follow_run r i (not_free ac)).committed.1 (rw e x))), λ o. (census r).absent n o k)

      back : BegunIn r n × (¬ Happened (Commits n) r) × (¬ Over r n) → Active t n
      back (b, nc, nov) = elim ((census r).present n b) [ inl k ↦ go k (row_at t k.0).state refl | inr o ↦ absurd (nov o) ]
        where
          go : (k : Known t n) (x : State) → (row_at t k.0).state ≡ x → Active t n
          go (i, f, e) State.Free p = absurd (f p)
          go (i, f, e) State.Active p = (i, p, e)
          go (i, f, e) State.Committed p = absurd (nc (rw e at ((rows_follow_run r i f).committed.0 p)))

  -- the kept ones are those committed that are not over
  pub kept_iff_committed : (n : ℕ) → Kept t n ↔ (Happened (Commits n) r × (¬ Over r n))
  kept_iff_committed n = (forth, back)
    where
      forth : Kept t n → Happened (Commits n) r × (¬ Over r n)
      forth (i, cm, e) =
          let f : ¬ IsFree (row_at t i) = λ z. never (cc) in
          (rw e at ((rows_follow_run r i f).committed.0 cm), λ o. (census r).absent n o (i, f, e))

      back : Happened (Commits n) r × (¬ Over r n) → Kept t n
      back (c, nov) = elim ((census r).present n (begun_of_commit n r c)) [
        | inl k ↦ (k.0, (rows_follow_run r k.0 k.1).committed.1 (rw k.2 c), k.2)
        | inr o ↦ absurd (nov o)
      ]

  -- refusal 2, off the run: never begun, or over
  pub unknown_iff_over : (n : ℕ) → Unknown t n ↔ ((¬ BegunIn r n) ⊎ Over r n)
  unknown_iff_over n = (λ u. forth (λ k. (known_iff t n).0 k u) (begun_or_not r n), λ x. unknown_of_not_known t n (back x))
    where
      forth : ¬ Known t n → BegunIn r n ⊎ (¬ BegunIn r n) → (¬ BegunIn r n) ⊎ Over r n
      forth k (inl b) = elim ((census r).present n b) [ inl x ↦ absurd (k x) | inr o ↦ inr o ]
      forth k (inr b) = inl b

      back : (¬ BegunIn r n) ⊎ Over r n → ¬ Known t n
      back (inl b) k = b ((census r).first n (inl k))
      back (inr o) k = (census r).absent n o k

  -- the paper's words on forgetting (Georgakopoulos, Rusinkiewicz and Sheth, Lemma 1): a row is held back exactly if some
  -- transaction that was active when it committed is not over yet
  pub held_back_iff_beside : (i : ℕ) → IsCommitted (row_at t i) → HeldBack t (row_at t i) ↔ ((m : ℕ) × Happened (CommitsBeside (num (row_at t i)) m) r × Active t m)
  unfolding active_rows
  held_back_iff_beside i cm = (forth, back)
    where
      forth : HeldBack t (row_at t i) → (m : ℕ) × Happened (CommitsBeside (num (row_at t i)) m) r × Active t m
      forth (q, m, l) =
          let (j, h, e, x) = place_of_kept active t.rows past_end m in
          let ac : IsActive (row_at t j) = (active_iff (row_at t j).state).0 (rw e x) in
          (num (row_at t j), ((follows r).beside i j cm ac).0 (rw e l), (j, ac, refl))

      back : (m : ℕ) × Happened (CommitsBeside (num (row_at t i)) m) r × Active t m → HeldBack t (row_at t i)
      back (m, x, (j, ac, e)) = (
        row_at t j,
        kept_of_place active t.rows j past_end refl ((active_iff (row_at t j).state).1 ac),
        ((follows r).beside i j cm ac).1 (rw e x),
      )
