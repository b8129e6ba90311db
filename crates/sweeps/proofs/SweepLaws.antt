-- What a sweep does slot by slot, and what its graph says. Assumes nothing.
use mathlib.Core.Path.{◌≡◌, refl, sym, ap, ◌∙◌}
use mathlib.Core.Bool.{Bool, true, false, not, cond, ◌&&◌}
use mathlib.Core.List.{List, [], ◌∷◌, map, ◌++◌, append-nil}
use mathlib.Core.Logic.{◌↔◌}
use Prim.Native.Nat.{ℕ, zero, suc, ◌+◌, ◌<◌, ◌≤◌}
use native.Mathlib.Omega.{arith}
use lib.ListN.{length, get_or, set, take, drop, drop_of_length-le}
use lib.Seq.{take_all, length-take-le}
use borrow.Author.Tests.{eq-eqb, ne_eqb}
use Rattle.std.specs.Prelude.{Ok, Err}
use Rattle.refusals.specs.declared.Refusal.{Refusal}
use Rattle.graph.proofs.TestLaws.{and_of_both, both_of_and, same_of_iff}
use Rattle.std.proofs.lemmas.List.{get_or_default}
use Rattle.std.proofs.lemmas.List.Edits.{map_over_more}
use Rattle.std.proofs.lemmas.List.Filters.{length-filter_more}
use Rattle.graph.proofs.MemberLaws.{length_keep_le}
use Rattle.graph.proofs.LeftLaws.{keep_keep}
use Rattle.std.specs.Prelude.{None}
use Rattle.orders.specs.Arrow.{Tickets}
use Rattle.paths.specs.Paths.{Marked, TellsReached}
use Rattle.paths.specs.Slotted.{MarkedAs}
use Rattle.paths.proofs.SlottedLaws.{reached_of_answer}
use Rattle.kept.specs.Aligned.{Aligned}
use Rattle.kept.proofs.AlignedLaws.{In, slotted_kept}
use Rattle.graph.specs.Lists.{keep}
use Rattle.method.specs.declared.Row.{Row}
use Rattle.method.specs.declared.Table.{Table}
use Rattle.method.specs.declared.Answer.{Answer}
use Rattle.method.specs.Records.{committed, past_end, free_row, row_at, tickets_of, with_rows}
use Rattle.method.specs.Slots.{kept}
use Rattle.method.specs.Calls.Call.{sweep}
use Rattle.method.specs.Effects.{answered, stays, swept_row, swept_count, effect, step}
use Rattle.method.specs.Conditions.{HeldBack, held_back}
use Rattle.method.specs.Calls.{checks}
use Rattle.method.proofs.CheckLaws.{refused_step, passed_step}
use Rattle.method.proofs.ConditionLaws.{held_back_iff}
use Rattle.method.proofs.GraphLaws.{stays_iff}
use Rattle.sweeps.specs.Marks.{HeldMarks, StayMarks}

-- a row that goes, as the sweep of the table has it
abbrev pub goes_in : Table → Row → Bool
goes_in t r = committed r && not (stays t r)

-- the rows after i of them were looked at, and how many of those went
abbrev pub swept_front : Table → ℕ → List Row
swept_front t i = map (swept_row t) (take i t.rows) ++ drop i t.rows

abbrev pub gone_front : Table → ℕ → ℕ
gone_front t i = length (keep (goes_in t) (take i t.rows))

-- the row at i is still as it was
row_in_front : (f : Row → Row) (rows : List Row) (i : ℕ) (d : Row) → get_or (map f (take i rows) ++ drop i rows) i d ≡ get_or rows i d
row_in_front f [] zero d = refl
row_in_front f [] (suc i) d = refl
row_in_front f (r ∷ rows) zero d = refl
row_in_front f (r ∷ rows) (suc i) d = row_in_front f rows i d

module _ (t : Table) (i : ℕ) where
  pub row_now : (d : Row) → get_or (swept_front t i) i d ≡ get_or t.rows i d
  row_now d = row_in_front (swept_row t) t.rows i d

  module _ (l : length t.rows ≡ 32) (h : i < 32) where
    front_more : set (swept_front t i) i (swept_row t (row_at t i)) ≡ swept_front t (i + 1)
    front_more =
        let u : i < length t.rows = omega arith in
        map_over_more (swept_row t) t.rows (swept_front t i) i (row_at t i) u refl (get_or_default t.rows i past_end (row_at t i) u ∙ sym (row_now (row_at t i)))

    pub gone_few : gone_front t i ≤ i
    gone_few = omega (arith, length_keep_le (goes_in t) (take i t.rows), length-take-le i t.rows (omega arith))

    count_more : gone_front t (i + 1) ≡ gone_front t i + cond (goes_in t (row_at t i)) 1 0
    count_more = length-filter_more (goes_in t) t.rows i past_end (omega arith)

    -- one row more, by its mark: it goes and is counted, or stays
    module _ (marks : List Bool) (m : StayMarks t marks) where
      goes_of_mark : committed (row_at t i) && not (get_or marks i false) ≡ goes_in t (row_at t i)
      goes_of_mark = go (committed (row_at t i)) (m.each i h)
        where
          go : (a : Bool) → (a ≡ true → get_or marks i false ≡ stays t (row_at t i)) → a && not (get_or marks i false) ≡ a && not (stays t (row_at t i))
          go true e = ap not (e refl)
          go false e = refl

      pub row_goes : committed (row_at t i) && not (get_or marks i false) ≡ true
          → (set (swept_front t i) i free_row ≡ swept_front t (i + 1)) × (gone_front t i + 1 ≡ gone_front t (i + 1))
      unfolding swept_row
      row_goes e = let g = sym goes_of_mark ∙ e in (rw g at front_more, sym (rw g at count_more))

      pub row_stays : committed (row_at t i) && not (get_or marks i false) ≡ false
          → (set (swept_front t i) i (get_or (swept_front t i) i past_end) ≡ swept_front t (i + 1)) × (gone_front t i ≡ gone_front t (i + 1))
      unfolding swept_row
      row_stays e = let g = sym goes_of_mark ∙ e in (ap (set (swept_front t i) i) (row_now past_end) ∙ rw g at front_more, omega (arith, rw g at count_more))

-- all of them
pub swept_all : (t u : Table) (n i : ℕ) → length t.rows ≡ 32 → 32 ≤ i → u ≡ with_rows t (swept_front t i) → n ≡ gone_front t i → answered u (Ok (Answer.Swept n)) ≡ effect t sweep
unfolding effect swept_count kept
swept_all t u n i l h e f =
    let a : take i t.rows ≡ t.rows = take_all i t.rows (omega arith) in
    let g : length t.rows ≤ i = omega arith in
    let d : drop i t.rows ≡ [] = drop_of_length-le t.rows g in
    rw (e, f, a, d, append-nil (map (swept_row t) t.rows), keep_keep committed (λ r. not (stays t r)) (goes_in t) (λ r. refl) t.rows)

module _ (t : Table) where
  pub sweep_closed : t.sites ≡ 0 → step t sweep ≡ answered t (Err Refusal.NotOpen)
  unfolding checks
  sweep_closed e = refused_step t sweep (tt {0}) (rw (eq-eqb t.sites 0 e))

  pub sweep_open : (t.sites ≡ 0 → ⊥) → step t sweep ≡ effect t sweep
  unfolding checks
  sweep_open z = (passed_step t sweep (tt {0}) {v = tt {0}} (rw (ne_eqb t.sites 0 z))).0

  -- the graph's answer marks the kept rows that stay
  module _ (l : length t.rows ≡ 32) (slots : List Tickets) (al : Aligned t None slots) (marks : List Bool) (hm : HeldMarks t marks) where
    marked : MarkedAs (HeldBack t) (In t None) marks
    marked = record { row = row; slot = slot }
      where
        row : (i : ℕ) (a : Row) → In t None i a → Marked marks i ↔ HeldBack t a
        row i a (h, e, p) = (
          λ m. (held_back_iff t a).0 (rw e at (both_of_and (committed (row_at t i)) _ (sym (hm.each i h) ∙ m)).1),
          λ b. hm.each i h ∙ and_of_both p (rw e ((held_back_iff t a).1 b)),
        )

        slot : (i : ℕ) → i < 32 → Marked marks i → (a : Row) × In t None i a
        slot i h m = (row_at t i, (h, refl, (both_of_and (committed (row_at t i)) (held_back t (row_at t i)) (sym (hm.each i h) ∙ m)).0))

    pub stay_marks : (found : List Bool) → TellsReached slots marks found → StayMarks t found
    stay_marks found tells = record { size = tells.size; each = each }
      where
        each : (i : ℕ) → i < 32 → committed (row_at t i) ≡ true → get_or found i false ≡ stays t (row_at t i)
        each i h e =
            let w : In t None i (row_at t i) = (h, refl, e) in
            let r = reached_of_answer tickets_of (kept t) (In t None) slots (slotted_kept t l slots al) (HeldBack t) marks marked found tells i (row_at t i) h w in
            let q = stays_iff t (row_at t i) ((slotted_kept t l slots al).row i (row_at t i) w).0 in
            same_of_iff (get_or found i false) (stays t (row_at t i)) (λ m. q.1 (r.0 m)) (λ m. r.1 (q.0 m))
