-- Each test of specs/Conditions.antt passes exactly where its condition holds, on every table. Assumes nothing.
use mathlib.Core.Path.{◌≡◌}
use mathlib.Core.Bool.{true, not}
use mathlib.Core.List.{List}
use mathlib.Core.Logic.{◌↔◌, ◌≢◌}
use Prim.Native.Nat.{ℕ, ◌≤◌}
use lib.Dec.{eqb, leb, ltb}
use lib.ListN.{length}
use borrow.Author.Tests.{eqb-true, eq-eqb, leb-true, le-leb, ltb-true, lt-ltb}
use Rattle.graph.specs.Lists.{◌∈◌, any_of, is_nil}
use Rattle.graph.proofs.TestLaws.{iff_not, iff_or, iff_and}
use Rattle.graph.proofs.MemberLaws.{iff_any, iff_nil}
use Rattle.orders.proofs.ArrowLaws.{arrowb→arrow, arrow→arrowb}
use Rattle.sites.specs.Sites.{sites_of, listed, outsideb}
use Rattle.sites.proofs.SitesLaws.{member_of_listed, listed_of_member}
use Rattle.method.specs.declared.State.{State}
use Rattle.method.specs.declared.Stage.{Stage}
use Rattle.method.specs.declared.Report.{Report}
use Rattle.method.specs.declared.Row.{Row}
use Rattle.method.specs.declared.Table.{Table}
use Rattle.method.specs.Records.{part_at, in_use, active, committed, is_free, is_prepared, tickets_of, Goes, goesb}
use Rattle.method.specs.Stages.{step_of}
use Rattle.method.specs.Slots.{has_number, kept, active_rows}
use Rattle.method.specs.Conditions.{Closed, is_closed, BadOpening, bad_opening, Unknown, unknown, BadSites, bad_sites, NotListed, not_listed, NoStep, no_step, NotPrepared, unprepared, not_prepared, NotAbove, not_above, Taken, holds_other, taken, Full, is_full, UsedUp, used_up, HasPred, has_pred, HeldBack, held_back, MayNotForget, may_not_forget}
use Rattle.method.proofs.RecordLaws.{free_iff, active_iff, committed_iff, prepared_iff, none_iff}

eq_iff : (a b : ℕ) → (eqb a b ≡ true) ↔ (a ≡ b)
eq_iff a b = (eqb-true a b, eq-eqb a b)

le_iff : (a b : ℕ) → (leb a b ≡ true) ↔ (a ≤ b)
le_iff a b = (leb-true a b, le-leb a b)

pub in_use_iff : (r : Row) → (in_use r ≡ true) ↔ (r.state ≢ State.Free)
in_use_iff r = iff_not (is_free r.state) (free_iff r.state)

pub has_number_iff : (n : ℕ) (r : Row) → (has_number n r ≡ true) ↔ ((r.state ≢ State.Free) × (r.number.0 ≡ n))
has_number_iff n r = iff_and (in_use r) (eqb r.number.0 n) (in_use_iff r) (eq_iff r.number.0 n)

pub goes_iff : (q r : Row) → (goesb q r ≡ true) ↔ Goes q r
goes_iff q r = (arrowb→arrow (tickets_of q) (tickets_of r), arrow→arrowb (tickets_of q) (tickets_of r))

pub closed_iff : (t : Table) → (is_closed t ≡ true) ↔ Closed t
closed_iff t = eq_iff t.sites 0

pub bad_opening_iff : (first : ℕ) (floors : List ℕ) → (bad_opening first floors ≡ true) ↔ BadOpening first floors
bad_opening_iff first floors = iff_or (eqb (length floors) 0) _ (eq_iff (length floors) 0)
    (iff_or (ltb 8 (length floors)) (eqb first 0) (ltb-true 8 (length floors), lt-ltb 8 (length floors)) (eq_iff first 0))

pub unknown_iff : (t : Table) (n : ℕ) → (unknown t n ≡ true) ↔ Unknown t n
unknown_iff t n =
    let h = iff_not (any_of (has_number n) t.rows) (iff_any (has_number n) (λ r. (r.state ≢ State.Free) × (r.number.0 ≡ n)) (has_number_iff n) t.rows) in
    (λ e r m u p. h.0 e (r, m, (u, p)), λ k. h.1 (λ x. k x.0 x.1 x.2.0 x.2.1))

pub bad_sites_iff : (t : Table) (sites : ℕ) → (bad_sites t sites ≡ true) ↔ BadSites t sites
bad_sites_iff t sites = iff_or (is_nil (sites_of sites)) (outsideb sites t.sites) (iff_nil (sites_of sites))
    (iff_any (leb t.sites) (λ s. t.sites ≤ s) (le_iff t.sites) (sites_of sites))

pub not_listed_iff : (r : Row) (s : ℕ) → (not_listed r s ≡ true) ↔ NotListed r s
not_listed_iff r s = iff_not (listed r.sites s) (member_of_listed r.sites s, listed_of_member r.sites)

pub no_step_iff : (r : Row) (s : ℕ) (p : Report) → (no_step r s p ≡ true) ↔ NoStep r s p
no_step_iff r s p = none_iff (step_of (part_at r s).stage p)

pub unprepared_iff : (r : Row) → (unprepared r ≡ true) ↔ ((s : ℕ) × (s ∈ sites_of r.sites) × ((part_at r s).stage ≢ Stage.Prepared))
unfolding unprepared
unprepared_iff r = iff_any (λ s. not (is_prepared (part_at r s).stage)) (λ s. (part_at r s).stage ≢ Stage.Prepared)
    (λ s. iff_not (is_prepared (part_at r s).stage) (prepared_iff (part_at r s).stage)) (sites_of r.sites)

pub not_active_iff : (r : Row) → (not (active r) ≡ true) ↔ (r.state ≢ State.Active)
not_active_iff r = iff_not (active r) (active_iff r.state)

pub not_committed_iff : (r : Row) → (not (committed r) ≡ true) ↔ (r.state ≢ State.Committed)
not_committed_iff r = iff_not (committed r) (committed_iff r.state)

pub not_prepared_iff : (r : Row) → (not_prepared r ≡ true) ↔ NotPrepared r
not_prepared_iff r = iff_or (not (active r)) (unprepared r) (not_active_iff r) (unprepared_iff r)

pub not_above_iff : (r : Row) (s k : ℕ) → (not_above r s k ≡ true) ↔ NotAbove r s k
not_above_iff r s k = le_iff k (part_at r s).base.0

pub taken_iff : (t : Table) (n s k : ℕ) → (taken t n s k ≡ true) ↔ Taken t n s k
taken_iff t n s k =
    let h = iff_any (holds_other n s k) (λ r. (r.state ≢ State.Free) × ((r.number.0 ≢ n) × ((part_at r s).ticket.0 ≡ k))) each t.rows in
    (λ e. let (r, m, p) = h.0 e in (r, m, p.0, p.1.0, p.1.1), λ x. h.1 (x.0, x.1, (x.2, (x.3, x.4))))
  where
    each : (r : Row) → (holds_other n s k r ≡ true) ↔ ((r.state ≢ State.Free) × ((r.number.0 ≢ n) × ((part_at r s).ticket.0 ≡ k)))
    each r = iff_and (in_use r) _ (in_use_iff r)
        (iff_and (not (eqb r.number.0 n)) (eqb (part_at r s).ticket.0 k) (iff_not (eqb r.number.0 n) (eq_iff r.number.0 n)) (eq_iff (part_at r s).ticket.0 k))

pub full_iff : (t : Table) → (is_full t ≡ true) ↔ Full t
full_iff t =
    let h = iff_not (any_of (λ (r : Row). is_free r.state) t.rows) (iff_any (λ (r : Row). is_free r.state) (λ r. r.state ≡ State.Free) (λ r. free_iff r.state) t.rows) in
    (λ e r m p. h.0 e (r, m, p), λ k. h.1 (λ x. k x.0 x.1 x.2))

pub used_up_iff : (t : Table) → (used_up t ≡ true) ↔ UsedUp t
used_up_iff t = eq_iff t.last.0 4294967295

pub has_pred_iff : (t : Table) (r : Row) → (has_pred t r ≡ true) ↔ HasPred t r
unfolding has_pred
has_pred_iff t r = iff_any (λ q. goesb q r) (λ q. Goes q r) (λ q. goes_iff q r) (kept t)

pub held_back_iff : (t : Table) (r : Row) → (held_back t r ≡ true) ↔ HeldBack t r
unfolding held_back
held_back_iff t r = iff_any (λ a. leb a.number.0 r.last.0) (λ a. a.number.0 ≤ r.last.0) (λ a. le_iff a.number.0 r.last.0) (active_rows t)

pub may_not_forget_iff : (t : Table) (r : Row) → (may_not_forget t r ≡ true) ↔ MayNotForget t r
may_not_forget_iff t r = iff_or (has_pred t r) (held_back t r) (has_pred_iff t r) (held_back_iff t r)
