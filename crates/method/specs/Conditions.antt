-- What each refusal looks at: the condition in the words of RULES, Refusals, and beside it the test that computes it.
-- proofs/ConditionLaws.antt joins each pair both ways, on every table.
use Rattle.std.specs.Prelude.{◌≡◌, Bool, not, None, is_none, ◌&&◌, ◌||◌, List, [], ◌≢◌, ◌⊎◌, ℕ, ◌<◌, ◌≤◌, eqb, leb, ltb, length}
use Rattle.graph.specs.Lists.{◌∈◌, any_of, is_nil}
use Rattle.sites.specs.Sites.{sites_of, listed, Outside, outsideb}
use Rattle.method.specs.declared.Stage.{Stage}
use Rattle.method.specs.declared.State.{State}
use Rattle.method.specs.declared.Report.{Report}
use Rattle.method.specs.declared.Row.{Row}
use Rattle.method.specs.declared.Table.{Table}
use Rattle.method.specs.Records.{part_at, is_free, in_use, active, is_prepared, Goes, goesb}
use Rattle.method.specs.Stages.{step_of}
use Rattle.method.specs.Slots.{has_number, kept, active_rows}

-- 1: the table is closed
abbrev pub Closed : Table → Type 0
Closed t = t.sites ≡ 0

abbrev pub is_closed : Table → Bool
is_closed t = eqb t.sites 0

-- 1: no floors, over 8 floors, or first number 0
abbrev pub BadOpening : ℕ → List ℕ → Type 0
BadOpening first floors = (length floors ≡ 0) ⊎ ((8 < length floors) ⊎ (first ≡ 0))

abbrev pub bad_opening : ℕ → List ℕ → Bool
bad_opening first floors = eqb (length floors) 0 || (ltb 8 (length floors) || eqb first 0)

-- 2: no row in use has the number
abbrev pub Unknown : Table → ℕ → Type 0
Unknown t n = (r : Row) → r ∈ t.rows → r.state ≢ State.Free → r.number.0 ≢ n

abbrev pub unknown : Table → ℕ → Bool
unknown t n = not (any_of (has_number n) t.rows)

-- 3: an empty site list, or a site that the table lacks
abbrev pub BadSites : Table → ℕ → Type 0
BadSites t sites = (sites_of sites ≡ []) ⊎ Outside sites t.sites

abbrev pub bad_sites : Table → ℕ → Bool
bad_sites t sites = is_nil (sites_of sites) || outsideb sites t.sites

-- 3: a site that is not in the transaction's list
abbrev pub NotListed : Row → ℕ → Type 0
NotListed r s = ¬ (s ∈ sites_of r.sites)

abbrev pub not_listed : Row → ℕ → Bool
not_listed r s = not (listed r.sites s)

-- 4: the stage table has no step for the report
abbrev pub NoStep : Row → ℕ → Report → Type 0
NoStep r s p = step_of (part_at r s).stage p ≡ None

abbrev pub no_step : Row → ℕ → Report → Bool
no_step r s p = is_none (step_of (part_at r s).stage p)

-- 4: it is not active, or some site of it is not prepared
abbrev pub NotPrepared : Row → Type 0
NotPrepared r = (r.state ≢ State.Active) ⊎ ((s : ℕ) × (s ∈ sites_of r.sites) × ((part_at r s).stage ≢ Stage.Prepared))

unfoldable pub unprepared : Row → Bool
unprepared r = any_of (λ s. not (is_prepared (part_at r s).stage)) (sites_of r.sites)

abbrev pub not_prepared : Row → Bool
not_prepared r = not (active r) || unprepared r

-- 5: the ticket is not above the base
abbrev pub NotAbove : Row → ℕ → ℕ → Type 0
NotAbove r s k = k ≤ (part_at r s).base.0

abbrev pub not_above : Row → ℕ → ℕ → Bool
not_above r s k = leb k (part_at r s).base.0

-- 6: another transaction in the table holds the ticket at the site
abbrev pub Taken : Table → ℕ → ℕ → ℕ → Type 0
Taken t n s k = (r : Row) × (r ∈ t.rows) × (r.state ≢ State.Free) × (r.number.0 ≢ n) × ((part_at r s).ticket.0 ≡ k)

abbrev pub holds_other : ℕ → ℕ → ℕ → Row → Bool
holds_other n s k r = in_use r && (not (eqb r.number.0 n) && eqb (part_at r s).ticket.0 k)

abbrev pub taken : Table → ℕ → ℕ → ℕ → Bool
taken t n s k = any_of (holds_other n s k) t.rows

-- 7: all slots are taken
abbrev pub Full : Table → Type 0
Full t = (r : Row) → r ∈ t.rows → r.state ≢ State.Free

abbrev pub is_full : Table → Bool
is_full t = not (any_of (λ (r : Row). is_free r.state) t.rows)

-- 8: the last number begun is the last one there is
abbrev pub UsedUp : Table → Type 0
UsedUp t = t.last.0 ≡ 4294967295

abbrev pub used_up : Table → Bool
used_up t = eqb t.last.0 4294967295

-- 9: a kept committed one has an arrow to it, or an active one has a number at or below the last recorded at its commit
abbrev pub HasPred : Table → Row → Type 0
HasPred t r = (q : Row) × (q ∈ kept t) × Goes q r

unfoldable pub has_pred : Table → Row → Bool
has_pred t r = any_of (λ q. goesb q r) (kept t)

abbrev pub HeldBack : Table → Row → Type 0
HeldBack t r = (a : Row) × (a ∈ active_rows t) × (a.number.0 ≤ r.last.0)

unfoldable pub held_back : Table → Row → Bool
held_back t r = any_of (λ a. leb a.number.0 r.last.0) (active_rows t)

abbrev pub MayNotForget : Table → Row → Type 0
MayNotForget t r = HasPred t r ⊎ HeldBack t r

abbrev pub may_not_forget : Table → Row → Bool
may_not_forget t r = has_pred t r || held_back t r
