-- A ticket reported, and a site prepared: one site of one active row is set, and the invariant stays. Assumes nothing.
use mathlib.Core.Path.{◌≡◌, refl, sym, ap, subst, ◌∙◌}
use mathlib.Core.List.{List}
use mathlib.Core.Logic.{◌≢◌, ◌⊎◌, inl, inr}
use Prim.Native.Nat.{ℕ, ◌<◌, ◌≤◌}
use native.Mathlib.Omega.{arith}
use native.Mathlib.Decide.{ℕ_discrete, dec_le}
use lib.ListN.{length, get_or-eq_default}
use Rattle.graph.specs.Lists.{◌∈◌}
use Rattle.graph.proofs.MemberLaws.{member_or_not}
use Rattle.graph.proofs.PlaceLaws.{member_of_place}
use Rattle.orders.specs.Entries.{Entry}
use Rattle.sites.specs.Sites.{sites_of}
use Rattle.sites.proofs.SitesLaws.{lt_of_member}
use Rattle.method.specs.declared.Ticket.{Ticket}
use Rattle.method.specs.declared.State.{State}
use Rattle.method.specs.declared.Report.{Report}
use Rattle.method.specs.declared.Part.{Part}
use Rattle.method.specs.declared.Row.{Row}
use Rattle.method.specs.declared.Table.{Table}
use Rattle.method.specs.Records.{ticket, past_end, row_at, part_at, high_at, with_row}
use Rattle.method.specs.Slots.{slot_of, row_of_number}
use Rattle.method.specs.Conditions.{Closed, Unknown, NotListed, NoStep, NotAbove, Taken}
use Rattle.method.specs.Effects.{reported, effect}
use Rattle.method.specs.Calls.Call.{report_ticket, report_prepared}
use Rattle.method.proofs.RecordLaws.{never}
use Rattle.method.proofs.StageLaws.{not_prepared_of_step}
use Rattle.method.proofs.RowLaws.{ticket_part, reported_same, reported_other, length_reported}
use Rattle.method.specs.Seen.{IsActive, Has, base, tick}
use Rattle.invariant.specs.Invariant.{Invariant}
use Rattle.invariant.proofs.MarkLaws.{Marked, sound_marked}
use Rattle.invariant.proofs.OrderlyLaws.{orderly_changed}
use Rattle.invariant.proofs.ShapeLaws.{shape_set}
use Rattle.invariant.proofs.KnownLaws.{Found, found, changed}

-- what a new ticket may be: the old one, or one at a listed site, above the base
abbrev New : Row → ℕ → ℕ → Type 0
New q s k = (k ≡ tick q s) ⊎ (Has q s × (base q s < k))

module _ (row : ℕ → Row) (i s : ℕ) (p : Report) (k : Ticket) (l : s < length (row i).parts) (new : New (row i) s k.0) where
  abbrev r : Row
  r = reported (row i) s p k

  bases : (u : ℕ) → base r u ≡ base (row i) u
  bases u = go (ℕ_discrete u s)
    where
      go : Dec (u ≡ s) → base r u ≡ base (row i) u
      go (yes e) = rw e (ap (λ (x : Part). x.base.0) (reported_same (row i) s p k l))
      go (no n) = ap (λ (x : Part). x.base.0) (reported_other (row i) s p k u n)

  tickets : (u : ℕ) → New (row i) u (tick r u)
  tickets u = go (ℕ_discrete u s)
    where
      go : Dec (u ≡ s) → New (row i) u (tick r u)
      go (yes e) = rw e (subst (New (row i) s) (sym (ticket_part r s ∙ ap (λ (x : Part). x.ticket.0) (reported_same (row i) s p k l))) new)
      go (no n) = inl (ticket_part r u ∙ ap (λ (x : Part). x.ticket.0) (reported_other (row i) s p k u n) ∙ sym (ticket_part (row i) u))

  -- the same of a ticket that no other slot holds
  apart : (k.0 ≡ tick (row i) s) ⊎ ((j : ℕ) → j ≢ i → k.0 ≢ tick (row j) s)
      → (u : ℕ) → (tick r u ≡ tick (row i) u) ⊎ ((tick r u ≡ 0) ⊎ ((j : ℕ) → j ≢ i → tick r u ≢ tick (row j) u))
  apart a u = go (ℕ_discrete u s) a
    where
      set : tick r s ≡ k.0
      set = ticket_part r s ∙ ap (λ (x : Part). x.ticket.0) (reported_same (row i) s p k l)

      go : Dec (u ≡ s) → (k.0 ≡ tick (row i) s) ⊎ ((j : ℕ) → j ≢ i → k.0 ≢ tick (row j) s)
          → (tick r u ≡ tick (row i) u) ⊎ ((tick r u ≡ 0) ⊎ ((j : ℕ) → j ≢ i → tick r u ≢ tick (row j) u))
      go (yes e) (inl q) = inl (rw e (set ∙ q))
      go (yes e) (inr f) = inr (inr (λ j n. rw e (λ x. f j n (sym set ∙ x))))
      go (no n) q = inl (ticket_part r u ∙ ap (λ (x : Part). x.ticket.0) (reported_other (row i) s p k u n) ∙ sym (ticket_part (row i) u))

  marked : IsActive (row i) → Marked (row i) r
  unfolding reported
  marked a = record { was = a; is = a; number = refl; last = refl; sites = λ u h. h; sites' = λ u h. h; bases = bases; tickets = tickets }

module _ (t : Table) (es : List Entry) (v : Invariant t es) (n s : ℕ) (p : Report)
    (nc : ¬ Closed t) (nu : ¬ Unknown t n) (nl : ¬ NotListed (row_of_number t n) s) (ns : ¬ NoStep (row_of_number t n) s p) where
  abbrev q : Row
  q = row_of_number t n

  abbrev at : ℕ
  at = slot_of t n

  pub has : Has q s
  has = go (member_or_not s (sites_of q.sites))
    where
      go : (s ∈ sites_of q.sites) ⊎ (¬ (s ∈ sites_of q.sites)) → s ∈ sites_of q.sites
      go (inl m) = m
      go (inr m) = absurd (nl m)

  slot : at < length t.rows
  slot = (found t n nu).slot

  pub inside : s < length q.parts
  inside = omega (arith, lt_of_member q.sites has, v.shape.parts at (omega (arith, slot, v.shape.slots)))

  -- a committed one has all its sites prepared, and is done
  pub is_active_lem : IsActive q
  is_active_lem = go q.state refl
    where
      go : (x : State) → q.state ≡ x → IsActive q
      go State.Free e = absurd ((found t n nu).used e)
      go State.Active e = e
      go State.Committed e = absurd (not_prepared_of_step (part_at q s).stage p ns ((v.sound.rows at).prepared e s has))

  invariant_report : (k : Ticket) → New q s k.0 → (k.0 ≡ tick q s) ⊎ ((j : ℕ) → j ≢ at → k.0 ≢ tick (row_at t j) s) → Invariant (with_row t at (reported q s p k)) es
  unfolding reported
  invariant_report k new alone = record {
    shape = shape_set t (with_row t at (reported q s p k)) at (reported q s p k) v.shape slot refl refl v.shape.highs
        (length_reported q s p k ∙ v.shape.parts at (omega (arith, slot, v.shape.slots))) (λ f. let a = is_active_lem in never (cc)) (v.shape.own at);
    sound = sound_marked (changed t at (reported q s p k) slot) (marked (row_at t) at s p k inside new is_active_lem) (high_at t) t.last.0 es v.sound;
    orderly = orderly_changed (changed t at (reported q s p k) slot) (apart (row_at t) at s p k inside new alone) v.orderly;
    shut = λ c. absurd (nc c);
  }

pub above_base : (q : Row) (s k : ℕ) → ¬ NotAbove q s k → base q s < k
above_base q s k n = go (dec_le k (base q s))
  where
    go : Dec (k ≤ base q s) → base q s < k
    go (yes l) = absurd (n l)
    go (no l) = omega arith

pub invariant_ticket : (t : Table) (es : List Entry) (n s k : ℕ) → Invariant t es → ¬ Closed t → ¬ Unknown t n → ¬ NotListed (row_of_number t n) s
    → ¬ NoStep (row_of_number t n) s Report.Ticket → ¬ NotAbove (row_of_number t n) s k → ¬ Taken t n s k → Invariant (effect t (report_ticket n s k)).table es
unfolding effect
invariant_ticket t es n s k v nc nu nl ns na nt =
    invariant_report t es v n s Report.Ticket nc nu nl ns (ticket k) (inr (has t es v n s Report.Ticket nc nu nl ns, high)) (inr other)
  where
    q : Row
    q = row_of_number t n

    high : base q s < k
    high = above_base q s k na

    other : (j : ℕ) → j ≢ slot_of t n → k ≢ tick (row_at t j) s
    other j d e = go (row_at t j).state refl
      where
        f : Found t n
        f = found t n nu

        used : (x : State) → (row_at t j).state ≡ x → x ≢ State.Free → ⊥
        used x p u = nt (
          row_at t j,
          member_of_place t.rows j past_end (in_range (dec_le (length t.rows) j)),
          (λ z. u (sym p ∙ z)),
          (λ z. (v.sound.pairs (slot_of t n) j (λ w. d (sym w))).numbers ((v.sound.rows (slot_of t n)).named f.used) (f.named ∙ sym z)),
          (sym (ticket_part (row_at t j) s) ∙ sym e),
        )
          where
            in_range : Dec (length t.rows ≤ j) → j < length t.rows
            in_range (yes l) = absurd (u (sym p ∙ ap (λ (r : Row). r.state) (get_or-eq_default t.rows past_end l)))
            in_range (no l) = omega arith

        go : (x : State) → (row_at t j).state ≡ x → ⊥
        go State.Free p = omega (arith, (v.sound.rows j).blank p s, high)
        go State.Active p = used State.Active p (λ z. never (cc))
        go State.Committed p = used State.Committed p (λ z. never (cc))

pub invariant_prepared : (t : Table) (es : List Entry) (n s : ℕ) → Invariant t es → ¬ Closed t → ¬ Unknown t n → ¬ NotListed (row_of_number t n) s
    → ¬ NoStep (row_of_number t n) s Report.Prepared → Invariant (effect t (report_prepared n s)).table es
unfolding effect
invariant_prepared t es n s v nc nu nl ns =
    invariant_report t es v n s Report.Prepared nc nu nl ns (part_at (row_of_number t n) s).ticket (inl (sym (ticket_part (row_of_number t n) s))) (inl (sym (ticket_part (row_of_number t n) s)))
