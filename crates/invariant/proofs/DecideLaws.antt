-- A decision keeps the invariant: commit, if the candidate fits, and it does if it makes no cycle with the kept rows; else its slot is
-- freed.
-- Assumes nothing.
use mathlib.Core.Path.{◌≡◌, sym, refl, ap, subst, ◌∙◌}
use mathlib.Core.Bool.{true, false}
use mathlib.Core.List.{List, ◌∷◌, map}
use mathlib.Core.Logic.{◌⊎◌, inl, inr}
use Prim.Native.Nat.{ℕ, ◌<◌, ◌≤◌, max}
use native.Mathlib.Omega.{arith}
use native.Mathlib.Decide.{dec_le}
use lib.ListN.{length, get_or, set}
use lib.Seq.{get_or-set_same}
use Rattle.graph.specs.Path.{Cycle}
use Rattle.graph.proofs.MemberLaws.{member_or_not}
use Rattle.graph.proofs.TestLaws.{true_or_false, true_not_false}
use Rattle.graph.proofs.MapLaws.{mapped_cycle_iff}
use Rattle.orders.specs.Arrow.{ticket_at}
use Rattle.orders.specs.Entries.{Entry, EntryArrow}
use Rattle.sites.specs.Sites.{sites_of}
use Rattle.sites.proofs.SitesLaws.{rising_sites, lt_of_member}
use Rattle.method.specs.declared.Ticket.{Ticket}
use Rattle.method.specs.declared.Stage.{Stage}
use Rattle.method.specs.declared.State.{State}
use Rattle.method.specs.declared.Row.{Row}
use Rattle.method.specs.declared.Table.{Table}
use Rattle.method.specs.Records.{ticket, past_end, row_at, part_at, high_at, is_prepared, committed, tickets_of, Goes}
use Rattle.method.specs.Slots.{has_number, slot_of, row_of_number, kept, entry_of}
use Rattle.method.specs.Conditions.{Closed, Unknown, NotPrepared}
use Rattle.method.specs.Effects.{committed_row, raised, decided}
use Rattle.method.proofs.RecordLaws.{never, prepared_iff, committed_iff}
use Rattle.std.proofs.lemmas.List.Folds.{position_or_len-set}
use Rattle.std.proofs.lemmas.List.Sums.{passes_at_first}
use Rattle.method.proofs.SlotLaws.{kept_of_place, place_of_kept}
use Rattle.method.proofs.ConditionLaws.{has_number_iff}
use Rattle.method.proofs.RowLaws.{ticket_part, length_raised, raised_other, raised_listed}
use Rattle.method.specs.Seen.{IsActive, IsCommitted, Has, tick}
use Rattle.invariant.specs.Sound.{Differs}
use Rattle.invariant.specs.Orderly.{Fits}
use Rattle.invariant.specs.Invariant.{Invariant}
use Rattle.invariant.proofs.ChangeLaws.{not_committed}
use Rattle.invariant.proofs.CommitLaws.{Sealed, sound_committed}
use Rattle.invariant.proofs.OrderlyLaws.{orderly_changed}
use Rattle.invariant.proofs.ShapeLaws.{shape_set}
use Rattle.invariant.proofs.KnownLaws.{found, changed, keeps_kept}
use Rattle.invariant.proofs.DropLaws.{invariant_freed}

-- no cycle of the rows is no cycle of their entries
entries_acyclic : (rs : List Row) → ¬ Cycle Goes rs → ¬ Cycle EntryArrow (map entry_of rs)
unfolding entry_of
entries_acyclic rs n c = n ((mapped_cycle_iff entry_of rs EntryArrow).1 c)

module _ (t : Table) (es : List Entry) (v : Invariant t es) (n : ℕ) (nc : ¬ Closed t) (nu : ¬ Unknown t n) (nr : ¬ NotPrepared (row_of_number t n)) where
  abbrev q : Row
  q = row_of_number t n

  abbrev at : ℕ
  at = slot_of t n

  slot : at < length t.rows
  slot = (found t n nu).slot

  pub is_active_lem : IsActive q
  is_active_lem = go q.state refl
    where
      go : (x : State) → q.state ≡ x → IsActive q
      go State.Free e = absurd (nr (inl (λ a. never (cc))))
      go State.Active e = e
      go State.Committed e = absurd (nr (inl (λ a. never (cc))))

  prepared : (s : ℕ) → Has q s → (part_at q s).stage ≡ Stage.Prepared
  prepared s m = go (true_or_false (is_prepared (part_at q s).stage))
    where
      go : (is_prepared (part_at q s).stage ≡ true) ⊎ (is_prepared (part_at q s).stage ≡ false) → (part_at q s).stage ≡ Stage.Prepared
      go (inl e) = (prepared_iff (part_at q s).stage).0 e
      go (inr e) = absurd (nr (inr (s, m, λ p. true_not_false ((prepared_iff (part_at q s).stage).1 p) e)))

  sealed : Sealed t.last.0 q (committed_row t q)
  unfolding committed_row entry_of tickets_of
  sealed = record { was = is_active_lem; is = refl; same = refl; sites = λ s m. m; sites' = λ s m. m; bases = λ s. refl; prepared = prepared; mark = refl }

  abbrev high' : ℕ → ℕ
  high' s = (get_or (raised q (sites_of q.sites) t.high) s (ticket 0)).0

  pub raised_at : (s : ℕ) → ((Has q s) × (high' s ≡ max (high_at t s) (tick q s))) ⊎ ((¬ Has q s) × (high' s ≡ high_at t s))
  raised_at s = go (member_or_not s (sites_of q.sites))
    where
      go : Has q s ⊎ (¬ Has q s) → ((Has q s) × (high' s ≡ max (high_at t s) (tick q s))) ⊎ ((¬ Has q s) × (high' s ≡ high_at t s))
      go (inl m) =
          let h : s < length t.high = omega (arith, lt_of_member q.sites m, v.shape.highs) in
          inl (m, rw (ticket_part q s) (ap (λ (k : Ticket). k.0) (raised_listed q (sites_of q.sites) t.high s (rising_sites q.sites) m h)))
      go (inr m) = inr (m, ap (λ (k : Ticket). k.0) (raised_other q (sites_of q.sites) t.high s m))

  up : (s : ℕ) → high_at t s ≤ high' s
  up s = elim (raised_at s) [ inl e ↦ omega (arith, e.1) | inr e ↦ omega (arith, e.1) ]

  own : (s : ℕ) → tick q s ≤ high' s
  own s = elim (raised_at s) [
    | inl e ↦ omega (arith, e.1)
    | inr e ↦ none (dec_le (tick q s) 0)
  ]
    where
      none : Dec (tick q s ≤ 0) → tick q s ≤ high' s
      none (yes l) = omega arith
      none (no l) = elim (raised_at s) [ inl e ↦ omega (arith, e.1) | inr e ↦ absurd (e.0 ((v.sound.rows at).listed s (omega arith))) ]

  -- the number still stands in its slot, and the row there is the committed one
  pub row_committed : row_of_number (decided t n true).table n ≡ committed_row t q
  unfolding decided committed_row slot_of
  row_committed =
      ap (λ (i : ℕ). get_or (set t.rows at (committed_row t q)) i past_end) (position_or_len-set (has_number n) t.rows at (committed_row t q) past_end
      ((has_number_iff n (committed_row t q)).1 ((λ f. never (cc)), (found t n nu).named) ∙ sym (passes_at_first (has_number n) t.rows past_end slot)))
      ∙ get_or-set_same t.rows at (committed_row t q) past_end slot

  pub entry_committed : entry_of (row_of_number (decided t n true).table n) ≡ entry_of q
  unfolding committed_row entry_of tickets_of
  entry_committed = ap entry_of row_committed

  -- what the optimistic method owes: the test, and that no two slots hold the same ticket
  pub fits_of_test : ¬ Cycle Goes (q ∷ kept t) → Fits t q
  unfolding kept
  fits_of_test fine = record {
    acyclic = fine;
    apart = λ r m.
        let (j, h, e, c) = place_of_kept committed t.rows past_end m in
        let k : IsCommitted (row_at t j) = (committed_iff (row_at t j).state).0 (rw e c) in
        subst (Differs q) e (v.orderly at j (λ x. not_committed is_active_lem (rw x k)));
  }

  pub invariant_commit : Fits t q → Invariant (decided t n true).table (entry_of q ∷ es)
  unfolding decided committed_row entry_of kept
  invariant_commit fits = record {
    shape = shape_set t (decided t n true).table at (committed_row t q) v.shape slot refl refl (length_raised q (sites_of q.sites) t.high ∙ v.shape.highs)
        (v.shape.parts at (omega (arith, slot, v.shape.slots))) (λ f. never (cc)) (v.shape.own at);
    sound = sound_committed (changed t at (committed_row t q) slot) t.last.0 sealed (map entry_of (kept t)) (keeps_kept t)
        (entries_acyclic (q ∷ kept t) fits.acyclic)
        (λ j c. fits.apart (row_at t j) (kept_of_place committed t.rows j past_end refl ((committed_iff (row_at t j).state).1 c))) (high_at t) high' up own es v.sound;
    orderly = orderly_changed (changed t at (committed_row t q) slot) (λ s. inl (ap (λ (y : Entry). ticket_at y.tickets s) sealed.same)) v.orderly;
    shut = λ c. absurd (nc c);
  }

  pub invariant_cycle : Invariant (decided t n false).table es
  unfolding decided
  invariant_cycle = invariant_freed t es at v nc slot (λ c. absurd (not_committed is_active_lem c))
