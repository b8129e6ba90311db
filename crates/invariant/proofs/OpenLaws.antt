-- The closed table, an opening and a begin keep the invariant. Assumes nothing.
use mathlib.Core.Path.{◌≡◌, refl, sym, ap, subst, ◌∙◌}
use mathlib.Core.List.Memᴰ
use mathlib.Core.List.{List, [], ◌∷◌}
use mathlib.Core.Logic.{◌⊎◌, inl, inr}
use Prim.Native.Nat.{ℕ, zero, suc, ◌+◌, ◌<◌, ◌≤◌}
use native.Mathlib.Omega.{arith}
use native.Mathlib.Decide.{dec_lt}
use lib.ListN.{length, replicate, length-replicate, get_or-replicate, get_or-eq_default}
use Rattle.graph.specs.Lists.{◌∈◌, any_of}
use Rattle.graph.proofs.TestLaws.{true_of_not_false}
use Rattle.graph.proofs.MemberLaws.{member_or_not}
use Rattle.graph.proofs.PathLaws.{no_path_of_nil}
use Rattle.orders.specs.Entries.{Entry}
use Rattle.orders.proofs.GoodLaws.{apart_of_nil}
use Rattle.sites.specs.Sites.{sites_of}
use Rattle.sites.proofs.SitesLaws.{rising_sites, lt_of_member}
use Rattle.method.specs.declared.Row.{Row}
use Rattle.method.specs.declared.Table.{Table}
use Rattle.method.specs.Records.{no_part, free_row, past_end, closed, row_at, part_at, high_at, is_free, number, with_row, with_last}
use Rattle.method.specs.Slots.{free_slot}
use Rattle.method.specs.Conditions.{Closed, BadOpening, BadSites, Full}
use Rattle.method.specs.Effects.{padded, opened, new_row, effect}
use Rattle.method.specs.Calls.Call.{begin}
use Rattle.method.proofs.RecordLaws.{never, free_iff}
use Rattle.method.proofs.ConditionLaws.{full_iff}
use Rattle.method.proofs.SlotLaws.{first_found}
use Rattle.method.proofs.RowLaws.{ticket_part, get_or_replicate_same, length_based, based_other, based_listed}
use Rattle.method.specs.Seen.{IsFree, IsCommitted, Has}
use Rattle.invariant.specs.Sound.{Sound}
use Rattle.invariant.specs.Invariant.{Shape, Invariant}
use Rattle.invariant.proofs.FreeLaws.{Blank, blank_row, blank_left}
use Rattle.invariant.proofs.BeginLaws.{Fresh, sound_begun}
use Rattle.invariant.proofs.OrderlyLaws.{orderly_empty, orderly_changed}
use Rattle.invariant.proofs.ShapeLaws.{shape_set}
use Rattle.invariant.proofs.KnownLaws.{changed, blank_free, blank_past_end, no_site_free}

-- a table of free slots
sound_empty : (row : ℕ → Row) (high : ℕ → ℕ) (last : ℕ) → ((i : ℕ) → Blank (row i)) → Sound row high last []
sound_empty row high last b = record {
  rows = λ i. blank_row (b i) high last;
  pairs = λ i j n. blank_left (b i) (row j);
  entries = λ e m. absurd (Memᴰ.not-nil m);
  noted = λ i c. let z = (b i).free in never (cc);
  apart = apart_of_nil;
  acyclic = λ c. no_path_of_nil c.1;
}

module _ (t : Table) (free : t.rows ≡ replicate 32 free_row) where
  free_slot_lem : (i : ℕ) → i < 32 → row_at t i ≡ free_row
  free_slot_lem i h = rw free (get_or-replicate 32 i free_row past_end h)

  past_slot : (i : ℕ) → 32 ≤ i → row_at t i ≡ past_end
  past_slot i h = get_or-eq_default t.rows past_end (rw free (omega (arith, length-replicate 32 free_row)))

  all_blank : (i : ℕ) → Blank (row_at t i)
  all_blank i = go (dec_lt i 32)
    where
      go : Dec (i < 32) → Blank (row_at t i)
      go (yes h) = rw (free_slot_lem i h) blank_free
      go (no h) = rw (past_slot i (omega arith)) blank_past_end

  shape_empty : length t.high ≡ 8 → t.sites ≤ 8 → Shape t
  shape_empty h s = record {
    slots = rw free;
    parts = λ i l. rw (free_slot_lem i l);
    highs = h;
    zeros = λ i l f. free_slot_lem i l;
    sites = s;
    own = λ i u m. absurd (none i u (dec_lt i 32) m);
  }
    where
      none : (i u : ℕ) → Dec (i < 32) → ¬ Has (row_at t i) u
      none i u (yes l) m = no_site_free u (rw (free_slot_lem i l) at m)
      none i u (no l) m = no_site_free u (rw (past_slot i (omega arith)) at m)

pub invariant_closed : Invariant closed []
invariant_closed = record { shape = shape_empty closed refl refl (omega arith); sound = sound_empty (row_at closed) (high_at closed) 0 (all_blank closed refl); orderly = orderly_empty (row_at closed) (all_blank closed refl); shut = λ c. (refl, refl) }

length_padded : (k : ℕ) (fs : List ℕ) → length (padded k fs) ≡ k
unfolding padded
length_padded zero fs = refl
length_padded (suc k) [] = ap suc (length_padded k [])
length_padded (suc k) (f ∷ fs) = ap suc (length_padded k fs)

pub invariant_open : (t : Table) (es : List Entry) (first : ℕ) (floors : List ℕ) → Invariant t es → Closed t → ¬ BadOpening first floors → Invariant (opened first floors) es
unfolding opened
invariant_open t es first floors v c b = subst (Invariant (opened first floors)) (sym (v.shut c).0) (record {
  shape = shape_empty (opened first floors) refl (length_padded 8 floors) few;
  sound = sound_empty (row_at (opened first floors)) (high_at (opened first floors)) _ (all_blank (opened first floors) refl);
  orderly = orderly_empty (row_at (opened first floors)) (all_blank (opened first floors) refl);
  shut = λ k. absurd (b (inl k));
})
  where
    few : length floors ≤ 8
    few = at_most (λ h. b (inr (inl h)))
      where
        at_most : ¬ (8 < length floors) → length floors ≤ 8
        at_most n = omega arith

pub free_after_open : (first : ℕ) (floors : List ℕ) (i : ℕ) → Blank (row_at (opened first floors) i)
unfolding opened
free_after_open first floors = all_blank (opened first floors) refl

-- begin
module _ (t : Table) (sites : ℕ) where
  new_length : length (new_row t sites).parts ≡ 8
  unfolding new_row
  new_length = length_based t.high (sites_of sites) (replicate 8 no_part)

  pub new_part : (s : ℕ) → ((part_at (new_row t sites) s).ticket.0 ≡ 0) × (s ∈ sites_of sites → (part_at (new_row t sites) s).base.0 ≡ high_at t s)
  unfolding new_row
  new_part s = go (member_or_not s (sites_of sites))
    where
      go : (s ∈ sites_of sites) ⊎ (¬ (s ∈ sites_of sites)) → ((part_at (new_row t sites) s).ticket.0 ≡ 0) × (s ∈ sites_of sites → (part_at (new_row t sites) s).base.0 ≡ high_at t s)
      go (inl m) = let e = based_listed t.high (sites_of sites) (replicate 8 no_part) s (rising_sites sites) m (lt_of_member sites m) in (rw e, λ k. rw e)
      go (inr n) = let e = based_other t.high (sites_of sites) (replicate 8 no_part) s n in (rw (e, get_or_replicate_same 8 s no_part), λ k. absurd (n k))

  fresh : Fresh (high_at t) t.last.0 (new_row t sites)
  unfolding new_row
  fresh = record {
    is = refl;
    number = refl;
    unmarked = refl;
    empty = λ s. ticket_part (new_row t sites) s ∙ (new_part s).0;
    bases = λ s m. (new_part s).1 m;
  }

-- the lowest free slot is one of the table's, and free
pub begin_slot : (t : Table) → ¬ Full t → (free_slot t < length t.rows) × IsFree (row_at t (free_slot t))
unfolding free_slot
begin_slot t nf =
    let e = true_of_not_false (any_of (λ (r : Row). is_free r.state) t.rows) (λ e. nf ((full_iff t).0 (rw e))) in
    let (h, f) = first_found (λ (r : Row). is_free r.state) t.rows past_end e in
    (h, (free_iff (row_at t (free_slot t)).state).0 f)

pub invariant_begin : (t : Table) (es : List Entry) (sites : ℕ) → Invariant t es → ¬ Closed t → ¬ BadSites t sites → ¬ Full t → Invariant (effect t (begin sites)).table es
unfolding effect new_row
invariant_begin t es sites v nc bs nf = record {
  shape = shape_set t (with_row (with_last t (number (t.last.0 + 1))) (free_slot t) (new_row t sites)) (free_slot t) (new_row t sites) v.shape slot refl refl v.shape.highs
      (new_length t sites) (λ f. never (cc)) (λ s m. own s m (dec_lt s t.sites));
  sound = sound_begun (changed t (free_slot t) (new_row t sites) slot) unused (high_at t) t.last.0 (fresh t sites) es v.sound;
  orderly = orderly_changed (changed t (free_slot t) (new_row t sites) slot) (λ s. inr (inl ((fresh t sites).empty s))) v.orderly;
  shut = λ c. absurd (nc c);
}
  where
    slot : free_slot t < length t.rows
    slot = (begin_slot t nf).0

    unused : ¬ IsCommitted (row_at t (free_slot t))
    unused c = let f = (begin_slot t nf).1 in never (cc)

    own : (s : ℕ) → s ∈ sites_of sites → Dec (s < t.sites) → s < t.sites
    own s m (yes l) = l
    own s m (no l) = absurd (bs (inr (s, m, omega arith)))
