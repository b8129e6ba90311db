-- What the checks of a call give, once none of them refused it: the slot of the number, and what it holds. Assumes nothing.
use mathlib.Core.Path.{◌≡◌, refl, sym, ap, ◌∙◌}
use mathlib.Core.Bool.{true, false}
use mathlib.Core.List.Memᴰ
use mathlib.Core.List.{map}
use mathlib.Core.Logic.{◌↔◌, ◌⊎◌, inl, inr}
use Prim.Native.Nat.{ℕ, ◌<◌, ◌≤◌}
use native.Mathlib.Omega.{arith}
use native.Mathlib.Decide.{dec_le}
use lib.ListN.{length, get_or, get_or-eq_default}
use Rattle.graph.specs.Lists.{any_of}
use Rattle.graph.proofs.TestLaws.{true_or_false, true_not_false}
use Rattle.graph.proofs.PlaceLaws.{member_of_place, place_of_member}
use Rattle.sites.proofs.ByteLaws.{sites_zero}
use Rattle.method.specs.declared.Row.{Row}
use Rattle.method.specs.declared.Table.{Table}
use Rattle.method.specs.Records.{no_part, free_row, past_end, row_at, active, committed, with_row, Goes}
use Rattle.method.specs.Slots.{has_number, slot_of, row_of_number, kept, active_rows, entry_of}
use Rattle.method.specs.Conditions.{Unknown, unknown, HasPred, HeldBack}
use Rattle.method.proofs.RecordLaws.{active_iff, committed_iff}
use Rattle.method.proofs.ConditionLaws.{has_number_iff, unknown_iff}
use Rattle.method.proofs.SlotLaws.{first_found, kept_of_place, place_of_kept, set_cases}
use Rattle.method.proofs.RowLaws.{ticket_part, get_or_replicate_same}
use Rattle.method.specs.Seen.{Known, IsFree, IsActive, IsCommitted, num, tick, Has}
use Rattle.invariant.proofs.ChangeLaws.{Changed}
use Rattle.invariant.proofs.FreeLaws.{Blank}
use Rattle.invariant.proofs.NewestLaws.{Keeps}

-- a number that the table knows: its slot is one of the table's, is not free, and has it
pub record Found (t : Table) (n : ℕ) : Type 0 where
  pub slot : slot_of t n < length t.rows
  pub used : ¬ IsFree (row_of_number t n)
  pub named : num (row_of_number t n) ≡ n

pub found : (t : Table) (n : ℕ) → ¬ Unknown t n → Found t n
unfolding slot_of
found t n u = go (true_or_false (any_of (has_number n) t.rows))
  where
    go : (any_of (has_number n) t.rows ≡ true) ⊎ (any_of (has_number n) t.rows ≡ false) → Found t n
    go (inr e) = absurd (u ((unknown_iff t n).0 (rw e)))
    go (inl e) =
        let (h, p) = first_found (has_number n) t.rows past_end e in
        let k = (has_number_iff n (row_of_number t n)).0 p in
        record { slot = h; used = k.0; named = k.1 }

-- one slot set
pub changed : (t : Table) (i : ℕ) (r : Row) → i < length t.rows → Changed (row_at t) i r (row_at (with_row t i r))
changed t i r h = set_cases t.rows i r past_end h

pub tick_zero : (r : Row) → ((s : ℕ) → get_or r.parts s no_part ≡ no_part) → (s : ℕ) → tick r s ≡ 0
tick_zero r z s = rw (ticket_part r s, z s)

pub no_site_free : (s : ℕ) → ¬ Has free_row s
no_site_free s m = Memᴰ.not-nil (rw sites_zero at m)

pub blank_free : Blank free_row
blank_free = record { free = refl; number = refl; tickets = tick_zero free_row (λ s. get_or_replicate_same 8 s no_part); last = refl; sites = no_site_free }

pub blank_past_end : Blank past_end
blank_past_end = record { free = refl; number = refl; tickets = tick_zero past_end (λ s. refl); last = refl; sites = no_site_free }

-- the kept rows, by slots
pub keeps_kept : (t : Table) → Keeps (row_at t) (map entry_of (kept t))
unfolding kept
keeps_kept t = record {
  has = λ j c. Memᴰ.map entry_of (kept_of_place committed t.rows j past_end refl ((committed_iff (row_at t j).state).1 c));
  only = λ x m.
      let (r, k, e) = Memᴰ.of_map entry_of (kept t) m in
      let (j, h, p, q) = place_of_kept committed t.rows past_end k in
      (j, (committed_iff (row_at t j).state).0 (rw p q), ap entry_of p ∙ e);
}

-- one that no active one holds back: whoever is active has a later number
pub later_of_free : (t : Table) (r : Row) → ¬ HeldBack t r → (j : ℕ) → IsActive (row_at t j) → r.last.0 < num (row_at t j)
unfolding active_rows
later_of_free t r h j a = go (dec_le (num (row_at t j)) r.last.0)
  where
    go : Dec (num (row_at t j) ≤ r.last.0) → r.last.0 < num (row_at t j)
    go (yes l) = absurd (h (row_at t j, kept_of_place active t.rows j past_end refl ((active_iff (row_at t j).state).1 a), l))
    go (no l) = omega arith

-- one without a predecessor among the kept
pub unpointed_of_free : (t : Table) (r : Row) → ¬ HasPred t r → (j : ℕ) → IsCommitted (row_at t j) → ¬ Goes (row_at t j) r
unfolding kept
unpointed_of_free t r h j c a = h (row_at t j, kept_of_place committed t.rows j past_end refl ((committed_iff (row_at t j).state).1 c), a)

-- a slot that is in use is one of the table's
pub slot_of_used : (t : Table) (i : ℕ) → ¬ IsFree (row_at t i) → i < length t.rows
slot_of_used t i f = go (dec_le (length t.rows) i)
  where
    go : Dec (length t.rows ≤ i) → i < length t.rows
    go (yes l) = absurd (f (ap (λ (r : Row). r.state) (get_or-eq_default t.rows past_end l)))
    go (no l) = omega arith

pub known_iff : (t : Table) (n : ℕ) → Known t n ↔ (¬ Unknown t n)
known_iff t n = (
  λ k u. u (row_at t k.0) (member_of_place t.rows k.0 past_end (slot_of_used t k.0 k.1)) k.1 k.2,
  λ u. let f = found t n u in (slot_of t n, f.used, f.named),
)

pub unknown_of_not_known : (t : Table) (n : ℕ) → ¬ Known t n → Unknown t n
unknown_of_not_known t n k q m f e = let (i, h, p) = place_of_member past_end m in k (i, (λ z. f (ap (λ (x : Row). x.state) (sym p) ∙ z)), ap (λ (x : Row). x.number.0) p ∙ e)

pub known_or_not : (t : Table) (n : ℕ) → Known t n ⊎ (¬ Known t n)
known_or_not t n = elim (true_or_false (unknown t n)) [
  | inl e ↦ inr (λ k. (known_iff t n).0 k ((unknown_iff t n).0 e))
  | inr e ↦ inl ((known_iff t n).1 (λ u. true_not_false ((unknown_iff t n).1 u) e))
]
