-- A flat list and its rows determine each other: which row stands at a place, and back. Assumes nothing.
use mathlib.Core.Path.{◌≡◌, refl, sym, ap, ◌∙◌}
use mathlib.Core.List.Memᴰ.{head as here}
use mathlib.Core.List.Memᴰ.{tail as there}
use mathlib.Core.List.{List, [], ◌∷◌, ◌++◌, append_assoc}
use Prim.Native.Nat.{ℕ, zero, suc, ◌+◌, ◌*◌, ◌/◌, ◌%◌, ◌<◌, ◌≤◌}
use native.Mathlib.Omega.{arith}
use native.Mathlib.Nat.{div-add-mod', not-suc-le-zero}
use native.Mathlib.Numerals.{add-one}
use lib.ListN.{length, get_or, take, drop, length-append, length-take, length-drop, drop_of_length-le}
use lib.Seq.{drop-cons, take-add, drop-drop, get_or-take, get_or-drop, take_all, append_snoc, take_at, drop_at, get_or_at}
use Rattle.graph.specs.Lists.{◌∈◌, At}
use Rattle.graph.proofs.PlaceLaws.{at_of_member}
use Rattle.orders.specs.Arrow.{ticket_at}
use Rattle.orders.specs.Entries.{Entry, entry_at, entries_from, entries_in, flat_of}

pub length_entries_from : (flat : List ℕ) (i k : ℕ) → length (entries_from flat i k) ≡ k
unfolding entries_from
length_entries_from flat i zero = refl
length_entries_from flat i (suc k) = ap suc (length_entries_from flat (suc i) k)

pub length_entries_in : (flat : List ℕ) → length (entries_in flat) ≡ length flat / 9
unfolding entries_in
length_entries_in flat = length_entries_from flat 0 (length flat / 9)

at_entries_from : (flat : List ℕ) (i k j : ℕ) → j < k → At (entries_from flat i k) j (entry_at flat (i + j))
unfolding entries_from
at_entries_from flat i zero j h = absurd (not-suc-le-zero h)
at_entries_from flat i (suc k) zero h = ap (entry_at flat) (omega arith)
at_entries_from flat i (suc k) (suc j) h = let e : suc i + j ≡ i + suc j = omega arith in rw e at (at_entries_from flat (suc i) k j (omega arith))

-- place i of the rows holds row i
pub at_entries_in : (flat : List ℕ) (i : ℕ) → i < length flat / 9 → At (entries_in flat) i (entry_at flat i)
unfolding entries_in
at_entries_in flat i h = let e : 0 + i ≡ i = omega arith in rw e at (at_entries_from flat 0 (length flat / 9) i h)

row_of_at_from : (flat : List ℕ) (i k j : ℕ) (r : Entry) → At (entries_from flat i k) j r → (j < k) × (entry_at flat (i + j) ≡ r)
unfolding entries_from
row_of_at_from flat i zero j r p = absurd p
row_of_at_from flat i (suc k) zero r p = let e : i + 0 ≡ i = omega arith in (omega arith, rw e p)
row_of_at_from flat i (suc k) (suc j) r p =
    let (h, q) = row_of_at_from flat (suc i) k j r p in
    let e : suc i + j ≡ i + suc j = omega arith in
    (omega arith, rw e at q)

pub row_of_at : (flat : List ℕ) (i : ℕ) (r : Entry) → At (entries_in flat) i r → (i < length flat / 9) × (entry_at flat i ≡ r)
unfolding entries_in
row_of_at flat i r p = let (h, q) = row_of_at_from flat 0 (length flat / 9) i r p in let e : 0 + i ≡ i = omega arith in (h, rw e at q)

pub row_of_member : (flat : List ℕ) (r : Entry) → r ∈ entries_in flat → (i : ℕ) × (i < length flat / 9) × (entry_at flat i ≡ r)
row_of_member flat r m = let (i, p) = at_of_member m in let (h, e) = row_of_at flat i r p in (i, h, e)

-- the entries of a row
pub number_entry_at : (flat : List ℕ) (i : ℕ) → (entry_at flat i).number ≡ get_or flat (9 * i) 0
unfolding entry_at
number_entry_at flat i = refl

pub ticket_entry_at : (flat : List ℕ) (i s : ℕ) → s < 8 → ticket_at (entry_at flat i).tickets s ≡ get_or flat (9 * i + 1 + s) 0
unfolding entry_at
ticket_entry_at flat i s h = rw (get_or-take 8 (drop (9 * i + 1) flat) s 0 h, get_or-drop (9 * i + 1) flat s 0)

pub length_tickets : (flat : List ℕ) (i : ℕ) → i < length flat / 9 → length (entry_at flat i).tickets ≡ 8
unfolding entry_at
length_tickets flat i h = simp (length-take, length-drop) (omega arith)

-- past the list there are no tickets
pub tickets_past : (flat : List ℕ) (i : ℕ) → length flat / 9 < i → (entry_at flat i).tickets ≡ []
unfolding entry_at
tickets_past flat i h = rw (drop_of_length-le flat {i = 9 * i + 1} (omega arith))

-- back to the flat list
flat_of_entries_from : (flat : List ℕ) (i k : ℕ) → 9 * i + 9 * k ≤ length flat → flat_of (entries_from flat i k) ≡ take (9 * k) (drop (9 * i) flat)
unfolding entries_from flat_of entry_at
flat_of_entries_from flat i zero h = refl
flat_of_entries_from flat i (suc k) h =
    let x = get_or flat (9 * i) 0 in
    let rest = drop (9 * i + 1) flat in
    let c : drop (9 * i) flat ≡ x ∷ rest = rw (add-one (9 * i)) (drop-cons flat (9 * i) 0 (omega arith)) in
    let n : 9 * suc k ≡ suc (8 + 9 * k) = omega arith in
    let m : 9 * suc i ≡ 9 * i + 1 + 8 = omega arith in
    let r = flat_of_entries_from flat (suc i) k (omega arith) in
    rw (c, n, r, m, ← drop-drop 8 (9 * i + 1) flat, ← take-add 8 (9 * k) rest)

pub flat_of_rows : (flat : List ℕ) → length flat % 9 ≡ 0 → flat_of (entries_in flat) ≡ flat
unfolding entries_in
flat_of_rows flat h =
    let d = div-add-mod' (length flat) 9 in
    flat_of_entries_from flat 0 (length flat / 9) (omega arith) ∙ take_all (9 * (length flat / 9)) flat (omega arith)

-- and from rows of eight tickets to a flat list and back
pub length_flat_of : (rs : List Entry) → ((r : Entry) → r ∈ rs → length r.tickets ≡ 8) → length (flat_of rs) ≡ 9 * length rs
unfolding flat_of
length_flat_of [] h = refl
length_flat_of (r ∷ rs) h = simp length-append (omega (arith, h r (here refl), length_flat_of rs (λ q m. h q (there m))))

-- the row that stands behind whole rows
row_behind : (before : List ℕ) (i n : ℕ) (ts rest : List ℕ) → length before ≡ 9 * i → length ts ≡ 8
    → entry_at (before ++ (n ∷ (ts ++ rest))) i ≡ record { number = n; tickets = ts }
unfolding entry_at
row_behind before i n ts rest e l = λ z. record { number = number z; tickets = tickets z }
  where
    number : get_or (before ++ (n ∷ (ts ++ rest))) (9 * i) 0 ≡ n
    number = get_or_at before n (ts ++ rest) 0 (9 * i) e

    tickets : take 8 (drop (9 * i + 1) (before ++ (n ∷ (ts ++ rest)))) ≡ ts
    tickets = rw (← append_snoc before n (ts ++ rest), drop_at (before ++ (n ∷ [])) (ts ++ rest) (9 * i + 1) (simp length-append (omega arith)))
        (take_at ts rest 8 l)

entries_of_flat_from : (rs : List Entry) (before : List ℕ) (i : ℕ) → length before ≡ 9 * i → ((r : Entry) → r ∈ rs → length r.tickets ≡ 8)
    → entries_from (before ++ flat_of rs) i (length rs) ≡ rs
unfolding entries_from flat_of
entries_of_flat_from [] before i e h = refl
entries_of_flat_from (r ∷ rs) before i e h =
    let l = h r (here refl) in
    let a = append_assoc before (r.number ∷ r.tickets) (flat_of rs) in
    let k = entries_of_flat_from rs (before ++ (r.number ∷ r.tickets)) (suc i) (simp length-append (omega arith)) (λ q m. h q (there m)) in
    rw (row_behind before i r.number r.tickets (flat_of rs) e l) (ap (λ z. r ∷ z) (ap (λ z. entries_from z (suc i) (length rs)) (sym a) ∙ k))

pub entries_of_flat : (rs : List Entry) → ((r : Entry) → r ∈ rs → length r.tickets ≡ 8) → entries_in (flat_of rs) ≡ rs
unfolding entries_in
entries_of_flat rs h =
    let n : length (flat_of rs) / 9 ≡ length rs = omega (arith, length_flat_of rs h) in
    rw n (entries_of_flat_from rs [] 0 refl h)
