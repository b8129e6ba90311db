-- One row more: what it adds to the packed table. Assumes nothing.
use mathlib.Core.Path.{◌≡◌, refl, sym, ◌∙◌, ap}
use mathlib.Core.Bool.{Bool, true, false, cond}
use mathlib.Core.List.{List, [], ◌∷◌, ◌++◌, map, append-nil, append_assoc}
use Prim.Native.Nat.{ℕ, ◌+◌, ◌*◌, ◌<◌, ◌≤◌}
use native.Mathlib.Nat.{add-zero}
use native.Mathlib.Omega.{arith}
use lib.ListN.{length, get_or, take, length-append}
use lib.Seq.{length-take-le}
use Rattle.std.proofs.lemmas.List.{map_push}
use Rattle.std.proofs.lemmas.List.Elements.{filter_more, filter-append}
use Rattle.std.proofs.lemmas.List.Filters.{length-filter_more}
use Rattle.graph.specs.Lists.{keep}
use Rattle.graph.proofs.MemberLaws.{length_keep_le}
use Rattle.orders.specs.Entries.{Entry, flat_of}
use Rattle.method.specs.declared.Row.{Row}
use Rattle.method.specs.Records.{committed, past_end, tickets_of}
use Rattle.method.specs.Slots.{entry_of}
use Rattle.endian.specs.Laid.{laid}
use Rattle.endian.proofs.LaidLaws.{laid_of_laid}
use Rattle.kept.specs.Packed.{flat, kept_of, zeros, entries, packed_rows, grown}

pub flat_none : flat [] ≡ []
unfolding flat_of
flat_none = refl

flat_of_push : (es : List Entry) (e : Entry) → flat_of (es ++ (e ∷ [])) ≡ flat_of es ++ (e.number ∷ e.tickets)
unfolding flat_of
flat_of_push [] e = ap (λ (l : List ℕ). e.number ∷ l) (append-nil e.tickets)
flat_of_push (q ∷ es) e =
    ap (λ (l : List ℕ). q.number ∷ l) (ap (λ (l : List ℕ). q.tickets ++ l) (flat_of_push es e) ∙ sym (append_assoc q.tickets (flat_of es) (e.number ∷ e.tickets)))

-- one row more: its nine entries come behind the others if it is kept, and else nothing does
pub flat_grow : (rs : List Row) (r : Row) → flat (rs ++ (r ∷ [])) ≡ flat rs ++ cond (committed r) (r.number.0 ∷ tickets_of r) []
unfolding entry_of
flat_grow rs r = ap (λ (l : List Row). flat_of (map entry_of l)) (filter-append committed rs (r ∷ [])) ∙ go (committed r)
  where
    go : (b : Bool) → flat_of (map entry_of (keep committed rs ++ cond b (r ∷ []) [])) ≡ flat rs ++ cond b (r.number.0 ∷ tickets_of r) []
    go true = ap flat_of (map_push entry_of (keep committed rs) r) ∙ flat_of_push (map entry_of (keep committed rs)) (entry_of r)
    go false = ap (λ (l : List Row). flat_of (map entry_of l)) (append-nil (keep committed rs)) ∙ sym (append-nil (flat rs))

count_grow : (rs : List Row) (r : Row) → length (keep committed (rs ++ (r ∷ []))) ≡ length (keep committed rs) + cond (committed r) 1 0
count_grow rs r = ap (λ (l : List Row). length l) (filter-append committed rs (r ∷ [])) ∙ go (committed r)
  where
    go : (b : Bool) → length (keep committed rs ++ cond b (r ∷ []) []) ≡ length (keep committed rs) + cond b 1 0
    go true = length-append (keep committed rs) (r ∷ [])
    go false = length-append (keep committed rs) []

-- and the packed table with it
pub packed_grow : (rs : List Row) (r : Row) → length (flat rs) ≡ 9 * length (keep committed rs) → length rs < 32 → packed_rows (rs ++ (r ∷ [])) ≡ grown (packed_rows rs) r
packed_grow rs r size h = rw (flat_grow rs r, count_grow rs r) (go (committed r))
  where
    go : (b : Bool) → kept_of (length (keep committed rs) + cond b 1 0) (laid zeros 0 (flat rs ++ cond b (entries r) []))
        ≡ cond b (kept_of (length (keep committed rs) + 1) (laid (laid zeros 0 (flat rs)) (9 * length (keep committed rs)) (entries r))) (packed_rows rs)
    go true =
        let e : 0 + length (flat rs) ≡ 9 * length (keep committed rs) = omega (arith, size) in
        let joined = laid_of_laid zeros (flat rs) 0 (omega (arith, size, length_keep_le committed rs)) (entries r) in
        ap (kept_of (length (keep committed rs) + 1)) (sym joined ∙ ap (λ (k : ℕ). laid (laid zeros 0 (flat rs)) k (entries r)) e)
    go false = rw (append-nil (flat rs), add-zero (length (keep committed rs)))

module _ (rows : List Row) (i : ℕ) (h : i < length rows) where
  -- a committed row's nine entries come behind those of the rows in front of it; another row adds nothing
  pub flat_more : committed (get_or rows i past_end) ≡ true
      → flat (take (i + 1) rows) ≡ flat (take i rows) ++ ((get_or rows i past_end).number.0 ∷ tickets_of (get_or rows i past_end))
  unfolding entry_of
  flat_more e =
      let r = get_or rows i past_end in
      let kept = keep committed (take i rows) in
      ap (λ (l : List Row). flat_of (map entry_of l)) (filter_more committed rows i past_end h ∙ rw e)
      ∙ ap flat_of (map_push entry_of kept r)
      ∙ flat_of_push (map entry_of kept) (entry_of r)

  pub flat_same : committed (get_or rows i past_end) ≡ false → flat (take (i + 1) rows) ≡ flat (take i rows)
  flat_same e = ap (λ (l : List Row). flat_of (map entry_of l)) (filter_more committed rows i past_end h ∙ rw e (append-nil (keep committed (take i rows))))

  pub count_more : committed (get_or rows i past_end) ≡ true → length (keep committed (take (i + 1) rows)) ≡ length (keep committed (take i rows)) + 1
  count_more e = length-filter_more committed rows i past_end h ∙ rw e

  pub count_same : committed (get_or rows i past_end) ≡ false → length (keep committed (take (i + 1) rows)) ≡ length (keep committed (take i rows))
  count_same e = length-filter_more committed rows i past_end h ∙ rw e (omega arith)

  pub length_more : committed (get_or rows i past_end) ≡ true → length (tickets_of (get_or rows i past_end)) ≡ 8
      → length (flat (take i rows)) ≡ 9 * length (keep committed (take i rows)) → length (flat (take (i + 1) rows)) ≡ 9 * length (keep committed (take (i + 1) rows))
  length_more e eight all = rw (flat_more e, count_more e) (simp length-append (omega (arith, eight, all)))

  -- no more rows are kept than were looked at
  pub few : length (keep committed (take i rows)) ≤ i
  few = omega (arith, length_keep_le committed (take i rows), length-take-le i rows (omega arith))
