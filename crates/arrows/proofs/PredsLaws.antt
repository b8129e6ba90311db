-- The words of predecessors, a row joined at a time: its start, a row before it more, its end. Assumes nothing.
use mathlib.Core.Path.{◌≡◌, refl, sym, ap, ◌∙◌}
use mathlib.Core.Bool.{Bool, true, false, cond}
use mathlib.Core.List.{List}
use Prim.Native.Nat.{ℕ, zero, suc, ◌+◌, ◌<◌, ◌≤◌}
use native.Mathlib.Decide.{ℕ_discrete}
use native.Mathlib.Numerals.{add-one}
use native.Mathlib.Omega.{arith}
use lib.Dec.{ltb}
use lib.ListN.{length, get_or, set, replicate, length-set, length-replicate, get_or-replicate}
use lib.Seq.{get_or-set_same, get_or-set_other, ext_get_or}
use borrow.Author.Tests.{lt-ltb, le-ltb, ltb-true, ltb-false}
use Rattle.graph.proofs.TestLaws.{false_of_not_true}
use Rattle.words.specs.Word.{with, word_of}
use Rattle.words.proofs.WordLaws.{word_of_none, word_of_skip, word_of_more}
use Rattle.orders.specs.Entries.{entry_at}
use Rattle.orders.proofs.ArrowLaws.{arrowb→arrow, not_arrow_self}
use Rattle.arrows.specs.Preds.{leads, pred_word, pred_at, preds_from, worded, preds_of, Joined, Joining}

module _ (flat : List ℕ) where
  word_of_lt_lem : (n i : ℕ) → i < n → pred_at flat n i ≡ pred_word flat n i
  word_of_lt_lem n i h = rw (lt-ltb i n h)

  zero_of_le : (n i : ℕ) → n ≤ i → pred_at flat n i ≡ 0
  zero_of_le n i h = rw (le-ltb i n h)

  pub joined_none : Joined flat 0 (replicate 32 0)
  joined_none = record { size = length-replicate {A = ℕ} 32 0; each = λ r h. get_or-replicate {A = ℕ} 32 r 0 0 h ∙ sym (zero_of_le 0 r (omega arith)) }

  module _ (i : ℕ) (small : i < 32) where
    pub joining_none : (preds : List ℕ) → Joined flat i preds → Joining flat i 0 0 preds
    joining_none preds p = record { size = p.size; own = sym (word_of_none (leads flat i)); done = λ r h. absurd (omega arith); rest = λ r h l. p.each r l }

    module _ (j mine : ℕ) (preds : List ℕ) (p : Joining flat i j mine preds) where
      pub joining_more : j < i → Joining flat i (j + 1) (cond (leads flat i j) (with mine j) mine) (cond (leads flat j i) (set preds j (with (get_or preds j 0) i)) preds)
      joining_more l = record { size = size (leads flat j i); own = own; done = done; rest = rest }
        where
          after : Bool → List ℕ
          after b = cond b (set preds j (with (get_or preds j 0) i)) preds

          size : (b : Bool) → length (after b) ≡ 32
          size true = simp length-set p.size
          size false = p.size

          own : cond (leads flat i j) (with mine j) mine ≡ pred_word flat (j + 1) i
          own = rw (p.own, add-one j) (word_of_more (leads flat i) j)

          other : (b : Bool) (r : ℕ) → ¬ (r ≡ j) → get_or (after b) r 0 ≡ get_or preds r 0
          other true r n = get_or-set_other preds j r (with (get_or preds j 0) i) 0 n
          other false r n = refl

          same : (b : Bool) → get_or (after b) j 0 ≡ cond b (with (get_or preds j 0) i) (get_or preds j 0)
          same true = get_or-set_same preds j (with (get_or preds j 0) i) 0 (omega (arith, p.size))
          same false = refl

          before : get_or preds j 0 ≡ word_of (leads flat j) i
          before = p.rest j (omega arith) (omega arith) ∙ word_of_lt_lem i j l

          done : (r : ℕ) → r < j + 1 → get_or (after (leads flat j i)) r 0 ≡ pred_word flat (suc i) r
          done r h = go (ℕ_discrete r j)
            where
              go : Dec (r ≡ j) → get_or (after (leads flat j i)) r 0 ≡ pred_word flat (suc i) r
              go (yes e) = rw e (same (leads flat j i) ∙ rw before (word_of_more (leads flat j) i))
              go (no e) = other (leads flat j i) r e ∙ p.done r (omega arith)

          rest : (r : ℕ) → j + 1 ≤ r → r < 32 → get_or (after (leads flat j i)) r 0 ≡ pred_at flat i r
          rest r h g = other (leads flat j i) r (λ e. omega arith) ∙ p.rest r (omega arith) g

    pub joined_more : (mine : ℕ) (preds : List ℕ) → Joining flat i i mine preds → Joined flat (i + 1) (set preds i mine)
    joined_more mine preds p = record { size = simp length-set p.size; each = each }
      where
        no_self : leads flat i i ≡ false
        no_self = false_of_not_true (leads flat i i) (λ e. not_arrow_self (entry_at flat i).tickets (arrowb→arrow (entry_at flat i).tickets (entry_at flat i).tickets e))

        go : (r : ℕ) → r < 32 → Dec (r ≡ i) → (b : Bool) → ltb r i ≡ b → get_or (set preds i mine) r 0 ≡ pred_at flat (suc i) r
        go r h (yes e) b q =
            rw e (get_or-set_same preds i mine 0 (omega (arith, p.size)) ∙ p.own ∙ word_of_skip (leads flat i) i no_self ∙ sym (word_of_lt_lem (suc i) i (omega arith)))
        go r h (no e) true q = get_or-set_other preds i r mine 0 e ∙ p.done r (ltb-true r i q) ∙ sym (word_of_lt_lem (suc i) r (omega (arith, ltb-true r i q)))
        go r h (no e) false q =
            let l = ltb-false r i q in
            get_or-set_other preds i r mine 0 e ∙ p.rest r l h ∙ zero_of_le i r l ∙ sym (zero_of_le (suc i) r (omega arith))

        each : (r : ℕ) → r < 32 → get_or (set preds i mine) r 0 ≡ pred_at flat (i + 1) r
        each r h = rw (add-one i) (go r h (ℕ_discrete r i) (ltb r i) refl)

  length_preds_from : (n i k : ℕ) → length (preds_from flat n i k) ≡ k
  unfolding preds_from
  length_preds_from n i zero = refl
  length_preds_from n i (suc k) = ap suc (length_preds_from n (suc i) k)

  get_or_preds_from : (n i k r : ℕ) → r < k → get_or (preds_from flat n i k) r 0 ≡ pred_at flat n (i + r)
  unfolding preds_from
  get_or_preds_from n i zero r h = absurd (omega arith)
  get_or_preds_from n i (suc k) zero h = ap (pred_at flat n) (omega arith)
  get_or_preds_from n i (suc k) (suc r) h = let e : suc i + r ≡ i + suc r = omega arith in rw e at (get_or_preds_from n (suc i) k r (omega arith))

  -- the word of a row
  pub get_or_preds_of : (r : ℕ) → r < 32 → get_or (preds_of flat) r 0 ≡ pred_at flat (worded flat) r
  unfolding preds_of
  get_or_preds_of r h = let e : 0 + r ≡ r = omega arith in rw e at (get_or_preds_from (worded flat) 0 32 r h)

  pub preds_of_joined : (preds : List ℕ) → Joined flat (worded flat) preds → preds ≡ preds_of flat
  unfolding preds_of
  preds_of_joined preds p =
      ext_get_or 0 preds (preds_from flat (worded flat) 0 32) (p.size ∙ sym (length_preds_from (worded flat) 0 32)) (λ r h. let l : r < 32 = omega (arith, p.size) in p.each r l ∙ sym (get_or_preds_of r l))
