-- A turn, message by message: what has been answered, and what the rest of the turn is. Assumes nothing.
use mathlib.Core.Path.{◌≡◌, refl, sym, ◌∙◌, ap, subst}
use mathlib.Core.Bool.{Bool, true, false, cond, not, ◌&&◌}
use mathlib.Core.List.{List, [], ◌++◌, append_assoc, append-nil}
use mathlib.Core.Logic.{◌⊎◌, inl, inr}
use Prim.Native.Nat.{ℕ, ◌+◌, ◌-◌, ◌<◌, ◌≤◌}
use native.Mathlib.Nat.{add-zero, zero-add, add_assoc, sub-zero}
use native.Mathlib.Omega.{arith}
use lib.Dec.{eqb}
use lib.ListN.{length, drop, length-append, length-drop}
use lib.Seq.{drop-drop}
use borrow.Author.Tests.{le-leb, lt-leb, ne_eqb}
use Rattle.endian.specs.Laid.{laid}
use Rattle.endian.proofs.LaidLaws.{laid_of_laid}
use Rattle.lines.specs.Line.{line_bytes}
use Rattle.frames.specs.Frame.{nothing, cut, frame_of, next_frame, body_to, EndsAt}
use Rattle.frames.specs.Stream.{Stream, ended, cut_off, framed, bytes_of, stream_of}
use Rattle.std.proofs.Common.{Ok, Err, None}
use Rattle.refusals.specs.declared.Refusal.{Refusal}
use Rattle.frames.specs.Answer.{frame_answer}
use Rattle.frames.proofs.AnswerLaws.{bad_of_answer, not_yet_of_answer}
use Rattle.frames.proofs.FrameLaws.{means_of_next, length_body_to}
use Rattle.frames.proofs.StreamLaws.{bytes_of_stream, stream_of_nothing, stream_of_cut, stream_of_bad, stream_of_end}
use Rattle.method.specs.declared.Table.{Table}
use Rattle.replies.specs.Desk.{desk_body}
use Rattle.table.specs.Shut.{shut_table}
use Rattle.turns.specs.declared.Turn.{Turn}
use Rattle.turns.specs.Struct.{turn_of}
use Rattle.turns.proofs.RoomLaws.{laid_fits}
use Rattle.turns.specs.Turn.{Turned, turn, roomy, stops, ends, behind, eleven}

-- how a turn goes on, by what stands in front
module _ (last : Bool) (t : Table) (left : ℕ) where
  pub turn_no_room : left < 358 → (s : Stream) → turn last t left s ≡ stops t
  unfolding turn
  turn_no_room h ended = refl
  turn_no_room h (cut_off l) = rw (lt-leb 358 left h) refl
  turn_no_room h (Stream.refused l) = rw (lt-leb 358 left h) refl
  turn_no_room h (framed b s) = rw (lt-leb 358 left h) refl

  module _ (h : 358 ≤ left) (l : List ℕ) where
    pub turn_bad : (q : Refusal) → frame_answer (next_frame l) ≡ Err q → turn last t left (stream_of l) ≡ ends t
    unfolding turn
    turn_bad q e = rw (stream_of_bad l (bad_of_answer l q e), le-leb 358 left h) refl

    -- not yet whole: the end only where the input ends, and something is left
    pub turn_not_yet : frame_answer (next_frame l) ≡ Ok None → turn last t left (stream_of l) ≡ cond (last && not (eqb (length l) 0)) (ends t) (stops t)
    unfolding turn
    turn_not_yet e = go (not_yet_of_answer l e)
      where
        go : (next_frame l ≡ nothing) ⊎ (next_frame l ≡ cut) → turn last t left (stream_of l) ≡ cond (last && not (eqb (length l) 0)) (ends t) (stops t)
        go (inl n) = rw (stream_of_nothing l n, means_of_next l nothing n) (none last)
          where
            none : (z : Bool) → stops t ≡ cond (z && false) (ends t) (stops t)
            none true = refl
            none false = refl
        go (inr n) = rw (stream_of_cut l n, le-leb 358 left h, ne_eqb (length l) 0 (λ z. not_begun z (means_of_next l cut n).begun)) (some last)
          where
            not_begun : length l ≡ 0 → 0 < length l → ⊥
            not_begun z b = omega (arith, z, b)

            some : (z : Bool) → cond (true && z) (ends t) (stops t) ≡ cond (z && true) (ends t) (stops t)
            some true = refl
            some false = refl

    pub turn_frame : (e : ℕ) → EndsAt e l → turn last t left (stream_of l)
        ≡ behind (3 + length (body_to e l)) (line_bytes (desk_body t (body_to e l)).1) (turn last (desk_body t (body_to e l)).0 (left - length (line_bytes (desk_body t (body_to e l)).1)) (stream_of (drop e l)))
    unfolding turn
    turn_frame e a = rw (stream_of_end l e a, le-leb 358 left h) refl

-- no more is used than there is
used_le_bytes : (last : Bool) (s : Stream) (t : Table) (left : ℕ) → (turn last t left s).used ≤ length (bytes_of s)
unfolding turn
used_le_bytes last ended t left = omega arith
used_le_bytes last (cut_off l) t left = go (roomy left && last)
  where
    go : (b : Bool) → (cond b (ends t) (stops t)).used ≤ length l
    go true = omega arith
    go false = omega arith
used_le_bytes last (Stream.refused l) t left = go (roomy left)
  where
    go : (b : Bool) → (cond b (ends t) (stops t)).used ≤ length l
    go true = omega arith
    go false = omega arith
used_le_bytes last (framed b s) t left = go (roomy left) (used_le_bytes last s t' (left - length x))
  where
    t' : Table
    t' = (desk_body t b).0

    x : List ℕ
    x = line_bytes (desk_body t b).1

    r : Turned
    r = turn last t' (left - length x) s

    go : (z : Bool) → r.used ≤ length (bytes_of s) → (cond z (behind (3 + length b) x r) (stops t)).used ≤ length (frame_of b ++ bytes_of s)
    go true h = let e : length (frame_of b ++ bytes_of s) ≡ 3 + length b + length (bytes_of s) = simp length-append (omega arith) in omega (arith, e, h)
    go false h = omega arith

pub used_le : (last : Bool) (t : Table) (left : ℕ) (l : List ℕ) → (turn last t left (stream_of l)).used ≤ length l
used_le last t left l = subst (λ x. (turn last t left (stream_of l)).used ≤ length x) (bytes_of_stream l) (used_le_bytes last (stream_of l) t left)

-- two stretches one behind the other
pub behind_behind : (n k : ℕ) (v w : List ℕ) (r : Turned) → behind n v (behind k w r) ≡ behind (n + k) (v ++ w) r
behind_behind n k v w r = rw (add_assoc n k r.used, append_assoc v w r.written) refl

behind_none : (r : Turned) → r ≡ behind 0 [] r
behind_none r = rw (zero-add r.used) refl

-- where a turn stands: of the input l the first `used` bytes were answered by `wrote`, which lies in front of the buffer
pub record Going (last : Bool) (t : Table) (l out : List ℕ) (table : Table) (used : ℕ) (now : List ℕ) (written : ℕ) : Type 0 where
  pub wrote : List ℕ
  pub size : length wrote ≡ written
  pub fits : written ≤ length out
  pub inside : used ≤ length l
  pub buffer : now ≡ laid out 0 wrote
  pub same : turn last t (length out) (stream_of l) ≡ behind used wrote (turn last table (length out - written) (stream_of (drop used l)))

-- what the contract says of the end, in the contract's sequence
abbrev pub Ended : Turned → List ℕ → Table → ℕ → ℕ → Bool → List ℕ → Type 0
Ended r out table used written over now = (table ≡ r.table) × (used ≡ r.used) × (written ≡ length r.written) × (over ≡ r.over) × (now ≡ laid out 0 r.written)

module _ (last : Bool) (t : Table) (l out : List ℕ) where
  pub going_start : Going last t l out t 0 out 0
  going_start = record { wrote = []; size = refl; fits = omega arith; inside = omega arith; buffer = refl; same = rw (sub-zero (length out)) (behind_none (turn last t (length out) (stream_of l))) }

  module _ (table : Table) (used : ℕ) (now : List ℕ) (written : ℕ) (g : Going last t l out table used now written) where
    -- what is laid behind the lines so far is laid with them
    laid_behind : (x : List ℕ) → laid now written x ≡ laid out 0 (g.wrote ++ x)
    laid_behind x =
        let e : 0 + length g.wrote ≡ written = omega (arith, g.size) in
        ap (λ m. laid m written x) g.buffer
        ∙ ap (λ n. laid (laid out 0 g.wrote) n x) (sym e)
        ∙ laid_of_laid out g.wrote 0 (omega (arith, g.size, g.fits)) x

    length_behind : (x : List ℕ) → written + length x ≡ length (g.wrote ++ x)
    length_behind x = simp length-append (omega (arith, g.size))

    -- the turn stops here
    pub going_stops : turn last table (length out - written) (stream_of (drop used l)) ≡ stops table → Ended (turn last t (length out) (stream_of l)) out table used written false now
    going_stops e =
        subst (λ r. Ended r out table used written false now) (sym (g.same ∙ ap (behind used g.wrote) e))
        (refl, sym (add-zero used), rw (append-nil g.wrote) (sym g.size), refl, rw (append-nil g.wrote) g.buffer)

    -- the turn ends here with an 11
    pub going_ends : turn last table (length out - written) (stream_of (drop used l)) ≡ ends table
        → Ended (turn last t (length out) (stream_of l)) out table used (written + length eleven) true (laid now written eleven)
    going_ends e =
        subst (λ r. Ended r out table used (written + length eleven) true (laid now written eleven)) (sym (g.same ∙ ap (behind used g.wrote) e))
        (refl, sym (add-zero used), length_behind eleven, refl, laid_behind eleven)

    -- one frame more
    module _ (h : 358 ≤ length out - written) (e : ℕ) (a : EndsAt e (drop used l)) where
      abbrev b : List ℕ
      b = body_to e (drop used l)

      abbrev x : List ℕ
      x = line_bytes (desk_body table b).1

      abbrev rest : ℕ → List ℕ → Turned
      rest n d = turn last (desk_body table b).0 n (stream_of d)

      one_more : behind (used + (3 + length b)) (g.wrote ++ x) (rest (length out - written - length x) (drop e (drop used l)))
          ≡ behind (used + e) (g.wrote ++ x) (rest (length out - (written + length x)) (drop (used + e) l))
      one_more =
          let p = length_body_to (drop used l) e a in
          let m : length out - written - length x ≡ length out - (written + length x) = omega arith in
          let d = drop-drop e used l in
          λ i. behind (used + p i) (g.wrote ++ x) (rest (m i) (d i))

      pub going_frame : written + length x ≤ length out → Going last t l out (desk_body table b).0 (used + e) (laid now written x) (written + length x)
      going_frame k = record {
        wrote = g.wrote ++ x;
        size = sym (length_behind x);
        fits = k;
        inside = omega (arith, a.within, length-drop used l, g.inside);
        buffer = laid_behind x;
        same =
            g.same
            ∙ ap (behind used g.wrote) (turn_frame last table (length out - written) h (drop used l) e a)
            ∙ behind_behind used (3 + length b) g.wrote x (rest (length out - written - length x) (drop e (drop used l)))
            ∙ one_more;
      }

-- the same as the code gives it, clause by clause
pub clauses : (r : Turned) (l out : List ℕ) (table : Table) (used written : ℕ) (over : Bool) (now : List ℕ) → Ended r out table used written over now → r.used ≤ length l
    → (x : Turn) → x ≡ turn_of (shut_table table) used written over → (z : List ℕ) → z ≡ now → length z ≡ length out
    → (x.table ≡ shut_table r.table) × ((x.used ≡ r.used) × ((x.written ≡ length r.written) × ((x.over ≡ r.over) × ((z ≡ laid out 0 r.written) × ((x.used ≤ length l) × (x.written ≤ length out))))))
clauses r l out table used written over now e h x p z q n =
    let u = ap (λ y. y.used) p ∙ e.1 in
    let w = ap (λ y. y.written) p ∙ e.2 in
    let b = q ∙ e.4 in
    let f = laid_fits out r.written 0 (omega arith) (ap length (sym b) ∙ n) in
    (ap (λ y. y.table) p ∙ ap shut_table e.0, (u, (w, (ap (λ y. y.over) p ∙ e.3, (b, (omega (arith, u, h), omega (arith, w, f)))))))
