-- Serving in turns writes what serving all at once writes, however the input is cut and however small the buffer is. Assumes nothing.
use mathlib.Core.Path.{◌≡◌, refl, sym, ◌∙◌, ap}
use mathlib.Core.Bool.{Bool, true, false, cond, ◌&&◌, true≢false}
use mathlib.Core.List.{List, [], ◌∷◌, ◌++◌, append_assoc, append-nil}
use Prim.Native.Nat.{ℕ, ◌+◌, ◌-◌}
use native.Mathlib.Omega.{arith}
use lib.ListN.{length, drop}
use lib.Seq.{drop-drop, drop_at}
use Rattle.lines.specs.Line.{line_bytes}
use Rattle.lines.specs.Reading.{output_bytes}
use Rattle.frames.specs.Stream.{Stream, ended, cut_off, framed, stream_of, continued, bytes_of, WellFormed}
use Rattle.frames.specs.Frame.{frame_of}
use Rattle.frames.proofs.StreamLaws.{stream_of_append, stream_is, bytes_of_stream, well_formed_stream}
use Rattle.method.specs.declared.Table.{Table}
use Rattle.replies.specs.Desk.{desk_body}
use Rattle.turns.specs.Lines.{lines_of, answer_to}
use Rattle.turns.specs.Turn.{Turned, turn, roomy, stops, ends, behind, eleven}
use Rattle.turns.specs.Pieces.{joined, in_pieces}

-- what is still to be written after a turn over the bytes l, when m comes behind them
abbrev pub still : Turned → List ℕ → List ℕ → List ℕ
still r l m = cond r.over [] (answer_to r.table (drop r.used l ++ m))

-- reading again what was not read changes nothing
stream_again : (s : Stream) → WellFormed s → (m : List ℕ) → stream_of (bytes_of s ++ m) ≡ continued s m
stream_again s w m = stream_of_append (bytes_of s) m ∙ ap (λ x. continued x m) (stream_is (bytes_of s) s w refl)

abbrev output : Table → Stream → List ℕ
output t s = output_bytes (lines_of t s)

-- behind a frame
pub drop_frame : (b xs : List ℕ) (u : ℕ) → drop (3 + length b + u) (frame_of b ++ xs) ≡ drop u xs
drop_frame b xs u =
    let e : length (frame_of b) ≡ 3 + length b = omega arith in
    sym (drop-drop u (3 + length b) (frame_of b ++ xs)) ∙ ap (drop u) (drop_at (frame_of b) xs (3 + length b) e)

still_behind : (b xs m w : List ℕ) (r : Turned) → still (behind (3 + length b) w r) (frame_of b ++ xs) m ≡ still r xs m
still_behind b xs m w r = ap (λ l. cond r.over [] (answer_to r.table (l ++ m))) (drop_frame b xs r.used)

-- the law of a turn, over the stream
turned_rest : (last : Bool) (m : List ℕ) → (last ≡ true → m ≡ []) → (s : Stream) → WellFormed s → (t : Table) (left : ℕ)
    → output t (continued s m) ≡ (turn last t left s).written ++ still (turn last t left s) (bytes_of s) m
unfolding turn lines_of output_bytes eleven
turned_rest last m h ended w t left = refl
turned_rest last m h (cut_off l) w t left = go (roomy left) last h
  where
    go : (b z : Bool) → (z ≡ true → m ≡ []) → output t (stream_of (l ++ m)) ≡ (cond (b && z) (ends t) (stops t)).written ++ still (cond (b && z) (ends t) (stops t)) l m
    go true true h = rw (h refl, append-nil l, stream_is l (cut_off l) w refl) refl
    go true false h = refl
    go false z h = refl
turned_rest last m h (Stream.refused l) w t left = go (roomy left)
  where
    go : (b : Bool) → output t (Stream.refused (l ++ m)) ≡ (cond b (ends t) (stops t)).written ++ still (cond b (ends t) (stops t)) l m
    go true = refl
    go false = sym (ap (output t) (stream_again (Stream.refused l) w m))
turned_rest last m h (framed b s) w t left = go (roomy left) (turned_rest last m h s w.1 t' (left - length bytes))
  where
    t' : Table
    t' = (desk_body t b).0

    bytes : List ℕ
    bytes = line_bytes (desk_body t b).1

    r : Turned
    r = turn last t' (left - length bytes) s

    go : (z : Bool) → output t' (continued s m) ≡ r.written ++ still r (bytes_of s) m
        → bytes ++ output t' (continued s m) ≡ (cond z (behind (3 + length b) bytes r) (stops t)).written ++ still (cond z (behind (3 + length b) bytes r) (stops t)) (frame_of b ++ bytes_of s) m
    go true e =
        ap (λ l. bytes ++ l) (e ∙ ap (λ l. r.written ++ l) (sym (still_behind b (bytes_of s) m bytes r)))
        ∙ sym (append_assoc bytes r.written (still (behind (3 + length b) bytes r) (frame_of b ++ bytes_of s) m))
    go false e = sym (ap (output t) (stream_again (framed b s) w m))

-- the same over bytes: what is written at once is what this turn writes, and then what is written for the rest
pub turn_rest : (last : Bool) (t : Table) (left : ℕ) (l m : List ℕ) → (last ≡ true → m ≡ [])
    → answer_to t (l ++ m) ≡ (turn last t left (stream_of l)).written ++ still (turn last t left (stream_of l)) l m
turn_rest last t left l m h =
    ap (output t) (stream_of_append l m)
    ∙ turned_rest last m h (stream_of l) (well_formed_stream l) t left
    ∙ ap (λ x. (turn last t left (stream_of l)).written ++ still (turn last t left (stream_of l)) x m) (bytes_of_stream l)

-- pieces
pub pieces_whole : (ps : List (List ℕ × ℕ)) (t : Table) (l : List ℕ) → in_pieces ps t l ≡ answer_to t (l ++ joined ps)
unfolding joined in_pieces
pieces_whole [] t l = ap (answer_to t) (sym (append-nil l))
pieces_whole (p ∷ ps) t l =
    let k = l ++ p.0 in
    let r = turn false t p.1 (stream_of k) in
    ap (λ x. r.written ++ cond r.over [] x) (pieces_whole ps r.table (drop r.used k))
    ∙ sym (turn_rest false t p.1 k (joined ps) (λ e. absurd (true≢false (sym e))))
    ∙ ap (answer_to t) (append_assoc l p.0 (joined ps))
