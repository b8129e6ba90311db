-- A turn stops only where the longest line might not fit, or where no whole message is left. Assumes nothing.
use mathlib.Core.Path.{◌≡◌, refl}
use mathlib.Core.Bool.{Bool, true, false, cond, ◌&&◌, true≢false}
use mathlib.Core.List.{List, [], ◌++◌}
use mathlib.Core.Logic.{◌⊎◌, inl, inr}
use Prim.Native.Nat.{ℕ, ◌+◌, ◌-◌, ◌<◌}
use native.Mathlib.Omega.{arith}
use lib.ListN.{length, drop, length-append}
use borrow.Author.Tests.{leb-false}
use Rattle.lines.specs.Line.{line_bytes}
use Rattle.frames.specs.Frame.{Cut, frame_of}
use Rattle.frames.specs.Stream.{Stream, ended, cut_off, framed, stream_of, bytes_of, WellFormed}
use Rattle.frames.proofs.StreamLaws.{bytes_of_stream, well_formed_stream}
use Rattle.method.specs.declared.Table.{Table}
use Rattle.replies.specs.Desk.{desk_body}
use Rattle.turns.specs.Turn.{Turned, turn, roomy, stops, ends, behind}
use Rattle.turns.proofs.PieceLaws.{drop_frame}

-- there was no room for one more, or of the bytes l nothing is left, or a part of a message that may still come
abbrev Stopped : Bool → ℕ → Turned → List ℕ → Type 0
Stopped last left r l = (left < length r.written + 358) ⊎ ((drop r.used l ≡ []) ⊎ (Cut (drop r.used l) × (last ≡ false)))

turned_stops : (last : Bool) (s : Stream) → WellFormed s → (t : Table) (left : ℕ) → (turn last t left s).over ≡ false → Stopped last left (turn last t left s) (bytes_of s)
unfolding turn
turned_stops last ended w t left e = inr (inl refl)
turned_stops last (cut_off l) w t left e = go (roomy left) last refl refl e
  where
    go : (b z : Bool) → roomy left ≡ b → last ≡ z → (cond (b && z) (ends t) (stops t)).over ≡ false → Stopped last left (cond (b && z) (ends t) (stops t)) l
    go true true p q e = absurd (true≢false e)
    go true false p q e = inr (inr (w, q))
    go false z p q e = inl (leb-false 358 left p)
turned_stops last (Stream.refused l) w t left e = go (roomy left) refl e
  where
    go : (b : Bool) → roomy left ≡ b → (cond b (ends t) (stops t)).over ≡ false → Stopped last left (cond b (ends t) (stops t)) l
    go true p e = absurd (true≢false e)
    go false p e = inl (leb-false 358 left p)
turned_stops last (framed b s) w t left e = go (roomy left) refl e (turned_stops last s w.1 t' (left - length bytes))
  where
    t' : Table
    t' = (desk_body t b).0

    bytes : List ℕ
    bytes = line_bytes (desk_body t b).1

    r : Turned
    r = turn last t' (left - length bytes) s

    go : (z : Bool) → roomy left ≡ z → (cond z (behind (3 + length b) bytes r) (stops t)).over ≡ false → (r.over ≡ false → Stopped last (left - length bytes) r (bytes_of s))
        → Stopped last left (cond z (behind (3 + length b) bytes r) (stops t)) (frame_of b ++ bytes_of s)
    go false p e h = inl (leb-false 358 left p)
    go true p e h = rest (h e)
      where
        rest : Stopped last (left - length bytes) r (bytes_of s) → Stopped last left (behind (3 + length b) bytes r) (frame_of b ++ bytes_of s)
        rest (inl l) = inl (omega (arith, length-append bytes r.written))
        rest (inr m) = inr (rw (drop_frame b (bytes_of s) r.used) m)

pub turn_stops : (last : Bool) (t : Table) (left : ℕ) (l : List ℕ) → (turn last t left (stream_of l)).over ≡ false → Stopped last left (turn last t left (stream_of l)) l
turn_stops last t left l e = rw (bytes_of_stream l) at (turned_stops last (stream_of l) (well_formed_stream l) t left e)
