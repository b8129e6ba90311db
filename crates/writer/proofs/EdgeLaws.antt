-- The edges of the buffer: with no rows a write at its very end is no refusal, and a place past the end is one. Assumes nothing.
use mathlib.Core.Path.{◌≡◌, refl, sym, ◌∙◌}
use mathlib.Core.Bool.{true}
use mathlib.Core.List.{List, [], append-nil}
use Prim.Native.Nat.{ℕ, ◌+◌, ◌<◌}
use native.Mathlib.Omega.{arith}
use lib.ListN.{length}
use lib.Seq.{take-length, drop-length}
use Rattle.endian.specs.Laid.{laid}
use Rattle.graph.specs.Acyclic.{acyclic, peel}
use Rattle.graph.specs.Order.{write, greedy}
use Rattle.orders.specs.Entries.{number_of, entry_arrowb, entries_from, entries_in}
use Rattle.orders.specs.Good.{apartb, goodb}
use Rattle.orders.specs.Reply.Reply.{refused, wrote}
use Rattle.orders.specs.Write.{write_result}
use Rattle.writer.proofs.WriterLaws.{leaves_no_room, leaves_order}

pub good_of_none : goodb [] ≡ true
unfolding goodb entries_in entries_from apartb
good_of_none = refl

acyclic_of_none : acyclic entry_arrowb (entries_in []) ≡ true
unfolding acyclic peel entries_in entries_from
acyclic_of_none = refl

greedy_of_none : [] ≡ greedy entry_arrowb number_of (entries_in [])
unfolding greedy write entries_in entries_from
greedy_of_none = refl

laid_of_none : (out : List ℕ) → laid out (length out) [] ≡ out
laid_of_none out =
    let e : length out + 0 ≡ length out = omega arith in
    rw (take-length out, e, drop-length out) (append-nil out)

pub write_none_at_end : (out : List ℕ) → ((write_result [] (length out) out).0 ≡ wrote 0) × ((write_result [] (length out) out).1 ≡ out)
write_none_at_end out =
    let r = leaves_order [] (length out) out good_of_none (omega arith) acyclic_of_none [] greedy_of_none in
    (sym r.0, sym r.1 ∙ laid_of_none out)

pub write_past_end : (flat : List ℕ) (place : ℕ) (out : List ℕ) → goodb flat ≡ true → length out < place
    → ((write_result flat place out).0 ≡ refused 14) × ((write_result flat place out).1 ≡ out)
write_past_end flat place out g h =
    let r = leaves_no_room flat place out g (omega arith) in
    (sym r.0, sym r.1)
