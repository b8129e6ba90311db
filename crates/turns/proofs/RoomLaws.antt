-- What serving a body leaves where there is room. Assumes nothing.
use mathlib.Core.Path.{◌≡◌, sym}
use mathlib.Core.List.{List}
use Prim.Native.Nat.{ℕ, ◌+◌, ◌-◌, ◌≤◌}
use lib.ListN.{length, take, length-append, length-drop}
use lib.Seq.{length-take-le}
use borrow.Author.Tests.{le-leb}
use native.Mathlib.Omega.{arith}
use Rattle.refusals.specs.declared.Refusal.{Refusal}
use Rattle.std.specs.Prelude.{Some}
use Rattle.endian.specs.Laid.{laid, stored}
use Rattle.decimal.specs.Written.{written_count}
use Rattle.lines.specs.Line.{refused_line, InRange}
use Rattle.lines.proofs.LineLaws.{length_line_le}
use Rattle.lines.proofs.WritingLaws.{written_of_358}
use Rattle.turns.specs.Turn.{eleven}
use Rattle.method.specs.declared.Table.{Table}
use Rattle.replies.specs.Desk.{desk_body}
use Rattle.desk.specs.Served.{served_table, served_count, served_out, bytes_for}

pub served_room : (t : Table) (b out : List ℕ) (place : ℕ) → place + 358 ≤ length out
    → (served_table t b out place ≡ (desk_body t b).0) × (served_count t b out place ≡ Some (length (bytes_for t b))) × (served_out t b out place ≡ laid out place (bytes_for t b))
served_room t b out place h = let e = le-leb (place + 358) (length out) h in (rw e, rw e, rw e)

-- the last line, where there is room
pub eleven_room : (out : List ℕ) (place : ℕ) → place + 358 ≤ length out
    → (written_count out place eleven ≡ Some (length eleven)) × (stored out place eleven ≡ laid out place eleven) × (length eleven ≤ 358)
unfolding eleven
eleven_room out place h =
    let i : InRange (refused_line Refusal.BadFrame) = record { numbers = (omega arith, tt); few = omega arith } in
    let w = written_of_358 out place (refused_line Refusal.BadFrame) i h in
    (sym w.0, sym w.1, length_line_le (refused_line Refusal.BadFrame) i)

-- what was laid over a list without making it longer fitted
pub laid_fits : (l v : List ℕ) (place : ℕ) → place ≤ length l → length (laid l place v) ≡ length l → place + length v ≤ length l
laid_fits l v place h e =
    let f = length-take-le place l h in
    let g : length (take place l) + (length v + (length l - (place + length v))) ≡ length l = simp (length-append, length-drop) at e in
    omega (arith, f, g)
