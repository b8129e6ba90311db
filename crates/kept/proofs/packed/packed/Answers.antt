-- `kept::packed::packed` meets its contract: after i turns the kept ones of the first i rows are packed. Assumes nothing.
use mathlib.Core.Path.{◌≡◌, refl, ◌∙◌}
use mathlib.Core.Bool.{true, false}
use Prim.Native.Nat.{◌+◌, ◌*◌, ◌<◌, ◌≤◌}
use native.Mathlib.Omega.{arith}
use lib.ListN.{length, get_or, take}
use lib.Seq.{take_all}
use borrow.Author.Rules.{rules}
use Rattle.endian.proofs.LaidLaws.{laid_of_laid}
use Rattle.graph.proofs.MemberLaws.{length_keep_le}
use Rattle.method.specs.Records.{committed, past_end}
use Rattle.kept.specs.Packed.{flat, zeros}
use Rattle.kept.proofs.PackedLaws.{flat_none, flat_more, flat_same, count_more, count_same, length_more, few}
use Rattle.kept.proofs.packed.packed.Goals.{then-eq, else-eq}
use Rattle.kept.proofs.packed.packed.Goals as goal

pub loop-row-init : goal.loop-row-init
loop-row-init c = (refl, rw flat_none refl, rw flat_none refl)

pub overflow_mul-count : goal.overflow_mul-count
overflow_mul-count c = omega (arith, few c.args.rows.now c.loop-row.row-index (omega arith), c.loop-row.invariant.0)

pub lay_entries-requires : goal.lay_entries-requires
lay_entries-requires c = omega (arith, few c.args.rows.now c.loop-row.row-index (omega arith), c.loop-row.invariant.0)

pub overflow_add-count : goal.overflow_add-count
overflow_add-count c = omega (arith, few c.args.rows.now c.loop-row.row-index (omega arith), c.loop-row.invariant.0)

pub loop-row-preserved : goal.loop-row-preserved
loop-row-preserved c =
    let rows = c.args.rows.now in
    let i = c.loop-row.row-index in
    let h : i < length rows = omega arith in
    let v = c.loop-row.invariant in
    let r = get_or rows i past_end in
    elim c.if-eq.branch [
      | then-eq w ↦
          let yes : committed r ≡ true = search rules in
          let room : 0 + length (flat (take i rows)) ≤ length zeros = omega (arith, few rows i h, v.2) in
          let place : 9 * c.loop-row.count ≡ 0 + length (flat (take i rows)) = omega (arith, v.0, v.2) in (
            rw (w.count-is, count_more rows i h yes) (omega (arith, v.0)),
            rw (w.flat-is, flat_more rows i h yes) (w.lay_entries.ensures.flat ∙ rw (v.1, place) (laid_of_laid zeros (flat (take i rows)) 0 room _)),
            length_more rows i h yes w.lay_entries.ensures.eight v.2,
          )
      | else-eq w ↦
          let no : committed r ≡ false = search rules in
          (rw (w.count-is, count_same rows i h no) v.0, rw (w.flat-is, flat_same rows i h no) v.1, rw (flat_same rows i h no, count_same rows i h no) v.2)
    ]

pub returns : goal.returns
returns c =
    let rows = c.args.rows.now in
    let all : take c.loop-row.row-index rows ≡ rows = take_all c.loop-row.row-index rows (omega arith) in
    let v = rw all at c.loop-row.invariant in
    record {
      answer = cc (v.0, v.1);
      whole = omega (arith, v.0, v.2);
      few = omega (arith, v.0, length_keep_le committed rows);
    }
