-- What a caller takes from the writers' contracts: None says that there was no room and nothing else, and where 358 bytes are left there is room.
-- Assumes nothing.
use mathlib.Core.Path.{◌≡◌}
use mathlib.Core.List.{List}
use Prim.Native.Nat.{ℕ, ◌+◌, ◌≤◌}
use native.Mathlib.Omega.{arith}
use lib.ListN.{length}
use Rattle.endian.specs.Laid.{laid, stored}
use Rattle.lines.specs.Line.{Line, line_bytes, InRange}
use Rattle.std.specs.Prelude.{Some, None}
use Rattle.decimal.specs.Written.{written_count}
use Rattle.decimal.proofs.WrittenLaws.{written_of_room, no_room_of_none}
use Rattle.lines.proofs.LineLaws.{length_line_le}

module _ (l : List ℕ) (at : ℕ) (x : Line) where
  pub no_room_of_none_line : written_count l at (line_bytes x) ≡ None → at + length (line_bytes x) ≤ length l → ⊥
  no_room_of_none_line = no_room_of_none l (line_bytes x) at

  pub written_of_358 : InRange x → at + 358 ≤ length l → (Some (length (line_bytes x)) ≡ written_count l at (line_bytes x)) × (laid l at (line_bytes x) ≡ stored l at (line_bytes x))
  written_of_358 h g = written_of_room l (line_bytes x) at (omega (arith, length_line_le x h))
