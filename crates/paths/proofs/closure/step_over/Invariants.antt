use mathlib.Core.Path.{◌≡◌}
use mathlib.Core.List.{[]}
use Prim.Native.Nat.{ℕ, ◌<◌, ◌≤◌}
use lib.ListN.{length, get_or}
use Rattle.paths.specs.Entries.{RowIs, over}
use Rattle.paths.proofs.closure.step_over.Given as goal

abbrev pub invariant-loop-row : goal.invariant-loop-row
invariant-loop-row l = (length l.square ≡ 32)
    × ((m : ℕ) → m < l.row-index → RowIs (over l.initial.square l.k m) (get_or l.square m []))
    × ((m : ℕ) → l.row-index ≤ m → get_or l.square m [] ≡ get_or l.initial.square m [])
