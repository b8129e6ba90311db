-- The contract of `aligned` leaves one list. Assumes nothing.
use mathlib.Core.Path.{◌≡◌, sym, ◌∙◌}
use mathlib.Core.List.{List, []}
use Prim.Native.Nat.{ℕ, ◌<◌}
use lib.ListN.{length, get_or}
use lib.Seq.{ext_get_or}
use Rattle.std.specs.Prelude.{Option}
use Rattle.orders.specs.Arrow.{Tickets}
use Rattle.method.specs.declared.Table.{Table}
use Rattle.kept.specs.Aligned.{Aligned}

pub aligned_unique : (t : Table) (chosen : Option ℕ) (a b : List Tickets) → Aligned t chosen a → Aligned t chosen b → a ≡ b
aligned_unique t chosen a b p q = ext_get_or [] a b (p.size ∙ sym q.size) each
  where
    each : (i : ℕ) → i < length a → get_or a i [] ≡ get_or b i []
    each i h = let l : i < 32 = rw p.size at h in p.each i l ∙ sym (q.each i l)
