-- What the method's call answers and leaves is handed on as it is, whatever a refusal is told by. Assumes nothing.
use mathlib.Core.Path.{◌≡◌, ◌∙◌, ap}
use Rattle.method.specs.declared.Answered.{Answered}
use Rattle.method.specs.declared.Table as method
use Rattle.table.specs.declared.Table.{Table}
use Rattle.table.specs.Shut.{shut_table}

pub handed : {R : Type 0} (b : Answered Table R) (a m : Answered method.Table R) → a ≡ m → (b.answer ≡ a.answer) × (b.table ≡ shut_table a.table)
    → (b.answer ≡ m.answer) × (b.table ≡ shut_table m.table)
handed {R} b a m e s = (s.0 ∙ ap (λ (x : Answered method.Table R). x.answer) e, s.1 ∙ ap (λ (x : Answered method.Table R). shut_table x.table) e)
