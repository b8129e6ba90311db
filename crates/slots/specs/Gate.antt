-- What is found of a number: its slot, or the refusal of every call that names one. proofs/GateLaws.antt joins it to the checks of crate
-- `method`.
use Rattle.std.specs.Prelude.{cond, position, ok_or, ℕ, Result, Err}
use Rattle.refusals.specs.declared.Refusal.{Refusal}
use Rattle.method.specs.declared.Table.{Table}
use Rattle.method.specs.Slots.{has_number}
use Rattle.method.specs.Conditions.{is_closed}

abbrev pub gate_of : Table → ℕ → Result ℕ Refusal
gate_of t n = cond (is_closed t) (Err Refusal.NotOpen) (ok_or (position (has_number n) t.rows) Refusal.Unknown)
