-- The two ways a decision can go, said of the slot that was found.
use Rattle.refusals.specs.declared.Refusal.{Refusal}
use Rattle.std.specs.Prelude.{ℕ, Ok}
use Rattle.sites.specs.Sites.{sites_of}
use Rattle.method.specs.declared.Table.{Table}
use Rattle.method.specs.declared.Answer.{Answer}
use Rattle.method.specs.declared.Answered.{Answered}
use Rattle.method.specs.Records.{number, free_row, row_at, with_row, with_high}
use Rattle.method.specs.Effects.{answered, committed_row, raised}

abbrev pub committing : Table → ℕ → ℕ → Answered Table Refusal
committing t i n = answered (with_high (with_row t i (committed_row t (row_at t i))) (raised (row_at t i) (sites_of (row_at t i).sites) t.high)) (Ok (Answer.Commit (number n)))

abbrev pub cancelling : Table → ℕ → ℕ → Answered Table Refusal
cancelling t i n = answered (with_row t i free_row) (Ok (Answer.Cycle (number n)))
