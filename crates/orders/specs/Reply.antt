-- The answers of the check and of the writer, with the numbers that RULES gives the refusals.
use Rattle.std.specs.Prelude.{Bool, true, false, ℕ, Result, Ok, Err}
use Rattle.refusals.specs.declared.Refusal.{Refusal}
use Rattle.refusals.specs.Numbers.{number_of}

pub data Reply : Type 0 where
  refused : ℕ → Reply
  yes : Reply
  no : Reply
  wrote : ℕ → Reply

abbrev pub check_reply : Result Bool Refusal → Reply
check_reply (Ok true) = yes
check_reply (Ok false) = no
check_reply (Err r) = refused (number_of r)

abbrev pub write_reply : Result ℕ Refusal → Reply
write_reply (Ok k) = wrote k
write_reply (Err r) = refused (number_of r)
