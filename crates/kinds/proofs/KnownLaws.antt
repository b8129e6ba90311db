-- Every kind has a row in the table. Assumes nothing.
use Rattle.std.proofs.Common.{◌≡◌, refl, ltb, length, true}
use Rattle.kinds.specs.declared.Kind.{Kind}
use Rattle.kinds.specs.Kinds.{code_of, kinds}

pub known : (k : Kind) → ltb (code_of k) (length kinds) ≡ true
known Kind.Open = refl
known Kind.Begin = refl
known Kind.Ticket = refl
known Kind.Prepared = refl
known Kind.Abort = refl
known Kind.Decide = refl
known Kind.Forget = refl
known Kind.Sweep = refl
known Kind.Propose = refl
known Kind.Order = refl
