-- How many sites a transaction uses, by what is found of its number. Assumes nothing.
use mathlib.Core.Path.{◌≡◌, refl, sym, ◌∙◌}
use mathlib.Core.Bool.{Bool, true, false, cond}
use Prim.Native.Nat.{ℕ}
use Rattle.std.specs.Prelude.{Ok, Err}
use Rattle.refusals.specs.declared.Refusal.{Refusal}
use Rattle.sites.specs.Sites.{sites_used}
use Rattle.method.specs.declared.Table.{Table}
use Rattle.method.specs.Records.{row_at}
use Rattle.method.specs.Slots.{slot_of, row_of_number}
use Rattle.method.specs.Conditions.{is_closed, unknown}
use Rattle.method.proofs.RecordLaws.{never}
use Rattle.slots.specs.Gate.{gate_of}
use Rattle.slots.proofs.GateLaws.{gate_is}
use Rattle.table.specs.Shut.{used_by}

module _ (t : Table) (n : ℕ) where
  pub used_unknown : {k : Refusal} → gate_of t n ≡ Err k → 0 ≡ used_by t n
  used_unknown {k} e = go (is_closed t) (unknown t n) (sym (gate_is t n) ∙ e)
    where
      go : (a b : Bool) → cond a (Err Refusal.NotOpen) (cond b (Err Refusal.Unknown) (Ok (slot_of t n))) ≡ Err k → 0 ≡ cond a 0 (cond b 0 (sites_used (row_of_number t n).sites))
      go true b e = refl
      go false true e = refl
      go false false e = never (cc)

  pub used_at : {i : ℕ} → gate_of t n ≡ Ok i → sites_used (row_at t i).sites ≡ used_by t n
  used_at {i} e = go (is_closed t) (unknown t n) (sym (gate_is t n) ∙ e)
    where
      go : (a b : Bool) → cond a (Err Refusal.NotOpen) (cond b (Err Refusal.Unknown) (Ok (slot_of t n))) ≡ Ok i → sites_used (row_at t i).sites ≡ cond a 0 (cond b 0 (sites_used (row_of_number t n).sites))
      go true b e = never (cc)
      go false true e = never (cc)
      go false false e = let s : slot_of t n ≡ i = cc in sym (rw s)
