-- The theorem that a crate cites for each function that lends its table: a thin function meets its contract where its callee meets its own.
-- Assumes `Logic`.
--     Thin         a form with its MIR and the walk of that: `lend`, `look` and `take` of the files of those names
--     thin_spec    the theorem.        told         one fact for another, in a `Passes`
--     heard, beside    a clause that stands before others: learned, and said
use mathlib.Core.Path.{◌≡◌}
use seplogic.Ra.Ura.{Ura}
use mir.Syntax.{Callee as FnName, Fn}
use base.Logic.{SProp, ent, sep, via, fst∗, snd∗, id⊢}
use prog.Wp.{WpFn, Closed}
use prog.Model.{Model}
use prog.Routine as routines
use types.Logic.{Logic}
use contract.Monad.{fact, fact_use, fact_i, conj, conj_i}
use contract.Fact.{fact_hold}
use contract.Running.{Running, tables, tables_of}
use sound.WpLaws.{fm_of, WpFn-mono}
use denote.Triple.Spec.{Meets, triple_of}
use denote.Triple.Table.{entered, cited}
use denote.Triple.Clauses.{Clauses, closing}
use denote.Triple.Walked.{walked, walk_Meets}
use Rattle.thin.proofs.Args.{slots, spells, tells, gave_goes}
use Rattle.thin.proofs.Held.{stay_goes, spell_tells}
use Rattle.thin.proofs.Form.{Form, here, Outer, Inner, stayed, Passes, Callee, its, Walk}

-- for a clause that the two contracts do not say in the same words
pub told : {M : Type 1} (𝓤 : Ura M) {φ ψ : Type 0} → (φ → ψ) → ent 𝓤 (fact 𝓤 φ) (fact 𝓤 ψ)
told 𝓤 {φ} {ψ} h = fact_use 𝓤 φ (id⊢ 𝓤 (fact 𝓤 φ)) (λ x. fact_i 𝓤 ψ (fact 𝓤 φ) (h x))

-- clauses stand side by side, under ∗: the first of several is learned, and a fact is said before what else is
pub heard : {M : Type 1} (𝓤 : Ura M) {φ : Type 0} {P Q : SProp 𝓤} → (φ → ent 𝓤 P Q) → ent 𝓤 (sep 𝓤 (fact 𝓤 φ) P) Q
heard 𝓤 {φ} {P} h = fact_use 𝓤 φ (fst∗ 𝓤 (fact 𝓤 φ) P) (λ x. via 𝓤 P (snd∗ 𝓤 (fact 𝓤 φ) P) (h x))

pub beside : {M : Type 1} (𝓤 : Ura M) {φ : Type 0} {P Q : SProp 𝓤} → ent 𝓤 P (fact 𝓤 φ) → ent 𝓤 P Q → ent 𝓤 P (sep 𝓤 (fact 𝓤 φ) Q)
beside 𝓤 {φ} {Q = Q} f q = via 𝓤 (conj 𝓤 (fact 𝓤 φ) Q) (conj_i 𝓤 (fact 𝓤 φ) Q f q) (fact_hold 𝓤 φ Q)

pub record Thin : Type 2 where
  pub form : Form
  pub fn : FnName → Fn
  pub walk : Walk form fn

-- what a function's `Proof.antt` cites: f is the function and g its callee, c and c' their contracts
module _ (t : Thin) {M : Type 1} {𝓤 : Ura M} (𝓛 : Logic 𝓤) (𝓜 : Model 𝓤 𝓛.H) (𝓡 : Running 𝓤 𝓛.H 𝓜) (env : routines.Env) (f g : FnName) where
  open 𝓛 use {H}

  abbrev F : Form
  F = t.form

  pub thin_spec : Closed 𝓤 H (tables 𝓤 H 𝓜 𝓡 env).C (tables 𝓤 H 𝓜 𝓡 env).Λ f (t.fn g) → (c : Clauses 𝓤 (Outer F)) (c' : Clauses 𝓤 (Inner F))
      → Passes F 𝓛 c c'
      → (its : routines.Routine) → env g ≡ its → Meets 𝓛 (Inner F).signature (𝓡.run its) (closing 𝓛 (Inner F) c')
      → Meets 𝓛 (Outer F).signature ((tables 𝓤 H 𝓜 𝓡 env).C f) (closing 𝓛 (Outer F) c)
  unfolding tables_of
  thin_spec closed c c' P routine calls met =
      let 𝓣 = tables_of 𝓤 H 𝓜 (tables 𝓤 H 𝓜 𝓡 env) in
      let known = cited 𝓤 H (Callee F 𝓛 c c') 𝓜 𝓡 env g routine calls met in
      entered 𝓤 H (triple_of 𝓛 (Outer F).signature (closing 𝓛 (Outer F) c)) 𝓣.C 𝓣.Λ f (t.fn g) closed
      (walk_Meets 𝓛 (Outer F) (stayed F) (stay_goes F.tab F.args 𝓛 F.outer, gave_goes 𝓛 (slots F.args (here F))) c
      (WpFn 𝓤 H 𝓣.C 𝓣.Λ (t.fn g)) (WpFn-mono 𝓤 H 𝓛.laws 𝓣 (t.fn g))
      (walked 𝓛 (Outer F) (stayed F) c (WpFn 𝓤 H 𝓣.C 𝓣.Λ (t.fn g)) (λ κs. (its F κs, spells F.args (here F) κs))
      (λ κs. (spell_tells F.tab F.args F.outer κs, tells F.args (here F) κs))
      (λ κs qs bounds a u are. t.walk M 𝓤 𝓛 c c' P 𝓣.C 𝓣.Λ (fm_of 𝓤 H 𝓛.laws 𝓣) g known κs qs a u are.0 are.1)))
