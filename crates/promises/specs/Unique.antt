-- Demand 1, its word `one`: two results that meet the contract of a public function are equal, table and lent memory too.
-- proofs/ProvedUnique.antt has the proof.
use Rattle.method.specs.Calls.{CallAnswer}
use Rattle.std.specs.Prelude.{◌≡◌, Bool, List, ℕ, Option, Result}
use Rattle.orders.specs.Arrow.{Tickets}
use Rattle.paths.specs.Paths.{TellsCycle, TellsReached}
use Rattle.kept.specs.Aligned.{Aligned}
use Rattle.refusals.specs.declared.Refusal.{Refusal}
use Rattle.lines.specs.declared.Words.{Words}
use Rattle.method.specs.declared.Table as method
use Rattle.method.specs.Calls.{Call}
use Rattle.table.specs.declared.Table.{Table}
use Rattle.replies.specs.declared.Replied.{Replied}
use Rattle.desk.specs.declared.Served.{Served}
use Rattle.turns.specs.declared.Turn.{Turn}
use Rattle.promises.specs.Stated.{CallGives, CheckGives, WriteGives, MessageGives, LineGives, OrderGives, ReplyGives, ServeGives, TurnGives}

-- a contract `r ≡ ..` leaves one result, whatever stands behind: so of `ccheck`, of the readers in `frames` and `wire`, of `table`'s
-- questions, and of all functions that are not named below
abbrev pub EqualLeavesOne : Type 1
EqualLeavesOne = (A : Type 0) (f x y : A) → x ≡ f → y ≡ f → x ≡ y

pub record Unique : Type 0 where
  -- a call, by value, lent or lending: the answer and the table
  pub calls : (t : Table) (c : Call) (a b : CallAnswer) (u v : Table) → CallGives t c a u → CallGives t c b v → (a ≡ b) × (u ≡ v)
  -- the answer, and what the lent buffer holds
  pub write : (flat : List ℕ) (place : ℕ) (out : List ℕ) (a b : Result ℕ Refusal) (k l : List ℕ) → WriteGives flat place out a k → WriteGives flat place out b l → (a ≡ b) × (k ≡ l)
  pub message : (body out : List ℕ) (place : ℕ) (a b : Result ℕ Refusal) (k l : List ℕ) → MessageGives body out place a k → MessageGives body out place b l → (a ≡ b) × (k ≡ l)
  pub line : (w : Words) (out : List ℕ) (place : ℕ) (a b : Option ℕ) (k l : List ℕ) → LineGives w out place a k → LineGives w out place b l → (a ≡ b) × (k ≡ l)
  pub order : (numbers out : List ℕ) (place : ℕ) (a b : Option ℕ) (k l : List ℕ) → OrderGives numbers out place a k → OrderGives numbers out place b l → (a ≡ b) × (k ≡ l)
  pub reply : (t : Table) (body : List ℕ) (a b : Replied) → ReplyGives t body a → ReplyGives t body b → a ≡ b
  pub serve : (t : Table) (body out : List ℕ) (place : ℕ) (a b : Served) (k l : List ℕ) → ServeGives t body out place a k → ServeGives t body out place b l → (a ≡ b) × (k ≡ l)
  pub turn : (t : Table) (input : List ℕ) (last : Bool) (out : List ℕ) (a b : Turn) (k l : List ℕ) → TurnGives t input last out a k → TurnGives t input last out b l → (a ≡ b) × (k ≡ l)
  -- contracts that say it in other ways: checker::check, paths::has_cycle, paths::reached and kept::aligned
  pub check : (flat o : List ℕ) (a b : Result Bool Refusal) → CheckGives flat o a → CheckGives flat o b → a ≡ b
  pub cycle : (tickets : List Tickets) (a b : Bool) → TellsCycle tickets a → TellsCycle tickets b → a ≡ b
  pub reached : (tickets : List Tickets) (marks a b : List Bool) → TellsReached tickets marks a → TellsReached tickets marks b → a ≡ b
  pub aligned : (t : method.Table) (chosen : Option ℕ) (a b : List Tickets) → Aligned t chosen a → Aligned t chosen b → a ≡ b
