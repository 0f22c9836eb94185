-- What it is that a run leaves its integers: in some statement that it takes, the arithmetic at a place, or the formula there, does.
use Rattle.std.specs.Prelude.{◌≡◌, ◌⊎◌, ℕ, suc, true, false, List, [], ◌∷◌, Option, Some}
use Rattle.jh_name.specs.declared.place.Place.{Place}
use Rattle.jh_form.specs.Tree.{TermTree, ValueTree, of_object, of_truth}
use Rattle.jh_form.specs.Meaning.{Datum, term_value}
use Rattle.jh_vars.specs.Written.{Callee}
use Rattle.jh_sem.specs.Wide.{IsWide}
use Rattle.jh_semantics.specs.Code.{Text, TruthCode, AnyCode, Target, Claim, Stmt, Stmts, ObjectCode}
use Rattle.jh_semantics.specs.Code as c
use Rattle.jh_semantics.specs.Program.{Program, Method}
use Rattle.jh_semantics.specs.State.{State, named, shown}
use Rattle.jh_semantics.specs.Values.{Value, value, truth_of, value_of}
use Rattle.jh_semantics.specs.Objects.{target_of}
use Rattle.jh_semantics.specs.Progress.{Configuration, goes_on}
use Rattle.jh_semantics.specs.Execution.{exec, receiver_of, called_on, at_entry, call}
use Rattle.jh_operands.specs.Faults.{HasValue, TruthOverflows, AnyOverflows}
use Rattle.jh_machine.specs.continuation.Assigning.{AssignOverflows}
use Rattle.jh_machine.specs.continuation.Formulas.{ValueOverflows}

-- a step was paid
pub record Paid (r u : Configuration) : Type 0 where
  pub left : ℕ
  pub one : r.steps ≡ suc left
  pub is : u ≡ record r { steps = left }

-- the values of arguments, from the left
unfoldable pub AreValues : List AnyCode → State → List Datum → Type 0
AreValues [] s ds = ds ≡ []
AreValues (e ∷ es) s ds = (d : Datum) × (rest : List Datum) × (value_of e s ≡ value d) × AreValues es s rest × (ds ≡ d ∷ rest)

-- the arithmetic at a place, in an argument, is taken, and overflows
unfoldable pub ArgsOverflow : Place → List AnyCode → State → Type 0
ArgsOverflow p [] s = ⊥
ArgsOverflow p (e ∷ es) s = AnyOverflows p e s ⊎ (HasValue (value_of e s) × ArgsOverflow p es s)

abbrev pub ClaimOverflows : Place → Claim → Configuration → Type 0
ClaimOverflows p claim u = (claim.place ≡ p) × IsWide (shown u.now u.entry) (of_truth claim.formula)

abbrev pub GhostOverflows : Place → Place → ValueTree → Configuration → Type 0
GhostOverflows p q v u = (q ≡ p) × ValueOverflows (shown u.now u.entry) v

-- the object of a ghost assignment to a field at the left place, or its value, where the object is in the class
abbrev pub GhostAtOverflows : Place → Place → Text → TermTree → Place → ValueTree → Configuration → Type 0
GhostAtOverflows p l class a q v u =
    ((l ≡ p) × IsWide (shown u.now u.entry) (of_object a)) ⊎ ((u.now.set (named class) (term_value a (shown u.now u.entry) []) ≡ true) × GhostOverflows p q v u)

-- What a statement that was paid asks itself overflows: an expression or a formula of its own, not one of the statements in it.
unfoldable pub OwnOverflows : Place → Stmt → Configuration → Type 0
OwnOverflows p (c.assign target e) u = AssignOverflows p target e u.now
OwnOverflows p (c.call q target receiver place m args) u = HasValue (target_of target u.now) × HasValue (receiver_of receiver u.now) × ArgsOverflow p args u.now
OwnOverflows p (c.branch q e a b) u = TruthOverflows p e u.now
OwnOverflows p (c.return_value e) u = AnyOverflows p e u.now
OwnOverflows p (c.assert claim) u = ClaimOverflows p claim u
OwnOverflows p (c.note claim) u = ClaimOverflows p claim u
OwnOverflows p (c.ghost x q v) u = GhostOverflows p q v u
OwnOverflows p (c.ghost_at l class f a q v) u = GhostAtOverflows p l class a q v u
OwnOverflows p c.empty u = ⊥
OwnOverflows p (c.block body) u = ⊥
OwnOverflows p (c.new_object q target class) u = ⊥
OwnOverflows p (c.loop q invariants e body) u = ⊥
OwnOverflows p c.return_nothing u = ⊥

module _ (p : Program) (place : Place) where
  mutual
    -- Something overflows at the place in a run of a statement from where it stands; of one that was paid; of a list of statements; of
    -- a loop from its condition on; and of a call.
    pub data StmtOverflows : Stmt → Configuration → Type 0 where
      paid : {s : Stmt} {r u : Configuration} → Paid r u → DoneOverflows s u → StmtOverflows s r

    pub data DoneOverflows : Stmt → Configuration → Type 0 where
      own : {s : Stmt} {u : Configuration} → OwnOverflows place s u → DoneOverflows s u
      in_block : {ss : Stmts} {u : Configuration} → AllOverflows ss u → DoneOverflows (c.block ss) u
      in_first : {q : Place} {e : TruthCode} {a : Stmt} {b : Stmts} {u : Configuration} → truth_of e u.now ≡ value true → StmtOverflows a u → DoneOverflows (c.branch q e a b) u
      in_second : {q : Place} {e : TruthCode} {a : Stmt} {b : Stmts} {u : Configuration} → truth_of e u.now ≡ value false → AllOverflows b u → DoneOverflows (c.branch q e a b) u
      in_loop : {q : Place} {is : List Claim} {e : TruthCode} {body : Stmt} {u : Configuration} → LoopOverflows e body u → DoneOverflows (c.loop q is e body) u
      in_call : {q : Place} {target : Target} {receiver : Option ObjectCode} {l : Place} {m : Callee} {args : List AnyCode} {u : Configuration} {a x this : ℕ} {ds : List Datum} →
          target_of target u.now ≡ value a → receiver_of receiver u.now ≡ value x → AreValues args u.now ds → called_on receiver l x ≡ value this →
          CallOverflows m this ds u → DoneOverflows (c.call q target receiver l m args) u

    pub data AllOverflows : Stmts → Configuration → Type 0 where
      in_one : {s : Stmt} {ss : Stmts} {r : Configuration} → StmtOverflows s r → AllOverflows (c.more s ss) r
      in_rest : {s : Stmt} {ss : Stmts} {r u : Configuration} → exec (call p) s r ≡ goes_on u → AllOverflows ss u → AllOverflows (c.more s ss) r

    pub data LoopOverflows : TruthCode → Stmt → Configuration → Type 0 where
      in_test : {e : TruthCode} {body : Stmt} {r : Configuration} → TruthOverflows place e r.now → LoopOverflows e body r
      in_turn : {e : TruthCode} {body : Stmt} {r u : Configuration} → truth_of e r.now ≡ value true → Paid r u → StmtOverflows body u → LoopOverflows e body r
      in_later : {e : TruthCode} {body : Stmt} {r u v : Configuration} → truth_of e r.now ≡ value true → Paid r u → exec (call p) body u ≡ goes_on v → LoopOverflows e body v → LoopOverflows e body r

    pub data CallOverflows : Callee → ℕ → List Datum → Configuration → Type 0 where
      in_body : {m : Callee} {this : ℕ} {args : List Datum} {r u : Configuration} {x : Method} → Paid r u → p.method m ≡ Some x → AllOverflows x.body (at_entry x this args u) → CallOverflows m this args r

-- Something overflows at a place in a run of a method from a state.
abbrev pub RunOverflows : Program → Place → Callee → State → ℕ → List Datum → List ℕ → ℕ → Type 0
RunOverflows p place m first this args picks k = CallOverflows p place m this args (record { now = first; entry = first; picks = picks; steps = k })
