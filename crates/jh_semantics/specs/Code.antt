-- Code with its names resolved and sorted by type: what runs and commands speak of. A name stands by the text that it has in
-- formulas: a parameter, a local and `this` by its own; a static and a field of class C by `C.` and its own.
use Rattle.std.specs.Prelude.{ℕ, ℤ, Bool, List, Option}
use Rattle.jh_name.specs.declared.naming.Name.{Name}
use Rattle.jh_name.specs.declared.place.Place.{Place}
use Rattle.jh_form.specs.Tree.{FormulaTree, ValueTree, TermTree}
use Rattle.jh_rules.specs.declared.types.Ty.{Ty}
use Rattle.jh_vars.specs.Written.{Callee}

-- the text of a name; code speaks of names at turn 0 alone
abbrev pub Text : Type 0
Text = List ℕ

-- Expressions by the type of their values. `object`, `number` and `truth` are a parameter, a local or a static. A read has its
-- field, its receiver and the place of the receiver's first token; arithmetic has the place of its own first token.
mutual
  pub data ObjectCode : Type 0 where
    null : ObjectCode
    this : ObjectCode
    object : Text → ObjectCode
    read_object : Text → ObjectCode → Place → ObjectCode

  pub data NumberCode : Type 0 where
    const : ℤ → NumberCode
    number : Text → NumberCode
    read_number : Text → ObjectCode → Place → NumberCode
    add : Place → NumberCode → NumberCode → NumberCode
    sub : Place → NumberCode → NumberCode → NumberCode
    minus : Place → NumberCode → NumberCode
    times : Place → ℤ → NumberCode → NumberCode

  pub data TruthCode : Type 0 where
    literal : Bool → TruthCode
    truth : Text → TruthCode
    read_truth : Text → ObjectCode → Place → TruthCode
    negation : TruthCode → TruthCode
    both : TruthCode → TruthCode → TruthCode
    either : TruthCode → TruthCode → TruthCode
    same_object : ObjectCode → ObjectCode → TruthCode
    same_number : NumberCode → NumberCode → TruthCode
    same_truth : TruthCode → TruthCode → TruthCode
    less : NumberCode → NumberCode → TruthCode
    less_equal : NumberCode → NumberCode → TruthCode
    greater : NumberCode → NumberCode → TruthCode
    greater_equal : NumberCode → NumberCode → TruthCode

pub data AnyCode : Type 0 where
  an_object : ObjectCode → AnyCode
  a_number : NumberCode → AnyCode
  a_truth : TruthCode → AnyCode

-- a parameter or a local, with its type
pub record Local : Type 0 where
  pub text : Text
  pub type : Ty

-- where a value goes: nowhere, to a local that is declared here, to another local or a static, or to a field of an object
pub data Target : Type 0 where
  nowhere : Target
  to_new : Local → Target
  to_name : Text → Target
  to_field : Text → ObjectCode → Place → Target

-- a formula of a contract, an invariant, an assert or a note, with the place of its opening quote, its label and the names of the
-- facts that it follows from
pub record Claim : Type 0 where
  pub label : Option Name
  pub place : Place
  pub from : List Name
  pub formula : FormulaTree

-- Statements; those of which something is said elsewhere have their place. A call has its own place too, which is that of its
-- receiver where it has one. A new object joins the class of a text. A ghost assignment has the place of its right side; one
-- to a field has the place of its left side too, and the class of the field.
mutual
  pub data Stmt : Type 0 where
    empty : Stmt
    block : Stmts → Stmt
    assign : Target → AnyCode → Stmt
    new_object : Place → Target → Text → Stmt
    call : Place → Target → Option ObjectCode → Place → Callee → List AnyCode → Stmt
    branch : Place → TruthCode → Stmt → Stmts → Stmt
    loop : Place → List Claim → TruthCode → Stmt → Stmt
    return_nothing : Stmt
    return_value : AnyCode → Stmt
    assert : Claim → Stmt
    note : Claim → Stmt
    ghost : Text → Place → ValueTree → Stmt
    ghost_at : Place → Text → Text → TermTree → Place → ValueTree → Stmt

  -- the statements of a block; the second part of a branch is one or none
  pub data Stmts : Type 0 where
    none : Stmts
    more : Stmt → Stmts → Stmts
