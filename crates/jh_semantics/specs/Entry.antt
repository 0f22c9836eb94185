-- From which states a method may be entered.
use Rattle.std.specs.Prelude.{◌≡◌, ℕ, ◌⊎◌, true, if◌then◌else◌, List, [], ◌∷◌, Option, None, Some}
use Rattle.jh_rules.specs.declared.types.Ty.{Ty}
use Rattle.jh_rules.specs.declared.types.Ty.TheVariants as ty
use Rattle.jh_form.specs.Tree.{FormulaTree}
use Rattle.jh_form.specs.Tree as t
use Rattle.jh_form.specs.Meaning.{Datum, an_object, a_number, a_truth, truth}
use Rattle.jh_semantics.specs.Code.{Local, Claim}
use Rattle.jh_semantics.specs.Program.{Program, Method, class_at}
use Rattle.jh_semantics.specs.State.{State, IsWhole, named, alloc_name, shown}
use Rattle.jh_semantics.specs.Locals.{entered}
use Rattle.jh_semantics.specs.WellFormed.{well_formed}

-- A value lies in a type: a number, a truth, null or an object of the class, null or any object that there is.
abbrev pub LiesIn : Program → Ty → State → Datum → Type 0
LiesIn p ty.Int s (a_number z) = Unit {0}
LiesIn p ty.Boolean s (a_truth b) = Unit {0}
LiesIn p ty.Object s (an_object a) = (a ≡ 0) ⊎ (s.set alloc_name a ≡ true)
LiesIn p (ty.Class n) s (an_object a) = (a ≡ 0) ⊎ (s.set (named (class_at p.classes n)) a ≡ true)
LiesIn p _ s d = ⊥

-- there is one argument for each parameter, in its type
abbrev pub AllLieIn : Program → List Local → State → List Datum → Type 0
AllLieIn p [] s [] = Unit {0}
AllLieIn p (x ∷ xs) s (d ∷ ds) = LiesIn p x.type s d × AllLieIn p xs s ds
AllLieIn p _ s _ = ⊥

-- `this` is an object of the class, or null in a static method
abbrev pub ThisLiesIn : Program → Option ℕ → State → ℕ → Type 0
ThisLiesIn p None s a = a ≡ 0
ThisLiesIn p (Some n) s a = s.set (named (class_at p.classes n)) a ≡ true

-- the formula of `requires` or `ensures`, True where it is absent
abbrev pub condition : Option Claim → FormulaTree
condition None = t.true_formula
condition (Some claim) = claim.formula

-- each formula is true in a state, with another for `old`
abbrev pub AllTrue : List Claim → State → State → Type 0
AllTrue [] now old = Unit {0}
AllTrue (claim ∷ more) now old = (truth claim.formula (shown now old) [] ≡ true) × AllTrue more now old

-- the invariants that a method is owed and owes: all of the file for a public one, none for another
abbrev pub owed : Program → Method → List Claim
owed p m = if m.is_public then p.invariants else []

-- A method may be entered from a state, with `this` and arguments: the state is a whole one and well formed, these lie in their
-- types, `requires` is true, and so are the owed invariants.
pub record Entry (p : Program) (m : Method) (first : State) (this : ℕ) (args : List Datum) : Type 0 where
  pub whole : IsWhole first
  pub well_formed : truth (well_formed p [] None) (shown first first) [] ≡ true
  pub this_lies : ThisLiesIn p m.this first this
  pub arguments : AllLieIn p m.params first args
  pub requires : truth (condition m.requires) (shown (entered m this args first) first) [] ≡ true
  pub invariants : AllTrue (owed p m) first first
