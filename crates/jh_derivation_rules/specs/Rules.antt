-- The rules of derivations. A step has the formulas that have to be facts, and the branches that it leads to, each
-- with the facts that it adds. It meets its rule where its operands have the rule's form and no loose bound variable,
-- what it needs are facts, and what else its rule asks for is so. All trees here are without labels.
use Rattle.std.specs.Prelude.{◌≡◌, ℕ, zero, suc, Bool, true, not, ◌&&◌, ◌==◌, if◌then◌else◌, List, [], ◌∷◌, ◌⊎◌, Option, None, Some, slice_get}
use Rattle.jh_name.specs.declared.naming.Name.{Name}
use Rattle.jh_name.specs.declared.place.Kind.{Kind}
use Rattle.jh_name.specs.declared.place.Kind.TheVariants as kind
use Rattle.jh_form.specs.Tree.{TermTree, FieldTree, SetTree, ValueTree, FormulaTree}
use Rattle.jh_form.specs.Tree as t
use Rattle.jh_form.specs.Closed.{is_closed_term, is_closed_field, is_closed_value, is_closed_formula, is_closed_fields}
use Rattle.jh_form.specs.Passing.{formula_passes, name_equal}
use Rattle.jh_seq.specs.jh_boxed_operations.substitution.Opened.{opened}
use Rattle.jh_seq.specs.jh_boxed_operations.comparison.Exchanged.{Exchanged}
use Rattle.jh_reach.specs.Axioms.{BaseTree, axioms_of_list, axiom_of_update}
use Rattle.jh_derivation_rules.specs.Cited.{members, are_one, has_axioms, update_of, is_closed_base}
use Rattle.jh_derivation_rules.specs.Steps.{StepTree}
use Rattle.jh_derivation_rules.specs.Steps as s

pub record Rule : Type 0 where
  -- these have to be facts
  pub needs : List FormulaTree
  -- the branches, each with what it adds; a step without branches closes its own
  pub adds : List (List FormulaTree)

abbrev pub rule : List FormulaTree → List (List FormulaTree) → Option Rule
rule needs adds = Some (record { needs = needs; adds = adds })

-- the formula that two values of one sort are equal; two fields have none
unfoldable pub equation : ValueTree → ValueTree → Option FormulaTree
equation (t.of_object a) (t.of_object b) = Some (t.eq_object a b)
equation (t.of_number a) (t.of_number b) = Some (t.eq_number a b)
equation (t.of_truth a) (t.of_truth b) = Some (t.iff a b)
equation (t.of_set a) (t.of_set b) = Some (t.eq_set a b)
equation _ _ = None

-- one field read at two objects, at a kind
unfoldable pub reads_equal : Kind → FieldTree → TermTree → TermTree → FormulaTree
reads_equal kind.Obj f a b = t.eq_object (t.read_object f a) (t.read_object f b)
reads_equal kind.Int f a b = t.eq_number (t.read_number f a) (t.read_number f b)
reads_equal kind.Bool f a b = t.iff (t.read_truth f a) (t.read_truth f b)
reads_equal kind.Set f a b = t.eq_set (t.read_set f a) (t.read_set f b)

-- a negation one level in
unfoldable pub pushed : FormulaTree → Option FormulaTree
pushed (t.negation a) = Some a
pushed (t.and a b) = Some (t.or (t.negation a) (t.negation b))
pushed (t.or a b) = Some (t.and (t.negation a) (t.negation b))
pushed (t.implies a b) = Some (t.and a (t.negation b))
pushed (t.iff a b) = Some (t.iff a (t.negation b))
pushed (t.all a) = Some (t.ex (t.negation a))
pushed (t.ex a) = Some (t.all (t.negation a))
pushed t.true_formula = Some t.false_formula
pushed t.false_formula = Some t.true_formula
pushed _ = None

-- At the object a this is true, and at each other object that; the object is the binder's variable.
abbrev pub at_each : TermTree → FormulaTree → FormulaTree → FormulaTree
at_each a this that = t.all (t.and (t.implies (t.eq_object (t.bound 0) a) this) (t.implies (t.negation (t.eq_object (t.bound 0) a)) that))

-- What an update by an object gives at each object, said of the field g: the value at the update's own object, and
-- elsewhere what the updated field f gives.
abbrev pub leads_as : FieldTree → FieldTree → TermTree → TermTree → FormulaTree
leads_as g f a v = at_each a (t.eq_object (t.read_object g (t.bound 0)) v) (t.eq_object (t.read_object g (t.bound 0)) (t.read_object f (t.bound 0)))

-- The same of an update by any value. An update whose value is a field has no such formula.
unfoldable pub described : FieldTree → FieldTree → TermTree → ValueTree → Option FormulaTree
described g f a (t.of_object v) = Some (leads_as g f a v)
described g f a (t.of_number v) = Some (at_each a (t.eq_number (t.read_number g (t.bound 0)) v) (t.eq_number (t.read_number g (t.bound 0)) (t.read_number f (t.bound 0))))
described g f a (t.of_truth v) = Some (at_each a (t.iff (t.read_truth g (t.bound 0)) v) (t.iff (t.read_truth g (t.bound 0)) (t.read_truth f (t.bound 0))))
described g f a (t.of_set v) = Some (at_each a (t.eq_set (t.read_set g (t.bound 0)) v) (t.eq_set (t.read_set g (t.bound 0)) (t.read_set f (t.bound 0))))
described g f a (t.of_field v) = None

-- membership in an operation or comprehension, by its definition
unfoldable pub member_opened : TermTree → SetTree → Option FormulaTree
member_opened x t.empty = Some t.false_formula
member_opened x t.univ = Some t.true_formula
member_opened x (t.single a) = Some (t.eq_object x a)
member_opened x (t.union a b) = Some (t.or (t.member x a) (t.member x b))
member_opened x (t.inter a b) = Some (t.and (t.member x a) (t.member x b))
member_opened x (t.diff a b) = Some (t.and (t.member x a) (t.negation (t.member x b)))
member_opened x (t.compl a) = Some (t.negation (t.member x a))
member_opened x (t.compr a) = Some (opened a x)
member_opened x (t.free_set y) = None
member_opened x (t.read_set f a) = None

-- a relation of sets, opened once at its outermost operation
unfoldable pub relation_opened : FormulaTree → Option FormulaTree
relation_opened (t.eq_set a b) = Some (t.all (t.iff (t.member (t.bound 0) a) (t.member (t.bound 0) b)))
relation_opened (t.subset a b) = Some (t.all (t.implies (t.member (t.bound 0) a) (t.member (t.bound 0) b)))
relation_opened (t.member x a) = member_opened x a
relation_opened _ = None

unfoldable pub negated : Option FormulaTree → Option FormulaTree
negated (Some a) = Some (t.negation a)
negated None = None

-- the same under a negation
unfoldable pub fact_opened : FormulaTree → Option FormulaTree
fact_opened (t.negation a) = negated (relation_opened a)
fact_opened a = relation_opened a

-- a rule that adds one formula where there is one
unfoldable pub rule_adds : List FormulaTree → Option FormulaTree → Option Rule
rule_adds needs (Some a) = rule needs ((a ∷ []) ∷ [])
rule_adds needs None = None

-- a rule that needs equations and adds one more formula
unfoldable pub rule_from : Option FormulaTree → List FormulaTree → Option FormulaTree → Option Rule
rule_from (Some e) needs made = rule_adds (e ∷ needs) made
rule_from None needs made = None

unfoldable pub rule_from_two : Option FormulaTree → Option FormulaTree → Option FormulaTree → Option Rule
rule_from_two (Some e) f made = rule_from f (e ∷ []) made
rule_from_two None f made = None

unfoldable pub conjunction_rule : FormulaTree → Option Rule
conjunction_rule (t.and a b) = rule (t.and a b ∷ []) ((a ∷ b ∷ []) ∷ [])
conjunction_rule _ = None

unfoldable pub disjunction_rule : FormulaTree → Option Rule
disjunction_rule (t.or a b) = rule (t.or a b ∷ []) ((a ∷ []) ∷ (b ∷ []) ∷ [])
disjunction_rule _ = None

unfoldable pub implication_rule : FormulaTree → Option Rule
implication_rule (t.implies a b) = rule (t.implies a b ∷ []) ((t.negation a ∷ []) ∷ (b ∷ []) ∷ [])
implication_rule _ = None

unfoldable pub equivalence_rule : FormulaTree → Option Rule
equivalence_rule (t.iff a b) = rule (t.iff a b ∷ []) ((a ∷ b ∷ []) ∷ (t.negation a ∷ t.negation b ∷ []) ∷ [])
equivalence_rule _ = None

unfoldable pub negation_rule : FormulaTree → Option Rule
negation_rule (t.negation a) = rule_adds (t.negation a ∷ []) (pushed a)
negation_rule _ = None

unfoldable pub instance_rule : FormulaTree → TermTree → Option Rule
instance_rule (t.all a) b = rule (t.all a ∷ []) ((opened a b ∷ []) ∷ [])
instance_rule _ b = None

unfoldable pub witness_rule : FormulaTree → Name → Option Rule
witness_rule (t.ex a) x = rule (t.ex a ∷ []) ((opened a (t.free_object x) ∷ []) ∷ [])
witness_rule _ x = None

unfoldable pub update_rule : FieldTree → Option Rule
update_rule (t.update f a v) = rule_adds [] (described (t.update f a v) f a v)
update_rule (t.free_field x) = None

-- What the axiom of an update needs, of the member at the base's place: nothing where that member is the update itself,
-- else what the update gives at each object, said of the member.
unfoldable pub base_needs : FieldTree → BaseTree → List FormulaTree
base_needs g u = if are_one g (update_of u) then [] else leads_as g u.field u.at u.value ∷ []

-- the rule that adds the axiom of an update, where the list has such a member
unfoldable pub base_rule : List FieldTree → BaseTree → Option FieldTree → Option Rule
base_rule fs u (Some g) = rule (base_needs g u) ((axiom_of_update fs u ∷ []) ∷ [])
base_rule fs u None = None

-- The rule that adds an axiom of reachability, by its number: 1 to 9 are those of a list without a base, in their order,
-- and 10 is that of the update that a base tells of. A base goes with no other number, and 10 with none but a base.
unfoldable pub numbered_rule : ℕ → List FieldTree → Option BaseTree → Option Rule
numbered_rule zero fs base = None
numbered_rule (suc k) fs None = rule_adds [] (slice_get (axioms_of_list fs) k)
numbered_rule (suc k) fs (Some u) = if k == 9 then base_rule fs u (slice_get fs u.place) else None

-- the same, where the list is one of those that have axioms
unfoldable pub axiom_rule : ℕ → List FieldTree → Option BaseTree → Option Rule
axiom_rule n fs base = if has_axioms fs then numbered_rule n fs base else None

-- What a step needs and where it leads to, by the form of its operands.
unfoldable pub rule_of : StepTree → Option Rule
rule_of s.absurdity = rule (t.false_formula ∷ []) []
rule_of (s.pair a) = rule (a ∷ t.negation a ∷ []) []
rule_of (s.reflexive a) = rule (a ∷ []) []
rule_of (s.symmetric v w) = rule_from (equation v w) [] (equation w v)
rule_of (s.transitive v w x) = rule_from_two (equation v w) (equation w x) (equation v x)
rule_of (s.reading k f a b) = rule (t.eq_object a b ∷ []) ((reads_equal k f a b ∷ []) ∷ [])
rule_of (s.replacing a b v w) = rule_from (equation v w) (a ∷ []) (Some b)
rule_of (s.conjuncts a) = conjunction_rule a
rule_of (s.disjuncts a) = disjunction_rule a
rule_of (s.implication a) = implication_rule a
rule_of (s.equivalence a) = equivalence_rule a
rule_of (s.inward a) = negation_rule a
rule_of (s.instance_at a b) = instance_rule a b
rule_of (s.witness a x) = witness_rule a x
rule_of (s.cut a) = rule [] ((a ∷ []) ∷ (t.negation a ∷ []) ∷ [])
rule_of (s.updating f) = update_rule f
rule_of (s.axiom_of n fs base) = axiom_rule n (members fs) base
rule_of (s.relation a) = rule_adds (a ∷ []) (fact_opened a)

-- The operands have no loose bound variable. The term of an instance and the name of a witness count.
unfoldable pub is_closed_step : StepTree → Bool
is_closed_step s.absurdity = true
is_closed_step (s.pair a) = is_closed_formula a 0
is_closed_step (s.reflexive a) = is_closed_formula a 0
is_closed_step (s.symmetric v w) = is_closed_value v 0 && is_closed_value w 0
is_closed_step (s.transitive v w x) = is_closed_value v 0 && is_closed_value w 0 && is_closed_value x 0
is_closed_step (s.reading k f a b) = is_closed_field f 0 && is_closed_term a 0 && is_closed_term b 0
is_closed_step (s.replacing a b v w) = is_closed_formula a 0 && is_closed_formula b 0 && is_closed_value v 0 && is_closed_value w 0
is_closed_step (s.conjuncts a) = is_closed_formula a 0
is_closed_step (s.disjuncts a) = is_closed_formula a 0
is_closed_step (s.implication a) = is_closed_formula a 0
is_closed_step (s.equivalence a) = is_closed_formula a 0
is_closed_step (s.inward a) = is_closed_formula a 0
is_closed_step (s.instance_at a b) = is_closed_formula a 0 && is_closed_term b 0
is_closed_step (s.witness a x) = is_closed_formula a 0
is_closed_step (s.cut a) = is_closed_formula a 0
is_closed_step (s.updating f) = is_closed_field f 0
is_closed_step (s.axiom_of n fs base) = is_closed_fields fs 0 && is_closed_base base
is_closed_step (s.relation a) = is_closed_formula a 0

-- no structure meets it: something isn't itself, or two different constants are equal
abbrev pub IsRefuted : FormulaTree → Type 0
IsRefuted (t.negation (t.eq_object a b)) = a ≡ b
IsRefuted (t.negation (t.eq_number a b)) = a ≡ b
IsRefuted (t.negation (t.iff a b)) = a ≡ b
IsRefuted (t.negation (t.eq_set a b)) = a ≡ b
IsRefuted (t.eq_number (t.const y) (t.const z)) = y ≡ z → ⊥
IsRefuted _ = ⊥

-- the formula stands in the list
abbrev pub Has : List FormulaTree → FormulaTree → Type 0
Has [] a = ⊥
Has (b ∷ bs) a = (b ≡ a) ⊎ Has bs a

abbrev pub HasAll : List FormulaTree → List FormulaTree → Type 0
HasAll fs [] = Unit {0}
HasAll fs (a ∷ more) = Has fs a × HasAll fs more

-- the name stands free in no formula of the list, at no sort
abbrev pub IsFresh : List FormulaTree → Name → Type 0
IsFresh [] x = Unit {0}
IsFresh (a ∷ more) x = (formula_passes a (λ y u. not (name_equal y x)) ≡ true) × IsFresh more x

-- what a rule asks for beyond that
abbrev pub Suits : List FormulaTree → StepTree → Type 0
Suits fs (s.reflexive a) = IsRefuted a
Suits fs (s.replacing a b v w) = Exchanged a b v w
Suits fs (s.witness a x) = IsFresh fs x
Suits fs _ = Unit {0}

-- From these facts the step meets its rule, which is this one.
pub record Meets (fs : List FormulaTree) (step : StepTree) (r : Rule) : Type 0 where
  pub form : rule_of step ≡ Some r
  pub closed : is_closed_step step ≡ true
  pub facts : HasAll fs r.needs
  pub suits : Suits fs step
