-- Steps worked by hand: for each rule one that meets it, and one that just doesn't.
use Rattle.std.proofs.Common.{◌≡◌, refl, ℕ, pos, true, false, List, [], ◌∷◌, inl, inr, None, Some}
use Rattle.jh_name.specs.declared.naming.Name.{Name}
use Rattle.jh_name.specs.declared.place.Kind.TheVariants as kind
use Rattle.jh_form.specs.Tree.{TermTree, IntTree, SetTree, FieldTree, FieldTrees, ValueTree, FormulaTree}
use Rattle.jh_form.specs.Tree as t
use Rattle.jh_reach.specs.jh_boxed.Mapped.{mapped_formula}
use Rattle.jh_form.specs.Closed.{is_closed_formula}
use Rattle.jh_form.specs.Passing.{formula_passes, name_equal}
use Rattle.jh_seq.specs.jh_boxed_operations.comparison.Compared.{related_value, free_field_with, update_with, free_object_with, of_object_with, of_field_with}
use Rattle.jh_seq.specs.jh_boxed_operations.comparison.Exchanged.{Exchanged}
use Rattle.jh_seq.specs.jh_boxed_operations.comparison.Related as r
use Rattle.jh_reach.specs.Axioms.{BaseTree, reach_itself, ways_join, ways_on, ways_up, one_parent, axiom_of_update}
use Rattle.jh_derivation_rules.specs.Cited.{members, all_differ, has_axioms, is_closed_base}
use Rattle.jh_derivation_rules.specs.Steps.{StepTree}
use Rattle.jh_derivation_rules.specs.Steps as s
use Rattle.jh_derivation_rules.specs.Rules.{rule, equation, reads_equal, pushed, at_each, leads_as, described, member_opened, relation_opened, negated, fact_opened, rule_adds, rule_from, rule_from_two, conjunction_rule, disjunction_rule, implication_rule, equivalence_rule, negation_rule, instance_rule, witness_rule, update_rule, base_needs, base_rule, numbered_rule, axiom_rule, rule_of, is_closed_step, IsRefuted, IsFresh, Meets}
use Rattle.jh_derivation_rules.specs.Closes.{Closes, step, none, more, FailsAt}

-- names without text, told apart by their turns
abbrev named : ℕ → Name
named k = record { text = []; turn = k }

abbrev a : TermTree
a = t.free_object (named 1)

abbrev b : TermTree
b = t.free_object (named 2)

abbrev c : TermTree
c = t.free_object (named 3)

abbrev f : FieldTree
f = t.free_field (named 4)

abbrev p : FormulaTree
p = t.free_truth (named 5)

abbrev q : FormulaTree
q = t.free_truth (named 6)

abbrev A : SetTree
A = t.free_set (named 7)

abbrev B : SetTree
B = t.free_set (named 8)

abbrev o : TermTree → ValueTree
o x = t.of_object x

-- False is a fact, or isn't.
absurd-meets : Meets (t.false_formula ∷ []) s.absurdity (record { needs = t.false_formula ∷ []; adds = [] })
unfolding rule_of is_closed_step
absurd-meets = record { form = refl; closed = refl; facts = (inl refl, tt); suits = tt }

-- A formula and its negation; the negation alone isn't enough.
pair-meets : Meets (p ∷ t.negation p ∷ []) (s.pair p) (record { needs = p ∷ t.negation p ∷ []; adds = [] })
unfolding rule_of is_closed_step is_closed_formula
pair-meets = record { form = refl; closed = refl; facts = (inl refl, (inr (inl refl), tt)); suits = tt }

-- Nothing differs from itself; different constants differ.
itself-refuted : IsRefuted (t.negation (t.eq_object a a))
itself-refuted = refl

one-isn't-two : IsRefuted (t.eq_number (t.const (pos 1)) (t.const (pos 2)))
one-isn't-two e = cc

one-is-one : IsRefuted (t.eq_number (t.const (pos 1)) (t.const (pos 1))) → ⊥
one-is-one h = h refl

no-refutation : IsRefuted (t.eq_object a a) → ⊥
no-refutation h = h

-- Equations of one sort; two fields have none, nor have two sorts.
symmetric-rule : rule_of (s.symmetric (o a) (o b)) ≡ rule (t.eq_object a b ∷ []) ((t.eq_object b a ∷ []) ∷ [])
unfolding rule_of rule_from rule_adds equation
symmetric-rule = refl

symmetric-truths : rule_of (s.symmetric (t.of_truth p) (t.of_truth q)) ≡ rule (t.iff p q ∷ []) ((t.iff q p ∷ []) ∷ [])
unfolding rule_of rule_from rule_adds equation
symmetric-truths = refl

symmetric-fields : rule_of (s.symmetric (t.of_field f) (t.of_field f)) ≡ None
unfolding rule_of rule_from rule_adds equation
symmetric-fields = refl

transitive-rule : rule_of (s.transitive (o a) (o b) (o c)) ≡ rule (t.eq_object b c ∷ t.eq_object a b ∷ []) ((t.eq_object a c ∷ []) ∷ [])
unfolding rule_of rule_from_two rule_from rule_adds equation
transitive-rule = refl

transitive-sorts : rule_of (s.transitive (o a) (o b) (t.of_truth p)) ≡ None
unfolding rule_of rule_from_two rule_from rule_adds equation
transitive-sorts = refl

-- A field read at both sides, at the kind that is named.
reading-rule : rule_of (s.reading kind.Bool f a b) ≡ rule (t.eq_object a b ∷ []) ((t.iff (t.read_truth f a) (t.read_truth f b) ∷ []) ∷ [])
unfolding rule_of reads_equal
reading-rule = refl

-- One of two occurrences is exchanged; what wasn't there isn't.
replacing-rule : rule_of (s.replacing (t.eq_object a a) (t.eq_object a b) (o a) (o b)) ≡ rule (t.eq_object a b ∷ t.eq_object a a ∷ []) ((t.eq_object a b ∷ []) ∷ [])
unfolding rule_of rule_from rule_adds equation
replacing-rule = refl

second-exchanged : Exchanged (t.eq_object a a) (t.eq_object a b) (o a) (o b)
second-exchanged = r.eq_object a a a b (r.free_object (named 1)) (r.term_here a b (refl, refl))

replacing-fields : rule_of (s.replacing p q (t.of_field f) (t.of_field f)) ≡ None
unfolding rule_of rule_from rule_adds equation
replacing-fields = refl

-- Under a binder what isn't closed isn't exchanged: the step isn't closed.
replacing-bound : is_closed_step (s.replacing (t.ex (t.eq_object (t.bound 0) a)) (t.ex (t.eq_object b a)) (o (t.bound 0)) (o b)) ≡ false
unfolding is_closed_step is_closed_formula
replacing-bound = refl

-- Connectives: the one of the rule, or another.
and-rule : rule_of (s.conjuncts (t.and p q)) ≡ rule (t.and p q ∷ []) ((p ∷ q ∷ []) ∷ [])
unfolding rule_of conjunction_rule
and-rule = refl

and-other : rule_of (s.conjuncts (t.or p q)) ≡ None
unfolding rule_of conjunction_rule
and-other = refl

or-rule : rule_of (s.disjuncts (t.or p q)) ≡ rule (t.or p q ∷ []) ((p ∷ []) ∷ (q ∷ []) ∷ [])
unfolding rule_of disjunction_rule
or-rule = refl

or-other : rule_of (s.disjuncts (t.implies p q)) ≡ None
unfolding rule_of disjunction_rule
or-other = refl

implies-rule : rule_of (s.implication (t.implies p q)) ≡ rule (t.implies p q ∷ []) ((t.negation p ∷ []) ∷ (q ∷ []) ∷ [])
unfolding rule_of implication_rule
implies-rule = refl

implies-other : rule_of (s.implication (t.iff p q)) ≡ None
unfolding rule_of implication_rule
implies-other = refl

iff-rule : rule_of (s.equivalence (t.iff p q)) ≡ rule (t.iff p q ∷ []) ((p ∷ q ∷ []) ∷ (t.negation p ∷ t.negation q ∷ []) ∷ [])
unfolding rule_of equivalence_rule
iff-rule = refl

iff-other : rule_of (s.equivalence (t.implies p q)) ≡ None
unfolding rule_of equivalence_rule
iff-other = refl

-- A negation pushed inwards, over each connective; an atom stays.
not-not-rule : rule_of (s.inward (t.negation (t.negation p))) ≡ rule (t.negation (t.negation p) ∷ []) ((p ∷ []) ∷ [])
unfolding rule_of negation_rule rule_adds pushed
not-not-rule = refl

not-and-rule : pushed (t.and p q) ≡ Some (t.or (t.negation p) (t.negation q))
unfolding pushed
not-and-rule = refl

not-or-rule : pushed (t.or p q) ≡ Some (t.and (t.negation p) (t.negation q))
unfolding pushed
not-or-rule = refl

not-implies-rule : pushed (t.implies p q) ≡ Some (t.and p (t.negation q))
unfolding pushed
not-implies-rule = refl

not-iff-rule : pushed (t.iff p q) ≡ Some (t.iff p (t.negation q))
unfolding pushed
not-iff-rule = refl

not-all-rule : pushed (t.all p) ≡ Some (t.ex (t.negation p))
unfolding pushed
not-all-rule = refl

not-ex-rule : pushed (t.ex p) ≡ Some (t.all (t.negation p))
unfolding pushed
not-ex-rule = refl

not-true-rule : pushed t.true_formula ≡ Some t.false_formula
unfolding pushed
not-true-rule = refl

not-atom : rule_of (s.inward (t.negation p)) ≡ None
unfolding rule_of negation_rule rule_adds pushed
not-atom = refl

not-positive : rule_of (s.inward (t.and p q)) ≡ None
unfolding rule_of negation_rule
not-positive = refl

-- An instance at a closed term, and one at a term that isn't.
all-rule : rule_of (s.instance_at (t.all (t.eq_object (t.bound 0) a)) b) ≡ rule (t.all (t.eq_object (t.bound 0) a) ∷ []) ((t.eq_object b a ∷ []) ∷ [])
unfolding rule_of instance_rule mapped_formula
all-rule = refl

all-other : rule_of (s.instance_at (t.ex (t.eq_object (t.bound 0) a)) b) ≡ None
unfolding rule_of instance_rule
all-other = refl

all-loose : is_closed_step (s.instance_at (t.all (t.eq_object (t.bound 0) a)) (t.bound 0)) ≡ false
unfolding is_closed_step is_closed_formula
all-loose = refl

-- A witness that no fact has, and one that a fact has.
ex-rule : rule_of (s.witness (t.ex (t.eq_object (t.bound 0) a)) (named 2)) ≡ rule (t.ex (t.eq_object (t.bound 0) a) ∷ []) ((t.eq_object b a ∷ []) ∷ [])
unfolding rule_of witness_rule mapped_formula
ex-rule = refl

fresh-name : IsFresh (t.ex (t.eq_object (t.bound 0) a) ∷ p ∷ []) (named 2)
unfolding formula_passes name_equal
fresh-name = (refl, (refl, tt))

used-name : IsFresh (t.ex (t.eq_object (t.bound 0) a) ∷ p ∷ []) (named 5) → ⊥
unfolding formula_passes name_equal
used-name h = let e : false ≡ true = h.1.0 in cc

-- A cut needs nothing.
cut-rule : rule_of (s.cut p) ≡ rule [] ((p ∷ []) ∷ (t.negation p ∷ []) ∷ [])
unfolding rule_of
cut-rule = refl

-- What an update gives; a name is no update, and a field is no value that it tells of.
update-rule : rule_of (s.updating (t.update f a (o b))) ≡ rule [] ((at_each a
    (t.eq_object (t.read_object (t.update f a (o b)) (t.bound 0)) b)
    (t.eq_object (t.read_object (t.update f a (o b)) (t.bound 0)) (t.read_object f (t.bound 0))) ∷ []) ∷ [])
unfolding rule_of update_rule rule_adds described
update-rule = refl

update-name : rule_of (s.updating f) ≡ None
unfolding rule_of update_rule
update-name = refl

update-field : rule_of (s.updating (t.update f a (t.of_field f))) ≡ None
unfolding rule_of update_rule rule_adds described
update-field = refl

-- An axiom by its number, 1 to 9, of a list without a base.
abbrev g : FieldTree
g = t.free_field (named 9)

abbrev one_field : FieldTrees
one_field = t.more f t.none

axiom-first : rule_of (s.axiom_of 1 one_field None) ≡ rule [] ((t.all (t.reach one_field (t.bound 0) (t.bound 0)) ∷ []) ∷ [])
unfolding rule_of axiom_rule numbered_rule base_rule base_needs rule_adds members has_axioms all_differ related_value free_field_with update_with free_object_with of_object_with of_field_with name_equal
axiom-first = refl

axiom-joins : rule_of (s.axiom_of 5 (t.more f (t.more g t.none)) None) ≡ rule [] ((ways_join (f ∷ g ∷ []) ∷ []) ∷ [])
unfolding rule_of axiom_rule numbered_rule base_rule base_needs rule_adds members has_axioms all_differ related_value free_field_with update_with free_object_with of_object_with of_field_with name_equal
axiom-joins = refl

-- The sixth is another for one field than for several.
axiom-on : rule_of (s.axiom_of 6 one_field None) ≡ rule [] ((ways_on (f ∷ []) ∷ []) ∷ [])
unfolding rule_of axiom_rule numbered_rule base_rule base_needs rule_adds members has_axioms all_differ related_value free_field_with update_with free_object_with of_object_with of_field_with name_equal
axiom-on = refl

axiom-up : rule_of (s.axiom_of 6 (t.more f (t.more g t.none)) None) ≡ rule [] ((ways_up (f ∷ g ∷ []) ∷ []) ∷ [])
unfolding rule_of axiom_rule numbered_rule base_rule base_needs rule_adds members has_axioms all_differ related_value free_field_with update_with free_object_with of_object_with of_field_with name_equal
axiom-up = refl

axiom-last : rule_of (s.axiom_of 9 one_field None) ≡ rule [] ((one_parent (f ∷ []) ∷ []) ∷ [])
unfolding rule_of axiom_rule numbered_rule base_rule base_needs rule_adds members has_axioms all_differ related_value free_field_with update_with free_object_with of_object_with of_field_with name_equal
axiom-last = refl

-- No axiom has the number 0 or 11, nor 10 without a base.
axiom-zero : rule_of (s.axiom_of 0 one_field None) ≡ None
unfolding rule_of axiom_rule numbered_rule base_rule base_needs rule_adds members has_axioms all_differ related_value free_field_with update_with free_object_with of_object_with of_field_with name_equal
axiom-zero = refl

axiom-without-base : rule_of (s.axiom_of 10 one_field None) ≡ None
unfolding rule_of axiom_rule numbered_rule base_rule base_needs rule_adds members has_axioms all_differ related_value free_field_with update_with free_object_with of_object_with of_field_with name_equal
axiom-without-base = refl

axiom-eleven : rule_of (s.axiom_of 11 one_field None) ≡ None
unfolding rule_of axiom_rule numbered_rule base_rule base_needs rule_adds members has_axioms all_differ related_value free_field_with update_with free_object_with of_object_with of_field_with name_equal
axiom-eleven = refl

-- No axiom is cited of no field, of five, or of one that is written twice.
axiom-of-none : rule_of (s.axiom_of 1 t.none None) ≡ None
unfolding rule_of axiom_rule numbered_rule base_rule base_needs rule_adds members has_axioms all_differ related_value free_field_with update_with free_object_with of_object_with of_field_with name_equal
axiom-of-none = refl

abbrev field : ℕ → FieldTree
field k = t.free_field (named k)

axiom-of-four : rule_of (s.axiom_of 1 (t.more (field 1) (t.more (field 2) (t.more (field 3) (t.more (field 4) t.none)))) None) ≡ rule [] ((reach_itself (field 1 ∷ field 2 ∷ field 3 ∷ field 4 ∷ []) ∷ []) ∷ [])
unfolding rule_of axiom_rule numbered_rule base_rule base_needs rule_adds members has_axioms all_differ related_value free_field_with update_with free_object_with of_object_with of_field_with name_equal
axiom-of-four = refl

axiom-of-five : rule_of (s.axiom_of 1 (t.more (field 1) (t.more (field 2) (t.more (field 3) (t.more (field 4) (t.more (field 5) t.none))))) None) ≡ None
unfolding rule_of axiom_rule numbered_rule base_rule base_needs rule_adds members has_axioms all_differ related_value free_field_with update_with free_object_with of_object_with of_field_with name_equal
axiom-of-five = refl

axiom-twice : rule_of (s.axiom_of 1 (t.more f (t.more g (t.more f t.none))) None) ≡ None
unfolding rule_of axiom_rule numbered_rule base_rule base_needs rule_adds members has_axioms all_differ related_value free_field_with update_with free_object_with of_object_with of_field_with name_equal
axiom-twice = refl

-- The axiom of an update, of which the member is that update itself, or a name.
abbrev base : BaseTree
base = record { place = 0; field = f; at = a; value = b }

axiom-of-update : rule_of (s.axiom_of 10 (t.more (t.update f a (o b)) t.none) (Some base)) ≡ rule [] ((axiom_of_update (t.update f a (o b) ∷ []) base ∷ []) ∷ [])
unfolding rule_of axiom_rule numbered_rule base_rule base_needs rule_adds members has_axioms all_differ related_value free_field_with update_with free_object_with of_object_with of_field_with name_equal
axiom-of-update = refl

axiom-of-name : rule_of (s.axiom_of 10 (t.more g t.none) (Some base)) ≡ rule (leads_as g f a b ∷ []) ((axiom_of_update (g ∷ []) base ∷ []) ∷ [])
unfolding rule_of axiom_rule numbered_rule base_rule base_needs rule_adds members has_axioms all_differ related_value free_field_with update_with free_object_with of_object_with of_field_with name_equal
axiom-of-name = refl

-- The list before the update may have a field twice: here it is f and f.
axiom-before-twice : rule_of (s.axiom_of 10 (t.more (t.update f a (o b)) (t.more f t.none)) (Some base)) ≡ rule [] ((axiom_of_update (t.update f a (o b) ∷ f ∷ []) base ∷ []) ∷ [])
unfolding rule_of axiom_rule numbered_rule base_rule base_needs rule_adds members has_axioms all_differ related_value free_field_with update_with free_object_with of_object_with of_field_with name_equal
axiom-before-twice = refl

-- A base whose place is past the list, and one beside another axiom.
axiom-past-list : rule_of (s.axiom_of 10 (t.more g t.none) (Some (record { place = 1; field = f; at = a; value = b }))) ≡ None
unfolding rule_of axiom_rule numbered_rule base_rule base_needs rule_adds members has_axioms all_differ related_value free_field_with update_with free_object_with of_object_with of_field_with name_equal
axiom-past-list = refl

axiom-beside-base : rule_of (s.axiom_of 1 (t.more g t.none) (Some base)) ≡ None
unfolding rule_of axiom_rule numbered_rule base_rule base_needs rule_adds members has_axioms all_differ related_value free_field_with update_with free_object_with of_object_with of_field_with name_equal
axiom-beside-base = refl

-- Operands without loose bound variables, and a base with one.
axiom-closed : is_closed_step (s.axiom_of 10 (t.more g t.none) (Some base)) ≡ true
unfolding is_closed_step is_closed_base is_closed_formula
axiom-closed = refl

axiom-loose : is_closed_step (s.axiom_of 10 (t.more g t.none) (Some (record { place = 0; field = f; at = t.bound 0; value = b }))) ≡ false
unfolding is_closed_step is_closed_base is_closed_formula
axiom-loose = refl

-- Relations of sets, opened once, under a negation too; membership in a name isn't opened.
equal-opened : fact_opened (t.eq_set A B) ≡ Some (t.all (t.iff (t.member (t.bound 0) A) (t.member (t.bound 0) B)))
unfolding fact_opened relation_opened
equal-opened = refl

subset-opened : fact_opened (t.negation (t.subset A B)) ≡ Some (t.negation (t.all (t.implies (t.member (t.bound 0) A) (t.member (t.bound 0) B))))
unfolding fact_opened negated relation_opened
subset-opened = refl

difference-opened : fact_opened (t.member a (t.diff A B)) ≡ Some (t.and (t.member a A) (t.negation (t.member a B)))
unfolding fact_opened relation_opened member_opened
difference-opened = refl

comprehension-opened : fact_opened (t.member a (t.compr (t.eq_object (t.bound 0) b))) ≡ Some (t.eq_object a b)
unfolding fact_opened relation_opened member_opened mapped_formula
comprehension-opened = refl

member-of-name : fact_opened (t.member a A) ≡ None
unfolding fact_opened relation_opened member_opened
member-of-name = refl

twice-negated : fact_opened (t.negation (t.negation (t.subset A B))) ≡ None
unfolding fact_opened negated relation_opened
twice-negated = refl

-- From a = b and b = c and the negated goal a ~= c: transitive, then pair.
abbrev facts : List FormulaTree
facts = t.eq_object a b ∷ t.eq_object b c ∷ t.negation (t.eq_object a c) ∷ []

row-closes : Closes facts (s.transitive (o a) (o b) (o c) ∷ s.pair (t.eq_object a c) ∷ [])
unfolding rule_of is_closed_step is_closed_formula rule_from_two rule_from rule_adds equation
row-closes =
    step facts (s.transitive (o a) (o b) (o c)) (record { needs = t.eq_object b c ∷ t.eq_object a b ∷ []; adds = (t.eq_object a c ∷ []) ∷ [] }) (s.pair (t.eq_object a c) ∷ [])
    (record { form = refl; closed = refl; facts = (inr (inl refl), (inl refl, tt)); suits = tt })
    (more facts (t.eq_object a c ∷ []) [] (s.pair (t.eq_object a c) ∷ []) []
    (step (t.eq_object a b ∷ t.eq_object b c ∷ t.negation (t.eq_object a c) ∷ t.eq_object a c ∷ []) (s.pair (t.eq_object a c)) (record { needs = t.eq_object a c ∷ t.negation (t.eq_object a c) ∷ []; adds = [] }) []
    (record { form = refl; closed = refl; facts = (inr (inr (inr (inl refl))), (inr (inr (inl refl)), tt)); suits = tt })
    (none (t.eq_object a b ∷ t.eq_object b c ∷ t.negation (t.eq_object a c) ∷ t.eq_object a c ∷ [])))
    (none facts))

-- a transitive step alone leaves a step missing, and one more after the pair is too many
row-missing : FailsAt (facts ∷ []) (s.transitive (o a) (o b) (o c) ∷ []) 1
unfolding rule_of is_closed_step is_closed_formula rule_from_two rule_from rule_adds equation
row-missing = (record { needs = t.eq_object b c ∷ t.eq_object a b ∷ []; adds = (t.eq_object a c ∷ []) ∷ [] }, record { form = refl; closed = refl; facts = (inr (inl refl), (inl refl, tt)); suits = tt }, refl)
