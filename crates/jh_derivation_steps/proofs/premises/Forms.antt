-- Rules of formulas of one form, at nodes of other shapes: there is none.
use Rattle.std.proofs.Common.{◌≡◌, refl, ℕ, List, None, Some}
use Rattle.jh_name.specs.declared.naming.Name.{Name}
use Rattle.jh_form.specs.Tree.{ValueTree, TermTree}
use Rattle.jh_arena.specs.table.Entries.{Pools, the_truth, the_field}
use Rattle.jh_arena.specs.table.Nodes.{shape_tree}
use Rattle.jh_arena.specs.declared.table.shapes.Shape.{Shape}
use Rattle.jh_arena.specs.declared.table.shapes.Shape.TheVariants as s
use Rattle.jh_derivation_rules.specs.Rules.{conjunction_rule, disjunction_rule, implication_rule, equivalence_rule, negation_rule, instance_rule, witness_rule, update_rule}

pub conjunction-none : (p : Pools) (ts : List ValueTree) (x : Shape) → ((a b : ℕ) → x ≡ s.And a b → ⊥) → conjunction_rule (the_truth (Some (shape_tree p ts x))) ≡ None
unfolding conjunction_rule shape_tree the_truth
conjunction-none p ts (s.And a b) h = absurd (h a b refl)
conjunction-none p ts _ h = refl

pub disjunction-none : (p : Pools) (ts : List ValueTree) (x : Shape) → ((a b : ℕ) → x ≡ s.Or a b → ⊥) → disjunction_rule (the_truth (Some (shape_tree p ts x))) ≡ None
unfolding disjunction_rule shape_tree the_truth
disjunction-none p ts (s.Or a b) h = absurd (h a b refl)
disjunction-none p ts _ h = refl

pub implication-none : (p : Pools) (ts : List ValueTree) (x : Shape) → ((a b : ℕ) → x ≡ s.Implies a b → ⊥) → implication_rule (the_truth (Some (shape_tree p ts x))) ≡ None
unfolding implication_rule shape_tree the_truth
implication-none p ts (s.Implies a b) h = absurd (h a b refl)
implication-none p ts _ h = refl

pub equivalence-none : (p : Pools) (ts : List ValueTree) (x : Shape) → ((a b : ℕ) → x ≡ s.Iff a b → ⊥) → equivalence_rule (the_truth (Some (shape_tree p ts x))) ≡ None
unfolding equivalence_rule shape_tree the_truth
equivalence-none p ts (s.Iff a b) h = absurd (h a b refl)
equivalence-none p ts _ h = refl

pub negation-none : (p : Pools) (ts : List ValueTree) (x : Shape) → ((a : ℕ) → x ≡ s.Negation a → ⊥) → negation_rule (the_truth (Some (shape_tree p ts x))) ≡ None
unfolding negation_rule shape_tree the_truth
negation-none p ts (s.Negation a) h = absurd (h a refl)
negation-none p ts _ h = refl

pub instance-none : (p : Pools) (ts : List ValueTree) (w : TermTree) (x : Shape) → ((a : ℕ) → x ≡ s.All a → ⊥) → instance_rule (the_truth (Some (shape_tree p ts x))) w ≡ None
unfolding instance_rule shape_tree the_truth
instance-none p ts w (s.All a) h = absurd (h a refl)
instance-none p ts w _ h = refl

pub witness-none : (p : Pools) (ts : List ValueTree) (w : Name) (x : Shape) → ((a : ℕ) → x ≡ s.Ex a → ⊥) → witness_rule (the_truth (Some (shape_tree p ts x))) w ≡ None
unfolding witness_rule shape_tree the_truth
witness-none p ts w (s.Ex a) h = absurd (h a refl)
witness-none p ts w _ h = refl

pub update-none : (p : Pools) (ts : List ValueTree) (x : Shape) → ((a b c : ℕ) → x ≡ s.Update a b c → ⊥) → update_rule (the_field (Some (shape_tree p ts x))) ≡ None
unfolding update_rule shape_tree the_field
update-none p ts (s.Update a b c) h = absurd (h a b c refl)
update-none p ts _ h = refl
