-- Written by tools/rewrite.py: a tree that lacks a part stays where the part is exchanged.
use Rattle.std.proofs.Common.{◌≡◌, refl, ap, ◌∙◌, subst, ℕ, ◌+◌, ◌<◌, Bool, true, false, if◌then◌else◌, List, Some, None, slice_get, arith}
use Rattle.jh_form.specs.Tree.{TermTree, IntTree, SetTree, FieldTree, ValueTree, FormulaTree, FieldTrees}
use Rattle.jh_form.specs.Tree as t
use Rattle.jh_boxed.specs.Parts.{Among, first, later, IsChild, IsPart, child, within}
use Rattle.jh_boxed.specs.Parts as part
use Rattle.jh_boxed_operations.specs.comparison.Exchanged.{equal_trees}
use Rattle.jh_boxed_operations.proofs.comparison.Equalities.{equal_trees-true}
use Rattle.jh_arena.specs.table.Growth.{AreDifferent}
use Rattle.jh_substitution.specs.rewriting.Exchanging.{new_for, exchanging}
use Rattle.jh_substitution.specs.rewriting.Rewritten.{object_or, number_or, set_or, field_or, truth_or, rewritten_term, rewritten_int, rewritten_set, rewritten_field, rewritten_value, rewritten_formula, rewritten_fields}

-- the tree is not the old one, and neither is a part of it
pub record Lacks (old v : ValueTree) : Type 0 where
  pub self : v ≡ old → ⊥
  pub part : IsPart old v → ⊥

down : (old a c : ValueTree) → IsChild a c → Lacks old c → Lacks old a
down old a c h l = record { self = λ e. l.part (subst (λ (z : ValueTree). IsPart z c) e (child a c h)); part = λ q. l.part (within old a c q h) }

module _ (old new : ValueTree) where
  unless : (v : ValueTree) (b : Bool) → equal_trees v old ≡ b → (v ≡ old → ⊥) → (if b then Some new else None) ≡ None
  unless v true e differs = absurd (differs (equal_trees-true v old e))
  unless v false e differs = refl

  pub none-for : (v : ValueTree) → (v ≡ old → ⊥) → new_for old new v ≡ None
  none-for v differs = unless v (equal_trees v old) refl differs

  mutual
    unfolding rewritten_term rewritten_int rewritten_set rewritten_field rewritten_value rewritten_formula rewritten_fields object_or number_or set_or field_or truth_or

    pub term-lacks : (a : TermTree) (d : ℕ) → Lacks old (t.of_object a) → rewritten_term a (exchanging old new) d ≡ a
    term-lacks (t.bound k) d l = refl
    term-lacks (t.free_object x) d l = λ i. object_or (none-for (t.of_object (t.free_object x)) l.self i) (t.free_object x)
    term-lacks t.null d l = λ i. object_or (none-for (t.of_object t.null) l.self i) t.null
    term-lacks (t.read_object a b) d l = λ i. object_or (none-for (t.of_object (t.read_object a b)) l.self i) (t.read_object (field-lacks a d (down old (t.of_field a) (t.of_object (t.read_object a b)) (part.read_object-a a b) l) i) (term-lacks b d (down old (t.of_object b) (t.of_object (t.read_object a b)) (part.read_object-b a b) l) i))

    pub int-lacks : (a : IntTree) (d : ℕ) → Lacks old (t.of_number a) → rewritten_int a (exchanging old new) d ≡ a
    int-lacks (t.const z) d l = λ i. number_or (none-for (t.of_number (t.const z)) l.self i) (t.const z)
    int-lacks (t.free_number x) d l = λ i. number_or (none-for (t.of_number (t.free_number x)) l.self i) (t.free_number x)
    int-lacks (t.read_number a b) d l = λ i. number_or (none-for (t.of_number (t.read_number a b)) l.self i) (t.read_number (field-lacks a d (down old (t.of_field a) (t.of_number (t.read_number a b)) (part.read_number-a a b) l) i) (term-lacks b d (down old (t.of_object b) (t.of_number (t.read_number a b)) (part.read_number-b a b) l) i))
    int-lacks (t.add a b) d l = λ i. number_or (none-for (t.of_number (t.add a b)) l.self i) (t.add (int-lacks a d (down old (t.of_number a) (t.of_number (t.add a b)) (part.add-a a b) l) i) (int-lacks b d (down old (t.of_number b) (t.of_number (t.add a b)) (part.add-b a b) l) i))
    int-lacks (t.sub a b) d l = λ i. number_or (none-for (t.of_number (t.sub a b)) l.self i) (t.sub (int-lacks a d (down old (t.of_number a) (t.of_number (t.sub a b)) (part.sub-a a b) l) i) (int-lacks b d (down old (t.of_number b) (t.of_number (t.sub a b)) (part.sub-b a b) l) i))
    int-lacks (t.neg a) d l = λ i. number_or (none-for (t.of_number (t.neg a)) l.self i) (t.neg (int-lacks a d (down old (t.of_number a) (t.of_number (t.neg a)) (part.neg a) l) i))
    int-lacks (t.scale z a) d l = λ i. number_or (none-for (t.of_number (t.scale z a)) l.self i) (t.scale z (int-lacks a d (down old (t.of_number a) (t.of_number (t.scale z a)) (part.scale z a) l) i))
    int-lacks (t.card a) d l = λ i. number_or (none-for (t.of_number (t.card a)) l.self i) (t.card (set-lacks a d (down old (t.of_set a) (t.of_number (t.card a)) (part.card a) l) i))

    pub set-lacks : (a : SetTree) (d : ℕ) → Lacks old (t.of_set a) → rewritten_set a (exchanging old new) d ≡ a
    set-lacks (t.free_set x) d l = λ i. set_or (none-for (t.of_set (t.free_set x)) l.self i) (t.free_set x)
    set-lacks (t.read_set a b) d l = λ i. set_or (none-for (t.of_set (t.read_set a b)) l.self i) (t.read_set (field-lacks a d (down old (t.of_field a) (t.of_set (t.read_set a b)) (part.read_set-a a b) l) i) (term-lacks b d (down old (t.of_object b) (t.of_set (t.read_set a b)) (part.read_set-b a b) l) i))
    set-lacks t.empty d l = λ i. set_or (none-for (t.of_set t.empty) l.self i) t.empty
    set-lacks t.univ d l = λ i. set_or (none-for (t.of_set t.univ) l.self i) t.univ
    set-lacks (t.single a) d l = λ i. set_or (none-for (t.of_set (t.single a)) l.self i) (t.single (term-lacks a d (down old (t.of_object a) (t.of_set (t.single a)) (part.single a) l) i))
    set-lacks (t.union a b) d l = λ i. set_or (none-for (t.of_set (t.union a b)) l.self i) (t.union (set-lacks a d (down old (t.of_set a) (t.of_set (t.union a b)) (part.union-a a b) l) i) (set-lacks b d (down old (t.of_set b) (t.of_set (t.union a b)) (part.union-b a b) l) i))
    set-lacks (t.inter a b) d l = λ i. set_or (none-for (t.of_set (t.inter a b)) l.self i) (t.inter (set-lacks a d (down old (t.of_set a) (t.of_set (t.inter a b)) (part.inter-a a b) l) i) (set-lacks b d (down old (t.of_set b) (t.of_set (t.inter a b)) (part.inter-b a b) l) i))
    set-lacks (t.diff a b) d l = λ i. set_or (none-for (t.of_set (t.diff a b)) l.self i) (t.diff (set-lacks a d (down old (t.of_set a) (t.of_set (t.diff a b)) (part.diff-a a b) l) i) (set-lacks b d (down old (t.of_set b) (t.of_set (t.diff a b)) (part.diff-b a b) l) i))
    set-lacks (t.compl a) d l = λ i. set_or (none-for (t.of_set (t.compl a)) l.self i) (t.compl (set-lacks a d (down old (t.of_set a) (t.of_set (t.compl a)) (part.compl a) l) i))
    set-lacks (t.compr a) d l = λ i. set_or (none-for (t.of_set (t.compr a)) l.self i) (t.compr (formula-lacks a (d + 1) (down old (t.of_truth a) (t.of_set (t.compr a)) (part.compr a) l) i))

    pub field-lacks : (a : FieldTree) (d : ℕ) → Lacks old (t.of_field a) → rewritten_field a (exchanging old new) d ≡ a
    field-lacks (t.free_field x) d l = λ i. field_or (none-for (t.of_field (t.free_field x)) l.self i) (t.free_field x)
    field-lacks (t.update a b c) d l = λ i. field_or (none-for (t.of_field (t.update a b c)) l.self i) (t.update (field-lacks a d (down old (t.of_field a) (t.of_field (t.update a b c)) (part.update-a a b c) l) i) (term-lacks b d (down old (t.of_object b) (t.of_field (t.update a b c)) (part.update-b a b c) l) i) (value-lacks c d (down old c (t.of_field (t.update a b c)) (part.update-c a b c) l) i))

    pub value-lacks : (a : ValueTree) (d : ℕ) → Lacks old a → rewritten_value a (exchanging old new) d ≡ a
    value-lacks (t.of_object a) d l = λ i. t.of_object (term-lacks a d l i)
    value-lacks (t.of_number a) d l = λ i. t.of_number (int-lacks a d l i)
    value-lacks (t.of_truth a) d l = λ i. t.of_truth (formula-lacks a d l i)
    value-lacks (t.of_set a) d l = λ i. t.of_set (set-lacks a d l i)
    value-lacks (t.of_field a) d l = λ i. t.of_field (field-lacks a d l i)

    pub formula-lacks : (a : FormulaTree) (d : ℕ) → Lacks old (t.of_truth a) → rewritten_formula a (exchanging old new) d ≡ a
    formula-lacks t.true_formula d l = λ i. truth_or (none-for (t.of_truth t.true_formula) l.self i) t.true_formula
    formula-lacks t.false_formula d l = λ i. truth_or (none-for (t.of_truth t.false_formula) l.self i) t.false_formula
    formula-lacks (t.free_truth x) d l = λ i. truth_or (none-for (t.of_truth (t.free_truth x)) l.self i) (t.free_truth x)
    formula-lacks (t.read_truth a b) d l = λ i. truth_or (none-for (t.of_truth (t.read_truth a b)) l.self i) (t.read_truth (field-lacks a d (down old (t.of_field a) (t.of_truth (t.read_truth a b)) (part.read_truth-a a b) l) i) (term-lacks b d (down old (t.of_object b) (t.of_truth (t.read_truth a b)) (part.read_truth-b a b) l) i))
    formula-lacks (t.negation a) d l = λ i. truth_or (none-for (t.of_truth (t.negation a)) l.self i) (t.negation (formula-lacks a d (down old (t.of_truth a) (t.of_truth (t.negation a)) (part.negation a) l) i))
    formula-lacks (t.and a b) d l = λ i. truth_or (none-for (t.of_truth (t.and a b)) l.self i) (t.and (formula-lacks a d (down old (t.of_truth a) (t.of_truth (t.and a b)) (part.and-a a b) l) i) (formula-lacks b d (down old (t.of_truth b) (t.of_truth (t.and a b)) (part.and-b a b) l) i))
    formula-lacks (t.or a b) d l = λ i. truth_or (none-for (t.of_truth (t.or a b)) l.self i) (t.or (formula-lacks a d (down old (t.of_truth a) (t.of_truth (t.or a b)) (part.or-a a b) l) i) (formula-lacks b d (down old (t.of_truth b) (t.of_truth (t.or a b)) (part.or-b a b) l) i))
    formula-lacks (t.implies a b) d l = λ i. truth_or (none-for (t.of_truth (t.implies a b)) l.self i) (t.implies (formula-lacks a d (down old (t.of_truth a) (t.of_truth (t.implies a b)) (part.implies-a a b) l) i) (formula-lacks b d (down old (t.of_truth b) (t.of_truth (t.implies a b)) (part.implies-b a b) l) i))
    formula-lacks (t.iff a b) d l = λ i. truth_or (none-for (t.of_truth (t.iff a b)) l.self i) (t.iff (formula-lacks a d (down old (t.of_truth a) (t.of_truth (t.iff a b)) (part.iff-a a b) l) i) (formula-lacks b d (down old (t.of_truth b) (t.of_truth (t.iff a b)) (part.iff-b a b) l) i))
    formula-lacks (t.all a) d l = λ i. truth_or (none-for (t.of_truth (t.all a)) l.self i) (t.all (formula-lacks a (d + 1) (down old (t.of_truth a) (t.of_truth (t.all a)) (part.all a) l) i))
    formula-lacks (t.ex a) d l = λ i. truth_or (none-for (t.of_truth (t.ex a)) l.self i) (t.ex (formula-lacks a (d + 1) (down old (t.of_truth a) (t.of_truth (t.ex a)) (part.ex a) l) i))
    formula-lacks (t.eq_object a b) d l = λ i. truth_or (none-for (t.of_truth (t.eq_object a b)) l.self i) (t.eq_object (term-lacks a d (down old (t.of_object a) (t.of_truth (t.eq_object a b)) (part.eq_object-a a b) l) i) (term-lacks b d (down old (t.of_object b) (t.of_truth (t.eq_object a b)) (part.eq_object-b a b) l) i))
    formula-lacks (t.eq_number a b) d l = λ i. truth_or (none-for (t.of_truth (t.eq_number a b)) l.self i) (t.eq_number (int-lacks a d (down old (t.of_number a) (t.of_truth (t.eq_number a b)) (part.eq_number-a a b) l) i) (int-lacks b d (down old (t.of_number b) (t.of_truth (t.eq_number a b)) (part.eq_number-b a b) l) i))
    formula-lacks (t.eq_set a b) d l = λ i. truth_or (none-for (t.of_truth (t.eq_set a b)) l.self i) (t.eq_set (set-lacks a d (down old (t.of_set a) (t.of_truth (t.eq_set a b)) (part.eq_set-a a b) l) i) (set-lacks b d (down old (t.of_set b) (t.of_truth (t.eq_set a b)) (part.eq_set-b a b) l) i))
    formula-lacks (t.less a b) d l = λ i. truth_or (none-for (t.of_truth (t.less a b)) l.self i) (t.less (int-lacks a d (down old (t.of_number a) (t.of_truth (t.less a b)) (part.less-a a b) l) i) (int-lacks b d (down old (t.of_number b) (t.of_truth (t.less a b)) (part.less-b a b) l) i))
    formula-lacks (t.less_equal a b) d l = λ i. truth_or (none-for (t.of_truth (t.less_equal a b)) l.self i) (t.less_equal (int-lacks a d (down old (t.of_number a) (t.of_truth (t.less_equal a b)) (part.less_equal-a a b) l) i) (int-lacks b d (down old (t.of_number b) (t.of_truth (t.less_equal a b)) (part.less_equal-b a b) l) i))
    formula-lacks (t.divides z a) d l = λ i. truth_or (none-for (t.of_truth (t.divides z a)) l.self i) (t.divides z (int-lacks a d (down old (t.of_number a) (t.of_truth (t.divides z a)) (part.divides z a) l) i))
    formula-lacks (t.member a b) d l = λ i. truth_or (none-for (t.of_truth (t.member a b)) l.self i) (t.member (term-lacks a d (down old (t.of_object a) (t.of_truth (t.member a b)) (part.member-a a b) l) i) (set-lacks b d (down old (t.of_set b) (t.of_truth (t.member a b)) (part.member-b a b) l) i))
    formula-lacks (t.subset a b) d l = λ i. truth_or (none-for (t.of_truth (t.subset a b)) l.self i) (t.subset (set-lacks a d (down old (t.of_set a) (t.of_truth (t.subset a b)) (part.subset-a a b) l) i) (set-lacks b d (down old (t.of_set b) (t.of_truth (t.subset a b)) (part.subset-b a b) l) i))
    formula-lacks (t.reach fs a b) d l = λ i. truth_or (none-for (t.of_truth (t.reach fs a b)) l.self i) (t.reach (fields-lack fs d (λ f m. down old (t.of_field f) (t.of_truth (t.reach fs a b)) (part.reach-field f fs a b m) l) i) (term-lacks a d (down old (t.of_object a) (t.of_truth (t.reach fs a b)) (part.reach-a fs a b) l) i) (term-lacks b d (down old (t.of_object b) (t.of_truth (t.reach fs a b)) (part.reach-b fs a b) l) i))
    formula-lacks (t.tree fs) d l = λ i. truth_or (none-for (t.of_truth (t.tree fs)) l.self i) (t.tree (fields-lack fs d (λ f m. down old (t.of_field f) (t.of_truth (t.tree fs)) (part.tree-field f fs m) l) i))
    formula-lacks (t.mark k a) d l = λ i. truth_or (none-for (t.of_truth (t.mark k a)) l.self i) (t.mark k (formula-lacks a d (down old (t.of_truth a) (t.of_truth (t.mark k a)) (part.mark k a) l) i))

    pub fields-lack : (a : FieldTrees) (d : ℕ) → ((f : FieldTree) → Among f a → Lacks old (t.of_field f)) → rewritten_fields a (exchanging old new) d ≡ a
    fields-lack t.none d l = refl
    fields-lack (t.more f fs) d l = λ i. t.more (field-lacks f d (l f (first f fs)) i) (fields-lack fs d (λ g m. l g (later g f fs m)) i)

-- each part of a node is a node before it
abbrev pub PartsFirst : List ValueTree → Type 0
PartsFirst ts = (n : ℕ) (v w : ValueTree) → slice_get ts n ≡ Some v → IsChild w v → (m : ℕ) × (m < n) × (slice_get ts m ≡ Some w)

part-stands : (ts : List ValueTree) → PartsFirst ts → (a b : ValueTree) → IsPart a b → (n : ℕ) → slice_get ts n ≡ Some b → (m : ℕ) × (m < n) × (slice_get ts m ≡ Some a)
part-stands ts law _ _ (child a b h) n at = law n b a at h
part-stands ts law _ _ (within a b c p h) n at =
    let q = law n c b at h in
    let r = part-stands ts law a b p q.0 q.2 in
    let less : r.0 < n = let one : r.0 < q.0 = r.1 in let two : q.0 < n = q.1 in omega arith in
    (r.0, less, r.2)

away : (n m : ℕ) → n < m → n ≡ m → ⊥
away n m lt e = omega arith

-- a node before another lacks the other's tree
pub earlier-lacks : (ts : List ValueTree) (n from : ℕ) (v old : ValueTree) → PartsFirst ts → AreDifferent ts → n < from → slice_get ts n ≡ Some v → slice_get ts from ≡ Some old → Lacks old v
earlier-lacks ts n from v old law differ lt at there = record {
  self = λ e. away n from lt (differ n from old (at ∙ ap (λ z. Some z) e) there);
  part = λ q.
      let r = part-stands ts law old v q n at in
      let less : r.0 < from = let one : r.0 < n = r.1 in omega arith in
      away r.0 from less (differ r.0 from old r.2 there);
}
