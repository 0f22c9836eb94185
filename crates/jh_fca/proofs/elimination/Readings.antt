-- Where a field may stand in a tree: it is read for objects at terms of which something holds, and at other kinds where that is
-- allowed; it stands in no update, no comprehension and no list of fields. Inside those, and inside a quantifier, it is not read for objects.
use Rattle.std.proofs.Common.{◌≡◌, Bool, true, false}
use Rattle.jh_name.specs.declared.naming.Name.{Name}
use Rattle.jh_form.specs.Tree.{TermTree, IntTree, SetTree, FieldTree, ValueTree, FormulaTree, FieldTrees}
use Rattle.jh_form.specs.Tree as t
use Rattle.jh_fca.specs.elimination.Constraints.{is_name}

abbrev pub Never : TermTree → Type 0
Never a = ⊥

abbrev mutual
  pub TermReads : TermTree → Name → Bool → (TermTree → Type 0) → Type 0
  TermReads (t.bound k) f lax Q = Unit {0}
  TermReads (t.free_object x) f lax Q = Unit {0}
  TermReads t.null f lax Q = Unit {0}
  TermReads (t.read_object a b) f lax Q = FieldReads a f × (TermReads b f lax Q × (is_name f a ≡ true → Q b))

  pub IntReads : IntTree → Name → Bool → (TermTree → Type 0) → Type 0
  IntReads (t.const z) f lax Q = Unit {0}
  IntReads (t.free_number x) f lax Q = Unit {0}
  IntReads (t.read_number a b) f lax Q = FieldReads a f × (TermReads b f lax Q × (is_name f a ≡ true → lax ≡ true))
  IntReads (t.add a b) f lax Q = IntReads a f lax Q × IntReads b f lax Q
  IntReads (t.sub a b) f lax Q = IntReads a f lax Q × IntReads b f lax Q
  IntReads (t.neg a) f lax Q = IntReads a f lax Q
  IntReads (t.scale z a) f lax Q = IntReads a f lax Q
  IntReads (t.card a) f lax Q = SetReads a f lax Q

  pub SetReads : SetTree → Name → Bool → (TermTree → Type 0) → Type 0
  SetReads (t.free_set x) f lax Q = Unit {0}
  SetReads (t.read_set a b) f lax Q = FieldReads a f × (TermReads b f lax Q × (is_name f a ≡ true → lax ≡ true))
  SetReads t.empty f lax Q = Unit {0}
  SetReads t.univ f lax Q = Unit {0}
  SetReads (t.single a) f lax Q = TermReads a f lax Q
  SetReads (t.union a b) f lax Q = SetReads a f lax Q × SetReads b f lax Q
  SetReads (t.inter a b) f lax Q = SetReads a f lax Q × SetReads b f lax Q
  SetReads (t.diff a b) f lax Q = SetReads a f lax Q × SetReads b f lax Q
  SetReads (t.compl a) f lax Q = SetReads a f lax Q
  SetReads (t.compr a) f lax Q = FormulaReads a f false Never

  pub FieldReads : FieldTree → Name → Type 0
  FieldReads (t.free_field x) f = Unit {0}
  FieldReads (t.update a b c) f = (is_name f a ≡ true → ⊥) × (FieldReads a f × (TermReads b f false Never × ValueReads c f))

  pub ValueReads : ValueTree → Name → Type 0
  ValueReads (t.of_object a) f = TermReads a f false Never
  ValueReads (t.of_number a) f = IntReads a f false Never
  ValueReads (t.of_truth a) f = FormulaReads a f false Never
  ValueReads (t.of_set a) f = SetReads a f false Never
  ValueReads (t.of_field a) f = (is_name f a ≡ true → ⊥) × FieldReads a f

  pub FormulaReads : FormulaTree → Name → Bool → (TermTree → Type 0) → Type 0
  FormulaReads t.true_formula f lax Q = Unit {0}
  FormulaReads t.false_formula f lax Q = Unit {0}
  FormulaReads (t.free_truth x) f lax Q = Unit {0}
  FormulaReads (t.read_truth a b) f lax Q = FieldReads a f × (TermReads b f lax Q × (is_name f a ≡ true → lax ≡ true))
  FormulaReads (t.negation a) f lax Q = FormulaReads a f lax Q
  FormulaReads (t.and a b) f lax Q = FormulaReads a f lax Q × FormulaReads b f lax Q
  FormulaReads (t.or a b) f lax Q = FormulaReads a f lax Q × FormulaReads b f lax Q
  FormulaReads (t.implies a b) f lax Q = FormulaReads a f lax Q × FormulaReads b f lax Q
  FormulaReads (t.iff a b) f lax Q = FormulaReads a f lax Q × FormulaReads b f lax Q
  FormulaReads (t.all a) f lax Q = FormulaReads a f lax Never
  FormulaReads (t.ex a) f lax Q = FormulaReads a f lax Never
  FormulaReads (t.eq_object a b) f lax Q = TermReads a f lax Q × TermReads b f lax Q
  FormulaReads (t.eq_number a b) f lax Q = IntReads a f lax Q × IntReads b f lax Q
  FormulaReads (t.eq_set a b) f lax Q = SetReads a f lax Q × SetReads b f lax Q
  FormulaReads (t.less a b) f lax Q = IntReads a f lax Q × IntReads b f lax Q
  FormulaReads (t.less_equal a b) f lax Q = IntReads a f lax Q × IntReads b f lax Q
  FormulaReads (t.divides z a) f lax Q = IntReads a f lax Q
  FormulaReads (t.member a b) f lax Q = TermReads a f lax Q × SetReads b f lax Q
  FormulaReads (t.subset a b) f lax Q = SetReads a f lax Q × SetReads b f lax Q
  FormulaReads (t.reach a b c) f lax Q = FieldsReads a f × (TermReads b f lax Q × TermReads c f lax Q)
  FormulaReads (t.tree a) f lax Q = FieldsReads a f
  FormulaReads (t.mark m a) f lax Q = FormulaReads a f lax Q

  pub FieldsReads : FieldTrees → Name → Type 0
  FieldsReads t.none f = Unit {0}
  FieldsReads (t.more a b) f = (is_name f a ≡ true → ⊥) × (FieldReads a f × FieldsReads b f)

-- what holds of no read holds where any are allowed
pub term-weaker : (a : TermTree) (f : Name) (old lax : Bool) (Q : TermTree → Type 0) → TermReads a f old Never → TermReads a f lax Q
term-weaker (t.bound k) f old lax Q h = tt
term-weaker (t.free_object x) f old lax Q h = tt
term-weaker t.null f old lax Q h = tt
term-weaker (t.read_object a b) f old lax Q h = (h.0, (term-weaker b f old lax Q h.1.0, λ e. absurd (h.1.1 e)))

pub term-more : (a : TermTree) (f : Name) (lax : Bool) (P Q : TermTree → Type 0) → ((s : TermTree) → P s → Q s) → TermReads a f lax P → TermReads a f lax Q
term-more (t.bound k) f lax P Q more h = tt
term-more (t.free_object x) f lax P Q more h = tt
term-more t.null f lax P Q more h = tt
term-more (t.read_object a b) f lax P Q more h = (h.0, (term-more b f lax P Q more h.1.0, λ e. more b (h.1.1 e)))
