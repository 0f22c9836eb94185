-- Tests over the free names of a tree.
use Rattle.std.specs.Prelude.{Bool, true, ◌&&◌, nat_eq}
use Rattle.std.specs.Cmp.Lexicographic.{pointwise}
use Rattle.jh_name.specs.declared.naming.Name.{Name}
use Rattle.jh_name.specs.declared.place.Sort as place
use Rattle.jh_name.specs.declared.place.Sort.TheVariants as Sort
use Rattle.jh_form.specs.Tree.{TermTree, IntTree, SetTree, FieldTree, ValueTree, FormulaTree, FieldTrees}
use Rattle.jh_form.specs.Tree as t

-- Two names are one where their turns and their texts are.
unfoldable pub name_equal : Name → Name → Bool
name_equal x y = nat_eq x.turn y.turn && pointwise nat_eq x.text y.text

-- Each free name passes the test, at the sort at which it stands. Names in labels aren't free names.
unfoldable mutual
  pub term_passes : TermTree → (Name → place.Sort → Bool) → Bool
  term_passes (t.bound k) p = true
  term_passes (t.free_object x) p = p x Sort.Obj
  term_passes t.null p = true
  term_passes (t.read_object a b) p = field_passes a p && term_passes b p

  pub int_passes : IntTree → (Name → place.Sort → Bool) → Bool
  int_passes (t.const z) p = true
  int_passes (t.free_number x) p = p x Sort.Int
  int_passes (t.read_number a b) p = field_passes a p && term_passes b p
  int_passes (t.add a b) p = int_passes a p && int_passes b p
  int_passes (t.sub a b) p = int_passes a p && int_passes b p
  int_passes (t.neg a) p = int_passes a p
  int_passes (t.scale z a) p = int_passes a p
  int_passes (t.card a) p = set_passes a p

  pub set_passes : SetTree → (Name → place.Sort → Bool) → Bool
  set_passes (t.free_set x) p = p x Sort.Set
  set_passes (t.read_set a b) p = field_passes a p && term_passes b p
  set_passes t.empty p = true
  set_passes t.univ p = true
  set_passes (t.single a) p = term_passes a p
  set_passes (t.union a b) p = set_passes a p && set_passes b p
  set_passes (t.inter a b) p = set_passes a p && set_passes b p
  set_passes (t.diff a b) p = set_passes a p && set_passes b p
  set_passes (t.compl a) p = set_passes a p
  set_passes (t.compr a) p = formula_passes a p

  pub field_passes : FieldTree → (Name → place.Sort → Bool) → Bool
  field_passes (t.free_field x) p = p x Sort.Field
  field_passes (t.update a b c) p = field_passes a p && term_passes b p && value_passes c p

  pub value_passes : ValueTree → (Name → place.Sort → Bool) → Bool
  value_passes (t.of_object a) p = term_passes a p
  value_passes (t.of_number a) p = int_passes a p
  value_passes (t.of_truth a) p = formula_passes a p
  value_passes (t.of_set a) p = set_passes a p
  value_passes (t.of_field a) p = field_passes a p

  pub formula_passes : FormulaTree → (Name → place.Sort → Bool) → Bool
  formula_passes t.true_formula p = true
  formula_passes t.false_formula p = true
  formula_passes (t.free_truth x) p = p x Sort.Bool
  formula_passes (t.read_truth a b) p = field_passes a p && term_passes b p
  formula_passes (t.negation a) p = formula_passes a p
  formula_passes (t.and a b) p = formula_passes a p && formula_passes b p
  formula_passes (t.or a b) p = formula_passes a p && formula_passes b p
  formula_passes (t.implies a b) p = formula_passes a p && formula_passes b p
  formula_passes (t.iff a b) p = formula_passes a p && formula_passes b p
  formula_passes (t.all a) p = formula_passes a p
  formula_passes (t.ex a) p = formula_passes a p
  formula_passes (t.eq_object a b) p = term_passes a p && term_passes b p
  formula_passes (t.eq_number a b) p = int_passes a p && int_passes b p
  formula_passes (t.eq_set a b) p = set_passes a p && set_passes b p
  formula_passes (t.less a b) p = int_passes a p && int_passes b p
  formula_passes (t.less_equal a b) p = int_passes a p && int_passes b p
  formula_passes (t.divides z a) p = int_passes a p
  formula_passes (t.member a b) p = term_passes a p && set_passes b p
  formula_passes (t.subset a b) p = set_passes a p && set_passes b p
  formula_passes (t.reach fs a b) p = fields_passes fs p && term_passes a p && term_passes b p
  formula_passes (t.tree fs) p = fields_passes fs p
  formula_passes (t.mark k a) p = formula_passes a p

  pub fields_passes : FieldTrees → (Name → place.Sort → Bool) → Bool
  fields_passes t.none p = true
  fields_passes (t.more f fs) p = field_passes f p && fields_passes fs p
