-- A tree made anew from below: each part by a rule, which sees the part over the answers for its own
-- parts, and how the part stands in the whole.
use Rattle.jh_form.specs.Tree.{TermTree, IntTree, SetTree, FieldTree, ValueTree, FormulaTree, FieldTrees}
use Rattle.jh_form.specs.Tree as t
use Rattle.jh_normal_forms.specs.declared.rebuilding.polarity.Polarity.{Polarity}
use Rattle.jh_normal_forms.specs.declared.rebuilding.polarity.Polarity.TheVariants as pol

-- how a part of a negation stands, where the negation stands so
unfoldable pub turned : Polarity → Polarity
turned pol.Positive = pol.Negative
turned pol.Negative = pol.Positive
turned pol.Both = pol.Both

-- What a rule makes of each sort.
pub record Rule : Type 0 where
  pub object : TermTree → TermTree
  pub number : IntTree → IntTree
  pub set : SetTree → SetTree
  pub field : FieldTree → FieldTree
  pub truth : FormulaTree → Polarity → FormulaTree

-- A formula's parts stand as the formula does, but for those under Not and before an implication, which
-- stand the other way. Parts of an equivalence, and formulas inside terms, stand both ways.
unfoldable mutual
  pub built_term : TermTree → Rule → TermTree
  built_term (t.bound k) r = r.object (t.bound k)
  built_term (t.free_object x) r = r.object (t.free_object x)
  built_term t.null r = r.object t.null
  built_term (t.read_object a b) r = r.object (t.read_object (built_field a r) (built_term b r))

  pub built_int : IntTree → Rule → IntTree
  built_int (t.const z) r = r.number (t.const z)
  built_int (t.free_number x) r = r.number (t.free_number x)
  built_int (t.read_number a b) r = r.number (t.read_number (built_field a r) (built_term b r))
  built_int (t.add a b) r = r.number (t.add (built_int a r) (built_int b r))
  built_int (t.sub a b) r = r.number (t.sub (built_int a r) (built_int b r))
  built_int (t.neg a) r = r.number (t.neg (built_int a r))
  built_int (t.scale z a) r = r.number (t.scale z (built_int a r))
  built_int (t.card a) r = r.number (t.card (built_set a r))

  pub built_set : SetTree → Rule → SetTree
  built_set (t.free_set x) r = r.set (t.free_set x)
  built_set (t.read_set a b) r = r.set (t.read_set (built_field a r) (built_term b r))
  built_set t.empty r = r.set t.empty
  built_set t.univ r = r.set t.univ
  built_set (t.single a) r = r.set (t.single (built_term a r))
  built_set (t.union a b) r = r.set (t.union (built_set a r) (built_set b r))
  built_set (t.inter a b) r = r.set (t.inter (built_set a r) (built_set b r))
  built_set (t.diff a b) r = r.set (t.diff (built_set a r) (built_set b r))
  built_set (t.compl a) r = r.set (t.compl (built_set a r))
  built_set (t.compr a) r = r.set (t.compr (built_formula a r pol.Both))

  pub built_field : FieldTree → Rule → FieldTree
  built_field (t.free_field x) r = r.field (t.free_field x)
  built_field (t.update a b c) r = r.field (t.update (built_field a r) (built_term b r) (built_value c r))

  pub built_value : ValueTree → Rule → ValueTree
  built_value (t.of_object a) r = t.of_object (built_term a r)
  built_value (t.of_number a) r = t.of_number (built_int a r)
  built_value (t.of_truth a) r = t.of_truth (built_formula a r pol.Both)
  built_value (t.of_set a) r = t.of_set (built_set a r)
  built_value (t.of_field a) r = t.of_field (built_field a r)

  pub built_formula : FormulaTree → Rule → Polarity → FormulaTree
  built_formula t.true_formula r s = r.truth t.true_formula s
  built_formula t.false_formula r s = r.truth t.false_formula s
  built_formula (t.free_truth x) r s = r.truth (t.free_truth x) s
  built_formula (t.read_truth a b) r s = r.truth (t.read_truth (built_field a r) (built_term b r)) s
  built_formula (t.negation a) r s = r.truth (t.negation (built_formula a r (turned s))) s
  built_formula (t.and a b) r s = r.truth (t.and (built_formula a r s) (built_formula b r s)) s
  built_formula (t.or a b) r s = r.truth (t.or (built_formula a r s) (built_formula b r s)) s
  built_formula (t.implies a b) r s = r.truth (t.implies (built_formula a r (turned s)) (built_formula b r s)) s
  built_formula (t.iff a b) r s = r.truth (t.iff (built_formula a r pol.Both) (built_formula b r pol.Both)) s
  built_formula (t.all a) r s = r.truth (t.all (built_formula a r s)) s
  built_formula (t.ex a) r s = r.truth (t.ex (built_formula a r s)) s
  built_formula (t.eq_object a b) r s = r.truth (t.eq_object (built_term a r) (built_term b r)) s
  built_formula (t.eq_number a b) r s = r.truth (t.eq_number (built_int a r) (built_int b r)) s
  built_formula (t.eq_set a b) r s = r.truth (t.eq_set (built_set a r) (built_set b r)) s
  built_formula (t.less a b) r s = r.truth (t.less (built_int a r) (built_int b r)) s
  built_formula (t.less_equal a b) r s = r.truth (t.less_equal (built_int a r) (built_int b r)) s
  built_formula (t.divides z a) r s = r.truth (t.divides z (built_int a r)) s
  built_formula (t.member a b) r s = r.truth (t.member (built_term a r) (built_set b r)) s
  built_formula (t.subset a b) r s = r.truth (t.subset (built_set a r) (built_set b r)) s
  built_formula (t.reach fs a b) r s = r.truth (t.reach (built_fields fs r) (built_term a r) (built_term b r)) s
  built_formula (t.tree fs) r s = r.truth (t.tree (built_fields fs r)) s
  built_formula (t.mark k a) r s = r.truth (t.mark k (built_formula a r s)) s

  pub built_fields : FieldTrees → Rule → FieldTrees
  built_fields t.none r = t.none
  built_fields (t.more f fs) r = t.more (built_field f r) (built_fields fs r)
