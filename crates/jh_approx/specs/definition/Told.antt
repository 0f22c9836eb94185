-- What a query says of a formula, by the numbers of its names.
use Rattle.jh_form.specs.Tree.{IntTree, SetTree, FormulaTree, of_object, of_number, of_truth, of_set}
use Rattle.jh_form.specs.Tree as t
use Rattle.jh_query.specs.queries.Tree.{SetExprTree, NumTree, CondTree}
use Rattle.jh_query.specs.queries.Tree as q
use Rattle.jh_approx.specs.definition.Names.{NameLists, place_in}

unfoldable pub told_set : NameLists → SetTree → SetExprTree
told_set n t.empty = q.empty
told_set n t.univ = q.all
told_set n (t.single a) = q.one (place_in n.elements (of_object a))
told_set n (t.union a b) = q.union (told_set n a) (told_set n b)
told_set n (t.inter a b) = q.inter (told_set n a) (told_set n b)
told_set n (t.diff a b) = q.diff (told_set n a) (told_set n b)
told_set n (t.compl a) = q.compl (told_set n a)
told_set n a = q.var (place_in n.sets (of_set a))

unfoldable pub told_number : NameLists → IntTree → NumTree
told_number n (t.const z) = q.const z
told_number n (t.add a b) = q.add (told_number n a) (told_number n b)
told_number n (t.sub a b) = q.sub (told_number n a) (told_number n b)
told_number n (t.neg a) = q.neg (told_number n a)
told_number n (t.scale z a) = q.scale z (told_number n a)
told_number n (t.card a) = q.card (told_set n a)
told_number n a = q.number (place_in n.numbers (of_number a))

-- of formulas that a query can say: what is left is a flag
unfoldable pub told : NameLists → FormulaTree → CondTree
told n t.true_formula = q.yes
told n t.false_formula = q.no
told n (t.negation a) = q.negation (told n a)
told n (t.and a b) = q.and (told n a) (told n b)
told n (t.or a b) = q.or (told n a) (told n b)
told n (t.implies a b) = q.implies (told n a) (told n b)
told n (t.iff a b) = q.iff (told n a) (told n b)
told n (t.eq_object a b) = q.same_element (place_in n.elements (of_object a)) (place_in n.elements (of_object b))
told n (t.eq_number a b) = q.equal_num (told_number n a) (told_number n b)
told n (t.eq_set a b) = q.equal_set (told_set n a) (told_set n b)
told n (t.less a b) = q.less_num (told_number n a) (told_number n b)
told n (t.less_equal a b) = q.negation (q.less_num (told_number n b) (told_number n a))
told n (t.divides z a) = q.divides z (told_number n a)
told n (t.member a b) = q.member (place_in n.elements (of_object a)) (told_set n b)
told n (t.subset a b) = q.within (told_set n a) (told_set n b)
told n a = q.flag (place_in n.flags (of_truth a))
