-- The object terms of a formula that has no connective and no quantifier.
use Rattle.std.specs.Prelude.{List, [], ◌++◌}
use Rattle.jh_form.specs.Tree.{TermTree, FormulaTree}
use Rattle.jh_form.specs.Tree as t
use Rattle.jh_inst.specs.instances.Terms.{terms_in, number_terms, set_terms}

-- each as often as it stands; of a formula that is no atom none
abbrev pub atom_terms : FormulaTree → List TermTree
atom_terms (t.read_truth f a) = terms_in a
atom_terms (t.eq_object a b) = terms_in a ++ terms_in b
atom_terms (t.eq_number a b) = number_terms a ++ number_terms b
atom_terms (t.member a b) = terms_in a ++ set_terms b
atom_terms (t.reach fs a b) = terms_in a ++ terms_in b
atom_terms _ = []
