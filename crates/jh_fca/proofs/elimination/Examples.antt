-- What each step gives, worked by hand.
use Rattle.std.proofs.Common.{◌≡◌, refl, sym, ℕ, true, false, List, [], ◌∷◌, Some, None, pos, codes, arith}
use Rattle.std.proofs.lemmas.Bool.{true≢false}
use Rattle.jh_name.specs.declared.naming.Name.{Name}
use Rattle.jh_name.specs.declared.place.MethodId.{MethodId}
use Rattle.jh_form.specs.declared.mark.Mark.{Mark}
use Rattle.jh_form.specs.Tree.{TermTree, FormulaTree}
use Rattle.jh_form.specs.Tree as t
use Rattle.jh_form.specs.Meaning.{Interp}
use Rattle.jh_form.specs.Closed.{is_closed_term, is_closed_field, is_closed_formula}
use Rattle.jh_form.specs.Passing.{name_equal, term_passes, field_passes, formula_passes, fields_passes}
use Rattle.jh_boxed.specs.Mapped.{mapped_term, mapped_set, mapped_field, mapped_value, mapped_formula}
use Rattle.jh_boxed_operations.specs.comparison.Compared.{bound_with, free_object_with, null_with, read_object_with, free_field_with, of_object_with, of_truth_with, of_set_with, of_field_with, related_term, related_field, related_value}
use Rattle.jh_normal_forms.specs.parts.Standing.{term_parts, field_parts, formula_parts, fields_parts}
use Rattle.jh_substitution.specs.rewriting.Rewritten.{object_or, truth_or, set_or, field_or, rewritten_term, rewritten_set, rewritten_field, rewritten_formula}
use Rattle.jh_seq.specs.sequent.Sequents.{HypTree, SequentTree, IsValid}
use Rattle.jh_fca.specs.elimination.Constraints.{Constraint, constraint_tree, other_than, is_name, is_variable, is_apart, constraint_in}
use Rattle.jh_fca.specs.elimination.Derived.{goes_along, is_listed, is_listed_in, fields_of, names_once, derived, is_of, first_for, without_first}
use Rattle.jh_fca.specs.elimination.Reads.{is_read, holds_read, outside, term_reads, set_reads, field_reads, formula_reads}
use Rattle.jh_fca.specs.elimination.Exchanged.{varied_term, quantified, terms_once, exchanged, atom_exchanged, eliminated}
use Rattle.jh_fca.specs.elimination.Eliminated.{at_turn, step_by, all_steps, eliminate}

abbrev plain : List ℕ → Name
plain text = record { text = text; turn = 0 }

abbrev a : TermTree
a = t.free_object (plain (codes "a"))

abbrev b : TermTree
b = t.free_object (plain (codes "b"))

abbrev p : FormulaTree
p = t.free_truth (plain (codes "p"))

abbrev next_name : Name
next_name = plain (codes "C.next")

abbrev f_name : Name
f_name = plain (codes "C.f")

abbrev g_name : Name
g_name = plain (codes "C.g")

abbrev next : TermTree → TermTree
next x = t.read_object (t.free_field next_name) x

abbrev f : TermTree → TermTree
f x = t.read_object (t.free_field f_name) x

abbrev g : TermTree → TermTree
g x = t.read_object (t.free_field g_name) x

-- bound variables, by the number of binders between
abbrev v0 : TermTree
v0 = t.bound 0

abbrev v1 : TermTree
v1 = t.bound 1

abbrev v2 : TermTree
v2 = t.bound 2

-- FC is `y = x..f`, and a constraint of g
abbrev by_f : FormulaTree
by_f = t.eq_object v0 (f v1)

abbrev g_by_f : Constraint
g_by_f = record { field = g_name; says = by_f }

abbrev f_by_next : Constraint
f_by_next = record { field = f_name; says = t.eq_object v0 (next v1) }

abbrev hyp : FormulaTree → HypTree
hyp fact = record { name = None; fact = fact }

module _ (method : MethodId) (mark : Mark) where
  abbrev sequent : List HypTree → FormulaTree → SequentTree
  sequent hyps goal = record { method = method; mark = mark; hyps = hyps; goal = goal }

-- ---- which hypotheses constrain a field

-- `ALL x y. x..g = y --> y = x..f` does
constrains : constraint_in (constraint_tree g_by_f) ≡ Some g_by_f
unfolding constraint_in is_variable is_apart other_than name_equal formula_passes term_passes field_passes is_closed_formula is_closed_term is_closed_field
constrains = refl

-- with `y = x..g` in front it doesn't, nor where g stands in what is said, nor where a third variable does
turned_round : constraint_in (t.all (t.all (t.implies (t.eq_object v0 (g v1)) by_f))) ≡ None
unfolding constraint_in
turned_round = refl

by_itself : constraint_in (constraint_tree (record { field = g_name; says = t.eq_object v0 (g (f v1)) })) ≡ None
unfolding constraint_in is_variable is_apart other_than name_equal formula_passes term_passes field_passes is_closed_formula is_closed_term is_closed_field
by_itself = refl

by_another : constraint_in (constraint_tree (record { field = g_name; says = t.eq_object v0 v2 })) ≡ None
unfolding constraint_in is_variable is_apart other_than name_equal formula_passes term_passes field_passes is_closed_formula is_closed_term is_closed_field
by_another = refl

-- ---- reads

-- those of `g (g a) = g b` are a, `g a` and b
inner_first : formula_reads (t.eq_object (g (g a)) (g b)) g_name ≡ a ∷ g a ∷ b ∷ []
unfolding term_reads formula_reads field_reads is_name name_equal
inner_first = refl

-- that of `a : {v. v..g = b..g}` is b
beneath : formula_reads (t.member a (t.compr (t.eq_object (g v0) (g b)))) g_name ≡ b ∷ []
unfolding term_reads set_reads formula_reads field_reads outside is_name name_equal mapped_term mapped_field related_value related_term related_field of_object_with bound_with null_with free_object_with
beneath = refl

-- ---- atoms

-- a goal and a hypothesis
goal_once : eliminated g_by_f (t.eq_object (g a) b) true ≡ t.all (t.implies (t.eq_object v0 (f a)) (t.eq_object v0 b))
unfolding eliminated atom_exchanged exchanged quantified terms_once formula_reads term_reads field_reads is_name name_equal mapped_formula mapped_term mapped_field mapped_value rewritten_formula rewritten_term rewritten_field object_or truth_or field_or related_value related_term related_field of_object_with bound_with null_with free_object_with read_object_with free_field_with of_truth_with of_field_with
goal_once = refl

fact_once : eliminated g_by_f (t.eq_object (g a) b) false ≡ t.ex (t.and (t.eq_object v0 (f a)) (t.eq_object v0 b))
unfolding eliminated atom_exchanged exchanged quantified terms_once formula_reads term_reads field_reads is_name name_equal mapped_formula mapped_term mapped_field mapped_value rewritten_formula rewritten_term rewritten_field object_or truth_or field_or related_value related_term related_field of_object_with bound_with null_with free_object_with read_object_with free_field_with of_truth_with of_field_with
fact_once = refl

-- `g (g a) = g a`: the inner read first, and its variable stands for it at both places
goal_twice : eliminated g_by_f (t.eq_object (g (g a)) (g a)) true ≡ t.all (t.implies (t.eq_object v0 (f a)) (t.all (t.implies (t.eq_object v0 (f v1)) (t.eq_object v0 v1))))
unfolding eliminated atom_exchanged exchanged quantified terms_once varied_term formula_reads term_reads field_reads is_name name_equal mapped_formula mapped_term mapped_field mapped_value rewritten_formula rewritten_term rewritten_field object_or truth_or field_or related_value related_term related_field of_object_with bound_with null_with free_object_with read_object_with free_field_with of_truth_with of_field_with
goal_twice = refl

-- what speaks of a variable of the atom stays: `a : {v. v..g = b..g}` becomes `ALL y. y = b..f --> a : {v. v..g = y}`
goal_beneath : eliminated g_by_f (t.member a (t.compr (t.eq_object (g v0) (g b)))) true ≡ t.all (t.implies (t.eq_object v0 (f b)) (t.member a (t.compr (t.eq_object (g v0) v1))))
unfolding eliminated atom_exchanged exchanged quantified terms_once varied_term formula_reads set_reads term_reads field_reads outside is_name name_equal mapped_formula mapped_set mapped_term mapped_field mapped_value rewritten_formula rewritten_set rewritten_term rewritten_field object_or truth_or set_or field_or related_value related_term related_field of_object_with bound_with null_with free_object_with read_object_with free_field_with of_truth_with of_field_with of_set_with
goal_beneath = refl

-- ---- formulas

-- an equivalence round a read is two implications, one without a read stays
goal_iff : eliminated g_by_f (t.iff p (t.eq_object (g a) b)) true ≡ t.and (t.implies p (t.all (t.implies (t.eq_object v0 (f a)) (t.eq_object v0 b)))) (t.implies (t.ex (t.and (t.eq_object v0 (f a)) (t.eq_object v0 b))) p)
unfolding eliminated holds_read is_read formula_parts term_parts field_parts atom_exchanged exchanged quantified terms_once formula_reads term_reads field_reads is_name name_equal mapped_formula mapped_term mapped_field mapped_value rewritten_formula rewritten_term rewritten_field object_or truth_or field_or related_value related_term related_field of_object_with bound_with null_with free_object_with read_object_with free_field_with of_truth_with of_field_with
goal_iff = refl

other_iff : eliminated g_by_f (t.iff p (t.eq_object (f a) b)) true ≡ t.iff p (t.eq_object (f a) b)
unfolding eliminated holds_read is_read formula_parts term_parts field_parts is_name name_equal
other_iff = refl

-- under the quantifier of a variable: `ALL x. x..g = b` becomes `ALL x. ALL y. y = x..f --> y = b`
goal_all : eliminated g_by_f (t.all (t.eq_object (g v0) b)) true ≡ t.all (t.all (t.implies (t.eq_object v0 (f v1)) (t.eq_object v0 b)))
unfolding eliminated atom_exchanged exchanged quantified terms_once formula_reads term_reads field_reads is_name name_equal mapped_formula mapped_term mapped_field mapped_value rewritten_formula rewritten_term rewritten_field object_or truth_or field_or related_value related_term related_field of_object_with bound_with null_with free_object_with read_object_with free_field_with of_truth_with of_field_with
goal_all = refl

-- ---- sequents

module _ (method : MethodId) (mark : Mark) where
  -- of the hypothesis `ALL x y. x..g = y --> y = x..f` and the goal `a..g = b` the derived field is g, and `ALL y. y = a..f --> y = b` is left
  one_field : derived (sequent method mark (hyp (constraint_tree g_by_f) ∷ []) (t.eq_object (g a) b)) ≡ g_name ∷ []
  unfolding derived is_listed_in is_listed goes_along names_once fields_of constraint_in is_variable is_apart other_than name_equal formula_passes term_passes field_passes is_closed_formula is_closed_term is_closed_field formula_parts term_parts field_parts
  one_field = refl

  one_step : eliminate (sequent method mark (hyp (constraint_tree g_by_f) ∷ []) (t.eq_object (g a) b)) ≡ sequent method mark [] (t.all (t.implies (t.eq_object v0 (f a)) (t.eq_object v0 b)))
  unfolding eliminate all_steps step_by at_turn first_for without_first is_of derived is_listed_in is_listed goes_along names_once fields_of constraint_in is_variable is_apart other_than name_equal formula_passes term_passes field_passes is_closed_formula is_closed_term is_closed_field formula_parts term_parts field_parts eliminated atom_exchanged exchanged quantified terms_once formula_reads term_reads field_reads is_name mapped_formula mapped_term mapped_field mapped_value rewritten_formula rewritten_term rewritten_field object_or truth_or field_or related_value related_term related_field of_object_with bound_with null_with free_object_with read_object_with free_field_with of_truth_with of_field_with
  one_step = refl

  -- without a hypothesis there is no derived field, and the sequent stays
  no_field : derived (sequent method mark [] (t.eq_object (g a) b)) ≡ []
  unfolding derived names_once
  no_field = refl

  no_step : eliminate (sequent method mark [] (t.eq_object (g a) b)) ≡ sequent method mark [] (t.eq_object (g a) b)
  unfolding eliminate all_steps derived names_once
  no_step = refl

  -- a field along which a formula reaches isn't derived
  listed_field : derived (sequent method mark (hyp (constraint_tree g_by_f) ∷ []) (t.reach (t.more (t.free_field g_name) t.none) a b)) ≡ []
  unfolding derived is_listed_in is_listed goes_along names_once fields_of constraint_in is_variable is_apart other_than name_equal formula_passes term_passes field_passes fields_passes is_closed_formula is_closed_term is_closed_field formula_parts term_parts field_parts fields_parts
  listed_field = refl

  -- Two derived fields, of which the second one's constraint reads the first: `x..f = y --> y = x..next` goes, the other becomes
  -- `x..g = y --> (EX z. z = x..next & y = z)`, and the goal `a..g = b` says the same of y.
  two_steps :
      eliminate (sequent method mark (hyp (constraint_tree f_by_next) ∷ hyp (constraint_tree g_by_f) ∷ []) (t.eq_object (g a) b)) ≡
      sequent method mark [] (t.all (t.implies (t.ex (t.and (t.eq_object v0 (next a)) (t.eq_object v1 v0))) (t.eq_object v0 b)))
  unfolding eliminate all_steps step_by at_turn first_for without_first is_of derived is_listed_in is_listed goes_along names_once fields_of constraint_in is_variable is_apart other_than name_equal formula_passes term_passes field_passes is_closed_formula is_closed_term is_closed_field formula_parts term_parts field_parts eliminated atom_exchanged exchanged quantified terms_once formula_reads term_reads field_reads is_name mapped_formula mapped_term mapped_field mapped_value rewritten_formula rewritten_term rewritten_field object_or truth_or field_or related_value related_term related_field of_object_with bound_with null_with free_object_with read_object_with free_field_with of_truth_with of_field_with
  two_steps = refl

  -- Two fields whose constraints read one another. Both are derived; at the turn of the second its constraint speaks of itself, and it
  -- is passed over.
  passed_over :
      eliminate (sequent method mark (hyp (constraint_tree (record { field = f_name; says = t.eq_object v0 (g v1) })) ∷ hyp (constraint_tree g_by_f) ∷ []) p) ≡
      sequent method mark (hyp (t.all (t.all (t.implies (t.eq_object (g v1) v0) (t.ex (t.and (t.eq_object v0 (g v2)) (t.eq_object v1 v0)))))) ∷ []) p
  unfolding eliminate all_steps step_by at_turn first_for without_first is_of derived is_listed_in is_listed goes_along names_once fields_of constraint_in is_variable is_apart other_than name_equal formula_passes term_passes field_passes is_closed_formula is_closed_term is_closed_field formula_parts term_parts field_parts eliminated atom_exchanged exchanged quantified terms_once formula_reads term_reads field_reads is_name mapped_formula mapped_term mapped_field mapped_value rewritten_formula rewritten_term rewritten_field object_or truth_or field_or related_value related_term related_field of_object_with bound_with null_with free_object_with read_object_with free_field_with of_truth_with of_field_with
  passed_over = refl

-- ---- a constraint that leaves a choice

-- With True as its constraint g may give anything. `a..g = b` gives itself, but of what is left, `EX y. True & y = b` doesn't give
-- `ALL y. True --> y = b`: there are two objects, and each name is null.
abbrev anything : Constraint
anything = record { field = g_name; says = t.true_formula }

abbrev two_objects : Interp
two_objects = record {
  last = 1;
  object = λ x. 0;
  number = λ x. pos 0;
  truth = λ x. false;
  set = λ x o. false;
  field = λ x. record { objects = λ o. 0; numbers = λ o. pos 0; truths = λ o. false; sets = λ o q. false };
}

module _ (method : MethodId) (mark : Mark) where
  abbrev choice : SequentTree
  choice = sequent method mark (hyp (constraint_tree anything) ∷ hyp (t.eq_object (g a) b) ∷ []) (t.eq_object (g a) b)

  abbrev what_is_left : SequentTree
  what_is_left = sequent method mark (hyp (t.ex (t.and t.true_formula (t.eq_object v0 b))) ∷ []) (t.all (t.implies t.true_formula (t.eq_object v0 b)))

  choice_left : eliminate choice ≡ what_is_left
  unfolding eliminate all_steps step_by at_turn first_for without_first is_of derived is_listed_in is_listed goes_along names_once fields_of constraint_in is_variable is_apart other_than name_equal formula_passes term_passes field_passes is_closed_formula is_closed_term is_closed_field formula_parts term_parts field_parts eliminated atom_exchanged exchanged quantified terms_once formula_reads term_reads field_reads is_name mapped_formula mapped_term mapped_field mapped_value rewritten_formula rewritten_term rewritten_field object_or truth_or field_or related_value related_term related_field of_object_with bound_with null_with free_object_with read_object_with free_field_with of_truth_with of_field_with
  choice_left = refl

  choice_valid : IsValid choice
  choice_valid m inside hold = hold.1.0

  left_invalid : IsValid what_is_left → ⊥
  left_invalid valid = let wrong : false ≡ true = valid two_objects (record { object = λ x. omega arith; field = λ x o lt. omega arith }) (refl, tt) in true≢false (sym wrong)
