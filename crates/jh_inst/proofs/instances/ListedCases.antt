-- Sequents that were made up at random, and their lists as a separate implementation has them: one round and the last pass.
use Rattle.std.proofs.Common.{◌≡◌, refl, List, [], ◌∷◌, codes, map, true, pos}
use Rattle.jh_name.specs.declared.naming.Name.{Name}
use Rattle.jh_form.specs.Tree.{FormulaTree}
use Rattle.jh_form.specs.Tree as t
use Rattle.jh_form.specs.Closed.{is_closed_term, is_closed_int, is_closed_set, is_closed_field, is_closed_value, is_closed_formula, is_closed_fields}
use Rattle.jh_form.specs.Passing.{name_equal}
use Rattle.jh_boxed.specs.Mapped.{mapped_term, mapped_int, mapped_set, mapped_field, mapped_value, mapped_formula, mapped_fields}
use Rattle.jh_boxed_operations.specs.comparison.Compared.{bound_with, free_object_with, null_with, read_object_with, free_field_with, update_with, of_object_with, related_term, related_int, related_set, related_field, related_value, related_formula, related_fields}
use Rattle.jh_normal_forms.specs.negation_normal_form.Normal.{normal}
use Rattle.jh_seq.specs.splitting.Split.{constant}
use Rattle.jh_inst.specs.instances.Entries.{formulas}
use Rattle.jh_inst.specs.instances.Rounds.{all_made}

abbrev a : Name
a = record { text = codes "a"; turn = 0 }

abbrev b : Name
b = record { text = codes "b"; turn = 0 }

abbrev c : Name
c = record { text = codes "c"; turn = 0 }

abbrev f : Name
f = record { text = codes "f"; turn = 0 }

abbrev g : Name
g = record { text = codes "g"; turn = 0 }

abbrev h : Name
h = record { text = codes "h"; turn = 0 }

abbrev i : Name
i = record { text = codes "i"; turn = 0 }

abbrev k : Name
k = record { text = codes "k"; turn = 0 }

abbrev m : Name
m = record { text = codes "m"; turn = 0 }

abbrev p : Name
p = record { text = codes "p"; turn = 0 }

abbrev q : Name
q = record { text = codes "q"; turn = 0 }

abbrev s : Name
s = record { text = codes "s"; turn = 0 }

abbrev set_a : Name
set_a = record { text = codes "A"; turn = 0 }

abbrev set_b : Name
set_b = record { text = codes "B"; turn = 0 }

abbrev facts : List FormulaTree → List FormulaTree
facts fs = map (λ a. normal a true) fs

made-1 : formulas (all_made (facts ((t.all (t.free_truth p)) ∷ t.negation (t.negation (t.free_truth q)) ∷ [])) 1 1) ≡ ((t.all (t.free_truth p)) ∷ (t.free_truth q) ∷ (t.free_truth p) ∷ [])
unfolding normal is_closed_term is_closed_int is_closed_set is_closed_field is_closed_value is_closed_formula is_closed_fields mapped_term mapped_int mapped_set mapped_field mapped_value mapped_formula mapped_fields name_equal bound_with free_object_with null_with read_object_with free_field_with update_with of_object_with related_term related_int related_set related_field related_value related_formula related_fields
made-1 = refl

made-2 : formulas (all_made (facts (t.negation (t.all (t.negation (t.eq_number (t.const (pos 0)) (t.free_number i)))) ∷ [])) 1 1) ≡ ((t.eq_number (t.const (pos 0)) (t.free_number i)) ∷ [])
unfolding normal is_closed_term is_closed_int is_closed_set is_closed_field is_closed_value is_closed_formula is_closed_fields mapped_term mapped_int mapped_set mapped_field mapped_value mapped_formula mapped_fields name_equal bound_with free_object_with null_with read_object_with free_field_with update_with of_object_with related_term related_int related_set related_field related_value related_formula related_fields
made-2 = refl

made-3 : formulas (all_made (facts (t.negation (t.all (t.eq_object (t.bound 0) (t.free_object c))) ∷ [])) 1 1) ≡ ((t.negation (t.eq_object (t.free_object (constant 1)) (t.free_object c))) ∷ [])
unfolding normal is_closed_term is_closed_int is_closed_set is_closed_field is_closed_value is_closed_formula is_closed_fields mapped_term mapped_int mapped_set mapped_field mapped_value mapped_formula mapped_fields name_equal bound_with free_object_with null_with read_object_with free_field_with update_with of_object_with related_term related_int related_set related_field related_value related_formula related_fields
made-3 = refl

made-4 : formulas (all_made (facts ((t.free_truth q) ∷ (t.member t.null (t.free_set set_b)) ∷ t.negation (t.or (t.all (t.free_truth p)) (t.free_truth q)) ∷ [])) 1 1) ≡ ((t.free_truth q) ∷ (t.member t.null (t.free_set set_b)) ∷ (t.negation (t.free_truth p)) ∷ (t.negation (t.free_truth q)) ∷ [])
unfolding normal is_closed_term is_closed_int is_closed_set is_closed_field is_closed_value is_closed_formula is_closed_fields mapped_term mapped_int mapped_set mapped_field mapped_value mapped_formula mapped_fields name_equal bound_with free_object_with null_with read_object_with free_field_with update_with of_object_with related_term related_int related_set related_field related_value related_formula related_fields
made-4 = refl

made-5 : formulas (all_made (facts ((t.eq_object (t.free_object b) (t.free_object a)) ∷ t.negation (t.negation (t.ex (t.read_truth (t.free_field m) (t.free_object a)))) ∷ [])) 1 1) ≡ ((t.eq_object (t.free_object b) (t.free_object a)) ∷ (t.read_truth (t.free_field m) (t.free_object a)) ∷ [])
unfolding normal is_closed_term is_closed_int is_closed_set is_closed_field is_closed_value is_closed_formula is_closed_fields mapped_term mapped_int mapped_set mapped_field mapped_value mapped_formula mapped_fields name_equal bound_with free_object_with null_with read_object_with free_field_with update_with of_object_with related_term related_int related_set related_field related_value related_formula related_fields
made-5 = refl

made-6 : formulas (all_made (facts ((t.and (t.read_truth (t.free_field m) (t.free_object b)) (t.free_truth q)) ∷ t.negation (t.all (t.member (t.bound 0) (t.free_set set_b))) ∷ [])) 1 1) ≡ ((t.read_truth (t.free_field m) (t.free_object b)) ∷ (t.free_truth q) ∷ (t.negation (t.member (t.free_object (constant 1)) (t.free_set set_b))) ∷ [])
unfolding normal is_closed_term is_closed_int is_closed_set is_closed_field is_closed_value is_closed_formula is_closed_fields mapped_term mapped_int mapped_set mapped_field mapped_value mapped_formula mapped_fields name_equal bound_with free_object_with null_with read_object_with free_field_with update_with of_object_with related_term related_int related_set related_field related_value related_formula related_fields
made-6 = refl

made-7 : formulas (all_made (facts (t.negation (t.all (t.and (t.eq_object (t.read_object (t.free_field g) t.null) (t.bound 0)) (t.eq_object (t.free_object b) t.null))) ∷ [])) 1 1) ≡ ((t.or (t.negation (t.eq_object (t.read_object (t.free_field g) t.null) (t.free_object (constant 1)))) (t.negation (t.eq_object (t.free_object b) t.null))) ∷ [])
unfolding normal is_closed_term is_closed_int is_closed_set is_closed_field is_closed_value is_closed_formula is_closed_fields mapped_term mapped_int mapped_set mapped_field mapped_value mapped_formula mapped_fields name_equal bound_with free_object_with null_with read_object_with free_field_with update_with of_object_with related_term related_int related_set related_field related_value related_formula related_fields
made-7 = refl

made-8 : formulas (all_made (facts ((t.all (t.reach (t.more (t.free_field g) t.none) (t.bound 0) (t.bound 0))) ∷ t.negation (t.tree (t.more (t.free_field g) t.none)) ∷ [])) 1 1) ≡ ((t.all (t.reach (t.more (t.free_field g) t.none) (t.bound 0) (t.bound 0))) ∷ (t.negation (t.tree (t.more (t.free_field g) t.none))) ∷ (t.reach (t.more (t.free_field g) t.none) t.null t.null) ∷ [])
unfolding normal is_closed_term is_closed_int is_closed_set is_closed_field is_closed_value is_closed_formula is_closed_fields mapped_term mapped_int mapped_set mapped_field mapped_value mapped_formula mapped_fields name_equal bound_with free_object_with null_with read_object_with free_field_with update_with of_object_with related_term related_int related_set related_field related_value related_formula related_fields
made-8 = refl

made-9 : formulas (all_made (facts ((t.all (t.reach (t.more (t.free_field f) t.none) (t.bound 0) (t.bound 0))) ∷ t.negation (t.tree (t.more (t.free_field f) t.none)) ∷ [])) 1 1) ≡ ((t.all (t.reach (t.more (t.free_field f) t.none) (t.bound 0) (t.bound 0))) ∷ (t.negation (t.tree (t.more (t.free_field f) t.none))) ∷ (t.reach (t.more (t.free_field f) t.none) t.null t.null) ∷ [])
unfolding normal is_closed_term is_closed_int is_closed_set is_closed_field is_closed_value is_closed_formula is_closed_fields mapped_term mapped_int mapped_set mapped_field mapped_value mapped_formula mapped_fields name_equal bound_with free_object_with null_with read_object_with free_field_with update_with of_object_with related_term related_int related_set related_field related_value related_formula related_fields
made-9 = refl

made-10 : formulas (all_made (facts ((t.free_truth q) ∷ (t.all (t.reach (t.more (t.free_field f) t.none) (t.bound 0) (t.bound 0))) ∷ t.negation (t.tree (t.more (t.free_field f) t.none)) ∷ [])) 1 1) ≡ ((t.free_truth q) ∷ (t.all (t.reach (t.more (t.free_field f) t.none) (t.bound 0) (t.bound 0))) ∷ (t.negation (t.tree (t.more (t.free_field f) t.none))) ∷ (t.reach (t.more (t.free_field f) t.none) t.null t.null) ∷ [])
unfolding normal is_closed_term is_closed_int is_closed_set is_closed_field is_closed_value is_closed_formula is_closed_fields mapped_term mapped_int mapped_set mapped_field mapped_value mapped_formula mapped_fields name_equal bound_with free_object_with null_with read_object_with free_field_with update_with of_object_with related_term related_int related_set related_field related_value related_formula related_fields
made-10 = refl

made-11 : formulas (all_made (facts ((t.tree (t.more (t.free_field f) t.none)) ∷ (t.all (t.reach (t.more (t.free_field f) t.none) (t.bound 0) (t.bound 0))) ∷ t.negation (t.negation (t.free_truth q)) ∷ [])) 1 1) ≡ ((t.tree (t.more (t.free_field f) t.none)) ∷ (t.all (t.reach (t.more (t.free_field f) t.none) (t.bound 0) (t.bound 0))) ∷ (t.free_truth q) ∷ (t.reach (t.more (t.free_field f) t.none) t.null t.null) ∷ [])
unfolding normal is_closed_term is_closed_int is_closed_set is_closed_field is_closed_value is_closed_formula is_closed_fields mapped_term mapped_int mapped_set mapped_field mapped_value mapped_formula mapped_fields name_equal bound_with free_object_with null_with read_object_with free_field_with update_with of_object_with related_term related_int related_set related_field related_value related_formula related_fields
made-11 = refl

made-12 : formulas (all_made (facts (t.negation (t.all (t.implies (t.member (t.bound 0) (t.read_set (t.free_field s) t.null)) (t.or (t.member (t.bound 0) (t.free_set set_b)) (t.member (t.bound 0) (t.read_set (t.free_field s) (t.free_object b)))))) ∷ [])) 1 1) ≡ ((t.member (t.free_object (constant 1)) (t.read_set (t.free_field s) t.null)) ∷ (t.negation (t.member (t.free_object (constant 1)) (t.free_set set_b))) ∷ (t.negation (t.member (t.free_object (constant 1)) (t.read_set (t.free_field s) (t.free_object b)))) ∷ [])
unfolding normal is_closed_term is_closed_int is_closed_set is_closed_field is_closed_value is_closed_formula is_closed_fields mapped_term mapped_int mapped_set mapped_field mapped_value mapped_formula mapped_fields name_equal bound_with free_object_with null_with read_object_with free_field_with update_with of_object_with related_term related_int related_set related_field related_value related_formula related_fields
made-12 = refl

made-13 : formulas (all_made (facts ((t.all (t.negation (t.member (t.bound 0) (t.free_set set_a)))) ∷ t.negation (t.and (t.negation (t.eq_object (t.free_object c) t.null)) (t.negation (t.negation (t.eq_object (t.free_object c) t.null)))) ∷ [])) 1 1) ≡ ((t.all (t.negation (t.member (t.bound 0) (t.free_set set_a)))) ∷ (t.or (t.eq_object (t.free_object c) t.null) (t.negation (t.eq_object (t.free_object c) t.null))) ∷ (t.negation (t.member t.null (t.free_set set_a))) ∷ (t.negation (t.member (t.free_object c) (t.free_set set_a))) ∷ [])
unfolding normal is_closed_term is_closed_int is_closed_set is_closed_field is_closed_value is_closed_formula is_closed_fields mapped_term mapped_int mapped_set mapped_field mapped_value mapped_formula mapped_fields name_equal bound_with free_object_with null_with read_object_with free_field_with update_with of_object_with related_term related_int related_set related_field related_value related_formula related_fields
made-13 = refl

made-14 : formulas (all_made (facts (t.negation (t.all (t.iff (t.member (t.bound 0) (t.read_set (t.free_field s) (t.free_object c))) (t.member (t.bound 0) (t.free_set set_a)))) ∷ [])) 1 1) ≡ ((t.or (t.member (t.free_object (constant 1)) (t.read_set (t.free_field s) (t.free_object c))) (t.member (t.free_object (constant 1)) (t.free_set set_a))) ∷ (t.or (t.negation (t.member (t.free_object (constant 1)) (t.read_set (t.free_field s) (t.free_object c)))) (t.negation (t.member (t.free_object (constant 1)) (t.free_set set_a)))) ∷ [])
unfolding normal is_closed_term is_closed_int is_closed_set is_closed_field is_closed_value is_closed_formula is_closed_fields mapped_term mapped_int mapped_set mapped_field mapped_value mapped_formula mapped_fields name_equal bound_with free_object_with null_with read_object_with free_field_with update_with of_object_with related_term related_int related_set related_field related_value related_formula related_fields
made-14 = refl

made-15 : formulas (all_made (facts (t.negation (t.all (t.iff (t.negation (t.negation (t.member (t.bound 0) (t.read_set (t.free_field s) (t.free_object c))))) (t.member (t.bound 0) (t.free_set set_a)))) ∷ [])) 1 1) ≡ ((t.or (t.member (t.free_object (constant 1)) (t.read_set (t.free_field s) (t.free_object c))) (t.member (t.free_object (constant 1)) (t.free_set set_a))) ∷ (t.or (t.negation (t.member (t.free_object (constant 1)) (t.read_set (t.free_field s) (t.free_object c)))) (t.negation (t.member (t.free_object (constant 1)) (t.free_set set_a)))) ∷ [])
unfolding normal is_closed_term is_closed_int is_closed_set is_closed_field is_closed_value is_closed_formula is_closed_fields mapped_term mapped_int mapped_set mapped_field mapped_value mapped_formula mapped_fields name_equal bound_with free_object_with null_with read_object_with free_field_with update_with of_object_with related_term related_int related_set related_field related_value related_formula related_fields
made-15 = refl

made-16 : formulas (all_made (facts ((t.tree (t.more (t.free_field g) t.none)) ∷ (t.all (t.reach (t.more (t.free_field g) t.none) (t.bound 0) (t.bound 0))) ∷ t.negation (t.all (t.all (t.reach (t.more (t.free_field g) (t.more (t.free_field g) t.none)) t.null t.null))) ∷ [])) 1 1) ≡ ((t.tree (t.more (t.free_field g) t.none)) ∷ (t.all (t.reach (t.more (t.free_field g) t.none) (t.bound 0) (t.bound 0))) ∷ (t.negation (t.reach (t.more (t.free_field g) (t.more (t.free_field g) t.none)) t.null t.null)) ∷ (t.reach (t.more (t.free_field g) t.none) t.null t.null) ∷ [])
unfolding normal is_closed_term is_closed_int is_closed_set is_closed_field is_closed_value is_closed_formula is_closed_fields mapped_term mapped_int mapped_set mapped_field mapped_value mapped_formula mapped_fields name_equal bound_with free_object_with null_with read_object_with free_field_with update_with of_object_with related_term related_int related_set related_field related_value related_formula related_fields
made-16 = refl

made-17 : formulas (all_made (facts ((t.free_truth q) ∷ (t.eq_object (t.free_object c) t.null) ∷ (t.all (t.reach (t.more (t.free_field g) t.none) (t.bound 0) (t.bound 0))) ∷ t.negation (t.tree (t.more (t.free_field g) t.none)) ∷ [])) 1 1) ≡ ((t.free_truth q) ∷ (t.eq_object (t.free_object c) t.null) ∷ (t.all (t.reach (t.more (t.free_field g) t.none) (t.bound 0) (t.bound 0))) ∷ (t.negation (t.tree (t.more (t.free_field g) t.none))) ∷ (t.reach (t.more (t.free_field g) t.none) t.null t.null) ∷ (t.reach (t.more (t.free_field g) t.none) (t.free_object c) (t.free_object c)) ∷ [])
unfolding normal is_closed_term is_closed_int is_closed_set is_closed_field is_closed_value is_closed_formula is_closed_fields mapped_term mapped_int mapped_set mapped_field mapped_value mapped_formula mapped_fields name_equal bound_with free_object_with null_with read_object_with free_field_with update_with of_object_with related_term related_int related_set related_field related_value related_formula related_fields
made-17 = refl

made-18 : formulas (all_made (facts ((t.read_truth (t.free_field m) (t.free_object b)) ∷ (t.free_truth p) ∷ (t.all (t.reach (t.more (t.free_field h) t.none) (t.bound 0) (t.bound 0))) ∷ t.negation (t.tree (t.more (t.free_field h) t.none)) ∷ [])) 1 1) ≡ ((t.read_truth (t.free_field m) (t.free_object b)) ∷ (t.free_truth p) ∷ (t.all (t.reach (t.more (t.free_field h) t.none) (t.bound 0) (t.bound 0))) ∷ (t.negation (t.tree (t.more (t.free_field h) t.none))) ∷ (t.reach (t.more (t.free_field h) t.none) t.null t.null) ∷ (t.reach (t.more (t.free_field h) t.none) (t.free_object b) (t.free_object b)) ∷ [])
unfolding normal is_closed_term is_closed_int is_closed_set is_closed_field is_closed_value is_closed_formula is_closed_fields mapped_term mapped_int mapped_set mapped_field mapped_value mapped_formula mapped_fields name_equal bound_with free_object_with null_with read_object_with free_field_with update_with of_object_with related_term related_int related_set related_field related_value related_formula related_fields
made-18 = refl

made-19 : formulas (all_made (facts ((t.all (t.all (t.negation (t.member (t.bound 0) (t.free_set set_a))))) ∷ t.negation (t.implies (t.all (t.member (t.bound 0) (t.free_set set_b))) (t.ex (t.member (t.bound 0) (t.read_set (t.free_field s) t.null)))) ∷ [])) 1 1) ≡ ((t.all (t.all (t.negation (t.member (t.bound 0) (t.free_set set_a))))) ∷ (t.all (t.member (t.bound 0) (t.free_set set_b))) ∷ (t.all (t.negation (t.member (t.bound 0) (t.read_set (t.free_field s) t.null)))) ∷ (t.negation (t.member t.null (t.free_set set_a))) ∷ (t.member t.null (t.free_set set_b)) ∷ (t.negation (t.member t.null (t.read_set (t.free_field s) t.null))) ∷ [])
unfolding normal is_closed_term is_closed_int is_closed_set is_closed_field is_closed_value is_closed_formula is_closed_fields mapped_term mapped_int mapped_set mapped_field mapped_value mapped_formula mapped_fields name_equal bound_with free_object_with null_with read_object_with free_field_with update_with of_object_with related_term related_int related_set related_field related_value related_formula related_fields
made-19 = refl

made-20 : formulas (all_made (facts (t.negation (t.ex (t.all (t.and (t.member (t.bound 0) (t.free_set set_b)) (t.negation (t.member (t.bound 0) (t.read_set (t.free_field s) t.null)))))) ∷ [])) 1 1) ≡ ((t.all (t.ex (t.or (t.negation (t.member (t.bound 0) (t.free_set set_b))) (t.member (t.bound 0) (t.read_set (t.free_field s) t.null))))) ∷ (t.or (t.negation (t.member (t.free_object (constant 1)) (t.free_set set_b))) (t.member (t.free_object (constant 1)) (t.read_set (t.free_field s) t.null))) ∷ (t.or (t.negation (t.member (t.free_object (constant 2)) (t.free_set set_b))) (t.member (t.free_object (constant 2)) (t.read_set (t.free_field s) t.null))) ∷ [])
unfolding normal is_closed_term is_closed_int is_closed_set is_closed_field is_closed_value is_closed_formula is_closed_fields mapped_term mapped_int mapped_set mapped_field mapped_value mapped_formula mapped_fields name_equal bound_with free_object_with null_with read_object_with free_field_with update_with of_object_with related_term related_int related_set related_field related_value related_formula related_fields
made-20 = refl

made-21 : formulas (all_made (facts ((t.all (t.reach (t.more (t.free_field g) (t.more (t.free_field h) t.none)) (t.bound 0) (t.bound 0))) ∷ t.negation (t.reach (t.more (t.free_field g) (t.more (t.free_field h) t.none)) (t.free_object c) (t.free_object c)) ∷ [])) 1 1) ≡ ((t.all (t.reach (t.more (t.free_field g) (t.more (t.free_field h) t.none)) (t.bound 0) (t.bound 0))) ∷ (t.negation (t.reach (t.more (t.free_field g) (t.more (t.free_field h) t.none)) (t.free_object c) (t.free_object c))) ∷ (t.reach (t.more (t.free_field g) (t.more (t.free_field h) t.none)) t.null t.null) ∷ (t.reach (t.more (t.free_field g) (t.more (t.free_field h) t.none)) (t.free_object c) (t.free_object c)) ∷ [])
unfolding normal is_closed_term is_closed_int is_closed_set is_closed_field is_closed_value is_closed_formula is_closed_fields mapped_term mapped_int mapped_set mapped_field mapped_value mapped_formula mapped_fields name_equal bound_with free_object_with null_with read_object_with free_field_with update_with of_object_with related_term related_int related_set related_field related_value related_formula related_fields
made-21 = refl

made-22 : formulas (all_made (facts ((t.all (t.negation (t.member (t.bound 0) (t.free_set set_b)))) ∷ (t.eq_object (t.free_object a) (t.read_object (t.free_field f) (t.free_object a))) ∷ t.negation (t.eq_object t.null (t.free_object c)) ∷ [])) 1 1) ≡ ((t.all (t.negation (t.member (t.bound 0) (t.free_set set_b)))) ∷ (t.eq_object (t.free_object a) (t.read_object (t.free_field f) (t.free_object a))) ∷ (t.negation (t.eq_object t.null (t.free_object c))) ∷ (t.negation (t.member t.null (t.free_set set_b))) ∷ (t.negation (t.member (t.free_object a) (t.free_set set_b))) ∷ (t.negation (t.member (t.read_object (t.free_field f) (t.free_object a)) (t.free_set set_b))) ∷ (t.negation (t.member (t.free_object c) (t.free_set set_b))) ∷ [])
unfolding normal is_closed_term is_closed_int is_closed_set is_closed_field is_closed_value is_closed_formula is_closed_fields mapped_term mapped_int mapped_set mapped_field mapped_value mapped_formula mapped_fields name_equal bound_with free_object_with null_with read_object_with free_field_with update_with of_object_with related_term related_int related_set related_field related_value related_formula related_fields
made-22 = refl

made-23 : formulas (all_made (facts ((t.all (t.reach (t.more (t.free_field g) (t.more (t.free_field f) t.none)) (t.bound 0) (t.bound 0))) ∷ t.negation (t.negation (t.reach (t.more (t.free_field g) (t.more (t.free_field f) t.none)) (t.free_object a) (t.free_object b))) ∷ [])) 1 1) ≡ ((t.all (t.reach (t.more (t.free_field g) (t.more (t.free_field f) t.none)) (t.bound 0) (t.bound 0))) ∷ (t.reach (t.more (t.free_field g) (t.more (t.free_field f) t.none)) (t.free_object a) (t.free_object b)) ∷ (t.reach (t.more (t.free_field g) (t.more (t.free_field f) t.none)) t.null t.null) ∷ (t.reach (t.more (t.free_field g) (t.more (t.free_field f) t.none)) (t.free_object a) (t.free_object a)) ∷ (t.reach (t.more (t.free_field g) (t.more (t.free_field f) t.none)) (t.free_object b) (t.free_object b)) ∷ [])
unfolding normal is_closed_term is_closed_int is_closed_set is_closed_field is_closed_value is_closed_formula is_closed_fields mapped_term mapped_int mapped_set mapped_field mapped_value mapped_formula mapped_fields name_equal bound_with free_object_with null_with read_object_with free_field_with update_with of_object_with related_term related_int related_set related_field related_value related_formula related_fields
made-23 = refl

made-24 : formulas (all_made (facts ((t.reach (t.more (t.free_field g) t.none) (t.free_object a) (t.free_object c)) ∷ (t.all (t.reach (t.more (t.free_field g) t.none) (t.bound 0) (t.bound 0))) ∷ t.negation (t.read_truth (t.free_field m) (t.free_object b)) ∷ [])) 1 1) ≡ ((t.reach (t.more (t.free_field g) t.none) (t.free_object a) (t.free_object c)) ∷ (t.all (t.reach (t.more (t.free_field g) t.none) (t.bound 0) (t.bound 0))) ∷ (t.negation (t.read_truth (t.free_field m) (t.free_object b))) ∷ (t.reach (t.more (t.free_field g) t.none) t.null t.null) ∷ (t.reach (t.more (t.free_field g) t.none) (t.free_object a) (t.free_object a)) ∷ (t.reach (t.more (t.free_field g) t.none) (t.free_object c) (t.free_object c)) ∷ (t.reach (t.more (t.free_field g) t.none) (t.free_object b) (t.free_object b)) ∷ [])
unfolding normal is_closed_term is_closed_int is_closed_set is_closed_field is_closed_value is_closed_formula is_closed_fields mapped_term mapped_int mapped_set mapped_field mapped_value mapped_formula mapped_fields name_equal bound_with free_object_with null_with read_object_with free_field_with update_with of_object_with related_term related_int related_set related_field related_value related_formula related_fields
made-24 = refl

made-25 : formulas (all_made (facts ((t.all (t.reach (t.more (t.free_field h) t.none) (t.bound 0) (t.bound 0))) ∷ t.negation (t.reach (t.more (t.free_field h) t.none) (t.read_object (t.free_field h) (t.free_object b)) (t.free_object a)) ∷ [])) 1 1) ≡ ((t.all (t.reach (t.more (t.free_field h) t.none) (t.bound 0) (t.bound 0))) ∷ (t.negation (t.reach (t.more (t.free_field h) t.none) (t.read_object (t.free_field h) (t.free_object b)) (t.free_object a))) ∷ (t.reach (t.more (t.free_field h) t.none) t.null t.null) ∷ (t.reach (t.more (t.free_field h) t.none) (t.read_object (t.free_field h) (t.free_object b)) (t.read_object (t.free_field h) (t.free_object b))) ∷ (t.reach (t.more (t.free_field h) t.none) (t.free_object b) (t.free_object b)) ∷ (t.reach (t.more (t.free_field h) t.none) (t.free_object a) (t.free_object a)) ∷ [])
unfolding normal is_closed_term is_closed_int is_closed_set is_closed_field is_closed_value is_closed_formula is_closed_fields mapped_term mapped_int mapped_set mapped_field mapped_value mapped_formula mapped_fields name_equal bound_with free_object_with null_with read_object_with free_field_with update_with of_object_with related_term related_int related_set related_field related_value related_formula related_fields
made-25 = refl

made-26 : formulas (all_made (facts ((t.eq_number (t.free_number i) (t.const (pos 0))) ∷ (t.implies (t.all (t.iff (t.member (t.bound 0) (t.free_set set_b)) (t.eq_object (t.bound 0) (t.read_object (t.free_field f) (t.free_object b))))) (t.eq_object (t.free_object b) t.null)) ∷ t.negation (t.all (t.negation (t.eq_object t.null (t.bound 0)))) ∷ [])) 1 1) ≡ ((t.eq_number (t.free_number i) (t.const (pos 0))) ∷ (t.or (t.and (t.or (t.member (t.free_object (constant 1)) (t.free_set set_b)) (t.eq_object (t.free_object (constant 1)) (t.read_object (t.free_field f) (t.free_object b)))) (t.or (t.negation (t.member (t.free_object (constant 1)) (t.free_set set_b))) (t.negation (t.eq_object (t.free_object (constant 1)) (t.read_object (t.free_field f) (t.free_object b)))))) (t.eq_object (t.free_object b) t.null)) ∷ (t.eq_object t.null (t.free_object (constant 2))) ∷ [])
unfolding normal is_closed_term is_closed_int is_closed_set is_closed_field is_closed_value is_closed_formula is_closed_fields mapped_term mapped_int mapped_set mapped_field mapped_value mapped_formula mapped_fields name_equal bound_with free_object_with null_with read_object_with free_field_with update_with of_object_with related_term related_int related_set related_field related_value related_formula related_fields
made-26 = refl

made-27 : formulas (all_made (facts ((t.ex (t.eq_object (t.bound 0) (t.bound 0))) ∷ (t.or (t.eq_object (t.free_object c) (t.read_object (t.free_field g) (t.free_object a))) (t.implies (t.all (t.implies (t.eq_object (t.bound 0) (t.read_object (t.free_field h) (t.free_object c))) (t.member (t.bound 0) (t.free_set set_b)))) (t.eq_object (t.free_object a) (t.free_object c)))) ∷ t.negation (t.read_truth (t.free_field m) (t.free_object b)) ∷ [])) 1 1) ≡ ((t.eq_object (t.free_object (constant 1)) (t.free_object (constant 1))) ∷ (t.or (t.eq_object (t.free_object c) (t.read_object (t.free_field g) (t.free_object a))) (t.or (t.and (t.eq_object (t.free_object (constant 2)) (t.read_object (t.free_field h) (t.free_object c))) (t.negation (t.member (t.free_object (constant 2)) (t.free_set set_b)))) (t.eq_object (t.free_object a) (t.free_object c)))) ∷ (t.negation (t.read_truth (t.free_field m) (t.free_object b))) ∷ [])
unfolding normal is_closed_term is_closed_int is_closed_set is_closed_field is_closed_value is_closed_formula is_closed_fields mapped_term mapped_int mapped_set mapped_field mapped_value mapped_formula mapped_fields name_equal bound_with free_object_with null_with read_object_with free_field_with update_with of_object_with related_term related_int related_set related_field related_value related_formula related_fields
made-27 = refl

made-28 : formulas (all_made (facts ((t.tree (t.more (t.free_field f) t.none)) ∷ (t.all (t.reach (t.more (t.free_field f) t.none) (t.bound 0) (t.bound 0))) ∷ t.negation (t.implies (t.eq_object t.null (t.read_object (t.free_field g) (t.free_object c))) (t.negation (t.eq_number (t.read_number (t.free_field k) (t.free_object c)) (t.free_number i)))) ∷ [])) 1 1) ≡ ((t.tree (t.more (t.free_field f) t.none)) ∷ (t.all (t.reach (t.more (t.free_field f) t.none) (t.bound 0) (t.bound 0))) ∷ (t.eq_object t.null (t.read_object (t.free_field g) (t.free_object c))) ∷ (t.eq_number (t.read_number (t.free_field k) (t.free_object c)) (t.free_number i)) ∷ (t.reach (t.more (t.free_field f) t.none) t.null t.null) ∷ (t.reach (t.more (t.free_field f) t.none) (t.read_object (t.free_field g) (t.free_object c)) (t.read_object (t.free_field g) (t.free_object c))) ∷ (t.reach (t.more (t.free_field f) t.none) (t.free_object c) (t.free_object c)) ∷ [])
unfolding normal is_closed_term is_closed_int is_closed_set is_closed_field is_closed_value is_closed_formula is_closed_fields mapped_term mapped_int mapped_set mapped_field mapped_value mapped_formula mapped_fields name_equal bound_with free_object_with null_with read_object_with free_field_with update_with of_object_with related_term related_int related_set related_field related_value related_formula related_fields
made-28 = refl

made-29 : formulas (all_made (facts ((t.tree (t.more (t.free_field f) t.none)) ∷ (t.all (t.reach (t.more (t.free_field f) t.none) (t.bound 0) (t.bound 0))) ∷ t.negation (t.iff (t.reach (t.more (t.free_field f) t.none) (t.free_object c) (t.free_object b)) (t.eq_object (t.free_object c) (t.free_object c))) ∷ [])) 1 1) ≡ ((t.tree (t.more (t.free_field f) t.none)) ∷ (t.all (t.reach (t.more (t.free_field f) t.none) (t.bound 0) (t.bound 0))) ∷ (t.or (t.reach (t.more (t.free_field f) t.none) (t.free_object c) (t.free_object b)) (t.eq_object (t.free_object c) (t.free_object c))) ∷ (t.or (t.negation (t.reach (t.more (t.free_field f) t.none) (t.free_object c) (t.free_object b))) (t.negation (t.eq_object (t.free_object c) (t.free_object c)))) ∷ (t.reach (t.more (t.free_field f) t.none) t.null t.null) ∷ (t.reach (t.more (t.free_field f) t.none) (t.free_object c) (t.free_object c)) ∷ (t.reach (t.more (t.free_field f) t.none) (t.free_object b) (t.free_object b)) ∷ [])
unfolding normal is_closed_term is_closed_int is_closed_set is_closed_field is_closed_value is_closed_formula is_closed_fields mapped_term mapped_int mapped_set mapped_field mapped_value mapped_formula mapped_fields name_equal bound_with free_object_with null_with read_object_with free_field_with update_with of_object_with related_term related_int related_set related_field related_value related_formula related_fields
made-29 = refl

made-30 : formulas (all_made (facts ((t.and (t.free_truth p) (t.implies (t.eq_object (t.free_object c) t.null) (t.all (t.implies (t.member (t.bound 0) (t.free_set set_a)) (t.member (t.bound 0) (t.free_set set_b)))))) ∷ t.negation (t.eq_object (t.free_object c) (t.free_object b)) ∷ [])) 1 1) ≡ ((t.free_truth p) ∷ (t.all (t.or (t.negation (t.eq_object (t.free_object c) t.null)) (t.or (t.negation (t.member (t.bound 0) (t.free_set set_a))) (t.member (t.bound 0) (t.free_set set_b))))) ∷ (t.negation (t.eq_object (t.free_object c) (t.free_object b))) ∷ (t.or (t.negation (t.eq_object (t.free_object c) t.null)) (t.or (t.negation (t.member t.null (t.free_set set_a))) (t.member t.null (t.free_set set_b)))) ∷ (t.or (t.negation (t.eq_object (t.free_object c) t.null)) (t.or (t.negation (t.member (t.free_object c) (t.free_set set_a))) (t.member (t.free_object c) (t.free_set set_b)))) ∷ (t.or (t.negation (t.eq_object (t.free_object c) t.null)) (t.or (t.negation (t.member (t.free_object b) (t.free_set set_a))) (t.member (t.free_object b) (t.free_set set_b)))) ∷ [])
unfolding normal is_closed_term is_closed_int is_closed_set is_closed_field is_closed_value is_closed_formula is_closed_fields mapped_term mapped_int mapped_set mapped_field mapped_value mapped_formula mapped_fields name_equal bound_with free_object_with null_with read_object_with free_field_with update_with of_object_with related_term related_int related_set related_field related_value related_formula related_fields
made-30 = refl
