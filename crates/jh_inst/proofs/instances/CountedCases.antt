-- Sequents that were made up at random, and how many instances a separate implementation counts: one round and the last pass.
use Rattle.std.proofs.Common.{◌≡◌, refl, List, [], ◌∷◌, codes, map, true, pos}
use Rattle.jh_name.specs.declared.naming.Name.{Name}
use Rattle.jh_form.specs.Tree.{FormulaTree}
use Rattle.jh_form.specs.Tree as t
use Rattle.jh_form.specs.Closed.{is_closed_term, is_closed_int, is_closed_set, is_closed_field, is_closed_value, is_closed_formula, is_closed_fields}
use Rattle.jh_form.specs.Passing.{name_equal}
use Rattle.jh_boxed.specs.Mapped.{mapped_term, mapped_int, mapped_set, mapped_field, mapped_value, mapped_formula, mapped_fields}
use Rattle.jh_boxed_operations.specs.comparison.Compared.{bound_with, free_object_with, null_with, read_object_with, free_field_with, update_with, of_object_with, related_term, related_int, related_set, related_field, related_value, related_formula, related_fields}
use Rattle.jh_normal_forms.specs.negation_normal_form.Normal.{normal}
use Rattle.jh_inst.specs.instances.Count.{count_all}

abbrev a : Name
a = record { text = codes "a"; turn = 0 }

abbrev b : Name
b = record { text = codes "b"; turn = 0 }

abbrev c : Name
c = record { text = codes "c"; turn = 0 }

abbrev f : Name
f = record { text = codes "f"; turn = 0 }

abbrev f1 : Name
f1 = record { text = codes "f"; turn = 1 }

abbrev f2 : Name
f2 = record { text = codes "f"; turn = 2 }

abbrev g : Name
g = record { text = codes "g"; turn = 0 }

abbrev g1 : Name
g1 = record { text = codes "g"; turn = 1 }

abbrev h : Name
h = record { text = codes "h"; turn = 0 }

abbrev h1 : Name
h1 = record { text = codes "h"; turn = 1 }

abbrev i : Name
i = record { text = codes "i"; turn = 0 }

abbrev k : Name
k = record { text = codes "k"; turn = 0 }

abbrev k1 : Name
k1 = record { text = codes "k"; turn = 1 }

abbrev m : Name
m = record { text = codes "m"; turn = 0 }

abbrev m1 : Name
m1 = record { text = codes "m"; turn = 1 }

abbrev m2 : Name
m2 = record { text = codes "m"; turn = 2 }

abbrev p : Name
p = record { text = codes "p"; turn = 0 }

abbrev q : Name
q = record { text = codes "q"; turn = 0 }

abbrev s : Name
s = record { text = codes "s"; turn = 0 }

abbrev set_a : Name
set_a = record { text = codes "A"; turn = 0 }

abbrev set_b : Name
set_b = record { text = codes "B"; turn = 0 }

abbrev facts : List FormulaTree → List FormulaTree
facts fs = map (λ a. normal a true) fs

count-1 : count_all (facts (t.negation (t.all (t.eq_object (t.bound 0) (t.free_object c))) ∷ [])) 1 1 ≡ 0
unfolding normal is_closed_term is_closed_int is_closed_set is_closed_field is_closed_value is_closed_formula is_closed_fields mapped_term mapped_int mapped_set mapped_field mapped_value mapped_formula mapped_fields name_equal bound_with free_object_with null_with read_object_with free_field_with update_with of_object_with related_term related_int related_set related_field related_value related_formula related_fields
count-1 = refl

count-2 : count_all (facts (t.negation (t.all (t.negation (t.eq_number (t.const (pos 0)) (t.free_number i)))) ∷ [])) 1 1 ≡ 0
unfolding normal is_closed_term is_closed_int is_closed_set is_closed_field is_closed_value is_closed_formula is_closed_fields mapped_term mapped_int mapped_set mapped_field mapped_value mapped_formula mapped_fields name_equal bound_with free_object_with null_with read_object_with free_field_with update_with of_object_with related_term related_int related_set related_field related_value related_formula related_fields
count-2 = refl

count-3 : count_all (facts ((t.all (t.reach (t.more (t.free_field g) t.none) (t.bound 0) (t.bound 0))) ∷ t.negation (t.tree (t.more (t.free_field g) t.none)) ∷ [])) 1 1 ≡ 4
unfolding normal is_closed_term is_closed_int is_closed_set is_closed_field is_closed_value is_closed_formula is_closed_fields mapped_term mapped_int mapped_set mapped_field mapped_value mapped_formula mapped_fields name_equal bound_with free_object_with null_with read_object_with free_field_with update_with of_object_with related_term related_int related_set related_field related_value related_formula related_fields
count-3 = refl

count-4 : count_all (facts (t.negation (t.all (t.and (t.eq_object (t.read_object (t.free_field g) t.null) (t.bound 0)) (t.eq_object (t.free_object b) t.null))) ∷ [])) 1 1 ≡ 0
unfolding normal is_closed_term is_closed_int is_closed_set is_closed_field is_closed_value is_closed_formula is_closed_fields mapped_term mapped_int mapped_set mapped_field mapped_value mapped_formula mapped_fields name_equal bound_with free_object_with null_with read_object_with free_field_with update_with of_object_with related_term related_int related_set related_field related_value related_formula related_fields
count-4 = refl

count-5 : count_all (facts ((t.and (t.read_truth (t.free_field m) (t.free_object b)) (t.free_truth q)) ∷ t.negation (t.all (t.member (t.bound 0) (t.free_set set_b))) ∷ [])) 1 1 ≡ 0
unfolding normal is_closed_term is_closed_int is_closed_set is_closed_field is_closed_value is_closed_formula is_closed_fields mapped_term mapped_int mapped_set mapped_field mapped_value mapped_formula mapped_fields name_equal bound_with free_object_with null_with read_object_with free_field_with update_with of_object_with related_term related_int related_set related_field related_value related_formula related_fields
count-5 = refl

count-6 : count_all (facts (t.negation (t.ex (t.all (t.and (t.member (t.bound 0) (t.free_set set_b)) (t.negation (t.member (t.bound 0) (t.read_set (t.free_field s) t.null)))))) ∷ [])) 1 1 ≡ 4
unfolding normal is_closed_term is_closed_int is_closed_set is_closed_field is_closed_value is_closed_formula is_closed_fields mapped_term mapped_int mapped_set mapped_field mapped_value mapped_formula mapped_fields name_equal bound_with free_object_with null_with read_object_with free_field_with update_with of_object_with related_term related_int related_set related_field related_value related_formula related_fields
count-6 = refl

count-7 : count_all (facts (t.negation (t.all (t.iff (t.negation (t.negation (t.member (t.bound 0) (t.read_set (t.free_field s) (t.free_object c))))) (t.member (t.bound 0) (t.free_set set_a)))) ∷ [])) 1 1 ≡ 0
unfolding normal is_closed_term is_closed_int is_closed_set is_closed_field is_closed_value is_closed_formula is_closed_fields mapped_term mapped_int mapped_set mapped_field mapped_value mapped_formula mapped_fields name_equal bound_with free_object_with null_with read_object_with free_field_with update_with of_object_with related_term related_int related_set related_field related_value related_formula related_fields
count-7 = refl

count-8 : count_all (facts ((t.all (t.and (t.all (t.iff (t.member (t.bound 0) (t.free_set set_a)) (t.eq_object (t.bound 0) t.null))) (t.free_truth p))) ∷ t.negation (t.eq_object (t.free_object b) (t.free_object b)) ∷ [])) 1 1 ≡ 4
unfolding normal is_closed_term is_closed_int is_closed_set is_closed_field is_closed_value is_closed_formula is_closed_fields mapped_term mapped_int mapped_set mapped_field mapped_value mapped_formula mapped_fields name_equal bound_with free_object_with null_with read_object_with free_field_with update_with of_object_with related_term related_int related_set related_field related_value related_formula related_fields
count-8 = refl

count-9 : count_all (facts ((t.all (t.negation (t.member (t.bound 0) (t.free_set set_b)))) ∷ (t.eq_object (t.free_object a) (t.read_object (t.free_field f) (t.free_object a))) ∷ t.negation (t.eq_object t.null (t.free_object c)) ∷ [])) 1 1 ≡ 12
unfolding normal is_closed_term is_closed_int is_closed_set is_closed_field is_closed_value is_closed_formula is_closed_fields mapped_term mapped_int mapped_set mapped_field mapped_value mapped_formula mapped_fields name_equal bound_with free_object_with null_with read_object_with free_field_with update_with of_object_with related_term related_int related_set related_field related_value related_formula related_fields
count-9 = refl

count-10 : count_all (facts ((t.all (t.reach (t.more (t.free_field h) t.none) (t.bound 0) (t.bound 0))) ∷ t.negation (t.reach (t.more (t.free_field h) t.none) (t.read_object (t.free_field h) (t.free_object b)) (t.free_object a)) ∷ [])) 1 1 ≡ 16
unfolding normal is_closed_term is_closed_int is_closed_set is_closed_field is_closed_value is_closed_formula is_closed_fields mapped_term mapped_int mapped_set mapped_field mapped_value mapped_formula mapped_fields name_equal bound_with free_object_with null_with read_object_with free_field_with update_with of_object_with related_term related_int related_set related_field related_value related_formula related_fields
count-10 = refl

count-11 : count_all (facts ((t.all (t.all (t.negation (t.member (t.bound 0) (t.free_set set_a))))) ∷ t.negation (t.implies (t.all (t.member (t.bound 0) (t.free_set set_b))) (t.ex (t.member (t.bound 0) (t.read_set (t.free_field s) t.null)))) ∷ [])) 1 1 ≡ 11
unfolding normal is_closed_term is_closed_int is_closed_set is_closed_field is_closed_value is_closed_formula is_closed_fields mapped_term mapped_int mapped_set mapped_field mapped_value mapped_formula mapped_fields name_equal bound_with free_object_with null_with read_object_with free_field_with update_with of_object_with related_term related_int related_set related_field related_value related_formula related_fields
count-11 = refl

count-12 : count_all (facts ((t.all (t.reach (t.more (t.free_field g) (t.more (t.free_field h) t.none)) (t.bound 0) (t.bound 0))) ∷ t.negation (t.reach (t.more (t.free_field g) (t.more (t.free_field h) t.none)) (t.free_object c) (t.free_object c)) ∷ [])) 1 1 ≡ 8
unfolding normal is_closed_term is_closed_int is_closed_set is_closed_field is_closed_value is_closed_formula is_closed_fields mapped_term mapped_int mapped_set mapped_field mapped_value mapped_formula mapped_fields name_equal bound_with free_object_with null_with read_object_with free_field_with update_with of_object_with related_term related_int related_set related_field related_value related_formula related_fields
count-12 = refl

count-13 : count_all (facts ((t.tree (t.more (t.free_field g) t.none)) ∷ (t.all (t.reach (t.more (t.free_field g) t.none) (t.bound 0) (t.bound 0))) ∷ t.negation (t.all (t.all (t.reach (t.more (t.free_field g) (t.more (t.free_field g) t.none)) t.null t.null))) ∷ [])) 1 1 ≡ 4
unfolding normal is_closed_term is_closed_int is_closed_set is_closed_field is_closed_value is_closed_formula is_closed_fields mapped_term mapped_int mapped_set mapped_field mapped_value mapped_formula mapped_fields name_equal bound_with free_object_with null_with read_object_with free_field_with update_with of_object_with related_term related_int related_set related_field related_value related_formula related_fields
count-13 = refl

count-14 : count_all (facts ((t.free_truth q) ∷ (t.all (t.all (t.iff (t.and (t.eq_object (t.bound 0) (t.bound 1)) (t.member (t.bound 0) (t.free_set set_b))) (t.member (t.read_object (t.free_field g) (t.free_object c)) (t.free_set set_b))))) ∷ t.negation (t.free_truth p) ∷ [])) 1 1 ≡ 9
unfolding normal is_closed_term is_closed_int is_closed_set is_closed_field is_closed_value is_closed_formula is_closed_fields mapped_term mapped_int mapped_set mapped_field mapped_value mapped_formula mapped_fields name_equal bound_with free_object_with null_with read_object_with free_field_with update_with of_object_with related_term related_int related_set related_field related_value related_formula related_fields
count-14 = refl

count-15 : count_all (facts (t.negation (t.iff (t.all (t.implies (t.member (t.bound 0) (t.free_set set_b)) (t.member (t.bound 0) (t.read_set (t.free_field s) (t.free_object c))))) (t.reach (t.more (t.free_field f) (t.more (t.free_field f) t.none)) (t.free_object c) (t.free_object c))) ∷ [])) 1 1 ≡ 12
unfolding normal is_closed_term is_closed_int is_closed_set is_closed_field is_closed_value is_closed_formula is_closed_fields mapped_term mapped_int mapped_set mapped_field mapped_value mapped_formula mapped_fields name_equal bound_with free_object_with null_with read_object_with free_field_with update_with of_object_with related_term related_int related_set related_field related_value related_formula related_fields
count-15 = refl

count-16 : count_all (facts ((t.tree (t.more (t.free_field f) t.none)) ∷ (t.all (t.reach (t.more (t.free_field f) t.none) (t.bound 0) (t.bound 0))) ∷ t.negation (t.iff (t.reach (t.more (t.free_field f) t.none) (t.free_object c) (t.free_object b)) (t.eq_object (t.free_object c) (t.free_object c))) ∷ [])) 1 1 ≡ 12
unfolding normal is_closed_term is_closed_int is_closed_set is_closed_field is_closed_value is_closed_formula is_closed_fields mapped_term mapped_int mapped_set mapped_field mapped_value mapped_formula mapped_fields name_equal bound_with free_object_with null_with read_object_with free_field_with update_with of_object_with related_term related_int related_set related_field related_value related_formula related_fields
count-16 = refl

count-17 : count_all (facts ((t.iff (t.all (t.iff (t.negation (t.member (t.bound 0) (t.free_set set_a))) (t.member (t.bound 0) (t.free_set set_a)))) (t.member (t.read_object (t.free_field f) (t.free_object b)) (t.read_set (t.free_field s) (t.free_object b)))) ∷ t.negation (t.eq_number (t.free_number i) (t.free_number i)) ∷ [])) 1 1 ≡ 24
unfolding normal is_closed_term is_closed_int is_closed_set is_closed_field is_closed_value is_closed_formula is_closed_fields mapped_term mapped_int mapped_set mapped_field mapped_value mapped_formula mapped_fields name_equal bound_with free_object_with null_with read_object_with free_field_with update_with of_object_with related_term related_int related_set related_field related_value related_formula related_fields
count-17 = refl

count-18 : count_all (facts (t.negation (t.iff (t.eq_object (t.free_object c) (t.read_object (t.free_field h) (t.read_object (t.free_field h) (t.read_object (t.free_field f) t.null)))) (t.negation (t.all (t.iff (t.member (t.bound 0) (t.free_set set_a)) (t.member (t.bound 0) (t.read_set (t.free_field s) (t.free_object a))))))) ∷ [])) 1 1 ≡ 42
unfolding normal is_closed_term is_closed_int is_closed_set is_closed_field is_closed_value is_closed_formula is_closed_fields mapped_term mapped_int mapped_set mapped_field mapped_value mapped_formula mapped_fields name_equal bound_with free_object_with null_with read_object_with free_field_with update_with of_object_with related_term related_int related_set related_field related_value related_formula related_fields
count-18 = refl

count-19 : count_all (facts ((t.eq_number (t.free_number i) (t.const (pos 0))) ∷ (t.implies (t.all (t.iff (t.member (t.bound 0) (t.free_set set_b)) (t.eq_object (t.bound 0) (t.read_object (t.free_field f) (t.free_object b))))) (t.eq_object (t.free_object b) t.null)) ∷ t.negation (t.all (t.negation (t.eq_object t.null (t.bound 0)))) ∷ [])) 1 1 ≡ 0
unfolding normal is_closed_term is_closed_int is_closed_set is_closed_field is_closed_value is_closed_formula is_closed_fields mapped_term mapped_int mapped_set mapped_field mapped_value mapped_formula mapped_fields name_equal bound_with free_object_with null_with read_object_with free_field_with update_with of_object_with related_term related_int related_set related_field related_value related_formula related_fields
count-19 = refl

count-20 : count_all (facts ((t.implies (t.implies (t.eq_object (t.free_object c) (t.free_object b)) (t.eq_object (t.free_object c) t.null)) (t.or (t.member t.null (t.free_set set_a)) (t.member t.null (t.free_set set_b)))) ∷ t.negation (t.ex (t.negation (t.all (t.implies (t.member (t.bound 0) (t.free_set set_b)) (t.member (t.bound 0) (t.free_set set_a)))))) ∷ [])) 1 1 ≡ 9
unfolding normal is_closed_term is_closed_int is_closed_set is_closed_field is_closed_value is_closed_formula is_closed_fields mapped_term mapped_int mapped_set mapped_field mapped_value mapped_formula mapped_fields name_equal bound_with free_object_with null_with read_object_with free_field_with update_with of_object_with related_term related_int related_set related_field related_value related_formula related_fields
count-20 = refl

count-21 : count_all (facts ((t.tree (t.more (t.free_field g) t.none)) ∷ (t.and (t.eq_object (t.free_object a) (t.read_object (t.free_field h) (t.free_object c))) (t.all (t.eq_object (t.bound 0) t.null))) ∷ (t.all (t.reach (t.more (t.free_field g) t.none) (t.bound 0) (t.bound 0))) ∷ t.negation (t.eq_object (t.read_object (t.free_field f) (t.free_object a)) t.null) ∷ [])) 1 1 ≡ 50
unfolding normal is_closed_term is_closed_int is_closed_set is_closed_field is_closed_value is_closed_formula is_closed_fields mapped_term mapped_int mapped_set mapped_field mapped_value mapped_formula mapped_fields name_equal bound_with free_object_with null_with read_object_with free_field_with update_with of_object_with related_term related_int related_set related_field related_value related_formula related_fields
count-21 = refl

count-22 : count_all (facts ((t.all (t.negation (t.negation (t.member (t.bound 0) (t.free_set set_a))))) ∷ (t.ex (t.tree (t.more (t.free_field g) t.none))) ∷ (t.all (t.reach (t.more (t.free_field g) t.none) (t.bound 0) (t.bound 0))) ∷ t.negation (t.negation (t.all (t.eq_number (t.read_number (t.free_field k) (t.free_object b)) (t.read_number (t.free_field k) (t.free_object c))))) ∷ [])) 1 1 ≡ 45
unfolding normal is_closed_term is_closed_int is_closed_set is_closed_field is_closed_value is_closed_formula is_closed_fields mapped_term mapped_int mapped_set mapped_field mapped_value mapped_formula mapped_fields name_equal bound_with free_object_with null_with read_object_with free_field_with update_with of_object_with related_term related_int related_set related_field related_value related_formula related_fields
count-22 = refl

count-23 : count_all (facts ((t.reach (t.more (t.free_field f) t.none) (t.free_object a) (t.read_object (t.free_field h) (t.free_object c))) ∷ (t.eq_object (t.free_object b) (t.free_object c)) ∷ (t.all (t.reach (t.more (t.free_field f) t.none) (t.bound 0) (t.bound 0))) ∷ t.negation (t.ex (t.ex (t.all (t.eq_object (t.bound 0) (t.read_object (t.free_field g) (t.free_object c)))))) ∷ [])) 1 1 ≡ 96
unfolding normal is_closed_term is_closed_int is_closed_set is_closed_field is_closed_value is_closed_formula is_closed_fields mapped_term mapped_int mapped_set mapped_field mapped_value mapped_formula mapped_fields name_equal bound_with free_object_with null_with read_object_with free_field_with update_with of_object_with related_term related_int related_set related_field related_value related_formula related_fields
count-23 = refl

count-24 : count_all (facts ((t.all (t.implies (t.or (t.eq_object (t.bound 0) (t.free_object c)) (t.member (t.bound 0) (t.free_set set_b))) (t.and (t.member (t.bound 0) (t.free_set set_a)) (t.and (t.member (t.bound 0) (t.read_set (t.free_field s) t.null)) (t.negation (t.member (t.bound 0) (t.read_set (t.free_field s) (t.free_object c)))))))) ∷ t.negation (t.negation (t.eq_object (t.free_object b) t.null)) ∷ [])) 1 1 ≡ 21
unfolding normal is_closed_term is_closed_int is_closed_set is_closed_field is_closed_value is_closed_formula is_closed_fields mapped_term mapped_int mapped_set mapped_field mapped_value mapped_formula mapped_fields name_equal bound_with free_object_with null_with read_object_with free_field_with update_with of_object_with related_term related_int related_set related_field related_value related_formula related_fields
count-24 = refl

count-25 : count_all (facts ((t.all (t.implies (t.member (t.bound 0) (t.free_set set_b)) (t.and (t.member (t.bound 0) (t.read_set (t.free_field s) (t.free_object b))) (t.and (t.member (t.bound 0) (t.free_set set_a)) (t.eq_object (t.bound 0) (t.free_object c)))))) ∷ t.negation (t.all (t.iff (t.member (t.bound 0) (t.free_set set_b)) (t.negation (t.member (t.bound 0) (t.read_set (t.free_field s) (t.free_object c)))))) ∷ [])) 1 1 ≡ 24
unfolding normal is_closed_term is_closed_int is_closed_set is_closed_field is_closed_value is_closed_formula is_closed_fields mapped_term mapped_int mapped_set mapped_field mapped_value mapped_formula mapped_fields name_equal bound_with free_object_with null_with read_object_with free_field_with update_with of_object_with related_term related_int related_set related_field related_value related_formula related_fields
count-25 = refl

count-26 : count_all (facts ((t.and (t.eq_object t.null (t.read_object (t.free_field f) (t.free_object c))) (t.negation (t.eq_object (t.read_object (t.free_field f) (t.free_object b)) (t.free_object b)))) ∷ (t.tree (t.more (t.free_field f) t.none)) ∷ (t.all (t.reach (t.more (t.free_field f) t.none) (t.bound 0) (t.bound 0))) ∷ t.negation (t.iff (t.free_truth p) (t.eq_object (t.free_object c) (t.free_object a))) ∷ [])) 1 1 ≡ 24
unfolding normal is_closed_term is_closed_int is_closed_set is_closed_field is_closed_value is_closed_formula is_closed_fields mapped_term mapped_int mapped_set mapped_field mapped_value mapped_formula mapped_fields name_equal bound_with free_object_with null_with read_object_with free_field_with update_with of_object_with related_term related_int related_set related_field related_value related_formula related_fields
count-26 = refl

count-27 : count_all (facts ((t.ex (t.reach (t.more (t.free_field f) t.none) (t.free_object a) t.null)) ∷ (t.negation (t.negation (t.free_truth p))) ∷ (t.all (t.reach (t.more (t.free_field f) t.none) (t.bound 0) (t.bound 0))) ∷ t.negation (t.iff (t.eq_object (t.read_object (t.free_field f) (t.free_object b)) (t.free_object a)) (t.and (t.free_truth q) (t.reach (t.more (t.free_field f) t.none) (t.free_object c) (t.free_object a)))) ∷ [])) 1 1 ≡ 20
unfolding normal is_closed_term is_closed_int is_closed_set is_closed_field is_closed_value is_closed_formula is_closed_fields mapped_term mapped_int mapped_set mapped_field mapped_value mapped_formula mapped_fields name_equal bound_with free_object_with null_with read_object_with free_field_with update_with of_object_with related_term related_int related_set related_field related_value related_formula related_fields
count-27 = refl

count-28 : count_all (facts ((t.and (t.all (t.all (t.implies (t.member (t.bound 0) (t.read_set (t.free_field s) (t.free_object b))) (t.member (t.bound 0) (t.free_set set_b))))) (t.all (t.member (t.bound 0) (t.free_set set_a)))) ∷ (t.all (t.reach (t.more (t.free_field h) (t.more (t.free_field f) t.none)) (t.bound 0) (t.bound 0))) ∷ t.negation (t.negation (t.reach (t.more (t.free_field h) (t.more (t.free_field f) t.none)) (t.free_object b) (t.free_object c))) ∷ [])) 1 1 ≡ 51
unfolding normal is_closed_term is_closed_int is_closed_set is_closed_field is_closed_value is_closed_formula is_closed_fields mapped_term mapped_int mapped_set mapped_field mapped_value mapped_formula mapped_fields name_equal bound_with free_object_with null_with read_object_with free_field_with update_with of_object_with related_term related_int related_set related_field related_value related_formula related_fields
count-28 = refl

count-29 : count_all (facts ((t.all (t.iff (t.member (t.bound 0) (t.free_set set_a)) (t.or (t.member (t.bound 0) (t.free_set set_a)) (t.member (t.bound 0) (t.free_set set_b))))) ∷ (t.and (t.eq_object (t.read_object (t.free_field f) t.null) t.null) (t.all (t.member (t.bound 0) (t.read_set (t.free_field s) (t.free_object b))))) ∷ t.negation (t.or (t.all (t.eq_number (t.free_number i) (t.read_number (t.free_field k) (t.bound 0)))) (t.negation (t.read_truth (t.free_field m) (t.free_object a)))) ∷ [])) 1 1 ≡ 90
unfolding normal is_closed_term is_closed_int is_closed_set is_closed_field is_closed_value is_closed_formula is_closed_fields mapped_term mapped_int mapped_set mapped_field mapped_value mapped_formula mapped_fields name_equal bound_with free_object_with null_with read_object_with free_field_with update_with of_object_with related_term related_int related_set related_field related_value related_formula related_fields
count-29 = refl

count-30 : count_all (facts ((t.all (t.reach (t.more (t.free_field f) t.none) (t.bound 0) (t.bound 0))) ∷ t.negation (t.and (t.reach (t.more (t.free_field f) t.none) (t.read_object (t.free_field f) (t.read_object (t.free_field g) t.null)) t.null) (t.all (t.and (t.and (t.eq_object (t.bound 0) (t.free_object c)) (t.negation (t.eq_object (t.bound 0) (t.free_object c)))) (t.negation (t.and (t.eq_object (t.bound 0) (t.free_object c)) (t.negation (t.eq_object (t.bound 0) (t.free_object c)))))))) ∷ [])) 1 1 ≡ 20
unfolding normal is_closed_term is_closed_int is_closed_set is_closed_field is_closed_value is_closed_formula is_closed_fields mapped_term mapped_int mapped_set mapped_field mapped_value mapped_formula mapped_fields name_equal bound_with free_object_with null_with read_object_with free_field_with update_with of_object_with related_term related_int related_set related_field related_value related_formula related_fields
count-30 = refl

count-31 : count_all (facts ((t.ex (t.ex (t.free_truth p))) ∷ (t.all (t.and (t.implies (t.eq_object (t.bound 0) (t.free_object a)) (t.iff (t.read_truth (t.free_field m1) (t.bound 0)) (t.read_truth (t.free_field m) (t.free_object b)))) (t.implies (t.negation (t.eq_object (t.bound 0) (t.free_object a))) (t.iff (t.read_truth (t.free_field m1) (t.bound 0)) (t.read_truth (t.free_field m) (t.bound 0)))))) ∷ t.negation (t.read_truth (t.free_field m1) (t.free_object a)) ∷ [])) 2 1 ≡ 30
unfolding normal is_closed_term is_closed_int is_closed_set is_closed_field is_closed_value is_closed_formula is_closed_fields mapped_term mapped_int mapped_set mapped_field mapped_value mapped_formula mapped_fields name_equal bound_with free_object_with null_with read_object_with free_field_with update_with of_object_with related_term related_int related_set related_field related_value related_formula related_fields
count-31 = refl

count-32 : count_all (facts ((t.all (t.and (t.implies (t.eq_object (t.bound 0) (t.free_object c)) (t.eq_object (t.read_object (t.free_field h1) (t.bound 0)) (t.free_object b))) (t.implies (t.negation (t.eq_object (t.bound 0) (t.free_object c))) (t.eq_object (t.read_object (t.free_field h1) (t.bound 0)) (t.read_object (t.free_field h) (t.bound 0)))))) ∷ t.negation (t.or (t.ex (t.reach (t.more (t.free_field h1) t.none) (t.bound 0) (t.free_object a))) (t.read_truth (t.free_field m) t.null)) ∷ [])) 2 1 ≡ 88
unfolding normal is_closed_term is_closed_int is_closed_set is_closed_field is_closed_value is_closed_formula is_closed_fields mapped_term mapped_int mapped_set mapped_field mapped_value mapped_formula mapped_fields name_equal bound_with free_object_with null_with read_object_with free_field_with update_with of_object_with related_term related_int related_set related_field related_value related_formula related_fields
count-32 = refl

count-33 : count_all (facts ((t.all (t.and (t.implies (t.eq_object (t.bound 0) (t.read_object (t.free_field h) (t.free_object c))) (t.eq_object (t.read_object (t.free_field g1) (t.bound 0)) t.null)) (t.implies (t.negation (t.eq_object (t.bound 0) (t.read_object (t.free_field h) (t.free_object c)))) (t.eq_object (t.read_object (t.free_field g1) (t.bound 0)) (t.read_object (t.free_field g) (t.bound 0)))))) ∷ t.negation (t.eq_object (t.free_object b) (t.read_object (t.free_field g1) (t.free_object b))) ∷ [])) 2 1 ≡ 50
unfolding normal is_closed_term is_closed_int is_closed_set is_closed_field is_closed_value is_closed_formula is_closed_fields mapped_term mapped_int mapped_set mapped_field mapped_value mapped_formula mapped_fields name_equal bound_with free_object_with null_with read_object_with free_field_with update_with of_object_with related_term related_int related_set related_field related_value related_formula related_fields
count-33 = refl

count-34 : count_all (facts ((t.ex (t.eq_object (t.read_object (t.free_field g) (t.read_object (t.free_field h1) (t.bound 0))) (t.bound 0))) ∷ (t.all (t.and (t.implies (t.eq_object (t.bound 0) (t.free_object c)) (t.eq_object (t.read_object (t.free_field h1) (t.bound 0)) (t.free_object a))) (t.implies (t.negation (t.eq_object (t.bound 0) (t.free_object c))) (t.eq_object (t.read_object (t.free_field h1) (t.bound 0)) (t.read_object (t.free_field h) (t.bound 0)))))) ∷ t.negation (t.eq_object (t.free_object a) t.null) ∷ [])) 2 1 ≡ 60
unfolding normal is_closed_term is_closed_int is_closed_set is_closed_field is_closed_value is_closed_formula is_closed_fields mapped_term mapped_int mapped_set mapped_field mapped_value mapped_formula mapped_fields name_equal bound_with free_object_with null_with read_object_with free_field_with update_with of_object_with related_term related_int related_set related_field related_value related_formula related_fields
count-34 = refl

count-35 : count_all (facts ((t.and (t.and (t.free_truth q) (t.all (t.iff (t.member (t.bound 0) (t.free_set set_b)) (t.member (t.bound 0) (t.free_set set_a))))) (t.negation (t.all (t.implies (t.member (t.bound 0) (t.read_set (t.free_field s) (t.free_object b))) (t.member (t.bound 0) (t.read_set (t.free_field s) (t.free_object a))))))) ∷ (t.all (t.implies (t.and (t.member (t.bound 0) (t.free_set set_b)) (t.member (t.bound 0) (t.free_set set_b))) (t.and (t.member (t.bound 0) (t.free_set set_b)) (t.eq_object (t.bound 0) (t.read_object (t.free_field h) (t.bound 0)))))) ∷ t.negation (t.free_truth p) ∷ [])) 1 1 ≡ 96
unfolding normal is_closed_term is_closed_int is_closed_set is_closed_field is_closed_value is_closed_formula is_closed_fields mapped_term mapped_int mapped_set mapped_field mapped_value mapped_formula mapped_fields name_equal bound_with free_object_with null_with read_object_with free_field_with update_with of_object_with related_term related_int related_set related_field related_value related_formula related_fields
count-35 = refl

count-36 : count_all (facts ((t.reach (t.more (t.free_field g) (t.more (t.free_field f) t.none)) t.null (t.free_object b)) ∷ (t.reach (t.more (t.free_field f) (t.more (t.free_field h) t.none)) (t.free_object c) t.null) ∷ (t.all (t.reach (t.more (t.free_field g) (t.more (t.free_field f) t.none)) (t.bound 0) (t.bound 0))) ∷ t.negation (t.all (t.iff (t.or (t.member (t.bound 0) (t.read_set (t.free_field s) (t.free_object b))) (t.or (t.eq_object (t.bound 0) t.null) (t.member (t.bound 0) (t.free_set set_b)))) (t.negation (t.member (t.bound 0) (t.read_set (t.free_field s) (t.free_object b)))))) ∷ [])) 1 1 ≡ 16
unfolding normal is_closed_term is_closed_int is_closed_set is_closed_field is_closed_value is_closed_formula is_closed_fields mapped_term mapped_int mapped_set mapped_field mapped_value mapped_formula mapped_fields name_equal bound_with free_object_with null_with read_object_with free_field_with update_with of_object_with related_term related_int related_set related_field related_value related_formula related_fields
count-36 = refl

count-37 : count_all (facts ((t.all (t.and (t.implies (t.eq_object (t.bound 0) (t.free_object c)) (t.iff (t.read_truth (t.free_field m1) (t.bound 0)) (t.reach (t.more (t.free_field h) t.none) (t.free_object b) (t.free_object b)))) (t.implies (t.negation (t.eq_object (t.bound 0) (t.free_object c))) (t.iff (t.read_truth (t.free_field m1) (t.bound 0)) (t.read_truth (t.free_field m) (t.bound 0)))))) ∷ t.negation (t.and (t.negation (t.read_truth (t.free_field m1) (t.free_object c))) (t.read_truth (t.free_field m1) (t.free_object c))) ∷ [])) 2 1 ≡ 30
unfolding normal is_closed_term is_closed_int is_closed_set is_closed_field is_closed_value is_closed_formula is_closed_fields mapped_term mapped_int mapped_set mapped_field mapped_value mapped_formula mapped_fields name_equal bound_with free_object_with null_with read_object_with free_field_with update_with of_object_with related_term related_int related_set related_field related_value related_formula related_fields
count-37 = refl

count-38 : count_all (facts ((t.reach (t.more (t.free_field g1) t.none) (t.free_object c) (t.free_object b)) ∷ (t.all (t.and (t.implies (t.eq_object (t.bound 0) t.null) (t.eq_object (t.read_object (t.free_field g1) (t.bound 0)) t.null)) (t.implies (t.negation (t.eq_object (t.bound 0) t.null)) (t.eq_object (t.read_object (t.free_field g1) (t.bound 0)) (t.read_object (t.free_field g) (t.bound 0)))))) ∷ t.negation (t.negation (t.and (t.all (t.implies (t.eq_object (t.bound 0) (t.free_object b)) (t.member (t.bound 0) (t.free_set set_a)))) (t.free_truth p))) ∷ [])) 2 1 ≡ 72
unfolding normal is_closed_term is_closed_int is_closed_set is_closed_field is_closed_value is_closed_formula is_closed_fields mapped_term mapped_int mapped_set mapped_field mapped_value mapped_formula mapped_fields name_equal bound_with free_object_with null_with read_object_with free_field_with update_with of_object_with related_term related_int related_set related_field related_value related_formula related_fields
count-38 = refl

count-39 : count_all (facts ((t.iff (t.iff (t.eq_object (t.free_object b) (t.free_object b)) (t.eq_object (t.free_object a) (t.free_object b))) (t.implies (t.eq_number (t.const (pos 0)) (t.read_number (t.free_field k) t.null)) (t.free_truth q))) ∷ (t.all (t.reach (t.more (t.free_field h) (t.more (t.free_field g) t.none)) (t.bound 0) (t.bound 0))) ∷ t.negation (t.and (t.negation (t.reach (t.more (t.free_field h) (t.more (t.free_field g) t.none)) (t.free_object b) (t.free_object b))) (t.implies (t.all (t.iff (t.member (t.bound 0) (t.free_set set_a)) (t.member (t.bound 0) (t.free_set set_a)))) (t.member (t.free_object b) (t.free_set set_a)))) ∷ [])) 1 1 ≡ 48
unfolding normal is_closed_term is_closed_int is_closed_set is_closed_field is_closed_value is_closed_formula is_closed_fields mapped_term mapped_int mapped_set mapped_field mapped_value mapped_formula mapped_fields name_equal bound_with free_object_with null_with read_object_with free_field_with update_with of_object_with related_term related_int related_set related_field related_value related_formula related_fields
count-39 = refl

count-40 : count_all (facts ((t.all (t.negation (t.member (t.bound 0) (t.free_set set_a)))) ∷ (t.all (t.and (t.implies (t.eq_object (t.bound 0) t.null) (t.eq_object (t.read_object (t.free_field f1) (t.bound 0)) (t.free_object b))) (t.implies (t.negation (t.eq_object (t.bound 0) t.null)) (t.eq_object (t.read_object (t.free_field f1) (t.bound 0)) (t.read_object (t.free_field f) (t.bound 0)))))) ∷ t.negation (t.and (t.reach (t.more (t.free_field g) t.none) (t.free_object c) (t.read_object (t.free_field f1) (t.free_object a))) (t.tree (t.more (t.free_field f2) t.none))) ∷ [])) 3 1 ≡ 110
unfolding normal is_closed_term is_closed_int is_closed_set is_closed_field is_closed_value is_closed_formula is_closed_fields mapped_term mapped_int mapped_set mapped_field mapped_value mapped_formula mapped_fields name_equal bound_with free_object_with null_with read_object_with free_field_with update_with of_object_with related_term related_int related_set related_field related_value related_formula related_fields
count-40 = refl

count-41 : count_all (facts ((t.all (t.implies (t.and (t.member (t.bound 0) (t.read_set (t.free_field s) t.null)) (t.negation (t.member (t.bound 0) (t.free_set set_a)))) (t.eq_object (t.bound 0) (t.free_object b)))) ∷ (t.all (t.and (t.implies (t.eq_object (t.bound 0) (t.free_object b)) (t.eq_object (t.read_object (t.free_field f1) (t.bound 0)) t.null)) (t.implies (t.negation (t.eq_object (t.bound 0) (t.free_object b))) (t.eq_object (t.read_object (t.free_field f1) (t.bound 0)) (t.read_object (t.free_field f) (t.bound 0)))))) ∷ t.negation (t.negation (t.tree (t.more (t.free_field f1) t.none))) ∷ [])) 2 1 ≡ 52
unfolding normal is_closed_term is_closed_int is_closed_set is_closed_field is_closed_value is_closed_formula is_closed_fields mapped_term mapped_int mapped_set mapped_field mapped_value mapped_formula mapped_fields name_equal bound_with free_object_with null_with read_object_with free_field_with update_with of_object_with related_term related_int related_set related_field related_value related_formula related_fields
count-41 = refl

count-42 : count_all (facts ((t.read_truth (t.free_field m) (t.free_object b)) ∷ (t.all (t.and (t.implies (t.eq_object (t.bound 0) (t.free_object a)) (t.eq_number (t.read_number (t.free_field k1) (t.bound 0)) (t.const (pos 0)))) (t.implies (t.negation (t.eq_object (t.bound 0) (t.free_object a))) (t.eq_number (t.read_number (t.free_field k1) (t.bound 0)) (t.read_number (t.free_field k) (t.bound 0)))))) ∷ t.negation (t.and (t.negation (t.all (t.iff (t.eq_object (t.bound 0) (t.free_object c)) (t.member (t.bound 0) (t.free_set set_b))))) (t.all (t.iff (t.eq_object (t.bound 0) (t.free_object c)) (t.member (t.bound 0) (t.free_set set_b))))) ∷ [])) 2 1 ≡ 110
unfolding normal is_closed_term is_closed_int is_closed_set is_closed_field is_closed_value is_closed_formula is_closed_fields mapped_term mapped_int mapped_set mapped_field mapped_value mapped_formula mapped_fields name_equal bound_with free_object_with null_with read_object_with free_field_with update_with of_object_with related_term related_int related_set related_field related_value related_formula related_fields
count-42 = refl

count-43 : count_all (facts ((t.all (t.and (t.implies (t.eq_object (t.bound 0) (t.free_object a)) (t.eq_object (t.read_object (t.free_field h1) (t.bound 0)) (t.read_object (t.free_field f) (t.free_object b)))) (t.implies (t.negation (t.eq_object (t.bound 0) (t.free_object a))) (t.eq_object (t.read_object (t.free_field h1) (t.bound 0)) (t.read_object (t.free_field h) (t.bound 0)))))) ∷ t.negation (t.implies (t.and (t.eq_object (t.read_object (t.free_field h1) (t.free_object a)) (t.free_object c)) (t.free_truth q)) (t.all (t.all (t.iff (t.eq_object (t.bound 0) (t.free_object a)) (t.eq_object (t.bound 0) (t.bound 1)))))) ∷ [])) 2 1 ≡ 80
unfolding normal is_closed_term is_closed_int is_closed_set is_closed_field is_closed_value is_closed_formula is_closed_fields mapped_term mapped_int mapped_set mapped_field mapped_value mapped_formula mapped_fields name_equal bound_with free_object_with null_with read_object_with free_field_with update_with of_object_with related_term related_int related_set related_field related_value related_formula related_fields
count-43 = refl

count-44 : count_all (facts ((t.negation (t.all (t.and (t.and (t.member (t.bound 0) (t.free_set set_a)) (t.negation (t.eq_object (t.bound 0) (t.read_object (t.free_field h) (t.read_object (t.free_field g) (t.free_object a)))))) (t.negation (t.and (t.member (t.bound 0) (t.free_set set_a)) (t.negation (t.eq_object (t.bound 0) (t.read_object (t.free_field h) (t.read_object (t.free_field g) (t.free_object a)))))))))) ∷ (t.free_truth p) ∷ t.negation (t.all (t.iff (t.eq_object (t.bound 0) (t.free_object c)) (t.and (t.member (t.bound 0) (t.read_set (t.free_field s) (t.free_object a))) (t.negation (t.member (t.bound 0) (t.read_set (t.free_field s) (t.read_object (t.free_field g) t.null))))))) ∷ [])) 1 1 ≡ 0
unfolding normal is_closed_term is_closed_int is_closed_set is_closed_field is_closed_value is_closed_formula is_closed_fields mapped_term mapped_int mapped_set mapped_field mapped_value mapped_formula mapped_fields name_equal bound_with free_object_with null_with read_object_with free_field_with update_with of_object_with related_term related_int related_set related_field related_value related_formula related_fields
count-44 = refl

count-45 : count_all (facts ((t.negation (t.tree (t.more (t.free_field h1) t.none))) ∷ (t.all (t.and (t.implies (t.eq_object (t.bound 0) (t.free_object a)) (t.eq_object (t.read_object (t.free_field h1) (t.bound 0)) (t.free_object b))) (t.implies (t.negation (t.eq_object (t.bound 0) (t.free_object a))) (t.eq_object (t.read_object (t.free_field h1) (t.bound 0)) (t.read_object (t.free_field h) (t.bound 0)))))) ∷ t.negation (t.and (t.reach (t.more (t.free_field g) t.none) (t.free_object b) (t.free_object c)) (t.all (t.negation (t.and (t.member (t.bound 0) (t.free_set set_b)) (t.negation (t.member (t.bound 0) (t.read_set (t.free_field s) (t.free_object c)))))))) ∷ [])) 2 1 ≡ 50
unfolding normal is_closed_term is_closed_int is_closed_set is_closed_field is_closed_value is_closed_formula is_closed_fields mapped_term mapped_int mapped_set mapped_field mapped_value mapped_formula mapped_fields name_equal bound_with free_object_with null_with read_object_with free_field_with update_with of_object_with related_term related_int related_set related_field related_value related_formula related_fields
count-45 = refl

count-46 : count_all (facts ((t.tree (t.more (t.free_field f1) t.none)) ∷ (t.eq_object (t.free_object c) (t.read_object (t.free_field f2) (t.free_object c))) ∷ (t.all (t.and (t.implies (t.eq_object (t.bound 0) (t.free_object c)) (t.eq_object (t.read_object (t.free_field f1) (t.bound 0)) (t.free_object c))) (t.implies (t.negation (t.eq_object (t.bound 0) (t.free_object c))) (t.eq_object (t.read_object (t.free_field f1) (t.bound 0)) (t.read_object (t.free_field f) (t.bound 0)))))) ∷ t.negation (t.iff (t.read_truth (t.free_field m) (t.free_object a)) (t.reach (t.more (t.free_field h) t.none) (t.read_object (t.free_field g) (t.free_object a)) t.null)) ∷ [])) 3 1 ≡ 50
unfolding normal is_closed_term is_closed_int is_closed_set is_closed_field is_closed_value is_closed_formula is_closed_fields mapped_term mapped_int mapped_set mapped_field mapped_value mapped_formula mapped_fields name_equal bound_with free_object_with null_with read_object_with free_field_with update_with of_object_with related_term related_int related_set related_field related_value related_formula related_fields
count-46 = refl

count-47 : count_all (facts ((t.negation (t.ex (t.member t.null (t.free_set set_a)))) ∷ (t.tree (t.more (t.free_field h1) t.none)) ∷ (t.all (t.and (t.implies (t.eq_object (t.bound 0) (t.free_object b)) (t.eq_object (t.read_object (t.free_field h1) (t.bound 0)) (t.free_object b))) (t.implies (t.negation (t.eq_object (t.bound 0) (t.free_object b))) (t.eq_object (t.read_object (t.free_field h1) (t.bound 0)) (t.read_object (t.free_field h) (t.bound 0)))))) ∷ t.negation (t.implies (t.implies (t.eq_object (t.free_object a) (t.read_object (t.free_field h) t.null)) (t.member (t.free_object a) (t.read_set (t.free_field s) t.null))) (t.or (t.eq_object t.null (t.free_object b)) (t.member t.null (t.free_set set_a)))) ∷ [])) 2 1 ≡ 80
unfolding normal is_closed_term is_closed_int is_closed_set is_closed_field is_closed_value is_closed_formula is_closed_fields mapped_term mapped_int mapped_set mapped_field mapped_value mapped_formula mapped_fields name_equal bound_with free_object_with null_with read_object_with free_field_with update_with of_object_with related_term related_int related_set related_field related_value related_formula related_fields
count-47 = refl

count-48 : count_all (facts ((t.eq_number (t.read_number (t.free_field k1) (t.free_object c)) (t.read_number (t.free_field k) (t.free_object a))) ∷ (t.and (t.negation (t.eq_object t.null (t.free_object a))) (t.free_truth p)) ∷ (t.all (t.and (t.implies (t.eq_object (t.bound 0) (t.free_object c)) (t.eq_number (t.read_number (t.free_field k1) (t.bound 0)) (t.const (pos 1)))) (t.implies (t.negation (t.eq_object (t.bound 0) (t.free_object c))) (t.eq_number (t.read_number (t.free_field k1) (t.bound 0)) (t.read_number (t.free_field k) (t.bound 0)))))) ∷ t.negation (t.iff (t.read_truth (t.free_field m) (t.read_object (t.free_field h) (t.read_object (t.free_field g) (t.free_object c)))) (t.all (t.implies (t.member (t.bound 0) (t.free_set set_a)) (t.member (t.bound 0) (t.free_set set_b))))) ∷ [])) 2 1 ≡ 108
unfolding normal is_closed_term is_closed_int is_closed_set is_closed_field is_closed_value is_closed_formula is_closed_fields mapped_term mapped_int mapped_set mapped_field mapped_value mapped_formula mapped_fields name_equal bound_with free_object_with null_with read_object_with free_field_with update_with of_object_with related_term related_int related_set related_field related_value related_formula related_fields
count-48 = refl

count-49 : count_all (facts ((t.all (t.iff (t.eq_object (t.bound 0) (t.free_object c)) (t.member (t.bound 0) (t.free_set set_b)))) ∷ (t.all (t.iff (t.and (t.and (t.member (t.bound 0) (t.free_set set_b)) (t.member (t.bound 0) (t.free_set set_b))) (t.negation (t.reach (t.more (t.free_field g) t.none) t.null (t.bound 0)))) (t.and (t.member (t.bound 0) (t.free_set set_b)) (t.negation (t.member (t.bound 0) (t.read_set (t.free_field s) (t.free_object b))))))) ∷ (t.all (t.and (t.implies (t.eq_object (t.bound 0) t.null) (t.eq_object (t.read_object (t.free_field f1) (t.bound 0)) (t.free_object c))) (t.implies (t.negation (t.eq_object (t.bound 0) t.null)) (t.eq_object (t.read_object (t.free_field f1) (t.bound 0)) (t.read_object (t.free_field f) (t.bound 0)))))) ∷ t.negation (t.tree (t.more (t.free_field f1) t.none)) ∷ [])) 2 1 ≡ 216
unfolding normal is_closed_term is_closed_int is_closed_set is_closed_field is_closed_value is_closed_formula is_closed_fields mapped_term mapped_int mapped_set mapped_field mapped_value mapped_formula mapped_fields name_equal bound_with free_object_with null_with read_object_with free_field_with update_with of_object_with related_term related_int related_set related_field related_value related_formula related_fields
count-49 = refl

count-50 : count_all (facts ((t.negation (t.iff (t.eq_object (t.read_object (t.free_field h1) (t.free_object c)) (t.free_object a)) (t.all (t.implies (t.member (t.bound 0) (t.free_set set_b)) (t.member (t.bound 0) (t.read_set (t.free_field s) (t.free_object c))))))) ∷ (t.free_truth q) ∷ (t.all (t.and (t.implies (t.eq_object (t.bound 0) (t.read_object (t.free_field g) (t.free_object a))) (t.eq_object (t.read_object (t.free_field h1) (t.bound 0)) t.null)) (t.implies (t.negation (t.eq_object (t.bound 0) (t.read_object (t.free_field g) (t.free_object a)))) (t.eq_object (t.read_object (t.free_field h1) (t.bound 0)) (t.read_object (t.free_field h) (t.bound 0)))))) ∷ t.negation (t.negation (t.or (t.member (t.free_object c) (t.read_set (t.free_field s) (t.free_object c))) (t.eq_object (t.free_object a) t.null))) ∷ [])) 2 1 ≡ 144
unfolding normal is_closed_term is_closed_int is_closed_set is_closed_field is_closed_value is_closed_formula is_closed_fields mapped_term mapped_int mapped_set mapped_field mapped_value mapped_formula mapped_fields name_equal bound_with free_object_with null_with read_object_with free_field_with update_with of_object_with related_term related_int related_set related_field related_value related_formula related_fields
count-50 = refl

count-51 : count_all (facts ((t.member (t.free_object c) (t.free_set set_b)) ∷ (t.all (t.implies (t.and (t.eq_object (t.bound 0) (t.free_object a)) (t.member (t.bound 0) (t.read_set (t.free_field s) (t.free_object a)))) (t.member (t.bound 0) (t.free_set set_b)))) ∷ (t.all (t.and (t.implies (t.eq_object (t.bound 0) (t.free_object a)) (t.eq_object (t.read_object (t.free_field g1) (t.bound 0)) (t.free_object a))) (t.implies (t.negation (t.eq_object (t.bound 0) (t.free_object a))) (t.eq_object (t.read_object (t.free_field g1) (t.bound 0)) (t.read_object (t.free_field g) (t.bound 0)))))) ∷ t.negation (t.or (t.all (t.iff (t.negation (t.member (t.bound 0) (t.free_set set_b))) (t.negation (t.member (t.bound 0) (t.read_set (t.free_field s) (t.free_object a)))))) (t.negation (t.reach (t.more (t.free_field f2) t.none) (t.free_object b) t.null))) ∷ [])) 3 1 ≡ 130
unfolding normal is_closed_term is_closed_int is_closed_set is_closed_field is_closed_value is_closed_formula is_closed_fields mapped_term mapped_int mapped_set mapped_field mapped_value mapped_formula mapped_fields name_equal bound_with free_object_with null_with read_object_with free_field_with update_with of_object_with related_term related_int related_set related_field related_value related_formula related_fields
count-51 = refl

count-52 : count_all (facts ((t.and (t.member (t.free_object c) (t.free_set set_b)) (t.negation (t.member (t.free_object c) (t.free_set set_b)))) ∷ (t.iff (t.all (t.implies (t.and (t.eq_object (t.bound 0) t.null) (t.negation (t.eq_object (t.bound 0) (t.read_object (t.free_field f1) (t.free_object a))))) (t.read_truth (t.free_field m) (t.free_object c)))) (t.read_truth (t.free_field m2) (t.free_object b))) ∷ (t.all (t.and (t.implies (t.eq_object (t.bound 0) (t.read_object (t.free_field g) (t.free_object a))) (t.eq_object (t.read_object (t.free_field f1) (t.bound 0)) (t.read_object (t.free_field g) t.null))) (t.implies (t.negation (t.eq_object (t.bound 0) (t.read_object (t.free_field g) (t.free_object a)))) (t.eq_object (t.read_object (t.free_field f1) (t.bound 0)) (t.read_object (t.free_field f) (t.bound 0)))))) ∷ t.negation (t.free_truth q) ∷ [])) 3 1 ≡ 192
unfolding normal is_closed_term is_closed_int is_closed_set is_closed_field is_closed_value is_closed_formula is_closed_fields mapped_term mapped_int mapped_set mapped_field mapped_value mapped_formula mapped_fields name_equal bound_with free_object_with null_with read_object_with free_field_with update_with of_object_with related_term related_int related_set related_field related_value related_formula related_fields
count-52 = refl
