-- What each definition gives, on small formulas.
use Rattle.std.proofs.Common.{◌≡◌, refl, ℕ, true, List, [], ◌∷◌, map}
use Rattle.jh_name.specs.declared.naming.Name.{Name}
use Rattle.jh_form.specs.Tree.{TermTree, SetTree, FieldTree, FormulaTree}
use Rattle.jh_form.specs.Tree as t
use Rattle.jh_form.specs.Closed.{is_closed_term, is_closed_int, is_closed_set, is_closed_field, is_closed_value, is_closed_formula, is_closed_fields}
use Rattle.jh_form.specs.Passing.{name_equal}
use Rattle.jh_boxed.specs.Mapped.{mapped_term, mapped_int, mapped_set, mapped_field, mapped_value, mapped_formula, mapped_fields}
use Rattle.jh_boxed_operations.specs.comparison.Compared.{bound_with, free_object_with, null_with, read_object_with, free_field_with, update_with, of_object_with, related_term, related_int, related_set, related_field, related_value, related_formula, related_fields}
use Rattle.jh_normal_forms.specs.negation_normal_form.Normal.{normal}
use Rattle.jh_seq.specs.splitting.Split.{constant}
use Rattle.jh_inst.specs.instances.Witnesses.{witnessed}
use Rattle.jh_inst.specs.instances.Prenex.{prenex}
use Rattle.jh_inst.specs.instances.Terms.{object_terms, closed_terms, with_terms}
use Rattle.jh_inst.specs.instances.Choices.{choices, new_choices}
use Rattle.jh_inst.specs.instances.Entries.{Entry, of_fact, of_entry}
use Rattle.jh_inst.specs.instances.Rounds.{put_at, all_made}
use Rattle.jh_inst.specs.instances.Count.{count_all}

abbrev named : ℕ → Name
named k = record { text = []; turn = k }

abbrev a : TermTree
a = t.free_object (named 1)

abbrev b : TermTree
b = t.free_object (named 2)

abbrev f : FieldTree
f = t.free_field (named 3)

abbrev f_of : TermTree → TermTree
f_of x = t.read_object f x

abbrev c : ℕ → TermTree
c k = t.free_object (constant k)

-- EX x. EX y. x = y has two constants, and so has what stands under an And; under an `all` the `ex` stays
abbrev two_there : FormulaTree
two_there = t.ex (t.ex (t.eq_object (t.bound 1) (t.bound 0)))

abbrev all_there : FormulaTree
all_there = t.all (t.ex (t.eq_object (t.bound 1) (t.bound 0)))

constants-put : witnessed (t.and two_there (t.or all_there (t.ex (t.eq_object (t.bound 0) a)))) [] 5 ≡ t.and (t.eq_object (c 5) (c 6)) (t.or all_there (t.eq_object (c 7) a))
unfolding mapped_term mapped_int mapped_set mapped_field mapped_value mapped_formula mapped_fields
constants-put = refl

-- (ALL x. x = a) | (ALL y. y = b) is ALL x y. x = a | y = b
pulled-out : prenex (t.or (t.all (t.eq_object (t.bound 0) a)) (t.all (t.eq_object (t.bound 0) b))) ≡ t.all (t.all (t.or (t.eq_object (t.bound 1) a) (t.eq_object (t.bound 0) b)))
unfolding mapped_term mapped_int mapped_set mapped_field mapped_value mapped_formula mapped_fields
pulled-out = refl

-- ALL x. x = a & (ALL y. y = x) & (ALL z. z = x) is ALL x y z. x = a & y = x & z = x
pulled-within :
    prenex (t.all (t.and (t.eq_object (t.bound 0) a) (t.and (t.all (t.eq_object (t.bound 0) (t.bound 1))) (t.all (t.eq_object (t.bound 0) (t.bound 1))))))
    ≡ t.all (t.all (t.all (t.and (t.eq_object (t.bound 2) a) (t.and (t.eq_object (t.bound 1) (t.bound 2)) (t.eq_object (t.bound 0) (t.bound 2))))))
unfolding mapped_term mapped_int mapped_set mapped_field mapped_value mapped_formula mapped_fields
pulled-within = refl

-- an outer term before those inside it; the closed ones
all-terms : object_terms (t.eq_object (f_of (f_of a)) (f_of (t.bound 0))) ≡ (f_of (f_of a) ∷ f_of a ∷ a ∷ f_of (t.bound 0) ∷ t.bound 0 ∷ [])
all-terms = refl

only-closed : closed_terms (t.eq_object (f_of (f_of a)) (f_of (t.bound 0))) ≡ (f_of (f_of a) ∷ f_of a ∷ a ∷ [])
unfolding is_closed_term is_closed_int is_closed_set is_closed_field is_closed_value is_closed_formula is_closed_fields
only-closed = refl

each-once : with_terms (t.null ∷ []) (a ∷ t.null ∷ b ∷ a ∷ []) ≡ (t.null ∷ a ∷ b ∷ [])
unfolding name_equal bound_with free_object_with null_with read_object_with free_field_with update_with of_object_with related_term related_int related_set related_field related_value related_formula related_fields
each-once = refl

-- the last term changes fastest; those of old terms alone are left out
in-order : choices 2 (a ∷ b ∷ []) ≡ ((a ∷ a ∷ []) ∷ (a ∷ b ∷ []) ∷ (b ∷ a ∷ []) ∷ (b ∷ b ∷ []) ∷ [])
in-order = refl

not-old : new_choices 2 (a ∷ b ∷ []) (a ∷ []) ≡ ((a ∷ b ∷ []) ∷ (b ∷ a ∷ []) ∷ (b ∷ b ∷ []) ∷ [])
unfolding name_equal bound_with free_object_with null_with read_object_with free_field_with update_with of_object_with related_term related_int related_set related_field related_value related_formula related_fields
not-old = refl

-- ALL x y. f x = y, at a and b
put-there : put_at (t.all (t.all (t.eq_object (f_of (t.bound 1)) (t.bound 0)))) (a ∷ b ∷ []) ≡ t.eq_object (f_of a) b
unfolding mapped_term mapped_int mapped_set mapped_field mapped_value mapped_formula mapped_fields
put-there = refl

-- The fact ALL x. f x = x, and the fact (EX x. x = a) & b = a: the first is put at null, a, b and the constant, and then at what
-- that gave.
abbrev fixed : FormulaTree
fixed = t.all (t.eq_object (f_of (t.bound 0)) (t.bound 0))

abbrev at_one : TermTree → Entry
at_one x = record { formula = t.eq_object (f_of x) x; source = of_entry 0; terms = x ∷ []; fresh = [] }

whole-list :
    all_made (fixed ∷ t.and (t.ex (t.eq_object (t.bound 0) a)) (t.eq_object b a) ∷ []) 4 1
    ≡ (record { formula = fixed; source = of_fact 0; terms = []; fresh = [] }
    ∷ record { formula = t.eq_object (c 4) a; source = of_fact 1; terms = []; fresh = constant 4 ∷ [] }
    ∷ record { formula = t.eq_object b a; source = of_fact 1; terms = []; fresh = constant 4 ∷ [] }
    ∷ at_one t.null ∷ at_one (c 4) ∷ at_one a ∷ at_one b
    ∷ at_one (f_of t.null) ∷ at_one (f_of (c 4)) ∷ at_one (f_of a) ∷ at_one (f_of b) ∷ [])
unfolding is_closed_term is_closed_int is_closed_set is_closed_field is_closed_value is_closed_formula is_closed_fields mapped_term mapped_int mapped_set mapped_field mapped_value mapped_formula mapped_fields name_equal bound_with free_object_with null_with read_object_with free_field_with update_with of_object_with related_term related_int related_set related_field related_value related_formula related_fields
whole-list = refl

-- Four terms: four puts. The universal has three terms that aren't closed, f x, x and x, so there are at most 4 + 3 * 4 terms, at
-- which it is counted again.
counted-so : count_all (fixed ∷ t.and (t.ex (t.eq_object (t.bound 0) a)) (t.eq_object b a) ∷ []) 4 1 ≡ 20
unfolding is_closed_term is_closed_int is_closed_set is_closed_field is_closed_value is_closed_formula is_closed_fields mapped_term mapped_int mapped_set mapped_field mapped_value mapped_formula mapped_fields name_equal bound_with free_object_with null_with read_object_with free_field_with update_with of_object_with related_term related_int related_set related_field related_value related_formula related_fields
counted-so = refl

-- The facts of a method with two universals that leave universals when they are put, over two rounds. A separate implementation
-- counts the same.
abbrev set_a : SetTree
set_a = t.free_set (named 10)

abbrev set_b : SetTree
set_b = t.free_set (named 11)

abbrev all_objects : SetTree
all_objects = t.free_set (named 12)

abbrev g : FieldTree
g = t.free_field (named 4)

abbrev g_of : TermTree → TermTree
g_of x = t.read_object g x

abbrev x : ℕ → TermTree
x k = t.bound k

abbrev typed : FieldTree → FormulaTree
typed h = t.all (t.implies (t.member (x 0) set_a) (t.or (t.eq_object (t.read_object h (x 0)) t.null) (t.member (t.read_object h (x 0)) set_a)))

abbrev null_elsewhere : FieldTree → FormulaTree
null_elsewhere h = t.all (t.implies (t.negation (t.member (x 0) set_a)) (t.eq_object (t.read_object h (x 0)) t.null))

abbrev many_facts : List FormulaTree
many_facts =
    t.all (t.iff (t.member (x 0) all_objects) (t.or (t.member (x 0) set_a) (t.member (x 0) set_b)))
    ∷ t.all (t.negation (t.and (t.member (x 0) set_a) (t.member (x 0) set_b)))
    ∷ t.negation (t.member t.null all_objects)
    ∷ t.or (t.eq_object a t.null) (t.member a set_a)
    ∷ t.or (t.eq_object b t.null) (t.member b set_a)
    ∷ typed f
    ∷ typed g
    ∷ null_elsewhere f
    ∷ null_elsewhere g
    ∷ t.all (t.all (t.or (t.eq_object (f_of (x 1)) (x 0)) (t.ex (t.and (t.eq_object (g_of (x 0)) (x 2)) (t.all (t.or (t.eq_object (f_of (x 0)) (g_of (x 1))) (t.eq_object (x 0) (x 2))))))))
    ∷ t.all (t.or (t.eq_object (f_of (x 0)) (x 0)) (t.all (t.ex (t.eq_object (g_of (x 0)) (x 1)))))
    ∷ t.negation (t.eq_object (f_of b) b)
    ∷ []

counted-twice : count_all (map (λ p. normal p true) many_facts) 20 2 ≡ 22510427944
unfolding normal is_closed_term is_closed_int is_closed_set is_closed_field is_closed_value is_closed_formula is_closed_fields mapped_term mapped_int mapped_set mapped_field mapped_value mapped_formula mapped_fields name_equal bound_with free_object_with null_with read_object_with free_field_with update_with of_object_with related_term related_int related_set related_field related_value related_formula related_fields
counted-twice = refl
