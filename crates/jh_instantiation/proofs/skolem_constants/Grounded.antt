-- A formula without quantifiers and loose bound variables stays as it is where constants are put and quantifiers pulled.
use Rattle.std.proofs.Common.{◌≡◌, refl, sym, ap, ◌∙◌, ℕ, ◌+◌, nat_lt, Bool, true, false, if◌then◌else◌, ◌&&◌, [], Option, Some, arith}
use Rattle.std.proofs.lemmas.Bool.{true≢false, lt-ltb}
use Rattle.jh_form.specs.Tree.{FormulaTree, ValueTree, of_truth}
use Rattle.jh_form.specs.Tree as t
use Rattle.jh_form.specs.Closed.{is_closed_value, is_closed_formula}
use Rattle.jh_form.proofs.ClosedLemmas.{both-left, both-right}
use Rattle.jh_arena.specs.table.Entries.{the_value}
use Rattle.jh_substitution.specs.rewriting.Fixing.{FixesBound}
use Rattle.jh_substitution.proofs.rewriting.Fixed.{formula-shut}
use Rattle.jh_substitution.specs.simultaneous.Lifted.{lifting}
use Rattle.jh_seq.specs.splitting.Split.{closing}
use Rattle.jh_inst.specs.instances.Instances.{is_ground}
use Rattle.jh_inst.specs.instances.Prenex.{Matrix, joined, prenex, pulled, behind, under_more}
use Rattle.jh_inst.specs.instances.Witnesses.{witnesses, witnessed}
use Rattle.jh_instantiation.proofs.skolem_constants.Closings.{closed-inside, closing-fixes}

chosen : {X : Type 0} (a c : X) (b : Bool) → b ≡ true → (if b then a else c) ≡ a
chosen a c true h = refl
chosen a c false h = absurd (true≢false (sym h))

lifting-fixes : (by : ℕ) → FixesBound (lifting by)
lifting-fixes by = record { object = λ y d. refl; number = λ y d. refl; truth = λ y d. refl; set = λ y d. refl; field = λ y d. refl; bound = λ k d h. chosen (t.bound k) (t.bound (k + by)) (nat_lt k d) (lt-ltb k d h) }

shut-under : (a : FormulaTree) → is_closed_formula a 0 ≡ true → under_more a 0 0 ≡ a
shut-under a c = formula-shut (lifting 0) (lifting-fixes 0) a 0 c

left-ground : (a b : FormulaTree) → (is_ground a && is_ground b) ≡ true → is_ground a ≡ true
left-ground a b h = both-left (is_ground a) (is_ground b) h

right-ground : (a b : FormulaTree) → (is_ground a && is_ground b) ≡ true → is_ground b ≡ true
right-ground a b h = both-right (is_ground a) (is_ground b) h

left-shut : (a b : FormulaTree) → (is_closed_formula a 0 && is_closed_formula b 0) ≡ true → is_closed_formula a 0 ≡ true
left-shut a b h = both-left (is_closed_formula a 0) (is_closed_formula b 0) h

right-shut : (a b : FormulaTree) → (is_closed_formula a 0 && is_closed_formula b 0) ≡ true → is_closed_formula b 0 ≡ true
right-shut a b h = both-right (is_closed_formula a 0) (is_closed_formula b 0) h

-- no constant is wanted
pub ground-none : (a : FormulaTree) → is_ground a ≡ true → witnesses a ≡ 0
ground-none (t.and a b) g = let first = ground-none a (left-ground a b g) in let second = ground-none b (right-ground a b g) in omega (arith, first, second)
ground-none (t.or a b) g = let first = ground-none a (left-ground a b g) in let second = ground-none b (right-ground a b g) in omega (arith, first, second)
ground-none (t.ex a) g = absurd (true≢false (sym g))
ground-none _ g = refl

ground-witnessed : (a : FormulaTree) (k : ℕ) → is_ground a ≡ true → is_closed_formula a 0 ≡ true → witnessed a [] k ≡ a
unfolding is_closed_formula
ground-witnessed (t.and a b) k g c = λ i. t.and (ground-witnessed a k (left-ground a b g) (left-shut a b c) i) (ground-witnessed b (k + witnesses a) (right-ground a b g) (right-shut a b c) i)
ground-witnessed (t.or a b) k g c = λ i. t.or (ground-witnessed a k (left-ground a b g) (left-shut a b c) i) (ground-witnessed b (k + witnesses a) (right-ground a b g) (right-shut a b c) i)
ground-witnessed (t.ex a) k g c = absurd (true≢false (sym g))
ground-witnessed a k g c = formula-shut (closing []) (closing-fixes []) a 0 c

-- a body behind no quantifier
abbrev bare : FormulaTree → Matrix
bare a = record { variables = 0; body = a }

two-bare : (with : FormulaTree → FormulaTree → FormulaTree) (a b : FormulaTree) (p q : Matrix) → p ≡ bare a → q ≡ bare b → is_closed_formula a 0 ≡ true → is_closed_formula b 0 ≡ true → joined with p q ≡ bare (with a b)
two-bare with a b p q e f c d = (λ i. joined with (e i) (f i)) ∙ (λ i. bare (with (shut-under a c i) (shut-under b d i)))

ground-pulled : (a : FormulaTree) → is_ground a ≡ true → is_closed_formula a 0 ≡ true → pulled a ≡ bare a
unfolding is_closed_formula
ground-pulled (t.and a b) g c = two-bare (λ x y. t.and x y) a b (pulled a) (pulled b) (ground-pulled a (left-ground a b g) (left-shut a b c)) (ground-pulled b (right-ground a b g) (right-shut a b c)) (left-shut a b c) (right-shut a b c)
ground-pulled (t.or a b) g c = two-bare (λ x y. t.or x y) a b (pulled a) (pulled b) (ground-pulled a (left-ground a b g) (left-shut a b c)) (ground-pulled b (right-ground a b g) (right-shut a b c)) (left-shut a b c) (right-shut a b c)
ground-pulled (t.all a) g c = absurd (true≢false (sym g))
ground-pulled a g c = refl

-- there is nothing to pull
pub ground-prenex : (o : Option ValueTree) (a : FormulaTree) → o ≡ Some (of_truth a) → is_closed_value (the_value o) 0 ≡ true → is_ground a ≡ true → prenex a ≡ a
ground-prenex o a e c g = ap (λ (m : Matrix). behind m.variables m.body) (ground-pulled a g (closed-inside a o e c))

-- the formula is what is made of it
pub ground-settled : (o : Option ValueTree) (a : FormulaTree) (k : ℕ) → o ≡ Some (of_truth a) → is_closed_value (the_value o) 0 ≡ true → is_ground a ≡ true → prenex (witnessed a [] k) ≡ a
ground-settled o a k e c g =
    ap prenex (ground-witnessed a k g (closed-inside a o e c)) ∙ ground-prenex o a e c g
