-- Commands that add few goals, where a truth name is one goal at most.
use Rattle.std.proofs.Common.{◌≡◌, ℕ, ◌+◌, ◌*◌, ◌≤◌, Bool, true, false, cond, List, [], ◌∷◌, ◌++◌, map, filter, length, refl, arith}
use Rattle.std.proofs.lemmas.Bool.{cond_both}
use Rattle.jh_name.specs.declared.naming.Name.{Name}
use Rattle.jh_name.specs.declared.place.Sort.{Sort}
use Rattle.jh_name.specs.declared.place.Sort.TheVariants as sort
use Rattle.jh_form.specs.Tree.{TermTree, IntTree, SetTree, FieldTree, ValueTree, FormulaTree}
use Rattle.jh_form.specs.Tree as t
use Rattle.jh_form.specs.Passing.{name_equal}
use Rattle.jh_wp.specs.Command.{CommandTree, CommandTrees}
use Rattle.jh_wp.specs.Command as w
use Rattle.jh_seq.specs.counting.Goals.{Weights, goals, ones}
use Rattle.jh_seq.specs.counting.Counted.{with_value, counted, counted_all}
use Rattle.jh_obligations.specs.jh_guard.Steps.{steps, copies}
use Rattle.jh_obligations.specs.jh_guard.Items.{Sorted, free_of}
use Rattle.jh_obligations.specs.jh_arena.makers.Joined.{joined}

abbrev pub Light : Weights → Type 0
Light w = (x : Name) (b : Bool) → w x b ≤ 1

pub ones-light : Light ones
ones-light x b = omega arith

-- a value that is put for a name leaves it one goal at most
pub record IsLight (v : ValueTree) : Type 0 where
  pub keeps : (w : Weights) → Light w → (x : Name) → Light (with_value w x v)

pub light-object : (a : TermTree) → IsLight (t.of_object a)
light-object a = record { keeps = λ w l x. l }

pub light-number : (a : IntTree) → IsLight (t.of_number a)
light-number a = record { keeps = λ w l x. l }

pub light-set : (a : SetTree) → IsLight (t.of_set a)
light-set a = record { keeps = λ w l x. l }

pub light-field : (a : FieldTree) → IsLight (t.of_field a)
light-field a = record { keeps = λ w l x. l }

pub light-truth : (a : FormulaTree) → ((w : Weights) (b : Bool) → Light w → goals a w b ≤ 1) → IsLight (t.of_truth a)
light-truth a few = record { keeps = λ w l x y b. cond_both (name_equal y x) (goals a w b) (w y b) (λ n. n ≤ 1) (λ _. few w b l) (λ _. l y b) }

pub light-free : (s : Sort) (x : Name) → IsLight (free_of s x)
unfolding goals
light-free sort.Obj x = light-object (t.free_object x)
light-free sort.Int x = light-number (t.free_number x)
light-free sort.Bool x = light-truth (t.free_truth x) (λ w b l. l x b)
light-free sort.Set x = light-set (t.free_set x)
light-free sort.Field x = light-field (t.free_field x)

-- a command adds so many goals at most to what has to be true after it
pub record Cheap (c : CommandTree) (n : ℕ) : Type 0 where
  pub adds : (q r : Weights → ℕ) (v : Weights) (k : ℕ) → Light v → ((u : Weights) → Light u → q u ≤ k) → ((u : Weights) → Light u → r u ≤ k) → counted c q r v ≤ n + k

pub record AllCheap (cs : List CommandTree) (n : ℕ) : Type 0 where
  pub adds : (q r : Weights → ℕ) (v : Weights) (k : ℕ) → Light v → ((u : Weights) → Light u → q u ≤ k) → ((u : Weights) → Light u → r u ≤ k) → counted_all (steps cs) q r v ≤ n + k

pub cheap-assume : (f : FormulaTree) → Cheap (w.assume f) 0
unfolding counted
cheap-assume f = record { adds = λ q r v k l a b. omega (arith, a v l) }

pub cheap-assert : (f : FormulaTree) (n : ℕ) → ((u : Weights) → Light u → goals f u false ≤ n) → Cheap (w.assert f) n
unfolding counted
cheap-assert f n few = record { adds = λ q r v k l a b. omega (arith, few v l, a v l) }

pub cheap-assign : (x : Name) (e : ValueTree) → IsLight e → Cheap (w.assign x e) 0
unfolding counted
cheap-assign x e light = record { adds = λ q r v k l a b. omega (arith, a (with_value v x e) (light.keeps v l x)) }

pub cheap-leave : Cheap w.leave 0
unfolding counted
cheap-leave = record { adds = λ q r v k l a b. omega (arith, b v l) }

pub all-none : AllCheap [] 0
unfolding counted_all
all-none = record { adds = λ q r v k l a b. omega (arith, a v l) }

pub all-more : (c : CommandTree) (cs : List CommandTree) (n m : ℕ) → Cheap c n → AllCheap cs m → AllCheap (c ∷ cs) (n + m)
unfolding counted_all
all-more c cs n m x y = record { adds = λ q r v k l a b. omega (arith, x.adds (counted_all (steps cs) q r) r v (m + k) l (λ u h. y.adds q r u k h a b) (λ u h. omega (arith, b u h))) }

pub weaker : (cs : List CommandTree) (n m : ℕ) → AllCheap cs n → n ≤ m → AllCheap cs m
weaker cs n m x h = record { adds = λ q r v k l a b. omega (arith, x.adds q r v k l a b) }

counted-append : (xs ys : List CommandTree) (q r : Weights → ℕ) → counted_all (steps (xs ++ ys)) q r ≡ counted_all (steps xs) (counted_all (steps ys) q r) r
unfolding counted_all
counted-append [] ys q r = refl
counted-append (x ∷ xs) ys q r = λ j v. counted x (counted-append xs ys q r j) r v

pub all-append : (xs ys : List CommandTree) (n m : ℕ) → AllCheap xs n → AllCheap ys m → AllCheap (xs ++ ys) (n + m)
all-append xs ys n m x y = record {
  adds = λ q r v k l a b.
      let whole : counted_all (steps (xs ++ ys)) q r v ≡ counted_all (steps xs) (counted_all (steps ys) q r) r v = λ j. counted-append xs ys q r j v in
      omega (arith, whole, x.adds (counted_all (steps ys) q r) r v (m + k) l (λ u h. y.adds q r u k h a b) (λ u h. omega (arith, b u h)));
}

pub copies-cheap : (xs : List Sorted) (k : ℕ) → AllCheap (copies xs k) 0
copies-cheap [] k = all-none
copies-cheap (x ∷ xs) k = all-more _ (copies xs k) 0 0 (cheap-assign _ _ (light-free x.sort _)) (copies-cheap xs k)

-- ---- formulas joined by And

abbrev pub sum_goals : List FormulaTree → Weights → Bool → ℕ
sum_goals [] v b = 0
sum_goals (f ∷ fs) v b = goals f v b + sum_goals fs v b

true-few : (b : Bool) → cond b 1 0 ≤ 1
true-few true = omega arith
true-few false = omega arith

pub joined-few : (fs : List FormulaTree) (v : Weights) (b : Bool) → goals (joined fs) v b ≤ 1 + sum_goals fs v b
unfolding goals
joined-few [] v b = true-few b
joined-few (f ∷ []) v b = omega arith
joined-few (f ∷ g ∷ rest) v b = omega (arith, joined-few (g ∷ rest) v b)

pub sum-append : (fs gs : List FormulaTree) (v : Weights) (b : Bool) → sum_goals (fs ++ gs) v b ≡ sum_goals fs v b + sum_goals gs v b
sum-append [] gs v b = omega arith
sum-append (f ∷ fs) gs v b = omega (arith, sum-append fs gs v b)

pub sum-filter : {A : Type 0} (test : A → Bool) (g : A → FormulaTree) (n : ℕ) (xs : List A) (v : Weights) (b : Bool) → ((x : A) → goals (g x) v b ≤ n) → sum_goals (map g (filter test xs)) v b ≤ n * length xs
sum-filter test g n [] v b few = omega arith
sum-filter test g n (x ∷ xs) v b few =
    cond_both (test x) (x ∷ filter test xs) (filter test xs) (λ ys. sum_goals (map g ys) v b ≤ n * length (x ∷ xs))
    (λ _. omega (arith, few x, sum-filter test g n xs v b few))
    (λ _. omega (arith, sum-filter test g n xs v b few))
