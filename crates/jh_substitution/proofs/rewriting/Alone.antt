-- A part in which nothing can change is left alone.
use Rattle.std.proofs.Common.{◌≡◌, refl, sym, ap, ◌∙◌, ℕ, ◌-◌, ◌≤◌, ◌==◌, nat_lt, Bool, true, false, not, if◌then◌else◌, List, slice_get, Option, Some, None, is_some}
use Rattle.std.proofs.lemmas.Bool.{true≢false, lt-ltb}
use Rattle.jh_name.specs.declared.naming.Name.{Name}
use Rattle.jh_form.specs.Tree.{TermTree, ValueTree, of_object, of_number, of_truth, of_set, of_field}
use Rattle.jh_form.specs.Tree as t
use Rattle.jh_form.specs.Closed.{is_closed_value}
use Rattle.jh_form.specs.Passing.{value_passes, name_equal}
use Rattle.jh_boxed_operations.specs.substitution.Opened.{opening}
use Rattle.jh_boxed_operations.specs.substitution.Substituted.{substituting, substituted}
use Rattle.jh_boxed.specs.Mapped.{LeafMap, mapped_value}
use Rattle.jh_arena.specs.table.Entries.{the_value, the_name, the_truth, is_truth}
use Rattle.jh_arena.specs.table.Facing.{IsLeast}
use Rattle.jh_substitution.specs.rewriting.Rewritten.{leaves_alone}
use Rattle.jh_substitution.specs.rewriting.Walks.{IsRewritten}
use Rattle.jh_substitution.specs.rewriting.Fixing.{FixesNames, FixesBound}
use Rattle.jh_substitution.proofs.rewriting.Fixed.{value-kept, value-shut}
use Rattle.jh_substitution.proofs.rewriting.Wholes.{value-alone}
use Rattle.jh_substitution.proofs.rewriting.Sorted.{stays-rewritten, listed-value}

skipped : {X : Type 0} (a c : X) (b : Bool) → not b ≡ true → (if b then a else c) ≡ c
skipped a c true h = absurd (true≢false (sym h))
skipped a c false h = refl

pub substituting-fixes : (x : Name) (v : ValueTree) → FixesNames (substituting x v) (λ y s. not (name_equal y x))
substituting-fixes x (of_object a) = record { object = λ y d h. skipped a (t.free_object y) (name_equal y x) h; number = λ y d h. refl; truth = λ y d h. refl; set = λ y d h. refl; field = λ y d h. refl; bound = λ k d. refl }
substituting-fixes x (of_number a) = record { object = λ y d h. refl; number = λ y d h. skipped a (t.free_number y) (name_equal y x) h; truth = λ y d h. refl; set = λ y d h. refl; field = λ y d h. refl; bound = λ k d. refl }
substituting-fixes x (of_truth a) = record { object = λ y d h. refl; number = λ y d h. refl; truth = λ y d h. skipped a (t.free_truth y) (name_equal y x) h; set = λ y d h. refl; field = λ y d h. refl; bound = λ k d. refl }
substituting-fixes x (of_set a) = record { object = λ y d h. refl; number = λ y d h. refl; truth = λ y d h. refl; set = λ y d h. skipped a (t.free_set y) (name_equal y x) h; field = λ y d h. refl; bound = λ k d. refl }
substituting-fixes x (of_field a) = record { object = λ y d h. refl; number = λ y d h. refl; truth = λ y d h. refl; set = λ y d h. refl; field = λ y d h. skipped a (t.free_field y) (name_equal y x) h; bound = λ k d. refl }

taken : {X : Type 0} (a c : X) (b : Bool) → b ≡ true → (if b then a else c) ≡ a
taken a c true h = refl
taken a c false h = absurd (true≢false (sym h))

pub opening-fixes : (w : TermTree) → FixesBound (opening w)
opening-fixes w = record { object = λ y d. refl; number = λ y d. refl; truth = λ y d. refl; set = λ y d. refl; field = λ y d. refl; bound = λ k d h. taken (t.bound k) (if k == d then w else t.bound (k - 1)) (nat_lt k d) (lt-ltb k d h) }

-- what a map of leaves fixes stays in its place
left-alone : (l : LeafMap) (ts : List ValueTree) (n d : ℕ) (v : ValueTree) → slice_get ts n ≡ Some v → mapped_value v l d ≡ v → IsRewritten (leaves_alone l) ts n d n
left-alone l ts n d v at same = stays-rewritten ts (leaves_alone l) n d v at (value-alone l v d ∙ same)

pub lacks-name : (ts : List ValueTree) (n d : ℕ) (x : Name) (v w : ValueTree) → slice_get ts n ≡ Some v → value_passes (the_value (slice_get ts n)) (λ y s. not (name_equal y x)) ≡ true → IsRewritten (leaves_alone (substituting x w)) ts n d n
lacks-name ts n d x v w at h =
    left-alone (substituting x w) ts n d v at (value-kept (substituting x w) (λ y s. not (name_equal y x)) (substituting-fixes x w) v d ((λ i. value_passes (sym (listed-value (slice_get ts n) v at) i) (λ y s. not (name_equal y x))) ∙ h))

pub lacks-loose : (ts : List ValueTree) (n d b : ℕ) (v : ValueTree) (w : TermTree) → slice_get ts n ≡ Some v → IsLeast (λ e. is_closed_value (the_value (slice_get ts n)) e) b → b ≤ d → IsRewritten (leaves_alone (opening w)) ts n d n
lacks-loose ts n d b v w at h le =
    left-alone (opening w) ts n d v at (value-shut (opening w) (opening-fixes w) v d ((λ i. is_closed_value (sym (listed-value (slice_get ts n) v at) i) d) ∙ h.closed d le))

pub name-listed : (o : Option Name) → is_some o ≡ true → o ≡ Some (the_name o)
unfolding the_name
name-listed (Some x) h = refl
name-listed None h = absurd (true≢false (sym h))

-- a name that stands nowhere changes nothing where it is substituted
pub nowhere-substituted : (o : Option ValueTree) (x : Name) (w : ValueTree) → is_truth o ≡ true → value_passes (the_value o) (λ y s. not (name_equal y x)) ≡ true → o ≡ Some (of_truth (substituted (the_truth o) x w))
unfolding is_truth the_truth the_value mapped_value
nowhere-substituted (Some (of_truth a)) x w h g = ap (λ z. Some z) (sym (value-kept (substituting x w) (λ y s. not (name_equal y x)) (substituting-fixes x w) (of_truth a) 0 g))
nowhere-substituted _ x w h g = absurd (true≢false (sym h))
