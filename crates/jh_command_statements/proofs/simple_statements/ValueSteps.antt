-- Values by their numbers in the source, and at a kind.
use Rattle.std.proofs.Common.{◌≡◌, refl, sym, ap, ◌∙◌, ℕ, pos, ◌<◌, ◌≤◌, arith, zero, suc, List, [], ◌∷◌, length, Some, None, Option, slice_get}
use Rattle.std.specs.Option.{option_map_or}
use Rattle.jh_ast.specs.Programs.{ProgramTree}
use Rattle.jh_form.specs.Tree.{ValueTree, of_object, of_number, of_truth, of_set, of_field}
use Rattle.jh_form.specs.Tree as t
use Rattle.jh_form.specs.Sorts.{tree_sort}
use Rattle.jh_name.specs.declared.place.Sort.{Sort}
use Rattle.jh_name.specs.declared.place.Sort.TheVariants as sort
use Rattle.jh_arena.specs.table.Entries.{Listing, the_value}
use Rattle.jh_arena.specs.table.Nodes.{nodes}
use Rattle.jh_vars.specs.Opened.{opened}
use Rattle.jh_vars.specs.Resolved.{as_object, as_number, as_truth, as_set}
use Rattle.jh_semantics.specs.LoweredStmts.{of_kind}
use Rattle.jh_name.specs.declared.place.Kind.{Kind}
use Rattle.jh_semantics.specs.typed_code.Statements.{value_of}
use Rattle.jh_command_statements.specs.checks.Told.{node_of, told_at, AreFormulas}

-- nothing stands at a place outside a list
nothing-at : {X : Type 0} (xs : List X) (i : ℕ) → length xs ≤ i → slice_get xs i ≡ None
nothing-at [] i le = refl
nothing-at (x ∷ xs) zero le = absurd (omega arith)
nothing-at (x ∷ xs) (suc i) le = nothing-at xs i (omega arith)

there-at : {X : Type 0} (xs : List X) (i : ℕ) → i < length xs → (x : X) × (slice_get xs i ≡ Some x)
there-at [] i lt = absurd (omega arith)
there-at (x ∷ xs) zero lt = (x, refl)
there-at (x ∷ xs) (suc i) lt = there-at xs i (omega arith)

-- what is told of a node that stands in the table is its value
some-told : (o : Option ValueTree) (w v : ValueTree) → o ≡ Some v → o ≡ Some v → Some v ≡ Some (option_map_or (λ x. x) o w)
some-told o w v e f = ap (λ y. Some (option_map_or (λ x. x) y w)) (sym e)

pub value-told : (l : Listing) (p : ProgramTree) (ns : List (Option ℕ)) (n k : ℕ) → AreFormulas p l ns → Some k ≡ node_of ns n → k < length (nodes l) → slice_get (nodes l) k ≡ Some (value_of p n)
value-told l p ns n k h e lt =
    let told : slice_get (nodes l) k ≡ opened p n = ap (told_at l) e ∙ h.is n in
    let there = there-at (nodes l) k lt in
    there.1 ∙ some-told (opened p n) (of_truth t.true_formula) there.0 (sym told ∙ there.1) (sym told ∙ there.1)

pub none-told : (l : Listing) (p : ProgramTree) (ns : List (Option ℕ)) (n : ℕ) → AreFormulas p l ns → None ≡ node_of ns n → Some (of_truth t.true_formula) ≡ Some (value_of p n)
none-told l p ns n h e = ap (λ o. Some (option_map_or (λ x. x) o (of_truth t.true_formula))) (ap (told_at l) e ∙ h.is n)

pub out-told : (l : Listing) (p : ProgramTree) (ns : List (Option ℕ)) (n k : ℕ) → AreFormulas p l ns → Some k ≡ node_of ns n → length (nodes l) ≤ k → Some (of_truth t.true_formula) ≡ Some (value_of p n)
out-told l p ns n k h e le = ap (λ o. Some (option_map_or (λ x. x) o (of_truth t.true_formula))) (sym (nothing-at (nodes l) k le) ∙ ap (told_at l) e ∙ h.is n)

-- a value that has a sort, and one that hasn't
object-is : (v : ValueTree) → tree_sort v ≡ sort.Obj → v ≡ of_object (as_object v)
object-is (of_object a) h = refl
object-is (of_number a) h = absurd (cc)
object-is (of_truth a) h = absurd (cc)
object-is (of_set a) h = absurd (cc)
object-is (of_field a) h = absurd (cc)

number-is : (v : ValueTree) → tree_sort v ≡ sort.Int → v ≡ of_number (as_number v)
number-is (of_object a) h = absurd (cc)
number-is (of_number a) h = refl
number-is (of_truth a) h = absurd (cc)
number-is (of_set a) h = absurd (cc)
number-is (of_field a) h = absurd (cc)

truth-is : (v : ValueTree) → tree_sort v ≡ sort.Bool → v ≡ of_truth (as_truth v)
truth-is (of_object a) h = absurd (cc)
truth-is (of_number a) h = absurd (cc)
truth-is (of_truth a) h = refl
truth-is (of_set a) h = absurd (cc)
truth-is (of_field a) h = absurd (cc)

set-is : (v : ValueTree) → tree_sort v ≡ sort.Set → v ≡ of_set (as_set v)
set-is (of_object a) h = absurd (cc)
set-is (of_number a) h = absurd (cc)
set-is (of_truth a) h = absurd (cc)
set-is (of_set a) h = refl
set-is (of_field a) h = absurd (cc)

no-object : (v : ValueTree) → (tree_sort v ≡ sort.Obj → ⊥) → t.null ≡ as_object v
no-object (of_object a) h = absurd (h refl)
no-object (of_number a) h = refl
no-object (of_truth a) h = refl
no-object (of_set a) h = refl
no-object (of_field a) h = refl

no-number : (v : ValueTree) → (tree_sort v ≡ sort.Int → ⊥) → t.const (pos 0) ≡ as_number v
no-number (of_object a) h = refl
no-number (of_number a) h = absurd (h refl)
no-number (of_truth a) h = refl
no-number (of_set a) h = refl
no-number (of_field a) h = refl

no-truth : (v : ValueTree) → (tree_sort v ≡ sort.Bool → ⊥) → t.true_formula ≡ as_truth v
no-truth (of_object a) h = refl
no-truth (of_number a) h = refl
no-truth (of_truth a) h = absurd (h refl)
no-truth (of_set a) h = refl
no-truth (of_field a) h = refl

no-set : (v : ValueTree) → (tree_sort v ≡ sort.Set → ⊥) → t.empty ≡ as_set v
no-set (of_object a) h = refl
no-set (of_number a) h = refl
no-set (of_truth a) h = refl
no-set (of_set a) h = absurd (h refl)
no-set (of_field a) h = refl

-- the value at a node that stands in the table
standing : (l : Listing) (k : ℕ) → k < length (nodes l) → slice_get (nodes l) k ≡ Some (the_value (slice_get (nodes l) k))
unfolding the_value
standing l k lt = let there = there-at (nodes l) k lt in there.1 ∙ ap (λ o. Some (the_value o)) (sym there.1)

module _ (l : Listing) (k : ℕ) (lt : k < length (nodes l)) (found : Sort) (is : found ≡ tree_sort (the_value (slice_get (nodes l) k))) where
  pub object-at : found ≡ sort.Obj → slice_get (nodes l) k ≡ Some (of_object (as_object (the_value (slice_get (nodes l) k))))
  object-at e = standing l k lt ∙ ap Some (object-is (the_value (slice_get (nodes l) k)) (sym is ∙ e))

  pub number-at : found ≡ sort.Int → slice_get (nodes l) k ≡ Some (of_number (as_number (the_value (slice_get (nodes l) k))))
  number-at e = standing l k lt ∙ ap Some (number-is (the_value (slice_get (nodes l) k)) (sym is ∙ e))

  pub truth-at : found ≡ sort.Bool → slice_get (nodes l) k ≡ Some (of_truth (as_truth (the_value (slice_get (nodes l) k))))
  truth-at e = standing l k lt ∙ ap Some (truth-is (the_value (slice_get (nodes l) k)) (sym is ∙ e))

  pub set-at : found ≡ sort.Set → slice_get (nodes l) k ≡ Some (of_set (as_set (the_value (slice_get (nodes l) k))))
  set-at e = standing l k lt ∙ ap Some (set-is (the_value (slice_get (nodes l) k)) (sym is ∙ e))

  pub object-else : (found ≡ sort.Obj → ⊥) → Some (of_object t.null) ≡ Some (of_object (as_object (the_value (slice_get (nodes l) k))))
  object-else other = ap (λ a. Some (of_object a)) (no-object (the_value (slice_get (nodes l) k)) (λ e. other (is ∙ e)))

  pub number-else : (found ≡ sort.Int → ⊥) → Some (of_number (t.const (pos 0))) ≡ Some (of_number (as_number (the_value (slice_get (nodes l) k))))
  number-else other = ap (λ a. Some (of_number a)) (no-number (the_value (slice_get (nodes l) k)) (λ e. other (is ∙ e)))

  pub truth-else : (found ≡ sort.Bool → ⊥) → Some (of_truth t.true_formula) ≡ Some (of_truth (as_truth (the_value (slice_get (nodes l) k))))
  truth-else other = ap (λ a. Some (of_truth a)) (no-truth (the_value (slice_get (nodes l) k)) (λ e. other (is ∙ e)))

  pub set-else : (found ≡ sort.Set → ⊥) → Some (of_set t.empty) ≡ Some (of_set (as_set (the_value (slice_get (nodes l) k))))
  set-else other = ap (λ a. Some (of_set a)) (no-set (the_value (slice_get (nodes l) k)) (λ e. other (is ∙ e)))

pub value-is : (t : Listing) (k : ℕ) (v : ValueTree) → slice_get (nodes t) k ≡ Some v → the_value (slice_get (nodes t) k) ≡ v
unfolding the_value
value-is t k v h = ap the_value h

-- of a kind, by the value that is known
pub kind-at : (t u : Listing) (k made : ℕ) (kind : Kind) (v : ValueTree) → slice_get (nodes u) made ≡ Some (of_kind kind (the_value (slice_get (nodes t) k))) → slice_get (nodes t) k ≡ Some v → slice_get (nodes u) made ≡ Some (of_kind kind v)
unfolding the_value
kind-at t u k made kind v e h = e ∙ ap (λ o. Some (of_kind kind (the_value o))) h

pub ruleset value_steps = (value-told, none-told, out-told, object-at, number-at, truth-at, set-at, object-else, number-else, truth-else, set-else)
