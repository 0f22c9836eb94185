-- What the functions that evaluate nodes cite.
use Rattle.std.proofs.Common.{◌≡◌, refl, sym, ap, subst, ◌∙◌, ℕ, suc, ◌<◌, Bool, true, false, not, ◌&&◌, ◌||◌, List, slice_get, ℤ, Result, Ok, Err, IfOk, IfErr, FitsSigned}
use Rattle.std.specs.Int.{w128}
use Rattle.std.proofs.lemmas.Bool.{true≢false}
use Rattle.jh_form.specs.Tree.{IntTree, FieldTree, of_number, of_truth, of_field}
use Rattle.jh_form.specs.Meaning.{Interp, int_value, all_below, any_below}
use Rattle.jh_boxed.specs.Parts.{Among, IsChild}
use Rattle.jh_boxed.specs.Parts as part
use Rattle.jh_arena.specs.table.Entries.{Listing, the_list, the_object, the_truth, fields_at}
use Rattle.jh_arena.specs.table.Nodes.{nodes}
use Rattle.jh_arena.specs.declared.table.shapes.Shape.TheVariants as s
use Rattle.jh_export.specs.Standing.{Stands}
use Rattle.jh_export.proofs.ValueSteps.{stands-Reach, stands-Tree}
use Rattle.jh_sem.specs.Wide.{AreInside, IsWide}
use Rattle.jh_sem.specs.declared.answer.SemError.{SemError}
use Rattle.jh_sem.specs.declared.answer.SemError.TheVariants.{Wide}
use Rattle.jh_sem.proofs.Below.{all-below, below-any, not-so, is-false}
use Rattle.jh_sem.proofs.Widening.{wide-here}
use Rattle.jh_export.proofs.Places.{term-inside, int-inside, set-inside, field-inside, formula-inside}
use Rattle.jh_export.proofs.ValueSteps.{sort-FreeObject-n, sort-FreeNumber-n, sort-FreeSet-n, sort-FreeField-n, sort-FreeTruth-n}
use Rattle.jh_sem.proofs.EvalSteps.{value-Bound, value-FreeObject, value-Null, value-Const, value-FreeNumber, value-FreeSet, value-Empty, value-Univ, value-FreeField, value-True, value-False, value-FreeTruth}

pub ruleset object_of_steps = (term-inside, value-Bound, value-FreeObject, value-Null, sort-FreeObject-n)

pub ruleset number_of_steps = (int-inside, value-Const, value-FreeNumber, sort-FreeNumber-n)

pub ruleset set_of_steps = (set-inside, value-FreeSet, value-Empty, value-Univ, sort-FreeSet-n)

pub ruleset field_steps = (field-inside, value-FreeField, sort-FreeField-n)

pub ruleset truth_of_steps = (formula-inside, value-True, value-False, value-FreeTruth, sort-FreeTruth-n)

-- an answer that is given on
pub if-ok : {X E : Type 0} (r : Result X E) (x y : X) → IfOk r (λ a. a ≡ x) → x ≡ y → IfOk r (λ a. a ≡ y)
if-ok (Ok a) x y h e = h ∙ e
if-ok (Err b) x y h e = tt

-- connectives whose first part decides, or doesn't
pub stop-and : (p q r : Bool) → p ≡ false → (p && q) ≡ r → false ≡ r
stop-and false q r h e = e
stop-and true q r h e = absurd (true≢false h)

pub go-and : (p q r : Bool) → p ≡ true → (p && q) ≡ r → q ≡ r
go-and true q r h e = e
go-and false q r h e = absurd (true≢false (sym h))

pub stop-or : (p q r : Bool) → p ≡ true → (p || q) ≡ r → true ≡ r
stop-or true q r h e = e
stop-or false q r h e = absurd (true≢false (sym h))

pub go-or : (p q r : Bool) → p ≡ false → (p || q) ≡ r → q ≡ r
go-or false q r h e = e
go-or true q r h e = absurd (true≢false h)

-- one of 0 to n that fails a test, or passes it
pub one-fails : (n x : ℕ) (p : ℕ → Bool) → x < n → p x ≡ false → false ≡ all_below n p
one-fails n x p lt h = sym (not-so (all_below n p) (λ k. is-false (p x) h (all-below n x p k lt)))

pub one-passes : (n x : ℕ) (p : ℕ → Bool) → x < n → p x ≡ true → true ≡ any_below n p
one-passes n x p lt h = sym (below-any n x p lt h)

-- arithmetic that leaves its integers
pub wide-out : (m : Interp) (a : IntTree) (e : List ℕ) (z : ℤ) (r : Result ℤ SemError) → AreInside m.last e → z ≡ int_value a m e → IfErr r (λ x. FitsSigned w128 z → ⊥) → IfErr r (λ x. x ≡ Wide → IsWide m (of_number a))
wide-out m a e z (Ok v) inside is h = tt
wide-out m a e z (Err x) inside is h = λ wide. wide-here m a e inside (λ fits. h (subst (λ (v : ℤ). FitsSigned w128 v) (sym is) fits))

-- the fields of a list are parts
pub reach-part : (t : Listing) (i l a b : ℕ) → Stands t i (s.Reach l a b) → (f : FieldTree) → Among f (fields_at (nodes t) (the_list (slice_get t.pools.lists l))) → IsChild (of_field f) (of_truth (the_truth (slice_get (nodes t) i)))
reach-part t i l a b h f among = subst (λ u. IsChild (of_field f) (of_truth u)) (stands-Reach t i l a b h) (part.reach-field f (fields_at (nodes t) (the_list (slice_get t.pools.lists l))) (the_object (slice_get (nodes t) a)) (the_object (slice_get (nodes t) b)) among)

pub tree-part : (t : Listing) (i l : ℕ) → Stands t i (s.Tree l) → (f : FieldTree) → Among f (fields_at (nodes t) (the_list (slice_get t.pools.lists l))) → IsChild (of_field f) (of_truth (the_truth (slice_get (nodes t) i)))
tree-part t i l h f among = subst (λ u. IsChild (of_field f) (of_truth u)) (stands-Tree t i l h) (part.tree-field f (fields_at (nodes t) (the_list (slice_get t.pools.lists l))) among)
