-- What is said of an answer, carried over to what a caller says of it.
use Rattle.std.proofs.Common.{◌≡◌, ap, sym, ◌∙◌, ℕ, slice_get, Ok, Err, Some}
use Rattle.std.specs.Prelude.{Result, IfOk}
use Rattle.std.specs.Prelude.{List}
use Rattle.jh_form.specs.Tree.{ValueTree, TermTree, IntTree, SetTree, FieldTree, FormulaTree, of_object, of_number, of_set, of_field, of_truth}
use Rattle.jh_arena.specs.table.Entries.{Listing, the_truth, the_object, the_set, the_field, the_number}
use Rattle.jh_arena.specs.table.Growth.{Extends}
use Rattle.jh_arena.specs.table.Nodes.{nodes}
use Rattle.jh_derivation_steps.specs.premises.Nodes.{IsFormula, IsTerm, IsSet, IsField, IsNumber, IsMade, option_formula}

pub if-ok : {A E : Type 0} {P Q : A → Type 0} (r : Result A E) → ((x : A) → P x → Q x) → IfOk r P → IfOk r Q
if-ok (Ok x) f h = f x h
if-ok (Err e) f h = tt

-- a node of a table that has grown
pub keeps : (t u : Listing) → Extends t u → (n : ℕ) (v : ValueTree) → slice_get (nodes t) n ≡ Some v → slice_get (nodes u) n ≡ Some v
keeps t u g n v h = g.nodes.keeps n v h

pub is-formula : (ts : List ValueTree) (n : ℕ) (x : FormulaTree) → slice_get ts n ≡ Some (of_truth x) → IsFormula ts n
unfolding the_truth
is-formula ts n x h = h ∙ sym (ap (λ o. Some (of_truth (the_truth o))) h)

pub is-term : (ts : List ValueTree) (n : ℕ) (x : TermTree) → slice_get ts n ≡ Some (of_object x) → IsTerm ts n
unfolding the_object
is-term ts n x h = h ∙ sym (ap (λ o. Some (of_object (the_object o))) h)

pub is-set : (ts : List ValueTree) (n : ℕ) (x : SetTree) → slice_get ts n ≡ Some (of_set x) → IsSet ts n
unfolding the_set
is-set ts n x h = h ∙ sym (ap (λ o. Some (of_set (the_set o))) h)

pub is-field : (ts : List ValueTree) (n : ℕ) (x : FieldTree) → slice_get ts n ≡ Some (of_field x) → IsField ts n
unfolding the_field
is-field ts n x h = h ∙ sym (ap (λ o. Some (of_field (the_field o))) h)

pub is-number : (ts : List ValueTree) (n : ℕ) (x : IntTree) → slice_get ts n ≡ Some (of_number x) → IsNumber ts n
unfolding the_number
is-number ts n x h = h ∙ sym (ap (λ o. Some (of_number (the_number o))) h)

-- a node that is made stands for its formula
pub made-is : (ts : List ValueTree) (n : ℕ) (a : FormulaTree) → slice_get ts n ≡ Some (of_truth a) → (option_formula ts (Some n) ≡ Some a) × IsMade ts (Some n)
unfolding option_formula IsMade the_truth
made-is ts n a h = (ap (λ o. Some (the_truth o)) h, is-formula ts n a h)
