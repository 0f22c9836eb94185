-- What one more fact makes of facts in a table of their own.
use Rattle.std.proofs.Common.{◌≡◌, refl, sym, ap, ◌∙◌, subst, ℕ, max, Bool, true, false, List, [], ◌∷◌, ◌++◌, map, ◌&&◌, ◌<◌, length, slice_get, Option, None, Some}
use Rattle.std.proofs.lemmas.Bool.{true≢false}
use Rattle.std.proofs.lemmas.Option.{slice_get_within}
use Rattle.std.proofs.lemmas.List.{map_push}
use Rattle.jh_form.specs.Tree.{FormulaTree, ValueTree, of_field, of_number, of_object, of_set, of_truth}
use Rattle.jh_form.specs.Tree as t
use Rattle.jh_form.specs.Passing.{formula_passes, value_passes}
use Rattle.jh_boxed_operations.specs.comparison.Unmarked.{unmarked_formula, unmarked_value}
use Rattle.jh_arena.specs.table.Entries.{is_truth, the_truth, the_value}
use Rattle.jh_arena.specs.table.Facing.{IsLeast, turn_below}
use Rattle.jh_arena.specs.table.Growth.{Extends}
use Rattle.jh_arena.specs.table.Nodes.{nodes}
use Rattle.jh_normal_forms.specs.negation_normal_form.Normal.{normal}
use Rattle.jh_seq.specs.splitting.Split.{before}
use Rattle.jh_reach.specs.Standing.{AreFormulas}
use Rattle.jh_reach.proofs.Standings.{formulas-grow, formulas-push}
use Rattle.jh_ground_input.specs.declared.facts.Apart.{Apart}
use Rattle.jh_ground_input.specs.Standing.{IsApart, are_before, normals, with_sign}
use Rattle.jh_ground_input.proofs.Leasts.{before-more, both-least, same-least}

there-truth : (v : Option ValueTree) → is_truth v ≡ true → v ≡ Some (of_truth (the_truth v))
unfolding is_truth the_truth
there-truth None h = absurd (true≢false (sym h))
there-truth (Some (of_truth a)) h = refl
there-truth (Some (of_object a)) h = absurd (true≢false (sym h))
there-truth (Some (of_number a)) h = absurd (true≢false (sym h))
there-truth (Some (of_set a)) h = absurd (true≢false (sym h))
there-truth (Some (of_field a)) h = absurd (true≢false (sym h))

pub truth-there : (v : Option ValueTree) (a : FormulaTree) → v ≡ Some (of_truth a) → is_truth v ≡ true
unfolding is_truth
truth-there v a e = ap is_truth e

pub truth-is : (v : Option ValueTree) (a : FormulaTree) → v ≡ Some (of_truth a) → the_truth v ≡ a
unfolding the_truth
truth-is v a e = ap the_truth e

-- a formula stands at a node
pub holds : (ts : List ValueTree) (n : ℕ) → is_truth (slice_get ts n) ≡ true → slice_get ts n ≡ Some (of_truth (the_truth (slice_get ts n)))
holds ts n h = there-truth (slice_get ts n) h

pub inside : (ts : List ValueTree) (n : ℕ) (a : FormulaTree) → slice_get ts n ≡ Some (of_truth a) → n < length ts
inside ts n a h = slice_get_within ts n (of_truth a) h

pub bare-there : (v : Option ValueTree) (a : FormulaTree) → v ≡ Some (of_truth a) → unmarked_value (the_value v) ≡ of_truth (unmarked_formula a)
unfolding unmarked_value the_value
bare-there v a e = ap (λ w. unmarked_value (the_value w)) e

signed-normal : (a : FormulaTree) (s : Bool) → normal a s ≡ normal (with_sign s a) true
unfolding normal
signed-normal a true = refl
signed-normal a false = refl

signed-passes : (a : FormulaTree) (s : Bool) (k : ℕ) → value_passes (of_truth a) (turn_below k) ≡ formula_passes (with_sign s a) (before k)
unfolding value_passes formula_passes
signed-passes a true k = refl
signed-passes a false k = refl

turn-of : (ts : List ValueTree) (n turn : ℕ) (a : FormulaTree) (s : Bool) → slice_get ts n ≡ Some (of_truth a) → IsLeast (λ k. value_passes (the_value (slice_get ts n)) (turn_below k)) turn →
    IsLeast (λ k. formula_passes (with_sign s a) (before k)) turn
unfolding the_value
turn-of ts n turn a s there least =
    same-least (λ k. value_passes (the_value (slice_get ts n)) (turn_below k)) (λ k. formula_passes (with_sign s a) (before k)) turn
    (λ k. ap (λ v. value_passes (the_value v) (turn_below k)) there ∙ signed-passes a s k) least

pub one-more : (x y : Apart) (fs : List FormulaTree) (a : FormulaTree) (s : Bool) (bare node turn : ℕ) → Extends x.table y.table → slice_get (nodes y.table) bare ≡ Some (of_truth a) →
    IsLeast (λ k. value_passes (the_value (slice_get (nodes y.table) bare)) (turn_below k)) turn → slice_get (nodes y.table) node ≡ Some (of_truth (normal a s)) →
    y.facts.items ≡ x.facts.items ++ node ∷ [] → y.first ≡ max x.first turn → IsApart x fs → IsApart y (fs ++ (with_sign s a ∷ []))
one-more x y fs a s bare node turn grows there least is facts first h =
    let x_facts : AreFormulas y.table x.facts.items (normals fs) = formulas-grow x.table y.table x.facts.items (normals fs) grows h.facts in
    let pushed : AreFormulas y.table (x.facts.items ++ node ∷ []) (normals fs ++ normal (with_sign s a) true ∷ []) =
    formulas-push y.table x.facts.items node (normals fs) (normal (with_sign s a) true) x_facts (is ∙ ap (λ b. Some (of_truth b)) (signed-normal a s)) in record {
      facts = subst (λ ns. AreFormulas y.table ns (normals (fs ++ (with_sign s a ∷ [])))) (sym facts)
          (subst (λ bs. AreFormulas y.table (x.facts.items ++ node ∷ []) bs) (sym (map_push (λ b. normal b true) fs (with_sign s a))) pushed);
      first = subst (λ n. IsLeast (are_before (fs ++ (with_sign s a ∷ []))) n) (sym first)
          (same-least (λ k. are_before fs k && formula_passes (with_sign s a) (before k)) (are_before (fs ++ (with_sign s a ∷ []))) (max x.first turn) (λ k. before-more fs (with_sign s a) k)
          (both-least (are_before fs) (λ k. formula_passes (with_sign s a) (before k)) x.first turn h.first (turn-of (nodes y.table) bare turn a s there least)));
    }
