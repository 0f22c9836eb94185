-- A node of a known shape: its formula, and that its parts are of their sorts.
use Rattle.std.proofs.Common.{◌≡◌, refl, sym, ap, subst, ◌∙◌, ℕ, true, List, slice_get, Some}
use Rattle.std.specs.Prelude.{Option}
use Rattle.jh_form.specs.Tree.{ValueTree, FormulaTree, SetTree, of_truth}
use Rattle.jh_arena.specs.table.Entries.{Listing, the_truth, the_set}
use Rattle.jh_arena.specs.table.Nodes.{nodes, tree_in, fits_in}
use Rattle.jh_arena.specs.declared.table.shapes.Shape.{Shape}
use Rattle.jh_derivation_steps.specs.premises.Nodes.{formula_at, set_at, option_formula, IsMade}
use Rattle.jh_arena.specs.table.Entries.{Pools}
use Rattle.jh_arena.specs.table.Nodes.{shape_tree}
use Rattle.jh_arena.specs.declared.table.shapes.Shape.TheVariants as s
use Rattle.jh_derivation_rules.specs.Rules.{fact_opened, relation_opened}
use Rattle.jh_derivation_steps.proofs.premises.Carried.{made-is}

pub fits-at : (u : Listing) (x y : Shape) → fits_in u x ≡ true → x ≡ y → fits_in u y ≡ true
fits-at u x y h is = subst (λ (z : Shape). fits_in u z ≡ true) is h

pub tree-at : (u : Listing) (node : ℕ) (x y : Shape) → slice_get (nodes u) node ≡ Some (tree_in u x) → x ≡ y → slice_get (nodes u) node ≡ Some (tree_in u y)
tree-at u node x y tree is = tree ∙ ap (λ z. Some (tree_in u z)) is

pub formula-at : {W : Type 0} (f : FormulaTree → W) (u : Listing) (node : ℕ) (x y : Shape) → slice_get (nodes u) node ≡ Some (tree_in u x) → x ≡ y → f (formula_at (nodes u) node) ≡ f (the_truth (Some (tree_in u y)))
formula-at f u node x y tree is = ap (λ o. f (the_truth o)) (tree-at u node x y tree is)

pub set-at : {W : Type 0} (f : SetTree → W) (u : Listing) (node : ℕ) (x y : Shape) → slice_get (nodes u) node ≡ Some (tree_in u x) → x ≡ y → f (set_at (nodes u) node) ≡ f (the_set (Some (tree_in u y)))
set-at f u node x y tree is = ap (λ o. f (the_set o)) (tree-at u node x y tree is)

-- the node that is made is what is wanted
pub arm : (us : List ValueTree) (made : ℕ) (a : FormulaTree) (wanted : Option FormulaTree) → wanted ≡ Some a → slice_get us made ≡ Some (of_truth a) → (option_formula us (Some made) ≡ wanted) × IsMade us (Some made)
arm us made a wanted e h = let r = made-is us made a h in (r.0 ∙ sym e, r.1)

-- what is no negation is opened as it stands
pub fact-other : (p : Pools) (ts : List ValueTree) (x : Shape) → ((a : ℕ) → x ≡ s.Negation a → ⊥) → fact_opened (the_truth (Some (shape_tree p ts x))) ≡ relation_opened (the_truth (Some (shape_tree p ts x)))
unfolding fact_opened shape_tree the_truth
fact-other p ts (s.Negation a) h = absurd (h a refl)
fact-other p ts _ h = refl
