-- What an update gives at each object, over nodes, by the sort of its value.
use Rattle.std.proofs.Common.{◌≡◌, refl, ap, ℕ, List, slice_get, Some, None}
use Rattle.jh_name.specs.declared.place.Sort.TheVariants as sort
use Rattle.jh_form.specs.Tree.{TermTree, IntTree, SetTree, FieldTree, ValueTree, FormulaTree, of_object, of_number, of_truth, of_set, of_field}
use Rattle.jh_form.specs.Tree as t
use Rattle.jh_form.specs.Sorts.{tree_sort}
use Rattle.jh_arena.specs.table.Entries.{Listing, the_field}
use Rattle.jh_arena.specs.table.Nodes.{nodes, tree_in}
use Rattle.jh_arena.specs.declared.table.shapes.Shape.{Shape}
use Rattle.jh_derivation_rules.specs.Rules.{at_each, described}
use Rattle.jh_derivation_steps.specs.premises.Nodes.{field_at, IsMade, option_formula}
use Rattle.jh_derivation_steps.proofs.premises.Carried.{made-is}
use Rattle.jh_derivation_steps.proofs.premises.Shaping.{tree-at}

pub described-objects : (ts us : List ValueTree) (value made : ℕ) (g f : FieldTree) (a : TermTree) (v : ValueTree) → slice_get ts value ≡ Some v → tree_sort v ≡ sort.Obj →
    ((x : TermTree) → slice_get ts value ≡ Some (of_object x) → slice_get us made ≡ Some (of_truth (at_each a (t.eq_object (t.read_object g (t.bound 0)) x) (t.eq_object (t.read_object g (t.bound 0)) (t.read_object f (t.bound 0)))))) →
    (option_formula us (Some made) ≡ described g f a v) × IsMade us (Some made)
unfolding described
described-objects ts us value made g f a (of_object x) h e is = made-is us made (at_each a (t.eq_object (t.read_object g (t.bound 0)) x) (t.eq_object (t.read_object g (t.bound 0)) (t.read_object f (t.bound 0)))) (is x h)
described-objects ts us value made g f a _ h e is = absurd (cc)

pub described-numbers : (ts us : List ValueTree) (value made : ℕ) (g f : FieldTree) (a : TermTree) (v : ValueTree) → slice_get ts value ≡ Some v → tree_sort v ≡ sort.Int →
    ((x : IntTree) → slice_get ts value ≡ Some (of_number x) → slice_get us made ≡ Some (of_truth (at_each a (t.eq_number (t.read_number g (t.bound 0)) x) (t.eq_number (t.read_number g (t.bound 0)) (t.read_number f (t.bound 0)))))) →
    (option_formula us (Some made) ≡ described g f a v) × IsMade us (Some made)
unfolding described
described-numbers ts us value made g f a (of_number x) h e is = made-is us made (at_each a (t.eq_number (t.read_number g (t.bound 0)) x) (t.eq_number (t.read_number g (t.bound 0)) (t.read_number f (t.bound 0)))) (is x h)
described-numbers ts us value made g f a _ h e is = absurd (cc)

pub described-truths : (ts us : List ValueTree) (value made : ℕ) (g f : FieldTree) (a : TermTree) (v : ValueTree) → slice_get ts value ≡ Some v → tree_sort v ≡ sort.Bool →
    ((x : FormulaTree) → slice_get ts value ≡ Some (of_truth x) → slice_get us made ≡ Some (of_truth (at_each a (t.iff (t.read_truth g (t.bound 0)) x) (t.iff (t.read_truth g (t.bound 0)) (t.read_truth f (t.bound 0)))))) →
    (option_formula us (Some made) ≡ described g f a v) × IsMade us (Some made)
unfolding described
described-truths ts us value made g f a (of_truth x) h e is = made-is us made (at_each a (t.iff (t.read_truth g (t.bound 0)) x) (t.iff (t.read_truth g (t.bound 0)) (t.read_truth f (t.bound 0)))) (is x h)
described-truths ts us value made g f a _ h e is = absurd (cc)

pub described-sets : (ts us : List ValueTree) (value made : ℕ) (g f : FieldTree) (a : TermTree) (v : ValueTree) → slice_get ts value ≡ Some v → tree_sort v ≡ sort.Set →
    ((x : SetTree) → slice_get ts value ≡ Some (of_set x) → slice_get us made ≡ Some (of_truth (at_each a (t.eq_set (t.read_set g (t.bound 0)) x) (t.eq_set (t.read_set g (t.bound 0)) (t.read_set f (t.bound 0)))))) →
    (option_formula us (Some made) ≡ described g f a v) × IsMade us (Some made)
unfolding described
described-sets ts us value made g f a (of_set x) h e is = made-is us made (at_each a (t.eq_set (t.read_set g (t.bound 0)) x) (t.eq_set (t.read_set g (t.bound 0)) (t.read_set f (t.bound 0)))) (is x h)
described-sets ts us value made g f a _ h e is = absurd (cc)

pub described-none : (g f : FieldTree) (a : TermTree) (v : ValueTree) → tree_sort v ≡ sort.Field → described g f a v ≡ None
unfolding described
described-none g f a (of_field x) e = refl
described-none g f a _ e = absurd (cc)

pub field-at : {W : Type 0} (f : FieldTree → W) (u : Listing) (node : ℕ) (x y : Shape) → slice_get (nodes u) node ≡ Some (tree_in u x) → x ≡ y → f (field_at (nodes u) node) ≡ f (the_field (Some (tree_in u y)))
field-at f u node x y tree is = ap (λ o. f (the_field o)) (tree-at u node x y tree is)
