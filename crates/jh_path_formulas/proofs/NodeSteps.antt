-- What the functions over nodes cite.
use Rattle.std.proofs.Common.{◌≡◌, refl, sym, ap, ◌∙◌, subst, ℕ, true, Some}
use Rattle.std.specs.Prelude.{Option, List, [], ◌∷◌}
use Rattle.jh_path_formulas.specs.Ways.{listed, list_at}
use Rattle.std.proofs.lemmas.Bool.{true≢false}
use Rattle.jh_form.specs.Tree.{TermTree, FieldTree, FormulaTree, FieldTrees, ValueTree, none, more, of_object, of_field, of_truth}
use Rattle.jh_arena.specs.table.Entries.{Listing, is_field, is_object, is_truth, the_field, the_object, the_truth, the_list, fields_at}
use Rattle.jh_arena.specs.table.Nodes.{nodes}
use Rattle.jh_arena.proofs.table.Growing.{fields-stay, are_fields-stay}
use Rattle.jh_arena.specs.table.Growth.{Extends}
use Rattle.jh_import.specs.entering.Entered.{IsList}

pub it-is-field : (o : Option ValueTree) → is_field o ≡ true → o ≡ Some (of_field (the_field o))
unfolding is_field the_field
it-is-field (Some (of_field f)) h = refl
it-is-field _ h = absurd (true≢false (sym h))

pub it-is-object : (o : Option ValueTree) → is_object o ≡ true → o ≡ Some (of_object (the_object o))
unfolding is_object the_object
it-is-object (Some (of_object f)) h = refl
it-is-object _ h = absurd (true≢false (sym h))

pub it-is-truth : (o : Option ValueTree) → is_truth o ≡ true → o ≡ Some (of_truth (the_truth o))
unfolding is_truth the_truth
it-is-truth (Some (of_truth a)) h = refl
it-is-truth _ h = absurd (true≢false (sym h))

pub field-there : (o : Option ValueTree) (f : FieldTree) → o ≡ Some (of_field f) → is_field o ≡ true
unfolding is_field
field-there o f e = ap is_field e

pub object-there : (o : Option ValueTree) (a : TermTree) → o ≡ Some (of_object a) → is_object o ≡ true
unfolding is_object
object-there o a e = ap is_object e

pub truth-there : (o : Option ValueTree) (a : FormulaTree) → o ≡ Some (of_truth a) → is_truth o ≡ true
unfolding is_truth
truth-there o a e = ap is_truth e

pub the-truth : (o : Option ValueTree) (a : FormulaTree) → o ≡ Some (of_truth a) → the_truth o ≡ a
unfolding the_truth
the-truth o a e = ap the_truth e

-- what stands at a node stands there
pub holds-field : (o : Option ValueTree) (f : FieldTree) → o ≡ Some (of_field f) → o ≡ Some (of_field (the_field o))
unfolding the_field
holds-field o f e = e ∙ ap (λ z. Some (of_field (the_field z))) (sym e)

pub holds-object : (o : Option ValueTree) (a : TermTree) → o ≡ Some (of_object a) → o ≡ Some (of_object (the_object o))
unfolding the_object
holds-object o f e = e ∙ ap (λ z. Some (of_object (the_object z))) (sym e)

pub holds-formula : (o : Option ValueTree) (a : FormulaTree) → o ≡ Some (of_truth a) → o ≡ Some (of_truth (the_truth o))
unfolding the_truth
holds-formula o f e = e ∙ ap (λ z. Some (of_truth (the_truth z))) (sym e)

-- lists of fields
pub list-there : (t : Listing) (l : ℕ) (fs : FieldTrees) → IsList t l fs → IsList t l (list_at t l)
unfolding the_list
list-there t l fs h = record { items = h.items; listed = h.listed; fields = h.fields; trees = ap (λ o. fields_at (nodes t) (the_list o)) (sym h.listed) }

pub list-grows : (t u : Listing) (l : ℕ) (fs : FieldTrees) → Extends t u → IsList t l fs → IsList u l fs
list-grows t u l fs g h = record {
  items = h.items;
  listed = g.lists.keeps l h.items h.listed;
  fields = are_fields-stay t.pools u.pools (nodes t) (nodes u) g.names g.marks g.lists g.nodes h.items h.fields ∙ h.fields;
  trees = fields-stay t.pools u.pools (nodes t) (nodes u) g.names g.marks g.lists g.nodes h.items h.fields ∙ h.trees;
}

-- a list of fields as a list
unfoldable pub unlisted : FieldTrees → List FieldTree
unlisted none = []
unlisted (more f fs) = f ∷ unlisted fs

listed-unlisted : (fs : FieldTrees) → listed (unlisted fs) ≡ fs
unfolding unlisted
listed-unlisted none = refl
listed-unlisted (more f fs) = ap (more f) (listed-unlisted fs)

pub list-of : (t : Listing) (l : ℕ) → IsList t l (list_at t l) → IsList t l (listed (unlisted (list_at t l)))
list-of t l h = subst (λ (fs : FieldTrees). IsList t l fs) (sym (listed-unlisted (list_at t l))) h
