-- Lists of fields that stand in a table, and the goals of `tree` along them.
use Rattle.std.proofs.Common.{◌≡◌, refl, sym, ap, ◌∙◌, subst, ℕ, zero, suc, ◌+◌, true, List, [], ◌∷◌, ◌++◌, slice_get, Option, Some, None, add-one, is_some}
use Rattle.std.specs.Option.{IfSome}
use Rattle.std.proofs.lemmas.Bool.{true≢false}
use Rattle.std.proofs.lemmas.List.{append_assoc, append-nil}
use Rattle.jh_form.specs.Tree.{TermTree, FieldTree, FormulaTree, FieldTrees, ValueTree, of_object, of_field, of_truth}
use Rattle.jh_form.specs.Tree as t
use Rattle.jh_form.proofs.ClosedLemmas.{both-left, both-right}
use Rattle.jh_arena.specs.table.Entries.{Listing, is_field, the_field, the_object, the_truth, the_list, are_fields, fields_at}
use Rattle.jh_arena.specs.table.Growth.{Extends}
use Rattle.jh_arena.specs.table.Nodes.{nodes, shape_tree}
use Rattle.jh_arena.specs.declared.table.shapes.Shape.TheVariants as s
use Rattle.jh_arena.proofs.table.Growing.{fields-stay, are_fields-stay}
use Rattle.jh_arena.proofs.table.PartSteps.{part-Tree-l, part-Tree-fields}
use Rattle.jh_import.specs.entering.Entered.{IsList}
use Rattle.jh_splitting.specs.Edges.{list_at, fields_from}
use Rattle.jh_splitting.specs.Pairs.{ArePaired}
use Rattle.jh_splitting.specs.Standing.{IsFormula}
use Rattle.jh_splitting.proofs.Pairing.{paired-push, paired-grows}
use Rattle.jh_splitting.proofs.Shapes.{formula-same, Shaped}

-- what stands at a node stands there
pub holds-field : (o : Option ValueTree) (f : FieldTree) → o ≡ Some (of_field f) → o ≡ Some (of_field (the_field o))
unfolding the_field
holds-field o f e = e ∙ ap (λ z. Some (of_field (the_field z))) (sym e)

pub holds-object : (o : Option ValueTree) (a : TermTree) → o ≡ Some (of_object a) → o ≡ Some (of_object (the_object o))
unfolding the_object
holds-object o f e = e ∙ ap (λ z. Some (of_object (the_object z))) (sym e)

pub holds-formula : (o : Option ValueTree) (a : FormulaTree) → o ≡ Some (of_truth a) → o ≡ Some (of_truth (the_truth o))
unfolding the_truth
holds-formula o f e = e ∙ ap (λ z. Some (of_truth (the_truth z))) (sym e)

-- lists of fields
pub list-there : (u : Listing) (l : ℕ) (fs : FieldTrees) → IsList u l fs → IsList u l (list_at u l)
unfolding the_list
list-there u l fs h = record { items = h.items; listed = h.listed; fields = h.fields; trees = ap (λ o. fields_at (nodes u) (the_list o)) (sym h.listed) }

pub list-grows : (t u : Listing) (l : ℕ) (fs : FieldTrees) → Extends t u → IsList t l fs → IsList u l fs
list-grows t u l fs g h = record {
  items = h.items;
  listed = g.lists.keeps l h.items h.listed;
  fields = are_fields-stay t.pools u.pools (nodes t) (nodes u) g.names g.marks g.lists g.nodes h.items h.fields ∙ h.fields;
  trees = fields-stay t.pools u.pools (nodes t) (nodes u) g.names g.marks g.lists g.nodes h.items h.fields ∙ h.trees;
}

pub if-some : {X : Type 0} (o : Option X) (P : X → Type 0) → ((x : X) → o ≡ Some x → P x) → IfSome o P
if-some None P f = tt
if-some (Some x) P f = f x refl

it-is-field : (o : Option ValueTree) → is_field o ≡ true → o ≡ Some (of_field (the_field o))
unfolding is_field the_field
it-is-field (Some (of_field f)) h = refl
it-is-field _ h = absurd (true≢false (sym h))

-- the field at a place, and those from there on
from-at : (ts : List ValueTree) (ns : List ℕ) (i n : ℕ) → are_fields ts ns ≡ true → slice_get ns i ≡ Some n → (slice_get ts n ≡ Some (of_field (the_field (slice_get ts n)))) × (fields_from i (fields_at ts ns) ≡ t.more (the_field (slice_get ts n)) (fields_from (suc i) (fields_at ts ns)))
unfolding are_fields fields_at
from-at ts [] i n h e = absurd (cc)
from-at ts (m ∷ ns) zero n h e =
    let same : m ≡ n = cc in
    (subst (λ (k : ℕ). slice_get ts k ≡ Some (of_field (the_field (slice_get ts k)))) same (it-is-field (slice_get ts m) (both-left (is_field (slice_get ts m)) (are_fields ts ns) h)), ap (λ k. t.more (the_field (slice_get ts k)) (fields_at ts ns)) same)
from-at ts (m ∷ ns) (suc i) n h e = from-at ts ns i n (both-right (is_field (slice_get ts m)) (are_fields ts ns) h) e

from-end : (ts : List ValueTree) (ns : List ℕ) (i : ℕ) → slice_get ns i ≡ None → fields_from i (fields_at ts ns) ≡ t.none
unfolding fields_at
from-end ts [] zero e = refl
from-end ts [] (suc i) e = refl
from-end ts (m ∷ ns) zero e = absurd (cc)
from-end ts (m ∷ ns) (suc i) e = from-end ts ns i e

the-items : (o : Option (List ℕ)) (xs ys : List ℕ) → o ≡ Some xs → o ≡ Some ys → xs ≡ ys
the-items o xs ys e f = cc

pub field-at : (u : Listing) (l i n : ℕ) (ns : List ℕ) (fs : FieldTrees) → slice_get u.pools.lists l ≡ Some ns → slice_get ns i ≡ Some n → IsList u l fs → (f : FieldTree) × (slice_get (nodes u) n ≡ Some (of_field f)) × (fields_from i fs ≡ t.more f (fields_from (i + 1) fs))
field-at u l i n ns fs e at h =
    let same : ns ≡ h.items = the-items (slice_get u.pools.lists l) ns h.items e h.listed in
    let r = from-at (nodes u) h.items i n h.fields (ap (λ xs. slice_get xs i) (sym same) ∙ at) in
    (the_field (slice_get (nodes u) n), r.0, ap (fields_from i) (sym h.trees) ∙ r.1 ∙ (λ k. t.more (the_field (slice_get (nodes u) n)) (fields_from (sym (add-one i) k) (h.trees k))))

pub field-none : (u : Listing) (l i : ℕ) (ns : List ℕ) (fs : FieldTrees) → slice_get u.pools.lists l ≡ Some ns → slice_get ns i ≡ None → IsList u l fs → fields_from i fs ≡ t.none
field-none u l i ns fs e at h =
    let same : ns ≡ h.items = the-items (slice_get u.pools.lists l) ns h.items e h.listed in
    ap (fields_from i) (sym h.trees) ∙ from-end (nodes u) h.items i (ap (λ xs. slice_get xs i) (sym same) ∙ at)

some-list : (o : Option (List ℕ)) → is_some o ≡ true → o ≡ Some (the_list o)
unfolding the_list
some-list (Some xs) e = refl
some-list None e = absurd (true≢false (sym e))

-- the list of a `tree`
pub tree-list : (u : Listing) (n l : ℕ) → Shaped u n (s.Tree l) → IsList u l (list_at u l)
tree-list u n l h = record { items = the_list (slice_get u.pools.lists l); listed = some-list (slice_get u.pools.lists l) (part-Tree-l u.pools (nodes u) l h.1); fields = part-Tree-fields u.pools (nodes u) l h.1; trees = refl }

fields-same : (a b : FieldTrees) → t.tree a ≡ t.tree b → a ≡ b
fields-same a b e = cc

pub tree-list-is : (u : Listing) (n l : ℕ) (fs : FieldTrees) → Shaped u n (s.Tree l) → IsFormula u n (t.tree fs) → IsList u l fs
unfolding shape_tree
tree-list-is u n l fs h e = subst (λ (gs : FieldTrees). IsList u l gs) (fields-same (list_at u l) fs (formula-same (slice_get (nodes u) n) (t.tree (list_at u l)) (t.tree fs) h.0 e)) (tree-list u n l h)

-- The goals that were added so far: all of them are `total` with those that the fields from a place on give.
pub record Adding (u : Listing) (made : List ℕ) (give : FieldTrees → List FormulaTree) (left : FieldTrees) (total : List FormulaTree) : Type 0 where
  pub done : List FormulaTree
  pub paired : ArePaired (IsFormula u) made done
  pub is : done ++ give left ≡ total

pub adding-end : (u : Listing) (made : List ℕ) (give : FieldTrees → List FormulaTree) (left : FieldTrees) (total : List FormulaTree) → give t.none ≡ [] → left ≡ t.none → Adding u made give left total → ArePaired (IsFormula u) made total
adding-end u made give left total none e h = subst (λ (gs : List FormulaTree). ArePaired (IsFormula u) made gs) (sym (append-nil h.done) ∙ ap (λ gs. h.done ++ gs) (sym (ap give e ∙ none)) ∙ h.is) h.paired

pub adding-one : (t0 u : Listing) (made new : List ℕ) (give : FieldTrees → List FormulaTree) (left rest : FieldTrees) (f : FieldTree) (goal : ℕ) (g : FormulaTree) (total : List FormulaTree) → Extends t0 u → left ≡ t.more f rest → give (t.more f rest) ≡ g ∷ give rest →
    IsFormula u goal g → new ≡ made ++ goal ∷ [] → Adding t0 made give left total → Adding u new give rest total
adding-one t0 u made new give left rest f goal g total grows e step is more h = record {
  done = h.done ++ g ∷ [];
  paired = subst (λ (ms : List ℕ). ArePaired (IsFormula u) ms (h.done ++ g ∷ [])) (sym more) (paired-push (IsFormula u) made h.done goal g (paired-grows (IsFormula t0) (IsFormula u) (λ n a k. grows.nodes.keeps n (of_truth a) k) made h.done h.paired) is);
  is = append_assoc h.done (g ∷ []) (give rest) ∙ ap (λ gs. h.done ++ gs) (sym (ap give e ∙ step)) ∙ h.is;
}

pub adding-many : (t0 u : Listing) (made new : List ℕ) (give : FieldTrees → List FormulaTree) (left rest : FieldTrees) (f : FieldTree) (more : List FormulaTree) (total : List FormulaTree) → left ≡ t.more f rest → give (t.more f rest) ≡ more ++ give rest →
    (h : Adding t0 made give left total) → (ArePaired (IsFormula t0) made h.done → ArePaired (IsFormula u) new (h.done ++ more)) → Adding u new give rest total
adding-many t0 u made new give left rest f more total e step h there = record {
  done = h.done ++ more;
  paired = there h.paired;
  is = append_assoc h.done more (give rest) ∙ ap (λ gs. h.done ++ gs) (sym (ap give e ∙ step)) ∙ h.is;
}
