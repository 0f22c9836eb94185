-- Lists of fields that are entered one after another.
use Rattle.std.proofs.Common.{◌≡◌, refl, sym, ap, ◌∙◌, ℕ, ◌+◌, ◌<◌, ◌≤◌, true, ◌&&◌, List, [], ◌∷◌, ◌++◌, length, slice_get, Some, Ok, Err, drop, get_or, subst}
use Rattle.std.specs.Prelude.{Result, IfOk}
use Rattle.jh_name.specs.declared.memory.NoMemory.{NoMemory}
use Rattle.jh_form.specs.declared.form.FieldTerm.{FieldTerm}
use Rattle.jh_form.specs.Bare.{field_tree, list_tree}
use Rattle.jh_form.specs.Tree.{TermTree, FieldTree, FieldTrees, ValueTree, of_object, of_truth, of_field}
use Rattle.jh_form.specs.Tree as t
use Rattle.jh_form.proofs.ClosedLemmas.{both-left, both-right}
use Rattle.jh_arena.proofs.of_jh_boxed.Rows.{rest_at, rest_end}
use Rattle.jh_arena.specs.declared.table.shapes.Shape.TheVariants as s
use Rattle.jh_arena.specs.table.Entries.{Listing, is_field, the_field, are_fields, fields_at}
use Rattle.jh_arena.specs.table.Nodes.{nodes, fits_in, tree_in}
use Rattle.jh_arena.specs.table.Growth.{Extends}
use Rattle.jh_arena.proofs.table.NodeSteps.{fits-Reach, tree-Reach, fits-Tree, tree-Tree}
use Rattle.jh_arena.proofs.table.Growing.{fields-stay, are_fields-stay}
use Rattle.jh_import.specs.entering.Entered.{IsList}

pub fits-listed-Reach : (table : Listing) (l a b : ℕ) (fs : FieldTrees) (u v : TermTree) → IsList table l fs → slice_get (nodes table) a ≡ Some (of_object u) → slice_get (nodes table) b ≡ Some (of_object v) → fits_in table (s.Reach l a b) ≡ true
fits-listed-Reach table l a b fs u v h ha hb = fits-Reach table.pools (nodes table) l a b h.items fs u v h.listed h.fields h.trees ha hb

pub tree-listed-Reach : (table : Listing) (l a b : ℕ) (fs : FieldTrees) (u v : TermTree) → IsList table l fs → slice_get (nodes table) a ≡ Some (of_object u) → slice_get (nodes table) b ≡ Some (of_object v) → tree_in table (s.Reach l a b) ≡ of_truth (t.reach fs u v)
tree-listed-Reach table l a b fs u v h ha hb = tree-Reach table.pools (nodes table) l a b h.items fs u v h.listed h.fields h.trees ha hb

pub fits-listed-Tree : (table : Listing) (l : ℕ) (fs : FieldTrees) → IsList table l fs → fits_in table (s.Tree l) ≡ true
fits-listed-Tree table l fs h = fits-Tree table.pools (nodes table) l h.items fs h.listed h.fields h.trees

pub tree-listed-Tree : (table : Listing) (l : ℕ) (fs : FieldTrees) → IsList table l fs → tree_in table (s.Tree l) ≡ of_truth (t.tree fs)
tree-listed-Tree table l fs h = tree-Tree table.pools (nodes table) l h.items fs h.listed h.fields h.trees

-- one list of fields before another
unfoldable pub followed : FieldTrees → FieldTrees → FieldTrees
followed t.none gs = gs
followed (t.more f fs) gs = t.more f (followed fs gs)

followed-none : (fs : FieldTrees) → followed fs t.none ≡ fs
unfolding followed
followed-none t.none = refl
followed-none (t.more f fs) = ap (t.more f) (followed-none fs)

-- The fields made so far, with those that are left, are all.
pub record Entering (table : Listing) (made : List ℕ) (left all : FieldTrees) : Type 0 where
  pub fields : are_fields (nodes table) made ≡ true
  pub trees : followed (fields_at (nodes table) made) left ≡ all

pub entering-start : (table : Listing) (made : List ℕ) (all : FieldTrees) → made ≡ [] → Entering table made all all
unfolding are_fields fields_at followed
entering-start table made all e = record { fields = ap (are_fields (nodes table)) e; trees = ap (λ ns. followed (fields_at (nodes table) ns) all) e }

are_fields-push : (ts : List ValueTree) (ns : List ℕ) (n : ℕ) (f : FieldTree) → are_fields ts ns ≡ true → slice_get ts n ≡ Some (of_field f) → are_fields ts (ns ++ n ∷ []) ≡ true
unfolding are_fields is_field
are_fields-push ts [] n f h e = λ i. is_field (e i) && true
are_fields-push ts (m ∷ ns) n f h e = λ i. both-left (is_field (slice_get ts m)) (are_fields ts ns) h i && are_fields-push ts ns n f (both-right (is_field (slice_get ts m)) (are_fields ts ns) h) e i

fields_at-push : (ts : List ValueTree) (ns : List ℕ) (n : ℕ) (f : FieldTree) (left : FieldTrees) → slice_get ts n ≡ Some (of_field f) → followed (fields_at ts (ns ++ n ∷ [])) left ≡ followed (fields_at ts ns) (t.more f left)
unfolding fields_at followed the_field
fields_at-push ts [] n f left e = λ i. t.more (the_field (e i)) left
fields_at-push ts (m ∷ ns) n f left e = ap (t.more (the_field (slice_get ts m))) (fields_at-push ts ns n f left e)

pub entering-step : (table u : Listing) (made more : List ℕ) (n : ℕ) (fs : List FieldTerm) (j : ℕ) (f : FieldTerm) (all : FieldTrees) → Entering table made (list_tree (drop j fs)) all → Extends table u → slice_get (nodes u) n ≡ Some (of_field (field_tree f)) → more ≡ made ++ n ∷ [] → j < length fs → f ≡ get_or fs j f → Entering u more (list_tree (drop (j + 1) fs)) all
entering-step table u made more n fs j f all h g e p lt at =
    let still : are_fields (nodes u) made ≡ true = are_fields-stay table.pools u.pools (nodes table) (nodes u) g.names g.marks g.lists g.nodes made h.fields ∙ h.fields in
    let same : fields_at (nodes u) made ≡ fields_at (nodes table) made = fields-stay table.pools u.pools (nodes table) (nodes u) g.names g.marks g.lists g.nodes made h.fields in
    let rest = list_tree (drop (j + 1) fs) in
    record {
      fields = ap (are_fields (nodes u)) p ∙ are_fields-push (nodes u) made n (field_tree f) still e;
      trees =
          ap (λ ns. followed (fields_at (nodes u) ns) rest) p
          ∙ fields_at-push (nodes u) made n (field_tree f) rest e
          ∙ ap (λ gs. followed gs (t.more (field_tree f) rest)) same
          ∙ ap (followed (fields_at (nodes table) made)) (sym (rest_at fs j f lt at))
          ∙ h.trees;
    }

pub entering-end : (table u : Listing) (made : List ℕ) (fs : List FieldTerm) (j number : ℕ) (all : FieldTrees) → Entering table made (list_tree (drop j fs)) all → length fs ≤ j → nodes u ≡ nodes table → slice_get u.pools.lists number ≡ Some made → IsList u number all
entering-end table u made fs j number all h past same at = record {
  items = made;
  listed = at;
  fields = ap (λ ts. are_fields ts made) same ∙ h.fields;
  trees = ap (λ ts. fields_at ts made) same ∙ sym (followed-none (fields_at (nodes table) made)) ∙ ap (followed (fields_at (nodes table) made)) (sym (rest_end fs j past)) ∙ h.trees;
}

pub made-as : (ts : List ValueTree) (r : Result ℕ NoMemory) (v w : ValueTree) → v ≡ w → IfOk r (λ n. slice_get ts n ≡ Some v) → IfOk r (λ n. slice_get ts n ≡ Some w)
made-as ts r v w e h = subst (λ (z : ValueTree). IfOk r (λ n. slice_get ts n ≡ Some z)) e h

pub listed-as : (table u : Listing) (r : Result ℕ NoMemory) (made shown : List ℕ) (fs : List FieldTerm) (j : ℕ) (all : FieldTrees) → Entering table made (list_tree (drop j fs)) all → length fs ≤ j → nodes u ≡ nodes table → shown ≡ made → IfOk r (λ number. slice_get u.pools.lists number ≡ Some shown) → IfOk r (λ number. IsList u number all)
listed-as table u (Ok number) made shown fs j all h past same e at = entering-end table u made fs j number all h past same (at ∙ ap (λ ns. Some ns) e)
listed-as table u (Err e) made shown fs j all h past same k at = tt
