-- What loops make, as their invariants say it.
use Rattle.std.proofs.Common.{◌≡◌, refl, sym, ap, subst, ◌∙◌, ℕ, suc, ◌+◌, ◌<◌, ◌≤◌, true, ◌&&◌, List, [], ◌∷◌, ◌++◌, map, length, drop, get_or, slice_get, Option, Some, None, add-one, drop-cons}
use Rattle.std.specs.Borrow.{Bor}
use Rattle.std.specs.Option.{option_map_or}
use Rattle.std.proofs.lemmas.Bool.{true≢false}
use Rattle.std.proofs.lemmas.List.{drop_all}
use Rattle.jh_ast.specs.declared.word.Word.{Word}
use Rattle.jh_ast.specs.declared.spec.SpecTree.{SpecTree}
use Rattle.jh_ast.specs.Bare.{form_tree, form_trees}
use Rattle.jh_ast.specs.Forms as f
use Rattle.jh_form.specs.Tree.{ValueTree, FormulaTree, SetTree, FieldTree, FieldTrees, of_set, of_field, of_truth}
use Rattle.jh_form.specs.Tree as t
use Rattle.jh_form.proofs.ClosedLemmas.{both-left, both-right}
use Rattle.jh_arena.specs.table.Entries.{Listing, is_set, the_set, the_value, is_field, the_field, are_fields, fields_at}
use Rattle.jh_arena.specs.table.Growth.{Extends}
use Rattle.jh_arena.specs.table.Nodes.{nodes}
use Rattle.jh_arena.proofs.table.Growing.{fields-stay, are_fields-stay}
use Rattle.jh_rules.specs.Words.{text_of}
use Rattle.jh_symbols.specs.scopes.Lookings.{declared_by}
use Rattle.jh_vars.specs.Resolved.{quantified, with_single, as_object, field_list, union_of}
use Rattle.jh_vars.specs.Resolved as r
use Rattle.jh_resolution.specs.declared.context.Context.{Context}
use Rattle.jh_resolution.specs.declared.context.Spot as context
use Rattle.jh_resolution.specs.Meant.{meaning_in, AreHeld}
use Rattle.jh_resolution.specs.Spots.{texts_of, spot_of, spelled_by, fields_in, field_in, union_in, value_in, set_at, SetsStand}
use Rattle.jh_resolution.proofs.Meant.{meaning-grows}

-- one more quantifier
pub quantified-more : (q : FormulaTree → FormulaTree) (n : ℕ) (a : FormulaTree) → q (quantified q n a) ≡ quantified q (n + 1) a
unfolding quantified
quantified-more q n a = ap (λ m. quantified q m a) (sym (add-one n))

-- words behind others
pub words-more : (made more : List (Bor Word)) (w : Bor Word) (ws : List Word) (j : ℕ) (v : Word) (all : List (List ℕ)) → j < length ws → v ≡ get_or ws j v → w.now ≡ v → more ≡ made ++ w ∷ [] →
    texts_of made ++ map text_of (drop j ws) ≡ all → texts_of more ++ map text_of (drop (j + 1) ws) ≡ all
words-more made more w ws j v all lt e here p h =
    ap (λ us. texts_of us ++ map text_of (drop (j + 1) ws)) p
    ∙ texts-push made w (map text_of (drop (j + 1) ws))
    ∙ (λ i. texts_of made ++ text_of (here i) ∷ map text_of (drop (add-one j i) ws))
    ∙ ap (λ us. texts_of made ++ map text_of us) (sym (drop-cons ws j v lt ∙ ap (λ u. u ∷ drop (suc j) ws) (sym e)))
    ∙ h
  where
    texts-push : (us : List (Bor Word)) (u : Bor Word) (rest : List (List ℕ)) → texts_of (us ++ u ∷ []) ++ rest ≡ texts_of us ++ text_of u.now ∷ rest
    texts-push [] u rest = refl
    texts-push (x ∷ us) u rest = ap (λ ys. text_of x.now ∷ ys) (texts-push us u rest)

append-none : (xs : List (List ℕ)) → xs ++ [] ≡ xs
append-none [] = refl
append-none (x ∷ xs) = ap (λ ys. x ∷ ys) (append-none xs)

pub words-end : (made : List (Bor Word)) (ws : List Word) (j : ℕ) (all : List (List ℕ)) → length ws ≤ j → texts_of made ++ map text_of (drop j ws) ≡ all → texts_of made ≡ all
words-end made ws j all le h = sym (append-none (texts_of made)) ∙ sym (ap (λ us. texts_of made ++ map text_of us) (drop_all j ws le)) ∙ h

-- one list of fields before another
unfoldable pub before : FieldTrees → FieldTrees → FieldTrees
before t.none gs = gs
before (t.more f fs) gs = t.more f (before fs gs)

before-none : (fs : FieldTrees) → before fs t.none ≡ fs
unfolding before
before-none t.none = refl
before-none (t.more f fs) = ap (t.more f) (before-none fs)

-- The fields made so far, with those of the words that are left, are all.
pub record Making (l : Listing) (made : List ℕ) (left all : FieldTrees) : Type 0 where
  pub fields : are_fields (nodes l) made ≡ true
  pub trees : before (fields_at (nodes l) made) left ≡ all

pub making-start : (l : Listing) (made : List ℕ) (all : FieldTrees) → made ≡ [] → Making l made all all
unfolding are_fields fields_at before
making-start l made all e = record { fields = ap (are_fields (nodes l)) e; trees = ap (λ ns. before (fields_at (nodes l) ns) all) e }

are-push : (ts : List ValueTree) (ns : List ℕ) (n : ℕ) (a : FieldTree) → are_fields ts ns ≡ true → slice_get ts n ≡ Some (of_field a) → are_fields ts (ns ++ n ∷ []) ≡ true
unfolding are_fields is_field
are-push ts [] n a h e = λ i. is_field (e i) && true
are-push ts (m ∷ ns) n a h e = λ i. both-left (is_field (slice_get ts m)) (are_fields ts ns) h i && are-push ts ns n a (both-right (is_field (slice_get ts m)) (are_fields ts ns) h) e i

at-push : (ts : List ValueTree) (ns : List ℕ) (n : ℕ) (a : FieldTree) (left : FieldTrees) → slice_get ts n ≡ Some (of_field a) → before (fields_at ts (ns ++ n ∷ [])) left ≡ before (fields_at ts ns) (t.more a left)
unfolding fields_at before the_field
at-push ts [] n a left e = λ i. t.more (the_field (e i)) left
at-push ts (m ∷ ns) n a left e = ap (t.more (the_field (slice_get ts m))) (at-push ts ns n a left e)

module _ (x : Context) (at : context.Spot) (ws : List Word) where
  fields-split : (j : ℕ) (w : Word) → j < length ws → w ≡ get_or ws j w → fields_in x at (drop j ws) ≡ t.more (t.free_field (field_in x at w)) (fields_in x at (drop (j + 1) ws))
  unfolding field_list
  fields-split j w lt e = rw add-one (ap (fields_in x at) (drop-cons ws j w lt) ∙ ap (λ v. t.more (t.free_field (field_in x at v)) (fields_in x at (drop (suc j) ws))) (sym e))

  pub making-step : (l m : Listing) (made more : List ℕ) (n j : ℕ) (w : Word) (all : FieldTrees) → Making l made (fields_in x at (drop j ws)) all → Extends l m → slice_get (nodes m) n ≡ Some (of_field (t.free_field (field_in x at w))) → more ≡ made ++ n ∷ [] → j < length ws → w ≡ get_or ws j w → Making m more (fields_in x at (drop (j + 1) ws)) all
  making-step l m made more n j w all h g e p lt is =
      let a = t.free_field (field_in x at w) in
      let still : are_fields (nodes m) made ≡ true = are_fields-stay l.pools m.pools (nodes l) (nodes m) g.names g.marks g.lists g.nodes made h.fields ∙ h.fields in
      let same : fields_at (nodes m) made ≡ fields_at (nodes l) made = fields-stay l.pools m.pools (nodes l) (nodes m) g.names g.marks g.lists g.nodes made h.fields in
      let rest = fields_in x at (drop (j + 1) ws) in
      record {
        fields = ap (are_fields (nodes m)) p ∙ are-push (nodes m) made n a still e;
        trees =
            ap (λ ns. before (fields_at (nodes m) ns) rest) p
            ∙ at-push (nodes m) made n a rest e
            ∙ ap (λ gs. before gs (t.more a rest)) same
            ∙ ap (before (fields_at (nodes l) made)) (sym (fields-split j w lt is))
            ∙ h.trees;
      }

  pub making-end : (l : Listing) (made : List ℕ) (j : ℕ) (all : FieldTrees) → Making l made (fields_in x at (drop j ws)) all → length ws ≤ j → fields_at (nodes l) made ≡ all
  unfolding field_list
  making-end l made j all h past = sym (before-none (fields_at (nodes l) made)) ∙ ap (before (fields_at (nodes l) made)) (sym (ap (fields_in x at) (drop_all j ws past))) ∙ h.trees

-- sets that are made
pub set-there : (o : Option ValueTree) → is_set o ≡ true → o ≡ Some (of_set (the_set o))
unfolding is_set the_set
set-there (Some (of_set a)) h = refl
set-there _ h = absurd (true≢false (sym h))

pub set-known : (o : Option ValueTree) (s : SetTree) → o ≡ Some (of_set s) → the_set o ≡ s
unfolding the_set
set-known o s e = ap the_set e

pub is-set-known : (o : Option ValueTree) (s : SetTree) → o ≡ Some (of_set s) → is_set o ≡ true
unfolding is_set
is-set-known o s e = ap is_set e

pub sets-stand : (ts : List ValueTree) (made : Option ℕ) (n : ℕ) → made ≡ Some n → SetsStand ts made → slice_get ts n ≡ Some (of_set (the_set (slice_get ts n)))
sets-stand ts made n e h = set-there (slice_get ts n) (subst (λ (o : Option ℕ). SetsStand ts o) e h)

pub sets-grow : (l m : Listing) (made : Option ℕ) → Extends l m → SetsStand (nodes l) made → SetsStand (nodes m) made
sets-grow l m None g h = h
sets-grow l m (Some n) g h = is-set-known (slice_get (nodes m) n) (the_set (slice_get (nodes l) n)) (g.nodes.keeps n (of_set (the_set (slice_get (nodes l) n))) (set-there (slice_get (nodes l) n) h))

set-grows : (l m : Listing) (made : Option ℕ) → Extends l m → SetsStand (nodes l) made → set_at (nodes m) made ≡ set_at (nodes l) made
set-grows l m None g h = refl
set-grows l m (Some n) g h = ap Some (set-known (slice_get (nodes m) n) (the_set (slice_get (nodes l) n)) (g.nodes.keeps n (of_set (the_set (slice_get (nodes l) n))) (set-there (slice_get (nodes l) n) h)))

value-known : (o : Option ValueTree) (v : ValueTree) → o ≡ Some v → the_value o ≡ v
unfolding the_value
value-known o v e = ap the_value e

module _ (x : Context) (at : context.Spot) (fs : List SpecTree) where
  -- with other meanings that are the same
  union-meant : (us ts : List ValueTree) (left : f.FormTrees) (made : Option SetTree) → meaning_in us x.meanings.now ≡ meaning_in ts x.meanings.now → union_in us x at left made ≡ union_in ts x at left made
  union-meant us ts left made e = λ i. union_of (declared_by x.lookups.now) (spelled_by x.classes.now) (e i) left (spot_of at) made

  -- one more member
  pub union-step : (l m n : Listing) (made : Option ℕ) (member j more : ℕ) (a : SpecTree) → Extends l m → Extends m n → AreHeld (nodes l) x.meanings.now → AreHeld (nodes m) x.meanings.now → SetsStand (nodes l) made →
      slice_get (nodes m) member ≡ Some (value_in (nodes m) x at (form_tree a)) →
      slice_get (nodes n) more ≡ Some (of_set (with_single (set_at (nodes m) made) (as_object (the_value (slice_get (nodes m) member))))) →
      j < length fs → a ≡ get_or fs j a →
      union_in (nodes l) x at (form_trees fs) None ≡ union_in (nodes l) x at (form_trees (drop j fs)) (set_at (nodes l) made) →
      union_in (nodes n) x at (form_trees fs) None ≡ union_in (nodes n) x at (form_trees (drop (j + 1) fs)) (set_at (nodes n) (Some more))
  unfolding union_of
  union-step l m n made member j more a g h held held-m stands is next lt e whole =
      let mean-m : meaning_in (nodes m) x.meanings.now ≡ meaning_in (nodes l) x.meanings.now = meaning-grows l m x.meanings.now g held in
      let mean-n : meaning_in (nodes n) x.meanings.now ≡ meaning_in (nodes m) x.meanings.now = meaning-grows m n x.meanings.now h held-m in
      let first : the_value (slice_get (nodes m) member) ≡ value_in (nodes n) x at (form_tree a) =
      value-known (slice_get (nodes m) member) (value_in (nodes m) x at (form_tree a)) is
      ∙ (λ i. r.resolved (declared_by x.lookups.now) (spelled_by x.classes.now) (sym mean-n i) (form_tree a) (spot_of at)) in
      let split : drop j fs ≡ a ∷ drop (suc j) fs = drop-cons fs j a lt ∙ ap (λ v. v ∷ drop (suc j) fs) (sym e) in
      let made-n : set_at (nodes n) (Some more) ≡ Some (with_single (set_at (nodes l) made) (as_object (value_in (nodes n) x at (form_tree a)))) =
      ap Some (set-known (slice_get (nodes n) more) (with_single (set_at (nodes m) made) (as_object (the_value (slice_get (nodes m) member)))) next)
      ∙ (λ i. Some (with_single (set-grows l m made g stands i) (as_object (first i)))) in
      union-meant (nodes n) (nodes l) (form_trees fs) None (mean-n ∙ mean-m)
      ∙ whole
      ∙ union-meant (nodes l) (nodes n) (form_trees (drop j fs)) (set_at (nodes l) made) (sym (mean-n ∙ mean-m))
      ∙ ap (λ us. union_in (nodes n) x at (form_trees us) (set_at (nodes l) made)) split
      ∙ (λ i. union_in (nodes n) x at (form_trees (drop (sym (add-one j) i) fs)) (sym made-n i))

  pub union-end : (l n : Listing) (made : Option ℕ) (j : ℕ) → Extends l n → AreHeld (nodes l) x.meanings.now → length fs ≤ j →
      union_in (nodes l) x at (form_trees fs) None ≡ union_in (nodes l) x at (form_trees (drop j fs)) (set_at (nodes l) made) →
      option_map_or (λ s. s) (set_at (nodes l) made) t.empty ≡ union_in (nodes n) x at (form_trees fs) None
  unfolding union_of
  union-end l n made j g held le whole =
      sym (union-meant (nodes n) (nodes l) (form_trees fs) None (meaning-grows l n x.meanings.now g held) ∙ whole ∙ ap (λ us. union_in (nodes l) x at (form_trees us) (set_at (nodes l) made)) (drop_all j fs le))
