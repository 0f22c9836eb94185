-- Written by tools/carry.py.
-- A shape over the carried parts is the tree that it was over the parts.
use Rattle.std.proofs.Common.{◌≡◌, refl, sym, ap, ◌∙◌, ℕ, Bool, true, false, ◌&&◌, List, [], ◌∷◌, slice_get, slice_index, Some, is_some}
use Rattle.std.proofs.lemmas.Bool.{true≢false}
use Rattle.jh_form.specs.Tree.{ValueTree, of_object, of_number, of_truth, of_set, of_field, more}
use Rattle.jh_form.specs.Tree as t
use Rattle.jh_arena.specs.table.Entries.{Pools, the_name, the_mark, the_list, is_object, is_number, is_truth, is_set, is_field, the_object, the_number, the_truth, the_set, the_field, the_value, are_fields, fields_at}
use Rattle.jh_arena.specs.table.Nodes.{fits, shape_tree}
use Rattle.jh_arena.specs.table.Parts.{own_parts, list_parts, has_list, put}
use Rattle.jh_arena.specs.declared.table.shapes.Shape.{Shape}
use Rattle.jh_arena.specs.declared.table.shapes.Shape.TheVariants as s
use Rattle.jh_import.specs.carrying.Carried.{AllCarried, HasEntry, renamed}

without-two : (a b : Bool) → (a && b) ≡ true → (true && b) ≡ true
without-two true b h = h
without-two false b h = absurd (true≢false (sym h))

without-four : (a b c d : Bool) → (((a && b) && c) && d) ≡ true → (((true && b) && c) && d) ≡ true
without-four true b c d h = h
without-four false b c d h = absurd (true≢false (sym h))

module _ (ts us : List ValueTree) where
  first : (a : ℕ) (ps rs : List ℕ) → AllCarried ts us (a ∷ ps) rs → slice_get us (slice_index rs 0) ≡ slice_get ts a
  first a ps [] h = absurd h
  first a ps (n ∷ rs) h = h.0.is

  second : (a b : ℕ) (ps rs : List ℕ) → AllCarried ts us (a ∷ b ∷ ps) rs → slice_get us (slice_index rs 1) ≡ slice_get ts b
  second a b ps [] h = absurd h
  second a b ps (n ∷ rs) h = first b ps rs h.1

  third : (a b c : ℕ) (ps rs : List ℕ) → AllCarried ts us (a ∷ b ∷ c ∷ ps) rs → slice_get us (slice_index rs 2) ≡ slice_get ts c
  third a b c ps [] h = absurd h
  third a b c ps (n ∷ rs) h = second b c ps rs h.1

  fields-fit : (ns fs : List ℕ) → AllCarried ts us ns fs → are_fields us fs ≡ are_fields ts ns
  unfolding are_fields
  fields-fit [] [] h = refl
  fields-fit [] (n ∷ fs) h = absurd h
  fields-fit (k ∷ ns) [] h = absurd h
  fields-fit (k ∷ ns) (n ∷ fs) h = λ i. is_field (h.0.is i) && fields-fit ns fs h.1 i

  fields-are : (ns fs : List ℕ) → AllCarried ts us ns fs → fields_at us fs ≡ fields_at ts ns
  unfolding fields_at
  fields-are [] [] h = refl
  fields-are [] (n ∷ fs) h = absurd h
  fields-are (k ∷ ns) [] h = absurd h
  fields-are (k ∷ ns) (n ∷ fs) h = λ i. more (the_field (h.0.is i)) (fields-are ns fs h.1 i)

module _ (p q : Pools) (ts us : List ValueTree) (number list : ℕ) where
  pub placed-fits : (x : Shape) (own fields : List ℕ) → fits p ts x ≡ true → HasEntry p q number x → (has_list x ≡ true → slice_get q.lists list ≡ Some fields) → AllCarried ts us (list_parts p.lists x) fields → AllCarried ts us (own_parts x) own → fits q us (put list own (renamed number x)) ≡ true
  unfolding fits shape_tree own_parts list_parts has_list put renamed HasEntry the_list
  placed-fits (s.Bound k) own fields h e listed fs os = h
  placed-fits (s.FreeObject n) own fields h e listed fs os = (λ i. is_some (e i)) ∙ h
  placed-fits s.Null own fields h e listed fs os = h
  placed-fits (s.ReadObject a b) own fields h e listed fs os = (λ i. is_field (first ts us a (b ∷ []) own os i) && is_object (second ts us a b ([]) own os i)) ∙ h
  placed-fits (s.Const z) own fields h e listed fs os = h
  placed-fits (s.FreeNumber n) own fields h e listed fs os = (λ i. is_some (e i)) ∙ h
  placed-fits (s.ReadNumber a b) own fields h e listed fs os = (λ i. is_field (first ts us a (b ∷ []) own os i) && is_object (second ts us a b ([]) own os i)) ∙ h
  placed-fits (s.Add a b) own fields h e listed fs os = (λ i. is_number (first ts us a (b ∷ []) own os i) && is_number (second ts us a b ([]) own os i)) ∙ h
  placed-fits (s.Sub a b) own fields h e listed fs os = (λ i. is_number (first ts us a (b ∷ []) own os i) && is_number (second ts us a b ([]) own os i)) ∙ h
  placed-fits (s.Neg a) own fields h e listed fs os = (λ i. is_number (first ts us a ([]) own os i)) ∙ h
  placed-fits (s.Scale z a) own fields h e listed fs os = (λ i. is_number (first ts us a ([]) own os i)) ∙ h
  placed-fits (s.Card a) own fields h e listed fs os = (λ i. is_set (first ts us a ([]) own os i)) ∙ h
  placed-fits (s.FreeSet n) own fields h e listed fs os = (λ i. is_some (e i)) ∙ h
  placed-fits (s.ReadSet a b) own fields h e listed fs os = (λ i. is_field (first ts us a (b ∷ []) own os i) && is_object (second ts us a b ([]) own os i)) ∙ h
  placed-fits s.Empty own fields h e listed fs os = h
  placed-fits s.Univ own fields h e listed fs os = h
  placed-fits (s.Single a) own fields h e listed fs os = (λ i. is_object (first ts us a ([]) own os i)) ∙ h
  placed-fits (s.Union a b) own fields h e listed fs os = (λ i. is_set (first ts us a (b ∷ []) own os i) && is_set (second ts us a b ([]) own os i)) ∙ h
  placed-fits (s.Inter a b) own fields h e listed fs os = (λ i. is_set (first ts us a (b ∷ []) own os i) && is_set (second ts us a b ([]) own os i)) ∙ h
  placed-fits (s.Diff a b) own fields h e listed fs os = (λ i. is_set (first ts us a (b ∷ []) own os i) && is_set (second ts us a b ([]) own os i)) ∙ h
  placed-fits (s.Compl a) own fields h e listed fs os = (λ i. is_set (first ts us a ([]) own os i)) ∙ h
  placed-fits (s.Compr a) own fields h e listed fs os = (λ i. is_truth (first ts us a ([]) own os i)) ∙ h
  placed-fits (s.FreeField n) own fields h e listed fs os = (λ i. is_some (e i)) ∙ h
  placed-fits (s.Update a b c) own fields h e listed fs os = (λ i. (is_field (first ts us a (b ∷ c ∷ []) own os i) && is_object (second ts us a b (c ∷ []) own os i)) && is_some (third ts us a b c ([]) own os i)) ∙ h
  placed-fits s.True own fields h e listed fs os = h
  placed-fits s.False own fields h e listed fs os = h
  placed-fits (s.FreeTruth n) own fields h e listed fs os = (λ i. is_some (e i)) ∙ h
  placed-fits (s.ReadTruth a b) own fields h e listed fs os = (λ i. is_field (first ts us a (b ∷ []) own os i) && is_object (second ts us a b ([]) own os i)) ∙ h
  placed-fits (s.Negation a) own fields h e listed fs os = (λ i. is_truth (first ts us a ([]) own os i)) ∙ h
  placed-fits (s.And a b) own fields h e listed fs os = (λ i. is_truth (first ts us a (b ∷ []) own os i) && is_truth (second ts us a b ([]) own os i)) ∙ h
  placed-fits (s.Or a b) own fields h e listed fs os = (λ i. is_truth (first ts us a (b ∷ []) own os i) && is_truth (second ts us a b ([]) own os i)) ∙ h
  placed-fits (s.Implies a b) own fields h e listed fs os = (λ i. is_truth (first ts us a (b ∷ []) own os i) && is_truth (second ts us a b ([]) own os i)) ∙ h
  placed-fits (s.Iff a b) own fields h e listed fs os = (λ i. is_truth (first ts us a (b ∷ []) own os i) && is_truth (second ts us a b ([]) own os i)) ∙ h
  placed-fits (s.All a) own fields h e listed fs os = (λ i. is_truth (first ts us a ([]) own os i)) ∙ h
  placed-fits (s.Ex a) own fields h e listed fs os = (λ i. is_truth (first ts us a ([]) own os i)) ∙ h
  placed-fits (s.EqObject a b) own fields h e listed fs os = (λ i. is_object (first ts us a (b ∷ []) own os i) && is_object (second ts us a b ([]) own os i)) ∙ h
  placed-fits (s.EqNumber a b) own fields h e listed fs os = (λ i. is_number (first ts us a (b ∷ []) own os i) && is_number (second ts us a b ([]) own os i)) ∙ h
  placed-fits (s.EqSet a b) own fields h e listed fs os = (λ i. is_set (first ts us a (b ∷ []) own os i) && is_set (second ts us a b ([]) own os i)) ∙ h
  placed-fits (s.Less a b) own fields h e listed fs os = (λ i. is_number (first ts us a (b ∷ []) own os i) && is_number (second ts us a b ([]) own os i)) ∙ h
  placed-fits (s.LessEqual a b) own fields h e listed fs os = (λ i. is_number (first ts us a (b ∷ []) own os i) && is_number (second ts us a b ([]) own os i)) ∙ h
  placed-fits (s.Divides z a) own fields h e listed fs os = (λ i. is_number (first ts us a ([]) own os i)) ∙ h
  placed-fits (s.Member a b) own fields h e listed fs os = (λ i. is_object (first ts us a (b ∷ []) own os i) && is_set (second ts us a b ([]) own os i)) ∙ h
  placed-fits (s.Subset a b) own fields h e listed fs os = (λ i. is_set (first ts us a (b ∷ []) own os i) && is_set (second ts us a b ([]) own os i)) ∙ h
  placed-fits (s.Reach l a b) own fields h e listed fs os = (λ i. ((is_some (listed refl i) && (ap (λ o. are_fields us (the_list o)) (listed refl) ∙ fields-fit ts us (the_list (slice_get p.lists l)) fields fs) i) && is_object (first ts us a (b ∷ []) own os i)) && is_object (second ts us a b ([]) own os i)) ∙ without-four (is_some (slice_get p.lists l)) (are_fields ts (the_list (slice_get p.lists l))) (is_object (slice_get ts a)) (is_object (slice_get ts b)) h
  placed-fits (s.Tree l) own fields h e listed fs os = (λ i. is_some (listed refl i) && (ap (λ o. are_fields us (the_list o)) (listed refl) ∙ fields-fit ts us (the_list (slice_get p.lists l)) fields fs) i) ∙ without-two (is_some (slice_get p.lists l)) (are_fields ts (the_list (slice_get p.lists l))) h
  placed-fits (s.Mark m a) own fields h e listed fs os = (λ i. is_some (e i) && is_truth (first ts us a ([]) own os i)) ∙ h

  pub placed-tree : (x : Shape) (own fields : List ℕ) → fits p ts x ≡ true → HasEntry p q number x → (has_list x ≡ true → slice_get q.lists list ≡ Some fields) → AllCarried ts us (list_parts p.lists x) fields → AllCarried ts us (own_parts x) own → shape_tree q us (put list own (renamed number x)) ≡ shape_tree p ts x
  unfolding fits shape_tree own_parts list_parts has_list put renamed HasEntry the_list
  placed-tree (s.Bound k) own fields h e listed fs os = refl
  placed-tree (s.FreeObject n) own fields h e listed fs os = λ i. of_object (t.free_object (the_name (e i)))
  placed-tree s.Null own fields h e listed fs os = refl
  placed-tree (s.ReadObject a b) own fields h e listed fs os = λ i. of_object (t.read_object (the_field (first ts us a (b ∷ []) own os i)) (the_object (second ts us a b ([]) own os i)))
  placed-tree (s.Const z) own fields h e listed fs os = refl
  placed-tree (s.FreeNumber n) own fields h e listed fs os = λ i. of_number (t.free_number (the_name (e i)))
  placed-tree (s.ReadNumber a b) own fields h e listed fs os = λ i. of_number (t.read_number (the_field (first ts us a (b ∷ []) own os i)) (the_object (second ts us a b ([]) own os i)))
  placed-tree (s.Add a b) own fields h e listed fs os = λ i. of_number (t.add (the_number (first ts us a (b ∷ []) own os i)) (the_number (second ts us a b ([]) own os i)))
  placed-tree (s.Sub a b) own fields h e listed fs os = λ i. of_number (t.sub (the_number (first ts us a (b ∷ []) own os i)) (the_number (second ts us a b ([]) own os i)))
  placed-tree (s.Neg a) own fields h e listed fs os = λ i. of_number (t.neg (the_number (first ts us a ([]) own os i)))
  placed-tree (s.Scale z a) own fields h e listed fs os = λ i. of_number (t.scale z (the_number (first ts us a ([]) own os i)))
  placed-tree (s.Card a) own fields h e listed fs os = λ i. of_number (t.card (the_set (first ts us a ([]) own os i)))
  placed-tree (s.FreeSet n) own fields h e listed fs os = λ i. of_set (t.free_set (the_name (e i)))
  placed-tree (s.ReadSet a b) own fields h e listed fs os = λ i. of_set (t.read_set (the_field (first ts us a (b ∷ []) own os i)) (the_object (second ts us a b ([]) own os i)))
  placed-tree s.Empty own fields h e listed fs os = refl
  placed-tree s.Univ own fields h e listed fs os = refl
  placed-tree (s.Single a) own fields h e listed fs os = λ i. of_set (t.single (the_object (first ts us a ([]) own os i)))
  placed-tree (s.Union a b) own fields h e listed fs os = λ i. of_set (t.union (the_set (first ts us a (b ∷ []) own os i)) (the_set (second ts us a b ([]) own os i)))
  placed-tree (s.Inter a b) own fields h e listed fs os = λ i. of_set (t.inter (the_set (first ts us a (b ∷ []) own os i)) (the_set (second ts us a b ([]) own os i)))
  placed-tree (s.Diff a b) own fields h e listed fs os = λ i. of_set (t.diff (the_set (first ts us a (b ∷ []) own os i)) (the_set (second ts us a b ([]) own os i)))
  placed-tree (s.Compl a) own fields h e listed fs os = λ i. of_set (t.compl (the_set (first ts us a ([]) own os i)))
  placed-tree (s.Compr a) own fields h e listed fs os = λ i. of_set (t.compr (the_truth (first ts us a ([]) own os i)))
  placed-tree (s.FreeField n) own fields h e listed fs os = λ i. of_field (t.free_field (the_name (e i)))
  placed-tree (s.Update a b c) own fields h e listed fs os = λ i. of_field (t.update (the_field (first ts us a (b ∷ c ∷ []) own os i)) (the_object (second ts us a b (c ∷ []) own os i)) (the_value (third ts us a b c ([]) own os i)))
  placed-tree s.True own fields h e listed fs os = refl
  placed-tree s.False own fields h e listed fs os = refl
  placed-tree (s.FreeTruth n) own fields h e listed fs os = λ i. of_truth (t.free_truth (the_name (e i)))
  placed-tree (s.ReadTruth a b) own fields h e listed fs os = λ i. of_truth (t.read_truth (the_field (first ts us a (b ∷ []) own os i)) (the_object (second ts us a b ([]) own os i)))
  placed-tree (s.Negation a) own fields h e listed fs os = λ i. of_truth (t.negation (the_truth (first ts us a ([]) own os i)))
  placed-tree (s.And a b) own fields h e listed fs os = λ i. of_truth (t.and (the_truth (first ts us a (b ∷ []) own os i)) (the_truth (second ts us a b ([]) own os i)))
  placed-tree (s.Or a b) own fields h e listed fs os = λ i. of_truth (t.or (the_truth (first ts us a (b ∷ []) own os i)) (the_truth (second ts us a b ([]) own os i)))
  placed-tree (s.Implies a b) own fields h e listed fs os = λ i. of_truth (t.implies (the_truth (first ts us a (b ∷ []) own os i)) (the_truth (second ts us a b ([]) own os i)))
  placed-tree (s.Iff a b) own fields h e listed fs os = λ i. of_truth (t.iff (the_truth (first ts us a (b ∷ []) own os i)) (the_truth (second ts us a b ([]) own os i)))
  placed-tree (s.All a) own fields h e listed fs os = λ i. of_truth (t.all (the_truth (first ts us a ([]) own os i)))
  placed-tree (s.Ex a) own fields h e listed fs os = λ i. of_truth (t.ex (the_truth (first ts us a ([]) own os i)))
  placed-tree (s.EqObject a b) own fields h e listed fs os = λ i. of_truth (t.eq_object (the_object (first ts us a (b ∷ []) own os i)) (the_object (second ts us a b ([]) own os i)))
  placed-tree (s.EqNumber a b) own fields h e listed fs os = λ i. of_truth (t.eq_number (the_number (first ts us a (b ∷ []) own os i)) (the_number (second ts us a b ([]) own os i)))
  placed-tree (s.EqSet a b) own fields h e listed fs os = λ i. of_truth (t.eq_set (the_set (first ts us a (b ∷ []) own os i)) (the_set (second ts us a b ([]) own os i)))
  placed-tree (s.Less a b) own fields h e listed fs os = λ i. of_truth (t.less (the_number (first ts us a (b ∷ []) own os i)) (the_number (second ts us a b ([]) own os i)))
  placed-tree (s.LessEqual a b) own fields h e listed fs os = λ i. of_truth (t.less_equal (the_number (first ts us a (b ∷ []) own os i)) (the_number (second ts us a b ([]) own os i)))
  placed-tree (s.Divides z a) own fields h e listed fs os = λ i. of_truth (t.divides z (the_number (first ts us a ([]) own os i)))
  placed-tree (s.Member a b) own fields h e listed fs os = λ i. of_truth (t.member (the_object (first ts us a (b ∷ []) own os i)) (the_set (second ts us a b ([]) own os i)))
  placed-tree (s.Subset a b) own fields h e listed fs os = λ i. of_truth (t.subset (the_set (first ts us a (b ∷ []) own os i)) (the_set (second ts us a b ([]) own os i)))
  placed-tree (s.Reach l a b) own fields h e listed fs os = λ i. of_truth (t.reach ((ap (λ o. fields_at us (the_list o)) (listed refl) ∙ fields-are ts us (the_list (slice_get p.lists l)) fields fs) i) (the_object (first ts us a (b ∷ []) own os i)) (the_object (second ts us a b ([]) own os i)))
  placed-tree (s.Tree l) own fields h e listed fs os = λ i. of_truth (t.tree ((ap (λ o. fields_at us (the_list o)) (listed refl) ∙ fields-are ts us (the_list (slice_get p.lists l)) fields fs) i))
  placed-tree (s.Mark m a) own fields h e listed fs os = λ i. of_truth (t.mark (the_mark (e i)) (the_truth (first ts us a ([]) own os i)))
