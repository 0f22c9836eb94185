-- The reads of an atom of local shape, among its parts.
use Rattle.std.proofs.Common.{◌≡◌, refl, sym, ap, ◌∙◌, ℕ, Bool, true, false, ◌&&◌, if◌then◌else◌, List, [], ◌∷◌, ◌++◌, map, append-nil, slice_get, Option, Some, nat_eq}
use Rattle.std.specs.Prelude.{filter}
use Rattle.std.proofs.lemmas.Bool.{true≢false}
use Rattle.std.proofs.lemmas.List.{map-append}
use Rattle.std.proofs.lemmas.List.Elements.{filter-append}
use Rattle.indexmap.specs.IndexSet.{insert_all}
use Rattle.jh_name.specs.declared.naming.Name.{Name}
use Rattle.jh_form.specs.Tree.{TermTree, IntTree, SetTree, FieldTree, FieldTrees, ValueTree, FormulaTree}
use Rattle.jh_form.specs.Tree as t
use Rattle.jh_form.specs.Passing.{name_equal}
use Rattle.jh_form.proofs.Names.{name_equal-true}
use Rattle.jh_form.proofs.ClosedLemmas.{both-left, both-right}
use Rattle.jh_arena.specs.table.Entries.{Listing}
use Rattle.jh_arena.specs.table.Growth.{AreDifferent}
use Rattle.jh_arena.specs.table.Nodes.{nodes}
use Rattle.jh_normal_forms.specs.parts.Collected.{IsCollected}
use Rattle.jh_normal_forms.specs.parts.Standing.{term_parts, int_parts, set_parts, field_parts, formula_parts, fields_parts}
use Rattle.jh_normal_forms.specs.declared.parts.order.Order.TheVariants as order
use Rattle.jh_seq.specs.splitting.Local.{is_field_name, are_field_names, is_local_term, is_local_number, is_local_set, has_local_shape}
use Rattle.jh_fca.specs.elimination.Constraints.{is_name}
use Rattle.jh_fca.specs.elimination.Reads.{term_reads, int_reads, set_reads, field_reads, formula_reads, fields_reads}
use Rattle.jh_fca.specs.elimination.Exchanged.{terms_once}
use Rattle.jh_field_constraints.specs.Standing.{Are, IsRead, AreReads}
use Rattle.jh_field_constraints.specs.Reading.{is_object_read, is_atom}
use Rattle.jh_field_constraints.proofs.Onces.{equal_terms, terms-inserted}
use Rattle.jh_field_constraints.proofs.Standings.{all-inserted, are-lent, are-said, reads-tell}

module _ (f : Name) where
  abbrev asked : List ValueTree → List ValueTree
  asked vs = filter (is_object_read f) vs

  -- the read at a term
  abbrev pub read : TermTree → ValueTree
  read a = t.of_object (t.read_object (t.free_field f) a)

  abbrev all_reads : List TermTree → List ValueTree
  all_reads more = map read more

  -- a part behind the others that is no read of it
  behind : (vs : List ValueTree) (v : ValueTree) → is_object_read f v ≡ false → asked (vs ++ v ∷ []) ≡ asked vs
  behind vs v h = filter-append (is_object_read f) vs (v ∷ []) ∙ (λ i. asked vs ++ (if h i then v ∷ [] else [])) ∙ append-nil (asked vs)

  two : (vs ws : List ValueTree) (xs ys : List TermTree) → asked vs ≡ all_reads xs → asked ws ≡ all_reads ys → asked (vs ++ ws) ≡ all_reads (xs ++ ys)
  two vs ws xs ys h k = filter-append (is_object_read f) vs ws ∙ (λ i. h i ++ k i) ∙ sym (map-append read xs ys)

  chosen : (x : Name) (b : TermTree) (c : Bool) → name_equal x f ≡ c → (if c then t.of_object (t.read_object (t.free_field x) b) ∷ [] else []) ≡ all_reads (if c then b ∷ [] else [])
  chosen x b true e = ap (λ z. t.of_object (t.read_object (t.free_field z) b) ∷ []) (name_equal-true x f e)
  chosen x b false e = refl

  terms : (a : TermTree) → is_local_term a ≡ true → asked (term_parts a order.InnerFirst) ≡ all_reads (term_reads a f)
  unfolding term_parts field_parts term_reads field_reads is_object_read is_name
  terms (t.bound k) h = refl
  terms (t.free_object x) h = refl
  terms t.null h = refl
  terms (t.read_object (t.free_field x) b) h = two (term_parts b order.InnerFirst) (t.of_object (t.read_object (t.free_field x) b) ∷ []) (term_reads b f) (if name_equal x f then b ∷ [] else []) (terms b h) (chosen x b (name_equal x f) refl)
  terms (t.read_object (t.update a b c) d) h = absurd (true≢false (sym h))

  numbers : (a : IntTree) → is_local_number a ≡ true → asked (int_parts a order.InnerFirst) ≡ all_reads (int_reads a f)
  unfolding int_parts field_parts int_reads field_reads is_object_read
  numbers (t.const z) h = refl
  numbers (t.free_number x) h = refl
  numbers (t.read_number (t.free_field x) b) h = behind (term_parts b order.InnerFirst) (t.of_number (t.read_number (t.free_field x) b)) refl ∙ terms b h
  numbers (t.read_number (t.update a b c) d) h = absurd (true≢false (sym h))
  numbers a h = absurd (true≢false (sym h))

  sets : (a : SetTree) → is_local_set a ≡ true → asked (set_parts a order.InnerFirst) ≡ all_reads (set_reads a f)
  unfolding set_parts field_parts set_reads field_reads is_object_read
  sets (t.free_set x) h = refl
  sets (t.read_set (t.free_field x) b) h = behind (term_parts b order.InnerFirst) (t.of_set (t.read_set (t.free_field x) b)) refl ∙ terms b h
  sets (t.read_set (t.update a b c) d) h = absurd (true≢false (sym h))
  sets a h = absurd (true≢false (sym h))

  fields : (fs : FieldTrees) → are_field_names fs ≡ true → asked (fields_parts fs order.InnerFirst) ≡ all_reads (fields_reads fs f)
  unfolding fields_parts field_parts fields_reads field_reads is_object_read
  fields t.none h = refl
  fields (t.more (t.free_field x) fs) h = fields fs h
  fields (t.more (t.update a b c) fs) h = absurd (true≢false (sym h))

  -- those of an atom
  pub atoms : (p : FormulaTree) → is_atom p ≡ true → has_local_shape p ≡ true → asked (formula_parts p order.InnerFirst) ≡ all_reads (formula_reads p f)
  unfolding formula_parts field_parts formula_reads field_reads is_object_read is_atom
  atoms t.true_formula k h = refl
  atoms t.false_formula k h = refl
  atoms (t.free_truth x) k h = refl
  atoms (t.read_truth (t.free_field x) b) k h = behind (term_parts b order.InnerFirst) (t.of_truth (t.read_truth (t.free_field x) b)) refl ∙ terms b h
  atoms (t.read_truth (t.update a b c) d) k h = absurd (true≢false (sym h))
  atoms (t.eq_object a b) k h =
      behind (term_parts a order.InnerFirst ++ term_parts b order.InnerFirst) (t.of_truth (t.eq_object a b)) refl
      ∙ two (term_parts a order.InnerFirst) (term_parts b order.InnerFirst) (term_reads a f) (term_reads b f) (terms a (both-left (is_local_term a) (is_local_term b) h)) (terms b (both-right (is_local_term a) (is_local_term b) h))
  atoms (t.eq_number a b) k h =
      behind (int_parts a order.InnerFirst ++ int_parts b order.InnerFirst) (t.of_truth (t.eq_number a b)) refl
      ∙ two (int_parts a order.InnerFirst) (int_parts b order.InnerFirst) (int_reads a f) (int_reads b f) (numbers a (both-left (is_local_number a) (is_local_number b) h)) (numbers b (both-right (is_local_number a) (is_local_number b) h))
  atoms (t.member a b) k h =
      behind (term_parts a order.InnerFirst ++ set_parts b order.InnerFirst) (t.of_truth (t.member a b)) refl
      ∙ two (term_parts a order.InnerFirst) (set_parts b order.InnerFirst) (term_reads a f) (set_reads b f) (terms a (both-left (is_local_term a) (is_local_set b) h)) (sets b (both-right (is_local_term a) (is_local_set b) h))
  atoms (t.reach fs a b) k h =
      let front : (are_field_names fs && is_local_term a) ≡ true = both-left (are_field_names fs && is_local_term a) (is_local_term b) h in
      behind (fields_parts fs order.InnerFirst ++ (term_parts a order.InnerFirst ++ term_parts b order.InnerFirst)) (t.of_truth (t.reach fs a b)) refl
      ∙ two (fields_parts fs order.InnerFirst) (term_parts a order.InnerFirst ++ term_parts b order.InnerFirst) (fields_reads fs f) (term_reads a f ++ term_reads b f) (fields fs (both-left (are_field_names fs) (is_local_term a) front))
      (two (term_parts a order.InnerFirst) (term_parts b order.InnerFirst) (term_reads a f) (term_reads b f) (terms a (both-right (are_field_names fs) (is_local_term a) front)) (terms b (both-right (are_field_names fs && is_local_term a) (is_local_term b) h)))
  atoms (t.tree fs) k h = behind (fields_parts fs order.InnerFirst) (t.of_truth (t.tree fs)) refl ∙ fields fs h
  atoms (t.negation a) k h = absurd (true≢false (sym k))
  atoms (t.and a b) k h = absurd (true≢false (sym k))
  atoms (t.or a b) k h = absurd (true≢false (sym k))
  atoms (t.implies a b) k h = absurd (true≢false (sym k))
  atoms (t.iff a b) k h = absurd (true≢false (sym k))
  atoms (t.all a) k h = absurd (true≢false (sym k))
  atoms (t.ex a) k h = absurd (true≢false (sym k))
  atoms (t.mark m a) k h = absurd (true≢false (sym k))
  atoms p k h = absurd (true≢false (sym h))

nothing-some : {X : Type 0} (x : X) (xs : List X) → [] ≡ x ∷ xs → ⊥
nothing-some x xs e = cc

head-same : {X : Type 0} (x y : X) (xs ys : List X) → x ∷ xs ≡ y ∷ ys → x ≡ y
head-same x y xs ys e = cc

rest-same : {X : Type 0} (x y : X) (xs ys : List X) → x ∷ xs ≡ y ∷ ys → xs ≡ ys
rest-same x y xs ys e = cc

-- reads that stand at nodes, said by an equation
listed : (u : Listing) (f : Name) (ns : List ℕ) (more : List TermTree) → map (slice_get (nodes u)) ns ≡ map (λ v. Some v) (map (read f) more) → AreReads u f ns more
unfolding Are
listed u f [] [] h = tt
listed u f [] (a ∷ more) h = absurd (nothing-some (Some (read f a)) (map (λ v. Some v) (map (read f) more)) h)
listed u f (n ∷ ns) [] h = absurd (nothing-some (slice_get (nodes u) n) (map (slice_get (nodes u)) ns) (sym h))
listed u f (n ∷ ns) (a ∷ more) h = (
  head-same (slice_get (nodes u) n) (Some (read f a)) (map (slice_get (nodes u)) ns) (map (λ v. Some v) (map (read f) more)) h,
  listed u f ns more (rest-same (slice_get (nodes u) n) (Some (read f a)) (map (slice_get (nodes u)) ns) (map (λ v. Some v) (map (read f) more)) h),
)

-- what is collected of an atom of local shape are its reads, each once
pub collected : (u : Listing) (f : Name) (p : FormulaTree) (none list : List ℕ) → AreDifferent (nodes u) → is_atom p ≡ true → has_local_shape p ≡ true → none ≡ [] →
    IsCollected (nodes u) none (filter (is_object_read f) (formula_parts p order.InnerFirst)) list → AreReads u f list (terms_once (formula_reads p f))
unfolding Are
collected u f p none list different k h e c =
    let numbered : AreReads u f c.numbers (formula_reads p f) = listed u f c.numbers (formula_reads p f) (c.are ∙ ap (λ vs. map (λ v. Some v) vs) (atoms f p k h)) in
    let made : AreReads u f (insert_all nat_eq [] c.numbers) (insert_all equal_terms [] (formula_reads p f)) = all-inserted (IsRead u f) equal_terms (reads-tell u f different) c.numbers [] (formula_reads p f) [] tt numbered in
    are-said (IsRead u f) list (insert_all equal_terms [] (formula_reads p f)) (terms_once (formula_reads p f)) (terms-inserted (formula_reads p f))
    (are-lent (IsRead u f) (insert_all nat_eq [] c.numbers) list (insert_all equal_terms [] (formula_reads p f)) (c.added ∙ ap (λ ks. insert_all nat_eq ks c.numbers) e) made)
