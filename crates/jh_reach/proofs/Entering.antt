-- Backbones that are entered into a table, and formulas that are taken out of it, one by one.
use Rattle.std.proofs.Common.{◌≡◌, refl, sym, ap, ◌∙◌, subst, ℕ, zero, suc, ◌+◌, ◌<◌, ◌≤◌, true, ◌&&◌, List, [], ◌∷◌, ◌++◌, map, take, length, slice_get, get_or, Option, Some, None, add-one, append_assoc, arith}
use Rattle.std.specs.List.{flat_map}
use Rattle.std.proofs.lemmas.List.{take_all, append-nil, map-append}
use Rattle.std.proofs.lemmas.List.Concat.{flat_map-append}
use Rattle.std.proofs.lemmas.Option.{slice_get_read, slice_get-get_or}
use Rattle.jh_name.specs.declared.naming.Name.{Name}
use Rattle.jh_form.specs.declared.form.Formula.{Formula}
use Rattle.jh_form.specs.Bare.{term_tree, formula_tree}
use Rattle.jh_form.specs.Tree.{TermTree, FieldTree, FormulaTree, ValueTree, free_field, of_object, of_field}
use Rattle.jh_form.proofs.ClosedLemmas.{both-left, both-right}
use Rattle.jh_arena.specs.table.Entries.{Listing, is_truth, the_truth}
use Rattle.jh_arena.specs.table.Growth.{Extends}
use Rattle.jh_arena.specs.table.Nodes.{nodes}
use Rattle.jh_arena.specs.makers.Joined.{are_truths, truths_at}
use Rattle.jh_reach.specs.declared.reaching.Backbone.{Backbone}
use Rattle.jh_reach.specs.declared.reaching.NameBase.{NameBase}
use Rattle.jh_reach.specs.Axioms.{axioms_of}
use Rattle.jh_reach.specs.Named.{named_fields, base_tree, backbone_tree}
use Rattle.jh_reach.specs.declared.backbones.Base.{Base}
use Rattle.jh_reach.specs.Based.{IsSortedBase, IsBaseAt}
use Rattle.jh_reach.specs.Standing.{AreFields, AreFormulas}
use Rattle.jh_path_formulas.proofs.NodeSteps.{holds-field, holds-object}
use Rattle.jh_reach.proofs.Standings.{fields-grow, formulas-grow, formulas-append, formulas-as, map-more}

fields-append : (t : Listing) (ns ms : List ℕ) (fs gs : List FieldTree) → AreFields t ns fs → AreFields t ms gs → AreFields t (ns ++ ms) (fs ++ gs)
unfolding AreFields
fields-append t [] ms [] gs h k = k
fields-append t [] ms (f ∷ fs) gs h k = absurd h
fields-append t (n ∷ ns) ms [] gs h k = absurd h
fields-append t (n ∷ ns) ms (f ∷ fs) gs h k = (h.0, fields-append t ns ms fs gs h.1 k)

pub fields-as : (t : Listing) (ns ms : List ℕ) (fs gs : List FieldTree) → AreFields t ns fs → ns ≡ ms → fs ≡ gs → AreFields t ms gs
fields-as t ns ms fs gs h e k = subst (λ (z : List FieldTree). AreFields t ms z) k (subst (λ (z : List ℕ). AreFields t z fs) e h)

pub fields-none : (t : Listing) (ns : List ℕ) → ns ≡ [] → AreFields t ns []
unfolding AreFields
fields-none t ns e = subst (λ (ms : List ℕ). AreFields t ms []) (sym e) tt

one-field : (t : Listing) (n : ℕ) (f : FieldTree) → slice_get (nodes t) n ≡ Some (of_field f) → AreFields t (n ∷ []) (f ∷ [])
unfolding AreFields
one-field t n f e = (e, tt)

-- one more name
pub names-step : (t u : Listing) (made now : List ℕ) (node i : ℕ) (names : List Name) (x : Name) → Extends t u → AreFields t made (named_fields (take i names)) → slice_get (nodes u) node ≡ Some (of_field (free_field x)) →
    now ≡ made ++ node ∷ [] → i < length names → x ≡ get_or names i x → AreFields u now (named_fields (take (i + 1) names))
names-step t u made now node i names x g h at pushed lt is =
    fields-as u (made ++ node ∷ []) now (named_fields (take i names) ++ free_field x ∷ []) (named_fields (take (i + 1) names))
    (fields-append u made (node ∷ []) (named_fields (take i names)) (free_field x ∷ []) (fields-grow t u made (named_fields (take i names)) g h) (one-field u node (free_field x) at))
    (sym pushed)
    (sym (map-more (λ y. free_field y) names i x (slice_get_read names (length names) i x refl lt is)) ∙ ap (λ k. named_fields (take k names)) (sym (add-one i)))

pub names-end : (t : Listing) (made : List ℕ) (i : ℕ) (names : List Name) → AreFields t made (named_fields (take i names)) → length names ≤ i → AreFields t made (named_fields names)
names-end t made i names h past = subst (λ (z : List Name). AreFields t made (named_fields z)) (take_all i names past) h

-- one more backbone
flat-more : {X A : Type 0} (f : X → List A) (xs : List X) (i : ℕ) (x : X) → slice_get xs i ≡ Some x → flat_map f (take (suc i) xs) ≡ flat_map f (take i xs) ++ f x
flat-more f [] i x at = absurd (cc)
flat-more f (y ∷ xs) zero x at = let same : y ≡ x = cc in append-nil (f y) ∙ ap f same
flat-more f (y ∷ xs) (suc i) x at = ap (λ zs. f y ++ zs) (flat-more f xs i x at) ∙ sym (append_assoc (f y) (flat_map f (take i xs)) (f x))

pub backbones-step : (t u : Listing) (made more now : List ℕ) (i : ℕ) (backbones : List Backbone) (b : Backbone) → Extends t u → AreFormulas t made (flat_map (λ z. axioms_of (backbone_tree z)) (take i backbones)) →
    AreFormulas u more (axioms_of (backbone_tree b)) → now ≡ made ++ more → i < length backbones → b ≡ get_or backbones i b →
    AreFormulas u now (flat_map (λ z. axioms_of (backbone_tree z)) (take (i + 1) backbones))
backbones-step t u made more now i backbones b g h k joined lt is =
    let so_far = flat_map (λ z. axioms_of (backbone_tree z)) (take i backbones) in
    formulas-as u (made ++ more) now (so_far ++ axioms_of (backbone_tree b)) (flat_map (λ z. axioms_of (backbone_tree z)) (take (i + 1) backbones))
    (formulas-append u made more so_far (axioms_of (backbone_tree b)) (formulas-grow t u made so_far g h) k) (sym joined)
    (sym (flat-more (λ z. axioms_of (backbone_tree z)) backbones i b (slice_get_read backbones (length backbones) i b refl lt is)) ∙ ap (λ k. flat_map (λ z. axioms_of (backbone_tree z)) (take k backbones)) (sym (add-one i)))

pub backbones-end : (t : Listing) (made : List ℕ) (i : ℕ) (backbones : List Backbone) → AreFormulas t made (flat_map (λ z. axioms_of (backbone_tree z)) (take i backbones)) → length backbones ≤ i →
    AreFormulas t made (flat_map (λ z. axioms_of (backbone_tree z)) backbones)
backbones-end t made i backbones h past = subst (λ (z : List Backbone). AreFormulas t made (flat_map (λ y. axioms_of (backbone_tree y)) z)) (take_all i backbones past) h

-- one more formula
pub truth-at : (ts : List ValueTree) (ns : List ℕ) (i : ℕ) → are_truths ts ns ≡ true → i < length ns → is_truth (slice_get ts (get_or ns i 0)) ≡ true
truth-at ts [] i h lt = absurd (omega arith)
truth-at ts (n ∷ ns) zero h lt = both-left (is_truth (slice_get ts n)) (are_truths ts ns) h
truth-at ts (n ∷ ns) (suc i) h lt = truth-at ts ns i (both-right (is_truth (slice_get ts n)) (are_truths ts ns) h) (omega arith)

truths-more : (ts : List ValueTree) (ns : List ℕ) (i : ℕ) → i < length ns → truths_at ts (take (suc i) ns) ≡ truths_at ts (take i ns) ++ the_truth (slice_get ts (get_or ns i 0)) ∷ []
truths-more ts [] i lt = absurd (omega arith)
truths-more ts (n ∷ ns) zero lt = refl
truths-more ts (n ∷ ns) (suc i) lt = ap (λ zs. the_truth (slice_get ts n) ∷ zs) (truths-more ts ns i (omega arith))

pub boxed-step : (ts : List ValueTree) (ns : List ℕ) (i : ℕ) (made now : List Formula) (f : Formula) → map formula_tree made ≡ truths_at ts (take i ns) → formula_tree f ≡ the_truth (slice_get ts (get_or ns i 0)) → now ≡ made ++ f ∷ [] → i < length ns →
    map formula_tree now ≡ truths_at ts (take (i + 1) ns)
boxed-step ts ns i made now f h is pushed lt =
    ap (map formula_tree) pushed
    ∙ map-append formula_tree made (f ∷ [])
    ∙ (λ k. h k ++ is k ∷ [])
    ∙ sym (truths-more ts ns i lt)
    ∙ ap (λ k. truths_at ts (take k ns)) (sym (add-one i))

pub boxed-end : (ts : List ValueTree) (ns : List ℕ) (i : ℕ) (made : List Formula) → map formula_tree made ≡ truths_at ts (take i ns) → length ns ≤ i → map formula_tree made ≡ truths_at ts ns
boxed-end ts ns i made h past = h ∙ ap (truths_at ts) (take_all i ns past)

-- what a list of names came from
pub none-based : (t : Listing) (o : Option NameBase) → o ≡ None → IsBaseAt t None (base_tree o)
unfolding IsBaseAt base_tree
none-based t o e = subst (λ (z : Option NameBase). IsBaseAt t None (base_tree z)) (sym e) tt

pub none-sorted : (t : Listing) → IsSortedBase t None
unfolding IsSortedBase
none-sorted t = tt

pub some-based : (t : Listing) (o : Option NameBase) (b : NameBase) (w : Base) → o ≡ Some b → w.place ≡ b.place →
    slice_get (nodes t) w.field ≡ Some (of_field (free_field b.field)) → slice_get (nodes t) w.at ≡ Some (of_object (term_tree b.at)) → slice_get (nodes t) w.value ≡ Some (of_object (term_tree b.value)) → IsBaseAt t (Some w) (base_tree o)
unfolding IsBaseAt base_tree
some-based t o b w e place field at value =
    subst (λ (z : Option NameBase). IsBaseAt t (Some w) (base_tree z)) (sym e) (record { place = place; field = field; at = at; value = value })

pub some-sorted : (t : Listing) (w : Base) (f : FieldTree) (a v : TermTree) → slice_get (nodes t) w.field ≡ Some (of_field f) → slice_get (nodes t) w.at ≡ Some (of_object a) → slice_get (nodes t) w.value ≡ Some (of_object v) → IsSortedBase t (Some w)
unfolding IsSortedBase
some-sorted t w f a v field at value = record {
  field = holds-field (slice_get (nodes t) w.field) f field;
  at = holds-object (slice_get (nodes t) w.at) a at;
  value = holds-object (slice_get (nodes t) w.value) v value;
}
