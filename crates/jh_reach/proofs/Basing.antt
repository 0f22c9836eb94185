-- What a list of fields came from, as it stands in a table.
use Rattle.std.proofs.Common.{◌≡◌, refl, sym, ap, ◌∙◌, subst, ℕ, zero, suc, true, List, [], ◌∷◌, ◌++◌, slice_get, Option, Some, None}
use Rattle.std.specs.Prelude.{slice_set}
use Rattle.std.proofs.lemmas.List.{append-nil}
use Rattle.jh_form.specs.Tree.{FieldTree, FormulaTree, of_object, of_field, of_truth}
use Rattle.jh_arena.specs.table.Entries.{Listing, are_fields}
use Rattle.jh_arena.specs.table.Growth.{Extends}
use Rattle.jh_arena.specs.table.Nodes.{nodes}
use Rattle.jh_reach.specs.declared.backbones.Base.{Base}
use Rattle.jh_reach.specs.Axioms.{BaseTree, BackboneTree, axioms_of_list, axioms_of_base, axioms_of, axiom_of_update}
use Rattle.jh_reach.specs.Standing.{AreFields, AreFormulas, fields_in}
use Rattle.jh_reach.specs.Based.{IsSorted, IsThere, IsSortedBase, IsBaseAt}
use Rattle.jh_path_formulas.proofs.NodeSteps.{holds-field, holds-object}
use Rattle.jh_reach.proofs.Standings.{fields-are, fields-there, formulas-push, formulas-as}

-- another member at a place
pub set-fields : (t : Listing) (ns : List ℕ) (fs : List FieldTree) (p n : ℕ) (f : FieldTree) → AreFields t ns fs → slice_get (nodes t) n ≡ Some (of_field f) → AreFields t (slice_set ns p n) (slice_set fs p f)
unfolding AreFields
set-fields t [] [] p n f h at = tt
set-fields t [] (g ∷ fs) p n f h at = absurd h
set-fields t (m ∷ ns) [] p n f h at = absurd h
set-fields t (m ∷ ns) (g ∷ fs) zero n f h at = (at, h.1)
set-fields t (m ∷ ns) (g ∷ fs) (suc p) n f h at = (h.0, set-fields t ns fs p n f h.1 at)

pub set-are : (t : Listing) (ns : List ℕ) (p n : ℕ) (f : FieldTree) → are_fields (nodes t) ns ≡ true → slice_get (nodes t) n ≡ Some (of_field f) → are_fields (nodes t) (slice_set ns p n) ≡ true
set-are t ns p n f h at = fields-are t (slice_set ns p n) (slice_set (fields_in (nodes t) ns) p f) (set-fields t ns (fields_in (nodes t) ns) p n f (fields-there t ns h) at)

pub sorted-grows : (t u : Listing) (w : Base) → Extends t u → IsSorted t w → IsSorted u w
sorted-grows t u w g h = record {
  field = holds-field (slice_get (nodes u) w.field) _ (g.nodes.keeps w.field _ h.field);
  at = holds-object (slice_get (nodes u) w.at) _ (g.nodes.keeps w.at _ h.at);
  value = holds-object (slice_get (nodes u) w.value) _ (g.nodes.keeps w.value _ h.value);
}

pub there-grows : (t u : Listing) (w : Base) (b : BaseTree) → Extends t u → IsThere t w b → IsThere u w b
there-grows t u w b g h = record {
  place = h.place;
  field = g.nodes.keeps w.field (of_field b.field) h.field;
  at = g.nodes.keeps w.at (of_object b.at) h.at;
  value = g.nodes.keeps w.value (of_object b.value) h.value;
}

pub sorted-at : (t : Listing) (o : Option Base) (w : Base) → o ≡ Some w → IsSortedBase t o → IsSorted t w
unfolding IsSortedBase
sorted-at t o w e h = subst (λ (z : Option Base). IsSortedBase t z) e h

-- the axioms of a list alone
none-there : (t : Listing) (o : Option BaseTree) → IsBaseAt t None o → o ≡ None
unfolding IsBaseAt
none-there t None h = refl
none-there t (Some u) h = absurd h

pub axioms-alone : (t s : Listing) (ns : List ℕ) (o : Option Base) (b : BackboneTree) → o ≡ None → IsBaseAt s o b.base → AreFormulas t ns (axioms_of_list b.fields) → AreFormulas t ns (axioms_of b)
axioms-alone t s ns o b e there h =
    let none : b.base ≡ None = none-there s b.base (subst (λ (z : Option Base). IsBaseAt s z b.base) e there) in
    subst (λ (z : List FormulaTree). AreFormulas t ns z) (sym (append-nil (axioms_of_list b.fields)) ∙ ap (λ z. axioms_of_list b.fields ++ axioms_of_base b.fields z) (sym none)) h

-- and with that of an update
pub base-there : (t : Listing) (w : Base) (o : Option BaseTree) → IsBaseAt t (Some w) o → (u : BaseTree) × (o ≡ Some u) × IsThere t w u
unfolding IsBaseAt
base-there t w None h = absurd h
base-there t w (Some u) h = (u, refl, h)

pub axioms-with : (t : Listing) (ns now : List ℕ) (n : ℕ) (b : BackboneTree) (u : BaseTree) → b.base ≡ Some u → AreFormulas t ns (axioms_of_list b.fields) → slice_get (nodes t) n ≡ Some (of_truth (axiom_of_update b.fields u)) → now ≡ ns ++ n ∷ [] → AreFormulas t now (axioms_of b)
axioms-with t ns now n b u e h at pushed =
    formulas-as t (ns ++ n ∷ []) now (axioms_of_list b.fields ++ axiom_of_update b.fields u ∷ []) (axioms_of b)
    (formulas-push t ns n (axioms_of_list b.fields) (axiom_of_update b.fields u) h at) (sym pushed)
    (ap (λ z. axioms_of_list b.fields ++ axioms_of_base b.fields z) (sym e))
