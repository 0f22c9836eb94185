-- Lists of fields that are entered without labels.
use Rattle.std.proofs.Common.{◌≡◌, refl, sym, ap, ◌∙◌, subst, ℕ, ◌+◌, ◌<◌, ◌≤◌, true, List, [], ◌∷◌, ◌++◌, take, length, slice_get, get_or, Some, add-one}
use Rattle.std.proofs.lemmas.List.{take_all}
use Rattle.std.proofs.lemmas.Option.{slice_get_read}
use Rattle.jh_form.specs.declared.form.FieldTerm.{FieldTerm}
use Rattle.jh_form.specs.Bare.{field_tree, list_tree}
use Rattle.jh_form.specs.Tree.{FieldTree, of_field, of_truth}
use Rattle.jh_form.specs.Tree as t
use Rattle.jh_boxed_operations.specs.comparison.Unmarked.{unmarked_field, unmarked_fields}
use Rattle.jh_arena.specs.table.Entries.{Listing, are_fields, fields_at}
use Rattle.jh_arena.specs.table.Growth.{Extends}
use Rattle.jh_arena.specs.table.Nodes.{nodes}
use Rattle.jh_reach.specs.Axioms.{listed}
use Rattle.jh_reach.specs.Standing.{AreFields}
use Rattle.jh_reach.proofs.Standings.{fields-grow, fields-are, fields-at, map-more}
use Rattle.jh_deriv.specs.Replays.{bare_list}

fields-push : (tab : Listing) (ns : List ℕ) (n : ℕ) (fs : List FieldTree) (f : FieldTree) → AreFields tab ns fs → slice_get (nodes tab) n ≡ Some (of_field f) → AreFields tab (ns ++ n ∷ []) (fs ++ f ∷ [])
unfolding AreFields
fields-push tab [] n [] f h at = (at, tt)
fields-push tab [] n (g ∷ fs) f h at = absurd h
fields-push tab (m ∷ ns) n [] f h at = absurd h
fields-push tab (m ∷ ns) n (g ∷ fs) f h at = (h.0, fields-push tab ns n fs f h.1 at)

pub bare-none : (tab : Listing) (ns : List ℕ) → ns ≡ [] → AreFields tab ns []
unfolding AreFields
bare-none tab ns e = subst (λ (ms : List ℕ). AreFields tab ms []) (sym e) tt

-- one more field
pub bare-step : (tab u : Listing) (made now : List ℕ) (node i : ℕ) (fs : List FieldTerm) (f : FieldTerm) → Extends tab u → AreFields tab made (bare_list (take i fs)) → slice_get (nodes u) node ≡ Some (of_field (unmarked_field (field_tree f))) →
    now ≡ made ++ node ∷ [] → i < length fs → f ≡ get_or fs i f → AreFields u now (bare_list (take (i + 1) fs))
bare-step tab u made now node i fs f g h at pushed lt is =
    let so_far = bare_list (take i fs) in
    let more : AreFields u (made ++ node ∷ []) (so_far ++ unmarked_field (field_tree f) ∷ []) = fields-push u made node so_far (unmarked_field (field_tree f)) (fields-grow tab u made so_far g h) at in
    let all : so_far ++ unmarked_field (field_tree f) ∷ [] ≡ bare_list (take (i + 1) fs) =
    sym (map-more (λ k. unmarked_field (field_tree k)) fs i f (slice_get_read fs (length fs) i f refl lt is)) ∙ ap (λ k. bare_list (take k fs)) (sym (add-one i)) in
    subst (λ (z : List FieldTree). AreFields u now z) all (subst (λ (z : List ℕ). AreFields u z (so_far ++ unmarked_field (field_tree f) ∷ [])) (sym pushed) more)

pub bare-end : (tab : Listing) (made : List ℕ) (i : ℕ) (fs : List FieldTerm) → AreFields tab made (bare_list (take i fs)) → length fs ≤ i → AreFields tab made (bare_list fs)
bare-end tab made i fs h past = subst (λ (z : List FieldTerm). AreFields tab made (bare_list z)) (take_all i fs past) h

listed-bare : (fs : List FieldTerm) → listed (bare_list fs) ≡ unmarked_fields (list_tree fs)
unfolding unmarked_fields
listed-bare [] = refl
listed-bare (f ∷ fs) = ap (t.more (unmarked_field (field_tree f))) (listed-bare fs)

pub bare-are : (tab : Listing) (ns ms : List ℕ) (fs : List FieldTerm) → AreFields tab ns (bare_list fs) → ms ≡ ns → are_fields (nodes tab) ms ≡ true
bare-are tab ns ms fs are e = ap (are_fields (nodes tab)) e ∙ fields-are tab ns (bare_list fs) are

-- the node of that they are a forest
pub bare-forest : (tab u : Listing) (ns ms : List ℕ) (fs : List FieldTerm) (node : ℕ) → AreFields tab ns (bare_list fs) → ms ≡ ns → slice_get (nodes u) node ≡ Some (of_truth (t.tree (fields_at (nodes tab) ms))) → slice_get (nodes u) node ≡ Some (of_truth (t.tree (unmarked_fields (list_tree fs))))
bare-forest tab u ns ms fs node are e h =
    h ∙ ap (λ gs. Some (of_truth (t.tree gs))) (ap (fields_at (nodes tab)) e ∙ fields-at tab ns (bare_list fs) are ∙ listed-bare fs)
