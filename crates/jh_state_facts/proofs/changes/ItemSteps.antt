-- The names of the state in one list.
use Rattle.std.proofs.Common.{◌≡◌, refl, sym, ap, ◌∙◌, List, [], ◌∷◌, ◌++◌, map, codes}
use Rattle.std.proofs.lemmas.List.{map-append}
use Rattle.jh_semantics.specs.Code.{Text}
use Rattle.jh_semantics.specs.Program.{Program}
use Rattle.jh_semantics.specs.WellFormed.{all_classes}
use Rattle.jh_command_terms.specs.jh_guard.Items.{all_objects, objects_of, of_member, items, sorted_item}
use Rattle.jh_state_facts.specs.declared.well_formedness.state.Member.{Member}
use Rattle.jh_state_facts.specs.well_formedness.States.{members_in}
use Rattle.jh_state_facts.specs.changes.Added.{set_sorted, member_sorted}

sets-sorted : (xs : List Text) → map sorted_item (map (λ x. objects_of x) xs) ≡ map set_sorted xs
sets-sorted [] = refl
sets-sorted (x ∷ xs) = ap (λ ys. set_sorted x ∷ ys) (sets-sorted xs)

members-sorted : (classes : List Text) (xs : List Member) → map sorted_item (map (λ x. of_member x) (members_in classes xs)) ≡ map member_sorted xs
members-sorted classes [] = refl
members-sorted classes (x ∷ xs) = ap (λ ys. member_sorted x ∷ ys) (members-sorted classes xs)

-- the sets and then the members are all of the state
pub all-sorted : (p : Program) (classes : List Text) (xs : List Member) → p.classes ≡ classes → p.members ≡ members_in classes xs →
    ((set_sorted (codes "alloc") ∷ map set_sorted classes) ++ set_sorted (codes "Object") ∷ []) ++ map member_sorted xs ≡ map sorted_item (items p)
all-sorted p classes xs e f =
    sym
    (map-append sorted_item (all_objects ∷ map (λ x. objects_of x) (all_classes p.classes)) (map (λ x. of_member x) p.members)
    ∙ (λ i. (set_sorted (codes "alloc") ∷ (sets-sorted (all_classes p.classes) ∙ ap (λ cs. map set_sorted (all_classes cs)) e ∙ map-append set_sorted classes (codes "Object" ∷ [])) i) ++ (ap (λ ms. map sorted_item (map (λ x. of_member x) ms)) f ∙ members-sorted classes xs) i))
