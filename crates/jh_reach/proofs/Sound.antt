-- All axioms of a backbone are true.
use Rattle.std.proofs.Common.{◌≡◌, ℕ, true, List, [], ◌∷◌, Option, Some, None}
use Rattle.std.specs.List.{All}
use Rattle.std.proofs.lemmas.List.Elements.{All-nil, All-append, All-from_recursion}
use Rattle.jh_form.specs.Tree.{FieldTree}
use Rattle.jh_form.specs.Meaning.{Interp, InUniverse, truth}
use Rattle.jh_reach.specs.Axioms.{BaseTree, axiom_of_update, axioms_of_list, axioms_of_base}
use Rattle.jh_reach.specs.Truths.{AreClosed, IsBase, IsThatUpdate, OfBase, AxiomsAreTrue}
use Rattle.jh_reach.proofs.Held.{reach_itself-true, reach_children-true, first_step-true, last_step-true, ways_join-true, ways_compare-true, null_reaches_null-true, no_way_back-true, one_parent-true}
use Rattle.jh_reach.proofs.Updated.{axiom_of_update-true}

module _ (m : Interp) (inside : InUniverse m) (fs : List FieldTree) (closed : AreClosed fs) (e : List ℕ) where
  list-true : All (λ a. truth a m e ≡ true) (axioms_of_list fs)
  list-true =
      All-from_recursion (λ a. truth a m e ≡ true) (axioms_of_list fs) (
        reach_itself-true m inside fs closed e,
        (
          reach_children-true m inside fs closed e,
          (
            first_step-true m inside fs closed e,
            (
              last_step-true m inside fs closed e,
              (
                ways_join-true m inside fs closed e,
                (
                  ways_compare-true m inside fs closed e,
                  (
                    null_reaches_null-true m inside fs closed e,
                    (
                      no_way_back-true m inside fs closed e,
                      (
                        one_parent-true m inside fs closed e,
                        tt,
                      ),
                    ),
                  ),
                ),
              ),
            ),
          ),
        ),
      )

  base-true : (o : Option BaseTree) → OfBase (IsBase fs) o → OfBase (IsThatUpdate m fs) o → All (λ a. truth a m e ≡ true) (axioms_of_base fs o)
  base-true None base update = All-nil (λ a. truth a m e ≡ true)
  base-true (Some u) base update =
      All-from_recursion (λ a. truth a m e ≡ true) (axiom_of_update fs u ∷ []) (axiom_of_update-true m inside fs closed u base update e, tt)

pub axioms-true : AxiomsAreTrue
axioms-true b closed base m inside update e =
    All-append (λ a. truth a m e ≡ true) (axioms_of_list b.fields) (axioms_of_base b.fields b.base)
    (list-true m inside b.fields closed e) (base-true m inside b.fields closed e b.base base update)
