-- What is told of the names of atoms.
use Rattle.std.proofs.Common.{◌≡◌, refl, sym, ap, ◌∙◌, subst, ℕ, zero, suc, ◌<◌, ◌==◌, arith, Bool, true, false, List, [], ◌∷◌, length, Option, Some, None, IfSome, IfNone, slice_get, slice_set}
use Rattle.std.proofs.lemmas.Bool.{true≢false}
use Rattle.std.proofs.lemmas.Bool.Decides.{Decides-eqb}
use Rattle.std.proofs.lemmas.Option.{slice_get_within, same_Some}
use Rattle.jh_form.specs.Tree.{ValueTree, of_truth}
use Rattle.jh_arena.specs.table.Entries.{Listing, is_truth, the_truth}
use Rattle.jh_arena.specs.table.Nodes.{nodes, tree_in, fits_in}
use Rattle.jh_arena.specs.declared.table.shapes.Shape.{Shape}
use Rattle.jh_arena.specs.table.Growth.{Extends}
use Rattle.jh_arena.proofs.table.Children.{it-is-truth}
use Rattle.jh_arena.proofs.table.Listed.{node-stays}
use Rattle.jh_closure.specs.congruence_closure.Nodes.{Has}
use Rattle.jh_models.specs.ground_models.Atoms.{is_equality}
use Rattle.jh_propagation.specs.trail.Listing.{decided}
use Rattle.jh_propagation.specs.trail.Saying.{IsTruth, truth_at}
use Rattle.jh_propagation.specs.declared.propagation.problem.Problem.{Problem}
use Rattle.jh_propagation.specs.propagation.Problems.{IsNamed, IsProblem, is_label}
use Rattle.jh_propagation.specs.propagation.Speaking.{Speaks, sides_of}
use Rattle.jh_propagation.proofs.propagation.Saids.{speaks-sides, no-equation, an-equation, speaks-yes, speaks-no, renamed}

module _ (u : Listing) (p : Problem) (problem : IsProblem (nodes u) p) (k : ℕ) (at : Has p.ground.atoms k) (name : ℕ) (is : slice_get p.names.items k ≡ Some name) where
  abbrev us : List ValueTree
  us = nodes u

  abbrev ts : List ValueTree
  ts = nodes p.table

  same : slice_get us name ≡ slice_get ts k
  same = subst (λ n. slice_get us n ≡ slice_get ts k) (same_Some (problem.named k at).name name (sym (problem.named k at).here ∙ is)) (problem.named k at).same

  name-truth : IsTruth us name
  name-truth = subst (λ (o : Option ValueTree). is_truth o ≡ true) (sym same) (problem.posed.occurrences.truths k at)

  pub name-inside : name < length us
  name-inside = slice_get_within us name (of_truth (truth_at us name)) (it-is-truth (slice_get us name) name-truth)

  same-truth : truth_at us name ≡ truth_at ts k
  same-truth = ap the_truth same

  pub yes-speaks : is_equality (truth_at ts k) ≡ false → Speaks us ts (record { left = name; right = p.yes; holds = true }) (decided k true)
  yes-speaks none = renamed us ts (record { left = name; right = p.yes; holds = true }) name (decided k true) same
      (speaks-yes us name p.yes name-truth (ap is_equality same-truth ∙ none) (ap is_label same-truth ∙ problem.posed.unlabelled k at) problem.yes)

  pub no-speaks : is_equality (truth_at ts k) ≡ false → Speaks us ts (record { left = name; right = p.no; holds = true }) (decided k false)
  no-speaks none = renamed us ts (record { left = name; right = p.no; holds = true }) name (decided k false) same
      (speaks-no us name p.no name-truth (ap is_equality same-truth ∙ none) (ap is_label same-truth ∙ problem.posed.unlabelled k at) problem.no)

  module _ (x : Shape) (tree : slice_get us name ≡ Some (tree_in u x)) (fits : fits_in u x ≡ true) where
    pub sides-speak : (o : Option (ℕ × ℕ)) → o ≡ sides_of x → IfSome o (λ q. (h : Bool) → Speaks us ts (record { left = q.0; right = q.1; holds = h }) (decided k h))
    sides-speak None e = tt
    sides-speak (Some q) e = λ h. renamed us ts (record { left = q.0; right = q.1; holds = h }) name (decided k h) same (speaks-sides u (decided name h) x q.0 q.1 tree fits (sym e))

    pub sides-equation : (o : Option (ℕ × ℕ)) → o ≡ sides_of x → IfSome o (λ q. is_equality (truth_at ts k) ≡ true)
    sides-equation None e = tt
    sides-equation (Some q) e = ap is_equality (sym same-truth) ∙ an-equation u (decided name true) x q tree (sym e)

    pub sides-none : (o : Option (ℕ × ℕ)) → o ≡ sides_of x → IfNone o (is_equality (truth_at ts k) ≡ false)
    sides-none None e = ap is_equality (sym same-truth) ∙ no-equation u (decided name true) x tree (sym e)
    sides-none (Some q) e = tt

set-there : (xs : List ℕ) (k v : ℕ) → k < length xs → slice_get (slice_set xs k v) k ≡ Some v
set-there [] k v l = absurd (omega (arith, l))
set-there (x ∷ xs) zero v l = refl
set-there (x ∷ xs) (suc k) v l = set-there xs k v (omega (arith, l))

set-elsewhere : (xs : List ℕ) (k v c : ℕ) → (c ≡ k → ⊥) → slice_get (slice_set xs k v) c ≡ slice_get xs c
set-elsewhere [] zero v c h = refl
set-elsewhere [] (suc k) v c h = refl
set-elsewhere (x ∷ xs) zero v zero h = absurd (h refl)
set-elsewhere (x ∷ xs) zero v (suc c) h = refl
set-elsewhere (x ∷ xs) (suc k) v zero h = refl
set-elsewhere (x ∷ xs) (suc k) v (suc c) h = set-elsewhere xs k v c (λ e. h (ap suc e))

item-at : {X : Type 0} (xs : List X) (k : ℕ) → k < length xs → (x : X) × (slice_get xs k ≡ Some x)
item-at [] k l = absurd (omega (arith, l))
item-at (x ∷ xs) zero l = (x, refl)
item-at (x ∷ xs) (suc k) l = item-at xs k (omega (arith, l))

-- a name is one in a table that grew
pub named-stays : (u v : Listing) (ts : List ValueTree) (names : List ℕ) (k : ℕ) → Extends u v → k < length ts → IsNamed (nodes u) ts names k → IsNamed (nodes v) ts names k
named-stays u v ts names k grows inside h =
    let there = item-at ts k inside in
    record { name = h.name; here = h.here; same = node-stays u v h.name there.0 grows (h.same ∙ there.1) ∙ sym there.1 }

-- one more name is given
pub named-here : (new old : List ValueTree) (names more : List ℕ) (k name : ℕ) → more ≡ slice_set names k name → k < length names → slice_get new name ≡ slice_get old k → IsNamed new old more k
named-here new old names more k name is inside same = record { name = name; here = ap (λ xs. slice_get xs k) is ∙ set-there names k name inside; same = same }

pub named-too : (new old : List ValueTree) (names more : List ℕ) (k name c : ℕ) → more ≡ slice_set names k name → k < length names → slice_get new name ≡ slice_get old k → IsNamed new old names c → IsNamed new old more c
named-too new old names more k name c is inside same h = chosen (c == k) refl
  where
    chosen : (b : Bool) → (c == k) ≡ b → IsNamed new old more c
    chosen true e = subst (IsNamed new old more) (sym ((Decides-eqb c k).0 e)) (named-here new old names more k name is inside same)
    chosen false e = record { name = h.name; here = ap (λ xs. slice_get xs c) is ∙ (set-elsewhere names k name c (λ one. true≢false (sym ((Decides-eqb c k).1 one) ∙ e)) ∙ h.here); same = h.same }
