-- The weakest precondition is true exactly where all guarded runs end well.
use Rattle.std.proofs.Common.{◌≡◌, refl, sym, ap, ◌∙◌, Bool, true, false, not, ◌&&◌, ◌||◌, if◌then◌else◌, List, [], ◌∷◌, ◌++◌}
use Rattle.std.specs.List.{flat_map, list_all}
use Rattle.jh_form.specs.Tree.{FormulaTree}
use Rattle.jh_form.specs.Meaning.{Interp, truth}
use Rattle.jh_form.proofs.ClosedLemmas.{both-left, both-right}
use Rattle.jh_boxed_operations.proofs.substitution.Substitutions.{truth-substituted}
use Rattle.jh_wp.proofs.Renamings.{truth-renamed}
use Rattle.jh_wp.specs.Command.{CommandTree, CommandTrees, assume, assert, assign, havoc, leave, stop, seq, choice, none, more, is_closed_command, are_closed_commands}
use Rattle.jh_wp.specs.Runs.{End, normal, left, failed, follow, ends, ends_all}
use Rattle.jh_wp.specs.Wp.{wp, wp_all, ends_well}

alone : (b : Bool) → b ≡ (b && true)
alone true = refl
alone false = refl

all-append : {X : Type 0} (p : X → Bool) (xs ys : List X) → list_all p (xs ++ ys) ≡ (list_all p xs && list_all p ys)
all-append p [] ys = refl
all-append p (x ∷ xs) ys = ap (λ b. p x && b) (all-append p xs ys) ∙ grouped (p x) (list_all p xs) (list_all p ys)
  where
    grouped : (a b c : Bool) → (a && (b && c)) ≡ ((a && b) && c)
    grouped true b c = refl
    grouped false b c = refl

all-flat : {X Y : Type 0} (p : Y → Bool) (f : X → List Y) (q : X → Bool) → ((x : X) → q x ≡ list_all p (f x)) → (xs : List X) → list_all q xs ≡ list_all p (flat_map f xs)
all-flat p f q same [] = refl
all-flat p f q same (x ∷ xs) = (λ i. same x i && all-flat p f q same xs i) ∙ sym (all-append p (f x) (flat_map f xs))

assumed : (q r : FormulaTree) (m : Interp) (b : Bool) → (not b || truth q m []) ≡ list_all (ends_well q r) (if b then normal m ∷ [] else [])
assumed q r m true = alone (truth q m [])
assumed q r m false = refl

asserted : (q r : FormulaTree) (m : Interp) (b : Bool) → (b && truth q m []) ≡ list_all (ends_well q r) (if b then normal m ∷ [] else failed ∷ [])
asserted q r m true = alone (truth q m [])
asserted q r m false = refl

followed : (q r : FormulaTree) (next : Interp → List End) (w : FormulaTree) → ((n : Interp) → truth w n [] ≡ list_all (ends_well q r) (next n)) →
    (e : End) → ends_well w r e ≡ list_all (ends_well q r) (follow next e)
followed q r next w same (normal n) = same n
followed q r next w same (left n) = alone (truth r n [])
followed q r next w same failed = refl

mutual
  unfolding wp wp_all is_closed_command are_closed_commands

  pub truth-wp : (c : CommandTree) → is_closed_command c ≡ true → (q r : FormulaTree) (m : Interp) → truth (wp c q r) m [] ≡ list_all (ends_well q r) (ends c m)
  truth-wp (assume f) closed q r m = assumed q r m (truth f m [])
  truth-wp (assert f) closed q r m = asserted q r m (truth f m [])
  truth-wp (assign x v) closed q r m = truth-substituted q x v closed m [] ∙ alone _
  truth-wp (havoc x y) closed q r m = truth-renamed q x y m [] ∙ alone _
  truth-wp leave closed q r m = alone (truth r m [])
  truth-wp stop closed q r m = refl
  truth-wp (seq cs) closed q r m = truth-wp_all cs closed q r m
  truth-wp (choice c d) closed q r m =
      (λ i. truth-wp c (both-left (is_closed_command c) (is_closed_command d) closed) q r m i && truth-wp d (both-right (is_closed_command c) (is_closed_command d) closed) q r m i)
      ∙ sym (all-append (ends_well q r) (ends c m) (ends d m))

  pub truth-wp_all : (cs : CommandTrees) → are_closed_commands cs ≡ true → (q r : FormulaTree) (m : Interp) → truth (wp_all cs q r) m [] ≡ list_all (ends_well q r) (ends_all cs m)
  truth-wp_all none closed q r m = alone (truth q m [])
  truth-wp_all (more c cs) closed q r m =
      truth-wp c (both-left (is_closed_command c) (are_closed_commands cs) closed) (wp_all cs q r) r m
      ∙ all-flat (ends_well q r) (follow (λ n. ends_all cs n)) (ends_well (wp_all cs q r) r)
      (λ e. followed q r (λ n. ends_all cs n) (wp_all cs q r) (λ n. truth-wp_all cs (both-right (is_closed_command c) (are_closed_commands cs) closed) q r n) e)
      (ends c m)
