-- The weakest precondition at each constructor.
use Rattle.std.proofs.Common.{◌≡◌, refl}
use Rattle.jh_name.specs.declared.naming.Name.{Name}
use Rattle.jh_form.specs.Tree.{ValueTree, FormulaTree}
use Rattle.jh_form.specs.Tree as t
use Rattle.jh_boxed_operations.specs.substitution.Substituted.{substituted}
use Rattle.jh_wp.specs.Renamed.{renamed}
use Rattle.jh_wp.specs.Command.{CommandTree, CommandTrees, assume, assert, assign, havoc, leave, stop, seq, choice, none, more}
use Rattle.jh_wp.specs.Wp.{wp, wp_all}

pub wp-assume : (f q r : FormulaTree) → wp (assume f) q r ≡ t.implies f q
unfolding wp
wp-assume f q r = refl

pub wp-assert : (f q r : FormulaTree) → wp (assert f) q r ≡ t.and f q
unfolding wp
wp-assert f q r = refl

pub wp-assign : (x : Name) (v : ValueTree) (q r : FormulaTree) → wp (assign x v) q r ≡ substituted q x v
unfolding wp
wp-assign x v q r = refl

pub wp-havoc : (x y : Name) (q r : FormulaTree) → wp (havoc x y) q r ≡ renamed q x y
unfolding wp
wp-havoc x y q r = refl

pub wp-leave : (q r : FormulaTree) → wp leave q r ≡ r
unfolding wp
wp-leave q r = refl

pub wp-stop : (q r : FormulaTree) → wp stop q r ≡ t.true_formula
unfolding wp
wp-stop q r = refl

pub wp-seq : (cs : CommandTrees) (q r : FormulaTree) → wp (seq cs) q r ≡ wp_all cs q r
unfolding wp
wp-seq cs q r = refl

pub wp-choice : (c d : CommandTree) (q r : FormulaTree) → wp (choice c d) q r ≡ t.and (wp c q r) (wp d q r)
unfolding wp
wp-choice c d q r = refl

pub wp_all-none : (q r : FormulaTree) → wp_all none q r ≡ q
unfolding wp_all
wp_all-none q r = refl

pub wp_all-more : (c : CommandTree) (cs : CommandTrees) (q r : FormulaTree) → wp_all (more c cs) q r ≡ wp c (wp_all cs q r) r
unfolding wp_all
wp_all-more c cs q r = refl

pub ruleset wp_steps = (wp-assume, wp-assert, wp-assign, wp-havoc, wp-leave, wp-stop, wp-seq, wp-choice, wp_all-none, wp_all-more)
