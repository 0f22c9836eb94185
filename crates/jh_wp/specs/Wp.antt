-- Weakest preconditions (Dijkstra's transformer, as in Zee, Kuncak and Rinard, PLDI 2008).
use Rattle.std.specs.Prelude.{Bool, false, []}
use Rattle.jh_form.specs.Tree.{FormulaTree}
use Rattle.jh_form.specs.Tree as t
use Rattle.jh_form.specs.Meaning.{truth}
use Rattle.jh_boxed_operations.specs.substitution.Substituted.{substituted}
use Rattle.jh_wp.specs.Renamed.{renamed}
use Rattle.jh_wp.specs.Command.{CommandTree, CommandTrees, assume, assert, assign, havoc, leave, stop, seq, choice, none, more}
use Rattle.jh_wp.specs.Runs.{End, normal, left, failed}

-- what has to be true before a command, for q to be true after it and r where the method returns
unfoldable mutual
  pub wp : CommandTree → FormulaTree → FormulaTree → FormulaTree
  wp (assume f) q r = t.implies f q
  wp (assert f) q r = t.and f q
  wp (assign x v) q r = substituted q x v
  wp (havoc x y) q r = renamed q x y
  wp leave q r = r
  wp stop q r = t.true_formula
  wp (seq cs) q r = wp_all cs q r
  wp (choice c d) q r = t.and (wp c q r) (wp d q r)

  pub wp_all : CommandTrees → FormulaTree → FormulaTree → FormulaTree
  wp_all none q r = q
  wp_all (more c cs) q r = wp c (wp_all cs q r) r

-- an end is as it should be: no failure, q is true after the command, and r where the method returns
abbrev pub ends_well : FormulaTree → FormulaTree → End → Bool
ends_well q r (normal n) = truth q n []
ends_well q r (left n) = truth r n []
ends_well q r failed = false
