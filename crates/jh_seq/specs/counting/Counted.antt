-- How many sequents the weakest precondition of a command gives, by cases on the command. What has to be true after it is
-- known by the function from weights to the number of its goals.
use Rattle.std.specs.Prelude.{ℕ, ◌+◌, false, if◌then◌else◌}
use Rattle.jh_name.specs.declared.naming.Name.{Name}
use Rattle.jh_form.specs.Tree.{ValueTree}
use Rattle.jh_form.specs.Tree as t
use Rattle.jh_form.specs.Passing.{name_equal}
use Rattle.jh_wp.specs.Command.{CommandTree, CommandTrees, assume, assert, assign, havoc, leave, stop, seq, choice, none, more}
use Rattle.jh_seq.specs.counting.Goals.{Weights, goals}

-- the name gives what the value does, where that is a truth
abbrev pub with_value : Weights → Name → ValueTree → Weights
with_value w x (t.of_object a) = w
with_value w x (t.of_number a) = w
with_value w x (t.of_truth a) = λ y marked. if name_equal y x then goals a w marked else w y marked
with_value w x (t.of_set a) = w
with_value w x (t.of_field a) = w

-- the name gives what another does
abbrev pub with_name : Weights → Name → Name → Weights
with_name w x y = λ z marked. w (if name_equal z x then y else z) marked

unfoldable mutual
  pub counted : CommandTree → (Weights → ℕ) → (Weights → ℕ) → Weights → ℕ
  counted (assume f) q r w = q w
  counted (assert f) q r w = goals f w false + q w
  counted (assign x v) q r w = q (with_value w x v)
  counted (havoc x y) q r w = q (with_name w x y)
  counted leave q r w = r w
  counted stop q r w = 0
  counted (seq cs) q r w = counted_all cs q r w
  counted (choice c d) q r w = counted c q r w + counted d q r w

  pub counted_all : CommandTrees → (Weights → ℕ) → (Weights → ℕ) → Weights → ℕ
  counted_all none q r w = q w
  counted_all (more c cs) q r w = counted c (counted_all cs q r) r w
