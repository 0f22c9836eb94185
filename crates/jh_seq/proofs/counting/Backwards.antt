-- The goals of a weakest precondition, by cases on the command.
use Rattle.std.proofs.Common.{◌≡◌, refl, ap, ◌∙◌, ℕ, ◌+◌, Bool, true, false, if◌then◌else◌}
use Rattle.jh_name.specs.declared.naming.Name.{Name}
use Rattle.jh_form.specs.Tree.{ValueTree, FormulaTree}
use Rattle.jh_form.specs.Tree as t
use Rattle.jh_form.specs.Passing.{name_equal}
use Rattle.jh_wp.specs.jh_boxed.Mapped.{LeafMap, mapped_formula}
use Rattle.jh_wp.specs.jh_boxed_operations.substitution.Substituted.{substituting}
use Rattle.jh_wp.specs.Command.{CommandTree, CommandTrees, assume, assert, assign, havoc, leave, stop, seq, choice, none, more}
use Rattle.jh_wp.specs.Renamed.{renaming}
use Rattle.jh_wp.specs.Wp.{wp, wp_all}
use Rattle.jh_seq.specs.counting.Goals.{Weights, goals, forest_count}
use Rattle.jh_seq.specs.counting.Counted.{with_value, with_name, counted, counted_all}
use Rattle.jh_seq.proofs.counting.Lengths.{field_count-mapped}

-- a mapped formula has the goals of the formula where each truth name gives what stands for it
module _ (l : LeafMap) (w v : Weights) (leaf : (x : Name) (d : ℕ) (marked : Bool) → goals (l.truth_at x d) w marked ≡ v x marked) where
  goals-mapped : (a : FormulaTree) (d : ℕ) (marked : Bool) → goals (mapped_formula a l d) w marked ≡ goals a v marked
  unfolding goals mapped_formula
  goals-mapped (t.mark m a) d marked = goals-mapped a d true
  goals-mapped (t.and a b) d marked = λ i. goals-mapped a d marked i + goals-mapped b d marked i
  goals-mapped (t.implies a b) d marked = goals-mapped b d marked
  goals-mapped (t.iff a b) d marked = λ i. goals-mapped b d marked i + goals-mapped a d marked i
  goals-mapped (t.all a) d marked = goals-mapped a (d + 1) marked
  goals-mapped (t.tree fs) d marked = ap forest_count (field_count-mapped fs l d)
  goals-mapped (t.free_truth x) d marked = leaf x d marked
  goals-mapped a d marked = refl

chosen : (w : Weights) (a b : FormulaTree) (c marked : Bool) → goals (if c then a else b) w marked ≡ (if c then goals a w marked else goals b w marked)
chosen w a b true marked = refl
chosen w a b false marked = refl

goals-name : (w : Weights) (x : Name) (marked : Bool) → goals (t.free_truth x) w marked ≡ w x marked
unfolding goals
goals-name w x marked = refl

goals-assigned : (q : FormulaTree) (x : Name) (v : ValueTree) (w : Weights) (marked : Bool) → goals (mapped_formula q (substituting x v) 0) w marked ≡ goals q (with_value w x v) marked
goals-assigned q x (t.of_object a) w marked = goals-mapped (substituting x (t.of_object a)) w w (λ y d k. goals-name w y k) q 0 marked
goals-assigned q x (t.of_number a) w marked = goals-mapped (substituting x (t.of_number a)) w w (λ y d k. goals-name w y k) q 0 marked
goals-assigned q x (t.of_truth a) w marked =
    goals-mapped (substituting x (t.of_truth a)) w (with_value w x (t.of_truth a))
    (λ y d k. chosen w a (t.free_truth y) (name_equal y x) k ∙ ap (λ n. if name_equal y x then goals a w k else n) (goals-name w y k)) q 0 marked
goals-assigned q x (t.of_set a) w marked = goals-mapped (substituting x (t.of_set a)) w w (λ y d k. goals-name w y k) q 0 marked
goals-assigned q x (t.of_field a) w marked = goals-mapped (substituting x (t.of_field a)) w w (λ y d k. goals-name w y k) q 0 marked

goals-havocked : (q : FormulaTree) (x y : Name) (w : Weights) (marked : Bool) → goals (mapped_formula q (renaming x y) 0) w marked ≡ goals q (with_name w x y) marked
goals-havocked q x y w marked = goals-mapped (renaming x y) w (with_name w x y) (λ z d k. goals-name w (if name_equal z x then y else z) k) q 0 marked

mutual
  unfolding wp wp_all counted counted_all goals

  pub goals-wp : (c : CommandTree) (q r : FormulaTree) (w : Weights) → goals (wp c q r) w false ≡ counted c (λ u. goals q u false) (λ u. goals r u false) w
  goals-wp (assume f) q r w = refl
  goals-wp (assert f) q r w = refl
  goals-wp (assign x v) q r w = goals-assigned q x v w false
  goals-wp (havoc x y) q r w = goals-havocked q x y w false
  goals-wp leave q r w = refl
  goals-wp stop q r w = refl
  goals-wp (seq cs) q r w = goals-wp_all cs q r w
  goals-wp (choice c d) q r w = λ i. goals-wp c q r w i + goals-wp d q r w i

  pub goals-wp_all : (cs : CommandTrees) (q r : FormulaTree) (w : Weights) → goals (wp_all cs q r) w false ≡ counted_all cs (λ u. goals q u false) (λ u. goals r u false) w
  goals-wp_all none q r w = refl
  goals-wp_all (more c cs) q r w =
      goals-wp c (wp_all cs q r) r w
      ∙ (λ i. counted c (λ u. goals-wp_all cs q r u i) (λ u. goals r u false) w)
