-- Explanations: which equations make two nodes one.
use Rattle.std.specs.Prelude.{◌≡◌, ◌<◌, ◌≤◌, ◌+◌, ◌*◌, ℕ, zero, suc, Bool, true, List, [], ◌∷◌, length, Some, slice_get}
use Rattle.jh_closure.specs.declared.union_find.merge.Merge.{Merge}
use Rattle.jh_closure.specs.union_find.Merges.{root}
use Rattle.jh_closure.specs.declared.congruence_closure.equation.Equation.{Equation}
use Rattle.jh_closure.specs.declared.congruence_closure.explaining.Question.{Question}
use Rattle.jh_closure.specs.declared.congruence_closure.node.Node.{Node}
use Rattle.jh_closure.specs.congruence_closure.Nodes.{Has, Structure, Gives, MeetsListed}

-- two of n nodes that are one after the first merges
pub record IsQuestion (ms : List Merge) (n : ℕ) (q : Question) : Type 0 where
  pub before : q.before ≤ length ms
  pub left : q.left < n
  pub right : q.right < n
  pub same : root ms q.before q.left ≡ root ms q.before q.right

abbrev pub AreQuestions : List Merge → ℕ → List Question → Type 0
AreQuestions ms n qs = (q : Question) → Has qs q → IsQuestion ms n q

-- those that are asked of no more than the first t merges have one value each
abbrev pub EqualUpTo : (ℕ → ℕ) → List Question → ℕ → Type 0
EqualUpTo at qs t = (q : Question) → Has qs q → q.before ≤ t → at q.left ≡ at q.right

-- Where the listed equations hold and what is still asked is true, the two nodes have one value; and each merge that was
-- used is right where what is still asked of the merges before it is true.
pub record Explains (ns : List Node) (said : List Equation) (ms : List Merge) (listed : List ℕ) (used : List Bool) (asked : List Question) (left right : ℕ) : Type 0 where
  pub leads : (s : Structure ℕ) (at : ℕ → ℕ) → Gives s ns at → MeetsListed at said listed → ((q : Question) → Has asked q → at q.left ≡ at q.right) → at left ≡ at right
  pub merges : (s : Structure ℕ) (at : ℕ → ℕ) → Gives s ns at → MeetsListed at said listed → (t : ℕ) (m : Merge) → slice_get used t ≡ Some true → slice_get ms t ≡ Some m → EqualUpTo at asked t → at m.left ≡ at m.right
  pub numbers : (i : ℕ) → Has listed i → i < length said

-- what is still to be done: a question takes more than the four that it leads to, which are asked of fewer merges
abbrev pub effort : ℕ → ℕ
effort zero = 1
effort (suc t) = 5 * effort t

abbrev pub efforts : List Question → ℕ
efforts [] = 0
efforts (q ∷ qs) = effort q.before + efforts qs
