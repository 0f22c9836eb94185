-- What is asked of a sequent over nodes.
use Rattle.std.specs.Prelude.{◌≡◌, ℕ, Bool, true, false, List, [], ◌∷◌, ◌++◌, map, Option, Some, slice_get}
use Rattle.jh_form.specs.declared.mark.Mark.{Mark}
use Rattle.jh_form.specs.Tree.{FormulaTree, ValueTree, of_truth}
use Rattle.jh_arena.specs.table.Entries.{Listing, is_truth}
use Rattle.jh_arena.specs.table.Nodes.{nodes}
use Rattle.jh_approx.specs.definition.Shown.{shown}
use Rattle.jh_seq.specs.sequent.Sequents.{HypTree, SequentTree}
use Rattle.jh_seq.specs.splitting.Split.{mark_of}
use Rattle.jh_splitting.specs.declared.sequent.NodeHyp.{NodeHyp}
use Rattle.jh_splitting.specs.Pairs.{ArePaired}
use Rattle.jh_splitting.specs.Standing.{IsLabel, name_under}

-- at the nodes stand these formulas, one at each, in the same order
abbrev pub AreNodes : List ValueTree → List ℕ → List FormulaTree → Type 0
AreNodes ts ns fs = map (slice_get ts) ns ≡ map (λ a. Some (of_truth a)) fs

-- The list is longer by the node of what a query can say of a fact, where that is asked for; else it is the same.
abbrev pub AddsSaid : List ValueTree → List ℕ → List ℕ → Bool → FormulaTree → Type 0
AddsSaid ts old new true a = (n : ℕ) × (new ≡ old ++ n ∷ []) × (slice_get ts n ≡ Some (of_truth (shown a false)))
AddsSaid ts old new false a = new ≡ old

-- a hypothesis is known under the name of this one's label
pub record HasName (t : Listing) (x : NodeHyp) (h : HypTree) : Type 0 where
  pub mark : Option Mark
  pub is_label : IsLabel t x.mark mark
  pub is : h.name ≡ name_under mark

-- the fact of a hypothesis stands at the node
abbrev pub HasFact : List ValueTree → ℕ → HypTree → Type 0
HasFact ts n h = slice_get ts n ≡ Some (of_truth h.fact)

-- at each of these nodes stands a formula
abbrev pub AreTruths : List ValueTree → List ℕ → Type 0
AreTruths ts ns = (i n : ℕ) → slice_get ns i ≡ Some n → is_truth (slice_get ts n) ≡ true

-- The facts of a sequent's hypotheses stand at these nodes, one for each, in the same order, and its goal at this one.
pub record IsStated (ts : List ValueTree) (facts : List ℕ) (goal : ℕ) (s : SequentTree) : Type 0 where
  pub said : ArePaired (HasFact ts) facts s.hyps
  pub wanted : slice_get ts goal ≡ Some (of_truth s.goal)

-- The hypotheses of a sequent have the names of these and the formulas at these nodes, one for each, in the same order;
-- it stands under the label of this number, and its goal is the formula at this node.
pub record IsAsked (t : Listing) (hyps : List NodeHyp) (label : Option ℕ) (facts : List ℕ) (goal : ℕ) (s : SequentTree) : Type 0 where
  pub stated : IsStated (nodes t) facts goal s
  pub called : ArePaired (HasName t) hyps s.hyps
  pub mark : Option Mark
  pub is_label : IsLabel t label mark
  pub under : s.mark ≡ mark_of mark
