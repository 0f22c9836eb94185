-- What is done and what is left while a formula is split.
use Rattle.std.specs.Prelude.{◌≡◌, ℕ, List, [], ◌∷◌, ◌++◌, map, Option, None}
use Rattle.std.specs.List.{flat_map}
use Rattle.jh_name.specs.declared.naming.Name.{Name}
use Rattle.jh_name.specs.declared.place.MethodId.{MethodId}
use Rattle.jh_form.specs.declared.mark.Mark.{Mark}
use Rattle.jh_form.specs.Tree.{FormulaTree}
use Rattle.jh_arena.specs.table.Entries.{Listing}
use Rattle.jh_containers.specs.declared.shared_lists.chains.Link.{Link}
use Rattle.jh_containers.specs.shared_lists.Chained.{IsChain, Keeps}
use Rattle.jh_seq.specs.sequent.Sequents.{HypTree, SequentTree}
use Rattle.jh_seq.specs.splitting.Split.{constant, facts_of, facts_next, split}
use Rattle.jh_splitting.specs.declared.lists.Lists.{Lists}
use Rattle.jh_splitting.specs.declared.facts.Assumed.{Assumed}
use Rattle.jh_splitting.specs.declared.facts.Facts.{Facts}
use Rattle.jh_splitting.specs.declared.goals.Goal.{Goal}
use Rattle.jh_splitting.specs.declared.sequent.NodeSequent.{NodeSequent}
use Rattle.jh_splitting.specs.Pairs.{AreReversed, ArePaired}
use Rattle.jh_splitting.specs.Standing.{IsFormula, IsLabel, AreHyps, IsSequent, name_under}

-- the constants of the binders that were passed, the innermost binder's first
abbrev pub AreConstants : List (Link ℕ) → Option ℕ → List Name → Type 0
AreConstants links list ws = (turns : List ℕ) × IsChain links list turns × (ws ≡ map constant turns)

-- what the lists hold, they hold
pub record Kept (old new : Lists) : Type 0 where
  pub hyps : Keeps old.hyps new.hyps
  pub binders : Keeps old.binders new.binders

-- an assumption that is to be taken apart: under which name its facts are known, and behind which binders it stands
pub record AssumedTree : Type 0 where
  pub formula : FormulaTree
  pub name : Option Name
  pub constants : List Name

pub record IsAssumed (t : Listing) (links : List (Link ℕ)) (x : Assumed) (a : AssumedTree) : Type 0 where
  pub formula : IsFormula t x.node a.formula
  pub mark : Option Mark
  pub label : IsLabel t x.mark mark
  pub name : a.name ≡ name_under mark
  pub constants : AreConstants links x.binders a.constants

-- the facts of assumptions in turn, and the number behind those of their constants
abbrev pub all_facts : List AssumedTree → ℕ → List HypTree
all_facts [] k = []
all_facts (a ∷ rest) k = facts_of a.formula a.name a.constants k ++ all_facts rest (facts_next a.formula k)

abbrev pub all_next : List AssumedTree → ℕ → ℕ
all_next [] k = k
all_next (a ∷ rest) k = all_next rest (facts_next a.formula k)

-- What was found, with the facts of what waits, of which the last one is the next, is all of `total`.
pub record FactsLeft (t : Listing) (lists : Lists) (waiting : List Assumed) (found : Facts) (total : List HypTree) (next : ℕ) : Type 0 where
  pub rest : List AssumedTree
  pub done : List HypTree
  pub waits : AreReversed (IsAssumed t lists.binders) waiting rest
  pub hyps : AreHyps t lists.hyps found.hyps done
  pub is : done ++ all_facts rest found.next ≡ total
  pub ends : all_next rest found.next ≡ next

-- a goal that is to be split, under a label and hypotheses, behind binders
pub record GoalTree : Type 0 where
  pub formula : FormulaTree
  pub mark : Option Mark
  pub hyps : List HypTree
  pub constants : List Name
  pub next : ℕ

pub record IsGoal (t : Listing) (lists : Lists) (x : Goal) (g : GoalTree) : Type 0 where
  pub formula : IsFormula t x.node g.formula
  pub label : IsLabel t x.mark g.mark
  pub hyps : AreHyps t lists.hyps x.facts.hyps g.hyps
  pub constants : AreConstants lists.binders x.binders g.constants
  pub next : g.next ≡ x.facts.next

abbrev pub sequents_of : MethodId → GoalTree → List SequentTree
sequents_of method g = split g.formula method g.mark g.hyps g.constants g.next

-- The sequents that were made, with those of the goals that wait, of which the last one is the next, are all of `total`.
pub record GoalsLeft (t : Listing) (lists : Lists) (method : MethodId) (waiting : List Goal) (made : List NodeSequent) (total : List SequentTree) : Type 0 where
  pub rest : List GoalTree
  pub done : List SequentTree
  pub waits : AreReversed (IsGoal t lists) waiting rest
  pub finished : ArePaired (IsSequent t lists.hyps method) made done
  pub is : done ++ flat_map (sequents_of method) rest ≡ total

-- the lists of binders and of hypotheses are there
abbrev pub IsReady : Listing → Lists → Option ℕ → Facts → Type 0
IsReady t lists binders facts = (ws : List Name) × (hs : List HypTree) × AreConstants lists.binders binders ws × AreHyps t lists.hyps facts.hyps hs

abbrev pub HasLeft : Listing → Lists → List Goal → List NodeSequent → Type 0
HasLeft t lists waiting made = (method : MethodId) × (total : List SequentTree) × GoalsLeft t lists method waiting made total

-- goals without binders at the place of one, the last of them first
abbrev pub closed_goal : Goal → ℕ → Goal
closed_goal x n = record { node = n; mark = x.mark; binders = None; facts = x.facts }

abbrev pub closed_goals : Goal → List ℕ → List Goal
closed_goals x [] = []
closed_goals x (n ∷ ns) = closed_goals x ns ++ closed_goal x n ∷ []
