-- What stands in a table stays while the table and the lists grow.
use Rattle.std.proofs.Common.{refl, ℕ, List, Option, None, Some, [], ◌∷◌, ◌++◌}
use Rattle.jh_name.specs.declared.naming.Name.{Name}
use Rattle.jh_name.specs.declared.place.MethodId.{MethodId}
use Rattle.jh_form.specs.declared.mark.Mark.{Mark}
use Rattle.jh_form.specs.Tree.{FormulaTree, of_truth}
use Rattle.jh_arena.specs.table.Entries.{Listing}
use Rattle.jh_arena.specs.table.Growth.{Extends}
use Rattle.jh_containers.specs.declared.shared_lists.chains.Link.{Link}
use Rattle.jh_containers.specs.shared_lists.Chained.{IsChain, Keeps}
use Rattle.jh_seq.specs.sequent.Sequents.{HypTree, SequentTree}
use Rattle.jh_splitting.specs.declared.lists.Lists.{Lists}
use Rattle.jh_splitting.specs.declared.facts.Assumed.{Assumed}
use Rattle.jh_splitting.specs.declared.facts.Facts.{Facts}
use Rattle.jh_splitting.specs.declared.goals.Goal.{Goal}
use Rattle.jh_splitting.specs.declared.sequent.NodeHyp.{NodeHyp}
use Rattle.jh_splitting.specs.declared.sequent.NodeSequent.{NodeSequent}
use Rattle.jh_splitting.specs.Standing.{IsFormula, IsLabel, IsHyp, AreHyps, IsSequent}
use Rattle.jh_splitting.specs.Left.{AreConstants, Kept, AssumedTree, IsAssumed, FactsLeft, GoalTree, IsGoal, GoalsLeft}
use Rattle.jh_splitting.proofs.Pairing.{paired-grows, reversed-grows}

pub kept-refl : (l : Lists) → Kept l l
kept-refl l = record { hyps = λ n xs h. h; binders = λ n xs h. h }

pub kept-trans : (l m n : Lists) → Kept l m → Kept m n → Kept l n
kept-trans l m n g h = record { hyps = λ i xs c. h.hyps i xs (g.hyps i xs c); binders = λ i xs c. h.binders i xs (g.binders i xs c) }

pub constants-grow : (old new : List (Link ℕ)) (n : Option ℕ) (ws : List Name) → Keeps old new → AreConstants old n ws → AreConstants new n ws
constants-grow old new n ws k h = (h.0, k n h.0 h.1, h.2)

module _ (t u : Listing) (g : Extends t u) where
  pub formula-grows : (n : ℕ) (a : FormulaTree) → IsFormula t n a → IsFormula u n a
  formula-grows n a h = g.nodes.keeps n (of_truth a) h

  pub label-grows : (n : Option ℕ) (m : Option Mark) → IsLabel t n m → IsLabel u n m
  label-grows None None h = h
  label-grows None (Some m) h = h
  label-grows (Some n) None h = h
  label-grows (Some n) (Some m) h = g.marks.keeps n m h

  pub hyp-grows : (x : NodeHyp) (h : HypTree) → IsHyp t x h → IsHyp u x h
  hyp-grows x h e = record { mark = e.mark; label = label-grows x.mark e.mark e.label; name = e.name; fact = formula-grows x.fact h.fact e.fact }

  pub hyps-grow : (old new : List (Link NodeHyp)) (n : Option ℕ) (hs : List HypTree) → Keeps old new → AreHyps t old n hs → AreHyps u new n hs
  hyps-grow old new n hs k h = (h.0, k n h.0 h.1, reversed-grows (IsHyp t) (IsHyp u) hyp-grows h.0 hs h.2)

  module _ (l m : Lists) (k : Kept l m) where
    pub assumed-grows : (x : Assumed) (a : AssumedTree) → IsAssumed t l.binders x a → IsAssumed u m.binders x a
    assumed-grows x a h = record {
      formula = formula-grows x.node a.formula h.formula;
      mark = h.mark;
      label = label-grows x.mark h.mark h.label;
      name = h.name;
      constants = constants-grow l.binders m.binders x.binders a.constants k.binders h.constants;
    }

    pub facts-left-grow : (w : List Assumed) (f : Facts) (total : List HypTree) (next : ℕ) → FactsLeft t l w f total next → FactsLeft u m w f total next
    facts-left-grow w f total next h = record {
      rest = h.rest;
      done = h.done;
      waits = reversed-grows (IsAssumed t l.binders) (IsAssumed u m.binders) assumed-grows w h.rest h.waits;
      hyps = hyps-grow l.hyps m.hyps f.hyps h.done k.hyps h.hyps;
      is = h.is;
      ends = h.ends;
    }

    pub goal-grows : (x : Goal) (a : GoalTree) → IsGoal t l x a → IsGoal u m x a
    goal-grows x a h = record {
      formula = formula-grows x.node a.formula h.formula;
      label = label-grows x.mark a.mark h.label;
      hyps = hyps-grow l.hyps m.hyps x.facts.hyps a.hyps k.hyps h.hyps;
      constants = constants-grow l.binders m.binders x.binders a.constants k.binders h.constants;
      next = h.next;
    }

    pub sequent-grows : (method : MethodId) (x : NodeSequent) (s : SequentTree) → IsSequent t l.hyps method x s → IsSequent u m.hyps method x s
    sequent-grows method x s h = record {
      mark = h.mark;
      label = label-grows x.mark h.mark h.label;
      shown = h.shown;
      of_method = h.of_method;
      hyps = hyps-grow l.hyps m.hyps x.hyps s.hyps k.hyps h.hyps;
      goal = formula-grows x.goal s.goal h.goal;
    }

    pub goals-left-grow : (method : MethodId) (w : List Goal) (made : List NodeSequent) (total : List SequentTree) → GoalsLeft t l method w made total → GoalsLeft u m method w made total
    goals-left-grow method w made total h = record {
      rest = h.rest;
      done = h.done;
      waits = reversed-grows (IsGoal t l) (IsGoal u m) goal-grows w h.rest h.waits;
      finished = paired-grows (IsSequent t l.hyps method) (IsSequent u m.hyps method) (sequent-grows method) made h.done h.finished;
      is = h.is;
    }

-- one more hypothesis
pub grown-hyps : (t u : Listing) → Extends t u → (old new : List (Link NodeHyp)) (n : Option ℕ) (r : ℕ) (x : NodeHyp) (h : HypTree) (hs : List HypTree) →
    ((xs : List NodeHyp) → IsChain old n xs → IsChain new (Some r) (x ∷ xs)) → AreHyps t old n hs → IsHyp u x h → AreHyps u new (Some r) (hs ++ h ∷ [])
grown-hyps t u g old new n r x h hs made e is = (x ∷ e.0, made e.0 e.1, (hs, h, is, reversed-grows (IsHyp t) (IsHyp u) (hyp-grows t u g) e.0 hs e.2, refl))
