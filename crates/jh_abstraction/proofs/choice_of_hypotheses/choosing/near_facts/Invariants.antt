use Rattle.std.proofs.Common.{Bool, List, take}
use Rattle.jh_form.specs.Tree.{FormulaTree, of_truth}
use Rattle.jh_arena.specs.table.Nodes.{nodes}
use Rattle.jh_seq.specs.sequent.Sequents.{HypTree}
use Rattle.jh_query_names.specs.mentioned_names.Notes.{AreFree}
use Rattle.jh_abstraction.specs.choice_of_hypotheses.Asking.{AreNodes}
use Rattle.jh_abstraction.specs.choice_of_hypotheses.Choosing.{HaveNotes, DecideLinks, is_near, said_of}
use Rattle.jh_abstraction.proofs.choice_of_hypotheses.choosing.near_facts.Given as goal

-- what is kept of the first hypotheses
abbrev pub invariant-loop-place : goal.invariant-loop-place
invariant-loop-place l = (hs : List HypTree) (goal : FormulaTree) (linked : FormulaTree → Bool) →
    HaveNotes (nodes l.table) l.notes l.places hs → AreFree (nodes l.table) (of_truth goal) l.reads → DecideLinks (nodes l.table) l.known.numbers.keys linked →
    AreNodes (nodes l.table) l.kept.items (said_of (λ h. is_near goal linked h.fact) (take l.place hs))
