use Rattle.std.proofs.Common.{Bool, List}
use Rattle.std.proofs.lemmas.Option.{slice_get_within}
use Rattle.std.proofs.lemmas.Result.{IfOk-weaker}
use Rattle.jh_form.specs.Tree.{FormulaTree, of_truth}
use Rattle.jh_arena.specs.table.Nodes.{nodes}
use Rattle.jh_seq.specs.sequent.Sequents.{HypTree, SequentTree}
use Rattle.jh_approx.specs.definition.Links.{is_linked}
use Rattle.jh_query_names.specs.mentioned_names.Notes.{AreFree}
use Rattle.jh_query_names.proofs.mentioned_names.Gatherings.{free-formula}
use Rattle.jh_abstraction.specs.choice_of_hypotheses.Asking.{AreNodes}
use Rattle.jh_abstraction.specs.choice_of_hypotheses.Choosing.{HaveNotes, DecideLinks, IsOver, is_near, said_of}
use Rattle.jh_abstraction.proofs.choice_of_hypotheses.choosing.near_goal.Goals as goal

pub free_names-requires : goal.free_names-requires
free_names-requires c = slice_get_within (nodes c.args.table.now) c.args.goal (of_truth c.requires.0.goal) c.requires.1.wanted

pub near_facts-requires : goal.near_facts-requires
near_facts-requires c = (c.requires.0.hyps, c.requires.1.noted)

pub returns : goal.returns
returns c =
    let ts = nodes c.args.table.now in
    let notes = c.args.notes.now in
    let places = c.args.places.now in
    IfOk-weaker
    c.near_facts.result
    (λ made. (hs : List HypTree) (goal : FormulaTree) (linked : FormulaTree → Bool) → HaveNotes ts notes places hs → AreFree ts (of_truth goal) c.in_ok-reads.reads → DecideLinks ts c.in_ok-known.known.numbers.keys linked → AreNodes ts made.items (said_of (λ h. is_near goal linked h.fact) hs))
    (λ made. (s : SequentTree) → IsOver ts notes places c.args.goal c.args.said s → AreNodes ts made.items (said_of (λ h. is_near s.goal (is_linked s) h.fact) s.hyps))
    (λ made h s over. h s.hyps s.goal (is_linked s) over.noted (free-formula ts c.args.goal s.goal c.in_ok-reads.reads over.wanted c.in_ok-reads.ensures) (c.in_ok-known.ensures s over))
    c.near_facts.ensures
