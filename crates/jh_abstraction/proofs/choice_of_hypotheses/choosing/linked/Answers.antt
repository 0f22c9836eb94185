use Rattle.std.proofs.Common.{sym, subst, true, List, ℕ}
use Rattle.std.proofs.lemmas.Option.{slice_get_within}
use Rattle.std.proofs.lemmas.Result.{IfOk-weaker}
use Rattle.jh_form.specs.Tree.{of_truth}
use Rattle.jh_arena.specs.table.Nodes.{nodes}
use Rattle.jh_seq.specs.sequent.Sequents.{SequentTree}
use Rattle.jh_approx.specs.definition.Shown.{shown}
use Rattle.jh_approx.specs.definition.Links.{is_linked}
use Rattle.jh_query_names.specs.mentioned_names.Notes.{AreInside}
use Rattle.jh_query_names.proofs.mentioned_names.Gatherings.{named-formula}
use Rattle.jh_query_names.proofs.mentioned_names.Listings.{trees-inside}
use Rattle.jh_abstraction.specs.choice_of_hypotheses.Choosing.{IsOver, AreReached, DecideLinks}
use Rattle.jh_abstraction.proofs.choice_of_hypotheses.Askings.{rows-inside}
use Rattle.jh_abstraction.proofs.choice_of_hypotheses.Linkings.{reached-decide}
use Rattle.jh_abstraction.proofs.choice_of_hypotheses.choosing.linked.Goals as goal

pub names_of-requires : goal.names_of-requires
names_of-requires c = slice_get_within (nodes c.args.table.now) c.args.said (of_truth (shown c.requires.0.goal true)) c.requires.1.told

pub reached-requires-clause-rows : goal.reached-requires-clause-rows
reached-requires-clause-rows c = rows-inside (nodes c.args.table.now) c.args.notes.now c.args.places.now c.requires.0.hyps c.requires.1.noted

pub reached-requires-clause-names : goal.reached-requires-clause-names
reached-requires-clause-names c =
    subst (λ (ns : List ℕ). AreInside (nodes c.args.table.now) ns) (sym c.items.ensures) (trees-inside (nodes c.args.table.now) c.in_ok-names.names _ c.in_ok-names.ensures)

pub returns : goal.returns
returns c =
    let ts = nodes c.args.table.now in
    let notes = c.args.notes.now in
    let places = c.args.places.now in
    let names = c.in_ok-names.names in
    IfOk-weaker
    c.reached.result
    (λ made. AreReached ts notes places c.items.result.now made.numbers.keys)
    (λ made. (s : SequentTree) → IsOver ts notes places c.args.goal c.args.said s → DecideLinks ts made.numbers.keys (is_linked s))
    (λ made h s over.
    reached-decide ts c.nodes_differ.ensures.different s (c.linked_is_least.ensures s) notes places over.noted names made.numbers.keys (named-formula ts c.args.said (shown s.goal true) names over.told c.in_ok-names.ensures)
    (subst (λ (ns : List ℕ). AreReached ts notes places ns made.numbers.keys) c.items.ensures h))
    c.reached.ensures
