use Rattle.std.proofs.Common.{ap, ◌∙◌, map}
use Rattle.std.proofs.lemmas.Result.{IfOk-weaker}
use Rattle.jh_containers.specs.connected_component.Reaching.{IsReach}
use Rattle.jh_arena.specs.table.Nodes.{nodes}
use Rattle.jh_abstraction.specs.choice_of_hypotheses.Choosing.{AreReached, linking_names, linking_row}
use Rattle.jh_abstraction.proofs.choice_of_hypotheses.Lists.{reach-at}
use Rattle.jh_abstraction.proofs.choice_of_hypotheses.reached.reached.Goals as goal

pub returns : goal.returns
returns c =
    let ts = nodes c.args.table.now in
    let few = c.has_links-few.ensures in
    let rows = c.as_slice.ensures.value ∙ c.in_ok-rows.ensures ∙ ap (λ b. map (linking_row ts b c.args.notes.now) c.args.places.now) few in
    let start = c.items.ensures ∙ c.in_ok-start.ensures ∙ ap (λ b. linking_names ts b c.args.names.now) few in
    IfOk-weaker
    c.reach.result
    (λ made. IsReach c.as_slice.result.now c.items.result.now made.numbers.keys)
    (λ made. AreReached ts c.args.notes.now c.args.places.now c.args.names.now made.numbers.keys)
    (λ made h. reach-at c.as_slice.result.now _ c.items.result.now _ made.numbers.keys rows start h)
    c.reach.ensures
