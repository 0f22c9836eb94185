use Rattle.std.proofs.Common.{sym, ◌∙◌}
use Rattle.std.proofs.lemmas.List.{length-map}
use Rattle.jh_arena.specs.table.Nodes.{nodes}
use Rattle.jh_approx.specs.definition.Regions.{query_over}
use Rattle.jh_query_names.specs.query_names.Kinds.{value_at}
use Rattle.jh_abstraction.proofs.translation.querying.query_over.Goals as goal

pub returns : goal.returns
unfolding query_over
returns c =
    let at = value_at (nodes c.args.table.now) in
    let counts = c.in_ok-counts.ensures in
    let names = c.args.names.now in
    λ i. record {
      sets = (counts.sets ∙ sym (length-map names.sets.keys at)) i;
      elements = (counts.elements ∙ sym (length-map names.elements.keys at)) i;
      numbers = (counts.numbers ∙ sym (length-map names.numbers.keys at)) i;
      flags = (counts.flags ∙ sym (length-map names.flags.keys at)) i;
      hyps = c.in_ok-hyps.ensures i;
      goal = c.in_ok-goal.ensures i;
    }
