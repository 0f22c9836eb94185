use Rattle.std.proofs.Common.{ap, ◌∙◌}
use Rattle.std.proofs.lemmas.Result.{IfOk-weaker}
use Rattle.jh_arena.specs.table.Nodes.{nodes}
use Rattle.jh_query.specs.queries.Bare.{set_tree}
use Rattle.jh_query.specs.queries.Tree as q
use Rattle.jh_query.proofs.queries.Steps.{set_tree-One}
use Rattle.jh_query_names.specs.name_lists.Lists.{lists_of}
use Rattle.jh_abstraction.proofs.translation.SetArms.{told-single}
use Rattle.jh_abstraction.proofs.translation.sets.single.Goals as goal

pub returns : goal.returns
returns c =
    let names = lists_of (nodes c.args.table.now) c.args.names.now in
    IfOk-weaker c.boxed.result _ _ (λ made e. ap set_tree e ∙ set_tree-One c.in_ok-place.place
    ∙ (λ j. q.one (c.in_ok-place.ensures j))
    ∙ told-single c.args.table.now c.args.node names c.args.a c.requires.stands)
    c.boxed.ensures
