use Rattle.std.proofs.Common.{◌∙◌}
use Rattle.std.proofs.lemmas.Result.{IfOk-weaker}
use Rattle.jh_arena.specs.table.Nodes.{nodes}
use Rattle.jh_query_names.specs.name_lists.Lists.{lists_of}
use Rattle.jh_abstraction.proofs.translation.SetArms.{told-named}
use Rattle.jh_abstraction.proofs.translation.sets.+sets.Goals as goal

pub told_set-returns-in_default : goal.told_set-returns-in_default
told_set-returns-in_default τ c =
    let names = lists_of (nodes c.args.table.now) c.args.names.now in
    IfOk-weaker c.named_set.result _ _ (λ made e. e
    ∙ told-named c.args.table.now c.args.node names c.standing.result c.standing.ensures c.requires.set
    (c.in_default.not-Empty, c.in_default.not-Univ, c.in_default.not-Single, c.in_default.not-Union, c.in_default.not-Inter, c.in_default.not-Diff, c.in_default.not-Compl))
    c.named_set.ensures
