use Rattle.std.proofs.Common.{◌∙◌}
use Rattle.std.proofs.lemmas.Result.{IfOk-weaker}
use Rattle.jh_arena.specs.table.Nodes.{nodes}
use Rattle.jh_query_names.specs.name_lists.Lists.{lists_of}
use Rattle.jh_abstraction.proofs.translation.CondArms.{told-flag}
use Rattle.jh_abstraction.proofs.translation.conds.+conds.Goals as goal

pub told_cond-returns-in_default : goal.told_cond-returns-in_default
told_cond-returns-in_default τ c =
    let names = lists_of (nodes c.args.table.now) c.args.names.now in
    IfOk-weaker c.flag.result _ _ (λ made e. e
    ∙ told-flag c.args.table.now c.args.node names c.standing.result c.standing.ensures c.requires.truth
    (c.in_default.not-True, c.in_default.not-False, c.in_default.not-Negation, c.in_default.not-And, c.in_default.not-Or, c.in_default.not-Implies, c.in_default.not-Iff, c.in_default.not-EqObject, c.in_default.not-EqNumber, c.in_default.not-EqSet, c.in_default.not-Less, c.in_default.not-LessEqual, c.in_default.not-Divides, c.in_default.not-Member, c.in_default.not-Subset))
    c.flag.ensures
