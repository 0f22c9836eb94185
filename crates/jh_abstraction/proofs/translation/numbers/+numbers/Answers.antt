use Rattle.std.proofs.Common.{◌∙◌}
use Rattle.std.proofs.lemmas.Result.{IfOk-weaker}
use Rattle.jh_arena.specs.table.Nodes.{nodes}
use Rattle.jh_query_names.specs.name_lists.Lists.{lists_of}
use Rattle.jh_abstraction.proofs.translation.NumberArms.{told-named}
use Rattle.jh_abstraction.proofs.translation.numbers.+numbers.Goals as goal

pub told_number-returns-in_default : goal.told_number-returns-in_default
told_number-returns-in_default τ c =
    let names = lists_of (nodes c.args.table.now) c.args.names.now in
    IfOk-weaker c.named_number.result _ _ (λ made e. e
    ∙ told-named c.args.table.now c.args.node names c.standing.result c.standing.ensures c.requires.number
    (c.in_default.not-Const, c.in_default.not-Add, c.in_default.not-Sub, c.in_default.not-Neg, c.in_default.not-Scale, c.in_default.not-Card))
    c.named_number.ensures
