use Rattle.std.proofs.Common.{sym, ◌∙◌}
use Rattle.jh_arena.proofs.table.Listed.{extends-refl}
use Rattle.jh_substitution.proofs.exchange.Rules.{other-sort}
use Rattle.jh_substitution.proofs.exchange.exchanging.new_at.Goals as goal

pub returns-else-is_of_sort-clause-stands : goal.returns-else-is_of_sort-clause-stands
returns-else-is_of_sort-clause-stands c =
    other-sort c.args.table.now c.args.table.now c.args.rules.old c.args.node c.args.depth (extends-refl c.args.table.now) c.requires.inside c.requires.ready.old c.sort.result c.sort-2.result c.sort.ensures c.sort-2.ensures (sym c.is_of_sort.ensures ∙ c.if-is_of_sort.false)
