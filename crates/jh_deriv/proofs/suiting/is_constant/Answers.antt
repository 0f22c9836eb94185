use Rattle.std.proofs.Common.{sym, ap, ◌∙◌}
use Rattle.jh_arena.specs.table.Entries.{is_number, the_number}
use Rattle.jh_arena.specs.table.Nodes.{nodes, shape_tree}
use Rattle.jh_deriv.specs.Replays.{is_const}
use Rattle.jh_deriv.proofs.Sights.{const-none}
use Rattle.jh_deriv.proofs.suiting.is_constant.Goals as goal

pub returns-in-Const : goal.returns-in-Const
unfolding shape_tree the_number is_const
returns-in-Const c = sym (ap (λ o. is_const (the_number o)) c.in-Const.ensures.tree)

pub returns-in_default : goal.returns-in_default
unfolding is_number
returns-in_default c = sym (ap (λ o. is_const (the_number o)) c.shape.ensures.tree ∙ const-none c.args.table.now.pools (nodes c.args.table.now) c.shape.result (sym (ap is_number c.shape.ensures.tree) ∙ ap is_number c.requires) c.in_default.not-Const)
