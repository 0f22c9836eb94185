use Rattle.std.proofs.Common.{◌∙◌, sym, slice_get}
use Rattle.jh_arena.specs.table.Entries.{the_value}
use Rattle.jh_arena.specs.table.Nodes.{nodes}
use Rattle.jh_normal_forms.proofs.parts.Askings.{object-asked, other-asked}
use Rattle.jh_normal_forms.proofs.parts.asking.ClosedObjectsPartTest.asks.Goals as goal

pub returns-in-Obj : goal.returns-in-Obj
returns-in-Obj c =
    object-asked (the_value (slice_get (nodes c.args.table.now) c.args.node)) c.is_closed.result (sym c.sort.ensures ∙ c.in-Obj.is) c.is_closed.ensures

pub returns-in_default : goal.returns-in_default
returns-in_default c =
    other-asked (the_value (slice_get (nodes c.args.table.now) c.args.node)) (λ e. c.in_default.not-Obj (c.sort.ensures ∙ e))
