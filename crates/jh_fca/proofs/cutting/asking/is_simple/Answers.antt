use Rattle.std.proofs.Common.{refl, sym, ap, ◌∙◌, true, false, slice_get}
use Rattle.jh_arena.specs.table.Entries.{is_number, the_number}
use Rattle.jh_arena.specs.table.Nodes.{nodes, shape_tree}
use Rattle.jh_arena.specs.declared.table.shapes.Shape.TheVariants as s
use Rattle.jh_fca.specs.cutting.Cut.{is_simple}
use Rattle.jh_fca.proofs.cutting.Foreigns.{simple-of, not-simple}
use Rattle.jh_fca.proofs.cutting.Standing.{number-inside}
use Rattle.jh_fca.proofs.cutting.asking.is_simple.Goals as goal

pub shape-requires : goal.shape-requires
shape-requires c = number-inside (nodes c.args.table.now) c.args.node c.requires.number

pub returns-in-Const : goal.returns-in-Const
unfolding shape_tree the_number is_simple
returns-in-Const c = simple-of c.args.table.now.pools (nodes c.args.table.now) (slice_get (nodes c.args.table.now) c.args.node) c.shape.result (s.Const c.in-Const.field-0) true c.shape.ensures.tree c.in-Const.is refl

pub returns-in-FreeNumber : goal.returns-in-FreeNumber
unfolding shape_tree the_number is_simple
returns-in-FreeNumber c = simple-of c.args.table.now.pools (nodes c.args.table.now) (slice_get (nodes c.args.table.now) c.args.node) c.shape.result (s.FreeNumber c.in-FreeNumber.field-0) true c.shape.ensures.tree c.in-FreeNumber.is refl

pub returns-in-ReadNumber : goal.returns-in-ReadNumber
unfolding shape_tree the_number is_simple
returns-in-ReadNumber c = simple-of c.args.table.now.pools (nodes c.args.table.now) (slice_get (nodes c.args.table.now) c.args.node) c.shape.result (s.ReadNumber c.in-ReadNumber.field-0 c.in-ReadNumber.field-1) true c.shape.ensures.tree c.in-ReadNumber.is refl

pub returns-in_default : goal.returns-in_default
returns-in_default c =
    simple-of c.args.table.now.pools (nodes c.args.table.now) (slice_get (nodes c.args.table.now) c.args.node) c.shape.result c.shape.result false c.shape.ensures.tree refl
    (not-simple c.args.table.now.pools (nodes c.args.table.now) c.shape.result c.in_default.not-Const c.in_default.not-FreeNumber c.in_default.not-ReadNumber (ap is_number (sym c.shape.ensures.tree) ∙ c.requires.number))
