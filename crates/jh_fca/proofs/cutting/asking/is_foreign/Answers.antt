use Rattle.std.proofs.Common.{refl, sym, ap, ◌∙◌, true, false, slice_get}
use Rattle.jh_arena.specs.table.Entries.{the_value}
use Rattle.jh_arena.specs.table.Nodes.{nodes, fits_in, shape_tree}
use Rattle.jh_arena.specs.declared.table.shapes.Shape.TheVariants as s
use Rattle.jh_arena.proofs.table.PartSteps.{part-EqNumber-a, part-EqNumber-b}
use Rattle.jh_fca.specs.cutting.Cut.{is_foreign}
use Rattle.jh_fca.proofs.cutting.Foreigns.{foreign-of, not-foreign}
use Rattle.jh_fca.proofs.cutting.asking.is_foreign.Goals as goal

pub returns-in-Update : goal.returns-in-Update
unfolding shape_tree the_value is_foreign
returns-in-Update c = foreign-of c.args.table.now.pools (nodes c.args.table.now) (slice_get (nodes c.args.table.now) c.args.node) c.shape.result (s.Update c.in-Update.field-0 c.in-Update.field-1 c.in-Update.field-2) true c.shape.ensures.tree c.in-Update.is refl

pub returns-in-Less : goal.returns-in-Less
unfolding shape_tree the_value is_foreign
returns-in-Less c = foreign-of c.args.table.now.pools (nodes c.args.table.now) (slice_get (nodes c.args.table.now) c.args.node) c.shape.result (s.Less c.in-Less.field-0 c.in-Less.field-1) true c.shape.ensures.tree c.in-Less.is refl

pub returns-in-LessEqual : goal.returns-in-LessEqual
unfolding shape_tree the_value is_foreign
returns-in-LessEqual c = foreign-of c.args.table.now.pools (nodes c.args.table.now) (slice_get (nodes c.args.table.now) c.args.node) c.shape.result (s.LessEqual c.in-LessEqual.field-0 c.in-LessEqual.field-1) true c.shape.ensures.tree c.in-LessEqual.is refl

pub returns-in-Divides : goal.returns-in-Divides
unfolding shape_tree the_value is_foreign
returns-in-Divides c = foreign-of c.args.table.now.pools (nodes c.args.table.now) (slice_get (nodes c.args.table.now) c.args.node) c.shape.result (s.Divides c.in-Divides.field-0 c.in-Divides.field-1) true c.shape.ensures.tree c.in-Divides.is refl

pub are_foreign-requires : goal.are_foreign-requires
are_foreign-requires c =
    let v = c.args.table.now in
    let fits = ap (fits_in v) (sym c.in-EqNumber.is) ∙ c.shape.ensures.fits in
    record { a = part-EqNumber-a v.pools (nodes v) c.in-EqNumber.a c.in-EqNumber.b fits; b = part-EqNumber-b v.pools (nodes v) c.in-EqNumber.a c.in-EqNumber.b fits }

pub returns-in-EqNumber : goal.returns-in-EqNumber
unfolding shape_tree the_value is_foreign
returns-in-EqNumber c =
    foreign-of c.args.table.now.pools (nodes c.args.table.now) (slice_get (nodes c.args.table.now) c.args.node) c.shape.result (s.EqNumber c.in-EqNumber.a c.in-EqNumber.b) c.are_foreign.result c.shape.ensures.tree c.in-EqNumber.is c.are_foreign.ensures

pub returns-in_default : goal.returns-in_default
returns-in_default c =
    foreign-of c.args.table.now.pools (nodes c.args.table.now) (slice_get (nodes c.args.table.now) c.args.node) c.shape.result c.shape.result false c.shape.ensures.tree refl
    (not-foreign c.args.table.now.pools (nodes c.args.table.now) c.shape.result c.in_default.not-Update c.in_default.not-Less c.in_default.not-LessEqual c.in_default.not-Divides c.in_default.not-EqNumber)
