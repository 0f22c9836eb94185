use Rattle.std.proofs.Common.{false, ◌≡◌, refl, sym, ap, subst, ◌∙◌, ◌||◌, not, nat_eq, ℕ, List, Some, slice_get}
use Rattle.std.specs.List.{filter}
use Rattle.std.proofs.lemmas.Result.{IfOk-weaker}
use Rattle.jh_name.specs.declared.naming.Name.{Name}
use Rattle.jh_form.specs.Tree.{TermTree, FieldTree, ValueTree, of_object, free_field, read_object}
use Rattle.jh_arena.specs.table.Entries.{the_value, the_truth, the_object, the_field}
use Rattle.jh_arena.specs.table.Nodes.{nodes, fits_in, tree_in, shape_tree}
use Rattle.jh_arena.specs.declared.table.shapes.Shape.TheVariants as s
use Rattle.jh_arena.proofs.table.PartSteps.{part-ReadObject-a, part-ReadObject-b, part-ReadNumber-a, part-ReadTruth-a, part-ReadSet-a}
use Rattle.jh_normal_forms.specs.parts.Collected.{IsCollected}
use Rattle.jh_normal_forms.specs.parts.Standing.{formula_parts}
use Rattle.jh_normal_forms.specs.declared.parts.order.Order.TheVariants as order
use Rattle.jh_fca.specs.elimination.Reads.{is_read, holds_read, formula_reads}
use Rattle.jh_fca.specs.elimination.Exchanged.{terms_once}
use Rattle.jh_field_constraints.specs.Standing.{IsTerm, AreTerms, AreReads}
use Rattle.jh_field_constraints.specs.Reading.{is_object_read}
use Rattle.jh_field_constraints.proofs.Shapes.{value-as, not-read, not-object-read, no-object-read}
use Rattle.jh_field_constraints.proofs.Holding.{any-held}
use Rattle.jh_field_constraints.proofs.Collected.{collected}
use Rattle.jh_field_constraints.proofs.Standings.{truth-inside, object-of, term-same, value-same, value-inside, parts-same, are-at, are-none, are-next, are-all, are-length}
use Rattle.jh_field_constraints.proofs.reading.ObjectReadsPartTest.asks.Goals as goal

pub is_name-requires : goal.is_name-requires
is_name-requires c = record { field = part-ReadObject-a c.args.table.now.pools (nodes c.args.table.now) c.in-ReadObject.field c.in-ReadObject.field-1 (ap (fits_in c.args.table.now) (sym c.in-ReadObject.is) ∙ c.shape.ensures.fits) }

pub returns-in-ReadObject : goal.returns-in-ReadObject
unfolding shape_tree the_value is_object_read
returns-in-ReadObject c =
    value-as c.args.table.now.pools (nodes c.args.table.now) (is_object_read c.args.self.now.name.now) (slice_get (nodes c.args.table.now) c.args.node) c.shape.result (s.ReadObject c.in-ReadObject.field c.in-ReadObject.field-1) c.is_name.result c.shape.ensures.tree c.in-ReadObject.is c.is_name.ensures

pub returns-in_default : goal.returns-in_default
returns-in_default c =
    value-as c.args.table.now.pools (nodes c.args.table.now) (is_object_read c.args.self.now.name.now) (slice_get (nodes c.args.table.now) c.args.node) c.shape.result c.shape.result false c.shape.ensures.tree refl
    (not-object-read c.args.table.now.pools (nodes c.args.table.now) c.args.self.now.name.now c.shape.result c.in_default.not-ReadObject)
