use Rattle.std.proofs.Common.{arith, ◌≡◌, refl, sym, ap, subst, ◌∙◌, ◌||◌, not, nat_eq, ℕ, List, Some, slice_get}
use Rattle.std.specs.List.{filter}
use Rattle.std.proofs.lemmas.Result.{IfOk-weaker}
use Rattle.jh_name.specs.declared.naming.Name.{Name}
use Rattle.jh_form.specs.Tree.{TermTree, FieldTree, ValueTree, of_object, free_field, read_object}
use Rattle.jh_arena.specs.table.Entries.{the_value, the_truth, the_object, the_field}
use Rattle.jh_arena.specs.table.Nodes.{nodes, fits_in, tree_in, shape_tree}
use Rattle.jh_arena.specs.declared.table.shapes.Shape.TheVariants as s
use Rattle.jh_arena.proofs.table.PartSteps.{part-ReadObject-a, part-ReadObject-b, part-ReadNumber-a, part-ReadTruth-a, part-ReadSet-a}
use Rattle.jh_normal_forms.specs.parts.Collected.{IsCollected}
use Rattle.jh_normal_forms.specs.parts.Standing.{formula_parts}
use Rattle.jh_normal_forms.specs.declared.parts.order.Order.TheVariants as order
use Rattle.jh_fca.specs.elimination.Reads.{is_read, holds_read, formula_reads}
use Rattle.jh_fca.specs.elimination.Exchanged.{terms_once}
use Rattle.jh_field_constraints.specs.Standing.{IsTerm, AreTerms, AreReads}
use Rattle.jh_field_constraints.specs.Reading.{is_object_read}
use Rattle.jh_field_constraints.proofs.Shapes.{value-as, not-read, not-object-read, no-object-read}
use Rattle.jh_field_constraints.proofs.Holding.{any-held}
use Rattle.jh_field_constraints.proofs.Collected.{collected}
use Rattle.jh_field_constraints.proofs.Standings.{truth-inside, object-of, term-same, value-same, value-inside, parts-same, are-at, are-none, are-next, are-all, are-length}
use Rattle.jh_field_constraints.specs.Standing.{IsRead}
use Rattle.jh_field_constraints.proofs.reading.objects_of.Goals as goal

pub loop-place-init : goal.loop-place-init
loop-place-init c = λ f reads are. are-none (IsTerm c.args.table.now) c.new-made.result.items c.new-made.ensures.items

pub object_of-requires : goal.object_of-requires
object_of-requires c =
    let f = c.requires.list.0 in
    let there = are-at (IsRead c.args.table.now f) c.args.list.now c.requires.list.1 c.loop-place.place c.at.result c.requires.list.2 c.at.ensures in
    record { inside = value-inside (nodes c.args.table.now) c.at.result (of_object (read_object (free_field f) there.0)) there.2 }

pub loop-place-preserved : goal.loop-place-preserved
loop-place-preserved c = λ f reads are.
    let there = are-at (IsRead c.args.table.now f) c.args.list.now reads c.loop-place.place c.at.result are c.at.ensures in
    are-next (IsTerm c.args.table.now) reads c.loop-place.place c.object_of.result there.0 c.loop-place.made.items c.push.new.self.items (c.loop-place.invariant f reads are) there.1 (c.object_of.ensures (free_field f) there.0 there.2) c.in_ok-push.ensures.items

pub returns : goal.returns
returns c = λ f reads are.
    let long = are-length (IsRead c.args.table.now f) c.args.list.now reads are in
    are-all (IsTerm c.args.table.now) reads c.loop-place.place c.loop-place.made.items (search (arith, long)) (c.loop-place.invariant f reads are)
