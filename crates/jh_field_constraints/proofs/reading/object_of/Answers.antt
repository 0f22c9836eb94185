use Rattle.std.proofs.Common.{◌≡◌, refl, sym, ap, subst, ◌∙◌, ◌||◌, not, nat_eq, ℕ, List, Some, slice_get}
use Rattle.std.specs.List.{filter}
use Rattle.std.proofs.lemmas.Result.{IfOk-weaker}
use Rattle.jh_name.specs.declared.naming.Name.{Name}
use Rattle.jh_form.specs.Tree.{TermTree, FieldTree, ValueTree, of_object, free_field, read_object}
use Rattle.jh_arena.specs.table.Entries.{the_value, the_truth, the_object, the_field}
use Rattle.jh_arena.specs.table.Nodes.{nodes, fits_in, tree_in, shape_tree}
use Rattle.jh_arena.specs.declared.table.shapes.Shape.TheVariants as s
use Rattle.jh_arena.proofs.table.PartSteps.{part-ReadObject-a, part-ReadObject-b, part-ReadNumber-a, part-ReadTruth-a, part-ReadSet-a}
use Rattle.jh_normal_forms.specs.parts.Collected.{IsCollected}
use Rattle.jh_normal_forms.specs.parts.Standing.{formula_parts}
use Rattle.jh_normal_forms.specs.declared.parts.order.Order.TheVariants as order
use Rattle.jh_fca.specs.elimination.Reads.{is_read, holds_read, formula_reads}
use Rattle.jh_fca.specs.elimination.Exchanged.{terms_once}
use Rattle.jh_field_constraints.specs.Standing.{IsTerm, AreTerms, AreReads}
use Rattle.jh_field_constraints.specs.Reading.{is_object_read}
use Rattle.jh_field_constraints.proofs.Shapes.{value-as, not-read, not-object-read, no-object-read}
use Rattle.jh_field_constraints.proofs.Holding.{any-held}
use Rattle.jh_field_constraints.proofs.Collected.{collected}
use Rattle.jh_field_constraints.proofs.Standings.{truth-inside, object-of, term-same, value-same, value-inside, parts-same, are-at, are-none, are-next, are-all, are-length}
use Rattle.jh_field_constraints.proofs.reading.object_of.Goals as goal

pub returns-in-ReadObject : goal.returns-in-ReadObject
unfolding shape_tree
returns-in-ReadObject c = λ g a k.
    let f = the_field (slice_get (nodes c.args.table.now) c.in-ReadObject.field-0) in
    let b = the_object (slice_get (nodes c.args.table.now) c.in-ReadObject.at) in
    let there : slice_get (nodes c.args.table.now) c.args.read ≡ Some (of_object (read_object f b)) = c.shape.ensures.tree ∙ ap (λ z. Some (tree_in c.args.table.now z)) c.in-ReadObject.is in
    let whole : read_object f b ≡ read_object g a = term-same (slice_get (nodes c.args.table.now) c.args.read) (read_object f b) (read_object g a) there k in
    let same : b ≡ a = cc in
    object-of (slice_get (nodes c.args.table.now) c.in-ReadObject.at) (part-ReadObject-b c.args.table.now.pools (nodes c.args.table.now) c.in-ReadObject.field-0 c.in-ReadObject.at (ap (fits_in c.args.table.now) (sym c.in-ReadObject.is) ∙ c.shape.ensures.fits)) ∙ ap (λ z. Some (of_object z)) same

pub returns-in_default : goal.returns-in_default
returns-in_default c = λ g a k.
    absurd (no-object-read c.args.table.now.pools (nodes c.args.table.now) c.shape.result g a c.in_default.not-ReadObject (value-same (slice_get (nodes c.args.table.now) c.args.read) (tree_in c.args.table.now c.shape.result) (of_object (read_object g a)) c.shape.ensures.tree k))
