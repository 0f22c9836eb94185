use Rattle.std.proofs.Common.{◌≡◌, refl, sym, ap, subst, ◌∙◌, ◌||◌, not, nat_eq, ℕ, List, Some, slice_get}
use Rattle.std.specs.List.{filter}
use Rattle.std.proofs.lemmas.Result.{IfOk-weaker}
use Rattle.jh_name.specs.declared.naming.Name.{Name}
use Rattle.jh_form.specs.Tree.{TermTree, FieldTree, ValueTree, of_object, free_field, read_object}
use Rattle.jh_arena.specs.table.Entries.{the_value, the_truth, the_object, the_field}
use Rattle.jh_arena.specs.table.Nodes.{nodes, fits_in, tree_in, shape_tree}
use Rattle.jh_arena.specs.declared.table.shapes.Shape.TheVariants as s
use Rattle.jh_arena.proofs.table.PartSteps.{part-ReadObject-a, part-ReadObject-b, part-ReadNumber-a, part-ReadTruth-a, part-ReadSet-a}
use Rattle.jh_normal_forms.specs.parts.Collected.{IsCollected}
use Rattle.jh_normal_forms.specs.parts.Standing.{formula_parts}
use Rattle.jh_normal_forms.specs.declared.parts.order.Order.TheVariants as order
use Rattle.jh_fca.specs.elimination.Reads.{is_read, holds_read, formula_reads}
use Rattle.jh_fca.specs.elimination.Exchanged.{terms_once}
use Rattle.jh_field_constraints.specs.Standing.{IsTerm, AreTerms, AreReads}
use Rattle.jh_field_constraints.specs.Reading.{is_object_read}
use Rattle.jh_field_constraints.proofs.Shapes.{value-as, not-read, not-object-read, no-object-read}
use Rattle.jh_field_constraints.proofs.Holding.{any-held}
use Rattle.jh_field_constraints.proofs.Collected.{collected}
use Rattle.jh_field_constraints.proofs.Standings.{truth-inside, object-of, term-same, value-same, value-inside, parts-same, are-at, are-none, are-next, are-all, are-length}
use Rattle.jh_field_constraints.proofs.reading.reads_of.Goals as goal

pub add_parts-requires : goal.add_parts-requires
add_parts-requires c = record { inside = truth-inside (nodes c.args.table.now) c.args.atom c.requires.atom.local.there }

pub objects_of-requires : goal.objects_of-requires
objects_of-requires c =
    let ts = (nodes c.args.table.now) in
    let o = slice_get ts c.args.atom in
    let f = c.args.name.now in
    record {
      list = (
        f,
        terms_once (formula_reads (the_truth o) f),
        collected c.args.table.now f (the_truth o) c.new-list.result c.add_parts.new.self c.nodes_differ.ensures.different c.requires.atom.atom c.requires.atom.local.shaped c.new-list.ensures
            (subst (λ (vs : List ValueTree). IsCollected ts c.new-list.result (filter (is_object_read f) vs) c.add_parts.new.self) (parts-same o c.requires.atom.local.there) c.in_ok-add_parts.ensures.parts),
      );
    }

pub returns : goal.returns
returns c =
    let ts = (nodes c.args.table.now) in
    let o = slice_get ts c.args.atom in
    let f = c.args.name.now in
    IfOk-weaker
    c.objects_of.result
    (λ made. (g : Name) (reads : List TermTree) → AreReads c.args.table.now g c.add_parts.new.self reads → AreTerms c.args.table.now made.items reads)
    (λ made. AreTerms c.args.table.now made.items (terms_once (formula_reads (the_truth o) f)))
    (λ made h. h f (terms_once (formula_reads (the_truth o) f))
    (collected c.args.table.now f (the_truth o) c.new-list.result c.add_parts.new.self c.nodes_differ.ensures.different c.requires.atom.atom c.requires.atom.local.shaped c.new-list.ensures
    (subst (λ (vs : List ValueTree). IsCollected ts c.new-list.result (filter (is_object_read f) vs) c.add_parts.new.self) (parts-same o c.requires.atom.local.there) c.in_ok-add_parts.ensures.parts)))
    c.objects_of.ensures
