use Rattle.std.proofs.Common.{◌≡◌, refl, sym, ap, subst, ◌∙◌, ◌||◌, not, nat_eq, ℕ, List, Some, slice_get}
use Rattle.std.specs.List.{filter}
use Rattle.std.proofs.lemmas.Result.{IfOk-weaker}
use Rattle.jh_name.specs.declared.naming.Name.{Name}
use Rattle.jh_form.specs.Tree.{TermTree, FieldTree, ValueTree, of_object, free_field, read_object}
use Rattle.jh_arena.specs.table.Entries.{the_value, the_truth, the_object, the_field}
use Rattle.jh_arena.specs.table.Nodes.{nodes, fits_in, tree_in, shape_tree}
use Rattle.jh_arena.specs.declared.table.shapes.Shape.TheVariants as s
use Rattle.jh_arena.proofs.table.PartSteps.{part-ReadObject-a, part-ReadObject-b, part-ReadNumber-a, part-ReadTruth-a, part-ReadSet-a}
use Rattle.jh_normal_forms.specs.parts.Collected.{IsCollected}
use Rattle.jh_normal_forms.specs.parts.Standing.{formula_parts}
use Rattle.jh_normal_forms.specs.declared.parts.order.Order.TheVariants as order
use Rattle.jh_fca.specs.elimination.Reads.{is_read, holds_read, formula_reads}
use Rattle.jh_fca.specs.elimination.Exchanged.{terms_once}
use Rattle.jh_field_constraints.specs.Standing.{IsTerm, AreTerms, AreReads}
use Rattle.jh_field_constraints.specs.Reading.{is_object_read}
use Rattle.jh_field_constraints.proofs.Shapes.{value-as, not-read, not-object-read, no-object-read}
use Rattle.jh_field_constraints.proofs.Holding.{any-held}
use Rattle.jh_field_constraints.proofs.Collected.{collected}
use Rattle.jh_field_constraints.proofs.Standings.{truth-inside, object-of, term-same, value-same, value-inside, parts-same, are-at, are-none, are-next, are-all, are-length}
use Rattle.jh_field_constraints.proofs.reading.holds_read.Goals as goal

pub add_parts-requires : goal.add_parts-requires
add_parts-requires c = record { inside = truth-inside (nodes c.args.table.now) c.args.formula c.requires.formula }

pub returns : goal.returns
unfolding holds_read
returns c =
    ap (λ n. not (nat_eq n 0)) c.len.ensures
    ∙ any-held (nodes c.args.table.now) (is_read c.args.name.now) (slice_get (nodes c.args.table.now) c.args.formula) c.new-list.result c.add_parts.new.self c.requires.formula c.new-list.ensures c.in_ok-add_parts.ensures.parts
