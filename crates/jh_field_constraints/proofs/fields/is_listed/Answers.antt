use Rattle.std.proofs.Common.{◌≡◌, ◌≤◌, refl, sym, ap, subst, ◌∙◌, ◌+◌, ◌++◌, ◌∷◌, [], ◌||◌, not, nat_eq, true, false, if◌then◌else◌, List, map, take, drop, length, Option, None, Some, slice_get, is_some, arith, add-one}
use Rattle.std.specs.Prelude.{filter}
use Rattle.std.specs.List.{list_any, list_all, flat_map}
use Rattle.std.proofs.lemmas.List.{drop_all, take_all}
use Rattle.std.proofs.lemmas.Result.{IfOk-weaker, on_ok_weaker}
use Rattle.indexmap.specs.IndexSet.{insert_key, insert_all}
use Rattle.jh_name.specs.declared.naming.Name.{Name}
use Rattle.jh_form.specs.Tree.{FormulaTree, of_truth, of_field, free_field}
use Rattle.jh_form.specs.Passing.{name_equal}
use Rattle.jh_arena.specs.table.Entries.{is_truth, the_truth, the_value, the_list, fields_at}
use Rattle.jh_arena.specs.table.Nodes.{nodes, fits_in, tree_in, shape_tree}
use Rattle.jh_arena.specs.declared.table.shapes.Shape.TheVariants as s
use Rattle.jh_arena.proofs.table.PartSteps.{part-Reach-l, part-Reach-fields, part-Tree-l, part-Tree-fields}
use Rattle.jh_seq.specs.sequent.Sequents.{HypTree, SequentTree}
use Rattle.jh_seq.specs.splitting.Local.{has_local_shape, is_local}
use Rattle.jh_reach.specs.Standing.{AreFormulas}
use Rattle.jh_reach.proofs.Standings.{formula-of, formulas-length}
use Rattle.jh_normal_forms.specs.declared.parts.order.Order.TheVariants as order
use Rattle.jh_fca.specs.elimination.Constraints.{is_name, constraint_in}
use Rattle.jh_fca.specs.elimination.Derived.{constrained, derived, fields_of, is_listed, is_listed_in, names_once}
use Rattle.jh_field_constraints.specs.Standing.{IsNamed, IsFormula, AreNames, IsSequent}
use Rattle.jh_field_constraints.specs.Reading.{is_among, is_along}
use Rattle.jh_field_constraints.proofs.Shapes.{value-as, not-along}
use Rattle.jh_field_constraints.proofs.Holding.{any-held, listed-local, among-found, among-next, among-none, fields-among}
use Rattle.jh_field_constraints.proofs.Onces.{names-inserted}
use Rattle.jh_field_constraints.proofs.Listings.{drop-next, hyp-at, local-goal, local-fact, listed-first, listed-last, no-more, constrained-next, none-constrained, derived-next, none-derived, derived-all, fact-there, local-there, added-if}
use Rattle.jh_field_constraints.proofs.Standings.{truth-of, truth-there, truth-inside, some-inside, are-at, are-none, are-push, are-length, are-said, are-lent, inserted, names-tell}
use Rattle.jh_field_constraints.proofs.fields.is_listed.Goals as goal

pub add_parts-requires : goal.add_parts-requires
add_parts-requires c = record { inside = truth-inside (nodes c.args.table.now) c.args.formula c.requires.formula.there }

pub returns : goal.returns
returns c =
    ap (λ n. not (nat_eq n 0)) c.len.ensures
    ∙ any-held (nodes c.args.table.now) (is_along c.args.name.now) (slice_get (nodes c.args.table.now) c.args.formula) c.new-list.result c.add_parts.new.self c.requires.formula.there c.new-list.ensures c.in_ok-add_parts.ensures.parts
    ∙ listed-local c.args.name.now (the_truth (slice_get (nodes c.args.table.now) c.args.formula)) c.requires.formula.shaped
