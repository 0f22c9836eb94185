use Rattle.std.proofs.Common.{◌≡◌, ◌≤◌, refl, sym, ap, subst, ◌∙◌, ◌+◌, ◌++◌, ◌∷◌, [], ◌||◌, not, nat_eq, true, false, if◌then◌else◌, List, map, take, drop, length, Option, None, Some, slice_get, is_some, arith, add-one}
use Rattle.std.specs.Prelude.{filter}
use Rattle.std.specs.List.{list_any, list_all, flat_map}
use Rattle.std.proofs.lemmas.List.{drop_all, take_all}
use Rattle.std.proofs.lemmas.Result.{IfOk-weaker, on_ok_weaker}
use Rattle.indexmap.specs.IndexSet.{insert_key, insert_all}
use Rattle.jh_name.specs.declared.naming.Name.{Name}
use Rattle.jh_form.specs.Tree.{FormulaTree, of_truth, of_field, free_field}
use Rattle.jh_form.specs.Passing.{name_equal}
use Rattle.jh_arena.specs.table.Entries.{is_truth, the_truth, the_value, the_list, are_fields, fields_at}
use Rattle.jh_arena.specs.table.Nodes.{nodes, fits_in, tree_in, shape_tree}
use Rattle.jh_arena.specs.declared.table.shapes.Shape.TheVariants as s
use Rattle.jh_arena.proofs.table.PartSteps.{part-Reach-l, part-Reach-fields, part-Tree-l, part-Tree-fields}
use Rattle.jh_seq.specs.sequent.Sequents.{HypTree, SequentTree}
use Rattle.jh_seq.specs.splitting.Local.{has_local_shape, is_local}
use Rattle.jh_reach.specs.Standing.{AreFormulas}
use Rattle.jh_reach.proofs.Standings.{formula-of, formulas-length}
use Rattle.jh_normal_forms.specs.declared.parts.order.Order.TheVariants as order
use Rattle.jh_fca.specs.elimination.Constraints.{is_name, constraint_in}
use Rattle.jh_fca.specs.elimination.Derived.{constrained, derived, fields_of, is_listed, is_listed_in, names_once}
use Rattle.jh_field_constraints.specs.Standing.{IsNamed, IsFormula, AreNames, IsSequent}
use Rattle.jh_field_constraints.specs.Reading.{is_among, is_along}
use Rattle.jh_field_constraints.proofs.Shapes.{value-as, not-along}
use Rattle.jh_field_constraints.proofs.Holding.{any-held, listed-local, among-found, among-next, among-none, fields-among}
use Rattle.jh_field_constraints.proofs.Onces.{names-inserted}
use Rattle.jh_field_constraints.proofs.Listings.{drop-next, hyp-at, local-goal, local-fact, listed-first, listed-last, no-more, constrained-next, none-constrained, derived-next, none-derived, derived-all, fact-there, local-there, added-if}
use Rattle.jh_field_constraints.proofs.Standings.{truth-of, truth-there, truth-inside, some-inside, are-at, are-none, are-push, are-length, are-said, are-lent, inserted, names-tell}
use Rattle.jh_field_constraints.proofs.fields.AlongPartTest.asks.Goals as goal

pub list_at-requires : goal.list_at-requires
list_at-requires c = some-inside c.args.table.now.pools.lists c.in-Reach.list (part-Reach-l c.args.table.now.pools (nodes c.args.table.now) c.in-Reach.list c.in-Reach.field-1 c.in-Reach.field-2 (ap (fits_in c.args.table.now) (sym c.in-Reach.is) ∙ c.shape.ensures.fits))

pub is_among-requires : goal.is_among-requires
unfolding the_list
is_among-requires c = record { fields = ap (λ o. are_fields (nodes c.args.table.now) (the_list o)) (sym c.list_at.ensures) ∙ part-Reach-fields c.args.table.now.pools (nodes c.args.table.now) c.in-Reach.list c.in-Reach.field-1 c.in-Reach.field-2 (ap (fits_in c.args.table.now) (sym c.in-Reach.is) ∙ c.shape.ensures.fits) }

pub returns-in-Reach : goal.returns-in-Reach
unfolding shape_tree the_value the_list is_along
returns-in-Reach c =
    value-as c.args.table.now.pools (nodes c.args.table.now) (is_along c.args.self.now.name.now) (slice_get (nodes c.args.table.now) c.args.node) c.shape.result (s.Reach c.in-Reach.list c.in-Reach.field-1 c.in-Reach.field-2) c.is_among.result c.shape.ensures.tree c.in-Reach.is
    (c.is_among.ensures ∙ ap (λ o. is_among c.args.self.now.name.now (fields_at (nodes c.args.table.now) (the_list o))) (sym c.list_at.ensures))

pub list_at-requires-in-Tree : goal.list_at-requires-in-Tree
list_at-requires-in-Tree c = some-inside c.args.table.now.pools.lists c.in-Tree.list (part-Tree-l c.args.table.now.pools (nodes c.args.table.now) c.in-Tree.list (ap (fits_in c.args.table.now) (sym c.in-Tree.is) ∙ c.shape.ensures.fits))

pub is_among-requires-in-Tree : goal.is_among-requires-in-Tree
unfolding the_list
is_among-requires-in-Tree c = record { fields = ap (λ o. are_fields (nodes c.args.table.now) (the_list o)) (sym c.list_at-in-Tree.ensures) ∙ part-Tree-fields c.args.table.now.pools (nodes c.args.table.now) c.in-Tree.list (ap (fits_in c.args.table.now) (sym c.in-Tree.is) ∙ c.shape.ensures.fits) }

pub returns-in-Tree : goal.returns-in-Tree
unfolding shape_tree the_value the_list is_along
returns-in-Tree c =
    value-as c.args.table.now.pools (nodes c.args.table.now) (is_along c.args.self.now.name.now) (slice_get (nodes c.args.table.now) c.args.node) c.shape.result (s.Tree c.in-Tree.list) c.is_among-in-Tree.result c.shape.ensures.tree c.in-Tree.is
    (c.is_among-in-Tree.ensures ∙ ap (λ o. is_among c.args.self.now.name.now (fields_at (nodes c.args.table.now) (the_list o))) (sym c.list_at-in-Tree.ensures))

pub returns-in_default : goal.returns-in_default
returns-in_default c =
    value-as c.args.table.now.pools (nodes c.args.table.now) (is_along c.args.self.now.name.now) (slice_get (nodes c.args.table.now) c.args.node) c.shape.result c.shape.result false c.shape.ensures.tree refl
    (not-along c.args.table.now.pools (nodes c.args.table.now) c.args.self.now.name.now c.shape.result c.in_default.not-Reach c.in_default.not-Tree)
