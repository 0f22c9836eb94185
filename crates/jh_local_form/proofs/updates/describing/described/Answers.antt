use Rattle.std.proofs.Common.{sym, ap, ◌∙◌, subst, refl, List, slice_get}
use Rattle.jh_name.specs.declared.place.Sort.TheVariants as Sort
use Rattle.jh_form.specs.Tree.{FormulaTree}
use Rattle.jh_form.specs.Sorts.{tree_sort}
use Rattle.jh_arena.specs.table.Entries.{the_value}
use Rattle.jh_arena.specs.table.Nodes.{nodes}
use Rattle.jh_local_form.specs.updates.Describing.{told_as}
use Rattle.jh_local_form.specs.updates.NamedUpdates.{AreTold}
use Rattle.jh_local_form.proofs.updates.Described.{held-as, sort-of, none-described, told-described}
use Rattle.jh_local_form.proofs.updates.describing.described.Goals as goal

pub returns-in-Field-clause-node : goal.returns-in-Field-clause-node
unfolding AreTold
returns-in-Field-clause-node c = λ g f a v hg hf ha hv.
    none-described g f a v (sort-of (nodes c.args.table.now) c.args.value v hv ∙ sym c.sort.ensures ∙ c.in-Field.is)

pub told_as-requires-clause-value : goal.told_as-requires-clause-value
told_as-requires-clause-value c = held-as (nodes c.args.table.now) (tree_sort (the_value (slice_get (nodes c.args.table.now) c.args.value))) c.sort.result c.args.value (sym c.sort.ensures) c.requires.value

pub returns-in_ok-told_as-in_default : goal.returns-in_ok-told_as-in_default
unfolding AreTold
returns-in_ok-told_as-in_default c = record {
  node = λ g f a v hg hf ha hv. (
    told_as c.sort.result g f a v,
    told-described c.sort.result g f a v (sort-of (nodes c.args.table.now) c.args.value v hv ∙ sym c.sort.ensures) c.in_default.not-Field,
    c.in_ok-told_as-in_default.ensures.node g f a v hg hf ha hv,
  );
  grows = c.told_as.ensures.grows;
}
