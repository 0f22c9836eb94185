use Rattle.std.proofs.Common.{◌≡◌, ap, ◌∙◌, Some, slice_get}
use Rattle.std.proofs.lemmas.Result.{IfOk-weaker}
use Rattle.jh_substitution.specs.jh_boxed_operations.comparison.Unmarked.{unmarked_value}
use Rattle.jh_arena.specs.table.Entries.{the_value}
use Rattle.jh_arena.specs.table.Nodes.{nodes}
use Rattle.jh_normal_forms.specs.declared.rebuilding.polarity.Polarity.TheVariants as pol
use Rattle.jh_normal_forms.specs.rebuilding.Walking.{built_at}
use Rattle.jh_normal_forms.specs.negation_normal_form.Unlabelling.{unlabelling}
use Rattle.jh_normal_forms.proofs.negation_normal_form.Labels.{value-at}
use Rattle.jh_normal_forms.proofs.negation_normal_form.unlabelling.unlabelled.Goals as goal

pub returns-clause-tree : goal.returns-clause-tree
returns-clause-tree c =
    let v = the_value (slice_get (nodes c.args.table.now) c.args.node) in
    IfOk-weaker
    c.rebuild.result
    (λ made. slice_get (nodes c.rebuild.new.table) made ≡ Some (built_at v unlabelling pol.Both))
    (λ made. slice_get (nodes c.rebuild.new.table) made ≡ Some (unmarked_value v))
    (λ made at. at ∙ ap (λ w. Some w) (value-at v))
    c.rebuild.ensures.tree
