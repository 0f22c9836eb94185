use Rattle.std.proofs.Common.{◌≡◌, ap, ◌∙◌, Some, slice_get}
use Rattle.std.proofs.lemmas.Result.{IfOk-weaker}
use Rattle.jh_form.specs.Tree.{of_truth}
use Rattle.jh_arena.specs.table.Entries.{the_truth, the_value}
use Rattle.jh_arena.specs.table.Nodes.{nodes}
use Rattle.jh_normal_forms.specs.declared.rebuilding.polarity.Polarity.TheVariants as pol
use Rattle.jh_normal_forms.specs.rebuilding.Walking.{built_at}
use Rattle.jh_fca.specs.cutting.Cut.{opening_iffs, iffs_opened}
use Rattle.jh_fca.proofs.cutting.Arms.{iffs-at}
use Rattle.jh_fca.proofs.cutting.Standing.{truth-inside}
use Rattle.jh_fca.proofs.cutting.iffs.iffs_opened.Goals as goal

pub rebuild-requires : goal.rebuild-requires
rebuild-requires c = record { inside = truth-inside (nodes c.args.table.now) c.args.formula c.requires.formula }

pub returns-clause-tree : goal.returns-clause-tree
returns-clause-tree c =
    let o = slice_get (nodes c.args.table.now) c.args.formula in
    IfOk-weaker
    c.rebuild.result
    (λ made. slice_get (nodes c.rebuild.new.table) made ≡ Some (built_at (the_value o) opening_iffs pol.Both))
    (λ made. slice_get (nodes c.rebuild.new.table) made ≡ Some (of_truth (iffs_opened (the_truth o))))
    (λ made at. at ∙ ap (λ v. Some v) (iffs-at o c.requires.formula))
    c.rebuild.ensures.tree
