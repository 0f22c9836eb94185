use Rattle.std.proofs.Common.{◌≡◌, sym, ap, ◌∙◌, Some, slice_get}
use Rattle.std.proofs.lemmas.Result.{IfOk-weaker}
use Rattle.jh_arena.specs.table.Nodes.{nodes, tree_in}
use Rattle.jh_normal_forms.specs.rebuilding.Walking.{applied}
use Rattle.jh_normal_forms.specs.negation_normal_form.Unlabelling.{unlabelling}
use Rattle.jh_normal_forms.proofs.negation_normal_form.Labels.{mark-made, other-made}
use Rattle.jh_normal_forms.proofs.negation_normal_form.unlabelling.UnlabellingBuildRules.made.Goals as goal

pub returns-in-Mark-clause-node : goal.returns-in-Mark-clause-node
returns-in-Mark-clause-node c = mark-made c.args.table.now.pools (nodes c.args.table.now) c.args.shape c.in-Mark.field-0 c.in-Mark.a c.args._polarity c.in-Mark.is c.requires.fits

pub returns-in_default : goal.returns-in_default
returns-in_default c = record {
  node = IfOk-weaker
      c.make.result
      (λ made. slice_get (nodes c.make.new.self) made ≡ Some (tree_in c.args.table.now c.args.shape))
      (λ made. slice_get (nodes c.make.new.self) made ≡ Some (applied (tree_in c.args.table.now c.args.shape) unlabelling c.args._polarity))
      (λ made at. at ∙ ap (λ v. Some v) (sym (other-made c.args.table.now.pools (nodes c.args.table.now) c.args.shape c.args._polarity c.in_default.not-Mark)))
      c.make.ensures.node;
  grows = c.make.ensures.grows;
}
