use Rattle.std.proofs.Common.{◌∙◌, ap, sym, Some, slice_get}
use Rattle.jh_form.specs.Tree.{of_truth}
use Rattle.jh_arena.specs.table.Entries.{the_truth}
use Rattle.jh_arena.specs.table.Nodes.{nodes}
use Rattle.jh_normal_forms.specs.negation_normal_form.Negating.{literal}
use Rattle.jh_normal_forms.proofs.negation_normal_form.Arms.{formula-of}
use Rattle.jh_normal_forms.proofs.negation_normal_form.negating.literal.Goals as goal

pub returns-then-positive-clause-node : goal.returns-then-positive-clause-node
returns-then-positive-clause-node c =
    formula-of (slice_get (nodes c.args.table.now) c.args.a) c.requires.a ∙ ap (λ b. Some (of_truth (literal (the_truth (slice_get (nodes c.args.table.now) c.args.a)) b))) (sym c.if-positive.true)
