use Rattle.std.proofs.Common.{◌≡◌, refl, sym, ap, ◌∙◌, Some, slice_get}
use Rattle.std.proofs.lemmas.Result.{IfOk-weaker}
use Rattle.jh_form.specs.Tree.{of_object, null}
use Rattle.jh_arena.specs.table.Nodes.{nodes, fits, shape_tree}
use Rattle.jh_resolution.specs.Meant.{meaning_in}
use Rattle.jh_resolution.proofs.Meant.{none-meant, some-meant}
use Rattle.jh_resolution.proofs.context.Context.meaning.Goals as goal

pub make-requires : goal.make-requires
unfolding fits
make-requires c = refl

pub returns-in-None-clause-node : goal.returns-in-None-clause-node
unfolding shape_tree
returns-in-None-clause-node c =
    IfOk-weaker
    c.make.result
    (λ made. slice_get (nodes c.make.new.self) made ≡ Some (of_object null))
    (λ made. slice_get (nodes c.make.new.self) made ≡ Some (meaning_in (nodes c.make.new.self) c.args.self.now.meanings.now c.args.class c.args.text.now))
    (λ made e. e ∙ ap Some (none-meant (nodes c.make.new.self) c.args.self.now.meanings.now c.args.class c.args.text.now (sym c.in-None.is ∙ c.number.ensures)))
    c.make.ensures.node

pub returns-in-Some-clause-node : goal.returns-in-Some-clause-node
returns-in-Some-clause-node c = some-meant (nodes c.args.table.now) c.args.self.now.meanings.now c.args.class c.args.text.now c.in-Some.node c.requires.held (sym c.in-Some.is ∙ c.number.ensures)
