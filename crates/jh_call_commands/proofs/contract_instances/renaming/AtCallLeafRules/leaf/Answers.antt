use Rattle.std.proofs.Common.{◌≡◌, sym, ap, ◌∙◌, Some, slice_get}
use Rattle.std.proofs.lemmas.Result.{IfOk-weaker}
use Rattle.jh_arena.specs.table.Nodes.{nodes, fits_in, tree_in}
use Rattle.jh_arena.proofs.table.Listed.{extends-trans}
use Rattle.jh_substitution.specs.rewriting.Rewritten.{leaves_alone}
use Rattle.jh_substitution.specs.rewriting.Walks.{IsRewritten}
use Rattle.jh_guard.specs.Calls.{renaming_by}
use Rattle.jh_call_commands.specs.contract_instances.Calling.{name_at}
use Rattle.jh_call_commands.proofs.contract_instances.Callings.{inside, named-fits, leaf-renamed, leaf-stays}
use Rattle.jh_call_commands.proofs.contract_instances.renaming.AtCallLeafRules.leaf.Goals as goal

pub returns-in-None-clause-node : goal.returns-in-None-clause-node
returns-in-None-clause-node c =
    leaf-stays (name_at c.args.self.now.calling) c.args.table.now c.args.node c.args._depth c.args.shape c.requires.leaf (sym c.name_in.ensures ∙ c.in-None.is) c.requires.there

pub called_name-requires : goal.called_name-requires
called_name-requires c = inside c.args.table.now c.in-Some.number c.args.shape (sym c.name_in.ensures ∙ c.in-Some.is) c.requires.fits

pub make-requires : goal.make-requires
make-requires c =
    ap (fits_in c.called_name.new.table) c.with_name.ensures
    ∙ named-fits c.called_name.new.table c.in-Some.number c.in_ok-made-in-Some.made _ c.args.shape (sym c.name_in.ensures ∙ c.in-Some.is) c.in_ok-made-in-Some.ensures.name

pub returns-in_ok-made-in-Some-clause-node : goal.returns-in_ok-made-in-Some-clause-node
returns-in_ok-made-in-Some-clause-node c =
    let old = c.args.table.now in
    let mid = c.called_name.new.table in
    let new = c.make.new.self in
    IfOk-weaker
    c.make.result
    (λ made. slice_get (nodes new) made ≡ Some (tree_in mid c.with_name.result))
    (λ made. IsRewritten (leaves_alone (renaming_by (name_at c.args.self.now.calling))) (nodes new) c.args.node c.args._depth made)
    (λ made e. leaf-renamed (name_at c.args.self.now.calling) old mid new c.args.node c.in-Some.number c.in_ok-made-in-Some.made made c.args._depth c.args.shape
    (extends-trans old mid new c.in_ok-made-in-Some.ensures.grows c.make.ensures.grows) (sym c.name_in.ensures ∙ c.in-Some.is) c.in_ok-made-in-Some.ensures.name c.requires.there
    (e ∙ ap (λ x. Some (tree_in mid x)) c.with_name.ensures))
    c.make.ensures.node
