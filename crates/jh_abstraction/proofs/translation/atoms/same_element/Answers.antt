use Rattle.std.proofs.Common.{ap, ◌∙◌}
use Rattle.std.proofs.lemmas.Result.{IfOk-weaker}
use Rattle.jh_arena.specs.table.Nodes.{nodes}
use Rattle.jh_query.specs.queries.Bare.{cond_tree}
use Rattle.jh_query.specs.queries.Tree as q
use Rattle.jh_query.proofs.queries.Steps.{cond_tree-SameElement}
use Rattle.jh_query_names.specs.name_lists.Lists.{lists_of}
use Rattle.jh_abstraction.proofs.translation.AtomArms.{told-elements}
use Rattle.jh_abstraction.proofs.translation.atoms.same_element.Goals as goal

pub returns : goal.returns
returns c =
    let names = lists_of (nodes c.args.table.now) c.args.names.now in
    IfOk-weaker c.boxed.result _ _ (λ made e. ap cond_tree e ∙ cond_tree-SameElement c.in_ok-left.left c.in_ok-right.right
    ∙ (λ j. q.same_element (c.in_ok-left.ensures j) (c.in_ok-right.ensures j))
    ∙ told-elements c.args.table.now c.args.node names c.args.a c.args.b c.requires.stands)
    c.boxed.ensures
