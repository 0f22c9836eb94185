use Rattle.std.proofs.Common.{◌≡◌, ap, ◌∙◌}
use Rattle.std.proofs.lemmas.Result.{IfOk-weaker}
use Rattle.jh_arena.specs.table.Nodes.{nodes}
use Rattle.jh_query.specs.queries.Bare.{cond_tree, set_tree}
use Rattle.jh_query.specs.queries.Tree as q
use Rattle.jh_query.proofs.queries.Steps.{cond_tree-In}
use Rattle.jh_query_names.specs.name_lists.Lists.{lists_of}
use Rattle.jh_abstraction.specs.translation.Telling.{set_at}
use Rattle.jh_abstraction.proofs.translation.AtomArms.{told-member}
use Rattle.jh_abstraction.proofs.translation.atoms.member.Goals as goal

pub returns : goal.returns
returns c =
    let ts = nodes c.args.table.now in
    let set : set_tree c.into_inner.result ≡ set_at ts c.args.names.now c.args.b = ap set_tree c.into_inner.ensures ∙ c.in_ok-set.ensures in
    IfOk-weaker c.boxed.result _ _ (λ made e. ap cond_tree e ∙ cond_tree-In c.in_ok-element.element c.into_inner.result
    ∙ (λ j. q.member (c.in_ok-element.ensures j) (set j))
    ∙ told-member c.args.table.now c.args.node (lists_of ts c.args.names.now) c.args.a c.args.b c.requires.stands)
    c.boxed.ensures
