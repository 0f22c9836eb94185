use Rattle.std.proofs.Common.{refl, sym, subst, ◌∙◌, ap, List, [], ◌∷◌, ◌++◌}
use Rattle.jh_closure.specs.declared.congruence_closure.levels.Mark.{Mark}
use Rattle.jh_closure.specs.congruence_closure.Cores.{IsCore}
use Rattle.jh_closure.proofs.congruence_closure.Starting.{levels-start}
use Rattle.jh_closure.proofs.congruence_closure.Stating.{state-marked}
use Rattle.jh_closure.proofs.congruence_closure.Leveling.{mark_now}
use Rattle.jh_closure.proofs.congruence_closure.beginning.with_mark.Goals as goal

pub returns-clause-state : goal.returns-clause-state
returns-clause-state c =
    let core = c.in_ok-add_mark.ensures.core in
    let ms = c.args.core.forest.merges in
    let es = c.args.core.table.nodes.entries in
    state-marked c.add_mark.new.state c.args.nodes.items [] ms es [] c.in_ok-add_mark.ensures.nodes (c.in_ok-add_mark.ensures.said ∙ c.new.ensures.items)
    (ap (λ k. k.forest.merges) core) (ap (λ k. k.table.nodes.entries) core) (c.in_ok-add_mark.ensures.marks ∙ ap (λ (ks : List Mark). ks ++ mark_now ms es ∷ []) c.new-2.ensures.items)
    c.requires.parts (subst (λ k. IsCore c.args.nodes.items k) (sym core) c.requires.core) (levels-start c.args.nodes.items ms es) refl c.requires.settled
