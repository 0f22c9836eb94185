use Rattle.std.proofs.Common.{ap, ◌∙◌, ◌++◌}
use Rattle.std.specs.List.{flat_map}
use Rattle.jh_ast.specs.Bare.{stmt_trees, method_part}
use Rattle.jh_symbols.specs.scopes.Lookings.{declared_by, scope_by}
use Rattle.jh_vars.specs.Statements.{all_statements}
use Rattle.jh_vars.specs.Written as w
use Rattle.jh_effects.specs.direct_effects.Effects.{writes_in, calls_in}
use Rattle.jh_effects.proofs.direct_effects.Adding.{chain-gathers}
use Rattle.jh_effects.proofs.direct_effects.gathering.effects_of.Goals as goal

pub returns-clause-writes : goal.returns-clause-writes
unfolding method_part
returns-clause-writes c = λ p e.
    let all = chain-gathers _ c.visit_all.new.visitor _ c.in_ok-visit_all.ensures.visited in
    (all.adds p e).writes ∙ ap (λ xs. writes_in xs ++ flat_map (w.writes_of p) (all_statements (declared_by c.args.lookups.now) (stmt_trees c.items.result.now) (scope_by c.in_ok-at.at))) c.new.ensures.items ∙ (λ i. flat_map (w.writes_of p) (all_statements (e i) (stmt_trees (c.items.ensures i)) (c.in_ok-at.ensures p e i)))

pub returns-clause-calls : goal.returns-clause-calls
unfolding method_part
returns-clause-calls c = λ p e.
    let all = chain-gathers _ c.visit_all.new.visitor _ c.in_ok-visit_all.ensures.visited in
    (all.adds p e).calls ∙ ap (λ xs. calls_in xs ++ flat_map (w.called_by p) (all_statements (declared_by c.args.lookups.now) (stmt_trees c.items.result.now) (scope_by c.in_ok-at.at))) c.new-2.ensures.items ∙ (λ i. flat_map (w.called_by p) (all_statements (e i) (stmt_trees (c.items.ensures i)) (c.in_ok-at.ensures p e i)))
