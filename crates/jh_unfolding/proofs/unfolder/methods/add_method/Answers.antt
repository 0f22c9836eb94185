use Rattle.std.proofs.Common.{subst, option_map, ◌++◌}
use Rattle.std.specs.List.{flat_map}
use Rattle.jh_ast.specs.Bare.{spec_part, stmt_trees, method_part}
use Rattle.jh_rules.specs.Names.{kind_of_word}
use Rattle.jh_symbols.specs.scopes.Lookings.{declared_by, scope_by}
use Rattle.jh_vars.specs.Opened as opened
use Rattle.jh_vars.specs.Opened.{in_method}
use Rattle.jh_vars.specs.Statements.{all_statements}
use Rattle.jh_unfolding.specs.unfolder.Adding.{program_of, Adds}
use Rattle.jh_unfolding.proofs.unfolder.Addings.{adds-two}
use Rattle.jh_unfolding.proofs.unfolder.methods.add_method.Goals as goal

pub returns-clause-adds : goal.returns-clause-adds
unfolding in_method method_part
returns-clause-adds c =
    let p = program_of c.args.visitor.now.context in
    let a = c.args.visitor.now.gathered in
    let b = c.add_contract.new.visitor.gathered in
    let d = c.add_body.new.visitor.gathered in
    let m = c.args.method.now in
    let scope = c.in_ok-at.ensures p c.requires.declared in
    let first = subst (λ s. Adds p a b (opened.valued_some p (opened.inside (kind_of_word m.result) s) (option_map spec_part m.pre) ++ opened.valued_some p (opened.inside (kind_of_word m.result) s) (option_map spec_part m.post))) scope c.in_ok-add_contract.ensures.adds in
    let then = subst (λ y. Adds (program_of y) b d (flat_map (opened.values_of (program_of y)) (all_statements (declared_by y.lookups.now) (stmt_trees c.items.result.now) (scope_by c.in_ok-at.at)))) c.in_ok-add_contract.ensures.context c.in_ok-add_body.ensures.adds in
    let second = subst (λ xs. Adds p b d (flat_map (opened.values_of p) xs)) (λ i. all_statements (c.requires.declared i) (stmt_trees (c.items.ensures i)) (scope i)) then in
    adds-two p a b d _ _ first second
