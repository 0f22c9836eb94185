use Rattle.std.proofs.Common.{◌≡◌, ap, subst, ◌∙◌, true}
use Rattle.jh_arena.specs.table.Entries.{the_value}
use Rattle.jh_semantics.specs.LoweredStmts.{GhostTarget, ghost_code, ghost_target}
use Rattle.jh_semantics.specs.typed_code.Statements.{value_of}
use Rattle.jh_command_statements.proofs.checks.ToldSteps.{formulas-grow}
use Rattle.jh_command_statements.specs.simple_statements.Ghosts.{left_in}
use Rattle.jh_machine_compiler.specs.Lasting.{Makes}
use Rattle.jh_machine_compiler.proofs.Growing.{if-ok}
use Rattle.jh_machine_compiler.proofs.ghosts.ghost_step.Goals as goal

pub returns-clause-is : goal.returns-clause-is
unfolding the_value
returns-clause-is c =
    let t0 = c.args.table.now in
    let t1 = c.value_node.new.table in
    if-ok c.left_step.result
    (λ made h p f numbered.
    let target : left_in t1 c.in_ok-side.side ≡ ghost_target (value_of p c.args.left.1) = c.in_ok-side.ensures.target ∙ ap (λ o. ghost_target (the_value o)) (c.in_ok-target.ensures.node p f) in
    subst (λ (g : GhostTarget). Makes numbered true c.left_step.new.names c.left_step.new.table (ghost_code c.args.left.0 g c.args.value.0 (value_of p c.args.value.1)) made) target (h p (formulas-grow t0 t1 c.value_node.ensures.grows p c.args.formulas.now f) numbered))
    c.left_step.ensures.is
