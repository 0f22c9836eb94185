use Rattle.jh_semantics.specs.typed_code.Statements.{method_in}
use Rattle.jh_method_commands.specs.environment.Outlines.{source_of, program_in, writes_in, callee_of}
use Rattle.jh_guard.specs.Methods.{method_command}
use Rattle.jh_method_commands.proofs.commands.OutlinedSteps.{outlined, outlined_grows}
use Rattle.jh_method_commands.proofs.commands.SideSteps.{is-grown}
use Rattle.jh_method_commands.proofs.commands.methods.of_method.Goals as goal

pub body_of-requires : goal.body_of-requires
body_of-requires c = outlined c.args.table.now c.args.outline.now c.requires.outline

pub returned_node-requires-clause-outline : goal.returned_node-requires-clause-outline
returned_node-requires-clause-outline c = outlined_grows c.args.table.now c.body_of.new.table c.args.outline.now (outlined c.args.table.now c.args.outline.now c.requires.outline) c.body_of.ensures.grows

pub returns-clause-body : goal.returns-clause-body
returns-clause-body c =
    let o = c.args.outline.now in
    let x = c.args.method.now in
    is-grown c.body_of.new.table c.returned_node.new.table c.in_ok-body.body (method_command (program_in o) (writes_in o) (callee_of x) (method_in (source_of o) x.code.now)).body (c.in_ok-body.ensures.command (callee_of x)) c.returned_node.ensures.grows
