use Rattle.std.proofs.Common.{◌≡◌, drop, map}
use Rattle.jh_semantics.specs.typed_code.Statements.{local_in}
use Rattle.jh_call_commands.specs.contract_instances.Calling.{argument_turn}
use Rattle.jh_call_commands.proofs.contract_instances.calling.argument_turn.Given as goal

-- the parameters before this one have other texts
abbrev pub invariant-loop-param : goal.invariant-loop-param
invariant-loop-param l = argument_turn (map local_in l.params) l.first l.text ≡ argument_turn (map local_in (drop l.param-index l.params)) l.turn l.text
