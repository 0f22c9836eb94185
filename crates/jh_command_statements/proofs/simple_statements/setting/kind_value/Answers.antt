use Rattle.jh_command_statements.proofs.simple_statements.CheckedSteps.{if-ok}
use Rattle.jh_command_statements.proofs.simple_statements.ValueSteps.{kind-at}
use Rattle.jh_semantics.specs.typed_code.Statements.{value_of}
use Rattle.jh_command_statements.proofs.simple_statements.setting.kind_value.Goals as goal

pub returns-clause-node : goal.returns-clause-node
returns-clause-node c = if-ok c.of_this_kind.result (λ made e p h. kind-at c.value_node.new.table c.of_this_kind.new.table c.in_ok-node.node made c.args.kind (value_of p c.args.number) e (c.in_ok-node.ensures.node p h)) c.of_this_kind.ensures.node
