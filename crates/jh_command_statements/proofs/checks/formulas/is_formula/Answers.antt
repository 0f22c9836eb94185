use Rattle.std.proofs.Common.{arith, sym, slice_get}
use Rattle.jh_arena.specs.table.Nodes.{nodes}
use Rattle.jh_command_statements.proofs.checks.ToldSteps.{nothing-there, sort-true, sort-false}
use Rattle.jh_command_statements.proofs.checks.formulas.is_formula.Goals as goal

pub returns-then-node-len : goal.returns-then-node-len
returns-then-node-len c = sym (nothing-there (nodes c.args.table.now) c.args.node (omega (arith, c.if-node-len.true, c.len.ensures)))

pub returns-in-Bool : goal.returns-in-Bool
returns-in-Bool c = sym (sort-true (slice_get (nodes c.args.table.now) c.args.node) c.sort.result c.sort.ensures c.in-Bool.is)

pub returns-in_default : goal.returns-in_default
returns-in_default c = sym (sort-false (slice_get (nodes c.args.table.now) c.args.node) c.sort.result c.sort.ensures c.in_default.not-Bool)
