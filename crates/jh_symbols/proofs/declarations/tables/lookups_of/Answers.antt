use Rattle.std.proofs.Common.{subst, map}
use Rattle.jh_ast.specs.Bare.{class_part}
use Rattle.jh_symbols.specs.declarations.Filling.{Filled}
use Rattle.jh_symbols.proofs.declarations.Declaring.{declares}
use Rattle.jh_symbols.proofs.declarations.tables.lookups_of.Goals as goal

pub returns : goal.returns
returns c = declares c.fill.new.lookups c.args.program.now (subst (λ cs. Filled c.fill.new.lookups (map class_part cs)) c.items.ensures c.in_ok-fill.ensures)
