use Rattle.std.proofs.Common.{subst, sym, [], map}
use Rattle.indexmap.specs.IndexMap.{get_by_text}
use Rattle.jh_ast.specs.Bare.{class_part}
use Rattle.jh_symbols.specs.declarations.Entries.{AreTables}
use Rattle.jh_symbols.proofs.declarations.Naming.{tables-next}
use Rattle.jh_symbols.proofs.declarations.Reversals.{take-whole}
use Rattle.jh_symbols.proofs.declarations.members.put_tables.Goals as goal

pub loop-index-init : goal.loop-index-init
loop-index-init c = subst (λ ts. AreTables (λ x. get_by_text c.args.numbers.now x) 0 ts []) (sym c.requires) tt

pub loop-index-preserved : goal.loop-index-preserved
loop-index-preserved c = tables-next (λ x. get_by_text c.args.numbers.now x) c.loop-index.tables.items c.push.new.self.items c.args.classes.now c.loop-index.index c.in_ok-made.made c.index-classes-index.result c.loop-index-test.true c.index-classes-index.is c.in_ok-push.ensures.items c.loop-index.invariant c.in_ok-made.ensures

pub returns : goal.returns
returns c = subst (λ cs. AreTables (λ x. get_by_text c.args.numbers.now x) 0 c.loop-index.tables.items (map class_part cs)) (take-whole c.args.classes.now c.loop-index.index c.loop-index-test.false) c.loop-index.invariant
