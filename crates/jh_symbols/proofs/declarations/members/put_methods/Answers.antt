use Rattle.std.proofs.Common.{subst, ◌++◌}
use Rattle.indexmap.specs.IndexMap.{get_by_text}
use Rattle.jh_ast.specs.Bare.{method_part}
use Rattle.jh_rules.specs.Names as n
use Rattle.jh_rules.specs.Names.{def_in, type_of, members_of}
use Rattle.jh_symbols.specs.declarations.Entries.{Holds, entry_of}
use Rattle.jh_symbols.proofs.declarations.Naming.{twice-mapped, fills-start, fills-next, fills-end}
use Rattle.jh_symbols.proofs.declarations.members.put_methods.Goals as goal

pub loop-back-init : goal.loop-back-init
loop-back-init c = λ class ds. fills-start (λ x. get_by_text c.args.numbers.now x) class ds (λ x. n.method (method_part x)) (λ x. get_by_text c.args.names.now x) c.args.methods.now

pub loop-back-preserved : goal.loop-back-preserved
unfolding method_part
loop-back-preserved c = λ class ds. fills-next (λ x. get_by_text c.args.numbers.now x) class ds (λ x. n.method (method_part x)) (λ x. get_by_text c.args.names.now x) (λ x. get_by_text c.loop-back.names x) (λ x. get_by_text c.put_method.new.names x) c.args.methods.now c.loop-back.back c.from_end-index.result c.index-methods-index.result c.from_end-index.ensures c.index-methods-index.is c.in_ok-put_method.ensures (c.loop-back.invariant class ds)

pub returns : goal.returns
returns c = λ class ds ms h. subst (λ ys. Holds (entry_of (λ x. get_by_text c.args.numbers.now x) class ds) (λ x. get_by_text c.loop-back.names x) (ys ++ ms)) (twice-mapped n.method method_part c.args.methods.now) (fills-end (λ x. get_by_text c.args.numbers.now x) class ds (λ x. n.method (method_part x)) (λ x. get_by_text c.args.names.now x) (λ x. get_by_text c.loop-back.names x) c.args.methods.now c.loop-back.back c.loop-back-test.false (c.loop-back.invariant class ds) ms h)
