use Rattle.std.proofs.Common.{subst, ◌++◌}
use Rattle.indexmap.specs.IndexMap.{get_by_text}
use Rattle.jh_ast.specs.Bare.{var_part}
use Rattle.jh_rules.specs.Names as n
use Rattle.jh_rules.specs.Names.{def_in, type_of, members_of}
use Rattle.jh_symbols.specs.declarations.Entries.{Holds, entry_of}
use Rattle.jh_symbols.proofs.declarations.Naming.{twice-mapped, fills-start, fills-next, fills-end, defined-same}
use Rattle.jh_symbols.proofs.declarations.members.put_vars.Goals as goal

pub loop-back-init : goal.loop-back-init
loop-back-init c = λ numbers ds marks. fills-start numbers c.args.class ds (λ x. n.var (var_part x)) (λ x. get_by_text c.args.names.now x) c.args.vars.now

pub loop-back-preserved : goal.loop-back-preserved
loop-back-preserved c = λ numbers ds marks. fills-next numbers c.args.class ds (λ x. n.var (var_part x)) (λ x. get_by_text c.args.names.now x) (λ x. get_by_text c.loop-back.names x) (λ x. get_by_text c.put_var.new.names x) c.args.vars.now c.loop-back.back c.from_end-index.result c.index-vars-index.result c.from_end-index.ensures c.index-vars-index.is (defined-same c.args.class (λ x. get_by_text c.loop-back.names x) (λ x. get_by_text c.put_var.new.names x) c.index-vars-index.result ds (λ x. get_by_text c.args.defs.now x) marks c.in_ok-put_var.ensures) (c.loop-back.invariant numbers ds marks)

pub returns : goal.returns
returns c = λ numbers ds ms marks h. subst (λ ys. Holds (entry_of numbers c.args.class ds) (λ x. get_by_text c.loop-back.names x) (ys ++ ms)) (twice-mapped n.var var_part c.args.vars.now) (fills-end numbers c.args.class ds (λ x. n.var (var_part x)) (λ x. get_by_text c.args.names.now x) (λ x. get_by_text c.loop-back.names x) c.args.vars.now c.loop-back.back c.loop-back-test.false (c.loop-back.invariant numbers ds marks) ms h)
