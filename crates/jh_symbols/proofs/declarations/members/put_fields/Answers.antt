use Rattle.std.proofs.Common.{subst, ◌++◌}
use Rattle.indexmap.specs.IndexMap.{get_by_text}
use Rattle.jh_ast.specs.Bare.{field_part}
use Rattle.jh_rules.specs.Names as n
use Rattle.jh_rules.specs.Names.{def_in, type_of, members_of}
use Rattle.jh_symbols.specs.declarations.Entries.{Holds, entry_of}
use Rattle.jh_symbols.proofs.declarations.Naming.{twice-mapped, fills-start, fills-next, fills-end}
use Rattle.jh_symbols.proofs.declarations.members.put_fields.Goals as goal

pub loop-back-init : goal.loop-back-init
loop-back-init c = λ ds. fills-start (λ x. get_by_text c.args.numbers.now x) c.args.class ds (λ x. n.field (field_part x)) (λ x. get_by_text c.args.names.now x) c.args.fields.now

pub loop-back-preserved : goal.loop-back-preserved
loop-back-preserved c = λ ds. fills-next (λ x. get_by_text c.args.numbers.now x) c.args.class ds (λ x. n.field (field_part x)) (λ x. get_by_text c.args.names.now x) (λ x. get_by_text c.loop-back.names x) (λ x. get_by_text c.put_field.new.names x) c.args.fields.now c.loop-back.back c.from_end-index.result c.index-fields-index.result c.from_end-index.ensures c.index-fields-index.is c.in_ok-put_field.ensures (c.loop-back.invariant ds)

pub returns : goal.returns
returns c = λ ds ms h. subst (λ ys. Holds (entry_of (λ x. get_by_text c.args.numbers.now x) c.args.class ds) (λ x. get_by_text c.loop-back.names x) (ys ++ ms)) (twice-mapped n.field field_part c.args.fields.now) (fills-end (λ x. get_by_text c.args.numbers.now x) c.args.class ds (λ x. n.field (field_part x)) (λ x. get_by_text c.args.names.now x) (λ x. get_by_text c.loop-back.names x) c.args.fields.now c.loop-back.back c.loop-back-test.false (c.loop-back.invariant ds) ms h)
