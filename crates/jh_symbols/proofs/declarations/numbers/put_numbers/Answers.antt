use Rattle.std.proofs.Common.{sym, ap, ◌∙◌, Some, if◌then◌else◌}
use Rattle.jh_rules.specs.Words.{same_text}
use Rattle.indexmap.specs.IndexMap.{get_by_text}
use Rattle.jh_symbols.proofs.declarations.Naming.{numbers-start, numbers-next, numbers-end}
use Rattle.jh_symbols.proofs.declarations.numbers.put_numbers.Goals as goal

pub loop-back-init : goal.loop-back-init
loop-back-init c = numbers-start (λ x. get_by_text c.args.table.now x) c.args.classes.now c.requires

pub loop-back-preserved : goal.loop-back-preserved
loop-back-preserved c = numbers-next (λ x. get_by_text c.loop-back.table x) (λ x. get_by_text c.put.new.table x) c.args.classes.now c.loop-back.back c.from_end-index.result c.index-classes-index.result c.from_end-index.ensures c.index-classes-index.is (λ x. c.in_ok-put.ensures x ∙ ap (λ w. if same_text w x then Some c.from_end-index.result else get_by_text c.loop-back.table x) (c.text.ensures ∙ ap (λ d. d.name.text.text) (sym c.index-classes-index.is))) c.loop-back.invariant

pub returns : goal.returns
returns c = numbers-end (λ x. get_by_text c.loop-back.table x) c.args.classes.now c.loop-back.back c.loop-back-test.false c.loop-back.invariant
