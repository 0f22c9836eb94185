use Rattle.std.proofs.Common.{sym, ap, ◌∙◌, refl, ◌||◌, is_some}
use Rattle.indexmap.specs.IndexMap.{get_by_text}
use Rattle.jh_ast.specs.Bare.{labelled_part}
use Rattle.jh_rules.specs.Words.{is_one_of}
use Rattle.jh_rules.specs.Names.{label_of}
use Rattle.jh_symbols.proofs.declarations.Labelling.{labels-next, labels-end, flat-mapped}
use Rattle.jh_symbols.proofs.declarations.labels.put_class_labels.Goals as goal

pub loop-invariant-init : goal.loop-invariant-init
loop-invariant-init c = λ x. refl

pub loop-invariant-preserved : goal.loop-invariant-preserved
loop-invariant-preserved c = labels-next (λ i. label_of (labelled_part i)) (λ x. get_by_text c.args.table.now x) (λ x. get_by_text c.loop-invariant.table x) (λ x. get_by_text c.put_label.new.table x) c.args.invariants.now c.loop-invariant.invariant-index c.invariant-item.result c.loop-invariant-test.true c.invariant-item.is c.in_ok-put_label.ensures c.loop-invariant.invariant

pub returns : goal.returns
returns c = λ x. labels-end (λ i. label_of (labelled_part i)) (λ x. get_by_text c.args.table.now x) (λ y. get_by_text c.loop-invariant.table y) c.args.invariants.now c.loop-invariant.invariant-index c.loop-invariant-test.false c.loop-invariant.invariant x ∙ ap (λ ws. is_some (get_by_text c.args.table.now x) || is_one_of x ws) (sym (flat-mapped label_of labelled_part c.args.invariants.now))
