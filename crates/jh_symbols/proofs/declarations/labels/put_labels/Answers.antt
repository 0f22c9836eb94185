use Rattle.std.proofs.Common.{sym, ap, ◌∙◌, refl, ◌||◌, map, is_some}
use Rattle.std.specs.List.{flat_map}
use Rattle.indexmap.specs.IndexMap.{get_by_text}
use Rattle.jh_ast.specs.Bare.{class_part, labelled_part}
use Rattle.jh_rules.specs.Words.{is_one_of}
use Rattle.jh_rules.specs.Names.{label_of}
use Rattle.jh_symbols.specs.declarations.Entries.{class_labels}
use Rattle.jh_symbols.proofs.declarations.Labelling.{labels-next, labels-end, flat-mapped}
use Rattle.jh_symbols.proofs.declarations.labels.put_labels.Goals as goal

pub loop-class-init : goal.loop-class-init
loop-class-init c = λ x. refl

pub loop-class-preserved : goal.loop-class-preserved
unfolding class_part
loop-class-preserved c = labels-next (λ c. class_labels (class_part c)) (λ x. get_by_text c.args.table.now x) (λ x. get_by_text c.loop-class.table x) (λ x. get_by_text c.put_class_labels.new.table x) c.args.classes.now c.loop-class.class-index c.class-item.result c.loop-class-test.true c.class-item.is (λ x. c.in_ok-put_class_labels.ensures x ∙ ap (λ is. is_some (get_by_text c.loop-class.table x) || is_one_of x (flat_map label_of (map labelled_part is))) c.items.ensures) c.loop-class.invariant

pub returns : goal.returns
returns c = λ x. labels-end (λ c. class_labels (class_part c)) (λ x. get_by_text c.args.table.now x) (λ y. get_by_text c.loop-class.table y) c.args.classes.now c.loop-class.class-index c.loop-class-test.false c.loop-class.invariant x ∙ ap (λ ws. is_some (get_by_text c.args.table.now x) || is_one_of x ws) (sym (flat-mapped class_labels class_part c.args.classes.now))
