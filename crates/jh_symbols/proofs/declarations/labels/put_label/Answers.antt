use Rattle.std.proofs.Common.{◌∷◌, [], true, sym, ap, ◌∙◌, ◌||◌, is_some, Some, if◌then◌else◌}
use Rattle.std.specs.Option.{option_map_or}
use Rattle.indexmap.specs.IndexMap.{get_by_text}
use Rattle.jh_rules.specs.Words.{is_one_of, same_text, text_of}
use Rattle.jh_symbols.proofs.declarations.Labelling.{one-label, no-label}
use Rattle.jh_symbols.proofs.declarations.labels.put_label.Goals as goal

pub returns-in-None : goal.returns-in-None
returns-in-None c = λ x. no-label (λ x. get_by_text c.args.table.now x) x ∙ ap (λ o. is_some (get_by_text c.args.table.now x) || is_one_of x (option_map_or (λ w. text_of w ∷ []) o [])) (sym c.in-None.is)

pub returns-in_ok-put-in-Some : goal.returns-in_ok-put-in-Some
returns-in_ok-put-in-Some c = λ x. one-label (λ x. get_by_text c.args.table.now x) (λ y. get_by_text c.put.new.table y) (text_of c.in-Some.word) true (λ y. c.in_ok-put-in-Some.ensures y ∙ ap (λ w. if same_text w y then Some true else get_by_text c.args.table.now y) c.text.ensures) x ∙ ap (λ o. is_some (get_by_text c.args.table.now x) || is_one_of x (option_map_or (λ w. text_of w ∷ []) o [])) (sym c.in-Some.is)
