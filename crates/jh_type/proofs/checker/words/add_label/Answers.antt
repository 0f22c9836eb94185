use Rattle.std.proofs.Common.{sym, ap, ◌∙◌, ◌||◌, ◌∷◌, []}
use Rattle.std.specs.Option.{option_map_or}
use Rattle.jh_rules.specs.Words.{used_before}
use Rattle.jh_symbols.specs.scopes.Firsts.{is_behind}
use Rattle.jh_type.proofs.checker.Following.{or-false, one-used}
use Rattle.jh_type.proofs.checker.words.add_label.Goals as goal

pub returns-in-None : goal.returns-in-None
returns-in-None c = λ w. sym (or-false (is_behind c.args.found.now w)) ∙ ap (λ o. is_behind c.args.found.now w || used_before (option_map_or (λ v. v ∷ []) o []) w) (sym c.in-None.is)

pub returns-in_ok-add-in-Some : goal.returns-in_ok-add-in-Some
returns-in_ok-add-in-Some c = λ w. c.in_ok-add-in-Some.ensures.behind w ∙ one-used (is_behind c.args.found.now w) c.in-Some.word w ∙ ap (λ o. is_behind c.args.found.now w || used_before (option_map_or (λ v. v ∷ []) o []) w) (sym c.in-Some.is)
