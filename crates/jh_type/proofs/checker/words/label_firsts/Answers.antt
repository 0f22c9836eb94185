use Rattle.std.proofs.Common.{ap, ◌∙◌, ◌||◌}
use Rattle.jh_rules.specs.Words.{used_before}
use Rattle.jh_type.specs.checker.Parts.{label_words_of}
use Rattle.jh_type.proofs.checker.words.label_firsts.Goals as goal

pub returns : goal.returns
returns c = λ w. c.in_ok-add_labels.ensures w ∙ ap (λ b. b || used_before (label_words_of c.args.invariants.now) w) (c.new-found.ensures w)
