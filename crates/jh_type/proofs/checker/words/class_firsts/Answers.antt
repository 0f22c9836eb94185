use Rattle.std.proofs.Common.{ap, ◌∙◌, ◌||◌, map}
use Rattle.jh_rules.specs.Words.{used_before}
use Rattle.jh_ast.specs.declared.program.Class.{Class}
use Rattle.jh_type.proofs.checker.words.class_firsts.Goals as goal

pub returns : goal.returns
returns c = λ w. c.in_ok-add_classes.ensures w ∙ ap (λ b. b || used_before (map (λ (x : Class). x.name) c.args.classes.now) w) (c.new-found.ensures w)
