use Rattle.std.proofs.Common.{sym, ap, ◌∙◌, arith}
use Rattle.std.proofs.lemmas.Str.Pattern.{split_parts}
use Rattle.jh_command_statements.proofs.simple_statements.Dots.{first_of, before-dot}
use Rattle.jh_command_statements.proofs.simple_statements.setting.class_before_dot.Goals as goal

pub returns-in-None : goal.returns-in-None
returns-in-None c = sym (ap first_of c.in-None.is) ∙ before-dot c.args.text.now c.split_once.result (split_parts 46 c.args.text.now c.split_once.result c.split_once.ensures.cases (omega arith))

pub returns-in-Some : goal.returns-in-Some
returns-in-Some c = sym (ap first_of c.in-Some.is) ∙ before-dot c.args.text.now c.split_once.result (split_parts 46 c.args.text.now c.split_once.result c.split_once.ensures.cases (omega arith))
