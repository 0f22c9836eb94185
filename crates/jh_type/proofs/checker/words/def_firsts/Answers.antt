use Rattle.std.proofs.Common.{ap, ◌∙◌, ◌||◌, map}
use Rattle.jh_rules.specs.Words.{used_before}
use Rattle.jh_ast.specs.declared.program.VarDef.{VarDef}
use Rattle.jh_type.proofs.checker.words.def_firsts.Goals as goal

pub returns : goal.returns
returns c = λ w. c.in_ok-add_defs.ensures w ∙ ap (λ b. b || used_before (map (λ (x : VarDef). x.name) c.args.defs.now) w) (c.new-found.ensures w)
