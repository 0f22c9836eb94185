use Rattle.std.proofs.Common.{ap, ◌∙◌, arith, Bool, ℕ, None}
use Rattle.std.specs.Prelude.{if◌then◌else◌}
use Rattle.std.specs.Str.Parse.{digits_value}
use Rattle.jh_arguments.specs.Arguments.{number_within}
use Rattle.jh_arguments.specs.Held.{setting_in}
use Rattle.jh_arguments.proofs.Numbers.{beyond}
use Rattle.jh_arguments.proofs.setting.number_for.Goals as goal

-- src/setting.rt
pub returns-in-None : goal.returns-in-None
returns-in-None c =
    let n : ℕ = digits_value 10 c.args.word.now in
    beyond (setting_in c.args.setting.now) n (omega (arith, c.in-None.ensures, c.requires)) ∙ ap (λ (b : Bool). if b then number_within (setting_in c.args.setting.now) n else None) c.if-not-is_number.ensures
