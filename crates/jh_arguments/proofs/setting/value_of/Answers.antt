use Rattle.std.proofs.Common.{◌≤◌, ◌<◌, ◌^◌, arith, ap, ◌∙◌, ℕ, List, subst}
use Rattle.std.specs.Str.Parse.{IsNumeral, digits_value}
use Rattle.jh_arguments.proofs.Numbers.{is-numeral, no-plus}
use Rattle.jh_arguments.proofs.setting.value_of.Goals as goal

-- src/setting.rt
pub returns-in-Ok : goal.returns-in-Ok
returns-in-Ok c = c.in-Ok.ensures.value.0.1 ∙ ap (digits_value 10) (no-plus c.args.word.now c.requires)

below : (n m : ℕ) → (n < m → ⊥) → m ≤ n
below n m h = omega (arith, h)

-- src/setting.rt
pub returns-in-Err : goal.returns-in-Err
returns-in-Err c =
    let w : List ℕ = c.args.word.now in
    let none : IsNumeral 10 w × (digits_value 10 w < 2 ^ 64) → ⊥ = subst (λ (ds : List ℕ). IsNumeral 10 ds × (digits_value 10 ds < 2 ^ 64) → ⊥) (no-plus w c.requires) c.in-Err.ensures.value.0 in
    below (digits_value 10 w) 18446744073709551616 (λ less. none (is-numeral w c.requires, less))
