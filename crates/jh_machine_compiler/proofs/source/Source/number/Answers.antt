use Rattle.std.proofs.Common.{sym, ap, ◌∙◌, nat_lt, length, if◌then◌else◌, ℕ, Option, Some, None}
use Rattle.std.proofs.lemmas.Bool.{lt-ltb, le-ltb}
use Rattle.jh_rules.specs.Names.{◌then◌}
use Rattle.jh_machine_compiler.specs.Sources.{numbered_in}
use Rattle.jh_machine_compiler.proofs.source.Source.number.Goals as goal

pub returns-in-None : goal.returns-in-None
unfolding numbered_in
returns-in-None c = ap (λ (o : Option ℕ). o then λ k. (if nat_lt k (length c.args.self.now.methods.now) then Some k else None)) (sym c.in-None.is ∙ c.number.ensures)

pub returns-then-number-self : goal.returns-then-number-self
unfolding numbered_in
returns-then-number-self c =
    ap (λ t. if t then Some c.in-Some.number else None) (sym (lt-ltb c.in-Some.number (length c.args.self.now.methods.now) c.if-number-self.true))
    ∙ ap (λ (o : Option ℕ). o then λ k. (if nat_lt k (length c.args.self.now.methods.now) then Some k else None)) (sym c.in-Some.is ∙ c.number.ensures)

pub returns-else-number-self : goal.returns-else-number-self
unfolding numbered_in
returns-else-number-self c =
    ap (λ t. if t then Some c.in-Some.number else None) (sym (le-ltb c.in-Some.number (length c.args.self.now.methods.now) c.if-number-self.false))
    ∙ ap (λ (o : Option ℕ). o then λ k. (if nat_lt k (length c.args.self.now.methods.now) then Some k else None)) (sym c.in-Some.is ∙ c.number.ensures)
