use Rattle.std.proofs.Common.{rules, ◌≡◌, sym, subst, ℕ, ◌+◌, List, [], ◌∷◌, ◌++◌, take}
use Rattle.std.proofs.lemmas.List.{take_all}
use Rattle.jh_semantics.specs.declared.typed_code.stmts.Local.{Local}
use Rattle.jh_machine_code.proofs.numbering.Standing.{grows_same, grows_twice}
use Rattle.jh_machine_compiler.specs.Lasting.{HasParams}
use Rattle.jh_machine_compiler.proofs.Growing.{take-next}
use Rattle.jh_machine_compiler.proofs.BodySteps.{params_none, params_more}
use Rattle.jh_machine_compiler.proofs.bodies.params_of.Goals as goal

pub loop-param-init : goal.loop-param-init
loop-param-init c =
    let empty : c.new-made.result.items ≡ [] = search rules in
    record { names = grows_same; params = subst (λ (ks : List ℕ). HasParams c.args.names.now [] ks) (sym empty) params_none }

pub loop-param-preserved : goal.loop-param-preserved
loop-param-preserved c =
    let xs = c.args.params.now in
    let i = c.loop-param.param-index in
    let names = c.name_number.new.names in
    let made = c.loop-param.made.items ++ c.in_ok-number.number ∷ [] in
    let pushed : c.push.new.self.items ≡ made = search rules in
    record {
      names = grows_twice c.loop-param.invariant.names c.name_number.ensures.grows;
      params =
          subst (λ (ks : List ℕ). HasParams names (take (i + 1) xs) ks) (sym pushed)
          (subst (λ (ls : List Local). HasParams names ls made) (sym (take-next xs i c.param-item.result c.loop-param-test.true c.param-item.is))
          (params_more c.param-item.result c.loop-param.invariant.params c.name_number.ensures.grows c.in_ok-number.ensures.is));
    }

pub returns-clause-are : goal.returns-clause-are
returns-clause-are c =
    subst (λ (ks : List ℕ). HasParams c.loop-param.names c.args.params.now ks) (sym c.of.ensures)
    (subst (λ (ls : List Local). HasParams c.loop-param.names ls c.loop-param.made.items) (take_all c.loop-param.param-index c.args.params.now c.loop-param-test.false) c.loop-param.invariant.params)
