use Rattle.std.proofs.Common.{rules, ◌≡◌, sym, ap, ◌∙◌, subst, ◌+◌, List, [], ◌∷◌, ◌++◌, map, take}
use Rattle.std.proofs.lemmas.List.{take_all, map_push}
use Rattle.jh_semantics.specs.declared.typed_code.code.AnyCode.{AnyCode}
use Rattle.jh_semantics.specs.typed_code.Codes.{any_code}
use Rattle.jh_operands.specs.declared.exprs.AnyExpr.{AnyExpr}
use Rattle.jh_machine_code.proofs.numbering.Standing.{grows_same, grows_twice}
use Rattle.jh_machine_compiler.specs.Lasting.{AreArguments}
use Rattle.jh_machine_compiler.proofs.Growing.{take-next}
use Rattle.jh_machine_compiler.proofs.CallSteps.{arguments_none, arguments_more}
use Rattle.jh_machine_compiler.proofs.calls.arguments_of.Goals as goal

pub loop-code-init : goal.loop-code-init
loop-code-init c =
    let empty : c.new-made.result.items ≡ [] = search rules in
    record { names = grows_same; arguments = subst (λ (es : List AnyExpr). AreArguments c.args.names.now [] es) (sym empty) arguments_none }

pub loop-code-preserved : goal.loop-code-preserved
loop-code-preserved c =
    let xs = c.args.codes.now in
    let i = c.loop-code.code-index in
    let a = c.code-item.result in
    let names = c.any_expr.new.names in
    let pushed : c.push_value.new.made.items ≡ c.loop-code.made.items ++ c.in_ok-value.value ∷ [] = c.in_ok-push_value.ensures.items in
    let more : map any_code (take (i + 1) xs) ≡ map any_code (take i xs) ++ any_code a ∷ [] = ap (map any_code) (take-next xs i a c.loop-code-test.true c.code-item.is) ∙ map_push any_code (take i xs) a in
    record {
      names = grows_twice c.loop-code.invariant.names c.any_expr.ensures.grows;
      arguments =
          subst (λ (es : List AnyExpr). AreArguments names (map any_code (take (i + 1) xs)) es) (sym pushed)
          (subst (λ ys. AreArguments names ys (c.loop-code.made.items ++ c.in_ok-value.value ∷ [])) (sym more)
          (arguments_more a c.loop-code.invariant.arguments c.any_expr.ensures.grows c.in_ok-value.ensures.is));
    }

pub returns-clause-are : goal.returns-clause-are
returns-clause-are c =
    subst (λ (es : List AnyExpr). AreArguments c.loop-code.names (map any_code c.args.codes.now) es) (sym c.of.ensures)
    (subst (λ (xs : List AnyCode). AreArguments c.loop-code.names (map any_code xs) c.loop-code.made.items) (take_all c.loop-code.code-index c.args.codes.now c.loop-code-test.false) c.loop-code.invariant.arguments)
