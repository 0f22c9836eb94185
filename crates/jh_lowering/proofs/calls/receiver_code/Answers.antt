use Rattle.std.proofs.Common.{◌≡◌, sym, ap, ◌∙◌, subst, if◌then◌else◌, false, option_map, IfOk, Option, Some, None}
use Rattle.jh_ast.specs.declared.expr.Expr.{Expr}
use Rattle.jh_ast.specs.Bare.{expr_tree}
use Rattle.jh_symbols.specs.scopes.Lookings.{scope_by}
use Rattle.jh_semantics.specs.Code as code
use Rattle.jh_semantics.specs.LoweredStmts.{calls_static, receiver_code}
use Rattle.jh_semantics.specs.typed_code.Codes.{object_code}
use Rattle.jh_lowering.specs.Lowering.{source_of}
use Rattle.jh_lowering.proofs.calls.receiver_code.Goals as goal

pub returns-in-Some : goal.returns-in-Some
returns-in-Some c =
    subst (λ (o : Option Expr). IfOk c.written_receiver.result (λ made. option_map object_code made ≡ receiver_code (source_of c.args.context.now) (scope_by c.args.at.now) (record { class = c.args.class; name = c.args.call.now.method.text.text }) (option_map expr_tree o)))
    (sym c.in-Some.is) (c.written_receiver.ensures (record { class = c.args.class; name = c.args.call.now.method.text.text }))

pub returns-else-calls_static : goal.returns-else-calls_static
unfolding object_code
returns-else-calls_static c =
    let flag : calls_static (source_of c.args.context.now) (record { class = c.args.class; name = c.args.call.now.method.text.text }) ≡ false = ap (λ x. calls_static (source_of c.args.context.now) (record { class = c.args.class; name = x })) (sym c.text.ensures) ∙ sym c.calls_static.ensures ∙ c.if-calls_static.false in
    sym ((λ i. receiver_code (source_of c.args.context.now) (scope_by c.args.at.now) (record { class = c.args.class; name = c.args.call.now.method.text.text }) (option_map expr_tree (c.in-None.is i))) ∙ (λ i. if flag i then None else Some code.this))
