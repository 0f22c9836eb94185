use Rattle.std.proofs.Common.{ap, sym, ◌∙◌, option_map}
use Rattle.jh_ast.specs.Bare.{rhs_tree}
use Rattle.jh_symbols.specs.scopes.Lookings.{scope_by}
use Rattle.jh_semantics.specs.Code as code
use Rattle.jh_semantics.specs.LoweredStmts.{declaration_code, default_code, local_code}
use Rattle.jh_semantics.specs.typed_code.Statements.{local_in, target_in}
use Rattle.jh_lowering.specs.Lowering.{boxed_code, source_of}
use Rattle.jh_lowering.proofs.Lists.{code-as}
use Rattle.jh_lowering.proofs.lowering.declaration.Goals as goal

pub returns-in_ok-value-in-None : goal.returns-in_ok-value-in-None
unfolding target_in
returns-in_ok-value-in-None c =
    let p = source_of c.args.context.now in
    let local = c.in_ok-local.local in
    code-as p c.assigned.result _ _
    (ap (λ t. code.assign (target_in t) (boxed_code c.in_ok-value-in-None.value)) c.in_ok-target.ensures.ok
    ∙ ap (code.assign (code.to_new (local_in local))) c.in_ok-value-in-None.ensures
    ∙ ap (λ (x : code.Local). code.assign (code.to_new x) (default_code x.type)) c.in_ok-local.ensures
    ∙ sym (ap (λ r. declaration_code p c.args.place (scope_by c.args.at.now) (local_code p c.args.param.now) (option_map rhs_tree r)) c.in-None.is))
    (c.assigned.ensures p)
