use Rattle.std.proofs.Common.{◌≡◌, ap, ◌∙◌, map}
use Rattle.std.proofs.lemmas.Result.{IfOk-weaker}
use Rattle.jh_ast.specs.Bare.{class_part, program_tree}
use Rattle.jh_vars.specs.Written.{Callee}
use Rattle.jh_semantics.specs.LoweredProgram as lowered
use Rattle.jh_lowering.specs.Lowering.{source_of}
use Rattle.jh_outline.specs.declarations.Methods.{found, known_in, methods_from, methods_of}
use Rattle.jh_outline.proofs.declarations.Findings.{found-is}
use Rattle.jh_outline.proofs.declarations.listing.methods.Goals as goal

pub returns-clause-list : goal.returns-clause-list
unfolding program_tree
returns-clause-list c =
    let p = source_of c.args.context.now in
    IfOk-weaker c.methods_in.result
    (λ made. map (known_in p) made.items ≡ methods_from p 0 (map class_part c.items.result.now))
    (λ made. map (known_in p) made.items ≡ methods_of p)
    (λ made h. h ∙ ap (λ cs. methods_from p 0 (map class_part cs)) c.items.ensures)
    c.methods_in.ensures

pub returns-clause-found : goal.returns-clause-found
unfolding program_tree
returns-clause-found c =
    let p = source_of c.args.context.now in
    IfOk-weaker c.methods_in.result
    (λ made. map (known_in p) made.items ≡ methods_from p 0 (map class_part c.items.result.now))
    (λ made. (m : Callee) → found m (map (known_in p) made.items) ≡ (lowered.program_of p).method m)
    (λ made h m. ap (found m) (h ∙ ap (λ cs. methods_from p 0 (map class_part cs)) c.items.ensures) ∙ found-is p m)
    c.methods_in.ensures
