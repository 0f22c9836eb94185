use Rattle.std.proofs.Common.{sym, subst}
use Rattle.jh_ast.specs.declared.program.Program.{Program}
use Rattle.jh_ast.specs.Bare.{program_tree}
use Rattle.jh_boxed_commands.specs.jh_logic.source.Laws.{IsAccepted}
use Rattle.jahob_calls.proofs.sources.tokens_called.Goals as goal

-- src/sources.rt
pub typed_called-requires : goal.typed_called-requires
typed_called-requires c =
    let ts = c.args.tokens.now in
    let bytes = c.requires.0 in
    let cut = c.requires.1 in
    subst (λ (q : Program). IsAccepted (program_tree q)) (sym c.in-Ok-check.ensures.same)
    (c.spelled_is_accepted.ensures ts (program_tree c.in-Ok.program) (c.shape_of_tokens.ensures.shape bytes ts cut) (c.places_rise.ensures bytes ts cut) c.in-Ok.ensures.parsed.1 c.in-Ok-check.ensures.sound)
