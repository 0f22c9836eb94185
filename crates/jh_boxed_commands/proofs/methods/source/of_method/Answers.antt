use Rattle.std.proofs.Common.{◌≡◌, ap, sym, subst, ◌∙◌, Some, option_map}
use Rattle.std.proofs.lemmas.Result.{IfOk-weaker}
use Rattle.jh_ast.specs.Bare.{program_tree}
use Rattle.jh_ast.specs.declared.program.Program.{Program}
use Rattle.jh_arena.proofs.table.Listed.{extends-trans}
use Rattle.jh_outline.proofs.of_jh_command_statements.checks.ToldSteps.{formulas-grow}
use Rattle.jh_semantics.specs.Program.{Program as Lowered}
use Rattle.jh_outline.specs.jh_method_commands.environment.Outlines.{source_of}
use Rattle.jh_outline.specs.outline.Drafts.{IsDraft, Outlines}
use Rattle.jh_boxed_commands.specs.methods.Methods.{callee_at, callee_with}
use Rattle.jh_outline.proofs.outline.Outlining.{draft-outlines}
use Rattle.jh_boxed_commands.proofs.methods.Outlining.{is-there, of-source}
use Rattle.jh_boxed_commands.proofs.methods.source.of_method.Goals as goal

-- src/source.rt
pub unreachable-requires : goal.unreachable-requires
unreachable-requires c =
    c.requires.there (ap (λ (q : Program). callee_at (program_tree q) c.args.method) (sym c.program-program.ensures.same) ∙ sym c.method_name.ensures.name ∙ ap (option_map (λ text. callee_with c.args.method text.now)) c.in-None.is)

-- src/source.rt
pub boxed_method-requires-clause-outline : goal.boxed_method-requires-clause-outline
boxed_method-requires-clause-outline c =
    let p = program_tree c.args.typed.now in
    let l = c.drafted.new.table in
    let places = c.in_ok-places.places in
    let draft = c.in_ok-draft.draft in
    let o = c.outline-outline.result in
    let source : source_of o ≡ p = ap program_tree (c.outline-outline.ensures.source ∙ c.program-program.ensures.same) in
    let out : Outlines p l o =
    draft-outlines p places.written places.modified l draft o c.in_ok-state.state.items c.args.formulas.now
    (subst (λ (q : Program). IsDraft (program_tree q) places.written places.modified l draft) c.program-program.ensures.same c.in_ok-draft.ensures.draft)
    c.outline-outline.ensures.lends source (c.outline-outline.ensures.state ∙ c.as_slice.ensures.value) c.outline-outline.ensures.formulas c.in_ok-state.ensures
    c.in_ok-places.ensures.written c.in_ok-places.ensures.modified c.requires.accepted (formulas-grow c.args.table.now l c.drafted.ensures.grows p c.args.formulas.now c.requires.formulas) in
    out.outline

-- src/source.rt
pub boxed_method-requires-clause-there : goal.boxed_method-requires-clause-there
boxed_method-requires-clause-there c =
    let p = program_tree c.args.typed.now in
    let l = c.drafted.new.table in
    let places = c.in_ok-places.places in
    let draft = c.in_ok-draft.draft in
    let o = c.outline-outline.result in
    let source : source_of o ≡ p = ap program_tree (c.outline-outline.ensures.source ∙ c.program-program.ensures.same) in
    let out : Outlines p l o =
    draft-outlines p places.written places.modified l draft o c.in_ok-state.state.items c.args.formulas.now
    (subst (λ (q : Program). IsDraft (program_tree q) places.written places.modified l draft) c.program-program.ensures.same c.in_ok-draft.ensures.draft)
    c.outline-outline.ensures.lends source (c.outline-outline.ensures.state ∙ c.as_slice.ensures.value) c.outline-outline.ensures.formulas c.in_ok-state.ensures
    c.in_ok-places.ensures.written c.in_ok-places.ensures.modified c.requires.accepted (formulas-grow c.args.table.now l c.drafted.ensures.grows p c.args.formulas.now c.requires.formulas) in
    let callee = callee_with c.args.method c.in-Some.name.now in
    let named : callee_at p c.args.method ≡ Some callee =
    ap (λ (q : Program). callee_at (program_tree q) c.args.method) (sym c.program-program.ensures.same) ∙ sym c.method_name.ensures.name ∙ ap (option_map (λ text. callee_with c.args.method text.now)) c.in-Some.is in
    λ e. is-there p c.args.method callee named (ap (λ (q : Lowered). q.method callee) (sym out.program) ∙ e)

-- src/source.rt
pub returns-clause-command : goal.returns-clause-command
returns-clause-command c =
    let p = program_tree c.args.typed.now in
    let l = c.drafted.new.table in
    let places = c.in_ok-places.places in
    let draft = c.in_ok-draft.draft in
    let o = c.outline-outline.result in
    let source : source_of o ≡ p = ap program_tree (c.outline-outline.ensures.source ∙ c.program-program.ensures.same) in
    let out : Outlines p l o =
    draft-outlines p places.written places.modified l draft o c.in_ok-state.state.items c.args.formulas.now
    (subst (λ (q : Program). IsDraft (program_tree q) places.written places.modified l draft) c.program-program.ensures.same c.in_ok-draft.ensures.draft)
    c.outline-outline.ensures.lends source (c.outline-outline.ensures.state ∙ c.as_slice.ensures.value) c.outline-outline.ensures.formulas c.in_ok-state.ensures
    c.in_ok-places.ensures.written c.in_ok-places.ensures.modified c.requires.accepted (formulas-grow c.args.table.now l c.drafted.ensures.grows p c.args.formulas.now c.requires.formulas) in
    let callee = callee_with c.args.method c.in-Some.name.now in
    let named : callee_at p c.args.method ≡ Some callee =
    ap (λ (q : Program). callee_at (program_tree q) c.args.method) (sym c.program-program.ensures.same) ∙ sym c.method_name.ensures.name ∙ ap (option_map (λ text. callee_with c.args.method text.now)) c.in-Some.is in
    IfOk-weaker c.boxed_method.result _ _ (λ made h. of-source p c.args.method l o callee made out named h) c.boxed_method.ensures.command

-- src/source.rt
pub returns-clause-grows : goal.returns-clause-grows
returns-clause-grows c = extends-trans c.args.table.now c.drafted.new.table c.boxed_method.new.table c.drafted.ensures.grows c.boxed_method.ensures.grows
