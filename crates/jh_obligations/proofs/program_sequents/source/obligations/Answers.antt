use Rattle.std.proofs.Common.{◌≡◌, ap, sym, subst, ◌∙◌}
use Rattle.std.proofs.lemmas.Result.{IfOk-weaker, IfErr-weaker}
use Rattle.jh_ast.specs.Bare.{program_tree}
use Rattle.jh_ast.specs.declared.program.Program.{Program}
use Rattle.jh_arena.proofs.table.Listed.{extends-trans}
use Rattle.jh_outline.proofs.of_jh_command_statements.checks.ToldSteps.{formulas-grow}
use Rattle.jh_outline.specs.jh_method_commands.environment.Outlines.{source_of}
use Rattle.jh_outline.specs.outline.Drafts.{IsDraft, Outlines}
use Rattle.jh_ast.specs.Programs.{ProgramTree}
use Rattle.jh_semantics.specs.Program.{Program as Lowered}
use Rattle.jh_semantics.specs.LoweredProgram.{program_of}
use Rattle.jh_obligations.specs.program_sequents.Owed.{AreThere}
use Rattle.jh_obligations.specs.program_sequents.Owing.{owing_of}
use Rattle.jh_obligations.proofs.program_sequents.Valid.{all-there}
use Rattle.jh_outline.proofs.outline.Outlining.{draft-outlines}
use Rattle.jh_obligations.proofs.program_sequents.Outlined.{owes-source, fault-source}
use Rattle.jh_obligations.proofs.program_sequents.source.obligations.Goals as goal

-- src/source.rt
pub sequents-requires-clause-outline : goal.sequents-requires-clause-outline
sequents-requires-clause-outline c =
    let p = program_tree c.args.typed.now in
    let l = c.drafted.new.table in
    let places = c.in_ok-places.places in
    let draft = c.in_ok-draft.draft in
    let o = c.outline-outline.result in
    let source : source_of o ≡ p = ap program_tree (c.outline-outline.ensures.source ∙ c.program-program.ensures.same) in
    let out : Outlines p l o =
    draft-outlines p places.written places.modified l draft o c.in_ok-state.state.items c.args.formulas.now
    (subst (λ (q : Program). IsDraft (program_tree q) places.written places.modified l draft) c.program-program.ensures.same c.in_ok-draft.ensures.draft)
    c.outline-outline.ensures.lends source (c.outline-outline.ensures.state ∙ c.as_slice.ensures.value) c.outline-outline.ensures.formulas c.in_ok-state.ensures
    c.in_ok-places.ensures.written c.in_ok-places.ensures.modified c.requires.accepted (formulas-grow c.args.table.now l c.drafted.ensures.grows p c.args.formulas.now c.requires.formulas) in
    out.outline

-- src/source.rt
pub sequents-requires-clause-there : goal.sequents-requires-clause-there
sequents-requires-clause-there c =
    let p = program_tree c.args.typed.now in
    let l = c.drafted.new.table in
    let places = c.in_ok-places.places in
    let draft = c.in_ok-draft.draft in
    let o = c.outline-outline.result in
    let source : source_of o ≡ p = ap program_tree (c.outline-outline.ensures.source ∙ c.program-program.ensures.same) in
    let out : Outlines p l o =
    draft-outlines p places.written places.modified l draft o c.in_ok-state.state.items c.args.formulas.now
    (subst (λ (q : Program). IsDraft (program_tree q) places.written places.modified l draft) c.program-program.ensures.same c.in_ok-draft.ensures.draft)
    c.outline-outline.ensures.lends source (c.outline-outline.ensures.state ∙ c.as_slice.ensures.value) c.outline-outline.ensures.formulas c.in_ok-state.ensures
    c.in_ok-places.ensures.written c.in_ok-places.ensures.modified c.requires.accepted (formulas-grow c.args.table.now l c.drafted.ensures.grows p c.args.formulas.now c.requires.formulas) in
    subst (λ (q : Lowered). AreThere q (owing_of (source_of o))) (sym out.program) (subst (λ (s : ProgramTree). AreThere (program_of p) (owing_of s)) (sym source) (all-there p))

-- src/source.rt
pub returns-clause-owed : goal.returns-clause-owed
returns-clause-owed c =
    let p = program_tree c.args.typed.now in
    let l = c.drafted.new.table in
    let places = c.in_ok-places.places in
    let draft = c.in_ok-draft.draft in
    let o = c.outline-outline.result in
    let source : source_of o ≡ p = ap program_tree (c.outline-outline.ensures.source ∙ c.program-program.ensures.same) in
    let out : Outlines p l o =
    draft-outlines p places.written places.modified l draft o c.in_ok-state.state.items c.args.formulas.now
    (subst (λ (q : Program). IsDraft (program_tree q) places.written places.modified l draft) c.program-program.ensures.same c.in_ok-draft.ensures.draft)
    c.outline-outline.ensures.lends source (c.outline-outline.ensures.state ∙ c.as_slice.ensures.value) c.outline-outline.ensures.formulas c.in_ok-state.ensures
    c.in_ok-places.ensures.written c.in_ok-places.ensures.modified c.requires.accepted (formulas-grow c.args.table.now l c.drafted.ensures.grows p c.args.formulas.now c.requires.formulas) in
    IfOk-weaker c.sequents.result _ _ (λ made h. (h.0, owes-source p l o out source h.0 h.1, h.2)) c.sequents.ensures.owed

-- src/source.rt
pub returns-clause-why : goal.returns-clause-why
returns-clause-why c =
    let p = program_tree c.args.typed.now in
    let l = c.drafted.new.table in
    let places = c.in_ok-places.places in
    let draft = c.in_ok-draft.draft in
    let o = c.outline-outline.result in
    let source : source_of o ≡ p = ap program_tree (c.outline-outline.ensures.source ∙ c.program-program.ensures.same) in
    let out : Outlines p l o =
    draft-outlines p places.written places.modified l draft o c.in_ok-state.state.items c.args.formulas.now
    (subst (λ (q : Program). IsDraft (program_tree q) places.written places.modified l draft) c.program-program.ensures.same c.in_ok-draft.ensures.draft)
    c.outline-outline.ensures.lends source (c.outline-outline.ensures.state ∙ c.as_slice.ensures.value) c.outline-outline.ensures.formulas c.in_ok-state.ensures
    c.in_ok-places.ensures.written c.in_ok-places.ensures.modified c.requires.accepted (formulas-grow c.args.table.now l c.drafted.ensures.grows p c.args.formulas.now c.requires.formulas) in
    IfErr-weaker c.sequents.result _ _ (λ e h. fault-source p l o out source e h) c.sequents.ensures.why

-- src/source.rt
pub returns-clause-grows : goal.returns-clause-grows
returns-clause-grows c = extends-trans c.args.table.now c.drafted.new.table c.sequents.new.table c.drafted.ensures.grows c.sequents.ensures.grows
