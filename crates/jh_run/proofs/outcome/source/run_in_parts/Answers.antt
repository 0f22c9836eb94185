use Rattle.std.proofs.Common.{sym, ap, subst, ◌∙◌, string_bytes, Option, ℕ}
use Rattle.std.proofs.lemmas.Result.{IfOk-weaker, IfErr-weaker}
use Rattle.jh_ast.specs.Bare.{program_tree}
use Rattle.jh_ast.specs.Programs.{ProgramTree}
use Rattle.jh_ast.specs.declared.program.Program.{Program}
use Rattle.jh_rules.specs.Names.{declared_in}
use Rattle.jh_semantics.specs.LoweredProgram.{program_of}
use Rattle.jh_run.specs.outcome.Outcomes.{IsReasonIn, IsWhy, Returned}
use Rattle.jh_run.specs.declared.outcome.unreturned.Unreturned.TheVariants as why
use Rattle.jh_run.proofs.outcome.source.run_in_parts.Goals as goal

-- src/source.rt
pub returns-in-None-clause-why : goal.returns-in-None-clause-why
returns-in-None-clause-why c =
    let name = c.args.class.now in
    let none = sym (c.class_named.ensures ∙ (λ i. (c.in_ok-lookups.ensures i).class_named name) ∙ ap (λ (q : Program). (declared_in (program_tree q)).class_named name) c.program-program.ensures.same) ∙ c.in-None.is in
    subst (λ (r : Option ℕ). IsReasonIn (program_tree c.args.parts.now.typed) name c.args.name.now c.args.heap.now c.args.steps why.NoMethod r) (sym none) tt

-- src/source.rt
pub returns-clause-returned : goal.returns-clause-returned
returns-clause-returned c =
    let name = c.args.class.now in
    let own = ap program_tree c.program-program.ensures.same in
    let some = sym (c.class_named.ensures ∙ (λ i. (c.in_ok-lookups.ensures i).class_named name) ∙ (λ i. (declared_in (own i)).class_named name)) ∙ c.in-Some.is in
    IfOk-weaker c.run_in_class.result _ _ (λ text h. record {
      number = c.in-Some.class;
      class_is = some;
      returned = subst (λ (q : ProgramTree). Returned (program_of q) (record { class = c.in-Some.class; name = c.args.name.now }) c.args.heap.now c.args.steps (string_bytes text)) own h;
    }) c.run_in_class.ensures.returned

-- src/source.rt
pub returns-clause-why : goal.returns-clause-why
returns-clause-why c =
    let name = c.args.class.now in
    let own = ap program_tree c.program-program.ensures.same in
    let some = sym (c.class_named.ensures ∙ (λ i. (c.in_ok-lookups.ensures i).class_named name) ∙ (λ i. (declared_in (own i)).class_named name)) ∙ c.in-Some.is in
    IfErr-weaker c.run_in_class.result _ _ (λ e h. subst (λ (r : Option ℕ). IsReasonIn (program_tree c.args.parts.now.typed) name c.args.name.now c.args.heap.now c.args.steps e r) (sym some)
    (subst (λ (q : ProgramTree). IsWhy (program_of q) (record { class = c.in-Some.class; name = c.args.name.now }) c.args.heap.now c.args.steps e) own h)) c.run_in_class.ensures.why
