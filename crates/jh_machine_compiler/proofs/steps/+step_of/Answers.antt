use Rattle.std.proofs.Common.{rules, true, ◌≡◌, sym, ap, subst, ◌+◌, List, [], ◌∷◌, ◌++◌, drop}
use Rattle.std.proofs.lemmas.List.{drop_all}
use Rattle.jh_arena.proofs.table.Listed.{extends-refl, extends-trans}
use Rattle.jh_semantics.specs.declared.typed_code.stmts.Code.{Code}
use Rattle.jh_semantics.specs.declared.typed_code.stmts.Code.TheVariants as z
use Rattle.jh_semantics.proofs.typed_code.CodeSteps.{code-Assign, code-New, code-Call, code-Return, code-Assert, code-Note, code-Ghost}
use Rattle.jh_semantics.specs.typed_code.Statements.{code_in, codes_in}
use Rattle.jh_command_statements.proofs.checks.ToldSteps.{formulas-grow}
use Rattle.jh_machine_code.specs.declared.code.step.Step.{Step}
use Rattle.jh_machine_code.proofs.numbering.Standing.{grows_same, grows_twice}
use Rattle.jh_machine_compiler.specs.Lasting.{MakesAll}
use Rattle.jh_machine_compiler.specs.Sources.{numbered_in}
use Rattle.jh_machine_compiler.proofs.Growing.{makes_still, makes_all_still, left-at, if-ok}
use Rattle.jh_machine_compiler.proofs.StepSteps.{Covers, covers_none, covers_more, covers_all, as_code, as_stmt, empty_made, block_made, branch_made, loop_made}
use Rattle.jh_machine_compiler.proofs.steps.+step_of.Goals as goal

pub steps_of-loop-code-init : goal.steps_of-loop-code-init
steps_of-loop-code-init t c =
    let empty : c.new-made.result.items ≡ [] = search rules in
    record {
      names = grows_same;
      table = extends-refl c.args.table.now;
      covers = λ p h. subst (λ (xs : List Step). Covers p (numbered_in c.args.source.now) true c.args.names.now c.args.table.now c.args.codes.now c.args.codes.now xs) (sym empty) (covers_none p (numbered_in c.args.source.now) true c.args.names.now c.args.table.now c.args.codes.now);
    }

pub steps_of-loop-code-preserved : goal.steps_of-loop-code-preserved
steps_of-loop-code-preserved t c =
    let n = numbered_in c.args.source.now in
    let ss = c.args.codes.now in
    let i = c.loop-code.code-index in
    let a = c.code-item.result in
    let made = c.loop-code.made.items in
    let x = c.in_ok-step.step in
    let pushed : c.push_step.new.made.items ≡ made ++ x ∷ [] = c.in_ok-push_step.ensures.items in
    record {
      names = grows_twice c.loop-code.invariant.names c.step_of.ensures.names;
      table = extends-trans c.args.table.now c.loop-code.table c.step_of.new.table c.loop-code.invariant.table c.step_of.ensures.table;
      covers = λ p h.
          subst (λ (xs : List Step). Covers p n true c.step_of.new.names c.step_of.new.table ss (drop (i + 1) ss) xs) (sym pushed)
          (covers_more p n true c.loop-code.names c.step_of.new.names c.loop-code.table c.step_of.new.table ss (drop (i + 1) ss) a made x c.step_of.ensures.names c.step_of.ensures.table
          (subst (λ (r : List Code). Covers p n true c.loop-code.names c.loop-code.table ss r made) (left-at ss i a c.loop-code-test.true c.code-item.is) (c.loop-code.invariant.covers p h))
          (c.in_ok-step.ensures.is p (formulas-grow c.args.table.now c.loop-code.table c.loop-code.invariant.table p c.args.source.now.formulas.now h)));
    }

pub steps_of-returns-clause-are : goal.steps_of-returns-clause-are
steps_of-returns-clause-are t c = λ p h.
    let n = numbered_in c.args.source.now in
    let ss = c.args.codes.now in
    subst (λ (xs : List Step). MakesAll n true c.loop-code.names c.loop-code.table (codes_in p ss) xs) (sym c.of.ensures)
    (covers_all p n true c.loop-code.names c.loop-code.table ss c.loop-code.made.items
    (subst (λ (r : List Code). Covers p n true c.loop-code.names c.loop-code.table ss r c.loop-code.made.items) (drop_all c.loop-code.code-index ss c.loop-code-test.false) (c.loop-code.invariant.covers p h)))

pub step_of-returns-in_ok-steps-in-Block-clause-is : goal.step_of-returns-in_ok-steps-in-Block-clause-is
step_of-returns-in_ok-steps-in-Block-clause-is t c = λ p h.
    block_made p (numbered_in c.args.source.now) true c.steps_of.new.names c.steps_of.new.table c.args.code.now c.in-Block.codes c.items.result.now c.in_ok-steps-in-Block.steps c.in-Block.is c.items.ensures (c.in_ok-steps-in-Block.ensures.are p h)

pub step_of-returns-in_ok-test-in-Branch-clause-is : goal.step_of-returns-in_ok-test-in-Branch-clause-is
step_of-returns-in_ok-test-in-Branch-clause-is t c = λ p h.
    let n = numbered_in c.args.source.now in
    let t0 = c.args.table.now in
    let t1 = c.step_of.new.table in
    let t2 = c.steps_of-in-Branch.new.table in
    let names = c.truth_expr.new.names in
    branch_made p n true names t2 c.args.code.now c.in-Branch.field-0 c.in-Branch.test c.in-Branch.first c.in-Branch.second c.in_ok-test-in-Branch.test c.in_ok-first-in-Branch-2.first c.in_ok-second-in-Branch.second c.deref.result.now c.in_ok-first-in-Branch.first c.items-in-Branch.result.now
    c.in-Branch.is c.in_ok-test-in-Branch.ensures.is c.deref.ensures c.in_ok-first-in-Branch-2.ensures.ok
    (makes_still (grows_twice c.steps_of-in-Branch.ensures.names c.truth_expr.ensures.grows) c.steps_of-in-Branch.ensures.table (c.in_ok-first-in-Branch.ensures.is p h))
    c.items-in-Branch.ensures
    (makes_all_still c.truth_expr.ensures.grows (extends-refl t2) (c.in_ok-second-in-Branch.ensures.are p (formulas-grow t0 t1 c.step_of.ensures.table p c.args.source.now.formulas.now h)))

pub step_of-returns-in_ok-test-in-Loop-clause-is : goal.step_of-returns-in_ok-test-in-Loop-clause-is
step_of-returns-in_ok-test-in-Loop-clause-is t c = λ p h.
    let n = numbered_in c.args.source.now in
    let names = c.truth_expr-in-Loop.new.names in
    let u = c.step_of-in-Loop.new.table in
    loop_made p n true names u c.args.code.now c.in-Loop.field-0 c.in-Loop.field-1 c.in-Loop.test c.in-Loop.body c.in_ok-test-in-Loop.test c.in_ok-body-in-Loop-2.body c.deref-in-Loop.result.now c.in_ok-body-in-Loop.body
    c.in-Loop.is c.in_ok-test-in-Loop.ensures.is c.deref-in-Loop.ensures c.in_ok-body-in-Loop-2.ensures.ok
    (makes_still c.truth_expr-in-Loop.ensures.grows (extends-refl u) (c.in_ok-body-in-Loop.ensures.is p h))

pub step_of-returns-in-Assign-clause-is : goal.step_of-returns-in-Assign-clause-is
step_of-returns-in-Assign-clause-is t c =
    let n = numbered_in c.args.source.now in
    if-ok c.assign_step.result
    (λ made h p f. as_code p n true c.assign_step.new.names c.args.table.now c.args.code.now (code_in p (z.Assign c.in-Assign.target c.in-Assign.value)) made (ap (code_in p) c.in-Assign.is) (as_stmt n c.assign_step.new.names c.args.table.now made (code-Assign p c.in-Assign.target c.in-Assign.value) (h n true c.args.table.now)))
    c.assign_step.ensures.is

pub step_of-returns-in-New-clause-is : goal.step_of-returns-in-New-clause-is
step_of-returns-in-New-clause-is t c =
    let n = numbered_in c.args.source.now in
    if-ok c.new_step.result
    (λ made h p f. as_code p n true c.new_step.new.names c.args.table.now c.args.code.now (code_in p (z.New c.in-New.place c.in-New.target c.in-New.class)) made (ap (code_in p) c.in-New.is) (as_stmt n c.new_step.new.names c.args.table.now made (code-New p c.in-New.place c.in-New.target c.in-New.class) (h n true c.args.table.now)))
    c.new_step.ensures.is

pub step_of-returns-in-Call-clause-is : goal.step_of-returns-in-Call-clause-is
step_of-returns-in-Call-clause-is t c =
    let n = numbered_in c.args.source.now in
    if-ok c.call_step.result
    (λ made h p f. as_code p n true c.call_step.new.names c.args.table.now c.args.code.now (code_in p (z.Call c.in-Call.call)) made (ap (code_in p) c.in-Call.is) (as_stmt n c.call_step.new.names c.args.table.now made (code-Call p c.in-Call.call) (h p true c.args.table.now)))
    c.call_step.ensures.is

pub step_of-returns-in-Return-clause-is : goal.step_of-returns-in-Return-clause-is
step_of-returns-in-Return-clause-is t c =
    let n = numbered_in c.args.source.now in
    if-ok c.return_step.result
    (λ made h p f. as_code p n true c.return_step.new.names c.args.table.now c.args.code.now (code_in p (z.Return c.in-Return.value)) made (ap (code_in p) c.in-Return.is) (as_stmt n c.return_step.new.names c.args.table.now made (code-Return p c.in-Return.value) (h p n true c.args.table.now)))
    c.return_step.ensures.is

pub step_of-returns-in-Assert-clause-is : goal.step_of-returns-in-Assert-clause-is
step_of-returns-in-Assert-clause-is t c =
    let n = numbered_in c.args.source.now in
    if-ok c.ask_step.result
    (λ made h p f. as_code p n true c.args.names.now c.ask_step.new.table c.args.code.now (code_in p (z.Assert c.in-Assert.claim)) made (ap (code_in p) c.in-Assert.is) (as_stmt n c.args.names.now c.ask_step.new.table made (code-Assert p c.in-Assert.claim) (h p f n c.args.names.now)))
    c.ask_step.ensures.assert

pub step_of-returns-in-Note-clause-is : goal.step_of-returns-in-Note-clause-is
step_of-returns-in-Note-clause-is t c =
    let n = numbered_in c.args.source.now in
    if-ok c.ask_step-in-Note.result
    (λ made h p f. as_code p n true c.args.names.now c.ask_step-in-Note.new.table c.args.code.now (code_in p (z.Note c.in-Note.claim)) made (ap (code_in p) c.in-Note.is) (as_stmt n c.args.names.now c.ask_step-in-Note.new.table made (code-Note p c.in-Note.claim) (h p f n c.args.names.now)))
    c.ask_step-in-Note.ensures.note

pub step_of-returns-in-Empty-clause-is : goal.step_of-returns-in-Empty-clause-is
step_of-returns-in-Empty-clause-is t c = λ p f. empty_made p (numbered_in c.args.source.now) true c.args.names.now c.args.table.now c.args.code.now c.in-Empty.is

pub step_of-returns-in-Ghost-clause-is : goal.step_of-returns-in-Ghost-clause-is
step_of-returns-in-Ghost-clause-is t c =
    let n = numbered_in c.args.source.now in
    let g = c.in-Ghost in
    if-ok c.ghost_step.result
    (λ made h p f. as_code p n true c.ghost_step.new.names c.ghost_step.new.table c.args.code.now (code_in p (z.Ghost g.left_place g.left g.place g.value)) made (ap (code_in p) g.is) (as_stmt n c.ghost_step.new.names c.ghost_step.new.table made (code-Ghost p g.left_place g.left g.place g.value) (h p f n)))
    c.ghost_step.ensures.is
