use Rattle.std.proofs.Common.{rules, ◌≡◌, ap, sym, subst, ◌∙◌, Some, length}
use Rattle.jh_form.specs.Tree.{of_truth}
use Rattle.jh_form.specs.Tree as tree
use Rattle.jh_arena.specs.table.Nodes.{nodes}
use Rattle.jh_arena.proofs.table.Listed.{extends-trans}
use Rattle.jh_arena.proofs.table.NodeSteps.{tree-And, tree-Or, tree-Negation}
use Rattle.jh_semantics.specs.Code as code
use Rattle.jh_guard.specs.Terms as terms
use Rattle.jh_semantics.specs.typed_code.Codes.{truth_code}
use Rattle.jh_command_terms.specs.terms.Checks.{AddsChecks}
use Rattle.jh_command_terms.proofs.terms.CheckSteps.{if-ok, whatever, facts-behind, guarded-behind}
use Rattle.jh_command_terms.proofs.terms.TermSteps.{truth_code-And, truth_code-Or}
use Rattle.jh_command_terms.proofs.terms.truths.+truth_term.Goals as goal

pub guard_from-requires-clause-facts : goal.guard_from-requires-clause-facts
guard_from-requires-clause-facts t c =
    facts-behind c.truth_term-in-And-2.new.table c.truth_term-in-And.new.checks.items c.truth_term-in-And-2.new.checks.items (length c.as_slice-start.result.now) (terms.truth_checks (truth_code c.deref-in-And-2.result.now)) (ap length c.as_slice-start.ensures.value) c.in_ok-right-in-And.ensures.checks

pub returns-in_ok-guard_from-in-And-clause-node : goal.returns-in_ok-guard_from-in-And-clause-node
returns-in_ok-guard_from-in-And-clause-node t c =
    let t1 = c.truth_term-in-And.new.table in
    let t2 = c.truth_term-in-And-2.new.table in
    let t3 = c.guard_from.new.table in
    let left = c.in_ok-left-in-And.left in
    let l = truth_code c.deref-in-And.result.now in
    let r = truth_code c.deref-in-And-2.result.now in
    let whole : truth_code c.args.code.now ≡ code.both l r = search (rules, truth_code-And) in
    if-ok c.make-in-And.result
    (λ made node. node ∙ ap Some (tree-And t3.pools (nodes t3) left c.in_ok-right-in-And.right (terms.truth_formula l) (terms.truth_formula r)
    (c.guard_from.ensures.grows.nodes.keeps left (of_truth (terms.truth_formula l)) (c.truth_term-in-And-2.ensures.grows.nodes.keeps left (of_truth (terms.truth_formula l)) c.in_ok-left-in-And.ensures.node))
    (c.guard_from.ensures.grows.nodes.keeps c.in_ok-right-in-And.right (of_truth (terms.truth_formula r)) c.in_ok-right-in-And.ensures.node)
    ∙ ap (λ e. of_truth (terms.truth_formula e)) (sym whole)))
    c.make-in-And.ensures.node

pub returns-in_ok-guard_from-in-And-clause-checks : goal.returns-in_ok-guard_from-in-And-clause-checks
returns-in_ok-guard_from-in-And-clause-checks t c =
    let t1 = c.truth_term-in-And.new.table in
    let t2 = c.truth_term-in-And-2.new.table in
    let t3 = c.guard_from.new.table in
    let left = c.in_ok-left-in-And.left in
    let l = truth_code c.deref-in-And.result.now in
    let r = truth_code c.deref-in-And-2.result.now in
    let whole : truth_code c.args.code.now ≡ code.both l r = search (rules, truth_code-And) in
    let t4 = c.make-in-And.new.self in
    let old = c.args.checks.now.items in
    let c1 = c.truth_term-in-And.new.checks.items in
    let c2 = c.truth_term-in-And-2.new.checks.items in
    let c3 = c.guard_from.new.checks.items in
    whatever c.make-in-And.result
    (subst (λ e. AddsChecks t4 old c3 (terms.truth_checks e)) (sym whole)
    (guarded-behind t1 t2 t3 t4 old c1 c2 c3 (length c.as_slice-start.result.now) (terms.truth_formula l) (terms.truth_checks l) (terms.truth_checks r) (ap length c.as_slice-start.ensures.value) c.in_ok-left-in-And.ensures.checks
    (extends-trans t1 t3 t4 (extends-trans t1 t2 t3 c.truth_term-in-And-2.ensures.grows c.guard_from.ensures.grows) c.make-in-And.ensures.grows) c.in_ok-right-in-And.ensures.checks c.make-in-And.ensures.grows
    (c.in_ok-guard_from-in-And.ensures.checks (terms.truth_formula l) (terms.truth_checks r) (c.truth_term-in-And-2.ensures.grows.nodes.keeps left (of_truth (terms.truth_formula l)) c.in_ok-left-in-And.ensures.node))))

pub guard_from-requires-in-Or-clause-facts : goal.guard_from-requires-in-Or-clause-facts
guard_from-requires-in-Or-clause-facts t c =
    facts-behind c.truth_term-in-Or-2.new.table c.truth_term-in-Or.new.checks.items c.truth_term-in-Or-2.new.checks.items (length c.as_slice-start-in-Or.result.now) (terms.truth_checks (truth_code c.deref-in-Or-2.result.now)) (ap length c.as_slice-start-in-Or.ensures.value) c.in_ok-right-in-Or.ensures.checks

pub returns-in_ok-guard_from-in-Or-clause-node : goal.returns-in_ok-guard_from-in-Or-clause-node
returns-in_ok-guard_from-in-Or-clause-node t c =
    let t1 = c.truth_term-in-Or.new.table in
    let t2 = c.truth_term-in-Or-2.new.table in
    let t3 = c.guard_from-in-Or.new.table in
    let left = c.in_ok-left-in-Or.left in
    let l = truth_code c.deref-in-Or.result.now in
    let r = truth_code c.deref-in-Or-2.result.now in
    let whole : truth_code c.args.code.now ≡ code.either l r = search (rules, truth_code-Or) in
    if-ok c.make-in-Or-2.result
    (λ made node. node ∙ ap Some (tree-Or t3.pools (nodes t3) left c.in_ok-right-in-Or.right (terms.truth_formula l) (terms.truth_formula r)
    (c.guard_from-in-Or.ensures.grows.nodes.keeps left (of_truth (terms.truth_formula l)) (c.truth_term-in-Or-2.ensures.grows.nodes.keeps left (of_truth (terms.truth_formula l)) (c.make-in-Or.ensures.grows.nodes.keeps left (of_truth (terms.truth_formula l)) c.in_ok-left-in-Or.ensures.node)))
    (c.guard_from-in-Or.ensures.grows.nodes.keeps c.in_ok-right-in-Or.right (of_truth (terms.truth_formula r)) c.in_ok-right-in-Or.ensures.node)
    ∙ ap (λ e. of_truth (terms.truth_formula e)) (sym whole)))
    c.make-in-Or-2.ensures.node

pub returns-in_ok-guard_from-in-Or-clause-checks : goal.returns-in_ok-guard_from-in-Or-clause-checks
returns-in_ok-guard_from-in-Or-clause-checks t c =
    let t1 = c.truth_term-in-Or.new.table in
    let t2 = c.truth_term-in-Or-2.new.table in
    let t3 = c.guard_from-in-Or.new.table in
    let left = c.in_ok-left-in-Or.left in
    let l = truth_code c.deref-in-Or.result.now in
    let r = truth_code c.deref-in-Or-2.result.now in
    let whole : truth_code c.args.code.now ≡ code.either l r = search (rules, truth_code-Or) in
    let t4 = c.make-in-Or-2.new.self in
    let old = c.args.checks.now.items in
    let c1 = c.truth_term-in-Or.new.checks.items in
    let c2 = c.truth_term-in-Or-2.new.checks.items in
    let c3 = c.guard_from-in-Or.new.checks.items in
    whatever c.make-in-Or-2.result
    (subst (λ e. AddsChecks t4 old c3 (terms.truth_checks e)) (sym whole)
    (guarded-behind t1 t2 t3 t4 old c1 c2 c3 (length c.as_slice-start-in-Or.result.now) (tree.negation (terms.truth_formula l)) (terms.truth_checks l) (terms.truth_checks r) (ap length c.as_slice-start-in-Or.ensures.value) c.in_ok-left-in-Or.ensures.checks
    (extends-trans t1 t3 t4 (extends-trans t1 t2 t3 (extends-trans t1 c.make-in-Or.new.self t2 c.make-in-Or.ensures.grows c.truth_term-in-Or-2.ensures.grows) c.guard_from-in-Or.ensures.grows) c.make-in-Or-2.ensures.grows) c.in_ok-right-in-Or.ensures.checks c.make-in-Or-2.ensures.grows
    (c.in_ok-guard_from-in-Or.ensures.checks (tree.negation (terms.truth_formula l)) (terms.truth_checks r) (c.truth_term-in-Or-2.ensures.grows.nodes.keeps c.in_ok-opposite-in-Or.opposite (of_truth (tree.negation (terms.truth_formula l))) (c.in_ok-opposite-in-Or.ensures.node ∙ ap Some (tree-Negation t1.pools (nodes t1) left (terms.truth_formula l) c.in_ok-left-in-Or.ensures.node))))))
