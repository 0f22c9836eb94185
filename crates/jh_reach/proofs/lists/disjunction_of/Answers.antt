use Rattle.std.proofs.Common.{◌≡◌, sym, ap, ◌∙◌, suc, ◌-◌, ◌<◌, Some, drop, get_or, length, slice_get, arith}
use Rattle.std.proofs.lemmas.Bool.{eqb-true}
use Rattle.std.proofs.lemmas.Option.{slice_get-get_or}
use Rattle.jh_form.specs.Tree.{of_truth}
use Rattle.jh_form.specs.Tree as t
use Rattle.jh_arena.specs.table.Nodes.{nodes}
use Rattle.jh_arena.proofs.table.Listed.{extends-refl, extends-trans}
use Rattle.jh_arena.specs.makers.Joined.{truths_at}
use Rattle.jh_reach.specs.Axioms.{disjoined}
use Rattle.jh_path_formulas.proofs.NodeSteps.{truth-there, the-truth}
use Rattle.jh_import.proofs.entering.Fields.{made-as}
use Rattle.jh_reach.proofs.Standings.{formulas-there, formula-of, formulas-length, no-formulas, disjoined-last, disjoined-step}
use Rattle.jh_reach.proofs.lists.disjunction_of.Goals as goal

pub returns-then-is_empty-clause-node : goal.returns-then-is_empty-clause-node
returns-then-is_empty-clause-node c = λ all h.
    let none : length c.args.items.now ≡ 0 = eqb-true (length c.args.items.now) 0 (sym c.is_empty.ensures ∙ c.if-is_empty.true) in
    made-as (nodes c.falsehood.new.table) c.falsehood.result (of_truth t.false_formula) (of_truth (disjoined all))
    (ap (λ z. of_truth (disjoined z)) (sym (no-formulas all (formulas-length c.args.table.now c.args.items.now all h ∙ none))))
    c.falsehood.ensures.node

pub loop-index-init : goal.loop-index-init
loop-index-init c =
    let last = length c.args.items.now - 1 in
    let lt : length c.args.items.now - 1 < length c.args.items.now = search arith in
    record {
      inside = lt;
      grows = extends-refl c.args.table.now;
      node = λ all h.
          let a = formula-of c.args.table.now c.args.items.now all last (get_or c.args.items.now last 0) h (slice_get-get_or c.args.items.now last 0 lt) in
          let long : length all ≡ suc last = let same = formulas-length c.args.table.now c.args.items.now all h in omega arith in
          a.2 ∙ ap (λ z. Some (of_truth z)) (sym (disjoined-last all last a.0 a.1 long));
    }

pub disjunction-requires-clause-a : goal.disjunction-requires-clause-a
disjunction-requires-clause-a c =
    let before = c.loop-index.index - 1 in
    let lt : before < length c.args.items.now = let inside = c.loop-index.invariant.inside in omega arith in
    let item = get_or c.args.items.now before 0 in
    let a = formula-of c.args.table.now c.args.items.now (truths_at (nodes c.args.table.now) c.args.items.now) before item (formulas-there c.args.table.now c.args.items.now c.requires.items) (slice_get-get_or c.args.items.now before 0 lt) in
    truth-there (slice_get (nodes c.loop-index.table) item) a.0 (c.loop-index.invariant.grows.nodes.keeps item (of_truth a.0) a.2)

pub disjunction-requires-clause-b : goal.disjunction-requires-clause-b
disjunction-requires-clause-b c =
    let all = truths_at (nodes c.args.table.now) c.args.items.now in
    truth-there (slice_get (nodes c.loop-index.table) c.loop-index.made) (disjoined (drop c.loop-index.index all)) (c.loop-index.invariant.node all (formulas-there c.args.table.now c.args.items.now c.requires.items))

pub loop-index-preserved : goal.loop-index-preserved
loop-index-preserved c =
    let before = c.loop-index.index - 1 in
    let inside = c.loop-index.invariant.inside in
    let lt : before < length c.args.items.now = omega arith in
    let next : c.loop-index.index ≡ suc before = let positive = c.loop-index-test.true in omega arith in
    let item = get_or c.args.items.now before 0 in
    record {
      inside = lt;
      grows = extends-trans c.args.table.now c.loop-index.table c.disjunction.new.table c.loop-index.invariant.grows c.disjunction.ensures.grows;
      node = λ all h.
          let a = formula-of c.args.table.now c.args.items.now all before item h (slice_get-get_or c.args.items.now before 0 lt) in
          let first = the-truth (slice_get (nodes c.loop-index.table) item) a.0 (c.loop-index.invariant.grows.nodes.keeps item (of_truth a.0) a.2) in
          let rest = the-truth (slice_get (nodes c.loop-index.table) c.loop-index.made) (disjoined (drop c.loop-index.index all)) (c.loop-index.invariant.node all h) in
          let long : c.loop-index.index < length all = let same = formulas-length c.args.table.now c.args.items.now all h in omega arith in
          c.in_ok-made.ensures.node
          ∙ (λ i. Some (of_truth (t.or (first i) (rest i))))
          ∙ ap (λ z. Some (of_truth z)) (disjoined-step all before c.loop-index.index a.0 a.1 next long);
    }
