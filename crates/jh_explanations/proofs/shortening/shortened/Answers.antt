use Rattle.std.proofs.Common.{◌≡◌, sym, ap, ◌∙◌, subst, ◌<◌, ◌+◌, ◌-◌, ℕ, List, [], ◌∷◌, length, drop, arith}
use Rattle.std.proofs.lemmas.List.{drop_all}
use Rattle.jh_closure.proofs.congruence_closure.Having.{has-at}
use Rattle.jh_cong.specs.classes.Saying.{Asserted}
use Rattle.jh_arena.specs.table.Nodes.{nodes}
use Rattle.jh_propagation.specs.declared.trail.decided.Decided.{Decided}
use Rattle.jh_propagation.specs.trail.Saying.{literals_at}
use Rattle.jh_propagation.specs.propagation.Problems.{IsProblem, instances_in}
use Rattle.jh_explanations.specs.Keeping.{AreTried, IsQuiet}
use Rattle.jh_explanations.specs.Steps.{trees_of}
use Rattle.jh_explanations.proofs.Lists.{drop-next}
use Rattle.jh_explanations.proofs.Keeps.{all-tried, following-of}
use Rattle.jh_explanations.proofs.Readiness.{ready-quiet}
use Rattle.jh_explanations.proofs.shortening.shortened.Goals as goal

down : (n index : ℕ) → index < n → n - (index + 1) ≡ n - 1 - index
down n index lt = omega (arith, lt)

further : (n index : ℕ) → index < n → n - 1 - index + 1 ≡ n - index
further n index lt = omega (arith, lt)

pub loop-index-init : goal.loop-index-init
loop-index-init c =
    let ts = nodes c.args.problem.now.table in
    let p = c.args.problem.now in
    let ds = c.args.decisions.now in
    let whole : length ds - 0 ≡ length ds = omega arith in
    let none : drop (length ds - 0) ds ≡ [] = ap (λ n. drop n ds) whole ∙ drop_all (length ds) ds (omega arith) in
    record {
      table = ap (λ (a : Asserted). a.table) c.clear.ensures.classes;
      ready = ready-quiet p _ _ (subst (λ X. X) (λ i. IsQuiet p (sym c.clear.ensures.classes i) (sym c.clear.ensures.trail i)) (record { spoken = tt; quiet = c.requires.quiet }));
      tried = subst (λ (xs : List Decided). AreTried ts p ds xs c.args.steps.items) (sym none) (record {
        right = c.requires.right;
        shortened = c.shortening_is_exact.ensures.begins (instances_in ts p) (literals_at ts ds) (trees_of ts c.args.steps.items) c.requires.closes;
      });
    }

pub shortened_by-requires-clause-problem : goal.shortened_by-requires-clause-problem
shortened_by-requires-clause-problem c = subst (λ t. IsProblem (nodes t) c.args.problem.now) (sym c.loop-index.invariant.table) c.requires.problem

pub shortened_by-requires-clause-over : goal.shortened_by-requires-clause-over
shortened_by-requires-clause-over c = c.loop-index.invariant.tried.right.over

pub shortened_by-requires-clause-out : goal.shortened_by-requires-clause-out
shortened_by-requires-clause-out c = c.loop-index.invariant.tried.right.decided_over c.literal_at-decision.result (has-at c.args.decisions.now (length c.args.decisions.now - 1 - c.loop-index.index) c.literal_at-decision.result c.literal_at-decision.ensures)

pub shortened_by-requires-clause-following : goal.shortened_by-requires-clause-following
shortened_by-requires-clause-following c =
    let tried = c.loop-index.invariant.tried in
    following-of (nodes c.args.problem.now.table) c.args.problem.now c.requires.problem.posed c.nodes_differ.ensures.different c.args.decisions.now c.loop-index.steps.items tried.right tried.shortened.closes

pub shortened_by-requires-clause-ready : goal.shortened_by-requires-clause-ready
shortened_by-requires-clause-ready c = c.loop-index.invariant.ready

pub loop-index-preserved : goal.loop-index-preserved
loop-index-preserved c =
    let p = c.args.problem.now in
    let ds = c.args.decisions.now in
    let n = length ds in
    let i = c.loop-index.index in
    let out = c.literal_at-decision.result in
    let made = c.in_ok-made.made.items in
    let place = n - 1 - i in
    let next : drop (n - (i + 1)) ds ≡ out ∷ drop (n - i) ds = ap (λ k. drop k ds) (down n i c.loop-index-test.true) ∙ (drop-next ds place out c.literal_at-decision.ensures ∙ ap (λ k. out ∷ drop k ds) (further n i c.loop-index-test.true)) in
    let before = c.loop-index.invariant.tried in
    let now = c.in_ok-made.ensures.tries ds (drop (n - i) ds) before in
    record {
      table = c.shortened_by.ensures.table ∙ c.loop-index.invariant.table;
      ready = c.in_ok-made.ensures.ready;
      tried = subst (λ (xs : List Decided). AreTried (nodes c.args.problem.now.table) p ds xs made) (sym next) (now);
    }

pub returns-clause-explains : goal.returns-clause-explains
returns-clause-explains c =
    let ts = nodes c.args.problem.now.table in
    let p = c.args.problem.now in
    let ds = c.args.decisions.now in
    let over : length ds - c.loop-index.index ≡ 0 = omega (arith, c.loop-index-test.false) in
    all-tried ts p c.requires.problem.posed c.nodes_differ.ensures.different c.shortening_is_exact.ensures ds c.loop-index.steps.items
    (subst (λ n. AreTried ts p ds (drop n ds) c.loop-index.steps.items) over c.loop-index.invariant.tried)

pub returns-clause-right : goal.returns-clause-right
returns-clause-right c = c.loop-index.invariant.tried.right
