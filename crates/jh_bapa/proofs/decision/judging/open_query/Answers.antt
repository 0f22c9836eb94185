use Rattle.std.proofs.Common.{◌≡◌, ◌≤◌, ap, length, true, arith, is_some, map}
use Rattle.jh_query.specs.queries.Tree.{CondTree}
use Rattle.jh_query.specs.queries.Bare.{cond_tree, query_tree}
use Rattle.jh_query.specs.partial_truth.Judged.{query_told, told}
use Rattle.jh_bapa.proofs.decision.Known.{all-done, none-then, query-known}
use Rattle.jh_bapa.proofs.decision.judging.open_query.Goals as goal

pub returns-clause-none : goal.returns-clause-none
returns-clause-none c =
    let end : length c.args.query.now.hyps ≤ c.loop-hyp.hyp-index = omega (arith, ap length c.items-hyp-items.ensures, c.loop-hyp-test.false) in
    none-then c.open_atom-2.result _ _ c.open_atom-2.ensures.none
    (λ k. query-known c.args.spots.now c.args.atoms.now (query_tree c.args.query.now)
    (all-done (λ (d : CondTree). is_some (told c.args.spots.now c.args.atoms.now d)) c.args.query.now.hyps c.loop-hyp.hyp-index end c.loop-hyp.invariant.known)
    (k c.requires.goal_covered c.requires.goal_stands))
