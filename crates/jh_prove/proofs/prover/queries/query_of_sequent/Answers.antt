use Rattle.std.proofs.Common.{◌≡◌}
use Rattle.std.proofs.lemmas.Result.{IfOk-weaker}
use Rattle.jh_approx.specs.definition.Regions.{bapa_of}
use Rattle.jh_query.specs.queries.Bare.{query_tree}
use Rattle.jh_seq.specs.sequent.Sequents.{SequentTree}
use Rattle.jh_splitting.specs.Standing.{IsSequent}
use Rattle.jh_splitting.proofs.Grown.{sequent-stays}
use Rattle.jh_arena.specs.table.Nodes.{nodes}
use Rattle.jh_arena.proofs.table.Listed.{extends-trans}
use Rattle.jh_prove.specs.prover.Memos.{found}
use Rattle.jh_prove.proofs.prover.Bareness.{formula-there, holds-none}
use Rattle.jh_prove.proofs.prover.queries.query_of_sequent.Goals as goal

pub without_labels-requires-clause-node : goal.without_labels-requires-clause-node
without_labels-requires-clause-node c = formula-there (nodes c.args.table.now) c.args.sequent.goal c.requires.0.goal c.requires.1.goal

pub without_labels-requires-clause-memo : goal.without_labels-requires-clause-memo
without_labels-requires-clause-memo c = holds-none (nodes c.args.table.now) (found c.new-memo.result.answers) c.new-memo.ensures

pub query_for_goal-requires-clause-sequent : goal.query_for_goal-requires-clause-sequent
query_for_goal-requires-clause-sequent c =
    (c.requires.0, sequent-stays c.args.table.now c.without_labels.new.table c.without_labels.ensures.grows c.args.sequents.now.hyps c.args.sequents.now.method c.args.sequent c.requires.0 c.requires.1)

pub returns-clause-query : goal.returns-clause-query
returns-clause-query c =
    let t = c.args.table.now in
    let u = c.without_labels.new.table in
    let links = c.args.sequents.now.hyps in
    let method = c.args.sequents.now.method in
    let x = c.args.sequent in
    IfOk-weaker
    c.query_for_goal.result
    (λ made. (s : SequentTree) → IsSequent u links method x s → query_tree made ≡ bapa_of s)
    (λ made. (s : SequentTree) → IsSequent t links method x s → query_tree made ≡ bapa_of s)
    (λ made query s h. query s (sequent-stays t u c.without_labels.ensures.grows links method x s h))
    c.query_for_goal.ensures.query

pub returns-clause-grows : goal.returns-clause-grows
returns-clause-grows c = extends-trans c.args.table.now c.without_labels.new.table c.query_for_goal.new.table c.without_labels.ensures.grows c.query_for_goal.ensures.grows
