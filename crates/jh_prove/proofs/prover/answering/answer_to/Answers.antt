use Rattle.std.proofs.Common.{inl}
use Rattle.std.proofs.lemmas.Result.{IfOk-weaker}
use Rattle.jh_seq.specs.sequent.Sequents.{SequentTree}
use Rattle.jh_splitting.specs.Standing.{IsSequent}
use Rattle.jh_splitting.proofs.Grown.{sequent-stays}
use Rattle.jh_arena.specs.table.Nodes.{nodes}
use Rattle.jh_prove.specs.prover.Right.{Right}
use Rattle.jh_prove.proofs.prover.Bareness.{formula-there, evident-goal, unlabelled-truth}
use Rattle.jh_local.proofs.of_jh_query_names.mentioned_names.Growing.{mentions-grow}
use Rattle.jh_prove.proofs.prover.answering.answer_to.Goals as goal

pub without_labels-requires-clause-node : goal.without_labels-requires-clause-node
without_labels-requires-clause-node c = formula-there (nodes c.args.table.now) c.args.sequent.goal c.requires.sequent.0.goal c.requires.sequent.1.goal

pub is_evident-requires : goal.is_evident-requires
is_evident-requires c = unlabelled-truth (nodes c.without_labels.new.table) c.args.sequent.goal c.in_ok-goal.goal c.in_ok-goal.ensures.node

pub returns-then-is_evident-clause-right : goal.returns-then-is_evident-clause-right
returns-then-is_evident-clause-right c = λ s h.
    inl (evident-goal c.without_labels.new.table c.args.sequent.goal c.in_ok-goal.goal s.goal (c.without_labels.ensures.grows.nodes.keeps c.args.sequent.goal _ h.goal) c.in_ok-goal.ensures.node (c.is_evident.ensures.0 c.if-is_evident.true))

pub returns-then-is_evident-clause-seen : goal.returns-then-is_evident-clause-seen
returns-then-is_evident-clause-seen c = mentions-grow (nodes c.args.table.now) (nodes c.without_labels.new.table) c.without_labels.ensures.grows.nodes c.args.seen.now c.requires.seen

pub answer_for_goal-requires-clause-seen : goal.answer_for_goal-requires-clause-seen
answer_for_goal-requires-clause-seen c = mentions-grow (nodes c.args.table.now) (nodes c.without_labels.new.table) c.without_labels.ensures.grows.nodes c.args.seen.now c.requires.seen

pub answer_for_goal-requires-clause-sequent : goal.answer_for_goal-requires-clause-sequent
answer_for_goal-requires-clause-sequent c =
    (c.requires.sequent.0, sequent-stays c.args.table.now c.without_labels.new.table c.without_labels.ensures.grows c.args.sequents.now.hyps c.args.sequents.now.method c.args.sequent c.requires.sequent.0 c.requires.sequent.1)

pub returns-clause-right : goal.returns-clause-right
returns-clause-right c =
    let t = c.args.table.now in
    let u = c.without_labels.new.table in
    let links = c.args.sequents.now.hyps in
    let method = c.args.sequents.now.method in
    let x = c.args.sequent in
    IfOk-weaker
    c.answer_for_goal.result
    (λ made. (s : SequentTree) → IsSequent u links method x s → Right c.args.options s made)
    (λ made. (s : SequentTree) → IsSequent t links method x s → Right c.args.options s made)
    (λ made right s h. right s (sequent-stays t u c.without_labels.ensures.grows links method x s h))
    c.answer_for_goal.ensures.right
