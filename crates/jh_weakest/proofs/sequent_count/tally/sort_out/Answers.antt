use Rattle.std.proofs.Common.{refl, sym, subst, List, ◌∷◌}
use Rattle.jh_weakest.specs.declared.sequent_count.tally.Share.{Share}
use Rattle.jh_weakest.specs.sequent_count.Tallies.{IsTaken, Lacks}
use Rattle.jh_weakest.proofs.sequent_count.Takings.{lacks-push, taken-other, taken-marked, taken-plain}
use Rattle.jh_weakest.proofs.sequent_count.tally.sort_out.Goals as goal

pub returns-then-share-leaf-clause-lacks : goal.returns-then-share-leaf-clause-lacks
returns-then-share-leaf-clause-lacks c = λ h.
    subst (λ (ss : List Share). Lacks c.args.leaf ss) (sym c.in_ok-push.ensures.items) (lacks-push c.args.leaf c.args.made.now.rest.items c.args.share h c.if-share-leaf.true)

pub returns-then-share-leaf-clause-goals : goal.returns-then-share-leaf-clause-goals
returns-then-share-leaf-clause-goals c = λ t w all more h.
    subst (λ (ss : List Share). IsTaken t w c.args.leaf all ss c.args.made.now.plain c.args.made.now.marked more) (sym c.in_ok-push.ensures.items)
    (taken-other t w c.args.leaf all c.args.made.now.rest.items (c.args.share ∷ more) more c.args.made.now.plain c.args.made.now.marked c.args.share refl h)

pub returns-then-share-clause-goals : goal.returns-then-share-clause-goals
returns-then-share-clause-goals c = λ t w all more h.
    taken-marked t w c.args.leaf all c.args.made.now.rest.items (c.args.share ∷ more) more c.args.made.now.plain c.args.made.now.marked c.plus-made.result c.args.share refl c.if-share-leaf.false c.if-share.true c.plus-made.ensures h

pub returns-else-share-clause-goals : goal.returns-else-share-clause-goals
returns-else-share-clause-goals c = λ t w all more h.
    taken-plain t w c.args.leaf all c.args.made.now.rest.items (c.args.share ∷ more) more c.args.made.now.plain c.args.made.now.marked c.plus-made-else-share.result c.args.share refl c.if-share-leaf.false c.if-share.false c.plus-made-else-share.ensures h
