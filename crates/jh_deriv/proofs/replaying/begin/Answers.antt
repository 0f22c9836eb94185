use Rattle.jh_arena.specs.table.Nodes.{nodes}
use Rattle.jh_seq.specs.sequent.Sequents.{sequent_tree}
use Rattle.jh_derivation_rules.specs.Closes.{facts_of}
use Rattle.jh_open_branches.specs.Placed.{noted}
use Rattle.jh_deriv.proofs.Following.{begun-after, on-ok-one}
use Rattle.jh_deriv.proofs.replaying.begin.Goals as goal

pub returns-clause-branches : goal.returns-clause-branches
returns-clause-branches c =
    on-ok-one c.spread.result (λ is. (begun-after (nodes c.args.table.now) (nodes c.add_sequent.new.table) c.args.branches.now.facts.facts.items c.add_sequent.new.facts.facts.items c.spread.new.self.facts.facts.items (noted c.add_sequent.new.facts.places) (noted c.spread.new.self.facts.places) c.args.branches.now.waiting.items c.spread.new.self.waiting.items (facts_of (sequent_tree c.args.sequent.now))
    c.requires.facts c.requires.waiting c.in_ok-add_sequent.ensures.gains c.spread.ensures.facts c.spread.ensures.placed is).branches) c.spread.ensures.waiting

pub returns-clause-opens : goal.returns-clause-opens
returns-clause-opens c =
    on-ok-one c.spread.result (λ is. (begun-after (nodes c.args.table.now) (nodes c.add_sequent.new.table) c.args.branches.now.facts.facts.items c.add_sequent.new.facts.facts.items c.spread.new.self.facts.facts.items (noted c.add_sequent.new.facts.places) (noted c.spread.new.self.facts.places) c.args.branches.now.waiting.items c.spread.new.self.waiting.items (facts_of (sequent_tree c.args.sequent.now))
    c.requires.facts c.requires.waiting c.in_ok-add_sequent.ensures.gains c.spread.ensures.facts c.spread.ensures.placed is).opens) c.spread.ensures.waiting
