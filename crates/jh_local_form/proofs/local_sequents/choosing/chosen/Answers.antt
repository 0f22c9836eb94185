use Rattle.std.proofs.Common.{map}
use Rattle.jh_seq.specs.sequent.Sequents.{HypTree}
use Rattle.jh_fca.specs.local_form.Chosen.{chosen}
use Rattle.jh_local_form.proofs.local_sequents.Forms.{lent}
use Rattle.jh_local_form.proofs.local_sequents.choosing.chosen.Goals as goal

pub chosen_facts-requires : goal.chosen_facts-requires
chosen_facts-requires c = (c.args.goal, c.requires.0, c.requires.1)

pub returns : goal.returns
returns c = λ s asked. record {
  facts = lent c.args.table.now c.in_ok-made.made.items c.of.result (map (λ (h : HypTree). h.fact) (chosen s).hyps) c.of.ensures (c.in_ok-made.ensures c.args.goal s asked);
  goal = asked.stated.wanted;
}
