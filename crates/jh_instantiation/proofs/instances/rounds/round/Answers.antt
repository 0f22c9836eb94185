use Rattle.std.proofs.Common.{ap, ◌∙◌, length}
use Rattle.jh_inst.specs.instances.Rounds.{all_puts}
use Rattle.jh_instantiation.proofs.instances.Growing.{entries-length}
use Rattle.jh_instantiation.proofs.instances.rounds.round.Goals as goal

pub note_round-requires : goal.note_round-requires
note_round-requires c = let p = c.requires.there in record { there = (_, (c.in_ok-put_each.ensures.made p.0 p.1).entries) }

pub returns-clause-made : goal.returns-clause-made
returns-clause-made c = λ p hp.
    let many = ap length c.as_slice-from.ensures.value ∙ entries-length c.args.table.now c.args.progress.now.entries.terms.items c.args.progress.now.entries.items.items p.entries hp.entries in
    c.note_round.ensures p (all_puts p.at_hand p.terms p.next) (c.in_ok-put_each.ensures.made p hp) many
