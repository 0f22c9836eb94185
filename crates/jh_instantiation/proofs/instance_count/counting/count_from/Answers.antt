use Rattle.std.proofs.Common.{sym, subst, List, arith}
use Rattle.jh_query.proofs.queries.Ceilings.{fits-capped}
use Rattle.jh_inst.specs.instances.Count as spec
use Rattle.jh_instantiation.specs.declared.instance_count.groups.Group.{Group}
use Rattle.jh_instantiation.specs.instance_count.Grouping.{IsTally, single_groups}
use Rattle.jh_instantiation.proofs.instance_count.Weights.{nothing-weighs}
use Rattle.jh_instantiation.proofs.instance_count.counting.count_from.Goals as goal

pub all_rounds-requires : goal.all_rounds-requires
all_rounds-requires c =
    let fs = c.requires.there.0 in
    record {
      there = (record { puts = 0; at_hand = single_groups fs; terms = c.args.terms }, record { puts = nothing-weighs; at_hand = c.in_ok-groups.ensures fs c.requires.there.1; terms = fits-capped c.args.terms (omega arith) });
    }

pub returns-clause-count : goal.returns-clause-count
returns-clause-count c = λ fs h.
    let k : spec.Tally = record { puts = 0; at_hand = single_groups fs; terms = c.args.terms } in
    let u = c.all_rounds.new.table in
    let end = spec.tally_rounds c.args.rounds k in
    let tally = c.in_ok-tally.ensures.tally k (record { puts = nothing-weighs; at_hand = c.in_ok-groups.ensures fs h; terms = fits-capped c.args.terms (omega arith) }) in
    c.ended.ensures u end (subst (λ (xs : List Group). IsTally u xs c.in_ok-tally.tally end) (sym c.as_slice.ensures.value) tally)
