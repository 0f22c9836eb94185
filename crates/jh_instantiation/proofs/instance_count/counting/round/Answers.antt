use Rattle.std.proofs.Common.{◌∙◌, sym, ap, subst, List, ◌++◌}
use Rattle.jh_inst.specs.instances.Count as spec
use Rattle.jh_instantiation.specs.declared.instance_count.groups.Group.{Group}
use Rattle.jh_instantiation.specs.instance_count.Grouping.{IsTally, AreGroups}
use Rattle.jh_instantiation.proofs.instance_count.Tallying.{groups-both, groups-grow}
use Rattle.jh_instantiation.proofs.instance_count.counting.round.Goals as goal

pub sums-requires : goal.sums-requires
sums-requires c = record { there = (c.requires.there.0.at_hand, subst (λ (xs : List Group). AreGroups c.args.table.now xs c.requires.there.0.at_hand) (sym c.as_slice.ensures.value) c.requires.there.1.at_hand) }

pub all_left-requires : goal.all_left-requires
all_left-requires c = record { there = (c.requires.there.0.at_hand, subst (λ (xs : List Group). AreGroups c.args.table.now xs c.requires.there.0.at_hand) (sym c.as_slice-2.ensures.value) c.requires.there.1.at_hand) }

pub returns-clause-tally : goal.returns-clause-tally
returns-clause-tally c = λ k h.
    let t = c.args.table.now in
    let u = c.all_left.new.table in
    let old = c.args.groups.now.items in
    let added = c.in_ok-left.left.items in
    let first = c.in_ok-next.ensures k (subst (λ (xs : List Group). IsTally t xs c.args.tally k) (sym c.as_slice.ensures.value) h) in
    let left = c.in_ok-left.ensures.left k.at_hand k.terms (subst (λ (xs : List Group). AreGroups t xs k.at_hand) (sym c.as_slice-2.ensures.value) h.at_hand) h.terms in
    record {
      puts = first.0;
      at_hand =
          subst (λ (xs : List Group). AreGroups u xs (k.at_hand ++ spec.all_left k.terms k.at_hand)) (sym (c.in_ok-extend_from_slice.ensures.items ∙ ap (λ (ys : List Group). old ++ ys) c.as_slice-3.ensures.value))
          (groups-both u old added k.at_hand (spec.all_left k.terms k.at_hand) (groups-grow t u c.all_left.ensures.grows old k.at_hand h.at_hand) left);
      terms = first.1;
    }
