use Rattle.std.proofs.Common.{◌≡◌, subst, List, slice_get, Some}
use Rattle.jh_instantiation.specs.declared.instances.making.AtHand.{AtHand}
use Rattle.jh_instantiation.proofs.instances.Universals.{set-noted}
use Rattle.jh_instantiation.proofs.instances.rounds.note_at.Goals as goal

pub returns : goal.returns
returns c =
    set-noted c.args.at_hand.now.items c.args.place c.args.count c.universal_at-universal.result c.put_at_all.result
    (subst (λ (xs : List AtHand). slice_get xs c.args.place ≡ Some c.universal_at-universal.result) c.as_slice.ensures.value c.universal_at-universal.ensures)
    c.put_at_all.ensures
