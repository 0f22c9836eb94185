use Rattle.std.proofs.Common.{◌≡◌, List, ◌++◌, drop}
use Rattle.jh_form.specs.Tree.{TermTree}
use Rattle.jh_inst.specs.instances.Entries.{Entry}
use Rattle.jh_inst.specs.instances.Rounds.{AtHand, universals}
use Rattle.jh_instantiation.specs.instances.Standing.{IsMade}
use Rattle.jh_instantiation.specs.instances.Progressing.{AreAtHand}
use Rattle.jh_instantiation.proofs.instances.beginning.add_universals.Given as goal

-- what is at hand, with the universals that are left, is all that will be at hand
abbrev pub invariant-loop-place : goal.invariant-loop-place
invariant-loop-place l = (ts : List TermTree) (hs : List AtHand) (es : List Entry) → AreAtHand l.table ts l.initial.at_hand.items hs → IsMade l.table l.entries es →
    (us : List AtHand) × AreAtHand l.table ts l.at_hand.items us × (us ++ universals l.place (drop l.place es) ≡ hs ++ universals l.fn.from (drop l.fn.from es))
