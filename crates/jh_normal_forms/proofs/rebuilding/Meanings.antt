-- What the walk makes of a formula may stand for it.
use Rattle.std.proofs.Common.{◌≡◌, sym, subst, Some, Option}
use Rattle.std.proofs.lemmas.Bool.{true≢false}
use Rattle.jh_form.specs.Tree.{ValueTree, of_truth}
use Rattle.jh_form.specs.Meaning.{truth}
use Rattle.jh_arena.specs.table.Entries.{is_truth, the_truth, the_value}
use Rattle.jh_normal_forms.specs.declared.rebuilding.polarity.Polarity.{Polarity}
use Rattle.jh_normal_forms.specs.rebuilding.Built.{Rule}
use Rattle.jh_normal_forms.specs.rebuilding.Sound.{StandsIn, MayStand}
use Rattle.jh_normal_forms.specs.rebuilding.Walking.{built_at}
use Rattle.jh_normal_forms.proofs.rebuilding.Stands.{truth-built}

pub may-stand : (r : Rule) (p : Polarity) (old new : Option ValueTree) → new ≡ Some (built_at (the_value old) r p) → MayStand r p old new
unfolding is_truth the_truth the_value built_at
may-stand r p (Some (of_truth a)) new is sound h m e =
    subst (λ (q : Option ValueTree). StandsIn p (truth (the_truth q) m e) (truth a m e)) (sym is) (truth-built r sound a p m e)
may-stand r p _ new is sound h m e = absurd (true≢false (sym h))
