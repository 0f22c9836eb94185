-- What cutting makes of what is no connective.
use Rattle.std.specs.Prelude.{Bool, true, false, if◌then◌else◌}
use Rattle.jh_form.specs.Tree.{ValueTree}
use Rattle.jh_form.specs.Tree as t
use Rattle.jh_normal_forms.specs.declared.rebuilding.polarity.Polarity.{Polarity}
use Rattle.jh_normal_forms.specs.declared.rebuilding.polarity.Polarity.TheVariants as pol
use Rattle.jh_fca.specs.cutting.Cut.{holds_foreign, instead_of}

unfoldable pub cut_leaf : ValueTree → Polarity → ValueTree
cut_leaf (t.of_truth a) s = t.of_truth (if holds_foreign a then instead_of a s else a)
cut_leaf v s = v

-- how a goal and a hypothesis stand
abbrev pub sign : Bool → Polarity
sign true = pol.Positive
sign false = pol.Negative
