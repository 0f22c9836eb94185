use Rattle.std.proofs.Common.{subst, ap, ◌∙◌}
use Rattle.jh_name.specs.declared.place.Kind.TheVariants as k
use Rattle.jh_rules.specs.Faults.{both, needs_none, broken, ◌>>=◌}
use Rattle.jh_rules.specs.Found.{Finds}
use Rattle.jh_rules.specs.Rules.{rule_28, rule_29_dvd}
use Rattle.jh_rules.specs.Kinds.{is_number}
use Rattle.jh_type.proofs.formula_kinds.Steps.{dvd-zero}
use Rattle.jh_type.proofs.formula_kinds.operators.multiple.Goals as goal

pub returns : goal.returns
returns c = λ j h. c.instead.ensures (both (needs_none (rule_29_dvd c.args.place c.args.number.now)) (j >>= (λ u. rule_28 (is_number u) c.args.place k.Bool))) (c.both.ensures _ _ (subst (λ fs. Finds c.unless-zero.result (needs_none fs)) (ap (broken 29 c.args.place) c.is_zero.ensures ∙ dvd-zero c.args.place c.args.number.now) c.unless-zero.ensures) (c.number_at.ensures j h))
