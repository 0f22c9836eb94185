use Rattle.jh_reach.specs.Axioms.{axioms_of}
use Rattle.jh_derivation_steps.proofs.premises.Cited.{axiom-there}
use Rattle.jh_derivation_steps.proofs.premises.citing.axiom_at.Goals as goal

pub returns-clause-made : goal.returns-clause-made
returns-clause-made c = λ b are is.
    axiom-there c.backbone_axioms.new.table c.in_ok-made.made.items c.as_slice.result.now (axioms_of b) c.args.place c.item_at.result (c.in_ok-made.ensures.nodes b are is) c.as_slice.ensures.value c.item_at.ensures
