-- A sequent of local shape whose instances have no ground model is valid.
use Rattle.std.proofs.Common.{◌≡◌, ℕ, true}
use Rattle.jh_seq.specs.sequent.Sequents.{SequentTree, IsValid}
use Rattle.jh_seq.specs.splitting.Local.{is_local}
use Rattle.jh_inst.specs.instances.Instances.{is_free, made, instances, normal_facts}
use Rattle.jh_inst.specs.instances.Laws.{ClashingInstancesGiveValid, MadeIsLocal}
use Rattle.jh_models.specs.interpretations.Laws.{NoModelGivesClash}
use Rattle.jh_inst.specs.plain_formulas.Laws.{InstancesAreLiterals, NormalIsPlain}
use Rattle.jh_local.specs.Answers.{HasNoModel}
use Rattle.jh_local.proofs.Locals.{facts-plain, locals}

pub proof-valid : MadeIsLocal → NormalIsPlain → InstancesAreLiterals → NoModelGivesClash → ClashingInstancesGiveValid →
    (s : SequentTree) (k r : ℕ) → is_local s ≡ true → is_free s k ≡ true → HasNoModel (instances s k r) → IsValid s
proof-valid shape plain literals clash valid s k r local free none =
    valid s k r free (clash (instances s k r) (locals (made s k r) (shape s k r local) (literals (normal_facts s) k r (facts-plain plain s))) none)
