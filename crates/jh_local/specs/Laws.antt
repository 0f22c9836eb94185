-- What the ground search is for.
use Rattle.std.specs.Prelude.{◌≡◌, ℕ, true}
use Rattle.jh_seq.specs.sequent.Sequents.{SequentTree, IsValid}
use Rattle.jh_seq.specs.splitting.Local.{is_local}
use Rattle.jh_inst.specs.instances.Instances.{is_free, instances}
use Rattle.jh_local.specs.Answers.{HasNoModel}

-- A sequent of local shape is valid where its instances have no ground model.
abbrev pub LocalProofIsValid : Type 0
LocalProofIsValid = (s : SequentTree) (k r : ℕ) → is_local s ≡ true → is_free s k ≡ true → HasNoModel (instances s k r) → IsValid s
