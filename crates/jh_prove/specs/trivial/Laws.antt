-- What it is for a sequent to be trivial.
use Rattle.jh_seq.specs.sequent.Sequents.{SequentTree, IsValid}
use Rattle.jh_prove.specs.trivial.Trivial.{IsTrivial}

-- A trivial sequent is valid.
abbrev pub TrivialIsValid : Type 0
TrivialIsValid = (s : SequentTree) → IsTrivial s → IsValid s
