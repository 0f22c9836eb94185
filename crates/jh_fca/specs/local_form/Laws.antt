-- What the local form is for.
use Rattle.std.specs.Prelude.{◌≡◌, true}
use Rattle.jh_seq.specs.sequent.Sequents.{SequentTree, IsValid}
use Rattle.jh_seq.specs.splitting.Local.{is_local}
use Rattle.jh_fca.specs.local_form.LocalOf.{local_of}

-- Where the local form is valid, so is the sequent.
abbrev pub LocalIsValid : Type 0
LocalIsValid = (s : SequentTree) → IsValid (local_of s) → IsValid s

-- The local form has local shape: no updates, no operations on sets, and fields that are names.
abbrev pub LocalHasShape : Type 0
LocalHasShape = (s : SequentTree) → is_local (local_of s) ≡ true
