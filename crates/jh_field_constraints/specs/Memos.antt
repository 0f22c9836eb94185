-- What a memo holds.
use Rattle.std.specs.Prelude.{ℕ, Option}
use Rattle.indexmap.specs.IndexMap.{IndexMap, get}
use Rattle.jh_field_constraints.specs.declared.memo.Signed.{Signed}
use Rattle.jh_field_constraints.specs.contracts.memo.SignedPartialEq.TheImpl.{ghosts}

-- the answer for a formula
abbrev pub found : {S : Type 0} → IndexMap Signed ℕ S → Signed → Option ℕ
found m k = get ghosts.eq m k
