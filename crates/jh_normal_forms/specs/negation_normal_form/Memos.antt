-- What a memo holds.
use Rattle.std.specs.Prelude.{ℕ, Option}
use Rattle.indexmap.specs.IndexMap.{IndexMap, get}
use Rattle.jh_normal_forms.specs.declared.negation_normal_form.memo.Signed.{Signed}
use Rattle.jh_normal_forms.specs.contracts.negation_normal_form.memo.SignedPartialEq.TheImpl.{ghosts}

-- the answer for a formula
abbrev pub found : {S : Type 0} → IndexMap Signed ℕ S → Signed → Option ℕ
found m k = get ghosts.eq m k
