-- What a memo holds.
use Rattle.std.specs.Prelude.{Option}
use Rattle.indexmap.specs.IndexMap.{IndexMap, get}
use Rattle.jh_query_names.specs.declared.visible_part.memo.Signed.{Signed}
use Rattle.jh_query_names.specs.declared.visible_part.memo.Made.{Made}
use Rattle.jh_query_names.specs.contracts.visible_part.memo.SignedPartialEq.TheImpl.{ghosts}

-- what is noted of a formula
abbrev pub found : {S : Type 0} → IndexMap Signed Made S → Signed → Option Made
found m k = get ghosts.eq m k
