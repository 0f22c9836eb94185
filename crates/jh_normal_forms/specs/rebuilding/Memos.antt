-- What a memo holds.
use Rattle.std.specs.Prelude.{ℕ, Option}
use Rattle.indexmap.specs.IndexMap.{IndexMap, get}
use Rattle.jh_normal_forms.specs.declared.rebuilding.memo.Key.{Key}
use Rattle.jh_normal_forms.specs.contracts.rebuilding.memo.KeyPartialEq.TheImpl.{ghosts}

-- the answer for a key
abbrev pub found : {S : Type 0} → IndexMap Key ℕ S → Key → Option ℕ
found m k = get ghosts.eq m k
