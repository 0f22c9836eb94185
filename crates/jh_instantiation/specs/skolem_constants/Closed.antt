-- A closing hangs on no table.
use Rattle.std.specs.Prelude.{List}
use Rattle.std.proofs.Common.{refl}
use Rattle.jh_name.specs.declared.naming.Name.{Name}
use Rattle.jh_substitution.specs.rewriting.Rewritten.{leaves_alone}
use Rattle.jh_substitution.specs.rewriting.Walks.{Stays}
use Rattle.jh_seq.specs.splitting.Split.{closing}

pub closing-stays : (ws : List Name) → Stays (λ t. Unit {0}) (λ t. leaves_alone (closing ws))
closing-stays ws = record { ready = λ old new g h. h; same = λ old new g h. refl }
