-- Choices of the flags as numbers, and what may be true under 64 of them.
use Rattle.std.specs.Prelude.{◌≡◌, ℕ, zero, suc, ◌+◌, ◌*◌, ◌<◌, Bool, true, false, if◌then◌else◌, List, [], ◌∷◌}
use Rattle.std.specs.Int.{bit_at}
use Rattle.jh_query.specs.declared.queries.sizes.Spot.{Spot}
use Rattle.jh_query.specs.queries.Tree.{CondTree, QueryTree}
use Rattle.jh_query.specs.queries.Tree as t
use Rattle.jh_query.specs.queries.Sizing.{Sizing}
use Rattle.jh_query.specs.queries.Truth.{holds, query_true}
use Rattle.jh_query.specs.declared.partial_truth.casing.Atom.{Atom}
use Rattle.jh_query.specs.partial_truth.Judged.{Agrees}
use Rattle.jh_bapa.specs.declared.decision.flagging.May.{May}

-- bit f of the choice n is 1 where flag f is true
abbrev pub IsChoice : Sizing → ℕ → Type 0
IsChoice z n = (f : ℕ) → bit_at n f ≡ (if holds z (t.flag f) then 1 else 0)

-- bit i of the words allows a truth
abbrev pub Allows : May → ℕ → Bool → Type 0
Allows m i p = (p ≡ true → bit_at m.yes i ≡ 1) × (p ≡ false → bit_at m.no i ≡ 1)

-- the words of a condition allow, for each of 64 choices, its truth under all sizes that agree and have this choice
abbrev pub AllowsAll : May → ℕ → List Spot → List Atom → CondTree → Type 0
AllowsAll m block spots atoms c = (z : Sizing) (i : ℕ) → i < 64 → Agrees z spots atoms → IsChoice z (block * 64 + i) → Allows m i (holds z c)

-- no sizes that agree and have one of 64 choices refute a query
abbrev pub IsVain : ℕ → List Spot → List Atom → QueryTree → Type 0
IsVain block spots atoms q = (z : Sizing) (i : ℕ) → i < 64 → Agrees z spots atoms → IsChoice z (block * 64 + i) → query_true q z ≡ true
