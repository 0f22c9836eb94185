-- What a table of signatures holds.
use Rattle.std.specs.Prelude.{ℕ, List, Option}
use Rattle.std.specs.Map.{lookup}
use Rattle.jh_closure.specs.declared.congruence_closure.node.Node.{Node}
use Rattle.jh_closure.specs.contracts.congruence_closure.node.NodePartialEq.TheImpl.{ghosts}

-- the node of a signature
abbrev pub found : List (Node × ℕ) → Node → Option ℕ
found es k = lookup (ghosts.eq k) es
