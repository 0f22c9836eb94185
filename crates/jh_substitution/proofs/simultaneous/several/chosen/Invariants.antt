use Rattle.std.proofs.Common.{◌≡◌, drop}
use Rattle.jh_substitution.specs.simultaneous.Pairs.{chosen_of}
use Rattle.jh_substitution.proofs.simultaneous.several.chosen.Given as goal

-- the first pairs are not the node's
abbrev pub invariant-loop-pair : goal.invariant-loop-pair
invariant-loop-pair l = record { rest : chosen_of l.pairs l.node ≡ chosen_of (drop l.pair-index l.pairs) l.node }
