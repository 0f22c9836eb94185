use Rattle.std.proofs.Common.{◌≡◌, ◌++◌, Bool, List, false, drop, get_or, map}
use Rattle.jh_bapa.proofs.decision.reading.column_of.Given as goal

abbrev pub invariant-loop-layer : goal.invariant-loop-layer
invariant-loop-layer l = l.row.items ++ map (λ (layer : List Bool). get_or layer l.column false) (drop l.layer-index l.layers) ≡ map (λ (layer : List Bool). get_or layer l.column false) l.layers
