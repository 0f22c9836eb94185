use Rattle.std.proofs.Common.{◌≡◌, Some, drop}
use Rattle.std.specs.Option.{option_map_or}
use Rattle.jh_vars.specs.Resolved as r
use Rattle.jh_resolution.specs.Spots.{texts_of}
use Rattle.jh_resolution.proofs.values.bound_as.Given as goal

abbrev pub invariant-loop-index : goal.invariant-loop-index
invariant-loop-index l = r.bound_as l.text (texts_of l.bound) ≡ option_map_or (λ i. Some i) (r.bound_as l.text (texts_of (drop l.index l.bound))) l.found
