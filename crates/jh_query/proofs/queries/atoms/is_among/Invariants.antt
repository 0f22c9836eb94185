use Rattle.std.proofs.Common.{◌≡◌, ◌||◌, map, drop}
use Rattle.std.specs.List.{flat_map, list_any}
use Rattle.jh_query.specs.queries.Bare.{cond_tree}
use Rattle.jh_query.specs.queries.Same.{same_atom}
use Rattle.jh_query.specs.queries.Size.{atoms}
use Rattle.jh_query.proofs.queries.atoms.is_among.Given as goal

abbrev pub invariant-loop-cond : goal.invariant-loop-cond
invariant-loop-cond l =
    let test = same_atom (cond_tree l.atom) in
    list_any test (flat_map atoms (map cond_tree l.conds)) ≡ (l.any || list_any test (flat_map atoms (map cond_tree (drop l.cond-index l.conds))))
