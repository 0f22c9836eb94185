-- The system of a query, where its elements stand and its atoms have cases.
use Rattle.std.specs.Prelude.{◌≡◌, List, length, ◌^◌}
use Rattle.jh_digits.specs.declared.systems.system.System.{System}
use Rattle.jh_query.specs.declared.queries.sizes.Spot.{Spot}
use Rattle.jh_query.specs.queries.Tree.{QueryTree}
use Rattle.jh_query.specs.declared.partial_truth.casing.Atom.{Atom}
use Rattle.jh_bapa.specs.decision.Systems.{emptied, entries_of, frame_of, needs_of, rights_of, width_of}

pub record IsSystemOf (q : QueryTree) (atoms : List Atom) (spots : List Spot) (s : System) : Type 0 where
  pub rows : s.rows ≡ length (rights_of (frame_of q atoms spots) atoms)
  pub columns : s.columns ≡ width_of (frame_of q atoms spots)
  pub entries : s.entries ≡ entries_of (frame_of q atoms spots) 0 atoms
  pub right : s.right ≡ rights_of (frame_of q atoms spots) atoms
  pub needs : s.needs ≡ needs_of (2 ^ q.sets) (emptied q.sets atoms) spots atoms
