use Rattle.std.proofs.Common.{◌≡◌, None, drop}
use Rattle.jh_ast.specs.Bare.{form_trees}
use Rattle.jh_arena.specs.table.Growth.{Extends}
use Rattle.jh_arena.specs.table.Nodes.{nodes}
use Rattle.jh_resolution.specs.Meant.{AreHeld}
use Rattle.jh_resolution.specs.Spots.{union_in, set_at, SetsStand}
use Rattle.jh_resolution.proofs.resolving.+resolved.Given as goal

abbrev pub invariant-union_of-loop-form : goal.invariant-union_of-loop-form
invariant-union_of-loop-form l = record {
  grows : Extends l.fn.table l.table;
  held : AreHeld (nodes l.table) l.context.meanings.now;
  stand : SetsStand (nodes l.table) l.made;
  whole : union_in (nodes l.table) l.context l.at (form_trees l.forms) None ≡ union_in (nodes l.table) l.context l.at (form_trees (drop l.form-index l.forms)) (set_at (nodes l.table) l.made);
}
