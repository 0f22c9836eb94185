use Rattle.std.proofs.Common.{List}
use Rattle.std.specs.List.{filter}
use Rattle.std.proofs.lemmas.Result.{IfOk-weaker}
use Rattle.jh_form.specs.Tree.{FormulaTree}
use Rattle.jh_arena.specs.table.Nodes.{nodes}
use Rattle.jh_approx.specs.definition.Names.{without_repeats}
use Rattle.jh_reach.specs.Standing.{AreFormulas}
use Rattle.jh_fca.specs.local_form.Named.{is_whole_update, all_parts, updates}
use Rattle.jh_local_form.specs.updates.Updating.{AreValues, AreUpdates}
use Rattle.jh_local_form.proofs.updates.Apart.{updates-are}
use Rattle.jh_local_form.proofs.updates.gathering.updates.Goals as goal

pub returns : goal.returns
returns c = record {
  updates =
      let t = c.args.table.now in
      IfOk-weaker
      c.parts_of.result
      (λ made. (facts : List FormulaTree) → AreFormulas t c.args.formulas.now facts → AreValues (nodes t) made (without_repeats (filter is_whole_update (all_parts facts))))
      (λ made. (facts : List FormulaTree) → AreFormulas t c.args.formulas.now facts → AreUpdates (nodes t) made (updates facts))
      (λ made h facts are. updates-are (nodes t) made facts (h facts are))
      c.parts_of.ensures.parts;
}
