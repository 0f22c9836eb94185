use Rattle.std.proofs.Common.{◌≡◌, ◌∙◌, List, ℕ}
use Rattle.std.proofs.lemmas.Result.{IfOk-weaker}
use Rattle.jh_form.specs.Tree.{FormulaTree}
use Rattle.jh_reach.specs.Standing.{AreFormulas}
use Rattle.jh_fca.specs.local_form.Named.{first_turn}
use Rattle.jh_local_form.proofs.updates.turns.first_turn.Goals as goal

pub returns : goal.returns
returns c = record {
  turn =
      IfOk-weaker
      c.small.result
      (λ (made : ℕ). made ≡ c.greatest-first.result)
      (λ (made : ℕ). (facts : List FormulaTree) → AreFormulas c.args.table.now c.args.formulas.now facts → made ≡ first_turn facts)
      (λ made e facts are. e ∙ c.greatest-first.ensures facts are)
      c.small.ensures;
}
