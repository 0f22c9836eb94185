use Rattle.std.proofs.Common.{◌≡◌, ◌∙◌, ℕ, List}
use Rattle.std.proofs.lemmas.Result.{IfOk-weaker}
use Rattle.jh_form.specs.Tree.{FormulaTree}
use Rattle.jh_seq.specs.sequent.Sequents.{SequentTree}
use Rattle.jh_reach.specs.Standing.{AreFormulas}
use Rattle.jh_fca.specs.local_form.Each.{formulas}
use Rattle.jh_fca.specs.local_form.Named.{first_turn}
use Rattle.jh_local_form.specs.local_sequents.Forming.{IsFormed}
use Rattle.jh_local_form.proofs.local_sequents.Forms.{formulas-stand}
use Rattle.jh_local_form.proofs.local_sequents.localizing.turn_beyond.Goals as goal

pub first_turn-requires : goal.first_turn-requires
first_turn-requires c = record { formulas = (formulas c.requires.form.0, formulas-stand c.args.table.now c.args.form.now c.requires.form.0 c.items.result.now c.requires.form.1 (c.items.ensures ∙ c.in_ok-formulas.ensures)) }

pub returns : goal.returns
returns c =
    let t = c.args.table.now in
    IfOk-weaker
    c.first_turn.result
    (λ (made : ℕ). (facts : List FormulaTree) → AreFormulas t c.items.result.now facts → made ≡ first_turn facts)
    (λ (made : ℕ). (s : SequentTree) → IsFormed t c.args.form.now s → made ≡ first_turn (formulas s))
    (λ made h s is. h (formulas s) (formulas-stand t c.args.form.now s c.items.result.now is (c.items.ensures ∙ c.in_ok-formulas.ensures)))
    c.first_turn.ensures.turn
