use Rattle.std.proofs.Common.{ap, ◌∙◌, ℕ, List}
use Rattle.jh_form.specs.Bare.{formula_tree}
use Rattle.jh_arena.specs.table.Nodes.{nodes}
use Rattle.jh_instance_proofs.specs.derivations.Facts.{formulas_at, hyp_facts}
use Rattle.jh_instance_proofs.proofs.derivations.Forms.{facts-same}
use Rattle.jh_instance_proofs.proofs.derivations.answering.sequent_of.Goals as goal

pub returns : goal.returns
returns c =
    let t = c.args.table.now in
    let made = c.unlabelled_sequent in
    record {
      facts = λ s formed.
          facts-same t c.args.form.now made.result s formed
          (ap hyp_facts made.ensures.hyps ∙ c.in_ok-hyps.ensures ∙ ap (λ (ns : List ℕ). formulas_at (nodes t) ns) c.items.ensures)
          (ap formula_tree made.ensures.goal ∙ c.in_ok-goal.ensures);
    }
