use Rattle.std.proofs.Common.{◌∙◌, sym, ap, List, ℕ, ◌++◌}
use Rattle.jh_report.specs.causes.Causes.{joined}
use Rattle.jh_report.specs.causes.Pieces.{gap}
use Rattle.jh_report.proofs.causes.Joining.{joined-more, some-more}
use Rattle.jh_report.proofs.causes.pieces.Pieces.add.Goals as goal

pub returns : goal.returns
returns c = λ ps h. record {
  text = c.in_ok-push_str-2.ensures.bytes
      ∙ ap (λ (t : List ℕ). t ++ c.args.piece.now)
      (c.in_ok-push_str.ensures.bytes
      ∙ ap (λ (t : List ℕ). t ++ c.gap.result.now) h.text
      ∙ ap (λ (g : List ℕ). joined ps ++ g) (c.gap.ensures ∙ ap gap h.started))
      ∙ sym (joined-more ps c.args.piece.now);
  started = sym (some-more ps c.args.piece.now);
}
