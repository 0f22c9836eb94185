use Rattle.std.proofs.Common.{◌≡◌, ◌<◌, ◌≤◌, ◌+◌, ◌++◌, ◌∙◌, List, get_or, sym, ap, subst, length, arith}
use Rattle.std.specs.Prelude.{string_bytes}
use Rattle.jh_form.specs.declared.mark.Mark.{Mark}
use Rattle.jh_splitting.specs.declared.sequent.NodeSequent.{NodeSequent}
use Rattle.jh_splitting.specs.Standing.{AreSequents, IsSequent}
use Rattle.std.proofs.lemmas.Option.{get_or_from_slice_get}
use Rattle.jh_prove.specs.declared.prover.answer.Answer.{Answer}
use Rattle.jh_report.specs.report.Report.{lines_for}
use Rattle.jh_report.proofs.report.Numbered.{paired-at, lines-end, lines-more}
use Rattle.jh_report.proofs.report.line.add_lines.Goals as goal

pub shown_at-label-requires : goal.shown_at-label-requires
shown_at-label-requires c =
    let q = c.args.sequents.now in
    let h = subst (λ (zs : List NodeSequent). AreSequents c.args.table.now q.hyps q.method zs c.requires.there.0) (sym c.as_slice-items.ensures.value) c.requires.there.1 in
    let one = paired-at (IsSequent c.args.table.now q.hyps q.method) c.as_slice-items.result.now c.requires.there.0 c.lines.at _ h c.lines-test.true in
    record { there = (one.1.mark, one.1.label) }

pub lines-preserved : goal.lines-preserved
lines-preserved c = record {
  within = omega (arith, c.lines-test.true);
  whole = λ ss h.
      let inside : c.lines.at < length c.args.answers.now = omega (arith, c.lines-test.true, ap length c.as_slice-items.ensures.value, c.requires.each) in
      let q = c.args.sequents.now in
      let there = subst (λ (zs : List NodeSequent). AreSequents c.args.table.now q.hyps q.method zs ss) (sym c.as_slice-items.ensures.value) h in
      let one = paired-at (IsSequent c.args.table.now q.hyps q.method) c.as_slice-items.result.now ss c.lines.at _ there c.lines-test.true in
      let answer : get_or c.args.answers.now c.lines.at c.answer_at-answer.result.now ≡ c.answer_at-answer.result.now = get_or_from_slice_get c.args.answers.now c.lines.at c.answer_at-answer.result.now c.answer_at-answer.result.now c.answer_at-answer.ensures in
      lines-more c.args.class.now c.args.name.now ss c.args.answers.now c.lines.at one.0 c.answer_at-answer.result.now (string_bytes c.lines.text) (string_bytes c.add_answer.new.text) _ one.2 inside
      (c.in_ok-add_answer.ensures one.0.mark (c.shown_at-label.ensures.kind one.1.mark one.1.label ∙ ap (λ (m : Mark). m.kind) (sym one.1.shown))
      (c.shown_at-label.ensures.place one.1.mark one.1.label ∙ ap (λ (m : Mark). m.place) (sym one.1.shown))
      ∙ ap (λ (a : Answer). string_bytes c.lines.text ++ lines_for c.args.class.now c.args.name.now (c.lines.at + 1) one.0.mark a) (sym answer))
      (c.lines.invariant.whole ss h);
}

pub returns : goal.returns
returns c = λ ss h.
    let long : length c.args.answers.now ≤ c.lines.at = omega (arith, c.lines-test.false, ap length c.as_slice-items.ensures.value, c.requires.each) in
    lines-end c.args.class.now c.args.name.now ss c.args.answers.now c.lines.at (c.lines.at + 1) (string_bytes c.lines.text) _ long (c.lines.invariant.whole ss h)
