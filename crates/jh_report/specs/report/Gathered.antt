-- What a report holds that isn't finished.
use Rattle.std.specs.Prelude.{◌≡◌, List, length, count_by, string_bytes}
use Rattle.jh_prove.specs.prover.Answers.{is_unproved}
use Rattle.jh_report.specs.declared.report.report.Report.{Report}
use Rattle.jh_report.specs.report.Report.{Reported, all_lines, all_answers}

-- the lines of these methods, and the numbers that the last line says
pub record Gathers (report : Report) (rs : List Reported) : Type 0 where
  pub text : string_bytes report.text ≡ all_lines rs
  pub methods : report.methods ≡ length rs
  pub sequents : report.sequents ≡ length (all_answers rs)
  pub unproved : report.unproved ≡ count_by is_unproved (all_answers rs)
