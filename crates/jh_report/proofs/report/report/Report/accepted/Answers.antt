use Rattle.std.proofs.Common.{ap, ◌∙◌, ℕ, nat_eq}
use Rattle.jh_report.proofs.report.Accepting.{accepted-by-count}
use Rattle.jh_report.proofs.report.report.Report.accepted.Goals as goal

-- src/report.rt
pub returns : goal.returns
returns c = λ rs h. ap (λ (n : ℕ). nat_eq n 0) h.unproved ∙ accepted-by-count rs
