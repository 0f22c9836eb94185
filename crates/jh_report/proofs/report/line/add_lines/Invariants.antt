use Rattle.std.proofs.Common.{◌≡◌, ◌≤◌, ◌+◌, ◌-◌, ◌++◌, List, drop, length, string_bytes}
use Rattle.jh_seq.specs.sequent.Sequents.{SequentTree}
use Rattle.jh_splitting.specs.Standing.{AreSequents}
use Rattle.jh_report.specs.report.Report.{lines_from}
use Rattle.jh_report.proofs.report.line.add_lines.Given as goal

-- what is written, with the lines of the rest, is all
abbrev pub invariant-lines : goal.invariant-lines
invariant-lines l = record {
  within : l.at ≤ length l.items;
  whole : (ss : List SequentTree) → AreSequents l.table l.sequents.hyps l.sequents.method l.sequents.sequents.items ss
      → string_bytes l.text ++ lines_from l.class l.name (l.at + 1) (drop l.at ss) (drop l.at l.answers) ≡ string_bytes l.initial.text ++ lines_from l.class l.name 1 ss l.answers;
}

abbrev pub decreases-lines : goal.decreases-lines
decreases-lines l = length l.items - l.at
