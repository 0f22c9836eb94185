use Rattle.std.proofs.Common.{List}
use Rattle.jh_ast.specs.Bare.{program_tree}
use Rattle.jh_arena.specs.table.Growth.{Extends}
use Rattle.jh_gen_laws.specs.jh_obligations.program_sequents.Owed.{AllStand, Debt}
use Rattle.jh_report.specs.report.Gathered.{Gathers}
use Rattle.jh_report.specs.report.Report.{Reported}
use Rattle.jh_reply.proofs.Judging.{Leads}
use Rattle.jh_reply.proofs.reporting.judged.Given as goal

abbrev pub invariant-loop-place : goal.invariant-loop-place
invariant-loop-place l = record {
  grows : Extends l.initial.table l.table;
  judged : (ds : List Debt) → AllStand l.initial.table l.sequents ds → (rs : List Reported) × Gathers l.report rs × Leads l.options (program_tree l.program) ds l.place rs;
}
