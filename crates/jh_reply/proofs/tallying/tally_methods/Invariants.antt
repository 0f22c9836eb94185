use Rattle.std.proofs.Common.{List}
use Rattle.jh_ast.specs.Programs.{ProgramTree}
use Rattle.jh_arena.specs.table.Growth.{Extends}
use Rattle.jh_gen_laws.specs.jh_obligations.program_sequents.Owed.{AllStand, Debt}
use Rattle.jh_report.specs.report.Report.{Reported}
use Rattle.jh_reply.specs.Made.{IsTally}
use Rattle.jh_reply.proofs.Judging.{Leads}
use Rattle.jh_reply.proofs.tallying.tally_methods.Given as goal

abbrev pub invariant-loop-place : goal.invariant-loop-place
invariant-loop-place l = record {
  grows : Extends l.initial.table l.table;
  tallied : (p : ProgramTree) (ds : List Debt) → AllStand l.initial.table l.sequents ds → (rs : List Reported) × IsTally l.counts rs × Leads l.options p ds l.place rs;
}
