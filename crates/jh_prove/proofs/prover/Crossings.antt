-- Answers may go to other threads and be shared by them.
use denote.Param.Send.{IsSend, IsSync, sendable}
use Rattle.std.proofs.Crossing.{crosses}
use Rattle.jh_name.proofs.row.Row.TheSendSync as row
use Rattle.jh_query.proofs.queries.query.SetExpr.TheLaws.TheKnot as sets
use Rattle.jh_query.proofs.queries.query.Num.TheLaws.TheKnot as numbers
use Rattle.jh_query.proofs.queries.query.Cond.TheLaws.TheKnot as conditions
use Rattle.jh_query.specs.contracts.queries.query.Query as Query
use Rattle.jh_local.proofs.Crossings.{derivation_send, derivation_sync, cause_send, cause_sync}
use Rattle.jh_prove.specs.contracts.prover.answer.Answer as Answer
use Rattle.jh_bapa.specs.contracts.answers.answer.BapaCause as BapaCause

query_send : IsSend (Query.the_field).row
query_send = search (row.the_send, crosses, sets.crosses, numbers.crosses, conditions.crosses, sendable) depth 60 fits 20000

regions_send : IsSend (BapaCause.the_field).row
regions_send = search (row.the_send, crosses, sendable) depth 60 fits 20000

pub answer_send : IsSend Answer.the_row
answer_send = search (derivation_send, cause_send, query_send, regions_send, crosses, sendable) depth 60 fits 20000

query_sync : IsSync (Query.the_field).row
query_sync = search (row.the_sync, crosses, sets.crosses, numbers.crosses, conditions.crosses, sendable) depth 60 fits 20000

regions_sync : IsSync (BapaCause.the_field).row
regions_sync = search (row.the_sync, crosses, sendable) depth 60 fits 20000

pub answer_sync : IsSync Answer.the_row
answer_sync = search (derivation_sync, cause_sync, query_sync, regions_sync, crosses, sendable) depth 60 fits 20000
