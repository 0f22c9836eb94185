use Rattle.jh_reply.proofs.Exactness.{answered-exact}
use Rattle.jh_reply.proofs.Findings.{answered-by, answered-memory, answered-no-fault, answered-reports, answered-runs, answered-sums, answered-verifies}
use Rattle.jahob.proofs.top.jahob.Goals as goal

pub returns-clause-cause : goal.returns-clause-cause
returns-clause-cause g c = answered-by _ _ _ _ _ c.reply_to-reply.result c.reply_to-reply.ensures.fits c.deliver.ensures

pub returns-clause-headline : goal.returns-clause-headline
returns-clause-headline g c = λ v asked zero. answered-verifies c.spelled_source_is_accepted.ensures c.owed_is_sound.ensures c.owed_is_one.ensures c.proved_is_valid.ensures c.provable_is_proved.ensures _ _ _ _ _ (answered-by _ _ _ _ _ c.reply_to-reply.result c.reply_to-reply.ensures.fits c.deliver.ensures) v asked zero

pub returns-clause-report : goal.returns-clause-report
returns-clause-report g c = λ v asked low. answered-reports c.spelled_source_is_accepted.ensures c.owed_is_sound.ensures c.owed_is_one.ensures c.proved_is_valid.ensures c.provable_is_proved.ensures _ _ _ _ _ (answered-by _ _ _ _ _ c.reply_to-reply.result c.reply_to-reply.ensures.fits c.deliver.ensures) v asked low

pub returns-clause-returned : goal.returns-clause-returned
returns-clause-returned g c = λ r asked zero. answered-runs _ _ _ _ _ (answered-by _ _ _ _ _ c.reply_to-reply.result c.reply_to-reply.ensures.fits c.deliver.ensures) r asked zero

pub returns-clause-summed : goal.returns-clause-summed
returns-clause-summed g c = λ made asked low. answered-sums c.spelled_source_is_accepted.ensures c.owed_is_sound.ensures c.owed_is_one.ensures c.proved_is_valid.ensures c.provable_is_proved.ensures _ _ _ _ _ (answered-by _ _ _ _ _ c.reply_to-reply.result c.reply_to-reply.ensures.fits c.deliver.ensures) made asked low

pub returns-clause-exact : goal.returns-clause-exact
returns-clause-exact g c = answered-exact c.too_many_is_exact.ensures.little c.too_many_is_exact.ensures.much c.owed_is_one.ensures c.provable_is_proved.ensures _ _ _ _ _ (answered-by _ _ _ _ _ c.reply_to-reply.result c.reply_to-reply.ensures.fits c.deliver.ensures)

pub returns-clause-memory : goal.returns-clause-memory
returns-clause-memory g c = λ six. answered-memory _ _ _ _ _ (answered-by _ _ _ _ _ c.reply_to-reply.result c.reply_to-reply.ensures.fits c.deliver.ensures) six

pub returns-clause-faults : goal.returns-clause-faults
returns-clause-faults g c = λ not. answered-no-fault _ _ _ _ _ (answered-by _ _ _ _ _ c.reply_to-reply.result c.reply_to-reply.ensures.fits c.deliver.ensures) not
