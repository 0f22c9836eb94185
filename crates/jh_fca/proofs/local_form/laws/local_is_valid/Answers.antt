use Rattle.jh_fca.proofs.local_form.Sound.{local-valid}
use Rattle.jh_fca.proofs.local_form.laws.local_is_valid.Goals as goal

pub returns : goal.returns
returns c = local-valid c.axioms_are_true.ensures c.eliminated_may_stand.ensures
