use Rattle.jh_form.proofs.Universes.{term_inside}
use Rattle.jh_form.proofs.laws.terms_stay_inside.Goals as goal

pub returns : goal.returns
returns c m inside a e objects = term_inside m inside e objects a
