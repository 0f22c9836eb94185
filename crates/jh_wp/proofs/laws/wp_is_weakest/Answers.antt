use Rattle.jh_wp.proofs.Exactness.{truth-wp}
use Rattle.jh_wp.proofs.laws.wp_is_weakest.Goals as goal

pub returns : goal.returns
returns c = truth-wp
