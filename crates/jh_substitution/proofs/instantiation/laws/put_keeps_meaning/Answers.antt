use Rattle.jh_substitution.proofs.instantiation.Puttings.{put-means}
use Rattle.jh_substitution.proofs.instantiation.laws.put_keeps_meaning.Goals as goal

pub returns : goal.returns
returns c = λ a w m e. put-means w m a e
