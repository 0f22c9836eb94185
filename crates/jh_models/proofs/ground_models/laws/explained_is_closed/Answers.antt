use Rattle.std.proofs.Common.{[]}
use Rattle.jh_models.proofs.ground_models.Models.{explained-closed}
use Rattle.jh_models.proofs.ground_models.laws.explained_is_closed.Goals as goal

pub returns : goal.returns
returns c = λ is decisions explanation h m g held. explained-closed is m g decisions [] explanation held tt h
