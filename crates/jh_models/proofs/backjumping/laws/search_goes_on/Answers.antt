use Rattle.jh_models.proofs.backjumping.On.{begun, decided, closed}
use Rattle.jh_models.proofs.backjumping.laws.search_goes_on.Goals as goal

pub returns : goal.returns
returns c = record {
  begins = begun;
  decides = λ is bs path l h opened at undecided. decided is bs path l h at undecided opened;
  closes = λ is bs path explanation needs h explained are. closed is c.explained_is_closed.ensures bs path explanation needs h explained are;
}
