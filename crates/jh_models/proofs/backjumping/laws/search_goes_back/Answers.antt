use Rattle.jh_models.proofs.backjumping.Back.{dropped, joined, turned, spent, none-left}
use Rattle.jh_models.proofs.backjumping.laws.search_goes_back.Goals as goal

pub returns : goal.returns
returns c = record {
  drops = λ is bs t before needs h never. dropped is bs t before needs h never;
  joins = λ is bs t before needs all h here second are. joined is bs t before needs h all second are;
  turns = λ is bs t before needs rest h here first are. turned is bs t before needs h here first rest are;
  is_spent = λ is bs t before needs h here first leaves many. spent is bs t before needs h here first leaves many;
  no_model = none-left;
}
