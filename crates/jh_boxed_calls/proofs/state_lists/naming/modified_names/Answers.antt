use Rattle.std.proofs.Common.{refl, sym, ◌∙◌}
use Rattle.std.proofs.lemmas.Result.{IfOk-weaker}
use Rattle.std.specs.Prelude.{filter}
use Rattle.jh_effects.specs.jh_vars.Written.{all_state}
use Rattle.jh_boxed_calls.proofs.state_lists.naming.modified_names.Goals as goal

pub returns : goal.returns
returns c = IfOk-weaker c.names_at.result _ _
    (λ made named. λ p part same at. record {
      selected = filter at.test (all_state p);
      is = record { test = at.test; exact = at.exact; is = refl };
      named = named p at.test same (c.places.ensures ∙ at.is);
    })
    c.names_at.ensures
