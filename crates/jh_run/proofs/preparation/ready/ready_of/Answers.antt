use Rattle.jh_run.proofs.preparation.ready.ready_of.Goals as goal

pub returns-clause-ready : goal.returns-clause-ready
returns-clause-ready c =
    let steps = c.in_ok-methods.ensures.steps in
    let names = c.homes_of.new.names in
    record {
      bodies = steps.are_bodies names c.homes_of.ensures.grows;
      homes = c.in_ok-homes.ensures.homes;
      locals = c.in_ok-locals.ensures;
      places = steps.are_places names c.homes_of.ensures.grows;
      this = steps.is_this names c.homes_of.ensures.grows;
    }
