use Rattle.jh_approx.specs.definition.Regions.{unlabelled}
use Rattle.jh_local.specs.jh_fca.local_form.LocalOf.{local_of}
use Rattle.jh_prove.proofs.prover.searching.by_search.Goals as goal

pub search_instances-requires-clause-form : goal.search_instances-requires-clause-form
search_instances-requires-clause-form c =
    let s = c.requires.sequent.0 in
    (local_of (unlabelled s), c.in_ok-form.ensures.local (unlabelled s) c.requires.sequent.1)
