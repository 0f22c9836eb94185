use Rattle.std.proofs.Common.{refl, sym, ap, subst, ◌∙◌, ℕ, List, Option, Some, None}
use Rattle.jh_form.specs.Tree.{ValueTree}
use Rattle.jh_arena.specs.table.Nodes.{nodes}
use Rattle.jh_fca.specs.local_form.Named.{update_fact}
use Rattle.jh_local_form.specs.updates.NamedUpdates.{AreTold}
use Rattle.jh_local_form.proofs.updates.Places.{some-same}
use Rattle.jh_local_form.proofs.updates.Told.{told-none, told-some}
use Rattle.jh_local_form.proofs.updates.facts.add_fact.Goals as goal

pub returns-in-None-clause-fact : goal.returns-in-None-clause-fact
returns-in-None-clause-fact c = λ us u done is at are.
    let r = c.in_ok-told.ensures.fact us is in
    told-none c.args.table.now c.update_fact.new.table c.args.facts.now.items c.args.facts.now.items done (update_fact us c.args.names.now.first u) c.update_fact.ensures.grows refl are
    (subst (λ (o : Option ℕ). AreTold (nodes c.update_fact.new.table) o (update_fact us c.args.names.now.first u)) c.in-None.is (subst (λ (w : ValueTree). AreTold (nodes c.update_fact.new.table) c.in_ok-told.told (update_fact us c.args.names.now.first w)) (some-same r.0 u (sym r.1 ∙ at)) r.2))

pub returns-in_ok-push-in-Some-clause-fact : goal.returns-in_ok-push-in-Some-clause-fact
returns-in_ok-push-in-Some-clause-fact c = λ us u done is at are.
    let r = c.in_ok-told.ensures.fact us is in
    told-some c.args.table.now c.update_fact.new.table c.args.facts.now.items c.push.new.self.items c.in-Some.fact done (update_fact us c.args.names.now.first u) c.update_fact.ensures.grows c.in_ok-push-in-Some.ensures.items are
    (subst (λ (o : Option ℕ). AreTold (nodes c.update_fact.new.table) o (update_fact us c.args.names.now.first u)) c.in-Some.is (subst (λ (w : ValueTree). AreTold (nodes c.update_fact.new.table) c.in_ok-told.told (update_fact us c.args.names.now.first w)) (some-same r.0 u (sym r.1 ∙ at)) r.2))
