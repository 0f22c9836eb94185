use Rattle.std.proofs.Common.{subst, sym, List, [], ◌∷◌, ◌++◌}
use Rattle.jh_instantiation.specs.declared.instances.entry.NodeEntry.{NodeEntry}
use Rattle.jh_instantiation.specs.instances.Standing.{AreEntries}
use Rattle.jh_instantiation.proofs.instances.Growing.{one-entry}
use Rattle.jh_instantiation.proofs.instances.entry.NodeEntries.add.Goals as goal

pub returns : goal.returns
returns c = λ t es e h k.
    subst (λ (xs : List NodeEntry). AreEntries t c.args.self.now.terms.items xs (es ++ (e ∷ []))) (sym c.in_ok-push.ensures.items)
    (one-entry t c.args.self.now.terms.items c.args.self.now.items.items es c.args.entry e h k)
