use Rattle.std.proofs.Common.{◌∙◌, ap, sym, Some}
use Rattle.std.proofs.lemmas.Option.{slice_get-get_or}
use Rattle.jh_instantiation.specs.declared.instances.entry.NodeEntry.{NodeEntry}
use Rattle.jh_instantiation.proofs.instances.Growing.{entry-at}
use Rattle.jh_instantiation.proofs.instances.entry.NodeEntries.formula.Goals as goal

pub returns : goal.returns
returns c = λ t es e h f.
    let items = c.args.self.now.items.items in
    let at = slice_get-get_or items c.args.place c.index.result.now c.requires ∙ ap (λ (x : NodeEntry). Some x) (sym c.index.ensures) in
    (entry-at t c.args.self.now.terms.items items es c.args.place c.index.result.now e h at f).formula
