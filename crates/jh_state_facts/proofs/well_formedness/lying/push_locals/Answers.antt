use Rattle.std.proofs.Common.{◌≡◌, subst}
use Rattle.jh_name.specs.declared.naming.Name.{Name}
use Rattle.jh_form.specs.Tree as tree
use Rattle.jh_arena.proofs.table.Listed.{extends-trans}
use Rattle.jh_semantics.specs.State.{named}
use Rattle.jh_semantics.specs.WellFormed.{local_facts, lies_in}
use Rattle.jh_state_facts.specs.schemas.Meant.{name_in}
use Rattle.jh_state_facts.specs.well_formedness.Facts.{AddsFacts}
use Rattle.jh_state_facts.specs.well_formedness.States.{local_of}
use Rattle.jh_state_facts.proofs.well_formedness.FactSteps.{adds-next}
use Rattle.jh_state_facts.proofs.well_formedness.lying.push_locals.Goals as goal

pub loop-place-preserved : goal.loop-place-preserved
loop-place-preserved c =
    let x = c.local_at-local.result in
    let same : name_in c.plain.result ≡ named x.text.now = λ i. record { text = c.plain.ensures.text i; turn = c.plain.ensures.turn i } in
    record {
      grows = extends-trans c.args.table.now c.loop-place.table c.push_lies.new.table c.loop-place.invariant.grows c.push_lies.ensures.grows;
      facts =
          adds-next (local_facts c.args.classes.now) local_of c.args.scope.now x c.loop-place.place c.loop-place.table c.push_lies.new.table c.args.facts.now.items c.loop-place.facts.items c.push_lies.new.facts.items c.local_at-local.ensures c.push_lies.ensures.grows c.loop-place.invariant.facts
          (subst (λ (y : Name). AddsFacts c.push_lies.new.table c.loop-place.facts.items c.push_lies.new.facts.items (lies_in c.args.classes.now x.ty (tree.free_object y))) same c.in_ok-push_lies.ensures.facts);
    }
