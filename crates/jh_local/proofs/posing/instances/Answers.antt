use Rattle.std.proofs.Common.{◌≡◌, ◌≤◌, ◌∙◌, sym, ap, ℕ, List, [], ◌∷◌, ◌++◌, if◌then◌else◌, take, length, add-one, arith}
use Rattle.std.proofs.lemmas.List.{take_all}
use Rattle.jh_form.specs.Tree.{FormulaTree}
use Rattle.jh_inst.specs.instances.Entries.{Entry}
use Rattle.jh_inst.specs.instances.Instances.{is_ground, instances_of}
use Rattle.jh_local.proofs.Made.{entries-length, entry-at, instances-next, truth-there}
use Rattle.jh_local.proofs.posing.instances.Goals as goal

pub add_instance-requires-clause-there : goal.add_instance-requires-clause-there
add_instance-requires-clause-there c =
    let x = c.args.entries.now in
    let there = entry-at c.args.table.now x.terms.items x.items.items c.requires.made.0 c.loop-place.place c.entry_at.result c.requires.made.1 c.entry_at.ensures in
    truth-there _ there.0.formula there.2.formula

pub loop-place-preserved : goal.loop-place-preserved
loop-place-preserved c =
    let x = c.args.entries.now in
    let i = c.loop-place.place in
    record {
      truths = c.in_ok-add_instance.ensures.truths;
      instances = λ es made.
          let there = entry-at c.args.table.now x.terms.items x.items.items es i c.entry_at.result made c.entry_at.ensures in
          c.in_ok-add_instance.ensures.instances there.0.formula there.2.formula
          ∙ (ap (λ (fs : List FormulaTree). fs ++ (if is_ground there.0.formula then there.0.formula ∷ [] else [])) (c.loop-place.invariant.instances es made)
          ∙ (sym (instances-next es i there.0 there.1) ∙ ap (λ (n : ℕ). instances_of (take n es)) (sym (add-one i))));
    }

pub returns-clause-instances : goal.returns-clause-instances
returns-clause-instances c = λ es made.
    let x = c.args.entries.now in
    let long : length es ≡ length x.items.items = entries-length c.args.table.now x.terms.items x.items.items es made in
    let far : length es ≤ c.loop-place.place = search (arith, long) in
    c.loop-place.invariant.instances es made ∙ ap (λ (fs : List Entry). instances_of fs) (take_all c.loop-place.place es far)
