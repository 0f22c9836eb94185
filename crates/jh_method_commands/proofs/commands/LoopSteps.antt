-- What loops change, as it is found.
use Rattle.std.proofs.Common.{◌≡◌, sym, ap, ◌∙◌, ◌+◌, suc, arith, List, [], length}
use Rattle.std.specs.Option.{option_map_or}
use Rattle.jh_form.specs.Tree.{of_truth}
use Rattle.jh_form.specs.Tree as t
use Rattle.jh_arena.specs.table.Entries.{Listing}
use Rattle.jh_containers.specs.transitive_closure.Spreads.{passed_to}
use Rattle.jh_symbols.specs.member_numbers.Numbering.{number_in}
use Rattle.jh_semantics.specs.Code.{Text}
use Rattle.jh_state_facts.specs.changes.Added.{sorted_in}
use Rattle.jh_method_commands.specs.declared.environment.outline.Outline.{Outline}
use Rattle.jh_method_commands.specs.environment.Outlines.{IsOutline, program_in, writes_in, source_of}
use Rattle.jh_method_commands.proofs.environment.OutlineSteps.{program-classes, writes-written}
use Rattle.jh_loop_targets.specs.declared.told.Told.{Told}
use Rattle.jh_loop_targets.specs.Telling.{standing, is_text_of, value_at, node_of, Tells, AreStates}

-- what the formulas are, and what methods write, as the finder of changed names is told
pub tells : (o : Outline) (l : Listing) (k : Told) → IsOutline l o → k.states.now ≡ o.state.now → k.numbers.now ≡ o.numbers.now → k.rows.now ≡ o.written.now → k.formulas.now ≡ o.formulas.now → Tells k l (source_of o) (writes_in o)
tells o l k h states numbers rows formulas = record {
  written = λ m x.
      writes-written o m x
      ∙ (λ i. is_text_of (standing (sym states i) (option_map_or (λ n. passed_to (sym rows i) n) (number_in (sym numbers i) m.class m.name) [])) x);
  values = λ n. ap (λ v. option_map_or (λ x. x) v (of_truth t.true_formula)) (sym (h.formulas.is n)) ∙ ap (λ ns. value_at l (node_of ns n)) (sym formulas);
}

pub are-states : (o : Outline) (l : Listing) (k : Told) → IsOutline l o → k.states.now ≡ o.state.now → k.sets ≡ length o.classes.now + 2 → AreStates k (program_in o)
are-states o l k h states sets = record {
  names = ap sorted_in states ∙ h.names;
  sets = sets ∙ (omega arith) ∙ ap (λ (cs : List Text). suc (suc (length cs))) (sym (program-classes o));
}
