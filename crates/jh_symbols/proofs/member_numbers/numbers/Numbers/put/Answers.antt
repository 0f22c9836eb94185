use Rattle.std.proofs.Common.{◌≡◌, ◌⊎◌, ℕ, List, sym, ap, ◌∙◌, slice_get, Some, if◌then◌else◌}
use Rattle.std.proofs.lemmas.Result.{IfOk-weaker}
use Rattle.std.specs.Vec.{with_item}
use Rattle.indexmap.specs.IndexMap.{get_by_text}
use Rattle.jh_rules.specs.Words.{same_text}
use Rattle.jh_symbols.specs.member_numbers.Numbering.{number_in}
use Rattle.std.proofs.lemmas.Option.{slice_get-get_or}
use Rattle.jh_symbols.proofs.member_numbers.Puttings.{noted, others}
use Rattle.jh_symbols.proofs.member_numbers.numbers.Numbers.put.Goals as goal

-- src/numbers.rt
pub returns-clause-noted : goal.returns-clause-noted
returns-clause-noted c =
    let maps = c.args.self.now.maps.items in
    let old = c.index_mut.result.now in
    let there : slice_get maps c.args.class ≡ Some old = slice_get-get_or maps c.args.class old c.requires ∙ ap Some (sym c.index_mut.ensures.value) in
    IfOk-weaker
    c.note.result
    (λ made. (x : List ℕ) → get_by_text c.note.new.known x ≡ (if same_text c.args.text.now x then Some c.args.number else get_by_text old x))
    (λ made. number_in (record { maps = with_item c.args.self.now.maps c.args.class c.note.new.known }) c.args.class c.args.text.now ≡ Some c.args.number)
    (λ made h. noted maps c.args.class old c.note.new.known c.args.number c.args.text.now c.requires there h)
    c.note.ensures

-- src/numbers.rt
pub returns-clause-others : goal.returns-clause-others
returns-clause-others c =
    let maps = c.args.self.now.maps.items in
    let old = c.index_mut.result.now in
    let there : slice_get maps c.args.class ≡ Some old = slice_get-get_or maps c.args.class old c.requires ∙ ap Some (sym c.index_mut.ensures.value) in
    IfOk-weaker
    c.note.result
    (λ made. (x : List ℕ) → get_by_text c.note.new.known x ≡ (if same_text c.args.text.now x then Some c.args.number else get_by_text old x))
    (λ made. (d : ℕ) (x : List ℕ) → ((d ≡ c.args.class) × (x ≡ c.args.text.now)) ⊎ (number_in (record { maps = with_item c.args.self.now.maps c.args.class c.note.new.known }) d x ≡ number_in c.args.self.now d x))
    (λ made h. others maps c.args.class old c.note.new.known c.args.number c.args.text.now c.requires there h)
    c.note.ensures
