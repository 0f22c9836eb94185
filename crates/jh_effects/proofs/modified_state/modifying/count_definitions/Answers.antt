use Rattle.std.proofs.Common.{◌≡◌, ◌<◌, ◌⊎◌, sym, ap, subst, ◌∙◌, ℕ, List, Some, length, slice_get, arith}
use Rattle.std.proofs.lemmas.Option.{slice_get_within}
use Rattle.jh_symbols.proofs.member_numbers.Puttings.{item-is}
use Rattle.jh_symbols.specs.member_numbers.Numbering.{number_in}
use Rattle.jh_rules.specs.Words.{text_of}
use Rattle.jh_effects.proofs.written_state.Gathering.{none-some}
use Rattle.jh_effects.proofs.modified_state.Counting.{counted-next, below-next}
use Rattle.jh_effects.proofs.modified_state.modifying.count_definitions.Goals as goal

-- src/modifying.rt
pub loop-at-init : goal.loop-at-init
loop-at-init c = record {
  counted = λ d x n e. absurd (none-some n (sym (c.in_ok-numbers.ensures.none d x) ∙ e));
  below = λ k d lt at none. absurd (omega arith);
  classes = c.in_ok-numbers.ensures.classes;
}

-- src/modifying.rt
pub put-requires : goal.put-requires
put-requires c =
    let ds = c.args.definitions.now in
    let n = c.loop-at.at in
    let d = c.index-definitions-at.result in
    let at : slice_get ds n ≡ Some d = item-is ds n d c.loop-at-test.true c.index-definitions-at.is in
    subst (λ (k : ℕ). d.class < k) (sym c.loop-at.invariant.classes) (c.requires n d at)

-- src/modifying.rt
pub loop-at-preserved : goal.loop-at-preserved
loop-at-preserved c =
    let ds = c.args.definitions.now in
    let n = c.loop-at.at in
    let d = c.index-definitions-at.result in
    let at : slice_get ds n ≡ Some d = item-is ds n d c.loop-at-test.true c.index-definitions-at.is in
    let old = c.loop-at.numbers in
    let new = c.put.new.self in
    let number = c.in_ok-number.number in
    let noted : number_in new d.class (text_of d.word.now) ≡ Some number = ap (number_in new d.class) (sym c.text.ensures) ∙ c.in_ok-put.ensures.noted in
    let others : (k : ℕ) (x : List ℕ) → ((k ≡ d.class) × (x ≡ text_of d.word.now)) ⊎ (number_in new k x ≡ number_in old k x) =
    subst (λ (t : List ℕ). (k : ℕ) (x : List ℕ) → ((k ≡ d.class) × (x ≡ t)) ⊎ (number_in new k x ≡ number_in old k x)) c.text.ensures c.in_ok-put.ensures.others in
    record {
      counted = counted-next c.args.start old new ds n number d at c.in_ok-number.ensures noted others c.loop-at.invariant.counted;
      below = below-next c.args.start old new ds n number d at c.in_ok-number.ensures noted others c.loop-at.invariant.below;
      classes = c.in_ok-put.ensures.classes ∙ c.loop-at.invariant.classes;
    }

-- src/modifying.rt
pub returns-clause-all : goal.returns-clause-all
returns-clause-all c = λ k d at none. let lt : k < length c.args.definitions.now = slice_get_within c.args.definitions.now k d at in c.loop-at.invariant.below k d (omega arith) at none
