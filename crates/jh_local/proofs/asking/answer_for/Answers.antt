use Rattle.std.proofs.Common.{◌≡◌, sym, ap, subst, true, List, Err}
use Rattle.std.specs.List.{list_all}
use Rattle.jh_inst.specs.instances.Count.{count}
use Rattle.jh_inst.specs.instances.Entries.{Entry}
use Rattle.jh_inst.specs.instances.Instances.{instances_of, normal_facts}
use Rattle.jh_inst.specs.plain_formulas.Plain.{are_literals}
use Rattle.jh_local.specs.Answers.{IsSearchedFor}
use Rattle.jh_local.proofs.Facts.{facts-stand}
use Rattle.jh_local.proofs.Locals.{facts-plain}
use Rattle.jh_local.proofs.Made.{both-made}
use Rattle.jh_local.proofs.asking.answer_for.Goals as goal

pub first_entries-requires : goal.first_entries-requires
first_entries-requires c = let s = c.requires.posed.0 in record { there = (normal_facts s, facts-stand c.args.apart s c.as_slice.result.now c.as_slice.ensures.value c.requires.posed.1) }

pub answer_from-requires-clause-made : goal.answer_from-requires-clause-made
answer_from-requires-clause-made c =
    let x = c.args.apart in
    let s = c.requires.posed.0 in
    let made = c.in-Ok.ensures.made (normal_facts s) (facts-stand x s c.as_slice.result.now c.as_slice.ensures.value c.requires.posed.1) in
    (made.0, made.1, subst (λ (es : List Entry). list_all are_literals (instances_of es) ≡ true) (sym made.2) (c.instances_are_literals.ensures (normal_facts s) x.first c.args.rounds (facts-plain c.normal_is_plain.ensures s)))

pub returns-in-Ok : goal.returns-in-Ok
returns-in-Ok c =
    let x = c.args.apart in
    both-made c.answer_from.result
    (λ found h derived s formed posed.
    let facts = facts-stand x s c.as_slice.result.now c.as_slice.ensures.value posed in
    let made = c.in-Ok.ensures.made (normal_facts s) facts in
    record {
      first = x.first;
      is_first = posed.first;
      right = subst (λ (es : List Entry). IsSearchedFor (instances_of es) (count s x.first c.args.rounds) c.args.leaves found) made.2
          (h made.0 (count s x.first c.args.rounds) (c.in-Ok.ensures.few (normal_facts s) facts) made.1);
      derived = derived s formed;
    })
    c.answer_from.ensures.right c.answer_from.ensures.derived

pub returns-in-Err-TooMany : goal.returns-in-Err-TooMany
returns-in-Err-TooMany c = λ s formed posed.
    let x = c.args.apart in record {
      first = x.first;
      is_first = posed.first;
      right = c.in-Err-TooMany.ensures.too_many (normal_facts s) c.in-Err-TooMany.count (facts-stand x s c.as_slice.result.now c.as_slice.ensures.value posed) (ap (λ e. Err e) c.in-Err-TooMany.field-0-is);
      derived = tt;
    }
