use Rattle.std.proofs.Common.{◌≡◌, sym, ap, ◌∙◌, true, false, if◌then◌else◌, [], ◌∷◌, ◌++◌}
use Rattle.jh_seq.specs.splitting.Split.{mark_of}
use Rattle.jh_fca.specs.local_form.Chosen.{is_chosen}
use Rattle.jh_local_form.specs.local_sequents.Choosing.{is_chosen_by}
use Rattle.jh_local_form.proofs.local_sequents.Marked.{chosen-is}
use Rattle.jh_local_form.proofs.local_sequents.choosing.add_chosen.Goals as goal

pub is_chosen-requires-clause-hyp : goal.is_chosen-requires-clause-hyp
is_chosen-requires-clause-hyp c = (c.requires.hyp.1.mark, c.requires.hyp.1.is_label)

pub returns-then-not-is_chosen : goal.returns-then-not-is_chosen
returns-then-not-is_chosen c = record {
  chosen = λ mark h label name.
      let e : is_chosen (mark_of mark).from h ≡ false = chosen-is (mark_of mark).from h ∙ ap (is_chosen_by (mark_of mark).from) name.is ∙ sym (c.is_chosen.ensures mark name.mark label name.is_label) ∙ c.if-not-is_chosen.true in
      ap (λ b. if b then c.args.chosen.now.items ++ c.args.fact ∷ [] else c.args.chosen.now.items) (sym e);
}

pub returns : goal.returns
returns c = record {
  chosen = λ mark h label name.
      let e : is_chosen (mark_of mark).from h ≡ true = chosen-is (mark_of mark).from h ∙ ap (is_chosen_by (mark_of mark).from) name.is ∙ sym (c.is_chosen.ensures mark name.mark label name.is_label) ∙ c.if-not-is_chosen.false in
      c.in_ok-push.ensures.items ∙ ap (λ b. if b then c.args.chosen.now.items ++ c.args.fact ∷ [] else c.args.chosen.now.items) (sym e);
}
