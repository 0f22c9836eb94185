use Rattle.std.proofs.Common.{subst, List, IfOk}
use Rattle.jh_inst.specs.instances.Entries.{Entry}
use Rattle.jh_inst.specs.instances.Instances.{instances_of}
use Rattle.jh_inst.specs.instances.Rounds.{all_puts, of_one, ended}
use Rattle.jh_inst.specs.plain_formulas.Plain.{are_literals}
use Rattle.jh_ground_input.specs.jh_instantiation.instances.Standing.{IsMade}
use Rattle.jh_local.specs.Answers.{HasNoModel}
use Rattle.jh_local.proofs.Among.{first-all, first-among}
use Rattle.jh_local.proofs.Restricted.{no-model}
use Rattle.jh_local.proofs.asking.answer_from.Goals as goal

pub refuted-requires-clause-made : goal.refuted-requires-clause-made
refuted-requires-clause-made c =
    let h = c.requires.made in
    let p = h.0 in
    (p.entries, h.1.entries, first-all are_literals p.entries (all_puts (of_one p.at_hand) p.terms p.next) h.2)

pub returns-in-Ok-clause-right : goal.returns-in-Ok-clause-right
returns-in-Ok-clause-right c =
    let none = subst (λ asked. IfOk asked (λ derivation. (es : List Entry) → IsMade c.args.own c.args.progress.entries es → HasNoModel (instances_of es))) c.in-Ok.is c.in_ok-derivation.ensures.none in
    λ p many few hp. record {
      few = few;
      none = no-model (instances_of (ended p)) (instances_of p.entries) (first-among p.entries (all_puts (of_one p.at_hand) p.terms p.next)) (none p.entries hp.entries);
    }
