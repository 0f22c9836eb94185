use Rattle.std.proofs.Common.{◌≡◌, ◌+◌, refl, sym, ap, subst, ◌∙◌, List, ◌++◌, Some, OnOk, IfOk}
use Rattle.jh_form.specs.Tree.{TermTree, of_truth}
use Rattle.jh_inst.specs.instances.Entries.{Entry}
use Rattle.jh_inst.specs.instances.Rounds.{puts, made_constants}
use Rattle.jh_instantiation.specs.instances.Choosing.{choices_from}
use Rattle.jh_instantiation.specs.instances.Standing.{IsMade}
use Rattle.jh_instantiation.proofs.instances.Fronts.{none-left, one-left, puts-none, constants-none, leads-whole}
use Rattle.jh_instantiation.proofs.instances.putting.put_chosen.Goals as goal

pub returns-then-not-is_new-clause-made : goal.returns-then-not-is_new-clause-made
returns-then-not-is_new-clause-made c = λ es ts h a w hm hh hw hf hl.
    subst (λ (xs : List Entry). IsMade c.args.table.now c.args.entries.now xs) (puts-none h es (choices_from w c.args.is_new 0 ts h.old) c.args.next (none-left w c.args.is_new 0 ts h.old refl c.if-not-is_new.true)) hm

pub returns-then-not-is_new-clause-next : goal.returns-then-not-is_new-clause-next
returns-then-not-is_new-clause-next c = λ ts h a w hf hl. constants-none h (choices_from w c.args.is_new 0 ts h.old) c.args.next (none-left w c.args.is_new 0 ts h.old refl c.if-not-is_new.true)

pub returns-clause-made : goal.returns-clause-made
returns-clause-made c = λ es ts h a w hm hh hw hf hl.
    let whole = hf ∙ ap (λ z. Some (of_truth z)) (leads-whole h.formula a w hl) in
    subst (λ (cs : List (List TermTree)). OnOk c.add_put.result (IsMade c.add_put.new.table c.add_put.new.entries (es ++ puts h cs c.args.next))) (sym (one-left w c.args.is_new 0 ts h.old refl c.if-not-is_new.false))
    (c.add_put.ensures.made es ts h w hm hh hw whole)

pub returns-clause-next : goal.returns-clause-next
returns-clause-next c = λ ts h a w hf hl.
    let whole = hf ∙ ap (λ z. Some (of_truth z)) (leads-whole h.formula a w hl) in
    subst (λ (cs : List (List TermTree)). IfOk c.add_put.result (λ free. free ≡ c.args.next + made_constants (puts h cs c.args.next))) (sym (one-left w c.args.is_new 0 ts h.old refl c.if-not-is_new.false))
    (c.add_put.ensures.next h w whole)
