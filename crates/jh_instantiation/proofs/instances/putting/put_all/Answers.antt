use Rattle.std.proofs.Common.{◌≡◌, ◌∙◌, refl, sym, ap, subst, ◌+◌, ℕ, false, List, [], ◌++◌}
use Rattle.std.proofs.lemmas.Result.{on_ok_weaker, IfOk-weaker}
use Rattle.jh_form.specs.Tree.{TermTree}
use Rattle.jh_instantiation.specs.closed_terms.Listed.{AreTerms}
use Rattle.jh_inst.specs.instances.Prenex.{in_front}
use Rattle.jh_inst.specs.instances.Rounds.{made_constants, puts, new_puts}
use Rattle.jh_instantiation.specs.instances.Choosing.{choices_from}
use Rattle.jh_instantiation.specs.instances.Standing.{IsMade}
use Rattle.jh_instantiation.proofs.instances.Choices.{all-choices}
use Rattle.jh_instantiation.proofs.instances.putting.put_all.Goals as goal

pub returns-clause-made : goal.returns-clause-made
returns-clause-made c = λ es ts h hm ht hh.
    let none = subst (λ (ns : List ℕ). AreTerms c.args.table.now ns []) (sym c.new-chosen.ensures.items) tt in
    let same = (λ i. choices_from [] false (hh.variables i) ts h.old) ∙ all-choices (in_front h.formula) ts h.old in
    on_ok_weaker c.put_rest.result
    (subst (λ (cs : List (List TermTree)). IsMade c.put_rest.new.table c.put_rest.new.entries (es ++ puts h cs c.args.next)) same)
    (c.put_rest.ensures.made es ts h h.formula [] hm ht hh none hh.formula (λ ws. refl))

pub returns-clause-next : goal.returns-clause-next
returns-clause-next c = λ ts h ht hh.
    let none = subst (λ (ns : List ℕ). AreTerms c.args.table.now ns []) (sym c.new-chosen.ensures.items) tt in
    let same = (λ i. choices_from [] false (hh.variables i) ts h.old) ∙ all-choices (in_front h.formula) ts h.old in
    IfOk-weaker c.put_rest.result
    (λ free. free ≡ c.args.next + made_constants (puts h (choices_from [] false c.args.universal.variables ts h.old) c.args.next))
    (λ free. free ≡ c.args.next + made_constants (new_puts h ts c.args.next))
    (λ free e. e ∙ ap (λ cs. c.args.next + made_constants (puts h cs c.args.next)) same)
    (c.put_rest.ensures.next ts h h.formula [] ht hh none hh.formula (λ ws. refl))
