use Rattle.std.proofs.Common.{◌∙◌, ap, sym, not, false, codes, ◌∷◌, []}
use Rattle.std.proofs.Common.{option_map}
use Rattle.std.specs.Option.{option_map_or}
use Rattle.jh_rules.specs.Names as names
use Rattle.jh_rules.specs.Words.{is_one_of, same_text}
use Rattle.jh_rules.specs.declared.entries.StateEntry.{StateEntry}
use Rattle.jh_vars.specs.Opened.{is_of_object}
use Rattle.jh_vars.specs.States.{called}
use Rattle.jh_definitions.specs.jh_resolution.Spots.{texts_of}
use Rattle.jh_unfolding.specs.unfolder.Adding.{program_of}
use Rattle.jh_unfolding.proofs.unfolder.Using.{called-is, name-is}
use Rattle.jh_unfolding.proofs.unfolder.this.name_uses.Goals as goal

pub returns : goal.returns
returns c =
    let p = program_of c.args.at.now.context.now in
    let text = c.text-text.ensures in
    let n = c.args.at.now.class in
    name-is _ _ _ _ _
    (ap (λ y. is_one_of y (texts_of c.args.at.now.bound.now)) (sym text) ∙ sym c.is_bound.ensures ∙ c.if-is_bound.false)
    (ap (λ y. same_text y (codes "this")) (sym text) ∙ sym c.is_this.ensures ∙ c.if-is_this.false)
    (ap (λ y. is_one_of y (codes "result" ∷ codes "alloc" ∷ codes "Object" ∷ codes "Object.alloc" ∷ [])) (sym text) ∙ sym c.is_special.ensures ∙ c.if-is_special.false)
    (c.is_of_object.ensures ∙ ap (λ o. option_map_or (λ (s : StateEntry). not s.fixed) o false) c.state_spelled.ensures ∙ called-is p c.text-text.result.now _
    ∙ (λ i. is_of_object p (option_map (called (text i)) (names.state_spelled (c.requires i) n (text i)))))
