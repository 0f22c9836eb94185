use Rattle.std.proofs.Common.{sym, subst, ◌+◌, [], ◌∷◌, ◌++◌, take, ℕ, List, codes}
use Rattle.std.proofs.lemmas.List.{take_all}
use Rattle.jh_semantics.specs.Code.{Text}
use Rattle.jh_machine_code.specs.numbering.Numbered.{IsText}
use Rattle.jh_machine_code.proofs.numbering.Standing.{grows_twice}
use Rattle.jh_heap_layout.proofs.loading.Lists.{taken-more, there}
use Rattle.jh_heap_layout.specs.layout.Lasting.{HasClasses}
use Rattle.jh_heap_layout.proofs.layout.Numbering.{classes_more}
use Rattle.jh_heap_layout.proofs.layout.places.class_numbers.Goals as goal

pub loop-class-preserved : goal.loop-class-preserved
loop-class-preserved c =
    let classes = c.args.classes.now in
    let i = c.loop-class.class-index in
    let x = c.class-item.result in
    let names = c.text_number.new.names in
    let made = c.loop-class.made.items ++ c.in_ok-number.number ∷ [] in
    let more = taken-more classes i x (there classes i x c.loop-class-test.true c.class-item.is) in
    let is : IsText names x c.in_ok-number.number = subst (λ (t : Text). IsText names t c.in_ok-number.number) c.text.ensures c.in_ok-number.ensures.is in
    record {
      names = grows_twice c.loop-class.invariant.names c.text_number.ensures.grows;
      numbers = subst (λ (ks : List ℕ). HasClasses names ks (take (i + 1) classes)) (sym c.in_ok-push.ensures.items) (subst (λ (cs : List Text). HasClasses names made cs) (sym more) (classes_more c.loop-class.invariant.numbers c.text_number.ensures.grows is));
    }

pub returns-clause-numbers : goal.returns-clause-numbers
returns-clause-numbers c =
    let classes = c.args.classes.now in
    let names = c.text_number-2.new.names in
    let made = c.loop-class.made.items ++ c.in_ok-number-2.number ∷ [] in
    let whole = take_all c.loop-class.class-index classes c.loop-class-test.false in
    subst (λ (ks : List ℕ). HasClasses names ks (classes ++ codes "Object" ∷ [])) (sym c.in_ok-push-2.ensures.items)
    (classes_more (subst (λ (cs : List Text). HasClasses c.loop-class.names c.loop-class.made.items cs) whole c.loop-class.invariant.numbers) c.text_number-2.ensures.grows c.in_ok-number-2.ensures.is)
