use Rattle.std.proofs.Common.{◌≡◌, take, get_or, sym, ◌∙◌, subst, arith}
use Rattle.std.proofs.lemmas.Grind.{common_steps}
use Rattle.jh_lex.specs.lexer.Places.{after, after_character}
use Rattle.jh_lex.proofs.lexer.Behind.{after_more, step_fits_at, StepFits}
use Rattle.jh_lex.proofs.lexer.cursor.after.Goals as goal

pub after_character-at-requires : goal.after_character-at-requires
after_character-at-requires c =
    let item : c.c-item.result ≡ get_or c.args.text.now c.loop-c.c-index 0 = grind (arith, common_steps) in
    let at_item = subst (StepFits (after c.args.place (take c.loop-c.c-index c.args.text.now))) (sym item) (step_fits_at c.args.place c.args.text.now c.loop-c.c-index c.requires (omega arith)) in
    let fits = subst (λ p. StepFits p c.c-item.result) (sym c.loop-c.invariant) at_item in
    record { line = fits.line; column = fits.column }

pub loop-c-preserved : goal.loop-c-preserved
loop-c-preserved c =
    let item : c.c-item.result ≡ get_or c.args.text.now c.loop-c.c-index 0 = grind (arith, common_steps) in
    c.after_character-at.ensures ∙ (λ i. after_character (c.loop-c.invariant i) (item i)) ∙ sym (after_more c.args.place c.args.text.now c.loop-c.c-index (omega arith))
