use Rattle.std.proofs.Common.{◌≡◌, take, drop, ap, sym, ◌∙◌, subst}
use Rattle.jh_lex.specs.lexer.Places.{after, IsShort}
use Rattle.jh_lex.proofs.lexer.Behind.{short_rest}
use Rattle.jh_lex.proofs.lexer.cursor.Cursor.skip.Goals as goal

pub invariant_of-result : goal.invariant_of-result
invariant_of-result c =
    let place = c.args.self.place in
    let text = c.args.self.rest.now in
    let behind : c.after.result ≡ after place (take c.args.n text) = c.after.ensures ∙ ap (after place) c.split_at.ensures.front in
    let short = subst (λ p. IsShort p (drop c.args.n text)) (sym behind) (short_rest place text c.args.n c.args.self.short) in
    record { short = subst (IsShort c.after.result) (sym c.split_at.ensures.back) short }
