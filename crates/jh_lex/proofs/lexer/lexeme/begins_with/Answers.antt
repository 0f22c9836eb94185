use Rattle.std.proofs.Common.{◌≡◌, ℕ, ◌<◌, Bool, false, true, List, [], ◌∷◌, length, sym, refl, ap, ◌∙◌, arith, eqb, ◌&&◌}
use Rattle.jh_lex.specs.lexer.Symbols.{begins_with}
use Rattle.jh_lex.proofs.lexer.lexeme.begins_with.Goals as goal

and_false : (b : Bool) → (b && false) ≡ false
and_false true = refl
and_false false = refl

-- a longer text is no front
longer : (ts cs : List ℕ) → length cs < length ts → begins_with ts cs ≡ false
longer [] cs h = absurd (omega arith)
longer (t ∷ ts) [] h = refl
longer (t ∷ ts) (c ∷ cs) h = ap (λ b. eqb t c && b) (longer ts cs (omega arith)) ∙ and_false (eqb t c)

pub returns-then-text-front : goal.returns-then-text-front
returns-then-text-front c = sym (longer c.args.front.now c.args.text.now (omega (arith, ap length c.as_bytes-front.ensures.value)))
