use Rattle.std.proofs.Common.{◌≡◌, List, [], ◌∷◌, sym}
use Rattle.std.specs.Prelude.{Option, None, Some, IfSome, IfNone}
use Rattle.jh_name.specs.declared.place.Place.{Place}
use Rattle.jh_lex.specs.declared.lexer.mode.Mode.TheVariants as mode
use Rattle.jh_lex.specs.declared.lexer.token.Token.{Token}
use Rattle.jh_spec.specs.nesting.Nesting.{IsFirstDeep, AllShallow, first_deep, nestings}
use Rattle.jh_spec.proofs.nesting.Firsts.{Deep, deep-first, none-deep}
use Rattle.jh_spec.proofs.nesting.nesting.too_deep.Goals as goal

is_first : (ts : List Token) (o : Option Place) → o ≡ first_deep (nestings mode.Code (0 ∷ []) ts) ts → IfSome o (λ p. IsFirstDeep ts p)
is_first ts None e = tt
is_first ts (Some p) e = let d : Deep (nestings mode.Code (0 ∷ []) ts) ts p = deep-first _ ts p (sym e) in record { index = d.index; within = d.within; deep = d.deep; first = d.first; place = d.place }

is_none : (ts : List Token) (o : Option Place) → o ≡ first_deep (nestings mode.Code (0 ∷ []) ts) ts → IfNone o (AllShallow ts)
is_none ts None e = none-deep mode.Code (0 ∷ []) ts (sym e)
is_none ts (Some p) e = tt

pub returns-clause-found : goal.returns-clause-found
returns-clause-found c = is_first c.args.tokens.now c.in_ok-found.found c.in_ok-found.ensures

pub returns-clause-none : goal.returns-clause-none
returns-clause-none c = is_none c.args.tokens.now c.in_ok-found.found c.in_ok-found.ensures
