-- What is no literal.
use Rattle.std.proofs.Common.{◌≡◌, refl, ℤ, None}
use Rattle.std.specs.declared.alloc.Global.{Global}
use Rattle.std.specs.declared.boxed.Box.{Box}
use Rattle.jh_name.specs.declared.place.Place.{Place}
use Rattle.jh_ast.specs.declared.spec.SpecTree.{SpecTree}
use Rattle.jh_ast.specs.declared.spec.SpecBody.{SpecBody}
use Rattle.jh_ast.specs.declared.spec.SpecBody.TheVariants as y
use Rattle.jh_ast.specs.Bare.{form_body_tree}
use Rattle.jh_vars.specs.Resolved.{literal, plain_literal}

pub no-plain : (p : Place) (b : SpecBody) → ((n : ℤ) → b ≡ y.Number n → ⊥) → plain_literal (form_body_tree p b) ≡ None
unfolding form_body_tree plain_literal
no-plain p (y.Number n) h = absurd (h n refl)
no-plain p y.Null h = refl
no-plain p y.True h = refl
no-plain p y.False h = refl
no-plain p y.Univ h = refl
no-plain p (y.Name w) h = refl
no-plain p (y.Member' i q a w) h = refl
no-plain p (y.Not' i q a) h = refl
no-plain p (y.Minus' i q a) h = refl
no-plain p (y.Old' i q a) h = refl
no-plain p (y.Card' i q a) h = refl
no-plain p (y.Binary' op i q a j r b) h = refl
no-plain p (y.Dvd' n i q a) h = refl
no-plain p (y.All' ws i q a) h = refl
no-plain p (y.Ex' ws i q a) h = refl
no-plain p (y.Tree ws) h = refl
no-plain p (y.Rtrancl' u v i q a j r b k t c) h = refl
no-plain p (y.Braces' shape fs) h = refl
no-plain p (y.Compr' w i q a) h = refl

pub no-literal : (p : Place) (b : SpecBody) → ((n : ℤ) → b ≡ y.Number n → ⊥) → ((a : Box SpecTree Global) → b ≡ y.Minus a → ⊥) → literal (form_body_tree p b) ≡ None
unfolding form_body_tree literal
no-literal p (y.Number n) h k = absurd (h n refl)
no-literal p (y.Minus' i q a) h k = absurd (k _ refl)
no-literal p y.Null h k = refl
no-literal p y.True h k = refl
no-literal p y.False h k = refl
no-literal p y.Univ h k = refl
no-literal p (y.Name w) h k = refl
no-literal p (y.Member' i q a w) h k = refl
no-literal p (y.Not' i q a) h k = refl
no-literal p (y.Old' i q a) h k = refl
no-literal p (y.Card' i q a) h k = refl
no-literal p (y.Binary' op i q a j r b) h k = refl
no-literal p (y.Dvd' n i q a) h k = refl
no-literal p (y.All' ws i q a) h k = refl
no-literal p (y.Ex' ws i q a) h k = refl
no-literal p (y.Tree ws) h k = refl
no-literal p (y.Rtrancl' u v i q a j r b l t c) h k = refl
no-literal p (y.Braces' shape fs) h k = refl
no-literal p (y.Compr' w i q a) h k = refl

pub ruleset literal_steps = (no-plain, no-literal)
