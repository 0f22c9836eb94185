-- What is none of the formulas that are asked for.
use Rattle.std.proofs.Common.{◌≡◌, refl, ℕ, ℤ, List, false, None}
use Rattle.std.specs.declared.alloc.Global.{Global}
use Rattle.std.specs.declared.boxed.Box.{Box}
use Rattle.jh_name.specs.declared.place.Place.{Place}
use Rattle.jh_ast.specs.declared.word.Word.{Word}
use Rattle.jh_ast.specs.declared.spec.SpecTree.{SpecTree}
use Rattle.jh_ast.specs.declared.spec.SpecBody.{SpecBody}
use Rattle.jh_ast.specs.declared.spec.SpecBody.TheVariants as y
use Rattle.jh_ast.specs.Bare.{form_body_tree}
use Rattle.jh_rules.specs.Rules.{is_number_literal}
use Rattle.jh_type.specs.formula_kinds.Parts.{is_plain_number, is_name, read_word}

pub not-number : (p : Place) (b : SpecBody) → ((z : ℤ) → b ≡ y.Number z → ⊥) → false ≡ is_plain_number (form_body_tree p b)
unfolding form_body_tree
not-number p (y.Number z) h = absurd (h z refl)
not-number p _ h = refl

pub not-literal : (p : Place) (b : SpecBody) → ((z : ℤ) → b ≡ y.Number z → ⊥) → ((a : Box SpecTree Global) → b ≡ y.Minus a → ⊥) → false ≡ is_number_literal (form_body_tree p b)
unfolding form_body_tree
not-literal p (y.Number z) h k = absurd (h z refl)
not-literal p (y.Minus' i q a) h k = absurd (k _ refl)
not-literal p _ h k = refl

pub not-name : (x : List ℕ) (p : Place) (b : SpecBody) → ((w : Word) → b ≡ y.Name w → ⊥) → false ≡ is_name x (form_body_tree p b)
unfolding form_body_tree
not-name x p (y.Name w) h = absurd (h w refl)
not-name x p _ h = refl

pub not-read : (x : List ℕ) (p : Place) (b : SpecBody) → ((a : Box SpecTree Global) (w : Word) → b ≡ y.Member a w → ⊥) → None ≡ read_word x (form_body_tree p b)
unfolding form_body_tree
not-read x p (y.Member' i q a w) h = absurd (h _ w refl)
not-read x p _ h = refl
