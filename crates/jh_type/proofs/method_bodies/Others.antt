-- What is none of the formulas that are asked for.
use Rattle.std.proofs.Common.{◌≡◌, refl, false}
use Rattle.std.specs.declared.alloc.Global.{Global}
use Rattle.std.specs.declared.boxed.Box.{Box}
use Rattle.jh_name.specs.declared.place.Place.{Place}
use Rattle.jh_ast.specs.declared.word.Word.{Word}
use Rattle.jh_ast.specs.declared.spec.SpecTree.{SpecTree}
use Rattle.jh_ast.specs.declared.spec.SpecBody.{SpecBody}
use Rattle.jh_ast.specs.declared.spec.SpecBody.TheVariants as y
use Rattle.jh_ast.specs.Bare.{form_body_tree}
use Rattle.jh_rules.specs.Names.{Declared}
use Rattle.jh_rules.specs.Scopes.{Scope}
use Rattle.jh_rules.specs.Statements.{is_ghost_target}

pub not-ghost : (l : Declared) (at : Scope) (p : Place) (b : SpecBody) → ((w : Word) → b ≡ y.Name w → ⊥) → ((a : Box SpecTree Global) (w : Word) → b ≡ y.Member a w → ⊥) → false ≡ is_ghost_target l at (form_body_tree p b)
unfolding form_body_tree
not-ghost l at p (y.Name w) h k = absurd (h w refl)
not-ghost l at p (y.Member' i q a w) h k = absurd (k _ w refl)
not-ghost l at p _ h k = refl
