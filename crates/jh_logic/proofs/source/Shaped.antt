-- The shape of the parts of a source.
use Rattle.std.proofs.Common.{◌≡◌, ap, subst, true, List, [], ◌∷◌, ⊎_elim, Option, Some}
use Rattle.std.specs.List.{Contains}
use Rattle.std.proofs.lemmas.List.Elements.{Contains-append_left, Contains-append_right}
use Rattle.jh_ast.specs.declared.word.Word.{Word}
use Rattle.jh_ast.specs.declared.word.JType.{JType}
use Rattle.jh_ast.specs.Exprs.{ExprTree}
use Rattle.jh_ast.specs.Programs.{ProgramTree}
use Rattle.jh_rules.specs.Words.{text_of}
use Rattle.jh_rules.specs.Shape.{Parts, ◌and◌, all_parts, some_parts, program_parts, may_be_declared, is_not_void, may_be_assigned, ShapeOfSource}
use Rattle.jh_logic.proofs.source.Lists.{has-none, has-cases, all-pass}

-- What is declared may be, no type but a result is void, and what is assigned to may be.
pub record Shaped (x : Parts) : Type 0 where
  pub declared : (w : Word) → Contains x.declared w → may_be_declared (text_of w) ≡ true
  pub types : (t : JType) → Contains x.types t → is_not_void t ≡ true
  pub targets : (a : ExprTree) → Contains x.targets a → may_be_assigned a ≡ true

module _ (x y : Parts) (h : Shaped (x and y)) where
  pub shaped-left : Shaped x
  shaped-left = record {
    declared = λ w i. h.declared w (Contains-append_left x.declared y.declared w i);
    types = λ t i. h.types t (Contains-append_left x.types y.types t i);
    targets = λ a i. h.targets a (Contains-append_left x.targets y.targets a i);
  }

  pub shaped-right : Shaped y
  shaped-right = record {
    declared = λ w i. h.declared w (Contains-append_right x.declared y.declared w i);
    types = λ t i. h.types t (Contains-append_right x.types y.types t i);
    targets = λ a i. h.targets a (Contains-append_right x.targets y.targets a i);
  }

pub shaped-each : {A : Type 0} (g : A → Parts) (xs : List A) → Shaped (all_parts g xs) → (x : A) → Contains xs x → Shaped (g x)
unfolding all_parts
shaped-each g [] h x i = absurd (has-none x i)
shaped-each g (z ∷ zs) h x i = ⊎_elim (λ e. subst (λ w. Shaped (g w)) e (shaped-left (g z) (all_parts g zs) h)) (λ j. shaped-each g zs (shaped-right (g z) (all_parts g zs) h) x j) (has-cases z zs x i)

pub shaped-some : {A : Type 0} (g : A → Parts) (o : Option A) (x : A) → o ≡ Some x → Shaped (some_parts g o) → Shaped (g x)
shaped-some g o x e h = subst (λ (z : Parts). Shaped z) (ap (λ o. some_parts g o) e) h

pub shaped-program : (p : ProgramTree) → ShapeOfSource p → Shaped (program_parts p)
shaped-program p shape = record {
  declared = all-pass (λ w. may_be_declared (text_of w)) (program_parts p).declared shape.declared;
  types = all-pass is_not_void (program_parts p).types shape.types;
  targets = all-pass may_be_assigned (program_parts p).targets shape.targets;
}
