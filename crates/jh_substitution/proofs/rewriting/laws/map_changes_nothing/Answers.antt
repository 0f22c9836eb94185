use Rattle.std.proofs.Common.{◌≡◌, ap, ◌∙◌}
use Rattle.jh_boxed.specs.Mapped.{unchanged, mapped_value}
use Rattle.jh_boxed.proofs.Identity.{mapped_value-unchanged}
use Rattle.jh_substitution.proofs.rewriting.laws.map_changes_nothing.Goals as goal

pub returns : goal.returns
returns c l h v d =
    let same : l ≡ unchanged = λ i. record {
      object_at = λ x e. h.object x e i;
      number_at = λ x e. h.number x e i;
      truth_at = λ x e. h.truth x e i;
      set_at = λ x e. h.set x e i;
      field_at = λ x e. h.field x e i;
      bound_at = λ k e. h.bound k e i;
    } in
    ap (λ m. mapped_value v m d) same ∙ mapped_value-unchanged v d
