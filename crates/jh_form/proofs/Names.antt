-- The test of equality of names tells what they are.
use Rattle.std.proofs.Common.{◌≡◌, ap, ◌∙◌, true, ◌&&◌, nat_eq}
use Rattle.std.proofs.lemmas.Bool.{eqb-true, eq-eqb}
use Rattle.std.specs.Cmp.Lexicographic.{pointwise, bytes_decides}
use Rattle.jh_name.specs.declared.naming.Name.{Name}
use Rattle.jh_form.specs.Passing.{name_equal}
use Rattle.jh_form.proofs.ClosedLemmas.{both-left, both-right}

pub name_equal-same : (x y : Name) → x ≡ y → name_equal x y ≡ true
unfolding name_equal
name_equal-same x y e =
    ap (λ b. b && pointwise nat_eq x.text y.text) (eq-eqb x.turn y.turn (ap (λ z. z.turn) e)) ∙ (bytes_decides x.text y.text).1 (ap (λ z. z.text) e)

pub name_equal-true : (x y : Name) → name_equal x y ≡ true → x ≡ y
unfolding name_equal
name_equal-true x y h =
    let turns : x.turn ≡ y.turn = eqb-true x.turn y.turn (both-left (nat_eq x.turn y.turn) (pointwise nat_eq x.text y.text) h) in
    let texts : x.text ≡ y.text = (bytes_decides x.text y.text).0 (both-right (nat_eq x.turn y.turn) (pointwise nat_eq x.text y.text) h) in
    λ i. record { text = texts i; turn = turns i }
