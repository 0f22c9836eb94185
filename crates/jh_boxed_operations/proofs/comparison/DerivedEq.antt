-- What the derived tests of equality of names and lists of them say.
use Rattle.std.proofs.Common.{◌≡◌, refl, sym, ap, true, List, Some, None, rules}
use Rattle.std.specs.Prelude.{Option}
use Rattle.std.specs.Option.{option_eq}
use Rattle.std.specs.Bool.{Decides}
use Rattle.std.proofs.lemmas.Bool.{true≢false}
use Rattle.std.specs.Cmp.Lexicographic.{pointwise, pointwise_decides}
use Rattle.jh_boxed.specs.jh_name.declared.naming.Name.{Name}
use Rattle.jh_boxed.specs.jh_name.contracts.naming.NamePartialEq.TheImpl.{ghosts}

pub name_eq-true : (x y : Name) → ghosts.eq x y ≡ true → x ≡ y
name_eq-true x y h = search rules

pub name_eq-same : (x y : Name) → x ≡ y → ghosts.eq x y ≡ true
name_eq-same x y e = search rules

pub name_eq-decides : (x y : Name) → Decides (ghosts.eq x y) (x ≡ y)
name_eq-decides x y = (name_eq-true x y, name_eq-same x y)

pub names_eq-decides : (xs ys : List Name) → Decides (pointwise ghosts.eq xs ys) (xs ≡ ys)
names_eq-decides xs ys = pointwise_decides name_eq-decides xs ys

pub optional_eq-decides : (x y : Option Name) → Decides (option_eq ghosts.eq x y) (x ≡ y)
optional_eq-decides None None = (λ h. refl, λ e. refl)
optional_eq-decides (Some x) (Some y) = (λ h. ap (λ z. Some z) (name_eq-true x y h), λ e. name_eq-same x y (cc))
optional_eq-decides None (Some y) = (λ h. absurd (true≢false (sym h)), λ e. cc)
optional_eq-decides (Some x) None = (λ h. absurd (true≢false (sym h)), λ e. cc)
