-- The test of equality of labels tells what they are.
use Rattle.std.proofs.Common.{◌≡◌, refl, sym, ap, ◌∙◌, ℤ, ℕ, Bool, true, ◌&&◌, ◌==◌, if◌then◌else◌, nat_eq, Some, None}
use Rattle.std.specs.Prelude.{Option}
use Rattle.std.specs.Ordering.{int_eq}
use Rattle.std.proofs.lemmas.Bool.{true≢false, eqb-true, eq-eqb}
use Rattle.std.proofs.lemmas.Bool.Decides.{Decides-int_eq}
use Rattle.std.specs.Cmp.Lexicographic.{pointwise, pointwise_decides}
use Rattle.jh_boxed.specs.jh_name.declared.naming.Name.{Name}
use Rattle.jh_form.specs.declared.mark.Mark.{Mark}
use Rattle.jh_form.specs.declared.mark.MarkKind as kind
use Rattle.jh_form.specs.declared.mark.MarkKind.TheVariants as k
use Rattle.jh_form.specs.Passing.{name_equal}
use Rattle.jh_form.proofs.Names.{name_equal-same, name_equal-true}
use Rattle.jh_form.proofs.ClosedLemmas.{both-left, both-right}
use Rattle.jh_boxed_operations.specs.comparison.Marks.{mark_equal, kind_number, optional_names_equal}

pub int_eq-true : (a b : ℤ) → int_eq a b ≡ true → a ≡ b
int_eq-true a b h = (Decides-int_eq a b).0 h

pub int_eq-same : (a : ℤ) → int_eq a a ≡ true
int_eq-same a = (Decides-int_eq a a).1 refl

kind_at : ℕ → kind.MarkKind
kind_at n =
    if n == 0 then k.Null else (if n == 1 then k.Pre else (if n == 2 then k.Post else (if n == 3 then k.Inv else (if n == 4 then k.LoopEntry
    else (if n == 5 then k.LoopKept else (if n == 6 then k.Frame else (if n == 7 then k.Assert else (if n == 8 then k.Note else k.Fact))))))))

kind_at-number : (a : kind.MarkKind) → kind_at (kind_number a) ≡ a
unfolding kind_at
kind_at-number k.Null = refl
kind_at-number k.Pre = refl
kind_at-number k.Post = refl
kind_at-number k.Inv = refl
kind_at-number k.LoopEntry = refl
kind_at-number k.LoopKept = refl
kind_at-number k.Frame = refl
kind_at-number k.Assert = refl
kind_at-number k.Note = refl
kind_at-number k.Fact = refl

kinds_are_one : (a b : kind.MarkKind) → nat_eq (kind_number a) (kind_number b) ≡ true → a ≡ b
kinds_are_one a b h = sym (kind_at-number a) ∙ ap kind_at (eqb-true (kind_number a) (kind_number b) h) ∙ kind_at-number b

name_decides : (x y : Name) → (name_equal x y ≡ true → x ≡ y) × (x ≡ y → name_equal x y ≡ true)
name_decides x y = (name_equal-true x y, name_equal-same x y)

optional_decides : (x y : Option Name) → (optional_names_equal x y ≡ true → x ≡ y) × (x ≡ y → optional_names_equal x y ≡ true)
optional_decides None None = (λ h. refl, λ e. refl)
optional_decides (Some x) (Some y) = (λ h. ap (λ z. Some z) (name_equal-true x y h), λ e. name_equal-same x y (cc))
optional_decides None (Some y) = (λ h. absurd (true≢false (sym h)), λ e. cc)
optional_decides (Some x) None = (λ h. absurd (true≢false (sym h)), λ e. cc)

pub mark_equal-true : (a b : Mark) → mark_equal a b ≡ true → a ≡ b
unfolding mark_equal
mark_equal-true a b h =
    let q1 : Bool = nat_eq (kind_number a.kind) (kind_number b.kind) in
    let q2 : Bool = nat_eq a.place.line b.place.line in
    let q3 : Bool = nat_eq a.place.column b.place.column in
    let q4 : Bool = optional_names_equal a.name b.name in
    let q5 : Bool = pointwise name_equal a.from b.from in
    let h4 : (q1 && q2 && q3 && q4) ≡ true = both-left (q1 && q2 && q3 && q4) q5 h in
    let h3 : (q1 && q2 && q3) ≡ true = both-left (q1 && q2 && q3) q4 h4 in
    let h2 : (q1 && q2) ≡ true = both-left (q1 && q2) q3 h3 in
    let kinds : a.kind ≡ b.kind = kinds_are_one a.kind b.kind (both-left q1 q2 h2) in
    let lines : a.place.line ≡ b.place.line = eqb-true a.place.line b.place.line (both-right q1 q2 h2) in
    let columns : a.place.column ≡ b.place.column = eqb-true a.place.column b.place.column (both-right (q1 && q2) q3 h3) in
    let names : a.name ≡ b.name = (optional_decides a.name b.name).0 (both-right (q1 && q2 && q3) q4 h4) in
    let lists : a.from ≡ b.from = (pointwise_decides name_decides a.from b.from).0 (both-right (q1 && q2 && q3 && q4) q5 h) in
    λ i. record { kind = kinds i; place = record { line = lines i; column = columns i }; name = names i; from = lists i }

mark_equal-itself : (a : Mark) → mark_equal a a ≡ true
unfolding mark_equal
mark_equal-itself a =
    λ i. eq-eqb (kind_number a.kind) (kind_number a.kind) refl i && eq-eqb a.place.line a.place.line refl i && eq-eqb a.place.column a.place.column refl i
    && (optional_decides a.name a.name).1 refl i && (pointwise_decides name_decides a.from a.from).1 refl i

pub mark_equal-same : (a b : Mark) → a ≡ b → mark_equal a b ≡ true
mark_equal-same a b e = ap (λ z. mark_equal a z) (sym e) ∙ mark_equal-itself a

pub ruleset mark_steps = (mark_equal-same, mark_equal-true)
