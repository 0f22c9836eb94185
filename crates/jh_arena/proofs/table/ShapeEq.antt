-- Written by tools/table.py.
-- The test of equality of shapes: it says true of a shape and itself, and of no two.
use Rattle.std.proofs.Common.{◌≡◌, refl, sym, ap, ◌∙◌, true, ◌&&◌}
use Rattle.std.specs.Prelude.{if◌then◌else◌, ◌==◌}
use Rattle.std.proofs.lemmas.Bool.Decides.{Decides-eqb, Decides-int_eq}
use Rattle.jh_arena.specs.declared.table.shapes.Shape.{Shape}
use Rattle.jh_arena.specs.declared.table.shapes.Shape.TheVariants as s
use Rattle.jh_arena.specs.declared.table.codes.Code.{Code}
use Rattle.jh_arena.specs.table.Codes.{code_of, same_code, same_is}
use Rattle.jh_arena.specs.contracts.table.shapes.ShapePartialEq.TheImpl.{ghosts}

-- the shape of a code
unfoldable shape_in : Code → Shape
shape_in c = if c.kind == 0 then (s.Bound c.first) else (if c.kind == 1 then (s.FreeObject c.first) else (if c.kind == 2 then s.Null else (if c.kind == 3 then (s.ReadObject c.first c.second) else (if c.kind == 4 then (s.Const c.constant) else (if c.kind == 5 then (s.FreeNumber c.first) else (if c.kind == 6 then (s.ReadNumber c.first c.second) else (if c.kind == 7 then (s.Add c.first c.second) else (if c.kind == 8 then (s.Sub c.first c.second) else (if c.kind == 9 then (s.Neg c.first) else (if c.kind == 10 then (s.Scale c.constant c.first) else (if c.kind == 11 then (s.Card c.first) else (if c.kind == 12 then (s.FreeSet c.first) else (if c.kind == 13 then (s.ReadSet c.first c.second) else (if c.kind == 14 then s.Empty else (if c.kind == 15 then s.Univ else (if c.kind == 16 then (s.Single c.first) else (if c.kind == 17 then (s.Union c.first c.second) else (if c.kind == 18 then (s.Inter c.first c.second) else (if c.kind == 19 then (s.Diff c.first c.second) else (if c.kind == 20 then (s.Compl c.first) else (if c.kind == 21 then (s.Compr c.first) else (if c.kind == 22 then (s.FreeField c.first) else (if c.kind == 23 then (s.Update c.first c.second c.third) else (if c.kind == 24 then s.True else (if c.kind == 25 then s.False else (if c.kind == 26 then (s.FreeTruth c.first) else (if c.kind == 27 then (s.ReadTruth c.first c.second) else (if c.kind == 28 then (s.Negation c.first) else (if c.kind == 29 then (s.And c.first c.second) else (if c.kind == 30 then (s.Or c.first c.second) else (if c.kind == 31 then (s.Implies c.first c.second) else (if c.kind == 32 then (s.Iff c.first c.second) else (if c.kind == 33 then (s.All c.first) else (if c.kind == 34 then (s.Ex c.first) else (if c.kind == 35 then (s.EqObject c.first c.second) else (if c.kind == 36 then (s.EqNumber c.first c.second) else (if c.kind == 37 then (s.EqSet c.first c.second) else (if c.kind == 38 then (s.Less c.first c.second) else (if c.kind == 39 then (s.LessEqual c.first c.second) else (if c.kind == 40 then (s.Divides c.constant c.first) else (if c.kind == 41 then (s.Member c.first c.second) else (if c.kind == 42 then (s.Subset c.first c.second) else (if c.kind == 43 then (s.Reach c.first c.second c.third) else (if c.kind == 44 then (s.Tree c.first) else (s.Mark c.first c.second)))))))))))))))))))))))))))))))))))))))))))))

back : (x : Shape) → shape_in (code_of x) ≡ x
unfolding code_of shape_in
back (s.Bound k) = refl
back (s.FreeObject n) = refl
back s.Null = refl
back (s.ReadObject a b) = refl
back (s.Const z) = refl
back (s.FreeNumber n) = refl
back (s.ReadNumber a b) = refl
back (s.Add a b) = refl
back (s.Sub a b) = refl
back (s.Neg a) = refl
back (s.Scale z a) = refl
back (s.Card a) = refl
back (s.FreeSet n) = refl
back (s.ReadSet a b) = refl
back s.Empty = refl
back s.Univ = refl
back (s.Single a) = refl
back (s.Union a b) = refl
back (s.Inter a b) = refl
back (s.Diff a b) = refl
back (s.Compl a) = refl
back (s.Compr a) = refl
back (s.FreeField n) = refl
back (s.Update a b c) = refl
back s.True = refl
back s.False = refl
back (s.FreeTruth n) = refl
back (s.ReadTruth a b) = refl
back (s.Negation a) = refl
back (s.And a b) = refl
back (s.Or a b) = refl
back (s.Implies a b) = refl
back (s.Iff a b) = refl
back (s.All a) = refl
back (s.Ex a) = refl
back (s.EqObject a b) = refl
back (s.EqNumber a b) = refl
back (s.EqSet a b) = refl
back (s.Less a b) = refl
back (s.LessEqual a b) = refl
back (s.Divides z a) = refl
back (s.Member a b) = refl
back (s.Subset a b) = refl
back (s.Reach l a b) = refl
back (s.Tree l) = refl
back (s.Mark m a) = refl

pub shape_eq-true : (x y : Shape) → ghosts.eq x y ≡ true → x ≡ y
shape_eq-true x y h = sym (back x) ∙ (ap shape_in (same_is (code_of x) (code_of y) h) ∙ back y)

same-itself : (c : Code) → same_code c c ≡ true
same-itself c =
    let k = (Decides-eqb c.kind c.kind).1 refl in
    let z = (Decides-int_eq c.constant c.constant).1 refl in
    let x = (Decides-eqb c.first c.first).1 refl in
    let y = (Decides-eqb c.second c.second).1 refl in
    let w = (Decides-eqb c.third c.third).1 refl in
    λ i. k i && (z i && (x i && (y i && w i)))

pub shape_eq-same : (x : Shape) → ghosts.eq x x ≡ true
shape_eq-same x = same-itself (code_of x)
