-- Written by tools/table.py.
-- A shape as numbers alone, and the shape of such numbers.
use Rattle.std.specs.Prelude.{◌≡◌, ℕ, ℤ, pos, Bool, true, ◌&&◌, nat_eq, ◌++◌}
use Rattle.std.specs.Ordering.{on, int_eq, eq_of_both}
use Rattle.std.specs.Cmp.{IsEquivalence}
use Rattle.std.specs.Cmp.Rules.{comparing}
use Rattle.std.specs.Hash as fed
use Rattle.std.proofs.Common.{ap, rules}
use Rattle.std.proofs.lemmas.Bool.Decides.{Decides-eqb, Decides-int_eq}
use Rattle.jh_form.proofs.ClosedLemmas.{both-left, both-right}
use Rattle.jh_arena.specs.declared.table.codes.Code.{Code}
use Rattle.jh_arena.specs.declared.table.shapes.Shape.{Shape}
use Rattle.jh_arena.specs.declared.table.shapes.Shape.TheVariants as s

abbrev pub code : ℕ → ℤ → ℕ → ℕ → ℕ → Code
code kind constant first second third = record { kind = kind; constant = constant; first = first; second = second; third = third }

unfoldable pub code_of : Shape → Code
code_of (s.Bound k) = code 0 (pos 0) k 0 0
code_of (s.FreeObject n) = code 1 (pos 0) n 0 0
code_of s.Null = code 2 (pos 0) 0 0 0
code_of (s.ReadObject a b) = code 3 (pos 0) a b 0
code_of (s.Const z) = code 4 z 0 0 0
code_of (s.FreeNumber n) = code 5 (pos 0) n 0 0
code_of (s.ReadNumber a b) = code 6 (pos 0) a b 0
code_of (s.Add a b) = code 7 (pos 0) a b 0
code_of (s.Sub a b) = code 8 (pos 0) a b 0
code_of (s.Neg a) = code 9 (pos 0) a 0 0
code_of (s.Scale z a) = code 10 z a 0 0
code_of (s.Card a) = code 11 (pos 0) a 0 0
code_of (s.FreeSet n) = code 12 (pos 0) n 0 0
code_of (s.ReadSet a b) = code 13 (pos 0) a b 0
code_of s.Empty = code 14 (pos 0) 0 0 0
code_of s.Univ = code 15 (pos 0) 0 0 0
code_of (s.Single a) = code 16 (pos 0) a 0 0
code_of (s.Union a b) = code 17 (pos 0) a b 0
code_of (s.Inter a b) = code 18 (pos 0) a b 0
code_of (s.Diff a b) = code 19 (pos 0) a b 0
code_of (s.Compl a) = code 20 (pos 0) a 0 0
code_of (s.Compr a) = code 21 (pos 0) a 0 0
code_of (s.FreeField n) = code 22 (pos 0) n 0 0
code_of (s.Update a b c) = code 23 (pos 0) a b c
code_of s.True = code 24 (pos 0) 0 0 0
code_of s.False = code 25 (pos 0) 0 0 0
code_of (s.FreeTruth n) = code 26 (pos 0) n 0 0
code_of (s.ReadTruth a b) = code 27 (pos 0) a b 0
code_of (s.Negation a) = code 28 (pos 0) a 0 0
code_of (s.And a b) = code 29 (pos 0) a b 0
code_of (s.Or a b) = code 30 (pos 0) a b 0
code_of (s.Implies a b) = code 31 (pos 0) a b 0
code_of (s.Iff a b) = code 32 (pos 0) a b 0
code_of (s.All a) = code 33 (pos 0) a 0 0
code_of (s.Ex a) = code 34 (pos 0) a 0 0
code_of (s.EqObject a b) = code 35 (pos 0) a b 0
code_of (s.EqNumber a b) = code 36 (pos 0) a b 0
code_of (s.EqSet a b) = code 37 (pos 0) a b 0
code_of (s.Less a b) = code 38 (pos 0) a b 0
code_of (s.LessEqual a b) = code 39 (pos 0) a b 0
code_of (s.Divides z a) = code 40 z a 0 0
code_of (s.Member a b) = code 41 (pos 0) a b 0
code_of (s.Subset a b) = code 42 (pos 0) a b 0
code_of (s.Reach l a b) = code 43 (pos 0) l a b
code_of (s.Tree l) = code 44 (pos 0) l 0 0
code_of (s.Mark m a) = code 45 (pos 0) m a 0

-- what two shapes are told apart by
abbrev pub same_numbers : Code → Code → Bool
same_numbers = eq_of_both (on (λ c. c.first) nat_eq) (eq_of_both (on (λ c. c.second) nat_eq) (on (λ c. c.third) nat_eq))

abbrev pub same_code : Code → Code → Bool
same_code = eq_of_both (on (λ c. c.kind) nat_eq) (eq_of_both (on (λ c. c.constant) int_eq) same_numbers)

-- both tests are equivalences
numbers_laws : IsEquivalence same_numbers
numbers_laws = search (comparing, rules)

pub code_laws : IsEquivalence same_code
code_laws = search (comparing, numbers_laws, rules)

-- what a shape gives to a hash
abbrev pub code_input : Code → fed.HashWrites
code_input c = fed.u8 c.kind ++ fed.i64 c.constant ++ fed.usize c.first ++ fed.usize c.second ++ fed.usize c.third

pub same_is : (c d : Code) → same_code c d ≡ true → c ≡ d
same_is c d h =
    let kind = nat_eq c.kind d.kind in
    let constant = int_eq c.constant d.constant in
    let first = nat_eq c.first d.first in
    let second = nat_eq c.second d.second in
    let third = nat_eq c.third d.third in
    let later = both-right kind (constant && (first && (second && third))) h in
    let numbers = both-right constant (first && (second && third)) later in
    let last = both-right first (second && third) numbers in
    let k = (Decides-eqb c.kind d.kind).0 (both-left kind (constant && (first && (second && third))) h) in
    let z = (Decides-int_eq c.constant d.constant).0 (both-left constant (first && (second && third)) later) in
    let x = (Decides-eqb c.first d.first).0 (both-left first (second && third) numbers) in
    let y = (Decides-eqb c.second d.second).0 (both-left second third last) in
    let w = (Decides-eqb c.third d.third).0 (both-right second third last) in
    λ i. record { kind = k i; constant = z i; first = x i; second = y i; third = w i }

pub same_input : (c d : Code) → same_code c d ≡ true → code_input c ≡ code_input d
same_input c d h = ap code_input (same_is c d h)
