-- Literals worked by hand: lists that no structure meets, and neighbours that one does.
use Rattle.std.proofs.Common.{◌≡◌, refl, sym, ◌∙◌, ℕ, ℤ, pos, ◌==◌, if◌then◌else◌, true, false, [], ◌∷◌}
use Rattle.jh_name.specs.declared.naming.Name.{Name}
use Rattle.jh_form.specs.Tree.{TermTree, IntTree, FieldTree, FormulaTree}
use Rattle.jh_form.specs.Tree as t
use Rattle.jh_closure.specs.structures.Structures.{Structure}
use Rattle.jh_closure.specs.structures.Literals.{LiteralTree, Meets, NotMet}

abbrev named : ℕ → Name
named k = record { text = []; turn = k }

abbrev a : TermTree
a = t.free_object (named 1)

abbrev b : TermTree
b = t.free_object (named 2)

abbrev c : TermTree
c = t.free_object (named 3)

abbrev f : FieldTree
f = t.free_field (named 4)

abbrev p : FormulaTree
p = t.free_truth (named 5)

abbrev one : IntTree
one = t.const (pos 1)

abbrev two : IntTree
two = t.const (pos 2)

abbrev yes : FormulaTree → LiteralTree
yes x = record { atom = x; holds = true }

abbrev no : FormulaTree → LiteralTree
no x = record { atom = x; holds = false }

-- equality is an equivalence, and what is equal has equal reads
itself : NotMet (no (t.eq_object a a) ∷ [])
itself s met = met.0 refl

chain : NotMet (yes (t.eq_object a b) ∷ yes (t.eq_object b c) ∷ no (t.eq_object a c) ∷ [])
chain s met = met.1.1.0 (met.0 ∙ met.1.0)

reads : NotMet (yes (t.eq_object a b) ∷ no (t.eq_object (t.read_object f a) (t.read_object f b)) ∷ [])
reads s met = met.1.0 (λ i. s.read_object (s.free_field (named 4)) (met.0 i))

-- different constants differ, and no truth is True and False
constants : NotMet (yes (t.eq_number one two) ∷ [])
constants s met = let e : pos 1 ≡ pos 2 = s.constants_differ (pos 1) (pos 2) met.0 in cc

both-ways : NotMet (yes p ∷ no p ∷ [])
both-ways s met = s.truths_differ (sym met.0 ∙ met.1.0)

-- an equivalence is an equation of truths
equivalent : NotMet (yes (t.iff p t.true_formula) ∷ no p ∷ [])
equivalent s met = s.truths_differ (sym met.0 ∙ met.1.0)

-- A structure of three objects in which a and b are 1 and c is 2: no law of sums is kept, and a truth may be neither.
abbrev small : Structure ℕ ℤ ℕ ℕ ℕ
small = record {
  bound = λ k. 0;
  free_object = λ x. if x.turn == 3 then 2 else 1;
  null = 0;
  read_object = λ g x. x;
  const = λ z. z;
  free_number = λ x. pos 0;
  read_number = λ g x. pos 0;
  add = λ y z. pos 0;
  sub = λ y z. pos 0;
  neg = λ z. z;
  scale = λ y z. z;
  card = λ g. pos 0;
  free_set = λ x. 0;
  read_set = λ g x. 0;
  empty = 0;
  univ = 1;
  single = λ x. x;
  union = λ g h. g;
  inter = λ g h. g;
  diff = λ g h. g;
  compl = λ g. g;
  compr = λ g. g;
  free_field = λ x. 0;
  update = λ g x v. g;
  true_value = 1;
  false_value = 0;
  free_truth = λ x. 2;
  read_truth = λ g x. 0;
  negation = λ g. g;
  and = λ g h. g;
  or = λ g h. g;
  implies = λ g h. g;
  iff = λ g h. g;
  all = λ g. g;
  ex = λ g. g;
  eq_object = λ x y. 0;
  eq_number = λ x y. 0;
  eq_set = λ x y. 0;
  less = λ x y. 0;
  less_equal = λ x y. 0;
  divides = λ x y. 0;
  member = λ x y. 0;
  subset = λ x y. 0;
  reach = λ gs x y. 0;
  tree = λ gs. 0;
  constants_differ = λ y z e. e;
  truths_differ = λ e. cc;
}

two-apart : Meets small (yes (t.eq_object a b) ∷ no (t.eq_object b c) ∷ [])
two-apart = (refl, (λ e. cc, tt))

sums : Meets small (no (t.eq_number (t.add one one) two) ∷ [])
sums = (λ e. cc, tt)

neither : Meets small (no (t.iff p t.true_formula) ∷ no (t.iff p t.false_formula) ∷ [])
neither = (λ e. cc, (λ e. cc, tt))
