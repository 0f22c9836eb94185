-- The program that a made source spells, but for the places of its parts.
use Rattle.std.specs.Prelude.{ℕ, suc, pos, true, false, List, [], ◌∷◌, ◌≡◌, Option, Some, None, codes, length}
use Rattle.std.specs.Fmt.{decimal}
use Rattle.jh_name.specs.declared.place.Place.{Place}
use Rattle.jh_ast.specs.declared.word.Word.{Word}
use Rattle.jh_ast.specs.declared.word.JType.TheVariants as j
use Rattle.jh_ast.specs.declared.word.Param.{Param}
use Rattle.jh_ast.specs.declared.expr.Op.TheVariants as op
use Rattle.jh_ast.specs.declared.spec.SpecOp.{SpecOp}
use Rattle.jh_ast.specs.declared.spec.SpecOp.TheVariants as specop
use Rattle.jh_ast.specs.Exprs.{ExprTree}
use Rattle.jh_ast.specs.Exprs as e
use Rattle.jh_ast.specs.Forms.{FormTree, SpecPart}
use Rattle.jh_ast.specs.Forms as f
use Rattle.jh_ast.specs.Stmts.{StmtTree, StmtTrees}
use Rattle.jh_ast.specs.Stmts as s
use Rattle.jh_ast.specs.Programs.{ProgramTree, ClassPart, FieldPart, MethodPart}

abbrev pub word_at : Place → List ℕ → Word
word_at q t = record { text = record { text = t; turn = 0 }; place = q }

-- ---- formulas and expressions, each at the place of its first token

abbrev pub named : Place → List ℕ → FormTree
named q t = f.name q (word_at q t)

abbrev pub joined : SpecOp → FormTree → FormTree → FormTree
joined o a b = f.binary (f.place_of a) o a b

abbrev pub field_of : FormTree → Place → List ℕ → FormTree
field_of a q t = f.member (f.place_of a) a (word_at q t)

abbrev pub value : Place → List ℕ → ExprTree
value q t = e.name q (word_at q t)

abbrev pub member : ExprTree → Place → List ℕ → ExprTree
member a q t = e.member (e.place_of a) a (word_at q t)

-- a statement that assigns, at the place of its target
abbrev pub set : ExprTree → ExprTree → StmtTree
set a b = s.assign (e.place_of a) a (s.value b)

abbrev pub formula : Place → ℕ → FormTree → SpecPart
formula q n a = record { place = q; number = n; form = a }

abbrev pub name_of : ℕ → List ℕ
name_of i = 109 ∷ decimal i

-- ---- the methods; n is the number of the first formula

abbrev pub swap_post : (q1 q2 q3 q4 q5 q6 : Place) → FormTree
swap_post q1 q2 q3 q4 q5 q6 = joined specop.And (joined specop.Equal (named q1 (codes "a")) (f.old q2 (named q3 (codes "b")))) (joined specop.Equal (named q4 (codes "b")) (f.old q5 (named q6 (codes "a"))))

abbrev pub swap_body : (q1 q2 q3 q4 q5 q6 q7 : Place) → StmtTrees
swap_body q1 q2 q3 q4 q5 q6 q7 =
    s.more (s.local q1 (record { name = word_at q2 (codes "t"); jtype = j.Class (word_at q1 (codes "Object")) }) (Some (s.value (value q3 (codes "a")))))
    (s.more (set (value q4 (codes "a")) (value q5 (codes "b")))
    (s.more (set (value q6 (codes "b")) (value q7 (codes "t"))) s.none))

-- what a static void method with this contract is
abbrev pub static_void : Place → ℕ → List Param → Option SpecPart → List Word → SpecPart → StmtTrees → Place → MethodPart
static_void q i params pre ws post body end = record {
  name = word_at q (name_of i);
  is_public = true;
  fixed = true;
  result = j.Void;
  params = params;
  pre = pre;
  modifies = ws;
  post = Some post;
  body = body;
  end = end;
}

abbrev pub at_most : Place → ℕ → Place → FormTree
at_most q1 k q2 = joined specop.LessEq (f.number q1 (pos k)) (named q2 (codes "n"))

abbrev pub sum_body : (q1 q2 q3 : Place) → ℕ → StmtTrees
sum_body q1 q2 q3 k = s.more (set (value q1 (codes "n")) (e.binary q2 op.Add (value q2 (codes "n")) (e.number q3 (pos k)))) s.none

abbrev pub cells_params : (q1 q2 q3 q4 : Place) → List Param
cells_params q1 q2 q3 q4 = record { name = word_at q2 (codes "p"); jtype = j.Class (word_at q1 (codes "Cell")) } ∷ record { name = word_at q4 (codes "q"); jtype = j.Class (word_at q3 (codes "Cell")) } ∷ []

abbrev pub cells_pre : (q1 q2 q3 q4 q5 q6 : Place) → FormTree
cells_pre q1 q2 q3 q4 q5 q6 =
    joined specop.And (joined specop.NotEqual (named q1 (codes "p")) (f.null q2))
    (joined specop.And (joined specop.NotEqual (named q3 (codes "q")) (f.null q4)) (joined specop.NotEqual (named q5 (codes "p")) (named q6 (codes "q"))))

abbrev pub cells_post : (q1 q2 q3 q4 q5 q6 : Place) → ℕ → FormTree
cells_post q1 q2 q3 q4 q5 q6 k =
    joined specop.And (joined specop.Equal (field_of (named q1 (codes "p")) q2 (codes "Cell.f")) (f.number q3 (pos k)))
    (joined specop.Equal (field_of (named q4 (codes "q")) q5 (codes "Cell.f")) (f.number q6 (pos 2)))

abbrev pub cells_body : (q1 q2 q3 q4 q5 q6 : Place) → ℕ → StmtTrees
cells_body q1 q2 q3 q4 q5 q6 k =
    s.more (set (member (value q1 (codes "p")) q2 (codes "f")) (e.number q3 (pos k)))
    (s.more (set (member (value q4 (codes "q")) q5 (codes "f")) (e.number q6 (pos 2))) s.none)

-- a method is number i of a made source, of one of the kinds
pub data IsMethod (i : ℕ) : MethodPart → Type 0 where
  swaps : (n : ℕ) (q a b c q1 q2 q3 q4 q5 q6 r1 r2 r3 r4 r5 r6 r7 end : Place)
      → IsMethod i (static_void q i [] None (word_at a (codes "a") ∷ word_at b (codes "b") ∷ []) (formula c n (swap_post q1 q2 q3 q4 q5 q6)) (swap_body r1 r2 r3 r4 r5 r6 r7) end)
  sums : (n m k : ℕ) (q a b q1 q2 c q3 q4 r1 r2 r3 end : Place)
      → IsMethod i (static_void q i [] (Some (formula a n (at_most q1 0 q2))) (word_at b (codes "n") ∷ []) (formula c m (at_most q3 k q4)) (sum_body r1 r2 r3 k) end)
  cells : (n m k : ℕ) (q p1 p2 p3 p4 a q1 q2 q3 q4 q5 q6 b c s1 s2 s3 s4 s5 s6 r1 r2 r3 r4 r5 r6 end : Place)
      → IsMethod i (static_void q i (cells_params p1 p2 p3 p4) (Some (formula a n (cells_pre q1 q2 q3 q4 q5 q6))) (word_at b (codes "Cell.f") ∷ []) (formula c m (cells_post s1 s2 s3 s4 s5 s6 k)) (cells_body r1 r2 r3 r4 r5 r6 k) end)

-- methods are those of a made source from number i on
pub data AreMethods : ℕ → List MethodPart → Type 0 where
  none : {i : ℕ} → AreMethods i []
  more : {i : ℕ} {m : MethodPart} {ms : List MethodPart} → IsMethod i m → AreMethods (suc i) ms → AreMethods i (m ∷ ms)

-- ---- the classes

abbrev pub cell_class : (q1 q2 : Place) → ClassPart
cell_class q1 q2 = record {
  name = word_at q1 (codes "Cell");
  fields = record { name = word_at q2 (codes "f"); jtype = j.Int; fixed = false; init = None } ∷ [];
  methods = [];
  vars = [];
  defs = [];
  invariants = [];
}

abbrev pub static_object : Place → Place → List ℕ → FieldPart
static_object q1 q2 t = record { name = word_at q2 t; jtype = j.Class (word_at q1 (codes "Object")); fixed = true; init = None }

abbrev pub gen_class : (q1 q2 q3 q4 q5 q6 : Place) → List MethodPart → ClassPart
gen_class q1 q2 q3 q4 q5 q6 ms = record {
  name = word_at q1 (codes "Gen");
  fields = static_object q2 q3 (codes "a") ∷ static_object q4 q5 (codes "b") ∷ record { name = word_at q6 (codes "n"); jtype = j.Int; fixed = true; init = None } ∷ [];
  methods = ms;
  vars = [];
  defs = [];
  invariants = [];
}

abbrev pub made_program : (q1 q2 q3 q4 q5 q6 q7 q8 : Place) → List MethodPart → ProgramTree
made_program q1 q2 q3 q4 q5 q6 q7 q8 ms = record { classes = cell_class q1 q2 ∷ gen_class q3 q4 q5 q6 q7 q8 ms ∷ [] }

-- a program is one that a made source with so many methods spells
pub data IsMade (n : ℕ) : ProgramTree → Type 0 where
  made : (q1 q2 q3 q4 q5 q6 q7 q8 : Place) (ms : List MethodPart) → length ms ≡ n → AreMethods 1 ms → IsMade n (made_program q1 q2 q3 q4 q5 q6 q7 q8 ms)
