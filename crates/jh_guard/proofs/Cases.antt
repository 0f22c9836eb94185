-- Commands of small methods, worked by hand and proved by computing.
use Rattle.std.proofs.Common.{◌≡◌, refl, ℕ, pos, ◌||◌, Bool, true, false, List, [], ◌∷◌, ◌++◌, Some, None, codes}
use Rattle.jh_name.specs.declared.naming.Name.{Name}
use Rattle.jh_name.specs.declared.place.Place.{Place}
use Rattle.jh_name.specs.declared.place.Kind.TheVariants as k
use Rattle.jh_rules.specs.declared.types.Ty.TheVariants as ty
use Rattle.jh_rules.specs.Words.{same_text}
use Rattle.jh_semantics.specs.jh_vars.Written.{Callee}
use Rattle.jh_semantics.specs.jh_vars.Resolved.{own}
use Rattle.jh_wp.specs.Command.{CommandTree, CommandTrees}
use Rattle.jh_wp.specs.Command as w
use Rattle.jh_semantics.specs.Code.{Text, Local, Claim, Stmt, Stmts}
use Rattle.jh_semantics.specs.Code as c
use Rattle.jh_semantics.specs.Program.{Program, Method, Member}
use Rattle.jh_guard.specs.Writes.{Writes}
use Rattle.jh_guard.specs.Methods.{method_command}

-- the names that a command assigns, in order, and those of its havocs with what they take
abbrev mutual
  changes : CommandTree → List Name
  changes (w.assign x v) = x ∷ []
  changes (w.havoc x y) = x ∷ y ∷ []
  changes (w.seq cs) = all_changes cs
  changes (w.choice a b) = changes a ++ changes b
  changes _ = []

  all_changes : CommandTrees → List Name
  all_changes w.none = []
  all_changes (w.more a cs) = changes a ++ all_changes cs

at : ℕ → ℕ → Place
at l n = record { line = l; column = n }

-- class C { C next; static C first; static int n; } with one method that makes an object, has a loop, calls itself twice and writes a
-- static and a field
abbrev members : List Member
members =
    record { text = codes "C.next"; class = codes "C"; kind = k.Obj; is_static = false; type = Some (ty.Class 0) }
    ∷ record { text = codes "C.first"; class = codes "C"; kind = k.Obj; is_static = true; type = Some (ty.Class 0) }
    ∷ record { text = codes "C.n"; class = codes "C"; kind = k.Int; is_static = true; type = Some ty.Int } ∷ []

abbrev make : Callee
make = record { class = 0; name = codes "make" }

abbrev body : Stmts
body =
    c.more (c.new_object (at 8 5) (c.to_new (record { text = codes "x"; type = ty.Class 0 })) (codes "C"))
    (c.more (c.assign (c.to_new (record { text = codes "i"; type = ty.Int })) (c.a_number (c.const (pos 0))))
    (c.more (c.assign (c.to_name (codes "i")) (c.a_number (c.number (codes "q"))))
    (c.more (c.loop (at 9 5) [] (c.less (c.const (pos 0)) (c.number (codes "i")))
    (c.block (c.more (c.assign (c.to_name (codes "i")) (c.a_number (c.sub (at 9 60) (c.number (codes "i")) (c.const (pos 1)))))
    (c.more (c.assign (c.to_new (record { text = codes "b"; type = ty.Boolean })) (c.a_truth (c.literal true))) c.none))))
    (c.more (c.call (at 10 5) (c.to_new (record { text = codes "y"; type = ty.Class 0 })) None (at 10 11) make (c.an_object (c.object (codes "p")) ∷ c.a_number (c.number (codes "i")) ∷ []))
    (c.more (c.assign (c.to_name (codes "C.n")) (c.a_number (c.const (pos 3))))
    (c.more (c.call (at 12 5) (c.to_field (codes "C.next") (c.object (codes "p")) (at 12 5)) None (at 12 14) make
    (c.an_object (c.read_object (codes "C.next") (c.object (codes "x")) (at 12 21)) ∷ c.a_number (c.number (codes "i")) ∷ []))
    (c.more (c.return_value (c.an_object (c.object (codes "y")))) c.none)))))))

abbrev method : Method
method = record {
  place = at 6 19;
  is_public = true;
  this = None;
  params = record { text = codes "p"; type = ty.Class 0 } ∷ record { text = codes "q"; type = ty.Int } ∷ [];
  result = ty.Class 0;
  requires = None;
  ensures = None;
  body = body;
}

abbrev program : Program
program = record { classes = codes "C" ∷ []; members = members; method = λ m. Some method; invariants = [] }

abbrev is_one : Text → List Text → Bool
is_one x [] = false
is_one x (y ∷ ys) = same_text x y || is_one x ys

abbrev writes : Writes
writes = record {
  written = λ m x. is_one x (codes "alloc" ∷ codes "C" ∷ codes "C.next" ∷ codes "C.n" ∷ []);
  modified = λ m x. is_one x (codes "C.next" ∷ codes "C.n" ∷ []);
}

-- The turns: the copies at entry have 1; `new` takes 2 and its havoc 3; the loop writes no state, copies its two locals at 4, and has
-- the havocs 5 and 6; a call keeps its arguments at 7 and 8, copies at 9, and has the havocs 10 to 13 and its result at 14; the other
-- one keeps its target's receiver too.
turns-of-a-method : changes (method_command program writes make method).body ≡
    own (codes "alloc") 1 ∷ own (codes "C") 1 ∷ own (codes "Object") 1 ∷ own (codes "C.next") 1 ∷ own (codes "C.first") 1 ∷ own (codes "C.n") 1
    ∷ own (codes "new") 2 ∷ own (codes "new") 3 ∷ own (codes "alloc") 0 ∷ own (codes "C") 0 ∷ own (codes "x") 0
    ∷ own (codes "i") 0 ∷ own (codes "i") 0
    ∷ own (codes "i") 4 ∷ own (codes "b") 4 ∷ own (codes "i") 0 ∷ own (codes "i") 5 ∷ own (codes "b") 0 ∷ own (codes "b") 6
    ∷ own (codes "i") 0 ∷ own (codes "b") 0
    ∷ own (codes "p") 7 ∷ own (codes "q") 8 ∷ own (codes "alloc") 9 ∷ own (codes "C") 9 ∷ own (codes "C.next") 9 ∷ own (codes "C.n") 9
    ∷ own (codes "alloc") 0 ∷ own (codes "alloc") 10 ∷ own (codes "C") 0 ∷ own (codes "C") 11 ∷ own (codes "C.next") 0 ∷ own (codes "C.next") 12 ∷ own (codes "C.n") 0 ∷ own (codes "C.n") 13
    ∷ own (codes "y") 0
    ∷ own (codes "C.n") 0
    ∷ own (codes "p") 15 ∷ own (codes "q") 16 ∷ own (codes "target") 17 ∷ own (codes "alloc") 18 ∷ own (codes "C") 18 ∷ own (codes "C.next") 18 ∷ own (codes "C.n") 18
    ∷ own (codes "alloc") 0 ∷ own (codes "alloc") 19 ∷ own (codes "C") 0 ∷ own (codes "C") 20 ∷ own (codes "C.next") 0 ∷ own (codes "C.next") 21 ∷ own (codes "C.n") 0 ∷ own (codes "C.n") 22
    ∷ own (codes "C.next") 0
    ∷ own (codes "result") 0 ∷ []
turns-of-a-method = refl
