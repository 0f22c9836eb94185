-- Small runs, worked by hand and proved by computing.
use Rattle.std.proofs.Common.{◌≡◌, refl, ℕ, pos, ◌&&◌, ◌||◌, ◌==◌, Bool, true, false, if◌then◌else◌, List, [], ◌∷◌, Option, Some, None, codes}
use Rattle.jh_name.specs.declared.place.Place.{Place}
use Rattle.jh_form.specs.Tree.{FormulaTree}
use Rattle.jh_form.specs.Tree as t
use Rattle.jh_form.specs.Passing.{name_equal}
use Rattle.jh_form.specs.Meaning.{Datum, an_object, a_number}
use Rattle.jh_rules.specs.declared.types.Ty.TheVariants as ty
use Rattle.jh_rules.specs.Words.{same_text}
use Rattle.jh_vars.specs.Written.{Callee}
use Rattle.jh_vars.specs.Resolved.{own}
use Rattle.jh_semantics.specs.Code.{Text, ObjectCode, Stmt, Stmts, Claim, Local}
use Rattle.jh_semantics.specs.Code as c
use Rattle.jh_semantics.specs.Program.{Program, Method}
use Rattle.jh_semantics.specs.State.{State, named}
use Rattle.jh_semantics.specs.Progress.{Outcome, returned, stopped, null_dereferenced, assert_failed, no_object, steps_out}
use Rattle.jh_semantics.specs.Objects.{free}
use Rattle.jh_semantics.specs.Execution.{run}

abbrev pub at : ℕ → ℕ → Place
at l n = record { line = l; column = n }

-- what is to be seen of a run's end: an object name, a field at an object, a ghost field, a set, the result
abbrev pub object_after : Outcome → Text → Option ℕ
object_after (returned s v) x = Some (s.object (named x))
object_after (stopped why) x = None

abbrev next_after : Outcome → ℕ → Option ℕ
next_after (returned s v) a = Some ((s.field (named (codes "Node.next"))).objects a)
next_after (stopped why) a = None

abbrev pub seen_after : Outcome → ℕ → Option Bool
seen_after (returned s v) a = Some ((s.field (named (codes "Node.seen"))).truths a)
seen_after (stopped why) a = None

abbrev set_after : Outcome → Text → ℕ → Option Bool
set_after (returned s v) x a = Some (s.set (named x) a)
set_after (stopped why) x a = None

abbrev pub result_after : Outcome → Option (Option Datum)
result_after (returned s v) = Some v
result_after (stopped why) = None

-- class Node { static Node top; Node next; /*: public ghost specvar seen :: bool */ }, in a universe of the objects 0 to 3: the nodes
-- are 1 and 2, `top` is 1, and `next` leads from 1 to 2
abbrev pub chain : State
chain = record {
  last = 3;
  object = λ x. if name_equal x (named (codes "Node.top")) then 1 else 0;
  number = λ x. pos 0;
  truth = λ x. false;
  set = λ x a. if name_equal x (named (codes "alloc")) || name_equal x (named (codes "Node")) then ((a == 1) || (a == 2)) else false;
  field = λ x. record {
    objects = λ a. if name_equal x (named (codes "Node.next")) && (a == 1) then 2 else 0;
    numbers = λ a. pos 0;
    truths = λ a. false;
    sets = λ a b. false;
  };
}

abbrev method : List Local → Stmts → Method
method params body = record { place = at 1 1; is_public = false; this = None; params = params; result = ty.Void; requires = None; ensures = None; body = body }

-- two methods, `m` and `n`
abbrev program : Method → Method → Program
program m n = record {
  classes = codes "Node" ∷ [];
  members = [];
  method = λ x. if same_text x.name (codes "m") then Some m else (if same_text x.name (codes "n") then Some n else None);
  invariants = [];
}

abbrev callee : Text → Callee
callee x = record { class = 0; name = x }

-- a run of `m` that takes no objects
abbrev run_of : Stmts → State → ℕ → Outcome
run_of body s steps = run (program (method [] body) (method [] c.none)) (callee (codes "m")) s 0 [] [] steps

abbrev node : Text → Local
node x = record { text = x; type = ty.Class 0 }

abbrev top : ObjectCode
top = c.object (codes "Node.top")

abbrev next : ObjectCode → Place → ObjectCode
next r p = c.read_object (codes "Node.next") r p

infixr 5 ◌then◌
abbrev ◌then◌ : Stmt → Stmts → Stmts
s then ss = c.more s ss

-- Node x = new Node(); x.next = top; top = x;
abbrev push : Stmts
push =
    c.new_object (at 1 1) (c.to_new (node (codes "x"))) (codes "Node")
    then c.assign (c.to_field (codes "Node.next") (c.object (codes "x")) (at 2 1)) (c.an_object top)
    then c.assign (c.to_name (codes "Node.top")) (c.an_object (c.object (codes "x"))) then c.none

abbrev push_from : List ℕ → ℕ → Outcome
push_from picks steps = run (program (method [] push) (method [] c.none)) (callee (codes "m")) chain 0 [] picks steps

-- it takes the object 3, and four steps: one for the call, and one for each statement
only-3-is-free : free chain ≡ 3 ∷ []
unfolding name_equal
only-3-is-free = refl

push-moves-top : object_after (push_from (free chain) 4) (codes "Node.top") ≡ Some 3
unfolding name_equal
push-moves-top = refl

push-links : next_after (push_from (free chain) 4) 3 ≡ Some 1
unfolding name_equal
push-links = refl

push-keeps-links : next_after (push_from (free chain) 4) 1 ≡ Some 2
unfolding name_equal
push-keeps-links = refl

push-makes-a-node : set_after (push_from (free chain) 4) (codes "Node") 3 ≡ Some true
unfolding name_equal
push-makes-a-node = refl

push-allocates : set_after (push_from (free chain) 4) (codes "alloc") 3 ≡ Some true
unfolding name_equal
push-allocates = refl

push-has-no-result : result_after (push_from (free chain) 4) ≡ Some None
unfolding name_equal
push-has-no-result = refl

push-wants-four-steps : push_from (free chain) 3 ≡ stopped steps_out
unfolding name_equal
push-wants-four-steps = refl

-- no pick is left, or the pick is there already, or is none of the objects
push-wants-an-object : push_from [] 4 ≡ stopped (no_object (at 1 1))
unfolding name_equal
push-wants-an-object = refl

push-wants-a-free-object : push_from (2 ∷ []) 4 ≡ stopped (no_object (at 1 1))
unfolding name_equal
push-wants-a-free-object = refl

push-wants-an-object-that-there-is : push_from (4 ∷ []) 4 ≡ stopped (no_object (at 1 1))
unfolding name_equal
push-wants-an-object-that-there-is = refl

-- The value of a right side is taken before the receiver of its target is asked: in `x.next = y.next`, where both are null, it is `y`
-- at 1:10 that is dereferenced; in `x.next = top` it is `x` at 1:1. `top.next.next` is null, and then nothing is dereferenced.
abbrev link : ObjectCode → Stmts
link e = c.assign (c.to_field (codes "Node.next") (c.object (codes "x")) (at 1 1)) (c.an_object e) then c.none

null-on-the-right : run_of (link (next (c.object (codes "y")) (at 1 10))) chain 9 ≡ stopped (null_dereferenced (at 1 10))
unfolding name_equal
null-on-the-right = refl

null-on-the-left : run_of (link top) chain 9 ≡ stopped (null_dereferenced (at 1 1))
unfolding name_equal
null-on-the-left = refl

null-is-a-value : object_after (run_of (c.assign (c.to_name (codes "Node.top")) (c.an_object (next (next top (at 1 7)) (at 1 7))) then c.none) chain 2) (codes "Node.top") ≡ Some 0
unfolding name_equal
null-is-a-value = refl

null-has-no-fields : run_of (c.assign (c.to_name (codes "Node.top")) (c.an_object (next (next (next top (at 1 7)) (at 1 7)) (at 1 8))) then c.none) chain 2 ≡ stopped (null_dereferenced (at 1 8))
unfolding name_equal
null-has-no-fields = refl

-- Node x = top; while (x != null) x = x.next; top = x;
abbrev walk : Stmts
walk =
    c.assign (c.to_new (node (codes "x"))) (c.an_object top)
    then c.loop (at 2 1) [] (c.negation (c.same_object (c.object (codes "x")) c.null)) (c.assign (c.to_name (codes "x")) (c.an_object (next (c.object (codes "x")) (at 2 23))))
    then c.assign (c.to_name (codes "Node.top")) (c.an_object (c.object (codes "x"))) then c.none

-- eight steps: the call, the declaration, the loop, two turns with an assignment each, the assignment at the end
walk-ends : object_after (run_of walk chain 8) (codes "Node.top") ≡ Some 0
unfolding name_equal
walk-ends = refl

walk-wants-eight-steps : run_of walk chain 7 ≡ stopped steps_out
unfolding name_equal
walk-wants-eight-steps = refl

-- while (true) ; ends for want of steps, however many there are
forever : run_of (c.loop (at 1 1) [] (c.literal true) c.empty then c.none) chain 30 ≡ stopped steps_out
unfolding name_equal
forever = refl

-- static int n(Node x) { if (x == null) return 0; int rest = n(x.next); x = null; return rest + 1; }
abbrev length_body : Stmts
length_body =
    c.branch (at 1 1) (c.same_object (c.object (codes "x")) c.null) (c.return_value (c.a_number (c.const (pos 0)))) c.none
    then c.call (at 2 1) (c.to_new (record { text = codes "rest"; type = ty.Int })) None (at 2 12) (callee (codes "n")) (c.an_object (next (c.object (codes "x")) (at 2 14)) ∷ [])
    then c.return_value (c.a_number (c.add (at 3 8) (c.number (codes "rest")) (c.const (pos 1)))) then c.none

abbrev length_from : Datum → ℕ → Outcome
length_from start steps = run (program (method [] c.none) (method (node (codes "x") ∷ []) length_body)) (callee (codes "n")) chain 0 (start ∷ []) [] steps

-- two nodes: at each a call, a branch, a declaration and a return, and three steps at the end of the chain
length-is-two : result_after (length_from (an_object 1) 11) ≡ Some (Some (a_number (pos 2)))
unfolding name_equal
length-is-two = refl

length-wants-eleven-steps : length_from (an_object 1) 10 ≡ stopped steps_out
unfolding name_equal
length-wants-eleven-steps = refl

-- if (x != null && x.next != null) ; where x is null: the right operand isn't taken
abbrev guarded : Stmts
guarded = c.branch (at 1 1) (c.both (c.negation (c.same_object (c.object (codes "x")) c.null)) (c.negation (c.same_object (next (c.object (codes "x")) (at 1 19)) c.null))) c.empty c.none then c.none

guard-holds : result_after (run_of guarded chain 9) ≡ Some None
unfolding name_equal
guard-holds = refl

-- and the other way round it is
abbrev unguarded : Stmts
unguarded = c.branch (at 1 1) (c.both (c.negation (c.same_object (next (c.object (codes "x")) (at 1 5)) c.null)) (c.negation (c.same_object (c.object (codes "x")) c.null))) c.empty c.none then c.none

guard-is-late : run_of unguarded chain 9 ≡ stopped (null_dereferenced (at 1 5))
unfolding name_equal
guard-is-late = refl

-- x == null || x.next == null
either-is-guarded : result_after (run_of (c.branch (at 1 1) (c.either (c.same_object (c.object (codes "x")) c.null) (c.same_object (next (c.object (codes "x")) (at 1 18)) c.null)) c.empty c.none then c.none) chain 9) ≡ Some None
unfolding name_equal
either-is-guarded = refl

-- "x..seen" := "True", of a static and of a local that is null
abbrev mark_seen : Text → Stmts
mark_seen x = c.ghost_at (at 1 5) (codes "Node") (codes "Node.seen") (t.free_object (named x)) (at 1 17) (t.of_truth t.true_formula) then c.none

ghost-is-stored : seen_after (run_of (mark_seen (codes "Node.top")) chain 2) 1 ≡ Some true
unfolding name_equal
ghost-is-stored = refl

ghost-of-others-stays : seen_after (run_of (mark_seen (codes "Node.top")) chain 2) 2 ≡ Some false
unfolding name_equal
ghost-of-others-stays = refl

ghost-outside-its-class : run_of (mark_seen (codes "x")) chain 2 ≡ stopped (assert_failed (at 1 5))
unfolding name_equal
ghost-outside-its-class = refl

-- A set that a ghost variable holds has no members but objects: v := UNIV.
abbrev all_objects : Stmts
all_objects = c.ghost (codes "Node.v") (at 1 10) (t.of_set t.univ) then c.none

universe-is-in-it : set_after (run_of all_objects chain 2) (codes "Node.v") 3 ≡ Some true
unfolding name_equal
universe-is-in-it = refl

nothing-else-is-in-it : set_after (run_of all_objects chain 2) (codes "Node.v") 4 ≡ Some false
unfolding name_equal
nothing-else-is-in-it = refl

-- `old` is the state at the entry of the method that runs: m sets top to null and calls n, which finds null as its old top; back in m
-- the old top is 1 again. The claim: old top = x.
abbrev old_top_is : FormulaTree → Claim
old_top_is f = record { label = None; place = at 1 9; from = []; formula = f }

abbrev old_top_is_null : Claim
old_top_is_null = old_top_is (t.eq_object (t.free_object (own (codes "Node.top") 1)) t.null)

abbrev set_top_null : Stmt
set_top_null = c.assign (c.to_name (codes "Node.top")) (c.an_object c.null)

abbrev set_top_this : Stmt
set_top_this = c.assign (c.to_name (codes "Node.top")) (c.an_object (c.object (codes "x")))

abbrev call_n : Stmt
call_n = c.call (at 2 1) c.nowhere None (at 2 1) (callee (codes "n")) []

old-in-the-callee : result_after (run (program (method [] (set_top_null then call_n then c.none)) (method [] (c.assert old_top_is_null then c.none))) (callee (codes "m")) chain 0 [] [] 9) ≡ Some None
unfolding name_equal
old-in-the-callee = refl

old-in-the-caller : run (program (method [] (set_top_null then call_n then c.assert old_top_is_null then c.none)) (method [] c.none)) (callee (codes "m")) chain 0 [] [] 9 ≡ stopped (assert_failed (at 1 9))
unfolding name_equal
old-in-the-caller = refl

-- a caller keeps its locals: x = top; n(); top = x, where n has an x of its own and sets top and it to null
locals-are-restored : object_after (run (program
    (method [] (c.assign (c.to_new (node (codes "x"))) (c.an_object top) then call_n then set_top_this then c.none))
    (method [] (c.assign (c.to_new (node (codes "x"))) (c.an_object c.null) then set_top_this then c.none))) (callee (codes "m")) chain 0 [] [] 9) (codes "Node.top") ≡ Some 1
unfolding name_equal
locals-are-restored = refl

-- and a callee has new ones: where m's x is top, n sees null in its own
locals-are-new : object_after (run (program
    (method [] (c.assign (c.to_new (node (codes "x"))) (c.an_object top) then call_n then c.none))
    (method [] (set_top_this then c.none))) (callee (codes "m")) chain 0 [] [] 9) (codes "Node.top") ≡ Some 0
unfolding name_equal
locals-are-new = refl
