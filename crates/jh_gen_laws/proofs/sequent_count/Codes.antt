-- The commands of the bodies of a made program.
use Rattle.std.proofs.Common.{◌≡◌, ℕ, ◌≤◌, Bool, true, false, cond, List, [], ◌∷◌, ◌++◌, Option, Some, None, refl, sym, subst, arith, pos, codes}
use Rattle.std.specs.Option.{option_map_or}
use Rattle.jh_name.specs.declared.place.Kind.{Kind}
use Rattle.jh_name.specs.declared.place.Kind.TheVariants as k
use Rattle.jh_name.specs.declared.place.Place.{Place}
use Rattle.jh_ast.specs.declared.word.Word.{Word}
use Rattle.jh_ast.specs.declared.word.JType.TheVariants as jtype
use Rattle.jh_ast.specs.declared.word.Param.{Param}
use Rattle.jh_ast.specs.Stmts as s
use Rattle.jh_ast.specs.declared.expr.Op.TheVariants as op
use Rattle.jh_ast.specs.Exprs.{ExprTree}
use Rattle.jh_ast.specs.Exprs as e
use Rattle.jh_ast.specs.Programs.{ProgramTree}
use Rattle.jh_form.specs.Tree.{ValueTree, TermTree}
use Rattle.jh_form.specs.Tree as t
use Rattle.jh_rules.specs.declared.entries.FieldEntry.{FieldEntry}
use Rattle.jh_rules.specs.declared.entries.LocalEntry.{LocalEntry}
use Rattle.jh_rules.specs.Words.{text_of}
use Rattle.jh_rules.specs.Names.{declared_in}
use Rattle.jh_rules.specs.Scopes.{Scope, behind}
use Rattle.jh_rules.specs.Exprs.{class_spelled}
use Rattle.jh_vars.specs.Resolved.{kind_of_local}
use Rattle.jh_wp.specs.Command.{CommandTree}
use Rattle.jh_seq.specs.counting.Goals.{Weights, goals}
use Rattle.jh_semantics.specs.Code.{Text, ObjectCode, NumberCode, AnyCode, an_object, a_number, a_truth, Local, Target}
use Rattle.jh_semantics.specs.Code as c
use Rattle.jh_semantics.specs.Program.{Program}
use Rattle.jh_semantics.specs.Lowered.{as_object, as_number, name_code, read_code, static_code, field_code, own_code, expr_code, receiver_class, member_kind, member_text}
use Rattle.jh_semantics.specs.LoweredStmts.{static_target, field_target, own_target, dotted_target, target_code, local_code, stmts_code}
use Rattle.jh_obligations.specs.jh_guard.Terms.{value_term, object_term, value_checks, object_checks, number_checks}
use Rattle.jh_obligations.specs.jh_guard.Steps.{target_checks, assert_checks, put}
use Rattle.jh_obligations.specs.jh_guard.Statements.{stmts_commands}
use Rattle.jh_obligations.specs.jh_guard.Writes.{Writes}
use Rattle.jh_gen_laws.specs.typing.Trees as trees
use Rattle.jh_gen_laws.proofs.sequent_count.Cheap.{Light, IsLight, light-object, light-number, light-truth, light-field, Cheap, AllCheap, cheap-assert, cheap-assign, all-none, all-more, all-append, weaker}

-- a value that needs no checks
pub record IsEasy (a : AnyCode) : Type 0 where
  pub checks : value_checks a ≡ []
  pub object : object_checks (as_object a) ≡ []
  pub number : number_checks (as_number a) ≡ []
  pub light : IsLight (value_term a)

easy-null : IsEasy (an_object c.null)
easy-null = record { checks = refl; object = refl; number = refl; light = light-object _ }

pub easy-const : (n : ℕ) → IsEasy (a_number (c.const (pos n)))
easy-const n = record { checks = refl; object = refl; number = refl; light = light-number _ }

easy-name : (kind : Kind) (x : Text) → IsEasy (name_code kind x)
unfolding goals
easy-name k.Int x = record { checks = refl; object = refl; number = refl; light = light-number _ }
easy-name k.Bool x = record { checks = refl; object = refl; number = refl; light = light-truth _ (λ w b l. l _ b) }
easy-name k.Obj x = record { checks = refl; object = refl; number = refl; light = light-object _ }
easy-name k.Set x = record { checks = refl; object = refl; number = refl; light = light-object _ }

easy-read : (kind : Kind) (f : Text) (q : Place) → IsEasy (read_code kind f c.this q)
unfolding goals
easy-read k.Int f q = record { checks = refl; object = refl; number = refl; light = light-number _ }
easy-read k.Bool f q = record { checks = refl; object = refl; number = refl; light = light-truth _ (λ w b l. omega arith) }
easy-read k.Obj f q = record { checks = refl; object = refl; number = refl; light = light-object _ }
easy-read k.Set f q = record { checks = refl; object = refl; number = refl; light = light-object _ }

module _ (p : ProgramTree) where
  easy-own : (at : Scope) (w : Word) (fixed : Bool) → IsEasy (cond fixed (static_code p (Some at.class) w) (field_code p (Some at.class) w c.this w.place))
  easy-own at w true = easy-name (member_kind p at.class (text_of w)) (member_text p at.class (text_of w))
  easy-own at w false = easy-read (member_kind p at.class (text_of w)) (member_text p at.class (text_of w)) w.place

  easy-by : (at : Scope) (w : Word) (o : Option LocalEntry) (u : Option FieldEntry) → IsEasy (option_map_or (λ (x : LocalEntry). name_code (kind_of_local x) (text_of w)) o (option_map_or (own_code p at w) u (an_object c.null)))
  easy-by at w (Some x) u = easy-name (kind_of_local x) (text_of w)
  easy-by at w None (Some x) = easy-own at w x.fixed
  easy-by at w None None = easy-null

  pub easy-word : (at : Scope) (q : Place) (x : List ℕ) → IsEasy (expr_code p (trees.value q x) at)
  unfolding expr_code
  easy-word at q x = easy-by at (trees.word_at q x) (at.local x) ((declared_in p).field_of at.class x)

  pub easy-number : (at : Scope) (q : Place) (n : ℕ) → IsEasy (expr_code p (e.number q (pos n)) at)
  unfolding expr_code
  easy-number at q n = easy-const n

-- a target that asks for one goal at most
pub record IsEasyTarget (g : Target) : Type 0 where
  pub checks : target_checks g ≡ []
  pub puts : (v : ValueTree) → IsLight v → AllCheap (put g v) 1

single : (x : CommandTree) → Cheap x 0 → AllCheap (x ∷ []) 1
single x h = weaker (x ∷ []) 0 1 (all-more x [] 0 0 h all-none) (omega arith)

easy-nowhere : IsEasyTarget c.nowhere
easy-nowhere = record { checks = refl; puts = λ v l. weaker [] 0 1 all-none (omega arith) }

easy-to-name : (x : Text) → IsEasyTarget (c.to_name x)
easy-to-name x = record { checks = refl; puts = λ v l. single _ (cheap-assign _ v l) }

pub easy-to-new : (x : Local) → IsEasyTarget (c.to_new x)
easy-to-new x = record { checks = refl; puts = λ v l. single _ (cheap-assign _ v l) }

not-null : (a : TermTree) (u : Weights) → Light u → goals (t.negation (t.eq_object a t.null)) u true ≤ 1
unfolding goals
not-null a u l = omega arith

easy-to-field : (f : Text) (r : ObjectCode) (q : Place) → object_checks r ≡ [] → IsEasyTarget (c.to_field f r q)
unfolding goals
easy-to-field f c.this q e = record { checks = e; puts = λ v l. single _ (cheap-assign _ _ (light-field _)) }
easy-to-field f c.null q e = record { checks = e; puts = λ v l. all-more _ _ 1 0 (cheap-assert _ 1 (λ u h. not-null (object_term c.null) u h)) (all-more _ [] 0 0 (cheap-assign _ _ (light-field _)) all-none) }
easy-to-field f (c.object x) q e = record { checks = e; puts = λ v l. all-more _ _ 1 0 (cheap-assert _ 1 (λ u h. not-null (object_term (c.object x)) u h)) (all-more _ [] 0 0 (cheap-assign _ _ (light-field _)) all-none) }
easy-to-field f (c.read_object g r s) q e = record { checks = e; puts = λ v l. all-more _ _ 1 0 (cheap-assert _ 1 (λ u h. not-null (object_term (c.read_object g r s)) u h)) (all-more _ [] 0 0 (cheap-assign _ _ (light-field _)) all-none) }

module _ (p : ProgramTree) where
  own-target : (at : Scope) (w : Word) (fixed : Bool) → IsEasyTarget (cond fixed (static_target p (Some at.class) w) (field_target p (Some at.class) w c.this w.place))
  own-target at w true = easy-to-name _
  own-target at w false = easy-to-field _ c.this w.place refl

  by-target : (at : Scope) (w : Word) (o : Option LocalEntry) (u : Option FieldEntry) → IsEasyTarget (option_map_or (λ (x : LocalEntry). c.to_name (text_of w)) o (option_map_or (own_target p at w) u c.nowhere))
  by-target at w (Some x) u = easy-to-name (text_of w)
  by-target at w None (Some x) = own-target at w x.fixed
  by-target at w None None = easy-nowhere

  pub easy-word-target : (at : Scope) (q : Place) (x : List ℕ) → IsEasyTarget (target_code p at (trees.value q x))
  easy-word-target at q x = by-target at (trees.word_at q x) (at.local x) ((declared_in p).field_of at.class x)

  some-static : (class : Option ℕ) (w : Word) → IsEasyTarget (static_target p class w)
  some-static None w = easy-nowhere
  some-static (Some n) w = easy-to-name _

  some-field : (class : Option ℕ) (w : Word) (r : ObjectCode) (q : Place) → object_checks r ≡ [] → IsEasyTarget (field_target p class w r q)
  some-field None w r q e = easy-nowhere
  some-field (Some n) w r q e = easy-to-field _ r q e

  by-dotted : (at : Scope) (o : Option (Option ℕ)) (a : ExprTree) (w : Word) → IsEasy (expr_code p a at) → IsEasyTarget (dotted_target p at o a w)
  by-dotted at (Some class) a w easy = some-static class w
  by-dotted at None a w easy = some-field (receiver_class p at a) w (as_object (expr_code p a at)) (e.place_of a) easy.object

  pub easy-member-target : (at : Scope) (q : Place) (x : List ℕ) (r : Place) (y : List ℕ) → IsEasyTarget (target_code p at (trees.member (trees.value q x) r y))
  easy-member-target at q x r y = by-dotted at (class_spelled (declared_in p) at (trees.value q x)) (trees.value q x) (trees.word_at r y) (easy-word p at q x)

-- an assignment
pub assign-cheap : (g : Target) (a : AnyCode) → IsEasyTarget g → IsEasy a → AllCheap (assert_checks (target_checks g ++ value_checks a) ++ put g (value_term a)) 1
assign-cheap g a target easy =
    let checks : target_checks g ++ value_checks a ≡ [] = λ j. target.checks j ++ easy.checks j in
    subst (λ cs. AllCheap (assert_checks cs ++ put g (value_term a)) 1) (sym checks) (target.puts (value_term a) easy.light)

-- ---- the bodies
module _ (p : ProgramTree) (program : Program) (ws : Writes) (this : Option ℕ) (scope : List Local) where
  pub swap-cheap : (r1 r2 r3 r4 r5 r6 r7 : Place) (at : Scope) (n : ℕ) → AllCheap (stmts_commands program ws this scope (stmts_code p (trees.swap_body r1 r2 r3 r4 r5 r6 r7) at) n) 3
  unfolding stmts_code
  swap-cheap r1 r2 r3 r4 r5 r6 r7 at n =
      let local : Param = record { name = trees.word_at r2 (codes "t"); jtype = jtype.Class (trees.word_at r1 (codes "Object")) } in
      let second : Scope = behind (declared_in p) at (s.local r1 local (Some (s.value (trees.value r3 (codes "a"))))) in
      let third : Scope = behind (declared_in p) second (trees.set (trees.value r4 (codes "a")) (trees.value r5 (codes "b"))) in
      all-append _ _ 1 2 (assign-cheap _ _ (easy-to-new (local_code p local)) (easy-word p at r3 (codes "a")))
      (all-append _ _ 1 1 (assign-cheap _ _ (easy-word-target p second r4 (codes "a")) (easy-word p second r5 (codes "b")))
      (all-append _ [] 1 0 (assign-cheap _ _ (easy-word-target p third r6 (codes "b")) (easy-word p third r7 (codes "t"))) all-none))

  sum-easy : (at : Scope) (q2 q3 : Place) (k : ℕ) → IsEasy (expr_code p (e.binary q2 op.Add (trees.value q2 (codes "n")) (e.number q3 (pos k))) at)
  unfolding expr_code
  sum-easy at q2 q3 k =
      let left = easy-word p at q2 (codes "n") in
      record { checks = λ j. left.number j ++ []; object = refl; number = λ j. left.number j ++ []; light = light-number _ }

  pub sum-cheap : (r1 r2 r3 : Place) (k : ℕ) (at : Scope) (n : ℕ) → AllCheap (stmts_commands program ws this scope (stmts_code p (trees.sum_body r1 r2 r3 k) at) n) 1
  unfolding stmts_code
  sum-cheap r1 r2 r3 k at n = all-append _ [] 1 0 (assign-cheap _ _ (easy-word-target p at r1 (codes "n")) (sum-easy at r2 r3 k)) all-none

  pub cells-cheap : (r1 r2 r3 r4 r5 r6 : Place) (k : ℕ) (at : Scope) (n : ℕ) → AllCheap (stmts_commands program ws this scope (stmts_code p (trees.cells_body r1 r2 r3 r4 r5 r6 k) at) n) 2
  unfolding stmts_code
  cells-cheap r1 r2 r3 r4 r5 r6 k at n =
      let second : Scope = behind (declared_in p) at (trees.set (trees.member (trees.value r1 (codes "p")) r2 (codes "f")) (e.number r3 (pos k))) in
      all-append _ _ 1 1 (assign-cheap _ _ (easy-member-target p at r1 (codes "p") r2 (codes "f")) (easy-number p at r3 k))
      (all-append _ [] 1 0 (assign-cheap _ _ (easy-member-target p second r4 (codes "q") r5 (codes "f")) (easy-number p second r6 2)) all-none)
