-- No method of a made program owes many sequents.
use Rattle.std.proofs.Common.{◌≡◌, ℕ, zero, suc, ◌+◌, ◌≤◌, Bool, true, false, cond, not, ◌&&◌, List, [], ◌∷◌, ◌++◌, map, length, Option, Some, None, option_map, refl, ap, sym, subst, ◌∙◌, arith, codes}
use Rattle.std.specs.Option.{option_map_or}
use Rattle.std.proofs.lemmas.Bool.{cond_both}
use Rattle.std.proofs.lemmas.Option.{none-some}
use Rattle.jh_name.specs.declared.naming.Name.{Name}
use Rattle.jh_name.specs.declared.place.Kind.{Kind}
use Rattle.jh_name.specs.declared.place.Kind.TheVariants as k
use Rattle.jh_name.specs.declared.place.MethodId.{MethodId}
use Rattle.jh_name.specs.declared.place.Place.{Place}
use Rattle.jh_ast.specs.Forms.{SpecPart}
use Rattle.jh_ast.specs.Programs.{ProgramTree, MethodPart}
use Rattle.jh_form.specs.declared.mark.Mark.{Mark}
use Rattle.jh_form.specs.declared.mark.MarkKind.TheVariants as kind
use Rattle.jh_form.specs.Tree.{FormulaTree, SetTree}
use Rattle.jh_rules.specs.Kinds.{is_void}
use Rattle.jh_form.specs.Tree as t
use Rattle.jh_rules.specs.Words.{same_text, text_of}
use Rattle.jh_vars.specs.Written.{Callee, part_of, method_in, merged, front_before, rest_behind}
use Rattle.jh_vars.specs.Statements.{entry_scope}
use Rattle.jh_vars.specs.state_names.States.{members, class_sets}
use Rattle.jh_semantics.specs.Code.{Claim}
use Rattle.jh_semantics.specs.Program.{Program, Method, Member}
use Rattle.jh_semantics.specs.LoweredProgram.{program_of, method_code}
use Rattle.jh_semantics.specs.LoweredStmts.{claim_of}
use Rattle.jh_semantics.specs.Entry.{owed}
use Rattle.jh_wp.specs.Command.{CommandTree}
use Rattle.jh_wp.specs.Command as w
use Rattle.jh_wp.specs.Wp.{wp}
use Rattle.jh_seq.specs.splitting.Split.{split_of}
use Rattle.jh_seq.specs.counting.Goals.{Weights, goals, ones}
use Rattle.jh_seq.specs.counting.Counted.{counted}
use Rattle.jh_obligations.specs.jh_guard.Frames.{same_static, same_read, frame_fact, frame_facts}
use Rattle.jh_obligations.specs.jh_guard.Items.{items, sorted_item}
use Rattle.jh_obligations.specs.jh_guard.Methods.{method_command, entry_commands, end_commands, assume_requires, post_formula}
use Rattle.jh_obligations.specs.jh_guard.Statements.{stmts_commands}
use Rattle.jh_obligations.specs.jh_guard.Steps.{fresh, assume_claims, mark_without_name, mark_of}
use Rattle.jh_obligations.specs.jh_guard.Writes.{Writes}
use Rattle.jh_gen_laws.specs.typing.Trees as trees
use Rattle.jh_gen_laws.specs.typing.Trees.{made_program, IsMethod, swaps, sums, cells, AreMethods, none, more, IsMade, made}
use Rattle.jh_gen_laws.specs.sequent_count.Laws.{MadeOwesFew}
use Rattle.jh_gen_laws.proofs.sequent_count.Cheap.{Light, ones-light, AllCheap, cheap-assume, cheap-leave, all-none, all-more, all-append, weaker, copies-cheap, sum_goals, joined-few, sum-append, sum-filter}
use Rattle.jh_gen_laws.proofs.sequent_count.Codes.{swap-cheap, sum-cheap, cells-cheap}
use Rattle.jh_gen_laws.proofs.sequent_count.Formulas.{opened-few}
use Rattle.jh_seq.proofs.counting.Backwards.{goals-wp}
use Rattle.jh_seq.proofs.counting.Lengths.{split-length}

-- ---- frame facts
module _ (u : Weights) (l : Light u) (b : Bool) where
  static-two : (kind : Kind) (x y : Name) → goals (same_static kind x y) u b ≤ 2
  unfolding goals
  static-two k.Obj x y = omega arith
  static-two k.Int x y = omega arith
  static-two k.Bool x y = omega (arith, l x b, l y b)
  static-two k.Set x y = omega arith

  read-two : (kind : Kind) (x y : Name) → goals (same_read kind x y) u b ≤ 2
  unfolding goals
  read-two k.Obj x y = omega arith
  read-two k.Int x y = omega arith
  read-two k.Bool x y = omega arith
  read-two k.Set x y = omega arith

  frame-two : (old : SetTree) (n : ℕ) (x : Member) → goals (frame_fact old n x) u b ≤ 2
  unfolding goals
  frame-two old n x = cond_both x.is_static _ _ (λ f. goals f u b ≤ 2) (λ _. static-two x.kind _ _) (λ _. read-two x.kind _ _)

sum-marks : (m : Mark) (fs : List FormulaTree) (u : Weights) → sum_goals (map (λ f. t.mark m f) fs) u false ≡ sum_goals fs u true
unfolding goals
sum-marks m [] u = refl
sum-marks m (f ∷ fs) u = ap (λ n. goals f u true + n) (sum-marks m fs u)

-- ---- a method of a made program
module _ (q1 q2 q3 q4 q5 q6 q7 q8 : Place) (ms : List MethodPart) (are : AreMethods 1 ms) (ws : Writes) (callee : Callee) where
  abbrev program : ProgramTree
  program = made_program q1 q2 q3 q4 q5 q6 q7 q8 ms

  abbrev code : Program
  code = program_of program

  few-members : length code.members ≡ 4
  unfolding members class_sets merged front_before rest_behind
  few-members = refl

  requires-cheap : (o : Option SpecPart) → AllCheap (assume_requires (option_map (claim_of program) o)) 0
  requires-cheap None = all-none
  requires-cheap (Some spec) = all-more _ [] 0 0 (cheap-assume _) all-none

  none-owed : (b : Bool) → cond {A = List Claim} b [] [] ≡ []
  none-owed true = refl
  none-owed false = refl

  entry-cheap : (x : Method) (o : Option SpecPart) → x.requires ≡ option_map (claim_of program) o → AllCheap (entry_commands code ws callee x) 0
  entry-cheap x o is =
      all-append _ _ 0 0
      (all-append _ _ 0 0 (all-more _ _ 0 0 (cheap-assume _) (subst (λ r. AllCheap (assume_requires r) 0) (sym is) (requires-cheap o))) (subst (λ cs. AllCheap (assume_claims cs) 0) (sym (none-owed x.is_public)) all-none))
      (copies-cheap (map sorted_item (items code)) 1)

  post-few : (q : Place) (o : Option Claim) (spec : SpecPart) → o ≡ Some (claim_of program spec) → (u : Weights) → Light u → goals (post_formula q o) u false ≤ 3
  unfolding goals
  post-few q o spec is u l = subst (λ o. goals (post_formula q o) u false ≤ 3) (sym is) (opened-few q1 q2 q3 q4 q5 q6 q7 q8 ms are spec.number u true l)

  frames-few : (x : Method) (u : Weights) → Light u → sum_goals (map (λ f. t.mark (mark_without_name kind.Frame x.place) f) (frame_facts code ws callee (t.free_set (fresh (codes "alloc") 1)) 1)) u false ≤ 8
  frames-few x u l =
      let old : SetTree = t.free_set (fresh (codes "alloc") 1) in
      let each = sum-filter (λ (y : Member). ws.written callee y.text && not (ws.modified callee y.text)) (frame_fact old 1) 2 code.members u true (frame-two u l true old 1) in
      omega (arith, sum-marks (mark_without_name kind.Frame x.place) (frame_facts code ws callee old 1) u, each, few-members)

  returned-few : (x : Method) (spec : SpecPart) → x.ensures ≡ Some (claim_of program spec) → (u : Weights) → Light u → goals (method_command code ws callee x).returned u false ≤ 20
  returned-few x spec is u l =
      let marked : Claim → FormulaTree = λ claim. t.mark (mark_of kind.Inv claim) claim.formula in
      let first = post_formula x.place x.ensures ∷ map marked (owed code x) in
      let frames = map (λ f. t.mark (mark_without_name kind.Frame x.place) f) (frame_facts code ws callee (t.free_set (fresh (codes "alloc") 1)) 1) in
      let invariants : sum_goals (map marked (owed code x)) u false ≡ 0 = ap (λ cs. sum_goals (map marked cs) u false) (none-owed x.is_public) in
      omega (arith, joined-few (first ++ frames) u false, sum-append first frames u false, post-few x.place x.ensures spec is u l, frames-few x u l, invariants)

  end-cheap : (x : Method) → AllCheap (end_commands code ws callee x) 0
  end-cheap x = cond_both (is_void x.result) (w.leave ∷ []) [] (λ cs. AllCheap cs 0) (λ _. all-more w.leave [] 0 0 cheap-leave all-none) (λ _. all-none)

  -- what a method with a cheap body owes
  owes-few : (x : Method) (o : Option SpecPart) (spec : SpecPart) (id : MethodId) (n : ℕ)
      → x.requires ≡ option_map (claim_of program) o → x.ensures ≡ Some (claim_of program spec) → AllCheap (stmts_commands code ws x.this x.params x.body 2) 3
      → length (split_of id (wp (method_command code ws callee x).body (method_command code ws callee x).returned (method_command code ws callee x).returned) n) ≤ 2000
  unfolding counted
  owes-few x o spec id n pre post cheap =
      let returned = (method_command code ws callee x).returned in
      let whole = (method_command code ws callee x).body in
      let goals_of : Weights → ℕ = λ u. goals returned u false in
      let all = all-append _ (end_commands code ws callee x) 3 0 (all-append (entry_commands code ws callee x) _ 0 3 (entry-cheap x o pre) cheap) (end-cheap x) in
      let few = all.adds goals_of goals_of ones 20 ones-light (returned-few x spec post) (returned-few x spec post) in
      let same : length (split_of id (wp whole returned returned) n) ≡ counted whole goals_of goals_of ones = split-length id (wp whole returned returned) None [] [] n ∙ goals-wp whole returned returned ones in
      omega (arith, same, few)

  method-owes : (c i : ℕ) (m : MethodPart) (id : MethodId) (n : ℕ) → IsMethod i m
      → length (split_of id (wp (method_command code ws callee (method_code program c m)).body (method_command code ws callee (method_code program c m)).returned (method_command code ws callee (method_code program c m)).returned) n) ≤ 2000
  method-owes c i _ id n (swaps f q a b e s1 s2 s3 s4 s5 s6 r1 r2 r3 r4 r5 r6 r7 end) =
      let post = trees.formula e f (trees.swap_post s1 s2 s3 s4 s5 s6) in
      let m : MethodPart = trees.static_void q i [] None (trees.word_at a (codes "a") ∷ trees.word_at b (codes "b") ∷ []) post (trees.swap_body r1 r2 r3 r4 r5 r6 r7) end in
      let x = method_code program c m in
      owes-few x None post id n refl refl (swap-cheap program code ws x.this x.params r1 r2 r3 r4 r5 r6 r7 (entry_scope program c m) 2)
  method-owes c i _ id n (sums f g k q a b s1 s2 e s3 s4 r1 r2 r3 end) =
      let pre = trees.formula a f (trees.at_most s1 0 s2) in
      let post = trees.formula e g (trees.at_most s3 k s4) in
      let m : MethodPart = trees.static_void q i [] (Some pre) (trees.word_at b (codes "n") ∷ []) post (trees.sum_body r1 r2 r3 k) end in
      let x = method_code program c m in
      owes-few x (Some pre) post id n refl refl (weaker _ 1 3 (sum-cheap program code ws x.this x.params r1 r2 r3 k (entry_scope program c m) 2) (omega arith))
  method-owes c i _ id n (cells f g k q p1 p2 p3 p4 a t1 t2 t3 t4 t5 t6 b e s1 s2 s3 s4 s5 s6 r1 r2 r3 r4 r5 r6 end) =
      let pre = trees.formula a f (trees.cells_pre t1 t2 t3 t4 t5 t6) in
      let post = trees.formula e g (trees.cells_post s1 s2 s3 s4 s5 s6 k) in
      let m : MethodPart = trees.static_void q i (trees.cells_params p1 p2 p3 p4) (Some pre) (trees.word_at b (codes "Cell.f") ∷ []) post (trees.cells_body r1 r2 r3 r4 r5 r6 k) end in
      let x = method_code program c m in
      owes-few x (Some pre) post id n refl refl (weaker _ 2 3 (cells-cheap program code ws x.this x.params r1 r2 r3 r4 r5 r6 k (entry_scope program c m) 2) (omega arith))

-- ---- which methods there are

same-some : {A : Type 0} (a b : A) → Some a ≡ Some b → a ≡ b
same-some a b e = ap (λ o. option_map_or (λ x. x) o a) e

abbrev FromMade : Option MethodPart → Type 0
FromMade o = (m : MethodPart) → o ≡ Some m → (i : ℕ) × IsMethod i m

found-method : (name : List ℕ) (xs : List MethodPart) (i : ℕ) → AreMethods i xs → FromMade (method_in name xs)
unfolding method_in
found-method name [] i none = λ m e. absurd (none-some m e)
found-method name (x ∷ xs) i (more is rest) = cond_both (same_text (text_of x.name) name) (Some x) (method_in name xs) FromMade (λ _ m e. (i, subst (IsMethod i) (same-some x m e) is)) (λ _. found-method name xs (suc i) rest)

part-made : (q1 q2 q3 q4 q5 q6 q7 q8 : Place) (ms : List MethodPart) → AreMethods 1 ms → (c : ℕ) (name : List ℕ) → FromMade (part_of (made_program q1 q2 q3 q4 q5 q6 q7 q8 ms) (record { class = c; name = name }))
unfolding method_in
part-made q1 q2 q3 q4 q5 q6 q7 q8 ms are zero name = λ m e. absurd (none-some m e)
part-made q1 q2 q3 q4 q5 q6 q7 q8 ms are (suc zero) name = found-method name ms 1 are
part-made q1 q2 q3 q4 q5 q6 q7 q8 ms are (suc (suc c)) name = λ m e. absurd (none-some m e)

mapped-some : {A B : Type 0} (f : A → B) (o : Option A) (x : B) → option_map f o ≡ Some x → (y : A) × (o ≡ Some y) × (f y ≡ x)
mapped-some f None x e = absurd (none-some _ e)
mapped-some f (Some y) x e = (y, refl, same-some (f y) x e)

pub made-owes-few : MadeOwesFew
made-owes-few n _ ws callee x id k (made q1 q2 q3 q4 q5 q6 q7 q8 ms count are) there =
    let p = made_program q1 q2 q3 q4 q5 q6 q7 q8 ms in
    let found = mapped-some (method_code p callee.class) (part_of p callee) x there in
    let is = part-made q1 q2 q3 q4 q5 q6 q7 q8 ms are callee.class callee.name found.0 found.1 in
    subst (λ y. length (split_of id (wp (method_command (program_of p) ws callee y).body (method_command (program_of p) ws callee y).returned (method_command (program_of p) ws callee y).returned) k) ≤ 2000)
    found.2 (method-owes q1 q2 q3 q4 q5 q6 q7 q8 ms are ws callee callee.class is.0 found.0 id k is.1)
