-- A made program breaks no rule, and no variable of it is cyclic.
use Rattle.std.proofs.Common.{◌≡◌, inl, inr, ℕ, zero, suc, ◌+◌, ◌≤◌, Bool, false, ◌||◌, List, [], ◌∷◌, ◌++◌, map, length, None, refl, ap, sym, subst, ◌∙◌, arith, append_assoc, append-nil, length-append, codes}
use Rattle.std.specs.List.{list_any, flat_map, Contains}
use Rattle.std.specs.Option.{option_map_or}
use Rattle.std.proofs.lemmas.Bool.{and_left, or_from}
use Rattle.std.proofs.lemmas.List.Folds.{list_any-append}
use Rattle.std.proofs.lemmas.List.{map-append}
use Rattle.jh_name.specs.declared.place.Place.{Place}
use Rattle.jh_ast.specs.declared.word.Word.{Word}
use Rattle.jh_ast.specs.Programs.{ProgramTree, ClassPart, MethodPart, DefPart}
use Rattle.jh_rules.specs.declared.fault.Fault.{Fault}
use Rattle.jh_rules.specs.Faults.{broken}
use Rattle.jh_rules.specs.Words.{is_one_of, same_text, used_before, text_of}
use Rattle.jh_rules.specs.Names.{MemberPart, method, member_word, members_of, declared_in, def_in, def_of, class_from}
use Rattle.jh_rules.specs.Rules.{rule_2, rule_6_member}
use Rattle.jh_rules.specs.Statements.{method_faults, class_faults, classes_faults}
use Rattle.jh_rules.specs.Breaks.{faults_of, Breaks}
use Rattle.jh_vars.specs.States.{State, Variable}
use Rattle.jh_vars.specs.Reading.{reads, definition_reads, Reads, directly, through}
use Rattle.jh_gen_laws.specs.typing.Laws.{MadeIsTyped, MadeIsAcyclic}
use Rattle.jh_gen_laws.specs.typing.Trees.{name_of, word_at, cell_class, gen_class, made_program, IsMethod, AreMethods, none, more, IsMade, made}
use Rattle.jh_gen_laws.proofs.typing.Names.{name-is, not-before, stands_before, itself, words, no-such-name, no-such-number}
use Rattle.jh_gen_laws.proofs.typing.Methods.{method-fine}

-- ---- names

nothing-broken : (rule : ℕ) (q : Place) (b : Bool) → b ≡ false → broken rule q b ≡ []
nothing-broken rule q b e = ap (broken rule q) e

abbrev name_faults : ClassPart → MemberPart → List Fault
name_faults c x = rule_2 c (member_word x) ++ rule_6_member (member_word x)

join-methods : (a b : ℕ) (xs ys : List MethodPart) → AreMethods a xs → a + length xs ≡ b → AreMethods b ys → AreMethods a (xs ++ ys)
join-methods a b [] ys none e more_ys = subst (λ n. AreMethods n ys) (sym (e')) more_ys
  where
    e' : a ≡ b
    e' = omega (arith, e)
join-methods a b (x ∷ xs) ys (more is rest) e more_ys = more is (join-methods (suc a) b xs ys rest (omega (arith, e)) more_ys)

module _ (q3 q4 q5 q6 q7 q8 : Place) where
  abbrev class_with : List MethodPart → ClassPart
  class_with ms = gen_class q3 q4 q5 q6 q7 q8 ms

  -- a method's own name, where the methods are these before it and these behind it
  own-name : (before : List MethodPart) (m : MethodPart) (after : List MethodPart) (i : ℕ) → AreMethods 1 before → 1 + length before ≡ i → IsMethod i m → AreMethods (suc i) after → i + length after ≤ 299 → name_faults (class_with (before ++ m ∷ after)) (method m) ≡ []
  own-name before m after i are count is rest few =
      let w = m.name in
      let named = name-is i m is in
      let statics : (x : List ℕ) (q : Place) → same_text x (name_of i) ≡ false → stands_before w (word_at q x) ≡ false = λ x q e. and_left _ _ (ap (same_text x) named ∙ e) in
      let methods : list_any (stands_before w) (words (before ++ m ∷ after)) ≡ false =
      ap (list_any (stands_before w)) (ap (map member_word) (map-append method before (m ∷ after)) ∙ map-append member_word (map method before) (map method (m ∷ after)))
      ∙ list_any-append (stands_before w) (words before) (words (m ∷ after))
      ∙ or_from _ _ (no-such-number w i 1 before named (omega arith) (omega (arith, count)) (inr (omega (arith, count))) are)
      (or_from _ _ (itself w) (no-such-number w i (suc i) after named (omega arith) (omega arith) (inl (omega arith)) rest)) in
      let all : used_before (map member_word (members_of (class_with (before ++ m ∷ after)))) w ≡ false =
      or_from _ _ (statics (codes "a") q5 refl) (or_from _ _ (statics (codes "b") q7 refl) (or_from _ _ (statics (codes "n") q8 refl)
      (ap (λ xs. list_any (stands_before w) (map member_word xs)) (append-nil (map method (before ++ m ∷ after))) ∙ methods))) in
      let free : is_one_of (text_of w) (codes "result" ∷ codes "alloc" ∷ []) ≡ false = ap (λ t. is_one_of t (codes "result" ∷ codes "alloc" ∷ [])) named in
      λ j. nothing-broken 2 w.place _ all j ++ nothing-broken 6 w.place _ free j

  own-names : (before after : List MethodPart) (i : ℕ) → AreMethods 1 before → 1 + length before ≡ i → AreMethods i after → i + length after ≤ 300 → flat_map (name_faults (class_with (before ++ after))) (map method after ++ []) ≡ []
  own-names before [] i are count none few = refl
  own-names before (m ∷ after) i are count (more is rest) few =
      let all = sym (append_assoc before (m ∷ []) after) in
      let one = own-name before m after i are count is rest (omega arith) in
      let others = own-names (before ++ m ∷ []) after (suc i) (join-methods 1 i before (m ∷ []) are count (more is none)) (omega (arith, count, length-append before (m ∷ []))) rest (omega arith) in
      λ j. one j ++ (ap (λ xs. flat_map (name_faults (class_with xs)) (map method after ++ [])) all ∙ others) j

-- ---- the whole program
module _ (q1 q2 q3 q4 q5 q6 q7 q8 : Place) (ms : List MethodPart) (are : AreMethods 1 ms) (few : length ms ≤ 200) where
  abbrev program : ProgramTree
  program = made_program q1 q2 q3 q4 q5 q6 q7 q8 ms

  methods-fine : (i : ℕ) (xs : List MethodPart) → AreMethods i xs → flat_map (method_faults (declared_in program) 1) xs ≡ []
  methods-fine i [] none = refl
  methods-fine i (m ∷ xs) (more is rest) = λ j. method-fine q1 q2 q3 q4 q5 q6 q7 q8 ms are i m is j ++ methods-fine (suc i) xs rest j

  static-name : (w : Word) → ((i : ℕ) → same_text (name_of i) (text_of w) ≡ false) → list_any (stands_before w) (map member_word (map method ms ++ [])) ≡ false
  static-name w other = ap (λ xs. list_any (stands_before w) (map member_word xs)) (append-nil (map method ms)) ∙ no-such-name w 1 ms other are

  cell-fine : class_faults (declared_in program) program 0 (cell_class q1 q2) ≡ []
  unfolding class_faults class_from
  cell-fine = λ j. broken 1 q1 ((not-before q1 j || false) || false) ++ ((broken 2 q2 (not-before q2 j || false) ++ []) ++ []) ++ [] ++ [] ++ [] ++ [] ++ [] ++ []

  gen-fine : class_faults (declared_in program) program 1 (gen_class q3 q4 q5 q6 q7 q8 ms) ≡ []
  unfolding class_faults class_from
  gen-fine = λ j.
      broken 1 q3 ((not-before q3 j || false) || false)
      ++ ((broken 2 q5 (not-before q5 j || static-name (word_at q5 (codes "a")) (λ i. refl) j) ++ [])
      ++ ((broken 2 q7 (not-before q7 j || static-name (word_at q7 (codes "b")) (λ i. refl) j) ++ [])
      ++ ((broken 2 q8 (not-before q8 j || static-name (word_at q8 (codes "n")) (λ i. refl) j) ++ [])
      ++ own-names q3 q4 q5 q6 q7 q8 [] ms 1 none (omega arith) are (omega arith) j)))
      ++ [] ++ [] ++ [] ++ [] ++ [] ++ methods-fine 1 ms are j

  program-fine : faults_of program ≡ []
  unfolding classes_faults
  program-fine = λ j. cell-fine j ++ (gen-fine j ++ [])

nothing-there : {A : Type 0} (xs : List A) (x : A) → xs ≡ [] → Contains xs x → ⊥
nothing-there xs x e c = omega (arith, ap length e, c.1)

pub made-is-typed : MadeIsTyped
made-is-typed n p small is rule place breaks = by p is small breaks
  where
    by : (p : ProgramTree) → IsMade n p → n ≤ 200 → Breaks p rule place → ⊥
    by _ (made q1 q2 q3 q4 q5 q6 q7 q8 ms count are) few b = nothing-there _ _ (program-fine q1 q2 q3 q4 q5 q6 q7 q8 ms are (omega (arith, count, few))) b

no-definition : (q1 q2 q3 q4 q5 q6 q7 q8 : Place) (ms : List MethodPart) (c : ℕ) (x : List ℕ) → def_of (made_program q1 q2 q3 q4 q5 q6 q7 q8 ms) c x ≡ None
unfolding def_in
no-definition q1 q2 q3 q4 q5 q6 q7 q8 ms zero x = refl
no-definition q1 q2 q3 q4 q5 q6 q7 q8 ms (suc zero) x = refl
no-definition q1 q2 q3 q4 q5 q6 q7 q8 ms (suc (suc c)) x = refl

reads-nothing : (n : ℕ) (p : ProgramTree) → IsMade n p → (v : Variable) → definition_reads p v ≡ []
reads-nothing n _ (made q1 q2 q3 q4 q5 q6 q7 q8 ms count are) v =
    ap (λ o. option_map_or (λ (d : DefPart). reads (declared_in (made_program q1 q2 q3 q4 q5 q6 q7 q8 ms)) d.spec.form v.class []) o []) (no-definition q1 q2 q3 q4 q5 q6 q7 q8 ms v.class v.name)

no-reads : (n : ℕ) (p : ProgramTree) → IsMade n p → (v : Variable) (y : State) → Reads p v y → ⊥
no-reads n p is _ _ (directly v y c) = nothing-there _ _ (reads-nothing n p is v) c
no-reads n p is _ _ (through v y z c r) = nothing-there _ _ (reads-nothing n p is v) c

pub made-is-acyclic : MadeIsAcyclic
made-is-acyclic n p is v cyclic = no-reads n p is v cyclic.read cyclic.reads
