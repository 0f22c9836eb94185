-- Filled tables say what the program declares.
use Rattle.std.proofs.Common.{◌≡◌, refl, sym, ap, subst, ◌∙◌, ℕ, zero, suc, ◌+◌, ◌≤◌, ◌==◌, Bool, true, false, List, [], ◌∷◌, map, Option, Some, None, option_map, slice_get, if◌then◌else◌, arith}
use Rattle.std.specs.Option.{option_map_or}
use Rattle.std.proofs.lemmas.Bool.{true≢false}
use Rattle.std.proofs.lemmas.Bool.Decides.{nat_tests}
use Rattle.indexmap.specs.IndexMap.{get_by_text}
use Rattle.jh_ast.specs.declared.program.Program.{Program}
use Rattle.jh_ast.specs.Bare.{class_part, program_tree}
use Rattle.jh_ast.specs.Programs.{ProgramTree, ClassPart}
use Rattle.jh_rules.specs.declared.entries.StateEntry.{StateEntry}
use Rattle.jh_rules.specs.Names.{MemberPart, members_of, first_named, number_of, field_from, method_from, state_from, state_in, states_from, the_only, declared_in, ◌then◌}
use Rattle.jh_rules.specs.Names as n
use Rattle.jh_symbols.specs.declared.scopes.looking.Lookups.{Lookups}
use Rattle.jh_symbols.specs.declared.scopes.looking.Member.{Member}
use Rattle.jh_symbols.specs.declared.scopes.looking.Members.{Members}
use Rattle.jh_symbols.specs.scopes.Lookings.{declared_by, member_by, only_of}
use Rattle.jh_symbols.specs.scopes.Lookings as looks
use Rattle.jh_symbols.specs.declarations.Entries.{entry_of, AreTables}
use Rattle.jh_symbols.specs.declarations.States.{lower, first_of, last_of}
use Rattle.jh_symbols.specs.declarations.Filling.{Filled}

module _ (numbers : List ℕ → Option ℕ) where
  member-at : (k : ℕ) (ts : List Members) (cs : List ClassPart) (i : ℕ) (x : List ℕ) → AreTables numbers k ts cs → (slice_get ts i then λ (m : Members). get_by_text m.names x) ≡ (slice_get cs i then λ d. option_map (entry_of numbers (k + i) d.defs) (first_named x (members_of d)))
  member-at k [] [] i x h = refl
  member-at k [] (d ∷ cs) i x h = absurd h
  member-at k (u ∷ ts) [] i x h = absurd h
  member-at k (u ∷ ts) (d ∷ cs) zero x h =
      let same : k ≡ k + 0 = omega arith in
      h.0 x ∙ ap (λ q. option_map (entry_of numbers q d.defs) (first_named x (members_of d))) same
  member-at k (u ∷ ts) (d ∷ cs) (suc i) x h =
      let same : k + 1 + i ≡ k + suc i = omega arith in
      member-at (k + 1) ts cs i x h.1 ∙ ap (λ q. slice_get cs i then λ b. option_map (entry_of numbers q b.defs) (first_named x (members_of b))) same

member-zero : (p : ProgramTree) (ts : List Members) (cs : List ClassPart) (i : ℕ) (x : List ℕ) → AreTables (number_of p) 0 ts cs → (slice_get ts i then λ (m : Members). get_by_text m.names x) ≡ (slice_get cs i then λ d. option_map (entry_of (number_of p) i d.defs) (first_named x (members_of d)))
member-zero p ts cs i x h =
    let same : 0 + i ≡ i = omega arith in
    member-at (number_of p) 0 ts cs i x h ∙ ap (λ q. slice_get cs i then λ d. option_map (entry_of (number_of p) q d.defs) (first_named x (members_of d))) same

module _ (p : ProgramTree) where
  abbrev entry : ℕ → ClassPart → List ℕ → Option Member
  entry c d x = option_map (entry_of (number_of p) c d.defs) (first_named x (members_of d))

  field-one : (c : ℕ) (d : ClassPart) (o : Option MemberPart) → (option_map (entry_of (number_of p) c d.defs) o then looks.field_in) ≡ field_from p o
  field-one c d None = refl
  field-one c d (Some (n.field x)) = refl
  field-one c d (Some (n.method m)) = refl
  field-one c d (Some (n.var v)) = refl

  field-same : (c : ℕ) (x : List ℕ) (o : Option ClassPart) → ((o then λ d. entry c d x) then looks.field_in) ≡ field_from p (o then λ d. first_named x (members_of d))
  field-same c x None = refl
  field-same c x (Some d) = field-one c d (first_named x (members_of d))

  method-one : (c : ℕ) (d : ClassPart) (o : Option MemberPart) → (option_map (entry_of (number_of p) c d.defs) o then looks.method_in) ≡ method_from p o
  method-one c d None = refl
  method-one c d (Some (n.field x)) = refl
  method-one c d (Some (n.method m)) = refl
  method-one c d (Some (n.var v)) = refl

  method-same : (c : ℕ) (x : List ℕ) (o : Option ClassPart) → ((o then λ d. entry c d x) then looks.method_in) ≡ method_from p (o then λ d. first_named x (members_of d))
  method-same c x None = refl
  method-same c x (Some d) = method-one c d (first_named x (members_of d))

  state-one : (c : ℕ) (d : ClassPart) (o : Option MemberPart) → (option_map (entry_of (number_of p) c d.defs) o then looks.state_in) ≡ state_from p d c o
  state-one c d None = refl
  state-one c d (Some (n.field x)) = refl
  state-one c d (Some (n.method m)) = refl
  state-one c d (Some (n.var v)) = refl

  state-same : (c : ℕ) (x : List ℕ) (o : Option ClassPart) → ((o then λ d. entry c d x) then looks.state_in) ≡ (o then state_in p c x)
  state-same c x None = refl
  state-same c x (Some d) = state-one c d (first_named x (members_of d))

  -- the one state of a name
  abbrev IsFrom : ℕ → Option StateEntry → Type 0
  IsFrom k None = Unit {0}
  IsFrom k (Some u) = k ≤ u.class

  abbrev class_or : ℕ → Option StateEntry → ℕ
  class_or k o = option_map_or (λ (s : StateEntry). s.class) o k

  class-one : (c : ℕ) (d : ClassPart) (o : Option MemberPart) → class_or c (state_from p d c o) ≡ c
  class-one c d None = refl
  class-one c d (Some (n.field x)) = refl
  class-one c d (Some (n.method m)) = refl
  class-one c d (Some (n.var v)) = refl

  weaker : (k : ℕ) (o : Option StateEntry) → IsFrom (k + 1) o → IsFrom k o
  weaker k None h = tt
  weaker k (Some u) h = omega arith

  lower-from : (k : ℕ) (s : StateEntry) (o : Option StateEntry) → s.class ≡ k → IsFrom (k + 1) o → IsFrom k (lower (Some s) o)
  lower-from k s None e h = omega arith
  lower-from k s (Some u) e h = omega arith

  last-more : (k : ℕ) (o : Option StateEntry) (ss : List StateEntry) → class_or k o ≡ k → IsFrom (k + 1) (last_of ss) → IsFrom k (last_of (option_map_or (λ s. s ∷ ss) o ss))
  unfolding last_of
  last-more k None ss e h = weaker k (last_of ss) h
  last-more k (Some s) ss e h = lower-from k s (last_of ss) e h

  last-from : (k : ℕ) (x : List ℕ) (cs : List ClassPart) → IsFrom k (last_of (states_from p k x cs))
  unfolding states_from last_of
  last-from k x [] = tt
  last-from k x (c ∷ cs) = last-more k (state_in p k x c) (states_from p (k + 1) x cs) (class-one k c (first_named x (members_of c))) (last-from (k + 1) x cs)

  eq-self : (m : ℕ) → (m == m) ≡ true
  eq-self m = grind (arith, nat_tests)

  not-eq : (k a b : ℕ) → a ≡ k → k + 1 ≤ b → (a == b) ≡ false
  not-eq k a b e h = grind (arith, nat_tests)

  if-one : (s : StateEntry) (b : Bool) → b ≡ true → (if b then Some s else None) ≡ Some s
  if-one s true e = refl
  if-one s false e = absurd (true≢false (sym e))

  if-none : (s : StateEntry) (b : Bool) → b ≡ false → (if b then Some s else None) ≡ None
  if-none s true e = absurd (true≢false e)
  if-none s false e = refl

  later-one : (k : ℕ) (s t : StateEntry) (o : Option StateEntry) → s.class ≡ k → IsFrom (k + 1) (lower (Some t) o) → only_of (Some s) (lower (Some s) (lower (Some t) o)) ≡ None
  later-one k s t None e h = if-none s (s.class == t.class) (not-eq k s.class t.class e h)
  later-one k s t (Some u) e h = if-none s (s.class == u.class) (not-eq k s.class u.class e h)

  one-more : (k : ℕ) (s : StateEntry) (ss : List StateEntry) → s.class ≡ k → IsFrom (k + 1) (last_of ss) → only_of (first_of (s ∷ ss)) (last_of (s ∷ ss)) ≡ the_only p (s ∷ ss)
  unfolding last_of
  one-more k s [] e h = if-one s (s.class == s.class) (eq-self s.class)
  one-more k s (t ∷ ss) e h = later-one k s t (last_of ss) e h

  only-more : (k : ℕ) (o : Option StateEntry) (ss : List StateEntry) → class_or k o ≡ k → IsFrom (k + 1) (last_of ss) → only_of (first_of ss) (last_of ss) ≡ the_only p ss → only_of (first_of (option_map_or (λ s. s ∷ ss) o ss)) (last_of (option_map_or (λ s. s ∷ ss) o ss)) ≡ the_only p (option_map_or (λ s. s ∷ ss) o ss)
  only-more k None ss e h same = same
  only-more k (Some s) ss e h same = one-more k s ss e h

  only-is : (k : ℕ) (x : List ℕ) (cs : List ClassPart) → only_of (first_of (states_from p k x cs)) (last_of (states_from p k x cs)) ≡ the_only p (states_from p k x cs)
  unfolding states_from last_of
  only-is k x [] = refl
  only-is k x (c ∷ cs) = only-more k (state_in p k x c) (states_from p (k + 1) x cs) (class-one k c (first_named x (members_of c))) (last-from (k + 1) x cs) (only-is (k + 1) x cs)

pub declares : (t : Lookups) (program : Program) → Filled t (map class_part program.classes) → declared_by t ≡ declared_in (program_tree program)
unfolding program_tree
declares t program h =
    let p = program_tree program in
    let cs = map class_part program.classes in
    let tables : AreTables (number_of p) 0 t.members.items cs = subst (λ f. AreTables f 0 t.members.items cs) (λ i x. h.numbers x i) h.tables in
    let member : (c : ℕ) (x : List ℕ) → member_by t c x ≡ (slice_get cs c then λ d. option_map (entry_of (number_of p) c d.defs) (first_named x (members_of d))) = λ c x. member-zero p t.members.items cs c x tables in
    λ i. record {
      class_named = λ x. h.numbers x i;
      field_of = λ c x. (ap (λ o. o then looks.field_in) (member c x) ∙ field-same p c x (slice_get cs c)) i;
      method_of = λ c x. (ap (λ o. o then looks.method_in) (member c x) ∙ method-same p c x (slice_get cs c)) i;
      state_of = λ c x. (ap (λ o. o then looks.state_in) (member c x) ∙ state-same p c x (slice_get cs c)) i;
      only_state = λ x. ((λ j. only_of (h.firsts p tables x j) (h.lasts p tables x j)) ∙ only-is p 0 x cs) i;
      is_invariant = λ x. h.labels x i;
    }
