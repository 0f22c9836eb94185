-- Where the names of classes and members stand: at places of their own.
use Rattle.std.proofs.Common.{◌≡◌, refl, sym, ap, subst, ◌∙◌, ◌⊎◌, inl, inr, ⊎_elim, ℕ, zero, suc, ◌+◌, ◌<◌, ◌≤◌, Bool, true, false, List, [], ◌∷◌, ◌++◌, map, Option, Some, slice_get, arith}
use Rattle.std.specs.List.{Contains, flat_map}
use Rattle.std.proofs.lemmas.Bool.{false≢true}
use Rattle.std.proofs.lemmas.Grind.{flat_map-append}
use Rattle.std.proofs.lemmas.List.Elements.{Contains-append_cases}
use Rattle.jh_name.specs.declared.place.Place.{Place}
use Rattle.jh_lex.specs.lexer.Rising.{IsBefore, Rises}
use Rattle.jh_lex.specs.declared.lexer.symbol.Symbol.{Symbol}
use Rattle.jh_lex.specs.declared.lexer.symbol.Symbol.TheVariants as symbol
use Rattle.jh_lex.specs.declared.lexer.token.Token.{Token}
use Rattle.jh_lex.specs.declared.lexer.token.TokenKind.{TokenKind}
use Rattle.jh_lex.specs.declared.lexer.token.TokenKind.TheVariants as kind
use Rattle.jh_ast.specs.declared.word.Word.{Word}
use Rattle.jh_ast.specs.declared.word.JType.{JType}
use Rattle.jh_ast.specs.declared.word.Param.{Param}
use Rattle.jh_ast.specs.Forms.{SpecPart}
use Rattle.jh_ast.specs.Programs.{FieldPart, VarPart, MethodPart, ClassPart}
use Rattle.jh_rules.specs.Names.{MemberPart, field, method, var, member_word, members_of}
use Rattle.jh_operators.specs.lookahead.Lists.{Many, none, more}
use Rattle.jh_operators.specs.lookahead.Modifiers.{has}
use Rattle.jh_operators.specs.lookahead.Standing.{place_at, word_at}
use Rattle.jh_operators.proofs.lookahead.Modified.{modifiers-end}
use Rattle.jh_spec.specs.parser.Parts.{Item, ItemTree, Items}
use Rattle.jh_spec.specs.parser.Parts as part
use Rattle.jh_parse.proofs.statements.Ends.{typed-end, body-end}
use Rattle.jh_parse.specs.programs.Separated.{Separated}
use Rattle.jh_parse.specs.programs.Separated as separated
use Rattle.jh_parse.specs.programs.Members.{One, Fields, Result, Parameter, Parameters, Promised, Method, Member, MemberTree, Heads, Class, Spells, of_fields, of_method, of_items, fields_of, methods_of, items_of, variables_of, class_of}
use Rattle.jh_parse.specs.programs.Members as grammar
use Rattle.jh_parse.proofs.programs.PartEnds.{clause-end, declared-end, item-end, contracted-end}
use Rattle.jh_logic.proofs.source.Lists.{has-none, has-first, has-later, has-cases, map-from, map-has, flat-from, flat-has, some-same, no-none}
use Rattle.jh_logic.specs.text.Laws.{SpelledIsPlaced, SpelledIsWritten, IsWordOf, AreOnce, field_name, var_name, IsWritten}
use Rattle.jh_logic.proofs.text.Tokens.{word-token}

-- what a specification and a member declare
abbrev item_members : ItemTree → List MemberPart
item_members x = map var (variables_of x)

abbrev tree_members : MemberTree → List MemberPart
tree_members (of_fields fs) = map field fs
tree_members (of_method x) = method x ∷ []
tree_members (of_items xs) = flat_map item_members xs

-- two places of which one is before the other differ
not-before : (p q : Place) → IsBefore p q → p ≡ q → ⊥
not-before p q (inl l) e = earlier-line (ap (λ (x : Place). x.line) e) l
  where
    earlier-line : p.line ≡ q.line → p.line < q.line → ⊥
    earlier-line e l = omega (e, l, arith)
not-before p q (inr s) e = earlier-column (ap (λ (x : Place). x.column) e) s.1
  where
    earlier-column : p.column ≡ q.column → p.column < q.column → ⊥
    earlier-column e l = omega (e, l, arith)

no-close : (k : TokenKind) (w : Word) → k ≡ kind.Word w.text → k ≡ kind.SpecClose → ⊥
no-close k w e h = false≢true (ap closes (sym e ∙ h))
  where
    closes : TokenKind → Bool
    closes kind.SpecClose = true
    closes _ = false

order : (i j : ℕ) → (i < j) ⊎ ((j < i) ⊎ (i ≡ j))
order zero zero = inr (inr refl)
order zero (suc j) = inl (omega arith)
order (suc i) zero = inr (inl (omega arith))
order (suc i) (suc j) = next (order i j)
  where
    next : (i < j) ⊎ ((j < i) ⊎ (i ≡ j)) → (suc i < suc j) ⊎ ((suc j < suc i) ⊎ (suc i ≡ suc j))
    next (inl l) = inl (omega arith)
    next (inr (inl l)) = inr (inl (omega arith))
    next (inr (inr e)) = inr (inr (ap suc e))

-- lists of which no thing stands at the place of one of the other list
append-once : {A : Type 0} (word : A → Word) (xs ys : List A) → AreOnce word xs → AreOnce word ys → ((a b : A) → Contains xs a → Contains ys b → (word b).place ≡ (word a).place → ⊥) → AreOnce word (xs ++ ys)
unfolding AreOnce
append-once word [] ys a b f = b
append-once word (x ∷ xs) ys a b f = (
  λ y i e. ⊎_elim (λ h. a.0 y h e) (λ h. f x y (has-first x xs) h e) (Contains-append_cases xs ys y i),
  append-once word xs ys a.1 b (λ c d i j. f c d (has-later x xs c i) j),
)

none-once : {A : Type 0} (word : A → Word) → AreOnce word []
unfolding AreOnce
none-once word = tt

one-once : {A : Type 0} (word : A → Word) (x : A) → AreOnce word (x ∷ [])
unfolding AreOnce
one-once word x = (λ y i. absurd (has-none y i), tt)

module _ (ts : List Token) (rises : Rises ts) where
  -- words at two indexes have two places
  apart : (i j : ℕ) (v w : Word) → i < j → word_at ts i ≡ Some v → word_at ts j ≡ Some w → v.place ≡ w.place → ⊥
  apart i j v w lt a b e =
      let s = word-token ts i v a in
      let t = word-token ts j w b in
      ⊎_elim (λ h. not-before s.token.place t.token.place h (sym s.place ∙ e ∙ t.place)) (λ h. no-close s.token.kind v s.kind h.closes) (rises i j s.token t.token lt s.stands t.stands)

  -- so words at one place have one index
  same-index : (i j : ℕ) (v w : Word) → word_at ts i ≡ Some v → word_at ts j ≡ Some w → v.place ≡ w.place → i ≡ j
  same-index i j v w a b e = by (order i j)
    where
      by : (i < j) ⊎ ((j < i) ⊎ (i ≡ j)) → i ≡ j
      by (inl l) = absurd (apart i j v w l a b e)
      by (inr (inl l)) = absurd (apart j i w v l b a (sym e))
      by (inr (inr s)) = s

  -- a word stands among the tokens from one index on and below another
  record Sits (i j : ℕ) (w : Word) : Type 0 where
    at : ℕ
    from : i ≤ at
    below : at < j
    is : word_at ts at ≡ Some w

  wider : (i j k l : ℕ) (w : Word) → k ≤ i → j ≤ l → Sits i j w → Sits k l w
  wider i j k l w a b s = record { at = s.at; from = down k i s.at a s.from; below = up s.at j l s.below b; is = s.is }
    where
      down : (k i n : ℕ) → k ≤ i → i ≤ n → k ≤ n
      down k i n a b = omega (a, b, arith)

      up : (n j l : ℕ) → n < j → j ≤ l → n < l
      up n j l a b = omega (a, b, arith)

  -- things whose words stand there, no two at one place
  record AreApart {A : Type 0} (word : A → Word) (i j : ℕ) (xs : List A) : Type 0 where
    goes : i ≤ j
    sit : (a : A) → Contains xs a → Sits i j (word a)
    once : (a b : A) → Contains xs a → Contains xs b → (word a).place ≡ (word b).place → a ≡ b
    each : AreOnce word xs

  module _ {A : Type 0} (word : A → Word) where
    none-apart : (i j : ℕ) → i ≤ j → AreApart word i j []
    none-apart i j l = record { goes = l; sit = λ a h. absurd (has-none a h); once = λ a b h k e. absurd (has-none a h); each = none-once word }

    one-apart : (i j k : ℕ) (x : A) → i ≤ k → k < j → word_at ts k ≡ Some (word x) → AreApart word i j (x ∷ [])
    one-apart i j k x l m e = record {
      goes = weak i k j l m;
      sit = λ a h. subst (λ (y : A). Sits i j (word y)) (only a h) (record { at = k; from = l; below = m; is = e });
      once = λ a b h g e. sym (only a h) ∙ only b g;
      each = one-once word x;
    }
      where
        weak : (i k j : ℕ) → i ≤ k → k < j → i ≤ j
        weak i k j a b = omega (a, b, arith)

        only : (a : A) → Contains (x ∷ []) a → x ≡ a
        only a h = ⊎_elim (λ s. s) (λ g. absurd (has-none a g)) (has-cases x [] a h)

    both-apart : (i k j : ℕ) (xs ys : List A) → AreApart word i k xs → AreApart word k j ys → AreApart word i j (xs ++ ys)
    both-apart i k j xs ys f g = record {
      goes = through i k j f.goes g.goes;
      sit = λ a h. ⊎_elim (λ l. wider i k i j (word a) (omega arith) g.goes (f.sit a l)) (λ l. wider k j i j (word a) f.goes (omega arith) (g.sit a l)) (Contains-append_cases xs ys a h);
      once = λ a b h l e. ⊎_elim
          (λ p. ⊎_elim (λ q. f.once a b p q e) (λ q. absurd (across a b (f.sit a p) (g.sit b q) e)) (Contains-append_cases xs ys b l))
          (λ p. ⊎_elim (λ q. absurd (across b a (f.sit b q) (g.sit a p) (sym e))) (λ q. g.once a b p q e) (Contains-append_cases xs ys b l))
          (Contains-append_cases xs ys a h);
      each = append-once word xs ys f.each g.each (λ a b h l e. across a b (f.sit a h) (g.sit b l) (sym e));
    }
      where
        through : (i k j : ℕ) → i ≤ k → k ≤ j → i ≤ j
        through i k j a b = omega (a, b, arith)

        across : (a b : A) → Sits i k (word a) → Sits k j (word b) → (word a).place ≡ (word b).place → ⊥
        across a b s t e = later (s.at) (t.at) s.below t.from (same-index s.at t.at (word a) (word b) s.is t.is e)
          where
            later : (m n : ℕ) → m < k → k ≤ n → m ≡ n → ⊥
            later m n l h e = omega (l, h, e, arith)

    wide-apart : (i j k l : ℕ) (xs : List A) → k ≤ i → j ≤ l → AreApart word i j xs → AreApart word k l xs
    wide-apart i j k l xs a b f = record {
      goes = through k i j l a f.goes b;
      sit = λ x h. wider i j k l (word x) a b (f.sit x h);
      once = f.once;
      each = f.each;
    }
      where
        through : (k i j l : ℕ) → k ≤ i → i ≤ j → j ≤ l → k ≤ l
        through k i j l a b c = omega (a, b, c, arith)

  one-field : {t : JType} {fixed : Bool} (i : ℕ) {j : ℕ} (x : FieldPart) → One ts t fixed i x j → AreApart member_word i j (map field (x ∷ []))
  one-field i x (grammar.plain h) = one-apart member_word i (i + 1) i (field x) (omega arith) (omega arith) h
  one-field i x (grammar.initial h q l) = one-apart member_word i (i + 1 + 1 + 1) i (field x) (omega arith) (omega arith) h

  fields : {t : JType} {fixed : Bool} {i j : ℕ} {fs : List FieldPart} → Separated ts (One ts t fixed) i fs j → AreApart member_word i j (map field fs)
  fields {i = i} (separated.last {x = x} p) = one-field i x p
  fields {i = i} {j = k} (separated.further {j = j} {x = x} {xs = xs} p c q) =
      both-apart member_word i (j + 1) k (map field (x ∷ [])) (map field xs) (wide-apart member_word i j i (j + 1) (map field (x ∷ [])) (omega arith) (omega arith) (one-field i x p)) (fields q)

  result-end : {i j : ℕ} {t : JType} → Result ts i t j → i < j
  result-end (grammar.nothing h) = omega arith
  result-end (grammar.something p) = typed-end ts p

  separated-end : {A : Type 0} {One : ℕ → A → ℕ → Type 0} → ((i j : ℕ) (x : A) → One i x j → i < j) → {i j : ℕ} {xs : List A} → Separated ts One i xs j → i < j
  separated-end each {i = i} (separated.last {j = j} {x = x} p) = each i j x p
  separated-end each {i = i} (separated.further {j = j} {x = x} p c q) = omega (arith, each i j x p, separated-end each q)

  parameters-end : {i j : ℕ} {ds : List Param} → Parameters ts i ds j → i < j
  parameters-end (grammar.no_parameters o c) = omega arith
  parameters-end (grammar.some_parameters o p c) = omega (arith, separated-end (λ i j d q. one q) p)
    where
      one : {i j : ℕ} {d : Param} → Parameter ts i d j → i < j
      one (grammar.parameter p h) = omega (arith, typed-end ts p)

  promised-end : {n i j m : ℕ} {pre post : Option SpecPart} {ws : List Word} → Promised ts n i pre ws post j m → i ≤ j
  promised-end grammar.no_contract = omega arith
  promised-end (grammar.a_contract o p) = omega (arith, contracted-end ts p)

  item : {n i j m : ℕ} {x : ItemTree} → Item ts n i x j m → AreApart member_word i j (item_members x)
  item {i = i} (part.a_variable {a = a} {b = b} {j = j} {ms = ms} {w = w} {k = k} {init = init} p s (part.declared h c q) r d) =
      one-apart member_word i (j + 1) (a + 1) (var (record { name = w; kind = k; fixed = has ms symbol.Static; is_ghost = has ms symbol.Ghost; init = init })) (omega (arith, modifiers-end p)) (omega (arith, declared-end ts (part.declared h c q), clause-end ts r)) h
  item {i = i} {j = j} (part.a_definition v p d) = none-apart member_word i j (item-end ts (part.a_definition v p d))
  item {i = i} {j = j} (part.an_invariant v s p d) = none-apart member_word i j (item-end ts (part.an_invariant v s p d))

  items : {n i j m : ℕ} {xs : List ItemTree} → Many (Item ts) n i xs j m → AreApart member_word i j (flat_map item_members xs)
  items {i = i} none = none-apart member_word i i (omega arith)
  items {i = i} {j = j} (more {j = k} {x = x} {xs = xs} p q) = both-apart member_word i k j (item_members x) (flat_map item_members xs) (item p) (items q)

  member : {n i j m : ℕ} {x : MemberTree} → Member ts n i x j m → AreApart member_word i j (tree_members x)
  member {i = i} (grammar.a_field (grammar.fields {a = a} {b = b} {j = j} {fs = fs} p t q s)) =
      wide-apart member_word b j i (j + 1) (map field fs) (omega (arith, modifiers-end p, typed-end ts t)) (omega arith) (fields q)
  member {i = i} (grammar.a_method (grammar.method {a = a} {b = b} {c = c} {d = d} {j = j} {k = k} {ms = ms} {t = t} {w = w} {ps = ps} {pre = pre} {post = post} {ws = ws} {ss = ss} p r h q u inner)) =
      one-apart member_word i (j + 1) b (method (record { name = w; is_public = has ms symbol.Public; fixed = has ms symbol.Static; result = t; params = ps; pre = pre; modifies = ws; post = post; body = ss; end = place_at ts j }))
      (omega (arith, modifiers-end p, result-end r)) (omega (arith, parameters-end q, promised-end u, body-end ts inner)) h
  member {i = i} (grammar.some_items {j = j} {xs = xs} o p) = wide-apart member_word (i + 1) j i (j + 1) (flat_map item_members xs) (omega arith) (omega arith) (items p.0)

  members : {n i j m : ℕ} {xs : List MemberTree} → Many (Member ts) n i xs j m → AreApart member_word i j (flat_map tree_members xs)
  members {i = i} none = none-apart member_word i i (omega arith)
  members {i = i} {j = j} (more {j = k} {x = x} {xs = xs} p q) = both-apart member_word i k j (tree_members x) (flat_map tree_members xs) (member p) (members q)

  -- the fields alone, and the variables alone
  one-of-fields : {t : JType} {fixed : Bool} (i : ℕ) {j : ℕ} (x : FieldPart) → One ts t fixed i x j → AreApart field_name i j (x ∷ [])
  one-of-fields i x (grammar.plain h) = one-apart field_name i (i + 1) i x (omega arith) (omega arith) h
  one-of-fields i x (grammar.initial h q l) = one-apart field_name i (i + 1 + 1 + 1) i x (omega arith) (omega arith) h

  declared-fields : {t : JType} {fixed : Bool} {i j : ℕ} {fs : List FieldPart} → Separated ts (One ts t fixed) i fs j → AreApart field_name i j fs
  declared-fields {i = i} (separated.last {x = x} p) = one-of-fields i x p
  declared-fields {i = i} {j = k} (separated.further {j = j} {x = x} {xs = xs} p c q) =
      both-apart field_name i (j + 1) k (x ∷ []) xs (wide-apart field_name i j i (j + 1) (x ∷ []) (omega arith) (omega arith) (one-of-fields i x p)) (declared-fields q)

  member-fields : {n i j m : ℕ} {x : MemberTree} → Member ts n i x j m → AreApart field_name i j (fields_of x)
  member-fields {i = i} (grammar.a_field (grammar.fields {a = a} {b = b} {j = j} {fs = fs} p t q s)) =
      wide-apart field_name b j i (j + 1) fs (omega (arith, modifiers-end p, typed-end ts t)) (omega arith) (declared-fields q)
  member-fields {i = i} {j = j} (grammar.a_method h) = none-apart field_name i j (member (grammar.a_method h)).goes
  member-fields {i = i} {j = j} (grammar.some_items o p) = none-apart field_name i j (member (grammar.some_items o p)).goes

  all-fields : {n i j m : ℕ} {xs : List MemberTree} → Many (Member ts) n i xs j m → AreApart field_name i j (flat_map fields_of xs)
  all-fields {i = i} none = none-apart field_name i i (omega arith)
  all-fields {i = i} {j = j} (more {j = k} {x = x} {xs = xs} p q) = both-apart field_name i k j (fields_of x) (flat_map fields_of xs) (member-fields p) (all-fields q)

  item-vars : {n i j m : ℕ} {x : ItemTree} → Item ts n i x j m → AreApart var_name i j (variables_of x)
  item-vars {i = i} (part.a_variable {a = a} {b = b} {j = j} {ms = ms} {w = w} {k = k} {init = init} p s (part.declared h c q) r d) =
      one-apart var_name i (j + 1) (a + 1) (record { name = w; kind = k; fixed = has ms symbol.Static; is_ghost = has ms symbol.Ghost; init = init }) (omega (arith, modifiers-end p)) (omega (arith, declared-end ts (part.declared h c q), clause-end ts r)) h
  item-vars {i = i} {j = j} (part.a_definition v p d) = none-apart var_name i j (item-end ts (part.a_definition v p d))
  item-vars {i = i} {j = j} (part.an_invariant v s p d) = none-apart var_name i j (item-end ts (part.an_invariant v s p d))

  items-vars : {n i j m : ℕ} {xs : List ItemTree} → Many (Item ts) n i xs j m → AreApart var_name i j (flat_map variables_of xs)
  items-vars {i = i} none = none-apart var_name i i (omega arith)
  items-vars {i = i} {j = j} (more {j = k} {x = x} {xs = xs} p q) = both-apart var_name i k j (variables_of x) (flat_map variables_of xs) (item-vars p) (items-vars q)

  member-vars : {n i j m : ℕ} {x : MemberTree} → Member ts n i x j m → AreApart var_name i j (flat_map variables_of (items_of x))
  member-vars {n = n} {i = i} {j = j} (grammar.a_field h) = none-apart var_name i j (member {n = n} (grammar.a_field h)).goes
  member-vars {i = i} {j = j} (grammar.a_method h) = none-apart var_name i j (member (grammar.a_method h)).goes
  member-vars {i = i} (grammar.some_items {j = j} {xs = xs} o p) = wide-apart var_name (i + 1) j i (j + 1) (flat_map variables_of xs) (omega arith) (omega arith) (items-vars p.0)

  all-vars : {n i j m : ℕ} {xs : List MemberTree} → Many (Member ts) n i xs j m → AreApart var_name i j (flat_map variables_of (flat_map items_of xs))
  all-vars {i = i} none = none-apart var_name i i (omega arith)
  all-vars {i = i} {j = j} (more {j = k} {x = x} {xs = xs} p q) =
      subst (AreApart var_name i j) (sym (flat_map-append variables_of (items_of x) (flat_map items_of xs)))
      (both-apart var_name i k j (flat_map variables_of (items_of x)) (flat_map variables_of (flat_map items_of xs)) (member-vars p) (all-vars q))

  -- the members of a class are those of its parts
  in-tree : (x : MemberTree) (xs : List MemberTree) (a : MemberPart) → Contains xs x → Contains (tree_members x) a → Contains (flat_map tree_members xs) a
  in-tree x xs a i h = flat-has tree_members xs x a i h

  from-fields : (x : MemberTree) (f : FieldPart) → Contains (fields_of x) f → Contains (tree_members x) (field f)
  from-fields (of_fields fs) f h = map-has field fs f h
  from-fields (of_method m) f h = absurd (has-none f h)
  from-fields (of_items is) f h = absurd (has-none f h)

  from-methods : (x : MemberTree) (m : MethodPart) → Contains (methods_of x) m → Contains (tree_members x) (method m)
  from-methods (of_fields fs) m h = absurd (has-none m h)
  from-methods (of_method n) m h = ⊎_elim (λ e. subst (λ (z : MethodPart). Contains (method n ∷ []) (method z)) e (has-first (method n) [])) (λ g. absurd (has-none m g)) (has-cases n [] m h)
  from-methods (of_items is) m h = absurd (has-none m h)

  from-items : (x : MemberTree) (i : ItemTree) (v : VarPart) → Contains (items_of x) i → Contains (variables_of i) v → Contains (tree_members x) (var v)
  from-items (of_fields fs) i v h g = absurd (has-none i h)
  from-items (of_method m) i v h g = absurd (has-none i h)
  from-items (of_items is) i v h g = flat-has item_members is i (var v) h (map-has var (variables_of i) v g)

  class-members : (w : Word) (xs : List MemberTree) (a : MemberPart) → Contains (members_of (class_of w xs)) a → Contains (flat_map tree_members xs) a
  class-members w xs a h = ⊎_elim (λ g. ⊎_elim of-field of-method (Contains-append_cases (map field c.fields) (map method c.methods) a g)) of-var (Contains-append_cases (map field c.fields ++ map method c.methods) (map var c.vars) a h)
    where
      c : ClassPart
      c = class_of w xs

      of-field : Contains (map field (flat_map fields_of xs)) a → Contains (flat_map tree_members xs) a
      of-field g =
          let f = map-from field (flat_map fields_of xs) a g in
          let x = flat-from fields_of xs f.0 f.1 in
          subst (Contains (flat_map tree_members xs)) f.2 (in-tree x.0 xs (field f.0) x.1 (from-fields x.0 f.0 x.2))

      of-method : Contains (map method (flat_map methods_of xs)) a → Contains (flat_map tree_members xs) a
      of-method g =
          let m = map-from method (flat_map methods_of xs) a g in
          let x = flat-from methods_of xs m.0 m.1 in
          subst (Contains (flat_map tree_members xs)) m.2 (in-tree x.0 xs (method m.0) x.1 (from-methods x.0 m.0 x.2))

      of-var : Contains (map var (flat_map variables_of (flat_map items_of xs))) a → Contains (flat_map tree_members xs) a
      of-var g =
          let v = map-from var (flat_map variables_of (flat_map items_of xs)) a g in
          let i = flat-from variables_of (flat_map items_of xs) v.0 v.1 in
          let x = flat-from items_of xs i.0 i.1 in
          subst (Contains (flat_map tree_members xs)) v.2 (in-tree x.0 xs (var v.0) x.1 (from-items x.0 i.0 v.0 x.2 i.2))

  heads-end : {seen : List Symbol} {i j : ℕ} → Heads ts seen i j → i ≤ j
  heads-end grammar.no_head = omega arith
  heads-end (grammar.a_modifier h n p) = omega (arith, heads-end p)
  heads-end (grammar.a_claim o c p) = omega (arith, c.2, heads-end p)

  -- where the name of a class stands, and that its members stand apart
  record ClassSits (i j : ℕ) (c : ClassPart) : Type 0 where
    name : Sits i j c.name
    goes : i ≤ j
    members : (a b : MemberPart) → Contains (members_of c) a → Contains (members_of c) b → (member_word a).place ≡ (member_word b).place → a ≡ b
    written : IsWritten ts c

  class : {n i j m : ℕ} {c : ClassPart} → Class ts n i c j m → ClassSits i j c
  class {i = i} (grammar.class {a = a} {j = j} {w = w} {xs = xs} h s g o p c) =
      let inside = members p in
      record {
        name = record { at = a + 1; from = omega (arith, heads-end h); below = before inside.goes; is = g };
        goes = through (heads-end h) inside.goes;
        members = λ x y k l e. inside.once x y (class-members w xs x k) (class-members w xs y l) e;
        written = record {
          name = (a + 1, g);
          members = λ x k. let s = inside.sit x (class-members w xs x k) in (s.at, s.is);
          fields = (all-fields p).each;
          vars = (all-vars p).each;
        };
      }
    where
      before : a + 1 + 1 + 1 ≤ j → a + 1 < j + 1
      before l = omega (l, arith)

      through : i ≤ a → a + 1 + 1 + 1 ≤ j → i ≤ j + 1
      through k l = omega (k, l, arith)

  record ClassesSit (i j : ℕ) (cs : List ClassPart) : Type 0 where
    goes : i ≤ j
    at : (n : ℕ) (c : ClassPart) → slice_get cs n ≡ Some c → Sits i j c.name
    members : (c : ClassPart) → Contains cs c → (a b : MemberPart) → Contains (members_of c) a → Contains (members_of c) b → (member_word a).place ≡ (member_word b).place → a ≡ b
    once : (m n : ℕ) (c d : ClassPart) → slice_get cs m ≡ Some c → slice_get cs n ≡ Some d → c.name.place ≡ d.name.place → m ≡ n
    written : (c : ClassPart) → Contains cs c → IsWritten ts c

  classes : {n i j m : ℕ} {cs : List ClassPart} → Many (Class ts) n i cs j m → ClassesSit i j cs
  classes none = record { goes = omega arith; at = λ n c e. absurd (no-none c e); members = λ c h. absurd (has-none c h); once = λ m n c d e f g. absurd (no-none c e); written = λ c h. absurd (has-none c h) }
  classes {i = i} {j = j} (more {j = k} {x = x} {xs = xs} p q) =
      let one = class p in
      let rest = classes q in
      record {
        goes = through one.goes rest.goes;
        at = at one rest;
        members = λ c h. ⊎_elim (λ e. subst (λ (z : ClassPart). (a b : MemberPart) → Contains (members_of z) a → Contains (members_of z) b → (member_word a).place ≡ (member_word b).place → a ≡ b) e one.members) (rest.members c) (has-cases x xs c h);
        once = once one rest;
        written = λ c h. ⊎_elim (λ e. subst (IsWritten ts) e one.written) (rest.written c) (has-cases x xs c h);
      }
    where
      through : i ≤ k → k ≤ j → i ≤ j
      through a b = omega (a, b, arith)

      at : ClassSits i k x → ClassesSit k j xs → (n : ℕ) (c : ClassPart) → slice_get (x ∷ xs) n ≡ Some c → Sits i j c.name
      at one rest zero c e = subst (λ (z : ClassPart). Sits i j z.name) (some-same x c e) (wider i k i j x.name (omega arith) rest.goes one.name)
      at one rest (suc n) c e = wider k j i j c.name one.goes (omega arith) (rest.at n c e)

      across : ClassSits i k x → ClassesSit k j xs → (n : ℕ) (d : ClassPart) → slice_get xs n ≡ Some d → x.name.place ≡ d.name.place → ⊥
      across one rest n d e same = later one.name.at (rest.at n d e).at one.name.below (rest.at n d e).from (same-index one.name.at (rest.at n d e).at x.name d.name one.name.is (rest.at n d e).is same)
        where
          later : (a b : ℕ) → a < k → k ≤ b → a ≡ b → ⊥
          later a b l h e = omega (l, h, e, arith)

      once : ClassSits i k x → ClassesSit k j xs → (m n : ℕ) (c d : ClassPart) → slice_get (x ∷ xs) m ≡ Some c → slice_get (x ∷ xs) n ≡ Some d → c.name.place ≡ d.name.place → m ≡ n
      once one rest zero zero c d e f g = refl
      once one rest zero (suc n) c d e f g = absurd (across one rest n d f (ap (λ (z : ClassPart). z.name.place) (some-same x c e) ∙ g))
      once one rest (suc m) zero c d e f g = absurd (across one rest m c e (ap (λ (z : ClassPart). z.name.place) (some-same x d f) ∙ sym g))
      once one rest (suc m) (suc n) c d e f g = ap suc (rest.once m n c d e f g)

pub is-placed : SpelledIsPlaced
is-placed ts p rises (grammar.program {cs = cs} q end long) = let all = classes ts rises q in record { classes = all.once; members = all.members }

pub is-written : SpelledIsWritten
is-written ts p rises (grammar.program {cs = cs} q end long) = (classes ts rises q).written
