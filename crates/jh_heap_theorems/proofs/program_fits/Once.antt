-- No static or field of a program that a text spells has the text of another.
use Rattle.std.proofs.Common.{◌≡◌, refl, sym, ap, subst, ◌∙◌, ⊎_elim, ℕ, suc, ◌+◌, Bool, true, false, if◌then◌else◌, List, [], ◌∷◌, ◌++◌, map, Some, slice_get, codes, arith}
use Rattle.std.specs.List.{Contains, flat_map}
use Rattle.std.proofs.lemmas.Bool.{true≢false}
use Rattle.std.proofs.lemmas.Grind.{flat_map-append}
use Rattle.std.proofs.lemmas.List.Elements.{Contains-append_left, Contains-append_right, Contains-append_cases}
use Rattle.jh_ast.specs.Programs.{ProgramTree, ClassPart, FieldPart, VarPart}
use Rattle.jh_rules.specs.Breaks.{faults_of}
use Rattle.jh_rules.specs.Words.{text_of, halves}
use Rattle.jh_rules.specs.Names.{MemberPart, field, method, var, member_word, members_of}
use Rattle.jh_rules.specs.Shape.{program_parts}
use Rattle.jh_vars.specs.Written.{Piece, field_piece, ghost_pieces, front_before, rest_behind, merged, pieces_of, stands_before}
use Rattle.jh_vars.specs.declared.state_names.state.StateName.{StateName}
use Rattle.jh_vars.specs.state_names.States.{member_state, class_states, class_sets, members, state_list}
use Rattle.jh_semantics.specs.Code.{Text}
use Rattle.jh_semantics.specs.Program.{Member}
use Rattle.jh_semantics.specs.LoweredProgram.{program_of, member_from}
use Rattle.jh_semantics.specs.Typed.{AreApart}
use Rattle.jh_logic.specs.source.Placed.{IsPlaced}
use Rattle.jh_logic.proofs.source.Lists.{has-none, has-first, has-later, has-cases, at-has, map-from, flat-from, some-same}
use Rattle.jh_logic.proofs.source.Shaped.{Shaped}
use Rattle.jh_logic.proofs.source.Classes.{same-class, same-member}
use Rattle.jh_logic.proofs.source.Members.{merged-from, member-of}
use Rattle.jh_logic.proofs.source.Declared.{halves-of, field-member, var-member}
use Rattle.jh_logic.proofs.source.Named.{dotless}
use Rattle.jh_logic.specs.text.Laws.{AreOnce, field_name, var_name}

-- ---- lists of things with texts of their own
module _ {A : Type 0} (text : A → Text) where
  unfoldable pub Once : List A → Type 0
  Once [] = Unit {0}
  Once (x ∷ xs) = ((y : A) → Contains xs y → text y ≡ text x → ⊥) × Once xs

  abbrev Across : List A → List A → Type 0
  Across xs ys = (a b : A) → Contains xs a → Contains ys b → text b ≡ text a → ⊥

  once-append : (xs ys : List A) → Once xs → Once ys → Across xs ys → Once (xs ++ ys)
  unfolding Once
  once-append [] ys p q r = q
  once-append (x ∷ xs) ys p q r = (
    λ y i e. ⊎_elim (λ h. p.0 y h e) (λ h. r x y (has-first x xs) h e) (Contains-append_cases xs ys y i),
    once-append xs ys p.1 q (λ a b i j. r a b (has-later x xs a i) j),
  )

  once-parts : (xs ys : List A) → Once (xs ++ ys) → Once xs × Once ys × Across xs ys
  unfolding Once
  once-parts [] ys p = (tt, p, λ a b i j e. has-none a i)
  once-parts (x ∷ xs) ys p =
      let rest = once-parts xs ys p.1 in (
        (λ y i e. p.0 y (Contains-append_left xs ys y i) e, rest.0),
        rest.1,
        λ a b i j e. ⊎_elim (λ h. p.0 b (Contains-append_right xs ys b j) (e ∙ ap text (sym h))) (λ h. rest.2 a b h j e) (has-cases x xs a i),
      )

  -- their texts are apart
  once-apart : (xs : List A) → Once xs → AreApart (map text xs)
  unfolding Once
  once-apart [] p = tt
  once-apart (x ∷ xs) p = (λ y i e. let r = map-from text xs y i in p.0 r.0 r.1 (r.2 ∙ sym e), once-apart xs p.1)

-- what is made of things with texts of their own
once-made : {A B : Type 0} (text : A → Text) (other : B → Text) (f : A → B) → ((a b : A) → other (f a) ≡ other (f b) → text a ≡ text b) → (xs : List A) → Once text xs → Once other (map f xs)
unfolding Once
once-made text other f back [] p = tt
once-made text other f back (x ∷ xs) p = (λ y i e. let r = map-from f xs y i in p.0 r.0 r.1 (back r.0 x (ap other r.2 ∙ e)), once-made text other f back xs p.1)

-- ---- two lists of pieces made one
abbrev piece-text : Piece → Text
piece-text z = text_of z.word

two-parts : (x : Piece) (ys : List Piece) → ys ≡ front_before x ys ++ rest_behind x ys
unfolding front_before rest_behind
two-parts x [] = refl
two-parts x (y ∷ ys) = by (stands_before y x) (two-parts x ys)
  where
    by : (b : Bool) → ys ≡ front_before x ys ++ rest_behind x ys → y ∷ ys ≡ (if b then y ∷ front_before x ys else []) ++ (if b then rest_behind x ys else y ∷ ys)
    by true e = ap (λ zs. y ∷ zs) e
    by false e = refl

once-merged : (xs ys : List Piece) → Once piece-text xs → Once piece-text ys → Across piece-text xs ys → Once piece-text (merged xs ys)
unfolding Once merged
once-merged [] ys p q r = q
once-merged (x ∷ xs) ys p q r =
    let front = front_before x ys in
    let rest = rest_behind x ys in
    let parts = once-parts piece-text front rest (subst (Once piece-text) (two-parts x ys) q) in
    let in-front : (z : Piece) → Contains front z → Contains ys z = λ z i. subst (λ (zs : List Piece). Contains zs z) (sym (two-parts x ys)) (Contains-append_left front rest z i) in
    let in-rest : (z : Piece) → Contains rest z → Contains ys z = λ z i. subst (λ (zs : List Piece). Contains zs z) (sym (two-parts x ys)) (Contains-append_right front rest z i) in
    let behind : Once piece-text (merged xs rest) = once-merged xs rest p.1 parts.1 (λ a b i j. r a b (has-later x xs a i) (in-rest b j)) in
    once-append piece-text front (x ∷ merged xs rest) parts.0
    (λ y i e. ⊎_elim (λ h. p.0 y h e) (λ h. r x y (has-first x xs) (in-rest y h) e) (merged-from y xs rest i), behind)
    (λ a b i j e. ⊎_elim
    (λ h. r x a (has-first x xs) (in-front a i) (sym (ap piece-text h ∙ e)))
    (λ h. ⊎_elim (λ k. r b a (has-later x xs b k) (in-front a i) (sym e)) (λ k. parts.2 a b i k e) (merged-from b xs rest h))
    (has-cases x (merged xs rest) b j))

-- ---- the pieces of a class
is-field : MemberPart → Bool
is-field (field x) = true
is-field (method m) = false
is-field (var v) = false

-- a piece of a ghost variable has its word
ghost-word : (v : VarPart) (z : Piece) → Contains (ghost_pieces v) z → z.word ≡ v.name
ghost-word v z i = by v.is_ghost i
  where
    by : (b : Bool) → Contains (if b then record { word = v.name; kind = v.kind; fixed = v.fixed; is_ghost = true } ∷ [] else []) z → z.word ≡ v.name
    by true j = ⊎_elim (λ e. ap (λ (x : Piece). x.word) (sym e)) (λ k. absurd (has-none z k)) (has-cases (record { word = v.name; kind = v.kind; fixed = v.fixed; is_ghost = true }) [] z j)
    by false j = absurd (has-none z j)

module _ (p : ProgramTree) (placed : IsPlaced p) (clean : faults_of p ≡ []) (shaped : Shaped (program_parts p)) where
  module _ (n : ℕ) (c : ClassPart) (is : slice_get p.classes n ≡ Some c) where
    -- members of one text are one
    one-member : (a b : MemberPart) → Contains (members_of c) a → Contains (members_of c) b → text_of (member_word a) ≡ text_of (member_word b) → a ≡ b
    one-member = same-member p placed clean n c is

    once-fields : (fs : List FieldPart) → ((x : FieldPart) → Contains fs x → Contains c.fields x) → AreOnce field_name fs → Once piece-text (map field_piece fs)
    unfolding Once AreOnce
    once-fields [] inside h = tt
    once-fields (x ∷ fs) inside h = (
      λ z i e.
          let r = map-from field_piece fs z i in
          let same : field r.0 ≡ field x = one-member (field r.0) (field x) (field-member c r.0 (inside r.0 (has-later x fs r.0 r.1))) (field-member c x (inside x (has-first x fs))) (ap piece-text r.2 ∙ e) in
          h.0 r.0 r.1 (ap (λ (a : MemberPart). (member_word a).place) same),
      once-fields fs (λ y i. inside y (has-later x fs y i)) h.1,
    )

    once-ghosts : (vs : List VarPart) → ((v : VarPart) → Contains vs v → Contains c.vars v) → AreOnce var_name vs → Once piece-text (flat_map ghost_pieces vs)
    unfolding Once AreOnce
    once-ghosts [] inside h = tt
    once-ghosts (v ∷ vs) inside h = once-append piece-text (ghost_pieces v) (flat_map ghost_pieces vs) (one v.is_ghost) (once-ghosts vs (λ w i. inside w (has-later v vs w i)) h.1)
        (λ a b i j e.
        let r = flat-from ghost_pieces vs b j in
        let text : text_of r.0.name ≡ text_of v.name = ap text_of (sym (ghost-word r.0 b r.2)) ∙ e ∙ ap text_of (ghost-word v a i) in
        let same : var r.0 ≡ var v = one-member (var r.0) (var v) (var-member c r.0 (inside r.0 (has-later v vs r.0 r.1))) (var-member c v (inside v (has-first v vs))) text in
        h.0 r.0 r.1 (ap (λ (a : MemberPart). (member_word a).place) same))
      where
        one : (b : Bool) → Once piece-text (if b then record { word = v.name; kind = v.kind; fixed = v.fixed; is_ghost = true } ∷ [] else [])
        one true = (λ z i. absurd (has-none z i), tt)
        one false = tt

    fields-and-ghosts : Across piece-text (map field_piece c.fields) (flat_map ghost_pieces c.vars)
    unfolding is-field
    fields-and-ghosts a b i j e =
        let x = map-from field_piece c.fields a i in
        let v = flat-from ghost_pieces c.vars b j in
        let text : text_of v.0.name ≡ text_of x.0.name = ap text_of (sym (ghost-word v.0 b v.2)) ∙ e ∙ ap piece-text (sym x.2) in
        let same : var v.0 ≡ field x.0 = one-member (var v.0) (field x.0) (var-member c v.0 v.1) (field-member c x.0 x.1) text in
        true≢false (sym (ap is-field same))

    once-pieces : AreOnce field_name c.fields → AreOnce var_name c.vars → Once piece-text (pieces_of c)
    once-pieces f g = once-merged (map field_piece c.fields) (flat_map ghost_pieces c.vars) (once-fields c.fields (λ x i. i) f) (once-ghosts c.vars (λ v i. i) g) fields-and-ghosts

  -- ---- the members of the program
  abbrev member-text : Member → Text
  member-text x = x.text

  abbrev from : List StateName → List Member
  from xs = flat_map (member_from p) xs

  -- the halves of a member's text
  halves-are : (n : ℕ) (c : ClassPart) → slice_get p.classes n ≡ Some c → (x : List ℕ) → halves ((text_of c.name ++ codes ".") ++ x) ≡ Some (text_of c.name, x)
  halves-are n c is x = halves-of (text_of c.name) x (dotless p placed clean shaped n c is)

  same-halves : (n m : ℕ) (c d : ClassPart) → slice_get p.classes n ≡ Some c → slice_get p.classes m ≡ Some d → (x y : List ℕ) → (text_of c.name ++ codes ".") ++ x ≡ (text_of d.name ++ codes ".") ++ y → ◌≡◌ {A = Text × Text} (text_of c.name, x) (text_of d.name, y)
  same-halves n m c d is at x y e = some-same (text_of c.name, x) (text_of d.name, y) (sym (halves-are n c is x) ∙ ap halves e ∙ halves-are m d at y)

  states-members : (n : ℕ) (c : ClassPart) (xs : List Piece) → from (map (member_state n (text_of c.name)) xs) ≡ map (member-of p n c) xs
  states-members n c [] = refl
  states-members n c (x ∷ xs) = ap (λ ys. member-of p n c x ∷ ys) (states-members n c xs)

  class-and-rest : (n : ℕ) (c : ClassPart) (cs : List ClassPart) → from (members n (c ∷ cs)) ≡ map (member-of p n c) (pieces_of c) ++ from (members (n + 1) cs)
  unfolding members
  class-and-rest n c cs = flat_map-append (member_from p) (class_states n c) (members (n + 1) cs) ∙ ap (λ xs. xs ++ from (members (n + 1) cs)) (states-members n c (pieces_of c))

  sets-give-none : (n : ℕ) (cs : List ClassPart) → from (class_sets n cs) ≡ []
  unfolding class_sets
  sets-give-none n [] = refl
  sets-give-none n (c ∷ cs) = sets-give-none (n + 1) cs

  one-later : (n j : ℕ) → n + 1 + j ≡ n + suc j
  one-later n j = omega arith

  no-more : (n : ℕ) → n ≡ n + 0
  no-more n = omega arith

  -- classes from number n on
  abbrev Follow : ℕ → List ClassPart → Type 0
  Follow n cs = (j : ℕ) (d : ClassPart) → slice_get cs j ≡ Some d → slice_get p.classes (n + j) ≡ Some d

  follow-more : (n : ℕ) (c : ClassPart) (cs : List ClassPart) → Follow n (c ∷ cs) → Follow (n + 1) cs
  follow-more n c cs h j d e = subst (λ k. slice_get p.classes k ≡ Some d) (sym (one-later n j)) (h (suc j) d e)

  record Later (n : ℕ) (y : Member) : Type 0 where
    number : ℕ
    class : ClassPart
    is : slice_get p.classes (n + number) ≡ Some class
    own : List ℕ
    text : y.text ≡ (text_of class.name ++ codes ".") ++ own

  later-from : (n : ℕ) (cs : List ClassPart) → Follow n cs → (y : Member) → Contains (from (members n cs)) y → Later n y
  unfolding members
  later-from n [] h y i = absurd (has-none y i)
  later-from n (c ∷ cs) h y i = ⊎_elim
      (λ j. let r = map-from (member-of p n c) (pieces_of c) y j in record { number = 0; class = c; is = h 0 c refl; own = text_of r.0.word; text = ap member-text (sym r.2) })
      (λ j. let r : Later (n + 1) y = later-from (n + 1) cs (follow-more n c cs h) y j in record { number = suc r.number; class = r.class; is = subst (λ k. slice_get p.classes k ≡ Some r.class) (one-later n r.number) r.is; own = r.own; text = r.text })
      (Contains-append_cases (map (member-of p n c) (pieces_of c)) (from (members (n + 1) cs)) y (subst (λ (xs : List Member). Contains xs y) (class-and-rest n c cs) i))

  once-classes : ((c : ClassPart) → Contains p.classes c → AreOnce field_name c.fields × AreOnce var_name c.vars) → (n : ℕ) (cs : List ClassPart) → Follow n cs → Once member-text (from (members n cs))
  unfolding Once members
  once-classes each n [] h = tt
  once-classes each n (c ∷ cs) h =
      let is : slice_get p.classes n ≡ Some c = subst (λ k. slice_get p.classes k ≡ Some c) (sym (no-more n)) (h 0 c refl) in
      let own = each c (at-has p.classes n c is) in
      subst (Once member-text) (sym (class-and-rest n c cs))
      (once-append member-text (map (member-of p n c) (pieces_of c)) (from (members (n + 1) cs))
      (once-made piece-text member-text (member-of p n c) (λ a b e. ap (λ (z : Text × Text). z.1) (same-halves n n c c is is (text_of a.word) (text_of b.word) e)) (pieces_of c) (once-pieces n c is own.0 own.1))
      (once-classes each (n + 1) cs (follow-more n c cs h))
      (λ a b i j e.
      let r = map-from (member-of p n c) (pieces_of c) a i in
      let l : Later (n + 1) b = later-from (n + 1) cs (follow-more n c cs h) b j in
      let both = same-halves (n + 1 + l.number) n l.class c l.is is l.own (text_of r.0.word) (sym l.text ∙ e ∙ ap member-text (sym r.2)) in
      let number : n + 1 + l.number ≡ n = same-class p placed clean (n + 1 + l.number) n l.class c l.is is (ap (λ (z : Text × Text). z.0) both) in
      too-far l.number number))
    where
      too-far : (k : ℕ) → n + 1 + k ≡ n → ⊥
      too-far k e = omega (e, arith)

  pub members-once : ((c : ClassPart) → Contains p.classes c → AreOnce field_name c.fields × AreOnce var_name c.vars) → AreApart (map (λ (x : Member). x.text) (program_of p).members)
  members-once each =
      subst (λ (xs : List Member). AreApart (map member-text xs)) (sym all)
      (once-apart member-text (from (members 0 p.classes)) (once-classes each 0 p.classes (λ j d e. subst (λ k. slice_get p.classes k ≡ Some d) (j-is j) e)))
    where
      j-is : (j : ℕ) → j ≡ 0 + j
      j-is j = omega arith

      all : from (state_list p) ≡ from (members 0 p.classes)
      all = flat_map-append (member_from p) (class_sets 0 p.classes) (members 0 p.classes) ∙ ap (λ xs. xs ++ from (members 0 p.classes)) (sets-give-none 0 p.classes)
