-- The members of a program are those that its classes declare; what the rules find of a field or a method is one of them.
use Rattle.std.proofs.Common.{◌≡◌, refl, sym, ap, subst, ◌∙◌, ℕ, zero, suc, ◌+◌, Bool, true, false, if◌then◌else◌, List, [], ◌∷◌, ◌++◌, map, Some, None, slice_get, codes, arith, ◌⊎◌, inl, inr, ⊎_elim}
use Rattle.std.specs.List.{Contains, flat_map}
use Rattle.std.specs.Option.{option_map_or}
use Rattle.std.proofs.lemmas.Bool.{true≢false}
use Rattle.std.proofs.lemmas.List.Elements.{Contains-append_left, Contains-append_right, Contains-append_cases}
use Rattle.jh_ast.specs.Programs.{ProgramTree, ClassPart, FieldPart, VarPart}
use Rattle.jh_rules.specs.Words.{text_of}
use Rattle.jh_rules.specs.Names.{◌then◌}
use Rattle.jh_vars.specs.Written.{Piece, field_piece, ghost_pieces, front_before, rest_behind, merged, pieces_of, stands_before}
use Rattle.jh_vars.specs.declared.state_names.state.StateName.{StateName}
use Rattle.jh_vars.specs.state_names.States.{member_state, class_states, class_sets, members, state_list, set_state}
use Rattle.jh_semantics.specs.Program.{Member}
use Rattle.jh_semantics.specs.LoweredProgram.{program_of, member_in, member_from}
use Rattle.jh_logic.proofs.source.Lists.{has-first, has-later, has-none, has-cases, map-has, map-from, flat-has, flat-from, some-same, no-none}

-- two lists of pieces made one
module _ (z : Piece) where
  front-has : (x : Piece) (ys : List Piece) → Contains ys z → Contains (front_before x ys) z ⊎ Contains (rest_behind x ys) z
  unfolding front_before rest_behind
  front-has x [] i = absurd (has-none z i)
  front-has x (y ∷ ys) i = by (stands_before y x) (has-cases y ys z i) (λ j. front-has x ys j)
    where
      by : (b : Bool) → (y ≡ z) ⊎ Contains ys z → (Contains ys z → Contains (front_before x ys) z ⊎ Contains (rest_behind x ys) z) → Contains (if b then y ∷ front_before x ys else []) z ⊎ Contains (if b then rest_behind x ys else y ∷ ys) z
      by true (inl e) rest = inl (subst (Contains (y ∷ front_before x ys)) e (has-first y (front_before x ys)))
      by true (inr j) rest = ⊎_elim (λ a. inl (has-later y (front_before x ys) z a)) (λ a. inr a) (rest j)
      by false c rest = inr i

  front-from : (x : Piece) (ys : List Piece) → Contains (front_before x ys) z ⊎ Contains (rest_behind x ys) z → Contains ys z
  unfolding front_before rest_behind
  front-from x [] c = ⊎_elim (λ i. i) (λ i. i) c
  front-from x (y ∷ ys) c = by (stands_before y x) c (λ j. front-from x ys j)
    where
      by : (b : Bool) → Contains (if b then y ∷ front_before x ys else []) z ⊎ Contains (if b then rest_behind x ys else y ∷ ys) z → (Contains (front_before x ys) z ⊎ Contains (rest_behind x ys) z → Contains ys z) → Contains (y ∷ ys) z
      by true (inl i) rest = ⊎_elim (λ e. subst (Contains (y ∷ ys)) e (has-first y ys)) (λ j. has-later y ys z (rest (inl j))) (has-cases y (front_before x ys) z i)
      by true (inr i) rest = has-later y ys z (rest (inr i))
      by false (inl i) rest = absurd (has-none z i)
      by false (inr i) rest = i

  pub merged-has : (xs ys : List Piece) → Contains xs z ⊎ Contains ys z → Contains (merged xs ys) z
  unfolding merged
  merged-has [] ys c = ⊎_elim (λ i. absurd (has-none z i)) (λ i. i) c
  merged-has (x ∷ xs) ys c = ⊎_elim
      (λ i. ⊎_elim (λ e. Contains-append_right (front_before x ys) (x ∷ merged xs (rest_behind x ys)) z (subst (Contains (x ∷ merged xs (rest_behind x ys))) e (has-first x (merged xs (rest_behind x ys)))))
      (λ j. Contains-append_right (front_before x ys) (x ∷ merged xs (rest_behind x ys)) z (has-later x (merged xs (rest_behind x ys)) z (merged-has xs (rest_behind x ys) (inl j)))) (has-cases x xs z i))
      (λ i. ⊎_elim (λ j. Contains-append_left (front_before x ys) (x ∷ merged xs (rest_behind x ys)) z j)
      (λ j. Contains-append_right (front_before x ys) (x ∷ merged xs (rest_behind x ys)) z (has-later x (merged xs (rest_behind x ys)) z (merged-has xs (rest_behind x ys) (inr j)))) (front-has x ys i)) c

  pub merged-from : (xs ys : List Piece) → Contains (merged xs ys) z → Contains xs z ⊎ Contains ys z
  unfolding merged
  merged-from [] ys i = inr i
  merged-from (x ∷ xs) ys i = ⊎_elim (λ j. inr (front-from x ys (inl j)))
      (λ j. ⊎_elim (λ e. inl (subst (Contains (x ∷ xs)) e (has-first x xs)))
      (λ a. ⊎_elim (λ b. inl (has-later x xs z b)) (λ b. inr (front-from x ys (inr b))) (merged-from xs (rest_behind x ys) a)) (has-cases x (merged xs (rest_behind x ys)) z j))
      (Contains-append_cases (front_before x ys) (x ∷ merged xs (rest_behind x ys)) z i)

-- where a piece of a class comes from
pub data PieceOf (c : ClassPart) : Piece → Type 0 where
  of_field : (x : FieldPart) → Contains c.fields x → PieceOf c (field_piece x)
  of_ghost : (v : VarPart) → Contains c.vars v → v.is_ghost ≡ true → PieceOf c (record { word = v.name; kind = v.kind; fixed = v.fixed; is_ghost = true })

pub piece-from : (c : ClassPart) (z : Piece) → Contains (pieces_of c) z → PieceOf c z
piece-from c z i = ⊎_elim (λ j. let r = map-from field_piece c.fields z j in subst (PieceOf c) r.2 (of_field r.0 r.1))
    (λ j. let r = flat-from ghost_pieces c.vars z j in by r.0 r.1 r.0.is_ghost refl r.2) (merged-from z (map field_piece c.fields) (flat_map ghost_pieces c.vars) i)
  where
    by : (v : VarPart) → Contains c.vars v → (b : Bool) → v.is_ghost ≡ b → Contains (if b then record { word = v.name; kind = v.kind; fixed = v.fixed; is_ghost = true } ∷ [] else []) z → PieceOf c z
    by v h true e j = ⊎_elim (λ f. subst (PieceOf c) f (of_ghost v h e)) (λ a. absurd (has-none z a)) (has-cases (record { word = v.name; kind = v.kind; fixed = v.fixed; is_ghost = true }) [] z j)
    by v h false e j = absurd (has-none z j)

pub field-piece-has : (c : ClassPart) (x : FieldPart) → Contains c.fields x → Contains (pieces_of c) (field_piece x)
field-piece-has c x i = merged-has (field_piece x) (map field_piece c.fields) (flat_map ghost_pieces c.vars) (inl (map-has field_piece c.fields x i))

abbrev pub ghost-piece : VarPart → Piece
ghost-piece v = record { word = v.name; kind = v.kind; fixed = v.fixed; is_ghost = true }

pub ghost-piece-has : (c : ClassPart) (v : VarPart) → Contains c.vars v → v.is_ghost ≡ true → Contains (pieces_of c) (ghost-piece v)
ghost-piece-has c v i e = merged-has (ghost-piece v) (map field_piece c.fields) (flat_map ghost_pieces c.vars)
    (inr (flat-has ghost_pieces c.vars v (ghost-piece v) i (by v.is_ghost e)))
  where
    by : (b : Bool) → b ≡ true → Contains (if b then ghost-piece v ∷ [] else []) (ghost-piece v)
    by true f = has-first (ghost-piece v) []
    by false f = absurd (true≢false (sym f))

-- the state names of members, with the numbers of their classes
members-have : (n : ℕ) (cs : List ClassPart) (j : ℕ) (c : ClassPart) → slice_get cs j ≡ Some c → (x : Piece) → Contains (pieces_of c) x → Contains (members n cs) (member_state (n + j) (text_of c.name) x)
unfolding members
members-have n [] j c e x i = absurd (no-none c e)
members-have n (d ∷ ds) zero c e x i = Contains-append_left (class_states n d) (members (n + 1) ds) (member_state (n + 0) (text_of c.name) x)
    (subst (λ k. Contains (class_states n d) (member_state k (text_of c.name) x)) (no-more n) (subst (λ (z : ClassPart). Contains (class_states n z) (member_state n (text_of c.name) x)) (sym (some-same d c e)) (map-has (member_state n (text_of c.name)) (pieces_of c) x i)))
  where
    no-more : (n : ℕ) → n ≡ n + 0
    no-more n = omega arith
members-have n (d ∷ ds) (suc j) c e x i = Contains-append_right (class_states n d) (members (n + 1) ds) (member_state (n + suc j) (text_of c.name) x)
    (subst (λ k. Contains (members (n + 1) ds) (member_state k (text_of c.name) x)) (one-later n j) (members-have (n + 1) ds j c e x i))
  where
    one-later : (n j : ℕ) → n + 1 + j ≡ n + suc j
    one-later n j = omega arith

members-come : (n : ℕ) (cs : List ClassPart) (s : StateName) → Contains (members n cs) s → (j : ℕ) × (c : ClassPart) × (slice_get cs j ≡ Some c) × (x : Piece) × Contains (pieces_of c) x × (s ≡ member_state (n + j) (text_of c.name) x)
unfolding members
members-come n [] s i = absurd (has-none s i)
members-come n (d ∷ ds) s i = ⊎_elim
    (λ h. let r = map-from (member_state n (text_of d.name)) (pieces_of d) s h in (zero, d, refl, r.0, r.1, sym r.2 ∙ ap (λ k. member_state k (text_of d.name) r.0) (no-more n)))
    (λ h. let r = members-come (n + 1) ds s h in (suc r.0, r.1, r.2, r.3, r.4, r.5 ∙ ap (λ k. member_state k (text_of r.1.name) r.3) (one-later n r.0)))
    (Contains-append_cases (class_states n d) (members (n + 1) ds) s i)
  where
    no-more : (n : ℕ) → n ≡ n + 0
    no-more n = omega arith

    one-later : (n j : ℕ) → n + 1 + j ≡ n + suc j
    one-later n j = omega arith

sets-no-members : (n : ℕ) (cs : List ClassPart) (s : StateName) → Contains (class_sets n cs) s → s.is_member ≡ false
unfolding class_sets
sets-no-members n [] s i = ⊎_elim (λ e. ap (λ (z : StateName). z.is_member) (sym e)) (λ j. absurd (has-none s j)) (has-cases (set_state (codes "Object") None) [] s i)
sets-no-members n (c ∷ cs) s i = ⊎_elim (λ e. ap (λ (z : StateName). z.is_member) (sym e)) (λ j. sets-no-members (n + 1) cs s j) (has-cases (set_state (text_of c.name) (Some n)) (class_sets (n + 1) cs) s i)

module _ (p : ProgramTree) where
  abbrev pub member-of : ℕ → ClassPart → Piece → Member
  member-of n c x = member_in p (member_state n (text_of c.name) x) n

  -- each piece of a class is a member of the program
  pub member-stands : (n : ℕ) (c : ClassPart) → slice_get p.classes n ≡ Some c → (x : Piece) → Contains (pieces_of c) x → Contains (program_of p).members (member-of n c x)
  member-stands n c e x i =
      let s : StateName = member_state n (text_of c.name) x in
      flat-has (member_from p) (state_list p) s (member-of n c x)
      (Contains-append_right (set_state (codes "alloc") None ∷ class_sets 0 p.classes) (members 0 p.classes) s
      (subst (λ k. Contains (members 0 p.classes) (member_state k (text_of c.name) x)) (none-more n) (members-have 0 p.classes n c e x i)))
      (has-first (member-of n c x) [])
    where
      none-more : (n : ℕ) → 0 + n ≡ n
      none-more n = omega arith

  -- and there are no others
  pub record MemberFrom (y : Member) : Type 0 where
    pub number : ℕ
    pub class : ClassPart
    pub is : slice_get p.classes number ≡ Some class
    pub piece : Piece
    pub stands : Contains (pieces_of class) piece
    pub same : y ≡ member-of number class piece

  pub member-comes : (y : Member) → Contains (program_of p).members y → MemberFrom y
  member-comes y i =
      let r = flat-from (member_from p) (state_list p) y i in
      ⊎_elim (λ e. absurd (no-member r.0 (ap (λ (z : StateName). z.is_member) (sym e)) r.2))
      (λ h. ⊎_elim (λ j. absurd (no-member r.0 (sets-no-members 0 p.classes r.0 j) r.2)) (λ j. from r.0 r.2 (members-come 0 p.classes r.0 j)) (Contains-append_cases (class_sets 0 p.classes) (members 0 p.classes) r.0 h))
      (has-cases (set_state (codes "alloc") None) (class_sets 0 p.classes ++ members 0 p.classes) r.0 r.1)
    where
      no-member : (s : StateName) → s.is_member ≡ false → Contains (member_from p s) y → ⊥
      no-member s e j = by s.is_member e j
        where
          by : (b : Bool) → b ≡ false → Contains (if b then option_map_or (λ n. member_in p s n ∷ []) s.class [] else []) y → ⊥
          by true f g = true≢false f
          by false f g = has-none y g

      none-more : (n : ℕ) → 0 + n ≡ n
      none-more n = omega arith

      from : (s : StateName) → Contains (member_from p s) y → (j : ℕ) × (c : ClassPart) × (slice_get p.classes j ≡ Some c) × (x : Piece) × Contains (pieces_of c) x × (s ≡ member_state (0 + j) (text_of c.name) x) → MemberFrom y
      from s h r = record {
        number = r.0;
        class = r.1;
        is = r.2;
        piece = r.3;
        stands = r.4;
        same = ⊎_elim (λ e. sym e) (λ j. absurd (has-none y j)) (has-cases (member-of r.0 r.1 r.3) [] y (subst (λ (z : StateName). Contains (member_from p z) y) (r.5 ∙ ap (λ k. member_state k (text_of r.1.name) r.3) (none-more r.0)) h));
      }
