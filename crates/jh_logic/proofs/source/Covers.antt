-- What the code of a body writes, its method may write.
use Rattle.std.proofs.Common.{◌≡◌, refl, sym, ap, subst, ◌∙◌, ℕ, zero, suc, ◌+◌, true, false, ◌||◌, List, [], ◌∷◌, ◌++◌, map, Option, Some, None, slice_get, codes, arith, ⊎_elim}
use Rattle.std.specs.List.{Contains, list_any}
use Rattle.std.specs.Option.{option_map_or}
use Rattle.std.proofs.lemmas.Bool.{true≢false}
use Rattle.std.proofs.lemmas.List.Elements.{Contains-append_left, Contains-append_right, Contains-append_cases}
use Rattle.jh_ast.specs.Programs.{ProgramTree, ClassPart}
use Rattle.jh_rules.specs.Breaks.{faults_of}
use Rattle.jh_rules.specs.Words.{same_text, text_of, halves}
use Rattle.jh_rules.specs.Shape.{◌and◌, all_parts, program_parts, field_parts, method_parts, var_parts, def_parts, labelled_parts, of_declared, may_be_declared, is_empty, is_forbidden}
use Rattle.jh_vars.specs.States.{class_text}
use Rattle.jh_vars.specs.Written.{Written, allocated, objects, plain_objects, state, Piece, pieces_of, all_state, class_sets, members_in_order, written_name}
use Rattle.jh_semantics.specs.Code.{Text}
use Rattle.jh_semantics.specs.Program.{Program, Member}
use Rattle.jh_semantics.specs.Locals.{has_dot}
use Rattle.jh_semantics.specs.WellFormed.{all_classes}
use Rattle.jh_semantics.specs.LoweredProgram.{program_of}
use Rattle.jh_guard.specs.Items.{Item, all_objects, objects_of, of_member, item_text, items}
use Rattle.jh_logic.specs.source.Placed.{IsPlaced}
use Rattle.jh_logic.proofs.source.Lists.{has-none, has-first, has-later, has-cases, has-at, map-has, map-from, or-false-left, some-same, no-none, not-true}
use Rattle.jh_logic.proofs.source.Texts.{is-same}
use Rattle.jh_logic.proofs.source.Shaped.{Shaped, shaped-left}
use Rattle.jh_logic.proofs.source.Classes.{same-class, class-not-object, class-not-alloc}
use Rattle.jh_logic.proofs.source.Members.{MemberFrom, member-comes}
use Rattle.jh_logic.proofs.source.Declared.{halves-of, class-text-is}
use Rattle.jh_logic.proofs.source.Named.{class-shaped, dotless, middle-dot}

module _ (p : ProgramTree) (placed : IsPlaced p) (clean : faults_of p ≡ []) (shaped : Shaped (program_parts p)) where
  abbrev P : Program
  P = program_of p

  abbrev text : Written → Text
  text w = (written_name p w).text

  -- a piece of the state of the program
  pub data Standing : Written → Type 0 where
    the_allocated : Standing allocated
    the_plain : Standing plain_objects
    the_objects : (n : ℕ) (c : ClassPart) → slice_get p.classes n ≡ Some c → Standing (objects n)
    the_state : (n : ℕ) (x : List ℕ) (c : ClassPart) → slice_get p.classes n ≡ Some c → Standing (state n x)

  none-more : (n : ℕ) → 0 + n ≡ n
  none-more n = omega arith

  no-more : (n : ℕ) → n + 0 ≡ n
  no-more n = omega arith

  one-later : (n j : ℕ) → n + suc j ≡ n + 1 + j
  one-later n j = omega arith

  sets-stand : (n : ℕ) (cs : List ClassPart) → ((j : ℕ) (c : ClassPart) → slice_get cs j ≡ Some c → slice_get p.classes (n + j) ≡ Some c) → (w : Written) → Contains (class_sets p n cs) w → Standing w
  unfolding class_sets
  sets-stand n [] h w i = ⊎_elim (λ f. subst Standing f the_plain) (λ j. absurd (has-none w j)) (has-cases plain_objects [] w i)
  sets-stand n (c ∷ cs) h w i = ⊎_elim (λ f. subst Standing f (the_objects n c (ap (slice_get p.classes) (sym (no-more n)) ∙ h zero c refl)))
      (λ j. sets-stand (n + 1) cs (λ j d g. ap (slice_get p.classes) (sym (one-later n j)) ∙ h (suc j) d g) w j) (has-cases (objects n) (class_sets p (n + 1) cs) w i)

  members-stand : (n : ℕ) (cs : List ClassPart) → ((j : ℕ) (c : ClassPart) → slice_get cs j ≡ Some c → slice_get p.classes (n + j) ≡ Some c) → (w : Written) → Contains (members_in_order p n cs) w → Standing w
  unfolding members_in_order
  members-stand n [] h w i = absurd (has-none w i)
  members-stand n (c ∷ cs) h w i = ⊎_elim
      (λ j. let r = map-from (λ (x : Piece). state n (text_of x.word)) (pieces_of c) w j in subst Standing r.2 (the_state n (text_of r.0.word) c (ap (slice_get p.classes) (sym (no-more n)) ∙ h zero c refl)))
      (λ j. members-stand (n + 1) cs (λ j d g. ap (slice_get p.classes) (sym (one-later n j)) ∙ h (suc j) d g) w j)
      (Contains-append_cases (map (λ (x : Piece). state n (text_of x.word)) (pieces_of c)) (members_in_order p (n + 1) cs) w i)

  pub state-stands : (w : Written) → Contains (all_state p) w → Standing w
  state-stands w i = ⊎_elim (λ f. subst Standing f the_allocated)
      (λ j. ⊎_elim (λ h. sets-stand 0 p.classes (λ j c g. ap (slice_get p.classes) (none-more j) ∙ g) w h) (λ h. members-stand 0 p.classes (λ j c g. ap (slice_get p.classes) (none-more j) ∙ g) w h) (Contains-append_cases (class_sets p 0 p.classes) (members_in_order p 0 p.classes) w j))
      (has-cases allocated (class_sets p 0 p.classes ++ members_in_order p 0 p.classes) w i)

  -- the pieces of the state, as items of the program
  sets-have : (n : ℕ) (cs : List ClassPart) (j : ℕ) (c : ClassPart) → slice_get cs j ≡ Some c → Contains (class_sets p n cs) (objects (n + j))
  unfolding class_sets
  sets-have n [] j c g = absurd (no-none c g)
  sets-have n (d ∷ ds) zero c g = subst (λ k. Contains (objects n ∷ class_sets p (n + 1) ds) (objects k)) (sym (no-more n)) (has-first (objects n) (class_sets p (n + 1) ds))
  sets-have n (d ∷ ds) (suc j) c g = has-later (objects n) (class_sets p (n + 1) ds) (objects (n + suc j)) (subst (λ k. Contains (class_sets p (n + 1) ds) (objects k)) (sym (one-later n j)) (sets-have (n + 1) ds j c g))

  plain-has : (n : ℕ) (cs : List ClassPart) → Contains (class_sets p n cs) plain_objects
  unfolding class_sets
  plain-has n [] = has-first plain_objects []
  plain-has n (c ∷ cs) = has-later (objects n) (class_sets p (n + 1) cs) plain_objects (plain-has (n + 1) cs)

  members-have : (n : ℕ) (cs : List ClassPart) (j : ℕ) (c : ClassPart) → slice_get cs j ≡ Some c → (x : Piece) → Contains (pieces_of c) x → Contains (members_in_order p n cs) (state (n + j) (text_of x.word))
  unfolding members_in_order
  members-have n [] j c g x i = absurd (no-none c g)
  members-have n (d ∷ ds) zero c g x i = Contains-append_left (map (λ (x : Piece). state n (text_of x.word)) (pieces_of d)) (members_in_order p (n + 1) ds) (state (n + 0) (text_of x.word))
      (subst (λ k. Contains (map (λ (x : Piece). state n (text_of x.word)) (pieces_of d)) (state k (text_of x.word))) (sym (no-more n)) (map-has (λ (x : Piece). state n (text_of x.word)) (pieces_of d) x (subst (λ (z : ClassPart). Contains (pieces_of z) x) (sym (some-same d c g)) i)))
  members-have n (d ∷ ds) (suc j) c g x i = Contains-append_right (map (λ (x : Piece). state n (text_of x.word)) (pieces_of d)) (members_in_order p (n + 1) ds) (state (n + suc j) (text_of x.word))
      (subst (λ k. Contains (members_in_order p (n + 1) ds) (state k (text_of x.word))) (sym (one-later n j)) (members-have (n + 1) ds j c g x i))

  pub record ItemIs (y : Item) : Type 0 where
    pub written : Written
    pub stands : Contains (all_state p) written
    pub same : text written ≡ item_text y

  class-item : (x : Text) → Contains (all_classes P.classes) x → ItemIs (objects_of x)
  class-item x i = ⊎_elim
      (λ j. let r = map-from (λ (c : ClassPart). text_of c.name) p.classes x j in let s = has-at p.classes r.0 r.1 in record {
        written = objects s.0;
        stands = has-later allocated (class_sets p 0 p.classes ++ members_in_order p 0 p.classes) (objects s.0) (Contains-append_left (class_sets p 0 p.classes) (members_in_order p 0 p.classes) (objects s.0) (subst (λ k. Contains (class_sets p 0 p.classes) (objects k)) (none-more s.0) (sets-have 0 p.classes s.0 r.0 s.1)));
        same = class-text-is p placed clean (dotless p placed clean shaped) s.0 r.0 s.1 ∙ r.2;
      })
      (λ j. ⊎_elim (λ f. record {
        written = plain_objects;
        stands = has-later allocated (class_sets p 0 p.classes ++ members_in_order p 0 p.classes) plain_objects (Contains-append_left (class_sets p 0 p.classes) (members_in_order p 0 p.classes) plain_objects (plain-has 0 p.classes));
        same = f;
      }) (λ h. absurd (has-none x h)) (has-cases (codes "Object") [] x j))
      (Contains-append_cases P.classes (codes "Object" ∷ []) x i)

  member-item : (x : Member) → Contains P.members x → ItemIs (of_member x)
  member-item x i =
      let a : MemberFrom p x = member-comes p x i in
      record {
        written = state a.number (text_of a.piece.word);
        stands = has-later allocated (class_sets p 0 p.classes ++ members_in_order p 0 p.classes) (state a.number (text_of a.piece.word)) (Contains-append_right (class_sets p 0 p.classes) (members_in_order p 0 p.classes) (state a.number (text_of a.piece.word))
            (subst (λ k. Contains (members_in_order p 0 p.classes) (state k (text_of a.piece.word))) (none-more a.number) (members-have 0 p.classes a.number a.class a.is a.piece a.stands)));
        same = ap (λ (y : Text). (y ++ codes ".") ++ text_of a.piece.word) (class-text-is p placed clean (dotless p placed clean shaped) a.number a.class a.is) ∙ ap (λ (z : Member). z.text) (sym a.same);
      }

  pub item-is : (y : Item) → Contains (items P) y → ItemIs y
  item-is y i = ⊎_elim (λ f. subst ItemIs f (record { written = allocated; stands = has-first allocated (class_sets p 0 p.classes ++ members_in_order p 0 p.classes); same = refl }))
      (λ j. ⊎_elim (λ h. let r = map-from (λ c. objects_of c) (all_classes P.classes) y h in subst ItemIs r.2 (class-item r.0 r.1)) (λ h. let r = map-from (λ x. of_member x) P.members y h in subst ItemIs r.2 (member-item r.0 r.1))
      (Contains-append_cases (map (λ c. objects_of c) (all_classes P.classes)) (map (λ x. of_member x) P.members) y j))
      (has-cases all_objects (map (λ c. objects_of c) (all_classes P.classes) ++ map (λ x. of_member x) P.members) y i)

  -- a piece of the state is known by its text
  not-dotted : (x y : Text) → has_dot x ≡ true → has_dot y ≡ false → x ≡ y → ⊥
  not-dotted x y h g f = true≢false (sym h ∙ ap has_dot f ∙ g)

  dotted : (n : ℕ) (x : List ℕ) → has_dot (text (state n x)) ≡ true
  dotted n x = middle-dot (class_text p n) x

  class-dotless : (n : ℕ) (c : ClassPart) → slice_get p.classes n ≡ Some c → has_dot (class_text p n) ≡ false
  class-dotless n c is = ap has_dot (class-text-is p placed clean (dotless p placed clean shaped) n c is) ∙ dotless p placed clean shaped n c is

  not-empty : (n : ℕ) (c : ClassPart) → slice_get p.classes n ≡ Some c → text_of c.name ≡ [] → ⊥
  not-empty n c is f = true≢false (sym (ap is_empty f) ∙ or-false-left (is_empty (text_of c.name)) (list_any is_forbidden (text_of c.name) || same_text (text_of c.name) (codes "this"))
      (not-true (is_empty (text_of c.name) || (list_any is_forbidden (text_of c.name) || same_text (text_of c.name) (codes "this"))) (class-named n c is)))
    where
      class-named : (n : ℕ) (c : ClassPart) → slice_get p.classes n ≡ Some c → may_be_declared (text_of c.name) ≡ true
      class-named n c is = (shaped-left (of_declared c.name) (all_parts field_parts c.fields and all_parts method_parts c.methods and all_parts var_parts c.vars and all_parts def_parts c.defs and all_parts labelled_parts c.invariants) (class-shaped p placed clean shaped n c is)).declared c.name (has-first c.name [])

  -- the class of a state whose text is that of one of the program
  state-halves : (n : ℕ) (x : List ℕ) (o : Option ClassPart) → slice_get p.classes n ≡ o → (k : ℕ) (y : List ℕ) (c : ClassPart) → slice_get p.classes k ≡ Some c → text (state n x) ≡ text (state k y) → state n x ≡ state k y
  unfolding halves
  state-halves n x None is k y c at f = absurd (not-empty k c at (sym (ap (λ h. h.0) (some-same ([], x) (text_of c.name, y) (sym (ap (λ o. halves ((option_map_or (λ (d : ClassPart). text_of d.name) o [] ++ codes ".") ++ x)) is) ∙ ap halves f ∙ ap (λ z. halves ((z ++ codes ".") ++ y)) (class-text-is p placed clean (dotless p placed clean shaped) k c at) ∙ halves-of (text_of c.name) y (dotless p placed clean shaped k c at))))))
  state-halves n x (Some d) is k y c at f =
      let one : text (state n x) ≡ (text_of d.name ++ codes ".") ++ x = ap (λ z. (z ++ codes ".") ++ x) (class-text-is p placed clean (dotless p placed clean shaped) n d is) in
      let two : text (state k y) ≡ (text_of c.name ++ codes ".") ++ y = ap (λ z. (z ++ codes ".") ++ y) (class-text-is p placed clean (dotless p placed clean shaped) k c at) in
      let both : (text_of d.name, x) ≡ (text_of c.name, y) = some-same (text_of d.name, x) (text_of c.name, y) (sym (halves-of (text_of d.name) x (dotless p placed clean shaped n d is)) ∙ ap halves (sym one ∙ f ∙ two) ∙ halves-of (text_of c.name) y (dotless p placed clean shaped k c at)) in
      λ i. state (same-class p placed clean n k d c is at (ap (λ h. h.0) both) i) (ap (λ h. h.1) both i)

  pub state-same : (n : ℕ) (x : List ℕ) (w : Written) → Standing w → text (state n x) ≡ text w → state n x ≡ w
  state-same n x _ the_allocated f = absurd (not-dotted (text (state n x)) (codes "alloc") (dotted n x) refl f)
  state-same n x _ the_plain f = absurd (not-dotted (text (state n x)) (codes "Object") (dotted n x) refl f)
  state-same n x _ (the_objects k c is) f = absurd (not-dotted (text (state n x)) (class_text p k) (dotted n x) (class-dotless k c is) f)
  state-same n x _ (the_state k y c is) f = state-halves n x (slice_get p.classes n) refl k y c is f

  pub allocated-same : (w : Written) → Standing w → codes "alloc" ≡ text w → allocated ≡ w
  allocated-same _ the_allocated f = refl
  allocated-same _ the_plain f = absurd (true≢false (sym (is-same (codes "alloc") (codes "Object") f)))
  allocated-same _ (the_objects k c is) f = absurd (class-not-alloc p placed clean k c is (sym (class-text-is p placed clean (dotless p placed clean shaped) k c is) ∙ sym f))
  allocated-same _ (the_state k y c is) f = absurd (not-dotted (text (state k y)) (codes "alloc") (dotted k y) refl (sym f))

  pub plain-same : (w : Written) → Standing w → codes "Object" ≡ text w → plain_objects ≡ w
  plain-same _ the_allocated f = absurd (true≢false (sym (is-same (codes "Object") (codes "alloc") f)))
  plain-same _ the_plain f = refl
  plain-same _ (the_objects k c is) f = absurd (class-not-object p placed clean k c is (sym (class-text-is p placed clean (dotless p placed clean shaped) k c is) ∙ sym f))
  plain-same _ (the_state k y c is) f = absurd (not-dotted (text (state k y)) (codes "Object") (dotted k y) refl (sym f))

  pub objects-same : (n : ℕ) (d : ClassPart) → slice_get p.classes n ≡ Some d → (w : Written) → Standing w → text_of d.name ≡ text w → objects n ≡ w
  objects-same n d at _ the_allocated f = absurd (class-not-alloc p placed clean n d at f)
  objects-same n d at _ the_plain f = absurd (class-not-object p placed clean n d at f)
  objects-same n d at _ (the_objects k c is) f = ap objects (same-class p placed clean n k d c at is (f ∙ class-text-is p placed clean (dotless p placed clean shaped) k c is))
  objects-same n d at _ (the_state k y c is) f = absurd (not-dotted (text (state k y)) (text_of d.name) (dotted k y) (dotless p placed clean shaped n d at) (sym f))
