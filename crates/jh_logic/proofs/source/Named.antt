-- The names of the state of a lowered program are told apart.
use Rattle.std.proofs.Common.{◌≡◌, refl, sym, ap, subst, ◌∙◌, ℕ, zero, suc, ◌==◌, true, false, List, [], ◌∷◌, ◌++◌, Some, slice_get, codes, arith, ⊎_elim}
use Rattle.std.specs.List.{Contains}
use Rattle.std.proofs.lemmas.Bool.{true≢false}
use Rattle.std.proofs.lemmas.List.Elements.{Contains-append_cases}
use Rattle.jh_name.specs.declared.place.Kind.TheVariants as k
use Rattle.jh_ast.specs.Programs.{ProgramTree, ClassPart, FieldPart}
use Rattle.jh_rules.specs.declared.types.Ty.{Ty}
use Rattle.jh_rules.specs.declared.types.Ty.TheVariants as ty
use Rattle.jh_rules.specs.Breaks.{faults_of}
use Rattle.jh_rules.specs.Words.{text_of, halves}
use Rattle.jh_rules.specs.Kinds.{kind_of}
use Rattle.jh_rules.specs.Names.{MemberPart, field, var, method, member_word, members_of, number_of, type_of}
use Rattle.jh_rules.specs.Shape.{◌and◌, all_parts, class_parts, program_parts, field_parts, method_parts, var_parts, def_parts, labelled_parts, of_declared}
use Rattle.jh_vars.specs.Written.{Piece, field_piece}
use Rattle.jh_semantics.specs.Code.{Text}
use Rattle.jh_semantics.specs.Program.{Program, Member}
use Rattle.jh_semantics.specs.Locals.{has_dot}
use Rattle.jh_semantics.specs.WellFormed.{all_classes}
use Rattle.jh_semantics.specs.LoweredProgram.{program_of}
use Rattle.jh_semantics.specs.Typed.{IsType, AreApart, NamesFit}
use Rattle.jh_logic.specs.source.Placed.{IsPlaced}
use Rattle.jh_logic.proofs.source.Lists.{has-first, has-later, has-none, has-cases, at-has, has-at, map-from, map-at, some-same, no-none, or-true-right}
use Rattle.jh_logic.proofs.source.Texts.{is-same, declared-no-dot, declared-not-this}
use Rattle.jh_logic.proofs.source.Shaped.{Shaped, shaped-left, shaped-each}
use Rattle.jh_logic.proofs.source.Types.{null-not-named, kind-of-word}
use Rattle.jh_logic.proofs.source.Classes.{class-not-alloc, class-not-object, same-class, same-member}
use Rattle.jh_logic.proofs.source.Members.{member-of, MemberFrom, member-comes, PieceOf, of_field, of_ghost, piece-from, ghost-piece}
use Rattle.jh_logic.proofs.source.Statements.{type-is}
use Rattle.jh_logic.proofs.source.Declared.{halves-of, field-member, var-member, field-type, class-text-is, class-at-is, class-stands, declares}

-- a text with a dot in its middle
pub middle-dot : (a x : List ℕ) → has_dot ((a ++ codes ".") ++ x) ≡ true
middle-dot [] x = refl
middle-dot (c ∷ cs) x = or-true-right (c == 46) (has_dot ((cs ++ codes ".") ++ x)) (middle-dot cs x)

-- texts of which none stands at two places
apart-from : (xs : List Text) → ((i j : ℕ) (x : Text) → slice_get xs i ≡ Some x → slice_get xs j ≡ Some x → i ≡ j) → AreApart xs
apart-from [] h = tt
apart-from (x ∷ xs) h =
    (λ y i e. let r = has-at xs y i in no-place r.0 (h zero (suc r.0) y (ap (λ (z : Text). Some z) e) r.1), apart-from xs (λ i j y e f. less i j (h (suc i) (suc j) y e f)))
  where
    no-place : (k : ℕ) → zero ≡ suc k → ⊥
    no-place k e = omega (e, arith)

    less : (i j : ℕ) → suc i ≡ suc j → i ≡ j
    less i j e = omega (e, arith)

apart-more : (xs : List Text) (x : Text) → AreApart xs → ((y : Text) → Contains xs y → y ≡ x → ⊥) → AreApart (xs ++ x ∷ [])
apart-more [] x a h = ((λ y i. absurd (has-none y i)), tt)
apart-more (z ∷ zs) x a h = (
  λ y i e. ⊎_elim (λ j. a.0 y j e) (λ j. ⊎_elim (λ f. h z (has-first z zs) (e ∙ sym f)) (λ g. has-none y g) (has-cases x [] y j)) (Contains-append_cases zs (x ∷ []) y i),
  apart-more zs x a.1 (λ y i. h y (has-later z zs y i)),
)

module _ (p : ProgramTree) (placed : IsPlaced p) (clean : faults_of p ≡ []) (shaped : Shaped (program_parts p)) where
  abbrev P : Program
  P = program_of p

  pub class-shaped : (n : ℕ) (c : ClassPart) → slice_get p.classes n ≡ Some c → Shaped (class_parts c)
  class-shaped n c e = shaped-each class_parts p.classes shaped c (at-has p.classes n c e)

  pub dotless : (n : ℕ) (c : ClassPart) → slice_get p.classes n ≡ Some c → has_dot (text_of c.name) ≡ false
  dotless n c e = declared-no-dot (text_of c.name) ((shaped-left (of_declared c.name) (all_parts field_parts c.fields and all_parts method_parts c.methods and all_parts var_parts c.vars and all_parts def_parts c.defs and all_parts labelled_parts c.invariants) (class-shaped n c e)).declared c.name (has-first c.name []))

  pub class-not-this : (n : ℕ) (c : ClassPart) → slice_get p.classes n ≡ Some c → text_of c.name ≡ codes "this" → ⊥
  class-not-this n c e = declared-not-this (text_of c.name) ((shaped-left (of_declared c.name) (all_parts field_parts c.fields and all_parts method_parts c.methods and all_parts var_parts c.vars and all_parts def_parts c.defs and all_parts labelled_parts c.invariants) (class-shaped n c e)).declared c.name (has-first c.name []))

  -- a class of the program, by its text
  record ClassOf (x : Text) : Type 0 where
    number : ℕ
    class : ClassPart
    is : slice_get p.classes number ≡ Some class
    text : text_of class.name ≡ x

  class-of : (x : Text) → Contains P.classes x → ClassOf x
  class-of x i =
      let r = map-from (λ (c : ClassPart). text_of c.name) p.classes x i in
      let s = has-at p.classes r.0 r.1 in
      record { number = s.0; class = r.0; is = s.1; text = r.2 }

  each-class : (Q : Text → Type 0) → ((n : ℕ) (c : ClassPart) → slice_get p.classes n ≡ Some c → Q (text_of c.name)) → Q (codes "Object") → (x : Text) → Contains (all_classes P.classes) x → Q x
  each-class Q f o x i = ⊎_elim (λ j. let r = class-of x j in subst Q r.text (f r.number r.class r.is)) (λ j. ⊎_elim (λ e. subst Q e o) (λ k. absurd (has-none x k)) (has-cases (codes "Object") [] x j)) (Contains-append_cases P.classes (codes "Object" ∷ []) x i)

  classes-apart : AreApart (all_classes P.classes)
  classes-apart = apart-more P.classes (codes "Object") (apart-from P.classes (λ i j x e f. one i j x e f)) (λ y i e. let r = class-of y i in class-not-object p placed clean r.number r.class r.is (r.text ∙ e))
    where
      one : (i j : ℕ) (x : Text) → slice_get P.classes i ≡ Some x → slice_get P.classes j ≡ Some x → i ≡ j
      one i j x e f =
          let r = map-at (λ (c : ClassPart). text_of c.name) p.classes i x e in
          let s = map-at (λ (c : ClassPart). text_of c.name) p.classes j x f in
          same-class p placed clean i j r.0 s.0 r.1 s.1 (r.2 ∙ sym s.2)

  -- a piece is that of a member
  piece-at : MemberPart → Piece
  piece-at (field x) = field_piece x
  piece-at (var v) = ghost-piece v
  piece-at (method m) = record { word = m.name; kind = k.Obj; fixed = false; is_ghost = false }

  record MemberPiece (c : ClassPart) (z : Piece) : Type 0 where
    member : MemberPart
    stands : Contains (members_of c) member
    same : piece-at member ≡ z
    text : text_of (member_word member) ≡ text_of z.word

  member-piece : (c : ClassPart) (z : Piece) → PieceOf c z → MemberPiece c z
  unfolding piece-at
  member-piece c z (of_field x i) = record { member = field x; stands = field-member c x i; same = refl; text = refl }
  member-piece c z (of_ghost v i e) = record { member = var v; stands = var-member c v i; same = refl; text = refl }

  same-members : (x y : Member) → Contains P.members x → Contains P.members y → x.text ≡ y.text → x ≡ y
  same-members x y i j e =
      let a : MemberFrom p x = member-comes p x i in
      let b : MemberFrom p y = member-comes p y j in
      let texts : (text_of a.class.name ++ codes ".") ++ text_of a.piece.word ≡ (text_of b.class.name ++ codes ".") ++ text_of b.piece.word = ap (λ (m : Member). m.text) (sym a.same) ∙ e ∙ ap (λ (m : Member). m.text) b.same in
      let parts : (text_of a.class.name, text_of a.piece.word) ≡ (text_of b.class.name, text_of b.piece.word) = some-same (text_of a.class.name, text_of a.piece.word) (text_of b.class.name, text_of b.piece.word)
      (sym (halves-of (text_of a.class.name) (text_of a.piece.word) (dotless a.number a.class a.is)) ∙ ap halves texts ∙ halves-of (text_of b.class.name) (text_of b.piece.word) (dotless b.number b.class b.is)) in
      let number : a.number ≡ b.number = same-class p placed clean a.number b.number a.class b.class a.is b.is (ap (λ (h : Text × Text). h.0) parts) in
      let class : a.class ≡ b.class = some-same a.class b.class (sym a.is ∙ ap (slice_get p.classes) number ∙ b.is) in
      let u : MemberPiece a.class a.piece = member-piece a.class a.piece (piece-from a.class a.piece a.stands) in
      let v : MemberPiece b.class b.piece = member-piece b.class b.piece (piece-from b.class b.piece b.stands) in
      let members : u.member ≡ v.member = same-member p placed clean a.number a.class a.is u.member v.member u.stands (subst (λ (c : ClassPart). Contains (members_of c) v.member) (sym class) v.stands) (u.text ∙ ap (λ (h : Text × Text). h.1) parts ∙ sym v.text) in
      let pieces : a.piece ≡ b.piece = sym u.same ∙ ap piece-at members ∙ v.same in
      a.same ∙ (λ q. member-of p (number q) (class q) (pieces q)) ∙ sym b.same

  -- of a member that has a type
  typed-member : (Q : Member → Ty → Type 0) → ((n : ℕ) (c : ClassPart) → slice_get p.classes n ≡ Some c → (x : FieldPart) → Contains c.fields x → (u : Ty) → type_of (number_of p) x.jtype ≡ Some u → Q (member-of p n c (field_piece x)) u) →
      (y : Member) (u : Ty) → Contains P.members y → y.type ≡ Some u → Q y u
  typed-member Q f y u i e =
      let a : MemberFrom p y = member-comes p y i in
      subst (λ (z : Member). Q z u) (sym a.same) (by a.number a.class a.is a.piece (piece-from a.class a.piece a.stands) (ap (λ (m : Member). m.type) (sym a.same) ∙ e))
    where
      by : (n : ℕ) (c : ClassPart) → slice_get p.classes n ≡ Some c → (z : Piece) → PieceOf c z → (member-of p n c z).type ≡ Some u → Q (member-of p n c z) u
      by n c h z (of_field x i) g = f n c h x i u (sym (field-type p placed clean dotless n c h x i) ∙ g)
      by n c h z (of_ghost v i b) g = absurd (no-none u g)

  -- The names fit.
  pub names-fit : NamesFit P
  names-fit = record {
    dotless = each-class (λ x. has_dot x ≡ false) dotless refl;
    not_alloc = each-class (λ x. x ≡ codes "alloc" → ⊥) (class-not-alloc p placed clean) (λ e. true≢false (sym (is-same (codes "Object") (codes "alloc") e)));
    classes = classes-apart;
    members = same-members;
    dots = λ x i. let a : MemberFrom p x = member-comes p x i in ap (λ (m : Member). has_dot m.text) a.same ∙ middle-dot (text_of a.class.name) (text_of a.piece.word);
    of_class = λ x i. let a : MemberFrom p x = member-comes p x i in subst (Contains P.classes) (class-at-is p placed clean dotless a.number a.class a.is ∙ sym (class-text-is p placed clean dotless a.number a.class a.is) ∙ ap (λ (m : Member). m.class) (sym a.same)) (class-stands p placed clean dotless a.number a.class a.is);
    types = λ x u i e. typed-member (λ y v. IsType P v) (λ n c h y k v g. type-is p (declares p placed clean dotless) y.jtype v g) x u i e;
    not_null = λ x i e. typed-member (λ y v. v ≡ ty.Null → ⊥) (λ n c h y k v g. null-not-named (number_of p) y.jtype v g) x ty.Null i e refl;
    kinds = λ x u i e. typed-member (λ y v. kind_of v ≡ y.kind) (λ n c h y k v g. kind-of-word (number_of p) y.jtype v g) x u i e;
  }
