-- Programs that texts spell fit heap texts.
use Rattle.std.proofs.Common.{◌≡◌, refl, sym, ap, subst, ◌∙◌, ⊎_elim, ℕ, Bool, true, false, not, ◌&&◌, ◌||◌, ◌==◌, if◌then◌else◌, List, [], ◌∷◌, ◌++◌, map, Option, Some, None, slice_get, codes, length, arith, IsUtf8}
use Rattle.std.specs.List.{Contains, list_any, AllByRecursion}
use Rattle.std.specs.Option.{option_map_or}
use Rattle.std.specs.Str.{is_utf8}
use Rattle.std.proofs.lemmas.Bool.{ne_eqb, true≢false}
use Rattle.std.proofs.lemmas.List.Elements.{Contains-append_cases}
use Rattle.std.proofs.lemmas.Str.{IsUtf8-append, IsUtf8-from_is_utf8, is_utf8-from_IsUtf8}
use Rattle.jh_name.specs.declared.place.Place.{Place}
use Rattle.jh_lex.specs.lexer.Lexes.{Lexes}
use Rattle.jh_lex.specs.lexer.Rising.{Rises}
use Rattle.jh_lex.specs.declared.lexer.token.Token.{Token}
use Rattle.jh_lex.specs.declared.lexer.token.TokenKind.{TokenKind}
use Rattle.jh_lex.specs.declared.lexer.token.TokenKind.TheVariants as kind
use Rattle.jh_lex.proofs.lexer.Shaped.{source_has_shape}
use Rattle.jh_lex.proofs.lexer.Rises.{source_rises}
use Rattle.jh_ast.specs.declared.word.Word.{Word}
use Rattle.jh_ast.specs.declared.word.JType.{JType}
use Rattle.jh_ast.specs.declared.word.JType.TheVariants as j
use Rattle.jh_ast.specs.declared.word.Param.{Param}
use Rattle.jh_ast.specs.Programs.{ProgramTree, ClassPart, FieldPart, VarPart}
use Rattle.jh_rules.specs.declared.types.Ty.TheVariants as ty
use Rattle.jh_rules.specs.Breaks.{faults_of}
use Rattle.jh_rules.specs.Words.{text_of, same_text}
use Rattle.jh_rules.specs.Names.{field, var, declared_in}
use Rattle.jh_rules.specs.Shape.{◌and◌, program_parts, class_parts, field_parts, method_parts, var_parts, def_parts, labelled_parts, expr_parts, spec_parts, of_declared, of_type, of_param, all_parts, some_parts, may_be_declared, is_empty, is_forbidden, is_not_void}
use Rattle.jh_vars.specs.Written.{Callee, Piece}
use Rattle.jh_semantics.specs.Code.{Text, Local}
use Rattle.jh_semantics.specs.Program.{Program, Method, Member}
use Rattle.jh_semantics.specs.WellFormed.{all_classes}
use Rattle.jh_semantics.specs.LoweredStmts.{word_type, local_code}
use Rattle.jh_semantics.specs.LoweredProgram.{program_of, method_code}
use Rattle.jh_semantics.specs.Typed.{IsType, ParamsFit, MethodFits}
use Rattle.jh_logic.specs.source.Laws.{IsAccepted}
use Rattle.jh_logic.proofs.source.Lists.{some-same, no-none, has-none, has-first, has-cases, has-at, at-has, map-from, or-false-left, or-false-right, not-true}
use Rattle.jh_logic.proofs.source.Shaped.{Shaped, shaped-left, shaped-right, shaped-each, shaped-program}
use Rattle.jh_logic.proofs.source.Classes.{faultless}
use Rattle.jh_logic.proofs.source.Members.{PieceOf, of_field, of_ghost, piece-from, MemberFrom, member-comes}
use Rattle.jh_logic.proofs.source.Declared.{field-member, var-member}
use Rattle.jh_logic.proofs.source.Named.{class-shaped}
use Rattle.jh_logic.proofs.source.Methods.{method-at, method-code, params-shaped}
use Rattle.jh_logic.proofs.source.Fits.{fits}
use Rattle.jh_operators.specs.lookahead.Standing.{word_of}
use Rattle.jh_logic.specs.text.Laws.{SpelledHasShape, SpelledIsPlaced, SpelledIsWritten, IsWordOf, IsWritten}
use Rattle.jh_heap.specs.lines.Bytes.{cut}
use Rattle.jh_heap.specs.lines.Lines.{is_plain, is_dotted, is_dotted_at}
use Rattle.jh_heap_theorems.specs.round_trip.Names.{has, IsWord, TextsFit, HasValues, SignatureFits}
use Rattle.jh_heap_theorems.proofs.round_trip.Words.{clean-ascii, cut-word, has-append}
use Rattle.jh_heap_theorems.specs.program_fits.Laws.{SpelledFits}
use Rattle.jh_heap_theorems.proofs.program_fits.Utf8.{IsText, words-are-utf8}
use Rattle.jh_heap_theorems.proofs.program_fits.Once.{members-once}

-- ---- texts that may be declared
module _ (x : List ℕ) (h : may_be_declared x ≡ true) where
  right : (is_empty x || (list_any is_forbidden x || same_text x (codes "this"))) ≡ false
  right = not-true (is_empty x || (list_any is_forbidden x || same_text x (codes "this"))) h

  some : is_empty x ≡ false
  some = or-false-left (is_empty x) (list_any is_forbidden x || same_text x (codes "this")) right

  allowed : list_any is_forbidden x ≡ false
  allowed = or-false-left (list_any is_forbidden x) (same_text x (codes "this")) (or-false-right (is_empty x) (list_any is_forbidden x || same_text x (codes "this")) right)

-- neither a space, a line feed nor a dot
record Lacks (x : List ℕ) : Type 0 where
  blank : has 32 x ≡ false
  feed : has 10 x ≡ false
  dot : has 46 x ≡ false

lacks : (x : List ℕ) → list_any is_forbidden x ≡ false → Lacks x
lacks [] e = record { blank = refl; feed = refl; dot = refl }
lacks (c ∷ cs) e =
    let here = or-false-left (is_forbidden c) (list_any is_forbidden cs) e in
    let rest = lacks cs (or-false-right (is_forbidden c) (list_any is_forbidden cs) e) in
    let other = or-false-right (c == 32) ((c == 10) || (c == 46)) here in
    record {
      blank = λ i. or-false-left (c == 32) ((c == 10) || (c == 46)) here i || rest.blank i;
      feed = λ i. or-false-left (c == 10) (c == 46) other i || rest.feed i;
      dot = λ i. or-false-right (c == 10) (c == 46) other i || rest.dot i;
    }

-- a text that may be declared and is UTF-8
record IsName (x : Text) : Type 0 where
  lacks : Lacks x
  some : is_empty x ≡ false
  utf8 : is_utf8 x ≡ true

named : (x : Text) → may_be_declared x ≡ true → is_utf8 x ≡ true → IsName x
named x h u = record { lacks = lacks x (allowed x h); some = some x h; utf8 = u }

name-word : (x : Text) → IsName x → IsWord x
name-word x n = record { blank = n.lacks.blank; feed = n.lacks.feed; utf8 = n.utf8 }

length-some : (x : Text) → is_empty x ≡ false → length x == 0 ≡ false
length-some [] e = absurd (true≢false e)
length-some (c ∷ cs) e = ne_eqb (length (c ∷ cs)) 0 (λ none. omega (arith, none))

name-plain : (x : Text) → IsName x → is_plain x ≡ true
name-plain x n = λ i. not (length-some x n.some i) && not (n.lacks.dot i)

dot-utf8 : IsUtf8 (codes ".")
dot-utf8 = (clean-ascii (codes ".") refl refl).utf8

-- two names and a dot between them
dotted-word : (x y : Text) → IsName x → IsName y → IsWord ((x ++ codes ".") ++ y)
dotted-word x y n m = record {
  blank = has-append 32 (x ++ codes ".") y (has-append 32 x (codes ".") n.lacks.blank refl) m.lacks.blank;
  feed = has-append 10 (x ++ codes ".") y (has-append 10 x (codes ".") n.lacks.feed refl) m.lacks.feed;
  utf8 = is_utf8-from_IsUtf8 ((x ++ codes ".") ++ y) (IsUtf8-append (x ++ codes ".") y (IsUtf8-append x (codes ".") (IsUtf8-from_is_utf8 x n.utf8) dot-utf8) (IsUtf8-from_is_utf8 y m.utf8));
}

dot-between : (x y : Text) → (x ++ codes ".") ++ y ≡ x ++ (46 ∷ y)
dot-between [] y = refl
dot-between (c ∷ cs) y = ap (λ zs. c ∷ zs) (dot-between cs y)

dotted-is : (x y : Text) → IsName x → IsName y → is_dotted ((x ++ codes ".") ++ y) ≡ true
unfolding is_dotted
dotted-is x y n m = ap (λ zs. is_dotted_at (cut 46 zs)) (dot-between x y) ∙ ap is_dotted_at (cut-word 46 x y n.lacks.dot) ∙ (λ i. not (length-some x n.some i) && name-plain y m i)

object-name : IsName (codes "Object")
object-name = named (codes "Object") refl (is_utf8-from_IsUtf8 (codes "Object") (clean-ascii (codes "Object") refl refl).utf8)

-- ---- words of tokens
kind-utf8 : (w : Word) (k : TokenKind) (place : Place) → IsText k → word_of k place ≡ Some w → is_utf8 (text_of w) ≡ true
kind-utf8 w (kind.Word n) place u e = subst (λ (v : Word). is_utf8 (text_of v) ≡ true) (some-same (record { text = n; place = place }) w e) u
kind-utf8 w (kind.Qualified n) place u e = absurd (no-none w e)
kind-utf8 w (kind.Symbol x) place u e = absurd (no-none w e)
kind-utf8 w (kind.Number z) place u e = absurd (no-none w e)
kind-utf8 w kind.SpecOpen place u e = absurd (no-none w e)
kind-utf8 w kind.SpecClose place u e = absurd (no-none w e)
kind-utf8 w kind.QuoteOpen place u e = absurd (no-none w e)
kind-utf8 w kind.QuoteClose place u e = absurd (no-none w e)
kind-utf8 w kind.End place u e = absurd (no-none w e)

token-utf8 : (w : Word) (o : Option Token) → ((t : Token) → o ≡ Some t → IsText t.kind) → option_map_or (λ (t : Token). word_of t.kind t.place) o None ≡ Some w → is_utf8 (text_of w) ≡ true
token-utf8 w None h e = absurd (no-none w e)
token-utf8 w (Some t) h e = kind-utf8 w t.kind t.place (h t refl) e

-- ---- values of types
values-of : (p : ProgramTree) (w : JType) → is_not_void w ≡ true → HasValues (word_type p w)
values-of p j.Int h = tt
values-of p j.Boolean h = tt
values-of p j.Void h = absurd (true≢false (sym h))
values-of p (j.Class w) h = by ((declared_in p).class_named (text_of w)) (same_text (text_of w) (codes "Object"))
  where
    by : (o : Option ℕ) (b : Bool) → HasValues (option_map_or (λ x. x) (option_map_or (λ n. Some (ty.Class n)) o (if b then Some ty.Object else None)) ty.Object)
    by (Some n) b = tt
    by None true = tt
    by None false = tt

module _ (bytes : List ℕ) (ts : List Token) (p : ProgramTree) (lexes : Lexes bytes ts) (ok : IsAccepted p) (written : (c : ClassPart) → Contains p.classes c → IsWritten ts c) where
  abbrev P : Program
  P = program_of p

  clean : faults_of p ≡ []
  clean = faultless p ok.fine

  shaped : Shaped (program_parts p)
  shaped = shaped-program p ok.shape

  -- a word of the tokens is UTF-8
  word-utf8 : (w : Word) → IsWordOf ts w → is_utf8 (text_of w) ≡ true
  word-utf8 w (i, e) = token-utf8 w (slice_get ts i) (λ t h. words-are-utf8 bytes ts lexes i t h) e

  module _ (n : ℕ) (c : ClassPart) (is : slice_get p.classes n ≡ Some c) where
    there : Contains p.classes c
    there = at-has p.classes n c is

    class-parts : Shaped (class_parts c)
    class-parts = class-shaped p ok.placed clean shaped n c is

    class-name : IsName (text_of c.name)
    class-name = named (text_of c.name)
        ((shaped-left (of_declared c.name) (all_parts field_parts c.fields and all_parts method_parts c.methods and all_parts var_parts c.vars and all_parts def_parts c.defs and all_parts labelled_parts c.invariants) class-parts).declared c.name (has-first c.name []))
        (word-utf8 c.name (written c there).name)

    behind-name : Shaped (all_parts field_parts c.fields and all_parts method_parts c.methods and all_parts var_parts c.vars and all_parts def_parts c.defs and all_parts labelled_parts c.invariants)
    behind-name = shaped-right (of_declared c.name) (all_parts field_parts c.fields and all_parts method_parts c.methods and all_parts var_parts c.vars and all_parts def_parts c.defs and all_parts labelled_parts c.invariants) class-parts

    all-fields : Shaped (all_parts field_parts c.fields)
    all-fields = shaped-left (all_parts field_parts c.fields) (all_parts method_parts c.methods and all_parts var_parts c.vars and all_parts def_parts c.defs and all_parts labelled_parts c.invariants) behind-name

    all-vars : Shaped (all_parts var_parts c.vars)
    all-vars = shaped-left (all_parts var_parts c.vars) (all_parts def_parts c.defs and all_parts labelled_parts c.invariants)
        (shaped-right (all_parts method_parts c.methods) (all_parts var_parts c.vars and all_parts def_parts c.defs and all_parts labelled_parts c.invariants)
        (shaped-right (all_parts field_parts c.fields) (all_parts method_parts c.methods and all_parts var_parts c.vars and all_parts def_parts c.defs and all_parts labelled_parts c.invariants) behind-name))

    field-declared : (x : FieldPart) → Contains c.fields x → IsName (text_of x.name)
    field-declared x i = named (text_of x.name)
        ((shaped-left (of_declared x.name) (some_parts expr_parts x.init) (shaped-right (of_type x.jtype) (of_declared x.name and some_parts expr_parts x.init) (shaped-each field_parts c.fields all-fields x i))).declared x.name (has-first x.name []))
        (word-utf8 x.name ((written c there).members (field x) (field-member c x i)))

    var-declared : (v : VarPart) → Contains c.vars v → IsName (text_of v.name)
    var-declared v i = named (text_of v.name)
        ((shaped-left (of_declared v.name) (some_parts spec_parts v.init) (shaped-each var_parts c.vars all-vars v i)).declared v.name (has-first v.name []))
        (word-utf8 v.name ((written c there).members (var v) (var-member c v i)))

    piece-name : (z : Piece) → PieceOf c z → IsName (text_of z.word)
    piece-name z (of_field x i) = field-declared x i
    piece-name z (of_ghost v i e) = var-declared v i

  -- a text of a class, or that of plain objects
  class-named : (x : Text) → Contains (all_classes P.classes) x → IsName x
  class-named x i = ⊎_elim
      (λ k. let r = map-from (λ (c : ClassPart). text_of c.name) p.classes x k in let s = has-at p.classes r.0 r.1 in subst IsName r.2 (class-name s.0 r.0 s.1))
      (λ k. ⊎_elim (λ e. subst IsName e object-name) (λ g. absurd (has-none x g)) (has-cases (codes "Object") [] x k))
      (Contains-append_cases P.classes (codes "Object" ∷ []) x i)

  -- the two names of a member
  member-is : (Q : Text → Type 0) → ((x y : Text) → IsName x → IsName y → Q ((x ++ codes ".") ++ y)) → (m : Member) → Contains P.members m → Q m.text
  member-is Q f m i =
      let a : MemberFrom p m = member-comes p m i in
      subst Q (ap (λ (z : Member). z.text) (sym a.same)) (f (text_of a.class.name) (text_of a.piece.word) (class-name a.number a.class a.is) (piece-name a.number a.class a.is a.piece (piece-from a.class a.piece a.stands)))

  texts-fit : TextsFit P
  texts-fit = record {
    class_words = λ c i. name-word c (class-named c i);
    plain = λ c i. name-plain c (class-named c i);
    member_words = λ m i. member-is IsWord dotted-word m i;
    dotted = λ m i. member-is (λ x. is_dotted x ≡ true) dotted-is m i;
    once = members-once p ok.placed clean shaped (λ c i. ((written c i).fields, (written c i).vars));
  }

  params-fit : (of_class : Option ℕ) (before : List Local) (ds : List Param) → Shaped (all_parts of_param ds) → ParamsFit P of_class before (map (local_code p) ds) → AllByRecursion (λ (x : Local). IsType P x.type × HasValues x.type) (map (local_code p) ds)
  unfolding all_parts
  params-fit of_class before [] h fit = tt
  params-fit of_class before (d ∷ ds) h fit = (
    (fit.0.type_fits, values-of p d.jtype ((shaped-each of_param (d ∷ ds) h d (has-first d ds)).types d.jtype (has-first d.jtype []))),
    params-fit of_class (before ++ (local_code p d ∷ [])) ds (shaped-right (of_param d) (all_parts of_param ds) h) fit.1,
  )

  signature-fits : (m : Callee) (x : Method) → P.method m ≡ Some x → SignatureFits P x
  signature-fits m x e =
      let r = method-code p m x e in
      let at = method-at p m r.0 r.1 in
      let fit : MethodFits P x = (fits p ok.placed clean shaped ok.shape.numbers).methods m x e in
      record {
        of_class = fit.of_class;
        params = subst (λ (z : Method). AllByRecursion (λ (x : Local). IsType P x.type × HasValues x.type) z.params) r.2
            (params-fit (method_code p m.class r.0).this [] r.0.params (params-shaped p ok.placed clean shaped m.class at.class at.is r.0 at.stands) (subst (λ (z : Method). ParamsFit P z.this [] z.params) (sym r.2) fit.params));
      }

pub spelled-fits : SpelledHasShape → SpelledIsPlaced → SpelledIsWritten → SpelledFits
spelled-fits has-shape is-placed is-written bytes ts p lexes spells fine =
    let rises : Rises ts = source_rises bytes ts lexes in
    let ok : IsAccepted p = record { shape = has-shape ts p (source_has_shape bytes ts lexes) spells; placed = is-placed ts p rises spells; fine = fine } in
    let written : (c : ClassPart) → Contains p.classes c → IsWritten ts c = is-written ts p rises spells in
    record { texts = texts-fit bytes ts p lexes ok written; signatures = signature-fits bytes ts p lexes ok written }
