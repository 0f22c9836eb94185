-- The classes of a made source, and the whole of it.
use Rattle.std.proofs.Common.{◌≡◌, ℕ, zero, suc, ◌+◌, true, List, [], ◌∷◌, ◌++◌, map, length, None, refl, ap, sym, subst, ◌∙◌, arith, append_assoc, length-append, codes}
use Rattle.std.specs.List.{flat_map}
use Rattle.jh_name.specs.declared.place.Place.{Place}
use Rattle.jh_lex.specs.declared.lexer.symbol.Symbol.TheVariants as symbol
use Rattle.jh_lex.specs.declared.lexer.token.Token.{Token}
use Rattle.jh_lex.specs.declared.lexer.token.TokenKind.{TokenKind}
use Rattle.jh_lex.specs.declared.lexer.token.TokenKind.TheVariants as kind
use Rattle.jh_ast.specs.declared.word.Word.{Word}
use Rattle.jh_ast.specs.declared.word.JType.TheVariants as jtype
use Rattle.jh_ast.specs.Programs.{FieldPart, MethodPart}
use Rattle.jh_operators.specs.lookahead.Lists.{Many, none, more}
use Rattle.jh_operators.specs.lookahead.Modifiers.{Modifiers, no_more, one_more}
use Rattle.jh_operators.specs.lookahead.Standing.{place_at}
use Rattle.jh_obligations.specs.jh_parse.statements.Statements.{of_class, an_int}
use Rattle.jh_obligations.specs.jh_parse.programs.Separated.{last}
use Rattle.jh_obligations.specs.jh_parse.programs.Members.{of_members, plain, fields, MemberTree, of_fields, of_method, Member, a_field, a_method, fields_of, methods_of, items_of, variables_of, definitions_of, invariants_of, class_of, no_head, Class, class, program}
use Rattle.jh_gen_laws.specs.tokens.Pieces.{items_kinds, method_items, first_items, last_items, methods_kinds, source_kinds}
use Rattle.jh_gen_laws.specs.typing.Trees as trees
use Rattle.jh_gen_laws.specs.typing.Trees.{IsMethod, AreMethods, IsMade, made}
use Rattle.jh_gen_laws.specs.spelling.Laws.{MadeIsSpelled}
use Rattle.jh_gen_laws.proofs.spelling.Standing as standing
use Rattle.jh_gen_laws.proofs.spelling.Standing.{At, spelled, next, is, word-is, end}
use Rattle.jh_gen_laws.proofs.spelling.Members.{method-read, static-at}

-- ---- the members of a class

join-many : {A : Type 0} {One : ℕ → ℕ → A → ℕ → ℕ → Type 0} {n i j k l m : ℕ} {xs ys : List A} → Many One n i xs j k → Many One k j ys l m → Many One n i (xs ++ ys) l m
join-many none b = b
join-many (more x a) b = more x (join-many a b)

-- methods that were read
abbrev members : List MethodPart → List MemberTree
members ms = map of_method ms

join-methods : (a b : ℕ) (xs : List MethodPart) (m : MethodPart) → AreMethods a xs → a + length xs ≡ b → IsMethod b m → AreMethods a (xs ++ m ∷ [])
join-methods a b [] m trees.none e one = subst (λ n. AreMethods n (m ∷ [])) {x = b} {y = a} (omega (arith, e)) (trees.more one trees.none)
join-methods a b (x ∷ xs) m (trees.more is rest) e one = trees.more is (join-methods (suc a) b xs m rest (omega (arith, e)) one)

map-snoc : (xs : List MethodPart) (m : MethodPart) → members (xs ++ m ∷ []) ≡ members xs ++ of_method m ∷ []
map-snoc [] m = refl
map-snoc (x ∷ xs) m = ap (λ ys. of_method x ∷ ys) (map-snoc xs m)

fields-none : (ms : List MethodPart) → flat_map fields_of (members ms) ≡ []
fields-none [] = refl
fields-none (m ∷ ms) = fields-none ms

methods-all : (ms : List MethodPart) → flat_map methods_of (members ms) ≡ ms
methods-all [] = refl
methods-all (m ∷ ms) = ap (λ xs. m ∷ xs) (methods-all ms)

items-none : (ms : List MethodPart) → flat_map items_of (members ms) ≡ []
items-none [] = refl
items-none (m ∷ ms) = items-none ms

-- a class of these fields and methods
class-is : (w : Word) (a b c : FieldPart) (ms : List MethodPart) → class_of w (of_fields (a ∷ []) ∷ of_fields (b ∷ []) ∷ of_fields (c ∷ []) ∷ members ms) ≡ record { name = w; fields = a ∷ b ∷ c ∷ []; methods = ms; vars = []; defs = []; invariants = [] }
class-is w a b c ms = λ j. record {
  name = w;
  fields = a ∷ b ∷ c ∷ fields-none ms j;
  methods = methods-all ms j;
  vars = flat_map variables_of (items-none ms j);
  defs = flat_map definitions_of (items-none ms j);
  invariants = flat_map invariants_of (items-none ms j);
}

-- the methods 1 to n, and what stands behind them
record AreRead (ts : List Token) (n number i : ℕ) (rest : List TokenKind) : Type 0 where
  list : List MethodPart
  end : ℕ
  after : ℕ
  read : Many (Member ts) number i (members list) end after
  are : AreMethods 1 list
  count : length list ≡ n
  behind : At ts end rest

module _ {ts : List Token} where
  methods-read : (seed n number : ℕ) {i : ℕ} (rest : List TokenKind) → At ts i (methods_kinds seed n ++ rest) → AreRead ts n number i rest
  methods-read seed zero number rest a = record { list = []; end = _; after = _; read = none; are = trees.none; count = refl; behind = a }
  methods-read seed (suc n) number {i} rest a =
      let split : At ts i (methods_kinds seed n ++ (items_kinds (method_items seed (suc n)) ++ rest)) = subst (At ts i) (append_assoc (methods_kinds seed n) (items_kinds (method_items seed (suc n))) rest) a in
      let before = methods-read seed n number (items_kinds (method_items seed (suc n)) ++ rest) split in
      let one = method-read seed (suc n) before.after rest before.behind in
      record {
        list = before.list ++ one.part ∷ [];
        end = one.end;
        after = one.after;
        read = subst (λ xs. Many (Member ts) number i xs one.end one.after) (sym (map-snoc before.list one.part)) (join-many before.read (more (a_method one.read) none));
        are = join-methods 1 (suc n) before.list one.part before.are (omega (arith, before.count)) one.is;
        count = omega (arith, length-append before.list (one.part ∷ []), before.count);
        behind = one.behind;
      }

  -- ---- fields

  static-modifier : {i : ℕ} {ks : List TokenKind} → At ts i (kind.Symbol symbol.Static ∷ ks) → Modifiers ts of_members i (symbol.Static ∷ []) (i + 1)
  static-modifier a = one_more (static-at a) refl no_more

  static-object : (n : ℕ) {i : ℕ} {t : List ℕ} {ks : List TokenKind} → At ts i (kind.Symbol symbol.Static ∷ spelled (codes "Object") ∷ spelled t ∷ kind.Symbol symbol.Semicolon ∷ ks)
      → Member ts n i (of_fields (trees.static_object (place_at ts (i + 1)) (place_at ts (i + 1 + 1)) t ∷ [])) (i + 1 + 1 + 1 + 1) n
  static-object n a0 =
      let a1 = next a0 in
      let a2 = next a1 in
      let a3 = next a2 in
      a_field (fields (static-modifier a0) (of_class (word-is a1)) (last (plain (word-is a2))) (is a3))

  static-number : (n : ℕ) {i : ℕ} {t : List ℕ} {ks : List TokenKind} → At ts i (kind.Symbol symbol.Static ∷ kind.Symbol symbol.Int ∷ spelled t ∷ kind.Symbol symbol.Semicolon ∷ ks)
      → Member ts n i (of_fields (record { name = trees.word_at (place_at ts (i + 1 + 1)) t; jtype = jtype.Int; fixed = true; init = None } ∷ [])) (i + 1 + 1 + 1 + 1) n
  static-number n a0 =
      let a1 = next a0 in
      let a2 = next a1 in
      let a3 = next a2 in
      a_field (fields (static-modifier a0) (an_int (is a1)) (last (plain (word-is a2))) (is a3))

  pub behind4 : {i : ℕ} {a b c d : TokenKind} {ks : List TokenKind} → At ts i (a ∷ b ∷ c ∷ d ∷ ks) → At ts (i + 1 + 1 + 1 + 1) ks
  behind4 a = next (next (next (next a)))

  -- the first class
  cell-class : {ks : List TokenKind} → At ts 0 (kind.Symbol symbol.Class ∷ spelled (codes "Cell") ∷ kind.Symbol symbol.LeftBrace ∷ kind.Symbol symbol.Int ∷ spelled (codes "f") ∷ kind.Symbol symbol.Semicolon ∷ kind.Symbol symbol.RightBrace ∷ ks)
      → (q1 q2 : Place) × (j : ℕ) × Class ts 0 0 (trees.cell_class q1 q2) j 0 × At ts j ks
  cell-class a0 =
      let a1 = next a0 in
      let a2 = next a1 in
      let a3 = next a2 in
      let a4 = next a3 in
      let a5 = next a4 in
      let a6 = next a5 in
      (_, _, _, class no_head (is a0) (word-is a1) (is a2) (more (a_field (fields no_more (an_int (is a3)) (last (plain (word-is a4))) (is a5))) none) (is a6), next a6)

  -- the second class, which has the methods
  gen-class : (seed n : ℕ) {i : ℕ} (rest : List TokenKind)
      → At ts i (kind.Symbol symbol.Class ∷ spelled (codes "Gen") ∷ kind.Symbol symbol.LeftBrace ∷ kind.Symbol symbol.Static ∷ spelled (codes "Object") ∷ spelled (codes "a") ∷ kind.Symbol symbol.Semicolon
      ∷ kind.Symbol symbol.Static ∷ spelled (codes "Object") ∷ spelled (codes "b") ∷ kind.Symbol symbol.Semicolon ∷ kind.Symbol symbol.Static ∷ kind.Symbol symbol.Int ∷ spelled (codes "n") ∷ kind.Symbol symbol.Semicolon
      ∷ (methods_kinds seed n ++ kind.Symbol symbol.RightBrace ∷ rest))
      → (q3 q4 q5 q6 q7 q8 : Place) × (ms : List MethodPart) × (length ms ≡ n) × AreMethods 1 ms × (j m : ℕ) × Class ts 0 i (trees.gen_class q3 q4 q5 q6 q7 q8 ms) j m × At ts j rest
  gen-class seed n {i} rest a0 =
      let a1 = next a0 in
      let a2 = next a1 in
      let a3 = next a2 in
      let b = behind4 a3 in
      let c = behind4 b in
      let read = methods-read seed n 0 (kind.Symbol symbol.RightBrace ∷ rest) (behind4 c) in
      let all = more (static-object 0 a3) (more (static-object 0 b) (more (static-number 0 c) read.read)) in
      let whole = class no_head (is a0) (word-is a1) (is a2) all (is read.behind) in
      (_, _, _, _, _, _, read.list, read.count, read.are, _, read.after, subst (λ x. Class ts 0 i x (read.end + 1) read.after) (class-is (trees.word_at (place_at ts (i + 1)) (codes "Gen")) _ _ _ read.list) whole, next read.behind)

-- ---- the program

kinds-split : (seed n : ℕ) → source_kinds seed n ++ kind.End ∷ [] ≡ items_kinds first_items ++ (methods_kinds seed n ++ (items_kinds last_items ++ kind.End ∷ []))
kinds-split seed n =
    append_assoc (items_kinds first_items) (methods_kinds seed n ++ items_kinds last_items) (kind.End ∷ [])
    ∙ ap (λ ks. items_kinds first_items ++ ks) (append_assoc (methods_kinds seed n) (items_kinds last_items) (kind.End ∷ []))

pub made-is-spelled : MadeIsSpelled
made-is-spelled seed n ts e =
    let a0 : At ts 0 (items_kinds first_items ++ (methods_kinds seed n ++ (kind.Symbol symbol.RightBrace ∷ kind.End ∷ []))) = record { rest = e ∙ kinds-split seed n } in
    let cell = cell-class a0 in
    let gen = gen-class seed n (kind.End ∷ []) cell.4 in
    record {
      program = _;
      spelled = program (more cell.3 (more gen.11 none)) (end gen.12) (standing.last gen.12);
      is = made cell.0 cell.1 gen.0 gen.1 gen.2 gen.3 gen.4 gen.5 gen.6 gen.7 gen.8;
    }
