-- A source that is made, as pieces: each is a word, a number or a sign, two words with a dot between them, or white space.
use Rattle.std.specs.Prelude.{ℕ, zero, suc, ◌+◌, ◌%◌, ◌==◌, pos, if◌then◌else◌, List, [], ◌∷◌, ◌++◌, codes, option_map, unwrap_or}
use Rattle.std.specs.Fmt.{decimal}
use Rattle.std.specs.Option.{option_map_or}
use Rattle.jh_lex.specs.lexer.Symbols.{signs, reserved, find_text}
use Rattle.jh_lex.specs.declared.lexer.mode.Mode.{Mode}
use Rattle.jh_lex.specs.declared.lexer.mode.Mode.TheVariants.{Code, Specification, Formula}
use Rattle.jh_lex.specs.declared.lexer.token.TokenKind.{TokenKind}
use Rattle.jh_lex.specs.declared.lexer.token.TokenKind.TheVariants as kind
use Rattle.jh_gen.specs.Generated.{number_of}

pub data Piece : Type 0 where
  space : ℕ → Piece
  word : List ℕ → Piece
  pair : List ℕ → List ℕ → Piece
  digit : ℕ → Piece
  sign : List ℕ → Piece

-- what stands in a specification: a piece, or a formula in quotes
pub data Part : Type 0 where
  plain : Piece → Part
  quote : List Piece → Part

-- what stands in code: a piece, or a specification
pub data Item : Type 0 where
  code : Piece → Item
  specification : List Part → Item

-- ---- the text

abbrev pub text_of : Piece → List ℕ
text_of (space c) = c ∷ []
text_of (word t) = t
text_of (pair a b) = a ++ 46 ∷ b
text_of (digit k) = decimal k
text_of (sign t) = t

-- the text of pieces, and then the rest
abbrev pub pieces_before : List Piece → List ℕ → List ℕ
pieces_before [] rest = rest
pieces_before (x ∷ xs) rest = text_of x ++ pieces_before xs rest

abbrev pub part_before : Part → List ℕ → List ℕ
part_before (plain x) rest = text_of x ++ rest
part_before (quote xs) rest = 34 ∷ pieces_before xs (34 ∷ rest)

abbrev pub parts_before : List Part → List ℕ → List ℕ
parts_before [] rest = rest
parts_before (x ∷ xs) rest = part_before x (parts_before xs rest)

abbrev pub item_before : Item → List ℕ → List ℕ
item_before (code x) rest = text_of x ++ rest
item_before (specification xs) rest = 47 ∷ 42 ∷ 58 ∷ parts_before xs (42 ∷ 47 ∷ rest)

abbrev pub items_before : List Item → List ℕ → List ℕ
items_before [] rest = rest
items_before (x ∷ xs) rest = item_before x (items_before xs rest)

-- ---- the kinds of the tokens

abbrev pub word_kind : Mode → List ℕ → TokenKind
word_kind m t = unwrap_or (option_map kind.Symbol (find_text (reserved m) t)) (kind.Word (record { text = t; turn = 0 }))

abbrev pub kinds_of : Mode → Piece → List TokenKind
kinds_of m (space c) = []
kinds_of m (word t) = word_kind m t ∷ []
kinds_of m (pair a b) = kind.Qualified (record { text = a ++ 46 ∷ b; turn = 0 }) ∷ []
kinds_of m (digit k) = kind.Number (pos k) ∷ []
kinds_of m (sign t) = option_map_or (λ s. kind.Symbol s ∷ []) (find_text (signs m) t) []

abbrev pub pieces_kinds : Mode → List Piece → List TokenKind
pieces_kinds m [] = []
pieces_kinds m (x ∷ xs) = kinds_of m x ++ pieces_kinds m xs

abbrev pub part_kinds : Part → List TokenKind
part_kinds (plain x) = kinds_of Specification x
part_kinds (quote xs) = kind.QuoteOpen ∷ (pieces_kinds Formula xs ++ kind.QuoteClose ∷ [])

abbrev pub parts_kinds : List Part → List TokenKind
parts_kinds [] = []
parts_kinds (x ∷ xs) = part_kinds x ++ parts_kinds xs

abbrev pub item_kinds : Item → List TokenKind
item_kinds (code x) = kinds_of Code x
item_kinds (specification xs) = kind.SpecOpen ∷ (parts_kinds xs ++ kind.SpecClose ∷ [])

abbrev pub items_kinds : List Item → List TokenKind
items_kinds [] = []
items_kinds (x ∷ xs) = item_kinds x ++ items_kinds xs

-- ---- the lines of a made source

abbrev pub gap : Piece
gap = space 32

abbrev pub swap_items : ℕ → List Item
swap_items i =
    code (word (codes "public")) ∷ code gap ∷ code (word (codes "static")) ∷ code gap ∷ code (word (codes "void")) ∷ code gap ∷ code (word (109 ∷ decimal i)) ∷ code (sign (codes "(")) ∷ code (sign (codes ")")) ∷ code gap ∷
    specification (
    plain gap ∷ plain (word (codes "modifies")) ∷ plain gap ∷ plain (word (codes "a")) ∷ plain (sign (codes ",")) ∷ plain gap ∷ plain (word (codes "b")) ∷ plain gap ∷ plain (word (codes "ensures")) ∷ plain gap ∷
    quote (
    word (codes "a") ∷ gap ∷ sign (codes "=") ∷ gap ∷ word (codes "old") ∷ gap ∷ word (codes "b") ∷ gap ∷ sign (codes "&") ∷ gap ∷
    word (codes "b") ∷ gap ∷ sign (codes "=") ∷ gap ∷ word (codes "old") ∷ gap ∷ word (codes "a") ∷ []
    ) ∷ plain gap ∷ []
    ) ∷ code gap ∷
    code (sign (codes "{")) ∷ code gap ∷
    code (word (codes "Object")) ∷ code gap ∷ code (word (codes "t")) ∷ code gap ∷ code (sign (codes "=")) ∷ code gap ∷ code (word (codes "a")) ∷ code (sign (codes ";")) ∷ code gap ∷
    code (word (codes "a")) ∷ code gap ∷ code (sign (codes "=")) ∷ code gap ∷ code (word (codes "b")) ∷ code (sign (codes ";")) ∷ code gap ∷
    code (word (codes "b")) ∷ code gap ∷ code (sign (codes "=")) ∷ code gap ∷ code (word (codes "t")) ∷ code (sign (codes ";")) ∷ code gap ∷
    code (sign (codes "}")) ∷ code (space 10) ∷ []

abbrev pub sum_items : ℕ → ℕ → List Item
sum_items i k =
    code (word (codes "public")) ∷ code gap ∷ code (word (codes "static")) ∷ code gap ∷ code (word (codes "void")) ∷ code gap ∷ code (word (109 ∷ decimal i)) ∷ code (sign (codes "(")) ∷ code (sign (codes ")")) ∷ code gap ∷
    specification (
    plain gap ∷ plain (word (codes "requires")) ∷ plain gap ∷ quote (digit 0 ∷ gap ∷ sign (codes "<=") ∷ gap ∷ word (codes "n") ∷ []) ∷ plain gap ∷
    plain (word (codes "modifies")) ∷ plain gap ∷ plain (word (codes "n")) ∷ plain gap ∷
    plain (word (codes "ensures")) ∷ plain gap ∷ quote (digit k ∷ gap ∷ sign (codes "<=") ∷ gap ∷ word (codes "n") ∷ []) ∷ plain gap ∷ []
    ) ∷ code gap ∷
    code (sign (codes "{")) ∷ code gap ∷
    code (word (codes "n")) ∷ code gap ∷ code (sign (codes "=")) ∷ code gap ∷ code (word (codes "n")) ∷ code gap ∷ code (sign (codes "+")) ∷ code gap ∷ code (digit k) ∷ code (sign (codes ";")) ∷ code gap ∷
    code (sign (codes "}")) ∷ code (space 10) ∷ []

abbrev pub cells_items : ℕ → ℕ → List Item
cells_items i k =
    code (word (codes "public")) ∷ code gap ∷ code (word (codes "static")) ∷ code gap ∷ code (word (codes "void")) ∷ code gap ∷ code (word (109 ∷ decimal i)) ∷
    code (sign (codes "(")) ∷ code (word (codes "Cell")) ∷ code gap ∷ code (word (codes "p")) ∷ code (sign (codes ",")) ∷ code gap ∷ code (word (codes "Cell")) ∷ code gap ∷ code (word (codes "q")) ∷ code (sign (codes ")")) ∷ code gap ∷
    specification (
    plain gap ∷ plain (word (codes "requires")) ∷ plain gap ∷
    quote (
    word (codes "p") ∷ gap ∷ sign (codes "~=") ∷ gap ∷ word (codes "null") ∷ gap ∷ sign (codes "&") ∷ gap ∷ word (codes "q") ∷ gap ∷ sign (codes "~=") ∷ gap ∷ word (codes "null") ∷ gap ∷
    sign (codes "&") ∷ gap ∷ word (codes "p") ∷ gap ∷ sign (codes "~=") ∷ gap ∷ word (codes "q") ∷ []
    ) ∷ plain gap ∷
    plain (word (codes "modifies")) ∷ plain gap ∷ plain (pair (codes "Cell") (codes "f")) ∷ plain gap ∷
    plain (word (codes "ensures")) ∷ plain gap ∷
    quote (
    word (codes "p") ∷ sign (codes "..") ∷ pair (codes "Cell") (codes "f") ∷ gap ∷ sign (codes "=") ∷ gap ∷ digit k ∷ gap ∷ sign (codes "&") ∷ gap ∷
    word (codes "q") ∷ sign (codes "..") ∷ pair (codes "Cell") (codes "f") ∷ gap ∷ sign (codes "=") ∷ gap ∷ digit 2 ∷ []
    ) ∷ plain gap ∷ []
    ) ∷ code gap ∷
    code (sign (codes "{")) ∷ code gap ∷
    code (word (codes "p")) ∷ code (sign (codes ".")) ∷ code (word (codes "f")) ∷ code gap ∷ code (sign (codes "=")) ∷ code gap ∷ code (digit k) ∷ code (sign (codes ";")) ∷ code gap ∷
    code (word (codes "q")) ∷ code (sign (codes ".")) ∷ code (word (codes "f")) ∷ code gap ∷ code (sign (codes "=")) ∷ code gap ∷ code (digit 2) ∷ code (sign (codes ";")) ∷ code gap ∷
    code (sign (codes "}")) ∷ code (space 10) ∷ []

-- the method of a kind: 0, 1, or any other
abbrev pub items_of_kind : ℕ → ℕ → ℕ → List Item
items_of_kind kind i k = if kind == 0 then swap_items i else (if kind == 1 then sum_items i k else cells_items i k)

abbrev pub method_items : ℕ → ℕ → List Item
method_items seed i = items_of_kind ((seed + i) % 3) i (number_of seed i)

-- what stands before the methods
abbrev pub first_items : List Item
first_items =
    code (word (codes "class")) ∷ code gap ∷ code (word (codes "Cell")) ∷ code gap ∷ code (sign (codes "{")) ∷ code gap ∷ code (word (codes "int")) ∷ code gap ∷ code (word (codes "f")) ∷ code (sign (codes ";")) ∷ code gap ∷ code (sign (codes "}")) ∷ code (space 10) ∷
    code (word (codes "class")) ∷ code gap ∷ code (word (codes "Gen")) ∷ code gap ∷ code (sign (codes "{")) ∷ code (space 10) ∷
    code (word (codes "static")) ∷ code gap ∷ code (word (codes "Object")) ∷ code gap ∷ code (word (codes "a")) ∷ code (sign (codes ";")) ∷ code (space 10) ∷
    code (word (codes "static")) ∷ code gap ∷ code (word (codes "Object")) ∷ code gap ∷ code (word (codes "b")) ∷ code (sign (codes ";")) ∷ code (space 10) ∷
    code (word (codes "static")) ∷ code gap ∷ code (word (codes "int")) ∷ code gap ∷ code (word (codes "n")) ∷ code (sign (codes ";")) ∷ code (space 10) ∷ []

-- the closing brace
abbrev pub last_items : List Item
last_items = code (sign (codes "}")) ∷ code (space 10) ∷ []

-- the kinds of the tokens of the methods 1 to n
abbrev pub methods_kinds : ℕ → ℕ → List TokenKind
methods_kinds seed zero = []
methods_kinds seed (suc n) = methods_kinds seed n ++ items_kinds (method_items seed (suc n))

-- the kinds of all tokens but the last, which is End
abbrev pub source_kinds : ℕ → ℕ → List TokenKind
source_kinds seed methods = items_kinds first_items ++ (methods_kinds seed methods ++ items_kinds last_items)
