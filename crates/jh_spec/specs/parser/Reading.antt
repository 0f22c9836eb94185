-- What is read of a formula at a place of a list of tokens, with the place after it: the grammar as a function, which the
-- code follows. That it is the grammar is proved in proofs/Sound and proofs/Complete.
use Rattle.std.specs.Prelude.{ℕ, zero, suc, ◌+◌, ◌==◌, ◌&&◌, Bool, List, [], ◌∷◌, length, Option, None, Some, codes}
use Rattle.jh_lex.specs.declared.lexer.symbol.Symbol.TheVariants as symbol
use Rattle.jh_lex.specs.declared.lexer.token.Token.{Token}
use Rattle.jh_name.specs.declared.place.Place.{Place}
use Rattle.jh_ast.specs.declared.word.Word.{Word}
use Rattle.jh_ast.specs.Forms.{FormTree, FormTrees, place_of, moved}
use Rattle.jh_ast.specs.Forms as form
use Rattle.jh_operators.specs.lookahead.Choices.{◌>>=◌, choose, given}
use Rattle.jh_operators.specs.lookahead.Standing.{is_at, is_word_at, is_plain_word_at, is_name_at, is_number_at, is_quote_close_at, place_at, word_at, name_at, number_at, behind}
use Rattle.jh_spec.specs.parser.Operators.{operator_at, closes_at, constant_at}
use Rattle.jh_spec.specs.parser.Formulas.{binary_of}

-- what is read deeper inside, after at least one token
pub record Inside : Type 0 where
  pub operand : ℕ → ℕ → Option (FormTree × ℕ)
  pub prefix : ℕ → Option (FormTree × ℕ)
  pub chain : ℕ → FormTree → ℕ → Option (FormTree × ℕ)
  pub members : ℕ → Option (FormTrees × ℕ)

-- so many words at most
unfoldable pub words_at : List Token → ℕ → ℕ → Option (List Word × ℕ)
words_at ts zero i = Some ([], i)
words_at ts (suc k) i = choose (is_plain_word_at ts i) (word_at ts i >>= λ w. words_at ts k (i + 1) >>= λ r. Some (w ∷ r.0, r.1)) (Some ([], i))

unfoldable pub bound_at : List Token → ℕ → Option (List Word × ℕ)
bound_at ts i = words_at ts 8 i >>= λ ws. choose (length ws.0 == 0) None (Some ws)

unfoldable pub typed_at : List Token → ℕ → Option ℕ
typed_at ts i =
    choose (is_at ts i symbol.ColonColon)
    (choose (is_word_at ts (i + 1) (codes "obj")) (behind ts (i + 2) symbol.Dot) None)
    (behind ts i symbol.Dot)

unfoldable pub names_at : List Token → ℕ → ℕ → Option (List Word × ℕ)
names_at ts zero i = None
names_at ts (suc k) i = name_at ts i >>= λ w.
    choose (is_at ts (i + 1) symbol.Comma) (names_at ts k (i + 2) >>= λ r. Some (w ∷ r.0, r.1)) (Some (w ∷ [], i + 1))

unfoldable pub members_of : List Token → Inside → ℕ → Option (FormTrees × ℕ)
members_of ts inside i = inside.operand 3 i >>= λ a.
    choose (is_at ts a.1 symbol.Comma) (inside.members (a.1 + 1) >>= λ r. Some (form.more a.0 r.0, r.1)) (Some (form.more a.0 form.none, a.1))

unfoldable pub bracket_of : List Token → Inside → ℕ → Option (FormTree × ℕ)
bracket_of ts inside i = inside.operand 3 (i + 1) >>= λ a. behind ts a.1 symbol.RightParenthesis >>= λ j. Some (moved (place_at ts i) a.0, j)

unfoldable pub compr_of : List Token → Inside → ℕ → Option (FormTree × ℕ)
compr_of ts inside i = word_at ts (i + 1) >>= λ x. inside.operand 3 (i + 3) >>= λ a. behind ts a.1 symbol.RightBrace >>= λ j. Some (form.compr (place_at ts i) x a.0, j)

unfoldable pub braces_of : List Token → Inside → ℕ → Option (FormTree × ℕ)
braces_of ts inside i = inside.members (i + 1) >>= λ ms. behind ts ms.1 symbol.RightBrace >>= λ j. Some (form.braces (place_at ts i) ms.0, j)

abbrev pub is_compr_at : List Token → ℕ → Bool
is_compr_at ts i = is_plain_word_at ts (i + 1) && is_at ts (i + 2) symbol.Dot

unfoldable pub simple_at : List Token → ℕ → Option (FormTree × ℕ)
simple_at ts i =
    choose (is_name_at ts i) (name_at ts i >>= λ w. Some (form.name (place_at ts i) w, i + 1))
    (given (number_at ts i) (λ z. Some (form.number (place_at ts i) z, i + 1))
    (given (constant_at ts i) (λ a. Some (a, i + 1)) None))

unfoldable pub set_of : List Token → Inside → ℕ → Option (FormTree × ℕ)
set_of ts inside i =
    choose (is_at ts (i + 1) symbol.RightBrace) (Some (form.braces (place_at ts i) form.none, i + 2))
    (choose (is_compr_at ts i) (compr_of ts inside i) (braces_of ts inside i))

unfoldable pub atom_of : List Token → Inside → ℕ → Option (FormTree × ℕ)
atom_of ts inside i =
    choose (is_at ts i symbol.LeftParenthesis) (bracket_of ts inside i)
    (choose (is_at ts i symbol.LeftBrace) (set_of ts inside i) (simple_at ts i))

unfoldable pub dots_at : List Token → ℕ → FormTree → ℕ → Option (FormTree × ℕ)
dots_at ts zero a i = None
dots_at ts (suc k) a i =
    choose (is_at ts i symbol.DotDot) (name_at ts (i + 1) >>= λ w. dots_at ts k (form.member (place_of a) a w) (i + 2)) (Some (a, i))

unfoldable pub postfix_of : List Token → Inside → ℕ → Option (FormTree × ℕ)
postfix_of ts inside i = atom_of ts inside i >>= λ a. dots_at ts (suc (length ts)) a.0 a.1

unfoldable pub forest_of : List Token → ℕ → Option (FormTree × ℕ)
forest_of ts i = behind ts (i + 1) symbol.LeftBracket >>= λ j. names_at ts (suc (length ts)) (i + 2) >>= λ ws. behind ts ws.1 symbol.RightBracket >>= λ k. Some (form.tree (place_at ts i) ws.0, k)

-- `( % x y .`
unfoldable pub pair_at : List Token → ℕ → Option (Word × Word)
pair_at ts i = behind ts (i + 1) symbol.LeftParenthesis >>= λ j. behind ts (i + 2) symbol.Percent >>= λ k. word_at ts (i + 3) >>= λ x. word_at ts (i + 4) >>= λ y. behind ts (i + 5) symbol.Dot >>= λ l. Some (x, y)

unfoldable pub rtrancl_of : List Token → Inside → ℕ → Option (FormTree × ℕ)
rtrancl_of ts inside i = pair_at ts i >>= λ xy. inside.operand 3 (i + 6) >>= λ a. behind ts a.1 symbol.RightParenthesis >>= λ j.
    postfix_of ts inside j >>= λ b. postfix_of ts inside b.1 >>= λ c. Some (form.rtrancl (place_at ts i) xy.0 xy.1 a.0 b.0 c.0, c.1)

-- after a sign before an operand
unfoldable pub signed_of : List Token → Inside → (Place → FormTree → FormTree) → ℕ → Option (FormTree × ℕ)
signed_of ts inside sign i = inside.prefix (i + 1) >>= λ a. Some ((sign (place_at ts i) a.0), a.1)

unfoldable pub prefix_of : List Token → Inside → ℕ → Option (FormTree × ℕ)
prefix_of ts inside i =
    choose (is_at ts i symbol.Minus) (signed_of ts inside form.minus i)
    (choose (is_at ts i symbol.Old) (signed_of ts inside form.old i)
    (choose (is_at ts i symbol.Card) (signed_of ts inside form.card i)
    (choose (is_at ts i symbol.Tree) (forest_of ts i)
    (choose (is_at ts i symbol.RtranclPt) (rtrancl_of ts inside i) (postfix_of ts inside i)))))

-- what stands after a: operators and operands, which are read by lower
abbrev pub chain_with : List Token → Inside → (ℕ → Option (FormTree × ℕ)) → ℕ → FormTree → ℕ → Option (FormTree × ℕ)
chain_with ts inside lower n a i =
    given (operator_at ts (2 + n) i) (λ o. lower (i + 1) >>= λ b. inside.chain n (binary_of o a b.0) b.1) (Some (a, i))

unfoldable pub left_of : List Token → Inside → ℕ → ℕ → Option (FormTree × ℕ)
left_of ts inside zero i = prefix_of ts inside i
left_of ts inside (suc n) i = left_of ts inside n i >>= λ a. chain_with ts inside (left_of ts inside n) n a.0 a.1

unfoldable pub chain_of : List Token → Inside → ℕ → FormTree → ℕ → Option (FormTree × ℕ)
chain_of ts inside n a i = chain_with ts inside (left_of ts inside n) n a i

abbrev pub is_dvd_at : List Token → ℕ → Bool
is_dvd_at ts i = is_number_at ts i && is_at ts (i + 1) symbol.Dvd

unfoldable pub divides_of : List Token → Inside → ℕ → Option (FormTree × ℕ)
divides_of ts inside i = number_at ts i >>= λ z. left_of ts inside 2 (i + 2) >>= λ a. Some (form.dvd (place_at ts i) z a.0, a.1)

unfoldable pub compared_of : List Token → Inside → ℕ → Option (FormTree × ℕ)
compared_of ts inside i =
    choose (is_dvd_at ts i) (divides_of ts inside i)
    (left_of ts inside 2 i >>= λ a. given (operator_at ts 4 a.1) (λ o. left_of ts inside 2 (a.1 + 1) >>= λ b. Some (binary_of o a.0 b.0, b.1)) (Some a))

unfoldable pub right_of : List Token → Inside → ℕ → ℕ → Option (FormTree × ℕ)
right_of ts inside zero i =
    choose (is_at ts i symbol.Tilde) (inside.operand 0 (i + 1) >>= λ a. Some (form.negation (place_at ts i) a.0, a.1)) (compared_of ts inside i)
right_of ts inside (suc n) i =
    right_of ts inside n i >>= λ a. given (operator_at ts (5 + n) a.1) (λ o. inside.operand (suc n) (a.1 + 1) >>= λ b. Some (binary_of o a.0 b.0, b.1)) (Some a)

unfoldable pub quantified_of : List Token → Inside → (Place → List Word → FormTree → FormTree) → ℕ → Option (FormTree × ℕ)
quantified_of ts inside binder i = bound_at ts (i + 1) >>= λ ws. typed_at ts ws.1 >>= λ j. inside.operand 3 j >>= λ a.
    choose (closes_at ts a.1) (Some ((binder (place_at ts i) ws.0 a.0), a.1)) None

unfoldable pub operand_of : List Token → Inside → ℕ → ℕ → Option (FormTree × ℕ)
operand_of ts inside n i =
    choose (is_at ts i symbol.All) (quantified_of ts inside form.all i)
    (choose (is_at ts i symbol.Ex) (quantified_of ts inside form.ex i) (right_of ts inside n i))

-- with so many levels left
unfoldable pub inside : List Token → ℕ → Inside
inside ts zero = record {
  operand = λ n i. None;
  prefix = λ i. None;
  chain = λ n a i. None;
  members = λ i. None;
}
inside ts (suc k) = record {
  operand = operand_of ts (inside ts k);
  prefix = prefix_of ts (inside ts k);
  chain = chain_of ts (inside ts k);
  members = members_of ts (inside ts k);
}

-- a formula in front of a quote
unfoldable pub formula_at : List Token → ℕ → Option (FormTree × ℕ)
formula_at ts i = operand_of ts (inside ts (length ts)) 3 i >>= λ a. choose (is_quote_close_at ts a.1) (Some a) None
