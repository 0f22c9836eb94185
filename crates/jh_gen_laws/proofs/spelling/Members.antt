-- The methods of a made source.
use Rattle.std.proofs.Common.{◌≡◌, ℕ, ◌+◌, ◌%◌, ◌==◌, Bool, true, false, cond, List, [], ◌∷◌, ◌++◌, Some, None, refl, codes, pos, decimal}
use Rattle.jh_name.specs.declared.place.Place.{Place}
use Rattle.jh_lex.specs.declared.lexer.symbol.Symbol.TheVariants as symbol
use Rattle.jh_lex.specs.declared.lexer.token.Token.{Token}
use Rattle.jh_lex.specs.declared.lexer.token.TokenKind.{TokenKind}
use Rattle.jh_lex.specs.declared.lexer.token.TokenKind.TheVariants as kind
use Rattle.jh_ast.specs.Programs.{MethodPart}
use Rattle.jh_operators.specs.lookahead.Choices.{choose}
use Rattle.jh_operators.specs.lookahead.Modifiers.{Modifiers, no_more, one_more, allowed_at}
use Rattle.jh_spec.specs.parser.Parts.{absent, present, plain, last_item, more_items, modifies, contract_of}
use Rattle.jh_obligations.specs.jh_parse.statements.Statements.{of_class}
use Rattle.jh_obligations.specs.jh_parse.programs.Separated.{last, further}
use Rattle.jh_obligations.specs.jh_parse.programs.Members.{of_members, nothing, parameter, no_parameters, some_parameters, Promised, a_contract, Method, method}
use Rattle.jh_gen.specs.Generated.{number_of}
use Rattle.jh_gen_laws.specs.tokens.Pieces.{items_kinds, swap_items, sum_items, cells_items, method_items}
use Rattle.jh_gen_laws.specs.typing.Trees as trees
use Rattle.jh_gen_laws.specs.typing.Trees.{IsMethod, swaps, sums, cells}
use Rattle.jh_gen_laws.proofs.spelling.Standing.{At, spelled, token-at, next, next2, is, spec-open, spec-close, word-is, name-is, pair-is}
use Rattle.jh_gen_laws.proofs.spelling.Formulas.{swap-post, at-most, cells-pre, cells-post}
use Rattle.jh_gen_laws.proofs.spelling.Bodies.{swap-body, sum-body, cells-body}

-- a method, what it is, and what stands behind it
pub record IsRead (ts : List Token) (number n i : ℕ) (rest : List TokenKind) : Type 0 where
  pub part : MethodPart
  pub end : ℕ
  pub after : ℕ
  pub read : Method ts n i part end after
  pub is : IsMethod number part
  pub behind : At ts end rest

module _ {ts : List Token} where
  public-at : {i : ℕ} {ks : List TokenKind} → At ts i (kind.Symbol symbol.Public ∷ ks) → allowed_at ts of_members i ≡ Some symbol.Public
  unfolding allowed_at choose
  public-at a = rw (token-at a) refl

  pub static-at : {i : ℕ} {ks : List TokenKind} → At ts i (kind.Symbol symbol.Static ∷ ks) → allowed_at ts of_members i ≡ Some symbol.Static
  unfolding allowed_at choose
  static-at a = rw (token-at a) refl

  public-static : {i : ℕ} {ks : List TokenKind} → At ts i (kind.Symbol symbol.Public ∷ kind.Symbol symbol.Static ∷ ks) → Modifiers ts of_members i (symbol.Public ∷ symbol.Static ∷ []) (i + 1 + 1)
  public-static a = one_more (public-at a) refl (one_more (static-at (next a)) refl no_more)

  swap-contract : (n : ℕ) {i : ℕ} (rest : List TokenKind)
      → At ts i (kind.SpecOpen ∷ kind.Symbol symbol.Modifies ∷ spelled (codes "a") ∷ kind.Symbol symbol.Comma ∷ spelled (codes "b") ∷ kind.Symbol symbol.Ensures ∷ kind.QuoteOpen ∷ spelled (codes "a") ∷ kind.Symbol symbol.Equal ∷ kind.Symbol symbol.Old
      ∷ spelled (codes "b") ∷ kind.Symbol symbol.Ampersand ∷ spelled (codes "b") ∷ kind.Symbol symbol.Equal ∷ kind.Symbol symbol.Old ∷ spelled (codes "a") ∷ kind.QuoteClose ∷ kind.SpecClose ∷ rest)
      → (a b c q1 q2 q3 q4 q5 q6 : Place) × (j : ℕ) × Promised ts n i None (trees.word_at a (codes "a") ∷ trees.word_at b (codes "b") ∷ []) (Some (trees.formula c n (trees.swap_post q1 q2 q3 q4 q5 q6))) j (n + 1) × At ts j rest
  swap-contract n rest a0 =
      let a1 = next a0 in
      let a2 = next a1 in
      let a3 = next a2 in
      let a4 = next a3 in
      let a5 = next a4 in
      let a6 = next a5 in
      let post = swap-post n (kind.SpecClose ∷ rest) a6 in
      let close = post.8 in
      let writes = modifies (is a1) (more_items (plain (name-is a2)) (is a3) (last_item (plain (name-is a4)))) in
      (_, _, _, _, _, _, _, _, _, _, a_contract (spec-open a0) (contract_of absent writes (present (is a5) post.7), spec-close close), next close)

  swap-method : (i n : ℕ) {at : ℕ} (rest : List TokenKind) → At ts at (items_kinds (swap_items i) ++ rest) → IsRead ts i n at rest
  swap-method i n {at} rest a0 =
      let all : At ts at (kind.Symbol symbol.Public ∷ kind.Symbol symbol.Static ∷ kind.Symbol symbol.Void ∷ spelled (109 ∷ decimal i) ∷ kind.Symbol symbol.LeftParenthesis ∷ kind.Symbol symbol.RightParenthesis
      ∷ kind.SpecOpen ∷ kind.Symbol symbol.Modifies ∷ spelled (codes "a") ∷ kind.Symbol symbol.Comma ∷ spelled (codes "b") ∷ kind.Symbol symbol.Ensures ∷ kind.QuoteOpen ∷ spelled (codes "a") ∷ kind.Symbol symbol.Equal ∷ kind.Symbol symbol.Old
      ∷ spelled (codes "b") ∷ kind.Symbol symbol.Ampersand ∷ spelled (codes "b") ∷ kind.Symbol symbol.Equal ∷ kind.Symbol symbol.Old ∷ spelled (codes "a") ∷ kind.QuoteClose ∷ kind.SpecClose
      ∷ kind.Symbol symbol.LeftBrace ∷ spelled (codes "Object") ∷ spelled (codes "t") ∷ kind.Symbol symbol.Equal ∷ spelled (codes "a") ∷ kind.Symbol symbol.Semicolon
      ∷ spelled (codes "a") ∷ kind.Symbol symbol.Equal ∷ spelled (codes "b") ∷ kind.Symbol symbol.Semicolon ∷ spelled (codes "b") ∷ kind.Symbol symbol.Equal ∷ spelled (codes "t") ∷ kind.Symbol symbol.Semicolon ∷ kind.Symbol symbol.RightBrace ∷ rest) = a0 in
      let a2 = next (next all) in
      let a3 = next a2 in
      let a4 = next a3 in
      let a5 = next a4 in
      let a6 = next2 a4 in
      let promise = swap-contract n _ a6 in
      let inside = swap-body (n + 1) rest promise.11 in
      record {
        part = _;
        end = _;
        after = _;
        read = method (public-static all) (nothing (is a2)) (word-is a3) (no_parameters (is a4) (is a5)) promise.10 inside.8;
        is = swaps n _ _ _ _ _ _ _ _ _ _ _ _ _ _ _ _ _ _;
        behind = inside.9;
      }

  sum-contract : (n k : ℕ) {i : ℕ} (rest : List TokenKind)
      → At ts i (kind.SpecOpen ∷ kind.Symbol symbol.Requires ∷ kind.QuoteOpen ∷ kind.Number (pos 0) ∷ kind.Symbol symbol.LessEqual ∷ spelled (codes "n") ∷ kind.QuoteClose ∷ kind.Symbol symbol.Modifies ∷ spelled (codes "n")
      ∷ kind.Symbol symbol.Ensures ∷ kind.QuoteOpen ∷ kind.Number (pos k) ∷ kind.Symbol symbol.LessEqual ∷ spelled (codes "n") ∷ kind.QuoteClose ∷ kind.SpecClose ∷ rest)
      → (a b q1 q2 c q3 q4 : Place) × (j : ℕ) × Promised ts n i (Some (trees.formula a n (trees.at_most q1 0 q2))) (trees.word_at b (codes "n") ∷ []) (Some (trees.formula c (n + 1) (trees.at_most q3 k q4))) j (n + 1 + 1) × At ts j rest
  sum-contract n k rest a0 =
      let a1 = next a0 in
      let a2 = next a1 in
      let pre = at-most n 0 _ a2 in
      let b0 = pre.4 in
      let b1 = next b0 in
      let b2 = next b1 in
      let b3 = next b2 in
      let post = at-most (n + 1) k (kind.SpecClose ∷ rest) b3 in
      let close = post.4 in
      (_, _, _, _, _, _, _, _, a_contract (spec-open a0) (contract_of (present (is a1) pre.3) (modifies (is b0) (last_item (plain (name-is b1)))) (present (is b2) post.3), spec-close close), next close)

  sum-method : (i k n : ℕ) {at : ℕ} (rest : List TokenKind) → At ts at (items_kinds (sum_items i k) ++ rest) → IsRead ts i n at rest
  sum-method i k n {at} rest a0 =
      let all : At ts at (kind.Symbol symbol.Public ∷ kind.Symbol symbol.Static ∷ kind.Symbol symbol.Void ∷ spelled (109 ∷ decimal i) ∷ kind.Symbol symbol.LeftParenthesis ∷ kind.Symbol symbol.RightParenthesis
      ∷ kind.SpecOpen ∷ kind.Symbol symbol.Requires ∷ kind.QuoteOpen ∷ kind.Number (pos 0) ∷ kind.Symbol symbol.LessEqual ∷ spelled (codes "n") ∷ kind.QuoteClose ∷ kind.Symbol symbol.Modifies ∷ spelled (codes "n")
      ∷ kind.Symbol symbol.Ensures ∷ kind.QuoteOpen ∷ kind.Number (pos k) ∷ kind.Symbol symbol.LessEqual ∷ spelled (codes "n") ∷ kind.QuoteClose ∷ kind.SpecClose
      ∷ kind.Symbol symbol.LeftBrace ∷ spelled (codes "n") ∷ kind.Symbol symbol.Equal ∷ spelled (codes "n") ∷ kind.Symbol symbol.Plus ∷ kind.Number (pos k) ∷ kind.Symbol symbol.Semicolon ∷ kind.Symbol symbol.RightBrace ∷ rest) = a0 in
      let a2 = next (next all) in
      let a3 = next a2 in
      let a4 = next a3 in
      let a5 = next a4 in
      let a6 = next2 a4 in
      let promise = sum-contract n k _ a6 in
      let inside = sum-body (n + 1 + 1) k rest promise.9 in
      record {
        part = _;
        end = _;
        after = _;
        read = method (public-static all) (nothing (is a2)) (word-is a3) (no_parameters (is a4) (is a5)) promise.8 inside.4;
        is = sums n (n + 1) k _ _ _ _ _ _ _ _ _ _ _ _;
        behind = inside.5;
      }

  cells-contract : (n k : ℕ) {i : ℕ} (rest : List TokenKind)
      → At ts i (kind.SpecOpen ∷ kind.Symbol symbol.Requires ∷ kind.QuoteOpen ∷ spelled (codes "p") ∷ kind.Symbol symbol.TildeEqual ∷ kind.Symbol symbol.Null ∷ kind.Symbol symbol.Ampersand ∷ spelled (codes "q") ∷ kind.Symbol symbol.TildeEqual ∷ kind.Symbol symbol.Null
      ∷ kind.Symbol symbol.Ampersand ∷ spelled (codes "p") ∷ kind.Symbol symbol.TildeEqual ∷ spelled (codes "q") ∷ kind.QuoteClose ∷ kind.Symbol symbol.Modifies ∷ kind.Qualified (record { text = codes "Cell.f"; turn = 0 })
      ∷ kind.Symbol symbol.Ensures ∷ kind.QuoteOpen ∷ spelled (codes "p") ∷ kind.Symbol symbol.DotDot ∷ kind.Qualified (record { text = codes "Cell.f"; turn = 0 }) ∷ kind.Symbol symbol.Equal ∷ kind.Number (pos k) ∷ kind.Symbol symbol.Ampersand
      ∷ spelled (codes "q") ∷ kind.Symbol symbol.DotDot ∷ kind.Qualified (record { text = codes "Cell.f"; turn = 0 }) ∷ kind.Symbol symbol.Equal ∷ kind.Number (pos 2) ∷ kind.QuoteClose ∷ kind.SpecClose ∷ rest)
      → (a q1 q2 q3 q4 q5 q6 b c s1 s2 s3 s4 s5 s6 : Place) × (j : ℕ)
      × Promised ts n i (Some (trees.formula a n (trees.cells_pre q1 q2 q3 q4 q5 q6))) (trees.word_at b (codes "Cell.f") ∷ []) (Some (trees.formula c (n + 1) (trees.cells_post s1 s2 s3 s4 s5 s6 k))) j (n + 1 + 1) × At ts j rest
  cells-contract n k rest a0 =
      let a1 = next a0 in
      let a2 = next a1 in
      let pre = cells-pre n _ a2 in
      let b0 = pre.8 in
      let b1 = next b0 in
      let b2 = next b1 in
      let b3 = next b2 in
      let post = cells-post (n + 1) k (kind.SpecClose ∷ rest) b3 in
      let close = post.8 in
      (_, _, _, _, _, _, _, _, _, _, _, _, _, _, _, _, a_contract (spec-open a0) (contract_of (present (is a1) pre.7) (modifies (is b0) (last_item (plain (pair-is b1)))) (present (is b2) post.7), spec-close close), next close)

  cells-method : (i k n : ℕ) {at : ℕ} (rest : List TokenKind) → At ts at (items_kinds (cells_items i k) ++ rest) → IsRead ts i n at rest
  cells-method i k n {at} rest a0 =
      let all : At ts at (kind.Symbol symbol.Public ∷ kind.Symbol symbol.Static ∷ kind.Symbol symbol.Void ∷ spelled (109 ∷ decimal i)
      ∷ kind.Symbol symbol.LeftParenthesis ∷ spelled (codes "Cell") ∷ spelled (codes "p") ∷ kind.Symbol symbol.Comma ∷ spelled (codes "Cell") ∷ spelled (codes "q") ∷ kind.Symbol symbol.RightParenthesis
      ∷ kind.SpecOpen ∷ kind.Symbol symbol.Requires ∷ kind.QuoteOpen ∷ spelled (codes "p") ∷ kind.Symbol symbol.TildeEqual ∷ kind.Symbol symbol.Null ∷ kind.Symbol symbol.Ampersand ∷ spelled (codes "q") ∷ kind.Symbol symbol.TildeEqual ∷ kind.Symbol symbol.Null
      ∷ kind.Symbol symbol.Ampersand ∷ spelled (codes "p") ∷ kind.Symbol symbol.TildeEqual ∷ spelled (codes "q") ∷ kind.QuoteClose ∷ kind.Symbol symbol.Modifies ∷ kind.Qualified (record { text = codes "Cell.f"; turn = 0 })
      ∷ kind.Symbol symbol.Ensures ∷ kind.QuoteOpen ∷ spelled (codes "p") ∷ kind.Symbol symbol.DotDot ∷ kind.Qualified (record { text = codes "Cell.f"; turn = 0 }) ∷ kind.Symbol symbol.Equal ∷ kind.Number (pos k) ∷ kind.Symbol symbol.Ampersand
      ∷ spelled (codes "q") ∷ kind.Symbol symbol.DotDot ∷ kind.Qualified (record { text = codes "Cell.f"; turn = 0 }) ∷ kind.Symbol symbol.Equal ∷ kind.Number (pos 2) ∷ kind.QuoteClose ∷ kind.SpecClose
      ∷ kind.Symbol symbol.LeftBrace ∷ spelled (codes "p") ∷ kind.Symbol symbol.Dot ∷ spelled (codes "f") ∷ kind.Symbol symbol.Equal ∷ kind.Number (pos k) ∷ kind.Symbol symbol.Semicolon
      ∷ spelled (codes "q") ∷ kind.Symbol symbol.Dot ∷ spelled (codes "f") ∷ kind.Symbol symbol.Equal ∷ kind.Number (pos 2) ∷ kind.Symbol symbol.Semicolon ∷ kind.Symbol symbol.RightBrace ∷ rest) = a0 in
      let a2 = next (next all) in
      let a3 = next a2 in
      let a4 = next a3 in
      let b1 = next a4 in
      let b2 = next b1 in
      let b3 = next b2 in
      let b4 = next b3 in
      let b5 = next b4 in
      let b6 = next b5 in
      let params = some_parameters (is a4) (further (parameter (of_class (word-is b1)) (word-is b2)) (is b3) (last (parameter (of_class (word-is b4)) (word-is b5)))) (is b6) in
      let promise = cells-contract n k _ (next b6) in
      let inside = cells-body (n + 1 + 1) k rest promise.17 in
      record {
        part = _;
        end = _;
        after = _;
        read = method (public-static all) (nothing (is a2)) (word-is a3) params promise.16 inside.7;
        is = cells n (n + 1) k _ _ _ _ _ _ _ _ _ _ _ _ _ _ _ _ _ _ _ _ _ _ _ _ _ _ _;
        behind = inside.8;
      }

  by-kind : (i k n : ℕ) {at : ℕ} (rest : List TokenKind) (a b : Bool) → At ts at (items_kinds (cond a (swap_items i) (cond b (sum_items i k) (cells_items i k))) ++ rest) → IsRead ts i n at rest
  by-kind i k n rest true b x = swap-method i n rest x
  by-kind i k n rest false true x = sum-method i k n rest x
  by-kind i k n rest false false x = cells-method i k n rest x

  pub method-read : (seed i n : ℕ) {at : ℕ} (rest : List TokenKind) → At ts at (items_kinds (method_items seed i) ++ rest) → IsRead ts i n at rest
  method-read seed i n rest x = by-kind i (number_of seed i) n rest ((seed + i) % 3 == 0) ((seed + i) % 3 == 1) x
