-- No token of a made source is nested deep.
use Rattle.std.proofs.Common.{◌≡◌, ℕ, zero, suc, ◌+◌, ◌%◌, ◌≤◌, Bool, true, false, cond, not, ◌&&◌, ◌||◌, if◌then◌else◌, ◌==◌, nat_le, slice_index, List, [], ◌∷◌, ◌++◌, map, refl, ap, sym, subst, ◌∙◌, arith, append_assoc, leb-true}
use Rattle.std.proofs.lemmas.Bool.{and_parts}
use Rattle.jh_lex.specs.lexer.Modes.{mode_after}
use Rattle.jh_lex.specs.declared.lexer.mode.Mode.{Mode}
use Rattle.jh_lex.specs.declared.lexer.mode.Mode.TheVariants.{Code, Specification, Formula}
use Rattle.jh_lex.specs.declared.lexer.symbol.Symbol.TheVariants as symbol
use Rattle.jh_lex.specs.declared.lexer.token.Token.{Token}
use Rattle.jh_lex.specs.declared.lexer.token.TokenKind.{TokenKind}
use Rattle.jh_lex.specs.declared.lexer.token.TokenKind.TheVariants as kind
use Rattle.jh_spec.specs.nesting.Nesting.{is, with_token, behind_token, is_else, continues, ends_specification, leads_on, goes_on, nesting, nestings, AllShallow}
use Rattle.jh_gen.specs.Generated.{number_of}
use Rattle.jh_gen_laws.specs.tokens.Laws.{kind_of}
use Rattle.jh_gen_laws.specs.tokens.Pieces.{items_kinds, swap_items, sum_items, cells_items, method_items, first_items, last_items, methods_kinds, source_kinds}

-- whether these begin with `else`
abbrev else_first : List TokenKind → Bool
else_first [] = false
else_first (k ∷ ks) = is k symbol.Else

-- the same of what goes on with a statement, and of a specification before it
abbrev inside_first : List TokenKind → Bool
inside_first [] = false
inside_first (k ∷ ks) = is k symbol.Else || is k symbol.LeftParenthesis

abbrev leads_first : List TokenKind → Bool
leads_first [] = false
leads_first (k ∷ ks) = if ends_specification k then inside_first ks else leads_first ks

abbrev goes_first : Mode → TokenKind → List TokenKind → Bool
goes_first Specification k ks = (is k symbol.Semicolon && leads_first ks) || else_first ks
goes_first m k ks = else_first ks

-- whether no token of these kinds is nested deep, where the levels are these before them
abbrev pub are_shallow : Mode → List ℕ → List TokenKind → Bool
are_shallow m levels [] = true
are_shallow m levels (k ∷ ks) = nat_le (nesting (with_token m k levels)) 64 && are_shallow (mode_after m k) (behind_token m k (goes_first m k ks) (with_token m k levels)) ks

else-same : (ts : List Token) → is_else ts ≡ else_first (map kind_of ts)
else-same [] = refl
else-same (t ∷ ts) = refl

inside-same : (ts : List Token) → continues ts ≡ inside_first (map kind_of ts)
inside-same [] = refl
inside-same (t ∷ ts) = refl

leads-same : (ts : List Token) → leads_on ts ≡ leads_first (map kind_of ts)
leads-same [] = refl
leads-same (t ∷ ts) = λ i. if ends_specification t.kind then inside-same ts i else leads-same ts i

goes-same : (m : Mode) (k : TokenKind) (ts : List Token) → goes_on m k ts ≡ goes_first m k (map kind_of ts)
goes-same Specification k ts = λ i. (is k symbol.Semicolon && leads-same ts i) || else-same ts i
goes-same Code k ts = else-same ts
goes-same Formula k ts = else-same ts

shallow-at : (m : Mode) (levels : List ℕ) (ts : List Token) (k : ℕ) → are_shallow m levels (map kind_of ts) ≡ true → slice_index (nestings m levels ts) k ≤ 64
shallow-at m levels [] k e = omega arith
shallow-at m levels (t ∷ ts) zero e = leb-true _ 64 (and_parts _ _ e).0
shallow-at m levels (t ∷ ts) (suc k) e =
    shallow-at (mode_after m t.kind) (behind_token m t.kind (goes_on m t.kind ts) (with_token m t.kind levels)) ts k
    (subst (λ b. are_shallow (mode_after m t.kind) (behind_token m t.kind b (with_token m t.kind levels)) (map kind_of ts) ≡ true) (sym (goes-same m t.kind ts)) (and_parts _ _ e).1)

-- ---- the levels behind a line are those before it

same : (b : Bool) → cond {A = List ℕ} (not b) (0 ∷ 0 ∷ []) (0 ∷ 0 ∷ []) ≡ 0 ∷ 0 ∷ []
same true = refl
same false = refl

module _ (i k : ℕ) (rest : List TokenKind) where
  swap-shallow : are_shallow Code (0 ∷ 0 ∷ []) (items_kinds (swap_items i) ++ rest) ≡ are_shallow Code (0 ∷ 0 ∷ []) rest
  unfolding with_token behind_token
  swap-shallow = λ j. are_shallow Code (same (else_first rest) j) rest

  sum-shallow : are_shallow Code (0 ∷ 0 ∷ []) (items_kinds (sum_items i k) ++ rest) ≡ are_shallow Code (0 ∷ 0 ∷ []) rest
  unfolding with_token behind_token
  sum-shallow = λ j. are_shallow Code (same (else_first rest) j) rest

  cells-shallow : are_shallow Code (0 ∷ 0 ∷ []) (items_kinds (cells_items i k) ++ rest) ≡ are_shallow Code (0 ∷ 0 ∷ []) rest
  unfolding with_token behind_token
  cells-shallow = λ j. are_shallow Code (same (else_first rest) j) rest

  kind-shallow : (a b : Bool) → are_shallow Code (0 ∷ 0 ∷ []) (items_kinds (cond a (swap_items i) (cond b (sum_items i k) (cells_items i k))) ++ rest) ≡ are_shallow Code (0 ∷ 0 ∷ []) rest
  kind-shallow true b = swap-shallow
  kind-shallow false true = sum-shallow
  kind-shallow false false = cells-shallow

method-shallow : (seed i : ℕ) (rest : List TokenKind) → are_shallow Code (0 ∷ 0 ∷ []) (items_kinds (method_items seed i) ++ rest) ≡ are_shallow Code (0 ∷ 0 ∷ []) rest
method-shallow seed i rest = kind-shallow i (number_of seed i) rest ((seed + i) % 3 == 0) ((seed + i) % 3 == 1)

methods-shallow : (seed n : ℕ) (rest : List TokenKind) → are_shallow Code (0 ∷ 0 ∷ []) (methods_kinds seed n ++ rest) ≡ are_shallow Code (0 ∷ 0 ∷ []) rest
methods-shallow seed zero rest = refl
methods-shallow seed (suc n) rest =
    ap (are_shallow Code (0 ∷ 0 ∷ [])) (append_assoc (methods_kinds seed n) (items_kinds (method_items seed (suc n))) rest)
    ∙ methods-shallow seed n (items_kinds (method_items seed (suc n)) ++ rest)
    ∙ method-shallow seed (suc n) rest

first-shallow : (rest : List TokenKind) → are_shallow Code (0 ∷ []) (items_kinds first_items ++ rest) ≡ are_shallow Code (0 ∷ 0 ∷ []) rest
unfolding with_token behind_token
first-shallow rest = λ j. are_shallow Code (same (else_first rest) j) rest

last-shallow : are_shallow Code (0 ∷ 0 ∷ []) (items_kinds last_items ++ kind.End ∷ []) ≡ true
unfolding with_token behind_token
last-shallow = refl

source-shallow : (seed methods : ℕ) → are_shallow Code (0 ∷ []) (source_kinds seed methods ++ kind.End ∷ []) ≡ true
source-shallow seed methods =
    ap (are_shallow Code (0 ∷ [])) (append_assoc (items_kinds first_items) (methods_kinds seed methods ++ items_kinds last_items) (kind.End ∷ []))
    ∙ first-shallow ((methods_kinds seed methods ++ items_kinds last_items) ++ kind.End ∷ [])
    ∙ ap (are_shallow Code (0 ∷ 0 ∷ [])) (append_assoc (methods_kinds seed methods) (items_kinds last_items) (kind.End ∷ []))
    ∙ methods-shallow seed methods (items_kinds last_items ++ kind.End ∷ [])
    ∙ last-shallow

pub all-shallow : (seed methods : ℕ) (ts : List Token) → map kind_of ts ≡ source_kinds seed methods ++ kind.End ∷ [] → AllShallow ts
all-shallow seed methods ts e k within = shallow-at Code (0 ∷ []) ts k (ap (are_shallow Code (0 ∷ [])) e ∙ source-shallow seed methods)
