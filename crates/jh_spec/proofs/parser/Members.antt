-- One more member of a list.
use Rattle.std.proofs.Common.{◌≡◌, ◌++◌, true, false, ℕ, ◌+◌, ◌-◌, ◌<◌, List, [], ◌∷◌, refl, ap, sym, ◌∙◌}
use Rattle.std.specs.Prelude.{Option, None, Some}
use Rattle.jh_lex.specs.declared.lexer.symbol.Symbol.TheVariants as symbol
use Rattle.jh_lex.specs.declared.lexer.token.Token.{Token}
use Rattle.jh_ast.specs.declared.spec.SpecTree.{SpecTree}
use Rattle.jh_ast.specs.Bare.{form_tree, form_trees}
use Rattle.jh_ast.specs.Forms.{FormTree, FormTrees, place_of, moved}
use Rattle.jh_ast.specs.Forms as form
use Rattle.jh_operators.specs.lookahead.Choices.{and_then, choose}
use Rattle.jh_operators.specs.lookahead.Standing.{is_at}
use Rattle.jh_spec.specs.parser.Reading.{inside, members_of}
use Rattle.jh_spec.specs.parser.Reads.{before}
use Rattle.jh_spec.proofs.parser.Levels.{members-in}

before-more : (old : List SpecTree) (m : SpecTree) (r : FormTrees) → before old (form.more (form_tree m) r) ≡ before (old ++ m ∷ []) r
before-more [] m r = refl
before-more (x ∷ xs) m r = ap (form.more (form_tree x)) (before-more xs m r)

before-end : (old : List SpecTree) → before old form.none ≡ form_trees old
before-end [] = refl
before-end (x ∷ xs) = ap (form.more (form_tree x)) (before-end xs)

pub members-next : (ts : List Token) (k i j : ℕ) (m : SpecTree) (old new : List SpecTree) → 0 < k → (inside ts (k - 1)).operand 3 i ≡ Some (form_tree m, j) → is_at ts j symbol.Comma ≡ true → new ≡ old ++ m ∷ []
    → and_then {B = FormTrees × ℕ} ((inside ts k).members i) (λ r. Some (before old r.0, r.1)) ≡ and_then {B = FormTrees × ℕ} ((inside ts (k - 1)).members (j + 1)) (λ r. Some (before new r.0, r.1))
unfolding and_then choose members_of
members-next ts k i j m old new h e c n =
    ap (λ (o : Option (FormTrees × ℕ)). and_then {B = FormTrees × ℕ} o (λ r. Some (before old r.0, r.1))) (members-in ts k i h
    ∙ ap (λ (o : Option (FormTree × ℕ)). and_then {B = FormTrees × ℕ} o (λ a. choose (is_at ts a.1 symbol.Comma) (and_then ((inside ts (k - 1)).members (a.1 + 1)) (λ r. Some (form.more a.0 r.0, r.1))) (Some (form.more a.0 form.none, a.1)))) e
    ∙ ap (λ b. choose b (and_then ((inside ts (k - 1)).members (j + 1)) (λ r. Some (form.more (form_tree m) r.0, r.1))) (Some (form.more (form_tree m) form.none, j))) c)
    ∙ by_case ((inside ts (k - 1)).members (j + 1)) ∙ ap (λ l. and_then {B = FormTrees × ℕ} ((inside ts (k - 1)).members (j + 1)) (λ r. Some (before l r.0, r.1))) (sym n) where
      by_case : (o : Option (FormTrees × ℕ)) → and_then {B = FormTrees × ℕ} (and_then {B = FormTrees × ℕ} o (λ r. Some (form.more (form_tree m) r.0, r.1))) (λ r. Some (before old r.0, r.1)) ≡ and_then {B = FormTrees × ℕ} o (λ r. Some (before (old ++ m ∷ []) r.0, r.1))
      by_case None = refl
      by_case (Some r) = ap (λ l. Some (l, r.1)) (before-more old m r.0)

pub members-last : (ts : List Token) (k i j : ℕ) (m : SpecTree) (old new : List SpecTree) → 0 < k → (inside ts (k - 1)).operand 3 i ≡ Some (form_tree m, j) → is_at ts j symbol.Comma ≡ false → new ≡ old ++ m ∷ []
    → and_then {B = FormTrees × ℕ} ((inside ts k).members i) (λ r. Some (before old r.0, r.1)) ≡ Some (form_trees new, j)
unfolding and_then choose members_of
members-last ts k i j m old new h e c n =
    ap (λ (o : Option (FormTrees × ℕ)). and_then {B = FormTrees × ℕ} o (λ r. Some (before old r.0, r.1))) (members-in ts k i h
    ∙ ap (λ (o : Option (FormTree × ℕ)). and_then {B = FormTrees × ℕ} o (λ a. choose (is_at ts a.1 symbol.Comma) (and_then ((inside ts (k - 1)).members (a.1 + 1)) (λ r. Some (form.more a.0 r.0, r.1))) (Some (form.more a.0 form.none, a.1)))) e
    ∙ ap (λ b. choose b (and_then ((inside ts (k - 1)).members (j + 1)) (λ r. Some (form.more (form_tree m) r.0, r.1))) (Some (form.more (form_tree m) form.none, j))) c)
    ∙ ap (λ l. Some (l, j)) (before-more old m form.none ∙ ap (λ l. before l form.none) (sym n) ∙ before-end new)
