-- What is read of members, classes and programs: the grammar as a function, which the code follows. That it is the grammar is
-- proved in proofs/MemberSound and proofs/MemberComplete.
use Rattle.std.specs.Prelude.{ℕ, zero, suc, ◌+◌, ◌==◌, Bool, List, [], ◌∷◌, ◌++◌, length, Option, None, Some}
use Rattle.jh_lex.specs.declared.lexer.symbol.Symbol.{Symbol}
use Rattle.jh_lex.specs.declared.lexer.symbol.Symbol.TheVariants as symbol
use Rattle.jh_lex.specs.declared.lexer.token.Token.{Token}
use Rattle.jh_ast.specs.declared.word.Word.{Word}
use Rattle.jh_ast.specs.declared.word.JType.{JType}
use Rattle.jh_ast.specs.declared.word.JType.TheVariants as jtype
use Rattle.jh_ast.specs.declared.word.Param.{Param}
use Rattle.jh_ast.specs.Exprs.{ExprTree}
use Rattle.jh_ast.specs.Forms.{SpecPart}
use Rattle.jh_ast.specs.Stmts.{StmtTrees}
use Rattle.jh_ast.specs.Programs.{FieldPart, MethodPart, ClassPart, ProgramTree}
use Rattle.jh_operators.specs.lookahead.Choices.{◌>>=◌, choose, given}
use Rattle.jh_operators.specs.lookahead.Lists.{Found, many_at}
use Rattle.jh_operators.specs.lookahead.Modifiers.{modifiers_at, allowed_at, has}
use Rattle.jh_operators.specs.lookahead.Standing.{is_at, is_spec_open_at, is_end_at, place_at, word_at, behind}
use Rattle.jh_spec.specs.parser.PartReading as part
use Rattle.jh_parse.specs.programs.Members.{of_members, of_classes, MemberTree, of_fields, of_method, of_items, class_of}
use Rattle.jh_parse.specs.programs.Literals.{literal_at}
use Rattle.jh_parse.specs.programs.Separated.{separated_at}
use Rattle.jh_parse.specs.statements.Reading as stmts

unfoldable pub init_at : List Token → ℕ → Option (Option ExprTree × ℕ)
init_at ts i = choose (is_at ts i symbol.Equal) (literal_at ts (i + 1) >>= λ e. Some (Some e, i + 1 + 1)) (Some (None, i))

unfoldable pub one_at : List Token → JType → Bool → ℕ → Option (FieldPart × ℕ)
one_at ts t fixed i = word_at ts i >>= λ w. init_at ts (i + 1) >>= λ e. Some (record { name = w; jtype = t; fixed = fixed; init = e.0 }, e.1)

-- fields of a type, up to their semicolon
unfoldable pub fields_at : List Token → JType → Bool → ℕ → Option (List FieldPart × ℕ)
fields_at ts t fixed i = separated_at ts (one_at ts t fixed) (length ts) i >>= λ fs. behind ts fs.1 symbol.Semicolon >>= λ j. Some (fs.0, j)

unfoldable pub parameters_at : List Token → ℕ → Option (List Param × ℕ)
parameters_at ts i = behind ts i symbol.LeftParenthesis >>= λ a.
    choose (is_at ts (i + 1) symbol.RightParenthesis) (Some ([], i + 2))
    (separated_at ts (stmts.declared_at ts) (length ts) (i + 1) >>= λ ps. behind ts ps.1 symbol.RightParenthesis >>= λ j. Some (ps.0, j))

unfoldable pub promised_at : List Token → ℕ → ℕ → Option (Found (Option SpecPart × List Word × Option SpecPart))
promised_at ts n i = choose (is_spec_open_at ts i) (part.contracted_at ts n (i + 1) >>= λ c. Some (c.0, c.1 + 1, c.2)) (Some ((None, [], None), i, n))

-- the modifiers and the type of a member, which its name follows
pub record Head : Type 0 where
  pub is_public : Bool
  pub fixed : Bool
  pub jtype : JType

-- the name and the parameters of a method
unfoldable pub signature_at : List Token → ℕ → Option ((Word × List Param) × ℕ)
signature_at ts i = word_at ts i >>= λ w. parameters_at ts (i + 1) >>= λ ps. Some ((w, ps.0), ps.1)

-- its contract and its body, up to the closing brace
unfoldable pub obligations_at : List Token → ℕ → ℕ → Option (Found ((Option SpecPart × List Word × Option SpecPart) × StmtTrees))
obligations_at ts n i = promised_at ts n i >>= λ c. stmts.body_at ts c.2 c.1 >>= λ ss. Some ((c.0, ss.0), ss.1, ss.2)

-- a method whose name stands there
unfoldable pub method_at : List Token → Head → ℕ → ℕ → Option (Found MethodPart)
method_at ts h n i = signature_at ts i >>= λ s. obligations_at ts n s.1 >>= λ b.
    Some (record { name = s.0.0; is_public = h.is_public; fixed = h.fixed; result = h.jtype; params = s.0.1; pre = b.0.0.0; modifies = b.0.0.1; post = b.0.0.2; body = b.0.1; end = place_at ts b.1 }, b.1 + 1, b.2)

unfoldable pub methods_at : List Token → Head → ℕ → ℕ → Option (Found MemberTree)
methods_at ts h n i = method_at ts h n i >>= λ x. Some (of_method x.0, x.1, x.2)

-- fields or a method with these modifiers, whose type stands there
unfoldable pub typed_at : List Token → Bool → Bool → ℕ → ℕ → Option (Found MemberTree)
typed_at ts is_public fixed n i = stmts.typed_at ts i >>= λ t.
    choose (is_at ts (t.1 + 1) symbol.LeftParenthesis)
    (methods_at ts (record { is_public = is_public; fixed = fixed; jtype = t.0 }) n t.1)
    (fields_at ts t.0 fixed t.1 >>= λ fs. Some (of_fields fs.0, fs.1, n))

-- whether the modifiers before a member make it public and static
unfoldable pub flags_at : List Token → ℕ → Option ((Bool × Bool) × ℕ)
flags_at ts i = modifiers_at ts of_members (suc (length ts)) [] i >>= λ ms. Some ((has ms.0 symbol.Public, has ms.0 symbol.Static), ms.1)

unfoldable pub modified_at : List Token → ℕ → ℕ → Option (Found MemberTree)
modified_at ts n i = flags_at ts i >>= λ f.
    choose (is_at ts f.1 symbol.Void)
    (methods_at ts (record { is_public = f.0.0; fixed = f.0.1; jtype = jtype.Void }) n (f.1 + 1))
    (typed_at ts f.0.0 f.0.1 n f.1)

-- what a specification among the members declares
unfoldable pub declares_at : List Token → ℕ → ℕ → Option (Found MemberTree)
declares_at ts n i = part.items_at ts n (i + 1) >>= λ xs. Some (of_items xs.0, xs.1 + 1, xs.2)

unfoldable pub member_at : List Token → ℕ → ℕ → Option (Found MemberTree)
member_at ts n i = choose (is_spec_open_at ts i) (declares_at ts n i) (modified_at ts n i)

-- one of what may stand before `class`: the modifiers then, and the place after it
unfoldable pub head_at : List Token → List Symbol → ℕ → Option (Option (List Symbol × ℕ))
head_at ts seen i = given (allowed_at ts of_classes i)
    (λ s. choose (has seen s) None (Some (Some (seen ++ s ∷ [], i + 1))))
    (choose (is_spec_open_at ts i) (part.claimed_at ts (i + 1) >>= λ c. Some (Some (seen, c.1 + 1))) (Some None))

-- the place after what stands before `class`, in no more than k steps
unfoldable pub heads_at : List Token → ℕ → List Symbol → ℕ → Option ℕ
heads_at ts zero seen i = None
heads_at ts (suc k) seen i = head_at ts seen i >>= λ h. given h (λ s. heads_at ts k s.0 s.1) (Some i)

-- the members of a class, up to the closing brace
unfoldable pub members_at : List Token → ℕ → ℕ → Option (Found (List MemberTree))
members_at ts n i = many_at (λ k. is_at ts k symbol.RightBrace) (member_at ts) (length ts) n i

unfoldable pub class_at : List Token → ℕ → ℕ → Option (Found ClassPart)
class_at ts n i = heads_at ts (suc (length ts)) [] i >>= λ a. behind ts a symbol.Class >>= λ b. word_at ts b >>= λ w. behind ts (b + 1) symbol.LeftBrace >>= λ c.
    members_at ts n c >>= λ xs. Some (class_of w xs.0, xs.1 + 1, xs.2)

-- all classes of a source
unfoldable pub classes_at : List Token → Option (Found (List ClassPart))
classes_at ts = many_at (is_end_at ts) (class_at ts) (length ts) 0 0

unfoldable pub program_at : List Token → Option ProgramTree
program_at ts = classes_at ts >>= λ cs. choose (length ts == cs.1 + 1) (Some (record { classes = cs.0 })) None
