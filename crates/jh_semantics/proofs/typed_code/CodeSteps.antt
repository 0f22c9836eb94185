-- What the code of some statements stands for, an equation for each variant, and of lists of statements.
use Rattle.std.proofs.Common.{◌≡◌, refl, ap, ◌∙◌, ℕ, List, map, option_map, Option}
use Rattle.std.specs.declared.alloc.Global.{Global}
use Rattle.std.specs.declared.boxed.Box.{Box}
use Rattle.jh_name.specs.declared.naming.Name.{Name}
use Rattle.jh_name.specs.declared.place.Place.{Place}
use Rattle.jh_ast.specs.Programs.{ProgramTree}
use Rattle.jh_semantics.specs.Code as c
use Rattle.jh_semantics.specs.LoweredStmts.{ghost_code, ghost_target}
use Rattle.jh_semantics.specs.declared.typed_code.code.AnyCode.{AnyCode}
use Rattle.jh_semantics.specs.declared.typed_code.code.TruthCode.{TruthCode}
use Rattle.jh_semantics.specs.declared.typed_code.stmts.CallCode.{CallCode}
use Rattle.jh_semantics.specs.declared.typed_code.stmts.Claim.{Claim}
use Rattle.jh_semantics.specs.declared.typed_code.stmts.Target.{Target}
use Rattle.jh_semantics.specs.declared.typed_code.stmts.Code.{Code, Row_of-Code, end_of-Code, more_of-Code, items-the_row-Code, items_hidden-the_row-Code-0}
use Rattle.jh_semantics.specs.declared.typed_code.stmts.Code.TheBlock.{hidden-the_row-Code-0}
use Rattle.jh_semantics.specs.declared.typed_code.stmts.Code.TheVariants as z
use Rattle.jh_semantics.specs.typed_code.Codes.{truth_code, any_code}
use Rattle.jh_semantics.specs.typed_code.Statements.{target_in, value_of, claim_in, call_in, return_in, code_in, row_in, codes_in}

module _ (p : ProgramTree) where
  rows-items : {n : _} (ss : Row_of-Code n) → row_in p ss ≡ codes_in p (items-the_row-Code n ss)
  unfolding row_in
  rows-items end_of-Code = refl
  rows-items (more_of-Code a ss) = ap (c.more (code_in p a)) (rows-items ss)

  rows-hidden : (ss : List Code) → row_in p (hidden-the_row-Code-0 ss) ≡ codes_in p ss
  rows-hidden ss = rows-items (hidden-the_row-Code-0 ss) ∙ ap (codes_in p) (items_hidden-the_row-Code-0 ss)

  pub code-Block : (ss : List Code) → code_in p (z.Block ss) ≡ c.block (codes_in p ss)
  unfolding code_in
  code-Block ss = ap c.block (rows-hidden ss)

  pub code-Empty : code_in p z.Empty ≡ c.empty
  unfolding code_in
  code-Empty = refl

  pub code-Assign : (x : Target) (a : AnyCode) → code_in p (z.Assign x a) ≡ c.assign (target_in x) (any_code a)
  unfolding code_in
  code-Assign x a = refl

  pub code-New : (q : Place) (x : Target) (y : Name) → code_in p (z.New q x y) ≡ c.new_object q (target_in x) y.text
  unfolding code_in
  code-New q x y = refl

  pub code-Call : (x : CallCode) → code_in p (z.Call x) ≡ call_in p x
  unfolding code_in
  code-Call x = refl

  pub code-Branch : (q : Place) (e : TruthCode) (a : Box Code Global) (ss : List Code) → code_in p (z.Branch q e a ss) ≡ c.branch q (truth_code e) (code_in p a.value) (codes_in p ss)
  unfolding code_in
  code-Branch q e a ss = ap (c.branch q (truth_code e) (code_in p a.value)) (rows-hidden ss)

  pub code-Loop : (q : Place) (is : List Claim) (e : TruthCode) (a : Box Code Global) → code_in p (z.Loop q is e a) ≡ c.loop q (map (claim_in p) is) (truth_code e) (code_in p a.value)
  unfolding code_in
  code-Loop q is e a = refl

  pub code-Return : (a : Option AnyCode) → code_in p (z.Return a) ≡ return_in p (option_map any_code a)
  unfolding code_in
  code-Return a = refl

  pub code-Assert : (x : Claim) → code_in p (z.Assert x) ≡ c.assert (claim_in p x)
  unfolding code_in
  code-Assert x = refl

  pub code-Note : (x : Claim) → code_in p (z.Note x) ≡ c.note (claim_in p x)
  unfolding code_in
  code-Note x = refl

  pub code-Ghost : (q : Place) (l : ℕ) (r : Place) (m : ℕ) → code_in p (z.Ghost q l r m) ≡ ghost_code q (ghost_target (value_of p l)) r (value_of p m)
  unfolding code_in
  code-Ghost q l r m = refl

pub ruleset code_steps = (code-Empty, code-Block, code-Assign, code-New, code-Call, code-Branch, code-Loop, code-Return, code-Assert, code-Note, code-Ghost)
