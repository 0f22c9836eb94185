-- What the code of statements stands for, over the program that gives the formulas of its numbers.
use Rattle.std.specs.Prelude.{ℕ, List, [], ◌∷◌, map, Option, Some, None, option_map}
use Rattle.std.specs.Option.{option_map_or}
use Rattle.jh_ast.specs.Programs.{ProgramTree}
use Rattle.jh_form.specs.Tree.{ValueTree}
use Rattle.jh_form.specs.Tree as t
use Rattle.jh_vars.specs.Resolved.{as_truth}
use Rattle.jh_vars.specs.Opened.{opened}
use Rattle.jh_semantics.specs.Code as c
use Rattle.jh_semantics.specs.Program.{Method}
use Rattle.jh_semantics.specs.LoweredStmts.{ghost_code, ghost_target}
use Rattle.jh_semantics.specs.declared.typed_code.stmts.Local.{Local}
use Rattle.jh_semantics.specs.declared.typed_code.stmts.Target.{Target}
use Rattle.jh_semantics.specs.declared.typed_code.stmts.Target.TheVariants as x
use Rattle.jh_semantics.specs.declared.typed_code.stmts.Claim.{Claim}
use Rattle.jh_semantics.specs.declared.typed_code.stmts.CallCode.{CallCode}
use Rattle.jh_semantics.specs.declared.typed_code.stmts.Code.{Code, Row_of-Code, end_of-Code, more_of-Code}
use Rattle.jh_semantics.specs.declared.typed_code.stmts.Code.TheVariants as z
use Rattle.jh_semantics.specs.declared.typed_code.stmts.MethodCode.{MethodCode}
use Rattle.jh_semantics.specs.typed_code.Codes.{object_code, truth_code, any_code}

abbrev pub local_in : Local → c.Local
local_in l = record { text = l.name.text; type = l.ty }

unfoldable pub target_in : Target → c.Target
target_in x.Nowhere = c.nowhere
target_in (x.New l) = c.to_new (local_in l)
target_in (x.Name y) = c.to_name y.text
target_in (x.Field f r q) = c.to_field f.text (object_code r) q

module _ (p : ProgramTree) where
  -- the value of a formula by its number
  abbrev pub value_of : ℕ → ValueTree
  value_of n = option_map_or (λ v. v) (opened p n) (t.of_truth t.true_formula)

  abbrev pub claim_in : Claim → c.Claim
  claim_in x = record { label = x.label; place = x.place; from = x.from; formula = as_truth (value_of x.number) }

  abbrev pub call_in : CallCode → c.Stmt
  call_in x = c.call x.place (target_in x.target) (option_map object_code x.receiver) x.receiver_place (record { class = x.class; name = x.method }) (map any_code x.args)

  abbrev pub return_in : Option c.AnyCode → c.Stmt
  return_in None = c.return_nothing
  return_in (Some a) = c.return_value a

  unfoldable mutual
    pub code_in : Code → c.Stmt
    code_in z.Empty = c.empty
    code_in (z.Block' shape ss) = c.block (row_in ss)
    code_in (z.Assign x a) = c.assign (target_in x) (any_code a)
    code_in (z.New q x y) = c.new_object q (target_in x) y.text
    code_in (z.Call x) = call_in x
    code_in (z.Branch' q e i a shape ss) = c.branch q (truth_code e) (code_in a) (row_in ss)
    code_in (z.Loop' q is e i a) = c.loop q (map claim_in is) (truth_code e) (code_in a)
    code_in (z.Return a) = return_in (option_map any_code a)
    code_in (z.Assert x) = c.assert (claim_in x)
    code_in (z.Note x) = c.note (claim_in x)
    code_in (z.Ghost q l r m) = ghost_code q (ghost_target (value_of l)) r (value_of m)

    pub row_in : {n : _} → Row_of-Code n → c.Stmts
    row_in end_of-Code = c.none
    row_in (more_of-Code a ss) = c.more (code_in a) (row_in ss)

  abbrev pub codes_in : List Code → c.Stmts
  codes_in [] = c.none
  codes_in (a ∷ ss) = c.more (code_in a) (codes_in ss)

  abbrev pub method_in : MethodCode → Method
  method_in m = record {
    place = m.place;
    is_public = m.is_public;
    this = m.this;
    params = map local_in m.params;
    result = m.result;
    requires = option_map claim_in m.pre;
    ensures = option_map claim_in m.post;
    body = codes_in m.body;
  }
