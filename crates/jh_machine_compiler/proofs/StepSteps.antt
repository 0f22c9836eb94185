-- What the arms of statements cite, and lists of them.
use Rattle.std.proofs.Common.{◌≡◌, refl, sym, ap, subst, ◌∙◌, ℕ, Bool, true, List, [], ◌∷◌, ◌++◌, append_assoc, Option, map}
use Rattle.std.specs.declared.alloc.Global.{Global}
use Rattle.std.specs.declared.boxed.Box.{Box}
use Rattle.jh_name.specs.declared.naming.Name.{Name}
use Rattle.jh_name.specs.declared.place.Place.{Place}
use Rattle.jh_ast.specs.Programs.{ProgramTree}
use Rattle.jh_arena.specs.table.Entries.{Listing}
use Rattle.jh_arena.specs.table.Growth.{Grows, Extends}
use Rattle.jh_arena.proofs.table.Listed.{extends-refl, extends-trans}
use Rattle.jh_vars.specs.Written.{Callee}
use Rattle.jh_semantics.specs.Code as c
use Rattle.jh_semantics.specs.declared.typed_code.code.TruthCode.{TruthCode}
use Rattle.jh_semantics.specs.typed_code.Codes.{truth_code}
use Rattle.jh_semantics.specs.typed_code.Statements.{code_in, codes_in, claim_in}
use Rattle.jh_semantics.specs.declared.typed_code.stmts.Code.{Code}
use Rattle.jh_semantics.specs.declared.typed_code.stmts.Code.TheVariants as z
use Rattle.jh_semantics.specs.declared.typed_code.stmts.Claim.{Claim}
use Rattle.jh_semantics.proofs.typed_code.CodeSteps.{code-Empty, code-Block, code-Branch, code-Loop}
use Rattle.jh_operands.specs.declared.exprs.TruthExpr.{TruthExpr}
use Rattle.jh_machine_code.specs.declared.code.step.Step.{Step, Row_of-Step, end_of-Step, more_of-Step, items-the_row-Step, items_hidden-the_row-Step-0}
use Rattle.jh_machine_code.specs.declared.code.step.Step.TheBlock.{hidden-the_row-Step-0}
use Rattle.jh_machine_code.specs.declared.code.step.Step.TheVariants as x
use Rattle.jh_machine_code.specs.code.Steps.{IsStep, IsRow, AreSteps}
use Rattle.jh_machine_code.specs.numbering.Numbered.{IsTruth}
use Rattle.jh_machine_code.proofs.numbering.Standing.{grows_twice, stands_still}
use Rattle.jh_machine_compiler.specs.Lasting.{Makes, MakesAll}
use Rattle.jh_machine_compiler.proofs.Growing.{makes_still, makes_all_still}

-- a list of steps as it stands inside a step
module _ (names : List Name) (t : Listing) (numbered : Callee → Option ℕ) (keeps : Bool) where
  row-items : {n : _} (xs : Row_of-Step n) (ss : c.Stmts) → AreSteps names t numbered keeps (items-the_row-Step n xs) ss → IsRow names t numbered keeps xs ss
  unfolding IsRow AreSteps
  row-items end_of-Step ss are = are
  row-items (more_of-Step a xs) ss (s, rest, is, more, whole) = (s, rest, is, row-items xs rest more, whole)

  row-hidden : (xs : List Step) (ss : c.Stmts) → AreSteps names t numbered keeps xs ss → IsRow names t numbered keeps (hidden-the_row-Step-0 xs) ss
  row-hidden xs ss are = row-items (hidden-the_row-Step-0 xs) ss (subst (λ ys. AreSteps names t numbered keeps ys ss) (sym (items_hidden-the_row-Step-0 xs)) are)

module _ (p : ProgramTree) (numbered : Callee → Option ℕ) (keeps : Bool) (names : List Name) (t : Listing) where
  empty : Makes numbered keeps names t c.empty x.Empty
  unfolding IsStep
  empty = record { is = λ later u more much. refl }

  block : (ss : c.Stmts) (xs : List Step) → MakesAll numbered keeps names t ss xs → Makes numbered keeps names t (c.block ss) (x.Block xs)
  unfolding IsStep
  block ss xs all = record { is = λ later u more much. (ss, row-hidden later u numbered keeps xs ss (all.are later u more much), refl) }

  branch : (q : Place) (e : TruthCode) (s : c.Stmt) (ss : c.Stmts) (test : TruthExpr) (a : Box Step Global) (xs : List Step) → IsTruth names e test → Makes numbered keeps names t s a.value → MakesAll numbered keeps names t ss xs → Makes numbered keeps names t (c.branch q (truth_code e) s ss) (x.Branch test a xs)
  unfolding IsStep
  branch q e s ss test a xs truth first second = record {
    is = λ later u more much. (q, s, ss, truth.fits later more, first.is later u more much, row-hidden later u numbered keeps xs ss (second.are later u more much), λ i. c.branch q (sym (truth.same later more) i) s ss);
  }

  loop : (q : Place) (claims : List c.Claim) (e : TruthCode) (s : c.Stmt) (test : TruthExpr) (a : Box Step Global) → IsTruth names e test → Makes numbered keeps names t s a.value → Makes numbered keeps names t (c.loop q claims (truth_code e) s) (x.Loop test a)
  unfolding IsStep
  loop q claims e s test a truth body = record {
    is = λ later u more much. (q, claims, s, truth.fits later more, body.is later u more much, λ i. c.loop q claims (sym (truth.same later more) i) s);
  }

  abbrev Arm : Code → Step → Type 0
  Arm code made = Makes numbered keeps names t (code_in p code) made

  pub empty_made : (code : Code) → code ≡ z.Empty → Arm code x.Empty
  empty_made code is = subst (λ s. Makes numbered keeps names t s x.Empty) (sym (ap (code_in p) is ∙ code-Empty p)) empty

  pub as_code : (code : Code) (s : c.Stmt) (made : Step) → code_in p code ≡ s → Makes numbered keeps names t s made → Arm code made
  as_code code s made is makes = subst (λ x. Makes numbered keeps names t x made) (sym is) makes

  -- what stands in a box, and what stands in a list, is what was made of it
  unbox : (a : Box Code Global) (b : Box Step Global) (code : Code) (made : Step) → code ≡ a.value → b.value ≡ made → Arm code made → Arm a.value b.value
  unbox a b code made at there arm = subst (λ e. Arm a.value e) (sym there) (subst (λ e. Arm e made) at arm)

  unlist : (ss codes : List Code) (xs : List Step) → codes ≡ ss → MakesAll numbered keeps names t (codes_in p codes) xs → MakesAll numbered keeps names t (codes_in p ss) xs
  unlist ss codes xs at all = subst (λ e. MakesAll numbered keeps names t (codes_in p e) xs) at all

  pub block_made : (code : Code) (ss codes : List Code) (xs : List Step) → code ≡ z.Block ss → codes ≡ ss → MakesAll numbered keeps names t (codes_in p codes) xs → Arm code (x.Block xs)
  block_made code ss codes xs is at all = subst (λ s. Makes numbered keeps names t s (x.Block xs)) (sym (ap (code_in p) is ∙ code-Block p ss)) (block (codes_in p ss) xs (unlist ss codes xs at all))

  pub branch_made : (code : Code) (q : Place) (e : TruthCode) (a : Box Code Global) (ss : List Code) (test : TruthExpr) (b : Box Step Global) (xs : List Step) (inner : Code) (made : Step) (codes : List Code) →
      code ≡ z.Branch q e a ss → IsTruth names e test → inner ≡ a.value → b.value ≡ made → Arm inner made → codes ≡ ss → MakesAll numbered keeps names t (codes_in p codes) xs → Arm code (x.Branch test b xs)
  branch_made code q e a ss test b xs inner made codes is truth at there first list second =
      subst
      (λ s. Makes numbered keeps names t s (x.Branch test b xs))
      (sym (ap (code_in p) is ∙ code-Branch p q e a ss))
      (branch q e (code_in p a.value) (codes_in p ss) test b xs truth (unbox a b inner made at there first) (unlist ss codes xs list second))

  pub loop_made : (code : Code) (q : Place) (claims : List Claim) (e : TruthCode) (a : Box Code Global) (test : TruthExpr) (b : Box Step Global) (inner : Code) (made : Step) →
      code ≡ z.Loop q claims e a → IsTruth names e test → inner ≡ a.value → b.value ≡ made → Arm inner made → Arm code (x.Loop test b)
  loop_made code q claims e a test b inner made is truth at there body =
      subst
      (λ s. Makes numbered keeps names t s (x.Loop test b))
      (sym (ap (code_in p) is ∙ code-Loop p q claims e a))
      (loop q (map (claim_in p) claims) e (code_in p a.value) test b truth (unbox a b inner made at there body))

pub as_stmt : (numbered : Callee → Option ℕ) (names : List Name) (t : Listing) (made : Step) {s r : c.Stmt} → s ≡ r → Makes numbered true names t r made → Makes numbered true names t s made
as_stmt numbered names t made is makes = subst (λ x. Makes numbered true names t x made) (sym is) makes

-- What is made of the first statements of a list: with steps of the rest it is those of all.
pub record Covers (p : ProgramTree) (numbered : Callee → Option ℕ) (keeps : Bool) (names : List Name) (t : Listing) (codes rest : List Code) (made : List Step) : Type 0 where
  pub whole : (later : List Name) (u : Listing) → Grows names later → Extends t u → (xs : List Step) → AreSteps later u numbered keeps xs (codes_in p rest) → AreSteps later u numbered keeps (made ++ xs) (codes_in p codes)

pub covers_none : (p : ProgramTree) (numbered : Callee → Option ℕ) (keeps : Bool) (names : List Name) (t : Listing) (codes : List Code) → Covers p numbered keeps names t codes codes []
covers_none p numbered keeps names t codes = record { whole = λ later u more much xs are. are }

pub covers_more : (p : ProgramTree) (numbered : Callee → Option ℕ) (keeps : Bool) (old new : List Name) (t u : Listing) (codes rest : List Code) (code : Code) (made : List Step) (step : Step) →
    Grows old new → Extends t u → Covers p numbered keeps old t codes (code ∷ rest) made → Makes numbered keeps new u (code_in p code) step → Covers p numbered keeps new u codes rest (made ++ step ∷ [])
unfolding AreSteps
covers_more p numbered keeps old new t u codes rest code made step grows extends covers makes = record {
  whole = λ later v more much xs are.
      subst (λ ys. AreSteps later v numbered keeps ys (codes_in p codes)) (sym (append_assoc made (step ∷ []) xs))
      (covers.whole later v (grows_twice grows more) (extends-trans t u v extends much) (step ∷ xs) (code_in p code, codes_in p rest, makes.is later v more much, are, refl));
}

pub covers_all : (p : ProgramTree) (numbered : Callee → Option ℕ) (keeps : Bool) (names : List Name) (t : Listing) (codes : List Code) (made : List Step) → Covers p numbered keeps names t codes [] made → MakesAll numbered keeps names t (codes_in p codes) made
unfolding AreSteps
covers_all p numbered keeps names t codes made covers = record {
  are = λ later u more much. subst (λ ys. AreSteps later u numbered keeps ys (codes_in p codes)) (empty-right made) (covers.whole later u more much [] refl);
}
  where
    empty-right : (xs : List Step) → xs ++ [] ≡ xs
    empty-right [] = refl
    empty-right (x ∷ xs) = ap (λ r. x ∷ r) (empty-right xs)

pub ruleset step_steps = (grows_twice, stands_still, makes_still, makes_all_still, extends-refl, extends-trans)
