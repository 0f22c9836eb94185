-- A method of a program is one of those of its class.
use Rattle.std.proofs.Common.{◌≡◌, refl, sym, ap, ◌∙◌, ℕ, Bool, true, false, ◌||◌, if◌then◌else◌, List, [], ◌∷◌, map, Option, Some, None, option_map, is_some, slice_get}
use Rattle.std.specs.List.{list_any}
use Rattle.std.specs.Option.{option_map_or}
use Rattle.std.proofs.lemmas.Option.{slice_get-map}
use Rattle.jh_ast.specs.Bare.{class_part, method_part, program_tree}
use Rattle.jh_ast.specs.Programs.{MethodPart}
use Rattle.jh_ast.specs.declared.program.Class.{Class}
use Rattle.jh_ast.specs.declared.program.Method.{Method}
use Rattle.jh_ast.specs.declared.program.Program.{Program}
use Rattle.jh_rules.specs.Names.{◌then◌}
use Rattle.jh_rules.specs.Words.{same_text, text_of}
use Rattle.jh_vars.specs.Written.{method_in}
use Rattle.jh_semantics.specs.LoweredProgram.{method_code}
use Rattle.jh_run.specs.outcome.Outcomes.{is_method_in}

module _ (name : List ℕ) where
  abbrev pub among : List Method → Bool
  among ms = list_any (λ (m : Method). same_text (text_of (method_part m).name) name) ms

  first : (b : Bool) (m : MethodPart) (rest : Option MethodPart) (is : Bool) → is ≡ is_some rest → (b || is) ≡ is_some (if b then Some m else rest)
  first true m rest is e = refl
  first false m rest is e = e

  among-is : (ms : List Method) → among ms ≡ is_some (method_in name (map method_part ms))
  unfolding method_in
  among-is [] = refl
  among-is (m ∷ ms) = first (same_text (text_of (method_part m).name) name) (method_part m) (method_in name (map method_part ms)) (among ms) (among-is ms)

  some-map : {A B : Type 0} (f : A → B) (o : Option A) → is_some o ≡ is_some (option_map f o)
  some-map f None = refl
  some-map f (Some x) = refl

  in-class : (p : Program) (n : ℕ) (c : Option Class) → option_map_or (λ (k : Class). among k.methods) c false ≡ is_some (option_map (method_code (program_tree p) n) (option_map class_part c then λ k. method_in name k.methods))
  unfolding class_part
  in-class p n None = refl
  in-class p n (Some k) = among-is k.methods ∙ some-map (method_code (program_tree p) n) (method_in name (map method_part k.methods))

  -- the methods of the class of a number, as the program has them
  pub class-has : (p : Program) (n : ℕ) → option_map_or (λ (k : Class). among k.methods) (slice_get p.classes n) false ≡ is_method_in (program_tree p) name (Some n)
  unfolding program_tree
  class-has p n =
      in-class p n (slice_get p.classes n)
      ∙ ap (λ o. is_some (option_map (method_code (program_tree p) n) (o then λ k. method_in name k.methods))) (sym (slice_get-map class_part p.classes n))
