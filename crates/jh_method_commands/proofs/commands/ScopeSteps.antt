-- What statements declare.
use Rattle.std.proofs.Common.{◌≡◌, refl, sym, ap, ◌∙◌, List, [], ◌∷◌, ◌++◌, map, append-nil, append_assoc, Option, Some, None}
use Rattle.std.proofs.lemmas.List.{map-append}
use Rattle.jh_ast.specs.Programs.{ProgramTree}
use Rattle.jh_name.specs.declared.place.Place.{Place}
use Rattle.jh_form.specs.Tree.{ValueTree}
use Rattle.jh_semantics.specs.Code.{AnyCode, Local, Stmt}
use Rattle.jh_semantics.specs.LoweredStmts.{GhostTarget, a_name, a_read, no_target, ghost_code}
use Rattle.jh_guard.specs.Writes.{declared, scope_after}
use Rattle.jh_semantics.specs.declared.typed_code.stmts.Local.{Local as LocalCode}
use Rattle.jh_semantics.specs.declared.typed_code.stmts.Target.{Target as TargetCode}
use Rattle.jh_semantics.specs.declared.typed_code.stmts.Target.TheVariants as z
use Rattle.jh_semantics.specs.typed_code.Statements.{return_in, target_in}
use Rattle.jh_state_facts.specs.declared.well_formedness.state.Known.{Known}
use Rattle.jh_state_facts.specs.well_formedness.States.{local_of}
use Rattle.jh_method_commands.specs.commands.Sides.{IsLonger}

pub longer-same : {X : Type 0} (xs : List X) → IsLonger xs xs
longer-same xs = ([], sym (append-nil xs))

pub longer-one : {X : Type 0} (old new : List X) (x : X) → new ≡ old ++ x ∷ [] → IsLonger old new
longer-one old new x e = (x ∷ [], e)

pub longer-two : {X : Type 0} (old mid new : List X) → IsLonger old mid → IsLonger mid new → IsLonger old new
longer-two old mid new h k = (h.0 ++ k.0, k.1 ∙ ap (λ xs. xs ++ k.0) h.1 ∙ append_assoc old h.0 k.0)

-- a ghost assignment and a return declare nothing
pub after-ghost : (scope : List Local) (q : Place) (x : GhostTarget) (r : Place) (v : ValueTree) → scope ≡ scope_after scope (ghost_code q x r v)
after-ghost scope q (a_name kind x) r v = sym (append-nil scope)
after-ghost scope q (a_read kind x a) r v = sym (append-nil scope)
after-ghost scope q no_target r v = sym (append-nil scope)

pub after-return : (p : ProgramTree) (scope : List Local) (a : Option AnyCode) → scope ≡ scope_after scope (return_in p a)
after-return p scope None = sym (append-nil scope)
after-return p scope (Some e) = sym (append-nil scope)

-- a local that a target declares
pub declares-new : (old new : List Known) (x : Known) (l : LocalCode) (t : TargetCode) → new ≡ old ++ x ∷ [] → x.text.now ≡ l.name.text → x.ty ≡ l.ty → t ≡ z.New l → map local_of new ≡ map local_of old ++ declared (target_in t)
unfolding target_in
declares-new old new x l t e text type is =
    ap (map local_of) e ∙ map-append local_of old (x ∷ []) ∙ (λ i. map local_of old ++ record { text = text i; type = type i } ∷ []) ∙ ap (λ y. map local_of old ++ declared (target_in y)) (sym is)

pub after-other : (scope : List Local) → scope ≡ scope ++ []
after-other scope = sym (append-nil scope)

pub ruleset scope_steps = (longer-same, longer-one, after-ghost, after-return, after-other)
