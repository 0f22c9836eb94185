-- The rows of an outline are the answers on what the methods of a program may write and name.
use Rattle.std.specs.Prelude.{◌≡◌, ◌↔◌, ◌+◌, true, List, Option, Some, None, length}
use Rattle.std.specs.List.{Contains}
use Rattle.jh_ast.specs.Programs.{ProgramTree, MethodPart}
use Rattle.jh_vars.specs.Written.{Written, Callee, MayWrite, Names, all_state, named_by, part_of, written_name}
use Rattle.jh_effects.specs.written_state.Arising.{ArePlaces}
use Rattle.jh_effects.specs.written_state.Chosen.{places_below}
use Rattle.jh_semantics.specs.Code.{Text}
use Rattle.jh_logic.specs.jh_guard.Writes.{Writes}
use Rattle.jh_method_commands.specs.declared.environment.outline.Outline.{Outline}
use Rattle.jh_method_commands.specs.environment.Outlines.{written_by, modified_by, framed_by}
use Rattle.jh_outline.specs.outline.Framing.{is_framed}

-- what the `modifies` of a method names, where there is such a method
abbrev pub NamesOf : ProgramTree → Callee → Option MethodPart → Written → Type 0
NamesOf p m None x = ⊥
NamesOf p m (Some part) x = Names p (named_by p m.class part) x

-- the rows of a method: what it may write, what it names, and which members are framed
pub record AreRows (p : ProgramTree) (o : Outline) (m : Callee) : Type 0 where
  pub written : ArePlaces (MayWrite p m) (all_state p) (written_by o m)
  pub modified : ArePlaces (NamesOf p m (part_of p m)) (all_state p) (modified_by o m)
  pub framed : framed_by o m ≡ places_below (is_framed (written_by o m) (modified_by o m) (length o.classes.now + 2)) (length o.members.now)

-- of a piece of the state that has this text it is so
abbrev pub Told : ProgramTree → (Written → Type 0) → Text → Type 0
Told p holds y = (x : Written) × Contains (all_state p) x × ((written_name p x).text ≡ y) × holds x

-- Tests of texts say exactly what the methods of a source may write and what their `modifies` names. There is one pair of such tests.
pub record AreExact (p : ProgramTree) (ws : Writes) : Type 0 where
  pub written : (m : Callee) (y : Text) → (ws.written m y ≡ true) ↔ Told p (MayWrite p m) y
  pub modified : (m : Callee) (y : Text) → (ws.modified m y ≡ true) ↔ Told p (NamesOf p m (part_of p m)) y
