-- What variables stand for, while the table grows and once all definitions are opened.
use Rattle.std.proofs.Common.{◌≡◌, refl, sym, ap, subst, ◌∙◌, ℕ, zero, suc, List, slice_get, Option, Some, None}
use Rattle.std.specs.Option.{option_map_or}
use Rattle.jh_ast.specs.Forms.{FormTree}
use Rattle.jh_ast.specs.Programs.{ProgramTree, DefPart}
use Rattle.jh_form.specs.Tree.{ValueTree, of_object, null}
use Rattle.jh_arena.specs.table.Entries.{Listing}
use Rattle.jh_arena.specs.table.Growth.{Extends}
use Rattle.jh_arena.specs.table.Nodes.{nodes}
use Rattle.jh_rules.specs.Names.{declared_in, def_of}
use Rattle.jh_vars.specs.Opened.{meant, all_definitions, value_at, outside, is_of_objects}
use Rattle.jh_vars.specs.Resolved.{resolved}
use Rattle.jh_vars.specs.States.{Variable, class_text}
use Rattle.jh_symbols.specs.declared.member_numbers.numbers.Numbers.{Numbers}
use Rattle.jh_symbols.specs.member_numbers.Numbering.{number_in}
use Rattle.jh_definitions.specs.jh_resolution.declared.context.Context.{Context}
use Rattle.jh_definitions.specs.jh_resolution.declared.context.Spot.{Spot}
use Rattle.jh_definitions.specs.jh_resolution.Meant.{tree_at, meaning_in, AreHeld}
use Rattle.jh_definitions.specs.jh_resolution.Spots.{spot_of, IsResolved}
use Rattle.jh_definitions.proofs.of_jh_resolution.Meant.{held-grows, meaning-grows}
use Rattle.jh_definitions.specs.declared.expansion.opening.Definition.{Definition}
use Rattle.jh_definitions.specs.expansion.Opening.{AreMeant, IsAmong}
use Rattle.jh_definitions.proofs.expansion.Steps.{spelled-is}
use Rattle.jh_definitions.specs.dependency_order.Answered.{AreOrdered}
use Rattle.jh_unfolding.specs.unfolder.Adding.{program_of, AreKnown, IsReady}

pub known-grows : (p : ProgramTree) (l m : Listing) (made : Numbers) → Extends l m → AreKnown p (nodes l) made → AreKnown p (nodes m) made
known-grows p l m made g h = record { held = held-grows l m made g h.held; means = meaning-grows l m made g h.held ∙ h.means }

pub ready-grows : (l m : Listing) (x : Context) → Extends l m → IsReady l x → IsReady m x
ready-grows l m x g h = record { declared = h.declared; known = known-grows (program_of x) l m x.meanings.now g h.known }

-- what is resolved over what is known is the value of the definition
pub resolved-is : (l : Listing) (x : Context) (at : Spot) (a : FormTree) (n : ℕ) → IsReady l x → IsResolved (nodes l) x at a n → slice_get (nodes l) n ≡ Some (value_at (program_of x) (spot_of at) a)
resolved-is l x at a n h e = e ∙ (λ i. Some (resolved (h.declared i) (spelled-is x.classes.now i) (h.known.means i) a (spot_of at)))

meant-none : (p : ProgramTree) (n c : ℕ) (x : List ℕ) → def_of p c x ≡ None → meant p n c x ≡ of_object null
unfolding meant
meant-none p zero c x e = refl
meant-none p (suc n) c x e = ap (λ o. option_map_or (λ (d : DefPart). resolved (declared_in p) (class_text p) (meant p n) d.spec.form (outside c (is_of_objects p c x))) o (of_object null)) e

no-both : {X : Type 0} (o : Option X) (y : X) → o ≡ None → o ≡ Some y → ⊥
no-both o y e f = cc

module _ (p : ProgramTree) (ts : List ValueTree) (made : Numbers) (ds : List Definition) (ordered : AreOrdered p ds) (only : (c : ℕ) (x : List ℕ) (n : ℕ) → number_in made c x ≡ Some n → IsAmong ds c x) (means : AreMeant p ts made ds) where
  none-known : (c : ℕ) (x : List ℕ) (o : Option ℕ) → def_of p c x ≡ None → number_in made c x ≡ o → tree_at ts (number_in made c x) ≡ of_object null
  unfolding tree_at
  none-known c x None e h = ap (tree_at ts) h
  none-known c x (Some k) e h =
      let w = only c x k h in
      let is = ordered.definitions w.0 w.1 w.2 in
      let found : def_of p c x ≡ Some is.part = subst (λ (z : ℕ). def_of p z x ≡ Some is.part) w.3 (subst (λ (y : List ℕ). def_of p w.1.class y ≡ Some is.part) w.4 is.found) in
      absurd (no-both (def_of p c x) is.part e found)

  known-at : (c : ℕ) (x : List ℕ) (o : Option DefPart) → def_of p c x ≡ o → meaning_in ts made c x ≡ meant p (all_definitions p) c x
  known-at c x None e = none-known c x (number_in made c x) e refl ∙ sym (meant-none p (all_definitions p) c x e)
  known-at c x (Some d) e =
      let v : Variable = record { class = c; name = x } in
      let w = ordered.all v d e in
      subst (λ (z : Variable). meaning_in ts made z.class z.name ≡ meant p (all_definitions p) z.class z.name) w.3 (means w.0 w.1 w.2)

  pub known-is : AreHeld ts made → AreKnown p ts made
  known-is held = record { held = held; means = λ i c x. known-at c x (def_of p c x) refl i }
