-- The items of a lowered program go along with all state of its source: they have the same texts, in the same order.
use Rattle.std.proofs.Common.{◌≡◌, refl, sym, ap, ◌∙◌, ℕ, ◌+◌, List, [], ◌∷◌, ◌++◌, append_assoc, map, codes, Some}
use Rattle.std.specs.List.{flat_map}
use Rattle.std.proofs.lemmas.Grind.{flat_map-append}
use Rattle.std.proofs.lemmas.List.{map-append}
use Rattle.jh_ast.specs.Programs.{ProgramTree, ClassPart}
use Rattle.jh_name.specs.declared.naming.Name.{Name}
use Rattle.jh_rules.specs.Words.{text_of}
use Rattle.jh_vars.specs.declared.state_names.state.StateName.{StateName}
use Rattle.jh_vars.specs.state_names.States.{class_sets, members, class_states, member_state, set_state, state_list}
use Rattle.jh_vars.proofs.state_names.Lists.{map-map}
use Rattle.jh_vars.proofs.state_names.Named.{names-are}
use Rattle.jh_vars.specs.Written.{Piece, Written, pieces_of, all_state, written_name}
use Rattle.jh_semantics.specs.Code.{Text}
use Rattle.jh_semantics.specs.Program.{Member}
use Rattle.jh_semantics.specs.LoweredProgram.{member_from, program_of}
use Rattle.jh_semantics.specs.WellFormed.{all_classes}
use Rattle.jh_logic.specs.jh_guard.Items.{Item, objects_of, of_member, item_text, items}

abbrev state_text : StateName → Text
state_text s = s.name.text

-- the sets of the objects of classes
sets-texts : (n : ℕ) (cs : List ClassPart) → map state_text (class_sets n cs) ≡ map (λ (c : ClassPart). text_of c.name) cs ++ codes "Object" ∷ []
unfolding class_sets
sets-texts n [] = refl
sets-texts n (c ∷ cs) = ap (λ ts. text_of c.name ∷ ts) (sets-texts (n + 1) cs)

module _ (p : ProgramTree) where
  -- no set is a member
  sets-none : (n : ℕ) (cs : List ClassPart) → flat_map (member_from p) (class_sets n cs) ≡ []
  unfolding class_sets
  sets-none n [] = refl
  sets-none n (c ∷ cs) = sets-none (n + 1) cs

  -- and each member is one, with its text
  pieces-texts : (n : ℕ) (class : List ℕ) (xs : List Piece) → map (λ (x : Member). x.text) (flat_map (member_from p) (map (member_state n class) xs)) ≡ map state_text (map (member_state n class) xs)
  pieces-texts n class [] = refl
  pieces-texts n class (x ∷ xs) = ap (λ ts. (member_state n class x).name.text ∷ ts) (pieces-texts n class xs)

  members-texts : (n : ℕ) (cs : List ClassPart) → map (λ (x : Member). x.text) (flat_map (member_from p) (members n cs)) ≡ map state_text (members n cs)
  unfolding members
  members-texts n [] = refl
  members-texts n (c ∷ cs) =
      ap (map (λ (x : Member). x.text)) (flat_map-append (member_from p) (class_states n c) (members (n + 1) cs))
      ∙ map-append (λ (x : Member). x.text) (flat_map (member_from p) (class_states n c)) (flat_map (member_from p) (members (n + 1) cs))
      ∙ (λ i. pieces-texts n (text_of c.name) (pieces_of c) i ++ members-texts (n + 1) cs i)
      ∙ sym (map-append state_text (class_states n c) (members (n + 1) cs))

  program-members : map (λ (x : Member). x.text) (program_of p).members ≡ map state_text (members 0 p.classes)
  program-members =
      ap (map (λ (x : Member). x.text)) (flat_map-append (member_from p) (class_sets 0 p.classes) (members 0 p.classes) ∙ ap (λ xs. xs ++ flat_map (member_from p) (members 0 p.classes)) (sets-none 0 p.classes))
      ∙ members-texts 0 p.classes

  items-state : map item_text (items (program_of p)) ≡ map state_text (state_list p)
  items-state = ap (λ ts. codes "alloc" ∷ ts) (
      map-append item_text (map (λ c. objects_of c) (all_classes (program_of p).classes)) (map (λ x. of_member x) (program_of p).members)
      ∙ (λ i. (sym (map-map item_text (λ c. objects_of c) (all_classes (program_of p).classes)) ∙ same (all_classes (program_of p).classes) ∙ sym (sets-texts 0 p.classes)) i
      ++ (sym (map-map item_text (λ x. of_member x) (program_of p).members) ∙ program-members) i)
      ∙ sym (map-append state_text (class_sets 0 p.classes) (members 0 p.classes)))
    where
      same : (xs : List Text) → map (λ x. x) xs ≡ xs
      same [] = refl
      same (x ∷ xs) = ap (λ ys. x ∷ ys) (same xs)

  pub items-along : map item_text (items (program_of p)) ≡ map (λ (w : Written). (written_name p w).text) (all_state p)
  items-along =
      items-state
      ∙ map-map (λ (x : Name). x.text) (λ (s : StateName). s.name) (state_list p)
      ∙ ap (map (λ (x : Name). x.text)) (names-are p)
      ∙ sym (map-map (λ (x : Name). x.text) (written_name p) (all_state p))
