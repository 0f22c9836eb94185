-- The names of the list are those of the definition.
use Rattle.std.proofs.Common.{◌≡◌, refl, sym, ap, ◌∙◌, ℕ, zero, suc, ◌+◌, List, [], ◌∷◌, ◌++◌, map, drop, add-one, Some, slice_get, codes}
use Rattle.std.specs.Option.{option_map_or}
use Rattle.jh_name.specs.declared.naming.Name.{Name}
use Rattle.jh_ast.specs.Programs.{ProgramTree, ClassPart}
use Rattle.jh_rules.specs.Words.{text_of}
use Rattle.jh_vars.specs.Resolved.{own}
use Rattle.jh_vars.specs.States.{class_text}
use Rattle.jh_vars.specs.Written.{Written, Piece, pieces_of, all_state, state_names, written_name}
use Rattle.jh_vars.specs.Written as w
use Rattle.jh_vars.specs.declared.state_names.state.StateName.{StateName}
use Rattle.jh_vars.specs.state_names.States.{class_sets, members, state_list, class_states, member_state}

map-append : {X Y : Type 0} (f : X → Y) (xs ys : List X) → map f (xs ++ ys) ≡ map f xs ++ map f ys
map-append f [] ys = refl
map-append f (x ∷ xs) ys = ap (λ zs. f x ∷ zs) (map-append f xs ys)

abbrev name-of : StateName → Name
name-of s = s.name

module _ (p : ProgramTree) where
  -- the classes from number n on are those that are left
  abbrev At : ℕ → List ClassPart → Type 0
  At n cs = drop n p.classes ≡ cs

  text-first : (us : List ClassPart) (n : ℕ) (c : ClassPart) (cs : List ClassPart) → drop n us ≡ c ∷ cs → slice_get us n ≡ Some c
  text-first [] zero c cs e = cc
  text-first [] (suc n) c cs e = cc
  text-first (u ∷ us) zero c cs e = cc
  text-first (u ∷ us) (suc n) c cs e = text-first us n c cs e

  next-drop : (us : List ClassPart) (n : ℕ) (c : ClassPart) (cs : List ClassPart) → drop n us ≡ c ∷ cs → drop (suc n) us ≡ cs
  next-drop [] zero c cs e = cc
  next-drop [] (suc n) c cs e = cc
  next-drop (u ∷ us) zero c cs e = cc
  next-drop (u ∷ us) (suc n) c cs e = next-drop us n c cs e

  text-at : (n : ℕ) (c : ClassPart) (cs : List ClassPart) → At n (c ∷ cs) → class_text p n ≡ text_of c.name
  text-at n c cs e = ap (λ o. option_map_or (λ (d : ClassPart). text_of d.name) o []) (text-first p.classes n c cs e)

  next : (n : ℕ) (c : ClassPart) (cs : List ClassPart) → At n (c ∷ cs) → At (n + 1) cs
  next n c cs e = ap (λ m. drop m p.classes) (add-one n) ∙ next-drop p.classes n c cs e

  sets-named : (n : ℕ) (cs : List ClassPart) → At n cs → map name-of (class_sets n cs) ≡ map (written_name p) (w.class_sets p n cs)
  unfolding class_sets w.class_sets
  sets-named n [] e = refl
  sets-named n (c ∷ cs) e = λ i. own (sym (text-at n c cs e) i) 0 ∷ sets-named (n + 1) cs (next n c cs e) i

  pieces-named : (n : ℕ) (text : List ℕ) (xs : List Piece) → class_text p n ≡ text → map name-of (map (member_state n text) xs) ≡ map (written_name p) (map (λ x. w.state n (text_of x.word)) xs)
  pieces-named n text [] e = refl
  pieces-named n text (x ∷ xs) e = λ i. own (sym e i ++ codes "." ++ text_of x.word) 0 ∷ pieces-named n text xs e i

  members-named : (n : ℕ) (cs : List ClassPart) → At n cs → map name-of (members n cs) ≡ map (written_name p) (w.members_in_order p n cs)
  unfolding members w.members_in_order
  members-named n [] e = refl
  members-named n (c ∷ cs) e =
      map-append name-of (class_states n c) (members (n + 1) cs)
      ∙ (λ i. pieces-named n (text_of c.name) (pieces_of c) (text-at n c cs e) i ++ members-named (n + 1) cs (next n c cs e) i)
      ∙ sym (map-append (written_name p) (map (λ x. w.state n (text_of x.word)) (pieces_of c)) (w.members_in_order p (n + 1) cs))

  pub names-are : map name-of (state_list p) ≡ state_names p
  names-are =
      ap (λ zs. own (codes "alloc") 0 ∷ zs)
      (map-append name-of (class_sets 0 p.classes) (members 0 p.classes)
      ∙ (λ i. sets-named 0 p.classes refl i ++ members-named 0 p.classes refl i)
      ∙ sym (map-append (written_name p) (w.class_sets p 0 p.classes) (w.members_in_order p 0 p.classes)))
