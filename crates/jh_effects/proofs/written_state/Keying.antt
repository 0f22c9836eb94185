-- Keys tell pieces of state apart, and those of the list of the state names are those of the definition.
use Rattle.std.proofs.Common.{◌≡◌, refl, sym, ap, ◌∙◌, ℕ, zero, suc, ◌+◌, true, false, List, [], ◌∷◌, ◌++◌, map, drop, length, add-one, Some, None, slice_get, codes, arith}
use Rattle.std.specs.Option.{option_map_or}
use Rattle.std.proofs.lemmas.Bool.{true≢false}
use Rattle.jh_ast.specs.Programs.{ProgramTree, ClassPart}
use Rattle.jh_rules.specs.Words.{text_of}
use Rattle.jh_vars.specs.state_names.States.{class_sets, members, state_list, class_states, member_state}
use Rattle.jh_vars.specs.Resolved.{own}
use Rattle.jh_vars.specs.States.{class_text}
use Rattle.jh_vars.specs.Written.{Written, Piece, pieces_of, all_state}
use Rattle.jh_vars.specs.Written as w
use Rattle.jh_effects.specs.declared.written_state.flow.Key.{Key}
use Rattle.jh_effects.specs.written_state.Keys.{key_of, key_of_state}

some-is : {X : Type 0} (a b : X) → Some a ≡ Some b → a ≡ b
some-is a b e = cc

none-some : {X : Type 0} (a : X) → None ≡ Some a → ⊥
none-some a e = cc

tail-is : (x y : ℕ) (xs ys : List ℕ) → x ∷ xs ≡ y ∷ ys → xs ≡ ys
tail-is x y xs ys e = cc

cancel : (xs ys zs : List ℕ) → xs ++ ys ≡ xs ++ zs → ys ≡ zs
cancel [] ys zs e = e
cancel (x ∷ xs) ys zs e = cancel xs ys zs (tail-is x x (xs ++ ys) (xs ++ zs) e)

apart : (n m : ℕ) → n ≡ 5 → m ≡ 6 → n ≡ m → ⊥
apart n m five six e = absurd (omega arith)

-- the names of the two sets of no class differ
other-set : length (codes "alloc") ≡ length (codes "Object") → ⊥
other-set e = apart (length (codes "alloc")) (length (codes "Object")) refl refl e

map-append : {X Y : Type 0} (f : X → Y) (xs ys : List X) → map f (xs ++ ys) ≡ map f xs ++ map f ys
map-append f [] ys = refl
map-append f (x ∷ xs) ys = ap (λ zs. f x ∷ zs) (map-append f xs ys)

module _ (p : ProgramTree) where
  class-is : (a b : Written) → key_of p a ≡ key_of p b → (key_of p a).class ≡ (key_of p b).class
  class-is a b e = ap (λ (k : Key). k.class) e

  member-is : (a b : Written) → key_of p a ≡ key_of p b → (key_of p a).is_member ≡ (key_of p b).is_member
  member-is a b e = ap (λ (k : Key). k.is_member) e

  text-is : (a b : Written) → key_of p a ≡ key_of p b → (key_of p a).name.text ≡ (key_of p b).name.text
  text-is a b e = ap (λ (k : Key). k.name.text) e

  members-same : (n m : ℕ) (x y : List ℕ) → key_of p (w.state n x) ≡ key_of p (w.state m y) → w.state n x ≡ w.state m y
  members-same n m x y e =
      let class : n ≡ m = some-is n m (class-is (w.state n x) (w.state m y) e) in
      let text : x ≡ y = cancel (class_text p n ++ codes ".") x y (text-is (w.state n x) (w.state m y) e ∙ (λ i. class_text p (sym class i) ++ codes "." ++ y)) in
      λ i. w.state (class i) (text i)

  pub key-once : (a b : Written) → key_of p a ≡ key_of p b → a ≡ b
  key-once w.allocated w.allocated e = refl
  key-once w.allocated (w.objects m) e = absurd (none-some m (class-is w.allocated (w.objects m) e))
  key-once w.allocated w.plain_objects e = absurd (other-set (ap length (text-is w.allocated w.plain_objects e)))
  key-once w.allocated (w.state m y) e = absurd (none-some m (class-is w.allocated (w.state m y) e))
  key-once (w.objects n) w.allocated e = absurd (none-some n (sym (class-is (w.objects n) w.allocated e)))
  key-once (w.objects n) (w.objects m) e = ap w.objects (some-is n m (class-is (w.objects n) (w.objects m) e))
  key-once (w.objects n) w.plain_objects e = absurd (none-some n (sym (class-is (w.objects n) w.plain_objects e)))
  key-once (w.objects n) (w.state m y) e = absurd (true≢false (sym (member-is (w.objects n) (w.state m y) e)))
  key-once w.plain_objects w.allocated e = absurd (other-set (ap length (sym (text-is w.plain_objects w.allocated e))))
  key-once w.plain_objects (w.objects m) e = absurd (none-some m (class-is w.plain_objects (w.objects m) e))
  key-once w.plain_objects w.plain_objects e = refl
  key-once w.plain_objects (w.state m y) e = absurd (none-some m (class-is w.plain_objects (w.state m y) e))
  key-once (w.state n x) w.allocated e = absurd (none-some n (sym (class-is (w.state n x) w.allocated e)))
  key-once (w.state n x) (w.objects m) e = absurd (true≢false (member-is (w.state n x) (w.objects m) e))
  key-once (w.state n x) w.plain_objects e = absurd (none-some n (sym (class-is (w.state n x) w.plain_objects e)))
  key-once (w.state n x) (w.state m y) e = members-same n m x y e

  -- the classes from number n on are those that are left
  abbrev At : ℕ → List ClassPart → Type 0
  At n cs = drop n p.classes ≡ cs

  text-first : (us : List ClassPart) (n : ℕ) (c : ClassPart) (cs : List ClassPart) → drop n us ≡ c ∷ cs → slice_get us n ≡ Some c
  text-first [] zero c cs e = cc
  text-first [] (suc n) c cs e = cc
  text-first (u ∷ us) zero c cs e = cc
  text-first (u ∷ us) (suc n) c cs e = text-first us n c cs e

  next-drop : (us : List ClassPart) (n : ℕ) (c : ClassPart) (cs : List ClassPart) → drop n us ≡ c ∷ cs → drop (suc n) us ≡ cs
  next-drop [] zero c cs e = cc
  next-drop [] (suc n) c cs e = cc
  next-drop (u ∷ us) zero c cs e = cc
  next-drop (u ∷ us) (suc n) c cs e = next-drop us n c cs e

  text-at : (n : ℕ) (c : ClassPart) (cs : List ClassPart) → At n (c ∷ cs) → class_text p n ≡ text_of c.name
  text-at n c cs e = ap (λ o. option_map_or (λ (d : ClassPart). text_of d.name) o []) (text-first p.classes n c cs e)

  next : (n : ℕ) (c : ClassPart) (cs : List ClassPart) → At n (c ∷ cs) → At (n + 1) cs
  next n c cs e = ap (λ m. drop m p.classes) (add-one n) ∙ next-drop p.classes n c cs e

  sets-keyed : (n : ℕ) (cs : List ClassPart) → At n cs → map key_of_state (class_sets n cs) ≡ map (key_of p) (w.class_sets p n cs)
  unfolding class_sets w.class_sets
  sets-keyed n [] e = refl
  sets-keyed n (c ∷ cs) e = λ i. record { class = Some n; is_member = false; name = own (sym (text-at n c cs e) i) 0 } ∷ sets-keyed (n + 1) cs (next n c cs e) i

  pieces-keyed : (n : ℕ) (text : List ℕ) (xs : List Piece) → class_text p n ≡ text → map key_of_state (map (member_state n text) xs) ≡ map (key_of p) (map (λ x. w.state n (text_of x.word)) xs)
  pieces-keyed n text [] e = refl
  pieces-keyed n text (x ∷ xs) e = λ i. record { class = Some n; is_member = true; name = own (sym e i ++ codes "." ++ text_of x.word) 0 } ∷ pieces-keyed n text xs e i

  members-keyed : (n : ℕ) (cs : List ClassPart) → At n cs → map key_of_state (members n cs) ≡ map (key_of p) (w.members_in_order p n cs)
  unfolding members w.members_in_order
  members-keyed n [] e = refl
  members-keyed n (c ∷ cs) e =
      map-append key_of_state (class_states n c) (members (n + 1) cs)
      ∙ (λ i. pieces-keyed n (text_of c.name) (pieces_of c) (text-at n c cs e) i ++ members-keyed (n + 1) cs (next n c cs e) i)
      ∙ sym (map-append (key_of p) (map (λ x. w.state n (text_of x.word)) (pieces_of c)) (w.members_in_order p (n + 1) cs))

  -- the keys of the list of the state names
  pub states-keyed : map key_of_state (state_list p) ≡ map (key_of p) (all_state p)
  states-keyed =
      ap (λ zs. record { class = None; is_member = false; name = own (codes "alloc") 0 } ∷ zs)
      (map-append key_of_state (class_sets 0 p.classes) (members 0 p.classes)
      ∙ (λ i. sets-keyed 0 p.classes refl i ++ members-keyed 0 p.classes refl i)
      ∙ sym (map-append (key_of p) (w.class_sets p 0 p.classes) (w.members_in_order p 0 p.classes)))
