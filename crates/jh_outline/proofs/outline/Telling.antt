-- The rows of an outline tell the commands of methods what these write and name, and which members are framed.
use Rattle.std.proofs.Common.{◌≡◌, refl, sym, ap, subst, ◌∙◌, ◌↔◌, ℕ, suc, ◌+◌, ◌<◌, Bool, true, false, ◌&&◌, not, nat_eq, List, [], ◌∷◌, ◌++◌, map, length, Option, Some, None, slice_get, codes, arith}
use Rattle.std.specs.Prelude.{filter}
use Rattle.std.specs.List.{Contains, list_any}
use Rattle.std.specs.Option.{option_map_or, option_map}
use Rattle.std.proofs.lemmas.Bool.{true≢false}
use Rattle.std.proofs.lemmas.List.{length-map, map-append}
use Rattle.std.proofs.lemmas.Option.{slice_get-map, slice_get_within}
use Rattle.jh_ast.specs.Programs.{ProgramTree, ClassPart, MethodPart}
use Rattle.jh_rules.specs.Breaks.{faults_of}
use Rattle.jh_rules.specs.Words.{same_text, text_of}
use Rattle.jh_rules.specs.Shape.{program_parts}
use Rattle.jh_vars.specs.Resolved.{own}
use Rattle.jh_vars.specs.Written.{Written, allocated, objects, plain_objects, state, Callee, MayWrite, all_state, part_of, written_name}
use Rattle.jh_vars.proofs.state_names.Lists.{map-map}
use Rattle.jh_effects.specs.written_state.Arising.{ArePlaces, passes_at}
use Rattle.jh_effects.specs.written_state.Chosen.{places_below}
use Rattle.jh_semantics.specs.Code.{Text}
use Rattle.jh_semantics.specs.Program.{Program}
use Rattle.jh_semantics.specs.Program as pr
use Rattle.jh_semantics.specs.LoweredProgram.{program_of, IsNamedBy, NamedBySome, ModifiesOf}
use Rattle.jh_semantics.specs.WellFormed.{all_classes}
use Rattle.jh_logic.specs.jh_guard.Frames.{framed}
use Rattle.jh_logic.specs.jh_guard.Items.{Item, Sorted, all_objects, objects_of, of_member, item_text, items, items_where, sorted_item}
use Rattle.jh_logic.specs.jh_guard.Writes.{Writes}
use Rattle.jh_state_facts.specs.well_formedness.States.{member_in, members_in}
use Rattle.jh_state_facts.specs.declared.changes.names.SortedName.{SortedName}
use Rattle.jh_state_facts.specs.changes.Added.{sorted_in, chosen}
use Rattle.jh_method_commands.specs.declared.environment.outline.Outline.{Outline}
use Rattle.jh_method_commands.specs.environment.Outlines.{program_in, writes_in, written_by, modified_by, framed_by, standing, is_at}
use Rattle.jh_logic.specs.source.Placed.{IsPlaced}
use Rattle.jh_logic.specs.source.Laws.{IsAccepted}
use Rattle.jh_logic.specs.source.Written.{AreWrites}
use Rattle.jh_logic.proofs.source.Lists.{at-has, some-same, no-none}
use Rattle.jh_logic.proofs.source.Texts.{same-is}
use Rattle.jh_logic.proofs.source.Classes.{faultless}
use Rattle.jh_logic.proofs.source.Declared.{class-text-is}
use Rattle.jh_logic.proofs.source.Named.{dotless}
use Rattle.jh_logic.proofs.source.Shaped.{Shaped, shaped-program}
use Rattle.jh_logic.proofs.source.Covers.{Standing, the_allocated, the_plain, the_objects, the_state, state-stands, state-same, allocated-same, plain-same, objects-same}
use Rattle.jh_outline.specs.outline.Framing.{is_framed}
use Rattle.jh_outline.specs.outline.Rows.{NamesOf, AreRows, Told, AreExact}
use Rattle.jh_outline.proofs.outline.Standing.{any-from, passes-has, is_told, told-is, told-along, told-stands}
use Rattle.jh_outline.proofs.outline.Framings.{below-has, filter-stands, chosen-stands, get-behind}
use Rattle.jh_outline.proofs.outline.Aligning.{items-along}

-- a piece of the state is known by its text
module _ (p : ProgramTree) (placed : IsPlaced p) (clean : faults_of p ≡ []) (shaped : Shaped (program_parts p)) where
  one-text : (x w : Written) → Standing p placed clean shaped x → Standing p placed clean shaped w → (written_name p x).text ≡ (written_name p w).text → x ≡ w
  one-text _ w the_allocated s e = allocated-same p placed clean shaped w s e
  one-text _ w the_plain s e = plain-same p placed clean shaped w s e
  one-text _ w (the_objects n c is) s e = objects-same p placed clean shaped n c is w s (sym (class-text-is p placed clean (dotless p placed clean shaped) n c is) ∙ e)
  one-text _ w (the_state n x c is) s e = state-same p placed clean shaped n x w s e

  known : (x w : Written) → Contains (all_state p) x → Contains (all_state p) w → (written_name p x).text ≡ (written_name p w).text → x ≡ w
  known x w i j e = one-text x w (state-stands p placed clean shaped x i) (state-stands p placed clean shaped w j) e

-- a piece of the state has its text at turn 0
name-own : (p : ProgramTree) (w : Written) → written_name p w ≡ own ((written_name p w).text) 0
name-own p allocated = refl
name-own p (objects n) = refl
name-own p plain_objects = refl
name-own p (state n x) = refl

-- an outline of a program whose sources are accepted
module _ (p : ProgramTree) (ok : IsAccepted p) (o : Outline) (is : program_in o ≡ program_of p) (names : sorted_in o.state.now ≡ map sorted_item (items (program_of p))) where
  abbrev text : Written → Text
  text w = (written_name p w).text

  abbrev xs : List Written
  xs = all_state p

  abbrev told_name : SortedName → Text
  told_name s = s.text.now

  once : (x w : Written) → Contains xs x → Contains xs w → text x ≡ text w → x ≡ w
  once = known p ok.placed (faultless p ok.fine) (shaped-program p ok.shape)

  state-along : map told_name o.state.now ≡ map text xs
  state-along =
      map-map (λ (x : Sorted). x.text) (λ (s : SortedName). record { text = s.text.now; sort = s.sort }) o.state.now
      ∙ ap (map (λ (x : Sorted). x.text)) names
      ∙ sym (map-map (λ (x : Sorted). x.text) sorted_item (items (program_of p)))
      ∙ items-along p

  -- places at which something holds, as texts
  module _ (holds : Written → Type 0) (places : List ℕ) (are : ArePlaces holds xs places) where
    abbrev told : Text → Bool
    told y = is_told text xs once are.test y

    at-told : (y : Text) → is_at o places y ≡ told y
    at-told y = ap (λ js. list_any (λ (s : SortedName). same_text (told_name s) y) (standing o.state.now js)) are.is ∙ told-along text xs once are.test told_name o.state.now state-along y

    holds-at : (x : Written) → Contains xs x → (is_at o places (text x) ≡ true) ↔ holds x
    holds-at x i =
        let same : is_at o places (text x) ≡ are.test x = at-told (text x) ∙ told-is text xs once are.test x i in
        (λ h. (are.exact x).0 (sym same ∙ h), λ h. same ∙ (are.exact x).1 h)

    at-holds : (y : Text) → is_at o places y ≡ true → (w : Written) × (text w ≡ y) × holds w
    at-holds y h =
        let r = any-from (λ (x : Written). same_text (text x) y) (filter are.test xs) (sym (at-told y) ∙ h) in
        (r.0, same-is (text r.0) y r.2, (are.exact r.0).0 (passes-has are.test xs r.0 r.1).1)

    at-exact : (y : Text) → (is_at o places y ≡ true) ↔ Told p holds y
    at-exact y = (
      λ h.
          let r = any-from (λ (x : Written). same_text (text x) y) (filter are.test xs) (sym (at-told y) ∙ h) in
          let k = passes-has are.test xs r.0 r.1 in
          (r.0, k.0, same-is (text r.0) y r.2, (are.exact r.0).0 k.1),
      λ t. subst (λ z. is_at o places z ≡ true) t.2 ((holds-at t.0 t.1).1 t.3),
    )

    items-at : filter (λ x. is_at o places (item_text x)) (items (program_of p)) ≡ standing (items (program_of p)) places
    items-at =
        (λ i. filter (λ x. at-told (item_text x) i) (items (program_of p)))
        ∙ told-stands text xs once are.test item_text (items (program_of p)) (items-along p)
        ∙ ap (standing (items (program_of p))) (sym are.is)

    -- a text at an index of all state
    at-index : (j : ℕ) (y : Text) → option_map text (slice_get xs j) ≡ Some y → is_at o places y ≡ list_any (nat_eq j) places
    at-index j y e = by (slice_get xs j) refl e
      where
        by : (r : Option Written) → slice_get xs j ≡ r → option_map text r ≡ Some y → is_at o places y ≡ list_any (nat_eq j) places
        by None f g = absurd (no-none y g)
        by (Some w) f g =
            at-told y
            ∙ ap told (sym (some-same (text w) y g))
            ∙ told-is text xs once are.test w (at-has xs j w f)
            ∙ sym (ap (λ q. option_map_or are.test q false) f)
            ∙ sym (below-has (passes_at are.test xs) (length xs) j (slice_get_within xs j w f))
            ∙ sym (ap (list_any (nat_eq j)) are.is)

  -- the text of a member, among all state
  member-text : (k : ℕ) (x : pr.Member) → slice_get (program_of p).members k ≡ Some x → option_map text (slice_get xs (length (program_of p).classes + 2 + k)) ≡ Some x.text
  member-text k x e =
      let front : List Item = all_objects ∷ map (λ c. objects_of c) (all_classes (program_of p).classes) in
      let back : List Item = map (λ y. of_member y) (program_of p).members in
      let long : length front ≡ length (program_of p).classes + 2 = ap suc (length-map (all_classes (program_of p).classes) (λ c. objects_of c) ∙ classes-long (program_of p).classes) ∙ two-more (length (program_of p).classes) in
      sym (slice_get-map text xs (length (program_of p).classes + 2 + k))
      ∙ ap (λ l. slice_get l (length (program_of p).classes + 2 + k)) (sym (items-along p))
      ∙ slice_get-map item_text (items (program_of p)) (length (program_of p).classes + 2 + k)
      ∙ ap (λ n. option_map item_text (slice_get (front ++ back) (n + k))) (sym long)
      ∙ ap (option_map item_text) (get-behind front back k ∙ slice_get-map (λ y. of_member y) (program_of p).members k ∙ ap (option_map (λ y. of_member y)) e)
    where
      two-more : (n : ℕ) → suc (n + 1) ≡ n + 2
      two-more n = omega arith

      classes-long : (cs : List Text) → length (cs ++ codes "Object" ∷ []) ≡ length cs + 1
      classes-long [] = refl
      classes-long (c ∷ cs) = ap suc (classes-long cs) ∙ one-later (length cs)
        where
          one-later : (n : ℕ) → suc (n + 1) ≡ suc n + 1
          one-later n = omega arith

  module _ (rows : (m : Callee) → AreRows p o m) where
    pub are-exact : AreExact p (writes_in o)
    unfolding writes_in
    are-exact = record {
      written = λ m y. at-exact (MayWrite p m) (written_by o m) (rows m).written y;
      modified = λ m y. at-exact (NamesOf p m (part_of p m)) (modified_by o m) (rows m).modified y;
    }

    pub writes-stand : (m : Callee) → items_where (program_in o) ((writes_in o).written m) ≡ standing (items (program_in o)) (written_by o m)
    unfolding writes_in
    writes-stand m = ap (λ q. items_where q (λ y. is_at o (written_by o m) y)) is ∙ items-at (MayWrite p m) (written_by o m) (rows m).written ∙ ap (λ q. standing (items q) (written_by o m)) (sym is)

    member-at : (k : ℕ) (x : pr.Member) → slice_get (members_in o.classes.now o.members.now) k ≡ Some x → option_map text (slice_get xs (length o.classes.now + 2 + k)) ≡ Some x.text
    unfolding program_in
    member-at k x e = subst (λ (cs : List Text). option_map text (slice_get xs (length cs + 2 + k)) ≡ Some x.text) (ap (λ (q : Program). q.classes) (sym is)) (member-text k x (ap (λ (q : Program). slice_get q.members k) (sym is) ∙ e))

    pub frames-stand : (m : Callee) → framed (program_in o) (writes_in o) m ≡ chosen o.classes.now o.members.now (framed_by o m)
    unfolding writes_in program_in
    frames-stand m =
        let sets : ℕ = length o.classes.now + 2 in
        let members : List pr.Member = members_in o.classes.now o.members.now in
        let places : ℕ → Bool = is_framed (written_by o m) (modified_by o m) sets in
        filter-stands (λ (x : pr.Member). is_at o (written_by o m) x.text && not (is_at o (modified_by o m) x.text)) members places
        (λ k x e.
        let at = member-at k x e in
        λ i. at-index (MayWrite p m) (written_by o m) (rows m).written (sets + k) x.text at i && not (at-index (NamesOf p m (part_of p m)) (modified_by o m) (rows m).modified (sets + k) x.text at i))
        ∙ ap (λ n. standing members (places_below places n)) (length-map o.members.now (λ y. member_in o.classes.now y))
        ∙ sym (chosen-stands o.classes.now o.members.now (framed_by o m) ∙ ap (standing members) (rows m).framed)

-- tests that say exactly what methods write and name are such as the commands take
pub exact-writes : (p : ProgramTree) → IsAccepted p → (ws : Writes) → AreExact p ws → AreWrites p ws
exact-writes p ok ws h = record {
  written = λ m x i. (λ e. by m x i ((h.written m (written_name p x).text).0 e), λ k. (h.written m (written_name p x).text).1 (x, i, refl, k));
  modified = λ m y e. let t = (h.modified m y).0 e in named m y (part_of p m) t.0 t.2 t.3;
}
  where
    by : (m : Callee) (x : Written) → Contains (all_state p) x → Told p (MayWrite p m) (written_name p x).text → MayWrite p m x
    by m x i t = subst (λ (w : Written). MayWrite p m w) (known p ok.placed (faultless p ok.fine) (shaped-program p ok.shape) t.0 x t.1 i t.2) t.3

    named : (m : Callee) (y : Text) (q : Option MethodPart) (w : Written) → (written_name p w).text ≡ y → NamesOf p m q w → NamedBySome p m.class q y
    named m y None w e h = h
    named m y (Some part) w e h = record { state = w; is_named = h; text = name-own p w ∙ ap (λ z. own z 0) e }

-- a test that says exactly whether something is so is one
same-test : {T : Type 0} (a b : Bool) → (a ≡ true) ↔ T → (b ≡ true) ↔ T → a ≡ b
same-test true true f g = refl
same-test true false f g = absurd (true≢false (sym (g.1 (f.0 refl))))
same-test false true f g = absurd (true≢false (sym (f.1 (g.0 refl))))
same-test false false f g = refl

-- what methods write and name is said in one way
pub exact-once : (p : ProgramTree) (v w : Writes) → AreExact p v → AreExact p w → v ≡ w
exact-once p v w f g = λ i. record {
  written = λ m y. same-test (v.written m y) (w.written m y) (f.written m y) (g.written m y) i;
  modified = λ m y. same-test (v.modified m y) (w.modified m y) (f.modified m y) (g.modified m y) i;
}
