-- What a command takes for granted after a call is so where the call met its contract.
use Rattle.std.proofs.Common.{◌≡◌, refl, sym, ap, ◌∙◌, subst, ℕ, zero, suc, ◌<◌, ◌≤◌, Bool, true, false, not, ◌&&◌, ◌||◌, if◌then◌else◌, List, [], ◌∷◌, map, filter, Option, None, Some, codes, arith}
use Rattle.std.specs.List.{Contains}
use Rattle.std.specs.Option.{option_map_or}
use Rattle.std.proofs.lemmas.Bool.{true≢false, eq-eqb}
use Rattle.std.proofs.lemmas.Bool.Decides.{Decides-int_eq}
use Rattle.std.proofs.lemmas.List.Elements.{Contains-append_right}
use Rattle.jh_name.specs.declared.naming.Name.{Name}
use Rattle.jh_name.specs.declared.place.Kind.{Kind}
use Rattle.jh_name.specs.declared.place.Kind.TheVariants as k
use Rattle.jh_name.specs.declared.place.Sort.{Sort}
use Rattle.jh_name.specs.declared.place.Sort.TheVariants as sort
use Rattle.jh_form.specs.declared.mark.MarkKind.{MarkKind}
use Rattle.jh_form.specs.declared.mark.MarkKind.TheVariants as kind
use Rattle.jh_form.specs.Tree.{FormulaTree, SetTree}
use Rattle.jh_form.specs.Tree as t
use Rattle.jh_form.specs.Meaning.{Interp, agree, all_below, every, truth, set_value}
use Rattle.jh_vars.specs.Written.{Callee}
use Rattle.jh_wp.specs.Command.{CommandTree}
use Rattle.jh_wp.specs.Command as w
use Rattle.jh_semantics.specs.Code.{Text, Claim}
use Rattle.jh_semantics.specs.Program.{Program, Method, Member}
use Rattle.jh_semantics.specs.State.{State, named, alloc_name, shown}
use Rattle.jh_semantics.specs.Locals.{with_locals_of}
use Rattle.jh_semantics.specs.WellFormed.{each_in}
use Rattle.jh_semantics.specs.Frame.{KeepsStatic, KeepsAt, KeepsBy, Keeps, Frame}
use Rattle.jh_semantics.specs.Entry.{AllTrue, owed}
use Rattle.jh_semantics.specs.Typed.{NamesFit}
use Rattle.jh_guard.specs.Items.{Item, all_objects, of_member, item_text, item_sort, is_of_objects, items, items_where, sorted_item, Sorted}
use Rattle.jh_guard.specs.Items as item
use Rattle.jh_guard.specs.Writes.{Writes}
use Rattle.jh_guard.specs.Steps.{fresh, assert_claims, assume_claims, claim_fact, growth}
use Rattle.jh_guard.specs.Frames.{same_static, same_read, frame_fact, framed, frame_facts}
use Rattle.jh_guard.specs.Calls.{old_alloc}
use Rattle.jh_logic.specs.logic.MethodContracts.{is_state, AllSpeak, speaks_of_state, LeavesUnwritten}
use Rattle.jh_logic.specs.logic.Histories.{viewed, Gives}
use Rattle.jh_logic.specs.logic.Reached.{After}
use Rattle.jh_logic.proofs.logic.Views.{viewed-fresh}
use Rattle.jh_logic.proofs.logic.Renamings.{GivesAt, truth-same}
use Rattle.jh_logic.proofs.logic.StateNames.{filter-from, unwritten-text, ItemCase, item-case, member-item, back-state}
use Rattle.jh_logic.proofs.logic.WellFormed.{AllTrueIn}
use Rattle.jh_logic.proofs.logic.CallNames.{state-gives}

-- facts that are true may be assumed
pub after-assumes : (R : Interp → Type 0) (fs : List FormulaTree) (Q : Interp → Type 0) (m : Interp) → AllTrueIn m fs → After R (map (λ f. w.assume f) fs) Q m → Q m
after-assumes R [] Q m h g = g
after-assumes R (f ∷ fs) Q m h g = after-assumes R fs Q m h.1 (g h.0)

pub all-mapped : {X : Type 0} (f : X → FormulaTree) (xs : List X) (m : Interp) → ((x : X) → Contains xs x → truth (f x) m [] ≡ true) → AllTrueIn m (map f xs)
all-mapped f [] m h = tt
all-mapped f (x ∷ xs) m h = (h x (0, omega arith, refl), all-mapped f xs m (λ y i. h y (Contains-append_right (x ∷ []) xs y i)))

-- claims that are true
abbrev pub ClaimsTrue : List Claim → Interp → Type 0
ClaimsTrue [] m = Unit {0}
ClaimsTrue (claim ∷ more) m = (truth claim.formula m [] ≡ true) × ClaimsTrue more m

pub after-asserted : (R : Interp → Type 0) (kind : MarkKind) (claims : List Claim) (Q : Interp → Type 0) (m : Interp) → After R (assert_claims kind claims) Q m → ClaimsTrue claims m × Q m
after-asserted R kind [] Q m h = (tt, h)
after-asserted R kind (claim ∷ more) Q m h = let rest = after-asserted R kind more Q m h.1 in ((h.0, rest.0), rest.1)

pub claim-known : (claim : Claim) (m : Interp) → truth claim.formula m [] ≡ true → truth (claim_fact claim) m [] ≡ true
claim-known claim m e = known claim.label
  where
    known : (x : Option Name) → truth (option_map_or (λ y. t.mark (record { kind = kind.Fact; place = claim.place; name = Some y; from = [] }) claim.formula) x claim.formula) m [] ≡ true
    known None = e
    known (Some y) = e

pub after-claims : (R : Interp → Type 0) (claims : List Claim) (Q : Interp → Type 0) (m : Interp) → ClaimsTrue claims m → After R (assume_claims claims) Q m → Q m
after-claims R [] Q m h g = g
after-claims R (claim ∷ more) Q m h g = after-claims R more Q m h.1 (g (claim-known claim m h.0))

-- invariants speak of the state alone
module _ (p : Program) (v : Interp) (now old : State) (last : v.last ≡ now.last) (of_state : (y : Text) (a : Sort) → is_state p y a ≡ true → GivesAt a v (named y) now (named y)) where
  pub claims-seen : (claims : List Claim) → AllSpeak (speaks_of_state p) claims → ClaimsTrue claims v → AllTrue claims now old
  claims-seen [] speak h = tt
  claims-seen (claim ∷ more) speak h = (sym (truth-same (speaks_of_state p) v (shown now old) claim.formula last (state-gives p v now old of_state) speak.0) ∙ h.0, claims-seen more speak.1 h.1)

  pub seen-claims : (claims : List Claim) → AllSpeak (speaks_of_state p) claims → AllTrue claims now old → ClaimsTrue claims v
  seen-claims [] speak h = tt
  seen-claims (claim ∷ more) speak h = (truth-same (speaks_of_state p) v (shown now old) claim.formula last (state-gives p v now old of_state) speak.0 ∙ h.0, seen-claims more speak.1 h.1)

pub owed-speak : (p : Program) (x : Method) → AllSpeak (speaks_of_state p) p.invariants → AllSpeak (speaks_of_state p) (owed p x)
owed-speak p x h = from x.is_public
  where
    from : (b : Bool) → AllSpeak (speaks_of_state p) (if b then p.invariants else [])
    from true = h
    from false = tt

-- over the objects of a universe
below-true : (n : ℕ) (f : ℕ → Bool) → ((a : ℕ) → a < n → f a ≡ true) → all_below n f ≡ true
below-true zero f h = refl
below-true (suc n) f h = both (all_below n f) (f n) (below-true n f (λ a i. h a (omega arith))) (h n (omega arith))
  where
    both : (x y : Bool) → x ≡ true → y ≡ true → (x && y) ≡ true
    both true y e f = f
    both false y e f = e

pub every-true : (n : ℕ) (f : ℕ → Bool) → ((a : ℕ) → a < suc n → f a ≡ true) → every n f ≡ true
every-true n f h = below-true (suc n) f h

implies-so : (b d : Bool) → (b ≡ true → d ≡ true) → (not b || d) ≡ true
implies-so true d h = h refl
implies-so false d h = refl

same-agree : (b d : Bool) → b ≡ d → agree b d ≡ true
same-agree true d e = sym e
same-agree false d e = ap not (sym e)

-- The state after the call, `s` before it: `last` is what the method left, of which the caller keeps all but its locals. The names of
-- the copies at a turn say what the state said before.
module _ (p : Program) (names : NamesFit p) (ws : Writes) (m : Callee) (s last o g : State) (turn : ℕ) (late : 2 ≤ turn)
    (copied : (x : Item) → Contains (items p) x → ws.written m (item_text x) ≡ true → Gives g (fresh (item_text x) turn) s (named (item_text x)))
    (frame : Frame p (λ y. ws.modified m y ≡ true) s last) (left : LeavesUnwritten p ws m s last) where
  abbrev pub here : Interp
  here = viewed (with_locals_of last s) o g

  copy : (x : Item) → Contains (items p) x → ws.written m (item_text x) ≡ true → Gives here (fresh (item_text x) turn) s (named (item_text x))
  copy x i e =
      let one = viewed-fresh (with_locals_of last s) o g (fresh (item_text x) turn) late in
      let two = copied x i e in
      record { object = one.object ∙ two.object; number = one.number ∙ two.number; truth = one.truth ∙ two.truth; set = one.set ∙ two.set; field = one.field ∙ two.field }

  -- the sets of objects grew
  grown-text : (x : Item) → Contains (items p) x → is_of_objects x ≡ true → (a : ℕ) → s.set (named (item_text x)) a ≡ true → last.set (named (item_text x)) a ≡ true
  grown-text x i e = from x (item-case p names x i) e
    where
      from : (x : Item) → ItemCase p names x → is_of_objects x ≡ true → (a : ℕ) → s.set (named (item_text x)) a ≡ true → last.set (named (item_text x)) a ≡ true
      from all_objects h e a j = frame.alloc a j
      from (item.objects_of c) h e a j = frame.classes c h a j
      from (of_member y) h e a j = absurd (true≢false (sym e))

  pub growth-true : (xs : List Item) → ((x : Item) → Contains xs x → Contains (items p) x × (ws.written m (item_text x) ≡ true)) → (R : Interp → Type 0) (Q : Interp → Type 0) → After R (growth turn xs) Q here → Q here
  growth-true xs among R Q h = passed (filter is_of_objects xs) (λ x i. filter-from is_of_objects xs x i) h
    where
      grew : (x : Item) → Contains xs x × (is_of_objects x ≡ true) → truth (t.subset (t.free_set (fresh (item_text x) turn)) (t.free_set (named (item_text x)))) here [] ≡ true
      grew x i = every-true last.last (λ a. not (here.set (fresh (item_text x) turn) a) || last.set (named (item_text x)) a) (λ a lt.
          implies-so (here.set (fresh (item_text x) turn) a) (last.set (named (item_text x)) a) (λ e.
          grown-text x (among x i.0).0 i.1 a ((λ j. sym (copy x (among x i.0).0 (among x i.0).1).set j a) ∙ e)))

      passed : (ys : List Item) → ((x : Item) → Contains ys x → Contains xs x × (is_of_objects x ≡ true)) →
          After R (map (λ (x : Item). w.assume (t.subset (t.free_set (fresh (item_text x) turn)) (t.free_set (named (item_text x))))) ys) Q here → Q here
      passed [] f h = h
      passed (y ∷ ys) f h = passed ys (λ x i. f x (Contains-append_right (y ∷ []) ys x i)) (h (grew y (f y (0, omega arith, refl))))

  -- `alloc` at the call
  old-objects : (a : ℕ) → set_value (old_alloc (ws.written m) turn) here [] a ≡ s.set alloc_name a
  old-objects a = from (ws.written m (codes "alloc")) refl
    where
      from : (b : Bool) → ws.written m (codes "alloc") ≡ b → set_value (if b then t.free_set (fresh (codes "alloc") turn) else t.free_set (named (codes "alloc"))) here [] a ≡ s.set alloc_name a
      from true e = λ j. (copy all_objects (0, omega arith, refl) e).set j a
      from false e = λ j. left.set (codes "alloc") (unwritten-text p ws m (codes "alloc") sort.Set e) j a

  -- a static that is framed is its copy
  static-true : (y : Member) → Contains p.members y → ws.written m y.text ≡ true → KeepsStatic y.kind (named y.text) s last → truth (same_static y.kind (named y.text) (fresh y.text turn)) here [] ≡ true
  static-true y i e h = from y.kind h
    where
      old : Gives here (fresh y.text turn) s (named y.text)
      old = copy (of_member y) (member-item p names y i) e

      from : (kind : Kind) → KeepsStatic kind (named y.text) s last → truth (same_static kind (named y.text) (fresh y.text turn)) here [] ≡ true
      from k.Obj h = eq-eqb (here.object (named y.text)) (here.object (fresh y.text turn)) (back-state last s y.text sort.Obj (names.dots y i) ∙ h ∙ sym old.object)
      from k.Int h = (Decides-int_eq (here.number (named y.text)) (here.number (fresh y.text turn))).1 (back-state last s y.text sort.Int (names.dots y i) ∙ h ∙ sym old.number)
      from k.Bool h = same-agree (here.truth (named y.text)) (here.truth (fresh y.text turn)) (back-state last s y.text sort.Bool (names.dots y i) ∙ h ∙ sym old.truth)
      from k.Set h = every-true last.last (λ b. agree (here.set (named y.text) b) (here.set (fresh y.text turn) b)) (λ b lt.
          same-agree (here.set (named y.text) b) (here.set (fresh y.text turn) b) (h b (subst (λ (n : ℕ). b < suc n) frame.universe lt) ∙ (λ j. sym old.set j b)))

  read-true : (y : Member) → Contains p.members y → ws.written m y.text ≡ true → (a : ℕ) → KeepsAt y.kind (named y.text) a s last → truth (same_read y.kind (named y.text) (fresh y.text turn)) here (a ∷ []) ≡ true
  read-true y i e a h = from y.kind h
    where
      old : Gives here (fresh y.text turn) s (named y.text)
      old = copy (of_member y) (member-item p names y i) e

      from : (kind : Kind) → KeepsAt kind (named y.text) a s last → truth (same_read kind (named y.text) (fresh y.text turn)) here (a ∷ []) ≡ true
      from k.Obj h = eq-eqb ((last.field (named y.text)).objects a) ((here.field (fresh y.text turn)).objects a) (h ∙ (λ j. (sym old.field j).objects a))
      from k.Int h = (Decides-int_eq ((last.field (named y.text)).numbers a) ((here.field (fresh y.text turn)).numbers a)).1 (h ∙ (λ j. (sym old.field j).numbers a))
      from k.Bool h = same-agree ((last.field (named y.text)).truths a) ((here.field (fresh y.text turn)).truths a) (h ∙ (λ j. (sym old.field j).truths a))
      from k.Set h = every-true last.last (λ b. agree ((last.field (named y.text)).sets a b) ((here.field (fresh y.text turn)).sets a b)) (λ b lt.
          same-agree ((last.field (named y.text)).sets a b) ((here.field (fresh y.text turn)).sets a b) (h b (subst (λ (n : ℕ). b < suc n) frame.universe lt) ∙ (λ j. (sym old.field j).sets a b)))

  fact-true : (y : Member) → Contains p.members y → ws.written m y.text ≡ true → Keeps y s last → truth (frame_fact (old_alloc (ws.written m) turn) turn y) here [] ≡ true
  fact-true y i e h = from y.is_static h
    where
      from : (b : Bool) → KeepsBy b y.kind (named y.text) s last →
          truth (if b then same_static y.kind (named y.text) (fresh y.text turn) else each_in (old_alloc (ws.written m) turn) (same_read y.kind (named y.text) (fresh y.text turn))) here [] ≡ true
      from true h = static-true y i e h
      from false h = every-true last.last (λ a. not (set_value (old_alloc (ws.written m) turn) here (a ∷ []) a) || truth (same_read y.kind (named y.text) (fresh y.text turn)) here (a ∷ [])) (λ a lt.
          implies-so (set_value (old_alloc (ws.written m) turn) here (a ∷ []) a) (truth (same_read y.kind (named y.text) (fresh y.text turn)) here (a ∷ [])) (λ f.
          read-true y i e a (h a (sym (old-objects a) ∙ (no-binder (ws.written m (codes "alloc")) a ∙ f)))))
        where
          no-binder : (b : Bool) (a : ℕ) → set_value (if b then t.free_set (fresh (codes "alloc") turn) else t.free_set (named (codes "alloc"))) here [] a
              ≡ set_value (if b then t.free_set (fresh (codes "alloc") turn) else t.free_set (named (codes "alloc"))) here (a ∷ []) a
          no-binder true a = refl
          no-binder false a = refl

  pub frames-true : AllTrueIn here (frame_facts p ws m (old_alloc (ws.written m) turn) turn)
  frames-true = all-mapped (frame_fact (old_alloc (ws.written m) turn) turn) (framed p ws m) here (λ y i. one y (filter-from (λ (x : Member). ws.written m x.text && not (ws.modified m x.text)) p.members y i))
    where
      left-part : (b d : Bool) → (b && not d) ≡ true → b ≡ true
      left-part true d h = refl
      left-part false d h = h

      right-part : (b d : Bool) → (b && not d) ≡ true → d ≡ true → ⊥
      right-part true true h e = true≢false (sym h)
      right-part true false h e = true≢false (sym e)
      right-part false d h e = true≢false (sym h)

      one : (y : Member) → Contains p.members y × ((ws.written m y.text && not (ws.modified m y.text)) ≡ true) → truth (frame_fact (old_alloc (ws.written m) turn) turn y) here [] ≡ true
      one y i = fact-true y i.0 (left-part (ws.written m y.text) (ws.modified m y.text) i.1) (frame.members y i.0 (right-part (ws.written m y.text) (ws.modified m y.text) i.1))
