-- Nothing is wrong in a formula: its kind is known.
use Rattle.std.proofs.Common.{◌≡◌, refl, sym, ap, ◌∙◌, ℕ, Bool, true, false, not, ◌&&◌, ◌||◌, if◌then◌else◌, List, [], ◌∷◌, ◌++◌, Option, Some, None, is_some, option_map, codes}
use Rattle.std.specs.List.{flat_map, list_all}
use Rattle.std.specs.Option.{option_map_or}
use Rattle.jh_name.specs.declared.place.Place.{Place}
use Rattle.jh_name.specs.declared.place.Kind.{Kind}
use Rattle.jh_name.specs.declared.place.Kind.TheVariants as k
use Rattle.jh_ast.specs.declared.word.Word.{Word}
use Rattle.jh_ast.specs.declared.spec.SpecOp.{SpecOp}
use Rattle.jh_ast.specs.declared.spec.SpecOp.TheVariants as op
use Rattle.jh_ast.specs.Forms.{FormTree, FormTrees}
use Rattle.jh_ast.specs.Forms as f
use Rattle.jh_rules.specs.declared.fault.Fault.{Fault}
use Rattle.jh_rules.specs.declared.entries.StateEntry.{StateEntry}
use Rattle.jh_rules.specs.declared.entries.LocalEntry.{LocalEntry}
use Rattle.jh_rules.specs.Faults.{Judged, right, wrong, fault, given, needs, needs_none, both, pair_of, second_of, each, ◌>>=◌}
use Rattle.jh_rules.specs.Words.{same_text, is_one_of, text_of}
use Rattle.jh_rules.specs.Kinds.{kind_of, is_obj, is_number, is_truth, is_set, is_number_or_set, same_kind}
use Rattle.jh_rules.specs.Names.{Declared, state_spelled, state_named}
use Rattle.jh_rules.specs.Rules.{rule_14, rule_27_name, rule_27_field, rule_28, rule_29_product, rule_29_dvd, rule_30_field, rule_30_shape, rule_30_list, rule_31_result, rule_31_old}
use Rattle.jh_rules.specs.Formulas.{Where, under, in_old, equations, first_place, known_states, state_kind, outer_kind, local_kind, name_kind, one, two, alike, binary_kind, field_state, fields_kind, form_kind, form_kinds}
use Rattle.jh_logic.proofs.source.Lists.{more-not-empty, left-empty, right-empty, some-same, no-none}
use Rattle.jh_logic.proofs.source.Judged.{then-first, then-next, then-known, both-known}

-- a part is known where nothing is wrong in it
abbrev pub Sure : {T : Type 0} → Judged T → Type 0
Sure {T} j = j.faults ≡ [] → (x : T) × (j.known ≡ Some x)

module _ {A B : Type 0} where
  pub sure-then : (a : Judged A) (f : A → Judged B) → Sure a → ((x : A) → a.known ≡ Some x → Sure (f x)) → Sure (a >>= f)
  sure-then a f s t h = let x = s (then-first a f h) in let y = t x.0 x.1 (then-next a f x.0 h x.1) in (y.0, then-known a f x.0 x.1 ∙ y.1)

  pub sure-both : (a : Judged A) (b : Judged B) → Sure a → Sure b → Sure (both a b)
  sure-both a b s t h = let x = s (left-empty a.faults b.faults h) in let y = t (right-empty a.faults b.faults h) in ((x.0, y.0), both-known a b x.0 y.0 x.1 y.1)

module _ {T : Type 0} where
  pub sure-right : (x : T) → Sure (right x)
  sure-right x h = (x, refl)

  pub sure-needs : (test : Bool) (rule : ℕ) (place : Place) (x : T) → Sure (needs test rule place x)
  sure-needs true rule place x h = (x, refl)
  sure-needs false rule place x h = absurd (more-not-empty (fault rule place) [] h)

  pub sure-given : (o : Option T) (x : T) → o ≡ Some x → Sure (given o)
  sure-given o x e h = (x, e)

  pub sure-wrong : (rule : ℕ) (place : Place) → Sure {T = T} (wrong rule place)
  sure-wrong rule place h = absurd (more-not-empty (fault rule place) [] h)

sure-none : (fs : List Fault) → Sure (needs_none fs)
sure-none [] h = (tt, refl)
sure-none (x ∷ xs) h = absurd (more-not-empty x xs h)

sure-each : {A B : Type 0} (f : A → Judged B) (xs : List A) → ((x : A) → Sure (f x)) → Sure (each f xs)
unfolding each
sure-each f [] h = sure-right []
sure-each {A = A} {B = B} f (x ∷ xs) h = sure-then (both (f x) (each f xs)) (λ p. right (p.0 ∷ p.1)) (sure-both (f x) (each f xs) (h x) (sure-each f xs h)) (λ p e. sure-right (p.0 ∷ p.1))

module _ (l : Declared) (spelled-known : (c : ℕ) (x : List ℕ) (s : StateEntry) → state_spelled l c x ≡ Some s → (u : Kind) × (s.kind ≡ Some u)) (named-known : (c : ℕ) (x : List ℕ) (s : StateEntry) → state_named l c x ≡ Some s → (u : Kind) × (s.kind ≡ Some u)) where
  -- the kinds of parameters, locals and the result are known
  pub record Known (at : Where) : Type 0 where
    pub local : (x : List ℕ) (entry : LocalEntry) → at.local x ≡ Some entry → (u : Kind) × (option_map kind_of entry.ty ≡ Some u)
    pub result : (o : Option Kind) → at.result ≡ Some o → (u : Kind) × (o ≡ Some u)

  outer-sure : (at : Where) → Known at → (w : Word) → Sure (outer_kind l at w)
  outer-sure at known w = by (same_text (text_of w) (codes "this")) (same_text (text_of w) (codes "result")) (is_one_of (text_of w) (codes "alloc" ∷ codes "Object" ∷ codes "Object.alloc" ∷ [])) (state_spelled l at.class (text_of w)) refl (is_some (l.class_named (text_of w)))
    where
      result-by : (o : Option (Option Kind)) → at.result ≡ o → Sure (rule_31_result w.place o)
      result-by None e = sure-wrong 31 w.place
      result-by (Some o) e = let u = known.result o e in sure-given o u.0 u.1

      by : (a b c : Bool) (o : Option StateEntry) → state_spelled l at.class (text_of w) ≡ o → (d : Bool) →
          Sure (if a then rule_14 at.has_this w.place k.Obj else if b then rule_31_result w.place at.result else if c then right k.Set else option_map_or (state_kind l at w) o (if d then right k.Set else rule_27_name w))
      by true b c o e d = sure-needs at.has_this 14 w.place k.Obj
      by false true c o e d = result-by at.result refl
      by false false true o e d = sure-right k.Set
      by false false false (Some x) e d = let u = spelled-known at.class (text_of w) x e in sure-then (rule_14 (x.fixed || at.has_this) w.place x) (λ y. given y.kind) (sure-needs (x.fixed || at.has_this) 14 w.place x)
          (λ y f. sure-given y.kind u.0 (ap (λ (z : StateEntry). z.kind) (same y f) ∙ u.1))
        where
          needed : (b : Bool) (y : StateEntry) → (needs b 14 w.place x).known ≡ Some y → y ≡ x
          needed true y f = sym (some-same x y f)
          needed false y f = absurd (no-none y f)

          same : (y : StateEntry) → (rule_14 (x.fixed || at.has_this) w.place x).known ≡ Some y → y ≡ x
          same y f = needed (x.fixed || at.has_this) y f
      by false false false None e true = sure-right k.Set
      by false false false None e false = sure-wrong 27 w.place

  name-sure : (at : Where) → Known at → (w : Word) → Sure (name_kind l at w)
  name-sure at known w = by (is_one_of (text_of w) at.bound) (at.local (text_of w)) refl
    where
      by : (a : Bool) (o : Option LocalEntry) → at.local (text_of w) ≡ o → Sure (if a then right k.Obj else option_map_or (local_kind l) o (outer_kind l at w))
      by true o e = sure-right k.Obj
      by false (Some x) e = let u = known.local (text_of w) x e in sure-given (option_map kind_of x.ty) u.0 u.1
      by false None e = outer-sure at known w

  -- a field after dots and in lists
  field-named : (c : ℕ) (w : Word) (x : StateEntry) → (rule_27_field l c w).known ≡ Some x → state_named l c (text_of w) ≡ Some x
  field-named c w x e = by (state_named l c (text_of w)) e
    where
      needed : (b : Bool) (y : StateEntry) → (needs b 27 w.place y).known ≡ Some x → Some y ≡ Some x
      needed true y f = f
      needed false y f = absurd (no-none x f)

      by : (o : Option StateEntry) → (option_map_or (λ (y : StateEntry). needs (not y.fixed) 27 w.place y) o (wrong 27 w.place)).known ≡ Some x → o ≡ Some x
      by None f = absurd (no-none x f)
      by (Some y) f = needed (not y.fixed) y f

  field-sure : (c : ℕ) (w : Word) → Sure (rule_27_field l c w)
  field-sure c w = by (state_named l c (text_of w))
    where
      by : (o : Option StateEntry) → Sure (option_map_or (λ (y : StateEntry). needs (not y.fixed) 27 w.place y) o (wrong 27 w.place))
      by None = sure-wrong 27 w.place
      by (Some y) = sure-needs (not y.fixed) 27 w.place y

  state-sure : (at : Where) (w : Word) → Sure (field_state l at w)
  state-sure at w = sure-then (rule_27_field l at.class w) (rule_30_field w) (field-sure at.class w) (λ x e. let u = named-known at.class (text_of w) x (field-named at.class w x e) in
      sure-then (given x.kind) (λ kind. needs (is_obj kind && not x.is_defined) 30 w.place x) (sure-given x.kind u.0 u.1) (λ kind g. sure-needs (is_obj kind && not x.is_defined) 30 w.place x))

  fields-sure : (at : Where) (q : Place) (ws : List Word) → Sure (fields_kind l at q ws)
  fields-sure at q ws =
      let list : List Fault = rule_30_list q ws (flat_map (λ w. known_states w (rule_27_field l at.class w)) ws) in
      sure-then (both (each (field_state l at) ws) (needs_none list)) (λ u. right k.Bool) (sure-both (each (field_state l at) ws) (needs_none list) (sure-each (field_state l at) ws (state-sure at)) (sure-none list)) (λ u e. sure-right k.Bool)

  one-sure : (good : Kind → Bool) (a : FormTree) (j : Judged Kind) (kind : Kind) → Sure j → Sure (one l good a j kind)
  one-sure good a j kind s = sure-then j (λ u. rule_28 (good u) (f.place_of a) kind) s (λ u e. sure-needs (good u) 28 (f.place_of a) kind)

  two-sure : (left right : Kind → Bool) (a : FormTree) (j m : Judged Kind) (kind : Kind) → Sure j → Sure m → Sure (two l left right a j m kind)
  two-sure left right a j m kind s t = sure-then (both j m) (λ u. rule_28 (left u.0 && right u.1) (f.place_of a) kind) (sure-both j m s t) (λ u e. sure-needs (left u.0 && right u.1) 28 (f.place_of a) kind)

  alike-sure : (a : FormTree) (j m : Judged Kind) (good : Kind → Bool) (kind : Kind → Kind) → Sure j → Sure m → Sure (alike l a j m good kind)
  alike-sure a j m good kind s t = sure-then (both j m) (λ u. rule_28 (same_kind u.0 u.1 && good u.0) (f.place_of a) (kind u.0)) (sure-both j m s t) (λ u e. sure-needs (same_kind u.0 u.1 && good u.0) 28 (f.place_of a) (kind u.0))

  product-sure : (q : Place) (a b : FormTree) (j m : Judged Kind) → Sure j → Sure m → Sure (binary_kind l q op.Mul a j b m)
  product-sure q a b j m s t h =
      let first : Judged (Unit {0}) = given (pair_of j.known m.known) >>= λ u. needs_none (rule_29_product q a b) in
      let second : Judged Kind = two l is_number is_number a j m k.Int in
      let parts : first.faults ++ second.faults ≡ [] = then-first (both first second) (λ u. right k.Int) h in
      let inner : j.faults ++ m.faults ≡ [] = then-first (both j m) (λ u. rule_28 (is_number u.0 && is_number u.1) (f.place_of a) k.Int) (right-empty first.faults second.faults parts) in
      let x = s (left-empty j.faults m.faults inner) in
      let y = t (right-empty j.faults m.faults inner) in
      sure-then (both first second) (λ u. right k.Int) (sure-both first second (sure-then (given (pair_of j.known m.known)) (λ u. needs_none (rule_29_product q a b)) (sure-given (pair_of j.known m.known) (x.0, y.0) (λ i. pair_of (x.1 i) (y.1 i))) (λ u e. sure-none (rule_29_product q a b)))
      (two-sure is_number is_number a j m k.Int s t)) (λ u e. sure-right k.Int) h

  binary-sure : (q : Place) (o : SpecOp) (a b : FormTree) (j m : Judged Kind) → Sure j → Sure m → Sure (binary_kind l q o a j b m)
  binary-sure q op.Implies a b j m s t = two-sure is_truth is_truth a j m k.Bool s t
  binary-sure q op.Or a b j m s t = two-sure is_truth is_truth a j m k.Bool s t
  binary-sure q op.And a b j m s t = two-sure is_truth is_truth a j m k.Bool s t
  binary-sure q op.Equal a b j m s t = alike-sure a j m (λ u. true) (λ u. k.Bool) s t
  binary-sure q op.NotEqual a b j m s t = alike-sure a j m (λ u. true) (λ u. k.Bool) s t
  binary-sure q op.Elem a b j m s t = two-sure is_obj is_set a j m k.Bool s t
  binary-sure q op.NotElem a b j m s t = two-sure is_obj is_set a j m k.Bool s t
  binary-sure q op.Less a b j m s t = two-sure is_number is_number a j m k.Bool s t
  binary-sure q op.Greater a b j m s t = two-sure is_number is_number a j m k.Bool s t
  binary-sure q op.LessEq a b j m s t = alike-sure a j m is_number_or_set (λ u. k.Bool) s t
  binary-sure q op.GreaterEq a b j m s t = alike-sure a j m is_number_or_set (λ u. k.Bool) s t
  binary-sure q op.Union a b j m s t = two-sure is_set is_set a j m k.Set s t
  binary-sure q op.Inter a b j m s t = two-sure is_set is_set a j m k.Set s t
  binary-sure q op.Add a b j m s t = two-sure is_number is_number a j m k.Int s t
  binary-sure q op.Sub a b j m s t = alike-sure a j m is_number_or_set (λ u. u) s t
  binary-sure q op.Mul a b j m s t = product-sure q a b j m s t

  known-under : (at : Where) (ws : List Word) → Known at → Known (under at ws)
  known-under at ws h = record { local = h.local; result = h.result }

  known-old : (at : Where) → Known at → Known (in_old at)
  known-old at h = record { local = h.local; result = h.result }

  shape-sure : (q : Place) (o : Option (List Word)) → Sure (rule_30_shape q o)
  shape-sure q None = sure-wrong 30 q
  shape-sure q (Some ws) = sure-right ws

  mutual
    unfolding form_kind

    -- The kind of a formula in which nothing is wrong is known.
    pub kind-sure : (a : FormTree) (at : Where) → Known at → Sure (form_kind l a at)
    kind-sure (f.null q) at h = sure-right k.Obj
    kind-sure (f.yes q) at h = sure-right k.Bool
    kind-sure (f.no q) at h = sure-right k.Bool
    kind-sure (f.univ q) at h = sure-right k.Set
    kind-sure (f.number q z) at h = sure-right k.Int
    kind-sure (f.name q w) at h = name-sure at h w
    kind-sure (f.member q a w) at h =
        sure-then (both (form_kind l a at) (rule_27_field l at.class w)) (λ u. rule_28 (is_obj u.0) (f.place_of a) k.Obj >>= λ v. given (second_of u).kind) (sure-both (form_kind l a at) (rule_27_field l at.class w) (kind-sure a at h) (field-sure at.class w))
        (λ u e. sure-then (rule_28 (is_obj u.0) (f.place_of a) k.Obj) (λ v. given u.1.kind) (sure-needs (is_obj u.0) 28 (f.place_of a) k.Obj) (λ v g. let s = named-known at.class (text_of w) u.1 (field-named at.class w u.1 (second (form_kind l a at).known (rule_27_field l at.class w).known u e)) in sure-given u.1.kind s.0 s.1))
      where
        second : {A B : Type 0} (x : Option A) (y : Option B) (u : A × B) → pair_of x y ≡ Some u → y ≡ Some u.1
        second None y u e = absurd (no-none u e)
        second (Some x) None u e = absurd (no-none u e)
        second (Some x) (Some y) u e = ap (λ z. Some z.1) (some-same (x, y) u e)
    kind-sure (f.negation q a) at h = one-sure is_truth a (form_kind l a at) k.Bool (kind-sure a at h)
    kind-sure (f.minus q a) at h = sure-then (form_kind l a at) (λ u. rule_28 (is_number_or_set u) (f.place_of a) u) (kind-sure a at h) (λ u e. sure-needs (is_number_or_set u) 28 (f.place_of a) u)
    kind-sure (f.old q a) at h = sure-then (both (rule_31_old at.old q) (form_kind l a (in_old at))) (λ u. right (second_of u)) (sure-both (rule_31_old at.old q) (form_kind l a (in_old at)) (sure-needs at.old 31 q tt) (kind-sure a (in_old at) (known-old at h))) (λ u e. sure-right (second_of u))
    kind-sure (f.card q a) at h = one-sure is_set a (form_kind l a at) k.Int (kind-sure a at h)
    kind-sure (f.binary q o a b) at h = binary-sure q o a b (form_kind l a at) (form_kind l b at) (kind-sure a at h) (kind-sure b at h)
    kind-sure (f.dvd q z a) at h =
        sure-then (both (needs_none (rule_29_dvd q z)) (form_kind l a at >>= λ u. rule_28 (is_number u) q k.Bool)) (λ u. right k.Bool) (sure-both (needs_none (rule_29_dvd q z)) (form_kind l a at >>= λ u. rule_28 (is_number u) q k.Bool) (sure-none (rule_29_dvd q z)) (sure-then (form_kind l a at) (λ u. rule_28 (is_number u) q k.Bool) (kind-sure a at h) (λ u e. sure-needs (is_number u) 28 q k.Bool))) (λ u e. sure-right k.Bool)
    kind-sure (f.all q ws a) at h = one-sure is_truth a (form_kind l a (under at ws)) k.Bool (kind-sure a (under at ws) (known-under at ws h))
    kind-sure (f.ex q ws a) at h = one-sure is_truth a (form_kind l a (under at ws)) k.Bool (kind-sure a (under at ws) (known-under at ws h))
    kind-sure (f.tree q ws) at h = fields-sure at q ws
    kind-sure (f.rtrancl q x y a b c) at h =
        let shape : Option (List Word) = if same_text (text_of x) (text_of y) then None else equations (text_of x) (text_of y) a in
        sure-then (both (rule_30_shape q shape >>= fields_kind l at q) (two l is_obj is_obj b (form_kind l b at) (form_kind l c at) k.Bool)) (λ u. right k.Bool)
        (sure-both (rule_30_shape q shape >>= fields_kind l at q) (two l is_obj is_obj b (form_kind l b at) (form_kind l c at) k.Bool) (sure-then (rule_30_shape q shape) (fields_kind l at q) (shape-sure q shape) (λ ws e. fields-sure at q ws)) (two-sure is_obj is_obj b (form_kind l b at) (form_kind l c at) k.Bool (kind-sure b at h) (kind-sure c at h))) (λ u e. sure-right k.Bool)
    kind-sure (f.braces q fs) at h = sure-then (form_kinds l fs at) (λ us. rule_28 (list_all is_obj us) (first_place q fs) k.Set) (kinds-sure fs at h) (λ us e. sure-needs (list_all is_obj us) 28 (first_place q fs) k.Set)
    kind-sure (f.compr q w a) at h = one-sure is_truth a (form_kind l a (under at (w ∷ []))) k.Set (kind-sure a (under at (w ∷ [])) (known-under at (w ∷ []) h))

    kinds-sure : (fs : FormTrees) (at : Where) → Known at → Sure (form_kinds l fs at)
    kinds-sure f.none at h = sure-right []
    kinds-sure (f.more a fs) at h = sure-then (both (form_kind l a at) (form_kinds l fs at)) (λ u. right (u.0 ∷ u.1)) (sure-both (form_kind l a at) (form_kinds l fs at) (kind-sure a at h) (kinds-sure fs at h)) (λ u e. sure-right (u.0 ∷ u.1))
