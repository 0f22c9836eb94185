-- What is assigned to takes values of its type, and a call in which no rule is broken fits its method.
use Rattle.std.proofs.Common.{◌≡◌, refl, sym, ap, subst, ◌∙◌, ℕ, suc, Bool, true, false, not, ◌||◌, if◌then◌else◌, List, [], ◌∷◌, ◌++◌, map, length, Option, Some, None, arith}
use Rattle.std.specs.List.{Contains}
use Rattle.std.specs.Option.{option_map_or}
use Rattle.std.proofs.lemmas.Bool.{true≢false}
use Rattle.jh_name.specs.declared.place.Place.{Place}
use Rattle.jh_ast.specs.declared.word.Word.{Word}
use Rattle.jh_ast.specs.declared.word.Param.{Param}
use Rattle.jh_ast.specs.Exprs.{ExprTree}
use Rattle.jh_ast.specs.Exprs as e
use Rattle.jh_ast.specs.Programs.{ProgramTree}
use Rattle.jh_rules.specs.declared.types.Ty.{Ty}
use Rattle.jh_rules.specs.declared.types.Ty.TheVariants as ty
use Rattle.jh_rules.specs.declared.entries.FieldEntry.{FieldEntry}
use Rattle.jh_rules.specs.declared.entries.LocalEntry.{LocalEntry}
use Rattle.jh_rules.specs.Faults.{Judged, right, fault, broken, given, fine, both, ◌>>=◌}
use Rattle.jh_rules.specs.Words.{text_of}
use Rattle.jh_rules.specs.Kinds.{class_of, fits}
use Rattle.jh_rules.specs.Names.{declared_in, param_type}
use Rattle.jh_rules.specs.Scopes.{Scope}
use Rattle.jh_rules.specs.Rules.{rule_13, rule_14, rule_15, rule_17, rule_23}
use Rattle.jh_rules.specs.Shape.{may_be_assigned}
use Rattle.jh_rules.specs.Exprs.{expr_type, field_type, receiver, class_spelled, arguments}
use Rattle.jh_semantics.specs.Code.{Text, ObjectCode, AnyCode, Local, Target}
use Rattle.jh_semantics.specs.Code as c
use Rattle.jh_semantics.specs.Lowered.{as_object, expr_code, receiver_class}
use Rattle.jh_semantics.specs.LoweredStmts.{local_code, static_target, field_target, own_target, dotted_target, target_code}
use Rattle.jh_semantics.specs.LoweredProgram.{program_of}
use Rattle.jh_semantics.specs.Typed.{Surroundings, ObjectHas, AllFit, Takes, old_local, a_static, a_field, IsMember}
use Rattle.jh_logic.proofs.source.Lists.{has-first, has-later, more-not-empty, left-empty, right-empty}
use Rattle.jh_logic.proofs.source.Judged.{not-broken, met, met-known, then-first, then-next, then-known, both-known}
use Rattle.jh_logic.proofs.source.Environment.{FieldFits, Declares, LocalFits, Agrees}
use Rattle.jh_logic.proofs.source.Expressions.{TypedBy, MemberIs, ReceiverIs, member-is, receiver-of, own-this, typed}

module _ (p : ProgramTree) (declares : Declares p) (s : Surroundings) (at : Scope) (agrees : Agrees at s) where
  module _ (n : ℕ) (w : Word) (entry : FieldEntry) (is : (declared_in p).field_of n (text_of w) ≡ Some entry) where
    abbrev field : FieldFits p n (text_of w) entry
    field = declares.fields n (text_of w) entry is

    static-takes : entry.fixed ≡ true → Takes (program_of p) s (static_target p (Some n) w) field.type
    static-takes h = subst (λ x. Takes (program_of p) s (c.to_name x) field.type) field.text (a_static field.member field.type (subst (λ b. IsMember (program_of p) field.member b field.type) h field.stands))

    field-takes : entry.fixed ≡ false → (r : ObjectCode) (q : Place) → ObjectHas (program_of p) s r (ty.Class n) → Takes (program_of p) s (field_target p (Some n) w r q) field.type
    field-takes h r q o = subst (λ x. Takes (program_of p) s (c.to_field x r q) field.type) field.text (a_field field.member field.type (subst (λ b. IsMember (program_of p) field.member b field.type) h field.stands) r q n o (sym field.class))

  -- a target takes values of the type that is known of its expression
  pub record TakesBy (j : Judged Ty) (target : Target) : Type 0 where
    pub type : Ty
    pub known : j.known ≡ Some type
    pub takes : Takes (program_of p) s target type

  own-takes : (w : Word) (entry : FieldEntry) (is : (declared_in p).field_of at.class (text_of w) ≡ Some entry) → (faultless : (field_type (declared_in p) at w entry).faults ≡ []) →
      (b : Bool) → entry.fixed ≡ b → Takes (program_of p) s (if b then static_target p (Some at.class) w else field_target p (Some at.class) w c.this w.place) (field at.class w entry is).type
  own-takes w entry is faultless true h = static-takes at.class w entry is h
  own-takes w entry is faultless false h = field-takes at.class w entry is h c.this w.place (own-this p declares s at agrees w entry is faultless h)

  own-known : (w : Word) (entry : FieldEntry) (is : (declared_in p).field_of at.class (text_of w) ≡ Some entry) → (faultless : (field_type (declared_in p) at w entry).faults ≡ []) → (field_type (declared_in p) at w entry).known ≡ Some (field at.class w entry is).type
  own-known w entry is faultless =
      let first : (rule_14 (entry.fixed || not at.fixed) w.place entry).faults ≡ [] = then-first (rule_14 (entry.fixed || not at.fixed) w.place entry) (λ y. given y.ty) faultless in
      then-known (rule_14 (entry.fixed || not at.fixed) w.place entry) (λ y. given y.ty) entry (met-known (entry.fixed || not at.fixed) 14 w.place entry first) ∙ (field at.class w entry is).has_type

  word-takes : (w : Word) (place : Place) (o : Option LocalEntry) → at.local (text_of w) ≡ o → (f : Option FieldEntry) → (declared_in p).field_of at.class (text_of w) ≡ f →
      broken 17 place (option_map_or (λ (x : LocalEntry). x.is_param) o false) ≡ [] →
      (option_map_or (λ (x : LocalEntry). given x.ty) o (option_map_or (field_type (declared_in p) at w) f (rule_13 w))).faults ≡ [] →
      TakesBy (option_map_or (λ (x : LocalEntry). given x.ty) o (option_map_or (field_type (declared_in p) at w) f (rule_13 w)))
      (option_map_or (λ (x : LocalEntry). c.to_name (text_of w)) o (option_map_or (own_target p at w) f c.nowhere))
  word-takes w place (Some x) e f is free h =
      let l : LocalFits s (text_of w) x = agrees.known (text_of w) x e in
      record { type = l.local.type; known = l.has_type; takes = subst (λ z. Takes (program_of p) s (c.to_name z) l.local.type) l.text (old_local l.local (l.assigned (not-broken 17 place x.is_param free))) }
  word-takes w place None e (Some entry) is free h = record { type = (field at.class w entry is).type; known = own-known w entry is h; takes = own-takes w entry is h entry.fixed refl }
  word-takes w place None e None is free h = absurd (more-not-empty (fault 13 w.place) [] h)

  spelled-takes : (class : Option ℕ) (place : Place) (w : Word) → (rule_15 (declared_in p) class true place (text_of w)).faults ≡ [] → TakesBy (rule_15 (declared_in p) class true place (text_of w)) (static_target p class w)
  spelled-takes None place w h = absurd (more-not-empty (fault 15 place) [] h)
  spelled-takes (Some n) place w h =
      let m : MemberIs p declares s at agrees n true place w = member-is p declares s at agrees n true place w h in
      record { type = (field n w m.entry m.is).type; known = m.known ∙ (field n w m.entry m.is).has_type; takes = static-takes n w m.entry m.is m.fixed_is }

  behind-takes : (a : ExprTree) (place : Place) (w : Word) (r : ReceiverIs p declares s at agrees a) → (rule_15 (declared_in p) (Some r.class) false place (text_of w)).faults ≡ [] → (q : Place) →
      TakesBy (rule_15 (declared_in p) (Some r.class) false place (text_of w)) (field_target p (receiver_class p at a) w (as_object (expr_code p a at)) q)
  behind-takes a place w r h q =
      let m : MemberIs p declares s at agrees r.class false place w = member-is p declares s at agrees r.class false place w h in
      record {
        type = (field r.class w m.entry m.is).type;
        known = m.known ∙ (field r.class w m.entry m.is).has_type;
        takes = subst (λ class. Takes (program_of p) s (field_target p class w (as_object (expr_code p a at)) q) (field r.class w m.entry m.is).type) (sym (ap (λ o. option_map_or class_of o None) r.known))
            (field-takes r.class w m.entry m.is m.fixed_is (as_object (expr_code p a at)) q r.has);
      }

  dotted-takes : (a : ExprTree) (w : Word) (spelled : Option (Option ℕ)) → (receiver (declared_in p) at spelled (expr_type (declared_in p) at a) >>= λ r. rule_15 (declared_in p) r.0 r.1 (e.place_of a) (text_of w)).faults ≡ [] →
      TakesBy (receiver (declared_in p) at spelled (expr_type (declared_in p) at a) >>= λ r. rule_15 (declared_in p) r.0 r.1 (e.place_of a) (text_of w)) (dotted_target p at spelled a w)
  dotted-takes a w (Some class) h = let m = spelled-takes class (e.place_of a) w h in record { type = m.type; known = m.known; takes = m.takes }
  dotted-takes a w None h =
      let j : Judged Ty = expr_type (declared_in p) at a in
      let to : Ty → Judged (Option ℕ × Bool) = λ t. right (class_of t, false) in
      let rule : Option ℕ × Bool → Judged Ty = λ r. rule_15 (declared_in p) r.0 r.1 (e.place_of a) (text_of w) in
      let inner : TypedBy p declares s j (expr_code p a at) = typed p declares s at agrees a (then-first j to (then-first (j >>= to) rule h)) in
      let known : (j >>= to).known ≡ Some (class_of inner.type, false) = then-known j to inner.type inner.known in
      let asked : (rule (class_of inner.type, false)).faults ≡ [] = then-next (j >>= to) rule (class_of inner.type, false) h known in
      let r = receiver-of p declares s at agrees a inner (e.place_of a) w (class_of inner.type) inner.type inner.known refl asked in
      let m = behind-takes a (e.place_of a) w r.0 (subst (λ (o : Option ℕ). (rule_15 (declared_in p) o false (e.place_of a) (text_of w)).faults ≡ []) r.1 asked) (e.place_of a) in
      record { type = m.type; known = then-known (j >>= to) rule (class_of inner.type, false) known ∙ ap (λ (o : Option ℕ). (rule_15 (declared_in p) o false (e.place_of a) (text_of w)).known) r.1 ∙ m.known; takes = m.takes }

  -- Nothing is wrong in what is assigned to: it takes values of its type.
  pub target-takes : (q : Place) (a : ExprTree) → may_be_assigned a ≡ true → (expr_type (declared_in p) at a).faults ≡ [] → rule_17 at q a ≡ [] → TakesBy (expr_type (declared_in p) at a) (target_code p at a)
  unfolding expr_type
  target-takes q (e.name place w) may h free = word-takes w q (at.local (text_of w)) refl ((declared_in p).field_of at.class (text_of w)) refl free h
  target-takes q (e.member place a w) may h free = dotted-takes a w (class_spelled (declared_in p) at a) h
  target-takes q (e.null place) may h free = absurd (true≢false (sym may))
  target-takes q (e.yes place) may h free = absurd (true≢false (sym may))
  target-takes q (e.no place) may h free = absurd (true≢false (sym may))
  target-takes q (e.number place z) may h free = absurd (true≢false (sym may))
  target-takes q (e.this place) may h free = absurd (true≢false (sym may))
  target-takes q (e.negation place a) may h free = absurd (true≢false (sym may))
  target-takes q (e.minus place a) may h free = absurd (true≢false (sym may))
  target-takes q (e.binary place o a b) may h free = absurd (true≢false (sym may))

  -- Arguments fit the parameters of a method.
  pub args-fit : (args : List ExprTree) (params : List Param) → ((d : Param) → Contains params d → (t : Ty) × (param_type p d ≡ Some t)) → ((a : ExprTree) → Contains args a → (expr_type (declared_in p) at a).faults ≡ []) →
      length args ≡ length params → (arguments (declared_in p) at args (map (param_type p) params)).faults ≡ [] → AllFit (program_of p) s (map (λ a. expr_code p a at) args) (map (local_code p) params)
  unfolding arguments
  args-fit [] [] known faultless same h = tt
  args-fit [] (d ∷ ds) known faultless same h = absurd (less same)
    where
      less : {n : ℕ} → 0 ≡ suc n → ⊥
      less x = omega (x, arith)
  args-fit (a ∷ rest) [] known faultless same h = absurd (less same)
    where
      less : {n : ℕ} → suc n ≡ 0 → ⊥
      less x = omega (x, arith)
  args-fit (a ∷ rest) (d ∷ ds) known faultless same h =
      let t = known d (has-first d ds) in
      let u : TypedBy p declares s (expr_type (declared_in p) at a) (expr_code p a at) = typed p declares s at agrees a (faultless a (has-first a rest)) in
      let pair : Judged (Ty × Ty) = both (given (expr_type (declared_in p) at a).known) (given (param_type p d)) in
      let here : Judged Ty = pair >>= λ t. rule_23 a t.0 t.1 in
      let next : Judged (Unit {0}) = arguments (declared_in p) at rest (map (param_type p) ds) in
      let parts : here.faults ++ next.faults ≡ [] = then-first (both here next) (λ u. fine) h in
      let asked : (rule_23 a u.type t.0).faults ≡ [] = then-next pair (λ t. rule_23 a t.0 t.1) (u.type, t.0) (left-empty here.faults next.faults parts) (both-known (given (expr_type (declared_in p) at a).known) (given (param_type p d)) u.type t.0 u.known t.1) in (
        record { type = u.type; has = u.has; fit = subst (λ (x : Ty). fits u.type x ≡ true) (sym (ap (λ (o : Option Ty). option_map_or (λ x. x) o ty.Object) t.1)) (met (fits u.type t.0) 23 (e.place_of a) u.type asked) },
        args-fit rest ds (λ d' i. known d' (has-later d ds d' i)) (λ a' i. faultless a' (has-later a rest a' i)) (same-less same) (right-empty here.faults next.faults parts),
      )
    where
      same-less : suc (length rest) ≡ suc (length ds) → length rest ≡ length ds
      same-less x = omega (x, arith)
