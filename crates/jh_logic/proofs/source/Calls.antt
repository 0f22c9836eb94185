-- A call in which no rule is broken is one of a method of the program, which its receiver and its arguments fit.
use Rattle.std.proofs.Common.{◌≡◌, refl, sym, ap, subst, ◌∙◌, ℕ, Bool, true, false, not, ◌==◌, if◌then◌else◌, List, [], ◌∷◌, ◌++◌, map, length, Option, Some, None, is_some, suc, arith}
use Rattle.std.specs.List.{Contains, flat_map}
use Rattle.std.specs.Option.{option_map_or}
use Rattle.std.proofs.lemmas.Bool.{true≢false}
use Rattle.std.proofs.lemmas.Bool.Decides.{nat_tests}
use Rattle.jh_name.specs.declared.place.Place.{Place}
use Rattle.jh_ast.specs.declared.word.Param.{Param}
use Rattle.jh_ast.specs.Exprs.{ExprTree}
use Rattle.jh_ast.specs.Exprs as e
use Rattle.jh_ast.specs.Stmts.{CallTree}
use Rattle.jh_ast.specs.Programs.{ProgramTree, MethodPart}
use Rattle.jh_rules.specs.declared.fault.Fault.{Fault}
use Rattle.jh_rules.specs.declared.types.Ty.{Ty}
use Rattle.jh_rules.specs.declared.types.Ty.TheVariants as ty
use Rattle.jh_rules.specs.declared.entries.MethodEntry.{MethodEntry}
use Rattle.jh_rules.specs.Faults.{Judged, right, fault, given, fine, both, ◌>>=◌}
use Rattle.jh_rules.specs.Words.{text_of}
use Rattle.jh_rules.specs.Kinds.{class_of, fits}
use Rattle.jh_rules.specs.Names.{Declared, declared_in, param_type}
use Rattle.jh_rules.specs.Scopes.{Scope}
use Rattle.jh_rules.specs.Rules.{rule_22, rule_23, rule_23_number}
use Rattle.jh_rules.specs.Exprs.{expr_type, receiver, class_spelled, callee_class, callee, arguments, result_of, call_type, call_place, own_or_static}
use Rattle.jh_semantics.specs.Code.{Text, ObjectCode, AnyCode, Local, Target}
use Rattle.jh_semantics.specs.Code as c
use Rattle.jh_semantics.specs.Lowered.{as_object, expr_code}
use Rattle.jh_semantics.specs.LoweredStmts.{local_code, calls_static, receiver_code}
use Rattle.jh_semantics.specs.LoweredProgram.{program_of}
use Rattle.jh_semantics.specs.Typed.{Surroundings, ObjectHas, of_this, Has, AllFit, ReceiverFits}
use Rattle.jh_logic.proofs.source.Lists.{has-first, has-later, map-from, more-not-empty, left-empty, right-empty, each-empty, not-true}
use Rattle.jh_logic.proofs.source.Judged.{met, met-known, then-first, then-next, then-known, both-known}
use Rattle.jh_logic.proofs.source.Environment.{MethodPartFits, Declares, Agrees}
use Rattle.jh_logic.proofs.source.Expressions.{TypedBy, class-type, object-has, typed}
use Rattle.jh_logic.proofs.source.Targets.{args-fit}

-- which methods are wanted
abbrev asks : Option Bool → MethodEntry → Bool
asks wanted m = option_map_or (λ (fixed : Bool). if fixed then m.fixed else not m.fixed) wanted true

-- a method is found
record IsFound (l : Declared) (place : Place) (wanted : Option Bool) (class : Option ℕ) (x : Text) : Type 0 where
  number : ℕ
  class_is : class ≡ Some number
  entry : MethodEntry
  is : l.method_of number x ≡ Some entry
  asked : asks wanted entry ≡ true
  known : (rule_22 place wanted (option_map_or (λ k. l.method_of k x) class None)).known ≡ Some entry

found-by : (l : Declared) (place : Place) (wanted : Option Bool) (n : ℕ) (x : Text) (o : Option MethodEntry) → l.method_of n x ≡ o → (rule_22 place wanted o).faults ≡ [] → (entry : MethodEntry) × (o ≡ Some entry) × (asks wanted entry ≡ true) × ((rule_22 place wanted o).known ≡ Some entry)
found-by l place wanted n x None is h = absurd (more-not-empty (fault 22 place) [] h)
found-by l place wanted n x (Some m) is h = (m, refl, met (asks wanted m) 22 place m h, met-known (asks wanted m) 22 place m h)

found : (l : Declared) (place : Place) (wanted : Option Bool) (class : Option ℕ) (x : Text) → (rule_22 place wanted (option_map_or (λ k. l.method_of k x) class None)).faults ≡ [] → IsFound l place wanted class x
found l place wanted None x h = absurd (more-not-empty (fault 22 place) [] h)
found l place wanted (Some n) x h = let r = found-by l place wanted n x (l.method_of n x) refl h in record { number = n; class_is = refl; entry = r.0; is = r.1; asked = r.2; known = r.3 }

asks-static : (m : MethodEntry) → asks (Some true) m ≡ true → m.fixed ≡ true
asks-static m h = h

asks-instance : (m : MethodEntry) → asks (Some false) m ≡ true → m.fixed ≡ false
asks-instance m h = not-true m.fixed h

module _ (p : ProgramTree) (declares : Declares p) (s : Surroundings) (at : Scope) (agrees : Agrees at s) where
  abbrev l : Declared
  l = declared_in p

  -- the class of a method that is called, and what its receiver is
  record ReceiverOf (x : CallTree) (r : Option ℕ × Option Bool) : Type 0 where
    known : (callee_class l at x.receiver).known ≡ Some r
    fits : (n : ℕ) (m : MethodEntry) → r.0 ≡ Some n → l.method_of n (text_of x.method) ≡ Some m → asks r.1 m ≡ true → ReceiverFits (program_of p) s (receiver_code p at (record { class = n; name = text_of x.method }) x.receiver) (if m.fixed then None else Some n)

  static-is : (n : ℕ) (x : Text) (m : MethodEntry) → l.method_of n x ≡ Some m → calls_static p (record { class = n; name = x }) ≡ m.fixed
  static-is n x m e = ap (λ o. option_map_or (λ (z : MethodEntry). z.fixed) o true) e

  -- no receiver is written
  of-class : (n : ℕ) → Some at.class ≡ Some n → s.this ≡ Some at.class → ObjectHas (program_of p) s c.this (ty.Class n)
  of-class n i h = of_this n (h ∙ i)

  own-fits : (n : ℕ) (x : Text) (m : MethodEntry) → Some at.class ≡ Some n → l.method_of n x ≡ Some m → asks (own_or_static l at at.fixed) m ≡ true → (b : Bool) → m.fixed ≡ b → (f : Bool) → at.fixed ≡ f → ReceiverFits (program_of p) s (if b then None else Some c.this) (if b then None else Some n)
  own-fits n x m i e a true h f g = tt
  own-fits n x m i e a false h true g = absurd (true≢false (sym (subst (λ f. asks (own_or_static l at f) m ≡ true) g a) ∙ h))
  own-fits n x m i e a false h false g = of-class n i (agrees.this g)

  own-receiver : (x : CallTree) → x.receiver ≡ None → ReceiverOf x (Some at.class, own_or_static l at at.fixed)
  own-receiver x none = record {
    known = ap (λ o. (callee_class l at o).known) none;
    fits = λ n m i e a. subst (λ (o : Option ExprTree). ReceiverFits (program_of p) s (receiver_code p at (record { class = n; name = text_of x.method }) o) (if m.fixed then None else Some n)) (sym none)
        (subst (λ b. ReceiverFits (program_of p) s (if b then None else Some c.this) (if m.fixed then None else Some n)) (sym (static-is n (text_of x.method) m e))
        (own-fits n (text_of x.method) m i e a m.fixed refl at.fixed refl));
  }

  -- a class or an object stands before the dot
  abbrev wanting : Option ℕ × Bool → Judged (Option ℕ × Option Bool)
  wanting r = right (r.0, Some r.1)

  written-known : (a : ExprTree) (spelled : Option (Option ℕ)) → (receiver l at spelled (expr_type l at a) >>= wanting).faults ≡ [] →
      (r : Option ℕ × Option Bool) × ((receiver l at spelled (expr_type l at a) >>= wanting).known ≡ Some r)
      × ((n : ℕ) (m : MethodEntry) → r.0 ≡ Some n → asks r.1 m ≡ true → ReceiverFits (program_of p) s (if is_some spelled then None else Some (as_object (expr_code p a at))) (if m.fixed then None else Some n))
  written-known a (Some class) h = ((class, Some true), refl, λ n m i asked. subst (λ b. ReceiverFits (program_of p) s None (if b then None else Some n)) (sym asked) tt)
  written-known a None h =
      let j : Judged Ty = expr_type l at a in
      let to : Ty → Judged (Option ℕ × Bool) = λ t. right (class_of t, false) in
      let u : TypedBy p declares s j (expr_code p a at) = typed p declares s at agrees a (then-first j to (then-first (j >>= to) wanting h)) in (
        (class_of u.type, Some false),
        then-known (j >>= to) wanting (class_of u.type, false) (then-known j to u.type u.known),
        λ n m i asked. subst (λ b. ReceiverFits (program_of p) s (Some (as_object (expr_code p a at))) (if b then None else Some n)) (sym (asks-instance m asked))
            (object-has p declares s (expr_code p a at) n (subst (λ t. Has (program_of p) s (expr_code p a at) t) (class-type u.type n i) u.has)),
      )

  written-receiver : (x : CallTree) (a : ExprTree) → x.receiver ≡ Some a → (callee_class l at x.receiver).faults ≡ [] → (r : Option ℕ × Option Bool) × ReceiverOf x r
  written-receiver x a e h =
      let k = written-known a (class_spelled l at a) (subst (λ o. (callee_class l at o).faults ≡ []) e h) in (
        k.0,
        record {
          known = ap (λ o. (callee_class l at o).known) e ∙ k.1;
          fits = λ n m i is asked. subst (λ (o : Option ExprTree). ReceiverFits (program_of p) s (receiver_code p at (record { class = n; name = text_of x.method }) o) (if m.fixed then None else Some n)) (sym e) (k.2 n m i asked);
        },
      )

  receiver-known : (x : CallTree) (o : Option ExprTree) → x.receiver ≡ o → (callee_class l at x.receiver).faults ≡ [] → (r : Option ℕ × Option Bool) × ReceiverOf x r
  receiver-known x None e h = ((Some at.class, own_or_static l at at.fixed), own-receiver x e)
  receiver-known x (Some a) e h = written-receiver x a e h

  -- What a call is: of a method, which its receiver and arguments fit.
  pub record CallIs (x : CallTree) : Type 0 where
    pub class : ℕ
    pub entry : MethodEntry
    pub found : l.method_of class (text_of x.method) ≡ Some entry
    pub looked : option_map_or (λ (r : Option ℕ × Option Bool). r.0) (callee_class l at x.receiver).known None ≡ Some class
    pub known : (call_type l at x).known ≡ entry.result
    pub receiver_fits : ReceiverFits (program_of p) s (receiver_code p at (record { class = class; name = text_of x.method }) x.receiver) (if entry.fixed then None else Some class)
    pub args_fit : AllFit (program_of p) s (map (λ a. expr_code p a at) x.args) (map (local_code p) (declares.methods class (text_of x.method) entry found).method.params)

  same-length : (m n : ℕ) → (m == n) ≡ true → n ≡ m
  same-length m n h = grind (arith, nat_tests)

  abbrev rest-of : CallTree → Option ℕ × Option Bool → Judged Ty
  rest-of x r = callee l at x r >>= result_of l at (call_place l at x) (length x.args) x.args

  numbered : (n : ℕ) (args : List ExprTree) (entry : MethodEntry) (place : Place) → (result_of l at place n args entry).faults ≡ [] →
      ((n == length entry.params) ≡ true) × ((arguments l at args entry.params).faults ≡ []) × ((k : Unit {0}) → (arguments l at args entry.params).known ≡ Some k → (result_of l at place n args entry).known ≡ entry.result)
  numbered n args entry place h =
      let first : Judged MethodEntry = rule_23_number place n (length entry.params) entry in
      let last : MethodEntry → Judged Ty = λ m. arguments l at args m.params >>= λ u. given m.result in
      let known : first.known ≡ Some entry = met-known (n == length entry.params) 23 place entry (then-first first last h) in
      let more : (last entry).faults ≡ [] = then-next first last entry h known in (
        met (n == length entry.params) 23 place entry (then-first first last h),
        then-first (arguments l at args entry.params) (λ u. given entry.result) more,
        λ k e. then-known first last entry known ∙ then-known (arguments l at args entry.params) (λ u. given entry.result) k e,
      )

  -- the arguments are known where they fit
  args-known : (args : List ExprTree) (ds : List (Option Ty)) → ((a : ExprTree) → Contains args a → (expr_type l at a).faults ≡ []) → ((d : Option Ty) → Contains ds d → (t : Ty) × (d ≡ Some t)) → (arguments l at args ds).faults ≡ [] → (arguments l at args ds).known ≡ Some tt
  unfolding arguments
  args-known [] ds faultless known h = refl
  args-known (a ∷ rest) [] faultless known h = refl
  args-known (a ∷ rest) (d ∷ ds) faultless known h =
      let u : TypedBy p declares s (expr_type l at a) (expr_code p a at) = typed p declares s at agrees a (faultless a (has-first a rest)) in
      let t = known d (has-first d ds) in
      let pair : Judged (Ty × Ty) = both (given (expr_type l at a).known) (given d) in
      let here : Judged Ty = pair >>= λ t. rule_23 a t.0 t.1 in
      let next : Judged (Unit {0}) = arguments l at rest ds in
      let parts : here.faults ++ next.faults ≡ [] = then-first (both here next) (λ u. fine) h in
      let two : pair.known ≡ Some (u.type, t.0) = both-known (given (expr_type l at a).known) (given d) u.type t.0 u.known t.1 in
      let asked : (rule_23 a u.type t.0).faults ≡ [] = then-next pair (λ t. rule_23 a t.0 t.1) (u.type, t.0) (left-empty here.faults next.faults parts) two in
      then-known (both here next) (λ u. fine) (u.type, tt) (both-known here next u.type tt (then-known pair (λ t. rule_23 a t.0 t.1) (u.type, t.0) two ∙ met-known (fits u.type t.0) 23 (e.place_of a) u.type asked)
      (args-known rest ds (λ a' i. faultless a' (has-later a rest a' i)) (λ d' i. known d' (has-later d ds d' i)) (right-empty here.faults next.faults parts)))

  map-length : {X Y : Type 0} (f : X → Y) (xs : List X) → length (map f xs) ≡ length xs
  map-length f [] = refl
  map-length f (x ∷ xs) = ap suc (map-length f xs)

  params-known : (m : MethodPart) → ((d : Param) → Contains m.params d → (t : Ty) × (param_type p d ≡ Some t)) → (d : Option Ty) → Contains (map (param_type p) m.params) d → (t : Ty) × (d ≡ Some t)
  params-known m known d i = let r = map-from (param_type p) m.params d i in let t = known r.0 r.1 in (t.0, sym r.2 ∙ t.1)

  -- Nothing is wrong in a call: it is one of a method that it fits.
  pub call-is : (x : CallTree) → (call_type l at x).faults ≡ [] → CallIs x
  call-is x h =
      let args : List Fault = flat_map (λ (a : ExprTree). (expr_type l at a).faults) x.args in
      let whole : Judged Ty = callee_class l at x.receiver >>= rest-of x in
      let inner : whole.faults ≡ [] = right-empty args whole.faults h in
      let faultless : (a : ExprTree) → Contains x.args a → (expr_type l at a).faults ≡ [] = each-empty (λ (a : ExprTree). (expr_type l at a).faults) x.args (left-empty args whole.faults h) in
      let r = receiver-known x x.receiver refl (then-first (callee_class l at x.receiver) (rest-of x) inner) in
      let rest : (rest-of x r.0).faults ≡ [] = then-next (callee_class l at x.receiver) (rest-of x) r.0 inner r.1.known in
      let at-callee : Judged MethodEntry = callee l at x r.0 in
      let f : IsFound l (call_place l at x) (r.0).1 (r.0).0 (text_of x.method) = found l (call_place l at x) (r.0).1 (r.0).0 (text_of x.method) (then-first at-callee (result_of l at (call_place l at x) (length x.args) x.args) rest) in
      let last : (result_of l at (call_place l at x) (length x.args) x.args f.entry).faults ≡ [] = then-next at-callee (result_of l at (call_place l at x) (length x.args) x.args) f.entry rest f.known in
      let n = numbered (length x.args) x.args f.entry (call_place l at x) last in
      let m : MethodPartFits p f.number (text_of x.method) f.entry = declares.methods f.number (text_of x.method) f.entry f.is in
      let params : (arguments l at x.args (map (param_type p) m.method.params)).faults ≡ [] = subst (λ ds. (arguments l at x.args ds).faults ≡ []) m.params n.1 in
      record {
        class = f.number;
        entry = f.entry;
        found = f.is;
        looked = ap (λ o. option_map_or (λ (r : Option ℕ × Option Bool). r.0) o None) r.1.known ∙ f.class_is;
        known = then-known (callee_class l at x.receiver) (rest-of x) r.0 r.1.known ∙ then-known at-callee (result_of l at (call_place l at x) (length x.args) x.args) f.entry f.known
            ∙ n.2 tt (ap (λ ds. (arguments l at x.args ds).known) m.params ∙ args-known x.args (map (param_type p) m.method.params) faultless (params-known m.method m.params_known) params);
        receiver_fits = r.1.fits f.number f.entry f.class_is f.is f.asked;
        args_fit = args-fit p declares s at agrees x.args m.method.params m.params_known faultless (sym (same-length (length x.args) (length f.entry.params) n.0) ∙ ap (λ (ds : List (Option Ty)). length ds) m.params ∙ map-length (param_type p) m.method.params) params;
      }
