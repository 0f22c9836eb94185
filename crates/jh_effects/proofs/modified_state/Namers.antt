-- What arises of what methods name and definitions read is what methods name, through definitions too.
use Rattle.std.proofs.Common.{◌≡◌, refl, sym, ap, subst, ◌∙◌, ◌⊎◌, inl, inr, ◌↔◌, ℕ, zero, suc, ◌+◌, ◌<◌, ◌++◌, ◌||◌, Bool, true, false, if◌then◌else◌, List, [], ◌∷◌, map, length, slice_get, Option, Some, None, arith}
use Rattle.std.specs.Option.{option_map_or}
use Rattle.std.proofs.lemmas.List.{length-map}
use Rattle.std.proofs.lemmas.Option.{slice_get_within}
use Rattle.jh_ast.specs.Programs.{ProgramTree, MethodPart, DefPart}
use Rattle.jh_symbols.specs.declared.member_numbers.numbers.Numbers.{Numbers}
use Rattle.jh_symbols.specs.member_numbers.Numbering.{number_in}
use Rattle.jh_definitions.specs.declared.expansion.opening.Definition.{Definition}
use Rattle.jh_definitions.specs.expansion.Opening.{defined_by}
use Rattle.jh_rules.specs.Names.{declared_in, def_of}
use Rattle.jh_containers.specs.transitive_closure.Spreads.{IsIn, passed_to}
use Rattle.jh_vars.specs.States.{State, Variable, variable_of}
use Rattle.jh_vars.specs.Reading.{reads, definition_reads, Reads}
use Rattle.jh_vars.specs.Reading as r
use Rattle.jh_vars.specs.Written.{Written, Callee, as_written, part_of, named_by, Names}
use Rattle.jh_vars.specs.Written as w
use Rattle.jh_effects.specs.declared.written_state.flow.Given.{Given}
use Rattle.jh_effects.specs.declared.written_state.flow.Key.{Key}
use Rattle.jh_effects.specs.declared.written_state.flow.Link.{Link}
use Rattle.jh_effects.specs.written_state.Arising as a
use Rattle.jh_effects.specs.written_state.Arising.{Arises, ArePlaces}
use Rattle.jh_effects.specs.written_state.Keys.{key_of}
use Rattle.jh_effects.specs.declared.written_state.methods.Listed.{Listed}
use Rattle.jh_effects.specs.written_state.Methods.{callee_of, callees, AreNumbered, AreAll, gathered_from}
use Rattle.jh_effects.specs.modified_state.Modifying.{named_in, AreCounted, given_state, given_states, link_state, link_states, given_named, given_read, link_named, link_read, variables_of}
use Rattle.jh_effects.proofs.written_state.Gathering.{some-is, none-some, nothing-in, contains-in, in-contains, in-front, in-back, in-either, in-map, flat-of, in-flat, gathered-of, in-gathered}
use Rattle.jh_effects.proofs.written_state.Keying.{key-once}
use Rattle.jh_effects.proofs.written_state.Writers.{link-of, in-link, places-mapped}

module _ (p : ProgramTree) where
  -- what is given of some states
  given-if : (n : ℕ) (y : State) (b : Bool) (g : Given) → IsIn (if b then [] else record { of = n; what = key_of p (as_written p y) } ∷ []) g → (b ≡ false) × (g.of ≡ n) × (key_of p (as_written p y) ≡ g.what)
  given-if n y true g h = absurd (nothing-in g h)
  given-if n y false g (zero, e) = let same = some-is (record { of = n; what = key_of p (as_written p y) }) g e in (refl, sym (ap (λ (v : Given). v.of) same), ap (λ (v : Given). v.what) same)
  given-if n y false g (suc zero, e) = cc
  given-if n y false g (suc (suc i), e) = cc

  given-of : (n : ℕ) (ys : List State) (g : Given) → IsIn (given_states p n ys) g → (y : State) × IsIn ys y × (y.entry.is_defined ≡ false) × (g.of ≡ n) × (key_of p (as_written p y) ≡ g.what)
  given-of n ys g h =
      let f = flat-of (given_state p n) ys g h in
      let s = given-if n f.0 (f.0).entry.is_defined g f.2 in
      (f.0, f.1, s.0, s.1, s.2)

  in-given : (n : ℕ) (ys : List State) (y : State) → IsIn ys y → y.entry.is_defined ≡ false → IsIn (given_states p n ys) (record { of = n; what = key_of p (as_written p y) })
  in-given n ys y h plain =
      in-flat (given_state p n) ys y h.0 (record { of = n; what = key_of p (as_written p y) }) h.1
      (subst (λ (b : Bool). IsIn {X = Given} (if b then [] else record { of = n; what = key_of p (as_written p y) } ∷ []) (record { of = n; what = key_of p (as_written p y) })) (sym plain) (0, refl))

module _ (numbers : Numbers) (every : Bool) where
  link-if : (n : ℕ) (o : Option ℕ) (b : Bool) (link : Link) → IsIn (if b then option_map_or (λ k. record { from = k; to = n } ∷ []) o [] else []) link → (b ≡ true) × (o ≡ Some link.from) × (link.to ≡ n)
  link-if n o true link h = let s = link-of o n link h in (refl, s.0, s.1)
  link-if n o false link h = absurd (nothing-in link h)

  links-of : (n : ℕ) (ys : List State) (link : Link) → IsIn (link_states numbers every n ys) link → (y : State) × IsIn ys y × ((every || y.entry.is_defined) ≡ true) × (number_in numbers y.entry.class y.name ≡ Some link.from) × (link.to ≡ n)
  links-of n ys link h =
      let f = flat-of (link_state numbers every n) ys link h in
      let s = link-if n (number_in numbers (f.0).entry.class (f.0).name) (every || (f.0).entry.is_defined) link f.2 in
      (f.0, f.1, s.0, s.1, s.2)

  in-links : (n k : ℕ) (ys : List State) (y : State) → IsIn ys y → (every || y.entry.is_defined) ≡ true → number_in numbers y.entry.class y.name ≡ Some k → IsIn (link_states numbers every n ys) (record { from = k; to = n })
  in-links n k ys y h b e =
      in-flat (link_state numbers every n) ys y h.0 (record { from = k; to = n }) h.1
      (subst (λ (t : Bool). IsIn {X = Link} (if t then option_map_or (λ j. record { from = j; to = n } ∷ []) (number_in numbers y.entry.class y.name) [] else []) (record { from = k; to = n })) (sym b)
      (in-link (number_in numbers y.entry.class y.name) n k e))

-- methods by their numbers, and behind them the definitions
module _ (p : ProgramTree) (numbers : Numbers) (ms : List Callee) (start : ℕ) (long : start ≡ length ms) (ds : List Definition) (counted : AreCounted start numbers ds)
    (all : (v : Variable) (d : DefPart) → def_of p v.class v.name ≡ Some d → number_in numbers v.class v.name ≡ None → ⊥) where
  abbrev vs : List Variable
  vs = variables_of ds

  abbrev given : List Given
  given = gathered_from (given_named p) 0 ms ++ gathered_from (given_read p) start vs

  abbrev links : List Link
  links = gathered_from (link_named p numbers) 0 ms ++ gathered_from (link_read p numbers) start vs

  -- the variable of a number
  at-number : (v : Variable) (n : ℕ) → number_in numbers v.class v.name ≡ Some n → (k : ℕ) × (n ≡ start + k) × (slice_get vs k ≡ Some v)
  at-number v n e = let t = counted v.class v.name n e in (t.0, t.2, in-map defined_by ds t.1 t.0 t.3 ∙ ap Some t.4)

  -- methods and definitions have numbers of things
  method-inside : (k : ℕ) (m : Callee) (n : ℕ) → slice_get ms k ≡ Some m → n ≡ 0 + k → n < start + length ds
  method-inside k m n at e = let lt : k < length ms = slice_get_within ms k m at in omega (lt, e, long, arith)

  variable-inside : (k : ℕ) (v : Variable) (n : ℕ) → slice_get vs k ≡ Some v → n ≡ start + k → n < start + length ds
  variable-inside k v n at e = let lt : k < length vs = slice_get_within vs k v at in let same : length vs ≡ length ds = length-map ds defined_by in omega (lt, e, same, arith)

  pub targets-inside : (link : Link) → IsIn links link → link.to < start + length ds
  targets-inside link h = by (in-either (gathered_from (link_named p numbers) 0 ms) (gathered_from (link_read p numbers) start vs) link h)
    where
      by : IsIn (gathered_from (link_named p numbers) 0 ms) link ⊎ IsIn (gathered_from (link_read p numbers) start vs) link → link.to < start + length ds
      by (inl k) = let g = gathered-of (link_named p numbers) 0 ms link k in let s = links-of numbers false (0 + g.0) (named_in p g.1) link g.3 in method-inside g.0 g.1 link.to g.2 s.4
      by (inr k) = let g = gathered-of (link_read p numbers) start vs link k in let s = links-of numbers true (start + g.0) (definition_reads p g.1) link g.3 in variable-inside g.0 g.1 link.to g.2 s.4

  pub given-inside : (g : Given) → IsIn given g → g.of < start + length ds
  given-inside x h = by (in-either (gathered_from (given_named p) 0 ms) (gathered_from (given_read p) start vs) x h)
    where
      by : IsIn (gathered_from (given_named p) 0 ms) x ⊎ IsIn (gathered_from (given_read p) start vs) x → x.of < start + length ds
      by (inl k) = let g = gathered-of (given_named p) 0 ms x k in let s = given-of p (0 + g.0) (named_in p g.1) x g.3 in method-inside g.0 g.1 x.of g.2 s.3
      by (inr k) = let g = gathered-of (given_read p) start vs x k in let s = given-of p (start + g.0) (definition_reads p g.1) x g.3 in variable-inside g.0 g.1 x.of g.2 s.3

  reads-none : (v : Variable) (y : State) → def_of p v.class v.name ≡ None → Reads p v y → ⊥
  reads-none v y e (r.directly _ _ h) = nothing-in y (subst (λ (xs : List State). IsIn xs y) (ap (λ o. option_map_or (λ (d : DefPart). reads (declared_in p) d.spec.form v.class []) o []) e) (contains-in (definition_reads p v) y h))
  reads-none v y e (r.through _ z _ h s) = nothing-in z (subst (λ (xs : List State). IsIn xs z) (ap (λ o. option_map_or (λ (d : DefPart). reads (declared_in p) d.spec.form v.class []) o []) e) (contains-in (definition_reads p v) z h))

  -- what reads something has a number
  reader-number : (v : Variable) (y : State) → Reads p v y → (n : ℕ) × (number_in numbers v.class v.name ≡ Some n)
  reader-number v y h = by (def_of p v.class v.name) refl (number_in numbers v.class v.name) refl
    where
      by : (d : Option DefPart) → def_of p v.class v.name ≡ d → (o : Option ℕ) → number_in numbers v.class v.name ≡ o → (n : ℕ) × (number_in numbers v.class v.name ≡ Some n)
      by None e o q = absurd (reads-none v y e h)
      by (Some d) e None q = absurd (all v d e q)
      by (Some d) e (Some n) q = (n, q)

  reads-arise : (v : Variable) (y : State) → Reads p v y → y.entry.is_defined ≡ false → (k : ℕ) → slice_get vs k ≡ Some v → Arises given links (start + k) (key_of p (as_written p y))
  reads-arise v y (r.directly _ _ h) plain k at =
      let x = key_of p (as_written p y) in
      a.itself (start + k) x
      (in-back (gathered_from (given_named p) 0 ms) (gathered_from (given_read p) start vs) (record { of = start + k; what = x })
      (in-gathered (given_read p) start vs k v (record { of = start + k; what = x }) at (in-given p (start + k) (definition_reads p v) y (contains-in (definition_reads p v) y h) plain)))
  reads-arise v y (r.through _ z _ h s) plain k at =
      let n = reader-number (variable_of z) y s in
      let t = at-number (variable_of z) n.0 n.1 in
      let link : Link = record { from = n.0; to = start + k } in
      let rest = reads-arise (variable_of z) y s plain t.0 t.2 in
      a.passed n.0 (start + k) (key_of p (as_written p y))
      (in-back (gathered_from (link_named p numbers) 0 ms) (gathered_from (link_read p numbers) start vs) link
      (in-gathered (link_read p numbers) start vs k v link at (in-links numbers true (start + k) n.0 (definition_reads p v) z (contains-in (definition_reads p v) z h) refl n.1)))
      (subst (λ (m : ℕ). Arises given links m (key_of p (as_written p y))) (sym t.1) rest)

  -- the place of a definition is behind those of all methods
  not-method : (k j : ℕ) (m : Callee) → start + k ≡ 0 + j → slice_get ms j ≡ Some m → ⊥
  not-method k j m e at = let lt : j < length ms = slice_get_within ms j m at in absurd (omega arith)

  same-variable : (k j : ℕ) (v u : Variable) → start + k ≡ start + j → slice_get vs j ≡ Some u → slice_get vs k ≡ Some v → u ≡ v
  same-variable k j v u e g h = let same : j ≡ k = omega arith in some-is u v (sym g ∙ ap (slice_get vs) same ∙ h)

  -- what a variable reads, by a key
  abbrev ReadBy : Variable → Key → Type 0
  ReadBy v x = (y : State) × (key_of p (as_written p y) ≡ x) × Reads p v y × (y.entry.is_defined ≡ false)

  arises-read : (n : ℕ) (x : Key) → Arises given links n x → (k : ℕ) (v : Variable) → n ≡ start + k → slice_get vs k ≡ Some v → ReadBy v x
  arises-read n x (a.itself _ _ h) k v e at = by (in-either (gathered_from (given_named p) 0 ms) (gathered_from (given_read p) start vs) (record { of = n; what = x }) h)
    where
      by : IsIn (gathered_from (given_named p) 0 ms) (record { of = n; what = x }) ⊎ IsIn (gathered_from (given_read p) start vs) (record { of = n; what = x }) → ReadBy v x
      by (inl q) =
          let g = gathered-of (given_named p) 0 ms (record { of = n; what = x }) q in
          let s = given-of p (0 + g.0) (named_in p g.1) (record { of = n; what = x }) g.3 in
          absurd (not-method k g.0 g.1 (sym e ∙ s.3) g.2)
      by (inr q) =
          let g = gathered-of (given_read p) start vs (record { of = n; what = x }) q in
          let s = given-of p (start + g.0) (definition_reads p g.1) (record { of = n; what = x }) g.3 in
          let same : g.1 ≡ v = same-variable k g.0 v g.1 (sym e ∙ s.3) g.2 at in
          (s.0, s.4, r.directly v s.0 (in-contains (definition_reads p v) s.0 (subst (λ (u : Variable). IsIn (definition_reads p u) s.0) same s.1)), s.2)
  arises-read n x (a.passed from _ _ h s) k v e at = by (in-either (gathered_from (link_named p numbers) 0 ms) (gathered_from (link_read p numbers) start vs) (record { from = from; to = n }) h) (arises-read from x s)
    where
      by : IsIn (gathered_from (link_named p numbers) 0 ms) (record { from = from; to = n }) ⊎ IsIn (gathered_from (link_read p numbers) start vs) (record { from = from; to = n }) → ((j : ℕ) (u : Variable) → from ≡ start + j → slice_get vs j ≡ Some u → ReadBy u x) → ReadBy v x
      by (inl q) rest =
          let g = gathered-of (link_named p numbers) 0 ms (record { from = from; to = n }) q in
          let l = links-of numbers false (0 + g.0) (named_in p g.1) (record { from = from; to = n }) g.3 in
          absurd (not-method k g.0 g.1 (sym e ∙ l.4) g.2)
      by (inr q) rest =
          let g = gathered-of (link_read p numbers) start vs (record { from = from; to = n }) q in
          let l = links-of numbers true (start + g.0) (definition_reads p g.1) (record { from = from; to = n }) g.3 in
          let same : g.1 ≡ v = same-variable k g.0 v g.1 (sym e ∙ l.4) g.2 at in
          let t = at-number (variable_of l.0) from l.3 in
          let f = rest t.0 (variable_of l.0) t.1 t.2 in
          (f.0, f.1, r.through v l.0 f.0 (in-contains (definition_reads p v) l.0 (subst (λ (u : Variable). IsIn (definition_reads p u) l.0) same l.1)) f.2, f.3)

  -- what a method names, by a key
  abbrev NamedBy : List State → Key → Type 0
  NamedBy ys x = (y : Written) × (key_of p y ≡ x) × Names p ys y

  -- a method's number is before those of definitions
  not-definition : (n j : ℕ) → n < length ms → n ≡ start + j → ⊥
  not-definition n j lt e = absurd (omega arith)

  same-method : (n j : ℕ) (m q : Callee) → n ≡ 0 + j → slice_get ms j ≡ Some q → slice_get ms n ≡ Some m → q ≡ m
  same-method n j m q e g h = let same : j ≡ n = omega arith in some-is q m (sym g ∙ ap (slice_get ms) same ∙ h)

  arises-named : (n : ℕ) (x : Key) → Arises given links n x → (m : Callee) → slice_get ms n ≡ Some m → NamedBy (named_in p m) x
  arises-named n x (a.itself _ _ h) m at = by (in-either (gathered_from (given_named p) 0 ms) (gathered_from (given_read p) start vs) (record { of = n; what = x }) h)
    where
      by : IsIn (gathered_from (given_named p) 0 ms) (record { of = n; what = x }) ⊎ IsIn (gathered_from (given_read p) start vs) (record { of = n; what = x }) → NamedBy (named_in p m) x
      by (inl q) =
          let g = gathered-of (given_named p) 0 ms (record { of = n; what = x }) q in
          let s = given-of p (0 + g.0) (named_in p g.1) (record { of = n; what = x }) g.3 in
          let same : g.1 ≡ m = same-method n g.0 m g.1 s.3 g.2 at in
          (as_written p s.0, s.4, w.plainly (named_in p m) s.0 (in-contains (named_in p m) s.0 (subst (λ (c : Callee). IsIn (named_in p c) s.0) same s.1)) s.2)
      by (inr q) =
          let g = gathered-of (given_read p) start vs (record { of = n; what = x }) q in
          let s = given-of p (start + g.0) (definition_reads p g.1) (record { of = n; what = x }) g.3 in
          absurd (not-definition n g.0 (slice_get_within ms n m at) s.3)
  arises-named n x (a.passed from _ _ h s) m at = by (in-either (gathered_from (link_named p numbers) 0 ms) (gathered_from (link_read p numbers) start vs) (record { from = from; to = n }) h)
    where
      by : IsIn (gathered_from (link_named p numbers) 0 ms) (record { from = from; to = n }) ⊎ IsIn (gathered_from (link_read p numbers) start vs) (record { from = from; to = n }) → NamedBy (named_in p m) x
      by (inl q) =
          let g = gathered-of (link_named p numbers) 0 ms (record { from = from; to = n }) q in
          let l = links-of numbers false (0 + g.0) (named_in p g.1) (record { from = from; to = n }) g.3 in
          let same : g.1 ≡ m = same-method n g.0 m g.1 l.4 g.2 at in
          let t = at-number (variable_of l.0) from l.3 in
          let f = arises-read from x s t.0 (variable_of l.0) t.1 t.2 in
          (as_written p f.0, f.1, w.through (named_in p m) l.0 f.0 (in-contains (named_in p m) l.0 (subst (λ (c : Callee). IsIn (named_in p c) l.0) same l.1)) l.2 f.2 f.3)
      by (inr q) =
          let g = gathered-of (link_read p numbers) start vs (record { from = from; to = n }) q in
          let l = links-of numbers true (start + g.0) (definition_reads p g.1) (record { from = from; to = n }) g.3 in
          absurd (not-definition n g.0 (slice_get_within ms n m at) l.4)

  names-arise : (m : Callee) (n : ℕ) → slice_get ms n ≡ Some m → (x : Written) → Names p (named_in p m) x → Arises given links n (key_of p x)
  names-arise m n at _ (w.plainly _ y h plain) =
      let x = key_of p (as_written p y) in
      let same : n ≡ 0 + n = omega arith in
      a.itself n x
      (in-front (gathered_from (given_named p) 0 ms) (gathered_from (given_read p) start vs) (record { of = n; what = x })
      (in-gathered (given_named p) 0 ms n m (record { of = n; what = x }) at
      (subst (λ (k : ℕ). IsIn (given_named p k m) (record { of = n; what = x })) same (in-given p n (named_in p m) y (contains-in (named_in p m) y h) plain))))
  names-arise m n at _ (w.through _ z y h defined s plain) =
      let x = key_of p (as_written p y) in
      let same : n ≡ 0 + n = omega arith in
      let k = reader-number (variable_of z) y s in
      let t = at-number (variable_of z) k.0 k.1 in
      let link : Link = record { from = k.0; to = n } in
      a.passed k.0 n x
      (in-front (gathered_from (link_named p numbers) 0 ms) (gathered_from (link_read p numbers) start vs) link
      (in-gathered (link_named p numbers) 0 ms n m link at
      (subst (λ (j : ℕ). IsIn (link_named p numbers j m) link) same (in-links numbers false n k.0 (named_in p m) z (contains-in (named_in p m) z h) defined k.1))))
      (subst (λ (j : ℕ). Arises given links j x) (sym t.1) (reads-arise (variable_of z) y s plain t.0 t.2))

  -- the row of a method has the places of what it names
  pub row-named : (m : Callee) (part : MethodPart) (n : ℕ) (list : List Written) (row : List ℕ) → part_of p m ≡ Some part → slice_get ms n ≡ Some m → ArePlaces (Arises given links n) (map (key_of p) list) row → ArePlaces (Names p (named_by p m.class part)) list row
  row-named m part n list row found at are = subst (λ (ys : List State). ArePlaces (Names p ys) list row) named (places-mapped (key_of p) (Arises given links n) (Names p (named_in p m)) list row same are)
    where
      named : named_in p m ≡ named_by p m.class part
      named = ap (λ o. option_map_or (λ (q : MethodPart). named_by p m.class q) o []) found

      back : (x : Written) → NamedBy (named_in p m) (key_of p x) → Names p (named_in p m) x
      back x f = subst (λ (z : Written). Names p (named_in p m) z) (key-once p f.0 x f.1) f.2

      same : (x : Written) → Arises given links n (key_of p x) ↔ Names p (named_in p m) x
      same x = (λ h. back x (arises-named n (key_of p x) h m at), λ h. names-arise m n at x h)

  -- each method's row has the places of what it names
  pub all-named : (methods : Numbers) (ls : List Listed) → ms ≡ callees ls → AreNumbered methods ls → AreAll p methods → (rows : List (List ℕ)) (list : List Written) → ((n : ℕ) → n < start → ArePlaces (Arises given links n) (map (key_of p) list) (passed_to rows n)) → (m : Callee) (part : MethodPart) → part_of p m ≡ Some part → ArePlaces (Names p (named_by p m.class part)) list (option_map_or (λ k. passed_to rows k) (number_in methods m.class m.name) [])
  all-named methods ls is numbered every rows list are m part found = by (number_in methods m.class m.name) refl
    where
      at-place : (n : ℕ) → number_in methods m.class m.name ≡ Some n → slice_get ms n ≡ Some m
      at-place n e = let t = numbered m.class m.name n e in ap (λ qs. slice_get qs n) is ∙ in-map callee_of ls t.0 n t.1 ∙ ap Some t.2

      by : (o : Option ℕ) → number_in methods m.class m.name ≡ o → ArePlaces (Names p (named_by p m.class part)) list (option_map_or (λ k. passed_to rows k) o [])
      by None e = absurd (none-some part (sym (every m.class m.name e) ∙ found))
      by (Some n) e =
          let at = at-place n e in
          let lt : n < length ms = slice_get_within ms n m at in
          row-named m part n list (passed_to rows n) found at (are n (omega arith))
