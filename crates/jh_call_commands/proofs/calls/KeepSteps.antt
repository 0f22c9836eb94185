-- Arguments go into fresh names, one after another.
use Rattle.std.proofs.Common.{◌≡◌, refl, sym, ap, ◌∙◌, subst, ℕ, zero, suc, ◌+◌, ◌≤◌, arith, add-one, List, [], ◌∷◌, map, drop, length, Some, slice_get}
use Rattle.std.proofs.lemmas.List.{drop_all}
use Rattle.jh_form.specs.Tree.{ValueTree}
use Rattle.jh_arena.specs.table.Entries.{Listing}
use Rattle.jh_arena.specs.table.Nodes.{nodes}
use Rattle.jh_arena.proofs.table.Listed.{extends-refl}
use Rattle.jh_wp.specs.Command.{CommandTree}
use Rattle.jh_wp.specs.Command as w
use Rattle.jh_command_terms.specs.declared.command.command.Command.{Command}
use Rattle.jh_semantics.specs.Code as code
use Rattle.jh_guard.specs.Terms.{value_term}
use Rattle.jh_guard.specs.Steps.{fresh}
use Rattle.jh_guard.specs.Calls.{keep_args}
use Rattle.jh_semantics.specs.declared.typed_code.stmts.Local.{Local}
use Rattle.jh_semantics.specs.typed_code.Statements.{local_in}
use Rattle.jh_state_facts.specs.changes.Added.{AddsCommands}
use Rattle.jh_state_facts.proofs.changes.AddedSteps.{adds-none, adds-two}
use Rattle.jh_call_commands.specs.calls.Called.{AreValues}

-- values go into fresh names
abbrev pub keep_values : List code.Local → List ValueTree → ℕ → List CommandTree
keep_values [] vs k = []
keep_values (x ∷ xs) [] k = []
keep_values (x ∷ xs) (v ∷ vs) k = w.assign (fresh x.text k) v ∷ keep_values xs vs (suc k)

pub keep-is : (xs : List code.Local) (es : List code.AnyCode) (k : ℕ) → keep_values xs (map value_term es) k ≡ keep_args xs es k
keep-is [] [] k = refl
keep-is [] (e ∷ es) k = refl
keep-is (x ∷ xs) [] k = refl
keep-is (x ∷ xs) (e ∷ es) k = ap (λ cs. w.assign (fresh x.text k) (value_term e) ∷ cs) (keep-is xs es (suc k))

-- the value of a node of the list
record ValueAt (t : Listing) (n i : ℕ) (vs : List ValueTree) : Type 0 where
  value : ValueTree
  at : slice_get vs i ≡ Some value
  is : slice_get (nodes t) n ≡ Some value

value-of : (t : Listing) (ns : List ℕ) (vs : List ValueTree) (n i : ℕ) → AreValues t ns vs → slice_get ns i ≡ Some n → ValueAt t n i vs
unfolding AreValues
value-of t [] vs n i h e = absurd (cc)
value-of t (m ∷ ns) [] n i h e = absurd h
value-of t (m ∷ ns) (v ∷ vs) n zero h e = let same : m ≡ n = cc in record { value = v; at = refl; is = ap (λ k. slice_get (nodes t) k) (sym same) ∙ h.0 }
value-of t (m ∷ ns) (v ∷ vs) n (suc i) h e = let rest = value-of t ns vs n i h.1 e in record { value = rest.value; at = rest.at; is = rest.is }

drop-suc : {X : Type 0} (xs : List X) (x : X) (i : ℕ) → slice_get xs i ≡ Some x → drop i xs ≡ x ∷ drop (suc i) xs
drop-suc [] x i h = absurd (cc)
drop-suc (y ∷ ys) x zero h = let same : y ≡ x = cc in ap (λ z. z ∷ ys) same
drop-suc (y ∷ ys) x (suc i) h = drop-suc ys x i h

drop-there : {X : Type 0} (xs : List X) (x : X) (i : ℕ) → slice_get xs i ≡ Some x → drop i xs ≡ x ∷ drop (i + 1) xs
drop-there xs x i h = drop-suc xs x i h ∙ ap (λ k. x ∷ drop k xs) (sym (add-one i))

module _ (t : Listing) (params : List Local) (args : List ℕ) where
  -- one argument, before those that are left
  pub keep-more : (old mid new : List Command) (x : Local) (n i k next : ℕ) (vs : List ValueTree) → slice_get params i ≡ Some x → slice_get args i ≡ Some n → next ≡ suc k → AreValues t args vs →
      ((v : ValueTree) → slice_get (nodes t) n ≡ Some v → AddsCommands t old mid (w.assign (fresh x.name.text k) v ∷ [])) →
      AddsCommands t mid new (keep_values (map local_in (drop (i + 1) params)) (drop (i + 1) vs) next) →
      AddsCommands t old new (keep_values (map local_in (drop i params)) (drop i vs) k)
  keep-more old mid new x n i k next vs e f s are one rest =
      let told = value-of t args vs n i are f in
      subst (λ (fs : List CommandTree). AddsCommands t old new fs)
      (sym ((λ j. keep_values (map local_in (drop-there params x i e j)) (drop-there vs told.value i told.at j) k)))
      (adds-two t t old mid new (w.assign (fresh x.name.text k) told.value ∷ []) (keep_values (map local_in (drop (i + 1) params)) (drop (i + 1) vs) (suc k)) (one told.value told.is) (extends-refl t)
      (subst (λ (j : ℕ). AddsCommands t mid new (keep_values (map local_in (drop (i + 1) params)) (drop (i + 1) vs) j)) s rest))

  no-more : (xs : List code.Local) (k : ℕ) → keep_values xs [] k ≡ []
  no-more [] k = refl
  no-more (x ∷ xs) k = refl

  -- no argument is left, or no parameter
  values-count : (ns : List ℕ) (vs : List ValueTree) → AreValues t ns vs → length vs ≤ length ns
  unfolding AreValues
  values-count [] [] h = omega arith
  values-count [] (v ∷ vs) h = absurd h
  values-count (n ∷ ns) [] h = omega arith
  values-count (n ∷ ns) (v ∷ vs) h = let rest = values-count ns vs h.1 in omega (arith, rest)

  pub keep-end : (cs : List Command) (i k : ℕ) (vs : List ValueTree) → length args ≤ i → AreValues t args vs → AddsCommands t cs cs (keep_values (map local_in (drop i params)) (drop i vs) k)
  keep-end cs i k vs le are =
      let count = values-count args vs are in
      subst (λ (fs : List CommandTree). AddsCommands t cs cs fs)
      (sym (ap (λ us. keep_values (map local_in (drop i params)) us k) (drop_all i vs (omega (arith, le, count))) ∙ no-more (map local_in (drop i params)) k))
      (adds-none t cs)

  pub keep-stop : (cs : List Command) (i k : ℕ) (vs : List ValueTree) → length params ≤ i → AddsCommands t cs cs (keep_values (map local_in (drop i params)) (drop i vs) k)
  keep-stop cs i k vs le =
      subst (λ (fs : List CommandTree). AddsCommands t cs cs fs) (sym (ap (λ ps. keep_values (map local_in ps) (drop i vs) k) (drop_all i params le))) (adds-none t cs)
