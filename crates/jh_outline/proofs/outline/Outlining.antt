-- An outline that lends what a draft of a program holds is an outline of the program.
use Rattle.std.proofs.Common.{◌≡◌, refl, sym, ap, subst, ◌∙◌, ◌↔◌, ℕ, zero, suc, ◌+◌, Bool, true, false, if◌then◌else◌, List, [], ◌∷◌, ◌++◌, map, length, Option, Some, None, slice_get}
use Rattle.std.specs.List.{Contains, flat_map}
use Rattle.std.specs.Option.{option_map_or, option_map}
use Rattle.std.proofs.lemmas.Bool.{true≢false}
use Rattle.std.proofs.lemmas.Option.{slice_get-map}
use Rattle.jh_ast.specs.Bare.{program_tree, method_part}
use Rattle.jh_ast.specs.Programs.{ProgramTree, MethodPart}
use Rattle.jh_arena.specs.table.Entries.{Listing}
use Rattle.jh_rules.specs.Names.{◌then◌}
use Rattle.jh_symbols.specs.member_numbers.Numbering.{number_in}
use Rattle.jh_containers.specs.transitive_closure.Spreads.{passed_to}
use Rattle.jh_vars.specs.Written.{Written, Callee, MayWrite, all_state, part_of, own_writes, own_calls}
use Rattle.jh_vars.specs.Written as v
use Rattle.jh_vars.specs.Statements.{method_statements}
use Rattle.jh_effects.specs.written_state.Arising.{ArePlaces, passes_at}
use Rattle.jh_effects.specs.written_state.Chosen.{places_below}
use Rattle.jh_effects.specs.written_state.Methods.{callee_of, places_in}
use Rattle.jh_effects.specs.declared.written_state.methods.Listed.{Listed}
use Rattle.jh_effects.specs.declared.written_state.places.MethodPlaces.{MethodPlaces}
use Rattle.jh_semantics.specs.Code.{Text}
use Rattle.jh_semantics.specs.Program.{Method, Program}
use Rattle.jh_semantics.specs.LoweredProgram.{program_of, method_code}
use Rattle.jh_logic.specs.jh_guard.Items.{items, sorted_item}
use Rattle.jh_semantics.specs.declared.typed_code.stmts.MethodCode.{MethodCode}
use Rattle.jh_semantics.specs.typed_code.Statements.{claim_in, method_in}
use Rattle.jh_state_facts.specs.declared.well_formedness.formed.StateFacts.{StateFacts}
use Rattle.jh_state_facts.specs.declared.well_formedness.state.Member.{Member}
use Rattle.jh_state_facts.specs.well_formedness.Facts.{AreFacts}
use Rattle.jh_state_facts.specs.well_formedness.Formed.{head_facts, tail_facts}
use Rattle.jh_state_facts.specs.well_formedness.States.{members_in}
use Rattle.jh_state_facts.specs.declared.changes.names.SortedName.{SortedName}
use Rattle.jh_state_facts.specs.changes.Added.{sorted_in}
use Rattle.jh_method_commands.specs.jh_command_statements.checks.Told.{AreFormulas}
use Rattle.jh_method_commands.specs.declared.environment.outline.Outline.{Outline}
use Rattle.jh_method_commands.specs.environment.Outlines.{IsOutline, source_of, number_of, method_of, program_in, writes_in, written_by, modified_by, framed_by}
use Rattle.jh_logic.specs.source.Laws.{IsAccepted}
use Rattle.jh_logic.proofs.source.Lists.{has-none, some-same}
use Rattle.jh_outline.specs.declared.outline.draft.Draft.{Draft}
use Rattle.jh_outline.specs.outline.Drafts.{IsDraft, Lends, AreWritten, AreModified, Outlines}
use Rattle.jh_outline.specs.outline.Framing.{is_framed}
use Rattle.jh_outline.specs.outline.Listing.{code_of, framed_for, places_of}
use Rattle.jh_outline.specs.outline.Rows.{NamesOf, AreRows}
use Rattle.jh_outline.proofs.outline.Telling.{are-exact, writes-stand, frames-stand}

-- nothing stands at no places
none-pass : {X : Type 0} (xs : List X) (n : ℕ) → places_below (passes_at (λ (x : X). false) xs) n ≡ []
unfolding places_below
none-pass xs zero = refl
none-pass {X = X} xs (suc n) = λ i. none-pass xs n i ++ (if by (slice_get xs n) i then n ∷ [] else [])
  where
    by : (o : Option X) → option_map_or (λ x. false) o false ≡ false
    by None = refl
    by (Some x) = refl

none-places : {X : Type 0} (holds : X → Type 0) (xs : List X) → ((x : X) → holds x → ⊥) → ArePlaces holds xs []
none-places holds xs h = record { test = λ x. false; exact = λ x. (λ e. absurd (true≢false (sym e)), λ k. absurd (h x k)); is = sym (none-pass xs (length xs)) }

none-framed : (n : ℕ) → places_below (λ k. false) n ≡ []
unfolding places_below
none-framed zero = refl
none-framed (suc n) = ap (λ l. l ++ []) (none-framed n)

-- what is not there writes nothing
none-writes : (p : ProgramTree) (m : Callee) → part_of p m ≡ None → (x : Written) → MayWrite p m x → ⊥
none-writes p m e x (v.directly _ _ h) = has-none x (subst (λ (ws : List Written). Contains ws x) (ap (λ o. option_map_or (λ (q : MethodPart). flat_map (v.writes_of p) (method_statements p m.class q)) o []) e) h)
none-writes p m e x (v.called _ n _ h s) = has-none n (subst (λ (cs : List Callee). Contains cs n) (ap (λ o. option_map_or (λ (q : MethodPart). flat_map (v.called_by p) (method_statements p m.class q)) o []) e) h)

row-at : {X : Type 0} (f : X → List ℕ) (xs : List X) (k : ℕ) (x : X) → slice_get xs k ≡ Some x → passed_to (map f xs) k ≡ f x
row-at f xs k x e = ap (λ o. option_map_or (λ r. r) o []) (slice_get-map f xs k ∙ ap (option_map f) e)

module _ (p : ProgramTree) (written modified : MethodPlaces) (l : Listing) (d : Draft) (draft : IsDraft p written modified l d) (o : Outline) (lends : Lends d o) (source : source_of o ≡ p) where
  list : List Listed
  list = draft.tabled.list

  -- a method has its number in the list
  record At (m : Callee) (k : ℕ) : Type 0 where
    listed : Listed
    stands : slice_get draft.tabled.list k ≡ Some listed
    is : callee_of listed ≡ m
    part : part_of p m ≡ Some (method_part listed.method.now)

  at-number : (m : Callee) (k : ℕ) → number_of o m ≡ Some k → At m k
  at-number m k e =
      let t = draft.tabled.numbered m.class m.name k (sym (ap (λ ns. number_in ns m.class m.name) lends.numbers) ∙ e) in
      record { listed = t.0; stands = t.1; is = t.2; part = ap (part_of p) (sym t.2) ∙ draft.tabled.methods k t.0 t.1 }

  no-number : (m : Callee) → number_of o m ≡ None → part_of p m ≡ None
  no-number m e = draft.tabled.all m.class m.name (sym (ap (λ ns. number_in ns m.class m.name) lends.numbers) ∙ e)

  -- the code of each method
  methods-are : (m : Callee) → option_map (method_in (source_of o)) (method_of o m) ≡ (program_of p).method m
  methods-are m = by (number_of o m) refl
    where
      by : (r : Option ℕ) → number_of o m ≡ r → option_map (method_in (source_of o)) (method_of o m) ≡ (program_of p).method m
      by None e =
          ap (λ q. option_map (method_in (source_of o)) (q then λ k. slice_get o.methods.now k)) e
          ∙ sym (ap (option_map (method_code p m.class)) (no-number m e))
      by (Some k) e =
          let at = at-number m k e in
          ap (λ q. option_map (method_in (source_of o)) (q then λ j. slice_get o.methods.now j)) e
          ∙ (λ i. option_map (method_in (source i)) (slice_get (lends.methods i) k))
          ∙ sym (slice_get-map (method_in p) d.tabled.methods.items k)
          ∙ ap (λ xs. slice_get xs k) draft.tabled.codes
          ∙ slice_get-map (code_of p) draft.tabled.list k
          ∙ ap (option_map (code_of p)) at.stands
          ∙ ap (λ (n : ℕ). Some (method_code p n (method_part at.listed.method.now))) (ap (λ (c : Callee). c.class) at.is)
          ∙ sym (ap (option_map (method_code p m.class)) at.part)

  pub program-is : program_in o ≡ program_of p
  unfolding program_in
  program-is = λ i. record {
    classes = (lends.classes ∙ draft.declared.classes) i;
    members = ((λ j. members_in ((lends.classes ∙ draft.declared.classes) j) (lends.members j)) ∙ draft.declared.members) i;
    method = λ m. methods-are m i;
    invariants = ((λ j. map (claim_in (source j)) (lends.invariants j)) ∙ draft.declared.invariants) i;
  }

  module _ (writes : AreWritten p written) (names : AreModified p modified) where
    rows-are : (m : Callee) → AreRows p o m
    rows-are m = by (number_of o m) refl
      where
        row : (rows : List (List ℕ)) (r : Option ℕ) → number_of o m ≡ r → option_map_or (λ k. passed_to rows k) (number_of o m) [] ≡ option_map_or (λ k. passed_to rows k) r []
        row rows r e = ap (λ q. option_map_or (λ k. passed_to rows k) q []) e

        by : (r : Option ℕ) → number_of o m ≡ r → AreRows p o m
        by None e =
            let none = no-number m e in
            let w : written_by o m ≡ [] = row o.written.now None e in
            let n : modified_by o m ≡ [] = row o.modified.now None e in
            record {
              written = subst (ArePlaces (MayWrite p m) (all_state p)) (sym w) (none-places (MayWrite p m) (all_state p) (none-writes p m none));
              modified = subst (ArePlaces (NamesOf p m (part_of p m)) (all_state p)) (sym n) (none-places (NamesOf p m (part_of p m)) (all_state p) (λ x h. subst (λ q. NamesOf p m q x) none h));
              framed =
                  row o.framed.now None e
                  ∙ sym (none-framed (length o.members.now))
                  ∙ (λ i. places_below (is_framed (sym w i) (sym n i) (length o.classes.now + 2)) (length o.members.now));
            }
        by (Some k) e =
            let at = at-number m k e in
            let w : written_by o m ≡ places_in written m =
            row o.written.now (Some k) e ∙ ap (λ rs. passed_to rs k) (lends.written ∙ draft.tabled.writes) ∙ row-at (places_of written) draft.tabled.list k at.listed at.stands ∙ ap (places_in written) at.is in
            let n : modified_by o m ≡ places_in modified m =
            row o.modified.now (Some k) e ∙ ap (λ rs. passed_to rs k) (lends.modified ∙ draft.tabled.names) ∙ row-at (places_of modified) draft.tabled.list k at.listed at.stands ∙ ap (places_in modified) at.is in
            let part : MethodPart = method_part at.listed.method.now in
            record {
              written = subst (ArePlaces (MayWrite p m) (all_state p)) (sym w) (writes m);
              modified = subst (ArePlaces (NamesOf p m (part_of p m)) (all_state p)) (sym n) (subst (λ q. ArePlaces (NamesOf p m q) (all_state p) (places_in modified m)) (sym at.part) (names m part at.part));
              framed =
                  row o.framed.now (Some k) e
                  ∙ ap (λ rs. passed_to rs k) (lends.framed ∙ draft.tabled.frames)
                  ∙ row-at (framed_for written modified (length d.declared.classes.items + 2) (length d.declared.members.items)) draft.tabled.list k at.listed at.stands
                  ∙ (λ i. places_below (is_framed ((ap (places_in written) at.is ∙ sym w) i) ((ap (places_in modified) at.is ∙ sym n) i) (length (sym lends.classes i) + 2)) (length (sym lends.members i)));
            }

    pub outlined : IsAccepted p → sorted_in o.state.now ≡ map sorted_item (items (program_of p)) → AreFormulas p l o.formulas.now → Outlines p l o
    outlined ok state formulas = record {
      outline = record {
        head = subst (λ (f : StateFacts). AreFacts l f.head (head_facts o.classes.now (members_in o.classes.now o.members.now))) (sym lends.facts)
            (subst (λ (cs : List Text). AreFacts l d.facts.head (head_facts cs (members_in cs o.members.now))) (sym lends.classes)
            (subst (λ (ms : List Member). AreFacts l d.facts.head (head_facts d.declared.classes.items (members_in d.declared.classes.items ms))) (sym lends.members) draft.facts.head));
        tail = subst (λ (f : StateFacts). AreFacts l f.tail (tail_facts o.classes.now (members_in o.classes.now o.members.now))) (sym lends.facts)
            (subst (λ (cs : List Text). AreFacts l d.facts.tail (tail_facts cs (members_in cs o.members.now))) (sym lends.classes)
            (subst (λ (ms : List Member). AreFacts l d.facts.tail (tail_facts d.declared.classes.items (members_in d.declared.classes.items ms))) (sym lends.members) draft.facts.tail));
        formulas = subst (λ q. AreFormulas q l o.formulas.now) (sym source) formulas;
        names = state ∙ ap (λ q. map sorted_item (items q)) (sym program-is);
        writes = writes-stand p ok o program-is state rows-are;
        frames = frames-stand p ok o program-is state rows-are;
      };
      program = program-is;
      exact = are-exact p ok o program-is state rows-are;
    }

-- what a draft lends, with the names of all state and the formulas of a source, is an outline of it
pub draft-outlines : (p : ProgramTree) (written modified : MethodPlaces) (l : Listing) (d : Draft) (o : Outline) (state : List SortedName) (formulas : List (Option ℕ)) →
    IsDraft p written modified l d → Lends d o → source_of o ≡ p → o.state.now ≡ state → o.formulas.now ≡ formulas →
    ((q : Program) → q.classes ≡ d.declared.classes.items → q.members ≡ members_in d.declared.classes.items d.declared.members.items → sorted_in state ≡ map sorted_item (items q)) →
    AreWritten p written → AreModified p modified → IsAccepted p → AreFormulas p l formulas → Outlines p l o
draft-outlines p written modified l d o state formulas draft lends source names nodes told writes names_all ok are =
    outlined p written modified l d draft o lends source writes names_all ok
    (ap sorted_in names ∙ told (program_of p) (sym draft.declared.classes) (sym (ap (λ n. members_in n d.declared.members.items) draft.declared.classes ∙ draft.declared.members)))
    (subst (λ (ns : List (Option ℕ)). AreFormulas p l ns) (sym nodes) are)
