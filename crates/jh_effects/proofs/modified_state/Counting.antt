-- Definitions that get their numbers one after another.
use Rattle.std.proofs.Common.{◌≡◌, sym, ap, ◌∙◌, ◌⊎◌, inl, inr, ℕ, ◌+◌, ◌<◌, List, slice_get, Some, None}
use Rattle.jh_ast.specs.Programs.{ProgramTree, DefPart}
use Rattle.jh_symbols.specs.declared.member_numbers.numbers.Numbers.{Numbers}
use Rattle.jh_symbols.specs.member_numbers.Numbering.{number_in}
use Rattle.jh_definitions.specs.declared.expansion.opening.Definition.{Definition}
use Rattle.jh_definitions.specs.expansion.Opening.{defined_by}
use Rattle.jh_rules.specs.Names.{def_of}
use Rattle.jh_rules.specs.Words.{text_of}
use Rattle.jh_containers.proofs.transitive_closure.Places.{before-or-at}
use Rattle.jh_effects.proofs.written_state.Gathering.{some-is, none-some}
use Rattle.jh_vars.specs.States.{Variable}
use Rattle.jh_effects.specs.modified_state.Modifying.{AreCounted, AreAllCounted}

-- each of those before a place has a number
abbrev pub AreBelow : Numbers → List Definition → ℕ → Type 0
AreBelow numbers ds n = (k : ℕ) (d : Definition) → k < n → slice_get ds k ≡ Some d → number_in numbers d.class (text_of d.word.now) ≡ None → ⊥

module _ (start : ℕ) (old new : Numbers) (ds : List Definition) (n number : ℕ) (d : Definition) (at : slice_get ds n ≡ Some d) (place : number ≡ start + n) (noted : number_in new d.class (text_of d.word.now) ≡ Some number) (others : (c : ℕ) (x : List ℕ) → ((c ≡ d.class) × (x ≡ text_of d.word.now)) ⊎ (number_in new c x ≡ number_in old c x)) where
  pub counted-next : AreCounted start old ds → AreCounted start new ds
  counted-next counted c x m q = by (others c x)
    where
      by : ((c ≡ d.class) × (x ≡ text_of d.word.now)) ⊎ (number_in new c x ≡ number_in old c x) → (k : ℕ) × (e : Definition) × (m ≡ start + k) × (slice_get ds k ≡ Some e) × (defined_by e ≡ record { class = c; name = x })
      by (inl s) =
          let same : number ≡ m = some-is number m (sym noted ∙ (λ i. number_in new (sym s.0 i) (sym s.1 i)) ∙ q) in
          (n, d, sym same ∙ place, at, λ i. record { class = sym s.0 i; name = sym s.1 i })
      by (inr s) = counted c x m (sym s ∙ q)

  pub below-next : AreBelow old ds n → AreBelow new ds (n + 1)
  below-next below k e lt q none = by (before-or-at k n lt) (others e.class (text_of e.word.now))
    where
      noted-here : e.class ≡ d.class → text_of e.word.now ≡ text_of d.word.now → ⊥
      noted-here c x = none-some number (sym none ∙ (λ i. number_in new (c i) (x i)) ∙ noted)

      by : (k < n) ⊎ (k ≡ n) → ((e.class ≡ d.class) × (text_of e.word.now ≡ text_of d.word.now)) ⊎ (number_in new e.class (text_of e.word.now) ≡ number_in old e.class (text_of e.word.now)) → ⊥
      by _ (inl s) = noted-here s.0 s.1
      by (inl l) (inr s) = below k e l q (sym s ∙ none)
      by (inr l) (inr s) = let same : e ≡ d = some-is e d (sym q ∙ ap (slice_get ds) l ∙ at) in noted-here (ap (λ (f : Definition). f.class) same) (ap (λ (f : Definition). text_of f.word.now) same)

-- each variable that has a definition has a number
pub defined-number : (p : ProgramTree) (numbers : Numbers) (ds : List Definition) → ((v : Variable) (d : DefPart) → def_of p v.class v.name ≡ Some d → (k : ℕ) × (e : Definition) × (slice_get ds k ≡ Some e) × (defined_by e ≡ v)) → AreAllCounted numbers ds →
    (v : Variable) (d : DefPart) → def_of p v.class v.name ≡ Some d → number_in numbers v.class v.name ≡ None → ⊥
defined-number p numbers ds all counted v d e none = let w = all v d e in counted w.0 w.1 w.2 ((λ i. number_in numbers (w.3 i).class (w.3 i).name) ∙ none)
