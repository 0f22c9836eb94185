-- What is asked of a sequent, while the table grows, and what is kept of it.
use Rattle.std.proofs.Common.{◌≡◌, refl, sym, ap, subst, ◌∙◌, ℕ, ◌+◌, ◌==◌, Bool, true, false, ◌&&◌, ◌||◌, if◌then◌else◌, List, [], ◌∷◌, ◌++◌, not, append-nil, map, ◌<◌, length, take, slice_get, Option, Some, None}
use Rattle.std.specs.Prelude.{filter}
use Rattle.std.proofs.lemmas.Option.{slice_get_within}
use Rattle.std.proofs.lemmas.List.{map-append}
use Rattle.std.proofs.lemmas.List.Elements.{filter-append}
use Rattle.jh_form.specs.declared.mark.Mark.{Mark}
use Rattle.jh_form.specs.Tree.{FormulaTree, ValueTree, of_truth}
use Rattle.jh_arena.specs.table.Entries.{Listing, the_truth}
use Rattle.jh_arena.specs.table.Growth.{Grows, Extends}
use Rattle.jh_arena.specs.table.Nodes.{nodes}
use Rattle.jh_seq.specs.sequent.Sequents.{HypTree, SequentTree}
use Rattle.jh_splitting.specs.declared.sequent.NodeHyp.{NodeHyp}
use Rattle.jh_splitting.specs.Pairs.{ArePaired}
use Rattle.jh_splitting.specs.Standing.{IsLabel, name_under}
use Rattle.jh_seq.specs.splitting.Split.{mark_of}
use Rattle.jh_approx.specs.definition.Shown.{shown}
use Rattle.jh_approx.specs.definition.Links.{reads_within, is_linked, is_nameless, named_in, is_kept}
use Rattle.jh_approx.specs.definition.Regions.{kept_facts}
use Rattle.jh_query_names.specs.declared.mentioned_names.memo.Note.{Note}
use Rattle.jh_query_names.specs.mentioned_names.Notes.{IsNote, IsNoted}
use Rattle.jh_query_names.proofs.mentioned_names.Growing.{truth-there, truth-is, noted-grows}
use Rattle.jh_query_names.proofs.mentioned_names.Listings.{head-same, rest-same, trees-inside}
use Rattle.jh_abstraction.specs.choice_of_hypotheses.Asking.{AreNodes, AreTruths, AddsSaid, HasName, HasFact, IsStated, IsAsked}
use Rattle.jh_abstraction.specs.choice_of_hypotheses.Choosing.{HasNote, HaveNotes, IsOver, AreRowsInside, is_near, said_of}
use Rattle.jh_abstraction.proofs.choice_of_hypotheses.Lists.{one-there, take-next, paired-grows, paired-at}

nothing-some : {X : Type 0} (x : X) (xs : List X) → [] ≡ x ∷ xs → ⊥
nothing-some x xs e = cc

formula-same : (a b : FormulaTree) → Some (of_truth a) ≡ Some (of_truth b) → a ≡ b
formula-same a b e = cc

-- ---- labels

pub none-from : (t : Listing) (mark : Option Mark) → IsLabel t None mark → [] ≡ (mark_of mark).from
none-from t None h = refl
none-from t (Some m) h = absurd h

pub none-name : (t : Listing) (mark : Option Mark) → IsLabel t None mark → None ≡ name_under mark
none-name t None h = refl
none-name t (Some m) h = absurd h

mark-same : (m k : Mark) → Some m ≡ Some k → m ≡ k
mark-same m k e = cc

pub some-inside : (t : Listing) (n : ℕ) (mark : Option Mark) → IsLabel t (Some n) mark → n < length t.pools.marks
some-inside t n None h = absurd h
some-inside t n (Some m) h = slice_get_within t.pools.marks n m h

pub some-from : (t : Listing) (n : ℕ) (m : Mark) (mark : Option Mark) → slice_get t.pools.marks n ≡ Some m → IsLabel t (Some n) mark → m.from ≡ (mark_of mark).from
some-from t n m None at h = absurd h
some-from t n m (Some k) at h = ap (λ (l : Mark). l.from) (mark-same m k (sym at ∙ h))

pub some-name : (t : Listing) (n : ℕ) (m : Mark) (mark : Option Mark) → slice_get t.pools.marks n ≡ Some m → IsLabel t (Some n) mark → m.name ≡ name_under mark
some-name t n m None at h = absurd h
some-name t n m (Some k) at h = ap (λ (l : Mark). l.name) (mark-same m k (sym at ∙ h))

turned : (b : Bool) → true ≡ not b → b ≡ false
turned true h = h
turned false h = refl

still : (b : Bool) → false ≡ not b → b ≡ true
still true h = refl
still false h = h

-- whether a label names facts
pub names-some : (s : SequentTree) (mark : Option Mark) (b : Bool) → b ≡ not (length (mark_of mark).from == 0) → s.mark ≡ mark_of mark → b ≡ true → (length s.mark.from == 0) ≡ false
names-some s mark b e is holds = ap (λ (m : Mark). length m.from == 0) is ∙ turned (length (mark_of mark).from == 0) (sym holds ∙ e)

pub names-none : (s : SequentTree) (mark : Option Mark) (b : Bool) → b ≡ not (length (mark_of mark).from == 0) → s.mark ≡ mark_of mark → b ≡ false → (length s.mark.from == 0) ≡ true
names-none s mark b e is fails = ap (λ (m : Mark). length m.from == 0) is ∙ still (length (mark_of mark).from == 0) (sym fails ∙ e)

-- ---- while the table grows

pub nodes-grow : (ts us : List ValueTree) → Grows ts us → (ns : List ℕ) (fs : List FormulaTree) → AreNodes ts ns fs → AreNodes us ns fs
nodes-grow ts us g [] [] h = refl
nodes-grow ts us g [] (a ∷ fs) h = absurd (nothing-some (Some (of_truth a)) (map (λ b. Some (of_truth b)) fs) h)
nodes-grow ts us g (n ∷ ns) [] h = absurd (nothing-some (slice_get ts n) (map (slice_get ts) ns) (sym h))
nodes-grow ts us g (n ∷ ns) (a ∷ fs) h = λ i.
    g.keeps n (of_truth a) (head-same (slice_get ts n) (Some (of_truth a)) (map (slice_get ts) ns) (map (λ b. Some (of_truth b)) fs) h) i
    ∷ nodes-grow ts us g ns fs (rest-same (slice_get ts n) (Some (of_truth a)) (map (slice_get ts) ns) (map (λ b. Some (of_truth b)) fs) h) i

pub label-grows : (t u : Listing) → Extends t u → (label : Option ℕ) (mark : Option Mark) → IsLabel t label mark → IsLabel u label mark
label-grows t u g None None h = h
label-grows t u g None (Some m) h = h
label-grows t u g (Some n) None h = h
label-grows t u g (Some n) (Some m) h = g.marks.keeps n m h

name-grows : (t u : Listing) → Extends t u → (x : NodeHyp) (h : HypTree) → HasName t x h → HasName u x h
name-grows t u g x h k = record { mark = k.mark; is_label = label-grows t u g x.mark k.mark k.is_label; is = k.is }

pub stated-grows : (ts us : List ValueTree) → Grows ts us → (facts : List ℕ) (goal : ℕ) (s : SequentTree) → IsStated ts facts goal s → IsStated us facts goal s
stated-grows ts us g facts goal s h = record {
  said = paired-grows (HasFact ts) (HasFact us) (λ n a k. g.keeps n (of_truth a.fact) k) facts s.hyps h.said;
  wanted = g.keeps goal (of_truth s.goal) h.wanted;
}

pub asked-grows : (t u : Listing) → Extends t u → (hyps : List NodeHyp) (label : Option ℕ) (facts : List ℕ) (goal : ℕ) (s : SequentTree) → IsAsked t hyps label facts goal s → IsAsked u hyps label facts goal s
asked-grows t u g hyps label facts goal s h = record {
  stated = stated-grows (nodes t) (nodes u) g.nodes facts goal s h.stated;
  called = paired-grows (HasName t) (HasName u) (name-grows t u g) hyps s.hyps h.called;
  mark = h.mark;
  is_label = label-grows t u g label h.mark h.is_label;
  under = h.under;
}

pub stated-truths : (ts : List ValueTree) (facts : List ℕ) (goal : ℕ) (s : SequentTree) → IsStated ts facts goal s → AreTruths ts facts
stated-truths ts facts goal s h i n at = let there = paired-at (HasFact ts) facts s.hyps i n h.said at in truth-there ts n there.0.fact there.2

-- ---- notes of hypotheses

note-of : (ts us : List ValueTree) → Grows ts us → (notes : List Note) (fact place : ℕ) (a : FormulaTree) → IsNoted us notes fact place → slice_get ts fact ≡ Some (of_truth a) → HasNote us notes place a
note-of ts us g notes fact place a h at = record {
  note = h.note;
  at = h.at;
  is = subst (λ (b : FormulaTree). IsNote us b h.note) (formula-same h.is.formula a (sym h.is.there ∙ g.keeps fact (of_truth a) at)) h.is.is;
}

pub hyps-noted : (ts us : List ValueTree) → Grows ts us → (notes : List Note) (facts places : List ℕ) (hs : List HypTree) → ArePaired (IsNoted us notes) facts places → ArePaired (HasFact ts) facts hs → HaveNotes us notes places hs
hyps-noted ts us g notes [] [] [] h k = tt
hyps-noted ts us g notes [] (p ∷ places) hs h k = absurd h
hyps-noted ts us g notes [] [] (a ∷ hs) h k = absurd k
hyps-noted ts us g notes (n ∷ facts) [] hs h k = absurd h
hyps-noted ts us g notes (n ∷ facts) (p ∷ places) [] h k = absurd k
hyps-noted ts us g notes (n ∷ facts) (p ∷ places) (a ∷ hs) h k = (note-of ts us g notes n p a.fact h.0 k.0, hyps-noted ts us g notes facts places hs h.1 k.1)

pub rows-inside : (ts : List ValueTree) (notes : List Note) (places : List ℕ) (hs : List HypTree) → HaveNotes ts notes places hs → AreRowsInside ts notes places
rows-inside ts notes places hs h i place at =
    let there = paired-at (λ p (a : HypTree). HasNote ts notes p a.fact) places hs i place h at in
    (there.2.note, there.2.at, trees-inside ts there.2.note.names _ there.2.is.called)

-- what a sequent is over the notes of its facts
pub over-of : (ts us vs : List ValueTree) → Grows ts us → Grows us vs → (facts places : List ℕ) (notes : List Note) (goal said : ℕ) (s : SequentTree) → IsStated ts facts goal s → ArePaired (IsNoted us notes) facts places →
    slice_get vs said ≡ Some (of_truth (shown (the_truth (slice_get us goal)) true)) → (xs : List Note) (ps : List ℕ) → xs ≡ notes → ps ≡ places → IsOver vs xs ps goal said s
over-of ts us vs g h facts places notes goal said s stated noted there xs ps e f =
    let at : slice_get us goal ≡ Some (of_truth s.goal) = g.keeps goal (of_truth s.goal) stated.wanted in
    let all : HaveNotes vs notes places s.hyps =
    hyps-noted us vs h notes facts places s.hyps
    (paired-grows (IsNoted us notes) (IsNoted vs notes) (noted-grows us vs h notes notes (record { keeps = λ n v k. k })) facts places noted)
    (stated-grows ts us g facts goal s stated).said in
    record {
      noted = subst (λ (zs : List Note). HaveNotes vs zs ps s.hyps) (sym e) (subst (λ (qs : List ℕ). HaveNotes vs notes qs s.hyps) (sym f) all);
      wanted = h.keeps goal (of_truth s.goal) at;
      told = there ∙ ap (λ a. Some (of_truth (shown a true))) (truth-is us goal s.goal at);
    }

-- ---- what is kept

pub kept-named : (s : SequentTree) → (length s.mark.from == 0) ≡ false → kept_facts s ≡ said_of (λ h. named_in s.mark.from h.name) s.hyps
unfolding kept_facts is_kept
kept-named s e = λ i. map (λ (h : HypTree). shown h.fact false) (filter (λ (h : HypTree). if e i then reads_within s.goal h.fact && (is_linked s h.fact || is_nameless h.fact) else named_in s.mark.from h.name) s.hyps)

pub kept-near : (s : SequentTree) → (length s.mark.from == 0) ≡ true → kept_facts s ≡ said_of (λ h. is_near s.goal (is_linked s) h.fact) s.hyps
unfolding kept_facts is_kept
kept-near s e = λ i. map (λ (h : HypTree). shown h.fact false) (filter (λ (h : HypTree). if e i then reads_within s.goal h.fact && (is_linked s h.fact || is_nameless h.fact) else named_in s.mark.from h.name) s.hyps)

module _ (ts : List ValueTree) (test : HypTree → Bool) where
  pub said-none : (made : List ℕ) → made ≡ [] → AreNodes ts made (said_of test [])
  said-none made e = ap (map (slice_get ts)) e

  one-more : (hs : List HypTree) (h : HypTree) → said_of test (hs ++ h ∷ []) ≡ said_of test hs ++ (if test h then shown h.fact false ∷ [] else [])
  one-more hs h = ap (map (λ a. shown a.fact false)) (filter-append test hs (h ∷ [])) ∙ map-append (λ (a : HypTree). shown a.fact false) (filter test hs) (filter test (h ∷ [])) ∙ ap (λ fs. said_of test hs ++ fs) (chosen (test h))
    where
      chosen : (b : Bool) → map (λ (a : HypTree). shown a.fact false) (if b then h ∷ [] else []) ≡ (if b then shown h.fact false ∷ [] else [])
      chosen true = refl
      chosen false = refl

  said-next : (hs : List HypTree) (i : ℕ) (h : HypTree) → slice_get hs i ≡ Some h → said_of test (take (i + 1) hs) ≡ said_of test (take i hs) ++ (if test h then shown h.fact false ∷ [] else [])
  said-next hs i h at = ap (said_of test) (take-next hs i h at) ∙ one-more (take i hs) h

  -- a hypothesis that passes is kept
  pub said-passing : (hs : List HypTree) (i : ℕ) (h : HypTree) (made more : List ℕ) (n : ℕ) → slice_get hs i ≡ Some h → AreNodes ts made (said_of test (take i hs)) → test h ≡ true → more ≡ made ++ n ∷ [] → slice_get ts n ≡ Some (of_truth (shown h.fact false)) →
      AreNodes ts more (said_of test (take (i + 1) hs))
  said-passing hs i h made more n at are holds e there =
      ap (map (slice_get ts)) e ∙ map-append (slice_get ts) made (n ∷ []) ∙ (λ j. are j ++ there j ∷ [])
      ∙ sym (map-append (λ a. Some (of_truth a)) (said_of test (take i hs)) (shown h.fact false ∷ []))
      ∙ ap (map (λ a. Some (of_truth a))) (sym (said-next hs i h at ∙ ap (λ b. said_of test (take i hs) ++ (if b then shown h.fact false ∷ [] else [])) holds))

  -- one that doesn't isn't
  pub said-failing : (hs : List HypTree) (i : ℕ) (h : HypTree) (made : List ℕ) → slice_get hs i ≡ Some h → AreNodes ts made (said_of test (take i hs)) → test h ≡ false → AreNodes ts made (said_of test (take (i + 1) hs))
  said-failing hs i h made at are fails =
      are ∙ ap (map (λ a. Some (of_truth a))) (sym (said-next hs i h at ∙ ap (λ b. said_of test (take i hs) ++ (if b then shown h.fact false ∷ [] else [])) fails ∙ append-nil (said_of test (take i hs))))

  pub said-adds : (hs : List HypTree) (i : ℕ) (h : HypTree) (made more : List ℕ) (b : Bool) → slice_get hs i ≡ Some h → AreNodes ts made (said_of test (take i hs)) → test h ≡ b → AddsSaid ts made more b h.fact → AreNodes ts more (said_of test (take (i + 1) hs))
  said-adds hs i h made more true at are e adds = said-passing hs i h made more adds.0 at are e adds.1 adds.2
  said-adds hs i h made more false at are e adds = subst (λ (ms : List ℕ). AreNodes ts ms (said_of test (take (i + 1) hs))) (sym adds) (said-failing hs i h made at are e)

-- the note of the hypothesis at a place
pub note-there : (ts : List ValueTree) (notes : List Note) (places : List ℕ) (hs : List HypTree) → HaveNotes ts notes places hs → (i place : ℕ) → slice_get places i ≡ Some place → (note : Note) → slice_get notes place ≡ Some note →
    (h : HypTree) × (slice_get hs i ≡ Some h) × IsNote ts h.fact note
note-there ts notes places hs h i place at note there =
    let r = paired-at (λ p (a : HypTree). HasNote ts notes p a.fact) places hs i place h at in
    (r.0, r.1, subst (λ (n : Note). IsNote ts r.0.fact n) (one-there notes place r.2.note note r.2.at there) r.2.is)

-- the hypothesis at a place
pub hyp-there : (t : Listing) (hyps : List NodeHyp) (label : Option ℕ) (facts : List ℕ) (goal : ℕ) (s : SequentTree) → IsAsked t hyps label facts goal s → (i : ℕ) (x : NodeHyp) (fact : ℕ) → slice_get hyps i ≡ Some x → slice_get facts i ≡ Some fact →
    (h : HypTree) × (slice_get s.hyps i ≡ Some h) × HasName t x h × HasFact (nodes t) fact h
hyp-there t hyps label facts goal s asked i x fact at there =
    let name = paired-at (HasName t) hyps s.hyps i x asked.called at in
    let said = paired-at (HasFact (nodes t)) facts s.hyps i fact asked.stated.said there in
    (name.0, name.1, name.2, subst (λ (h : HypTree). HasFact (nodes t) fact h) (one-there s.hyps i said.0 name.0 said.1 name.1) said.2)
