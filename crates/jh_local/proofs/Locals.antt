-- Instances of a sequent of local shape are And and Or over literals of local shape.
use Rattle.std.proofs.Common.{◌≡◌, refl, sym, Bool, true, false, ◌&&◌, if◌then◌else◌, List, [], ◌∷◌, ◌++◌, map}
use Rattle.std.specs.List.{list_all}
use Rattle.std.proofs.lemmas.Bool.{true≢false}
use Rattle.jh_form.specs.Tree.{FormulaTree}
use Rattle.jh_form.specs.Tree as t
use Rattle.jh_form.proofs.ClosedLemmas.{both-left, both-right}
use Rattle.jh_boxed_operations.specs.comparison.Unmarked.{unmarked_formula}
use Rattle.jh_ground_input.specs.jh_normal_forms.negation_normal_form.Normal.{is_atom, normal}
use Rattle.jh_seq.specs.sequent.Sequents.{HypTree, SequentTree}
use Rattle.jh_seq.specs.splitting.Local.{has_local_shape}
use Rattle.jh_inst.specs.instances.Entries.{Entry, formulas}
use Rattle.jh_inst.specs.instances.Instances.{is_ground, instances_of, normal_facts}
use Rattle.jh_models.specs.interpretations.Instances.{is_local_atom, is_local_instance}
use Rattle.jh_inst.specs.plain_formulas.Laws.{NormalIsPlain}
use Rattle.jh_inst.specs.plain_formulas.Plain.{is_plain, are_literals}

no : false ≡ true → ⊥
no h = true≢false (sym h)

local-atom : (a : FormulaTree) → has_local_shape a ≡ true → is_atom a ≡ true → is_local_atom a ≡ true
unfolding is_atom
local-atom t.true_formula h g = refl
local-atom t.false_formula h g = refl
local-atom (t.free_truth x) h g = refl
local-atom (t.read_truth f a) h g = h
local-atom (t.eq_object a b) h g = h
local-atom (t.eq_number a b) h g = h
local-atom (t.member a b) h g = h
local-atom (t.reach fs a b) h g = h
local-atom (t.tree fs) h g = h
local-atom (t.negation a) h g = absurd (no g)
local-atom (t.and a b) h g = absurd (no g)
local-atom (t.or a b) h g = absurd (no g)
local-atom (t.implies a b) h g = absurd (no g)
local-atom (t.iff a b) h g = absurd (no g)
local-atom (t.all a) h g = absurd (no g)
local-atom (t.ex a) h g = absurd (no g)
local-atom (t.mark k a) h g = absurd (no g)
local-atom _ h g = absurd (no h)

local-instance : (a : FormulaTree) → has_local_shape a ≡ true → are_literals a ≡ true → is_local_instance a ≡ true
unfolding is_atom
local-instance (t.and a b) h g = λ i.
    local-instance a (both-left (has_local_shape a) (has_local_shape b) h) (both-left (are_literals a) (are_literals b) g) i
    && local-instance b (both-right (has_local_shape a) (has_local_shape b) h) (both-right (are_literals a) (are_literals b) g) i
local-instance (t.or a b) h g = λ i.
    local-instance a (both-left (has_local_shape a) (has_local_shape b) h) (both-left (are_literals a) (are_literals b) g) i
    && local-instance b (both-right (has_local_shape a) (has_local_shape b) h) (both-right (are_literals a) (are_literals b) g) i
local-instance (t.negation a) h g = local-atom a h g
local-instance t.true_formula h g = refl
local-instance t.false_formula h g = refl
local-instance (t.free_truth x) h g = refl
local-instance (t.read_truth f a) h g = h
local-instance (t.eq_object a b) h g = h
local-instance (t.eq_number a b) h g = h
local-instance (t.member a b) h g = h
local-instance (t.reach fs a b) h g = h
local-instance (t.tree fs) h g = h
local-instance (t.implies a b) h g = absurd (no g)
local-instance (t.iff a b) h g = absurd (no g)
local-instance (t.all a) h g = absurd (no g)
local-instance (t.ex a) h g = absurd (no g)
local-instance (t.mark k a) h g = absurd (no g)
local-instance _ h g = absurd (no h)

-- what is true of all entries is true of the instances among them
kept-one : (p : FormulaTree → Bool) (b : Bool) (a : FormulaTree) (fs : List FormulaTree) → p a ≡ true → list_all p fs ≡ true → list_all p (if b then a ∷ fs else fs) ≡ true
kept-one p true a fs h g = λ i. h i && g i
kept-one p false a fs h g = g

instances-keep : (p : FormulaTree → Bool) (es : List Entry) → list_all p (formulas es) ≡ true → list_all p (instances_of es) ≡ true
instances-keep p [] h = refl
instances-keep p (e ∷ es) h =
    kept-one p (is_ground e.formula) e.formula (instances_of es) (both-left (p e.formula) (list_all p (formulas es)) h) (instances-keep p es (both-right (p e.formula) (list_all p (formulas es)) h))

listed-locals : (fs : List FormulaTree) → list_all has_local_shape fs ≡ true → list_all are_literals fs ≡ true → list_all is_local_instance fs ≡ true
listed-locals [] h g = refl
listed-locals (a ∷ fs) h g = λ i.
    local-instance a (both-left (has_local_shape a) (list_all has_local_shape fs) h) (both-left (are_literals a) (list_all are_literals fs) g) i
    && listed-locals fs (both-right (has_local_shape a) (list_all has_local_shape fs) h) (both-right (are_literals a) (list_all are_literals fs) g) i

pub locals : (es : List Entry) → list_all has_local_shape (formulas es) ≡ true → list_all are_literals (instances_of es) ≡ true → list_all is_local_instance (instances_of es) ≡ true
locals es h g = listed-locals (instances_of es) (instances-keep has_local_shape es h) g

-- the facts of a sequent are plain
module _ (law : NormalIsPlain) where
  hyps-plain : (hs : List HypTree) (rest : List FormulaTree) → list_all is_plain (map (λ a. normal a true) rest) ≡ true →
      list_all is_plain (map (λ a. normal a true) (map (λ (h : HypTree). unmarked_formula h.fact) hs ++ rest)) ≡ true
  hyps-plain [] rest k = k
  hyps-plain (h ∷ hs) rest k = λ i. law h.fact true i && hyps-plain hs rest k i

  pub facts-plain : (s : SequentTree) → list_all is_plain (normal_facts s) ≡ true
  unfolding normal
  facts-plain s = hyps-plain s.hyps (t.negation (unmarked_formula s.goal) ∷ []) (λ i. law s.goal false i && true)
