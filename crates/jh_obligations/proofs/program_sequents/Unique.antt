-- There is one list of sequents that the methods of a source owe.
use Rattle.std.proofs.Common.{◌≡◌, refl, sym, ap, subst, ◌∙◌, ℕ, ◌≤◌, Bool, List, [], ◌∷◌, arith}
use Rattle.std.specs.Prelude.{max}
use Rattle.jh_name.specs.declared.place.MethodId.{MethodId}
use Rattle.jh_form.specs.Tree.{FormulaTree}
use Rattle.jh_arena.specs.table.Facing.{IsLeast}
use Rattle.jh_seq.specs.sequent.Sequents.{SequentTree}
use Rattle.jh_splitting.specs.Numbering.{IsFirst}
use Rattle.jh_seq.specs.splitting.Split.{split_of}
use Rattle.jh_outline.proofs.of_jh_effects.written_state.Gathering.{some-is}
use Rattle.jh_semantics.specs.Program.{Program, Method}
use Rattle.jh_semantics.specs.LoweredProgram.{program_of}
use Rattle.jh_outline.specs.jh_guard.Writes.{Writes}
use Rattle.jh_outline.proofs.outline.Telling.{exact-once}
use Rattle.jh_obligations.specs.program_sequents.Laws.{OwedIsOne}
use Rattle.jh_obligations.specs.program_sequents.Owed.{formula_of, AreSequentsOf, Debt, IsOwed, AreOwed}
use Rattle.jh_obligations.specs.program_sequents.Owing.{Owing, owing_of}

-- the first constant is one
one-least : (test : ℕ → Bool) (m n : ℕ) → IsLeast test m → IsLeast test n → m ≡ n
one-least test m n h k =
    let left : m ≤ n = h.least n (k.closed n (omega arith)) in
    let right : n ≤ m = k.least m (h.closed m (omega arith)) in
    omega (arith, left, right)

one-first : (a : FormulaTree) (m n : ℕ) → IsFirst a m → IsFirst a n → m ≡ n
one-first a m n h k = h.is ∙ ap (λ (t : ℕ). max t 1) (one-least _ h.turn k.turn h.least k.least) ∙ sym k.is

one-list : (id : MethodId) (a : FormulaTree) (ss us : List SequentTree) → AreSequentsOf id a ss → AreSequentsOf id a us → ss ≡ us
one-list id a ss us h k = h.are ∙ ap (λ (n : ℕ). split_of id a n) (one-first a h.first k.first h.is_first k.is_first) ∙ sym k.are

module _ (q : Program) (ws : Writes) where
  one-debt : (w : Owing) (d e : Debt) → IsOwed q ws w d → IsOwed q ws w e → d ≡ e
  one-debt w d e h k =
      let code : h.few.code ≡ k.few.code = some-is h.few.code k.few.code (sym h.few.is ∙ k.few.is) in
      let list : d.sequents ≡ e.sequents =
      one-list w.id (formula_of q ws w.callee k.few.code) d.sequents e.sequents (subst (λ (x : Method). AreSequentsOf w.id (formula_of q ws w.callee x) d.sequents) code h.sequents) k.sequents in
      λ i. record { id = (h.id ∙ sym k.id) i; sequents = list i }

  one-debts : (list : List Owing) (ds es : List Debt) → AreOwed q ws list ds → AreOwed q ws list es → ds ≡ es
  one-debts [] [] [] h k = refl
  one-debts [] [] (e ∷ es) h k = absurd k
  one-debts [] (d ∷ ds) es h k = absurd h
  one-debts (w ∷ list) [] es h k = absurd h
  one-debts (w ∷ list) (d ∷ ds) [] h k = absurd k
  one-debts (w ∷ list) (d ∷ ds) (e ∷ es) h k = λ i. one-debt w d e h.0 k.0 i ∷ one-debts list ds es h.1 k.1 i

pub one-owed : OwedIsOne
one-owed p ds es h k =
    one-debts (program_of p) k.writes (owing_of p) ds es (subst (λ (ws : Writes). AreOwed (program_of p) ws (owing_of p) ds) (exact-once p h.writes k.writes h.exact k.exact) h.owed) k.owed
