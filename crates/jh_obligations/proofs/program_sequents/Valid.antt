-- A program is sound where all sequents of its methods are valid.
use Rattle.std.proofs.Common.{◌≡◌, refl, sym, ap, subst, ◌∙◌, ℕ, zero, suc, ◌+◌, List, [], ◌∷◌, Some, option_map, slice_get, true, arith}
use Rattle.jh_ast.specs.Programs.{ClassPart, ProgramTree}
use Rattle.jh_rules.specs.Words.{text_of}
use Rattle.jh_containers.specs.transitive_closure.Spreads.{IsIn}
use Rattle.jh_rules.specs.Names.{◌then◌}
use Rattle.jh_vars.specs.Written.{Callee, method_in, part_of}
use Rattle.jh_outline.proofs.of_jh_effects.written_state.Gathering.{some-is, in-gathered, gathered-of}
use Rattle.jh_semantics.specs.Program.{Program, Method}
use Rattle.jh_semantics.specs.LoweredProgram.{program_of, method_code}
use Rattle.jh_outline.specs.jh_guard.Writes.{Writes}
use Rattle.jh_outline.specs.jh_logic.logic.Laws.{AreValid}
use Rattle.jh_outline.specs.jh_logic.logic.MethodContracts.{IsValid}
use Rattle.jh_seq.specs.sequent.Sequents.{SequentTree}
use Rattle.jh_seq.specs.splitting.Laws.{AllValid, SplitIsExact}
use Rattle.jh_seq.specs.splitting.Split.{before}
use Rattle.jh_form.specs.Tree.{FormulaTree}
use Rattle.jh_form.specs.Passing.{formula_passes}
use Rattle.jh_splitting.specs.Numbering.{IsFirst}
use Rattle.jh_outline.specs.jh_logic.source.Laws.{AcceptedIsSound}
use Rattle.jh_outline.proofs.of_jh_logic.source.Lists.{at-has, has-at, no-none}
use Rattle.jh_outline.proofs.of_jh_logic.source.Declared.{method-some}
use Rattle.jh_outline.proofs.of_jh_logic.source.Methods.{method-at, method-code}
use Rattle.jh_obligations.specs.program_sequents.Laws.{EachValid, OwedIsSound}
use Rattle.jh_outline.proofs.outline.Telling.{exact-writes}
use Rattle.jh_obligations.specs.program_sequents.Owed.{AreThere, formula_of, Debt, IsOwed, AreOwed}
use Rattle.jh_obligations.specs.program_sequents.Owing.{Owing, owing, owing_of, method_owing, class_owing}

-- each method of a source owes
pub owing-has : (p : ProgramTree) (m : Callee) (x : Method) → (program_of p).method m ≡ Some x → (w : Owing) × IsIn (owing_of p) w × (w.callee ≡ m)
owing-has p m x e =
    let r = method-code p m x e in
    let a = method-at p m r.0 r.1 in
    let k = has-at a.class.methods r.0 a.stands in
    let w : Owing = owing m.class k.0 (text_of r.0.name) in
    let place : k.0 ≡ 0 + k.0 = omega arith in
    let class : m.class ≡ 0 + m.class = omega arith in
    let own : IsIn (class_owing m.class a.class) w =
    in-gathered (method_owing m.class) 0 a.class.methods k.0 r.0 w k.1 (subst (λ (n : ℕ). IsIn (method_owing m.class n r.0) w) place (zero, refl)) in
    (w, in-gathered class_owing 0 p.classes m.class a.class w a.is (subst (λ (n : ℕ). IsIn (class_owing n a.class) w) class own), ap (λ (t : List ℕ). record { class = m.class; name = t }) a.text)

-- each of its methods is one of its program
one-in : (x w : Owing) → IsIn (x ∷ []) w → x ≡ w
one-in x w (zero, e) = some-is x w e
one-in x w (suc i, e) = absurd (no-none w e)

pub all-there : (p : ProgramTree) → AreThere (program_of p) (owing_of p)
all-there p w i e =
    let c = gathered-of class_owing 0 p.classes w i in
    let m = gathered-of (method_owing (0 + c.0)) 0 c.1.methods w c.3 in
    let name : List ℕ = text_of m.1.name in
    let callee : Callee = record { class = 0 + c.0; name = name } in
    let class : c.0 ≡ 0 + c.0 = omega arith in
    let at : slice_get p.classes (0 + c.0) ≡ Some c.1 = subst (λ (k : ℕ). slice_get p.classes k ≡ Some c.1) class c.2 in
    let some = method-some name c.1.methods m.1 (at-has c.1.methods m.0 m.1 m.2) refl in
    let part : part_of p callee ≡ Some some.0 = ap (λ o. o then λ (k : ClassPart). method_in name k.methods) at ∙ some.1 in
    let is : callee ≡ w.callee = ap (λ (x : Owing). x.callee) (one-in (owing (0 + c.0) (0 + m.0) name) w m.3) in
    no-none (method_code p callee.class some.0) (sym e ∙ ap (program_of p).method (sym is) ∙ ap (option_map (method_code p callee.class)) part)

-- what one of some methods owes
pub owed-at : (q : Program) (ws : Writes) (list : List Owing) (ds : List Debt) → AreOwed q ws list ds → EachValid ds → (w : Owing) → IsIn list w → (d : Debt) × IsOwed q ws w d × AllValid d.sequents
owed-at q ws [] [] h v w (zero, e) = absurd (no-none w e)
owed-at q ws [] [] h v w (suc i, e) = absurd (no-none w e)
owed-at q ws [] (d ∷ ds) h v w i = absurd h
owed-at q ws (y ∷ list) [] h v w i = absurd h
owed-at q ws (y ∷ list) (d ∷ ds) h v w (zero, e) = (d, subst (λ (z : Owing). IsOwed q ws z d) (some-is y w e) h.0, v.0)
owed-at q ws (y ∷ list) (d ∷ ds) h v w (suc i, e) = owed-at q ws list ds h.1 v.1 w (i, e)

-- a method is valid where its sequents are
names-before : (a : FormulaTree) (k : ℕ) → IsFirst a k → formula_passes a (before k) ≡ true
names-before a k h = h.least.closed k (omega (arith, h.is))

valid-of : SplitIsExact → (q : Program) (ws : Writes) (w : Owing) (d : Debt) → IsOwed q ws w d → AllValid d.sequents → (m : Callee) (x : Method) → w.callee ≡ m → q.method m ≡ Some x → IsValid q ws m x
valid-of exact q ws w d h v m x same e =
    let code : h.few.code ≡ x = some-is h.few.code x (sym h.few.is ∙ ap q.method same ∙ e) in
    let formula : FormulaTree = formula_of q ws w.callee h.few.code in
    subst (λ (n : Callee). IsValid q ws n x) same
    (subst (λ (y : Method). IsValid q ws w.callee y) code
    ((exact w.id formula h.sequents.first (names-before formula h.sequents.first h.sequents.is_first)).0
    (subst (λ (us : List SequentTree). AllValid us) h.sequents.are v)))

all-valid : SplitIsExact → (p : ProgramTree) (ws : Writes) (ds : List Debt) → AreOwed (program_of p) ws (owing_of p) ds → EachValid ds → AreValid (program_of p) ws
all-valid exact p ws ds h v m x e =
    let r = owing-has p m x e in
    let k = owed-at (program_of p) ws (owing_of p) ds h v r.0 r.1 in
    valid-of exact (program_of p) ws r.0 k.0 k.1 k.2 m x r.2 e

pub owed-sound : SplitIsExact → AcceptedIsSound → OwedIsSound
owed-sound exact sound p ds ok h v = sound p h.writes ok (exact-writes p ok h.writes h.exact) (all-valid exact p h.writes ds h.owed v)
