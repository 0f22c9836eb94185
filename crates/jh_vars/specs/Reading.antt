-- Which variables a definition reads, and which are cyclic.
use Rattle.std.specs.Prelude.{◌≡◌, ℕ, ◌+◌, List, [], ◌∷◌, ◌++◌, map, Option, codes, if◌then◌else◌}
use Rattle.std.specs.List.{flat_map, Contains}
use Rattle.std.specs.Option.{option_map_or}
use Rattle.jh_ast.specs.declared.word.Word.{Word}
use Rattle.jh_ast.specs.Forms.{FormTree, FormTrees}
use Rattle.jh_ast.specs.Forms as f
use Rattle.jh_ast.specs.Programs.{ProgramTree, ClassPart, VarPart, DefPart}
use Rattle.jh_rules.specs.Words.{is_one_of, text_of}
use Rattle.jh_rules.specs.Names.{Declared, declared_in, def_of}
use Rattle.jh_vars.specs.States.{State, Variable, variable_of, state_spelled, state_named}
use Rattle.jh_rules.specs.Formulas.{equations}

abbrev pub some_state : Option State → List State
some_state x = option_map_or (λ y. y ∷ []) x []

-- over what is declared
module _ (l : Declared) where
  abbrev pub name_reads : ℕ → List (List ℕ) → Word → List State
  name_reads n bound w =
      if is_one_of (text_of w) (bound ++ codes "this" ∷ codes "result" ∷ codes "alloc" ∷ codes "Object" ∷ codes "Object.alloc" ∷ []) then [] else some_state (state_spelled l n (text_of w))

  abbrev pub fields_read : ℕ → List Word → List State
  fields_read n ws = flat_map (λ w. some_state (state_named l n (text_of w))) ws

  unfoldable mutual
    -- the fields, statics and variables that a formula outside methods reads
    pub reads : FormTree → ℕ → List (List ℕ) → List State
    reads (f.name q w) n bound = name_reads n bound w
    reads (f.member q a w) n bound = reads a n bound ++ fields_read n (w ∷ [])
    reads (f.negation q a) n bound = reads a n bound
    reads (f.minus q a) n bound = reads a n bound
    reads (f.old q a) n bound = reads a n bound
    reads (f.card q a) n bound = reads a n bound
    reads (f.binary q o a b) n bound = reads a n bound ++ reads b n bound
    reads (f.dvd q z a) n bound = reads a n bound
    reads (f.all q ws a) n bound = reads a n (bound ++ map text_of ws)
    reads (f.ex q ws a) n bound = reads a n (bound ++ map text_of ws)
    reads (f.tree q ws) n bound = fields_read n ws
    reads (f.rtrancl q x y body a b) n bound = option_map_or (fields_read n) (equations (text_of x) (text_of y) body) [] ++ reads a n bound ++ reads b n bound
    reads (f.braces q fs) n bound = all_read fs n bound
    reads (f.compr q w a) n bound = reads a n (bound ++ text_of w ∷ [])
    reads _ n bound = []

    pub all_read : FormTrees → ℕ → List (List ℕ) → List State
    all_read f.none n bound = []
    all_read (f.more a fs) n bound = reads a n bound ++ all_read fs n bound

-- the first of a list of which something is so
pub record IsFirst {X : Type 0} (holds : X → Type 0) (xs : List X) (x : X) : Type 0 where
  pub before : List X
  pub behind : List X
  pub stands : xs ≡ before ++ x ∷ behind
  pub here : holds x
  pub none_before : (y : X) → Contains before y → holds y → ⊥

module _ (p : ProgramTree) where
  -- what the definition of a variable reads itself
  abbrev pub definition_reads : Variable → List State
  definition_reads x = option_map_or (λ (d : DefPart). reads (declared_in p) d.spec.form x.class []) (def_of p x.class x.name) []

  -- what the definition of a variable reads, directly or through the definitions of what it reads
  pub data Reads : Variable → State → Type 0 where
    directly : (x : Variable) (y : State) → Contains (definition_reads x) y → Reads x y
    through : (x : Variable) (y z : State) → Contains (definition_reads x) y → Reads (variable_of y) z → Reads x z

  -- the definition of a variable reads the variable
  pub record IsCyclic (x : Variable) : Type 0 where
    pub read : State
    pub itself : variable_of read ≡ x
    pub reads : Reads x read

  -- the variables of the text, in its order
  abbrev pub variable_in : ℕ → VarPart → Variable
  variable_in n v = record { class = n; name = text_of v.name }

  unfoldable pub variables_from : ℕ → List ClassPart → List Variable
  variables_from n [] = []
  variables_from n (c ∷ cs) = map (variable_in n) c.vars ++ variables_from (n + 1) cs

  abbrev pub variables : List Variable
  variables = variables_from 0 p.classes

  -- no variable is cyclic
  abbrev pub IsAcyclic : Type 0
  IsAcyclic = (v : Variable) → IsCyclic v → ⊥

  -- the first variable of the text that is cyclic
  abbrev pub IsFirstCyclic : Variable → Type 0
  IsFirstCyclic x = IsFirst IsCyclic variables x
