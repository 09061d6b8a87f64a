-- The names of one block: what each sort of name asks for, and that they are typed then.
use Rattle.std.specs.Prelude.{◌≡◌, ℕ, ◌<◌, Bool, true, List, [], ◌∷◌, ◌++◌, map, Some, slice_get}
use Rattle.typed_tree.specs.declared.meaning.LocalKind.{LocalKind}
use Rattle.typed_tree.specs.declared.meaning.Meaning.{Meaning}
use Rattle.typed_tree.specs.declared.meaning.Meaning.TheVariants as meaning
use Rattle.typed_tree.specs.declared.meaning.Variable.{Variable}
use Rattle.typed_tree.specs.declared.known_types.Types.{Types}
use Rattle.typed_tree.specs.declared.shape.Made.{Made}
use Rattle.typed_tree.specs.declared.types.TypeNo.{TypeNo}
use Rattle.typed_tree.specs.Known.{made_at}
use Rattle.check_scope.specs.Elaborated.{Gathers}
use Rattle.check_scope.specs.declared.known.Known.{Known}
use Rattle.check_scope.specs.declared.known.Known.TheVariants.{Later, Ahead, Begun, Headed, Declared}
use Rattle.layout_storage.specs.Types.{Ty, row}
use Rattle.layout_storage.specs.Shapes.{tree}
use Rattle.def_meaning.specs.Environment.{module_place}
use Rattle.def_scheme.specs.Exprs.{variables_row}
use Rattle.law_simulation.specs.Frames.{Kinds, kind_at}
use Rattle.law_simulation.specs.TreesTyped.{Context, IsKnown, IsVariable, IsNamed}
use Rattle.law_well_formed.specs.Formed.{Holds}
use Rattle.law_well_formed.specs.FormedRanges.{NamesRanged}
use Rattle.law_programs.specs.Typing.{kind_of}
use Rattle.law_programs.specs.Scopes.{IsNested, NamesIn}
use Rattle.law_programs.specs.Carried.{NamesPlaced, NamesWords, NamesSlots}

-- ---- variables of modules

-- A module that is known has variables of these types, for the module that names them and in its
-- instance, if they are the first.
pub record HasVariables (x : Context) (home : ℕ) (ts : List TypeNo) : Type 0 where
  pub known : IsKnown x.home home
  pub typed : variables_row x.home home ≡ row (map (tree x.home.types) ts)
  pub behind : List Ty
  pub there :
      slice_get x.base (module_place x.p home) ≡ Some (row (map (tree x.home.types) ts ++ behind))

-- the instance of the module itself: its variables, and what stands behind them
pub record HasInstance (x : Context) : Type 0 where
  pub behind : List Ty
  pub there : slice_get x.base (module_place x.p x.home.types.home)
      ≡ Some (row (map (tree x.home.types) x.home.variables ++ behind))

-- ---- names that no declaration of variables, formals and constants brings

module _ (x : Context) (opens : ℕ → Bool) where
  -- a variable of another module is there, and so are procedures and open modules
  abbrev pub MeaningElse : (level : ℕ) → List Kinds → Meaning → Type 0
  MeaningElse level kss (meaning.Variable v) =
      (v.home ≡ x.home.types.home → ⊥) → IsVariable x v (tree x.home.types v.of)
  MeaningElse level kss (meaning.Field f) = ⊥
  MeaningElse level kss (meaning.Procedure f) = IsNamed x f
  MeaningElse level kss (meaning.LocalProcedure f) =
      (f.level ≡ level) × (0 < level) × IsNested x kss f
  MeaningElse level kss (meaning.Module k) = opens k ≡ true
  MeaningElse level kss (meaning.Constant v) = Unit {0}
  MeaningElse level kss (meaning.Type t n) = Unit {0}
  MeaningElse level kss (meaning.Local v) = Unit {0}
  MeaningElse level kss meaning.Ahead = Unit {0}
  MeaningElse level kss (meaning.Standard f) = Unit {0}

  abbrev pub KnownElse : {T : Type 0} → (level : ℕ) → List Kinds → Known T → Type 0
  KnownElse level kss Later = Unit {0}
  KnownElse level kss Ahead = Unit {0}
  KnownElse level kss Begun = Unit {0}
  KnownElse level kss (Headed r) = Holds (MeaningElse level kss) r
  KnownElse level kss (Declared o r) = Holds (MeaningElse level kss) r

  abbrev pub NamesElse : {T : Type 0} → (level : ℕ) → List Kinds → List (List ℕ × Known T) → Type 0
  NamesElse level kss [] = Unit {0}
  NamesElse level kss (e ∷ es) = KnownElse level kss e.1 × NamesElse level kss es

  -- a block whose names stand where they say, if these types and variables are known and these are
  -- the slots
  pub record BlockFound {T : Type 0} (types : Types) (vs : List TypeNo)
      (slots : List (LocalKind × TypeNo)) (level : ℕ) (kss : List Kinds)
      (es : List (List ℕ × Known T)) : Type 0 where
    pub grows : (t : TypeNo) (m : Made) → made_at types t ≡ Some m → made_at x.home.types t ≡ Some m
    pub variables : (n : ℕ) (t : TypeNo) → slice_get vs n ≡ Some t
        → slice_get x.home.variables n ≡ Some t
    pub kinds : (n : ℕ) (k : LocalKind) (t : TypeNo) → slice_get slots n ≡ Some (k, t)
        → kind_at kss (record { up = 0; number = n }) ≡ Some (kind_of x.home.types t k)
    pub own : HasInstance x
    pub ranged : NamesRanged types es
    pub words : NamesWords es
    pub placed : NamesPlaced x.home.types.home vs es
    pub slotted : NamesSlots slots level es
    pub others : NamesElse level kss es

-- ---- the laws

-- a variable of a module that has these variables is there
abbrev pub VariablesAreThere : Type 0
VariablesAreThere =
    (x : Context) (v : Variable) (ts : List TypeNo) → HasVariables x v.home ts
    → slice_get ts v.number ≡ Some v.of → IsVariable x v (tree x.home.types v.of)

-- the names of a block of this kind are typed
abbrev pub NamesAreTyped : Gathers → Type 0
NamesAreTyped g =
    (x : Context) (opens : ℕ → Bool) (types : Types) (vs : List TypeNo)
    (slots : List (LocalKind × TypeNo)) (level : ℕ) (kss : List Kinds)
    (es : List (List ℕ × Known g.Reported))
    → BlockFound x opens types vs slots level kss es
    → NamesIn x opens level kss es
