-- Scopes whose names are typed, block by block.
use Rattle.std.specs.Prelude.{◌≡◌, ℕ, suc, ◌-◌, ◌<◌, ◌≤◌, ◌^◌, Bool, true, List, [], ◌∷◌, ◌++◌, map, length, drop, Some, slice_get}
use Rattle.m2_tree.specs.declared.name.Ident.{Ident}
use Rattle.typed_tree.specs.declared.meaning.LocalKind.{LocalKind}
use Rattle.typed_tree.specs.declared.meaning.LocalKind.TheVariants as local
use Rattle.typed_tree.specs.declared.meaning.Meaning.{Meaning}
use Rattle.typed_tree.specs.declared.meaning.Meaning.TheVariants as meaning
use Rattle.typed_tree.specs.declared.meaning.NestedProcedure.{NestedProcedure}
use Rattle.typed_tree.specs.declared.known_types.Types.{Types}
use Rattle.typed_tree.specs.declared.shape.Formal.{Formal}
use Rattle.typed_tree.specs.declared.shape.Made.{Made}
use Rattle.typed_tree.specs.declared.shape.Signature.{Signature}
use Rattle.typed_tree.specs.declared.typed_module.Routine.{Routine}
use Rattle.typed_tree.specs.declared.types.TypeNo.{TypeNo}
use Rattle.typed_tree.specs.Known.{made_at}
use Rattle.check_scope.specs.Elaborated.{Gathers}
use Rattle.check_scope.specs.declared.known.Known.{Known}
use Rattle.check_scope.specs.declared.known.Known.TheVariants.{Later, Ahead, Begun, Headed, Declared}
use Rattle.check_scope.specs.declared.scope.Block.{Block}
use Rattle.check_scope.specs.declared.scope.Scope.{Scope}
use Rattle.check_const.specs.Denote.{exported_meaning}
use Rattle.check_value.specs.Classes.{signature_at}
use Rattle.layout_storage.specs.Frames.{formals_of}
use Rattle.layout_storage.specs.Shapes.{tree}
use Rattle.law_memory.specs.Relation.{heading_at}
use Rattle.law_simulation.specs.Frames.{Kinds, kind_at, kinds_of}
use Rattle.law_simulation.specs.Passing.{forms_of, result_of}
use Rattle.law_simulation.specs.TreesTyped.{Context, IsVariable, kinds_around, IsNamed}
use Rattle.check_block.specs.Inner.{formal_kind}
use Rattle.law_well_formed.specs.Formed.{Holds}
use Rattle.law_programs.specs.Typing.{IsConstant, FormalsKnown, kind_of, TypesTyped, MeaningTyped, IsTyped}

-- ---- what a name of a block means, this many procedures deep, if these are the frames from its
-- procedure outwards

-- a procedure that is declared in the procedure with the first of these frames
pub record IsNested (x : Context) (kss : List Kinds) (f : NestedProcedure) : Type 0 where
  pub there : slice_get x.p x.place ≡ Some x.home
  pub routine : Routine
  pub is : slice_get x.home.locals f.number ≡ Some routine
  pub kinds : kinds_around x.home routine.level routine.around ≡ kss
  pub forms : forms_of x.home.types routine.heading ≡ forms_of x.home.types f.heading
  pub result : result_of x.home.types routine.heading ≡ result_of x.home.types f.heading
  pub heading : heading_at x.home.types routine.heading ≡ heading_at x.home.types f.heading

module _ (x : Context) (opens : ℕ → Bool) where
  abbrev pub MeaningIn : (level : ℕ) → List Kinds → Meaning → Type 0
  MeaningIn level kss (meaning.Constant v) = IsConstant x.home.types v
  MeaningIn level kss (meaning.Type t n) = Unit {0}
  MeaningIn level kss (meaning.Variable v) = IsVariable x v (tree x.home.types v.of)
  MeaningIn level kss (meaning.Local v) =
      (v.level ≡ level)
      × (kind_at kss (record { up = 0; number = v.number })
      ≡ Some (kind_of x.home.types v.of v.kind))
  MeaningIn level kss (meaning.Field f) = ⊥
  MeaningIn level kss (meaning.Procedure f) = IsNamed x f
  MeaningIn level kss (meaning.LocalProcedure f) =
      (f.level ≡ level) × (0 < level) × IsNested x kss f
  MeaningIn level kss meaning.Ahead = Unit {0}
  MeaningIn level kss (meaning.Standard f) = Unit {0}
  MeaningIn level kss (meaning.Module k) = opens k ≡ true

  abbrev pub KnownIn : {T : Type 0} → (level : ℕ) → List Kinds → Known T → Type 0
  KnownIn level kss Later = Unit {0}
  KnownIn level kss Ahead = Unit {0}
  KnownIn level kss Begun = Unit {0}
  KnownIn level kss (Headed r) = Holds (MeaningIn level kss) r
  KnownIn level kss (Declared o r) = Holds (MeaningIn level kss) r

  abbrev pub NamesIn : {T : Type 0} → (level : ℕ) → List Kinds → List (List ℕ × Known T) → Type 0
  NamesIn level kss [] = Unit {0}
  NamesIn level kss (e ∷ es) = KnownIn level kss e.1 × NamesIn level kss es

  -- the blocks around: the predeclared names and the names of the module stand in no procedure
  abbrev pub BlocksIn : {T : Type 0} → (level i : ℕ) → List (Block T) → Type 0
  BlocksIn level i [] = Unit {0}
  BlocksIn level i (b ∷ bs) =
      NamesIn (i - 1) (drop (level - (i - 1)) x.kinds) b.names × BlocksIn level (suc i) bs

  -- the scope of a body, if no WITH is open
  pub record ScopeTyped (g : Gathers) (s : Scope g.Reported) : Type 0 where
    pub all : TypesTyped x.home.types
    pub room : length x.characters ≤ 2 ^ 32
    pub types : (t : TypeNo) (m : Made) → made_at s.types t ≡ Some m
        → made_at x.home.types t ≡ Some m
    pub formals : (t : TypeNo) (h : Signature) → signature_at s.types t ≡ Some h
        → FormalsKnown s.types h.formals
    pub withs : s.withs ≡ []
    pub frames : length x.kinds ≡ s.level
    pub blocks : length s.outer ≡ suc s.level
    pub own : NamesIn s.level x.kinds s.own
    pub outer : BlocksIn s.level 0 s.outer
    pub members : (k : ℕ) (name : Ident) → opens k ≡ true
        → Holds (MeaningTyped x [] opens s.level) (exported_meaning g s.tables k name)

-- ---- the laws

-- in a scope of this kind names mean what is there
abbrev pub ScopesAreTyped : Gathers → Type 0
ScopesAreTyped g =
    (x : Context) (opens : ℕ → Bool) (s : Scope g.Reported) → ScopeTyped x opens g s
    → IsTyped g x [] opens s

-- The names of the blocks around stay so in a procedure of the innermost block.
abbrev pub BlocksStay : Gathers → Type 0
BlocksStay g =
    (x : Context) (opens : ℕ → Bool) (ks : Kinds) (level : ℕ) (b : Block g.Reported)
    (bs : List (Block g.Reported))
    → length bs ≡ suc level
    → length x.kinds ≡ level
    → BlocksIn x opens level 0 bs
    → NamesIn x opens level x.kinds b.names
    → BlocksIn (record x { kinds = ks ∷ x.kinds }) opens (suc level) 0 (bs ++ b ∷ [])

-- what a procedure declares: its formals, and then its variables
abbrev pub formal_slot : Formal → LocalKind × TypeNo
formal_slot f = (formal_kind f, f.of)

abbrev pub variable_slot : TypeNo → LocalKind × TypeNo
variable_slot t = (local.Variable, t)

abbrev pub slots_of : Types → Routine → List (LocalKind × TypeNo)
slots_of types r = map formal_slot (formals_of types r.heading) ++ map variable_slot r.variables

-- what stands at a place among them has its kind in the frame
abbrev pub SlotsAreKinds : Type 0
SlotsAreKinds =
    (types : Types) (r : Routine) (n : ℕ) (k : LocalKind) (t : TypeNo)
    → slice_get (slots_of types r) n ≡ Some (k, t)
    → slice_get (kinds_of types r) n ≡ Some (kind_of types t k)
