-- Scopes whose names mean what is there, and declarations that lead from a scope of this kind to
-- another.
use Rattle.std.specs.Prelude.{◌≡◌, ℕ, Bool, true, false, List, [], ◌∷◌, Option, Some, None, Result, Ok, slice_get}
use Rattle.m2_tree.specs.declared.name.Ident.{Ident}
use Rattle.m2_tree.specs.declared.decl.Decl.{Decl, Decl-F, out-Decl}
use Rattle.m2_tree.specs.declared.decl.Decl.TheOpen as layer
use Rattle.typed_tree.specs.declared.meaning.Meaning.{Meaning}
use Rattle.typed_tree.specs.declared.meaning.Meaning.TheVariants as meaning
use Rattle.typed_tree.specs.declared.shape.Made.{Made}
use Rattle.typed_tree.specs.declared.typed_module.TypedModule.{TypedModule}
use Rattle.typed_tree.specs.declared.types.TypeNo.{TypeNo}
use Rattle.typed_tree.specs.Known.{made_at}
use Rattle.typed_tree.specs.Names.{find_name}
use Rattle.check_scope.specs.Elaborated.{Gathers}
use Rattle.check_scope.specs.declared.known.Origin.{Origin}
use Rattle.check_scope.specs.declared.known.Origin.TheVariants.{Here, Module, Export}
use Rattle.check_scope.specs.declared.known.Known.{Known}
use Rattle.check_scope.specs.declared.known.Known.TheVariants.{Later, Ahead, Begun, Headed, Declared}
use Rattle.check_scope.specs.declared.scope.Block.{Block}
use Rattle.check_scope.specs.declared.scope.Scope.{Scope}
use Rattle.check_scope.specs.declared.meaningless.Meaningless.{Meaningless}
use Rattle.check_block.specs.Headings.{standing_known, with_heading}
use Rattle.check_block.specs.Declarations.{Course, with_decl, is_awaited}
use Rattle.law_well_formed.specs.Formed.{Holds, FormedMeaning}

-- ---- names

-- what is known of a name that is there
abbrev pub holds_of : {A : Type 0} → (A → Bool) → Option A → Bool
holds_of pick None = false
holds_of pick (Some x) = pick x

-- a procedure of the module's definition whose heading has not come yet
abbrev pub is_awaiting : {T : Type 0} → Known T → Bool
is_awaiting k = is_awaited (standing_known k)

module _ (opens : ℕ → Bool) where
  -- a module that a name stands for is open
  abbrev pub OpensNames : Option ℕ → Type 0
  OpensNames None = Unit {0}
  OpensNames (Some k) = opens k ≡ true

  abbrev pub OpensImports : List (List ℕ × ℕ) → List Ident → Type 0
  OpensImports modules [] = Unit {0}
  OpensImports modules (x ∷ xs) = OpensNames (find_name x.name modules) × OpensImports modules xs

module _ (m : TypedModule) (opens : ℕ → Bool) where
  -- the variables and procedures that a block declares are the module's, and it declares no modules
  abbrev pub IsHere : Meaning → Type 0
  IsHere (meaning.Procedure p) = p.home ≡ m.types.home
  IsHere (meaning.Constant v) = Unit {0}
  IsHere (meaning.Type t n) = Unit {0}
  IsHere (meaning.Variable v) = v.home ≡ m.types.home
  IsHere (meaning.Local v) = Unit {0}
  IsHere (meaning.Field f) = Unit {0}
  IsHere (meaning.LocalProcedure p) = Unit {0}
  IsHere meaning.Ahead = Unit {0}
  IsHere (meaning.Standard f) = Unit {0}
  IsHere (meaning.Module k) = ⊥

  abbrev pub FormedOwn : Meaning → Type 0
  FormedOwn x = FormedMeaning m opens 0 x × IsHere x

  abbrev pub FormedFrom : {T : Type 0} → Origin → Result Meaning T → Type 0
  FormedFrom Here r = Holds FormedOwn r
  FormedFrom (Module k) r = Holds (FormedMeaning m opens 0) r
  FormedFrom (Export k) r = Holds (FormedMeaning m opens 0) r

  abbrev pub FormedKnown : {T : Type 0} → Known T → Type 0
  FormedKnown Later = Unit {0}
  FormedKnown Ahead = Unit {0}
  FormedKnown Begun = Unit {0}
  FormedKnown (Headed r) = Holds FormedOwn r
  FormedKnown (Declared o r) = FormedFrom o r

  abbrev pub AreFormedNames : {T : Type 0} → List (List ℕ × Known T) → Type 0
  AreFormedNames [] = Unit {0}
  AreFormedNames (e ∷ es) = FormedKnown e.1 × AreFormedNames es

  abbrev pub AreFormedBlocks : {T : Type 0} → List (Block T) → Type 0
  AreFormedBlocks [] = Unit {0}
  AreFormedBlocks (b ∷ bs) = AreFormedNames b.names × AreFormedBlocks bs

  -- what a module exports
  abbrev pub ExportsFormed : List (List ℕ × Meaning) → Type 0
  ExportsFormed [] = Unit {0}
  ExportsFormed (e ∷ es) = FormedMeaning m opens 0 e.1 × ExportsFormed es

  -- ---- what a declaration keeps

  -- Types, procedures and headings stay, no procedure comes to be awaited, and formed names lead to
  -- formed names.
  pub record Leads {T : Type 0} (s s' : Scope T) : Type 0 where
    pub tables : s'.tables ≡ s.tables
    pub outer : s'.outer ≡ s.outer
    pub level : s'.level ≡ s.level
    pub withs : s'.withs ≡ s.withs
    pub home : s'.types.home ≡ s.types.home
    pub types : (t : TypeNo) (x : Made) → made_at s.types t ≡ Some x → made_at s'.types t ≡ Some x
    pub procedures : (n : ℕ) (t : TypeNo) → slice_get s.procedures n ≡ Some t
        → slice_get s'.procedures n ≡ Some t
    pub heads : (name : List ℕ) (x : Result Meaning (Meaningless T))
        → find_name name s.own ≡ Some (Headed x) → find_name name s'.own ≡ Some (Headed x)
    pub awaits : (name : List ℕ) → holds_of is_awaiting (find_name name s.own) ≡ false
        → holds_of is_awaiting (find_name name s'.own) ≡ false
    pub awaited : (name : List ℕ) → holds_of is_awaiting (find_name name s'.own) ≡ true
        → find_name name s'.own ≡ find_name name s.own
    pub formed : s.types.home ≡ m.types.home → AreFormedNames s.own → AreFormedNames s'.own

  -- ---- declarations of a block

  -- what a heading leaves under its name is as it has to be
  abbrev pub HeadIs : {T : Type 0} → Scope T → Scope T → List ℕ → Type 0
  HeadIs s s' name = (x : Meaning) → find_name name s'.own ≡ Some (Headed (Ok x))
      → s.types.home ≡ m.types.home → FormedOwn x

  module _ (g : Gathers) {A B : Type 0} where
    -- so it is, if the declaration is a procedure
    abbrev pub HeadsAre : Course g.Reported → Decl-F A B → Type 0
    HeadsAre c (layer.Constants cs) = Unit {0}
    HeadsAre c (layer.Types ts) = Unit {0}
    HeadsAre c (layer.Variables vs) = Unit {0}
    HeadsAre c (layer.Procedure h b) = HeadIs c.0 (with_heading g c.0 c.2 h).0 h.name.name

-- a declaration of a block leads from its scope to the one behind it
abbrev pub DeclarationsLead : Gathers → Type 0
DeclarationsLead g =
    (m : TypedModule) (opens : ℕ → Bool) (ends : List ℕ) (c : Course g.Reported) (d : Decl)
    → HeadsAre m opens g c (out-Decl d) → Leads m opens c.0 (with_decl g ends c d).0
