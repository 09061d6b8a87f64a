-- That the names of a block have their numbers behind its declarations.
use Rattle.std.specs.Prelude.{◌≡◌, ℕ, ◌+◌, ◌==◌, true, false, List, [], ◌∷◌, length, Some, Ok, slice_get}
use Rattle.m2_tree.specs.declared.name.Ident.{Ident}
use Rattle.m2_tree.specs.declared.decl.Heading.{Heading}
use Rattle.m2_tree.specs.declared.decl.Decl.{Decl}
use Rattle.typed_tree.specs.declared.types.TypeNo.{TypeNo}
use Rattle.typed_tree.specs.declared.meaning.Meaning.TheVariants as meaning
use Rattle.typed_tree.specs.declared.meaning.Procedure.{Procedure as ModuleProcedure}
use Rattle.typed_tree.specs.Names.{find_name}
use Rattle.check_scope.specs.declared.known.Known.{Known}
use Rattle.check_scope.specs.declared.known.Known.TheVariants.{Declared, Headed}
use Rattle.check_scope.specs.declared.known.Origin.TheVariants.{Here}
use Rattle.check_scope.specs.declared.scope.Scope.{Scope}
use Rattle.check_scope.specs.Elaborated.{Gathers}
use Rattle.check_block.specs.Declarations.{declared_block}
use Rattle.check_block.specs.Nesting.{number_behind}
use Rattle.def_typing.specs.Declarations.{declarations_of}
use Rattle.def_typed.specs.Numbers.{variables_in, variable_at, headings_in}

-- what stands under a name of the block
abbrev pub Entry : {T : Type 0} → Scope T → List ℕ → Known T → Type 0
Entry s n k = find_name n s.own ≡ Some k

-- Headings get numbers one after another. In a module those get one that the definition has not
-- declared, and in a procedure all, each behind the procedures that stand in the one before.
pub data AreHeaded {T : Type 0} (home level : ℕ) (ends : List ℕ) (start s : Scope T)
    : (m n : ℕ) → List Heading → (m' n' : ℕ) → Type 0 where
  no_heading : {m n : ℕ} → AreHeaded home level ends start s m n [] m n
  new_heading : {m n m' n' : ℕ} {h : Heading} {hs : List Heading} (t : TypeNo)
      → (level == 0) ≡ true
      → ((p : ModuleProcedure)
      → Entry start h.name.name (Declared Here (Ok (meaning.Procedure p))) → ⊥)
      → Entry s h.name.name
      (Headed (Ok (meaning.Procedure (record { home = home; number = m; heading = t }))))
      → AreHeaded home level ends start s (m + 1) (number_behind ends n) hs m' n'
      → AreHeaded home level ends start s m n (h ∷ hs) m' n'
  awaited_heading : {m n m' n' : ℕ} {h : Heading} {hs : List Heading} (p : ModuleProcedure)
      → Entry start h.name.name (Declared Here (Ok (meaning.Procedure p)))
      → Entry s h.name.name (Headed (Ok (meaning.Procedure p)))
      → AreHeaded home level ends start s m (number_behind ends n) hs m' n'
      → AreHeaded home level ends start s m n (h ∷ hs) m' n'
  nested_heading : {m n m' n' : ℕ} {h : Heading} {hs : List Heading} (t : TypeNo)
      → (level == 0) ≡ false
      → Entry s h.name.name
      (Headed (Ok (meaning.LocalProcedure (record { level = level; number = n; heading = t }))))
      → AreHeaded home level ends start s m (number_behind ends n) hs m' n'
      → AreHeaded home level ends start s m n (h ∷ hs) m' n'

-- what is known behind the declarations of a block of which nothing is reported
pub record AreNumbered {T : Type 0} (ends : List ℕ) (start : Scope T) (first : ℕ) (ds : List Decl)
    (s : Scope T) : Type 0 where
  -- Its variables are numbered behind those that were there, in a procedure the formals.
  pub variables : (i : ℕ) (x : Ident)
      → slice_get (variables_in (declarations_of ds)) i ≡ Some x
      → (t : TypeNo) × Entry s x.name
      (Declared Here (Ok (variable_at (start.level == 0) start.types.home start.level
      (length start.variables + i) t)))
      × (slice_get s.variables (length start.variables + i) ≡ Some t)
  pub kept : (i : ℕ) (t : TypeNo) → slice_get start.variables i ≡ Some t
      → slice_get s.variables i ≡ Some t
  pub counted : length s.variables
      ≡ length start.variables + length (variables_in (declarations_of ds))
  -- So are its procedures.
  pub last : ℕ
  pub end : ℕ
  pub headings : AreHeaded start.types.home start.level ends start s (length start.procedures)
      first (headings_in ds) last end
  pub procedures : length s.procedures ≡ last

-- The names of each block are numbered so.
abbrev pub BlocksAreNumbered : Gathers → Type 0
BlocksAreNumbered g =
    (ends : List ℕ) (s : Scope g.Reported) (first : ℕ) (ds : List Decl)
    → (declared_block g ends (s, Ok tt) first ds).1 ≡ Ok tt
    → AreNumbered ends s first ds (declared_block g ends (s, Ok tt) first ds).0
