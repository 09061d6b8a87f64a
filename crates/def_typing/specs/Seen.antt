-- What names of a block stand for where a procedure of it stands.
use Rattle.std.specs.Prelude.{◌≡◌, ℕ, Bool, false, List}
use Rattle.m2_tree.specs.declared.name.Ident.{Ident}
use Rattle.typed_tree.specs.declared.types.TypeNo.{TypeNo}
use Rattle.def_typing.specs.Things.{AProcedure, ANested, Headless, Standing, Known, Undeclared}
use Rattle.def_typing.specs.Declarations.{Declaration, AnyDeclares}

pub data IsProcedure : Standing → Type 0 where
  of_module : {t : TypeNo} → IsProcedure (Known (AProcedure t))
  of_procedure : {t : TypeNo} → IsProcedure (Known (ANested t))
  -- Rules are broken in its heading.
  headless : {nested : Bool} → IsProcedure (Known (Headless nested))

-- block: the declarations of the block; Front: the names in front of the procedure; names: what
-- names stand for behind all declarations of the block.
module _ (taken : List ℕ → Bool) (block : List Declaration) (Front : List ℕ → Type 0)
    (names : Ident → Standing) where
  -- what a name of outside stands for in the procedure
  pub data Sees (name : Ident) : Standing → Type 0 where
    in_front : (taken name.name ≡ false → AnyDeclares block name.name → Front name.name)
        → Sees name (names name)
    -- A procedure is known in all bodies of its block.
    a_procedure : IsProcedure (names name) → Sees name (names name)
    -- Constants, types and variables are declared before use.
    not_yet : taken name.name ≡ false → AnyDeclares block name.name → (Front name.name → ⊥)
        → (IsProcedure (names name) → ⊥) → Sees name Undeclared
