-- What names stand for before the imports of a module, and what modules export.
use Rattle.std.specs.Prelude.{ℕ, pos, List, [], ◌∷◌, Option, Some, None, codes}
use Rattle.m2_tree.specs.declared.name.Ident.{Ident}
use Rattle.typed_tree.specs.declared.meaning.Meaning.{Meaning}
use Rattle.typed_tree.specs.declared.meaning.Standard.TheVariants.{Abs, Cap, Chr, High, Max, Min, Odd, Ord, Val, Inc, Dec, Incl, Excl, Halt}
use Rattle.typed_tree.specs.declared.table.Table.{Table}
use Rattle.typed_tree.specs.Names.{find_name}
use Rattle.typed_tree.specs.Types.{integer, cardinal, boolean, char, bitset}
use Rattle.def_typing.specs.Amounts.{Constant}
use Rattle.def_typing.specs.Operators.{Scalar}
use Rattle.def_typing.specs.Things.{Thing, AValue, AType, AStandard, Standing, Known, Undeclared, NotExported}
use Rattle.def_typing.specs.Imports.{Entry}
use Rattle.def_typed.specs.Modules.{exported_in}
use Rattle.law_typing.specs.Known.{standing}

-- the names that every module knows
abbrev pub predeclared : List (List ℕ × Thing)
predeclared =
    (codes "INTEGER", AType integer)
    ∷ (codes "CARDINAL", AType cardinal)
    ∷ (codes "BOOLEAN", AType boolean)
    ∷ (codes "CHAR", AType char)
    ∷ (codes "BITSET", AType bitset)
    ∷ (codes "FALSE", AValue (Scalar (Constant (Some boolean) (pos 0))))
    ∷ (codes "TRUE", AValue (Scalar (Constant (Some boolean) (pos 1))))
    ∷ (codes "ABS", AStandard Abs)
    ∷ (codes "CAP", AStandard Cap)
    ∷ (codes "CHR", AStandard Chr)
    ∷ (codes "HIGH", AStandard High)
    ∷ (codes "MAX", AStandard Max)
    ∷ (codes "MIN", AStandard Min)
    ∷ (codes "ODD", AStandard Odd)
    ∷ (codes "ORD", AStandard Ord)
    ∷ (codes "VAL", AStandard Val)
    ∷ (codes "INC", AStandard Inc)
    ∷ (codes "DEC", AStandard Dec)
    ∷ (codes "INCL", AStandard Incl)
    ∷ (codes "EXCL", AStandard Excl)
    ∷ (codes "HALT", AStandard Halt) ∷ []

abbrev pub known_or_undeclared : Option Thing → Standing
known_or_undeclared None = Undeclared
known_or_undeclared (Some x) = Known x

abbrev pub stands_predeclared : Ident → Standing
stands_predeclared name = known_or_undeclared (find_name name.name predeclared)

abbrev pub own_or : Option Meaning → Standing → Standing
own_or (Some m) s = standing m
own_or None s = s

-- In an implementation the names of its own definition come first.
abbrev pub stands_own : List Entry → Ident → Standing
stands_own exported name = own_or (find_name name.name exported) (stands_predeclared name)

abbrev pub exported_or_not : Option Meaning → Standing
exported_or_not None = NotExported
exported_or_not (Some m) = standing m

-- what a module exports, by the place of its table
abbrev pub stands_exported : List Table → ℕ → Ident → Standing
stands_exported tables k name = exported_or_not (exported_in tables k name)
