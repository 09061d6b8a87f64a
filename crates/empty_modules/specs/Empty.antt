-- Modules in which nothing stands but imports.
use Rattle.std.specs.Prelude.{ℕ, List, [], ◌∷◌, None}
use Rattle.m2_tree.specs.declared.name.Ident.{Ident}
use Rattle.m2_tree.specs.declared.decl.Block.{Block, roll-Block}
use Rattle.m2_tree.specs.declared.decl.Contents.TheVariants as contents
use Rattle.m2_tree.specs.declared.decl.Import.{Import}
use Rattle.m2_tree.specs.declared.decl.Module.{Module}

-- a name at the begin of a file
abbrev pub ident_of : List ℕ → Ident
ident_of name = record { pos = record { line = 1; col = 1 }; name = name }

abbrev pub nothing : Block
nothing = roll-Block (record { decls = []; body = None })

abbrev pub import_of : List ℕ → Import
import_of name = record { from = None; names = ident_of name ∷ [] }

abbrev pub empty_definition : List ℕ → Module
empty_definition name =
    record { name = ident_of name; imports = []; contents = contents.Definition [] }

abbrev pub empty_body : List ℕ → List Import → Module
empty_body name imports =
    record { name = ident_of name; imports = imports; contents = contents.Implementation nothing }

abbrev pub empty_program : List ℕ → List Import → Module
empty_program name imports =
    record { name = ident_of name; imports = imports; contents = contents.Program nothing }
