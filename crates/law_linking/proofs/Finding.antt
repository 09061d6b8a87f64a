-- The definition that a name means, and the implementation of a definition.
use Rattle.std.proofs.Common.{◌≡◌, ℕ, true, false, List, Some}
use Rattle.std.specs.Prelude.{slice_get}
use Rattle.std.specs.Cmp.Lexicographic.{bytes_decides}
use Rattle.std.proofs.lemmas.Bool.{and_parts}
use Rattle.m2_tree.specs.Names.{same_name}
use Rattle.m2_tree.specs.declared.decl.Module.{Module}
use Rattle.m2_graph.specs.Imports.{is_definition, is_program, is_implementation, defines, implements, definition_of, first_that}
use Rattle.law_graph.proofs.Lists.{Among}
use Rattle.law_graph.proofs.Passing.{found_at}
use Rattle.law_graph.proofs.Fine.{AreFine}
use Rattle.law_graph.proofs.Starting.{implementation_part}

-- the definition in this place has this name
pub record Meant (ms : List Module) (n : List ℕ) (i : ℕ) : Type 0 where
  pub m : Module
  pub at : slice_get ms i ≡ Some m
  pub kind : is_definition m ≡ true
  pub same : n ≡ m.name.name

pub meant : (ms : List Module) (n : List ℕ) (i : ℕ) → definition_of ms n ≡ Some i → Meant ms n i
meant ms n i e =
    let f = found_at (defines n) ms i e in
    let both = and_parts (is_definition f.0) (same_name n f.0.name.name) f.2 in
    record { m = f.0; at = f.1; kind = both.0; same = (bytes_decides n f.0.name.name).0 both.1 }

-- the implementation of a definition
pub record Implemented (ms : List Module) (d : Module) : Type 0 where
  pub place : ℕ
  pub first : first_that (implements d.name.name) ms ≡ Some place
  pub m : Module
  pub at : slice_get ms place ≡ Some m
  pub kind : is_definition m ≡ false
  pub no_program : is_program m ≡ false
  pub same : d.name.name ≡ m.name.name

pub implemented : (ms : List Module) → AreFine ms → (d : Module) → Among ms d → is_definition d ≡ true
    → Implemented ms d
implemented ms fine d a is =
    let w = fine.whole d a is in
    let f = found_at (implements d.name.name) ms w.0 w.1 in
    let both = and_parts (is_implementation f.0) (same_name d.name.name f.0.name.name) f.2 in
    let kinds = implementation_part f.0 both.0 in
    record {
      place = w.0;
      first = w.1;
      m = f.0;
      at = f.1;
      kind = kinds.0;
      no_program = kinds.1;
      same =
          (bytes_decides d.name.name f.0.name.name).0 both.1;
    }
