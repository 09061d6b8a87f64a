-- A definition is the one of its name.
use Rattle.std.proofs.Common.{◌≡◌, ℕ, Bool, true, false, ◌&&◌, List, [], ◌∷◌, refl, sym, ap, subst, ◌∙◌, Option, Some, None}
use Rattle.std.specs.Prelude.{slice_get}
use Rattle.std.specs.Option.{is_some}
use Rattle.std.specs.Cmp.Lexicographic.{bytes_decides}
use Rattle.std.proofs.lemmas.Bool.{false≢true, and_parts}
use Rattle.std.proofs.lemmas.Option.{same_Some}
use Rattle.m2_tree.specs.declared.decl.Module.{Module}
use Rattle.m2_tree.specs.declared.name.Ident.{Ident}
use Rattle.m2_graph.specs.Files.{File, AreInOrder, number_files, trees}
use Rattle.m2_graph.specs.Graph.{IsGraph}
use Rattle.m2_tree.specs.Names.{same_name}
use Rattle.m2_graph.specs.Imports.{imports_of, is_definition, defines, definition_of, first_that}
use Rattle.law_graph.specs.Started.{definition_imported, imported_by}
use Rattle.law_graph.specs.Defined.{OneDefinition}
use Rattle.law_graph.proofs.Lists.{Among}
use Rattle.law_graph.proofs.Passing.{found_at, some_that, none_that}
use Rattle.law_graph.proofs.Given.{given_trees, given_among}
use Rattle.law_graph.proofs.Fine.{are_fine}

defines_own : (d : Module) → is_definition d ≡ true → defines d.name.name d ≡ true
defines_own d is = ap (λ (b : Bool). b && same_name d.name.name d.name.name) is
    ∙ (bytes_decides d.name.name d.name.name).1 refl

some_of : (test : Module → Bool) (ms : List Module) (d : Module) → Among ms d → test d ≡ true
    → is_some (first_that test ms) ≡ true
some_of test ms d a passes = by (is_some (first_that test ms)) refl
  where
    by : (b : Bool) → is_some (first_that test ms) ≡ b → b ≡ true
    by true e = refl
    by false e = absurd (false≢true (sym (none_that test ms d e a) ∙ passes))

pub one_definition : (fs : List (List ℕ × Module)) (files : List ℕ) (jobs : List (List ℕ)) (starts : List ℕ)
    → IsGraph (number_files 0 fs) files jobs starts → OneDefinition (given_trees fs)
one_definition fs files jobs starts g d among is =
    let ms : List Module = given_trees fs in
    let k = some_that (defines d.name.name) ms (some_of (defines d.name.name) ms d among (defines_own d is)) in
    let e = found_at (defines d.name.name) ms k.0 k.1 in
    let parts = and_parts (is_definition e.0) (same_name d.name.name e.0.name.name) e.2 in
    let named : d.name.name ≡ e.0.name.name = (bytes_decides d.name.name e.0.name.name).0 parts.1 in
    let j = given_among fs g.0 g.1 e.0 (k.0, e.1) in
    let i = given_among fs g.0 g.1 d among in
    let place : j.0 ≡ i.0 = (are_fine g.0 g.2.fine).apart j.0 i.0 e.0 d j.1 i.1 (parts.0 ∙ sym is) (sym named) in
    let same : e.0 ≡ d = same_Some e.0 d (sym j.1 ∙ ap (slice_get (trees g.0)) place ∙ i.1) in
    ap (λ (o : Option ℕ). definition_imported ms o) k.1 ∙ ap imported_by e.1 ∙ ap imports_of same
