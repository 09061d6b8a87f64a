-- Behind the imports of a definition, what it declares is marked.
use Rattle.std.proofs.Common.{◌≡◌, List, refl, ap, ◌∙◌}
use Rattle.std.specs.List.{fold}
use Rattle.m2_tree.specs.declared.decl.Def.{Def}
use Rattle.check_scope.specs.declared.scope.Scope.{Scope}
use Rattle.check_scope.specs.Elaborated.{Gathers}
use Rattle.check_definition.specs.Predeclared.{first_scope}
use Rattle.check_definition.specs.Marking.{marked_def}
use Rattle.law_folds.proofs.MarkSteps.{KeepsMarks, defs_marks}
use Rattle.law_typing.specs.Judging.{Judges}
use Rattle.law_typing.proofs.Combining.{Lawful}
use Rattle.law_rules.specs.Importing.{imported_all, DefinitionImportsAreExact}
use Rattle.law_rules.proofs.Behind.{first_imports}

-- Names alone are new.
abbrev NamesNew : {T : Type 0} → Scope T → Scope T → Type 0
NamesNew s t = t ≡ record s { own = t.own }

new_then : {T : Type 0} (s t u : Scope T) → NamesNew s t → NamesNew t u → NamesNew s u
new_then {T = T} s t u a b = b ∙ ap (λ (t : Scope T). record t { own = u.own }) a

marks : {T : Type 0} → KeepsMarks {T = T} NamesNew
marks = record {
  order = record { same = λ s. refl; next = λ a b c p q. new_then a b c p q };
  later = λ s name e. refl;
  ahead = λ s name e. refl;
}

pub marks_new : {T : Type 0} (defs : List Def) (s : Scope T)
    → fold marked_def s defs ≡ record s { own = (fold marked_def s defs).own }
marks_new defs s = defs_marks marks defs s

pub definition_imports : (g : Gathers) (j : Judges g) → Lawful g j → DefinitionImportsAreExact g j
definition_imports g j lawful home tables defs imports = (
  first_imports g j lawful home tables imports,
  marks_new defs (imported_all g (first_scope home tables) imports).0,
)
