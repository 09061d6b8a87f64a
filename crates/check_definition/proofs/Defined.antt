-- A definition, from its parts.
use Rattle.std.proofs.Common.{◌≡◌, ℕ, List, Result, ap, ◌∙◌}
use Rattle.m2_tree.specs.declared.decl.Def.{Def}
use Rattle.m2_tree.specs.declared.decl.Module.{Module}
use Rattle.typed_tree.specs.declared.table.Table.{Table}
use Rattle.m2_rule.specs.declared.breach.Breach.{Breach}
use Rattle.check_scope.specs.declared.scope.Scope.{Scope}
use Rattle.check_scope.specs.Scopes.{State}
use Rattle.check_scope.specs.Elaborated.{least}
use Rattle.check_definition.specs.Importing.{numbered_modules}
use Rattle.check_definition.specs.Predeclared.{first_scope}
use Rattle.check_definition.specs.Compiled.{declared_in, table_or, of_definition}

pub definition_is : (number : ℕ) (m : Module) (tables ts : List Table) (defs : List Def) (modules : List (List ℕ × ℕ))
    (n : ℕ) (s s' : Scope Breach) (j : Result (Unit {0}) Breach)
    → ts ≡ tables → (modules, n) ≡ numbered_modules ts → s ≡ first_scope number tables
    → (s', j) ≡ declared_in least m modules s defs
    → table_or m modules s' j ≡ of_definition least number m tables defs
definition_is number m tables ts defs modules n s s' j t h1 h2 h3 =
    let em : modules ≡ (numbered_modules tables).0 =
    ap (λ (p : List (List ℕ × ℕ) × ℕ). p.0) (h1 ∙ ap numbered_modules t) in
    let e : (s', j) ≡ declared_in least m (numbered_modules tables).0 (first_scope number tables) defs =
    h3 ∙ ap (λ (ms : List (List ℕ × ℕ)). declared_in least m ms s defs) em
    ∙ ap (λ (x : Scope Breach). declared_in least m (numbered_modules tables).0 x defs) h2 in
    ap (λ (ms : List (List ℕ × ℕ)). table_or m ms s' j) em
    ∙ ap (λ (st : State (Unit {0}) Breach). table_or m (numbered_modules tables).0 st.0 st.1) e
