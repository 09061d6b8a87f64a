-- Imports keep what holds of the names of a scope, if it holds with one name more.
use Rattle.std.proofs.Common.{ℕ, List, Ok}
use Rattle.m2_tree.specs.declared.decl.Import.{Import}
use Rattle.typed_tree.specs.Names.{enter_name}
use Rattle.check_scope.specs.declared.known.Known.{Known}
use Rattle.check_scope.specs.declared.scope.Scope.{Scope}
use Rattle.check_scope.specs.Elaborated.{Gathers}
use Rattle.check_definition.specs.Importing.{numbered_modules}
use Rattle.law_typing.specs.Exact.{AreOnce}
use Rattle.law_typing.proofs.Entering.{once_more}
use Rattle.law_folds.proofs.Orders.{fact}
use Rattle.law_folds.proofs.ImportSteps.{KeepsImports}
use Rattle.law_folds.proofs.ImportSteps as all_imports
use Rattle.law_rules.specs.Importing.{imported_all}

module _ (g : Gathers) (P : List (List ℕ × Known g.Reported) → Type 0)
    (more : (name : List ℕ) (k : Known g.Reported) (es : List (List ℕ × Known g.Reported)) → P es
    → P (enter_name name k es)) where
  imports : KeepsImports g (λ s t. P s.own → P t.own)
  imports = record {
    order = fact (λ s. P s.own);
    modules = λ s name n e. more name _ s.own;
    exports = λ s name n m e. more name _ s.own;
  }

  pub imports_keep : (s : Scope g.Reported) (imports : List Import) → P s.own → P (imported_all g s imports).0.own
  imports_keep s is = all_imports.imports_keep g imports (numbered_modules s.tables).0 is (s, Ok tt)

pub imports_once : (g : Gathers) (s : Scope g.Reported) (imports : List Import) → AreOnce s.own
    → AreOnce (imported_all g s imports).0.own
imports_once g s imports h = imports_keep g (λ es. AreOnce es) (λ name k es o. once_more name k o) s imports h
