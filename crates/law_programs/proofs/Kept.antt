-- What names, types, variables and headings keep, declarations keep.
use Rattle.std.proofs.Common.{ℕ, List, Result, Ok}
use Rattle.std.specs.List.{fold}
use Rattle.m2_tree.specs.declared.decl.Module.{Module}
use Rattle.m2_tree.specs.declared.decl.Decl.{Decl}
use Rattle.typed_tree.specs.declared.types.TypeNo.{TypeNo}
use Rattle.typed_tree.specs.declared.shape.Made.{Made}
use Rattle.check_scope.specs.Elaborated.{Gathers}
use Rattle.check_scope.specs.Scopes.{with_known}
use Rattle.check_scope.specs.declared.known.Known.{Known}
use Rattle.check_scope.specs.declared.known.Known.TheVariants.{Later, Ahead, Begun}
use Rattle.check_scope.specs.declared.scope.Scope.{Scope}
use Rattle.check_type_expr.specs.Made.{with_shape}
use Rattle.check_definition.specs.Importing.{with_import}
use Rattle.check_definition.specs.Declare.{with_variable_type, with_procedure_type}
use Rattle.check_block.specs.Declarations.{declared_module}
use Rattle.law_folds.proofs.TypeSteps.{by_shapes}
use Rattle.law_folds.proofs.Orders.{fact}
use Rattle.law_folds.proofs.ImportSteps.{KeepsImports, imports_keep}
use Rattle.law_folds.proofs.BlockSteps.{KeepsBlocks, block_keeps}

module _ (g : Gathers) (P : Scope g.Reported → Type 0)
    (named : (s : Scope g.Reported) (name : List ℕ) (k : Known g.Reported) → P s → P (with_known name k s))
    (shaped : (s : Scope g.Reported) (m : Made) → P s → P (with_shape s m))
    (varied : (s : Scope g.Reported) (t : Result TypeNo g.Reported) → P s → P (with_variable_type s t))
    (headed : (s : Scope g.Reported) (t : Result TypeNo g.Reported) → P s → P (with_procedure_type s t)) where
  abbrev Stays : Scope g.Reported → Scope g.Reported → Type 0
  Stays s t = P s → P t

  blocks : KeepsBlocks g Stays
  blocks = record {
    marks = record { order = fact P; later = λ s name e. named s name Later; ahead = λ s name e. named s name Ahead };
    names = record {
      types = by_shapes g (record { order = fact P; shaped = shaped; listed = λ s name t n e. named s name _ });
      begun = λ s name e. named s name Begun;
      constant_ends = λ s c e. named s c.name.name _;
      type_ends = λ s name t n e. named s name _;
    };
    varied = varied;
    variable_ends = λ s name t l e h. named (with_variable_type s t) name _ (varied s t h);
    local_ends = λ s name t l e h. named (with_variable_type s t) name _ (varied s t h);
    procedure = λ s name t l e h. named (with_procedure_type s t) name _ (headed s t h);
    nested = λ s name n t l e. named s name _;
    awaited = λ s name p e. named s name _;
  }

  imports : KeepsImports g Stays
  imports = record { order = fact P; modules = λ s name n e. named s name _; exports = λ s name n m e. named s name _ }

  pub module_keeps : (modules : List (List ℕ × ℕ)) (ends : List ℕ) (s : Scope g.Reported) (m : Module)
      (ds : List Decl) → P s → P (declared_module g modules ends s m ds).0
  module_keeps modules ends s m ds h =
      block_keeps g blocks ends (fold (with_import g modules) (s, Ok tt) m.imports) 0 ds
      (imports_keep g imports modules m.imports (s, Ok tt) h)
