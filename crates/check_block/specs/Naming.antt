-- The names that a block declares, wherever they stand.
use Rattle.std.specs.Prelude.{ℕ, List, [], ◌∷◌, ◌++◌, length}
use Rattle.std.specs.List.{fold}
use Rattle.m2_tree.specs.declared.decl.Decl.{Decl, Decl-F, out-Decl}
use Rattle.m2_tree.specs.declared.decl.Decl.TheOpen as layer
use Rattle.check_scope.specs.declared.known.Known.TheVariants.{Ahead}
use Rattle.check_scope.specs.declared.scope.Scope.{Scope}
use Rattle.check_scope.specs.Scopes.{mark_name}
use Rattle.check_definition.specs.Marking.{marked_constant, marked_type, marked_variables}

module _ {T : Type 0} where
  abbrev pub marked_layer : {A B : Type 0} → Scope T → Decl-F A B → Scope T
  marked_layer s (layer.Constants cs) = fold marked_constant s cs
  marked_layer s (layer.Types ts) = fold marked_type s ts
  marked_layer s (layer.Variables vs) = fold marked_variables s vs
  marked_layer s (layer.Procedure h b) = mark_name h.name Ahead s

  abbrev pub marked_decl : Scope T → Decl → Scope T
  marked_decl s d = marked_layer s (out-Decl d)

-- with it, how many names of the block stand before each declaration
module _ {T X : Type 0} (marks : Scope T → X → Scope T) where
  abbrev pub with_marks : Scope T × List ℕ → X → Scope T × List ℕ
  with_marks st x = (marks st.0 x, st.1 ++ length st.0.own ∷ [])

  abbrev pub all_marked : Scope T → List X → Scope T × List ℕ
  all_marked s xs = fold with_marks (s, []) xs

abbrev pub marked_decls : {T : Type 0} → Scope T → List Decl → Scope T × List ℕ
marked_decls s decls = all_marked marked_decl s decls
