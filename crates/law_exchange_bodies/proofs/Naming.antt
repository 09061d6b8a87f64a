-- The names that a block declares, with other numbers of modules.
use Rattle.std.proofs.Common.{◌≡◌, ℕ, List, [], ◌∷◌, ◌++◌, ap₂}
use Rattle.std.proofs.lemmas.List.{length-map}
use Rattle.m2_tree.specs.declared.decl.Decl.{Decl, Decl-F, out-Decl}
use Rattle.m2_tree.specs.declared.decl.Decl.TheOpen as layer
use Rattle.check_scope.specs.declared.known.Known.{Known}
use Rattle.check_scope.specs.declared.known.Known.TheVariants.{Ahead}
use Rattle.check_scope.specs.declared.scope.Scope.{Scope}
use Rattle.check_block.specs.Naming.{marked_layer, marked_decl, with_marks, all_marked, marked_decls}
use Rattle.def_exchange.specs.Moved.{Exchange}
use Rattle.law_exchange_types.specs.Scopes.{moved_known, moved_scope}
use Rattle.law_exchange_types.proofs.Basics.{fold_moves}
use Rattle.law_exchange_types.proofs.InScope.{mark_name_moves}
use Rattle.m2_tree.specs.declared.decl.Def.TheVariants as def
use Rattle.law_exchange_types.proofs.Begin.{marked_moves}

-- ---- how many names stand before each

module _ (z : Exchange) {T : Type 0} where
  abbrev pub moved_marked : Scope T × List ℕ → Scope T × List ℕ
  moved_marked st = (moved_scope z st.0, st.1)

  module _ {X : Type 0} (marks : Scope T → X → Scope T)
      (marks_move : (s : Scope T) (x : X) → marks (moved_scope z s) x ≡ moved_scope z (marks s x)) where
    pub with_marks_moves : (st : Scope T × List ℕ) (x : X)
        → with_marks marks (moved_marked st) x ≡ moved_marked (with_marks marks st x)
    with_marks_moves st x =
        ap₂ (λ (s : Scope T) (n : ℕ). (s, st.1 ++ n ∷ [])) (marks_move st.0 x)
        (length-map st.0.own (λ (e : List ℕ × Known T). (e.0, moved_known z e.1)))

    pub all_marked_moves : (s : Scope T) (xs : List X)
        → all_marked marks (moved_scope z s) xs ≡ moved_marked (all_marked marks s xs)
    all_marked_moves s xs =
        fold_moves moved_marked (with_marks marks) (with_marks marks) with_marks_moves (s, []) xs

-- ---- declarations

module _ (z : Exchange) {T : Type 0} where
  pub marked_layer_moves : {A B : Type 0} (s : Scope T) (d : Decl-F A B)
      → marked_layer (moved_scope z s) d ≡ moved_scope z (marked_layer s d)
  marked_layer_moves s (layer.Constants cs) = marked_moves z T s (def.Constants cs)
  marked_layer_moves s (layer.Types ts) = marked_moves z T s (def.Types ts)
  marked_layer_moves s (layer.Variables vs) = marked_moves z T s (def.Variables vs)
  marked_layer_moves s (layer.Procedure h b) = mark_name_moves z h.name Ahead s

  pub marked_decl_moves : (s : Scope T) (d : Decl) → marked_decl (moved_scope z s) d ≡ moved_scope z (marked_decl s d)
  marked_decl_moves s d = marked_layer_moves s (out-Decl d)

  pub marked_decls_moves : (s : Scope T) (ds : List Decl)
      → marked_decls (moved_scope z s) ds ≡ moved_marked z (marked_decls s ds)
  marked_decls_moves s ds = all_marked_moves z marked_decl marked_decl_moves s ds
