-- The trees of types have no numbers of modules.
use Rattle.std.proofs.Common.{map, ◌≡◌, ℕ, List, [], ◌∷◌, ◌++◌, length, Option, Some, None, refl, sym, ap, ◌∙◌}
use Rattle.std.specs.Prelude.{unsigned_abs}
use Rattle.std.specs.Prelude.{if◌then◌else◌}
use Rattle.std.specs.Option.{option_map}
use Rattle.typed_tree.specs.declared.types.Home.{Home}
use Rattle.typed_tree.specs.declared.types.Home.TheVariants.{Predeclared, Module}
use Rattle.typed_tree.specs.declared.types.TypeNo.{TypeNo}
use Rattle.typed_tree.specs.declared.shape.Scalar.{Scalar as Range}
use Rattle.typed_tree.specs.declared.shape.Formal.{Formal}
use Rattle.typed_tree.specs.declared.shape.Shape.{Shape}
use Rattle.typed_tree.specs.declared.shape.Shape.TheVariants as shape
use Rattle.typed_tree.specs.declared.shape.Made.{Made}
use Rattle.typed_tree.specs.declared.known_types.Types.{Types}
use Rattle.typed_tree.specs.Types.{integer}
use Rattle.typed_tree.specs.Known.{predeclared_scalar, scalar_at}
use Rattle.layout_storage.specs.Types.{Ty, Natural, Integer, Between, Callable, Cell, Array, Function, Takes, row}
use Rattle.layout_storage.specs.Shapes.{scalar_kind, elements_of, Trees, in_module, scalar_tree, tree_from, tree_in, passing_of, result_tree, heading_tree, shape_tree, with_made, module_trees, with_module, other_trees, known_trees, tree}
use Rattle.def_exchange.specs.Moved.{Exchange, moved_home, moved_type, moved_scalar, moved_formal, moved_shape, moved_made, moved_types}
use Rattle.law_exchange_code.proofs.Lists.{two_paths, map_kept, map_append, fold_carried, fold_kept}
use Rattle.law_exchange_code.proofs.Numbers.{lookup_kept}
use Rattle.law_exchange_code.proofs.Lookups.{same_type, predeclared_moved, scalar_at_moved}

module _ (x : Exchange) where
  pub kind_kept : (t : TypeNo) (s : Range) → scalar_kind (moved_type x t) (moved_scalar x s) ≡ scalar_kind t s
  kind_kept t s =
      two_paths (λ b c. if b then (if c then Integer else Natural (unsigned_abs s.high)) else Between s.low s.high)
      (same_type x t s.base) (same_type x t integer)

  pub elements_kept : (o : Option Range) → elements_of (option_map (moved_scalar x) o) ≡ elements_of o
  elements_kept None = refl
  elements_kept (Some s) = refl

  abbrev pub moved_trees : Trees → Trees
  moved_trees before = map (λ e. (x.there e.0, e.1)) before

  scalar_tree_kept : (t : TypeNo) (o : Option Range)
      → scalar_tree (moved_type x t) (option_map (moved_scalar x) o) ≡ scalar_tree t o
  scalar_tree_kept t None = refl
  scalar_tree_kept t (Some s) = ap Cell (kind_kept t s)

  tree_from_kept : (before : Trees) (t : TypeNo) (h : Home)
      → tree_from (moved_trees before) (moved_type x t) (moved_home x h) ≡ tree_from before t h
  tree_from_kept before t Predeclared =
      ap (scalar_tree (moved_type x t)) (predeclared_moved x t.number)
      ∙ scalar_tree_kept t (predeclared_scalar t.number)
  tree_from_kept before t (Module h) = ap (λ o. in_module o t.number) (lookup_kept x h before)

  pub tree_in_kept : (before : Trees) (t : TypeNo) → tree_in (moved_trees before) (moved_type x t) ≡ tree_in before t
  tree_in_kept before t = tree_from_kept before t t.home

  result_tree_kept : (before : Trees) (r : Option TypeNo)
      → result_tree (moved_trees before) (option_map (moved_type x) r) ≡ result_tree before r
  result_tree_kept before None = refl
  result_tree_kept before (Some t) = ap Function (tree_in_kept before t)

  heading_kept : (before : Trees) (fs : List Formal) (r : Option TypeNo)
      → heading_tree (moved_trees before) (map (moved_formal x) fs) (option_map (moved_type x) r)
      ≡ heading_tree before fs r
  heading_kept before [] r = result_tree_kept before r
  heading_kept before (f ∷ fs) r =
      two_paths (λ t h. Takes (passing_of f) t h) (tree_in_kept before f.of) (heading_kept before fs r)

  shape_tree_kept : (ts : Types) (before : Trees) (t : TypeNo) (s : Shape)
      → shape_tree (moved_types x ts) (moved_trees before) (moved_type x t) (moved_shape x s) ≡ shape_tree ts before t s
  shape_tree_kept ts before t (shape.Scalar s) = ap Cell (kind_kept t s)
  shape_tree_kept ts before t shape.Set = refl
  shape_tree_kept ts before t (shape.Array i e) =
      two_paths Array (ap elements_of (scalar_at_moved x ts i) ∙ elements_kept (scalar_at ts i)) (tree_in_kept before e)
  shape_tree_kept ts before t (shape.Record fs) =
      ap row (map_kept (λ f. (f.0, moved_type x f.1)) (λ f. tree_in (moved_trees before) f.1) (λ f. tree_in before f.1)
      (λ f. tree_in_kept before f.1) fs)
  shape_tree_kept ts before t (shape.Procedure p) = ap (λ h. Cell (Callable h)) (heading_kept before p.formals p.result)
  shape_tree_kept ts before t (shape.Open e) = refl

  made_kept : (ts : Types) (before : Trees) (home : ℕ) (trees : List Ty) (m : Made)
      → with_made (moved_types x ts) (moved_trees before) (x.there home) trees (moved_made x m)
      ≡ with_made ts before home trees m
  made_kept ts before home trees m =
      ap (λ t. trees ++ t ∷ []) (shape_tree_kept ts ((home, trees) ∷ before)
      (record { home = Module home; number = length trees }) m.shape)

  module_kept : (ts : Types) (before : Trees) (home : ℕ) (ms : List Made)
      → module_trees (moved_types x ts) (moved_trees before) (x.there home) (map (moved_made x) ms)
      ≡ module_trees ts before home ms
  module_kept ts before home ms =
      fold_kept (moved_made x) (with_made (moved_types x ts) (moved_trees before) (x.there home))
      (with_made ts before home)
      (made_kept ts before home) [] ms

  added_kept : (ts : Types) (before : Trees) (e : ℕ × List Made)
      → with_module (moved_types x ts) (moved_trees before) (x.there e.0, map (moved_made x) e.1)
      ≡ moved_trees (with_module ts before e)
  added_kept ts before e =
      ap (λ (ms : List Ty). moved_trees before ++ (x.there e.0, ms) ∷ []) (module_kept ts before e.0 e.1)
      ∙ sym (map_append (λ (d : ℕ × List Ty). (x.there d.0, d.1)) before ((e.0, module_trees ts before e.0 e.1) ∷ []))

  others_kept : (ts : Types) → other_trees (moved_types x ts) ≡ moved_trees (other_trees ts)
  others_kept ts =
      fold_carried moved_trees (λ e. (x.there e.0, map (moved_made x) e.1)) (with_module (moved_types x ts))
      (with_module ts)
      (added_kept ts) [] ts.others

  known_kept : (ts : Types) → known_trees (moved_types x ts) ≡ moved_trees (known_trees ts)
  unfolding known_trees
  known_kept ts =
      ap (λ (before : Trees). (
        x.there ts.home,
        module_trees (moved_types x ts) before (x.there ts.home)
            (map (moved_made x) ts.own),
      ) ∷ before)
      (others_kept ts)
      ∙ ap (λ (ms : List Ty). (x.there ts.home, ms) ∷ moved_trees (other_trees ts))
      (module_kept ts (other_trees ts) ts.home ts.own)

  pub tree_kept : (ts : Types) (t : TypeNo) → tree (moved_types x ts) (moved_type x t) ≡ tree ts t
  tree_kept ts t = ap (λ before. tree_in before (moved_type x t)) (known_kept ts) ∙ tree_in_kept (known_trees ts) t
