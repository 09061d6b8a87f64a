-- How much storage a module takes does not depend on the numbers of modules.
use Rattle.std.proofs.Common.{map, ◌≡◌, ℕ, zero, suc, ◌+◌, Bool, true, List, [], ◌∷◌, ◌++◌, length, Option, None, refl, ap, ◌∙◌}
use Rattle.std.specs.Prelude.{◌&&◌, if◌then◌else◌}
use Rattle.std.specs.List.{fold}
use Rattle.m2_tree.specs.declared.pos.Pos.{Pos}
use Rattle.typed_tree.specs.declared.types.TypeNo.{TypeNo}
use Rattle.typed_tree.specs.declared.shape.Formal.{Formal}
use Rattle.typed_tree.specs.declared.shape.Made.{Made}
use Rattle.typed_tree.specs.declared.known_types.Types.{Types}
use Rattle.typed_tree.specs.declared.typed_module.Routine.{Routine}
use Rattle.typed_tree.specs.declared.typed_module.TypedModule.{TypedModule}
use Rattle.layout_storage.specs.Types.{Ty, Hidden, row, frame_of}
use Rattle.layout_storage.specs.Sizes.{size}
use Rattle.layout_storage.specs.Shapes.{tree}
use Rattle.layout_storage.specs.Fitting.{made_type}
use Rattle.layout_storage.specs.Frames.{formals_of, formal_tree, frame, module_row}
use Rattle.layout_storage.specs.Layouts.{with_size, with_frame, data_too_large, too_large}
use Rattle.layout_storage.specs.Texts.{characters}
use Rattle.emit_buffer.specs.Fitting.{size_fits, first_fit, module_fits, sizes_fit}
use Rattle.def_exchange.specs.Moved.{Exchange, moved_type, moved_formal, moved_made, moved_types}
use Rattle.def_exchange.specs.MovedTrees.{moved_routine, moved_module}
use Rattle.law_exchange_code.proofs.Lists.{two_paths, map_kept, fold_kept, length_map}
use Rattle.law_exchange_code.proofs.Lookups.{formals_moved}
use Rattle.law_exchange_code.proofs.Shaped.{tree_kept}
use Rattle.law_exchange_code.proofs.Texted.{texts_kept}

module _ (x : Exchange) where
  formal_kept : (ts : Types) (f : Formal) → formal_tree (moved_types x ts) (moved_formal x f) ≡ formal_tree ts f
  formal_kept ts f =
      ap (λ (t : Ty). if f.is_open then row (Hidden 4 ∷ Hidden 4 ∷ []) else (if f.is_var then Hidden 4 else t))
      (tree_kept x ts f.of)

  variables_kept : (ts : Types) (us : List TypeNo)
      → map (tree (moved_types x ts)) (map (moved_type x) us) ≡ map (tree ts) us
  variables_kept ts us = map_kept (moved_type x) (tree (moved_types x ts)) (tree ts) (tree_kept x ts) us

  pub frame_kept : (ts : Types) (r : Routine) → frame (moved_types x ts) (moved_routine x r) ≡ frame ts r
  frame_kept ts r =
      two_paths (λ (a b : List Ty). frame_of (a ++ b))
      (ap (map (formal_tree (moved_types x ts))) (formals_moved x ts r.heading)
      ∙ map_kept (moved_formal x) (formal_tree (moved_types x ts)) (formal_tree ts) (formal_kept ts)
      (formals_of ts r.heading))
      (variables_kept ts r.variables)

  pub row_kept : (m : TypedModule) → module_row (moved_module x m) ≡ module_row m
  row_kept m = ap row (variables_kept m.types m.variables)

  routine_kept : (ts : Types) (found : Option Pos) (r : Routine)
      → with_frame (moved_types x ts) found (moved_routine x r) ≡ with_frame ts found r
  routine_kept ts found r = ap (λ (t : Ty). with_size found (size t) r.pos) (frame_kept ts r)

  data_kept : (m : TypedModule) → data_too_large (moved_module x m) ≡ data_too_large m
  data_kept m =
      ap (λ (n : ℕ). with_size None n m.pos)
      (two_paths (λ (a b : ℕ). a + b) (ap size (row_kept m)) (ap characters (texts_kept x m)))

  routines_kept : (ts : Types) (found : Option Pos) (rs : List Routine)
      → fold (with_frame (moved_types x ts)) found (map (moved_routine x) rs) ≡ fold (with_frame ts) found rs
  routines_kept ts found rs = fold_kept (moved_routine x) (with_frame (moved_types x ts)) (with_frame ts)
      (routine_kept ts) found rs

  pub too_large_kept : (m : TypedModule) → too_large (moved_module x m) ≡ too_large m
  too_large_kept m =
      routines_kept m.types (fold (with_frame (moved_types x m.types)) (data_too_large (moved_module x m))
      (map (moved_routine x) m.procedures)) m.locals
      ∙ ap (λ found. fold (with_frame m.types) found m.locals)
      (routines_kept m.types (data_too_large (moved_module x m)) m.procedures
      ∙ ap (λ found. fold (with_frame m.types) found m.procedures) (data_kept m))

  -- ---- whether sizes stand in 32 bits

  first_kept : (ts : Types) (home n : ℕ) → first_fit (moved_types x ts) (x.there home) n ≡ first_fit ts home n
  first_kept ts home zero = refl
  first_kept ts home (suc n) =
      two_paths (λ a b. a && b) (first_kept ts home n) (ap size_fits (tree_kept x ts (made_type home n)))

  fits_kept : (ts : Types) (others : Bool) (e : ℕ × List Made)
      → module_fits (moved_types x ts) others (x.there e.0, map (moved_made x) e.1) ≡ module_fits ts others e
  fits_kept ts others e =
      ap (λ b. others && b) (ap (first_fit (moved_types x ts) (x.there e.0)) (length_map (moved_made x) e.1)
      ∙ first_kept ts e.0 (length e.1))

  pub sizes_kept : (ts : Types) → sizes_fit (moved_types x ts) ≡ sizes_fit ts
  unfolding sizes_fit
  sizes_kept ts =
      two_paths (λ a b. a && b)
      (fold_kept (λ (e : ℕ × List Made). (x.there e.0, map (moved_made x) e.1)) (module_fits (moved_types x ts))
      (module_fits ts)
      (fits_kept ts) true ts.others)
      (ap (first_fit (moved_types x ts) (x.there ts.home)) (length_map (moved_made x) ts.own)
      ∙ first_kept ts ts.home (length ts.own))
