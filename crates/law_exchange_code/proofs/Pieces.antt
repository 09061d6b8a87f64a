-- Pieces of code that look at types.
use Rattle.std.proofs.Common.{map, ◌≡◌, ℕ, suc, ◌+◌, ◌*◌, ◌-◌, pos, Bool, List, [], ◌∷◌, ◌++◌, Option, Some, None, refl, sym, ap, ◌∙◌}
use Rattle.std.specs.Prelude.{if◌then◌else◌, ◌==◌, ◌&&◌, ◌||◌, not, slice_get}
use Rattle.std.specs.Option.{option_map, unwrap_or}
use Rattle.std.proofs.lemmas.Option.{slice_get-map}
use Rattle.wasm_tree.specs.declared.instr.Instr.{Instr}
use Rattle.wasm_tree.specs.declared.instr.Instr.TheVariants.{Call, CallIndirect, GlobalGet, I64Const}
use Rattle.wasm_tree.specs.declared.instr.Operation.TheVariants.{Add, Sub, Mul}
use Rattle.typed_tree.specs.declared.computed.Arithmetic.{Arithmetic}
use Rattle.typed_tree.specs.declared.computed.Arithmetic.TheVariants as op
use Rattle.typed_tree.specs.declared.computed.LocalProcedure.{LocalProcedure}
use Rattle.typed_tree.specs.declared.types.Home.{Home}
use Rattle.typed_tree.specs.declared.types.Home.TheVariants.{Predeclared, Module}
use Rattle.typed_tree.specs.declared.types.TypeNo.{TypeNo}
use Rattle.typed_tree.specs.declared.shape.Scalar.{Scalar as Range}
use Rattle.typed_tree.specs.declared.meaning.Procedure.{Procedure}
use Rattle.typed_tree.specs.declared.meaning.Variable.{Variable}
use Rattle.typed_tree.specs.declared.known_types.Types.{Types}
use Rattle.typed_tree.specs.declared.typed_module.Imported.{Imported}
use Rattle.typed_tree.specs.declared.typed_module.TypedModule.{TypedModule}
use Rattle.typed_tree.specs.Types.{are_same, integer}
use Rattle.typed_tree.specs.Known.{scalar_at}
use Rattle.layout_storage.specs.Types.{Ty, row}
use Rattle.layout_storage.specs.Sizes.{size, offset}
use Rattle.layout_storage.specs.Shapes.{tree, elements_of}
use Rattle.layout_storage.specs.Frames.{module_row}
use Rattle.def_meaning.specs.Answer.{index_fault, overflow, range_fault}
use Rattle.def_scheme.specs.Coded.{body_index, check_code, extend_word, operation, raise_address}
use Rattle.def_scheme.specs.Cells.{load_tree, store_tree, load_code, store_code, in_range, in_type, base_in, base_of, is_subrange, is_free, check_taken, check_changed}
use Rattle.def_scheme.specs.Exprs.{Numbered, import_place, is_own, base_global, slots_global, imported_row, variables_row, index_of, element_tree, scale_index, from_lower, element_code, arithmetic_code, ord_check, slot_number, procedure_code, global_code, high_index, indirect, module_call, nested_call}
use Rattle.def_exchange.specs.Moved.{Exchange, turned, moved_home, moved_type, moved_scalar, moved_types, moved_variable, moved_procedure}
use Rattle.def_exchange.specs.MovedTrees.{moved_imported, moved_routine, moved_module, moved_called}
use Rattle.law_exchange_code.proofs.Lists.{two_paths, map_kept, length_map, place_kept}
use Rattle.law_exchange_code.proofs.Numbers.{same_number}
use Rattle.law_exchange_code.proofs.Lookups.{same_type, scalar_at_moved, index_moved, result_kept}
use Rattle.law_exchange_code.proofs.Shaped.{tree_kept, elements_kept}
use Rattle.law_exchange_code.proofs.Stored.{row_kept}
use Rattle.law_exchange_code.proofs.Signing.{arguments_kept, own_kept}

module _ (x : Exchange) where
  -- ---- there and back

  back_home : (h : Home) → moved_home (turned x) (moved_home x h) ≡ h
  back_home Predeclared = refl
  back_home (Module n) = ap Module (x.back_there n)

  forth_home : (h : Home) → moved_home x (moved_home (turned x) h) ≡ h
  forth_home Predeclared = refl
  forth_home (Module n) = ap Module (x.there_back n)

  abbrev made_by : Home → ℕ → TypeNo
  made_by h n = record { home = h; number = n }

  pub back_type : (t : TypeNo) → moved_type (turned x) (moved_type x t) ≡ t
  back_type t = ap (λ (h : Home). made_by h t.number) (back_home t.home)

  pub forth_type : (t : TypeNo) → moved_type x (moved_type (turned x) t) ≡ t
  forth_type t = ap (λ (h : Home). made_by h t.number) (forth_home t.home)

  -- ---- cells and checks

  pub load_kept : (ts : Types) (t : TypeNo) → load_code (moved_types x ts) (moved_type x t) ≡ load_code ts t
  load_kept ts t = ap load_tree (tree_kept x ts t)

  pub store_kept : (ts : Types) (t : TypeNo) → store_code (moved_types x ts) (moved_type x t) ≡ store_code ts t
  store_kept ts t = ap store_tree (tree_kept x ts t)

  range_kept : (o : Option Range) (k : ℕ) → in_range (option_map (moved_scalar x) o) k ≡ in_range o k
  range_kept None k = refl
  range_kept (Some s) k = refl

  pub in_type_kept : (ts : Types) (t : TypeNo) (k : ℕ) → in_type (moved_types x ts) (moved_type x t) k ≡ in_type ts t k
  in_type_kept ts t k = ap (λ (o : Option Range). in_range o k) (scalar_at_moved x ts t) ∙ range_kept (scalar_at ts t) k

  base_in_moved : (t : TypeNo) (o : Option Range)
      → base_in (moved_type x t) (option_map (moved_scalar x) o) ≡ moved_type x (base_in t o)
  base_in_moved t None = refl
  base_in_moved t (Some s) = refl

  pub base_moved : (ts : Types) (t : TypeNo) → base_of (moved_types x ts) (moved_type x t) ≡ moved_type x (base_of ts t)
  base_moved ts t = ap (base_in (moved_type x t)) (scalar_at_moved x ts t) ∙ base_in_moved t (scalar_at ts t)

  subrange_kept : (ts : Types) (t : TypeNo) → is_subrange (moved_types x ts) (moved_type x t) ≡ is_subrange ts t
  subrange_kept ts t =
      ap not (ap (λ (b : TypeNo). are_same b (moved_type x t)) (base_moved ts t) ∙ same_type x (base_of ts t) t)

  free_kept : (ts : Types) (t : TypeNo) (c : Bool) (u : TypeNo)
      → is_free (moved_types x ts) (moved_type x t) c (moved_type x u) ≡ is_free ts t c u
  free_kept ts t c u =
      ap (λ (b : Bool). c || b) (two_paths (λ (a b : Bool). a || b) (same_type x t u)
      (two_paths (λ (a b : Bool). not a && b) (subrange_kept ts t)
      (ap (are_same (moved_type x t)) (base_moved ts u) ∙ same_type x t (base_of ts u))))

  pub taken_kept : (ts : Types) (t : TypeNo) (c : Bool) (u : TypeNo)
      → check_taken (moved_types x ts) (moved_type x t) c (moved_type x u) ≡ check_taken ts t c u
  taken_kept ts t c u =
      two_paths (λ (b : Bool) (code : List Instr). if b then [] else code) (free_kept ts t c u)
      (in_type_kept ts t range_fault)

  pub changed_kept : (ts : Types) (t : TypeNo) → check_changed (moved_types x ts) (moved_type x t) ≡ check_changed ts t
  changed_kept ts t =
      two_paths (λ (a b : List Instr). a ++ b)
      (ap (λ (b : TypeNo). in_type (moved_types x ts) b overflow) (base_moved ts t)
      ∙ in_type_kept ts (base_of ts t) overflow)
      (two_paths (λ (b : Bool) (code : List Instr). if b then code else []) (subrange_kept ts t)
      (in_type_kept ts t range_fault))

  -- ---- expressions

  pub arithmetic_kept : (ts : Types) (o : Arithmetic) (t : TypeNo)
      → arithmetic_code (moved_types x ts) o (moved_type x t) ≡ arithmetic_code ts o t
  arithmetic_kept ts op.Add t = ap (λ (code : List Instr). operation Add ∷ code) (in_type_kept ts t overflow)
  arithmetic_kept ts op.Subtract t = ap (λ (code : List Instr). operation Sub ∷ code) (in_type_kept ts t overflow)
  arithmetic_kept ts op.Multiply t = ap (λ (code : List Instr). operation Mul ∷ code) (in_type_kept ts t overflow)
  arithmetic_kept ts op.Divide t = refl
  arithmetic_kept ts op.Remainder t = refl

  ord_moved : (ts : Types) (t : TypeNo) → ord_check (moved_types x ts) (moved_type x t) ≡ ord_check ts t
  ord_moved ts t =
      ap (λ (b : Bool). if b then check_code (pos 0) (pos 2147483647) range_fault else [])
      (ap (λ (b : TypeNo). are_same b integer) (base_moved ts t) ∙ same_type x (base_of ts t) integer)

  pub ord_kept : (ts : Types) (t : TypeNo) → ord_check ts (moved_type (turned x) t) ≡ ord_check (moved_types x ts) t
  ord_kept ts t = sym (ord_moved ts (moved_type (turned x) t)) ∙ ap (ord_check (moved_types x ts)) (forth_type t)

  pub taken_back : (ts : Types) (t : TypeNo) (c : Bool) (u : TypeNo)
      → check_taken ts t c (moved_type (turned x) u) ≡ check_taken (moved_types x ts) (moved_type x t) c u
  taken_back ts t c u =
      sym (taken_kept ts t c (moved_type (turned x) u))
      ∙ ap (check_taken (moved_types x ts) (moved_type x t) c) (forth_type u)

  -- ---- arrays

  lower_kept : (o : Option Range) → from_lower (option_map (moved_scalar x) o) ≡ from_lower o
  lower_kept None = refl
  lower_kept (Some s) = refl

  pub element_kept : (ts : Types) (t : TypeNo) → element_code (moved_types x ts) (moved_type x t) ≡ element_code ts t
  element_kept ts t =
      two_paths (λ (a b : List Instr). a ++ b)
      (ap (λ (o : Option Range). in_range o index_fault) (index_moved x ts t) ∙ range_kept (index_of ts t) index_fault)
      (two_paths (λ (a b : List Instr). a ++ b) (ap from_lower (index_moved x ts t) ∙ lower_kept (index_of ts t))
      (ap (λ (u : Ty). scale_index (size (element_tree u))) (tree_kept x ts t)))

  pub high_kept : (ts : Types) (t : TypeNo) → high_index (moved_types x ts) (moved_type x t) ≡ high_index ts t
  high_kept ts t = ap (λ (n : ℕ). n - 1) (ap elements_of (index_moved x ts t) ∙ elements_kept x (index_of ts t))

  -- ---- other modules

  import_kept : (m : TypedModule) (home : ℕ) → import_place (moved_module x m) (x.there home) ≡ import_place m home
  import_kept m home =
      ap (λ (o : Option ℕ). unwrap_or o 0)
      (place_kept (moved_imported x) (λ i. i.number == x.there home) (λ i. i.number == home)
      (λ i. same_number x i.number home) m.imports)

  base_global_kept : (m : TypedModule) (home : ℕ) → base_global (moved_module x m) (x.there home) ≡ base_global m home
  base_global_kept m home =
      two_paths (λ (b : Bool) (n : ℕ). if b then 1 else 4 + 2 * n) (own_kept x m home) (import_kept m home)

  slots_global_kept : (m : TypedModule) (home : ℕ)
      → slots_global (moved_module x m) (x.there home) ≡ slots_global m home
  slots_global_kept m home =
      two_paths (λ (b : Bool) (n : ℕ). if b then 3 else 5 + 2 * n) (own_kept x m home) (import_kept m home)

  imported_kept : (ts : Types) (o : Option Imported)
      → imported_row (moved_types x ts) (option_map (moved_imported x) o) ≡ imported_row ts o
  imported_kept ts None = refl
  imported_kept ts (Some i) = ap row (map_kept (moved_type x) (tree (moved_types x ts)) (tree ts) (tree_kept x ts)
      i.variables)

  found_kept : (m : TypedModule) (home : ℕ)
      → imported_row (moved_types x m.types)
      (slice_get (map (moved_imported x) m.imports) (import_place (moved_module x m) (x.there home)))
      ≡ imported_row m.types (slice_get m.imports (import_place m home))
  found_kept m home =
      ap (λ (n : ℕ). imported_row (moved_types x m.types) (slice_get (map (moved_imported x) m.imports) n))
      (import_kept m home)
      ∙ ap (imported_row (moved_types x m.types)) (slice_get-map (moved_imported x) m.imports (import_place m home))
      ∙ imported_kept m.types (slice_get m.imports (import_place m home))

  variables_kept : (m : TypedModule) (home : ℕ) → variables_row (moved_module x m) (x.there home) ≡ variables_row m home
  variables_kept m home =
      ap (λ (b : Bool). if b then module_row (moved_module x m) else imported_row (moved_types x m.types)
      (slice_get (map (moved_imported x) m.imports) (import_place (moved_module x m) (x.there home))))
      (own_kept x m home)
      ∙ two_paths (λ (a b : Ty). if is_own m home then a else b) (row_kept x m) (found_kept m home)

  pub global_kept : (m : TypedModule) (v : Variable)
      → global_code (moved_module x m) (moved_variable x v) ≡ global_code m v
  global_kept m v =
      two_paths (λ (n : ℕ) (t : Ty). GlobalGet n ∷ raise_address (offset t (v.number ∷ []))) (base_global_kept m v.home)
      (variables_kept m v.home)

  pub procedure_kept : (m : TypedModule) (f : Procedure)
      → procedure_code (moved_module x m) (moved_procedure x f) ≡ procedure_code m f
  procedure_kept m f =
      ap (λ (n : ℕ). GlobalGet n ∷ extend_word ∷ I64Const (slot_number f) ∷ operation Add ∷ [])
      (slots_global_kept m f.home)

  -- ---- calls

  pub indirect_kept : (numbered : Numbered) (ts : Types) (h : TypeNo)
      → indirect numbered (moved_types x ts) (moved_type x h) ≡ indirect numbered ts h
  indirect_kept numbered ts h =
      two_paths (λ (n : ℕ) (r : Bool). CallIndirect (numbered n r)) (arguments_kept x ts h) (result_kept x ts h)

  pub module_call_kept : (numbered : Numbered) (m : TypedModule) (f : Procedure)
      → module_call numbered (moved_module x m) (moved_procedure x f) ≡ module_call numbered m f
  module_call_kept numbered m f =
      two_paths (λ (b : Bool) (code : List Instr). if b then Call (suc body_index + f.number) ∷ [] else code)
      (own_kept x m f.home)
      (two_paths (λ (n : ℕ) (i : Instr). GlobalGet n ∷ (raise_address (slot_number f) ++ i ∷ []))
      (slots_global_kept m f.home)
      (indirect_kept numbered m.types f.heading))

  pub nested_call_kept : (numbered : Numbered) (m : TypedModule) (f : LocalProcedure)
      → nested_call numbered (moved_module x m) (moved_called x f) ≡ nested_call numbered m f
  nested_call_kept numbered m f =
      ap (λ (n : ℕ). Call (suc body_index + (n + f.number)) ∷ []) (length_map (moved_routine x) m.procedures)
