-- The module of each well formed body is valid.
use Rattle.std.proofs.Common.{◌≡◌, ℕ, Bool, true, false, zero, suc, ◌+◌, ◌^◌, ◌<◌, ◌≤◌, List, [], ◌∷◌, ◌++◌, length, map, Some, refl, ap, ◌∙◌, arith}
use Rattle.std.specs.Prelude.{slice_get}
use Rattle.std.specs.List.{AllByRecursion as ByRecursion, range_with_len}
use Rattle.std.proofs.lemmas.List.{length-append}
use Rattle.std.proofs.lemmas.List.Elements.{All-nil, All-from_recursion}
use Rattle.wasm_tree.specs.declared.kinds.ValueType.TheVariants.{I32}
use Rattle.wasm_tree.specs.declared.instr.Instr.TheVariants.{GlobalGet, outs-GlobalGet}
use Rattle.wasm_tree.specs.declared.module.Function.{Function}
use Rattle.wasm_tree.specs.Validity.{Context, initial_context, is_constant, IsConstant, IsConstantOf, AreLimits, IsFuncType, IsImport, IsFunction, IsGlobal, IsExport, IsElement, IsData, AreKinds, AreBodies, IsValid}
use Rattle.typed_tree.specs.declared.typed_module.Routine.{Routine}
use Rattle.typed_tree.specs.declared.typed_module.Which.{Which}
use Rattle.typed_tree.specs.declared.typed_module.Which.TheVariants as which
use Rattle.typed_tree.specs.declared.typed_module.TypedModule.{TypedModule}
use Rattle.layout_storage.specs.Texts.{module_texts}
use Rattle.def_scheme.specs.Scheme.{imported_globals, host_imports}
use Rattle.def_scheme.specs.Coded.{body_index}
use Rattle.def_scheme.specs.Functions.{routine_function, functions_from}
use Rattle.def_scheme.specs.Signatures.{Signature, type_of, results_of}
use Rattle.def_scheme.specs.Modules.{numbering_of, signatures, slots, all_characters, data_of, typed_module}
use Rattle.law_modules.specs.WellFormed.{IsBody, IsWellFormed}
use Rattle.law_modules.proofs.Names.{◌▪◌}
use Rattle.law_modules.proofs.LinkModule.{limits_from}
use Rattle.law_modules.proofs.Leading.{glob, done}
use Rattle.law_modules.proofs.Own.{whole, own, routines, indices, functions_are, tables_count, memories_count, at_place, of_own, of_nested}
use Rattle.law_modules.proofs.Functions.{routine_valid, module_valid, copy_valid, fill_valid, check_valid, div_valid, mod_valid}

globals_imported : (c : Context) (ms : List (List ℕ)) → 0 < length c.types
    → ByRecursion (IsImport c) (imported_globals ms ++ host_imports)
globals_imported c [] lt = (lt, (lt, tt))
globals_imported c (m ∷ ms) lt = (tt, (tt, globals_imported c ms lt))

one_result : (r : Bool) → length (results_of r) ≤ 1
one_result true = omega arith
one_result false = omega arith

types_fine : (ss : List Signature) → ByRecursion IsFuncType (map type_of ss)
types_fine [] = tt
types_fine (s ∷ ss) = (one_result s.result, types_fine ss)

range_below : (a n most : ℕ) → a + n ≤ most → ByRecursion (λ f. f < most) (range_with_len a n)
range_below a zero most le = tt
range_below a (suc n) most le = (omega (arith, le), range_below (a + 1) n most (omega (arith, le)))

indices_count : (fs : List Function) → length (indices fs) ≡ length fs
indices_count [] = refl
indices_count (f ∷ fs) = ap suc (indices_count fs)

module _ (m : TypedModule) where
  -- the index of a global of the module's own
  place_of : (g : ℕ) → slice_get (own m).globals g ≡ Some I32 → IsConstantOf (own m) I32 (GlobalGet g ∷ [])
  place_of g there = record {
    constant = All-from_recursion IsConstant (GlobalGet g ∷ []) (ap is_constant (outs-GlobalGet g), tt);
    typed = glob g [] there (done (I32 ∷ []));
  }

  data_fine : (bs : List ℕ) → ByRecursion (IsData (own m)) (data_of bs)
  data_fine [] = tt
  data_fine (b ∷ bs) = ((omega (arith, memories_count m), place_of 2 refl), tt)

  count_routines : (w : ℕ → Which) (j : ℕ) (rs : List Routine)
      → length (functions_from (numbering_of m) m w j rs) ≡ length rs
  count_routines w j [] = refl
  count_routines w j (r ∷ rs) = ap suc (count_routines w (suc j) rs)

  enough : body_index + slots m ≤ length (own m).functions
  enough =
      let a : length (own m).functions ≡ 8 + length (indices (routines m)) =
      ap (λ (ks : List ℕ). length ks) (functions_are m) ∙ (omega arith) in
      let b : length (indices (routines m)) ≡ length (routines m) = indices_count (routines m) in
      let c : length (routines m) ≡ length (functions_from (numbering_of m) m which.Module 0 m.procedures) + length
      (functions_from (numbering_of m) m which.Local 0 m.locals) =
      length-append (functions_from (numbering_of m) m which.Module 0 m.procedures)
      (functions_from (numbering_of m) m which.Local 0 m.locals) in
      let d = count_routines which.Module 0 m.procedures in
      omega (arith, a, b, c, d)

  -- each procedure of a list is valid, whatever it is called
  AreFine : List Routine → Type 0
  AreFine rs = (k : ℕ) (r : Routine) → slice_get rs k ≡ Some r → (w : Which)
      → IsFunction (own m) (routine_function (numbering_of m) m w r)

  routines_fine : (w : ℕ → Which) (j : ℕ) (rs : List Routine) (more : List Function) → AreFine rs
      → ByRecursion (IsFunction (own m)) more
      → ByRecursion (IsFunction (own m)) (functions_from (numbering_of m) m w j rs ++ more)
  unfolding AreFine
  routines_fine w j [] more fine rest = rest
  routines_fine w j (r ∷ rs) more fine rest =
      (fine 0 r refl (w j), routines_fine w (suc j) rs more (λ k x e. fine (suc k) x e) rest)

  alone_fine : (w : ℕ → Which) (j : ℕ) (rs : List Routine) → AreFine rs
      → ByRecursion (IsFunction (own m)) (functions_from (numbering_of m) m w j rs)
  unfolding AreFine
  alone_fine w j [] fine = tt
  alone_fine w j (r ∷ rs) fine = (fine 0 r refl (w j), alone_fine w (suc j) rs (λ k x e. fine (suc k) x e))

  module_kinds : AreKinds (own m) (whole m)
  module_kinds = record {
    types = All-from_recursion IsFuncType (whole m).types
        ((omega arith) ▪ (omega arith) ▪ (omega arith) ▪ (omega arith) ▪ (omega arith) ▪ (omega arith) ▪ types_fine
        (signatures m));
    imports =
        All-from_recursion (IsImport (own m)) (whole m).imports
        (limits_from 65536 1 (omega arith) ▪ limits_from (2 ^ 32) 1 (omega arith) ▪ tt ▪ tt ▪ tt ▪ tt ▪ globals_imported
        (own m) (map (λ i. i.name) m.imports) (omega arith));
    tables = All-nil (λ t. AreLimits (2 ^ 32) t.limits);
    memories = All-nil (λ t. AreLimits 65536 t.limits);
    exports = All-nil (IsExport (own m));
  }

  procedures_fine : IsWellFormed m → AreFine m.procedures
  unfolding AreFine
  procedures_fine wf k r e w = routine_valid m wf w r (of_own m k r e)
      (at_place (IsBody m) m.procedures k r e wf.procedures)

  nested_fine : IsWellFormed m → AreFine m.locals
  unfolding AreFine
  nested_fine wf k r e w = routine_valid m wf w r (of_nested m k r e) (at_place (IsBody m) m.locals k r e wf.locals)

  module_bodies : IsWellFormed m → AreBodies (own m) (whole m)
  module_bodies wf = record {
    functions =
        All-from_recursion (IsFunction (own m)) (whole m).functions
        (copy_valid m ▪ fill_valid m ▪ check_valid m ▪ div_valid m ▪ mod_valid m ▪ module_valid m wf
        ▪ routines_fine which.Module 0 m.procedures (functions_from (numbering_of m) m which.Local 0 m.locals)
        (procedures_fine wf) (alone_fine which.Local 0 m.locals (nested_fine wf)));
    elements =
        All-from_recursion (IsElement (own m)) (whole m).elements (
          (
            omega (arith, tables_count m),
            place_of 3 refl,
            All-from_recursion (λ f. f < length (own m).functions)
                (range_with_len body_index (slots m))
                (range_below body_index (slots m) (length (own m).functions) enough),
          ),
          tt,
        );
    segments = All-from_recursion (IsData (own m)) (whole m).data (data_fine (all_characters (module_texts m)));
  }

  pub typed_module_valid : IsWellFormed m → IsValid (typed_module m)
  typed_module_valid wf = record {
    kinds = module_kinds;
    bodies = module_bodies wf;
    globals = All-nil (IsGlobal (initial_context (whole m)));
    one_table = omega (arith, tables_count m);
    one_memory = omega (arith, memories_count m);
    names = tt;
  }
