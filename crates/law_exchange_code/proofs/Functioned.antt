-- The functions of a module have no numbers of modules.
use Rattle.std.proofs.Common.{map, ◌≡◌, ℕ, zero, suc, ◌+◌, Bool, List, [], ◌∷◌, ◌++◌, Option, Some, None, refl, sym, ap, ◌∙◌}
use Rattle.std.specs.Prelude.{if◌then◌else◌}
use Rattle.std.specs.Option.{option_map}
use Rattle.std.proofs.lemmas.Option.{slice_get-map}
use Rattle.wasm_tree.specs.declared.module.Function.{Function}
use Rattle.wasm_tree.specs.declared.instr.Instr.{Instr}
use Rattle.wasm_tree.specs.declared.instr.Instr.TheVariants.{LocalGet}
use Rattle.typed_tree.specs.declared.shape.Formal.{Formal}
use Rattle.typed_tree.specs.declared.statement.TypedStmt.{TypedStmt}
use Rattle.typed_tree.specs.declared.known_types.Types.{Types}
use Rattle.typed_tree.specs.declared.typed_module.Routine.{Routine}
use Rattle.typed_tree.specs.declared.typed_module.Which.{Which}
use Rattle.typed_tree.specs.declared.typed_module.Which.TheVariants as which
use Rattle.typed_tree.specs.declared.typed_module.TypedModule.{TypedModule}
use Rattle.layout_storage.specs.Types.{Ty, frame_of}
use Rattle.layout_storage.specs.Sizes.{size}
use Rattle.layout_storage.specs.Frames.{formals_of, frame}
use Rattle.layout_storage.specs.Texts.{characters, routines_texts, texts_before}
use Rattle.def_scheme.specs.Coded.{Coded, Counts}
use Rattle.def_scheme.specs.Exprs.{Numbered, arguments_of, has_result}
use Rattle.def_scheme.specs.Steps.{body_code}
use Rattle.def_scheme.specs.Addresses.{addresses_in}
use Rattle.def_scheme.specs.Functions.{routine_at, own_frame, around_in, frames_around, link_arguments, numbers_of, enter_code, link_kept, word_kept, value_kept, open_copied, formal_kept, formals_kept, prologue, setting, from_text, function_of, end_code, function_code, routine_coded, routine_function, functions_from, module_coded, module_function}
use Rattle.def_scheme.specs.Signatures.{number_of}
use Rattle.def_scheme.specs.Modules.{helpers, numbering_of, functions}
use Rattle.def_exchange.specs.Moved.{Exchange, moved_type, moved_formal, moved_types}
use Rattle.def_exchange.specs.MovedTrees.{moved_stmt, moved_routine, moved_module}
use Rattle.law_exchange_code.proofs.Lists.{two_paths}
use Rattle.law_exchange_code.proofs.Lookups.{formals_moved, result_kept}
use Rattle.law_exchange_code.proofs.Shaped.{tree_kept}
use Rattle.law_exchange_code.proofs.Stored.{frame_kept}
use Rattle.law_exchange_code.proofs.Texted.{routines_kept, before_kept}
use Rattle.law_exchange_code.proofs.Signing.{numbers_kept, signatures_kept}
use Rattle.law_exchange_code.proofs.Addressed.{addresses_kept}
use Rattle.law_exchange_code.proofs.StmtSeen.{body_kept}

module _ (x : Exchange) where
  -- ---- the prologue

  abbrev formal_with : (top p : ℕ) → Ty → (v i : ℕ) → Formal → Ty → List Instr
  formal_with top p f v i a t =
      if a.is_open
      then (if a.is_var
      then word_kept f v (0 ∷ []) (LocalGet i ∷ []) ++ word_kept f v (1 ∷ []) (LocalGet (suc i) ∷ [])
      else open_copied top p f v i (size t))
      else (if a.is_var then word_kept f v [] (LocalGet i ∷ [])
      else value_kept f v i t)

  one_formal : (ts : Types) (top p : ℕ) (f : Ty) (v i : ℕ) (a : Formal)
      → formal_kept (moved_types x ts) top p f v i (moved_formal x a) ≡ formal_kept ts top p f v i a
  one_formal ts top p f v i a = ap (formal_with top p f v i a) (tree_kept x ts a.of)

  all_formals : (ts : Types) (top p : ℕ) (f : Ty) (v i : ℕ) (fs : List Formal)
      → formals_kept (moved_types x ts) top p f v i (map (moved_formal x) fs) ≡ formals_kept ts top p f v i fs
  all_formals ts top p f v i [] = refl
  all_formals ts top p f v i (a ∷ fs) =
      two_paths (λ (c d : List Instr). c ++ d) (one_formal ts top p f v i a)
      (all_formals ts top p f (suc v) (i + arguments_of a) fs)

  prologue_kept : (ts : Types) (r : Routine) (top p : ℕ)
      → prologue (moved_types x ts) (moved_routine x r) top p ≡ prologue ts r top p
  prologue_kept ts r top p =
      ap (λ (f : Ty). enter_code top (size f)
      ++ (link_kept r ++ formals_kept (moved_types x ts) top p f 0 (suc (link_arguments r))
      (formals_of (moved_types x ts) (moved_type x r.heading)))) (frame_kept x ts r)
      ∙ ap (λ (code : List Instr). enter_code top (size (frame ts r)) ++ (link_kept r ++ code))
      (ap (formals_kept (moved_types x ts) top p (frame ts r) 0 (suc (link_arguments r)))
      (formals_moved x ts r.heading)
      ∙ all_formals ts top p (frame ts r) 0 (suc (link_arguments r)) (formals_of ts r.heading))

module _ (x : Exchange) (m : TypedModule) where
  abbrev there : TypedModule
  there = moved_module x m

  -- ---- frames

  routine_moved : (o : Option Which) → routine_at there o ≡ option_map (moved_routine x) (routine_at m o)
  routine_moved None = refl
  routine_moved (Some (which.Module n)) = slice_get-map (moved_routine x) m.procedures n
  routine_moved (Some (which.Local n)) = slice_get-map (moved_routine x) m.locals n

  own_frame_kept : (o : Option Routine) → own_frame there (option_map (moved_routine x) o) ≡ own_frame m o
  own_frame_kept None = refl
  own_frame_kept (Some r) = ap (λ (t : Ty). t ∷ []) (frame_kept x m.types r)

  around_kept : (o : Option Routine) → around_in (option_map (moved_routine x) o) ≡ around_in o
  around_kept None = refl
  around_kept (Some r) = refl

  frames_kept : (level : ℕ) (w : Option Which) → frames_around there level w ≡ frames_around m level w
  frames_kept zero w = refl
  frames_kept (suc k) w =
      two_paths (λ (a b : List Ty). a ++ b) (ap (own_frame there) (routine_moved w) ∙ own_frame_kept (routine_at m w))
      (ap (λ (o : Option Routine). frames_around there k (around_in o)) (routine_moved w)
      ∙ ap (frames_around there k) (around_kept (routine_at m w)) ∙ frames_kept k (around_in (routine_at m w)))

module _ (x : Exchange) (numbered : Numbered) (m : TypedModule) where
  function_kept : (frames : List Ty) (arguments at : ℕ) (body : List TypedStmt)
      → function_code numbered (moved_module x m) frames arguments at (map (moved_stmt x) body)
      ≡ function_code numbered m frames arguments at body
  function_kept frames arguments at body =
      ap (λ (n : ℕ). body_code numbered (map (moved_stmt x) body) (setting (moved_module x m) frames arguments n)
      (from_text at)) (addresses_kept x body)
      ∙ sym (ap (λ (f : Coded). f (setting m frames arguments (addresses_in body)) (from_text at))
      (body_kept x numbered body))

  routine_coded_kept : (r : Routine) (at : ℕ)
      → routine_coded numbered (moved_module x m) (moved_routine x r) at ≡ routine_coded numbered m r at
  routine_coded_kept r at =
      two_paths (λ (frames : List Ty) (n : ℕ). function_code numbered (moved_module x m) frames (suc n) at
      (map (moved_stmt x) r.body))
      (two_paths (λ (t : Ty) (ts : List Ty). t ∷ ts) (frame_kept x m.types r) (frames_kept x m r.level r.around))
      (numbers_kept x m.types r)
      ∙ function_kept (frame m.types r ∷ frames_around m r.level r.around) (suc (numbers_of m.types r)) at r.body

  routine_function_kept : (w : Which) (r : Routine)
      → routine_function numbered (moved_module x m) w (moved_routine x r) ≡ routine_function numbered m w r
  routine_function_kept w r =
      two_paths (λ (n : ℕ) (b : Bool). function_of (numbered n b)
      (prologue (moved_types x m.types) (moved_routine x r) (suc n) (suc (suc n)))
      (routine_coded numbered (moved_module x m) (moved_routine x r)
      (characters (texts_before (moved_module x m) w m.order))) (end_code b))
      (numbers_kept x m.types r) (result_kept x m.types r.heading)
      ∙ two_paths (λ (p : List Instr) (c : List Instr × Counts). function_of
      (numbered (numbers_of m.types r) (has_result m.types r.heading)) p c
      (end_code (has_result m.types r.heading)))
      (prologue_kept x m.types r (suc (numbers_of m.types r)) (suc (suc (numbers_of m.types r))))
      (ap (routine_coded numbered (moved_module x m) (moved_routine x r))
      (ap characters (before_kept x m w m.order))
      ∙ routine_coded_kept r (characters (texts_before m w m.order)))

  functions_from_kept : (w : ℕ → Which) (n : ℕ) (rs : List Routine)
      → functions_from numbered (moved_module x m) w n (map (moved_routine x) rs) ≡ functions_from numbered m w n rs
  functions_from_kept w n [] = refl
  functions_from_kept w n (r ∷ rs) =
      two_paths (λ (f : Function) (fs : List Function). f ∷ fs) (routine_function_kept (w n) r)
      (functions_from_kept w (suc n) rs)

  module_coded_kept : module_coded numbered (moved_module x m) ≡ module_coded numbered m
  module_coded_kept =
      ap (λ (at : ℕ). function_code numbered (moved_module x m) (frame_of [] ∷ []) 1 at (map (moved_stmt x) m.body))
      (ap characters (routines_kept x m))
      ∙ function_kept (frame_of [] ∷ []) 1 (characters (routines_texts m)) m.body

  module_function_kept : module_function numbered (moved_module x m) ≡ module_function numbered m
  module_function_kept = ap (λ (c : List Instr × Counts). function_of 5 (enter_code 1 (size (frame_of []))) c [])
      module_coded_kept

  abbrev pub functions_by : TypedModule → List Function
  functions_by n =
      helpers ++ (module_function numbered n ∷ (functions_from numbered n which.Module 0 n.procedures
      ++ functions_from numbered n which.Local 0 n.locals))

  pub functions_by_kept : functions_by (moved_module x m) ≡ functions_by m
  functions_by_kept =
      two_paths (λ (f : Function) (fs : List Function). helpers ++ (f ∷ fs)) module_function_kept
      (two_paths (λ (a b : List Function). a ++ b) (functions_from_kept which.Module 0 m.procedures)
      (functions_from_kept which.Local 0 m.locals))

module _ (x : Exchange) (m : TypedModule) where
  pub functions_kept : functions (moved_module x m) ≡ functions m
  functions_kept =
      ap (λ ss. functions_by x (number_of ss) m (moved_module x m)) (signatures_kept x m)
      ∙ functions_by_kept x (numbering_of m) m
