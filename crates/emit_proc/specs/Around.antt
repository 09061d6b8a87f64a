-- The procedures around a procedure, and its code in the making.
use Rattle.std.specs.Prelude.{ℕ, zero, suc, List, [], ◌∷◌, map, Option, Some, None}
use Rattle.wasm_tree.specs.declared.module.Function.{Function}
use Rattle.wasm_tree.specs.Code.{tree}
use Rattle.typed_tree.specs.declared.typed_module.Routine.{Routine}
use Rattle.typed_tree.specs.declared.typed_module.Which.{Which}
use Rattle.typed_tree.specs.declared.typed_module.TypedModule.{TypedModule}
use Rattle.def_scheme.specs.Coded.{Setting}
use Rattle.def_scheme.specs.Functions.{routine_at, from_text, locals_of, setting, numbers_of}
use Rattle.def_scheme.specs.Addresses.{addresses_in}
use Rattle.layout_storage.specs.Frames.{frame}
use Rattle.emit_buffer.specs.Cut.{cut, cut_locals}
use Rattle.emit_buffer.specs.Drafts.{Drafted}

abbrev pub around_from : (Option Which → List Routine) → Option Routine → List Routine
around_from f None = []
around_from f (Some r) = r ∷ f r.around

-- from the procedure around it outwards
abbrev pub routines_around : TypedModule → (level : ℕ) → Option Which → List Routine
routines_around m zero w = []
routines_around m (suc k) w = around_from (routines_around m k) (routine_at m w)

-- no code, with this many characters of texts before it
abbrev pub begin_code : ℕ → Drafted
begin_code at = record { ops = []; counts = from_text at }

-- the function of a code that was made, with its numbers cut
abbrev pub finish_code : (type_index : ℕ) → Drafted → Function
finish_code t d = record {
  type_index = cut t;
  body = record { locals = map cut_locals (locals_of d.counts); code = tree d.ops };
}

-- where the statements of a procedure stand
abbrev pub routine_setting : TypedModule → Routine → Setting
routine_setting m r =
    setting m (frame m.types r ∷ map (frame m.types) (routines_around m r.level r.around))
    (suc (numbers_of m.types r)) (addresses_in r.body)
