-- The frames that a procedure sees.
use Rattle.std.proofs.Common.{◌≡◌, ℕ, zero, suc, List, [], ◌∷◌, ◌++◌, map, Option, Some, None, sym, ap, ◌∙◌, append_assoc}
use Rattle.std.proofs.lemmas.List.{map-append, append-nil}
use Rattle.typed_tree.specs.declared.known_types.Types.{Types}
use Rattle.typed_tree.specs.declared.typed_module.Routine.{Routine}
use Rattle.typed_tree.specs.declared.typed_module.Which.{Which}
use Rattle.typed_tree.specs.declared.typed_module.TypedModule.{TypedModule}
use Rattle.def_scheme.specs.Functions.{routine_at}
use Rattle.emit_proc.specs.Around.{around_from, routines_around}
use Rattle.layout_storage.specs.declared.row.Row.{Row}
use Rattle.layout_storage.specs.Rows.{frame_row}
use Rattle.emit_buffer.specs.declared.frame.Framed.{Framed}
use Rattle.emit_buffer.specs.Frames.{AreFramed, IsFramed, routines_in}

-- one more frame
pub more_framed : (types : Types) (fs gs : List Framed) (f : Framed) → gs ≡ fs ++ f ∷ [] → IsFramed types f
    → AreFramed types fs → AreFramed types gs
more_framed types fs gs f h k a =
    ap (λ (fs : List Framed). map (λ f. f.row.now) fs) h
    ∙ map-append (λ (f : Framed). f.row.now) fs (f ∷ [])
    ∙ ap (λ (rows : List Row). rows ++ f.row.now ∷ []) a
    ∙ ap (λ (r : Row). map (frame_row types) (routines_in fs) ++ r ∷ []) k.row
    ∙ sym (map-append (frame_row types) (routines_in fs) (f.routine.now ∷ []))
    ∙ ap (map (frame_row types)) (sym (map-append (λ (f : Framed). f.routine.now) fs (f ∷ [])))
    ∙ ap (λ (fs : List Framed). map (frame_row types) (routines_in fs)) (sym h)

-- and its procedure
pub more_routines : (m : TypedModule) (level k : ℕ) (w : Option Which) (f : Framed) (fs gs hs : List Framed)
    → gs ≡ fs ++ f ∷ [] → level ≡ suc k → routine_at m w ≡ Some f.routine.now
    → routines_in hs ≡ routines_in gs ++ routines_around m k f.routine.now.around
    → routines_in hs ≡ routines_in fs ++ routines_around m level w
more_routines m level k w f fs gs hs h l a e =
    e ∙ ap (λ (gs : List Framed). routines_in gs ++ routines_around m k f.routine.now.around) h
    ∙ ap (λ (rs : List Routine). rs ++ routines_around m k f.routine.now.around)
    (map-append (λ (f : Framed). f.routine.now) fs (f ∷ []))
    ∙ append_assoc (routines_in fs) (f.routine.now ∷ []) (routines_around m k f.routine.now.around)
    ∙ ap (λ (r : Option Routine). routines_in fs ++ around_from (routines_around m k) r) (sym a)
    ∙ ap (λ (n : ℕ). routines_in fs ++ routines_around m n w) (sym l)

pub none_more : (m : TypedModule) (level : ℕ) (w : Option Which) (fs : List Framed) → routine_at m w ≡ None
    → routines_in fs ≡ routines_in fs ++ routines_around m level w
none_more m zero w fs h = sym (append-nil (routines_in fs))
none_more m (suc k) w fs h = sym (append-nil (routines_in fs))
    ∙ ap (λ (r : Option Routine). routines_in fs ++ around_from (routines_around m k) r) (sym h)
