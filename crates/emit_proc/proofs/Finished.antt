-- The functions of a module, of the code that was made.
use Rattle.std.proofs.Common.{◌≡◌, ℕ, zero, suc, ◌+◌, Bool, List, [], ◌∷◌, ◌++◌, map, Option, Some, None, refl, sym, ap, ◌∙◌, subst, arith, append_assoc}
use Rattle.wasm_tree.specs.declared.code.Op.{Op}
use Rattle.wasm_tree.specs.declared.instr.Instr.{Instr}
use Rattle.typed_tree.specs.declared.statement.TypedStmt.{TypedStmt}
use Rattle.typed_tree.specs.declared.known_types.Types.{Types}
use Rattle.typed_tree.specs.declared.typed_module.Routine.{Routine}
use Rattle.typed_tree.specs.declared.typed_module.Which.{Which}
use Rattle.typed_tree.specs.declared.typed_module.TypedModule.{TypedModule}
use Rattle.layout_storage.specs.Types.{Ty, frame_of, row}
use Rattle.layout_storage.specs.Sizes.{size}
use Rattle.layout_storage.specs.Frames.{frame, variable_trees}
use Rattle.layout_storage.specs.Extents.{total}
use Rattle.layout_storage.specs.Rows.{frame_row}
use Rattle.layout_storage.specs.Capped.{cap_size}
use Rattle.layout_storage.specs.Texts.{characters, texts_before, routines_texts}
use Rattle.layout_storage.proofs.Rows.{fields_sum, fields_row, row_is}
use Rattle.def_scheme.specs.Coded.{Coded, Counts, Setting, all_coded}
use Rattle.def_scheme.specs.Exprs.{has_result}
use Rattle.def_scheme.specs.Steps.{step_code}
use Rattle.def_scheme.specs.Addresses.{addresses_in}
use Rattle.def_scheme.specs.Functions.{setting, from_text, locals_of, function_of, end_code, enter_code, numbers_of, prologue, own_frame, routine_at, around_in, frames_around, routine_function, module_function}
use Rattle.def_scheme.specs.Modules.{numbering_of}
use Rattle.emit_buffer.specs.Cut.{cut_function}
use Rattle.emit_buffer.specs.Drafts.{Drafted, cut_flat, put, emitted}
use Rattle.emit_buffer.proofs.Emitted.{put_is, cut_append}
use Rattle.emit_buffer.specs.Frames.{frames_of}
use Rattle.emit_proc.specs.Kept.{own}
use Rattle.emit_stmt.specs.Written.{with_steps}
use Rattle.emit_proc.specs.Around.{around_from, routines_around, routine_setting, begin_code, finish_code}
use Rattle.emit_stmt.proofs.Stepped.{steps_are}

-- what stands before, the code of something, and what stands behind
three : (a b c : List Instr) → (cut_flat a ++ cut_flat b) ++ cut_flat c ≡ cut_flat (a ++ (b ++ c))
three a b c = append_assoc (cut_flat a) (cut_flat b) (cut_flat c)
    ∙ ap (λ (ops : List Op). cut_flat a ++ ops) (sym (cut_append b c)) ∙ sym (cut_append a (b ++ c))

made : (t : ℕ) (before after : List Instr) (x : Coded) (s : Setting) (at : ℕ)
    → finish_code t (put after (emitted x s (put before (begin_code at))))
    ≡ cut_function (function_of t before (x s (from_text at)) after)
unfolding emitted
made t before after x s at =
    let code : List Instr = (x s (from_text at)).0 in
    let counts : Counts = (x s (from_text at)).1 in
    ap (λ (d : Drafted). finish_code t (put after (emitted x s d))) (put_is before (begin_code at))
    ∙ ap (finish_code t) (put_is after (emitted x s (record { ops = cut_flat before; counts = from_text at })))
    ∙ ap (λ (ops : List Op). finish_code t (record { ops = ops; counts = counts })) (three before code after)

-- the same of statements
of_steps : (t : ℕ) (before after : List Instr) (s : Setting) (at : ℕ) (xs : List TypedStmt)
    → finish_code t (put after (with_steps s (put before (begin_code at)) xs))
    ≡ cut_function (function_of t before (all_coded (map (step_code (numbering_of s.home)) xs) s (from_text at))
    after)
of_steps t before after s at xs =
    ap (λ (d : Drafted). finish_code t (put after d)) (sym (steps_are s (put before (begin_code at)) xs))
    ∙ made t before after (all_coded (map (step_code (numbering_of s.home)) xs)) s at

frame_bytes : (ts : List Ty) → size (frame_of ts) ≡ 16 + total (map size ts)
unfolding size
frame_bytes ts = ap (λ (n : ℕ). 16 + n) (sym (fields_sum (row ts) (row_is ts)) ∙ ap total (fields_row ts))

pub frame_size : (types : Types) (r : Routine) → (frame_row types r).size ≡ cap_size (size (frame types r))
frame_size types r = ap cap_size (sym (frame_bytes (variable_trees types r)))

-- ---- the body of the module

pub module_is : (m : TypedModule) (at : ℕ) (d : Drafted) → at ≡ characters (routines_texts m)
    → d ≡ with_steps (setting m (frame_of [] ∷ []) 1 (addresses_in m.body)) (put (enter_code 1 16) (begin_code at))
    m.body
    → finish_code 5 d ≡ cut_function (module_function (numbering_of m) m)
module_is m at d h k =
    let s : Setting = setting m (frame_of [] ∷ []) 1 (addresses_in m.body) in
    ap (finish_code 5) k
    ∙ ap (λ (n : ℕ). finish_code 5 (with_steps s (put (enter_code 1 n) (begin_code at)) m.body)) (sym (frame_bytes []))
    ∙ of_steps 5 (enter_code 1 (size (frame_of []))) [] s at m.body
    ∙ ap (λ (n : ℕ). cut_function (function_of 5 (enter_code 1 (size (frame_of [])))
    (all_coded (map (step_code (numbering_of m)) m.body) s (from_text n)) [])) h

-- ---- procedures

none_around : (m : TypedModule) (k : ℕ) → frames_around m k None ≡ []
none_around m zero = refl
none_around m (suc k) = none_around m k

around_one : (m : TypedModule) (k : ℕ) (r : Option Routine)
    → ((w : Option Which) → frames_around m k w ≡ map (frame m.types) (routines_around m k w))
    → own_frame m r ++ frames_around m k (around_in r) ≡ map (frame m.types) (around_from (routines_around m k) r)
around_one m k None h = none_around m k
around_one m k (Some r) h = ap (λ (ts : List Ty). frame m.types r ∷ ts) (h r.around)

pub around_are : (m : TypedModule) (k : ℕ) (w : Option Which)
    → frames_around m k w ≡ map (frame m.types) (routines_around m k w)
around_are m zero w = refl
around_are m (suc k) w = around_one m k (routine_at m w) (around_are m k)

pub routine_is : (m : TypedModule) (w : Which) (r : Routine) (at n : ℕ) (result : Bool) (d : Drafted)
    → at ≡ characters (texts_before m w m.order) → n ≡ numbers_of m.types r → result ≡ has_result m.types r.heading
    → d ≡ put (end_code result) (with_steps (routine_setting m r)
    (put (prologue m.types r (suc n) (suc (suc n))) (begin_code at)) r.body)
    → finish_code (numbering_of m n result) d ≡ cut_function (routine_function (numbering_of m) m w r)
routine_is m w r at n result d h e f k =
    let s : Setting = routine_setting m r in
    let count = numbers_of m.types r in
    let gives = has_result m.types r.heading in
    let before : List Instr = prologue m.types r (suc count) (suc (suc count)) in
    ap (finish_code (numbering_of m n result)) k
    ∙ ap (λ (n : ℕ). finish_code (numbering_of m n result)
    (put (end_code result) (with_steps s (put (prologue m.types r (suc n) (suc (suc n))) (begin_code at)) r.body)))
    e
    ∙ ap (λ (b : Bool). finish_code (numbering_of m count b)
    (put (end_code b) (with_steps s (put before (begin_code at)) r.body))) f
    ∙ of_steps (numbering_of m count gives) before (end_code gives) s at r.body
    ∙ ap (λ (frames : List Ty). cut_function
    (function_of (numbering_of m count gives) before
    (all_coded (map (step_code (numbering_of m)) r.body)
    (setting m (frame m.types r ∷ frames) (suc count) (addresses_in r.body)) (from_text at)) (end_code gives)))
    (sym (around_are m r.level r.around))
    ∙ ap (λ (n : ℕ). cut_function (function_of (numbering_of m count gives) before
    (all_coded (map (step_code (numbering_of m)) r.body)
    (setting m (frame m.types r ∷ frames_around m r.level r.around) (suc count) (addresses_in r.body))
    (from_text n)) (end_code gives))) h

-- the code of a procedure
one_more : (n : ℕ) → 1 + n ≡ suc n
one_more n = omega arith

two_more : (n : ℕ) → 2 + n ≡ suc (suc n)
two_more n = omega arith

standing : (m : TypedModule) (r : Routine) (s : Setting) (rs : List Routine) (n arguments addresses : ℕ)
    → s ≡ setting m (frames_of m.types rs) arguments addresses → rs ≡ r ∷ routines_around m r.level r.around
    → arguments ≡ 1 + n → n ≡ numbers_of m.types r → addresses ≡ addresses_in r.body
    → s ≡ routine_setting m r
standing m r s rs n arguments addresses h k a e b =
    h ∙ ap (λ (rs : List Routine). setting m (frames_of m.types rs) arguments addresses) k
    ∙ ap (λ (n : ℕ). setting m (frames_of m.types (r ∷ routines_around m r.level r.around)) n addresses)
    (a ∙ one_more n ∙ ap (λ (n : ℕ). suc n) e)
    ∙ ap (λ (n : ℕ). setting m (frames_of m.types (r ∷ routines_around m r.level r.around)) (suc (numbers_of m.types r))
    n) b

pub own_frame_is : (m : TypedModule) (r : Routine) (s : Setting) (rs : List Routine) (arguments addresses : ℕ)
    → s ≡ setting m (frames_of m.types rs) arguments addresses → rs ≡ r ∷ routines_around m r.level r.around
    → own s ≡ frame s.home.types r
own_frame_is m r s rs arguments addresses h k =
    let e : s ≡ setting m (frames_of m.types (r ∷ routines_around m r.level r.around)) arguments addresses = h
    ∙ ap (λ (rs : List Routine). setting m (frames_of m.types rs) arguments addresses) k in
    subst (λ (s : Setting). own s ≡ frame s.home.types r) (sym e) refl

pub home_is : (m : TypedModule) (s : Setting) (frames : List Ty) (arguments addresses : ℕ)
    → s ≡ setting m frames arguments addresses → s.home ≡ m
home_is m s frames arguments addresses h = ap (λ (s : Setting). s.home) h

pub drafted : (m : TypedModule) (r : Routine) (s : Setting) (rs : List Routine) (n arguments copy addresses : ℕ)
    (d e f : Drafted)
    → s ≡ setting m (frames_of m.types rs) arguments addresses → rs ≡ r ∷ routines_around m r.level r.around
    → arguments ≡ 1 + n → copy ≡ 2 + n → n ≡ numbers_of m.types r → addresses ≡ addresses_in r.body
    → e ≡ put (prologue s.home.types r arguments copy) d → f ≡ with_steps s e r.body
    → f ≡ with_steps (routine_setting m r) (put (prologue m.types r (suc n) (suc (suc n))) d) r.body
drafted m r s rs n arguments copy addresses d e f h k a b c g p q =
    q ∙ ap (λ (s : Setting). with_steps s e r.body) (standing m r s rs n arguments addresses h k a c g)
    ∙ ap (λ (e : Drafted). with_steps (routine_setting m r) e r.body)
    (p ∙ ap (λ (m : TypedModule). put (prologue m.types r arguments copy) d)
    (home_is m s (frames_of m.types rs) arguments addresses h)
    ∙ ap (λ (n : ℕ). put (prologue m.types r n copy) d) (a ∙ one_more n)
    ∙ ap (λ (k : ℕ). put (prologue m.types r (suc n) k) d) (b ∙ two_more n))
