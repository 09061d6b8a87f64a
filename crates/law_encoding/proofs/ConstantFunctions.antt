-- The constants in the functions of a small typed module fit.
use Rattle.std.proofs.Common.{map, ◌≡◌, ℕ, zero, suc, ◌+◌, ◌≤◌, ◌<◌, Bool, true, false, List, [], ◌∷◌, ◌++◌, Option, Some, None, refl, sym, ap, subst, arith}
use Rattle.std.specs.Prelude.{if◌then◌else◌, drop, slice_get, nat_lt}
use Rattle.std.specs.List.{list_all}
use Rattle.std.proofs.lemmas.Bool.{and_parts}
use Rattle.wasm_tree.specs.declared.instr.Instr.{Instr}
use Rattle.wasm_tree.specs.declared.instr.Instr.TheVariants.{LocalGet, I32Const, Call}
use Rattle.wasm_tree.specs.declared.module.Function.{Function}
use Rattle.typed_tree.specs.declared.known_types.Types.{Types}
use Rattle.typed_tree.specs.declared.shape.Formal.{Formal}
use Rattle.typed_tree.specs.declared.typed_module.Routine.{Routine}
use Rattle.typed_tree.specs.declared.typed_module.TypedModule.{TypedModule}
use Rattle.typed_tree.specs.declared.typed_module.Which.{Which}
use Rattle.typed_tree.specs.declared.typed_module.Which.TheVariants as which
use Rattle.typed_tree.specs.declared.types.TypeNo.{TypeNo}
use Rattle.layout_storage.specs.Types.{Ty, Scalar, Cell, Hidden, Array, Nothing, Field, frame_of, IsPlain, IsScalar}
use Rattle.layout_storage.specs.Shapes.{tree}
use Rattle.layout_storage.specs.Sizes.{size, offset}
use Rattle.layout_storage.specs.Frames.{frame, formals_of}
use Rattle.layout_storage.specs.Texts.{characters, texts_before, routines_texts}
use Rattle.def_meaning.specs.Answer.{no_return, storage_fault}
use Rattle.def_scheme.specs.Coded.{wrap_word, copy}
use Rattle.def_scheme.specs.Exprs.{Numbered, arguments_of, has_result}
use Rattle.def_scheme.specs.Functions.{routine_of, routine_at, own_frame, around_in, frames_around, limit_check, enter_code, link_kept, formal_address, word_kept, value_kept, bytes_code, open_copied, formals_kept, end_code, routine_coded, routine_function, functions_from, module_coded, module_function}
use Rattle.def_scheme.specs.Helpers.{copy_turn, copy_code, fill_turn, fill_code, check_tests, check_code, divisor_checked, div_rest, mod_rest}
use Rattle.def_scheme.specs.Modules.{helpers, numbering_of, functions}
use Rattle.law_modules.specs.Linked.{Program}
use Rattle.law_modules.specs.Ranges.{AreRanged}
use Rattle.law_modules.proofs.Known.{range_at}
use Rattle.law_modules.proofs.Own.{at_place}
use Rattle.law_simulation.specs.Frames.{Kind, Kept, Alias, Open, Kinds, formal_kind, kinds_of, AreFrames}
use Rattle.law_simulation.specs.Linked.{context, environment_of, text_of}
use Rattle.law_simulation.specs.Modules.{IsTypedModule}
use Rattle.law_simulation.specs.Passing.{result_of}
use Rattle.law_simulation.specs.RunsPrograms.{ground}
use Rattle.law_simulation.specs.Scene.{AreSmall}
use Rattle.law_simulation.specs.TreesTyped.{Context, own_kinds, kinds_around}
use Rattle.law_simulation.proofs.Formed.{frame_is}
use Rattle.law_simulation.proofs.Plain.{tree_plain}
use Rattle.law_encoding.specs.Fits.{max_bytes, few_entries}
use Rattle.law_encoding.specs.SmallParts.{AreCells, HasSmallParts, IsSmallModule}
use Rattle.law_encoding.specs.ValidNumbers.{code_constants_fit}
use Rattle.law_encoding.proofs.CodeFits.{both_true}
use Rattle.law_encoding.proofs.Constants.{stops, jumps, jumps_if, calls, gets, sets, tees, globals, loads, stores, address, amount, computes, Const, const_end, ◌▹◌, const_both, const_either, blocks, loops, tests}
use Rattle.law_encoding.proofs.ConstantPieces.{scalar_low, const_raised, const_fault, const_store, const_word}
use Rattle.law_encoding.proofs.ConstantCode.{AreRooms, slot_in, own_component, first_hidden, second_hidden, few_bytes}
use Rattle.law_encoding.proofs.ConstantSteps.{constants_fit}

-- ---- helpers

const_copy_turn : Const copy_turn
const_copy_turn =
    gets 2 ▹ computes _ ▹ jumps_if 1 ▹ gets 0 ▹ gets 1 ▹ loads _ ▹ stores _ ▹ gets 0 ▹ address 1 (omega arith) ▹
    computes _ ▹ sets 0 ▹ gets 1 ▹ address 1 (omega arith) ▹ computes _ ▹ sets 1
    ▹ gets 2 ▹ address _ (omega arith) ▹ computes _ ▹ sets 2 ▹ jumps 0 ▹ const_end

const_fill_turn : Const fill_turn
const_fill_turn =
    gets 1 ▹ computes _ ▹ jumps_if 1 ▹ gets 0 ▹ amount 0 (omega arith) ▹ stores _ ▹ gets 0 ▹ address 1 (omega arith) ▹
    computes _ ▹ sets 0 ▹ gets 1 ▹ address _ (omega arith) ▹ computes _ ▹ sets 1 ▹ jumps 0 ▹ const_end

const_copy : Const copy_code
const_copy = blocks None (loops None const_copy_turn ▹ const_end) ▹ const_end

const_fill : Const fill_code
const_fill = blocks None (loops None const_fill_turn ▹ const_end) ▹ const_end

const_check_tests : Const check_tests
const_check_tests = gets 0 ▹ gets 1 ▹ computes _ ▹ jumps_if 0 ▹ gets 0 ▹ gets 2 ▹ computes _ ▹ jumps_if 0 ▹ jumps 1 ▹
    const_end

const_check : Const check_code
const_check = blocks None (blocks None const_check_tests ▹ gets 3 ▹ calls 1 ▹ stops ▹ const_end) ▹ gets 0 ▹ const_end

const_divisor : {rest : List Instr} → Const rest → Const (divisor_checked rest)
const_divisor p = gets 1 ▹ amount 1 (omega arith) ▹ amount _ (omega arith) ▹ amount _ (omega arith) ▹ calls 4 ▹ sets 1 ▹
    p

const_div : Const div_rest
const_div = gets 0 ▹ gets 1 ▹ computes _ ▹ gets 0 ▹ gets 1 ▹ computes _ ▹ amount 0 (omega arith) ▹ computes _ ▹ computes
    _ ▹ computes _ ▹ const_end

const_mod : Const mod_rest
const_mod = gets 0 ▹ gets 1 ▹ computes _ ▹ tees 2 ▹ gets 2 ▹ amount 0 (omega arith) ▹ computes _ ▹ computes _ ▹ gets 1 ▹
    computes _ ▹ computes _ ▹ const_end

abbrev AllConst : List Function → Type 0
AllConst fs = list_all (λ (f : Function). code_constants_fit f.body.code) fs ≡ true

helpers_const : AllConst helpers
helpers_const = both_true _ _ const_copy.fit
    (both_true _ _ const_fill.fit (both_true _ _ const_check.fit
    (both_true _ _ (const_divisor const_div).fit (both_true _ _ (const_divisor const_mod).fit refl))))

all_both : (fs gs : List Function) → AllConst fs → AllConst gs → AllConst (fs ++ gs)
all_both [] gs p q = q
all_both (f ∷ fs) gs p q = let both = and_parts (code_constants_fit f.body.code)
    (list_all (λ (f : Function). code_constants_fit f.body.code) fs) p in both_true _ _ both.0 (all_both fs gs both.1 q)

-- ---- the prologue

const_limit : Const limit_check
const_limit = globals 0 ▹ computes _ ▹ tests None (const_fault storage_fault (omega arith)) ▹ const_end

const_enter : (top bytes : ℕ) → bytes < max_bytes → Const (enter_code top bytes)
const_enter top bytes h = gets 0 ▹ const_both (const_raised bytes h)
    (tees top ▹ const_both const_limit (gets 0 ▹ address bytes h ▹ calls _ ▹ const_end))

const_link_kept : (r : Routine) → Const (link_kept r)
const_link_kept r = const_either (nat_lt 1 r.level) (gets 0 ▹ gets 1 ▹ stores _ ▹ const_end) const_end

const_end_code : (b : Bool) → Const (end_code b)
const_end_code true = const_fault no_return (omega arith)
const_end_code false = const_end

few_amount : (n : ℕ) → n ≤ few_entries → n < 18446744073709551616
few_amount n h = omega (arith, h)

const_bytes : (h element : ℕ) → element ≤ few_entries → Const (bytes_code h element)
const_bytes h element l = gets h ▹ amount 1 (omega arith) ▹ computes _ ▹ amount element (few_amount element l) ▹
    computes _ ▹ computes _ ▹ const_end

module _ (f : Ty) (v : ℕ) where
  const_formal : (path : List ℕ) → offset f (suc v ∷ path) < max_bytes → Const (formal_address f v path)
  const_formal path h = gets 0 ▹ const_raised _ h

  const_word_kept : (path : List ℕ) → offset f (suc v ∷ path) < max_bytes → {value : List Instr} → Const value
      → Const (word_kept f v path value)
  const_word_kept path h p = const_both (const_formal path h) (const_both p const_word)

  const_copied : (x bytes : ℕ) → offset f (suc v ∷ []) < max_bytes → bytes < max_bytes
      → Const (formal_address f v [] ++ (LocalGet x ∷ wrap_word ∷ I32Const bytes ∷ Call copy ∷ []))
  const_copied x bytes h l = const_both (const_formal [] h)
      (gets x ▹ computes _ ▹ address bytes l ▹ calls _ ▹ const_end)

  const_value_kept : (x : ℕ) (t : Ty) → ((c : Scalar) → t ≡ Cell c → IsScalar c) → offset f (suc v ∷ []) < max_bytes
      → size t < max_bytes → Const (value_kept f v x t)
  const_value_kept x (Cell c) cell h l = const_both (const_formal [] h)
      (gets x ▹ const_store c (scalar_low c (cell c refl)))
  const_value_kept x (Hidden n) cell h l = const_copied x (size (Hidden n)) h l
  const_value_kept x (Array n t) cell h l = const_copied x (size (Array n t)) h l
  const_value_kept x Nothing cell h l = const_copied x (size Nothing) h l
  const_value_kept x (Field t others) cell h l = const_copied x (size (Field t others)) h l

  const_open_copied : (top p x element : ℕ) → offset f (suc v ∷ 0 ∷ []) < max_bytes
      → offset f (suc v ∷ 1 ∷ []) < max_bytes → element ≤ few_entries → Const (open_copied top p f v x element)
  const_open_copied top p x element h l e =
      gets top ▹ sets p ▹ gets top ▹ const_both (const_bytes (suc x) element e)
      (computes _ ▹ tees top ▹ const_both const_limit (gets p ▹ gets x ▹ computes _
      ▹ const_both (const_bytes (suc x) element e)
      (calls _ ▹ const_both (const_word_kept (0 ∷ []) h (gets p ▹ computes _ ▹ const_end))
      (const_word_kept (1 ∷ []) l (gets (suc x) ▹ const_end)))))

  -- by how the formal is passed
  const_formal_kept : (b c : Bool) (top p x : ℕ) (t : Ty) (ks : Kinds) → AreFrames (ks ∷ []) (f ∷ [])
      → size f ≤ few_entries → slice_get ks v ≡ Some (if b then Open t else (if c then Alias t else Kept t))
      → ((s : Scalar) → t ≡ Cell s → IsScalar s) → size t ≤ few_entries
      → Const (if b then (if c then word_kept f v (0 ∷ []) (LocalGet x ∷ [])
      ++ word_kept f v (1 ∷ []) (LocalGet (suc x) ∷ []) else open_copied top p f v x (size t)) else
      (if c then word_kept f v [] (LocalGet x ∷ []) else value_kept f v x t))
  const_formal_kept true true top p x t ks a r e cell l =
      const_both (const_word_kept (0 ∷ []) (few_bytes _
      (slot_in (ks ∷ []) (f ∷ []) a (r, tt) 0 v (Open t) (0 ∷ []) (Hidden 4) e (first_hidden t)))
      (gets x ▹ const_end))
      (const_word_kept (1 ∷ []) (few_bytes _
      (slot_in (ks ∷ []) (f ∷ []) a (r, tt) 0 v (Open t) (1 ∷ []) (Hidden 4) e (second_hidden t)))
      (gets (suc x) ▹ const_end))
  const_formal_kept true false top p x t ks a r e cell l =
      const_open_copied top p x (size t) (few_bytes _
      (slot_in (ks ∷ []) (f ∷ []) a (r, tt) 0 v (Open t) (0 ∷ []) (Hidden 4) e (first_hidden t)))
      (few_bytes _ (slot_in (ks ∷ []) (f ∷ []) a (r, tt) 0 v (Open t) (1 ∷ []) (Hidden 4) e (second_hidden t))) l
  const_formal_kept false true top p x t ks a r e cell l =
      const_word_kept [] (few_bytes _ (slot_in (ks ∷ []) (f ∷ []) a (r, tt) 0 v (Alias t) [] (Hidden 4) e
      (own_component (Hidden 4)))) (gets x ▹ const_end)
  const_formal_kept false false top p x t ks a r e cell l =
      const_value_kept x t cell (few_bytes _
      (slot_in (ks ∷ []) (f ∷ []) a (r, tt) 0 v (Kept t) [] t e (own_component t))) (few_bytes _ l)

-- ---- formals, by the kinds of the frame from one of them on

first_dropped : (ks : Kinds) (v : ℕ) (k : Kind) (more : Kinds) → drop v ks ≡ k ∷ more → slice_get ks v ≡ Some k
first_dropped [] zero k more e = absurd cc
first_dropped [] (suc v) k more e = absurd cc
first_dropped (j ∷ ks) zero k more e = let q : j ≡ k = cc in ap (λ (h : Kind). Some h) q
first_dropped (j ∷ ks) (suc v) k more e = first_dropped ks v k more e

next_dropped : (ks : Kinds) (v : ℕ) (k : Kind) (more : Kinds) → drop v ks ≡ k ∷ more → drop (suc v) ks ≡ more
next_dropped [] zero k more e = absurd cc
next_dropped [] (suc v) k more e = absurd cc
next_dropped (j ∷ ks) zero k more e = let q : ks ≡ more = cc in q
next_dropped (j ∷ ks) (suc v) k more e = next_dropped ks v k more e

module _ (types : Types) (cells : AreCells types) (few : (t : TypeNo) → size (tree types t) ≤ few_entries) (f : Ty)
    (ks : Kinds) (frames : AreFrames (ks ∷ []) (f ∷ [])) (room : size f ≤ few_entries) where
  const_formals : (top p v x : ℕ) (gs : List Formal) (more : Kinds) → drop v ks ≡ map (formal_kind types) gs ++ more
      → Const (formals_kept types top p f v x gs)
  const_formals top p v x [] more e = const_end
  const_formals top p v x (a ∷ gs) more e =
      const_both (const_formal_kept f v a.is_open a.is_var top p x (tree types a.of) ks frames room
      (first_dropped ks v (formal_kind types a) _ e) (cells a.of) (few a.of))
      (const_formals top p (suc v) (x + arguments_of a) gs more (next_dropped ks v (formal_kind types a) _ e))

-- ---- functions

own_room : size (frame_of []) ≤ few_entries
unfolding size
own_room = omega arith

module _ (p : Program) (pages place : ℕ) (m : TypedModule) (ranged : AreRanged m.types)
    (typed : IsTypedModule p pages place m) (small : IsSmallModule p m) where
  ranges : AreSmall m.types
  ranges t r e = let k = range_at m.types ranged t r e in record { low = k.low; high = k.high; some = k.some }

  cell_scalar : (t : Ty) (c : Scalar) → IsPlain t → t ≡ Cell c → IsScalar c
  cell_scalar t c q e = subst IsPlain e q

  cells : AreCells m.types
  cells t c e = cell_scalar (tree m.types t) c (tree_plain m.types ranged t) e

  -- ---- frames

  abbrev RoomFor : Routine → Type 0
  RoomFor r = size (frame m.types r) ≤ few_entries

  room_of : (w : Which) (r : Routine) → routine_of m w ≡ Some r → RoomFor r
  room_of (which.Module n) r e = at_place RoomFor m.procedures n r e small.frames
  room_of (which.Local n) r e = at_place RoomFor m.locals n r e small.inner_frames

  room_at : (w : Option Which) (r : Routine) → routine_at m w ≡ Some r → RoomFor r
  room_at None r e = absurd cc
  room_at (Some w) r e = room_of w r e

  own_frames : (o : Option Routine) (kss : List Kinds) (ts : List Ty) → AreFrames kss ts
      → AreFrames (own_kinds m o ++ kss) (own_frame m o ++ ts)
  own_frames None kss ts h = h
  own_frames (Some r) kss ts h = (frame_is m.types r, h)

  frames_are : (level : ℕ) (w : Option Which) → AreFrames (kinds_around m level w) (frames_around m level w)
  frames_are zero w = tt
  frames_are (suc k) w = own_frames (routine_at m w) (kinds_around m k (around_in (routine_at m w)))
      (frames_around m k (around_in (routine_at m w))) (frames_are k (around_in (routine_at m w)))

  own_rooms : (o : Option Routine) → ((r : Routine) → o ≡ Some r → RoomFor r) → (ts : List Ty) → AreRooms ts
      → AreRooms (own_frame m o ++ ts)
  own_rooms None h ts q = q
  own_rooms (Some r) h ts q = (h r refl, q)

  rooms_are : (level : ℕ) (w : Option Which) → AreRooms (frames_around m level w)
  rooms_are zero w = tt
  rooms_are (suc k) w = own_rooms (routine_at m w) (room_at w) (frames_around m k (around_in (routine_at m w)))
      (rooms_are k (around_in (routine_at m w)))

  abbrev stands_in : List Kinds → Context
  stands_in kss = context p (ground p pages).base (ground p pages).texts place m kss

  parts : (kss : List Kinds) (fs : List Ty) → AreFrames kss fs → AreRooms fs → HasSmallParts (stands_in kss) fs
  parts kss fs known rooms = record {
    ranges = ranges;
    cells = cells;
    types = small.types;
    rows = small.rows;
    known =
        known;
    frames = rooms;
    procedures = small.procedures;
    texts = small.texts;
  }

  -- ---- procedures

  few_frame : (n : ℕ) → n ≤ few_entries → n < max_bytes
  few_frame n h = omega (arith, h)

  routine_const : (numbers : Numbered) (w : Which) (r : Routine) → routine_of m w ≡ Some r
      → code_constants_fit (routine_function numbers m w r).body.code ≡ true
  routine_const numbers w r e =
      let fs = frame m.types r ∷ frames_around m r.level r.around in
      let room = room_of w r e in
      let h = parts (kinds_of m.types r ∷ environment_of m r) fs (frame_is m.types r, frames_are r.level r.around)
      (room, rooms_are r.level r.around) in
      let t = typed.procedures w r e in
      let body : Const (routine_coded numbers m r (characters (texts_before m w m.order))).0 = record {
        fit = constants_fit (stands_in (kinds_of m.types r ∷ environment_of m r)) fs h (result_of m.types r.heading) []
            false (text_of m w) t.0 r.body t.1 numbers _ _ refl refl refl;
      } in
      (const_both (const_both (const_enter _ _ (few_frame _ room)) (const_both (const_link_kept r)
      (const_formals m.types cells small.types (frame m.types r) (kinds_of m.types r) (frame_is m.types r, tt) room _ _
      0 _ (formals_of m.types r.heading) (map (λ (t : TypeNo). Kept (tree m.types t)) r.variables) refl)))
      (const_both body (const_end_code (has_result m.types r.heading)))).fit

  routines_const : (numbers : Numbered) (w : ℕ → Which) (n : ℕ) (rs : List Routine)
      → ((k : ℕ) (r : Routine) → slice_get rs k ≡ Some r → routine_of m (w (n + k)) ≡ Some r)
      → AllConst (functions_from numbers m w n rs)
  routines_const numbers w n [] h = refl
  routines_const numbers w n (r ∷ rs) h =
      both_true _ _ (routine_const numbers (w n) r (first n (h 0 r refl)))
      (routines_const numbers w (suc n) rs (λ k q e. later n k q (h (suc k) q e)))
    where
      first : (n : ℕ) → routine_of m (w (n + 0)) ≡ Some r → routine_of m (w n) ≡ Some r
      first n e = let z : n + 0 ≡ n = omega arith in subst (λ (j : ℕ). routine_of m (w j) ≡ Some r) z e

      later : (n k : ℕ) (q : Routine) → routine_of m (w (n + suc k)) ≡ Some q → routine_of m (w (suc n + k)) ≡ Some q
      later n k q e = let z : n + suc k ≡ suc n + k = omega arith in subst (λ (j : ℕ). routine_of m (w j) ≡ Some q) z e

  module_const : (numbers : Numbered) → code_constants_fit (module_function numbers m).body.code ≡ true
  module_const numbers =
      let fs = frame_of [] ∷ [] in
      let h = parts [] fs tt (own_room, tt) in
      let t = typed.body in
      let body : Const (module_coded numbers m).0 =
      record {
        fit = constants_fit (stands_in []) fs h None [] false (characters (routines_texts m)) t.0 m.body t.1
            numbers _ _ refl refl refl;
      } in
      (const_both (const_enter 1 _ (few_frame _ own_room)) (const_both body const_end)).fit

  from_nought : (n k : ℕ) → n ≡ 0 → n + k ≡ k
  from_nought n k e = omega (arith, e)

  pub functions_const : AllConst (functions m)
  functions_const =
      let rest = functions_from (numbering_of m) m which.Module 0 m.procedures
      ++ functions_from (numbering_of m) m which.Local 0 m.locals in
      all_both helpers (module_function (numbering_of m) m ∷ rest) helpers_const
      (both_true _ _ (module_const (numbering_of m))
      (all_both (functions_from (numbering_of m) m which.Module 0 m.procedures)
      (functions_from (numbering_of m) m which.Local 0 m.locals)
      (routines_const (numbering_of m) which.Module 0 m.procedures
      (λ k r e. subst (λ (j : ℕ). slice_get m.procedures j ≡ Some r) (sym (from_nought 0 k refl)) e))
      (routines_const (numbering_of m) which.Local 0 m.locals
      (λ k r e. subst (λ (j : ℕ). slice_get m.locals j ≡ Some r) (sym (from_nought 0 k refl)) e))))
