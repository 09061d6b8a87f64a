-- The functions of a module nest no deeper than its bodies, or two levels.
use Rattle.std.proofs.Common.{map, ◌≡◌, ℕ, suc, ◌+◌, ◌≤◌, Bool, true, false, List, [], ◌∷◌, ◌++◌, None, Result, arith}
use Rattle.std.specs.Prelude.{if◌then◌else◌, nat_lt}
use Rattle.wasm_tree.specs.declared.instr.Instr.{Instr}
use Rattle.wasm_tree.specs.declared.instr.Instr.TheVariants.{Block, Loop, Call, LocalGet, I32Const}
use Rattle.typed_tree.specs.declared.shape.Formal.{Formal}
use Rattle.typed_tree.specs.declared.known_types.Types.{Types}
use Rattle.typed_tree.specs.declared.typed_module.Routine.{Routine}
use Rattle.typed_tree.specs.declared.typed_module.Which.{Which}
use Rattle.typed_tree.specs.declared.typed_module.Which.TheVariants as which
use Rattle.typed_tree.specs.declared.typed_module.TypedModule.{TypedModule}
use Rattle.layout_storage.specs.Types.{Ty, Cell, Hidden, Array, Nothing, Field}
use Rattle.layout_storage.specs.Sizes.{size}
use Rattle.layout_storage.specs.Shapes.{tree}
use Rattle.layout_storage.specs.Frames.{formals_of, frame}
use Rattle.layout_storage.specs.Texts.{characters, texts_before}
use Rattle.def_scheme.specs.Coded.{Counts, wrap_word, copy}
use Rattle.def_scheme.specs.Cells.{word}
use Rattle.def_scheme.specs.Exprs.{Numbered, arguments_of, has_result}
use Rattle.def_scheme.specs.Functions.{numbers_of, link_arguments, limit_check, enter_code, link_kept, formal_address, word_kept, value_kept, bytes_code, open_copied, formal_kept, formals_kept, prologue, function_of, end_code, routine_coded, routine_function, functions_from, module_coded, module_function}
use Rattle.def_scheme.specs.Helpers.{copy_turn, copy_code, fill_turn, fill_code, check_tests, check_code, divisor_checked, div_rest, mod_rest}
use Rattle.def_scheme.specs.Modules.{Part, part_of, stack_begin, calls_from, typed_link, helpers, numbering_of, functions}
use Rattle.law_encoding.specs.Nesting.{◌⊔◌, deepest_of}
use Rattle.law_encoding.specs.TypedNesting.{depth_body, depth_routine, depth_bodies}
use Rattle.law_encoding.specs.CodeNesting.{levels, function_levels}
use Rattle.law_encoding.specs.Counted.{AtMost}
use Rattle.law_encoding.specs.Nested.{max_levels, most_nesting, most_levels}
use Rattle.law_encoding.proofs.Deepest.{deepest_append}
use Rattle.law_encoding.proofs.Results.{at_mapped}
use Rattle.law_encoding.proofs.Levels.{levels_append, block_levels, loop_levels, if_levels, stops, jumps, jumps_if, calls, calls_by, gets, sets, tees, globals, loads, stores, address, amount, computes, Flat, flat_end, ◌▹◌, flat_both, flat_either, Low, low_flat, low_both, low_next, low_one}
use Rattle.law_encoding.proofs.FlatCode.{flat_raised, flat_fault, flat_store}
use Rattle.law_encoding.proofs.DeepCodeSteps.{body_levels}

-- ---- the prologue

one_up : (m a n : ℕ) → m ≡ 1 + a → a ≤ n → m ≤ 1 + n
one_up m a n e l = omega (arith, e, l)

one_side : (m a n : ℕ) → m ≡ 1 + (a ⊔ 0) → a ≤ n → m ≤ 1 + n
one_side m a n e l = omega (arith, e, l)

low_limit : Low 1 limit_check
low_limit = low_one (globals 0) (low_one (computes _)
    (low_next (one_side _ _ 0 (if_levels None _) (low_flat 0 (flat_fault 8)).low) (low_flat 1 flat_end)))

low_enter : (top bytes : ℕ) → Low 1 (enter_code top bytes)
low_enter top bytes =
    low_one (gets 0) (low_both (low_flat 1 (flat_raised bytes))
    (low_one (tees top) (low_both low_limit (low_flat 1 (gets 0 ▹ address bytes ▹ calls _ ▹ flat_end)))))

flat_link_kept : (r : Routine) → Flat (link_kept r)
flat_link_kept r = flat_either (nat_lt 1 r.level) (gets 0 ▹ gets 1 ▹ stores _ ▹ flat_end) flat_end

flat_formal_address : (f : Ty) (v : ℕ) (path : List ℕ) → Flat (formal_address f v path)
flat_formal_address f v path = gets 0 ▹ flat_raised _

flat_word_kept : (f : Ty) (v : ℕ) (path : List ℕ) {value : List Instr} → Flat value → Flat (word_kept f v path value)
flat_word_kept f v path p = flat_both (flat_formal_address f v path) (flat_both p (flat_store word))

flat_copied : (f : Ty) (v x bytes : ℕ) →
    Flat (formal_address f v [] ++ (LocalGet x ∷ wrap_word ∷ I32Const bytes ∷ Call copy ∷ []))
flat_copied f v x bytes = flat_both (flat_formal_address f v [])
    (gets x ▹ computes _ ▹ address bytes ▹ calls _ ▹ flat_end)

flat_value_kept : (f : Ty) (v x : ℕ) (t : Ty) → Flat (value_kept f v x t)
flat_value_kept f v x (Cell c) = flat_both (flat_formal_address f v []) (gets x ▹ flat_store c)
flat_value_kept f v x (Hidden n) = flat_copied f v x (size (Hidden n))
flat_value_kept f v x (Array n t) = flat_copied f v x (size (Array n t))
flat_value_kept f v x Nothing = flat_copied f v x (size Nothing)
flat_value_kept f v x (Field t others) = flat_copied f v x (size (Field t others))

flat_bytes : (h element : ℕ) → Flat (bytes_code h element)
flat_bytes h element = gets h ▹ amount 1 ▹ computes _ ▹ amount element ▹ computes _ ▹ computes _ ▹ flat_end

low_open_copied : (top p : ℕ) (f : Ty) (v x element : ℕ) → Low 1 (open_copied top p f v x element)
low_open_copied top p f v x element =
    low_one (gets top) (low_one (sets p) (low_one (gets top)
    (low_both (low_flat 1 (flat_bytes (suc x) element))
    (low_one (computes _) (low_one (tees top) (low_both low_limit
    (low_flat 1 (gets p ▹ gets x ▹ computes _ ▹ flat_both (flat_bytes (suc x) element)
    (calls _ ▹ flat_both (flat_word_kept f v (0 ∷ []) (gets p ▹ computes _ ▹ flat_end))
    (flat_word_kept f v (1 ∷ []) (gets (suc x) ▹ flat_end)))))))))))

low_either : {n : ℕ} (b : Bool) {xs ys : List Instr} → Low n xs → Low n ys → Low n (if b then xs else ys)
low_either true p q = p
low_either false p q = q

low_formal : (types : Types) (top p : ℕ) (f : Ty) (v x : ℕ) (a : Formal) → Low 1 (formal_kept types top p f v x a)
low_formal types top p f v x a =
    low_either a.is_open
    (low_either a.is_var (low_flat 1 (flat_both (flat_word_kept f v (0 ∷ []) (gets x ▹ flat_end))
    (flat_word_kept f v (1 ∷ []) (gets (suc x) ▹ flat_end)))) (low_open_copied top p f v x _))
    (low_either a.is_var (low_flat 1 (flat_word_kept f v [] (gets x ▹ flat_end)))
    (low_flat 1 (flat_value_kept f v x (tree types a.of))))

low_formals : (types : Types) (top p : ℕ) (f : Ty) (v x : ℕ) (fs : List Formal)
    → Low 1 (formals_kept types top p f v x fs)
low_formals types top p f v x [] = low_flat 1 flat_end
low_formals types top p f v x (a ∷ fs) =
    low_both (low_formal types top p f v x a) (low_formals types top p f (suc v) (x + arguments_of a) fs)

low_prologue : (types : Types) (r : Routine) (top p : ℕ) → Low 1 (prologue types r top p)
low_prologue types r top p = low_both (low_enter top _)
    (low_both (low_flat 1 (flat_link_kept r))
    (low_formals types top p (frame types r) 0 (suc (link_arguments r)) (formals_of types r.heading)))

flat_end_code : (b : Bool) → Flat (end_code b)
flat_end_code true = flat_fault 6
flat_end_code false = flat_end

-- ---- functions

around_body : (m a b c d n : ℕ) → m ≡ a ⊔ b → b ≡ c ⊔ d → a ≤ 1 → c ≤ n → d ≡ 0 → m ≤ 1 ⊔ n
around_body m a b c d n e f h k z = omega (arith, e, f, h, k, z)

function_low : (n t : ℕ) (before : List Instr) (x : List Instr × Counts) (after : List Instr) → Low 1 before
    → levels x.0 ≤ n → Flat after → function_levels (function_of t before x after) ≤ 1 ⊔ n
function_low n t before x after p h q =
    around_body _ (levels before) (levels (x.0 ++ after)) (levels x.0) (levels after) n
    (levels_append before (x.0 ++ after)) (levels_append x.0 after) p.low h q.none

module _ (numbering_of : Numbered) (m : TypedModule) where
  routine_low : (w : Which) (r : Routine) → function_levels (routine_function numbering_of m w r) ≤ 1 ⊔ depth_routine r
  routine_low w r = function_low (depth_routine r) (numbering_of (numbers_of m.types r) (has_result m.types r.heading))
      _ (routine_coded numbering_of m r (characters (texts_before m w m.order))) _ (low_prologue m.types r _ _)
      ((body_levels numbering_of r.body).at_most _ _) (flat_end_code _)

  one_more_function : (a b c d : ℕ) → a ≤ 1 ⊔ c → b ≤ 1 ⊔ d → a ⊔ b ≤ 1 ⊔ (c ⊔ d)
  one_more_function a b c d h l = omega (arith, h, l)

  no_function : 0 ≤ 1 ⊔ 0
  no_function = omega arith

  routines_low : (w : ℕ → Which) (n : ℕ) (rs : List Routine)
      → deepest_of function_levels (functions_from numbering_of m w n rs) ≤ 1 ⊔ deepest_of depth_routine rs
  routines_low w n [] = no_function
  routines_low w n (r ∷ rs) = one_more_function _ _ _ _ (routine_low (w n) r) (routines_low w (suc n) rs)

  body_low : function_levels (module_function numbering_of m) ≤ 1 ⊔ depth_body m.body
  body_low = function_low (depth_body m.body) 5 _ (module_coded numbering_of m) [] (low_enter 1 _)
      ((body_levels numbering_of m.body).at_most _ _) flat_end

-- ---- helpers

flat_copy_turn : Flat copy_turn
flat_copy_turn =
    gets 2 ▹ computes _ ▹ jumps_if 1 ▹ gets 0 ▹ gets 1 ▹ loads _ ▹ stores _ ▹ gets 0 ▹ address 1 ▹ computes _ ▹ sets 0 ▹
    gets 1 ▹ address 1 ▹ computes _ ▹ sets 1
    ▹ gets 2 ▹ address _ ▹ computes _ ▹ sets 2 ▹ jumps 0 ▹ flat_end

flat_fill_turn : Flat fill_turn
flat_fill_turn =
    gets 1 ▹ computes _ ▹ jumps_if 1 ▹ gets 0 ▹ amount 0 ▹ stores _ ▹ gets 0 ▹ address 1 ▹ computes _ ▹ sets 0 ▹ gets 1
    ▹ address _ ▹ computes _ ▹ sets 1 ▹ jumps 0 ▹ flat_end

low_block : {n : ℕ} {code rest : List Instr} → Low n code → Low (1 + n) rest → Low (1 + n) (Block None code ∷ rest)
low_block {n} {code} p q = low_next (one_up _ (levels code) n (block_levels None code) p.low) q

low_loop : {n : ℕ} {code : List Instr} → Low n code → Low (1 + n) (Loop None code ∷ [])
low_loop {n} {code} p = low_next (one_up _ (levels code) n (loop_levels None code) p.low) (low_flat (1 + n) flat_end)

low_copy : Low 2 copy_code
low_copy = low_block (low_loop (low_flat 0 flat_copy_turn)) (low_flat 2 flat_end)

low_fill : Low 2 fill_code
low_fill = low_block (low_loop (low_flat 0 flat_fill_turn)) (low_flat 2 flat_end)

flat_check_tests : Flat check_tests
flat_check_tests = gets 0 ▹ gets 1 ▹ computes _ ▹ jumps_if 0 ▹ gets 0 ▹ gets 2 ▹ computes _ ▹ jumps_if 0 ▹ jumps 1 ▹
    flat_end

low_check : Low 2 check_code
low_check = low_block (low_block (low_flat 0 flat_check_tests) (low_flat 1 (gets 3 ▹ calls 1 ▹ stops ▹ flat_end)))
    (low_flat 2 (gets 0 ▹ flat_end))

flat_divisor : {rest : List Instr} → Flat rest → Flat (divisor_checked rest)
flat_divisor p = gets 1 ▹ amount 1 ▹ amount _ ▹ amount 4 ▹ calls 4 ▹ sets 1 ▹ p

flat_div : Flat div_rest
flat_div = gets 0 ▹ gets 1 ▹ computes _ ▹ gets 0 ▹ gets 1 ▹ computes _ ▹ amount 0 ▹ computes _ ▹ computes _ ▹ computes _
    ▹ flat_end

flat_mod : Flat mod_rest
flat_mod = gets 0 ▹ gets 1 ▹ computes _ ▹ tees 2 ▹ gets 2 ▹ amount 0 ▹ computes _ ▹ computes _ ▹ gets 1 ▹ computes _ ▹
    computes _ ▹ flat_end

all_helpers : (a b c d e : ℕ) → a ≤ 2 → b ≤ 2 → c ≤ 2 → d ≤ 2 → e ≤ 2 → a ⊔ (b ⊔ (c ⊔ (d ⊔ (e ⊔ 0)))) ≤ 2
all_helpers a b c d e h i j k l = omega (arith, h, i, j, k, l)

helpers_low : deepest_of function_levels helpers ≤ 2
helpers_low = all_helpers _ _ _ _ _ low_copy.low low_fill.low low_check.low (low_flat 2 (flat_divisor flat_div)).low
    (low_flat 2 (flat_divisor flat_mod)).low

-- ---- modules

functions_sum : (all h rest b rs p x y z : ℕ) → all ≡ h ⊔ (b ⊔ rest) → rest ≡ rs ⊔ p → h ≤ 2 → b ≤ 1 ⊔ z → rs ≤ 1 ⊔ x
    → p ≤ 1 ⊔ y → all ≤ 2 ⊔ (x ⊔ y ⊔ z)
functions_sum all h rest b rs p x y z e f g i j k = omega (arith, e, f, g, i, j, k)

pub functions_low : (m : TypedModule) → deepest_of function_levels (functions m) ≤ 2 ⊔ depth_bodies m
functions_low m =
    functions_sum _ (deepest_of function_levels helpers) _ (function_levels (module_function (numbering_of m) m)) _ _
    (deepest_of depth_routine m.procedures) (deepest_of depth_routine m.locals) (depth_body m.body)
    (deepest_append function_levels helpers
    (module_function (numbering_of m) m ∷
    (functions_from (numbering_of m) m which.Module 0 m.procedures
    ++ functions_from (numbering_of m) m which.Local 0 m.locals)))
    (deepest_append function_levels (functions_from (numbering_of m) m which.Module 0 m.procedures)
    (functions_from (numbering_of m) m which.Local 0 m.locals))
    helpers_low (body_low (numbering_of m) m) (routines_low (numbering_of m) m which.Module 0 m.procedures)
    (routines_low (numbering_of m) m which.Local 0 m.locals)

flat_calls : (stack g : ℕ) (ms : List Part) → Flat (calls_from stack g ms)
flat_calls stack g [] = flat_end
flat_calls stack g (m ∷ ms) = address stack ▹ globals g ▹ calls_by 1 ▹ flat_calls stack (g + 3) ms

one_function : (a : ℕ) → a ≡ 0 → a ⊔ 0 ≡ 0
one_function a e = omega (arith, e)

pub link_low : (ms : List TypedModule) (pages : ℕ) → deepest_of function_levels (typed_link ms pages).functions ≡ 0
link_low ms pages = one_function _ (flat_calls (stack_begin (map part_of ms)) 3 (map part_of ms)).none

-- ---- what is parsed and accepted

in_all : (a b d : ℕ) → a ≤ 2 ⊔ b → b ≤ d → d ≤ most_nesting → a ≤ max_levels
in_all a b d h k l = omega (arith, h, k, l)

pub accepted_low : {T : Type 0} {r : Result TypedModule T} (n : ℕ) → n ≤ most_nesting → AtMost depth_bodies n r
    → AtMost most_levels max_levels r
accepted_low n l p = at_mapped (λ m h. in_all (most_levels m) (depth_bodies m) n (functions_low m) h l) p
