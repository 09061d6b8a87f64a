-- How many bytes the functions of a module take.
use Rattle.std.proofs.Common.{◌≡◌, refl, ℕ, suc, ◌+◌, ◌*◌, ◌≤◌, ◌<◌, Bool, true, false, List, [], ◌∷◌, ◌++◌, length, None, arith}
use Rattle.std.specs.Prelude.{nat_lt}
use Rattle.wasm_tree.specs.declared.instr.Instr.{Instr}
use Rattle.wasm_tree.specs.declared.instr.Instr.TheVariants.{Block, Loop, If, Call, LocalGet, I32Const}
use Rattle.typed_tree.specs.declared.shape.Formal.{Formal}
use Rattle.typed_tree.specs.declared.known_types.Types.{Types}
use Rattle.typed_tree.specs.declared.typed_module.Routine.{Routine}
use Rattle.typed_tree.specs.declared.typed_module.Which.{Which}
use Rattle.typed_tree.specs.declared.typed_module.Which.TheVariants as which
use Rattle.typed_tree.specs.declared.typed_module.TypedModule.{TypedModule}
use Rattle.layout_storage.specs.Types.{Ty, Cell, Hidden, Array, Nothing, Field}
use Rattle.layout_storage.specs.Sizes.{size}
use Rattle.layout_storage.specs.Shapes.{tree}
use Rattle.layout_storage.specs.Frames.{formals_of, frame}
use Rattle.layout_storage.specs.Texts.{characters, texts_before, routines_texts}
use Rattle.def_scheme.specs.Coded.{Counts, wrap_word, copy}
use Rattle.def_scheme.specs.Cells.{word}
use Rattle.def_scheme.specs.Exprs.{Numbered, arguments_of, has_result}
use Rattle.def_scheme.specs.Functions.{numbers_of, link_arguments, limit_check, enter_code, link_kept, formal_address, word_kept, value_kept, bytes_code, open_copied, formal_kept, formals_kept, prologue, function_of, end_code, routine_coded, routine_function, functions_from, from_text, module_coded, module_function}
use Rattle.def_scheme.specs.Helpers.{copy_turn, copy_code, fill_turn, fill_code, check_tests, check_code, divisor_checked, div_rest, mod_rest}
use Rattle.def_scheme.specs.Modules.{helpers, numbering_of, functions}
use Rattle.law_encoding.specs.Nesting.{◌⊔◌, deepest_of}
use Rattle.law_encoding.specs.Sizes.{sum_of}
use Rattle.law_encoding.specs.TypedSizes.{size_body, size_routine, size_bodies}
use Rattle.law_encoding.specs.CodeBytes.{bytes, function_bytes}
use Rattle.law_encoding.specs.Outward.{outward_body, outward_routine, outward_bodies}
use Rattle.law_encoding.specs.Short.{unit_bytes, routine_counts, counts_in, heading_counts, headings_in, heading_bytes}
use Rattle.law_encoding.specs.Small.{most}
use Rattle.law_encoding.specs.Fits.{max_bytes, CountsFew}
use Rattle.law_encoding.proofs.Sums.{sum_append}
use Rattle.law_encoding.proofs.CodeLengths.{bytes_cons, bytes_append, block_bytes, loop_bytes, if_bytes, stops, jumps, jumps_if, calls, gets, sets, tees, globals, loads, stores, address, amount, computes, Short, short_end, short_none, ◌▹◌, short_both, short_more, short_either}
use Rattle.law_encoding.proofs.ShortCode.{IsNear, short_raised, short_fault, short_store}
use Rattle.law_encoding.proofs.ShortSteps.{body_short}

-- ---- the prologue

one_side : (m i a r n : ℕ) → m ≡ i + r → i ≡ 4 + (a + 0) → a ≤ 18 → r ≤ n → m ≤ 22 + n
one_side m i a r n e f h l = omega (arith, e, f, h, l)

short_if_fault : {code rest : List Instr} {n : ℕ} → Short 18 code → Short n rest
    → Short (22 + n) (If None code None ∷ rest)
short_if_fault {code} {rest} {n} p q = record {
  at_most =
      one_side _ _ (bytes code) (bytes rest) n (bytes_cons _ rest) (if_bytes None code) p.at_most q.at_most;
}

short_limit : Short 29 limit_check
short_limit = globals 0 ▹ computes _ ▹ short_if_fault (short_fault 8) short_end

short_enter : (top size : ℕ) → Short 66 (enter_code top size)
short_enter top size = gets 0 ▹ short_both (short_raised size)
    (tees top ▹ short_both short_limit (gets 0 ▹ address size ▹ calls _ ▹ short_end))

short_link_kept : (r : Routine) → Short 15 (link_kept r)
short_link_kept r = short_either (nat_lt 1 r.level) (gets 0 ▹ gets 1 ▹ stores _ ▹ short_end) (short_none 15)

short_formal_address : (f : Ty) (v : ℕ) (path : List ℕ) → Short 13 (formal_address f v path)
short_formal_address f v path = gets 0 ▹ short_raised _

short_word_kept : (f : Ty) (v : ℕ) (path : List ℕ) {value : List Instr} {n : ℕ} → Short n value
    → Short (13 + (n + 15)) (word_kept f v path value)
short_word_kept f v path p = short_both (short_formal_address f v path) (short_both p (short_store word))

short_copied : (f : Ty) (v x bytes : ℕ) →
    Short 34 (formal_address f v [] ++ (LocalGet x ∷ wrap_word ∷ I32Const bytes ∷ Call copy ∷ []))
short_copied f v x bytes = short_more two_more
    (short_both (short_formal_address f v []) (gets x ▹ computes _ ▹ address bytes ▹ calls _ ▹ short_end)) where
      two_more : 32 ≤ 34
      two_more = omega arith

short_value_kept : (f : Ty) (v x : ℕ) (t : Ty) → Short 34 (value_kept f v x t)
short_value_kept f v x (Cell c) = short_both (short_formal_address f v []) (gets x ▹ short_store c)
short_value_kept f v x (Hidden n) = short_copied f v x (size (Hidden n))
short_value_kept f v x (Array n t) = short_copied f v x (size (Array n t))
short_value_kept f v x Nothing = short_copied f v x (size Nothing)
short_value_kept f v x (Field t others) = short_copied f v x (size (Field t others))

short_bytes : (h element : ℕ) → Short 31 (bytes_code h element)
short_bytes h element = gets h ▹ amount 1 ▹ computes _ ▹ amount element ▹ computes _ ▹ computes _ ▹ short_end

short_open_copied : (top p : ℕ) (f : Ty) (v x element : ℕ) → Short 204 (open_copied top p f v x element)
short_open_copied top p f v x element =
    gets top ▹ sets p ▹ gets top ▹ short_both (short_bytes (suc x) element)
    (computes _ ▹ tees top ▹ short_both short_limit
    (gets p ▹ gets x ▹ computes _ ▹ short_both (short_bytes (suc x) element)
    (calls _ ▹ short_both (short_word_kept f v (0 ∷ []) (gets p ▹ computes _ ▹ short_end))
    (short_word_kept f v (1 ∷ []) (gets (suc x) ▹ short_end)))))

two_words : 68 ≤ 204
two_words = omega arith

one_word : 34 ≤ 204
one_word = omega arith

short_formal : (types : Types) (top p : ℕ) (f : Ty) (v x : ℕ) (a : Formal) → Short 204 (formal_kept types top p f v x a)
short_formal types top p f v x a =
    short_either a.is_open
    (short_either a.is_var (short_more two_words
    (short_both (short_word_kept f v (0 ∷ []) (gets x ▹ short_end))
    (short_word_kept f v (1 ∷ []) (gets (suc x) ▹ short_end)))) (short_open_copied top p f v x _))
    (short_either a.is_var (short_more one_word (short_word_kept f v [] (gets x ▹ short_end)))
    (short_more one_word (short_value_kept f v x (tree types a.of))))

one_formal : (n : ℕ) → 204 + 204 * n ≤ 204 * suc n
one_formal n = omega arith

short_formals : (types : Types) (top p : ℕ) (f : Ty) (v x : ℕ) (fs : List Formal)
    → Short (204 * length fs) (formals_kept types top p f v x fs)
short_formals types top p f v x [] = short_none _
short_formals types top p f v x (a ∷ fs) =
    short_more (one_formal (length fs)) (short_both (short_formal types top p f v x a)
    (short_formals types top p f (suc v) (x + arguments_of a) fs))

short_prologue : (types : Types) (r : Routine) (top p : ℕ)
    → Short (66 + (15 + 204 * length (formals_of types r.heading))) (prologue types r top p)
short_prologue types r top p = short_both (short_enter top _)
    (short_both (short_link_kept r) (short_formals types top p (frame types r) 0 (suc (link_arguments r))
    (formals_of types r.heading)))

short_end_code : (b : Bool) → Short 18 (end_code b)
short_end_code true = short_fault 6
short_end_code false = short_none 18

-- ---- functions

around_body : (m a b c d n k : ℕ) → m ≡ a + b → b ≡ c + d → a ≤ k → c ≤ unit_bytes * n + 0 → d ≤ 18
    → 11 + (6 * 2 + m) ≤ 41 + (k + unit_bytes * n)
around_body m a b c d n k e f h l i = omega (arith, e, f, h, l, i)

function_short : {k : ℕ} (n t : ℕ) (before : List Instr) (x : List Instr × Counts) (after : List Instr) → Short k before
    → bytes x.0 ≤ unit_bytes * n + 0 → Short 18 after
    → function_bytes (function_of t before x after) ≤ 41 + (k + unit_bytes * n)
function_short {k} n t before x after p h q =
    around_body _ (bytes before) (bytes (x.0 ++ after)) (bytes x.0) (bytes after) n k
    (bytes_append before (x.0 ++ after)) (bytes_append x.0 after) p.at_most h q.at_most

routine_sum : (a f n : ℕ) → a ≤ 41 + (66 + (15 + 204 * f) + unit_bytes * n)
    → a ≤ heading_bytes * (1 + f) + unit_bytes * n
routine_sum a f n h = omega (arith, h)

first_near : (a b : ℕ) → IsNear (a ⊔ b) → IsNear a
first_near a b h = omega (arith, h)

others_near : (a b : ℕ) → IsNear (a ⊔ b) → IsNear b
others_near a b h = omega (arith, h)

one_more : (a b i j k n : ℕ) → a ≤ heading_bytes * i + unit_bytes * k → b ≤ heading_bytes * j + unit_bytes * n
    → a + b ≤ heading_bytes * (i + j) + unit_bytes * (k + n)
one_more a b i j k n h l = omega (arith, h, l)

none : (n : ℕ) → 0 ≤ n
none n = omega arith

module _ (types : Numbered) (m : TypedModule) where
  routine_short : (w : Which) (r : Routine) → IsNear (outward_routine r)
      → function_bytes (routine_function types m w r) ≤ heading_bytes * heading_counts m.types r + unit_bytes *
      size_routine r
  routine_short w r h =
      routine_sum _ (length (formals_of m.types r.heading)) (size_body r.body)
      (function_short (size_body r.body) (types (numbers_of m.types r) (has_result m.types r.heading)) _
      (routine_coded types m r (characters (texts_before m w m.order))) _ (short_prologue m.types r _ _)
      ((body_short types r.body h).at_most _ (from_text (characters (texts_before m w m.order)))) (short_end_code _))

  routines_short : (w : ℕ → Which) (n : ℕ) (rs : List Routine) → IsNear (deepest_of outward_routine rs)
      → sum_of function_bytes (functions_from types m w n rs) ≤ heading_bytes * sum_of (heading_counts m.types) rs +
      unit_bytes * sum_of size_routine rs
  routines_short w n [] h = none _
  routines_short w n (r ∷ rs) h = one_more _ _ (heading_counts m.types r) (sum_of (heading_counts m.types) rs)
      (size_routine r) (sum_of size_routine rs) (routine_short (w n) r (first_near _ _ h))
      (routines_short w (suc n) rs (others_near (outward_routine r) _ h))

  body_bytes : IsNear (outward_body m.body)
      → function_bytes (module_function types m) ≤ 41 + (66 + unit_bytes * size_body m.body)
  body_bytes h = function_short (size_body m.body) 5 _ (module_coded types m) [] (short_enter 1 _)
      ((body_short types m.body h).at_most _ (from_text (characters (routines_texts m)))) (short_none 18)

-- ---- helpers

three_more : (m i a r n k : ℕ) → m ≡ i + r → i ≡ 3 + a → a ≤ n → r ≤ k → m ≤ 3 + n + k
three_more m i a r n k e f h l = omega (arith, e, f, h, l)

short_block : {code rest : List Instr} {n k : ℕ} → Short n code → Short k rest
    → Short (3 + n + k) (Block None code ∷ rest)
short_block {code} {rest} {n} {k} p q = record {
  at_most =
      three_more _ _ (bytes code) (bytes rest) n k (bytes_cons _ rest) (block_bytes None code) p.at_most q.at_most;
}

short_loop : {code rest : List Instr} {n k : ℕ} → Short n code → Short k rest
    → Short (3 + n + k) (Loop None code ∷ rest)
short_loop {code} {rest} {n} {k} p q = record {
  at_most =
      three_more _ _ (bytes code) (bytes rest) n k (bytes_cons _ rest) (loop_bytes None code) p.at_most q.at_most;
}

short_copy_turn : Short 94 copy_turn
short_copy_turn =
    gets 2 ▹ computes _ ▹ jumps_if 1 ▹ gets 0 ▹ gets 1 ▹ loads _ ▹ stores _ ▹ gets 0 ▹ address 1 ▹ computes _ ▹ sets 0 ▹
    gets 1 ▹ address 1 ▹ computes _ ▹ sets 1
    ▹ gets 2 ▹ address _ ▹ computes _ ▹ sets 2 ▹ jumps 0 ▹ short_end

short_copy : Short 100 copy_code
short_copy = short_block (short_loop short_copy_turn short_end) short_end

short_fill_turn : Short 77 fill_turn
short_fill_turn =
    gets 1 ▹ computes _ ▹ jumps_if 1 ▹ gets 0 ▹ amount 0 ▹ stores _ ▹ gets 0 ▹ address 1 ▹ computes _ ▹ sets 0 ▹ gets 1
    ▹ address _ ▹ computes _ ▹ sets 1 ▹ jumps 0 ▹ short_end

short_fill : Short 83 fill_code
short_fill = short_block (short_loop short_fill_turn short_end) short_end

short_check_tests : Short 44 check_tests
short_check_tests = gets 0 ▹ gets 1 ▹ computes _ ▹ jumps_if 0 ▹ gets 0 ▹ gets 2 ▹ computes _ ▹ jumps_if 0 ▹ jumps 1 ▹
    short_end

short_check : Short 69 check_code
short_check = short_block (short_block short_check_tests (gets 3 ▹ calls 1 ▹ stops ▹ short_end)) (gets 0 ▹ short_end)

short_divisor : {rest : List Instr} {n : ℕ} → Short n rest
    → Short (6 + (11 + (11 + (11 + (6 + (6 + n)))))) (divisor_checked rest)
short_divisor p = gets 1 ▹ amount 1 ▹ amount _ ▹ amount 4 ▹ calls 4 ▹ sets 1 ▹ p

short_div : Short 40 div_rest
short_div = gets 0 ▹ gets 1 ▹ computes _ ▹ gets 0 ▹ gets 1 ▹ computes _ ▹ amount 0 ▹ computes _ ▹ computes _ ▹ computes
    _ ▹ short_end

short_mod : Short 46 mod_rest
short_mod = gets 0 ▹ gets 1 ▹ computes _ ▹ tees 2 ▹ gets 2 ▹ amount 0 ▹ computes _ ▹ computes _ ▹ gets 1 ▹ computes _ ▹
    computes _ ▹ short_end

all_helpers : (a b c d e : ℕ) → a ≤ 100 → b ≤ 83 → c ≤ 69 → d ≤ 91 → e ≤ 97
    → (11 + (6 * 0 + a)) + ((11 + (6 * 0 + b)) + ((11 + (6 * 0 + c)) + ((11 + (6 * 0 + d)) + ((11 + (6 * 1 + e)) + 0))))
    ≤ 501
all_helpers a b c d e h i j k l = omega (arith, h, i, j, k, l)

helpers_short : sum_of function_bytes helpers ≤ 501
helpers_short = all_helpers _ _ _ _ _ short_copy.at_most short_fill.at_most short_check.at_most
    (short_divisor short_div).at_most (short_divisor short_mod).at_most

-- ---- modules

functions_sum : (all h rest b rs p v w x y z : ℕ) → all ≡ h + (b + rest) → rest ≡ rs + p → h ≤ 501
    → b ≤ 41 + (66 + unit_bytes * z) → rs ≤ heading_bytes * v + unit_bytes * x → p ≤ heading_bytes * w + unit_bytes * y
    → all ≤ unit_bytes * (1 + (x + y + z)) + heading_bytes * (v + w)
functions_sum all h rest b rs p v w x y z e f g i j k = omega (arith, e, f, g, i, j, k)

pub functions_short : (m : TypedModule) → IsNear (outward_bodies m)
    → sum_of function_bytes (functions m) ≤ unit_bytes * (1 + size_bodies m) + heading_bytes * headings_in m
functions_short m h =
    let routines = first_near (deepest_of outward_routine m.procedures ⊔ deepest_of outward_routine m.locals)
    (outward_body m.body) h in
    functions_sum _ (sum_of function_bytes helpers) _ (function_bytes (module_function (numbering_of m) m)) _ _
    (sum_of (heading_counts m.types) m.procedures) (sum_of (heading_counts m.types) m.locals)
    (sum_of size_routine m.procedures) (sum_of size_routine m.locals) (size_body m.body)
    (sum_append function_bytes helpers (module_function (numbering_of m) m
    ∷ (functions_from (numbering_of m) m which.Module 0 m.procedures
    ++ functions_from (numbering_of m) m which.Local 0 m.locals)))
    (sum_append function_bytes (functions_from (numbering_of m) m which.Module 0 m.procedures)
    (functions_from (numbering_of m) m which.Local 0 m.locals))
    helpers_short (body_bytes (numbering_of m) m
    (others_near (deepest_of outward_routine m.procedures ⊔ deepest_of outward_routine m.locals)
    (outward_body m.body) h))
    (routines_short (numbering_of m) m which.Module 0 m.procedures
    (first_near _ (deepest_of outward_routine m.locals) routines))
    (routines_short (numbering_of m) m which.Local 0 m.locals
    (others_near (deepest_of outward_routine m.procedures) _ routines))

-- ---- what a module counts

count_sum : (f b a h s : ℕ) → a ≡ h + s → 1 + f + b + a ≡ 1 + f + h + (b + s)
count_sum f b a h s e = omega (arith, e)

routines_count : (types : Types) (rs : List Routine)
    → sum_of (routine_counts types) rs ≡ sum_of (heading_counts types) rs + sum_of size_routine rs
routines_count types [] = refl
routines_count types (r ∷ rs) = count_sum (length (formals_of types r.heading)) (size_body r.body) _
    (sum_of (heading_counts types) rs) (sum_of size_routine rs) (routines_count types rs)

module_sum : (a b h s k t z : ℕ) → a ≡ h + s → b ≡ k + t → a + b + z ≡ s + t + z + (h + k)
module_sum a b h s k t z e f = omega (arith, e, f)

pub module_counts : (m : TypedModule) → counts_in m ≡ size_bodies m + headings_in m
module_counts m =
    module_sum (sum_of (routine_counts m.types) m.procedures) (sum_of (routine_counts m.types) m.locals)
    (sum_of (heading_counts m.types) m.procedures) (sum_of size_routine m.procedures)
    (sum_of (heading_counts m.types) m.locals) (sum_of size_routine m.locals) (size_body m.body)
    (routines_count m.types m.procedures) (routines_count m.types m.locals)

whole_in : (a c b h : ℕ) → a ≤ unit_bytes * (1 + b) + heading_bytes * h → c ≡ b + h → c ≤ most → 5 + a < max_bytes
whole_in a c b h p e l = omega (arith, p, e, l)

pub sizes_fit : (m : TypedModule) → IsNear (outward_bodies m) → CountsFew m
    → 5 + sum_of function_bytes (functions m) < max_bytes
sizes_fit m h l = whole_in _ (counts_in m) (size_bodies m) (headings_in m) (functions_short m h) (module_counts m) l
