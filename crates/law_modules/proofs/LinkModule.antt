-- The module link is valid.
use Rattle.std.proofs.Common.{◌≡◌, ◌≢◌, ℕ, zero, suc, ◌+◌, ◌*◌, ◌^◌, ◌<◌, ◌≤◌, List, [], ◌∷◌, ◌++◌, length, map, Some, None, Option, refl, sym, ap, subst, codes, arith}
use Rattle.std.specs.Prelude.{All, slice_get}
use Rattle.std.specs.List.{AllByRecursion as ByRecursion}
use Rattle.std.proofs.lemmas.List.Elements.{All-nil, All-head, All-tail, All-from_recursion, All-weaker}
use Rattle.wasm_tree.specs.declared.kinds.ValueType.TheVariants.{I32}
use Rattle.wasm_tree.specs.declared.instr.Instr.TheVariants.{I32Const, outs-I32Const}
use Rattle.wasm_tree.specs.declared.module.Export.{Export}
use Rattle.wasm_tree.specs.declared.module.ExportKind.TheVariants as exported
use Rattle.wasm_tree.specs.declared.module.WModule.{WModule}
use Rattle.wasm_tree.specs.Validity.{Context, context, initial_context, function_context, is_constant, Leads, IsConstant, IsConstantOf, AreLimits, IsFuncType, IsImport, IsFunction, IsGlobal, IsExport, IsElement, IsData, AreDistinct, AreKinds, AreBodies, IsValid}
use Rattle.typed_tree.specs.declared.typed_module.TypedModule.{TypedModule}
use Rattle.def_scheme.specs.Scheme.{exported_as, base_name, text_name, tab_name, type_from}
use Rattle.def_scheme.specs.Modules.{Part, part_of, globals_from, exports_from, stack_begin, all_slots, calls_from, link_of, typed_link}
use Rattle.law_modules.proofs.Names.{◌▪◌, differ, base_apart, text_apart, tab_apart}
use Rattle.law_modules.proofs.Leading.{done, short, glob, invoke_slot}

abbrev pub Parts : Type 0
Parts = List Part

abbrev pub names : Parts → List (List ℕ)
names ps = map (λ m. m.name) ps

some_is : {X : Type 0} (x y : X) → ◌≡◌ {A = Option X} (Some x) (Some y) → x ≡ y
some_is x y e = cc

pub limits_up_to : (most n m : ℕ) → n ≤ m → m ≤ most → AreLimits most (record { min = n; max = Some m })
limits_up_to most n m le less = (omega arith, λ x e. let is : m ≡ x = some_is m x e in (omega arith, omega arith))

pub limits_from : (most n : ℕ) → n ≤ most → AreLimits most (record { min = n; max = None })
limits_from most n le = (le, λ x e. absurd cc)

-- the value of a constant global
constant_is : (c : Context) (n : ℕ) → IsConstantOf c I32 (I32Const n ∷ [])
constant_is c n = record {
  constant = All-from_recursion IsConstant (I32Const n ∷ []) (ap is_constant (outs-I32Const n), tt);
  typed = short n [] (done (I32 ∷ []));
}

-- ---- names

abbrev run_export : Export
run_export = exported_as (codes "run") (exported.Function 0)

abbrev names_from : (g : ℕ) → Parts → List (List ℕ)
names_from g p = map (λ e. e.name) (exports_from g p ++ run_export ∷ [])

-- a name that is none of those under which the modules' globals are exported
record IsApart (x m : List ℕ) : Type 0 where
  base : x ≢ base_name m
  text : x ≢ text_name m
  tab : x ≢ tab_name m

-- what a name is not, one after another
abbrev Others : List ℕ → List (List ℕ) → Type 0
Others x ys = ByRecursion (λ y. x ≢ y) ys

stands_apart : (x : List ℕ) (g : ℕ) (p : Parts) → x ≢ codes "run" → All (IsApart x) (names p)
    → Others x (names_from g p)
stands_apart x g [] run apart = (run, tt)
stands_apart x g (b ∷ bs) run apart =
    let here : IsApart x b.name = All-head (IsApart x) b.name (names bs) apart in
    (here.base, (here.text, (here.tab, stands_apart x (g + 3) bs run (All-tail (IsApart x) b.name (names bs) apart))))

module _ (n : List ℕ) (bs : Parts) (others : All (λ m. n ≢ m) (names bs)) where
  base_apart_all : All (IsApart (base_name n)) (names bs)
  base_apart_all = All-weaker (λ m. n ≢ m) (IsApart (base_name n))
      (λ m ne. record { base = base_apart n m ne; text = differ _ _ refl; tab = differ _ _ refl }) (names bs) others

  text_apart_all : All (IsApart (text_name n)) (names bs)
  text_apart_all = All-weaker (λ m. n ≢ m) (IsApart (text_name n))
      (λ m ne. record { base = differ _ _ refl; text = text_apart n m ne; tab = differ _ _ refl }) (names bs) others

  tab_apart_all : All (IsApart (tab_name n)) (names bs)
  tab_apart_all = All-weaker (λ m. n ≢ m) (IsApart (tab_name n))
      (λ m ne. record { base = differ _ _ refl; text = differ _ _ refl; tab = tab_apart n m ne }) (names bs) others

modules_distinct : (g : ℕ) (p : Parts) → AreDistinct (names p) → AreDistinct (names_from g p)
modules_distinct g [] distinct = (All-nil (λ y. codes "run" ≢ y), tt)
modules_distinct g (b ∷ bs) distinct =
    let n = b.name in
    let rest : List (List ℕ) = names_from (g + 3) bs in
    let base : Others (base_name n) (text_name n ∷ tab_name n ∷ rest) = (
      differ _ _ refl,
      (
        differ _ _ refl,
        stands_apart (base_name n) (g + 3) bs (differ _ _ refl)
            (base_apart_all n bs distinct.0),
      ),
    ) in
    let text : Others (text_name n) (tab_name n ∷ rest) =
    (differ _ _ refl, stands_apart (text_name n) (g + 3) bs (differ _ _ refl) (text_apart_all n bs distinct.0)) in
    let tab : Others (tab_name n) rest = stands_apart (tab_name n) (g + 3) bs (differ _ _ refl)
    (tab_apart_all n bs distinct.0) in (
      All-from_recursion (λ y. base_name n ≢ y) (text_name n ∷ tab_name n ∷ rest) base,
      (
        All-from_recursion (λ y. text_name n ≢ y) (tab_name n ∷ rest) text,
        (All-from_recursion (λ y. tab_name n ≢ y) rest tab, modules_distinct (g + 3) bs distinct.1),
      ),
    )

-- ---- link

-- the exports of modules, and run
exports_fine : (c : Context) (g : ℕ) (p : Parts) → g + 3 * length p ≤ length c.globals → 0 < length c.functions
    → ByRecursion (IsExport c) (exports_from g p ++ run_export ∷ [])
exports_fine c g [] le run = (run, tt)
exports_fine c g (b ∷ bs) le run = (
  omega (arith, le),
  (omega (arith, le), (omega (arith, le), exports_fine c (g + 3) bs (omega (arith, le)) run)),
)

globals_count : (place slot : ℕ) (p : Parts)
    → length (map (λ g. g.value_type) (globals_from place slot p)) ≡ 3 * length p
globals_count place slot [] = refl
globals_count place slot (b ∷ bs) = omega (arith, globals_count (place + b.variables + b.texts) (slot + b.slots) bs)

globals_fine : (c : Context) (place slot : ℕ) (p : Parts) → ByRecursion (IsGlobal c) (globals_from place slot p)
globals_fine c place slot [] = tt
globals_fine c place slot (b ∷ bs) = (
  constant_is c place,
  (
    constant_is c (place + b.variables),
    (
      constant_is c slot,
      globals_fine c (place + b.variables + b.texts)
          (slot + b.slots) bs,
    ),
  ),
)

-- all of link's globals are of 32 bits
globals_typed : (place slot k : ℕ) (p : Parts) → k < 3 * length p
    → slice_get (map (λ g. g.value_type) (globals_from place slot p)) k ≡ Some I32
globals_typed place slot k [] lt = absurd (omega (arith, lt))
globals_typed place slot zero (b ∷ bs) lt = refl
globals_typed place slot (suc zero) (b ∷ bs) lt = refl
globals_typed place slot (suc (suc zero)) (b ∷ bs) lt = refl
globals_typed place slot (suc (suc (suc k))) (b ∷ bs) lt =
    globals_typed (place + b.variables + b.texts) (slot + b.slots) k bs (omega (arith, lt))

module _ (p : Parts) (pages : ℕ) (most : pages ≤ 65536) (few : all_slots p < 2 ^ 32) (distinct : AreDistinct (names p))
  where
    abbrev link : WModule
    link = link_of p pages

    abbrev bound : Context
    bound = context link

    counted : length bound.globals ≡ 1 + 3 * length p
    counted = omega (arith, globals_count 0 1 p)

    link_kinds : AreKinds bound link
    link_kinds = record {
      types = All-from_recursion IsFuncType link.types ((omega arith) ▪ (omega arith) ▪ tt);
      imports = All-nil (IsImport bound);
      tables = All-from_recursion (λ t. AreLimits (2 ^ 32) t.limits) link.tables
          (limits_up_to (2 ^ 32) (1 + all_slots p) (1 + all_slots p) (omega arith) (omega (arith, few)), tt);
      memories = All-from_recursion (λ t. AreLimits 65536 t.limits) link.memories
          (limits_up_to 65536 pages pages (omega arith) (omega (arith, most)), tt);
      exports = All-from_recursion (IsExport bound) link.exports
          (omega arith, (omega arith, (omega arith, exports_fine bound 1 p (omega (arith, counted)) (omega arith))));
    }

    abbrev run_context : Context
    run_context = function_context bound (type_from [] []) []

    global_typed : (n : ℕ) → 1 ≤ n → n < 1 + 3 * length p → slice_get run_context.globals n ≡ Some I32
    global_typed zero least lt = absurd (omega (arith, least))
    global_typed (suc n) least lt = globals_typed 0 1 n p (omega (arith, lt))

    calls_lead : (stack g : ℕ) (bs : Parts) → 1 ≤ g → g + 3 * length bs ≤ 3 + 3 * length p
        → Leads run_context (calls_from stack g bs) [] []
    calls_lead stack g [] least le = done []
    calls_lead stack g (b ∷ bs) least le =
        short stack [] (glob g (I32 ∷ []) (global_typed g least (omega (arith, le)))
        (invoke_slot 1 (type_from (I32 ∷ []) []) [] (omega arith) refl
        (calls_lead stack (g + 3) bs (omega arith) (omega (arith, le)))))

    link_bodies : AreBodies bound link
    link_bodies = record {
      functions = All-from_recursion (IsFunction bound) link.functions
          ((type_from [] [], refl, calls_lead (stack_begin p) 3 p (omega arith) (omega arith)), tt);
      elements = All-nil (IsElement bound);
      segments = All-nil (IsData bound);
    }

    abbrev others : List (List ℕ)
    others = names_from 1 p

    memory_other : Others (codes "memory") (codes "table" ∷ codes "limit" ∷ others)
    memory_other = (
      differ _ _ refl,
      (
        differ _ _ refl,
        stands_apart (codes "memory") 1 p (differ _ _ refl)
            (λ k d lt. record { base = differ _ _ refl; text = differ _ _ refl; tab = differ _ _ refl }),
      ),
    )

    table_other : Others (codes "table") (codes "limit" ∷ others)
    table_other = (
      differ _ _ refl,
      stands_apart (codes "table") 1 p (differ _ _ refl)
          (λ k d lt. record { base = differ _ _ refl; text = differ _ _ refl; tab = differ _ _ refl }),
    )

    limit_other : Others (codes "limit") others
    limit_other = stands_apart (codes "limit") 1 p (differ _ _ refl)
        (λ k d lt. record { base = differ _ _ refl; text = differ _ _ refl; tab = differ _ _ refl })

    link_names : AreDistinct (map (λ e. e.name) link.exports)
    link_names = (
      All-from_recursion (λ y. codes "memory" ≢ y) (codes "table" ∷ codes "limit" ∷ others) memory_other,
      (
        All-from_recursion (λ y. codes "table" ≢ y) (codes "limit" ∷ others) table_other,
        (All-from_recursion (λ y. codes "limit" ≢ y) others limit_other, modules_distinct 1 p distinct),
      ),
    )

    pub link_valid : IsValid link
    link_valid = record {
      kinds = link_kinds;
      bodies = link_bodies;
      globals = All-from_recursion (IsGlobal (initial_context link)) link.globals
          (constant_is (initial_context link) (65536 * pages), globals_fine (initial_context link) 0 1 p);
      one_table = omega arith;
      one_memory = omega arith;
      names = link_names;
    }

-- ---- of modules

part_names : (ms : List TypedModule) → names (map part_of ms) ≡ map (λ m. m.name) ms
part_names [] = refl
part_names (m ∷ ms) = ap (λ (ns : List (List ℕ)). m.name ∷ ns) (part_names ms)

pub typed_link_valid : (ms : List TypedModule) (pages : ℕ) → pages ≤ 65536 → all_slots (map part_of ms) < 2 ^ 32
    → AreDistinct (map (λ m. m.name) ms) → IsValid (typed_link ms pages)
typed_link_valid ms pages most few distinct =
    link_valid (map part_of ms) pages most few (subst AreDistinct (sym (part_names ms)) distinct)
