-- A small module that is well formed, nests few levels and goes few procedures outwards has an encoding.
use Rattle.std.proofs.Common.{◌≡◌, ℕ, suc, ◌+◌, ◌*◌, ◌≤◌, ◌<◌, true, nat_lt, List, [], ◌∷◌, length, Result, Ok, Err, refl, arith}
use Rattle.std.specs.Prelude.{All}
use Rattle.std.specs.List.{list_all}
use Rattle.std.proofs.lemmas.Bool.{lt-ltb}
use Rattle.std.proofs.lemmas.List.Elements.{All-head, All-tail}
use Rattle.typed_tree.specs.declared.typed_module.Routine.{Routine}
use Rattle.typed_tree.specs.declared.typed_module.TypedModule.{TypedModule}
use Rattle.typed_tree.specs.declared.known_types.Types.{Types}
use Rattle.layout_storage.specs.Frames.{formals_of}
use Rattle.def_grammar.specs.Refusal.{max_nesting}
use Rattle.def_scheme.specs.Signatures.{signatures_needed}
use Rattle.def_scheme.specs.Modules.{slots, typed_module}
use Rattle.wasm_binary.specs.Binary.{module_fits}
use Rattle.law_modules.specs.Linked.{Program, text}
use Rattle.law_modules.specs.WellFormed.{IsWellFormed}
use Rattle.law_simulation.specs.Modules.{IsModule, IsTypedModule}
use Rattle.law_well_formed.specs.Formed.{Holds}
use Rattle.law_well_formed.specs.Formed as formed
use Rattle.law_encoding.specs.Sizes.{sum_of}
use Rattle.law_encoding.specs.TypedSizes.{size_body, size_routine, size_bodies}
use Rattle.law_encoding.specs.Counted.{AtMost, fine}
use Rattle.law_encoding.specs.Nested.{max_levels, most_levels}
use Rattle.law_encoding.specs.Outward.{outward_bodies}
use Rattle.law_encoding.specs.Small.{most}
use Rattle.law_encoding.specs.Short.{routine_counts, counts_in}
use Rattle.law_encoding.specs.Fits.{few_entries, max_bytes, CountsFew, most_locals}
use Rattle.law_encoding.specs.FunctionTypes.{types_count}
use Rattle.law_encoding.specs.ModuleNumbers.{HasFewParts}
use Rattle.law_encoding.specs.AcceptedRoom.{IsSmallBody}
use Rattle.law_encoding.specs.ImportsRoom.{NamesAreShort}
use Rattle.law_encoding.specs.SmallParts.{IsSmallModule}
use Rattle.law_encoding.proofs.CodeFits.{both_true}
use Rattle.law_encoding.proofs.ConstantFunctions.{functions_const}
use Rattle.law_encoding.proofs.Sums.{sum_below, length_below}
use Rattle.law_encoding.proofs.FewLocals.{functions_few}
use Rattle.law_encoding.proofs.FunctionBytes.{sizes_fit}
use Rattle.law_encoding.proofs.FewTypes.{types_fit}
use Rattle.law_encoding.proofs.NeededTypes.{needed_few}
use Rattle.law_encoding.proofs.ImportsRoom.{imports_fit}
use Rattle.law_encoding.proofs.ModuleNumbers.{module_uses, module_numbers}
use Rattle.law_encoding.proofs.BodyModules.{body_has_room}

-- ---- what a module counts

more_than_body : (a n : ℕ) → a ≤ 1 + n + a
more_than_body a n = omega arith

body_counts : (types : Types) (r : Routine) → size_routine r ≤ routine_counts types r
body_counts types r = more_than_body (size_body r.body) (length (formals_of types r.heading))

one_or_more : (n a : ℕ) → 1 ≤ 1 + n + a
one_or_more n a = omega arith

bodies_sum : (a b c d e : ℕ) → a ≤ c → b ≤ d → a + b + e ≤ c + d + e
bodies_sum a b c d e h l = omega (arith, h, l)

bodies_count : (m : TypedModule) → size_bodies m ≤ counts_in m
bodies_count m =
    bodies_sum _ _ _ _ (size_body m.body) (sum_below size_routine (routine_counts m.types) (body_counts m.types)
    m.procedures) (sum_below size_routine (routine_counts m.types) (body_counts m.types) m.locals)

length_counts : (m : TypedModule) → length m.procedures ≤ sum_of (routine_counts m.types) m.procedures
length_counts m = length_below (routine_counts m.types)
    (λ r. one_or_more (length (formals_of m.types r.heading)) (size_body r.body)) m.procedures

whole_slots : (n a b c : ℕ) → n ≤ a → a + b + c ≤ most → suc n ≤ 1 + most
whole_slots n a b c h l = omega (arith, h, l)

slots_most : (m : TypedModule) → CountsFew m → slots m ≤ 1 + most
slots_most m h = whole_slots (length m.procedures) _ (sum_of (routine_counts m.types) m.locals) (size_body m.body)
    (length_counts m) h

few_slots : (n : ℕ) → n ≤ 1 + most → n ≤ few_entries
few_slots n h = omega (arith, h)

slots_few : (m : TypedModule) → CountsFew m → slots m ≤ few_entries
slots_few m h = few_slots (slots m) (slots_most m h)

one_less : (n : ℕ) → suc n ≤ few_entries → n ≤ few_entries
one_less n h = omega (arith, h)

pub procedures_few : (m : TypedModule) → CountsFew m → length m.procedures ≤ few_entries
procedures_few m h = one_less (length m.procedures) (slots_few m h)

types_sum : (t c : ℕ) → t ≤ 2 * c → c ≤ most → t ≤ few_entries
types_sum t c h l = omega (arith, h, l)

locals_sum : (l b c : ℕ) → l ≤ 2 + 2 * b → b ≤ c → c ≤ most → l ≤ few_entries
locals_sum l b c h k i = omega (arith, h, k, i)

fewer_locals : (l : ℕ) → l ≤ few_entries → l < max_bytes
fewer_locals l h = omega (arith, h)

-- ---- small modules

module _ (m : TypedModule) (levels : most_levels m ≤ max_levels) (near : outward_bodies m ≤ max_nesting)
    (well : IsWellFormed m) (small : IsSmallBody m) where
  few : HasFewParts m
  few = record {
    types = types_sum (types_count (signatures_needed m)) (counts_in m) (needed_few m well) small.counts;
    imported = small.names.count;
    locals = locals_sum (most_locals m) (size_bodies m) (counts_in m) (functions_few m) (bodies_count m) small.counts;
    size = sizes_fit m near small.counts;
  }

  small_body : module_fits (typed_module m) ≡ true
  small_body = body_has_room m (record {
    bodies = record {
      nesting = levels;
      numbers = module_numbers m well few small.constants;
      locals =
          fewer_locals (most_locals m) few.locals;
      size = few.size;
    };
    types = types_fit m few.types;
    imported = imports_fit m small.names;
    uses = module_uses m well few;
    table = slots_few m small.counts;
    texts = small.texts;
    texts_size = small.texts_size;
  })

-- ---- what is accepted

at_ok : {A T : Type 0} {size : A → ℕ} {n : ℕ} {x : A} → AtMost {T = T} size n (Ok x) → size x ≤ n
at_ok (fine _ p) = p

holds_ok : {A T : Type 0} {P : A → Type 0} {x : A} → Holds {T = T} P (Ok x) → P x
holds_ok (formed.fine _ p) = p

pub accepted_room : {T : Type 0} (r : Result TypedModule T) → AtMost most_levels max_levels r
    → AtMost outward_bodies max_nesting r → Holds IsWellFormed r
    → Holds (λ t. IsSmallBody t → module_fits (typed_module t) ≡ true) r
accepted_room (Ok t) a b p = formed.fine t (λ small. small_body t (at_ok a) (at_ok b) (holds_ok p) small)
accepted_room (Err e) a b p = formed.broken e

-- ---- typed programs

all_bytes : (bs : List ℕ) → All (λ b. b < 256) bs → list_all (λ b. nat_lt b 256) bs ≡ true
all_bytes [] h = refl
all_bytes (b ∷ bs) h = both_true _ _ (lt-ltb b 256 (All-head (λ b. b < 256) b bs h))
    (all_bytes bs (All-tail (λ b. b < 256) b bs h))

pub typed_room : (p : Program) (pages place : ℕ) (m : TypedModule) → IsModule p place m → IsTypedModule p pages place m
    → IsSmallModule p m → CountsFew m → NamesAreShort m
    → most_levels m ≤ max_levels → outward_bodies m ≤ max_nesting → module_fits (typed_module m) ≡ true
typed_room p pages place m is typed small counts names levels near =
    small_body m levels near is.well
    (record {
      counts = counts;
      names = names;
      constants = functions_const p pages place m is.ranged typed small;
      texts =
          all_bytes (text m) is.texts;
      texts_size = small.texts;
    })
