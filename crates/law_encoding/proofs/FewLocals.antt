-- Functions have few locals.
use Rattle.std.proofs.Common.{◌≡◌, ℕ, suc, ◌+◌, ◌*◌, ◌≤◌, List, [], ◌∷◌, ◌++◌, Result, arith}
use Rattle.typed_tree.specs.declared.typed_module.Routine.{Routine}
use Rattle.typed_tree.specs.declared.typed_module.TypedModule.{TypedModule}
use Rattle.typed_tree.specs.declared.typed_module.Which.{Which}
use Rattle.typed_tree.specs.declared.typed_module.Which.TheVariants as which
use Rattle.layout_storage.specs.Texts.{characters, routines_texts, texts_before}
use Rattle.def_scheme.specs.Coded.{Counts}
use Rattle.def_scheme.specs.Exprs.{Numbered}
use Rattle.def_scheme.specs.Functions.{locals_of, from_text, routine_coded, functions_from, module_coded, module_function}
use Rattle.def_scheme.specs.Modules.{helpers, numbering_of}
use Rattle.wasm_binary.specs.Binary.{local_count}
use Rattle.law_encoding.specs.Nesting.{◌⊔◌, deepest_of}
use Rattle.law_encoding.specs.Sizes.{sum_of}
use Rattle.law_encoding.specs.TypedSizes.{size_body, size_routine, size_bodies}
use Rattle.law_encoding.specs.Counted.{AtMost}
use Rattle.law_encoding.specs.Small.{most}
use Rattle.law_encoding.specs.Fits.{function_locals, most_locals, max_locals}
use Rattle.law_encoding.proofs.Deepest.{deepest_append}
use Rattle.law_encoding.proofs.Results.{at_mapped}
use Rattle.law_encoding.proofs.StepCounts.{body_counts}

counted : (a n k : ℕ) → a ≤ 0 + k → n ≤ 0 + k → 0 + (2 + a) + n ≤ 2 + 2 * k
counted a n k h l = omega (arith, h, l)

few : (k : ℕ) (c : Counts) → c.addresses ≤ 0 + k → c.numbers ≤ 0 + k → local_count (locals_of c) ≤ 2 + 2 * k
few k c h l = counted c.addresses c.numbers k h l

none : (n : ℕ) → 0 ≤ n
none n = omega arith

one_more : (a b k n : ℕ) → a ≤ 2 + 2 * k → b ≤ 2 + 2 * n → a ⊔ b ≤ 2 + 2 * (k + n)
one_more a b k n h l = omega (arith, h, l)

module _ (types : Numbered) (m : TypedModule) where
  routines_few : (w : ℕ → Which) (n : ℕ) (rs : List Routine)
      → deepest_of function_locals (functions_from types m w n rs) ≤ 2 + 2 * sum_of size_routine rs
  routines_few w n [] = none _
  routines_few w n (r ∷ rs) =
      one_more _ _ (size_routine r) (sum_of size_routine rs)
      (few (size_body r.body) (routine_coded types m r (characters (texts_before m (w n) m.order))).1
      ((body_counts types r.body).addresses _ (from_text (characters (texts_before m (w n) m.order))))
      ((body_counts types r.body).numbers _ (from_text (characters (texts_before m (w n) m.order)))))
      (routines_few w (suc n) rs)

  body_few : function_locals (module_function types m) ≤ 2 + 2 * size_body m.body
  body_few = few (size_body m.body) (module_coded types m).1
      ((body_counts types m.body).addresses _ (from_text (characters (routines_texts m))))
      ((body_counts types m.body).numbers _ (from_text (characters (routines_texts m))))

helpers_few : deepest_of function_locals helpers ≤ 2
helpers_few = omega arith

functions_sum : (all h rest b rs p x y z : ℕ) → all ≡ h ⊔ (b ⊔ rest) → rest ≡ rs ⊔ p → h ≤ 2 → b ≤ 2 + 2 * z
    → rs ≤ 2 + 2 * x → p ≤ 2 + 2 * y → all ≤ 2 + 2 * (x + y + z)
functions_sum all h rest b rs p x y z e f g i j k = omega (arith, e, f, g, i, j, k)

pub functions_few : (m : TypedModule) → most_locals m ≤ 2 + 2 * size_bodies m
functions_few m =
    functions_sum _ (deepest_of function_locals helpers) _ (function_locals (module_function (numbering_of m) m)) _ _
    (sum_of size_routine m.procedures) (sum_of size_routine m.locals) (size_body m.body)
    (deepest_append function_locals helpers
    (module_function (numbering_of m) m ∷
    (functions_from (numbering_of m) m which.Module 0 m.procedures
    ++ functions_from (numbering_of m) m which.Local 0 m.locals)))
    (deepest_append function_locals (functions_from (numbering_of m) m which.Module 0 m.procedures)
    (functions_from (numbering_of m) m which.Local 0 m.locals))
    helpers_few (body_few (numbering_of m) m) (routines_few (numbering_of m) m which.Module 0 m.procedures)
    (routines_few (numbering_of m) m which.Local 0 m.locals)

in_all : (a b n : ℕ) → a ≤ 2 + 2 * b → b ≤ n → a ≤ 2 + 2 * n
in_all a b n h l = omega (arith, h, l)

pub accepted_few : {T : Type 0} {r : Result TypedModule T} → AtMost size_bodies most r → AtMost most_locals max_locals r
accepted_few p = at_mapped (λ m h. in_all (most_locals m) (size_bodies m) most (functions_few m) h) p
