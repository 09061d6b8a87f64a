-- The functions of procedures are where the code calls them, and are those of the scheme.
use Rattle.std.proofs.Common.{◌≡◌, ℕ, zero, suc, ◌+◌, Bool, true, false, List, [], ◌∷◌, ◌++◌, length, Option, Some, if◌then◌else◌, refl, ap, ◌∙◌, arith}
use Rattle.std.specs.Prelude.{slice_get}
use Rattle.std.specs.Option.{option_and_then}
use Rattle.std.proofs.lemmas.List.{length-append}
use Rattle.wasm_tree.specs.declared.kinds.FuncType.{FuncType}
use Rattle.wasm_tree.specs.declared.module.Function.{Function}
use Rattle.wasm_tree.specs.Machine.{Typed, own_function}
use Rattle.typed_tree.specs.declared.typed_module.Routine.{Routine}
use Rattle.typed_tree.specs.declared.typed_module.Which.{Which}
use Rattle.typed_tree.specs.declared.typed_module.Which.TheVariants as which
use Rattle.typed_tree.specs.declared.typed_module.TypedModule.{TypedModule}
use Rattle.layout_storage.specs.Texts.{characters, texts_before}
use Rattle.def_scheme.specs.Exprs.{has_result}
use Rattle.def_scheme.specs.Addresses.{addresses_in}
use Rattle.def_scheme.specs.Functions.{numbers_of, frames_around, functions_from, routine_function}
use Rattle.def_scheme.specs.Signatures.{so_many, results_of, signatures_needed, of_routine}
use Rattle.def_scheme.specs.Modules.{functions, numbering_of, typed_module}
use Rattle.law_modules.specs.Linked.{Program, all, count}
use Rattle.law_modules.proofs.Own.{Within, typed_in, of_own, of_nested, routine_known, routine_signature}
use Rattle.law_simulation.specs.ProceduresLaws.{IsFunction, coded_body}
use Rattle.law_simulation.specs.Linked.{routine_typed}
use Rattle.law_simulation.proofs.Helped.{function_in, function_there}

abbrev typed_by : Function → FuncType → Typed
typed_by x t = record { type = t; function = x }

-- ---- lists

routine_at : (m : TypedModule) (w : ℕ → Which) (a : ℕ) (rs : List Routine) (j : ℕ) (r : Routine)
    → slice_get rs j ≡ Some r → slice_get (functions_from (numbering_of m) m w a rs) j
    ≡ Some (routine_function (numbering_of m) m (w (a + j)) r)
routine_at m w a [] j r h = absurd cc
routine_at m w a (x ∷ rs) zero r h =
    let e : x ≡ r = cc in ap (λ (y : Routine). Some (routine_function (numbering_of m) m (w a) y)) e
    ∙ ap (λ (i : ℕ). Some (routine_function (numbering_of m) m (w i) r)) (omega arith)
routine_at m w a (x ∷ rs) (suc j) r h = routine_at m w (suc a) rs j r h
    ∙ ap (λ (i : ℕ). Some (routine_function (numbering_of m) m (w i) r)) (omega arith)

routines_length : (m : TypedModule) (w : ℕ → Which) (a : ℕ) (rs : List Routine)
    → length (functions_from (numbering_of m) m w a rs) ≡ length rs
routines_length m w a [] = refl
routines_length m w a (x ∷ rs) = ap suc (routines_length m w (suc a) rs)

front_at : {A : Type 0} (xs ys : List A) (k : ℕ) (x : A) → slice_get xs k ≡ Some x → slice_get (xs ++ ys) k ≡ Some x
front_at [] ys k x h = absurd cc
front_at (y ∷ xs) ys zero x h = h
front_at (y ∷ xs) ys (suc k) x h = front_at xs ys k x h

behind_at : {A : Type 0} (xs ys : List A) (n k : ℕ) → length xs ≡ n → slice_get (xs ++ ys) (n + k) ≡ slice_get ys k
behind_at [] ys n k e = ap (slice_get ys) (omega (arith, e))
behind_at (x ∷ xs) ys n k e =
    ap (slice_get (x ∷ xs ++ ys)) (let i : n + k ≡ suc (length xs + k) = omega (arith, e) in i)
    ∙ behind_at xs ys (length xs) k refl

pub many_length : (n : ℕ) → length (so_many n) ≡ n
many_length zero = refl
many_length (suc n) = ap suc (many_length n)

results_length : (b : Bool) → length (results_of b) ≡ (if b then 1 else 0)
results_length true = refl
results_length false = refl

-- ---- the functions of a module

module _ (m : TypedModule) where
  abbrev own : List Function
  own = functions_from (numbering_of m) m which.Module 0 m.procedures

  abbrev nested : List Function
  nested = functions_from (numbering_of m) m which.Local 0 m.locals

  known_function : (w : Which) (r : Routine) (f : ℕ) → Within (signatures_needed m) (of_routine m r)
      → slice_get (functions m) f ≡ Some (routine_function (numbering_of m) m w r)
      → function_in f (Some (typed_module m)) ≡ Some (routine_typed m w r)
  known_function w r f h e =
      ap (λ (o : Option Function). option_and_then
      (λ (x : Function). option_and_then (λ (t : FuncType). Some (typed_by x t))
      (slice_get (typed_module m).types x.type_index)) o) e
      ∙ ap (λ (o : Option FuncType). option_and_then
      (λ (t : FuncType). Some (typed_by (routine_function (numbering_of m) m w r) t)) o)
      (typed_in m (routine_signature m r) (routine_known m r h))

  six : (k : ℕ) → slice_get (functions m) (6 + k) ≡ slice_get (own ++ nested) k
  six k = let i : 6 + k ≡ suc (suc (suc (suc (suc (suc k))))) = omega arith in ap (slice_get (functions m)) i

  own_there : (j : ℕ) (r : Routine) → slice_get m.procedures j ≡ Some r
      → slice_get (functions m) (6 + j) ≡ Some (routine_function (numbering_of m) m (which.Module j) r)
  own_there j r h = six j ∙ front_at own nested j _
      (routine_at m which.Module 0 m.procedures j r h
      ∙ ap (λ (i : ℕ). Some (routine_function (numbering_of m) m (which.Module i) r)) (omega arith))

  nested_there : (j : ℕ) (r : Routine) → slice_get m.locals j ≡ Some r
      → slice_get (functions m) (6 + (length m.procedures + j))
      ≡ Some (routine_function (numbering_of m) m (which.Local j) r)
  nested_there j r h =
      six (length m.procedures + j)
      ∙ behind_at own nested (length m.procedures) j (routines_length m which.Module 0 m.procedures)
      ∙ routine_at m which.Local 0 m.locals j r h
      ∙ ap (λ (i : ℕ). Some (routine_function (numbering_of m) m (which.Local i) r)) (omega arith)

  pub count_is : count m ≡ 6 + (length m.procedures + length m.locals)
  count_is =
      let a = length-append own nested in
      let b = routines_length m which.Module 0 m.procedures in
      let c = routines_length m which.Local 0 m.locals in
      omega (arith, a, b, c)

  -- it is the scheme's
  pub is_function : (w : Which) (r : Routine)
      → (coded_body (numbering_of m) m r (frames_around m r.level r.around)
      (characters (texts_before m w m.order))).1.addresses ≡ addresses_in r.body
      → IsFunction (numbering_of m) m r (frames_around m r.level r.around) (characters (texts_before m w m.order))
      (routine_typed m w r)
  is_function w r h = record {
    params = ap suc (many_length (numbers_of m.types r));
    results = results_length (has_result m.types r.heading);
    locals = refl;
    code = refl;
    addresses = h;
  }

module _ (p : Program) (pages : ℕ) (before rest : Program) (m : TypedModule) (is : p ≡ before ++ m ∷ rest) where
  pub procedure_there : (j : ℕ) (r : Routine) → slice_get m.procedures j ≡ Some r
      → own_function (all p pages) (suc (length before)) (6 + j) ≡ Some (routine_typed m (which.Module j) r)
  procedure_there j r h = function_there p pages before rest m is (6 + j)
      ∙ known_function m (which.Module j) r (6 + j) (of_own m j r h) (own_there m j r h)

  pub local_there : (j : ℕ) (r : Routine) → slice_get m.locals j ≡ Some r
      → own_function (all p pages) (suc (length before)) (6 + (length m.procedures + j))
      ≡ Some (routine_typed m (which.Local j) r)
  local_there j r h =
      function_there p pages before rest m is (6 + (length m.procedures + j))
      ∙ known_function m (which.Local j) r (6 + (length m.procedures + j)) (of_nested m j r h)
      (nested_there m j r h)
