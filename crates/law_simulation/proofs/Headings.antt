-- Headings by their structure: how arguments are passed, results, and the types of functions.
use Rattle.std.proofs.Common.{◌≡◌, ℕ, zero, suc, Bool, true, false, ◌&&◌, List, [], ◌∷◌, map, length, Option, Some, None, refl, sym, ap, ◌∙◌, arith}
use Rattle.std.specs.Option.{option_map}
use Rattle.wasm_tree.specs.declared.kinds.FuncType.{FuncType}
use Rattle.wasm_tree.specs.declared.kinds.ValueType.{ValueType}
use Rattle.wasm_tree.specs.declared.kinds.ValueType.TheVariants as kind
use Rattle.wasm_tree.specs.Machine.{is_same_value_type, are_same, agree}
use Rattle.typed_tree.specs.declared.shape.Formal.{Formal}
use Rattle.typed_tree.specs.declared.shape.Made.{Made}
use Rattle.typed_tree.specs.declared.shape.Shape.{Shape}
use Rattle.typed_tree.specs.declared.shape.Shape.TheVariants as shape
use Rattle.typed_tree.specs.declared.types.TypeNo.{TypeNo}
use Rattle.typed_tree.specs.declared.known_types.Types.{Types}
use Rattle.typed_tree.specs.Known.{made_at}
use Rattle.layout_storage.specs.Types.{Ty, Hidden, Cell, Array, Nothing, Field, Heading}
use Rattle.layout_storage.specs.Shapes.{tree, passing_of, heading_tree, known_trees}
use Rattle.layout_storage.specs.Frames.{formals_in, formals_made, formals_of}
use Rattle.def_meaning.specs.Calls.{is_function_made, gives_result, is_there}
use Rattle.law_memory.specs.Relation.{heading_in, heading_made, heading_at}
use Rattle.def_scheme.specs.Exprs.{arguments_of, all_arguments, has_result, result_made, result_in, is_there as there_code}
use Rattle.def_scheme.specs.Signatures.{so_many, signature, of_heading, type_of}
use Rattle.law_simulation.specs.Passing.{form_of, value_form, forms_of, form_in, forms_in, operands_of, all_operands, heading_result, result_of, result_made as results_made, result_in as results_in}

none_some : {A : Type 0} (x : A) → None ≡ Some x → ⊥
none_some x e = cc e

same_some : {A : Type 0} (x y : A) → Some x ≡ Some y → x ≡ y
same_some x y e = cc e

-- ---- a heading has the forms and the result of its type

module _ (types : Types) where
  one_form : (f : Formal) → form_of types f ≡ form_in (passing_of f) (tree types f.of)
  one_form f = by f.is_open f.is_var
    where
      by : (o v : Bool) → form_of types (record f { is_open = o; is_var = v })
          ≡ form_in (passing_of (record f { is_open = o; is_var = v })) (tree types f.of)
      by true v = refl
      by false true = refl
      by false false = refl

  forms_are : (fs : List Formal) (r : Option TypeNo)
      → map (form_of types) fs ≡ forms_in (heading_tree (known_trees types) fs r)
  forms_are [] None = refl
  forms_are [] (Some t) = refl
  forms_are (f ∷ fs) r = ap (λ x. x ∷ map (form_of types) fs) (one_form f)
      ∙ ap (λ xs. form_in (passing_of f) (tree types f.of) ∷ xs) (forms_are fs r)

  result_is : (fs : List Formal) (r : Option TypeNo)
      → option_map (tree types) r ≡ heading_result (heading_tree (known_trees types) fs r)
  result_is [] None = refl
  result_is [] (Some t) = refl
  result_is (f ∷ fs) r = result_is fs r

  shape_forms : (s : Shape) (h : Heading) → heading_in types s ≡ Some h
      → (map (form_of types) (formals_in s) ≡ forms_in h) × (results_in types s ≡ heading_result h)
  shape_forms (shape.Procedure p) h e =
      let same : heading_tree (known_trees types) p.formals p.result ≡ h =
      same_some (heading_tree (known_trees types) p.formals p.result) h e in
      (forms_are p.formals p.result ∙ ap forms_in same, result_is p.formals p.result ∙ ap heading_result same)
  shape_forms (shape.Scalar s) h e = absurd (none_some h e)
  shape_forms shape.Set h e = absurd (none_some h e)
  shape_forms (shape.Array i x) h e = absurd (none_some h e)
  shape_forms (shape.Record fs) h e = absurd (none_some h e)
  shape_forms (shape.Open x) h e = absurd (none_some h e)

  made_forms : (o : Option Made) (h : Heading) → heading_made types o ≡ Some h
      → (map (form_of types) (formals_made o) ≡ forms_in h) × (results_made types o ≡ heading_result h)
  made_forms None h e = absurd (none_some h e)
  made_forms (Some m) h e = shape_forms m.shape h e

  pub forms_same : (t : TypeNo) (h : Heading) → heading_at types t ≡ Some h → forms_of types t ≡ forms_in h
  forms_same t h e = (made_forms (made_at types t) h e).0

  pub result_same : (t : TypeNo) (h : Heading) → heading_at types t ≡ Some h → result_of types t ≡ heading_result h
  result_same t h e = (made_forms (made_at types t) h e).1

-- ---- results

shape_result : (types : Types) (s : Shape) → (result_in s ≡ is_there (results_in types s))
    × (gives_result s ≡ is_there (results_in types s))
shape_result types (shape.Procedure h) = by h.result
  where
    by : (o : Option TypeNo) → (there_code o ≡ is_there (option_map (tree types) o))
        × (is_there o ≡ is_there (option_map (tree types) o))
    by None = (refl, refl)
    by (Some t) = (refl, refl)
shape_result types (shape.Scalar s) = (refl, refl)
shape_result types shape.Set = (refl, refl)
shape_result types (shape.Array i e) = (refl, refl)
shape_result types (shape.Record fs) = (refl, refl)
shape_result types (shape.Open e) = (refl, refl)

made_result : (types : Types) (o : Option Made) → (result_made o ≡ is_there (results_made types o))
    × (is_function_made o ≡ is_there (results_made types o))
made_result types None = (refl, refl)
made_result types (Some m) = shape_result types m.shape

-- a procedure has a result in the code, or none, as its type has one
pub has_it : (types : Types) (heading : TypeNo) → has_result types heading ≡ is_there (result_of types heading)
has_it types heading = (made_result types (made_at types heading)).0

-- and in what is meant
pub means_it : (types : Types) (heading : TypeNo)
    → is_function_made (made_at types heading) ≡ is_there (result_of types heading)
means_it types heading = (made_result types (made_at types heading)).1

-- ---- operands

value_operands : (t : Ty) → operands_of (value_form t) ≡ 1
value_operands (Cell c) = refl
value_operands (Hidden n) = refl
value_operands (Array n t) = refl
value_operands Nothing = refl
value_operands (Field t others) = refl

one_operand : (types : Types) (f : Formal) → operands_of (form_of types f) ≡ arguments_of f
one_operand types f = by f.is_open f.is_var
  where
    by : (o v : Bool) → operands_of (form_of types (record f { is_open = o; is_var = v }))
        ≡ arguments_of (record f { is_open = o; is_var = v })
    by true v = refl
    by false true = refl
    by false false = value_operands (tree types f.of)

operands_are : (types : Types) (fs : List Formal) → all_operands (map (form_of types) fs) ≡ all_arguments fs
operands_are types [] = refl
operands_are types (f ∷ fs) = let one = one_operand types f in let more = operands_are types fs in
    omega (arith, one, more)

-- so many operands as the heading has arguments
pub operands_counted : (types : Types) (heading : TypeNo)
    → all_operands (forms_of types heading) ≡ all_arguments (formals_of types heading)
operands_counted types heading = operands_are types (formals_of types heading)

-- ---- types of functions

pub many_length : (n : ℕ) → length (so_many n) ≡ n
many_length zero = refl
many_length (suc n) = ap suc (many_length n)

same_value : (t : ValueType) → is_same_value_type t t ≡ true
same_value kind.I32 = refl
same_value kind.I64 = refl

same_list : (ts : List ValueType) → are_same ts ts ≡ true
same_list [] = refl
same_list (t ∷ ts) = ap (λ (b : Bool). b && are_same ts ts) (same_value t) ∙ same_list ts

-- a type agrees with itself
pub agrees_itself : (t : FuncType) → agree (Some t) (Some t) ≡ true
agrees_itself t = ap (λ (b : Bool). b && are_same t.results t.results) (same_list t.params) ∙ same_list t.results

-- the type of the functions with a heading
pub type_same : (types : Types) (t : TypeNo) (h : Heading) → heading_at types t ≡ Some h
    → type_of (of_heading types t) ≡ type_of (signature (all_operands (forms_in h)) (is_there (heading_result h)))
type_same types t h e =
    ap (λ (n : ℕ). type_of (signature n (has_result types t)))
    (sym (operands_counted types t) ∙ ap all_operands (forms_same types t h e))
    ∙ ap (λ (b : Bool). type_of (signature (all_operands (forms_in h)) b))
    (has_it types t ∙ ap (λ r. is_there r) (result_same types t h e))
