-- The constants in the code of typed expressions fit.
use Rattle.std.proofs.Common.{map, ◌≡◌, ℕ, zero, suc, ◌+◌, ◌*◌, ◌≤◌, ◌<◌, ◌^◌, Bool, true, false, List, [], ◌∷◌, ◌++◌, length, Option, Some, None, refl, sym, ap, subst, ◌∙◌, arith}
use Rattle.std.specs.Prelude.{if◌then◌else◌, ◌-◌, slice_get, ℤ, pos, negsuc, ◌-ℤ◌, ◌≤ℤ◌, unsigned_abs}
use Rattle.std.specs.List.{AllByRecursion}
use Rattle.std.proofs.lemmas.Int.{ints}
use Rattle.wasm_tree.specs.declared.instr.Instr.{Instr}
use Rattle.wasm_tree.specs.declared.instr.Instr.TheVariants.{LocalGet, I64Const}
use Rattle.wasm_tree.specs.declared.instr.Operation.TheVariants.{And, ShrU, Sub}
use Rattle.wasm_tree.specs.declared.kinds.ValueType.TheVariants as type
use Rattle.typed_tree.specs.declared.computed.Argument.{Argument, Argument-F, out-Argument}
use Rattle.typed_tree.specs.declared.computed.Argument.TheOpen as layer
use Rattle.typed_tree.specs.declared.computed.Argument.TheVariants as argument
use Rattle.typed_tree.specs.declared.computed.Arithmetic.TheVariants as op
use Rattle.typed_tree.specs.declared.computed.Call.{Call, Call-F, out-Call}
use Rattle.typed_tree.specs.declared.computed.Call.TheVariants as call
use Rattle.typed_tree.specs.declared.computed.Component.{Component, Component-F, out-Component}
use Rattle.typed_tree.specs.declared.computed.Component.TheVariants as component'
use Rattle.typed_tree.specs.declared.computed.Inclusion.{Inclusion}
use Rattle.typed_tree.specs.declared.computed.Inclusion.TheVariants as inclusion
use Rattle.typed_tree.specs.declared.computed.Link.{Link, Link-F, out-Link}
use Rattle.typed_tree.specs.declared.computed.Link.TheVariants as link
use Rattle.typed_tree.specs.declared.computed.Place.{Place, out-Place}
use Rattle.typed_tree.specs.declared.computed.Root.{Root}
use Rattle.typed_tree.specs.declared.computed.Slot.{Slot}
use Rattle.typed_tree.specs.declared.computed.TypedExpr.{TypedExpr, TypedExpr-F, out-TypedExpr}
use Rattle.typed_tree.specs.declared.computed.TypedExpr.TheVariants as expr
use Rattle.typed_tree.specs.declared.known_types.Types.{Types}
use Rattle.typed_tree.specs.declared.meaning.Procedure.{Procedure}
use Rattle.typed_tree.specs.declared.shape.Scalar.{Scalar as Range}
use Rattle.typed_tree.specs.declared.typed_module.TypedModule.{TypedModule}
use Rattle.typed_tree.specs.declared.types.TypeNo.{TypeNo}
use Rattle.typed_tree.specs.Types.{are_same, integer}
use Rattle.typed_tree.specs.Known.{scalar_at}
use Rattle.layout_storage.specs.Types.{Ty, Heading, Callable, Cell, Hidden, Array, row, component}
use Rattle.layout_storage.specs.Shapes.{tree, elements_of}
use Rattle.layout_storage.specs.Sizes.{size, offset}
use Rattle.layout_storage.specs.Texts.{argument_text}
use Rattle.def_meaning.specs.Answer.{empty_procedure, overflow, range_fault}
use Rattle.def_meaning.specs.Store.{Location}
use Rattle.def_scheme.specs.Coded.{Coded, Setting, Counts, plain, ◌⨾◌, all_coded, within, with_address, with_number, with_text, with_setting, number_local, address_local, operation, extend_word, raise_address, check_code}
use Rattle.def_scheme.specs.Cells.{load_code, in_type, check_taken}
use Rattle.def_scheme.specs.Exprs.{Part, Linked, Numbered, variables_row, frame_at, slot_path, chosen_number, absolute_code, capital_code, include_code, in_code, and_code, or_code, behind, chain_code, index_of, element_tree, element_code, arithmetic_code, ord_check, high_index, text_code, top_code, global_code, root_layer, argument_layer, call_layer, component_layer, link_layer, expr_layer, place_layer, expr_part, place_code, call_code}
use Rattle.law_memory.proofs.Places.{inside}
use Rattle.law_simulation.specs.Frames.{Kind, Kept, Alias, Open, Kinds, kind_tree, frame_kinds, or_none, kind_at, AreFrames}
use Rattle.law_simulation.specs.Passing.{Form, Forms, forms_of, Result}
use Rattle.law_simulation.specs.Scene.{AreSmall, IsSmall, IsIn}
use Rattle.law_simulation.specs.TreesTyped as typed
use Rattle.law_simulation.specs.TreesTyped.{Context, IsVariable, IsNamed, HasText}
use Rattle.law_well_formed.proofs.Places.{is_within}
use Rattle.law_encoding.specs.Fits.{max_bytes, few_entries}
use Rattle.law_encoding.specs.SmallParts.{HasSmallParts}
use Rattle.law_encoding.proofs.Constants.{sets, gets, amount, IsLow, signed, computes, Const, const_end, ◌▹◌, const_both, chooses}
use Rattle.law_encoding.proofs.ConstantPieces.{narrow_low, const_raised, const_checked, const_loaded, const_in_type, const_taken, const_slot, const_kept, const_open, const_high, const_element, const_open_element, const_global, const_with, const_arithmetic, const_complement, const_set, const_empty, const_ord, const_procedure, const_text, const_link, const_module_call, const_nested_call, const_value_call, index_small}
use Rattle.law_encoding.proofs.DeepCode.{of_argument, of_component, of_link, opened_argument, opened_call, opened_component, opened_link, opened_expr, opened_place, at_argument, at_call, at_component, at_link, at_expr, at_place}

-- ---- slots, by what stands in their frames

row_component : (ks : Kinds) (i : ℕ) (k : Kind) (p : Location) → slice_get ks i ≡ Some k
    → component (row (map kind_tree ks)) (i ∷ p) ≡ component (kind_tree k) p
unfolding component
row_component [] i k p e = absurd cc
row_component (j ∷ ks) zero k p e = let q : j ≡ k = cc in ap (λ (h : Kind). component (kind_tree h) p) q
row_component (j ∷ ks) (suc i) k p e = row_component ks i k p e

frame_component : (ks : Kinds) (i : ℕ) (k : Kind) (p : Location) (u : Ty) → slice_get ks i ≡ Some k
    → component (kind_tree k) p ≡ Some u → component (frame_kinds ks) (suc i ∷ p) ≡ Some u
unfolding component
frame_component ks i k p u e h = row_component ks i k p e ∙ h

in_frame : (o s n : ℕ) → o + s ≤ n → n ≤ few_entries → o ≤ few_entries
in_frame o s n h l = omega (arith, h, l)

abbrev pub AreRooms : List Ty → Type 0
AreRooms fs = AllByRecursion (λ (t : Ty). size t ≤ few_entries) fs

pub slot_in : (kss : List Kinds) (fs : List Ty) → AreFrames kss fs → AreRooms fs
    → (up n : ℕ) (k : Kind) (p : Location) (u : Ty) → slice_get (or_none (slice_get kss up)) n ≡ Some k
    → component (kind_tree k) p ≡ Some u
    → offset (frame_at (slice_get fs up)) (suc n ∷ p) ≤ few_entries
slot_in [] fs a r zero n k p u e h = absurd cc
slot_in [] fs a r (suc up) n k p u e h = absurd cc
slot_in (ks ∷ kss) [] a r up n k p u e h = absurd a
slot_in (ks ∷ kss) (t ∷ fs) a r zero n k p u e h =
    subst (λ (f : Ty). size f ≤ few_entries → offset f (suc n ∷ p) ≤ few_entries) (sym a.0)
    (λ l. in_frame _ (size u) _ (inside (frame_kinds ks) u (suc n ∷ p) (frame_component ks n k p u e h)) l) r.0
slot_in (ks ∷ kss) (t ∷ fs) a r (suc up) n k p u e h = slot_in kss fs a.1 r.1 up n k p u e h

pub own_component : (t : Ty) → component t [] ≡ Some t
unfolding component
own_component t = refl

pub first_hidden : (t : Ty) → component (kind_tree (Open t)) (0 ∷ []) ≡ Some (Hidden 4)
unfolding component
first_hidden t = refl

pub second_hidden : (t : Ty) → component (kind_tree (Open t)) (1 ∷ []) ≡ Some (Hidden 4)
unfolding component
second_hidden t = refl

pub few_bytes : (n : ℕ) → n ≤ few_entries → n < max_bytes
few_bytes n h = omega (arith, h)

-- ---- numbers

value_low : (types : Types) → AreSmall types → (t : TypeNo) (n : ℤ) → IsIn (scalar_at types t) n → IsLow n
value_low types small t n h = by (scalar_at types t) (small t) h where
  within : (a b : ℤ) → a ≤ℤ b → b ≤ℤ pos 4294967295 → IsLow a
  within a b h l = omega (arith, ints, h, l)

  by : (o : Option Range) → ((r : Range) → o ≡ Some r → IsSmall r) → IsIn o n → IsLow n
  by None s p = narrow_low n p.1
  by (Some r) s p = within n r.high p.1 (s r refl).high

one_element : (n s : ℕ) → (n + 1) * s ≤ few_entries → s ≤ few_entries
one_element n s h = omega (arith, h)

array_size : (n : ℕ) (u : Ty) → size (Array n u) ≡ n * size u
unfolding size
array_size n u = refl

element_few : (types : Types) (t : TypeNo) (r : Range) (u : Ty) → tree types t ≡ Array (elements_of (Some r)) u
    → size (tree types t) ≤ few_entries → size (element_tree (tree types t)) ≤ few_entries
element_few types t r u e h =
    subst (λ (y : Ty). size y ≤ few_entries → size (element_tree y) ≤ few_entries) (sym e)
    (λ l. one_element (unsigned_abs (r.high -ℤ r.low)) (size u)
    (subst (λ (n : ℕ). n ≤ few_entries) (array_size (elements_of (Some r)) u) l)) h

abs_below : (z : ℤ) → z ≤ℤ pos 4294967295 → negsuc 9223372036854775806 ≤ℤ z → unsigned_abs z + 1 - 1 < 2 ^ 64
abs_below (pos n) h l = omega (arith, ints, h)
abs_below (negsuc n) h l = omega (arith, ints, l)

span_least : (a b : ℤ) → a ≤ℤ b → negsuc 9223372036854775806 ≤ℤ (b -ℤ a)
span_least a b h = omega (arith, ints, h)

high_small : (types : Types) (t : TypeNo) (r : Range) → AreSmall types → index_of types t ≡ Some r
    → (r.high -ℤ r.low) ≤ℤ pos 4294967295 → high_index types t < 2 ^ 64
high_small types t r small e h =
    let p = index_small types small t r e in
    subst (λ (o : Option Range). elements_of o - 1 < 2 ^ 64) (sym e)
    (abs_below (r.high -ℤ r.low) h (span_least r.low r.high p.some))

text_last : (n : ℕ) → n ≤ 2 ^ 32 → n - 1 < 2 ^ 64
text_last n h = omega (arith, h)

text_start : (a n k : ℕ) → a + n ≤ k → k ≤ few_entries → a < max_bytes
text_start a n k h l = omega (arith, h, l)

number_few : (n k : ℕ) → n < k → k ≤ few_entries → n ≤ few_entries
number_few n k h l = omega (arith, h, l)

-- ---- code from one text to another, in a module and in frames

module _ (m : TypedModule) (fs : List Ty) where
  pub record Fine (a b : ℕ) (x : Coded) : Type 0 where
    pub run : (s : Setting) (c : Counts) → s.home ≡ m → s.frames ≡ fs → c.texts ≡ a → Const (x s c).0
        × ((x s c).1.texts ≡ b)

  pub fine_plain : (a : ℕ) {code : List Instr} → Const code → Fine a a (plain code)
  fine_plain a p = record { run = λ s c h g e. (p, e) }

  pub fine_then : {a b d : ℕ} {x y : Coded} → Fine a b x → Fine b d y → Fine a d (x ⨾ y)
  fine_then {x = x} p q = record {
    run = λ s c h g e. let i = p.run s c h g e in let j = q.run s (x s c).1 h g i.1 in
        (const_both i.0 j.0, j.1);
  }

  pub fine_within : {a b : ℕ} (labels : ℕ) (wrap : List Instr → List Instr) {x : Coded}
      → ((code : List Instr) → Const code → Const (wrap code)) → Fine a b x → Fine a b (within labels wrap x)
  fine_within labels wrap h p = record {
    run = λ s c i g e. let r =
        p.run (record s { exit = s.exit + labels }) c i g e in (h _ r.0, r.1);
  }

  pub fine_setting : (a : ℕ) {f : Setting → List Instr} → ((s : Setting) → s.home ≡ m → s.frames ≡ fs → Const (f s))
      → Fine a a (with_setting (λ s. plain (f s)))
  fine_setting a p = record { run = λ s c h g e. (p s h g, e) }

  pub fine_number : {a b : ℕ} {f : ℕ → Coded} → ((t : ℕ) → Fine a b (f t)) → Fine a b (with_number f)
  fine_number p = record {
    run = λ s c h g e. (p (number_local s c.numbers)).run s
        (record c { numbers = suc c.numbers }) h g e;
  }

  pub fine_address : {a b : ℕ} {f : ℕ → Coded} → ((t : ℕ) → Fine a b (f t)) → Fine a b (with_address f)
  fine_address p = record {
    run = λ s c h g e. (p (address_local s c.addresses)).run s
        (record c { addresses = suc c.addresses }) h g e;
  }

  pub fine_text : {a b : ℕ} (bytes : ℕ) (f : ℕ → Coded) → Fine (a + bytes) b (f a) → Fine a b (with_text bytes f)
  fine_text {a = a} {b = b} bytes f p = record {
    run = λ s c h g e. subst (λ (n : ℕ). Const (f n s (record c { texts = n + bytes })).0
        × ((f n s (record c { texts = n + bytes })).1.texts ≡ b)) (sym e)
        (p.run s (record c { texts = a + bytes }) h g refl);
  }

  pub fine_types : {a b : ℕ} {x : Coded} (f : Types → List Instr) → Fine a b x → Const (f m.types)
      → Fine a b (behind x f)
  fine_types {b = b} f p q = fine_then p (fine_setting b
      (λ s h g. subst (λ (n : TypedModule). Const (f n.types)) (sym h) q))

module _ (x : Context) (fs : List Ty) (small : HasSmallParts x fs) where
  abbrev m : TypedModule
  m = x.home

  abbrev T : Types
  T = x.home.types

  -- ---- slots

  slot_few : (s : Setting) → s.frames ≡ fs → (slot : Slot) (k : Kind) (p : Location) (u : Ty)
      → kind_at x.kinds slot ≡ Some k → component (kind_tree k) p ≡ Some u → slot_path s slot p < max_bytes
  slot_few s g slot k p u e h =
      few_bytes _ (subst (λ (ts : List Ty). offset (frame_at (slice_get ts slot.up)) (suc slot.number ∷ p) ≤
      few_entries) (sym g) (slot_in x.kinds fs small.known small.frames slot.up slot.number k p u e h))

  -- ---- procedures

  procedure_few : (f : Procedure) → IsNamed x f → f.number ≤ few_entries
  procedure_few f p = number_few f.number (length p.home.procedures)
      (is_within p.home.procedures f.number p.routine p.is) (small.procedures _ p.home p.there)

  -- ---- roots

  abbrev Good : ℕ → ℕ → Coded → Type 0
  Good a b c = Fine m fs a b c

  global_few : (t : Ty) (o s n : ℕ) → o + s ≤ n → n ≤ few_entries → o < max_bytes
  global_few t o s n h l = omega (arith, h, l)

  pub root_fine : (ws : List Ty) (a : ℕ) (r : Root) (t : Ty) → typed.IsRoot x ws r t → Good a a (root_layer r)
  root_fine ws a _ _ (typed.GlobalRoot v t p) =
      fine_setting m fs a (λ s h g. subst (λ (n : TypedModule). Const (global_code n v)) (sym h)
      (const_global m v (global_few t _ (size t) _ (inside (variables_row m v.home) t (v.number ∷ []) p.type)
      (small.rows v.home))))
  root_fine ws a _ _ (typed.LocalRoot slot t k) =
      fine_setting m fs a (λ s h g. const_slot s slot [] (slot_few s g slot (Kept t) [] t k (own_component t)))
  root_fine ws a _ _ (typed.AliasRoot slot t k) =
      fine_setting m fs a (λ s h g. const_kept s slot []
      (slot_few s g slot (Alias t) [] (Hidden 4) k (own_component (Hidden 4))))
  root_fine ws a _ _ (typed.WithRoot j t q) = fine_setting m fs a (λ s h g. const_with _)

  -- ---- expressions, by their parts

  include_fine : {a b c : ℕ} (o : Inclusion) {y z : Coded} → Good a b y → Good b c z → Good a c (include_code o y z)
  include_fine {b = b} {c = c} inclusion.Within p q =
      fine_then m fs p (fine_then m fs q (fine_plain m fs c (const_both const_complement (computes _ ▹ const_empty))))
  include_fine {b = b} {c = c} inclusion.Around p q =
      fine_then m fs p (fine_then m fs (fine_plain m fs b const_complement)
      (fine_then m fs q (fine_plain m fs c (computes _ ▹ const_empty))))

  set_bounds : Const (check_code (pos 0) (pos 31) range_fault)
  set_bounds = const_checked (pos 0) (pos 31) range_fault (omega (arith, ints)) (omega (arith, ints)) (omega arith)

  const_in : (t : ℕ) → Const (LocalGet t ∷ operation ShrU ∷ I64Const 1 ∷ operation And ∷ [])
  const_in t = gets t ▹ computes _ ▹ amount 1 (omega arith) ▹ computes _ ▹ const_end

  in_fine : {a b c : ℕ} {y z : Coded} → Good a b y → Good b c z → Good a c (in_code y z)
  in_fine {b = b} {c = c} p q =
      fine_then m fs p (fine_then m fs (fine_plain m fs b set_bounds)
      (fine_number m fs (λ t. fine_then m fs (fine_plain m fs b (sets t ▹ const_end))
      (fine_then m fs q (fine_plain m fs c (const_in t))))))

  const_absolute : (t : ℕ) → Const (absolute_code t)
  const_absolute t =
      sets t ▹ gets t ▹ amount 0 (omega arith) ▹ computes _ ▹ chooses (Some type.I64)
      (amount 0 (omega arith) ▹ gets t ▹ computes _ ▹ const_end) (gets t ▹ const_end)
      ▹ const_checked (pos 0) (pos 2147483647) overflow (omega (arith, ints)) (omega (arith, ints)) (omega arith)

  const_capital : (t : ℕ) → Const (capital_code t)
  const_capital t =
      sets t ▹ gets t ▹ amount 97 (omega arith) ▹ computes _ ▹ amount 25 (omega arith) ▹ computes _ ▹ chooses
      (Some type.I64) (gets t ▹ amount 32 (omega arith) ▹ computes _ ▹ const_end) (gets t ▹ const_end) ▹ const_end

  abs_fine : {a b : ℕ} (q : Bool) {y : Coded} (f : ℕ → List Instr) → ((t : ℕ) → Const (f t)) → Good a b y
      → Good a b (if q then y ⨾ with_number (λ t. plain (f t)) else y)
  abs_fine {b = b} true f h p = fine_then m fs p (fine_number m fs (λ t. fine_plain m fs b (h t)))
  abs_fine false f h p = p

  and_wraps : (code : List Instr) → Const code → Const (chosen_number code (I64Const 0 ∷ []) ∷ [])
  and_wraps code p = chooses (Some type.I64) p (amount 0 (omega arith) ▹ const_end) ▹ const_end

  or_wraps : (code : List Instr) → Const code → Const (chosen_number (I64Const 1 ∷ []) code ∷ [])
  or_wraps code p = chooses (Some type.I64) (amount 1 (omega arith) ▹ const_end) p ▹ const_end

  and_fine : {a b : ℕ} {y : Coded} → Good a b y → Good a b (and_code y)
  and_fine {a = a} p = fine_then m fs (fine_plain m fs a (computes _ ▹ const_end)) (fine_within m fs 1 _ and_wraps p)

  or_fine : {a b : ℕ} {y : Coded} → Good a b y → Good a b (or_code y)
  or_fine {a = a} p = fine_then m fs (fine_plain m fs a (computes _ ▹ const_end)) (fine_within m fs 1 _ or_wraps p)

  top_fine : (a : ℕ) → Good a a top_code
  top_fine a = fine_setting m fs a (λ s h g. gets _ ▹ const_end)

  checked_empty : Const (check_code (pos 1) (pos 4294967295) empty_procedure)
  checked_empty = const_checked (pos 1) (pos 4294967295) empty_procedure (omega (arith, ints)) (omega (arith, ints))
      (omega arith)

  -- ---- trees

  module _ (numbered : Numbered) where
    abbrev GoodExpr : ℕ → ℕ → TypedExpr → Type 0
    GoodExpr a b e = Good a b (expr_part numbered e).code

    expr_by : {a b : ℕ} (e : TypedExpr) (y : TypedExpr-F Argument Call Component Link TypedExpr Place)
        → out-TypedExpr e ≡ y → Good a b (expr_layer (opened_expr numbered y)).code → GoodExpr a b e
    expr_by {a = a} {b = b} e y q p = subst (λ (z : Part). Good a b z.code) (sym (at_expr numbered e y q)) p

    link_by : {a b : ℕ} (e : Link) (y : Link-F Argument Call Component Link TypedExpr Place) → out-Link e ≡ y
        → Good a b (link_layer (opened_link numbered y)).code → Good a b (of_link numbered e).code
    link_by {a = a} {b = b} e y q p = subst (λ (z : Linked). Good a b z.code) (sym (at_link numbered e y q)) p

    call_by : {a b : ℕ} (e : Call) (y : Call-F Argument Call Component Link TypedExpr Place) → out-Call e ≡ y
        → Good a b (call_layer numbered (opened_call numbered y)) → Good a b (call_code numbered e)
    call_by {a = a} {b = b} e y q p = subst (λ (z : Coded). Good a b z) (sym (at_call numbered e y q)) p

    component_by : {a b : ℕ} (e : Component) (y : Component-F Argument Call Component Link TypedExpr Place)
        → out-Component e ≡ y → Good a b (component_layer (opened_component numbered y))
        → Good a b (of_component numbered e)
    component_by {a = a} {b = b} e y q p = subst (λ (z : Coded). Good a b z) (sym (at_component numbered e y q)) p

    argument_by : {a b : ℕ} (e : Argument) (y : Argument-F Argument Call Component Link TypedExpr Place)
        → out-Argument e ≡ y → Good a b (argument_layer (opened_argument numbered y))
        → Good a b (of_argument numbered e)
    argument_by {a = a} {b = b} e y q p = subst (λ (z : Coded). Good a b z) (sym (at_argument numbered e y q)) p

    pub place_by : {a b : ℕ} (d : Place) → Good a b (place_layer (opened_place numbered (out-Place d)))
        → Good a b (place_code numbered d)
    place_by {a = a} {b = b} d p = subst (λ (z : Coded). Good a b z) (sym (at_place numbered d (out-Place d) refl)) p

    mutual
      pub expr_fine : (ws : List Ty) (a b : ℕ) (e : TypedExpr) (t : TypeNo) → typed.IsExpr x ws a b e t → GoodExpr a b e
      expr_fine ws _ _ _ _ (typed.Constant a t n is) =
          expr_by (expr.Constant t n) (layer.Constant t n) (expr.outs-Constant t n)
          (fine_plain m fs a (signed n (value_low T small.ranges t n is) ▹ const_end))
      expr_fine ws _ _ _ _ (typed.Load a b t c d cell h) =
          expr_by (expr.Load t d) (layer.Load t d) (expr.outs-Load t d)
          (fine_types m fs (λ types. load_code types t) (place_fine ws a b d (Cell c) h) (const_loaded T t small.cells))
      expr_fine ws _ _ _ _ (typed.ProcedureValue a b t h e is of none) = held_fine ws a b e h is
      expr_fine ws _ _ _ _ (typed.Plus a b t u e h g) =
          expr_by (expr.Plus t e) (layer.Plus t e) (expr.outs-Plus t e) (expr_fine ws a b e u h)
      expr_fine ws _ _ _ _ (typed.Negate a b u e h) =
          expr_by (expr.Negate e) (layer.Negate e) (expr.outs-Negate e)
          (fine_then m fs (fine_plain m fs a (amount 0 (omega arith) ▹ const_end))
          (fine_types m fs (λ types. operation Sub ∷ in_type types integer overflow) (expr_fine ws a b e u h)
          (computes _ ▹ const_in_type T integer overflow small.ranges (omega arith))))
      expr_fine ws _ _ _ _ (typed.Chain a b c u t e ls h hs) =
          expr_by (expr.Chain e ls) (layer.Chain e ls) (expr.outs-Chain e ls)
          (fine_then m fs (expr_fine ws a b e u h) (links_fine ws b c u ls t hs))
      expr_fine ws _ _ _ _ (typed.Compare a b c u v o e f h g) =
          expr_by (expr.Compare o e f) (layer.Compare o e f) (expr.outs-Compare o e f)
          (fine_then m fs (expr_fine ws a b e u h)
          (fine_then m fs (expr_fine ws b c f v g) (fine_plain m fs c (computes _ ▹ computes _ ▹ const_end))))
      expr_fine ws _ _ _ _ (typed.Not a b u e h g) =
          expr_by (expr.Not e) (layer.Not e) (expr.outs-Not e)
          (fine_then m fs (expr_fine ws a b e u h) (fine_plain m fs b const_empty))
      expr_fine ws _ _ _ _ (typed.Include a b c u v o e f h i g j) =
          expr_by (expr.Include o e f) (layer.Include o e f) (expr.outs-Include o e f)
          (include_fine o (expr_fine ws a b e u h) (expr_fine ws b c f v g))
      expr_fine ws _ _ _ _ (typed.In a b c u v e f h g j) =
          expr_by (expr.In e f) (layer.In e f) (expr.outs-In e f)
          (in_fine (expr_fine ws a b e u h) (expr_fine ws b c f v g))
      expr_fine ws _ _ _ _ (typed.Abs a b t u e h i j ranged) =
          expr_by (expr.Abs t e) (layer.Abs t e) (expr.outs-Abs t e)
          (abs_fine (are_same t integer) absolute_code const_absolute (expr_fine ws a b e u h))
      expr_fine ws _ _ _ _ (typed.Cap a b u e h i) =
          expr_by (expr.Cap e) (layer.Cap e) (expr.outs-Cap e)
          (fine_then m fs (expr_fine ws a b e u h) (fine_number m fs (λ t. fine_plain m fs b (const_capital t))))
      expr_fine ws _ _ _ _ (typed.Chr a b u e h) =
          expr_by (expr.Chr e) (layer.Chr e) (expr.outs-Chr e)
          (fine_then m fs (expr_fine ws a b e u h)
          (fine_plain m fs b (const_checked (pos 0) (pos 255) range_fault (omega (arith, ints)) (omega (arith, ints))
          (omega arith))))
      expr_fine ws _ _ _ _ (typed.Odd a b u e h) =
          expr_by (expr.Odd e) (layer.Odd e) (expr.outs-Odd e)
          (fine_then m fs (expr_fine ws a b e u h)
          (fine_plain m fs b (amount 1 (omega arith) ▹ computes _ ▹ const_end)))
      expr_fine ws _ _ _ _ (typed.Ord a b u e h i j) =
          expr_by (expr.Ord e) (layer.Ord e) (expr.outs-Ord e)
          (fine_types m fs (λ types. ord_check types (expr_part numbered e).of) (expr_fine ws a b e u h)
          (const_ord T (expr_part numbered e).of))
      expr_fine ws _ _ _ _ (typed.Val a b t u e h i) =
          expr_by (expr.Val t e) (layer.Val t e) (expr.outs-Val t e)
          (fine_types m fs (λ types. in_type types t range_fault) (expr_fine ws a b e u h)
          (const_in_type T t range_fault small.ranges (omega arith)))
      expr_fine ws _ _ _ _ (typed.High a slot t k) =
          expr_by (expr.High slot) (layer.High slot) (expr.outs-High slot)
          (fine_setting m fs a (λ s h g. const_high s slot
          (slot_few s g slot (Open t) (1 ∷ []) (Hidden 4) k (second_hidden t))))
      expr_fine ws _ _ _ _ (typed.FunctionCall a b t r c h cell) =
          expr_by (expr.Call t c) (layer.Call t c) (expr.outs-Call t c) (call_fine ws a b c (Some (tree T t)) h)

      pub held_fine : (ws : List Ty) (a b : ℕ) (e : TypedExpr) (h : Heading) → typed.IsProcedureExpr x ws a b e h
          → GoodExpr a b e
      held_fine ws _ _ _ _ (typed.LoadedProcedure a b t h d type g) =
          expr_by (expr.Load t d) (layer.Load t d) (expr.outs-Load t d)
          (fine_types m fs (λ types. load_code types t) (place_fine ws a b d (Cell (Callable h)) g)
          (const_loaded T t small.cells))
      held_fine ws _ _ _ _ (typed.NamedProcedure a f h known is) =
          expr_by (expr.Procedure f) (layer.Procedure f) (expr.outs-Procedure f)
          (fine_setting m fs a (λ s i g. const_procedure s.home f (procedure_few f known)))
      held_fine ws _ _ _ _ (typed.GivenProcedure a b t h c g) =
          expr_by (expr.Call t c) (layer.Call t c) (expr.outs-Call t c)
          (call_fine ws a b c (Some (Cell (Callable h))) g)

      links_fine : (ws : List Ty) (a b : ℕ) (t : TypeNo) (ls : List Link) (u : TypeNo) → typed.AreLinks x ws a b t ls u
          → Good a b (chain_code (map (of_link numbered) ls))
      links_fine ws _ _ _ _ _ (typed.no_links a t) = fine_plain m fs a const_end
      links_fine ws _ _ _ _ _ (typed.more_links a b c t u v l ls h hs) =
          fine_then m fs (link_fine ws a b t l u h) (links_fine ws b c u ls v hs)

      link_fine : (ws : List Ty) (a b : ℕ) (t : TypeNo) (l : Link) (u : TypeNo) → typed.IsLink x ws a b t l u
          → Good a b (of_link numbered l).code
      link_fine ws _ _ _ _ _ (typed.Sum a b t u w e h i) =
          link_by (link.Arithmetic op.Add w e) (layer.Arithmetic op.Add w e) (link.outs-Arithmetic op.Add w e)
          (fine_types m fs (λ types. arithmetic_code types op.Add w) (expr_fine ws a b e u h)
          (const_arithmetic T op.Add w small.ranges))
      link_fine ws _ _ _ _ _ (typed.Difference a b t u w e h i) =
          link_by (link.Arithmetic op.Subtract w e) (layer.Arithmetic op.Subtract w e)
          (link.outs-Arithmetic op.Subtract w e)
          (fine_types m fs (λ types. arithmetic_code types op.Subtract w) (expr_fine ws a b e u h)
          (const_arithmetic T op.Subtract w small.ranges))
      link_fine ws _ _ _ _ _ (typed.Product a b t u w e h i) =
          link_by (link.Arithmetic op.Multiply w e) (layer.Arithmetic op.Multiply w e)
          (link.outs-Arithmetic op.Multiply w e)
          (fine_types m fs (λ types. arithmetic_code types op.Multiply w) (expr_fine ws a b e u h)
          (const_arithmetic T op.Multiply w small.ranges))
      link_fine ws _ _ _ _ _ (typed.Quotient a b t u w e h i j) =
          link_by (link.Arithmetic op.Divide w e) (layer.Arithmetic op.Divide w e) (link.outs-Arithmetic op.Divide w e)
          (fine_types m fs (λ types. arithmetic_code types op.Divide w) (expr_fine ws a b e u h)
          (const_arithmetic T op.Divide w small.ranges))
      link_fine ws _ _ _ _ _ (typed.Remainder a b t u w e h i j) =
          link_by (link.Arithmetic op.Remainder w e) (layer.Arithmetic op.Remainder w e)
          (link.outs-Arithmetic op.Remainder w e)
          (fine_types m fs (λ types. arithmetic_code types op.Remainder w) (expr_fine ws a b e u h)
          (const_arithmetic T op.Remainder w small.ranges))
      link_fine ws _ _ _ _ _ (typed.And a b t u e h i j) =
          link_by (link.And e) (layer.And e) (link.outs-And e) (and_fine (expr_fine ws a b e u h))
      link_fine ws _ _ _ _ _ (typed.Or a b t u e h i j) =
          link_by (link.Or e) (layer.Or e) (link.outs-Or e) (or_fine (expr_fine ws a b e u h))
      link_fine ws _ _ _ _ _ (typed.Combine a b t u o e h i j) =
          link_by (link.Combine o e) (layer.Combine o e) (link.outs-Combine o e)
          (fine_then m fs (expr_fine ws a b e u h) (fine_plain m fs b (const_set o)))

      pub place_fine : (ws : List Ty) (a b : ℕ) (d : Place) (t : Ty) → typed.IsPlace x ws a b d t
          → Good a b (place_code numbered d)
      place_fine ws _ _ _ _ (typed.Designator a b d t u r cs) =
          place_by d (fine_then m fs (root_fine ws a d.root t r) (components_fine ws a b t d.components u cs))
      place_fine ws _ _ _ _ (typed.OfOpen a b c d slot t u v w i cs is k all h hs) =
          place_by d (fine_then m fs (subst (λ (r : Root). Good a a (root_layer r)) (sym is)
          (fine_setting m fs a (λ s i g. const_open s slot
          (slot_few s g slot (Open (tree T t)) (0 ∷ []) (Hidden 4) k (first_hidden (tree T t))))))
          (subst (λ (ks : List Component). Good a c (all_coded (map (of_component numbered) ks))) (sym all)
          (fine_then m fs (component_by (component'.OpenElement slot t i) (layer.OpenElement slot t i)
          (component'.outs-OpenElement slot t i)
          (fine_then m fs (expr_fine ws a b i w h) (fine_setting m fs b (λ s j g.
          const_open_element s slot t (slot_few s g slot (Open (tree T t)) (1 ∷ []) (Hidden 4) k
          (second_hidden (tree T t))) (subst (λ (n : TypedModule). size (tree n.types t) ≤ few_entries) (sym j)
          (small.types t))))))
          (components_fine ws b c (tree T t) cs v hs))))

      components_fine : (ws : List Ty) (a b : ℕ) (t : Ty) (ks : List Component) (u : Ty)
          → typed.AreComponents x ws a b t ks u → Good a b (all_coded (map (of_component numbered) ks))
      components_fine ws _ _ _ _ _ (typed.no_components a t) = fine_plain m fs a const_end
      components_fine ws _ _ _ _ _ (typed.more_components a b c t u v k ks h hs) =
          fine_then m fs (component_fine ws a b t k u h) (components_fine ws b c u ks v hs)

      component_fine : (ws : List Ty) (a b : ℕ) (t : Ty) (k : Component) (u : Ty) → typed.IsComponent x ws a b t k u
          → Good a b (of_component numbered k)
      component_fine ws _ _ _ _ _ (typed.FieldOf a t j u is) =
          component_by (component'.Field t j) (layer.Field t j) (component'.outs-Field t j)
          (fine_setting m fs a (λ s h g. subst
          (λ (n : TypedModule). Const (raise_address (offset (tree n.types t) (j ∷ [])))) (sym h)
          (const_raised _ (global_few u _ (size u) _ (inside (tree T t) u (j ∷ []) is) (small.types t)))))
      component_fine ws _ _ _ _ _ (typed.ElementOf a b t w r u i index is h) =
          component_by (component'.Element t i) (layer.Element t i) (component'.outs-Element t i)
          (fine_types m fs (λ types. element_code types t) (expr_fine ws a b i w h)
          (const_element T t small.ranges (element_few T t r u is (small.types t))))

      pub call_fine : (ws : List Ty) (a b : ℕ) (c : Call) (r : Result) → typed.IsCall x ws a b c r
          → Good a b (call_code numbered c)
      call_fine ws _ _ _ _ (typed.OfModule a b f args known hs) =
          call_by (call.Module f args) (layer.Module f args) (call.outs-Module f args)
          (fine_then m fs (top_fine a) (fine_then m fs (arguments_fine ws a b args (forms_of T f.heading) hs)
          (fine_setting m fs b (λ s h g. const_module_call numbered s.home f (procedure_few f known.named)))))
      call_fine ws _ _ _ _ (typed.OfProcedure a b f args known hs) =
          call_by (call.Nested f args) (layer.Nested f args) (call.outs-Nested f args)
          (fine_then m fs (top_fine a) (fine_then m fs (fine_plain m fs a (const_link numbered f.up))
          (fine_then m fs (arguments_fine ws a b args (forms_of T f.heading) hs)
          (fine_setting m fs b (λ s h g. const_nested_call numbered s.home f)))))
      call_fine ws _ _ _ _ (typed.OfVariable a b c t h d args is type g among hs) =
          call_by (call.Variable t d args) (layer.Variable t d args) (call.outs-Variable t d args)
          (fine_then m fs (fine_types m fs (λ types. load_code types t) (place_fine ws a b d (Cell (Callable h)) g)
          (const_loaded T t small.cells)) (fine_then m fs (fine_plain m fs b checked_empty)
          (fine_number m fs (λ n. fine_then m fs (fine_plain m fs b (sets n ▹ const_end))
          (fine_then m fs (top_fine b) (fine_then m fs (arguments_fine ws b c args (forms_of T t) hs)
          (fine_setting m fs c (λ s i j. const_value_call numbered s.home.types n t))))))))

      arguments_fine : (ws : List Ty) (a b : ℕ) (xs : List Argument) (gs : Forms) → typed.AreArguments x ws a b xs gs
          → Good a b (all_coded (map (of_argument numbered) xs))
      arguments_fine ws _ _ _ _ (typed.no_arguments a) = fine_plain m fs a const_end
      arguments_fine ws _ _ _ _ (typed.more_arguments a b c y ys f gs h hs) =
          fine_then m fs (argument_fine ws a b y f h) (arguments_fine ws b c ys gs hs)

      argument_fine : (ws : List Ty) (a b : ℕ) (y : Argument) (f : Form) → typed.IsArgument x ws a b y f
          → Good a b (of_argument numbered y)
      argument_fine ws _ _ _ _ (typed.Value a b t u c e h cell taken) =
          argument_by (argument.Value t e) (layer.Value t e) (argument.outs-Value t e)
          (fine_types m fs (λ types. check_taken types t (expr_part numbered e).constant (expr_part numbered e).of)
          (expr_fine ws a b e u h) (const_taken T t (expr_part numbered e).constant (expr_part numbered e).of
          small.ranges))
      argument_fine ws _ _ _ _ (typed.ProcedureActual a b t h e is none type) =
          argument_by (argument.Value t e) (layer.Value t e) (argument.outs-Value t e)
          (fine_types m fs (λ types. check_taken types t (expr_part numbered e).constant (expr_part numbered e).of)
          (held_fine ws a b e h is) (const_taken T t (expr_part numbered e).constant (expr_part numbered e).of
          small.ranges))
      argument_fine ws _ _ _ _ (typed.ActualName a b d t h) =
          argument_by (argument.Place d) (layer.Place d) (argument.outs-Place d)
          (fine_then m fs (place_fine ws a b d t h) (fine_plain m fs b (computes _ ▹ const_end)))
      argument_fine ws _ _ _ _ (typed.ActualCopy a b d t h) =
          argument_by (argument.Place d) (layer.Place d) (argument.outs-Place d)
          (fine_then m fs (place_fine ws a b d t h) (fine_plain m fs b (computes _ ▹ const_end)))
      argument_fine ws _ _ _ _ (typed.ActualArray a b t r u v d index narrow is h) =
          argument_by (argument.Array t d) (layer.Array t d) (argument.outs-Array t d)
          (fine_types m fs (λ types. extend_word ∷ I64Const (high_index types t) ∷ [])
          (place_fine ws a b d (tree T t) h) (computes _ ▹ amount _ (high_small T t r small.ranges index narrow) ▹
          const_end))
      argument_fine ws _ _ _ _ (typed.ActualOpen a slot v u k) =
          argument_by (argument.Open slot) (layer.Open slot) (argument.outs-Open slot)
          (fine_setting m fs a (λ s h g. const_both
          (const_open s slot (slot_few s g slot (Open u) (0 ∷ []) (Hidden 4) k (first_hidden u)))
          (computes _ ▹ const_high s slot (slot_few s g slot (Open u) (1 ∷ []) (Hidden 4) k (second_hidden u)))))
      argument_fine ws _ _ _ _ (typed.ActualText a text has few) =
          argument_by (argument.Text text) (layer.Text text) (argument.outs-Text text)
          (fine_text m fs (length (argument_text text))
          (λ at. plain (text_code at ++ (extend_word ∷ I64Const (length (argument_text text) - 1) ∷ [])))
          (fine_plain m fs (a + length (argument_text text))
          (const_both (const_text a (text_start a (length (argument_text text)) _ has.fits small.texts))
          (computes _ ▹ amount _ (text_last _ few) ▹ const_end))))
