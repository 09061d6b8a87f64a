-- Expressions, designators, calls and arguments: a lemma for each construct, and then the induction.
use Rattle.std.proofs.Common.{◌≡◌, ℕ, suc, ◌+◌, ℤ, pos, Bool, true, false, List, [], ◌∷◌, ◌++◌, map, length, Some, Option, refl, sym, ap, subst}
use Rattle.std.proofs.lemmas.List.{append-nil}
use Rattle.std.specs.Prelude.{slice_get, if◌then◌else◌}
use Rattle.wasm_tree.specs.declared.kinds.ValueType.TheVariants.{I32, I64}
use Rattle.wasm_tree.specs.declared.kinds.FuncType.{FuncType}
use Rattle.wasm_tree.specs.declared.instr.Instr.{Instr}
use Rattle.wasm_tree.specs.declared.instr.Instr.TheVariants.{LocalGet, GlobalGet, I64Const, Call as Calls}
use Rattle.wasm_tree.specs.declared.instr.Numeric.TheVariants as numeric
use Rattle.wasm_tree.specs.declared.instr.Operation.TheVariants.{Sub, And, ShrU}
use Rattle.wasm_tree.specs.declared.instr.Relation.TheVariants.{LtS, LeU}
use Rattle.wasm_tree.specs.Validity.{Leads}
use Rattle.typed_tree.specs.declared.computed.Argument.{Argument, Argument-F, out-Argument}
use Rattle.typed_tree.specs.declared.computed.Argument.TheOpen as layer
use Rattle.typed_tree.specs.declared.computed.Argument.TheVariants as argument
use Rattle.typed_tree.specs.declared.computed.Arithmetic.{Arithmetic}
use Rattle.typed_tree.specs.declared.computed.Call.{Call, Call-F, out-Call}
use Rattle.typed_tree.specs.declared.computed.Call.TheVariants as call
use Rattle.typed_tree.specs.declared.computed.Comparison.{Comparison}
use Rattle.typed_tree.specs.declared.computed.Component.{Component, Component-F, out-Component}
use Rattle.typed_tree.specs.declared.computed.Component.TheVariants as component
use Rattle.typed_tree.specs.declared.computed.Inclusion.{Inclusion}
use Rattle.typed_tree.specs.declared.computed.Inclusion.TheVariants as inclusion
use Rattle.typed_tree.specs.declared.computed.Link.{Link, Link-F, out-Link}
use Rattle.typed_tree.specs.declared.computed.Link.TheVariants as link
use Rattle.typed_tree.specs.declared.computed.LocalProcedure.{LocalProcedure}
use Rattle.typed_tree.specs.declared.computed.Place.{Place, out-Place}
use Rattle.typed_tree.specs.declared.computed.Root.{Root}
use Rattle.typed_tree.specs.declared.computed.Root.TheVariants as root
use Rattle.typed_tree.specs.declared.computed.SetOperator.{SetOperator}
use Rattle.typed_tree.specs.declared.computed.Slot.{Slot}
use Rattle.typed_tree.specs.declared.computed.TypedExpr.{TypedExpr, TypedExpr-F, out-TypedExpr}
use Rattle.typed_tree.specs.declared.computed.TypedExpr.TheVariants as expr
use Rattle.typed_tree.specs.declared.known_types.Types.{Types}
use Rattle.typed_tree.specs.declared.meaning.Procedure.{Procedure}
use Rattle.typed_tree.specs.declared.types.TypeNo.{TypeNo}
use Rattle.typed_tree.specs.Types.{are_same, integer}
use Rattle.layout_storage.specs.Frames.{formals_of}
use Rattle.layout_storage.specs.Sizes.{offset}
use Rattle.layout_storage.specs.Shapes.{tree}
use Rattle.layout_storage.specs.Texts.{argument_text}
use Rattle.def_scheme.specs.Coded.{Coded, plain, ◌⨾◌, all_coded, with_number, top_local, raise_address, operation, wrap_word, extend_word}
use Rattle.def_scheme.specs.Cells.{load_code, in_type, check_taken}
use Rattle.def_scheme.specs.Exprs.{Part, Linked, all_arguments, has_result, is_own, relation_of, arithmetic_code, include_code, absolute_code, capital_code, ord_check, behind, procedure_code, high_code, chain_code, argument_layer, call_layer, component_layer, link_layer, expr_layer, root_layer, root_layer, with_code, global_code, slot_code, kept_address, open_address, open_element_code, element_code, high_index, top_code, indirect, module_call, nested_call, value_call, slots_global, slot_number, expr_part, place_code, call_code}
use Rattle.def_scheme.specs.Signatures.{Signatures, signature, of_heading, is_among, so_many, results_of, type_of}
use Rattle.law_modules.specs.WellFormed.{IsScalar, IsRoutine, IsProcedure, IsRoot}
use Rattle.law_modules.proofs.Leading.{Stack, Callable, then_leads, above, same_stacks, get, set, glob, long, calc, one_of, done, invoke, invoke_slot}
use Rattle.law_modules.proofs.Fits.{Body, Holds, Fits, at, labelled, IsNumber, fits_code, fits_plain, fits_then, fits_above, fits_given, fits_number, fits_text, fits_valued, fits_as}
use Rattle.law_modules.proofs.Parts.{S, N, checked_leads, type_leads, taken_leads, loaded_leads, raised_leads, frame_leads, slot_leads, kept_leads, open_leads, high_leads, element_leads, open_element_leads, text_leads, arithmetic_leads, complement_leads, set_leads, empty_leads, ord_leads, slots_there, global_leads, procedure_leads}
use Rattle.law_modules.proofs.Opened.{argument_code, component_code, link_part, expr_opened, expr_at, link_opened, link_at, component_opened, component_at, place_at, call_opened, call_at, argument_opened, argument_at}

abbrev pub NN : Stack
NN = I64 ∷ I64 ∷ []

abbrev pub SN : Stack
SN = I32 ∷ I64 ∷ []

-- ---- all signatures of some calls have a number

abbrev pub AreKnown : Signatures → Signatures → Type 0
AreKnown known [] = Unit {0}
AreKnown known (s ∷ ss) = (is_among known s ≡ true) × AreKnown known ss

pub first_known : (known xs ys : Signatures) → AreKnown known (xs ++ ys) → AreKnown known xs
first_known known [] ys k = tt
first_known known (x ∷ xs) ys k = (k.0, first_known known xs ys k.1)

pub rest_known : (known xs ys : Signatures) → AreKnown known (xs ++ ys) → AreKnown known ys
rest_known known [] ys k = k
rest_known known (x ∷ xs) ys k = rest_known known xs ys k.1

module _ (b : Body) (h : Holds b) (w : ℕ) (l : Bool) where
  abbrev pub Fine : Coded → Stack → Stack → Type 0
  Fine x s t = Fits b (Unit {0}) w l (λ e. e) 0 x 0 s t

  abbrev pub FineExpr : TypedExpr → Type 0
  FineExpr e = Fine (expr_part b.numbered e).code [] N

  abbrev pub FineLink : Link → Type 0
  FineLink x = Fine (link_part b.numbered x).code N N

  abbrev pub FinePlace : Place → Type 0
  FinePlace d = Fine (place_code b.numbered d) [] S

  abbrev pub FineComponent : Component → Type 0
  FineComponent c = Fine (component_code b.numbered c) S S

  abbrev pub FineCall : Call → Bool → Type 0
  FineCall c result = Fine (call_code b.numbered c) [] (results_of result)

  abbrev pub open_count : Bool → ℕ
  open_count q = if q then 2 else 1

  abbrev pub FineArgument : Argument → Bool → Type 0
  FineArgument x open_array = Fine (argument_code b.numbered x) [] (so_many (open_count open_array))

  pub plain_fine : {code : List Instr} {s t : Stack} → ((ls : List Stack) → Leads (labelled b ls) code s t)
      → Fine (plain code) s t
  plain_fine k = fits_plain (λ p ls. k ls)

  pub behind_fine : (code : Types → List Instr) {x : Coded} {s t u : Stack} → Fine x s t
      → ((ls : List Stack) → Leads (labelled b ls) (code b.home.types) t u) → Fine (behind x code) s u
  behind_fine code x k = fits_then x (fits_code {f = λ s. code s.home.types} (λ p e ws ls suits. k ls))

  -- ---- expressions

  from_expr : (e : TypedExpr) (x : TypedExpr-F Argument Call Component Link TypedExpr Place) → out-TypedExpr e ≡ x
      → Fine (expr_layer (expr_opened b.numbered x)).code [] N → FineExpr e
  from_expr e x q k = fits_as (ap (λ (p : Part). p.code) (expr_at b.numbered e x q)) refl k

  pub constant_fine : (t : TypeNo) (v : ℤ) → FineExpr (expr.Constant t v)
  constant_fine t v = from_expr (expr.Constant t v) (layer.Constant t v) (expr.outs-Constant t v)
      (plain_fine (λ ls. long _ [] (done N)))

  pub load_fine : (t : TypeNo) (d : Place) → IsScalar b.home.types t → FinePlace d → FineExpr (expr.Load t d)
  load_fine t d s x = from_expr (expr.Load t d) (layer.Load t d) (expr.outs-Load t d)
      (behind_fine (λ types. load_code types t) x (λ ls. loaded_leads b h ls b.home.types t s))

  pub procedure_fine : (f : Procedure) → IsProcedure b.home f → FineExpr (expr.Procedure f)
  procedure_fine f p = from_expr (expr.Procedure f) (layer.Procedure f) (expr.outs-Procedure f)
      (fits_code {f = λ s. procedure_code s.home f} (λ q e ws ls suits. procedure_leads b h ls f p.known))

  pub plus_fine : (t : TypeNo) (e : TypedExpr) → FineExpr e → FineExpr (expr.Plus t e)
  plus_fine t e x = from_expr (expr.Plus t e) (layer.Plus t e) (expr.outs-Plus t e) x

  pub negate_fine : (e : TypedExpr) → FineExpr e → FineExpr (expr.Negate e)
  negate_fine e x = from_expr (expr.Negate e) (layer.Negate e) (expr.outs-Negate e)
      (fits_then (plain_fine (λ ls. long 0 [] (done N)))
      (behind_fine (λ types. operation Sub ∷ in_type types integer 2) (fits_above N x)
      (λ ls. calc (numeric.I64Operation Sub) [] (type_leads b h ls b.home.types integer 2))))

  pub chain_fine : (e : TypedExpr) (ls : List Link) → FineExpr e → Fine (chain_code (map (link_part b.numbered) ls)) N N
      → FineExpr (expr.Chain e ls)
  chain_fine e ls x y = from_expr (expr.Chain e ls) (layer.Chain e ls) (expr.outs-Chain e ls) (fits_then x y)

  pub compare_fine : (o : Comparison) (e f : TypedExpr) → FineExpr e → FineExpr f → FineExpr (expr.Compare o e f)
  compare_fine o e f x y = from_expr (expr.Compare o e f) (layer.Compare o e f) (expr.outs-Compare o e f)
      (fits_then x (fits_then (fits_above N y)
      (plain_fine (λ ls. calc (numeric.I64Relation (relation_of o)) [] (calc numeric.I64ExtendI32U [] (done N))))))

  pub not_fine : (e : TypedExpr) → FineExpr e → FineExpr (expr.Not e)
  not_fine e x = from_expr (expr.Not e) (layer.Not e) (expr.outs-Not e)
      (fits_then x (plain_fine (λ ls. empty_leads b h ls)))

  pub include_fine : (o : Inclusion) (x y : Coded) → Fine x [] N → Fine y [] N → Fine (include_code o x y) [] N
  include_fine inclusion.Within x y p q =
      fits_then p (fits_then (fits_above N q)
      (plain_fine (λ ls. then_leads (above N (complement_leads b h ls))
      (calc (numeric.I64Operation And) [] (empty_leads b h ls)))))
  include_fine inclusion.Around x y p q =
      fits_then p (fits_then (plain_fine (λ ls. complement_leads b h ls))
      (fits_then (fits_above N q) (plain_fine (λ ls. calc (numeric.I64Operation And) [] (empty_leads b h ls)))))

  pub included_fine : (o : Inclusion) (e f : TypedExpr) → FineExpr e → FineExpr f → FineExpr (expr.Include o e f)
  included_fine o e f x y = from_expr (expr.Include o e f) (layer.Include o e f) (expr.outs-Include o e f)
      (include_fine o (expr_part b.numbered e).code (expr_part b.numbered f).code x y)

  pub in_fine : (e f : TypedExpr) → FineExpr e → FineExpr f → FineExpr (expr.In e f)
  in_fine e f x y = from_expr (expr.In e f) (layer.In e f) (expr.outs-In e f)
      (fits_then x (fits_then (plain_fine (λ ls. checked_leads b h ls (pos 0) (pos 31) 1)) (fits_number h (λ t.
      fits_then (fits_plain (λ p ls. set t I64 [] p.1 (done []))) (fits_then (fits_given (λ p. tt) y)
      (fits_plain (λ p ls. get t I64 N p.1 (calc (numeric.I64Operation ShrU) []
      (long 1 N (calc (numeric.I64Operation And) [] (done N)))))))))))

  absolute_leads : (ls : List Stack) (t : ℕ) → IsNumber b t → Leads (labelled b ls) (absolute_code t) N N
  absolute_leads ls t p =
      set t I64 [] p (get t I64 [] p (long 0 N (calc (numeric.I64Relation LtS) []
      (one_of (Some I64) [] (I64Const 0 ∷ LocalGet t ∷ operation Sub ∷ []) (Some (LocalGet t ∷ []))
      (long 0 [] (get t I64 N p (calc (numeric.I64Operation Sub) [] (done N)))) (get t I64 [] p (done N))
      (checked_leads b h ls (pos 0) (pos 2147483647) 2)))))

  abs_case : (q : Bool) (x : Coded) → Fine x [] N
      → Fine (if q then x ⨾ with_number (λ n. plain (absolute_code n)) else x) [] N
  abs_case true x p = fits_then p (fits_number h (λ t. fits_plain (λ q ls. absolute_leads ls t q.1)))
  abs_case false x p = p

  pub abs_fine : (t : TypeNo) (e : TypedExpr) → FineExpr e → FineExpr (expr.Abs t e)
  abs_fine t e x = from_expr (expr.Abs t e) (layer.Abs t e) (expr.outs-Abs t e)
      (abs_case (are_same t integer) (expr_part b.numbered e).code x)

  capital_leads : (ls : List Stack) (t : ℕ) → IsNumber b t → Leads (labelled b ls) (capital_code t) N N
  capital_leads ls t p =
      set t I64 [] p (get t I64 [] p (long 97 N
      (calc (numeric.I64Operation Sub) [] (long 25 N (calc (numeric.I64Relation LeU) []
      (one_of (Some I64) [] (LocalGet t ∷ I64Const 32 ∷ operation Sub ∷ []) (Some (LocalGet t ∷ []))
      (get t I64 [] p (long 32 N (calc (numeric.I64Operation Sub) [] (done N)))) (get t I64 [] p (done N))
      (done N)))))))

  pub cap_fine : (e : TypedExpr) → FineExpr e → FineExpr (expr.Cap e)
  cap_fine e x = from_expr (expr.Cap e) (layer.Cap e) (expr.outs-Cap e)
      (fits_then x (fits_number h (λ t. fits_plain (λ q ls. capital_leads ls t q.1))))

  pub chr_fine : (e : TypedExpr) → FineExpr e → FineExpr (expr.Chr e)
  chr_fine e x = from_expr (expr.Chr e) (layer.Chr e) (expr.outs-Chr e)
      (fits_then x (plain_fine (λ ls. checked_leads b h ls (pos 0) (pos 255) 1)))

  pub odd_fine : (e : TypedExpr) → FineExpr e → FineExpr (expr.Odd e)
  odd_fine e x = from_expr (expr.Odd e) (layer.Odd e) (expr.outs-Odd e)
      (fits_then x (plain_fine (λ ls. long 1 N (calc (numeric.I64Operation And) [] (done N)))))

  pub ord_fine : (e : TypedExpr) → FineExpr e → FineExpr (expr.Ord e)
  ord_fine e x = from_expr (expr.Ord e) (layer.Ord e) (expr.outs-Ord e)
      (behind_fine (λ types. ord_check types (expr_part b.numbered e).of) x
      (λ ls. ord_leads b h ls b.home.types (expr_part b.numbered e).of))

  pub val_fine : (t : TypeNo) (e : TypedExpr) → FineExpr e → FineExpr (expr.Val t e)
  val_fine t e x = from_expr (expr.Val t e) (layer.Val t e) (expr.outs-Val t e)
      (behind_fine (λ types. in_type types t 1) x (λ ls. type_leads b h ls b.home.types t 1))

  pub high_fine : (x : Slot) → FineExpr (expr.High x)
  high_fine x = from_expr (expr.High x) (layer.High x) (expr.outs-High x)
      (fits_code {f = λ s. high_code s x} (λ p e ws ls suits. high_leads b h ls (at b e ws) x))

  pub called_fine : (t : TypeNo) (c : Call) → FineCall c true → FineExpr (expr.Call t c)
  called_fine t c x = from_expr (expr.Call t c) (layer.Call t c) (expr.outs-Call t c) x

  -- ---- operators of chains

  from_link : (e : Link) (x : Link-F Argument Call Component Link TypedExpr Place) → out-Link e ≡ x
      → Fine (link_layer (link_opened b.numbered x)).code N N → FineLink e
  from_link e x q k = fits_as (ap (λ (p : Linked). p.code) (link_at b.numbered e x q)) refl k

  pub arithmetic_fine : (o : Arithmetic) (t : TypeNo) (e : TypedExpr) → FineExpr e → FineLink (link.Arithmetic o t e)
  arithmetic_fine o t e x = from_link (link.Arithmetic o t e) (layer.Arithmetic o t e) (link.outs-Arithmetic o t e)
      (behind_fine (λ types. arithmetic_code types o t) (fits_above N x)
      (λ ls. arithmetic_leads b h ls b.home.types o t))

  pub and_fine : (e : TypedExpr) → FineExpr e → FineLink (link.And e)
  and_fine e x = from_link (link.And e) (layer.And e) (link.outs-And e)
      (fits_then (plain_fine (λ ls. calc numeric.I32WrapI64 [] (done S)))
      (fits_valued N (λ ls code k. one_of (Some I64) [] code (Some (I64Const 0 ∷ [])) k (long 0 [] (done N)) (done N))
      x))

  pub or_fine : (e : TypedExpr) → FineExpr e → FineLink (link.Or e)
  or_fine e x = from_link (link.Or e) (layer.Or e) (link.outs-Or e)
      (fits_then (plain_fine (λ ls. calc numeric.I32WrapI64 [] (done S)))
      (fits_valued N (λ ls code k. one_of (Some I64) [] (I64Const 1 ∷ []) (Some code) (long 1 [] (done N)) k (done N))
      x))

  pub combine_fine : (o : SetOperator) (e : TypedExpr) → FineExpr e → FineLink (link.Combine o e)
  combine_fine o e x = from_link (link.Combine o e) (layer.Combine o e) (link.outs-Combine o e)
      (fits_then (fits_above N x) (plain_fine (λ ls. set_leads b h ls o)))

  -- ---- designators

  pub root_fine : (r : Root) → IsRoot b.home w r → Fine (root_layer r) [] S
  root_fine (root.Global v) known = fits_code {f = λ s. global_code s.home v}
      (λ p e ws ls suits. global_leads b h ls v known)
  root_fine (root.Local x) known = fits_code {f = λ s. slot_code s x []}
      (λ p e ws ls suits. slot_leads b h ls (at b e ws) x [])
  root_fine (root.Alias x) known = fits_code {f = λ s. kept_address s x []}
      (λ p e ws ls suits. kept_leads b h ls (at b e ws) x [])
  root_fine (root.Open x) known = fits_code {f = λ s. open_address s x}
      (λ p e ws ls suits. open_leads b h ls (at b e ws) x)
  root_fine (root.With k) lt = fits_code {f = λ s. with_code (slice_get s.withs k)}
      (λ p e ws ls suits. opened_leads ls ws (suits.opened k lt))
    where
      opened_leads : (ls : List Stack) (ws : List ℕ)
          → ((n : ℕ) × (slice_get ws k ≡ Some n) × (slice_get b.base.locals n ≡ Some I32))
          → Leads (labelled b ls) (with_code (slice_get ws k)) [] S
      opened_leads ls ws o = subst (λ (x : Option ℕ). Leads (labelled b ls) (with_code x) [] S) (sym o.1)
          (get o.0 I32 [] o.2 (done S))

  from_component : (e : Component) (x : Component-F Argument Call Component Link TypedExpr Place) → out-Component e ≡ x
      → Fine (component_layer (component_opened b.numbered x)) S S → FineComponent e
  from_component e x q k = fits_as (component_at b.numbered e x q) refl k

  pub field_fine : (t : TypeNo) (k : ℕ) → FineComponent (component.Field t k)
  field_fine t k = from_component (component.Field t k) (layer.Field t k) (component.outs-Field t k)
      (fits_code {f = λ s. raise_address (offset (tree s.home.types t) (k ∷ []))}
      (λ p e ws ls suits. raised_leads b h ls (offset (tree b.home.types t) (k ∷ []))))

  pub element_fine : (t : TypeNo) (i : TypedExpr) → FineExpr i → FineComponent (component.Element t i)
  element_fine t i x = from_component (component.Element t i) (layer.Element t i) (component.outs-Element t i)
      (behind_fine (λ types. element_code types t) (fits_above S x) (λ ls. element_leads b h ls b.home.types t))

  pub open_element_fine : (x : Slot) (t : TypeNo) (i : TypedExpr) → FineExpr i
      → FineComponent (component.OpenElement x t i)
  open_element_fine x t i y = from_component (component.OpenElement x t i) (layer.OpenElement x t i)
      (component.outs-OpenElement x t i)
      (fits_then (fits_above S y) (fits_code {f = λ s. open_element_code s x t}
      (λ p e ws ls suits. open_element_leads b h ls (at b e ws) x t)))

  pub place_fine : (d : Place) → IsRoot b.home w d.root
      → Fine (all_coded (map (component_code b.numbered) d.components)) S S → FinePlace d
  place_fine d r x = fits_as (place_at b.numbered d (out-Place d) refl) refl (fits_then (root_fine d.root r) x)

  -- ---- arguments

  from_argument : (e : Argument) (x : Argument-F Argument Call Component Link TypedExpr Place) (s : Stack)
      → out-Argument e ≡ x → Fine (argument_layer (argument_opened b.numbered x)) [] s
      → Fine (argument_code b.numbered e) [] s
  from_argument e x s q k = fits_as (argument_at b.numbered e x q) refl k

  pub value_fine : (t : TypeNo) (e : TypedExpr) → FineExpr e → FineArgument (argument.Value t e) false
  value_fine t e x = from_argument (argument.Value t e) (layer.Value t e) N (argument.outs-Value t e)
      (behind_fine (λ types. check_taken types t (expr_part b.numbered e).constant (expr_part b.numbered e).of) x
      (λ ls. taken_leads b h ls b.home.types t (expr_part b.numbered e).constant (expr_part b.numbered e).of))

  pub actual_fine : (d : Place) → FinePlace d → FineArgument (argument.Place d) false
  actual_fine d x = from_argument (argument.Place d) (layer.Place d) N (argument.outs-Place d)
      (fits_then x (plain_fine (λ ls. calc numeric.I64ExtendI32U [] (done N))))

  pub array_fine : (t : TypeNo) (d : Place) → FinePlace d → FineArgument (argument.Array t d) true
  array_fine t d x = from_argument (argument.Array t d) (layer.Array t d) NN (argument.outs-Array t d)
      (behind_fine (λ types. extend_word ∷ I64Const (high_index types t) ∷ []) x
      (λ ls. calc numeric.I64ExtendI32U [] (long _ N (done NN))))

  pub open_fine : (x : Slot) → FineArgument (argument.Open x) true
  open_fine x = from_argument (argument.Open x) (layer.Open x) NN (argument.outs-Open x)
      (fits_code {f = λ s. open_address s x ++ (extend_word ∷ high_code s x)}
      (λ p e ws ls suits. then_leads (open_leads b h ls (at b e ws) x)
      (calc numeric.I64ExtendI32U [] (above N (high_leads b h ls (at b e ws) x)))))

  pub text_fine : (text : List ℕ) → FineArgument (argument.Text text) true
  text_fine text = from_argument (argument.Text text) (layer.Text text) NN (argument.outs-Text text)
      (fits_text (length (argument_text text))
      (λ n. plain_fine (λ ls. then_leads (text_leads b h ls n)
      (calc numeric.I64ExtendI32U [] (long _ N (done NN))))))

  -- ---- calls

  from_call : (e : Call) (x : Call-F Argument Call Component Link TypedExpr Place) (r : Bool) → out-Call e ≡ x
      → Fine (call_layer b.numbered (call_opened b.numbered x)) [] (results_of r) → FineCall e r
  from_call e x r q k = fits_as (call_at b.numbered e x q) refl k

  pub top_fine : Fine top_code [] S
  top_fine = fits_code {f = λ s. LocalGet (top_local s) ∷ []} (λ p e ws ls suits. get b.arguments I32 [] h.top (done S))

  -- the type of what is called: its frame, so many numbers, and a result or none
  abbrev pub called_type : ℕ → Bool → FuncType
  called_type n r = type_of (signature n r)

  -- a procedure with this heading
  abbrev pub heading_type : TypeNo → FuncType
  heading_type t = called_type (all_arguments (formals_of b.home.types t)) (has_result b.home.types t)

  indirect_leads : (ls : List Stack) (t : TypeNo) → is_among b.known (of_heading b.home.types t) ≡ true
      → Leads (labelled b ls) (indirect b.numbered b.home.types t ∷ [])
      ((I32 ∷ so_many (all_arguments (formals_of b.home.types t))) ++ I32 ∷ []) (results_of (has_result b.home.types t))
  indirect_leads ls t known = invoke_slot _ (heading_type t) [] h.table (h.typed (of_heading b.home.types t) known)
      (done (results_of (has_result b.home.types t)))

  own_leads : (ls : List Stack) (f : Procedure) → IsRoutine b.home.procedures f.number f.heading
      → Leads (labelled b ls) (Calls (8 + f.number) ∷ [])
      (I32 ∷ so_many (all_arguments (formals_of b.home.types f.heading)))
      (results_of (has_result b.home.types f.heading))
  own_leads ls f r = invoke (8 + f.number) (heading_type f.heading) []
      (subst (λ (t : TypeNo). Callable b.base (8 + f.number) (heading_type t)) r.2 (h.procedure f.number r.0 r.1))
      (done (results_of (has_result b.home.types f.heading)))

  module_leads : (ls : List Stack) (f : Procedure) → IsProcedure b.home f → (q : Bool) → is_own b.home f.home ≡ q
      → AreKnown b.known (if q then [] else of_heading b.home.types f.heading ∷ [])
      → Leads (labelled b ls) (if q then Calls (8 + f.number) ∷ [] else GlobalGet (slots_global b.home f.home)
      ∷ (raise_address (slot_number f) ++ indirect b.numbered b.home.types f.heading ∷ []))
      (I32 ∷ so_many (all_arguments (formals_of b.home.types f.heading)))
      (results_of (has_result b.home.types f.heading))
  module_leads ls f p true e k = own_leads ls f (p.own e)
  module_leads ls f p false e k =
      let s : Stack = I32 ∷ so_many (all_arguments (formals_of b.home.types f.heading)) in
      same_stacks (append-nil s) refl (glob (slots_global b.home f.home) s (slots_there b h ls f.home p.known)
      (then_leads (above s (raised_leads b h ls (slot_number f))) (indirect_leads ls f.heading k.0)))

  -- the arguments of a call, behind what it takes before them
  abbrev pub FineArguments : List Argument → TypeNo → Type 0
  FineArguments xs t = Fine (all_coded (map (argument_code b.numbered) xs)) []
      (so_many (all_arguments (formals_of b.home.types t)))

  pub module_fine : (f : Procedure) (xs : List Argument) → IsProcedure b.home f
      → AreKnown b.known (if is_own b.home f.home then [] else of_heading b.home.types f.heading ∷ [])
      → FineArguments xs f.heading → FineCall (call.Module f xs) (has_result b.home.types f.heading)
  module_fine f xs p k x = from_call (call.Module f xs) (layer.Module f xs) (has_result b.home.types f.heading)
      (call.outs-Module f xs)
      (fits_then top_fine (fits_then (fits_above S x)
      (fits_code {f = λ s. module_call b.numbered s.home f}
      (λ q e ws ls suits. module_leads ls f p (is_own b.home f.home) refl k))))

  nested_leads : (ls : List Stack) (f : LocalProcedure) → IsRoutine b.home.locals f.number f.heading
      → Leads (labelled b ls) (nested_call b.numbered b.home f)
      (I32 ∷ I64 ∷ so_many (all_arguments (formals_of b.home.types f.heading)))
      (results_of (has_result b.home.types f.heading))
  nested_leads ls f r =
      let k : ℕ = 8 + (length b.home.procedures + f.number) in
      invoke k (called_type (suc (all_arguments (formals_of b.home.types f.heading)))
      (has_result b.home.types f.heading)) []
      (subst (λ (t : TypeNo). Callable b.base k
      (called_type (suc (all_arguments (formals_of b.home.types t))) (has_result b.home.types t))) r.2
      (h.nested f.number r.0 r.1)) (done (results_of (has_result b.home.types f.heading)))

  pub nested_fine : (f : LocalProcedure) (xs : List Argument) → IsRoutine b.home.locals f.number f.heading
      → FineArguments xs f.heading → FineCall (call.Nested f xs) (has_result b.home.types f.heading)
  nested_fine f xs r x = from_call (call.Nested f xs) (layer.Nested f xs) (has_result b.home.types f.heading)
      (call.outs-Nested f xs)
      (fits_then top_fine (fits_then (plain_fine
      (λ ls. above S (then_leads (frame_leads b h ls f.up) (calc numeric.I64ExtendI32U [] (done N)))))
      (fits_then (fits_above SN x)
      (fits_code {f = λ s. nested_call b.numbered s.home f} (λ q e ws ls suits. nested_leads ls f r)))))

  pub value_call_fine : (n : ℕ) (t : TypeNo) → is_among b.known (of_heading b.home.types t) ≡ true
      → Fits b (Unit {0} × IsNumber b n) w l (λ e. e) 0 (value_call b.numbered n t) 0
      (I32 ∷ so_many (all_arguments (formals_of b.home.types t))) (results_of (has_result b.home.types t))
  value_call_fine n t k =
      let s : Stack = I32 ∷ so_many (all_arguments (formals_of b.home.types t)) in
      fits_code {f = λ s. LocalGet n ∷ wrap_word ∷ indirect b.numbered s.home.types t ∷ []}
      (λ q e ws ls suits. same_stacks (append-nil s) refl
      (get n I64 s q.1 (calc numeric.I32WrapI64 s (indirect_leads ls t k))))

  pub variable_fine : (t : TypeNo) (d : Place) (xs : List Argument) → IsScalar b.home.types t
      → is_among b.known (of_heading b.home.types t) ≡ true → FinePlace d → FineArguments xs t
      → FineCall (call.Variable t d xs) (has_result b.home.types t)
  variable_fine t d xs s k x y = from_call (call.Variable t d xs) (layer.Variable t d xs) (has_result b.home.types t)
      (call.outs-Variable t d xs)
      (fits_then (behind_fine (λ types. load_code types t) x (λ ls. loaded_leads b h ls b.home.types t s))
      (fits_then (plain_fine (λ ls. checked_leads b h ls (pos 1) (pos 4294967295) 7)) (fits_number h (λ n.
      fits_then (fits_plain (λ p ls. set n I64 [] p.1 (done [])))
      (fits_then (fits_given (λ p. tt) top_fine)
      (fits_then (fits_given (λ p. tt) (fits_above S y)) (value_call_fine n t k)))))))
