-- What is appended for each variant of an expression, from what is appended for its parts.
use Rattle.std.proofs.Common.{◌≡◌, ℕ, ℤ, pos, Bool, true, false, List, [], ◌∷◌, ◌++◌, map, length, ◌-◌, Some, refl, sym, ap, ◌∙◌}
use Rattle.std.specs.Prelude.{if◌then◌else◌}
use Rattle.std.specs.List.{fold}
use Rattle.wasm_tree.specs.declared.kinds.ValueType.TheVariants.{I64}
use Rattle.wasm_tree.specs.declared.instr.Instr.{Instr}
use Rattle.wasm_tree.specs.declared.instr.Instr.TheVariants.{LocalGet, LocalSet, I64Const}
use Rattle.typed_tree.specs.declared.types.TypeNo.{TypeNo}
use Rattle.typed_tree.specs.declared.meaning.Procedure.{Procedure}
use Rattle.typed_tree.specs.declared.computed.Slot.{Slot}
use Rattle.typed_tree.specs.declared.computed.Root.{Root}
use Rattle.typed_tree.specs.declared.computed.Root.TheVariants as root
use Rattle.typed_tree.specs.declared.computed.LocalProcedure.{LocalProcedure}
use Rattle.typed_tree.specs.declared.computed.Arithmetic.{Arithmetic}
use Rattle.typed_tree.specs.declared.computed.Comparison.{Comparison}
use Rattle.typed_tree.specs.declared.computed.SetOperator.{SetOperator}
use Rattle.typed_tree.specs.declared.computed.Inclusion.{Inclusion}
use Rattle.typed_tree.specs.declared.computed.Inclusion.TheVariants as inclusion
use Rattle.typed_tree.specs.declared.computed.TypedExpr.{TypedExpr, TypedExpr-F, out-TypedExpr, roll-TypedExpr, roll-out-TypedExpr, map-TypedExpr, fold_out-TypedExpr}
use Rattle.typed_tree.specs.declared.computed.TypedExpr.TheVariants as ev
use Rattle.typed_tree.specs.declared.computed.Component.{Component, Component-F, out-Component, map-Component, fold_out-Component}
use Rattle.typed_tree.specs.declared.computed.Component.TheVariants as kv
use Rattle.typed_tree.specs.declared.computed.Link.{Link, Link-F, out-Link, map-Link, fold_out-Link}
use Rattle.typed_tree.specs.declared.computed.Link.TheVariants as lv
use Rattle.typed_tree.specs.declared.computed.Place.{Place, fold_out-Place}
use Rattle.typed_tree.specs.declared.computed.Call.{Call, Call-F, out-Call, map-Call, fold_out-Call}
use Rattle.typed_tree.specs.declared.computed.Call.TheVariants as cv
use Rattle.typed_tree.specs.declared.computed.Argument.{Argument, Argument-F, out-Argument, map-Argument, fold_out-Argument}
use Rattle.typed_tree.specs.declared.computed.Argument.TheOpen as layer
use Rattle.typed_tree.specs.declared.computed.Argument.TheVariants as xv
use Rattle.typed_tree.specs.Types.{are_same, integer, cardinal, boolean, char, bitset}
use Rattle.layout_storage.specs.Texts.{argument_text}
use Rattle.def_scheme.specs.Coded.{Coded, Setting, plain, ◌⨾◌, all_coded, with_number, with_setting, within, number_local, top_local, number, wrap_word, extend_word, relation, check_code}
use Rattle.def_scheme.specs.Cells.{load_code, in_type, check_taken}
use Rattle.def_scheme.specs.Exprs.{Part, Linked, Numbered, argument_layer, call_layer, component_layer, link_layer, expr_layer, place_layer, root_layer, chain_type, chain_code, chosen_number, loaded_from, relation_of, arithmetic_code, set_code, complement, empty_code, ord_check, absolute_code, capital_code, procedure_code, high_code, element_code, open_element_code, module_call, indirect, value_call, top_code, behind, in_code, and_code, or_code, expr_part, place_code, call_code, text_code}
use Rattle.def_scheme.specs.Modules.{numbering_of}
use Rattle.emit_buffer.specs.Drafts.{Drafted, one, put, emitted, open_draft, place_of, closed_if_else, next_number, next_text}
use Rattle.emit_buffer.specs.Slots.{field_code, root_code}
use Rattle.emit_expr.specs.Operators.{around_behind, within_behind, negated_behind, odd_code, char_check, ending_and, begun_or, kept_element, element_bit, with_absolute, with_capital}
use Rattle.emit_expr.specs.Called.{nested_called, link_passed, kept_procedure, called_value, array_behind, open_code, with_passed}
use Rattle.emit_expr.specs.Values.{argument_code, component_code, link_part, inside_one, with_value, with_place, with_call, with_taken, with_argument, with_component, with_link, value_type, value_constant, linked_type}
use Rattle.emit_buffer.proofs.Emitted.{emitted_plain, emitted_seq, emitted_nothing, emitted_number, emitted_text, then_plain, plain_then, setting_plain, then_setting, emitted_behind, emitted_two}
use Rattle.emit_buffer.proofs.Closed.{both_sides, boxed_sides}

-- ---- one layer

abbrev opened_expr : Numbered → TypedExpr-F Argument Call Component Link TypedExpr Place
    → TypedExpr-F Coded Coded Coded Linked Part Coded
opened_expr n x = map-TypedExpr Argument Call Component Link TypedExpr Place Coded Coded Coded Linked Part Coded
    (argument_code n) (call_code n) (component_code n) (link_part n) (expr_part n) (place_code n) x

at_expr : (n : Numbered) (e : TypedExpr) (x : TypedExpr-F Argument Call Component Link TypedExpr Place)
    → out-TypedExpr e ≡ x → expr_part n e ≡ expr_layer (opened_expr n x)
unfolding expr_part place_code call_code argument_code component_code link_part
at_expr n e x h = fold_out-TypedExpr Coded Coded Coded Linked Part Coded argument_layer (call_layer n) component_layer
    link_layer expr_layer place_layer e ∙ ap
    (λ (y : TypedExpr-F Argument Call Component Link TypedExpr Place). expr_layer (opened_expr n y)) h

abbrev opened_component : Numbered → Component-F Argument Call Component Link TypedExpr Place
    → Component-F Coded Coded Coded Linked Part Coded
opened_component n x = map-Component Argument Call Component Link TypedExpr Place Coded Coded Coded Linked Part Coded
    (argument_code n) (call_code n) (component_code n) (link_part n) (expr_part n) (place_code n) x

at_component : (n : Numbered) (e : Component) (x : Component-F Argument Call Component Link TypedExpr Place)
    → out-Component e ≡ x → component_code n e ≡ component_layer (opened_component n x)
unfolding expr_part place_code call_code argument_code component_code link_part
at_component n e x h = fold_out-Component Coded Coded Coded Linked Part Coded argument_layer (call_layer n)
    component_layer link_layer expr_layer place_layer e
    ∙ ap (λ (y : Component-F Argument Call Component Link TypedExpr Place). component_layer (opened_component n y)) h

abbrev opened_link : Numbered → Link-F Argument Call Component Link TypedExpr Place
    → Link-F Coded Coded Coded Linked Part Coded
opened_link n x = map-Link Argument Call Component Link TypedExpr Place Coded Coded Coded Linked Part Coded
    (argument_code n) (call_code n) (component_code n) (link_part n) (expr_part n) (place_code n) x

at_link : (n : Numbered) (e : Link) (x : Link-F Argument Call Component Link TypedExpr Place) → out-Link e ≡ x
    → link_part n e ≡ link_layer (opened_link n x)
unfolding expr_part place_code call_code argument_code component_code link_part
at_link n e x h = fold_out-Link Coded Coded Coded Linked Part Coded argument_layer (call_layer n) component_layer
    link_layer expr_layer place_layer e ∙ ap
    (λ (y : Link-F Argument Call Component Link TypedExpr Place). link_layer (opened_link n y)) h

abbrev opened_call : Numbered → Call-F Argument Call Component Link TypedExpr Place
    → Call-F Coded Coded Coded Linked Part Coded
opened_call n x = map-Call Argument Call Component Link TypedExpr Place Coded Coded Coded Linked Part Coded
    (argument_code n) (call_code n) (component_code n) (link_part n) (expr_part n) (place_code n) x

at_call : (n : Numbered) (e : Call) (x : Call-F Argument Call Component Link TypedExpr Place) → out-Call e ≡ x
    → call_code n e ≡ call_layer n (opened_call n x)
unfolding expr_part place_code call_code argument_code component_code link_part
at_call n e x h = fold_out-Call Coded Coded Coded Linked Part Coded argument_layer (call_layer n) component_layer
    link_layer expr_layer place_layer e ∙ ap
    (λ (y : Call-F Argument Call Component Link TypedExpr Place). call_layer n (opened_call n y)) h

abbrev opened_argument : Numbered → Argument-F Argument Call Component Link TypedExpr Place
    → Argument-F Coded Coded Coded Linked Part Coded
opened_argument n x = map-Argument Argument Call Component Link TypedExpr Place Coded Coded Coded Linked Part Coded
    (argument_code n) (call_code n) (component_code n) (link_part n) (expr_part n) (place_code n) x

at_argument : (n : Numbered) (e : Argument) (x : Argument-F Argument Call Component Link TypedExpr Place)
    → out-Argument e ≡ x → argument_code n e ≡ argument_layer (opened_argument n x)
unfolding expr_part place_code call_code argument_code component_code link_part
at_argument n e x h = fold_out-Argument Coded Coded Coded Linked Part Coded argument_layer (call_layer n)
    component_layer link_layer expr_layer place_layer e
    ∙ ap (λ (y : Argument-F Argument Call Component Link TypedExpr Place). argument_layer (opened_argument n y)) h

-- ---- lists

all_walked : {A : Type 0} (f : A → Coded) (xs : List A) (s : Setting) (d : Drafted)
    → emitted (all_coded (map f xs)) s d ≡ fold (λ d x. emitted (f x) s d) d xs
all_walked f [] s d = emitted_nothing s d
all_walked f (x ∷ xs) s d = emitted_seq (f x) (all_coded (map f xs)) s d ∙ all_walked f xs s (emitted (f x) s d)

arguments : (xs : List Argument) (s : Setting) (d : Drafted)
    → emitted (all_coded (map (argument_code (numbering_of s.home)) xs)) s d ≡ fold (with_argument s) d xs
unfolding with_argument
arguments xs s d = all_walked (argument_code (numbering_of s.home)) xs s d

components : (xs : List Component) (s : Setting) (d : Drafted)
    → emitted (all_coded (map (component_code (numbering_of s.home)) xs)) s d ≡ fold (with_component s) d xs
unfolding with_component
components xs s d = all_walked (component_code (numbering_of s.home)) xs s d

links : (xs : List Link) (s : Setting) (d : Drafted)
    → emitted (chain_code (map (link_part (numbering_of s.home)) xs)) s d ≡ fold (with_link s) d xs
unfolding with_link
links [] s d = emitted_nothing s d
links (x ∷ xs) s d = emitted_seq (link_part (numbering_of s.home) x).code
    (chain_code (map (link_part (numbering_of s.home)) xs)) s d
    ∙ links xs s (emitted (link_part (numbering_of s.home) x).code s d)

-- ---- parts of these

in_is : (x y : Coded) (s : Setting) (d : Drafted)
    → emitted (in_code x y) s d ≡ put (element_bit
    (number_local s (put (check_code (pos 0) (pos 31) 1) (emitted x s d)).counts.numbers))
    (emitted y s (kept_element s (emitted x s d)))
in_is x y s d =
    let one_check : List Instr = check_code (pos 0) (pos 31) 1 in
    let e : Drafted = emitted x s d in
    let kept : ℕ → Coded = λ t. plain (LocalSet t ∷ []) ⨾ (y ⨾ plain (element_bit t)) in
    let t : ℕ = number_local s (put one_check e).counts.numbers in
    emitted_seq x (plain one_check ⨾ with_number kept) s d
    ∙ plain_then one_check (with_number kept) s e
    ∙ emitted_number kept s (put one_check e)
    ∙ plain_then (LocalSet t ∷ []) (y ⨾ plain (element_bit t)) s (next_number (put one_check e))
    ∙ then_plain y (element_bit t) s (kept_element s e)

absolute_is : (s : Setting) (d : Drafted)
    → emitted (with_number (λ n. plain (absolute_code n))) s d
    ≡ put (absolute_code (number_local s d.counts.numbers)) (next_number d)
absolute_is s d = emitted_number (λ n. plain (absolute_code n)) s d
    ∙ emitted_plain (absolute_code (number_local s d.counts.numbers)) s (next_number d)

abs_case : (b : Bool) (x : Coded) (s : Setting) (d : Drafted)
    → emitted (if b then x ⨾ with_number (λ n. plain (absolute_code n)) else x) s d
    ≡ (if b then put (absolute_code (number_local s (emitted x s d).counts.numbers)) (next_number (emitted x s d)) else
    emitted x s d)
abs_case true x s d = emitted_seq x (with_number (λ n. plain (absolute_code n))) s d ∙ absolute_is s (emitted x s d)
abs_case false x s d = refl

capital_is : (s : Setting) (d : Drafted) → emitted (with_number (λ t. plain (capital_code t))) s d ≡ with_capital s d
capital_is s d = emitted_number (λ t. plain (capital_code t)) s d
    ∙ emitted_plain (capital_code (number_local s d.counts.numbers)) s (next_number d)

first_side : (x : Coded) (s : Setting) (d : Drafted)
    → emitted (within 1 (λ code. chosen_number code (I64Const 0 ∷ []) ∷ []) x) s d
    ≡ emitted (both_sides (Some I64) x (plain (I64Const 0 ∷ [])) (inside_one s)) s d
unfolding emitted
first_side x s d = refl

second_side : (x : Coded) (s : Setting) (d : Drafted)
    → emitted (within 1 (λ code. chosen_number (I64Const 1 ∷ []) code ∷ []) x) s d
    ≡ emitted (both_sides (Some I64) (plain (I64Const 1 ∷ [])) x (inside_one s)) s d
unfolding emitted
second_side x s d = refl

and_is : (x : Coded) (s : Setting) (d : Drafted)
    → emitted (and_code x) s d ≡ ending_and (place_of (one wrap_word d))
    (emitted x (inside_one s) (open_draft (one wrap_word d)))
and_is x s d =
    let e : Drafted = one wrap_word d in
    plain_then (wrap_word ∷ []) (within 1 (λ code. chosen_number code (I64Const 0 ∷ []) ∷ []) x) s d
    ∙ first_side x s e
    ∙ boxed_sides (Some I64) x (plain (I64Const 0 ∷ [])) (inside_one s) s e
    ∙ ap (λ (f : Drafted). closed_if_else (place_of e) (place_of (emitted x (inside_one s) (open_draft e))) (Some I64)
    f) (emitted_plain (I64Const 0 ∷ []) (inside_one s) (emitted x (inside_one s) (open_draft e)))

or_is : (x : Coded) (s : Setting) (d : Drafted)
    → emitted (or_code x) s d ≡ closed_if_else (place_of (one wrap_word d)) (place_of (begun_or (one wrap_word d)))
    (Some I64) (emitted x (inside_one s) (begun_or (one wrap_word d)))
or_is x s d =
    let e : Drafted = one wrap_word d in
    plain_then (wrap_word ∷ []) (within 1 (λ code. chosen_number (I64Const 1 ∷ []) code ∷ []) x) s d
    ∙ second_side x s e
    ∙ boxed_sides (Some I64) (plain (I64Const 1 ∷ [])) x (inside_one s) s e
    ∙ ap (λ (f : Drafted). closed_if_else (place_of e) (place_of f) (Some I64) (emitted x (inside_one s) f))
    (emitted_plain (I64Const 1 ∷ []) (inside_one s) (open_draft e))

root_is : (r : Root) (s : Setting) (d : Drafted) → emitted (root_layer r) s d ≡ put (root_code s r) d
root_is (root.Global v) s d = setting_plain (λ s. root_code s (root.Global v)) s d
root_is (root.Local x) s d = setting_plain (λ s. root_code s (root.Local x)) s d
root_is (root.Alias x) s d = setting_plain (λ s. root_code s (root.Alias x)) s d
root_is (root.Open x) s d = setting_plain (λ s. root_code s (root.Open x)) s d
root_is (root.With k) s d = setting_plain (λ s. root_code s (root.With k)) s d

top_is : (s : Setting) (d : Drafted) → emitted top_code s d ≡ one (LocalGet (top_local s)) d
top_is s d = setting_plain (λ s. LocalGet (top_local s) ∷ []) s d

-- the arguments stand behind the top, and the call behind them
passing : (xs : List Argument) (f : Setting → List Instr) (s : Setting) (d : Drafted)
    → emitted (all_coded (map (argument_code (numbering_of s.home)) xs) ⨾ with_setting (λ s. plain (f s))) s d
    ≡ put (f s) (fold (with_argument s) d xs)
passing xs f s d = then_setting (all_coded (map (argument_code (numbering_of s.home)) xs)) f s d
    ∙ ap (λ (e : Drafted). put (f s) e) (arguments xs s d)

calling : (xs : List Argument) (f : Setting → List Instr) (s : Setting) (d : Drafted)
    → emitted (top_code ⨾ (all_coded (map (argument_code (numbering_of s.home)) xs) ⨾ with_setting (λ s. plain (f s))))
    s d ≡ put (f s) (fold (with_argument s) (one (LocalGet (top_local s)) d) xs)
calling xs f s d =
    let rest : Coded = all_coded (map (argument_code (numbering_of s.home)) xs) ⨾ with_setting (λ s. plain (f s)) in
    emitted_seq top_code rest s d ∙ ap (λ (e : Drafted). emitted rest s e) (top_is s d)
    ∙ passing xs f s (one (LocalGet (top_local s)) d)

nested_is : (up : ℕ) (xs : List Argument) (f : Setting → List Instr) (s : Setting) (d : Drafted)
    → emitted (top_code ⨾ (plain (link_passed up) ⨾
    (all_coded (map (argument_code (numbering_of s.home)) xs) ⨾ with_setting (λ s. plain (f s))))) s d
    ≡ put (f s) (fold (with_argument s) (put (link_passed up) (one (LocalGet (top_local s)) d)) xs)
nested_is up xs f s d =
    let rest : Coded = all_coded (map (argument_code (numbering_of s.home)) xs) ⨾ with_setting (λ s. plain (f s)) in
    emitted_seq top_code (plain (link_passed up) ⨾ rest) s d
    ∙ ap (λ (e : Drafted). emitted (plain (link_passed up) ⨾ rest) s e) (top_is s d)
    ∙ plain_then (link_passed up) rest s (one (LocalGet (top_local s)) d)
    ∙ passing xs f s (put (link_passed up) (one (LocalGet (top_local s)) d))

value_is : (num : Numbered) (n : ℕ) (t : TypeNo) (s : Setting) (d : Drafted)
    → emitted (value_call num n t) s d ≡ put (LocalGet n ∷ wrap_word ∷ indirect num s.home.types t ∷ []) d
value_is num n t s d = setting_plain (λ s. LocalGet n ∷ wrap_word ∷ indirect num s.home.types t ∷ []) s d

variable_is : (t : TypeNo) (x : Coded) (xs : List Argument) (s : Setting) (d : Drafted)
    → emitted (call_layer (numbering_of s.home) (layer.Variable t x (map (argument_code (numbering_of s.home)) xs))) s d
    ≡ put (called_value s.home (number_local s
    (put (check_code (pos 1) (pos 4294967295) 7) (put (load_code s.home.types t) (emitted x s d))).counts.numbers)
    t)
    (fold (with_argument s) (one (LocalGet (top_local s))
    (kept_procedure s (put (load_code s.home.types t) (emitted x s d)))) xs)
variable_is t x xs s d =
    let one_check : List Instr = check_code (pos 1) (pos 4294967295) 7 in
    let e : Drafted = put (load_code s.home.types t) (emitted x s d) in
    let n : ℕ = number_local s (put one_check e).counts.numbers in
    let called : ℕ → Coded = λ k. top_code ⨾
    (all_coded (map (argument_code (numbering_of s.home)) xs) ⨾ value_call (numbering_of s.home) k t) in
    let kept : ℕ → Coded = λ k. plain (LocalSet k ∷ []) ⨾ called k in
    emitted_seq (loaded_from x t) (plain one_check ⨾ with_number kept) s d
    ∙ ap (λ (f : Drafted). emitted (plain one_check ⨾ with_number kept) s f)
    (emitted_behind x (λ types. load_code types t) s d)
    ∙ plain_then one_check (with_number kept) s e
    ∙ emitted_number kept s (put one_check e)
    ∙ plain_then (LocalSet n ∷ []) (called n) s (next_number (put one_check e))
    ∙ emitted_seq top_code (all_coded (map (argument_code (numbering_of s.home)) xs) ⨾ value_call (numbering_of s.home)
    n t) s (kept_procedure s e)
    ∙ ap (λ (f : Drafted). emitted (all_coded (map (argument_code (numbering_of s.home)) xs) ⨾ value_call
    (numbering_of s.home) n t) s f) (top_is s (kept_procedure s e))
    ∙ emitted_seq (all_coded (map (argument_code (numbering_of s.home)) xs)) (value_call (numbering_of s.home) n t) s
    (one (LocalGet (top_local s)) (kept_procedure s e))
    ∙ ap (λ (f : Drafted). emitted (value_call (numbering_of s.home) n t) s f)
    (arguments xs s (one (LocalGet (top_local s)) (kept_procedure s e)))
    ∙ value_is (numbering_of s.home) n t s
    (fold (with_argument s) (one (LocalGet (top_local s)) (kept_procedure s e)) xs)

-- ---- expressions

pub expr_Constant : (t : TypeNo) (n : ℤ) (s : Setting) (d : Drafted)
    → with_value s (ev.Constant t n) d ≡ one (number n) d
unfolding with_value with_place with_call with_link
expr_Constant t n s d = ap (λ (p : Part). emitted p.code s d)
    (at_expr (numbering_of s.home) (ev.Constant t n) (layer.Constant t n) (ev.outs-Constant t n))
    ∙ emitted_plain (number n ∷ []) s d

pub expr_Load : (t : TypeNo) (x : Place) (s : Setting) (d : Drafted)
    → with_value s (ev.Load t x) d ≡ put (load_code s.home.types t) (with_place s x d)
unfolding with_value with_place with_call with_link
expr_Load t x s d = ap (λ (p : Part). emitted p.code s d)
    (at_expr (numbering_of s.home) (ev.Load t x) (layer.Load t x) (ev.outs-Load t x))
    ∙ emitted_behind (place_code (numbering_of s.home) x) (λ types. load_code types t) s d

pub expr_Procedure : (f : Procedure) (s : Setting) (d : Drafted)
    → with_value s (ev.Procedure f) d ≡ put (procedure_code s.home f) d
unfolding with_value with_place with_call with_link
expr_Procedure f s d = ap (λ (p : Part). emitted p.code s d)
    (at_expr (numbering_of s.home) (ev.Procedure f) (layer.Procedure f) (ev.outs-Procedure f))
    ∙ setting_plain (λ s. procedure_code s.home f) s d

pub expr_Plus : (t : TypeNo) (e : TypedExpr) (s : Setting) (d : Drafted)
    → with_value s (ev.Plus t e) d ≡ with_value s e d
unfolding with_value with_place with_call with_link
expr_Plus t e s d = ap (λ (p : Part). emitted p.code s d)
    (at_expr (numbering_of s.home) (ev.Plus t e) (layer.Plus t e) (ev.outs-Plus t e))

pub expr_Negate : (e : TypedExpr) (s : Setting) (d : Drafted)
    → with_value s (ev.Negate e) d ≡ put (negated_behind s.home.types) (with_value s e (one (I64Const 0) d))
unfolding with_value with_place with_call with_link
expr_Negate e s d = ap (λ (p : Part). emitted p.code s d)
    (at_expr (numbering_of s.home) (ev.Negate e) (layer.Negate e) (ev.outs-Negate e))
    ∙ plain_then (I64Const 0 ∷ []) (behind (expr_part (numbering_of s.home) e).code negated_behind) s d
    ∙ emitted_behind (expr_part (numbering_of s.home) e).code negated_behind s (one (I64Const 0) d)

pub expr_Chain : (e : TypedExpr) (ls : List Link) (s : Setting) (d : Drafted)
    → with_value s (ev.Chain e ls) d ≡ fold (with_link s) (with_value s e d) ls
unfolding with_value with_place with_call with_link
expr_Chain e ls s d = ap (λ (p : Part). emitted p.code s d)
    (at_expr (numbering_of s.home) (ev.Chain e ls) (layer.Chain e ls) (ev.outs-Chain e ls))
    ∙ emitted_seq (expr_part (numbering_of s.home) e).code (chain_code (map (link_part (numbering_of s.home)) ls)) s d
    ∙ links ls s (emitted (expr_part (numbering_of s.home) e).code s d)

pub expr_Compare : (o : Comparison) (a b : TypedExpr) (s : Setting) (d : Drafted)
    → with_value s (ev.Compare o a b) d ≡ put (relation (relation_of o) ∷ extend_word ∷ [])
    (with_value s b (with_value s a d))
unfolding with_value with_place with_call with_link
expr_Compare o a b s d = ap (λ (p : Part). emitted p.code s d)
    (at_expr (numbering_of s.home) (ev.Compare o a b) (layer.Compare o a b) (ev.outs-Compare o a b))
    ∙ emitted_two (expr_part (numbering_of s.home) a).code (expr_part (numbering_of s.home) b).code
    (relation (relation_of o) ∷ extend_word ∷ []) s d

pub expr_Not : (e : TypedExpr) (s : Setting) (d : Drafted)
    → with_value s (ev.Not e) d ≡ put empty_code (with_value s e d)
unfolding with_value with_place with_call with_link
expr_Not e s d = ap (λ (p : Part). emitted p.code s d)
    (at_expr (numbering_of s.home) (ev.Not e) (layer.Not e) (ev.outs-Not e))
    ∙ then_plain (expr_part (numbering_of s.home) e).code empty_code s d

pub expr_Include_Within : (a b : TypedExpr) (s : Setting) (d : Drafted)
    → with_value s (ev.Include inclusion.Within a b) d ≡ put within_behind (with_value s b (with_value s a d))
unfolding with_value with_place with_call with_link
expr_Include_Within a b s d = ap (λ (p : Part). emitted p.code s d)
    (at_expr (numbering_of s.home) (ev.Include inclusion.Within a b) (layer.Include inclusion.Within a b)
    (ev.outs-Include inclusion.Within a b))
    ∙ emitted_seq (expr_part (numbering_of s.home) a).code
    ((expr_part (numbering_of s.home) b).code ⨾ plain within_behind) s d
    ∙ then_plain (expr_part (numbering_of s.home) b).code within_behind s
    (emitted (expr_part (numbering_of s.home) a).code s d)

pub expr_Include_Around : (a b : TypedExpr) (s : Setting) (d : Drafted)
    → with_value s (ev.Include inclusion.Around a b) d
    ≡ put around_behind (with_value s b (put complement (with_value s a d)))
unfolding with_value with_place with_call with_link
expr_Include_Around a b s d = ap (λ (p : Part). emitted p.code s d)
    (at_expr (numbering_of s.home) (ev.Include inclusion.Around a b) (layer.Include inclusion.Around a b)
    (ev.outs-Include inclusion.Around a b))
    ∙ emitted_seq (expr_part (numbering_of s.home) a).code
    (plain complement ⨾ ((expr_part (numbering_of s.home) b).code ⨾ plain around_behind)) s d
    ∙ plain_then complement ((expr_part (numbering_of s.home) b).code ⨾ plain around_behind) s
    (emitted (expr_part (numbering_of s.home) a).code s d)
    ∙ then_plain (expr_part (numbering_of s.home) b).code around_behind s
    (put complement (emitted (expr_part (numbering_of s.home) a).code s d))

pub expr_In : (a b : TypedExpr) (s : Setting) (d : Drafted)
    → with_value s (ev.In a b) d ≡ put (element_bit
    (number_local s (put (check_code (pos 0) (pos 31) 1) (with_value s a d)).counts.numbers))
    (with_value s b (kept_element s (with_value s a d)))
unfolding with_value with_place with_call with_link
expr_In a b s d = ap (λ (p : Part). emitted p.code s d)
    (at_expr (numbering_of s.home) (ev.In a b) (layer.In a b) (ev.outs-In a b))
    ∙ in_is (expr_part (numbering_of s.home) a).code (expr_part (numbering_of s.home) b).code s d

pub expr_Abs : (t : TypeNo) (e : TypedExpr) (s : Setting) (d : Drafted)
    → with_value s (ev.Abs t e) d ≡ with_absolute s t (with_value s e d)
unfolding with_value with_place with_call with_link
expr_Abs t e s d = ap (λ (p : Part). emitted p.code s d)
    (at_expr (numbering_of s.home) (ev.Abs t e) (layer.Abs t e) (ev.outs-Abs t e))
    ∙ abs_case (are_same t integer) (expr_part (numbering_of s.home) e).code s d

pub expr_Cap : (e : TypedExpr) (s : Setting) (d : Drafted)
    → with_value s (ev.Cap e) d ≡ with_capital s (with_value s e d)
unfolding with_value with_place with_call with_link
expr_Cap e s d = ap (λ (p : Part). emitted p.code s d)
    (at_expr (numbering_of s.home) (ev.Cap e) (layer.Cap e) (ev.outs-Cap e))
    ∙ emitted_seq (expr_part (numbering_of s.home) e).code (with_number (λ t. plain (capital_code t))) s d
    ∙ capital_is s (emitted (expr_part (numbering_of s.home) e).code s d)

pub expr_Chr : (e : TypedExpr) (s : Setting) (d : Drafted)
    → with_value s (ev.Chr e) d ≡ put char_check (with_value s e d)
unfolding with_value with_place with_call with_link
expr_Chr e s d = ap (λ (p : Part). emitted p.code s d)
    (at_expr (numbering_of s.home) (ev.Chr e) (layer.Chr e) (ev.outs-Chr e))
    ∙ then_plain (expr_part (numbering_of s.home) e).code char_check s d

pub expr_Odd : (e : TypedExpr) (s : Setting) (d : Drafted) → with_value s (ev.Odd e) d ≡ put odd_code (with_value s e d)
unfolding with_value with_place with_call with_link
expr_Odd e s d = ap (λ (p : Part). emitted p.code s d)
    (at_expr (numbering_of s.home) (ev.Odd e) (layer.Odd e) (ev.outs-Odd e))
    ∙ then_plain (expr_part (numbering_of s.home) e).code odd_code s d

pub expr_Ord : (e : TypedExpr) (s : Setting) (d : Drafted)
    → with_value s (ev.Ord e) d ≡ put (ord_check s.home.types (value_type s e)) (with_value s e d)
unfolding with_value value_type
expr_Ord e s d = ap (λ (p : Part). emitted p.code s d)
    (at_expr (numbering_of s.home) (ev.Ord e) (layer.Ord e) (ev.outs-Ord e))
    ∙ emitted_behind (expr_part (numbering_of s.home) e).code
    (λ types. ord_check types (expr_part (numbering_of s.home) e).of) s d

pub expr_Val : (t : TypeNo) (e : TypedExpr) (s : Setting) (d : Drafted)
    → with_value s (ev.Val t e) d ≡ put (in_type s.home.types t 1) (with_value s e d)
unfolding with_value with_place with_call with_link
expr_Val t e s d = ap (λ (p : Part). emitted p.code s d)
    (at_expr (numbering_of s.home) (ev.Val t e) (layer.Val t e) (ev.outs-Val t e))
    ∙ emitted_behind (expr_part (numbering_of s.home) e).code (λ types. in_type types t 1) s d

pub expr_High : (x : Slot) (s : Setting) (d : Drafted) → with_value s (ev.High x) d ≡ put (high_code s x) d
unfolding with_value with_place with_call with_link
expr_High x s d = ap (λ (p : Part). emitted p.code s d)
    (at_expr (numbering_of s.home) (ev.High x) (layer.High x) (ev.outs-High x)) ∙ setting_plain (λ s. high_code s x) s d

pub expr_Call : (t : TypeNo) (c : Call) (s : Setting) (d : Drafted) → with_value s (ev.Call t c) d ≡ with_call s c d
unfolding with_value with_place with_call with_link
expr_Call t c s d = ap (λ (p : Part). emitted p.code s d)
    (at_expr (numbering_of s.home) (ev.Call t c) (layer.Call t c) (ev.outs-Call t c))

-- ---- designators

pub place_is : (x : Place) (s : Setting) (d : Drafted)
    → with_place s x d ≡ fold (with_component s) (put (root_code s x.root) d) x.components
unfolding with_place expr_part place_code call_code argument_code component_code link_part
place_is x s d =
    ap (λ (y : Coded). emitted y s d) (fold_out-Place Coded Coded Coded Linked Part Coded argument_layer
    (call_layer (numbering_of s.home)) component_layer link_layer expr_layer place_layer x)
    ∙ emitted_seq (root_layer x.root) (all_coded (map (component_code (numbering_of s.home)) x.components)) s d
    ∙ ap (λ (e : Drafted). emitted (all_coded (map (component_code (numbering_of s.home)) x.components)) s e)
    (root_is x.root s d)
    ∙ components x.components s (put (root_code s x.root) d)

pub component_Field : (t : TypeNo) (k : ℕ) (s : Setting) (d : Drafted)
    → with_component s d (kv.Field t k) ≡ put (field_code s.home.types t k) d
unfolding with_component with_value
component_Field t k s d = ap (λ (p : Coded). emitted p s d)
    (at_component (numbering_of s.home) (kv.Field t k) (layer.Field t k) (kv.outs-Field t k))
    ∙ setting_plain (λ s. field_code s.home.types t k) s d

pub component_Element : (t : TypeNo) (i : TypedExpr) (s : Setting) (d : Drafted)
    → with_component s d (kv.Element t i) ≡ put (element_code s.home.types t) (with_value s i d)
unfolding with_component with_value
component_Element t i s d = ap (λ (p : Coded). emitted p s d)
    (at_component (numbering_of s.home) (kv.Element t i) (layer.Element t i) (kv.outs-Element t i))
    ∙ emitted_behind (expr_part (numbering_of s.home) i).code (λ types. element_code types t) s d

pub component_OpenElement : (x : Slot) (t : TypeNo) (i : TypedExpr) (s : Setting) (d : Drafted)
    → with_component s d (kv.OpenElement x t i) ≡ put (open_element_code s x t) (with_value s i d)
unfolding with_component with_value
component_OpenElement x t i s d = ap (λ (p : Coded). emitted p s d)
    (at_component (numbering_of s.home) (kv.OpenElement x t i) (layer.OpenElement x t i) (kv.outs-OpenElement x t i))
    ∙ then_setting (expr_part (numbering_of s.home) i).code (λ s. open_element_code s x t) s d

-- ---- operators of chains

pub link_Arithmetic : (o : Arithmetic) (t : TypeNo) (b : TypedExpr) (s : Setting) (d : Drafted)
    → with_link s d (lv.Arithmetic o t b) ≡ put (arithmetic_code s.home.types o t) (with_value s b d)
unfolding with_link with_value
link_Arithmetic o t b s d = ap (λ (p : Linked). emitted p.code s d)
    (at_link (numbering_of s.home) (lv.Arithmetic o t b) (layer.Arithmetic o t b) (lv.outs-Arithmetic o t b))
    ∙ emitted_behind (expr_part (numbering_of s.home) b).code (λ types. arithmetic_code types o t) s d

pub link_And : (b : TypedExpr) (s : Setting) (d : Drafted)
    → with_link s d (lv.And b) ≡ ending_and (place_of (one wrap_word d))
    (with_value (inside_one s) b (open_draft (one wrap_word d)))
unfolding with_link with_value
link_And b s d = ap (λ (p : Linked). emitted p.code s d)
    (at_link (numbering_of s.home) (lv.And b) (layer.And b) (lv.outs-And b))
    ∙ and_is (expr_part (numbering_of s.home) b).code s d

pub link_Or : (b : TypedExpr) (s : Setting) (d : Drafted)
    → with_link s d (lv.Or b) ≡ closed_if_else (place_of (one wrap_word d)) (place_of (begun_or (one wrap_word d)))
    (Some I64) (with_value (inside_one s) b (begun_or (one wrap_word d)))
unfolding with_link with_value
link_Or b s d = ap (λ (p : Linked). emitted p.code s d)
    (at_link (numbering_of s.home) (lv.Or b) (layer.Or b) (lv.outs-Or b))
    ∙ or_is (expr_part (numbering_of s.home) b).code s d

pub link_Combine : (o : SetOperator) (b : TypedExpr) (s : Setting) (d : Drafted)
    → with_link s d (lv.Combine o b) ≡ put (set_code o) (with_value s b d)
unfolding with_link with_value
link_Combine o b s d = ap (λ (p : Linked). emitted p.code s d)
    (at_link (numbering_of s.home) (lv.Combine o b) (layer.Combine o b) (lv.outs-Combine o b))
    ∙ then_plain (expr_part (numbering_of s.home) b).code (set_code o) s d

-- ---- calls

pub call_Module : (f : Procedure) (xs : List Argument) (s : Setting) (d : Drafted)
    → with_call s (cv.Module f xs) d ≡ put (module_call (numbering_of s.home) s.home f)
    (fold (with_argument s) (one (LocalGet (top_local s)) d) xs)
unfolding with_call with_place
call_Module f xs s d = ap (λ (p : Coded). emitted p s d)
    (at_call (numbering_of s.home) (cv.Module f xs) (layer.Module f xs) (cv.outs-Module f xs))
    ∙ calling xs (λ z. module_call (numbering_of s.home) z.home f) s d

pub call_Nested : (f : LocalProcedure) (xs : List Argument) (s : Setting) (d : Drafted)
    → with_call s (cv.Nested f xs) d ≡ put (nested_called s.home f)
    (fold (with_argument s) (put (link_passed f.up) (one (LocalGet (top_local s)) d)) xs)
unfolding with_call with_place
call_Nested f xs s d = ap (λ (p : Coded). emitted p s d)
    (at_call (numbering_of s.home) (cv.Nested f xs) (layer.Nested f xs) (cv.outs-Nested f xs))
    ∙ nested_is f.up xs (λ s. nested_called s.home f) s d

pub call_Variable : (t : TypeNo) (x : Place) (xs : List Argument) (s : Setting) (d : Drafted)
    → with_call s (cv.Variable t x xs) d ≡ put
    (called_value s.home (number_local s (put (check_code (pos 1) (pos 4294967295) 7)
    (put (load_code s.home.types t) (with_place s x d))).counts.numbers) t)
    (fold (with_argument s) (one (LocalGet (top_local s))
    (kept_procedure s (put (load_code s.home.types t) (with_place s x d)))) xs)
unfolding with_call with_place
call_Variable t x xs s d = ap (λ (p : Coded). emitted p s d)
    (at_call (numbering_of s.home) (cv.Variable t x xs) (layer.Variable t x xs) (cv.outs-Variable t x xs))
    ∙ variable_is t (place_code (numbering_of s.home) x) xs s d

-- ---- arguments

pub argument_Value : (t : TypeNo) (e : TypedExpr) (s : Setting) (d : Drafted)
    → with_argument s d (xv.Value t e) ≡ put (check_taken s.home.types t (value_constant s e) (value_type s e))
    (with_value s e d)
unfolding with_argument with_value with_place value_constant value_type
argument_Value t e s d = ap (λ (p : Coded). emitted p s d)
    (at_argument (numbering_of s.home) (xv.Value t e) (layer.Value t e) (xv.outs-Value t e))
    ∙ emitted_behind (expr_part (numbering_of s.home) e).code
    (λ types. check_taken types t (expr_part (numbering_of s.home) e).constant (expr_part (numbering_of s.home) e).of) s
    d

pub argument_Place : (x : Place) (s : Setting) (d : Drafted)
    → with_argument s d (xv.Place x) ≡ one extend_word (with_place s x d)
unfolding with_argument with_value with_place value_constant value_type
argument_Place x s d = ap (λ (p : Coded). emitted p s d)
    (at_argument (numbering_of s.home) (xv.Place x) (layer.Place x) (xv.outs-Place x))
    ∙ then_plain (place_code (numbering_of s.home) x) (extend_word ∷ []) s d

pub argument_Array : (t : TypeNo) (x : Place) (s : Setting) (d : Drafted)
    → with_argument s d (xv.Array t x) ≡ put (array_behind s.home.types t) (with_place s x d)
unfolding with_argument with_value with_place value_constant value_type
argument_Array t x s d = ap (λ (p : Coded). emitted p s d)
    (at_argument (numbering_of s.home) (xv.Array t x) (layer.Array t x) (xv.outs-Array t x))
    ∙ emitted_behind (place_code (numbering_of s.home) x) (λ types. array_behind types t) s d

pub argument_Open : (x : Slot) (s : Setting) (d : Drafted) → with_argument s d (xv.Open x) ≡ put (open_code s x) d
unfolding with_argument with_value with_place value_constant value_type
argument_Open x s d = ap (λ (p : Coded). emitted p s d)
    (at_argument (numbering_of s.home) (xv.Open x) (layer.Open x) (xv.outs-Open x))
    ∙ setting_plain (λ s. open_code s x) s d

pub argument_Text : (text : List ℕ) (s : Setting) (d : Drafted) → with_argument s d (xv.Text text) ≡ with_passed text d
unfolding with_argument with_value with_place value_constant value_type
argument_Text text s d = ap (λ (p : Coded). emitted p s d)
    (at_argument (numbering_of s.home) (xv.Text text) (layer.Text text) (xv.outs-Text text))
    ∙ emitted_text (length (argument_text text))
    (λ k. plain (text_code k ++ (extend_word ∷ I64Const (length (argument_text text) - 1) ∷ []))) s d
    ∙ emitted_plain (text_code d.counts.texts ++ (extend_word ∷ I64Const (length (argument_text text) - 1) ∷ [])) s
    (next_text (length (argument_text text)) d)

pub taken_is : (t : TypeNo) (e : TypedExpr) (s : Setting) (d : Drafted)
    → with_taken s t e d ≡ put (check_taken s.home.types t (value_constant s e) (value_type s e)) (with_value s e d)
unfolding with_taken with_value value_constant value_type
taken_is t e s d = emitted_behind (expr_part (numbering_of s.home) e).code
    (λ types. check_taken types t (expr_part (numbering_of s.home) e).constant (expr_part (numbering_of s.home) e).of) s
    d

-- all of these
pub ruleset variants = (
  expr_Constant,
  expr_Load,
  expr_Procedure,
  expr_Plus,
  expr_Negate,
  expr_Chain,
  expr_Compare,
  expr_Not,
  expr_Include_Within,
  expr_Include_Around,
  expr_In,
  expr_Abs,
  expr_Cap,
  expr_Chr,
  expr_Odd,
  expr_Ord,
  expr_Val,
  expr_High,
  expr_Call,
  place_is,
  component_Field,
  component_Element,
  component_OpenElement,
  link_Arithmetic,
  link_And,
  link_Or,
  link_Combine,
  call_Module,
  call_Nested,
  call_Variable,
  argument_Value,
  argument_Place,
  argument_Array,
  argument_Open,
  argument_Text,
)

-- ---- types of expressions

chain_is : (t : TypeNo) (ls : List Link) (s : Setting)
    → chain_type t (map (link_part (numbering_of s.home)) ls) ≡ fold (λ t l. linked_type s l) t ls
unfolding linked_type
chain_is t [] s = refl
chain_is t (l ∷ ls) s = chain_is (link_part (numbering_of s.home) l).of ls s

pub type_Constant : (t : TypeNo) (n : ℤ) (s : Setting) → value_type s (ev.Constant t n) ≡ t
unfolding value_type linked_type
type_Constant t n s = ap (λ (p : Part). p.of)
    (at_expr (numbering_of s.home) (ev.Constant t n) (layer.Constant t n) (ev.outs-Constant t n))

pub constant_Constant : (t : TypeNo) (n : ℤ) (s : Setting) → value_constant s (ev.Constant t n) ≡ true
unfolding value_constant
constant_Constant t n s = ap (λ (p : Part). p.constant)
    (at_expr (numbering_of s.home) (ev.Constant t n) (layer.Constant t n) (ev.outs-Constant t n))

-- a layer that is no constant
layer_else : (n : Numbered) (x : TypedExpr-F Argument Call Component Link TypedExpr Place)
    → ((t : TypeNo) (k : ℤ) → x ≡ layer.Constant t k → ⊥) → (expr_layer (opened_expr n x)).constant ≡ false
layer_else n (layer.Constant t k) h = absurd (h t k refl)
layer_else n _ h = refl

pub constant_else : (e : TypedExpr) (s : Setting) → ((t : TypeNo) (k : ℤ) → e ≡ ev.Constant t k → ⊥)
    → value_constant s e ≡ false
unfolding value_constant
constant_else e s h = ap (λ (p : Part). p.constant) (at_expr (numbering_of s.home) e (out-TypedExpr e) refl)
    ∙ layer_else (numbering_of s.home) (out-TypedExpr e)
    (λ t k q. h t k (sym (roll-out-TypedExpr e) ∙ ap roll-TypedExpr q ∙ ev.rolls-Constant t k))

pub type_Load : (t : TypeNo) (x : Place) (s : Setting) → value_type s (ev.Load t x) ≡ t
unfolding value_type linked_type
type_Load t x s = ap (λ (p : Part). p.of)
    (at_expr (numbering_of s.home) (ev.Load t x) (layer.Load t x) (ev.outs-Load t x))

pub type_Procedure : (f : Procedure) (s : Setting) → value_type s (ev.Procedure f) ≡ f.heading
unfolding value_type linked_type
type_Procedure f s = ap (λ (p : Part). p.of)
    (at_expr (numbering_of s.home) (ev.Procedure f) (layer.Procedure f) (ev.outs-Procedure f))

pub type_Plus : (t : TypeNo) (e : TypedExpr) (s : Setting) → value_type s (ev.Plus t e) ≡ t
unfolding value_type linked_type
type_Plus t e s = ap (λ (p : Part). p.of)
    (at_expr (numbering_of s.home) (ev.Plus t e) (layer.Plus t e) (ev.outs-Plus t e))

pub type_Negate : (e : TypedExpr) (s : Setting) → value_type s (ev.Negate e) ≡ integer
unfolding value_type linked_type
type_Negate e s = ap (λ (p : Part). p.of)
    (at_expr (numbering_of s.home) (ev.Negate e) (layer.Negate e) (ev.outs-Negate e))

pub type_Chain : (e : TypedExpr) (ls : List Link) (s : Setting)
    → value_type s (ev.Chain e ls) ≡ fold (λ t l. linked_type s l) (value_type s e) ls
unfolding value_type linked_type
type_Chain e ls s = ap (λ (p : Part). p.of)
    (at_expr (numbering_of s.home) (ev.Chain e ls) (layer.Chain e ls) (ev.outs-Chain e ls))
    ∙ chain_is (expr_part (numbering_of s.home) e).of ls s

pub type_Compare : (o : Comparison) (a b : TypedExpr) (s : Setting) → value_type s (ev.Compare o a b) ≡ boolean
unfolding value_type linked_type
type_Compare o a b s = ap (λ (p : Part). p.of)
    (at_expr (numbering_of s.home) (ev.Compare o a b) (layer.Compare o a b) (ev.outs-Compare o a b))

pub type_Not : (e : TypedExpr) (s : Setting) → value_type s (ev.Not e) ≡ boolean
unfolding value_type linked_type
type_Not e s = ap (λ (p : Part). p.of) (at_expr (numbering_of s.home) (ev.Not e) (layer.Not e) (ev.outs-Not e))

pub type_Include : (o : Inclusion) (a b : TypedExpr) (s : Setting) → value_type s (ev.Include o a b) ≡ boolean
unfolding value_type linked_type
type_Include o a b s = ap (λ (p : Part). p.of)
    (at_expr (numbering_of s.home) (ev.Include o a b) (layer.Include o a b) (ev.outs-Include o a b))

pub type_In : (a b : TypedExpr) (s : Setting) → value_type s (ev.In a b) ≡ boolean
unfolding value_type linked_type
type_In a b s = ap (λ (p : Part). p.of) (at_expr (numbering_of s.home) (ev.In a b) (layer.In a b) (ev.outs-In a b))

pub type_Abs : (t : TypeNo) (e : TypedExpr) (s : Setting) → value_type s (ev.Abs t e) ≡ t
unfolding value_type linked_type
type_Abs t e s = ap (λ (p : Part). p.of) (at_expr (numbering_of s.home) (ev.Abs t e) (layer.Abs t e) (ev.outs-Abs t e))

pub type_Cap : (e : TypedExpr) (s : Setting) → value_type s (ev.Cap e) ≡ char
unfolding value_type linked_type
type_Cap e s = ap (λ (p : Part). p.of) (at_expr (numbering_of s.home) (ev.Cap e) (layer.Cap e) (ev.outs-Cap e))

pub type_Chr : (e : TypedExpr) (s : Setting) → value_type s (ev.Chr e) ≡ char
unfolding value_type linked_type
type_Chr e s = ap (λ (p : Part). p.of) (at_expr (numbering_of s.home) (ev.Chr e) (layer.Chr e) (ev.outs-Chr e))

pub type_Odd : (e : TypedExpr) (s : Setting) → value_type s (ev.Odd e) ≡ boolean
unfolding value_type linked_type
type_Odd e s = ap (λ (p : Part). p.of) (at_expr (numbering_of s.home) (ev.Odd e) (layer.Odd e) (ev.outs-Odd e))

pub type_Ord : (e : TypedExpr) (s : Setting) → value_type s (ev.Ord e) ≡ cardinal
unfolding value_type linked_type
type_Ord e s = ap (λ (p : Part). p.of) (at_expr (numbering_of s.home) (ev.Ord e) (layer.Ord e) (ev.outs-Ord e))

pub type_Val : (t : TypeNo) (e : TypedExpr) (s : Setting) → value_type s (ev.Val t e) ≡ t
unfolding value_type linked_type
type_Val t e s = ap (λ (p : Part). p.of) (at_expr (numbering_of s.home) (ev.Val t e) (layer.Val t e) (ev.outs-Val t e))

pub type_High : (x : Slot) (s : Setting) → value_type s (ev.High x) ≡ cardinal
unfolding value_type linked_type
type_High x s = ap (λ (p : Part). p.of) (at_expr (numbering_of s.home) (ev.High x) (layer.High x) (ev.outs-High x))

pub type_Call : (t : TypeNo) (c : Call) (s : Setting) → value_type s (ev.Call t c) ≡ t
unfolding value_type linked_type
type_Call t c s = ap (λ (p : Part). p.of)
    (at_expr (numbering_of s.home) (ev.Call t c) (layer.Call t c) (ev.outs-Call t c))

pub linked_Arithmetic : (o : Arithmetic) (t : TypeNo) (b : TypedExpr) (s : Setting)
    → linked_type s (lv.Arithmetic o t b) ≡ t
unfolding linked_type
linked_Arithmetic o t b s = ap (λ (p : Linked). p.of)
    (at_link (numbering_of s.home) (lv.Arithmetic o t b) (layer.Arithmetic o t b) (lv.outs-Arithmetic o t b))

pub linked_And : (b : TypedExpr) (s : Setting) → linked_type s (lv.And b) ≡ boolean
unfolding linked_type
linked_And b s = ap (λ (p : Linked). p.of) (at_link (numbering_of s.home) (lv.And b) (layer.And b) (lv.outs-And b))

pub linked_Or : (b : TypedExpr) (s : Setting) → linked_type s (lv.Or b) ≡ boolean
unfolding linked_type
linked_Or b s = ap (λ (p : Linked). p.of) (at_link (numbering_of s.home) (lv.Or b) (layer.Or b) (lv.outs-Or b))

pub linked_Combine : (o : SetOperator) (b : TypedExpr) (s : Setting) → linked_type s (lv.Combine o b) ≡ bitset
unfolding linked_type
linked_Combine o b s = ap (λ (p : Linked). p.of)
    (at_link (numbering_of s.home) (lv.Combine o b) (layer.Combine o b) (lv.outs-Combine o b))

pub ruleset types = (
  type_Constant,
  constant_Constant,
  constant_else,
  type_Load,
  type_Procedure,
  type_Plus,
  type_Negate,
  type_Chain,
  type_Compare,
  type_Not,
  type_Include,
  type_In,
  type_Abs,
  type_Cap,
  type_Chr,
  type_Odd,
  type_Ord,
  type_Val,
  type_High,
  type_Call,
  linked_Arithmetic,
  linked_And,
  linked_Or,
  linked_Combine,
)
