-- The laws of constructs, from their pieces.
use Rattle.std.proofs.Common.{◌≡◌, ℤ, pos, ◌+ℤ◌, ◌-ℤ◌, ◌*ℤ◌, Bool, true, false, not, if◌then◌else◌, List, [], ◌∷◌, ◌++◌, refl, sym, ap, subst, arith}
use Rattle.std.specs.Prelude.{◌==◌, bit_and, bit_xor}
use Rattle.std.proofs.lemmas.Int.{ints}
use Rattle.typed_tree.specs.declared.computed.Inclusion.TheVariants as inclusion
use Rattle.wasm_tree.specs.declared.instr.Instr.TheVariants as instr
use Rattle.wasm_tree.specs.declared.instr.Operation.TheVariants.{And, Sub}
use Rattle.typed_tree.specs.Known.{scalar_at}
use Rattle.wasm_tree.specs.declared.instr.Instr.{Instr}
use Rattle.wasm_tree.specs.declared.store.Value.TheVariants.{I32, I64}
use Rattle.typed_tree.specs.declared.types.TypeNo.{TypeNo}
use Rattle.typed_tree.specs.declared.known_types.Types.{Types}
use Rattle.typed_tree.specs.Types.{are_same, integer, cardinal, boolean, char, bitset}
use Rattle.def_meaning.specs.Answer.{State as Source, Answer, Value, ◌▷◌, range_fault, overflow}
use Rattle.def_meaning.specs.Outcome.{Normal}
use Rattle.def_meaning.specs.Expressions.{Gives, Continues, Reaches as Reached, root_layer, component_layer, element_in, index_range, one_by_one, within, within_range, division_by, ordinal, as_type, in_base, link_layer}
use Rattle.def_meaning.specs.Environment.{Environment, module_place}
use Rattle.def_meaning.specs.Store.{Location}
use Rattle.def_meaning.specs.Operators.{truth, comparison_holds, is_true, absolute, capital, odd, quotient, remainder, bits, without, set_operation, has}
use Rattle.def_meaning.specs.Statements.{Does, change_by, recheck_value, for_all, choose_arm, store_number}
use Rattle.def_scheme.specs.Coded.{Coded, plain, ◌⨾◌, all_coded, raise_address, with_setting, with_number, wrap_word, number, operation, check_code, relation, extend_word}
use Rattle.layout_storage.specs.Types.{Ty}
use Rattle.layout_storage.specs.Sizes.{offset}
use Rattle.layout_storage.specs.Shapes.{tree}
use Rattle.def_scheme.specs.Cells as cells
use Rattle.def_scheme.specs.Cells.{in_type}
use Rattle.def_scheme.specs.Exprs.{root_layer as root_code, behind, global_code, element_code, complement, set_code, abs_code, absolute_code, capital_code, ord_check, Linked, chain_type, chain_code, empty_code, arithmetic_code, relation_of}
use Rattle.def_scheme.specs.Steps.{table_code, chain_code as tests_chain, for_code, under, change_code, if_only, if_else}
use Rattle.typed_tree.specs.declared.computed.Argument.TheOpen as layer
use Rattle.typed_tree.specs.declared.computed.Arithmetic.TheVariants as op
use Rattle.law_simulation.specs.Scene.{Scene, runs, place, word, Into, GivesNumber, GivesPlace, inside, Agrees, Reaches, GoesOn, Ends, Executes}
use Rattle.law_simulation.specs.Laws.{Globals, Own, Entire, Opened, Fields, Elements, Designators, Combinations, Inclusions, Members, Constants, Sums, Differences, Products, Quotients, Remainders, Conjunctions, Disjunctions, AreLinked, no_links, more_links, Chains, Relations, Negations, Identities, Opposites, Absolutes, Capitals, Characters, Parities, Ordinals, Conversions, Loads, Assigns, Changes, Memberships, Puts, Halts, Exits, Returns, Rows, LoneIfs, Ifs, Withs, Fors, Cases, Unlabelled, Whiles, Repeats, Loops}
use Rattle.law_simulation.proofs.Parts.{grows_same, then_agrees, then_goes, plain_goes, IsPlain, Goes}
use Rattle.law_simulation.proofs.Locals.{number_goes}
use Rattle.law_simulation.proofs.Unary.{among_agrees, odd_goes, chr_goes, val_goes, ord_goes, capital_goes, absolute_goes, stays_agrees}
use Rattle.law_simulation.proofs.Operators.{constant_agrees, second_goes, sum_goes, difference_goes}
use Rattle.law_simulation.proofs.Products.{product_goes}
use Rattle.law_simulation.proofs.Quotients.{quotient_makes, remainder_makes}
use Rattle.law_simulation.proofs.Sets.{combine_makes, within_makes, complement_goes, around_makes, has_code, in_goes}
use Rattle.law_simulation.proofs.Relations.{compare_makes, not_goes, and_goes, or_goes}
use Rattle.law_simulation.proofs.Components.{own_locates, with_locates, field_reaches, element_reaches, all_reach, root_then}
use Rattle.law_simulation.proofs.Assigned.{global_locates, load_agrees, assign_executes}
use Rattle.law_simulation.proofs.Places.{global_there}
use Rattle.law_simulation.proofs.Cases.{case_executes}
use Rattle.law_simulation.proofs.Fors.{for_executes}
use Rattle.law_simulation.proofs.Kept.{address_kept, under_executes}
use Rattle.law_simulation.proofs.Changes.{change_executes, member_executes}
use Rattle.law_simulation.proofs.Statements.{then_executes, with_executes, put_executes, halt_executes, unlabelled_executes, exit_executes, return_executes, if_only_executes, if_else_executes}
use Rattle.law_simulation.proofs.Loops.{while_executes, repeat_executes, loop_executes}

-- what gives the same where the code runs agrees alike
goes_alike : (k : Scene) (t u : TypeNo) (code : Coded) (f g : ℤ → Gives ℤ)
    → ((v : ℤ) (s : Source) → f v k.around s ≡ g v k.around s) → GoesOn k t u code f → GoesOn k t u code g
goes_alike k t u code f g same h = record {
  grows = h.grows;
  gives = λ e c free full v is s st stands rest stack. subst
      (Into (GivesNumber k u (runs k rest) stack)
      (runs k ((code (inside k e) c).0 ++ rest) st (stack ++ I64 (word v) ∷ []))) (same v s)
      (h.gives e c free full v is s st stands rest stack);
}

pub constants : Constants
constants k set p ask t n is = constant_agrees k set.helpers set.small t n is

pub sums : Sums
sums k set p ask t w y value ha some =
    let types : Types = k.setting.home.types in
    let after : Coded = with_setting (λ s. plain (arithmetic_code s.home.types op.Add w)) in
    let here : ℤ → Gives ℤ = λ x a s. (value a s ▷ (λ u s. in_base types w (x +ℤ u) s)) in
    goes_alike k t w (y.code ⨾ after) here (link_layer p ask (layer.Arithmetic op.Add w value))
    (λ v s. ap (λ (types : Types). (value k.around s ▷ λ u s. in_base types w (v +ℤ u) s)) (sym set.types))
    (second_goes k set.helpers set.small t y.of w y.code after (arithmetic_code types op.Add w) value
    (λ x u a s. in_base types w (x +ℤ u) s) ha (λ e c. refl) (sum_goes k set.helpers set.small t y.of w some))

pub differences : Differences
differences k set p ask t w y value ha some =
    let types : Types = k.setting.home.types in
    let after : Coded = with_setting (λ s. plain (arithmetic_code s.home.types op.Subtract w)) in
    let here : ℤ → Gives ℤ = λ x a s. (value a s ▷ (λ u s. in_base types w (x -ℤ u) s)) in
    goes_alike k t w (y.code ⨾ after) here (link_layer p ask (layer.Arithmetic op.Subtract w value))
    (λ v s. ap (λ (types : Types). (value k.around s ▷ λ u s. in_base types w (v -ℤ u) s)) (sym set.types))
    (second_goes k set.helpers set.small t y.of w y.code after (arithmetic_code types op.Subtract w) value
    (λ x u a s. in_base types w (x -ℤ u) s) ha (λ e c. refl)
    (difference_goes k set.helpers set.small t y.of w some))

pub products : Products
products k set p ask t w y value ha some =
    let types : Types = k.setting.home.types in
    let after : Coded = with_setting (λ s. plain (arithmetic_code s.home.types op.Multiply w)) in
    let here : ℤ → Gives ℤ = λ x a s. (value a s ▷ (λ u s. in_base types w (x *ℤ u) s)) in
    goes_alike k t w (y.code ⨾ after) here (link_layer p ask (layer.Arithmetic op.Multiply w value))
    (λ v s. ap (λ (types : Types). (value k.around s ▷ λ u s. in_base types w (v *ℤ u) s)) (sym set.types))
    (second_goes k set.helpers set.small t y.of w y.code after (arithmetic_code types op.Multiply w) value
    (λ x u a s. in_base types w (x *ℤ u) s) ha (λ e c. refl) (product_goes k set.helpers set.small t y.of w some))

pub quotients : Quotients
quotients k set p ask t w y value ha among nought =
    second_goes k set.helpers set.small t y.of w y.code
    (with_setting (λ s. plain (arithmetic_code s.home.types op.Divide w))) (instr.Call 5 ∷ []) value
    (λ x u a s. division_by quotient x u s) ha (λ e c. refl)
    (quotient_makes k set.helpers set.small t y.of w among nought)

pub remainders : Remainders
remainders k set p ask t w y value ha among nought =
    second_goes k set.helpers set.small t y.of w y.code
    (with_setting (λ s. plain (arithmetic_code s.home.types op.Remainder w))) (instr.Call 6 ∷ []) value
    (λ x u a s. division_by remainder x u s) ha (λ e c. refl)
    (remainder_makes k set.helpers set.small t y.of w among nought)

pub conjunctions : Conjunctions
conjunctions k set p ask y value ha = and_goes k set.helpers set.small y.code value ha

pub disjunctions : Disjunctions
disjunctions k set p ask y value ha = or_goes k set.helpers set.small y.code value ha

pub relations : Relations
relations k set p ask o x y first second hx hy =
    let list : List Instr = relation (relation_of o) ∷ extend_word ∷ [] in
    let both : ℤ → ℤ → Environment → Source → Answer ℤ = λ v w a s. Value (truth (comparison_holds o v w)) s in
    then_agrees k x.of boolean x.code (y.code ⨾ plain list) first (λ v a s. second a s ▷ λ w s. both v w a s) hx
    (second_goes k set.helpers set.small x.of y.of boolean y.code (plain list) list second both hy (λ e c. refl)
    (compare_makes k set.helpers set.small x.of y.of o))

pub combinations : Combinations
combinations k set p ask o y value ha =
    second_goes k set.helpers set.small bitset bitset bitset y.code (plain (set_code o)) (set_code o) value
    (λ x u a s. Value (set_operation o x u) s) ha (λ e c. refl) (combine_makes k set.helpers set.small o)

pub inclusions : Inclusions
inclusions k set p ask inclusion.Within x y first second hx hy =
    let list : List Instr = complement ++ (operation And ∷ empty_code) in
    let both : ℤ → ℤ → Environment → Source → Answer ℤ = λ v w a s. Value (truth (without (bits v) (bits w) == 0)) s in
    then_agrees k bitset boolean x.code (y.code ⨾ plain list) first (λ v a s. second a s ▷ λ w s. both v w a s) hx
    (second_goes k set.helpers set.small bitset bitset boolean y.code (plain list) list second both hy (λ e c. refl)
    (within_makes k set.helpers set.small))
inclusions k set p ask inclusion.Around x y first second hx hy =
    let list : List Instr = operation And ∷ empty_code in
    let rest_of : ℤ → Gives ℤ = λ v a s. Value (pos (bit_xor (bits v) 4294967295)) s in
    let both : ℤ → ℤ → Environment → Source → Answer ℤ = λ v w a s. Value (truth (bit_and (bits w) (bits v) == 0)) s in
    then_agrees k bitset boolean x.code (plain complement ⨾ y.code ⨾ plain list) first
    (λ v a s. rest_of v a s ▷ λ v s. second a s ▷ λ w s. both v w a s) hx
    (then_goes k bitset bitset boolean (plain complement) (y.code ⨾ plain list) rest_of
    (λ v a s. second a s ▷ λ w s. both v w a s)
    (plain_goes k bitset bitset (plain complement) complement rest_of (λ e c. refl)
    (complement_goes k set.helpers set.small))
    (second_goes k set.helpers set.small bitset bitset boolean y.code (plain list) list second both hy (λ e c. refl)
    (around_makes k set.helpers set.small)))

pub members : Members
members k set p ask x y first second hx hy beside =
    then_agrees k x.of boolean x.code (has_code k set.helpers set.small y.code second hy beside) first
    (λ x a s. within (pos 0) (pos 31) range_fault x s ▷ λ x s. second a s ▷ λ y s. Value (truth (has y x)) s) hx
    (in_goes k set.helpers set.small y.code second hy beside x.of)

pub negations : Negations
negations k set p ask x value hx =
    let opposite : ℤ → Gives ℤ = λ v a s. Value (truth (not (is_true v))) s in
    then_agrees k boolean boolean x.code (plain empty_code) value opposite hx
    (plain_goes k boolean boolean (plain empty_code) empty_code opposite (λ e c. refl)
    (not_goes k set.helpers set.small))

agrees_alike : (k : Scene) (t : TypeNo) (code : Coded) (f g : Gives ℤ) → ((s : Source) → f k.around s ≡ g k.around s)
    → Agrees k t code f → Agrees k t code g
agrees_alike k t code f g same h = record {
  grows = h.grows;
  gives = λ e c free full s st stands rest stack. subst
      (Into (GivesNumber k t (runs k rest) stack) (runs k ((code (inside k e) c).0 ++ rest) st stack)) (same s)
      (h.gives e c free full s st stands rest stack);
}

pub identities : Identities
identities k set p ask t x value hx among = among_agrees k set.helpers set.small x.of t x.code value hx among

pub opposites : Opposites
opposites k set p ask x value hx =
    let types : Types = k.setting.home.types in
    let after : Coded = with_setting (λ s. plain (operation Sub ∷ in_type s.home.types integer 2)) in
    let opposite : ℤ → ℤ → Environment → Source → Answer ℤ =
    λ v w a s. within_range (scalar_at types integer) overflow (v -ℤ w) s in
    then_agrees k boolean integer (plain (number (pos 0) ∷ [])) (x.code ⨾ after) (λ a s. Value (pos 0) s)
    (λ v a s. value a s ▷ λ w s. opposite v w a s)
    (constant_agrees k set.helpers set.small boolean (pos 0) (omega (arith, ints), omega (arith, ints)))
    (second_goes k set.helpers set.small boolean x.of integer x.code after (operation Sub ∷ in_type types integer 2)
    value opposite hx (λ e c. refl) (difference_goes k set.helpers set.small boolean x.of integer (λ e. cc e)))

pub absolutes : Absolutes
absolutes k set p ask t x value hx among natural =
    agrees_alike k t (abs_code t x.code) (λ a s. value a s ▷ λ v s. in_base k.setting.home.types t (absolute v) s)
    (λ a s. value a s ▷ λ v s. in_base a.types t (absolute v) s)
    (λ s. ap (λ (types : Types). (value k.around s ▷ λ v s. in_base types t (absolute v) s)) (sym set.types))
    (by (are_same t integer) refl)
  where
    here : Agrees k t x.code value
    here = among_agrees k set.helpers set.small x.of t x.code value hx among

    by : (b : Bool) → are_same t integer ≡ b
        → Agrees k t (if b then x.code ⨾ with_number (λ n. plain (absolute_code n)) else x.code)
        (λ a s. value a s ▷ λ v s. in_base k.setting.home.types t (absolute v) s)
    by true e = then_agrees k t t x.code (with_number (λ n. plain (absolute_code n))) value
        (λ v a s. in_base k.setting.home.types t (absolute v) s) here
        (number_goes k t t absolute_code (λ v a s. in_base k.setting.home.types t (absolute v) s)
        (absolute_goes k set.helpers set.small t e))
    by false e = stays_agrees k set.helpers set.small t (natural e) x.code value here

pub capitals : Capitals
capitals k set p ask x value hx = then_agrees k char char x.code (with_number (λ n. plain (capital_code n))) value
    (λ v a s. Value (capital v) s) hx (number_goes k char char capital_code (λ v a s. Value (capital v) s)
    (capital_goes k set.helpers set.small))

-- what is made of a value by code without locals
plainly_agrees : (k : Scene) (t u : TypeNo) (x after : Coded) (list : List Instr) (value : Gives ℤ) (next : ℤ → Gives ℤ)
    → Agrees k t x value → IsPlain k after list → Goes k t u list (λ v s. next v k.around s)
    → Agrees k u (x ⨾ after) (λ a s. value a s ▷ λ v s. next v a s)
plainly_agrees k t u x after list value next hx is go =
    then_agrees k t u x after value next hx (plain_goes k t u after list next is go)

pub characters : Characters
characters k set p ask x value hx = plainly_agrees k x.of char x.code (plain (check_code (pos 0) (pos 255) 1))
    (check_code (pos 0) (pos 255) 1) value (λ v a s. within (pos 0) (pos 255) range_fault v s) hx (λ e c. refl)
    (chr_goes k set.helpers set.small x.of)

pub parities : Parities
parities k set p ask x value hx =
    plainly_agrees k x.of boolean x.code (plain (instr.I64Const 1 ∷ operation And ∷ []))
    (instr.I64Const 1 ∷ operation And ∷ []) value (λ v a s. Value (truth (odd v)) s) hx (λ e c. refl)
    (odd_goes k set.helpers set.small x.of)

pub ordinals : Ordinals
ordinals k set p ask x value hx among natural =
    plainly_agrees k x.of cardinal x.code (with_setting (λ s. plain (ord_check s.home.types x.of)))
    (ord_check k.setting.home.types x.of) value (λ v a s. ordinal v s) hx (λ e c. refl)
    (ord_goes k set.helpers set.small x.of among natural)

pub conversions : Conversions
conversions k set p ask t x value hx some =
    agrees_alike k t (x.code ⨾ with_setting (λ s. plain (in_type s.home.types t 1)))
    (λ a s. value a s ▷ λ v s. as_type k.setting.home.types t v s) (λ a s. value a s ▷ λ v s. as_type a.types t v s)
    (λ s. ap (λ (types : Types). (value k.around s ▷ λ v s. as_type types t v s)) (sym set.types))
    (plainly_agrees k x.of t x.code (with_setting (λ s. plain (in_type s.home.types t 1)))
    (in_type k.setting.home.types t 1) value (λ v a s. as_type k.setting.home.types t v s) hx (λ e c. refl)
    (val_goes k set.helpers set.small x.of t some))

-- ---- designators

pub globals : Globals
globals k set p ask v t is = global_locates k set.helpers set.small set.room v (module_place p v.home ∷ v.number ∷ []) t
    (with_setting (λ s. plain (global_code s.home v))) is (λ e c. refl)

pub own : Own
own k set p ask i l t is = own_locates k set.helpers set.small set.room i l t is

pub entire : Entire
entire k set v l t is exit s st h rest stack = global_there k set.helpers set.small set.room v l t is s st h rest stack

pub opened : Opened
opened k p ask j l t is = with_locates k j l t is

pub fields : Fields
fields k set p ask t j u there =
    field_reaches k set.helpers set.small set.room (tree k.setting.home.types t) u j
    (with_setting (λ s. plain (raise_address (offset (tree s.home.types t) (j ∷ []))))) there (λ e c. refl)

pub elements : Elements
elements k set p ask t r u i value range array hi =
    reaches_alike k (tree k.setting.home.types t) u (i.code ⨾ with_setting (λ s. plain (element_code s.home.types t)))
    (λ l a s. value a s ▷ λ v s. element_in l (index_range k.setting.home.types t) v s)
    (component_layer p ask (layer.Element t value))
    (λ l s. ap (λ (types : Types). (value k.around s ▷ λ v s. element_in l (index_range types t) v s))
    (sym set.types))
    (element_reaches k set.helpers set.small set.room t i.of r u i.code
    (with_setting (λ s. plain (element_code s.home.types t))) value range array hi (λ e c. refl))
  where
    reaches_alike : (k : Scene) (t u : Ty) (code : Coded) (f g : Reached)
        → ((l : Location) (s : Source) → f l k.around s ≡ g l k.around s) → Reaches k t u code f → Reaches k t u code g
    reaches_alike k t u code f g same h = record {
      grows = h.grows;
      gives = λ e c free full l type some s st stands rest stack.
          subst (Into (GivesPlace k u (runs k rest) stack)
          (runs k ((code (inside k e) c).0 ++ rest) st (stack ++ I32 (place k l) ∷ []))) (same l s)
          (h.gives e c free full l type some s st stands rest stack);
    }

pub designators : Designators
designators k p ask r t u cs rs hr hs = root_then k t u (root_code r) (all_coded cs)
    (λ a s. Value (root_layer p ask r a) s) (one_by_one rs) hr (all_reach k t u cs rs hs)

pub loads : Loads
loads k set p ask t c d found cell hd = load_agrees k set.helpers set.small set.room t c d
    (with_setting (λ s. plain (cells.load_code s.home.types t))) found cell hd (λ e counts. refl)

pub assigns : Assigns
assigns k set function t c d e found value cell hd he =
    assign_executes k set.helpers set.small set.room function t c d e
    (with_setting (λ s. plain (cells.store_code s.home.types t))) found value cell hd he (λ x counts. refl)

executes_alike : (k : Scene) (function : Bool) (code : Coded) (f g : Does)
    → ((s : Source) → f k.around s ≡ g k.around s) → Executes k function code f → Executes k function code g
executes_alike k function code f g same h = record {
  grows = h.grows;
  goes = λ e c free full s st stands rest stack. subst
      (Ends k function e stack (λ st. runs k rest st stack) (runs k ((code (inside k e) c).0 ++ rest) st stack))
      (same s) (h.goes e c free full s st stands rest stack);
}

pub changes : Changes
changes k set function o t c d x found value cell some based hd hx beside =
    let here : Types → Does = λ types a s.
    (found a s ▷ (λ l s. value a s ▷ λ y s. recheck_value types t (change_by o (s.store l) y) s ▷ λ v s. Value
    Normal (store_number l v s))) in
    executes_alike k function (change_code o d t x.code) (here k.setting.home.types) (λ a s. here a.types a s)
    (λ s. ap (λ (types : Types). here types k.around s) (sym set.types))
    (change_executes k set.helpers set.small set.room function o t x.of c d x.code found value cell some based hd hx
    beside)

pub memberships : Memberships
memberships k set function o c d x found value cell hd hx beside =
    member_executes k set.helpers set.small set.room function o x.of c cell x.code value beside d found hd hx

pub puts : Puts
puts k set function e value he = put_executes k function set.helpers e value he

pub halts : Halts
halts k set function = halt_executes k function set.helpers

pub exits : Exits
exits k function = exit_executes k function

pub returns : Returns
returns k = return_executes k false refl

pub lone_ifs : LoneIfs
lone_ifs k set function e value x step he hx =
    let either : ℤ → Does = λ v a s. if is_true v then step a s else Value Normal s in
    with_executes k function boolean e (plain (wrap_word ∷ []) ⨾ if_only x) value either he
    (if_only_executes k function set.helpers set.small x step hx)

pub rows : Rows
rows k function x y step next hx hy = then_executes k function x y step next hx hy

pub ifs : Ifs
ifs k set function e value x y step other he hx hy =
    let either : ℤ → Does = λ v a s. if is_true v then step a s else other a s in
    with_executes k function boolean e (plain (wrap_word ∷ []) ⨾ if_else x y) value either he
    (if_else_executes k function set.helpers set.small x y step other hx hy)

pub withs : Withs
withs k function t d x found step hd growing hx =
    address_kept k function t d found (λ w. under w x) (λ l a s. step (record a { withs = a.withs ++ l ∷ [] }) s) hd
    (λ w e c. growing w e c) (λ w l new type some. under_executes k function w l x step (hx w l new type some))

pub whiles : Whiles
whiles k set function e value x step he hx = while_executes k function set.helpers set.small e x value step he hx

pub cases : Cases
cases k set function x value xs ys otherwise other sparse hx growing arms ho =
    subst (λ (b : Bool). Executes k function
    (x.code ⨾ with_number (λ n. plain (instr.LocalSet n ∷ []) ⨾
    (if b then table_code n xs otherwise else tests_chain n xs otherwise)))
    (λ a s. value a s ▷ λ v s. choose_arm v ys other a s))
    (sym sparse) (case_executes k set.helpers set.small function xs ys otherwise other growing arms ho x.of x.code value
    hx)

pub unlabelled : Unlabelled
unlabelled k set function = unlabelled_executes k function set.helpers

pub fors : Fors
fors k set function t c l at start bound step_by x first last step cell some type there low high hstart hbound growing
    hx =
    let here : Types → Does = λ types a s.
    (first a s ▷ (λ v s. last a s ▷ λ limit s. for_all k.turns (as_type types t) l step_by limit (step a)
    (store_number l v s))) in
    executes_alike k function (for_code (with_setting (λ s. plain (at s))) t start bound step_by x)
    (here k.setting.home.types) (λ a s. here a.types a s)
    (λ s. ap (λ (types : Types). here types k.around s) (sym set.types))
    (for_executes k set.helpers set.small set.room function t bound.of c cell some l type step_by
    (record { low = low; high = high }) at there
    (behind start.code (λ types. cells.check_taken types t start.constant start.of)) bound.code x first last step hstart
    hbound growing hx)

pub repeats : Repeats
repeats k set function e value x step he hx = repeat_executes k function set.helpers set.small e x value step he hx

pub loops : Loops
loops k set function x step hx = loop_executes k function set.helpers set.small x step hx

-- operators one behind the other
links_go : (k : Scene) (t : TypeNo) (ls : List Linked) (fs : List Continues) → AreLinked k t ls fs
    → GoesOn k t (chain_type t ls) (chain_code ls) (one_by_one fs)
links_go k t [] [] (no_links _) = record {
  grows = λ e c. grows_same c;
  gives =
      λ e c free full v is s st h rest stack. record { st = st; stands = h; is = is; run = refl };
}
links_go k t _ _ (more_links _ l ls f fs h hs) =
    then_goes k t l.of (chain_type l.of ls) l.code (chain_code ls) f (one_by_one fs) h (links_go k l.of ls fs hs)

pub chains : Chains
chains k p ask x value ls fs hx hs = then_agrees k x.of (chain_type x.of ls) x.code (chain_code ls) value
    (one_by_one fs) hx (links_go k x.of ls fs hs)
