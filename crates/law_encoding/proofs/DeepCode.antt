-- The code of an expression nests no deeper than the expression.
use Rattle.std.proofs.Common.{map, ◌≡◌, ℕ, suc, ◌+◌, ◌≤◌, pos, Bool, true, false, List, [], ◌∷◌, Some, sym, ap, subst, ◌∙◌, arith}
use Rattle.std.specs.Prelude.{if◌then◌else◌}
use Rattle.wasm_tree.specs.declared.instr.Instr.{Instr}
use Rattle.wasm_tree.specs.declared.instr.Instr.TheVariants.{LocalGet, I64Const}
use Rattle.wasm_tree.specs.declared.kinds.ValueType.TheVariants as type
use Rattle.wasm_tree.specs.declared.instr.Operation.TheVariants.{And, ShrU}
use Rattle.typed_tree.specs.declared.computed.Argument.{Argument, Argument-F, out-Argument, roll-Argument, out-roll-Argument, map-Argument, fold_out-Argument, fold-Argument}
use Rattle.typed_tree.specs.declared.computed.Argument.TheOpen as layer
use Rattle.typed_tree.specs.declared.computed.Call.{Call, Call-F, out-Call, roll-Call, out-roll-Call, map-Call, fold_out-Call}
use Rattle.typed_tree.specs.declared.computed.Component.{Component, Component-F, out-Component, roll-Component, out-roll-Component, map-Component, fold_out-Component, fold-Component}
use Rattle.typed_tree.specs.declared.computed.Inclusion.{Inclusion}
use Rattle.typed_tree.specs.declared.computed.Inclusion.TheVariants as inclusion
use Rattle.typed_tree.specs.declared.computed.Link.{Link, Link-F, out-Link, roll-Link, out-roll-Link, map-Link, fold_out-Link, fold-Link}
use Rattle.typed_tree.specs.declared.computed.Place.{Place, Place-F, out-Place, roll-Place, out-roll-Place, map-Place, fold_out-Place}
use Rattle.typed_tree.specs.declared.computed.Root.{Root}
use Rattle.typed_tree.specs.declared.computed.Root.TheVariants as root
use Rattle.typed_tree.specs.declared.computed.TypedExpr.{TypedExpr, TypedExpr-F, out-TypedExpr, roll-TypedExpr, out-roll-TypedExpr, map-TypedExpr, fold_out-TypedExpr, ind-TypedExpr}
use Rattle.typed_tree.specs.declared.computed.Place.{ind-Place}
use Rattle.typed_tree.specs.declared.computed.Call.{ind-Call}
use Rattle.typed_tree.specs.Types.{are_same, integer}
use Rattle.def_scheme.specs.Coded.{Coded, Setting, Counts, plain, ◌⨾◌, all_coded, within, with_address, with_number, with_text, with_setting, number_local, address_local, top_local, operation}
use Rattle.def_scheme.specs.Exprs.{Part, Linked, Numbered, chosen_number, absolute_code, capital_code, include_code, in_code, chain_code, root_layer, argument_layer, call_layer, component_layer, link_layer, expr_layer, place_layer, expr_part, place_code, call_code}
use Rattle.law_encoding.specs.Nesting.{◌⊔◌, deepest}
use Rattle.law_encoding.specs.CodeNesting.{levels_in, levels}
use Rattle.law_encoding.specs.TypedNesting.{depth_typed, depth_place, depth_component, depth_link, depth_call, depth_passed}
use Rattle.law_encoding.specs.TypedNesting as nesting
use Rattle.law_encoding.proofs.Ways.{by_depth}
use Rattle.law_encoding.proofs.Weighed as typed
use Rattle.law_encoding.proofs.Levels.{levels_cons, levels_append, levels_none, else_levels, none_most, Low, low_flat, low_next, low_one, gets, sets, amount, computes, Flat, flat_end, ◌▹◌, flat_both}
use Rattle.law_encoding.proofs.FlatCode.{flat_raised, flat_checked, flat_loaded, flat_in_type, flat_taken, flat_slot, flat_kept, flat_open, flat_high, flat_element, flat_open_element, flat_global, flat_with, flat_arithmetic, flat_complement, flat_set, flat_empty, flat_ord, flat_procedure, flat_text, flat_link, flat_module_call, flat_nested_call, flat_value_call}

-- code that nests at most n levels
pub record Nests (n : ℕ) (x : Coded) : Type 0 where
  pub at_most : (s : Setting) (c : Counts) → levels (x s c).0 ≤ n

plain_most : (n : ℕ) {code : List Instr} → levels code ≤ n → Nests n (plain code)
plain_most n p = record { at_most = λ s c. p }

pub plain_nests : (n : ℕ) {code : List Instr} → Flat code → Nests n (plain code)
plain_nests n {code} p = plain_most n (none_most (levels code) n p.none)

pub two_most : (a b m n k : ℕ) → m ≡ a ⊔ b → a ≤ n → b ≤ k → m ≤ n ⊔ k
two_most a b m n k e h l = omega (arith, e, h, l)

pub both_nest : (n k : ℕ) {x y : Coded} → Nests n x → Nests k y → Nests (n ⊔ k) (x ⨾ y)
both_nest n k {x} {y} p q = record {
  at_most = λ s c. two_most (levels (x s c).0) (levels (y s (x s c).1).0) _ n k
      (levels_append (x s c).0 (y s (x s c).1).0) (p.at_most s c) (q.at_most s (x s c).1);
}

weaker : (a n k : ℕ) → n ≤ k → a ≤ n → a ≤ k
weaker a n k h l = omega (arith, h, l)

pub nests_more : (n k : ℕ) {x : Coded} → n ≤ k → Nests n x → Nests k x
nests_more n k l p = record { at_most = λ s c. weaker _ n k l (p.at_most s c) }

-- in blocks
abbrev pub Wraps : (n k : ℕ) → (List Instr → List Instr) → Type 0
Wraps n k wrap = (code : List Instr) → levels code ≤ n → levels (wrap code) ≤ k

pub within_nests : (n k : ℕ) (labels : ℕ) (wrap : List Instr → List Instr) {x : Coded} → Wraps n k wrap → Nests n x
    → Nests k (within labels wrap x)
within_nests n k labels wrap h p = record { at_most = λ s c. h _ (p.at_most (record s { exit = s.exit + labels }) c) }

pub setting_nests : (n : ℕ) {f : Setting → Coded} → ((s : Setting) → Nests n (f s)) → Nests n (with_setting f)
setting_nests n p = record { at_most = λ s c. (p s).at_most s c }

pub number_nests : (n : ℕ) {f : ℕ → Coded} → ((t : ℕ) → Nests n (f t)) → Nests n (with_number f)
number_nests n p = record {
  at_most = λ s c. (p (number_local s c.numbers)).at_most s
      (record c { numbers = suc c.numbers });
}

pub address_nests : (n : ℕ) {f : ℕ → Coded} → ((t : ℕ) → Nests n (f t)) → Nests n (with_address f)
address_nests n p = record {
  at_most = λ s c. (p (address_local s c.addresses)).at_most s
      (record c { addresses = suc c.addresses });
}

pub text_nests : (n bytes : ℕ) {f : ℕ → Coded} → ((t : ℕ) → Nests n (f t)) → Nests n (with_text bytes f)
text_nests n bytes p = record { at_most = λ s c. (p c.texts).at_most s (record c { texts = c.texts + bytes }) }

abbrev pub AllNest : List ℕ → List Coded → Type 0
AllNest [] [] = Unit {0}
AllNest (n ∷ ns) (x ∷ xs) = Nests n x × AllNest ns xs
AllNest [] (x ∷ xs) = ⊥
AllNest (n ∷ ns) [] = ⊥

pub all_nest : (ns : List ℕ) (xs : List Coded) → AllNest ns xs → Nests (deepest ns) (all_coded xs)
all_nest [] [] p = plain_nests 0 flat_end
all_nest [] (x ∷ xs) p = absurd p
all_nest (n ∷ ns) [] p = absurd p
all_nest (n ∷ ns) (x ∷ xs) p = both_nest n (deepest ns) p.0 (all_nest ns xs p.1)

-- ---- before and behind it stands code without blocks

nothing_more : (n : ℕ) → n ⊔ 0 ≤ n
nothing_more n = omega arith

none_before : (n : ℕ) → 0 ⊔ n ≤ n
none_before n = omega arith

pub then_plain : (n : ℕ) {x : Coded} {code : List Instr} → Flat code → Nests n x → Nests n (x ⨾ plain code)
then_plain n f p = nests_more (n ⊔ 0) n (nothing_more n) (both_nest n 0 p (plain_nests 0 f))

pub then_setting : (n : ℕ) {x : Coded} {f : Setting → List Instr} → ((s : Setting) → Flat (f s)) → Nests n x
    → Nests n (x ⨾ with_setting (λ s. plain (f s)))
then_setting n h p = nests_more (n ⊔ 0) n (nothing_more n)
    (both_nest n 0 p (setting_nests 0 (λ s. plain_nests 0 (h s))))

pub plain_then : (n : ℕ) {x : Coded} {code : List Instr} → Flat code → Nests n x → Nests n (plain code ⨾ x)
plain_then n f p = nests_more (0 ⊔ n) n (none_before n) (both_nest 0 n (plain_nests 0 f) p)

pub setting_then : (n : ℕ) {x : Coded} {f : Setting → List Instr} → ((s : Setting) → Flat (f s)) → Nests n x
    → Nests n (with_setting (λ s. plain (f s)) ⨾ x)
setting_then n h p = nests_more (0 ⊔ n) n (none_before n) (both_nest 0 n (setting_nests 0 (λ s. plain_nests 0 (h s))) p)

-- ---- an if

alone_most : (a b m n : ℕ) → m ≡ a ⊔ b → b ≡ 0 → a ≤ n → m ≤ n
alone_most a b m n e z l = omega (arith, e, z, l)

pub one_instr : (i : Instr) (n : ℕ) → levels_in i ≤ n → levels (i ∷ []) ≤ n
one_instr i n l = alone_most (levels_in i) (levels []) _ n (levels_cons i []) levels_none l

one_deeper : (m a b n : ℕ) → m ≡ 1 + (a ⊔ b) → a ≤ n → b ≤ n → m ≤ 1 + n
one_deeper m a b n e h l = omega (arith, e, h, l)

chosen_levels : (first second : List Instr) (n : ℕ) → levels first ≤ n → levels second ≤ n
    → levels_in (chosen_number first second) ≤ 1 + n
chosen_levels first second n h l = one_deeper _ (levels first) (levels second) n
    (else_levels (Some type.I64) first second) h l

flat_most : {code : List Instr} (n : ℕ) → Flat code → levels code ≤ n
flat_most {code} n p = none_most (levels code) n p.none

and_wraps : (n : ℕ) → Wraps n (1 + n) (λ code. chosen_number code (I64Const 0 ∷ []) ∷ [])
and_wraps n code l = one_instr _ (1 + n) (chosen_levels code (I64Const 0 ∷ []) n l (flat_most n (amount 0 ▹ flat_end)))

or_wraps : (n : ℕ) → Wraps n (1 + n) (λ code. chosen_number (I64Const 1 ∷ []) code ∷ [])
or_wraps n code l = one_instr _ (1 + n) (chosen_levels (I64Const 1 ∷ []) code n (flat_most n (amount 1 ▹ flat_end)) l)

-- ---- expressions

root_nests : (n : ℕ) (r : Root) → Nests n (root_layer r)
root_nests n (root.Global v) = setting_nests n (λ s. plain_nests n (flat_global s.home v))
root_nests n (root.Local slot) = setting_nests n (λ s. plain_nests n (flat_slot s slot []))
root_nests n (root.Alias slot) = setting_nests n (λ s. plain_nests n (flat_kept s slot []))
root_nests n (root.Open slot) = setting_nests n (λ s. plain_nests n (flat_open s slot))
root_nests n (root.With k) = setting_nests n (λ s. plain_nests n (flat_with _))

one_more : (n : ℕ) → n ≤ 1 ⊔ n
one_more n = omega arith

one_level : (n : ℕ) → n ≤ 1 + n
one_level n = omega arith

include_nests : (n k : ℕ) (o : Inclusion) {x y : Coded} → Nests n x → Nests k y → Nests (n ⊔ k) (include_code o x y)
include_nests n k inclusion.Within p q =
    both_nest n k p (then_plain k (flat_both flat_complement (computes _ ▹ flat_empty)) q)
include_nests n k inclusion.Around p q =
    both_nest n k p (plain_then k flat_complement (then_plain k (computes _ ▹ flat_empty) q))

flat_in : (t : ℕ) → Flat (LocalGet t ∷ operation ShrU ∷ I64Const 1 ∷ operation And ∷ [])
flat_in t = gets t ▹ computes _ ▹ amount 1 ▹ computes _ ▹ flat_end

in_nests : (n k : ℕ) {x y : Coded} → Nests n x → Nests k y → Nests (n ⊔ k) (in_code x y)
in_nests n k p q = both_nest n k p (plain_then k (flat_checked (pos 0) (pos 31) 1)
    (number_nests k (λ t. plain_then k (sets t ▹ flat_end) (then_plain k (flat_in t) q))))

low_absolute : (t : ℕ) → Low 1 (absolute_code t)
low_absolute t =
    low_one (sets t) (low_one (gets t) (low_one (amount 0) (low_one (computes _) (low_next
    (chosen_levels _ _ 0 (flat_most 0 (amount 0 ▹ gets t ▹ computes _ ▹ flat_end)) (flat_most 0 (gets t ▹ flat_end)))
    (low_flat 1 (flat_checked (pos 0) (pos 2147483647) 2))))))

low_capital : (t : ℕ) → Low 1 (capital_code t)
low_capital t =
    low_one (sets t) (low_one (gets t) (low_one (amount 97)
    (low_one (computes _) (low_one (amount 25) (low_one (computes _) (low_next
    (chosen_levels _ _ 0 (flat_most 0 (gets t ▹ amount 32 ▹ computes _ ▹ flat_end)) (flat_most 0 (gets t ▹ flat_end)))
    (low_flat 1 flat_end)))))))

own_level : (n : ℕ) → n ⊔ 1 ≤ 1 ⊔ n
own_level n = omega arith

abs_by : (b : Bool) (n : ℕ) {x : Coded} (f : ℕ → List Instr) → ((t : ℕ) → levels (f t) ≤ 1) → Nests n x
    → Nests (1 ⊔ n) (if b then x ⨾ with_number (λ t. plain (f t)) else x)
abs_by true n f h p = nests_more (n ⊔ 1) (1 ⊔ n) (own_level n)
    (both_nest n 1 p (number_nests 1 (λ t. plain_most 1 (h t))))
abs_by false n f h p = nests_more n (1 ⊔ n) (one_more n) p

-- ---- trees

module _ (numbered : Numbered) where
  abbrev pub of_argument : Argument → Coded
  of_argument = fold-Argument Coded Coded Coded Linked Part Coded argument_layer (call_layer numbered) component_layer
      link_layer expr_layer place_layer

  abbrev pub of_component : Component → Coded
  of_component = fold-Component Coded Coded Coded Linked Part Coded argument_layer (call_layer numbered) component_layer
      link_layer expr_layer place_layer

  abbrev pub of_link : Link → Linked
  of_link = fold-Link Coded Coded Coded Linked Part Coded argument_layer (call_layer numbered) component_layer
      link_layer expr_layer place_layer

  abbrev pub opened_argument : Argument-F Argument Call Component Link TypedExpr Place
      → Argument-F Coded Coded Coded Linked Part Coded
  opened_argument x = map-Argument Argument Call Component Link TypedExpr Place Coded Coded Coded Linked Part Coded
      of_argument (call_code numbered) of_component of_link (expr_part numbered) (place_code numbered) x

  pub at_argument : (e : Argument) (x : Argument-F Argument Call Component Link TypedExpr Place) → out-Argument e ≡ x
      → of_argument e ≡ argument_layer (opened_argument x)
  unfolding expr_part place_code call_code
  at_argument e x h = fold_out-Argument Coded Coded Coded Linked Part Coded argument_layer (call_layer numbered)
      component_layer link_layer expr_layer place_layer e
      ∙ ap (λ (y : Argument-F Argument Call Component Link TypedExpr Place). argument_layer (opened_argument y)) h

  abbrev pub opened_call : Call-F Argument Call Component Link TypedExpr Place
      → Call-F Coded Coded Coded Linked Part Coded
  opened_call x = map-Call Argument Call Component Link TypedExpr Place Coded Coded Coded Linked Part Coded of_argument
      (call_code numbered) of_component of_link (expr_part numbered) (place_code numbered) x

  pub at_call : (e : Call) (x : Call-F Argument Call Component Link TypedExpr Place) → out-Call e ≡ x
      → call_code numbered e ≡ call_layer numbered (opened_call x)
  unfolding expr_part place_code call_code
  at_call e x h = fold_out-Call Coded Coded Coded Linked Part Coded argument_layer (call_layer numbered) component_layer
      link_layer expr_layer place_layer e ∙ ap
      (λ (y : Call-F Argument Call Component Link TypedExpr Place). call_layer numbered (opened_call y)) h

  abbrev pub opened_component : Component-F Argument Call Component Link TypedExpr Place
      → Component-F Coded Coded Coded Linked Part Coded
  opened_component x = map-Component Argument Call Component Link TypedExpr Place Coded Coded Coded Linked Part Coded
      of_argument (call_code numbered) of_component of_link (expr_part numbered) (place_code numbered) x

  pub at_component : (e : Component) (x : Component-F Argument Call Component Link TypedExpr Place)
      → out-Component e ≡ x → of_component e ≡ component_layer (opened_component x)
  unfolding expr_part place_code call_code
  at_component e x h = fold_out-Component Coded Coded Coded Linked Part Coded argument_layer (call_layer numbered)
      component_layer link_layer expr_layer place_layer e
      ∙ ap (λ (y : Component-F Argument Call Component Link TypedExpr Place). component_layer (opened_component y)) h

  abbrev pub opened_link : Link-F Argument Call Component Link TypedExpr Place
      → Link-F Coded Coded Coded Linked Part Coded
  opened_link x = map-Link Argument Call Component Link TypedExpr Place Coded Coded Coded Linked Part Coded of_argument
      (call_code numbered) of_component of_link (expr_part numbered) (place_code numbered) x

  pub at_link : (e : Link) (x : Link-F Argument Call Component Link TypedExpr Place) → out-Link e ≡ x
      → of_link e ≡ link_layer (opened_link x)
  unfolding expr_part place_code call_code
  at_link e x h = fold_out-Link Coded Coded Coded Linked Part Coded argument_layer (call_layer numbered) component_layer
      link_layer expr_layer place_layer e ∙ ap
      (λ (y : Link-F Argument Call Component Link TypedExpr Place). link_layer (opened_link y)) h

  abbrev pub opened_expr : TypedExpr-F Argument Call Component Link TypedExpr Place
      → TypedExpr-F Coded Coded Coded Linked Part Coded
  opened_expr x = map-TypedExpr Argument Call Component Link TypedExpr Place Coded Coded Coded Linked Part Coded
      of_argument (call_code numbered) of_component of_link (expr_part numbered) (place_code numbered) x

  pub at_expr : (e : TypedExpr) (x : TypedExpr-F Argument Call Component Link TypedExpr Place) → out-TypedExpr e ≡ x
      → expr_part numbered e ≡ expr_layer (opened_expr x)
  unfolding expr_part place_code call_code
  at_expr e x h = fold_out-TypedExpr Coded Coded Coded Linked Part Coded argument_layer (call_layer numbered)
      component_layer link_layer expr_layer place_layer e
      ∙ ap (λ (y : TypedExpr-F Argument Call Component Link TypedExpr Place). expr_layer (opened_expr y)) h

  abbrev pub opened_place : Place-F Argument Call Component Link TypedExpr Place
      → Place-F Coded Coded Coded Linked Part Coded
  opened_place x = map-Place Argument Call Component Link TypedExpr Place Coded Coded Coded Linked Part Coded
      of_argument (call_code numbered) of_component of_link (expr_part numbered) (place_code numbered) x

  pub at_place : (e : Place) (x : Place-F Argument Call Component Link TypedExpr Place) → out-Place e ≡ x
      → place_code numbered e ≡ place_layer (opened_place x)
  unfolding expr_part place_code call_code
  at_place e x h = fold_out-Place Coded Coded Coded Linked Part Coded argument_layer (call_layer numbered)
      component_layer link_layer expr_layer place_layer e
      ∙ ap (λ (y : Place-F Argument Call Component Link TypedExpr Place). place_layer (opened_place y)) h

  abbrev PA : Argument → Type 0
  PA e = Nests (depth_passed e) (of_argument e)

  abbrev PC : Call → Type 0
  PC e = Nests (depth_call e) (call_code numbered e)

  abbrev PK : Component → Type 0
  PK e = Nests (depth_component e) (of_component e)

  abbrev PL : Link → Type 0
  PL e = Nests (depth_link e) (of_link e).code

  abbrev PE : TypedExpr → Type 0
  PE e = Nests (depth_typed e) (expr_part numbered e).code

  abbrev PP : Place → Type 0
  PP e = Nests (depth_place e) (place_code numbered e)

  abbrev SA : Type 0
  SA = (e : Argument) × PA e

  abbrev SC : Type 0
  SC = (e : Call) × PC e

  abbrev SK : Type 0
  SK = (e : Component) × PK e

  abbrev SL : Type 0
  SL = (e : Link) × PL e

  abbrev SE : Type 0
  SE = (e : TypedExpr) × PE e

  abbrev SP : Type 0
  SP = (e : Place) × PP e

  abbrev bare_argument : Argument-F SA SC SK SL SE SP → Argument-F Argument Call Component Link TypedExpr Place
  bare_argument x = map-Argument SA SC SK SL SE SP Argument Call Component Link TypedExpr Place (λ e. e.0) (λ e. e.0)
      (λ e. e.0) (λ e. e.0) (λ e. e.0) (λ e. e.0) x

  abbrev bare_call : Call-F SA SC SK SL SE SP → Call-F Argument Call Component Link TypedExpr Place
  bare_call x = map-Call SA SC SK SL SE SP Argument Call Component Link TypedExpr Place (λ e. e.0) (λ e. e.0) (λ e. e.0)
      (λ e. e.0) (λ e. e.0) (λ e. e.0) x

  abbrev bare_component : Component-F SA SC SK SL SE SP → Component-F Argument Call Component Link TypedExpr Place
  bare_component x = map-Component SA SC SK SL SE SP Argument Call Component Link TypedExpr Place (λ e. e.0) (λ e. e.0)
      (λ e. e.0) (λ e. e.0) (λ e. e.0) (λ e. e.0) x

  abbrev bare_link : Link-F SA SC SK SL SE SP → Link-F Argument Call Component Link TypedExpr Place
  bare_link x = map-Link SA SC SK SL SE SP Argument Call Component Link TypedExpr Place (λ e. e.0) (λ e. e.0) (λ e. e.0)
      (λ e. e.0) (λ e. e.0) (λ e. e.0) x

  abbrev bare_expr : TypedExpr-F SA SC SK SL SE SP → TypedExpr-F Argument Call Component Link TypedExpr Place
  bare_expr x = map-TypedExpr SA SC SK SL SE SP Argument Call Component Link TypedExpr Place (λ e. e.0) (λ e. e.0)
      (λ e. e.0) (λ e. e.0) (λ e. e.0) (λ e. e.0) x

  abbrev bare_place : Place-F SA SC SK SL SE SP → Place-F Argument Call Component Link TypedExpr Place
  bare_place x = map-Place SA SC SK SL SE SP Argument Call Component Link TypedExpr Place (λ e. e.0) (λ e. e.0)
      (λ e. e.0) (λ e. e.0) (λ e. e.0) (λ e. e.0) x

  all_args : (xs : List SA) → AllNest (map depth_passed (map (λ (e : SA). e.0) xs))
      (map of_argument (map (λ (e : SA). e.0) xs))
  all_args [] = tt
  all_args (x ∷ xs) = (x.1, all_args xs)

  args_nest : (xs : List SA) → Nests (deepest (map depth_passed (map (λ (e : SA). e.0) xs)))
      (all_coded (map of_argument (map (λ (e : SA). e.0) xs)))
  args_nest xs = all_nest _ _ (all_args xs)

  all_components : (xs : List SK) → AllNest (map depth_component (map (λ (e : SK). e.0) xs))
      (map of_component (map (λ (e : SK). e.0) xs))
  all_components [] = tt
  all_components (x ∷ xs) = (x.1, all_components xs)

  links_nest : (xs : List SL) → Nests (deepest (map depth_link (map (λ (e : SL). e.0) xs)))
      (chain_code (map of_link (map (λ (e : SL). e.0) xs)))
  links_nest [] = plain_nests 0 flat_end
  links_nest (x ∷ xs) = both_nest (depth_link x.0) _ x.1 (links_nest xs)

  argument_nests : (y : Argument-F SA SC SK SL SE SP)
      → Nests (nesting.argument_layer (typed.weights_argument by_depth (bare_argument y)))
      (argument_layer (opened_argument (bare_argument y)))
  argument_nests (layer.Value t e) = nests_more (depth_typed e.0) _ (one_more _)
      (then_setting (depth_typed e.0) (λ s. flat_taken s.home.types t _ _) e.1)
  argument_nests (layer.Place d) = nests_more (depth_place d.0) _ (one_more _)
      (then_plain (depth_place d.0) (computes _ ▹ flat_end) d.1)
  argument_nests (layer.Array t d) = nests_more (depth_place d.0) _ (one_more _)
      (then_setting (depth_place d.0) (λ s. computes _ ▹ amount _ ▹ flat_end) d.1)
  argument_nests (layer.Open slot) = setting_nests 1
      (λ s. plain_nests 1 (flat_both (flat_open s slot) (computes _ ▹ flat_high s slot)))
  argument_nests (layer.Text text) = text_nests 1 _
      (λ at. plain_nests 1 (flat_both (flat_text at) (computes _ ▹ amount _ ▹ flat_end)))

  call_sum : (d a : ℕ) → d ⊔ a ≤ 1 ⊔ d ⊔ a
  call_sum d a = omega arith

  flat_top : (s : Setting) → Flat (LocalGet (top_local s) ∷ [])
  flat_top s = gets _ ▹ flat_end

  call_nests : (y : Call-F SA SC SK SL SE SP)
      → Nests (nesting.call_layer (typed.weights_call by_depth (bare_call y)))
      (call_layer numbered (opened_call (bare_call y)))
  call_nests (layer.Module f args) = nests_more _ _ (one_more _)
      (setting_then _ flat_top (then_setting _ (λ s. flat_module_call numbered s.home f) (args_nest args)))
  call_nests (layer.Nested f args) = nests_more _ _ (one_more _)
      (setting_then _ flat_top (plain_then _ (flat_link numbered f.up)
      (then_setting _ (λ s. flat_nested_call numbered s.home f) (args_nest args))))
  call_nests (layer.Variable t d args) =
      nests_more (depth_place d.0 ⊔ deepest (map depth_passed (map (λ (e : SA). e.0) args))) _
      (call_sum (depth_place d.0) _)
      (both_nest (depth_place d.0) (deepest (map depth_passed (map (λ (e : SA). e.0) args)))
      (then_setting (depth_place d.0) (λ s. flat_loaded s.home.types t) d.1)
      (plain_then _ (flat_checked (pos 1) (pos 4294967295) 7)
      (number_nests (deepest (map depth_passed (map (λ (e : SA). e.0) args)))
      (λ n. plain_then _ (sets n ▹ flat_end)
      (setting_then _ flat_top (then_setting _ (λ s. flat_value_call numbered s.home.types n t)
      (args_nest args)))))))

  component_nests : (y : Component-F SA SC SK SL SE SP)
      → Nests (nesting.component_layer (typed.weights_component by_depth (bare_component y)))
      (component_layer (opened_component (bare_component y)))
  component_nests (layer.Field t k) = setting_nests 1 (λ s. plain_nests 1 (flat_raised _))
  component_nests (layer.Element t i) = nests_more (depth_typed i.0) _ (one_more _)
      (then_setting (depth_typed i.0) (λ s. flat_element s.home.types t) i.1)
  component_nests (layer.OpenElement slot t i) =
      nests_more (depth_typed i.0) _ (one_more _) (then_setting (depth_typed i.0) (λ s. flat_open_element s slot t) i.1)

  link_nests : (y : Link-F SA SC SK SL SE SP)
      → Nests (nesting.link_layer (typed.weights_link by_depth (bare_link y)))
      (link_layer (opened_link (bare_link y))).code
  link_nests (layer.Arithmetic o t b) = nests_more (depth_typed b.0) _ (one_level _)
      (then_setting (depth_typed b.0) (λ s. flat_arithmetic s.home.types o t) b.1)
  link_nests (layer.And b) =
      plain_then (1 + depth_typed b.0) (computes _ ▹ flat_end)
      (within_nests (depth_typed b.0) (1 + depth_typed b.0) 1 (λ code. chosen_number code (I64Const 0 ∷ []) ∷ [])
      (and_wraps (depth_typed b.0)) b.1)
  link_nests (layer.Or b) =
      plain_then (1 + depth_typed b.0) (computes _ ▹ flat_end)
      (within_nests (depth_typed b.0) (1 + depth_typed b.0) 1 (λ code. chosen_number (I64Const 1 ∷ []) code ∷ [])
      (or_wraps (depth_typed b.0)) b.1)
  link_nests (layer.Combine o b) = nests_more (depth_typed b.0) _ (one_level _)
      (then_plain (depth_typed b.0) (flat_set o) b.1)

  pair_sum : (n k : ℕ) → n ⊔ k ≤ 1 ⊔ n ⊔ k
  pair_sum n k = omega arith

  expr_nests : (y : TypedExpr-F SA SC SK SL SE SP)
      → Nests (nesting.expr_layer (typed.weights_expr by_depth (bare_expr y)))
      (expr_layer (opened_expr (bare_expr y))).code
  expr_nests (layer.Constant t n) = plain_nests 1 (amount _ ▹ flat_end)
  expr_nests (layer.Load t d) = nests_more (depth_place d.0) _ (one_more _)
      (then_setting (depth_place d.0) (λ s. flat_loaded s.home.types t) d.1)
  expr_nests (layer.Procedure f) = setting_nests 1 (λ s. plain_nests 1 (flat_procedure s.home f))
  expr_nests (layer.Plus t e) = nests_more (depth_typed e.0) _ (one_more _) e.1
  expr_nests (layer.Negate e) = nests_more (depth_typed e.0) _ (one_more _)
      (plain_then (depth_typed e.0) (amount 0 ▹ flat_end)
      (then_setting (depth_typed e.0) (λ s. computes _ ▹ flat_in_type s.home.types integer 2) e.1))
  expr_nests (layer.Chain e links) = nests_more _ _ (pair_sum (depth_typed e.0) _)
      (both_nest (depth_typed e.0) _ e.1 (links_nest links))
  expr_nests (layer.Compare o a b) = nests_more _ _ (pair_sum (depth_typed a.0) (depth_typed b.0))
      (both_nest (depth_typed a.0) (depth_typed b.0) a.1
      (then_plain (depth_typed b.0) (computes _ ▹ computes _ ▹ flat_end) b.1))
  expr_nests (layer.Not e) = nests_more (depth_typed e.0) _ (one_more _) (then_plain (depth_typed e.0) flat_empty e.1)
  expr_nests (layer.Include o a b) = nests_more _ _ (pair_sum (depth_typed a.0) (depth_typed b.0))
      (include_nests (depth_typed a.0) (depth_typed b.0) o a.1 b.1)
  expr_nests (layer.In a b) = nests_more _ _ (pair_sum (depth_typed a.0) (depth_typed b.0))
      (in_nests (depth_typed a.0) (depth_typed b.0) a.1 b.1)
  expr_nests (layer.Abs t e) = abs_by (are_same t integer) (depth_typed e.0) absolute_code (λ t. (low_absolute t).low)
      e.1
  expr_nests (layer.Cap e) = abs_by true (depth_typed e.0) capital_code (λ t. (low_capital t).low) e.1
  expr_nests (layer.Chr e) = nests_more (depth_typed e.0) _ (one_more _)
      (then_plain (depth_typed e.0) (flat_checked (pos 0) (pos 255) 1) e.1)
  expr_nests (layer.Odd e) = nests_more (depth_typed e.0) _ (one_more _)
      (then_plain (depth_typed e.0) (amount 1 ▹ computes _ ▹ flat_end) e.1)
  expr_nests (layer.Ord e) = nests_more (depth_typed e.0) _ (one_more _)
      (then_setting (depth_typed e.0) (λ s. flat_ord s.home.types (expr_part numbered e.0).of) e.1)
  expr_nests (layer.Val t e) = nests_more (depth_typed e.0) _ (one_more _)
      (then_setting (depth_typed e.0) (λ s. flat_in_type s.home.types t 1) e.1)
  expr_nests (layer.High slot) = setting_nests 1 (λ s. plain_nests 1 (flat_high s slot))
  expr_nests (layer.Call t c) = nests_more (depth_call c.0) _ (one_more _) c.1

  root_sum : (n : ℕ) → 0 ⊔ n ≤ 1 ⊔ n
  root_sum n = omega arith

  place_nests : (y : Place-F SA SC SK SL SE SP)
      → Nests (nesting.place_layer (typed.weights_place by_depth (bare_place y)))
      (place_layer (opened_place (bare_place y)))
  place_nests y = nests_more _ _ (root_sum _)
      (both_nest 0 _ (root_nests 0 y.root) (all_nest _ _ (all_components y.components)))

  step_argument : (x : Argument-F Argument Call Component Link TypedExpr Place) (y : Argument-F SA SC SK SL SE SP)
      → bare_argument y ≡ x → PA (roll-Argument x)
  step_argument x y q =
      let e = out-roll-Argument x ∙ sym q in
      subst (λ (n : ℕ). Nests n (of_argument (roll-Argument x)))
      (sym (typed.at_argument by_depth (roll-Argument x) (bare_argument y) e))
      (subst (Nests (nesting.argument_layer (typed.weights_argument by_depth (bare_argument y))))
      (sym (at_argument (roll-Argument x) (bare_argument y) e)) (argument_nests y))

  step_call : (x : Call-F Argument Call Component Link TypedExpr Place) (y : Call-F SA SC SK SL SE SP) → bare_call y ≡ x
      → PC (roll-Call x)
  step_call x y q =
      let e = out-roll-Call x ∙ sym q in
      subst (λ (n : ℕ). Nests n (call_code numbered (roll-Call x)))
      (sym (typed.at_call by_depth (roll-Call x) (bare_call y) e))
      (subst (Nests (nesting.call_layer (typed.weights_call by_depth (bare_call y))))
      (sym (at_call (roll-Call x) (bare_call y) e)) (call_nests y))

  step_component : (x : Component-F Argument Call Component Link TypedExpr Place) (y : Component-F SA SC SK SL SE SP)
      → bare_component y ≡ x → PK (roll-Component x)
  step_component x y q =
      let e = out-roll-Component x ∙ sym q in
      subst (λ (n : ℕ). Nests n (of_component (roll-Component x)))
      (sym (typed.at_component by_depth (roll-Component x) (bare_component y) e))
      (subst (Nests (nesting.component_layer (typed.weights_component by_depth (bare_component y))))
      (sym (at_component (roll-Component x) (bare_component y) e)) (component_nests y))

  step_link : (x : Link-F Argument Call Component Link TypedExpr Place) (y : Link-F SA SC SK SL SE SP) → bare_link y ≡ x
      → PL (roll-Link x)
  step_link x y q =
      let e = out-roll-Link x ∙ sym q in
      subst (λ (n : ℕ). Nests n (of_link (roll-Link x)).code)
      (sym (typed.at_link by_depth (roll-Link x) (bare_link y) e))
      (subst (λ (z : Linked). Nests (nesting.link_layer (typed.weights_link by_depth (bare_link y))) z.code)
      (sym (at_link (roll-Link x) (bare_link y) e)) (link_nests y))

  step_expr : (x : TypedExpr-F Argument Call Component Link TypedExpr Place) (y : TypedExpr-F SA SC SK SL SE SP)
      → bare_expr y ≡ x → PE (roll-TypedExpr x)
  step_expr x y q =
      let e = out-roll-TypedExpr x ∙ sym q in
      subst (λ (n : ℕ). Nests n (expr_part numbered (roll-TypedExpr x)).code)
      (sym (typed.at_expr by_depth (roll-TypedExpr x) (bare_expr y) e))
      (subst (λ (z : Part). Nests (nesting.expr_layer (typed.weights_expr by_depth (bare_expr y))) z.code)
      (sym (at_expr (roll-TypedExpr x) (bare_expr y) e)) (expr_nests y))

  step_place : (x : Place-F Argument Call Component Link TypedExpr Place) (y : Place-F SA SC SK SL SE SP)
      → bare_place y ≡ x → PP (roll-Place x)
  step_place x y q =
      let e = out-roll-Place x ∙ sym q in
      subst (λ (n : ℕ). Nests n (place_code numbered (roll-Place x)))
      (sym (typed.at_place by_depth (roll-Place x) (bare_place y) e))
      (subst (Nests (nesting.place_layer (typed.weights_place by_depth (bare_place y))))
      (sym (at_place (roll-Place x) (bare_place y) e)) (place_nests y))

  pub expr_levels : (e : TypedExpr) → PE e
  expr_levels = ind-TypedExpr PA PC PK PL PE PP step_argument step_call step_component step_link step_expr step_place

  pub place_levels : (e : Place) → PP e
  place_levels = ind-Place PA PC PK PL PE PP step_argument step_call step_component step_link step_expr step_place

  pub call_levels : (e : Call) → PC e
  call_levels = ind-Call PA PC PK PL PE PP step_argument step_call step_component step_link step_expr step_place
