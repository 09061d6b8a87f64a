-- The code of an expression takes at most 1023 bytes for each that the expression counts.
use Rattle.std.proofs.Common.{map, ◌≡◌, ℕ, suc, ◌+◌, ◌*◌, ◌≤◌, pos, Bool, true, false, List, [], ◌∷◌, Some, refl, sym, ap, subst, ◌∙◌, arith}
use Rattle.std.specs.Prelude.{if◌then◌else◌, nat_le}
use Rattle.std.proofs.lemmas.Bool.{leb-true}
use Rattle.wasm_tree.specs.declared.instr.Instr.{Instr}
use Rattle.wasm_tree.specs.declared.instr.Instr.TheVariants.{LocalGet, I64Const}
use Rattle.wasm_tree.specs.declared.kinds.ValueType.TheVariants as type
use Rattle.wasm_tree.specs.declared.instr.Operation.TheVariants.{And, ShrU}
use Rattle.typed_tree.specs.declared.computed.Argument.{Argument, Argument-F, out-Argument, roll-Argument, out-roll-Argument, map-Argument, fold_out-Argument, fold-Argument}
use Rattle.typed_tree.specs.declared.computed.Argument.TheOpen as layer
use Rattle.typed_tree.specs.declared.computed.Call.{Call, Call-F, out-Call, roll-Call, out-roll-Call, map-Call, fold_out-Call}
use Rattle.typed_tree.specs.declared.computed.Component.{Component, Component-F, out-Component, roll-Component, out-roll-Component, map-Component, fold_out-Component, fold-Component}
use Rattle.typed_tree.specs.declared.computed.Inclusion.{Inclusion}
use Rattle.typed_tree.specs.declared.computed.Inclusion.TheVariants as inclusion
use Rattle.typed_tree.specs.declared.computed.Link.{Link, Link-F, out-Link, roll-Link, out-roll-Link, map-Link, fold_out-Link, fold-Link}
use Rattle.typed_tree.specs.declared.computed.Place.{Place, Place-F, out-Place, roll-Place, out-roll-Place, map-Place, fold_out-Place}
use Rattle.typed_tree.specs.declared.computed.Root.{Root}
use Rattle.typed_tree.specs.declared.computed.Root.TheVariants as root
use Rattle.typed_tree.specs.declared.computed.TypedExpr.{TypedExpr, TypedExpr-F, out-TypedExpr, roll-TypedExpr, out-roll-TypedExpr, map-TypedExpr, fold_out-TypedExpr, ind-TypedExpr}
use Rattle.typed_tree.specs.declared.computed.Place.{ind-Place}
use Rattle.typed_tree.specs.declared.computed.Call.{ind-Call}
use Rattle.typed_tree.specs.Types.{are_same, integer}
use Rattle.def_scheme.specs.Coded.{Coded, Setting, Counts, plain, ◌⨾◌, all_coded, within, with_address, with_number, with_text, with_setting, number_local, address_local, top_local, operation}
use Rattle.def_scheme.specs.Exprs.{Part, Linked, Numbered, chosen_number, absolute_code, capital_code, include_code, in_code, chain_code, root_layer, argument_layer, call_layer, component_layer, link_layer, expr_layer, place_layer, expr_part, place_code, call_code}
use Rattle.law_encoding.specs.Sizes.{total}
use Rattle.law_encoding.specs.TypedSizes.{size_typed, size_place, size_component, size_link, size_call, size_passed}
use Rattle.law_encoding.specs.TypedSizes as sizes
use Rattle.law_encoding.proofs.Ways.{by_size, by_distance}
use Rattle.law_encoding.proofs.Weighed as typed
use Rattle.law_encoding.specs.Nesting.{◌⊔◌, deepest}
use Rattle.law_encoding.specs.CodeBytes.{bytes_in, bytes}
use Rattle.law_encoding.specs.Short.{unit_bytes}
use Rattle.law_encoding.specs.Outward.{outward_typed, outward_place, outward_component, outward_link, outward_call, outward_passed, outward_root}
use Rattle.law_encoding.specs.Outward as outward
use Rattle.law_encoding.proofs.CodeLengths.{bytes_cons, bytes_append, bytes_none, else_bytes, gets, sets, amount, computes, Short, short_end, ◌▹◌, short_both, short_if}
use Rattle.law_encoding.proofs.ShortCode.{IsNear, short_raised, short_checked, short_loaded, short_in_type, short_taken, short_slot, short_kept, short_open, short_high, short_element, short_open_element, short_global, short_with, short_arithmetic, short_complement, short_set, short_empty, short_ord, short_procedure, short_text, short_link, short_module_call, short_nested_call, short_value_call}

-- at most so many times 1023 bytes, and so many more
pub record Costs (n k : ℕ) (x : Coded) : Type 0 where
  pub at_most : (s : Setting) (c : Counts) → bytes (x s c).0 ≤ unit_bytes * n + k

plain_most : (a k : ℕ) → a ≤ k → a ≤ unit_bytes * 0 + k
plain_most a k h = omega (arith, h)

pub plain_costs : {k : ℕ} {code : List Instr} → Short k code → Costs 0 k (plain code)
plain_costs {k} {code} p = record { at_most = λ s c. plain_most (bytes code) k p.at_most }

both_most : (m a b n k u v : ℕ) → m ≡ a + b → a ≤ unit_bytes * n + u → b ≤ unit_bytes * k + v
    → m ≤ unit_bytes * (n + k) + (u + v)
both_most m a b n k u v e h l = omega (arith, e, h, l)

pub both_cost : {n k u v : ℕ} {x y : Coded} → Costs n u x → Costs k v y → Costs (n + k) (u + v) (x ⨾ y)
both_cost {n} {k} {u} {v} {x} {y} p q = record {
  at_most = λ s c. both_most _ (bytes (x s c).0) (bytes (y s (x s c).1).0) n k u v
      (bytes_append (x s c).0 (y s (x s c).1).0) (p.at_most s c) (q.at_most s (x s c).1);
}

fewer : (a n k u v : ℕ) → n ≤ k → u ≤ v → a ≤ unit_bytes * n + u → a ≤ unit_bytes * k + v
fewer a n k u v h l p = omega (arith, h, l, p)

-- what is more, of at most so many times 1023 bytes, counts as so many
settled : (a n k u j : ℕ) → u ≤ unit_bytes * j → j + n ≤ k → a ≤ unit_bytes * n + u → a ≤ unit_bytes * k + 0
settled a n k u j h l p = omega (arith, h, l, p)

pub settles : (j : ℕ) {n k u : ℕ} {x : Coded} → nat_le u (unit_bytes * j) ≡ true → j + n ≤ k → Costs n u x → Costs k 0 x
settles j {n} {k} {u} e l p = record {
  at_most =
      λ s c. settled _ n k u j (leb-true u (unit_bytes * j) e) l (p.at_most s c);
}

pub costs_more : {n k u : ℕ} {x : Coded} → n ≤ k → Costs n u x → Costs k u x
costs_more {n} {k} {u} l p = record { at_most = λ s c. fewer _ n k u u l (itself u) (p.at_most s c) } where
  itself : (m : ℕ) → m ≤ m
  itself m = omega arith

pub extra_costs : {n u v : ℕ} {x : Coded} → nat_le u v ≡ true → Costs n u x → Costs n v x
extra_costs {n} {u} {v} e p = record { at_most = λ s c. fewer _ n n u v (itself n) (leb-true u v e) (p.at_most s c) }
  where
    itself : (m : ℕ) → m ≤ m
    itself m = omega arith

-- in blocks, which take so many bytes more
abbrev pub Wraps : (w : ℕ) → (List Instr → List Instr) → Type 0
Wraps w wrap = (code : List Instr) → bytes (wrap code) ≤ bytes code + w

pub wrapped_most : (m a n u w : ℕ) → m ≤ a + w → a ≤ unit_bytes * n + u → m ≤ unit_bytes * n + (u + w)
wrapped_most m a n u w h l = omega (arith, h, l)

pub within_costs : {n u : ℕ} (w labels : ℕ) (wrap : List Instr → List Instr) {x : Coded} → Wraps w wrap → Costs n u x
    → Costs n (u + w) (within labels wrap x)
within_costs {n} {u} w labels wrap h p =
    record { at_most = λ s c. wrapped_most _ _ n u w (h _) (p.at_most (record s { exit = s.exit + labels }) c) }

pub setting_costs : {n u : ℕ} {f : Setting → Coded} → ((s : Setting) → Costs n u (f s)) → Costs n u (with_setting f)
setting_costs p = record { at_most = λ s c. (p s).at_most s c }

pub number_costs : {n u : ℕ} {f : ℕ → Coded} → ((t : ℕ) → Costs n u (f t)) → Costs n u (with_number f)
number_costs p = record {
  at_most = λ s c. (p (number_local s c.numbers)).at_most s
      (record c { numbers = suc c.numbers });
}

pub address_costs : {n u : ℕ} {f : ℕ → Coded} → ((t : ℕ) → Costs n u (f t)) → Costs n u (with_address f)
address_costs p = record {
  at_most = λ s c. (p (address_local s c.addresses)).at_most s
      (record c { addresses = suc c.addresses });
}

pub text_costs : {n u : ℕ} (length : ℕ) {f : ℕ → Coded} → ((t : ℕ) → Costs n u (f t)) → Costs n u (with_text length f)
text_costs length p = record { at_most = λ s c. (p c.texts).at_most s (record c { texts = c.texts + length }) }

abbrev pub AllCost : List ℕ → List Coded → Type 0
AllCost [] [] = Unit {0}
AllCost (n ∷ ns) (x ∷ xs) = Costs n 0 x × AllCost ns xs
AllCost [] (x ∷ xs) = ⊥
AllCost (n ∷ ns) [] = ⊥

pub all_cost : (ns : List ℕ) (xs : List Coded) → AllCost ns xs → Costs (total ns) 0 (all_coded xs)
all_cost [] [] p = plain_costs short_end
all_cost [] (x ∷ xs) p = absurd p
all_cost (n ∷ ns) [] p = absurd p
all_cost (n ∷ ns) (x ∷ xs) p = both_cost p.0 (all_cost ns xs p.1)

-- ---- before and behind it stands code without blocks

behind_most : (m a b n u v : ℕ) → m ≡ a + b → a ≤ unit_bytes * n + u → b ≤ v → m ≤ unit_bytes * n + (u + v)
behind_most m a b n u v e h l = omega (arith, e, h, l)

before_most : (m a b n u v : ℕ) → m ≡ b + a → a ≤ unit_bytes * n + u → b ≤ v → m ≤ unit_bytes * n + (v + u)
before_most m a b n u v e h l = omega (arith, e, h, l)

pub then_setting : {n u v : ℕ} {x : Coded} {f : Setting → List Instr} → ((s : Setting) → Short v (f s)) → Costs n u x
    → Costs n (u + v) (x ⨾ with_setting (λ s. plain (f s)))
then_setting {n} {u} {v} {x} {f} h p = record {
  at_most =
      λ s c. behind_most _ (bytes (x s c).0) (bytes (f s)) n u v (bytes_append (x s c).0 (f s)) (p.at_most s c)
      (h s).at_most;
}

pub then_plain : {n u v : ℕ} {x : Coded} {code : List Instr} → Short v code → Costs n u x
    → Costs n (u + v) (x ⨾ plain code)
then_plain {n} {u} {v} {x} {code} h p = record {
  at_most =
      λ s c. behind_most _ (bytes (x s c).0) (bytes code) n u v (bytes_append (x s c).0 code) (p.at_most s c) h.at_most;
}

pub setting_then : {n u v : ℕ} {x : Coded} {f : Setting → List Instr} → ((s : Setting) → Short v (f s)) → Costs n u x
    → Costs n (v + u) (with_setting (λ s. plain (f s)) ⨾ x)
setting_then {n} {u} {v} {x} {f} h p = record {
  at_most =
      λ s c. before_most _ (bytes (x s c).0) (bytes (f s)) n u v (bytes_append (f s) (x s c).0) (p.at_most s c)
      (h s).at_most;
}

pub plain_then : {n u v : ℕ} {x : Coded} {code : List Instr} → Short v code → Costs n u x
    → Costs n (v + u) (plain code ⨾ x)
plain_then {n} {u} {v} {x} {code} h p = record {
  at_most =
      λ s c. before_most _ (bytes (x s c).0) (bytes code) n u v (bytes_append code (x s c).0) (p.at_most s c) h.at_most;
}

-- ---- an if

one_instr : (m a b k : ℕ) → m ≡ a + b → b ≡ 0 → a ≤ k → m ≤ k
one_instr m a b k e z h = omega (arith, e, z, h)

pub alone : (i : Instr) (k : ℕ) → bytes_in i ≤ k → bytes (i ∷ []) ≤ k
alone i k h = one_instr _ (bytes_in i) (bytes []) k (bytes_cons i []) bytes_none h

beside_constant : (m a b : ℕ) → m ≡ 4 + (a + b) → b ≤ 11 → m ≤ a + 15
beside_constant m a b e h = omega (arith, e, h)

behind_constant : (m a b : ℕ) → m ≡ 4 + (b + a) → b ≤ 11 → m ≤ a + 15
behind_constant m a b e h = omega (arith, e, h)

constant_bytes : (n : ℕ) → Short 11 (I64Const n ∷ [])
constant_bytes n = amount n ▹ short_end

and_wraps : Wraps 15 (λ code. chosen_number code (I64Const 0 ∷ []) ∷ [])
and_wraps code = alone _ _ (beside_constant _ (bytes code) (bytes (I64Const 0 ∷ []))
    (else_bytes (Some type.I64) code (I64Const 0 ∷ [])) (constant_bytes 0).at_most)

or_wraps : Wraps 15 (λ code. chosen_number (I64Const 1 ∷ []) code ∷ [])
or_wraps code = alone _ _ (behind_constant _ (bytes code) (bytes (I64Const 1 ∷ []))
    (else_bytes (Some type.I64) (I64Const 1 ∷ []) code) (constant_bytes 1).at_most)

-- ---- expressions

root_costs : (r : Root) → IsNear (outward_root r) → Costs 0 829 (root_layer r)
root_costs (root.Global v) h = extra_costs refl (setting_costs (λ s. plain_costs (short_global s.home v)))
root_costs (root.Local slot) h = extra_costs refl (setting_costs (λ s. plain_costs (short_slot s slot [] h)))
root_costs (root.Alias slot) h = setting_costs (λ s. plain_costs (short_kept s slot [] h))
root_costs (root.Open slot) h = setting_costs (λ s. plain_costs (short_open s slot h))
root_costs (root.With k) h = extra_costs refl (setting_costs (λ s. plain_costs (short_with _)))

pub own : (n : ℕ) → 1 + n ≤ 1 + n
own n = omega arith

include_costs : {n k : ℕ} (o : Inclusion) {x y : Coded} → Costs n 0 x → Costs k 0 y
    → Costs (n + k) 15 (include_code o x y)
include_costs inclusion.Within p q = both_cost p (then_plain (short_both short_complement (computes _ ▹ short_empty)) q)
include_costs inclusion.Around p q = both_cost p (plain_then short_complement (then_plain (computes _ ▹ short_empty) q))

short_in : (t : ℕ) → Short 19 (LocalGet t ∷ operation ShrU ∷ I64Const 1 ∷ operation And ∷ [])
short_in t = gets t ▹ computes _ ▹ amount 1 ▹ computes _ ▹ short_end

in_costs : {n k : ℕ} {x y : Coded} → Costs n 0 x → Costs k 0 y → Costs (n + k) 64 (in_code x y)
in_costs p q = both_cost p (plain_then (short_checked (pos 0) (pos 31) 1)
    (number_costs (λ t. plain_then (sets t ▹ short_end) (then_plain (short_in t) q))))

short_absolute : (t : ℕ) → Short 91 (absolute_code t)
short_absolute t =
    sets t ▹ gets t ▹ amount 0 ▹ computes _
    ▹ short_if (amount 0 ▹ gets t ▹ computes _ ▹ short_end) (gets t ▹ short_end)
    (short_checked (pos 0) (pos 2147483647) 2)

short_capital : (t : ℕ) → Short 64 (capital_code t)
short_capital t =
    sets t ▹ gets t ▹ amount 97 ▹ computes _ ▹ amount 25 ▹ computes _
    ▹ short_if (gets t ▹ amount 32 ▹ computes _ ▹ short_end) (gets t ▹ short_end) short_end

abs_by : (b : Bool) {n : ℕ} {x : Coded} (f : ℕ → List Instr) → ((t : ℕ) → Short 91 (f t)) → Costs n 0 x
    → Costs n 91 (if b then x ⨾ with_number (λ t. plain (f t)) else x)
abs_by true {n} f h p = costs_more (no_more n) (both_cost p (number_costs (λ t. plain_costs (h t)))) where
  no_more : (k : ℕ) → k + 0 ≤ k
  no_more k = omega arith
abs_by false f h p = extra_costs refl p

-- ---- what is near in all its parts

pub first_near : (a b : ℕ) → IsNear (a ⊔ b) → IsNear a
first_near a b h = omega (arith, h)

pub second_near : (a b : ℕ) → IsNear (a ⊔ b) → IsNear b
second_near a b h = omega (arith, h)

-- ---- trees

module _ (numbered : Numbered) where
  abbrev of_argument : Argument → Coded
  of_argument = fold-Argument Coded Coded Coded Linked Part Coded argument_layer (call_layer numbered) component_layer
      link_layer expr_layer place_layer

  abbrev of_component : Component → Coded
  of_component = fold-Component Coded Coded Coded Linked Part Coded argument_layer (call_layer numbered) component_layer
      link_layer expr_layer place_layer

  abbrev of_link : Link → Linked
  of_link = fold-Link Coded Coded Coded Linked Part Coded argument_layer (call_layer numbered) component_layer
      link_layer expr_layer place_layer

  abbrev opened_argument : Argument-F Argument Call Component Link TypedExpr Place
      → Argument-F Coded Coded Coded Linked Part Coded
  opened_argument x = map-Argument Argument Call Component Link TypedExpr Place Coded Coded Coded Linked Part Coded
      of_argument (call_code numbered) of_component of_link (expr_part numbered) (place_code numbered) x

  at_argument : (e : Argument) (x : Argument-F Argument Call Component Link TypedExpr Place) → out-Argument e ≡ x
      → of_argument e ≡ argument_layer (opened_argument x)
  unfolding expr_part place_code call_code
  at_argument e x h = fold_out-Argument Coded Coded Coded Linked Part Coded argument_layer (call_layer numbered)
      component_layer link_layer expr_layer place_layer e
      ∙ ap (λ (y : Argument-F Argument Call Component Link TypedExpr Place). argument_layer (opened_argument y)) h

  abbrev opened_call : Call-F Argument Call Component Link TypedExpr Place → Call-F Coded Coded Coded Linked Part Coded
  opened_call x = map-Call Argument Call Component Link TypedExpr Place Coded Coded Coded Linked Part Coded of_argument
      (call_code numbered) of_component of_link (expr_part numbered) (place_code numbered) x

  at_call : (e : Call) (x : Call-F Argument Call Component Link TypedExpr Place) → out-Call e ≡ x
      → call_code numbered e ≡ call_layer numbered (opened_call x)
  unfolding expr_part place_code call_code
  at_call e x h = fold_out-Call Coded Coded Coded Linked Part Coded argument_layer (call_layer numbered) component_layer
      link_layer expr_layer place_layer e ∙ ap
      (λ (y : Call-F Argument Call Component Link TypedExpr Place). call_layer numbered (opened_call y)) h

  abbrev opened_component : Component-F Argument Call Component Link TypedExpr Place
      → Component-F Coded Coded Coded Linked Part Coded
  opened_component x = map-Component Argument Call Component Link TypedExpr Place Coded Coded Coded Linked Part Coded
      of_argument (call_code numbered) of_component of_link (expr_part numbered) (place_code numbered) x

  at_component : (e : Component) (x : Component-F Argument Call Component Link TypedExpr Place) → out-Component e ≡ x
      → of_component e ≡ component_layer (opened_component x)
  unfolding expr_part place_code call_code
  at_component e x h = fold_out-Component Coded Coded Coded Linked Part Coded argument_layer (call_layer numbered)
      component_layer link_layer expr_layer place_layer e
      ∙ ap (λ (y : Component-F Argument Call Component Link TypedExpr Place). component_layer (opened_component y)) h

  abbrev opened_link : Link-F Argument Call Component Link TypedExpr Place → Link-F Coded Coded Coded Linked Part Coded
  opened_link x = map-Link Argument Call Component Link TypedExpr Place Coded Coded Coded Linked Part Coded of_argument
      (call_code numbered) of_component of_link (expr_part numbered) (place_code numbered) x

  at_link : (e : Link) (x : Link-F Argument Call Component Link TypedExpr Place) → out-Link e ≡ x
      → of_link e ≡ link_layer (opened_link x)
  unfolding expr_part place_code call_code
  at_link e x h = fold_out-Link Coded Coded Coded Linked Part Coded argument_layer (call_layer numbered) component_layer
      link_layer expr_layer place_layer e ∙ ap
      (λ (y : Link-F Argument Call Component Link TypedExpr Place). link_layer (opened_link y)) h

  abbrev opened_expr : TypedExpr-F Argument Call Component Link TypedExpr Place
      → TypedExpr-F Coded Coded Coded Linked Part Coded
  opened_expr x = map-TypedExpr Argument Call Component Link TypedExpr Place Coded Coded Coded Linked Part Coded
      of_argument (call_code numbered) of_component of_link (expr_part numbered) (place_code numbered) x

  at_expr : (e : TypedExpr) (x : TypedExpr-F Argument Call Component Link TypedExpr Place) → out-TypedExpr e ≡ x
      → expr_part numbered e ≡ expr_layer (opened_expr x)
  unfolding expr_part place_code call_code
  at_expr e x h = fold_out-TypedExpr Coded Coded Coded Linked Part Coded argument_layer (call_layer numbered)
      component_layer link_layer expr_layer place_layer e
      ∙ ap (λ (y : TypedExpr-F Argument Call Component Link TypedExpr Place). expr_layer (opened_expr y)) h

  abbrev opened_place : Place-F Argument Call Component Link TypedExpr Place
      → Place-F Coded Coded Coded Linked Part Coded
  opened_place x = map-Place Argument Call Component Link TypedExpr Place Coded Coded Coded Linked Part Coded
      of_argument (call_code numbered) of_component of_link (expr_part numbered) (place_code numbered) x

  at_place : (e : Place) (x : Place-F Argument Call Component Link TypedExpr Place) → out-Place e ≡ x
      → place_code numbered e ≡ place_layer (opened_place x)
  unfolding expr_part place_code call_code
  at_place e x h = fold_out-Place Coded Coded Coded Linked Part Coded argument_layer (call_layer numbered)
      component_layer link_layer expr_layer place_layer e
      ∙ ap (λ (y : Place-F Argument Call Component Link TypedExpr Place). place_layer (opened_place y)) h

  abbrev PA : Argument → Type 0
  PA e = IsNear (outward_passed e) → Costs (size_passed e) 0 (of_argument e)

  abbrev PC : Call → Type 0
  PC e = IsNear (outward_call e) → Costs (size_call e) 0 (call_code numbered e)

  abbrev PK : Component → Type 0
  PK e = IsNear (outward_component e) → Costs (size_component e) 0 (of_component e)

  abbrev PL : Link → Type 0
  PL e = IsNear (outward_link e) → Costs (size_link e) 0 (of_link e).code

  abbrev PE : TypedExpr → Type 0
  PE e = IsNear (outward_typed e) → Costs (size_typed e) 0 (expr_part numbered e).code

  abbrev PP : Place → Type 0
  PP e = IsNear (outward_place e) → Costs (size_place e) 0 (place_code numbered e)

  abbrev SA : Type 0
  SA = (e : Argument) × PA e

  abbrev SC : Type 0
  SC = (e : Call) × PC e

  abbrev SK : Type 0
  SK = (e : Component) × PK e

  abbrev SL : Type 0
  SL = (e : Link) × PL e

  abbrev SE : Type 0
  SE = (e : TypedExpr) × PE e

  abbrev SP : Type 0
  SP = (e : Place) × PP e

  abbrev bare_argument : Argument-F SA SC SK SL SE SP → Argument-F Argument Call Component Link TypedExpr Place
  bare_argument x = map-Argument SA SC SK SL SE SP Argument Call Component Link TypedExpr Place (λ e. e.0) (λ e. e.0)
      (λ e. e.0) (λ e. e.0) (λ e. e.0) (λ e. e.0) x

  abbrev bare_call : Call-F SA SC SK SL SE SP → Call-F Argument Call Component Link TypedExpr Place
  bare_call x = map-Call SA SC SK SL SE SP Argument Call Component Link TypedExpr Place (λ e. e.0) (λ e. e.0) (λ e. e.0)
      (λ e. e.0) (λ e. e.0) (λ e. e.0) x

  abbrev bare_component : Component-F SA SC SK SL SE SP → Component-F Argument Call Component Link TypedExpr Place
  bare_component x = map-Component SA SC SK SL SE SP Argument Call Component Link TypedExpr Place (λ e. e.0) (λ e. e.0)
      (λ e. e.0) (λ e. e.0) (λ e. e.0) (λ e. e.0) x

  abbrev bare_link : Link-F SA SC SK SL SE SP → Link-F Argument Call Component Link TypedExpr Place
  bare_link x = map-Link SA SC SK SL SE SP Argument Call Component Link TypedExpr Place (λ e. e.0) (λ e. e.0) (λ e. e.0)
      (λ e. e.0) (λ e. e.0) (λ e. e.0) x

  abbrev bare_expr : TypedExpr-F SA SC SK SL SE SP → TypedExpr-F Argument Call Component Link TypedExpr Place
  bare_expr x = map-TypedExpr SA SC SK SL SE SP Argument Call Component Link TypedExpr Place (λ e. e.0) (λ e. e.0)
      (λ e. e.0) (λ e. e.0) (λ e. e.0) (λ e. e.0) x

  abbrev bare_place : Place-F SA SC SK SL SE SP → Place-F Argument Call Component Link TypedExpr Place
  bare_place x = map-Place SA SC SK SL SE SP Argument Call Component Link TypedExpr Place (λ e. e.0) (λ e. e.0)
      (λ e. e.0) (λ e. e.0) (λ e. e.0) (λ e. e.0) x

  abbrev args_of : List SA → List Argument
  args_of xs = map (λ (e : SA). e.0) xs

  abbrev components_of : List SK → List Component
  components_of xs = map (λ (e : SK). e.0) xs

  abbrev links_of : List SL → List Link
  links_of xs = map (λ (e : SL). e.0) xs

  all_args : (xs : List SA) → IsNear (deepest (map outward_passed (args_of xs)))
      → AllCost (map size_passed (args_of xs)) (map of_argument (args_of xs))
  all_args [] h = tt
  all_args (x ∷ xs) h = (x.1 (first_near _ _ h), all_args xs (second_near (outward_passed x.0) _ h))

  args_cost : (xs : List SA) → IsNear (deepest (map outward_passed (args_of xs)))
      → Costs (total (map size_passed (args_of xs))) 0 (all_coded (map of_argument (args_of xs)))
  args_cost xs h = all_cost _ _ (all_args xs h)

  all_components : (xs : List SK) → IsNear (deepest (map outward_component (components_of xs)))
      → AllCost (map size_component (components_of xs)) (map of_component (components_of xs))
  all_components [] h = tt
  all_components (x ∷ xs) h = (x.1 (first_near _ _ h), all_components xs (second_near (outward_component x.0) _ h))

  links_cost : (xs : List SL) → IsNear (deepest (map outward_link (links_of xs)))
      → Costs (total (map size_link (links_of xs))) 0 (chain_code (map of_link (links_of xs)))
  links_cost [] h = plain_costs short_end
  links_cost (x ∷ xs) h = both_cost (x.1 (first_near _ _ h)) (links_cost xs (second_near (outward_link x.0) _ h))

  two_alone : 2 + 0 ≤ 2
  two_alone = omega arith

  one_alone : 1 + 0 ≤ 1
  one_alone = omega arith

  argument_costs : (y : Argument-F SA SC SK SL SE SP)
      → IsNear (outward.argument_layer (typed.weights_argument (by_distance 0) (bare_argument y)))
      → Costs (sizes.argument_layer (typed.weights_argument by_size (bare_argument y))) 0
      (argument_layer (opened_argument (bare_argument y)))
  argument_costs (layer.Value t e) h = settles 1 refl (own (size_typed e.0))
      (then_setting (λ s. short_taken s.home.types t _ _) (e.1 h))
  argument_costs (layer.Place d) h = settles 1 refl (own (size_place d.0)) (then_plain (computes _ ▹ short_end) (d.1 h))
  argument_costs (layer.Array t d) h = settles 1 refl (own (size_place d.0))
      (then_setting (λ s. computes _ ▹ amount _ ▹ short_end) (d.1 h))
  argument_costs (layer.Open slot) h = settles 2 refl two_alone
      (setting_costs (λ s. plain_costs (short_both (short_open s slot h) (computes _ ▹ short_high s slot h))))
  argument_costs (layer.Text text) h = settles 1 refl one_alone
      (text_costs _ (λ at. plain_costs (short_both (short_text at) (computes _ ▹ amount _ ▹ short_end))))

  call_sum : (d a : ℕ) → 1 + (d + a) ≤ 1 + d + a
  call_sum d a = omega arith

  short_top : (s : Setting) → Short 6 (LocalGet (top_local s) ∷ [])
  short_top s = gets _ ▹ short_end

  call_costs : (y : Call-F SA SC SK SL SE SP)
      → IsNear (outward.call_layer (typed.weights_call (by_distance 0) (bare_call y)))
      → Costs (sizes.call_layer (typed.weights_call by_size (bare_call y))) 0
      (call_layer numbered (opened_call (bare_call y)))
  call_costs (layer.Module f args) h = settles 1 refl (own _)
      (setting_then short_top (then_setting (λ s. short_module_call numbered s.home f) (args_cost args h)))
  call_costs (layer.Nested f args) h =
      settles 1 refl (own _)
      (setting_then short_top (plain_then (short_link numbered f.up (first_near _ _ h))
      (then_setting (λ s. short_nested_call numbered s.home f) (args_cost args (second_near f.up _ h)))))
  call_costs (layer.Variable t d args) h =
      settles 1 refl (call_sum (size_place d.0) _)
      (both_cost (then_setting (λ s. short_loaded s.home.types t) (d.1 (first_near _ _ h)))
      (plain_then (short_checked (pos 1) (pos 4294967295) 7)
      (number_costs (λ n. plain_then (sets n ▹ short_end)
      (setting_then short_top (then_setting (λ s. short_value_call numbered s.home.types n t)
      (args_cost args (second_near (outward_place d.0) _ h))))))))

  component_costs : (y : Component-F SA SC SK SL SE SP)
      → IsNear (outward.component_layer (typed.weights_component (by_distance 0) (bare_component y)))
      → Costs (sizes.component_layer (typed.weights_component by_size (bare_component y))) 0
      (component_layer (opened_component (bare_component y)))
  component_costs (layer.Field t k) h = settles 1 refl one_alone (setting_costs (λ s. plain_costs (short_raised _)))
  component_costs (layer.Element t i) h =
      settles 1 refl (own (size_typed i.0)) (then_setting (λ s. short_element s.home.types t) (i.1 h))
  component_costs (layer.OpenElement slot t i) h =
      settles 1 refl (own (size_typed i.0)) (then_setting (λ s. short_open_element s slot t (first_near _ _ h))
      (i.1 (second_near slot.up _ h)))

  link_costs : (y : Link-F SA SC SK SL SE SP)
      → IsNear (outward.link_layer (typed.weights_link (by_distance 0) (bare_link y)))
      → Costs (sizes.link_layer (typed.weights_link by_size (bare_link y))) 0
      (link_layer (opened_link (bare_link y))).code
  link_costs (layer.Arithmetic o t b) h =
      settles 1 refl (own (size_typed b.0)) (then_setting (λ s. short_arithmetic s.home.types o t) (b.1 h))
  link_costs (layer.And b) h = settles 1 refl (own (size_typed b.0))
      (plain_then (computes _ ▹ short_end) (within_costs 15 1 (λ code. chosen_number code (I64Const 0 ∷ []) ∷ [])
      and_wraps (b.1 h)))
  link_costs (layer.Or b) h = settles 1 refl (own (size_typed b.0))
      (plain_then (computes _ ▹ short_end) (within_costs 15 1 (λ code. chosen_number (I64Const 1 ∷ []) code ∷ [])
      or_wraps (b.1 h)))
  link_costs (layer.Combine o b) h = settles 1 refl (own (size_typed b.0)) (then_plain (short_set o) (b.1 h))

  pair_sum : (n k : ℕ) → 1 + (n + k) ≤ 1 + n + k
  pair_sum n k = omega arith

  expr_costs : (y : TypedExpr-F SA SC SK SL SE SP)
      → IsNear (outward.expr_layer (typed.weights_expr (by_distance 0) (bare_expr y)))
      → Costs (sizes.expr_layer (typed.weights_expr by_size (bare_expr y))) 0
      (expr_layer (opened_expr (bare_expr y))).code
  expr_costs (layer.Constant t n) h = settles 1 refl one_alone (plain_costs (amount _ ▹ short_end))
  expr_costs (layer.Load t d) h = settles 1 refl (own (size_place d.0))
      (then_setting (λ s. short_loaded s.home.types t) (d.1 h))
  expr_costs (layer.Procedure f) h = settles 1 refl one_alone
      (setting_costs (λ s. plain_costs (short_procedure s.home f)))
  expr_costs (layer.Plus t e) h = settles 1 refl (own (size_typed e.0)) (e.1 h)
  expr_costs (layer.Negate e) h = settles 1 refl (own (size_typed e.0))
      (plain_then (amount 0 ▹ short_end) (then_setting (λ s. computes _ ▹ short_in_type s.home.types integer 2)
      (e.1 h)))
  expr_costs (layer.Chain e links) h = settles 1 refl (pair_sum (size_typed e.0) _)
      (both_cost (e.1 (first_near _ _ h)) (links_cost links (second_near (outward_typed e.0) _ h)))
  expr_costs (layer.Compare o a b) h = settles 1 refl (pair_sum (size_typed a.0) (size_typed b.0))
      (both_cost (a.1 (first_near _ _ h)) (then_plain (computes _ ▹ computes _ ▹ short_end)
      (b.1 (second_near (outward_typed a.0) _ h))))
  expr_costs (layer.Not e) h = settles 1 refl (own (size_typed e.0)) (then_plain short_empty (e.1 h))
  expr_costs (layer.Include o a b) h = settles 1 refl (pair_sum (size_typed a.0) (size_typed b.0))
      (include_costs o (a.1 (first_near _ _ h)) (b.1 (second_near (outward_typed a.0) _ h)))
  expr_costs (layer.In a b) h = settles 1 refl (pair_sum (size_typed a.0) (size_typed b.0))
      (in_costs (a.1 (first_near _ _ h)) (b.1 (second_near (outward_typed a.0) _ h)))
  expr_costs (layer.Abs t e) h = settles 1 refl (own (size_typed e.0))
      (abs_by (are_same t integer) absolute_code short_absolute (e.1 h))
  expr_costs (layer.Cap e) h = settles 1 refl (sum_alone (size_typed e.0))
      (both_cost (e.1 h) (number_costs (λ t. plain_costs (short_capital t)))) where
        sum_alone : (n : ℕ) → 1 + (n + 0) ≤ 1 + n
        sum_alone n = omega arith
  expr_costs (layer.Chr e) h = settles 1 refl (own (size_typed e.0))
      (then_plain (short_checked (pos 0) (pos 255) 1) (e.1 h))
  expr_costs (layer.Odd e) h = settles 1 refl (own (size_typed e.0))
      (then_plain (amount 1 ▹ computes _ ▹ short_end) (e.1 h))
  expr_costs (layer.Ord e) h = settles 1 refl (own (size_typed e.0))
      (then_setting (λ s. short_ord s.home.types (expr_part numbered e.0).of) (e.1 h))
  expr_costs (layer.Val t e) h = settles 1 refl (own (size_typed e.0))
      (then_setting (λ s. short_in_type s.home.types t 1) (e.1 h))
  expr_costs (layer.High slot) h = settles 1 refl one_alone (setting_costs (λ s. plain_costs (short_high s slot h)))
  expr_costs (layer.Call t c) h = settles 1 refl (own (size_call c.0)) (c.1 h)

  root_sum : (n : ℕ) → 1 + (0 + n) ≤ 1 + n
  root_sum n = omega arith

  place_costs : (y : Place-F SA SC SK SL SE SP)
      → IsNear (outward.place_layer (typed.weights_place (by_distance 0) (bare_place y)))
      → Costs (sizes.place_layer (typed.weights_place by_size (bare_place y))) 0
      (place_layer (opened_place (bare_place y)))
  place_costs y h = settles 1 refl (root_sum _)
      (both_cost (root_costs y.root (first_near _ _ h))
      (all_cost _ _ (all_components y.components (second_near (outward_root y.root) _ h))))

  step_argument : (x : Argument-F Argument Call Component Link TypedExpr Place) (y : Argument-F SA SC SK SL SE SP)
      → bare_argument y ≡ x → PA (roll-Argument x)
  step_argument x y q h =
      let e = out-roll-Argument x ∙ sym q in
      subst (λ (n : ℕ). Costs n 0 (of_argument (roll-Argument x)))
      (sym (typed.at_argument by_size (roll-Argument x) (bare_argument y) e))
      (subst (λ (z : Coded). Costs (sizes.argument_layer (typed.weights_argument by_size (bare_argument y))) 0 z)
      (sym (at_argument (roll-Argument x) (bare_argument y) e))
      (argument_costs y (subst IsNear (typed.at_argument (by_distance 0) (roll-Argument x) (bare_argument y) e) h)))

  step_call : (x : Call-F Argument Call Component Link TypedExpr Place) (y : Call-F SA SC SK SL SE SP) → bare_call y ≡ x
      → PC (roll-Call x)
  step_call x y q h =
      let e = out-roll-Call x ∙ sym q in
      subst (λ (n : ℕ). Costs n 0 (call_code numbered (roll-Call x)))
      (sym (typed.at_call by_size (roll-Call x) (bare_call y) e))
      (subst (λ (z : Coded). Costs (sizes.call_layer (typed.weights_call by_size (bare_call y))) 0 z)
      (sym (at_call (roll-Call x) (bare_call y) e))
      (call_costs y (subst IsNear (typed.at_call (by_distance 0) (roll-Call x) (bare_call y) e) h)))

  step_component : (x : Component-F Argument Call Component Link TypedExpr Place) (y : Component-F SA SC SK SL SE SP)
      → bare_component y ≡ x → PK (roll-Component x)
  step_component x y q h =
      let e = out-roll-Component x ∙ sym q in
      subst (λ (n : ℕ). Costs n 0 (of_component (roll-Component x)))
      (sym (typed.at_component by_size (roll-Component x) (bare_component y) e))
      (subst (λ (z : Coded). Costs (sizes.component_layer (typed.weights_component by_size (bare_component y))) 0 z)
      (sym (at_component (roll-Component x) (bare_component y) e))
      (component_costs y (subst IsNear (typed.at_component (by_distance 0) (roll-Component x) (bare_component y) e) h)))

  step_link : (x : Link-F Argument Call Component Link TypedExpr Place) (y : Link-F SA SC SK SL SE SP) → bare_link y ≡ x
      → PL (roll-Link x)
  step_link x y q h =
      let e = out-roll-Link x ∙ sym q in
      subst (λ (n : ℕ). Costs n 0 (of_link (roll-Link x)).code)
      (sym (typed.at_link by_size (roll-Link x) (bare_link y) e))
      (subst (λ (z : Linked). Costs (sizes.link_layer (typed.weights_link by_size (bare_link y))) 0 z.code)
      (sym (at_link (roll-Link x) (bare_link y) e))
      (link_costs y (subst IsNear (typed.at_link (by_distance 0) (roll-Link x) (bare_link y) e) h)))

  step_expr : (x : TypedExpr-F Argument Call Component Link TypedExpr Place) (y : TypedExpr-F SA SC SK SL SE SP)
      → bare_expr y ≡ x → PE (roll-TypedExpr x)
  step_expr x y q h =
      let e = out-roll-TypedExpr x ∙ sym q in
      subst (λ (n : ℕ). Costs n 0 (expr_part numbered (roll-TypedExpr x)).code)
      (sym (typed.at_expr by_size (roll-TypedExpr x) (bare_expr y) e))
      (subst (λ (z : Part). Costs (sizes.expr_layer (typed.weights_expr by_size (bare_expr y))) 0 z.code)
      (sym (at_expr (roll-TypedExpr x) (bare_expr y) e))
      (expr_costs y (subst IsNear (typed.at_expr (by_distance 0) (roll-TypedExpr x) (bare_expr y) e) h)))

  step_place : (x : Place-F Argument Call Component Link TypedExpr Place) (y : Place-F SA SC SK SL SE SP)
      → bare_place y ≡ x → PP (roll-Place x)
  step_place x y q h =
      let e = out-roll-Place x ∙ sym q in
      subst (λ (n : ℕ). Costs n 0 (place_code numbered (roll-Place x)))
      (sym (typed.at_place by_size (roll-Place x) (bare_place y) e))
      (subst (λ (z : Coded). Costs (sizes.place_layer (typed.weights_place by_size (bare_place y))) 0 z)
      (sym (at_place (roll-Place x) (bare_place y) e))
      (place_costs y (subst IsNear (typed.at_place (by_distance 0) (roll-Place x) (bare_place y) e) h)))

  pub expr_short : (e : TypedExpr) → PE e
  expr_short = ind-TypedExpr PA PC PK PL PE PP step_argument step_call step_component step_link step_expr step_place

  pub place_short : (e : Place) → PP e
  place_short = ind-Place PA PC PK PL PE PP step_argument step_call step_component step_link step_expr step_place

  pub call_short : (e : Call) → PC e
  call_short = ind-Call PA PC PK PL PE PP step_argument step_call step_component step_link step_expr step_place
