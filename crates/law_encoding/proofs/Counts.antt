-- The code of a typed tree takes no more locals than the tree counts.
use Rattle.std.proofs.Common.{map, ◌≡◌, ℕ, suc, ◌+◌, ◌≤◌, pos, Bool, true, false, List, [], ◌∷◌, sym, ap, subst, ◌∙◌, arith}
use Rattle.std.specs.Prelude.{if◌then◌else◌}
use Rattle.wasm_tree.specs.declared.instr.Instr.{Instr}
use Rattle.wasm_tree.specs.declared.instr.Instr.TheVariants.{LocalGet, LocalSet, I64Const}
use Rattle.wasm_tree.specs.declared.instr.Operation.TheVariants.{And, ShrU, Sub}
use Rattle.typed_tree.specs.declared.computed.Argument.{Argument, Argument-F, out-Argument, roll-Argument, out-roll-Argument, map-Argument, fold_out-Argument, fold-Argument}
use Rattle.typed_tree.specs.declared.computed.Argument.TheOpen as layer
use Rattle.typed_tree.specs.declared.computed.Call.{Call, Call-F, out-Call, roll-Call, out-roll-Call, map-Call, fold_out-Call}
use Rattle.typed_tree.specs.declared.computed.Component.{Component, Component-F, out-Component, roll-Component, out-roll-Component, map-Component, fold_out-Component, fold-Component}
use Rattle.typed_tree.specs.declared.computed.Inclusion.{Inclusion}
use Rattle.typed_tree.specs.declared.computed.Inclusion.TheVariants as inclusion
use Rattle.typed_tree.specs.declared.computed.Link.{Link, Link-F, out-Link, roll-Link, out-roll-Link, map-Link, fold_out-Link, fold-Link}
use Rattle.typed_tree.specs.declared.computed.Place.{Place, Place-F, out-Place, roll-Place, out-roll-Place, map-Place, fold_out-Place}
use Rattle.typed_tree.specs.declared.computed.Root.{Root}
use Rattle.typed_tree.specs.declared.computed.Root.TheVariants as root
use Rattle.typed_tree.specs.declared.computed.TypedExpr.{TypedExpr, TypedExpr-F, out-TypedExpr, roll-TypedExpr, out-roll-TypedExpr, map-TypedExpr, fold_out-TypedExpr, ind-TypedExpr}
use Rattle.typed_tree.specs.declared.computed.Place.{ind-Place}
use Rattle.typed_tree.specs.declared.computed.Call.{ind-Call}
use Rattle.typed_tree.specs.Types.{are_same, integer}
use Rattle.def_scheme.specs.Coded.{Coded, Setting, Counts, plain, ◌⨾◌, all_coded, within, with_address, with_number, with_text, with_setting, number_local, address_local, top_local, operation, wrap_word, check_code}
use Rattle.def_scheme.specs.Cells.{load_code, in_type}
use Rattle.def_scheme.specs.Exprs.{Part, Linked, Numbered, complement, empty_code, chosen_number, absolute_code, capital_code, link_code, module_call, nested_call, indirect, include_code, in_code, chain_code, root_layer, argument_layer, call_layer, component_layer, link_layer, expr_layer, place_layer, expr_part, place_code, call_code}
use Rattle.law_encoding.specs.Sizes.{total}
use Rattle.law_encoding.specs.TypedSizes.{size_typed, size_place, size_component, size_link, size_call, size_passed}
use Rattle.law_encoding.specs.TypedSizes as sizes
use Rattle.law_encoding.proofs.Ways.{by_size}
use Rattle.law_encoding.proofs.Weighed as typed

-- at most so many locals of each sort
pub record Grows (n : ℕ) (x : Coded) : Type 0 where
  pub numbers : (s : Setting) (c : Counts) → (x s c).1.numbers ≤ c.numbers + n
  pub addresses : (s : Setting) (c : Counts) → (x s c).1.addresses ≤ c.addresses + n

as_before : (a n : ℕ) → a ≤ a + n
as_before a n = omega arith

pub plain_grows : (n : ℕ) (code : List Instr) → Grows n (plain code)
plain_grows n code = record { numbers = λ s c. as_before c.numbers n; addresses = λ s c. as_before c.addresses n }

in_turn : (a b c n k : ℕ) → b ≤ a + n → c ≤ b + k → c ≤ a + (n + k)
in_turn a b c n k h l = omega (arith, h, l)

pub both_grow : (n k : ℕ) {x y : Coded} → Grows n x → Grows k y → Grows (n + k) (x ⨾ y)
both_grow n k {x = x} p q = record {
  numbers = λ s c. in_turn c.numbers (x s c).1.numbers _ n k (p.numbers s c) (q.numbers s (x s c).1);
  addresses = λ s c. in_turn c.addresses (x s c).1.addresses _ n k (p.addresses s c) (q.addresses s (x s c).1);
}

weaker : (a b n k : ℕ) → n ≤ k → b ≤ a + n → b ≤ a + k
weaker a b n k h l = omega (arith, h, l)

pub grows_more : (n k : ℕ) {x : Coded} → n ≤ k → Grows n x → Grows k x
grows_more n k l p = record {
  numbers = λ s c. weaker c.numbers _ n k l (p.numbers s c);
  addresses =
      λ s c. weaker c.addresses _ n k l (p.addresses s c);
}

pub within_grows : (n : ℕ) (labels : ℕ) (wrap : List Instr → List Instr) {x : Coded} → Grows n x
    → Grows n (within labels wrap x)
within_grows n labels wrap p = record {
  numbers = λ s c. p.numbers (record s { exit = s.exit + labels }) c;
  addresses = λ s c. p.addresses (record s { exit = s.exit + labels }) c;
}

pub setting_grows : (n : ℕ) {f : Setting → Coded} → ((s : Setting) → Grows n (f s)) → Grows n (with_setting f)
setting_grows n p = record { numbers = λ s c. (p s).numbers s c; addresses = λ s c. (p s).addresses s c }

next_local : (a b n : ℕ) → b ≤ suc a + n → b ≤ a + (1 + n)
next_local a b n l = omega (arith, l)

same_locals : (a b n : ℕ) → b ≤ a + n → b ≤ a + (1 + n)
same_locals a b n l = omega (arith, l)

pub number_grows : (n : ℕ) {f : ℕ → Coded} → ((t : ℕ) → Grows n (f t)) → Grows (1 + n) (with_number f)
number_grows n p = record {
  numbers = λ s c. next_local c.numbers _ n
      ((p (number_local s c.numbers)).numbers s (record c { numbers = suc c.numbers }));
  addresses = λ s c. same_locals c.addresses _ n
      ((p (number_local s c.numbers)).addresses s (record c { numbers = suc c.numbers }));
}

pub address_grows : (n : ℕ) {f : ℕ → Coded} → ((t : ℕ) → Grows n (f t)) → Grows (1 + n) (with_address f)
address_grows n p = record {
  numbers = λ s c. same_locals c.numbers _ n
      ((p (address_local s c.addresses)).numbers s (record c { addresses = suc c.addresses }));
  addresses = λ s c. next_local c.addresses _ n
      ((p (address_local s c.addresses)).addresses s (record c { addresses = suc c.addresses }));
}

pub text_grows : (n bytes : ℕ) {f : ℕ → Coded} → ((t : ℕ) → Grows n (f t)) → Grows n (with_text bytes f)
text_grows n bytes p = record {
  numbers = λ s c. (p c.texts).numbers s (record c { texts = c.texts + bytes });
  addresses = λ s c. (p c.texts).addresses s (record c { texts = c.texts + bytes });
}

abbrev pub AllGrow : List ℕ → List Coded → Type 0
AllGrow [] [] = Unit {0}
AllGrow (n ∷ ns) (x ∷ xs) = Grows n x × AllGrow ns xs
AllGrow [] (x ∷ xs) = ⊥
AllGrow (n ∷ ns) [] = ⊥

pub all_grow : (ns : List ℕ) (xs : List Coded) → AllGrow ns xs → Grows (total ns) (all_coded xs)
all_grow [] [] p = plain_grows 0 []
all_grow [] (x ∷ xs) p = absurd p
all_grow (n ∷ ns) [] p = absurd p
all_grow (n ∷ ns) (x ∷ xs) p = both_grow n (total ns) p.0 (all_grow ns xs p.1)

-- behind it comes code that takes no locals
nothing_more : (n : ℕ) → n + 0 ≤ n
nothing_more n = omega arith

pub then_plain : (n : ℕ) {x : Coded} (code : List Instr) → Grows n x → Grows n (x ⨾ plain code)
then_plain n code p = grows_more (n + 0) n (nothing_more n) (both_grow n 0 p (plain_grows 0 code))

pub then_setting : (n : ℕ) {x : Coded} (f : Setting → List Instr) → Grows n x
    → Grows n (x ⨾ with_setting (λ s. plain (f s)))
then_setting n f p = grows_more (n + 0) n (nothing_more n)
    (both_grow n 0 p (setting_grows 0 (λ s. plain_grows 0 (f s))))

pub plain_then : (n : ℕ) {x : Coded} (code : List Instr) → Grows n x → Grows n (plain code ⨾ x)
plain_then n code p = grows_more (0 + n) n (none_before n) (both_grow 0 n (plain_grows 0 code) p) where
  none_before : (k : ℕ) → 0 + k ≤ k
  none_before k = omega arith

pub setting_then : (n : ℕ) {x : Coded} (f : Setting → List Instr) → Grows n x
    → Grows n (with_setting (λ s. plain (f s)) ⨾ x)
setting_then n f p = grows_more (0 + n) n (none_before n) (both_grow 0 n (setting_grows 0 (λ s. plain_grows 0 (f s))) p)
  where
    none_before : (k : ℕ) → 0 + k ≤ k
    none_before k = omega arith

root_grows : (n : ℕ) (r : Root) → Grows n (root_layer r)
root_grows n (root.Global v) = setting_grows n (λ s. plain_grows n _)
root_grows n (root.Local slot) = setting_grows n (λ s. plain_grows n _)
root_grows n (root.Alias slot) = setting_grows n (λ s. plain_grows n _)
root_grows n (root.Open slot) = setting_grows n (λ s. plain_grows n _)
root_grows n (root.With k) = setting_grows n (λ s. plain_grows n _)

one_more : (n : ℕ) → n ≤ 1 + n
one_more n = omega arith

two_sum : (n k : ℕ) → n + k ≤ 1 + n + k
two_sum n k = omega arith

include_grows : (n k : ℕ) (o : Inclusion) {x y : Coded} → Grows n x → Grows k y → Grows (n + k) (include_code o x y)
include_grows n k inclusion.Within p q = both_grow n k p (then_plain k _ q)
include_grows n k inclusion.Around p q =
    both_grow n k p (plain_then k complement (then_plain k (operation And ∷ empty_code) q))

in_sum : (n k : ℕ) → n + (1 + k) ≤ 1 + n + k
in_sum n k = omega arith

in_grows : (n k : ℕ) {x y : Coded} → Grows n x → Grows k y → Grows (1 + n + k) (in_code x y)
in_grows n k p q = grows_more (n + (1 + k)) (1 + n + k) (in_sum n k)
    (both_grow n (1 + k) p (plain_then (1 + k) (check_code (pos 0) (pos 31) 1)
    (number_grows k (λ t. plain_then k (LocalSet t ∷ [])
    (then_plain k (LocalGet t ∷ operation ShrU ∷ I64Const 1 ∷ operation And ∷ []) q)))))

own_number : (n : ℕ) → n + (1 + 0) ≤ 1 + n
own_number n = omega arith

abs_by : (b : Bool) (n : ℕ) {x : Coded} (f : ℕ → List Instr) → Grows n x
    → Grows (1 + n) (if b then x ⨾ with_number (λ t. plain (f t)) else x)
abs_by true n f p = grows_more (n + (1 + 0)) (1 + n) (own_number n)
    (both_grow n (1 + 0) p (number_grows 0 (λ t. plain_grows 0 (f t))))
abs_by false n f p = grows_more n (1 + n) (one_more n) p

-- ---- trees

module _ (numbered : Numbered) where
  abbrev of_argument : Argument → Coded
  of_argument = fold-Argument Coded Coded Coded Linked Part Coded argument_layer (call_layer numbered) component_layer
      link_layer expr_layer place_layer

  abbrev of_component : Component → Coded
  of_component = fold-Component Coded Coded Coded Linked Part Coded argument_layer (call_layer numbered) component_layer
      link_layer expr_layer place_layer

  abbrev of_link : Link → Linked
  of_link = fold-Link Coded Coded Coded Linked Part Coded argument_layer (call_layer numbered) component_layer
      link_layer expr_layer place_layer

  abbrev opened_argument : Argument-F Argument Call Component Link TypedExpr Place
      → Argument-F Coded Coded Coded Linked Part Coded
  opened_argument x = map-Argument Argument Call Component Link TypedExpr Place Coded Coded Coded Linked Part Coded
      of_argument (call_code numbered) of_component of_link (expr_part numbered) (place_code numbered) x

  at_argument : (e : Argument) (x : Argument-F Argument Call Component Link TypedExpr Place) → out-Argument e ≡ x
      → of_argument e ≡ argument_layer (opened_argument x)
  unfolding expr_part place_code call_code
  at_argument e x h = fold_out-Argument Coded Coded Coded Linked Part Coded argument_layer (call_layer numbered)
      component_layer link_layer expr_layer place_layer e
      ∙ ap (λ (y : Argument-F Argument Call Component Link TypedExpr Place). argument_layer (opened_argument y)) h

  abbrev opened_call : Call-F Argument Call Component Link TypedExpr Place → Call-F Coded Coded Coded Linked Part Coded
  opened_call x = map-Call Argument Call Component Link TypedExpr Place Coded Coded Coded Linked Part Coded of_argument
      (call_code numbered) of_component of_link (expr_part numbered) (place_code numbered) x

  at_call : (e : Call) (x : Call-F Argument Call Component Link TypedExpr Place) → out-Call e ≡ x
      → call_code numbered e ≡ call_layer numbered (opened_call x)
  unfolding expr_part place_code call_code
  at_call e x h = fold_out-Call Coded Coded Coded Linked Part Coded argument_layer (call_layer numbered) component_layer
      link_layer expr_layer place_layer e ∙ ap
      (λ (y : Call-F Argument Call Component Link TypedExpr Place). call_layer numbered (opened_call y)) h

  abbrev opened_component : Component-F Argument Call Component Link TypedExpr Place
      → Component-F Coded Coded Coded Linked Part Coded
  opened_component x = map-Component Argument Call Component Link TypedExpr Place Coded Coded Coded Linked Part Coded
      of_argument (call_code numbered) of_component of_link (expr_part numbered) (place_code numbered) x

  at_component : (e : Component) (x : Component-F Argument Call Component Link TypedExpr Place) → out-Component e ≡ x
      → of_component e ≡ component_layer (opened_component x)
  unfolding expr_part place_code call_code
  at_component e x h = fold_out-Component Coded Coded Coded Linked Part Coded argument_layer (call_layer numbered)
      component_layer link_layer expr_layer place_layer e
      ∙ ap (λ (y : Component-F Argument Call Component Link TypedExpr Place). component_layer (opened_component y)) h

  abbrev opened_link : Link-F Argument Call Component Link TypedExpr Place → Link-F Coded Coded Coded Linked Part Coded
  opened_link x = map-Link Argument Call Component Link TypedExpr Place Coded Coded Coded Linked Part Coded of_argument
      (call_code numbered) of_component of_link (expr_part numbered) (place_code numbered) x

  at_link : (e : Link) (x : Link-F Argument Call Component Link TypedExpr Place) → out-Link e ≡ x
      → of_link e ≡ link_layer (opened_link x)
  unfolding expr_part place_code call_code
  at_link e x h = fold_out-Link Coded Coded Coded Linked Part Coded argument_layer (call_layer numbered) component_layer
      link_layer expr_layer place_layer e ∙ ap
      (λ (y : Link-F Argument Call Component Link TypedExpr Place). link_layer (opened_link y)) h

  abbrev opened_expr : TypedExpr-F Argument Call Component Link TypedExpr Place
      → TypedExpr-F Coded Coded Coded Linked Part Coded
  opened_expr x = map-TypedExpr Argument Call Component Link TypedExpr Place Coded Coded Coded Linked Part Coded
      of_argument (call_code numbered) of_component of_link (expr_part numbered) (place_code numbered) x

  at_expr : (e : TypedExpr) (x : TypedExpr-F Argument Call Component Link TypedExpr Place) → out-TypedExpr e ≡ x
      → expr_part numbered e ≡ expr_layer (opened_expr x)
  unfolding expr_part place_code call_code
  at_expr e x h = fold_out-TypedExpr Coded Coded Coded Linked Part Coded argument_layer (call_layer numbered)
      component_layer link_layer expr_layer place_layer e
      ∙ ap (λ (y : TypedExpr-F Argument Call Component Link TypedExpr Place). expr_layer (opened_expr y)) h

  abbrev opened_place : Place-F Argument Call Component Link TypedExpr Place
      → Place-F Coded Coded Coded Linked Part Coded
  opened_place x = map-Place Argument Call Component Link TypedExpr Place Coded Coded Coded Linked Part Coded
      of_argument (call_code numbered) of_component of_link (expr_part numbered) (place_code numbered) x

  at_place : (e : Place) (x : Place-F Argument Call Component Link TypedExpr Place) → out-Place e ≡ x
      → place_code numbered e ≡ place_layer (opened_place x)
  unfolding expr_part place_code call_code
  at_place e x h = fold_out-Place Coded Coded Coded Linked Part Coded argument_layer (call_layer numbered)
      component_layer link_layer expr_layer place_layer e
      ∙ ap (λ (y : Place-F Argument Call Component Link TypedExpr Place). place_layer (opened_place y)) h

  abbrev PA : Argument → Type 0
  PA e = Grows (size_passed e) (of_argument e)

  abbrev PC : Call → Type 0
  PC e = Grows (size_call e) (call_code numbered e)

  abbrev PK : Component → Type 0
  PK e = Grows (size_component e) (of_component e)

  abbrev PL : Link → Type 0
  PL e = Grows (size_link e) (of_link e).code

  abbrev PE : TypedExpr → Type 0
  PE e = Grows (size_typed e) (expr_part numbered e).code

  abbrev PP : Place → Type 0
  PP e = Grows (size_place e) (place_code numbered e)

  abbrev SA : Type 0
  SA = (e : Argument) × PA e

  abbrev SC : Type 0
  SC = (e : Call) × PC e

  abbrev SK : Type 0
  SK = (e : Component) × PK e

  abbrev SL : Type 0
  SL = (e : Link) × PL e

  abbrev SE : Type 0
  SE = (e : TypedExpr) × PE e

  abbrev SP : Type 0
  SP = (e : Place) × PP e

  abbrev bare_argument : Argument-F SA SC SK SL SE SP → Argument-F Argument Call Component Link TypedExpr Place
  bare_argument x = map-Argument SA SC SK SL SE SP Argument Call Component Link TypedExpr Place (λ e. e.0) (λ e. e.0)
      (λ e. e.0) (λ e. e.0) (λ e. e.0) (λ e. e.0) x

  abbrev bare_call : Call-F SA SC SK SL SE SP → Call-F Argument Call Component Link TypedExpr Place
  bare_call x = map-Call SA SC SK SL SE SP Argument Call Component Link TypedExpr Place (λ e. e.0) (λ e. e.0) (λ e. e.0)
      (λ e. e.0) (λ e. e.0) (λ e. e.0) x

  abbrev bare_component : Component-F SA SC SK SL SE SP → Component-F Argument Call Component Link TypedExpr Place
  bare_component x = map-Component SA SC SK SL SE SP Argument Call Component Link TypedExpr Place (λ e. e.0) (λ e. e.0)
      (λ e. e.0) (λ e. e.0) (λ e. e.0) (λ e. e.0) x

  abbrev bare_link : Link-F SA SC SK SL SE SP → Link-F Argument Call Component Link TypedExpr Place
  bare_link x = map-Link SA SC SK SL SE SP Argument Call Component Link TypedExpr Place (λ e. e.0) (λ e. e.0) (λ e. e.0)
      (λ e. e.0) (λ e. e.0) (λ e. e.0) x

  abbrev bare_expr : TypedExpr-F SA SC SK SL SE SP → TypedExpr-F Argument Call Component Link TypedExpr Place
  bare_expr x = map-TypedExpr SA SC SK SL SE SP Argument Call Component Link TypedExpr Place (λ e. e.0) (λ e. e.0)
      (λ e. e.0) (λ e. e.0) (λ e. e.0) (λ e. e.0) x

  abbrev bare_place : Place-F SA SC SK SL SE SP → Place-F Argument Call Component Link TypedExpr Place
  bare_place x = map-Place SA SC SK SL SE SP Argument Call Component Link TypedExpr Place (λ e. e.0) (λ e. e.0)
      (λ e. e.0) (λ e. e.0) (λ e. e.0) (λ e. e.0) x

  all_args : (xs : List SA) → AllGrow (map size_passed (map (λ (e : SA). e.0) xs))
      (map of_argument (map (λ (e : SA). e.0) xs))
  all_args [] = tt
  all_args (x ∷ xs) = (x.1, all_args xs)

  args_grow : (xs : List SA) → Grows (total (map size_passed (map (λ (e : SA). e.0) xs)))
      (all_coded (map of_argument (map (λ (e : SA). e.0) xs)))
  args_grow xs = all_grow _ _ (all_args xs)

  all_components : (xs : List SK) → AllGrow (map size_component (map (λ (e : SK). e.0) xs))
      (map of_component (map (λ (e : SK). e.0) xs))
  all_components [] = tt
  all_components (x ∷ xs) = (x.1, all_components xs)

  links_grow : (xs : List SL) → Grows (total (map size_link (map (λ (e : SL). e.0) xs)))
      (chain_code (map of_link (map (λ (e : SL). e.0) xs)))
  links_grow [] = plain_grows 0 []
  links_grow (x ∷ xs) = both_grow (size_link x.0) _ x.1 (links_grow xs)

  two : (n : ℕ) → 1 ≤ 2 + n
  two n = omega arith

  argument_grows : (y : Argument-F SA SC SK SL SE SP)
      → Grows (sizes.argument_layer (typed.weights_argument by_size (bare_argument y)))
      (argument_layer (opened_argument (bare_argument y)))
  argument_grows (layer.Value t e) = grows_more (size_typed e.0) _ (one_more _) (then_setting (size_typed e.0) _ e.1)
  argument_grows (layer.Place d) = grows_more (size_place d.0) _ (one_more _) (then_plain (size_place d.0) _ d.1)
  argument_grows (layer.Array t d) = grows_more (size_place d.0) _ (one_more _) (then_setting (size_place d.0) _ d.1)
  argument_grows (layer.Open slot) = setting_grows 2 (λ s. plain_grows 2 _)
  argument_grows (layer.Text text) = text_grows 1 _ (λ at. plain_grows 1 _)

  call_sum : (d a : ℕ) → d + (1 + a) ≤ 1 + d + a
  call_sum d a = omega arith

  abbrev top : Setting → List Instr
  top s = LocalGet (top_local s) ∷ []

  call_grows : (y : Call-F SA SC SK SL SE SP)
      → Grows (sizes.call_layer (typed.weights_call by_size (bare_call y)))
      (call_layer numbered (opened_call (bare_call y)))
  call_grows (layer.Module f args) = grows_more _ _ (one_more _)
      (setting_then _ top (then_setting _ (λ s. module_call numbered s.home f) (args_grow args)))
  call_grows (layer.Nested f args) = grows_more _ _ (one_more _)
      (setting_then _ top (plain_then _ (link_code numbered f.up)
      (then_setting _ (λ s. nested_call numbered s.home f) (args_grow args))))
  call_grows (layer.Variable t d args) =
      grows_more (size_place d.0 + (1 + total (map size_passed (map (λ (e : SA). e.0) args)))) _
      (call_sum (size_place d.0) _)
      (both_grow (size_place d.0) (1 + total (map size_passed (map (λ (e : SA). e.0) args)))
      (then_setting (size_place d.0) (λ s. load_code s.home.types t) d.1)
      (plain_then _ (check_code (pos 1) (pos 4294967295) 7)
      (number_grows (total (map size_passed (map (λ (e : SA). e.0) args)))
      (λ n. plain_then _ (LocalSet n ∷ []) (setting_then _ top
      (then_setting _ (λ s. LocalGet n ∷ wrap_word ∷ indirect numbered s.home.types t ∷ []) (args_grow args)))))))

  component_grows : (y : Component-F SA SC SK SL SE SP)
      → Grows (sizes.component_layer (typed.weights_component by_size (bare_component y)))
      (component_layer (opened_component (bare_component y)))
  component_grows (layer.Field t k) = setting_grows 1 (λ s. plain_grows 1 _)
  component_grows (layer.Element t i) = grows_more (size_typed i.0) _ (one_more _) (then_setting (size_typed i.0) _ i.1)
  component_grows (layer.OpenElement slot t i) =
      grows_more (size_typed i.0) _ (one_more _) (then_setting (size_typed i.0) _ i.1)

  link_grows : (y : Link-F SA SC SK SL SE SP)
      → Grows (sizes.link_layer (typed.weights_link by_size (bare_link y)))
      (link_layer (opened_link (bare_link y))).code
  link_grows (layer.Arithmetic o t b) = grows_more (size_typed b.0) _ (one_more _) (then_setting (size_typed b.0) _ b.1)
  link_grows (layer.And b) =
      grows_more (size_typed b.0) _ (one_more _)
      (plain_then (size_typed b.0) (wrap_word ∷ [])
      (within_grows (size_typed b.0) 1 (λ code. chosen_number code (I64Const 0 ∷ []) ∷ []) b.1))
  link_grows (layer.Or b) =
      grows_more (size_typed b.0) _ (one_more _)
      (plain_then (size_typed b.0) (wrap_word ∷ [])
      (within_grows (size_typed b.0) 1 (λ code. chosen_number (I64Const 1 ∷ []) code ∷ []) b.1))
  link_grows (layer.Combine o b) = grows_more (size_typed b.0) _ (one_more _) (then_plain (size_typed b.0) _ b.1)

  pair_sum : (n k : ℕ) → n + k ≤ 1 + n + k
  pair_sum n k = omega arith

  expr_grows : (y : TypedExpr-F SA SC SK SL SE SP)
      → Grows (sizes.expr_layer (typed.weights_expr by_size (bare_expr y)))
      (expr_layer (opened_expr (bare_expr y))).code
  expr_grows (layer.Constant t n) = plain_grows 1 _
  expr_grows (layer.Load t d) = grows_more (size_place d.0) _ (one_more _) (then_setting (size_place d.0) _ d.1)
  expr_grows (layer.Procedure f) = setting_grows 1 (λ s. plain_grows 1 _)
  expr_grows (layer.Plus t e) = grows_more (size_typed e.0) _ (one_more _) e.1
  expr_grows (layer.Negate e) = grows_more (size_typed e.0) _ (one_more _)
      (plain_then (size_typed e.0) (I64Const 0 ∷ [])
      (then_setting (size_typed e.0) (λ s. operation Sub ∷ in_type s.home.types integer 2) e.1))
  expr_grows (layer.Chain e links) = grows_more _ _ (pair_sum (size_typed e.0) _)
      (both_grow (size_typed e.0) _ e.1 (links_grow links))
  expr_grows (layer.Compare o a b) = grows_more _ _ (pair_sum (size_typed a.0) (size_typed b.0))
      (both_grow (size_typed a.0) (size_typed b.0) a.1 (then_plain (size_typed b.0) _ b.1))
  expr_grows (layer.Not e) = grows_more (size_typed e.0) _ (one_more _) (then_plain (size_typed e.0) _ e.1)
  expr_grows (layer.Include o a b) = grows_more _ _ (pair_sum (size_typed a.0) (size_typed b.0))
      (include_grows (size_typed a.0) (size_typed b.0) o a.1 b.1)
  expr_grows (layer.In a b) = in_grows (size_typed a.0) (size_typed b.0) a.1 b.1
  expr_grows (layer.Abs t e) = abs_by (are_same t integer) (size_typed e.0) absolute_code e.1
  expr_grows (layer.Cap e) = abs_by true (size_typed e.0) capital_code e.1
  expr_grows (layer.Chr e) = grows_more (size_typed e.0) _ (one_more _) (then_plain (size_typed e.0) _ e.1)
  expr_grows (layer.Odd e) = grows_more (size_typed e.0) _ (one_more _) (then_plain (size_typed e.0) _ e.1)
  expr_grows (layer.Ord e) = grows_more (size_typed e.0) _ (one_more _) (then_setting (size_typed e.0) _ e.1)
  expr_grows (layer.Val t e) = grows_more (size_typed e.0) _ (one_more _) (then_setting (size_typed e.0) _ e.1)
  expr_grows (layer.High slot) = setting_grows 1 (λ s. plain_grows 1 _)
  expr_grows (layer.Call t c) = grows_more (size_call c.0) _ (one_more _) c.1

  root_sum : (n : ℕ) → 0 + n ≤ 1 + n
  root_sum n = omega arith

  place_grows : (y : Place-F SA SC SK SL SE SP)
      → Grows (sizes.place_layer (typed.weights_place by_size (bare_place y)))
      (place_layer (opened_place (bare_place y)))
  place_grows y = grows_more _ _ (root_sum _)
      (both_grow 0 _ (root_grows 0 y.root) (all_grow _ _ (all_components y.components)))

  step_argument : (x : Argument-F Argument Call Component Link TypedExpr Place) (y : Argument-F SA SC SK SL SE SP)
      → bare_argument y ≡ x → PA (roll-Argument x)
  step_argument x y q =
      let e = out-roll-Argument x ∙ sym q in
      subst (λ (n : ℕ). Grows n (of_argument (roll-Argument x)))
      (sym (typed.at_argument by_size (roll-Argument x) (bare_argument y) e))
      (subst (Grows (sizes.argument_layer (typed.weights_argument by_size (bare_argument y))))
      (sym (at_argument (roll-Argument x) (bare_argument y) e)) (argument_grows y))

  step_call : (x : Call-F Argument Call Component Link TypedExpr Place) (y : Call-F SA SC SK SL SE SP) → bare_call y ≡ x
      → PC (roll-Call x)
  step_call x y q =
      let e = out-roll-Call x ∙ sym q in
      subst (λ (n : ℕ). Grows n (call_code numbered (roll-Call x)))
      (sym (typed.at_call by_size (roll-Call x) (bare_call y) e))
      (subst (Grows (sizes.call_layer (typed.weights_call by_size (bare_call y))))
      (sym (at_call (roll-Call x) (bare_call y) e)) (call_grows y))

  step_component : (x : Component-F Argument Call Component Link TypedExpr Place) (y : Component-F SA SC SK SL SE SP)
      → bare_component y ≡ x → PK (roll-Component x)
  step_component x y q =
      let e = out-roll-Component x ∙ sym q in
      subst (λ (n : ℕ). Grows n (of_component (roll-Component x)))
      (sym (typed.at_component by_size (roll-Component x) (bare_component y) e))
      (subst (Grows (sizes.component_layer (typed.weights_component by_size (bare_component y))))
      (sym (at_component (roll-Component x) (bare_component y) e)) (component_grows y))

  step_link : (x : Link-F Argument Call Component Link TypedExpr Place) (y : Link-F SA SC SK SL SE SP) → bare_link y ≡ x
      → PL (roll-Link x)
  step_link x y q =
      let e = out-roll-Link x ∙ sym q in
      subst (λ (n : ℕ). Grows n (of_link (roll-Link x)).code)
      (sym (typed.at_link by_size (roll-Link x) (bare_link y) e))
      (subst (λ (z : Linked). Grows (sizes.link_layer (typed.weights_link by_size (bare_link y))) z.code)
      (sym (at_link (roll-Link x) (bare_link y) e)) (link_grows y))

  step_expr : (x : TypedExpr-F Argument Call Component Link TypedExpr Place) (y : TypedExpr-F SA SC SK SL SE SP)
      → bare_expr y ≡ x → PE (roll-TypedExpr x)
  step_expr x y q =
      let e = out-roll-TypedExpr x ∙ sym q in
      subst (λ (n : ℕ). Grows n (expr_part numbered (roll-TypedExpr x)).code)
      (sym (typed.at_expr by_size (roll-TypedExpr x) (bare_expr y) e))
      (subst (λ (z : Part). Grows (sizes.expr_layer (typed.weights_expr by_size (bare_expr y))) z.code)
      (sym (at_expr (roll-TypedExpr x) (bare_expr y) e)) (expr_grows y))

  step_place : (x : Place-F Argument Call Component Link TypedExpr Place) (y : Place-F SA SC SK SL SE SP)
      → bare_place y ≡ x → PP (roll-Place x)
  step_place x y q =
      let e = out-roll-Place x ∙ sym q in
      subst (λ (n : ℕ). Grows n (place_code numbered (roll-Place x)))
      (sym (typed.at_place by_size (roll-Place x) (bare_place y) e))
      (subst (Grows (sizes.place_layer (typed.weights_place by_size (bare_place y))))
      (sym (at_place (roll-Place x) (bare_place y) e)) (place_grows y))

  pub expr_counts : (e : TypedExpr) → PE e
  expr_counts = ind-TypedExpr PA PC PK PL PE PP step_argument step_call step_component step_link step_expr step_place

  pub place_counts : (e : Place) → PP e
  place_counts = ind-Place PA PC PK PL PE PP step_argument step_call step_component step_link step_expr step_place

  pub call_counts : (e : Call) → PC e
  call_counts = ind-Call PA PC PK PL PE PP step_argument step_call step_component step_link step_expr step_place
