-- The code of expressions and variables has no numbers of modules.
use Rattle.std.proofs.Common.{map, ◌≡◌, ℕ, pos, Bool, true, false, List, [], ◌∷◌, ◌++◌, refl, sym, ap, ◌∙◌}
use Rattle.std.proofs.Math.Path.{fun_ext}
use Rattle.std.specs.Prelude.{if◌then◌else◌}
use Rattle.wasm_tree.specs.declared.instr.Instr.{Instr}
use Rattle.wasm_tree.specs.declared.instr.Instr.TheVariants.{I64Const, LocalGet, LocalSet, Call as Calls}
use Rattle.wasm_tree.specs.declared.instr.Operation.TheVariants.{Sub}
use Rattle.typed_tree.specs.declared.computed.Argument.{Argument-F, map-Argument}
use Rattle.typed_tree.specs.declared.computed.Call.{Call, Call-F, map-Call}
use Rattle.typed_tree.specs.declared.computed.Component.{Component-F, map-Component}
use Rattle.typed_tree.specs.declared.computed.Link.{Link-F, map-Link}
use Rattle.typed_tree.specs.declared.computed.TypedExpr.{TypedExpr, TypedExpr-F, map-TypedExpr}
use Rattle.typed_tree.specs.declared.computed.Place.{Place, Place-F, map-Place}
use Rattle.typed_tree.specs.declared.computed.Argument.TheOpen as layer
use Rattle.typed_tree.specs.declared.computed.Inclusion.{Inclusion}
use Rattle.typed_tree.specs.declared.computed.Inclusion.TheVariants as inclusion
use Rattle.typed_tree.specs.declared.computed.Root.{Root}
use Rattle.typed_tree.specs.declared.computed.Root.TheVariants as root
use Rattle.typed_tree.specs.declared.types.TypeNo.{TypeNo}
use Rattle.typed_tree.specs.declared.known_types.Types.{Types}
use Rattle.typed_tree.specs.Types.{are_same, boolean, cardinal, integer}
use Rattle.layout_storage.specs.Types.{Ty}
use Rattle.layout_storage.specs.Sizes.{size, offset}
use Rattle.layout_storage.specs.Shapes.{tree}
use Rattle.def_meaning.specs.Answer.{empty_procedure, overflow, range_fault}
use Rattle.def_scheme.specs.Coded.{Coded, Counts, Setting, plain, ◌⨾◌, all_coded, with_number, with_setting, check, check_code, extend_word, wrap_word, number, operation, raise_address}
use Rattle.def_scheme.specs.Cells.{load_code, in_type, check_taken}
use Rattle.def_scheme.specs.Exprs.{Numbered, Part, part_of, Linked, link_of, behind, include_code, chain_type, chain_code, loaded_from, absolute_code, abs_code, arithmetic_code, ord_check, element_code, open_element_code, high_code, scale_index, high_index, procedure_code, global_code, top_code, link_code, module_call, nested_call, value_call, indirect, root_layer, argument_layer, call_layer, component_layer, link_layer, expr_layer, place_layer, expr_part, place_code, call_code}
use Rattle.def_exchange.specs.Moved.{Exchange, turned, moved_type, moved_types, moved_variable, moved_procedure}
use Rattle.def_exchange.specs.MovedTrees.{moved_root, moved_called, moved_module, argument_moved, call_moved, component_moved, link_moved, expr_moved, place_moved, moved_expr, moved_place, moved_call}
use Rattle.law_exchange_code.proofs.Lists.{two_paths}
use Rattle.law_exchange_code.proofs.Lookups.{same_type}
use Rattle.law_exchange_code.proofs.Shaped.{tree_kept}
use Rattle.law_exchange_code.proofs.Fusion.{Layers, Passes, passed_expr, passed_place, passed_call}
use Rattle.law_exchange_code.proofs.Pieces.{back_type, load_kept, in_type_kept, taken_back, arithmetic_kept, ord_kept, element_kept, high_kept, global_kept, procedure_kept, indirect_kept, module_call_kept, nested_call_kept}

module _ (x : Exchange) where
  -- ---- code, where the module has other numbers

  abbrev pub moved_setting : Setting → Setting
  moved_setting s = record {
    home = moved_module x s.home;
    frames = s.frames;
    arguments = s.arguments;
    addresses = s.addresses;
    exit = s.exit;
    withs = s.withs;
  }

  abbrev pub seen : Coded → Coded
  seen f s c = f (moved_setting s) c

  abbrev pub seen_part : Part → Part
  seen_part p = record { of = moved_type (turned x) p.of; constant = p.constant; code = seen p.code }

  abbrev pub seen_link : Linked → Linked
  seen_link l = record { of = moved_type (turned x) l.of; code = seen l.code }

  pub same_coded : (f g : Coded) → ((s : Setting) (c : Counts) → f s c ≡ g s c) → f ≡ g
  same_coded f g e = fun_ext (λ s. fun_ext (λ c. e s c))

  pub setting_seen : (f g : Setting → List Instr) → ((s : Setting) → f s ≡ g (moved_setting s))
      → with_setting (λ s. plain (f s)) ≡ seen (with_setting (λ s. plain (g s)))
  setting_seen f g e = same_coded (with_setting (λ s. plain (f s))) (seen (with_setting (λ s. plain (g s))))
      (λ s c. ap (λ (code : List Instr). (code, c)) (e s))

  pub behind_seen : (d : Coded) (f g : Types → List Instr) → ((ts : Types) → f ts ≡ g (moved_types x ts))
      → behind (seen d) f ≡ seen (behind d g)
  behind_seen d f g e = ap (λ z. seen d ⨾ z)
      (setting_seen (λ s. f s.home.types) (λ s. g s.home.types) (λ s. e s.home.types))

  pub all_seen : (xs : List Coded) → all_coded (map seen xs) ≡ seen (all_coded xs)
  all_seen [] = refl
  all_seen (y ∷ ys) = ap (λ (z : Coded). seen y ⨾ z) (all_seen ys)

  -- ---- parts

  part_seen : (t u : TypeNo) (f g : Coded) → u ≡ moved_type (turned x) t → f ≡ seen g
      → part_of u f ≡ seen_part (part_of t g)
  part_seen t u f g p q = two_paths part_of p q

  link_seen : (t u : TypeNo) (f g : Coded) → u ≡ moved_type (turned x) t → f ≡ seen g
      → link_of u f ≡ seen_link (link_of t g)
  link_seen t u f g p q = two_paths link_of p q

  back : (t : TypeNo) → t ≡ moved_type (turned x) (moved_type x t)
  back t = sym (back_type x t)

  pub loaded_seen : (d : Coded) (t : TypeNo) → loaded_from (seen d) t ≡ seen (loaded_from d (moved_type x t))
  loaded_seen d t = behind_seen d (λ ts. load_code ts t) (λ ts. load_code ts (moved_type x t))
      (λ ts. sym (load_kept x ts t))

  abs_case : (b : Bool) (f : Coded) → (if b then seen f ⨾ with_number (λ n. plain (absolute_code n)) else seen f)
      ≡ seen (if b then f ⨾ with_number (λ n. plain (absolute_code n)) else f)
  abs_case true f = refl
  abs_case false f = refl

  abs_seen : (t : TypeNo) (f : Coded) → abs_code t (seen f) ≡ seen (abs_code (moved_type x t) f)
  abs_seen t f =
      abs_case (are_same t integer) f
      ∙ ap (λ (b : Bool). seen (if b then f ⨾ with_number (λ n. plain (absolute_code n)) else f))
      (sym (same_type x t integer))

  chain_type_seen : (t : TypeNo) (ls : List Linked)
      → chain_type (moved_type (turned x) t) (map seen_link ls) ≡ moved_type (turned x) (chain_type t ls)
  chain_type_seen t [] = refl
  chain_type_seen t (l ∷ ls) = chain_type_seen l.of ls

  chain_code_seen : (ls : List Linked) → chain_code (map seen_link ls) ≡ seen (chain_code ls)
  chain_code_seen [] = refl
  chain_code_seen (l ∷ ls) = ap (λ (z : Coded). seen l.code ⨾ z) (chain_code_seen ls)

  include_seen : (o : Inclusion) (a b : Coded)
      → part_of boolean (include_code o (seen a) (seen b)) ≡ seen_part (part_of boolean (include_code o a b))
  include_seen inclusion.Within a b = refl
  include_seen inclusion.Around a b = refl

  -- ---- layers

  on_link : (y : Link-F Coded Coded Coded Linked Part Coded)
      → link_layer (map-Link Coded Coded Coded Linked Part Coded Coded Coded Coded Linked Part Coded (seen) (seen)
      (seen) (seen_link) (seen_part) (seen) y) ≡ seen_link (link_layer (link_moved x y))
  on_link (layer.Arithmetic o t b) = link_seen (moved_type x t) t _
      (behind b.code (λ ts. arithmetic_code ts o (moved_type x t))) (back t)
      (behind_seen b.code (λ ts. arithmetic_code ts o t) (λ ts. arithmetic_code ts o (moved_type x t))
      (λ ts. sym (arithmetic_kept x ts o t)))
  on_link (layer.And b) = refl
  on_link (layer.Or b) = refl
  on_link (layer.Combine o b) = refl

  abbrev constant_part : Coded → TypeNo → Part
  constant_part code u = record { of = u; constant = true; code = code }

  on_expr : (y : TypedExpr-F Coded Coded Coded Linked Part Coded)
      → expr_layer (map-TypedExpr Coded Coded Coded Linked Part Coded Coded Coded Coded Linked Part Coded (seen) (seen)
      (seen) (seen_link) (seen_part) (seen) y) ≡ seen_part (expr_layer (expr_moved x y))
  on_expr (layer.Constant t n) = ap (constant_part (plain (number n ∷ []))) (back t)
  on_expr (layer.Load t d) = part_seen (moved_type x t) t _ (loaded_from d (moved_type x t)) (back t) (loaded_seen d t)
  on_expr (layer.Procedure f) = part_seen (moved_type x f.heading) f.heading _
      (with_setting (λ s. plain (procedure_code s.home (moved_procedure x f)))) (back f.heading)
      (setting_seen (λ s. procedure_code s.home f) (λ s. procedure_code s.home (moved_procedure x f))
      (λ s. sym (procedure_kept x s.home f)))
  on_expr (layer.Plus t e) = part_seen (moved_type x t) t _ e.code (back t) refl
  on_expr (layer.Negate e) =
      ap (λ (z : Coded). part_of integer (plain (I64Const 0 ∷ []) ⨾ z))
      (behind_seen e.code (λ ts. operation Sub ∷ in_type ts integer overflow)
      (λ ts. operation Sub ∷ in_type ts integer overflow)
      (λ ts. ap (λ (code : List Instr). operation Sub ∷ code) (sym (in_type_kept x ts integer overflow))))
  on_expr (layer.Chain e links) =
      two_paths (λ (u : TypeNo) (z : Coded). part_of u (seen e.code ⨾ z)) (chain_type_seen e.of links)
      (chain_code_seen links)
  on_expr (layer.Compare o a b) = refl
  on_expr (layer.Not e) = refl
  on_expr (layer.Include o a b) = include_seen o a.code b.code
  on_expr (layer.In a b) = refl
  on_expr (layer.Abs t e) = part_seen (moved_type x t) t _ (abs_code (moved_type x t) e.code) (back t)
      (abs_seen t e.code)
  on_expr (layer.Cap e) = refl
  on_expr (layer.Chr e) = refl
  on_expr (layer.Odd e) = refl
  on_expr (layer.Ord e) = ap (part_of cardinal)
      (behind_seen e.code (λ ts. ord_check ts (moved_type (turned x) e.of)) (λ ts. ord_check ts e.of)
      (λ ts. ord_kept x ts e.of))
  on_expr (layer.Val t e) = part_seen (moved_type x t) t _
      (behind e.code (λ ts. in_type ts (moved_type x t) range_fault)) (back t)
      (behind_seen e.code (λ ts. in_type ts t range_fault) (λ ts. in_type ts (moved_type x t) range_fault)
      (λ ts. sym (in_type_kept x ts t range_fault)))
  on_expr (layer.High slot) = refl
  on_expr (layer.Call t c) = part_seen (moved_type x t) t _ c (back t) refl

  root_seen : (r : Root) → root_layer r ≡ seen (root_layer (moved_root x r))
  root_seen (root.Global v) = setting_seen (λ s. global_code s.home v) (λ s. global_code s.home (moved_variable x v))
      (λ s. sym (global_kept x s.home v))
  root_seen (root.Local s) = refl
  root_seen (root.Alias s) = refl
  root_seen (root.Open s) = refl
  root_seen (root.With k) = refl

  on_component : (y : Component-F Coded Coded Coded Linked Part Coded)
      → component_layer (map-Component Coded Coded Coded Linked Part Coded Coded Coded Coded Linked Part Coded (seen)
      (seen) (seen) (seen_link) (seen_part) (seen) y) ≡ seen (component_layer (component_moved x y))
  on_component (layer.Field t k) = setting_seen (λ s. raise_address (offset (tree s.home.types t) (k ∷ [])))
      (λ s. raise_address (offset (tree s.home.types (moved_type x t)) (k ∷ [])))
      (λ s. ap (λ (u : Ty). raise_address (offset u (k ∷ []))) (sym (tree_kept x s.home.types t)))
  on_component (layer.Element t i) = behind_seen i.code (λ ts. element_code ts t)
      (λ ts. element_code ts (moved_type x t)) (λ ts. sym (element_kept x ts t))
  on_component (layer.OpenElement slot t i) = ap (λ (z : Coded). seen i.code ⨾ z)
      (setting_seen (λ s. open_element_code s slot t) (λ s. open_element_code s slot (moved_type x t))
      (λ s. ap (λ (u : Ty). I64Const 0 ∷ (high_code s slot ++ (I64Const 3 ∷ Calls check ∷ scale_index (size u))))
      (sym (tree_kept x s.home.types t))))

  on_place : (y : Place-F Coded Coded Coded Linked Part Coded)
      → place_layer (map-Place Coded Coded Coded Linked Part Coded Coded Coded Coded Linked Part Coded (seen) (seen)
      (seen) (seen_link) (seen_part) (seen) y) ≡ seen (place_layer (place_moved x y))
  on_place d = two_paths (λ (a b : Coded). a ⨾ b) (root_seen d.root) (all_seen d.components)

  pub taken_seen : (t : TypeNo) (e : Part)
      → behind (seen e.code) (λ ts. check_taken ts t e.constant (moved_type (turned x) e.of))
      ≡ seen (behind e.code (λ ts. check_taken ts (moved_type x t) e.constant e.of))
  taken_seen t e = behind_seen e.code (λ ts. check_taken ts t e.constant (moved_type (turned x) e.of))
      (λ ts. check_taken ts (moved_type x t) e.constant e.of) (λ ts. taken_back x ts t e.constant e.of)

  on_argument : (y : Argument-F Coded Coded Coded Linked Part Coded)
      → argument_layer (map-Argument Coded Coded Coded Linked Part Coded Coded Coded Coded Linked Part Coded (seen)
      (seen) (seen) (seen_link) (seen_part) (seen) y) ≡ seen (argument_layer (argument_moved x y))
  on_argument (layer.Value t e) = taken_seen t e
  on_argument (layer.Place d) = refl
  on_argument (layer.Array t d) = behind_seen d (λ ts. extend_word ∷ I64Const (high_index ts t) ∷ [])
      (λ ts. extend_word ∷ I64Const (high_index ts (moved_type x t)) ∷ [])
      (λ ts. ap (λ (n : ℕ). extend_word ∷ I64Const n ∷ []) (sym (high_kept x ts t)))
  on_argument (layer.Open slot) = refl
  on_argument (layer.Text text) = refl

module _ (x : Exchange) (numbered : Numbered) where
  value_call_seen : (n : ℕ) (t : TypeNo) → value_call numbered n t ≡ seen x (value_call numbered n (moved_type x t))
  value_call_seen n t = setting_seen x (λ s. LocalGet n ∷ wrap_word ∷ indirect numbered s.home.types t ∷ [])
      (λ s. LocalGet n ∷ wrap_word ∷ indirect numbered s.home.types (moved_type x t) ∷ [])
      (λ s. ap (λ (i : Instr). LocalGet n ∷ wrap_word ∷ i ∷ []) (sym (indirect_kept x numbered s.home.types t)))

  abbrev value_called : Coded → Coded → (ℕ → Coded) → Coded
  value_called loaded args called =
      loaded ⨾ plain (check_code (pos 1) (pos 4294967295) empty_procedure)
      ⨾ with_number (λ n. plain (LocalSet n ∷ []) ⨾ top_code ⨾ args ⨾ called n)

  on_call : (y : Call-F Coded Coded Coded Linked Part Coded)
      → call_layer numbered (map-Call Coded Coded Coded Linked Part Coded Coded Coded Coded Linked Part Coded (seen x)
      (seen x) (seen x) (seen_link x) (seen_part x) (seen x) y) ≡ seen x (call_layer numbered (call_moved x y))
  on_call (layer.Module f args) = two_paths (λ (a b : Coded). top_code ⨾ a ⨾ b) (all_seen x args)
      (setting_seen x (λ s. module_call numbered s.home f) (λ s. module_call numbered s.home (moved_procedure x f))
      (λ s. sym (module_call_kept x numbered s.home f)))
  on_call (layer.Nested f args) = two_paths (λ (a b : Coded). top_code ⨾ plain (link_code numbered f.up) ⨾ a ⨾ b)
      (all_seen x args)
      (setting_seen x (λ s. nested_call numbered s.home f) (λ s. nested_call numbered s.home (moved_called x f))
      (λ s. sym (nested_call_kept x numbered s.home f)))
  on_call (layer.Variable t d args) =
      two_paths (λ (a b : Coded). value_called a b (λ n. value_call numbered n t)) (loaded_seen x d t) (all_seen x args)
      ∙ ap (λ (v : ℕ → Coded). value_called (seen x (loaded_from d (moved_type x t))) (seen x (all_coded args)) v)
      (fun_ext (λ n. value_call_seen n t))

  abbrev layers : Layers Coded Coded Coded Linked Part Coded
  layers = record {
    argument = argument_layer;
    call = call_layer numbered;
    component = component_layer;
    link = link_layer;
    expr = expr_layer;
    place = place_layer;
  }

  abbrev pass : Passes x layers layers
  pass = record {
    ha = seen x;
    hc = seen x;
    hk = seen x;
    hl = seen_link x;
    he = seen_part x;
    hp = seen x;
    argument = on_argument x;
    call = on_call;
    component = on_component x;
    link = on_link x;
    expr = on_expr x;
    place = on_place x;
  }

  pub expr_kept : (e : TypedExpr) → expr_part numbered e ≡ seen_part x (expr_part numbered (moved_expr x e))
  unfolding expr_part
  expr_kept e = passed_expr x layers layers pass e

  pub place_kept : (d : Place) → place_code numbered d ≡ seen x (place_code numbered (moved_place x d))
  unfolding place_code
  place_kept d = passed_place x layers layers pass d

  pub call_kept : (c : Call) → call_code numbered c ≡ seen x (call_code numbered (moved_call x c))
  unfolding call_code
  call_kept c = passed_call x layers layers pass c
