-- What a tree asks for where it stands: its texts, and the types of its calls through the table.
use Rattle.std.specs.Prelude.{◌≡◌, ℕ, ◌+◌, ◌<◌, ◌≤◌, true, List, [], ◌∷◌, length, get_or}
use Rattle.typed_tree.specs.declared.computed.Argument.{Argument, fold-Argument}
use Rattle.typed_tree.specs.declared.computed.Call.{Call}
use Rattle.typed_tree.specs.declared.computed.Component.{Component, fold-Component}
use Rattle.typed_tree.specs.declared.computed.Link.{Link, fold-Link}
use Rattle.typed_tree.specs.declared.computed.Place.{Place}
use Rattle.typed_tree.specs.declared.computed.TypedExpr.{TypedExpr}
use Rattle.typed_tree.specs.declared.typed_module.TypedModule.{TypedModule}
use Rattle.layout_storage.specs.Texts.{Texts, texts_of, texts_at, texts_called, texts_linked, texts_behind, texts_passed}
use Rattle.def_scheme.specs.Signatures.{Signatures, signatures_needed, is_among, of_expr, of_place, of_call, argument_layer, call_layer, component_layer, link_layer, expr_layer, place_layer}
use Rattle.law_simulation.specs.TreesTyped.{Context}

-- ---- the types of calls through the table, in the parts that have no name in the scheme

module _ (m : TypedModule) where
  unfoldable pub of_link : Link → Signatures
  of_link =
      fold-Link Signatures Signatures Signatures Signatures Signatures Signatures (argument_layer m)
      (call_layer m) (component_layer m) (link_layer m) (expr_layer m) (place_layer m)

  unfoldable pub of_component : Component → Signatures
  of_component =
      fold-Component Signatures Signatures Signatures Signatures Signatures Signatures
      (argument_layer m) (call_layer m) (component_layer m) (link_layer m) (expr_layer m)
      (place_layer m)

  unfoldable pub of_argument : Argument → Signatures
  of_argument =
      fold-Argument Signatures Signatures Signatures Signatures Signatures Signatures
      (argument_layer m) (call_layer m) (component_layer m) (link_layer m) (expr_layer m)
      (place_layer m)

-- ---- what is asked for

pub record Wanted : Type 0 where
  pub texts : Texts
  pub signatures : Signatures

module _ (m : TypedModule) where
  abbrev pub wanted_of : TypedExpr → Wanted
  wanted_of e = record { texts = texts_of e; signatures = of_expr m e }

  abbrev pub wanted_at : Place → Wanted
  wanted_at d = record { texts = texts_at d; signatures = of_place m d }

  abbrev pub wanted_called : Call → Wanted
  wanted_called c = record { texts = texts_called c; signatures = of_call m c }

  abbrev pub wanted_linked : Link → Wanted
  wanted_linked l = record { texts = texts_linked l; signatures = of_link m l }

  abbrev pub wanted_behind : Component → Wanted
  wanted_behind c = record { texts = texts_behind c; signatures = of_component m c }

  abbrev pub wanted_passed : Argument → Wanted
  wanted_passed a = record { texts = texts_passed a; signatures = of_argument m a }

-- the text stands there among the characters of the module
pub record TextStands (x : Context) (at : ℕ) (text : List ℕ) : Type 0 where
  pub fits : at + length text ≤ length x.characters
  pub same : (j : ℕ) → j < length text → get_or x.characters (at + j) 0 ≡ get_or text j 0

-- the texts stand behind one another from there on
abbrev pub TextsStand : Context → (at : ℕ) → Texts → Type 0
TextsStand x at [] = Unit {0}
TextsStand x at (t ∷ ts) = TextStands x at t × TextsStand x (at + length t) ts

-- the module has the types of all these calls
abbrev pub AreNeeded : Context → Signatures → Type 0
AreNeeded x [] = Unit {0}
AreNeeded x (s ∷ ss) = (is_among (signatures_needed x.home) s ≡ true) × AreNeeded x ss

-- what a tree asks for is there, with its texts from an offset on
pub record Has (x : Context) (at : ℕ) (w : Wanted) : Type 0 where
  pub texts : TextsStand x at w.texts
  pub signatures : AreNeeded x w.signatures
