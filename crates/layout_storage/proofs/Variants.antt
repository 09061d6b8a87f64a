-- How many characters the texts of each variant of an expression have, from those of its parts.
use Rattle.std.proofs.Common.{◌≡◌, ℕ, ℤ, ◌+◌, List, [], ◌∷◌, ◌++◌, map, length, ap, sym, ◌∙◌, arith, add_assoc, add-zero}
use Rattle.std.specs.List.{fold}
use Rattle.typed_tree.specs.declared.types.TypeNo.{TypeNo}
use Rattle.typed_tree.specs.declared.meaning.Procedure.{Procedure}
use Rattle.typed_tree.specs.declared.computed.Slot.{Slot}
use Rattle.typed_tree.specs.declared.computed.LocalProcedure.{LocalProcedure}
use Rattle.typed_tree.specs.declared.computed.Arithmetic.{Arithmetic}
use Rattle.typed_tree.specs.declared.computed.Comparison.{Comparison}
use Rattle.typed_tree.specs.declared.computed.SetOperator.{SetOperator}
use Rattle.typed_tree.specs.declared.computed.Inclusion.{Inclusion}
use Rattle.typed_tree.specs.declared.computed.TypedExpr.{TypedExpr, TypedExpr-F, out-TypedExpr, map-TypedExpr, fold_out-TypedExpr}
use Rattle.typed_tree.specs.declared.computed.TypedExpr.TheVariants as ev
use Rattle.typed_tree.specs.declared.computed.Component.{Component, Component-F, out-Component, map-Component, fold_out-Component}
use Rattle.typed_tree.specs.declared.computed.Component.TheVariants as kv
use Rattle.typed_tree.specs.declared.computed.Link.{Link, Link-F, out-Link, map-Link, fold_out-Link}
use Rattle.typed_tree.specs.declared.computed.Link.TheVariants as lv
use Rattle.typed_tree.specs.declared.computed.Place.{Place, fold_out-Place}
use Rattle.typed_tree.specs.declared.computed.Call.{Call, Call-F, out-Call, map-Call, fold_out-Call}
use Rattle.typed_tree.specs.declared.computed.Call.TheVariants as cv
use Rattle.typed_tree.specs.declared.computed.Argument.{Argument, Argument-F, out-Argument, map-Argument, fold_out-Argument}
use Rattle.typed_tree.specs.declared.computed.Argument.TheOpen as layer
use Rattle.typed_tree.specs.declared.computed.Argument.TheVariants as xv
use Rattle.layout_storage.specs.Capped.{cap_size}
use Rattle.layout_storage.specs.Texts.{Texts, concatenation, argument_text, characters, argument_texts, call_texts, component_texts, link_texts, place_texts, expr_texts, texts_of, texts_at, texts_called, texts_passed, texts_behind, texts_linked}
use Rattle.layout_storage.specs.Counted.{character_count, with_argument, with_component, with_link}
use Rattle.layout_storage.proofs.Capping.{sum_both, from_nought}

-- ---- lists of texts

pub split : (a b : Texts) → characters (a ++ b) ≡ characters a + characters b
split [] b = omega arith
split (t ∷ ts) b = ap (λ (n : ℕ). length t + n) (split ts b) ∙ sym (add_assoc (length t) (characters ts) (characters b))

pub both : (a b : Texts) → character_count (a ++ b) ≡ cap_size (character_count a + character_count b)
both a b = ap cap_size (split a b) ∙ sym (sum_both (characters a) (characters b))

pub one_text : (t : List ℕ) → character_count (t ∷ []) ≡ cap_size (length t)
one_text t = ap cap_size (add-zero (length t))

-- one after another
pub walk : {A : Type 0} (f : A → Texts) (n : ℕ) (xs : List A)
    → fold (λ n x. cap_size (n + character_count (f x))) (cap_size n) xs
    ≡ cap_size (n + characters (concatenation (map f xs)))
walk f n [] = ap cap_size (sym (add-zero n))
walk f n (x ∷ xs) =
    ap (λ (k : ℕ). fold (λ n x. cap_size (n + character_count (f x))) k xs) (sum_both n (characters (f x)))
    ∙ walk f (n + characters (f x)) xs
    ∙ ap cap_size (add_assoc n (characters (f x)) (characters (concatenation (map f xs)))
    ∙ ap (λ (k : ℕ). n + k) (sym (split (f x) (concatenation (map f xs)))))

pub walked : {A : Type 0} (f : A → Texts) (xs : List A)
    → fold (λ n x. cap_size (n + character_count (f x))) 0 xs ≡ character_count (concatenation (map f xs))
walked f xs = walk f 0 xs ∙ from_nought (characters (concatenation (map f xs)))

arguments : (xs : List Argument) → character_count (concatenation (map texts_passed xs)) ≡ fold with_argument 0 xs
arguments xs = sym (walked texts_passed xs)

components : (xs : List Component) → character_count (concatenation (map texts_behind xs)) ≡ fold with_component 0 xs
components xs = sym (walked texts_behind xs)

links : (xs : List Link) → character_count (concatenation (map texts_linked xs)) ≡ fold with_link 0 xs
links xs = sym (walked texts_linked xs)

-- ---- one layer

abbrev opened_expr : TypedExpr-F Argument Call Component Link TypedExpr Place
    → TypedExpr-F Texts Texts Texts Texts Texts Texts
opened_expr x = map-TypedExpr Argument Call Component Link TypedExpr Place Texts Texts Texts Texts Texts Texts
    texts_passed texts_called texts_behind texts_linked texts_of texts_at x

at_expr : (e : TypedExpr) (x : TypedExpr-F Argument Call Component Link TypedExpr Place) → out-TypedExpr e ≡ x
    → texts_of e ≡ expr_texts (opened_expr x)
unfolding texts_of texts_at texts_called texts_passed texts_behind texts_linked
at_expr e x h = fold_out-TypedExpr Texts Texts Texts Texts Texts Texts argument_texts call_texts component_texts
    link_texts expr_texts place_texts e ∙ ap
    (λ (y : TypedExpr-F Argument Call Component Link TypedExpr Place). expr_texts (opened_expr y)) h

abbrev opened_component : Component-F Argument Call Component Link TypedExpr Place
    → Component-F Texts Texts Texts Texts Texts Texts
opened_component x = map-Component Argument Call Component Link TypedExpr Place Texts Texts Texts Texts Texts Texts
    texts_passed texts_called texts_behind texts_linked texts_of texts_at x

at_component : (e : Component) (x : Component-F Argument Call Component Link TypedExpr Place) → out-Component e ≡ x
    → texts_behind e ≡ component_texts (opened_component x)
unfolding texts_of texts_at texts_called texts_passed texts_behind texts_linked
at_component e x h = fold_out-Component Texts Texts Texts Texts Texts Texts argument_texts call_texts component_texts
    link_texts expr_texts place_texts e ∙ ap
    (λ (y : Component-F Argument Call Component Link TypedExpr Place). component_texts (opened_component y)) h

abbrev opened_link : Link-F Argument Call Component Link TypedExpr Place → Link-F Texts Texts Texts Texts Texts Texts
opened_link x = map-Link Argument Call Component Link TypedExpr Place Texts Texts Texts Texts Texts Texts texts_passed
    texts_called texts_behind texts_linked texts_of texts_at x

at_link : (e : Link) (x : Link-F Argument Call Component Link TypedExpr Place) → out-Link e ≡ x
    → texts_linked e ≡ link_texts (opened_link x)
unfolding texts_of texts_at texts_called texts_passed texts_behind texts_linked
at_link e x h = fold_out-Link Texts Texts Texts Texts Texts Texts argument_texts call_texts component_texts link_texts
    expr_texts place_texts e ∙ ap (λ (y : Link-F Argument Call Component Link TypedExpr Place). link_texts
    (opened_link y)) h

abbrev opened_call : Call-F Argument Call Component Link TypedExpr Place → Call-F Texts Texts Texts Texts Texts Texts
opened_call x = map-Call Argument Call Component Link TypedExpr Place Texts Texts Texts Texts Texts Texts texts_passed
    texts_called texts_behind texts_linked texts_of texts_at x

at_call : (e : Call) (x : Call-F Argument Call Component Link TypedExpr Place) → out-Call e ≡ x
    → texts_called e ≡ call_texts (opened_call x)
unfolding texts_of texts_at texts_called texts_passed texts_behind texts_linked
at_call e x h = fold_out-Call Texts Texts Texts Texts Texts Texts argument_texts call_texts component_texts link_texts
    expr_texts place_texts e ∙ ap (λ (y : Call-F Argument Call Component Link TypedExpr Place). call_texts
    (opened_call y)) h

abbrev opened_argument : Argument-F Argument Call Component Link TypedExpr Place
    → Argument-F Texts Texts Texts Texts Texts Texts
opened_argument x = map-Argument Argument Call Component Link TypedExpr Place Texts Texts Texts Texts Texts Texts
    texts_passed texts_called texts_behind texts_linked texts_of texts_at x

at_argument : (e : Argument) (x : Argument-F Argument Call Component Link TypedExpr Place) → out-Argument e ≡ x
    → texts_passed e ≡ argument_texts (opened_argument x)
unfolding texts_of texts_at texts_called texts_passed texts_behind texts_linked
at_argument e x h = fold_out-Argument Texts Texts Texts Texts Texts Texts argument_texts call_texts component_texts
    link_texts expr_texts place_texts e ∙ ap
    (λ (y : Argument-F Argument Call Component Link TypedExpr Place). argument_texts (opened_argument y)) h

-- ---- variants

pub expr_Constant : (t : TypeNo) (n : ℤ) → character_count (texts_of (ev.Constant t n)) ≡ 0
expr_Constant t n = ap character_count (at_expr (ev.Constant t n) (layer.Constant t n) (ev.outs-Constant t n))

pub expr_Load : (t : TypeNo) (d : Place) → character_count (texts_of (ev.Load t d)) ≡ character_count (texts_at d)
expr_Load t d = ap character_count (at_expr (ev.Load t d) (layer.Load t d) (ev.outs-Load t d))

pub expr_Procedure : (f : Procedure) → character_count (texts_of (ev.Procedure f)) ≡ 0
expr_Procedure f = ap character_count (at_expr (ev.Procedure f) (layer.Procedure f) (ev.outs-Procedure f))

pub expr_Plus : (t : TypeNo) (e : TypedExpr) → character_count (texts_of (ev.Plus t e)) ≡ character_count (texts_of e)
expr_Plus t e = ap character_count (at_expr (ev.Plus t e) (layer.Plus t e) (ev.outs-Plus t e))

pub expr_Negate : (e : TypedExpr) → character_count (texts_of (ev.Negate e)) ≡ character_count (texts_of e)
expr_Negate e = ap character_count (at_expr (ev.Negate e) (layer.Negate e) (ev.outs-Negate e))

pub expr_Chain : (e : TypedExpr) (ls : List Link)
    → character_count (texts_of (ev.Chain e ls)) ≡ cap_size (character_count (texts_of e) + fold with_link 0 ls)
expr_Chain e ls = ap character_count (at_expr (ev.Chain e ls) (layer.Chain e ls) (ev.outs-Chain e ls))
    ∙ both (texts_of e) (concatenation (map texts_linked ls))
    ∙ ap (λ (k : ℕ). cap_size (character_count (texts_of e) + k)) (links ls)

pub expr_Compare : (o : Comparison) (a b : TypedExpr)
    → character_count (texts_of (ev.Compare o a b))
    ≡ cap_size (character_count (texts_of a) + character_count (texts_of b))
expr_Compare o a b = ap character_count (at_expr (ev.Compare o a b) (layer.Compare o a b) (ev.outs-Compare o a b))
    ∙ both (texts_of a) (texts_of b)

pub expr_Not : (e : TypedExpr) → character_count (texts_of (ev.Not e)) ≡ character_count (texts_of e)
expr_Not e = ap character_count (at_expr (ev.Not e) (layer.Not e) (ev.outs-Not e))

pub expr_Include : (o : Inclusion) (a b : TypedExpr)
    → character_count (texts_of (ev.Include o a b))
    ≡ cap_size (character_count (texts_of a) + character_count (texts_of b))
expr_Include o a b = ap character_count (at_expr (ev.Include o a b) (layer.Include o a b) (ev.outs-Include o a b))
    ∙ both (texts_of a) (texts_of b)

pub expr_In : (a b : TypedExpr) → character_count (texts_of (ev.In a b))
    ≡ cap_size (character_count (texts_of a) + character_count (texts_of b))
expr_In a b = ap character_count (at_expr (ev.In a b) (layer.In a b) (ev.outs-In a b)) ∙ both (texts_of a) (texts_of b)

pub expr_Abs : (t : TypeNo) (e : TypedExpr) → character_count (texts_of (ev.Abs t e)) ≡ character_count (texts_of e)
expr_Abs t e = ap character_count (at_expr (ev.Abs t e) (layer.Abs t e) (ev.outs-Abs t e))

pub expr_Cap : (e : TypedExpr) → character_count (texts_of (ev.Cap e)) ≡ character_count (texts_of e)
expr_Cap e = ap character_count (at_expr (ev.Cap e) (layer.Cap e) (ev.outs-Cap e))

pub expr_Chr : (e : TypedExpr) → character_count (texts_of (ev.Chr e)) ≡ character_count (texts_of e)
expr_Chr e = ap character_count (at_expr (ev.Chr e) (layer.Chr e) (ev.outs-Chr e))

pub expr_Odd : (e : TypedExpr) → character_count (texts_of (ev.Odd e)) ≡ character_count (texts_of e)
expr_Odd e = ap character_count (at_expr (ev.Odd e) (layer.Odd e) (ev.outs-Odd e))

pub expr_Ord : (e : TypedExpr) → character_count (texts_of (ev.Ord e)) ≡ character_count (texts_of e)
expr_Ord e = ap character_count (at_expr (ev.Ord e) (layer.Ord e) (ev.outs-Ord e))

pub expr_Val : (t : TypeNo) (e : TypedExpr) → character_count (texts_of (ev.Val t e)) ≡ character_count (texts_of e)
expr_Val t e = ap character_count (at_expr (ev.Val t e) (layer.Val t e) (ev.outs-Val t e))

pub expr_High : (s : Slot) → character_count (texts_of (ev.High s)) ≡ 0
expr_High s = ap character_count (at_expr (ev.High s) (layer.High s) (ev.outs-High s))

pub expr_Call : (t : TypeNo) (c : Call) → character_count (texts_of (ev.Call t c)) ≡ character_count (texts_called c)
expr_Call t c = ap character_count (at_expr (ev.Call t c) (layer.Call t c) (ev.outs-Call t c))

pub place_is : (d : Place) → character_count (texts_at d) ≡ fold with_component 0 d.components
unfolding texts_of texts_at texts_called texts_passed texts_behind texts_linked
place_is d = ap character_count (fold_out-Place Texts Texts Texts Texts Texts Texts argument_texts call_texts
    component_texts link_texts expr_texts place_texts d) ∙ components d.components

pub component_Field : (t : TypeNo) (k : ℕ) → character_count (texts_behind (kv.Field t k)) ≡ 0
component_Field t k = ap character_count (at_component (kv.Field t k) (layer.Field t k) (kv.outs-Field t k))

pub component_Element : (t : TypeNo) (i : TypedExpr)
    → character_count (texts_behind (kv.Element t i)) ≡ character_count (texts_of i)
component_Element t i = ap character_count (at_component (kv.Element t i) (layer.Element t i) (kv.outs-Element t i))

pub component_OpenElement : (s : Slot) (t : TypeNo) (i : TypedExpr)
    → character_count (texts_behind (kv.OpenElement s t i)) ≡ character_count (texts_of i)
component_OpenElement s t i = ap character_count
    (at_component (kv.OpenElement s t i) (layer.OpenElement s t i) (kv.outs-OpenElement s t i))

pub link_Arithmetic : (o : Arithmetic) (t : TypeNo) (e : TypedExpr)
    → character_count (texts_linked (lv.Arithmetic o t e)) ≡ character_count (texts_of e)
link_Arithmetic o t e = ap character_count
    (at_link (lv.Arithmetic o t e) (layer.Arithmetic o t e) (lv.outs-Arithmetic o t e))

pub link_And : (e : TypedExpr) → character_count (texts_linked (lv.And e)) ≡ character_count (texts_of e)
link_And e = ap character_count (at_link (lv.And e) (layer.And e) (lv.outs-And e))

pub link_Or : (e : TypedExpr) → character_count (texts_linked (lv.Or e)) ≡ character_count (texts_of e)
link_Or e = ap character_count (at_link (lv.Or e) (layer.Or e) (lv.outs-Or e))

pub link_Combine : (o : SetOperator) (e : TypedExpr)
    → character_count (texts_linked (lv.Combine o e)) ≡ character_count (texts_of e)
link_Combine o e = ap character_count (at_link (lv.Combine o e) (layer.Combine o e) (lv.outs-Combine o e))

pub call_Module : (f : Procedure) (xs : List Argument)
    → character_count (texts_called (cv.Module f xs)) ≡ fold with_argument 0 xs
call_Module f xs = ap character_count (at_call (cv.Module f xs) (layer.Module f xs) (cv.outs-Module f xs))
    ∙ arguments xs

pub call_Nested : (f : LocalProcedure) (xs : List Argument)
    → character_count (texts_called (cv.Nested f xs)) ≡ fold with_argument 0 xs
call_Nested f xs = ap character_count (at_call (cv.Nested f xs) (layer.Nested f xs) (cv.outs-Nested f xs))
    ∙ arguments xs

pub call_Variable : (t : TypeNo) (d : Place) (xs : List Argument)
    → character_count (texts_called (cv.Variable t d xs))
    ≡ cap_size (character_count (texts_at d) + fold with_argument 0 xs)
call_Variable t d xs = ap character_count
    (at_call (cv.Variable t d xs) (layer.Variable t d xs) (cv.outs-Variable t d xs))
    ∙ both (texts_at d) (concatenation (map texts_passed xs))
    ∙ ap (λ (k : ℕ). cap_size (character_count (texts_at d) + k)) (arguments xs)

pub argument_Value : (t : TypeNo) (e : TypedExpr)
    → character_count (texts_passed (xv.Value t e)) ≡ character_count (texts_of e)
argument_Value t e = ap character_count (at_argument (xv.Value t e) (layer.Value t e) (xv.outs-Value t e))

pub argument_Place : (d : Place) → character_count (texts_passed (xv.Place d)) ≡ character_count (texts_at d)
argument_Place d = ap character_count (at_argument (xv.Place d) (layer.Place d) (xv.outs-Place d))

pub argument_Array : (t : TypeNo) (d : Place)
    → character_count (texts_passed (xv.Array t d)) ≡ character_count (texts_at d)
argument_Array t d = ap character_count (at_argument (xv.Array t d) (layer.Array t d) (xv.outs-Array t d))

pub argument_Open : (s : Slot) → character_count (texts_passed (xv.Open s)) ≡ 0
argument_Open s = ap character_count (at_argument (xv.Open s) (layer.Open s) (xv.outs-Open s))

pub argument_Text : (text : List ℕ) → character_count (texts_passed (xv.Text text))
    ≡ cap_size (length (argument_text text))
argument_Text text = ap character_count (at_argument (xv.Text text) (layer.Text text) (xv.outs-Text text))
    ∙ one_text (argument_text text)

-- all of these
pub ruleset variants = (
  expr_Constant,
  expr_Load,
  expr_Procedure,
  expr_Plus,
  expr_Negate,
  expr_Chain,
  expr_Compare,
  expr_Not,
  expr_Include,
  expr_In,
  expr_Abs,
  expr_Cap,
  expr_Chr,
  expr_Odd,
  expr_Ord,
  expr_Val,
  expr_High,
  expr_Call,
  place_is,
  component_Field,
  component_Element,
  component_OpenElement,
  link_Arithmetic,
  link_And,
  link_Or,
  link_Combine,
  call_Module,
  call_Nested,
  call_Variable,
  argument_Value,
  argument_Place,
  argument_Array,
  argument_Open,
  argument_Text,
)
