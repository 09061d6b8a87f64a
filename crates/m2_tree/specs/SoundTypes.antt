-- The tests of types.
use Rattle.std.proofs.Common.{◌≡◌, Bool, true, false, ◌&&◌, sym, ap, subst, ◌∙◌}
use Rattle.std.specs.Cmp.{first_so, second_so, booleans_Decides}
use Rattle.std.specs.Cmp.Lexicographic.{pointwise}
use Rattle.std.specs.Option.{option_eq}
use Rattle.std.specs.contracts.prelude.BoolPartialEq.TheImpl as BoolEq
use mathlib.Core.List.{map}
use denote.Hole.Carrier.{Values}
use denote.Hole.Compared.{compared, compared_is}
use denote.Enum.Compared.{Each, by}
use Rattle.m2_tree.specs.declared.expr.Qualified.{Qualified}
use Rattle.m2_tree.specs.declared.decl.FormalType.{FormalType}
use Rattle.m2_tree.specs.declared.decl.Parameter.{Parameter}
use Rattle.m2_tree.specs.declared.decl.Simple.{Simple}
use Rattle.m2_tree.specs.declared.decl.Simple.TheVariants.{Named, Enumeration, Subrange}
use Rattle.m2_tree.specs.contracts.decl.Simple as simple_enum
use Rattle.m2_tree.specs.contracts.decl.SimplePartialEq.TheImpl as SimpleEq
use Rattle.m2_tree.specs.declared.decl.TypeExpr.{TypeExpr, TypeExpr-F, out-TypeExpr, roll-TypeExpr, out-roll-TypeExpr, roll-out-TypeExpr, ind-TypeExpr}
use Rattle.m2_tree.specs.declared.decl.TypeExpr.TheFolds.{map-TypeExpr, map-Field}
use Rattle.m2_tree.specs.declared.decl.TypeExpr.TheOpen as layer
use Rattle.m2_tree.specs.declared.decl.TypeExpr.TheBlock.{the_members, the_sigs, the_carrier, the_depth, member-TypeExpr, member-Field, split-TypeExpr, join-TypeExpr, join-split-TypeExpr}
use Rattle.m2_tree.specs.declared.decl.Field.{Field, Field-F, out-Field, roll-Field, out-roll-Field, roll-out-Field}
use Rattle.m2_tree.specs.contracts.decl.TypeExpr.{the_parts}
use Rattle.m2_tree.specs.contracts.decl.TypeExprPartialEq.TheImpl.{the_step}
use Rattle.m2_tree.specs.contracts.decl.TypeExprPartialEq.TheImpl.Laws.{local}
use Rattle.m2_tree.specs.Sound.{Sound, Fine, variants, list, all, option, one, two, three, four}
use Rattle.m2_tree.specs.SoundLeaves.{eq_pos, eq_ident, pos, ident}
use Rattle.m2_tree.specs.SoundExpr.{eq_expr, expr}

abbrev pub eq_flag : Bool → Bool → Bool
eq_flag = (BoolEq.ghosts).eq

pub flag : (a : Bool) → Sound eq_flag a
flag a b = (booleans_Decides a b).0

abbrev pub eq_qualified : Qualified → Qualified → Bool
eq_qualified a b = option_eq eq_ident a.«module» b.«module» && eq_ident a.name b.name

pub qualified : (a : Qualified) → Sound eq_qualified a
qualified a b h =
    let s = option_eq eq_ident a.«module» b.«module» in
    let t = eq_ident a.name b.name in
    let p = option eq_ident ident a.«module» b.«module» (first_so s t h) in
    let q = ident a.name b.name (second_so s t h) in
    λ i. record { «module» = p i; name = q i }

abbrev pub eq_formal : FormalType → FormalType → Bool
eq_formal a b = eq_flag a.is_open b.is_open && eq_qualified a.of b.of

pub formal : (a : FormalType) → Sound eq_formal a
formal a b h =
    let s = eq_flag a.is_open b.is_open in
    let t = eq_qualified a.of b.of in
    let p = flag a.is_open b.is_open (first_so s t h) in
    let q = qualified a.of b.of (second_so s t h) in
    λ i. record { is_open = p i; of = q i }

abbrev eq_parameter : Parameter → Parameter → Bool
eq_parameter a b = eq_flag a.is_var b.is_var && eq_formal a.of b.of

parameter : (a : Parameter) → Sound eq_parameter a
parameter a b h =
    let s = eq_flag a.is_var b.is_var in
    let t = eq_formal a.of b.of in
    let p = flag a.is_var b.is_var (first_so s t h) in
    let q = formal a.of b.of (second_so s t h) in
    λ i. record { is_var = p i; of = q i }

abbrev each_simple : Each Bool simple_enum.the_parts
each_simple = (
  λ a b. eq_qualified a.0 b.0,
  (
    λ a b. eq_pos a.0 b.0 && pointwise eq_ident a.1.0 b.1.0,
    (
      λ a b.
          option_eq eq_qualified a.0 b.0 && (eq_pos a.1.0 b.1.0 && (eq_expr a.1.1.0 b.1.1.0
          && eq_expr a.1.1.1.0 b.1.1.1.0)),
      tt,
    ),
  ),
)

fine_simple : (a : Simple) → Fine simple_enum.the_parts each_simple (simple_enum.as_values a)
fine_simple (Named q) = one eq_qualified q (qualified q)
fine_simple (Enumeration p names) =
    two eq_pos (pointwise eq_ident) p names (pos p) (all eq_ident ident names)
fine_simple (Subrange o p e f) =
    four (option_eq eq_qualified) eq_pos eq_expr eq_expr o p e f (option eq_qualified qualified o)
    (pos p) (expr e) (expr f)

abbrev eq_simple : Simple → Simple → Bool
eq_simple = (SimpleEq.ghosts).eq

simple : (a : Simple) → Sound eq_simple a
simple a b h =
    let s : simple_enum.as_values a ≡ simple_enum.as_values b = variants simple_enum.the_parts
    each_simple (simple_enum.as_values a) (simple_enum.as_values b) (fine_simple a) h in
    sym (simple_enum.the_eta a) ∙ (ap simple_enum.the_make s ∙ simple_enum.the_eta b)

-- ---- types and their fields

abbrev V : the_members → Type 0
V = Values the_members the_sigs the_carrier

abbrev E : (j : the_members) → V j → V j → Bool
E = compared the_members V the_depth Bool true the_step

abbrev pub eq_type : TypeExpr → TypeExpr → Bool
eq_type = E member-TypeExpr

abbrev eq_field : Field → Field → Bool
eq_field = E member-Field

abbrev ST : Type 0
ST = (d : TypeExpr) × Sound eq_type d

abbrev SF : Type 0
SF = (d : Field) × Sound eq_field d

abbrev LayerT : Type 0
LayerT = TypeExpr-F TypeExpr Field

abbrev bareT : TypeExpr-F ST SF → LayerT
bareT = map-TypeExpr ST SF TypeExpr Field (λ e. e.0) (λ e. e.0)

abbrev each : Each Bool the_parts
each = (
  λ a b. eq_simple a.0 b.0,
  (
    λ a b. eq_pos a.0 b.0 && (eq_simple a.1.0 b.1.0 && eq_type a.1.1.0 b.1.1.0),
    (
      λ a b. eq_pos a.0 b.0 && pointwise eq_field a.1.0 b.1.0,
      (
        λ a b.
            eq_pos a.0 b.0 && (pointwise eq_parameter a.1.0 b.1.0
            && option_eq eq_qualified a.1.1.0 b.1.1.0),
        tt,
      ),
    ),
  ),
)

fineT : (y : TypeExpr-F ST SF) → Fine the_parts each (split-TypeExpr V (bareT y))
fineT (layer.Simple s) = one eq_simple s (simple s)
fineT (layer.Array p s t) = three eq_pos eq_simple eq_type p s t.0 (pos p) (simple s) t.1
fineT (layer.Record p fields) =
    two eq_pos (pointwise eq_field) p (map (λ e. e.0) fields) (pos p)
    (list eq_field (λ e. e.0) (λ e. e.1) fields)
fineT (layer.Procedure p formals o) =
    three eq_pos (pointwise eq_parameter) (option_eq eq_qualified) p formals o (pos p)
    (all eq_parameter parameter formals) (option eq_qualified qualified o)

abbrev testT : LayerT → LayerT → Bool
testT v w = by false false the_parts each (split-TypeExpr V v) (split-TypeExpr V w)

stepT : (x : LayerT) (y : TypeExpr-F ST SF) → bareT y ≡ x → Sound eq_type (roll-TypeExpr x)
stepT x y q e h =
    let c : eq_type (roll-TypeExpr x) e ≡ testT (out-TypeExpr (roll-TypeExpr x)) (out-TypeExpr e) =
    compared_is the_members V the_depth Bool true the_step local member-TypeExpr (roll-TypeExpr x)
    e in
    let k : testT x (out-TypeExpr e) ≡ true =
    subst (λ (w : LayerT). testT w (out-TypeExpr e) ≡ true) (out-roll-TypeExpr x) (sym c ∙ h) in
    let f : Fine the_parts each (split-TypeExpr V x) =
    subst (λ (w : LayerT). Fine the_parts each (split-TypeExpr V w)) q (fineT y) in
    let s : split-TypeExpr V x ≡ split-TypeExpr V (out-TypeExpr e) =
    variants the_parts each (split-TypeExpr V x) (split-TypeExpr V (out-TypeExpr e)) f k in
    let j : x ≡ out-TypeExpr e = sym (join-split-TypeExpr V x)
    ∙ (ap (join-TypeExpr V) s ∙ join-split-TypeExpr V (out-TypeExpr e)) in
    ap roll-TypeExpr j ∙ roll-out-TypeExpr e

abbrev LayerF : Type 0
LayerF = Field-F TypeExpr Field

abbrev bareF : Field-F ST SF → LayerF
bareF = map-Field ST SF TypeExpr Field (λ e. e.0) (λ e. e.0)

abbrev testF : LayerF → LayerF → Bool
testF v w = pointwise eq_ident v.names w.names && eq_type v.of w.of

stepF : (x : LayerF) (y : Field-F ST SF) → bareF y ≡ x → Sound eq_field (roll-Field x)
stepF x y q e h =
    let o = out-Field e in
    let c : eq_field (roll-Field x) e ≡ testF (out-Field (roll-Field x)) o =
    compared_is the_members V the_depth Bool true the_step local member-Field (roll-Field x) e in
    let k : testF (bareF y) o ≡ true =
    subst (λ (w : LayerF). testF w o ≡ true) (out-roll-Field x ∙ sym q) (sym c ∙ h) in
    let m : y.names ≡ o.names = all eq_ident ident y.names o.names
    (first_so (pointwise eq_ident y.names o.names) (eq_type y.of.0 o.of) k) in
    let s : y.of.0 ≡ o.of =
    y.of.1 o.of (second_so (pointwise eq_ident y.names o.names) (eq_type y.of.0 o.of) k) in
    let j : bareF y ≡ o = λ i. record { names = m i; of = s i } in
    ap roll-Field (sym q ∙ j) ∙ roll-out-Field e

pub type_of : (d : TypeExpr) → Sound eq_type d
type_of = ind-TypeExpr (Sound eq_type) (Sound eq_field) stepT stepF
