-- The tests of expressions.
use Rattle.std.proofs.Common.{◌≡◌, Bool, true, false, ◌&&◌, nat_eq, List, Option, Some, None, sym, ap, subst, ◌∙◌}
use Rattle.std.specs.Cmp.{first_so, second_so}
use Rattle.std.specs.Cmp.Lexicographic.{pointwise}
use Rattle.std.specs.Option.{option_eq}
use mathlib.Core.List.{map}
use denote.Hole.Carrier.{Values}
use denote.Hole.Compared.{compared, compared_is}
use denote.Enum.Compared.{Each, by}
use Rattle.m2_tree.specs.declared.expr.Operator.{Operator}
use Rattle.m2_tree.specs.declared.expr.Expr.{Expr, Expr-F, out-Expr, roll-Expr, out-roll-Expr, roll-out-Expr, ind-Expr}
use Rattle.m2_tree.specs.declared.expr.Expr.TheFolds.{map-Expr, map-Selector, map-Designator, map-Item}
use Rattle.m2_tree.specs.declared.expr.Expr.TheOpen.{Number, Char, Text, Set, Not, Bracketed, Use, Term, Sum, Relation, Field, Index}
use Rattle.m2_tree.specs.declared.expr.Expr.TheBlock.{the_members, the_sigs, the_carrier, the_depth, member-Expr, member-Selector, member-Designator, member-Item, split-Expr, join-Expr, join-split-Expr, split-Selector}
use Rattle.m2_tree.specs.declared.expr.Expr.TheViews.{parts-Selector, parts_is-Selector, whole-Selector, whole_parts-Selector}
use Rattle.m2_tree.specs.declared.expr.Selector.{Selector, Selector-F, roll-Selector, out-roll-Selector}
use Rattle.m2_tree.specs.declared.expr.Designator.{Designator, Designator-F, out-Designator, roll-Designator, out-roll-Designator, roll-out-Designator, ind-Designator}
use Rattle.m2_tree.specs.declared.expr.Item.{Item, Item-F, out-Item, roll-Item, out-roll-Item, roll-out-Item, ind-Item}
use Rattle.m2_tree.specs.contracts.expr.Expr.{the_parts}
use Rattle.m2_tree.specs.contracts.expr.Selector.{the_parts as selector_parts}
use Rattle.m2_tree.specs.contracts.expr.ExprPartialEq.TheImpl.{the_step}
use Rattle.m2_tree.specs.contracts.expr.ExprPartialEq.TheImpl.Laws.{local}
use Rattle.m2_tree.specs.Sound.{Sound, Fine, variants, number, list, some, none, option, two, three}
use Rattle.m2_tree.specs.SoundLeaves.{eq_pos, eq_ident, eq_quoted, eq_sign, eq_add, eq_mul, eq_rel, eq_operator, pos, quoted, ident, operator, sign_is, add, mul, rel}

abbrev V : the_members → Type 0
V = Values the_members the_sigs the_carrier

abbrev E : (j : the_members) → V j → V j → Bool
E = compared the_members V the_depth Bool true the_step

abbrev pub eq_expr : Expr → Expr → Bool
eq_expr = E member-Expr

abbrev pub eq_selector : Selector → Selector → Bool
eq_selector = E member-Selector

abbrev pub eq_designator : Designator → Designator → Bool
eq_designator = E member-Designator

abbrev pub eq_item : Item → Item → Bool
eq_item = E member-Item

abbrev SE : Type 0
SE = (d : Expr) × Sound eq_expr d

abbrev SS : Type 0
SS = (d : Selector) × Sound eq_selector d

abbrev SD : Type 0
SD = (d : Designator) × Sound eq_designator d

abbrev SI : Type 0
SI = (d : Item) × Sound eq_item d

abbrev exprs : List SE → List Expr
exprs = map (λ e. e.0)

exprs_sound : (es : List SE) → Sound (pointwise eq_expr) (exprs es)
exprs_sound = list eq_expr (λ e. e.0) (λ e. e.1)

abbrev args : Option (List SE) → Option (List Expr)
args None = None
args (Some es) = Some (exprs es)

args_sound : (o : Option (List SE)) → Sound (option_eq (pointwise eq_expr)) (args o)
args_sound None = none (pointwise eq_expr)
args_sound (Some es) = some (pointwise eq_expr) (exprs es) (exprs_sound es)

-- an operator and what stands behind it
abbrev eq_operand : {O : Type 0} → (O → O → Bool) → Operator O × Expr → Operator O × Expr → Bool
eq_operand F a b = eq_operator F a.0 b.0 && eq_expr a.1 b.1

operand_sound : {O : Type 0} (F : O → O → Bool) → ((o : O) → Sound F o) → (a : Operator O × SE)
    → Sound (eq_operand F) (a.0, a.1.0)
operand_sound F s a b h =
    let p = operator F s a.0 b.0 (first_so (eq_operator F a.0 b.0) (eq_expr a.1.0 b.1) h) in
    let q = a.1.1 b.1 (second_so (eq_operator F a.0 b.0) (eq_expr a.1.0 b.1) h) in
    λ i. (p i, q i)

abbrev operands : {O : Type 0} → List (Operator O × SE) → List (Operator O × Expr)
operands = map (λ a. (a.0, a.1.0))

operands_sound : {O : Type 0} (F : O → O → Bool) → ((o : O) → Sound F o)
    → (as' : List (Operator O × SE)) → Sound (pointwise (eq_operand F)) (operands as')
operands_sound F s = list (eq_operand F) (λ a. (a.0, a.1.0)) (operand_sound F s)

-- ---- expressions

abbrev LayerE : Type 0
LayerE = Expr-F Expr Selector Designator Item

abbrev bareE : Expr-F SE SS SD SI → LayerE
bareE =
    map-Expr SE SS SD SI Expr Selector Designator Item (λ e. e.0) (λ e. e.0) (λ e. e.0) (λ e. e.0)

abbrev each : Each Bool the_parts
each = (
  λ a b. eq_pos a.0 b.0 && nat_eq a.1.0 b.1.0,
  (
    λ a b. eq_pos a.0 b.0 && nat_eq a.1.0 b.1.0,
    (
      λ a b. eq_pos a.0 b.0 && eq_quoted a.1.0 b.1.0,
      (
        λ a b.
            option_eq eq_ident a.0 b.0 && (eq_pos a.1.0 b.1.0 && pointwise eq_item a.1.1.0 b.1.1.0),
        (
          λ a b. eq_pos a.0 b.0 && eq_expr a.1.0 b.1.0,
          (
            λ a b. eq_pos a.0 b.0 && eq_expr a.1.0 b.1.0,
            (
              λ a b. eq_designator a.0 b.0 && option_eq (pointwise eq_expr) a.1.0 b.1.0,
              (
                λ a b. eq_expr a.0 b.0 && pointwise (eq_operand eq_mul) a.1.0 b.1.0,
                (
                  λ a b.
                      option_eq (eq_operator eq_sign) a.0 b.0 && (eq_expr a.1.0 b.1.0
                      && pointwise (eq_operand eq_add) a.1.1.0 b.1.1.0),
                  (
                    λ a b.
                        eq_expr a.0 b.0 && (eq_operator eq_rel a.1.0 b.1.0
                        && eq_expr a.1.1.0 b.1.1.0),
                    tt,
                  ),
                ),
              ),
            ),
          ),
        ),
      ),
    ),
  ),
)

fineE : (y : Expr-F SE SS SD SI) → Fine the_parts each (split-Expr V (bareE y))
fineE (Number p n) = two eq_pos nat_eq p n (pos p) (number n)
fineE (Char p n) = two eq_pos nat_eq p n (pos p) (number n)
fineE (Text p q) = two eq_pos eq_quoted p q (pos p) (quoted q)
fineE (Set o p items) =
    three (option_eq eq_ident) eq_pos (pointwise eq_item) o p (map (λ e. e.0) items)
    (option eq_ident ident o) (pos p) (list eq_item (λ e. e.0) (λ e. e.1) items)
fineE (Not p e) = two eq_pos eq_expr p e.0 (pos p) e.1
fineE (Bracketed p e) = two eq_pos eq_expr p e.0 (pos p) e.1
fineE (Use d None) =
    two eq_designator (option_eq (pointwise eq_expr)) d.0 None d.1 (args_sound None)
fineE (Use d (Some es)) =
    two eq_designator (option_eq (pointwise eq_expr)) d.0 (Some (exprs es)) d.1
    (args_sound (Some es))
fineE (Term e as') =
    two eq_expr (pointwise (eq_operand eq_mul)) e.0 (operands as') e.1
    (operands_sound eq_mul mul as')
fineE (Sum o e as') =
    three (option_eq (eq_operator eq_sign)) eq_expr (pointwise (eq_operand eq_add)) o e.0
    (operands as') (option (eq_operator eq_sign) (operator eq_sign sign_is) o) e.1
    (operands_sound eq_add add as')
fineE (Relation e o f) =
    three eq_expr (eq_operator eq_rel) eq_expr e.0 o f.0 e.1 (operator eq_rel rel o) f.1

abbrev testE : LayerE → LayerE → Bool
testE v w = by false false the_parts each (split-Expr V v) (split-Expr V w)

stepE : (x : LayerE) (y : Expr-F SE SS SD SI) → bareE y ≡ x → Sound eq_expr (roll-Expr x)
stepE x y q e h =
    let c : eq_expr (roll-Expr x) e ≡ testE (out-Expr (roll-Expr x)) (out-Expr e) =
    compared_is the_members V the_depth Bool true the_step local member-Expr (roll-Expr x) e in
    let k : testE x (out-Expr e) ≡ true =
    subst (λ (w : LayerE). testE w (out-Expr e) ≡ true) (out-roll-Expr x) (sym c ∙ h) in
    let f : Fine the_parts each (split-Expr V x) =
    subst (λ (w : LayerE). Fine the_parts each (split-Expr V w)) q (fineE y) in
    let s : split-Expr V x ≡ split-Expr V (out-Expr e) =
    variants the_parts each (split-Expr V x) (split-Expr V (out-Expr e)) f k in
    let j : x ≡ out-Expr e =
    sym (join-split-Expr V x) ∙ (ap (join-Expr V) s ∙ join-split-Expr V (out-Expr e)) in
    ap roll-Expr j ∙ roll-out-Expr e

-- ---- selectors

abbrev LayerS : Type 0
LayerS = Selector-F Expr Selector Designator Item

abbrev bareS : Selector-F SE SS SD SI → LayerS
bareS =
    map-Selector SE SS SD SI Expr Selector Designator Item (λ e. e.0) (λ e. e.0) (λ e. e.0)
    (λ e. e.0)

abbrev eachS : Each Bool selector_parts
eachS = (
  λ a b. eq_pos a.0 b.0 && eq_ident a.1.0 b.1.0,
  (
    λ a b. eq_pos a.0 b.0 && eq_expr a.1.0 b.1.0,
    tt,
  ),
)

fineS : (y : Selector-F SE SS SD SI) → Fine selector_parts eachS (split-Selector V (bareS y))
fineS (Field p n) = two eq_pos eq_ident p n (pos p) (ident n)
fineS (Index p e) = two eq_pos eq_expr p e.0 (pos p) e.1

abbrev testS : Selector → Selector → Bool
testS v w = by false false selector_parts eachS (parts-Selector v) (parts-Selector w)

stepS : (x : LayerS) (y : Selector-F SE SS SD SI) → bareS y ≡ x
    → Sound eq_selector (roll-Selector x)
stepS x y q e h =
    let d = roll-Selector x in
    let c : eq_selector d e ≡ testS d e =
    compared_is the_members V the_depth Bool true the_step local member-Selector d e in
    let p : split-Selector V (bareS y) ≡ parts-Selector d =
    ap (split-Selector V) (q ∙ sym (out-roll-Selector x)) ∙ sym (parts_is-Selector d) in
    let f :
    Fine selector_parts eachS (parts-Selector d) = subst (Fine selector_parts eachS) p (fineS y) in
    let s : parts-Selector d ≡ parts-Selector e =
    variants selector_parts eachS (parts-Selector d) (parts-Selector e) f (sym c ∙ h) in
    sym (whole_parts-Selector d) ∙ (ap whole-Selector s ∙ whole_parts-Selector e)

-- ---- designators

abbrev LayerD : Type 0
LayerD = Designator-F Expr Selector Designator Item

abbrev bareD : Designator-F SE SS SD SI → LayerD
bareD =
    map-Designator SE SS SD SI Expr Selector Designator Item (λ e. e.0) (λ e. e.0) (λ e. e.0)
    (λ e. e.0)

abbrev testD : LayerD → LayerD → Bool
testD v w = eq_ident v.name w.name && pointwise eq_selector v.selectors w.selectors

stepD : (x : LayerD) (y : Designator-F SE SS SD SI) → bareD y ≡ x
    → Sound eq_designator (roll-Designator x)
stepD x y q e h =
    let o = out-Designator e in
    let c :
    eq_designator (roll-Designator x) e ≡ testD (out-Designator (roll-Designator x)) o = compared_is
    the_members V the_depth Bool true the_step local member-Designator (roll-Designator x) e in
    let k : testD (bareD y) o ≡ true =
    subst (λ (w : LayerD). testD w o ≡ true) (out-roll-Designator x ∙ sym q) (sym c ∙ h) in
    let m : y.name ≡ o.name = ident y.name o.name
    (first_so (eq_ident y.name o.name) (pointwise eq_selector (bareD y).selectors o.selectors) k) in
    let s : (bareD y).selectors ≡ o.selectors =
    list eq_selector (λ e. e.0) (λ e. e.1) y.selectors o.selectors
    (second_so (eq_ident y.name o.name) (pointwise eq_selector (bareD y).selectors o.selectors)
    k) in
    let j : bareD y ≡ o = λ i. record { name = m i; selectors = s i } in
    ap roll-Designator (sym q ∙ j) ∙ roll-out-Designator e

-- ---- elements of sets, and labels

abbrev LayerI : Type 0
LayerI = Item-F Expr Selector Designator Item

abbrev bareI : Item-F SE SS SD SI → LayerI
bareI =
    map-Item SE SS SD SI Expr Selector Designator Item (λ e. e.0) (λ e. e.0) (λ e. e.0) (λ e. e.0)

abbrev testI : LayerI → LayerI → Bool
testI v w = eq_expr v.low w.low && option_eq eq_expr v.high w.high

item_sound : (low : SE) (high : Option SE) → Sound testI (bareI (record { low = low; high = high }))
item_sound low None w h =
    let m : low.0 ≡ w.low =
    low.1 w.low (first_so (eq_expr low.0 w.low) (option_eq eq_expr None w.high) h) in
    let s : None ≡ w.high =
    none eq_expr w.high (second_so (eq_expr low.0 w.low) (option_eq eq_expr None w.high) h) in
    λ i. record { low = m i; high = s i }
item_sound low (Some e) w h =
    let m : low.0 ≡ w.low =
    low.1 w.low (first_so (eq_expr low.0 w.low) (option_eq eq_expr (Some e.0) w.high) h) in
    let s : Some e.0 ≡ w.high = some eq_expr e.0 e.1 w.high
    (second_so (eq_expr low.0 w.low) (option_eq eq_expr (Some e.0) w.high) h) in
    λ i. record { low = m i; high = s i }

stepI : (x : LayerI) (y : Item-F SE SS SD SI) → bareI y ≡ x → Sound eq_item (roll-Item x)
stepI x y q e h =
    let o = out-Item e in
    let c : eq_item (roll-Item x) e ≡ testI (out-Item (roll-Item x)) o =
    compared_is the_members V the_depth Bool true the_step local member-Item (roll-Item x) e in
    let k : testI (bareI y) o ≡ true =
    subst (λ (w : LayerI). testI w o ≡ true) (out-roll-Item x ∙ sym q) (sym c ∙ h) in
    let j : bareI y ≡ o = item_sound y.low y.high o k in ap roll-Item (sym q ∙ j) ∙ roll-out-Item e

-- ---- what the tests say

pub expr : (d : Expr) → Sound eq_expr d
expr =
    ind-Expr (Sound eq_expr) (Sound eq_selector) (Sound eq_designator) (Sound eq_item) stepE stepS
    stepD stepI

pub designator : (d : Designator) → Sound eq_designator d
designator =
    ind-Designator (Sound eq_expr) (Sound eq_selector) (Sound eq_designator) (Sound eq_item) stepE
    stepS stepD stepI

pub item : (d : Item) → Sound eq_item d
item =
    ind-Item (Sound eq_expr) (Sound eq_selector) (Sound eq_designator) (Sound eq_item) stepE stepS
    stepD stepI
