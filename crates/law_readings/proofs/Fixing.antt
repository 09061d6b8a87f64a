-- A constant expression stands for one thing at most.
use Rattle.std.proofs.Common.{◌≡◌, ℕ, List, Option, Some, None, refl, sym, ap, subst, ◌∙◌}
use Rattle.std.specs.Prelude.{ℤ, bit_or}
use Rattle.m2_tree.specs.declared.name.Ident.{Ident}
use Rattle.m2_tree.specs.declared.expr.Expr.{Expr, Expr-F}
use Rattle.m2_tree.specs.declared.expr.Selector.{Selector, Selector-F}
use Rattle.m2_tree.specs.declared.expr.Designator.{Designator, out-Designator}
use Rattle.m2_tree.specs.declared.expr.Item.{Item, Item-F}
use Rattle.typed_tree.specs.declared.types.TypeNo.{TypeNo}
use Rattle.typed_tree.specs.declared.meaning.Standard.{Standard}
use Rattle.typed_tree.specs.declared.shape.Scalar.{Scalar as Range}
use Rattle.typed_tree.specs.declared.shape.Shape.{Shape}
use Rattle.typed_tree.specs.declared.shape.Shape.TheVariants as shape
use Rattle.typed_tree.specs.declared.known_types.Types.{Types}
use Rattle.check_const.specs.declared.operator.BinaryOp.{BinaryOp}
use Rattle.check_const.specs.Sets.{with_span}
use Rattle.def_typing.specs.Amounts.{Constant}
use Rattle.def_typing.specs.Operators.{Kind, Scalar, Set, operand, Makes, SignMakes, Negates}
use Rattle.def_typing.specs.Things.{Standing, Known, Ahead, Undeclared, NotExported, Unknown}
use Rattle.def_typing.specs.Functions.{Applies, BoundOf, Converts}
use Rattle.def_typing.specs.Parts.{Operand}
use Rattle.def_typing.specs.Constants as rules
use Rattle.def_typing.specs.Constants.{Fixed, AConstant, AFunction, FixedAs, FixedPicks, FixedSelected, FixedDenotes, FixedScalar, Fixes, FixedReads, FixedCalls, FixedChain, AddUp, Adds, HasNumber}
use Rattle.law_typing.proofs.Shaping.{one_made}
use Rattle.law_typing.proofs.Fixing.{constant_one}
use Rattle.law_readings.proofs.Computing.{both, some_one, makes_one, sign_one, negates_one, applies_one, converts_one, bound_one, no_value}

abbrev function_in : Standard → Fixed → Standard
function_in f (AFunction g) = g
function_in f other = f

function_one : {f g : Standard} → AFunction f ≡ AFunction g → f ≡ g
function_one {f = f} e = ap (function_in f) e

abbrev range_in : Range → Shape → Range
range_in r (shape.Scalar q) = q
range_in r other = r

pub range_one : {r q : Range} → shape.Scalar r ≡ shape.Scalar q → r ≡ q
range_one {r = r} e = ap (range_in r) e

abbrev sort_in : Kind → Option TypeNo
sort_in (Scalar (Constant s n)) = s
sort_in other = None

abbrev number_in : ℤ → Kind → ℤ
number_in m (Scalar (Constant s n)) = n
number_in m other = m

-- one constant scalar
pub scalar_sort : {k l : Kind} {s t : Option TypeNo} {n m : ℤ} → k ≡ l
    → operand k ≡ Scalar (Constant s n) → operand l ≡ Scalar (Constant t m) → s ≡ t
scalar_sort e p q = ap (λ (k : Kind). sort_in k) (sym p ∙ ap (λ (k : Kind). operand k) e ∙ q)

pub scalar_number : {k l : Kind} {s t : Option TypeNo} {n m : ℤ} → k ≡ l
    → operand k ≡ Scalar (Constant s n) → operand l ≡ Scalar (Constant t m) → n ≡ m
scalar_number {n = n} e p q =
    ap (λ (k : Kind). number_in n k) (sym p ∙ ap (λ (k : Kind). operand k) e ∙ q)

fixed_one : (s : Standing) {x y : Fixed} → FixedAs s x → FixedAs s y → x ≡ y
fixed_one (Known z) p q = p ∙ sym q
fixed_one Ahead p q = p ∙ sym q
fixed_one Undeclared p q = absurd p
fixed_one NotExported p q = absurd p
fixed_one Unknown p q = absurd p

scalar_one : {types : Types} {x : Fixed} {r q : Range} → FixedScalar types x r
    → FixedScalar types x q → r ≡ q
scalar_one {types = types} (rules.fixed_scalar {t = t} m) (rules.fixed_scalar n) =
    range_one (one_made types t m n)

module _ (exports : ℕ → Ident → Standing) where
  picks_one : {x y z : Fixed} {s : Selector-F Expr Selector Designator Item}
      → FixedPicks exports x s y → FixedPicks exports x s z → y ≡ z
  picks_one (rules.of_module {k = k} {name = name} p) (rules.of_module q) =
      fixed_one (exports k name) p q
  picks_one (rules.of_module p) (rules.of_field u) = elim u [ ]
  picks_one (rules.of_field u) (rules.of_module p) = elim u [ ]
  picks_one (rules.of_field u) (rules.of_field v) = refl
  picks_one (rules.of_element u) (rules.of_element v) = refl
  picks_one (rules.of_element u) rules.element_of_module = refl
  picks_one rules.element_of_module (rules.of_element u) = refl
  picks_one rules.element_of_module rules.element_of_module = refl

  selected_one : {x y z : Fixed} {ss : List Selector} → FixedSelected exports x ss y
      → FixedSelected exports x ss z → y ≡ z
  selected_one rules.whole rules.whole = refl
  selected_one {z = z} (rules.component {ss = ss} p r) (rules.component q s) =
      selected_one r (subst (λ (v : Fixed). FixedSelected exports v ss z) (sym (picks_one p q)) s)

  module _ (names : Ident → Standing) where
    denotes_one : {d : Designator} {x y : Fixed} → FixedDenotes names exports d x
        → FixedDenotes names exports d y → x ≡ y
    denotes_one {d = d} {y = y} (rules.fixed_named p r) (rules.fixed_named q s) =
        selected_one r
        (subst (λ (v : Fixed). FixedSelected exports v (out-Designator d).selectors y)
        (sym (fixed_one (names (out-Designator d).name) p q)) s)

    module _ (types : Types) where
      chain_as : {a b k : Kind} {xs : List Operand} → a ≡ b → FixedChain types names exports b xs k
          → FixedChain types names exports a xs k
      chain_as {k = k} {xs = xs} e c =
          subst (λ (a : Kind). FixedChain types names exports a xs k) (sym e) c

      makes_as : {o : BinaryOp} {a b c d e f : Kind}
          → a ≡ b
          → c ≡ d
          → Makes types o (operand a) (operand c) e
          → Makes types o (operand b) (operand d) f
          → e ≡ f
      makes_as {o = o} {a = a} {d = d} {f = f} p q m n =
          makes_one m (subst (λ (c : Kind). Makes types o (operand a) (operand c) f) (sym q)
          (subst (λ (a : Kind). Makes types o (operand a) (operand d) f) (sym p) n))

      mutual
        pub fixes_one : {e : Expr} {x y : Fixed} → Fixes types names exports e x
            → Fixes types names exports e y → x ≡ y
        fixes_one (rules.as_fixed r) (rules.as_fixed q) = reads_one r q

        fixes_kind : {e : Expr} {k l : Kind} → Fixes types names exports e (AConstant k)
            → Fixes types names exports e (AConstant l) → k ≡ l
        fixes_kind (rules.as_fixed r) (rules.as_fixed q) = constant_one (reads_one r q)

        reads_one : {e : Expr-F Expr Selector Designator Item} {x y : Fixed}
            → FixedReads types names exports e x → FixedReads types names exports e y → x ≡ y
        reads_one rules.fixed_literal rules.fixed_literal = refl
        reads_one rules.fixed_character rules.fixed_character = refl
        reads_one rules.fixed_string rules.fixed_string = refl
        reads_one (rules.fixed_set u) (rules.fixed_set v) =
            ap (λ (n : ℕ). AConstant (Set (Some n))) (add_up_one u v)
        reads_one (rules.fixed_named_set n u) (rules.fixed_named_set m v) =
            ap (λ (n : ℕ). AConstant (Set (Some n))) (add_up_one u v)
        reads_one (rules.fixed_name d) (rules.fixed_name c) = denotes_one d c
        reads_one (rules.fixed_called {args = args} d c) (rules.fixed_called {k = l} e b) =
            ap AConstant
            (calls_one c (subst (λ (f : Standard). FixedCalls types names exports f args l)
            (sym (function_one (denotes_one d e))) b))
        reads_one (rules.fixed_brackets f) (rules.fixed_brackets h) = fixes_one f h
        reads_one (rules.fixed_negated f n) (rules.fixed_negated {k = l} h m) =
            ap AConstant
            (negates_one n (subst (λ (a : Kind). Negates a l) (sym (fixes_kind f h)) m))
        reads_one (rules.fixed_term f c) (rules.fixed_term h d) =
            ap AConstant (chain_one c (chain_as (fixes_kind f h) d))
        reads_one (rules.fixed_sum f c) (rules.fixed_sum h d) =
            ap AConstant (chain_one c (chain_as (fixes_kind f h) d))
        reads_one (rules.fixed_signed_sum {sign = sign} f s c)
            (rules.fixed_signed_sum {b = b} h t d) =
            ap AConstant (chain_one c (chain_as
            (sign_one s
            (subst (λ (a : Kind). SignMakes sign.op (operand a) b) (sym (fixes_kind f h)) t))
            d))
        reads_one (rules.fixed_relation f h m) (rules.fixed_relation i j n) =
            ap AConstant (makes_as (fixes_kind f i) (fixes_kind h j) m n)

        calls_one :
            {f : Standard} {args : List Expr} {k l : Kind} → FixedCalls types names exports f args k
            → FixedCalls types names exports f args l → k ≡ l
        calls_one {f = p} {l = l} (rules.fixed_of_one f m) (rules.fixed_of_one h n) =
            applies_one m (subst (λ (a : Kind). Applies p (operand a) l) (sym (fixes_kind f h)) n)
        calls_one (rules.fixed_of_one f m) (rules.fixed_of_type h s b) = absurd (no_value b m)
        calls_one (rules.fixed_of_type f s b) (rules.fixed_of_one h n) = absurd (no_value b n)
        calls_one {f = p} (rules.fixed_of_type {r = r} f s b)
            (rules.fixed_of_type {r = q} {n = m} h t c) =
            let e =
            scalar_one s (subst (λ (x : Fixed). FixedScalar types x q) (sym (fixes_one f h)) t) in
            both (λ (r : Range) (n : ℤ). Scalar (Constant (Some r.base) n)) e
            (bound_one b (subst (λ (r : Range). BoundOf r p m) (sym e) c))
        calls_one {l = l} (rules.fixed_converted {r = r} {a = a} f s v c)
            (rules.fixed_converted {r = q} {a = b} h t w d) =
            let e =
            scalar_one s (subst (λ (x : Fixed). FixedScalar types x q) (sym (fixes_one f h)) t) in
            converts_one c (subst (λ (r : Range). Converts r (operand a) l) (sym e)
            (subst (λ (a : Kind). Converts q (operand a) l) (sym (fixes_kind v w)) d))

        chain_one : {a k l : Kind} {xs : List Operand} → FixedChain types names exports a xs k
            → FixedChain types names exports a xs l → k ≡ l
        chain_one rules.fixed_done rules.fixed_done = refl
        chain_one (rules.fixed_then f m c) (rules.fixed_then h n d) =
            chain_one c (chain_as (makes_as refl (fixes_kind f h) m n) d)

        add_up_one : {a b c : ℕ} {is : List Item} → AddUp types names exports a is b
            → AddUp types names exports a is c → b ≡ c
        add_up_one rules.no_item rules.no_item = refl
        add_up_one {a = a} {c = c} (rules.one_item {is = is} x u) (rules.one_item y v) =
            add_up_one u
            (subst (λ (b : ℕ). AddUp types names exports (bit_or a b) is c) (sym (adds_one x y)) v)

        adds_one : {i : Item-F Expr Selector Designator Item} {b c : ℕ}
            → Adds types names exports i b → Adds types names exports i c → b ≡ c
        adds_one (rules.single e n w) (rules.single f m v) =
            ap (λ (n : ℤ). with_span 0 n n) (number_one n m)
        adds_one (rules.single e n w) (rules.range f m o v y t c) = let z = sym e ∙ f in absurd cc
        adds_one (rules.range f m o v y t c) (rules.single e n w) = let z = sym e ∙ f in absurd cc
        adds_one (rules.range e m o v y t c) (rules.range {t = t2} {m = k} f n p w z u d) =
            both (λ (n m : ℤ). with_span 0 n m) (number_one m n)
            (number_one o (subst (λ (x : Expr). HasNumber types names exports x t2 k)
            (sym (some_one (sym e ∙ f))) p))

        number_one : {e : Expr} {s t : Option TypeNo} {n m : ℤ}
            → HasNumber types names exports e s n → HasNumber types names exports e t m → n ≡ m
        number_one (rules.has_number f o i) (rules.has_number h p j) =
            scalar_number (fixes_kind f h) o p
