-- What operators and standard functions make of constants: numbers of their types.
use Rattle.std.proofs.Common.{◌≡◌, ℕ, ◌≤ℤ◌, ◌-ℤ◌, ℤ, pos, negsuc, Bool, true, false, Option, Some, None, Result, Ok, refl, sym, ap, subst, ◌∙◌, arith}
use Rattle.std.proofs.lemmas.Int.{ints}
use Rattle.std.specs.Prelude.{cond, ◌||◌, ◌&&◌, not, int_lt}
use Rattle.m2_rule.specs.declared.rule.Rule.{Rule}
use Rattle.m2_rule.specs.declared.rule.Rule.TheVariants as rule
use Rattle.m2_tree.specs.declared.pos.Pos.{Pos}
use Rattle.m2_tree.specs.declared.expr.RelOp.{RelOp}
use Rattle.m2_tree.specs.declared.expr.RelOp.TheVariants as rel
use Rattle.m2_tree.specs.declared.expr.Sign.{Sign}
use Rattle.m2_tree.specs.declared.expr.Sign.TheVariants as sign
use Rattle.typed_tree.specs.declared.types.TypeNo.{TypeNo}
use Rattle.typed_tree.specs.declared.shape.Scalar.{Scalar as Range}
use Rattle.typed_tree.specs.declared.meaning.Standard.{Standard}
use Rattle.typed_tree.specs.declared.meaning.Standard.TheVariants.{Abs, Cap, Chr, High, Max, Min, Odd, Ord, Val, Inc, Dec, Incl, Excl, Halt, Put}
use Rattle.typed_tree.specs.declared.meaning.Value.{Value}
use Rattle.typed_tree.specs.declared.known_types.Types.{Types}
use Rattle.typed_tree.specs.Types.{are_same, is_integer, cardinal, boolean, char}
use Rattle.typed_tree.specs.Known.{scalar_at, range}
use Rattle.check_scope.specs.declared.scope.Scope.{Scope}
use Rattle.check_scope.specs.Elaborated.{Gathers, reported_where, both}
use Rattle.check_const.specs.declared.operand.Ordinal.{Ordinal}
use Rattle.check_const.specs.declared.operand.Operand.{Operand}
use Rattle.check_const.specs.declared.operand.Operand.TheVariants as operands
use Rattle.check_const.specs.declared.operator.BinaryOp.{BinaryOp}
use Rattle.check_const.specs.declared.operator.BinaryOp.TheVariants.{Plus, Minus, Times, Over, Div, Mod, And, Or, Relation}
use Rattle.check_const.specs.Operands.{operand_of, number_value, truth, is_number}
use Rattle.check_const.specs.Numbers.{is_between, fits as number_fits, number_at, whole_arithmetic, evaluated_at, quotient, remainder}
use Rattle.check_const.specs.Common.{common}
use Rattle.check_const.specs.Sets.{set_related, on_sets, member}
use Rattle.check_const.specs.Operate.{takes, holds_between, ordinal_result, ordinal_operation, on_scalars, binary, constant_operation, is_signed, signed_scalar, signed_value, with_sign, negated_value, negation}
use Rattle.check_const.specs.Standards.{scalar_part, if_number, whole_number, absolute_part, upper, is_char, capital_part, character_part, odd_part, ordinal_part, bound_of, converted_part}
use Rattle.check_const.specs.Calls.{unary_of, unary, bound_by, bound, conversion_call}
use Rattle.law_well_formed.specs.Formed.{Holds, fine, broken}
use Rattle.law_well_formed.proofs.Basics.{then_holds, reported_holds, where_holds, both_holds, any_holds}
use Rattle.law_modules.specs.Ranges.{IsRange}
use Rattle.law_modules.proofs.Known.{range_at}
use Rattle.law_well_formed.specs.FormedRanges.{IsNumber, ValueRanged, IsBased, ScopeRanged}
use Rattle.law_well_formed.proofs.RangesTypes.{same_types}
use Rattle.law_well_formed.proofs.Subranges.{at_itself, between_in, number_between, based_at, SortRanged, OperandRanged, operand_ranged, fits_number}

one_range : (a b : Range) → Some a ≡ Some b → a ≡ b
one_range a b e = cc

integer_numeric : (a b : Bool) → a ≡ true → (a || b) ≡ true
integer_numeric true b e = refl
integer_numeric false b e = absurd cc

upper_by : (b : Bool) (n : ℤ) → is_between (pos 97) n (pos 122) ≡ b → pos 0 ≤ℤ n → n ≤ℤ pos 255
    → (pos 0 ≤ℤ cond b (n -ℤ pos 32) n) × (cond b (n -ℤ pos 32) n ≤ℤ pos 255)
upper_by true n e l h = let k = between_in (pos 97) n (pos 122) e in lower n k.0 k.1 where
  lower : (n : ℤ) → pos 97 ≤ℤ n → n ≤ℤ pos 122 → (pos 0 ≤ℤ (n -ℤ pos 32)) × ((n -ℤ pos 32) ≤ℤ pos 255)
  lower n l h = (omega (arith, ints, l, h), omega (arith, ints, l, h))
upper_by false n e l h = (l, h)

module _ (g : Gathers) {T : Type 0} (P : T → Type 0) where
  where_not : (b : Bool) (at : Pos) (n : Rule) {r : Result T g.Reported} → (b ≡ true → Holds P r)
      → Holds P (reported_where g (not b) at n r)
  where_not true at n k = k refl
  where_not false at n k = broken _

  either : (b : Bool) {x y : Result T g.Reported} → Holds P x → Holds P y → Holds P (cond b x y)
  either true p q = p
  either false p q = q

module _ (g : Gathers) (types : Types) where
  abbrev pub V_ : Result Value g.Reported → Type 0
  V_ r = Holds (ValueRanged types) r

  -- ---- numbers

  sort_valued : (sort : Option TypeNo) (n : ℤ) → SortRanged types sort n → ValueRanged types (number_value sort n)
  sort_valued None n p = p
  sort_valued (Some t) n p = (p, p)

  fits_sort : (sort : Option TypeNo) (n : ℤ) → is_number sort ≡ true → number_fits sort n ≡ true
      → SortRanged types sort n
  fits_sort None n i f = between_in (negsuc 2147483647) n (pos 4294967295) f
  fits_sort (Some t) n i f = fits_number types t n i f

  number_ranged : (at : Pos) (sort : Option TypeNo) (n : ℤ) → is_number sort ≡ true → V_ (number_at g at sort n)
  number_ranged at sort n i = where_not g (ValueRanged types) (number_fits sort n) at rule.OutOfRange
      (λ f. fine (number_value sort n) (sort_valued sort n (fits_sort sort n i f)))

  truth_number : (b : Bool) → IsNumber types boolean boolean (cond b (pos 1) (pos 0))
  truth_number true = record {
    range = range boolean (pos 0) (pos 1);
    at = refl;
    own = refl;
    low = omega (arith, ints);
    high = omega (arith, ints);
  }
  truth_number false = record {
    range = range boolean (pos 0) (pos 1);
    at = refl;
    own = refl;
    low = omega (arith, ints);
    high = omega (arith, ints);
  }

  truth_ranged : (b : Bool) → V_ (Ok (truth b))
  truth_ranged b = fine (truth b) (truth_number b, truth_number b)

  pub char_ranged : (n : ℤ) → pos 0 ≤ℤ n → n ≤ℤ pos 255 → ValueRanged types (number_value (Some char) n)
  char_ranged n l h = let k : IsNumber types char char n =
      record { range = range char (pos 0) (pos 255); at = refl; own = refl; low = l; high = h } in (k, k)

  -- ---- operators

  applied_ranged : (op : BinaryOp) (spot : Pos) (sort : Option TypeNo) (x y : ℤ) → takes op sort ≡ true
      → V_ (ordinal_result g op spot sort x y)
  applied_ranged Plus spot sort x y e = number_ranged spot sort (whole_arithmetic Plus x y) e
  applied_ranged Minus spot sort x y e = number_ranged spot sort (whole_arithmetic Minus x y) e
  applied_ranged Times spot sort x y e = number_ranged spot sort (whole_arithmetic Times x y) e
  applied_ranged Over spot sort x y e = reported_holds g spot rule.WrongType
  applied_ranged Div spot sort x y e = number_ranged spot sort (quotient x y) e
  applied_ranged Mod spot sort x y e = number_ranged spot sort (remainder x y) e
  applied_ranged And spot sort x y e = truth_ranged (int_lt (pos 0) x && int_lt (pos 0) y)
  applied_ranged Or spot sort x y e = truth_ranged (int_lt (pos 0) x || int_lt (pos 0) y)
  applied_ranged (Relation r) spot sort x y e = truth_ranged (holds_between r x y)

  operated_ranged : (op : BinaryOp) (spot : Pos) (sort : Option TypeNo) (at : Pos) (a : Ordinal) (at' : Pos)
      (b : Ordinal) → V_ (ordinal_operation g op spot sort at a at' b)
  operated_ranged op spot sort at a at' b =
      where_not g (ValueRanged types) (takes op sort) spot rule.WrongType
      (λ e. then_holds (any_holds _) (λ x k. applied_ranged op spot sort a.number b.number e))

  scalars_ranged : (op : BinaryOp) (spot at : Pos) (a : Ordinal) (at' : Pos) (b : Ordinal) (o : Option (Option TypeNo))
      → V_ (on_scalars g op spot at a at' b o)
  scalars_ranged op spot at a at' b None = reported_holds g spot rule.WrongType
  scalars_ranged op spot at a at' b (Some sort) = operated_ranged op spot sort at a at' b

  member_ranged : (op : BinaryOp) (spot at : Pos) (a : Ordinal) (bits : ℕ) → V_ (member g op spot at a bits)
  member_ranged Plus spot at a bits = reported_holds g spot rule.WrongType
  member_ranged Minus spot at a bits = reported_holds g spot rule.WrongType
  member_ranged Times spot at a bits = reported_holds g spot rule.WrongType
  member_ranged Over spot at a bits = reported_holds g spot rule.WrongType
  member_ranged Div spot at a bits = reported_holds g spot rule.WrongType
  member_ranged Mod spot at a bits = reported_holds g spot rule.WrongType
  member_ranged And spot at a bits = reported_holds g spot rule.WrongType
  member_ranged Or spot at a bits = reported_holds g spot rule.WrongType
  member_ranged (Relation rel.Equal) spot at a bits = reported_holds g spot rule.WrongType
  member_ranged (Relation rel.Unequal) spot at a bits = reported_holds g spot rule.WrongType
  member_ranged (Relation rel.Less) spot at a bits = reported_holds g spot rule.WrongType
  member_ranged (Relation rel.AtMost) spot at a bits = reported_holds g spot rule.WrongType
  member_ranged (Relation rel.Greater) spot at a bits = reported_holds g spot rule.WrongType
  member_ranged (Relation rel.AtLeast) spot at a bits = reported_holds g spot rule.WrongType
  member_ranged (Relation rel.In) spot at a bits =
      where_holds g _ spot rule.WrongType (where_holds g _ at rule.OutOfRange (truth_ranged _))

  related_ranged : (spot : Pos) (r : RelOp) (a b : ℕ) → V_ (set_related g spot r a b)
  related_ranged spot rel.Equal a b = truth_ranged _
  related_ranged spot rel.Unequal a b = truth_ranged _
  related_ranged spot rel.Less a b = reported_holds g spot rule.WrongType
  related_ranged spot rel.AtMost a b = truth_ranged _
  related_ranged spot rel.Greater a b = reported_holds g spot rule.WrongType
  related_ranged spot rel.AtLeast a b = truth_ranged _
  related_ranged spot rel.In a b = reported_holds g spot rule.WrongType

  sets_ranged : (op : BinaryOp) (spot : Pos) (a b : ℕ) → V_ (on_sets g op spot a b)
  sets_ranged Plus spot a b = fine _ tt
  sets_ranged Minus spot a b = fine _ tt
  sets_ranged Times spot a b = fine _ tt
  sets_ranged Over spot a b = fine _ tt
  sets_ranged Div spot a b = reported_holds g spot rule.WrongType
  sets_ranged Mod spot a b = reported_holds g spot rule.WrongType
  sets_ranged And spot a b = reported_holds g spot rule.WrongType
  sets_ranged Or spot a b = reported_holds g spot rule.WrongType
  sets_ranged (Relation r) spot a b = related_ranged spot r a b

  binary_ranged : (op : BinaryOp) (spot at : Pos) (x : Option Operand) (at' : Pos) (y : Option Operand)
      → V_ (binary g op spot at x at' y)
  binary_ranged op spot at (Some (operands.Scalar a)) at' (Some (operands.Scalar b)) =
      scalars_ranged op spot at a at' b (common a.sort b.sort)
  binary_ranged op spot at (Some (operands.Scalar a)) at' (Some (operands.Set b)) = member_ranged op spot at a b
  binary_ranged op spot at (Some (operands.Scalar a)) at' None = reported_holds g spot rule.WrongType
  binary_ranged op spot at (Some (operands.Set a)) at' (Some (operands.Scalar b)) = reported_holds g spot rule.WrongType
  binary_ranged op spot at (Some (operands.Set a)) at' (Some (operands.Set b)) = sets_ranged op spot a b
  binary_ranged op spot at (Some (operands.Set a)) at' None = reported_holds g spot rule.WrongType
  binary_ranged op spot at None at' y = reported_holds g spot rule.WrongType

  pub combined_ranged : (op : BinaryOp) (spot at : Pos) (x : Result Value g.Reported) (at' : Pos)
      (y : Result Value g.Reported) → V_ (constant_operation g op spot at x at' y)
  combined_ranged op spot at x at' y = then_holds (any_holds (both g x y))
      (λ v k. binary_ranged op spot at (operand_of v.0) at' (operand_of v.1))

  signed_number : (sort : Option TypeNo) → is_signed sort ≡ true → is_number sort ≡ true
  signed_number None e = refl
  signed_number (Some t) e = integer_numeric (is_integer t) (are_same t cardinal) e

  signed_scalar_ranged : (o : Sign) (spot : Pos) (a : Ordinal) → SortRanged types a.sort a.number
      → V_ (signed_scalar g o spot a)
  signed_scalar_ranged sign.Plus spot a p =
      where_holds g _ spot rule.WrongType (fine (number_value a.sort a.number) (sort_valued a.sort a.number p))
  signed_scalar_ranged sign.Minus spot a p =
      where_not g (ValueRanged types) (is_signed a.sort) spot rule.WrongType
      (λ e. number_ranged spot a.sort (whole_arithmetic Minus (pos 0) a.number) (signed_number a.sort e))

  signed_value_ranged : (o : Sign) (spot : Pos) (x : Option Operand) → OperandRanged types x
      → V_ (signed_value g o spot x)
  signed_value_ranged o spot None p = reported_holds g spot rule.WrongType
  signed_value_ranged o spot (Some (operands.Set bits)) p = reported_holds g spot rule.WrongType
  signed_value_ranged o spot (Some (operands.Scalar a)) p = signed_scalar_ranged o spot a p

  pub signed_ranged : (o : Sign) (spot : Pos) {x : Result Value g.Reported} → V_ x → V_ (with_sign g o spot x)
  signed_ranged o spot p = then_holds p (λ v k. signed_value_ranged o spot (operand_of v) (operand_ranged types v k))

  negated_value_ranged : (spot : Pos) (x : Option Operand) → V_ (negated_value g spot x)
  negated_value_ranged spot None = reported_holds g spot rule.WrongType
  negated_value_ranged spot (Some (operands.Set bits)) = reported_holds g spot rule.WrongType
  negated_value_ranged spot (Some (operands.Scalar a)) = where_holds g _ spot rule.WrongType (truth_ranged _)

  pub negated_ranged : (spot : Pos) (x : Result Value g.Reported) → V_ (negation g spot x)
  negated_ranged spot x = then_holds (any_holds x) (λ v k. negated_value_ranged spot (operand_of v))

  -- ---- standard functions of one argument

  abbrev PartRanged : Option Ordinal → Type 0
  PartRanged None = Unit {0}
  PartRanged (Some a) = SortRanged types a.sort a.number

  part_ranged : (o : Option Operand) → OperandRanged types o → PartRanged (scalar_part o)
  part_ranged None p = tt
  part_ranged (Some (operands.Set bits)) p = tt
  part_ranged (Some (operands.Scalar a)) p = p

  absolute_by : (at : Pos) (a : Ordinal) (b : Bool) → is_number a.sort ≡ b
      → V_ (absolute_part g at (cond b (Some a) None))
  absolute_by at a true e =
      either g (ValueRanged types) (int_lt a.number (pos 0)) {x = evaluated_at g at a.sort Minus (pos 0) a.number}
      {y = number_at g at a.sort a.number} (number_ranged at a.sort (whole_arithmetic Minus (pos 0) a.number) e)
      (number_ranged at a.sort a.number e)
  absolute_by at a false e = reported_holds g at rule.WrongArgument

  absolute_if : (at : Pos) (o : Option Ordinal) → V_ (absolute_part g at (if_number o))
  absolute_if at None = reported_holds g at rule.WrongArgument
  absolute_if at (Some a) = absolute_by at a (is_number a.sort) refl

  character_of : (at : Pos) (o : Option Ordinal) → V_ (character_part g at o)
  character_of at None = reported_holds g at rule.WrongArgument
  character_of at (Some a) = where_not g (ValueRanged types) (is_between (pos 0) a.number (pos 255)) at rule.OutOfRange
      (λ e. let k = between_in (pos 0) a.number (pos 255) e in
      fine (number_value (Some char) a.number) (char_ranged a.number k.0 k.1))

  odd_of : (at : Pos) (o : Option Ordinal) → V_ (odd_part g at o)
  odd_of at None = reported_holds g at rule.WrongArgument
  odd_of at (Some a) = truth_ranged _

  ordinal_of_ranged : (at : Pos) (o : Option Ordinal) → V_ (ordinal_part g at o)
  ordinal_of_ranged at None = reported_holds g at rule.WrongArgument
  ordinal_of_ranged at (Some a) = number_ranged at (Some cardinal) a.number refl

  char_bounds : (t : TypeNo) (n : ℤ) → t ≡ char → IsNumber types t t n → (pos 0 ≤ℤ n) × (n ≤ℤ pos 255)
  char_bounds t n e p =
      let same : p.range ≡ range char (pos 0) (pos 255) =
      one_range p.range (range char (pos 0) (pos 255)) (sym p.at ∙ ap (λ (u : TypeNo). scalar_at types u) e) in
      (subst (λ (r : Range). r.low ≤ℤ n) same p.low, subst (λ (r : Range). n ≤ℤ r.high) same p.high)

  upper_ranged : (n : ℤ) → (pos 0 ≤ℤ n) × (n ≤ℤ pos 255) → ValueRanged types (number_value (Some char) (upper n))
  upper_ranged n p = let k = upper_by (is_between (pos 97) n (pos 122)) n refl p.0 p.1 in char_ranged (upper n) k.0 k.1

  capital_number : (sort : Option TypeNo) (n : ℤ) → is_char sort ≡ true → SortRanged types sort n → (pos 0 ≤ℤ n)
      × (n ≤ℤ pos 255)
  capital_number None n e p = absurd cc
  capital_number (Some t) n e p = char_bounds t n (same_types t char e) p

  capital_of : (at : Pos) (o : Option Ordinal) → PartRanged o → V_ (capital_part g at o)
  capital_of at None p = reported_holds g at rule.WrongArgument
  capital_of at (Some a) p = where_not g (ValueRanged types) (is_char a.sort) at rule.WrongArgument
      (λ e. fine (number_value (Some char) (upper a.number))
      (upper_ranged a.number (capital_number a.sort a.number e p)))

  unary_value : (f : Standard) (at : Pos) (v : Value) → ValueRanged types v → V_ (unary_of g f at v)
  unary_value Abs at v p = absolute_if at (scalar_part (operand_of v))
  unary_value Cap at v p = capital_of at (scalar_part (operand_of v))
      (part_ranged (operand_of v) (operand_ranged types v p))
  unary_value Chr at v p = character_of at (whole_number v)
  unary_value High at v p = reported_holds g at rule.NoConstant
  unary_value Max at v p = reported_holds g at rule.NoConstant
  unary_value Min at v p = reported_holds g at rule.NoConstant
  unary_value Odd at v p = odd_of at (whole_number v)
  unary_value Ord at v p = ordinal_of_ranged at (scalar_part (operand_of v))
  unary_value Val at v p = reported_holds g at rule.NoConstant
  unary_value Inc at v p = reported_holds g at rule.NoConstant
  unary_value Dec at v p = reported_holds g at rule.NoConstant
  unary_value Incl at v p = reported_holds g at rule.NoConstant
  unary_value Excl at v p = reported_holds g at rule.NoConstant
  unary_value Halt at v p = reported_holds g at rule.NoConstant
  unary_value Put at v p = reported_holds g at rule.NoConstant

  pub unary_ranged : (f : Standard) {x : Result (Pos × Value) g.Reported}
      → Holds (λ (p : Pos × Value). ValueRanged types p.1) x → V_ (unary g f x)
  unary_ranged f p = then_holds p (λ x k. unary_value f x.0 x.1 k)

-- ---- standard functions of a type

module _ (g : Gathers) (s : Scope g.Reported) (h : ScopeRanged s) where
  -- a type that is a scalar
  abbrev pub TypeIs : TypeNo × Range → Type 0
  TypeIs p = scalar_at s.types p.0 ≡ Some p.1

  bound_value : (t : TypeNo) (r : Range) (n : ℤ) → scalar_at s.types t ≡ Some r → r.low ≤ℤ n → n ≤ℤ r.high
      → ValueRanged s.types (bound_of t r n)
  bound_value t r n e l u =
      let b : IsBased s.types r = based_at s.types h.own h.others t r e in (
        record { range = r; at = e; own = refl; low = l; high = u },
        number_between s.types r.base r.base r.low n r.high
            b.low b.high l u,
      )

  least_value : (t : TypeNo) (r : Range) → scalar_at s.types t ≡ Some r → ValueRanged s.types (bound_of t r r.low)
  least_value t r e = bound_value t r r.low e (at_itself r.low)
      (let k : IsRange t r = range_at s.types h.types t r e in k.some)

  greatest_value : (t : TypeNo) (r : Range) → scalar_at s.types t ≡ Some r → ValueRanged s.types (bound_of t r r.high)
  greatest_value t r e = bound_value t r r.high e (let k : IsRange t r = range_at s.types h.types t r e in k.some)
      (at_itself r.high)

  bound_by_ranged : (f : Standard) (t : TypeNo) (r : Range) → scalar_at s.types t ≡ Some r
      → ValueRanged s.types (bound_by f t r)
  bound_by_ranged Min t r e = least_value t r e
  bound_by_ranged Abs t r e = greatest_value t r e
  bound_by_ranged Cap t r e = greatest_value t r e
  bound_by_ranged Chr t r e = greatest_value t r e
  bound_by_ranged High t r e = greatest_value t r e
  bound_by_ranged Max t r e = greatest_value t r e
  bound_by_ranged Odd t r e = greatest_value t r e
  bound_by_ranged Ord t r e = greatest_value t r e
  bound_by_ranged Val t r e = greatest_value t r e
  bound_by_ranged Inc t r e = greatest_value t r e
  bound_by_ranged Dec t r e = greatest_value t r e
  bound_by_ranged Incl t r e = greatest_value t r e
  bound_by_ranged Excl t r e = greatest_value t r e
  bound_by_ranged Halt t r e = greatest_value t r e
  bound_by_ranged Put t r e = greatest_value t r e

  pub bound_ranged : (f : Standard) {x : Result (TypeNo × Range) g.Reported} → Holds TypeIs x
      → Holds (ValueRanged s.types) (bound f x)
  bound_ranged f p = then_holds p (λ x k. fine (bound_by f x.0 x.1) (bound_by_ranged f x.0 x.1 k))

  converted_of : (t : TypeNo) (r : Range) (at : Pos) (o : Option Ordinal) → scalar_at s.types t ≡ Some r
      → Holds (ValueRanged s.types) (converted_part g t r at o)
  converted_of t r at None e = reported_holds g at rule.WrongArgument
  converted_of t r at (Some a) e =
      where_not g (ValueRanged s.types) (is_between r.low a.number r.high) at rule.OutOfRange
      (λ f. let k = between_in r.low a.number r.high f in
      fine (bound_of t r a.number) (bound_value t r a.number e k.0 k.1))

  pub converted_ranged : {to : Result (TypeNo × Range) g.Reported} (at : Pos) (v : Result Value g.Reported)
      → Holds TypeIs to → Holds (ValueRanged s.types) (conversion_call g to at v)
  converted_ranged at v p = then_holds (both_holds g p (any_holds v))
      (λ x k. converted_of x.0.0 x.0.1 at (whole_number x.1) k.0)
