-- Sets that constants are: numbers of 32 bits.
use Rattle.std.proofs.Common.{ℕ, ◌<◌, ◌≤◌, ◌^◌, ◌/◌, ℤ, pos, Bool, true, false, List, [], ◌∷◌, Option, Some, None, Result, Ok, Err, arith}
use Rattle.std.proofs.lemmas.Nat.{and_le_l, or_lt, xor_lt}
use Rattle.std.specs.Prelude.{bit_and, bit_or, bit_xor, ◌-◌, cond, int_lt}
use Rattle.std.specs.List.{fold}
use Rattle.m2_rule.specs.declared.rule.Rule.TheVariants as rule
use Rattle.m2_tree.specs.declared.pos.Pos.{Pos}
use Rattle.m2_tree.specs.declared.expr.RelOp.{RelOp}
use Rattle.m2_tree.specs.declared.expr.RelOp.TheVariants as rel
use Rattle.m2_tree.specs.declared.expr.Sign.{Sign}
use Rattle.m2_tree.specs.declared.expr.Sign.TheVariants as sign
use Rattle.typed_tree.specs.declared.types.TypeNo.{TypeNo}
use Rattle.typed_tree.specs.declared.shape.Scalar.{Scalar as Range}
use Rattle.typed_tree.specs.declared.meaning.Standard.{Standard}
use Rattle.typed_tree.specs.declared.meaning.Standard.TheVariants.{Abs, Cap, Chr, High, Max, Min, Odd, Ord, Val, Inc, Dec, Incl, Excl, Halt, Put}
use Rattle.typed_tree.specs.declared.meaning.Value.{Value}
use Rattle.typed_tree.specs.declared.meaning.Value.TheVariants as value
use Rattle.typed_tree.specs.Types.{cardinal}
use Rattle.check_scope.specs.Elaborated.{Gathers}
use Rattle.check_scope.specs.declared.scope.Scope.{Scope}
use Rattle.check_const.specs.declared.operand.Ordinal.{Ordinal}
use Rattle.check_const.specs.declared.operand.Operand.{Operand}
use Rattle.check_const.specs.declared.operand.Operand.TheVariants as operands
use Rattle.check_const.specs.declared.operator.BinaryOp.{BinaryOp}
use Rattle.check_const.specs.declared.operator.BinaryOp.TheVariants.{Plus, Minus, Times, Over, Div, Mod, And, Or, Relation}
use Rattle.check_const.specs.Operands.{operand_of, letter, letter_operand, number_value, truth}
use Rattle.check_const.specs.Numbers.{number_at, whole_arithmetic, quotient, remainder}
use Rattle.check_const.specs.Common.{common}
use Rattle.check_const.specs.Sets.{without, set_related, on_sets, member, place, up_to, with_span, set_element, single}
use Rattle.check_const.specs.Operate.{ordinal_result, ordinal_operation, on_scalars, binary, signed_scalar, signed_value, negated_value}
use Rattle.check_const.specs.Standards.{scalar_part, whole_number, absolute_part, capital_part, character_part, odd_part, ordinal_part}
use Rattle.check_const.specs.Calls.{unary_of, bound_by}
use Rattle.check_const.specs.Parts.{Part, Adds, joined_bits, constant, element_or_range, with_item}
use Rattle.law_well_formed.specs.Formed.{Holds, fine, broken}
use Rattle.law_well_formed.proofs.Basics.{then_holds, reported_holds, where_holds, both_holds, any_holds}
use Rattle.law_programs.specs.Typing.{IsWord}

-- ---- two facts about one result

holds_in : {A T : Type 0} {P : A → Type 0} {x : A} → Holds {T = T} P (Ok x) → P x
holds_in (fine x p) = p

pub holds_both : {A T : Type 0} {P Q : A → Type 0} (r : Result A T) → Holds P r → Holds Q r → Holds (λ x. P x × Q x) r
holds_both (Ok x) p q = fine x (holds_in p, holds_in q)
holds_both (Err e) p q = broken e

-- ---- bits

abbrev pub Small : ℕ → Type 0
Small n = n < 2 ^ 32

without_small : (a b : ℕ) → Small a → Small (without a b)
without_small a b h = let e = and_le_l a (bit_xor b 4294967295) in omega (arith, h, e)

up_to_small : (n : ℕ) → Small (up_to n)
up_to_small n = let e = divided 4294967295 (2 ^ (31 - n)) in omega (arith, e) where
  divided : (a b : ℕ) → a / b ≤ a
  divided a b = grind arith

pub span_small : (low high : ℤ) → Small (with_span 0 low high)
span_small low high = or_lt 32 0 (without (up_to (place high)) (up_to (place low) / 2)) (omega arith)
    (without_small (up_to (place high)) (up_to (place low) / 2) (up_to_small (place high)))

-- ---- operands

abbrev pub OperandWord : Option Operand → Type 0
OperandWord None = Unit {0}
OperandWord (Some (operands.Scalar a)) = Unit {0}
OperandWord (Some (operands.Set bits)) = Small bits

letter_word : (o : Option ℕ) → OperandWord (letter_operand o)
letter_word None = tt
letter_word (Some c) = tt

pub operand_word : (v : Value) → IsWord v → OperandWord (operand_of v)
operand_word (value.Number n) p = tt
operand_word (value.Scalar s) p = tt
operand_word (value.Set bits) p = p
operand_word (value.Text text) p = letter_word (letter text)

module _ (g : Gathers) where
  abbrev pub W_ : Result Value g.Reported → Type 0
  W_ r = Holds IsWord r

  pub valued_word : (sort : Option TypeNo) (n : ℤ) → IsWord (number_value sort n)
  valued_word None n = tt
  valued_word (Some t) n = tt

  number_words : (at : Pos) (sort : Option TypeNo) (n : ℤ) → W_ (number_at g at sort n)
  number_words at sort n = where_holds g _ at rule.OutOfRange (fine (number_value sort n) (valued_word sort n))

  truth_words : (b : Bool) → W_ (Ok (truth b))
  truth_words b = fine (truth b) tt

  applied_words : (op : BinaryOp) (spot : Pos) (sort : Option TypeNo) (x y : ℤ) → W_ (ordinal_result g op spot sort x y)
  applied_words Plus spot sort x y = number_words spot sort (whole_arithmetic Plus x y)
  applied_words Minus spot sort x y = number_words spot sort (whole_arithmetic Minus x y)
  applied_words Times spot sort x y = number_words spot sort (whole_arithmetic Times x y)
  applied_words Over spot sort x y = reported_holds g spot rule.WrongType
  applied_words Div spot sort x y = number_words spot sort (quotient x y)
  applied_words Mod spot sort x y = number_words spot sort (remainder x y)
  applied_words And spot sort x y = truth_words _
  applied_words Or spot sort x y = truth_words _
  applied_words (Relation r) spot sort x y = truth_words _

  operated_words : (op : BinaryOp) (spot : Pos) (sort : Option TypeNo) (at : Pos) (a : Ordinal) (at' : Pos)
      (b : Ordinal) → W_ (ordinal_operation g op spot sort at a at' b)
  operated_words op spot sort at a at' b =
      where_holds g _ spot rule.WrongType (then_holds (any_holds _)
      (λ x k. applied_words op spot sort a.number b.number))

  scalars_words : (op : BinaryOp) (spot at : Pos) (a : Ordinal) (at' : Pos) (b : Ordinal) (o : Option (Option TypeNo))
      → W_ (on_scalars g op spot at a at' b o)
  scalars_words op spot at a at' b None = reported_holds g spot rule.WrongType
  scalars_words op spot at a at' b (Some sort) = operated_words op spot sort at a at' b

  member_words : (op : BinaryOp) (spot at : Pos) (a : Ordinal) (bits : ℕ) → W_ (member g op spot at a bits)
  member_words Plus spot at a bits = reported_holds g spot rule.WrongType
  member_words Minus spot at a bits = reported_holds g spot rule.WrongType
  member_words Times spot at a bits = reported_holds g spot rule.WrongType
  member_words Over spot at a bits = reported_holds g spot rule.WrongType
  member_words Div spot at a bits = reported_holds g spot rule.WrongType
  member_words Mod spot at a bits = reported_holds g spot rule.WrongType
  member_words And spot at a bits = reported_holds g spot rule.WrongType
  member_words Or spot at a bits = reported_holds g spot rule.WrongType
  member_words (Relation rel.Equal) spot at a bits = reported_holds g spot rule.WrongType
  member_words (Relation rel.Unequal) spot at a bits = reported_holds g spot rule.WrongType
  member_words (Relation rel.Less) spot at a bits = reported_holds g spot rule.WrongType
  member_words (Relation rel.AtMost) spot at a bits = reported_holds g spot rule.WrongType
  member_words (Relation rel.Greater) spot at a bits = reported_holds g spot rule.WrongType
  member_words (Relation rel.AtLeast) spot at a bits = reported_holds g spot rule.WrongType
  member_words (Relation rel.In) spot at a bits =
      where_holds g _ spot rule.WrongType (where_holds g _ at rule.OutOfRange (truth_words _))

  related_words : (spot : Pos) (r : RelOp) (a b : ℕ) → W_ (set_related g spot r a b)
  related_words spot rel.Equal a b = truth_words _
  related_words spot rel.Unequal a b = truth_words _
  related_words spot rel.Less a b = reported_holds g spot rule.WrongType
  related_words spot rel.AtMost a b = truth_words _
  related_words spot rel.Greater a b = reported_holds g spot rule.WrongType
  related_words spot rel.AtLeast a b = truth_words _
  related_words spot rel.In a b = reported_holds g spot rule.WrongType

  sets_words : (op : BinaryOp) (spot : Pos) (a b : ℕ) → Small a → Small b → W_ (on_sets g op spot a b)
  sets_words Plus spot a b p q = fine (value.Set (bit_or a b)) (or_lt 32 a b p q)
  sets_words Minus spot a b p q = fine (value.Set (without a b)) (without_small a b p)
  sets_words Times spot a b p q = fine (value.Set (bit_and a b)) (let e = and_le_l a b in omega (arith, p, e))
  sets_words Over spot a b p q = fine (value.Set (bit_xor a b)) (xor_lt 32 a b p q)
  sets_words Div spot a b p q = reported_holds g spot rule.WrongType
  sets_words Mod spot a b p q = reported_holds g spot rule.WrongType
  sets_words And spot a b p q = reported_holds g spot rule.WrongType
  sets_words Or spot a b p q = reported_holds g spot rule.WrongType
  sets_words (Relation r) spot a b p q = related_words spot r a b

  pub binary_words : (op : BinaryOp) (spot at : Pos) (x : Option Operand) (at' : Pos) (y : Option Operand)
      → OperandWord x → OperandWord y → W_ (binary g op spot at x at' y)
  binary_words op spot at (Some (operands.Scalar a)) at' (Some (operands.Scalar b)) p q =
      scalars_words op spot at a at' b (common a.sort b.sort)
  binary_words op spot at (Some (operands.Scalar a)) at' (Some (operands.Set b)) p q = member_words op spot at a b
  binary_words op spot at (Some (operands.Scalar a)) at' None p q = reported_holds g spot rule.WrongType
  binary_words op spot at (Some (operands.Set a)) at' (Some (operands.Scalar b)) p q =
      reported_holds g spot rule.WrongType
  binary_words op spot at (Some (operands.Set a)) at' (Some (operands.Set b)) p q = sets_words op spot a b p q
  binary_words op spot at (Some (operands.Set a)) at' None p q = reported_holds g spot rule.WrongType
  binary_words op spot at None at' y p q = reported_holds g spot rule.WrongType

  signed_scalar_words : (o : Sign) (spot : Pos) (a : Ordinal) → W_ (signed_scalar g o spot a)
  signed_scalar_words sign.Plus spot a = where_holds g _ spot rule.WrongType
      (fine (number_value a.sort a.number) (valued_word a.sort a.number))
  signed_scalar_words sign.Minus spot a =
      where_holds g _ spot rule.WrongType (number_words spot a.sort (whole_arithmetic Minus (pos 0) a.number))

  pub signed_words : (o : Sign) (spot : Pos) (x : Option Operand) → W_ (signed_value g o spot x)
  signed_words o spot None = reported_holds g spot rule.WrongType
  signed_words o spot (Some (operands.Set bits)) = reported_holds g spot rule.WrongType
  signed_words o spot (Some (operands.Scalar a)) = signed_scalar_words o spot a

  pub negated_words : (spot : Pos) (x : Option Operand) → W_ (negated_value g spot x)
  negated_words spot None = reported_holds g spot rule.WrongType
  negated_words spot (Some (operands.Set bits)) = reported_holds g spot rule.WrongType
  negated_words spot (Some (operands.Scalar a)) = where_holds g _ spot rule.WrongType (truth_words _)

  -- ---- standard functions

  either_words : (b : Bool) {x y : Result Value g.Reported} → W_ x → W_ y → W_ (cond b x y)
  either_words true p q = p
  either_words false p q = q

  absolute_words : (at : Pos) (o : Option Ordinal) → W_ (absolute_part g at o)
  absolute_words at None = reported_holds g at rule.WrongArgument
  absolute_words at (Some a) = either_words (int_lt a.number (pos 0)) (number_words at a.sort _)
      (number_words at a.sort a.number)

  capital_words : (at : Pos) (o : Option Ordinal) → W_ (capital_part g at o)
  capital_words at None = reported_holds g at rule.WrongArgument
  capital_words at (Some a) = where_holds g _ at rule.WrongArgument (fine _ tt)

  character_words : (at : Pos) (o : Option Ordinal) → W_ (character_part g at o)
  character_words at None = reported_holds g at rule.WrongArgument
  character_words at (Some a) = where_holds g _ at rule.OutOfRange (fine _ tt)

  odd_words : (at : Pos) (o : Option Ordinal) → W_ (odd_part g at o)
  odd_words at None = reported_holds g at rule.WrongArgument
  odd_words at (Some a) = truth_words _

  ordinal_words : (at : Pos) (o : Option Ordinal) → W_ (ordinal_part g at o)
  ordinal_words at None = reported_holds g at rule.WrongArgument
  ordinal_words at (Some a) = number_words at (Some cardinal) a.number

  pub unary_words : (f : Standard) (at : Pos) (v : Value) → W_ (unary_of g f at v)
  unary_words Abs at v = absolute_words at (whole_number v)
  unary_words Cap at v = capital_words at (scalar_part (operand_of v))
  unary_words Chr at v = character_words at (whole_number v)
  unary_words High at v = reported_holds g at rule.NoConstant
  unary_words Max at v = reported_holds g at rule.NoConstant
  unary_words Min at v = reported_holds g at rule.NoConstant
  unary_words Odd at v = odd_words at (whole_number v)
  unary_words Ord at v = ordinal_words at (scalar_part (operand_of v))
  unary_words Val at v = reported_holds g at rule.NoConstant
  unary_words Inc at v = reported_holds g at rule.NoConstant
  unary_words Dec at v = reported_holds g at rule.NoConstant
  unary_words Incl at v = reported_holds g at rule.NoConstant
  unary_words Excl at v = reported_holds g at rule.NoConstant
  unary_words Halt at v = reported_holds g at rule.NoConstant
  unary_words Put at v = reported_holds g at rule.NoConstant

  pub bound_word : (f : Standard) (t : TypeNo) (r : Range) → IsWord (bound_by f t r)
  bound_word Min t r = tt
  bound_word Abs t r = tt
  bound_word Cap t r = tt
  bound_word Chr t r = tt
  bound_word High t r = tt
  bound_word Max t r = tt
  bound_word Odd t r = tt
  bound_word Ord t r = tt
  bound_word Val t r = tt
  bound_word Inc t r = tt
  bound_word Dec t r = tt
  bound_word Incl t r = tt
  bound_word Excl t r = tt
  bound_word Halt t r = tt
  bound_word Put t r = tt

  -- ---- elements in braces

  abbrev pub B_ : Result ℕ g.Reported → Type 0
  B_ r = Holds Small r

  single_small : (at : Pos) (v : Value) → B_ (single g at v)
  single_small at v = then_holds (any_holds (set_element g at v))
      (λ a k. then_holds (any_holds _) (λ f j. fine (with_span 0 a.number a.number) (span_small a.number a.number)))

  pub added_small : (s : Scope g.Reported) (low : Part g.Reported) (high : Option (Part g.Reported))
      → B_ (element_or_range g s low high)
  added_small s low None = then_holds (any_holds (constant g s low)) (λ v k. single_small low.at v)
  added_small s low (Some high) = then_holds (any_holds _)
      (λ (p : (Ordinal × Ordinal) × Unit {0}) k. fine (with_span 0 p.0.0.number p.0.1.number)
      (span_small p.0.0.number p.0.1.number))

  joined_small : {so more : Result ℕ g.Reported} → B_ so → B_ more → B_ (joined_bits g so more)
  joined_small p q = then_holds (both_holds g p q) (λ v k. fine (bit_or v.0 v.1) (or_lt 32 v.0 v.1 k.0 k.1))

  abbrev pub AllSmall : Scope g.Reported → List (Adds g.Reported) → Type 0
  AllSmall s [] = Unit {0}
  AllSmall s (i ∷ is) = B_ (i s) × AllSmall s is

  pub items_small : (s : Scope g.Reported) (is : List (Adds g.Reported)) (so : Result ℕ g.Reported) → B_ so
      → AllSmall s is → B_ (fold (with_item g s) so is)
  items_small s [] so p all = p
  items_small s (i ∷ is) so p all = items_small s is (with_item g s so i) (joined_small p all.0) all.1
