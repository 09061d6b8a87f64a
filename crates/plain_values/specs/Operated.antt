-- An operator with its first operand.
use Rattle.std.specs.Prelude.{ℤ}
use Rattle.typed_tree.specs.declared.computed.Arithmetic.{Arithmetic}
use Rattle.typed_tree.specs.declared.types.TypeNo.{TypeNo}
use Rattle.typed_tree.specs.declared.known_types.Types.{Types}
use Rattle.def_meaning.specs.Answer.{State as Meant, Answer as Given}
use Rattle.def_meaning.specs.Expressions.{arithmetic_result}

unfoldable pub operated_on : Types → Arithmetic → TypeNo → ℤ → ℤ → Meant → Given ℤ
operated_on types o t x y st = arithmetic_result types o t x y st
