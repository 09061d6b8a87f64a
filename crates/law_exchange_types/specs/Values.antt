-- What is computed and what is designated, with other numbers of modules.
use Rattle.check_value.specs.declared.class.Class.{Class}
use Rattle.check_value.specs.declared.class.Class.TheVariants as class
use Rattle.check_value.specs.declared.computed.Computed.{Computed}
use Rattle.check_value.specs.declared.computed.Computed.TheVariants as computed
use Rattle.check_value.specs.declared.computed.Designated.{Designated}
use Rattle.check_value.specs.declared.computed.Designated.TheVariants as designated
use Rattle.check_value.specs.declared.side.Amount.{Amount}
use Rattle.check_value.specs.declared.side.Amount.TheVariants.{Known, Run}
use Rattle.check_value.specs.declared.side.Side.{Side}
use Rattle.check_value.specs.declared.side.Side.TheVariants as side
use Rattle.check_value.specs.declared.select.Subscripted.{Subscripted}
use Rattle.check_value.specs.declared.select.Subscripted.TheVariants as indexes
use Rattle.check_value.specs.declared.places.Accepted.{Accepted}
use Rattle.check_value.specs.declared.places.Accepted.TheVariants as accepted
use Rattle.check_value.specs.declared.callee.Callee.{Callee}
use Rattle.check_value.specs.declared.callee.Callee.TheVariants as callee
use Rattle.check_value.specs.declared.callee.Called.{Called}
use Rattle.check_value.specs.declared.callee.Called.TheVariants as called
use Rattle.def_exchange.specs.Moved.{Exchange, moved_type, moved_scalar, moved_value, moved_procedure}
use Rattle.law_exchange_types.specs.Constants.{moved_ordinal}
use Rattle.law_exchange_types.specs.Trees.{moved_inner, moved_expr, moved_place}

module _ (x : Exchange) where
  abbrev pub moved_class : Class → Class
  moved_class (class.Scalar s) = class.Scalar (moved_scalar x s)
  moved_class class.Set = class.Set
  moved_class class.Procedure = class.Procedure
  moved_class class.Whole = class.Whole

  abbrev pub moved_computed : Computed → Computed
  moved_computed (computed.Constant v) = computed.Constant (moved_value x v)
  moved_computed (computed.Scalar t b e) =
      computed.Scalar (moved_type x t) (moved_type x b) (moved_expr x e)
  moved_computed (computed.Set e) = computed.Set (moved_expr x e)
  moved_computed (computed.Routine t e) = computed.Routine (moved_type x t) (moved_expr x e)
  moved_computed (computed.Procedure p) = computed.Procedure (moved_procedure x p)
  moved_computed (computed.Whole t d) = computed.Whole (moved_type x t) (moved_place x d)
  moved_computed computed.Untaken = computed.Untaken

  abbrev pub moved_designated : Designated → Designated
  moved_designated (designated.Value v) = designated.Value (moved_computed v)
  moved_designated (designated.Variable t d) =
      designated.Variable (moved_type x t) (moved_place x d)
  moved_designated (designated.Open t slot) = designated.Open (moved_type x t) slot
  moved_designated (designated.«Type» t) = designated.«Type» (moved_type x t)
  moved_designated (designated.Procedure p) = designated.Procedure (moved_procedure x p)
  moved_designated (designated.Nested p) = designated.Nested (moved_inner x p)
  moved_designated (designated.Standard f) = designated.Standard f
  moved_designated (designated.Module k) = designated.Module k

  abbrev pub moved_amount : Amount → Amount
  moved_amount (Known a) = Known (moved_ordinal x a)
  moved_amount (Run b e) = Run (moved_type x b) (moved_expr x e)

  abbrev pub moved_side : Side → Side
  moved_side (side.Scalar a) = side.Scalar (moved_amount a)
  moved_side (side.Set e) = side.Set (moved_expr x e)
  moved_side (side.Routine t e) = side.Routine (moved_type x t) (moved_expr x e)
  moved_side (side.Procedure p) = side.Procedure (moved_procedure x p)

  abbrev pub moved_subscripted : Subscripted → Subscripted
  moved_subscripted (indexes.Array t i e d) =
      indexes.Array (moved_type x t) (moved_type x i) (moved_type x e) (moved_place x d)
  moved_subscripted (indexes.Open t slot) = indexes.Open (moved_type x t) slot

  abbrev pub moved_accepted : Accepted → Accepted
  moved_accepted (accepted.Value e) = accepted.Value (moved_expr x e)
  moved_accepted (accepted.Whole d) = accepted.Whole (moved_place x d)
  moved_accepted (accepted.Text text) = accepted.Text text

  abbrev pub moved_callee : Callee → Callee
  moved_callee (callee.Module p) = callee.Module (moved_procedure x p)
  moved_callee (callee.Nested p) = callee.Nested (moved_inner x p)
  moved_callee (callee.Variable t d) = callee.Variable (moved_type x t) (moved_place x d)

  abbrev pub moved_called : Called → Called
  moved_called (called.Routine t c) = called.Routine (moved_type x t) (moved_callee c)
  moved_called (called.Standard f) = called.Standard f
