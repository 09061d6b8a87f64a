-- What the checker makes of expressions is well formed, if names mean what is there.
use Rattle.std.specs.Prelude.{◌≡◌, ℕ, ◌<◌, Bool, true, Some, Result, Ok, Err}
use Rattle.m2_tree.specs.declared.name.Ident.{Ident}
use Rattle.m2_tree.specs.declared.expr.Expr.{Expr}
use Rattle.typed_tree.specs.declared.meaning.Meaning.{Meaning}
use Rattle.typed_tree.specs.declared.meaning.Meaning.TheVariants as meaning
use Rattle.typed_tree.specs.declared.shape.Made.{Made}
use Rattle.typed_tree.specs.declared.typed_module.TypedModule.{TypedModule}
use Rattle.typed_tree.specs.declared.types.TypeNo.{TypeNo}
use Rattle.typed_tree.specs.Known.{made_at}
use Rattle.check_scope.specs.Elaborated.{Gathers}
use Rattle.check_scope.specs.Scopes.{looked_up}
use Rattle.check_scope.specs.declared.scope.Scope.{Scope}
use Rattle.check_const.specs.Denote.{exported_meaning}
use Rattle.check_value.specs.declared.computed.Computed.{Computed}
use Rattle.check_value.specs.declared.computed.Computed.TheVariants as value
use Rattle.check_value.specs.declared.computed.Designated.{Designated}
use Rattle.check_value.specs.declared.computed.Designated.TheVariants as designated
use Rattle.check_expr.specs.Meanings.{meanings_of}
use Rattle.law_modules.specs.WellFormed.{IsKnown, IsRoutine, IsProcedure, IsExpr, IsPlace}

-- if there is one, it is as the fact says
pub data Holds {A T : Type 0} (P : A → Type 0) : Result A T → Type 0 where
  fine : (x : A) → P x → Holds P (Ok x)
  broken : (e : T) → Holds P (Err e)

module _ (m : TypedModule) (withs : ℕ) where
  abbrev pub FormedValue : Computed → Type 0
  FormedValue (value.Constant v) = Unit {0}
  FormedValue (value.Scalar t b e) = IsExpr m withs e
  FormedValue (value.Set e) = IsExpr m withs e
  FormedValue (value.Routine t e) = IsExpr m withs e
  FormedValue (value.Procedure p) = IsProcedure m p
  FormedValue (value.Whole t d) = IsPlace m withs d
  FormedValue value.Untaken = Unit {0}

-- names may stand for the modules that are open
module _ (m : TypedModule) (opens : ℕ → Bool) (withs : ℕ) where
  -- what a name means is there
  abbrev pub FormedMeaning : Meaning → Type 0
  FormedMeaning (meaning.Constant v) = Unit {0}
  FormedMeaning (meaning.Type t n) = Unit {0}
  FormedMeaning (meaning.Variable v) = IsKnown m v.home
  FormedMeaning (meaning.Local v) = Unit {0}
  FormedMeaning (meaning.Field f) = f.with < withs
  FormedMeaning (meaning.Procedure p) = IsProcedure m p
  FormedMeaning (meaning.LocalProcedure p) = IsRoutine m.locals p.number p.heading
  FormedMeaning meaning.Ahead = Unit {0}
  FormedMeaning (meaning.Standard f) = Unit {0}
  FormedMeaning (meaning.Module k) = opens k ≡ true

  abbrev pub FormedDesignated : Designated → Type 0
  FormedDesignated (designated.Value x) = FormedValue m withs x
  FormedDesignated (designated.Variable t d) = IsPlace m withs d
  FormedDesignated (designated.Open t slot) = Unit {0}
  FormedDesignated (designated.Type t) = Unit {0}
  FormedDesignated (designated.Procedure p) = IsProcedure m p
  FormedDesignated (designated.Nested p) = IsRoutine m.locals p.number p.heading
  FormedDesignated (designated.Standard f) = Unit {0}
  FormedDesignated (designated.Module k) = opens k ≡ true

-- The types that are known in a scope are the types of the module, its names mean what is there,
-- and so do those that open modules export.
pub record IsFormed (g : Gathers) (m : TypedModule) (opens : ℕ → Bool) (withs : ℕ)
    (s : Scope g.Reported) : Type 0 where
  pub types : (t : TypeNo) (x : Made) → made_at s.types t ≡ Some x → made_at m.types t ≡ Some x
  pub names : (name : Ident) → Holds (FormedMeaning m opens withs) (looked_up g s name)
  pub members : (k : ℕ) (name : Ident) → opens k ≡ true
      → Holds (FormedMeaning m opens withs) (exported_meaning g s.tables k name)

-- what the checker makes of an expression, if broken rules are gathered so
abbrev pub ExpressionsAreFormed : Gathers → Type 0
ExpressionsAreFormed g = (m : TypedModule) (opens : ℕ → Bool) (withs : ℕ) (s : Scope g.Reported)
    → IsFormed g m opens withs s → (e : Expr)
    → Holds (FormedDesignated m opens withs) ((meanings_of g e).means s)
