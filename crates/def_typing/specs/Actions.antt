-- Calls as statements, and which rules are broken in them.
use Rattle.std.specs.Prelude.{◌≡◌, ℕ, Bool, List, [], ◌∷◌, length, None}
use Rattle.m2_rule.specs.declared.breach.Breach.{Breach}
use Rattle.m2_rule.specs.declared.rule.Rule.TheVariants as rule
use Rattle.m2_tree.specs.declared.name.Ident.{Ident}
use Rattle.m2_tree.specs.declared.expr.Expr.{Expr}
use Rattle.m2_tree.specs.declared.pos.Pos.{Pos}
use Rattle.m2_tree.specs.declared.expr.Designator.{Designator, out-Designator}
use Rattle.typed_tree.specs.declared.types.TypeNo.{TypeNo}
use Rattle.typed_tree.specs.declared.meaning.Standard.{Standard}
use Rattle.typed_tree.specs.declared.meaning.Standard.TheVariants.{Inc, Dec, Incl, Excl, Halt, Put}
use Rattle.typed_tree.specs.declared.shape.Formal.{Formal}
use Rattle.typed_tree.specs.declared.shape.Scalar.{Scalar as Range}
use Rattle.typed_tree.specs.declared.shape.Shape.TheVariants as shape
use Rattle.typed_tree.specs.declared.shape.Signature.{Signature}
use Rattle.typed_tree.specs.declared.known_types.Types.{Types}
use Rattle.typed_tree.specs.Types.{char}
use Rattle.def_typing.specs.Shapes.{IsMade}
use Rattle.def_typing.specs.Operators.{◌!◌, Kind, Scalar, IsElement, operand}
use Rattle.def_typing.specs.Things.{Thing, AVariable, AStandard, Headless, Standing, Mistaken, IsAssignable, Misassigned}
use Rattle.def_typing.specs.Functions.{MayConvert, HasHeading, Mispassed}
use Rattle.def_typing.specs.Parts.{first, Among}
use Rattle.def_typing.specs.Expressions.{Beside, Stands, Has, ArePassed, Denotes, Broken}
use Rattle.def_typing.specs.Assignments.{BrokenDesignator}

-- ---- standard procedures

pub data IsCounting : Standard → Type 0 where
  by_inc : IsCounting Inc
  by_dec : IsCounting Dec

pub data IsSetting : Standard → Type 0 where
  by_incl : IsSetting Incl
  by_excl : IsSetting Excl

-- how many arguments they have
pub data HasCount : Standard → ℕ → Type 0 where
  -- INC and DEC go by 1 if nothing else is written.
  inc_by_one : HasCount Inc 1
  inc_by : HasCount Inc 2
  dec_by_one : HasCount Dec 1
  dec_by : HasCount Dec 2
  to_include : HasCount Incl 2
  to_exclude : HasCount Excl 2
  to_halt : HasCount Halt 0
  to_put : HasCount Put 1

-- INC and DEC take a scalar variable, INCL and EXCL a BITSET variable.
pub data MayChange (types : Types) : Standard → Thing → Type 0 where
  a_scalar : {p : Standard} {t : TypeNo} {r : Range} → IsCounting p
      → IsMade types t (shape.Scalar r) → MayChange types p (AVariable t)
  a_set : {p : Standard} {t : TypeNo} → IsSetting p → IsMade types t shape.Set
      → MayChange types p (AVariable t)

abbrev pub InSet : Kind → Type 0
InSet (Scalar a) = IsElement a
InSet k = ⊥

-- The second argument is an INTEGER, a CARDINAL or a number. A constant element is from 0 to 31.
pub data IsAmount : Standard → Kind → Type 0 where
  a_number : {p : Standard} {k : Kind} → IsCounting p → MayConvert k → IsAmount p k
  an_element : {p : Standard} {k : Kind} → IsSetting p → MayConvert k → InSet k → IsAmount p k

-- the refusals of the second argument
pub data Misamounts (p : Standard) (at : Pos) (k : Kind) : Breach → Type 0 where
  no_number : (MayConvert k → ⊥) → Misamounts p at k (at ! rule.WrongArgument)
  no_element : IsSetting p → MayConvert k → (InSet k → ⊥) → Misamounts p at k (at ! rule.OutOfRange)

-- the argument that is to be a variable
pub data TakesVariable : Standard → List Expr → Expr → Type 0 where
  by_one : {p : Standard} {v : Expr} → IsCounting p → TakesVariable p (v ∷ []) v
  by_number : {p : Standard} {v e : Expr} → IsCounting p → TakesVariable p (v ∷ e ∷ []) v
  of_set : {p : Standard} {v e : Expr} → IsSetting p → TakesVariable p (v ∷ e ∷ []) v

-- the argument that says by how much, or which element
pub data TakesAmount : Standard → List Expr → Expr → Type 0 where
  of_counting : {p : Standard} {v e : Expr} → IsCounting p → TakesAmount p (v ∷ e ∷ []) e
  of_setting : {p : Standard} {v e : Expr} → IsSetting p → TakesAmount p (v ∷ e ∷ []) e

-- the argument that is taken as a value
pub data TakesValue : Standard → List Expr → Expr → Type 0 where
  an_amount : {p : Standard} {args : List Expr} {e : Expr} → TakesAmount p args e
      → TakesValue p args e
  of_put : {e : Expr} → TakesValue Put (e ∷ []) e

-- ---- all procedures

-- a procedure that gives nothing, with a number of arguments that it may have
pub data IsProper (types : Types) : Thing → ℕ → Type 0 where
  proper : {x : Thing} {s : Signature} → HasHeading types x s → s.result ≡ None
      → IsProper types x (length s.formals)
  standard : {p : Standard} {n : ℕ} → HasCount p n → IsProper types (AStandard p) n

module _ (types : Types) (names : Ident → Standing) (exports : ℕ → Ident → Standing) where
  pub data Acts : Thing → List Expr → Type 0 where
    acts : {x : Thing} {s : Signature} {args : List Expr} → HasHeading types x s → s.result ≡ None
        → ArePassed types names exports s.formals args → Acts x args
    -- INC (v), DEC (v)
    counts : {p : Standard} {v : Expr} {x : Thing} → IsCounting p → Stands types names exports v x
        → MayChange types p x → Acts (AStandard p) (v ∷ [])
    -- INC (v, e), DEC (v, e), INCL (v, e), EXCL (v, e)
    changes : {p : Standard} {v e : Expr} {x : Thing} {k : Kind} → Stands types names exports v x
        → MayChange types p x → Has types names exports e k → IsAmount p (operand k)
        → Acts (AStandard p) (v ∷ e ∷ [])
    -- HALT
    halts : Acts (AStandard Halt) []
    -- Put (e) of Console, with a CHAR
    puts : {e : Expr} {k : Kind} → Has types names exports e k
        → IsAssignable types char (operand k) → Acts (AStandard Put) (e ∷ [])

  -- the refusals at a call that is a statement
  pub data Misacts (at : Pos) : Thing → List Expr → Breach → Type 0 where
    -- Functions are no statements.
    no_procedure : {x : Thing} {args : List Expr} → ((nested : Bool) → x ≡ Headless nested → ⊥)
        → ((n : ℕ) → IsProper types x n → ⊥) → Misacts at x args (at ! rule.WrongType)
    wrong_count : {x : Thing} {args : List Expr} {n : ℕ} → IsProper types x n
        → (IsProper types x (length args) → ⊥) → Misacts at x args (at ! rule.ArgumentCount)
    mispassed : {x y : Thing} {s : Signature} {args : List Expr} {formal : Formal} {e : Expr}
        {f : Breach} → HasHeading types x s → s.result ≡ None → length s.formals ≡ length args
        → Beside formal e s.formals args → Stands types names exports e y
        → Mispassed types (first e) formal y f → Misacts at x args f
    no_variable : {p : Standard} {args : List Expr} {v : Expr} {x : Thing}
        → TakesVariable p args v → Stands types names exports v x → (MayChange types p x → ⊥)
        → Misacts at (AStandard p) args (first v ! rule.NoVariable)
    no_value : {p : Standard} {args : List Expr} {e : Expr} {x : Thing} {f : Breach}
        → TakesValue p args e → Stands types names exports e x → Mistaken (first e) x f
        → Misacts at (AStandard p) args f
    misamounts : {p : Standard} {args : List Expr} {e : Expr} {k : Kind} {f : Breach}
        → TakesAmount p args e → Has types names exports e k
        → Misamounts p (first e) (operand k) f → Misacts at (AStandard p) args f
    no_character : {e : Expr} {k : Kind} {f : Breach} → Has types names exports e k
        → Misassigned types char (first e) rule.WrongArgument (operand k) f
        → Misacts at (AStandard Put) (e ∷ []) f

  -- d (args)
  pub data IsAction (d : Designator) (args : List Expr) : Type 0 where
    is_action : {x : Thing} → Denotes types names exports d x → Acts x args → IsAction d args

  pub data BrokenAction (d : Designator) (args : List Expr) (f : Breach) : Type 0 where
    in_procedure : BrokenDesignator types names exports d f → BrokenAction d args f
    in_argument : {e : Expr} → Among e args → Broken types names exports e f
        → BrokenAction d args f
    at_action : {x : Thing} → Denotes types names exports d x
        → Misacts (out-Designator d).name.pos x args f → BrokenAction d args f
