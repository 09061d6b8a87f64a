-- The typed trees of statements.
use Rattle.std.specs.Prelude.{◌≡◌, ℕ, ℤ, pos, true, List, [], ◌∷◌, ◌+◌, Option, Some, None, slice_get}
use Rattle.m2_tree.specs.declared.pos.Pos.{Pos}
use Rattle.m2_tree.specs.declared.name.Ident.{Ident}
use Rattle.m2_tree.specs.declared.expr.Expr.{Expr, Expr-F, out-Expr}
use Rattle.m2_tree.specs.declared.expr.Expr.TheOpen as expr_layer
use Rattle.m2_tree.specs.declared.expr.Selector.{Selector}
use Rattle.m2_tree.specs.declared.expr.Designator.{Designator}
use Rattle.m2_tree.specs.declared.expr.Item.{Item}
use Rattle.m2_tree.specs.declared.stmt.Stmt.{Stmt, Stmt-F, out-Stmt}
use Rattle.m2_tree.specs.declared.stmt.Rest.TheOpen as layer
use Rattle.m2_tree.specs.declared.stmt.Rest.{Rest, Rest-F, out-Rest}
use Rattle.m2_tree.specs.declared.stmt.Arm.{Arm, out-Arm}
use Rattle.typed_tree.specs.declared.types.TypeNo.{TypeNo}
use Rattle.typed_tree.specs.declared.computed.Call.{Call}
use Rattle.typed_tree.specs.declared.computed.Place.{Place}
use Rattle.typed_tree.specs.declared.computed.TypedExpr.{TypedExpr}
use Rattle.typed_tree.specs.declared.computed.TypedExpr.TheVariants as expr
use Rattle.typed_tree.specs.declared.meaning.Meaning.{Meaning}
use Rattle.typed_tree.specs.declared.meaning.Meaning.TheVariants as meaning
use Rattle.typed_tree.specs.declared.meaning.Standard.{Standard}
use Rattle.typed_tree.specs.declared.meaning.Standard.TheVariants.{Dec, Excl, Halt, Inc, Incl, Put}
use Rattle.typed_tree.specs.declared.shape.Shape.TheVariants as shape
use Rattle.typed_tree.specs.declared.shape.Scalar.{Scalar as Range}
use Rattle.typed_tree.specs.declared.shape.Signature.{Signature}
use Rattle.typed_tree.specs.declared.statement.Change.{Change}
use Rattle.typed_tree.specs.declared.statement.Change.TheVariants.{Increase, Decrease}
use Rattle.typed_tree.specs.declared.statement.Label.{Label}
use Rattle.typed_tree.specs.declared.statement.Membership.{Membership}
use Rattle.typed_tree.specs.declared.statement.Membership.TheVariants.{Include, Exclude}
use Rattle.typed_tree.specs.declared.statement.TypedArm.{TypedArm}
use Rattle.typed_tree.specs.declared.statement.TypedStmt.{TypedStmt}
use Rattle.typed_tree.specs.declared.statement.TypedStmt.TheVariants as step
use Rattle.typed_tree.specs.declared.known_types.Types.{Types}
use Rattle.typed_tree.specs.Names.{place_of}
use Rattle.typed_tree.specs.Types.{boolean, cardinal, char}
use Rattle.def_typing.specs.Shapes.{IsMade}
use Rattle.def_typing.specs.Amounts.{Amount, sort_of}
use Rattle.def_typing.specs.Operators.{Kind, Scalar, Text, Whole, operand}
use Rattle.def_typing.specs.Things.{Standing, AStandard, content}
use Rattle.def_typing.specs.Constants.{Fixes, AConstant}
use Rattle.def_typing.specs.Expressions.{Has, Denotes}
use Rattle.def_typing.specs.Returns.{AResult, Nothing}
use Rattle.def_typing.specs.Loops.{IsControl, IsWholeConstant}
use Rattle.def_typing.specs.Cases.{SelectsIn, IsLabel}
use Rattle.def_typing.specs.Statements.{Spot, arguments, inside_loop, inside_with}
use Rattle.def_typed.specs.Named.{Variable, named, Senses}
use Rattle.def_typed.specs.Coded.{At}
use Rattle.def_typed.specs.Expressions.{Names, Designates, HasCode, Gives, Calls}

-- ---- standard procedures

pub data Changes : Standard → Change → Type 0 where
  increases : Changes Inc Increase
  decreases : Changes Dec Decrease

pub data Sets : Standard → Membership → Type 0 where
  includes : Sets Incl Include
  excludes : Sets Excl Exclude

-- ---- inside a WITH

abbrev pub field_meaning : (with : ℕ) → (whole : TypeNo) → (number : ℕ) → Option (List ℕ × TypeNo)
    → Option Meaning
field_meaning with whole number None = None
field_meaning with whole number (Some f) =
    Some (meaning.Field (record { with = with; whole = whole; number = number; of = f.1 }))

abbrev pub field_or : (with : ℕ) → (whole : TypeNo) → List (List ℕ × TypeNo) → Option ℕ
    → Option Meaning → Option Meaning
field_or with whole fields None m = m
field_or with whole fields (Some i) m = field_meaning with whole i (slice_get fields i)

-- The fields of the record come before all other names.
abbrev pub with_fields : (with : ℕ) → (whole : TypeNo) → List (List ℕ × TypeNo) → Senses → Senses
with_fields with whole fields senses =
    record senses {
      of_names = λ name.
          field_or with whole fields (place_of name.name fields) (senses.of_names name);
    }

-- the type that a limit gets, if it is a number
abbrev pub or_base : TypeNo → Option TypeNo → TypeNo
or_base base None = base
or_base base (Some t) = t

-- ---- statements

-- where a statement stands
pub record Site : Type 0 where
  pub spot : Spot
  pub senses : Senses
  -- how many WITH of the body stand around
  pub withs : ℕ

abbrev pub in_loop : Site → Site
in_loop w = record w { spot = inside_loop w.spot }

abbrev pub in_with : TypeNo → List (List ℕ × TypeNo) → Site → Site
in_with t fields w = record {
  spot = inside_with fields w.spot;
  senses = with_fields w.withs t fields w.senses;
  withs = w.withs + 1;
}

-- The types that are known, and what modules export.
module _ (types : Types) (exports : ℕ → Ident → Standing) where
  abbrev pub Kinds : Site → Expr → Kind → Type 0
  Kinds w e k = Has types w.spot.names exports e k

  abbrev pub Yields : Site → TypeNo → Expr → TypedExpr → Type 0
  Yields w t e x = Gives types w.spot.names exports w.senses t e x

  abbrev pub IsVariable : Site → Designator → TypeNo → Place → Type 0
  IsVariable w d t place = Names types w.spot.names exports w.senses d (Variable t place)

  abbrev pub IsStandard : Site → Designator → Standard → Type 0
  IsStandard w d p = Denotes types w.spot.names exports d (AStandard p)

  -- a scalar with the type that it has by itself: a number is an INTEGER if it is negative, and
  -- else a CARDINAL
  pub data Measures (w : Site) (e : Expr) : TypeNo → TypedExpr → Type 0 where
    measures : {k : Kind} {a : Amount} {t : TypeNo} {c : Option TypedExpr} {x : TypedExpr}
        → Kinds w e k → operand k ≡ Scalar a → SelectsIn a t
        → HasCode types w.spot.names exports w.senses e k c → At t (Scalar a) c x
        → Measures w e t x

  -- the limit of a FOR whose control variable has this base type
  pub data Limits (w : Site) (base : TypeNo) (e : Expr) : TypedExpr → Type 0 where
    limits : {k : Kind} {a : Amount} {c : Option TypedExpr} {x : TypedExpr} → Kinds w e k
        → operand k ≡ Scalar a → HasCode types w.spot.names exports w.senses e k c
        → At (or_base base (sort_of a)) (Scalar a) c x → Limits w base e x

  -- The step is 1 if it is left out.
  pub data Steps (w : Site) : Option Expr → ℤ → Type 0 where
    by_one : Steps w None (pos 1)
    by_constant : {e : Expr} {k : Kind} {n : ℤ}
        → Fixes types w.spot.names exports e (AConstant k) → IsWholeConstant (operand k) n
        → Steps w (Some e) n

  -- the control variable of a FOR
  pub data Controls (w : Site) (name : Ident) (t : TypeNo) (place : Place) : Type 0 where
    controls : named w.senses.level (w.senses.of_names name) ≡ Some (Variable t place)
        → Controls w name t place

  -- where the array or the record is that an expression stands for: that of a designator, which may
  -- stand in brackets
  pub data LiesAt (w : Site)
      : Expr-F Expr Selector Designator Item → TypeNo → Place → Type 0 where
    variable : {d : Designator} {t : TypeNo} {place : Place} → IsVariable w d t place
        → LiesAt w (expr_layer.Use d None) t place
    bracketed : {at : Pos} {e : Expr} {t : TypeNo} {place : Place} → LiesAt w (out-Expr e) t place
        → LiesAt w (expr_layer.Bracketed at e) t place
    -- a term of one factor, and a sum of one term
    factor : {e : Expr} {t : TypeNo} {place : Place} → LiesAt w (out-Expr e) t place
        → LiesAt w (expr_layer.Term e []) t place
    term : {e : Expr} {t : TypeNo} {place : Place} → LiesAt w (out-Expr e) t place
        → LiesAt w (expr_layer.Sum None e []) t place

  pub data Assigns (w : Site) (d : Designator) (e : Expr) : TypedStmt → Type 0 where
    value : {t : TypeNo} {place : Place} {x : TypedExpr} → IsVariable w d t place
        → (content types t ≡ Whole t → ⊥) → Yields w t e x → Assigns w d e (step.Assign place t x)
    copy : {t : TypeNo} {to from : Place} → IsVariable w d t to → content types t ≡ Whole t
        → LiesAt w (out-Expr e) t from → Assigns w d e (step.Copy to from t)
    text : {t : TypeNo} {to : Place} {s : List ℕ} → IsVariable w d t to
        → content types t ≡ Whole t → Kinds w e (Text s) → Assigns w d e (step.CopyText to t s)

  pub data Acts (w : Site) (d : Designator) : List Expr → TypedStmt → Type 0 where
    calls : {args : List Expr} {s : Signature} {c : Call}
        → Calls types w.spot.names exports w.senses d args s c → s.result ≡ None
        → Acts w d args (step.Call c)
    changes_by_one : {p : Standard} {v : Expr} {t : TypeNo} {place : Place} {o : Change}
        → IsStandard w d p → Changes p o
        → Designates types w.spot.names exports w.senses v (Variable t place)
        → (content types t ≡ Whole t → ⊥)
        → Acts w d (v ∷ []) (step.Change o place t (expr.Constant cardinal (pos 1)))
    changes : {p : Standard} {v e : Expr} {t u : TypeNo} {place : Place} {o : Change}
        {x : TypedExpr} → IsStandard w d p → Changes p o
        → Designates types w.spot.names exports w.senses v (Variable t place)
        → (content types t ≡ Whole t → ⊥) → Measures w e u x
        → Acts w d (v ∷ e ∷ []) (step.Change o place t x)
    sets : {p : Standard} {v e : Expr} {t u : TypeNo} {place : Place} {o : Membership}
        {x : TypedExpr} → IsStandard w d p → Sets p o
        → Designates types w.spot.names exports w.senses v (Variable t place) → Measures w e u x
        → Acts w d (v ∷ e ∷ []) (step.Membership o place x)
    halts : IsStandard w d Halt → Acts w d [] step.Halt
    puts : {e : Expr} {x : TypedExpr} → IsStandard w d Put → Yields w char e x
        → Acts w d (e ∷ []) (step.Put x)

  pub data AreLabels (w : Site) (base : TypeNo) : List Item → List Label → Type 0 where
    no_label : AreLabels w base [] []
    one_label : {i : Item} {is : List Item} {s t : Option TypeNo} {n m : ℤ} {ls : List Label}
        → IsLabel types w.spot.names exports (Some base) i (Some ((s, n), (t, m)))
        → AreLabels w base is ls
        → AreLabels w base (i ∷ is) (record { low = n; high = m } ∷ ls)

  mutual
    pub data MeansStatement : Site → Stmt → TypedStmt → Type 0 where
      as_written : {w : Site} {s : Stmt} {x : TypedStmt} → MeansForm w (out-Stmt s) x
          → MeansStatement w s x

    pub data MeansForm : Site → Stmt-F Rest Stmt Arm → TypedStmt → Type 0 where
      assignment : {w : Site} {d : Designator} {e : Expr} {x : TypedStmt} → Assigns w d e x
          → MeansForm w (layer.Assign d e) x
      call : {w : Site} {d : Designator} {args : Option (List Expr)} {x : TypedStmt}
          → Acts w d (arguments args) x → MeansForm w (layer.Call d args) x
      choice : {w : Site} {c : Expr} {body : List Stmt} {rest : Rest} {x : TypedExpr}
          {xs : List TypedStmt} {otherwise : Option (List TypedStmt)} → Yields w boolean c x
          → AllMean w body xs → RestMeans w (out-Rest rest) otherwise
          → MeansForm w (layer.If c body rest) (step.If x xs otherwise)
      selection : {w : Site} {e : Expr} {arms : List Arm} {last : Option (List Stmt)}
          {base : TypeNo} {x : TypedExpr} {xs : List TypedArm}
          {otherwise : Option (List TypedStmt)} → Measures w e base x → ArmsMean w base arms xs
          → RestMeans w (layer.Else last) otherwise
          → MeansForm w (layer.Case e arms last) (step.Case x xs otherwise)
      while_loop : {w : Site} {c : Expr} {body : List Stmt} {x : TypedExpr} {xs : List TypedStmt}
          → Yields w boolean c x → AllMean w body xs
          → MeansForm w (layer.While c body) (step.While x xs)
      repeat_loop : {w : Site} {body : List Stmt} {c : Expr} {xs : List TypedStmt} {x : TypedExpr}
          → AllMean w body xs → Yields w boolean c x
          → MeansForm w (layer.Repeat body c) (step.Repeat xs x)
      bare_loop : {w : Site} {body : List Stmt} {xs : List TypedStmt} → AllMean (in_loop w) body xs
          → MeansForm w (layer.Loop body) (step.Loop xs)
      exit : {w : Site} {at : Pos} → w.spot.in_loop ≡ true
          → MeansForm w (layer.Exit at) step.Exit
      return : {w : Site} {at : Pos} → w.spot.gives ≡ Nothing
          → MeansForm w (layer.Return at None) step.Return
      give : {w : Site} {at : Pos} {e : Expr} {t : TypeNo} {x : TypedExpr}
          → w.spot.gives ≡ AResult t → Yields w t e x
          → MeansForm w (layer.Return at (Some e)) (step.Give t x)
      for_loop : {w : Site} {name : Ident} {start limit : Expr} {by : Option Expr}
          {body : List Stmt} {t : TypeNo} {r : Range} {place : Place} {x y : TypedExpr} {n : ℤ}
          {xs : List TypedStmt} → IsControl types w.spot.names exports w.spot.own name t r
          → Controls w name t place → Yields w t start x → Limits w r.base limit y → Steps w by n
          → AllMean w body xs
          → MeansForm w (layer.For name start limit by body) (step.For place t x y n xs)
      with_record : {w : Site} {d : Designator} {body : List Stmt} {t : TypeNo} {place : Place}
          {fields : List (List ℕ × TypeNo)} {xs : List TypedStmt} → IsVariable w d t place
          → IsMade types t (shape.Record fields) → AllMean (in_with t fields w) body xs
          → MeansForm w (layer.With d body) (step.With place xs)

    pub data AllMean : Site → List Stmt → List TypedStmt → Type 0 where
      no_statement : {w : Site} → AllMean w [] []
      one_statement : {w : Site} {s : Stmt} {ss : List Stmt} {x : TypedStmt} {xs : List TypedStmt}
          → MeansStatement w s x → AllMean w ss xs → AllMean w (s ∷ ss) (x ∷ xs)

    -- What follows the first part of an IF, and the ELSE of a CASE. An ELSIF is an IF in the ELSE.
    pub data RestMeans : Site → Rest-F Rest Stmt Arm → Option (List TypedStmt) → Type 0 where
      elsif : {w : Site} {c : Expr} {body : List Stmt} {rest : Rest} {x : TypedExpr}
          {xs : List TypedStmt} {otherwise : Option (List TypedStmt)} → Yields w boolean c x
          → AllMean w body xs → RestMeans w (out-Rest rest) otherwise
          → RestMeans w (layer.Elsif c body rest) (Some (step.If x xs otherwise ∷ []))
      no_else : {w : Site} → RestMeans w (layer.Else None) None
      an_else : {w : Site} {body : List Stmt} {xs : List TypedStmt} → AllMean w body xs
          → RestMeans w (layer.Else (Some body)) (Some xs)

    pub data ArmsMean : Site → (base : TypeNo) → List Arm → List TypedArm → Type 0 where
      no_arm : {w : Site} {base : TypeNo} → ArmsMean w base [] []
      one_arm : {w : Site} {base : TypeNo} {a : Arm} {arms : List Arm} {ls : List Label}
          {xs : List TypedStmt} {ys : List TypedArm} → AreLabels w base (out-Arm a).labels ls
          → AllMean w (out-Arm a).body xs → ArmsMean w base arms ys
          → ArmsMean w base (a ∷ arms) (record { labels = ls; body = xs } ∷ ys)
