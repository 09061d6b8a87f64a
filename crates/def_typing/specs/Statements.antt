-- Statements, and which rules are broken in them.
use Rattle.std.specs.Prelude.{◌≡◌, ℕ, Bool, true, List, [], ◌∷◌, ◌++◌, Option, Some, None}
use Rattle.m2_rule.specs.declared.breach.Breach.{Breach}
use Rattle.m2_tree.specs.declared.pos.Pos.{Pos}
use Rattle.m2_tree.specs.declared.name.Ident.{Ident}
use Rattle.m2_tree.specs.declared.expr.Expr.{Expr}
use Rattle.m2_rule.specs.declared.rule.Rule.TheVariants as rule
use Rattle.m2_tree.specs.declared.expr.Designator.{Designator, out-Designator}
use Rattle.m2_tree.specs.declared.stmt.Stmt.{Stmt, Stmt-F, out-Stmt}
use Rattle.m2_tree.specs.declared.stmt.Rest.{Rest, Rest-F, out-Rest}
use Rattle.m2_tree.specs.declared.stmt.Rest.TheOpen as layer
use Rattle.m2_tree.specs.declared.stmt.Arm.{Arm, out-Arm}
use Rattle.m2_tree.specs.declared.expr.Item.{Item}
use Rattle.typed_tree.specs.declared.known_types.Types.{Types}
use Rattle.typed_tree.specs.declared.types.TypeNo.{TypeNo}
use Rattle.typed_tree.specs.declared.shape.Shape.TheVariants as shape
use Rattle.typed_tree.specs.Names.{find_name}
use Rattle.def_typing.specs.Shapes.{IsMade}
use Rattle.def_typing.specs.Operators.{◌!◌}
use Rattle.def_typing.specs.Things.{Thing, AVariable, Standing}
use Rattle.def_typing.specs.Parts.{Among}
use Rattle.def_typing.specs.Assignments.{BrokenDesignator, Assigns, BrokenAssignment, IsCondition, BrokenCondition}
use Rattle.def_typing.specs.Expressions.{Denotes}
use Rattle.def_typing.specs.Fields.{field_or, own_or, LeadsToRecord}
use Rattle.def_typing.specs.Actions.{IsAction, BrokenAction}
use Rattle.def_typing.specs.Returns.{Giving, IsExit, BrokenExit, Returns, BrokenReturn}
use Rattle.def_typing.specs.Loops.{Runs, BrokenRun}
use Rattle.def_typing.specs.Cases.{IsSelector, BrokenSelector, SelectsBy, AreLabels, BrokenLabels}

-- no brackets are no arguments
abbrev pub arguments : Option (List Expr) → List Expr
arguments None = []
arguments (Some args) = args

-- the labels of all arms
abbrev pub labels_of : List Arm → List Item
labels_of [] = []
labels_of (a ∷ arms) = (out-Arm a).labels ++ labels_of arms

-- where a statement stands
pub record Spot : Type 0 where
  -- what names stand for
  pub names : Ident → Standing
  -- which of them are names of variables that the module declares, or the procedure itself
  pub own : Ident → Bool
  -- what the body gives back
  pub gives : Giving
  -- whether a LOOP of the body stands around
  pub in_loop : Bool

abbrev pub inside_loop : Spot → Spot
inside_loop w = record w { in_loop = true }

-- inside a WITH on a record with these fields
abbrev pub inside_with : List (List ℕ × TypeNo) → Spot → Spot
inside_with fields w =
    record w {
      names = λ name. field_or (find_name name.name fields) (w.names name);
      own = λ name. own_or (find_name name.name fields) (w.own name);
    }

-- the types that are known, and what modules export
module _ (types : Types) (exports : ℕ → Ident → Standing) where
  mutual
    pub data Obeys : Spot → Stmt → Type 0 where
      as_written : {w : Spot} {x : Stmt} → IsRight w (out-Stmt x) → Obeys w x

    pub data IsRight : Spot → Stmt-F Rest Stmt Arm → Type 0 where
      assignment : {w : Spot} {d : Designator} {e : Expr} → Assigns types w.names exports d e
          → IsRight w (layer.Assign d e)
      call : {w : Spot} {d : Designator} {args : Option (List Expr)}
          → IsAction types w.names exports d (arguments args) → IsRight w (layer.Call d args)
      choice : {w : Spot} {c : Expr} {body : List Stmt} {rest : Rest}
          → IsCondition types w.names exports c
          → AllObey w body
          → RestObeys w rest
          → IsRight w (layer.If c body rest)
      -- No value is a label twice.
      selection : {w : Spot} {e : Expr} {arms : List Arm} {otherwise : Option (List Stmt)}
          {base : TypeNo} → IsSelector types w.names exports e base
          → AreLabels types w.names exports (Some base) [] (labels_of arms)
          → ((a : Arm) → Among a arms → AllObey w (out-Arm a).body)
          → RestIsRight w (layer.Else otherwise) → IsRight w (layer.Case e arms otherwise)
      while_loop : {w : Spot} {c : Expr} {body : List Stmt} → IsCondition types w.names exports c
          → AllObey w body → IsRight w (layer.While c body)
      repeat_loop : {w : Spot} {body : List Stmt} {c : Expr} → AllObey w body
          → IsCondition types w.names exports c → IsRight w (layer.Repeat body c)
      bare_loop : {w : Spot} {body : List Stmt} → AllObey (inside_loop w) body
          → IsRight w (layer.Loop body)
      exit : {w : Spot} {at : Pos} → IsExit w.in_loop → IsRight w (layer.Exit at)
      return : {w : Spot} {at : Pos} {e : Option Expr} → Returns types w.names exports w.gives e
          → IsRight w (layer.Return at e)
      for_loop : {w : Spot} {name : Ident} {start limit : Expr} {step : Option Expr}
          {body : List Stmt}
          → Runs types w.names exports w.own name start limit step
          → AllObey w body
          → IsRight w (layer.For name start limit step body)
      -- The fields of a record stand for themselves.
      with_record : {w : Spot} {d : Designator} {body : List Stmt} {t : TypeNo}
          {fields : List (List ℕ × TypeNo)} → Denotes types w.names exports d (AVariable t)
          → IsMade types t (shape.Record fields) → AllObey (inside_with fields w) body
          → IsRight w (layer.With d body)

    pub data AllObey : Spot → List Stmt → Type 0 where
      no_more : {w : Spot} → AllObey w []
      one_more : {w : Spot} {x : Stmt} {xs : List Stmt} → Obeys w x → AllObey w xs
          → AllObey w (x ∷ xs)

    -- what follows the first part of an IF
    pub data RestObeys : Spot → Rest → Type 0 where
      rest_as_written : {w : Spot} {r : Rest} → RestIsRight w (out-Rest r) → RestObeys w r

    pub data RestIsRight : Spot → Rest-F Rest Stmt Arm → Type 0 where
      elsif : {w : Spot} {c : Expr} {body : List Stmt} {rest : Rest}
          → IsCondition types w.names exports c
          → AllObey w body
          → RestObeys w rest
          → RestIsRight w (layer.Elsif c body rest)
      no_else : {w : Spot} → RestIsRight w (layer.Else None)
      an_else : {w : Spot} {body : List Stmt} → AllObey w body
          → RestIsRight w (layer.Else (Some body))

  mutual
    pub data Broken : Spot → Stmt → Breach → Type 0 where
      broken_as_written : {w : Spot} {x : Stmt} {f : Breach} → Breaks w (out-Stmt x) f
          → Broken w x f

    pub data Breaks : Spot → Stmt-F Rest Stmt Arm → Breach → Type 0 where
      in_assignment : {w : Spot} {d : Designator} {e : Expr} {f : Breach}
          → BrokenAssignment types w.names exports d e f → Breaks w (layer.Assign d e) f
      in_call : {w : Spot} {d : Designator} {args : Option (List Expr)} {f : Breach}
          → BrokenAction types w.names exports d (arguments args) f
          → Breaks w (layer.Call d args) f
      at_if : {w : Spot} {c : Expr} {body : List Stmt} {rest : Rest} {f : Breach}
          → BrokenCondition types w.names exports c f → Breaks w (layer.If c body rest) f
      in_then : {w : Spot} {c : Expr} {body : List Stmt} {rest : Rest} {x : Stmt} {f : Breach}
          → Among x body → Broken w x f → Breaks w (layer.If c body rest) f
      behind_then : {w : Spot} {c : Expr} {body : List Stmt} {rest : Rest} {f : Breach}
          → RestBroken w rest f → Breaks w (layer.If c body rest) f
      in_selector : {w : Spot} {e : Expr} {arms : List Arm} {otherwise : Option (List Stmt)}
          {f : Breach} → BrokenSelector types w.names exports e f
          → Breaks w (layer.Case e arms otherwise) f
      -- The labels are looked at, also if the selector has no meaning.
      in_labels : {w : Spot} {e : Expr} {arms : List Arm} {otherwise : Option (List Stmt)}
          {base : Option TypeNo} {f : Breach} → SelectsBy types w.names exports e base
          → BrokenLabels types w.names exports base [] (labels_of arms) f
          → Breaks w (layer.Case e arms otherwise) f
      in_arm : {w : Spot} {e : Expr} {arms : List Arm} {otherwise : Option (List Stmt)} {a : Arm}
          {x : Stmt} {f : Breach} → Among a arms → Among x (out-Arm a).body → Broken w x f
          → Breaks w (layer.Case e arms otherwise) f
      behind_arms : {w : Spot} {e : Expr} {arms : List Arm} {otherwise : Option (List Stmt)}
          {f : Breach} → RestBreaks w (layer.Else otherwise) f
          → Breaks w (layer.Case e arms otherwise) f
      at_while : {w : Spot} {c : Expr} {body : List Stmt} {f : Breach}
          → BrokenCondition types w.names exports c f → Breaks w (layer.While c body) f
      in_while : {w : Spot} {c : Expr} {body : List Stmt} {x : Stmt} {f : Breach} → Among x body
          → Broken w x f → Breaks w (layer.While c body) f
      at_until : {w : Spot} {body : List Stmt} {c : Expr} {f : Breach}
          → BrokenCondition types w.names exports c f → Breaks w (layer.Repeat body c) f
      in_repeat : {w : Spot} {body : List Stmt} {c : Expr} {x : Stmt} {f : Breach} → Among x body
          → Broken w x f → Breaks w (layer.Repeat body c) f
      in_bare_loop : {w : Spot} {body : List Stmt} {x : Stmt} {f : Breach} → Among x body
          → Broken (inside_loop w) x f → Breaks w (layer.Loop body) f
      at_exit : {w : Spot} {at : Pos} {f : Breach} → BrokenExit at w.in_loop f
          → Breaks w (layer.Exit at) f
      in_return : {w : Spot} {at : Pos} {e : Option Expr} {f : Breach}
          → BrokenReturn types w.names exports at w.gives e f → Breaks w (layer.Return at e) f
      at_for : {w : Spot} {name : Ident} {start limit : Expr} {step : Option Expr}
          {body : List Stmt} {f : Breach}
          → BrokenRun types w.names exports w.own name start limit step f
          → Breaks w (layer.For name start limit step body) f
      in_for : {w : Spot} {name : Ident} {start limit : Expr} {step : Option Expr}
          {body : List Stmt} {x : Stmt} {f : Breach}
          → Among x body
          → Broken w x f
          → Breaks w (layer.For name start limit step body) f
      in_record : {w : Spot} {d : Designator} {body : List Stmt} {f : Breach}
          → BrokenDesignator types w.names exports d f → Breaks w (layer.With d body) f
      no_record : {w : Spot} {d : Designator} {body : List Stmt} {x : Thing}
          → Denotes types w.names exports d x
          → ((t : TypeNo) (fields : List (List ℕ × TypeNo)) → x ≡ AVariable t
          → IsMade types t (shape.Record fields) → ⊥)
          → Breaks w (layer.With d body) ((out-Designator d).name.pos ! rule.WrongType)
      -- The statements are looked at, also if rules are broken in the designator.
      in_with : {w : Spot} {d : Designator} {body : List Stmt} {t : TypeNo}
          {fields : List (List ℕ × TypeNo)} {x : Stmt} {f : Breach}
          → LeadsToRecord types exports w.names d t fields → Among x body
          → Broken (inside_with fields w) x f → Breaks w (layer.With d body) f
      behind_with : {w : Spot} {d : Designator} {body : List Stmt} {x : Stmt} {f : Breach}
          → ((t : TypeNo) (fields : List (List ℕ × TypeNo))
          → LeadsToRecord types exports w.names d t fields → ⊥)
          → Among x body → Broken w x f → Breaks w (layer.With d body) f

    pub data RestBroken : Spot → Rest → Breach → Type 0 where
      rest_broken : {w : Spot} {r : Rest} {f : Breach} → RestBreaks w (out-Rest r) f
          → RestBroken w r f

    pub data RestBreaks : Spot → Rest-F Rest Stmt Arm → Breach → Type 0 where
      at_elsif : {w : Spot} {c : Expr} {body : List Stmt} {rest : Rest} {f : Breach}
          → BrokenCondition types w.names exports c f → RestBreaks w (layer.Elsif c body rest) f
      in_elsif : {w : Spot} {c : Expr} {body : List Stmt} {rest : Rest} {x : Stmt} {f : Breach}
          → Among x body → Broken w x f → RestBreaks w (layer.Elsif c body rest) f
      behind_elsif : {w : Spot} {c : Expr} {body : List Stmt} {rest : Rest} {f : Breach}
          → RestBroken w rest f → RestBreaks w (layer.Elsif c body rest) f
      in_else : {w : Spot} {body : List Stmt} {x : Stmt} {f : Breach} → Among x body → Broken w x f
          → RestBreaks w (layer.Else (Some body)) f
