-- Every expression, statement and type is a tree: this is what inductions go over.
use Rattle.std.proofs.Common.{◌≡◌, ℕ, List, [], ◌∷◌, Option, Some, None, sym, ap, subst, ◌∙◌}
use Rattle.std.specs.Prelude.{map}
use Rattle.m2_tree.specs.declared.pos.Pos.{Pos}
use Rattle.m2_tree.specs.declared.name.Ident.{Ident}
use Rattle.m2_tree.specs.declared.expr.MulOp.{MulOp}
use Rattle.m2_tree.specs.declared.expr.AddOp.{AddOp}
use Rattle.m2_tree.specs.declared.expr.RelOp.{RelOp}
use Rattle.m2_tree.specs.declared.expr.Sign.{Sign}
use Rattle.m2_tree.specs.declared.expr.Operator.{Operator}
use Rattle.m2_tree.specs.declared.expr.Expr.{Expr, Expr-F, out-Expr, roll-Expr, out-roll-Expr, map-Expr, ind-Expr}
use Rattle.m2_tree.specs.declared.expr.Expr.TheOpen as layer
use Rattle.m2_tree.specs.declared.expr.Selector.{Selector, Selector-F, out-Selector, roll-Selector, out-roll-Selector, map-Selector}
use Rattle.m2_tree.specs.declared.expr.Designator.{Designator, Designator-F, out-Designator, roll-Designator, out-roll-Designator, map-Designator, ind-Designator}
use Rattle.m2_tree.specs.declared.expr.Item.{Item, Item-F, out-Item, roll-Item, out-roll-Item, map-Item}
use Rattle.m2_tree.specs.declared.stmt.Stmt.{Stmt, Stmt-F, out-Stmt, roll-Stmt, out-roll-Stmt, map-Stmt, ind-Stmt}
use Rattle.m2_tree.specs.declared.stmt.Rest.{Rest, Rest-F, out-Rest, roll-Rest, out-roll-Rest, map-Rest}
use Rattle.m2_tree.specs.declared.stmt.Rest.TheOpen as step
use Rattle.m2_tree.specs.declared.stmt.Arm.{Arm, Arm-F, out-Arm, roll-Arm, out-roll-Arm, map-Arm}
use Rattle.m2_tree.specs.declared.expr.Qualified.{Qualified}
use Rattle.m2_tree.specs.declared.decl.Parameter.{Parameter}
use Rattle.m2_tree.specs.declared.decl.Simple.{Simple}
use Rattle.m2_tree.specs.declared.decl.TypeExpr.{TypeExpr, TypeExpr-F, out-TypeExpr, roll-TypeExpr, out-roll-TypeExpr, map-TypeExpr, ind-TypeExpr}
use Rattle.m2_tree.specs.declared.decl.TypeExpr.TheOpen as type_layer
use Rattle.m2_tree.specs.declared.decl.Field.{Field, Field-F, out-Field, roll-Field, out-roll-Field, map-Field}
use Rattle.def_typing.specs.Parts.{Operand, factors, addends}

-- ---- expressions

mutual
  pub data IsTree : Expr → Type 0 where
    tree_number : {e : Expr} {at : Pos} {n : ℕ} → out-Expr e ≡ layer.Number at n → IsTree e
    tree_character : {e : Expr} {at : Pos} {c : ℕ} → out-Expr e ≡ layer.Char at c → IsTree e
    tree_string : {e : Expr} {at : Pos} {text : List ℕ} → out-Expr e ≡ layer.Text at text
        → IsTree e
    tree_set : {e : Expr} {name : Option Ident} {at : Pos} {items : List Item}
        → out-Expr e ≡ layer.Set name at items → AreItemTrees items → IsTree e
    tree_name : {e : Expr} {d : Designator} → out-Expr e ≡ layer.Use d None
        → AreSelectorTrees (out-Designator d).selectors → IsTree e
    tree_call :
        {e : Expr} {d : Designator} {args : List Expr} → out-Expr e ≡ layer.Use d (Some args)
        → AreSelectorTrees (out-Designator d).selectors → AreTrees args → IsTree e
    tree_not : {e : Expr} {at : Pos} {x : Expr} → out-Expr e ≡ layer.Not at x → IsTree x
        → IsTree e
    tree_brackets : {e : Expr} {at : Pos} {x : Expr} → out-Expr e ≡ layer.Bracketed at x
        → IsTree x → IsTree e
    tree_term : {e : Expr} {x : Expr} {rest : List (Operator MulOp × Expr)}
        → out-Expr e ≡ layer.Term x rest → IsTree x → AreOperandTrees (factors rest) → IsTree e
    tree_sum : {e : Expr} {sign : Option (Operator Sign)} {x : Expr}
        {rest : List (Operator AddOp × Expr)}
        → out-Expr e ≡ layer.Sum sign x rest
        → IsTree x
        → AreOperandTrees (addends rest)
        → IsTree e
    tree_relation : {e : Expr} {a b : Expr} {o : Operator RelOp}
        → out-Expr e ≡ layer.Relation a o b → IsTree a → IsTree b → IsTree e

  pub data AreTrees : List Expr → Type 0 where
    no_expression : AreTrees []
    one_expression : {x : Expr} {xs : List Expr} → IsTree x → AreTrees xs → AreTrees (x ∷ xs)

  pub data AreOperandTrees : List Operand → Type 0 where
    no_operand : AreOperandTrees []
    one_operand : {x : Operand} {xs : List Operand} → IsTree x.of → AreOperandTrees xs
        → AreOperandTrees (x ∷ xs)

  pub data AreSelectorTrees : List Selector → Type 0 where
    no_selector : AreSelectorTrees []
    a_field : {s : Selector} {ss : List Selector} {at : Pos} {name : Ident}
        → out-Selector s ≡ layer.Field at name → AreSelectorTrees ss → AreSelectorTrees (s ∷ ss)
    an_index : {s : Selector} {ss : List Selector} {at : Pos} {x : Expr}
        → out-Selector s ≡ layer.Index at x → IsTree x → AreSelectorTrees ss
        → AreSelectorTrees (s ∷ ss)

  pub data AreItemTrees : List Item → Type 0 where
    no_item : AreItemTrees []
    one_item : {i : Item} {is : List Item} → IsTree (out-Item i).low
        → (out-Item i).high ≡ None → AreItemTrees is → AreItemTrees (i ∷ is)
    one_range : {i : Item} {is : List Item} {high : Expr} → IsTree (out-Item i).low
        → (out-Item i).high ≡ Some high → IsTree high → AreItemTrees is → AreItemTrees (i ∷ is)

abbrev PS : Selector → Type 0
PS s = (ss : List Selector) → AreSelectorTrees ss → AreSelectorTrees (s ∷ ss)

abbrev PD : Designator → Type 0
PD d = AreSelectorTrees (out-Designator d).selectors

abbrev PI : Item → Type 0
PI i = (is : List Item) → AreItemTrees is → AreItemTrees (i ∷ is)

abbrev SE : Type 0
SE = (e : Expr) × IsTree e

abbrev SS : Type 0
SS = (s : Selector) × PS s

abbrev SD : Type 0
SD = (d : Designator) × PD d

abbrev SI : Type 0
SI = (i : Item) × PI i

abbrev bare : Expr-F SE SS SD SI → Expr-F Expr Selector Designator Item
bare x = map-Expr SE SS SD SI Expr Selector Designator Item (λ e. e.0) (λ e. e.0) (λ e. e.0) (λ e. e.0) x

abbrev bare_selector : Selector-F SE SS SD SI → Selector-F Expr Selector Designator Item
bare_selector x = map-Selector SE SS SD SI Expr Selector Designator Item (λ e. e.0) (λ e. e.0) (λ e. e.0) (λ e. e.0) x

abbrev bare_designator : Designator-F SE SS SD SI → Designator-F Expr Selector Designator Item
bare_designator x = map-Designator SE SS SD SI Expr Selector Designator Item (λ e. e.0) (λ e. e.0) (λ e. e.0) (λ e. e.0)
    x

abbrev bare_item : Item-F SE SS SD SI → Item-F Expr Selector Designator Item
bare_item x = map-Item SE SS SD SI Expr Selector Designator Item (λ e. e.0) (λ e. e.0) (λ e. e.0) (λ e. e.0) x

all_args : (xs : List SE) → AreTrees (map (λ (e : SE). e.0) xs)
all_args [] = no_expression
all_args (x ∷ xs) = one_expression x.1 (all_args xs)

all_factors : (xs : List (Operator MulOp × SE))
    → AreOperandTrees (factors (map (λ (a : Operator MulOp × SE). (a.0, a.1.0)) xs))
all_factors [] = no_operand
all_factors (x ∷ xs) = one_operand x.1.1 (all_factors xs)

all_addends : (xs : List (Operator AddOp × SE))
    → AreOperandTrees (addends (map (λ (a : Operator AddOp × SE). (a.0, a.1.0)) xs))
all_addends [] = no_operand
all_addends (x ∷ xs) = one_operand x.1.1 (all_addends xs)

all_selectors : (xs : List SS) → AreSelectorTrees (map (λ (s : SS). s.0) xs)
all_selectors [] = no_selector
all_selectors (x ∷ xs) = x.1 (map (λ (s : SS). s.0) xs) (all_selectors xs)

all_items : (xs : List SI) → AreItemTrees (map (λ (i : SI). i.0) xs)
all_items [] = no_item
all_items (x ∷ xs) = x.1 (map (λ (i : SI). i.0) xs) (all_items xs)

expr_tree : (e : Expr) (y : Expr-F SE SS SD SI) → out-Expr e ≡ bare y → IsTree e
expr_tree e (layer.Number p n) h = tree_number h
expr_tree e (layer.Char p c) h = tree_character h
expr_tree e (layer.Text p t) h = tree_string h
expr_tree e (layer.Set name p items) h = tree_set h (all_items items)
expr_tree e (layer.Not p x) h = tree_not h x.1
expr_tree e (layer.Bracketed p x) h = tree_brackets h x.1
expr_tree e (layer.Use d None) h = tree_name h d.1
expr_tree e (layer.Use d (Some xs)) h = tree_call h d.1 (all_args xs)
expr_tree e (layer.Term x rest) h = tree_term h x.1 (all_factors rest)
expr_tree e (layer.Sum sign x rest) h = tree_sum h x.1 (all_addends rest)
expr_tree e (layer.Relation a o b) h = tree_relation h a.1 b.1

selector_tree : (s : Selector) (y : Selector-F SE SS SD SI) → out-Selector s ≡ bare_selector y → PS s
selector_tree s (layer.Field p name) h = λ ss r. a_field h r
selector_tree s (layer.Index p x) h = λ ss r. an_index h x.1 r

item_tree : (i : Item) (low : SE) (high : Option SE) → out-Item i ≡ bare_item (record { low = low; high = high }) → PI i
item_tree i low None h = λ is r. one_item
    (subst (λ (y : Item-F Expr Selector Designator Item). IsTree y.low) (sym h) low.1)
    (ap (λ (y : Item-F Expr Selector Designator Item). y.high) h) r
item_tree i low (Some high) h = λ is r. one_range
    (subst (λ (y : Item-F Expr Selector Designator Item). IsTree y.low) (sym h) low.1)
    (ap (λ (y : Item-F Expr Selector Designator Item). y.high) h) high.1 r

step_expr : (x : Expr-F Expr Selector Designator Item) (y : Expr-F SE SS SD SI) → bare y ≡ x → IsTree (roll-Expr x)
step_expr x y q = expr_tree (roll-Expr x) y (out-roll-Expr x ∙ sym q)

step_selector : (x : Selector-F Expr Selector Designator Item) (y : Selector-F SE SS SD SI) → bare_selector y ≡ x
    → PS (roll-Selector x)
step_selector x y q = selector_tree (roll-Selector x) y (out-roll-Selector x ∙ sym q)

step_designator : (x : Designator-F Expr Selector Designator Item) (y : Designator-F SE SS SD SI)
    → bare_designator y ≡ x → PD (roll-Designator x)
step_designator x y q = subst (λ (z : Designator-F Expr Selector Designator Item). AreSelectorTrees z.selectors)
    (sym (out-roll-Designator x ∙ sym q)) (all_selectors y.selectors)

step_item : (x : Item-F Expr Selector Designator Item) (y : Item-F SE SS SD SI) → bare_item y ≡ x → PI (roll-Item x)
step_item x y q = item_tree (roll-Item x) y.low y.high (out-roll-Item x ∙ sym q)

pub tree : (e : Expr) → IsTree e
tree = ind-Expr IsTree PS PD PI step_expr step_selector step_designator step_item

pub selector_trees : (d : Designator) → AreSelectorTrees (out-Designator d).selectors
selector_trees = ind-Designator IsTree PS PD PI step_expr step_selector step_designator step_item

-- ---- statements

mutual
  pub data IsStmtTree : Stmt → Type 0 where
    tree_assignment : {x : Stmt} {d : Designator} {e : Expr} → out-Stmt x ≡ step.Assign d e → IsStmtTree x
    tree_action : {x : Stmt} {d : Designator} {args : Option (List Expr)} → out-Stmt x ≡ step.Call d args → IsStmtTree x
    tree_if : {x : Stmt} {c : Expr} {body : List Stmt} {rest : Rest} → out-Stmt x ≡ step.If c body rest
        → AreStmtTrees body → IsRestTree rest → IsStmtTree x
    tree_case : {x : Stmt} {e : Expr} {arms : List Arm} {otherwise : Option (List Stmt)}
        → out-Stmt x ≡ step.Case e arms otherwise → AreArmTrees arms → IsElseTree otherwise → IsStmtTree x
    tree_while : {x : Stmt} {c : Expr} {body : List Stmt} → out-Stmt x ≡ step.While c body → AreStmtTrees body
        → IsStmtTree x
    tree_repeat : {x : Stmt} {body : List Stmt} {c : Expr} → out-Stmt x ≡ step.Repeat body c → AreStmtTrees body
        → IsStmtTree x
    tree_loop : {x : Stmt} {body : List Stmt} → out-Stmt x ≡ step.Loop body → AreStmtTrees body → IsStmtTree x
    tree_exit : {x : Stmt} {at : Pos} → out-Stmt x ≡ step.Exit at → IsStmtTree x
    tree_return : {x : Stmt} {at : Pos} {e : Option Expr} → out-Stmt x ≡ step.Return at e → IsStmtTree x
    tree_for : {x : Stmt} {name : Ident} {start limit : Expr} {by : Option Expr} {body : List Stmt}
        → out-Stmt x ≡ step.For name start limit by body → AreStmtTrees body → IsStmtTree x
    tree_with : {x : Stmt} {d : Designator} {body : List Stmt} → out-Stmt x ≡ step.With d body → AreStmtTrees body
        → IsStmtTree x

  pub data AreStmtTrees : List Stmt → Type 0 where
    no_statement : AreStmtTrees []
    one_statement : {x : Stmt} {xs : List Stmt} → IsStmtTree x → AreStmtTrees xs → AreStmtTrees (x ∷ xs)

  pub data IsRestTree : Rest → Type 0 where
    tree_elsif : {r : Rest} {c : Expr} {body : List Stmt} {rest : Rest} → out-Rest r ≡ step.Elsif c body rest
        → AreStmtTrees body → IsRestTree rest → IsRestTree r
    tree_end : {r : Rest} {otherwise : Option (List Stmt)} → out-Rest r ≡ step.Else otherwise → IsElseTree otherwise
        → IsRestTree r

  pub data IsElseTree : Option (List Stmt) → Type 0 where
    tree_no_else : IsElseTree None
    tree_else : {body : List Stmt} → AreStmtTrees body → IsElseTree (Some body)

  pub data AreArmTrees : List Arm → Type 0 where
    no_arm_tree : AreArmTrees []
    one_arm_tree : {x : Arm} {xs : List Arm} → AreStmtTrees (out-Arm x).body → AreArmTrees xs → AreArmTrees (x ∷ xs)

abbrev PA : Arm → Type 0
PA a = AreStmtTrees (out-Arm a).body

abbrev RT : Type 0
RT = (r : Rest) × IsRestTree r

abbrev ST : Type 0
ST = (x : Stmt) × IsStmtTree x

abbrev AT : Type 0
AT = (a : Arm) × PA a

abbrev bare_rest : Rest-F RT ST AT → Rest-F Rest Stmt Arm
bare_rest y = map-Rest RT ST AT Rest Stmt Arm (λ e. e.0) (λ e. e.0) (λ e. e.0) y

abbrev bare_stmt : Stmt-F RT ST AT → Stmt-F Rest Stmt Arm
bare_stmt y = map-Stmt RT ST AT Rest Stmt Arm (λ e. e.0) (λ e. e.0) (λ e. e.0) y

abbrev bare_arm : Arm-F RT ST AT → Arm-F Rest Stmt Arm
bare_arm y = map-Arm RT ST AT Rest Stmt Arm (λ e. e.0) (λ e. e.0) (λ e. e.0) y

all_statements : (xs : List ST) → AreStmtTrees (map (λ (x : ST). x.0) xs)
all_statements [] = no_statement
all_statements (x ∷ xs) = one_statement x.1 (all_statements xs)

all_arms : (xs : List AT) → AreArmTrees (map (λ (a : AT). a.0) xs)
all_arms [] = no_arm_tree
all_arms (x ∷ xs) = one_arm_tree x.1 (all_arms xs)

rest_tree : (r : Rest) (y : Rest-F RT ST AT) → out-Rest r ≡ bare_rest y → IsRestTree r
rest_tree r (step.Elsif c body rest) h = tree_elsif h (all_statements body) rest.1
rest_tree r (step.Else None) h = tree_end h tree_no_else
rest_tree r (step.Else (Some body)) h = tree_end h (tree_else (all_statements body))

stmt_tree : (x : Stmt) (y : Stmt-F RT ST AT) → out-Stmt x ≡ bare_stmt y → IsStmtTree x
stmt_tree x (step.Assign d e) h = tree_assignment h
stmt_tree x (step.Call d args) h = tree_action h
stmt_tree x (step.If c body rest) h = tree_if h (all_statements body) rest.1
stmt_tree x (step.Case e arms None) h = tree_case h (all_arms arms) tree_no_else
stmt_tree x (step.Case e arms (Some body)) h = tree_case h (all_arms arms) (tree_else (all_statements body))
stmt_tree x (step.While c body) h = tree_while h (all_statements body)
stmt_tree x (step.Repeat body c) h = tree_repeat h (all_statements body)
stmt_tree x (step.Loop body) h = tree_loop h (all_statements body)
stmt_tree x (step.Exit at) h = tree_exit h
stmt_tree x (step.Return at e) h = tree_return h
stmt_tree x (step.For name start limit by body) h = tree_for h (all_statements body)
stmt_tree x (step.With d body) h = tree_with h (all_statements body)

step_rest : (x : Rest-F Rest Stmt Arm) (y : Rest-F RT ST AT) → bare_rest y ≡ x → IsRestTree (roll-Rest x)
step_rest x y q = rest_tree (roll-Rest x) y (out-roll-Rest x ∙ sym q)

step_stmt : (x : Stmt-F Rest Stmt Arm) (y : Stmt-F RT ST AT) → bare_stmt y ≡ x → IsStmtTree (roll-Stmt x)
step_stmt x y q = stmt_tree (roll-Stmt x) y (out-roll-Stmt x ∙ sym q)

step_arm : (x : Arm-F Rest Stmt Arm) (y : Arm-F RT ST AT) → bare_arm y ≡ x → PA (roll-Arm x)
step_arm x y q = subst (λ (z : Arm-F Rest Stmt Arm). AreStmtTrees z.body) (sym (out-roll-Arm x ∙ sym q))
    (all_statements y.body)

pub statement_tree : (x : Stmt) → IsStmtTree x
statement_tree = ind-Stmt IsRestTree IsStmtTree PA step_rest step_stmt step_arm

-- ---- types

mutual
  pub data IsTypeTree : TypeExpr → Type 0 where
    tree_simple : {e : TypeExpr} {x : Simple} → out-TypeExpr e ≡ type_layer.Simple x → IsTypeTree e
    tree_array : {e of : TypeExpr} {at : Pos} {index : Simple} → out-TypeExpr e ≡ type_layer.Array at index of
        → IsTypeTree of → IsTypeTree e
    tree_record : {e : TypeExpr} {at : Pos} {fields : List Field} → out-TypeExpr e ≡ type_layer.Record at fields
        → AreFieldTrees fields → IsTypeTree e
    tree_procedure : {e : TypeExpr} {at : Pos} {xs : List Parameter} {q : Option Qualified}
        → out-TypeExpr e ≡ type_layer.Procedure at xs q → IsTypeTree e

  pub data AreFieldTrees : List Field → Type 0 where
    no_field_tree : AreFieldTrees []
    one_field_tree : {f : Field} {fs : List Field} → IsTypeTree (out-Field f).of → AreFieldTrees fs
        → AreFieldTrees (f ∷ fs)

abbrev PF : Field → Type 0
PF f = IsTypeTree (out-Field f).of

abbrev TT : Type 0
TT = (e : TypeExpr) × IsTypeTree e

abbrev FT : Type 0
FT = (f : Field) × PF f

abbrev bare_type : TypeExpr-F TT FT → TypeExpr-F TypeExpr Field
bare_type y = map-TypeExpr TT FT TypeExpr Field (λ e. e.0) (λ e. e.0) y

abbrev bare_field : Field-F TT FT → Field-F TypeExpr Field
bare_field y = map-Field TT FT TypeExpr Field (λ e. e.0) (λ e. e.0) y

all_fields : (xs : List FT) → AreFieldTrees (map (λ (f : FT). f.0) xs)
all_fields [] = no_field_tree
all_fields (x ∷ xs) = one_field_tree x.1 (all_fields xs)

tree_of_type : (e : TypeExpr) (y : TypeExpr-F TT FT) → out-TypeExpr e ≡ bare_type y → IsTypeTree e
tree_of_type e (type_layer.Simple x) h = tree_simple h
tree_of_type e (type_layer.Array at index of) h = tree_array h of.1
tree_of_type e (type_layer.Record at fields) h = tree_record h (all_fields fields)
tree_of_type e (type_layer.Procedure at xs q) h = tree_procedure h

step_type : (x : TypeExpr-F TypeExpr Field) (y : TypeExpr-F TT FT) → bare_type y ≡ x → IsTypeTree (roll-TypeExpr x)
step_type x y q = tree_of_type (roll-TypeExpr x) y (out-roll-TypeExpr x ∙ sym q)

step_field : (x : Field-F TypeExpr Field) (y : Field-F TT FT) → bare_field y ≡ x → PF (roll-Field x)
step_field x y q = subst (λ (z : Field-F TypeExpr Field). IsTypeTree z.of) (sym (out-roll-Field x ∙ sym q)) y.of.1

pub type_tree : (e : TypeExpr) → IsTypeTree e
type_tree = ind-TypeExpr IsTypeTree PF step_type step_field
