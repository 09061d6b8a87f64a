-- What is proved of constructs: the scheme's code of each does what the definition of a run says,
-- if the code of its parts does.
use Rattle.std.specs.Prelude.{◌≡◌, ℕ, ◌<◌, ℤ, length, pos, negsuc, ◌≤ℤ◌, Bool, false, List, [], ◌∷◌, ◌++◌, Some, None, unsigned_abs, if◌then◌else◌}
use Rattle.typed_tree.specs.declared.computed.Argument.TheOpen as layer
use Rattle.typed_tree.specs.declared.computed.Arithmetic.TheVariants as op
use Rattle.typed_tree.specs.declared.computed.Comparison.{Comparison}
use Rattle.typed_tree.specs.declared.computed.Inclusion.{Inclusion}
use Rattle.typed_tree.specs.declared.computed.SetOperator.{SetOperator}
use Rattle.typed_tree.specs.declared.computed.Root.{Root}
use Rattle.typed_tree.specs.declared.computed.Root.TheVariants as root
use Rattle.typed_tree.specs.declared.statement.Change.{Change}
use Rattle.typed_tree.specs.declared.statement.Label.{Label}
use Rattle.typed_tree.specs.declared.statement.Membership.{Membership}
use Rattle.typed_tree.specs.declared.types.TypeNo.{TypeNo}
use Rattle.typed_tree.specs.declared.shape.Scalar.{Scalar as Range}
use Rattle.typed_tree.specs.declared.meaning.Variable.{Variable}
use Rattle.typed_tree.specs.Types.{are_same, integer, cardinal, boolean, char, bitset}
use Rattle.typed_tree.specs.Known.{scalar_at}
use Rattle.layout_storage.specs.Types.{Ty, Scalar, Cell, Array, row, component}
use Rattle.layout_storage.specs.Shapes.{tree, elements_of}
use Rattle.def_meaning.specs.Store.{Location}
use Rattle.def_meaning.specs.Answer.{range_fault, halt_status, Ended, ◌▷◌}
use Rattle.def_meaning.specs.Outcome.{Normal, Exited, Returned, sequence}
use Rattle.def_meaning.specs.Answer as answer
use Rattle.def_meaning.specs.Environment.{Modules, module_place}
use Rattle.def_meaning.specs.Operators.{is_true}
use Rattle.def_meaning.specs.Expressions as meaning
use Rattle.def_meaning.specs.Expressions.{within as bounded, as_type, Asks, Gives, Continues, one_by_one}
use Rattle.def_meaning.specs.Statements as statements
use Rattle.def_meaning.specs.Statements.{Does, change_by, recheck_value, with_element, for_all, store_number, until_true, loop_outcome}
use Rattle.wasm_tree.specs.declared.instr.Instr.{Instr}
use Rattle.wasm_tree.specs.declared.instr.Instr.TheVariants as instr
use Rattle.wasm_tree.specs.declared.store.Value.{Value}
use Rattle.def_scheme.specs.Coded.{Coded, Setting, plain, ◌⨾◌, all_coded, with_address, within, with_setting, is_zero, wrap_word, put, fault}
use Rattle.def_scheme.specs.Cells as cells
use Rattle.def_scheme.specs.Cells.{base_of}
use Rattle.def_scheme.specs.Exprs as code
use Rattle.def_scheme.specs.Exprs.{Part, Linked, behind, chain_type, chain_code}
use Rattle.def_scheme.specs.Steps as steps
use Rattle.def_scheme.specs.Steps.{change_code, member_code, under, for_code, block_loop, loop, leaving, if_only, if_else}
use Rattle.law_simulation.specs.Begun.{while_begun}
use Rattle.law_simulation.specs.Scene.{Scene, IsSet, IsValue, AreAmong, AreNatural, IsCell, IsGlobal, IsWith, IsThere, IsOwn, keeping, AreLabels, opening, IsGrowing, Agrees, AgreesBeside, GoesOn, Reaches, Locates, Executes}

-- ---- expressions

abbrev pub Constants : Type 0
Constants =
    (k : Scene)
    → IsSet k
    → (p : Modules) (ask : Asks) (t : TypeNo) (n : ℤ)
    → IsValue k.setting.home.types t n
    → Agrees k t (code.expr_layer (layer.Constant t n)).code
    (meaning.expr_layer p ask (layer.Constant t n))

abbrev pub Sums : Type 0
Sums =
    (k : Scene)
    → IsSet k
    → (p : Modules) (ask : Asks) (t w : TypeNo) (y : Part) (value : Gives ℤ)
    → Agrees k y.of y.code value
    → (scalar_at k.setting.home.types w ≡ None → ⊥)
    → GoesOn k t w (code.link_layer (layer.Arithmetic op.Add w y)).code
    (meaning.link_layer p ask (layer.Arithmetic op.Add w value))

abbrev pub Differences : Type 0
Differences =
    (k : Scene)
    → IsSet k
    → (p : Modules) (ask : Asks) (t w : TypeNo) (y : Part) (value : Gives ℤ)
    → Agrees k y.of y.code value
    → (scalar_at k.setting.home.types w ≡ None → ⊥)
    → GoesOn k t w (code.link_layer (layer.Arithmetic op.Subtract w y)).code
    (meaning.link_layer p ask (layer.Arithmetic op.Subtract w value))

abbrev pub Products : Type 0
Products =
    (k : Scene)
    → IsSet k
    → (p : Modules) (ask : Asks) (t w : TypeNo) (y : Part) (value : Gives ℤ)
    → Agrees k y.of y.code value
    → (scalar_at k.setting.home.types w ≡ None → ⊥)
    → GoesOn k t w (code.link_layer (layer.Arithmetic op.Multiply w y)).code
    (meaning.link_layer p ask (layer.Arithmetic op.Multiply w value))

-- the base type of the operands has 0
abbrev pub Quotients : Type 0
Quotients =
    (k : Scene)
    → IsSet k
    → (p : Modules) (ask : Asks) (t w : TypeNo) (y : Part) (value : Gives ℤ)
    → Agrees k y.of y.code value
    → AreAmong k.setting.home.types t w
    → IsValue k.setting.home.types w (pos 0)
    → GoesOn k t w (code.link_layer (layer.Arithmetic op.Divide w y)).code
    (meaning.link_layer p ask (layer.Arithmetic op.Divide w value))

abbrev pub Remainders : Type 0
Remainders =
    (k : Scene)
    → IsSet k
    → (p : Modules) (ask : Asks) (t w : TypeNo) (y : Part) (value : Gives ℤ)
    → Agrees k y.of y.code value
    → AreAmong k.setting.home.types y.of w
    → IsValue k.setting.home.types w (pos 0)
    → GoesOn k t w (code.link_layer (layer.Arithmetic op.Remainder w y)).code
    (meaning.link_layer p ask (layer.Arithmetic op.Remainder w value))

abbrev pub Conjunctions : Type 0
Conjunctions =
    (k : Scene)
    → IsSet k
    → (p : Modules) (ask : Asks) (y : Part) (value : Gives ℤ)
    → Agrees k boolean y.code value
    → GoesOn k boolean boolean (code.link_layer (layer.And y)).code
    (meaning.link_layer p ask (layer.And value))

abbrev pub Disjunctions : Type 0
Disjunctions =
    (k : Scene)
    → IsSet k
    → (p : Modules) (ask : Asks) (y : Part) (value : Gives ℤ)
    → Agrees k boolean y.code value
    → GoesOn k boolean boolean (code.link_layer (layer.Or y)).code
    (meaning.link_layer p ask (layer.Or value))

abbrev pub Combinations : Type 0
Combinations =
    (k : Scene)
    → IsSet k
    → (p : Modules) (ask : Asks) (o : SetOperator) (y : Part) (value : Gives ℤ)
    → Agrees k bitset y.code value
    → GoesOn k bitset bitset (code.link_layer (layer.Combine o y)).code
    (meaning.link_layer p ask (layer.Combine o value))

-- operators behind one another, if each takes what the one before gives
pub data AreLinked (k : Scene) : TypeNo → List Linked → List Continues → Type 0 where
  no_links : (t : TypeNo) → AreLinked k t [] []
  more_links : (t : TypeNo) (l : Linked) (ls : List Linked) (f : Continues) (fs : List Continues)
      → GoesOn k t l.of l.code f → AreLinked k l.of ls fs → AreLinked k t (l ∷ ls) (f ∷ fs)

abbrev pub Chains : Type 0
Chains =
    (k : Scene) (p : Modules) (ask : Asks) (x : Part) (value : Gives ℤ) (ls : List Linked)
    (fs : List Continues)
    → Agrees k x.of x.code value
    → AreLinked k x.of ls fs
    → Agrees k (chain_type x.of ls) (code.expr_layer (layer.Chain x ls)).code
    (meaning.expr_layer p ask (layer.Chain value fs))

abbrev pub Relations : Type 0
Relations =
    (k : Scene)
    → IsSet k
    → (p : Modules) (ask : Asks) (o : Comparison) (x y : Part) (first second : Gives ℤ)
    → Agrees k x.of x.code first
    → Agrees k y.of y.code second
    → Agrees k boolean (code.expr_layer (layer.Compare o x y)).code
    (meaning.expr_layer p ask (layer.Compare o first second))

abbrev pub Negations : Type 0
Negations =
    (k : Scene)
    → IsSet k
    → (p : Modules) (ask : Asks) (x : Part) (value : Gives ℤ)
    → Agrees k boolean x.code value
    → Agrees k boolean (code.expr_layer (layer.Not x)).code
    (meaning.expr_layer p ask (layer.Not value))

abbrev pub Inclusions : Type 0
Inclusions =
    (k : Scene)
    → IsSet k
    → (p : Modules) (ask : Asks) (o : Inclusion) (x y : Part) (first second : Gives ℤ)
    → Agrees k bitset x.code first
    → Agrees k bitset y.code second
    → Agrees k boolean (code.expr_layer (layer.Include o x y)).code
    (meaning.expr_layer p ask (layer.Include o first second))

-- the element is kept while the set is evaluated
abbrev pub Members : Type 0
Members =
    (k : Scene)
    → IsSet k
    → (p : Modules) (ask : Asks) (x y : Part) (first second : Gives ℤ)
    → Agrees k x.of x.code first
    → Agrees k bitset y.code second
    → AgreesBeside k bitset y.code second
    → Agrees k boolean (code.expr_layer (layer.In x y)).code
    (meaning.expr_layer p ask (layer.In first second))

-- a value of an operand's type is one of its base type
abbrev pub Identities : Type 0
Identities =
    (k : Scene)
    → IsSet k
    → (p : Modules) (ask : Asks) (t : TypeNo) (x : Part) (value : Gives ℤ)
    → Agrees k x.of x.code value
    → AreAmong k.setting.home.types x.of t
    → Agrees k t (code.expr_layer (layer.Plus t x)).code
    (meaning.expr_layer p ask (layer.Plus t value))

abbrev pub Opposites : Type 0
Opposites =
    (k : Scene)
    → IsSet k
    → (p : Modules) (ask : Asks) (x : Part) (value : Gives ℤ)
    → Agrees k x.of x.code value
    → Agrees k integer (code.expr_layer (layer.Negate x)).code
    (meaning.expr_layer p ask (layer.Negate value))

-- INTEGER alone has negative values
abbrev pub Absolutes : Type 0
Absolutes =
    (k : Scene)
    → IsSet k
    → (p : Modules) (ask : Asks) (t : TypeNo) (x : Part) (value : Gives ℤ)
    → Agrees k x.of x.code value
    → AreAmong k.setting.home.types x.of t
    → (are_same t integer ≡ false → AreNatural k.setting.home.types t)
    → Agrees k t (code.expr_layer (layer.Abs t x)).code
    (meaning.expr_layer p ask (layer.Abs t value))

abbrev pub Capitals : Type 0
Capitals =
    (k : Scene)
    → IsSet k
    → (p : Modules) (ask : Asks) (x : Part) (value : Gives ℤ)
    → Agrees k char x.code value
    → Agrees k char (code.expr_layer (layer.Cap x)).code
    (meaning.expr_layer p ask (layer.Cap value))

abbrev pub Characters : Type 0
Characters =
    (k : Scene)
    → IsSet k
    → (p : Modules) (ask : Asks) (x : Part) (value : Gives ℤ)
    → Agrees k x.of x.code value
    → Agrees k char (code.expr_layer (layer.Chr x)).code
    (meaning.expr_layer p ask (layer.Chr value))

abbrev pub Parities : Type 0
Parities =
    (k : Scene)
    → IsSet k
    → (p : Modules) (ask : Asks) (x : Part) (value : Gives ℤ)
    → Agrees k x.of x.code value
    → Agrees k boolean (code.expr_layer (layer.Odd x)).code
    (meaning.expr_layer p ask (layer.Odd value))

-- the values of a type are among those of its base; INTEGER alone of the bases has negative ones
abbrev pub Ordinals : Type 0
Ordinals =
    (k : Scene)
    → IsSet k
    → (p : Modules) (ask : Asks) (x : Part) (value : Gives ℤ)
    → Agrees k x.of x.code value
    → AreAmong k.setting.home.types x.of (base_of k.setting.home.types x.of)
    → (are_same (base_of k.setting.home.types x.of) integer ≡ false
    → AreNatural k.setting.home.types x.of)
    → Agrees k cardinal (code.expr_layer (layer.Ord x)).code
    (meaning.expr_layer p ask (layer.Ord value))

-- VAL's type is a scalar type
abbrev pub Conversions : Type 0
Conversions =
    (k : Scene)
    → IsSet k
    → (p : Modules) (ask : Asks) (t : TypeNo) (x : Part) (value : Gives ℤ)
    → Agrees k x.of x.code value
    → (scalar_at k.setting.home.types t ≡ None → ⊥)
    → Agrees k t (code.expr_layer (layer.Val t x)).code
    (meaning.expr_layer p ask (layer.Val t value))

-- ---- designators

-- a variable of a module
abbrev pub Globals : Type 0
Globals =
    (k : Scene)
    → IsSet k
    → (p : Modules) (ask : Asks) (v : Variable) (t : Ty)
    → IsGlobal k v (module_place p v.home ∷ v.number ∷ []) t
    → Locates k t (code.root_layer (root.Global v)) (λ a s.
    answer.Value (meaning.root_layer p ask (root.Global v) a) s)

-- a formal or a variable of the procedure itself
abbrev pub Own : Type 0
Own =
    (k : Scene)
    → IsSet k
    → (p : Modules) (ask : Asks) (i : ℕ) (l : Location) (t : Ty)
    → IsOwn k i l t
    → Locates k t (code.root_layer (root.Local (record { up = 0; number = i }))) (λ a s.
    answer.Value (meaning.root_layer p ask (root.Local (record { up = 0; number = i })) a) s)

abbrev pub Entire : Type 0
Entire =
    (k : Scene) → IsSet k → (v : Variable) (l : Location) (t : Ty) → IsGlobal k v l t
    → IsThere k (λ s. code.global_code s.home v) l

-- the record of a WITH
abbrev pub Opened : Type 0
Opened =
    (k : Scene) (p : Modules) (ask : Asks) (j : ℕ) (l : Location) (t : Ty)
    → IsWith k j l t
    → Locates k t (code.root_layer (root.With j)) (λ a s.
    answer.Value (meaning.root_layer p ask (root.With j) a) s)

abbrev pub Fields : Type 0
Fields =
    (k : Scene)
    → IsSet k
    → (p : Modules) (ask : Asks) (t : TypeNo) (j : ℕ) (u : Ty)
    → component (tree k.setting.home.types t) (j ∷ []) ≡ Some u
    → Reaches k (tree k.setting.home.types t) u (code.component_layer (layer.Field t j))
    (meaning.component_layer p ask (layer.Field t j))

-- an array has an element for each value of its index type
abbrev pub Elements : Type 0
Elements =
    (k : Scene)
    → IsSet k
    → (p : Modules) (ask : Asks) (t : TypeNo) (r : Range) (u : Ty) (i : Part) (value : Gives ℤ)
    → code.index_of k.setting.home.types t ≡ Some r
    → tree k.setting.home.types t ≡ Array (elements_of (Some r)) u
    → Agrees k i.of i.code value
    → Reaches k (tree k.setting.home.types t) u (code.component_layer (layer.Element t i))
    (meaning.component_layer p ask (layer.Element t value))

-- components of components
pub data AreReached (k : Scene) : (t u : Ty) → List Coded → List meaning.Reaches → Type 0 where
  no_components : (t : Ty) → AreReached k t t [] []
  more_components :
      (t v u : Ty) (c : Coded) (cs : List Coded) (r : meaning.Reaches) (rs : List meaning.Reaches)
      → Reaches k t v c r → AreReached k v u cs rs → AreReached k t u (c ∷ cs) (r ∷ rs)

abbrev pub Designators : Type 0
Designators =
    (k : Scene) (p : Modules) (ask : Asks) (r : Root) (t u : Ty) (cs : List Coded)
    (rs : List meaning.Reaches)
    → Locates k t (code.root_layer r) (λ a s. answer.Value (meaning.root_layer p ask r a) s)
    → AreReached k t u cs rs
    → Locates k u (code.root_layer r ⨾ all_coded cs) (λ a s.
    one_by_one rs (meaning.root_layer p ask r a) a s)

abbrev pub Loads : Type 0
Loads =
    (k : Scene)
    → IsSet k
    → (p : Modules) (ask : Asks) (t : TypeNo) (c : Scalar) (d : Coded) (found : Gives Location)
    → IsCell k.setting.home.types t c
    → Locates k (Cell c) d found
    → Agrees k t (code.expr_layer (layer.Load t d)).code
    (meaning.expr_layer p ask (layer.Load t found))

-- ---- statements

abbrev pub Assigns : Type 0
Assigns =
    (k : Scene)
    → IsSet k
    → (function : Bool) (t : TypeNo) (c : Scalar) (d e : Coded) (found : Gives Location)
    (value : Gives ℤ)
    → IsCell k.setting.home.types t c
    → Locates k (Cell c) d found
    → Agrees k t e value
    → Executes k function (d ⨾ e ⨾ with_setting (λ s. plain (cells.store_code s.home.types t)))
    (λ a s. found a s ▷ λ l s. value a s ▷ λ v s. answer.Value Normal (store_number l v s))

-- INC and DEC of a scalar variable, whose base is a scalar type, too
abbrev pub Changes : Type 0
Changes =
    (k : Scene)
    → IsSet k
    → (function : Bool) (o : Change) (t : TypeNo) (c : Scalar) (d : Coded) (x : Part)
    (found : Gives Location) (value : Gives ℤ)
    → IsCell k.setting.home.types t c
    → (scalar_at k.setting.home.types t ≡ None → ⊥)
    → (scalar_at k.setting.home.types (base_of k.setting.home.types t) ≡ None → ⊥)
    → Locates k (Cell c) d found
    → Agrees k x.of x.code value
    → AgreesBeside k x.of x.code value
    → Executes k function (change_code o d t x.code) (λ a s.
    found a s ▷ λ l s.
    value a s ▷ λ by s.
    recheck_value a.types t (change_by o (s.store l) by) s ▷ λ v s.
    answer.Value Normal (store_number l v s))

-- INCL and EXCL
abbrev pub Memberships : Type 0
Memberships =
    (k : Scene)
    → IsSet k
    → (function : Bool) (o : Membership) (c : Scalar) (d : Coded) (x : Part)
    (found : Gives Location) (value : Gives ℤ)
    → IsCell k.setting.home.types bitset c
    → Locates k (Cell c) d found
    → Agrees k x.of x.code value
    → AgreesBeside k x.of x.code value
    → Executes k function (member_code o d x.code) (λ a s.
    found a s ▷ λ l s.
    value a s ▷ λ x s.
    bounded (pos 0) (pos 31) range_fault x s ▷ λ x s.
    answer.Value Normal (store_number l (with_element o (s.store l) x) s))

-- a byte is printed
abbrev pub Puts : Type 0
Puts =
    (k : Scene)
    → IsSet k
    → (function : Bool) (e : Coded) (value : Gives ℤ)
    → Agrees k char e value
    → Executes k function (e ⨾ plain (instr.Call put ∷ [])) (λ a s.
    value a s ▷ λ v s. answer.Value Normal (record s { out = s.out ++ unsigned_abs v ∷ [] }))

abbrev pub Halts : Type 0
Halts =
    (k : Scene) → IsSet k → (function : Bool)
    → Executes k function (plain (fault 9)) (λ a s. Ended halt_status s.out)

abbrev pub Exits : Type 0
Exits =
    (k : Scene) (function : Bool) → Executes k function
    (with_setting (λ s. plain (instr.Br s.exit ∷ []))) (λ a s. answer.Value Exited s)

-- RETURN in a body, or in a procedure without a result
abbrev pub Returns : Type 0
Returns =
    (k : Scene)
    → Executes k false (plain (instr.Return ∷ [])) (λ a s. answer.Value (Returned (pos 0)) s)

abbrev pub Rows : Type 0
Rows =
    (k : Scene) (function : Bool) (x y : Coded) (step next : Does) → Executes k function x step
    → Executes k function y next → Executes k function (x ⨾ y) (λ a s. sequence (step a s) (next a))

abbrev pub Ifs : Type 0
Ifs =
    (k : Scene)
    → IsSet k
    → (function : Bool) (e : Coded) (value : Gives ℤ) (x y : Coded) (step other : Does)
    → Agrees k boolean e value
    → Executes k function x step
    → Executes k function y other
    → Executes k function (e ⨾ plain (wrap_word ∷ []) ⨾ if_else x y) (λ a s.
    value a s ▷ λ v s. if is_true v then step a s else other a s)

abbrev pub LoneIfs : Type 0
LoneIfs =
    (k : Scene)
    → IsSet k
    → (function : Bool) (e : Coded) (value : Gives ℤ) (x : Coded) (step : Does)
    → Agrees k boolean e value
    → Executes k function x step
    → Executes k function (e ⨾ plain (wrap_word ∷ []) ⨾ if_only x) (λ a s.
    value a s ▷ λ v s. if is_true v then step a s else answer.Value Normal s)

-- the record is found once, and the body runs where its address is kept
abbrev pub Withs : Type 0
Withs =
    (k : Scene) (function : Bool) (t : Ty) (d x : Coded) (found : Gives Location) (step : Does)
    → Locates k t d found
    → ((w : ℕ) → IsGrowing k (under w x))
    → ((w : ℕ) (l : Location) → k.kept w ≡ None → component (row k.world) l ≡ Some t → 0 < length l
    → Executes (opening k w l) function x step)
    → Executes k function (d ⨾ with_address (λ w. plain (instr.LocalSet w ∷ []) ⨾ under w x))
    (λ a s. found a s ▷ λ l s. step (record a { withs = a.withs ++ l ∷ [] }) s)

abbrev pub Whiles : Type 0
Whiles =
    (k : Scene)
    → IsSet k
    → (function : Bool) (e : Coded) (value : Gives ℤ) (x : Coded) (step : Does)
    → Agrees k boolean e value
    → Executes k function x step
    → Executes k function
    (within 2 block_loop (e ⨾ plain (is_zero ∷ instr.BrIf 1 ∷ []) ⨾ x ⨾ plain (instr.Br 0 ∷ [])))
    (λ a s. while_begun k.turns (value a) (step a) s)

-- the arms of a CASE
pub data AreArms (k : Scene) (function : Bool) : List steps.Arm → List statements.Arm → Type 0 where
  no_arms : AreArms k function [] []
  more_arms : (labels : List Label) (x : Coded) (xs : List steps.Arm) (d : Does)
      (ys : List statements.Arm)
      → AreLabels labels
      → Executes k function x d
      → AreArms k function xs ys
      → AreArms k function (record { labels = labels; code = x } ∷ xs)
      (record { labels = labels; does = d } ∷ ys)

-- CASE, if its labels are tested one after another: they are too few or too far apart for a table
abbrev pub Cases : Type 0
Cases =
    (k : Scene)
    → IsSet k
    → (function : Bool) (x : Part) (value : Gives ℤ) (xs : List steps.Arm)
    (ys : List statements.Arm) (otherwise : Coded) (other : Does)
    → steps.is_dense (length xs) (steps.all_labels xs) ≡ false
    → Agrees k x.of x.code value
    → ((n : ℕ) → IsGrowing k (steps.chain_code n xs otherwise))
    → ((n : ℕ) (v : Value) → k.kept n ≡ None → AreArms (keeping k n v) function xs ys)
    → ((n : ℕ) (v : Value) → k.kept n ≡ None → Executes (keeping k n v) function otherwise other)
    → Executes k function (steps.case_code x.code xs otherwise) (λ a s.
    value a s ▷ λ v s. statements.choose_arm v ys other a s)

-- without ELSE there is a fault if no label has the value
abbrev pub Unlabelled : Type 0
Unlabelled =
    (k : Scene) → IsSet k → (function : Bool)
    → Executes k function (steps.else_code None) (statements.or_else None)

-- The control variable is an entire variable of a scalar type. The limit is kept in a local, and
-- the step is a constant of 32 bits.
abbrev pub Fors : Type 0
Fors =
    (k : Scene)
    → IsSet k
    → (function : Bool) (t : TypeNo) (c : Scalar) (l : Location) (at : Setting → List Instr)
    (start bound : Part) (by : ℤ) (x : Coded) (first last : Gives ℤ) (step : Does)
    → IsCell k.setting.home.types t c
    → (scalar_at k.setting.home.types t ≡ None → ⊥)
    → component (row k.world) l ≡ Some (Cell c)
    → IsThere k at l
    → negsuc 2147483647 ≤ℤ by
    → by ≤ℤ pos 4294967295
    → Agrees k t (behind start.code (λ types. cells.check_taken types t start.constant start.of))
    first
    → Agrees k bound.of bound.code last
    → IsGrowing k x
    → ((n : ℕ) (v : Value) → k.kept n ≡ None → Executes (keeping k n v) function x step)
    → Executes k function (for_code (with_setting (λ s. plain (at s))) t start bound by x) (λ a s.
    first a s ▷ λ v s.
    last a s ▷ λ limit s.
    for_all k.turns (as_type a.types t) l by limit (step a) (store_number l v s))

abbrev pub Repeats : Type 0
Repeats =
    (k : Scene)
    → IsSet k
    → (function : Bool) (e : Coded) (value : Gives ℤ) (x : Coded) (step : Does)
    → Agrees k boolean e value
    → Executes k function x step
    → Executes k function (within 1 loop (x ⨾ e ⨾ plain (is_zero ∷ instr.BrIf 0 ∷ []))) (λ a s.
    until_true k.turns (step a) (value a) s)

abbrev pub Loops : Type 0
Loops =
    (k : Scene)
    → IsSet k
    → (function : Bool) (x : Coded) (step : Does)
    → Executes k function x step
    → Executes k function (leaving 1 block_loop (x ⨾ plain (instr.Br 0 ∷ []))) (λ a s.
    loop_outcome k.turns (step a) s)
