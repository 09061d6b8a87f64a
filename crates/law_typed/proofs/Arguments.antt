-- Arguments for formals, as they stand in a typed tree.
use Rattle.std.proofs.Common.{◌≡◌, ℕ, Bool, true, false, not, List, [], ◌∷◌, ◌++◌, map, Option, Some, None, Result, Ok, Err, refl, sym, ap, subst, ◌∙◌, append-nil, append_assoc, arith}
use Rattle.std.specs.Prelude.{cond, length}
use Rattle.std.specs.List.{fold}
use Rattle.m2_rule.specs.declared.rule.Rule.TheVariants as rule
use Rattle.m2_rule.specs.declared.breach.Breach.{Breach}
use Rattle.m2_tree.specs.declared.pos.Pos.{Pos}
use Rattle.m2_tree.specs.declared.name.Ident.{Ident}
use Rattle.m2_tree.specs.declared.expr.Expr.{Expr}
use Rattle.typed_tree.specs.declared.types.TypeNo.{TypeNo}
use Rattle.typed_tree.specs.declared.computed.Argument.{Argument}
use Rattle.typed_tree.specs.declared.computed.Argument.TheVariants as argument
use Rattle.typed_tree.specs.declared.computed.Place.{Place}
use Rattle.typed_tree.specs.declared.computed.Slot.{Slot}
use Rattle.typed_tree.specs.declared.computed.TypedExpr.{TypedExpr}
use Rattle.typed_tree.specs.declared.meaning.Value.TheVariants as value
use Rattle.typed_tree.specs.declared.shape.Formal.{Formal}
use Rattle.typed_tree.specs.declared.shape.Shape.{Shape}
use Rattle.typed_tree.specs.declared.shape.Shape.TheVariants as shape
use Rattle.typed_tree.specs.Types.{are_same, char}
use Rattle.check_scope.specs.declared.meaningless.Meaningless.{Meaningless}
use Rattle.check_scope.specs.declared.meaningless.Meaningless.TheVariants as meaningless
use Rattle.check_scope.specs.declared.scope.Scope.{Scope}
use Rattle.check_scope.specs.Elaborated.{Gathers, of_value, of_sort, ◌▷◌}
use Rattle.check_value.specs.declared.class.Class.{Class}
use Rattle.check_value.specs.declared.computed.Computed.{Computed}
use Rattle.check_value.specs.declared.computed.Computed.TheVariants as computed
use Rattle.check_value.specs.declared.computed.Designated.{Designated}
use Rattle.check_value.specs.declared.computed.Designated.TheVariants as designated
use Rattle.check_value.specs.Suits.{value_suited}
use Rattle.check_value.specs.Values.{value_at_place}
use Rattle.check_value.specs.Actuals.{elements_suit, variable_passed, open_passed, open_value, value_passed, passed_as, whole_passed, simple_passed, actual, with_argument, next_formal}
use Rattle.check_expr.specs.Meanings.{meanings_of, value_standing, argument_by, with_actual, actuals}
use Rattle.def_typing.specs.Parts.{Among, here, later}
use Rattle.def_typing.specs.Shapes.{shape_at}
use Rattle.def_typing.specs.Operators.{Kind, Text, Whole}
use Rattle.def_typing.specs.Things.{Thing, Standing, Taken, content, content_of}
use Rattle.def_typing.specs.Functions.{variable_formal, open_variable_formal, value_formal, open_value_formal}
use Rattle.def_typing.specs.Expressions.{Stands, Has, taken}
use Rattle.law_typing.specs.Judging.{Judges}
use Rattle.law_typing.specs.Exact.{Knows, Repeats, IsKind, kind_constant, IsThing, thing_value, thing_variable, thing_open}
use Rattle.law_typing.proofs.Combining.{Lawful, Decided, holds, fails_it, Finds, finds, finds_headless, finds_nothing}
use Rattle.law_typing.proofs.Deciding.{same_decided}
use Rattle.law_typing.proofs.Shaping.{class_is, class_of}
use Rattle.law_typing.proofs.Expressing.{expression_found}
use Rattle.def_typed.specs.Named.{Named, Variable, OpenArray, Senses}
use Rattle.def_typed.specs.Expressions as rules
use Rattle.def_typed.specs.Expressions.{Designates, Gives, IsPassed, ArePassed}
use Rattle.law_typed.specs.Typed.{IsOne, IsNamed, Grasps}
use Rattle.law_typed.proofs.Meant.{IfMeant, meant, not_meant, if_as, if_also, if_then, if_where, if_reported, if_sorted, if_value, if_equal}
use Rattle.law_typed.proofs.Values.{IsCoded}
use Rattle.law_typed.proofs.Designators.{given}

-- what a test says
pub same_by : {t u : TypeNo} → not (are_same t u) ≡ false → t ≡ u
same_by {t = t} {u = u} e = by_test (same_decided t u) e
  where
    by_test : {b : Bool} → Decided (t ≡ u) b → not b ≡ false → t ≡ u
    by_test (holds p) e = p
    by_test (fails_it n) e = absurd cc

-- a variable holds no string
content_text : (t : TypeNo) (z : Option Shape) {s : List ℕ} → Text s ≡ content_of t z → ⊥
content_text t None e = absurd cc
content_text t (Some (shape.Record fs)) e = absurd cc
content_text t (Some (shape.Scalar r)) e = absurd cc
content_text t (Some shape.Set) e = absurd cc
content_text t (Some (shape.Array i u)) e = absurd cc
content_text t (Some (shape.Procedure h)) e = absurd cc
content_text t (Some (shape.Open u)) e = absurd cc

module _ (g : Gathers) (j : Judges g) (lawful : Lawful g j) (names : Ident → Standing) (exports : ℕ → Ident → Standing)
    (senses : Senses) (s : Scope g.Reported) (knows : Knows g j names exports s) (grasps : Grasps g senses s) where
  abbrev V : Expr → Type 0
  V = IsCoded g j lawful names exports senses s knows

  abbrev G : TypeNo → Expr → TypedExpr → Type 0
  G = Gives s.types names exports senses

  abbrev D : Expr → Named → Type 0
  D = Designates s.types names exports senses

  abbrev P : Formal → Expr → Argument → Type 0
  P = IsPassed s.types names exports senses

  abbrev means : Expr → Result Designated (Meaningless g.Reported)
  means e = (meanings_of g e).means s

  -- what is known of an expression: its code, and what it names
  pub record IsTyped (e : Expr) : Type 0 where
    pub coded : V e
    pub named : IfMeant (IsNamed (D e)) (means e)

  -- what is known of what it stands for
  pub record IsThere (e : Expr) (x : Designated) : Type 0 where
    pub equal : means e ≡ Ok x
    pub named : IsNamed (D e) x
    pub thing : Thing
    pub is : IsThing x thing
    pub stands : Stands s.types names exports e thing
    pub one : (y : Thing) → Stands s.types names exports e y → y ≡ thing

  pub record IsFoundAs (S : Thing → Type 0) (x : Designated) : Type 0 where
    pub thing : Thing
    pub is : IsThing x thing
    pub stands : S thing
    pub one : (y : Thing) → S y → y ≡ thing

  pub of_finds : {S : Thing → Type 0} {B : Breach → Type 0} {d : Result Designated (Meaningless g.Reported)}
      → Finds g j lawful (Repeats g j names s) S B d → IfMeant (IsFoundAs S) d
  of_finds (finds a x i m u n) = meant a (record { thing = x; is = i; stands = m; one = u })
  of_finds (finds_headless b r o m u n) = not_meant (meaningless.Headless b r)
  of_finds (finds_nothing r a n) = not_meant (meaningless.Broken r)

  pub there : (e : Expr) → IsTyped e → IfMeant (IsThere e) (means e)
  there e h = if_as (λ x p. record {
    equal = p.0;
    named = p.1.0;
    thing = p.1.1.thing;
    is = p.1.1.is;
    stands =
        p.1.1.stands;
    one = p.1.1.one;
  })
      (if_also (if_equal (means e)) (if_also h.named (of_finds (expression_found g j lawful names exports s knows e))))

  -- ---- strings

  -- what has a kind by what it stands for
  kind_by : {e : Expr} {k : Kind} {x : Thing} → ((y : Thing) → Stands s.types names exports e y → y ≡ x)
      → Has s.types names exports e k → Taken s.types x k
  kind_by {k = k} one (taken {x = y} m t) = subst (λ (z : Thing). Taken s.types z k) (one y m) t

  -- ---- one argument

  abbrev Passing : Formal → Expr → Result Argument g.Reported → Type 0
  Passing f e r = IfMeant (IsOne (P f e)) r

  var : {e : Expr} {t : TypeNo} {x : Designated} (at : Pos) → IsThere e x
      → Passing (variable_formal t) e (variable_passed g t at x)
  var {e = e} {t = t} {x = designated.Variable u p} at i =
      if_where g (not (are_same u t)) at rule.NoVariable
      (λ q. meant _ (record {
        holds = rules.variable (i.named.holds (Variable t p) (let w : u ≡ t = same_by q in cc w));
        alone = λ y r. alone y r;
      }))
    where
      alone : (y : Argument) → P (variable_formal t) e y → y ≡ argument.Place p
      alone _ (rules.variable {place = z} d) = cc (i.named.alone (Variable t z) d)
  var {x = designated.Value v} at i = if_reported g at rule.NoVariable
  var {x = designated.Open u z} at i = if_reported g at rule.NoVariable
  var {x = designated.Type u} at i = if_reported g at rule.NoVariable
  var {x = designated.Procedure p} at i = if_reported g at rule.NoVariable
  var {x = designated.Nested p} at i = if_reported g at rule.NoVariable
  var {x = designated.Standard f} at i = if_reported g at rule.NoVariable
  var {x = designated.Module k} at i = if_reported g at rule.NoVariable

  open_var : {e : Expr} {t : TypeNo} {x : Designated} (at : Pos) → IsThere e x
      → Passing (open_variable_formal t) e (open_passed g s.types t at x)
  open_var {e = e} {t = t} {x = designated.Variable u p} at i =
      if_where g (not (elements_suit s.types t u)) at rule.NoVariable
      (λ q. meant _ (record {
        holds = rules.array_variable (i.named.holds (Variable u p) refl);
        alone =
            λ y r. alone y r;
      }))
    where
      alone : (y : Argument) → P (open_variable_formal t) e y → y ≡ argument.Array u p
      alone _ (rules.array_variable {u = w} {place = z} d) = cc (i.named.alone (Variable w z) d)
      alone _ (rules.open_variable {s = z} d) = absurd cc (i.named.alone (OpenArray t z) d)
  open_var {e = e} {t = t} {x = designated.Open u z} at i =
      if_where g (not (are_same u t)) at rule.NoVariable
      (λ q. meant _ (record {
        holds = rules.open_variable
            (i.named.holds (OpenArray t z) (let w : u ≡ t = same_by q in cc w));
        alone = λ y r. alone y r;
      }))
    where
      alone : (y : Argument) → P (open_variable_formal t) e y → y ≡ argument.Open z
      alone _ (rules.array_variable {u = w} {place = k} d) = absurd cc (i.named.alone (Variable w k) d)
      alone _ (rules.open_variable {s = k} d) = cc (i.named.alone (OpenArray t k) d)
  open_var {x = designated.Value v} at i = if_reported g at rule.NoVariable
  open_var {x = designated.Type u} at i = if_reported g at rule.NoVariable
  open_var {x = designated.Procedure p} at i = if_reported g at rule.NoVariable
  open_var {x = designated.Nested p} at i = if_reported g at rule.NoVariable
  open_var {x = designated.Standard f} at i = if_reported g at rule.NoVariable
  open_var {x = designated.Module k} at i = if_reported g at rule.NoVariable

  -- what stands for a variable has no string
  no_text : {e : Expr} {t : TypeNo} {p : Place} {z : List ℕ} → IsThere e (designated.Variable t p)
      → Has s.types names exports e (Text z) → ⊥
  no_text {e = e} {t = t} {p = p} {z = z} i h = by_thing i.is (kind_by i.one h)
    where
      by_thing : {x : Thing} → IsThing (designated.Variable t p) x → Taken s.types x (Text z) → ⊥
      by_thing (thing_variable u d) q = content_text u (shape_at s.types u) q

  no_open_text : {e : Expr} {t : TypeNo} {u : Slot} {z : List ℕ} → IsThere e (designated.Open t u)
      → Has s.types names exports e (Text z) → ⊥
  no_open_text {e = e} {t = t} {u = u} {z = z} i h = by_thing i.is (kind_by i.one h)
    where
      by_thing : {x : Thing} → IsThing (designated.Open t u) x → Taken s.types x (Text z) → ⊥
      by_thing (thing_open v w) q = absurd cc

  text_there : {e : Expr} {text : List ℕ} → IsThere e (designated.Value (computed.Constant (value.Text text)))
      → Has s.types names exports e (Text text) × ((z : List ℕ) → Has s.types names exports e (Text z) → z ≡ text)
  text_there {e = e} {text = text} i = by_thing i.thing i.is i.stands i.one
    where
      by_kind : {k : Kind} → IsKind (computed.Constant (value.Text text)) k → k ≡ Text text
      by_kind (kind_constant v) = refl

      by_thing : (x : Thing) → IsThing (designated.Value (computed.Constant (value.Text text))) x
          → Stands s.types names exports e x → ((y : Thing) → Stands s.types names exports e y → y ≡ x)
          → Has s.types names exports e (Text text) × ((z : List ℕ) → Has s.types names exports e (Text z) → z ≡ text)
      by_thing _ (thing_value {k = k} w) m one =
          (taken m (sym (by_kind w)), λ z h. let q : Text z ≡ k = kind_by one h in cc (q, by_kind w))

  open_val : {e : Expr} {t : TypeNo} {x : Designated} (at : Pos) → IsThere e x
      → Passing (open_value_formal t) e (open_value g s.types t at x)
  open_val {e = e} {t = t} {x = designated.Variable u p} at i =
      if_where g (not (elements_suit s.types t u)) at rule.WrongArgument
      (λ q. meant _ (record { holds = rules.array (i.named.holds (Variable u p) refl); alone = λ y r. alone y r }))
    where
      alone : {u' : TypeNo} (y : Argument) → P (open_value_formal u') e y → y ≡ argument.Array u p
      alone _ (rules.array {u = w} {place = z} d) = cc (i.named.alone (Variable w z) d)
      alone _ (rules.open_array {t = w} {s = z} d) = absurd cc (i.named.alone (OpenArray w z) d)
      alone _ (rules.text h) = absurd (no_text i h)
  open_val {e = e} {t = t} {x = designated.Open u z} at i =
      if_where g (not (are_same u t)) at rule.WrongArgument
      (λ q. meant _ (record {
        holds = rules.open_array
            (i.named.holds (OpenArray t z) (let w : u ≡ t = same_by q in cc w));
        alone = λ y r. alone y r;
      }))
    where
      alone : {u' : TypeNo} (y : Argument) → P (open_value_formal u') e y → y ≡ argument.Open z
      alone _ (rules.array {u = w} {place = k} d) = absurd cc (i.named.alone (Variable w k) d)
      alone _ (rules.open_array {t = w} {s = k} d) = cc (i.named.alone (OpenArray w k) d)
      alone _ (rules.text h) = absurd (no_open_text i h)
  open_val {e = e} {t = t} {x = designated.Value (computed.Constant (value.Text text))} at i =
      if_where g (not (are_same t char)) at rule.WrongArgument (λ q. meant _ (by_char (sym (same_by q))))
    where
      alone : {u : TypeNo} (y : Argument) → P (open_value_formal u) e y → y ≡ argument.Text text
      alone _ (rules.array {u = w} {place = k} d) = absurd cc (i.named.alone (Variable w k) d)
      alone _ (rules.open_array {t = w} {s = k} d) = absurd cc (i.named.alone (OpenArray w k) d)
      alone _ (rules.text {s = z} h) = cc ((text_there i).1 z h)

      by_char : {u : TypeNo} → char ≡ u → IsOne (P (open_value_formal u) e) (argument.Text text)
      by_char {u = u} q = record {
        holds = subst (λ (w : TypeNo). P (open_value_formal w) e (argument.Text text)) q
            (rules.text (text_there i).0);
        alone = λ y r. alone y r;
      }
  open_val {x = designated.Value (computed.Constant (value.Number n))} at i = if_reported g at rule.WrongArgument
  open_val {x = designated.Value (computed.Constant (value.Scalar n))} at i = if_reported g at rule.WrongArgument
  open_val {x = designated.Value (computed.Constant (value.Set n))} at i = if_reported g at rule.WrongArgument
  open_val {x = designated.Value (computed.Scalar u b z)} at i = if_reported g at rule.WrongArgument
  open_val {x = designated.Value (computed.Set z)} at i = if_reported g at rule.WrongArgument
  open_val {x = designated.Value (computed.Routine u z)} at i = if_reported g at rule.WrongArgument
  open_val {x = designated.Value (computed.Procedure p)} at i = if_reported g at rule.WrongArgument
  open_val {x = designated.Value (computed.Whole u z)} at i = if_reported g at rule.WrongArgument
  open_val {x = designated.Value computed.Untaken} at i = if_reported g at rule.WrongArgument
  open_val {x = designated.Type u} at i = if_reported g at rule.WrongType
  open_val {x = designated.Procedure p} at i = if_reported g at rule.WrongArgument
  open_val {x = designated.Nested p} at i = if_reported g at rule.NoProcedureValue
  open_val {x = designated.Standard f} at i = if_reported g at rule.NoProcedureValue
  open_val {x = designated.Module k} at i = if_reported g at rule.WrongType

  -- ---- value formals

  whole_val : {e : Expr} {t : TypeNo} {x : Designated} (at : Pos) → content s.types t ≡ Whole t → IsThere e x
      → Passing (value_formal t) e (whole_passed g t at x)
  whole_val {e = e} {t = t} {x = designated.Variable u p} at w i =
      if_where g (not (are_same u t)) at rule.WrongArgument
      (λ q. meant _ (record {
        holds = rules.copied w (i.named.holds (Variable t p) (let z : u ≡ t = same_by q in cc z));
        alone = λ y r. alone y r;
      }))
    where
      alone : (y : Argument) → P (value_formal t) e y → y ≡ argument.Place p
      alone _ (rules.copied {place = z} n d) = cc (i.named.alone (Variable t z) d)
      alone _ (rules.value n d) = absurd (n w)
  whole_val {x = designated.Value v} at w i = if_reported g at rule.WrongArgument
  whole_val {x = designated.Open u z} at w i = if_reported g at rule.WrongArgument
  whole_val {x = designated.Type u} at w i = if_reported g at rule.WrongType
  whole_val {x = designated.Procedure p} at w i = if_reported g at rule.WrongArgument
  whole_val {x = designated.Nested p} at w i = if_reported g at rule.NoProcedureValue
  whole_val {x = designated.Standard f} at w i = if_reported g at rule.NoProcedureValue
  whole_val {x = designated.Module k} at w i = if_reported g at rule.WrongType

  simple_val : {e : Expr} {t : TypeNo} (x : Designated) (at : Pos) → (content s.types t ≡ Whole t → ⊥)
      → IfMeant (IsOne (G t e)) (value_at_place g s.types at x ▷ value_suited g rule.WrongArgument s.types t at)
      → Passing (value_formal t) e (simple_passed g s.types t at x)
  simple_val {e = e} {t = t} x at n h = by_value (value_at_place g s.types at x) h
    where
      passed : {z : TypedExpr} → IsOne (G t e) z → IsOne (P (value_formal t) e) (argument.Value t z)
      passed {z = z} o = record { holds = rules.value n o.holds; alone = λ y r. alone y r }
        where
          alone : (y : Argument) → P (value_formal t) e y → y ≡ argument.Value t z
          alone _ (rules.copied w d) = absurd (n w)
          alone _ (rules.value {x = k} m r) = cc (o.alone k r)

      by_value : (r : Result Computed g.Reported)
          → IfMeant (IsOne (G t e)) (r ▷ value_suited g rule.WrongArgument s.types t at)
          → Passing (value_formal t) e (r ▷ λ v. value_suited g rule.WrongArgument s.types t at v ▷ λ z. Ok
          (argument.Value t z))
      by_value (Ok v) m = if_then m (λ z o. meant _ (passed o))
      by_value (Err q) m = not_meant q

  val : {e : Expr} (t : TypeNo) (x : Designated) (at : Pos) → IsThere e x
      → IfMeant (IsOne (G t e)) (value_at_place g s.types at x ▷ value_suited g rule.WrongArgument s.types t at)
      → Passing (value_formal t) e (value_passed g s.types t at x)
  val {e = e} t x at i h = subst (λ (c : Class). Passing (value_formal t) e (passed_as g s.types t at x c))
      (sym (class_is s.types t)) (by_shape (shape_at s.types t) refl)
    where
      simple : {k : Kind} → content s.types t ≡ k → (k ≡ Whole t → ⊥)
          → Passing (value_formal t) e (simple_passed g s.types t at x)
      simple q n = simple_val x at (λ w. n (sym q ∙ w)) h

      by_shape : (z : Option Shape) → shape_at s.types t ≡ z
          → Passing (value_formal t) e (passed_as g s.types t at x (class_of z))
      by_shape None q = whole_val at (ap (content_of t) q) i
      by_shape (Some (shape.Record fs)) q = whole_val at (ap (content_of t) q) i
      by_shape (Some (shape.Array k u)) q = whole_val at (ap (content_of t) q) i
      by_shape (Some (shape.Open u)) q = whole_val at (ap (content_of t) q) i
      by_shape (Some (shape.Scalar r)) q = simple (ap (content_of t) q) (λ w. absurd cc)
      by_shape (Some shape.Set) q = simple (ap (content_of t) q) (λ w. absurd cc)
      by_shape (Some (shape.Procedure u)) q = simple (ap (content_of t) q) (λ w. absurd cc)

  -- what is answered for a formal of each sort
  by_formal : {e : Expr} (v o : Bool) (t : TypeNo) (x : Designated) (at : Pos) → IsThere e x
      → IfMeant (IsOne (G t e)) (value_at_place g s.types at x ▷ value_suited g rule.WrongArgument s.types t at)
      → let f : Formal = record { is_var = v; is_open = o; of = t } in Passing f e (actual g s.types f at x)
  by_formal true true t x at i h = open_var at i
  by_formal true false t x at i h = var at i
  by_formal false true t x at i h = open_val at i
  by_formal false false t x at i h = val t x at i h

  value_standing_by : {Q : TypedExpr → Type 0} {d : Result Designated (Meaningless g.Reported)}
      (k : Computed → Result TypedExpr g.Reported) (at : Pos) (x : Designated) → d ≡ Ok x
      → IfMeant Q (value_standing g s.types at d ▷ k) → IfMeant Q (value_at_place g s.types at x ▷ k)
  value_standing_by {Q = Q} k at x e h = subst
      (λ (d : Result Designated (Meaningless g.Reported)). IfMeant Q (value_standing g s.types at d ▷ k)) e h

  passed_so : (f : Formal) (e : Expr) → IsTyped e
      → Passing f e (argument_by g s.types (Some f) (meanings_of g e).fixed.at (means e))
  passed_so f e h = by_var f.is_var
    where
      at : Pos
      at = (meanings_of g e).fixed.at

      looked : (x : Designated) → IsThere e x → Passing f e (actual g s.types f at x)
      looked x i = by_formal f.is_var f.is_open f.of x at i
          (value_standing_by _ at x i.equal (given g j lawful names exports senses s knows grasps rule.WrongArgument
          f.of at e h.coded))

      by_var : (v : Bool) → Passing f e (cond v (of_sort g at rule.NoVariable (means e)) (of_value g at (means e)) ▷
          actual g s.types f at)
      by_var true = if_then (if_sorted g at rule.NoVariable (there e h)) looked
      by_var false = if_then (if_value g at (there e h)) looked

  -- ---- all of them

  abbrev A : List Formal → List Expr → List Argument → Type 0
  A = ArePassed s.types names exports senses

  broken_actuals : {Q : List Argument → Type 0} (args : List Expr) (fs : List Formal) (r : g.Reported)
      → IfMeant Q (fold (with_actual g s) (fs, Err r) (map (meanings_of g) args)).1
  broken_actuals [] fs r = not_meant r
  broken_actuals (e ∷ es) fs r = by_argument
      (argument_by g s.types (next_formal fs).0 (meanings_of g e).fixed.at (means e))
      (λ q. broken_actuals es (next_formal fs).1 q)
    where
      by_argument : {Q : List Argument → Type 0} (x : Result Argument g.Reported)
          → ((q : g.Reported) → IfMeant Q (fold (with_actual g s) ((next_formal fs).1, Err q)
          (map (meanings_of g) es)).1) → IfMeant Q
          (fold (with_actual g s) ((next_formal fs).1, with_argument g (Err r) x) (map (meanings_of g) es)).1
      by_argument (Ok x) h = h r
      by_argument (Err q) h = h (g.join r q)

  abbrev Actuals : List Argument → List Formal → List Expr → List Argument → Type 0
  Actuals so fs args xs = (ys : List Argument) × (xs ≡ so ++ ys) × IsOne (A fs args) ys

  actuals_from : (args : List Expr) (fs : List Formal) (so : List Argument) → length fs ≡ length args
      → ((e : Expr) → Among e args → IsTyped e)
      → IfMeant (Actuals so fs args) (fold (with_actual g s) (fs, Ok so) (map (meanings_of g) args)).1
  actuals_from [] [] so q h = meant so (
    [],
    sym (append-nil so),
    record { holds = rules.no_more; alone = λ ys r. alone ys r },
  )
    where
      alone : (ys : List Argument) → A [] [] ys → ys ≡ []
      alone _ rules.no_more = refl
  actuals_from [] (f ∷ fs) so q h = absurd (omega (arith, q))
  actuals_from (e ∷ es) [] so q h = absurd (omega (arith, q))
  actuals_from (e ∷ es) (f ∷ fs) so q h =
      by_argument (λ to. actuals_from es fs to (omega (arith, q)) (λ z m. h z (later m))) (passed_so f e (h e here))
    where
      joined : {x : Argument} {xs : List Argument} → IsOne (P f e) x → Actuals (so ++ x ∷ []) fs es xs
          → Actuals so (f ∷ fs) (e ∷ es) xs
      joined {x = x} {xs = xs} o r = (
        x ∷ r.0,
        r.1
            ∙ append_assoc so (x ∷ []) r.0,
        record {
          holds = rules.one_more o.holds r.2.holds;
          alone =
              λ ys a. alone ys a;
        },
      )
        where
          alone : (ys : List Argument) → A (f ∷ fs) (e ∷ es) ys → ys ≡ x ∷ r.0
          alone _ (rules.one_more {x = y} {xs = zs} p a) = cc (o.alone y p, r.2.alone zs a)

      by_argument : {a : Result Argument g.Reported}
          → ((to : List Argument) → IfMeant (Actuals to fs es)
          (fold (with_actual g s) (fs, Ok to) (map (meanings_of g) es)).1) → Passing f e a
          → IfMeant (Actuals so (f ∷ fs) (e ∷ es))
          (fold (with_actual g s) (fs, with_argument g (Ok so) a) (map (meanings_of g) es)).1
      by_argument r (meant x o) = if_as (λ xs a. joined o a) (r (so ++ x ∷ []))
      by_argument r (not_meant k) = broken_actuals es fs k

  pub actuals_so : (fs : List Formal) (args : List Expr) → length fs ≡ length args
      → ((e : Expr) → Among e args → IsTyped e)
      → IfMeant (IsOne (A fs args)) (actuals g s fs (map (meanings_of g) args))
  actuals_so fs args q h = if_as (λ xs r. subst (IsOne (A fs args)) (sym r.1) r.2) (actuals_from args fs [] q h)
