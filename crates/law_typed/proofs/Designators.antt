-- What designators name, and values at places that ask for a type.
use Rattle.std.proofs.Common.{◌≡◌, ℕ, not, List, [], ◌∷◌, map, Option, Some, None, Result, Ok, Err, refl, sym, ap, subst, ◌∙◌}
use Rattle.std.specs.Prelude.{slice_get}
use Rattle.std.specs.Option.{option_map}
use Rattle.std.specs.List.{fold}
use Rattle.m2_rule.specs.declared.rule.Rule.{Rule}
use Rattle.m2_rule.specs.declared.rule.Rule.TheVariants as rule
use Rattle.m2_tree.specs.declared.pos.Pos.{Pos}
use Rattle.m2_tree.specs.declared.name.Ident.{Ident}
use Rattle.m2_tree.specs.declared.expr.Expr.{Expr}
use Rattle.m2_tree.specs.declared.expr.Expr.TheOpen as layer
use Rattle.m2_tree.specs.declared.expr.Selector.{Selector, Selector-F, out-Selector}
use Rattle.m2_tree.specs.declared.expr.Designator.{Designator, out-Designator}
use Rattle.m2_tree.specs.declared.expr.Item.{Item}
use Rattle.typed_tree.specs.declared.types.TypeNo.{TypeNo}
use Rattle.typed_tree.specs.declared.computed.Component.TheVariants as part
use Rattle.typed_tree.specs.declared.computed.Place.{Place}
use Rattle.typed_tree.specs.declared.computed.Root.TheVariants as root
use Rattle.typed_tree.specs.declared.computed.TypedExpr.{TypedExpr}
use Rattle.typed_tree.specs.declared.known_types.Types.{Types}
use Rattle.typed_tree.specs.declared.meaning.LocalKind.{LocalKind}
use Rattle.typed_tree.specs.declared.meaning.LocalKind.TheVariants as kind
use Rattle.typed_tree.specs.declared.meaning.LocalVariable.{LocalVariable}
use Rattle.typed_tree.specs.declared.meaning.Meaning.{Meaning}
use Rattle.typed_tree.specs.declared.meaning.Value.{Value as ConstantValue}
use Rattle.typed_tree.specs.declared.meaning.Meaning.TheVariants as meaning
use Rattle.typed_tree.specs.declared.shape.Shape.{Shape}
use Rattle.typed_tree.specs.declared.shape.Shape.TheVariants as shape
use Rattle.typed_tree.specs.Chains.{behind, root_place}
use Rattle.typed_tree.specs.Names.{place_of}
use Rattle.typed_tree.specs.Types.{cardinal}
use Rattle.check_scope.specs.declared.meaningless.Meaningless.{Meaningless}
use Rattle.check_scope.specs.declared.meaningless.Meaningless.TheVariants as meaningless
use Rattle.check_scope.specs.declared.scope.Scope.{Scope}
use Rattle.check_scope.specs.Elaborated.{Gathers, ◌▷◌}
use Rattle.check_scope.specs.Scopes.{looked_up, fields_at}
use Rattle.check_const.specs.Denote.{exported_by, export_of, exported_meaning}
use Rattle.check_const.specs.Numbers.{is_between}
use Rattle.check_value.specs.declared.class.Class.{Class}
use Rattle.check_value.specs.declared.class.Class.TheVariants as class
use Rattle.check_value.specs.declared.computed.Computed.{Computed}
use Rattle.check_value.specs.declared.computed.Computed.TheVariants as values
use Rattle.check_value.specs.declared.computed.Designated.{Designated}
use Rattle.check_value.specs.declared.computed.Designated.TheVariants as designated
use Rattle.check_value.specs.declared.side.Side.{Side}
use Rattle.check_value.specs.declared.select.Subscripted.{Subscripted}
use Rattle.check_value.specs.declared.select.Subscripted.TheVariants as indexes
use Rattle.check_value.specs.Classes.{class_at}
use Rattle.check_value.specs.Selection.{component, record_field, field_named, typed_field, indices, array_indexed, element_of_array, element_at_index}
use Rattle.check_value.specs.Suits.{sort_suits, value_suited, value_in}
use Rattle.check_value.specs.Values.{designated_by, local_by}
use Rattle.check_expr.specs.Meanings.{Meant, Picks, meanings_of, picks, head, value_of, first_name, name_in_module, field_of, field_at, index_at}
use Rattle.def_typing.specs.Shapes.{IsMade, shape_at}
use Rattle.def_typing.specs.Operators.{◌!◌, Kind, operand}
use Rattle.def_typing.specs.Parts.{Among, here, later}
use Rattle.def_typing.specs.Things.{Standing}
use Rattle.law_typing.specs.Judging.{Judges}
use Rattle.law_typing.specs.Exact.{Knows, IsKind}
use Rattle.law_typing.proofs.Combining.{Lawful}
use Rattle.law_typing.proofs.Shaping.{fields_is, fields_of, array_is, array_of, one_made}
use Rattle.law_typing.proofs.Places.{picks_is, head_is}
use Rattle.def_typed.specs.Named.{Named, Variable, OpenArray, Module, named, named_by, local_named, Senses}
use Rattle.def_typed.specs.Coded.{At, constant, constant_set, computed as run}
use Rattle.def_typed.specs.Expressions as rules
use Rattle.def_typed.specs.Expressions.{Names, Leads, Selects, Gives, HasCode}
use Rattle.law_typed.specs.Typed.{IsOne, IsNamed, code_of, named_of, Grasps}
use Rattle.law_typed.proofs.Meant.{IfMeant, meant, not_meant, if_as, if_then, if_both, if_second, if_left, if_where, if_reported, if_plain, by_equal}
use Rattle.law_typed.proofs.Operators.{SideIs, side_known, side_run, side_bits, side_set, side_routine, side_procedure, no_side, side_is, at_one}
use Rattle.law_typed.proofs.Values.{IsCoded, IsValue, value_is}

pub data IsConstant : Computed → Type 0 where
  is_constant : (v : ConstantValue) → IsConstant (values.Constant v)

-- ---- values at a type

module _ (g : Gathers) (broken : Rule) (types : Types) (t : TypeNo) (at : Pos) where
  abbrev Suited : Kind → Option TypedExpr → TypedExpr → Type 0
  Suited a c x = IsOne (At t a c) x

  suited_as : {a : Kind} {c : Option TypedExpr} {x : TypedExpr} → At t a c x → Suited a c x
  suited_as h = record { holds = h; alone = λ y r. at_one h r }

  suited_by : {p : Option Side} {a : Kind} {c : Option TypedExpr} (u : Class) → SideIs p a c
      → IfMeant (Suited a c) (value_in g broken types t at p u)
  suited_by (class.Scalar r) (side_known a) =
      if_where g (not (sort_suits r.base a.sort)) at broken
      (λ e. if_where g (not (is_between r.low a.number r.high)) at rule.OutOfRange (λ q. meant _ (suited_as constant)))
  suited_by (class.Scalar r) (side_run b x) = if_where g _ at broken (λ e. meant _ (suited_as run))
  suited_by (class.Scalar r) (side_bits bits) = if_reported g at broken
  suited_by (class.Scalar r) (side_set x) = if_reported g at broken
  suited_by (class.Scalar r) (side_routine u x) = if_reported g at broken
  suited_by (class.Scalar r) (side_procedure p) = if_reported g at broken
  suited_by (class.Scalar r) no_side = if_reported g at broken
  suited_by class.Set (side_known a) = if_reported g at broken
  suited_by class.Set (side_run b x) = if_reported g at broken
  suited_by class.Set (side_bits bits) = meant _ (suited_as constant_set)
  suited_by class.Set (side_set x) = meant _ (suited_as run)
  suited_by class.Set (side_routine u x) = if_reported g at broken
  suited_by class.Set (side_procedure p) = if_reported g at broken
  suited_by class.Set no_side = if_reported g at broken
  suited_by class.Procedure (side_known a) = if_reported g at broken
  suited_by class.Procedure (side_run b x) = if_reported g at broken
  suited_by class.Procedure (side_bits bits) = if_reported g at broken
  suited_by class.Procedure (side_set x) = if_reported g at broken
  suited_by class.Procedure (side_routine u x) = if_where g _ at broken (λ e. meant _ (suited_as run))
  suited_by class.Procedure (side_procedure p) = if_where g _ at broken (λ e. meant _ (suited_as run))
  suited_by class.Procedure no_side = if_reported g at broken
  suited_by class.Whole s = if_reported g at broken

  pub suited : {v : Computed} {k : Kind} → IsKind v k
      → IfMeant (Suited (operand k) (code_of v)) (value_suited g broken types t at v)
  suited i = suited_by (class_at types t) (side_is i)

-- ---- names

module _ (g : Gathers) (level : ℕ) (at : Pos) where
  local_so : (v : LocalVariable) (k : LocalKind) → named_of (local_by level v k) ≡ Some (local_named level v k)
  local_so v kind.Variable = refl
  local_so v kind.Value = refl
  local_so v kind.Alias = refl
  local_so v kind.Open = refl

  pub named_so : (m : Meaning) → IfMeant (λ x. named_of x ≡ named_by level m) (designated_by g level at m)
  named_so (meaning.Constant v) = meant _ refl
  named_so (meaning.Type t n) = meant _ refl
  named_so (meaning.Variable v) = meant _ refl
  named_so (meaning.Local v) = meant _ (local_so v v.kind)
  named_so (meaning.Field f) = meant _ refl
  named_so (meaning.Procedure p) = meant _ refl
  named_so (meaning.LocalProcedure p) = meant _ refl
  named_so meaning.Ahead = not_meant _
  named_so (meaning.Standard f) = meant _ refl
  named_so (meaning.Module k) = meant _ refl

module _ (g : Gathers) (j : Judges g) (lawful : Lawful g j) (names : Ident → Standing) (exports : ℕ → Ident → Standing)
    (senses : Senses) (s : Scope g.Reported) (knows : Knows g j names exports s) (grasps : Grasps g senses s) where
  abbrev V : Expr → Type 0
  V = IsCoded g j lawful names exports senses s knows

  abbrev G : TypeNo → Expr → TypedExpr → Type 0
  G = Gives s.types names exports senses

  -- ---- values

  pub given : (broken : Rule) (t : TypeNo) (at : Pos) (e : Expr) → V e
      → IfMeant (λ x. IsOne (G t e) x) (value_of g s (meanings_of g e) ▷ value_suited g broken s.types t at)
  given broken t at e h = if_then (value_is g j lawful names exports senses s knows e h)
      (λ v i. if_as (λ x u. one i u) (suited g broken s.types t at i.is))
    where
      one : {v : Computed} {x : TypedExpr} (i : IsValue g j lawful names exports senses s knows e v)
          → IsOne (At t (operand i.kind) (code_of v)) x → IsOne (G t e) x
      one {v = v} {x = x} i u = record { holds = rules.gives i.has i.code u.holds; alone = λ y r. alone y r }
        where
          alone : (y : TypedExpr) → G t e y → y ≡ x
          alone y (rules.gives {k = k} {c = c} hk hc a) = let q = i.one k hk in
              let w = i.alone c (subst (λ (l : Kind). HasCode s.types names exports senses e l c) q hc) in
              u.alone y (subst (λ (l : Kind). At t (operand l) (code_of v) y) q
              (subst (λ (d : Option TypedExpr). At t (operand k) d y) w a))

  -- ---- names

  abbrev pub Called : Ident → Option Named
  Called name = named senses.level (senses.of_names name)

  level_so : (m : Option Meaning) {n : Option Named} → named s.level m ≡ n → named senses.level m ≡ n
  level_so m {n = n} e = subst (λ (l : ℕ). named l m ≡ n) (sym grasps.of_level) e

  first_so : (name : Ident) → IfMeant (λ x. named_of x ≡ Called name) (first_name g s name)
  first_so name = if_then (by_equal (looked_up g s name) (λ m e. e))
      (λ m e. if_plain (if_as (λ x q. q ∙ sym (level_so (senses.of_names name) (grasps.of_names name m e)))
      (named_so g s.level name.pos m)))

  exported_so : (k : ℕ) (name : Ident) → IfMeant (λ x. named_of x ≡ named senses.level (senses.of_exports k name))
      (name_in_module g s k name)
  exported_so k name = by_export (exported_by name.name (slice_get s.tables k)) refl
    where
      by_export : (m : Option Meaning) → exported_by name.name (slice_get s.tables k) ≡ m
          → IfMeant (λ x. named_of x ≡ named senses.level (senses.of_exports k name))
          (export_of g name.pos m ▷ designated_by g s.level name.pos)
      by_export None e = not_meant _
      by_export (Some m) e = if_as (λ x q. q ∙ sym (level_so (senses.of_exports k name) (grasps.of_exports k name m e)))
          (named_so g s.level name.pos m)

  -- ---- components

  abbrev N : Selector-F Expr Selector Designator Item → Named → Named → Type 0
  N l m n = Selects s.types names exports senses m l n

  -- what a selector names, behind what is named before it
  abbrev Behind : Designated → Selector-F Expr Selector Designator Item → Designated → Type 0
  Behind x l y = IsNamed (λ n. (m : Named) × (named_of x ≡ Some m) × N l m n) y

  -- if one thing is named before it
  behind_one : (x : Designated) {y : Designated} {l : Selector-F Expr Selector Designator Item} (m : Named)
      → named_of x ≡ Some m → ((n : Named) → named_of y ≡ Some n → N l m n)
      → ((n : Named) → N l m n → named_of y ≡ Some n) → Behind x l y
  behind_one x {l = l} m e into out = record {
    holds = λ n q. (m, e, into n q);
    alone =
        λ n r. out n (subst (λ (k : Named). N l k n) (cc (r.1, e)) r.2);
  }

  pair_some : {A B : Type 0} {a c : A} {b d : B} → ◌≡◌ {A = Option (A × B)} (Some (a, b)) (Some (c, d)) → (a ≡ c)
      × (b ≡ d)
  pair_some {A = A} {B = B} {a = a} {c = c} {b = b} {d = d} e = let q : ◌≡◌ {A = A × B} (a, b) (c, d) = cc e in
      (ap (λ (p : A × B). p.0) q, ap (λ (p : A × B). p.1) q)

  same_fields : (t : TypeNo) {fs hs : List (List ℕ × TypeNo)} → IsMade s.types t (shape.Record fs)
      → IsMade s.types t (shape.Record hs) → hs ≡ fs
  same_fields t {fs = fs} p q = cc (one_made s.types t q p)

  same_array : (t : TypeNo) {i u k v : TypeNo} → IsMade s.types t (shape.Array i u) → IsMade s.types t (shape.Array k v)
      → (k ≡ i) × (v ≡ u)
  same_array t p q = let e = one_made s.types t q p in (cc e, cc e)

  field_behind : (t : TypeNo) (p : Place) (at : Pos) (name : Ident)
      → IfMeant (Behind (designated.Variable t p) (layer.Field at name)) (component g s.types at name t p)
  field_behind t p at name = subst (λ (fs : Option (List (List ℕ × TypeNo))). IfMeant
      (Behind (designated.Variable t p) (layer.Field at name))
      (record_field g at name fs ▷ λ f. Ok (designated.Variable f.1 (behind p (part.Field t f.0)))))
      (sym (fields_is s.types t)) (by_shape (shape_at s.types t) refl)
    where
      one : {fs : List (List ℕ × TypeNo)} {i : ℕ} {e : List ℕ × TypeNo} → IsMade s.types t (shape.Record fs)
          → place_of name.name fs ≡ Some i → slice_get fs i ≡ Some e → (n : Named)
          → N (layer.Field at name) (Variable t p) n → Some (Variable e.1 (behind p (part.Field t i))) ≡ Some n
      one {fs = fs} {i = i} {e = e} made place get n
          (rules.field {u = u} {key = key} {i = k} {fields = hs} made' place' get') =
          let q = same_fields t made made' in
          let w : k ≡ i = cc (q, place, place') in
          let z : ◌≡◌ {A = Option (List ℕ × TypeNo)} (Some (e.0, e.1)) (Some (key, u)) = sym get
          ∙ (ap (λ (l : List (List ℕ × TypeNo)). slice_get l i) (sym q)
          ∙ (ap (λ (m : ℕ). slice_get hs m) (sym w) ∙ get')) in
          cc ((pair_some z).1, w)

      by_element : (fs : List (List ℕ × TypeNo)) (i : ℕ) (o : Option (List ℕ × TypeNo))
          → IsMade s.types t (shape.Record fs) → place_of name.name fs ≡ Some i → slice_get fs i ≡ o
          → IfMeant (Behind (designated.Variable t p) (layer.Field at name))
          (field_named g name.pos (option_map (λ (e : List ℕ × TypeNo). (i, e.1)) o) ▷ λ f. Ok
          (designated.Variable f.1 (behind p (part.Field t f.0))))
      by_element fs i None made place get = if_reported g name.pos rule.Undeclared
      by_element fs i (Some e) made place get =
          meant _ (behind_one (designated.Variable t p) (Variable t p) refl
          (λ n q. subst (N (layer.Field at name) (Variable t p)) (cc q) (rules.field made place get))
          (one made place get))

      by_place : (fs : List (List ℕ × TypeNo)) (o : Option ℕ) → IsMade s.types t (shape.Record fs)
          → place_of name.name fs ≡ o → IfMeant (Behind (designated.Variable t p) (layer.Field at name))
          (field_named g name.pos (typed_field fs o) ▷ λ f. Ok (designated.Variable f.1 (behind p (part.Field t f.0))))
      by_place fs None made place = if_reported g name.pos rule.Undeclared
      by_place fs (Some i) made place = by_element fs i (slice_get fs i) made place refl

      by_shape : (z : Option Shape) → shape_at s.types t ≡ z
          → IfMeant (Behind (designated.Variable t p) (layer.Field at name))
          (record_field g at name (fields_of z) ▷ λ f. Ok (designated.Variable f.1 (behind p (part.Field t f.0))))
      by_shape None e = if_reported g at rule.WrongType
      by_shape (Some (shape.Record fs)) e = by_place fs (place_of name.name fs) e refl
      by_shape (Some (shape.Scalar r)) e = if_reported g at rule.WrongType
      by_shape (Some shape.Set) e = if_reported g at rule.WrongType
      by_shape (Some (shape.Array i u)) e = if_reported g at rule.WrongType
      by_shape (Some (shape.Procedure h)) e = if_reported g at rule.WrongType
      by_shape (Some (shape.Open u)) e = if_reported g at rule.WrongType

  name_behind : (x : Designated) (at : Pos) (name : Ident)
      → IfMeant (Behind x (layer.Field at name)) (field_of g s at name x)
  name_behind (designated.Module k) at name =
      if_as (λ y q. behind_one (designated.Module k) (Module k) refl (λ n e. rules.exported (sym q ∙ e))
      (λ n r. out y q n r)) (exported_so k name)
    where
      out : (y : Designated) → named_of y ≡ named senses.level (senses.of_exports k name) → (n : Named)
          → N (layer.Field at name) (Module k) n → named_of y ≡ Some n
      out y q n (rules.exported e) = q ∙ e
  name_behind (designated.Variable t p) at name = field_behind t p at name
  name_behind (designated.Value v) at name = if_reported g at rule.WrongType
  name_behind (designated.Open t u) at name = if_reported g at rule.WrongType
  name_behind (designated.Type t) at name = if_reported g at rule.WrongType
  name_behind (designated.Procedure p) at name = if_reported g at rule.WrongType
  name_behind (designated.Nested p) at name = if_reported g at rule.WrongType
  name_behind (designated.Standard p) at name = if_reported g at rule.WrongType

  -- what an index leads to
  index_behind : (x : Designated) (at at' : Pos) (e : Expr) → V e
      → IfMeant (Behind x (layer.Index at e))
      (element_at_index g s.types (indices g s.types at x) at' (value_of g s (meanings_of g e)))
  index_behind (designated.Variable t p) at at' e h =
      subst (λ (o : Option (TypeNo × TypeNo)). IfMeant (Behind (designated.Variable t p) (layer.Index at e))
      (element_at_index g s.types (array_indexed g at t p o) at' (value_of g s (meanings_of g e))))
      (sym (array_is s.types t)) (by_shape (shape_at s.types t) refl)
    where
      none : IfMeant (Behind (designated.Variable t p) (layer.Index at e))
          (element_at_index g s.types (array_indexed g at t p None) at' (value_of g s (meanings_of g e)))
      none = if_left g _ (at ! rule.WrongType) (value_of g s (meanings_of g e))

      one : {i u : TypeNo} {x : TypedExpr} → IsMade s.types t (shape.Array i u) → IsOne (G i e) x → (n : Named)
          → N (layer.Index at e) (Variable t p) n → Some (Variable u (behind p (part.Element t x))) ≡ Some n
      one {i = i} made o n (rules.element {i = k} {u = v} {x = y} made' r) =
          let q = same_array t made made' in
          let w = o.alone y (subst (λ (l : TypeNo). G l e y) q.0 r) in
          cc (q.1, w)

      by_shape : (z : Option Shape) → shape_at s.types t ≡ z
          → IfMeant (Behind (designated.Variable t p) (layer.Index at e))
          (element_at_index g s.types (array_indexed g at t p (array_of z)) at' (value_of g s (meanings_of g e)))
      by_shape (Some (shape.Array i u)) made =
          if_second g (value_suited g rule.NotAssignable s.types i at') _ (indexes.Array t i u p)
          (value_of g s (meanings_of g e)) (given rule.NotAssignable i at' e h)
          (λ v m. if_then m (λ x o. meant _ (behind_one (designated.Variable t p) (Variable t p) refl
          (λ n q. subst (N (layer.Index at e) (Variable t p)) (cc q) (rules.element made o.holds)) (one made o))))
      by_shape None q = none
      by_shape (Some (shape.Record fs)) q = none
      by_shape (Some (shape.Scalar r)) q = none
      by_shape (Some shape.Set) q = none
      by_shape (Some (shape.Procedure h)) q = none
      by_shape (Some (shape.Open u)) q = none
  index_behind (designated.Open t u) at at' e h =
      if_second g (value_suited g rule.NotAssignable s.types cardinal at') _ (indexes.Open t u)
      (value_of g s (meanings_of g e)) (given rule.NotAssignable cardinal at' e h)
      (λ v m. if_then m (λ x o. meant _ (behind_one (designated.Open t u) (OpenArray t u) refl
      (λ n q. subst (N (layer.Index at e) (OpenArray t u)) (cc q) (rules.open_element o.holds))
      (λ n r. one o n r))))
    where
      one : {x : TypedExpr} → IsOne (G cardinal e) x → (n : Named) → N (layer.Index at e) (OpenArray t u) n
          → Some (Variable t (behind (root_place (root.Open u)) (part.OpenElement u t x))) ≡ Some n
      one o n (rules.open_element {x = y} r) = cc (o.alone y r)
  index_behind (designated.Module k) at at' e h = if_left g _ (at ! rule.WrongType) (value_of g s (meanings_of g e))
  index_behind (designated.Value v) at at' e h = if_left g _ (at ! rule.WrongType) (value_of g s (meanings_of g e))
  index_behind (designated.Type t) at at' e h = if_left g _ (at ! rule.WrongType) (value_of g s (meanings_of g e))
  index_behind (designated.Procedure p) at at' e h = if_left g _ (at ! rule.WrongType) (value_of g s (meanings_of g e))
  index_behind (designated.Nested p) at at' e h = if_left g _ (at ! rule.WrongType) (value_of g s (meanings_of g e))
  index_behind (designated.Standard p) at at' e h = if_left g _ (at ! rule.WrongType) (value_of g s (meanings_of g e))

  -- ---- one selector after another

  pick_behind : (x : Designated) (y : Selector) (l : Selector-F Expr Selector Designator Item) → out-Selector y ≡ l
      → ((at : Pos) (e : Expr) → l ≡ layer.Index at e → V e)
      → IfMeant (Behind x (out-Selector y)) ((picks g y).picks s (Ok x))
  pick_behind x y (layer.Field at name) q h =
      subst (λ (l : Selector-F Expr Selector Designator Item). IfMeant (Behind x l) ((picks g y).picks s (Ok x)))
      (sym q)
      (subst (λ (d : Result Designated (Meaningless g.Reported)). IfMeant (Behind x (layer.Field at name)) d)
      (sym (ap (λ (m : Picks g.Reported). m.picks s (Ok x)) (picks_is g y (layer.Field at name) q)))
      (if_plain (name_behind x at name)))
  pick_behind x y (layer.Index at e) q h =
      subst (λ (l : Selector-F Expr Selector Designator Item). IfMeant (Behind x l) ((picks g y).picks s (Ok x)))
      (sym q)
      (subst (λ (d : Result Designated (Meaningless g.Reported)). IfMeant (Behind x (layer.Index at e)) d)
      (sym (ap (λ (m : Picks g.Reported). m.picks s (Ok x)) (picks_is g y (layer.Index at e) q)))
      (if_plain (index_behind x at _ e (h at e refl))))

  -- if nothing stands before a selector, nothing stands behind it
  pub data IsRefused : Result Designated (Meaningless g.Reported) → Type 0 where
    is_refused : (r : Meaningless g.Reported) → IsRefused (Err r)

  if_refused : {P : Designated → Type 0} {d : Result Designated (Meaningless g.Reported)} → IsRefused d → IfMeant P d
  if_refused (is_refused r) = not_meant r

  index_refused : (at at' : Pos) (r : Meaningless g.Reported) (v : Result Computed g.Reported)
      → IsRefused (index_at g s.types at (Err r) at' v)
  index_refused at at' (meaningless.Broken r) (Ok v) = is_refused _
  index_refused at at' (meaningless.Broken r) (Err q) = is_refused _
  index_refused at at' (meaningless.Headless b r) (Ok v) = is_refused _
  index_refused at at' (meaningless.Headless b r) (Err q) = is_refused _

  field_refused : (at : Pos) (name : Ident) (r : Meaningless g.Reported) → IsRefused (field_at g s at name (Err r))
  field_refused at name (meaningless.Broken r) = is_refused _
  field_refused at name (meaningless.Headless b r) = is_refused _

  pick_refused : (y : Selector) (l : Selector-F Expr Selector Designator Item) → out-Selector y ≡ l
      → (r : Meaningless g.Reported) → IsRefused ((picks g y).picks s (Err r))
  pick_refused y (layer.Field at name) q r =
      subst IsRefused (sym (ap (λ (m : Picks g.Reported). m.picks s (Err r)) (picks_is g y (layer.Field at name) q)))
      (field_refused at name r)
  pick_refused y (layer.Index at e) q r =
      subst IsRefused (sym (ap (λ (m : Picks g.Reported). m.picks s (Err r)) (picks_is g y (layer.Index at e) q)))
      (index_refused at _ r (value_of g s (meanings_of g e)))

  abbrev picked : Result Designated (Meaningless g.Reported) → Selector → Result Designated (Meaningless g.Reported)
  picked d y = (picks g y).picks s d

  all_refused : (ss : List Selector) {d : Result Designated (Meaningless g.Reported)} → IsRefused d
      → IsRefused (fold picked d ss)
  all_refused [] h = h
  all_refused (y ∷ ys) (is_refused r) = all_refused ys (pick_refused y (out-Selector y) refl r)

  -- all of them, if the expressions in brackets are coded
  abbrev pub AreIndexed : List Selector → Type 0
  AreIndexed ss = (y : Selector) → Among y ss → (at : Pos) (e : Expr) → out-Selector y ≡ layer.Index at e → V e

  abbrev L : Named → List Selector → Named → Type 0
  L = Leads s.types names exports senses

  -- what a name with components names
  abbrev AllBehind : Designated → List Selector → Designated → Type 0
  AllBehind x ss y = IsNamed (λ n. (m : Named) × (named_of x ≡ Some m) × L m ss n) y

  all_behind : (x : Designated) (ss : List Selector) → AreIndexed ss → IfMeant (AllBehind x ss) (fold picked (Ok x) ss)
  all_behind x [] h = meant x (record { holds = λ n e. (n, e, rules.whole); alone = λ n r. alone n r })
    where
      same : {m n : Named} → L m [] n → named_of x ≡ Some m → named_of x ≡ Some n
      same rules.whole e = e

      alone : (n : Named) → (m : Named) × (named_of x ≡ Some m) × L m [] n → named_of x ≡ Some n
      alone n r = same r.2 r.1
  all_behind x (y ∷ ys) h = by_pick (λ z. all_behind z ys (λ w m. h w (later m)))
      (pick_behind x y (out-Selector y) refl (λ at e q. h y here at e q))
    where
      joined : {z w : Designated} → Behind x (out-Selector y) z → AllBehind z ys w → AllBehind x (y ∷ ys) w
      joined {z = z} {w = w} b a = record {
        holds = λ n e. let r = a.holds n e in let q = b.holds r.0 r.1 in
            (q.0, q.1, rules.component q.2 r.2);
        alone = λ n r. alone n r.0 r.1 r.2;
      }
        where
          alone : (n k : Named) → named_of x ≡ Some k → L k (y ∷ ys) n → named_of w ≡ Some n
          alone n k e (rules.component {y = m} sel rest) = a.alone n (m, b.alone m (k, e, sel), rest)

      by_pick : {d : Result Designated (Meaningless g.Reported)}
          → ((z : Designated) → IfMeant (AllBehind z ys) (fold picked (Ok z) ys))
          → IfMeant (Behind x (out-Selector y)) d → IfMeant (AllBehind x (y ∷ ys)) (fold picked d ys)
      by_pick r (meant z b) = if_as (λ w a. joined b a) (r z)
      by_pick r (not_meant q) = if_refused (all_refused ys (is_refused q))

  -- ---- designators

  fold_picks : (ss : List Selector) (d : Result Designated (Meaningless g.Reported))
      → fold (λ (x : Result Designated (Meaningless g.Reported)) (p : Picks g.Reported). p.picks s x) d
      (map (picks g) ss) ≡ fold picked d ss
  fold_picks [] d = refl
  fold_picks (y ∷ ys) d = fold_picks ys _

  pub names_so : (d : Designator) → AreIndexed (out-Designator d).selectors
      → IfMeant (IsNamed (Names s.types names exports senses d)) ((head g d).means s)
  names_so d h = subst (IfMeant (IsNamed (Names s.types names exports senses d)))
      (sym (ap (λ (m : Meant g.Reported). m.means s) (head_is g d)
      ∙ fold_picks (out-Designator d).selectors
      (first_name g s (out-Designator d).name)))
      (by_first (first_so (out-Designator d).name))
    where
      ended : (x y : Designated) → named_of x ≡ Called (out-Designator d).name
          → AllBehind x (out-Designator d).selectors y → IsNamed (Names s.types names exports senses d) y
      ended x y e a = record {
        holds = λ n q. let r = a.holds n q in
            rules.by_name (sym e ∙ r.1) r.2;
        alone = λ n r. alone n r;
      }
        where
          alone : (n : Named) → Names s.types names exports senses d n → named_of y ≡ Some n
          alone n (rules.by_name {x = m} q l) = a.alone n (m, e ∙ q, l)

      by_first : {r : Result Designated (Meaningless g.Reported)}
          → IfMeant (λ x. named_of x ≡ Called (out-Designator d).name) r
          → IfMeant (IsNamed (Names s.types names exports senses d)) (fold picked r (out-Designator d).selectors)
      by_first (meant x e) = if_as (λ y a. ended x y e a) (all_behind x (out-Designator d).selectors h)
      by_first (not_meant q) = if_refused (all_refused (out-Designator d).selectors (is_refused q))

  -- ---- constants

  -- A designator that is a value is a constant.
  abbrev pub IsCodeless : Designated → Type 0
  IsCodeless (designated.Value v) = IsConstant v
  IsCodeless other = Unit {0}

  codeless_meaning : (at : Pos) (m : Meaning) → IfMeant IsCodeless (designated_by g s.level at m)
  codeless_meaning at (meaning.Constant v) = meant _ (is_constant v)
  codeless_meaning at (meaning.Type t n) = meant _ tt
  codeless_meaning at (meaning.Variable v) = meant _ tt
  codeless_meaning at (meaning.Local v) = meant _ (by_kind v.kind)
    where
      by_kind : (k : LocalKind) → IsCodeless (local_by s.level v k)
      by_kind kind.Variable = tt
      by_kind kind.Value = tt
      by_kind kind.Alias = tt
      by_kind kind.Open = tt
  codeless_meaning at (meaning.Field f) = meant _ tt
  codeless_meaning at (meaning.Procedure p) = meant _ tt
  codeless_meaning at (meaning.LocalProcedure p) = meant _ tt
  codeless_meaning at meaning.Ahead = not_meant _
  codeless_meaning at (meaning.Standard f) = meant _ tt
  codeless_meaning at (meaning.Module k) = meant _ tt

  codeless_component : (t : TypeNo) (p : Place) (r : Result (ℕ × TypeNo) g.Reported)
      → IfMeant IsCodeless (r ▷ λ f. Ok (designated.Variable f.1 (behind p (part.Field t f.0))))
  codeless_component t p (Ok f) = meant _ tt
  codeless_component t p (Err r) = not_meant r

  codeless_export : (at : Pos) (r : Result Meaning g.Reported) → IfMeant IsCodeless (r ▷ designated_by g s.level at)
  codeless_export at (Ok m) = codeless_meaning at m
  codeless_export at (Err r) = not_meant r

  codeless_field : (x : Designated) (at : Pos) (name : Ident) → IfMeant IsCodeless (field_of g s at name x)
  codeless_field (designated.Module k) at name = codeless_export name.pos (exported_meaning g s.tables k name)
  codeless_field (designated.Variable t p) at name =
      codeless_component t p (record_field g at name (fields_at s.types t))
  codeless_field (designated.Value v) at name = if_reported g at rule.WrongType
  codeless_field (designated.Open t u) at name = if_reported g at rule.WrongType
  codeless_field (designated.Type t) at name = if_reported g at rule.WrongType
  codeless_field (designated.Procedure p) at name = if_reported g at rule.WrongType
  codeless_field (designated.Nested p) at name = if_reported g at rule.WrongType
  codeless_field (designated.Standard p) at name = if_reported g at rule.WrongType

  codeless_element : (at' : Pos) (a : Result Subscripted g.Reported) (v : Result Computed g.Reported)
      → IfMeant IsCodeless (element_at_index g s.types a at' v)
  codeless_element at' a v = if_then (if_both g {P = λ x. Unit {0}} {Q = λ x. Unit {0}} (by_equal a (λ x e. tt))
      (by_equal v (λ x e. tt))) (λ p u. if_then {P = λ x. Unit {0}} (by_equal _ (λ x e. tt))
      (λ z w. meant _ (of_array z p.0)))
    where
      of_array : (z : TypedExpr) (a : Subscripted) → IsCodeless (element_of_array z a)
      of_array z (indexes.Array t i u p) = tt
      of_array z (indexes.Open t u) = tt

  codeless_pick : (x : Designated) (y : Selector) (l : Selector-F Expr Selector Designator Item) → out-Selector y ≡ l
      → IfMeant IsCodeless ((picks g y).picks s (Ok x))
  codeless_pick x y (layer.Field at name) q =
      subst (IfMeant IsCodeless) (sym (ap (λ (m : Picks g.Reported). m.picks s (Ok x))
      (picks_is g y (layer.Field at name) q))) (if_plain (codeless_field x at name))
  codeless_pick x y (layer.Index at e) q =
      subst (IfMeant IsCodeless) (sym (ap (λ (m : Picks g.Reported). m.picks s (Ok x))
      (picks_is g y (layer.Index at e) q))) (if_plain
      (codeless_element _ (indices g s.types at x) (value_of g s (meanings_of g e))))

  codeless_all : (ss : List Selector) {d : Result Designated (Meaningless g.Reported)} → IfMeant IsCodeless d
      → IfMeant IsCodeless (fold picked d ss)
  codeless_all [] h = h
  codeless_all (y ∷ ys) (meant x h) = codeless_all ys (codeless_pick x y (out-Selector y) refl)
  codeless_all (y ∷ ys) (not_meant r) = if_refused (all_refused (y ∷ ys) (is_refused r))

  pub head_codeless : (d : Designator) → IfMeant IsCodeless ((head g d).means s)
  head_codeless d = subst (IfMeant IsCodeless)
      (sym (ap (λ (m : Meant g.Reported). m.means s) (head_is g d)
      ∙ fold_picks (out-Designator d).selectors
      (first_name g s (out-Designator d).name)))
      (codeless_all (out-Designator d).selectors
      (if_then {P = λ m. Unit {0}} (by_equal (looked_up g s (out-Designator d).name) (λ m e. tt))
      (λ m u. if_plain (codeless_meaning (out-Designator d).name.pos m))))
