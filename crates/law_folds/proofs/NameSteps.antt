-- What constants, types and variables keep: a name begins, something new may be made, and the name ends.
use Rattle.std.proofs.Common.{◌≡◌, ℕ, ◌==◌, Bool, true, false, cond, List, length, Result, Ok, Err, refl, ap, ◌∙◌}
use Rattle.std.specs.List.{fold}
use Rattle.m2_tree.specs.declared.name.Ident.{Ident}
use Rattle.m2_tree.specs.declared.decl.Constant.{Constant}
use Rattle.m2_tree.specs.declared.decl.TypeDecl.{TypeDecl}
use Rattle.m2_tree.specs.declared.decl.Variables.{Variables}
use Rattle.typed_tree.specs.declared.meaning.Meaning.{Meaning}
use Rattle.typed_tree.specs.declared.types.TypeNo.{TypeNo}
use Rattle.typed_tree.specs.Names.{find_name}
use Rattle.check_scope.specs.Elaborated.{Gathers}
use Rattle.check_scope.specs.Scopes.{State, is_free, with_known, begin_name, is_begun, finish_name}
use Rattle.check_scope.specs.declared.known.Known.TheVariants.{Begun, Declared}
use Rattle.check_scope.specs.declared.known.Origin.TheVariants.{Here}
use Rattle.check_scope.specs.declared.scope.Scope.{Scope}
use Rattle.check_const.specs.Parts.{constant}
use Rattle.check_expr.specs.Meanings.{part}
use Rattle.check_type_expr.specs.Made.{type_of}
use Rattle.check_definition.specs.Declare.{constant_meaning, with_constant, type_meaning, brings_with, with_type, begun_name, variable_meaning, local_meaning, with_variable_type, finished_variable, with_variables}
use Rattle.check_block.specs.Declarations.{finished_local, with_locals, with_variables_of}
use Rattle.law_folds.proofs.Orders.{IsOrder, either_scope, steps}
use Rattle.law_folds.proofs.TypeSteps.{unless_keeps, KeepsTypes, by_shapes}

-- a name ends whose declaration was begun
pub finish_keeps : {T : Type 0} {R : Scope T → Scope T → Type 0} (o : IsOrder R) (s : Scope T) (name : Ident)
    (m : Result Meaning T)
    → (is_begun (find_name name.name s.own) ≡ true → R s (with_known name.name (Declared Here m) s))
    → R s (finish_name s name m)
finish_keeps o s name m h =
    either_scope o s (is_begun (find_name name.name s.own)) (with_known name.name (Declared Here m) s) s h (o.same s)

pub record KeepsNames (g : Gathers) (R : Scope g.Reported → Scope g.Reported → Type 0) : Type 0 where
  pub types : KeepsTypes g R
  pub begun : (s : Scope g.Reported) (name : List ℕ) → is_free (find_name name s.own) ≡ true
      → R s (with_known name Begun s)
  pub constant_ends : (s : Scope g.Reported) (c : Constant) → is_begun (find_name c.name.name s.own) ≡ true
      → R s (with_known c.name.name (Declared Here (constant_meaning (constant g s (part g c.value)))) s)
  pub type_ends : (s : Scope g.Reported) (name : List ℕ) (t : Result TypeNo g.Reported) (n : ℕ)
      → is_begun (find_name name s.own) ≡ true → R s (with_known name (Declared Here (type_meaning t n)) s)

-- the type of a variable is noted
abbrev pub Varies : (g : Gathers) → (Scope g.Reported → Scope g.Reported → Type 0) → Type 0
Varies g R = (s : Scope g.Reported) (t : Result TypeNo g.Reported) → R s (with_variable_type s t)

-- the type of a variable is noted, of a module's or a procedure's, and its name ends
abbrev pub VariablesEnd : (g : Gathers) → (Scope g.Reported → Scope g.Reported → Type 0) → Type 0
VariablesEnd g R =
    (s : Scope g.Reported) (name : List ℕ) (t : Result TypeNo g.Reported)
    → let v : Scope g.Reported = with_variable_type s t in is_begun (find_name name v.own) ≡ true
    → R s (with_known name (Declared Here (variable_meaning s.types.home (length s.variables) t)) v)

abbrev pub LocalsEnd : (g : Gathers) → (Scope g.Reported → Scope g.Reported → Type 0) → Type 0
LocalsEnd g R =
    (s : Scope g.Reported) (name : List ℕ) (t : Result TypeNo g.Reported)
    → let v : Scope g.Reported = with_variable_type s t in is_begun (find_name name v.own) ≡ true
    → R s (with_known name (Declared Here (local_meaning s.level (length s.variables) t)) v)

module _ (g : Gathers) {R : Scope g.Reported → Scope g.Reported → Type 0} (k : KeepsNames g R) where
  abbrev St : Type 0
  St = State (Unit {0}) g.Reported

  abbrev state : St → Scope g.Reported
  state st = st.0

  abbrev same : Scope g.Reported → Scope g.Reported
  same s = s

  abbrev order : IsOrder R
  order = k.types.order

  pub begin_keeps : (s : Scope g.Reported) (name : Ident) → R s (begin_name g s name).0
  begin_keeps s name = unless_keeps g order s name Begun (k.begun s name.name)

  pub begun_all : (names : List Ident) (st : St) → R st.0 (fold (begun_name g) st names).0
  begun_all = steps order state (begun_name g) (λ st x. begin_keeps st.0 x)

  pub constant_keeps : (st : St) (c : Constant) → R st.0 (with_constant g st c).0
  constant_keeps st c =
      let b : Scope g.Reported = (begin_name g st.0 c.name).0 in
      order.next st.0 b _ (begin_keeps st.0 c.name)
      (finish_keeps order b c.name (constant_meaning (constant g b (part g c.value))) (k.constant_ends b c))

  pub constants_keep : (cs : List Constant) (st : St) → R st.0 (fold (with_constant g) st cs).0
  constants_keep = steps order state (with_constant g) constant_keeps

  pub type_decl_keeps : (st : St) (d : TypeDecl) → R st.0 (with_type g st d).0
  type_decl_keeps st d =
      let b : Scope g.Reported = (begin_name g st.0 d.name).0 in
      let t : State TypeNo g.Reported = type_of g d.of b in
      order.next st.0 b _ (begin_keeps st.0 d.name) (order.next b t.0 _ (k.types.types d.of b)
      (finish_keeps order t.0 d.name (type_meaning t.1 (brings_with d.of))
      (k.type_ends t.0 d.name.name t.1 (brings_with d.of))))

  pub types_keep : (ts : List TypeDecl) (st : St) → R st.0 (fold (with_type g) st ts).0
  types_keep = steps order state (with_type g) type_decl_keeps

  -- ---- lists of variables

  variables_by : (f : Result TypeNo g.Reported → Scope g.Reported → Ident → Scope g.Reported)
      → ((t : Result TypeNo g.Reported) (s : Scope g.Reported) (x : Ident) → R s (f t s x)) → (st : St) (v : Variables)
      → R st.0 (let t = type_of g v.of (fold (begun_name g) st v.names).0 in fold (f t.1) t.0 v.names)
  variables_by f h st v =
      let b : Scope g.Reported = (fold (begun_name g) st v.names).0 in
      let t : State TypeNo g.Reported = type_of g v.of b in
      order.next st.0 b _ (begun_all v.names st)
      (order.next b t.0 _ (k.types.types v.of b) (steps order same (f t.1) (h t.1) v.names t.0))

  pub variable_keeps : Varies g R → VariablesEnd g R → (t : Result TypeNo g.Reported) (s : Scope g.Reported) (x : Ident)
      → R s (finished_variable t s x)
  variable_keeps v h t s x =
      let n : Scope g.Reported = with_variable_type s t in
      either_scope order s (is_begun (find_name x.name n.own))
      (with_known x.name (Declared Here (variable_meaning s.types.home (length s.variables) t)) n) n (h s x.name t)
      (v s t)

  pub variable_list_keeps : Varies g R → VariablesEnd g R → (st : St) (v : Variables) → R st.0 (with_variables g st v).0
  variable_list_keeps v h = variables_by finished_variable (variable_keeps v h)

  pub variables_keep : Varies g R → VariablesEnd g R → (vs : List Variables) (st : St)
      → R st.0 (fold (with_variables g) st vs).0
  variables_keep v h = steps order state (with_variables g) (variable_list_keeps v h)

  local_keeps : Varies g R → LocalsEnd g R → (t : Result TypeNo g.Reported) (s : Scope g.Reported) (x : Ident)
      → R s (finished_local t s x)
  local_keeps v h t s x =
      let n : Scope g.Reported = with_variable_type s t in
      either_scope order s (is_begun (find_name x.name n.own))
      (with_known x.name (Declared Here (local_meaning s.level (length s.variables) t)) n) n (h s x.name t) (v s t)

  pub locals_keep : Varies g R → LocalsEnd g R → (vs : List Variables) (st : St) → R st.0 (fold (with_locals g) st vs).0
  locals_keep v h = steps order state (with_locals g) (variables_by finished_local (local_keeps v h))

  pub variables_of_keep : Varies g R → VariablesEnd g R → LocalsEnd g R → (vs : List Variables) (st : St)
      → R st.0 (with_variables_of g st vs).0
  variables_of_keep v h l vs st = by (st.0.level == 0) where
    by : (b : Bool) → R st.0 (cond {A = St} b (fold (with_variables g) st vs) (fold (with_locals g) st vs)).0
    by true = variables_keep v h vs st
    by false = locals_keep v l vs st

-- ---- at one level

module _ {T : Type 0} (b : Bool) (R : Scope T → Scope T → Type 0) where
  -- where the outermost block is, or where it is not
  abbrev pub AtLevel : Scope T → Scope T → Type 0
  AtLevel s t = (t.level ≡ s.level) × ((s.level == 0) ≡ b → R s t)

  pub level_order : IsOrder R → IsOrder AtLevel
  level_order o = record {
    same = λ s. (refl, λ e. o.same s);
    next = λ x y z p q. (q.0 ∙ p.0, λ e. o.next x y z (p.1 e) (q.1 (ap (λ (n : ℕ). n == 0) p.0 ∙ e)));
  }

pub varied_level : {T : Type 0} (s : Scope T) (t : Result TypeNo T) → (with_variable_type s t).level ≡ s.level
varied_level s (Ok t) = refl
varied_level s (Err e) = refl

level_types : (g : Gathers) → KeepsTypes g (λ s t. t.level ≡ s.level)
level_types g = by_shapes g (record {
  order = record { same = λ s. refl; next = λ a b c p q. q ∙ p };
  shaped = λ s m. refl;
  listed = λ s name t n f. refl;
})

pub level_names : (g : Gathers) (b : Bool) {R : Scope g.Reported → Scope g.Reported → Type 0} → KeepsNames g R
    → KeepsNames g (AtLevel b R)
level_names g b {R = R} k = record {
  types = record {
    order = level_order b R k.types.order;
    types = λ t s. ((level_types g).types t s, λ e. k.types.types t s);
    headings = λ s h. ((level_types g).headings s h, λ e. k.types.headings s h);
  };
  begun = λ s name f. (refl, λ e. k.begun s name f);
  constant_ends = λ s c f. (refl, λ e. k.constant_ends s c f);
  type_ends = λ s name t n f. (refl, λ e. k.type_ends s name t n f);
}
