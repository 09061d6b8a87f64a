-- Declarations of a definition, but for those of variables and procedures, keep the variables and procedures of a
-- block.
use Rattle.std.proofs.Common.{◌≡◌, ℕ, Bool, true, false, ◌||◌, cond, List, [], ◌∷◌, Some, None, Result, Ok, Err, refl, sym, ap, subst, ◌∙◌}
use Rattle.std.specs.List.{fold}
use Rattle.m2_rule.specs.declared.rule.Rule.TheVariants as rule
use Rattle.m2_tree.specs.declared.name.Ident.{Ident}
use Rattle.m2_tree.specs.declared.decl.Constant.{Constant}
use Rattle.m2_tree.specs.declared.decl.Def.{Def}
use Rattle.m2_tree.specs.declared.decl.TypeDecl.{TypeDecl}
use Rattle.m2_tree.specs.declared.decl.Import.{Import}
use Rattle.m2_tree.specs.declared.decl.TypeExpr.{TypeExpr}
use Rattle.typed_tree.specs.declared.meaning.Meaning.{Meaning}
use Rattle.typed_tree.specs.declared.meaning.Value.{Value}
use Rattle.typed_tree.specs.declared.shape.Made.{Made}
use Rattle.typed_tree.specs.declared.types.TypeNo.{TypeNo}
use Rattle.m2_tree.specs.Names.{same_name}
use Rattle.typed_tree.specs.Names.{find_name}
use Rattle.check_scope.specs.Elaborated.{Gathers, report}
use Rattle.check_scope.specs.Scopes.{State, is_free, with_known, begin_name, is_begun, finish_name}
use Rattle.check_scope.specs.declared.known.Origin.TheVariants.{Here}
use Rattle.check_scope.specs.declared.known.Known.{Known}
use Rattle.check_scope.specs.declared.known.Known.TheVariants.{Later, Ahead, Begun, Declared}
use Rattle.check_scope.specs.declared.scope.Scope.{Scope}
use Rattle.check_const.specs.Parts.{constant}
use Rattle.check_expr.specs.Meanings.{part}
use Rattle.check_type_expr.specs.Made.{with_shape, with_made, type_of}
use Rattle.check_definition.specs.Declare.{constant_meaning, with_constant, type_meaning, brings_with, with_type}
use Rattle.check_definition.specs.Importing.{with_import}
use Rattle.check_definition.specs.Marking.{marked_def}
use Rattle.law_folds.proofs.Orders.{IsOrder}
use Rattle.law_folds.proofs.MarkSteps.{KeepsMarks, defs_marks}
use Rattle.law_folds.proofs.TypeSteps.{type_keeps}
use Rattle.law_folds.proofs.ImportSteps.{KeepsImports, imports_keep}
use Rattle.law_well_formed.proofs.ImportsLists.{same_is}
use Rattle.law_well_formed.specs.FormedScopes.{holds_of}
use Rattle.law_well_formed.proofs.Names.{found_self}
use Rattle.law_well_formed.proofs.HeadingsLists.{found_other}
use Rattle.law_well_formed.proofs.Order.{has}
use Rattle.law_programs.proofs.Done.{counted_if, counted_of, done, is_settled, SettledIn, InFront, free_unsettled, begun_unsettled, free_unbegun, settled_kept, begun_kept, other_done, other_front}

-- ---- a step that declares no variable and no procedure, and begins or ends the declarations of these names alone

pub record Stays {T : Type 0} (names : List (List ℕ)) (s s' : Scope T) : Type 0 where
  pub variables : s'.variables ≡ s.variables
  pub procedures : s'.procedures ≡ s.procedures
  pub done_same : done s'.own ≡ done s.own
  pub front : InFront s.own → InFront s'.own
  pub settled : (y : List ℕ) → SettledIn s.own y → SettledIn s'.own y
  pub begun : (y : List ℕ) → has y names ≡ false → is_begun (find_name y s'.own) ≡ is_begun (find_name y s.own)

or_none : (a b : Bool) → (a || b) ≡ false → (a ≡ false) × (b ≡ false)
or_none true b h = absurd cc
or_none false b h = (refl, h)

module _ {T : Type 0} where
  pub same_stays : (names : List (List ℕ)) (s : Scope T) → Stays names s s
  same_stays names s = record {
    variables = refl;
    procedures = refl;
    done_same = refl;
    front = λ p. p;
    settled =
        λ y h. h;
    begun = λ y h. refl;
  }

  infixl 10 ◌⨾◌
  pub ◌⨾◌ : {names : List (List ℕ)} {a b c : Scope T} → Stays names b c → Stays names a b → Stays names a c
  ◌⨾◌ q p = record {
    variables = q.variables ∙ p.variables;
    procedures = q.procedures ∙ p.procedures;
    done_same = q.done_same ∙ p.done_same;
    front = λ h. q.front (p.front h);
    settled = λ y h. q.settled y (p.settled y h);
    begun = λ y h. q.begun y h ∙ p.begun y h;
  }

  pub stays_for : (names : List (List ℕ)) {a b : Scope T} → Stays [] a b → Stays names a b
  stays_for names p = record {
    variables = p.variables;
    procedures = p.procedures;
    done_same = p.done_same;
    front =
        p.front;
    settled = p.settled;
    begun = λ y h. p.begun y refl;
  }

  -- ---- a name is entered

  pub known_stays : (name : List ℕ) (k : Known T) (s : Scope T) → counted_of k ≡ [] → is_begun (Some k) ≡ false
      → holds_of is_settled (find_name name s.own) ≡ false → is_begun (find_name name s.own) ≡ false
      → Stays [] s (with_known name k s)
  known_stays name k s n b u v = record {
    variables = refl;
    procedures = refl;
    done_same = other_done name k s.own n u;
    front = λ p. other_front name k s.own n u p;
    settled = λ y h. settled_kept y name k s.own u h;
    begun = λ y h. begun_kept y name k s.own b v;
  }

  own_stays : (name : List ℕ) (k : Known T) (s : Scope T) → counted_of k ≡ []
      → holds_of is_settled (find_name name s.own) ≡ false → Stays (name ∷ []) s (with_known name k s)
  own_stays name k s n u = record {
    variables = refl;
    procedures = refl;
    done_same = other_done name k s.own n u;
    front = λ p. other_front name k s.own n u p;
    settled = λ y h. settled_kept y name k s.own u h;
    begun = λ y h. ap is_begun (found_other name k s.own y (or_none (same_name y name) false h).0);
  }

  either : (names : List (List ℕ)) (s : Scope T) (b : Bool) {A : Type 0} (x y : State A T)
      → (b ≡ true → Stays names s x.0) → Stays names s y.0 → Stays names s (cond b x y).0
  either names s true x y p q = p refl
  either names s false x y p q = q

  either_scope : (names : List (List ℕ)) (s : Scope T) (b : Bool) (x y : Scope T) → (b ≡ true → Stays names s x)
      → Stays names s y → Stays names s (cond b x y)
  either_scope names s true x y p q = p refl
  either_scope names s false x y p q = q

  free_stays : (name : List ℕ) (k : Known T) (s : Scope T) → counted_of k ≡ [] → is_begun (Some k) ≡ false
      → is_free (find_name name s.own) ≡ true → Stays [] s (with_known name k s)
  free_stays name k s n b f = known_stays name k s n b (free_unsettled (find_name name s.own) f)
      (free_unbegun (find_name name s.own) f)

  finished_stays : (s : Scope T) (name : Ident) (m : Result Meaning T) → counted_if m ≡ []
      → Stays (name.name ∷ []) s (finish_name s name m)
  finished_stays s name m n =
      either_scope (name.name ∷ []) s (is_begun (find_name name.name s.own)) (with_known name.name (Declared Here m) s)
      s (λ e. own_stays name.name (Declared Here m) s n (begun_unsettled (find_name name.name s.own) e))
      (same_stays (name.name ∷ []) s)

  -- it is begun no more
  finished_ends : (s : Scope T) (name : Ident) (m : Result Meaning T)
      → is_begun (find_name name.name (finish_name s name m).own) ≡ false
  finished_ends s name m = by (is_begun (find_name name.name s.own)) refl where
    by : (b : Bool) → is_begun (find_name name.name s.own) ≡ b
        → is_begun (find_name name.name (cond b (with_known name.name (Declared Here m) s) s).own) ≡ false
    by true e = ap is_begun (found_self name.name (Declared Here m) s.own)
    by false e = e

  -- ---- types that are made

  shape_stays : (s : Scope T) (m : Made) → Stays [] s (with_shape s m)
  shape_stays s m = record {
    variables = refl;
    procedures = refl;
    done_same = refl;
    front = λ p. p;
    settled = λ y h. h;
    begun = λ y h. refl;
  }

  pub made_stays : (s : Scope T) (r : Result Made T) → Stays [] s (with_made s r).0
  made_stays s (Ok m) = shape_stays s m
  made_stays s (Err e) = same_stays [] s

  -- ---- marks

  order : IsOrder {T = T} (Stays [])
  order = record { same = same_stays []; next = λ a b c p q. q ⨾ p }

  new_stays : (s : Scope T) (name : List ℕ) (k : Known T) → counted_of k ≡ [] → is_begun (Some k) ≡ false
      → find_name name s.own ≡ None → Stays [] s (with_known name k s)
  new_stays s name k n b e = known_stays name k s n b (ap (holds_of is_settled) e) (ap is_begun e)

  marks : KeepsMarks {T = T} (Stays [])
  marks = record {
    order = order;
    later = λ s name e. new_stays s name Later refl refl e;
    ahead = λ s name e. new_stays s name Ahead refl refl e;
  }

pub all_marks : (T : Type 0) (ds : List Def) (s : Scope T) → Stays [] s (fold marked_def s ds)
all_marks T = defs_marks marks

module _ (g : Gathers) where
  pub begun_stays : (s : Scope g.Reported) (name : Ident) → Stays (name.name ∷ []) s (begin_name g s name).0
  begun_stays s name =
      either (name.name ∷ []) s (is_free (find_name name.name s.own)) (with_known name.name Begun s, Ok tt)
      (s, report g name.pos rule.DeclaredTwice)
      (λ e. own_stays name.name Begun s refl (free_unsettled (find_name name.name s.own) e))
      (same_stays (name.name ∷ []) s)

  pub type_of_stays : (t : TypeExpr) (s : Scope g.Reported) → Stays [] s (type_of g t s).0
  type_of_stays =
      type_keeps g (record {
        order = order;
        shaped = shape_stays;
        listed = λ s name t n e. free_stays name _ s refl refl e;
      })

  -- ---- constants and types

  constant_none : (v : Result Value g.Reported) → counted_if (constant_meaning v) ≡ []
  constant_none (Ok v) = refl
  constant_none (Err e) = refl

  type_none : (t : Result TypeNo g.Reported) (n : ℕ) → counted_if (type_meaning t n) ≡ []
  type_none (Ok t) n = refl
  type_none (Err e) n = refl

  constant_stays : (st : State (Unit {0}) g.Reported) (c : Constant)
      → Stays (c.name.name ∷ []) st.0 (with_constant g st c).0
  constant_stays st c =
      let b = begin_name g st.0 c.name in
      finished_stays b.0 c.name (constant_meaning (constant g b.0 (part g c.value)))
      (constant_none (constant g b.0 (part g c.value))) ⨾ begun_stays st.0 c.name

  type_decl_stays : (st : State (Unit {0}) g.Reported) (d : TypeDecl)
      → Stays (d.name.name ∷ []) st.0 (with_type g st d).0
  type_decl_stays st d =
      let b = begin_name g st.0 d.name in
      let t = type_of g d.of b.0 in
      finished_stays t.0 d.name (type_meaning t.1 (brings_with d.of)) (type_none t.1 (brings_with d.of)) ⨾
      (stays_for (d.name.name ∷ []) (type_of_stays d.of b.0) ⨾ begun_stays st.0 d.name)

  -- ---- no declaration is left begun

  abbrev pub NoneBegun : {T : Type 0} → Scope T → Type 0
  NoneBegun s = (y : List ℕ) → is_begun (find_name y s.own) ≡ false

  none_again : (name : List ℕ) (s s' : Scope g.Reported) → Stays (name ∷ []) s s'
      → is_begun (find_name name s'.own) ≡ false → NoneBegun s → NoneBegun s'
  none_again name s s' k e n y = by (same_name y name) refl where
    by : (b : Bool) → same_name y name ≡ b → is_begun (find_name y s'.own) ≡ false
    by true q = subst (λ (z : List ℕ). is_begun (find_name z s'.own) ≡ false) (sym (same_is y name q)) e
    by false q = k.begun y (ap (λ (b : Bool). b || false) q) ∙ n y

  -- a step after which none is left so, if none was before
  pub record Ends (s s' : Scope g.Reported) : Type 0 where
    pub variables : s'.variables ≡ s.variables
    pub procedures : s'.procedures ≡ s.procedures
    pub done_same : done s'.own ≡ done s.own
    pub front : InFront s.own → InFront s'.own
    pub none : NoneBegun s → NoneBegun s'

  ends_by : (names : List (List ℕ)) (s s' : Scope g.Reported) → Stays names s s' → (NoneBegun s → NoneBegun s')
      → Ends s s'
  ends_by names s s' k n = record {
    variables = k.variables;
    procedures = k.procedures;
    done_same = k.done_same;
    front =
        k.front;
    none = n;
  }

  pub stays_end : (s s' : Scope g.Reported) → Stays [] s s' → Ends s s'
  stays_end s s' k = ends_by [] s s' k (λ n y. k.begun y refl ∙ n y)

  ends_then : (a b c : Scope g.Reported) → Ends a b → Ends b c → Ends a c
  ends_then a b c p q = record {
    variables = q.variables ∙ p.variables;
    procedures = q.procedures ∙ p.procedures;
    done_same = q.done_same ∙ p.done_same;
    front = λ h. q.front (p.front h);
    none = λ h. q.none (p.none h);
  }

  constant_ends : (st : State (Unit {0}) g.Reported) (c : Constant) → Ends st.0 (with_constant g st c).0
  constant_ends st c =
      let b = begin_name g st.0 c.name in
      let k = constant_stays st c in
      ends_by (c.name.name ∷ []) st.0 (with_constant g st c).0 k
      (none_again c.name.name st.0 (with_constant g st c).0 k
      (finished_ends b.0 c.name (constant_meaning (constant g b.0 (part g c.value)))))

  type_decl_ends : (st : State (Unit {0}) g.Reported) (d : TypeDecl) → Ends st.0 (with_type g st d).0
  type_decl_ends st d =
      let b = begin_name g st.0 d.name in
      let t = type_of g d.of b.0 in
      let k = type_decl_stays st d in
      ends_by (d.name.name ∷ []) st.0 (with_type g st d).0 k
      (none_again d.name.name st.0 (with_type g st d).0 k
      (finished_ends t.0 d.name (type_meaning t.1 (brings_with d.of))))

  pub constants_end : (cs : List Constant) (st : State (Unit {0}) g.Reported)
      → Ends st.0 (fold (with_constant g) st cs).0
  constants_end [] st = stays_end st.0 st.0 (same_stays [] st.0)
  constants_end (c ∷ cs) st = ends_then st.0 (with_constant g st c).0 _ (constant_ends st c)
      (constants_end cs (with_constant g st c))

  pub types_end : (ds : List TypeDecl) (st : State (Unit {0}) g.Reported) → Ends st.0 (fold (with_type g) st ds).0
  types_end [] st = stays_end st.0 st.0 (same_stays [] st.0)
  types_end (d ∷ ds) st = ends_then st.0 (with_type g st d).0 _ (type_decl_ends st d) (types_end ds (with_type g st d))

  -- ---- imports

  imports : KeepsImports g (Stays [])
  imports = record {
    order = order;
    modules = λ s name n e. free_stays name _ s refl refl e;
    exports = λ s name n m e. free_stays name _ s refl refl e;
  }

  pub import_stays : (modules : List (List ℕ × ℕ)) (is : List Import) (st : State (Unit {0}) g.Reported)
      → Stays [] st.0 (fold (with_import g modules) st is).0
  import_stays = imports_keep g imports
