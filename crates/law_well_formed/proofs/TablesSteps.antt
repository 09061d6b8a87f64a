-- Declarations of a definition, but for those of procedures, keep the order of procedures, and names that are taken.
use Rattle.std.proofs.Common.{◌≡◌, ℕ, Bool, true, false, cond, List, [], ◌∷◌, ◌++◌, length, Option, Some, None, Result, Ok, Err, refl, sym, ap, ◌∙◌, append_assoc}
use Rattle.std.specs.List.{fold}
use Rattle.std.proofs.lemmas.List.{append-nil}
use Rattle.m2_tree.specs.declared.name.Ident.{Ident}
use Rattle.m2_tree.specs.declared.decl.Constant.{Constant}
use Rattle.m2_tree.specs.declared.decl.TypeDecl.{TypeDecl}
use Rattle.m2_tree.specs.declared.decl.Variables.{Variables}
use Rattle.m2_tree.specs.declared.decl.Import.{Import}
use Rattle.m2_tree.specs.declared.decl.TypeExpr.{TypeExpr}
use Rattle.m2_tree.specs.declared.decl.Field.{Field}
use Rattle.typed_tree.specs.declared.meaning.Meaning.{Meaning}
use Rattle.typed_tree.specs.declared.meaning.Meaning.TheVariants as meaning
use Rattle.typed_tree.specs.declared.meaning.Value.{Value}
use Rattle.typed_tree.specs.declared.shape.Made.{Made}
use Rattle.typed_tree.specs.declared.types.TypeNo.{TypeNo}
use Rattle.typed_tree.specs.Names.{find_name}
use Rattle.check_scope.specs.Elaborated.{Gathers}
use Rattle.check_scope.specs.Scopes.{State, is_free, with_known, is_begun, finish_name}
use Rattle.check_scope.specs.declared.known.Origin.TheVariants.{Here, Module, Export}
use Rattle.check_scope.specs.declared.known.Known.{Known}
use Rattle.check_scope.specs.declared.known.Known.TheVariants.{Later, Ahead, Begun, Headed, Declared}
use Rattle.check_scope.specs.declared.scope.Scope.{Scope}
use Rattle.check_const.specs.Parts.{constant}
use Rattle.check_expr.specs.Meanings.{part}
use Rattle.check_type_expr.specs.declared.field.Fields.{Fields}
use Rattle.check_type_expr.specs.Made.{enumeration_constant, with_shape, with_made, enumerate_name, type_of, field_list}
use Rattle.check_definition.specs.Declare.{constant_meaning, with_constant, type_meaning, brings_with, with_type, begun_name, variable_meaning, with_variable_type, finished_variable, with_variables}
use Rattle.check_definition.specs.Importing.{with_import}
use Rattle.law_folds.proofs.Orders.{IsOrder, steps}
use Rattle.law_folds.proofs.TypeSteps.{KeepsShapes, by_shapes, listed_keeps, type_keeps, field_list_keeps}
use Rattle.law_folds.proofs.NameSteps.{KeepsNames, VariablesEnd, finish_keeps, constant_keeps, type_decl_keeps, begun_all, variable_keeps, variable_list_keeps}
use Rattle.law_folds.proofs.ImportSteps.{KeepsImports, imports_keep}
use Rattle.law_well_formed.proofs.Order.{has, keys, keys_entered, Distinct, distinct_entered, holds_of, TakenIn, taken_entered, is_taken, number_if, number_of, is_done, Order, order_entered}

-- ---- keys

pub mark_more : (name : List ℕ) (b : Bool) (ks : List (List ℕ)) → (more : List (List ℕ))
    × (cond b ks (ks ++ name ∷ []) ≡ ks ++ more)
mark_more name true ks = ([], sym (append-nil ks))
mark_more name false ks = (name ∷ [], refl)

pub record Goes {T : Type 0} (s s' : Scope T) : Type 0 where
  pub procedures : s'.procedures ≡ s.procedures
  pub distinct : Distinct s.own → Distinct s'.own
  pub taken : (y : List ℕ) → TakenIn s.own y → TakenIn s'.own y
  pub more : List (List ℕ)
  pub keys_are : keys s'.own ≡ keys s.own ++ more
  pub order : (c : ℕ) → Order 0 c s.own → Order 0 c s'.own

module _ {T : Type 0} where
  pub same_goes : (s : Scope T) → Goes s s
  same_goes s = record {
    procedures = refl;
    distinct = λ d. d;
    taken = λ y h. h;
    more = [];
    keys_are =
        sym (append-nil (keys s.own));
    order = λ c p. p;
  }

  infixl 10 ◌⨾◌
  pub ◌⨾◌ : {a b c : Scope T} → Goes b c → Goes a b → Goes a c
  ◌⨾◌ {a} {b} {c} q p = record {
    procedures = q.procedures ∙ p.procedures;
    distinct = λ d. q.distinct (p.distinct d);
    taken = λ y h. q.taken y (p.taken y h);
    more = p.more ++ q.more;
    keys_are = q.keys_are ∙ ap (λ (ks : List (List ℕ)). ks ++ q.more) p.keys_are
        ∙ append_assoc (keys a.own) p.more q.more;
    order = λ n h. q.order n (p.order n h);
  }

  pub known_goes : (name : List ℕ) (k : Known T) (s : Scope T) → number_of k ≡ None → is_taken k ≡ true
      → holds_of is_done (find_name name s.own) ≡ false → Goes s (with_known name k s)
  known_goes name k s n t d =
      let m = mark_more name (has name (keys s.own)) (keys s.own) in
      record {
        procedures = refl;
        distinct = λ h. distinct_entered name k s.own h;
        taken = λ y h. taken_entered y name k s.own t h;
        more = m.0;
        keys_are = keys_entered name k s.own ∙ m.1;
        order = λ c p. order_entered name k s.own n t d 0 c p;
      }

  pub free_undone : (o : Option (Known T)) → is_free o ≡ true → holds_of is_done o ≡ false
  free_undone None e = refl
  free_undone (Some Later) e = refl
  free_undone (Some Ahead) e = refl
  free_undone (Some Begun) e = absurd cc
  free_undone (Some (Headed r)) e = absurd cc
  free_undone (Some (Declared o r)) e = absurd cc

  begun_undone : (o : Option (Known T)) → is_begun o ≡ true → holds_of is_done o ≡ false
  begun_undone None e = refl
  begun_undone (Some Later) e = refl
  begun_undone (Some Ahead) e = refl
  begun_undone (Some Begun) e = refl
  begun_undone (Some (Headed r)) e = absurd cc
  begun_undone (Some (Declared o r)) e = absurd cc

  order : IsOrder {T = T} Goes
  order = record { same = same_goes; next = λ a b c p q. q ⨾ p }

  pub fold_goes : {A X : Type 0} (at : A → Scope T) (f : A → X → A) → ((a : A) (x : X) → Goes (at a) (at (f a x)))
      → (xs : List X) (a : A)
      → Goes (at a) (at (fold f a xs))
  fold_goes = steps order

  -- ---- types that are made

  shape_goes : (s : Scope T) (m : Made) → Goes s (with_shape s m)
  shape_goes s m = record {
    procedures = refl;
    distinct = λ d. d;
    taken = λ y h. h;
    more = [];
    keys_are =
        sym (append-nil (keys s.own));
    order = λ c p. p;
  }

  pub made_goes : (s : Scope T) (r : Result Made T) → Goes s (with_made s r).0
  made_goes s (Ok m) = shape_goes s m
  made_goes s (Err e) = same_goes s

  variable_type_goes : (s : Scope T) (t : Result TypeNo T) → Goes s (with_variable_type s t)
  variable_type_goes s (Ok t) = record {
    procedures = refl;
    distinct = λ d. d;
    taken = λ y h. h;
    more = [];
    keys_are =
        sym (append-nil (keys s.own));
    order = λ c p. p;
  }
  variable_type_goes s (Err e) = same_goes s

  variable_none : (home n : ℕ) (t : Result TypeNo T) → number_if (variable_meaning home n t) ≡ None
  variable_none home n (Ok t) = refl
  variable_none home n (Err e) = refl

  constant_none : (v : Result Value T) → number_if (constant_meaning v) ≡ None
  constant_none (Ok v) = refl
  constant_none (Err e) = refl

  type_none : (t : Result TypeNo T) (n : ℕ) → number_if (type_meaning t n) ≡ None
  type_none (Ok t) n = refl
  type_none (Err e) n = refl

module _ (g : Gathers) where
  -- ---- declarations

  ended : (s : Scope g.Reported) (name : List ℕ) (m : Result Meaning g.Reported) → number_if m ≡ None
      → is_begun (find_name name s.own) ≡ true → Goes s (with_known name (Declared Here m) s)
  ended s name m n e = known_goes name (Declared Here m) s n refl (begun_undone (find_name name s.own) e)

  shapes : KeepsShapes g Goes
  shapes = record {
    order = order;
    shaped = shape_goes;
    listed =
        λ s name t n e. known_goes name (Declared Here (Ok (enumeration_constant t n))) s refl refl
        (free_undone (find_name name s.own) e);
  }

  names : KeepsNames g Goes
  names = record {
    types = by_shapes g shapes;
    begun = λ s name e. known_goes name Begun s refl refl (free_undone (find_name name s.own) e);
    constant_ends = λ s c e. ended s c.name.name _ (constant_none (constant g s (part g c.value))) e;
    type_ends = λ s name t n e. ended s name _ (type_none t n) e;
  }

  variable_ends : VariablesEnd g Goes
  variable_ends s name t e =
      ended (with_variable_type s t) name _ (variable_none s.types.home (length s.variables) t) e
      ⨾ variable_type_goes s t

  pub listed_goes : (t : TypeNo) (l : Scope g.Reported × ℕ × Result (Unit {0}) g.Reported) (x : Ident)
      → Goes l.0 (enumerate_name g t l x).0
  listed_goes = listed_keeps g shapes

  pub type_of_goes : (t : TypeExpr) (s : Scope g.Reported) → Goes s (type_of g t s).0
  type_of_goes = type_keeps g shapes

  pub field_list_goes : (f : Field) (st : Scope g.Reported × Fields × Result (Unit {0}) g.Reported)
      → Goes st.0 (field_list g f st).0
  field_list_goes = field_list_keeps g shapes

  -- a name whose declaration was begun is finished
  pub constant_ends : (b : Scope g.Reported) (c : Constant)
      → Goes b (finish_name b c.name (constant_meaning (constant g b (part g c.value))))
  constant_ends b c = finish_keeps order b c.name _ (names.constant_ends b c)

  pub type_finished : (b : Scope g.Reported) (d : TypeDecl)
      → Goes (type_of g d.of b).0 (finish_name (type_of g d.of b).0 d.name
      (type_meaning (type_of g d.of b).1 (brings_with d.of)))
  type_finished b d =
      let t = type_of g d.of b in
      finish_keeps order t.0 d.name _ (names.type_ends t.0 d.name.name t.1 (brings_with d.of))

  pub type_ends : (b : Scope g.Reported) (d : TypeDecl)
      → Goes b (finish_name (type_of g d.of b).0 d.name (type_meaning (type_of g d.of b).1 (brings_with d.of)))
  type_ends b d = type_finished b d ⨾ type_of_goes d.of b

  pub constant_goes : (st : State (Unit {0}) g.Reported) (c : Constant) → Goes st.0 (with_constant g st c).0
  constant_goes = constant_keeps g names

  pub type_decl_goes : (st : State (Unit {0}) g.Reported) (d : TypeDecl) → Goes st.0 (with_type g st d).0
  type_decl_goes = type_decl_keeps g names

  pub begun_all_go : (names : List Ident) (st : State (Unit {0}) g.Reported)
      → Goes st.0 (fold (begun_name g) st names).0
  begun_all_go = begun_all g names

  pub variables_end : (b : Scope g.Reported) (v : Variables)
      → Goes (type_of g v.of b).0 (fold (finished_variable (type_of g v.of b).1) (type_of g v.of b).0 v.names)
  variables_end b v =
      let t = type_of g v.of b in
      steps order (λ s. s) (finished_variable t.1)
      (variable_keeps g names variable_type_goes variable_ends t.1) v.names t.0

  pub variables_go : (st : State (Unit {0}) g.Reported) (v : Variables) → Goes st.0 (with_variables g st v).0
  variables_go = variable_list_keeps g names variable_type_goes variable_ends

  -- ---- imports

  imports : KeepsImports g Goes
  imports = record {
    order = order;
    modules =
        λ s name n e. known_goes name (Declared (Module n) (Ok (meaning.Module n))) s refl refl
        (free_undone (find_name name s.own) e);
    exports =
        λ s name n m e. known_goes name (Declared (Export n) (Ok m)) s refl refl (free_undone (find_name name s.own) e);
  }

  pub import_goes : (modules : List (List ℕ × ℕ)) (is : List Import) (st : State (Unit {0}) g.Reported)
      → Goes st.0 (fold (with_import g modules) st is).0
  import_goes = imports_keep g imports
