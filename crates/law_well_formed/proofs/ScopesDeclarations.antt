-- Declarations of blocks lead from scopes to scopes.
use Rattle.std.proofs.Common.{◌≡◌, ℕ, ◌==◌, Bool, true, false, cond, List, [], ◌∷◌, length, Option, Some, None, Result, Ok, Err, refl, sym, ap, subst, ◌∙◌, ◌++◌}
use Rattle.std.specs.Prelude.{slice_get, ◌||◌, ◌&&◌, not, nat_eq}
use Rattle.std.specs.Map.{lookup}
use Rattle.std.specs.Cmp.Lexicographic.{pointwise}
use Rattle.std.specs.List.{fold, list_any}
use Rattle.m2_rule.specs.declared.rule.Rule.TheVariants as rule
use lib.Dec.{T, eqb_refl}
use Rattle.m2_tree.specs.declared.pos.Pos.{Pos}
use Rattle.m2_tree.specs.declared.name.Ident.{Ident}
use Rattle.m2_tree.specs.declared.expr.Qualified.{Qualified}
use Rattle.m2_tree.specs.declared.decl.Constant.{Constant}
use Rattle.m2_tree.specs.declared.decl.TypeDecl.{TypeDecl}
use Rattle.m2_tree.specs.declared.decl.Variables.{Variables}
use Rattle.m2_tree.specs.declared.decl.Heading.{Heading}
use Rattle.m2_tree.specs.declared.decl.Decl.{Decl-F}
use Rattle.m2_tree.specs.declared.decl.Decl.TheOpen as layer
use Rattle.typed_tree.specs.declared.meaning.Meaning.{Meaning}
use Rattle.typed_tree.specs.declared.meaning.Meaning.TheVariants as meaning
use Rattle.typed_tree.specs.declared.meaning.Procedure.{Procedure}
use Rattle.typed_tree.specs.declared.meaning.LocalKind.TheVariants as kind
use Rattle.typed_tree.specs.declared.shape.Made.{Made}
use Rattle.typed_tree.specs.declared.shape.Shape.{Shape}
use Rattle.typed_tree.specs.declared.shape.Shape.TheVariants as shape
use Rattle.typed_tree.specs.declared.shape.Signature.{Signature}
use Rattle.typed_tree.specs.declared.known_types.Types.{Types}
use Rattle.typed_tree.specs.Known.{made_at, in_list, is_result}
use Rattle.typed_tree.specs.declared.typed_module.TypedModule.{TypedModule}
use Rattle.typed_tree.specs.declared.types.TypeNo.{TypeNo}
use Rattle.typed_tree.specs.Names.{find_name}
use Rattle.check_scope.specs.Elaborated.{Gathers, report, reported_where, beside, ◌▷◌}
use Rattle.check_scope.specs.Scopes.{State, is_free, with_known, is_begun}
use Rattle.check_scope.specs.declared.known.Known.{Known}
use Rattle.check_scope.specs.declared.known.Known.TheVariants.{Later, Ahead, Begun, Headed, Declared}
use Rattle.check_scope.specs.declared.known.Origin.TheVariants.{Here}
use Rattle.check_scope.specs.declared.scope.Scope.{Scope}
use Rattle.check_scope.specs.declared.meaningless.Meaningless.{Meaningless}
use Rattle.check_scope.specs.Scopes.{heading_means}
use Rattle.check_type_expr.specs.Named.{first_of, named_type}
use Rattle.check_block.specs.Agreeing.{same_formal, same_result, signature_in, signature_of, agree}
use Rattle.def_scheme.specs.Exprs.{is_there, result_in}
use Rattle.check_type_expr.specs.Headings.{with_section, result_of, heading_of, names_of}
use Rattle.check_type_expr.specs.Made.{enumeration_constant, next_type, with_shape}
use Rattle.check_definition.specs.Declare.{with_constant, with_type, begun_name, with_variable_type, with_variables, procedure_meaning, with_procedure_type}
use Rattle.check_block.specs.declared.heading.Standing.{Standing}
use Rattle.check_block.specs.declared.heading.Standing.TheVariants.{Free, Awaited, Taken}
use Rattle.check_block.specs.Headings.{standing_of, name_standing, nested_meaning, set_heading, module_procedure, with_new, nothing_made, reported_of_other, headed_as, with_heading}
use Rattle.check_block.specs.Naming.{marked_layer}
use Rattle.check_block.specs.Declarations.{with_locals, Course, with_procedure, decl_layer, is_awaited}
use Rattle.law_folds.proofs.TypeSteps.{by_shapes}
use Rattle.law_folds.proofs.Orders.{IsOrder}
use Rattle.law_folds.proofs.MarkSteps.{KeepsMarks, decl_layer_marks}
use Rattle.law_folds.proofs.NameSteps.{KeepsNames, constants_keep, types_keep, VariablesEnd, LocalsEnd, variables_of_keep}
use Rattle.law_well_formed.specs.Formed.{Holds, fine, broken}
use Rattle.law_well_formed.proofs.Basics.{then_holds, where_holds, both_holds, any_holds}
use Rattle.law_well_formed.specs.FormedScopes.{holds_of, is_awaiting, FormedOwn, FormedKnown, Leads, HeadIs, HeadsAre}
use Rattle.law_well_formed.proofs.Names.{get_more, get_last, found_self}
use Rattle.law_well_formed.proofs.ScopesGrowth.{is_headed, free_unheaded, begun_unheaded, leads_refl, leads_then, known_leads, shape_leads}

-- ---- what is reported

module _ (g : Gathers) where
  pub beside_left : (a b : Result (Unit {0}) g.Reported) → beside g a b ≡ Ok tt → a ≡ Ok tt
  beside_left (Ok x) b e = refl
  beside_left (Err x) (Ok y) e = absurd cc
  beside_left (Err x) (Err y) e = absurd cc

  pub beside_right : (a b : Result (Unit {0}) g.Reported) → beside g a b ≡ Ok tt → b ≡ Ok tt
  beside_right a (Ok x) e = refl
  beside_right (Ok y) (Err x) e = absurd cc
  beside_right (Err y) (Err x) e = absurd cc

-- ---- meanings

is_so : (b : Bool) → T b → b ≡ true
is_so true h = refl
is_so false h = absurd h

pub same_home : (a b : ℕ) → a ≡ b → (a == b) ≡ true
same_home a b e = is_so (a == b) (subst (λ (n : ℕ). T (a == n)) e (eqb_refl a))

unawaiting : {A T : Type 0} (r : Result A T) (f : A → Meaning) → ((x : A) → is_awaited (standing_of (f x)) ≡ false)
    → is_awaiting (Declared Here (r ▷ λ x. Ok (f x))) ≡ false
unawaiting (Ok x) f k = k x
unawaiting (Err e) f k = refl

unheaded_free : {T : Type 0} (o : Option (Known T)) → name_standing o ≡ Free → holds_of is_headed o ≡ false
unheaded_free None e = refl
unheaded_free (Some Later) e = refl
unheaded_free (Some Ahead) e = refl
unheaded_free (Some Begun) e = refl
unheaded_free (Some (Headed r)) e = absurd cc
unheaded_free (Some (Declared o r)) e = refl

unheaded_awaited : {T : Type 0} (o : Option (Known T)) (p : Procedure) → name_standing o ≡ Awaited p
    → holds_of is_headed o ≡ false
unheaded_awaited None p e = refl
unheaded_awaited (Some Later) p e = refl
unheaded_awaited (Some Ahead) p e = refl
unheaded_awaited (Some Begun) p e = refl
unheaded_awaited (Some (Headed r)) p e = absurd cc
unheaded_awaited (Some (Declared o r)) p e = refl

module _ (m : TypedModule) (opens : ℕ → Bool) (g : Gathers) where
  abbrev Goes : Scope g.Reported → Scope g.Reported → Type 0
  Goes s s' = Leads m opens s s'

  own_home : (home : ℕ) → home ≡ m.types.home → (home == m.types.home) ≡ true
  own_home home e = same_home home m.types.home e

  -- ---- constants, types and variables

  variable_type_leads : (s : Scope g.Reported) (t : Result TypeNo g.Reported) → Goes s (with_variable_type s t)
  variable_type_leads s (Err e) = leads_refl m opens s
  variable_type_leads s (Ok t) = record {
    tables = refl;
    outer = refl;
    level = refl;
    withs = refl;
    home = refl;
    types = λ t y e. e;
    procedures = λ n t e. e;
    heads = λ name y e. e;
    awaits = λ name e. e;
    awaited = λ name e. refl;
    formed = λ e p. p;
  }

  order : IsOrder {T = g.Reported} Goes
  order = record { same = leads_refl m opens; next = λ a b c p q. leads_then m opens p q }

  free_leads : (s : Scope g.Reported) (name : List ℕ) (k : Known g.Reported) → is_free (find_name name s.own) ≡ true
      → is_awaiting k ≡ false → FormedKnown m opens k → Goes s (with_known name k s)
  free_leads s name k e a p = known_leads m opens s name k (free_unheaded (find_name name s.own) e) a (λ h. p)

  ended_leads : (s : Scope g.Reported) (name : List ℕ) {A : Type 0} (r : Result A g.Reported) (f : A → Meaning)
      → is_begun (find_name name s.own) ≡ true → ((x : A) → is_awaited (standing_of (f x)) ≡ false)
      → (s.types.home ≡ m.types.home → (x : A) → FormedOwn m opens (f x))
      → Goes s (with_known name (Declared Here (r ▷ λ x. Ok (f x))) s)
  ended_leads s name r f e a p =
      known_leads m opens s name (Declared Here (r ▷ λ x. Ok (f x))) (begun_unheaded (find_name name s.own) e)
      (unawaiting r f a) (λ h. then_holds (any_holds r) (λ x k. fine (f x) (p h x)))

  marks : KeepsMarks {T = g.Reported} Goes
  marks = record {
    order = order;
    later = λ s name e. free_leads s name Later (ap is_free e) refl tt;
    ahead = λ s name e. free_leads s name Ahead (ap is_free e) refl tt;
  }

  names : KeepsNames g Goes
  names = record {
    types = by_shapes g (record {
      order = order;
      shaped = shape_leads m opens;
      listed =
          λ s name t n e. free_leads s name (Declared Here (Ok (enumeration_constant t n))) e refl (fine _ (tt, tt));
    });
    begun = λ s name e. free_leads s name Begun e refl tt;
    constant_ends = λ s c e. ended_leads s c.name.name _ (λ x. meaning.Constant x) e (λ x. refl) (λ h x. (tt, tt));
    type_ends = λ s name t n e. ended_leads s name t (λ x. meaning.Type x n) e (λ x. refl) (λ h x. (tt, tt));
  }

  variable_ends : VariablesEnd g Goes
  variable_ends s name t e =
      let v : Scope g.Reported = with_variable_type s t in
      let mine = variable_type_leads s t in
      let k : ℕ = s.types.home in
      leads_then m opens mine
      (ended_leads v name t (λ x. meaning.Variable (record { home = k; number = length s.variables; of = x })) e
      (λ x. refl) (λ h x.
      let own : k ≡ m.types.home = sym mine.home ∙ h in
      (ap (λ (b : Bool). b || list_any (λ i. i.number == k) m.imports) (own_home k own), own)))

  local_ends : LocalsEnd g Goes
  local_ends s name t e =
      leads_then m opens (variable_type_leads s t)
      (ended_leads (with_variable_type s t) name t
      (λ x. meaning.Local (record { level = s.level; number = length s.variables; kind = kind.Variable; of = x }))
      e (λ x. refl) (λ h x. (tt, tt)))

  -- ---- headings

  pub headed_leads : (s : Scope g.Reported) (name : List ℕ) (r : Result Meaning (Meaningless g.Reported))
      → holds_of is_headed (find_name name s.own) ≡ false
      → ((x : Meaning) → find_name name (set_heading name r s).own ≡ Some (Headed (Ok x)) → s.types.home ≡ m.types.home
      → FormedOwn m opens x) → Goes s (set_heading name r s)
  headed_leads s name r e k = known_leads m opens s name (Headed r) e refl (λ h. by r refl h) where
    by : (q : Result Meaning (Meaningless g.Reported)) → r ≡ q → s.types.home ≡ m.types.home
        → FormedKnown m opens (Headed r)
    by (Err x) p h = subst (λ (z : Result Meaning (Meaningless g.Reported)). Holds (FormedOwn m opens) z) (sym p)
        (broken x)
    by (Ok x) p h = subst (λ (z : Result Meaning (Meaningless g.Reported)). Holds (FormedOwn m opens) z) (sym p)
        (fine x (k x (found_self name (Headed r) s.own
        ∙ ap (λ (z : Result Meaning (Meaningless g.Reported)). Some (Headed z)) p) h))

  procedure_type_leads : (s : Scope g.Reported) (t : Result TypeNo g.Reported) → Goes s (with_procedure_type s t)
  procedure_type_leads s (Err e) = leads_refl m opens s
  procedure_type_leads s (Ok t) = record {
    tables = refl;
    outer = refl;
    level = refl;
    withs = refl;
    home = refl;
    types = λ t y e. e;
    procedures = λ n y e. get_more s.procedures (t ∷ []) n y e;
    heads = λ name y e. e;
    awaits = λ name e. e;
    awaited = λ name e. refl;
    formed = λ e p. p;
  }

  procedure_type_own : (s : Scope g.Reported) (t : Result TypeNo g.Reported) → (with_procedure_type s t).own ≡ s.own
  procedure_type_own s (Ok t) = refl
  procedure_type_own s (Err e) = refl

  module_procedure_leads : (s : Scope g.Reported) (name : List ℕ) (t : Result TypeNo g.Reported)
      → holds_of is_headed (find_name name s.own) ≡ false → HeadIs m opens s (module_procedure s name t) name
      → Goes s (module_procedure s name t)
  module_procedure_leads s name t e k =
      let mine = procedure_type_leads s t in
      leads_then m opens mine (headed_leads (with_procedure_type s t) name
      (heading_means false (procedure_meaning s.types.home (length s.procedures) t))
      (ap (λ (es : List (List ℕ × Known g.Reported)). holds_of is_headed (find_name name es)) (procedure_type_own s t)
      ∙ e) (λ x q h. k x q (sym mine.home ∙ h)))

  new_by : (b : Bool) (s : Scope g.Reported) (name : List ℕ) (n : ℕ) (t : Result TypeNo g.Reported)
      → holds_of is_headed (find_name name s.own) ≡ false
      → HeadIs m opens s (cond b (module_procedure s name t)
      (set_heading name (heading_means true (nested_meaning s.level n t)) s)) name
      → Goes s (cond b (module_procedure s name t)
      (set_heading name (heading_means true (nested_meaning s.level n t)) s))
  new_by true s name n t e k = module_procedure_leads s name t e k
  new_by false s name n t e k = headed_leads s name (heading_means true (nested_meaning s.level n t)) e k

  new_leads : (s : Scope g.Reported) (name : List ℕ) (n : ℕ) (made : Result Made g.Reported)
      → holds_of is_headed (find_name name s.own) ≡ false → HeadIs m opens s (with_new s name n made).0 name
      → Goes s (with_new s name n made).0
  new_leads s name n (Ok x) e k = leads_then m opens (shape_leads m opens s x)
      (new_by (s.level == 0) (with_shape s x) name n (Ok (next_type s)) e k)
  new_leads s name n (Err x) e k = new_by (s.level == 0) s name n (Err x) e k

  heading_by : (s : Scope g.Reported) (h : Heading) (n : ℕ) (made : Result Made g.Reported) (o : Standing)
      → name_standing (find_name h.name.name s.own) ≡ o
      → HeadIs m opens s (headed_as g s h n made o).0 h.name.name → Goes s (headed_as g s h n made o).0
  heading_by s h n made Free e k = new_leads s h.name.name n made (unheaded_free (find_name h.name.name s.own) e) k
  heading_by s h n made (Awaited p) e k =
      headed_leads s h.name.name (Ok (meaning.Procedure p)) (unheaded_awaited (find_name h.name.name s.own) p e) k
  heading_by s h n made Taken e k = leads_refl m opens s

  pub heading_leads : (s : Scope g.Reported) (h : Heading) (n : ℕ)
      → HeadIs m opens s (with_heading g s n h).0 h.name.name → Goes s (with_heading g s n h).0
  heading_leads s h n k = heading_by s h n (heading_of g s h) (name_standing (find_name h.name.name s.own)) refl k

  -- ---- a declaration of a block

  module _ {A B : Type 0} where
    pub decl_leads : (ends : List ℕ) (c : Course g.Reported) (y : Decl-F A B) → HeadsAre m opens g c y
        → Goes c.0 (decl_layer g ends c y).0
    decl_leads ends c (layer.Constants cs) k = constants_keep g names cs (c.0, c.1)
    decl_leads ends c (layer.Types ts) k = types_keep g names ts (c.0, c.1)
    decl_leads ends c (layer.Variables vs) k =
        variables_of_keep g names variable_type_leads variable_ends local_ends vs (c.0, c.1)
    decl_leads ends c (layer.Procedure h b) k = heading_leads c.0 h c.2 k

    pub layer_marks : (s : Scope g.Reported) (y : Decl-F A B) → Goes s (marked_layer s y)
    layer_marks s y = decl_layer_marks marks y s

-- ---- results of headings

-- a procedure type that is known, with a result or without one
abbrev pub ResultIs : Types → TypeNo → Option Qualified → Type 0
ResultIs types t o = (x : Made) × ((made_at types t ≡ Some x) × (result_in x.shape ≡ is_there o))

both_true : (a b : Bool) → (a && b) ≡ true → b ≡ true
both_true true b e = e
both_true false b e = absurd cc

same_there : (a b : Option TypeNo) → same_result a b ≡ true → is_there a ≡ is_there b
same_there None None e = refl
same_there None (Some u) e = absurd cc
same_there (Some t) None e = absurd cc
same_there (Some t) (Some u) e = refl

agree_shapes : (k : Signature) (b : Shape) → agree (Some k) (signature_in b) ≡ true → is_there k.result ≡ result_in b
agree_shapes k (shape.Procedure p) e = same_there k.result p.result
    (both_true (pointwise same_formal k.formals p.formals) (same_result k.result p.result) e)
agree_shapes k (shape.Scalar p) e = absurd cc
agree_shapes k shape.Set e = absurd cc
agree_shapes k (shape.Array i j) e = absurd cc
agree_shapes k (shape.Record fs) e = absurd cc
agree_shapes k (shape.Open j) e = absurd cc

agree_with : (k : Signature) (o : Option Made) → agree (Some k) (signature_of o) ≡ true → (y : Made)
    × ((o ≡ Some y) × (is_there k.result ≡ result_in y.shape))
agree_with k None e = absurd cc
agree_with k (Some y) e = (y, (refl, agree_shapes k y.shape e))

agree_made : (a : Shape) (o : Option Made) → agree (signature_in a) (signature_of o) ≡ true → (y : Made)
    × ((o ≡ Some y) × (result_in a ≡ result_in y.shape))
agree_made (shape.Procedure k) o e = agree_with k o e
agree_made (shape.Scalar p) o e = absurd cc
agree_made shape.Set o e = absurd cc
agree_made (shape.Array i j) o e = absurd cc
agree_made (shape.Record fs) o e = absurd cc
agree_made (shape.Open j) o e = absurd cc

-- ---- what was reported before is reported behind a declaration

module _ (g : Gathers) where
  constants_reported : (cs : List Constant) (st : State (Unit {0}) g.Reported)
      → (fold (with_constant g) st cs).1 ≡ Ok tt → st.1 ≡ Ok tt
  constants_reported [] st e = e
  constants_reported (c ∷ cs) st e = beside_left g st.1 _ (constants_reported cs (with_constant g st c) e)

  types_reported : (ts : List TypeDecl) (st : State (Unit {0}) g.Reported) → (fold (with_type g) st ts).1 ≡ Ok tt
      → st.1 ≡ Ok tt
  types_reported [] st e = e
  types_reported (t ∷ ts) st e = beside_left g st.1 _ (types_reported ts (with_type g st t) e)

  begun_reported : (names : List Ident) (st : State (Unit {0}) g.Reported) → (fold (begun_name g) st names).1 ≡ Ok tt
      → st.1 ≡ Ok tt
  begun_reported [] st e = e
  begun_reported (x ∷ xs) st e = beside_left g st.1 _ (begun_reported xs (begun_name g st x) e)

  variables_reported : (vs : List Variables) (st : State (Unit {0}) g.Reported)
      → (fold (with_variables g) st vs).1 ≡ Ok tt → st.1 ≡ Ok tt
  variables_reported [] st e = e
  variables_reported (v ∷ vs) st e = begun_reported v.names st
      (beside_left g (fold (begun_name g) st v.names).1 _ (variables_reported vs (with_variables g st v) e))

  locals_reported : (vs : List Variables) (st : State (Unit {0}) g.Reported) → (fold (with_locals g) st vs).1 ≡ Ok tt
      → st.1 ≡ Ok tt
  locals_reported [] st e = e
  locals_reported (v ∷ vs) st e = begun_reported v.names st
      (beside_left g (fold (begun_name g) st v.names).1 _ (locals_reported vs (with_locals g st v) e))

  variables_of_reported : (b : Bool) (st : State (Unit {0}) g.Reported) (vs : List Variables)
      → (cond {A = State (Unit {0}) g.Reported} b (fold (with_variables g) st vs) (fold (with_locals g) st vs)).1
      ≡ Ok tt → st.1 ≡ Ok tt
  variables_of_reported true st vs e = variables_reported vs st e
  variables_of_reported false st vs e = locals_reported vs st e

  pub decl_reported : {A B : Type 0} (ends : List ℕ) (c : Course g.Reported) (y : Decl-F A B)
      → (decl_layer g ends c y).1 ≡ Ok tt → c.1 ≡ Ok tt
  decl_reported ends c (layer.Constants cs) e = constants_reported cs (c.0, c.1) e
  decl_reported ends c (layer.Types ts) e = types_reported ts (c.0, c.1) e
  decl_reported ends c (layer.Variables vs) e = variables_of_reported (c.0.level == 0) (c.0, c.1) vs e
  decl_reported ends c (layer.Procedure h b) e = beside_left g c.1 _ e

  pub head_reported : (ends : List ℕ) (c : Course g.Reported) (h : Heading) → (with_procedure g ends c h).1 ≡ Ok tt
      → (with_heading g c.0 c.2 h).1 ≡ Ok tt
  head_reported ends c h e = beside_right g c.1 _ e

  -- ---- headings in which no rule is broken

  headed_reported : (s : Scope g.Reported) (h : Heading) (n : ℕ) → (with_heading g s n h).1 ≡ Ok tt
      → (headed_as g s h n (heading_of g s h) (name_standing (find_name h.name.name s.own))).1 ≡ Ok tt
  headed_reported s h n e = beside_right g (names_of g h)
      (headed_as g s h n (heading_of g s h) (name_standing (find_name h.name.name s.own))).1 e

  pub result_holds : (s : Scope g.Reported) (o : Option Qualified)
      → Holds (λ r. is_there r ≡ is_there o) (result_of g s o)
  result_holds s None = fine None refl
  result_holds s (Some q) = then_holds (any_holds (named_type g s q))
      (λ t k. where_holds g (not (is_result s.types t)) (first_of q) rule.NoType (fine (Some t) refl))

  -- the heading of a function has a result
  heading_holds : (s : Scope g.Reported) (h : Heading)
      → Holds (λ x. result_in x.shape ≡ is_there h.result) (heading_of g s h)
  heading_holds s h =
      then_holds (both_holds g (any_holds (fold (with_section g s) (Ok []) h.formals)) (result_holds s h.result))
      (λ p k. fine (record { shape = shape.Procedure (record { formals = p.0; result = p.1 }); cells = 1 }) k.1)

  -- in a procedure
  abbrev pub NestedHead : Scope g.Reported → Scope g.Reported → Heading → ℕ → Type 0
  NestedHead s s' h n = (t : TypeNo) × ((find_name h.name.name s'.own
      ≡ Some (Headed (Ok (meaning.LocalProcedure (record { level = s.level; number = n; heading = t })))))
      × ResultIs s'.types t h.result)

  nested_new : (b : Bool) → b ≡ false → (s : Scope g.Reported) (h : Heading) (n : ℕ) (t : TypeNo)
      → ResultIs s.types t h.result
      → NestedHead s (cond b (module_procedure s h.name.name (Ok t))
      (set_heading h.name.name (heading_means true (nested_meaning s.level n (Ok t))) s)) h n
  nested_new true e s h n t r = absurd cc
  nested_new false e s h n t r = (
    t,
    (
      found_self h.name.name
          (Headed (Ok (meaning.LocalProcedure (record { level = s.level; number = n; heading = t })))) s.own,
      r,
    ),
  )

  new_result : (s : Scope g.Reported) (x : Made) (o : Option Qualified) → result_in x.shape ≡ is_there o
      → ResultIs (with_shape s x).types (next_type s) o
  new_result s x o k = (
    x,
    (
      ap (λ (b : Bool). cond b (slice_get (s.types.own ++ x ∷ []) (length s.types.own))
          (in_list (length s.types.own) (lookup (nat_eq s.types.home) s.types.others)))
          (same_home s.types.home s.types.home refl) ∙ get_last s.types.own x,
      k,
    ),
  )

  nested_made : (s : Scope g.Reported) (h : Heading) (n : ℕ) (made : Result Made g.Reported)
      → Holds (λ x. result_in x.shape ≡ is_there h.result) made → (s.level == 0) ≡ false
      → (with_new s h.name.name n made).1 ≡ Ok tt
      → NestedHead s (with_new s h.name.name n made).0 h n
  nested_made s h n _ (fine x k) e q = nested_new (s.level == 0) e (with_shape s x) h n (next_type s)
      (new_result s x h.result k)
  nested_made s h n _ (broken x) e q = absurd cc

  pub awaited_is : {T : Type 0} (o : Option (Known T)) (p : Procedure) → name_standing o ≡ Awaited p
      → holds_of is_awaiting o ≡ true
  awaited_is None p e = absurd cc
  awaited_is (Some k) p e = ap is_awaited e

  nested_by : (s : Scope g.Reported) (h : Heading) (n : ℕ) (made : Result Made g.Reported) (o : Standing)
      → Holds (λ x. result_in x.shape ≡ is_there h.result) made → name_standing (find_name h.name.name s.own) ≡ o
      → (s.level == 0) ≡ false → holds_of is_awaiting (find_name h.name.name s.own) ≡ false
      → (headed_as g s h n made o).1 ≡ Ok tt → NestedHead s (headed_as g s h n made o).0 h n
  nested_by s h n made Free r e l a q = nested_made s h n made r l q
  nested_by s h n made (Awaited p) r e l a q = let k : holds_of is_awaiting (find_name h.name.name s.own) ≡ true =
      awaited_is (find_name h.name.name s.own) p e in absurd (let z : false ≡ true = sym a ∙ k in cc)
  nested_by s h n made Taken r e l a q = let z : report g {A = Unit {0}} h.name.pos rule.DeclaredTwice ≡ Ok tt =
      beside_right g (nothing_made made) (report g h.name.pos rule.DeclaredTwice) q in absurd cc

  pub nested_head : (s : Scope g.Reported) (h : Heading) (n : ℕ) → (s.level == 0) ≡ false
      → holds_of is_awaiting (find_name h.name.name s.own) ≡ false → (with_heading g s n h).1 ≡ Ok tt
      → NestedHead s (with_heading g s n h).0 h n
  nested_head s h n l a q = nested_by s h n (heading_of g s h) (name_standing (find_name h.name.name s.own))
      (heading_holds s h) refl l a (headed_reported s h n q)

  -- of a module: its number stands among the module's procedures
  abbrev pub IsProcedureOf : Scope g.Reported → Procedure → Type 0
  IsProcedureOf s p = (p.home ≡ s.types.home) × (slice_get s.procedures p.number ≡ Some p.heading)

  abbrev pub ModuleHead : Scope g.Reported → Heading → Type 0
  ModuleHead s' h = (p : Procedure) × ((find_name h.name.name s'.own ≡ Some (Headed (Ok (meaning.Procedure p))))
      × (IsProcedureOf s' p × ResultIs s'.types p.heading h.result))

  module_new : (b : Bool) → b ≡ true → (s : Scope g.Reported) (h : Heading) (n : ℕ) (t : TypeNo)
      → ResultIs s.types t h.result
      → ModuleHead (cond b (module_procedure s h.name.name (Ok t))
      (set_heading h.name.name (heading_means true (nested_meaning s.level n (Ok t))) s)) h
  module_new true e s h n t r = (
    record { home = s.types.home; number = length s.procedures; heading = t },
    (
      found_self h.name.name (Headed (Ok (meaning.Procedure
          (record { home = s.types.home; number = length s.procedures; heading = t })))) s.own,
      ((refl, get_last s.procedures t), r),
    ),
  )
  module_new false e s h n t r = absurd cc

  module_made : (s : Scope g.Reported) (h : Heading) (n : ℕ) (made : Result Made g.Reported)
      → Holds (λ x. result_in x.shape ≡ is_there h.result) made → (s.level == 0) ≡ true
      → (with_new s h.name.name n made).1 ≡ Ok tt
      → ModuleHead (with_new s h.name.name n made).0 h
  module_made s h n _ (fine x k) e q = module_new (s.level == 0) e (with_shape s x) h n (next_type s)
      (new_result s x h.result k)
  module_made s h n _ (broken x) e q = absurd cc

  -- a heading that agrees with that of the definition
  agreed : (o : Option Made) (x : Made) (q : Option Qualified) (at : Pos) (b : Bool)
      → agree (signature_of (Some x)) (signature_of o) ≡ b
      → reported_where g {A = Unit {0}} (not b) at rule.OtherHeading (Ok tt) ≡ Ok tt
      → result_in x.shape ≡ is_there q → (y : Made) × ((o ≡ Some y) × (result_in y.shape ≡ is_there q))
  agreed o x q at false e t k = absurd cc
  agreed o x q at true e t k = let y = agree_made x.shape o e in (y.0, (y.1.0, sym y.1.1 ∙ k))

  awaited_made : (s : Scope g.Reported) (h : Heading) (p : Procedure) (made : Result Made g.Reported)
      → Holds (λ x. result_in x.shape ≡ is_there h.result) made
      → (made ▷ reported_of_other g s.types h.name.pos p) ≡ Ok tt → ResultIs s.types p.heading h.result
  awaited_made s h p _ (fine x k) q = agreed (made_at s.types p.heading) x h.result h.name.pos
      (agree (signature_of (Some x)) (signature_of (made_at s.types p.heading))) refl q k
  awaited_made s h p _ (broken x) q = absurd cc

  module_by : (s : Scope g.Reported) (h : Heading) (n : ℕ) (made : Result Made g.Reported) (o : Standing)
      → Holds (λ x. result_in x.shape ≡ is_there h.result) made → ((p : Procedure) → o ≡ Awaited p → IsProcedureOf s p)
      → (s.level == 0) ≡ true
      → (headed_as g s h n made o).1 ≡ Ok tt → ModuleHead (headed_as g s h n made o).0 h
  module_by s h n made Free r e l q = module_made s h n made r l q
  module_by s h n made (Awaited p) r e l q =
      (p, (found_self h.name.name (Headed (Ok (meaning.Procedure p))) s.own, (e p refl, awaited_made s h p made r q)))
  module_by s h n made Taken r e l q = let z : report g {A = Unit {0}} h.name.pos rule.DeclaredTwice ≡ Ok tt =
      beside_right g (nothing_made made) (report g h.name.pos rule.DeclaredTwice) q in absurd cc

  pub module_head : (s : Scope g.Reported) (h : Heading) (n : ℕ)
      → ((p : Procedure) → name_standing (find_name h.name.name s.own) ≡ Awaited p → IsProcedureOf s p)
      → (s.level == 0) ≡ true → (with_heading g s n h).1 ≡ Ok tt → ModuleHead (with_heading g s n h).0 h
  module_head s h n a l q = module_by s h n (heading_of g s h) (name_standing (find_name h.name.name s.own))
      (heading_holds s h) a l (headed_reported s h n q)
