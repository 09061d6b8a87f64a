-- A declaration of a block marks all names that it declares.
use Rattle.std.proofs.Common.{◌≡◌, ℕ, ◌==◌, Bool, true, false, not, cond, length, List, [], ◌∷◌, Option, Some, None, Result, Ok, Err, refl, ap, ◌∙◌}
use Rattle.std.specs.List.{fold}
use Rattle.m2_tree.specs.declared.name.Ident.{Ident}
use Rattle.m2_tree.specs.declared.decl.Constant.{Constant}
use Rattle.m2_tree.specs.declared.decl.TypeDecl.{TypeDecl}
use Rattle.m2_tree.specs.declared.decl.Variables.{Variables}
use Rattle.m2_tree.specs.declared.decl.Heading.{Heading}
use Rattle.m2_tree.specs.declared.decl.Decl.{Decl, Decl-F, out-Decl}
use Rattle.m2_tree.specs.declared.decl.Decl.TheOpen as layer
use Rattle.typed_tree.specs.declared.meaning.Meaning.{Meaning}
use Rattle.typed_tree.specs.declared.meaning.Meaning.TheVariants as meaning
use Rattle.typed_tree.specs.declared.meaning.Procedure.{Procedure}
use Rattle.typed_tree.specs.declared.meaning.Value.{Value}
use Rattle.typed_tree.specs.declared.shape.Made.{Made}
use Rattle.typed_tree.specs.declared.types.TypeNo.{TypeNo}
use Rattle.typed_tree.specs.Names.{find_name}
use Rattle.check_scope.specs.Elaborated.{Gathers}
use Rattle.check_scope.specs.Scopes.{State, begin_name, mark_name}
use Rattle.check_scope.specs.declared.known.Known.{Known}
use Rattle.check_scope.specs.declared.known.Known.TheVariants.{Later, Ahead, Begun, Headed, Declared}
use Rattle.check_scope.specs.declared.known.Origin.{Origin}
use Rattle.check_scope.specs.declared.known.Origin.TheVariants.{Here, Module, Export}
use Rattle.check_scope.specs.declared.scope.Scope.{Scope}
use Rattle.check_scope.specs.declared.meaningless.Meaningless.{Meaningless}
use Rattle.check_scope.specs.Scopes.{heading_means}
use Rattle.check_const.specs.Parts.{constant}
use Rattle.check_expr.specs.Meanings.{part}
use Rattle.check_type_expr.specs.Headings.{heading_of}
use Rattle.check_type_expr.specs.Made.{type_of, next_type, with_shape}
use Rattle.check_definition.specs.Declare.{constant_meaning, with_constant, brings_with, type_meaning, with_type, begun_name, with_variable_type, finished_variable, with_variables, procedure_meaning, with_procedure_type}
use Rattle.check_definition.specs.Marking.{Marks, marked_later, marked_in, marked_constant, marked_type, marked_variables}
use Rattle.check_block.specs.declared.heading.Standing.{Standing}
use Rattle.check_block.specs.declared.heading.Standing.TheVariants.{Free, Awaited, Taken}
use Rattle.check_block.specs.Headings.{name_standing, nested_meaning, set_heading, module_procedure, with_new, headed_as, with_heading}
use Rattle.check_block.specs.Naming.{marked_layer, marked_decl}
use Rattle.check_block.specs.Declarations.{finished_local, with_locals, Course, is_awaited, decl_layer, with_decl}
use Rattle.law_folds.proofs.MarkSteps.{names_marks, type_marks, constants_marks, types_marks, lists_marks, decl_layer_marks}
use Rattle.law_well_formed.specs.FormedScopes.{holds_of}
use Rattle.law_well_formed.proofs.HeadingsSteps.{is_settled, keeps_marks, MarksAll, Changes, changes_refl, changes_then, changes_first, changes_second, known_changes, begun_changes, finished_changes, same_changes, shape_changes}
use Rattle.law_well_formed.proofs.HeadingsTypeExprs.{type_changed}

not_free : {T : Type 0} (o : Origin) (r : Result Meaning T) → name_standing (Some (Declared o r)) ≡ Free → ⊥
not_free Here (Ok (meaning.Procedure p)) e = absurd cc
not_free Here (Ok (meaning.Constant v)) e = absurd cc
not_free Here (Ok (meaning.Type t n)) e = absurd cc
not_free Here (Ok (meaning.Variable v)) e = absurd cc
not_free Here (Ok (meaning.Local v)) e = absurd cc
not_free Here (Ok (meaning.Field f)) e = absurd cc
not_free Here (Ok (meaning.LocalProcedure p)) e = absurd cc
not_free Here (Ok meaning.Ahead) e = absurd cc
not_free Here (Ok (meaning.Standard f)) e = absurd cc
not_free Here (Ok (meaning.Module k)) e = absurd cc
not_free Here (Err x) e = absurd cc
not_free (Module k) r e = absurd cc
not_free (Export k) r e = absurd cc

free_standing : {T : Type 0} (o : Option (Known T)) → name_standing o ≡ Free → holds_of is_settled o ≡ false
free_standing None e = refl
free_standing (Some Later) e = refl
free_standing (Some Ahead) e = refl
free_standing (Some Begun) e = absurd cc
free_standing (Some (Headed r)) e = absurd cc
free_standing (Some (Declared o r)) e = absurd (not_free o r e)

awaited_standing : {T : Type 0} (o : Option (Known T)) (p : Procedure) → name_standing o ≡ Awaited p
    → holds_of is_settled o ≡ false
awaited_standing None p e = absurd cc
awaited_standing (Some Later) p e = absurd cc
awaited_standing (Some Ahead) p e = absurd cc
awaited_standing (Some Begun) p e = absurd cc
awaited_standing (Some (Headed r)) p e = absurd cc
awaited_standing (Some (Declared o r)) p e = ap (λ (s : Standing). not (is_awaited s)) e

module _ (g : Gathers) where
  -- ---- marks

  pub decl_marked : (d : Decl) → MarksAll {T = g.Reported} (λ s. marked_decl s d)
  decl_marked d = decl_layer_marks keeps_marks (out-Decl d)

  -- ---- constants and types

  constant_changes : (st : State (Unit {0}) g.Reported) (c : Constant)
      → Changes (λ z. marked_constant z c) st.0 (with_constant g st c).0
  constant_changes st c =
      let b : Scope g.Reported = (begin_name g st.0 c.name).0 in
      let v : Result Value g.Reported = constant g b (part g c.value) in
      changes_then (begun_changes g st.0 c.name Later) (finished_changes b c.name Later (constant_meaning v))

  constants_change : (cs : List Constant) (st : State (Unit {0}) g.Reported)
      → Changes (λ z. fold marked_constant z cs) st.0 (fold (with_constant g) st cs).0
  constants_change [] st = changes_refl _ st.0
  constants_change (c ∷ cs) st =
      changes_then (changes_first (λ z. marked_constant z c) (λ z. fold marked_constant z cs)
      (constants_marks keeps_marks cs) (constant_changes st c))
      (changes_second (λ z. marked_constant z c) (λ z. fold marked_constant z cs)
      (constants_change cs (with_constant g st c)))

  type_changes : (st : State (Unit {0}) g.Reported) (d : TypeDecl)
      → Changes (λ z. marked_type z d) st.0 (with_type g st d).0
  type_changes st d =
      let b : Scope g.Reported = (begin_name g st.0 d.name).0 in
      let t : State TypeNo g.Reported = type_of g d.of b in
      changes_then (changes_first (λ z. marked_later z d.name) (marked_in d.of) (type_marks keeps_marks d.of)
      (begun_changes g st.0 d.name Later))
      (changes_then (changes_second (λ z. marked_later z d.name) (marked_in d.of) (type_changed g d.of b))
      (changes_first (λ z. marked_later z d.name) (marked_in d.of) (type_marks keeps_marks d.of)
      (finished_changes t.0 d.name Later (type_meaning t.1 (brings_with d.of)))))

  types_change : (ts : List TypeDecl) (st : State (Unit {0}) g.Reported)
      → Changes (λ z. fold marked_type z ts) st.0 (fold (with_type g) st ts).0
  types_change [] st = changes_refl _ st.0
  types_change (t ∷ ts) st =
      changes_then (changes_first (λ z. marked_type z t) (λ z. fold marked_type z ts) (types_marks keeps_marks ts)
      (type_changes st t))
      (changes_second (λ z. marked_type z t) (λ z. fold marked_type z ts) (types_change ts (with_type g st t)))

  -- ---- variables

  begun_all : (names : List Ident) (st : State (Unit {0}) g.Reported)
      → Changes (λ z. fold marked_later z names) st.0 (fold (begun_name g) st names).0
  begun_all [] st = changes_refl _ st.0
  begun_all (x ∷ xs) st =
      changes_then (changes_first (λ z. marked_later z x) (λ z. fold marked_later z xs) (names_marks keeps_marks xs)
      (begun_changes g st.0 x Later))
      (changes_second (λ z. marked_later z x) (λ z. fold marked_later z xs) (begun_all xs (begun_name g st x)))

  variable_type_changes : (marks : Marks g.Reported) (s : Scope g.Reported) (t : Result TypeNo g.Reported)
      → Changes marks s (with_variable_type s t)
  variable_type_changes marks s (Err e) = changes_refl marks s
  variable_type_changes marks s (Ok t) = same_changes marks s (with_variable_type s (Ok t)) refl refl refl (λ t x e. e)
      refl

  -- how a name of a list is finished: a variable of the module, or of a procedure
  module _ (finish : Scope g.Reported → Ident → Scope g.Reported)
      (one : (s : Scope g.Reported) (x : Ident) → Changes (λ z. marked_later z x) s (finish s x)) where
    finished_all : (names : List Ident) (s : Scope g.Reported)
        → Changes (λ z. fold marked_later z names) s (fold finish s names)
    finished_all [] s = changes_refl _ s
    finished_all (x ∷ xs) s =
        changes_then (changes_first (λ z. marked_later z x) (λ z. fold marked_later z xs) (names_marks keeps_marks xs)
        (one s x))
        (changes_second (λ z. marked_later z x) (λ z. fold marked_later z xs) (finished_all xs (finish s x)))

  variable_changes : (t : Result TypeNo g.Reported) (s : Scope g.Reported) (x : Ident)
      → Changes (λ z. marked_later z x) s (finished_variable t s x)
  variable_changes t s x = changes_then (variable_type_changes _ s t)
      (finished_changes (with_variable_type s t) x Later _)

  local_changes : (t : Result TypeNo g.Reported) (s : Scope g.Reported) (x : Ident)
      → Changes (λ z. marked_later z x) s (finished_local t s x)
  local_changes t s x = changes_then (variable_type_changes _ s t) (finished_changes (with_variable_type s t) x Later _)

  list_changes : (st : State (Unit {0}) g.Reported) (v : Variables)
      (finish : Result TypeNo g.Reported → Scope g.Reported → Ident → Scope g.Reported)
      → ((t : Result TypeNo g.Reported) (s : Scope g.Reported) (x : Ident)
      → Changes (λ z. marked_later z x) s (finish t s x))
      → Changes (λ z. marked_variables z v) st.0
      (let t = type_of g v.of (fold (begun_name g) st v.names).0 in fold (finish t.1) t.0 v.names)
  list_changes st v finish one =
      let b : State (Unit {0}) g.Reported = fold (begun_name g) st v.names in
      let t : State TypeNo g.Reported = type_of g v.of b.0 in
      changes_then (changes_first (λ z. fold marked_later z v.names) (marked_in v.of) (type_marks keeps_marks v.of)
      (begun_all v.names st))
      (changes_then (changes_second (λ z. fold marked_later z v.names) (marked_in v.of) (type_changed g v.of b.0))
      (changes_first (λ z. fold marked_later z v.names) (marked_in v.of) (type_marks keeps_marks v.of)
      (finished_all (finish t.1) (one t.1) v.names t.0)))

  variables_change : (vs : List Variables) (st : State (Unit {0}) g.Reported)
      → Changes (λ z. fold marked_variables z vs) st.0 (fold (with_variables g) st vs).0
  variables_change [] st = changes_refl _ st.0
  variables_change (v ∷ vs) st =
      changes_then (changes_first (λ z. marked_variables z v) (λ z. fold marked_variables z vs)
      (lists_marks keeps_marks vs) (list_changes st v (λ t. finished_variable t) variable_changes))
      (changes_second (λ z. marked_variables z v) (λ z. fold marked_variables z vs)
      (variables_change vs (with_variables g st v)))

  locals_change : (vs : List Variables) (st : State (Unit {0}) g.Reported)
      → Changes (λ z. fold marked_variables z vs) st.0 (fold (with_locals g) st vs).0
  locals_change [] st = changes_refl _ st.0
  locals_change (v ∷ vs) st =
      changes_then (changes_first (λ z. marked_variables z v) (λ z. fold marked_variables z vs)
      (lists_marks keeps_marks vs) (list_changes st v (λ t. finished_local t) local_changes))
      (changes_second (λ z. marked_variables z v) (λ z. fold marked_variables z vs)
      (locals_change vs (with_locals g st v)))

  variables_by : (b : Bool) (st : State (Unit {0}) g.Reported) (vs : List Variables)
      → Changes (λ z. fold marked_variables z vs) st.0
      (cond {A = State (Unit {0}) g.Reported} b (fold (with_variables g) st vs) (fold (with_locals g) st vs)).0
  variables_by true st vs = variables_change vs st
  variables_by false st vs = locals_change vs st

  -- ---- headings

  headed_changes : (s : Scope g.Reported) (h : Heading) (r : Result Meaning (Meaningless g.Reported))
      → holds_of is_settled (find_name h.name.name s.own) ≡ false
      → Changes (λ z. mark_name h.name Ahead z) s (set_heading h.name.name r s)
  headed_changes s h r e = known_changes s h.name Ahead (Headed r) e

  procedure_type_changes : (marks : Marks g.Reported) (s : Scope g.Reported) (t : Result TypeNo g.Reported)
      → Changes marks s (with_procedure_type s t)
  procedure_type_changes marks s (Err e) = changes_refl marks s
  procedure_type_changes marks s (Ok t) =
      same_changes marks s (with_procedure_type s (Ok t)) refl refl refl (λ t x e. e) refl

  procedure_type_own : (s : Scope g.Reported) (t : Result TypeNo g.Reported) → (with_procedure_type s t).own ≡ s.own
  procedure_type_own s (Ok t) = refl
  procedure_type_own s (Err e) = refl

  module_procedure_changes : (s : Scope g.Reported) (h : Heading) (t : Result TypeNo g.Reported)
      → holds_of is_settled (find_name h.name.name s.own) ≡ false
      → Changes (λ z. mark_name h.name Ahead z) s (module_procedure s h.name.name t)
  module_procedure_changes s h t e =
      changes_then (procedure_type_changes _ s t)
      (headed_changes (with_procedure_type s t) h
      (heading_means false (procedure_meaning s.types.home (length s.procedures) t))
      (ap (λ (es : List (List ℕ × Known g.Reported)). holds_of is_settled (find_name h.name.name es))
      (procedure_type_own s t) ∙ e))

  new_by : (b : Bool) (s : Scope g.Reported) (h : Heading) (n : ℕ) (t : Result TypeNo g.Reported)
      → holds_of is_settled (find_name h.name.name s.own) ≡ false
      → Changes (λ z. mark_name h.name Ahead z) s
      (cond b (module_procedure s h.name.name t)
      (set_heading h.name.name (heading_means true (nested_meaning s.level n t)) s))
  new_by true s h n t e = module_procedure_changes s h t e
  new_by false s h n t e = headed_changes s h (heading_means true (nested_meaning s.level n t)) e

  new_changes : (s : Scope g.Reported) (h : Heading) (n : ℕ) (made : Result Made g.Reported)
      → holds_of is_settled (find_name h.name.name s.own) ≡ false
      → Changes (λ z. mark_name h.name Ahead z) s (with_new s h.name.name n made).0
  new_changes s h n (Ok x) e = changes_then (shape_changes _ s x)
      (new_by (s.level == 0) (with_shape s x) h n (Ok (next_type s)) e)
  new_changes s h n (Err x) e = new_by (s.level == 0) s h n (Err x) e

  heading_by : (s : Scope g.Reported) (h : Heading) (n : ℕ) (made : Result Made g.Reported) (o : Standing)
      → name_standing (find_name h.name.name s.own) ≡ o
      → Changes (λ z. mark_name h.name Ahead z) s (headed_as g s h n made o).0
  heading_by s h n made Free e = new_changes s h n made (free_standing (find_name h.name.name s.own) e)
  heading_by s h n made (Awaited p) e = headed_changes s h (Ok (meaning.Procedure p))
      (awaited_standing (find_name h.name.name s.own) p e)
  heading_by s h n made Taken e = changes_refl _ s

  heading_changes : (s : Scope g.Reported) (h : Heading) (n : ℕ)
      → Changes (λ z. mark_name h.name Ahead z) s (with_heading g s n h).0
  heading_changes s h n = heading_by s h n (heading_of g s h) (name_standing (find_name h.name.name s.own)) refl

  -- ---- a declaration of a block

  layer_changes : {A B : Type 0} (ends : List ℕ) (c : Course g.Reported) (y : Decl-F A B)
      → Changes (λ z. marked_layer z y) c.0 (decl_layer g ends c y).0
  layer_changes ends c (layer.Constants cs) = constants_change cs (c.0, c.1)
  layer_changes ends c (layer.Types ts) = types_change ts (c.0, c.1)
  layer_changes ends c (layer.Variables vs) = variables_by (c.0.level == 0) (c.0, c.1) vs
  layer_changes ends c (layer.Procedure h b) = heading_changes c.0 h c.2

  pub decl_changes : (ends : List ℕ) (c : Course g.Reported) (d : Decl)
      → Changes (λ z. marked_decl z d) c.0 (with_decl g ends c d).0
  decl_changes ends c d = layer_changes ends c (out-Decl d)
