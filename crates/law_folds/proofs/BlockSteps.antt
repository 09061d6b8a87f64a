-- What a block declares: what each entry of a name keeps, the whole block keeps.
use Rattle.std.proofs.Common.{◌≡◌, ℕ, ◌==◌, Bool, true, false, cond, List, [], length, Option, Some, None, Result, Ok, Err, refl, sym, subst}
use Rattle.std.specs.List.{fold}
use Rattle.m2_tree.specs.declared.decl.Variables.{Variables}
use Rattle.m2_tree.specs.declared.decl.Heading.{Heading}
use Rattle.m2_tree.specs.declared.decl.Decl.{Decl, Decl-F, out-Decl}
use Rattle.m2_tree.specs.declared.decl.Decl.TheOpen as decl
use Rattle.typed_tree.specs.declared.shape.Made.{Made}
use Rattle.typed_tree.specs.declared.meaning.Meaning.{Meaning}
use Rattle.typed_tree.specs.declared.meaning.Meaning.TheVariants as meaning
use Rattle.typed_tree.specs.declared.meaning.Procedure.{Procedure}
use Rattle.typed_tree.specs.declared.types.TypeNo.{TypeNo}
use Rattle.typed_tree.specs.Names.{find_name}
use Rattle.check_scope.specs.Elaborated.{Gathers}
use Rattle.check_scope.specs.Scopes.{State, is_free, with_known, is_begun, heading_means}
use Rattle.check_scope.specs.declared.known.Known.{Known}
use Rattle.check_scope.specs.declared.known.Known.TheVariants.{Later, Ahead, Begun, Headed, Declared}
use Rattle.check_scope.specs.declared.known.Origin.TheVariants.{Here, Module, Export}
use Rattle.check_scope.specs.declared.scope.Scope.{Scope}
use Rattle.check_type_expr.specs.Headings.{heading_of}
use Rattle.check_type_expr.specs.Made.{with_made}
use Rattle.check_definition.specs.Declare.{variable_meaning, local_meaning, with_variable_type, with_variables, procedure_meaning, with_procedure_type}
use Rattle.check_block.specs.declared.heading.Standing.{Standing}
use Rattle.check_block.specs.declared.heading.Standing.TheVariants.{Free, Awaited, Taken}
use Rattle.check_block.specs.Headings.{standing_of, name_standing, nested_meaning, set_heading, module_procedure, headed_as, with_heading}
use Rattle.check_block.specs.Naming.{marked_decl, all_marked}
use Rattle.check_block.specs.Declarations.{with_locals, Course, decl_layer, with_decl, declared_block}
use Rattle.law_folds.proofs.Orders.{IsOrder, steps}
use Rattle.law_folds.proofs.MarkSteps.{KeepsMarks, decls_marks}
use Rattle.law_folds.proofs.NameSteps.{KeepsNames, Varies, AtLevel, constants_keep, types_keep, variables_keep, locals_keep, varied_level, level_names}

-- ---- what stands under the name of a heading

pub free_standing : {T : Type 0} (o : Option (Known T)) → name_standing o ≡ Free → is_free o ≡ true
free_standing None e = refl
free_standing (Some Later) e = refl
free_standing (Some Ahead) e = refl
free_standing (Some Begun) e = absurd cc
free_standing (Some (Headed m)) e = absurd cc
free_standing (Some (Declared Here (Ok m))) e = by_meaning m e
  where
    by_meaning : (m : Meaning) → standing_of m ≡ Free → false ≡ true
    by_meaning (meaning.Procedure p) e = absurd cc
    by_meaning (meaning.Constant v) e = absurd cc
    by_meaning (meaning.Type t n) e = absurd cc
    by_meaning (meaning.Variable v) e = absurd cc
    by_meaning (meaning.Local v) e = absurd cc
    by_meaning (meaning.Field f) e = absurd cc
    by_meaning (meaning.LocalProcedure p) e = absurd cc
    by_meaning meaning.Ahead e = absurd cc
    by_meaning (meaning.Standard f) e = absurd cc
    by_meaning (meaning.Module k) e = absurd cc
free_standing (Some (Declared Here (Err m))) e = absurd cc
free_standing (Some (Declared (Module n) m)) e = absurd cc
free_standing (Some (Declared (Export n) m)) e = absurd cc

pub headed_level : {T : Type 0} (s : Scope T) (t : Result TypeNo T) → (with_procedure_type s t).level ≡ s.level
headed_level s (Ok t) = refl
headed_level s (Err e) = refl

-- ---- headings: a procedure of a module, one in a procedure, and one that awaits its heading

abbrev pub ProceduresEnter : (g : Gathers) → (Scope g.Reported → Scope g.Reported → Type 0) → Type 0
ProceduresEnter g R =
    (s : Scope g.Reported) (name : List ℕ) (t : Result TypeNo g.Reported) → (s.level == 0) ≡ true
    → let p : Scope g.Reported = with_procedure_type s t in is_free (find_name name p.own) ≡ true
    → R s (with_known name (Headed (heading_means false (procedure_meaning s.types.home (length s.procedures) t))) p)

abbrev pub NestedEnter : (g : Gathers) → (Scope g.Reported → Scope g.Reported → Type 0) → Type 0
NestedEnter g R =
    (s : Scope g.Reported) (name : List ℕ) (n : ℕ) (t : Result TypeNo g.Reported) → (s.level == 0) ≡ false
    → is_free (find_name name s.own) ≡ true
    → R s (with_known name (Headed (heading_means true (nested_meaning s.level n t))) s)

abbrev pub AwaitedEnter : (g : Gathers) → (Scope g.Reported → Scope g.Reported → Type 0) → Type 0
AwaitedEnter g R =
    (s : Scope g.Reported) (name : List ℕ) (p : Procedure) → name_standing (find_name name s.own) ≡ Awaited p
    → R s (with_known name (Headed (Ok (meaning.Procedure p))) s)

abbrev HeadingsMade : (g : Gathers) → (Scope g.Reported → Scope g.Reported → Type 0) → Type 0
HeadingsMade g R = (s : Scope g.Reported) (h : Heading) → R s (with_made s (heading_of g s h)).0

made_own : {T : Type 0} (s : Scope T) (r : Result Made T) → (with_made s r).0.own ≡ s.own
made_own s (Ok m) = refl
made_own s (Err e) = refl

headed_own : {T : Type 0} (s : Scope T) (t : Result TypeNo T) → (with_procedure_type s t).own ≡ s.own
headed_own s (Ok t) = refl
headed_own s (Err e) = refl

module _ (g : Gathers) {R : Scope g.Reported → Scope g.Reported → Type 0} (o : IsOrder R) (made : HeadingsMade g R)
    (procedure : ProceduresEnter g R) (nested : NestedEnter g R) (awaited : AwaitedEnter g R) where
  abbrev Frees : List ℕ → List (List ℕ × Known g.Reported) → Type 0
  Frees name es = is_free (find_name name es) ≡ true

  new_by : (b : Bool) (s : Scope g.Reported) (name : List ℕ) (n : ℕ) (t : Result TypeNo g.Reported) → (s.level == 0) ≡ b
      → Frees name s.own
      → R s (cond b (module_procedure s name t) (set_heading name (heading_means true (nested_meaning s.level n t)) s))
  new_by true s name n t l f = procedure s name t l (subst (λ es. Frees name es) (sym (headed_own s t)) f)
  new_by false s name n t l f = nested s name n t l f

  heading_by : (s : Scope g.Reported) (h : Heading) (n : ℕ) (p : Standing)
      → name_standing (find_name h.name.name s.own) ≡ p
      → R s (headed_as g s h n (heading_of g s h) p).0
  heading_by s h n Free e =
      let m : State TypeNo g.Reported = with_made s (heading_of g s h) in
      let f : Frees h.name.name s.own = free_standing (find_name h.name.name s.own) e in
      o.next s m.0 _ (made s h) (new_by (m.0.level == 0) m.0 h.name.name n m.1 refl
      (subst (λ es. Frees h.name.name es) (sym (made_own s (heading_of g s h))) f))
  heading_by s h n (Awaited p) e = awaited s h.name.name p e
  heading_by s h n Taken e = o.same s

  pub heading_keeps : (s : Scope g.Reported) (h : Heading) (n : ℕ) → R s (with_heading g s n h).0
  heading_keeps s h n = heading_by s h n (name_standing (find_name h.name.name s.own)) refl

-- ---- what each entry of a block keeps

pub record KeepsBlocks (g : Gathers) (R : Scope g.Reported → Scope g.Reported → Type 0) : Type 0 where
  pub marks : KeepsMarks R
  pub names : KeepsNames g R
  pub varied : Varies g R
  pub variable_ends : (s : Scope g.Reported) (name : List ℕ) (t : Result TypeNo g.Reported) → (s.level == 0) ≡ true
      → let v : Scope g.Reported = with_variable_type s t in is_begun (find_name name v.own) ≡ true
      → R s (with_known name (Declared Here (variable_meaning s.types.home (length s.variables) t)) v)
  pub local_ends : (s : Scope g.Reported) (name : List ℕ) (t : Result TypeNo g.Reported) → (s.level == 0) ≡ false
      → let v : Scope g.Reported = with_variable_type s t in is_begun (find_name name v.own) ≡ true
      → R s (with_known name (Declared Here (local_meaning s.level (length s.variables) t)) v)
  pub procedure : ProceduresEnter g R
  pub nested : NestedEnter g R
  pub awaited : AwaitedEnter g R

module _ (g : Gathers) {R : Scope g.Reported → Scope g.Reported → Type 0} (k : KeepsBlocks g R) where
  abbrev St : Type 0
  St = State (Unit {0}) g.Reported

  abbrev order : IsOrder R
  order = k.names.types.order

  -- ---- variables

  level_varied : (b : Bool) → Varies g (AtLevel b R)
  level_varied b s t = (varied_level s t, λ e. k.varied s t)

  variables_of : (b : Bool) (st : St) (vs : List Variables) → (st.0.level == 0) ≡ b
      → R st.0 (cond {A = St} b (fold (with_variables g) st vs) (fold (with_locals g) st vs)).0
  variables_of true st vs l =
      (variables_keep g (level_names g true k.names) (level_varied true)
      (λ s name t e. (varied_level s t, λ a. k.variable_ends s name t a e)) vs st).1 l
  variables_of false st vs l =
      (locals_keep g (level_names g false k.names) (level_varied false)
      (λ s name t e. (varied_level s t, λ a. k.local_ends s name t a e)) vs st).1 l

  -- ---- all declarations

  pub layer_keeps : {A B : Type 0} (ends : List ℕ) (c : Course g.Reported) (y : Decl-F A B)
      → R c.0 (decl_layer g ends c y).0
  layer_keeps ends c (decl.Constants cs) = constants_keep g k.names cs (c.0, c.1)
  layer_keeps ends c (decl.Types ts) = types_keep g k.names ts (c.0, c.1)
  layer_keeps ends c (decl.Variables vs) = variables_of (c.0.level == 0) (c.0, c.1) vs refl
  layer_keeps ends c (decl.Procedure h b) =
      heading_keeps g order k.names.types.headings k.procedure k.nested k.awaited c.0 h c.2

  pub decls_keep : (ends : List ℕ) (ds : List Decl) (c : Course g.Reported) → R c.0 (fold (with_decl g ends) c ds).0
  decls_keep ends =
      steps order (λ (c : Course g.Reported). c.0) (with_decl g ends) (λ c d. layer_keeps ends c (out-Decl d))

  pub block_keeps : (ends : List ℕ) (st : St) (first : ℕ) (ds : List Decl)
      → R st.0 (declared_block g ends st first ds).0
  block_keeps ends st first ds =
      let m : Scope g.Reported = (all_marked marked_decl st.0 ds).0 in
      order.next st.0 m _ (decls_marks k.marks ds (st.0, [])) (decls_keep ends ds (m, st.1, first))
