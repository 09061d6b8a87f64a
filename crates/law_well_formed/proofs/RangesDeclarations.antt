-- Declarations lead from scopes with ranges of the language to such scopes.
use Rattle.std.proofs.Common.{◌≡◌, ℕ, ◌==◌, Bool, true, false, cond, List, [], ◌∷◌, length, Result, Ok, Err}
use Rattle.std.specs.List.{fold, list_all}
use Rattle.m2_tree.specs.declared.name.Ident.{Ident}
use Rattle.m2_tree.specs.declared.decl.Constant.{Constant}
use Rattle.m2_tree.specs.declared.decl.TypeDecl.{TypeDecl}
use Rattle.m2_tree.specs.declared.decl.Variables.{Variables}
use Rattle.m2_tree.specs.declared.decl.Heading.{Heading}
use Rattle.m2_tree.specs.declared.decl.Def.{Def}
use Rattle.m2_tree.specs.declared.decl.Def.TheVariants as def
use Rattle.m2_tree.specs.declared.decl.Decl.{Decl-F}
use Rattle.m2_tree.specs.declared.decl.Decl.TheOpen as layer
use Rattle.typed_tree.specs.declared.types.TypeNo.{TypeNo}
use Rattle.typed_tree.specs.declared.meaning.LocalKind.TheVariants as kind
use Rattle.typed_tree.specs.declared.meaning.Meaning.{Meaning}
use Rattle.typed_tree.specs.declared.meaning.Meaning.TheVariants as meaning
use Rattle.typed_tree.specs.declared.meaning.Value.{Value}
use Rattle.typed_tree.specs.Names.{find_name}
use Rattle.check_scope.specs.Elaborated.{Gathers, beside, ◌▷◌}
use Rattle.check_scope.specs.Scopes.{State, begin_name}
use Rattle.check_scope.specs.declared.known.Known.TheVariants.{Begun, Headed}
use Rattle.check_scope.specs.declared.scope.Scope.{Scope}
use Rattle.check_scope.specs.Scopes.{heading_means}
use Rattle.check_const.specs.Parts.{constant}
use Rattle.check_expr.specs.Meanings.{part}
use Rattle.check_type_expr.specs.Headings.{heading_of, names_of}
use Rattle.check_type_expr.specs.Made.{nothing_of, type_of, with_made}
use Rattle.check_definition.specs.Declare.{nothing_reported, constant_meaning, with_constant, brings_with, type_meaning, with_type, begun_name, variable_meaning, local_meaning, with_variable_type, finished_variable, with_variables, procedure_meaning, with_procedure_type, declared_procedure, with_procedure, with_def}
use Rattle.check_block.specs.declared.heading.Standing.{Standing}
use Rattle.check_block.specs.declared.heading.Standing.TheVariants.{Free, Awaited, Taken}
use Rattle.check_block.specs.Headings.{name_standing, nested_meaning, module_procedure, set_heading, headed_as, with_heading}
use Rattle.check_block.specs.Declarations.{Course, finished_local, with_locals, decl_layer}
use Rattle.law_well_formed.specs.Formed.{Holds, fine, broken}
use Rattle.law_well_formed.proofs.Basics.{then_holds, heading_means_holds}
use Rattle.law_well_formed.specs.FormedRanges.{fits, fits_type, fits_constant, fits_type_decl, fits_variables, fits_def, fits_decl_layer, ScopeRanged, StateRanged, ConstantsAreRanged}
use Rattle.law_well_formed.proofs.RangesTypes.{both_left, both_right}
use Rattle.law_well_formed.proofs.RangesMade.{beside_then, const_holds, known_ranged, unless_ranged, finished_ranged, made_ranged, heading_ranged, type_of_ranged}

-- a meaning that is no constant
pub meant_holds : {A T : Type 0} {P : Meaning → Type 0} (f : A → Meaning) → ((x : A) → P (f x)) → (r : Result A T)
    → Holds P (r ▷ λ x. Ok (f x))
meant_holds f k (Ok x) = fine (f x) (k x)
meant_holds f k (Err e) = broken e

variable_type_ranged : {T : Type 0} (s : Scope T) (t : Result TypeNo T) → ScopeRanged s
    → ScopeRanged (with_variable_type s t)
variable_type_ranged s (Ok t) h = record {
  types = h.types;
  own = h.own;
  others = h.others;
  names = h.names;
  outer =
      h.outer;
  tables = h.tables;
}
variable_type_ranged s (Err e) h = h

procedure_type_ranged : {T : Type 0} (s : Scope T) (t : Result TypeNo T) → ScopeRanged s
    → ScopeRanged (with_procedure_type s t)
procedure_type_ranged s (Ok t) h = record {
  types = h.types;
  own = h.own;
  others = h.others;
  names = h.names;
  outer =
      h.outer;
  tables = h.tables;
}
procedure_type_ranged s (Err e) h = h

variables_ranged : {T : Type 0} (t : Result TypeNo T) (names : List Ident) (s : Scope T) → ScopeRanged s
    → ScopeRanged (fold (finished_variable t) s names)
variables_ranged t [] s h = h
variables_ranged t (x ∷ xs) s h =
    variables_ranged t xs (finished_variable t s x)
    (finished_ranged (with_variable_type s t) x (variable_meaning s.types.home (length s.variables) t)
    (variable_type_ranged s t h)
    (meant_holds (λ u. meaning.Variable (record { home = s.types.home; number = length s.variables; of = u })) (λ u. tt)
    t))

locals_ranged : {T : Type 0} (t : Result TypeNo T) (names : List Ident) (s : Scope T) → ScopeRanged s
    → ScopeRanged (fold (finished_local t) s names)
locals_ranged t [] s h = h
locals_ranged t (x ∷ xs) s h =
    locals_ranged t xs (finished_local t s x)
    (finished_ranged (with_variable_type s t) x (local_meaning s.level (length s.variables) t)
    (variable_type_ranged s t h)
    (meant_holds (λ u. meaning.Local (record
    { level = s.level; number = length s.variables; kind = kind.Variable; of = u })) (λ u. tt) t))

module _ (g : Gathers) where
  begun_ranged : (s : Scope g.Reported) (name : Ident) → ScopeRanged s → StateRanged (begin_name g s name)
  begun_ranged s name h = const_holds (unless_ranged g s name Begun h tt) (begin_name g s name).1

  begun_all : (names : List Ident) (st : State (Unit {0}) g.Reported) → StateRanged st
      → StateRanged (fold (begun_name g) st names)
  begun_all [] st p = p
  begun_all (x ∷ xs) st p = begun_all xs (begun_name g st x)
      (beside_then g (begin_name g st.0 x).1 p (λ h. begun_ranged st.0 x h))

  -- ---- headings

  nothing_holds : {P : Type 0} {t : Result TypeNo g.Reported} → Holds (λ x. P) t → Holds (λ x. P) (nothing_of t)
  nothing_holds p = then_holds p (λ x k. fine tt k)

  procedure_ranged : (st : State (Unit {0}) g.Reported) (h : Heading) → StateRanged st
      → StateRanged (with_procedure g st h)
  procedure_ranged st h p =
      let t : State TypeNo g.Reported = with_made st.0 (heading_of g st.0 h) in
      let d : State (Unit {0}) g.Reported = declared_procedure g t.0 h.name t.1 in
      beside_then g (beside g (names_of g h) (beside g (nothing_of t.1) d.1)) p (λ k.
      beside_then g (beside g (nothing_of t.1) d.1) (const_holds k (names_of g h)) (λ l.
      beside_then g d.1 (nothing_holds (made_ranged st.0 (heading_ranged g st.0 k h))) (λ q.
      const_holds
      (unless_ranged g (with_procedure_type t.0 t.1) h.name
      (Headed (heading_means false (procedure_meaning t.0.types.home (length t.0.procedures) t.1)))
      (procedure_type_ranged t.0 t.1 q)
      (heading_means_holds false (meant_holds (λ u. meaning.Procedure (record
      { home = t.0.types.home; number = length t.0.procedures; heading = u })) (λ u. tt) t.1)))
      d.1)))

  new_by : (b : Bool) (s : Scope g.Reported) (name : List ℕ) (n : ℕ) (t : Result TypeNo g.Reported) → ScopeRanged s
      → ScopeRanged (cond b (module_procedure s name t)
      (set_heading name (heading_means true (nested_meaning s.level n t)) s))
  new_by true s name n t h =
      known_ranged (with_procedure_type s t) name
      (Headed (heading_means false (procedure_meaning s.types.home (length s.procedures) t)))
      (procedure_type_ranged s t h)
      (heading_means_holds false (meant_holds
      (λ u. meaning.Procedure (record { home = s.types.home; number = length s.procedures; heading = u })) (λ u. tt)
      t))
  new_by false s name n t h = known_ranged s name (Headed (heading_means true (nested_meaning s.level n t))) h
      (heading_means_holds true (meant_holds
      (λ u. meaning.LocalProcedure (record { level = s.level; number = n; heading = u })) (λ u. tt) t))

  heading_by : (s : Scope g.Reported) (h : Heading) (n : ℕ) (o : Standing) → ScopeRanged s
      → StateRanged (headed_as g s h n (heading_of g s h) o)
  heading_by s h n Free k =
      let t : State TypeNo g.Reported = with_made s (heading_of g s h) in
      then_holds (made_ranged s (heading_ranged g s k h))
      (λ x q. fine tt (new_by (t.0.level == 0) t.0 h.name.name n t.1 q))
  heading_by s h n (Awaited p) k = const_holds
      (known_ranged s h.name.name (Headed (Ok (meaning.Procedure p))) k (fine (meaning.Procedure p) tt)) _
  heading_by s h n Taken k = const_holds k _

  with_heading_ranged : (s : Scope g.Reported) (h : Heading) (n : ℕ) → ScopeRanged s
      → StateRanged (with_heading g s n h)
  with_heading_ranged s h n k =
      let o : Standing = name_standing (find_name h.name.name s.own) in
      beside_then g (headed_as g s h n (heading_of g s h) o).1 (const_holds k (names_of g h))
      (λ l. heading_by s h n o l)

  module _ (known : ConstantsAreRanged g) where
    -- ---- constants, types and variables

    constant_ranged : (st : State (Unit {0}) g.Reported) (c : Constant) → fits c.value ≡ true → StateRanged st
        → StateRanged (with_constant g st c)
    constant_ranged st c e p =
        let b : State (Unit {0}) g.Reported = begin_name g st.0 c.name in
        let v : Result Value g.Reported = constant g b.0 (part g c.value) in
        beside_then g (beside g b.1 (nothing_reported v)) p (λ h.
        beside_then g (nothing_reported v) (begun_ranged st.0 c.name h) (λ k.
        const_holds (finished_ranged b.0 c.name (constant_meaning v) k
        (then_holds (known b.0 k c.value e) (λ x q. fine (meaning.Constant x) q))) (nothing_reported v)))

    constants_ranged : (cs : List Constant) (st : State (Unit {0}) g.Reported) → list_all fits_constant cs ≡ true
        → StateRanged st → StateRanged (fold (with_constant g) st cs)
    constants_ranged [] st e p = p
    constants_ranged (c ∷ cs) st e p = constants_ranged cs (with_constant g st c)
        (both_right (fits c.value) (list_all fits_constant cs) e)
        (constant_ranged st c (both_left (fits c.value) (list_all fits_constant cs) e) p)

    type_ranged : (st : State (Unit {0}) g.Reported) (d : TypeDecl) → fits_type d.of ≡ true → StateRanged st
        → StateRanged (with_type g st d)
    type_ranged st d e p =
        let b : State (Unit {0}) g.Reported = begin_name g st.0 d.name in
        let t : State TypeNo g.Reported = type_of g d.of b.0 in
        beside_then g (beside g b.1 (nothing_of t.1)) p (λ h.
        beside_then g (nothing_of t.1) (begun_ranged st.0 d.name h) (λ k.
        then_holds (type_of_ranged g known d.of e b.0 k)
        (λ x q. fine tt (finished_ranged t.0 d.name (type_meaning t.1 (brings_with d.of)) q
        (meant_holds (λ u. meaning.Type u (brings_with d.of)) (λ u. tt) t.1)))))

    types_ranged : (ts : List TypeDecl) (st : State (Unit {0}) g.Reported) → list_all fits_type_decl ts ≡ true
        → StateRanged st → StateRanged (fold (with_type g) st ts)
    types_ranged [] st e p = p
    types_ranged (t ∷ ts) st e p = types_ranged ts (with_type g st t)
        (both_right (fits_type t.of) (list_all fits_type_decl ts) e)
        (type_ranged st t (both_left (fits_type t.of) (list_all fits_type_decl ts) e) p)

    variable_list : (st : State (Unit {0}) g.Reported) (v : Variables) → fits_type v.of ≡ true → StateRanged st
        → StateRanged (with_variables g st v)
    variable_list st v e p =
        let b : State (Unit {0}) g.Reported = fold (begun_name g) st v.names in
        let t : State TypeNo g.Reported = type_of g v.of b.0 in
        beside_then g (nothing_of t.1) (begun_all v.names st p)
        (λ k. then_holds (type_of_ranged g known v.of e b.0 k)
        (λ x q. fine tt (variables_ranged t.1 v.names t.0 q)))

    variable_lists : (vs : List Variables) (st : State (Unit {0}) g.Reported) → list_all fits_variables vs ≡ true
        → StateRanged st → StateRanged (fold (with_variables g) st vs)
    variable_lists [] st e p = p
    variable_lists (v ∷ vs) st e p = variable_lists vs (with_variables g st v)
        (both_right (fits_type v.of) (list_all fits_variables vs) e)
        (variable_list st v (both_left (fits_type v.of) (list_all fits_variables vs) e) p)

    local_list : (st : State (Unit {0}) g.Reported) (v : Variables) → fits_type v.of ≡ true → StateRanged st
        → StateRanged (with_locals g st v)
    local_list st v e p =
        let b : State (Unit {0}) g.Reported = fold (begun_name g) st v.names in
        let t : State TypeNo g.Reported = type_of g v.of b.0 in
        beside_then g (nothing_of t.1) (begun_all v.names st p)
        (λ k. then_holds (type_of_ranged g known v.of e b.0 k) (λ x q. fine tt (locals_ranged t.1 v.names t.0 q)))

    local_lists : (vs : List Variables) (st : State (Unit {0}) g.Reported) → list_all fits_variables vs ≡ true
        → StateRanged st → StateRanged (fold (with_locals g) st vs)
    local_lists [] st e p = p
    local_lists (v ∷ vs) st e p = local_lists vs (with_locals g st v)
        (both_right (fits_type v.of) (list_all fits_variables vs) e)
        (local_list st v (both_left (fits_type v.of) (list_all fits_variables vs) e) p)

    variables_by : (b : Bool) (st : State (Unit {0}) g.Reported) (vs : List Variables)
        → list_all fits_variables vs ≡ true → StateRanged st
        → StateRanged (cond {A = State (Unit {0}) g.Reported} b (fold (with_variables g) st vs)
        (fold (with_locals g) st vs))
    variables_by true st vs e p = variable_lists vs st e p
    variables_by false st vs e p = local_lists vs st e p

    -- ---- a declaration of a definition, and one of a block

    pub def_ranged : (st : State (Unit {0}) g.Reported) → StateRanged st → (d : Def) → fits_def d ≡ true
        → StateRanged (with_def g st d)
    def_ranged st p (def.Constants cs) e = constants_ranged cs st e p
    def_ranged st p (def.Types ts) e = types_ranged ts st e p
    def_ranged st p (def.Variables vs) e = variable_lists vs st e p
    def_ranged st p (def.Procedure h) e = procedure_ranged st h p

    pub decl_ranged : {A B : Type 0} (ends : List ℕ) (c : Course g.Reported) → StateRanged (c.0, c.1) → (y : Decl-F A B)
        → fits_decl_layer y ≡ true → StateRanged (let n = decl_layer g ends c y in (n.0, n.1))
    decl_ranged ends c p (layer.Constants cs) e = constants_ranged cs (c.0, c.1) e p
    decl_ranged ends c p (layer.Types ts) e = types_ranged ts (c.0, c.1) e p
    decl_ranged ends c p (layer.Variables vs) e = variables_by (c.0.level == 0) (c.0, c.1) vs e p
    decl_ranged ends c p (layer.Procedure h b) e =
        beside_then g (with_heading g c.0 c.2 h).1 p (λ k. with_heading_ranged c.0 h c.2 k)
