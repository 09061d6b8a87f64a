-- Declarations lead from scopes with types in order to such scopes.
use Rattle.std.proofs.Common.{◌≡◌, ℕ, ◌==◌, Bool, true, false, cond, List, [], ◌∷◌, length, Option, Some, None, Result, Ok, Err, refl, subst}
use Rattle.std.specs.List.{fold}
use Rattle.m2_tree.specs.declared.name.Ident.{Ident}
use Rattle.m2_tree.specs.declared.decl.Constant.{Constant}
use Rattle.m2_tree.specs.declared.decl.TypeDecl.{TypeDecl}
use Rattle.m2_tree.specs.declared.decl.Variables.{Variables}
use Rattle.m2_tree.specs.declared.decl.Heading.{Heading}
use Rattle.m2_tree.specs.declared.decl.Def.{Def}
use Rattle.m2_tree.specs.declared.decl.Def.TheVariants as def
use Rattle.m2_tree.specs.declared.decl.Decl.{Decl-F}
use Rattle.m2_tree.specs.declared.decl.Decl.TheOpen as layer
use Rattle.typed_tree.specs.declared.types.TypeNo.{TypeNo}
use Rattle.typed_tree.specs.declared.known_types.Types.{Types}
use Rattle.typed_tree.specs.declared.meaning.Procedure.{Procedure}
use Rattle.typed_tree.specs.declared.meaning.Meaning.{Meaning}
use Rattle.typed_tree.specs.declared.meaning.Meaning.TheVariants as meaning
use Rattle.typed_tree.specs.declared.meaning.Value.{Value}
use Rattle.typed_tree.specs.Names.{find_name}
use Rattle.check_scope.specs.Elaborated.{Gathers, beside}
use Rattle.check_scope.specs.Scopes.{State, begin_name, finish_name}
use Rattle.check_scope.specs.declared.known.Known.{Known}
use Rattle.check_scope.specs.declared.known.Known.TheVariants.{Later, Ahead, Begun, Headed, Declared}
use Rattle.check_scope.specs.declared.known.Origin.{Origin}
use Rattle.check_scope.specs.declared.known.Origin.TheVariants.{Here, Module, Export}
use Rattle.check_scope.specs.declared.scope.Scope.{Scope}
use Rattle.check_scope.specs.Scopes.{heading_means}
use Rattle.check_const.specs.Parts.{constant}
use Rattle.check_expr.specs.Meanings.{part}
use Rattle.check_type_expr.specs.Headings.{heading_of, names_of}
use Rattle.check_type_expr.specs.Made.{nothing_of, type_of, with_made}
use Rattle.check_definition.specs.Declare.{nothing_reported, constant_meaning, with_constant, brings_with, type_meaning, with_type, begun_name, variable_meaning, local_meaning, with_variable_type, finished_variable, with_variables, procedure_meaning, with_procedure_type, declared_procedure, with_procedure, with_def}
use Rattle.check_block.specs.declared.heading.Standing.{Standing}
use Rattle.check_block.specs.declared.heading.Standing.TheVariants.{Free, Awaited, Taken}
use Rattle.check_block.specs.Headings.{standing_of, standing_elaborated, standing_from, name_standing, nested_meaning, module_procedure, set_heading, headed_as, with_heading}
use Rattle.check_block.specs.Declarations.{Course, finished_local, with_locals, decl_layer}
use Rattle.law_well_formed.specs.Formed.{Holds, fine, broken}
use Rattle.law_well_formed.proofs.Basics.{then_holds, holds_weaker, any_holds, heading_means_holds}
use Rattle.law_well_formed.proofs.RangesMade.{beside_then, const_holds}
use Rattle.law_well_formed.specs.Ordered.{is_known}
use Rattle.law_well_formed.specs.FormedOrder.{MeaningOrdered, ScopeOrdered, StateOrdered, MadeOrdered}
use Rattle.law_well_formed.proofs.OrderTypes.{known_more}
use Rattle.law_well_formed.proofs.Named.{FoundOrdered, name_found, known_ordered, unless_ordered, finished_as, finished_ordered}
use Rattle.law_well_formed.proofs.OrderMade.{made_ordered, heading_ordered, type_of_ordered}

-- ---- a procedure that is awaited has a heading that is known

awaited_as : (types : Types) (m : Meaning) (p : Procedure) → MeaningOrdered types m → standing_of m ≡ Awaited p
    → is_known types p.heading ≡ true
awaited_as types (meaning.Procedure q) p h e = let same : q ≡ p = cc in
    subst (λ (x : Procedure). is_known types x.heading ≡ true) same h
awaited_as types (meaning.Constant v) p h e = absurd cc
awaited_as types (meaning.Type t n) p h e = absurd cc
awaited_as types (meaning.Variable v) p h e = absurd cc
awaited_as types (meaning.Local v) p h e = absurd cc
awaited_as types (meaning.Field f) p h e = absurd cc
awaited_as types (meaning.LocalProcedure q) p h e = absurd cc
awaited_as types meaning.Ahead p h e = absurd cc
awaited_as types (meaning.Standard f) p h e = absurd cc
awaited_as types (meaning.Module k) p h e = absurd cc

awaited_elaborated : {T : Type 0} (types : Types) (r : Result Meaning T) (p : Procedure)
    → Holds (MeaningOrdered types) r → standing_elaborated r ≡ Awaited p → is_known types p.heading ≡ true
awaited_elaborated types _ p (fine m h) e = awaited_as types m p h e
awaited_elaborated types _ p (broken x) e = absurd cc

awaited_from : {T : Type 0} (types : Types) (o : Origin) (r : Result Meaning T) (p : Procedure)
    → Holds (MeaningOrdered types) r → standing_from o r ≡ Awaited p → is_known types p.heading ≡ true
awaited_from types Here r p h e = awaited_elaborated types r p h e
awaited_from types (Module k) r p h e = absurd cc
awaited_from types (Export k) r p h e = absurd cc

awaited_known : {T : Type 0} (types : Types) (o : Option (Known T)) (p : Procedure) → FoundOrdered types o
    → name_standing o ≡ Awaited p → is_known types p.heading ≡ true
awaited_known types None p h e = absurd cc
awaited_known types (Some Later) p h e = absurd cc
awaited_known types (Some Ahead) p h e = absurd cc
awaited_known types (Some Begun) p h e = absurd cc
awaited_known types (Some (Headed r)) p h e = absurd cc
awaited_known types (Some (Declared o r)) p h e = awaited_from types o r p h e

-- ---- declarations

module _ (base : Types) where
  -- a type is known in a scope
  abbrev pub TypeIn : {T : Type 0} → Result TypeNo T → Scope T → Type 0
  TypeIn t s = ScopeOrdered base s × Holds (λ u. is_known s.types u ≡ true) t

  variable_known : {T : Type 0} (s : Scope T) (t : Result TypeNo T) → Holds (λ u. is_known s.types u ≡ true) t
      → ScopeOrdered base s → ScopeOrdered base (with_variable_type s t)
  variable_known s _ (fine t p) h =
      record {
        started = h.started;
        types = h.types;
        once = h.once;
        names = h.names;
        outer = h.outer;
        tables = h.tables;
        variables = known_more s.types s.variables t h.variables p;
      }
  variable_known s _ (broken e) h = h

  variable_stays : {T : Type 0} (s : Scope T) (t : Result TypeNo T) → Holds (λ u. is_known s.types u ≡ true) t
      → Holds (λ u. is_known (with_variable_type s t).types u ≡ true) t
  variable_stays s _ (fine t p) = fine t p
  variable_stays s _ (broken e) = broken e

  variable_type_in : {T : Type 0} (s : Scope T) (t : Result TypeNo T) → TypeIn t s → TypeIn t (with_variable_type s t)
  variable_type_in s t h = (variable_known s t h.1 h.0, variable_stays s t h.1)

  procedure_type_in : {T : Type 0} (s : Scope T) (t : Result TypeNo T) → TypeIn t s → TypeIn t (with_procedure_type s t)
  procedure_type_in s (Ok t) h = (
    record {
      started = h.0.started;
      types = h.0.types;
      once = h.0.once;
      names = h.0.names;
      outer = h.0.outer;
      tables = h.0.tables;
      variables = h.0.variables;
    },
    h.1,
  )
  procedure_type_in s (Err e) h = h

  variable_in : {T : Type 0} (s : Scope T) (name : Ident) (t : Result TypeNo T) (r : Result Meaning T) → TypeIn t s
      → Holds (MeaningOrdered s.types) r → TypeIn t (finish_name s name r)
  variable_in s name t r h p = finished_as (TypeIn t) s name r h
      (known_ordered base s name.name (Declared Here r) h.0 p, h.1)

  variables_ordered : {T : Type 0} (t : Result TypeNo T) (names : List Ident) (s : Scope T) → TypeIn t s
      → TypeIn t (fold (finished_variable t) s names)
  variables_ordered t [] s h = h
  variables_ordered t (x ∷ xs) s h =
      let k : TypeIn t (with_variable_type s t) = variable_type_in s t h in
      variables_ordered t xs (finished_variable t s x)
      (variable_in (with_variable_type s t) x t (variable_meaning s.types.home (length s.variables) t) k
      (then_holds k.1 (λ u q. fine _ q)))

  locals_ordered : {T : Type 0} (t : Result TypeNo T) (names : List Ident) (s : Scope T) → TypeIn t s
      → TypeIn t (fold (finished_local t) s names)
  locals_ordered t [] s h = h
  locals_ordered t (x ∷ xs) s h =
      let k : TypeIn t (with_variable_type s t) = variable_type_in s t h in
      locals_ordered t xs (finished_local t s x)
      (variable_in (with_variable_type s t) x t (local_meaning s.level (length s.variables) t) k
      (then_holds k.1 (λ u q. fine _ q)))

  type_in : {T : Type 0} (st : State TypeNo T) → MadeOrdered base st → Holds (λ x. TypeIn st.1 st.0) st.1
  type_in st p = holds_weaker (λ x q. (q.0, holds_weaker (λ u k. k.1) p)) p

  module _ (g : Gathers) where
    begun_ordered : (s : Scope g.Reported) (name : Ident) → ScopeOrdered base s
        → StateOrdered base (begin_name g s name)
    begun_ordered s name h = const_holds (unless_ordered g base s name Begun h tt) (begin_name g s name).1

    begun_all : (names : List Ident) (st : State (Unit {0}) g.Reported) → StateOrdered base st
        → StateOrdered base (fold (begun_name g) st names)
    begun_all [] st p = p
    begun_all (x ∷ xs) st p = begun_all xs (begun_name g st x)
        (beside_then g (begin_name g st.0 x).1 p (λ h. begun_ordered st.0 x h))

    -- ---- headings

    nothing_holds : {P : Type 0} {t : Result TypeNo g.Reported} → Holds (λ x. P) t → Holds (λ x. P) (nothing_of t)
    nothing_holds p = then_holds p (λ x k. fine tt k)

    heading_in : (s : Scope g.Reported) (h : Heading) → ScopeOrdered base s
        → Holds (λ x. TypeIn (with_made s (heading_of g s h)).1 (with_made s (heading_of g s h)).0)
        (with_made s (heading_of g s h)).1
    heading_in s h k = type_in (with_made s (heading_of g s h)) (made_ordered base s (heading_ordered g base s k h))

    procedure_ordered : (st : State (Unit {0}) g.Reported) (h : Heading) → StateOrdered base st
        → StateOrdered base (with_procedure g st h)
    procedure_ordered st h p =
        let t : State TypeNo g.Reported = with_made st.0 (heading_of g st.0 h) in
        let d : State (Unit {0}) g.Reported = declared_procedure g t.0 h.name t.1 in
        beside_then g (beside g (names_of g h) (beside g (nothing_of t.1) d.1)) p (λ k.
        beside_then g (beside g (nothing_of t.1) d.1) (const_holds k (names_of g h)) (λ l.
        beside_then g d.1 (nothing_holds (heading_in st.0 h k)) (λ q.
        let r : TypeIn t.1 (with_procedure_type t.0 t.1) = procedure_type_in t.0 t.1 q in
        const_holds (unless_ordered g base (with_procedure_type t.0 t.1) h.name
        (Headed (heading_means false (procedure_meaning t.0.types.home (length t.0.procedures) t.1))) r.0
        (heading_means_holds false (then_holds r.1 (λ u z. fine _ z)))) d.1)))

    new_by : (b : Bool) (s : Scope g.Reported) (name : List ℕ) (n : ℕ) (t : Result TypeNo g.Reported) → TypeIn t s
        → ScopeOrdered base (cond b (module_procedure s name t)
        (set_heading name (heading_means true (nested_meaning s.level n t)) s))
    new_by true s name n t h =
        let r : TypeIn t (with_procedure_type s t) = procedure_type_in s t h in
        known_ordered base (with_procedure_type s t) name
        (Headed (heading_means false (procedure_meaning s.types.home (length s.procedures) t))) r.0
        (heading_means_holds false (then_holds r.1 (λ u z. fine _ z)))
    new_by false s name n t h = known_ordered base s name (Headed (heading_means true (nested_meaning s.level n t))) h.0
        (heading_means_holds true (then_holds h.1 (λ u z. fine _ z)))

    heading_by : (s : Scope g.Reported) (h : Heading) (n : ℕ) (o : Standing)
        → name_standing (find_name h.name.name s.own) ≡ o → ScopeOrdered base s
        → StateOrdered base (headed_as g s h n (heading_of g s h) o)
    heading_by s h n Free e k =
        let t : State TypeNo g.Reported = with_made s (heading_of g s h) in
        then_holds (heading_in s h k) (λ x q. fine tt (new_by (t.0.level == 0) t.0 h.name.name n t.1 q))
    heading_by s h n (Awaited p) e k =
        const_holds (known_ordered base s h.name.name (Headed (Ok (meaning.Procedure p))) k
        (fine (meaning.Procedure p) (awaited_known s.types (find_name h.name.name s.own) p
        (name_found s.types h.name.name s.own k.names) e))) _
    heading_by s h n Taken e k = const_holds k _

    with_heading_ordered : (s : Scope g.Reported) (h : Heading) (n : ℕ) → ScopeOrdered base s
        → StateOrdered base (with_heading g s n h)
    with_heading_ordered s h n k =
        let o : Standing = name_standing (find_name h.name.name s.own) in
        beside_then g (headed_as g s h n (heading_of g s h) o).1 (const_holds k (names_of g h))
        (λ l. heading_by s h n o refl l)

    -- ---- constants, types and variables

    constant_ordered : (st : State (Unit {0}) g.Reported) (c : Constant) → StateOrdered base st
        → StateOrdered base (with_constant g st c)
    constant_ordered st c p =
        let b : State (Unit {0}) g.Reported = begin_name g st.0 c.name in
        let v : Result Value g.Reported = constant g b.0 (part g c.value) in
        beside_then g (beside g b.1 (nothing_reported v)) p (λ h.
        beside_then g (nothing_reported v) (begun_ordered st.0 c.name h) (λ k.
        const_holds (finished_ordered base b.0 c.name (constant_meaning v) k
        (then_holds (any_holds v) (λ x q. fine (meaning.Constant x) tt))) (nothing_reported v)))

    constants_ordered : (cs : List Constant) (st : State (Unit {0}) g.Reported) → StateOrdered base st
        → StateOrdered base (fold (with_constant g) st cs)
    constants_ordered [] st p = p
    constants_ordered (c ∷ cs) st p = constants_ordered cs (with_constant g st c) (constant_ordered st c p)

    type_ordered : (st : State (Unit {0}) g.Reported) (d : TypeDecl) → StateOrdered base st
        → StateOrdered base (with_type g st d)
    type_ordered st d p =
        let b : State (Unit {0}) g.Reported = begin_name g st.0 d.name in
        let t : State TypeNo g.Reported = type_of g d.of b.0 in
        beside_then g (beside g b.1 (nothing_of t.1)) p (λ h.
        beside_then g (nothing_of t.1) (begun_ordered st.0 d.name h) (λ k.
        then_holds (type_in t (type_of_ordered g d.of base b.0 k))
        (λ x q. fine tt (finished_ordered base t.0 d.name (type_meaning t.1 (brings_with d.of)) q.0
        (then_holds q.1 (λ u z. fine _ z))))))

    types_ordered : (ts : List TypeDecl) (st : State (Unit {0}) g.Reported) → StateOrdered base st
        → StateOrdered base (fold (with_type g) st ts)
    types_ordered [] st p = p
    types_ordered (t ∷ ts) st p = types_ordered ts (with_type g st t) (type_ordered st t p)

    variable_list : (st : State (Unit {0}) g.Reported) (v : Variables) → StateOrdered base st
        → StateOrdered base (with_variables g st v)
    variable_list st v p =
        let b : State (Unit {0}) g.Reported = fold (begun_name g) st v.names in
        let t : State TypeNo g.Reported = type_of g v.of b.0 in
        beside_then g (nothing_of t.1) (begun_all v.names st p)
        (λ k. then_holds (type_in t (type_of_ordered g v.of base b.0 k))
        (λ x q. fine tt (variables_ordered t.1 v.names t.0 q).0))

    variable_lists : (vs : List Variables) (st : State (Unit {0}) g.Reported) → StateOrdered base st
        → StateOrdered base (fold (with_variables g) st vs)
    variable_lists [] st p = p
    variable_lists (v ∷ vs) st p = variable_lists vs (with_variables g st v) (variable_list st v p)

    local_list : (st : State (Unit {0}) g.Reported) (v : Variables) → StateOrdered base st
        → StateOrdered base (with_locals g st v)
    local_list st v p =
        let b : State (Unit {0}) g.Reported = fold (begun_name g) st v.names in
        let t : State TypeNo g.Reported = type_of g v.of b.0 in
        beside_then g (nothing_of t.1) (begun_all v.names st p)
        (λ k. then_holds (type_in t (type_of_ordered g v.of base b.0 k))
        (λ x q. fine tt (locals_ordered t.1 v.names t.0 q).0))

    local_lists : (vs : List Variables) (st : State (Unit {0}) g.Reported) → StateOrdered base st
        → StateOrdered base (fold (with_locals g) st vs)
    local_lists [] st p = p
    local_lists (v ∷ vs) st p = local_lists vs (with_locals g st v) (local_list st v p)

    variables_by : (b : Bool) (st : State (Unit {0}) g.Reported) (vs : List Variables) → StateOrdered base st
        → StateOrdered base (cond {A = State (Unit {0}) g.Reported} b (fold (with_variables g) st vs)
        (fold (with_locals g) st vs))
    variables_by true st vs p = variable_lists vs st p
    variables_by false st vs p = local_lists vs st p

    -- ---- a declaration of a definition, and one of a block

    pub def_ordered : (st : State (Unit {0}) g.Reported) → StateOrdered base st → (d : Def)
        → StateOrdered base (with_def g st d)
    def_ordered st p (def.Constants cs) = constants_ordered cs st p
    def_ordered st p (def.Types ts) = types_ordered ts st p
    def_ordered st p (def.Variables vs) = variable_lists vs st p
    def_ordered st p (def.Procedure h) = procedure_ordered st h p

    pub decl_ordered : {A B : Type 0} (ends : List ℕ) (c : Course g.Reported) → StateOrdered base (c.0, c.1)
        → (y : Decl-F A B) → StateOrdered base (let n = decl_layer g ends c y in (n.0, n.1))
    decl_ordered ends c p (layer.Constants cs) = constants_ordered cs (c.0, c.1) p
    decl_ordered ends c p (layer.Types ts) = types_ordered ts (c.0, c.1) p
    decl_ordered ends c p (layer.Variables vs) = variables_by (c.0.level == 0) (c.0, c.1) vs p
    decl_ordered ends c p (layer.Procedure h b) =
        beside_then g (with_heading g c.0 c.2 h).1 p (λ k. with_heading_ordered c.0 h c.2 k)
