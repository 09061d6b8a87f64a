-- What declarations do to a scope: they enter names that are free, and finish names that were begun.
use Rattle.std.proofs.Common.{◌≡◌, ℕ, true, List, length, Option, Some, None, Result, Ok, Err, ap}
use Rattle.std.specs.List.{fold}
use Rattle.m2_tree.specs.declared.name.Ident.{Ident}
use Rattle.m2_tree.specs.declared.decl.Constant.{Constant}
use Rattle.m2_tree.specs.declared.decl.TypeDecl.{TypeDecl}
use Rattle.m2_tree.specs.declared.decl.Variables.{Variables}
use Rattle.m2_tree.specs.declared.decl.Heading.{Heading}
use Rattle.m2_tree.specs.declared.decl.Decl.{Decl}
use Rattle.m2_tree.specs.declared.decl.TypeExpr.{TypeExpr}
use Rattle.typed_tree.specs.declared.types.TypeNo.{TypeNo}
use Rattle.typed_tree.specs.declared.shape.Made.{Made}
use Rattle.typed_tree.specs.declared.meaning.Meaning.{Meaning}
use Rattle.typed_tree.specs.declared.meaning.Meaning.TheVariants as meaning
use Rattle.typed_tree.specs.declared.meaning.LocalKind.TheVariants as kind
use Rattle.typed_tree.specs.Names.{find_name}
use Rattle.check_scope.specs.Elaborated.{Gathers, ◌▷◌}
use Rattle.check_scope.specs.Scopes.{State, with_known, begin_name}
use Rattle.check_scope.specs.declared.known.Known.{Known}
use Rattle.check_scope.specs.declared.known.Known.TheVariants.{Later, Ahead, Begun, Headed, Declared}
use Rattle.check_scope.specs.declared.scope.Scope.{Scope}
use Rattle.check_const.specs.Parts.{constant}
use Rattle.check_expr.specs.Meanings.{part}
use Rattle.check_type_expr.specs.Made.{with_shape, enumeration_constant, type_of}
use Rattle.check_definition.specs.Declare.{with_constant, with_type, begun_name, with_variable_type, with_procedure_type}
use Rattle.check_block.specs.declared.heading.Standing.TheVariants.{Awaited}
use Rattle.check_block.specs.Headings.{name_standing, standing_of, with_heading}
use Rattle.check_block.specs.Naming.{marked_decl, with_marks}
use Rattle.check_block.specs.Declarations.{with_variables_of}
use Rattle.check_scope.specs.declared.known.Origin.TheVariants.{Here, Module, Export}
use Rattle.check_scope.specs.Scopes.{is_free, is_begun}
use Rattle.check_scope.specs.declared.meaningless.Meaningless.{Meaningless}
use Rattle.typed_tree.specs.declared.meaning.Procedure.{Procedure as ModuleProcedure}
use Rattle.law_folds.proofs.Orders.{fact, steps}
use Rattle.law_folds.proofs.MarkSteps.{KeepsMarks}
use Rattle.law_folds.proofs.MarkSteps as all_marks
use Rattle.law_folds.proofs.TypeSteps.{unless_keeps, KeepsTypes, by_shapes}
use Rattle.law_folds.proofs.NameSteps.{KeepsNames, constants_keep, types_keep, VariablesEnd, LocalsEnd, variables_of_keep}
use Rattle.law_folds.proofs.BlockSteps.{heading_keeps}

-- ---- what stands under the name of a heading

pub waiting : {T : Type 0} (o : Option (Known T)) (p : ModuleProcedure) → name_standing o ≡ Awaited p
    → o ≡ Some (Declared Here (Ok (meaning.Procedure p)))
waiting None p e = absurd cc
waiting (Some Later) p e = absurd cc
waiting (Some Ahead) p e = absurd cc
waiting (Some Begun) p e = absurd cc
waiting (Some (Headed m)) p e = absurd cc
waiting {T = T} (Some (Declared Here (Ok m))) p e = by_meaning m e
  where
    by_meaning : (m : Meaning) → standing_of m ≡ Awaited p
        → ◌≡◌ {A = Option (Known T)} (Some (Declared Here (Ok m))) (Some (Declared Here (Ok (meaning.Procedure p))))
    by_meaning (meaning.Procedure q) e = let w : q ≡ p = cc e in
        ap (λ (z : ModuleProcedure). Some (Declared Here (Ok (meaning.Procedure z)))) w
    by_meaning (meaning.Constant v) e = absurd cc
    by_meaning (meaning.Type t n) e = absurd cc
    by_meaning (meaning.Variable v) e = absurd cc
    by_meaning (meaning.Local v) e = absurd cc
    by_meaning (meaning.Field f) e = absurd cc
    by_meaning (meaning.LocalProcedure q) e = absurd cc
    by_meaning meaning.Ahead e = absurd cc
    by_meaning (meaning.Standard f) e = absurd cc
    by_meaning (meaning.Module k) e = absurd cc
waiting (Some (Declared Here (Err m))) p e = absurd cc
waiting (Some (Declared (Module n) m)) p e = absurd cc
waiting (Some (Declared (Export n) m)) p e = absurd cc

-- ---- what is entered

-- No declaration enters a procedure that awaits its heading.
pub data IsEntered {T : Type 0} : Known T → Type 0 where
  later_is : IsEntered Later
  ahead_is : IsEntered Ahead
  begun_is : IsEntered Begun
  headed_is : (r : Result Meaning (Meaningless T)) → IsEntered (Headed r)
  declared_is : (r : Result Meaning T) → ((p : ModuleProcedure) → r ≡ Ok (meaning.Procedure p) → ⊥)
      → IsEntered (Declared Here r)

no_procedure : {A T : Type 0} (r : Result A T) (f : A → Meaning)
    → ((x : A) (p : ModuleProcedure) → f x ≡ meaning.Procedure p → ⊥) → (p : ModuleProcedure)
    → (r ▷ λ x. Ok (f x)) ≡ Ok (meaning.Procedure p) → ⊥
no_procedure (Ok x) f n p e = n x p (cc e)
no_procedure (Err q) f n p e = absurd cc

-- ---- a fact that stays while names that are free are entered

module _ (g : Gathers) (P : Scope g.Reported → Type 0)
    (frees : (s : Scope g.Reported) (name : List ℕ) (k : Known g.Reported) → IsEntered k
    → is_free (find_name name s.own) ≡ true → P s → P (with_known name k s)) where
  pub begun_stays : (s : Scope g.Reported) (name : Ident) → P s → P (begin_name g s name).0
  begun_stays s name = unless_keeps g (fact P) s name Begun (λ e. frees s name.name Begun begun_is e)

  pub begun_all : (names : List Ident) (st : State (Unit {0}) g.Reported) → P st.0 → P (fold (begun_name g) st names).0
  begun_all = steps (fact P) (λ (st : State (Unit {0}) g.Reported). st.0) (begun_name g) (λ st x. begun_stays st.0 x)

  -- ---- marks

  marks : KeepsMarks {T = g.Reported} (λ s t. P s → P t)
  marks = record {
    order = fact P;
    later = λ s name e. frees s name Later later_is (ap is_free e);
    ahead = λ s name e. frees s name Ahead ahead_is (ap is_free e);
  }

  pub decls_marks : (ds : List Decl) (st : Scope g.Reported × List ℕ) → P st.0
      → P (fold (with_marks marked_decl) st ds).0
  decls_marks = all_marks.decls_marks marks

  -- ---- types

  module _ (shaped : (s : Scope g.Reported) (m : Made) → P s → P (with_shape s m)) where
    types : KeepsTypes g (λ s t. P s → P t)
    types = by_shapes g (record {
      order = fact P;
      shaped = shaped;
      listed = λ s name t n. frees s name _ (declared_is (Ok (enumeration_constant t n)) (λ p e. absurd cc));
    })

    pub type_of_keeps : (t : TypeExpr) (s : Scope g.Reported) → P s → P (type_of g t s).0
    type_of_keeps = types.types

    -- ---- a fact that also stays while names that were begun are finished

    module _ (finishes : (s : Scope g.Reported) (name : List ℕ) (k : Known g.Reported) → IsEntered k
        → is_begun (find_name name s.own) ≡ true → P s → P (with_known name k s)) where
      names : KeepsNames g (λ s t. P s → P t)
      names = record {
        types = types;
        begun = λ s name. frees s name Begun begun_is;
        constant_ends = λ s c. finishes s c.name.name _
            (declared_is _ (no_procedure (constant g s (part g c.value)) (λ v. meaning.Constant v)
            (λ v p e. absurd cc)));
        type_ends = λ s name t n. finishes s name _
            (declared_is _ (no_procedure t (λ v. meaning.Type v n) (λ v p e. absurd cc)));
      }

      pub constants_stay : (cs : List Constant) (st : State (Unit {0}) g.Reported) → P st.0
          → P (fold (with_constant g) st cs).0
      constants_stay = constants_keep g names

      pub types_stay : (ts : List TypeDecl) (st : State (Unit {0}) g.Reported) → P st.0 → P (fold (with_type g) st ts).0
      types_stay = types_keep g names

      -- ---- and while variables get their types

      module _ (varied : (s : Scope g.Reported) (t : Result TypeNo g.Reported) → P s → P (with_variable_type s t)) where
        variable_ends : VariablesEnd g (λ s t. P s → P t)
        variable_ends s name t e h = finishes (with_variable_type s t) name _
            (declared_is _ (no_procedure t
            (λ v. meaning.Variable (record { home = s.types.home; number = length s.variables; of = v }))
            (λ v p e. absurd cc)))
            e (varied s t h)

        local_ends : LocalsEnd g (λ s t. P s → P t)
        local_ends s name t e h = finishes (with_variable_type s t) name _
            (declared_is _ (no_procedure t
            (λ v. meaning.Local (record { level = s.level; number = length s.variables; kind = kind.Variable; of = v }))
            (λ v p e. absurd cc)))
            e (varied s t h)

        pub variables_stay : (st : State (Unit {0}) g.Reported) (vs : List Variables) → P st.0
            → P (with_variables_of g st vs).0
        variables_stay st vs = variables_of_keep g names varied variable_ends local_ends vs st

      -- ---- and while procedures get their headings

      module _ (awaits : (s : Scope g.Reported) (name : List ℕ) (p : ModuleProcedure) (k : Known g.Reported)
          → name_standing (find_name name s.own) ≡ Awaited p → P s → P (with_known name k s))
          (headed : (s : Scope g.Reported) (t : Result TypeNo g.Reported) → P s → P (with_procedure_type s t)) where
        pub heading_stays : (s : Scope g.Reported) (x : Heading) (n : ℕ) → P s → P (with_heading g s n x).0
        heading_stays s x n =
            heading_keeps g types.order types.headings
            (λ s name t l e h. frees (with_procedure_type s t) name _ (headed_is _) e (headed s t h))
            (λ s name n t l e. frees s name _ (headed_is _) e)
            (λ s name p e. awaits s name p _ e) s x n
