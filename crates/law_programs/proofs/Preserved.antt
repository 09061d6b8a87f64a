-- What imports bring into the block of a module: declarations keep it.
use Rattle.std.proofs.Common.{◌≡◌, ℕ, ◌==◌, true, false, List, [], ◌∷◌, length, Result, Ok, Err, sym, ◌∙◌}
use Rattle.m2_tree.specs.declared.decl.Decl.{Decl}
use Rattle.typed_tree.specs.declared.types.TypeNo.{TypeNo}
use Rattle.typed_tree.specs.declared.shape.Made.{Made}
use Rattle.typed_tree.specs.declared.meaning.Meaning.{Meaning}
use Rattle.typed_tree.specs.declared.meaning.Meaning.TheVariants as meaning
use Rattle.typed_tree.specs.declared.meaning.LocalKind.TheVariants as kind
use Rattle.check_scope.specs.Elaborated.{Gathers, ◌▷◌}
use Rattle.check_scope.specs.Scopes.{State, with_known}
use Rattle.check_scope.specs.declared.known.Known.{Known}
use Rattle.check_scope.specs.declared.known.Known.TheVariants.{Later, Ahead, Begun, Headed, Declared}
use Rattle.check_scope.specs.declared.known.Origin.{Origin}
use Rattle.check_scope.specs.declared.known.Origin.TheVariants.{Here, Module, Export}
use Rattle.check_scope.specs.declared.scope.Scope.{Scope}
use Rattle.check_const.specs.Parts.{constant}
use Rattle.check_expr.specs.Meanings.{part}
use Rattle.check_type_expr.specs.Made.{with_shape, enumeration_constant}
use Rattle.check_definition.specs.Declare.{with_variable_type, with_procedure_type}
use Rattle.check_block.specs.Declarations.{declared_block}
use Rattle.law_folds.proofs.TypeSteps.{by_shapes}
use Rattle.law_folds.proofs.Orders.{fact}
use Rattle.law_folds.proofs.BlockSteps.{KeepsBlocks}
use Rattle.law_folds.proofs.BlockSteps as all_blocks
use Rattle.law_well_formed.specs.Formed.{Holds, fine, broken}
use Rattle.law_well_formed.proofs.Basics.{heading_means_holds}

-- no procedure in a procedure
abbrev pub IsOuter : Meaning → Type 0
IsOuter (meaning.LocalProcedure p) = ⊥
IsOuter (meaning.Constant v) = Unit {0}
IsOuter (meaning.Type t n) = Unit {0}
IsOuter (meaning.Variable v) = Unit {0}
IsOuter (meaning.Local v) = Unit {0}
IsOuter (meaning.Field f) = Unit {0}
IsOuter (meaning.Procedure p) = Unit {0}
IsOuter meaning.Ahead = Unit {0}
IsOuter (meaning.Standard f) = Unit {0}
IsOuter (meaning.Module k) = Unit {0}

module _ (F : Meaning → Type 0) where
  -- what comes from another module is as the fact says
  abbrev pub BroughtFrom : {T : Type 0} → Origin → Result Meaning T → Type 0
  BroughtFrom Here r = Holds IsOuter r
  BroughtFrom (Module k) r = Holds F r
  BroughtFrom (Export k) r = Holds F r

  abbrev pub KnownBrought : {T : Type 0} → Known T → Type 0
  KnownBrought Later = Unit {0}
  KnownBrought Ahead = Unit {0}
  KnownBrought Begun = Unit {0}
  KnownBrought (Headed r) = Holds IsOuter r
  KnownBrought (Declared o r) = BroughtFrom o r

  abbrev pub NamesBrought : {T : Type 0} → List (List ℕ × Known T) → Type 0
  NamesBrought [] = Unit {0}
  NamesBrought (e ∷ es) = KnownBrought e.1 × NamesBrought es

-- what declarations bring
abbrev pub IsPlain : {T : Type 0} → Known T → Type 0
IsPlain k = KnownBrought (λ m. ⊥) k

outer_by : {A T : Type 0} (r : Result A T) (f : A → Meaning) → ((x : A) → IsOuter (f x))
    → Holds IsOuter (r ▷ λ x. Ok (f x))
outer_by (Ok x) f k = fine (f x) (k x)
outer_by (Err e) f k = broken e

module _ (g : Gathers) (P : Scope g.Reported → Type 0)
    (named : (s : Scope g.Reported) (name : List ℕ) (k : Known g.Reported) → IsPlain k → P s → P (with_known name k s))
    (outermost : (s : Scope g.Reported) → P s → (s.level == 0) ≡ true)
    (shaped : (s : Scope g.Reported) (m : Made) → P s → P (with_shape s m))
    (varied : (s : Scope g.Reported) (t : Result TypeNo g.Reported) → P s → P (with_variable_type s t))
    (headed : (s : Scope g.Reported) (t : Result TypeNo g.Reported) → P s → P (with_procedure_type s t)) where
  abbrev Stays : Scope g.Reported → Scope g.Reported → Type 0
  Stays s t = P s → P t

  blocks : KeepsBlocks g Stays
  blocks = record {
    marks =
        record { order = fact P; later = λ s name e. named s name Later tt; ahead = λ s name e. named s name Ahead tt };
    names = record {
      types = by_shapes g (record {
        order = fact P;
        shaped = shaped;
        listed = λ s name t n e. named s name _ (fine (enumeration_constant t n) tt);
      });
      begun = λ s name e. named s name Begun tt;
      constant_ends =
          λ s c e. named s c.name.name _ (outer_by (constant g s (part g c.value)) (λ v. meaning.Constant v) (λ v. tt));
      type_ends = λ s name t n e. named s name _ (outer_by t (λ v. meaning.Type v n) (λ v. tt));
    };
    varied = varied;
    variable_ends = λ s name t l e h. named (with_variable_type s t) name _
        (outer_by t (λ v. meaning.Variable (record { home = s.types.home; number = length s.variables; of = v }))
        (λ v. tt)) (varied s t h);
    local_ends = λ s name t l e h. named (with_variable_type s t) name _
        (outer_by t (λ v. meaning.Local
        (record { level = s.level; number = length s.variables; kind = kind.Variable; of = v })) (λ v. tt))
        (varied s t h);
    procedure = λ s name t l e h. named (with_procedure_type s t) name _
        (heading_means_holds false (outer_by t
        (λ v. meaning.Procedure (record { home = s.types.home; number = length s.procedures; heading = v })) (λ v. tt)))
        (headed s t h);
    nested = λ s name n t l e h. absurd (let z : true ≡ false = sym (outermost s h) ∙ l in cc);
    awaited = λ s name p e. named s name _ (fine (meaning.Procedure p) tt);
  }

  pub block_keeps : (ends : List ℕ) (st : State (Unit {0}) g.Reported) (first : ℕ) (ds : List Decl) → P st.0
      → P (declared_block g ends st first ds).0
  block_keeps = all_blocks.block_keeps g blocks
