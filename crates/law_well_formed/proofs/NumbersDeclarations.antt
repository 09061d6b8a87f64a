-- Declarations of blocks lead from numbered names to numbered names.
use Rattle.std.proofs.Common.{◌≡◌, ℕ, ◌+◌, ◌≤◌, inr, Bool, true, false, cond, List, [], ◌∷◌, ◌++◌, length, Option, Some, None, Result, Ok, Err, refl, subst, arith}
use Rattle.std.proofs.lemmas.List.{length-append}
use Rattle.m2_tree.specs.declared.decl.Decl.{Decl-F}
use Rattle.typed_tree.specs.declared.meaning.Meaning.{Meaning}
use Rattle.typed_tree.specs.declared.meaning.Meaning.TheVariants as meaning
use Rattle.typed_tree.specs.declared.meaning.Procedure.{Procedure}
use Rattle.typed_tree.specs.declared.meaning.LocalKind.TheVariants as local
use Rattle.typed_tree.specs.declared.meaning.LocalVariable.{LocalVariable}
use Rattle.typed_tree.specs.declared.shape.Formal.{Formal}
use Rattle.typed_tree.specs.declared.types.TypeNo.{TypeNo}
use Rattle.m2_tree.specs.Names.{same_name}
use Rattle.typed_tree.specs.Names.{find_name}
use Rattle.check_scope.specs.Elaborated.{Gathers}
use Rattle.check_scope.specs.Scopes.{with_known}
use Rattle.check_scope.specs.declared.known.Known.{Known}
use Rattle.check_scope.specs.declared.known.Known.TheVariants.{Later, Ahead, Begun, Headed, Declared}
use Rattle.check_scope.specs.declared.known.Origin.TheVariants.{Here, Module, Export}
use Rattle.check_scope.specs.declared.scope.Scope.{Scope}
use Rattle.check_scope.specs.declared.meaningless.Meaningless.TheVariants.{Headless}
use Rattle.check_type_expr.specs.Made.{enumeration_constant}
use Rattle.check_definition.specs.Declare.{variable_meaning, local_meaning, with_variable_type, with_procedure_type}
use Rattle.check_block.specs.declared.heading.Standing.TheVariants.{Awaited}
use Rattle.check_block.specs.Headings.{standing_of, standing_elaborated, name_standing, module_procedure}
use Rattle.check_block.specs.Naming.{marked_layer}
use Rattle.check_block.specs.Declarations.{Course, decl_layer}
use Rattle.law_folds.proofs.TypeSteps.{by_shapes}
use Rattle.law_folds.proofs.Orders.{IsOrder}
use Rattle.law_folds.proofs.MarkSteps.{decl_layer_marks}
use Rattle.law_folds.proofs.BlockSteps.{KeepsBlocks, layer_keeps}
use Rattle.law_well_formed.specs.Formed.{Holds, fine, broken}
use Rattle.law_well_formed.proofs.Basics.{then_holds, any_holds, heading_means_holds}
use Rattle.law_well_formed.proofs.Names.{get_more, get_last}
use Rattle.law_well_formed.specs.FormedNumbers.{lists_of, MeaningNumbered, KnownNumbered, NamesNumbered, More, Grows}
use Rattle.law_well_formed.proofs.NumbersGrowth.{grows_refl, grows_then, lists_grow, names_entered, known_grows, shape_grows}

longer : {A : Type 0} (xs : List A) (x : A) → length xs ≤ length (xs ++ x ∷ [])
longer xs x = let e : length (xs ++ x ∷ []) ≡ length xs + 1 = length-append xs (x ∷ []) in omega (arith, e)

module _ (fs : List Formal) (g : Gathers) where
  abbrev Goes : Scope g.Reported → Scope g.Reported → Type 0
  Goes s s' = Grows fs s s'

  -- ---- variables

  one_more : (s : Scope g.Reported) (t : TypeNo) → More (lists_of s) (lists_of (with_variable_type s (Ok t)))
  one_more s t = record {
    level = refl;
    home = refl;
    count = longer s.variables t;
    variables = λ n y e. get_more s.variables (t ∷ []) n y e;
    procedures = λ n y e. e;
  }

  variable_type_grows : (s : Scope g.Reported) (t : Result TypeNo g.Reported) → Goes s (with_variable_type s t)
  variable_type_grows s (Err e) = grows_refl fs s
  variable_type_grows s (Ok t) = lists_grow fs s (with_variable_type s (Ok t)) refl refl (one_more s t)

  -- a variable of a procedure stands behind its formals
  local_ends : (s : Scope g.Reported) (name : List ℕ) (t : Result TypeNo g.Reported)
      → Goes s (with_known name (Declared Here (local_meaning s.level (length s.variables) t)) (with_variable_type s t))
  local_ends s name (Err e) = known_grows fs s name (Declared Here (Err e)) (λ h. broken e)
  local_ends s name (Ok t) =
      let l : LocalVariable = record { level = s.level; number = length s.variables; kind = local.Variable; of = t } in
      record {
        outer = refl;
        more = one_more s t;
        numbered = λ h.
            let next = (variable_type_grows s (Ok t)).numbered h in
            let v : Scope g.Reported = with_variable_type s (Ok t) in
            record {
              names = names_entered fs (lists_of v) name (Declared Here (Ok (meaning.Local l))) s.own
                  (fine (meaning.Local l) (record {
                    level = refl;
                    there = get_last s.variables t;
                    placed = inr (record { same_kind = refl; behind = h.few });
                  }))
                  next.names;
              few = next.few;
            };
      }

  variable_ends : (s : Scope g.Reported) (name : List ℕ) (t : Result TypeNo g.Reported)
      → Goes s (with_known name (Declared Here (variable_meaning s.types.home (length s.variables) t))
      (with_variable_type s t))
  variable_ends s name (Err e) = known_grows fs s name (Declared Here (Err e)) (λ h. broken e)
  variable_ends s name (Ok t) =
      grows_then fs (variable_type_grows s (Ok t))
      (known_grows fs (with_variable_type s (Ok t)) name _
      (λ h. fine (meaning.Variable _) (λ e. get_last s.variables t)))

  -- ---- headings

  procedure_type_grows : (s : Scope g.Reported) (t : Result TypeNo g.Reported) → Goes s (with_procedure_type s t)
  procedure_type_grows s (Err e) = grows_refl fs s
  procedure_type_grows s (Ok t) = lists_grow fs s (with_procedure_type s (Ok t)) refl refl (record {
    level = refl;
    home = refl;
    count = omega arith;
    variables = λ n y e. e;
    procedures = λ n y e. get_more s.procedures (t ∷ []) n y e;
  })

  module_procedure_grows : (s : Scope g.Reported) (name : List ℕ) (t : Result TypeNo g.Reported)
      → Goes s (module_procedure s name t)
  module_procedure_grows s name (Err e) =
      known_grows fs s name (Headed (Err (Headless false e))) (λ h. broken (Headless false e))
  module_procedure_grows s name (Ok t) =
      grows_then fs (procedure_type_grows s (Ok t))
      (known_grows fs (with_procedure_type s (Ok t)) name _
      (λ h. fine (meaning.Procedure _) (λ e. get_last s.procedures t)))

  -- ---- a procedure of the definition, which stands among the names already

  abbrev If : (s : Scope g.Reported) → Option (Known g.Reported) → Type 0
  If s None = Unit {0}
  If s (Some k) = KnownNumbered fs (lists_of s) k

  found_by : (s : Scope g.Reported) (b : Bool) (k : Known g.Reported) (o : Option (Known g.Reported))
      → KnownNumbered fs (lists_of s) k → If s o → If s (cond b (Some k) o)
  found_by s true k o p q = p
  found_by s false k o p q = q

  found_numbered : (s : Scope g.Reported) (name : List ℕ) (es : List (List ℕ × Known g.Reported))
      → NamesNumbered fs (lists_of s) es → If s (find_name name es)
  found_numbered s name [] h = tt
  found_numbered s name (e ∷ es) h = found_by s (same_name name e.0) e.1 (find_name name es) h.0
      (found_numbered s name es h.1)

  of_meaning : (s : Scope g.Reported) (p : Procedure) (m : Meaning) → standing_of m ≡ Awaited p
      → MeaningNumbered fs (lists_of s) m → MeaningNumbered fs (lists_of s) (meaning.Procedure p)
  of_meaning s p (meaning.Procedure q) e h = let k : q ≡ p = cc in
      subst (λ (r : Procedure). MeaningNumbered fs (lists_of s) (meaning.Procedure r)) k h
  of_meaning s p (meaning.Constant v) e h = absurd cc
  of_meaning s p (meaning.Type t n) e h = absurd cc
  of_meaning s p (meaning.Variable v) e h = absurd cc
  of_meaning s p (meaning.Local v) e h = absurd cc
  of_meaning s p (meaning.Field f) e h = absurd cc
  of_meaning s p (meaning.LocalProcedure q) e h = absurd cc
  of_meaning s p meaning.Ahead e h = absurd cc
  of_meaning s p (meaning.Standard f) e h = absurd cc
  of_meaning s p (meaning.Module k) e h = absurd cc

  of_elaborated : (s : Scope g.Reported) (p : Procedure) (r : Result Meaning g.Reported)
      → standing_elaborated r ≡ Awaited p → Holds (MeaningNumbered fs (lists_of s)) r
      → MeaningNumbered fs (lists_of s) (meaning.Procedure p)
  of_elaborated s p _ e (fine m h) = of_meaning s p m e h
  of_elaborated s p _ e (broken x) = absurd cc

  awaited_numbered : (s : Scope g.Reported) (p : Procedure) (o : Option (Known g.Reported))
      → name_standing o ≡ Awaited p → If s o → MeaningNumbered fs (lists_of s) (meaning.Procedure p)
  awaited_numbered s p None e h = absurd cc
  awaited_numbered s p (Some Later) e h = absurd cc
  awaited_numbered s p (Some Ahead) e h = absurd cc
  awaited_numbered s p (Some Begun) e h = absurd cc
  awaited_numbered s p (Some (Headed r)) e h = absurd cc
  awaited_numbered s p (Some (Declared Here r)) e h = of_elaborated s p r e h
  awaited_numbered s p (Some (Declared (Module k) r)) e h = absurd cc
  awaited_numbered s p (Some (Declared (Export k) r)) e h = absurd cc

  -- ---- a declaration of a block

  order : IsOrder {T = g.Reported} Goes
  order = record { same = grows_refl fs; next = λ a b c p q. grows_then fs p q }

  blocks : KeepsBlocks g Goes
  blocks = record {
    marks = record {
      order = order;
      later = λ s name e. known_grows fs s name Later (λ h. tt);
      ahead = λ s name e. known_grows fs s name Ahead (λ h. tt);
    };
    names = record {
      types = by_shapes g (record {
        order = order;
        shaped = shape_grows fs;
        listed = λ s name t n e. known_grows fs s name (Declared Here (Ok (enumeration_constant t n))) (λ h. fine _ tt);
      });
      begun = λ s name e. known_grows fs s name Begun (λ h. tt);
      constant_ends =
          λ s c e. known_grows fs s c.name.name _ (λ h. then_holds (any_holds _) (λ x k. fine (meaning.Constant x) tt));
      type_ends =
          λ s name t n e. known_grows fs s name _ (λ h. then_holds (any_holds t) (λ x k. fine (meaning.Type x n) tt));
    };
    varied = variable_type_grows;
    variable_ends = λ s name t l e. variable_ends s name t;
    local_ends = λ s name t l e. local_ends s name t;
    procedure = λ s name t l e. module_procedure_grows s name t;
    nested = λ s name n t l e. known_grows fs s name _ (λ h.
        heading_means_holds true (then_holds (any_holds t) (λ x k. fine (meaning.LocalProcedure _) refl)));
    awaited = λ s name p e. known_grows fs s name _ (λ h.
        fine (meaning.Procedure p) (awaited_numbered s p (find_name name s.own) e
        (found_numbered s name s.own h.names)));
  }

  module _ {A B : Type 0} where
    pub decl_grows : (ends : List ℕ) (c : Course g.Reported) (y : Decl-F A B) → Goes c.0 (decl_layer g ends c y).0
    decl_grows = layer_keeps g blocks

    pub layer_marks : (s : Scope g.Reported) (y : Decl-F A B) → Goes s (marked_layer s y)
    layer_marks s y = decl_layer_marks blocks.marks y s
