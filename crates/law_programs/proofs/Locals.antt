-- The declarations of a procedure's block bring local names alone: constants, types, local variables and procedures.
use Rattle.std.proofs.Common.{length, ◌≡◌, ℕ, Bool, true, false, cond, List, [], ◌∷◌, Option, Some, None, Result, Ok, Err, refl, sym, ◌∙◌}
use Rattle.typed_tree.specs.declared.types.TypeNo.{TypeNo}
use Rattle.check_scope.specs.Elaborated.{Gathers}
use Rattle.check_scope.specs.Scopes.{with_known}
use Rattle.check_scope.specs.declared.known.Known.{Known}
use Rattle.check_scope.specs.declared.known.Known.TheVariants.{Later, Ahead, Begun, Headed, Declared}
use Rattle.check_scope.specs.declared.known.Origin.TheVariants.{Here, Module, Export}
use Rattle.check_scope.specs.declared.scope.Scope.{Scope}
use Rattle.check_type_expr.specs.Made.{with_shape, enumeration_constant}
use Rattle.law_folds.proofs.TypeSteps.{by_shapes}
use Rattle.law_folds.proofs.Orders.{IsOrder}
use Rattle.law_folds.proofs.NameSteps.{AtLevel, level_order, varied_level, level_names}
use Rattle.law_folds.proofs.BlockSteps.{KeepsBlocks, headed_level, block_keeps}
use Rattle.law_well_formed.specs.Formed.{Holds, fine, broken}
use Rattle.law_well_formed.proofs.Basics.{then_holds, any_holds, heading_means_holds}
use Rattle.typed_tree.specs.declared.meaning.LocalKind.TheVariants as local
use Rattle.typed_tree.specs.declared.meaning.Meaning.{Meaning}
use Rattle.typed_tree.specs.declared.meaning.Meaning.TheVariants as meaning
use Rattle.typed_tree.specs.declared.meaning.Procedure.{Procedure}
use Rattle.typed_tree.specs.declared.shape.Made.{Made}
use Rattle.m2_tree.specs.Names.{same_name}
use Rattle.typed_tree.specs.Names.{find_name}
use Rattle.check_definition.specs.Declare.{with_variable_type}
use Rattle.check_block.specs.declared.heading.Standing.TheVariants.{Awaited}
use Rattle.check_block.specs.Headings.{standing_of, standing_elaborated, name_standing}
use Rattle.law_programs.specs.TypingBodies.{MeaningLocal, KnownLocal, NamesLocal, LocalsStay}
use Rattle.law_programs.proofs.Entered.{entered_local}

-- names stay local
pub record Stays {T : Type 0} (s s' : Scope T) : Type 0 where
  locals : NamesLocal s.own → NamesLocal s'.own

stays_refl : {T : Type 0} (s : Scope T) → Stays s s
stays_refl s = record { locals = λ h. h }

stays_then : {T : Type 0} {a b c : Scope T} → Stays a b → Stays b c → Stays a c
stays_then p q = record { locals = λ h. q.locals (p.locals h) }

known_stays : {T : Type 0} (s : Scope T) (name : List ℕ) (k : Known T) → (NamesLocal s.own → KnownLocal k)
    → Stays s (with_known name k s)
known_stays s name k p = record { locals = λ h. entered_local name k s.own (p h) h }

shape_stays : {T : Type 0} (s : Scope T) (x : Made) → Stays s (with_shape s x)
shape_stays s x = record { locals = λ h. h }

module _ (g : Gathers) where
  abbrev Goes : Scope g.Reported → Scope g.Reported → Type 0
  Goes s s' = Stays s s'

  order : IsOrder {T = g.Reported} Goes
  order = record { same = stays_refl; next = λ a b c p q. stays_then p q }

  varied : (s : Scope g.Reported) (t : Result TypeNo g.Reported) → Goes s (with_variable_type s t)
  varied s (Err e) = stays_refl s
  varied s (Ok t) = record { locals = λ h. h }

  -- no local name is a procedure of the definition

  abbrev If : Option (Known g.Reported) → Type 0
  If None = Unit {0}
  If (Some k) = KnownLocal k

  if_by : (b : Bool) (k : Known g.Reported) (o : Option (Known g.Reported)) → KnownLocal k → If o
      → If (cond b (Some k) o)
  if_by true k o p q = p
  if_by false k o p q = q

  found_local : (name : List ℕ) (es : List (List ℕ × Known g.Reported)) → NamesLocal es → If (find_name name es)
  found_local name [] h = tt
  found_local name (e ∷ es) h = if_by (same_name name e.0) e.1 (find_name name es) h.0 (found_local name es h.1)

  none_of : (p : Procedure) (m : Meaning) → standing_of m ≡ Awaited p → MeaningLocal m → ⊥
  none_of p (meaning.Procedure q) e h = h
  none_of p (meaning.Constant v) e h = absurd cc
  none_of p (meaning.Type t n) e h = absurd cc
  none_of p (meaning.Variable v) e h = h
  none_of p (meaning.Local v) e h = absurd cc
  none_of p (meaning.Field f) e h = h
  none_of p (meaning.LocalProcedure q) e h = absurd cc
  none_of p meaning.Ahead e h = absurd cc
  none_of p (meaning.Standard f) e h = h
  none_of p (meaning.Module k) e h = h

  none_elaborated : (p : Procedure) (r : Result Meaning g.Reported) → standing_elaborated r ≡ Awaited p
      → Holds MeaningLocal r → ⊥
  none_elaborated p _ e (fine m h) = none_of p m e h
  none_elaborated p _ e (broken x) = absurd cc

  none_awaited : (p : Procedure) (o : Option (Known g.Reported)) → name_standing o ≡ Awaited p → If o → ⊥
  none_awaited p None e h = absurd cc
  none_awaited p (Some Later) e h = absurd cc
  none_awaited p (Some Ahead) e h = absurd cc
  none_awaited p (Some Begun) e h = absurd cc
  none_awaited p (Some (Headed r)) e h = absurd cc
  none_awaited p (Some (Declared Here r)) e h = none_elaborated p r e h
  none_awaited p (Some (Declared (Module k) r)) e h = absurd cc
  none_awaited p (Some (Declared (Export k) r)) e h = absurd cc

  -- ---- declarations

  -- in a procedure; a block of level 0 is none
  abbrev Inside : Scope g.Reported → Scope g.Reported → Type 0
  Inside s t = AtLevel false Goes s t

  blocks : KeepsBlocks g Inside
  blocks = record {
    marks = record {
      order = level_order false Goes order;
      later = λ s name e. (refl, λ l. known_stays s name Later (λ h. tt));
      ahead = λ s name e. (refl, λ l. known_stays s name Ahead (λ h. tt));
    };
    names = level_names g false (record {
      types = by_shapes g (record {
        order = order;
        shaped = shape_stays;
        listed = λ s name t n e. known_stays s name (Declared Here (Ok (enumeration_constant t n))) (λ h. fine _ tt);
      });
      begun = λ s name e. known_stays s name Begun (λ h. tt);
      constant_ends =
          λ s c e. known_stays s c.name.name _ (λ h. then_holds (any_holds _) (λ x k. fine (meaning.Constant x) tt));
      type_ends =
          λ s name t n e. known_stays s name _ (λ h. then_holds (any_holds t) (λ x k. fine (meaning.Type x n) tt));
    });
    varied = λ s t. (varied_level s t, λ l. varied s t);
    variable_ends = λ s name t l e. (varied_level s t, λ k. absurd (let z : true ≡ false = sym l ∙ k in cc));
    local_ends = λ s name t l e. (
      varied_level s t,
      λ k. stays_then (varied s t) (known_stays (with_variable_type s t) name _ (λ h.
          then_holds (any_holds t) (λ x k. fine
          (meaning.Local (record {
            level = s.level;
            number = length s.variables;
            kind = local.Variable;
            of = x;
          })) tt))),
    );
    procedure = λ s name t l e. (headed_level s t, λ k. absurd (let z : true ≡ false = sym l ∙ k in cc));
    nested = λ s name n t l e. (
      refl,
      λ k. known_stays s name _ (λ h.
          heading_means_holds true (then_holds (any_holds t)
          (λ x k. fine (meaning.LocalProcedure (record { level = s.level; number = n; heading = x })) tt))),
    );
    awaited =
        λ s name p e. (
          refl,
          λ k. known_stays s name _
              (λ h. absurd (none_awaited p (find_name name s.own) e (found_local name s.own h))),
        );
  }

  pub locals_stay : LocalsStay g
  locals_stay ends st first ds l h = ((block_keeps g blocks ends st first ds).1 l).locals h
