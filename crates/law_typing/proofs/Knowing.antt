-- For each scope there is something that its names stand for.
use Rattle.std.proofs.Common.{ℕ, Bool, false, ap, Option, Some, None, Result, Ok, Err}
use Rattle.std.specs.Prelude.{slice_get}
use Rattle.m2_tree.specs.declared.pos.Pos.{Pos}
use Rattle.m2_tree.specs.declared.name.Ident.{Ident}
use Rattle.typed_tree.specs.declared.meaning.Meaning.{Meaning}
use Rattle.check_scope.specs.declared.meaningless.Meaningless.{Meaningless}
use Rattle.check_scope.specs.declared.meaningless.Meaningless.TheVariants as meaningless
use Rattle.check_scope.specs.declared.scope.Scope.{Scope}
use Rattle.check_scope.specs.Elaborated.{Gathers}
use Rattle.check_scope.specs.Scopes.{looked_up}
use Rattle.check_const.specs.Denote.{exported_by}
use Rattle.def_typing.specs.Things.{Headless, Standing, Known, NotExported, Unknown}
use Rattle.law_typing.specs.Judging.{Judges}
use Rattle.law_typing.specs.Exact.{standing, Sees, sees, sees_headless, sees_unknown, Exports, has_exported, has_nothing, Knows, is_own_variable, KnowsOwn}

abbrev standing_by : {R : Type 0} → Result Meaning (Meaningless R) → Standing
standing_by (Ok m) = standing m
standing_by (Err (meaningless.Broken r)) = Unknown
standing_by (Err (meaningless.Headless nested r)) = Known (Headless nested)

abbrev export_by : Option Meaning → Standing
export_by None = NotExported
export_by (Some m) = standing m

abbrev pub own_by : {R : Type 0} → Scope R → Result Meaning (Meaningless R) → Bool
own_by s (Ok m) = is_own_variable s m
own_by s (Err r) = false

module _ (g : Gathers) (j : Judges g) where
  sees_it : (at : Pos) (r : Result Meaning (Meaningless g.Reported)) → Sees g j at (standing_by r) r
  sees_it at (Ok m) = sees m
  sees_it at (Err (meaningless.Broken r)) = sees_unknown r
  sees_it at (Err (meaningless.Headless nested r)) = sees_headless nested r

  exports_it : (m : Option Meaning) → Exports g j (export_by m) m
  exports_it None = has_nothing
  exports_it (Some m) = has_exported m

  standings_there : (s : Scope g.Reported) → (names : Ident → Standing) × (exports : ℕ → Ident → Standing)
      × Knows g j names exports s
  standings_there s = (
    (λ name. standing_by (looked_up g s name)),
    (λ k name. export_by (exported_by name.name (slice_get s.tables k))),
    record {
      of_names = λ name. sees_it name.pos (looked_up g s name);
      of_modules =
          λ k name. exports_it (exported_by name.name (slice_get s.tables k));
    },
  )

  pub names_there : (s : Scope g.Reported)
      → ((names : Ident → Standing) × (exports : ℕ → Ident → Standing) × Knows g j names exports s)
      × ((own : Ident → Bool) × KnowsOwn g j own s)
  names_there s = (standings_there s, ((λ name. own_by s (looked_up g s name)), (λ name m e. ap (own_by s) e)))
