-- What names stand for outside of a definition: those that every module knows are declared, and no others.
use Rattle.std.proofs.Common.{◌≡◌, ℕ, zero, suc, Bool, true, false, cond, List, [], ◌∷◌, length, Option, Some, None, Result, Ok, Err, ◌⊎◌, inl, inr}
use Rattle.std.specs.Prelude.{slice_get, nat_lt}
use Rattle.std.specs.Option.{option_map}
use Rattle.m2_tree.specs.declared.pos.Pos.{Pos}
use Rattle.m2_tree.specs.declared.name.Ident.{Ident}
use Rattle.m2_tree.specs.Names.{same_name}
use Rattle.m2_rule.specs.declared.rule.Rule.TheVariants as rule
use Rattle.typed_tree.specs.declared.meaning.Meaning.{Meaning}
use Rattle.typed_tree.specs.declared.table.Table.{Table}
use Rattle.typed_tree.specs.Names.{place_of, enter_name}
use Rattle.check_scope.specs.declared.known.Origin.{Origin}
use Rattle.check_scope.specs.declared.known.Origin.TheVariants.{Here}
use Rattle.check_scope.specs.declared.known.Known.{Known}
use Rattle.check_scope.specs.declared.known.Known.TheVariants.{Declared}
use Rattle.check_scope.specs.declared.meaningless.Meaningless.{Meaningless}
use Rattle.check_scope.specs.declared.meaningless.Meaningless.TheVariants as meaningless
use Rattle.check_scope.specs.Elaborated.{Gathers}
use Rattle.check_scope.specs.Scopes.{seen_at, or_outside, means_seen, means_as, looked_up}
use Rattle.check_const.specs.Denote.{exported_by}
use Rattle.check_definition.specs.Predeclared.{with_types, with_truth, with_functions, with_bounds, with_procedures, predeclared_names, first_scope}
use Rattle.def_typing.specs.Operators.{◌!◌}
use Rattle.def_typing.specs.Things as things
use Rattle.def_typing.specs.Things.{Headless, Standing, Undeclared, NotExported, Unknown}
use Rattle.def_typing.specs.Imports as imports
use Rattle.def_typing.specs.Imports.{Imported, all_imported, Brings}
use Rattle.law_typing.specs.Judging.{Judges}
use Rattle.law_typing.specs.Exact.{standing, Sees, sees, sees_nothing, Exports, has_exported, has_nothing}
use Rattle.law_typing.proofs.Combining.{Lawful}
use Rattle.law_rules.proofs.Behind.{first_imports}
use Rattle.law_rules.specs.Defining.{none, IsTaken, by_import, by_none, DefinitionsAreKnown}
use Rattle.law_rules.proofs.Starting.{meaning_known, meaning_headed}

-- all of these names are declared
data AreMeant {T : Type 0} : List (List ℕ × Known T) → Type 0 where
  no_name : AreMeant []
  one_name : (n : List ℕ) (o : Origin) (m : Meaning) {ns : List (List ℕ × Known T)} → AreMeant ns
      → AreMeant ((n, Declared o (Ok m)) ∷ ns)

enter_by : {T : Type 0} (k n : List ℕ) (o : Origin) (w m : Meaning) {ns ms : List (List ℕ × Known T)} → AreMeant ns
    → AreMeant ms → (b : Bool) → AreMeant (cond b ((k, Declared Here (Ok m)) ∷ ns) ((k, Declared o (Ok w)) ∷ ms))
enter_by k n o w m a c true = one_name k Here m a
enter_by k n o w m a c false = one_name k o w c

entered : {T : Type 0} (n : List ℕ) (m : Meaning) {ns : List (List ℕ × Known T)} → AreMeant ns
    → AreMeant (enter_name n (Declared Here (Ok m)) ns)
entered n m no_name = one_name n Here m no_name
entered n m (one_name k o w a) = enter_by k n o w m a (entered n m a) (same_name n k)

module _ {T : Type 0} where
  types : {ns : List (List ℕ × Known T)} → AreMeant ns → AreMeant (with_types ns)
  types p = entered _ _ (entered _ _ (entered _ _ (entered _ _ (entered _ _ p))))

  truths : {ns : List (List ℕ × Known T)} → AreMeant ns → AreMeant (with_truth ns)
  truths p = entered _ _ (entered _ _ p)

  functions : {ns : List (List ℕ × Known T)} → AreMeant ns → AreMeant (with_functions ns)
  functions p = entered _ _ (entered _ _ (entered _ _ (entered _ _ p)))

  bounds : {ns : List (List ℕ × Known T)} → AreMeant ns → AreMeant (with_bounds ns)
  bounds p = entered _ _ (entered _ _ (entered _ _ (entered _ _ (entered _ _ p))))

  procedures : {ns : List (List ℕ × Known T)} → AreMeant ns → AreMeant (with_procedures ns)
  procedures p = entered _ _ (entered _ _ (entered _ _ (entered _ _ (entered _ _ p))))

  predeclared_meant : AreMeant (predeclared_names {T = T})
  unfolding predeclared_names
  predeclared_meant = procedures (bounds (functions (truths (types no_name))))

abbrev export_by : Option Meaning → Standing
export_by None = NotExported
export_by (Some m) = standing m

module _ (g : Gathers) (j : Judges g) where
  -- what is seen of a name, without a broken rule
  abbrev Seen : Pos → Result Meaning (Meaningless g.Reported) → Type 0
  Seen at r = (s : Standing) × Sees g j at s r × (s ≡ Unknown → ⊥) × ((b : Bool) → s ≡ things.Known (Headless b) → ⊥)

  undeclared_known : Undeclared ≡ Unknown → ⊥
  undeclared_known e = absurd cc

  undeclared_headed : (b : Bool) → Undeclared ≡ things.Known (Headless b) → ⊥
  undeclared_headed b e = absurd cc

  nothing_seen : (at : Pos) → Seen at (Err (meaningless.Broken (g.one (at ! rule.Undeclared))))
  nothing_seen at = (Undeclared, sees_nothing, undeclared_known, undeclared_headed)

  meant_seen : (at : Pos) (m : Meaning) → Seen at (Ok m)
  meant_seen at m = (standing m, sees m, meaning_known m, (λ b e. meaning_headed m e))

  one_seen : (at : Pos) (o : Origin) (m : Meaning) (b : Bool) → Seen at (means_seen g at (Declared o (Ok m)) b)
  one_seen at o m true = meant_seen at m
  one_seen at o m false = nothing_seen at

  slot_seen : (at : Pos) {ns : List (List ℕ × Known g.Reported)} → AreMeant ns → (p : ℕ) (b : Bool)
      → Seen at (means_as g at (or_outside (option_map {U = Known g.Reported × Bool} (λ e. (e.1, b)) (slice_get ns p))
      None))
  slot_seen at no_name p b = nothing_seen at
  slot_seen at (one_name n o m a) zero b = one_seen at o m b
  slot_seen at (one_name n o m a) (suc p) b = slot_seen at a p b

  place_seen : (at : Pos) (ns : List (List ℕ × Known g.Reported)) → AreMeant ns → (seen : ℕ) (p : Option ℕ)
      → Seen at (means_as g at (or_outside (seen_at seen ns p) None))
  place_seen at ns a seen None = nothing_seen at
  place_seen at ns a seen (Some p) = slot_seen at a p (nat_lt p seen)

  name_seen : (home : ℕ) (tables : List Table) (name : Ident)
      → Seen name.pos (looked_up g (first_scope home tables) name)
  name_seen home tables name = place_seen name.pos predeclared_names predeclared_meant
      (length (predeclared_names {T = g.Reported})) (place_of name.name (predeclared_names {T = g.Reported}))

  exports_it : (m : Option Meaning) → Exports g j (export_by m) m
  exports_it None = has_nothing
  exports_it (Some m) = has_exported m

  pub taken_by : (tables : List Table) (front : List Imported) (n : List ℕ)
      → ((u : imports.Origin) × (m : Meaning) × Brings tables none front n u m)
      ⊎ ((u : imports.Origin) (m : Meaning) → Brings tables none front n u m → ⊥) → (b : Bool)
      × IsTaken tables front n b
  taken_by tables front n (inl q) = (true, by_import q.0 q.1 q.2)
  taken_by tables front n (inr c) = (false, by_none c)

  pub definitions_known : Lawful g j → DefinitionsAreKnown g j
  definitions_known lawful home m tables = let b = first_imports g j lawful home tables m.imports in
      let o = name_seen home tables in (
        (λ k name. export_by (exported_by name.name (slice_get tables k))),
        (λ name. (o name).0),
        (b.stand (λ name. (o name).0)).0,
        (λ n. (taken_by tables (all_imported m.imports) n (b.decided n)).0),
        record {
          of_names = λ name. (o name).1;
          of_modules =
              λ k name. exports_it (exported_by name.name (slice_get tables k));
        },
        (λ name. ((o name).2, (o name).3)),
        (b.stand (λ name. (o name).0)).1,
        (λ n. (taken_by tables (all_imported m.imports) n (b.decided n)).1),
      )
