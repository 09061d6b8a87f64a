-- What every module knows is what the rules say that is predeclared.
use Rattle.std.proofs.Common.{◌≡◌, ℕ, zero, suc, Bool, true, false, cond, List, [], ◌∷◌, length, Option, Some, None, Result, Ok, Err, refl, sym, ap, subst, ◌∙◌, arith}
use Rattle.std.specs.Prelude.{slice_get, nat_lt}
use Rattle.std.proofs.lemmas.Bool.Decides.{nat_tests}
use Rattle.m2_rule.specs.declared.breach.Breach.{Breach}
use Rattle.m2_rule.specs.declared.rule.Rule.TheVariants as rule
use Rattle.m2_tree.specs.declared.name.Ident.{Ident}
use Rattle.m2_tree.specs.Names.{same_name}
use Rattle.m2_tree.specs.declared.decl.Module.{Module}
use Rattle.typed_tree.specs.declared.meaning.Meaning.{Meaning}
use Rattle.typed_tree.specs.declared.table.Table.{Table}
use Rattle.typed_tree.specs.Names.{find_name}
use Rattle.check_scope.specs.declared.known.Known.{Known}
use Rattle.check_scope.specs.declared.known.Known.TheVariants.{Declared}
use Rattle.check_scope.specs.declared.known.Origin.{Origin}
use Rattle.check_scope.specs.declared.meaningless.Meaningless.{Meaningless}
use Rattle.check_scope.specs.declared.meaningless.Meaningless.TheVariants as meaningless
use Rattle.check_scope.specs.declared.scope.Scope.{Scope}
use Rattle.check_scope.specs.Elaborated.{Gathers}
use Rattle.check_scope.specs.Scopes.{looked_up, means_as, or_around, known_outside}
use Rattle.check_const.specs.Denote.{exported_by}
use Rattle.check_definition.specs.Predeclared.{predeclared_names, first_scope}
use Rattle.def_typing.specs.Operators.{◌!◌}
use Rattle.def_typing.specs.Things as things
use Rattle.def_typing.specs.Things.{Thing, Headless, Standing, Undeclared, Unknown}
use Rattle.def_typing.specs.Imports.{Imported, all_imported}
use Rattle.def_typed.specs.Modules.{exported_from}
use Rattle.law_typing.specs.Judging.{Judges}
use Rattle.law_typing.specs.Known.{standing, Sees, sees, sees_nothing, Exports, has_exported, has_nothing, Knows}
use Rattle.law_typing.proofs.Naming.{index, stands_at}
use Rattle.law_typing.proofs.Combining.{Lawful}
use Rattle.law_rules.specs.Standing.{StandsFor}
use Rattle.law_rules.specs.Defining.{none, IsTaken, AreSound}
use Rattle.law_rules.specs.Outside.{predeclared, known_or_undeclared, stands_predeclared, exported_or_not, stands_exported}
use Rattle.law_rules.proofs.Behind.{first_imports}
use Rattle.law_rules.proofs.Outside.{taken_by}
use Rattle.law_rules.proofs.Seeing.{looked_around, inner_some, inner_none}
use Rattle.law_rules.proofs.Starting.{meaning_headed}

-- names with what they mean, beside names with what they stand for
data Alike {T : Type 0} : List (List ℕ × Known T) → List (List ℕ × Thing) → Type 0 where
  none_alike : Alike [] []
  one_alike : (n : List ℕ) (o : Origin) (m : Meaning) (x : Thing) {ns : List (List ℕ × Known T)}
      {ds : List (List ℕ × Thing)} → standing m ≡ things.Known x → Alike ns ds
      → Alike ((n, Declared o (Ok m)) ∷ ns) ((n, x) ∷ ds)

data Beside {T : Type 0} : Option (Known T) → Option Thing → Type 0 where
  both_none : Beside None None
  both_some : (o : Origin) (m : Meaning) (x : Thing) → standing m ≡ things.Known x
      → Beside (Some (Declared o (Ok m))) (Some x)

module _ {T : Type 0} where
  beside_by : (b : Bool) {p : Option (Known T)} {d : Option Thing} (o : Origin) (m : Meaning) (x : Thing)
      → standing m ≡ things.Known x → Beside p d → Beside (cond b (Some (Declared o (Ok m))) p) (cond b (Some x) d)
  beside_by true o m x e r = both_some o m x e
  beside_by false o m x e r = r

  beside_at : {ns : List (List ℕ × Known T)} {ds : List (List ℕ × Thing)} → Alike ns ds → (n : List ℕ)
      → Beside (find_name n ns) (find_name n ds)
  beside_at none_alike n = both_none
  beside_at (one_alike k o m x e a) n = beside_by (same_name n k) o m x e (beside_at a n)

  predeclared_alike : Alike {T = T} predeclared_names predeclared
  unfolding predeclared_names
  predeclared_alike = one_alike _ _ _ _ refl
      (one_alike _ _ _ _ refl (one_alike _ _ _ _ refl
      (one_alike _ _ _ _ refl (one_alike _ _ _ _ refl (one_alike _ _ _ _ refl (one_alike _ _ _ _ refl (
      one_alike _ _ _ _ refl (one_alike _ _ _ _ refl
      (one_alike _ _ _ _ refl (one_alike _ _ _ _ refl
      (one_alike _ _ _ _ refl (one_alike _ _ _ _ refl (one_alike _ _ _ _ refl (
      one_alike _ _ _ _ refl (one_alike _ _ _ _ refl
      (one_alike _ _ _ _ refl (one_alike _ _ _ _ refl
      (one_alike _ _ _ _ refl (one_alike _ _ _ _ refl (one_alike _ _ _ _ refl none_alike))))))))))))))))))))

-- what stands in a list stands below its length
below : {A : Type 0} (xs : List A) (n : ℕ) (x : A) → slice_get xs n ≡ Some x → nat_lt n (length xs) ≡ true
below [] n x e = absurd cc
below (y ∷ xs) zero x e = grind (arith, nat_tests)
below (y ∷ xs) (suc n) x e = let h = below xs n x e in grind (arith, nat_tests, h)

module _ (g : Gathers) (j : Judges g) (home : ℕ) (tables : List Table) where
  -- the scope in which the predeclared names are the own ones
  abbrev all_own : Scope g.Reported
  all_own = record (first_scope home tables) { own = predeclared_names; outer = [] }

  sees_by : (name : Ident) {p : Option (Known g.Reported)} {d : Option Thing}
      → find_name name.name (predeclared_names {T = g.Reported}) ≡ p → Beside p d
      → Sees g j name.pos (known_or_undeclared d) (looked_up g (first_scope home tables) name)
  sees_by name e both_none = subst (λ (r : Result Meaning (Meaningless g.Reported)). Sees g j name.pos Undeclared r)
      (sym (inner_none g all_own (length (predeclared_names {T = g.Reported})) refl name e ∙ nothing)) sees_nothing
    where
      nothing : looked_up g all_own name ≡ Err (meaningless.Broken (g.one (name.pos ! rule.Undeclared)))
      nothing = looked_around g all_own 0 refl name
          ∙ ap (λ (k : Option (Known g.Reported)). means_as g name.pos (or_around k (known_outside name.name []))) e
  sees_by name e (both_some o m x q) =
      let s = stands_at name.name (predeclared_names {T = g.Reported}) (Declared o (Ok m)) e in
      subst (λ (r : Result Meaning (Meaningless g.Reported)). Sees g j name.pos (things.Known x) r)
      (sym (inner_some g all_own (length (predeclared_names {T = g.Reported})) refl name (Declared o (Ok m)) true e
      (below (predeclared_names {T = g.Reported}) (index name.name (predeclared_names {T = g.Reported}))
      (s.0, Declared o (Ok m)) s.1)))
      (subst (λ (t : Standing). Sees g j name.pos t (Ok m)) q (sees m))

  exports_it : (m : Option Meaning) → Exports g j (exported_or_not m) m
  exports_it None = has_nothing
  exports_it (Some m) = has_exported m

  exports_by : (name : Ident) (t : Option Table)
      → Exports g j (exported_or_not (exported_from name.name t)) (exported_by name.name t)
  exports_by name None = has_nothing
  exports_by name (Some t) = exports_it (find_name name.name t.exported)

  pub predeclared_known : Knows g j stands_predeclared (stands_exported tables) (first_scope home tables)
  predeclared_known = record {
    of_names = λ name. sees_by name refl (beside_at predeclared_alike name.name);
    of_modules = λ k name. exports_by name (slice_get tables k);
  }

-- No rule is broken there.
sound_by : {T : Type 0} {p : Option (Known T)} {d : Option Thing} → Beside p d → (known_or_undeclared d ≡ Unknown → ⊥)
    × ((b : Bool) → known_or_undeclared d ≡ things.Known (Headless b) → ⊥)
sound_by both_none = ((λ e. absurd cc), (λ b e. absurd cc))
sound_by (both_some o m x q) = ((λ e. absurd cc), (λ b e. meaning_headed m (q ∙ e)))

pub predeclared_sound : AreSound stands_predeclared
predeclared_sound name = sound_by (beside_at (predeclared_alike {T = Breach}) name.name)

-- ---- behind the imports of a definition or a program

abbrev pub Begins : (tables : List Table) → (front : List Imported) → Type 0
Begins tables front = (names : Ident → Standing) × (taken : List ℕ → Bool)
    × ((name : Ident) → StandsFor tables none front stands_predeclared name (names name))
    × ((n : List ℕ) → IsTaken tables front n (taken n))

pub names_known : (g : Gathers) (j : Judges g) → Lawful g j → (home : ℕ) (m : Module) (tables : List Table)
    → Begins tables (all_imported m.imports)
names_known g j lawful home m tables =
    let b = first_imports g j lawful home tables m.imports in (
      (b.stand stands_predeclared).0,
      (λ n. (taken_by g j tables (all_imported m.imports) n (b.decided n)).0),
      (b.stand stands_predeclared).1,
      (λ n. (taken_by g j tables (all_imported m.imports) n (b.decided n)).1),
    )
