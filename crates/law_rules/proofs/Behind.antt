-- What a scope knows behind imports.
use Rattle.std.proofs.Common.{◌≡◌, ℕ, Bool, true, false, List, [], ◌∷◌, ◌++◌, Option, Some, None, Result, Ok, ◌⊎◌, inl, inr, refl, sym, ap, subst, ◌∙◌}
use Rattle.std.specs.Prelude.{slice_get, take, drop}
use Rattle.std.proofs.lemmas.List.{take-append-drop}
use Rattle.m2_rule.specs.declared.breach.Breach.{Breach}
use Rattle.m2_tree.specs.declared.name.Ident.{Ident}
use Rattle.m2_tree.specs.declared.decl.Import.{Import}
use Rattle.typed_tree.specs.declared.meaning.Meaning.{Meaning}
use Rattle.typed_tree.specs.declared.meaning.Meaning.TheVariants as meaning
use Rattle.typed_tree.specs.declared.types.TypeNo.{TypeNo}
use Rattle.typed_tree.specs.declared.table.Table.{Table}
use Rattle.typed_tree.specs.Names.{find_name}
use Rattle.check_scope.specs.declared.known.Known.{Known}
use Rattle.check_scope.specs.declared.known.Known.TheVariants as known
use Rattle.check_scope.specs.declared.meaningless.Meaningless.{Meaningless}
use Rattle.check_scope.specs.declared.scope.OpenedRecord.{OpenedRecord}
use Rattle.check_scope.specs.declared.scope.Scope.{Scope}
use Rattle.check_scope.specs.Elaborated.{Gathers}
use Rattle.check_scope.specs.Scopes.{State, looked_up, known_outside, or_around, means_as, means_or, open_field}
use Rattle.check_definition.specs.Predeclared.{first_scope}
use Rattle.check_const.specs.Denote.{exported_by}
use Rattle.check_block.specs.Headings.{standing_from}
use Rattle.check_block.specs.declared.heading.Standing.TheVariants as place
use Rattle.def_typing.specs.Things.{Standing}
use Rattle.law_typing.specs.Judging.{Judges, Reports, reports_nothing, reports_broken}
use Rattle.law_typing.specs.Exact.{standing, is_own_variable, Sees, sees, Exports, Knows, KnowsOwn, TakenAs, is_taken}
use Rattle.law_typing.proofs.Blocks.{block_answers}
use Rattle.def_typing.specs.Parts.{Among, here, later}
use Rattle.law_typing.proofs.Combining.{Lawful, Tells, silent, tells}
use Rattle.def_typing.specs.Imports.{Imported, all_imported, IsFoundAt, found_here, found_later, names_with, Origin, Itself, Exported, Gives, gives_module, gives_names, is_there, is_given, Brings}
use Rattle.law_rules.specs.Importing as exact
use Rattle.law_rules.specs.Importing.{origin, OwnAs, not_own, StandsFor, AreForeign, imported_all, AreImportsExact}
use Rattle.law_rules.proofs.ImportsImporting.{KnownBy, brought_in, as_before, Behind, knows_imports}

same_meaning : {R : Type 0} {a b : Meaning} → ◌≡◌ {A = Result Meaning R} (Ok a) (Ok b) → a ≡ b
same_meaning e = cc

origin_taken : {T : Type 0} (u : Origin) (r : Result Meaning T) → standing_from (origin u) r ≡ place.Taken
origin_taken (Itself k) r = refl
origin_taken (Exported k) r = refl

-- ---- what tables have

module _ {A : Type 0} where
  found_among : {P : A → Type 0} {a : A} {xs : List A} {k : ℕ} → IsFoundAt P a xs k → Among a xs
  found_among (found_here p) = here
  found_among (found_later n f) = later (found_among f)

  among_left : {a : A} {xs : List A} (ys : List A) → Among a xs → Among a (xs ++ ys)
  among_left ys here = here
  among_left ys (later m) = later (among_left ys m)

  among_right : {a : A} (xs : List A) {ys : List A} → Among a ys → Among a (xs ++ ys)
  among_right [] m = m
  among_right (x ∷ xs) m = later (among_right xs m)

  among_part : {a : A} (n i : ℕ) (xs : List A) → Among a (take n (drop i xs)) → Among a xs
  among_part {a = a} n i xs m =
      let z : Among a (drop i xs) = subst (λ (ys : List A). Among a ys) (take-append-drop n (drop i xs))
      (among_left (drop n (drop i xs)) m) in
      subst (λ (ys : List A). Among a ys) (take-append-drop i xs) (among_right (take i xs) z)

module _ {T : Type 0} (s : Scope T) (own : List ℕ → Bool) (foreign : AreForeign s) where
  foreign_given : {B : List ℕ → Origin → Meaning → Type 0} {x : Imported} {n : List ℕ} {o : Origin} {m : Meaning}
      → Gives s.tables own B x n o m → is_own_variable s m ≡ false
  foreign_given (gives_module h) = refl
  foreign_given (gives_names {t = t} {i = i} {e = e} {c = c} h f new z) =
      foreign t (found_among h) c (among_part (names_with e.1) i t.exported (found_among z))

  foreign_brought : (front : List Imported) (n : List ℕ) (o : Origin) (m : Meaning) → Brings s.tables own front n o m
      → is_own_variable s m ≡ false
  foreign_brought [] n o m b = absurd b
  foreign_brought (x ∷ front) n o m (is_there b) = foreign_brought front n o m b
  foreign_brought (x ∷ front) n o m (is_given a q) = foreign_given q

  own_elsewhere : (names : List (List ℕ × Known T)) (m : Meaning)
      → is_own_variable (record s { own = names }) m ≡ is_own_variable s m
  own_elsewhere names (meaning.Constant v) = refl
  own_elsewhere names (meaning.Type t n) = refl
  own_elsewhere names (meaning.Variable v) = refl
  own_elsewhere names (meaning.Local v) = refl
  own_elsewhere names (meaning.Field f) = refl
  own_elsewhere names (meaning.Procedure p) = refl
  own_elsewhere names (meaning.LocalProcedure p) = refl
  own_elsewhere names meaning.Ahead = refl
  own_elsewhere names (meaning.Standard f) = refl
  own_elsewhere names (meaning.Module k) = refl

module _ (g : Gathers) (j : Judges g) (lawful : Lawful g j) (own : List ℕ → Bool) (start : Scope g.Reported)
    (owns : (n : List ℕ) → OwnAs (own n) (find_name n start.own)) (imports : List Import) where
  abbrev There : List ℕ → Origin → Meaning → Type 0
  There = Brings start.tables own (all_imported imports)

  abbrev KA : List ℕ → Option (Known g.Reported) → Type 0
  KA n k = KnownBy g j lawful own start owns There n k

  abbrev end : State (Unit {0}) g.Reported
  end = imported_all g start imports

  all : Behind g j lawful own start owns (all_imported imports) end
  all = knows_imports g j lawful own start owns imports

  reports : {B : Breach → Type 0} {r : Result (Unit {0}) g.Reported} → Tells g j lawful (λ f. ⊥) B r
      → Reports g j (λ f. ⊥) B r
  reports (silent n) = reports_nothing n
  reports (tells r a) = reports_broken r a

  -- ---- one name

  brought_is : {n : List ℕ} {k : Option (Known g.Reported)} (u : Origin) (m : Meaning) → There n u m → KA n k
      → k ≡ Some (known.Declared (origin u) (Ok m))
  brought_is u m b (brought_in {u = v} {m = w} o c only) = let z = only u m b in
      ap (λ (v : Origin). Some (known.Declared (origin v) (Ok w))) (sym z.0)
      ∙ ap (λ (w : Meaning). Some (known.Declared (origin u) (Ok w))) (sym z.1)
  brought_is u m b (as_before c e) = absurd (c u m b)

  other_is : {n : List ℕ} {k : Option (Known g.Reported)} → ((u : Origin) (m : Meaning) → There n u m → ⊥) → KA n k
      → k ≡ find_name n start.own
  other_is c (brought_in {u = u} {m = m} o b only) = absurd (c u m b)
  other_is c (as_before d e) = e

  is_decided : {n : List ℕ} {k : Option (Known g.Reported)} → KA n k → ((u : Origin) × (m : Meaning) × There n u m)
      ⊎ ((u : Origin) (m : Meaning) → There n u m → ⊥)
  is_decided (brought_in {u = u} {m = m} o b only) = inl (u, m, b)
  is_decided (as_before c e) = inr c

  stands_by : (outside : Ident → Standing) (name : Ident) {k : Option (Known g.Reported)} → KA name.name k
      → (x : Standing) × StandsFor start.tables own (all_imported imports) outside name x
  stands_by outside name (brought_in {u = u} {m = m} o b only) = (standing m, exact.imported u m b)
  stands_by outside name (as_before c e) = (outside name, exact.from_outside c)

  taken_by : (before : List ℕ → Bool) (waits : List ℕ → Option TypeNo)
      → ((n : List ℕ) → TakenAs g j (before n) (waits n) (find_name n start.own))
      → (n : List ℕ) {k : Option (Known g.Reported)} → KA n k → (b : Bool) × (t : Option TypeNo) × TakenAs g j b t k
  taken_by before waits t n (brought_in {u = u} {m = m} o b only) = (true, None, is_taken (origin_taken u (Ok m)))
  taken_by before waits t n (as_before c e) =
      (before n, waits n, subst (λ (k : Option (Known g.Reported)). TakenAs g j (before n) (waits n) k) (sym e) (t n))

  mine_by : (outer : Ident → Bool) (name : Ident) {k : Option (Known g.Reported)} → KA name.name k → (b : Bool)
      × exact.IsOwn start.tables own (all_imported imports) outer name b
  mine_by outer name (brought_in {u = u} {m = m} o b only) = (false, exact.is_imported u m b)
  mine_by outer name (as_before c e) = (outer name, exact.of_outside c)

  -- ---- what names stand for

  module _ (no_withs : start.withs ≡ []) where
    abbrev looked : Option (Known g.Reported) → Ident → Result Meaning (Meaningless g.Reported)
    looked k name = means_as g name.pos (or_around k (known_outside name.name start.outer))

    looked_in : (own : List (List ℕ × Known g.Reported)) (name : Ident)
        → looked_up g (record start { own = own }) name ≡ looked (find_name name.name own) name
    looked_in own name = ap (λ (ws : List OpenedRecord). means_or (open_field start.types name.name ws)
        (means_as g name.pos (or_around (find_name name.name own) (known_outside name.name start.outer)))) no_withs

    looked_end : (name : Ident) → looked_up g end.0 name ≡ looked (find_name name.name end.0.own) name
    looked_end name = ap (λ (s : Scope g.Reported). looked_up g s name) all.0.same ∙ looked_in end.0.own name

    withs_end : end.0.withs ≡ []
    withs_end = ap (λ (s : Scope g.Reported). s.withs) all.0.same ∙ no_withs

    module _ (foreign : AreForeign start) (outer : Ident → Bool) (owned : KnowsOwn g j outer start) where
      own_end : (m : Meaning) → is_own_variable end.0 m ≡ is_own_variable start m
      own_end m = ap (λ (s : Scope g.Reported). is_own_variable s m) all.0.same
          ∙ own_elsewhere start own foreign end.0.own m

      owns_by : (name : Ident) {k : Option (Known g.Reported)} {b : Bool} → KA name.name k
          → exact.IsOwn start.tables own (all_imported imports) outer name b → (m : Meaning) → looked k name ≡ Ok m
          → b ≡ is_own_variable start m
      owns_by name (brought_in {u = u} {m = w} o b only) (exact.is_imported v x c) m e =
          sym (foreign_brought start own foreign (all_imported imports) name.name u w b)
          ∙ ap (λ (w : Meaning). is_own_variable start w) (same_meaning e)
      owns_by name (brought_in {u = u} {m = w} o b only) (exact.of_outside c) m e = absurd (c u w b)
      owns_by name (as_before c q) (exact.is_imported v x b) m e = absurd (c v x b)
      owns_by name (as_before c q) (exact.of_outside d) m e =
          owned name m (looked_in start.own name ∙ ap (λ (k : Option (Known g.Reported)). looked k name) (sym q) ∙ e)

      owns_end : (mine : Ident → Bool) → ((name : Ident)
          → exact.IsOwn start.tables own (all_imported imports) outer name (mine name)) → KnowsOwn g j mine end.0
      owns_end mine h name m e = owns_by name (all.0.names name.name) (h name) m (sym (looked_end name) ∙ e)
          ∙ sym (own_end m)

  module _ (exports : ℕ → Ident → Standing) (outside : Ident → Standing) (knows : Knows g j outside exports start)
      (no_withs : start.withs ≡ []) where
    seen_by : (name : Ident) {k : Option (Known g.Reported)} {x : Standing} → KA name.name k
        → StandsFor start.tables own (all_imported imports) outside name x
        → Sees g j name.pos x (looked no_withs k name)
    seen_by name (brought_in {u = u} {m = m} o b only) (exact.imported v w c) =
        subst (λ (w : Meaning). Sees g j name.pos (standing w) (Ok m)) (sym (only v w c).1) (sees m)
    seen_by name (brought_in {u = u} {m = m} o b only) (exact.from_outside c) = absurd (c u m b)
    seen_by name (as_before c e) (exact.imported v w b) = absurd (c v w b)
    seen_by name (as_before c e) (exact.from_outside d) =
        subst (λ (k : Option (Known g.Reported)). Sees g j name.pos (outside name) (looked no_withs k name)) (sym e)
        (subst (λ (r : Result Meaning (Meaningless g.Reported)). Sees g j name.pos (outside name) r)
        (looked_in no_withs start.own name) (knows.of_names name))

    knows_end : (names : Ident → Standing)
        → ((name : Ident) → StandsFor start.tables own (all_imported imports) outside name (names name))
        → Knows g j names exports end.0
    knows_end names h = record {
      of_names = λ name. subst (λ (r : Result Meaning (Meaningless g.Reported)). Sees g j name.pos (names name) r)
          (sym (looked_end no_withs name)) (seen_by name (all.0.names name.name) (h name));
      of_modules = λ k name. subst (λ (s : Scope g.Reported). Exports g j (exports k name)
          (exported_by name.name (slice_get s.tables k))) (sym all.0.same) (knows.of_modules k name);
    }

  pub imports_answer : AreImportsExact g j own start imports
  imports_answer = record {
    reported = reports all.1;
    brought = λ n u m b. brought_is u m b (all.0.names n);
    other = λ n c. other_is c (all.0.names n);
    decided = λ n. is_decided (all.0.names n);
    rest = all.0.same;
    stand = λ outside. (
      (λ name. (stands_by outside name (all.0.names name.name)).0),
      (λ name. (stands_by outside name (all.0.names name.name)).1),
    );
    known = λ exports outside names knows e h. knows_end exports outside knows e names h;
    counts = λ outer. (
      (λ name. (mine_by outer name (all.0.names name.name)).0),
      (λ name. (mine_by outer name (all.0.names name.name)).1),
    );
    counted = λ foreign outer mine e owned h. owns_end e foreign outer owned mine h;
    block = λ exports outside names knows e h taken awaited t ends first ds. block_answers g j lawful exports names
        end.0 taken awaited (knows_end exports outside knows e names h) (withs_end e) t ends first ds;
    takes = λ before waits t. (
      (λ n. (taken_by before waits t n (all.0.names n)).0),
      (λ n. (taken_by before waits t n (all.0.names n)).1),
      (λ n. (taken_by before waits t n (all.0.names n)).2),
    );
  }

pub first_imports : (g : Gathers) (j : Judges g) → Lawful g j → (home : ℕ) (tables : List Table) (imports : List Import)
    → AreImportsExact g j (λ n. false) (first_scope home tables) imports
first_imports g j lawful home tables imports =
    imports_answer g j lawful (λ n. false) (first_scope home tables) (λ n. not_own refl) imports
