-- What those who import a definition, and its own implementation, know of its table.
use Rattle.std.proofs.Common.{◌≡◌, ℕ, ◌==◌, Bool, true, false, cond, List, [], ◌∷◌, ◌++◌, Option, Some, None, Result, Ok, Err, inl, inr, refl, sym, ap, subst, ◌∙◌, arith}
use Rattle.std.specs.Prelude.{map, slice_get}
use Rattle.std.specs.List.{fold}
use Rattle.std.specs.Option.{is_some, option_map}
use Rattle.std.proofs.lemmas.Bool.Decides.{nat_tests}
use Rattle.m2_rule.specs.declared.rule.Rule.TheVariants as rule
use Rattle.m2_rule.specs.declared.breach.Breach.{Breach}
use Rattle.m2_tree.specs.declared.pos.Pos.{Pos}
use Rattle.m2_tree.specs.declared.name.Ident.{Ident}
use Rattle.m2_tree.specs.declared.decl.Def.{Def}
use Rattle.m2_tree.specs.declared.decl.Contents.{Contents}
use Rattle.m2_tree.specs.declared.decl.Contents.TheVariants as contents
use Rattle.m2_tree.specs.declared.decl.Module.{Module}
use Rattle.typed_tree.specs.declared.known_types.Types.{Types}
use Rattle.typed_tree.specs.declared.meaning.Meaning.{Meaning}
use Rattle.typed_tree.specs.declared.meaning.Meaning.TheVariants as meaning
use Rattle.typed_tree.specs.declared.table.Table.{Table}
use Rattle.typed_tree.specs.Names.{find_name}
use Rattle.check_scope.specs.declared.known.Known.{Known}
use Rattle.check_scope.specs.declared.known.Known.TheVariants as known
use Rattle.check_scope.specs.declared.known.Origin.TheVariants.{Here, Module as Of_module, Export}
use Rattle.check_scope.specs.declared.scope.Scope.{Scope}
use Rattle.check_scope.specs.declared.meaningless.Meaningless.{Meaningless}
use Rattle.check_scope.specs.declared.scope.OpenedRecord.{OpenedRecord}
use Rattle.check_scope.specs.Scopes.{looked_up, known_outside, or_around, means_as, means_or, open_field}
use Rattle.check_const.specs.Denote.{exported_by}
use Rattle.check_scope.specs.Elaborated.{Gathers, report}
use Rattle.m2_tree.specs.Names.{same_name}
use Rattle.check_definition.specs.Predeclared.{console, first_scope}
use Rattle.check_definition.specs.Importing.{numbered_modules}
use Rattle.check_definition.specs.Export.{with_meaning, with_known, with_export}
use Rattle.check_definition.specs.Compiled.{table_or, declared_in, of_contents, definition_table}
use Rattle.def_typing.specs.Things.{Standing}
use Rattle.def_typing.specs.Parts.{Among, here, later}
use Rattle.def_typing.specs.Declarations.{Declaration}
use Rattle.def_typing.specs.Definitions.{Context, Placed, AllFollow, nothing_follows, one_follows}
use Rattle.def_typing.specs.Imports.{Entry, Imported, all_imported}
use Rattle.law_typing.specs.Judging.{Judges}
use Rattle.law_typing.specs.Exact.{standing, Sees, sees, Exports as Exports_as, has_exported, Knows, is_own_variable, TakenAs, is_taken, awaits, not_taken, AreOnce, no_names, one_name}
use Rattle.law_typing.proofs.Heading.{nil_right, append_assoc}
use Rattle.law_typing.proofs.Declaring.{clash}
use Rattle.law_typing.proofs.Combining.{Lawful}
use Rattle.law_typing.proofs.Entering.{once_more}
use Rattle.law_rules.specs.Importing.{with_declared}
use Rattle.law_rules.specs.Defining.{IsTable, IsAnswered, is_table, is_refused, IsDefinitionExact}
use Rattle.law_rules.specs.Exports.{IsEntry, a_constant, a_type, a_variable, a_procedure, Lists, no_name, a_name, AreModules, AreExported, nothing_exported, one_exports}
use Rattle.law_rules.specs.Importers.{IsTableOf, is_answered, CanBeImported, of_console, of_definition, TablesAreForeign, awaits_heading, OwnNamesAreKnown, NamesAgree}
use Rattle.law_rules.proofs.Among.{among_split}
use Rattle.law_rules.proofs.Keys.{entered_last, entered_other, there_found}
use Rattle.law_rules.proofs.Finding.{Finds}
use Rattle.law_rules.proofs.Starting.{definitions_answer}
use Rattle.law_rules.proofs.Outside.{definitions_known}

-- ---- numbers of modules

home_at : {exports : ℕ → Ident → Standing} {c last : Context} {ds : List Declaration} {ps : List Placed}
    → AllFollow exports c ds ps last → (p : Placed) → Among p ps → p.at.types.home ≡ c.types.home
home_at nothing_follows p m = elim m [ ]
home_at (one_follows a f k) _ here = refl
home_at (one_follows a f k) p (later m) = home_at k p m ∙ ap (λ (t : Types). t.home) f.types

pub two_numbers : (a b : ℕ) → (a ≡ b → ⊥) → (a == b) ≡ false
two_numbers a b c = by (a == b) refl
  where
    by : (t : Bool) → (a == b) ≡ t → t ≡ false
    by true e = let z : a ≡ b = grind (arith, nat_tests, e) in absurd (c z)
    by false e = refl

module _ {T : Type 0} (s : Scope T) where
  foreign_entry : {home v p : ℕ} {d : Declaration} {x : Ident} {m : Meaning} → IsEntry home v p d x m
      → (home ≡ s.types.home → ⊥) → is_own_variable s m ≡ false
  foreign_entry a_constant c = refl
  foreign_entry a_type c = refl
  foreign_entry {home = home} (a_variable before behind q) c = two_numbers home s.types.home c
  foreign_entry a_procedure c = refl

  foreign_list : {Is : Ident → Meaning → Type 0} {xs : List Ident} {es : List Entry}
      → ((x : Ident) (m : Meaning) → Is x m → is_own_variable s m ≡ false) → Lists Is xs es → (e : Entry) → Among e es
      → is_own_variable s e.1 ≡ false
  foreign_list h no_name e m = elim m [ ]
  foreign_list h (a_name {x = x} {m = w} i l) _ here = h x w i
  foreign_list h (a_name i l) e (later m) = foreign_list h l e m

  foreign_exports : {exports : ℕ → Ident → Standing} {v p : ℕ} {ds : List Placed} {es : List Entry}
      → AreExported exports v p ds es → ((d : Placed) → Among d ds → d.at.types.home ≡ s.types.home → ⊥) → (e : Entry)
      → Among e es → is_own_variable s e.1 ≡ false
  foreign_exports nothing_exported h e m = elim m [ ]
  foreign_exports (one_exports {d = d} {own = own} {constants = constants} l c k) h e m = elim (among_split own m) [
    | inl y ↦ foreign_list (λ x w i. foreign_entry i.entry (h d here)) l e y
    | inr z ↦ elim (among_split constants z) [
      | inl y ↦ foreign_list (λ x w i. subst (λ (m : Meaning). is_own_variable s m ≡ false) (sym i.2) refl) c e y
      | inr y ↦ foreign_exports k (λ d n. h d (later n)) e y
    ]
  ]

-- ---- names that are exported once

meaning_once : {E : Type 0} (so : List Entry) (n : List ℕ) (m : Result Meaning E) → AreOnce so
    → AreOnce (with_meaning so n m)
meaning_once so n (Ok m) o = once_more n m o
meaning_once so n (Err e) o = o

module _ {T : Type 0} where
  export_once : (so : List Entry) (n : List ℕ) (k : Known T) → AreOnce so → AreOnce (with_known so n k)
  export_once so n known.Later o = o
  export_once so n known.Ahead o = o
  export_once so n known.Begun o = o
  export_once so n (known.Headed m) o = meaning_once so n m o
  export_once so n (known.Declared Here m) o = meaning_once so n m o
  export_once so n (known.Declared (Of_module k) m) o = o
  export_once so n (known.Declared (Export k) m) o = o

  exports_once : (own : List (List ℕ × Known T)) (so : List Entry) → AreOnce so → AreOnce (fold with_export so own)
  exports_once [] so o = o
  exports_once (e ∷ es) so o = exports_once es (with_export so e) (export_once so e.0 e.1 o)

  abbrev known_of : Entry → List ℕ × Known T
  known_of e = (e.0, known.Declared Here (Ok e.1))

  own_list : {es : List Entry} → AreOnce es → (so : List (List ℕ × Known T))
      → ((e : Entry) → Among e es → find_name e.0 so ≡ None) → fold with_declared so es ≡ so ++ map known_of es
  own_list no_names so h = sym (nil_right so)
  own_list (one_name {e = e} {es = es} n o) so h =
      own_list o (with_declared so e) (λ f m. entered_other e.0 f.0 (known.Declared Here (Ok e.1)) so
      (λ q. there_found f es m (subst (λ (k : List ℕ). find_name k es ≡ None) q n)) ∙ h f (later m))
      ∙ ap (λ (ks : List (List ℕ × Known T)). ks ++ map known_of es)
      (entered_last e.0 (known.Declared Here (Ok e.1)) so (h e here))
      ∙ append_assoc so (known_of e ∷ []) (map known_of es)

  abbrev own_known : Option Meaning → Option (Known T)
  own_known o = option_map (λ (m : Meaning). let k : Known T = known.Declared Here (Ok m) in k) o

  found_by : (b : Bool) (m : Meaning) (o : Option Meaning) (k : Option (Known T)) → k ≡ own_known o
      → cond b (Some (known.Declared Here (Ok m))) k ≡ own_known (cond b (Some m) o)
  found_by true m o k q = refl
  found_by false m o k q = q

  found_own : (n : List ℕ) (es : List Entry) → find_name n (map known_of es) ≡ own_known (find_name n es)
  found_own n [] = refl
  found_own n (e ∷ es) = found_by (same_name n e.0) e.1 (find_name n es) (find_name n (map known_of es))
      (found_own n es)

-- ---- a table that is answered

module _ (g : Gathers) (j : Judges g) (lawful : Lawful g j) (found : Finds g j) where
  -- what it exports, by the rules
  pub record Answered (number : ℕ) (t : Table) : Type 0 where
    pub exports : ℕ → Ident → Standing
    pub whole : List Placed
    pub homes : (p : Placed) → Among p whole → p.at.types.home ≡ number
    pub exported : AreExported exports 0 0 whole t.exported
    pub numbered : t.number ≡ number
    pub tables : List Table
    pub front : List Imported
    pub imported : AreModules tables front t.imports

  lonely : (m : Module) {t : Table} → ◌≡◌ {A = Result Table g.Reported} (report g m.name.pos rule.LonelyModule) (Ok t)
      → ⊥
  lonely m q = absurd cc

  one_table : {a b : Table} → ◌≡◌ {A = Result Table g.Reported} (Ok a) (Ok b) → a ≡ b
  one_table q = cc

  answered_by : {number : ℕ} {m : Module} {given tables : List Table} {exports : ℕ → Ident → Standing}
      {names : Ident → Standing} {taken : List ℕ → Bool} {defs : List Def} {t : Table}
      → IsDefinitionExact g j number m given tables exports names taken defs → definition_table g number m given ≡ Ok t
      → Answered number t
  answered_by {number = number} {m = m} {tables = tables} {exports = exports} {t = t} d q = by d.answered q
    where
      by : {Breaks : Breach → Type 0} {r : Result Table g.Reported}
          → IsAnswered g j (IsTable number m tables exports d.whole d.last) Breaks r → r ≡ Ok t → Answered number t
      by (is_table u i n) q = record {
        exports = exports;
        whole = d.whole;
        homes = λ p w. home_at d.follow p w;
        exported = subst (λ (t : Table). AreExported exports 0 0 d.whole t.exported) (one_table q) i.of_exports;
        numbered = subst (λ (t : Table). t.number ≡ number) (one_table q) i.of_number;
        tables = tables;
        front =
            all_imported m.imports;
        imported = subst (λ (t : Table). AreModules tables (all_imported m.imports) t.imports)
            (one_table q) i.of_imports;
      }
      by (is_refused r a f b) q = absurd cc

  answered_of : (number : ℕ) (m : Module) (given : List Table) (t : Table) → definition_table g number m given ≡ Ok t
      → (c : Contents) → m.contents ≡ c → Answered number t
  answered_of number m given t q (contents.Definition defs) e =
      let k = definitions_known g j lawful number m (given ++ console ∷ []) in
      answered_by (definitions_answer g j lawful found number m given (given ++ console ∷ []) refl k.0 k.1 k.2 k.4 k.5
      k.6 k.3 k.7 defs e) q
  answered_of number m given t q (contents.Implementation b) e =
      absurd (lonely m (sym (ap (λ (c : Contents). of_contents g number m (given ++ console ∷ []) c) e) ∙ q))
  answered_of number m given t q (contents.Program b) e =
      absurd (lonely m (sym (ap (λ (c : Contents). of_contents g number m (given ++ console ∷ []) c) e) ∙ q))

  pub answered : {number : ℕ} {t : Table} → IsTableOf g number t → Answered number t
  answered {number = number} {t = t} (is_answered m given q) = answered_of number m given t q m.contents refl

  -- ---- those who import

  console_foreign : (s : Scope g.Reported) (e : Entry) → Among e console.exported → is_own_variable s e.1 ≡ false
  unfolding console
  console_foreign s _ here = refl
  console_foreign s e (later m) = elim m [ ]

  foreign_by : (s : Scope g.Reported) (t : Table) (e : Entry) → Among e t.exported → CanBeImported g s.types.home t
      → is_own_variable s e.1 ≡ false
  foreign_by s t e n (of_console q) = console_foreign s e (subst (λ (t : Table). Among e t.exported) q n)
  foreign_by s t e n (of_definition number w c) = let a = answered w in
      foreign_exports s a.exported (λ d i q. c (sym (a.homes d i) ∙ q)) e n

  pub tables_foreign : TablesAreForeign g
  tables_foreign s h t m e n = foreign_by s t e n (h t m)

  -- ---- the own implementation

  table_once : (m : Module) (modules : List (List ℕ × ℕ)) (s : Scope g.Reported) (r : Result (Unit {0}) g.Reported)
      {t : Table} → table_or m modules s r ≡ Ok t → AreOnce t.exported
  table_once m modules s (Ok x) q = subst (λ (t : Table). AreOnce t.exported) (one_table q)
      (exports_once s.own [] no_names)
  table_once m modules s (Err e) q = absurd cc

  contents_once : (number : ℕ) (m : Module) (tables : List Table) {t : Table} (c : Contents)
      → of_contents g number m tables c ≡ Ok t → AreOnce t.exported
  contents_once number m tables (contents.Definition defs) q =
      let modules = (numbered_modules tables).0 in
      let st = declared_in g m modules (first_scope number tables) defs in table_once m modules st.0 st.1 q
  contents_once number m tables (contents.Implementation b) q = absurd (lonely m q)
  contents_once number m tables (contents.Program b) q = absurd (lonely m q)

  taken_by : (o : Option Meaning) → TakenAs g j (is_some o) (awaits_heading o)
      (option_map (λ (m : Meaning). let k : Known g.Reported = known.Declared Here (Ok m) in k) o)
  taken_by None = not_taken
  taken_by (Some (meaning.Procedure p)) = awaits p
  taken_by (Some (meaning.Constant v)) = is_taken refl
  taken_by (Some (meaning.Type t n)) = is_taken refl
  taken_by (Some (meaning.Variable v)) = is_taken refl
  taken_by (Some (meaning.Local v)) = is_taken refl
  taken_by (Some (meaning.Field f)) = is_taken refl
  taken_by (Some (meaning.LocalProcedure p)) = is_taken refl
  taken_by (Some meaning.Ahead) = is_taken refl
  taken_by (Some (meaning.Standard f)) = is_taken refl
  taken_by (Some (meaning.Module k)) = is_taken refl

  own_taken : (es : List Entry) → AreOnce es → (s : Scope g.Reported) → s.own ≡ fold with_declared [] es → (n : List ℕ)
      → TakenAs g j (is_some (find_name n es)) (awaits_heading (find_name n es)) (find_name n s.own)
  own_taken es o s q n = subst (λ (k : Option (Known g.Reported)). TakenAs g j (is_some (find_name n es))
      (awaits_heading (find_name n es)) k)
      (sym (ap (λ (own : List (List ℕ × Known g.Reported)). find_name n own) (q ∙ own_list o [] (λ e m. refl))
      ∙ found_own n es)) (taken_by (find_name n es))

  pub own_names : OwnNamesAreKnown g j
  own_names number t (is_answered m given q) = let o = contents_once number m (given ++ console ∷ []) m.contents q in
      (o, λ s e n. own_taken t.exported o s e n)

  -- ---- names stand for the same

  meanings_of : {number : ℕ} {m : Module} {given tables : List Table} {exports : ℕ → Ident → Standing}
      {names : Ident → Standing} {taken : List ℕ → Bool} {defs : List Def} {t : Table}
      (d : IsDefinitionExact g j number m given tables exports names taken defs)
      → definition_table g number m given ≡ Ok t → (x : Ident) (n : Meaning) → find_name x.name t.exported ≡ Some n
      → d.last.names x ≡ standing n
  meanings_of {number = number} {m = m} {tables = tables} {exports = exports} {t = t} d q x n e = by d.answered q
    where
      by : {Breaks : Breach → Type 0} {r : Result Table g.Reported}
          → IsAnswered g j (IsTable number m tables exports d.whole d.last) Breaks r → r ≡ Ok t
          → d.last.names x ≡ standing n
      by (is_table u i c) q = i.of_meanings x n (ap (λ (t : Table). find_name x.name t.exported) (one_table q) ∙ e)
      by (is_refused r a f b) q = absurd cc

  seen_as : {at : Pos} {t : Standing} {n : Meaning} → Sees g j at t (Ok n) → t ≡ standing n
  seen_as (sees n) = refl

  exported_as : {t : Standing} {n : Meaning} → Exports_as g j t (Some n) → t ≡ standing n
  exported_as (has_exported n) = refl

  abbrev looked_with : Scope g.Reported → Ident → Option (Known g.Reported) → Result Meaning (Meaningless g.Reported)
  looked_with s x k = means_as g x.pos (or_around k (known_outside x.name s.outer))

  looked_own : (s : Scope g.Reported) (x : Ident) (n : Meaning) → s.withs ≡ []
      → find_name x.name s.own ≡ Some (known.Declared Here (Ok n)) → looked_up g s x ≡ Ok n
  looked_own s x n w q = ap (λ (ws : List OpenedRecord). means_or (open_field s.types x.name ws)
      (looked_with s x (find_name x.name s.own))) w ∙ ap (λ (k : Option (Known g.Reported)). looked_with s x k) q

  agrees_by : (es : List Entry) → AreOnce es → (x : Ident) (last : Standing)
      → ((n : Meaning) → find_name x.name es ≡ Some n → last ≡ standing n)
      → (s : Scope g.Reported) (inside : Ident → Standing) (others : ℕ → Ident → Standing) → Knows g j inside others s
      → (o : Option Meaning) → find_name x.name es ≡ o → is_some o ≡ true
      → (s.withs ≡ [] → s.own ≡ fold with_declared [] es → inside x ≡ last)
      × ((t : Table) → t.exported ≡ es → (k : ℕ) → slice_get s.tables k ≡ Some t → others k x ≡ last)
  agrees_by es o x last h s inside others k None e b = absurd (clash b refl)
  agrees_by es o x last h s inside others k (Some n) e b = (
    (λ w q. seen_as (subst (λ (r : Result Meaning (Meaningless g.Reported)). Sees g j x.pos (inside x) r)
        (looked_own s x n w (ap (λ (own : List (List ℕ × Known g.Reported)). find_name x.name own)
        (q ∙ own_list o [] (λ e m. refl)) ∙ found_own x.name es ∙ ap (λ (o : Option Meaning). own_known o) e))
        (k.of_names x)) ∙ sym (h n e)),
    (λ t q i z. exported_as (subst (λ (m : Option Meaning). Exports_as g j (others i x) m)
        (ap (λ (t : Option Table). exported_by x.name t) z ∙ ap (λ (es : List Entry). find_name x.name es) q ∙ e)
        (k.of_modules i x)) ∙ sym (h n e)),
  )

  pub names_agree : NamesAgree g j
  names_agree home m imported tables exports names taken defs d t q x e s inside others k =
      let z = agrees_by t.exported (contents_once home m (imported ++ console ∷ []) m.contents q) x (d.last.names x)
      (λ n w. meanings_of d q x n w) s inside others k (find_name x.name t.exported) refl e in (z.0, z.1 t refl)
