-- Implementations are answered exactly.
use Rattle.std.proofs.Common.{◌≡◌, ℕ, ◌<◌, Bool, true, false, cond, List, [], ◌∷◌, ◌++◌, length, Option, Some, None, Result, Ok, Err, ◌⊎◌, inl, inr, refl, sym, ap, subst, ◌∙◌, arith, append_assoc, append-nil}
use Rattle.std.specs.List.{fold}
use Rattle.std.specs.Option.{is_some}
use Rattle.m2_rule.specs.declared.breach.Breach.{Breach}
use Rattle.m2_rule.specs.declared.rule.Rule.TheVariants as rule
use Rattle.m2_tree.specs.Names.{same_name}
use Rattle.m2_tree.specs.declared.name.Ident.{Ident}
use Rattle.m2_tree.specs.declared.decl.Block.{Block}
use Rattle.m2_tree.specs.declared.decl.Contents.{Contents}
use Rattle.m2_tree.specs.declared.decl.Contents.TheVariants as contents
use Rattle.m2_tree.specs.declared.decl.Module.{Module}
use Rattle.typed_tree.specs.declared.meaning.LocalVariable.{LocalVariable}
use Rattle.typed_tree.specs.declared.meaning.Meaning.{Meaning}
use Rattle.typed_tree.specs.declared.meaning.Meaning.TheVariants as meaning
use Rattle.typed_tree.specs.declared.meaning.Procedure.{Procedure as ModuleProcedure}
use Rattle.typed_tree.specs.declared.table.Table.{Table}
use Rattle.typed_tree.specs.declared.typed_module.TypedModule.{TypedModule}
use Rattle.typed_tree.specs.declared.types.TypeNo.{TypeNo}
use Rattle.typed_tree.specs.Names.{find_name}
use Rattle.check_scope.specs.declared.known.Known.{Known}
use Rattle.check_scope.specs.declared.known.Known.TheVariants.{Declared}
use Rattle.check_scope.specs.declared.known.Origin.TheVariants.{Here}
use Rattle.check_scope.specs.declared.meaningless.Meaningless.{Meaningless}
use Rattle.check_scope.specs.declared.scope.Scope.{Scope}
use Rattle.check_scope.specs.Elaborated.{Gathers}
use Rattle.check_scope.specs.Scopes.{looked_up, known_outside, or_around, means_as}
use Rattle.check_definition.specs.Predeclared.{console, first_scope}
use Rattle.check_block.specs.Headings.{standing_from}
use Rattle.check_block.specs.declared.heading.Standing.TheVariants as heading
use Rattle.check_body.specs.Checks.{elaborate_body, body_module}
use Rattle.check_body.specs.Checked.{of_contents, of_body}
use Rattle.check_body.specs.Own.{with_heading_of, with_exported_heading, implementation_scope}
use Rattle.def_typing.specs.Operators.{◌!◌}
use Rattle.def_typing.specs.Things as things
use Rattle.def_typing.specs.Things.{Headless, Standing, Unknown}
use Rattle.def_typing.specs.Parts.{Among, here, later}
use Rattle.def_typing.specs.Imports as imports
use Rattle.def_typing.specs.Imports.{Imported, all_imported, Origin, Itself, Exported, is_there, is_given, Brings}
use Rattle.def_typing.specs.Bodies.{BrokenBlock, LacksHeading}
use Rattle.def_typed.specs.Named.{named, named_by}
use Rattle.def_typed.specs.Blocks.{StandsWithoutCode}
use Rattle.def_typed.specs.Modules.{heading_type, heading_types, MeansBefore, of_definition, of_import, without_code, MeansModule}
use Rattle.law_numbers.proofs.Senses.{no_code}
use Rattle.law_typing.specs.Judging.{Judges}
use Rattle.law_typed.specs.Typed.{IsOne}
use Rattle.law_typing.specs.Exact.{standing, is_own_variable, Sees, sees, Knows, knows_nothing, Repeats, of_heading, of_declaration, TakenAs, is_taken, awaits, not_taken, AreOnce, no_names, one_name}
use Rattle.law_typing.proofs.Combining.{Lawful, Decided, holds, fails_it, accounts_one}
use Rattle.law_typing.proofs.Entering.{name_decided, entered_all, once_more}
use Rattle.law_rules.specs.Importing as importing
use Rattle.law_rules.specs.Outside.{own_or}
use Rattle.law_rules.specs.Importing.{origin, with_declared, StandsFor, imported_all, AreImportsExact}
use Rattle.law_rules.proofs.Implementing.{implementation_imports}
use Rattle.law_rules.proofs.Following.{Associates}
use Rattle.law_rules.specs.Defining.{AreSound}
use Rattle.law_rules.proofs.Once.{imports_once}
use Rattle.law_rules.proofs.Starting.{meaning_known, meaning_headed}
use Rattle.law_rules.proofs.Outside.{definitions_known}
use Rattle.law_rules.specs.Blocks.{KnowsPlace}
use Rattle.law_rules.specs.Bodies.{IsTyped, IsAnswered, is_refused, HasNoDefinition, an_implementation, a_definition, LonelyAreRefused, IsForeign, ExportForeign, IsTakenBy, by_definition, by_import, by_none, awaited_type, is_variable_of, declares, implementation_place, IsNoLocal, IsDefined, IsImplementationExact, ImplementationsAreExact, ImplementationsAreKnown}
use Rattle.law_rules.proofs.Seeing.{looked_around, sees_ok}
use Rattle.law_rules.proofs.Meant as block_meanings
use Rattle.law_rules.proofs.MeantImports.{copy_is, variables_are}
use Rattle.law_rules.proofs.MeantModules.{Outside, tree, one_tree}
use Rattle.law_rules.proofs.Moduling.{Moduled, Breaks, module_read, read_from, module_told}
use Rattle.law_rules.proofs.BodiesOutside.{codeless_by, first_codeless, brought_foreign, first_foreign}
use Rattle.law_rules.proofs.Programs.{Finds, answered_by}

-- ---- the names of the definition

module _ (T : Type 0) where
  abbrev Names : Type 0
  Names = List (List ℕ × Known T)

  abbrev declared_as : Option Meaning → Option (Known T) → Option (Known T)
  declared_as (Some m) o = Some (Declared Here (Ok m))
  declared_as None o = o

  once_all : (es : List imports.Entry) (ns : Names) → AreOnce ns → AreOnce (fold with_declared ns es)
  once_all [] ns o = o
  once_all (e ∷ es) ns o = once_all es (with_declared ns e) (once_more e.0 (Declared Here (Ok e.1)) o)

  found_by : (n : List ℕ) (e : imports.Entry) (es : List imports.Entry) (ns : Names) → find_name e.0 es ≡ None
      → {b : Bool} → Decided (n ≡ e.0) b
      → declared_as (find_name n es) (find_name n (with_declared ns e))
      ≡ declared_as (cond b (Some e.1) (find_name n es)) (find_name n ns)
  found_by n e es ns c (holds q) = ap (λ (o : Option Meaning). declared_as o (find_name n (with_declared ns e)))
      (ap (λ (k : List ℕ). find_name k es) q ∙ c)
      ∙ ap (λ (k : List ℕ). find_name k (with_declared ns e)) q
      ∙ entered_all (λ (k : List ℕ) (o : Option (Known T)). k ≡ e.0 → o ≡ Some (Declared Here (Ok e.1))) e.0
      (Declared Here (Ok e.1)) ns (λ z. refl) (λ k d z. absurd (d (sym z))) e.0 refl
  found_by n e es ns c (fails_it d) = ap (λ (o : Option (Known T)). declared_as (find_name n es) o)
      (entered_all (λ (k : List ℕ) (o : Option (Known T)). (k ≡ e.0 → ⊥) → o ≡ find_name k ns) e.0
      (Declared Here (Ok e.1)) ns (λ z. absurd (z refl)) (λ k x z. refl) n d)

  found_all : {es : List imports.Entry} → AreOnce es → (ns : Names) (n : List ℕ)
      → find_name n (fold with_declared ns es) ≡ declared_as (find_name n es) (find_name n ns)
  found_all no_names ns n = refl
  found_all (one_name {e = e} {es = es} c o) ns n = found_all o (with_declared ns e) n
      ∙ found_by n e es ns c (name_decided n e.0)

entry_among : (n : List ℕ) (es : List imports.Entry) (m : Meaning) → find_name n es ≡ Some m → (e : imports.Entry)
    × Among e es × (e.1 ≡ m)
entry_among n [] m q = absurd cc
entry_among n (e ∷ es) m q = by (same_name n e.0) q (entry_among n es m)
  where
    same : {a b : Meaning} → ◌≡◌ {A = Option Meaning} (Some a) (Some b) → a ≡ b
    same e = cc

    by : (b : Bool) → cond b (Some e.1) (find_name n es) ≡ Some m
        → (find_name n es ≡ Some m → (x : imports.Entry) × Among x es × (x.1 ≡ m)) → (x : imports.Entry)
        × Among x (e ∷ es) × (x.1 ≡ m)
    by true q rest = (e, here, same q)
    by false q rest = let z = rest q in (z.0, later z.1, z.2)

-- ---- an implementation

module _ (g : Gathers) (j : Judges g) (lawful : Lawful g j) (own : Table) (m : Module) (tables : List Table)
    (defined : IsDefined own) where
  abbrev pub S : Type 0
  S = Scope g.Reported

  abbrev pub first : S
  first = implementation_scope own tables

  abbrev pub mine : List ℕ → Bool
  mine = declares own

  pub i : AreImportsExact g j mine first m.imports
  i = implementation_imports g j lawful own.exported first refl m.imports

  abbrev pub start : S
  start = record first { own = (imported_all g first m.imports).0.own }

  abbrev pub There : List ℕ → Origin → Meaning → Type 0
  There = Brings tables mine (all_imported m.imports)

  -- what the definition declares is not imported
  not_both : (front : List Imported) (n : List ℕ) → mine n ≡ true → (o : Origin) (w : Meaning)
      → Brings tables mine front n o w → ⊥
  not_both [] n e o w b = b
  not_both (x ∷ front) n e o w (is_there b) = not_both front n e o w b
  not_both (x ∷ front) n e o w (is_given a q) = let z : true ≡ false = sym e ∙ a.0 in absurd cc

  own_found : (n : List ℕ) → find_name n first.own ≡ declared_as g.Reported (find_name n own.exported) None
  own_found n = found_all g.Reported defined.once [] n

  pub once : AreOnce (imported_all g first m.imports).0.own
  once = imports_once g first m.imports (once_all g.Reported own.exported [] no_names)

  -- an entry of the definition
  own_there : (n : List ℕ) (w : Meaning) → find_name n own.exported ≡ Some w
      → find_name n start.own ≡ Some (Declared Here (Ok w))
  own_there n w e = i.other n (not_both (all_imported m.imports) n (ap (λ (o : Option Meaning). is_some o) e))
      ∙ own_found n ∙ ap (λ (o : Option Meaning). declared_as g.Reported o None) e

  own_none : (n : List ℕ) → find_name n own.exported ≡ None → ((o : Origin) (w : Meaning) → There n o w → ⊥)
      → find_name n start.own ≡ None
  own_none n e c = i.other n c ∙ own_found n ∙ ap (λ (o : Option Meaning). declared_as g.Reported o None) e

  -- ---- names that are taken

  origin_taken : {T : Type 0} (u : Origin) (r : Result Meaning T) → standing_from (origin u) r ≡ heading.Taken
  origin_taken (Itself k) r = refl
  origin_taken (Exported k) r = refl

  meaning_taken : (w : Meaning) → TakenAs g j true (awaited_type (Some w)) (Some (Declared Here (Ok w)))
  meaning_taken (meaning.Constant v) = is_taken refl
  meaning_taken (meaning.Type t n) = is_taken refl
  meaning_taken (meaning.Variable v) = is_taken refl
  meaning_taken (meaning.Local v) = is_taken refl
  meaning_taken (meaning.Field x) = is_taken refl
  meaning_taken (meaning.Procedure p) = awaits p
  meaning_taken (meaning.LocalProcedure p) = is_taken refl
  meaning_taken meaning.Ahead = is_taken refl
  meaning_taken (meaning.Standard x) = is_taken refl
  meaning_taken (meaning.Module k) = is_taken refl

  takes_own : (n : List ℕ) (o : Option Meaning) → find_name n own.exported ≡ o → is_some o ≡ true
      → TakenAs g j true (awaited_type o) (find_name n start.own)
  takes_own n (Some w) e q = subst (λ (k : Option (Known g.Reported)). TakenAs g j true (awaited_type (Some w)) k)
      (sym (own_there n w e)) (meaning_taken w)
  takes_own n None e q = absurd cc

  none_awaits : (o : Option Meaning) → is_some o ≡ false → awaited_type o ≡ None
  none_awaits (Some w) e = absurd cc
  none_awaits None e = refl

  not_mine : (n : List ℕ) (o : Origin) (w : Meaning) → There n o w → (b : Bool) → mine n ≡ b → b ≡ false
  not_mine n o w t true e = absurd (not_both (all_imported m.imports) n e o w t)
  not_mine n o w t false e = refl

  no_entry : (o : Option Meaning) → is_some o ≡ false → o ≡ None
  no_entry (Some w) e = absurd cc
  no_entry None e = refl

  takes_by : (n : List ℕ) (b : Bool) → IsTakenBy tables mine (all_imported m.imports) n b
      → TakenAs g j b (awaited_type (find_name n own.exported)) (find_name n start.own)
  takes_by n _ (by_definition e) = takes_own n (find_name n own.exported) refl e
  takes_by n _ (by_import o w t) = subst (λ (a : Option TypeNo). TakenAs g j true a (find_name n start.own))
      (sym (none_awaits (find_name n own.exported) (not_mine n o w t (mine n) refl)))
      (subst (λ (k : Option (Known g.Reported)). TakenAs g j true None k) (sym (i.brought n o w t))
      (is_taken (origin_taken o (Ok w))))
  takes_by n _ (by_none e c) = let q = no_entry (find_name n own.exported) e in
      subst (λ (a : Option TypeNo). TakenAs g j false a (find_name n start.own))
      (sym (none_awaits (find_name n own.exported) e))
      (subst (λ (k : Option (Known g.Reported)). TakenAs g j false None k) (sym (own_none n q c)) not_taken)

  -- ---- what is looked up

  abbrev looked : Option (Known g.Reported) → Ident → Result Meaning (Meaningless g.Reported)
  looked k name = means_as g name.pos (or_around k (known_outside name.name first.outer))

  same_ok : {w x : Meaning} → ◌≡◌ {A = Result Meaning (Meaningless g.Reported)} (Ok w) (Ok x) → w ≡ x
  same_ok e = cc

  module _ (foreign : ExportForeign own.number tables) where
    -- a name of the definition, or one that is foreign
    abbrev Meant : Ident → Meaning → Type 0
    Meant name w = (find_name name.name own.exported ≡ Some w)
        ⊎ ((find_name name.name own.exported ≡ None) × IsForeign own.number w)

    meant : (name : Ident) (w : Meaning) → looked_up g start name ≡ Ok w → Meant name w
    meant name w e = by (find_name name.name own.exported) refl (i.decided name.name)
      where
        entry : looked (find_name name.name start.own) name ≡ Ok w
        entry = sym (looked_around g start 0 refl name) ∙ e

        by : (o : Option Meaning) → find_name name.name own.exported ≡ o
            → ((u : Origin) × (x : Meaning) × There name.name u x)
            ⊎ ((u : Origin) (x : Meaning) → There name.name u x → ⊥) → Meant name w
        by (Some x) q d = inl (q ∙ ap (λ (x : Meaning). Some x)
            (same_ok (ap (λ (k : Option (Known g.Reported)). looked k name) (sym (own_there name.name x q)) ∙ entry)))
        by None q (inl d) = inr (
          q,
          subst (IsForeign own.number)
              (same_ok (ap (λ (k : Option (Known g.Reported)). looked k name) (sym (i.brought name.name d.0 d.1 d.2))
              ∙ entry)) (brought_foreign own.number tables foreign mine (all_imported m.imports) name.name d.0 d.1 d.2),
        )
        by None q (inr c) = inr (
          q,
          first_foreign g own.number tables name w
              (looked_around g (first_scope own.number tables) 0 refl name
              ∙ ap (λ (k : Option (Known g.Reported)). looked k name) (sym (own_none name.name q c)) ∙ entry),
        )

    abbrev mine_at : Option Meaning → Bool
    mine_at o = is_variable_of own.number o

    foreign_own : (w : Meaning) → IsForeign own.number w → false ≡ is_own_variable start w
    foreign_own (meaning.Constant v) f = refl
    foreign_own (meaning.Type t n) f = refl
    foreign_own (meaning.Variable v) f = sym f
    foreign_own (meaning.Local v) f = absurd f
    foreign_own (meaning.Field x) f = refl
    foreign_own (meaning.Procedure x) f = refl
    foreign_own (meaning.LocalProcedure x) f = refl
    foreign_own meaning.Ahead f = refl
    foreign_own (meaning.Standard x) f = refl
    foreign_own (meaning.Module k) f = refl

    defined_own : (w : Meaning) → IsNoLocal w → mine_at (Some w) ≡ is_own_variable start w
    defined_own (meaning.Constant v) f = refl
    defined_own (meaning.Type t n) f = refl
    defined_own (meaning.Variable v) f = refl
    defined_own (meaning.Local v) f = absurd f
    defined_own (meaning.Field x) f = refl
    defined_own (meaning.Procedure x) f = refl
    defined_own (meaning.LocalProcedure x) f = refl
    defined_own meaning.Ahead f = refl
    defined_own (meaning.Standard x) f = refl
    defined_own (meaning.Module k) f = refl

    no_local : (name : Ident) (w : Meaning) → find_name name.name own.exported ≡ Some w → IsNoLocal w
    no_local name w q = let z = entry_among name.name own.exported w q in
        subst IsNoLocal z.2 (defined.no_locals z.0 z.1)

    own_by : (name : Ident) (w : Meaning) → Meant name w
        → mine_at (find_name name.name own.exported) ≡ is_own_variable start w
    own_by name w (inl q) = ap mine_at q ∙ defined_own w (no_local name w q)
    own_by name w (inr z) = ap mine_at z.0 ∙ foreign_own w z.1

    local_by : (name : Ident) (v : LocalVariable) → Meant name (meaning.Local v) → ⊥
    local_by name v (inl q) = no_local name (meaning.Local v) q
    local_by name v (inr z) = z.1

    module _ (exports : ℕ → Ident → Standing) (outside names : Ident → Standing)
        (knows : Knows g j outside exports first) (sound : AreSound outside)
        (stands : (name : Ident) → StandsFor tables mine (all_imported m.imports) outside name (names name))
        (taken : List ℕ → Bool) (takes : (n : List ℕ) → IsTakenBy tables mine (all_imported m.imports) n (taken n))
      where
        pub at : KnowsPlace g j exports (implementation_place own names taken) start None
        at = record {
          names = subst (λ (s : S). Knows g j names exports s) i.rest (i.known exports outside names knows refl stands);
          no_withs = refl;
          own = λ name w e. own_by name w (meant name w e);
          takes = λ n. takes_by n (taken n) (takes n);
          gives = knows_nothing;
          nested = refl;
          level = omega arith;
          locals = λ name v e. absurd (local_by name v (meant name (meaning.Local v) e));
        }

        names_sound : (name : Ident) {s : Standing} → StandsFor tables mine (all_imported m.imports) outside name s
            → (s ≡ Unknown → ⊥) × ((b : Bool) → s ≡ things.Known (Headless b) → ⊥)
        names_sound name (importing.imported o w b) = ((λ e. meaning_known w e), (λ b e. meaning_headed w e))
        names_sound name (importing.from_outside c) = sound name

        pub no_repeats : (f : Breach) → Repeats g j names start f → ⊥
        no_repeats f (of_heading {name = name} {nested = b} e q a) = (names_sound name (stands name)).1 b e
        no_repeats f (of_declaration {name = name} e q a) = (names_sound name (stands name)).0 e

  -- ---- what names stand for before

  taken_there : (n : List ℕ) (b : Bool) → mine n ≡ b → ((u : Origin) × (x : Meaning) × There n u x)
      ⊎ ((u : Origin) (x : Meaning) → There n u x → ⊥) → (t : Bool) × IsTakenBy tables mine (all_imported m.imports) n t
  taken_there n true e d = (true, by_definition e)
  taken_there n false e (inl q) = (true, by_import q.0 q.1 q.2)
  taken_there n false e (inr c) = (false, by_none e c)

  module _ (exports : ℕ → Ident → Standing) (around : Ident → Standing)
      (knows : Knows g j around exports (first_scope own.number tables)) (sound : AreSound around) where
    abbrev pub outside : Ident → Standing
    outside name = own_or (find_name name.name own.exported) (around name)

    sees_first : (name : Ident) (o : Option Meaning) → find_name name.name own.exported ≡ o
        → Sees g j name.pos (own_or o (around name)) (looked_up g first name)
    sees_first name (Some w) e = subst (λ (r : Result Meaning (Meaningless g.Reported)). Sees g j name.pos (standing w)
        r)
        (ap (λ (k : Option (Known g.Reported)). looked k name)
        (sym (own_found name.name ∙ ap (λ (o : Option Meaning). declared_as g.Reported o None) e))
        ∙ sym (looked_around g first 0 refl name)) (sees w)
    sees_first name None e = subst (λ (r : Result Meaning (Meaningless g.Reported)). Sees g j name.pos (around name) r)
        (looked_around g (first_scope own.number tables) 0 refl name
        ∙ ap (λ (k : Option (Known g.Reported)). looked k name)
        (sym (own_found name.name ∙ ap (λ (o : Option Meaning). declared_as g.Reported o None) e))
        ∙ sym (looked_around g first 0 refl name)) (knows.of_names name)

    sound_at : (o : Option Meaning) (name : Ident) → (own_or o (around name) ≡ Unknown → ⊥)
        × ((b : Bool) → own_or o (around name) ≡ things.Known (Headless b) → ⊥)
    sound_at (Some w) name = (meaning_known w, (λ b e. meaning_headed w e))
    sound_at None name = sound name

    pub names_around : (names : Ident → Standing) × (taken : List ℕ → Bool) × Knows g j outside exports first
        × AreSound outside
        × ((name : Ident) → StandsFor tables mine (all_imported m.imports) outside name (names name))
        × ((n : List ℕ) → IsTakenBy tables mine (all_imported m.imports) n (taken n))
    names_around = (
      (i.stand outside).0,
      (λ n. (taken_there n (mine n) refl (i.decided n)).0),
      record {
        of_names = λ name. sees_first name (find_name name.name own.exported) refl;
        of_modules =
            λ k name. knows.of_modules k name;
      },
      (λ name. sound_at (find_name name.name own.exported) name),
      (i.stand outside).1,
      (λ n. (taken_there n (mine n) refl (i.decided n)).1),
    )

    pub all_known : (exports : ℕ → Ident → Standing) × (outside : Ident → Standing) × (names : Ident → Standing)
        × (taken : List ℕ → Bool) × Knows g j outside exports first × AreSound outside
        × ((name : Ident) → StandsFor tables mine (all_imported m.imports) outside name (names name))
        × ((n : List ℕ) → IsTakenBy tables mine (all_imported m.imports) n (taken n))
    all_known = let k = names_around in (exports, outside, k.0, k.1, k.2, k.3, k.4, k.5)

-- ---- what the definition exports

heading_is : (ts : List TypeNo) (m : Meaning) → with_heading_of ts m ≡ ts ++ heading_type m
heading_is ts (meaning.Constant v) = sym (append-nil ts)
heading_is ts (meaning.Type t n) = sym (append-nil ts)
heading_is ts (meaning.Variable v) = sym (append-nil ts)
heading_is ts (meaning.Local v) = sym (append-nil ts)
heading_is ts (meaning.Field f) = sym (append-nil ts)
heading_is ts (meaning.Procedure p) = refl
heading_is ts (meaning.LocalProcedure p) = sym (append-nil ts)
heading_is ts meaning.Ahead = sym (append-nil ts)
heading_is ts (meaning.Standard f) = sym (append-nil ts)
heading_is ts (meaning.Module k) = sym (append-nil ts)

headings_are : (ts : List TypeNo) (es : List imports.Entry) → fold with_exported_heading ts es ≡ ts ++ heading_types es
headings_are ts [] = sym (append-nil ts)
headings_are ts (e ∷ es) = headings_are (with_exported_heading ts e) es
    ∙ ap (λ (us : List TypeNo). us ++ heading_types es) (heading_is ts e.1)
    ∙ append_assoc ts (heading_type e.1) (heading_types es)

-- Each number of its procedures has a name.
abbrev pub HasHeadings : Table → Type 0
HasHeadings own = (k : ℕ) → k < length (heading_types own.exported) → (x : List ℕ) × (a : ModuleProcedure)
    × (a.number ≡ k) × (find_name x own.exported ≡ Some (meaning.Procedure a))

-- ---- answers

module _ (g : Gathers) (j : Judges g) (lawful : Lawful g j) (associates : Associates g) (found : Finds g j)
    (own : Table) (m : Module) (tables : List Table) (defined : IsDefined own)
    (foreign : ExportForeign own.number tables) (exports : ℕ → Ident → Standing) (outside names : Ident → Standing)
    (knows : Knows g j outside exports (first g j lawful own m tables defined)) (sound : AreSound outside)
    (stands : (name : Ident) → StandsFor tables (declares own) (all_imported m.imports) outside name (names name))
    (taken : List ℕ → Bool) (takes : (n : List ℕ)
    → IsTakenBy tables (declares own) (all_imported m.imports) n (taken n))
    (b : Block)
    (given : List Table) (e : tables ≡ given ++ console ∷ []) (q : m.contents ≡ contents.Implementation b) where
  abbrev Broken : Breach → Type 0
  Broken f = imports.BrokenIn tables (declares own) (all_imported m.imports) f
      ⊎ (BrokenBlock exports (module_read g j lawful associates exports m (first g j lawful own m tables defined)
      (declares own) (i g j lawful own m tables defined) (implementation_place own names taken)
      (at g j lawful own m tables defined foreign exports outside names knows sound stands taken takes)
      (once g j lawful own m tables defined)
      (no_repeats g j lawful own m tables defined foreign exports outside names knows sound stands taken takes) b
      (Some own)) f ⊎ LacksHeading exports (module_read g j lawful associates exports m
      (first g j lawful own m tables defined) (declares own) (i g j lawful own m tables defined)
      (implementation_place own names taken)
      (at g j lawful own m tables defined foreign exports outside names knows sound stands taken takes)
      (once g j lawful own m tables defined)
      (no_repeats g j lawful own m tables defined foreign exports outside names knows sound stands taken takes) b
      (Some own)) m.name.pos f)

  answer : (home : ℕ) → IsAnswered g j (IsTyped m
      (read_from g j lawful associates exports m (first g j lawful own m tables defined) (declares own)
      (i g j lawful own m tables defined) (implementation_place own names taken)
      (at g j lawful own m tables defined foreign exports outside names knows sound stands taken takes)
      (once g j lawful own m tables defined)
      (no_repeats g j lawful own m tables defined foreign exports outside names knows sound stands taken takes) b
      (Some own))) Broken (body_module g home m (Some own) given)
  answer home = answered_by g j lawful (λ f z. z) (λ f z. z) (λ r z. found home m (Some own) given r z)
      (subst (λ (ts : List Table). Moduled g j lawful
      (IsTyped m (read_from g j lawful associates exports m (first g j lawful own m tables defined) (declares own)
      (i g j lawful own m tables defined) (implementation_place own names taken)
      (at g j lawful own m tables defined foreign exports outside names knows sound stands taken takes)
      (once g j lawful own m tables defined)
      (no_repeats g j lawful own m tables defined foreign exports outside names knows sound stands taken takes) b
      (Some own))) (Breaks g j lawful associates exports m (first g j lawful own m tables defined) (declares own)
      (i g j lawful own m tables defined) (implementation_place own names taken)
      (at g j lawful own m tables defined foreign exports outside names knows sound stands taken takes)
      (once g j lawful own m tables defined)
      (no_repeats g j lawful own m tables defined foreign exports outside names knows sound stands taken takes) b
      (Some own)) (of_contents g (elaborate_body g) home m (Some own) ts m.contents)) e
      (subst (λ (c : Contents). Moduled g j lawful
      (IsTyped m (read_from g j lawful associates exports m (first g j lawful own m tables defined) (declares own)
      (i g j lawful own m tables defined) (implementation_place own names taken)
      (at g j lawful own m tables defined foreign exports outside names knows sound stands taken takes)
      (once g j lawful own m tables defined)
      (no_repeats g j lawful own m tables defined foreign exports outside names knows sound stands taken takes) b
      (Some own))) (Breaks g j lawful associates exports m (first g j lawful own m tables defined) (declares own)
      (i g j lawful own m tables defined) (implementation_place own names taken)
      (at g j lawful own m tables defined foreign exports outside names knows sound stands taken takes)
      (once g j lawful own m tables defined)
      (no_repeats g j lawful own m tables defined foreign exports outside names knows sound stands taken takes) b
      (Some own)) (of_contents g (elaborate_body g) home m (Some own) tables c)) (sym q)
      (module_told g j lawful associates exports m (first g j lawful own m tables defined) (declares own)
      (i g j lawful own m tables defined) (implementation_place own names taken)
      (at g j lawful own m tables defined foreign exports outside names knows sound stands taken takes)
      (once g j lawful own m tables defined)
      (no_repeats g j lawful own m tables defined foreign exports outside names knows sound stands taken takes) b
      (Some own))))

  abbrev implementation_answers : IsImplementationExact g j own m given tables exports names taken b
  implementation_answers = record {
    end =
        read_from g j lawful associates exports m (first g j lawful own m tables defined) (declares own)
        (i g j lawful own m tables defined) (implementation_place own names taken)
        (at g j lawful own m tables defined foreign exports outside names knows sound stands taken takes)
        (once g j lawful own m tables defined)
        (no_repeats g j lawful own m tables defined foreign exports outside names knows sound stands taken takes) b
        (Some own);
    read = module_read g j lawful associates exports m (first g j lawful own m tables defined)
        (declares own) (i g j lawful own m tables defined) (implementation_place own names taken)
        (at g j lawful own m tables defined foreign exports outside names knows sound stands taken takes)
        (once g j lawful own m tables defined)
        (no_repeats g j lawful own m tables defined foreign exports outside names knows sound stands taken takes) b
        (Some own);
    answered = answer;
  }

  -- ---- its typed tree

  abbrev Brought : Ident → Origin → Meaning → Type 0
  Brought name o x = There g j lawful own m tables defined name.name o x

  brought_looked : (name : Ident) (o : Origin) (x : Meaning) → Brought name o x
      → looked_up g (start g j lawful own m tables defined) name ≡ Ok x
  brought_looked name o x w = looked_around g (start g j lawful own m tables defined) 0 refl name
      ∙ ap (λ (k : Option (Known g.Reported)). looked g j lawful own m tables defined k name)
      ((i g j lawful own m tables defined).brought name.name o x w)

  own_looked : (name : Ident) (x : Meaning) → find_name name.name own.exported ≡ Some x
      → looked_up g (start g j lawful own m tables defined) name ≡ Ok x
  own_looked name x w = looked_around g (start g j lawful own m tables defined) 0 refl name
      ∙ ap (λ (k : Option (Known g.Reported)). looked g j lawful own m tables defined k name)
      (own_there g j lawful own m tables defined name.name x w)

  first_looked : (name : Ident) → find_name name.name own.exported ≡ None
      → looked_up g (first_scope own.number tables) name ≡ looked_up g (first g j lawful own m tables defined) name
  first_looked name w = looked_around g (first_scope own.number tables) 0 refl name
      ∙ ap (λ (k : Option (Known g.Reported)). looked g j lawful own m tables defined k name)
      (sym (own_found g j lawful own m tables defined name.name
      ∙ ap (λ (o : Option Meaning). declared_as g.Reported o None) w))
      ∙ sym (looked_around g (first g j lawful own m tables defined) 0 refl name)

  codeless : (name : Ident) {s : Standing} → find_name name.name own.exported ≡ None
      → ((o : Origin) (x : Meaning) → Brought name o x → ⊥)
      → StandsFor tables (declares own) (all_imported m.imports) outside name s → StandsWithoutCode s
  codeless name n c (importing.imported o x w) = absurd (c o x w)
  codeless name n c (importing.from_outside d) =
      codeless_by g j (knows.of_names name) (λ x w. first_codeless g own.number tables name x (first_looked name n ∙ w))

  abbrev Before : Ident → Option Meaning → Type 0
  Before = MeansBefore tables own.exported (all_imported m.imports) names

  each_by : (name : Ident) (o : Option Meaning) → find_name name.name own.exported ≡ o
      → ((o : Origin) × (x : Meaning) × Brought name o x) ⊎ ((o : Origin) (x : Meaning) → Brought name o x → ⊥)
      → (o : Option Meaning) × Before name o
  each_by name (Some w) n d = (Some w, of_definition n)
  each_by name None n (inl (o, x, w)) = (Some x, of_import o w)
  each_by name None n (inr c) = (None, without_code (codeless name n c (stands name)))

  known_by : (name : Ident) (o : Option Meaning) → Before name o → (w : Meaning)
      → looked_up g (start g j lawful own m tables defined) name ≡ Ok w → (l : ℕ) → named l o ≡ named_by l w
  known_by name _ (of_definition {m = x} n) w q l =
      ap (λ (m : Meaning). named_by l m) (same_ok g j lawful own m tables defined (sym (own_looked name x n) ∙ q))
  known_by name _ (of_import o {m = x} n) w q l =
      ap (λ (m : Meaning). named_by l m) (same_ok g j lawful own m tables defined (sym (brought_looked name o x n) ∙ q))
  known_by name _ (without_code h) w q l =
      no_code l w (subst StandsWithoutCode (sees_ok g j w
      ((at g j lawful own m tables defined foreign exports outside names knows sound stands taken takes).names.of_names
      name) q) h)

  module _ (heads : HasHeadings own) (imports_once : AreOnce own.imports) where
    outside_known : Outside g j lawful associates exports m (first g j lawful own m tables defined) (declares own)
        (i g j lawful own m tables defined) (implementation_place own names taken)
        (at g j lawful own m tables defined foreign exports outside names knows sound stands taken takes)
        (once g j lawful own m tables defined)
        (no_repeats g j lawful own m tables defined foreign exports outside names knows sound stands taken takes) b
        (Some own) own.number tables own.exported own.imports
    outside_known = record {
      of_home = refl;
      of_level = refl;
      deep = omega arith;
      of_tables = refl;
      variables = variables_are [] own.exported;
      procedures = headings_are [] own.exported;
      each = λ name. each_by name (find_name name.name own.exported) refl
          ((i g j lawful own m tables defined).decided name.name);
      known = known_by;
      own_imports = copy_is own.imports imports_once;
      imports_once = imports_once;
      headed = λ k x. let r = heads k x in (
        r.0,
        r.1,
        r.2,
        own_there g j lawful own m tables defined r.0
            (meaning.Procedure r.1) r.3,
      );
    }

    is_body : (home : ℕ) {r : Result TypedModule g.Reported} → body_module g home m (Some own) given ≡ r
        → of_body g (elaborate_body g) (first g j lawful own m tables defined) (Some own) m b ≡ r
    is_body home r = sym (ap (λ (ts : List Table). of_contents g (elaborate_body g) home m (Some own) ts m.contents)
        (sym e) ∙ ap (λ (c : Contents). of_contents g (elaborate_body g) home m (Some own) tables c) q) ∙ r

    implementation_tree : block_meanings.Finds g j → (home : ℕ) (t : TypedModule)
        → body_module g home m (Some own) given ≡ Ok t
        → IsOne (MeansModule own.number tables own.exported own.imports m exports implementation_answers.read) t
    implementation_tree finds home t r = record {
      holds = tree g j lawful associates exports m (first g j lawful own m tables defined) (declares own)
          (i g j lawful own m tables defined) (implementation_place own names taken)
          (at g j lawful own m tables defined foreign exports outside names knows sound stands taken takes)
          (once g j lawful own m tables defined)
          (no_repeats g j lawful own m tables defined foreign exports outside names knows sound stands taken takes) b
          (Some own) own.number tables own.exported own.imports finds outside_known t (is_body home r);
      alone = one_tree g j lawful associates exports m (first g j lawful own m tables defined) (declares own)
          (i g j lawful own m tables defined) (implementation_place own names taken)
          (at g j lawful own m tables defined foreign exports outside names knows sound stands taken takes)
          (once g j lawful own m tables defined)
          (no_repeats g j lawful own m tables defined foreign exports outside names knows sound stands taken takes) b
          (Some own) own.number tables own.exported own.imports finds outside_known t (is_body home r);
    }

pub implementations_answer : (g : Gathers) (j : Judges g) → Lawful g j → Associates g → Finds g j
    → ImplementationsAreExact g j
implementations_answer g j lawful associates found own m given tables e defined foreign exports outside names knows
    sound stands taken takes b q =
    implementation_answers g j lawful associates found own m tables defined foreign exports outside names knows sound
    stands taken takes b given e q

-- The same with the typed tree.
pub implementations_have_trees : (g : Gathers) (j : Judges g) (lawful : Lawful g j) (associates : Associates g)
    (found : Finds g j) → block_meanings.Finds g j
    → (own : Table) (m : Module) (imported tables : List Table) (e : tables ≡ imported ++ console ∷ [])
    (defined : IsDefined own) → HasHeadings own → AreOnce own.imports
    → (foreign : ExportForeign own.number tables) (exports : ℕ → Ident → Standing)
    (outside names : Ident → Standing)
    (knows : Knows g j outside exports (implementation_scope own tables)) (sound : AreSound outside)
    (stands : (name : Ident) → StandsFor tables (declares own) (all_imported m.imports) outside name (names name))
    (taken : List ℕ → Bool) (takes : (n : List ℕ)
    → IsTakenBy tables (declares own) (all_imported m.imports) n (taken n)) (b : Block)
    (q : m.contents ≡ contents.Implementation b)
    → (home : ℕ) (t : TypedModule) → body_module g home m (Some own) imported ≡ Ok t
    → IsOne (MeansModule own.number tables own.exported own.imports m exports
    (implementations_answer g j lawful associates found own m imported tables e defined foreign exports outside
    names knows sound stands taken takes b q).read) t
unfolding implementations_answer
implementations_have_trees g j lawful associates found finds own m given tables e defined heads listed_once foreign
    exports outside names knows sound stands taken takes b q home t r =
    implementation_tree g j lawful associates found own m tables defined foreign exports outside names knows sound
    stands taken takes b given e q heads listed_once finds home t r

pub implementations_known : (g : Gathers) (j : Judges g) → Lawful g j → ImplementationsAreKnown g j
implementations_known g j lawful own m tables defined = let d = definitions_known g j lawful own.number m tables in
    all_known g j lawful own m tables defined d.0 d.1 d.4 d.5

-- ---- without a definition

pub lonely_refused : (g : Gathers) (j : Judges g) → Lawful g j → LonelyAreRefused g j
lonely_refused g j lawful home m imported h = by m.contents h
  where
    refused : IsAnswered g j (λ t. ⊥) (λ f. f ≡ m.name.pos ! rule.LonelyModule)
        (Err (g.one (m.name.pos ! rule.LonelyModule)))
    refused = is_refused (g.one (m.name.pos ! rule.LonelyModule))
        (accounts_one g j lawful (λ f. ⊥) (m.name.pos ! rule.LonelyModule)) (m.name.pos ! rule.LonelyModule) refl

    by : (c : Contents) → HasNoDefinition c
        → IsAnswered g j (λ t. ⊥) (λ f. f ≡ m.name.pos ! rule.LonelyModule)
        (of_contents g (elaborate_body g) home m None (imported ++ console ∷ []) c)
    by _ an_implementation = refused
    by _ a_definition = refused
