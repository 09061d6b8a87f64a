-- Programs are answered exactly.
use Rattle.std.proofs.Common.{◌≡◌, ℕ, ◌<◌, Bool, true, false, List, [], ◌∷◌, ◌++◌, Option, Some, None, Result, Ok, Err, ◌⊎◌, inl, inr, refl, sym, ap, subst, ◌∙◌, arith}
use Rattle.m2_rule.specs.declared.breach.Breach.{Breach}
use Rattle.m2_tree.specs.declared.name.Ident.{Ident}
use Rattle.m2_tree.specs.declared.decl.Block.{Block}
use Rattle.m2_tree.specs.declared.decl.Contents.{Contents}
use Rattle.m2_tree.specs.declared.decl.Contents.TheVariants as contents
use Rattle.m2_tree.specs.declared.decl.Module.{Module}
use Rattle.typed_tree.specs.declared.meaning.Meaning.{Meaning}
use Rattle.typed_tree.specs.declared.meaning.Meaning.TheVariants as meaning
use Rattle.typed_tree.specs.declared.table.Table.{Table}
use Rattle.typed_tree.specs.declared.typed_module.TypedModule.{TypedModule}
use Rattle.typed_tree.specs.Names.{find_name}
use Rattle.check_scope.specs.declared.known.Known.{Known}
use Rattle.check_scope.specs.declared.meaningless.Meaningless.{Meaningless}
use Rattle.check_scope.specs.declared.scope.Scope.{Scope}
use Rattle.check_scope.specs.Elaborated.{Gathers, least}
use Rattle.check_scope.specs.Scopes.{looked_up, known_outside, or_around, means_as}
use Rattle.check_definition.specs.Predeclared.{console, first_scope}
use Rattle.check_block.specs.Headings.{standing_from}
use Rattle.check_block.specs.declared.heading.Standing.TheVariants as heading
use Rattle.check_body.specs.Checks.{elaborate_body, body_module}
use Rattle.check_body.specs.Checked.{of_contents, of_body}
use Rattle.def_typing.specs.Things as things
use Rattle.def_typing.specs.Things.{Headless, Standing, Unknown}
use Rattle.def_typing.specs.Imports as imports
use Rattle.def_typing.specs.Imports.{all_imported, Origin, Itself, Exported, Brings}
use Rattle.def_typing.specs.Declarations as rules
use Rattle.def_typing.specs.Bodies.{BrokenBlock}
use Rattle.def_typed.specs.Named.{named, named_by}
use Rattle.def_typed.specs.Blocks.{StandsWithoutCode}
use Rattle.def_typed.specs.Modules.{MeansBefore, of_definition, of_import, without_code, MeansModule}
use Rattle.law_numbers.proofs.Senses.{no_code}
use Rattle.law_typing.specs.Judging.{Judges, the_least}
use Rattle.law_typed.specs.Typed.{IsOne}
use Rattle.law_typing.specs.Exact.{no_names, is_own_variable, Knows, knows_nothing, Repeats, of_heading, of_declaration, TakenAs, is_taken, not_taken, AreOnce}
use Rattle.law_typing.proofs.Combining.{Lawful}
use Rattle.law_rules.specs.Importing as importing
use Rattle.law_rules.specs.Importing.{origin, StandsFor, imported_all, AreImportsExact}
use Rattle.law_rules.proofs.Behind.{first_imports}
use Rattle.law_rules.proofs.Following.{Associates}
use Rattle.law_rules.specs.Defining.{none, IsTaken, by_import, by_none, AreSound}
use Rattle.law_rules.proofs.Once.{imports_once}
use Rattle.law_rules.proofs.Starting.{meaning_known, meaning_headed}
use Rattle.law_rules.specs.Blocks.{KnowsPlace}
use Rattle.law_rules.specs.Bodies.{IsTyped, IsAnswered, is_module, is_refused, IsForeign, ExportForeign, program_place, IsProgramExact, ProgramsAreExact}
use Rattle.law_rules.proofs.Seeing.{looked_around, sees_ok}
use Rattle.law_rules.proofs.Moduling.{Moduled, a_module, a_refusal, Breaks, LacksHere, module_read, read_from, module_told}
use Rattle.law_rules.proofs.BodiesOutside.{codeless_by, first_codeless, brought_foreign, first_foreign}
use Rattle.law_rules.proofs.Meant as block_meanings
use Rattle.law_rules.proofs.MeantModules.{Outside, tree, one_tree}

-- ---- if a module has no answer, something is reported

abbrev pub Finds : (g : Gathers) → Judges g → Type 0
Finds g j = (home : ℕ) (m : Module) (own : Option Table) (imported : List Table) (r : g.Reported)
    → body_module g home m own imported ≡ Err r → (f : Breach) × j.Among r f

pub least_finds : Finds least the_least
least_finds home m own imported r e = (r, refl)

module _ (g : Gathers) (j : Judges g) (lawful : Lawful g j) where
  pub answered_by : {Is : TypedModule → Type 0} {B C : Breach → Type 0} {r : Result TypedModule g.Reported}
      → ((f : Breach) → B f → C f) → ((f : Breach) → C f → B f)
      → ((e : g.Reported) → r ≡ Err e → (f : Breach) × j.Among e f) → Moduled g j lawful Is B r → IsAnswered g j Is C r
  answered_by bc cb h (a_module t i n) = is_module t i (λ f c. n f (cb f c))
  answered_by bc cb h (a_refusal e a) = let x = h e refl in
      is_refused e (record {
        only = λ f q. elim (a.only f q) [ inl b ↦ inl (bc f b) | inr z ↦ absurd z ];
        each =
            λ f c. a.each f (cb f c);
      }) x.0 (elim (a.only x.0 x.1) [ inl b ↦ bc x.0 b | inr z ↦ absurd z ])

-- ---- a program

module _ (g : Gathers) (j : Judges g) (lawful : Lawful g j) (associates : Associates g) (found : Finds g j) (home : ℕ)
    (m : Module) (tables : List Table) (foreign : ExportForeign home tables) (exports : ℕ → Ident → Standing)
    (outside names : Ident → Standing)
    (knows : Knows g j outside exports (first_scope home tables)) (sound : AreSound outside)
    (stands : (name : Ident) → StandsFor tables none (all_imported m.imports) outside name (names name))
    (taken : List ℕ → Bool) (takes : (n : List ℕ) → IsTaken tables (all_imported m.imports) n (taken n)) where
  abbrev S : Type 0
  S = Scope g.Reported

  abbrev first : S
  first = first_scope home tables

  i : AreImportsExact g j none first m.imports
  i = first_imports g j lawful home tables m.imports

  abbrev start : S
  start = record first { own = (imported_all g first m.imports).0.own }

  abbrev There : List ℕ → Origin → Meaning → Type 0
  There = Brings tables none (all_imported m.imports)

  origin_taken : {T : Type 0} (u : Origin) (r : Result Meaning T) → standing_from (origin u) r ≡ heading.Taken
  origin_taken (Itself k) r = refl
  origin_taken (Exported k) r = refl

  takes_by : (n : List ℕ) (b : Bool) → IsTaken tables (all_imported m.imports) n b
      → TakenAs g j b None (find_name n start.own)
  takes_by n _ (by_import o w b) = subst (λ (k : Option (Known g.Reported)). TakenAs g j true None k)
      (sym (i.brought n o w b)) (is_taken (origin_taken o (Ok w)))
  takes_by n _ (by_none c) = subst (λ (k : Option (Known g.Reported)). TakenAs g j false None k) (sym (i.other n c))
      not_taken

  -- what is looked up there is imported, or known to every module
  abbrev looked : Option (Known g.Reported) → Ident → Result Meaning (Meaningless g.Reported)
  looked k name = means_as g name.pos (or_around k (known_outside name.name first.outer))

  same_ok : {w x : Meaning} → ◌≡◌ {A = Result Meaning (Meaningless g.Reported)} (Ok w) (Ok x) → w ≡ x
  same_ok e = cc

  known_foreign : (name : Ident) (w : Meaning) → looked_up g start name ≡ Ok w → IsForeign home w
  known_foreign name w e = by (i.decided name.name)
    where
      entry : looked (find_name name.name start.own) name ≡ Ok w
      entry = sym (looked_around g start 0 refl name) ∙ e

      by : ((u : Origin) × (x : Meaning) × There name.name u x) ⊎ ((u : Origin) (x : Meaning) → There name.name u x → ⊥)
          → IsForeign home w
      by (inl q) = subst (IsForeign home) (same_ok
          (ap (λ (k : Option (Known g.Reported)). looked k name) (sym (i.brought name.name q.0 q.1 q.2)) ∙ entry))
          (brought_foreign home tables foreign none (all_imported m.imports) name.name q.0 q.1 q.2)
      by (inr c) = first_foreign g home tables name w
          (looked_around g first 0 refl name ∙ ap (λ (k : Option (Known g.Reported)). looked k name)
          (sym (i.other name.name c)) ∙ entry)

  not_own : (w : Meaning) → IsForeign home w → is_own_variable start w ≡ false
  not_own (meaning.Constant v) f = refl
  not_own (meaning.Type t n) f = refl
  not_own (meaning.Variable v) f = f
  not_own (meaning.Local v) f = absurd f
  not_own (meaning.Field x) f = refl
  not_own (meaning.Procedure x) f = refl
  not_own (meaning.LocalProcedure x) f = refl
  not_own meaning.Ahead f = refl
  not_own (meaning.Standard x) f = refl
  not_own (meaning.Module k) f = refl

  at : KnowsPlace g j exports (program_place names taken) start None
  at = record {
    names = subst (λ (s : S). Knows g j names exports s) i.rest (i.known exports outside names knows refl stands);
    no_withs = refl;
    own = λ name w e. sym (not_own w (known_foreign name w e));
    takes = λ n. takes_by n (taken n) (takes n);
    gives = knows_nothing;
    nested = refl;
    level = omega arith;
    locals = λ name v e. absurd (known_foreign name (meaning.Local v) e);
  }

  names_sound : (name : Ident) {s : Standing} → StandsFor tables none (all_imported m.imports) outside name s
      → (s ≡ Unknown → ⊥) × ((b : Bool) → s ≡ things.Known (Headless b) → ⊥)
  names_sound name (importing.imported o w b) = ((λ e. meaning_known w e), (λ b e. meaning_headed w e))
  names_sound name (importing.from_outside c) = sound name

  no_repeats : (f : Breach) → Repeats g j names start f → ⊥
  no_repeats f (of_heading {name = name} {nested = b} e q a) = (names_sound name (stands name)).1 b e
  no_repeats f (of_declaration {name = name} e q a) = (names_sound name (stands name)).0 e

  once : AreOnce (imported_all g first m.imports).0.own
  once = imports_once g first m.imports no_names

  module _ (b : Block)
      (given : List Table) (e : tables ≡ given ++ console ∷ []) (q : m.contents ≡ contents.Program b) where
    abbrev Broken : Breach → Type 0
    Broken f = imports.BrokenIn tables none (all_imported m.imports) f
        ⊎ BrokenBlock exports (module_read g j lawful associates exports m first none i (program_place names taken) at
        once no_repeats b None) f

    no_lack : (f : Breach) → LacksHere g j lawful associates exports m first none i (program_place names taken) at once
        no_repeats b None f → ⊥
    no_lack f (rules.missing v h) = absurd cc

    answer : IsAnswered g j (IsTyped m (read_from g j lawful associates exports m first none i
        (program_place names taken) at once no_repeats b None)) Broken (body_module g home m None given)
    answer = answered_by g j lawful
        (λ f z. elim z [ inl a ↦ inl a | inr y ↦ elim y [ inl a ↦ inr a | inr a ↦ absurd (no_lack f a) ] ])
        (λ f z. elim z [ inl a ↦ inl a | inr a ↦ inr (inl a) ])
        (λ r z. found home m None given r z)
        (subst (λ (ts : List Table). Moduled g j lawful
        (IsTyped m (read_from g j lawful associates exports m first none i (program_place names taken) at once
        no_repeats b None)) (Breaks g j lawful associates exports m first none i (program_place names taken) at once
        no_repeats b None) (of_contents g (elaborate_body g) home m None ts m.contents)) e
        (subst (λ (c : Contents). Moduled g j lawful
        (IsTyped m (read_from g j lawful associates exports m first none i (program_place names taken) at once
        no_repeats b None)) (Breaks g j lawful associates exports m first none i (program_place names taken) at once
        no_repeats b None) (of_contents g (elaborate_body g) home m None tables c)) (sym q)
        (module_told g j lawful associates exports m first none i (program_place names taken) at once no_repeats b
        None)))

    abbrev program_answers : IsProgramExact g j home m given tables exports names taken b
    program_answers = record {
      end = read_from g j lawful associates exports m first none i (program_place names taken)
          at once no_repeats b None;
      read = module_read g j lawful associates exports m first none i
          (program_place names taken) at once no_repeats b None;
      answered = answer;
    }

    -- ---- its typed tree

    brought_looked : (name : Ident) (o : Origin) (x : Meaning) → There name.name o x → looked_up g start name ≡ Ok x
    brought_looked name o x w = looked_around g start 0 refl name
        ∙ ap (λ (k : Option (Known g.Reported)). looked k name) (i.brought name.name o x w)

    codeless : (name : Ident) {s : Standing} → ((o : Origin) (x : Meaning) → There name.name o x → ⊥)
        → StandsFor tables none (all_imported m.imports) outside name s → StandsWithoutCode s
    codeless name c (importing.imported o x w) = absurd (c o x w)
    codeless name c (importing.from_outside d) =
        codeless_by g j (knows.of_names name) (λ x w. first_codeless g home tables name x w)

    abbrev Before : Ident → Option Meaning → Type 0
    Before = MeansBefore tables [] (all_imported m.imports) names

    each_by : (name : Ident) → ((o : Origin) × (x : Meaning) × There name.name o x)
        ⊎ ((o : Origin) (x : Meaning) → There name.name o x → ⊥) → (o : Option Meaning) × Before name o
    each_by name (inl (o, x, w)) = (Some x, of_import o w)
    each_by name (inr c) = (None, without_code (codeless name c (stands name)))

    known_by : (name : Ident) (o : Option Meaning) → Before name o → (w : Meaning) → looked_up g start name ≡ Ok w
        → (l : ℕ) → named l o ≡ named_by l w
    known_by name _ (of_definition e) w q l = absurd cc
    known_by name _ (of_import o {m = x} b) w q l =
        ap (λ (m : Meaning). named_by l m) (same_ok (sym (brought_looked name o x b) ∙ q))
    known_by name _ (without_code h) w q l =
        no_code l w (subst StandsWithoutCode (sees_ok g j w (at.names.of_names name) q) h)

    outside_known : Outside g j lawful associates exports m first none i (program_place names taken) at once no_repeats
        b None home tables [] []
    outside_known = record {
      of_home = refl;
      of_level = refl;
      deep = omega arith;
      of_tables = refl;
      variables = refl;
      procedures = refl;
      each = λ name. each_by name (i.decided name.name);
      known = known_by;
      own_imports = refl;
      imports_once = no_names;
      headed = λ k x. absurd (not_less k x);
    }
      where
        not_less : (k : ℕ) → k < 0 → ⊥
        not_less k x = omega (arith, x)

    is_body : {r : Result TypedModule g.Reported} → body_module g home m None given ≡ r
        → of_body g (elaborate_body g) first None m b ≡ r
    is_body r = sym (ap (λ (ts : List Table). of_contents g (elaborate_body g) home m None ts m.contents) (sym e)
        ∙ ap (λ (c : Contents). of_contents g (elaborate_body g) home m None tables c) q) ∙ r

    program_tree : block_meanings.Finds g j → (t : TypedModule) → body_module g home m None given ≡ Ok t
        → IsOne (MeansModule home tables [] [] m exports program_answers.read) t
    program_tree finds t r = record {
      holds = tree g j lawful associates exports m first none i (program_place names taken) at once no_repeats b None
          home tables [] [] finds outside_known t (is_body r);
      alone = one_tree g j lawful associates exports m first none i (program_place names taken) at once no_repeats b
          None home tables [] [] finds outside_known t (is_body r);
    }

pub programs_answer : (g : Gathers) (j : Judges g) → Lawful g j → Associates g → Finds g j → ProgramsAreExact g j
programs_answer g j lawful associates found home m given tables e foreign exports outside names knows sound stands taken
    takes b q =
    program_answers g j lawful associates found home m tables foreign exports outside names knows sound stands taken
    takes b given e q

-- The same with the typed tree.
pub programs_have_trees : (g : Gathers) (j : Judges g) (lawful : Lawful g j) (associates : Associates g)
    (found : Finds g j) → block_meanings.Finds g j
    → (home : ℕ) (m : Module) (imported tables : List Table) (e : tables ≡ imported ++ console ∷ [])
    (foreign : ExportForeign home tables) (exports : ℕ → Ident → Standing) (outside names : Ident → Standing)
    (knows : Knows g j outside exports (first_scope home tables)) (sound : AreSound outside)
    (stands : (name : Ident) → StandsFor tables none (all_imported m.imports) outside name (names name))
    (taken : List ℕ → Bool) (takes : (n : List ℕ) → IsTaken tables (all_imported m.imports) n (taken n)) (b : Block)
    (q : m.contents ≡ contents.Program b)
    → (t : TypedModule) → body_module g home m None imported ≡ Ok t
    → IsOne (MeansModule home tables [] [] m exports
    (programs_answer g j lawful associates found home m imported tables e foreign exports outside names knows sound
    stands taken takes b q).read) t
unfolding programs_answer
programs_have_trees g j lawful associates found finds home m given tables e foreign exports outside names knows sound
    stands taken takes b q t r =
    program_tree g j lawful associates found home m tables foreign exports outside names knows sound stands taken takes
    b given e q finds t r
