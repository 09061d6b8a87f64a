-- Where the declarations of a definition begin, its imports are known, and its own names are marked.
use Rattle.std.proofs.Common.{◌≡◌, ℕ, Bool, true, false, List, [], ◌∷◌, ◌++◌, length, Option, Result, Ok, Err, ◌⊎◌, inl, inr, refl, sym, ap, subst, ◌∙◌, None, Some}
use Rattle.std.specs.Prelude.{◌==◌, map}
use Rattle.std.specs.List.{fold}
use Rattle.std.specs.Option.{is_some}
use Rattle.m2_rule.specs.declared.breach.Breach.{Breach}
use Rattle.m2_tree.specs.declared.pos.Pos.{Pos}
use Rattle.m2_tree.specs.declared.name.Ident.{Ident}
use Rattle.m2_tree.specs.declared.decl.Def.{Def}
use Rattle.m2_tree.specs.declared.decl.Def.TheVariants as def
use Rattle.m2_tree.specs.declared.decl.Decl.{Decl, Decl-F, out-Decl, roll-Decl, out-roll-Decl}
use Rattle.m2_tree.specs.declared.decl.Decl.TheOpen as decl
use Rattle.m2_tree.specs.declared.decl.Block.{Block, roll-Block}
use Rattle.m2_tree.specs.declared.decl.Contents.{Contents}
use Rattle.m2_tree.specs.declared.decl.Contents.TheVariants as contents
use Rattle.m2_tree.specs.declared.decl.Module.{Module}
use Rattle.typed_tree.specs.declared.types.TypeNo.{TypeNo}
use Rattle.typed_tree.specs.declared.meaning.LocalKind.{LocalKind}
use Rattle.typed_tree.specs.declared.meaning.LocalKind.TheVariants as kind
use Rattle.typed_tree.specs.declared.meaning.Meaning.{Meaning}
use Rattle.typed_tree.specs.declared.meaning.Meaning.TheVariants as meaning
use Rattle.typed_tree.specs.declared.known_types.Types.{Types}
use Rattle.typed_tree.specs.declared.table.Table.{Table}
use Rattle.typed_tree.specs.Names.{find_name}
use Rattle.check_scope.specs.declared.known.Known.{Known}
use Rattle.check_scope.specs.declared.known.Known.TheVariants as known
use Rattle.check_scope.specs.declared.scope.Scope.{Scope}
use Rattle.check_scope.specs.Elaborated.{Gathers}
use Rattle.check_scope.specs.declared.meaningless.Meaningless.{Meaningless}
use Rattle.check_scope.specs.declared.scope.OpenedRecord.{OpenedRecord}
use Rattle.check_scope.specs.Scopes.{State, looked_up, known_outside, or_around, means_as, means_or, open_field}
use Rattle.check_definition.specs.Marking.{marked_def}
use Rattle.check_definition.specs.Predeclared.{console, first_scope}
use Rattle.check_definition.specs.Importing.{numbered_modules}
use Rattle.check_definition.specs.Declare.{with_def}
use Rattle.check_definition.specs.Again.{Passing, again_def}
use Rattle.check_definition.specs.Export.{reached_of, imported_modules}
use Rattle.check_definition.specs.Compiled.{table_of, table_or, of_contents}
use Rattle.check_block.specs.Naming.{marked_layer, marked_decl, with_marks}
use Rattle.check_block.specs.Headings.{standing_from}
use Rattle.check_block.specs.declared.heading.Standing.TheVariants as place
use Rattle.def_typing.specs.Things as things
use Rattle.def_typing.specs.Things.{Headless, Standing, Unknown}
use Rattle.def_typing.specs.Parts.{Among, here, later, Named}
use Rattle.def_typing.specs.Declarations as rules
use Rattle.def_typing.specs.Declarations.{Declaration, OfConstant, OfType, OfVariables, OfProcedure, declared_by, declarations_of, AnyDeclares}
use Rattle.def_typing.specs.Again.{BrokenAgain}
use Rattle.def_typing.specs.Definitions as definitions
use Rattle.def_typing.specs.Definitions.{Context, Placed, none_awaited}
use Rattle.def_typing.specs.Imports as imports
use Rattle.def_typing.specs.Imports.{all_imported, Origin, Itself, Exported, Brings, Entry}
use Rattle.law_typing.specs.Judging.{Judges, Accounts, Reports, reports_nothing, reports_broken}
use Rattle.law_typing.specs.Exact.{Sees, sees, no_names, standing, of_local, Knows, Repeats, of_heading, of_declaration, TakenAs, is_taken, awaits, is_a_heading, not_taken, AreOnce}
use Rattle.law_typing.proofs.Heading.{nil_right, append_assoc}
use Rattle.law_typing.proofs.Combining.{Lawful, Tells, silent, tells, tells_as}
use Rattle.law_typing.proofs.Rereading.{reread_here}
use Rattle.law_typing.specs.Again.{ReadsAgain}
use Rattle.law_folds.proofs.AgainSteps.{defs_report}
use Rattle.law_typing.proofs.Declaring.{any_first, headed, KnownAs, outer, ahead, reading, behind, a_member, KnowsBlock, mark_of, knowing, repeating}
use Rattle.law_typing.proofs.Marking.{block_begins}
use Rattle.law_rules.specs.Importing.{origin, StandsFor, imported, from_outside, imported_all, AreImportsExact}
use Rattle.law_rules.proofs.Behind.{first_imports}
use Rattle.law_rules.proofs.ImportsDefining.{marks_new}
use Rattle.law_rules.specs.Exports.{AreExported, AreModules, own_met, nothing_exported}
use Rattle.law_rules.proofs.Modules.{modules_are}
use Rattle.law_rules.proofs.Meeting.{others_kept, types_are}
use Rattle.law_rules.proofs.Once.{imports_once}
use Rattle.law_rules.proofs.Among.{among_left, among_right}
use Rattle.law_rules.proofs.Keys.{keys, Begins, begins_more, once_found, keys_apart}
use Rattle.law_rules.proofs.Keeping.{defs_keep}
use Rattle.law_rules.proofs.Entries.{IsDeclared, by_declaration, by_heading, found_named, entry_of, exported_are}
use Rattle.law_rules.proofs.Listing.{names_all, any_named_all, AllListed}
use Rattle.law_rules.proofs.Marks.{names as names_in, defs_declare}
use Rattle.law_rules.specs.Defining.{declared_in, all_declared, none, IsTaken, by_import, by_none, AreSound, IsTable, IsAnswered, is_table, is_refused, IsDefinitionExact, DefinitionsAreExact}
use Rattle.law_rules.proofs.BodiesKeeping.{Grows, grows_then, Fits, Keeps, definitions_keep}
use Rattle.law_rules.proofs.Turns.{enters_grow, in_turn, defs_turn}
use Rattle.law_rules.proofs.Insides.{untaken_is, reads_again}
use Rattle.law_rules.proofs.DefinitionsAgain.{defs_again, never_ahead}
use Rattle.law_rules.proofs.Stepping.{context, Standpoint}
use Rattle.law_rules.proofs.Running.{RanAll, defs_ran, home_kept}
use Rattle.law_rules.proofs.Finding.{Finds}

-- ---- a definition marks its names as a block does

abbrev layer_of : Def → Decl-F Decl Block
layer_of (def.Constants cs) = decl.Constants cs
layer_of (def.Types ts) = decl.Types ts
layer_of (def.Variables vs) = decl.Variables vs
layer_of (def.Procedure h) = decl.Procedure h (roll-Block (record { decls = []; body = None }))

abbrev decl_of : Def → Decl
decl_of d = roll-Decl (layer_of d)

decl_is : (d : Def) → out-Decl (decl_of d) ≡ layer_of d
decl_is d = out-roll-Decl (layer_of d)

layer_declares : (d : Def) → declared_by (layer_of d) ≡ declared_in d
layer_declares (def.Constants cs) = refl
layer_declares (def.Types ts) = refl
layer_declares (def.Variables vs) = refl
layer_declares (def.Procedure h) = refl

layer_marks : {T : Type 0} (s : Scope T) (d : Def) → marked_layer s (layer_of d) ≡ marked_def s d
layer_marks s (def.Constants cs) = refl
layer_marks s (def.Types ts) = refl
layer_marks s (def.Variables vs) = refl
layer_marks s (def.Procedure h) = refl

decls_declare : (ds : List Def) → declarations_of (map decl_of ds) ≡ all_declared ds
decls_declare [] = refl
decls_declare (x ∷ xs) = ap (λ (y : Decl-F Decl Block). declared_by y ++ declarations_of (map decl_of xs)) (decl_is x)
    ∙ ap (λ (ys : List Declaration). ys ++ declarations_of (map decl_of xs)) (layer_declares x)
    ∙ ap (λ (ys : List Declaration). declared_in x ++ ys) (decls_declare xs)

decls_mark : {T : Type 0} (ds : List Def) (s : Scope T) (ns : List ℕ)
    → (fold (with_marks marked_decl) (s, ns) (map decl_of ds)).0 ≡ fold marked_def s ds
decls_mark [] s ns = refl
decls_mark {T = T} (x ∷ xs) s ns = decls_mark xs (marked_decl s (decl_of x)) _
    ∙ ap (λ (t : Scope T). fold marked_def t xs)
    (ap (λ (y : Decl-F Decl Block). marked_layer s y) (decl_is x) ∙ layer_marks s x)

-- ---- no rule is broken where an imported name is declared

local_known : (t : TypeNo) (k : LocalKind) → of_local t k ≡ Unknown → ⊥
local_known t kind.Variable e = absurd cc
local_known t kind.Value e = absurd cc
local_known t kind.Alias e = absurd cc
local_known t kind.Open e = absurd cc

local_headed : {b : Bool} (t : TypeNo) (k : LocalKind) → of_local t k ≡ things.Known (Headless b) → ⊥
local_headed t kind.Variable e = absurd cc
local_headed t kind.Value e = absurd cc
local_headed t kind.Alias e = absurd cc
local_headed t kind.Open e = absurd cc

pub meaning_known : (m : Meaning) → standing m ≡ Unknown → ⊥
meaning_known (meaning.Constant v) e = absurd cc
meaning_known (meaning.Type t n) e = absurd cc
meaning_known (meaning.Variable v) e = absurd cc
meaning_known (meaning.Local v) e = local_known v.of v.kind e
meaning_known (meaning.Field f) e = absurd cc
meaning_known (meaning.Procedure p) e = absurd cc
meaning_known (meaning.LocalProcedure p) e = absurd cc
meaning_known meaning.Ahead e = absurd cc
meaning_known (meaning.Standard f) e = absurd cc
meaning_known (meaning.Module k) e = absurd cc

pub meaning_headed : {b : Bool} (m : Meaning) → standing m ≡ things.Known (Headless b) → ⊥
meaning_headed (meaning.Constant v) e = absurd cc
meaning_headed (meaning.Type t n) e = absurd cc
meaning_headed (meaning.Variable v) e = absurd cc
meaning_headed (meaning.Local v) e = local_headed v.of v.kind e
meaning_headed (meaning.Field f) e = absurd cc
meaning_headed (meaning.Procedure p) e = absurd cc
meaning_headed (meaning.LocalProcedure p) e = absurd cc
meaning_headed meaning.Ahead e = absurd cc
meaning_headed (meaning.Standard f) e = absurd cc
meaning_headed (meaning.Module k) e = absurd cc

origin_taken : {T : Type 0} (u : Origin) (r : Result Meaning T) → standing_from (origin u) r ≡ place.Taken
origin_taken (Itself k) r = refl
origin_taken (Exported k) r = refl

-- ---- one definition

module _ (g : Gathers) (j : Judges g) (lawful : Lawful g j) (found : Finds g j) (home : ℕ) (m : Module)
    (tables : List Table) (exports : ℕ → Ident → Standing) (outside names : Ident → Standing)
    (knows : Knows g j outside exports (first_scope home tables)) (sound : AreSound outside)
    (stands : (name : Ident) → StandsFor tables none (all_imported m.imports) outside name (names name))
    (taken : List ℕ → Bool) (takes : (n : List ℕ) → IsTaken tables (all_imported m.imports) n (taken n))
    (defs : List Def) where
  abbrev S : Type 0
  S = Scope g.Reported

  abbrev first : S
  first = first_scope home tables

  abbrev with_own : List (List ℕ × Known g.Reported) → S
  with_own own = record first { own = own }

  abbrev There : List ℕ → Origin → Meaning → Type 0
  There = Brings tables none (all_imported m.imports)

  abbrev block : List Declaration
  block = all_declared defs

  -- behind the imports, if nothing is marked
  bare : AreImportsExact g j none first m.imports
  bare = first_imports g j lawful home tables m.imports

  abbrev start : S
  start = with_own (imported_all g first m.imports).0.own

  knows_start : Knows g j names exports start
  knows_start = subst (λ (s : S). Knows g j names exports s) bare.rest
      (bare.known exports outside names knows refl stands)

  takes_by : (n : List ℕ) (b : Bool) → IsTaken tables (all_imported m.imports) n b
      → TakenAs g j b None (find_name n start.own)
  takes_by n _ (by_import o w i) = subst (λ (k : Option (Known g.Reported)). TakenAs g j true None k)
      (sym (bare.brought n o w i)) (is_taken (origin_taken o (Ok w)))
  takes_by n _ (by_none c) = subst (λ (k : Option (Known g.Reported)). TakenAs g j false None k) (sym (bare.other n c))
      not_taken

  takes_start : (n : List ℕ) → TakenAs g j (taken n) None (find_name n start.own)
  takes_start n = takes_by n (taken n) (takes n)

  -- with what is marked
  abbrev entered : State (Unit {0}) g.Reported
  entered = (fold marked_def start defs, (imported_all g first m.imports).1)

  marks_rest : entered.0 ≡ record start { own = entered.0.own }
  marks_rest = marks_new defs start

  -- ---- what is known of names

  abbrev Th : List ℕ → Type 0
  Th = rules.There start.types exports names taken none_awaited false block []

  begins : KnowsBlock g j exports names start taken none_awaited false block [] block Th entered.0
  begins = subst (λ (s : S). KnowsBlock g j exports names start taken none_awaited false block [] block Th s)
      (decls_mark defs start []) (block_begins g j exports names start taken none_awaited false block takes_start
      (map decl_of defs) refl (decls_declare defs))

  -- ---- what is reported

  abbrev Before : Breach → Type 0
  Before = imports.BrokenIn tables none (all_imported m.imports)

  told_by : {r : Result (Unit {0}) g.Reported} → Reports g j (λ f. ⊥) Before r → Tells g j lawful (λ f. ⊥) Before r
  told_by (reports_nothing n) = silent n
  told_by (reports_broken r a) = tells r a

  names_sound : (name : Ident) {s : Standing} → StandsFor tables none (all_imported m.imports) outside name s
      → (s ≡ Unknown → ⊥) × ((b : Bool) → s ≡ things.Known (Headless b) → ⊥)
  names_sound name (imported o w b) = ((λ e. meaning_known w e), (λ b e. meaning_headed w e))
  names_sound name (from_outside c) = sound name

  no_repeats : (f : Breach) → Repeats g j names start f → ⊥
  no_repeats f (of_heading {name = name} {nested = b} e q a) = (names_sound name (stands name)).1 b e
  no_repeats f (of_declaration {name = name} e q a) = (names_sound name (stands name)).0 e

  -- where the declarations begin
  stands_first : Standpoint g j exports start names taken block Before entered.0
  stands_first = record {
    awaited = none_awaited;
    takes = takes_start;
    knows = knows_start;
    no_withs = refl;
    once = imports_once g first m.imports no_names;
    block = begins;
    repeats = λ f q. absurd (no_repeats f q);
  }

  all_of_it : RanAll g j lawful exports start names taken block Before entered (fold (with_def g) entered defs)
  all_of_it = defs_ran g j lawful exports defs start names taken Before entered.0 entered.1 stands_first
      (told_by bare.reported)

  -- a table, or what is reported
  data Tabled (Is : Table → Type 0) (B : Breach → Type 0) : Result Table g.Reported → Type 0 where
    a_table : (t : Table) → Is t → ((f : Breach) → B f → ⊥) → Tabled Is B (Ok t)
    a_refusal : (r : g.Reported) → Accounts g j (λ f. ⊥) B r → Tabled Is B (Err r)

  table_by : {Is : Table → Type 0} {B : Breach → Type 0} (modules : List (List ℕ × ℕ)) (s : S)
      {r : Result (Unit {0}) g.Reported} → (r ≡ Ok tt → Is (table_of m modules s)) → Tells g j lawful (λ f. ⊥) B r
      → Tabled Is B (table_or m modules s r)
  table_by modules s i (silent n) = a_table (table_of m modules s) (i refl) n
  table_by modules s i (tells r a) = a_refusal r a

  answered_by : {Is : Table → Type 0} {B : Breach → Type 0} {r : Result Table g.Reported}
      → ((e : g.Reported) → r ≡ Err e → (f : Breach) × j.Among e f) → Tabled Is B r → IsAnswered g j Is B r
  answered_by h (a_table t i n) = is_table t i n
  answered_by h (a_refusal e a) = let x = h e refl in
      is_refused e a x.0 (elim (a.only x.0 x.1) [ inl b ↦ b | inr z ↦ absurd z ])

  abbrev modules : List (List ℕ × ℕ)
  modules = (numbered_modules tables).0

  abbrev last : Context
  last = context all_of_it.next all_of_it.next_names all_of_it.next_taken

  abbrev Is : Table → Type 0
  Is = IsTable home m tables exports all_of_it.whole last

  -- ---- what it exports

  abbrev final : State (Unit {0}) g.Reported
  final = fold (with_def g) entered defs

  -- ---- what is reported of expressions that are read again

  abbrev next_names : Ident → Standing
  next_names = all_of_it.next_names

  nothing_left : (x : Ident) → rules.StandsFor all_of_it.next.types exports next_names all_of_it.next_taken
      all_of_it.stands.awaited false [] [] x (next_names x)
  nothing_left x = rules.from_outside (λ t a. elim a.1 [ ])

  knows_final : Knows g j next_names exports final.0
  knows_final = knowing g j exports next_names all_of_it.next all_of_it.next_taken all_of_it.stands.awaited false []
      all_of_it.stands.knows all_of_it.stands.no_withs all_of_it.stands.block nothing_left

  abbrev Declared_broken : Breach → Type 0
  Declared_broken f = Before f ⊎ definitions.BrokenIn exports all_of_it.whole f

  repeats_final : (f : Breach) → Repeats g j next_names final.0 f → ⊥ ⊎ Declared_broken f
  repeats_final f q = elim (repeating g j exports next_names all_of_it.next all_of_it.next_taken
      all_of_it.stands.awaited false [] all_of_it.stands.knows all_of_it.stands.no_withs all_of_it.stands.block
      nothing_left f q) [ inl o ↦ inr (all_of_it.stands.repeats f o) | inr b ↦ elim b [ ] ]

  level_zero : (entered.0.level == 0) ≡ true
  level_zero = ap (λ (s : S). s.level == 0) marks_rest

  keeps_entered : Keeps entered.0 final.0
  keeps_entered = definitions_keep g defs entered level_zero

  grows_start : Grows start.own final.0.own
  grows_start = grows_then (enters_grow (defs_turn defs start)) keeps_entered.grows

  none_and_some : {A : Type 0} {k : A} {o : Option A} → o ≡ None → o ≡ Some k → ⊥
  none_and_some e q = let z = sym e ∙ q in absurd cc

  abbrev Marked_as : List ℕ → Option (Known g.Reported) → Type 0
  Marked_as n o = KnownAs g j exports names start taken none_awaited false block [] Th n o

  marked_there : {n : List ℕ} {o : Option (Known g.Reported)} → Marked_as n o → taken n ≡ false → AnyDeclares block n
      → o ≡ None → ⊥
  marked_there (outer h w e) t a q = h t a
  marked_there (headed p c b w) t a q = elim b.1 [ ]
  marked_there (ahead d u i h w) t a q = absurd cc
  marked_there (reading d u i h w z) t a q = absurd cc
  marked_there (behind k u i o s) t a q = elim i [ ]
  marked_there (a_member u i o d e) t a q = elim i [ ]

  declared_there : (n : List ℕ) → taken n ≡ false → AnyDeclares block n → find_name n final.0.own ≡ None → ⊥
  declared_there n t a e = by (find_name n entered.0.own) refl
    where
      by : (o : Option (Known g.Reported)) → find_name n entered.0.own ≡ o → ⊥
      by None q = marked_there (begins.own n) t a q
      by (Some k) q = none_and_some e (keeps_entered.grows.kept n k q).1

  unmarked_none : {n : List ℕ} {o : Option (Known g.Reported)} → Marked_as n o → (AnyDeclares block n → ⊥)
      → find_name n start.own ≡ None → o ≡ None
  unmarked_none (outer h w e) c q = e ∙ q
  unmarked_none (headed p a b w) c q = elim b.1 [ ]
  unmarked_none (ahead d u i h w) c q = absurd (c (any_first i))
  unmarked_none (reading d u i h w z) c q = absurd (c (any_first i))
  unmarked_none (behind k u i o s) c q = elim i [ ]
  unmarked_none (a_member u i o d e) c q = elim i [ ]

  mark_fits : (l : ℕ) (d : Declaration) → Fits {T = g.Reported} l (mark_of d)
  mark_fits l (OfConstant c) = tt
  mark_fits l (OfType d) = tt
  mark_fits l (OfVariables v) = tt
  mark_fits l (OfProcedure h) = tt

  one_mark : {k l : Known g.Reported} → ◌≡◌ {A = Option (Known g.Reported)} (Some k) (Some l) → k ≡ l
  one_mark q = cc

  marked_fits : {n : List ℕ} {o : Option (Known g.Reported)} → Marked_as n o → find_name n start.own ≡ None
      → (l : ℕ) (k : Known g.Reported) → o ≡ Some k → Fits l k
  marked_fits (outer h w e) q l k z = absurd (none_and_some (e ∙ q) z)
  marked_fits (headed p a b w) q l k z = elim b.1 [ ]
  marked_fits (ahead d u i h w) q l k z = subst (λ (k : Known g.Reported). Fits l k) (one_mark z) (mark_fits l d)
  marked_fits (reading d u i h w y) q l k z = subst (λ (k : Known g.Reported). Fits l k) (one_mark z) tt
  marked_fits (behind v u i o s) q l k z = elim i [ ]
  marked_fits (a_member u i o d e) q l k z = elim i [ ]

  again_known : ReadsAgain g j exports next_names final.0 taken block (length start.own)
  again_known = reads_again g j exports next_names start final.0 taken none_awaited takes_start block
      entered.0.level grows_start declared_there
      (λ n c e. all_of_it.listing.others n c ∙ unmarked_none (begins.own n) c e)
      (λ n k e t. elim (keeps_entered.entries n k e) [
        | inl q ↦ marked_fits (begins.own n) (untaken_is g j (takes_start n) t) entered.0.level k q
        | inr f ↦ f
      ]) knows_final all_of_it.stands.block.same.withs
      (λ x t a e. never_ahead x all_of_it.follow t a e)
      (in_turn (defs_turn defs start) keeps_entered.grows)

  abbrev Broken_again : Types → Breach → Type 0
  Broken_again types = BrokenAgain types exports taken block next_names [] block

  abbrev read_again : Result (Unit {0}) g.Reported
  read_again = (fold (again_def g final.0) (final.1, length start.own) defs).0

  told_final : Tells g j lawful (λ f. ⊥) (λ f. Declared_broken f ⊎ Broken_again final.0.types f) read_again
  told_final = subst
      (λ (p : Passing g.Reported). Tells g j lawful (λ f. ⊥) (λ f. Declared_broken f ⊎ Broken_again final.0.types f) p.0)
      (sym (defs_again g final.0 defs (final.1, length start.own)))
      (reread_here g j lawful exports next_names final.0 taken block (length start.own) again_known repeats_final
      all_of_it.told)

  abbrev Broken : Breach → Type 0
  Broken f = Before f ⊎ (definitions.BrokenIn exports all_of_it.whole f ⊎ Broken_again last.types f)

  told_all : Tells g j lawful (λ f. ⊥) Broken read_again
  told_all = tells_as g j lawful (λ f. ⊥)
      (λ f z. elim z [ inl y ↦ elim y [ inl b ↦ inl b | inr b ↦ inr (inl b) ] | inr b ↦ inr (inr b) ])
      (λ f z. elim z [ inl b ↦ inl (inl b) | inr y ↦ elim y [ inl b ↦ inl (inr b) | inr b ↦ inr b ] ])
      (subst (λ (t : Types). Tells g j lawful (λ f. ⊥) (λ f. Declared_broken f ⊎ Broken_again t f) read_again)
      all_of_it.stands.block.same.types told_final)

  -- ---- its names, in their order

  abbrev keys_declared : List (List ℕ)
  keys_declared = names_in g.Reported (names_all block)

  final_once : AreOnce final.0.own
  final_once = all_of_it.stands.block.once all_of_it.stands.once

  -- A name that is not declared is not exported.
  imported_entry : (n : List ℕ) (k : Known g.Reported) → find_name n start.own ≡ Some k → entry_of n k ≡ []
  imported_entry n k e = elim (bare.decided n) [
    | inl q ↦ subst (λ (k : Known g.Reported). entry_of n k ≡ []) (one_known (sym (bare.brought n q.0 q.1 q.2) ∙ e))
        (foreign_entry q.0 (Ok q.1))
    | inr w ↦ absurd (nothing (sym (bare.other n w) ∙ e))
  ]
    where
      one_known : {k l : Known g.Reported} → ◌≡◌ {A = Option (Known g.Reported)} (Some k) (Some l) → k ≡ l
      one_known q = cc

      nothing : {k : Known g.Reported} → ◌≡◌ {A = Option (Known g.Reported)} None (Some k) → ⊥
      nothing q = absurd cc

      foreign_entry : (o : Origin) (m : Result Meaning g.Reported) → entry_of n (known.Declared (origin o) m) ≡ []
      foreign_entry (Itself k) m = refl
      foreign_entry (Exported k) m = refl

  undeclared_by : (n : List ℕ) (k : Known g.Reported) → (AnyDeclares block n → ⊥) → {o : Option (Known g.Reported)}
      → KnownAs g j exports names start taken none_awaited false block [] Th n o → o ≡ Some k → entry_of n k ≡ []
  undeclared_by n k c (outer h w e) q = imported_entry n k (sym e ∙ q)
  undeclared_by n k c (headed p a b w) q = elim b.1 [ ]
  undeclared_by n k c (ahead d u i h w) q = absurd (c (any_first i))
  undeclared_by n k c (reading d u i h w z) q = absurd (c (any_first i))
  undeclared_by n k c (behind l u i o s) q = elim i [ ]
  undeclared_by n k c (a_member u i o a e) q = elim i [ ]

  undeclared_entry : (n : List ℕ) (k : Known g.Reported) → (AnyDeclares block n → ⊥)
      → find_name n entered.0.own ≡ Some k → entry_of n k ≡ []
  undeclared_entry n k c e = undeclared_by n k c (begins.own n) e

  module _ (e : final.1 ≡ Ok tt) where
    abbrev listed : AllListed g exports taken all_of_it.next_taken block all_of_it.whole entered.0 final.0
    listed = (all_of_it.listing.listed e).1

    abbrev keys_imported : List (List ℕ)
    keys_imported = keys start.own

    -- what imports bring is taken
    covers_by : {b : Bool} {u : Option TypeNo} {o : Option (Known g.Reported)} → TakenAs g j b u o → is_some o ≡ true
        → b ≡ true
    covers_by (is_taken w) q = refl
    covers_by (awaits p) q = refl
    covers_by is_a_heading q = refl
    covers_by not_taken q = absurd cc

    marks_first : Begins (keys_imported ++ keys_declared) entered.0.own
    marks_first = (
      [],
      (defs_declare g.Reported defs start (λ n. taken n ≡ true) (λ n q. covers_by (takes_start n) q) listed.new).last
          ∙ sym (nil_right (keys_imported ++ keys_declared)),
    )

    keys_first : Begins (keys_imported ++ keys_declared) final.0.own
    keys_first = defs_keep g (λ es. Begins (keys_imported ++ keys_declared) es)
        (λ name k es b. begins_more (keys_imported ++ keys_declared) name k es b) defs entered marks_first

    key_declared : {n : List ℕ} (xs : List Ident) → Named xs n → Among n (names_in g.Reported xs)
    key_declared [] h = elim h.1 [ ]
    key_declared {n = n} (x ∷ xs) (_, here, q) =
        subst (λ (k : List ℕ). Among n (k ∷ names_in g.Reported xs)) (sym q) here
    key_declared (x ∷ xs) (y, later i, q) = later (key_declared xs (y, i, q))

    other_entry : (d : List ℕ × Known g.Reported) → Among d final.0.own → (AnyDeclares block d.0 → ⊥)
        → entry_of d.0 d.1 ≡ []
    other_entry d i c = undeclared_entry d.0 d.1 c (sym (all_of_it.listing.others d.0 c) ∙ once_found final_once d i)

    declared_key : {n : List ℕ} → AnyDeclares block n → Among n keys_declared
    declared_key a = key_declared (names_all block) (any_named_all block a)

    before_entry : (d : List ℕ × Known g.Reported) → Among d final.0.own → Among d.0 keys_imported
        → entry_of d.0 d.1 ≡ []
    before_entry d i w = other_entry d i (λ a. keys_apart final_once d.0 keys_imported (keys_declared ++ keys_first.0)
        (keys_first.1 ∙ append_assoc keys_imported keys_declared keys_first.0) w
        (among_left keys_first.0 (declared_key a)))

    behind_entry : (d : List ℕ × Known g.Reported) → Among d final.0.own → Among d.0 keys_first.0
        → entry_of d.0 d.1 ≡ []
    behind_entry d i w = other_entry d i (λ a. keys_apart final_once d.0 (keys_imported ++ keys_declared) keys_first.0
        keys_first.1 (among_right keys_imported (declared_key a)) w)

    exports_so : (table_of m modules final.0).exported ≡ listed.entries
    exports_so = exported_are final_once keys_imported keys_first.0 listed.found
        (keys_first.1 ∙ append_assoc keys_imported keys_declared keys_first.0) before_entry behind_entry

    -- what is known behind all declarations
    behind_all : (n : List ℕ) {k : Option (Known g.Reported)}
        → KnownAs g j exports all_of_it.next_names all_of_it.next all_of_it.next_taken all_of_it.stands.awaited false []
        [] (rules.There all_of_it.next.types exports all_of_it.next_names all_of_it.next_taken all_of_it.stands.awaited
        false [] []) n k → k ≡ find_name n all_of_it.next.own
    behind_all n (outer h w e) = e
    behind_all n (headed p a b w) = elim b.1 [ ]
    behind_all n (ahead d u i h w) = elim i [ ]
    behind_all n (reading d u i h w q) = elim i [ ]
    behind_all n (behind k u i o s) = elim i [ ]
    behind_all n (a_member u i o a e) = elim i [ ]

    seen_as : {at : Pos} {s : Standing} {w : Meaning} → Sees g j at s (Ok w) → s ≡ standing w
    seen_as (sees w) = refl

    abbrev looked_with : Ident → Option (Known g.Reported) → Result Meaning (Meaningless g.Reported)
    looked_with x k = means_as g x.pos (or_around k (known_outside x.name all_of_it.next.outer))

    declared_means : (x : Ident) {w : Meaning} {k : Option (Known g.Reported)} → IsDeclared w k
        → looked_with x k ≡ Ok w
    declared_means x by_declaration = refl
    declared_means x by_heading = refl

    looked_behind : (x : Ident) (w : Meaning) → IsDeclared w (find_name x.name final.0.own)
        → looked_up g all_of_it.next x ≡ Ok w
    looked_behind x w q =
        ap (λ (ws : List OpenedRecord). means_or (open_field all_of_it.next.types x.name ws)
        (looked_with x (find_name x.name all_of_it.next.own))) all_of_it.stands.no_withs
        ∙ ap (λ (k : Option (Known g.Reported)). looked_with x k)
        (sym (behind_all x.name (all_of_it.stands.block.own x.name))) ∙ declared_means x q

    its_meanings : (x : Ident) (w : Meaning) → find_name x.name (table_of m modules final.0).exported ≡ Some w
        → last.names x ≡ standing w
    its_meanings x w q = seen_as (subst (λ (r : Result Meaning (Meaningless g.Reported)). Sees g j x.pos (last.names x)
        r) (looked_behind x w (found_named listed.found x.name w
        (subst (λ (es : List Entry). find_name x.name es ≡ Some w) exports_so q))) (all_of_it.stands.knows.of_names x))

    no_variables : length entered.0.variables ≡ 0
    no_variables = ap (λ (s : S). length s.variables) marks_rest

    no_procedures : length entered.0.procedures ≡ 0
    no_procedures = ap (λ (s : S). length s.procedures) marks_rest

    its_exports : AreExported exports 0 0 all_of_it.whole (table_of m modules final.0).exported
    its_exports = subst (λ (es : List Entry). AreExported exports 0 0 all_of_it.whole es) (sym exports_so)
        (subst (λ (ws : List Placed). AreExported exports 0 0 ws listed.entries) (nil_right all_of_it.whole)
        (subst (λ (es : List Entry). AreExported exports 0 0 (all_of_it.whole ++ []) es) (nil_right listed.entries)
        (subst (λ (v : ℕ). AreExported exports v 0 (all_of_it.whole ++ []) (listed.entries ++ [])) no_variables
        (subst (λ (p : ℕ). AreExported exports (length entered.0.variables) p (all_of_it.whole ++ [])
        (listed.entries ++ [])) no_procedures (listed.lists [] [] nothing_exported)))))

  its_table_by : final.1 ≡ Ok tt → Is (table_of m modules final.0)
  its_table_by e = let k = all_of_it.stands.block.same in record {
    of_number = ap (λ (t : Types). t.home) k.types ∙ home_kept all_of_it.follow;
    of_name = refl;
    of_imports = subst (λ (ts : List Table). AreModules tables (all_imported m.imports)
        (imported_modules modules ts m.imports)) (sym (k.tables ∙ all_of_it.tables)) (modules_are tables m.imports);
    of_types = let w = types_are tables last.types (others_kept all_of_it.follow) in (
      w.0,
      w.1,
      ap (λ (t : Types). reached_of t) k.types ∙ w.2
          ∙ ap (λ (n : ℕ). w.0 ++ own_met n last.types.own) (home_kept all_of_it.follow),
    );
    of_exports = its_exports e;
    of_meanings = its_meanings e;
  }

  its_table : read_again ≡ Ok tt → Is (table_of m modules final.0)
  its_table e = its_table_by (defs_report g final.0 defs (final.1, length start.own) e)

  -- from a scope behind the imports
  abbrev declared_from : S → State (Unit {0}) g.Reported
  declared_from s = fold (with_def g) (fold marked_def s defs, entered.1) defs

  abbrev from_scope : S → Result Table g.Reported
  from_scope s = let d = declared_from s in
      table_or m modules d.0 (fold (again_def g d.0) (d.1, length s.own) defs).0

  tabled : Tabled Is Broken (of_contents g home m tables (contents.Definition defs))
  tabled = subst (λ (s : S). Tabled Is Broken (from_scope s)) (sym bare.rest)
      (table_by modules final.0 its_table told_all)

  pub definition_answers : (given : List Table) → tables ≡ given ++ console ∷ [] → m.contents ≡ contents.Definition defs
      → IsDefinitionExact g j home m given tables exports names taken defs
  definition_answers given e q = record {
    whole = all_of_it.whole;
    last = last;
    follow = all_of_it.follow;
    only = all_of_it.only;
    answered = answered_by (λ r z. found home m given r z)
        (subst (λ (ts : List Table). Tabled Is Broken (of_contents g home m ts m.contents)) e
        (subst (λ (c : Contents). Tabled Is Broken (of_contents g home m tables c)) (sym q) tabled));
  }

pub definitions_answer : (g : Gathers) (j : Judges g) → Lawful g j → Finds g j → DefinitionsAreExact g j
definitions_answer g j lawful found home m given tables e exports outside names knows sound stands taken takes defs q =
    definition_answers g j lawful found home m tables exports outside names knows sound stands taken takes defs given e
    q
