-- What is known of the modules of a graph, put together.
use Rattle.std.proofs.Common.{◌≡◌, ℕ, zero, suc, ◌+◌, ◌≤◌, Bool, true, false, ◌&&◌, List, [], ◌∷◌, length, Some, Result, Ok, refl, sym, ap, subst, ◌∙◌, arith}
use Rattle.std.specs.Prelude.{◌*◌, ◌^◌, ◌<◌, All, slice_get, slice_index_or}
use Rattle.std.specs.List.{AllByRecursion, list_all}
use Rattle.m2_tree.specs.declared.decl.Block.{Block}
use Rattle.m2_tree.specs.declared.decl.Module.{Module}
use Rattle.m2_graph.specs.Files.{number_files}
use Rattle.m2_graph.specs.Graph.{IsGraph, CompileEach}
use Rattle.typed_tree.specs.declared.table.Table.{Table}
use Rattle.typed_tree.specs.declared.typed_module.TypedModule.{TypedModule}
use Rattle.check_scope.specs.declared.scope.Scope.{Scope}
use Rattle.check_scope.specs.Elaborated.{least}
use Rattle.layout_storage.specs.Texts.{characters, module_texts}
use Rattle.def_scheme.specs.Modules.{all_characters}
use Rattle.law_modules.specs.Linked.{Program, bytes_in, text}
use Rattle.law_modules.proofs.Stores.{text_length}
use Rattle.law_well_formed.specs.Formed.{Holds, fine, broken}
use Rattle.law_well_formed.specs.FormedKnown.{fits_module}
use Rattle.law_programs.specs.FormedTrees.{fits_contents}
use Rattle.law_programs.specs.FormedCoherent.{trees_of, IsBodyOf, AreBodiesIn}
use Rattle.law_programs.proofs.Graphs.{graphs_whole}
use Rattle.build_jobs.specs.Own.{own_table, tables_behind}
use Rattle.build_jobs.specs.Compiling.{tables_of, typed_body}
use Rattle.build_jobs.specs.Jobs.{needed_of}
use Rattle.law_simulation.specs.TreesTyped.{Context}
use Rattle.law_simulation.specs.Modules.{IsTypedModule, AreTypedModules}
use Rattle.law_programs.specs.Carried.{NamesPlaced, NamesSlots}
use Rattle.law_programs.specs.Names.{HasInstance}
use Rattle.law_programs.specs.TypingBodies.{fits_whole_block, Stage, HasModule, NamesThere, AreBodiesTyped}
use Rattle.law_programs.proofs.Modules.{modules_typed}
use Rattle.law_programs.specs.TypingWants.{AreOrdered, stage_at}
use Rattle.law_programs.proofs.Orders.{bodies_ordered}
use Rattle.law_programs.proofs.Provided.{bodies_provided, module_typed}
use Rattle.law_programs.proofs.ModuleTexts.{module_bytes}
use Rattle.law_programs.specs.TypingTables.{BeginsIn, program, implementation, tables_by, modules_in, declared_in, walked_in, BodyStands}
use Rattle.law_programs.proofs.Bodies.{bodies_stand}
use Rattle.law_programs.specs.TypingNames.{is_open, NamesStand, BodyNamed, placed_at}
use Rattle.law_programs.proofs.NamesThere.{body_named}
use Rattle.law_programs.proofs.BlockNames.{module_names}

-- ---- lists

same_there : {X : Type 0} (x y : X) → Some x ≡ Some y → x ≡ y
same_there x y e = cc e

pub each_at : {X : Type 0} (P : X → Type 0) (xs : List X) → AllByRecursion P xs → (n : ℕ) (x : X)
    → slice_get xs n ≡ Some x → P x
each_at P [] h n x e = absurd cc
each_at P (y ∷ xs) h zero x e = subst P (same_there y x e) h.0
each_at P (y ∷ xs) h (suc n) x e = each_at P xs h.1 n x e

first_true : (a b : Bool) → a && b ≡ true → a ≡ true
first_true true b e = refl
first_true false b e = e

second_true : (a b : Bool) → a && b ≡ true → b ≡ true
second_true true b e = e
second_true false b e = absurd (let no : false ≡ true = e in cc no)

passes_at : {X : Type 0} (f : X → Bool) (xs : List X) → list_all f xs ≡ true → (n : ℕ) (x : X) → slice_get xs n ≡ Some x
    → f x ≡ true
passes_at f [] h n x e = absurd cc
passes_at f (y ∷ xs) h zero x e = ap f (sym (same_there y x e)) ∙ first_true (f y) (list_all f xs) h
passes_at f (y ∷ xs) h (suc n) x e = passes_at f xs (second_true (f y) (list_all f xs) h) n x e

held : {A T : Type 0} (P : A → Type 0) (r : Result A T) (x : A) → Holds P r → r ≡ Ok x → P x
held P _ x (fine y p) e = let same : y ≡ x = cc in subst P same p
held P _ x (broken y) e = absurd cc

-- ---- texts

texts_within : (p : Program) (place : ℕ) (m : TypedModule) → slice_get p place ≡ Some m
    → characters (module_texts m) ≤ bytes_in p
texts_within [] place m e = absurd cc
texts_within (x ∷ p) zero m e = subst (λ (y : TypedModule). characters (module_texts y) ≤ bytes_in (x ∷ p))
    (same_there x m e) (omega arith)
texts_within (x ∷ p) (suc place) m e = let l = texts_within p place m e in omega (arith, l)

texts_room : (p : Program) (pages place : ℕ) (m : TypedModule) → slice_get p place ≡ Some m
    → bytes_in p + 4096 ≤ 65536 * pages → pages ≤ 1024 → length (all_characters (module_texts m)) ≤ 2 ^ 32
texts_room p pages place m e room most =
    let same = text_length (module_texts m) in
    let within = texts_within p place m e in omega (arith, same, within, room, most)

-- ---- where a body begins

block_fits : (m : Module) (job : ℕ) (ts : List Table) (s : Scope least.Reported) (b : Block) → BeginsIn m job ts s b
    → fits_contents m.contents ≡ true → fits_whole_block b ≡ true
block_fits m job ts _ _ (program b e) h = ap fits_contents (sym e) ∙ h
block_fits m job ts _ _ (implementation own b o e) h = ap fits_contents (sym e) ∙ h

-- ---- one module

module _ (p : Program) (pages place : ℕ) (m : TypedModule) (there : slice_get p place ≡ Some m) (tree : Module)
    (job : ℕ) (ts : List Table) (st : BodyStands tree job ts m) where
  abbrev opens : ℕ → Bool
  opens = is_open (tables_by tree ts) m.imports

  abbrev x : Context
  x = placed_at p pages place m

  abbrev z : Stage
  z = stage_at p pages place m opens

  module _ (own : HasInstance x) (stand : NamesStand x opens st.scope tree st.block)
      (fits : fits_contents tree.contents ≡ true) where
    abbrev behind : Scope least.Reported
    behind = (declared_in st.scope tree st.block).0

    fits_block : fits_whole_block st.block ≡ true
    fits_block = block_fits tree job ts st.scope st.block st.begun fits

    names_are : NamesThere x opens 0 behind.own
    names_are =
        module_names x opens refl behind.types behind.variables behind.own st.grows (sym st.variables) own
        st.known.ranged.names st.known.words.names
        (subst (λ (n : ℕ). NamesPlaced n behind.variables behind.own) (st.same_home ∙ sym st.home) st.placed)
        (subst (λ (n : ℕ). NamesSlots [] n behind.own) st.level st.slots) stand.others

    has : HasModule least st.base z behind (walked_in st.scope tree st.block).0
    has = record {
      types = sym st.types;
      procedures = sym st.procedures;
      locals = sym st.locals;
      variables = sym st.variables;
      known = st.known;
      names = names_are;
      outer = stand.outer;
      members = stand.members;
    }

    pub bodies_typed : length (all_characters (module_texts m)) ≤ 2 ^ 32 → AreBodiesTyped z m.body
    bodies_typed room =
        modules_typed least st.base (modules_in st.scope) st.scope tree st.block fits_block st.begins st.reported z
        (record { there = there; all = st.typed; room = room }) has m.body st.body

-- ---- the modules of a graph

module _ (fs : List (List ℕ × Module)) (files : List ℕ) (jobs : List (List ℕ)) (starts : List ℕ)
    (graph : IsGraph (number_files 0 fs) files jobs starts) (each : CompileEach (number_files 0 fs) files)
    (fit : list_all fits_module (trees_of fs) ≡ true)
    (whole : list_all (λ m. fits_contents m.contents) (trees_of fs) ≡ true) where
  module _ (p : Program) (b : AreBodiesIn (trees_of fs) files jobs starts p) (pages : ℕ)
      (room : bytes_in p + 4096 ≤ 65536 * pages) (most : pages ≤ 1024) where
    abbrev Body : TypedModule → Type 0
    Body m = IsBodyOf (trees_of fs) files jobs m

    body_of : (place : ℕ) (m : TypedModule) → slice_get p place ≡ Some m → Body m
    body_of place m e = each_at Body p (graphs_whole fs files jobs starts graph each fit p b).bodies place m e

    abbrev tables : {m : TypedModule} → Body m → List Table
    tables o = tables_of (needed_of (trees_of fs) files jobs o.job)

    ordered : (m : TypedModule) (o : Body m) → AreOrdered m
    ordered m o =
        let ts : List Table = tables o in
        held AreOrdered (typed_body o.tree o.job ts) m
        (bodies_ordered least o.job o.tree (own_table o.tree ts) (tables_behind (own_table o.tree ts) ts)) o.typed

    names_begun : (m : TypedModule) (o : Body m) {x : Context} → BodyNamed (trees_of fs) files jobs o x
        → (s : Scope least.Reported) (b : Block) → BeginsIn o.tree o.job (tables o) s b
        → NamesStand x (is_open (tables_by o.tree (tables o)) m.imports) s o.tree b
    names_begun m o named _ _ (program b e) = named.program b e
    names_begun m o named _ _ (implementation own b k e) = named.implementation own b k e

    -- the module is typed, and its texts are bytes
    record IsPlaced (place : ℕ) (m : TypedModule) : Type 0 where
      typed : IsTypedModule p pages place m
      bytes : All (λ b. b < 256) (text m)

    one_there : (place : ℕ) (m : TypedModule) → slice_get p place ≡ Some m → IsPlaced place m
    one_there place m e =
        let o : Body m = body_of place m e in
        let named : BodyNamed (trees_of fs) files jobs o (placed_at p pages place m) =
        body_named fs files jobs starts graph each fit p b pages place m e o in
        let st : BodyStands o.tree o.job (tables o) m =
        bodies_stand fs files jobs starts graph fit o.tree o.job m o.is_tree o.typed in
        let stand : NamesStand (placed_at p pages place m) (is_open (tables_by o.tree (tables o)) m.imports) st.scope
        o.tree st.block = names_begun m o named st.scope st.block st.begun in
        let typed = bodies_typed p pages place m e o.tree o.job (tables o) st named.own stand
        (passes_at (λ (t : Module). fits_contents t.contents) (trees_of fs) whole (slice_index_or files o.job 0)
        o.tree o.is_tree) (texts_room p pages place m e room most) in
        let z : Stage = stage_at p pages place m (opens p pages place m e o.tree o.job (tables o) st) in
        let provided = bodies_provided z (ordered m o) in
        record {
          typed = module_typed p pages place m (opens p pages place m e o.tree o.job (tables o) st) typed provided;
          bytes = module_bytes z typed provided;
        }

    pub are_typed : AreTypedModules p pages
    are_typed place m e = (one_there place m e).typed

    pub texts_bytes : (place : ℕ) (m : TypedModule) → slice_get p place ≡ Some m → All (λ b. b < 256) (text m)
    texts_bytes place m e = (one_there place m e).bytes
