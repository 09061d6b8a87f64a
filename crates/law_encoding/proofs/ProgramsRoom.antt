-- The modules of a program are small, if their types and storage have room, and so they have encodings.
use Rattle.std.proofs.Common.{◌≡◌, ℕ, zero, suc, ◌+◌, ◌*◌, ◌≤◌, ◌<◌, Bool, true, false, List, [], ◌∷◌, ◌++◌, map, length, Option, Some, None, Result, Ok, refl, sym, subst, arith, lit≤}
use Rattle.std.specs.Prelude.{All, IfOk, slice_get, if◌then◌else◌}
use Rattle.std.specs.List.{list_all}
use Rattle.std.proofs.lemmas.List.Elements.{All-nil, All-cons, All-head, All-tail}
use Rattle.m2_tree.specs.declared.decl.Decl.{Decl, Decl-F, out-Decl}
use Rattle.m2_tree.specs.declared.decl.Decl.TheOpen as layer
use Rattle.m2_tree.specs.declared.decl.Block.{Block, out-Block}
use Rattle.m2_tree.specs.declared.decl.Contents.{Contents}
use Rattle.m2_tree.specs.declared.decl.Contents.TheVariants as contents
use Rattle.typed_tree.specs.declared.known_types.Types.{Types}
use Rattle.typed_tree.specs.declared.typed_module.Imported.{Imported}
use Rattle.typed_tree.specs.declared.typed_module.Routine.{Routine}
use Rattle.typed_tree.specs.declared.typed_module.TypedModule.{TypedModule}
use Rattle.check_scope.specs.Elaborated.{Gathers}
use Rattle.check_body.specs.Checks.{elaborate_body}
use Rattle.layout_storage.specs.Types.{Ty, Nothing, row}
use Rattle.layout_storage.specs.Sizes.{size}
use Rattle.layout_storage.specs.Shapes.{tree}
use Rattle.layout_storage.specs.Frames.{frame, module_row}
use Rattle.layout_storage.specs.Texts.{characters, module_texts}
use Rattle.layout_storage.specs.Layouts.{FramesFit}
use Rattle.layout_storage.proofs.Fitted.{all_small}
use Rattle.def_scheme.specs.Exprs.{is_own, import_place, imported_row}
use Rattle.def_scheme.specs.Modules.{slots, typed_module}
use Rattle.wasm_binary.specs.Binary.{module_fits}
use Rattle.law_modules.specs.Linked.{Program, text, slots_in, bytes_in, all}
use Rattle.law_modules.proofs.Stores.{text_length}
use Rattle.law_simulation.specs.Knows.{Knows, IsCoherent}
use Rattle.law_simulation.specs.Modules.{AreModules, AreTypedModules}
use Rattle.law_simulation.proofs.Globals.{each_at}
use Rattle.law_well_formed.specs.FormedImports.{StandsOnImports}
use Rattle.law_well_formed.proofs.NamedImports.{modules_stand}
use Rattle.law_encoding.specs.Sizes.{sum_of, decl_layer, size_decl, size_block, size_stmts_if, size_import, size_contents, size_module}
use Rattle.law_encoding.specs.Fits.{few_entries, CountsFew}
use Rattle.law_encoding.specs.Short.{counts_in}
use Rattle.law_encoding.specs.Small.{most}
use Rattle.law_encoding.specs.DeclaredProcedures.{headings_of, declared_headings, outermost_in, ProceduresAreDeclared, CountsAreSmall}
use Rattle.law_encoding.specs.LinkRoom.{LinkIsSmall, name_length}
use Rattle.law_encoding.specs.NamesRoom.{is_short_name, few_names}
use Rattle.law_encoding.specs.Counted.{AtMost, fine, broken}
use Rattle.law_encoding.specs.Nested.{AcceptedAreShallow}
use Rattle.law_encoding.specs.ProcedureLevels.{AcceptedAreNear}
use Rattle.law_encoding.specs.ProgramsRoom.{HasStorage, IsStored, IsShortModule, IsAccepted, IsSmallProgram}
use Rattle.law_encoding.specs.SmallParts.{IsSmallModule}
use Rattle.law_encoding.proofs.AcceptedRoom.{procedures_few, typed_room}
use Rattle.law_encoding.proofs.CodeFits.{both_true}
use Rattle.law_encoding.proofs.Bounded.{tree_bounded}
use Rattle.law_encoding.proofs.Sums.{total_map}
use Rattle.law_encoding.proofs.Variants.{sizes_decl, at_decl, at_block}
use Rattle.law_encoding.proofs.NamesRoom.{all_fit, all_sum, sum_few, count_few, names_room, text_named}
use Rattle.law_encoding.proofs.LinkRoom.{link_has_room}
use Rattle.law_encoding.proofs.DistinctImports.{ImportsDiffer, module_differs, imports_few}

-- ---- rows and frames

nothing_small : size Nothing ≤ few_entries
unfolding size
nothing_small = lit≤ tt

first_less : (xs ys : List Ty) → size (row xs) ≤ size (row (xs ++ ys))
unfolding size
first_less [] ys = omega arith
first_less (x ∷ xs) ys = let h = first_less xs ys in omega (arith, h)

frames_small : (types : Types) (rs : List Routine) → FramesFit types rs
    → All (λ r. size (frame types r) ≤ few_entries) rs
frames_small types [] h = All-nil (λ (r : Routine). size (frame types r) ≤ few_entries)
frames_small types (r ∷ rs) h = All-cons (λ (r : Routine). size (frame types r) ≤ few_entries) r rs h.0
    (frames_small types rs h.1)

first_part : (a b c : ℕ) → a + b ≤ c → a ≤ c
first_part a b c h = omega (arith, h)

last_part : (a b c : ℕ) → a + b ≤ c → b ≤ c
last_part a b c h = omega (arith, h)

module_small : (m : TypedModule) → IsStored m → size (module_row m) ≤ few_entries
module_small m s = first_part (size (module_row m)) (characters (module_texts m)) few_entries s.parts.storage.bytes

texts_small : (m : TypedModule) → IsStored m → length (text m) ≤ few_entries
texts_small m s =
    subst (λ (n : ℕ). n ≤ few_entries) (sym (text_length (module_texts m)))
    (last_part (size (module_row m)) (characters (module_texts m)) few_entries s.parts.storage.bytes)

-- ---- small modules

less : (a b c : ℕ) → a ≤ b → b ≤ c → a ≤ c
less a b c h l = omega (arith, h, l)

module _ (p : Program) (m : TypedModule) (stored : All IsStored p) where
  import_small : (i : Imported) → Knows p m i → size (row (map (tree m.types) i.variables)) ≤ few_entries
  import_small i k =
      less (size (row (map (tree m.types) i.variables))) (size (row (map (tree m.types) i.variables ++ k.more)))
      few_entries (first_less (map (tree m.types) i.variables) k.more)
      (subst (λ (ts : List Ty). size (row ts) ≤ few_entries) k.variables
      (module_small k.home (each_at IsStored p _ k.home k.there stored)))

  at_import : All (Knows p m) m.imports → (n : ℕ) (o : Option Imported) → slice_get m.imports n ≡ o
      → size (imported_row m.types o) ≤ few_entries
  at_import known n None e = nothing_small
  at_import known n (Some i) e = import_small i (each_at (Knows p m) m.imports n i e known)

  row_small : IsStored m → All (Knows p m) m.imports → (n : ℕ) (own : Bool)
      → size (if own then module_row m else imported_row m.types (slice_get m.imports n)) ≤ few_entries
  row_small s known n true = module_small m s
  row_small s known n false = at_import known n (slice_get m.imports n) refl

  stored_small : IsStored m → All (Knows p m) m.imports → IsSmallModule p m
  stored_small s known = record {
    types = all_small m.types s.parts.types;
    rows = λ home. row_small s known (import_place m home) (is_own m home);
    frames = frames_small m.types m.procedures s.parts.storage.procedures;
    inner_frames = frames_small m.types m.locals s.parts.storage.locals;
    procedures = λ place n there. procedures_few n (each_at IsStored p place n there stored).counts;
    texts = texts_small m s;
  }

pub modules_small : (p : Program) (place : ℕ) (m : TypedModule) → IsCoherent p place m → All IsStored p
    → IsSmallModule p m
modules_small p place m c stored = stored_small p m stored (each_at IsStored p place m c.there stored) c.imports

-- ---- programs

each_fits : (ms : List TypedModule) → ((k : ℕ) (m : TypedModule) → slice_get ms k ≡ Some m
    → module_fits (typed_module m) ≡ true) → list_all module_fits (map typed_module ms) ≡ true
each_fits [] h = refl
each_fits (m ∷ ms) h = both_true _ _ (h zero m refl) (each_fits ms (λ k n e. h (suc k) n e))

all_stored : (p : Program) → All IsShortModule p → All IsStored p
all_stored [] h = All-nil IsStored
all_stored (m ∷ ms) h = All-cons IsStored m ms (All-head IsShortModule m ms h).stored
    (all_stored ms (All-tail IsShortModule m ms h))

module _ (p : Program) (pages : ℕ) (are : AreModules p) (typed : AreTypedModules p pages) (short : All IsShortModule p)
  where
    module_at : (k : ℕ) (m : TypedModule) → slice_get p k ≡ Some m → module_fits (typed_module m) ≡ true
    module_at k m there =
        let is = are k m there in
        let s = each_at IsShortModule p k m there short in
        typed_room p pages k m is (typed k m there) (modules_small p k m is.coherent (all_stored p short))
        s.stored.counts
        s.names s.levels s.outward

    pub programs_fit : LinkIsSmall p pages → list_all module_fits (all p pages) ≡ true
    programs_fit small = both_true _ _ (link_has_room p pages small) (each_fits p module_at)

-- ---- slots

-- each procedure of the module itself takes three of what its tree counts
module _ (d : Decl) where
  procedure_three : (h b n : ℕ) → n ≡ 1 + (1 + h) + b → 1 ≤ b → 3 * 1 ≤ n
  procedure_three h b n e l = omega (arith, e, l)

  no_procedure : (n : ℕ) → 3 * 0 ≤ n
  no_procedure n = omega arith

  block_one : (b : Block) → 1 ≤ size_block b
  block_one b = one_more _ _ _ (at_block b (out-Block b) refl) where
    one_more : (n d s : ℕ) → n ≡ 1 + d + s → 1 ≤ n
    one_more n d s e = omega (arith, e)

  decl_three : (x : Decl-F Decl Block) → size_decl d ≡ decl_layer (sizes_decl x) → 3 * headings_of x ≤ size_decl d
  decl_three (layer.Constants cs) e = no_procedure _
  decl_three (layer.Types ts) e = no_procedure _
  decl_three (layer.Variables vs) e = no_procedure _
  decl_three (layer.Procedure h b) e = procedure_three _ (size_block b) (size_decl d) e (block_one b)

three_sum : (a b c d : ℕ) → 3 * a ≤ b → 3 * c ≤ d → 3 * (a + c) ≤ b + d
three_sum a b c d h l = omega (arith, h, l)

decls_three : (ds : List Decl) → 3 * declared_headings ds ≤ sum_of size_decl ds
decls_three [] = no_three 0 where
  no_three : (n : ℕ) → 3 * 0 ≤ n
  no_three n = omega arith
decls_three (d ∷ ds) = three_sum (headings_of (out-Decl d)) (size_decl d) _ _
    (decl_three d (out-Decl d) (at_decl d (out-Decl d) refl)) (decls_three ds)

block_sum : (a d s n t : ℕ) → 3 * a ≤ d → n ≡ 1 + t + s → t ≡ d → 3 * a ≤ n
block_sum a d s n t h e f = omega (arith, h, e, f)

block_three : (b : Block) → 3 * declared_headings (out-Block b).decls ≤ size_block b
block_three b = block_sum _ _ (size_stmts_if (out-Block b).body) (size_block b) _ (decls_three (out-Block b).decls)
    (at_block b (out-Block b) refl) (total_map size_decl (out-Block b).decls)

contents_three : (c : Contents) → 3 * outermost_in c ≤ size_contents c
contents_three (contents.Definition defs) = no_three _ where
  no_three : (n : ℕ) → 3 * 0 ≤ n
  no_three n = omega arith
contents_three (contents.Implementation b) = block_three b
contents_three (contents.Program b) = block_three b

-- a third of what the tree of the longest text counts, and one
abbrev most_slots : ℕ
most_slots = 1398103

procedures_sum : (p o c i n : ℕ) → p ≤ o → 3 * o ≤ c → 1 + i + c ≤ n → n ≤ most → suc p ≤ most_slots
procedures_sum p o c i n h l k q = omega (arith, h, l, k, q)

slots_more : (a b c : ℕ) → a ≤ most_slots → b ≤ most_slots * c → a + b ≤ most_slots * suc c
slots_more a b c h l = omega (arith, h, l)

slots_below : (s n : ℕ) → s ≤ most_slots * n → n ≤ 1024 → 1 + s < 4294967296
slots_below s n h l = omega (arith, h, l)

few_modules : (n : ℕ) → n ≤ 1024 → n ≤ few_names
few_modules n h = less n 1024 few_names h (lit≤ tt)

-- ---- what is accepted

few_bytes : (n pages : ℕ) → n ≤ 65536 * pages → pages ≤ 1024 → n < 4294967296
few_bytes n pages h l = omega (arith, h, l)

link_small : (p : Program) (pages : ℕ) → slots_in p ≤ most_slots * length p → IsSmallProgram p pages
    → list_all (λ m. is_short_name m.name) p ≡ true → LinkIsSmall p pages
link_small p pages slots small short =
    let few = few_modules (length p) small.modules in
    record {
      memory = small.memory;
      modules = count_few (length p) few;
      storage = few_bytes (bytes_in p) pages small.linkable.room small.memory;
      slots = slots_below (slots_in p) (length p) slots small.modules;
      names = all_fit (λ m. m.name) p short;
      lengths = sum_few (sum_of name_length p) (length p) (all_sum (λ m. m.name) p short) few;
    }

all_from : (P : TypedModule → Type 0) (ms : List TypedModule)
    → ((k : ℕ) (m : TypedModule) → slice_get ms k ≡ Some m → P m) → All P ms
all_from P [] h = All-nil P
all_from P (m ∷ ms) h = All-cons P m ms (h zero m refl) (all_from P ms (λ k n e. h (suc k) n e))

ok_most : {T : Type 0} {size : TypedModule → ℕ} {n : ℕ} {x : TypedModule} {r : Result TypedModule T} → AtMost size n r
    → r ≡ Ok x → size x ≤ n
ok_most {size = size} {n = n} {x = x} (fine y p) e = let same : y ≡ x = cc e in subst (λ t. size t ≤ n) same p
ok_most (broken y) e = absurd cc

imports_differ : (g : Gathers) (t : TypedModule) → IsAccepted g t → ImportsDiffer t
imports_differ g t is = subst (λ r. IfOk r ImportsDiffer) is.accepted
    (module_differs g (elaborate_body g) is.tree is.number is.own is.tables)

own_short : (g : Gathers) (t : TypedModule) → IsAccepted g t → is_short_name t.name ≡ true
own_short g t is =
    let stands : StandsOnImports is.tree is.own t =
    subst (λ r. IfOk r (StandsOnImports is.tree is.own)) is.accepted
    (modules_stand g (elaborate_body g) is.number is.tree is.own is.tables) in
    subst (λ (n : List ℕ). is_short_name n ≡ true) (sym stands.name)
    (text_named is.text is.tokens is.tree is.scanned is.parsed.0)

tree_few : (g : Gathers) (t : TypedModule) (is : IsAccepted g t) → size_module is.tree ≤ most
tree_few g t is = tree_bounded is.text is.tokens is.tree is.short is.scanned is.parsed.0

counts_few : (g : Gathers) (t : TypedModule) → CountsAreSmall g → IsAccepted g t → CountsFew t
counts_few g t counts is = less (counts_in t) (size_module is.tree) most
    (ok_most (counts is.number is.tree is.own is.tables is.own_once) is.accepted) (tree_few g t is)

slots_few : (g : Gathers) (t : TypedModule) → ProceduresAreDeclared g → IsAccepted g t → slots t ≤ most_slots
slots_few g t declared is =
    procedures_sum (length t.procedures) (outermost_in is.tree.contents) (size_contents is.tree.contents)
    (sum_of size_import is.tree.imports) (size_module is.tree)
    (ok_most (declared is.number is.tree is.own is.tables is.own_once) is.accepted) (contents_three is.tree.contents)
    (same_few (size_module is.tree)) (tree_few g t is)
  where
    same_few : (n : ℕ) → n ≤ n
    same_few n = omega arith

all_slots_few : (g : Gathers) → ProceduresAreDeclared g → (ms : List TypedModule) → All (IsAccepted g) ms
    → slots_in ms ≤ most_slots * length ms
all_slots_few g declared [] h = omega arith
all_slots_few g declared (m ∷ ms) h = slots_more (slots m) (slots_in ms) (length ms)
    (slots_few g m declared (All-head (IsAccepted g) m ms h))
    (all_slots_few g declared ms (All-tail (IsAccepted g) m ms h))

module _ (g : Gathers) (counts : CountsAreSmall g) (declared : ProceduresAreDeclared g) (levels : AcceptedAreShallow g)
    (outward : AcceptedAreNear g) (p : Program) (accepted : All (IsAccepted g) p) where
  all_own : (ms : List TypedModule) → All (IsAccepted g) ms → list_all (λ m. is_short_name m.name) ms ≡ true
  all_own [] h = refl
  all_own (m ∷ ms) h = both_true _ _ (own_short g m (All-head (IsAccepted g) m ms h))
      (all_own ms (All-tail (IsAccepted g) m ms h))

  imported_short : (m : TypedModule) (i : Imported) → Knows p m i → is_short_name i.name ≡ true
  imported_short m i k =
      subst (λ (n : List ℕ). is_short_name n ≡ true) (sym k.name)
      (own_short g k.home (each_at (IsAccepted g) p _ k.home k.there accepted))

  all_imported : (m : TypedModule) (is : List Imported) → All (Knows p m) is
      → list_all (λ i. is_short_name i.name) is ≡ true
  all_imported m [] h = refl
  all_imported m (i ∷ is) h = both_true _ _ (imported_short m i (All-head (Knows p m) i is h))
      (all_imported m is (All-tail (Knows p m) i is h))

  short_at : (m : TypedModule) → IsAccepted g m → IsStored m → All (Knows p m) m.imports → length m.imports ≤ few_names
      → IsShortModule m
  short_at m is stored known few = record {
    stored = stored;
    names = names_room m (own_short g m is) (all_imported m m.imports known) few;
    levels = ok_most (levels is.tokens is.tree is.parsed is.number is.own is.tables) is.accepted;
    outward = ok_most (outward is.tokens is.tree is.parsed is.number is.own is.tables) is.accepted;
  }

  stored_at : (t : TypedModule) → IsAccepted g t → HasStorage t → IsStored t
  stored_at t is has = record { parts = has; counts = counts_few g t counts is }

  pub accepted_programs : (pages : ℕ) → AreModules p → AreTypedModules p pages → All HasStorage p
      → IsSmallProgram p pages → list_all module_fits (all p pages) ≡ true
  accepted_programs pages are typed storage small =
      let stored : All IsStored p = all_from IsStored p
      (λ k m there. stored_at m (each_at (IsAccepted g) p k m there accepted)
      (each_at HasStorage p k m there storage)) in
      programs_fit p pages are typed
      (all_from IsShortModule p
      (λ k m there.
      let is = each_at (IsAccepted g) p k m there accepted in
      let known = (are k m there).coherent.imports in
      short_at m is (each_at IsStored p k m there stored) known
      (less _ _ few_names (imports_few p m (imports_differ g m is) known) (few_modules (length p) small.modules))))
      (link_small p pages (all_slots_few g declared p accepted) small (all_own p accepted))
