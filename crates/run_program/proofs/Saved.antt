-- What was saved is read back as the modules of the program, in their order.
use Rattle.std.proofs.Common.{◌≡◌, ◌⊎◌, inl, inr, ℕ, ◌+◌, Bool, true, false, List, [], ◌∷◌, ◌++◌, map, String, Option, Some, None, Result, Ok, Err, refl, sym, ap, subst, ◌∙◌, append_assoc}
use Rattle.std.specs.Prelude.{◌≢◌, All, if◌then◌else◌}
use Rattle.std.specs.List.{AllByRecursion}
use Rattle.std.specs.Option.{option_to_list}
use Rattle.std.specs.Global.{Global, Vec}
use Rattle.std.specs.String.{string_bytes}
use Rattle.std.proofs.lemmas.List.{append_cancel_right}
use Rattle.std.proofs.lemmas.List.Elements.{All-head, All-tail}
use Rattle.wasm_tree.specs.declared.fault.WFault.{WFault}
use Rattle.wasm_tree.specs.declared.fault.WFault.TheVariants as fault
use Rattle.wasm_tree.specs.declared.module.WModule.{WModule}
use Rattle.wasm_tree.specs.declared.module.Export.{Export}
use Rattle.wasm_tree.specs.declared.module.ExportKind.TheVariants as exported
use Rattle.wasm_tree.specs.Format.{Fails}
use Rattle.wasm_tree.specs.Validity.{IsValid, AreDistinct}
use Rattle.wasm_tree.specs.Machine.{Config}
use Rattle.wasm_tree.specs.Linking.{link_name}
use Rattle.wasm_tree.specs.Linking.{link as linked}
use Rattle.wasm_binary.specs.Binary.{module_encoding, Encodes}
use Rattle.wasm_binary.proofs.LawsModule.{one_module, none_encoded}
use Rattle.typed_tree.specs.declared.typed_module.TypedModule.{TypedModule}
use Rattle.def_meaning.specs.Environment.{Modules}
use Rattle.def_scheme.specs.Scheme.{exported_as}
use Rattle.def_scheme.specs.Modules.{part_of, exports_from, typed_module, typed_link}
use Rattle.law_modules.specs.Linked.{names}
use Rattle.write_directory.specs.Calls.{Call, Remove, Write, File, with_calls, link_file, module_file, write_call, before_link, all_calls}
use Rattle.run_directory.specs.declared.report.Report.{Report}
use Rattle.run_directory.specs.declared.report.Report.TheVariants as report
use Rattle.run_directory.specs.Directory.{Files, FileRead, Read, MayBe, file_of, is_module_name, module_named, module_names, IsModule, AreModules, Empty, More}
use Rattle.run_directory.specs.Reported.{IsOf, IsMissing, FirstMissing, ComesOf, ComesOfLink, Comes, IsRefused, Unasked, Memory, Unencoded, NotValid, Printed}
use Rattle.build_jobs.specs.declared.file.SourceFile.{SourceFile}
use Rattle.m2c.specs.Build.{AreEncoded, IsProgram, built_of, name_bytes}
use Rattle.m2c.proofs.Named.{AreFound, program_found}
use Rattle.run_program.specs.Runs.{modules_of}
use Rattle.run_program.specs.Saved.{file_in, IsLast, Holds, IsOfProgram}
use Rattle.run_program.proofs.Right.{begins, right}

abbrev pub bytes_of : TypedModule → List ℕ
bytes_of m = module_encoding (typed_module m)

abbrev pub file : TypedModule → File
file m = (file_of m.name, bytes_of m)

-- ---- the files of modules

files_built : (ms : List (String Global × Vec ℕ)) (p : Modules) → map name_bytes ms ≡ map built_of p
    → map module_file ms ≡ map file p
files_built [] [] e = refl
files_built [] (m ∷ p) e = absurd cc
files_built (x ∷ ms) [] e = absurd cc
files_built (x ∷ ms) (m ∷ p) e =
    let first : (string_bytes x.0, x.1.items) ≡ (m.name, bytes_of m) = cc in
    let rest : map name_bytes ms ≡ map built_of p = cc in
    ap (λ (n : List ℕ × List ℕ). (file_of n.0, n.1) ∷ map module_file ms) first
    ∙ ap (λ (fs : List File). file m ∷ fs) (files_built ms p rest)

-- ---- names

link_is_none : (name : List ℕ) → is_module_name name ≡ true → link_name ≡ name → ⊥
link_is_none name e same = let is : is_module_name link_name ≡ true = ap is_module_name same ∙ e in absurd cc

-- the last call about a file that stands in front of these modules
others_behind : (name link : List ℕ) (p : Modules) → is_module_name name ≡ true → All (λ y. name ≢ y) (names p)
    → AllByRecursion (λ c. file_in c ≢ file_of name) (map write_call (map file p) ++ Write link_file link true ∷ [])
others_behind name link [] e h = ((λ same. link_is_none name e (append_cancel_right link_name name _ same)), tt)
others_behind name link (m ∷ p) e h = (
  (λ same. All-head (λ y. name ≢ y) m.name (names p) h (sym (append_cancel_right m.name name _ same))),
  others_behind name link p e (All-tail (λ y. name ≢ y) m.name (names p) h),
)

module _ (all : List Call) (link : List ℕ) where
  abbrev AreLast : Modules → Type 0
  AreLast p = AllByRecursion (λ m. IsLast all (file_of m.name) (bytes_of m)) p

  each_last : (front : List Call) (p : Modules)
      → all ≡ front ++ (map write_call (map file p) ++ Write link_file link true ∷ [])
      → AllByRecursion (λ n. is_module_name n ≡ true) (names p) → AreDistinct (names p)
      → AreLast p
  each_last front [] e words distinct = tt
  each_last front (m ∷ p) e words distinct =
      let back : List Call = map write_call (map file p) ++ Write link_file link true ∷ [] in (
        record { front = front; back = back; are = e; others = others_behind m.name link p words.0 distinct.0 },
        each_last (front ++ Write (file_of m.name) (bytes_of m) true ∷ []) p
            (e ∙ sym (append_assoc front (Write (file_of m.name) (bytes_of m) true ∷ []) back)) words.1 distinct.1,
      )

-- ---- what the exports of link name

names_from : (g : ℕ) (p : Modules) → AllByRecursion (λ n. is_module_name n ≡ true) (names p) → (more : List Export)
    → module_names more ≡ [] → module_names (exports_from g (map part_of p) ++ more) ≡ names p
names_from g [] words more none = none
names_from g (m ∷ p) words more none =
    ap (λ (b : Bool). option_to_list (if b then Some m.name else None)
    ++ module_names (exports_from (g + 3) (map part_of p) ++ more)) words.0
    ∙ ap (λ (ns : List (List ℕ)). m.name ∷ ns) (names_from (g + 3) p words.1 more none)

link_names : (p : Modules) (pages : ℕ) → AllByRecursion (λ n. is_module_name n ≡ true) (names p)
    → module_names (typed_link p pages).exports ≡ names p
link_names p pages words = names_from 1 p words _ refl

-- ---- what is read

-- a program, and a folder that gives what was written last
module _ (p : Modules) (pages : ℕ) (link : List ℕ) (gives : Files) where
  -- a read gives no other bytes
  abbrev pub Gives : List ℕ → List ℕ → Type 0
  Gives name bytes = (read : List ℕ) → gives name (Some read) → read ≡ bytes

  record IsThere (m : TypedModule) : Type 0 where
    given : Gives (file_of m.name) (bytes_of m)
    encodes : Encodes (bytes_of m) (typed_module m)
    valid : IsValid (typed_module m)

  read_of : Option (List ℕ) → List ℕ
  read_of None = []
  read_of (Some bytes) = bytes

  name_in : FileRead → List ℕ
  name_in (Read name bytes) = name

  bytes_in : FileRead → Option (List ℕ)
  bytes_in (Read name bytes) = bytes

  -- a module that is read is the one that was saved
  one_is : (name bytes : List ℕ) (saved tree : WModule) (read : FileRead) → Gives (file_of name) bytes
      → Encodes bytes saved → IsModule read name tree → MayBe gives read → tree ≡ saved
  one_is name bytes saved tree read given encodes is may =
      let from : gives (file_of name) (Some is.bytes) = subst (MayBe gives) is.is_read may in
      one_module bytes tree saved (subst (λ (b : List ℕ). Encodes b tree) (given is.bytes from) is.encoded) encodes

  all_are : (reads : List FileRead) (q : Modules) (trees : List WModule) → AllByRecursion IsThere q
      → AllByRecursion (MayBe gives) reads → AreModules reads (names q) trees → trees ≡ map typed_module q
  all_are reads [] trees there may Empty = refl
  all_are reads (m ∷ q) trees there may (More read name tree rest others more is are) =
      ap (λ (t : WModule). t ∷ more) (one_is m.name (bytes_of m) (typed_module m) tree read there.0.given
      there.0.encodes is may.0)
      ∙ ap (λ (ts : List WModule). typed_module m ∷ ts) (all_are rest q more there.1 may.1 are)

  -- ---- what is missing

  -- only for want of memory, or if it cannot be read
  refused : (name bytes : List ℕ) (tree : WModule) (reads : List FileRead) (f : WFault) → Gives (file_of name) bytes
      → Encodes bytes tree → IsValid tree → AllByRecursion (MayBe gives) reads → IsRefused (file_of name) reads f
      → f ≡ fault.NoMemory
  refused name bytes tree reads f given encodes valid may Unasked = refl
  refused name bytes tree reads f given encodes valid may (Memory read) = refl
  refused name bytes tree reads f given encodes valid may (Unencoded read e is) =
      absurd (none_encoded read e is tree (subst (λ (b : List ℕ). Encodes b tree) (sym (given read may.0)) encodes))
  refused name bytes tree reads f given encodes valid may (NotValid read other is not_so) =
      absurd (not_so (subst IsValid (sym (one_module bytes other tree
      (subst (λ (b : List ℕ). Encodes b other) (given read may.0) is) encodes)) valid))

  module _ {S : Type 0} (reported : S → Option (List ℕ)) (failed : S → ℕ) (steps : ℕ) where
    abbrev Result_of : Report → (before after : S) → Type 0
    Result_of r before after = IsOfProgram reported failed p pages steps r before after

    missing : (name bytes : List ℕ) (tree : WModule) (reads : List FileRead) (r : Report) (before after : S)
        → Gives (file_of name) bytes → Encodes bytes tree → IsValid tree → AllByRecursion (MayBe gives) reads
        → IsMissing reads name r → Printed reported failed [] before after → Result_of r before after
    missing name bytes tree reads (report.Unread other) before after given encodes valid may is printed = printed
    missing name bytes tree reads (report.Refused other f) before after given encodes valid may is printed =
        (refused name bytes tree reads f given encodes valid may is.1, printed)
    missing name bytes tree reads (report.Ran end) before after given encodes valid may is printed = absurd is
    missing name bytes tree reads (report.Broken f) before after given encodes valid may is printed = absurd is

    may_behind : (xs ys : List FileRead) → AllByRecursion (MayBe gives) (xs ++ ys) → AllByRecursion (MayBe gives) ys
    may_behind [] ys h = h
    may_behind (x ∷ xs) ys h = may_behind xs ys h.1

    -- the module of a name that the program has
    record Named (name : List ℕ) : Type 0 where
      of : TypedModule
      same : of.name ≡ name
      there : IsThere of

    named_at : (q : Modules) (before : List (List ℕ)) (name : List ℕ) (after : List (List ℕ)) → AllByRecursion IsThere q
        → names q ≡ before ++ name ∷ after → Named name
    named_at [] [] name after there e = absurd cc
    named_at [] (b ∷ bs) name after there e = absurd cc
    named_at (m ∷ q) [] name after there e = record { of = m; same = cc; there = there.0 }
    named_at (m ∷ q) (b ∷ bs) name after there e = let rest : names q ≡ bs ++ name ∷ after = cc in
        named_at q bs name after there.1 rest

    first_missing : (reads : List FileRead) (r : Report) (before after : S) → AllByRecursion IsThere p
        → AllByRecursion (MayBe gives) reads → FirstMissing reads (names p) r → Printed reported failed [] before after
        → Result_of r before after
    first_missing reads r before after there may m printed =
        let x = named_at p m.before m.name m.after there m.are in
        let last = may_behind m.reads_before m.last (subst (AllByRecursion (MayBe gives)) m.all_reads may) in
        missing x.of.name (bytes_of x.of) (typed_module x.of) m.last r before after x.there.given x.there.encodes
        x.there.valid last (subst (λ (n : List ℕ). IsMissing m.last n r) (sym x.same) m.missing) printed

    -- ---- what comes of it

    module _ (c : Config) (links : linked (modules_of p pages) ≡ Ok c) where
      memory_alone : (f : WFault) → Fails f (linked (modules_of p pages)) → f ≡ fault.NoMemory
      memory_alone fault.Malformed e = let no : Ok c ≡ Err fault.Malformed = sym links ∙ e in absurd cc
      memory_alone fault.OutsideProfile e = let no : Ok c ≡ Err fault.OutsideProfile = sym links ∙ e in absurd cc
      memory_alone fault.Invalid e = let no : Ok c ≡ Err fault.Invalid = sym links ∙ e in absurd cc
      memory_alone fault.Unlinked e = let no : Ok c ≡ Err fault.Unlinked = sym links ∙ e in absurd cc
      memory_alone fault.SegmentOutside e = let no : Ok c ≡ Err fault.SegmentOutside = sym links ∙ e in absurd cc
      memory_alone fault.NoMemory e = refl

module _ (files : List SourceFile) (pages : ℕ) (link : Vec ℕ) (modules : Vec (String Global × Vec ℕ))
    (built : IsProgram files pages link.items (map name_bytes modules.items)) where
  abbrev pub its : Modules
  its = built.program

  found : AreFound its
  found = program_found files built.trees built.numbers built.all_jobs built.starts built.graph built.none its
      built.typed

  pub files_are : map module_file modules.items ≡ map file its
  files_are = files_built modules.items its built.code.body_bytes

  module _ {S : Type 0} (reported : S → Option (List ℕ)) (failed : S → ℕ) (gives : Files) (steps : ℕ) where
    abbrev Comes_to : Report → (before after : S) → Type 0
    Comes_to r before after = IsOfProgram reported failed its pages steps r before after

    ran : (r : Report) (before after : S) → IsOf reported failed (modules_of its pages) steps r before after
        → Comes_to r before after
    ran (report.Ran end) before after is = (
      is,
      right its pages built.behaves.0 built.behaves.1 built.behaves.2 end steps is.bytes is.config is.is_end
          is.has_run,
    )
    ran (report.Broken f) before after is =
        (is, begins its pages built.behaves.0 built.behaves.1 built.behaves.2 is.made is.bytes is.config is.has_run)
    ran (report.Refused name f) before after is =
        (memory_alone its pages link.items gives reported failed steps built.links.0 built.links.1 f is.1, is.2)
    ran (report.Unread name) before after is = absurd is

    all_there : (q : Modules) → AllByRecursion (λ m. Gives its pages link.items gives (file_of m.name) (bytes_of m)) q
        → AreEncoded (map bytes_of q) (map typed_module q) → All IsValid (map typed_module q)
        → AllByRecursion (IsThere its pages link.items gives) q
    all_there [] given encoded valid = tt
    all_there (m ∷ q) given encoded valid = (
      record {
        given = given.0;
        encodes = encoded.0;
        valid =
            All-head IsValid (typed_module m) (map typed_module q) valid;
      },
      all_there q given.1 encoded.1 (All-tail IsValid (typed_module m) (map typed_module q) valid),
    )

    seconds : (q : Modules) → map (λ m. m.1) (map built_of q) ≡ map bytes_of q
    seconds [] = refl
    seconds (m ∷ q) = ap (λ (bs : List (List ℕ)). bytes_of m ∷ bs) (seconds q)

    module _ (of_link : Gives its pages link.items gives (file_of link_name) link.items)
        (of_modules : AllByRecursion (λ m. Gives its pages link.items gives (file_of m.name) (bytes_of m)) its) where
      encoded : AreEncoded (map bytes_of its) (map typed_module its)
      encoded =
          subst (λ (bs : List (List ℕ)). AreEncoded bs (map typed_module its))
          (ap (λ (ms : List (List ℕ × List ℕ)). map (λ m. m.1) ms) built.code.body_bytes ∙ seconds its)
          built.code.encoded

      there : AllByRecursion (IsThere its pages link.items gives) its
      there = all_there its of_modules encoded
          (All-tail IsValid (typed_link its pages) (map typed_module its) built.valid)

      link_valid : IsValid (typed_link its pages)
      link_valid = All-head IsValid (typed_link its pages) (map typed_module its) built.valid

      of_names : (reads : List FileRead) (r : Report) (before after : S) → AllByRecursion (MayBe gives) reads
          → ComesOf reported failed reads (typed_link its pages ∷ []) (names its) steps r before after
          → Comes_to r before after
      of_names reads r before after may (inl x) =
          let same : x.0 ≡ map typed_module its = all_are its pages link.items gives reads its x.0 there may x.1 in
          ran r before after (subst (λ (ts : List WModule). IsOf reported failed (typed_link its pages ∷ ts) steps r
          before after) same x.2)
      of_names reads r before after may (inr x) =
          first_missing its pages link.items gives reported failed steps reads r before after there may x.0 x.1

      behind_link : (reads : List FileRead) (r : Report) (before after : S) (tree : WModule)
          → tree ≡ typed_link its pages → AllByRecursion (MayBe gives) reads
          → ComesOf reported failed reads (tree ∷ []) (module_names tree.exports) steps r before after
          → Comes_to r before after
      behind_link reads r before after tree same may x =
          of_names reads r before after may
          (subst (λ (ns : List (List ℕ)). ComesOf reported failed reads (typed_link its pages ∷ []) ns steps r before
          after) (link_names its pages found.words)
          (subst (λ (t : WModule). ComesOf reported failed reads (t ∷ []) (module_names t.exports) steps r before after)
          same x))

      pub comes_to : (reads : List FileRead) (r : Report) (before after : S) → AllByRecursion (MayBe gives) reads
          → Comes reported failed reads steps r before after → Comes_to r before after
      comes_to reads r before after may (inl x) =
          let all = subst (AllByRecursion (MayBe gives)) x.all_reads may in
          let same = one_is its pages link.items gives link_name link.items (typed_link its pages) x.link_tree x.first
          of_link built.code.link_encoded x.link_is all.0 in
          behind_link x.others r before after x.link_tree same all.1 x.comes
      comes_to reads r before after may (inr x) =
          missing its pages link.items gives reported failed steps link_name link.items (typed_link its pages) reads r
          before after of_link built.code.link_encoded link_valid may x.0 x.1

  -- ---- what was written is given

  module _ (gives : Files) (earlier all : List Call) (calls_are : all ≡ earlier ++ all_calls link.items (map file its))
      (holds : Holds all gives) where
    abbrev front : List Call
    front = earlier ++ Remove link_file true ∷ []

    behind_front : all ≡ front ++ (map write_call (map file its) ++ Write link_file link.items true ∷ [])
    behind_front = calls_are ∙ sym (append_assoc earlier (Remove link_file true ∷ [])
        (map write_call (map file its) ++ Write link_file link.items true ∷ []))

    pub link_given : Gives its pages link.items gives (file_of link_name) link.items
    link_given read is = holds link_file link.items read (record {
      front = earlier ++ before_link (map file its);
      back = [];
      are = calls_are ∙ sym (append_assoc earlier (before_link (map file its)) (Write link_file link.items true ∷ []));
      others = tt;
    }) is

    given_by : (q : Modules) → AreLast all link.items q
        → AllByRecursion (λ m. Gives its pages link.items gives (file_of m.name) (bytes_of m)) q
    given_by [] h = tt
    given_by (m ∷ q) h = ((λ read is. holds (file_of m.name) (bytes_of m) read h.0 is), given_by q h.1)

    pub modules_given : AllByRecursion (λ m. Gives its pages link.items gives (file_of m.name) (bytes_of m)) its
    modules_given = given_by its (each_last all link.items front its behind_front found.words found.distinct)

pub calls_known : (before after : Option (List Call)) (made earlier all : List Call) → after ≡ with_calls before made
    → before ≡ Some earlier → after ≡ Some all → all ≡ earlier ++ made
calls_known before after made earlier all e is_before is_after =
    let same : Some all ≡ Some (earlier ++ made) = sym is_after ∙ e
    ∙ ap (λ (b : Option (List Call)). with_calls b made) is_before in cc
