-- Bytes that were built are read back as the modules of the program.
use Rattle.std.proofs.Common.{◌≡◌, ℕ, suc, ◌+◌, ◌<◌, List, [], ◌∷◌, ◌++◌, map, length, get_or, take, drop, String, Result, Ok, Err, inl, inr, ◌⊎◌, refl, sym, ap, subst, ◌∙◌}
use Rattle.std.specs.Prelude.{All, IfErr, IfOk, IsOk, MatchResult}
use Rattle.std.specs.Global.{Global, Vec}
use Rattle.std.proofs.lemmas.List.Elements.{All-head, All-tail}
use Rattle.m2_tree.specs.declared.refusal.Refusal.{Refusal}
use Rattle.wasm_tree.specs.declared.fault.WFault.{WFault}
use Rattle.wasm_tree.specs.declared.fault.WFault.TheVariants.{Invalid, NoMemory}
use Rattle.wasm_tree.specs.declared.module.WModule.{WModule}
use Rattle.wasm_tree.specs.Validity.{IsValid}
use Rattle.wasm_tree.specs.Linking.{link as linked}
use Rattle.wasm_binary.specs.Binary.{Encodes}
use Rattle.wasm_binary.proofs.LawsModule.{one_module}
use Rattle.build_jobs.specs.declared.file.SourceFile.{SourceFile}
use Rattle.def_scheme.specs.Modules.{typed_module}
use Rattle.m2c.specs.declared.files.Outcome.{Outcome}
use Rattle.m2c.specs.declared.files.Outcome.TheVariants as outcome
use Rattle.m2c.specs.Build.{AreAlike, AreEncoded, IsBuilt, IsProgram, name_bytes}
use Rattle.run_directory.proofs.Missing.{map_one_more, map_one_between}
use Rattle.run_program.specs.Reading.{IsModule, Lacks, bytes_of}
use Rattle.run_program.specs.Runs.{AreRefused, IsProgramOf, modules_of}
use Rattle.run_program.proofs.Right.{in_time}

-- ---- lists of bytes

-- bytes encode one list of modules
pub one_list : (bs : List (List ℕ)) (ms ns : List WModule) → AreEncoded bs ms → AreEncoded bs ns → ms ≡ ns
one_list [] [] [] x y = refl
one_list [] [] (n ∷ ns) x y = absurd y
one_list [] (m ∷ ms) ns x y = absurd x
one_list (b ∷ bs) [] ns x y = absurd x
one_list (b ∷ bs) (m ∷ ms) [] x y = absurd y
one_list (b ∷ bs) (m ∷ ms) (n ∷ ns) x y =
    ap (λ (k : WModule). k ∷ ms) (one_module b m n x.0 y.0)
    ∙ ap (λ (ks : List WModule). n ∷ ks) (one_list bs ms ns x.1 y.1)

-- one more
pub one_more : (bs : List (List ℕ)) (ms : List WModule) (b : List ℕ) (m : WModule) → AreEncoded bs ms → Encodes b m
    → AreEncoded (bs ++ b ∷ []) (ms ++ m ∷ [])
one_more [] [] b m x y = (y, tt)
one_more [] (n ∷ ns) b m x y = absurd x
one_more (c ∷ cs) [] b m x y = absurd x
one_more (c ∷ cs) (n ∷ ns) b m x y = (x.0, one_more cs ns b m x.1 y)

-- one of them
pub one_of : (before : List (List ℕ)) (b : List ℕ) (after : List (List ℕ)) (ms : List WModule)
    → AreEncoded (before ++ b ∷ after) ms → All IsValid ms → (m : WModule) × IsModule b m
one_of [] b after [] x v = absurd x
one_of [] b after (m ∷ ms) x v = (m, record { encoded = x.0; valid = All-head IsValid m ms v })
one_of (c ∷ cs) b after [] x v = absurd x
one_of (c ∷ cs) b after (m ∷ ms) x v = one_of cs b after ms x.1 (All-tail IsValid m ms v)

-- ---- one module

-- bytes that encode no module are none of a valid one
pub unread : (bytes : List ℕ) (fault : WFault) → (fault ≡ NoMemory) ⊎ ((m : WModule) → ¬ (Encodes bytes m))
    → Lacks fault ((m : WModule) → ¬ (IsModule bytes m))
unread bytes fault (inl e) = inl e
unread bytes fault (inr none) = inr (λ m is. none m is.encoded)

module _ (bytes : List ℕ) (tree : WModule) (encoded : Encodes bytes tree) where
  not_valid : (IsValid tree → ⊥) → (m : WModule) → IsModule bytes m → ⊥
  not_valid not_so m is = not_so (subst IsValid (one_module bytes m tree is.encoded encoded) is.valid)

  refused : (fault : WFault) → ((fault ≡ Invalid) × (IsValid tree → ⊥)) ⊎ (fault ≡ NoMemory)
      → Lacks fault ((m : WModule) → ¬ (IsModule bytes m))
  refused fault (inl e) = inr (not_valid e.1)
  refused fault (inr e) = inl e

  -- what the validator answers of what the bytes encode
  pub validated : (r : Result WModule WFault)
      → MatchResult r (λ v. (v ≡ tree) × IsValid tree) (λ e. ((e ≡ Invalid) × (IsValid tree → ⊥)) ⊎ (e ≡ NoMemory))
      → MatchResult r (λ m. Encodes bytes m) (λ e. Lacks e ((m : WModule) → ¬ (IsModule bytes m)))
  validated (Ok v) h = subst (Encodes bytes) (sym h.0) encoded
  validated (Err e) h = refused e h

-- ---- all of them

module _ (link : List ℕ) (others : List (String Global × Vec ℕ)) where
  abbrev Fails : WFault → Type 0
  Fails fault = Lacks fault ((trees : List WModule) → AreEncoded (link ∷ map bytes_of others) trees
      → ¬ (All IsValid trees))

  pub lacks_link : (fault : WFault) → Lacks fault ((m : WModule) → ¬ (IsModule link m)) → Fails fault
  lacks_link fault (inl e) = inl e
  lacks_link fault (inr none) = inr (λ trees encoded valid. let m =
      one_of [] link (map bytes_of others) trees encoded valid in none m.0 m.1)

  module _ (k : ℕ) (x : String Global × Vec ℕ) (bytes : List ℕ) (lt : k < length others) (is : x ≡ get_or others k x)
      (of : bytes ≡ bytes_of x) where
    pub one_behind : (old new : List WModule) → AreEncoded (link ∷ map bytes_of (take k others)) old → (m : WModule)
        × (new ≡ old ++ m ∷ []) × Encodes bytes m → AreEncoded (link ∷ map bytes_of (take (k + 1) others)) new
    one_behind old new so_far one =
        subst (λ (bs : List (List ℕ)). AreEncoded (link ∷ bs) new)
        (sym (map_one_more bytes_of others k x bytes lt is of))
        (subst (AreEncoded (link ∷ map bytes_of (take k others) ++ bytes ∷ [])) (sym one.1)
        (one_more (link ∷ map bytes_of (take k others)) old bytes one.0 so_far one.2))

    lacking : ((m : WModule) → ¬ (IsModule bytes m)) → (trees : List WModule)
        → AreEncoded (link ∷ map bytes_of others) trees → ¬ (All IsValid trees)
    lacking none trees encoded valid =
        let split = map_one_between bytes_of others k x bytes lt is of in
        let there = subst (λ (bs : List (List ℕ)). AreEncoded (link ∷ bs) trees) split encoded in
        let m = one_of (link ∷ map bytes_of (take k others)) bytes (map bytes_of (drop (suc k) others)) trees there
        valid in
        none m.0 m.1

    pub lacks_other : (fault : WFault) → Lacks fault ((m : WModule) → ¬ (IsModule bytes m)) → Fails fault
    lacks_other fault (inl e) = inl e
    lacks_other fault (inr none) = inr (lacking none)

same_bytes : (others : List (String Global × Vec ℕ)) → map (λ m. m.1) (map name_bytes others) ≡ map bytes_of others
same_bytes [] = refl
same_bytes (m ∷ ms) = ap (λ (bs : List (List ℕ)). m.1.items ∷ bs) (same_bytes ms)

-- ---- what was built

module _ (files : List SourceFile) (pages : ℕ) (o : Outcome) (built : IsBuilt files pages o)
    (only : (other : Outcome) → IsBuilt files pages other → AreAlike o other) where
  pub are_refused : (refusals : Vec Refusal) → o ≡ outcome.Refused refusals → AreRefused files pages refusals
  are_refused refusals is = record {
    built = subst (λ (x : Outcome). IsBuilt files pages x) is built;
    only = subst (λ (x : Outcome). (other : Outcome) → IsBuilt files pages other → AreAlike x other) is only;
  }

  module _ (link : Vec ℕ) (others : Vec (String Global × Vec ℕ)) (is : o ≡ outcome.Built link others)
      (link_slice : List ℕ) (slice : List (String Global × Vec ℕ)) (same_link : link_slice ≡ link.items)
      (same : slice ≡ others.items) where
    program : IsProgram files pages link.items (map name_bytes others.items)
    program = subst (λ (x : Outcome). IsBuilt files pages x) is built

    abbrev Reads : List WModule → Type 0
    Reads trees = AreEncoded (link_slice ∷ map bytes_of slice) trees

    encoded : Reads (modules_of program.program pages)
    encoded =
        subst (λ (l : List ℕ). AreEncoded (l ∷ map bytes_of slice) (modules_of program.program pages)) (sym same_link)
        (subst (λ (ms : List (String Global × Vec ℕ)). AreEncoded (link.items ∷ map bytes_of ms)
        (modules_of program.program pages)) (sym same) (
          program.code.link_encoded,
          subst (λ (bs : List (List ℕ)). AreEncoded bs (map typed_module program.program))
              (same_bytes others.items) program.code.encoded,
        ))

    -- only for want of memory is it not read back
    pub read_or_memory : (r : Result (Vec WModule) WFault)
        → IfErr r (λ e. Lacks e ((trees : List WModule) → Reads trees → ¬ (All IsValid trees)))
        → IfErr r (λ e. e ≡ NoMemory)
    read_or_memory (Ok v) h = tt
    read_or_memory (Err e) (inl is_memory) = is_memory
    read_or_memory (Err e) (inr none) = absurd (none (modules_of program.program pages) encoded program.valid)

    -- what is read back is the program
    pub program_of : (trees : List WModule) → Reads trees → IsProgramOf files pages trees
    program_of trees read = record {
      link = link;
      others = others;
      program = program;
      only = subst (λ (x : Outcome). (other : Outcome) → IsBuilt files pages other → AreAlike x other) is only;
      are = one_list (link_slice ∷ map bytes_of slice) trees (modules_of program.program pages) read encoded;
      in_time = in_time program.program pages program.behaves.0 program.behaves.1 program.behaves.2;
    }

    pub program_read : (r : Result (Vec WModule) WFault) (v : Vec WModule) → r ≡ Ok v → IfOk r (λ x. Reads x.items)
        → IsProgramOf files pages v.items
    program_read r v is_ok read = program_of v.items
        (subst (λ (x : Result (Vec WModule) WFault). IfOk x (λ y. Reads y.items)) is_ok read)

-- the modules of a program link
pub they_link : (files : List SourceFile) (pages : ℕ) (trees : List WModule) → IsProgramOf files pages trees
    → IsOk (linked trees)
they_link files pages trees of = subst IsOk (sym (ap linked of.are ∙ of.program.links.1)) refl
