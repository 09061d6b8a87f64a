-- Modules of a directory that are there, and those that are not.
use Rattle.std.proofs.Common.{◌≡◌, ℕ, ◌+◌, ◌<◌, suc, ◌⊎◌, inl, inr, List, [], ◌∷◌, ◌++◌, length, take, drop, map, get_or, Option, Some, refl, sym, ap, subst, ◌∙◌, append_assoc}
use Rattle.std.specs.Borrow.{Bor}
use Rattle.std.proofs.lemmas.List.{map_more, map-append, append-nil, take-append-drop}
use Rattle.std.proofs.Math.Seq.{drop-cons}
use Rattle.wasm_tree.specs.declared.fault.WFault.{WFault}
use Rattle.wasm_tree.specs.declared.fault.WFault.TheVariants.{Malformed, OutsideProfile, Invalid, Unlinked, SegmentOutside, NoMemory}
use Rattle.wasm_tree.specs.declared.module.WModule.{WModule}
use Rattle.wasm_tree.specs.Format.{Fails}
use Rattle.wasm_tree.specs.Linking.{link_name}
use Rattle.wasm_binary.specs.Binary.{Encodes, module_at}
use Rattle.wasm_tree.specs.Validity.{IsValid}
use Rattle.run_directory.specs.declared.report.Report.{Report}
use Rattle.run_directory.specs.declared.report.Report.TheVariants.{Refused}
use Rattle.run_directory.specs.Directory.{Files, FileRead, Read, HasRead, file_of, module_names, IsModule, AreModules, Empty, More}
use Rattle.run_directory.specs.Reported.{IsMissing, FirstMissing, IsRefused, Unencoded, NotValid, Memory, ComesOf, Comes}
use Rattle.run_directory.proofs.FileReads.{none_read, more_read}

module _ (name : Bor (List ℕ)) (bytes slice : List ℕ) (same : slice ≡ bytes) where
  abbrev reads : List FileRead
  reads = Read (file_of name.now) (Some bytes) ∷ []

  pub unencoded : (fault : WFault) → Fails fault (module_at slice) → IsMissing reads name.now (Refused name fault)
  unencoded Malformed e = (refl, Unencoded bytes Malformed (ap module_at (sym same) ∙ e))
  unencoded OutsideProfile e = (refl, Unencoded bytes OutsideProfile (ap module_at (sym same) ∙ e))
  unencoded Invalid e = (refl, Unencoded bytes Invalid (ap module_at (sym same) ∙ e))
  unencoded Unlinked e = (refl, Unencoded bytes Unlinked (ap module_at (sym same) ∙ e))
  unencoded SegmentOutside e = (refl, Unencoded bytes SegmentOutside (ap module_at (sym same) ∙ e))
  unencoded NoMemory e = (refl, Memory bytes)

  pub not_valid : (tree : WModule) (fault : WFault) → Encodes slice tree → ((fault ≡ Invalid) × (IsValid tree → ⊥))
      ⊎ (fault ≡ NoMemory) → IsMissing reads name.now (Refused name fault)
  not_valid tree fault s (inl e) = (
    refl,
    subst (λ (f : WFault). IsRefused (file_of name.now) reads f) (sym e.0)
        (NotValid bytes tree (subst (λ (b : List ℕ). Encodes b tree) same s) e.1),
  )
  not_valid tree fault s (inr e) = (
    refl,
    subst (λ (f : WFault). IsRefused (file_of name.now) reads f) (sym e)
        (Memory bytes),
  )

-- memory was refused behind a module that is there
pub refused_behind : (read : FileRead) (name : Bor (List ℕ)) (tree : WModule) → IsModule read name.now tree
    → IsMissing (read ∷ []) name.now (Refused name NoMemory)
refused_behind read name tree h = (
  refl,
  subst (λ (r : FileRead). IsRefused (file_of name.now) (r ∷ []) NoMemory)
      (sym h.is_read) (Memory h.bytes),
)

-- ---- the modules so far

and_one : (reads : List FileRead) (names : List (List ℕ)) (trees : List WModule) (read : FileRead) (name : List ℕ)
    (tree : WModule) → AreModules reads names trees → IsModule read name tree
    → AreModules (reads ++ read ∷ []) (names ++ name ∷ []) (trees ++ tree ∷ [])
and_one _ _ _ read name tree Empty h = More read name tree [] [] [] h Empty
and_one _ _ _ read name tree (More r n t rs ns ts first others) h =
    More r n t (rs ++ read ∷ []) (ns ++ name ∷ []) (ts ++ tree ∷ []) first (and_one rs ns ts read name tree others h)

module _ {D : Type 0} (noted : D → Option (List FileRead)) (gives : D → Files) where
  -- behind the first ones the modules of these names
  abbrev pub NamedSoFar : (dir now : D) (first : List WModule) (names : List (List ℕ)) (modules : List WModule) → Type 0
  NamedSoFar dir now first names modules =
      (reads : List FileRead) × HasRead noted gives reads dir now
      × (others : List WModule) × (modules ≡ first ++ others) × AreModules reads names others

  pub none_so_far : (dir : D) (first : List WModule) → NamedSoFar dir dir first [] first
  none_so_far dir first = ([], none_read noted gives dir, [], sym (append-nil first), Empty)

  pub one_behind : (dir now after : D) (first : List WModule) (names more : List (List ℕ)) (name : List ℕ)
      (modules new : List WModule) → NamedSoFar dir now first names modules → more ≡ names ++ name ∷ []
      → (read : FileRead) × HasRead noted gives (read ∷ []) now after × (tree : WModule) × (new ≡ modules ++ tree ∷ [])
      × IsModule read name tree → NamedSoFar dir after first more new
  one_behind dir now after first names more name modules new so_far is found = (
    so_far.0 ++ found.0 ∷ [],
    more_read noted gives so_far.0 (found.0 ∷ []) dir now after so_far.1 found.1,
    so_far.2 ++ found.2 ∷ [],
    found.3 ∙ ap (λ (ms : List WModule). ms ++ found.2 ∷ []) so_far.3 ∙ append_assoc first so_far.2 (found.2 ∷ []),
    subst (λ (ns : List (List ℕ)). AreModules (so_far.0 ++ found.0 ∷ []) ns (so_far.2 ++ found.2 ∷ [])) (sym is)
        (and_one so_far.0 names so_far.2 found.0 name found.2 so_far.4 found.4),
  )

  -- what comes of the modules behind link
  pub comes_behind : {S : Type 0} (reported : S → Option (List ℕ)) (failed : S → ℕ) (dir now after : D)
      (link_tree : WModule)
      → (read : FileRead) × HasRead noted gives (read ∷ []) dir now × IsModule read link_name link_tree
      → (steps : ℕ) (r : Report) (before out : S) (first : List WModule) (names : List (List ℕ))
      → first ≡ link_tree ∷ [] → names ≡ module_names link_tree.exports
      → (reads : List FileRead) × HasRead noted gives reads now after
      × ComesOf reported failed reads first names steps r before out
      → (reads : List FileRead) × HasRead noted gives reads dir after × Comes reported failed reads steps r before out
  comes_behind reported failed dir now after link_tree held steps r before out first names alone are h = (
    held.0 ∷ h.0,
    more_read noted gives (held.0 ∷ []) h.0 dir now after held.1 h.1,
    inl (record {
      link_tree = link_tree;
      first = held.0;
      others = h.0;
      all_reads = refl;
      link_is = held.2;
      comes = subst (λ (ns : List (List ℕ)). ComesOf reported failed h.0 (link_tree ∷ []) ns steps r before out) are
          (subst (λ (ts : List WModule). ComesOf reported failed h.0 ts names steps r before out) alone h.2);
    }),
  )

-- ---- a list that is looked at through f

module _ {X Y : Type 0} (f : X → Y) (xs : List X) (k : ℕ) (x : X) (y : Y) (h : k < length xs) (is : x ≡ get_or xs k x)
    (of : y ≡ f x) where
  pub map_one_more : map f (take (k + 1) xs) ≡ map f (take k xs) ++ y ∷ []
  map_one_more = map_more f xs k x h ∙ ap (λ (z : _). map f (take k xs) ++ z ∷ []) (sym (of ∙ ap f is))

  pub map_one_between : map f xs ≡ map f (take k xs) ++ y ∷ map f (drop (suc k) xs)
  map_one_between =
      ap (map f) (sym (take-append-drop k xs))
      ∙ map-append f (take k xs) (drop k xs)
      ∙ ap (λ (ys : List X). map f (take k xs) ++ map f ys) (drop-cons xs k x h)
      ∙ ap (λ (z : Y). map f (take k xs) ++ z ∷ map f (drop (suc k) xs)) (sym (of ∙ ap f is))

-- all before one that is missing are there
module _ {D : Type 0} (noted : D → Option (List FileRead)) (gives : D → Files) where
  pub stops_at : {X : Type 0} (f : X → List ℕ) (xs : List X) (k : ℕ) (x : X) (name : List ℕ) → k < length xs
      → x ≡ get_or xs k x → name ≡ f x
      → (dir now after : D) (first modules : List WModule)
      → NamedSoFar noted gives dir now first (map f (take k xs)) modules
      → (r : Report) → (reads : List FileRead) × HasRead noted gives reads now after × IsMissing reads name r
      → (reads : List FileRead) × HasRead noted gives reads dir after × FirstMissing reads (map f xs) r
  stops_at f xs k x name h is of dir now after first modules so_far r missing = (
    so_far.0 ++ missing.0,
    more_read noted gives so_far.0 missing.0 dir now after so_far.1 missing.1,
    record {
      before = map f (take k xs);
      name = name;
      after = map f (drop (suc k) xs);
      are = map_one_between f xs k x name h is of;
      reads_before = so_far.0;
      last = missing.0;
      all_reads = refl;
      trees = so_far.2;
      there = so_far.4;
      missing = missing.2;
    },
  )
