-- What saving does to a directory.
use Rattle.std.specs.Prelude.{◌≡◌, ◌<◌, ℕ, Bool, true, false, List, [], ◌∷◌, map, Option, Result, Ok, Err, ⊤}
use Rattle.write_directory.specs.declared.fault.SaveFault.{SaveFault}
use Rattle.write_directory.specs.declared.fault.SaveFault.TheVariants.{NoMemory, Device}
use Rattle.write_directory.specs.Calls.{Call, Remove, Write, File, with_calls, link_file, write_call, all_calls, StopsIn, IsBroken}

module _ {D : Type 0} (calls : D → Option (List Call)) (failed : D → ℕ) where
  -- the directory was given these calls, and did not fail
  pub record AreMade (made : List Call) (before after : D) : Type 0 where
    pub noted : calls after ≡ with_calls (calls before) made
    pub same : failed after ≡ failed before

  -- it was given calls of which one failed
  pub record Fails (link : List ℕ) (files : List File) (before after : D) : Type 0 where
    pub made : List Call
    pub noted : calls after ≡ with_calls (calls before) made
    pub broken : IsBroken link files made
    pub grown : failed before < failed after

  -- it was given calls that write files, of which the last failed
  pub record Stops (files : List File) (before after : D) : Type 0 where
    pub made : List Call
    pub noted : calls after ≡ with_calls (calls before) made
    pub stops : StopsIn files made
    pub grown : failed before < failed after

  -- All calls are made, or those up to one that fails. If memory is refused, the directory is not
  -- touched.
  abbrev pub Saves : (link : List ℕ) → List File → Result ⊤ SaveFault → (before after : D)
      → Type 0
  Saves link files (Ok _) before after = AreMade (all_calls link files) before after
  Saves link files (Err Device) before after = Fails link files before after
  Saves link files (Err NoMemory) before after = after ≡ before

  -- The same of the files alone, of link alone, and of all calls, by whether all of them were made.
  abbrev pub WritesAll : List File → Bool → (before after : D) → Type 0
  WritesAll files true before after = AreMade (map write_call files) before after
  WritesAll files false before after = Stops files before after

  abbrev pub WritesLink : (link : List ℕ) → Bool → (before after : D) → Type 0
  WritesLink link true before after = AreMade (Write link_file link true ∷ []) before after
  WritesLink link false before after =
      (again : Bool)
      × (calls after
      ≡ with_calls (calls before) (Write link_file link false ∷ Remove link_file again ∷ []))
      × (failed before < failed after)

  abbrev pub SavesFiles : (link : List ℕ) → List File → Bool → (before after : D) → Type 0
  SavesFiles link files true before after = AreMade (all_calls link files) before after
  SavesFiles link files false before after = Fails link files before after
