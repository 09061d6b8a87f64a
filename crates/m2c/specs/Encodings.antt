-- Every program that is accepted has an encoding.
use Rattle.std.specs.Prelude.{◌≡◌, ℕ, ◌*◌, ◌≤◌, true, List, [], ◌∷◌, map}
use Rattle.std.specs.List.{list_all}
use Rattle.m2_tree.specs.declared.decl.Module.{Module}
use Rattle.wasm_binary.specs.Binary.{module_fits}
use Rattle.def_meaning.specs.Environment.{Modules}
use Rattle.def_scheme.specs.Modules.{max_pages, typed_module, typed_link}
use Rattle.build_jobs.specs.declared.file.SourceFile.{SourceFile}
use Rattle.m2c.specs.Modules.{AreTyped}
use Rattle.build_results.specs.Texts.{modules}
use Rattle.build_results.specs.Results.{refused_by}
use Rattle.m2c.specs.Build.{data_and_stack, HaveGraph}
use Rattle.layout_storage.specs.Sizes.{page_size}

-- No module of the files breaks a rule, and the data of the program fits into the pages. Then the
-- module link has an encoding, and so has the module of each body: all numbers of its code fit, and
-- so do the numbers of its types, its locals, its blocks and its bytes.
abbrev pub ProgramsFit : Type 0
ProgramsFit =
    (files : List SourceFile) (trees : List (List ℕ × Module)) (numbers : List ℕ)
    (all_jobs : List (List ℕ)) (starts : List ℕ)
    → HaveGraph files trees numbers all_jobs starts
    → refused_by trees numbers all_jobs ≡ []
    → (p : Modules)
    → AreTyped (modules trees) numbers all_jobs starts p
    → (pages : ℕ)
    → 1 ≤ pages
    → pages ≤ max_pages
    → data_and_stack p ≤ page_size * pages
    → list_all module_fits (typed_link p pages ∷ map typed_module p) ≡ true
