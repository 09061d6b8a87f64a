-- What is written of a body that is compiled alone is a part of each program that has it.
use Rattle.std.proofs.Common.{◌≡◌, ℕ, List, [], ◌∷◌, map, Some, refl, sym, ap, ◌∙◌}
use Rattle.std.specs.Str.Lossy.{utf8_lossy}
use Rattle.std.specs.String.{string_bytes}
use Rattle.std.proofs.lemmas.Option.{none-some}
use Rattle.m2_tree.specs.declared.name.Ident.{Ident}
use Rattle.m2_tree.specs.declared.decl.Module.{Module}
use Rattle.m2_emit.specs.declared.emitted.ModuleBytes.{ModuleBytes}
use Rattle.m2_emit.specs.Emitted.{link_part}
use Rattle.build_jobs.specs.declared.file.SourceFile.{SourceFile}
use Rattle.build_jobs.specs.declared.outcome.Compiled.TheVariants.{Built}
use Rattle.build_results.specs.Texts.{modules, AreTrees}
use Rattle.list_imports.specs.Listed.{told, once}
use Rattle.law_graph.specs.Started.{all_imported}
use Rattle.law_separation.specs.Alike.{Tree, Jobs, comes_of}
use Rattle.compile_module.specs.Alone.{IsMade}
use Rattle.compile_module.specs.Stands.{with_stands}
use Rattle.compile_module.specs.Told.{IsTold}
use Rattle.link_parts.specs.declared.part.Part.{Part}
use Rattle.link_parts.specs.Linked.{sizes_of}
use Rattle.law_linking.specs.Parts.{each_once, IsPart}
use Rattle.law_exchange_jobs.specs.Sharing.{AreShared}
use Rattle.law_exchange_jobs.proofs.Coming.{made_alone}
use Rattle.law_alone.proofs.Moving.{moves_with_numbers}
use Rattle.law_compiling.specs.Whole.{Written, IsWritten, AreWithin, IsWrittenOf, WhatIsWrittenIsPart}
use Rattle.law_compiling.proofs.Words.{HasWords, word_text}
use Rattle.law_compiling.proofs.Telling.{told_once}
use Rattle.law_compiling.proofs.Places.{some_module, built_of}
use Rattle.law_compiling.proofs.Importing.{told_same, imported_words}
use Rattle.law_compiling.proofs.Sources.{tree_there, words_at}

-- It is a part of the program, and these are the bytes of its module.
pub record IsPartWith (trees : List Tree) (jobs : Jobs trees) (w : Written) : Type 0 where
  pub part : IsPart trees jobs w.part
  pub code : w.code ≡ part.built.bytes

same_sizes : (m : ModuleBytes) (root : Module) (p : Part) → m.name ≡ root.name.name → p.sizes.variables ≡ m.variables
    → p.sizes.texts ≡ m.texts → p.sizes.slots ≡ m.slots → link_part m ≡ sizes_of (p, root)
same_sizes m root p name variables texts slots =
    ap (λ (n : List ℕ). record { name = n; variables = m.variables; texts = m.texts; slots = m.slots }) name
    ∙ ap (λ (n : ℕ). record { name = root.name.name; variables = n; texts = m.texts; slots = m.slots })
    (sym variables)
    ∙ ap (λ (n : ℕ). record { name = root.name.name; variables = p.sizes.variables; texts = n; slots = m.slots })
    (sym texts)
    ∙ ap (λ (n : ℕ). record { name = root.name.name; variables = p.sizes.variables; texts = p.sizes.texts; slots = n })
    (sym slots)

module _ (program : List SourceFile) (others : List Tree) (whole : AreTrees program others) (jobs : Jobs others)
    (files : List SourceFile) (within : AreWithin program files) (w : Written)
    (is : IsWritten files w) where
  -- with the trees of the files, of which the first is the body
  with_body : (file : List ℕ) (root : Module) (rest : List Tree) → AreTrees files ((file, root) ∷ rest)
      → IsMade ((file, root) ∷ rest) (Some (Built is.m))
      → IsTold (modules ((file, root) ∷ rest)) is.is_program is.imports.items is.needed.items
      → IsPartWith others jobs w
  with_body file root rest are made told_is =
      let alone : List Tree = (file, root) ∷ rest in
      let there = tree_there program files others alone whole are within in
      let place = there 0 root refl in
      let both : AreShared alone others 0 place.0 root = record {
        here = refl;
        there = place.1;
        definitions = λ k d e kind needs. there k d e;
      } in
      let comes : comes_of others jobs place.0 ≡ Some (Built is.m) =
      made_alone moves_with_numbers alone others is.m made jobs place.0 root both in
      let its = built_of others jobs place.0 root is.m place.1 comes in
      let words : HasWords root = words_at program others whole root place in
      let text : utf8_lossy root.name.name ≡ root.name.name = word_text root.name.name words.name in
      let imports : map string_bytes w.part.imports.items
      ≡ each_once (map (λ (i : Ident). i.name) (all_imported (modules others) root)) =
      is.part.imported ∙ told_is.are_imports
      ∙ ap (λ (ns : List (List ℕ)). once (told ns))
      (told_same root rest others file made.numbers made.needs made.have jobs place.0 both its.kind)
      ∙ told_once (all_imported (modules others) root)
      (imported_words (modules others) (words_at program others whole) root words) in
      record {
        part = record {
          file = place.0;
          body = root;
          there = place.1;
          kind = its.kind;
          name = is.part.name ∙ ap utf8_lossy its.name ∙ text;
          program = is.part.kind ∙ told_is.is_program;
          imports = imports;
          built = is.m;
          is_built = comes;
          sizes = same_sizes is.m root w.part its.name is.part.variables is.part.texts is.part.slots;
        };
        code = is.code;
      }

  with_trees : (alone : List Tree) → AreTrees files alone → IsMade alone (Some (Built is.m))
      → IsTold (modules alone) is.is_program is.imports.items is.needed.items → IsPartWith others jobs w
  with_trees [] are made told_is =
      let s = some_module (with_stands [])
      (record {
        files = made.numbers;
        needs = made.needs;
        starts = made.have.starts;
        is_graph = made.have.is_graph;
      }) in
      absurd (none-some s.1 s.2)
  with_trees (f ∷ rest) are made told_is = with_body f.0 f.1 rest are made told_is

  pub written_part : IsPartWith others jobs w
  written_part = let c = is.comes in with_trees c.0 c.1 c.2.0 c.2.1

-- So is all that was written of bodies of the program.
pub is_part_with : (program : List SourceFile) (others : List Tree) → AreTrees program others → (jobs : Jobs others)
    → (w : Written) → IsWrittenOf program w → IsPartWith others jobs w
is_part_with program others whole jobs w is = written_part program others whole jobs is.files is.within w is.written

pub written_is_part : WhatIsWrittenIsPart
written_is_part program trees are jobs w is = (is_part_with program trees are jobs w is).part
