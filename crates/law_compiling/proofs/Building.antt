-- What the build of a program gives, in words of what comes of its modules.
use Rattle.std.proofs.Common.{◌≡◌, ℕ, true, List, [], ◌∷◌, map, refl, sym, ap, subst, ◌∙◌}
use Rattle.std.specs.Prelude.{All}
use Rattle.std.proofs.lemmas.List.Elements.{All-head, All-tail}
use Rattle.wasm_binary.specs.Binary.{module_fits}
use Rattle.typed_tree.specs.declared.typed_module.TypedModule.{TypedModule}
use Rattle.def_meaning.specs.Environment.{Modules}
use Rattle.def_scheme.specs.Modules.{Part, typed_module, typed_link, part_of, link_of}
use Rattle.emit_buffer.specs.Cut.{cut_module}
use Rattle.emit_buffer.specs.Fitting.{sizes_fit}
use Rattle.m2_emit.specs.declared.emitted.ModuleBytes.{ModuleBytes}
use Rattle.m2_emit.specs.Emitted.{emitted, parts, code_bytes}
use Rattle.m2_emit.proofs.Encoded.{emitted_kept, fits_bytes}
use Rattle.build_jobs.specs.declared.file.SourceFile.{SourceFile}
use Rattle.build_results.specs.Texts.{modules}
use Rattle.build_results.specs.Results.{start_modules}
use Rattle.law_separation.specs.Alike.{Jobs}
use Rattle.law_linking.specs.Parts.{built_parts}
use Rattle.m2c.specs.Build.{AreEncoded, built_of, named_bytes, IsProgram}
use Rattle.m2c.proofs.Encodings.{whole, sizes_all}
use Rattle.m2c.proofs.Alike.{one_program}

-- ---- modules that have encodings

abbrev HasSizes : TypedModule → Type 0
HasSizes m = sizes_fit m.types ≡ true

abbrev AreFit : Modules → Type 0
AreFit [] = Unit {0}
AreFit (t ∷ ts) = (module_fits (typed_module t) ≡ true) × HasSizes t × AreFit ts

all_fit : (bytes : List (List ℕ)) (p : Modules) → AreEncoded bytes (map typed_module p) → All HasSizes p → AreFit p
all_fit bytes [] e s = tt
all_fit [] (t ∷ ts) e s = absurd e
all_fit (b ∷ bs) (t ∷ ts) e s = (e.0.fits, All-head HasSizes t ts s, all_fit bs ts e.1 (All-tail HasSizes t ts s))

parts_emitted : (p : Modules) → AreFit p → parts (map emitted p) ≡ map part_of p
parts_emitted [] f = refl
parts_emitted (m ∷ ms) f =
    ap (λ (x : Part). x ∷ parts (map emitted ms)) (emitted_kept m f.1 f.0).part
    ∙ ap (λ (xs : List Part). part_of m ∷ xs) (parts_emitted ms f.2)

named_emitted : (p : Modules) → AreFit p → map named_bytes (map emitted p) ≡ map built_of p
unfolding emitted
named_emitted [] f = refl
named_emitted (m ∷ ms) f =
    ap (λ (bytes : List ℕ). (m.name, bytes) ∷ map named_bytes (map emitted ms)) (emitted_kept m f.1 f.0).bytes
    ∙ ap (λ (xs : List (List ℕ × List ℕ)). built_of m ∷ xs) (named_emitted ms f.2)

-- ---- a program

module _ (files : List SourceFile) (pages : ℕ) (link : List ℕ) (built : List (List ℕ × List ℕ))
    (p : IsProgram files pages link built) where
  abbrev pub its_jobs : Jobs p.trees
  its_jobs = record { files = p.numbers; needs = p.all_jobs; starts = p.starts; is_graph = p.graph.is_graph }

  abbrev pub those : List ModuleBytes
  those = start_modules p.trees p.numbers p.all_jobs p.starts

  same : (whole files p.trees p.numbers p.all_jobs p.starts p.graph p.none).program ≡ p.program
  same = one_program (modules p.trees) p.numbers p.all_jobs p.starts
      (whole files p.trees p.numbers p.all_jobs p.starts p.graph p.none).program p.program
      (whole files p.trees p.numbers p.all_jobs p.starts p.graph p.none).typed p.typed

  are : those ≡ map emitted p.program
  are = (whole files p.trees p.numbers p.all_jobs p.starts p.graph p.none).are ∙ ap (map emitted) same

  fit : AreFit p.program
  fit = all_fit (map (λ m. m.1) built) p.program p.code.encoded
      (subst (All HasSizes) same (sizes_all files p.trees p.numbers p.all_jobs p.starts p.graph p.none))

  pub parts_are : built_parts p.trees its_jobs ≡ map part_of p.program
  parts_are = ap parts are ∙ parts_emitted p.program fit

  -- the bytes of link
  pub link_is : link ≡ code_bytes (cut_module (link_of (built_parts p.trees its_jobs) pages))
  link_is =
      p.code.link_encoded.encoding
      ∙ sym (fits_bytes (typed_link p.program pages) p.code.link_encoded.fits)
      ∙ sym (ap (λ (ps : List Part). code_bytes (cut_module (link_of ps pages))) parts_are)

  -- the names and the bytes of the modules
  pub built_is : built ≡ map named_bytes those
  built_is = p.code.body_bytes ∙ sym (ap (map named_bytes) are ∙ named_emitted p.program fit)
