-- Of each file a tree or a refusal is read.
use Rattle.std.proofs.Common.{ℕ, List, [], ◌∷◌, Result, Ok, Err, inl, inr, refl}
use Rattle.std.specs.Ptr.{null_ptr}
use Rattle.m2_tree.specs.declared.decl.Module.{Module}
use Rattle.m2_tree.specs.declared.token.Token.{Token}
use Rattle.scan_tokens.specs.FaultNumber.{number_of}
use Rattle.scan_tokens.specs.declared.refusal.ScanRefusal.{ScanRefusal}
use Rattle.def_grammar.specs.declared.refusal.ParseRefusal.{ParseRefusal}
use Rattle.law_texts.specs.Laws.{IsScanned, IsParsed}
use Rattle.law_texts.proofs.Texts.{texts_are_scanned}
use Rattle.law_texts.proofs.Trees.{tokens_are_parsed}
use Rattle.build_jobs.specs.declared.reading.Read.{Read}
use Rattle.build_jobs.specs.declared.reading.Read.TheVariants.{Parsed, Refused}
use Rattle.build_jobs.specs.declared.file.SourceFile.{SourceFile}
use Rattle.build_jobs.specs.Reading.{AreTokens, IsRead, AreRead}

abbrev HasRead : List ℕ → Type 0
HasRead text = (r : Read) × IsRead text r

-- A tree is shared at some place in memory. Which one does not matter.
tree_read : (text : List ℕ) (tokens : List Token) → AreTokens text tokens → (r : Result Module ParseRefusal)
    → IsParsed tokens r → HasRead text
tree_read text tokens are (Ok tree) h = (
  Parsed (record { ptr = null_ptr; value = tree }),
  record { tokens = tokens; divides = are; is_tree = h },
)
tree_read text tokens are (Err r) h = (
  Refused r.pos r.number,
  inr
      (record { tokens = tokens; divides = are; refusal = r; reported = h; place = refl; rule = refl }),
)

text_read : (text : List ℕ) (r : Result (List Token) ScanRefusal) → IsScanned text r → HasRead text
text_read text (Ok tokens) h = let p = tokens_are_parsed tokens in
    tree_read text tokens (record { short = h.0; divides = h.1 }) p.0 p.1.has
text_read text (Err r) h = (
  Refused r.pos (number_of r.broken),
  inl
      (record { refusal = r; refuses = h; place = refl; rule = refl }),
)

file_read : (text : List ℕ) → HasRead text
file_read text = let s = texts_are_scanned text in text_read text s.0 s.1.has

pub files_are_read : (files : List SourceFile) → (reads : List Read) × AreRead files reads
files_are_read [] = ([], tt)
files_are_read (f ∷ fs) =
    let r = file_read f.bytes.items in
    let rs = files_are_read fs in
    (r.0 ∷ rs.0, (r.1, rs.1))
