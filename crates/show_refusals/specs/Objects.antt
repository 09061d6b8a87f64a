-- Refusals as JSON.
use Rattle.std.specs.Prelude.{ℕ, List, ◌++◌, codes}
use Rattle.std.specs.String.{string_bytes}
use Rattle.serde_json.specs.Data.{Data, number, unsigned, string, object, member, no_members}
use Rattle.serde_json.specs.Written.{compact_text}
use Rattle.m2_tree.specs.declared.refusal.Refusal.{Refusal}

-- a refusal, the column behind its token, its rule in words, and what stood there, as far as it is
-- known
pub record Row : Type 0 where
  pub refusal : Refusal
  pub end : ℕ
  pub words : List ℕ
  pub detail : List ℕ

abbrev pub object_of : Refusal → (end : ℕ) → (words detail : List ℕ) → Data
object_of r end words detail =
    object (member (codes "column") (number (unsigned r.pos.col))
    (member (codes "detail") (string detail)
    (member (codes "end") (number (unsigned end))
    (member (codes "file") (string (string_bytes r.file))
    (member (codes "line") (number (unsigned r.pos.line))
    (member (codes "rule") (number (unsigned r.number))
    (member (codes "words") (string words) no_members)))))))

abbrev pub line_of : Row → List ℕ
line_of row = compact_text (object_of row.refusal row.end row.words row.detail) ++ codes "\n"
