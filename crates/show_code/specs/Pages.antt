-- What pages are made of.
use Rattle.std.specs.Prelude.{ℕ, ◌≡◌, ◌+◌, ◌*◌, List, ◌++◌, IsOk, min, replicate, codes, decimal}
use Rattle.m2_tree.specs.declared.pos.Pos.{Pos}
use Rattle.show_code.specs.declared.page.Page.{Page}

-- These words are put at the end of a page. Where memory did not run out, it had not before, and
-- all of them stand there.
abbrev pub Puts : (old new : Page) → (words : List ℕ) → Type 0
Puts old new words =
    IsOk new.written → IsOk old.written × (new.text.items ≡ old.text.items ++ words)

-- A page has this text, unless memory ran out.
abbrev pub Has : Page → (text : List ℕ) → Type 0
Has page text = IsOk page.written → page.text.items ≡ text

-- a place: its line and its column
abbrev pub place_text : Pos → List ℕ
place_text pos = decimal pos.line ++ (codes ":" ++ decimal pos.col)

-- rows of code have blanks of their own up to this level
abbrev pub deepest : ℕ
deepest = 32

-- the level of what is inside
abbrev pub deeper : (level : ℕ) → ℕ
deeper level = min level 31 + 1

-- blanks in front of a row of code
abbrev pub indent : (level : ℕ) → List ℕ
indent level = replicate (2 * min level deepest) 32

-- a row of code
abbrev pub row : (level : ℕ) → (words : List ℕ) → List ℕ
row level words = indent level ++ (words ++ codes "\n")
