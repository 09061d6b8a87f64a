-- How bytes of source are shown, and where the mark stands under them.
use Rattle.std.specs.Prelude.{ℕ, ◌-◌, ◌/◌, ◌%◌, ◌==◌, ◌&&◌, Bool, true, nat_le, max, List, [], ◌∷◌, ◌++◌, length, take, replicate, if◌then◌else◌, codes, decimal}
use Rattle.std.specs.List.{fold}
use Rattle.std.specs.Fmt.{digit_glyph}

-- a tab goes on to the next multiple of this column
abbrev pub tab_width : ℕ
tab_width = 8

-- from the blank to ~
abbrev pub is_printable : ℕ → Bool
is_printable byte = nat_le 32 byte && nat_le byte 126

-- how a byte is shown at a column, counted from 0: a tab as blanks, and what cannot be printed as
-- \xNN
unfoldable pub cell : (column byte : ℕ) → List ℕ
cell column byte =
    if byte == 9 then replicate (tab_width - column % tab_width) 32 else
    if is_printable byte then byte ∷ [] else
    92 ∷ 120 ∷ digit_glyph true (byte / 16) ∷ digit_glyph true (byte % 16) ∷ []

abbrev pub put : (text : List ℕ) (byte : ℕ) → List ℕ
put text byte = text ++ cell (length text) byte

-- bytes of source as they are shown behind a text
abbrev pub show_source : (front bytes : List ℕ) → List ℕ
show_source front bytes = fold put front bytes

-- the number of a line, in front of it
abbrev pub gutter : ℕ → List ℕ
gutter number = decimal number ++ codes " | "

-- blanks under a text
abbrev pub blanks_under : List ℕ → List ℕ
blanks_under text = replicate (length text) 32

-- in red if colour is asked for
abbrev pub paint_mark : Bool → List ℕ → List ℕ
paint_mark colour mark =
    if colour then (27 ∷ codes "[1;31m") ++ mark ++ (27 ∷ codes "[0m") else mark

-- the mark under a token that takes the columns between two texts: at least one sign
abbrev pub mark : (before through : List ℕ) → List ℕ
mark before through = replicate (max (length through - length before) 1) 94

-- the row under a line: blanks under the gutter and what stands before the token, and then the mark
abbrev pub mark_row : (colour : Bool) (gutter front bytes : List ℕ) (start end : ℕ) → List ℕ
mark_row colour gutter front bytes start end =
    let before = show_source front (take start bytes) in
    blanks_under (gutter ++ before)
    ++ paint_mark colour (mark before (show_source front (take end bytes)))

-- a line of source behind its number, and under it the row with the mark
abbrev pub picture : (colour : Bool) (number : ℕ) (front bytes back : List ℕ) (start end : ℕ)
    → List ℕ
picture colour number front bytes back start end =
    gutter number ++ (show_source front bytes ++ (back ++ (codes "\n"
    ++ (mark_row colour (gutter number) front bytes start end ++ codes "\n"))))
