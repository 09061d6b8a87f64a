-- The list of the types of functions that are marked, and their numbers.
use Rattle.std.specs.Prelude.{ℕ, ◌+◌, ◌==◌, Bool, true, false, not, ◌&&◌, List, [], ◌∷◌, ◌++◌, length}
use Rattle.std.specs.List.{fold}
use Rattle.emit_tables.specs.declared.signature.Signature.{Signature}
use Rattle.emit_tables.specs.declared.signature.Numbers.{Numbers}
use Rattle.emit_tables.specs.declared.marks.Mark.{Mark}
use Rattle.emit_tables.specs.declared.table.Table.{Table}

-- a type that is wanted, and its number behind these
abbrev pub enter_signature : Bool → ℕ → Bool → List Signature
enter_signature true n r = record { arguments = n; has_result = r } ∷ []
enter_signature false n r = []

abbrev pub number_behind : Bool → List Signature → ℕ
number_behind true list = 6 + length list
number_behind false list = 6

-- the type without arguments and result is the type of bodies
abbrev pub is_wanted : ℕ → Mark → Bool
is_wanted n x = x.without && not (n == 0)

abbrev pub entered_first : List Signature → ℕ → Mark → List Signature
entered_first list n x = list ++ enter_signature (is_wanted n x) n false

abbrev pub entered_both : List Signature → ℕ → Mark → List Signature
entered_both list n x = entered_first list n x ++ enter_signature x.giving n true

abbrev pub numbers_for : List Signature → ℕ → Mark → Numbers
numbers_for list n x = record {
  without = number_behind (is_wanted n x) list;
  giving = number_behind x.giving (entered_first list n x);
}

-- the types with one more argument
abbrev pub with_mark : Table → Mark → Table
with_mark t x = record {
  list = entered_both t.list (length t.numbers) x;
  numbers = t.numbers ++ numbers_for t.list (length t.numbers) x ∷ [];
}

abbrev pub no_table : Table
no_table = record { list = []; numbers = [] }

abbrev pub table_of : List Mark → Table
table_of xs = fold with_mark no_table xs
