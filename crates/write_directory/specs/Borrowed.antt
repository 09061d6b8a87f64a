-- Files whose bytes are borrowed. No public contract speaks of it.
use Rattle.std.specs.Prelude.{ℕ, List, map, String}
use Rattle.std.specs.Borrow.{Bor}
use Rattle.std.specs.String.{string_bytes}
use Rattle.std.specs.Global.{Global}
use Rattle.write_directory.specs.Calls.{File}

abbrev pub files_borrowed : List (String Global × Bor (List ℕ)) → List File
files_borrowed files = map (λ f. (string_bytes f.0, f.1.now)) files
