-- The text of the module InputBytes for an input.
use Rattle.std.specs.Prelude.{ℕ, ◌+◌, ◌*◌, ◌/◌, [], zero, suc, List, ◌++◌, length, take, drop, codes, decimal}
use Rattle.input_module.specs.Spelling.{spelled}

-- the greatest number of bytes of a text that compiles
abbrev pub max_text : ℕ
max_text = 1048576

-- an input of at most so many bytes has a text that compiles, whatever its bytes are
abbrev pub always_fits : ℕ
always_fits = 500000

-- how many bytes each part but the last stands for
abbrev pub part_bytes : ℕ
part_bytes = 4096

-- the part of this number
abbrev pub part : List ℕ → ℕ → List ℕ
part bytes n = take part_bytes (drop (n * part_bytes) bytes)

abbrev pub arm : List ℕ → ℕ → List ℕ
arm bytes n =
    codes "  | " ++ (decimal n ++ (codes ": part := \"" ++ (spelled (part bytes n)
    ++ codes "\"\n")))

-- the first n arms
unfoldable pub arms : List ℕ → ℕ → List ℕ
arms bytes zero = []
arms bytes (suc n) = arms bytes n ++ arm bytes n

-- an input whose last part is full, also an empty one, has an empty part behind it
abbrev pub parts_of : List ℕ → ℕ
parts_of bytes = length bytes / part_bytes + 1

abbrev pub front : List ℕ → List ℕ
front bytes =
    codes "IMPLEMENTATION MODULE InputBytes;\n\nPROCEDURE Size(): CARDINAL;\nBEGIN\n  RETURN "
    ++ (decimal (length bytes)
    ++ codes
    "\nEND Size;\n\nPROCEDURE Take(number: CARDINAL; VAR part: Part);\nBEGIN\n  CASE number OF\n")

abbrev pub back : List ℕ
back = codes "  ELSE part := \"\"\n  END\nEND Take;\n\nEND InputBytes.\n"

unfoldable pub text_of : List ℕ → List ℕ
text_of bytes = front bytes ++ (arms bytes (parts_of bytes) ++ back)
