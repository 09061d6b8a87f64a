-- Limits of memories (Core 1.0, sections 3.2.5 and 4.2.8).
use Rattle.std.specs.Prelude.{ℕ}

-- the bytes of a page
abbrev pub page_size : ℕ
page_size = 65536

-- the pages of a memory
abbrev pub max_memory : ℕ
max_memory = 65536
