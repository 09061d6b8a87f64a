-- Bodies of modules that are compiled.
use Rattle.std.proofs.Common.{◌≤◌, ◌<◌, ℕ, List, arith}
use Rattle.std.specs.Str.{IsUtf8}
use Rattle.std.proofs.lemmas.List.Elements.{All-weaker}
use Rattle.std.proofs.lemmas.Str.{IsUtf8-from_ascii}
use Rattle.std.proofs.lemmas.Str.Ascii.{IsAscii-from_all}
use Rattle.m2c.specs.Names.{IsName}

pub name_utf8 : (name : List ℕ) → IsName name → IsUtf8 name
name_utf8 name h = IsUtf8-from_ascii name
    (IsAscii-from_all name (All-weaker (λ b. (48 ≤ b) × (b < 123)) (λ b. b < 128) (λ b w. omega (arith, w.1)) name h.1))
