-- Whole programs whose bodies are typed: their linked modules do what they do.
use Rattle.std.specs.Prelude.{◌≡◌, ℕ, zero, suc, ◌+◌, ◌*◌, ◌^◌, ◌≤◌, Bool, false, nat_lt, All, Ok, Some, slice_get, if◌then◌else◌}
use Rattle.wasm_tree.specs.Machine.{Config}
use Rattle.wasm_tree.specs.Linking.{link}
use Rattle.typed_tree.specs.declared.typed_module.TypedModule.{TypedModule}
use Rattle.def_meaning.specs.Runs.{body_frame, run}
use Rattle.law_modules.specs.Linked.{Program, IsLinkable, all, bytes_in}
use Rattle.law_simulation.specs.Behaves.{Behaves}
use Rattle.law_simulation.specs.RunsPrograms.{IsSound, fixtures_of, ground}
use Rattle.law_simulation.specs.BodiesLaws.{AreLinked, AreTyped, IsTypedMain}
use Rattle.layout_storage.specs.Sizes.{page_size}

-- link is the module 0, and in all others the first five functions serve the module: calls of them
-- do not count
abbrev pub serving : (k f : ℕ) → Bool
serving zero f = false
serving (suc k) f = nat_lt f 5

-- and their loops may go over all bytes
abbrev pub more_turns : (k f : ℕ) → ℕ
more_turns k f = if serving k f then 2 ^ 32 else 0

-- what is known of a program whose loops make at most this many turns, and whose calls nest so deep
pub record IsTypedProgram (p : Program) (pages n : ℕ) : Type 0 where
  pub linked : AreLinked (all p pages) (fixtures_of p pages) serving more_turns n
      (page_size * pages) p (ground p pages).base (ground p pages).texts
  pub procedures : AreTyped (all p pages) (fixtures_of p pages) serving more_turns n
      (page_size * pages) p (ground p pages).base (ground p pages).texts
  pub bodies : (place : ℕ) (m : TypedModule)
      → slice_get p place ≡ Some m
      → IsTypedMain (all p pages) (fixtures_of p pages) serving more_turns n (page_size * pages) p
      (ground p pages).base (ground p pages).texts place m

-- the modules link, and do what the program does, if its data and a body's frame have room
abbrev pub TypedPrograms : Type 0
TypedPrograms =
    (p : Program) (pages : ℕ)
    → IsLinkable p pages
    → All IsSound p
    → bytes_in p + body_frame ≤ page_size * pages
    → ((n : ℕ) → IsTypedProgram p pages n)
    → (c : Config) × (link (all p pages) ≡ Ok c) × Behaves (all p pages) c (run p pages)
