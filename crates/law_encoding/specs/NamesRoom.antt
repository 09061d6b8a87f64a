-- The names of texts are short.
use Rattle.std.specs.Prelude.{◌≡◌, ◌≤◌, ◌^◌, ℕ, Bool, true, ◌&&◌, nat_lt, nat_le, List, length}
use Rattle.std.specs.List.{list_all}
use Rattle.m2_tree.specs.Limits.{max_name}
use Rattle.m2_tree.specs.declared.token.Token.{Token}
use Rattle.m2_tree.specs.declared.decl.Module.{Module}
use Rattle.scan_tokens.specs.Division.{HasTokens}
use Rattle.typed_tree.specs.declared.typed_module.TypedModule.{TypedModule}
use Rattle.def_grammar.specs.Refusal.{IsModule}
use Rattle.law_encoding.specs.ImportsRoom.{NamesAreShort}

-- at most 64 bytes of ASCII
abbrev pub is_short_name : List ℕ → Bool
is_short_name name = list_all (λ b. nat_lt b 128) name && nat_le (length name) max_name

-- this number of short names has 2 ^ 24 bytes at most
abbrev pub few_names : ℕ
few_names = 2 ^ 18

-- The name of the module of a text is short.
abbrev pub TextNamesAreShort : Type 0
TextNamesAreShort = (text : List ℕ) (ts : List Token) (m : Module) → HasTokens text ts
    → IsModule ts m → is_short_name m.name.name ≡ true

-- A module has room for its names, if they are short and it imports few modules.
abbrev pub ShortNamesFit : Type 0
ShortNamesFit = (m : TypedModule) → is_short_name m.name ≡ true
    → list_all (λ i. is_short_name i.name) m.imports ≡ true → length m.imports ≤ few_names
    → NamesAreShort m
