-- The modules that a tree imports, as a list of texts.
use Rattle.std.specs.Prelude.{ℕ, not, List, [], ◌∷◌, ◌++◌, Option, Some, None, String, map}
use Rattle.std.specs.Global.{Global}
use Rattle.std.specs.List.{filter, flat_map, list_any}
use Rattle.std.specs.Str.Lossy.{utf8_lossy}
use Rattle.std.specs.String.{string_bytes}
use Rattle.m2_tree.specs.declared.name.Ident.{Ident}
use Rattle.m2_tree.specs.declared.decl.Import.{Import}
use Rattle.m2_tree.specs.declared.decl.Module.{Module}
use Rattle.m2_tree.specs.Names.{same_name, is_console}

-- ---- names

-- the modules that an import names: the one behind FROM, else each
abbrev pub named_by : Option Ident → List Ident → List Ident
named_by (Some from) names = from ∷ []
named_by None names = names

abbrev pub names_of : List Ident → List (List ℕ)
names_of idents = map (λ i. i.name) idents

abbrev pub import_names : Import → List (List ℕ)
import_names i = names_of (named_by i.from i.names)

-- the names of the modules that a tree imports, as they are written
abbrev pub imported_by : Module → List (List ℕ)
imported_by m = flat_map import_names m.imports

-- ---- texts

abbrev pub texts : List (String Global) → List (List ℕ)
texts strings = map string_bytes strings

-- names as texts, without Console
abbrev pub told : List (List ℕ) → List (List ℕ)
told names = map utf8_lossy (filter (λ n. not (is_console n)) names)

-- those that are none of these
abbrev pub without : (known : List (List ℕ)) → List (List ℕ) → List (List ℕ)
without known ts = filter (λ t. not (list_any (same_name t) known)) ts

-- each once: the first, and then the others
abbrev pub once : List (List ℕ) → List (List ℕ)
once [] = []
once (t ∷ ts) = t ∷ without (t ∷ []) (once ts)

-- known texts, and behind them the others of these, each once
abbrev pub with_new : (known : List (List ℕ)) → List (List ℕ) → List (List ℕ)
with_new known ts = known ++ without known (once ts)
