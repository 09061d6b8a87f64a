-- Where the texts of each procedure begin.
use Rattle.std.specs.Prelude.{◌≡◌, ℕ, ◌<◌, ◌++◌, [], List, length, Option, Some, None, slice_get, slice_set, replicate}
use Rattle.std.specs.List.{fold}
use Rattle.typed_tree.specs.declared.typed_module.Which.{Which}
use Rattle.typed_tree.specs.declared.typed_module.Which.TheVariants as which
use Rattle.typed_tree.specs.declared.typed_module.TypedModule.{TypedModule}
use Rattle.layout_storage.specs.Texts.{characters, module_texts, routines_texts, texts_before}
use Rattle.def_scheme.specs.Modules.{all_characters}
use Rattle.emit_tables.specs.declared.offsets.Offsets.{Offsets}
use Rattle.emit_tables.specs.declared.texts.Gathering.{Gathering}
use Rattle.emit_tables.specs.declared.texts.ModuleTexts.{ModuleTexts}
use Rattle.emit_tables.specs.Written.{which_written}

-- ---- tables: for each procedure where its texts begin, once it is known

abbrev pub Table : Type 0
Table = List (Option ℕ)

abbrev pub noted_at : Option (Option ℕ) → Table → (number at : ℕ) → Table
noted_at None xs n at = xs
noted_at (Some (Some begin)) xs n at = xs
noted_at (Some None) xs n at = slice_set xs n (Some at)

-- the first place stays
abbrev pub note_place : Table → (number at : ℕ) → Table
note_place xs n at = noted_at (slice_get xs n) xs n at

abbrev pub noted_which : Offsets → Which → ℕ → Offsets
noted_which x (which.Module n) at = record x { procedures = note_place x.procedures n at }
noted_which x (which.Local n) at = record x { locals = note_place x.locals n at }

abbrev pub or_else : Option (Option ℕ) → ℕ → ℕ
or_else None at = at
or_else (Some None) at = at
or_else (Some (Some begin)) at = begin

-- what is noted of a procedure, or else this
abbrev pub noted_or : Offsets → Which → ℕ → ℕ
noted_or x (which.Module n) at = or_else (slice_get x.procedures n) at
noted_or x (which.Local n) at = or_else (slice_get x.locals n) at

abbrev pub no_offsets : TypedModule → Offsets
no_offsets m = record {
  procedures = replicate (length m.procedures) None;
  locals = replicate (length m.locals) None;
}

-- ---- the texts of procedures, one after another

abbrev pub nothing_yet : TypedModule → Gathering
nothing_yet m = record { characters = []; offsets = no_offsets m }

abbrev pub with_which : TypedModule → Gathering → Which → Gathering
with_which m x w = record {
  characters = x.characters ++ which_written m w;
  offsets = noted_which x.offsets w (length x.characters);
}

abbrev pub gather_texts : TypedModule → Gathering
gather_texts m = fold (with_which m) (nothing_yet m) m.order

-- ---- the texts of a module

-- where the texts of a procedure begin
abbrev pub offset_in : ModuleTexts → Which → ℕ
offset_in x w = noted_or x.offsets w x.body

pub record AreTexts (m : TypedModule) (x : ModuleTexts) : Type 0 where
  pub all : x.characters ≡ all_characters (module_texts m)
  -- the texts of the body stand behind all others
  pub behind : x.body ≡ characters (routines_texts m)
  pub procedures : (n : ℕ) → n < length m.procedures
      → offset_in x (which.Module n) ≡ characters (texts_before m (which.Module n) m.order)
  pub locals : (n : ℕ) → n < length m.locals
      → offset_in x (which.Local n) ≡ characters (texts_before m (which.Local n) m.order)
