-- Names of types, and which rules are broken in them.
use Rattle.std.specs.Prelude.{◌≡◌, ℕ, Some, None}
use Rattle.m2_rule.specs.declared.breach.Breach.{Breach}
use Rattle.m2_tree.specs.declared.name.Ident.{Ident}
use Rattle.m2_tree.specs.declared.expr.Qualified.{Qualified}
use Rattle.typed_tree.specs.declared.types.TypeNo.{TypeNo}
use Rattle.def_typing.specs.Things.{Thing, AType, AModule, Standing, Known}
use Rattle.def_typing.specs.Constants.{Misses}

abbrev pub IsType : Thing → Type 0
IsType x = (t : TypeNo) × (x ≡ AType t)

abbrev pub IsModule : Thing → Type 0
IsModule x = (k : ℕ) × (x ≡ AModule k)

module _ (names : Ident → Standing) (exports : ℕ → Ident → Standing) where
  -- T, or M.T
  pub data NamesType (q : Qualified) (t : TypeNo) : Type 0 where
    alone : q.module ≡ None → names q.name ≡ Known (AType t) → NamesType q t
    of_module : {home : Ident} {k : ℕ} → q.module ≡ Some home → names home ≡ Known (AModule k)
        → exports k q.name ≡ Known (AType t) → NamesType q t

  pub data BrokenTypeName (q : Qualified) (f : Breach) : Type 0 where
    at_name : q.module ≡ None → Misses IsType q.name.pos q.name.pos (names q.name) f
        → BrokenTypeName q f
    at_module : {home : Ident} → q.module ≡ Some home
        → Misses IsModule home.pos home.pos (names home) f → BrokenTypeName q f
    -- What is no type is refused at the module's name.
    in_module : {home : Ident} {k : ℕ} → q.module ≡ Some home → names home ≡ Known (AModule k)
        → Misses IsType home.pos q.name.pos (exports k q.name) f → BrokenTypeName q f
