-- What names stand for behind imports, and which rules are broken in them.
use Rattle.std.specs.Prelude.{◌≡◌, ◌⊎◌, ℕ, suc, Bool, true, false, List, [], ◌∷◌, map, take, drop, reverse, Option, Some, None}
use Rattle.std.specs.List.{flat_map}
use Rattle.m2_rule.specs.declared.breach.Breach.{Breach}
use Rattle.m2_rule.specs.declared.rule.Rule.TheVariants as rule
use Rattle.m2_tree.specs.declared.name.Ident.{Ident}
use Rattle.m2_tree.specs.declared.decl.Import.{Import}
use Rattle.typed_tree.specs.declared.meaning.Meaning.{Meaning}
use Rattle.typed_tree.specs.declared.meaning.Meaning.TheVariants as meaning
use Rattle.typed_tree.specs.declared.table.Table.{Table}
use Rattle.def_typing.specs.Operators.{◌!◌}

-- ---- imports as they are written

pub data Imported : Type 0 where
  -- M of IMPORT M
  OfModule : Ident → Imported
  -- M of FROM M
  FromModule : Ident → Imported
  -- x of FROM M IMPORT x
  OfName : (from name : Ident) → Imported

abbrev pub parts_of : Option Ident → List Ident → List Imported
parts_of None names = map OfModule names
parts_of (Some from) names = FromModule from ∷ map (OfName from) names

-- all parts of imports, the last one first
abbrev pub all_imported : List Import → List Imported
all_imported imports = reverse (flat_map (λ x. parts_of x.from x.names) imports)

-- ---- tables of definitions

-- the first in a list with this property, and its place
pub data IsFoundAt {A : Type 0} (P : A → Type 0) (a : A) : List A → ℕ → Type 0 where
  found_here : {xs : List A} → P a → IsFoundAt P a (a ∷ xs) 0
  found_later : {x : A} {xs : List A} {k : ℕ} → (P x → ⊥) → IsFoundAt P a xs k
      → IsFoundAt P a (x ∷ xs) (suc k)

abbrev pub Entry : Type 0
Entry = List ℕ × Meaning

abbrev pub IsEntry : List ℕ → List Entry → Entry → ℕ → Type 0
IsEntry name es e k = IsFoundAt (λ e. e.0 ≡ name) e es k

-- How many entries come with a name: the constants of an enumeration stand behind its type.
abbrev pub names_with : Meaning → ℕ
names_with (meaning.Type t n) = n
names_with other = 1

-- ---- one import

-- where a name comes from: it is a module's own, or one that a module exports
pub data Origin : Type 0 where
  Itself : ℕ → Origin
  Exported : ℕ → Origin

-- tables: of the definitions that can be imported. own: the names that the own definition declares
module _ (tables : List Table) (own : List ℕ → Bool) where
  abbrev pub IsTable : Ident → Table → ℕ → Type 0
  IsTable name t k = IsFoundAt (λ t. t.name ≡ name.name) t tables k

  module _ (There : List ℕ → Origin → Meaning → Type 0) where
    abbrev pub IsNew : List ℕ → Type 0
    IsNew n = (own n ≡ false) × ((o : Origin) (m : Meaning) → There n o m → ⊥)

    -- what an import gives
    pub data Gives : Imported → List ℕ → Origin → Meaning → Type 0 where
      -- IMPORT M gives M.
      gives_module : {name : Ident} {t : Table} {k : ℕ} → IsTable name t k
          → Gives (OfModule name) name.name (Itself k) (meaning.Module k)
      -- FROM M IMPORT x gives x, and with a type that is declared as an enumeration its constants.
      -- A name that is taken already brings no constants.
      gives_names : {from name : Ident} {t : Table} {k i l : ℕ} {e c : Entry} {n : List ℕ}
          → IsTable from t k → IsEntry name.name t.exported e i → IsNew name.name
          → IsEntry n (take (names_with e.1) (drop i t.exported)) c l
          → Gives (OfName from name) n (Exported k) c.1

    -- what is there behind one more import
    pub data More (x : Imported) (n : List ℕ) (o : Origin) (m : Meaning) : Type 0 where
      -- The first of a name holds.
      is_there : There n o m → More x n o m
      is_given : IsNew n → Gives x n o m → More x n o m

    -- whether a name is there for another declaration: one of the own definition, or an import
    pub data IsOther (n : List ℕ) (o : Origin) : Type 0 where
      of_own : own n ≡ true → IsOther n o
      of_import : {p : Origin} {m : Meaning} → There n p m → (p ≡ o → ⊥) → IsOther n o

    -- the refusals at one import
    pub data Misimports : Imported → Breach → Type 0 where
      -- A module that is imported has a definition.
      no_module : {name : Ident} → ((t : Table) (k : ℕ) → IsTable name t k → ⊥)
          → Misimports (OfModule name) (name.pos ! rule.MissingModule)
      not_from : {name : Ident} → ((t : Table) (k : ℕ) → IsTable name t k → ⊥)
          → Misimports (FromModule name) (name.pos ! rule.MissingModule)
      -- A name behind FROM is one that the module exports.
      not_exported : {from name : Ident} {t : Table} {k : ℕ} → IsTable from t k
          → ((e : Entry) (i : ℕ) → IsEntry name.name t.exported e i → ⊥)
          → Misimports (OfName from name) (name.pos ! rule.NotExported)
      -- A name twice in a scope is refused at the second. The same declaration counts once.
      module_twice : {name : Ident} {t : Table} {k : ℕ} → IsTable name t k
          → IsOther name.name (Itself k)
          → Misimports (OfModule name) (name.pos ! rule.DeclaredTwice)
      name_twice : {from name : Ident} {t : Table} {k i : ℕ} {e : Entry} → IsTable from t k
          → IsEntry name.name t.exported e i → IsOther name.name (Exported k)
          → Misimports (OfName from name) (name.pos ! rule.DeclaredTwice)
      -- A constant that comes with a type is refused at the type's name.
      constant_twice : {from name : Ident} {n : List ℕ} {o : Origin} {m : Meaning}
          → Gives (OfName from name) n o m → IsOther n o
          → Misimports (OfName from name) (name.pos ! rule.DeclaredTwice)

  -- what a name stands for behind these imports, and where it comes from
  abbrev pub Brings : List Imported → List ℕ → Origin → Meaning → Type 0
  Brings [] n o m = ⊥
  Brings (x ∷ front) n o m = More (Brings front) x n o m

  -- the refusals in these imports
  abbrev pub BrokenIn : List Imported → Breach → Type 0
  BrokenIn [] f = ⊥
  BrokenIn (x ∷ front) f = BrokenIn front f ⊎ Misimports (Brings front) x f
