-- Types as they are written, what they add to what is known, and which rules are broken in them.
use Rattle.std.specs.Prelude.{◌≡◌, ◌⊎◌, ℕ, ◌+◌, ◌*◌, pos, ◌-ℤ◌, Bool, true, false, ◌||◌, cond, nat_lt, int_lt, unsigned_abs, List, [], ◌∷◌, ◌++◌, length, map, Option, Some, None, slice_get}
use Rattle.std.specs.Option.{is_some}
use Rattle.m2_rule.specs.declared.rule.Rule.TheVariants as rule
use Rattle.m2_rule.specs.declared.breach.Breach.{Breach}
use Rattle.m2_tree.specs.declared.pos.Pos.{Pos}
use Rattle.m2_tree.specs.declared.name.Ident.{Ident}
use Rattle.m2_tree.specs.declared.expr.Expr.{Expr}
use Rattle.m2_tree.specs.declared.expr.Qualified.{Qualified}
use Rattle.m2_tree.specs.declared.decl.Simple.{Simple}
use Rattle.m2_tree.specs.declared.decl.Simple.TheVariants as simple
use Rattle.m2_tree.specs.declared.decl.TypeExpr.{TypeExpr, TypeExpr-F, out-TypeExpr, fold-TypeExpr}
use Rattle.m2_tree.specs.declared.decl.TypeExpr.TheOpen as layer
use Rattle.m2_tree.specs.declared.decl.Field.{Field, Field-F, out-Field, fold-Field}
use Rattle.typed_tree.specs.declared.types.Home.TheVariants.{Module}
use Rattle.typed_tree.specs.declared.types.TypeNo.{TypeNo}
use Rattle.typed_tree.specs.declared.shape.Scalar.{Scalar as Range}
use Rattle.typed_tree.specs.declared.shape.Shape.TheVariants as shape
use Rattle.typed_tree.specs.declared.shape.Made.{Made}
use Rattle.typed_tree.specs.declared.known_types.Types.{Types}
use Rattle.typed_tree.specs.Known.{scalar_at, cells_at}
use Rattle.typed_tree.specs.Names.{find_name}
use Rattle.def_typing.specs.Shapes.{IsMade}
use Rattle.def_typing.specs.Amounts.{Constant, IsWhole}
use Rattle.def_typing.specs.Operators.{◌!◌, Scalar}
use Rattle.m2_tree.specs.declared.decl.Parameter.{Parameter}
use Rattle.typed_tree.specs.declared.shape.Signature.{Signature}
use Rattle.def_typing.specs.Parts.{Among}
use Rattle.def_typing.specs.Headings.{begins_at, procedure_made, AreParameters, GivesBack, BrokenResult}
use Rattle.def_typing.specs.Things.{AValue, Standing, Known}
use Rattle.def_typing.specs.TypeNames.{NamesType, BrokenTypeName}
use Rattle.def_typing.specs.Subranges.{IsSubrange, BrokenSubrange}
use Rattle.m2_tree.specs.Limits.{max_cells, max_constants}

-- A name that is there already is refused.
abbrev pub Twice : (List ℕ → Type 0) → List Ident → Breach → Type 0
Twice There [] f = ⊥
Twice There (x ∷ xs) f =
    (There x.name × (f ≡ x.pos ! rule.DeclaredTwice)) ⊎ Twice (λ n. (x.name ≡ n) ⊎ There n) xs f

-- ---- the constants of the enumerations in a type

abbrev pub constants_listed : Simple → List Ident
constants_listed (simple.Named q) = []
constants_listed (simple.Enumeration at names) = names
constants_listed (simple.Subrange of at low high) = []

abbrev pub all_listed : List (List Ident) → List Ident
all_listed [] = []
all_listed (xs ∷ rest) = xs ++ all_listed rest

abbrev pub constants_layer : TypeExpr-F (List Ident) (List Ident) → List Ident
constants_layer (layer.Simple x) = constants_listed x
constants_layer (layer.Array at index of) = constants_listed index ++ of
constants_layer (layer.Record at fields) = all_listed fields
constants_layer (layer.Procedure at xs q) = []

abbrev pub constants_of_field : Field-F (List Ident) (List Ident) → List Ident
constants_of_field f = f.of

unfoldable pub constants_in : TypeExpr → List Ident
constants_in = fold-TypeExpr (List Ident) (List Ident) constants_layer constants_of_field

unfoldable pub constants_in_field : Field → List Ident
constants_in_field = fold-Field (List Ident) (List Ident) constants_layer constants_of_field

-- ---- what a type adds to what is known

-- Types are numbered in the order in which they are made.
abbrev pub with_types : Types → List Made → Types
with_types types ms = record types { own = types.own ++ ms }

abbrev pub next_type : Types → TypeNo
next_type types = record { home = Module types.home; number = length types.own }

abbrev pub range_made : Range → Made
range_made r = record { shape = shape.Scalar r; cells = 1 }

-- a constant of an enumeration, by its type and its number there
abbrev pub Member : Type 0
Member = TypeNo × ℕ

abbrev pub member_stands : Member → Standing
member_stands e = Known (AValue (Scalar (Constant (Some e.0) (pos e.1))))

-- names are numbered in their order
abbrev pub members_from : TypeNo → ℕ → List Ident → List (List ℕ × Member)
members_from t n [] = []
members_from t n (x ∷ xs) = (x.name, (t, n)) ∷ members_from t (n + 1) xs

-- the types that it makes, and the constants of the enumerations in it
pub record Added : Type 0 where
  pub makes : List Made
  pub brings : List (List ℕ × Member)

abbrev pub nothing_added : Added
nothing_added = record { makes = []; brings = [] }

abbrev pub type_added : Made → Added
type_added m = record { makes = m ∷ []; brings = [] }

-- what two add, one behind the other
abbrev pub both_added : Added → Added → Added
both_added a b = record { makes = a.makes ++ b.makes; brings = a.brings ++ b.brings }

abbrev pub enumeration_made : TypeNo → List Ident → Made
enumeration_made t xs =
    range_made (record { base = t; low = pos 0; high = pos (length xs) -ℤ pos 1 })

abbrev pub enumeration_added : TypeNo → List Ident → Added
enumeration_added t xs =
    record { makes = enumeration_made t xs ∷ []; brings = members_from t 0 xs }

-- where a type stands: the types that are known, what names stand for, and which names are there
pub record Setting : Type 0 where
  pub types : Types
  pub names : Ident → Standing
  pub there : List ℕ → Bool

-- The first of a name holds.
abbrev pub member_or : (there : Bool) → Option Member → Standing → Standing
member_or true e s = s
member_or false None s = s
member_or false (Some e) s = member_stands e

-- Constants of an enumeration are known from their list on.
abbrev pub behind : Setting → Added → Setting
behind w a = record {
  types = with_types w.types a.makes;
  names = λ x. member_or (w.there x.name) (find_name x.name a.brings) (w.names x);
  there = λ n. w.there n || is_some (find_name n a.brings);
}

-- ---- types that may be an index

module _ (exports : ℕ → Ident → Standing) (w : Setting) where
  -- what it adds, and which type it is
  pub data IsSimpleType : Simple → Added → TypeNo → Type 0 where
    named : {q : Qualified} {t : TypeNo} → NamesType w.names exports q t
        → IsSimpleType (simple.Named q) nothing_added t
    -- An enumeration has at most 256 constants, with names that are new.
    enumeration : {at : Pos} {xs : List Ident} → slice_get xs max_constants ≡ None
        → ((f : Breach) → Twice (λ n. w.there n ≡ true) xs f → ⊥)
        → IsSimpleType (simple.Enumeration at xs) (enumeration_added (next_type w.types) xs)
        (next_type w.types)
    subrange : {of : Option Qualified} {at : Pos} {low high : Expr} {r : Range}
        → IsSubrange w.types w.names exports low high of r
        → IsSimpleType (simple.Subrange of at low high) (type_added (range_made r))
        (next_type w.types)

  -- what it adds, whether rules are broken in it or not
  pub data SimpleAdds : Simple → Added → Type 0 where
    a_name : {q : Qualified} → SimpleAdds (simple.Named q) nothing_added
    an_enumeration : {at : Pos} {xs : List Ident}
        → SimpleAdds (simple.Enumeration at xs) (enumeration_added (next_type w.types) xs)
    a_subrange : {of : Option Qualified} {at : Pos} {low high : Expr} {r : Range}
        → IsSubrange w.types w.names exports low high of r
        → SimpleAdds (simple.Subrange of at low high) (type_added (range_made r))
    -- A subrange in which rules are broken makes no type.
    no_subrange : {of : Option Qualified} {at : Pos} {low high : Expr}
        → ((r : Range) → IsSubrange w.types w.names exports low high of r → ⊥)
        → SimpleAdds (simple.Subrange of at low high) nothing_added

  pub data BrokenSimpleType : Simple → Breach → Type 0 where
    in_name : {q : Qualified} {f : Breach} → BrokenTypeName w.names exports q f
        → BrokenSimpleType (simple.Named q) f
    constant_twice : {at : Pos} {xs : List Ident} {f : Breach}
        → Twice (λ n. w.there n ≡ true) xs f → BrokenSimpleType (simple.Enumeration at xs) f
    too_many : {at : Pos} {xs : List Ident} {x : Ident} → slice_get xs max_constants ≡ Some x
        → BrokenSimpleType (simple.Enumeration at xs) (x.pos ! rule.ConstantCount)
    in_subrange : {of : Option Qualified} {at : Pos} {low high : Expr} {f : Breach}
        → BrokenSubrange w.types w.names exports low high of f
        → BrokenSimpleType (simple.Subrange of at low high) f

-- ---- arrays

-- a scalar type, but not INTEGER or CARDINAL as a whole
pub data IsIndex (types : Types) (t : TypeNo) : Type 0 where
  is_index : {r : Range} → IsMade types t (shape.Scalar r) → (IsWhole t → ⊥) → IsIndex types t

-- how many values there are
abbrev pub values_in : Option Range → ℕ
values_in None = 0
values_in (Some r) = cond (int_lt r.high r.low) 0 (unsigned_abs (r.high -ℤ r.low) + 1)

-- how many cells an array has, by the types of its index and its elements
abbrev pub size_of : Types → TypeNo → TypeNo → ℕ
size_of types i e = values_in (scalar_at types i) * cells_at types e

abbrev pub array_made : Types → TypeNo → TypeNo → Made
array_made types i e = record { shape = shape.Array i e; cells = size_of types i e }

abbrev pub place_of : Simple → Pos
place_of (simple.Named q) = begins_at q.module q.name
place_of (simple.Enumeration at names) = at
place_of (simple.Subrange None at low high) = at
place_of (simple.Subrange (Some q) at low high) = begins_at q.module q.name

-- behind the index and the elements
abbrev pub array_added : Setting → Added → Added → TypeNo → TypeNo → Added
array_added w a b i t =
    both_added a (both_added b (type_added (array_made (behind (behind w a) b).types i t)))

-- ---- records

abbrev pub field_names : List Field → List Ident
field_names [] = []
field_names (f ∷ fs) = (out-Field f).names ++ field_names fs

-- fields of one type
abbrev pub fields_of : List Ident → TypeNo → List (List ℕ × TypeNo)
fields_of xs t = map (λ x. (x.name, t)) xs

abbrev pub record_made : List (List ℕ × TypeNo) → ℕ → Made
record_made fields n = record { shape = shape.Record fields; cells = n }

-- ---- all types

module _ (exports : ℕ → Ident → Standing) where
  mutual
    pub data IsTypeOf : Setting → TypeExpr → Added → TypeNo → Type 0 where
      is_simple : {w : Setting} {e : TypeExpr} {x : Simple} {a : Added} {t : TypeNo}
          → out-TypeExpr e ≡ layer.Simple x → IsSimpleType exports w x a t → IsTypeOf w e a t
      -- An array has at most 131072 cells.
      is_array : {w : Setting} {e of : TypeExpr} {at : Pos} {index : Simple} {a b : Added}
          {i t : TypeNo} → out-TypeExpr e ≡ layer.Array at index of
          → IsSimpleType exports w index a i → IsIndex (behind w a).types i
          → IsTypeOf (behind w a) of b t
          → nat_lt max_cells (size_of (behind (behind w a) b).types i t) ≡ false
          → IsTypeOf w e (array_added w a b i t) (next_type (behind (behind w a) b).types)
      is_procedure : {w : Setting} {e : TypeExpr} {at : Pos} {xs : List Parameter}
          {q : Option Qualified} {s : Signature} → out-TypeExpr e ≡ layer.Procedure at xs q
          → AreParameters w.types w.names exports xs s.formals
          → GivesBack w.types w.names exports q s.result
          → IsTypeOf w e (type_added (procedure_made s)) (next_type w.types)
      -- A record has at most 131072 cells, and no name twice.
      is_record : {w : Setting} {e : TypeExpr} {at : Pos} {fields : List Field} {a : Added}
          {list : List (List ℕ × TypeNo)} {n : ℕ} → out-TypeExpr e ≡ layer.Record at fields
          → AreFields w fields a list n → ((f : Breach) → Twice (λ n. ⊥) (field_names fields) f → ⊥)
          → nat_lt max_cells n ≡ false
          → IsTypeOf w e (both_added a (type_added (record_made list n)))
          (next_type (behind w a).types)

    -- what fields add, which types they have, and how many cells
    pub data AreFields : Setting → List Field → Added → List (List ℕ × TypeNo) → ℕ → Type 0 where
      no_field : {w : Setting} → AreFields w [] nothing_added [] 0
      a_field : {w : Setting} {f : Field} {rest : List Field} {a b : Added} {t : TypeNo}
          {ns : List (List ℕ × TypeNo)} {n : ℕ} → IsTypeOf w (out-Field f).of a t
          → AreFields (behind w a) rest b ns n
          → AreFields w (f ∷ rest) (both_added a b) (fields_of (out-Field f).names t ++ ns)
          (length (out-Field f).names * cells_at (behind w a).types t + n)

  mutual
    -- what it adds, whether rules are broken in it or not
    pub data Adds : Setting → TypeExpr → Added → Type 0 where
      simple_adds : {w : Setting} {e : TypeExpr} {x : Simple} {a : Added}
          → out-TypeExpr e ≡ layer.Simple x → SimpleAdds exports w x a → Adds w e a
      right_adds : {w : Setting} {e : TypeExpr} {a : Added} {t : TypeNo} → IsTypeOf w e a t
          → Adds w e a
      -- If rules are broken in an array, only its parts add something.
      parts_add : {w : Setting} {e of : TypeExpr} {at : Pos} {index : Simple} {a b : Added}
          → out-TypeExpr e ≡ layer.Array at index of
          → ((c : Added) (t : TypeNo) → IsTypeOf w e c t → ⊥) → SimpleAdds exports w index a
          → Adds (behind w a) of b → Adds w e (both_added a b)
      no_procedure : {w : Setting} {e : TypeExpr} {at : Pos} {xs : List Parameter}
          {q : Option Qualified} → out-TypeExpr e ≡ layer.Procedure at xs q
          → ((c : Added) (t : TypeNo) → IsTypeOf w e c t → ⊥) → Adds w e nothing_added
      -- The same of a record and its fields.
      fields_add : {w : Setting} {e : TypeExpr} {at : Pos} {fields : List Field} {a : Added}
          → out-TypeExpr e ≡ layer.Record at fields
          → ((c : Added) (t : TypeNo) → IsTypeOf w e c t → ⊥) → FieldsAdd w fields a → Adds w e a

    pub data FieldsAdd : Setting → List Field → Added → Type 0 where
      nothing_adds : {w : Setting} → FieldsAdd w [] nothing_added
      each_adds : {w : Setting} {f : Field} {rest : List Field} {a b : Added}
          → Adds w (out-Field f).of a → FieldsAdd (behind w a) rest b
          → FieldsAdd w (f ∷ rest) (both_added a b)

  mutual
    pub data BrokenType : Setting → TypeExpr → Breach → Type 0 where
      in_simple : {w : Setting} {e : TypeExpr} {x : Simple} {f : Breach}
          → out-TypeExpr e ≡ layer.Simple x → BrokenSimpleType exports w x f → BrokenType w e f
      in_parameter : {w : Setting} {e : TypeExpr} {at : Pos} {xs : List Parameter}
          {q : Option Qualified} {x : Parameter} {f : Breach}
          → out-TypeExpr e ≡ layer.Procedure at xs q → Among x xs
          → BrokenTypeName w.names exports x.of.of f → BrokenType w e f
      at_result : {w : Setting} {e : TypeExpr} {at : Pos} {xs : List Parameter}
          {q : Option Qualified} {f : Breach} → out-TypeExpr e ≡ layer.Procedure at xs q
          → BrokenResult w.types w.names exports q f → BrokenType w e f
      in_index : {w : Setting} {e of : TypeExpr} {at : Pos} {index : Simple} {f : Breach}
          → out-TypeExpr e ≡ layer.Array at index of → BrokenSimpleType exports w index f
          → BrokenType w e f
      no_index : {w : Setting} {e of : TypeExpr} {at : Pos} {index : Simple} {a : Added}
          {i : TypeNo} → out-TypeExpr e ≡ layer.Array at index of
          → IsSimpleType exports w index a i → (IsIndex (behind w a).types i → ⊥)
          → BrokenType w e (place_of index ! rule.NoIndex)
      in_elements : {w : Setting} {e of : TypeExpr} {at : Pos} {index : Simple} {a : Added}
          {f : Breach} → out-TypeExpr e ≡ layer.Array at index of → SimpleAdds exports w index a
          → BrokenType (behind w a) of f → BrokenType w e f
      too_large : {w : Setting} {e of : TypeExpr} {at : Pos} {index : Simple} {a b : Added}
          {i t : TypeNo} → out-TypeExpr e ≡ layer.Array at index of
          → IsSimpleType exports w index a i → IsIndex (behind w a).types i
          → IsTypeOf (behind w a) of b t
          → nat_lt max_cells (size_of (behind (behind w a) b).types i t) ≡ true
          → BrokenType w e (at ! rule.LargeType)
      in_fields : {w : Setting} {e : TypeExpr} {at : Pos} {fields : List Field} {f : Breach}
          → out-TypeExpr e ≡ layer.Record at fields → BrokenFields w fields f → BrokenType w e f
      field_twice : {w : Setting} {e : TypeExpr} {at : Pos} {fields : List Field} {f : Breach}
          → out-TypeExpr e ≡ layer.Record at fields → Twice (λ n. ⊥) (field_names fields) f
          → BrokenType w e f
      too_many_cells : {w : Setting} {e : TypeExpr} {at : Pos} {fields : List Field} {a : Added}
          {list : List (List ℕ × TypeNo)} {n : ℕ} → out-TypeExpr e ≡ layer.Record at fields
          → AreFields w fields a list n → ((f : Breach) → Twice (λ n. ⊥) (field_names fields) f → ⊥)
          → nat_lt max_cells n ≡ true → BrokenType w e (at ! rule.LargeType)

    pub data BrokenFields : Setting → List Field → Breach → Type 0 where
      in_first : {w : Setting} {f : Field} {rest : List Field} {b : Breach}
          → BrokenType w (out-Field f).of b → BrokenFields w (f ∷ rest) b
      in_later : {w : Setting} {f : Field} {rest : List Field} {a : Added} {b : Breach}
          → Adds w (out-Field f).of a → BrokenFields (behind w a) rest b
          → BrokenFields w (f ∷ rest) b
