-- Other numbers of modules.
use Rattle.std.specs.Prelude.{◌≡◌, ℕ, map}
use Rattle.std.specs.Option.{option_map}
use Rattle.typed_tree.specs.declared.types.Home.{Home}
use Rattle.typed_tree.specs.declared.types.Home.TheVariants.{Predeclared, Module}
use Rattle.typed_tree.specs.declared.types.TypeNo.{TypeNo}
use Rattle.typed_tree.specs.declared.shape.Scalar.{Scalar}
use Rattle.typed_tree.specs.declared.shape.Formal.{Formal}
use Rattle.typed_tree.specs.declared.shape.Signature.{Signature}
use Rattle.typed_tree.specs.declared.shape.Shape.{Shape}
use Rattle.typed_tree.specs.declared.shape.Shape.TheVariants as shape
use Rattle.typed_tree.specs.declared.shape.Made.{Made}
use Rattle.typed_tree.specs.declared.known_types.Types.{Types}
use Rattle.typed_tree.specs.declared.meaning.ScalarValue.{ScalarValue}
use Rattle.typed_tree.specs.declared.meaning.Value.{Value}
use Rattle.typed_tree.specs.declared.meaning.Value.TheVariants as value
use Rattle.typed_tree.specs.declared.meaning.Variable.{Variable}
use Rattle.typed_tree.specs.declared.meaning.Procedure.{Procedure}
use Rattle.typed_tree.specs.declared.meaning.LocalVariable.{LocalVariable}
use Rattle.typed_tree.specs.declared.meaning.NestedProcedure.{NestedProcedure}
use Rattle.typed_tree.specs.declared.meaning.OpenedField.{OpenedField}
use Rattle.typed_tree.specs.declared.meaning.Meaning.{Meaning}
use Rattle.typed_tree.specs.declared.meaning.Meaning.TheVariants as meaning
use Rattle.typed_tree.specs.declared.table.ModuleTypes.{ModuleTypes}
use Rattle.typed_tree.specs.declared.table.Table.{Table}

-- numbers of modules change places: each number has one that goes there
pub record Exchange : Type 0 where
  pub there : ℕ → ℕ
  pub back : ℕ → ℕ
  pub back_there : (n : ℕ) → back (there n) ≡ n
  pub there_back : (n : ℕ) → there (back n) ≡ n

-- the same, turned round
abbrev pub turned : Exchange → Exchange
turned x = record {
  there = x.back;
  back = x.there;
  back_there = x.there_back;
  there_back = x.back_there;
}

module _ (x : Exchange) where
  -- ---- types

  abbrev pub moved_home : Home → Home
  moved_home Predeclared = Predeclared
  moved_home (Module n) = Module (x.there n)

  abbrev pub moved_type : TypeNo → TypeNo
  moved_type t = record { home = moved_home t.home; number = t.number }

  abbrev pub moved_scalar : Scalar → Scalar
  moved_scalar s = record { base = moved_type s.base; low = s.low; high = s.high }

  abbrev pub moved_formal : Formal → Formal
  moved_formal f = record { is_var = f.is_var; is_open = f.is_open; «of» = moved_type f.«of» }

  abbrev pub moved_signature : Signature → Signature
  moved_signature s =
      record { formals = map moved_formal s.formals; result = option_map moved_type s.result }

  abbrev pub moved_shape : Shape → Shape
  moved_shape (shape.Scalar s) = shape.Scalar (moved_scalar s)
  moved_shape shape.Set = shape.Set
  moved_shape (shape.Array i e) = shape.Array (moved_type i) (moved_type e)
  moved_shape (shape.Record fs) = shape.Record (map (λ f. (f.0, moved_type f.1)) fs)
  moved_shape (shape.Procedure p) = shape.Procedure (moved_signature p)
  moved_shape (shape.Open e) = shape.Open (moved_type e)

  abbrev pub moved_made : Made → Made
  moved_made m = record { shape = moved_shape m.shape; cells = m.cells }

  abbrev pub moved_types : Types → Types
  moved_types ts = record {
    home = x.there ts.home;
    own = map moved_made ts.own;
    others = map (λ o. (x.there o.0, map moved_made o.1)) ts.others;
  }

  -- ---- what names mean

  abbrev pub moved_scalar_value : ScalarValue → ScalarValue
  moved_scalar_value v =
      record { «of» = moved_type v.«of»; base = moved_type v.base; number = v.number }

  abbrev pub moved_value : Value → Value
  moved_value (value.Number n) = value.Number n
  moved_value (value.Scalar v) = value.Scalar (moved_scalar_value v)
  moved_value (value.Set bits) = value.Set bits
  moved_value (value.Text t) = value.Text t

  abbrev pub moved_variable : Variable → Variable
  moved_variable v =
      record { home = x.there v.home; number = v.number; «of» = moved_type v.«of» }

  abbrev pub moved_procedure : Procedure → Procedure
  moved_procedure p =
      record { home = x.there p.home; number = p.number; heading = moved_type p.heading }

  abbrev pub moved_local : LocalVariable → LocalVariable
  moved_local v =
      record { level = v.level; number = v.number; kind = v.kind; «of» = moved_type v.«of» }

  abbrev pub moved_nested : NestedProcedure → NestedProcedure
  moved_nested p =
      record { level = p.level; number = p.number; heading = moved_type p.heading }

  abbrev pub moved_field : OpenedField → OpenedField
  moved_field f = record {
    «with» = f.«with»;
    whole = moved_type f.whole;
    number = f.number;
    «of» = moved_type f.«of»;
  }

  abbrev pub moved_meaning : Meaning → Meaning
  moved_meaning (meaning.Constant v) = meaning.Constant (moved_value v)
  moved_meaning (meaning.«Type» t n) = meaning.«Type» (moved_type t) n
  moved_meaning (meaning.Variable v) = meaning.Variable (moved_variable v)
  moved_meaning (meaning.Local v) = meaning.Local (moved_local v)
  moved_meaning (meaning.Field f) = meaning.Field (moved_field f)
  moved_meaning (meaning.Procedure p) = meaning.Procedure (moved_procedure p)
  moved_meaning (meaning.LocalProcedure p) = meaning.LocalProcedure (moved_nested p)
  moved_meaning meaning.Ahead = meaning.Ahead
  moved_meaning (meaning.Standard s) = meaning.Standard s
  moved_meaning (meaning.Module n) = meaning.Module n

  -- ---- tables of definitions

  abbrev pub moved_reached : ModuleTypes → ModuleTypes
  moved_reached r = record { number = x.there r.number; made = map moved_made r.made }

  abbrev pub moved_table : Table → Table
  moved_table t = record {
    number = x.there t.number;
    name = t.name;
    imports = map (λ i. (i.0, x.there i.1)) t.imports;
    exported = map (λ e. (e.0, moved_meaning e.1)) t.exported;
    reached = map moved_reached t.reached;
  }
