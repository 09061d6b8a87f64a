-- What names of bodies mean, by numbers: variables, procedures and modules.
use Rattle.std.specs.Prelude.{ℕ, Option, Some, None, ◌-◌}
use Rattle.m2_tree.specs.declared.name.Ident.{Ident}
use Rattle.typed_tree.specs.declared.types.TypeNo.{TypeNo}
use Rattle.typed_tree.specs.declared.computed.Place.{Place}
use Rattle.typed_tree.specs.declared.computed.Slot.{Slot}
use Rattle.typed_tree.specs.declared.computed.LocalProcedure.{LocalProcedure}
use Rattle.typed_tree.specs.declared.computed.Root.TheVariants as root
use Rattle.typed_tree.specs.declared.computed.Component.TheVariants as part
use Rattle.typed_tree.specs.declared.meaning.LocalKind.{LocalKind}
use Rattle.typed_tree.specs.declared.meaning.LocalKind.TheVariants as kind
use Rattle.typed_tree.specs.declared.meaning.LocalVariable.{LocalVariable}
use Rattle.typed_tree.specs.declared.meaning.Meaning.{Meaning}
use Rattle.typed_tree.specs.declared.meaning.Meaning.TheVariants as meaning
use Rattle.typed_tree.specs.declared.meaning.Procedure.{Procedure as ModuleProcedure}
use Rattle.typed_tree.specs.Chains.{behind, root_place}

-- what a designator names
pub data Named : Type 0 where
  -- a variable or a component of one: its type, and where it is
  Variable : TypeNo → Place → Named
  -- a formal ARRAY OF, by the type of its elements
  OpenArray : TypeNo → Slot → Named
  Procedure : ModuleProcedure → Named
  -- a procedure that is declared in a procedure
  Nested : LocalProcedure → Named
  -- a module, by the place of its table
  Module : ℕ → Named

-- Seen from a procedure of this level, a local variable lies in one this many procedures outwards.
abbrev pub slot : (level : ℕ) → LocalVariable → Slot
slot level v = record { up = level - v.level; number = v.number }

abbrev pub local_named : (level : ℕ) → LocalVariable → LocalKind → Named
local_named level v kind.Variable = Variable v.of (root_place (root.Local (slot level v)))
local_named level v kind.Value = Variable v.of (root_place (root.Local (slot level v)))
-- A VAR formal is the variable that it stands for.
local_named level v kind.Alias = Variable v.of (root_place (root.Alias (slot level v)))
local_named level v kind.Open = OpenArray v.of (slot level v)

-- what a name of this meaning names; constants, types and standard procedures have no code
abbrev pub named_by : (level : ℕ) → Meaning → Option Named
named_by level (meaning.Variable v) = Some (Variable v.of (root_place (root.Global v)))
named_by level (meaning.Local v) = Some (local_named level v v.kind)
-- a field of the record of a WITH
named_by level (meaning.Field f) =
    Some (Variable f.of (behind (root_place (root.With f.with)) (part.Field f.whole f.number)))
named_by level (meaning.Procedure p) = Some (Procedure p)
named_by level (meaning.LocalProcedure p) =
    Some (Nested (record { up = level - p.level; number = p.number; heading = p.heading }))
named_by level (meaning.Module k) = Some (Module k)
named_by level (meaning.Constant v) = None
named_by level (meaning.Type t n) = None
named_by level (meaning.Standard f) = None
named_by level meaning.Ahead = None

abbrev pub named : (level : ℕ) → Option Meaning → Option Named
named level None = None
named level (Some m) = named_by level m

-- what names mean at a place of a body, as far as they have code
pub record Senses : Type 0 where
  -- how many procedures stand around
  pub level : ℕ
  pub of_names : Ident → Option Meaning
  -- of each module, by the place of its table
  pub of_exports : ℕ → Ident → Option Meaning
