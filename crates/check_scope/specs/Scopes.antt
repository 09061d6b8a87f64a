-- Names in scope.
use Rattle.std.specs.Prelude.{ℕ, Bool, true, false, ◌==◌, nat_lt, cond, List, [], ◌∷◌, Option, Some, None, Result, Ok, Err, slice_get}
use Rattle.std.specs.List.{fold}
use Rattle.std.specs.Option.{option_map}
use Rattle.std.specs.Borrow.{Bor}
use Rattle.m2_rule.specs.declared.rule.Rule.TheVariants as rule
use Rattle.m2_tree.specs.declared.pos.Pos.{Pos}
use Rattle.m2_tree.specs.declared.name.Ident.{Ident}
use Rattle.typed_tree.specs.declared.meaning.Meaning.{Meaning}
use Rattle.typed_tree.specs.declared.meaning.Meaning.TheVariants as meaning
use Rattle.typed_tree.specs.declared.meaning.OpenedField.{OpenedField}
use Rattle.typed_tree.specs.declared.types.TypeNo.{TypeNo}
use Rattle.typed_tree.specs.declared.shape.Shape.{Shape}
use Rattle.typed_tree.specs.declared.shape.Shape.TheVariants as shape
use Rattle.typed_tree.specs.declared.shape.Made.{Made}
use Rattle.typed_tree.specs.declared.known_types.Types.{Types}
use Rattle.typed_tree.specs.Known.{made_at}
use Rattle.typed_tree.specs.Names.{find_name, place_of, enter_name}
use Rattle.check_scope.specs.declared.known.Origin.{Origin}
use Rattle.check_scope.specs.declared.known.Origin.TheVariants.{Here, Module, Export}
use Rattle.check_scope.specs.declared.known.Known.{Known}
use Rattle.check_scope.specs.declared.known.Known.TheVariants.{Later, Ahead, Begun, Headed, Declared}
use Rattle.check_scope.specs.declared.meaningless.Meaningless.{Meaningless}
use Rattle.check_scope.specs.declared.meaningless.Meaningless.TheVariants.{Headless}
use Rattle.check_scope.specs.declared.scope.Block.{Block}
use Rattle.check_scope.specs.declared.scope.OpenedRecord.{OpenedRecord}
use Rattle.check_scope.specs.declared.scope.Scope.{Scope}
use Rattle.check_scope.specs.Elaborated.{Gathers, report, plain}

-- ---- what a name means

-- what the nearer knows, or else the farther
abbrev pub or_outside : {A : Type 0} → Option A → Option A → Option A
or_outside (Some k) far = Some k
or_outside None far = far

-- what is known of a name, and whether it stands before the procedure in which the name is used
abbrev pub Sight : Type 0 → Type 0
Sight T = Option (Known T × Bool)

-- the same, of what is borrowed
abbrev pub sight_of_entry : {T : Type 0} → Option (Bor (Known T) × Bool) → Sight T
sight_of_entry s = option_map {U = _ × Bool} (λ e. (e.0.now, e.1)) s

abbrev pub seen_at : {T : Type 0} → (seen : ℕ) → List (List ℕ × Known T) → Option ℕ → Sight T
seen_at seen names None = None
seen_at seen names (Some p) = option_map (λ e. (e.1, nat_lt p seen)) (slice_get names p)

abbrev pub in_block : {T : Type 0} → List ℕ → Block T → Sight T
in_block name b = seen_at b.seen b.names (place_of name b.names)

abbrev pub nearer : {T : Type 0} → List ℕ → Sight T → Block T → Sight T
nearer name far b = or_outside (in_block name b) far

abbrev pub known_outside : {T : Type 0} → List ℕ → List (Block T) → Sight T
known_outside name outer = fold (nearer name) None outer

abbrev pub or_around : {T : Type 0} → Option (Known T) → Sight T → Sight T
or_around None far = far
or_around (Some k) far = Some (k, true)

abbrev pub sight_of : {T : Type 0} → List ℕ → Scope T → Sight T
sight_of name s = or_around (find_name name s.own) (known_outside name s.outer)

-- a procedure, if rules are broken in its heading, is known to be one, in a procedure or not
abbrev pub heading_means : {T : Type 0} → (nested : Bool) → Result Meaning T
    → Result Meaning (Meaningless T)
heading_means nested (Ok m) = Ok m
heading_means nested (Err e) = Err (Headless nested e)

-- names are declared before use, but procedures are known in all bodies of their block
abbrev pub means_seen : (g : Gathers) → Pos → Known g.Reported → (seen : Bool)
    → Result Meaning (Meaningless g.Reported)
means_seen g at Later seen = plain (report g at rule.Undeclared)
means_seen g at Ahead seen = Ok meaning.Ahead
means_seen g at Begun seen = plain (report g at rule.Undeclared)
means_seen g at (Headed m) seen = m
means_seen g at (Declared o m) seen = plain (cond seen m (report g at rule.Undeclared))

abbrev pub means_as : (g : Gathers) → Pos → Sight g.Reported
    → Result Meaning (Meaningless g.Reported)
means_as g at None = plain (report g at rule.Undeclared)
means_as g at (Some k) = means_seen g at k.0 k.1

-- ---- fields under WITH come before all other names

abbrev pub fields_shape : Shape → Option (List (List ℕ × TypeNo))
fields_shape (shape.Record fs) = Some fs
fields_shape (shape.Scalar s) = None
fields_shape shape.Set = None
fields_shape (shape.Array i e) = None
fields_shape (shape.Procedure p) = None
fields_shape (shape.Open e) = None

abbrev pub fields_made : Option Made → Option (List (List ℕ × TypeNo))
fields_made None = None
fields_made (Some m) = fields_shape m.shape

abbrev pub fields_at : Types → TypeNo → Option (List (List ℕ × TypeNo))
fields_at types t = fields_made (made_at types t)

abbrev pub field_numbered : OpenedRecord → List (List ℕ × TypeNo) → Option ℕ → Option OpenedField
field_numbered r fs None = None
field_numbered r fs (Some n) =
    option_map (λ e. record { with = r.number; whole = r.of; number = n; of = e.1 })
    (slice_get fs n)

abbrev pub field_at : OpenedRecord → List ℕ → List (List ℕ × TypeNo) → Option OpenedField
field_at r name fs = field_numbered r fs (place_of name fs)

abbrev pub field_among : OpenedRecord → List ℕ → Option (List (List ℕ × TypeNo))
    → Option OpenedField
field_among r name None = None
field_among r name (Some fs) = field_at r name fs

abbrev pub field_in : Types → List ℕ → OpenedRecord → Option OpenedField
field_in types name r = field_among r name (fields_at types r.of)

abbrev pub open_field : Types → List ℕ → List OpenedRecord → Option OpenedField
open_field types name [] = None
open_field types name (r ∷ inner) = or_outside (open_field types name inner) (field_in types name r)

abbrev pub means_or : {T : Type 0} → Option OpenedField → Result Meaning T → Result Meaning T
means_or (Some f) m = Ok (meaning.Field f)
means_or None m = m

abbrev pub looked_up : (g : Gathers) → Scope g.Reported → Ident
    → Result Meaning (Meaningless g.Reported)
looked_up g s name =
    means_or (open_field s.types name.name s.withs) (means_as g name.pos (sight_of name.name s))

-- ---- declarations

abbrev pub is_free : {T : Type 0} → Option (Known T) → Bool
is_free None = true
is_free (Some Later) = true
is_free (Some Ahead) = true
is_free (Some Begun) = false
is_free (Some (Headed m)) = false
is_free (Some (Declared o m)) = false

abbrev pub with_known : {T : Type 0} → List ℕ → Known T → Scope T → Scope T
with_known name k s = record s { own = enter_name name k s.own }

-- a scope, and what is reported
abbrev pub State : Type 0 → Type 0 → Type 0
State A T = Scope T × Result A T

-- the first declaration of a name holds
abbrev pub unless_declared : (g : Gathers) → Scope g.Reported → Ident → Known g.Reported
    → State (Unit {0}) g.Reported
unless_declared g s name k =
    cond (is_free (find_name name.name s.own)) (with_known name.name k s, Ok tt)
    (s, report g name.pos rule.DeclaredTwice)

abbrev pub declare_name : (g : Gathers) → Scope g.Reported → Ident → Result Meaning g.Reported
    → State (Unit {0}) g.Reported
declare_name g s name m = unless_declared g s name (Declared Here m)

-- a name is taken from where it stands, and means something from the end of its declaration on
abbrev pub begin_name : (g : Gathers) → Scope g.Reported → Ident → State (Unit {0}) g.Reported
begin_name g s name = unless_declared g s name Begun

-- a procedure, by the meaning of its heading
abbrev pub head_name : (g : Gathers) → Scope g.Reported → Ident
    → Result Meaning (Meaningless g.Reported) → State (Unit {0}) g.Reported
head_name g s name m = unless_declared g s name (Headed m)

abbrev pub is_begun : {T : Type 0} → Option (Known T) → Bool
is_begun None = false
is_begun (Some Later) = false
is_begun (Some Ahead) = false
is_begun (Some Begun) = true
is_begun (Some (Headed m)) = false
is_begun (Some (Declared o m)) = false

abbrev pub finish_name : {T : Type 0} → Scope T → Ident → Result Meaning T → Scope T
finish_name s name m =
    cond (is_begun (find_name name.name s.own)) (with_known name.name (Declared Here m) s) s

-- ---- imports

abbrev pub is_one_origin : Origin → Origin → Bool
is_one_origin Here o = false
is_one_origin (Module m) Here = false
is_one_origin (Module m) (Module n) = m == n
is_one_origin (Module m) (Export n) = false
is_one_origin (Export m) Here = false
is_one_origin (Export m) (Module n) = false
is_one_origin (Export m) (Export n) = m == n

abbrev pub is_again : {T : Type 0} → Option (Known T) → Origin → Bool
is_again None o = false
is_again (Some Later) o = false
is_again (Some Ahead) o = false
is_again (Some Begun) o = false
is_again (Some (Headed m)) o = false
is_again (Some (Declared first m)) o = is_one_origin first o

-- the same declaration counts once
abbrev pub import_name : (g : Gathers) → Scope g.Reported → Pos → List ℕ → Origin
    → Result Meaning g.Reported → State (Unit {0}) g.Reported
import_name g s at name o m =
    cond (is_again (find_name name s.own) o) (s, Ok tt)
    (cond (is_free (find_name name s.own)) (with_known name (Declared o m) s, Ok tt)
    (s, report g at rule.DeclaredTwice))

-- ---- the names that a block declares, wherever they stand

abbrev pub unless_marked : {T : Type 0} → List ℕ → Known T → Scope T → Option (Known T) → Scope T
unless_marked name k s (Some _) = s
unless_marked name k s None = with_known name k s

abbrev pub mark_name : {T : Type 0} → Ident → Known T → Scope T → Scope T
mark_name name k s = unless_marked name.name k s (find_name name.name s.own)
