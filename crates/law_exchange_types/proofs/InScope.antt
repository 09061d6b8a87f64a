-- Scopes of check_scope, with other numbers of modules.
use Rattle.check_scope.specs.Elaborated.{Gathers}
use Rattle.check_scope.specs.Scopes.{is_begun, begin_name, heading_means, unless_declared, is_free, seen_at, means_as, fields_at, with_known, is_again, field_in, sight_of, Sight, field_numbered, nearer, finish_name, means_or, field_at, or_around, field_among, open_field, unless_marked, known_outside, means_seen, fields_made, looked_up, fields_shape, in_block, mark_name, import_name, declare_name, head_name}
use Rattle.check_scope.specs.Inwards.{inwards}
use Rattle.check_scope.specs.declared.known.Known.{Known}
use Rattle.check_scope.specs.declared.known.Known.TheVariants.{Later, Ahead, Begun, Headed, Declared}
use Rattle.check_scope.specs.declared.known.Origin.{Origin}
use Rattle.check_scope.specs.declared.known.Origin.TheVariants.{Here}
use Rattle.check_scope.specs.declared.meaningless.Meaningless.{Meaningless}
use Rattle.check_scope.specs.declared.scope.Block.{Block}
use Rattle.check_scope.specs.declared.scope.OpenedRecord.{OpenedRecord}
use Rattle.check_scope.specs.declared.scope.Scope.{Scope}
use Rattle.def_exchange.specs.Moved.{moved_field, moved_made, moved_meaning, moved_shape, moved_type, moved_types, Exchange}
use Rattle.law_exchange_types.proofs.Basics.{option_map_twice, place_moves as place_of_moves, outside_moves, find_moves as find_name_moves, cond_state, cond_scope}
use Rattle.law_exchange_types.proofs.Known.{made_at_moves}
use Rattle.law_exchange_types.specs.Pieces.{map_ok, moved_entries, moved_pair, same}
use Rattle.law_exchange_types.specs.Scopes.{moved_block, moved_known, moved_names, moved_opened, moved_scope, moved_state}
use Rattle.m2_tree.specs.declared.name.Ident.{Ident}
use Rattle.m2_tree.specs.declared.pos.Pos.{Pos}
use Rattle.std.proofs.Common.{◌≡◌, refl, Bool, Err, List, None, Ok, Option, Result, Some, ap, false, map, option_map, true, ℕ, ◌∷◌, []}
use Rattle.std.proofs.lemmas.List.{length-map, map-append}
use Rattle.std.proofs.lemmas.Option.{slice_get-map}
use Rattle.typed_tree.specs.declared.known_types.Types.{Types}
use Rattle.typed_tree.specs.declared.meaning.Meaning.{Meaning}
use Rattle.typed_tree.specs.declared.meaning.OpenedField.{OpenedField}
use Rattle.typed_tree.specs.declared.shape.Made.{Made}
use Rattle.typed_tree.specs.declared.shape.Shape.{Shape}
use Rattle.typed_tree.specs.declared.types.TypeNo.{TypeNo}
use Rattle.typed_tree.specs.declared.shape.Shape.TheVariants as shape
use Rattle.law_exchange_types.proofs.Basics.{folds_move, enter_moves}

pub seen_at_moves : (z : Exchange) {T : Type 0} (seen : ℕ) (names : List (List ℕ × Known T)) (a1 : Option ℕ)
    → seen_at seen (moved_names z names) a1 ≡ option_map (moved_pair (moved_known z) same) (seen_at seen names a1)
seen_at_moves z seen names None = refl
seen_at_moves z seen names (Some p) = simp (slice_get-map, option_map_twice)

pub in_block_moves : (z : Exchange) {T : Type 0} (name : List ℕ) (b : Block T)
    → in_block name (moved_block z b) ≡ option_map (moved_pair (moved_known z) same) (in_block name b)
in_block_moves z name b = simp (seen_at_moves, place_of_moves)

pub nearer_moves : (z : Exchange) {T : Type 0} (name : List ℕ) (far : Sight T) (b : Block T)
    → nearer name (option_map (moved_pair (moved_known z) same) far) (moved_block z b)
    ≡ option_map (moved_pair (moved_known z) same) (nearer name far b)
nearer_moves z name far b = simp (in_block_moves, outside_moves)

pub known_outside_moves : (x : Exchange) {T : Type 0} (name : List ℕ) (outer : List (Block T))
    → known_outside name (map (moved_block x) outer)
    ≡ option_map (moved_pair (moved_known x) same) (known_outside name outer)
known_outside_moves x {T} name outer =
    folds_move (option_map (moved_pair (moved_known x {T = T}) same)) (moved_block x {T = T}) (nearer name)
    (nearer name) (nearer_moves x name) None outer

pub or_around_moves : (z : Exchange) {T : Type 0} (a0 : Option (Known T)) (far : Sight T)
    → or_around (option_map (moved_known z) a0) (option_map (moved_pair (moved_known z) same) far)
    ≡ option_map (moved_pair (moved_known z) same) (or_around a0 far)
or_around_moves z None far = refl
or_around_moves z (Some k) far = refl

pub sight_of_moves : (z : Exchange) {T : Type 0} (name : List ℕ) (s : Scope T)
    → sight_of name (moved_scope z s) ≡ option_map (moved_pair (moved_known z) same) (sight_of name s)
sight_of_moves z name s = simp (or_around_moves, find_name_moves, known_outside_moves)

pub heading_means_moves : (z : Exchange) {T : Type 0} (nested : Bool) (a0 : Result Meaning T)
    → heading_means nested (map_ok (moved_meaning z) a0) ≡ map_ok (moved_meaning z) (heading_means nested a0)
heading_means_moves z nested (Ok m) = refl
heading_means_moves z nested (Err e) = refl

pub means_seen_moves : (x : Exchange) (g : Gathers) (at : Pos) (k : Known g.Reported) (seen : Bool)
    → means_seen g at (moved_known x k) seen ≡ map_ok (moved_meaning x) (means_seen g at k seen)
means_seen_moves x g at Later seen = refl
means_seen_moves x g at Ahead seen = refl
means_seen_moves x g at Begun seen = refl
means_seen_moves x g at (Headed m) seen = refl
means_seen_moves x g at (Declared o (Ok m)) true = refl
means_seen_moves x g at (Declared o (Ok m)) false = refl
means_seen_moves x g at (Declared o (Err e)) true = refl
means_seen_moves x g at (Declared o (Err e)) false = refl

pub means_as_moves : (z : Exchange) (g : Gathers) (at : Pos) (a1 : Sight g.Reported)
    → means_as g at (option_map (moved_pair (moved_known z) same) a1) ≡ map_ok (moved_meaning z) (means_as g at a1)
means_as_moves z g at None = refl
means_as_moves z g at (Some k) = means_seen_moves z g at k.0 k.1

pub fields_shape_moves : (z : Exchange) (a0 : Shape)
    → fields_shape (moved_shape z a0) ≡ option_map (moved_entries (moved_type z)) (fields_shape a0)
fields_shape_moves z (shape.Record fs) = refl
fields_shape_moves z (shape.Scalar s) = refl
fields_shape_moves z shape.Set = refl
fields_shape_moves z (shape.Array i e) = refl
fields_shape_moves z (shape.Procedure p) = refl
fields_shape_moves z (shape.Open e) = refl

pub fields_made_moves : (z : Exchange) (a0 : Option Made)
    → fields_made (option_map (moved_made z) a0) ≡ option_map (moved_entries (moved_type z)) (fields_made a0)
fields_made_moves z None = refl
fields_made_moves z (Some m) = fields_shape_moves z m.shape

pub fields_at_moves : (z : Exchange) (types : Types) (t : TypeNo)
    → fields_at (moved_types z types) (moved_type z t) ≡ option_map (moved_entries (moved_type z)) (fields_at types t)
fields_at_moves z types t = simp (fields_made_moves, made_at_moves)

pub field_numbered_moves : (z : Exchange) (r : OpenedRecord) (fs : List (List ℕ × TypeNo)) (a2 : Option ℕ)
    → field_numbered (moved_opened z r) (moved_entries (moved_type z) fs) a2
    ≡ option_map (moved_field z) (field_numbered r fs a2)
field_numbered_moves z r fs None = refl
field_numbered_moves z r fs (Some n) = simp (slice_get-map, option_map_twice)

pub field_at_moves : (z : Exchange) (r : OpenedRecord) (name : List ℕ) (fs : List (List ℕ × TypeNo))
    → field_at (moved_opened z r) name (moved_entries (moved_type z) fs)
    ≡ option_map (moved_field z) (field_at r name fs)
field_at_moves z r name fs = simp (field_numbered_moves, place_of_moves)

pub field_among_moves : (z : Exchange) (r : OpenedRecord) (name : List ℕ) (a2 : Option (List (List ℕ × TypeNo)))
    → field_among (moved_opened z r) name (option_map (moved_entries (moved_type z)) a2)
    ≡ option_map (moved_field z) (field_among r name a2)
field_among_moves z r name None = refl
field_among_moves z r name (Some fs) = field_at_moves z r name fs

pub field_in_moves : (z : Exchange) (types : Types) (name : List ℕ) (r : OpenedRecord)
    → field_in (moved_types z types) name (moved_opened z r) ≡ option_map (moved_field z) (field_in types name r)
field_in_moves z types name r = simp (field_among_moves, fields_at_moves)

pub open_field_moves : (z : Exchange) (types : Types) (name : List ℕ) (a2 : List OpenedRecord)
    → open_field (moved_types z types) name (map (moved_opened z) a2)
    ≡ option_map (moved_field z) (open_field types name a2)
open_field_moves z types name [] = refl
open_field_moves z types name (r ∷ inner) = simp (open_field_moves z types name inner, field_in_moves, outside_moves)

pub means_or_moves : (z : Exchange) {T : Type 0} (a0 : Option OpenedField) (m : Result Meaning T)
    → means_or (option_map (moved_field z) a0) (map_ok (moved_meaning z) m) ≡ map_ok (moved_meaning z) (means_or a0 m)
means_or_moves z (Some f) m = refl
means_or_moves z None m = refl

pub looked_up_moves : (z : Exchange) (g : Gathers) (s : Scope g.Reported) (name : Ident)
    → looked_up g (moved_scope z s) name ≡ map_ok (moved_meaning z) (looked_up g s name)
looked_up_moves z g s name = simp (means_or_moves, open_field_moves, means_as_moves, sight_of_moves)

pub is_free_moves : (z : Exchange) {T : Type 0} (a0 : Option (Known T))
    → is_free (option_map (moved_known z) a0) ≡ is_free a0
is_free_moves z None = refl
is_free_moves z (Some Later) = refl
is_free_moves z (Some Ahead) = refl
is_free_moves z (Some Begun) = refl
is_free_moves z (Some (Headed m)) = refl
is_free_moves z (Some (Declared o m)) = refl

pub with_known_moves : (x : Exchange) {T : Type 0} (name : List ℕ) (k : Known T) (s : Scope T)
    → with_known name (moved_known x k) (moved_scope x s) ≡ moved_scope x (with_known name k s)
with_known_moves x {T} name k s =
    ap (λ (ns : List (List ℕ × Known T)). record (moved_scope x s) { own = ns })
    (enter_moves (moved_known x {T = T}) name k s.own)

pub unless_declared_moves : (z : Exchange) (g : Gathers) (s : Scope g.Reported) (name : Ident) (k : Known g.Reported)
    → unless_declared g (moved_scope z s) name (moved_known z k) ≡ moved_state z (unless_declared g s name k)
unless_declared_moves z g s name k = simp (is_free_moves, find_name_moves, with_known_moves, cond_state)

pub declare_name_moves : (z : Exchange) (g : Gathers) (s : Scope g.Reported) (name : Ident)
    (m : Result Meaning g.Reported)
    → declare_name g (moved_scope z s) name (map_ok (moved_meaning z) m) ≡ moved_state z (declare_name g s name m)
declare_name_moves z g s name m = unless_declared_moves z g s name (Declared Here m)

pub begin_name_moves : (z : Exchange) (g : Gathers) (s : Scope g.Reported) (name : Ident)
    → begin_name g (moved_scope z s) name ≡ moved_state z (begin_name g s name)
begin_name_moves z g s name = unless_declared_moves z g s name Begun

pub head_name_moves : (z : Exchange) (g : Gathers) (s : Scope g.Reported) (name : Ident)
    (m : Result Meaning (Meaningless g.Reported))
    → head_name g (moved_scope z s) name (map_ok (moved_meaning z) m) ≡ moved_state z (head_name g s name m)
head_name_moves z g s name m = unless_declared_moves z g s name (Headed m)

pub is_begun_moves : (z : Exchange) {T : Type 0} (a0 : Option (Known T))
    → is_begun (option_map (moved_known z) a0) ≡ is_begun a0
is_begun_moves z None = refl
is_begun_moves z (Some Later) = refl
is_begun_moves z (Some Ahead) = refl
is_begun_moves z (Some Begun) = refl
is_begun_moves z (Some (Headed m)) = refl
is_begun_moves z (Some (Declared o m)) = refl

pub finish_name_moves : (z : Exchange) {T : Type 0} (s : Scope T) (name : Ident) (m : Result Meaning T)
    → finish_name (moved_scope z s) name (map_ok (moved_meaning z) m) ≡ moved_scope z (finish_name s name m)
finish_name_moves z s name m = simp (
  is_begun_moves,
  find_name_moves,
  with_known_moves z name.name (Declared Here m) s,
  cond_scope,
)

pub is_again_moves : (z : Exchange) {T : Type 0} (a0 : Option (Known T)) (o : Origin)
    → is_again (option_map (moved_known z) a0) o ≡ is_again a0 o
is_again_moves z None o = refl
is_again_moves z (Some Later) o = refl
is_again_moves z (Some Ahead) o = refl
is_again_moves z (Some Begun) o = refl
is_again_moves z (Some (Headed m)) o = refl
is_again_moves z (Some (Declared first m)) o = refl

pub import_name_moves : (z : Exchange) (g : Gathers) (s : Scope g.Reported) (at : Pos) (name : List ℕ) (o : Origin)
    (m : Result Meaning g.Reported)
    → import_name g (moved_scope z s) at name o (map_ok (moved_meaning z) m)
    ≡ moved_state z (import_name g s at name o m)
import_name_moves z g s at name o m = simp
    (is_again_moves, find_name_moves, is_free_moves, with_known_moves z name (Declared o m) s, cond_state)

pub unless_marked_moves : (z : Exchange) {T : Type 0} (name : List ℕ) (k : Known T) (s : Scope T)
    (a3 : Option (Known T))
    → unless_marked name (moved_known z k) (moved_scope z s) (option_map (moved_known z) a3)
    ≡ moved_scope z (unless_marked name k s a3)
unless_marked_moves z name k s (Some _) = refl
unless_marked_moves z name k s None = with_known_moves z name k s

pub mark_name_moves : (z : Exchange) {T : Type 0} (name : Ident) (k : Known T) (s : Scope T)
    → mark_name name (moved_known z k) (moved_scope z s) ≡ moved_scope z (mark_name name k s)
mark_name_moves z name k s = simp (unless_marked_moves, find_name_moves)

pub inwards_moves : (z : Exchange) {T : Type 0} (s : Scope T) (seen : ℕ)
    → inwards (moved_scope z s) seen ≡ moved_scope z (inwards s seen)
inwards_moves z s seen = simp (length-map, map-append)
