-- A scope whose names mean what is there.
use Rattle.std.proofs.Common.{◌≡◌, ℕ, zero, suc, ◌≤◌, ◌^◌, Bool, true, false, cond, List, [], ◌∷◌, ◌++◌, length, Option, Some, None, Result, refl, sym, subst}
use Rattle.std.specs.Prelude.{map, slice_get, nat_lt}
use Rattle.std.specs.List.{fold}
use Rattle.std.specs.Option.{option_map}
use Rattle.std.proofs.lemmas.Option.{same_Some}
use Rattle.m2_rule.specs.declared.rule.Rule.TheVariants as rule
use Rattle.m2_tree.specs.declared.pos.Pos.{Pos}
use Rattle.m2_tree.specs.declared.name.Ident.{Ident}
use Rattle.typed_tree.specs.declared.meaning.Meaning.{Meaning}
use Rattle.typed_tree.specs.declared.meaning.Meaning.TheVariants as meaning
use Rattle.typed_tree.specs.declared.known_types.Types.{Types}
use Rattle.typed_tree.specs.declared.shape.Formal.{Formal}
use Rattle.typed_tree.specs.declared.shape.Made.{Made}
use Rattle.typed_tree.specs.declared.shape.Shape.{Shape}
use Rattle.typed_tree.specs.declared.shape.Shape.TheVariants as shape
use Rattle.typed_tree.specs.declared.shape.Signature.{Signature}
use Rattle.typed_tree.specs.declared.types.Home.{Home}
use Rattle.typed_tree.specs.declared.types.Home.TheVariants as home
use Rattle.typed_tree.specs.declared.types.TypeNo.{TypeNo}
use Rattle.typed_tree.specs.Known.{made_at}
use Rattle.m2_tree.specs.Names.{same_name}
use Rattle.typed_tree.specs.Names.{find_name, place_of}
use Rattle.check_scope.specs.Elaborated.{Gathers, report}
use Rattle.check_scope.specs.Scopes.{or_outside, Sight, seen_at, in_block, nearer, known_outside, or_around, sight_of, means_seen, means_as, open_field, means_or}
use Rattle.check_scope.specs.declared.known.Known.{Known}
use Rattle.check_scope.specs.declared.known.Known.TheVariants.{Later, Ahead, Begun, Headed, Declared}
use Rattle.check_scope.specs.declared.scope.Block.{Block}
use Rattle.check_scope.specs.declared.scope.OpenedRecord.{OpenedRecord}
use Rattle.check_scope.specs.declared.scope.Scope.{Scope}
use Rattle.check_const.specs.Denote.{exported_meaning}
use Rattle.check_value.specs.Classes.{signature_shape, signature_made, signature_at}
use Rattle.law_simulation.specs.TreesTyped.{Context}
use Rattle.law_well_formed.specs.Formed.{Holds, fine}
use Rattle.law_well_formed.proofs.Basics.{holds_weaker, reported_holds, plain_holds}
use Rattle.law_well_formed.specs.Ordered.{named_by, result_named, AreKnown, AreOrdered}
use Rattle.law_well_formed.specs.Ordered as ordered
use Rattle.law_well_formed.proofs.Shaped.{named_known}
use Rattle.law_programs.specs.Typing.{is_known_from, FormalsKnown, TypesTyped, MeaningTyped, IsTyped}
use Rattle.law_programs.specs.TypingBodies.{MeaningThere, KnownThere, NamesThere, BlocksThere}

-- ---- formals are of types that are known

known_same : (types : Types) (h : Home) (n : ℕ) → ordered.is_known_from types h n ≡ true
    → is_known_from types h n ≡ true
known_same types home.Predeclared n e = refl
known_same types (home.Module k) n e = e

first_known : (types : Types) (fs : List Formal) (ts : List TypeNo)
    → AreKnown types (map (λ (f : Formal). f.of) fs ++ ts) → FormalsKnown types fs
first_known types [] ts k = tt
first_known types (f ∷ fs) ts k = (known_same types f.of.home f.of.number k.0, first_known types fs ts k.1)

shape_known : (types : Types) (s : Shape) (h : Signature) → signature_shape s ≡ Some h → AreKnown types (named_by s)
    → FormalsKnown types h.formals
shape_known types (shape.Procedure p) h e k =
    subst (λ (q : Signature). FormalsKnown types q.formals) (same_Some p h e)
    (first_known types p.formals (result_named p.result) k)
shape_known types (shape.Scalar s) h e k = absurd cc
shape_known types shape.Set h e k = absurd cc
shape_known types (shape.Array i t) h e k = absurd cc
shape_known types (shape.Record fs) h e k = absurd cc
shape_known types (shape.Open t) h e k = absurd cc

pub formals_known : (types : Types) → AreOrdered types → (t : TypeNo) (h : Signature) → signature_at types t ≡ Some h
    → FormalsKnown types h.formals
formals_known types o t h e = by (made_at types t) refl e where
  by : (q : Option Made) → made_at types t ≡ q → signature_made q ≡ Some h → FormalsKnown types h.formals
  by None a b = absurd cc
  by (Some m) a b = shape_known types m.shape h b (named_known types o t m a)

-- ---- names

module _ (x : Context) (opens : ℕ → Bool) (level : ℕ) {T : Type 0} where
  abbrev ThereIf : Option (Known T) → Type 0
  ThereIf None = Unit {0}
  ThereIf (Some k) = KnownThere x opens level k

  abbrev ThereSight : Sight T → Type 0
  ThereSight None = Unit {0}
  ThereSight (Some k) = KnownThere x opens level k.0

  found_by : (b : Bool) (k : Known T) (o : Option (Known T)) → KnownThere x opens level k → ThereIf o
      → ThereIf (cond b (Some k) o)
  found_by true k o p q = p
  found_by false k o p q = q

  found_there : (name : List ℕ) (es : List (List ℕ × Known T)) → NamesThere x opens level es
      → ThereIf (find_name name es)
  found_there name [] all = tt
  found_there name (e ∷ es) all = found_by (same_name name e.0) e.1 (find_name name es) all.0
      (found_there name es all.1)

  at_place : (seen p : ℕ) (es : List (List ℕ × Known T)) (n : ℕ) → NamesThere x opens level es
      → ThereSight (option_map (λ e. (e.1, nat_lt p seen)) (slice_get es n))
  at_place seen p [] n all = tt
  at_place seen p (e ∷ es) zero all = all.0
  at_place seen p (e ∷ es) (suc n) all = at_place seen p es n all.1

  seen_there : (seen : ℕ) (es : List (List ℕ × Known T)) (o : Option ℕ) → NamesThere x opens level es
      → ThereSight (seen_at seen es o)
  seen_there seen es None all = tt
  seen_there seen es (Some p) all = at_place seen p es p all

  or_there : (a b : Sight T) → ThereSight a → ThereSight b → ThereSight (or_outside a b)
  or_there None b p q = q
  or_there (Some k) b p q = p

  outside_there : (name : List ℕ) (bs : List (Block T)) (far : Sight T) → ThereSight far → BlocksThere x opens level bs
      → ThereSight (fold (nearer name) far bs)
  outside_there name [] far p all = p
  outside_there name (b ∷ bs) far p all =
      outside_there name bs (nearer name far b)
      (or_there (in_block name b) far (seen_there b.seen b.names (place_of name b.names) all.0) p) all.1

  around_there : (o : Option (Known T)) (far : Sight T) → ThereIf o → ThereSight far → ThereSight (or_around o far)
  around_there None far p q = q
  around_there (Some k) far p q = p

  pub blocks_more : (bs : List (Block T)) (b : Block T) → BlocksThere x opens level bs
      → NamesThere x opens level b.names → BlocksThere x opens level (bs ++ b ∷ [])
  blocks_more [] b p q = (q, tt)
  blocks_more (y ∷ bs) b p q = (p.0, blocks_more bs b p.1 q)

module _ (x : Context) (opens : ℕ → Bool) (g : Gathers) where
  module _ (level : ℕ) where
    abbrev Means_ : {T : Type 0} → Result Meaning T → Type 0
    Means_ r = Holds (MeaningTyped x [] opens level) r

    declared_means : (at : Pos) (seen : Bool) (r : Result Meaning g.Reported) → Means_ r
        → Means_ (cond seen r (report g at rule.Undeclared))
    declared_means at true r p = p
    declared_means at false r p = reported_holds g at rule.Undeclared

    seen_means : (at : Pos) (k : Known g.Reported) (seen : Bool) → KnownThere x opens level k
        → Means_ (means_seen g at k seen)
    seen_means at Later seen p = plain_holds (reported_holds g at rule.Undeclared)
    seen_means at Ahead seen p = fine meaning.Ahead tt
    seen_means at Begun seen p = plain_holds (reported_holds g at rule.Undeclared)
    seen_means at (Headed r) seen p = holds_weaker (λ m q. q.0) p
    seen_means at (Declared o r) seen p = plain_holds (declared_means at seen r (holds_weaker (λ m q. q.0) p))

    means_there : (at : Pos) (o : Sight g.Reported) → ThereSight x opens level o → Means_ (means_as g at o)
    means_there at None p = plain_holds (reported_holds g at rule.Undeclared)
    means_there at (Some k) p = seen_means at k.0 k.1 p

  -- types that are the module's, names that are there, and modules that are open
  pub scope_typed : (s : Scope g.Reported) → TypesTyped x.home.types → length x.characters ≤ 2 ^ 32
      → ((t : TypeNo) (y : Made) → made_at s.types t ≡ Some y → made_at x.home.types t ≡ Some y) → AreOrdered s.types
      → NamesThere x opens s.level s.own → BlocksThere x opens s.level s.outer → s.withs ≡ []
      → ((k : ℕ) (name : Ident) → opens k ≡ true
      → Holds (MeaningThere x opens s.level) (exported_meaning g s.tables k name)) → IsTyped g x [] opens s
  scope_typed s all room types order own outer withs members = record {
    all = all;
    room = room;
    types = types;
    formals = formals_known s.types order;
    names = λ name.
        subst (λ (ws : List OpenedRecord). Means_ s.level
        (means_or (open_field s.types name.name ws) (means_as g name.pos (sight_of name.name s)))) (sym withs)
        (means_there s.level name.pos (sight_of name.name s)
        (around_there x opens s.level (find_name name.name s.own) (known_outside name.name s.outer)
        (found_there x opens s.level name.name s.own own)
        (outside_there x opens s.level name.name s.outer None tt outer)));
    members = λ k name e. holds_weaker (λ m q. q.0) (members k name e);
  }
