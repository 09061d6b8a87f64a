-- What names mean in a scope whose names are typed, block by block.
use Rattle.std.proofs.Common.{◌≡◌, ℕ, zero, suc, ◌-◌, ◌+◌, ◌≤◌, Bool, true, false, cond, List, [], ◌∷◌, ◌++◌, length, map, Option, Some, None, Result, refl, sym, ap, subst, ◌∙◌, arith}
use Rattle.std.specs.Prelude.{slice_get, nat_lt, drop}
use Rattle.std.specs.List.{fold}
use Rattle.std.specs.Option.{option_map}
use Rattle.m2_rule.specs.declared.rule.Rule.TheVariants as rule
use Rattle.m2_tree.specs.declared.pos.Pos.{Pos}
use Rattle.m2_tree.specs.declared.name.Ident.{Ident}
use Rattle.typed_tree.specs.declared.meaning.LocalKind.{LocalKind}
use Rattle.typed_tree.specs.declared.meaning.LocalVariable.{LocalVariable}
use Rattle.typed_tree.specs.declared.meaning.Meaning.{Meaning}
use Rattle.typed_tree.specs.declared.meaning.Meaning.TheVariants as meaning
use Rattle.typed_tree.specs.declared.meaning.NestedProcedure.{NestedProcedure}
use Rattle.typed_tree.specs.declared.known_types.Types.{Types}
use Rattle.typed_tree.specs.declared.shape.Formal.{Formal}
use Rattle.typed_tree.specs.declared.typed_module.Routine.{Routine}
use Rattle.typed_tree.specs.declared.types.TypeNo.{TypeNo}
use Rattle.m2_tree.specs.Names.{same_name}
use Rattle.typed_tree.specs.Names.{find_name, place_of}
use Rattle.check_scope.specs.Elaborated.{Gathers, report}
use Rattle.check_scope.specs.Scopes.{or_outside, Sight, seen_at, in_block, nearer, known_outside, or_around, sight_of, means_seen, means_as, open_field, means_or, looked_up}
use Rattle.check_scope.specs.declared.known.Known.{Known}
use Rattle.check_scope.specs.declared.known.Known.TheVariants.{Later, Ahead, Begun, Headed, Declared}
use Rattle.check_scope.specs.declared.scope.Block.{Block}
use Rattle.check_scope.specs.declared.scope.OpenedRecord.{OpenedRecord}
use Rattle.check_scope.specs.declared.scope.Scope.{Scope}
use Rattle.check_value.specs.Values.{nested_by}
use Rattle.layout_storage.specs.Frames.{formals_of}
use Rattle.layout_storage.specs.Shapes.{tree}
use Rattle.law_simulation.specs.Frames.{Kind, Kept, Kinds, or_none, kind_at, formal_kind as kind_in_frame, kinds_of}
use Rattle.law_simulation.specs.TreesTyped.{Context, IsInner}
use Rattle.check_block.specs.Inner.{formal_kind}
use Rattle.law_well_formed.specs.Formed.{Holds, fine}
use Rattle.law_well_formed.proofs.Basics.{holds_weaker, reported_holds, plain_holds}
use Rattle.law_programs.specs.Typing.{kind_of, MeaningTyped, IsTyped}
use Rattle.law_programs.specs.Scopes.{MeaningIn, KnownIn, NamesIn, BlocksIn, ScopeTyped, formal_slot, variable_slot, slots_of}

-- ---- names that all have a meaning of which a fact holds

module _ (P : Meaning → Type 0) (ahead : P meaning.Ahead) where
  abbrev KnownHas : {T : Type 0} → Known T → Type 0
  KnownHas Later = Unit {0}
  KnownHas Ahead = Unit {0}
  KnownHas Begun = Unit {0}
  KnownHas (Headed r) = Holds P r
  KnownHas (Declared o r) = Holds P r

  abbrev NamesHave : {T : Type 0} → List (List ℕ × Known T) → Type 0
  NamesHave [] = Unit {0}
  NamesHave (e ∷ es) = KnownHas e.1 × NamesHave es

  abbrev BlocksHave : {T : Type 0} → List (Block T) → Type 0
  BlocksHave [] = Unit {0}
  BlocksHave (b ∷ bs) = NamesHave b.names × BlocksHave bs

  module _ {T : Type 0} where
    abbrev HasIf : Option (Known T) → Type 0
    HasIf None = Unit {0}
    HasIf (Some k) = KnownHas k

    abbrev SightHas : Sight T → Type 0
    SightHas None = Unit {0}
    SightHas (Some k) = KnownHas k.0

    found_by : (b : Bool) (k : Known T) (o : Option (Known T)) → KnownHas k → HasIf o → HasIf (cond b (Some k) o)
    found_by true k o p q = p
    found_by false k o p q = q

    found_has : (name : List ℕ) (es : List (List ℕ × Known T)) → NamesHave es → HasIf (find_name name es)
    found_has name [] all = tt
    found_has name (e ∷ es) all = found_by (same_name name e.0) e.1 (find_name name es) all.0 (found_has name es all.1)

    at_place : (seen p : ℕ) (es : List (List ℕ × Known T)) (n : ℕ) → NamesHave es
        → SightHas (option_map (λ e. (e.1, nat_lt p seen)) (slice_get es n))
    at_place seen p [] n all = tt
    at_place seen p (e ∷ es) zero all = all.0
    at_place seen p (e ∷ es) (suc n) all = at_place seen p es n all.1

    seen_has : (seen : ℕ) (es : List (List ℕ × Known T)) (o : Option ℕ) → NamesHave es → SightHas (seen_at seen es o)
    seen_has seen es None all = tt
    seen_has seen es (Some p) all = at_place seen p es p all

    or_has : (a b : Sight T) → SightHas a → SightHas b → SightHas (or_outside a b)
    or_has None b p q = q
    or_has (Some k) b p q = p

    outside_has : (name : List ℕ) (bs : List (Block T)) (far : Sight T) → SightHas far → BlocksHave bs
        → SightHas (fold (nearer name) far bs)
    outside_has name [] far p all = p
    outside_has name (b ∷ bs) far p all = outside_has name bs (nearer name far b)
        (or_has (in_block name b) far (seen_has b.seen b.names (place_of name b.names) all.0) p) all.1

    around_has : (o : Option (Known T)) (far : Sight T) → HasIf o → SightHas far → SightHas (or_around o far)
    around_has None far p q = q
    around_has (Some k) far p q = p

  module _ (g : Gathers) where
    declared_has : (at : Pos) (seen : Bool) (r : Result Meaning g.Reported) → Holds P r
        → Holds P (cond seen r (report g at rule.Undeclared))
    declared_has at true r p = p
    declared_has at false r p = reported_holds g at rule.Undeclared

    means_has : (at : Pos) (k : Known g.Reported) (seen : Bool) → KnownHas k → Holds P (means_seen g at k seen)
    means_has at Later seen p = plain_holds (reported_holds g at rule.Undeclared)
    means_has at Ahead seen p = fine meaning.Ahead ahead
    means_has at Begun seen p = plain_holds (reported_holds g at rule.Undeclared)
    means_has at (Headed r) seen p = p
    means_has at (Declared o r) seen p = plain_holds (declared_has at seen r p)

    sight_has : (at : Pos) (o : Sight g.Reported) → SightHas o → Holds P (means_as g at o)
    sight_has at None p = plain_holds (reported_holds g at rule.Undeclared)
    sight_has at (Some k) p = means_has at k.0 k.1 p

    looked_has : (s : Scope g.Reported) → s.withs ≡ [] → NamesHave s.own → BlocksHave s.outer → (name : Ident)
        → Holds P (looked_up g s name)
    looked_has s e own outer name =
        subst (λ (ws : List OpenedRecord). Holds P
        (means_or (open_field s.types name.name ws) (means_as g name.pos (sight_of name.name s)))) (sym e)
        (sight_has name.pos (sight_of name.name s)
        (around_has (find_name name.name s.own) (known_outside name.name s.outer) (found_has name.name s.own own)
        (outside_has name.name s.outer None tt outer)))

-- ---- from a block to what stands in it

drop_first : (kss : List Kinds) (u : ℕ) → slice_get (drop u kss) 0 ≡ slice_get kss u
drop_first [] zero = refl
drop_first [] (suc u) = refl
drop_first (ks ∷ kss) zero = refl
drop_first (ks ∷ kss) (suc u) = drop_first kss u

module _ (x : Context) (opens : ℕ → Bool) (level : ℕ) (long : length x.kinds ≡ level) where
  local_typed : (j : ℕ) (v : LocalVariable) → MeaningIn x opens j (drop (level - j) x.kinds) (meaning.Local v)
      → MeaningTyped x [] opens level (meaning.Local v)
  local_typed j v p =
      subst (λ (i : ℕ). kind_at x.kinds (record { up = level - i; number = v.number })
      ≡ Some (kind_of x.home.types v.of v.kind)) (sym p.0)
      (ap (λ (o : Option Kinds). slice_get (or_none o) v.number) (sym (drop_first x.kinds (level - j))) ∙ p.1)

  inner_typed : (j : ℕ) (f : NestedProcedure) → j ≤ level
      → MeaningIn x opens j (drop (level - j) x.kinds) (meaning.LocalProcedure f) → IsInner x (nested_by level f)
  inner_typed j f at p = subst (λ (i : ℕ). IsInner x
      (record { up = level - i; number = f.number; heading = f.heading })) (sym p.0) (record {
        less = let some = p.1 in omega (arith, some, long, at);
        there = p.2.there;
        routine = p.2.routine;
        is = p.2.is;
        kinds = p.2.kinds;
        forms = p.2.forms;
        result = p.2.result;
        heading = p.2.heading;
      })

  meaning_typed : (j : ℕ) → j ≤ level → (m : Meaning) → MeaningIn x opens j (drop (level - j) x.kinds) m
      → MeaningTyped x [] opens level m
  meaning_typed j at (meaning.Constant v) p = p
  meaning_typed j at (meaning.Type t n) p = tt
  meaning_typed j at (meaning.Variable v) p = p
  meaning_typed j at (meaning.Local v) p = local_typed j v p
  meaning_typed j at (meaning.Field f) p = absurd p
  meaning_typed j at (meaning.Procedure f) p = p
  meaning_typed j at (meaning.LocalProcedure f) p = inner_typed j f at p
  meaning_typed j at meaning.Ahead p = tt
  meaning_typed j at (meaning.Standard f) p = tt
  meaning_typed j at (meaning.Module k) p = p

  module _ {T : Type 0} where
    abbrev Has : List (List ℕ × Known T) → Type 0
    Has es = NamesHave (MeaningTyped x [] opens level) tt es

    known_typed : (j : ℕ) → j ≤ level → (k : Known T) → KnownIn x opens j (drop (level - j) x.kinds) k
        → KnownHas (MeaningTyped x [] opens level) tt k
    known_typed j at Later p = tt
    known_typed j at Ahead p = tt
    known_typed j at Begun p = tt
    known_typed j at (Headed r) p = holds_weaker (meaning_typed j at) p
    known_typed j at (Declared o r) p = holds_weaker (meaning_typed j at) p

    names_typed : (j : ℕ) → j ≤ level → (es : List (List ℕ × Known T)) → NamesIn x opens j (drop (level - j) x.kinds) es
        → Has es
    names_typed j at [] p = tt
    names_typed j at (e ∷ es) p = (known_typed j at e.1 p.0, names_typed j at es p.1)

    blocks_typed : (i : ℕ) (bs : List (Block T)) → i + length bs ≡ suc level → BlocksIn x opens level i bs
        → BlocksHave (MeaningTyped x [] opens level) tt bs
    blocks_typed i [] e p = tt
    blocks_typed i (b ∷ bs) e p = (
      names_typed (i - 1) (omega (arith, e)) b.names p.0,
      blocks_typed (suc i) bs
          (omega (arith, e)) p.1,
    )

pub scope_typed : (g : Gathers) (x : Context) (opens : ℕ → Bool) (s : Scope g.Reported) → ScopeTyped x opens g s
    → IsTyped g x [] opens s
scope_typed g x opens s h =
    let none : s.level - s.level ≡ 0 = omega arith in
    record {
      all = h.all;
      room = h.room;
      types = h.types;
      formals = h.formals;
      names = looked_has (MeaningTyped x [] opens s.level) tt g s h.withs
          (names_typed x opens s.level h.frames s.level (omega arith) s.own
          (subst (λ (n : ℕ). NamesIn x opens s.level (drop n x.kinds) s.own) (sym none) h.own))
          (blocks_typed x opens s.level h.frames 0 s.outer (let e = h.blocks in omega (arith, e)) h.outer);
      members = h.members;
    }

-- ---- the blocks around, from within a procedure

module _ (x : Context) (opens : ℕ → Bool) (ks : Kinds) where
  abbrev within : Context
  within = record x { kinds = ks ∷ x.kinds }

  meaning_within : (level : ℕ) (kss : List Kinds) (m : Meaning) → MeaningIn x opens level kss m
      → MeaningIn within opens level kss m
  meaning_within level kss (meaning.Constant v) p = p
  meaning_within level kss (meaning.Type t n) p = tt
  meaning_within level kss (meaning.Variable v) p = record { known = p.known; type = p.type; there = p.there }
  meaning_within level kss (meaning.Local v) p = p
  meaning_within level kss (meaning.Field f) p = p
  meaning_within level kss (meaning.Procedure f) p =
      record {
        known = p.known;
        home = p.home;
        there = p.there;
        routine = p.routine;
        is = p.is;
        outermost = p.outermost;
        forms = p.forms;
        result = p.result;
        heading = p.heading;
      }
  meaning_within level kss (meaning.LocalProcedure f) p = (
    p.0,
    p.1,
    record {
      there = p.2.there;
      routine = p.2.routine;
      is = p.2.is;
      kinds = p.2.kinds;
      forms = p.2.forms;
      result = p.2.result;
      heading = p.2.heading;
    },
  )
  meaning_within level kss meaning.Ahead p = tt
  meaning_within level kss (meaning.Standard f) p = tt
  meaning_within level kss (meaning.Module k) p = p

  -- one frame more stands in front
  drop_more : (level j : ℕ) → j ≤ level → drop (level - j) x.kinds ≡ drop (suc level - j) (ks ∷ x.kinds)
  drop_more level j at = let e : suc (level - j) ≡ suc level - j = omega (arith, at) in
      ap (λ (n : ℕ). drop n (ks ∷ x.kinds)) e

  module _ {T : Type 0} where
    known_within : (level : ℕ) (kss : List Kinds) (k : Known T) → KnownIn x opens level kss k
        → KnownIn within opens level kss k
    known_within level kss Later p = tt
    known_within level kss Ahead p = tt
    known_within level kss Begun p = tt
    known_within level kss (Headed r) p = holds_weaker (meaning_within level kss) p
    known_within level kss (Declared o r) p = holds_weaker (meaning_within level kss) p

    names_within : (level : ℕ) (kss : List Kinds) (es : List (List ℕ × Known T)) → NamesIn x opens level kss es
        → NamesIn within opens level kss es
    names_within level kss [] p = tt
    names_within level kss (e ∷ es) p = (known_within level kss e.1 p.0, names_within level kss es p.1)

    blocks_within : (level i : ℕ) (b : Block T) (bs : List (Block T)) → i + length bs ≡ suc level
        → length x.kinds ≡ level → BlocksIn x opens level i bs → NamesIn x opens level x.kinds b.names
        → BlocksIn within opens (suc level) i (bs ++ b ∷ [])
    blocks_within level i b [] e long p q =
        let at : i - 1 ≡ level = omega (arith, e) in
        let one : suc level - (i - 1) ≡ 1 = omega (arith, at) in (
          subst (λ (n : ℕ). NamesIn within opens (i - 1) (drop n (ks ∷ x.kinds)) b.names) (sym one)
              (subst (λ (n : ℕ). NamesIn within opens n x.kinds b.names) (sym at)
              (names_within level x.kinds b.names q)),
          tt,
        )
    blocks_within level i b (c ∷ bs) e long p q = (
      subst (λ (kss : List Kinds). NamesIn within opens (i - 1) kss c.names)
          (drop_more level (i - 1) (omega (arith, e)))
          (names_within (i - 1) (drop (level - (i - 1)) x.kinds) c.names p.0),
      blocks_within level (suc i) b bs (omega (arith, e)) long p.1 q,
    )

pub blocks_stay : {T : Type 0} (x : Context) (opens : ℕ → Bool) (ks : Kinds) (level : ℕ) (b : Block T)
    (bs : List (Block T)) → length bs ≡ suc level → length x.kinds ≡ level
    → BlocksIn x opens level 0 bs → NamesIn x opens level x.kinds b.names
    → BlocksIn (record x { kinds = ks ∷ x.kinds }) opens (suc level) 0 (bs ++ b ∷ [])
blocks_stay x opens ks level b bs e long p q = blocks_within x opens ks level 0 b bs (omega (arith, e)) long p q

-- ---- slots

module _ (types : Types) where
  abbrev slot_kind : LocalKind × TypeNo → Kind
  slot_kind s = kind_of types s.1 s.0

  formal_by : (v o : Bool) (t : TypeNo) → slot_kind (formal_kind (record { is_var = v; is_open = o; of = t }), t)
      ≡ kind_in_frame types (record { is_var = v; is_open = o; of = t })
  formal_by true true t = refl
  formal_by true false t = refl
  formal_by false true t = refl
  formal_by false false t = refl

  variables_kinds : (ts : List TypeNo) (n : ℕ) (s : LocalKind × TypeNo) → slice_get (map variable_slot ts) n ≡ Some s
      → slice_get (map (λ (t : TypeNo). Kept (tree types t)) ts) n ≡ Some (slot_kind s)
  variables_kinds [] n s e = absurd cc
  variables_kinds (t ∷ ts) zero s e = let same : variable_slot t ≡ s = cc in
      ap (λ (z : LocalKind × TypeNo). Some (slot_kind z)) same
  variables_kinds (t ∷ ts) (suc n) s e = variables_kinds ts n s e

  kinds_by : (fs : List Formal) (ts : List TypeNo) (n : ℕ) (s : LocalKind × TypeNo)
      → slice_get (map formal_slot fs ++ map variable_slot ts) n ≡ Some s
      → slice_get (map (kind_in_frame types) fs ++ map (λ (t : TypeNo). Kept (tree types t)) ts) n ≡ Some (slot_kind s)
  kinds_by [] ts n s e = variables_kinds ts n s e
  kinds_by (f ∷ fs) ts zero s e =
      let same : formal_slot f ≡ s = cc in
      ap (λ (k : Kind). Some k) (sym (formal_by f.is_var f.is_open f.of))
      ∙ ap (λ (z : LocalKind × TypeNo). Some (slot_kind z)) same
  kinds_by (f ∷ fs) ts (suc n) s e = kinds_by fs ts n s e

pub slots_are_kinds : (types : Types) (r : Routine) (n : ℕ) (k : LocalKind) (t : TypeNo)
    → slice_get (slots_of types r) n ≡ Some (k, t) → slice_get (kinds_of types r) n ≡ Some (kind_of types t k)
slots_are_kinds types r n k t e = kinds_by types (formals_of types r.heading) r.variables n (k, t) e
