-- What one name more does, one type more, and one variable more.
use Rattle.std.proofs.Common.{◌≡◌, ℕ, zero, suc, ◌==◌, Bool, true, false, cond, List, [], ◌∷◌, ◌++◌, Option, Some, None, Result, Ok, Err, refl, ap, subst, ◌∙◌, ◌≤◌, map, drop, append_assoc, length-append, arith, length, sym}
use Rattle.std.specs.Prelude.{slice_get, nat_eq}
use Rattle.std.specs.Map.{lookup}
use Rattle.std.specs.Option.{is_some}
use Rattle.typed_tree.specs.declared.known_types.Types.{Types}
use Rattle.typed_tree.specs.declared.meaning.Meaning.{Meaning}
use Rattle.typed_tree.specs.declared.meaning.Meaning.TheVariants as meaning
use Rattle.typed_tree.specs.declared.meaning.LocalKind.{LocalKind}
use Rattle.typed_tree.specs.declared.shape.Formal.{Formal}
use Rattle.typed_tree.specs.declared.shape.Made.{Made}
use Rattle.typed_tree.specs.declared.shape.Scalar.{Scalar as Range}
use Rattle.typed_tree.specs.declared.shape.Shape.{Shape}
use Rattle.typed_tree.specs.declared.shape.Shape.TheVariants as shape
use Rattle.typed_tree.specs.declared.types.Home.{Home}
use Rattle.typed_tree.specs.declared.types.Home.TheVariants.{Predeclared, Module}
use Rattle.typed_tree.specs.declared.types.TypeNo.{TypeNo}
use Rattle.typed_tree.specs.Known.{made_from, in_list, scalar_at}
use Rattle.m2_tree.specs.Names.{same_name}
use Rattle.typed_tree.specs.Names.{enter_name}
use Rattle.check_scope.specs.Scopes.{with_known}
use Rattle.check_scope.specs.declared.known.Known.{Known}
use Rattle.check_scope.specs.declared.known.Known.TheVariants.{Later, Ahead, Begun, Headed, Declared}
use Rattle.check_scope.specs.declared.scope.Scope.{Scope}
use Rattle.check_value.specs.Classes.{array_shape, array_made, array_at}
use Rattle.check_type_expr.specs.Made.{with_shape, with_made}
use Rattle.check_definition.specs.Declare.{with_variable_type, with_procedure_type}
use Rattle.law_well_formed.specs.Formed.{Holds, fine, broken}
use Rattle.law_well_formed.proofs.Basics.{holds_weaker, Grows}
use Rattle.law_well_formed.proofs.Names.{get_more}
use Rattle.law_programs.specs.Typing.{IsIndexed}
use Rattle.law_programs.specs.Carried.{ShapeIndexed, AllIndexed, OthersIndexed, TypesIndexed, MeaningPlaced, KnownPlaced, NamesPlaced, KnownWord, NamesWords, ScopeWords, slots_from, slots_in, StandsIn, MeaningSlot, KnownSlot, NamesSlots, Carries}
use Rattle.law_programs.specs.Scopes.{formal_slot, variable_slot}
use Rattle.law_programs.proofs.Known.{scalar_known}

-- ---- types that stay

abbrev pub IsScalar : Types → TypeNo → Type 0
IsScalar types t = is_some (scalar_at types t) ≡ true

some_range : (o : Option Range) → is_some o ≡ true → (r : Range) × (o ≡ Some r)
some_range None e = absurd cc
some_range (Some r) e = (r, refl)

module _ (a b : Types) (grows : Grows a b) where
  pub scalar_stays : (t : TypeNo) → IsScalar a t → IsScalar b t
  scalar_stays t e = let k = some_range (scalar_at a t) e in
      ap (λ (o : Option Range). is_some o) (scalar_known a b grows t k.0 k.1)

  shape_stays : (s : Shape) → ShapeIndexed a s → ShapeIndexed b s
  shape_stays (shape.Array i e) p = scalar_stays i p
  shape_stays (shape.Scalar r) p = tt
  shape_stays shape.Set p = tt
  shape_stays (shape.Record fs) p = tt
  shape_stays (shape.Procedure q) p = tt
  shape_stays (shape.Open e) p = tt

  pub all_stay : (ms : List Made) → AllIndexed a ms → AllIndexed b ms
  all_stay [] p = tt
  all_stay (m ∷ ms) p = (shape_stays m.shape p.0, all_stay ms p.1)

  others_stay : (es : List (ℕ × List Made)) → OthersIndexed a es → OthersIndexed b es
  others_stay [] p = tt
  others_stay (e ∷ es) p = (all_stay e.1 p.0, others_stay es p.1)

-- ---- variables that stay

abbrev Longer : List TypeNo → List TypeNo → Type 0
Longer us vs = (n : ℕ) (t : TypeNo) → slice_get us n ≡ Some t → slice_get vs n ≡ Some t

meaning_stays : (home : ℕ) (us vs : List TypeNo) → Longer us vs → (m : Meaning) → MeaningPlaced home us m
    → MeaningPlaced home vs m
meaning_stays home us vs k (meaning.Variable v) p = λ e. k v.number v.of (p e)
meaning_stays home us vs k (meaning.Constant v) p = tt
meaning_stays home us vs k (meaning.Type t n) p = tt
meaning_stays home us vs k (meaning.Local v) p = tt
meaning_stays home us vs k (meaning.Field f) p = tt
meaning_stays home us vs k (meaning.Procedure q) p = tt
meaning_stays home us vs k (meaning.LocalProcedure q) p = tt
meaning_stays home us vs k meaning.Ahead p = tt
meaning_stays home us vs k (meaning.Standard f) p = tt
meaning_stays home us vs k (meaning.Module n) p = tt

known_stays : {T : Type 0} (home : ℕ) (us vs : List TypeNo) → Longer us vs → (k : Known T) → KnownPlaced home us k
    → KnownPlaced home vs k
known_stays home us vs l Later p = tt
known_stays home us vs l Ahead p = tt
known_stays home us vs l Begun p = tt
known_stays home us vs l (Headed r) p = holds_weaker (λ m q. meaning_stays home us vs l m q) p
known_stays home us vs l (Declared o r) p = holds_weaker (λ m q. meaning_stays home us vs l m q) p

names_stay : {T : Type 0} (home : ℕ) (us vs : List TypeNo) → Longer us vs → (es : List (List ℕ × Known T))
    → NamesPlaced home us es → NamesPlaced home vs es
names_stay home us vs l [] p = tt
names_stay home us vs l (e ∷ es) p = (known_stays home us vs l e.1 p.0, names_stay home us vs l es p.1)

-- ---- slots

abbrev pub Slots : Type 0
Slots = List (LocalKind × TypeNo)

abbrev pub SlotFor : {T : Type 0} → Scope T → Known T → Type 0
SlotFor s k = (o : Option (List Formal)) → StandsIn o s → KnownSlot (slots_in o s.variables) s.level k

abbrev LongerSlots : Slots → Slots → Type 0
LongerSlots xs ys = (n : ℕ) (t : LocalKind × TypeNo) → slice_get xs n ≡ Some t → slice_get ys n ≡ Some t

slot_stays : (xs ys : Slots) (level : ℕ) → LongerSlots xs ys → (m : Meaning) → MeaningSlot xs level m
    → MeaningSlot ys level m
slot_stays xs ys level k (meaning.Local v) p = (p.0, k v.number (v.kind, v.of) p.1)
slot_stays xs ys level k (meaning.Constant v) p = tt
slot_stays xs ys level k (meaning.Type t n) p = tt
slot_stays xs ys level k (meaning.Variable v) p = tt
slot_stays xs ys level k (meaning.Field f) p = tt
slot_stays xs ys level k (meaning.Procedure q) p = tt
slot_stays xs ys level k (meaning.LocalProcedure q) p = tt
slot_stays xs ys level k meaning.Ahead p = tt
slot_stays xs ys level k (meaning.Standard f) p = tt
slot_stays xs ys level k (meaning.Module n) p = tt

known_slot_stays : {T : Type 0} (xs ys : Slots) (level : ℕ) → LongerSlots xs ys → (k : Known T) → KnownSlot xs level k
    → KnownSlot ys level k
known_slot_stays xs ys level l Later p = tt
known_slot_stays xs ys level l Ahead p = tt
known_slot_stays xs ys level l Begun p = tt
known_slot_stays xs ys level l (Headed r) p = holds_weaker (λ m q. slot_stays xs ys level l m q) p
known_slot_stays xs ys level l (Declared o r) p = holds_weaker (λ m q. slot_stays xs ys level l m q) p

pub slots_stay : {T : Type 0} (xs ys : Slots) (level : ℕ) → LongerSlots xs ys → (es : List (List ℕ × Known T))
    → NamesSlots xs level es → NamesSlots ys level es
slots_stay xs ys level l [] p = tt
slots_stay xs ys level l (e ∷ es) p = (known_slot_stays xs ys level l e.1 p.0, slots_stay xs ys level l es p.1)

drop_behind : {A : Type 0} (n : ℕ) (vs : List A) (t : A) → n ≤ length vs → drop n (vs ++ t ∷ []) ≡ drop n vs ++ t ∷ []
drop_behind zero vs t l = refl
drop_behind (suc n) [] t l = absurd (omega (arith, l))
drop_behind (suc n) (v ∷ vs) t l = drop_behind n vs t (omega (arith, l))

map_behind : {A B : Type 0} (f : A → B) (vs : List A) (t : A) → map f (vs ++ t ∷ []) ≡ map f vs ++ f t ∷ []
map_behind f [] t = refl
map_behind f (v ∷ vs) t = ap (λ ys. f v ∷ ys) (map_behind f vs t)

-- one variable more is one slot more
pub slots_behind : (fs : List Formal) (vs : List TypeNo) (t : TypeNo) → length fs ≤ length vs
    → slots_from fs (vs ++ t ∷ []) ≡ slots_from fs vs ++ variable_slot t ∷ []
slots_behind fs vs t l =
    ap (λ (us : List TypeNo). map formal_slot fs ++ map variable_slot us) (drop_behind (length fs) vs t l)
    ∙ ap (λ (us : Slots). map formal_slot fs ++ us) (map_behind variable_slot (drop (length fs) vs) t)
    ∙ sym (append_assoc (map formal_slot fs) (map variable_slot (drop (length fs) vs)) (variable_slot t ∷ []))

slots_longer : (fs : List Formal) (vs : List TypeNo) (t : TypeNo) → length fs ≤ length vs
    → LongerSlots (slots_from fs vs) (slots_from fs (vs ++ t ∷ []))
slots_longer fs vs t l n s e = subst (λ (us : Slots). slice_get us n ≡ Some s) (sym (slots_behind fs vs t l))
    (get_more (slots_from fs vs) (variable_slot t ∷ []) n s e)

slots_grow : {T : Type 0} (s : Scope T) (t : TypeNo) (o : Option (List Formal)) → StandsIn o s
    → LongerSlots (slots_in o s.variables) (slots_in o (s.variables ++ t ∷ []))
slots_grow s t None l = λ n u e. e
slots_grow s t (Some fs) l = slots_longer fs s.variables t l

slots_by : {T : Type 0} (xs : Slots) (level : ℕ) (b : Bool) (k : Known T) (e : List ℕ × Known T)
    (es more : List (List ℕ × Known T)) → KnownSlot xs level k → NamesSlots xs level (e ∷ es) → NamesSlots xs level more
    → NamesSlots xs level (cond b ((e.0, k) ∷ es) (e ∷ more))
slots_by xs level true k e es more p all q = (p, all.1)
slots_by xs level false k e es more p all q = (all.0, q)

pub slots_more : {T : Type 0} (xs : Slots) (level : ℕ) (name : List ℕ) (k : Known T) (es : List (List ℕ × Known T))
    → KnownSlot xs level k → NamesSlots xs level es → NamesSlots xs level (enter_name name k es)
slots_more xs level name k [] p all = (p, tt)
slots_more xs level name k (e ∷ es) p all =
    slots_by xs level (same_name name e.0) k e es (enter_name name k es) p all (slots_more xs level name k es p all.1)

-- ---- steps

pub carries_refl : {T : Type 0} (s : Scope T) → Carries s s
carries_refl s = record {
  home = refl;
  tables = refl;
  types = λ t m e. e;
  variables = λ n t e. e;
  indexed = λ p. p;
  placed = λ p. p;
  words = λ p. p;
  longer = omega arith;
  level = refl;
  slots = λ o l p. p;
}

stands_on : {T : Type 0} {a b : Scope T} → Carries a b → (o : Option (List Formal)) → StandsIn o a → StandsIn o b
stands_on p None l = p.level ∙ l
stands_on p (Some fs) l = let a = p.longer in omega (arith, l, a)

pub carries_then : {T : Type 0} {a b c : Scope T} → Carries a b → Carries b c → Carries a c
carries_then p q = record {
  home = q.home ∙ p.home;
  tables = q.tables ∙ p.tables;
  types = λ t m e. q.types t m (p.types t m e);
  variables = λ n t e. q.variables n t (p.variables n t e);
  indexed = λ k. q.indexed (p.indexed k);
  placed = λ k. q.placed (p.placed k);
  words = λ k. q.words (p.words k);
  longer = let a = p.longer in let b = q.longer in omega (arith, a, b);
  level = q.level ∙ p.level;
  slots = λ o l k. q.slots o (stands_on p o l) (p.slots o l k);
}

-- ---- one name more

names_by : {T : Type 0} (home : ℕ) (vs : List TypeNo) (b : Bool) (k : Known T) (e : List ℕ × Known T)
    (es more : List (List ℕ × Known T)) → KnownPlaced home vs k → NamesPlaced home vs (e ∷ es)
    → NamesPlaced home vs more → NamesPlaced home vs (cond b ((e.0, k) ∷ es) (e ∷ more))
names_by home vs true k e es more p all q = (p, all.1)
names_by home vs false k e es more p all q = (all.0, q)

names_more : {T : Type 0} (home : ℕ) (vs : List TypeNo) (name : List ℕ) (k : Known T) (es : List (List ℕ × Known T))
    → KnownPlaced home vs k → NamesPlaced home vs es → NamesPlaced home vs (enter_name name k es)
names_more home vs name k [] p all = (p, tt)
names_more home vs name k (e ∷ es) p all =
    names_by home vs (same_name name e.0) k e es (enter_name name k es) p all (names_more home vs name k es p all.1)

words_by : {T : Type 0} (b : Bool) (k : Known T) (e : List ℕ × Known T) (es more : List (List ℕ × Known T))
    → KnownWord k → NamesWords (e ∷ es) → NamesWords more → NamesWords (cond b ((e.0, k) ∷ es) (e ∷ more))
words_by true k e es more p all q = (p, all.1)
words_by false k e es more p all q = (all.0, q)

pub words_more : {T : Type 0} (name : List ℕ) (k : Known T) (es : List (List ℕ × Known T)) → KnownWord k → NamesWords es
    → NamesWords (enter_name name k es)
words_more name k [] p all = (p, tt)
words_more name k (e ∷ es) p all = words_by (same_name name e.0) k e es (enter_name name k es) p all
    (words_more name k es p all.1)

pub known_carries : {T : Type 0} (s : Scope T) (name : List ℕ) (k : Known T) → KnownPlaced s.types.home s.variables k
    → (ScopeWords s → KnownWord k) → SlotFor s k → Carries s (with_known name k s)
known_carries s name k p w z = record {
  home = refl;
  tables = refl;
  types = λ t m e. e;
  variables = λ n t e. e;
  indexed = λ q. q;
  placed = λ q. names_more s.types.home s.variables name k s.own p q;
  words = λ q. record { names = words_more name k s.own (w q) q.names; outer = q.outer; tables = q.tables };
  longer = omega arith;
  level = refl;
  slots = λ o l q. slots_more (slots_in o s.variables) s.level name k s.own (z o l) q;
}

-- ---- one type more

made_more : (types : Types) (x : Made) → Grows types (record types { own = types.own ++ x ∷ [] })
made_more types x t y e = from t.home t.number e where
  here : (b : Bool) (n : ℕ) (other : Option Made) → cond b (slice_get types.own n) other ≡ Some y
      → cond b (slice_get (types.own ++ x ∷ []) n) other ≡ Some y
  here true n other e = get_more types.own (x ∷ []) n y e
  here false n other e = e

  from : (h : Home) (n : ℕ) → made_from types h n ≡ Some y
      → made_from (record types { own = types.own ++ x ∷ [] }) h n ≡ Some y
  from Predeclared n e = e
  from (Module k) n e = here (k == types.home) n _ e

all_more : (types : Types) (ms : List Made) (x : Made) → AllIndexed types ms → ShapeIndexed types x.shape
    → AllIndexed types (ms ++ x ∷ [])
all_more types [] x p q = (q, tt)
all_more types (m ∷ ms) x p q = (p.0, all_more types ms x p.1 q)

pub shape_carries : {T : Type 0} (s : Scope T) (x : Made) → ShapeIndexed s.types x.shape → Carries s (with_shape s x)
shape_carries s x p =
    let now : Types = (with_shape s x).types in
    let grows : Grows s.types now = made_more s.types x in
    record {
      home = refl;
      tables = refl;
      types = grows;
      variables = λ n t e. e;
      indexed = λ q. record {
        own = all_more now s.types.own x (all_stay s.types now grows s.types.own q.own)
            (shape_stays s.types now grows x.shape p);
        others = others_stay s.types now grows s.types.others q.others;
      };
      placed = λ q. q;
      words = λ q. record { names = q.names; outer = q.outer; tables = q.tables };
      longer = omega arith;
      level = refl;
      slots = λ o l q. q;
    }

pub made_carries : {T : Type 0} (s : Scope T) {r : Result Made T} → Holds (λ x. ShapeIndexed s.types x.shape) r
    → Carries s (with_made s r).0
made_carries s (fine x p) = shape_carries s x p
made_carries s (broken e) = carries_refl s

-- ---- one variable more, and one procedure

pub variable_type_carries : {T : Type 0} (s : Scope T) (t : Result TypeNo T) → Carries s (with_variable_type s t)
variable_type_carries s (Ok t) = record {
  home = refl;
  tables = refl;
  types = λ u m e. e;
  variables = λ n u e. get_more s.variables (t ∷ []) n u e;
  indexed = λ p. p;
  placed = λ p. names_stay s.types.home s.variables (s.variables ++ t ∷ [])
      (λ n u e. get_more s.variables (t ∷ []) n u e) s.own p;
  words = λ q. record { names = q.names; outer = q.outer; tables = q.tables };
  longer = let e = length-append s.variables (t ∷ []) in omega (arith, e);
  level = refl;
  slots = λ o l q. slots_stay (slots_in o s.variables) (slots_in o (s.variables ++ t ∷ [])) s.level (slots_grow s t o l)
      s.own q;
}
variable_type_carries s (Err e) = carries_refl s

pub procedure_type_carries : {T : Type 0} (s : Scope T) (t : Result TypeNo T) → Carries s (with_procedure_type s t)
procedure_type_carries s (Ok t) = record {
  home = refl;
  tables = refl;
  types = λ u m e. e;
  variables = λ n u e. e;
  indexed = λ p. p;
  placed = λ p. p;
  words = λ q. record { names = q.names; outer = q.outer; tables = q.tables };
  longer = omega arith;
  level = refl;
  slots = λ o l q. q;
}
procedure_type_carries s (Err e) = carries_refl s

-- a name is entered behind a step that carries on; its slot is asked for what stood before
pub then_known : {T : Type 0} (a s : Scope T) (name : List ℕ) (k : Known T) → Carries a s
    → KnownPlaced s.types.home s.variables k → (ScopeWords s → KnownWord k)
    → ((o : Option (List Formal)) → StandsIn o a → KnownSlot (slots_in o s.variables) s.level k)
    → Carries a (with_known name k s)
then_known a s name k c p w z = record {
  home = c.home;
  tables = c.tables;
  types = c.types;
  variables = c.variables;
  indexed = c.indexed;
  placed = λ q. names_more s.types.home s.variables name k s.own p (c.placed q);
  words = λ q. let r = c.words q in record {
    names = words_more name k s.own (w r) r.names;
    outer = r.outer;
    tables =
        r.tables;
  };
  longer = c.longer;
  level = c.level;
  slots = λ o l q. slots_more (slots_in o s.variables) s.level name k s.own (z o l) (c.slots o l q);
}

-- ---- an array that is known

module _ (types : Types) where
  shape_indexed : (s : Shape) (a : TypeNo × TypeNo) → ShapeIndexed types s → array_shape s ≡ Some a → IsScalar types a.0
  shape_indexed (shape.Array i e) a p q = let same : (i, e) ≡ a = cc in
      subst (λ (c : TypeNo × TypeNo). IsScalar types c.0) same p
  shape_indexed (shape.Scalar r) a p q = absurd cc
  shape_indexed shape.Set a p q = absurd cc
  shape_indexed (shape.Record fs) a p q = absurd cc
  shape_indexed (shape.Procedure s) a p q = absurd cc
  shape_indexed (shape.Open e) a p q = absurd cc

  all_indexed : (ms : List Made) (n : ℕ) (a : TypeNo × TypeNo) → AllIndexed types ms
      → array_made (slice_get ms n) ≡ Some a → IsScalar types a.0
  all_indexed [] n a p q = absurd cc
  all_indexed (m ∷ ms) zero a p q = shape_indexed m.shape a p.0 q
  all_indexed (m ∷ ms) (suc n) a p q = all_indexed ms n a p.1 q

  others_by : (b : Bool) (home : ℕ) (ms : List Made) (es : List (ℕ × List Made)) (n : ℕ) (a : TypeNo × TypeNo)
      → AllIndexed types ms → (array_made (in_list n (lookup (nat_eq home) es)) ≡ Some a → IsScalar types a.0)
      → array_made (in_list n (cond b (Some ms) (lookup (nat_eq home) es))) ≡ Some a → IsScalar types a.0
  others_by true home ms es n a p k q = all_indexed ms n a p q
  others_by false home ms es n a p k q = k q

  others_indexed : (home : ℕ) (es : List (ℕ × List Made)) (n : ℕ) (a : TypeNo × TypeNo) → OthersIndexed types es
      → array_made (in_list n (lookup (nat_eq home) es)) ≡ Some a → IsScalar types a.0
  others_indexed home [] n a p q = absurd cc
  others_indexed home (x ∷ es) n a p q = others_by (nat_eq home x.0) home x.1 es n a p.0
      (λ f. others_indexed home es n a p.1 f) q

  indexed_by : (h : TypesIndexed types) (home : Home) (n : ℕ) (a : TypeNo × TypeNo)
      → array_made (made_from types home n) ≡ Some a → IsScalar types a.0
  indexed_by h Predeclared n a q = absurd cc
  indexed_by h (Module home) n a q = here (home == types.home) q where
    here : (b : Bool) → array_made (cond b (slice_get types.own n) (in_list n (lookup (nat_eq home) types.others)))
        ≡ Some a → IsScalar types a.0
    here true q = all_indexed types.own n a h.own q
    here false q = others_indexed home types.others n a h.others q

pub indexed_known : (types : Types) → TypesIndexed types → (t i e : TypeNo) → array_at types t ≡ Some (i, e)
    → IsIndexed types i
indexed_known types h t i e q = let k = some_range (scalar_at types i) (indexed_by types h t.home t.number (i, e) q) in
    record { range = k.0; at = k.1 }
