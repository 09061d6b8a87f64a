-- Types that stay known, and one type more.
use Rattle.std.proofs.Common.{◌≡◌, ℕ, zero, suc, ◌==◌, Bool, true, false, List, [], ◌∷◌, ◌++◌, length, Option, Some, None, refl, sym, ap, subst, ◌∙◌}
use Rattle.std.proofs.lemmas.List.{append-nil, append_assoc}
use Rattle.std.specs.Prelude.{slice_get, cond, drop}
use Rattle.std.specs.Option.{is_some}
use Rattle.typed_tree.specs.declared.types.Home.{Home}
use Rattle.typed_tree.specs.declared.types.Home.TheVariants.{Predeclared, Module}
use Rattle.typed_tree.specs.declared.types.TypeNo.{TypeNo}
use Rattle.typed_tree.specs.declared.shape.Made.{Made}
use Rattle.typed_tree.specs.declared.meaning.Meaning.{Meaning}
use Rattle.typed_tree.specs.declared.meaning.Meaning.TheVariants as meaning
use Rattle.typed_tree.specs.declared.table.Table.{Table}
use Rattle.typed_tree.specs.declared.known_types.Types.{Types}
use Rattle.typed_tree.specs.Known.{in_list, made_in, made_at}
use Rattle.check_scope.specs.declared.known.Known.{Known}
use Rattle.check_scope.specs.declared.known.Known.TheVariants.{Later, Ahead, Begun, Headed, Declared}
use Rattle.check_scope.specs.declared.scope.Block.{Block}
use Rattle.check_scope.specs.declared.scope.Scope.{Scope}
use Rattle.check_type_expr.specs.Made.{next_type, with_shape}
use Rattle.law_well_formed.proofs.Basics.{holds_weaker}
use Rattle.law_well_formed.specs.Ordered.{is_known_from, is_known, AreKnown, Follows, AreOrderedFrom, BeginsWith}
use Rattle.law_well_formed.proofs.Trees.{at, some_of, itself, get_more, append_more}
use Rattle.law_well_formed.specs.FormedOrder.{FieldsOnce, AllOnce, StartedFrom, MeaningOrdered, KnownOrdered, NamesOrdered, BlocksOrdered, ExportsOrdered, TablesOrdered, ScopeOrdered}

-- ---- further types

pub started_here : (types : Types) → StartedFrom types types
started_here types = record { home = refl; others = refl; more = []; own = sym (append-nil types.own) }

pub started_from : (a b c : Types) → StartedFrom a b → StartedFrom b c → StartedFrom a c
started_from a b c p q = record {
  home = q.home ∙ p.home;
  others = q.others ∙ p.others;
  more = p.more ++ q.more;
  own = q.own ∙ ap (λ (ms : List Made). ms ++ q.more) p.own ∙ append_assoc a.own p.more q.more;
}

abbrev there_in : (k n home : ℕ) → (own : List Made) → (others : List (ℕ × List Made)) → Bool
there_in k n home own others = is_some (cond (k == home) (slice_get own n) (in_list n (at k others)))

pub known_kept : (a b : Types) → StartedFrom a b → (t : TypeNo) → is_known a t ≡ true → is_known b t ≡ true
known_kept a b p t e = from t.home t.number e where
  by : (c : Bool) (n : ℕ) (other : Option Made) → is_some (cond c (slice_get a.own n) other) ≡ true
      → is_some (cond c (slice_get (a.own ++ p.more) n) other) ≡ true
  by true n other g = ap is_some (get_more a.own p.more n g) ∙ g
  by false n other g = g

  same : (k n : ℕ) → there_in k n b.home b.own b.others ≡ there_in k n a.home (a.own ++ p.more) a.others
  same k n =
      ap (λ (h : ℕ). there_in k n h b.own b.others) p.home
      ∙ ap (λ (ms : List Made). there_in k n a.home ms b.others) p.own
      ∙ ap (λ (es : List (ℕ × List Made)). there_in k n a.home (a.own ++ p.more) es) p.others

  from : (h : Home) (n : ℕ) → is_known_from a h n ≡ true → is_known_from b h n ≡ true
  from Predeclared n g = g
  from (Module k) n g = same k n ∙ by (k == a.home) n (in_list n (at k a.others)) g

-- all types that are known stay known
abbrev pub StayKnown : Types → Types → Type 0
StayKnown a b = (t : TypeNo) → is_known a t ≡ true → is_known b t ≡ true

module _ (a b : Types) (p : StayKnown a b) where
  pub all_kept : (ts : List TypeNo) → AreKnown a ts → AreKnown b ts
  all_kept [] h = tt
  all_kept (t ∷ ts) h = (p t h.0, all_kept ts h.1)

  meaning_kept : (m : Meaning) → MeaningOrdered a m → MeaningOrdered b m
  meaning_kept (meaning.Constant v) h = tt
  meaning_kept (meaning.Type t n) h = p t h
  meaning_kept (meaning.Variable v) h = p v.of h
  meaning_kept (meaning.Local v) h = p v.of h
  meaning_kept (meaning.Field f) h = tt
  meaning_kept (meaning.Procedure q) h = p q.heading h
  meaning_kept (meaning.LocalProcedure q) h = p q.heading h
  meaning_kept meaning.Ahead h = tt
  meaning_kept (meaning.Standard f) h = tt
  meaning_kept (meaning.Module k) h = tt

  known_name_kept : {T : Type 0} (k : Known T) → KnownOrdered a k → KnownOrdered b k
  known_name_kept Later h = tt
  known_name_kept Ahead h = tt
  known_name_kept Begun h = tt
  known_name_kept (Headed r) h = holds_weaker meaning_kept h
  known_name_kept (Declared o r) h = holds_weaker meaning_kept h

  pub names_kept : {T : Type 0} (es : List (List ℕ × Known T)) → NamesOrdered a es → NamesOrdered b es
  names_kept [] h = tt
  names_kept (e ∷ es) h = (known_name_kept e.1 h.0, names_kept es h.1)

  pub blocks_kept : {T : Type 0} (bs : List (Block T)) → BlocksOrdered a bs → BlocksOrdered b bs
  blocks_kept [] h = tt
  blocks_kept (x ∷ bs) h = (names_kept x.names h.0, blocks_kept bs h.1)

  pub exports_kept : (es : List (List ℕ × Meaning)) → ExportsOrdered a es → ExportsOrdered b es
  exports_kept [] h = tt
  exports_kept (e ∷ es) h = (meaning_kept e.1 h.0, exports_kept es h.1)

  pub tables_kept : (ts : List Table) → TablesOrdered a ts → TablesOrdered b ts
  tables_kept [] h = tt
  tables_kept (t ∷ ts) h = (exports_kept t.exported h.0, tables_kept ts h.1)

-- ---- the types of variables

pub known_more : (types : Types) (ts : List TypeNo) (t : TypeNo) → AreKnown types ts → is_known types t ≡ true
    → AreKnown types (ts ++ t ∷ [])
known_more types [] t h p = (p, tt)
known_more types (u ∷ ts) t h p = (h.0, known_more types ts t h.1 p)

pub known_behind : (types : Types) (n : ℕ) (ts : List TypeNo) → AreKnown types ts → AreKnown types (drop n ts)
known_behind types zero ts h = h
known_behind types (suc n) [] h = tt
known_behind types (suc n) (t ∷ ts) h = known_behind types n ts h.1

-- what is made there stays known where all that is made stays
pub made_known : (a b : Types) → ((t : TypeNo) (x : Made) → made_at a t ≡ Some x → made_at b t ≡ Some x) → StayKnown a b
made_known a b keep t e = from t.home t.number e where
  from : (h : Home) (n : ℕ) → is_known_from a h n ≡ true → is_known_from b h n ≡ true
  from Predeclared n g = g
  from (Module k) n g = let x = some_of (made_in a k n) g in
      ap is_some (keep (record { home = Module k; number = n }) x.0 x.1)

-- ---- one type more

pub more_started : {T : Type 0} (s : Scope T) (m : Made) → StartedFrom s.types (with_shape s m).types
more_started s m = record { home = refl; others = refl; more = m ∷ []; own = refl }

ordered_more : (others : List (ℕ × List Made)) (home : ℕ) (ms before : List Made) (m : Made)
    → AreOrderedFrom others home before ms → Follows (record { home = home; own = before ++ ms; others = others }) m
    → AreOrderedFrom others home before (ms ++ m ∷ [])
ordered_more others home [] before m h p = (
  subst (λ (own : List Made). Follows (record { home = home; own = own; others = others }) m) (append-nil before) p,
  tt,
)
ordered_more others home (x ∷ ms) before m h p = (
  h.0,
  ordered_more others home ms (before ++ x ∷ []) m h.1
      (subst (λ (own : List Made). Follows (record { home = home; own = own; others = others }) m)
      (sym (append_more before x ms)) p),
)

begins_more : (own : List Made) (o : Option (List Made)) (m : Made) → BeginsWith own o → BeginsWith (own ++ m ∷ []) o
begins_more own None m h = tt
begins_more own (Some known) m h = (
  h.0 ++ m ∷ [],
  ap (λ (ms : List Made). ms ++ m ∷ []) h.1
      ∙ append_assoc known h.0 (m ∷ []),
)

once_more : (ms : List Made) (m : Made) → AllOnce ms → FieldsOnce m.shape → AllOnce (ms ++ m ∷ [])
once_more [] m h p = (p, tt)
once_more (x ∷ ms) m h p = (h.0, once_more ms m h.1 p)

-- what is to be known of a type that is made
abbrev pub ShapeOrdered : {T : Type 0} → Scope T → Made → Type 0
ShapeOrdered s m = Follows s.types m × FieldsOnce m.shape

pub scope_more : {T : Type 0} (base : Types) (s : Scope T) (m : Made) → ScopeOrdered base s → ShapeOrdered s m
    → ScopeOrdered base (with_shape s m)
scope_more base s m h p =
    let now : Types = (with_shape s m).types in
    let new : StartedFrom s.types now = more_started s m in
    let stay : StayKnown s.types now = known_kept s.types now new in
    record {
      started = started_from base s.types now h.started new;
      types = record {
        own = ordered_more s.types.others s.types.home s.types.own [] m h.types.own p.0;
        others = h.types.others;
        alike = begins_more s.types.own (at s.types.home s.types.others) m h.types.alike;
      };
      once = once_more s.types.own m h.once p.1;
      names = names_kept s.types now stay s.own h.names;
      outer = blocks_kept s.types now stay s.outer h.outer;
      tables = tables_kept s.types now stay s.tables h.tables;
      variables = all_kept s.types now stay s.variables h.variables;
    }

last_there : (xs : List Made) (x : Made) → is_some (slice_get (xs ++ x ∷ []) (length xs)) ≡ true
last_there [] x = refl
last_there (y ∷ xs) x = last_there xs x

pub next_known : {T : Type 0} (s : Scope T) (m : Made) → is_known (with_shape s m).types (next_type s) ≡ true
next_known s m =
    ap (λ (b : Bool). is_some (cond b (slice_get (s.types.own ++ m ∷ []) (length s.types.own))
    (in_list (length s.types.own) (at s.types.home s.types.others)))) (itself s.types.home)
    ∙ last_there s.types.own m

-- the same scope, as it began later
pub based_on : {T : Type 0} (base later : Types) (s : Scope T) → StartedFrom base later → ScopeOrdered later s
    → ScopeOrdered base s
based_on base later s p h = record {
  started = started_from base later s.types p h.started;
  types = h.types;
  once =
      h.once;
  names = h.names;
  outer = h.outer;
  tables = h.tables;
  variables = h.variables;
}

pub based_here : {T : Type 0} (base : Types) (s : Scope T) → ScopeOrdered base s → ScopeOrdered s.types s
based_here base s h = record {
  started = started_here s.types;
  types = h.types;
  once = h.once;
  names = h.names;
  outer =
      h.outer;
  tables = h.tables;
  variables = h.variables;
}
