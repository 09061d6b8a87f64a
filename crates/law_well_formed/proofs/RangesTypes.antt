-- One type more.
use Rattle.std.proofs.Common.{◌≡◌, ℕ, zero, suc, ◌+◌, ◌≤ℤ◌, ◌==◌, ℤ, pos, negsuc, ◌-ℤ◌, Bool, true, false, List, [], ◌∷◌, ◌++◌, length, Option, Some, None, refl, sym, ap, subst, ◌∙◌, arith}
use Rattle.std.proofs.lemmas.Int.{ints}
use Rattle.std.proofs.lemmas.Bool.{eqb-true}
use Rattle.std.specs.Prelude.{slice_get, nat_eq, cond, ◌&&◌}
use Rattle.std.specs.Map.{lookup}
use Rattle.typed_tree.specs.declared.types.Home.{Home}
use Rattle.typed_tree.specs.declared.types.Home.TheVariants.{Predeclared, Module}
use Rattle.typed_tree.specs.declared.types.TypeNo.{TypeNo}
use Rattle.typed_tree.specs.declared.shape.Scalar.{Scalar as Range}
use Rattle.typed_tree.specs.declared.shape.Shape.{Shape}
use Rattle.typed_tree.specs.declared.shape.Shape.TheVariants as shape
use Rattle.typed_tree.specs.declared.shape.Made.{Made}
use Rattle.typed_tree.specs.declared.meaning.Value.{Value}
use Rattle.typed_tree.specs.declared.meaning.Value.TheVariants as value
use Rattle.typed_tree.specs.declared.meaning.Meaning.{Meaning}
use Rattle.typed_tree.specs.declared.meaning.Meaning.TheVariants as meaning
use Rattle.typed_tree.specs.declared.table.Table.{Table}
use Rattle.typed_tree.specs.declared.known_types.Types.{Types}
use Rattle.typed_tree.specs.Types.{are_same, is_one_home}
use Rattle.typed_tree.specs.Known.{scalar_at, scalar_from, scalar_made, scalar_shape, in_list}
use Rattle.check_scope.specs.declared.known.Known.{Known}
use Rattle.check_scope.specs.declared.known.Known.TheVariants.{Later, Ahead, Begun, Headed, Declared}
use Rattle.check_scope.specs.declared.scope.Block.{Block}
use Rattle.check_scope.specs.declared.scope.Scope.{Scope}
use Rattle.check_type_expr.specs.Made.{next_type, with_shape}
use Rattle.law_well_formed.proofs.Basics.{holds_weaker}
use Rattle.law_well_formed.proofs.ScopesDeclarations.{same_home}
use Rattle.law_modules.specs.Ranges.{IsRange, IsRanged, type_of, AreRangedFrom}
use Rattle.law_modules.proofs.Known.{range_at}
use Rattle.law_well_formed.specs.FormedRanges.{IsNumber, ValueRanged, IsBased, ShapeBased, AllBased, OthersBased, MeaningRanged, KnownRanged, NamesRanged, BlocksRanged, ExportsRanged, TablesRanged, ScopeRanged}

-- ---- types by number

pub both_left : (a b : Bool) → (a && b) ≡ true → a ≡ true
both_left true b e = refl
both_left false b e = absurd cc

pub both_right : (a b : Bool) → (a && b) ≡ true → b ≡ true
both_right true b e = e
both_right false b e = absurd cc

same_homes : (h k : Home) → is_one_home h k ≡ true → h ≡ k
same_homes Predeclared Predeclared e = refl
same_homes Predeclared (Module n) e = absurd cc
same_homes (Module m) Predeclared e = absurd cc
same_homes (Module m) (Module n) e = ap Module (eqb-true m n e)

pub same_types : (t u : TypeNo) → are_same t u ≡ true → t ≡ u
same_types t u e =
    let homes : t.home ≡ u.home = same_homes t.home u.home
    (both_left (is_one_home t.home u.home) (t.number == u.number) e) in
    let numbers : t.number ≡ u.number = eqb-true t.number u.number
    (both_right (is_one_home t.home u.home) (t.number == u.number) e) in
    ap (λ (h : Home). record { home = h; number = t.number }) homes
    ∙ ap (λ (i : ℕ). record { home = u.home; number = i }) numbers

-- ---- types that are kept

abbrev pub Kept : Types → Types → Type 0
Kept a b = (t : TypeNo) (r : Range) → scalar_at a t ≡ Some r → scalar_at b t ≡ Some r

module _ (a b : Types) (kept : Kept a b) where
  pub number_kept : (t base : TypeNo) (n : ℤ) → IsNumber a t base n → IsNumber b t base n
  number_kept t base n p = record { range = p.range; at = kept t p.range p.at; own = p.own; low = p.low; high = p.high }

  pub value_kept : (v : Value) → ValueRanged a v → ValueRanged b v
  value_kept (value.Number n) p = p
  value_kept (value.Scalar s) p = (number_kept s.of s.base s.number p.0, number_kept s.base s.base s.number p.1)
  value_kept (value.Set bits) p = p
  value_kept (value.Text text) p = p

  pub based_kept : (r : Range) → IsBased a r → IsBased b r
  based_kept r p = record {
    low = number_kept r.base r.base r.low p.low;
    high =
        number_kept r.base r.base r.high p.high;
  }

  shape_kept : (s : Shape) → ShapeBased a s → ShapeBased b s
  shape_kept (shape.Scalar r) p = based_kept r p
  shape_kept shape.Set p = tt
  shape_kept (shape.Array i e) p = tt
  shape_kept (shape.Record fs) p = tt
  shape_kept (shape.Procedure q) p = tt
  shape_kept (shape.Open e) p = tt

  pub all_kept : (ms : List Made) → AllBased a ms → AllBased b ms
  all_kept [] p = tt
  all_kept (m ∷ ms) p = (shape_kept m.shape p.0, all_kept ms p.1)

  pub others_kept : (es : List (ℕ × List Made)) → OthersBased a es → OthersBased b es
  others_kept [] p = tt
  others_kept (e ∷ es) p = (all_kept e.1 p.0, others_kept es p.1)

  meaning_kept : (m : Meaning) → MeaningRanged a m → MeaningRanged b m
  meaning_kept (meaning.Constant v) p = value_kept v p
  meaning_kept (meaning.Type t n) p = tt
  meaning_kept (meaning.Variable v) p = tt
  meaning_kept (meaning.Local v) p = tt
  meaning_kept (meaning.Field f) p = tt
  meaning_kept (meaning.Procedure q) p = tt
  meaning_kept (meaning.LocalProcedure q) p = tt
  meaning_kept meaning.Ahead p = tt
  meaning_kept (meaning.Standard f) p = tt
  meaning_kept (meaning.Module k) p = tt

  known_kept : {T : Type 0} (k : Known T) → KnownRanged a k → KnownRanged b k
  known_kept Later p = tt
  known_kept Ahead p = tt
  known_kept Begun p = tt
  known_kept (Headed r) p = holds_weaker meaning_kept p
  known_kept (Declared o r) p = holds_weaker meaning_kept p

  pub names_kept : {T : Type 0} (es : List (List ℕ × Known T)) → NamesRanged a es → NamesRanged b es
  names_kept [] p = tt
  names_kept (e ∷ es) p = (known_kept e.1 p.0, names_kept es p.1)

  pub blocks_kept : {T : Type 0} (bs : List (Block T)) → BlocksRanged a bs → BlocksRanged b bs
  blocks_kept [] p = tt
  blocks_kept (x ∷ bs) p = (names_kept x.names p.0, blocks_kept bs p.1)

  exports_kept : (es : List (List ℕ × Meaning)) → ExportsRanged a es → ExportsRanged b es
  exports_kept [] p = tt
  exports_kept (e ∷ es) p = (meaning_kept e.1 p.0, exports_kept es p.1)

  pub tables_kept : (ts : List Table) → TablesRanged a ts → TablesRanged b ts
  tables_kept [] p = tt
  tables_kept (t ∷ ts) p = (exports_kept t.exported p.0, tables_kept ts p.1)

-- ---- one type more

scalar_more : (xs : List Made) (x : Made) (n : ℕ) (r : Range) → scalar_made (slice_get xs n) ≡ Some r
    → scalar_made (slice_get (xs ++ x ∷ []) n) ≡ Some r
scalar_more [] x n r e = absurd cc
scalar_more (y ∷ xs) x zero r e = e
scalar_more (y ∷ xs) x (suc n) r e = scalar_more xs x n r e

pub more_kept : (types : Types) (x : Made) → Kept types (record types { own = types.own ++ x ∷ [] })
more_kept types x t r e = from t.home t.number e where
  here : (b : Bool) (n : ℕ) (other : Option Made) → scalar_made (cond b (slice_get types.own n) other) ≡ Some r
      → scalar_made (cond b (slice_get (types.own ++ x ∷ []) n) other) ≡ Some r
  here true n other e = scalar_more types.own x n r e
  here false n other e = e

  from : (h : Home) (n : ℕ) → scalar_from types h n ≡ Some r
      → scalar_from (record types { own = types.own ++ x ∷ [] }) h n ≡ Some r
  from Predeclared n e = e
  from (Module k) n e = here (k == types.home) n (in_list n (lookup (nat_eq k) types.others)) e

ranged_more : (home k : ℕ) (ms : List Made) (x : Made) → AreRangedFrom home k ms
    → IsRanged (type_of home (k + length ms)) x.shape → AreRangedFrom home k (ms ++ x ∷ [])
ranged_more home k [] x h p = (subst (λ (i : ℕ). IsRanged (type_of home i) x.shape) (omega arith) p, tt)
ranged_more home k (m ∷ ms) x h p = (
  h.0,
  ranged_more home (suc k) ms x h.1
      (subst (λ (i : ℕ). IsRanged (type_of home i) x.shape) (omega arith) p),
)

based_more : (types : Types) (ms : List Made) (x : Made) → AllBased types ms → ShapeBased types x.shape
    → AllBased types (ms ++ x ∷ [])
based_more types [] x h p = (p, tt)
based_more types (m ∷ ms) x h p = (h.0, based_more types ms x h.1 p)

pub scope_more : {T : Type 0} (s : Scope T) (x : Made) → ScopeRanged s → IsRanged (next_type s) x.shape
    → ShapeBased (with_shape s x).types x.shape → ScopeRanged (with_shape s x)
scope_more s x h p q =
    let now : Types = (with_shape s x).types in
    let kept : Kept s.types now = more_kept s.types x in
    record {
      types = record {
        own = ranged_more s.types.home 0 s.types.own x h.types.own
            (subst (λ (i : ℕ). IsRanged (type_of s.types.home i) x.shape) (omega arith) p);
        others = h.types.others;
      };
      own = based_more now s.types.own x (all_kept s.types now kept s.types.own h.own) q;
      others = others_kept s.types now kept s.types.others h.others;
      names = names_kept s.types now kept s.own h.names;
      outer = blocks_kept s.types now kept s.outer h.outer;
      tables = tables_kept s.types now kept s.tables h.tables;
    }

-- ---- the next type is not there yet

none_there : (xs : List Made) → scalar_made (slice_get xs (length xs)) ≡ None
none_there [] = refl
none_there (x ∷ xs) = none_there xs

pub next_none : {T : Type 0} (s : Scope T) → scalar_at s.types (next_type s) ≡ None
next_none s =
    ap (λ (b : Bool). scalar_made (cond b (slice_get s.types.own (length s.types.own))
    (in_list (length s.types.own) (lookup (nat_eq s.types.home) s.types.others))))
    (same_home s.types.home s.types.home refl)
    ∙ none_there s.types.own

pub next_other : {T : Type 0} (s : Scope T) (t : TypeNo) (r : Range) → scalar_at s.types t ≡ Some r
    → are_same (next_type s) t ≡ true → ⊥
next_other s t r e same =
    let is : next_type s ≡ t = same_types (next_type s) t same in
    let none : scalar_at s.types t ≡ None = ap (λ (u : TypeNo). scalar_at s.types u) (sym is) ∙ next_none s in
    let clash : Some r ≡ None = sym e ∙ none in
    absurd cc

last_there : (xs : List Made) (x : Made) → scalar_made (slice_get (xs ++ x ∷ []) (length xs)) ≡ scalar_shape x.shape
last_there [] x = refl
last_there (y ∷ xs) x = last_there xs x

pub next_is : {T : Type 0} (s : Scope T) (x : Made)
    → scalar_at (with_shape s x).types (next_type s) ≡ scalar_shape x.shape
next_is s x =
    ap (λ (b : Bool). scalar_made (cond b (slice_get (s.types.own ++ x ∷ []) (length s.types.own))
    (in_list (length s.types.own) (lookup (nat_eq s.types.home) s.types.others))))
    (same_home s.types.home s.types.home refl)
    ∙ last_there s.types.own x

-- ---- ranges

-- numbers of a base that is there
pub sub_range : {T : Type 0} (s : Scope T) → ScopeRanged s → (base : TypeNo) (low high : ℤ)
    → IsNumber s.types base base low → IsNumber s.types base base high → low ≤ℤ high
    → IsRange (next_type s) (record { base = base; low = low; high = high })
sub_range s h base low high p q some =
    let one : IsRange base p.range = range_at s.types h.types base p.range p.at in
    let two : IsRange base q.range = range_at s.types h.types base q.range q.at in
    let same : p.range ≡ q.range = one_range p.range q.range (sym p.at ∙ q.at) in
    let bound : high ≤ℤ p.range.high = subst (λ (r : Range). high ≤ℤ r.high) (sym same) q.high in
    record {
      low = bound_low (negsuc 2147483647) p.range.low low one.low p.low;
      high = bound_low high p.range.high (pos 4294967295) bound one.high;
      some = some;
      narrow = narrower p.range.low low high p.range.high p.low bound one.narrow;
      integer = λ a b. absurd (next_other s base p.range p.at a);
      base = λ a b. absurd (next_other s base p.range p.at a);
    }
  where
    one_range : (a b : Range) → Some a ≡ Some b → a ≡ b
    one_range a b e = cc

    bound_low : (a b c : ℤ) → a ≤ℤ b → b ≤ℤ c → a ≤ℤ c
    bound_low a b c h k = omega (arith, ints, h, k)

    narrower : (a b c d : ℤ) → a ≤ℤ b → c ≤ℤ d → (d -ℤ a) ≤ℤ pos 4294967295 → (c -ℤ b) ≤ℤ pos 4294967295
    narrower a b c d h k l = omega (arith, ints, h, k, l)
