-- The table of a definition.
use Rattle.std.proofs.Common.{◌≡◌, ℕ, suc, ◌<◌, ◌==◌, Bool, true, false, cond, List, [], ◌∷◌, ◌++◌, Option, Some, None, Result, refl, sym, ap, subst, ◌∙◌, arith}
use Rattle.std.proofs.lemmas.Bool.{eqb-true}
use Rattle.std.proofs.lemmas.List.{append-nil}
use Rattle.std.specs.Prelude.{slice_get}
use Rattle.std.specs.List.{AllByRecursion, fold, list_all}
use Rattle.std.specs.Option.{is_some}
use Rattle.m2_rule.specs.declared.rule.Rule.TheVariants as rule
use Rattle.m2_tree.specs.declared.decl.Contents.{Contents}
use Rattle.m2_tree.specs.declared.decl.Contents.TheVariants as contents
use Rattle.m2_tree.specs.declared.decl.Def.{Def}
use Rattle.m2_tree.specs.declared.decl.Module.{Module}
use Rattle.typed_tree.specs.declared.types.Home.{Home}
use Rattle.typed_tree.specs.declared.types.Home.TheVariants as home
use Rattle.typed_tree.specs.declared.shape.Made.{Made}
use Rattle.typed_tree.specs.declared.table.ModuleTypes.{ModuleTypes}
use Rattle.typed_tree.specs.declared.table.Table.{Table}
use Rattle.typed_tree.specs.declared.known_types.Types.{Types}
use Rattle.typed_tree.specs.Known.{in_list, made_in, scalar_from, scalar_made}
use Rattle.check_scope.specs.Elaborated.{Gathers}
use Rattle.check_scope.specs.declared.scope.Scope.{Scope}
use Rattle.check_definition.specs.Predeclared.{console, first_scope}
use Rattle.check_definition.specs.Importing.{numbered_modules}
use Rattle.check_definition.specs.Export.{with_types as reached_with, own_types, reached_of, exports}
use Rattle.check_definition.specs.Compiled.{table_of, declared_in, of_contents, definition_table}
use Rattle.check_body.specs.Own.{types_made_in}
use Rattle.law_well_formed.specs.Formed.{Holds, fine, broken}
use Rattle.law_well_formed.proofs.Basics.{then_holds, reported_holds}
use Rattle.law_well_formed.specs.FormedRanges.{AllBased, OthersBased, ScopeRanged, first_types, fits_def}
use Rattle.law_well_formed.proofs.RangesTypes.{Kept, all_kept, tables_kept}
use Rattle.law_well_formed.proofs.RangesTables.{exports_ranged, reached_ranged}
use Rattle.law_well_formed.proofs.RangesBlocks.{definition_ranged}
use Rattle.law_well_formed.specs.Ordered.{AreOrderedFrom, OthersOrdered, is_known_from}
use Rattle.law_well_formed.proofs.Trees.{at, some_of, itself, append_more}
use Rattle.law_well_formed.specs.FormedOrder.{AllOnce, ScopeOrdered}
use Rattle.law_well_formed.proofs.OrderTypes.{StayKnown, exports_kept}
use Rattle.law_well_formed.proofs.OrderMade.{each_append}
use Rattle.law_well_formed.proofs.OrderTables.{exports_ordered}
use Rattle.law_well_formed.proofs.OrderBlocks.{definition_ordered}
use Rattle.law_well_formed.specs.FormedKnown.{fits_contents, HasReached, entries_of, TableFormed, TablesFormed}
use Rattle.law_well_formed.proofs.Gathered.{each_at, each_more, others_more, Gathered, tables_gathered}
use Rattle.law_well_formed.proofs.KnownBegins.{ScopeFormed, console_formed, not_own, first_formed}

-- two facts of one result
pub holds_two : {A T : Type 0} {P Q : A → Type 0} {r : Result A T} → Holds P r → Holds Q r → Holds (λ x. P x × Q x) r
holds_two (fine x p) (fine _ q) = fine x (p, q)
holds_two (broken e) q = broken e

-- ---- what is reached, each module with its number

abbrev of_entry : ℕ × List Made → ModuleTypes
of_entry e = record { number = e.0; made = e.1 }

module _ (F : ModuleTypes → Type 0) where
  others_all : (es : List (ℕ × List Made)) (so : List ModuleTypes) → AllByRecursion F so
      → AllByRecursion (λ e. F (of_entry e)) es → AllByRecursion F (fold reached_with so es)
  others_all [] so h p = h
  others_all (e ∷ es) so h p = others_all es (reached_with so e) (each_more F so (of_entry e) h p.0) p.1

  own_all : (number : ℕ) (ms : List Made) → F (record { number = number; made = ms })
      → AllByRecursion F (own_types number ms)
  own_all number [] p = tt
  own_all number (m ∷ ms) p = (p, tt)

  all_reached : (types : Types) → AllByRecursion (λ e. F (of_entry e)) types.others
      → F (record { number = types.home; made = types.own }) → AllByRecursion F (reached_of types)
  all_reached types p q = each_append F (fold reached_with [] types.others) (own_types types.home types.own)
      (others_all types.others [] tt p) (own_all types.home types.own q)

  split : (xs ys : List ModuleTypes) → AllByRecursion F (xs ++ ys) → AllByRecursion F xs × AllByRecursion F ys
  split [] ys h = (tt, h)
  split (x ∷ xs) ys h = let k = split xs ys h.1 in ((h.0, k.0), k.1)

  others_split : (es : List (ℕ × List Made)) (so : List ModuleTypes) → AllByRecursion F (fold reached_with so es)
      → AllByRecursion F so × AllByRecursion (λ e. F (of_entry e)) es
  others_split [] so h = (h, tt)
  others_split (e ∷ es) so h = let k = others_split es (reached_with so e) h in
      let l = split so (of_entry e ∷ []) k.0 in (l.0, (l.1.0, k.1))

entries_push : (xs : List ModuleTypes) (e : ℕ × List Made)
    → entries_of (xs ++ of_entry e ∷ []) ≡ entries_of xs ++ e ∷ []
entries_push [] e = refl
entries_push (x ∷ xs) e = ap (λ (es : List (ℕ × List Made)). (x.number, x.made) ∷ es) (entries_push xs e)

entries_others : (es : List (ℕ × List Made)) (so : List ModuleTypes)
    → entries_of (fold reached_with so es) ≡ entries_of so ++ es
entries_others [] so = sym (append-nil (entries_of so))
entries_others (e ∷ es) so = entries_others es (reached_with so e)
    ∙ (ap (λ (xs : List (ℕ × List Made)). xs ++ es) (entries_push so e) ∙ append_more (entries_of so) e es)

entries_both : (xs ys : List ModuleTypes) → entries_of (xs ++ ys) ≡ entries_of xs ++ entries_of ys
entries_both [] ys = refl
entries_both (x ∷ xs) ys = ap (λ (es : List (ℕ × List Made)). (x.number, x.made) ∷ es) (entries_both xs ys)

entries_are : (types : Types) → entries_of (reached_of types) ≡ types.others
    ++ entries_of (own_types types.home types.own)
entries_are types = entries_both (fold reached_with [] types.others) (own_types types.home types.own)
    ∙ ap (λ (es : List (ℕ × List Made)). es ++ entries_of (own_types types.home types.own))
    (entries_others types.others [])

-- ---- types that have what a definition reaches

module _ (a b : Types) (has : HasReached b (reached_of a)) where
  abbrev HasOne : ModuleTypes → Type 0
  HasOne m = (n : ℕ) (x : Made) → slice_get m.made n ≡ Some x → made_in b m.number n ≡ Some x

  parts : AllByRecursion HasOne (fold reached_with [] a.others) × AllByRecursion HasOne (own_types a.home a.own)
  parts = split HasOne (fold reached_with [] a.others) (own_types a.home a.own) has

  own_has : (ms : List Made) → AllByRecursion HasOne (own_types a.home ms) → (n : ℕ) (x : Made)
      → slice_get ms n ≡ Some x → made_in b a.home n ≡ Some x
  own_has [] h n x g = absurd cc
  own_has (m ∷ ms) h n x g = h.0 n x g

  other_has : (k : ℕ) (n : ℕ) (x : Made) (o : Option (List Made)) → at k a.others ≡ o → in_list n o ≡ Some x
      → made_in b k n ≡ Some x
  other_has k n x None e g = absurd cc
  other_has k n x (Some l) e g = each_at (λ (y : ℕ × List Made). HasOne (of_entry y)) a.others
      (others_split HasOne a.others [] parts.0).1 k l e n x g

  made_stays : (k n : ℕ) (x : Made) → made_in a k n ≡ Some x → made_in b k n ≡ Some x
  made_stays k n x g = by (k == a.home) refl g where
    by : (c : Bool) → (k == a.home) ≡ c → cond c (slice_get a.own n) (in_list n (at k a.others)) ≡ Some x
        → made_in b k n ≡ Some x
    by true q h = ap (λ (i : ℕ). made_in b i n) (eqb-true k a.home q) ∙ own_has a.own parts.1 n x h
    by false q h = other_has k n x (at k a.others) refl h

  all_stay : StayKnown a b
  all_stay t e = from t.home t.number e where
    from : (h : Home) (n : ℕ) → is_known_from a h n ≡ true → is_known_from b h n ≡ true
    from home.Predeclared n g = g
    from (home.Module k) n g = let x = some_of (made_in a k n) g in ap is_some (made_stays k n x.0 x.1)

  ranges_kept : Kept a b
  ranges_kept t r e = from t.home t.number e where
    made : (k n : ℕ) (o : Option Made) → made_in a k n ≡ o → scalar_made o ≡ Some r
        → scalar_made (made_in b k n) ≡ Some r
    made k n None q g = absurd cc
    made k n (Some x) q g = ap scalar_made (made_stays k n x q) ∙ g

    from : (h : Home) (n : ℕ) → scalar_from a h n ≡ Some r → scalar_from b h n ≡ Some r
    from home.Predeclared n g = g
    from (home.Module k) n g = made k n (made_in a k n) refl g

  based_entries : (es : List (ℕ × List Made)) → OthersBased a es → AllByRecursion (λ e. AllBased b e.1) es
  based_entries [] h = tt
  based_entries (e ∷ es) h = (all_kept a b ranges_kept e.1 h.0, based_entries es h.1)

-- ---- the table

below_other : (n h : ℕ) → n < h → (n == h) ≡ false
below_other n h l = by (n == h) refl where
  by : (c : Bool) → (n == h) ≡ c → c ≡ false
  by false q = refl
  by true q = let same : n ≡ h = eqb-true n h q in absurd (omega (arith, l, same))

skips : (k : ℕ) (xs ys : List ModuleTypes) → AllByRecursion (λ m. (m.number == k) ≡ false) xs
    → types_made_in k (xs ++ ys) ≡ types_made_in k ys
skips k [] ys h = refl
skips k (x ∷ xs) ys h = ap (λ (b : Bool). cond b x.made (types_made_in k (xs ++ ys))) h.0 ∙ skips k xs ys h.1

own_made : (k : ℕ) (ms : List Made) → types_made_in k (own_types k ms) ≡ ms
own_made k [] = refl
own_made k (m ∷ ms) = ap (λ (b : Bool). cond b (m ∷ ms) []) (itself k)

all_other : (k : ℕ) (types_of : ℕ → List Made) (es : List (ℕ × List Made))
    → AllByRecursion (λ e. (e.0 < k) × (e.1 ≡ types_of e.0)) es → AllByRecursion (λ e. (e.0 == k) ≡ false) es
all_other k types_of [] h = tt
all_other k types_of (e ∷ es) h = (below_other e.0 k h.0.0, all_other k types_of es h.1)

below_more : (types_of : ℕ → List Made) (k : ℕ) (es : List (ℕ × List Made))
    → AllByRecursion (λ e. (e.0 < k) × (e.1 ≡ types_of e.0)) es
    → AllByRecursion (λ e. (e.0 < suc k) × (e.1 ≡ types_of e.0)) es
below_more types_of k [] h = tt
below_more types_of k (e ∷ es) h = ((let l : e.0 < k = h.0.0 in omega (arith, l), h.0.1), below_more types_of k es h.1)

behind : (es : List (ℕ × List Made)) (k : ℕ) (ms : List Made) → OthersOrdered [] es → at k es ≡ None
    → AreOrderedFrom es k [] ms → OthersOrdered [] (es ++ entries_of (own_types k ms))
behind es k [] o f p = subst (λ (xs : List (ℕ × List Made)). OthersOrdered [] xs) (sym (append-nil es)) o
behind es k (m ∷ ms) o f p = others_more es [] k (m ∷ ms) o f p

module _ (g : Gathers) (types_of : ℕ → List Made) (number : ℕ) (ts : List Table) (p : TablesFormed types_of number ts)
    (m : Module) (modules : List (List ℕ × ℕ)) (s : Scope g.Reported) (h : ScopeFormed (first_types number ts) s) where
  its_home : s.types.home ≡ number
  its_home = h.ordered.started.home

  gathered : Gathered types_of number s.types.others
  gathered = subst (λ (es : List (ℕ × List Made)). Gathered types_of number es) (sym h.ordered.started.others)
      (tables_gathered types_of number ts p).gathered

  no_own : at s.types.home s.types.others ≡ None
  no_own = ap (λ (k : ℕ). at k s.types.others) its_home
      ∙ (ap (λ (es : List (ℕ × List Made)). at number es) h.ordered.started.others ∙ not_own types_of number ts p)

  own_is : types_made_in number (reached_of s.types) ≡ s.types.own
  own_is =
      ap (λ (k : ℕ). types_made_in k (reached_of s.types)) (sym its_home)
      ∙ (skips s.types.home (fold reached_with [] s.types.others) (own_types s.types.home s.types.own)
      (others_all (λ (x : ModuleTypes). (x.number == s.types.home) ≡ false) s.types.others [] tt
      (subst (λ (k : ℕ). AllByRecursion (λ (e : ℕ × List Made). (e.0 == k) ≡ false) s.types.others) (sym its_home)
      (all_other number types_of s.types.others gathered.each)))
      ∙ own_made s.types.home s.types.own)

  table_formed : types_made_in number (reached_of s.types) ≡ types_of number
      → TableFormed types_of (suc number) (table_of m modules s)
  table_formed e =
      let own : s.types.own ≡ types_of s.types.home = sym own_is ∙ (e ∙ ap types_of (sym its_home)) in
      let less : s.types.home < suc number = omega (arith, its_home) in
      record {
        reached = all_reached (λ (x : ModuleTypes). (x.number < suc number) × (x.made ≡ types_of x.number)) s.types
            (below_more types_of number s.types.others gathered.each) (less, own);
        ordered = subst (λ (es : List (ℕ × List Made)). OthersOrdered [] es) (sym (entries_are s.types))
            (behind s.types.others s.types.home s.types.own gathered.ordered no_own h.ordered.types.own);
        once = all_reached (λ (x : ModuleTypes). AllOnce x.made) s.types gathered.once h.ordered.once;
        ranged = reached_ranged s.types h.ranged.types;
        based = λ types has. all_reached (λ (x : ModuleTypes). AllBased types x.made) s.types
            (based_entries s.types types has s.types.others h.ranged.others)
            (all_kept s.types types (ranges_kept s.types types has) s.types.own h.ranged.own);
        exports = λ types has. (
          exports_kept s.types types (all_stay s.types types has) (exports s.own)
              (exports_ordered (first_types number ts) s h.ordered),
          (tables_kept s.types types (ranges_kept s.types types has) (table_of m modules s ∷ [])
              (exports_ranged s h.ranged, tt)).0,
        );
      }

module _ (g : Gathers) (types_of : ℕ → List Made) (number : ℕ) (m : Module) where
  abbrev IsFormedTable : Table → Type 0
  IsFormedTable t = (t.number ≡ number) ×
      (types_made_in number t.reached ≡ types_of number → TableFormed types_of (suc number) t)

  definition_formed : (ts : List Table) → TablesFormed types_of number ts → (ds : List Def)
      → list_all fits_def ds ≡ true → Holds (λ x. ScopeFormed (first_types number ts)
      (declared_in g m (numbered_modules ts).0 (first_scope number ts) ds).0)
      (declared_in g m (numbered_modules ts).0 (first_scope number ts) ds).1
  definition_formed ts p ds e =
      let s : ScopeFormed (first_types number ts) (first_scope {T = g.Reported} number ts) =
      first_formed types_of number ts p in
      then_two (definition_ranged g m (numbered_modules ts).0 (first_scope number ts) ds e s.ranged)
      (definition_ordered (first_types number ts) g m (numbered_modules ts).0 (first_scope number ts) ds s.ordered)
    where
      then_two : {A T : Type 0} {base : Types} {s : Scope T} {r : Result A T} → Holds (λ x. ScopeRanged s) r
          → Holds (λ x. ScopeOrdered base s) r → Holds (λ x. ScopeFormed base s) r
      then_two (fine x a) (fine _ b) = fine x (record { ranged = a; ordered = b })
      then_two (broken e) b = broken e

  contents_formed : (ts : List Table) → TablesFormed types_of number ts → (c : Contents) → fits_contents c ≡ true
      → Holds IsFormedTable (of_contents g number m ts c)
  contents_formed ts p (contents.Definition ds) e =
      then_holds (definition_formed ts p ds e)
      (λ x h. fine _ (
        h.ordered.started.home,
        λ k. table_formed g types_of number ts p m (numbered_modules ts).0
            (declared_in g m (numbered_modules ts).0 (first_scope number ts) ds).0 h k,
      ))
  contents_formed ts p (contents.Implementation b) e = reported_holds g m.name.pos rule.LonelyModule
  contents_formed ts p (contents.Program b) e = reported_holds g m.name.pos rule.LonelyModule

  pub tables_formed : (ts : List Table) → fits_contents m.contents ≡ true → TablesFormed types_of number ts
      → Holds IsFormedTable (definition_table g number m ts)
  tables_formed ts e p = contents_formed (ts ++ console ∷ [])
      (each_more (TableFormed types_of number) ts console p (console_formed types_of number)) m.contents e
