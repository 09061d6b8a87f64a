-- The types that tables reach, each module's once, and in order.
use Rattle.std.proofs.Common.{◌≡◌, ℕ, ◌<◌, ◌==◌, Bool, true, false, cond, List, [], ◌∷◌, ◌++◌, Option, Some, None, refl, sym, ap, subst, ◌∙◌}
use Rattle.std.proofs.lemmas.Bool.{eqb-true}
use Rattle.std.proofs.lemmas.List.{append-nil}
use Rattle.std.specs.Prelude.{slice_get, nat_eq, if◌then◌else◌}
use Rattle.std.specs.List.{AllByRecursion, fold}
use Rattle.std.specs.Option.{is_some}
use Rattle.indexmap.specs.IndexMap.{insert_entry}
use Rattle.typed_tree.specs.declared.types.Home.{Home}
use Rattle.typed_tree.specs.declared.types.Home.TheVariants.{Predeclared, Module}
use Rattle.typed_tree.specs.declared.types.TypeNo.{TypeNo}
use Rattle.typed_tree.specs.declared.shape.Made.{Made}
use Rattle.typed_tree.specs.declared.table.ModuleTypes.{ModuleTypes}
use Rattle.typed_tree.specs.declared.table.Table.{Table}
use Rattle.typed_tree.specs.declared.known_types.Types.{Types}
use Rattle.typed_tree.specs.Known.{in_list, made_in}
use Rattle.check_definition.specs.Predeclared.{with_reached, with_table, others_of}
use Rattle.check_body.specs.Own.{types_made_in}
use Rattle.law_well_formed.specs.FormedRanges.{AllBased, OthersBased}
use Rattle.law_well_formed.specs.Ordered.{named_by, is_known_from, is_known, AreKnown, AreOrderedFrom, OthersOrdered}
use Rattle.law_well_formed.proofs.Trees.{at, at_more, at_behind, at_first, append_more, made_by, Placed, placed_from, some_of, in_some}
use Rattle.law_well_formed.proofs.Cells.{made_within, follows_stays}
use Rattle.law_well_formed.specs.FormedOrder.{AllOnce}
use Rattle.law_well_formed.specs.FormedKnown.{HasReached, entries_of, TablesFormed}

-- ---- lists of modules

pub each_at : (F : ℕ × List Made → Type 0) (es : List (ℕ × List Made)) → AllByRecursion F es → (k : ℕ) (l : List Made)
    → at k es ≡ Some l → F (k, l)
each_at F [] h k l q = absurd cc
each_at F (e ∷ es) h k l q = by (nat_eq k e.0) refl (each_at F es h.1 k l) q where
  by : (b : Bool) → nat_eq k e.0 ≡ b → (at k es ≡ Some l → F (k, l)) → cond b (Some e.1) (at k es) ≡ Some l → F (k, l)
  by true r on g = let same : e.1 ≡ l = cc in
      subst (λ (x : List Made). F (k, x)) same (subst (λ (i : ℕ). F (i, e.1)) (sym (eqb-true k e.0 r)) h.0)
  by false r on g = on g

-- each module of the first is in the second, with the same types
abbrev pub Within : List (ℕ × List Made) → List (ℕ × List Made) → Type 0
Within before so = (k : ℕ) (l : List Made) → at k before ≡ Some l → at k so ≡ Some l

within_more : (before now : List (ℕ × List Made)) (k : ℕ) (ms : List Made) → Within before now → at k now ≡ Some ms
    → Within (before ++ (k, ms) ∷ []) now
within_more before now k ms w e = λ j l q. by j l (at j before) refl q where
  last : (j : ℕ) (l : List Made) (b : Bool) → nat_eq j k ≡ b → cond b (Some ms) None ≡ Some l → at j now ≡ Some l
  last j l true r g = ap (λ (i : ℕ). at i now) (eqb-true j k r) ∙ e ∙ g
  last j l false r g = absurd cc

  by : (j : ℕ) (l : List Made) (o : Option (List Made)) → at j before ≡ o → at j (before ++ (k, ms) ∷ []) ≡ Some l
      → at j now ≡ Some l
  by j l None f g = last j l (nat_eq j k) refl (sym (at_behind j before ((k, ms) ∷ []) f) ∙ g)
  by j l (Some x) f g = w j x f ∙ sym (at_more j before ((k, ms) ∷ []) x f) ∙ g

known_within : (before so : List (ℕ × List Made)) → Within before so → (h : ℕ) (own : List Made) (u : TypeNo)
    → is_known (made_by h own before) u ≡ true → is_known (made_by h own so) u ≡ true
known_within before so w h own u e = from u.home u.number e where
  there : (k n : ℕ) → is_some (in_list n (at k before)) ≡ true → is_some (in_list n (at k so)) ≡ true
  there k n g =
      let x = some_of (at k before) (in_some n (at k before) g) in
      ap (λ (o : Option (List Made)). is_some (in_list n o)) (w k x.0 x.1)
      ∙ (sym (ap (λ (o : Option (List Made)). is_some (in_list n o)) x.1) ∙ g)

  by : (k n : ℕ) (b : Bool) → is_some (cond b (slice_get own n) (in_list n (at k before))) ≡ true
      → is_some (cond b (slice_get own n) (in_list n (at k so))) ≡ true
  by k n true g = g
  by k n false g = there k n g

  from : (home : Home) (n : ℕ) → is_known_from (made_by h own before) home n ≡ true
      → is_known_from (made_by h own so) home n ≡ true
  from Predeclared n g = g
  from (Module k) n g = by k n (k == h) g

pub ordered_within : (before so : List (ℕ × List Made)) → Within before so → (h : ℕ) (ms own : List Made)
    → AreOrderedFrom before h own ms → AreOrderedFrom so h own ms
ordered_within before so w h [] own o = tt
ordered_within before so w h (m ∷ ms) own o = (
  follows_stays (made_by h own before) (made_by h own so) (made_within before so w h own)
      (known_within before so w h own) m o.0,
  ordered_within before so w h ms (own ++ m ∷ []) o.1,
)

-- a further module behind those that are in order
pub others_more : (so before : List (ℕ × List Made)) (k : ℕ) (ms : List Made) → OthersOrdered before so
    → at k (before ++ so) ≡ None → AreOrderedFrom (before ++ so) k [] ms → OthersOrdered before (so ++ (k, ms) ∷ [])
others_more [] before k ms h f o = (
  subst (λ (es : List (ℕ × List Made)). at k es ≡ None) (append-nil before) f,
  (subst (λ (es : List (ℕ × List Made)). AreOrderedFrom es k [] ms) (append-nil before) o, tt),
)
others_more (x ∷ so) before k ms h f o = (
  h.0,
  (
    h.1.0,
    others_more so (before ++ x ∷ []) k ms h.1.1
        (subst (λ (es : List (ℕ × List Made)). at k es ≡ None) (sym (append_more before x so)) f)
        (subst (λ (es : List (ℕ × List Made)). AreOrderedFrom es k [] ms) (sym (append_more before x so)) o),
  ),
)

pub each_more : {X : Type 0} (F : X → Type 0) (xs : List X) (x : X) → AllByRecursion F xs → F x
    → AllByRecursion F (xs ++ x ∷ [])
each_more F [] x h p = (p, tt)
each_more F (y ∷ xs) x h p = (h.0, each_more F xs x h.1 p)

insert_new : (so : List (ℕ × List Made)) (n : ℕ) (ms : List Made) → at n so ≡ None
    → insert_entry nat_eq so n ms ≡ so ++ (n, ms) ∷ []
insert_new [] n ms e = refl
insert_new (x ∷ so) n ms e = by (nat_eq n x.0) (insert_new so n ms) e where
  by : (b : Bool) → (at n so ≡ None → insert_entry nat_eq so n ms ≡ so ++ (n, ms) ∷ [])
      → cond b (Some x.1) (at n so) ≡ None → (if b then (x.0, ms) ∷ so else x ∷ insert_entry nat_eq so n ms) ≡ x
      ∷ (so ++ (n, ms) ∷ [])
  by true on g = absurd cc
  by false on g = ap (λ (es : List (ℕ × List Made)). x ∷ es) (on g)

-- ---- all that tables reach

abbrev pub Reaches : List (ℕ × List Made) → List ModuleTypes → Type 0
Reaches now ms = AllByRecursion (λ m. at m.number now ≡ Some m.made) ms

reaches_more : (so now : List (ℕ × List Made)) → Within so now → (ms : List ModuleTypes) → Reaches so ms
    → Reaches now ms
reaches_more so now w [] h = tt
reaches_more so now w (m ∷ ms) h = (w m.number m.made h.0, reaches_more so now w ms h.1)

module _ (types_of : ℕ → List Made) (below : ℕ) where
  pub record Gathered (so : List (ℕ × List Made)) : Type 0 where
    pub ordered : OthersOrdered [] so
    pub each : AllByRecursion (λ e. (e.0 < below) × (e.1 ≡ types_of e.0)) so
    pub once : AllByRecursion (λ e. AllOnce e.1) so

  record Step (so now : List (ℕ × List Made)) (m : ModuleTypes) : Type 0 where
    gathered : Gathered now
    within : Within so now
    there : at m.number now ≡ Some m.made

  step : (before so : List (ℕ × List Made)) (m : ModuleTypes) → Within before so → Gathered so → (m.number < below)
      × (m.made ≡ types_of m.number) → AllOnce m.made → AreOrderedFrom before m.number [] m.made
      → Step so (with_reached so m) m
  step before so m w g r n o = by (at m.number so) refl where
    new : at m.number so ≡ None → Step so (so ++ (m.number, m.made) ∷ []) m
    new e = record {
      gathered = record {
        ordered = others_more so [] m.number m.made g.ordered e (ordered_within before so w m.number m.made [] o);
        each = each_more (λ (x : ℕ × List Made). (x.0 < below) × (x.1 ≡ types_of x.0)) so (m.number, m.made) g.each r;
        once = each_more (λ (x : ℕ × List Made). AllOnce x.1) so (m.number, m.made) g.once n;
      };
      within = λ k l q. at_more k so ((m.number, m.made) ∷ []) l q;
      there = at_behind m.number so ((m.number, m.made) ∷ []) e ∙ at_first m.number m.made [];
    }

    by : (x : Option (List Made)) → at m.number so ≡ x
        → Step so (cond (is_some x) so (insert_entry nat_eq so m.number m.made)) m
    by None e = subst (λ (now : List (ℕ × List Made)). Step so now m) (sym (insert_new so m.number m.made e)) (new e)
    by (Some l) e =
        let k = each_at (λ (x : ℕ × List Made). (x.0 < below) × (x.1 ≡ types_of x.0)) so g.each m.number l e in
        record { gathered = g; within = λ k l q. q; there = e ∙ ap Some (k.1 ∙ sym r.1) }

  record AllSteps (so now : List (ℕ × List Made)) (ms : List ModuleTypes) : Type 0 where
    gathered : Gathered now
    within : Within so now
    there : Reaches now ms

  steps : (ms : List ModuleTypes) (before so : List (ℕ × List Made)) → OthersOrdered before (entries_of ms)
      → Within before so → Gathered so → AllByRecursion (λ m. (m.number < below) × (m.made ≡ types_of m.number)) ms
      → AllByRecursion (λ m. AllOnce m.made) ms → AllSteps so (fold with_reached so ms) ms
  steps [] before so o w g r n = record { gathered = g; within = λ k l q. q; there = tt }
  steps (m ∷ ms) before so o w g r n =
      let s : Step so (with_reached so m) m = step before so m w g r.0 n.0 o.1.0 in
      let rest : AllSteps (with_reached so m) (fold with_reached (with_reached so m) ms) ms
      = steps ms (before ++ (m.number, m.made) ∷ []) (with_reached so m) o.1.1
      (within_more before (with_reached so m) m.number m.made (λ k l q. s.within k l (w k l q)) s.there) s.gathered
      r.1 n.1 in
      record {
        gathered = rest.gathered;
        within = λ k l q. rest.within k l (s.within k l q);
        there =
            (rest.within m.number m.made s.there, rest.there);
      }

  pub record AllGathered (so now : List (ℕ × List Made)) (ts : List Table) : Type 0 where
    pub gathered : Gathered now
    pub within : Within so now
    pub there : AllByRecursion (λ t. Reaches now t.reached) ts

  all_steps : (ts : List Table) (so : List (ℕ × List Made)) → Gathered so → TablesFormed types_of below ts
      → AllGathered so (fold with_table so ts) ts
  all_steps [] so g p = record { gathered = g; within = λ k l q. q; there = tt }
  all_steps (t ∷ ts) so g p =
      let s : AllSteps so (with_table so t) t.reached =
      steps t.reached [] so p.0.ordered (λ k l q. absurd cc) g p.0.reached p.0.once in
      let rest : AllGathered (with_table so t) (fold with_table (with_table so t) ts) ts =
      all_steps ts (with_table so t) s.gathered p.1 in
      record {
        gathered = rest.gathered;
        within = λ k l q. rest.within k l (s.within k l q);
        there = (
          reaches_more (with_table so t) (fold with_table (with_table so t) ts) rest.within t.reached s.there,
          rest.there,
        );
      }

  pub tables_gathered : (ts : List Table) → TablesFormed types_of below ts → AllGathered [] (others_of ts) ts
  tables_gathered ts p = all_steps ts [] (record { ordered = tt; each = tt; once = tt }) p

-- ---- what is so of all that is reached

module _ (F : ℕ × List Made → Type 0) where
  reached_each : (so : List (ℕ × List Made)) (m : ModuleTypes) → AllByRecursion F so → F (m.number, m.made)
      → AllByRecursion F (with_reached so m)
  reached_each so m h p = by (at m.number so) refl where
    by : (x : Option (List Made)) → at m.number so ≡ x
        → AllByRecursion F (cond (is_some x) so (insert_entry nat_eq so m.number m.made))
    by None e = subst (λ (now : List (ℕ × List Made)). AllByRecursion F now) (sym (insert_new so m.number m.made e))
        (each_more F so (m.number, m.made) h p)
    by (Some l) e = h

  table_each : (ms : List ModuleTypes) (so : List (ℕ × List Made)) → AllByRecursion F so
      → AllByRecursion (λ m. F (m.number, m.made)) ms → AllByRecursion F (fold with_reached so ms)
  table_each [] so h p = h
  table_each (m ∷ ms) so h p = table_each ms (with_reached so m) (reached_each so m h p.0) p.1

  pub tables_each : (ts : List Table) (so : List (ℕ × List Made)) → AllByRecursion F so
      → AllByRecursion (λ t. AllByRecursion (λ m. F (m.number, m.made)) t.reached) ts
      → AllByRecursion F (fold with_table so ts)
  tables_each [] so h p = h
  tables_each (t ∷ ts) so h p = tables_each ts (with_table so t) (table_each t.reached so h p.0) p.1

pub others_based : (types : Types) (es : List (ℕ × List Made)) → AllByRecursion (λ e. AllBased types e.1) es
    → OthersBased types es
others_based types [] h = tt
others_based types (e ∷ es) h = (h.0, others_based types es h.1)

-- what is so of each module that is reached, is so of one
pub made_each : (F : ℕ → List Made → Type 0) (k : ℕ) → F k [] → (ms : List ModuleTypes)
    → AllByRecursion (λ m. F m.number m.made) ms → F k (types_made_in k ms)
made_each F k none [] h = none
made_each F k none (m ∷ ms) h = by (m.number == k) refl (made_each F k none ms h.1) where
  by : (b : Bool) → (m.number == k) ≡ b → F k (types_made_in k ms) → F k (cond b m.made (types_made_in k ms))
  by true e on = subst (λ (i : ℕ). F i m.made) (eqb-true m.number k e) h.0
  by false e on = on

-- ---- types that have all that is reached

-- the own types begin with those that are known of the module
abbrev pub HasOwn : Types → Type 0
HasOwn types = (l : List Made) → at types.home types.others ≡ Some l → (n : ℕ) (x : Made) → slice_get l n ≡ Some x
    → slice_get types.own n ≡ Some x

module _ (types : Types) (alike : HasOwn types) where
  pub made_there : (k : ℕ) (l : List Made) → at k types.others ≡ Some l → (n : ℕ) (x : Made) → slice_get l n ≡ Some x
      → made_in types k n ≡ Some x
  made_there k l e n x g = by (k == types.home) refl where
    by : (b : Bool) → (k == types.home) ≡ b → cond b (slice_get types.own n) (in_list n (at k types.others)) ≡ Some x
    by true q = alike l (ap (λ (i : ℕ). at i types.others) (sym (eqb-true k types.home q)) ∙ e) n x g
    by false q = ap (λ (o : Option (List Made)). in_list n o) e ∙ g

  pub has_reached : (ms : List ModuleTypes) → Reaches types.others ms → HasReached types ms
  has_reached [] h = tt
  has_reached (m ∷ ms) h = (λ n x g. made_there m.number m.made h.0 n x g, has_reached ms h.1)

  pub all_have : (ts : List Table) → AllByRecursion (λ t. Reaches types.others t.reached) ts
      → AllByRecursion (λ t. HasReached types t.reached) ts
  all_have [] h = tt
  all_have (t ∷ ts) h = (has_reached t.reached h.0, all_have ts h.1)

-- a module that is reached stands in order among all
pub reached_ordered : (so : List (ℕ × List Made)) → OthersOrdered [] so → (ms : List ModuleTypes) → Reaches so ms
    → AllByRecursion (λ m. AreOrderedFrom so m.number [] m.made) ms
reached_ordered so o [] h = tt
reached_ordered so o (m ∷ ms) h =
    let p : Placed so m.number m.made = placed_from [] so m.number m.made o refl h.0 in (
      ordered_within p.before so (λ k l q. ap (λ (es : List (ℕ × List Made)). at k es) p.is
          ∙ at_more k p.before ((m.number, m.made) ∷ p.rest) l q) m.number m.made [] p.ordered,
      reached_ordered so o ms h.1,
    )
