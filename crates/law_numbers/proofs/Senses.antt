-- What names mean behind the declarations of a block, by number.
use Rattle.std.proofs.Common.{◌≡◌, ℕ, zero, suc, ◌+◌, ◌==◌, ◌≤◌, ◌<◌, Bool, true, false, List, [], ◌∷◌, ◌++◌, length, Option, Some, None, Result, Ok, ◌⊎◌, inl, inr, refl, sym, ap, subst, ◌∙◌}
use Rattle.std.specs.Prelude.{map, slice_get, not}
use Rattle.m2_tree.specs.declared.name.Ident.{Ident}
use Rattle.m2_tree.specs.declared.pos.Pos.{Pos}
use Rattle.m2_tree.specs.declared.decl.Heading.{Heading}
use Rattle.m2_tree.specs.declared.decl.Variables.{Variables}
use Rattle.m2_tree.specs.declared.decl.Block.{Block}
use Rattle.m2_tree.specs.declared.decl.Decl.{Decl, Decl-F, out-Decl}
use Rattle.m2_tree.specs.declared.decl.Decl.TheOpen as layer
use Rattle.typed_tree.specs.declared.types.TypeNo.{TypeNo}
use Rattle.typed_tree.specs.declared.meaning.LocalKind.TheVariants as kind
use Rattle.typed_tree.specs.declared.meaning.Meaning.{Meaning}
use Rattle.typed_tree.specs.declared.meaning.Meaning.TheVariants as meaning
use Rattle.typed_tree.specs.declared.meaning.Procedure.{Procedure as ModuleProcedure}
use Rattle.typed_tree.specs.Names.{find_name}
use Rattle.check_scope.specs.declared.known.Known.{Known as Entered}
use Rattle.check_scope.specs.declared.known.Known.TheVariants.{Headed, Declared}
use Rattle.check_scope.specs.declared.known.Origin.TheVariants.{Here}
use Rattle.check_scope.specs.declared.meaningless.Meaningless.{Meaningless}
use Rattle.check_scope.specs.declared.scope.OpenedRecord.{OpenedRecord}
use Rattle.check_scope.specs.declared.scope.Block.{Block as Around}
use Rattle.check_scope.specs.declared.scope.Scope.{Scope}
use Rattle.check_scope.specs.Elaborated.{Gathers}
use Rattle.check_scope.specs.Scopes.{Sight, or_around, known_outside, means_seen, means_as, means_or, open_field, looked_up}
use Rattle.check_block.specs.declared.heading.Standing.TheVariants.{Taken}
use Rattle.check_block.specs.Headings.{standing_from}
use Rattle.check_block.specs.Declarations.{declared_block}
use Rattle.def_typing.specs.Things.{AVariable, Standing, Known}
use Rattle.def_typing.specs.Parts.{Among, here, later, Named}
use Rattle.def_typing.specs.Declarations as rules
use Rattle.def_typing.specs.Declarations.{Declaration, OfConstant, OfType, OfVariables, OfProcedure, names_of, declared_by, declarations_of, in_order, in_front_of, without, Declared as Resolved, Says, IsNamed, Means, StandsFor, AllStand}
use Rattle.def_typing.specs.TypeExprs.{Added, Setting, next_type}
use Rattle.def_typing.specs.Bodies.{Place}
use Rattle.def_typed.specs.Named.{named, named_by}
use Rattle.def_typed.specs.Numbers.{variables_by, variables_in, variable_at, headings_by, headings_in, unless_awaited, new_headings, nested_by, next_nested, nested_numbers}
use Rattle.def_typed.specs.Blocks.{StandsWithoutCode, Before, MeansBehind, from_outside, a_variable, of_module, of_procedure, without_code}
use Rattle.law_typing.specs.Judging.{Judges}
use Rattle.law_typing.specs.Exact.{of_local, standing, Sees, sees, sees_nothing, sees_headless, sees_unknown, Knows, TakenAs, is_taken, awaits, is_a_heading, not_taken, IsAsBefore, as_before, has_heading, is_nested}
use Rattle.law_typing.proofs.Combining.{Lawful}
use Rattle.law_typing.proofs.Blocks.{block_answers}
use Rattle.law_numbers.specs.Numbered.{Entry, AreNumbered}
use Rattle.law_numbers.specs.Sensed.{Begins, AreSensed, SensesAreKnown}
use Rattle.law_numbers.proofs.Blocks.{headed, block_numbered}
use Rattle.law_numbers.proofs.Finding.{heading_there, new_number_there, headings_count, heading_of_module, nested_in}

-- ---- places in lists

among_left : {A : Type 0} {x : A} {xs : List A} (ys : List A) → Among x xs → Among x (xs ++ ys)
among_left ys here = here
among_left ys (later m) = later (among_left ys m)

among_right : {A : Type 0} {x : A} (xs : List A) {ys : List A} → Among x ys → Among x (xs ++ ys)
among_right [] m = m
among_right (z ∷ xs) m = later (among_right xs m)

among_both : {A : Type 0} {x : A} (xs ys : List A) → Among x (xs ++ ys) → Among x xs ⊎ Among x ys
among_both [] ys m = inr m
among_both (z ∷ xs) ys here = inl here
among_both (z ∷ xs) ys (later m) = elim (among_both xs ys m) [ inl a ↦ inl (later a) | inr b ↦ inr b ]

place_of : {A : Type 0} {x : A} {xs : List A} → Among x xs → (i : ℕ) × (slice_get xs i ≡ Some x)
place_of here = (zero, refl)
place_of (later m) = let r = place_of m in (suc r.0, r.1)

-- ---- of declarations

variables_there : {v : Variables} {x : Ident} (ds : List Declaration) → Among (OfVariables v) ds → Among x v.names
    → Among x (variables_in ds)
variables_there [] m n = elim m [ ]
variables_there (_ ∷ ds) here n = among_left (variables_in ds) n
variables_there (d ∷ ds) (later m) n = among_right (variables_by d) (variables_there ds m n)

mapped : {A : Type 0} {y : Declaration} (f : A → Declaration) (xs : List A) → Among y (map f xs) → (a : A) × (y ≡ f a)
mapped f [] m = elim m [ ]
mapped f (x ∷ xs) here = (x, refl)
mapped f (x ∷ xs) (later m) = mapped f xs m

only : {A : Type 0} {x y : A} → Among x (y ∷ []) → x ≡ y
only here = refl
only (later m) = elim m [ ]

same_heading : {h k : Heading} → OfProcedure h ≡ OfProcedure k → h ≡ k
same_heading e = cc

headed_by : {h : Heading} (y : Decl-F Decl Block) → Among (OfProcedure h) (declared_by y) → Among h (headings_by y)
headed_by (layer.Constants cs) m = let r = mapped OfConstant cs m in let e = r.1 in absurd cc
headed_by (layer.Types ts) m = let r = mapped OfType ts m in let e = r.1 in absurd cc
headed_by (layer.Variables vs) m = let r = mapped OfVariables vs m in let e = r.1 in absurd cc
headed_by {h = h} (layer.Procedure x b) m = subst (λ (k : Heading). Among h (k ∷ [])) (same_heading (only m)) here

pub headings_there : {h : Heading} (ds : List Decl) → Among (OfProcedure h) (declarations_of ds)
    → Among h (headings_in ds)
headings_there [] m = elim m [ ]
headings_there (d ∷ ds) m = elim (among_both (declared_by (out-Decl d)) (declarations_of ds) m) [
  | inl a ↦ among_left (headings_in ds) (headed_by (out-Decl d) a)
  | inr b ↦ among_right (headings_by (out-Decl d)) (headings_there ds b)
]

nested_there_by : {h : Heading} (n : ℕ) (y : Decl-F Decl Block) → Among (OfProcedure h) (declared_by y) → (k : ℕ)
    × Among (h, k) (nested_by n y)
nested_there_by n (layer.Constants cs) m = let r = mapped OfConstant cs m in let e = r.1 in absurd cc
nested_there_by n (layer.Types ts) m = let r = mapped OfType ts m in let e = r.1 in absurd cc
nested_there_by n (layer.Variables vs) m = let r = mapped OfVariables vs m in let e = r.1 in absurd cc
nested_there_by {h = h} n (layer.Procedure x b) m =
    (n, subst (λ (k : Heading). Among {A = Heading × ℕ} (h, n) ((k, n) ∷ [])) (same_heading (only m)) here)

nested_there : {h : Heading} (ds : List Decl) (n : ℕ) → Among (OfProcedure h) (declarations_of ds) → (k : ℕ)
    × Among (h, k) (nested_numbers n ds)
nested_there [] n m = elim m [ ]
nested_there (d ∷ ds) n m = elim (among_both (declared_by (out-Decl d)) (declarations_of ds) m) [
  | inl a ↦ let r = nested_there_by n (out-Decl d) a in
      (r.0, among_left (nested_numbers (next_nested n (out-Decl d)) ds) r.1)
  | inr b ↦ let r = nested_there ds (next_nested n (out-Decl d)) b in (r.0, among_right (nested_by n (out-Decl d)) r.1)
]

new_there : {h : Heading} (awaited : List ℕ → Option TypeNo) (hs : List Heading) → awaited h.name.name ≡ None
    → Among h hs → Among h (new_headings awaited hs)
new_there awaited [] e m = elim m [ ]
new_there awaited (h ∷ hs) e here = subst
    (λ (o : Option TypeNo). Among h (unless_awaited o h (new_headings awaited hs))) (sym e) here
new_there {h = h} awaited (k ∷ hs) e (later m) = by_awaited (awaited k.name.name) (new_there awaited hs e m)
  where
    by_awaited : (o : Option TypeNo) → Among h (new_headings awaited hs)
        → Among h (unless_awaited o k (new_headings awaited hs))
    by_awaited None m = later m
    by_awaited (Some t) m = m

-- a declaration that is named stands in the text
named_there : {n : List ℕ} {d : Resolved} {before front : List Resolved} → IsNamed n d before front
    → Among d.what (in_order front)
named_there {d = d} {before = before} (rules.nearest i n) = among_right (in_order before) here
named_there (rules.farther {x = x} {front = front} i) = among_left (x.what ∷ []) (named_there i)

-- ---- standings without code

front_no_code : (d : Declaration) → StandsWithoutCode (in_front_of d)
front_no_code (OfConstant c) = tt
front_no_code (OfType d) = tt
front_no_code (OfVariables v) = tt
front_no_code (OfProcedure h) = tt

broken_no_code : (b : Bool) (d : Declaration) → StandsWithoutCode (without b d)
broken_no_code b (OfConstant c) = tt
broken_no_code b (OfType d) = tt
broken_no_code b (OfVariables v) = tt
broken_no_code b (OfProcedure h) = tt

pub no_code : (l : ℕ) (m : Meaning) → StandsWithoutCode (standing m) → None ≡ named_by l m
no_code l (meaning.Constant v) h = refl
no_code l (meaning.Type t n) h = refl
no_code l (meaning.Variable v) h = absurd h
no_code l (meaning.Local v) h = by_kind v.kind h
  where
    by_kind : (k : _) → StandsWithoutCode (of_local v.of k) → None ≡ named_by l (meaning.Local v)
    by_kind kind.Variable h = absurd h
    by_kind kind.Value h = absurd h
    by_kind kind.Alias h = absurd h
    by_kind kind.Open h = absurd h
no_code l (meaning.Field f) h = absurd h
no_code l (meaning.Procedure p) h = absurd h
no_code l (meaning.LocalProcedure p) h = absurd h
no_code l meaning.Ahead h = refl
no_code l (meaning.Standard f) h = refl
no_code l (meaning.Module k) h = absurd h

pub variable_stands : (b : Bool) (home level n : ℕ) (t : TypeNo)
    → standing (variable_at b home level n t) ≡ Known (AVariable t)
variable_stands true home level n t = refl
variable_stands false home level n t = refl

-- ---- what awaits its heading

module _ {g : Gathers} {j : Judges g} where
  pub awaits_as : {b : Bool} {u : Option TypeNo} {o : Option (Entered g.Reported)} → TakenAs g j b u o
      → (p : ModuleProcedure) → o ≡ Some (Declared Here (Ok (meaning.Procedure p))) → u ≡ Some p.heading
  awaits_as (is_taken s) p e = by_standing s e
    where
      by_standing : {u : _} {m : Result Meaning g.Reported} → standing_from u m ≡ Taken
          → ◌≡◌ {A = Option (Entered g.Reported)} (Some (Declared u m))
          (Some (Declared Here (Ok (meaning.Procedure p)))) → None ≡ Some p.heading
      by_standing s e = absurd cc
  awaits_as (awaits q) p e = let z : q ≡ p = cc e in ap (λ (p : ModuleProcedure). Some p.heading) z
  awaits_as is_a_heading p e = absurd cc
  awaits_as not_taken p e = absurd cc

  waits_as : {b : Bool} {u : Option TypeNo} {o : Option (Entered g.Reported)} → TakenAs g j b u o → (t : TypeNo)
      → u ≡ Some t → (p : ModuleProcedure) × (o ≡ Some (Declared Here (Ok (meaning.Procedure p))))
  waits_as (is_taken s) t e = absurd cc
  waits_as (awaits p) t e = (p, refl)
  waits_as is_a_heading t e = absurd cc
  waits_as not_taken t e = absurd cc

  free_as : {b : Bool} {u : Option TypeNo} {o : Option (Entered g.Reported)} → TakenAs g j b u o → b ≡ false → u ≡ None
  free_as (is_taken s) e = absurd cc
  free_as (awaits p) e = absurd cc
  free_as is_a_heading e = absurd cc
  free_as not_taken e = refl

module _ (g : Gathers) (j : Judges g) where
  sees_ok : {at : Pos} {s : Standing} {r : Result Meaning (Meaningless g.Reported)} (m : Meaning) → Sees g j at s r
      → r ≡ Ok m → s ≡ standing m
  sees_ok m (sees n) e = let q : n ≡ m = cc e in ap standing q
  sees_ok m sees_nothing e = absurd cc
  sees_ok m (sees_headless b r) e = absurd cc
  sees_ok m (sees_unknown r) e = absurd cc

  abbrev Looks : Type 0
  Looks = Result Meaning (Meaningless g.Reported)

  looked_plain : (t : Scope g.Reported) → t.withs ≡ [] → (name : Ident)
      → looked_up g t name ≡ means_as g name.pos
      (or_around (find_name name.name t.own) (known_outside name.name t.outer))
  looked_plain t w name = ap (λ (ws : List OpenedRecord). means_or (open_field t.types name.name ws)
      (means_as g name.pos (or_around (find_name name.name t.own) (known_outside name.name t.outer)))) w

  before_means : (at : Pos) (far : Sight g.Reported) {a b : Option (Entered g.Reported)} → IsAsBefore a b
      → ◌≡◌ {A = Looks} (means_as g at (or_around b far)) (means_as g at (or_around a far))
  before_means at far as_before = refl
  before_means at far (has_heading p) = refl

-- ---- what stands under the name of a heading

module _ (g : Gathers) (j : Judges g) (exports : ℕ → Ident → Standing) (p : Place) (q : Before) (s : Scope g.Reported)
    (ends : List ℕ) (ds : List Decl) (b : Begins g j exports p q s ends ds)
    (fine : (declared_block g ends (s, Ok tt) q.nested ds).1 ≡ Ok tt) where
  abbrev Behind : Scope g.Reported
  Behind = (declared_block g ends (s, Ok tt) q.nested ds).0

  abbrev outermost_there : {o : Bool} → (q.level == 0) ≡ o → (s.level == 0) ≡ o
  outermost_there e = ap (λ (l : ℕ). l == 0) b.of_level ∙ e

  pub module_entry : (q.level == 0) ≡ true → (h : Heading) → Among h (headings_in ds) → (a : ModuleProcedure)
      × Entry Behind h.name.name (Headed (Ok (meaning.Procedure a)))
  module_entry l h i = heading_there s.types.home s.level ends s Behind (outermost_there l)
      (block_numbered g ends s q.nested ds fine).headings h i

  pub new_entry : (q.level == 0) ≡ true → (k : ℕ) → length s.procedures ≤ k → k < length Behind.procedures
      → (h : Heading) × Among h (headings_in ds) × (a : ModuleProcedure)
      × Entry Behind h.name.name (Headed (Ok (meaning.Procedure a))) × (a.number ≡ k)
  new_entry l k x y =
      let n = block_numbered g ends s q.nested ds fine in
      new_number_there s.types.home s.level ends s Behind (outermost_there l) n.headings k x
      (subst (λ (e : ℕ). k < e) n.procedures y)

  pub headings_counted : (q.level == 0) ≡ true
      → length Behind.procedures ≡ length s.procedures + length (new_headings p.awaited (headings_in ds))
  headings_counted l =
      let n = block_numbered g ends s q.nested ds fine in
      n.procedures ∙ headings_count s.types.home s.level ends s Behind p.awaited (λ n a e. awaits_as (b.takes n) a e)
      (λ n t e. waits_as (b.takes n) t e) (outermost_there l) n.headings

  pub nested_entry : (l : (q.level == 0) ≡ false) → (h : Heading) (n : ℕ) → Among (h, n) (nested_numbers q.nested ds)
      → (t : TypeNo) × Entry Behind h.name.name
      (Headed (Ok (meaning.LocalProcedure (record { level = s.level; number = n; heading = t }))))
  nested_entry l h n i =
      let inside = b.nested l in
      nested_in s.types.home s.level ends s Behind p.awaited (λ n a e. awaits_as (b.takes n) a e)
      (λ n t e. waits_as (b.takes n) t e) (outermost_there l) inside.0 ds
      (block_numbered g ends s q.nested ds fine).headings inside.1 h n i

module _ (g : Gathers) (j : Judges g) (lawful : Lawful g j) (exports : ℕ → Ident → Standing) (p : Place) (q : Before)
    (s : Scope g.Reported) (ends : List ℕ) (ds : List Decl) (b : Begins g j exports p q s ends ds)
    (fine : (declared_block g ends (s, Ok tt) q.nested ds).1 ≡ Ok tt) (whole : List Resolved)
    (text : in_order whole ≡ declarations_of ds) (names : Ident → Standing)
    (all : AllStand s.types exports p.names p.taken p.awaited (is_nested s) (declarations_of ds) whole names)
    (knows : Knows g j names exports (declared_block g ends (s, Ok tt) q.nested ds).0) where
  abbrev sd : Scope g.Reported
  sd = (declared_block g ends (s, Ok tt) q.nested ds).0

  numbered : AreNumbered ends s q.nested ds sd
  numbered = block_numbered g ends s q.nested ds fine

  outer_is : sd.outer ≡ s.outer
  outer_is = (headed g ends s q.nested ds fine).1.of_rest.0

  no_withs : sd.withs ≡ []
  no_withs = (headed g ends s q.nested ds fine).1.of_rest.1 ∙ b.no_withs

  entry_looked : (name : Ident) (k : Entered g.Reported) → Entry sd name.name k
      → looked_up g sd name ≡ means_seen g name.pos k true
  entry_looked name k e = looked_plain g j sd no_withs name
      ∙ ap (λ (o : Option (Entered g.Reported)). means_as g name.pos (or_around o (known_outside name.name sd.outer))) e

  -- ---- names from outside

  outside_looked : (name : Ident) → (p.taken name.name ≡ false → rules.AnyDeclares (declarations_of ds) name.name → ⊥)
      → looked_up g sd name ≡ looked_up g s name
  outside_looked name c =
      looked_plain g j sd no_withs name
      ∙ ap (λ (bs : List (Around g.Reported)). means_as g name.pos
      (or_around (find_name name.name sd.own) (known_outside name.name bs))) outer_is
      ∙ before_means g j name.pos (known_outside name.name s.outer)
      ((block_answers g j lawful exports p.names s p.taken p.awaited b.names b.no_withs b.takes ends q.nested
      ds).others name.name c)
      ∙ sym (looked_plain g j s b.no_withs name)

  -- ---- what a name of the block means

  same_ok : {m n : Meaning} → ◌≡◌ {A = Result Meaning (Meaningless g.Reported)} (Ok m) (Ok n) → m ≡ n
  same_ok e = cc

  stands : (name : Ident) (m : Meaning) → looked_up g sd name ≡ Ok m → names name ≡ standing m
  stands name m e = sees_ok g j m (knows.of_names name) e

  variable_means : (name : Ident) (i : ℕ) (t : TypeNo) → names name ≡ Known (AVariable t)
      → (e : (u : TypeNo) × Entry sd name.name
      (Declared Here (Ok (variable_at (s.level == 0) s.types.home s.level (length s.variables + i) u))))
      → (m : Meaning) → looked_up g sd name ≡ Ok m → variable_at (q.level == 0) q.home q.level (q.variables + i) t ≡ m
  variable_means name i t n (u, e) m w =
      let found : looked_up g sd name ≡ Ok (variable_at (s.level == 0) s.types.home s.level (length s.variables + i)
      u) = entry_looked name _ e in
      let types : Known (AVariable t) ≡ Known (AVariable u) = sym n ∙ stands name _ found
      ∙ variable_stands (s.level == 0) s.types.home s.level (length s.variables + i) u in
      let same : t ≡ u = cc types in
      ap (λ (l : ℕ). variable_at (l == 0) q.home l (q.variables + i) t) (sym b.of_level)
      ∙ ap (λ (h : ℕ). variable_at (s.level == 0) h s.level (q.variables + i) t) (sym b.of_home)
      ∙ ap (λ (v : ℕ). variable_at (s.level == 0) s.types.home s.level (v + i) t) (sym b.variables)
      ∙ ap (λ (t : TypeNo). variable_at (s.level == 0) s.types.home s.level (length s.variables + i) t) same
      ∙ same_ok (sym found ∙ w)

  module_means : (name : Ident) (k : ℕ) (t : TypeNo) → names name ≡ Known (rules.procedure false t)
      → (e : (u : TypeNo) × Entry sd name.name
      (Headed (Ok (meaning.Procedure (record { home = s.types.home; number = k; heading = u })))))
      → (m : Meaning) → looked_up g sd name ≡ Ok m
      → meaning.Procedure (record { home = q.home; number = k; heading = t }) ≡ m
  module_means name k t n (u, e) m w =
      let found : looked_up g sd name ≡ Ok (meaning.Procedure
      (record { home = s.types.home; number = k; heading = u })) = entry_looked name _ e in
      let types : Known (rules.procedure false t) ≡ Known (rules.procedure false u) = sym n ∙ stands name _ found in
      let same : t ≡ u = cc types in
      ap (λ (h : ℕ). meaning.Procedure (record { home = h; number = k; heading = t })) (sym b.of_home)
      ∙ ap (λ (t : TypeNo). meaning.Procedure (record { home = s.types.home; number = k; heading = t })) same
      ∙ same_ok (sym found ∙ w)

  nested_means : (name : Ident) (k : ℕ) (t : TypeNo) → names name ≡ Known (rules.procedure true t)
      → (e : (u : TypeNo) × Entry sd name.name
      (Headed (Ok (meaning.LocalProcedure (record { level = s.level; number = k; heading = u })))))
      → (m : Meaning) → looked_up g sd name ≡ Ok m
      → meaning.LocalProcedure (record { level = q.level; number = k; heading = t }) ≡ m
  nested_means name k t n (u, e) m w =
      let found : looked_up g sd name ≡ Ok (meaning.LocalProcedure
      (record { level = s.level; number = k; heading = u })) = entry_looked name _ e in
      let types : Known (rules.procedure true t) ≡ Known (rules.procedure true u) = sym n ∙ stands name _ found in
      let same : t ≡ u = cc types in
      ap (λ (l : ℕ). meaning.LocalProcedure (record { level = l; number = k; heading = t })) (sym b.of_level)
      ∙ ap (λ (t : TypeNo). meaning.LocalProcedure (record { level = s.level; number = k; heading = t })) same
      ∙ same_ok (sym found ∙ w)

  awaits_here : (n : List ℕ) (a : ModuleProcedure) → Entry s n (Declared Here (Ok (meaning.Procedure a)))
      → p.awaited n ≡ Some a.heading
  awaits_here n a e = awaits_as (b.takes n) a e

  waits_here : (n : List ℕ) (t : TypeNo) → p.awaited n ≡ Some t → (a : ModuleProcedure)
      × Entry s n (Declared Here (Ok (meaning.Procedure a)))
  waits_here n t e = waits_as (b.takes n) t e

  outermost : {o : Bool} → (q.level == 0) ≡ o → (s.level == 0) ≡ o
  outermost e = ap (λ (l : ℕ). l == 0) b.of_level ∙ e

  -- ---- the scope has what a name means

  abbrev Is : Ident → Option Meaning → Type 0
  Is name o = MeansBehind q p.taken p.awaited names ds name o

  meant : {n m : Meaning} → n ≡ m → (l : ℕ) → named l (Some n) ≡ named_by l m
  meant e l = ap (λ (m : Meaning). named_by l m) e

  entry_as : {x : List ℕ} {n : List ℕ} {V : TypeNo → Entered g.Reported} → x ≡ n → (t : TypeNo) × Entry sd x (V t)
      → (t : TypeNo) × Entry sd n (V t)
  entry_as {V = V} e r = subst (λ (n : List ℕ). (t : TypeNo) × Entry sd n (V t)) e r

  known_by : (name : Ident) (o : Option Meaning) → Is name o → (m : Meaning) → looked_up g sd name ≡ Ok m → (l : ℕ)
      → named l o ≡ named_by l m
  known_by name _ (from_outside c) m w = b.means name m (sym (outside_looked name c) ∙ w)
  known_by name _ (a_variable i {x = x} {t = t} f e n k) m w =
      meant (variable_means name i t k (entry_as
      {V = λ u. Declared Here (Ok (variable_at (s.level == 0) s.types.home s.level (length s.variables + i) u))} n
      (let r = numbered.variables i x e in (r.0, r.1))) m w)
  known_by name _ (of_module i {h = h} {t = t} l e n k) m w =
      meant (module_means name (q.procedures + i) t k
      (subst (λ (v : ℕ). (u : TypeNo) × Entry sd name.name
      (Headed (Ok (meaning.Procedure (record { home = s.types.home; number = v + i; heading = u })))))
      (b.procedures l)
      (entry_as {V = λ u. Headed (Ok (meaning.Procedure
      (record { home = s.types.home; number = length s.procedures + i; heading = u })))} n
      (heading_of_module s.types.home s.level ends s sd p.awaited awaits_here waits_here (outermost l) numbered.headings
      i h e))) m w)
  known_by name _ (of_procedure {n = n} {h = h} {t = t} l i e k) m w =
      let inside = b.nested l in
      meant (nested_means name n t k (entry_as
      {V = λ u. Headed (Ok (meaning.LocalProcedure (record { level = s.level; number = n; heading = u })))} e
      (nested_in s.types.home s.level ends s sd p.awaited awaits_here waits_here (outermost l) inside.0 ds
      numbered.headings inside.1 h n i)) m w)
  known_by name _ (without_code h) m w = λ l. no_code l m (subst StandsWithoutCode (stands name m w) h)

  -- ---- each name means something, if it has code

  abbrev Some_sense : Ident → Type 0
  Some_sense name = (o : Option Meaning) × Is name o

  none : (name : Ident) (r : Standing) → names name ≡ r → StandsWithoutCode r → Some_sense name
  none name r e h = (None, without_code (subst StandsWithoutCode (sym e) h))

  procedure_by : (name : Ident) (h : Heading) (t : TypeNo) (o : Bool) → (q.level == 0) ≡ o → p.taken name.name ≡ false
      → Among (OfProcedure h) (declarations_of ds) → h.name.name ≡ name.name
      → names name ≡ Known (rules.procedure (not o) t) → Some_sense name
  procedure_by name h t true l f m e n =
      let awaits_none : p.awaited h.name.name ≡ None = ap p.awaited e ∙ free_as (b.takes name.name) f in
      let r = place_of (new_there p.awaited (headings_in ds) awaits_none (headings_there ds m)) in
      (Some _, of_module r.0 l r.1 e n)
  procedure_by name h t false l f m e n = let r = nested_there ds q.nested m in (Some _, of_procedure l r.1 e n)

  said_by : (name : Ident) {w : Setting} {x : Declaration} {a : Added} {r : Standing} → p.taken name.name ≡ false
      → Among x (declarations_of ds) → Named (names_of x) name.name → names name ≡ r
      → Says exports w (is_nested s) x a r → Some_sense name
  said_by name f m i n (rules.constant k) = none name _ n tt
  said_by name f m i n (rules.a_type k) = none name _ n tt
  said_by name f m (x, a, e) n (rules.variables k) = let r = place_of (variables_there (declarations_of ds) m a) in
      (Some _, a_variable r.0 f r.1 e n)
  said_by name {w = w} f m (x, a, e) n (rules.a_procedure {h = h} k) =
      procedure_by name h (next_type w.types) (q.level == 0) refl f m (ap (λ (x : Ident). x.name) (sym (only a)) ∙ e)
      (n ∙ ap (λ (l : ℕ). Known (rules.procedure (not (l == 0)) (next_type w.types))) b.of_level)

  meaning_by : (name : Ident) {d : Resolved} {before : List Resolved} {r : Standing} → p.taken name.name ≡ false
      → Among d.what (declarations_of ds) → Named (names_of d.what) name.name → names name ≡ r
      → Means s.types exports p.names p.taken p.awaited (is_nested s) (declarations_of ds) before d r → Some_sense name
  meaning_by name f m i n (rules.says stood k) = said_by name f m i n k
  meaning_by name {d = d} f m i n (rules.says_nothing stood k) = none name _ n (broken_no_code (is_nested s) d.what)

  stood_by : (name : Ident) {r : Standing} → names name ≡ r
      → StandsFor s.types exports p.names p.taken p.awaited (is_nested s) (declarations_of ds) whole name r
      → Some_sense name
  stood_by name n (rules.declared {d = d} f i own k) =
      meaning_by name f (subst (λ (ds : List Declaration). Among d.what ds) text (named_there i)) own n k
  stood_by name n (rules.enumerated f i c a e) = none name _ n tt
  stood_by name n (rules.not_yet {d = d} f i c) = none name _ n (front_no_code d)
  stood_by name n (rules.from_outside c) = (q.of_names name, from_outside c)

  senses : AreSensed g p q names ds sd
  senses = record { each = λ name. stood_by name refl (all name); known = known_by }

pub senses_known : (g : Gathers) (j : Judges g) → Lawful g j → SensesAreKnown g j
senses_known g j lawful exports p q s ends ds b fine whole text names all knows =
    senses g j lawful exports p q s ends ds b fine whole text names all knows
