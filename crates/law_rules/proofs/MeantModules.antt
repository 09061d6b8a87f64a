-- Which typed module a module has.
use Rattle.std.proofs.Common.{◌≡◌, ℕ, zero, suc, ◌+◌, ◌≤◌, ◌<◌, ◌==◌, Bool, true, List, [], ◌∷◌, ◌++◌, map, length, Option, Some, None, Ok, ◌⊎◌, inl, inr, refl, sym, ap, subst, ◌∙◌, arith}
use Rattle.std.specs.Prelude.{slice_get, slice_set}
use Rattle.m2_rule.specs.declared.breach.Breach.{Breach}
use Rattle.m2_tree.specs.declared.pos.Pos.{Pos}
use Rattle.m2_tree.specs.declared.name.Ident.{Ident}
use Rattle.m2_tree.specs.declared.decl.Heading.{Heading}
use Rattle.m2_tree.specs.declared.decl.Decl.{Decl, Decl-F, out-Decl}
use Rattle.m2_tree.specs.declared.decl.Decl.TheOpen as layer
use Rattle.m2_tree.specs.declared.decl.Block.{Block}
use Rattle.m2_tree.specs.declared.decl.Module.{Module}
use Rattle.typed_tree.specs.declared.types.TypeNo.{TypeNo}
use Rattle.typed_tree.specs.declared.known_types.Types.{Types}
use Rattle.typed_tree.specs.declared.meaning.Meaning.{Meaning}
use Rattle.typed_tree.specs.declared.meaning.Meaning.TheVariants as meaning
use Rattle.typed_tree.specs.declared.meaning.Procedure.{Procedure as ModuleProcedure}
use Rattle.typed_tree.specs.declared.statement.TypedStmt.{TypedStmt}
use Rattle.typed_tree.specs.declared.table.Table.{Table}
use Rattle.typed_tree.specs.declared.typed_module.Imported.{Imported}
use Rattle.typed_tree.specs.declared.typed_module.Routine.{Routine}
use Rattle.typed_tree.specs.declared.typed_module.Which.{Which}
use Rattle.typed_tree.specs.declared.typed_module.TypedModule.{TypedModule}
use Rattle.typed_tree.specs.Names.{find_name}
use Rattle.check_scope.specs.declared.known.Known.TheVariants.{Declared, Headed}
use Rattle.check_scope.specs.declared.known.Origin.TheVariants.{Here}
use Rattle.check_scope.specs.declared.scope.Scope.{Scope}
use Rattle.check_scope.specs.Elaborated.{Gathers}
use Rattle.check_scope.specs.Scopes.{looked_up}
use Rattle.check_const.specs.Denote.{exported_by}
use Rattle.check_definition.specs.Importing.{numbered_modules}
use Rattle.check_block.specs.Declarations.{declared_block}
use Rattle.check_body.specs.Imports.{definition_imports, all_imports, typed_imports}
use Rattle.check_body.specs.Checks.{elaborate_body}
use Rattle.check_body.specs.Checked.{of_body}
use Rattle.check_body.specs.declared.routine.Bodies.{Bodies as Put}
use Rattle.check_body.specs.Routines.{empty_routine}
use Rattle.def_typing.specs.Parts.{Among, here, later}
use Rattle.def_typing.specs.Things.{Standing}
use Rattle.def_typing.specs.Declarations as rules
use Rattle.def_typing.specs.Declarations.{Declaration, OfConstant, OfType, OfVariables, OfProcedure, declared_by, declarations_of, in_order, Heads, IsHeaded, Declared as Resolved}
use Rattle.def_typing.specs.Imports.{Entry, all_imported}
use Rattle.def_typing.specs.Bodies.{Place}
use Rattle.def_typed.specs.Named.{named, named_by}
use Rattle.def_typed.specs.Numbers.{headings_by, headings_in, new_headings}
use Rattle.def_typed.specs.Blocks.{Before}
use Rattle.def_typed.specs.Bodies.{Routines, MeansBlock}
use Rattle.def_typed.specs.Modules.{exported_from, exported_in, variable_types, heading_types, MeansBefore, before_module, with_bodies, ArePlaced, named_modules, AreImported, MeansModule}
use Rattle.law_typing.specs.Judging.{Judges}
use Rattle.law_typing.specs.Exact.{Repeats, AreOnce}
use Rattle.law_typing.proofs.Combining.{Lawful, Decided, holds, fails_it}
use Rattle.law_typing.proofs.Entering.{name_decided}
use Rattle.law_numbers.proofs.Senses.{headings_there, awaits_as, new_entry, headings_counted}
use Rattle.law_rules.specs.Importing.{imported_all, AreImportsExact}
use Rattle.law_rules.proofs.Following.{Associates}
use Rattle.law_rules.specs.Blocks.{KnowsPlace}
use Rattle.law_rules.proofs.Whole.{of_block, whole}
use Rattle.law_rules.proofs.Meant.{Finds, Numbers, Starts, Exporting}
use Rattle.law_rules.proofs.MeantImports.{imports_are, imports_one}
use Rattle.law_rules.proofs.Moduling.{start, ds, ends, inner, declared_from, moved, P, module_read, IsModuleMeant, module_meant}

-- ---- lists

nat_same : (a b : ℕ) → (a ≡ b) ⊎ (a ≡ b → ⊥)
nat_same zero zero = inl refl
nat_same zero (suc b) = inr (λ e. absurd cc)
nat_same (suc a) zero = inr (λ e. absurd cc)
nat_same (suc a) (suc b) = elim (nat_same a b) [ inl e ↦ inl (ap suc e) | inr c ↦ inr (λ e. c (same e)) ]
  where
    same : {a b : ℕ} → suc a ≡ suc b → a ≡ b
    same e = omega (arith, e)

set_same : {A : Type 0} (xs : List A) (n : ℕ) (x : A) → n < length xs → slice_get (slice_set xs n x) n ≡ Some x
set_same [] n x l = absurd (never n l)
  where
    never : (n : ℕ) → n < 0 → ⊥
    never n l = omega (arith, l)
set_same (y ∷ xs) zero x l = refl
set_same (y ∷ xs) (suc n) x l = set_same xs n x (omega (arith, l))

set_other : {A : Type 0} (xs : List A) (n k : ℕ) (x : A) → (n ≡ k → ⊥) → slice_get (slice_set xs n x) k ≡ slice_get xs k
set_other [] n k x c = refl
set_other (y ∷ xs) zero zero x c = absurd (c refl)
set_other (y ∷ xs) zero (suc k) x c = refl
set_other (y ∷ xs) (suc n) zero x c = refl
set_other (y ∷ xs) (suc n) (suc k) x c = set_other xs n k x (λ e. c (ap suc e))

set_length : {A : Type 0} (xs : List A) (n : ℕ) (x : A) → length (slice_set xs n x) ≡ length xs
set_length [] n x = refl
set_length (y ∷ xs) zero x = refl
set_length (y ∷ xs) (suc n) x = ap suc (set_length xs n x)

same_lists : {A : Type 0} (xs ys : List A) → length xs ≡ length ys
    → ((k : ℕ) → k < length xs → slice_get xs k ≡ slice_get ys k) → xs ≡ ys
same_lists [] [] l h = refl
same_lists [] (y ∷ ys) l h = absurd cc
same_lists (x ∷ xs) [] l h = absurd cc
same_lists (x ∷ xs) (y ∷ ys) l h =
    let e : x ≡ y = same (h 0 (omega arith)) in
    ap (λ (z : _). z ∷ xs) e ∙ ap (λ (zs : List _). y ∷ zs)
    (same_lists xs ys (less l) (λ k q. h (suc k) (omega (arith, q))))
  where
    same : {A : Type 0} {a b : A} → ◌≡◌ {A = Option A} (Some a) (Some b) → a ≡ b
    same e = cc e

    less : {a b : ℕ} → suc a ≡ suc b → a ≡ b
    less e = omega (arith, e)

abbrev Covered : ℕ → List (ℕ × Routine) → Type 0
Covered k rs = (r : Routine) × Among (k, r) rs

-- Two lists of procedures are the same with their bodies, if those that differ get bodies.
bodies_one : (rs : List (ℕ × Routine)) (xs ys : List Routine) → length xs ≡ length ys
    → ((k : ℕ) → k < length xs → Covered k rs ⊎ (slice_get xs k ≡ slice_get ys k))
    → with_bodies xs rs ≡ with_bodies ys rs
bodies_one [] xs ys l h = same_lists xs ys l (λ k q. by (h k q))
  where
    by : {k : ℕ} {Q : Type 0} → Covered k [] ⊎ Q → Q
    by (inl c) = elim c.1 [ ]
    by (inr q) = q
bodies_one ((n, r) ∷ rs) xs ys l h = bodies_one rs (slice_set xs n r) (slice_set ys n r)
    (set_length xs n r ∙ l ∙ sym (set_length ys n r))
    (λ k q. by k (subst (λ (z : ℕ). k < z) (set_length xs n r) q) (nat_same n k)
    (h k (subst (λ (z : ℕ). k < z) (set_length xs n r) q)))
  where
    at_it : (k : ℕ) → k < length xs → n ≡ k → slice_get (slice_set xs n r) k ≡ slice_get (slice_set ys n r) k
    at_it k q e = subst (λ (k : ℕ). slice_get (slice_set xs n r) k ≡ slice_get (slice_set ys n r) k) e
        (set_same xs n r (subst (λ (z : ℕ). z < length xs) (sym e) q)
        ∙ sym (set_same ys n r (subst (λ (z : ℕ). n < z) l (subst (λ (z : ℕ). z < length xs) (sym e) q))))

    first_or : {x y : ℕ × Routine} → Among x (y ∷ rs) → (x ≡ y) ⊎ Among x rs
    first_or here = inl refl
    first_or (later i) = inr i

    by : (k : ℕ) → k < length xs → (n ≡ k) ⊎ (n ≡ k → ⊥) → Covered k ((n, r) ∷ rs) ⊎ (slice_get xs k ≡ slice_get ys k)
        → Covered k rs ⊎ (slice_get (slice_set xs n r) k ≡ slice_get (slice_set ys n r) k)
    by k q (inl e) c = inr (at_it k q e)
    by k q (inr d) (inr e) = inr (set_other xs n k r d ∙ e ∙ sym (set_other ys n k r d))
    by k q (inr d) (inl (x, i)) = elim (first_or i)
        [ inl e ↦ absurd (d (ap (λ (y : ℕ × Routine). y.0) (sym e))) | inr i ↦ inl (x, i) ]

pub placed_one : (count : ℕ) (rs : List (ℕ × Routine)) (ps qs : List Routine) → ArePlaced count rs ps
    → ArePlaced count rs qs → qs ≡ ps
placed_one count rs ps qs a b =
    b.put ∙ bodies_one rs b.before a.before (b.counted ∙ sym a.counted)
    (λ k q. inl (a.each k (subst (λ (z : ℕ). k < z) b.counted q))) ∙ sym a.put

less_or_not : (a b : ℕ) → (a < b) ⊎ (b ≤ a)
less_or_not a zero = inr (omega arith)
less_or_not zero (suc b) = inl (omega arith)
less_or_not (suc a) (suc b) = elim (less_or_not a b) [ inl l ↦ inl (omega (arith, l)) | inr l ↦ inr (omega (arith, l)) ]

-- ---- headings

module _ (n : List ℕ) where
  heading_search : (hs : List Heading) → ((h : Heading) × Among h hs × (h.name.name ≡ n))
      ⊎ ((h : Heading) → Among h hs → h.name.name ≡ n → ⊥)
  heading_search [] = inr (λ h i e. elim i [ ])
  heading_search (h ∷ hs) = by (name_decided h.name.name n) (heading_search hs)
    where
      by : {b : Bool} → Decided (h.name.name ≡ n) b → ((h : Heading) × Among h hs × (h.name.name ≡ n))
          ⊎ ((h : Heading) → Among h hs → h.name.name ≡ n → ⊥)
          → ((x : Heading) × Among x (h ∷ hs) × (x.name.name ≡ n))
          ⊎ ((x : Heading) → Among x (h ∷ hs) → x.name.name ≡ n → ⊥)
      by (holds e) r = inl (h, here, e)
      by (fails_it c) (inl r) = inl (r.0, later r.1, r.2)
      by (fails_it c) (inr d) = inr (λ x i e. none x i e)
        where
          none : (x : Heading) → Among x (h ∷ hs) → x.name.name ≡ n → ⊥
          none _ here e = c e
          none x (later i) e = d x i e

among_both : {A : Type 0} {x : A} (xs ys : List A) → Among x xs ⊎ Among x ys → Among x (xs ++ ys)
among_both [] ys (inl i) = elim i [ ]
among_both [] ys (inr i) = i
among_both (z ∷ xs) ys (inl here) = here
among_both (z ∷ xs) ys (inl (later i)) = later (among_both xs ys (inl i))
among_both (z ∷ xs) ys (inr i) = later (among_both xs ys (inr i))

among_either : {A : Type 0} {x : A} (xs ys : List A) → Among x (xs ++ ys) → Among x xs ⊎ Among x ys
among_either [] ys i = inr i
among_either (z ∷ xs) ys here = inl here
among_either (z ∷ xs) ys (later i) = elim (among_either xs ys i) [ inl a ↦ inl (later a) | inr b ↦ inr b ]

in_text : {d : Resolved} (front : List Resolved) → Among d front → Among d.what (in_order front)
in_text [] i = elim i [ ]
in_text (d ∷ front) here = among_both (in_order front) (d.what ∷ []) (inr here)
in_text (x ∷ front) (later i) = among_both (in_order front) (x.what ∷ []) (inl (in_text front i))

only : {A : Type 0} {y z : A} → Among y (z ∷ []) → y ≡ z
only here = refl
only (later i) = elim i [ ]

from_text : {e : Declaration} (front : List Resolved) → Among e (in_order front) → (d : Resolved) × Among d front
    × (d.what ≡ e)
from_text [] i = elim i [ ]
from_text {e = e} (x ∷ front) i = by (among_either (in_order front) (x.what ∷ []) i) (from_text front)
  where
    by : Among e (in_order front) ⊎ Among e (x.what ∷ [])
        → (Among e (in_order front) → (d : Resolved) × Among d front × (d.what ≡ e)) → (d : Resolved)
        × Among d (x ∷ front) × (d.what ≡ e)
    by (inl i) more = let r = more i in (r.0, later r.1, r.2)
    by (inr i) more = (x, here, sym (only i))

headings_here : {h : Heading} (y : Decl-F Decl Block) → Among h (headings_by y) → Among (OfProcedure h) (declared_by y)
headings_here (layer.Constants cs) i = elim i [ ]
headings_here (layer.Types ts) i = elim i [ ]
headings_here (layer.Variables vs) i = elim i [ ]
headings_here {h = h} (layer.Procedure x b) i =
    subst (λ (k : Heading). Among (OfProcedure h) (OfProcedure k ∷ [])) (only i) here

heading_text : {h : Heading} (ds : List Decl) → Among h (headings_in ds) → Among (OfProcedure h) (declarations_of ds)
heading_text [] i = elim i [ ]
heading_text (d ∷ ds) i = among_both (declared_by (out-Decl d)) (declarations_of ds)
    (elim (among_either (headings_by (out-Decl d)) (headings_in ds) i)
    [ inl a ↦ inl (headings_here (out-Decl d) a) | inr b ↦ inr (heading_text ds b) ])

module _ (front : List Resolved) (ds : List Decl) (text : in_order front ≡ declarations_of ds) (n : List ℕ) where
  heads_by : (e : Declaration) → Among e (declarations_of ds) → Heads e n → (h : Heading) × Among h (headings_in ds)
      × (h.name.name ≡ n)
  heads_by (OfProcedure h) i q = (h, headings_there ds i, q)
  heads_by (OfConstant c) i q = absurd q
  heads_by (OfType t) i q = absurd q
  heads_by (OfVariables v) i q = absurd q

  -- A heading of this name is there or not.
  pub headed_or : ((h : Heading) × Among h (headings_in ds) × (h.name.name ≡ n) × IsHeaded front n)
      ⊎ (IsHeaded front n → ⊥)
  headed_or = elim (heading_search n (headings_in ds)) [
    | inl r ↦ inl (
      r.0,
      r.1,
      r.2,
      (let z = from_text front (subst (λ (es : List Declaration). Among (OfProcedure r.0) es) (sym text)
          (heading_text ds r.1)) in
          (z.0, z.1, subst (λ (e : Declaration). Heads e n) (sym z.2) r.2)),
    )
    | inr c ↦ inr (λ q. let r = heads_by q.0.what
        (subst (λ (es : List Declaration). Among q.0.what es) text (in_text front q.1)) q.2 in c r.0 r.1 r.2)
  ]

-- ---- a module

-- two typed modules with the same parts
module_same : (t u : TypedModule) → u.imports ≡ t.imports → u.name ≡ t.name → u.pos ≡ t.pos → u.types ≡ t.types
    → u.variables ≡ t.variables → u.procedures ≡ t.procedures → u.locals ≡ t.locals → u.order ≡ t.order
    → u.body ≡ t.body → u ≡ t
module_same t u e0 e1 e2 e3 e4 e5 e6 e7 e8 =
    ap (λ (z : List Imported). let m : TypedModule =
    record {
      imports = z;
      name = u.name;
      pos = u.pos;
      types = u.types;
      variables = u.variables;
      procedures =
          u.procedures;
      locals = u.locals;
      order = u.order;
      body = u.body;
    } in m) e0
    ∙ ap (λ (z : List ℕ). let m : TypedModule =
    record {
      imports = t.imports;
      name = z;
      pos = u.pos;
      types = u.types;
      variables = u.variables;
      procedures =
          u.procedures;
      locals = u.locals;
      order = u.order;
      body = u.body;
    } in m) e1
    ∙ ap (λ (z : Pos). let m : TypedModule =
    record {
      imports = t.imports;
      name = t.name;
      pos = z;
      types = u.types;
      variables = u.variables;
      procedures =
          u.procedures;
      locals = u.locals;
      order = u.order;
      body = u.body;
    } in m) e2
    ∙ ap (λ (z : Types). let m : TypedModule =
    record {
      imports = t.imports;
      name = t.name;
      pos = t.pos;
      types = z;
      variables = u.variables;
      procedures =
          u.procedures;
      locals = u.locals;
      order = u.order;
      body = u.body;
    } in m) e3
    ∙ ap (λ (z : List TypeNo). let m : TypedModule =
    record {
      imports = t.imports;
      name = t.name;
      pos = t.pos;
      types = t.types;
      variables = z;
      procedures =
          u.procedures;
      locals = u.locals;
      order = u.order;
      body = u.body;
    } in m) e4
    ∙ ap (λ (z : List Routine). let m : TypedModule =
    record {
      imports = t.imports;
      name = t.name;
      pos = t.pos;
      types = t.types;
      variables = t.variables;
      procedures =
          z;
      locals = u.locals;
      order = u.order;
      body = u.body;
    } in m) e5
    ∙ ap (λ (z : List Routine). let m : TypedModule =
    record {
      imports = t.imports;
      name = t.name;
      pos = t.pos;
      types = t.types;
      variables = t.variables;
      procedures =
          t.procedures;
      locals = z;
      order = u.order;
      body = u.body;
    } in m) e6
    ∙ ap (λ (z : List Which). let m : TypedModule =
    record {
      imports = t.imports;
      name = t.name;
      pos = t.pos;
      types = t.types;
      variables = t.variables;
      procedures =
          t.procedures;
      locals = t.locals;
      order = z;
      body = u.body;
    } in m) e7
    ∙ ap (λ (z : List TypedStmt). let m : TypedModule =
    record {
      imports = t.imports;
      name = t.name;
      pos = t.pos;
      types = t.types;
      variables = t.variables;
      procedures =
          t.procedures;
      locals = t.locals;
      order = t.order;
      body = z;
    } in m) e8

-- what is known of names where the block of a module begins
module _ (g : Gathers) (j : Judges g) (lawful : Lawful g j) (associates : Associates g) (exports : ℕ → Ident → Standing)
    (m : Module) (s : Scope g.Reported) (mine : List ℕ → Bool) (i : AreImportsExact g j mine s m.imports)
    (p : Place) (at : KnowsPlace g j exports p (record s { own = (imported_all g s m.imports).0.own }) None)
    (once : AreOnce (imported_all g s m.imports).0.own)
    (sound : (f : Breach) → Repeats g j p.names (record s { own = (imported_all g s m.imports).0.own }) f → ⊥)
    (b : Block)
    (own_table : Option Table) (home : ℕ) (tables : List Table) (exported : List Entry)
    (of_definition : List (List ℕ × ℕ)) where
  abbrev S : Scope g.Reported
  S = start g j lawful associates exports m s mine i p at once sound b own_table

  abbrev D : List Decl
  D = ds g j lawful associates exports m s mine i p at once sound b own_table

  abbrev Ends : List ℕ
  Ends = ends g j lawful associates exports m s mine i p at once sound b own_table

  abbrev Read : Type 0
  Read = (name : Ident) (o : Option Meaning) → MeansBefore tables exported (all_imported m.imports) p.names name o
      → (w : Meaning) → looked_up g S name ≡ Ok w → (l : ℕ) → named l o ≡ named_by l w

  pub record Outside : Type 0 where
    pub of_home : S.types.home ≡ home
    pub of_level : S.level ≡ 0
    pub deep : length S.outer ≡ S.level + 1
    pub of_tables : S.tables ≡ tables
    pub own_imports : definition_imports own_table ≡ of_definition
    pub imports_once : AreOnce of_definition
    pub variables : S.variables ≡ variable_types exported
    pub procedures : S.procedures ≡ heading_types exported
    pub each : (name : Ident) → (o : Option Meaning)
        × MeansBefore tables exported (all_imported m.imports) p.names name o
    pub known : (name : Ident) (o : Option Meaning)
        → MeansBefore tables exported (all_imported m.imports) p.names name o → (w : Meaning)
        → looked_up g S name ≡ Ok w → (l : ℕ) → named l o ≡ named_by l w
    -- Each procedure of the definition has a name.
    pub headed : (k : ℕ) → k < length (heading_types exported) → (x : List ℕ) × (a : ModuleProcedure) × (a.number ≡ k)
        × (find_name x S.own ≡ Some (Declared Here (Ok (meaning.Procedure a))))

  module _ (finds : Finds g j) (o : Outside) where
    abbrev Q : Place
    Q = P g j lawful associates exports m s mine i p at once sound b own_table

    outermost : (S.level == 0) ≡ true
    outermost = ap (λ (l : ℕ). l == 0) o.of_level

    number_first : (of_names : Ident → Option Meaning)
        → ((name : Ident) → MeansBefore tables exported (all_imported m.imports) p.names name (of_names name))
        → Numbers g j exports Q S 0 Ends D (before_module home exported of_names)
    number_first of_names means = record {
      begins = record {
        names = at.names;
        no_withs = at.no_withs;
        takes = at.takes;
        of_home = o.of_home;
        of_level = o.of_level;
        variables = ap (λ (ts : List TypeNo). length ts) o.variables;
        procedures = λ e. ap (λ (ts : List TypeNo). length ts) o.procedures;
        means = λ name w e l. o.known name (of_names name) (means name) w e l;
        nested = λ e. absurd cc;
      };
      from = refl;
    }

    abbrev names_first : Ident → Option Meaning
    names_first name = (o.each name).0

    abbrev means_first : (name : Ident) → MeansBefore tables exported (all_imported m.imports) p.names name
        (names_first name)
    means_first name = (o.each name).1

    abbrev before : Before
    before = before_module home exported names_first

    starts : Starts g j exports Q S 0 None Ends D
    starts = record {
      fresh = λ f r. elim r [ inl x ↦ sound f x | inr x ↦ elim x [ ] ];
      deep = o.deep;
      outermost = λ e. (refl, refl);
      before = before;
      numbers = number_first names_first means_first;
    }

    exporting : Exporting g j exports (exported_in tables) S.tables
    exporting k name w e l = ap (λ (r : Option Meaning). named l r)
        (by (slice_get tables k) ∙ ap (λ (ts : List Table). exported_by name.name (slice_get ts k)) (sym o.of_tables)
        ∙ e)
      where
        by : (t : Option Table) → exported_from name.name t ≡ exported_by name.name t
        by None = refl
        by (Some t) = refl

    module _ (t : TypedModule) (e : of_body g (elaborate_body g) s own_table m b ≡ Ok t) where
      it : IsModuleMeant g j lawful associates exports m s mine i p at once sound b own_table t
      it = module_meant g j lawful associates exports m s mine i p at once sound b own_table finds starts t e

      abbrev Behind : Scope g.Reported
      Behind = (declared_block g Ends (S, Ok tt) 0 D).0

      headings : length Behind.procedures ≡ length (heading_types exported) + length
          (new_headings p.awaited (headings_in D))
      headings = headings_counted g j exports Q before S Ends D (number_first names_first means_first).begins it.fine
          refl ∙ ap (λ (ts : List TypeNo). length ts + length (new_headings p.awaited (headings_in D))) o.procedures

      number_there : (k : ℕ) (h : Heading) → Among h (headings_in D) → (a : ModuleProcedure)
          → find_name h.name.name Behind.own ≡ Some (Headed (Ok (meaning.Procedure a))) → a.number ≡ k
          → Covered k it.block.routines.procedures
      number_there k h n a q z = let r = it.block.numbers outermost h n a q in
          (r.0, subst (λ (n : ℕ). Among {A = ℕ × Routine} (n, r.0) it.block.routines.procedures) z r.1)

      new_there : (k : ℕ) → length (heading_types exported) ≤ k → k < length Behind.procedures
          → Covered k it.block.routines.procedures
      new_there k x y =
          let r = new_entry g j exports Q before S Ends D (number_first names_first means_first).begins it.fine refl k
          (subst (λ (ts : List TypeNo). length ts ≤ k) (sym o.procedures) x) y in
          number_there k r.0 r.1 r.2 r.3 r.4

      defined_there : (k : ℕ) → k < length (heading_types exported) → Covered k it.block.routines.procedures
      defined_there k x = by (headed_or (whole g j lawful associates exports b
          (inner g j lawful associates exports m s mine i p at once sound b own_table) p S None at Ends None 0) D
          (of_block g j lawful associates exports b
          (inner g j lawful associates exports m s mine i p at once sound b own_table) p S None at Ends None 0).in_text
          (o.headed k x).0)
        where
          by : ((h : Heading) × Among h (headings_in D) × (h.name.name ≡ (o.headed k x).0)
              × IsHeaded (whole g j lawful associates exports b
              (inner g j lawful associates exports m s mine i p at once sound b own_table) p S None at Ends None 0)
              (o.headed k x).0) ⊎ (IsHeaded (whole g j lawful associates exports b
              (inner g j lawful associates exports m s mine i p at once sound b own_table) p S None at Ends None 0)
              (o.headed k x).0 → ⊥) → Covered k it.block.routines.procedures
          by (inl r) = number_there k r.0 r.1 (o.headed k x).1
              (ap (λ (n : List ℕ). find_name n Behind.own) r.2
              ∙ (of_block g j lawful associates exports b
              (inner g j lawful associates exports m s mine i p at once sound b own_table) p S None at Ends None
              0).numbers (o.headed k x).0 (o.headed k x).1 (o.headed k x).3 r.3) (o.headed k x).2
          by (inr c) = absurd (it.lacks _ (rules.missing
              (awaits_as (at.takes (o.headed k x).0) (o.headed k x).1 (o.headed k x).3) c))

      covered : (k : ℕ) → k < length (heading_types exported) + length (new_headings p.awaited (headings_in D))
          → Covered k it.block.routines.procedures
      covered k x = by (less_or_not k (length (heading_types exported)))
        where
          by : (k < length (heading_types exported)) ⊎ (length (heading_types exported) ≤ k)
              → Covered k it.block.routines.procedures
          by (inl l) = defined_there k l
          by (inr l) = new_there k l (subst (λ (n : ℕ). k < n) (sym headings) x)

      imports_there : AreImported tables of_definition []
          (map (λ (e : List ℕ × ℕ). e.0) of_definition ++ named_modules m.imports) t.imports
      imports_there = subst (λ (is : List Imported). AreImported tables of_definition []
          (map (λ (e : List ℕ × ℕ). e.0) of_definition ++ named_modules m.imports) is)
          (sym (ap (λ (t : TypedModule). t.imports) it.is
          ∙ ap (λ (ts : List Table). typed_imports (numbered_modules s.tables).0 ts
          (all_imports (numbered_modules s.tables).0 ts own_table m.imports)) (it.block.of_tables ∙ o.of_tables)
          ∙ ap (λ (ts : List Table). typed_imports (numbered_modules ts).0 tables
          (all_imports (numbered_modules ts).0 tables own_table m.imports)) o.of_tables))
          (imports_are tables own_table of_definition o.own_imports o.imports_once m.imports)

      pub tree : MeansModule home tables exported of_definition m exports
          (module_read g j lawful associates exports m s mine i p at once sound b own_table) t
      tree = record {
        of_name = ap (λ (t : TypedModule). t.name) it.is;
        of_pos = ap (λ (t : TypedModule). t.pos) it.is;
        of_imports = imports_there;
        of_types = ap (λ (t : TypedModule). t.types) it.is;
        of_names = names_first;
        means = means_first;
        routines = it.block.routines;
        variables = it.block.variables;
        of_block = block_there (ap (λ (t : TypedModule). t.body) (sym it.is));
        of_variables = ap (λ (t : TypedModule). t.variables) it.is ∙ it.block.all_variables
            ∙ ap (λ (ts : List TypeNo). ts ++ it.block.variables) o.variables;
        of_procedures = record {
          before = map empty_routine (declared_from g j lawful associates exports m s mine i p at once sound b own_table
              S).0.procedures;
          counted = map_length (declared_from g j lawful associates exports m s mine i p at once sound b own_table
              S).0.procedures ∙ ap (λ (x : Scope g.Reported). length x.procedures)
              (moved g j lawful associates exports m s mine i p at once sound b own_table).0 ∙ headings;
          put = ap (λ (t : TypedModule). t.procedures) it.is ∙ ap (λ (b : Put). b.procedures) it.block.of_bodies;
          each = covered;
        };
        of_locals = ap (λ (t : TypedModule). t.locals) it.is ∙ ap (λ (b : Put). b.locals) it.block.of_bodies;
        of_order = ap (λ (t : TypedModule). t.order) it.is ∙ ap (λ (b : Put). b.order) it.block.of_bodies;
      }
        where
          map_length : (ts : List TypeNo) → length (map empty_routine ts) ≡ length ts
          map_length [] = refl
          map_length (t ∷ ts) = ap suc (map_length ts)

          block_there : {xs : List TypedStmt} → it.block.body ≡ xs
              → MeansBlock exports (exported_in tables)
              (module_read g j lawful associates exports m s mine i p at once sound b own_table) before None
              it.block.routines it.block.variables xs
          block_there {xs = xs} e = subst (λ (xs : List TypedStmt). MeansBlock exports (exported_in tables)
              (module_read g j lawful associates exports m s mine i p at once sound b own_table) before None
              it.block.routines it.block.variables xs) e
              (it.block.holds (exported_in tables) exporting before (number_first names_first means_first))

      placed_here : ArePlaced (length (heading_types exported) + length (new_headings p.awaited (headings_in D)))
          it.block.routines.procedures t.procedures
      unfolding tree
      placed_here = tree.of_procedures

      pub one_tree : (u : TypedModule) → MeansModule home tables exported of_definition m exports
          (module_read g j lawful associates exports m s mine i p at once sound b own_table) u → u ≡ t
      one_tree u v =
          let w = it.block.alone (exported_in tables) exporting (before_module home exported v.of_names)
          (number_first v.of_names v.means) v.routines v.variables u.body v.of_block in
          module_same t u (imports_one tables of_definition imports_there v.of_imports)
          (v.of_name ∙ sym tree.of_name)
          (v.of_pos ∙ sym tree.of_pos)
          (v.of_types ∙ sym tree.of_types)
          (v.of_variables ∙ ap (λ (ts : List TypeNo). variable_types exported ++ ts) w.1
          ∙ sym (ap (λ (t : TypedModule). t.variables) it.is ∙ it.block.all_variables
          ∙ ap (λ (ts : List TypeNo). ts ++ it.block.variables) o.variables))
          (placed_one _ it.block.routines.procedures t.procedures u.procedures placed_here
          (subst (λ (rs : Routines). ArePlaced
          (length (heading_types exported) + length (new_headings p.awaited (headings_in D))) rs.procedures
          u.procedures) w.0 v.of_procedures))
          (v.of_locals ∙ ap (λ (rs : Routines). rs.locals) w.0
          ∙ sym (ap (λ (t : TypedModule). t.locals) it.is ∙ ap (λ (b : Put). b.locals) it.block.of_bodies))
          (v.of_order ∙ ap (λ (rs : Routines). rs.order) w.0
          ∙ sym (ap (λ (t : TypedModule). t.order) it.is ∙ ap (λ (b : Put). b.order) it.block.of_bodies))
          (w.2 ∙ sym (ap (λ (t : TypedModule). t.body) it.is))
