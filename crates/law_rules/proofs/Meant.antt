-- What is known of a block by number, where it begins and what it means.
use Rattle.std.proofs.Common.{◌≡◌, ℕ, suc, ◌+◌, ◌==◌, true, false, List, [], ◌∷◌, ◌++◌, drop, length, Option, Some, Result, Ok, Err, refl, sym, ap, ◌∙◌, arith}
use Rattle.std.specs.Prelude.{slice_get}
use Rattle.m2_rule.specs.declared.breach.Breach.{Breach}
use Rattle.m2_tree.specs.declared.name.Ident.{Ident}
use Rattle.m2_tree.specs.declared.decl.Heading.{Heading}
use Rattle.m2_tree.specs.declared.decl.Decl.{Decl}
use Rattle.m2_tree.specs.declared.decl.Block.{Block, out-Block}
use Rattle.typed_tree.specs.declared.meaning.Meaning.{Meaning}
use Rattle.typed_tree.specs.declared.meaning.Meaning.TheVariants as meaning
use Rattle.typed_tree.specs.declared.meaning.Procedure.{Procedure as ModuleProcedure}
use Rattle.typed_tree.specs.declared.statement.TypedStmt.{TypedStmt}
use Rattle.typed_tree.specs.declared.table.Table.{Table}
use Rattle.typed_tree.specs.declared.types.TypeNo.{TypeNo}
use Rattle.typed_tree.specs.declared.typed_module.Routine.{Routine}
use Rattle.typed_tree.specs.declared.typed_module.Which.{Which}
use Rattle.typed_tree.specs.declared.typed_module.Which.TheVariants as which
use Rattle.typed_tree.specs.declared.known_types.Types.{Types}
use Rattle.typed_tree.specs.Names.{find_name}
use Rattle.check_scope.specs.declared.known.Known.TheVariants.{Headed}
use Rattle.check_scope.specs.declared.scope.Scope.{Scope}
use Rattle.check_scope.specs.Elaborated.{Gathers, beside}
use Rattle.check_const.specs.Denote.{exported_by}
use Rattle.check_block.specs.Nesting.{procedure_ends}
use Rattle.check_block.specs.Declarations.{declared_block}
use Rattle.check_body.specs.declared.routine.Bodies.{Bodies}
use Rattle.check_body.specs.Routines.{numbered_known}
use Rattle.check_body.specs.Bodies.{Checked}
use Rattle.check_body.specs.Inside.{reported_in}
use Rattle.def_typing.specs.Parts.{Among}
use Rattle.def_typing.specs.Things.{AVariable, Standing, Known}
use Rattle.def_typing.specs.Bodies.{Place, Reads}
use Rattle.def_typed.specs.Named.{named, named_by}
use Rattle.def_typed.specs.Numbers.{procedures_in, headings_in}
use Rattle.def_typed.specs.Blocks.{Before}
use Rattle.def_typed.specs.Bodies.{routine_of, Routines, HaveTypes, no_variable, one_variable, MeansBlock}
use Rattle.law_typing.specs.Judging.{Judges}
use Rattle.law_typing.specs.Exact.{RepeatsResult}
use Rattle.law_typing.proofs.Combining.{Lawful, Tells, silent, tells}
use Rattle.law_numbers.specs.Sensed.{Begins}
use Rattle.law_rules.proofs.MeantLists.{put_all}

-- ---- what is reported

-- Each refusal names a broken rule.
abbrev pub Finds : (g : Gathers) → Judges g → Type 0
Finds g j = (r : g.Reported) → (f : Breach) × j.Among r f

pub beside_fine : (g : Gathers) (a b : Result (Unit {0}) g.Reported) → beside g a b ≡ Ok tt → (a ≡ Ok tt) × (b ≡ Ok tt)
beside_fine g (Ok u) (Ok v) e = (refl, refl)
beside_fine g (Ok u) (Err y) e = absurd cc
beside_fine g (Err x) (Ok v) e = absurd cc
beside_fine g (Err x) (Err y) e = absurd cc

pub never_broken : (g : Gathers) (j : Judges g) (lawful : Lawful g j) {O B : Breach → Type 0}
    {r : Result (Unit {0}) g.Reported} → Tells g j lawful O B r → r ≡ Ok tt → (f : Breach) → B f → ⊥
never_broken g j lawful (silent n) e f b = n f b
never_broken g j lawful (tells r a) e f b = absurd cc

pub body_there : {R : Type 0} (r : Result (List TypedStmt) R) → reported_in r ≡ Ok tt → (xs : List TypedStmt)
    × (r ≡ Ok xs)
body_there (Ok xs) e = (xs, refl)
body_there (Err x) e = absurd cc

-- ---- types of variables

module _ (names : Ident → Standing) where
  same_variable : {t u : TypeNo} → Known (AVariable t) ≡ Known (AVariable u) → t ≡ u
  same_variable e = cc e

  -- There is one list of types at most.
  pub types_one : {xs : List Ident} {ts us : List TypeNo} → HaveTypes names xs ts → HaveTypes names xs us → us ≡ ts
  types_one no_variable no_variable = refl
  types_one (one_variable {t = t} e h) (one_variable {t = u} q k) = let z = same_variable (sym q ∙ e) in
      cc (z, types_one h k)

  -- The types are there if each stands in its place.
  pub have_types : (xs : List Ident) (ts : List TypeNo) → length ts ≡ length xs
      → ((i : ℕ) (x : Ident) → slice_get xs i ≡ Some x → (t : TypeNo) × (names x ≡ Known (AVariable t))
      × (slice_get ts i ≡ Some t)) → HaveTypes names xs ts
  have_types [] [] l h = no_variable
  have_types [] (t ∷ ts) l h = absurd cc
  have_types (x ∷ xs) [] l h = absurd cc
  have_types (x ∷ xs) (t ∷ ts) l h = first (h 0 x refl) (have_types xs ts (same_length l) (λ i y e. h (suc i) y e))
    where
      same_length : {a b : ℕ} → suc a ≡ suc b → a ≡ b
      same_length e = omega (arith, e)

      first : (u : TypeNo) × (names x ≡ Known (AVariable u)) × (slice_get (t ∷ ts) 0 ≡ Some u) → HaveTypes names xs ts
          → HaveTypes names (x ∷ xs) (t ∷ ts)
      first (u, e, q) k = let z : t ≡ u = cc q in one_variable (e ∙ ap (λ (u : TypeNo). Known (AVariable u)) (sym z)) k

-- ---- headings

-- what stands under the name of a heading: a procedure of the module, or in a procedure one with
-- this number
pub data IsHeaded (level n : ℕ) : Meaning → Which → TypeNo → Type 0 where
  of_module : (level == 0) ≡ true → (a : ModuleProcedure)
      → IsHeaded level n (meaning.Procedure a) (which.Module a.number) a.heading
  of_procedure : (level == 0) ≡ false → (t : TypeNo)
      → IsHeaded level n (meaning.LocalProcedure (record { level = level; number = n; heading = t })) (which.Local n) t

pub headed_routine : (level n l : ℕ) {m : Meaning} {w : Which} {t : TypeNo} → IsHeaded level n m w t
    → routine_of (named_by l m) ≡ Some (w, t)
headed_routine level n l (of_module e a) = refl
headed_routine level n l (of_procedure e t) = refl

pub headed_number : (level n : ℕ) (T : Type 0) {m : Meaning} {w : Which} {t : TypeNo} → IsHeaded level n m w t
    → numbered_known {T = T} (Some (Headed (Ok m))) ≡ Some (record { which = w; heading = t })
headed_number level n T (of_module e a) = refl
headed_number level n T (of_procedure e t) = refl

pub same_pair : {w y : Which} {t u : TypeNo} → ◌≡◌ {A = Option (Which × TypeNo)} (Some (w, t)) (Some (y, u)) → (w ≡ y)
    × (t ≡ u)
same_pair {w = w} {y = y} {t = t} {u = u} e = let p : ◌≡◌ {A = Which × TypeNo} (w, t) (y, u) = cc e in
    (ap (λ (x : Which × TypeNo). x.0) p, ap (λ (x : Which × TypeNo). x.1) p)

-- ---- blocks

module _ (g : Gathers) (j : Judges g) (exports : ℕ → Ident → Standing) where
  -- where a block begins, by number
  pub record Numbers (p : Place) (start : Scope g.Reported) (first : ℕ) (ends : List ℕ) (ds : List Decl) (q : Before) :
      Type 0 where
    pub begins : Begins g j exports p q start ends ds
    pub from : q.nested ≡ first

  -- what is known there, if no rule is broken around it
  pub record Starts (p : Place) (start : Scope g.Reported) (first : ℕ) (returns : Option (Result TypeNo g.Reported))
      (ends : List ℕ) (ds : List Decl) : Type 0 where
    pub fresh : (f : Breach) → RepeatsResult g j p.names start returns f → ⊥
    pub deep : length start.outer ≡ start.level + 1
    pub outermost : (start.level == 0) ≡ true → (ends ≡ procedure_ends ds) × (first ≡ 0)
    pub before : Before
    pub numbers : Numbers p start first ends ds before

  -- what modules export means what their tables say
  abbrev pub Exporting : (ℕ → Ident → Option Meaning) → List Table → Type 0
  Exporting of_exports tables = (k : ℕ) (name : Ident) (m : Meaning)
      → exported_by name.name (slice_get tables k) ≡ Some m → (l : ℕ) → named l (of_exports k name) ≡ named_by l m

  -- what is known of a block that is checked, if nothing is reported
  pub record IsMeant (p : Place) (start : Scope g.Reported) (bodies : Bodies) (ends : List ℕ) (around : Option Which)
      {end : Types} {b : Block} (read : Reads exports p start.types b end) (c : Checked g.Reported) : Type 0 where
    pub routines : Routines
    pub variables : List TypeNo
    pub body : List TypedStmt
    pub is_body : c.1 ≡ Ok body
    pub of_bodies : c.0.bodies ≡ put_all bodies routines
    pub of_variables : drop (length start.variables) c.0.scope.variables ≡ variables
    pub of_level : c.0.scope.level ≡ start.level
    pub of_tables : c.0.scope.tables ≡ start.tables
    pub counted : (start.level == 0) ≡ false → length routines.locals ≡ procedures_in b
    pub all_variables : c.0.scope.variables ≡ start.variables ++ variables
    -- Each procedure of a module has its number.
    pub numbers : (start.level == 0) ≡ true → (h : Heading) → Among h (headings_in (out-Block b).decls)
        → (a : ModuleProcedure)
        → find_name h.name.name (declared_block g ends (start, Ok tt) (length bodies.locals) (out-Block b).decls).0.own
        ≡ Some (Headed (Ok (meaning.Procedure a))) → (r : Routine) × Among (a.number, r) routines.procedures
    -- It means this, and nothing else.
    pub holds : (of_exports : ℕ → Ident → Option Meaning) → Exporting of_exports start.tables → (q : Before)
        → Numbers p start (length bodies.locals) ends (out-Block b).decls q
        → MeansBlock exports of_exports read q around routines variables body
    pub alone : (of_exports : ℕ → Ident → Option Meaning) → Exporting of_exports start.tables → (q : Before)
        → Numbers p start (length bodies.locals) ends (out-Block b).decls q
        → (rs : Routines) (vs : List TypeNo) (xs : List TypedStmt)
        → MeansBlock exports of_exports read q around rs vs xs → (rs ≡ routines) × (vs ≡ variables) × (xs ≡ body)
