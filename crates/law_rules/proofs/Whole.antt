-- Blocks are answered exactly, with all procedures inside.
use Rattle.std.proofs.Common.{◌≡◌, ℕ, zero, suc, ◌+◌, Bool, true, false, List, [], ◌∷◌, ◌++◌, length, Option, Some, None, Result, Ok, Err, ◌⊎◌, inl, inr, refl, sym, ap, subst, ◌∙◌, arith}
use Rattle.std.specs.Prelude.{slice_get, ◌==◌, ◌&&◌, drop}
use Rattle.std.specs.List.{fold}
use Rattle.std.specs.Option.{unwrap_or}
use Rattle.std.proofs.lemmas.Bool.Decides.{nat_tests}
use Rattle.std.proofs.lemmas.List.{length-append}
use Rattle.m2_rule.specs.declared.breach.Breach.{Breach}
use Rattle.m2_tree.specs.declared.name.Ident.{Ident}
use Rattle.m2_tree.specs.declared.stmt.Stmt.{Stmt}
use Rattle.m2_tree.specs.declared.decl.Section.{Section}
use Rattle.m2_tree.specs.declared.decl.Heading.{Heading}
use Rattle.m2_tree.specs.declared.decl.Decl.{Decl, Decl-F, out-Decl}
use Rattle.m2_tree.specs.declared.decl.Decl.TheOpen as layer
use Rattle.m2_tree.specs.declared.decl.Block.{Block, out-Block}
use Rattle.typed_tree.specs.declared.meaning.Meaning.{Meaning}
use Rattle.typed_tree.specs.declared.meaning.Meaning.TheVariants as meaning
use Rattle.typed_tree.specs.declared.meaning.Procedure.{Procedure as ModuleProcedure}
use Rattle.typed_tree.specs.declared.statement.TypedStmt.{TypedStmt}
use Rattle.typed_tree.specs.declared.table.Table.{Table}
use Rattle.typed_tree.specs.declared.types.TypeNo.{TypeNo}
use Rattle.typed_tree.specs.declared.typed_module.Routine.{Routine}
use Rattle.typed_tree.specs.declared.typed_module.Which.{Which}
use Rattle.typed_tree.specs.declared.typed_module.Which.TheVariants as which
use Rattle.typed_tree.specs.declared.known_types.Types.{Types}
use Rattle.typed_tree.specs.Types.{integer}
use Rattle.typed_tree.specs.Names.{find_name}
use Rattle.check_scope.specs.declared.known.Known.{Known}
use Rattle.check_scope.specs.declared.known.Known.TheVariants as known
use Rattle.check_scope.specs.declared.known.Origin.TheVariants.{Here}
use Rattle.check_scope.specs.declared.meaningless.Meaningless.{Meaningless}
use Rattle.check_scope.specs.declared.scope.Block.{Block as Around}
use Rattle.check_scope.specs.declared.scope.OpenedRecord.{OpenedRecord}
use Rattle.check_scope.specs.declared.scope.Scope.{Scope}
use Rattle.check_scope.specs.Elaborated.{Gathers, beside}
use Rattle.check_scope.specs.Scopes.{looked_up, known_outside, or_around, means_as}
use Rattle.check_const.specs.Denote.{exported_by}
use Rattle.check_stmt_parts.specs.Control.{is_own}
use Rattle.check_block.specs.Naming.{marked_decl, all_marked}
use Rattle.check_block.specs.Declarations.{declared_block}
use Rattle.check_scope.specs.Inwards.{split_last, pop_block}
use Rattle.check_body.specs.declared.routine.Numbered.{Numbered as NumberedProcedure}
use Rattle.check_body.specs.declared.routine.Bodies.{Bodies as Routined}
use Rattle.check_body.specs.Routines.{numbered_known, put_routine, routine, empty_routine}
use Rattle.check_body.specs.declared.procedure.Walk.{Walk}
use Rattle.check_body.specs.declared.procedure.Begun.{Begun}
use Rattle.check_body.specs.Elaborating.{statements_of}
use Rattle.check_body.specs.Inside.{which_of, begun_procedure, reported_in, with_routine as body_put}
use Rattle.check_body.specs.Bodies.{Checked, with_body, begun_block, procedure_checked, checks_block, checks_decl, bodies_checked}
use Rattle.check_body.specs.Checks.{elaborate_body}
use Rattle.def_typing.specs.Shapes.{IsMade}
use Rattle.def_typing.specs.Things.{AVariable, Standing, Known as Stands}
use Rattle.def_typing.specs.Parts.{Among, here, later}
use Rattle.def_typing.specs.TypeNames.{NamesType, BrokenTypeName}
use Rattle.def_typing.specs.Statements.{Broken}
use Rattle.def_typing.specs.Declarations.{Declaration, OfProcedure, declared_by, declarations_of, AnyDeclares, Declared as Resolved, types_behind}
use Rattle.def_typing.specs.Bodies.{Place, statements_in, body_spot, IsNoProcedure, Reads, reads, ReadsBodies, no_more, no_body, a_body, BrokenBlock, BrokenBodies}
use Rattle.def_typed.specs.Named.{named}
use Rattle.def_typed.specs.Numbers.{variables_in, variable_at, headings_by, headings_in, procedures_in, nested_numbers, next_nested}
use Rattle.def_typed.specs.Blocks.{Before, MeansBehind}
use Rattle.def_typed.specs.Bodies.{routine_of, Routines, no_routines, with_routine, first_within, next_number, HaveTypes, IsEntered, before_entered, senses_at, body_site, MeansBlock, MeansBodies}
use Rattle.def_typed.specs.Statements.{Site, AllMean}
use Rattle.law_typing.specs.Judging.{Judges, Reports, reports_nothing, reports_broken, Answers, means, refuses}
use Rattle.law_typing.proofs.Blocks.{block_answers}
use Rattle.law_typing.specs.Exact.{Sees, Exports, Knows, KnowsOwn, Repeats, of_heading, of_declaration, RepeatsResult, KnowsSpot, is_own_variable, is_nested, IsAsBefore, IsBlockExact}
use Rattle.law_typing.proofs.Combining.{Lawful, Tells, silent, tells, tells_as, beside_tells}
use Rattle.law_typing.proofs.TypeNaming.{type_name_answers}
use Rattle.law_typed.specs.Typed.{IsOne, KnowsSite}
use Rattle.law_typed.proofs.Meant.{if_answered}
use Rattle.law_numbers.specs.Numbered.{AreNumbered}
use Rattle.law_numbers.specs.Counted.{AreCounted, behind_nested}
use Rattle.law_numbers.specs.Sensed.{AreSensed}
use Rattle.law_numbers.specs.Inside.{Surrounds, AreSensedInside}
use Rattle.law_numbers.proofs.Within.{block_behind}
use Rattle.law_numbers.proofs.Blocks.{block_numbered}
use Rattle.law_numbers.proofs.Senses.{variable_stands, module_entry, nested_entry, senses_known}
use Rattle.law_numbers.proofs.Inside.{insides_known}
use Rattle.law_rules.proofs.Following.{Associates, block_moves}
use Rattle.law_rules.proofs.BlocksAgain.{block_again}
use Rattle.law_typing.specs.Again.{ReadsAgain}
use Rattle.def_typing.specs.Again.{BrokenAgain}
use Rattle.law_rules.specs.Blocks.{KnowsPlace, BlocksAreWhole}
use Rattle.law_rules.proofs.BodiesKeeping.{Grows, Keeps}
use Rattle.law_rules.proofs.Layers.{checks_written, checks_is, written, block_is, all_blocks}
use Rattle.law_rules.proofs.Extending.{Extends, extends_then, extends_behind}
use Rattle.law_rules.proofs.Reading.{All, Breaks}
use Rattle.law_rules.proofs.Seeing.{PlaceIs, looked_around, around_some, sees_ok}
use Rattle.law_rules.proofs.Placing.{seen_at, behind_all, declared_keeps, grows_before, none_first, declared_there, place}
use Rattle.law_rules.proofs.Entering as entering
use Rattle.law_rules.proofs.Stating.{statements_tell}
use Rattle.law_rules.proofs.MeantLists.{put_all, put_none, put_module, put_local, put_length, begun_first, begun_module, begun_local, Counts, other_nested, counts_other, counts_procedure, counts_inside, next_is, heading_there, number_there}
use Rattle.law_rules.proofs.MeantStatements.{statements_meant}
use Rattle.law_rules.proofs.Meant.{Finds, beside_fine, never_broken, body_there, types_one, have_types, IsHeaded, of_module, of_procedure, headed_routine, headed_number, same_pair, Numbers, Starts, Exporting, IsMeant}

clash : {b : Bool} → b ≡ true → b ≡ false → ⊥
clash p q = let z = sym p ∙ q in absurd cc

-- what is left of a list
rest_at : {A : Type 0} (n i : ℕ) (xs : List A) → slice_get (drop n xs) i ≡ slice_get xs (n + i)
rest_at n i [] = none n i
  where
    none : {A : Type 0} (n i : ℕ) → ◌≡◌ {A = Option A} (slice_get (drop n []) i) (slice_get [] (n + i))
    none zero i = refl
    none (suc n) i = refl
rest_at zero i (x ∷ xs) = let e : i ≡ 0 + i = omega arith in ap (λ (k : ℕ). slice_get (x ∷ xs) k) e
rest_at (suc n) i (x ∷ xs) = let e : suc (n + i) ≡ suc n + i = omega arith in
    rest_at n i xs ∙ ap (λ (k : ℕ). slice_get (x ∷ xs) k) e

-- A list that begins with another is that list with what is left.
first_part : {A : Type 0} (xs ys : List A) → ((i : ℕ) (x : A) → slice_get xs i ≡ Some x → slice_get ys i ≡ Some x)
    → ys ≡ xs ++ drop (length xs) ys
first_part [] ys h = refl
first_part (x ∷ xs) [] h = let e = h 0 x refl in absurd cc
first_part {A = A} (x ∷ xs) (y ∷ ys) h = let e : y ≡ x = same (h 0 x refl) in
    ap (λ (z : A). z ∷ ys) e ∙ ap (λ (zs : List A). x ∷ zs) (first_part xs ys (λ i z q. h (suc i) z q))
  where
    same : {A : Type 0} {a b : A} → ◌≡◌ {A = Option A} (Some a) (Some b) → a ≡ b
    same e = cc e

rest_length : {A : Type 0} (n k : ℕ) (xs : List A) → length xs ≡ n + k → length (drop n xs) ≡ k
rest_length zero k xs e = omega (arith, e)
rest_length (suc n) k [] e = omega (arith, e)
rest_length (suc n) k (x ∷ xs) e = rest_length n k xs (omega (arith, e))

-- ---- lists

nil : {A : Type 0} (xs : List A) → xs ++ [] ≡ xs
nil [] = refl
nil (x ∷ xs) = ap (λ (ys : List _). x ∷ ys) (nil xs)

assoc : {A : Type 0} (xs ys zs : List A) → (xs ++ ys) ++ zs ≡ xs ++ (ys ++ zs)
assoc [] ys zs = refl
assoc (x ∷ xs) ys zs = ap (λ (ws : List _). x ∷ ws) (assoc xs ys zs)

declarations_append : (xs ys : List Decl) → declarations_of (xs ++ ys) ≡ declarations_of xs ++ declarations_of ys
declarations_append [] ys = refl
declarations_append (x ∷ xs) ys = ap (λ (ds : List Declaration). declared_by (out-Decl x) ++ ds)
    (declarations_append xs ys) ∙ sym (assoc (declared_by (out-Decl x)) (declarations_of xs) (declarations_of ys))

one_more : (pre : List Decl) (d : Decl) → declarations_of (pre ++ d ∷ []) ≡ declarations_of pre
    ++ declared_by (out-Decl d)
one_more pre d = declarations_append pre (d ∷ [])
    ∙ ap (λ (ds : List Declaration). declarations_of pre ++ ds) (nil (declared_by (out-Decl d)))

among_front : (pre : List Decl) (d : Decl) (rest : List Decl) → Among d (pre ++ d ∷ rest)
among_front [] d rest = here
among_front (x ∷ pre) d rest = later (among_front pre d rest)

among_left : {A : Type 0} {x : A} (xs ys : List A) → Among x xs → Among x (xs ++ ys)
among_left _ ys here = here
among_left (y ∷ xs) ys (later m) = later (among_left xs ys m)

split_one : {A : Type 0} (xs : List A) (x : A) → split_last (xs ++ x ∷ []) ≡ Some (xs, x)
split_one [] x = refl
split_one (y ∷ xs) x = ap (λ (o : Option (List _ × _)). elim o [ None ↦ Some ([], y) | Some p ↦ Some (y ∷ p.0, p.1) ])
    (split_one xs x)

length_one : {A : Type 0} (xs : List A) (x : A) → length (xs ++ x ∷ []) ≡ length xs + 1
length_one [] x = refl
length_one (y ∷ xs) x = let e = length_one xs x in omega (arith, e)

among_behind : {A : Type 0} {x : A} (xs : List A) {ys : List A} → Among x ys → Among x (xs ++ ys)
among_behind [] i = i
among_behind (y ∷ xs) i = later (among_behind xs i)

no_heading_by : (y : Decl-F Decl Block) → IsNoProcedure y → headings_by y ≡ []
no_heading_by (layer.Constants cs) n = refl
no_heading_by (layer.Types ts) n = refl
no_heading_by (layer.Variables vs) n = refl
no_heading_by (layer.Procedure h b) n = absurd n

one_heading : {T : Type 0} {o : Option (Known T)} {m n : Meaning} → o ≡ Some (known.Headed (Ok m))
    → o ≡ Some (known.Headed (Ok n)) → m ≡ n
one_heading {T = T} {m = m} {n = n} e q =
    let z : ◌≡◌ {A = Option (Known T)} (Some (known.Headed (Ok m))) (Some (known.Headed (Ok n))) = sym e ∙ q in cc z

-- ---- scopes that know the same names

pub record Still {T : Type 0} (s t : Scope T) : Type 0 where
  pub own : t.own ≡ s.own
  pub outer : t.outer ≡ s.outer
  pub level : t.level ≡ s.level
  pub tables : t.tables ≡ s.tables
  pub withs : t.withs ≡ s.withs
  pub home : t.types.home ≡ s.types.home
  pub variables : t.variables ≡ s.variables

still_refl : {T : Type 0} (s : Scope T) → Still s s
still_refl s = record {
  own = refl;
  outer = refl;
  level = refl;
  tables = refl;
  withs = refl;
  home = refl;
  variables =
      refl;
}

still_then : {T : Type 0} {a b c : Scope T} → Still a b → Still b c → Still a c
still_then p q = record {
  own = q.own ∙ p.own;
  outer = q.outer ∙ p.outer;
  level = q.level ∙ p.level;
  tables = q.tables
      ∙ p.tables;
  withs = q.withs ∙ p.withs;
  home = q.home ∙ p.home;
  variables = q.variables ∙ p.variables;
}

still_same : {T : Type 0} {s t : Scope T} → t ≡ s → Still s t
still_same {s = s} e = subst (λ (t : Scope _). Still s t) (sym e) (still_refl s)

module _ (g : Gathers) (j : Judges g) where
  module _ {s t : Scope g.Reported} (e : Still s t) (no_withs : s.withs ≡ []) where
    looked_still : (name : Ident) → looked_up g t name ≡ looked_up g s name
    looked_still name = looked_around g t 0 (e.withs ∙ no_withs) name
        ∙ ap (λ (own : List (List ℕ × Known g.Reported)). means_as g name.pos
        (or_around (find_name name.name own) (known_outside name.name t.outer))) e.own
        ∙ ap (λ (bs : List (Around g.Reported)). means_as g name.pos
        (or_around (find_name name.name s.own) (known_outside name.name bs))) e.outer
        ∙ sym (looked_around g s 0 no_withs name)

    knows_still : {names : Ident → Standing} {exports : ℕ → Ident → Standing} → Knows g j names exports s
        → Knows g j names exports t
    knows_still {names = names} {exports = exports} k = record {
      of_names = λ name. subst (λ (r : Result Meaning (Meaningless g.Reported)). Sees g j name.pos (names name) r)
          (sym (looked_still name)) (k.of_names name);
      of_modules = λ n name. subst (λ (ts : List Table). Exports g j (exports n name)
          (exported_by name.name (slice_get ts n))) (sym e.tables) (k.of_modules n name);
    }

    repeats_still : {names : Ident → Standing} (f : Breach) → Repeats g j names t f → Repeats g j names s f
    repeats_still f (of_heading {name = name} q l m) = of_heading q (sym (looked_still name) ∙ l) m
    repeats_still f (of_declaration {name = name} q l m) = of_declaration q (sym (looked_still name) ∙ l) m

    own_still : (m : Meaning) → is_own_variable t m ≡ is_own_variable s m
    own_still (meaning.Constant v) = refl
    own_still (meaning.Type u n) = refl
    own_still (meaning.Variable v) = ap (λ (n : ℕ). v.home == n) e.home
    own_still (meaning.Local v) = ap (λ (n : ℕ). is_own v.kind && (v.level == n)) e.level
    own_still (meaning.Field f) = refl
    own_still (meaning.Procedure p) = refl
    own_still (meaning.LocalProcedure p) = refl
    own_still meaning.Ahead = refl
    own_still (meaning.Standard f) = refl
    own_still (meaning.Module k) = refl

    owns_still : {own : Ident → Bool} → KnowsOwn g j own s → KnowsOwn g j own t
    owns_still k name m q = k name m (sym (looked_still name) ∙ q) ∙ sym (own_still m)

    keeps_still : {start : Scope g.Reported} → Keeps start s → Keeps start t
    keeps_still {start = start} k = record {
      tables = e.tables ∙ k.tables;
      outer = e.outer ∙ k.outer;
      level = e.level ∙ k.level;
      withs = e.withs ∙ k.withs;
      home = e.home ∙ k.home;
      grows = subst (λ (own : List (List ℕ × Known g.Reported)). Grows start.own own) (sym e.own) k.grows;
      entries = λ n x q. k.entries n x (ap (λ (own : List (List ℕ × Known g.Reported)). find_name n own) (sym e.own)
          ∙ q);
    }

-- ---- what is reported

module _ (g : Gathers) (associates : Associates g) where
  abbrev R : Type 0
  R = Result (Unit {0}) g.Reported

  pub beside_beside : (a b c : R) → beside g (beside g a b) c ≡ beside g a (beside g b c)
  beside_beside (Ok u) (Ok v) (Ok w) = refl
  beside_beside (Ok u) (Ok v) (Err z) = refl
  beside_beside (Ok u) (Err y) (Ok w) = refl
  beside_beside (Ok u) (Err y) (Err z) = refl
  beside_beside (Err x) (Ok v) (Ok w) = refl
  beside_beside (Err x) (Ok v) (Err z) = refl
  beside_beside (Err x) (Err y) (Ok w) = refl
  beside_beside (Err x) (Err y) (Err z) = ap (λ (e : g.Reported). Err e) (associates x y z)

  pub beside_nothing : (a : R) → a ≡ beside g a (Ok tt)
  beside_nothing (Ok u) = refl
  beside_nothing (Err x) = refl

  pub nothing_beside : (a : R) → beside g (Ok tt) a ≡ a
  nothing_beside (Ok u) = refl
  nothing_beside (Err x) = refl

module _ (g : Gathers) (j : Judges g) (lawful : Lawful g j) where
  pub more_tells : {O U B : Breach → Type 0} {r : Result (Unit {0}) g.Reported} → ((f : Breach) → O f → U f)
      → Tells g j lawful O B r → Tells g j lawful U B r
  more_tells h (silent n) = silent n
  more_tells h (tells r a) = tells r (record
      { only = λ f m. elim (a.only f m) [ inl b ↦ inl b | inr o ↦ inr (h f o) ]; each = a.each })

  -- what is repeated of a part that is reported too
  pub closed : {O B C : Breach → Type 0} {r : Result (Unit {0}) g.Reported}
      → Tells g j lawful (λ f. O f ⊎ B f) (λ f. B f ⊎ C f) r → Tells g j lawful O (λ f. B f ⊎ C f) r
  closed (silent n) = silent n
  closed (tells r a) = tells r (record {
    only =
        λ f m. elim (a.only f m) [ inl c ↦ inl c | inr o ↦ elim o [ inl q ↦ inr q | inr b ↦ inl (inl b) ] ];
    each =
        a.each;
  })

  pub told : {O B : Breach → Type 0} {r : Result (Unit {0}) g.Reported} → Reports g j O B r → Tells g j lawful O B r
  told (reports_nothing n) = silent n
  told (reports_broken r a) = tells r a

  pub reported : {O B : Breach → Type 0} {r : Result (Unit {0}) g.Reported} → Tells g j lawful O B r → Reports g j O B r
  reported (silent n) = reports_nothing n
  reported (tells r a) = reports_broken r a

-- ---- a block

module _ (g : Gathers) (j : Judges g) (lawful : Lawful g j) (associates : Associates g) (exports : ℕ → Ident → Standing)
  where
    abbrev E : Type 0
    E = Result (Unit {0}) g.Reported

    -- what is known behind a block
    pub record Done (ends : List ℕ) (around : Option Which) (p : Place) (returns : Option (Result TypeNo g.Reported))
        (b : Block) (w : Walk g.Reported) (c : Checked g.Reported) : Type 0 where
      pub read : Reads exports p w.scope.types b c.0.scope.types
      pub more : Result (Unit {0}) g.Reported
      pub so_far : c.0.so_far ≡ beside g w.so_far more
      pub refused : Tells g j lawful (RepeatsResult g j p.names w.scope returns) (BrokenBlock exports read)
          (beside g more (reported_in c.1))
      pub extends : Extends w.scope.types c.0.scope.types
      pub keeps : Keeps w.scope c.0.scope
      pub meant : Finds g j → Starts g j exports p w.scope (length w.bodies.locals) returns ends (out-Block b).decls
          → beside g more (reported_in c.1) ≡ Ok tt → IsMeant g j exports p w.scope w.bodies ends around read c

    abbrev pub Turn : Block → Type 0
    Turn b = (p : Place) (w : Walk g.Reported) (returns : Option (Result TypeNo g.Reported))
        → KnowsPlace g j exports p w.scope returns → (ends : List ℕ) (around : Option Which)
        → Done ends around p returns b w (checks_block g (elaborate_body g) ends b around returns w)

    module _ (b : Block)
        (inner : (d : Decl) (h : Heading) (c : Block) → Among d (out-Block b).decls → out-Decl d ≡ layer.Procedure h c
        → Turn c)
        (given : Place) (start : Scope g.Reported) (returns : Option (Result TypeNo g.Reported))
        (at : KnowsPlace g j exports given start returns) (ends : List ℕ) (around : Option Which) (first : ℕ) where
      abbrev pub p : Place
      p = record given { nested = is_nested start }

      abbrev pub ds : List Decl
      ds = (out-Block b).decls

      pub of_block : IsBlockExact g j exports p.names start p.taken p.awaited ends first ds
      of_block = block_answers g j lawful exports p.names start p.taken p.awaited at.names at.no_withs at.takes ends
          first
          ds

      abbrev pub block : List Declaration
      block = declarations_of ds

      abbrev pub whole : List Resolved
      whole = of_block.whole

      abbrev pub names : Ident → Standing
      names = of_block.stand.0

      abbrev pub own : Ident → Bool
      own = (of_block.own p.own at.own).0

      abbrev pub sd : Scope g.Reported
      sd = behind_all g ends first start ds

      sd_keeps : Keeps start sd
      sd_keeps = declared_keeps g ends first start ds

      sd_withs : sd.withs ≡ []
      sd_withs = sd_keeps.withs ∙ at.no_withs

      abbrev pub Broke : Breach → Type 0
      Broke = Breaks start.types exports p.names p.taken p.awaited (is_nested start) block whole

      abbrev pub Else : Breach → Type 0
      Else f = RepeatsResult g j p.names start returns f ⊎ Broke f

      else_of : (f : Breach) → Repeats g j names sd f ⊎ Broke f → Else f
      else_of f (inl o) = elim (of_block.repeated names of_block.stand.1 f o) [ inl q ↦ inl (inl q) | inr c ↦ inr c ]
      else_of f (inr c) = inr c

      -- what is broken in their expressions where they are read again
      abbrev pub Again : Breach → Type 0
      Again = BrokenAgain (types_behind start.types whole) exports p.taken block names [] block

      again_known : ReadsAgain g j exports names sd p.taken block (length start.own)
      again_known = block_again g j exports p.names start p.taken p.awaited at.takes at.no_withs ends first ds of_block
          names of_block.stand.1

      pub declared_refused : Tells g j lawful Else (λ f. Broke f ⊎ Again f)
          (declared_block g ends (start, Ok tt) first ds).1
      declared_refused = more_tells g j lawful (λ f o. inl (inl o))
          (told g j lawful (of_block.reported names of_block.stand.1 again_known))

      -- ---- what is known by number, if nothing is reported of the declarations

      abbrev pub Fine : Type 0
      Fine = (declared_block g ends (start, Ok tt) first ds).1 ≡ Ok tt

      abbrev pub Begins : Type 0
      Begins = Starts g j exports p start first returns ends ds

      abbrev pub Numbered : Before → Type 0
      Numbered q = Numbers g j exports p start first ends ds q

      abbrev pub Senses : Before → (Ident → Option Meaning) → Type 0
      Senses q of_names = (name : Ident) → MeansBehind q p.taken p.awaited names ds name (of_names name)

      abbrev outermost : Bool
      outermost = start.level == 0

      declared_at : Fine → (q : Before) → Numbered q → (declared_block g ends (start, Ok tt) q.nested ds).1 ≡ Ok tt
      declared_at fine q n = subst (λ (k : ℕ). (declared_block g ends (start, Ok tt) k ds).1 ≡ Ok tt) (sym n.from) fine

      sensed : Fine → (q : Before) → Numbered q → AreSensed g p q names ds sd
      sensed fine q n = subst (λ (k : ℕ). AreSensed g p q names ds (declared_block g ends (start, Ok tt) k ds).0) n.from
          (senses_known g j lawful exports p q start ends ds n.begins (declared_at fine q n) whole of_block.in_text
          names
          of_block.stand.1
          (subst (λ (k : ℕ). Knows g j names exports (declared_block g ends (start, Ok tt) k ds).0) (sym n.from)
          (of_block.known names of_block.stand.1)))

      never : Fine → Begins → (f : Breach) → Else f → ⊥
      never fine s f (inl r) = s.fresh f r
      never fine s f (inr c) = never_broken g j lawful declared_refused fine f (inl c)

      record HeadedAt (h : Heading) (n : ℕ) : Type 0 where
        pub means : Meaning
        pub which : Which
        pub heading : TypeNo
        pub entry : find_name h.name.name sd.own ≡ Some (known.Headed (Ok means))
        pub is : IsHeaded start.level n means which heading

      module _ (fine : Fine) (s : Begins) (pre : List Decl) (d : Decl) (rest : List Decl) (h : Heading) (c : Block)
          (split : ds ≡ pre ++ d ∷ rest) (is : out-Decl d ≡ layer.Procedure h c) (n : ℕ) where
        abbrev q : Before
        q = s.before

        level_is : {o : Bool} → outermost ≡ o → (q.level == 0) ≡ o
        level_is e = ap (λ (l : ℕ). l == 0) (sym s.numbers.begins.of_level) ∙ e

        at_first : {A : Type 0} {V : A → Meaning} → (x : A)
            × (find_name h.name.name (declared_block g ends (start, Ok tt) q.nested ds).0.own
            ≡ Some (known.Headed (Ok (V x))))
            → (x : A) × (find_name h.name.name sd.own ≡ Some (known.Headed (Ok (V x))))
        at_first {A = A} {V = V} r = subst (λ (k : ℕ). (x : A)
            × (find_name h.name.name (declared_block g ends (start, Ok tt) k ds).0.own
            ≡ Some (known.Headed (Ok (V x)))))
            s.numbers.from r

        headed_by : (o : Bool) → outermost ≡ o → Counts o ends first pre (d ∷ rest) n → HeadedAt h n
        headed_by true e k =
            let r = at_first {V = λ a. meaning.Procedure a}
            (module_entry g j exports p q start ends ds s.numbers.begins (declared_at fine q s.numbers) (level_is e) h
            (subst (λ (xs : List Decl). Among h (headings_in xs)) (sym split) (heading_there d h c is rest pre))) in
            record {
              means = meaning.Procedure r.0;
              which = which.Module r.0.number;
              heading = r.0.heading;
              entry = r.1;
              is = of_module e r.0;
            }
        headed_by false e (k, m) =
            let r = at_first {V = λ t. meaning.LocalProcedure (record { level = start.level; number = n; heading = t })}
            (nested_entry g j exports p q start ends ds s.numbers.begins (declared_at fine q s.numbers) (level_is e) h
            n
            (subst (λ (i : ℕ). Among {A = Heading × ℕ} (h, n) (nested_numbers i ds)) (sym s.numbers.from)
            (subst (λ (xs : List Decl). Among {A = Heading × ℕ} (h, n) (nested_numbers first xs)) (sym split)
            (subst (λ (i : ℕ). Among {A = Heading × ℕ} (h, i) (nested_numbers first (pre ++ d ∷ rest))) (sym m)
            (number_there d h c is rest first pre))))) in
            record {
              means = meaning.LocalProcedure (record { level = start.level; number = n; heading = r.0 });
              which =
                  which.Local n;
              heading = r.0;
              entry = r.1;
              is = of_procedure e r.0;
            }

        headed_at : Counts outermost ends first pre (d ∷ rest) n → HeadedAt h n
        headed_at k = headed_by outermost refl k

      -- ---- the walk through the procedures

      abbrev pub Bodies : List Declaration → Types → List Decl → Types → Type 0
      Bodies front types rest end = ReadsBodies exports p block names own front types rest end

      abbrev pub IsProcedureAt : Heading → ModuleProcedure → Type 0
      IsProcedureAt h a = find_name h.name.name sd.own ≡ Some (known.Headed (Ok (meaning.Procedure a)))

      -- what is known of the procedures that are left, if nothing is reported
      pub record IsWalkMeant {front : List Declaration} {rest : List Decl} (v u : Walk g.Reported)
          (walk : Bodies front v.scope.types rest u.scope.types) : Type 0 where
        pub routines : Routines
        pub of_bodies : u.bodies ≡ put_all v.bodies routines
        pub counted : outermost ≡ false → length routines.locals + length v.bodies.locals
            ≡ behind_nested (length v.bodies.locals) rest
        pub numbers : outermost ≡ true → (h : Heading) → Among h (headings_in rest) → (a : ModuleProcedure)
            → IsProcedureAt h a → (r : Routine) × Among (a.number, r) routines.procedures
        pub holds : (of_exports : ℕ → Ident → Option Meaning) → Exporting g j exports of_exports start.tables
            → (q : Before) → Numbered q → (of_names : Ident → Option Meaning) → Senses q of_names
            → MeansBodies exports of_exports walk q of_names around (length v.bodies.locals) routines
        pub alone : (of_exports : ℕ → Ident → Option Meaning) → Exporting g j exports of_exports start.tables
            → (q : Before) → Numbered q → (of_names : Ident → Option Meaning) → Senses q of_names
            → (rs : Routines) → MeansBodies exports of_exports walk q of_names around (length v.bodies.locals) rs
            → rs ≡ routines

      abbrev pub Meant : {front : List Declaration} {rest : List Decl} (v u : Walk g.Reported)
          → Bodies front v.scope.types rest u.scope.types → (said : Result (Unit {0}) g.Reported) → Type 0
      Meant {rest = rest} v u walk said = Finds g j → Begins → Fine → said ≡ Ok tt → (pre : List Decl)
          → ds ≡ pre ++ rest
          → Counts outermost ends first pre rest (length v.bodies.locals) → IsWalkMeant v u walk

      pub record Walked (front : List Declaration) (rest : List Decl) (v u : Walk g.Reported) : Type 0 where
        pub walk : Bodies front v.scope.types rest u.scope.types
        pub said : Result (Unit {0}) g.Reported
        pub sum : u.so_far ≡ beside g v.so_far said
        pub refused : Tells g j lawful Else (BrokenBodies exports walk) said
        pub grown : Extends v.scope.types u.scope.types
        pub still : Still v.scope u.scope
        pub meant : Meant v u walk said

      -- one procedure
      module _ (pre : List Decl) (d : Decl) (rest : List Decl) (split : ds ≡ pre ++ d ∷ rest) (h : Heading) (c : Block)
          (is : out-Decl d ≡ layer.Procedure h c)
          (v : Walk g.Reported) (alike : Still sd v.scope)
          (extends : Extends (types_behind start.types whole) v.scope.types) where
        abbrev front : List Declaration
        front = declarations_of pre

        text : block ≡ front ++ OfProcedure h ∷ declarations_of rest
        text = ap declarations_of split ∙ declarations_append pre (d ∷ rest)
            ∙ ap (λ (y : Decl-F Decl Block). front ++ (declared_by y ++ declarations_of rest)) is

        abbrev seen : ℕ
        seen = length (fold marked_decl start pre).own

        v_keeps : Keeps start v.scope
        v_keeps = keeps_still g j alike sd_withs sd_keeps

        grows_now : (xs ys : List Decl) → xs ++ ys ≡ pre ++ d ∷ rest → Grows (fold marked_decl start xs).own v.scope.own
        grows_now xs ys e = subst (λ (es : List (List ℕ × Known g.Reported)). Grows (fold marked_decl start xs).own es)
            (ap (λ (zs : List Decl). (behind_all g ends first start zs).own) (e ∙ sym split) ∙ sym alike.own)
            (grows_before g ends first start xs ys)

        others_now : (n : List ℕ) → (p.taken n ≡ false → AnyDeclares block n → ⊥)
            → IsAsBefore (find_name n start.own) (find_name n v.scope.own)
        others_now n q = subst (λ (es : List (List ℕ × Known g.Reported)). IsAsBefore (find_name n start.own)
            (find_name n es)) (sym alike.own) (of_block.others n q)

        others_split : (n : List ℕ) → (p.taken n ≡ false → AnyDeclares (declarations_of (pre ++ d ∷ rest)) n → ⊥)
            → IsAsBefore (find_name n start.own) (find_name n v.scope.own)
        others_split n q = others_now n (λ t a. q t
            (subst (λ (xs : List Decl). AnyDeclares (declarations_of xs) n) split a))

        places_now : (n : List ℕ) → PlaceIs g j p.taken block (AnyDeclares front) start.level v.scope seen n
            (find_name n v.scope.own)
        places_now n = subst (λ (xs : List Decl). PlaceIs g j p.taken (declarations_of xs) (AnyDeclares front)
            start.level v.scope
            (length (fold marked_decl start pre).own) n (find_name n v.scope.own)) (sym split)
            (place g j exports p.names start p.taken p.awaited at.takes at.no_withs pre d rest v.scope grows_now v_keeps
            others_split n)

        there_now : (n : List ℕ) → p.taken n ≡ false → AnyDeclares block n → find_name n v.scope.own ≡ None → ⊥
        there_now n t a e = declared_there g j exports p.names start p.taken p.awaited at.takes at.no_withs pre d rest
            v.scope grows_now v_keeps others_split n t
            (subst (λ (xs : List Decl). AnyDeclares (declarations_of xs) n) split a) e

        none_now : (n : List ℕ) → p.taken n ≡ false → find_name n start.own ≡ None
        none_now n t = none_first g j exports p.names start p.taken p.awaited at.takes at.no_withs n t

        knows_now : (ns : Ident → Standing) → All start.types exports p.names p.taken p.awaited (is_nested start) block
            whole ns → Knows g j ns exports v.scope
        knows_now ns all = knows_still g j alike sd_withs (of_block.known ns all)

        owns_sd : KnowsOwn g j own sd
        owns_sd = of_block.owned p.own own at.own (of_block.own p.own at.own).1

        owns_now : KnowsOwn g j own v.scope
        owns_now = owns_still g j alike sd_withs owns_sd

        -- ---- into it

        abbrev begun : Walk g.Reported × Begun g.Reported
        begun = begun_procedure g v seen h

        abbrev there : Place
        there = entering.place g j lawful exports p start block whole of_block.in_text of_block.added names
            of_block.stand.1 own v.scope v_keeps at.no_withs knows_now at.own owns_now none_now others_now there_now
            at.level at.locals front h (declarations_of rest) text seen places_now extends refl

        abbrev checked : Checked g.Reported
        checked = checks_block g (elaborate_body g) ends c (which_of begun.1.procedure) begun.1.returns begun.0

        abbrev end : Walk g.Reported
        end = procedure_checked g (elaborate_body g) ends h (checks_block g (elaborate_body g) ends c) around seen v

        among_here : Among d ds
        among_here = subst (λ (xs : List Decl). Among d xs) (sym split) (among_front pre d rest)

        done : Done ends (which_of begun.1.procedure) there begun.1.returns c begun.0 checked
        done = inner d h c among_here is there begun.0 begun.1.returns
            (entering.place_known g j lawful exports p start block whole of_block.in_text of_block.added names
            of_block.stand.1 own v.scope v_keeps at.no_withs knows_now at.own owns_now none_now others_now there_now
            at.level at.locals front h (declarations_of rest) text seen places_now extends refl) ends
            (which_of begun.1.procedure)

        -- ---- and out of it

        popped : pop_block (split_last checked.0.scope.outer)
            ≡ pop_block (Some (v.scope.outer, record { names = v.scope.own; seen = seen }))
        popped = ap (λ (bs : List (Around g.Reported)). pop_block (split_last bs)) done.keeps.outer
            ∙ ap (λ (o : Option (List (Around g.Reported) × Around g.Reported)). pop_block o)
            (split_one v.scope.outer (record { names = v.scope.own; seen = seen }))

        end_still : Still v.scope end.scope
        end_still = record {
          own = ap (λ (b : List (Around g.Reported) × List (List ℕ × Known g.Reported)). b.1) popped;
          outer = ap (λ (b : List (Around g.Reported) × List (List ℕ × Known g.Reported)). b.0) popped;
          level = refl;
          tables = done.keeps.tables;
          withs = done.keeps.withs;
          home = done.keeps.home;
          variables = refl;
        }

        refused_here : Tells g j lawful Else (BrokenBlock exports done.read)
            (beside g done.more (reported_in checked.1))
        refused_here = more_tells g j lawful (λ f o. to_else f
            (entering.place_repeats g j lawful exports p start block whole of_block.in_text of_block.added names
            of_block.stand.1 own v.scope v_keeps at.no_withs knows_now at.own owns_now none_now others_now there_now
            at.level at.locals front h (declarations_of rest) text seen places_now extends refl f o)) done.refused
          where
            to_else : (f : Breach) → Repeats g j names v.scope f ⊎ Broke f → Else f
            to_else f (inl o) = else_of f (inl (repeats_still g j alike sd_withs f o))
            to_else f (inr c) = inr c

        sum_here : end.so_far ≡ beside g v.so_far (beside g done.more (reported_in checked.1))
        sum_here = ap (λ (r : Result (Unit {0}) g.Reported). beside g r (reported_in checked.1)) done.so_far
            ∙ beside_beside g associates v.so_far done.more (reported_in checked.1)

        -- ---- by number

        abbrev sight : Ident → Standing
        sight = entering.sight g j lawful exports p start block whole of_block.in_text of_block.added names
            of_block.stand.1 own v.scope v_keeps at.no_withs knows_now at.own owns_now none_now others_now there_now
            at.level at.locals front h (declarations_of rest) text seen places_now extends refl

        abbrev outside : Scope g.Reported
        outside = entering.around g j lawful exports p start block whole of_block.in_text of_block.added names
            of_block.stand.1 own v.scope v_keeps at.no_withs knows_now at.own owns_now none_now others_now there_now
            at.level at.locals front h (declarations_of rest) text seen places_now extends refl

        abbrev count : ℕ
        count = length v.bodies.locals

        level_now : v.scope.level ≡ start.level
        level_now = alike.level ∙ sd_keeps.level

        outer_now : v.scope.outer ≡ start.outer
        outer_now = alike.outer ∙ sd_keeps.outer

        first_inside : length begun.0.bodies.locals ≡ first_within outermost count
        first_inside = begun_first v.scope.level v.bodies ∙ ap (λ (l : ℕ). first_within (l == 0) count) level_now

        module _ (finds : Finds g j) (s : Begins) (fine : Fine) (pre1 : List Decl) (split1 : ds ≡ pre1 ++ d ∷ rest)
            (counts : Counts outermost ends first pre1 (d ∷ rest) count) where
          headed : HeadedAt h count
          headed = headed_at fine s pre1 d rest h c split1 is count counts

          never_here : (f : Breach) → Repeats g j names v.scope f ⊎ Broke f → ⊥
          never_here f (inl r) = never fine s f (else_of f (inl (repeats_still g j alike sd_withs f r)))
          never_here f (inr b) = never fine s f (inr b)

          level_inside : length v.scope.outer ≡ start.level + 1
          level_inside = ap (λ (bs : List (Around g.Reported)). length bs) outer_now ∙ s.deep

          is_inner : (begun.0.scope.level == 0) ≡ false
          is_inner = some_level start.level level_inside
            where
              some_level : {a : ℕ} (b : ℕ) → a ≡ b + 1 → (a == 0) ≡ false
              some_level b e = grind (arith, nat_tests)

          types_inside : (x : Section) → Among x h.formals → (t : TypeNo) × NamesType sight exports x.of.of t
          types_inside x m = by (type_name_answers g j lawful sight exports outside
              (entering.sight_knows g j lawful exports p start block whole of_block.in_text of_block.added names
              of_block.stand.1 own v.scope v_keeps at.no_withs knows_now at.own owns_now none_now others_now there_now
              at.level at.locals front h (declarations_of rest) text seen places_now extends refl) x.of.of)
            where
              by : {r : Result TypeNo g.Reported} →
                  Answers g j (Repeats g j sight outside) (λ (t u : TypeNo). t ≡ u) (NamesType sight exports x.of.of)
                  (BrokenTypeName sight exports x.of.of) r → (t : TypeNo) × NamesType sight exports x.of.of t
              by (means a u i n only z) = (u, n)
              by (refuses r acc n) = let f = finds r in
                  absurd (never_here f.0 (entering.of_formals g j lawful exports p start block whole of_block.in_text
                  of_block.added names of_block.stand.1 own v.scope v_keeps at.no_withs knows_now at.own owns_now
                  none_now
                  others_now there_now at.level at.locals front h (declarations_of rest) text seen places_now extends
                  refl
                  f.0 (elim (acc.only f.0 f.1) [ inl b ↦ inr (x, m, b) | inr o ↦ inl o ])))

          looked_heading : looked_up g sd h.name ≡ Ok headed.means
          looked_heading = around_some g sd 0 sd_withs h.name (known.Headed (Ok headed.means)) headed.entry

          module _ (q : Before) (number : Numbered q) (of_names : Ident → Option Meaning) (senses : Senses q of_names)
            where
              level_q : start.level ≡ q.level
              level_q = number.begins.of_level

              inside_level : length v.scope.outer ≡ q.level + 1
              inside_level = level_inside ∙ ap (λ (l : ℕ). l + 1) level_q

              surrounds : Surrounds g j exports sight of_names outside
              surrounds = record {
                names = entering.sight_knows g j lawful exports p start block whole of_block.in_text of_block.added
                    names
                    of_block.stand.1 own v.scope v_keeps at.no_withs knows_now at.own owns_now none_now others_now
                    there_now
                    at.level at.locals front h (declarations_of rest) text seen places_now extends refl;
                no_withs = entering.no_withs_now g j lawful exports p start block whole of_block.in_text of_block.added
                    names of_block.stand.1 own v.scope v_keeps at.no_withs knows_now at.own owns_now none_now others_now
                    there_now at.level at.locals front h (declarations_of rest) text seen places_now extends refl;
                no_names = refl;
                means = λ name m w l. (sensed fine q number).known name (of_names name) (senses name) m
                    (sym (looked_still g j alike sd_withs name)
                    ∙ entering.around_known g j lawful exports p start block whole of_block.in_text of_block.added names
                    of_block.stand.1 own v.scope v_keeps at.no_withs knows_now at.own owns_now none_now others_now
                    there_now
                    at.level at.locals front h (declarations_of rest) text seen places_now extends refl name m w) l;
              }

              insides : AreSensedInside g exports sight of_names (q.level + 1) h begun.0.scope
              insides = subst (λ (l : ℕ). AreSensedInside g exports sight of_names l h begun.0.scope) inside_level
                  (insides_known g j lawful exports sight of_names outside surrounds h types_inside)

              routine_is : routine_of (named q.level (of_names h.name)) ≡ Some (headed.which, headed.heading)
              routine_is = ap routine_of ((sensed fine q number).known h.name (of_names h.name) (senses h.name)
                  headed.means
                  looked_heading q.level) ∙ headed_routine start.level count q.level headed.is

              abbrev entered : IsEntered exports q sight of_names count h
              entered = record {
                which = headed.which;
                heading = headed.heading;
                is_routine = routine_is;
                inside =
                    λ name. (insides.each name).0;
                means = λ name. (insides.each name).1;
              }

              number_inside : (x : IsEntered exports q sight of_names count h)
                  → Numbers g j exports there begun.0.scope (length begun.0.bodies.locals) ends (out-Block c).decls
                  (before_entered exports x)
              number_inside x = record {
                begins = record {
                  names = known_place.names;
                  no_withs = known_place.no_withs;
                  takes = known_place.takes;
                  of_home = alike.home ∙ sd_keeps.home ∙ number.begins.of_home;
                  of_level = inside_level;
                  variables = insides.counted;
                  procedures = λ e. absurd (outside_level q.level e);
                  means = λ name m w l. insides.known name (x.inside name) (x.means name) m w l;
                  nested = λ e. (
                    (λ n. refl),
                    subst (λ (k : ℕ). AreCounted ends (first_within (k == 0) count)
                        (out-Block c).decls) level_q (counts_inside ends first pre1 d rest count h c is outermost
                        counts),
                  );
                };
                from = ap (λ (k : ℕ). first_within (k == 0) count) (sym level_q) ∙ sym first_inside;
              }
                where
                  known_place : KnowsPlace g j exports there begun.0.scope begun.1.returns
                  known_place = entering.place_known g j lawful exports p start block whole of_block.in_text
                      of_block.added
                      names of_block.stand.1 own v.scope v_keeps at.no_withs knows_now at.own owns_now none_now
                      others_now
                      there_now at.level at.locals front h (declarations_of rest) text seen places_now extends refl

                  outside_level : (k : ℕ) → (k + 1 == 0) ≡ true → ⊥
                  outside_level k e = grind (arith, nat_tests, e)

          -- ---- its block

          starts_inside : Starts g j exports there begun.0.scope (length begun.0.bodies.locals) begun.1.returns ends
              (out-Block c).decls
          starts_inside =
              let o : Ident → Option Meaning = λ name. ((sensed fine s.before s.numbers).each name).0 in
              let e = entered s.before s.numbers o (λ name. ((sensed fine s.before s.numbers).each name).1) in
              record {
                fresh = λ f r. never_here f (entering.place_repeats g j lawful exports p start block whole
                    of_block.in_text of_block.added names of_block.stand.1 own v.scope v_keeps at.no_withs knows_now
                    at.own owns_now none_now others_now there_now at.level at.locals front h (declarations_of rest) text
                    seen places_now extends refl f r);
                deep = length_one v.scope.outer (record { names = v.scope.own; seen = seen });
                outermost = λ t. absurd (clash t is_inner);
                before = before_entered exports e;
                numbers = number_inside s.before s.numbers o (λ name. ((sensed fine s.before s.numbers).each name).1) e;
              }

          procedure_is : begun.1.procedure ≡ Some (record { which = headed.which; heading = headed.heading })
          procedure_is = ap (λ (es : List (List ℕ × Known g.Reported)). numbered_known (find_name h.name.name es))
              alike.own ∙ ap numbered_known headed.entry ∙ headed_number start.level count g.Reported headed.is

          module _ (silence : beside g done.more (reported_in checked.1) ≡ Ok tt) where
            within : IsMeant g j exports there begun.0.scope begun.0.bodies ends (which_of begun.1.procedure) done.read
                checked
            within = done.meant finds starts_inside silence

            abbrev routine_here : Routine
            routine_here = record {
              pos = h.name.pos;
              heading = headed.heading;
              level = start.level + 1;
              around = around;
              variables = within.variables;
              body = within.body;
            }

            routine_as : ◌≡◌ {A = Routine} (routine checked.0.scope h.name
                (record { which = headed.which; heading = headed.heading }) around begun.1.formals within.body)
                routine_here
            routine_as =
                ap (λ (l : ℕ). let r : Routine = record {
                  pos = h.name.pos;
                  heading = headed.heading;
                  level = l;
                  around =
                      around;
                  variables = drop begun.1.formals checked.0.scope.variables;
                  body = within.body;
                } in r)
                (within.of_level ∙ level_inside)
                ∙ ap (λ (vs : List TypeNo). let r : Routine =
                record {
                  pos = h.name.pos;
                  heading = headed.heading;
                  level = start.level + 1;
                  around = around;
                  variables = vs;
                  body = within.body;
                } in r) within.of_variables

            end_bodies : end.bodies ≡ put_routine (put_all begun.0.bodies within.routines) headed.which routine_here
            end_bodies =
                ap (λ (o : Option NumberedProcedure). body_put checked.0.scope h.name around begun.1.formals o checked.1
                checked.0.bodies) procedure_is
                ∙ ap (λ (r : Result (List TypedStmt) g.Reported). body_put checked.0.scope h.name around begun.1.formals
                (Some (record { which = headed.which; heading = headed.heading })) r checked.0.bodies) within.is_body
                ∙ ap (λ (b : Routined). put_routine b headed.which
                (routine checked.0.scope h.name (record { which = headed.which; heading = headed.heading }) around
                begun.1.formals within.body)) within.of_bodies
                ∙ ap (λ (r : Routine). put_routine (put_all begun.0.bodies within.routines) headed.which r) routine_as

            locals_inside : length within.routines.locals ≡ procedures_in c
            locals_inside = within.counted is_inner

            count_behind : length end.bodies.locals ≡ next_number outermost count (out-Decl d)
            count_behind =
                ap (λ (b : Routined). length b.locals) end_bodies
                ∙ put_length (put_all begun.0.bodies within.routines) headed.which routine_here
                ∙ length-append begun.0.bodies.locals within.routines.locals
                ∙ ap (λ (k : ℕ). k + length within.routines.locals) first_inside
                ∙ ap (λ (k : ℕ). first_within outermost count + k) locals_inside
                ∙ next_is ends first pre1 d rest count h c is outermost

            counts_behind : Counts outermost ends first (pre1 ++ d ∷ []) rest (length end.bodies.locals)
            counts_behind = subst (λ (n : ℕ). Counts outermost ends first (pre1 ++ d ∷ []) rest n) (sym count_behind)
                (counts_procedure ends first pre1 d rest count h c is outermost counts)

            around_is : which_of begun.1.procedure ≡ Some headed.which
            around_is = ap which_of procedure_is

            inner_tables : begun.0.scope.tables ≡ start.tables
            inner_tables = alike.tables ∙ sd_keeps.tables

            -- ---- with those behind it

            module _ (u : Walk g.Reported) (walk : Bodies (front ++ declared_by (out-Decl d)) end.scope.types rest
                u.scope.types) (z : IsWalkMeant end u walk) where
              abbrev all_here : Routines
              all_here = with_routine headed.which routine_here within.routines z.routines

              bodies_by : {m : Meaning} {w : Which} {t : TypeNo} → IsHeaded start.level count m w t → (r : Routine)
                  → end.bodies ≡ put_routine (put_all begun.0.bodies within.routines) w r
                  → u.bodies ≡ put_all v.bodies (with_routine w r within.routines z.routines)
              bodies_by (of_module l a) r e =
                  z.of_bodies ∙ ap (λ (b : Routined). put_all b z.routines) e
                  ∙ ap (λ (b : Routined). put_all (put_routine (put_all b within.routines) (which.Module a.number) r)
                  z.routines) (begun_module v.scope.level v.bodies (ap (λ (k : ℕ). k == 0) level_now ∙ l))
                  ∙ put_module v.bodies a.number r within.routines z.routines
              bodies_by (of_procedure l t) r e =
                  z.of_bodies ∙ ap (λ (b : Routined). put_all b z.routines) e
                  ∙ ap (λ (b : Routined). put_all (put_routine (put_all b within.routines) (which.Local count) r)
                  z.routines) (begun_local v.scope.level v.bodies (ap (λ (k : ℕ). k == 0) level_now ∙ l))
                  ∙ put_local v.bodies (empty_routine integer) r within.routines z.routines

              count_by : {m : Meaning} {w : Which} {t : TypeNo} → IsHeaded start.level count m w t → outermost ≡ false
                  → (r : Routine) → length (with_routine w r within.routines z.routines).locals + count
                  ≡ behind_nested count (d ∷ rest)
              count_by (of_module l a) e r = absurd (clash l e)
              count_by (of_procedure l t) e r =
                  let a = length-append within.routines.locals z.routines.locals in
                  let b = locals_inside in
                  let k = z.counted e in
                  let n : length end.bodies.locals ≡ count + 1 + procedures_in c = count_behind
                  ∙ ap (λ (o : Bool). next_number o count (out-Decl d)) e
                  ∙ ap (λ (y : Decl-F Decl Block). next_nested count y) is in
                  let x : behind_nested (length end.bodies.locals) rest ≡ behind_nested count (d ∷ rest) =
                  ap (λ (m : ℕ). behind_nested m rest) n
                  ∙ ap (λ (y : Decl-F Decl Block). behind_nested (next_nested count y) rest) (sym is) in
                  omega (arith, a, b, k, n, x)

              -- the number of this heading
              number_here : {m : Meaning} {w : Which} {t : TypeNo} → IsHeaded start.level count m w t
                  → (a : ModuleProcedure) → m ≡ meaning.Procedure a → (r : Routine)
                  → Among (a.number, r) (with_routine w r within.routines z.routines).procedures
              number_here (of_module l b) a e r = let q : b.number ≡ a.number = cc e in
                  subst (λ (n : ℕ). Among {A = ℕ × Routine} (n, r)
                  (within.routines.procedures ++ (b.number, r) ∷ z.routines.procedures)) q
                  (among_behind within.routines.procedures here)
              number_here (of_procedure l t) a e r = absurd cc

              more_numbers : {x : ℕ × Routine} (w : Which) (r : Routine) → Among x z.routines.procedures
                  → Among x (with_routine w r within.routines z.routines).procedures
              more_numbers (which.Module n) r i = among_behind within.routines.procedures (later i)
              more_numbers (which.Local n) r i = among_behind within.routines.procedures i

              number_by : outermost ≡ true → (k : Heading) (a : ModuleProcedure) → IsProcedureAt k a
                  → Among k (h ∷ headings_in rest) → (r : Routine) × Among (a.number, r) all_here.procedures
              number_by e k a q here = (routine_here, number_here headed.is a (one_heading headed.entry q) routine_here)
              number_by e k a q (later i) = let r = z.numbers e k i a q in
                  (r.0, more_numbers headed.which routine_here r.1)

              here_meant : IsWalkMeant {front = front} {rest = d ∷ rest} v u
                  (a_body sight (entering.inside g j lawful exports p start block whole of_block.in_text of_block.added
                  names of_block.stand.1 own v.scope v_keeps at.no_withs knows_now at.own owns_now none_now others_now
                  there_now at.level at.locals front h (declarations_of rest) text seen places_now extends refl)
                  (entering.gives g j lawful exports p start block whole of_block.in_text of_block.added names
                  of_block.stand.1 own v.scope v_keeps at.no_withs knows_now at.own owns_now none_now others_now
                  there_now
                  at.level at.locals front h (declarations_of rest) text seen places_now extends refl) is
                  (entering.sees g j lawful exports p start block whole of_block.in_text of_block.added names
                  of_block.stand.1 own v.scope v_keeps at.no_withs knows_now at.own owns_now none_now others_now
                  there_now
                  at.level at.locals front h (declarations_of rest) text seen places_now extends refl)
                  (entering.stands_inside g j lawful exports p start block whole of_block.in_text of_block.added names
                  of_block.stand.1 own v.scope v_keeps at.no_withs knows_now at.own owns_now none_now others_now
                  there_now
                  at.level at.locals front h (declarations_of rest) text seen places_now extends refl)
                  (entering.body_gives g j lawful exports p start block whole of_block.in_text of_block.added names
                  of_block.stand.1 own v.scope v_keeps at.no_withs knows_now at.own owns_now none_now others_now
                  there_now
                  at.level at.locals front h (declarations_of rest) text seen places_now extends refl) done.read walk)
              here_meant = record {
                routines = all_here;
                of_bodies = bodies_by headed.is routine_here end_bodies;
                counted = λ e. count_by headed.is e routine_here;
                numbers = λ e k i a q. number_by e k a q
                    (subst (λ (y : Decl-F Decl Block). Among k (headings_by y ++ headings_in rest)) is i);
                holds = holds;
                alone = alone;
              }
                where
                  next_at : (q : Before) → Numbered q
                      → next_number (q.level == 0) count (out-Decl d) ≡ length end.bodies.locals
                  next_at q number = ap (λ (l : ℕ). next_number (l == 0) count (out-Decl d))
                      (sym number.begins.of_level)
                      ∙ sym count_behind

                  exporting : (of_exports : ℕ → Ident → Option Meaning) → Exporting g j exports of_exports start.tables
                      → Exporting g j exports of_exports begun.0.scope.tables
                  exporting of_exports k = subst (λ (ts : List Table). Exporting g j exports of_exports ts)
                      (sym inner_tables) k

                  holds : (of_exports : ℕ → Ident → Option Meaning) → Exporting g j exports of_exports start.tables
                      → (q : Before) → Numbered q → (of_names : Ident → Option Meaning) → Senses q of_names
                      → MeansBodies exports of_exports (a_body {front = front} {d = d} {ds = rest} sight
                      (entering.inside g j lawful exports p start block whole of_block.in_text of_block.added names
                      of_block.stand.1 own v.scope v_keeps at.no_withs knows_now at.own owns_now none_now others_now
                      there_now at.level at.locals front h (declarations_of rest) text seen places_now extends refl)
                      (entering.gives g j lawful exports p start block whole of_block.in_text of_block.added names
                      of_block.stand.1 own v.scope v_keeps at.no_withs knows_now at.own owns_now none_now others_now
                      there_now at.level at.locals front h (declarations_of rest) text seen places_now extends refl)
                      is (entering.sees g j lawful exports p start block whole of_block.in_text of_block.added names
                      of_block.stand.1 own v.scope v_keeps at.no_withs knows_now at.own owns_now none_now others_now
                      there_now at.level at.locals front h (declarations_of rest) text seen places_now extends refl)
                      (entering.stands_inside g j lawful exports p start block whole of_block.in_text of_block.added
                      names of_block.stand.1 own v.scope v_keeps at.no_withs knows_now at.own owns_now none_now
                      others_now there_now at.level at.locals front h (declarations_of rest) text seen places_now
                      extends refl) (entering.body_gives g j lawful exports p start block whole of_block.in_text
                      of_block.added names of_block.stand.1 own v.scope v_keeps at.no_withs knows_now at.own owns_now
                      none_now others_now there_now at.level at.locals front h (declarations_of rest) text seen
                      places_now extends refl) done.read walk) q of_names around count all_here
                  holds of_exports k q number of_names senses =
                      let x = entered q number of_names senses in (
                        x,
                        within.routines,
                        z.routines,
                        within.variables,
                        within.body,
                        subst (λ (a : Option Which). MeansBlock exports of_exports done.read (before_entered exports x)
                            a
                            within.routines within.variables within.body) around_is
                            (within.holds of_exports (exporting of_exports k) (before_entered exports x)
                            (number_inside q number of_names senses x)),
                        subst (λ (n : ℕ). MeansBodies exports of_exports walk q of_names around n z.routines)
                            (sym (next_at q number)) (z.holds of_exports k q number of_names senses),
                        ap (λ (l : ℕ). with_routine headed.which
                            (record {
                              pos = h.name.pos;
                              heading = headed.heading;
                              level = l + 1;
                              around = around;
                              variables = within.variables;
                              body = within.body;
                            }) within.routines z.routines)
                            number.begins.of_level,
                      )

                  routine_made : (w : Which) (t : TypeNo) (l : ℕ) (a b : Routines) (vs : List TypeNo)
                      (xs : List TypedStmt) → w ≡ headed.which → t ≡ headed.heading → l ≡ start.level
                      → a ≡ within.routines → b ≡ z.routines → vs ≡ within.variables → xs ≡ within.body
                      → with_routine w (record {
                        pos = h.name.pos;
                        heading = t;
                        level = l + 1;
                        around = around;
                        variables = vs;
                        body = xs;
                      }) a b ≡ all_here
                  routine_made w t l a b vs xs e1 e2 e3 e4 e5 e6 e7 =
                      ap (λ (w : Which). with_routine w
                      (record {
                        pos = h.name.pos;
                        heading = t;
                        level = l + 1;
                        around = around;
                        variables = vs;
                        body =
                            xs;
                      }) a b) e1
                      ∙ ap (λ (t : TypeNo). with_routine headed.which
                      (record {
                        pos = h.name.pos;
                        heading = t;
                        level = l + 1;
                        around = around;
                        variables = vs;
                        body =
                            xs;
                      }) a b) e2
                      ∙ ap (λ (l : ℕ). with_routine headed.which
                      (record {
                        pos = h.name.pos;
                        heading = headed.heading;
                        level = l + 1;
                        around = around;
                        variables = vs;
                        body = xs;
                      }) a b) e3
                      ∙ ap (λ (a : Routines). with_routine headed.which
                      (record {
                        pos = h.name.pos;
                        heading = headed.heading;
                        level = start.level + 1;
                        around = around;
                        variables = vs;
                        body = xs;
                      }) a b) e4
                      ∙ ap (λ (b : Routines). with_routine headed.which
                      (record {
                        pos = h.name.pos;
                        heading = headed.heading;
                        level = start.level + 1;
                        around = around;
                        variables = vs;
                        body = xs;
                      }) within.routines b) e5
                      ∙ ap (λ (vs : List TypeNo). with_routine headed.which
                      (record {
                        pos = h.name.pos;
                        heading = headed.heading;
                        level = start.level + 1;
                        around = around;
                        variables = vs;
                        body = xs;
                      }) within.routines z.routines) e6
                      ∙ ap (λ (xs : List TypedStmt). with_routine headed.which
                      (record {
                        pos = h.name.pos;
                        heading = headed.heading;
                        level = start.level + 1;
                        around = around;
                        variables = within.variables;
                        body = xs;
                      }) within.routines z.routines) e7

                  alone : (of_exports : ℕ → Ident → Option Meaning) → Exporting g j exports of_exports start.tables
                      → (q : Before) → Numbered q → (of_names : Ident → Option Meaning) → Senses q of_names
                      → (rs : Routines) → MeansBodies exports of_exports
                      (a_body {front = front} {d = d} {ds = rest} sight
                      (entering.inside g j lawful exports p start block whole of_block.in_text of_block.added names
                      of_block.stand.1 own v.scope v_keeps at.no_withs knows_now at.own owns_now none_now others_now
                      there_now at.level at.locals front h (declarations_of rest) text seen places_now extends refl)
                      (entering.gives g j lawful exports p start block whole of_block.in_text of_block.added names
                      of_block.stand.1 own v.scope v_keeps at.no_withs knows_now at.own owns_now none_now others_now
                      there_now at.level at.locals front h (declarations_of rest) text seen places_now extends refl)
                      is (entering.sees g j lawful exports p start block whole of_block.in_text of_block.added names
                      of_block.stand.1 own v.scope v_keeps at.no_withs knows_now at.own owns_now none_now others_now
                      there_now at.level at.locals front h (declarations_of rest) text seen places_now extends refl)
                      (entering.stands_inside g j lawful exports p start block whole of_block.in_text of_block.added
                      names of_block.stand.1 own v.scope v_keeps at.no_withs knows_now at.own owns_now none_now
                      others_now there_now at.level at.locals front h (declarations_of rest) text seen places_now
                      extends refl) (entering.body_gives g j lawful exports p start block whole of_block.in_text
                      of_block.added names of_block.stand.1 own v.scope v_keeps at.no_withs knows_now at.own owns_now
                      none_now others_now there_now at.level at.locals front h (declarations_of rest) text seen
                      places_now extends refl) done.read walk) q of_names around count rs → rs ≡ all_here
                  alone of_exports k q number of_names senses rs (x, a, b, vs, xs, m, r, e) =
                      let w = same_pair (sym x.is_routine ∙ routine_is q number of_names senses) in
                      let i = within.alone of_exports (exporting of_exports k) (before_entered exports x)
                      (number_inside q number of_names senses x) a vs xs
                      (subst (λ (o : Option Which). MeansBlock exports of_exports done.read (before_entered exports x) o
                      a
                      vs xs) (ap (λ (y : Which). Some y) w.0 ∙ sym around_is) m) in
                      let t = z.alone of_exports k q number of_names senses b
                      (subst (λ (n : ℕ). MeansBodies exports of_exports walk q of_names around n b) (next_at q number)
                      r) in
                      e ∙ routine_made x.which x.heading q.level a b vs xs w.0 w.1 (sym number.begins.of_level) i.0 t
                      i.1
                      i.2

        procedure_walked : (u : Walk g.Reported) → Walked (front ++ declared_by (out-Decl d)) rest end u
            → Walked front (d ∷ rest) v u
        procedure_walked u z = record {
          walk = a_body (entering.sight g j lawful exports p start block whole of_block.in_text of_block.added names
              of_block.stand.1 own v.scope v_keeps at.no_withs knows_now at.own owns_now none_now others_now there_now
              at.level at.locals front h (declarations_of rest) text seen places_now extends refl)
              (entering.inside g j lawful exports p start block whole of_block.in_text of_block.added names
              of_block.stand.1 own v.scope v_keeps at.no_withs knows_now at.own owns_now none_now others_now there_now
              at.level at.locals front h (declarations_of rest) text seen places_now extends refl)
              (entering.gives g j lawful exports p start block whole of_block.in_text of_block.added names
              of_block.stand.1 own v.scope v_keeps at.no_withs knows_now at.own owns_now none_now others_now there_now
              at.level at.locals front h (declarations_of rest) text seen places_now extends refl) is
              (entering.sees g j lawful exports p start block whole of_block.in_text of_block.added names
              of_block.stand.1
              own v.scope v_keeps at.no_withs knows_now at.own owns_now none_now others_now there_now at.level at.locals
              front h (declarations_of rest) text seen places_now extends refl)
              (entering.stands_inside g j lawful exports p start block whole of_block.in_text of_block.added names
              of_block.stand.1 own v.scope v_keeps at.no_withs knows_now at.own owns_now none_now others_now there_now
              at.level at.locals front h (declarations_of rest) text seen places_now extends refl)
              (entering.body_gives g j lawful exports p start block whole of_block.in_text of_block.added names
              of_block.stand.1 own v.scope v_keeps at.no_withs knows_now at.own owns_now none_now others_now there_now
              at.level at.locals front h (declarations_of rest) text seen places_now extends refl) done.read z.walk;
          said = beside g (beside g done.more (reported_in checked.1)) z.said;
          sum = z.sum ∙ ap (λ (r : Result (Unit {0}) g.Reported). beside g r z.said) sum_here
              ∙ beside_beside g associates v.so_far (beside g done.more (reported_in checked.1)) z.said;
          refused = beside_tells g j lawful Else refused_here z.refused;
          grown = extends_then v.scope.types end.scope.types u.scope.types done.extends z.grown;
          still = still_then end_still z.still;
          meant = λ finds s fine silence pre1 split1 counts.
              let here = beside_fine g (beside g done.more (reported_in checked.1)) z.said silence in
              here_meant finds s fine pre1 split1 counts here.0 u z.walk
              (z.meant finds s fine here.1 (pre1 ++ d ∷ []) (split1 ∙ sym (assoc pre1 (d ∷ []) rest))
              (counts_behind finds s fine pre1 split1 counts here.0));
        }

      -- ---- one declaration

      no_procedure : (d : Decl) (rest : List Decl) (front : List Declaration) (v u : Walk g.Reported)
          → IsNoProcedure (out-Decl d) → Walked (front ++ declared_by (out-Decl d)) rest v u
          → Walked front (d ∷ rest) v u
      no_procedure d rest _ v u n z = record {
        walk = no_body n z.walk;
        said = z.said;
        sum = z.sum;
        refused = z.refused;
        grown = z.grown;
        still = z.still;
        meant = λ finds s fine silence pre split counts.
            let m = z.meant finds s fine silence (pre ++ d ∷ []) (split ∙ sym (assoc pre (d ∷ []) rest))
            (counts_other ends first pre d rest (length v.bodies.locals) outermost n counts) in
            record {
              routines = m.routines;
              of_bodies = m.of_bodies;
              counted = λ e. m.counted e ∙ ap (λ (n : ℕ). behind_nested n rest)
                  (sym (other_nested (length v.bodies.locals) (out-Decl d) n));
              numbers = λ e h i a q. m.numbers e h
                  (subst (λ (hs : List Heading). Among h (hs ++ headings_in rest)) (no_heading_by (out-Decl d) n) i) a
                  q;
              holds = λ of_exports k q number of_names senses. m.holds of_exports k q number of_names senses;
              alone = λ of_exports k q number of_names senses rs r. m.alone of_exports k q number of_names senses rs r;
            };
      }

      abbrev Goal : List Decl → Decl → List Decl → Walk g.Reported → Walk g.Reported → Type 0
      Goal pre d rest v v1 = (Still v.scope v1.scope × Extends v.scope.types v1.scope.types)
          × ((u : Walk g.Reported) → Walked (declarations_of pre ++ declared_by (out-Decl d)) rest v1 u
          → Walked (declarations_of pre) (d ∷ rest) v u)

      stays : (pre : List Decl) (d : Decl) (rest : List Decl) (v : Walk g.Reported) → IsNoProcedure (out-Decl d)
          → Goal pre d rest v v
      stays pre d rest v n = (
        (still_refl v.scope, λ t s m. m),
        λ u z. no_procedure d rest (declarations_of pre) v u n
            z,
      )

      declaration_walked : (pre : List Decl) (d : Decl) (rest : List Decl) → ds ≡ pre ++ d ∷ rest
          → (v : Walk g.Reported)
          → Still sd v.scope → Extends (types_behind start.types whole) v.scope.types
          → (y : Decl-F Decl Block) → out-Decl d ≡ y
          → Goal pre d rest v (checks_written g (elaborate_body g) ends y around
          (length (fold marked_decl start pre).own) v)
      declaration_walked pre d rest split v alike extends (layer.Constants cs) is =
          stays pre d rest v (subst IsNoProcedure (sym is) tt)
      declaration_walked pre d rest split v alike extends (layer.Types ts) is =
          stays pre d rest v (subst IsNoProcedure (sym is) tt)
      declaration_walked pre d rest split v alike extends (layer.Variables vs) is =
          stays pre d rest v (subst IsNoProcedure (sym is) tt)
      declaration_walked pre d rest split v alike extends (layer.Procedure h c) is = (
        (end_still pre d rest split h c is v alike extends, (done pre d rest split h c is v alike extends).extends),
        λ u z. procedure_walked pre d rest split h c is v alike extends u z,
      )

      -- ---- all declarations

      abbrev pub counted : List ℕ
      counted = (all_marked marked_decl start ds).1

      abbrev Step : Walk g.Reported × ℕ → Decl → Walk g.Reported × ℕ
      Step st d = with_body (λ d. checks_decl g (elaborate_body g) ends d around) counted st d

      seen_here : (pre : List Decl) (d : Decl) (rest : List Decl) → ds ≡ pre ++ d ∷ rest
          → unwrap_or (slice_get counted (length pre)) 0 ≡ length (fold marked_decl start pre).own
      seen_here pre d rest split = ap (λ (xs : List Decl). unwrap_or
          (slice_get (all_marked marked_decl start xs).1 (length pre)) 0) split
          ∙ ap (λ (o : Option ℕ). unwrap_or o 0) (seen_at pre start d rest)

      checked_here : (pre : List Decl) (d : Decl) (rest : List Decl) → ds ≡ pre ++ d ∷ rest → (v : Walk g.Reported)
          → Still sd v.scope → Extends (types_behind start.types whole) v.scope.types
          → Goal pre d rest v (Step (v, length pre) d).0
      checked_here pre d rest split v alike extends =
          subst (λ (n : ℕ). Goal pre d rest v (checks_decl g (elaborate_body g) ends d around n v))
          (sym (seen_here pre d rest split))
          (subst (λ (x : Walk g.Reported). Goal pre d rest v x)
          (sym (checks_is g (elaborate_body g) ends d around (length (fold marked_decl start pre).own) v))
          (declaration_walked pre d rest split v alike extends (out-Decl d) refl))

      more_pre : (pre : List Decl) (d : Decl) (rest : List Decl) → pre ++ d ∷ rest ≡ (pre ++ d ∷ []) ++ rest
      more_pre pre d rest = sym (assoc pre (d ∷ []) rest)

      all_walked : (rest pre : List Decl) → ds ≡ pre ++ rest → (v : Walk g.Reported) → Still sd v.scope
          → Extends (types_behind start.types whole) v.scope.types
          → Walked (declarations_of pre) rest v (fold Step (v, length pre) rest).0
      all_walked [] pre split v alike extends =
          record {
            walk = no_more;
            said = Ok tt;
            sum = beside_nothing g associates v.so_far;
            refused = silent (λ f b. b);
            grown = λ t s m. m;
            still = still_refl v.scope;
            meant =
                λ finds s fine silence pre split counts. nothing_meant v;
          }
        where
          nothing_meant : {front : List Declaration} (v : Walk g.Reported)
              → IsWalkMeant {front = front} {rest = []} v v no_more
          nothing_meant v = record {
            routines = no_routines;
            of_bodies = put_none v.bodies;
            counted = λ e. omega arith;
            numbers = λ e h i. elim i [ ];
            holds = λ of_exports k q number of_names senses. refl;
            alone = λ of_exports k q number of_names senses rs r. r;
          }
      all_walked (d ∷ rest) pre split v alike extends =
          let q = checked_here pre d rest split v alike extends in
          let v1 = (Step (v, length pre) d).0 in
          let z = all_walked rest (pre ++ d ∷ []) (split ∙ more_pre pre d rest) v1 (still_then alike q.0.0)
          (extends_then (types_behind start.types whole) v.scope.types v1.scope.types extends q.0.1) in
          q.1 (fold Step (v, length pre) (d ∷ rest)).0
          (subst (λ (n : ℕ). Walked (declarations_of pre ++ declared_by (out-Decl d)) rest v1
          (fold Step (v1, n) rest).0)
          (length_one pre d)
          (subst (λ (front : List Declaration). Walked front rest v1 (fold Step (v1, length (pre ++ d ∷ [])) rest).0)
          (one_more pre d) z))

      -- ---- from where its procedures begin

      module _ (begins : Walk g.Reported) (moved : begins.scope ≡ sd) where
        types_there : begins.scope.types ≡ types_behind start.types whole
        types_there = ap (λ (s : Scope g.Reported). s.types) moved ∙ of_block.types

        abbrev pub last : Walk g.Reported
        last = bodies_checked g (elaborate_body g) ends around counted begins ds

        pub walked : Walked [] ds begins last
        walked = all_walked ds [] refl begins (still_same moved)
            (λ t s m. subst (λ (types : Types). IsMade types t s) (sym types_there) m)

        abbrev pub Read : Types → Type 0
        Read types = (z : Bodies [] types ds last.scope.types)
            × Tells g j lawful Else (BrokenBodies exports z) walked.said

        pub walk_there : Read (types_behind start.types whole)
        walk_there = subst Read types_there (walked.walk, walked.refused)

        pub still_last : Still sd last.scope
        still_last = still_then (still_same moved) walked.still

        last_owns : KnowsOwn g j own last.scope
        last_owns = owns_still g j still_last sd_withs (of_block.owned p.own own at.own (of_block.own p.own at.own).1)

        spot_known : KnowsSpot g j exports (body_spot p names own) last.scope
            (record { gives = returns; in_loop = false })
        spot_known = record {
          of_names = knows_still g j still_last sd_withs (of_block.known names of_block.stand.1);
          of_own = last_owns;
          of_result = at.gives;
          of_loop = refl;
        }

        abbrev pub Said : Result (List TypedStmt) g.Reported
        Said = statements_of (elaborate_body g) last.scope returns (out-Block b).body

        pub statements_refused : Tells g j lawful Else
            (λ f. (x : Stmt) × Among x (statements_in (out-Block b).body)
            × Broken last.scope.types exports (body_spot p names own) x f) (reported_in Said)
        statements_refused = more_tells g j lawful (λ f o. to_else f o)
            (statements_tell g j lawful exports (body_spot p names own) last.scope returns spot_known
            (out-Block b).body)
          where
            to_else : (f : Breach) → RepeatsResult g j names last.scope returns f → Else f
            to_else f (inl o) = else_of f (inl (repeats_still g j still_last sd_withs f o))
            to_else f (inr r) = inl (inr r)

        abbrev pub is_read : Reads exports p start.types b last.scope.types
        is_read = reads whole names own of_block.in_text of_block.added of_block.stand.1 (of_block.own p.own at.own).1
            walk_there.0

        -- ---- by number

        abbrev WalkIs : {types : Types} → Bodies [] types ds last.scope.types → Routines → Type 0
        WalkIs z routines =
            ((of_exports : ℕ → Ident → Option Meaning) → Exporting g j exports of_exports start.tables → (q : Before)
            → Numbered q → (of_names : Ident → Option Meaning) → Senses q of_names
            → MeansBodies exports of_exports z q of_names around (length begins.bodies.locals) routines)
            × ((of_exports : ℕ → Ident → Option Meaning) → Exporting g j exports of_exports start.tables → (q : Before)
            → Numbered q → (of_names : Ident → Option Meaning) → Senses q of_names
            → (rs : Routines) → MeansBodies exports of_exports z q of_names around (length begins.bodies.locals) rs
            → rs ≡ routines)

        walk_is : {routines : Routines} → WalkIs walked.walk routines → WalkIs walk_there.0 routines
        unfolding walk_there
        walk_is {routines = routines} w = (subst
            (λ (types : Types). (z : Bodies [] types ds last.scope.types) × WalkIs z routines) types_there
            (walked.walk, w)).1

        module _ (finds : Finds g j) (s : Begins) (fine : Fine) (silence : walked.said ≡ Ok tt)
            (counted_there : length begins.bodies.locals ≡ first) where
          counts_by : (o : Bool) → outermost ≡ o → Counts o ends first [] ds first
          counts_by true e = s.outermost e
          counts_by false e = (
            subst (λ (n : ℕ). AreCounted ends n ds) s.numbers.from
                (s.numbers.begins.nested (ap (λ (l : ℕ). l == 0) (sym s.numbers.begins.of_level) ∙ e)).1,
            refl,
          )

          walk_meant : IsWalkMeant begins last walked.walk
          walk_meant = walked.meant finds s fine silence [] refl
              (subst (λ (n : ℕ). Counts outermost ends first [] ds n) (sym counted_there) (counts_by outermost refl))

          walk_holds : WalkIs walk_there.0 walk_meant.routines
          walk_holds = walk_is (walk_meant.holds, walk_meant.alone)

          abbrev variables : List TypeNo
          variables = drop (length start.variables) last.scope.variables

          numbered : AreNumbered ends start first ds sd
          numbered = block_numbered g ends start first ds fine

          types_here : HaveTypes names (variables_in block) variables
          types_here = have_types names (variables_in block) variables
              (rest_length (length start.variables) (length (variables_in block)) last.scope.variables
              (ap (λ (vs : List TypeNo). length vs) still_last.variables ∙ numbered.counted))
              each
            where
              each : (i : ℕ) (x : Ident) → slice_get (variables_in block) i ≡ Some x → (t : TypeNo)
                  × (names x ≡ Stands (AVariable t)) × (slice_get variables i ≡ Some t)
              each i x e =
                  let r = numbered.variables i x e in
                  let m = variable_at (start.level == 0) start.types.home start.level (length start.variables + i) r.0
                  in
                  let found : looked_up g sd x ≡ Ok m =
                  around_some g sd 0 sd_withs x (known.Declared Here (Ok m)) r.1 in (
                    r.0,
                    sees_ok g j m ((of_block.known names of_block.stand.1).of_names x) found
                        ∙ variable_stands (start.level == 0) start.types.home start.level (length start.variables + i)
                        r.0,
                    rest_at (length start.variables) i last.scope.variables
                        ∙ ap (λ (vs : List TypeNo). slice_get vs (length start.variables + i)) still_last.variables
                        ∙ r.2,
                  )

          module _ (of_exports : ℕ → Ident → Option Meaning) (exporting : Exporting g j exports of_exports start.tables)
              (q : Before) (number : Numbered q) (of_names : Ident → Option Meaning) (senses : Senses q of_names) where
            abbrev site : Site
            site = body_site p names own (senses_at exports of_exports q of_names)

            site_known : KnowsSite g j exports site last.scope (record { gives = returns; in_loop = false })
            site_known = record {
              of_spot = spot_known;
              of_senses = record {
                of_level = sym (still_last.level ∙ sd_keeps.level ∙ number.begins.of_level);
                of_names = λ name m w. (sensed fine q number).known name (of_names name) (senses name) m
                    (sym (looked_still g j still_last sd_withs name) ∙ w) last.scope.level;
                of_exports = λ k name m w. exporting k name m
                    (ap (λ (ts : List Table). exported_by name.name (slice_get ts k))
                    (sym (still_last.tables ∙ sd_keeps.tables)) ∙ w) last.scope.level;
              };
              of_withs = ap (λ (ws : List OpenedRecord). length ws) (sym (still_last.withs ∙ sd_withs));
            }

            body_one : (xs : List TypedStmt) → Said ≡ Ok xs
                → IsOne (AllMean last.scope.types exports site (statements_in (out-Block b).body)) xs
            body_one xs e = if_answered (statements_meant g j lawful exports site last.scope returns site_known
                (out-Block b).body) e

            first_is : length begins.bodies.locals ≡ q.nested
            first_is = counted_there ∙ sym number.from

          pub block_meant : (xs : List TypedStmt) → Said ≡ Ok xs
              → IsMeant g j exports p start begins.bodies ends around is_read (last, Said)
          block_meant xs e = record {
            routines = walk_meant.routines;
            variables = variables;
            body = xs;
            is_body = e;
            of_bodies = walk_meant.of_bodies;
            of_variables = refl;
            of_level = still_last.level ∙ sd_keeps.level;
            of_tables = still_last.tables ∙ sd_keeps.tables;
            all_variables = ap (λ (vs : List TypeNo). vs) still_last.variables
                ∙ first_part start.variables sd.variables numbered.kept
                ∙ ap (λ (vs : List TypeNo). start.variables ++ drop (length start.variables) vs)
                (sym still_last.variables);
            numbers = λ o h i a q. walk_meant.numbers o h i a
                (subst (λ (n : ℕ). find_name h.name.name (declared_block g ends (start, Ok tt) n ds).0.own
                ≡ Some (known.Headed (Ok (meaning.Procedure a)))) counted_there q);
            counted = λ o. let k = walk_meant.counted o in let n = block_behind (length begins.bodies.locals) b in
                omega (arith, k, n);
            holds = λ of_exports k q number. holds of_exports k q number;
            alone = λ of_exports k q number rs vs xs m. alone of_exports k q number rs vs xs m;
          }
            where
              numbered_from : (q : Before) → Numbers g j exports p start (length begins.bodies.locals) ends ds q
                  → Numbered q
              numbered_from q number = subst (λ (n : ℕ). Numbers g j exports p start n ends ds q) counted_there number

              holds : (of_exports : ℕ → Ident → Option Meaning) → Exporting g j exports of_exports start.tables
                  → (q : Before) → Numbers g j exports p start (length begins.bodies.locals) ends ds q
                  → MeansBlock exports of_exports is_read q around walk_meant.routines variables xs
              holds of_exports k q there =
                  let number = numbered_from q there in
                  let of_names : Ident → Option Meaning = λ name. ((sensed fine q number).each name).0 in
                  let senses : Senses q of_names = λ name. ((sensed fine q number).each name).1 in (
                    of_names,
                    senses,
                    types_here,
                    subst (λ (n : ℕ). MeansBodies exports of_exports walk_there.0 q of_names around n
                        walk_meant.routines)
                        (first_is of_exports k q number of_names senses)
                        (walk_holds.0 of_exports k q number of_names senses),
                    (body_one of_exports k q number of_names senses xs e).holds,
                  )

              alone : (of_exports : ℕ → Ident → Option Meaning) → Exporting g j exports of_exports start.tables
                  → (q : Before) → Numbers g j exports p start (length begins.bodies.locals) ends ds q
                  → (rs : Routines) (vs : List TypeNo) (ys : List TypedStmt)
                  → MeansBlock exports of_exports is_read q around rs vs ys → (rs ≡ walk_meant.routines)
                  × (vs ≡ variables) × (ys ≡ xs)
              alone of_exports k q there rs vs ys (of_names, senses, types, bodies, body) =
                  let number = numbered_from q there in (
                    walk_holds.1 of_exports k q number of_names senses rs
                        (subst (λ (n : ℕ). MeansBodies exports of_exports walk_there.0 q of_names around n rs)
                        (sym (first_is of_exports k q number of_names senses)) bodies),
                    types_one names types_here types,
                    (body_one of_exports k q number of_names senses xs e).alone ys body,
                  )

        pub is_extended : Extends start.types last.scope.types
        is_extended = extends_then start.types (types_behind start.types whole) last.scope.types
            (extends_behind start.types whole)
            (λ t s m. walked.grown t s (subst (λ (types : Types). IsMade types t s) (sym types_there) m))

        pub is_kept : Keeps start last.scope
        is_kept = keeps_still g j still_last sd_withs sd_keeps

    -- ---- and from where it begins

    module _ (b : Block)
        (inner : (d : Decl) (h : Heading) (c : Block) → Among d (out-Block b).decls → out-Decl d ≡ layer.Procedure h c
        → Turn c)
        (given : Place) (w : Walk g.Reported) (returns : Option (Result TypeNo g.Reported))
        (at : KnowsPlace g j exports given w.scope returns) (ends : List ℕ) (around : Option Which) where
      abbrev Decls : List Decl
      Decls = (out-Block b).decls

      abbrev first_numbered : ℕ
      first_numbered = length w.bodies.locals

      abbrev begun_here : Walk g.Reported
      begun_here = (begun_block g ends w Decls).0

      moves : (begun_here.scope ≡ sd b inner given w.scope returns at ends around (length w.bodies.locals))
          × (begun_here.so_far ≡ beside g w.so_far (declared_block g ends (w.scope, Ok tt) first_numbered Decls).1)
      moves = block_moves g associates w.so_far ends w.scope first_numbered Decls

      abbrev Saying : Result (Unit {0}) g.Reported
      Saying = (walked b inner given w.scope returns at ends around (length w.bodies.locals) begun_here moves.0).said

      block_done : Done ends around (record given { nested = is_nested w.scope }) returns b w
          (written g (elaborate_body g) ends around returns w b)
      unfolding walked
      block_done = record {
        read = is_read b inner given w.scope returns at ends around (length w.bodies.locals) begun_here moves.0;
        more = beside g (declared_block g ends (w.scope, Ok tt) first_numbered Decls).1 Saying;
        so_far = (walked b inner given w.scope returns at ends around (length w.bodies.locals) begun_here moves.0).sum
            ∙ ap (λ (r : Result (Unit {0}) g.Reported). beside g r Saying) moves.1
            ∙ beside_beside g associates w.so_far (declared_block g ends (w.scope, Ok tt) first_numbered Decls).1
            Saying;
        refused = closed g j lawful (tells_as g j lawful
            (Else b inner given w.scope returns at ends around (length w.bodies.locals))
            (λ f z. elim z [
              | inl y ↦ elim y [
                | inl x ↦ elim x [ inl a ↦ inl a | inr a ↦ inr (inl a) ]
                | inr a ↦ inr (inr (inl a))
              ]
              | inr a ↦ inr (inr (inr a))
            ])
            (λ f z. elim z [
              | inl a ↦ inl (inl (inl a))
              | inr y ↦ elim y [
                | inl a ↦ inl (inl (inr a))
                | inr x ↦ elim x [ inl a ↦ inl (inr a) | inr a ↦ inr a ]
              ]
            ])
            (beside_tells g j lawful (Else b inner given w.scope returns at ends around (length w.bodies.locals))
            (beside_tells g j lawful (Else b inner given w.scope returns at ends around (length w.bodies.locals))
            (declared_refused b inner given w.scope returns at ends around (length w.bodies.locals))
            (walk_there b inner given w.scope returns at ends around (length w.bodies.locals) begun_here moves.0).1)
            (statements_refused b inner given w.scope returns at ends around (length w.bodies.locals) begun_here
            moves.0)));
        extends = is_extended b inner given w.scope returns at ends around (length w.bodies.locals) begun_here moves.0;
        keeps = is_kept b inner given w.scope returns at ends around (length w.bodies.locals) begun_here moves.0;
        meant = λ finds s silence.
            let two = beside_fine g (beside g (declared_block g ends (w.scope, Ok tt) first_numbered Decls).1 Saying)
            (reported_in (Said b inner given w.scope returns at ends around (length w.bodies.locals) begun_here
            moves.0)) silence in
            let one = beside_fine g (declared_block g ends (w.scope, Ok tt) first_numbered Decls).1 Saying two.0 in
            let body = body_there (Said b inner given w.scope returns at ends around (length w.bodies.locals) begun_here
            moves.0) two.1 in
            block_meant b inner given w.scope returns at ends around (length w.bodies.locals) begun_here moves.0 finds s
            one.0 one.1 refl body.0 body.1;
      }

      pub block_turned : Done ends around given returns b w (checks_block g (elaborate_body g) ends b around returns w)
      block_turned = subst (λ (c : Checked g.Reported). Done ends around given returns b w c)
          (sym (block_is g (elaborate_body g) ends around returns w b))
          (subst (λ (n : Bool). Done ends around (record given { nested = n }) returns b w
          (written g (elaborate_body g) ends around returns w b)) (sym at.nested) block_done)

    turn : (b : Block) → ((d : Decl) (h : Heading) (c : Block) → Among d (out-Block b).decls
        → out-Decl d ≡ layer.Procedure h c → Turn c) → Turn b
    turn b inner p w returns at ends around = block_turned b inner p w returns at ends around

    pub blocks_done : (b : Block) → Turn b
    blocks_done = all_blocks Turn turn

pub blocks_whole : (g : Gathers) (j : Judges g) (lawful : Lawful g j) (associates : Associates g) → BlocksAreWhole g j
blocks_whole g j lawful associates exports p w returns at fresh ends around b =
    let d = blocks_done g j lawful associates exports b p w returns at ends around in
    let c = checks_block g (elaborate_body g) ends b around returns w in
    record {
      read = d.read;
      reported = subst (λ (r : Result (Unit {0}) g.Reported). Reports g j (RepeatsResult g j p.names w.scope returns)
          (BrokenBlock exports d.read) (beside g r (reported_in c.1)))
          (sym (d.so_far ∙ ap (λ (r : Result (Unit {0}) g.Reported). beside g r d.more) fresh
          ∙ nothing_beside g associates d.more)) (reported g j lawful d.refused);
    }
