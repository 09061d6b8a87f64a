-- What every module knows are no variables, and what it imports are none of its own.
use Rattle.std.proofs.Common.{◌≡◌, ℕ, zero, suc, Bool, true, false, cond, List, [], ◌∷◌, ◌++◌, length, Option, Some, None, Result, Ok, refl, subst}
use Rattle.std.specs.Prelude.{slice_get, nat_lt, take, drop}
use Rattle.std.specs.Option.{option_map}
use Rattle.std.proofs.lemmas.List.{take-append-drop}
use Rattle.m2_tree.specs.declared.pos.Pos.{Pos}
use Rattle.m2_tree.specs.declared.name.Ident.{Ident}
use Rattle.m2_tree.specs.Names.{same_name}
use Rattle.typed_tree.specs.declared.meaning.Meaning.{Meaning}
use Rattle.typed_tree.specs.declared.meaning.Meaning.TheVariants as meaning
use Rattle.typed_tree.specs.declared.table.Table.{Table}
use Rattle.typed_tree.specs.Names.{place_of, enter_name}
use Rattle.check_scope.specs.declared.known.Origin.{Origin}
use Rattle.check_scope.specs.declared.known.Origin.TheVariants.{Here}
use Rattle.check_scope.specs.declared.known.Known.{Known}
use Rattle.check_scope.specs.declared.known.Known.TheVariants.{Declared}
use Rattle.check_scope.specs.declared.meaningless.Meaningless.{Meaningless}
use Rattle.check_scope.specs.Elaborated.{Gathers}
use Rattle.check_scope.specs.Scopes.{seen_at, or_outside, means_seen, means_as, looked_up}
use Rattle.check_definition.specs.Predeclared.{with_types, with_truth, with_functions, with_bounds, with_procedures, predeclared_names, first_scope}
use Rattle.def_typing.specs.Parts.{Among, here, later}
use Rattle.def_typing.specs.Imports as imports
use Rattle.def_typing.specs.Imports.{Imported, IsFoundAt, found_here, found_later, names_with, Gives, gives_module, gives_names, is_there, is_given, Brings}
use Rattle.def_typing.specs.Things.{Standing}
use Rattle.def_typed.specs.Blocks.{StandsWithoutCode}
use Rattle.law_typing.specs.Judging.{Judges}
use Rattle.law_typing.specs.Exact.{standing, Sees, sees, sees_nothing, sees_headless, sees_unknown}
use Rattle.law_rules.specs.Bodies.{IsForeign, ExportForeign}

-- ---- what is brought by imports

module _ {A : Type 0} where
  found_among : {P : A → Type 0} {a : A} {xs : List A} {k : ℕ} → IsFoundAt P a xs k → Among a xs
  found_among (found_here p) = here
  found_among (found_later n f) = later (found_among f)

  among_left : {a : A} {xs : List A} (ys : List A) → Among a xs → Among a (xs ++ ys)
  among_left ys here = here
  among_left ys (later m) = later (among_left ys m)

  among_right : {a : A} (xs : List A) {ys : List A} → Among a ys → Among a (xs ++ ys)
  among_right [] m = m
  among_right (x ∷ xs) m = later (among_right xs m)

  among_part : {a : A} (n i : ℕ) (xs : List A) → Among a (take n (drop i xs)) → Among a xs
  among_part {a = a} n i xs m =
      let z : Among a (drop i xs) = subst (λ (ys : List A). Among a ys) (take-append-drop n (drop i xs))
      (among_left (drop n (drop i xs)) m) in
      subst (λ (ys : List A). Among a ys) (take-append-drop i xs) (among_right (take i xs) z)

module _ (home : ℕ) (tables : List Table) (foreign : ExportForeign home tables) (own : List ℕ → Bool) where
  given_foreign : {B : List ℕ → imports.Origin → Meaning → Type 0} {x : Imported} {n : List ℕ} {o : imports.Origin}
      {m : Meaning} → Gives tables own B x n o m → IsForeign home m
  given_foreign (gives_module h) = tt
  given_foreign (gives_names {t = t} {i = i} {e = e} {c = c} h f new z) =
      foreign t (found_among h) c (among_part (names_with e.1) i t.exported (found_among z))

  pub brought_foreign : (front : List Imported) (n : List ℕ) (o : imports.Origin) (m : Meaning)
      → Brings tables own front n o m → IsForeign home m
  brought_foreign [] n o m b = absurd b
  brought_foreign (x ∷ front) n o m (is_there b) = brought_foreign front n o m b
  brought_foreign (x ∷ front) n o m (is_given a q) = given_foreign q

-- ---- what is predeclared

-- constants, types and standard procedures
abbrev pub HasNoCode : Meaning → Type 0
HasNoCode (meaning.Constant v) = Unit {0}
HasNoCode (meaning.Type t n) = Unit {0}
HasNoCode (meaning.Standard f) = Unit {0}
HasNoCode other = ⊥

pub codeless_stands : (m : Meaning) → HasNoCode m → StandsWithoutCode (standing m)
codeless_stands (meaning.Constant v) h = tt
codeless_stands (meaning.Type t n) h = tt
codeless_stands (meaning.Variable v) h = absurd h
codeless_stands (meaning.Local v) h = absurd h
codeless_stands (meaning.Field f) h = absurd h
codeless_stands (meaning.Procedure p) h = absurd h
codeless_stands (meaning.LocalProcedure p) h = absurd h
codeless_stands meaning.Ahead h = absurd h
codeless_stands (meaning.Standard f) h = tt
codeless_stands (meaning.Module k) h = absurd h

codeless_foreign : (home : ℕ) (m : Meaning) → HasNoCode m → IsForeign home m
codeless_foreign home (meaning.Constant v) h = tt
codeless_foreign home (meaning.Type t n) h = tt
codeless_foreign home (meaning.Variable v) h = absurd h
codeless_foreign home (meaning.Local v) h = absurd h
codeless_foreign home (meaning.Field f) h = absurd h
codeless_foreign home (meaning.Procedure p) h = absurd h
codeless_foreign home (meaning.LocalProcedure p) h = absurd h
codeless_foreign home meaning.Ahead h = absurd h
codeless_foreign home (meaning.Standard f) h = tt
codeless_foreign home (meaning.Module k) h = absurd h

-- all of these names are declared, and none has code
data AreMeant {T : Type 0} : List (List ℕ × Known T) → Type 0 where
  no_name : AreMeant []
  one_name : (n : List ℕ) (o : Origin) (m : Meaning) {ns : List (List ℕ × Known T)} → HasNoCode m → AreMeant ns
      → AreMeant ((n, Declared o (Ok m)) ∷ ns)

module _ {T : Type 0} where
  enter_by : (k n : List ℕ) (o : Origin) (w m : Meaning) {ns ms : List (List ℕ × Known T)} → HasNoCode w → HasNoCode m
      → AreMeant ns → AreMeant ms → (b : Bool)
      → AreMeant (cond b ((k, Declared Here (Ok m)) ∷ ns) ((k, Declared o (Ok w)) ∷ ms))
  enter_by k n o w m f h a c true = one_name k Here m h a
  enter_by k n o w m f h a c false = one_name k o w f c

  entered : (n : List ℕ) (m : Meaning) → HasNoCode m → {ns : List (List ℕ × Known T)} → AreMeant ns
      → AreMeant (enter_name n (Declared Here (Ok m)) ns)
  entered n m f no_name = one_name n Here m f no_name
  entered n m f (one_name k o w h a) = enter_by k n o w m h f a (entered n m f a) (same_name n k)

  types : {ns : List (List ℕ × Known T)} → AreMeant ns → AreMeant (with_types ns)
  types p = entered _ _ tt (entered _ _ tt (entered _ _ tt (entered _ _ tt (entered _ _ tt p))))

  truths : {ns : List (List ℕ × Known T)} → AreMeant ns → AreMeant (with_truth ns)
  truths p = entered _ _ tt (entered _ _ tt p)

  functions : {ns : List (List ℕ × Known T)} → AreMeant ns → AreMeant (with_functions ns)
  functions p = entered _ _ tt (entered _ _ tt (entered _ _ tt (entered _ _ tt p)))

  bounds : {ns : List (List ℕ × Known T)} → AreMeant ns → AreMeant (with_bounds ns)
  bounds p = entered _ _ tt (entered _ _ tt (entered _ _ tt (entered _ _ tt (entered _ _ tt p))))

  procedures : {ns : List (List ℕ × Known T)} → AreMeant ns → AreMeant (with_procedures ns)
  procedures p = entered _ _ tt (entered _ _ tt (entered _ _ tt (entered _ _ tt (entered _ _ tt p))))

  predeclared_meant : AreMeant (predeclared_names {T = T})
  unfolding predeclared_names
  predeclared_meant = procedures (bounds (functions (truths (types no_name))))

module _ (g : Gathers) where
  abbrev Fine : Result Meaning (Meaningless g.Reported) → Type 0
  Fine r = (m : Meaning) → r ≡ Ok m → HasNoCode m

  same_ok : {m n : Meaning} → ◌≡◌ {A = Result Meaning (Meaningless g.Reported)} (Ok m) (Ok n) → m ≡ n
  same_ok e = cc

  one_fine : (at : Pos) (o : Origin) (m : Meaning) → HasNoCode m → (b : Bool)
      → Fine (means_seen g at (Declared o (Ok m)) b)
  one_fine at o m f true n e = subst HasNoCode (same_ok e) f
  one_fine at o m f false n e = absurd cc

  slot_fine : (at : Pos) {ns : List (List ℕ × Known g.Reported)} → AreMeant ns → (p : ℕ) (b : Bool)
      → Fine (means_as g at (or_outside (option_map {U = Known g.Reported × Bool} (λ e. (e.1, b)) (slice_get ns p))
      None))
  slot_fine at no_name p b = λ m e. absurd cc
  slot_fine at (one_name n o w f a) zero b = one_fine at o w f b
  slot_fine at (one_name n o w f a) (suc p) b = slot_fine at a p b

  place_fine : (at : Pos) (ns : List (List ℕ × Known g.Reported)) → AreMeant ns → (seen : ℕ) (p : Option ℕ)
      → Fine (means_as g at (or_outside (seen_at seen ns p) None))
  place_fine at ns a seen None = λ m e. absurd cc
  place_fine at ns a seen (Some p) = slot_fine at a p (nat_lt p seen)

  pub first_codeless : (home : ℕ) (tables : List Table) (name : Ident) (m : Meaning)
      → looked_up g (first_scope home tables) name ≡ Ok m → HasNoCode m
  first_codeless home tables name = place_fine name.pos predeclared_names predeclared_meant
      (length (predeclared_names {T = g.Reported})) (place_of name.name (predeclared_names {T = g.Reported}))

  pub first_foreign : (home : ℕ) (tables : List Table) (name : Ident) (m : Meaning)
      → looked_up g (first_scope home tables) name ≡ Ok m → IsForeign home m
  first_foreign home tables name m e = codeless_foreign home m (first_codeless home tables name m e)

  -- what stands for nothing with code
  pub codeless_by : (j : Judges g) {at : Pos} {s : Standing} {r : Result Meaning (Meaningless g.Reported)}
      → Sees g j at s r → ((m : Meaning) → r ≡ Ok m → HasNoCode m) → StandsWithoutCode s
  codeless_by j (sees m) h = codeless_stands m (h m refl)
  codeless_by j sees_nothing h = tt
  codeless_by j (sees_headless b r) h = tt
  codeless_by j (sees_unknown r) h = tt
