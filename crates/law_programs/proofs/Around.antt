-- The predeclared names, which stand around every module, mean what is there.
use Rattle.std.proofs.Common.{ℕ, pos, Bool, true, false, cond, List, [], ◌∷◌, Ok, refl, arith}
use Rattle.std.specs.Prelude.{codes}
use Rattle.std.proofs.lemmas.Int.{ints}
use Rattle.typed_tree.specs.declared.meaning.Meaning.{Meaning}
use Rattle.typed_tree.specs.declared.meaning.Meaning.TheVariants as meaning
use Rattle.typed_tree.specs.declared.meaning.Standard.TheVariants.{Abs, Cap, Chr, High, Max, Min, Odd, Ord, Val, Inc, Dec, Incl, Excl, Halt}
use Rattle.typed_tree.specs.Known.{range}
use Rattle.typed_tree.specs.Types.{integer, cardinal, boolean, char, bitset}
use Rattle.m2_tree.specs.Names.{same_name}
use Rattle.typed_tree.specs.Names.{enter_name}
use Rattle.check_scope.specs.declared.known.Known.{Known}
use Rattle.check_scope.specs.declared.known.Known.TheVariants.{Declared}
use Rattle.check_scope.specs.declared.known.Origin.TheVariants.{Here}
use Rattle.check_definition.specs.Predeclared.{predeclared_as, with_types, truth, with_truth, with_functions, with_bounds, with_procedures, predeclared_names, predeclared_block}
use Rattle.law_simulation.specs.TreesTyped.{Context}
use Rattle.law_well_formed.specs.Formed.{fine}
use Rattle.law_well_formed.specs.FormedRanges.{IsNumber}
use Rattle.law_programs.specs.TypingBodies.{MeaningThere, KnownThere, NamesThere, BlocksThere}

module _ (x : Context) (opens : ℕ → Bool) (T : Type 0) where
  abbrev There : List (List ℕ × Known T) → Type 0
  There ns = NamesThere x opens 0 ns

  names_by : (b : Bool) (k : Known T) (e : List ℕ × Known T) (es more : List (List ℕ × Known T))
      → KnownThere x opens 0 k → There (e ∷ es) → There more → There (cond b ((e.0, k) ∷ es) (e ∷ more))
  names_by true k e es more p all q = (p, all.1)
  names_by false k e es more p all q = (all.0, q)

  names_more : (name : List ℕ) (k : Known T) (es : List (List ℕ × Known T)) → KnownThere x opens 0 k → There es
      → There (enter_name name k es)
  names_more name k [] p all = (p, tt)
  names_more name k (e ∷ es) p all = names_by (same_name name e.0) k e es (enter_name name k es) p all
      (names_more name k es p all.1)

  more : (name : List ℕ) (m : Meaning) (ns : List (List ℕ × Known T)) → MeaningThere x opens 0 m → There ns
      → There (predeclared_as name m ns)
  more name m ns p k = names_more name (Declared Here (Ok m)) ns (fine m p) k

  false_number : IsNumber x.home.types boolean boolean (pos 0)
  false_number = record {
    range = range boolean (pos 0) (pos 1);
    at = refl;
    own = refl;
    low = omega (arith, ints);
    high = omega (arith, ints);
  }

  true_number : IsNumber x.home.types boolean boolean (pos 1)
  true_number = record {
    range = range boolean (pos 0) (pos 1);
    at = refl;
    own = refl;
    low = omega (arith, ints);
    high =
        omega (arith, ints);
  }

  types_there : (ns : List (List ℕ × Known T)) → There ns → There (with_types ns)
  types_there ns k =
      more (codes "BITSET") (meaning.Type bitset 1) _ (tt, tt)
      (more (codes "CHAR") (meaning.Type char 1) _ (tt, tt)
      (more (codes "BOOLEAN") (meaning.Type boolean 1) _ (tt, tt)
      (more (codes "CARDINAL") (meaning.Type cardinal 1) _ (tt, tt)
      (more (codes "INTEGER") (meaning.Type integer 1) ns (tt, tt) k))))

  truth_there : (ns : List (List ℕ × Known T)) → There ns → There (with_truth ns)
  truth_there ns k = more (codes "TRUE") (truth (pos 1)) _ (((true_number, true_number), tt), tt)
      (more (codes "FALSE") (truth (pos 0)) ns (((false_number, false_number), tt), tt) k)

  functions_there : (ns : List (List ℕ × Known T)) → There ns → There (with_functions ns)
  functions_there ns k =
      more (codes "HIGH") (meaning.Standard High) _ (tt, tt) (more (codes "CHR") (meaning.Standard Chr) _ (tt, tt)
      (more (codes "CAP") (meaning.Standard Cap) _ (tt, tt) (more (codes "ABS") (meaning.Standard Abs) ns (tt, tt) k)))

  bounds_there : (ns : List (List ℕ × Known T)) → There ns → There (with_bounds ns)
  bounds_there ns k =
      more (codes "VAL") (meaning.Standard Val) _ (tt, tt)
      (more (codes "ORD") (meaning.Standard Ord) _ (tt, tt) (more (codes "ODD") (meaning.Standard Odd) _ (tt, tt)
      (more (codes "MIN") (meaning.Standard Min) _ (tt, tt) (more (codes "MAX") (meaning.Standard Max) ns (tt, tt) k))))

  procedures_there : (ns : List (List ℕ × Known T)) → There ns → There (with_procedures ns)
  procedures_there ns k =
      more (codes "HALT") (meaning.Standard Halt) _ (tt, tt)
      (more (codes "EXCL") (meaning.Standard Excl) _ (tt, tt)
      (more (codes "INCL") (meaning.Standard Incl) _ (tt, tt)
      (more (codes "DEC") (meaning.Standard Dec) _ (tt, tt) (more (codes "INC") (meaning.Standard Inc) ns (tt, tt) k))))

  predeclared_there : NamesThere x opens 0 (predeclared_names {T = T})
  unfolding predeclared_names
  predeclared_there = procedures_there (with_bounds (with_functions (with_truth (with_types {T = T} []))))
      (bounds_there (with_functions (with_truth (with_types {T = T} [])))
      (functions_there (with_truth (with_types {T = T} [])) (truth_there (with_types {T = T} []) (types_there [] tt))))

  pub around_there : BlocksThere x opens 0 (predeclared_block {T = T} ∷ [])
  around_there = (predeclared_there, tt)
