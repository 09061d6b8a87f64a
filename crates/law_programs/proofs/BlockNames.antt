-- The names of a module's block are typed, behind its declarations.
use Rattle.std.proofs.Common.{◌≡◌, ℕ, ◌<◌, Bool, List, [], ◌∷◌, Some, Result, sym, ap, ◌∙◌, arith}
use Rattle.std.specs.Prelude.{slice_get}
use Rattle.typed_tree.specs.declared.meaning.Meaning.{Meaning}
use Rattle.typed_tree.specs.declared.meaning.Meaning.TheVariants as meaning
use Rattle.typed_tree.specs.declared.known_types.Types.{Types}
use Rattle.typed_tree.specs.declared.shape.Made.{Made}
use Rattle.typed_tree.specs.declared.types.TypeNo.{TypeNo}
use Rattle.typed_tree.specs.Known.{made_at}
use Rattle.check_scope.specs.declared.known.Known.{Known}
use Rattle.check_scope.specs.declared.known.Known.TheVariants.{Later, Ahead, Begun, Headed, Declared}
use Rattle.law_simulation.specs.TreesTyped.{Context}
use Rattle.law_well_formed.specs.Formed.{Holds, fine, broken}
use Rattle.law_well_formed.specs.FormedRanges.{NamesRanged}
use Rattle.law_programs.specs.Carried.{NamesPlaced, NamesWords, NamesSlots}
use Rattle.law_programs.specs.Scopes.{MeaningIn, KnownIn, NamesIn}
use Rattle.law_programs.specs.Names.{HasInstance, NamesElse}
use Rattle.law_programs.proofs.Naming.{block_typed}
use Rattle.law_programs.specs.TypingBodies.{MeaningThere, KnownThere, NamesThere}

-- ---- outside of all procedures, what a name means is there

module _ (x : Context) (opens : ℕ → Bool) (outermost : x.kinds ≡ []) where
  meaning_there : (m : Meaning) → MeaningIn x opens 0 [] m → MeaningThere x opens 0 m
  meaning_there (meaning.Constant v) h = (h, tt)
  meaning_there (meaning.Type t n) h = (tt, tt)
  meaning_there (meaning.Variable v) h = (h, tt)
  meaning_there (meaning.Local v) h = (let e = h.1 in absurd cc)
  meaning_there (meaning.Field f) h = absurd h
  meaning_there (meaning.Procedure f) h = (h, tt)
  meaning_there (meaning.LocalProcedure f) h = let l : 0 < 0 = h.1 in absurd (omega (arith, l))
  meaning_there meaning.Ahead h = (tt, tt)
  meaning_there (meaning.Standard f) h = (tt, tt)
  meaning_there (meaning.Module k) h = (h, tt)

  result_there : {E : Type 0} {r : Result Meaning E} → Holds (MeaningIn x opens 0 []) r
      → Holds (MeaningThere x opens 0) r
  result_there (fine m h) = fine m (meaning_there m h)
  result_there (broken e) = broken e

  known_there : {T : Type 0} (k : Known T) → KnownIn x opens 0 [] k → KnownThere x opens 0 k
  known_there Later h = tt
  known_there Ahead h = tt
  known_there Begun h = tt
  known_there (Headed m) h = result_there h
  known_there (Declared o m) h = result_there h

  pub names_there : {T : Type 0} (es : List (List ℕ × Known T)) → NamesIn x opens 0 [] es → NamesThere x opens 0 es
  names_there [] h = tt
  names_there (e ∷ es) h = (known_there e.1 h.0, names_there es h.1)

  -- the names of a block, where these types and variables are known, and no slots
  pub module_names : {T : Type 0} (types : Types) (vs : List TypeNo) (es : List (List ℕ × Known T))
      → ((t : TypeNo) (m : Made) → made_at types t ≡ Some m → made_at x.home.types t ≡ Some m) → vs ≡ x.home.variables
      → HasInstance x → NamesRanged types es → NamesWords es → NamesPlaced x.home.types.home vs es → NamesSlots [] 0 es
      → NamesElse x opens 0 [] es → NamesThere x opens 0 es
  module_names types vs es grows same own ranged words placed slotted others =
      names_there es (block_typed x opens types vs [] 0 [] es (record {
        grows = grows;
        variables = λ n t e. ap (λ (ts : List TypeNo). slice_get ts n) (sym same) ∙ e;
        kinds = λ n k t e. absurd cc;
        own = own;
        ranged = ranged;
        words = words;
        placed = placed;
        slotted = slotted;
        others = others;
      }))
