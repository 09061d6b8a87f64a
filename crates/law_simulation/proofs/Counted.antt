-- What functions give back, and frames around.
use Rattle.std.proofs.Common.{◌≡◌, ℕ, zero, suc, ◌<◌, Bool, true, false, List, [], ◌∷◌, length, if◌then◌else◌, refl, sym, arith}
use Rattle.std.specs.Prelude.{drop}
use Rattle.typed_tree.specs.declared.typed_module.Routine.{Routine}
use Rattle.typed_tree.specs.declared.known_types.Types.{Types}
use Rattle.def_meaning.specs.Calls.{is_function, is_there}
use Rattle.def_scheme.specs.Signatures.{results_of}
use Rattle.law_simulation.specs.Frames.{Kinds}
use Rattle.law_simulation.specs.Passing.{result_of}
use Rattle.law_simulation.proofs.Headings.{means_it}
use Rattle.law_simulation.specs.ProceduresLaws.{is_inner}

-- a procedure is a function where its type has a result
pub function_it : (types : Types) (r : Routine) → is_there (result_of types r.heading) ≡ is_function types r
function_it types r = sym (means_it types r.heading)

pub results_length : (b : Bool) → length (results_of b) ≡ (if b then 1 else 0)
results_length true = refl
results_length false = refl

-- ---- frames around

pub some_around : (u : ℕ) (kss : List Kinds) → u < length kss → is_inner (drop u kss) ≡ true
some_around u [] less = absurd (omega (arith, less))
some_around zero (ks ∷ kss) less = refl
some_around (suc u) (ks ∷ kss) less = some_around u kss (omega (arith, less))
