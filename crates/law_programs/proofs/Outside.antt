-- Names of a module that stand in no procedure mean what is there.
use Rattle.std.proofs.Common.{ℕ, Bool, List, [], ◌∷◌, arith}
use Rattle.typed_tree.specs.declared.meaning.Meaning.{Meaning}
use Rattle.typed_tree.specs.declared.meaning.Meaning.TheVariants as meaning
use Rattle.check_scope.specs.declared.known.Known.{Known}
use Rattle.check_scope.specs.declared.known.Known.TheVariants.{Later, Ahead, Begun, Headed, Declared}
use Rattle.law_well_formed.proofs.Basics.{holds_weaker}
use Rattle.law_programs.specs.Scopes.{MeaningIn, KnownIn, NamesIn}
use Rattle.law_programs.specs.TypingBodies.{Stage, stands, MeaningThere, KnownThere, NamesThere}

module _ (z : Stage) (opens : ℕ → Bool) where
  meaning_outside : (m : Meaning) → MeaningIn (stands z []) opens 0 [] m → MeaningThere (stands z []) opens 0 m
  meaning_outside (meaning.Constant v) h = (h, tt)
  meaning_outside (meaning.Type t n) h = (tt, tt)
  meaning_outside (meaning.Variable v) h = (h, tt)
  meaning_outside (meaning.Local v) h = let e = h.1 in absurd cc
  meaning_outside (meaning.Field f) h = absurd h
  meaning_outside (meaning.Procedure f) h = (h, tt)
  meaning_outside (meaning.LocalProcedure f) h = absurd (let e = h.1 in omega (arith, e))
  meaning_outside meaning.Ahead h = (tt, tt)
  meaning_outside (meaning.Standard f) h = (tt, tt)
  meaning_outside (meaning.Module k) h = (h, tt)

  known_outside : {T : Type 0} (k : Known T) → KnownIn (stands z []) opens 0 [] k → KnownThere (stands z []) opens 0 k
  known_outside Later h = tt
  known_outside Ahead h = tt
  known_outside Begun h = tt
  known_outside (Headed r) h = holds_weaker meaning_outside h
  known_outside (Declared o r) h = holds_weaker meaning_outside h

  pub names_outside : {T : Type 0} (es : List (List ℕ × Known T)) → NamesIn (stands z []) opens 0 [] es
      → NamesThere (stands z []) opens 0 es
  names_outside [] h = tt
  names_outside (e ∷ es) h = (known_outside e.1 h.0, names_outside es h.1)
