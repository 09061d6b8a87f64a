-- One frame more in front: what names mean is there still, one procedure deeper.
use Rattle.std.proofs.Common.{◌≡◌, ℕ, suc, ◌≤◌, Bool, List, [], ◌∷◌, Some, sym, subst, arith}
use Rattle.std.specs.Prelude.{◌-◌}
use Rattle.typed_tree.specs.declared.meaning.Meaning.{Meaning}
use Rattle.typed_tree.specs.declared.meaning.Meaning.TheVariants as meaning
use Rattle.typed_tree.specs.declared.meaning.Procedure.{Procedure}
use Rattle.typed_tree.specs.declared.meaning.Variable.{Variable}
use Rattle.typed_tree.specs.declared.types.TypeNo.{TypeNo}
use Rattle.check_scope.specs.declared.known.Known.{Known}
use Rattle.check_scope.specs.declared.known.Known.TheVariants.{Later, Ahead, Begun, Headed, Declared}
use Rattle.check_scope.specs.declared.scope.Block.{Block}
use Rattle.layout_storage.specs.Types.{Ty}
use Rattle.law_simulation.specs.Frames.{Kinds, kind_at}
use Rattle.law_simulation.specs.TreesTyped.{Context, IsVariable, IsNamed, IsInner}
use Rattle.law_well_formed.proofs.Basics.{holds_weaker}
use Rattle.law_programs.specs.Typing.{kind_of}
use Rattle.law_programs.specs.TypingBodies.{Stage, stands, MeaningThere, KnownThere, NamesThere, BlocksThere}

deeper : (l n : ℕ) → l ≤ n → suc n - l ≡ suc (n - l)
deeper l n h = omega (arith, h)

module _ (z : Stage) (k : Kinds) (kss : List Kinds) where
  abbrev x : Context
  x = stands z kss

  abbrev more : Context
  more = stands z (k ∷ kss)

  variable_deeper : (v : Variable) (t : Ty) → IsVariable x v t → IsVariable more v t
  variable_deeper v t h = record { known = h.known; type = h.type; there = h.there }

  named_deeper : (f : Procedure) → IsNamed x f → IsNamed more f
  named_deeper f h = record {
    known = h.known;
    home = h.home;
    there = h.there;
    routine = h.routine;
    is = h.is;
    outermost = h.outermost;
    forms = h.forms;
    result = h.result;
    heading = h.heading;
  }

  inner_deeper : (u n : ℕ) (t : TypeNo) → IsInner x (record { up = u; number = n; heading = t })
      → IsInner more (record { up = suc u; number = n; heading = t })
  inner_deeper u n t h = record {
    less = let e = h.less in omega (arith, e);
    there = h.there;
    routine = h.routine;
    is = h.is;
    kinds = h.kinds;
    forms = h.forms;
    result = h.result;
    heading = h.heading;
  }

  module _ (opens : ℕ → Bool) (level : ℕ) where
    pub meaning_deeper : (m : Meaning) → MeaningThere x opens level m → MeaningThere more opens (suc level) m
    meaning_deeper (meaning.Constant v) h = (h.0, tt)
    meaning_deeper (meaning.Type t n) h = (tt, tt)
    meaning_deeper (meaning.Variable v) h = (variable_deeper v _ h.0, tt)
    meaning_deeper (meaning.Local v) h =
        let e = h.1 in (
          subst (λ (u : ℕ). kind_at (k ∷ kss) (record { up = u; number = v.number })
              ≡ Some (kind_of z.home.types v.of v.kind)) (sym (deeper v.level level h.1)) h.0,
          omega (arith, e),
        )
    meaning_deeper (meaning.Field f) h = absurd h.1
    meaning_deeper (meaning.Procedure f) h = (named_deeper f h.0, tt)
    meaning_deeper (meaning.LocalProcedure f) h =
        let e = h.1 in (
          subst (λ (u : ℕ). IsInner more (record { up = u; number = f.number; heading = f.heading }))
              (sym (deeper f.level level h.1)) (inner_deeper (level - f.level) f.number f.heading h.0),
          omega (arith, e),
        )
    meaning_deeper meaning.Ahead h = (tt, tt)
    meaning_deeper (meaning.Standard f) h = (tt, tt)
    meaning_deeper (meaning.Module n) h = (h.0, tt)

    known_deeper : {T : Type 0} (n : Known T) → KnownThere x opens level n → KnownThere more opens (suc level) n
    known_deeper Later h = tt
    known_deeper Ahead h = tt
    known_deeper Begun h = tt
    known_deeper (Headed r) h = holds_weaker meaning_deeper h
    known_deeper (Declared o r) h = holds_weaker meaning_deeper h

    pub names_deeper : {T : Type 0} (es : List (List ℕ × Known T)) → NamesThere x opens level es
        → NamesThere more opens (suc level) es
    names_deeper [] h = tt
    names_deeper (e ∷ es) h = (known_deeper e.1 h.0, names_deeper es h.1)

    pub blocks_deeper : {T : Type 0} (bs : List (Block T)) → BlocksThere x opens level bs
        → BlocksThere more opens (suc level) bs
    blocks_deeper [] h = tt
    blocks_deeper (b ∷ bs) h = (names_deeper b.names h.0, blocks_deeper bs h.1)

-- what is there without a frame is there in any frames
pub meaning_anywhere : (z : Stage) (kss : List Kinds) (opens : ℕ → Bool) (level : ℕ) (m : Meaning)
    → MeaningThere (stands z []) opens 0 m → MeaningThere (stands z kss) opens level m
meaning_anywhere z kss opens level (meaning.Constant v) h = (h.0, tt)
meaning_anywhere z kss opens level (meaning.Type t n) h = (tt, tt)
meaning_anywhere z kss opens level (meaning.Variable v) h =
    (record { known = h.0.known; type = h.0.type; there = h.0.there }, tt)
meaning_anywhere z kss opens level (meaning.Local v) h = let e = h.0 in absurd cc
meaning_anywhere z kss opens level (meaning.Field f) h = absurd h.1
meaning_anywhere z kss opens level (meaning.Procedure f) h = (
  record {
    known = h.0.known;
    home = h.0.home;
    there = h.0.there;
    routine = h.0.routine;
    is = h.0.is;
    outermost =
        h.0.outermost;
    forms = h.0.forms;
    result = h.0.result;
    heading = h.0.heading;
  },
  tt,
)
meaning_anywhere z kss opens level (meaning.LocalProcedure f) h = absurd (let e = h.0.less in omega (arith, e))
meaning_anywhere z kss opens level meaning.Ahead h = (tt, tt)
meaning_anywhere z kss opens level (meaning.Standard f) h = (tt, tt)
meaning_anywhere z kss opens level (meaning.Module n) h = (h.0, tt)
