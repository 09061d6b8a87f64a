-- What stands in frames and modules fits, and formals are passed in forms that are plain.
use Rattle.std.proofs.Common.{◌≡◌, ℕ, zero, suc, Bool, true, false, List, [], ◌∷◌, ◌++◌, map, Option, Some, None, if◌then◌else◌, subst}
use Rattle.std.specs.Prelude.{nat_lt}
use Rattle.typed_tree.specs.declared.shape.Formal.{Formal}
use Rattle.typed_tree.specs.declared.known_types.Types.{Types}
use Rattle.typed_tree.specs.declared.types.TypeNo.{TypeNo}
use Rattle.typed_tree.specs.declared.typed_module.Routine.{Routine}
use Rattle.typed_tree.specs.declared.typed_module.TypedModule.{TypedModule}
use Rattle.layout_storage.specs.Types.{Ty, Scalar, Cell, Hidden, Array, Nothing, Field, row, component, IsScalar, IsPlain, IsFit}
use Rattle.layout_storage.specs.Shapes.{tree}
use Rattle.layout_storage.specs.Frames.{formals_of, formal_tree, frame, module_row}
use Rattle.law_simulation.specs.Passing.{ByName, ByArray, value_form, form_of, forms_of}
use Rattle.law_simulation.specs.Stage.{IsForm, AreForms}
use Rattle.law_modules.specs.Ranges.{AreRanged}
use Rattle.law_simulation.proofs.Plain.{tree_plain}

-- ---- formals

value_plain : (t : Ty) → IsPlain t → IsForm (value_form t)
value_plain (Cell c) h = h
value_plain (Hidden n) h = absurd h
value_plain (Array n t) h = h
value_plain Nothing h = h
value_plain (Field t u) h = h

form_plain : (types : Types) → AreRanged types → (f : Formal) → IsForm (form_of types f)
form_plain types is f = by f.is_open f.is_var
  where
    by : (o v : Bool) → IsForm (if o then ByArray v (tree types f.of) else
        (if v then ByName (tree types f.of) else value_form (tree types f.of)))
    by true true = tt
    by true false = tree_plain types is f.of
    by false true = tt
    by false false = value_plain (tree types f.of) (tree_plain types is f.of)

all_forms : (types : Types) → AreRanged types → (fs : List Formal) → AreForms (map (form_of types) fs)
all_forms types is [] = tt
all_forms types is (f ∷ fs) = (form_plain types is f, all_forms types is fs)

pub forms_plain : (types : Types) → AreRanged types → (heading : TypeNo) → AreForms (forms_of types heading)
forms_plain types is heading = all_forms types is (formals_of types heading)

-- ---- frames: scalars of the language and hidden room

IsTame : Ty → Type 0
IsTame (Cell c) = IsScalar c
IsTame (Hidden n) = Unit {0}
IsTame (Array n t) = IsTame t
IsTame Nothing = Unit {0}
IsTame (Field t u) = IsTame t × IsTame u

plain_tame : (t : Ty) → IsPlain t → IsTame t
unfolding IsTame
plain_tame (Cell c) h = h
plain_tame (Hidden n) h = tt
plain_tame (Array n t) h = plain_tame t h
plain_tame Nothing h = tt
plain_tame (Field t u) h = (plain_tame t h.0, plain_tame u h.1)

when_some : (b : Bool) (o : Option Ty) (t : Ty) → (if b then o else None) ≡ Some t → o ≡ Some t
when_some true o t e = e
when_some false o t e = absurd cc

tame_scalar : (t : Ty) → IsTame t → (r : List ℕ) (c : Scalar) → component t r ≡ Some (Cell c) → IsScalar c
unfolding IsTame component
tame_scalar (Cell d) h [] c e = let same : d ≡ c = cc in subst IsScalar same h
tame_scalar (Cell d) h (i ∷ r) c e = absurd cc
tame_scalar (Hidden n) h [] c e = absurd cc
tame_scalar (Hidden n) h (i ∷ r) c e = absurd cc
tame_scalar (Array n t) h [] c e = absurd cc
tame_scalar (Array n t) h (i ∷ r) c e = tame_scalar t h r c (when_some (nat_lt i n) (component t r) (Cell c) e)
tame_scalar Nothing h [] c e = absurd cc
tame_scalar Nothing h (i ∷ r) c e = absurd cc
tame_scalar (Field t u) h [] c e = absurd cc
tame_scalar (Field t u) h (zero ∷ r) c e = tame_scalar t h.0 r c e
tame_scalar (Field t u) h (suc i ∷ r) c e = tame_scalar u h.1 (i ∷ r) c e

tame_fits : (t : Ty) → IsTame t → IsFit t
tame_fits t h = record { scalars = tame_scalar t h }

rows_tame : (ts us : List Ty) → IsTame (row ts) → IsTame (row us) → IsTame (row (ts ++ us))
unfolding IsTame
rows_tame [] us h k = k
rows_tame (t ∷ ts) us h k = (h.0, rows_tame ts us h.1 k)

trees_tame : (types : Types) → AreRanged types → (ts : List TypeNo) → IsTame (row (map (tree types) ts))
unfolding IsTame
trees_tame types is [] = tt
trees_tame types is (t ∷ ts) = (plain_tame (tree types t) (tree_plain types is t), trees_tame types is ts)

formals_tame : (types : Types) → AreRanged types → (fs : List Formal) → IsTame (row (map (formal_tree types) fs))
unfolding IsTame
formals_tame types is [] = tt
formals_tame types is (f ∷ fs) = (by f.is_open f.is_var, formals_tame types is fs)
  where
    by : (o v : Bool) → IsTame (if o then row (Hidden 4 ∷ Hidden 4 ∷ []) else (if v then Hidden 4 else tree types f.of))
    by true v = (tt, (tt, tt))
    by false true = tt
    by false false = plain_tame (tree types f.of) (tree_plain types is f.of)

pub frame_fits : (types : Types) → AreRanged types → (r : Routine) → IsFit (frame types r)
unfolding IsTame
frame_fits types is r =
    tame_fits (frame types r) (
      (tt, (tt, tt)),
      rows_tame (map (formal_tree types) (formals_of types r.heading))
          (map (tree types) r.variables) (formals_tame types is (formals_of types r.heading))
          (trees_tame types is r.variables),
    )

pub module_fits : (m : TypedModule) → AreRanged m.types → IsFit (module_row m)
module_fits m is = tame_fits (module_row m) (trees_tame m.types is m.variables)
