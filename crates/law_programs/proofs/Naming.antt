-- The names of one block, sort by sort.
use Rattle.std.proofs.Common.{◌≡◌, ℕ, zero, suc, Bool, true, false, ◌||◌, cond, List, [], ◌∷◌, ◌++◌, map, Some, Result, refl, sym, ap, ◌∙◌, ◌==◌, eqb-true}
use Rattle.std.specs.Prelude.{slice_get}
use Rattle.std.specs.List.{list_any}
use Rattle.typed_tree.specs.declared.meaning.LocalKind.{LocalKind}
use Rattle.typed_tree.specs.declared.meaning.Meaning.{Meaning}
use Rattle.typed_tree.specs.declared.meaning.Meaning.TheVariants as meaning
use Rattle.typed_tree.specs.declared.meaning.Variable.{Variable}
use Rattle.typed_tree.specs.declared.known_types.Types.{Types}
use Rattle.typed_tree.specs.declared.types.TypeNo.{TypeNo}
use Rattle.check_scope.specs.declared.known.Known.{Known}
use Rattle.check_scope.specs.declared.known.Known.TheVariants.{Later, Ahead, Begun, Headed, Declared}
use Rattle.layout_storage.specs.Types.{Ty, row, component}
use Rattle.layout_storage.specs.Shapes.{tree}
use Rattle.layout_storage.specs.Frames.{module_row}
use Rattle.def_meaning.specs.Environment.{module_place}
use Rattle.def_scheme.specs.Exprs.{is_own, import_place, imported_row}
use Rattle.law_simulation.specs.Frames.{Kinds}
use Rattle.law_simulation.specs.TreesTyped.{Context, IsVariable}
use Rattle.law_well_formed.specs.Formed.{Holds, fine, broken}
use Rattle.law_well_formed.specs.FormedRanges.{MeaningRanged, KnownRanged, NamesRanged}
use Rattle.law_well_formed.proofs.RangesTypes.{value_kept}
use Rattle.law_well_formed.proofs.ScopesDeclarations.{same_home}
use Rattle.law_programs.specs.Scopes.{MeaningIn, KnownIn, NamesIn}
use Rattle.law_programs.specs.Carried.{MeaningPlaced, KnownPlaced, NamesPlaced, MeaningWord, KnownWord, NamesWords, MeaningSlot, KnownSlot, NamesSlots}
use Rattle.law_programs.specs.Names.{HasVariables, HasInstance, MeaningElse, KnownElse, NamesElse, BlockFound}
use Rattle.law_programs.proofs.Known.{scalar_known}

-- ---- variables

component_there : (ts : List Ty) (n : ℕ) (t : Ty) (p : List ℕ) → slice_get ts n ≡ Some t
    → component (row ts) (n ∷ p) ≡ component t p
unfolding component
component_there [] n t p e = absurd cc
component_there (u ∷ ts) zero t p e = let same : u ≡ t = cc in ap (λ (v : Ty). component v p) same
component_there (u ∷ ts) (suc n) t p e = component_there ts n t p e

mapped_there : {A B : Type 0} (f : A → B) (xs : List A) (n : ℕ) (x : A) → slice_get xs n ≡ Some x
    → slice_get (map f xs) n ≡ Some (f x)
mapped_there f [] n x e = absurd cc
mapped_there f (y ∷ ys) zero x e = let same : y ≡ x = cc in ap (λ z. Some (f z)) same
mapped_there f (y ∷ ys) (suc n) x e = mapped_there f ys n x e

front_there : {A : Type 0} (xs ys : List A) (n : ℕ) (x : A) → slice_get xs n ≡ Some x → slice_get (xs ++ ys) n ≡ Some x
front_there [] ys n x e = absurd cc
front_there (z ∷ xs) ys zero x e = e
front_there (z ∷ xs) ys (suc n) x e = front_there xs ys n x e

pub variable_there : (x : Context) (v : Variable) (ts : List TypeNo) → HasVariables x v.home ts
    → slice_get ts v.number ≡ Some v.of → IsVariable x v (tree x.home.types v.of)
unfolding component
variable_there x v ts h e =
    let at : slice_get (map (tree x.home.types) ts) v.number ≡ Some (tree x.home.types v.of) =
    mapped_there (tree x.home.types) ts v.number v.of e in
    let type : component (row (map (tree x.home.types) ts)) (v.number ∷ []) ≡ Some (tree x.home.types v.of) =
    component_there (map (tree x.home.types) ts) v.number (tree x.home.types v.of) [] at in
    record {
      known = h.known;
      type = ap (λ (r : Ty). component r (v.number ∷ [])) h.typed ∙ type;
      there =
          component_there x.base (module_place x.p v.home) (row (map (tree x.home.types) ts ++ h.behind))
          (v.number ∷ []) h.there
          ∙ component_there (map (tree x.home.types) ts ++ h.behind) v.number (tree x.home.types v.of) []
          (front_there (map (tree x.home.types) ts) h.behind v.number (tree x.home.types v.of) at);
    }

own_variables : (x : Context) (home : ℕ) → home ≡ x.home.types.home → HasInstance x
    → HasVariables x home x.home.variables
own_variables x home e h =
    let own : is_own x.home home ≡ true = same_home home x.home.types.home e in
    record {
      known = ap (λ (b : Bool). b || list_any (λ i. i.number == home) x.home.imports) own;
      typed = ap (λ (b : Bool). cond b (module_row x.home)
          (imported_row x.home.types (slice_get x.home.imports (import_place x.home home)))) own;
      behind = h.behind;
      there = ap (λ (n : ℕ). slice_get x.base (module_place x.p n)) e ∙ h.there;
    }

-- ---- names

module _ {T : Type 0} (x : Context) (opens : ℕ → Bool) (types : Types) (vs : List TypeNo)
    (slots : List (LocalKind × TypeNo)) (level : ℕ) (kss : List Kinds) (all : List (List ℕ × Known T))
    (h : BlockFound x opens types vs slots level kss all) where
  variable_by : (v : Variable) (b : Bool) → (v.home == x.home.types.home) ≡ b
      → MeaningPlaced x.home.types.home vs (meaning.Variable v) → MeaningElse x opens level kss (meaning.Variable v)
      → MeaningIn x opens level kss (meaning.Variable v)
  variable_by v true e p q =
      let same : v.home ≡ x.home.types.home = eqb-true v.home x.home.types.home e in
      variable_there x v x.home.variables (own_variables x v.home same h.own) (h.variables v.number v.of (p same))
  variable_by v false e p q = q (λ same. let z : (v.home == x.home.types.home) ≡ true =
      same_home v.home x.home.types.home same in let no : false ≡ true = sym e ∙ z in cc no)

  meaning_in : (m : Meaning) → MeaningRanged types m → MeaningWord m → MeaningPlaced x.home.types.home vs m
      → MeaningSlot slots level m → MeaningElse x opens level kss m → MeaningIn x opens level kss m
  meaning_in (meaning.Constant v) r w p s q =
      (value_kept types x.home.types (scalar_known types x.home.types h.grows) v r, w)
  meaning_in (meaning.Type t n) r w p s q = tt
  meaning_in (meaning.Variable v) r w p s q = variable_by v (v.home == x.home.types.home) refl p q
  meaning_in (meaning.Local v) r w p s q = (s.0, h.kinds v.number v.kind v.of s.1)
  meaning_in (meaning.Field f) r w p s q = q
  meaning_in (meaning.Procedure f) r w p s q = q
  meaning_in (meaning.LocalProcedure f) r w p s q = q
  meaning_in meaning.Ahead r w p s q = tt
  meaning_in (meaning.Standard f) r w p s q = tt
  meaning_in (meaning.Module k) r w p s q = q

  result_in : {E : Type 0} {m : Result Meaning E} → Holds (MeaningRanged types) m → Holds MeaningWord m
      → Holds (MeaningPlaced x.home.types.home vs) m → Holds (MeaningSlot slots level) m
      → Holds (MeaningElse x opens level kss) m → Holds (MeaningIn x opens level kss) m
  result_in (fine m r) (fine m1 w) (fine m2 p) (fine m3 s) (fine m4 q) = fine m (meaning_in m r w p s q)
  result_in (broken e) w p s q = broken e

  known_in : (k : Known T) → KnownRanged types k → KnownWord k → KnownPlaced x.home.types.home vs k
      → KnownSlot slots level k → KnownElse x opens level kss k → KnownIn x opens level kss k
  known_in Later r w p s q = tt
  known_in Ahead r w p s q = tt
  known_in Begun r w p s q = tt
  known_in (Headed m) r w p s q = result_in r w p s q
  known_in (Declared o m) r w p s q = result_in r w p s q

  names_in : (es : List (List ℕ × Known T)) → NamesRanged types es → NamesWords es → NamesPlaced x.home.types.home vs es
      → NamesSlots slots level es → NamesElse x opens level kss es → NamesIn x opens level kss es
  names_in [] r w p s q = tt
  names_in (e ∷ es) r w p s q = (known_in e.1 r.0 w.0 p.0 s.0 q.0, names_in es r.1 w.1 p.1 s.1 q.1)

pub block_typed : {T : Type 0} (x : Context) (opens : ℕ → Bool) (types : Types) (vs : List TypeNo)
    (slots : List (LocalKind × TypeNo)) (level : ℕ) (kss : List Kinds) (es : List (List ℕ × Known T))
    → BlockFound x opens types vs slots level kss es → NamesIn x opens level kss es
block_typed x opens types vs slots level kss es h =
    names_in x opens types vs slots level kss es h es h.ranged h.words h.placed h.slotted h.others
