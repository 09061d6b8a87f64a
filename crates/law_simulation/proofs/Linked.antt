-- Linking gives each module what typed bodies ask for.
use Rattle.std.proofs.Common.{◌≡◌, ℕ, zero, suc, ◌+◌, ◌<◌, ◌^◌, pos, Bool, true, false, List, [], ◌∷◌, ◌++◌, length, map, Option, Some, None, if◌then◌else◌, refl, sym, ap, subst, ◌∙◌, arith}
use Rattle.std.specs.Prelude.{slice_get}
use Rattle.std.specs.Option.{option_and_then}
use Rattle.std.proofs.lemmas.Bool.{eqb-true}
use Rattle.std.proofs.lemmas.Option.{slice_get_within}
use Rattle.wasm_tree.specs.declared.module.WModule.{WModule}
use Rattle.wasm_tree.specs.declared.store.Callee.TheVariants.{Own}
use Rattle.wasm_tree.specs.declared.store.Value.TheVariants.{I32}
use Rattle.wasm_tree.specs.Validity.{AreDistinct}
use Rattle.wasm_tree.specs.Machine.{callee_at, callee_in, global_at, own_function}
use Rattle.law_effect.specs.Effect.{store_of}
use Rattle.typed_tree.specs.declared.meaning.Procedure.{Procedure}
use Rattle.typed_tree.specs.declared.meaning.Variable.{Variable}
use Rattle.typed_tree.specs.declared.typed_module.Imported.{Imported}
use Rattle.typed_tree.specs.declared.typed_module.Routine.{Routine}
use Rattle.typed_tree.specs.declared.typed_module.Which.{Which}
use Rattle.typed_tree.specs.declared.typed_module.Which.TheVariants as which
use Rattle.typed_tree.specs.declared.typed_module.TypedModule.{TypedModule}
use Rattle.layout_storage.specs.Types.{Ty, row, component}
use Rattle.layout_storage.specs.Shapes.{tree}
use Rattle.layout_storage.specs.Frames.{module_row}
use Rattle.layout_storage.specs.Texts.{characters, module_texts}
use Rattle.def_meaning.specs.Environment.{module_place, entries_before}
use Rattle.law_memory.specs.Relation.{value_number}
use Rattle.def_scheme.specs.Coded.{body_index}
use Rattle.def_scheme.specs.Exprs.{is_own, import_place, slots_global, variables_row, imported_row}
use Rattle.def_scheme.specs.Functions.{routine_of}
use Rattle.def_scheme.specs.Modules.{numbering_of, slots, typed_module}
use Rattle.law_modules.proofs.Own.{typed_in}
use Rattle.law_modules.specs.Linked.{Program, names, all, variables, count, slots_in, bytes_in, text_at}
use Rattle.law_modules.proofs.Stores.{text_length}
use Rattle.law_simulation.specs.RunsPrograms.{ground, fixtures_of}
use Rattle.law_simulation.specs.TreesTyped.{IsVariable, IsNamed}
use Rattle.law_simulation.specs.Linked.{function_of, called_by, routine_typed, context, HasVariable, HasProcedure, HasEntry, HasTexts, IsLinked}
use Rattle.law_simulation.specs.Knows.{known_variables, imported_variables, IsCoherent}
use Rattle.law_simulation.proofs.LinkedPlaces.{callee_there, module_there}
use Rattle.law_simulation.proofs.Globals.{Split, import_of, here, its_place, global_at_place, text_value, base_own, base_imported, own_offset, imported_offset, length_mapped}
use Rattle.law_simulation.proofs.LinkedSlots.{room_there, room_at, room_byte, slots_within, entry_value, tab_own, tab_elsewhere}
use Rattle.law_simulation.proofs.Functions.{count_is, procedure_there, local_there}
use Rattle.law_simulation.proofs.LinkedTables.{slot_callee}

module _ (p : Program) (pages : ℕ) (distinct : AreDistinct (names p)) (few : 1 + slots_in p < 2 ^ 32)
    (coherent : (place : ℕ) (m : TypedModule) → slice_get p place ≡ Some m → IsCoherent p place m)
    (place : ℕ) (m : TypedModule) (there : slice_get p place ≡ Some m) where
  abbrev is_coherent : IsCoherent p place m
  is_coherent = coherent place m there

  abbrev h : Split p place m
  h = here p pages place distinct m is_coherent

  -- ---- variables

  within : (t : Ty) (ts : List Ty) (j : ℕ) → component (row ts) (j ∷ []) ≡ Some t → j < length ts
  unfolding component
  within t [] j e = absurd cc
  within t (u ∷ ts) zero e = omega arith
  within t (u ∷ ts) (suc j) e = let less = within t ts j e in omega (arith, less)

  variable_known : (v : Variable) (t : Ty) → component (variables_row m v.home) (v.number ∷ []) ≡ Some t
      → v.number < length (known_variables m v.home)
  unfolding component
  variable_known v t is = by (is_own m v.home) refl
    where
      some_of : (o : Option Imported) → component (imported_row m.types o) (v.number ∷ []) ≡ Some t
          → v.number < length (imported_variables o)
      some_of None e = absurd cc
      some_of (Some i) e = let less = within t (map (tree m.types) i.variables) v.number e in
          let long = length_mapped p pages place distinct m is_coherent (tree m.types) i.variables in
          omega (arith, less, long)

      by : (b : Bool) → is_own m v.home ≡ b → v.number < length (known_variables m v.home)
      by true e =
          let type : component (module_row m) (v.number ∷ []) ≡ Some t =
          subst (λ (b : Bool). component (if b then module_row m else imported_row m.types
          (slice_get m.imports (import_place m v.home))) (v.number ∷ []) ≡ Some t) e is in
          let less = within t (map (tree m.types) m.variables) v.number type in
          let long = length_mapped p pages place distinct m is_coherent (tree m.types) m.variables in
          subst (λ (b : Bool). v.number < length
          (if b then m.variables else imported_variables (slice_get m.imports (import_place m v.home)))) (sym e)
          (omega (arith, less, long))
      by false e =
          let type : component (imported_row m.types (slice_get m.imports (import_place m v.home))) (v.number ∷ [])
          ≡ Some t = subst (λ (b : Bool). component
          (if b then module_row m else imported_row m.types (slice_get m.imports (import_place m v.home)))
          (v.number ∷ []) ≡ Some t) e is in
          subst (λ (b : Bool). v.number < length
          (if b then m.variables else imported_variables (slice_get m.imports (import_place m v.home)))) (sym e)
          (some_of (slice_get m.imports (import_place m v.home)) type)

  has_variable : (v : Variable) (t : Ty) →
      IsVariable (context p (ground p pages).base (ground p pages).texts place m []) v t
      → HasVariable p (ground p pages).base (ground p pages).texts (all p pages) (fixtures_of p pages) place m v
  has_variable v t is = by (is_own m v.home) refl
    where
      less : v.number < length (known_variables m v.home)
      less = variable_known v t is.type

      by : (b : Bool) → is_own m v.home ≡ b →
          HasVariable p (ground p pages).base (ground p pages).texts (all p pages) (fixtures_of p pages) place m v
      by true e = record {
        address = bytes_in h.before;
        there = λ bytes. base_own p pages place distinct m is_coherent bytes v.home e;
        at = own_offset p pages place distinct m is_coherent v e less;
      }
      by false e = let i = import_of m v.home e is.known in record {
        address = bytes_in (its_place p pages place distinct m is_coherent v.home i).before;
        there = λ bytes. base_imported p pages place distinct m is_coherent bytes v.home e i;
        at = imported_offset p pages place distinct m is_coherent v e i less;
      }

  -- ---- texts

  has_texts : HasTexts p (ground p pages).base (ground p pages).texts (all p pages) (fixtures_of p pages) place m
  has_texts = record {
    address = bytes_in h.before + variables m;
    there = λ bytes. global_at_place p pages place distinct m is_coherent bytes 2 (text_at p m.name)
        (I32 (bytes_in h.before + variables m)) refl (text_value p pages distinct h.before h.rest m h.is);
    number = length (map (tree m.types) m.variables);
    bytes = characters (module_texts m);
    type = room_there p pages place distinct m is_coherent;
    at = room_at p pages place distinct m is_coherent;
    fits = let long = text_length (module_texts m) in omega (arith, long);
    same = λ j less. room_byte p pages place distinct m is_coherent j less;
  }

  -- ---- slots of procedures

  module _ (to : ℕ) (home : TypedModule) (number : ℕ) (r : Routine) (found : slice_get p to ≡ Some home)
      (is : slice_get home.procedures number ≡ Some r) where
    abbrev at : Split p to home
    at = here p pages to distinct home (coherent to home found)

    slot_small : suc (slots_in at.before + suc number) < 2 ^ 32
    slot_small =
        let inside = slice_get_within home.procedures number r is in
        let whole : slots_in p ≡ slots_in (at.before ++ home ∷ at.rest) = ap slots_in at.is in
        let some_slots = slots_within at.before at.rest home in
        omega (arith, inside, whole, some_slots, few)

    slot_filled : (bytes : List ℕ) → callee_in (store_of (fixtures_of p pages) bytes) (suc place)
        (suc (slots_in at.before + suc number)) ≡ Some (Own (suc to) (6 + number))
    slot_filled bytes =
        let inside = slice_get_within home.procedures number r is in
        let many = count_is home in
        let less : suc number < slots home = omega (arith, inside) in
        let fewer : 5 + suc number < count home = omega (arith, inside, many) in
        ap (λ (k : ℕ). callee_in (store_of (fixtures_of p pages) bytes) (suc k) (suc (slots_in at.before + suc number)))
        (sym h.long)
        ∙ slot_callee p pages h.before h.rest m h.is at.before at.rest home at.is bytes (suc number) less fewer
        ∙ ap (λ (k : ℕ). Some (Own (suc k) (5 + suc number))) at.long
        ∙ ap (λ (k : ℕ). Some (Own (suc to) k)) (let j : 5 + suc number ≡ 6 + number = omega arith in j)

    -- the number of a procedure as a value is its slot
    value_slot : value_number p to number ≡ suc (slots_in at.before + suc number)
    value_slot = let entry = entry_value p to home at in omega (arith, entry)

    has_entry : HasEntry p (ground p pages).base (ground p pages).texts (all p pages) (fixtures_of p pages) place m to
        number
    has_entry = record {
      small = subst (λ (n : ℕ). n < 2 ^ 32) (sym value_slot) slot_small;
      filled = λ bytes. ap (callee_in (store_of (fixtures_of p pages) bytes) (suc place)) value_slot
          ∙ slot_filled bytes;
    }

  -- ---- procedures

  own_to : (home : ℕ) → is_own m home ≡ true → module_place p home ≡ place
  own_to home e = ap (module_place p) (eqb-true home m.types.home e) ∙ is_coherent.own

  module _ (f : Procedure) (is : IsNamed (context p (ground p pages).base (ground p pages).texts place m []) f) where
    abbrev to : ℕ
    to = module_place p f.home

    abbrev s : Split p to is.home
    s = here p pages to distinct is.home (coherent to is.home is.there)

    tab_there : (bytes : List ℕ) → global_at (store_of (fixtures_of p pages) bytes) (suc place) (slots_global m f.home)
        ≡ Some (I32 (1 + slots_in s.before))
    tab_there bytes = by (is_own m f.home) refl
      where
        by : (b : Bool) → is_own m f.home ≡ b
            → global_at (store_of (fixtures_of p pages) bytes) (suc place) (slots_global m f.home)
            ≡ Some (I32 (1 + slots_in s.before))
        by true e =
            tab_own p pages place distinct m is_coherent bytes f.home e
            ∙ ap (λ (n : ℕ). Some (I32 (1 + n)))
            (entry_value p place m h ∙ ap (λ (j : ℕ). entries_before j p) (sym (own_to f.home e))
            ∙ sym (entry_value p to is.home s))
        by false e = tab_elsewhere p pages place distinct m is_coherent bytes f.home e (import_of m f.home e is.known)
            is.home is.there (coherent to is.home is.there)

    has_procedure : HasProcedure p (ground p pages).base (ground p pages).texts (all p pages) (fixtures_of p pages)
        place m f
    has_procedure =
        let entry = entry_value p to is.home s in
        let small = slot_small to is.home f.number is.routine is.there is.is in record {
          slot = 1 + slots_in s.before;
          there = tab_there;
          is = ap (λ (n : ℕ). pos n) (omega (arith, entry));
          small = omega (arith, small);
          filled = λ bytes. ap (callee_in (store_of (fixtures_of p pages) bytes) (suc place))
              (let j : 1 + slots_in s.before + suc f.number ≡ suc (slots_in s.before + suc f.number) = omega arith in j)
              ∙ slot_filled to is.home f.number is.routine is.there is.is bytes;
        }

  -- ---- functions

  own_callee : (bytes : List ℕ) (j : ℕ) → j < count m
      → callee_at (store_of (fixtures_of p pages) bytes) (suc place) (suc (suc j)) ≡ Some (Own (suc place) j)
  own_callee bytes j less = subst (λ (i : ℕ). callee_at (store_of (fixtures_of p pages) bytes) (suc i) (suc (suc j))
      ≡ Some (Own (suc i) j)) h.long (callee_there p pages h.before h.rest m h.is bytes j less)

  called : (w : Which) (r : Routine) → routine_of m w ≡ Some r → (bytes : List ℕ)
      → callee_at (store_of (fixtures_of p pages) bytes) (suc place) (called_by m w)
      ≡ Some (Own (suc place) (function_of m w))
  called (which.Module j) r e bytes =
      let inside = slice_get_within m.procedures j r e in let many = count_is m in
      let next : suc body_index + j ≡ suc (suc (6 + j)) = omega arith in
      ap (callee_at (store_of (fixtures_of p pages) bytes) (suc place)) next
      ∙ own_callee bytes (6 + j) (omega (arith, inside, many))
  called (which.Local j) r e bytes =
      let inside = slice_get_within m.locals j r e in let many = count_is m in
      let next : suc body_index + (length m.procedures + j) ≡ suc (suc (6 + (length m.procedures + j))) = omega arith in
      ap (callee_at (store_of (fixtures_of p pages) bytes) (suc place)) next
      ∙ own_callee bytes (6 + (length m.procedures + j)) (omega (arith, inside, many))

  functions : (w : Which) (r : Routine) → routine_of m w ≡ Some r
      → own_function (all p pages) (suc place) (function_of m w) ≡ Some (routine_typed m w r)
  functions (which.Module j) r e = subst (λ (i : ℕ). own_function (all p pages) (suc i) (6 + j)
      ≡ Some (routine_typed m (which.Module j) r)) h.long (procedure_there p pages h.before h.rest m h.is j r e)
  functions (which.Local j) r e = subst (λ (i : ℕ). own_function (all p pages) (suc i) (6 + (length m.procedures + j))
      ≡ Some (routine_typed m (which.Local j) r)) h.long (local_there p pages h.before h.rest m h.is j r e)

  module_here : slice_get (all p pages) (suc place) ≡ Some (typed_module m)
  module_here = subst (λ (i : ℕ). slice_get (all p pages) (suc i) ≡ Some (typed_module m)) h.long
      (module_there p pages h.before h.rest m h.is)

  -- all of it
  pub is_linked : IsLinked p (ground p pages).base (ground p pages).texts (all p pages) (fixtures_of p pages) place m
  is_linked = record {
    there = there;
    own = is_coherent.own;
    variables = has_variable;
    procedures = has_procedure;
    entries = λ to home number r found is. has_entry to home number r found is;
    characters = has_texts;
    types = λ s e. ap (λ (o : Option WModule). option_and_then
        (λ (tree : WModule). slice_get tree.types (numbering_of m s.arguments s.result)) o) module_here
        ∙ typed_in m s e;
    called = called;
    functions = functions;
  }
