-- All formals, one after another.
use Rattle.std.proofs.Common.{◌≡◌, ◌⊎◌, inl, inr, ⊎_elim, ℕ, zero, suc, ◌+◌, ◌-◌, ◌^◌, ◌<◌, ◌≤◌, ℤ, true, false, List, [], ◌∷◌, ◌++◌, map, length, Some, refl, sym, ap, subst, ◌∙◌, append_assoc, append-nil, length-append, arith}
use Rattle.std.specs.Prelude.{get_or, slice_get}
use Rattle.wasm_tree.specs.declared.instr.Instr.{Instr}
use Rattle.wasm_tree.specs.declared.instr.Instr.TheVariants as instr
use Rattle.wasm_tree.specs.declared.store.Value.{Value}
use Rattle.wasm_tree.specs.declared.store.Value.TheVariants.{I64}
use Rattle.law_effect.specs.Bytes.{byte}
use Rattle.law_effect.specs.Effect.{State as Target, Effect, Ended}
use Rattle.law_effect.proofs.Steps.{get_runs}
use Rattle.layout_storage.specs.Types.{Ty, Natural, Cell, Hidden, Array, row, component, IsPlain}
use Rattle.layout_storage.specs.Sizes.{Four, size, offset}
use Rattle.layout_storage.specs.Texts.{argument_text}
use Rattle.def_meaning.specs.Store.{Location, Store, overlay}
use Rattle.def_meaning.specs.Statements.{character}
use Rattle.def_meaning.specs.Environment.{Modules, Named, At, Elements, Passed, Number, Variable, Array as Whole, Text}
use Rattle.def_meaning.specs.Calls.{Entered, with_passed}
use Rattle.law_memory.specs.Cells.{stored_in}
use Rattle.law_memory.specs.Relation.{Shows, Keeps}
use Rattle.law_memory.proofs.Places.{inside}
use Rattle.law_memory.proofs.Keeps.{shows_at, shows_moved}
use Rattle.law_memory.proofs.Worlds.{lies, component_old, offset_old, component_new, in_world, row_size, size_old, row_no_leaf, is_leaf_hidden}
use Rattle.law_simulation.specs.Scene.{Scene, IsSet, calls, runs, word}
use Rattle.law_simulation.specs.Frames.{Kind, Open, kind_tree, IsNamed, AreNamed}
use Rattle.law_simulation.specs.Passing.{Form, ByNumber, ByCopy, ByName, ByArray, Forms, IsPlaced, IsPassed, ArePassed, none_passed, more_passed}
use Rattle.law_simulation.proofs.Copies.{text_shows}
use Rattle.law_simulation.specs.Stage.{kind_of, IsForm, AreForms, copy_of, copies_of, is_name, with_forms, form_kept, forms_kept, operands_of, HasLimit, SameBelow}
use Rattle.law_simulation.proofs.Rooms.{same_then, same_same, same_placed, keeps_placed, place_more, instance_at}
use Rattle.law_simulation.proofs.Steps.{OnStage, IsSource, number_step, copy_step, hidden_step, array_step, open_step, OpenDone}

-- ---- arguments that were passed, where more instances live

module _ (base more : List Ty) (x x' : Location → ℕ → ℕ)
    (older : (i : ℕ) (p : Location) (k : ℕ) → i < length base → x' (i ∷ p) k ≡ x (i ∷ p) k) where
  room_old : (room : Location) (n j : ℕ) → component (row base) room ≡ Some (Hidden n)
      → (component (row (base ++ more)) room ≡ Some (Hidden n))
      × (offset (row (base ++ more)) room ≡ offset (row base) room) × (x' room j ≡ x room j)
  room_old [] n j e = absurd (row_no_leaf base (Hidden n) (is_leaf_hidden n) e)
  room_old (i ∷ p) n j e = (
    component_old base more i p (Hidden n) e,
    offset_old base more i p (Hidden n) e,
    older i p j
        (in_world base i p (Hidden n) e),
  )

  placed_lift : (text : List ℕ) (a : ℕ) → IsPlaced base x text a → IsPlaced (base ++ more) x' text a
  placed_lift text a h = record {
    room = h.room;
    bytes = h.bytes;
    at = h.at;
    type = (room_old h.room h.bytes 0 h.type).0;
    is = ap (λ (i : ℕ). i + h.at) (room_old h.room h.bytes 0 h.type).1 ∙ h.is;
    fits = h.fits;
    same = λ j less. (room_old h.room h.bytes (h.at + j) h.type).2 ∙ h.same j less;
    small = h.small;
    below = h.below;
  }

  pub passed_lift : (program : Modules) (f : Form) (p : Passed) (vs : List Value) → IsPassed program base x f p vs
      → IsPassed program (base ++ more) x' f p vs
  passed_lift program (ByNumber c) (Number v) vs h = h
  passed_lift program (ByNumber c) (Variable l) vs h = absurd h
  passed_lift program (ByNumber c) (Whole l high) vs h = absurd h
  passed_lift program (ByNumber c) (Text text) vs h = absurd h
  passed_lift program (ByCopy t) (Number v) vs h = absurd h
  passed_lift program (ByCopy t) (Variable l) vs h = let p = place_more base more l t h.0 h.1 in
      (p.0, h.1, h.2 ∙ ap (λ (a : ℕ). I64 a ∷ []) (sym p.1))
  passed_lift program (ByCopy t) (Whole l high) vs h = absurd h
  passed_lift program (ByCopy t) (Text text) vs h = absurd h
  passed_lift program (ByName t) (Number v) vs h = absurd h
  passed_lift program (ByName t) (Variable l) vs h = let p = place_more base more l t h.0 h.1 in
      (p.0, h.1, h.2 ∙ ap (λ (a : ℕ). I64 a ∷ []) (sym p.1))
  passed_lift program (ByName t) (Whole l high) vs h = absurd h
  passed_lift program (ByName t) (Text text) vs h = absurd h
  passed_lift program (ByArray is_var t) (Number v) vs h = absurd h
  passed_lift program (ByArray is_var t) (Variable l) vs h = absurd h
  passed_lift program (ByArray is_var t) (Whole l high) vs h = let p =
      place_more base more l (Array (suc high) t) h.0 h.1 in
      (p.0, h.1, h.2, h.3 ∙ ap (λ (a : ℕ). I64 a ∷ I64 high ∷ []) (sym p.1))
  passed_lift program (ByArray is_var t) (Text text) vs h =
      (h.0, h.1, h.2, placed_lift (argument_text text) h.2 h.3, h.4)

some_length : (text : List ℕ) → suc (length (argument_text text) - 1) ≡ length (argument_text text)
some_length [] = omega arith
some_length (c ∷ text) = omega arith

same_character : (text : List ℕ) (j : ℕ) → get_or (argument_text text) j 0 ≡ get_or text j 0
same_character [] zero = refl
same_character [] (suc j) = refl
same_character (c ∷ text) j = refl

module _ (k : Scene) (set : IsSet k) (has : HasLimit k) (root top : ℕ) (F : Ty) (given : List Value) (out : List ℕ)
    (first : 0 < top) (two : suc top < k.locals) where
  abbrev Staged : List Ty → (Location → ℕ → ℕ) → Store → Target → Type 0
  Staged = OnStage k set has root top F given out first two

  -- a formal is there, with its name
  pub record FormDone (world : List Ty) (x : Location → ℕ → ℕ) (e : Entered) (f : Form) (p : Passed) (rest : List Instr)
      (r : Effect) : Type 0 where
    pub x' : Location → ℕ → ℕ
    pub st' : Target
    pub stage : Staged (world ++ copy_of f p) x' (with_passed (is_name f) root e p).store st'
    pub same : SameBelow root (length e.names) x x'
    pub name : Named
    pub names : (with_passed (is_name f) root e p).names ≡ e.names ++ name ∷ []
    pub next : (with_passed (is_name f) root e p).next ≡ length (world ++ copy_of f p)
    pub named : (more : List Ty) (y : Location → ℕ → ℕ) → SameBelow root (suc (length e.names)) x' y
        → IsNamed ((world ++ copy_of f p) ++ more) y root (length e.names) (kind_of f) name
    pub run : r ≡ runs k rest st' []

  abbrev pub FormGoes : (world : List Ty) (x : Location → ℕ → ℕ) (e : Entered) (f : Form) (p : Passed)
      (rest : List Instr) (r : Effect) → Type 0
  FormGoes world x e f p rest r = FormDone world x e f p rest r
      ⊎ ((k.limit < size (row (world ++ copy_of f p))) × (r ≡ Ended 8 out))

  -- nothing is copied behind the other instances
  plain_done : (world : List Ty) (x : Location → ℕ → ℕ) (e : Entered) (f : Form) (p : Passed) (rest : List Instr)
      (r : Effect) → copy_of f p ≡ []
      → (x' : Location → ℕ → ℕ) (st' : Target) → Staged world x' (with_passed (is_name f) root e p).store st'
      → SameBelow root (length e.names) x x' → (name : Named)
      → (with_passed (is_name f) root e p).names ≡ e.names ++ name ∷ []
      → (with_passed (is_name f) root e p).next ≡ length world
      → ((more : List Ty) (y : Location → ℕ → ℕ) → SameBelow root (suc (length e.names)) x' y
      → IsNamed (world ++ more) y root (length e.names) (kind_of f) name) → r ≡ runs k rest st' []
      → FormDone world x e f p rest r
  plain_done world x e f p rest r none x' st' stage same name names next named run =
      let w : world ++ copy_of f p ≡ world = ap (λ (c : List Ty). world ++ c) none ∙ append-nil world in
      record {
        x' = x';
        st' = st';
        stage = subst (λ (w : List Ty). Staged w x' (with_passed (is_name f) root e p).store st') (sym w) stage;
        same = same;
        name = name;
        names = names;
        next = next ∙ ap (λ (w : List Ty). length w) (sym w);
        named = λ more y s. subst (λ (w : List Ty). IsNamed (w ++ more) y root (length e.names) (kind_of f) name)
            (sym w) (named more y s);
        run = run;
      }

  keeps_on : (v : ℕ) (q : Location) (n m : ℕ) (x y : Location → ℕ → ℕ) → n ≡ m → SameBelow root (suc v) x y
      → Keeps x (root ∷ suc v ∷ q) (stored_in Four n) → Keeps y (root ∷ suc v ∷ q) (stored_in Four m)
  keeps_on v q n m x y e same keeps = subst (λ (m : ℕ). Keeps y (root ∷ suc v ∷ q) (stored_in Four m)) e
      (λ j less. same.own (suc v) q j (omega arith) ∙ keeps j less)

  -- where the operands of a formal are
  abbrev pub AreGiven : (i : ℕ) → List Value → Type 0
  AreGiven i vs = (j : ℕ) → slice_get given (i + j) ≡ slice_get vs j

  given_one : (i : ℕ) (v : Value) (vs : List Value)
      → ((j : ℕ) → j < length (v ∷ vs) → slice_get given (i + j) ≡ slice_get (v ∷ vs) j) → slice_get given i ≡ Some v
  given_one i v vs h = ap (λ (n : ℕ). slice_get given n) (plus_none i) ∙ h 0 (omega arith)
    where
      plus_none : (i : ℕ) → i ≡ i + 0
      plus_none i = omega arith

  given_two : (i : ℕ) (v w : Value) → ((j : ℕ) → j < 2 → slice_get given (i + j) ≡ slice_get (v ∷ w ∷ []) j)
      → slice_get given (suc i) ≡ Some w
  given_two i v w h = ap (λ (n : ℕ). slice_get given n) (plus_one i) ∙ h 1 (omega arith)
    where
      plus_one : (i : ℕ) → suc i ≡ i + 1
      plus_one i = omega arith

  below_32 : (world : List Ty) (x : Location → ℕ → ℕ) (s : Store) (st : Target) → Staged world x s st
      → (l : Location) (t : Ty) → component (row world) l ≡ Some t → offset (row world) l < 2 ^ 32
  below_32 world x s st g l t e = let fits = lies k.program world x s st.bytes g.holds l t e in let long = g.long in
      let small = has.small in omega (arith, fits, long, small)

  -- a variable's elements are copied
  variable_source : (world : List Ty) (x : Location → ℕ → ℕ) (s : Store) (st : Target) → Staged world x s st
      → (l : Location) (t : Ty) → component (row world) l ≡ Some t
      → IsSource k set has root top F given out first two world st.bytes (offset (row world) l) t (λ r. s (l ++ r))
  variable_source world x s st g l t e = record {
    fits = inside (row world) t l e;
    shows = λ m' moved. shows_moved k.program t (offset (row world) l) (size (row world)) (λ r. s (l ++ r)) st.bytes m'
        moved
        (subst (λ (a : ℕ). Shows k.program t a (λ r. s (l ++ r)) st.bytes) (omega arith)
        (shows_at k.program (row world) t 0 l s st.bytes e g.holds.cells));
  }

  -- and the characters of a string
  text_source : (world : List Ty) (x : Location → ℕ → ℕ) (s : Store) (st : Target) → Staged world x s st
      → (text : List ℕ) (a : ℕ) → IsPlaced world x (argument_text text) a
      → IsSource k set has root top F given out first two world st.bytes a
      (Array (length (argument_text text)) (Cell (Natural 255))) (character text)
  unfolding size
  text_source world x s st g text a h =
      let within = inside (row world) (Hidden h.bytes) h.room h.type in
      let fits = h.fits in
      let is = h.is in
      record {
        fits = omega (arith, within, fits, is);
        shows = λ m' moved. text_shows k.program (length (argument_text text)) (size (row world)) text m'
            (λ j less. moved j (omega (arith, less)) ∙ ap (λ (i : ℕ). byte i st.bytes) (at_room j is)
            ∙ g.holds.hidden h.room h.bytes (h.at + j) h.type (omega (arith, less, fits)) ∙ h.same j less
            ∙ same_character text j)
            (λ j. subst (λ (n : ℕ). n < 256) (same_character text j) (h.small j));
      }
    where
      at_room : (j : ℕ) → offset (row world) h.room + h.at ≡ a → a + j ≡ 0 + offset (row world) h.room + (h.at + j)
      at_room j e = omega (arith, e)

  -- the copy of an open array is the newest instance
  open_named : (world : List Ty) (x' : Location → ℕ → ℕ) (v high : ℕ) (t : Ty) → high < 2 ^ 32
      → Keeps x' (root ∷ suc v ∷ 0 ∷ []) (stored_in Four (size (row world)))
      → Keeps x' (root ∷ suc v ∷ 1 ∷ []) (stored_in Four high)
      → (more : List Ty) (y : Location → ℕ → ℕ) → SameBelow root (suc v) x' y
      → IsNamed ((world ++ Array (suc high) t ∷ []) ++ more) y root v (Open t) (Elements (length world ∷ []) high)
  unfolding component
  open_named world x' v high t small address second more y same =
      let A : Ty = Array (suc high) t in
      let here : component (row (world ++ A ∷ [])) (length world ∷ []) ≡ Some A = component_new world A [] in
      let at : size (row world) ≡ offset (row ((world ++ A ∷ []) ++ more)) (length world ∷ []) =
      sym (offset_old (world ++ A ∷ []) more (length world) [] A here ∙ instance_at world A []) in (
        component_old (world ++ A ∷ []) more (length world) [] A here,
        omega arith,
        small,
        keeps_on v (0 ∷ [])
            (size (row world)) _ x' y at same address,
        keeps_on v (1 ∷ []) high high x' y refl same second,
      )

  module _ (world : List Ty) (x : Location → ℕ → ℕ) (e : Entered) (st : Target) (i : ℕ) (rest : List Instr)
      (posi : 0 < i) (g : Staged world x e.store st) (newest : e.next ≡ length world) where
    abbrev v : ℕ
    v = length e.names

    abbrev At' : List Value → Type 0
    At' vs = (j : ℕ) → j < length vs → slice_get given (i + j) ≡ slice_get vs j

    row_over : (A : Ty) → k.limit < size (row world) + size A → k.limit < size (row (world ++ A ∷ []))
    row_over A h = let s = row_size world A in omega (arith, s, h)

    copy_form : (t : Ty) (f : Location → ℤ) (n high : ℕ) → IsPlain t → i + 2 ≤ top → slice_get given i ≡ Some (I64 n)
        → slice_get given (suc i) ≡ Some (I64 high) → high < 2 ^ 32
        → IsSource k set has root top F given out first two world st.bytes n (Array (suc high) t) f
        → component F (suc v ∷ []) ≡ Some (row (Hidden 4 ∷ Hidden 4 ∷ [])) → (p : Passed)
        → copy_of (ByArray false t) p ≡ Array (suc high) t ∷ []
        → (with_passed false root e p) ≡ record {
          names = e.names ++ Elements (e.next ∷ []) high ∷ [];
          next =
              suc e.next;
          store = overlay (e.next ∷ []) f e.store;
        }
        → FormGoes world x e (ByArray false t) p rest (runs k (form_kept top F v i (ByArray false t) ++ rest) st [])
    copy_form t f n high whole less e0 e1 small source type p copy entered =
        ⊎_elim
        (λ (d : (size (row world) + size (Array (suc high) t) ≤ k.limit)
        × OpenDone k set has root top F given out first two (world ++ Array (suc high) t ∷ [])
        (overlay (length world ∷ []) (λ r k. 0) x) (overlay (length world ∷ []) f e.store) v (size (row world)) high
        x rest (runs k (form_kept top F v i (ByArray false t) ++ rest) st [])).
        inl (record {
          x' = d.1.x';
          st' = d.1.st';
          stage = subst (λ (c : List Ty). Staged (world ++ c) d.1.x' (with_passed false root e p).store d.1.st')
              (sym copy)
              (subst (λ (s : Store). Staged (world ++ Array (suc high) t ∷ []) d.1.x' s d.1.st')
              (sym (ap (λ (e' : Entered). e'.store) entered ∙ ap (λ (n : ℕ). overlay (n ∷ []) f e.store) newest))
              d.1.stage);
          same = d.1.same;
          name = Elements (e.next ∷ []) high;
          names = ap (λ (e' : Entered). e'.names) entered;
          next = ap (λ (e' : Entered). e'.next) entered ∙ ap suc newest
              ∙ sym (length-append world (Array (suc high) t ∷ []) ∙ plus_one (length world))
              ∙ ap (λ (c : List Ty). length (world ++ c)) (sym copy);
          named = λ more y s. subst (λ (c : List Ty). IsNamed ((world ++ c) ++ more) y root v (Open t)
              (Elements (e.next ∷ []) high)) (sym copy)
              (subst (λ (n : ℕ). IsNamed ((world ++ Array (suc high) t ∷ []) ++ more) y root v (Open t)
              (Elements (n ∷ []) high)) (sym newest)
              (open_named world d.1.x' v high t small d.1.address_kept d.1.high_kept more y s));
          run = d.1.run;
        }))
        (λ (over : (k.limit < size (row world) + size (Array (suc high) t))
        × (runs k (form_kept top F v i (ByArray false t) ++ rest) st [] ≡ Ended 8 out)).
        inr (
          subst (λ (c : List Ty). k.limit < size (row (world ++ c))) (sym copy)
              (row_over (Array (suc high) t) over.0),
          over.1,
        ))
        (open_step k set has root top F given out first two world x e.store st v i n high t f rest posi g
        (omega (arith, less)) e0 e1 small whole source type)
      where
        plus_one : (n : ℕ) → n + 1 ≡ suc n
        plus_one n = omega arith

    pub form_step : (f : Form) (p : Passed) (vs : List Value) → IsForm f → IsPassed k.program world x f p vs → At' vs
        → i + length vs ≤ top → component F (suc v ∷ []) ≡ Some (kind_tree (kind_of f))
        → FormGoes world x e f p rest (runs k (form_kept top F v i f ++ rest) st [])
    form_step (ByNumber c) (Number z) vs ok h at less type =
        let at' = subst At' h.2 at in
        let less' : i + 1 ≤ top = subst (λ (vs : List Value). i + length vs ≤ top) h.2 less in
        let p = number_step k set has root top F given out first two world x e.store st v i c z rest posi g
        (omega (arith, less')) (given_one i (I64 (word z)) [] at') ok h.0 h.1 type in
        inl (plain_done world x e (ByNumber c) (Number z) rest _ refl x (record st { bytes = p.0 }) p.1
        (same_same root v x) (At (root ∷ suc v ∷ [])) refl newest (λ more y s. refl) p.2)
    form_step (ByCopy t) (Variable l) vs ok h at less type =
        let at' = subst At' h.2 at in
        let less' : i + 1 ≤ top = subst (λ (vs : List Value). i + length vs ≤ top) h.2 less in
        let p = copy_step k set has root top F given out first two world x e.store st v i t l rest posi g
        (omega (arith, less')) (given_one i (I64 (offset (row world) l)) [] at') ok h.0 type in
        inl (plain_done world x e (ByCopy t) (Variable l) rest _ refl x (record st { bytes = p.0 }) p.1
        (same_same root v x) (At (root ∷ suc v ∷ [])) refl newest (λ more y s. refl) p.2)
    form_step (ByName t) (Variable l) vs ok h at less type =
        let at' = subst At' h.2 at in
        let less' : i + 1 ≤ top = subst (λ (vs : List Value). i + length vs ≤ top) h.2 less in
        let n : ℕ = offset (row world) l in
        let x1 : Location → ℕ → ℕ = overlay (root ∷ suc v ∷ []) (λ r k. get_or (stored_in Four n) k 0) x in
        let small : n < 2 ^ 32 = below_32 world x e.store st g l t h.0 in
        let p = hidden_step k set has root top F given out first two world x e.store st v [] n (instr.LocalGet i ∷ [])
        rest g type small
        (λ after stack. get_runs k.modules k.fixed k.turns (calls k) k.own after st i (I64 n) stack
        (g.kept i posi (omega (arith, less')) ∙ given_one i (I64 n) [] at')) in
        inl (plain_done world x e (ByName t) (Variable l) rest _ refl x1 (record st { bytes = p.0 }) p.1
        (same_placed root v [] (λ r k. get_or (stored_in Four n) k 0) x) (At l) refl newest
        (λ more y s. let q = place_more world more l t h.0 h.1 in
        (q.0, h.1, keeps_on v [] n _ x1 y (sym q.1) s (keeps_placed (root ∷ suc v ∷ []) (stored_in Four n) x))) p.2)
    form_step (ByArray true t) (Whole l high) vs ok h at less type =
        let at' = subst At' h.3 at in
        let less' : i + 2 ≤ top = subst (λ (vs : List Value). i + length vs ≤ top) h.3 less in
        let n : ℕ = offset (row world) l in
        let d = array_step k set has root top F given out first two world x e.store st v i n high rest posi g
        (omega (arith, less')) (given_one i (I64 n) (I64 high ∷ []) at') (given_two i (I64 n) (I64 high) at')
        (below_32 world x e.store st g l (Array (suc high) t) h.0) h.2 type in
        inl (plain_done world x e (ByArray true t) (Whole l high) rest _ refl d.x' d.st' d.stage d.same
        (Elements l high) refl newest
        (λ more y s. let q = place_more world more l (Array (suc high) t) h.0 h.1 in (
          q.0,
          h.1,
          h.2,
          keeps_on v (0 ∷ []) n _ d.x' y (sym q.1) s d.address_kept,
          keeps_on v (1 ∷ []) high high
              d.x' y refl s d.high_kept,
        )) d.run)
    form_step (ByArray false t) (Whole l high) vs ok h at less type =
        let at' = subst At' h.3 at in
        let less' : i + 2 ≤ top = subst (λ (vs : List Value). i + length vs ≤ top) h.3 less in
        let n : ℕ = offset (row world) l in
        copy_form t (λ r. e.store (l ++ r)) n high ok less' (given_one i (I64 n) (I64 high ∷ []) at')
        (given_two i (I64 n) (I64 high) at') h.2 (variable_source world x e.store st g l (Array (suc high) t) h.0)
        type (Whole l high) refl refl
    form_step (ByArray false t) (Text text) vs ok h at less type =
        let at' = subst At' h.4 at in
        let less' : i + 2 ≤ top = subst (λ (vs : List Value). i + length vs ≤ top) h.4 less in
        let high : ℕ = length (argument_text text) - 1 in
        let a : ℕ = h.2 in
        let count : suc high ≡ length (argument_text text) = some_length text in
        let below = h.3.below in
        let source = subst (λ (n : ℕ). IsSource k set has root top F given out first two world st.bytes a (Array n t)
        (character text)) (sym count)
        (subst (λ (t : Ty). IsSource k set has root top F given out first two world st.bytes a
        (Array (length (argument_text text)) t) (character text)) (sym h.1)
        (text_source world x e.store st g text a h.3)) in
        copy_form t (character text) a high ok less' (given_one i (I64 a) (I64 high ∷ []) at')
        (given_two i (I64 a) (I64 high) at') (omega (arith, below, count)) source type (Text text)
        (ap (λ (n : ℕ). Array n t ∷ []) (sym count)) refl
    form_step (ByArray true t) (Text text) vs ok h at less type = absurd (true_false h.0)
      where
        true_false : true ≡ false → ⊥
        true_false e = cc e
    form_step (ByNumber c) (Variable l) vs ok h at less type = absurd h
    form_step (ByNumber c) (Whole l high) vs ok h at less type = absurd h
    form_step (ByNumber c) (Text text) vs ok h at less type = absurd h
    form_step (ByCopy t) (Number z) vs ok h at less type = absurd h
    form_step (ByCopy t) (Whole l high) vs ok h at less type = absurd h
    form_step (ByCopy t) (Text text) vs ok h at less type = absurd h
    form_step (ByName t) (Number z) vs ok h at less type = absurd h
    form_step (ByName t) (Whole l high) vs ok h at less type = absurd h
    form_step (ByName t) (Text text) vs ok h at less type = absurd h
    form_step (ByArray true t) (Number z) vs ok h at less type = absurd h
    form_step (ByArray true t) (Variable l) vs ok h at less type = absurd h
    form_step (ByArray false t) (Number z) vs ok h at less type = absurd h
    form_step (ByArray false t) (Variable l) vs ok h at less type = absurd h

-- how many operands were passed
pub one_count : (program : Modules) (world : List Ty) (x : Location → ℕ → ℕ) (f : Form) (p : Passed) (vs : List Value)
    → IsPassed program world x f p vs → length vs ≡ operands_of f
one_count program world x (ByNumber c) (Number v) vs h = ap (λ (vs : List Value). length vs) h.2
one_count program world x (ByNumber c) (Variable l) vs h = absurd h
one_count program world x (ByNumber c) (Whole l high) vs h = absurd h
one_count program world x (ByNumber c) (Text text) vs h = absurd h
one_count program world x (ByCopy t) (Number v) vs h = absurd h
one_count program world x (ByCopy t) (Variable l) vs h = ap (λ (vs : List Value). length vs) h.2
one_count program world x (ByCopy t) (Whole l high) vs h = absurd h
one_count program world x (ByCopy t) (Text text) vs h = absurd h
one_count program world x (ByName t) (Number v) vs h = absurd h
one_count program world x (ByName t) (Variable l) vs h = ap (λ (vs : List Value). length vs) h.2
one_count program world x (ByName t) (Whole l high) vs h = absurd h
one_count program world x (ByName t) (Text text) vs h = absurd h
one_count program world x (ByArray is_var t) (Number v) vs h = absurd h
one_count program world x (ByArray is_var t) (Variable l) vs h = absurd h
one_count program world x (ByArray is_var t) (Whole l high) vs h = ap (λ (vs : List Value). length vs) h.3
one_count program world x (ByArray is_var t) (Text text) vs h = ap (λ (vs : List Value). length vs) h.4

pub get_first : (vs ws : List Value) (j : ℕ) → j < length vs → slice_get (vs ++ ws) j ≡ slice_get vs j
get_first [] ws j h = absurd (omega (arith, h))
get_first (v ∷ vs) ws zero h = refl
get_first (v ∷ vs) ws (suc j) h = get_first vs ws j (omega (arith, h))

pub get_second : (vs ws : List Value) (j : ℕ) → slice_get (vs ++ ws) (length vs + j) ≡ slice_get ws j
get_second [] ws j = ap (λ (n : ℕ). slice_get ws n) (none j)
  where
    none : (j : ℕ) → 0 + j ≡ j
    none j = omega arith
get_second (u ∷ vs) ws j = ap (λ (n : ℕ). slice_get (u ∷ (vs ++ ws)) n) (one (length vs) j) ∙ get_second vs ws j
  where
    one : (n j : ℕ) → suc n + j ≡ suc (n + j)
    one n j = omega arith

module _ (k : Scene) (set : IsSet k) (has : HasLimit k) (root top : ℕ) (F : Ty) (given : List Value) (out : List ℕ)
    (first : 0 < top) (two : suc top < k.locals) (base : List Ty) (x0 : Location → ℕ → ℕ) (is_root : root ≡ length base)
  where
    abbrev OnStage' : List Ty → (Location → ℕ → ℕ) → Store → Target → Type 0
    OnStage' = OnStage k set has root top F given out first two

    pub record FormsDone (world : List Ty) (x : Location → ℕ → ℕ) (e : Entered) (fs : Forms) (ps : List Passed)
        (rest : List Instr) (r : Effect) : Type 0 where
      pub x' : Location → ℕ → ℕ
      pub st' : Target
      pub stage : OnStage' (world ++ copies_of fs ps) x' (with_forms root fs ps e).store st'
      pub same : SameBelow root (length e.names) x x'
      pub new : List Named
      pub names : (with_forms root fs ps e).names ≡ e.names ++ new
      pub next : (with_forms root fs ps e).next ≡ length (world ++ copies_of fs ps)
      pub named : AreNamed (world ++ copies_of fs ps) x' root (length e.names) (map kind_of fs) new
      pub run : r ≡ runs k rest st' []

    abbrev pub FormsGo : (world : List Ty) (x : Location → ℕ → ℕ) (e : Entered) (fs : Forms) (ps : List Passed)
        (rest : List Instr) (r : Effect) → Type 0
    FormsGo world x e fs ps rest r = FormsDone world x e fs ps rest r
        ⊎ ((k.limit < size (row (world ++ copies_of fs ps))) × (r ≡ Ended 8 out))

    pub forms_go : (fs : Forms) (ps : List Passed) (vs : List Value) → ArePassed k.program base x0 fs ps vs
        → AreForms fs
        → (world : List Ty) (x : Location → ℕ → ℕ) (e : Entered) (st : Target) (i v : ℕ) (rest : List Instr)
        → v ≡ length e.names → 0 < i → OnStage' world x e.store st → e.next ≡ length world
        → (more : List Ty) → world ≡ base ++ more
        → ((i : ℕ) (p : Location) (k : ℕ) → i < length base → x (i ∷ p) k ≡ x0 (i ∷ p) k)
        → ((j : ℕ) → j < length vs → slice_get given (i + j) ≡ slice_get vs j) → i + length vs ≤ top
        → ((j : ℕ) (kind : Kind) → slice_get (map kind_of fs) j ≡ Some kind
        → component F (suc (v + j) ∷ []) ≡ Some (kind_tree kind))
        → FormsGo world x e fs ps rest (runs k (forms_kept top F v i fs ++ rest) st [])
    forms_go _ _ _ none_passed ok world x e st i v rest is_v posi g newest more is older at less types =
        inl (record {
          x' = x;
          st' = st;
          stage = subst (λ (w : List Ty). OnStage' w x e.store st) (sym (append-nil world)) g;
          same = same_same root (length e.names) x;
          new = [];
          names = sym (append-nil e.names);
          next = newest ∙ ap (λ (w : List Ty). length w) (sym (append-nil world));
          named = tt;
          run = refl;
        })
    forms_go _ _ _ (more_passed f fs p ps vs ws h hs) ok world x e st i v rest is_v posi g newest more is older at less
        types =
        let count = one_count k.program base x0 f p vs h in
        let both = length-append vs ws in
        let here : IsPassed k.program world x f p vs =
        subst (λ (w : List Ty). IsPassed k.program w x f p vs) (sym is)
        (passed_lift base more x0 x older k.program f p vs h) in
        let type : component F (suc (length e.names) ∷ []) ≡ Some (kind_tree (kind_of f)) =
        ap (λ (n : ℕ). component F (suc n ∷ [])) (no_more v is_v) ∙ types 0 (kind_of f) refl in
        let code : List Instr = forms_kept top F (suc v) (i + operands_of f) fs in
        let step = form_step k set has root top F given out first two world x e st i (code ++ rest) posi g newest f p vs
        ok.0 here (λ j l. at j (omega (arith, l, both)) ∙ get_first vs ws j l) (omega (arith, less, both)) type in
        let path : runs k (forms_kept top F v i (f ∷ fs) ++ rest) st []
        ≡ runs k (form_kept top F (length e.names) i f ++ (code ++ rest)) st [] =
        ap (λ (c : List Instr). runs k c st []) (append_assoc (form_kept top F v i f) code rest)
        ∙ ap (λ (n : ℕ). runs k (form_kept top F n i f ++ (code ++ rest)) st []) is_v
        in
        ⊎_elim
        (λ (d : FormDone k set has root top F given out first two world x e f p (code ++ rest)
        (runs k (form_kept top F (length e.names) i f ++ (code ++ rest)) st [])).
        let e1 : Entered = with_passed (is_name f) root e p in
        let world1 : List Ty = world ++ copy_of f p in
        let longer : length e1.names ≡ suc (length e.names) = ap (λ (ns : List Named). length ns) d.names
        ∙ length-append e.names (d.name ∷ []) ∙ plus_one (length e.names) in
        let joined : world1 ++ copies_of fs ps ≡ world ++ copies_of (f ∷ fs) (p ∷ ps) =
        append_assoc world (copy_of f p) (copies_of fs ps) in
        let others = forms_go fs ps ws hs ok.1 world1 d.x' e1 d.st' (i + operands_of f) (suc v) rest
        (ap suc is_v ∙ sym longer) (omega (arith, posi)) d.stage d.next (more ++ copy_of f p)
        (ap (λ (w : List Ty). w ++ copy_of f p) is ∙ append_assoc base more (copy_of f p))
        (λ j q n l. d.same.older j q n (omega (arith, l, is_root)) ∙ older j q n l)
        (λ j l. ap (λ (n : ℕ). slice_get given n) (shifted i (length vs) (operands_of f) j count)
        ∙ at (length vs + j) (omega (arith, l, both)) ∙ get_second vs ws j) (omega (arith, less, both, count))
        (λ j kind s. ap (λ (n : ℕ). component F (suc n ∷ [])) (one_on v j) ∙ types (suc j) kind s) in
        ⊎_elim
        (λ (o : FormsDone world1 d.x' e1 fs ps rest (runs k (code ++ rest) d.st' [])).
        let later : SameBelow root (suc (length e.names)) d.x' o.x' =
        subst (λ (n : ℕ). SameBelow root n d.x' o.x') longer o.same in
        inl (record {
          x' = o.x';
          st' = o.st';
          stage = subst (λ (w : List Ty). OnStage' w o.x' (with_forms root fs ps e1).store o.st') joined o.stage;
          same = same_then root (length e.names) x d.x' o.x' d.same later;
          new = d.name ∷ o.new;
          names = o.names ∙ ap (λ (ns : List Named). ns ++ o.new) d.names ∙ append_assoc e.names (d.name ∷ []) o.new;
          next = o.next ∙ ap (λ (w : List Ty). length w) joined;
          named = (
            subst (λ (w : List Ty). IsNamed w o.x' root (length e.names) (kind_of f) d.name) joined
                (d.named (copies_of fs ps) o.x' later),
            subst (λ (w : List Ty). AreNamed w o.x' root (suc (length e.names)) (map kind_of fs) o.new) joined
                (subst (λ (n : ℕ). AreNamed (world1 ++ copies_of fs ps) o.x' root n (map kind_of fs) o.new) longer
                o.named),
          );
          run = path ∙ d.run ∙ o.run;
        }))
        (λ (over : (k.limit < size (row (world1 ++ copies_of fs ps))) × (runs k (code ++ rest) d.st' [] ≡ Ended 8 out)).
        inr (subst (λ (w : List Ty). k.limit < size (row w)) joined over.0, path ∙ d.run ∙ over.1))
        others)
        (λ (over : (k.limit < size (row (world ++ copy_of f p)))
        × (runs k (form_kept top F (length e.names) i f ++ (code ++ rest)) st [] ≡ Ended 8 out)).
        inr (
          subst (λ (w : List Ty). k.limit < size (row w)) (append_assoc world (copy_of f p) (copies_of fs ps))
              (let s = size_old (world ++ copy_of f p) (copies_of fs ps) in let o = over.0 in omega (arith, s, o)),
          path
              ∙ over.1,
        ))
        step
      where
        plus_one : (n : ℕ) → n + 1 ≡ suc n
        plus_one n = omega arith

        no_more : (v : ℕ) → v ≡ length e.names → length e.names ≡ v + 0
        no_more v is = omega (arith, is)

        shifted : (i n m j : ℕ) → n ≡ m → i + m + j ≡ i + (n + j)
        shifted i n m j is = omega (arith, is)

        one_on : (v j : ℕ) → suc v + j ≡ v + suc j
        one_on v j = omega arith
