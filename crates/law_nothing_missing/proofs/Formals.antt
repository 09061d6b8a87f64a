-- Formals: the arguments suit them, and with them an activation's names and its store are as its body asks.
use Rattle.std.proofs.Common.{◌≡◌, ℕ, suc, ◌+◌, ◌-◌, ℤ, Bool, true, false, List, [], ◌∷◌, ◌++◌, map, length, Option, Some, refl, sym, ap, subst, ◌∙◌, append_assoc, append-nil, length-append, arith}
use Rattle.std.specs.Prelude.{◌&&◌}
use Rattle.typed_tree.specs.declared.shape.Formal.{Formal}
use Rattle.typed_tree.specs.declared.types.TypeNo.{TypeNo}
use Rattle.typed_tree.specs.declared.known_types.Types.{Types}
use Rattle.typed_tree.specs.declared.typed_module.Routine.{Routine}
use Rattle.layout_storage.specs.Types.{Ty, Natural, Callable, Cell, Hidden, Array, Nothing, Field, Heading, row, frame_of, component}
use Rattle.layout_storage.specs.Shapes.{tree}
use Rattle.layout_storage.specs.Frames.{formals_of, formal_tree, frame}
use Rattle.layout_storage.specs.Texts.{argument_text}
use Rattle.def_meaning.specs.Store.{Location, Store, overlay, fresh, first_in}
use Rattle.def_meaning.specs.Environment.{Modules, Named, At, Elements, Passed, Number, Variable, Array as Whole, Text}
use Rattle.def_meaning.specs.Statements.{character}
use Rattle.def_meaning.specs.Calls.{Entered, variable_at, with_passed, with_all, variables_from, enter_call}
use Rattle.law_memory.specs.Relation.{IsProcedureValue, Empty}
use Rattle.law_simulation.specs.Frames.{Kind, Kept, Alias, Open, Kinds, formal_kind, kinds_of}
use Rattle.law_simulation.specs.Passing.{Form, ByNumber, ByCopy, ByName, ByArray, value_form, form_of}
use Rattle.law_nothing_missing.specs.Worlds.{World, type_at, is_like, is_cell}
use Rattle.law_nothing_missing.specs.Calls.{suits, all_suit, copy_of, copies_of}
use Rattle.law_nothing_missing.proofs.Worlds.{there_more, there_behind, there_new, whole, alike_itself, HoldsProcedures, IsFine, fine_placed, fine_new}
use Rattle.law_nothing_missing.proofs.Frames.{Pairs, no_pairs, more_pairs, pairs_append, pairs_length, IsName, kept_name, alias_name, open_name, AreNames, names_more, IsGiven, given_number, given_copy, given_name, given_array, given_text}
use Rattle.law_nothing_missing.proofs.Stmts.{cell_holds, text_holds}

some_length : (text : List ℕ) → suc (length (argument_text text) - 1) ≡ length (argument_text text)
some_length [] = omega arith
some_length (c ∷ text) = omega arith

-- ---- lists in step, by recursion

abbrev PairParts : {A B : Type 0} (R : A → B → Type 0) → List A → List B → Type 0
PairParts R [] [] = Unit {0}
PairParts R [] (y ∷ ys) = ⊥
PairParts R (x ∷ xs) [] = ⊥
PairParts R (x ∷ xs) (y ∷ ys) = R x y × Pairs R xs ys

pair_parts : {A B : Type 0} (R : A → B → Type 0) (xs : List A) (ys : List B) → Pairs R xs ys → PairParts R xs ys
pair_parts R _ _ no_pairs = tt
pair_parts R _ _ (more_pairs x xs y ys r rs) = (r, rs)

-- ---- where variables stand in a frame

row_own : (before rest : List Ty) (t : Ty) → component (row (before ++ t ∷ rest)) (length before ∷ []) ≡ Some t
unfolding component
row_own [] rest t = refl
row_own (u ∷ before) rest t = row_own before rest t

frame_own : (before rest : List Ty) (t : Ty)
    → component (frame_of (before ++ t ∷ rest)) (suc (length before) ∷ []) ≡ Some t
unfolding component
frame_own before rest t = row_own before rest t

module _ (p : Modules) where
  -- what is given, by cases
  abbrev Given : World → Form → Passed → Type 0
  Given world (ByNumber c) (Number v) = (h : Heading) → c ≡ Callable h → IsProcedureValue p h v
  Given world (ByNumber c) (Variable l) = ⊥
  Given world (ByNumber c) (Whole l high) = ⊥
  Given world (ByNumber c) (Text text) = ⊥
  Given world (ByCopy t) (Number v) = ⊥
  Given world (ByCopy t) (Variable l) = type_at world l ≡ Some t
  Given world (ByCopy t) (Whole l high) = ⊥
  Given world (ByCopy t) (Text text) = ⊥
  Given world (ByName t) (Number v) = ⊥
  Given world (ByName t) (Variable l) = type_at world l ≡ Some t
  Given world (ByName t) (Whole l high) = ⊥
  Given world (ByName t) (Text text) = ⊥
  Given world (ByArray is_var t) (Number v) = ⊥
  Given world (ByArray is_var t) (Variable l) = ⊥
  Given world (ByArray is_var t) (Whole l high) = type_at world l ≡ Some (Array (suc high) t)
  Given world (ByArray is_var t) (Text text) = (is_var ≡ false) × (t ≡ Cell (Natural 255))

  given_is : (world : World) (f : Form) (q : Passed) → IsGiven p world f q → Given world f q
  given_is world _ _ (given_number c v good) = good
  given_is world _ _ (given_copy t l at) = at
  given_is world _ _ (given_name t l at) = at
  given_is world _ _ (given_array is_var t l high at) = at
  given_is world _ _ (given_text text) = (refl, refl)

  -- ---- the arguments suit the formals

  like_it : (world : World) (l : Location) (t : Ty) → type_at world l ≡ Some t → is_like (type_at world l) t ≡ true
  like_it world l t e = ap (λ (o : Option Ty). is_like o t) e ∙ alike_itself t

  -- of a formal whose parts are these
  module _ (types : Types) (world : World) (f : Formal) where
    abbrev t : Ty
    t = tree types f.of

    abbrev made : (o v : Bool) → Formal
    made o v = record f { is_open = o; is_var = v }

    suits_value : (u : Ty) → t ≡ u → (q : Passed) → Given world (value_form u) q
        → suits types world (made false false) q ≡ true
    suits_value (Cell c) e (Number v) g = ap (λ (u : Ty). is_cell (Some u)) e
    suits_value (Cell c) e (Variable l) g = absurd g
    suits_value (Cell c) e (Whole l high) g = absurd g
    suits_value (Cell c) e (Text text) g = absurd g
    suits_value (Hidden n) e (Number v) g = absurd g
    suits_value (Hidden n) e (Variable l) g = like_it world l t (g ∙ ap Some (sym e))
    suits_value (Hidden n) e (Whole l high) g = absurd g
    suits_value (Hidden n) e (Text text) g = absurd g
    suits_value (Array n u) e (Number v) g = absurd g
    suits_value (Array n u) e (Variable l) g = like_it world l t (g ∙ ap Some (sym e))
    suits_value (Array n u) e (Whole l high) g = absurd g
    suits_value (Array n u) e (Text text) g = absurd g
    suits_value Nothing e (Number v) g = absurd g
    suits_value Nothing e (Variable l) g = like_it world l t (g ∙ ap Some (sym e))
    suits_value Nothing e (Whole l high) g = absurd g
    suits_value Nothing e (Text text) g = absurd g
    suits_value (Field u others) e (Number v) g = absurd g
    suits_value (Field u others) e (Variable l) g = like_it world l t (g ∙ ap Some (sym e))
    suits_value (Field u others) e (Whole l high) g = absurd g
    suits_value (Field u others) e (Text text) g = absurd g

    suits_as : (o v : Bool) (q : Passed) → Given world (form_of types (made o v)) q
        → suits types world (made o v) q ≡ true
    suits_as true v (Number n) g = absurd g
    suits_as true v (Variable l) g = absurd g
    suits_as true v (Whole l high) g = like_it world l (Array (suc high) t) g
    suits_as true true (Text text) g = cc g.0
    suits_as true false (Text text) g = ap (λ (u : Ty). is_cell (Some u)) g.1
    suits_as false true (Number n) g = absurd g
    suits_as false true (Variable l) g = like_it world l t g
    suits_as false true (Whole l high) g = absurd g
    suits_as false true (Text text) g = absurd g
    suits_as false false q g = suits_value t refl q g

    suits_given : (q : Passed) → Given world (form_of types f) q → suits types world f q ≡ true
    suits_given q g = suits_as f.is_open f.is_var q g

  pub all_given_suit : (types : Types) (world : World) (fs : List Formal) (vs : List Passed)
      → Pairs (IsGiven p world) (map (form_of types) fs) vs → all_suit types world fs vs ≡ true
  all_given_suit types world [] [] h = refl
  all_given_suit types world [] (v ∷ vs) h = absurd (pair_parts (IsGiven p world) [] (v ∷ vs) h)
  all_given_suit types world (f ∷ fs) [] h = absurd (pair_parts (IsGiven p world) (map (form_of types) (f ∷ fs)) [] h)
  all_given_suit types world (f ∷ fs) (v ∷ vs) h =
      let q = pair_parts (IsGiven p world) (map (form_of types) (f ∷ fs)) (v ∷ vs) h in
      ap (λ (b : Bool). b && all_suit types world fs vs)
      (suits_given types world f v (given_is world (form_of types f) v q.0)) ∙ all_given_suit types world fs vs q.1

  -- ---- with them the activation begins

  module _ (types : Types) (base : World) (activation : ℕ) (F : Ty) where
    -- so far: the names of these kinds, and the store
    pub record Begun (world : World) (ks : Kinds) (e : Entered) : Type 0 where
      pub more : World
      pub is : world ≡ base ++ more
      pub fine : IsFine p world e.store
      pub next : e.next ≡ length world
      pub names : AreNames world ks e.names
      pub frame : type_at world (activation ∷ []) ≡ Some F

    -- a variable of the frame
    own_there : (world : World) (v : ℕ) (u : Ty) → type_at world (activation ∷ []) ≡ Some F
        → component F (suc v ∷ []) ≡ Some u → type_at world (variable_at activation v) ≡ Some u
    own_there world v u frame at = there_behind world (activation ∷ []) F (suc v ∷ []) frame ∙ at

    base_there : (world : World) (ks : Kinds) (e : Entered) → Begun world ks e → (l : Location) (u : Ty)
        → type_at base l ≡ Some u → type_at world l ≡ Some u
    base_there world ks e b l u at = ap (λ (w : World). type_at w l) b.is ∙ there_more base b.more l u at

    -- what stands there is copied
    copy_holds : (world : World) (s : Store) (from : Location) (u : Ty) → IsFine p world s → type_at world from ≡ Some u
        → HoldsProcedures p u (λ r. s (from ++ r))
    copy_holds world s from u fine at = record {
      each =
          λ r h e. fine.each (from ++ r) h (there_behind world from u r at ∙ e);
    }

    -- one more name, in the same world
    named_more : (world : World) (ks : Kinds) (e : Entered) → Begun world ks e → (k : Kind) (n : Named) (s : Store)
        → IsName world k n → IsFine p world s
        → Begun (world ++ []) (ks ++ k ∷ []) (record e { names = e.names ++ n ∷ []; store = s })
    named_more world ks e b k n s name fine =
        subst (λ (w : World). Begun w (ks ++ k ∷ []) (record e { names = e.names ++ n ∷ []; store = s }))
        (sym (append-nil world))
        (record {
          more = b.more;
          is = b.is;
          fine = fine;
          next = b.next;
          names =
              pairs_append (IsName world) ks e.names (k ∷ []) (n ∷ []) b.names (more_pairs k [] n [] name no_pairs);
          frame = b.frame;
        })

    -- and with a copy behind the others
    copied_more : (world : World) (ks : Kinds) (e : Entered) → Begun world ks e → (u : Ty) (high : ℕ) (f : Location → ℤ)
        → HoldsProcedures p (Array (suc high) u) f
        → Begun (world ++ Array (suc high) u ∷ []) (ks ++ Open u ∷ [])
        (record {
          names = e.names ++ Elements (e.next ∷ []) high ∷ [];
          next = suc e.next;
          store =
              overlay (e.next ∷ []) f e.store;
        })
    copied_more world ks e b u high f holds =
        let long : length (world ++ Array (suc high) u ∷ []) ≡ length world + 1 =
        length-append world (Array (suc high) u ∷ []) in
        let next = b.next in
        let at : type_at (world ++ Array (suc high) u ∷ []) (e.next ∷ []) ≡ Some (Array (suc high) u) =
        ap (λ (n : ℕ). type_at (world ++ Array (suc high) u ∷ []) (n ∷ [])) b.next
        ∙ there_new world [] (Array (suc high) u) [] ∙ whole (Array (suc high) u) in
        record {
          more = b.more ++ Array (suc high) u ∷ [];
          is = ap (λ (w : World). w ++ Array (suc high) u ∷ []) b.is
              ∙ append_assoc base b.more (Array (suc high) u ∷ []);
          fine = subst (λ (n : ℕ). IsFine p (world ++ Array (suc high) u ∷ []) (overlay (n ∷ []) f e.store))
              (sym b.next) (fine_new p world e.store (Array (suc high) u) f b.fine holds);
          next = omega (arith, long, next);
          names = pairs_append (IsName (world ++ Array (suc high) u ∷ [])) ks e.names (Open u ∷ [])
              (Elements (e.next ∷ []) high ∷ []) (names_more world (Array (suc high) u ∷ []) ks e.names b.names)
              (more_pairs (Open u) [] (Elements (e.next ∷ []) high) [] (open_name u (e.next ∷ []) high at) no_pairs);
          frame = there_more world (Array (suc high) u ∷ []) (activation ∷ []) F b.frame;
        }

    module _ (f : Formal) where
      abbrev u : Ty
      u = tree types f.of

      abbrev like : (o v : Bool) → Formal
      like o v = record f { is_open = o; is_var = v }

      -- its own variable
      kept_more : (world : World) (ks : Kinds) (e : Entered) → Begun world ks e
          → component F (suc (length e.names) ∷ []) ≡ Some u → (g : Location → ℤ) → HoldsProcedures p u g
          → Begun (world ++ []) (ks ++ Kept u ∷ [])
          (record e {
            names = e.names ++ At (variable_at activation (length e.names)) ∷ [];
            store =
                overlay (variable_at activation (length e.names)) g e.store;
          })
      kept_more world ks e b own g holds =
          let at = own_there world (length e.names) u b.frame own in
          named_more world ks e b (Kept u) (At (variable_at activation (length e.names)))
          (overlay (variable_at activation (length e.names)) g e.store)
          (kept_name u (variable_at activation (length e.names)) at)
          (fine_placed p world e.store (variable_at activation (length e.names)) u g b.fine at holds)

      value_begun : (w : Ty) → u ≡ w → (q : Passed) → Given base (value_form w) q
          → (world : World) (ks : Kinds) (e : Entered) → Begun world ks e
          → component F (suc (length e.names) ∷ []) ≡ Some u
          → Begun (world ++ copy_of types (like false false) q) (ks ++ Kept u ∷ []) (with_passed false activation e q)
      value_begun (Cell c) is (Number v) g world ks e b own =
          kept_more world ks e b own (λ r. v) (subst (λ (t : Ty). HoldsProcedures p t (λ r. v)) (sym is)
          (cell_holds p c v g))
      value_begun (Cell c) is (Variable l) g world ks e b own = absurd g
      value_begun (Cell c) is (Whole l high) g world ks e b own = absurd g
      value_begun (Cell c) is (Text text) g world ks e b own = absurd g
      value_begun (Hidden n) is (Number v) g world ks e b own = absurd g
      value_begun (Hidden n) is (Variable l) g world ks e b own =
          kept_more world ks e b own (λ r. e.store (l ++ r))
          (copy_holds world e.store l u b.fine (base_there world ks e b l u (g ∙ ap Some (sym is))))
      value_begun (Hidden n) is (Whole l high) g world ks e b own = absurd g
      value_begun (Hidden n) is (Text text) g world ks e b own = absurd g
      value_begun (Array n t) is (Number v) g world ks e b own = absurd g
      value_begun (Array n t) is (Variable l) g world ks e b own =
          kept_more world ks e b own (λ r. e.store (l ++ r))
          (copy_holds world e.store l u b.fine (base_there world ks e b l u (g ∙ ap Some (sym is))))
      value_begun (Array n t) is (Whole l high) g world ks e b own = absurd g
      value_begun (Array n t) is (Text text) g world ks e b own = absurd g
      value_begun Nothing is (Number v) g world ks e b own = absurd g
      value_begun Nothing is (Variable l) g world ks e b own =
          kept_more world ks e b own (λ r. e.store (l ++ r))
          (copy_holds world e.store l u b.fine (base_there world ks e b l u (g ∙ ap Some (sym is))))
      value_begun Nothing is (Whole l high) g world ks e b own = absurd g
      value_begun Nothing is (Text text) g world ks e b own = absurd g
      value_begun (Field t others) is (Number v) g world ks e b own = absurd g
      value_begun (Field t others) is (Variable l) g world ks e b own =
          kept_more world ks e b own (λ r. e.store (l ++ r))
          (copy_holds world e.store l u b.fine (base_there world ks e b l u (g ∙ ap Some (sym is))))
      value_begun (Field t others) is (Whole l high) g world ks e b own = absurd g
      value_begun (Field t others) is (Text text) g world ks e b own = absurd g

      formal_as : (o v : Bool) (q : Passed) → Given base (form_of types (like o v)) q
          → (world : World) (ks : Kinds) (e : Entered) → Begun world ks e
          → component F (suc (length e.names) ∷ []) ≡ Some (formal_tree types (like o v))
          → Begun (world ++ copy_of types (like o v) q) (ks ++ formal_kind types (like o v) ∷ [])
          (with_passed v activation e q)
      formal_as true v (Number n) g world ks e b own = absurd g
      formal_as true v (Variable l) g world ks e b own = absurd g
      formal_as true true (Whole l high) g world ks e b own =
          named_more world ks e b (Open u) (Elements l high) e.store
          (open_name u l high (base_there world ks e b l (Array (suc high) u) g)) b.fine
      formal_as true false (Whole l high) g world ks e b own =
          copied_more world ks e b u high (λ r. e.store (l ++ r))
          (copy_holds world e.store l (Array (suc high) u) b.fine (base_there world ks e b l (Array (suc high) u) g))
      formal_as true true (Text text) g world ks e b own = cc g.0
      formal_as true false (Text text) g world ks e b own =
          let n : ℕ = length (argument_text text) - 1 in
          subst (λ (k : ℕ). Begun (world ++ Array k u ∷ []) (ks ++ Open u ∷ [])
          (record {
            names = e.names ++ Elements (e.next ∷ []) n ∷ [];
            next = suc e.next;
            store =
                overlay (e.next ∷ []) (character text) e.store;
          })) (some_length text)
          (copied_more world ks e b u n (character text)
          (subst (λ (t : Ty). HoldsProcedures p (Array (suc n) t) (character text)) (sym g.1)
          (text_holds p (suc n) (character text))))
      formal_as false true (Number n) g world ks e b own = absurd g
      formal_as false true (Variable l) g world ks e b own =
          named_more world ks e b (Alias u) (At l) e.store (alias_name u l (base_there world ks e b l u g)) b.fine
      formal_as false true (Whole l high) g world ks e b own = absurd g
      formal_as false true (Text text) g world ks e b own = absurd g
      formal_as false false q g world ks e b own = value_begun u refl q g world ks e b own

      formal_begun : (q : Passed) → Given base (form_of types f) q → (world : World) (ks : Kinds) (e : Entered)
          → Begun world ks e → component F (suc (length e.names) ∷ []) ≡ Some (formal_tree types f)
          → Begun (world ++ copy_of types f q) (ks ++ formal_kind types f ∷ []) (with_passed f.is_var activation e q)
      formal_begun q g world ks e b own = formal_as f.is_open f.is_var q g world ks e b own

    -- all formals, of which some are there
    pub formals_begun : (fs : List Formal) (vs : List Passed) → Pairs (IsGiven p base) (map (form_of types) fs) vs
        → (before rest : List Ty) → F ≡ frame_of (before ++ (map (formal_tree types) fs ++ rest))
        → (world : World) (ks : Kinds) (e : Entered) → length before ≡ length ks → Begun world ks e
        → Begun (world ++ copies_of types fs vs) (ks ++ map (formal_kind types) fs) (with_all activation fs vs e)
    formals_begun [] [] h before rest is world ks e long b =
        subst (λ (w : World). Begun w (ks ++ []) e) (sym (append-nil world))
        (subst (λ (ks : Kinds). Begun world ks e) (sym (append-nil ks)) b)
    formals_begun [] (v ∷ vs) h before rest is world ks e long b = absurd (pair_parts (IsGiven p base) [] (v ∷ vs) h)
    formals_begun (f ∷ fs) [] h before rest is world ks e long b =
        absurd (pair_parts (IsGiven p base) (map (form_of types) (f ∷ fs)) [] h)
    formals_begun (f ∷ fs) (v ∷ vs) h before rest is world ks e long b =
        let q = pair_parts (IsGiven p base) (map (form_of types) (f ∷ fs)) (v ∷ vs) h in
        let others : List Ty = map (formal_tree types) fs ++ rest in
        let many = pairs_length (IsName world) ks e.names b.names in
        let own : component F (suc (length e.names) ∷ []) ≡ Some (formal_tree types f) =
        ap (λ (n : ℕ). component F (suc n ∷ [])) (sym many ∙ sym long)
        ∙ ap (λ (t : Ty). component t (suc (length before) ∷ [])) is
        ∙ frame_own before others (formal_tree types f) in
        let one = formal_begun f v (given_is base (form_of types f) v q.0) world ks e b own in
        let more : length (before ++ formal_tree types f ∷ []) ≡ length (ks ++ formal_kind types f ∷ []) =
        (let x = length-append before (formal_tree types f ∷ []) in
        let y = length-append ks (formal_kind types f ∷ []) in omega (arith, x, y, long)) in
        let all = formals_begun fs vs q.1 (before ++ formal_tree types f ∷ []) rest
        (is ∙ ap frame_of (sym (append_assoc before (formal_tree types f ∷ []) others)))
        (world ++ copy_of types f v) (ks ++ formal_kind types f ∷ []) (with_passed f.is_var activation e v) more one
        in
        subst (λ (w : World). Begun w (ks ++ map (formal_kind types) (f ∷ fs))
        (with_all activation (f ∷ fs) (v ∷ vs) e)) (append_assoc world (copy_of types f v) (copies_of types fs vs))
        (subst (λ (ks : Kinds). Begun ((world ++ copy_of types f v) ++ copies_of types fs vs) ks
        (with_all activation (f ∷ fs) (v ∷ vs) e))
        (append_assoc ks (formal_kind types f ∷ []) (map (formal_kind types) fs)) all)

    -- the variables behind them
    pub variables_there : (ts : List TypeNo) (before : List Ty) → F ≡ frame_of (before ++ map (tree types) ts)
        → (world : World) → type_at world (activation ∷ []) ≡ Some F → (v : ℕ) → length before ≡ v
        → AreNames world (map (λ t. Kept (tree types t)) ts) (variables_from activation v ts)
    variables_there [] before is world frame v long = no_pairs
    variables_there (t ∷ ts) before is world frame v long =
        let at : type_at world (variable_at activation v) ≡ Some (tree types t) =
        own_there world v (tree types t) frame
        (ap (λ (n : ℕ). component F (suc n ∷ [])) (sym long)
        ∙ ap (λ (u : Ty). component u (suc (length before) ∷ [])) is
        ∙ frame_own before (map (tree types) ts) (tree types t)) in
        more_pairs (Kept (tree types t)) (map (λ t. Kept (tree types t)) ts) (At (variable_at activation v))
        (variables_from activation (suc v) ts) (kept_name (tree types t) (variable_at activation v) at)
        (variables_there ts (before ++ tree types t ∷ [])
        (is ∙ ap frame_of (sym (append_assoc before (tree types t ∷ []) (map (tree types) ts)))) world frame (suc v)
        (let x = length-append before (tree types t ∷ []) in omega (arith, x, long)))

  -- ---- an activation

  fresh_holds : (t : Ty) → HoldsProcedures p t (fresh t)
  unfolding fresh
  fresh_holds t = record { each = λ r h e. subst (λ (v : ℤ). IsProcedureValue p h v) (sym (ap first_in e)) Empty }

  length_map : {A B : Type 0} (f : A → B) (xs : List A) → length (map f xs) ≡ length xs
  length_map f [] = refl
  length_map f (x ∷ xs) = ap suc (length_map f xs)

  -- what the body of a procedure finds
  pub record IsEntered (types : Types) (r : Routine) (world : World) (vs : List Passed) (s : Store) (w : World) : Type 0
    where
      pub fine : IsFine p w (enter_call types r (length world) vs s).store
      pub next : (enter_call types r (length world) vs s).next ≡ length w
      pub names : AreNames w (kinds_of types r)
          ((enter_call types r (length world) vs s).names
          ++ variables_from (length world) (length (enter_call types r (length world) vs s).names) r.variables)

  pub is_entered : (types : Types) (r : Routine) (world : World) (vs : List Passed) (s : Store) → IsFine p world s
      → Pairs (IsGiven p world) (map (form_of types) (formals_of types r.heading)) vs
      → IsEntered types r world vs s (world ++ frame types r ∷ copies_of types (formals_of types r.heading) vs)
  is_entered types r world vs s fine h =
      let fs : List Formal = formals_of types r.heading in
      let F : Ty = frame types r in
      let act : ℕ = length world in
      let e0 : Entered = record { names = []; next = suc act; store = overlay (act ∷ []) (fresh F) s } in
      let start : Begun types world act F (world ++ F ∷ []) [] e0 = record {
        more = F ∷ [];
        is = refl;
        fine = fine_new p world s F (fresh F) fine (fresh_holds F);
        next = (let x = length-append world (F ∷ []) in omega (arith, x));
        names = no_pairs;
        frame = there_new world [] F [] ∙ whole F;
      } in
      let b = formals_begun types world act F fs vs h [] (map (tree types) r.variables) refl (world ++ F ∷ []) [] e0
      refl start in
      let many = pairs_length (IsName ((world ++ F ∷ []) ++ copies_of types fs vs)) (map (formal_kind types) fs)
      (with_all act fs vs e0).names b.names in
      let long : length (map (formal_tree types) fs) ≡ length (with_all act fs vs e0).names =
      length_map (formal_tree types) fs ∙ sym (length_map (formal_kind types) fs) ∙ many in
      let own = variables_there types world act F r.variables (map (formal_tree types) fs) refl
      ((world ++ F ∷ []) ++ copies_of types fs vs) b.frame (length (with_all act fs vs e0).names) long in
      subst (λ (w : World). IsEntered types r world vs s w) (append_assoc world (F ∷ []) (copies_of types fs vs))
      (record {
        fine = b.fine;
        next = b.next;
        names = pairs_append (IsName ((world ++ F ∷ []) ++ copies_of types fs vs)) (map (formal_kind types) fs)
            (with_all act fs vs e0).names (map (λ t. Kept (tree types t)) r.variables)
            (variables_from act (length (with_all act fs vs e0).names) r.variables) b.names own;
      })
