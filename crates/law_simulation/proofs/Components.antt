-- Components: fields and elements of arrays.
use Rattle.std.proofs.Common.{◌≡◌, ℕ, ◌+◌, ◌-◌, ◌*◌, ◌%◌, ◌^◌, ◌<◌, ℤ, pos, ◌-ℤ◌, ◌≤ℤ◌, Bool, true, false, List, [], ◌∷◌, ◌++◌, length, Option, Some, None, if◌then◌else◌, refl, sym, ap, subst, ◌∙◌, append_assoc, arith}
use Rattle.std.specs.Prelude.{unsigned_abs, slice_get}
use Rattle.std.proofs.lemmas.Int.{ints}
use Rattle.std.proofs.lemmas.List.{length-append}
use Rattle.std.proofs.lemmas.Bool.{lt-ltb}
use Rattle.std.proofs.lemmas.Option.{none-some}
use Rattle.wasm_tree.specs.declared.instr.Instr.{Instr}
use Rattle.wasm_tree.specs.declared.instr.Instr.TheVariants as instr
use Rattle.wasm_tree.specs.declared.instr.Numeric.TheVariants as numeric
use Rattle.wasm_tree.specs.declared.instr.Operation.TheVariants.{Sub, Mul}
use Rattle.wasm_tree.specs.declared.store.Value.{Value}
use Rattle.wasm_tree.specs.declared.store.Value.TheVariants.{I32, I64}
use Rattle.law_effect.specs.Effect.{State as Target, Effect}
use Rattle.law_effect.proofs.Steps.{get_runs, i64_runs, number_runs, two_32}
use Rattle.typed_tree.specs.declared.types.TypeNo.{TypeNo}
use Rattle.typed_tree.specs.declared.shape.Scalar.{Scalar as Range}
use Rattle.typed_tree.specs.declared.shape.Shape.{Shape}
use Rattle.typed_tree.specs.declared.shape.Shape.TheVariants as shape
use Rattle.typed_tree.specs.declared.shape.Made.{Made}
use Rattle.typed_tree.specs.declared.known_types.Types.{Types}
use Rattle.typed_tree.specs.Known.{made_at}
use Rattle.layout_storage.specs.Types.{Ty, Array, row, component}
use Rattle.layout_storage.specs.Sizes.{size, offset}
use Rattle.layout_storage.specs.Shapes.{tree, elements_of}
use Rattle.law_memory.proofs.Places.{component_append, offset_append}
use Rattle.def_meaning.specs.Store.{Location}
use Rattle.def_meaning.specs.Answer.{State as Source, Answer, Ended, ◌▷◌, index_fault}
use Rattle.def_meaning.specs.Answer as answer
use Rattle.def_meaning.specs.Environment.{or_root, slot_named, location_of}
use Rattle.def_meaning.specs.Operators.{is_between}
use Rattle.def_meaning.specs.Expressions as meaning
use Rattle.def_meaning.specs.Expressions.{Gives, one_by_one, element, element_in}
use Rattle.def_scheme.specs.Coded.{Coded, Counts, plain, ◌⨾◌, all_coded, with_setting, raise_address, number, operation, wrap_word, check_code}
use Rattle.def_scheme.specs.Cells.{is_nought, in_range}
use Rattle.def_scheme.specs.Exprs as code
use Rattle.def_scheme.specs.Exprs.{slot_code, slot_path, with_code, from_lower, scale_index, element_code, element_tree}
use Rattle.law_simulation.specs.Scene.{Scene, calls, runs, place, HasHelpers, IsValue, IsSmall, AreSmall, word, Stands, Into, GivesNumber, GivesPlace, Grows, HasLocals, inside, IsWith, IsOwn, Agrees, Locates, Reaches}
use Rattle.law_simulation.specs.Laws.{AreReached, no_components, more_components}
use Rattle.law_simulation.proofs.Words.{IsWide}
use Rattle.law_simulation.proofs.Parts.{into_then, grows_more, grows_same, has_before, free_after, IsPlain}
use Rattle.law_simulation.proofs.Operators.{wide, narrow, between_in, operation_runs}
use Rattle.law_simulation.proofs.Relations.{wrapped_runs}
use Rattle.law_simulation.proofs.Checks.{checked_gives}
use Rattle.law_simulation.proofs.Places.{place_small, raised_runs, nought_word}

-- ---- the type of an index

shape_index : (types : Types) (s : Shape) → code.index_shape types s ≡ meaning.index_in types s
shape_index types (shape.Array i e) = refl
shape_index types (shape.Scalar s) = refl
shape_index types shape.Set = refl
shape_index types (shape.Record fs) = refl
shape_index types (shape.Procedure p) = refl
shape_index types (shape.Open e) = refl

made_index : (types : Types) (o : Option Made) → code.index_made types o ≡ meaning.index_made types o
made_index types None = refl
made_index types (Some m) = shape_index types m.shape

pub same_index : (types : Types) (t : TypeNo) → code.index_of types t ≡ meaning.index_range types t
same_index types t = made_index types (made_at types t)

shape_small : (types : Types) → AreSmall types → (s : Shape) (r : Range) → code.index_shape types s ≡ Some r → IsSmall r
shape_small types small (shape.Array i e) r h = small i r h
shape_small types small (shape.Scalar s) r h = absurd (none-some r h)
shape_small types small shape.Set r h = absurd (none-some r h)
shape_small types small (shape.Record fs) r h = absurd (none-some r h)
shape_small types small (shape.Procedure p) r h = absurd (none-some r h)
shape_small types small (shape.Open e) r h = absurd (none-some r h)

pub made_small : (types : Types) → AreSmall types → (o : Option Made) (r : Range) → code.index_made types o ≡ Some r
    → IsSmall r
made_small types small None r h = absurd (none-some r h)
made_small types small (Some m) r h = shape_small types small m.shape r h

-- ---- where an element is

lies_within : (low v high : ℤ) → low ≤ℤ v → v ≤ℤ high → unsigned_abs (v -ℤ low) < unsigned_abs (high -ℤ low) + 1
lies_within low v high l h = omega (arith, ints, l, h)

from_low : (low v : ℤ) → IsWide low → IsWide v → low ≤ℤ v → (v -ℤ low) ≤ℤ pos 9223372036854775807
    → (word v + (2 ^ 64 - word low)) % 2 ^ 64 ≡ unsigned_abs (v -ℤ low)
from_low low v hl hv l few = let a = hl.low in let b = hl.high in let c = hv.low in let d = hv.high in
    omega (arith, ints, l, few)

from_nought : (v : ℤ) → IsWide v → pos 0 ≤ℤ v → word v ≡ unsigned_abs (v -ℤ pos 0)
from_nought v h l = let b = h.high in omega (arith, ints, l)

some_more : (l : Location) (j : ℕ) → 0 < length (l ++ j ∷ [])
some_more l j = let e = length-append l (j ∷ []) in omega (arith, e)

element_there : (n m : ℕ) (u : Ty) → m < n → component (Array n u) (m ∷ []) ≡ Some u
unfolding component
element_there n m u h = ap (λ (b : Bool). if b then Some u else None) (lt-ltb m n h)

element_at : (n m : ℕ) (u : Ty) → offset (Array n u) (m ∷ []) ≡ m * size u
unfolding offset
element_at n m u = omega arith

module _ (k : Scene) (has : HasHelpers k) (small : AreSmall k.setting.home.types) (room : k.limit < 2 ^ 32) where
  abbrev types : Types
  types = k.setting.home.types

  -- ---- fields

  pub field_reaches : (t u : Ty) (j : ℕ) (code : Coded) → component t (j ∷ []) ≡ Some u
      → IsPlain k code (raise_address (offset t (j ∷ []))) → Reaches k t u code (λ l a s. answer.Value (l ++ j ∷ []) s)
  field_reaches t u j code there plainly = record {
    grows = λ e c. subst (λ (p : List Instr × Counts). Grows c p.1) (sym (plainly e c)) (grows_same c);
    gives = λ e c free full l type some s st h rest stack.
        let at : place k l + offset t (j ∷ []) ≡ place k (l ++ j ∷ []) =
        sym (offset_append (row k.world) t l (j ∷ []) type) in
        let is : component (row k.world) (l ++ j ∷ []) ≡ Some u = component_append (row k.world) t l (j ∷ []) type
        ∙ there in
        subst (λ (p : List Instr × Counts). Into (GivesPlace k u (runs k rest) stack)
        (runs k (p.0 ++ rest) st (stack ++ I32 (place k l) ∷ [])) (answer.Value (l ++ j ∷ []) s))
        (sym (plainly e c))
        (record {
          st = st;
          stands = h;
          type = is;
          some = some_more l j;
          run = raised_runs k has small room (place k l) (offset t (j ∷ [])) (place k (l ++ j ∷ [])) rest st stack at
              (let p = place_small k has small room s st h (l ++ j ∷ []) u is in omega (arith, p));
        });
  }

  -- ---- elements

  -- the number of an element, from its index
  lower_runs : (r : Range) (v : ℤ) → IsSmall r → r.low ≤ℤ v → v ≤ℤ r.high
      → (rest : List Instr) (st : Target) (stack : List Value) (b : Bool) → is_nought r.low ≡ b
      → runs k ((if b then [] else number r.low ∷ operation Sub ∷ []) ++ rest) st (stack ++ I64 (word v) ∷ [])
      ≡ runs k rest st (stack ++ I64 (unsigned_abs (v -ℤ r.low)) ∷ [])
  lower_runs r v sm l h rest st stack true e =
      let zero_low : r.low ≡ pos 0 = nought_word k has small room r.low e in
      let above = sm.high in
      let some : pos 0 ≤ℤ v = subst (λ (z : ℤ). z ≤ℤ v) zero_low l in
      let w : IsWide v = record { low = omega (arith, ints, some); high = omega (arith, ints, h, above) } in
      ap (λ (n : ℕ). runs k rest st (stack ++ I64 n ∷ []))
      (from_nought v w some ∙ ap (λ (z : ℤ). unsigned_abs (v -ℤ z)) (sym zero_low))
  lower_runs r v sm l h rest st stack false e =
      let below = sm.low in let above = sm.high in
      let w : IsWide v = record { low = omega (arith, ints, l, below); high = omega (arith, ints, h, above) } in
      let wl : IsWide r.low = record { low = omega (arith, ints, below); high = omega (arith, ints, l, h, above) } in
      i64_runs k.modules k.fixed k.turns (calls k) k.own (operation Sub ∷ rest) st (word r.low)
      (stack ++ I64 (word v) ∷ [])
      ∙ operation_runs k has small Sub (word v) (word r.low) (unsigned_abs (v -ℤ r.low)) rest st stack
      (ap Some (from_low r.low v wl w l (omega (arith, ints, l, h, below, above))))

  scaled_runs : (a m bytes b : ℕ) → a + m * bytes ≡ b → b < 2 ^ 32
      → (rest : List Instr) (st : Target) (stack : List Value)
      → runs k (scale_index bytes ++ rest) st ((stack ++ I32 a ∷ []) ++ I64 m ∷ [])
      ≡ runs k rest st (stack ++ I32 b ∷ [])
  scaled_runs a m bytes b e less rest st stack =
      let whole : m * bytes % 2 ^ 64 ≡ m * bytes = omega (arith, e, less) in
      let half : m * bytes % 2 ^ 32 ≡ m * bytes = omega (arith, e, less) in
      let sum : (a + m * bytes) % 2 ^ 32 ≡ b = omega (arith, e, less) in
      i64_runs k.modules k.fixed k.turns (calls k) k.own
      (operation Mul ∷ wrap_word ∷ instr.Numeric numeric.I32Add ∷ rest) st bytes
      ((stack ++ I32 a ∷ []) ++ I64 m ∷ [])
      ∙ operation_runs k has small Mul m bytes (m * bytes) (wrap_word ∷ instr.Numeric numeric.I32Add ∷ rest) st
      (stack ++ I32 a ∷ []) (ap Some whole)
      ∙ wrapped_runs k has small (m * bytes) (instr.Numeric numeric.I32Add ∷ rest) st (stack ++ I32 a ∷ [])
      ∙ ap (λ (n : ℕ). runs k (instr.Numeric numeric.I32Add ∷ rest) st ((stack ++ I32 a ∷ []) ++ I32 n ∷ [])) half
      ∙ number_runs k.modules k.fixed k.turns (calls k) k.own rest st numeric.I32Add
      ((stack ++ I32 a ∷ []) ++ I32 (m * bytes) ∷ []) stack (I32 ((a + m * bytes) % 2 ^ 32))
      (two_32 stack a (m * bytes) (λ i j. I32 ((i + j) % 2 ^ 32)))
      ∙ ap (λ (n : ℕ). runs k rest st (stack ++ I32 n ∷ [])) sum

  -- the code behind the index
  abbrev pub located : Range → (bytes : ℕ) → List Instr
  located r bytes = check_code r.low r.high 3 ++ (from_lower (Some r) ++ scale_index bytes)

  pub element_gives : (i : TypeNo) (r : Range) (u : Ty) → IsSmall r → (l : Location)
      → component (row k.world) l ≡ Some (Array (elements_of (Some r)) u) → (v : ℤ) → IsValue types i v
      → (s : Source) (st : Target) → Stands k s st → (rest : List Instr) (stack : List Value)
      → Into (GivesPlace k u (runs k rest) stack)
      (runs k (located r (size u) ++ rest) st ((stack ++ I32 (place k l) ∷ []) ++ I64 (word v) ∷ []))
      (element l r.low r.high v s)
  element_gives i r u sm l type v is s st h rest stack = by (is_between r.low v r.high) refl
    where
      below : List Value
      below = stack ++ I32 (place k l) ∷ []

      after : List Instr
      after = (from_lower (Some r) ++ scale_index (size u)) ++ rest

      bound : (z : ℤ) → r.low ≤ℤ z → z ≤ℤ r.high → IsWide z
      bound z a b = let c = sm.low in let d = sm.high in
          record { low = omega (arith, ints, a, c); high = omega (arith, ints, b, d) }

      -- the check
      gives : Into (GivesNumber k i (runs k after) below)
          (runs k (check_code r.low r.high 3 ++ after) st (below ++ I64 (word v) ∷ []))
          (meaning.within r.low r.high 3 v s)
      gives =
          let order = sm.some in
          checked_gives k has i r.low r.high v 3 (bound r.low (omega (arith, ints)) order)
          (bound r.high order (omega (arith, ints))) (wide v (narrow k has small i v is)) (omega arith)
          (omega arith) (λ e. is) s st h after below

      decided : (b : Bool) → is_between r.low v r.high ≡ b
          → Into (GivesNumber k i (runs k after) below)
          (runs k (check_code r.low r.high 3 ++ after) st (below ++ I64 (word v) ∷ []))
          (if b then answer.Value v s else Ended index_fault s.out)
          → Into (GivesPlace k u (runs k rest) stack)
          (runs k (check_code r.low r.high 3 ++ after) st (below ++ I64 (word v) ∷ []))
          (if b then answer.Value (l ++ unsigned_abs (v -ℤ r.low) ∷ []) s else Ended index_fault s.out)
      decided false e p = p
      decided true e p =
          let q = between_in r.low r.high v e in
          let m : ℕ = unsigned_abs (v -ℤ r.low) in
          let to : Location = l ++ m ∷ [] in
          let array : Ty = Array (elements_of (Some r)) u in
          let there : component (row k.world) to ≡ Some u = component_append (row k.world) array l (m ∷ []) type
          ∙ element_there (elements_of (Some r)) m u (lies_within r.low v r.high q.0 q.1) in
          let at : place k l + m * size u ≡ place k to =
          ap (λ (n : ℕ). place k l + n) (sym (element_at (elements_of (Some r)) m u))
          ∙ sym (offset_append (row k.world) array l (m ∷ []) type) in
          let less : place k to < 2 ^ 32 = (let p = place_small k has small room s p.st p.stands to u there in
          omega (arith, p)) in
          record {
            st = p.st;
            stands = p.stands;
            type = there;
            some = some_more l m;
            run =
                p.run
                ∙ ap (λ (c : List Instr). runs k c p.st (below ++ I64 (word v) ∷ []))
                (append_assoc (from_lower (Some r)) (scale_index (size u)) rest)
                ∙ lower_runs r v sm q.0 q.1 (scale_index (size u) ++ rest) p.st below (is_nought r.low) refl
                ∙ scaled_runs (place k l) m (size u) (place k to) at less rest p.st stack;
          }

      by : (b : Bool) → is_between r.low v r.high ≡ b
          → Into (GivesPlace k u (runs k rest) stack)
          (runs k (located r (size u) ++ rest) st (below ++ I64 (word v) ∷ [])) (element l r.low r.high v s)
      by b e =
          subst (λ (b : Bool). Into (GivesPlace k u (runs k rest) stack)
          (runs k (check_code r.low r.high 3 ++ after) st (below ++ I64 (word v) ∷ []))
          (if b then answer.Value (l ++ unsigned_abs (v -ℤ r.low) ∷ []) s else Ended index_fault s.out)) (sym e)
          (decided b e (subst (λ (b : Bool). Into (GivesNumber k i (runs k after) below)
          (runs k (check_code r.low r.high 3 ++ after) st (below ++ I64 (word v) ∷ []))
          (if b then answer.Value v s else Ended index_fault s.out)) e gives))

  pub element_reaches : (t i : TypeNo) (r : Range) (u : Ty) (index after : Coded) (value : Gives ℤ)
      → code.index_of types t ≡ Some r → tree types t ≡ Array (elements_of (Some r)) u → Agrees k i index value
      → IsPlain k after (element_code types t)
      → Reaches k (tree types t) u (index ⨾ after)
      (λ l a s. value a s ▷ λ v s. element_in l (meaning.index_range types t) v s)
  element_reaches t i r u index after value range array ha plainly = record {
    grows = λ e c. subst (λ (p : List Instr × Counts). Grows c p.1) (sym (plainly e (index (inside k e) c).1))
        (ha.grows e c);
    gives = λ e c free full l type some s st h rest stack.
        let first = index (inside k e) c in
        let list : List Instr = element_code types t in
        let next : ℤ → Source → Answer Location = λ v s. element_in l (meaning.index_range types t) v s in
        let below : List Value = stack ++ I32 (place k l) ∷ [] in
        let is : component (row k.world) l ≡ Some (Array (elements_of (Some r)) u) = type ∙ ap Some array in
        let listed : list ≡ located r (size u) =
        ap (λ (o : Option Range). in_range o 3
        ++ (from_lower o ++ scale_index (size (element_tree (tree types t))))) range
        ∙ ap (λ (t : Ty). check_code r.low r.high 3 ++ (from_lower (Some r) ++ scale_index (size (element_tree t))))
        array in
        let ranged : Some r ≡ meaning.index_range types t = sym range ∙ same_index types t in
        subst (λ (p : List Instr × Counts). Into (GivesPlace k u (runs k rest) stack)
        (runs k ((first.0 ++ p.0) ++ rest) st below) (value k.around s ▷ next)) (sym (plainly e first.1))
        (subst (λ (code : List Instr). Into (GivesPlace k u (runs k rest) stack) (runs k code st below)
        (value k.around s ▷ next)) (sym (append_assoc first.0 list rest))
        (into_then (GivesNumber k i (runs k (list ++ rest)) below) (GivesPlace k u (runs k rest) stack)
        (runs k (first.0 ++ (list ++ rest)) st below) (value k.around s) next
        (ha.gives e c free (subst (λ (p : List Instr × Counts). HasLocals k p.1) (plainly e first.1) full) s st h
        (list ++ rest) below)
        (λ v s' p. subst (λ (r : Effect). Into (GivesPlace k u (runs k rest) stack) r (next v s')) (sym p.run)
        (subst (λ (c : List Instr). Into (GivesPlace k u (runs k rest) stack)
        (runs k (c ++ rest) p.st (below ++ I64 (word v) ∷ [])) (next v s')) (sym listed)
        (subst (λ (o : Option Range). Into (GivesPlace k u (runs k rest) stack)
        (runs k (located r (size u) ++ rest) p.st (below ++ I64 (word v) ∷ [])) (element_in l o v s')) ranged
        (element_gives i r u (made_small types small (made_at types t) r range) l is v p.is s' p.st p.stands rest
        stack))))));
  }

-- ---- roots and what is behind them

pub own_locates : (k : Scene) → HasHelpers k → AreSmall k.setting.home.types → k.limit < 2 ^ 32
    → (i : ℕ) (l : Location) (t : Ty) → IsOwn k i l t
    → Locates k t (with_setting (λ s. plain (slot_code s (record { up = 0; number = i }) [])))
    (λ a s. answer.Value (location_of (slot_named a (record { up = 0; number = i }))) s)
own_locates k has small room i l t is = record {
  grows = λ e c. grows_same c;
  gives = λ e c free full s st h rest stack.
      let path : ℕ = slot_path k.setting (record { up = 0; number = i }) [] in
      subst (λ (to : Location). Into (GivesPlace k t (runs k rest) stack)
      (runs k ((instr.LocalGet 0 ∷ raise_address path) ++ rest) st stack) (answer.Value to s)) (sym is.is)
      (record {
        st = st;
        stands = h;
        type = is.type;
        some = is.some;
        run =
            get_runs k.modules k.fixed k.turns (calls k) k.own (raise_address path ++ rest) st 0 (I32 is.frame) stack
            (h.kept 0 (I32 is.frame) is.kept)
            ∙ raised_runs k has small room is.frame path (place k l) rest st stack is.at
            (let p = place_small k has small room s st h l t is.type in omega (arith, p));
      });
}

pub with_locates : (k : Scene) (j : ℕ) (l : Location) (t : Ty) → IsWith k j l t
    → Locates k t (with_setting (λ s. plain (with_code (slice_get s.withs j))))
    (λ a s. answer.Value (or_root (slice_get a.withs j)) s)
with_locates k j l t is = record {
  grows = λ e c. grows_same c;
  gives = λ e c free full s st h rest stack.
      subst (λ (o : Option ℕ). Into (GivesPlace k t (runs k rest) stack) (runs k (with_code o ++ rest) st stack)
      (answer.Value (or_root (slice_get k.around.withs j)) s)) (sym is.there)
      (subst (λ (o : Option Location). Into (GivesPlace k t (runs k rest) stack)
      (runs k (instr.LocalGet is.local ∷ rest) st stack) (answer.Value (or_root o) s)) (sym is.is)
      (record {
        st = st;
        stands = h;
        type = is.type;
        some = is.some;
        run = get_runs k.modules k.fixed k.turns (calls k) k.own rest st is.local (I32 (place k l)) stack
            (h.kept is.local (I32 (place k l)) is.kept);
      }));
}

reach_then : (k : Scene) (t v u : Ty) (x y : Coded) (reach next : Location → Gives Location) → Reaches k t v x reach
    → Reaches k v u y next → Reaches k t u (x ⨾ y) (λ l a s. reach l a s ▷ λ l s. next l a s)
reach_then k t v u x y reach next hx hy = record {
  grows = λ e c. grows_more (hx.grows e c) (hy.grows e (x (inside k e) c).1);
  gives = λ e c free full l type some s st h rest stack.
      let first = x (inside k e) c in
      let second = y (inside k e) first.1 in
      let on : Location → Source → Answer Location = λ l s. next l k.around s in
      subst (λ (code : List Instr). Into (GivesPlace k u (runs k rest) stack)
      (runs k code st (stack ++ I32 (place k l) ∷ [])) (reach l k.around s ▷ on))
      (sym (append_assoc first.0 second.0 rest))
      (into_then (GivesPlace k v (runs k (second.0 ++ rest)) stack) (GivesPlace k u (runs k rest) stack)
      (runs k (first.0 ++ (second.0 ++ rest)) st (stack ++ I32 (place k l) ∷ [])) (reach l k.around s) on
      (hx.gives e c free (has_before k (hy.grows e first.1) full) l type some s st h (second.0 ++ rest) stack)
      (λ l s' p. subst (λ (r : Effect). Into (GivesPlace k u (runs k rest) stack) r (on l s')) (sym p.run)
      (hy.gives e first.1 (free_after k (hx.grows e c) free) full l p.type p.some s' p.st p.stands rest stack)));
}

pub all_reach : (k : Scene) (t u : Ty) (cs : List Coded) (rs : List meaning.Reaches) → AreReached k t u cs rs
    → Reaches k t u (all_coded cs) (one_by_one rs)
all_reach k t _ [] [] (no_components _) = record {
  grows = λ e c. grows_same c;
  gives = λ e c free full l type some s st h rest stack.
      record { st = st; stands = h; type = type; some = some; run = refl };
}
all_reach k t u _ _ (more_components _ v _ c cs r rs h hs) =
    reach_then k t v u c (all_coded cs) r (one_by_one rs) h (all_reach k v u cs rs hs)

pub root_then : (k : Scene) (t u : Ty) (x y : Coded) (found : Gives Location) (next : Location → Gives Location)
    → Locates k t x found → Reaches k t u y next → Locates k u (x ⨾ y) (λ a s. found a s ▷ λ l s. next l a s)
root_then k t u x y found next hx hy = record {
  grows = λ e c. grows_more (hx.grows e c) (hy.grows e (x (inside k e) c).1);
  gives = λ e c free full s st h rest stack.
      let first = x (inside k e) c in
      let second = y (inside k e) first.1 in
      let on : Location → Source → Answer Location = λ l s. next l k.around s in
      subst (λ (code : List Instr). Into (GivesPlace k u (runs k rest) stack) (runs k code st stack)
      (found k.around s ▷ on)) (sym (append_assoc first.0 second.0 rest))
      (into_then (GivesPlace k t (runs k (second.0 ++ rest)) stack) (GivesPlace k u (runs k rest) stack)
      (runs k (first.0 ++ (second.0 ++ rest)) st stack) (found k.around s) on
      (hx.gives e c free (has_before k (hy.grows e first.1) full) s st h (second.0 ++ rest) stack)
      (λ l s' p. subst (λ (r : Effect). Into (GivesPlace k u (runs k rest) stack) r (on l s')) (sym p.run)
      (hy.gives e first.1 (free_after k (hx.grows e c) free) full l p.type p.some s' p.st p.stands rest stack)));
}
