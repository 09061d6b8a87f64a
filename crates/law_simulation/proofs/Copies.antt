-- Whole copies, and strings.
use Rattle.std.proofs.Common.{◌≡◌, ℕ, zero, suc, ◌+◌, ◌-◌, ◌*◌, ◌^◌, ◌<◌, ◌≤◌, ◌⊎◌, inl, inr, ⊎_elim, ℤ, pos, Bool, true, false, List, [], ◌∷◌, ◌++◌, length, Option, Some, None, if◌then◌else◌, refl, sym, ap, subst, ◌∙◌, append_assoc, arith}
use Rattle.std.specs.Prelude.{get_or, slice_get, slice_set, nat_lt}
use Rattle.std.proofs.lemmas.Int.{ints}
use Rattle.std.proofs.lemmas.Bool.{cases_lt}
use Rattle.wasm_tree.specs.declared.kinds.ValueType.TheVariants as kind
use Rattle.wasm_tree.specs.declared.instr.Instr.{Instr}
use Rattle.wasm_tree.specs.declared.instr.Instr.TheVariants as instr
use Rattle.wasm_tree.specs.declared.store.Value.{Value}
use Rattle.wasm_tree.specs.declared.store.Value.TheVariants.{I32}
use Rattle.law_effect.specs.Bytes.{byte, copied_bytes, cleared_bytes, IsOnly}
use Rattle.law_effect.proofs.Bytes.{copied_length, copied_small, copied_only, copied_moved, cleared_length, cleared_small, cleared_only, cleared_zero}
use Rattle.law_effect.specs.Effect.{State as Target, Effect, then_run}
use Rattle.law_effect.proofs.Steps.{split_end_at, i32_runs, get_runs, tee_runs, global_runs}
use Rattle.layout_storage.specs.Types.{Ty, Scalar, Natural, Cell, Hidden, Array, row, component, IsPlain, IsScalar}
use Rattle.layout_storage.specs.Sizes.{size, offset}
use Rattle.layout_storage.specs.Shapes.{tree}
use Rattle.def_meaning.specs.Environment.{Modules}
use Rattle.def_meaning.specs.Store.{Location, Store, behind, copy_whole, overlay}
use Rattle.def_meaning.specs.Answer.{State as Source, ◌▷◌}
use Rattle.def_meaning.specs.Outcome.{Outcome, Normal}
use Rattle.def_meaning.specs.Answer as answer
use Rattle.def_meaning.specs.Expressions.{Gives}
use Rattle.def_meaning.specs.Statements.{or_zero, character}
use Rattle.law_memory.specs.Cells.{number}
use Rattle.law_memory.specs.Relation.{Says, Shows, Holds}
use Rattle.law_memory.proofs.Places.{AreApart, apart, behind_is, component_append}
use Rattle.law_memory.proofs.Worlds.{lies, holds_placed, plain_hidden}
use Rattle.law_memory.proofs.Assigns.{assigns_whole}
use Rattle.law_memory.proofs.Helpers.{copy_called, fill_called}
use Rattle.def_scheme.specs.Coded.{Coded, Counts, plain, ◌⨾◌, with_setting, with_address, raise_address, address_local}
use Rattle.def_scheme.specs.Helpers.{copy_code, fill_code, helper}
use Rattle.def_scheme.specs.Exprs.{text_code}
use Rattle.def_scheme.specs.Steps.{text_copied}
use Rattle.law_simulation.specs.Scene.{Scene, IsSet, calls, runs, place, Stands, keeping, Grows, IsFree, HasLocals, inside, Locates, Ends, GoesTo, Executes}
use Rattle.law_simulation.proofs.Parts.{grows_more, has_before, free_after}
use Rattle.law_simulation.proofs.Served.{served_runs}
use Rattle.law_simulation.proofs.Places.{raised_runs}
use Rattle.law_simulation.proofs.Kept.{ends_from}
use Rattle.law_simulation.proofs.Locals.{get_set, set_keeps, forgets}
use Rattle.law_simulation.specs.CallsLaws.{IsText, Copies, Strings}

some_same : {A : Type 0} (x y : A) → Some x ≡ Some y → x ≡ y
some_same x y e = cc e

pub none_some : {A : Type 0} (x : A) → None ≡ Some x → ⊥
none_some x e = cc e

-- ---- characters that stand in an array

or_zero_is : (text : List ℕ) (j : ℕ) → or_zero (slice_get text j) ≡ pos (get_or text j 0)
or_zero_is [] j = refl
or_zero_is (c ∷ text) zero = refl
or_zero_is (c ∷ text) (suc j) = or_zero_is text j

abbrev pub characters_of : ℕ → Ty
characters_of n = Array n (Cell (Natural 255))

shows_one : (program : Modules) (a : ℕ) (v : ℕ) (m : List ℕ) → byte a m ≡ v → v < 256
    → Says program (Natural 255) a (pos v) m
unfolding number
shows_one program a v m e less = record {
  value = (let n : byte a m + 256 * 0 ≡ v = omega (arith, e) in ap pos n);
  within = record { low = omega (arith, ints); high = omega (arith, ints, less) };
  means = tt;
}

-- where the bytes are those of a text, and 0 behind it
pub text_shows : (program : Modules) (n a : ℕ) (text m : List ℕ) → ((j : ℕ) → j < n → byte (a + j) m ≡ get_or text j 0)
    → ((j : ℕ) → get_or text j 0 < 256) → Shows program (characters_of n) a (character text) m
unfolding component offset size
text_shows program n a text m same small [] c e = absurd (array_cell (some_same (characters_of n) (Cell c) e))
  where
    array_cell : characters_of n ≡ Cell c → ⊥
    array_cell e = cc e
text_shows program n a text m same small (j ∷ []) c e = by (nat_lt j n) refl e
  where
    by : (b : Bool) → nat_lt j n ≡ b → (if b then Some (Cell (Natural 255)) else None) ≡ Some (Cell c)
        → Says program c (a + (j * size (Cell (Natural 255)) + offset (Cell (Natural 255)) []))
        (or_zero (slice_get text j)) m
    by true b e =
        let is : Natural 255 ≡ c = cell_same (Natural 255) c e in
        let less : j < n = grind (arith, b) in
        let at : a + (j * 1 + 0) ≡ a + j = omega arith in
        subst (λ (c : Scalar). Says program c (a + (j * 1 + 0)) (or_zero (slice_get text j)) m) is
        (subst (λ (v : ℤ). Says program (Natural 255) (a + (j * 1 + 0)) v m) (sym (or_zero_is text j))
        (shows_one program (a + (j * 1 + 0)) (get_or text j 0) m (ap (λ (i : ℕ). byte i m) at ∙ same j less) (small j)))
      where
        cell_same : (c d : Scalar) → Some (Cell c) ≡ Some (Cell d) → c ≡ d
        cell_same c d e = cc e
    by false b e = absurd (none_some (Cell c) e)
text_shows program n a text m same small (j ∷ i ∷ p) c e = absurd (by (nat_lt j n) e)
  where
    by : (b : Bool) → (if b then None else None) ≡ Some (Cell c) → ⊥
    by true e = none_some (Cell c) e
    by false e = none_some (Cell c) e

-- an array of characters has no hidden room, and hidden room no arrays
char_scalar : Unit {0} → IsScalar (Natural 255)
char_scalar u = record {
  low = omega (arith, ints);
  high = omega (arith, ints);
  some = omega (arith, ints);
  narrow =
      omega (arith, ints);
}

hidden_array : (b n : ℕ) (r : Location) → component (Hidden b) r ≡ Some (characters_of n) → ⊥
unfolding component
hidden_array b n [] e = differ (some_same (Hidden b) (characters_of n) e)
  where
    differ : Hidden b ≡ characters_of n → ⊥
    differ e = cc e
hidden_array b n (i ∷ r) e = none_some (characters_of n) e

-- another memory that holds another store
stands_bytes : (k : Scene) (w : ℕ) (v : Value) (st : Target) (m : List ℕ) (s : Source) (store : Store)
    → Stands (keeping k w v) s st → Holds k.program k.world k.hidden store m → length m ≡ length st.bytes
    → Stands (keeping k w v) (record s { store = store }) (record st { bytes = m })
stands_bytes k w v st m s store h holds same =
    record { holds = holds; long = same ∙ h.long; count = h.count; kept = h.kept; out = h.out }

-- ---- calls of copy and fill

module _ (k : Scene) (set : IsSet k) where
  pub copy_here : (to from n : ℕ) (st : Target) (rest : List Instr) (stack : List Value) → to + n ≤ length st.bytes
      → from + n ≤ length st.bytes → ((a : ℕ) → byte a st.bytes < 256) → length st.bytes < 2 ^ 32
      → runs k (instr.Call 2 ∷ rest) st (stack ++ I32 to ∷ I32 from ∷ I32 n ∷ [])
      ≡ runs k rest (record st { bytes = copied_bytes n to from st.bytes }) stack
  copy_here to from n st rest stack a b small long =
      let has = set.helpers in
      let given : List Value = I32 to ∷ I32 from ∷ I32 n ∷ [] in
      let many = has.many 0 (omega arith) in
      served_runs k has 2 0 (helper (kind.I32 ∷ kind.I32 ∷ kind.I32 ∷ []) [] has.copy_index copy_code) st
      (stack ++ given) stack given rest (omega arith) (has.copy st.bytes) has.copy_there
      (split_end_at stack given 3 refl)
      ∙ ap (λ (e : Effect). then_run e (runs k rest))
      (copy_called k.modules k.fixed k.extra k.turns (suc has.levels) k.turns k.own 2 k.own 0 has.copy_index
      has.memory st (has.copy st.bytes) has.copy_there n to from stack [] (omega (arith, many, a, long)) a b small
      long)

  pub fill_here : (to n : ℕ) (st : Target) (rest : List Instr) (stack : List Value) → to + n ≤ length st.bytes
      → length st.bytes < 2 ^ 32
      → runs k (instr.Call 3 ∷ rest) st (stack ++ I32 to ∷ I32 n ∷ [])
      ≡ runs k rest (record st { bytes = cleared_bytes n to st.bytes }) stack
  fill_here to n st rest stack a long =
      let has = set.helpers in
      let given : List Value = I32 to ∷ I32 n ∷ [] in
      let many = has.many 1 (omega arith) in
      served_runs k has 3 1 (helper (kind.I32 ∷ kind.I32 ∷ []) [] has.fill_index fill_code) st (stack ++ given) stack
      given rest (omega arith) (has.fill st.bytes) has.fill_there (split_end_at stack given 2 refl)
      ∙ ap (λ (e : Effect). then_run e (runs k rest))
      (fill_called k.modules k.fixed k.extra k.turns (suc has.levels) k.turns k.own 3 k.own 1 has.fill_index
      has.memory st (has.fill st.bytes) has.fill_there n to stack [] (omega (arith, many, a, long)) a long)

  three_pushed : (s : List Value) (a b c : Value) → ((s ++ a ∷ []) ++ b ∷ []) ++ c ∷ [] ≡ s ++ a ∷ b ∷ c ∷ []
  three_pushed [] a b c = refl
  three_pushed (x ∷ s) a b c = ap (λ (r : List Value). x ∷ r) (three_pushed s a b c)

  two_pushed : (s : List Value) (a b : Value) → (s ++ a ∷ []) ++ b ∷ [] ≡ s ++ a ∷ b ∷ []
  two_pushed s a b = append_assoc s (a ∷ []) (b ∷ [])

  -- addresses below the end of the memory
  long_enough : (s : Source) (st : Target) → Stands k s st → length st.bytes < 2 ^ 32
  long_enough s st h = let room = set.room in let long = h.long in omega (arith, room, long)

  -- ---- a whole copy

  copy_goes : (t : Ty) → IsPlain t → (to from : Location) → component (row k.world) to ≡ Some t
      → component (row k.world) from ≡ Some t → (s : Source) (st : Target) → Stands k s st
      → (rest : List Instr) (stack : List Value)
      → GoesTo k (λ st. runs k rest st stack) (record s { store = copy_whole to from s.store })
      (runs k (instr.I32Const (size t) ∷ instr.Call 2 ∷ rest) st
      ((stack ++ I32 (place k to) ∷ []) ++ I32 (place k from) ∷ []))
  copy_goes t whole to from at_to at_from s st h rest stack =
      let a = lies k.program k.world k.hidden s.store st.bytes h.holds to t at_to in
      let b = lies k.program k.world k.hidden s.store st.bytes h.holds from t at_from in
      record {
        st = record st { bytes = copied_bytes (size t) (place k to) (place k from) st.bytes };
        stands = record {
          holds = assigns_whole k.program k.world k.hidden s.store st.bytes h.holds to from t whole at_to at_from;
          long = copied_length (size t) (place k to) (place k from) st.bytes a ∙ h.long;
          count = h.count;
          kept = h.kept;
          out = h.out;
        };
        run =
            i32_runs k.modules k.fixed k.turns (calls k) k.own (instr.Call 2 ∷ rest) st (size t)
            ((stack ++ I32 (place k to) ∷ []) ++ I32 (place k from) ∷ [])
            ∙ ap (runs k (instr.Call 2 ∷ rest) st)
            (three_pushed stack (I32 (place k to)) (I32 (place k from)) (I32 (size t)))
            ∙ copy_here (place k to) (place k from) (size t) st rest stack a b h.holds.bytes (long_enough s st h);
      }

  copy_executes : (function : Bool) (t : Ty) (d e after : Coded) (to from : Gives Location) → IsPlain t
      → Locates k t d to → Locates k t e from
      → ((x : ℕ) (c : Counts) → after (inside k x) c ≡ (instr.I32Const (size t) ∷ instr.Call 2 ∷ [], c))
      → Executes k function (d ⨾ e ⨾ after) (λ a s. to a s ▷ λ l s. from a s ▷ λ l' s. answer.Value Normal
      (record s { store = copy_whole l l' s.store }))
  copy_executes function t d e after to from whole hd he plainly = record {
    grows = λ x c. subst (λ (p : List Instr × Counts). Grows c p.1)
        (sym (plainly x (e (inside k x) (d (inside k x) c).1).1))
        (grows_more (hd.grows x c) (he.grows x (d (inside k x) c).1));
    goes = λ x c free full s st h rest stack.
        let first = d (inside k x) c in
        let second = e (inside k x) first.1 in
        let list : List Instr = instr.I32Const (size t) ∷ instr.Call 2 ∷ [] in
        let on : Target → Effect = λ st. runs k rest st stack in
        let next : Location → Source → Outcome =
        λ l s. (from k.around s ▷ (λ l' s. answer.Value Normal (record s { store = copy_whole l l' s.store }))) in
        let full2 : HasLocals k second.1 = subst (λ (p : List Instr × Counts). HasLocals k p.1) (plainly x second.1)
        full in
        subst (λ (p : List Instr × Counts). Ends k function x stack on
        (runs k ((first.0 ++ (second.0 ++ p.0)) ++ rest) st stack) (to k.around s ▷ next))
        (sym (plainly x second.1))
        (subst (λ (code : List Instr). Ends k function x stack on (runs k code st stack) (to k.around s ▷ next))
        (sym (three first.0 second.0 list rest))
        (ends_from k function x stack stack on t (runs k (second.0 ++ (list ++ rest)))
        (runs k (first.0 ++ (second.0 ++ (list ++ rest))) st stack) (to k.around s) next
        (hd.gives x c free (has_before k (he.grows x first.1) full2) s st h (second.0 ++ (list ++ rest)) stack)
        (λ l type some s' st' h'.
        ends_from k function x stack (stack ++ I32 (place k l) ∷ []) on t (runs k (list ++ rest))
        (runs k (second.0 ++ (list ++ rest)) st' (stack ++ I32 (place k l) ∷ [])) (from k.around s')
        (λ l' s. answer.Value Normal (record s { store = copy_whole l l' s.store }))
        (he.gives x first.1 (free_after k (hd.grows x c) free) full2 s' st' h' (list ++ rest)
        (stack ++ I32 (place k l) ∷ []))
        (λ l' type' some' s'' st'' h''. copy_goes t whole l l' type type' s'' st'' h'' rest stack))));
  }
    where
      three : (a b c d : List Instr) → (a ++ (b ++ c)) ++ d ≡ a ++ (b ++ (c ++ d))
      three a b c d = append_assoc a (b ++ c) d ∙ ap (λ (x : List Instr). a ++ x) (append_assoc b c d)

pub copies : Copies
copies k set function t d e to from whole hd he =
    copy_executes k set function (tree k.setting.home.types t) d e
    (with_setting (λ s. plain (instr.I32Const (size (tree s.home.types t)) ∷ instr.Call 2 ∷ []))) to from whole hd
    he (λ x c. refl)

-- ---- strings

module _ (k : Scene) (set : IsSet k) (at : ℕ) (text : List ℕ) (is : IsText k at text) where
  abbrev bytes : ℕ
  bytes = length text

  abbrev written : (a w more : ℕ) → Target → Target
  written a w more st = record st {
    locals = slice_set st.locals w (I32 a);
    bytes =
        cleared_bytes more (a + bytes) (copied_bytes bytes a (is.base + at) st.bytes);
  }

  string_path : (a w more : ℕ) (st : Target) (rest : List Instr) (stack : List Value) → w < length st.locals
      → a + (bytes + more) ≤ length st.bytes → is.base + (at + bytes) ≤ length st.bytes
      → ((b : ℕ) → byte b st.bytes < 256) → length st.bytes < 2 ^ 32
      → runs k (instr.LocalTee w ∷ (text_copied at bytes more w ++ rest)) st (stack ++ I32 a ∷ [])
      ≡ runs k rest (written a w more st) stack
  string_path a w more st rest stack inner room source small long =
      let has = set.helpers in
      let teed : Target = record st { locals = slice_set st.locals w (I32 a) } in
      let filled : Target = record teed { bytes = copied_bytes bytes a (is.base + at) st.bytes } in
      let filling : List Instr = instr.I32Const more ∷ instr.Call 3 ∷ rest in
      let behind : List Instr = instr.LocalGet w ∷ (raise_address bytes ++ filling) in
      let same_length : length filled.bytes ≡ length st.bytes =
      copied_length bytes a (is.base + at) st.bytes (omega (arith, room)) in
      tee_runs k.modules k.fixed k.turns (calls k) k.own
      (text_code at ++ (instr.I32Const bytes ∷ instr.Call 2 ∷ behind)) st w (I32 a) stack inner
      ∙ global_runs k.modules k.fixed k.turns (calls k) k.own
      (raise_address at ++ (instr.I32Const bytes ∷ instr.Call 2 ∷ behind)) teed 2 (I32 is.base)
      (stack ++ I32 a ∷ []) (is.there st.bytes)
      ∙ raised_runs k has set.small set.room is.base at (is.base + at) (instr.I32Const bytes ∷ instr.Call 2 ∷ behind)
      teed (stack ++ I32 a ∷ []) refl (omega (arith, source, long))
      ∙ i32_runs k.modules k.fixed k.turns (calls k) k.own (instr.Call 2 ∷ behind) teed bytes
      ((stack ++ I32 a ∷ []) ++ I32 (is.base + at) ∷ [])
      ∙ ap (runs k (instr.Call 2 ∷ behind) teed) (three_pushed k set stack (I32 a) (I32 (is.base + at)) (I32 bytes))
      ∙ copy_here k set a (is.base + at) bytes teed behind stack (omega (arith, room)) (omega (arith, source)) small
      long
      ∙ get_runs k.modules k.fixed k.turns (calls k) k.own (raise_address bytes ++ filling) filled w (I32 a) stack
      (get_set st.locals w (I32 a) inner)
      ∙ raised_runs k has set.small set.room a bytes (a + bytes) filling filled stack refl (omega (arith, room, long))
      ∙ i32_runs k.modules k.fixed k.turns (calls k) k.own (instr.Call 3 ∷ rest) filled more
      (stack ++ I32 (a + bytes) ∷ [])
      ∙ ap (runs k (instr.Call 3 ∷ rest) filled) (two_pushed k set stack (I32 (a + bytes)) (I32 more))
      ∙ fill_here k set (a + bytes) more filled rest stack (omega (arith, room, same_length))
      (omega (arith, long, same_length))

  -- what stands in the array then
  string_bytes : (a more : ℕ) (m : List ℕ) → a + (bytes + more) ≤ length m → (is.base + (at + bytes) ≤ a)
      ⊎ (a + (bytes + more) ≤ is.base + at) → ((j : ℕ) → j < bytes → byte (is.base + at + j) m ≡ get_or text j 0)
      → (j : ℕ) → j < bytes + more → byte (a + j)
      (cleared_bytes more (a + bytes) (copied_bytes bytes a (is.base + at) m)) ≡ get_or text j 0
  string_bytes a more m room apart same j less =
      let m1 : List ℕ = copied_bytes bytes a (is.base + at) m in
      let l : length m1 ≡ length m = copied_length bytes a (is.base + at) m (omega (arith, room)) in
      let rest : (a + bytes) + more ≤ length m1 = omega (arith, room, l) in
      let lies_apart : (a ≤ is.base + at) ⊎ (is.base + at + bytes ≤ a) =
      ⊎_elim (λ (h : is.base + (at + bytes) ≤ a). inr (omega (arith, h)))
      (λ (h : a + (bytes + more) ≤ is.base + at). inl (omega (arith, h))) apart in
      ⊎_elim
      (λ (first : j < bytes).
      cleared_only more (a + bytes) m1 rest (a + j) (inl (omega (arith, first)))
      ∙ copied_moved bytes a (is.base + at) m (omega (arith, room)) lies_apart j first ∙ same j first)
      (λ (second : bytes ≤ j).
      let to : a + j ≡ a + bytes + (j - bytes) = omega (arith, second) in
      ap (λ (i : ℕ). byte i (cleared_bytes more (a + bytes) m1)) to
      ∙ cleared_zero more (a + bytes) m1 rest (j - bytes) (omega (arith, second, less))
      ∙ sym (beyond text j second))
      (cases_lt j bytes)
    where
      beyond : (xs : List ℕ) (j : ℕ) → length xs ≤ j → get_or xs j 0 ≡ 0
      beyond [] j h = refl
      beyond (x ∷ xs) zero h = absurd (omega (arith, h))
      beyond (x ∷ xs) (suc j) h = beyond xs j (omega (arith, h))

  string_only : (a more : ℕ) (m : List ℕ) → a + (bytes + more) ≤ length m
      → IsOnly a (bytes + more) m (cleared_bytes more (a + bytes) (copied_bytes bytes a (is.base + at) m))
  string_only a more m room b outside =
      let m1 : List ℕ = copied_bytes bytes a (is.base + at) m in
      let l : length m1 ≡ length m = copied_length bytes a (is.base + at) m (omega (arith, room)) in
      let rest : (a + bytes) + more ≤ length m1 = omega (arith, room, l) in
      ⊎_elim
      (λ (h : b < a). cleared_only more (a + bytes) m1 rest b (inl (omega (arith, h)))
      ∙ copied_only bytes a (is.base + at) m (omega (arith, room)) b (inl h))
      (λ (h : a + (bytes + more) ≤ b). cleared_only more (a + bytes) m1 rest b (inr (omega (arith, h)))
      ∙ copied_only bytes a (is.base + at) m (omega (arith, room)) b (inr (omega (arith, h)))) outside

  -- no array of characters stands in the room of the texts
  array_apart : (l : Location) (n : ℕ) → component (row k.world) l ≡ Some (characters_of n) → AreApart l is.room
  array_apart l n type = record { right = right (behind l is.room) refl; left = left (behind is.room l) refl }
    where
      right : (o : Option Location) → behind l is.room ≡ o → behind l is.room ≡ None
      right None e = e
      right (Some r) e = absurd (plain_hidden (characters_of n) r is.bytes (char_scalar tt)
          (sym (component_append (row k.world) (characters_of n) l r type)
          ∙ ap (component (row k.world)) (sym (behind_is l is.room r e)) ∙ is.type))

      in_hidden : (r : Location) → component (Hidden is.bytes) r ≡ Some (characters_of n) → ⊥
      in_hidden r e = hidden_array is.bytes n r e

      left : (o : Option Location) → behind is.room l ≡ o → behind is.room l ≡ None
      left None e = e
      left (Some r) e = absurd (in_hidden r (sym (component_append (row k.world) (Hidden is.bytes) is.room r is.type)
          ∙ ap (component (row k.world)) (sym (behind_is is.room l r e)) ∙ type))

  -- the bytes of the text
  text_there : (s : Source) (st : Target) → Stands k s st → (j : ℕ) → j < bytes
      → byte (is.base + at + j) st.bytes ≡ get_or text j 0
  text_there s st h j less =
      let fits = is.fits in
      let same = is.is in
      let e : is.base + at + j ≡ 0 + offset (row k.world) is.room + (at + j) = omega (arith, same) in
      ap (λ (i : ℕ). byte i st.bytes) e ∙ h.holds.hidden is.room is.bytes (at + j) is.type (omega (arith, fits, less))
      ∙ is.same j less

  string_goes : (n : ℕ) → bytes ≤ n → (l : Location) → component (row k.world) l ≡ Some (characters_of n) → (w : ℕ)
      → w < k.locals → k.kept w ≡ None → (s : Source) (st : Target) → Stands k s st
      → (rest : List Instr) (stack : List Value)
      → GoesTo k (λ st. runs k rest st stack) (record s { store = overlay l (character text) s.store })
      (runs k (instr.LocalTee w ∷ (text_copied at bytes (size (characters_of n) - bytes) w ++ rest)) st
      (stack ++ I32 (place k l) ∷ []))
  unfolding size
  string_goes n fewer l type w inner new s st h rest stack =
      let a : ℕ = place k l in
      let whole : Ty = characters_of n in
      let more : ℕ = n * 1 - bytes in
      let fits = lies k.program k.world k.hidden s.store st.bytes h.holds l whole type in
      let there = lies k.program k.world k.hidden s.store st.bytes h.holds is.room (Hidden is.bytes) is.type in
      let text_fits = is.fits in
      let same = is.is in
      let all : bytes + more ≡ n * 1 = omega (arith, fewer) in
      let room : a + (bytes + more) ≤ length st.bytes = omega (arith, all, fits) in
      let source : is.base + (at + bytes) ≤ length st.bytes = omega (arith, same, text_fits, there) in
      let separate : (offset (row k.world) l + size whole ≤ offset (row k.world) is.room)
      ⊎ (offset (row k.world) is.room + size (Hidden is.bytes) ≤ offset (row k.world) l) =
      apart (row k.world) whole (Hidden is.bytes) l is.room type is.type (array_apart l n type) in
      let beside : (is.base + (at + bytes) ≤ a) ⊎ (a + (bytes + more) ≤ is.base + at) =
      ⊎_elim (λ (g : offset (row k.world) l + n * 1 ≤ offset (row k.world) is.room). inr
      (omega (arith, g, all, same))) (λ (g : offset (row k.world) is.room + is.bytes ≤ offset (row k.world) l). inl
      (omega (arith, g, same, text_fits))) separate in
      let m1 : List ℕ = copied_bytes bytes a (is.base + at) st.bytes in
      let m' : List ℕ = cleared_bytes more (a + bytes) m1 in
      let l1 : length m1 ≡ length st.bytes = copied_length bytes a (is.base + at) st.bytes (omega (arith, room)) in
      let rest_fits : (a + bytes) + more ≤ length m1 = omega (arith, room, l1) in
      let l2 : length m' ≡ length st.bytes = cleared_length more (a + bytes) m1 rest_fits ∙ l1 in
      let only : IsOnly a (n * 1) st.bytes m' =
      subst (λ (i : ℕ). IsOnly a i st.bytes m') all (string_only a more st.bytes room) in
      let small' : (b : ℕ) → byte b m' < 256 =
      cleared_small more (a + bytes) m1 rest_fits
      (copied_small bytes a (is.base + at) st.bytes (omega (arith, room)) h.holds.bytes) in
      let shown : Shows k.program whole a (character text) m' =
      text_shows k.program n a text m' (λ j less. string_bytes a more st.bytes room beside (text_there s st h) j
      (omega (arith, less, all))) is.small in
      record {
        st = written a w more st;
        stands = forgets k w (I32 a) new (record s { store = overlay l (character text) s.store }) (written a w more st)
            (stands_bytes k w (I32 a) (record st { locals = slice_set st.locals w (I32 a) }) m' s
            (overlay l (character text) s.store)
            (set_keeps k w (I32 a) new inner s st h)
            (holds_placed k.program k.world k.hidden s.store st.bytes h.holds l whole (character text) m'
            (char_scalar tt) type only l2 small' shown) l2);
        run = string_path a w more st rest stack (let count = h.count in omega (arith, inner, count)) room source
            h.holds.bytes (long_enough k set s st h);
      }

  string_executes : (function : Bool) (n : ℕ) → bytes ≤ n → (d : Coded) (to : Gives Location) (f : ℕ → Coded)
      → Locates k (characters_of n) d to
      → ((w x : ℕ) (c : Counts) → f w (inside k x) c
      ≡ (instr.LocalTee w ∷ text_copied at bytes (size (characters_of n) - bytes) w, c))
      → Executes k function (d ⨾ with_address f)
      (λ a s. to a s ▷ λ l s. answer.Value Normal (record s { store = overlay l (character text) s.store }))
  string_executes function n fewer d to f hd plainly = record {
    grows = λ x c.
        let middle = (d (inside k x) c).1 in
        let after : Counts = record middle { addresses = suc middle.addresses } in
        let g = hd.grows x c in
        subst (λ (p : List Instr × Counts). Grows c p.1)
        (sym (plainly (address_local k.setting middle.addresses) x after))
        (record { numbers = g.numbers; addresses = omega (arith, g.addresses) });
    goes = λ x c free full s st h rest stack.
        let first = d (inside k x) c in
        let middle = first.1 in
        let w : ℕ = address_local k.setting middle.addresses in
        let after : Counts = record middle { addresses = suc middle.addresses } in
        let list : List Instr = instr.LocalTee w ∷ text_copied at bytes (size (characters_of n) - bytes) w in
        let full' : HasLocals k after = subst (λ (p : List Instr × Counts). HasLocals k p.1) (plainly w x after) full in
        let fewer' : middle.addresses < k.setting.addresses = omega (arith, full'.addresses) in
        let less : w < k.locals = omega (arith, fewer', full'.numbers) in
        let free_here : IsFree k middle = free_after k (hd.grows x c) free in
        let new : k.kept w ≡ None = free_here.addresses w (omega arith) (omega (arith, fewer')) in
        let full_here : HasLocals k middle = record { numbers = full'.numbers; addresses = omega (arith, fewer') } in
        let on : Target → Effect = λ st. runs k rest st stack in
        let next : Location → Source → Outcome =
        λ l s. answer.Value Normal (record s { store = overlay l (character text) s.store }) in
        subst (λ (p : List Instr × Counts). Ends k function x stack on (runs k ((first.0 ++ p.0) ++ rest) st stack)
        (to k.around s ▷ next)) (sym (plainly w x after))
        (subst (λ (code : List Instr). Ends k function x stack on (runs k code st stack) (to k.around s ▷ next))
        (sym (append_assoc first.0 list rest))
        (ends_from k function x stack stack on (characters_of n) (runs k (list ++ rest))
        (runs k (first.0 ++ (list ++ rest)) st stack) (to k.around s) next
        (hd.gives x c free full_here s st h (list ++ rest) stack)
        (λ l type some s' st' h'. string_goes n fewer l type w less new s' st' h' rest stack)));
  }

pub strings : Strings
strings k set function t n at d to text array fewer is hd =
    string_executes k set at text is function n fewer d to
    (λ w. plain (instr.LocalTee w ∷ []) ⨾ with_setting
    (λ s. plain (text_copied at (length text) (size (tree s.home.types t) - length text) w)))
    (subst (λ (u : Ty). Locates k u d to) array hd)
    (λ w x c. ap (λ (u : Ty). (instr.LocalTee w ∷ text_copied at (length text) (size u - length text) w, c)) array)
