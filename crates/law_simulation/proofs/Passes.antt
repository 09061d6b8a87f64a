-- Arguments leave their operands, and calls take them.
use Rattle.std.proofs.Common.{◌≡◌, ℕ, suc, ◌+◌, ◌-◌, ◌^◌, ◌<◌, ◌≤◌, ℤ, pos, Bool, false, List, [], ◌∷◌, ◌++◌, length, Option, Some, refl, sym, ap, subst, ◌∙◌, append_assoc, arith}
use Rattle.std.specs.Prelude.{◌-ℤ◌, ◌≤ℤ◌}
use Rattle.std.proofs.lemmas.Int.{ints}
use Rattle.wasm_tree.specs.declared.instr.Instr.{Instr}
use Rattle.wasm_tree.specs.declared.instr.Instr.TheVariants as instr
use Rattle.wasm_tree.specs.declared.store.Value.{Value}
use Rattle.wasm_tree.specs.declared.store.Value.TheVariants.{I32, I64}
use Rattle.law_effect.specs.Effect.{State as Target, Effect}
use Rattle.law_effect.proofs.Steps.{i64_runs, global_runs}
use Rattle.typed_tree.specs.declared.computed.Slot.{Slot}
use Rattle.typed_tree.specs.declared.types.TypeNo.{TypeNo}
use Rattle.typed_tree.specs.declared.shape.Scalar.{Scalar as Range}
use Rattle.typed_tree.specs.declared.known_types.Types.{Types}
use Rattle.typed_tree.specs.Known.{made_at}
use Rattle.layout_storage.specs.Types.{Ty, Scalar, Natural, Cell, Hidden, Array, row, component}
use Rattle.layout_storage.specs.Sizes.{offset, size}
use Rattle.layout_storage.specs.Shapes.{tree, elements_of}
use Rattle.layout_storage.specs.Texts.{argument_text}
use Rattle.def_meaning.specs.Store.{Location}
use Rattle.def_meaning.specs.Answer.{State as Source, Answer, Ended, StillRunning, ◌▷◌}
use Rattle.def_meaning.specs.Answer as answer
use Rattle.def_meaning.specs.Environment.{Passed, Number, Variable, Array as Whole, Text, slot_named, location_of, high_of}
use Rattle.def_meaning.specs.Expressions.{Gives}
use Rattle.law_memory.proofs.Procedures.{number_means}
use Rattle.law_memory.proofs.Worlds.{lies}
use Rattle.def_scheme.specs.Coded.{Coded, Counts, plain, ◌⨾◌, with_setting, raise_address, extend_word}
use Rattle.def_scheme.specs.Exprs as code
use Rattle.def_scheme.specs.Exprs.{open_address, high_code, text_code, top_code}
use Rattle.law_simulation.specs.Scene.{Scene, IsSet, IsSmall, IsCell, calls, runs, place, word, Stands, Into, GivesNumber, GivesPlace, Grows, HasLocals, inside, Agrees, Locates}
use Rattle.law_simulation.proofs.Parts.{into_then, grows_same, IsPlain}
use Rattle.law_simulation.proofs.Relations.{extended_runs}
use Rattle.law_simulation.proofs.Places.{raised_runs}
use Rattle.law_simulation.proofs.Components.{made_small}
use Rattle.law_simulation.specs.CallsLaws.{IsText}
use Rattle.law_simulation.specs.Frames.{Kinds, Open, kind_at, HasFrames}
use Rattle.law_simulation.specs.Passing.{Form, ByNumber, ByCopy, ByName, ByArray, IsPassed, GivesPassed, Passes}
use Rattle.law_simulation.proofs.CallsSlots.{array_here, open_locates, high_runs}

pub give_assoc : {A B C : Type 0} (a : Answer A) (f : A → Source → Answer B) (g : B → Source → Answer C)
    → ((a ▷ f) ▷ g) ≡ (a ▷ λ x s. f x s ▷ g)
give_assoc (answer.Value x s) f g = refl
give_assoc (Ended j out) f g = refl
give_assoc (StillRunning out) f g = refl

pub passes_alike : (k : Scene) (form : Form) (x : Coded) (f g : Gives Passed)
    → ((s : Source) → f k.around s ≡ g k.around s) → Passes k form x f → Passes k form x g
passes_alike k form x f g same h = record {
  grows = h.grows;
  gives = λ e c free full s st stands rest stack. subst
      (Into (GivesPassed k form (runs k rest) stack) (runs k ((x (inside k e) c).0 ++ rest) st stack)) (same s)
      (h.gives e c free full s st stands rest stack);
}

-- a number for a value formal
pub value_passes : (k : Scene) (t : TypeNo) (c : Scalar) (x : Coded) (value : Gives ℤ) → IsCell k.setting.home.types t c
    → Agrees k t x value → Passes k (ByNumber c) x (λ a s. value a s ▷ λ v s. answer.Value (Number v) s)
value_passes k t c x value cell ha = record {
  grows = ha.grows;
  gives = λ e counts free full s st h rest stack.
      into_then (GivesNumber k t (runs k rest) stack) (GivesPassed k (ByNumber c) (runs k rest) stack)
      (runs k ((x (inside k e) counts).0 ++ rest) st stack) (value k.around s) (λ v s. answer.Value (Number v) s)
      (ha.gives e counts free full s st h rest stack)
      (λ v s' p. record {
        st = p.st;
        stands = p.stands;
        values = I64 (word v) ∷ [];
        is =
            (cell.bounds v p.is, number_means k.program c v cell.number, refl);
        run = p.run;
      });
}

-- an address first
module _ (k : Scene) (form : Form) (t : Ty) (d after : Coded) (list : List Instr) (found : Gives Location)
    (next : Location → Passed) (hd : Locates k t d found) (plainly : IsPlain k after list)
    (go : (l : Location) → component (row k.world) l ≡ Some t → 0 < length l → (s : Source) (st : Target)
    → Stands k s st → (rest : List Instr) (stack : List Value)
    → GivesPassed k form (runs k rest) stack (next l) s (runs k (list ++ rest) st (stack ++ I32 (place k l) ∷ [])))
  where
    pub address_passes : Passes k form (d ⨾ after) (λ a s. found a s ▷ λ l s. answer.Value (next l) s)
    address_passes = record {
      grows = λ e c. subst (λ (p : List Instr × Counts). Grows c p.1) (sym (plainly e (d (inside k e) c).1))
          (hd.grows e c);
      gives = λ e c free full s st h rest stack.
          let first = d (inside k e) c in
          let on : Location → Source → Answer Passed = λ l s. answer.Value (next l) s in
          subst (λ (p : List Instr × Counts). Into (GivesPassed k form (runs k rest) stack)
          (runs k ((first.0 ++ p.0) ++ rest) st stack) (found k.around s ▷ on)) (sym (plainly e first.1))
          (subst (λ (code : List Instr). Into (GivesPassed k form (runs k rest) stack) (runs k code st stack)
          (found k.around s ▷ on)) (sym (append_assoc first.0 list rest))
          (into_then (GivesPlace k t (runs k (list ++ rest)) stack) (GivesPassed k form (runs k rest) stack)
          (runs k (first.0 ++ (list ++ rest)) st stack) (found k.around s) on
          (hd.gives e c free (subst (λ (p : List Instr × Counts). HasLocals k p.1) (plainly e first.1) full) s st h
          (list ++ rest) stack)
          (λ l s' p. subst (λ (r : Effect). GivesPassed k form (runs k rest) stack (next l) s' r) (sym p.run)
          (go l p.type p.some s' p.st p.stands rest stack))));
    }

module _ (k : Scene) (set : IsSet k) where
  place_goes : (form : Form) (t : Ty) → ((l : Location) → component (row k.world) l ≡ Some t → 0 < length l
      → IsPassed k.program k.world k.hidden form (Variable l) (I64 (place k l) ∷ []))
      → (l : Location) → component (row k.world) l ≡ Some t → 0 < length l → (s : Source) (st : Target) → Stands k s st
      → (rest : List Instr) (stack : List Value)
      → GivesPassed k form (runs k rest) stack (Variable l) s
      (runs k (extend_word ∷ rest) st (stack ++ I32 (place k l) ∷ []))
  place_goes form t is l type some s st h rest stack = record {
    st = st;
    stands = h;
    values = I64 (place k l) ∷ [];
    is = is l type some;
    run = extended_runs k set.helpers set.small (place k l) rest st stack;
  }

  -- a variable for a VAR formal
  pub name_passes : (t : Ty) (d : Coded) (found : Gives Location) → Locates k t d found
      → Passes k (ByName t) (d ⨾ plain (extend_word ∷ [])) (λ a s. found a s ▷ λ l s. answer.Value (Variable l) s)
  name_passes t d found hd = address_passes k (ByName t) t d (plain (extend_word ∷ [])) (extend_word ∷ []) found
      Variable hd (λ e c. refl) (place_goes (ByName t) t (λ l type some. (type, some, refl)))

  -- a whole array or record
  pub copy_passes : (t : Ty) (d : Coded) (found : Gives Location) → Locates k t d found
      → Passes k (ByCopy t) (d ⨾ plain (extend_word ∷ [])) (λ a s. found a s ▷ λ l s. answer.Value (Variable l) s)
  copy_passes t d found hd = address_passes k (ByCopy t) t d (plain (extend_word ∷ [])) (extend_word ∷ []) found
      Variable hd (λ e c. refl) (place_goes (ByCopy t) t (λ l type some. (type, some, refl)))

  two_pushed : (s : List Value) (a b : Value) → (s ++ a ∷ []) ++ b ∷ [] ≡ s ++ a ∷ b ∷ []
  two_pushed s a b = append_assoc s (a ∷ []) (b ∷ [])

  -- an array of a fixed length
  pub array_passes : (is_var : Bool) (t : TypeNo) (r : Range) (u : Ty) (d : Coded) (found : Gives Location)
      → code.index_of k.setting.home.types t ≡ Some r → (r.high -ℤ r.low) ≤ℤ pos 4294967295
      → tree k.setting.home.types t ≡ Array (elements_of (Some r)) u → Locates k (tree k.setting.home.types t) d found
      → Passes k (ByArray is_var u) (d ⨾ with_setting
      (λ s. plain (extend_word ∷ instr.I64Const (code.high_index s.home.types t) ∷ [])))
      (λ a s. found a s ▷ λ l s. answer.Value (Whole l (code.high_index k.setting.home.types t)) s)
  array_passes is_var t r u d found range narrow array hd =
      let types : Types = k.setting.home.types in
      let high : ℕ = code.high_index types t in
      let list : List Instr = extend_word ∷ instr.I64Const high ∷ [] in
      let sm : IsSmall r = made_small types set.small (made_at types t) r range in
      let high_is : high ≡ elements_of (Some r) - 1 = ap (λ (o : Option Range). elements_of o - 1) range in
      let count : elements_of (Some r) ≡ suc high = omega (arith, high_is) in
      let low = sm.low in let top = sm.high in let order = sm.some in
      let less : high < 2 ^ 32 = omega (arith, ints, high_is, low, top, order, narrow) in
      address_passes k (ByArray is_var u) (tree types t) d
      (with_setting (λ s. plain (extend_word ∷ instr.I64Const (code.high_index s.home.types t) ∷ []))) list found
      (λ l. Whole l high) hd (λ e c. refl)
      (λ l type some s st h rest stack. record {
        st = st;
        stands = h;
        values = I64 (place k l) ∷ I64 high ∷ [];
        is = (
          subst (λ (n : ℕ). component (row k.world) l ≡ Some (Array n u)) count (type ∙ ap Some array),
          some,
          less,
          refl,
        );
        run =
            extended_runs k set.helpers set.small (place k l) (instr.I64Const high ∷ rest) st stack
            ∙ i64_runs k.modules k.fixed k.turns (calls k) k.own rest st high (stack ++ I64 (place k l) ∷ [])
            ∙ ap (runs k rest st) (two_pushed stack (I64 (place k l)) (I64 high));
      })

  -- an open array
  pub open_passes : (is_var : Bool) (kss : List Kinds) → HasFrames k kss → (slot : Slot) (u : Ty)
      → kind_at kss slot ≡ Some (Open u)
      → Passes k (ByArray is_var u) (with_setting
      (λ s. plain (open_address s slot ++ (extend_word ∷ high_code s slot))))
      (λ a s. answer.Value (Whole (location_of (slot_named a slot)) (high_of (slot_named a slot))) s)
  open_passes is_var kss has slot u there = record {
    grows = λ e c. grows_same c;
    gives = λ e c free full s st h rest stack.
        let q = array_here k set kss has slot u there in
        let l : Location = location_of (slot_named k.around slot) in
        let high : ℕ = high_of (slot_named k.around slot) in
        let located = (open_locates k set kss has slot u there).gives e c free full s st h
        ((extend_word ∷ high_code (inside k e) slot) ++ rest) stack in
        record {
          st = located.st;
          stands = located.stands;
          values = I64 (place k l) ∷ I64 high ∷ [];
          is = (q.0, q.1, q.2, refl);
          run =
              ap (λ (code : List Instr). runs k code st stack)
              (append_assoc (open_address (inside k e) slot) (extend_word ∷ high_code (inside k e) slot) rest)
              ∙ located.run
              ∙ extended_runs k set.helpers set.small (place k l) (high_code (inside k e) slot ++ rest) located.st stack
              ∙ high_runs k set kss has slot u there e s located.st located.stands rest (stack ++ I64 (place k l) ∷ [])
              ∙ ap (runs k rest located.st) (two_pushed stack (I64 (place k l)) (I64 high));
        };
  }

  -- a string
  pub text_passes : (at : ℕ) (text : List ℕ) → IsText k at (argument_text text) → length (argument_text text) ≤ 2 ^ 32
      → Passes k (ByArray false (Cell (Natural 255)))
      (plain (text_code at ++ (extend_word ∷ instr.I64Const (length (argument_text text) - 1) ∷ [])))
      (λ a s. answer.Value (Text text) s)
  unfolding size
  text_passes at text is below = record {
    grows = λ e c. grows_same c;
    gives = λ e c free full s st h rest stack.
        let n : ℕ = length (argument_text text) - 1 in
        let a : ℕ = is.base + at in
        let there = lies k.program k.world k.hidden s.store st.bytes h.holds is.room (Hidden is.bytes) is.type in
        let same = is.is in
        let fits = is.fits in
        let long = h.long in
        let room = set.room in
        let less : a < 2 ^ 32 = omega (arith, there_fits st there, same, fits, long, room, some text) in
        record {
          st = st;
          stands = h;
          values = I64 a ∷ I64 n ∷ [];
          is = (
            refl,
            refl,
            a,
            record {
              room = is.room;
              bytes = is.bytes;
              at = at;
              type = is.type;
              is =
                  ap (λ (i : ℕ). i + at) same;
              fits = is.fits;
              same = is.same;
              small = is.small;
              below = below;
            },
            refl,
          );
          run =
              global_runs k.modules k.fixed k.turns (calls k) k.own
              (raise_address at ++ (extend_word ∷ instr.I64Const n ∷ rest)) st 2 (I32 is.base) stack
              (is.there st.bytes)
              ∙ raised_runs k set.helpers set.small set.room is.base at a (extend_word ∷ instr.I64Const n ∷ rest) st
              stack refl less
              ∙ extended_runs k set.helpers set.small a (instr.I64Const n ∷ rest) st stack
              ∙ i64_runs k.modules k.fixed k.turns (calls k) k.own rest st n (stack ++ I64 a ∷ [])
              ∙ ap (runs k rest st) (two_pushed stack (I64 a) (I64 n));
        };
  }
    where
      some : (text : List ℕ) → 1 ≤ length (argument_text text)
      some [] = omega arith
      some (c ∷ text) = omega arith

      there_fits : (st : Target) → offset (row k.world) is.room + size (Hidden is.bytes) ≤ length st.bytes
          → offset (row k.world) is.room + is.bytes ≤ length st.bytes
      there_fits st h = h
