-- The bodies of modules run one after another.
use Rattle.std.proofs.Common.{◌≡◌, ⊎_elim, ℕ, zero, suc, ◌+◌, ◌-◌, ◌<◌, ℤ, false, List, [], ◌∷◌, ◌++◌, length, Some, refl, sym, ap, subst, ◌∙◌, append-nil, length-append, arith}
use Rattle.std.specs.Prelude.{replicate}
use Rattle.std.specs.List.{flat_map}
use Rattle.std.proofs.lemmas.Option.{none-some}
use Rattle.wasm_tree.specs.declared.instr.Instr.{Instr}
use Rattle.wasm_tree.specs.declared.store.Value.{Value}
use Rattle.wasm_tree.specs.declared.store.Value.TheVariants.{I32, I64}
use Rattle.wasm_tree.specs.Machine.{Typed, zeros}
use Rattle.law_effect.specs.Effect.{State as Target, Effect, FellThrough, Ended, or_traps, back_with, back}
use Rattle.law_effect.proofs.Steps.{split_end_at}
use Rattle.typed_tree.specs.declared.typed_module.TypedModule.{TypedModule}
use Rattle.layout_storage.specs.Types.{Ty, Scalar, Hidden, Cell, Field, row, component, IsFit}
use Rattle.layout_storage.specs.Sizes.{size, offset}
use Rattle.def_meaning.specs.Store.{Location, overlay, fresh}
use Rattle.def_meaning.specs.Answer.{State as Source, StillRunning}
use Rattle.def_meaning.specs.Outcome.{Outcome, Normal, Exited, Returned}
use Rattle.def_meaning.specs.Answer as answer
use Rattle.def_meaning.specs.Environment.{Modules, Environment}
use Rattle.def_meaning.specs.Expressions.{Asks}
use Rattle.def_meaning.specs.Runs.{body_environment, body_frame, storage}
use Rattle.law_memory.specs.Relation.{Says, Holds}
use Rattle.law_memory.proofs.Worlds.{row_size, call_ends, Where, Old, New, All, where_is, other_behind, placed_else}
use Rattle.def_scheme.specs.Coded.{Counts}
use Rattle.def_scheme.specs.Functions.{enter_code, from_text, locals_of}
use Rattle.law_simulation.specs.Begun.{body_does, calling}
use Rattle.law_simulation.specs.Scene.{Scene, HasHelpers, IsSet, runs, Stands, IsFree, HasLocals, Ends}
use Rattle.law_simulation.specs.Frames.{chain_end, HasFrames}
use Rattle.law_simulation.specs.Passing.{HasTop}
use Rattle.law_simulation.specs.Stage.{HasLimit}
use Rattle.law_simulation.proofs.Rooms.{older_placed}
use Rattle.law_simulation.proofs.Begins.{Start, FrameDone, begin_goes}
use Rattle.law_simulation.proofs.Routines.{kept_top, kept_none, kept_is, length_zeros}
use Rattle.law_simulation.specs.Knot.{core}
use Rattle.law_simulation.specs.Bodies.{Ground, IsBack, BodyEnds}
use Rattle.law_simulation.specs.Main.{body_row, coded_main, locals_main, main_scene, IsMain, MainDoes}
use Rattle.law_simulation.proofs.Knots.{one_more}

-- the frame of a body has no variables
no_cell : (r : List ℕ) (c : Scalar) → component body_row r ≡ Some (Cell c) → ⊥
unfolding component
no_cell = scalars
  where
    field_cell : (t u : Ty) (c : Scalar) → Some (Field t u) ≡ Some (Cell c) → ⊥
    field_cell t u c e = cc e

    hidden_cell : (n : ℕ) (c : Scalar) → Some (Hidden n) ≡ Some (Cell c) → ⊥
    hidden_cell n c e = cc e

    scalars : (r : List ℕ) (c : Scalar) → component body_row r ≡ Some (Cell c) → ⊥
    scalars [] c e = field_cell _ _ c e
    scalars (zero ∷ []) c e = field_cell _ _ c e
    scalars (zero ∷ zero ∷ []) c e = hidden_cell 8 c e
    scalars (zero ∷ zero ∷ i ∷ q) c e = none-some (Cell c) e
    scalars (zero ∷ suc zero ∷ []) c e = hidden_cell 8 c e
    scalars (zero ∷ suc zero ∷ i ∷ q) c e = none-some (Cell c) e
    scalars (zero ∷ suc (suc j) ∷ q) c e = none-some (Cell c) e
    scalars (suc i ∷ q) c e = none-some (Cell c) e

body_fit : IsFit body_row
body_fit = record { scalars = λ r c e. absurd (no_cell r c e) }

row_cell : (base : List Ty) (c : Scalar) → Some (row (base ++ body_row ∷ [])) ≡ Some (Cell c) → ⊥
row_cell [] c e = cc e
row_cell (u ∷ us) c e = cc e

-- so it leaves the store alone
holds_same : (program : Modules) (base : List Ty) (x : Location → ℕ → ℕ) (f s : Location → ℤ) (m : List ℕ)
    → Holds program (base ++ body_row ∷ []) x (overlay (length base ∷ []) f s) m
    → Holds program (base ++ body_row ∷ []) x s m
holds_same program base x f s m h = record {
  bytes = h.bytes;
  room = h.room;
  cells = λ r c e. by r c e (where_is base body_row (Cell c) r e);
  hidden = h.hidden;
}
  where
    by : (r : Location) (c : Scalar) (e : component (row (base ++ body_row ∷ [])) r ≡ Some (Cell c))
        → Where base body_row (Cell c) r → Says program c (0 + offset (row (base ++ body_row ∷ [])) r) (s r) m
    by (i ∷ q) c e (Old less there) = subst
        (λ (v : ℤ). Says program c (0 + offset (row (base ++ body_row ∷ [])) (i ∷ q)) v m)
        (placed_else (length base ∷ []) (i ∷ q) f s (other_behind (length base) i q less)) (h.cells (i ∷ q) c e)
    by (_ ∷ q) c e (New there) = absurd (no_cell q c there)
    by [] c e (All there) = absurd (row_cell base c there)

body_bytes : size body_row ≡ 16
unfolding size
body_bytes = refl

-- ---- one body

module _ (k : Scene) (p : Modules) (ask : Asks) (m : TypedModule) (place text : ℕ) (base : List Ty)
    (texts : Location → ℕ → ℕ) (left : ℕ) (t : Typed) (is : IsMain k p ask m place text base texts left t)
    (count : length base ≡ length p) (room : size (row base) + (left + body_frame) ≡ k.limit) where
  abbrev many : ℕ
  many = locals_main m text

  abbrev a : Environment
  a = body_environment p place m left

  abbrev K : Scene
  K = main_scene k m text base texts a

  helpers_here : HasHelpers K
  helpers_here = let has = is.helpers in record {
    memory = has.memory;
    put = has.put;
    stop = has.stop;
    check = has.check;
    check_index = has.check_index;
    check_there = has.check_there;
    quotient = has.quotient;
    quotient_index = has.quotient_index;
    quotient_there = has.quotient_there;
    remainder = has.remainder;
    remainder_index = has.remainder_index;
    remainder_there = has.remainder_there;
    copy = has.copy;
    copy_index = has.copy_index;
    copy_there = has.copy_there;
    fill = has.fill;
    fill_index = has.fill_index;
    fill_there = has.fill_there;
    levels = has.levels;
    serves = has.serves;
    many = has.many;
  }

  set_here : IsSet K
  set_here = let small = is.limit.small in
      record { helpers = helpers_here; types = refl; small = is.small; room = omega (arith, small) }

  limit_here : HasLimit K
  limit_here = record { there = is.limit.there; small = is.limit.small }

  posi : 0 < 1
  posi = omega arith

  two : 2 < many
  two = omega arith

  abbrev args : List Value
  args = I32 (size (row base)) ∷ []

  locals_many : length (args ++ flat_map zeros t.function.body.locals) ≡ many
  locals_many =
      let coded = coded_main m text in
      let same : length (flat_map zeros t.function.body.locals) ≡ length (flat_map zeros (locals_of coded.1)) =
      ap (λ ls. length (flat_map zeros ls)) is.locals in
      let one = length_zeros (2 + coded.1.addresses) (I32 0) in
      let other = length_zeros coded.1.numbers (I64 0) in
      let inner = length-append (replicate coded.1.numbers (I64 0)) [] in
      let both = length-append (replicate (2 + coded.1.addresses) (I32 0)) (replicate coded.1.numbers (I64 0) ++ []) in
      let all = length-append args (flat_map zeros t.function.body.locals) in
      omega (arith, all, same, both, one, other, inner)

  module _ (s : Source) (bytes : List ℕ) (holds : Holds k.program base texts s.store bytes)
      (long : length bytes ≡ k.limit) (locals below : List Value) where
    abbrev st0 : Target
    st0 = record { locals = args ++ flat_map zeros t.function.body.locals; bytes = bytes; out = s.out }

    starts : Start K 1 args s.out base texts s.store st0
    starts = record {
      holds = holds;
      long = long;
      count = locals_many;
      at = refl;
      kept = λ i less_0 less. absurd (omega (arith, less_0, less));
      shown = refl;
    }

    abbrev Back : Effect → Outcome → Type 0
    Back R o = BodyEnds (record { program = k.program; base = base; texts = texts; limit = k.limit }) locals below
        (back 0 locals below R) o

    again : (s' : Source) (st : Target) → Stands K s' st → Holds k.program base texts s'.store st.bytes
    again s' st h = call_ends k.program base (body_row ∷ []) texts K.hidden s'.store st.bytes
        (λ i q j less. older_placed (length base) [] (λ q j. 0) texts i q j less) h.holds

    came : (s' : Source) (st : Target) → Stands K s' st → (stack : List Value) (R : Effect)
        → R ≡ back_with 0 locals below st stack
        → IsBack (record { program = k.program; base = base; texts = texts; limit = k.limit }) locals below s' R
    came s' st h stack R e = record {
      bytes = st.bytes;
      held = record { holds = again s' st h; long = h.long };
      run =
          e
          ∙ ap (λ (vs : List Value). back_with 0 locals below st vs) (sym (append-nil stack))
          ∙ ap (λ o. or_traps st.out o (λ (q : List Value × List Value). FellThrough (record st { locals = locals })
          (below ++ q.1))) (split_end_at stack [] 0 refl)
          ∙ ap (λ (out : List ℕ). FellThrough (record { locals = locals; bytes = st.bytes; out = out }) (below ++ []))
          h.out
          ∙ ap (λ (vs : List Value). FellThrough (record { locals = locals; bytes = st.bytes; out = s'.out }) vs)
          (append-nil below);
    }

    ended : (o : Outcome) (R : Effect) → Ends K false 0 [] (λ st. runs K [] st []) R o → Back R o
    ended (answer.Value Normal s') R g = came s' g.st g.stands [] _ (ap (back 0 locals below) g.run)
    ended (answer.Value Exited s') R g = came s' g.st g.stands [] _ (ap (back 0 locals below) g.run)
    ended (answer.Value (Returned v) s') R g = came s' g.st g.stands.0 g.below _ (ap (back 0 locals below) g.run)
    ended (answer.Ended j out) R g = ap (back 0 locals below) g
    ended (StillRunning out) R g = ap (back 0 locals below) g

    frames_here : HasFrames K []
    frames_here = record { roots = []; chain = chain_end; frames = tt; own = tt }

    longer : length (base ++ body_row ∷ []) ≡ suc (length base)
    longer = length-append base (body_row ∷ []) ∙ plus_one (length base)
      where
        plus_one : (n : ℕ) → n + 1 ≡ suc n
        plus_one n = omega arith

    top_here : HasTop K base texts
    top_here = record {
      kept = kept_top (offset (row (base ++ body_row ∷ [])) (length base ∷ [])) (size (row (base ++ body_row ∷ []))) 1
          posi;
      next = ap suc (sym count) ∙ sym longer;
      left = (let e = row_size base body_row in omega (arith, e, room));
      based = record {
        more = body_row ∷ [];
        is = refl;
        same =
            λ i q j less. older_placed (length base) [] (λ q j. 0) texts i q j less;
      };
    }

    body_goes : Back (runs K t.function.body.code st0 []) (body_does p k.turns ask m.body a s)
    body_goes =
        let coded = coded_main m text in
        let rest : List Instr = coded.0 ++ [] in
        let bytes_16 = body_bytes in
        let path : runs K t.function.body.code st0 [] ≡ runs K (enter_code 1 (size body_row) ++ rest) st0 [] =
        ap (λ (c : List Instr). runs K c st0 []) is.code in
        ⊎_elim
        (λ (d : FrameDone K set_here limit_here 1 body_row args s.out posi two base texts s.store body_fit
        (omega (arith, bytes_16)) rest (runs K (enter_code 1 (size body_row) ++ rest) st0 [])).
        let stands : Stands K s d.st' = record {
          holds = holds_same k.program base K.hidden (fresh body_row) s.store d.st'.bytes d.stage.holds;
          long = d.stage.long;
          count = d.stage.count;
          kept = kept_is (offset (row (base ++ body_row ∷ [])) (length base ∷ [])) (size (row (base ++ body_row ∷ [])))
              1 d.st'.locals d.stage.at d.stage.free;
          out = d.stage.shown;
        } in
        let free_here : IsFree K (from_text text) = record {
          numbers = λ w h. kept_none (offset (row (base ++ body_row ∷ [])) (length base ∷ []))
              (size (row (base ++ body_row ∷ []))) 1 w (omega (arith, h));
          addresses = λ w h g. kept_none (offset (row (base ++ body_row ∷ [])) (length base ∷ []))
              (size (row (base ++ body_row ∷ []))) 1 w (omega (arith, h));
        } in
        let full : HasLocals K coded.1 = (let e = is.addresses in
        record { numbers = omega (arith, e); addresses = omega (arith, e) }) in
        let goes : Ends K false 0 [] (λ st. runs K [] st []) (runs K rest d.st' [])
        (body_does p k.turns ask m.body a s) =
        subst (λ (q : List Instr × Counts). HasLocals K q.1
        → Ends K false 0 [] (λ st. runs K [] st []) (runs K (q.0 ++ []) d.st' [])
        (body_does p k.turns ask m.body a s)) is.same
        (λ full'. (is.executes set_here frames_here top_here).goes 0 (from_text text) free_here full' s d.st' stands []
        []) full in
        subst (λ (R : Effect). Back R (body_does p k.turns ask m.body a s)) (sym (path ∙ d.run))
        (ended (body_does p k.turns ask m.body a s) (runs K rest d.st' []) goes))
        (λ (over : (k.limit < size (row base) + size body_row)
        × (runs K (enter_code 1 (size body_row) ++ rest) st0 [] ≡ Ended 8 s.out)). absurd
        (let o = over.0 in omega (arith, o, room)))
        (begin_goes K set_here limit_here 1 body_row args s.out posi two base texts s.store body_fit
        (omega (arith, bytes_16)) st0 starts rest)

-- ---- its function

pub main_does : MainDoes
main_does modules fx serves extra limit p pages base texts n own place text f m t count room ours bound is s bytes held
    locals below =
    let left : ℕ = storage p pages - body_frame in
    let g : Ground = record { program = p; base = base; texts = texts; limit = limit } in
    subst (λ (r : Effect). BodyEnds g locals below (back 0 locals below r)
    (body_does p n (calling p n n) m.body (body_environment p place m left) s))
    (sym (one_more modules fx serves extra n limit p base texts n own f t (I32 (size (row base)) ∷ []) bytes s.out ours
    bound))
    (body_goes (core modules fx serves extra n limit p base texts own place m n) p (calling p n n) m place text base
    texts left t is count room s bytes held.holds held.long locals below)
