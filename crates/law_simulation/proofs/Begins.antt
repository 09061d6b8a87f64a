-- A frame begins: its storage is taken and cleared, and the link to the frame around it is written.
use Rattle.std.proofs.Common.{◌≡◌, ◌⊎◌, inl, inr, ⊎_elim, ℕ, suc, ◌+◌, ◌^◌, ◌<◌, ◌≤◌, Bool, List, [], ◌∷◌, ◌++◌, length, Some, if◌then◌else◌, refl, sym, ap, subst, ◌∙◌, length-append, arith}
use Rattle.std.specs.Prelude.{get_or, slice_get, slice_set, nat_lt}
use Rattle.std.specs.Int.{w64, to_le_bytes}
use Rattle.std.proofs.lemmas.Bool.{le-ltb, lt-ltb, cases_lt}
use Rattle.wasm_tree.specs.declared.instr.Instr.{Instr}
use Rattle.wasm_tree.specs.declared.instr.Instr.TheVariants as instr
use Rattle.wasm_tree.specs.declared.instr.StoreWidth.TheVariants as width
use Rattle.wasm_tree.specs.declared.store.Value.{Value}
use Rattle.wasm_tree.specs.declared.store.Value.TheVariants.{I32, I64}
use Rattle.wasm_tree.specs.Machine.{paste_items}
use Rattle.law_effect.specs.Bytes.{cleared_bytes}
use Rattle.law_effect.proofs.Bytes.{cleared_length, length-pasted}
use Rattle.law_effect.specs.Effect.{State as Target, Effect, Ended}
use Rattle.law_effect.proofs.Steps.{i32_runs, get_runs, tee_runs, store_runs}
use Rattle.layout_storage.specs.Types.{Ty, Hidden, row, component, IsFit}
use Rattle.layout_storage.specs.Sizes.{size, offset}
use Rattle.def_meaning.specs.Store.{Location, Store, overlay, fresh}
use Rattle.def_meaning.specs.Environment.{Named, At, Elements, Frames}
use Rattle.law_memory.specs.Cells.{stored_in}
use Rattle.law_memory.specs.Relation.{Holds, Keeps}
use Rattle.layout_storage.specs.Sizes.{Four}
use Rattle.layout_storage.specs.Types.{Array}
use Rattle.law_memory.proofs.Places.{component_append, offset_append}
use Rattle.law_memory.proofs.Worlds.{lies, component_old, offset_old, component_new, in_world, row_size}
use Rattle.law_memory.proofs.Frames.{holds_hidden}
use Rattle.law_memory.proofs.Assigns.{begins_frame}
use Rattle.def_scheme.specs.Coded.{raise_address}
use Rattle.def_scheme.specs.Functions.{enter_code, limit_check}
use Rattle.law_simulation.specs.Scene.{Scene, IsSet, calls, runs}
use Rattle.law_simulation.proofs.Places.{raised_runs}
use Rattle.law_simulation.proofs.Locals.{get_set, get_other, length_set}
use Rattle.law_simulation.specs.Frames.{Kind, Kept, Alias, Open, Kinds, frame_kinds, IsNamed, AreNamed, IsLink, IsChain, chain_end, chain_more}
use Rattle.law_simulation.proofs.Copies.{fill_here}
use Rattle.law_simulation.specs.Stage.{HasLimit}
use Rattle.law_simulation.proofs.Rooms.{instance_at, place_more, eight_small}
use Rattle.law_simulation.proofs.Steps.{OnStage, limit_run}

whole : (t : Ty) → component t [] ≡ Some t
unfolding component
whole t = refl

-- where a function begins: the frame's address is the end of the instances that live
pub record Start (k : Scene) (top : ℕ) (given : List Value) (out : List ℕ) (world : List Ty) (x : Location → ℕ → ℕ)
    (s : Store) (st : Target) : Type 0 where
  pub holds : Holds k.program world x s st.bytes
  pub long : length st.bytes ≡ k.limit
  pub count : length st.locals ≡ k.locals
  pub at : slice_get st.locals 0 ≡ Some (I32 (size (row world)))
  pub kept : (i : ℕ) → 0 < i → i < top → slice_get st.locals i ≡ slice_get given i
  pub shown : st.out ≡ out

module _ (k : Scene) (set : IsSet k) (has : HasLimit k) (top : ℕ) (F : Ty) (given : List Value) (out : List ℕ)
    (first : 0 < top) (two : suc top < k.locals) (world : List Ty) (x : Location → ℕ → ℕ) (s : Store) (fit : IsFit F)
    (least : size F < 2 ^ 31) where
  abbrev T : ℕ
  T = size (row world)

  -- the frame is there, with fresh variables
  pub record FrameDone (rest : List Instr) (r : Effect) : Type 0 where
    pub st' : Target
    pub stage : OnStage k set has (length world) top F given out first two (world ++ F ∷ [])
        (overlay (length world ∷ []) (λ r k. 0) x) (overlay (length world ∷ []) (fresh F) s) st'
    pub run : r ≡ runs k rest st' []

  begin_path : (st : Target) → Start k top given out world x s st → (rest : List Instr)
      → runs k (enter_code top (size F) ++ rest) st []
      ≡ (if nat_lt k.limit (T + size F) then Ended 8 out else runs k
      (instr.LocalGet 0 ∷ instr.I32Const (size F) ∷ instr.Call 3 ∷ rest)
      (record st { locals = slice_set st.locals top (I32 (T + size F)) }) [])
  begin_path st g rest =
      let room = g.holds.room in let long = g.long in let small = has.small in let count = g.count in
      let after : List Instr = instr.LocalGet 0 ∷ instr.I32Const (size F) ∷ instr.Call 3 ∷ rest in
      get_runs k.modules k.fixed k.turns (calls k) k.own
      (raise_address (size F) ++ (instr.LocalTee top ∷ (limit_check ++ after))) st 0 (I32 T) [] g.at
      ∙ raised_runs k set.helpers set.small set.room T (size F) (T + size F)
      (instr.LocalTee top ∷ (limit_check ++ after)) st [] refl (omega (arith, room, long, small, least))
      ∙ tee_runs k.modules k.fixed k.turns (calls k) k.own (limit_check ++ after) st top (I32 (T + size F)) []
      (omega (arith, count, two))
      ∙ limit_run k set has (length world) top F given out first two (T + size F)
      (record st { locals = slice_set st.locals top (I32 (T + size F)) }) after [] g.shown

  pub begin_goes : (st : Target) → Start k top given out world x s st → (rest : List Instr)
      → FrameDone rest (runs k (enter_code top (size F) ++ rest) st [])
      ⊎ ((k.limit < T + size F) × (runs k (enter_code top (size F) ++ rest) st [] ≡ Ended 8 out))
  begin_goes st g rest =
      ⊎_elim
      (λ (over : k.limit < T + size F). inr (
        over,
        begin_path st g rest
            ∙ ap (λ (b : Bool). if b then Ended 8 out else runs k after st1 []) (lt-ltb k.limit (T + size F) over),
      ))
      (λ (room : T + size F ≤ k.limit).
      let long = g.long in let small = has.small in let count = g.count in
      let fits : T + size F ≤ length st.bytes = omega (arith, room, long) in
      let n0 : top ≡ 0 → ⊥ = λ e. omega (arith, e, first) in
      let st2 : Target = record st1 { bytes = cleared_bytes (size F) T st.bytes } in
      let grown = length-append world (F ∷ []) in
      inl (record {
        st' = st2;
        stage = record {
          holds = begins_frame k.program world x s st.bytes g.holds F fit fits;
          long = cleared_length (size F) T st.bytes fits ∙ g.long;
          own = component_new world F [] ∙ whole F;
          below = omega (arith, grown);
          count = length_set st.locals top (I32 (T + size F)) ∙ g.count;
          at = get_other st.locals top 0 (I32 (T + size F)) n0 ∙ g.at
              ∙ ap (λ (a : ℕ). Some (I32 a)) (sym (instance_at world F []));
          free = get_set st.locals top (I32 (T + size F)) (omega (arith, count, two))
              ∙ ap (λ (a : ℕ). Some (I32 a)) (sym (row_size world F));
          kept = λ i posi less. let ne : top ≡ i → ⊥ = λ e. omega (arith, e, less) in
              get_other st.locals top i (I32 (T + size F)) ne ∙ g.kept i posi less;
          shown = g.shown;
        };
        run =
            begin_path st g rest
            ∙ ap (λ (b : Bool). if b then Ended 8 out else runs k after st1 []) (le-ltb k.limit (T + size F) room)
            ∙ get_runs k.modules k.fixed k.turns (calls k) k.own (instr.I32Const (size F) ∷ instr.Call 3 ∷ rest) st1 0
            (I32 T) [] (get_other st.locals top 0 (I32 (T + size F)) n0 ∙ g.at)
            ∙ i32_runs k.modules k.fixed k.turns (calls k) k.own (instr.Call 3 ∷ rest) st1 (size F) (I32 T ∷ [])
            ∙ fill_here k set T (size F) st1 rest [] fits (omega (arith, long, small));
      }))
      (cases_lt k.limit (T + size F))
    where
      after : List Instr
      after = instr.LocalGet 0 ∷ instr.I32Const (size F) ∷ instr.Call 3 ∷ rest

      st1 : Target
      st1 = record st { locals = slice_set st.locals top (I32 (T + size F)) }

-- the link is stored at the frame's address
module _ (k : Scene) (set : IsSet k) (has : HasLimit k) (root top : ℕ) (ks : Kinds) (given : List Value) (out : List ℕ)
    (first : 0 < top) (two : suc top < k.locals) where
  pub link_step : (world : List Ty) (x : Location → ℕ → ℕ) (s : Store) (st : Target) (n : ℕ) (rest : List Instr)
      → 1 < top → slice_get given 1 ≡ Some (I64 n)
      → OnStage k set has root top (frame_kinds ks) given out first two world x s st
      → (m' : List ℕ) × OnStage k set has root top (frame_kinds ks) given out first two world
      (overlay (root ∷ 0 ∷ 0 ∷ []) (λ r k. get_or (to_le_bytes w64 n) k 0) x) s (record st { bytes = m' })
      × (runs k ((instr.LocalGet 0 ∷ instr.LocalGet 1 ∷ instr.Store width.Eight ∷ []) ++ rest) st []
      ≡ runs k rest (record st { bytes = m' }) [])
  unfolding component offset size
  link_step world x s st n rest less e g =
      let here : Location = root ∷ 0 ∷ 0 ∷ [] in
      let ys : List ℕ = to_le_bytes w64 n in
      let a : ℕ = offset (row world) (root ∷ []) in
      let type : component (row world) here ≡ Some (Hidden 8) =
      component_append (row world) (frame_kinds ks) (root ∷ []) (0 ∷ 0 ∷ []) g.own in
      let at = offset_append (row world) (frame_kinds ks) (root ∷ []) (0 ∷ 0 ∷ []) g.own in
      let same : offset (row world) here ≡ a = omega (arith, at) in
      let fits : offset (row world) here + 8 ≤ length st.bytes =
      lies k.program world x s st.bytes g.holds here (Hidden 8) type in
      let m' : List ℕ = paste_items st.bytes a ys in
      let eight : length ys ≡ 8 = refl in
      let room : a + length ys ≤ length st.bytes = omega (arith, fits, same, eight) in (
        m',
        record {
          holds = subst (λ (a : ℕ). Holds k.program world (overlay here (λ r k. get_or ys k 0) x) s
              (paste_items st.bytes a ys)) same (holds_hidden k.program world x s st.bytes g.holds here 8 ys type refl
              (λ j l. eight_small n j (omega (arith, l, eight))));
          long = length-pasted st.bytes a ys room ∙ g.long;
          own = g.own;
          below = g.below;
          count = g.count;
          at = g.at;
          free = g.free;
          kept = g.kept;
          shown = g.shown;
        },
        get_runs k.modules k.fixed k.turns (calls k) k.own (instr.LocalGet 1 ∷ instr.Store width.Eight ∷ rest) st 0
            (I32 a) [] g.at
            ∙ get_runs k.modules k.fixed k.turns (calls k) k.own (instr.Store width.Eight ∷ rest) st 1 (I64 n)
            (I32 a ∷ []) (g.kept 1 (omega arith) less ∙ e)
            ∙ store_runs k.modules k.fixed k.turns (calls k) k.own rest st width.Eight a n []
            (set.helpers.memory st.bytes) room,
      )

-- ---- frames that were there are there, also with more instances behind them

module _ (base more : List Ty) (x x' : Location → ℕ → ℕ)
    (older : (i : ℕ) (p : Location) (k : ℕ) → i < length base → x' (i ∷ p) k ≡ x (i ∷ p) k) where
  keeps_old : (i : ℕ) (p : Location) (ys zs : List ℕ) → ys ≡ zs → i < length base → Keeps x (i ∷ p) ys
      → Keeps x' (i ∷ p) zs
  keeps_old i p ys zs e less keeps = subst (λ (zs : List ℕ). Keeps x' (i ∷ p) zs) e
      (λ k l. older i p k less ∙ keeps k l)

  named_old : (root v : ℕ) → root < length base → (kind : Kind) (name : Named) → IsNamed base x root v kind name
      → IsNamed (base ++ more) x' root v kind name
  named_old root v less (Kept t) (At l) h = h
  named_old root v less (Kept t) (Elements l high) h = absurd h
  named_old root v less (Alias t) (At l) h =
      let p = place_more base more l t h.0 h.1 in (
        p.0,
        h.1,
        keeps_old root (suc v ∷ []) (stored_in Four (offset (row base) l))
            (stored_in Four (offset (row (base ++ more)) l)) (ap (λ (a : ℕ). stored_in Four a) (sym p.1)) less h.2,
      )
  named_old root v less (Alias t) (Elements l high) h = absurd h
  named_old root v less (Open t) (At l) h = absurd h
  named_old root v less (Open t) (Elements l high) h =
      let p = place_more base more l (Array (suc high) t) h.0 h.1 in (
        p.0,
        h.1,
        h.2,
        keeps_old root (suc v ∷ 0 ∷ []) (stored_in Four (offset (row base) l))
            (stored_in Four (offset (row (base ++ more)) l)) (ap (λ (a : ℕ). stored_in Four a) (sym p.1)) less h.3,
        keeps_old root (suc v ∷ 1 ∷ []) (stored_in Four high) (stored_in Four high) refl less h.4,
      )

  all_named_old : (root v : ℕ) → root < length base → (ks : Kinds) (ns : List Named) → AreNamed base x root v ks ns
      → AreNamed (base ++ more) x' root v ks ns
  all_named_old root v less [] [] h = tt
  all_named_old root v less [] (n ∷ ns) h = absurd h
  all_named_old root v less (kind ∷ ks) [] h = absurd h
  all_named_old root v less (kind ∷ ks) (n ∷ ns) h =
      (named_old root v less kind n h.0, all_named_old root (suc v) less ks ns h.1)

  -- the address of the first frame
  pub link_old : (root : ℕ) (kss : List Kinds) (nss : Frames) (roots : List ℕ) → IsChain base x kss nss roots
      → root < length base → IsLink base x root roots → IsLink (base ++ more) x' root roots
  link_old root kss nss [] chain less h = tt
  link_old root _ _ (r ∷ rs) (chain_more ks kss ns nss _ _ type names link chain) less h =
      keeps_old root (0 ∷ 0 ∷ []) (to_le_bytes w64 (offset (row base) (r ∷ [])))
      (to_le_bytes w64 (offset (row (base ++ more)) (r ∷ [])))
      (ap (λ (a : ℕ). to_le_bytes w64 a) (sym (offset_old base more r [] (frame_kinds ks) type))) less h

  pub chain_old : (kss : List Kinds) (nss : Frames) (roots : List ℕ) → IsChain base x kss nss roots
      → IsChain (base ++ more) x' kss nss roots
  chain_old _ _ _ chain_end = chain_end
  chain_old _ _ _ (chain_more ks kss ns nss root roots type names link chain) =
      let less = in_world base root [] (frame_kinds ks) type in
      chain_more ks kss ns nss root roots (component_old base more root [] (frame_kinds ks) type)
      (all_named_old root 0 less ks ns names) (link_old root kss nss roots chain less link)
      (chain_old kss nss roots chain)
