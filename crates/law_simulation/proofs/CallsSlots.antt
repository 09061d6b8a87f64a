-- Formals and variables of a procedure, and of those around it.
use Rattle.std.proofs.Common.{◌≡◌, ℕ, zero, suc, ◌+◌, ◌%◌, ◌^◌, ◌<◌, ℤ, pos, List, [], ◌∷◌, ◌++◌, map, length, Option, Some, None, refl, sym, ap, subst, ◌∙◌, append_assoc, arith}
use Rattle.std.specs.Prelude.{slice_get}
use Rattle.std.proofs.lemmas.Int.{ints}
use Rattle.wasm_tree.specs.declared.instr.Instr.{Instr}
use Rattle.wasm_tree.specs.declared.instr.Instr.TheVariants as instr
use Rattle.wasm_tree.specs.declared.instr.Load.TheVariants as load
use Rattle.wasm_tree.specs.declared.store.Value.{Value}
use Rattle.wasm_tree.specs.declared.store.Value.TheVariants.{I32, I64}
use Rattle.law_effect.specs.Effect.{State as Target, Effect}
use Rattle.law_effect.proofs.Steps.{get_runs, i64_runs, load_runs}
use Rattle.typed_tree.specs.declared.computed.Slot.{Slot}
use Rattle.typed_tree.specs.declared.types.TypeNo.{TypeNo}
use Rattle.typed_tree.specs.declared.shape.Scalar.{Scalar as Range}
use Rattle.typed_tree.specs.Types.{cardinal}
use Rattle.layout_storage.specs.Types.{Ty, Hidden, Array, row, component}
use Rattle.layout_storage.specs.Sizes.{Four, size, offset}
use Rattle.layout_storage.specs.Shapes.{tree, elements_of}
use Rattle.def_meaning.specs.Store.{Location}
use Rattle.def_meaning.specs.Answer.{State as Source, Answer, ◌▷◌}
use Rattle.def_meaning.specs.Answer as answer
use Rattle.def_meaning.specs.Environment.{Named, At, Elements, Frames, slot_named, or_empty, location_of, high_of}
use Rattle.def_meaning.specs.Expressions.{Gives, element}
use Rattle.law_memory.specs.Cells.{stored_in}
use Rattle.law_memory.specs.Relation.{Keeps}
use Rattle.law_memory.proofs.Places.{component_append, offset_append}
use Rattle.law_memory.proofs.Frames.{alias_parts, link_parts}
use Rattle.def_scheme.specs.Coded.{Coded, plain, ◌⨾◌, with_setting, wrap_word, raise_address, check}
use Rattle.def_scheme.specs.Cells.{load_scalar, word as word_cell}
use Rattle.def_scheme.specs.Exprs.{outwards, frame_code, frame_at, slot_path, slot_code, kept_address, open_address, high_code, open_element_code, scale_index}
use Rattle.law_simulation.specs.Scene.{Scene, IsSet, IsSmall, calls, runs, place, word, Stands, Into, GivesNumber, GivesPlace, inside, Agrees, Locates, Reaches}
use Rattle.law_simulation.proofs.Parts.{into_then, grows_same}
use Rattle.law_simulation.proofs.Relations.{wrapped_runs}
use Rattle.law_simulation.proofs.Places.{place_small, raised_runs}
use Rattle.law_simulation.proofs.Components.{located, element_gives}
use Rattle.law_simulation.specs.Frames.{Kind, Kept, Alias, Open, Kinds, kind_tree, frame_kinds, or_none, kind_at, IsNamed, AreNamed, IsChain, chain_end, chain_more, AreFrames, IsOwnFrame, HasFrames}

none_some : {A : Type 0} (x : A) → None ≡ Some x → ⊥
none_some x e = cc e

some_same : {A : Type 0} (x y : A) → Some x ≡ Some y → x ≡ y
some_same x y e = cc e

-- ---- what stands in a frame

row_component : (ks : Kinds) (i : ℕ) (kind : Kind) (p : Location) → slice_get ks i ≡ Some kind
    → component (row (map kind_tree ks)) (i ∷ p) ≡ component (kind_tree kind) p
unfolding component
row_component [] i kind p e = absurd (none_some kind e)
row_component (k ∷ ks) zero kind p e = ap (λ (k : Kind). component (kind_tree k) p) (some_same k kind e)
row_component (k ∷ ks) (suc i) kind p e = row_component ks i kind p e

pub frame_component : (ks : Kinds) (i : ℕ) (kind : Kind) (p : Location) → slice_get ks i ≡ Some kind
    → component (frame_kinds ks) (suc i ∷ p) ≡ component (kind_tree kind) p
unfolding component
frame_component ks i kind p e = row_component ks i kind p e

module _ (world : List Ty) (x : Location → ℕ → ℕ) where
  named_at : (root v : ℕ) (ks : Kinds) (ns : List Named) → AreNamed world x root v ks ns → (i : ℕ) (kind : Kind)
      → slice_get ks i ≡ Some kind → (name : Named) × (slice_get ns i ≡ Some name)
      × IsNamed world x root (v + i) kind name
  named_at root v [] ns h i kind e = absurd (none_some kind e)
  named_at root v (k ∷ ks) [] h i kind e = absurd h
  named_at root v (k ∷ ks) (n ∷ ns) h zero kind e = (
    n,
    refl,
    subst (λ (j : ℕ). IsNamed world x root j kind n) (omega arith)
        (subst (λ (kind : Kind). IsNamed world x root v kind n) (some_same k kind e) h.0),
  )
  named_at root v (k ∷ ks) (n ∷ ns) h (suc i) kind e =
      let p = named_at root (suc v) ks ns h.1 i kind e in
      (p.0, p.1, subst (λ (j : ℕ). IsNamed world x root j kind p.0) (omega arith) p.2)

  -- where a slot is
  pub record Found (frames : List Ty) (nss : Frames) (roots : List ℕ) (up number : ℕ) (kind : Kind) : Type 0 where
    pub root : ℕ
    pub kinds : Kinds
    pub at : slice_get roots up ≡ Some root
    pub type : component (row world) (root ∷ []) ≡ Some (frame_kinds kinds)
    pub frame : slice_get frames up ≡ Some (frame_kinds kinds)
    pub there : slice_get kinds number ≡ Some kind
    pub name : Named
    pub named : slice_get (or_empty (slice_get nss up)) number ≡ Some name
    pub is : IsNamed world x root number kind name

  pub found : (kss : List Kinds) (frames : List Ty) (nss : Frames) (roots : List ℕ) → IsChain world x kss nss roots
      → AreFrames kss frames → (up number : ℕ) (kind : Kind) → slice_get (or_none (slice_get kss up)) number ≡ Some kind
      → Found frames nss roots up number kind
  found _ frames _ _ chain_end known up number kind e = absurd (none_some kind e)
  found _ [] _ _ (chain_more ks kss ns nss root roots type names link chain) known up number kind e = absurd known
  found _ (t ∷ ts) _ _ (chain_more ks kss ns nss root roots type names link chain) known zero number kind e =
      let p = named_at root 0 ks ns names number kind e in
      record {
        root = root;
        kinds = ks;
        at = refl;
        type = type;
        frame = ap Some known.0;
        there = e;
        name = p.0;
        named =
            p.1;
        is = subst (λ (j : ℕ). IsNamed world x root j kind p.0) (omega arith) p.2;
      }
  found _ (t ∷ ts) _ _ (chain_more ks kss ns nss root roots type names link chain) known (suc up) number kind e =
      let p = found kss ts nss roots chain known.1 up number kind e in
      record {
        root = p.root;
        kinds = p.kinds;
        at = p.at;
        type = p.type;
        frame = p.frame;
        there = p.there;
        name =
            p.name;
        named = p.named;
        is = p.is;
      }

module _ (k : Scene) (set : IsSet k) where
  pub place_fits : (s : Source) (st : Target) → Stands k s st → (l : Location) (t : Ty)
      → component (row k.world) l ≡ Some t → place k l < 2 ^ 32
  place_fits s st h l t e = let p = place_small k set.helpers set.small set.room s st h l t e in omega (arith, p)

  -- ---- from frame to frame

  pub outwards_runs : (up : ℕ) (kss : List Kinds) (nss : Frames) (r to : ℕ) (roots : List ℕ)
      → IsChain k.world k.hidden kss nss (r ∷ roots) → slice_get (r ∷ roots) up ≡ Some to
      → (s : Source) (st : Target) → Stands k s st → (rest : List Instr) (stack : List Value)
      → runs k (outwards up ++ rest) st (stack ++ I32 (place k (r ∷ [])) ∷ [])
      ≡ runs k rest st (stack ++ I32 (place k (to ∷ [])) ∷ [])
  outwards_runs zero kss nss r to roots chain e s st h rest stack =
      ap (λ (i : ℕ). runs k rest st (stack ++ I32 (place k (i ∷ [])) ∷ [])) (some_same r to e)
  outwards_runs (suc up) _ _ _ to [] (chain_more ks kss ns nss r _ type names link chain) e s st h rest stack =
      absurd (none_some to e)
  outwards_runs (suc up) _ _ _ to (r' ∷ roots)
      (chain_more ks _ ns _ r _ type names link (chain_more ks' kss ns' nss _ _ type' names' link' chain)) e s st h rest
      stack =
      let n : ℕ = place k (r' ∷ []) in
      let small : n < 2 ^ 32 = place_fits s st h (r' ∷ []) (frame_kinds ks') type' in
      let p = link_parts k.program k.world k.hidden s.store st.bytes h.holds r (map kind_tree ks) n type link
      (omega (arith, small)) in
      let same : n % 2 ^ 32 ≡ n = omega (arith, small) in
      let below : List Instr = outwards up ++ rest in
      load_runs k.modules k.fixed k.turns (calls k) k.own (wrap_word ∷ below) st load.I64 (place k (r ∷ [])) p.0 stack
      (set.helpers.memory st.bytes) p.1
      ∙ ap (λ (i : ℕ). runs k (wrap_word ∷ below) st (stack ++ I64 i ∷ [])) p.2
      ∙ wrapped_runs k set.helpers set.small n below st stack
      ∙ ap (λ (i : ℕ). runs k below st (stack ++ I32 i ∷ [])) same
      ∙ outwards_runs up (ks' ∷ kss) (ns' ∷ nss) r' to roots
      (chain_more ks' kss ns' nss r' roots type' names' link' chain) e s st h rest stack

  module _ (kss : List Kinds) (has : HasFrames k kss) where
    pub frame_runs : (up to : ℕ) → slice_get has.roots up ≡ Some to → (s : Source) (st : Target) → Stands k s st
        → (rest : List Instr) (stack : List Value)
        → runs k (frame_code up ++ rest) st stack ≡ runs k rest st (stack ++ I32 (place k (to ∷ [])) ∷ [])
    frame_runs up to e s st h rest stack = by has.roots has.chain has.own e
      where
        by : (roots : List ℕ) → IsChain k.world k.hidden kss k.around.frames roots → IsOwnFrame k roots
            → slice_get roots up ≡ Some to → runs k (frame_code up ++ rest) st stack
            ≡ runs k rest st (stack ++ I32 (place k (to ∷ [])) ∷ [])
        by [] chain own e = absurd (none_some to e)
        by (r ∷ roots) chain own e =
            get_runs k.modules k.fixed k.turns (calls k) k.own (outwards up ++ rest) st 0 (I32 (place k (r ∷ []))) stack
            (h.kept 0 (I32 (place k (r ∷ []))) own)
            ∙ outwards_runs up kss k.around.frames r to roots chain e s st h rest stack

    module _ (slot : Slot) (kind : Kind) (there : kind_at kss slot ≡ Some kind) where
      pub here : Found k.world k.hidden k.setting.frames k.around.frames has.roots slot.up slot.number kind
      here = found k.world k.hidden kss k.setting.frames k.around.frames has.roots has.chain has.frames slot.up
          slot.number kind there

      -- the location of its cells in the frame
      abbrev pub cell : Location → Location
      cell p = here.root ∷ suc slot.number ∷ p

      pub cell_type : (p : Location) (u : Ty) → component (kind_tree kind) p ≡ Some u
          → component (row k.world) (cell p) ≡ Some u
      cell_type p u e = component_append (row k.world) (frame_kinds here.kinds) (here.root ∷ []) (suc slot.number ∷ p)
          here.type ∙ frame_component here.kinds slot.number kind p here.there ∙ e

      pub cell_runs : (p : Location) (u : Ty) → component (kind_tree kind) p ≡ Some u
          → (exit : ℕ) (s : Source) (st : Target) → Stands k s st → (rest : List Instr) (stack : List Value)
          → runs k (slot_code (inside k exit) slot p ++ rest) st stack
          ≡ runs k rest st (stack ++ I32 (place k (cell p)) ∷ [])
      cell_runs p u e exit s st h rest stack =
          let path : ℕ = slot_path k.setting slot p in
          let path_is : path ≡ offset (frame_kinds here.kinds) (suc slot.number ∷ p) =
          ap (λ (o : Option Ty). offset (frame_at o) (suc slot.number ∷ p)) here.frame in
          let joined : place k (here.root ∷ []) + path ≡ place k (cell p) =
          ap (λ (i : ℕ). place k (here.root ∷ []) + i) path_is
          ∙ sym (offset_append (row k.world) (frame_kinds here.kinds) (here.root ∷ []) (suc slot.number ∷ p)
          here.type) in
          ap (λ (code : List Instr). runs k code st stack) (append_assoc (frame_code slot.up) (raise_address path) rest)
          ∙ frame_runs slot.up here.root here.at s st h (raise_address path ++ rest) stack
          ∙ raised_runs k set.helpers set.small set.room (place k (here.root ∷ [])) path (place k (cell p)) rest st
          stack joined (place_fits s st h (cell p) u (cell_type p u e))

      -- a number of 32 bits that is kept in the frame
      pub word_runs : (p : Location) (n : ℕ) → component (kind_tree kind) p ≡ Some (Hidden 4)
          → Keeps k.hidden (cell p) (stored_in Four n) → n < 2 ^ 32
          → (exit : ℕ) (s : Source) (st : Target) → Stands k s st → (rest : List Instr) (stack : List Value)
          → runs k ((slot_code (inside k exit) slot p ++ load_scalar word_cell) ++ rest) st stack
          ≡ runs k rest st (stack ++ I64 n ∷ [])
      word_runs p n e keeps small exit s st h rest stack =
          let q = alias_parts k.program k.world k.hidden s.store st.bytes h.holds (cell p) n (cell_type p (Hidden 4) e)
          keeps small in
          ap (λ (code : List Instr). runs k code st stack)
          (append_assoc (slot_code (inside k exit) slot p) (load_scalar word_cell) rest)
          ∙ cell_runs p (Hidden 4) e exit s st h (load_scalar word_cell ++ rest) stack
          ∙ load_runs k.modules k.fixed k.turns (calls k) k.own rest st load.I64From32U (place k (cell p)) q.0 stack
          (set.helpers.memory st.bytes) q.1
          ∙ ap (λ (i : ℕ). runs k rest st (stack ++ I64 i ∷ [])) q.2

      pub address_runs : (p : Location) (n : ℕ) → component (kind_tree kind) p ≡ Some (Hidden 4)
          → Keeps k.hidden (cell p) (stored_in Four n) → n < 2 ^ 32
          → (exit : ℕ) (s : Source) (st : Target) → Stands k s st → (rest : List Instr) (stack : List Value)
          → runs k (kept_address (inside k exit) slot p ++ rest) st stack ≡ runs k rest st (stack ++ I32 n ∷ [])
      address_runs p n e keeps small exit s st h rest stack =
          let same : n % 2 ^ 32 ≡ n = omega (arith, small) in
          let code : List Instr = slot_code (inside k exit) slot p in
          ap (λ (c : List Instr). runs k c st stack) (split code (load_scalar word_cell) (wrap_word ∷ []) rest)
          ∙ word_runs p n e keeps small exit s st h (wrap_word ∷ rest) stack
          ∙ wrapped_runs k set.helpers set.small n rest st stack
          ∙ ap (λ (i : ℕ). runs k rest st (stack ++ I32 i ∷ [])) same
        where
          split : (a b c d : List Instr) → (a ++ (b ++ c)) ++ d ≡ (a ++ b) ++ (c ++ d)
          split a b c d = append_assoc a (b ++ c) d ∙ ap (λ (x : List Instr). a ++ x) (append_assoc b c d)
              ∙ sym (append_assoc a b (c ++ d))

-- ---- what the names stand for

module _ (world : List Ty) (x : Location → ℕ → ℕ) (root v : ℕ) (t : Ty) where
  kept_is : (name : Named) → IsNamed world x root v (Kept t) name → location_of (Some name) ≡ root ∷ suc v ∷ []
  kept_is (At l) e = e
  kept_is (Elements l high) e = absurd e

  abbrev pub IsAlias : Location → Type 0
  IsAlias l = (component (row world) l ≡ Some t) × (0 < length l)
      × Keeps x (root ∷ suc v ∷ []) (stored_in Four (offset (row world) l))

  alias_is : (name : Named) → IsNamed world x root v (Alias t) name → IsAlias (location_of (Some name))
  alias_is (At l) e = e
  alias_is (Elements l high) e = absurd e

  abbrev pub IsArray : Location → ℕ → Type 0
  IsArray l high =
      (component (row world) l ≡ Some (Array (suc high) t)) × (0 < length l) × (high < 2 ^ 32)
      × Keeps x (root ∷ suc v ∷ 0 ∷ []) (stored_in Four (offset (row world) l))
      × Keeps x (root ∷ suc v ∷ 1 ∷ []) (stored_in Four high)

  open_is : (name : Named) → IsNamed world x root v (Open t) name
      → IsArray (location_of (Some name)) (high_of (Some name))
  open_is (At l) e = absurd e
  open_is (Elements l high) e = e

module _ (k : Scene) (set : IsSet k) (kss : List Kinds) (has : HasFrames k kss) (slot : Slot) where
  abbrev name_here : Option Named
  name_here = slot_named k.around slot

  pub kept_locates : (t : Ty) → kind_at kss slot ≡ Some (Kept t)
      → Locates k t (with_setting (λ s. plain (slot_code s slot [])))
      (λ a s. answer.Value (location_of (slot_named a slot)) s)
  unfolding component
  kept_locates t there = record {
    grows = λ e c. grows_same c;
    gives = λ e c free full s st h rest stack.
        let f = here k set kss has slot (Kept t) there in
        let is : location_of name_here ≡ f.root ∷ suc slot.number ∷ [] = ap location_of f.named
        ∙ kept_is k.world k.hidden f.root slot.number t f.name f.is in
        subst (λ (l : Location). GivesPlace k t (runs k rest) stack l s
        (runs k (slot_code (inside k e) slot [] ++ rest) st stack)) (sym is)
        (record {
          st = st;
          stands = h;
          type = cell_type k set kss has slot (Kept t) there [] t refl;
          some = omega arith;
          run = cell_runs k set kss has slot (Kept t) there [] t refl e s st h rest stack;
        });
  }

  pub alias_here : (t : Ty) (there : kind_at kss slot ≡ Some (Alias t))
      → IsAlias k.world k.hidden (here k set kss has slot (Alias t) there).root slot.number t (location_of name_here)
  alias_here t there =
      let f = here k set kss has slot (Alias t) there in
      subst (λ (o : Option Named). IsAlias k.world k.hidden f.root slot.number t (location_of o)) (sym f.named)
      (alias_is k.world k.hidden f.root slot.number t f.name f.is)

  pub alias_locates : (t : Ty) → kind_at kss slot ≡ Some (Alias t)
      → Locates k t (with_setting (λ s. plain (kept_address s slot [])))
      (λ a s. answer.Value (location_of (slot_named a slot)) s)
  unfolding component
  alias_locates t there = record {
    grows = λ e c. grows_same c;
    gives = λ e c free full s st h rest stack.
        let q = alias_here t there in
        record {
          st = st;
          stands = h;
          type = q.0;
          some = q.1;
          run = address_runs k set kss has slot (Alias t) there [] (place k (location_of name_here)) refl q.2
              (place_fits k set s st h (location_of name_here) t q.0) e s st h rest stack;
        };
  }

  pub array_here : (t : Ty) (there : kind_at kss slot ≡ Some (Open t))
      → IsArray k.world k.hidden (here k set kss has slot (Open t) there).root slot.number t (location_of name_here)
      (high_of name_here)
  array_here t there =
      let f = here k set kss has slot (Open t) there in
      subst (λ (o : Option Named). IsArray k.world k.hidden f.root slot.number t (location_of o) (high_of o))
      (sym f.named) (open_is k.world k.hidden f.root slot.number t f.name f.is)

  -- the whole of an open array
  abbrev pub open_type : Ty → Ty
  open_type t = Array (suc (high_of name_here)) t

  pub open_locates : (t : Ty) → kind_at kss slot ≡ Some (Open t)
      → Locates k (open_type t) (with_setting (λ s. plain (open_address s slot)))
      (λ a s. answer.Value (location_of (slot_named a slot)) s)
  unfolding component
  open_locates t there = record {
    grows = λ e c. grows_same c;
    gives = λ e c free full s st h rest stack.
        let q = array_here t there in
        record {
          st = st;
          stands = h;
          type = q.0;
          some = q.1;
          run = address_runs k set kss has slot (Open t) there (0 ∷ []) (place k (location_of name_here)) refl q.3
              (place_fits k set s st h (location_of name_here) (open_type t) q.0) e s st h rest stack;
        };
  }

  -- its HIGH
  pub high_runs : (t : Ty) → kind_at kss slot ≡ Some (Open t) → (exit : ℕ) (s : Source) (st : Target) → Stands k s st
      → (rest : List Instr) (stack : List Value)
      → runs k (high_code (inside k exit) slot ++ rest) st stack
      ≡ runs k rest st (stack ++ I64 (high_of name_here) ∷ [])
  unfolding component
  high_runs t there exit s st h rest stack = let q = array_here t there in
      word_runs k set kss has slot (Open t) there (1 ∷ []) (high_of name_here) refl q.4 q.2 exit s st h rest stack

  pub high_small : (t : Ty) → kind_at kss slot ≡ Some (Open t) → high_of name_here < 2 ^ 32
  high_small t there = (array_here t there).2

  pub high_agrees : (t : Ty) → kind_at kss slot ≡ Some (Open t)
      → Agrees k cardinal (with_setting (λ s. plain (high_code s slot)))
      (λ a s. answer.Value (pos (high_of (slot_named a slot))) s)
  high_agrees t there = record {
    grows = λ e c. grows_same c;
    gives = λ e c free full s st h rest stack.
        let less = high_small t there in
        let n : ℕ = high_of name_here in
        let as_word : n ≡ word (pos n) = omega (arith, ints, less) in
        record {
          st = st;
          stands = h;
          is = (omega (arith, ints), omega (arith, ints, less));
          run = high_runs t there e s st h rest stack ∙ ap (λ (i : ℕ). runs k rest st (stack ++ I64 i ∷ [])) as_word;
        };
  }

  -- an element, where its index is at most HIGH
  abbrev range_here : Range
  range_here = record { low = pos 0; high = pos (high_of name_here); base = cardinal }

  pub open_reaches : (t i : TypeNo) → kind_at kss slot ≡ Some (Open (tree k.setting.home.types t))
      → (index : Coded) (value : Gives ℤ) → Agrees k i index value
      → Reaches k (open_type (tree k.setting.home.types t)) (tree k.setting.home.types t)
      (index ⨾ with_setting (λ s. plain (open_element_code s slot t)))
      (λ l a s. value a s ▷ λ v s. element l (pos 0) (pos (high_of (slot_named a slot))) v s)
  open_reaches t i there index value ha = record {
    grows = λ e c. ha.grows e c;
    gives = λ e c free full l type some s st h rest stack.
        let u : Ty = tree k.setting.home.types t in
        let high : ℕ = high_of name_here in
        let less = high_small u there in
        let first = index (inside k e) c in
        let list : List Instr = open_element_code (inside k e) slot t in
        let next : ℤ → Source → Answer Location = λ v s. element l (pos 0) (pos high) v s in
        let below : List Value = stack ++ I32 (place k l) ∷ [] in
        let after : List Instr = scale_index (size u) ++ rest in
        let checking : List Instr = instr.I64Const 3 ∷ instr.Call check ∷ after in
        let as_word : high ≡ word (pos high) = omega (arith, ints, less) in
        let sm : IsSmall range_here = record {
          low = omega (arith, ints);
          high = omega (arith, ints, less);
          some =
              omega (arith, ints);
        } in
        let many : suc high ≡ elements_of (Some range_here) = omega (arith, ints) in
        let array : component (row k.world) l ≡ Some (Array (elements_of (Some range_here)) u) =
        subst (λ (n : ℕ). component (row k.world) l ≡ Some (Array n u)) many type in
        let same : (v : ℤ) (s' : Source) (st' : Target) → Stands k s' st'
        → runs k (list ++ rest) st' (below ++ I64 (word v) ∷ [])
        ≡ runs k (located k set.helpers set.small set.room range_here (size u) ++ rest) st'
        (below ++ I64 (word v) ∷ []) = λ v s' st' h'.
        i64_runs k.modules k.fixed k.turns (calls k) k.own
        ((high_code (inside k e) slot ++ (instr.I64Const 3 ∷ instr.Call check ∷ scale_index (size u))) ++ rest) st'
        0 (below ++ I64 (word v) ∷ [])
        ∙ ap (λ (code : List Instr). runs k code st' ((below ++ I64 (word v) ∷ []) ++ I64 0 ∷ []))
        (append_assoc (high_code (inside k e) slot) (instr.I64Const 3 ∷ instr.Call check ∷ scale_index (size u))
        rest)
        ∙ high_runs u there e s' st' h' checking ((below ++ I64 (word v) ∷ []) ++ I64 0 ∷ [])
        ∙ ap (λ (i : ℕ). runs k checking st' (((below ++ I64 (word v) ∷ []) ++ I64 0 ∷ []) ++ I64 i ∷ [])) as_word
        ∙ sym (i64_runs k.modules k.fixed k.turns (calls k) k.own (instr.I64Const (word (pos high)) ∷ checking) st'
        (word (pos 0)) (below ++ I64 (word v) ∷ [])
        ∙ i64_runs k.modules k.fixed k.turns (calls k) k.own checking st' (word (pos high))
        ((below ++ I64 (word v) ∷ []) ++ I64 (word (pos 0)) ∷ [])) in
        subst (λ (code : List Instr). Into (GivesPlace k u (runs k rest) stack) (runs k code st below)
        (value k.around s ▷ next)) (sym (append_assoc first.0 list rest))
        (into_then (GivesNumber k i (runs k (list ++ rest)) below) (GivesPlace k u (runs k rest) stack)
        (runs k (first.0 ++ (list ++ rest)) st below) (value k.around s) next
        (ha.gives e c free full s st h (list ++ rest) below)
        (λ v s' p. subst (λ (r : Effect). Into (GivesPlace k u (runs k rest) stack) r (next v s'))
        (sym (p.run ∙ same v s' p.st p.stands))
        (element_gives k set.helpers set.small set.room i range_here u sm l array v p.is s' p.st p.stands rest stack)));
  }
