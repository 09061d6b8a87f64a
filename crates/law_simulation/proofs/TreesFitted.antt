-- Scenes in which more is kept, or inside of a WITH, fit as well.
use Rattle.std.proofs.Common.{◌≡◌, ℕ, zero, suc, ◌+◌, ◌<◌, Bool, List, [], ◌∷◌, ◌++◌, length, Option, Some, None, if◌then◌else◌, refl, sym, ap, subst, ◌∙◌, ⊎_elim, length-append, arith}
use Rattle.std.specs.Prelude.{nat_eq, slice_get}
use Rattle.std.proofs.lemmas.Bool.{cases_eq, eq-eqb, ne_eqb}
use Rattle.wasm_tree.specs.declared.instr.Instr.{Instr}
use Rattle.wasm_tree.specs.declared.store.Value.{Value}
use Rattle.wasm_tree.specs.declared.store.Value.TheVariants.{I32}
use Rattle.typed_tree.specs.declared.types.TypeNo.{TypeNo}
use Rattle.layout_storage.specs.Types.{Ty, Heading, row, component}
use Rattle.layout_storage.specs.Sizes.{size}
use Rattle.def_meaning.specs.Store.{Location}
use Rattle.def_meaning.specs.Environment.{Callee}
use Rattle.def_meaning.specs.Expressions.{Asks}
use Rattle.def_scheme.specs.Coded.{top_local}
use Rattle.law_simulation.specs.Scene.{Scene, IsWith, place, keeping, opening}
use Rattle.law_simulation.proofs.Locals.{helpers_beside}
use Rattle.law_simulation.specs.Frames.{IsOwnFrame}
use Rattle.law_simulation.specs.Held.{HasCallee}
use Rattle.law_simulation.specs.TreesTyped.{Context}
use Rattle.law_simulation.specs.Fitting.{IsCalled, Fits}

none_some : {A : Type 0} (v : A) → None ≡ Some v → ⊥
none_some v e = cc e

-- what was kept is kept
pub still_kept : (kept : ℕ → Option Value) (n : ℕ) (v : Value) → kept n ≡ None → (w : ℕ) (u : Value) → kept w ≡ Some u
    → (if nat_eq w n then Some v else kept w) ≡ Some u
still_kept kept n v new w u e =
    ⊎_elim
    (λ (same : w ≡ n). absurd (none_some u (sym new ∙ ap kept (sym same) ∙ e)))
    (λ (other : w ≡ n → ⊥). ap (λ (b : Bool). if b then Some v else kept w) (ne_eqb w n other) ∙ e)
    (cases_eq w n)

-- and so is what is new
pub new_kept : (kept : ℕ → Option Value) (n : ℕ) (v : Value) → (if nat_eq n n then Some v else kept n) ≡ Some v
new_kept kept n v = ap (λ (b : Bool). if b then Some v else kept n) (eq-eqb n n refl)

module _ (x : Context) (ask : Asks) (ws : List Ty) (k : Scene) (n : ℕ) (v : Value) (new : k.kept n ≡ None)
    (h : Fits x ask ws k) where
  own_kept : (roots : List ℕ) → IsOwnFrame k roots → IsOwnFrame (keeping k n v) roots
  own_kept [] o = tt
  own_kept (r ∷ rs) o = still_kept k.kept n v new 0 (I32 (place k (r ∷ []))) o

  called_kept : (c : Callee) (kinds : _) (heading : TypeNo) (code : List Instr) (links : ℕ)
      → IsCalled x ask k c kinds heading code links → IsCalled x ask (keeping k n v) c kinds heading code links
  called_kept c kinds heading code links g =
      record {
        own = g.own;
        function = g.function;
        typed = g.typed;
        does = g.does;
        is_call = g.is_call;
        count =
            g.count;
      }

  callee_kept : (heading : Heading) (i : ℕ) → HasCallee k ask x.base x.texts heading i
      → HasCallee (keeping k n v) ask x.base x.texts heading i
  callee_kept heading i g = record {
    some = g.some;
    small = g.small;
    callee = g.callee;
    is = g.is;
    outermost =
        g.outermost;
    own = g.own;
    function = g.function;
    typed = g.typed;
    filled = g.filled;
    there = g.there;
    type =
        g.type;
    does = g.does;
  }

  pub fits_keeping : Fits x ask ws (keeping k n v)
  fits_keeping = record {
    set = record {
      helpers = helpers_beside k n v h.set.helpers;
      types = h.set.types;
      small = h.set.small;
      room =
          h.set.room;
    };
    home = h.home;
    program = h.program;
    place = h.place;
    frames = record {
      roots = h.frames.roots;
      chain = h.frames.chain;
      frames = h.frames.frames;
      own =
          own_kept h.frames.roots h.frames.own;
    };
    top = record {
      kept = still_kept k.kept n v new (top_local k.setting) (I32 _) h.top.kept;
      next = h.top.next;
      left =
          h.top.left;
      based = h.top.based;
    };
    withs = λ j t e. let q = h.withs j t e in (
      q.0,
      record {
        local = q.1.local;
        there = q.1.there;
        kept =
            still_kept k.kept n v new q.1.local (I32 _) q.1.kept;
        is = q.1.is;
        type = q.1.type;
        some = q.1.some;
      },
    );
    count = h.count;
    globals = λ u t is. let q = h.globals u t is in
        record { base = q.base; there = q.there; type = q.type; at = q.at; some = q.some };
    slots = λ f known. let q = h.slots f known in record { slot = q.slot; there = q.there; is = q.is; small = q.small };
    texts = λ at text has. let q = h.texts at text has in
        record {
          base = q.base;
          there = q.there;
          room = q.room;
          bytes = q.bytes;
          type = q.type;
          is = q.is;
          fits =
              q.fits;
          same = q.same;
          small = q.small;
        };
    modules = λ f known. let q = h.modules f known in (q.0, q.1, q.2, called_kept q.0 _ _ _ _ q.3);
    nested = λ f less. let q = h.nested f less in (q.0, q.1, q.2, called_kept q.0 _ _ _ _ q.3);
    callees = λ heading i is. callee_kept heading i (h.callees heading i is);
    signed = h.signed;
  }

-- ---- inside of a WITH

get_last : {A : Type 0} (xs : List A) (a : A) → slice_get (xs ++ a ∷ []) (length xs) ≡ Some a
get_last [] a = refl
get_last (y ∷ xs) a = get_last xs a

get_old : {A : Type 0} (xs : List A) (a b : A) (j : ℕ) → slice_get xs j ≡ Some b → slice_get (xs ++ a ∷ []) j ≡ Some b
get_old [] a b j e = absurd (none_some b e)
get_old (y ∷ xs) a b zero e = e
get_old (y ∷ xs) a b (suc j) e = get_old xs a b j e

same_one : {A : Type 0} (a b : A) → Some a ≡ Some b → a ≡ b
same_one a b e = cc e

module _ (x : Context) (ask : Asks) (ws : List Ty) (k : Scene) (w : ℕ) (l : Location) (t : Ty) (new : k.kept w ≡ None)
    (type : component (row k.world) l ≡ Some t) (some : 0 < length l) (h : Fits x ask ws k) where
  abbrev address : Value
  address = I32 (place k l)

  own_opened : (roots : List ℕ) → IsOwnFrame k roots → IsOwnFrame (opening k w l) roots
  own_opened [] o = tt
  own_opened (r ∷ rs) o = still_kept k.kept w address new 0 (I32 (place k (r ∷ []))) o

  called_opened : (c : Callee) (kinds : _) (heading : TypeNo) (code : List Instr) (links : ℕ)
      → IsCalled x ask k c kinds heading code links → IsCalled x ask (opening k w l) c kinds heading code links
  called_opened c kinds heading code links g =
      record {
        own = g.own;
        function = g.function;
        typed = g.typed;
        does = g.does;
        is_call = g.is_call;
        count =
            g.count;
      }

  callee_opened : (heading : Heading) (i : ℕ) → HasCallee k ask x.base x.texts heading i
      → HasCallee (opening k w l) ask x.base x.texts heading i
  callee_opened heading i g = record {
    some = g.some;
    small = g.small;
    callee = g.callee;
    is = g.is;
    outermost =
        g.outermost;
    own = g.own;
    function = g.function;
    typed = g.typed;
    filled = g.filled;
    there = g.there;
    type =
        g.type;
    does = g.does;
  }

  abbrev Found : ℕ → Ty → Type 0
  Found j u = (m : Location) × IsWith (opening k w l) j m u

  found_last : Found (length ws) t
  found_last = (
    l,
    record {
      local = w;
      there = ap (λ (n : ℕ). slice_get (k.setting.withs ++ w ∷ []) n) (sym h.count.0) ∙ get_last k.setting.withs w;
      kept = new_kept k.kept w address;
      is = ap (λ (n : ℕ). slice_get (k.around.withs ++ l ∷ []) n) (sym h.count.1) ∙ get_last k.around.withs l;
      type = type;
      some = some;
    },
  )

  found_old : (j : ℕ) (u : Ty) → slice_get ws j ≡ Some u → Found j u
  found_old j u e =
      let q = h.withs j u e in (
        q.0,
        record {
          local = q.1.local;
          there = get_old k.setting.withs w q.1.local j q.1.there;
          kept = still_kept k.kept w address new q.1.local (I32 (place k q.0)) q.1.kept;
          is = get_old k.around.withs l q.0 j q.1.is;
          type = q.1.type;
          some = q.1.some;
        },
      )

  found_in : (us : List Ty) (i : ℕ) (j : ℕ) (u : Ty) → ((j : ℕ) (u : Ty) → slice_get us j ≡ Some u → Found (i + j) u)
      → Found (i + length us) t → slice_get (us ++ t ∷ []) j ≡ Some u → Found (i + j) u
  found_in [] i zero u old last e = subst (λ (u : Ty). Found (i + 0) u) (same_one t u e) last
  found_in [] i (suc j) u old last e = absurd (none_some u e)
  found_in (y ∷ us) i zero u old last e = old 0 u e
  found_in (y ∷ us) i (suc j) u old last e =
      subst (λ (n : ℕ). Found n u) (one_on i j)
      (found_in us (suc i) j u (λ j u e. subst (λ (n : ℕ). Found n u) (sym (one_on i j)) (old (suc j) u e))
      (subst (λ (n : ℕ). Found n t) (sym (one_on i (length us))) last) e)
    where
      one_on : (i j : ℕ) → suc i + j ≡ i + suc j
      one_on i j = omega arith

  plus_none : (j : ℕ) → 0 + j ≡ j
  plus_none j = omega arith

  pub fits_opening : Fits x ask (ws ++ t ∷ []) (opening k w l)
  fits_opening = record {
    set = record {
      helpers = let g = helpers_beside k w address h.set.helpers in record {
        memory = g.memory;
        put = g.put;
        stop = g.stop;
        check = g.check;
        check_index = g.check_index;
        check_there = g.check_there;
        quotient = g.quotient;
        quotient_index = g.quotient_index;
        quotient_there = g.quotient_there;
        remainder = g.remainder;
        remainder_index = g.remainder_index;
        remainder_there = g.remainder_there;
        copy = g.copy;
        copy_index = g.copy_index;
        copy_there = g.copy_there;
        fill = g.fill;
        fill_index = g.fill_index;
        fill_there = g.fill_there;
        levels = g.levels;
        serves = g.serves;
        many = g.many;
      };
      types = h.set.types;
      small = h.set.small;
      room = h.set.room;
    };
    home = h.home;
    program = h.program;
    place = h.place;
    frames = record {
      roots = h.frames.roots;
      chain = h.frames.chain;
      frames = h.frames.frames;
      own =
          own_opened h.frames.roots h.frames.own;
    };
    top = record {
      kept = still_kept k.kept w address new (top_local k.setting) (I32 (size (row k.world))) h.top.kept;
      next = h.top.next;
      left = h.top.left;
      based = h.top.based;
    };
    withs = λ j u e. subst (λ (n : ℕ). Found n u) (plus_none j)
        (found_in ws 0 j u (λ j u e. subst (λ (n : ℕ). Found n u) (sym (plus_none j)) (found_old j u e))
        (subst (λ (n : ℕ). Found n t) (sym (plus_none (length ws))) found_last) e);
    count = (
      length-append k.setting.withs (w ∷ []) ∙ ap (λ (n : ℕ). n + 1) h.count.0
          ∙ sym (length-append ws (t ∷ [])),
      length-append k.around.withs (l ∷ []) ∙ ap (λ (n : ℕ). n + 1) h.count.1
          ∙ sym (length-append ws (t ∷ [])),
    );
    globals = λ u t' is. let q = h.globals u t' is in
        record { base = q.base; there = q.there; type = q.type; at = q.at; some = q.some };
    slots = λ f known. let q = h.slots f known in record { slot = q.slot; there = q.there; is = q.is; small = q.small };
    texts = λ at text has. let q = h.texts at text has in
        record {
          base = q.base;
          there = q.there;
          room = q.room;
          bytes = q.bytes;
          type = q.type;
          is = q.is;
          fits =
              q.fits;
          same = q.same;
          small = q.small;
        };
    modules = λ f known. let q = h.modules f known in (q.0, q.1, q.2, called_opened q.0 _ _ _ _ q.3);
    nested = λ f less. let q = h.nested f less in (q.0, q.1, q.2, called_opened q.0 _ _ _ _ q.3);
    callees = λ heading i is. callee_opened heading i (h.callees heading i is);
    signed = h.signed;
  }
