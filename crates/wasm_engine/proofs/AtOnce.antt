-- Calls of known functions: what is there, and where one leads.
use Rattle.std.proofs.Math.Logic.{∥∥₁_map, ∥∥₁_elim}
use Rattle.std.proofs.Common.{◌≡◌, ℕ, ◌+◌, List, [], ◌∷◌, ◌++◌, append_assoc, map, length, Bool, true, false, Some, refl, sym, ap, ap₂, ◌∙◌, subst, arith, zero, suc}
use Rattle.std.specs.Prelude.{slice_index_or, Result, Ok, Err, IfOk}
use Rattle.std.proofs.lemmas.Grind.{merely}
use Rattle.std.proofs.lemmas.List.{append-nil, map-set}
use Rattle.std.proofs.lemmas.Option.{none-some, same_Some}
use Rattle.std.proofs.Common.{⊎_elim, Option, None, ◌*◌, ◌<◌, ◌≤◌, ◌^◌}
use Rattle.std.specs.Prelude.{max, slice_get, slice_set}
use Rattle.std.specs.Option.{option_and_then, option_map}
use Rattle.wasm_tree.specs.declared.store.Callee.{Callee}
use Rattle.wasm_tree.specs.declared.store.Callee.TheVariants.{Own, Put, Stop}
use Rattle.wasm_tree.specs.declared.store.Instance.{Instance}
use Rattle.law_effect.specs.Bytes.{byte, cleared_bytes, copied_bytes}
use Rattle.law_effect.proofs.Ways.{split_last-push}
use Rattle.wasm_sound.proofs.Calls.{then_some}
use Rattle.wasm_known.proofs.Copy.{copy_returns}
use Rattle.wasm_known.proofs.Fill.{fill_returns}
use Rattle.wasm_machine.specs.There.{IsThere}
use Rattle.wasm_machine.proofs.Ready.{there_by}
use Rattle.wasm_tree.specs.declared.kinds.ValueType.{ValueType}
use Rattle.wasm_tree.specs.declared.kinds.ValueType.TheVariants as types
use Rattle.wasm_tree.specs.declared.instr.Instr.{Instr}
use Rattle.wasm_tree.specs.declared.instr.Instr.TheVariants as instr
use Rattle.wasm_tree.specs.declared.module.WModule.{WModule}
use Rattle.wasm_tree.specs.declared.store.Value.{Value}
use Rattle.wasm_tree.specs.declared.store.Value.TheVariants.{I32, I64}
use Rattle.wasm_tree.specs.declared.store.Store.{Store}
use Rattle.wasm_tree.specs.declared.store.Memory.{Memory}
use Rattle.wasm_machine.specs.declared.frame.Machine.{Machine}
use Rattle.wasm_machine.specs.declared.frame.Reduced.{Reduced}
use Rattle.wasm_machine.specs.Going.{activation, callers_of, going, progress, memory_from, store_of}
use Rattle.wasm_machine.specs.declared.frame.Pages.{Pages}
use Rattle.wasm_tree.specs.Linking.{type_of}
use Rattle.wasm_tree.specs.declared.code.Op.{Op}
use Rattle.wasm_tree.specs.declared.code.Op.TheVariants as op
use Rattle.wasm_tree.specs.Code.{tree}
use Rattle.wasm_tree.proofs.Flat.{tree_front}
use Rattle.wasm_tree.specs.Machine.{Activation, Config, Going, Progress, Typed, top_i32, top_i64, callee_at, instance_of, memory_of, reduce, run}
use Rattle.wasm_sound.specs.Ready.{IsI32, IsI64, AreI32, AreI64}
use Rattle.law_effect.proofs.Steps.{top_32, top_64}
use Rattle.wasm_helpers.specs.Codes.{check_typed, copy_typed, div_typed, fill_typed, mod_typed}
use Rattle.wasm_known.specs.Known.{with, bounds_before, Leads}
use Rattle.wasm_known.specs.declared.table.KnownFunction.{KnownFunction}
use Rattle.wasm_known.specs.declared.table.KnownFunction.TheVariants as kind
use Rattle.wasm_known.specs.Table.{Stands, Means, IsRight, known_in}
use Rattle.wasm_known.proofs.Arguments.{arguments}
use Rattle.wasm_known.proofs.Sets.{to_progress}
use Rattle.wasm_known.proofs.Right.{right_after}
use Rattle.wasm_known.proofs.Computed.{computed}
use Rattle.wasm_known.proofs.Check.{check_returns, bounds_return}
use Rattle.wasm_known.proofs.Divide.{div_returns, mod_returns}
use Rattle.wasm_machine.specs.Well.{IsWell}
use Rattle.wasm_engine.specs.Quick.{Holds, Goes, IsBetween, HasArguments, HasFour, HasThree, Calculated, Checked, reductions, IsQuotient, IsRemainder, Calls, Reaches, Replaced, Changed, memory_place}
use Rattle.wasm_engine.proofs.WellKept.{ran}
use Rattle.wasm_engine.proofs.Runs.{run-plus, run-zero, followed}
use Rattle.wasm_engine.proofs.Taken.{IsLast, last_or_none, top_is, popped}

-- ---- runs

pub none_made : (modules : List WModule) (c : Config) → Goes modules 0 c c
none_made modules c = sym (run-zero modules c)

-- nothing was made, and all is as it was
pub none_by : (modules : List WModule) (old new : Config) → new ≡ old → Goes modules 0 old new
none_by modules old new e = ap (λ (c : Config). (c, [])) e ∙ none_made modules old

pub run_one : (modules : List WModule) (c : Config) → run modules 1 c ≡ reduce modules c
unfolding run
run_one modules c = ap (λ (bytes : List ℕ). ((reduce modules c).0, bytes)) (append-nil (reduce modules c).1)

-- so many reductions more where nothing was printed before
pub after_some : (modules : List WModule) (k n : ℕ) (c next : Config) → run modules k c ≡ (next, [])
    → run modules (k + n) c ≡ run modules n next
after_some modules k n c next e = run-plus modules k n c ∙ ap (λ (p : Progress). followed modules n p) e

holds_ran : (modules : List WModule) (table : List (List KnownFunction)) (n : ℕ) (c : Config) → Holds modules table c
    → Holds modules table (run modules n c).0
holds_ran modules table n c h = record { well = ran modules n c h.well; right = right_after modules table n c h.right }

pub holds_after : (modules : List WModule) (table : List (List KnownFunction)) (n : ℕ) (c next : Config)
    → ∥ Holds modules table c ∥₁ → next ≡ (run modules n c).0 → ∥ Holds modules table next ∥₁
holds_after modules table n c next h e =
    ∥∥₁_map h (λ w. subst (Holds modules table) (sym e) (holds_ran modules table n c w))

pub well_of : (modules : List WModule) (table : List (List KnownFunction)) (c : Config) → ∥ Holds modules table c ∥₁
    → ∥ IsWell modules c ∥₁
well_of modules table c h = ∥∥₁_map h (λ a. a.well)

-- where nothing was made
pub holds_still : (modules : List WModule) (table : List (List KnownFunction)) (old new : Config) (n : ℕ)
    → ∥ Holds modules table old ∥₁ → Goes modules n old new → ∥ Holds modules table new ∥₁
holds_still modules table old new n h g = holds_after modules table n old new h (ap (λ (p : Progress). p.0) g)

-- ---- code

pub call_front : (code rest : List Op) (o : Op) (g : ℕ) → code ≡ o ∷ rest → o ≡ op.Call g
    → tree code ≡ instr.Call g ∷ tree rest
call_front code rest o g e f = ap tree (e ∙ ap (λ (o : Op). o ∷ rest) f) ∙ tree_front (op.Call g) rest

pub constant_front : (code rest : List Op) (o : Op) (n : ℕ) → code ≡ o ∷ rest → o ≡ op.I64Const n
    → tree code ≡ instr.I64Const n ∷ tree rest
constant_front code rest o n e f = ap tree (e ∙ ap (λ (o : Op). o ∷ rest) f) ∙ tree_front (op.I64Const n) rest

pub bounds_front : (a b d e rest : List Instr) (lo hi k g : ℕ) → a ≡ instr.I64Const lo ∷ b → b ≡ instr.I64Const hi ∷ d
    → d ≡ instr.I64Const k ∷ e → e ≡ instr.Call g ∷ rest → a ≡ bounds_before lo hi k g rest
bounds_front a b d e rest lo hi k g p q r s = rw (p, q, r, s) refl

-- ---- operands

i64_at : (v : Value) → type_of v ≡ types.I64 → (n : ℕ) × (v ≡ I64 n)
i64_at (I32 n) e = absurd (cc e)
i64_at (I64 n) e = (n, refl)

same_four : (a b c d : Value) (v lo hi k : ℕ) → a ≡ I64 v → b ≡ I64 lo → c ≡ I64 hi → d ≡ I64 k
    → a ∷ b ∷ c ∷ d ∷ [] ≡ I64 v ∷ I64 lo ∷ I64 hi ∷ I64 k ∷ []
same_four a b c d v lo hi k e f g h = rw (e, f, g, h) refl

same_two : (a b : Value) (x y : ℕ) → a ≡ I64 x → b ≡ I64 y → a ∷ b ∷ [] ≡ I64 x ∷ I64 y ∷ []
same_two a b x y e f = rw (e, f) refl

abbrev four_types : List ValueType
four_types = types.I64 ∷ types.I64 ∷ types.I64 ∷ types.I64 ∷ []

abbrev two_types : List ValueType
two_types = types.I64 ∷ types.I64 ∷ []

four_of : (args : List Value) → map type_of args ≡ four_types → (v lo hi k : ℕ)
    × (args ≡ I64 v ∷ I64 lo ∷ I64 hi ∷ I64 k ∷ [])
four_of [] e = let l : 0 ≡ 4 = ap length e in absurd (omega (arith, l))
four_of (a ∷ []) e = let l : 1 ≡ 4 = ap length e in absurd (omega (arith, l))
four_of (a ∷ b ∷ []) e = let l : 2 ≡ 4 = ap length e in absurd (omega (arith, l))
four_of (a ∷ b ∷ c ∷ []) e = let l : 3 ≡ 4 = ap length e in absurd (omega (arith, l))
four_of (a ∷ b ∷ c ∷ d ∷ []) e =
    let v = i64_at a (ap (λ (ts : List ValueType). slice_index_or ts 0 types.I64) e) in
    let lo = i64_at b (ap (λ (ts : List ValueType). slice_index_or ts 1 types.I64) e) in
    let hi = i64_at c (ap (λ (ts : List ValueType). slice_index_or ts 2 types.I64) e) in
    let k = i64_at d (ap (λ (ts : List ValueType). slice_index_or ts 3 types.I64) e) in
    (v.0, lo.0, hi.0, k.0, same_four a b c d v.0 lo.0 hi.0 k.0 v.1 lo.1 hi.1 k.1)
four_of (a ∷ b ∷ c ∷ d ∷ x ∷ xs) e = let l : suc (suc (suc (suc (suc (length (map type_of xs)))))) ≡ 4 = ap length e in
    absurd (omega (arith, l))

two_of : (args : List Value) → map type_of args ≡ two_types → (x y : ℕ) × (args ≡ I64 x ∷ I64 y ∷ [])
two_of [] e = let l : 0 ≡ 2 = ap length e in absurd (omega (arith, l))
two_of (a ∷ []) e = let l : 1 ≡ 2 = ap length e in absurd (omega (arith, l))
two_of (a ∷ b ∷ []) e =
    let x = i64_at a (ap (λ (ts : List ValueType). slice_index_or ts 0 types.I64) e) in
    let y = i64_at b (ap (λ (ts : List ValueType). slice_index_or ts 1 types.I64) e) in
    (x.0, y.0, same_two a b x.0 y.0 x.1 y.1)
two_of (a ∷ b ∷ x ∷ xs) e = let l : suc (suc (suc (length (map type_of xs)))) ≡ 2 = ap length e in
    absurd (omega (arith, l))

squashed : {A : Type 0} → (x y : ∥ A ∥₁) → x ≡ y
squashed x y = squash₁ x y

-- what was not done
check_left : (done : Bool) (old new : List Value) → done ≡ false → Checked done old new → new ≡ old
check_left false old new is h = h
check_left true old new is h = absurd (cc is)

replaced_left : (Is : (x y n : ℕ) → Type 0) (done : Bool) (old new : List Value) → done ≡ false
    → Replaced Is done old new → new ≡ old
replaced_left Is false old new is h = h
replaced_left Is true old new is h = absurd (cc is)

pub calculated_left : (k : KnownFunction) (done : Bool) (old new : List Value) → done ≡ false
    → Calculated k done old new → new ≡ old
calculated_left kind.Check done old new is h = check_left done old new is h
calculated_left kind.Divide done old new is h = replaced_left IsQuotient done old new is h
calculated_left kind.Modulo done old new is h = replaced_left IsRemainder done old new is h
calculated_left kind.Fill done old new is h = h.1
calculated_left kind.Copy done old new is h = h.1
calculated_left kind.Other done old new is h = h.1

-- the two on top, taken one by one, and the upper one given back
pub two_taken : (s t u : List Value) (y x : ℕ) → top_i64 s ≡ Some (t, y) → top_i64 t ≡ Some (u, x)
    → s ≡ u ++ I64 x ∷ I64 y ∷ []
two_taken s t u y x e f = top_is s t y e ∙ ap (λ (l : List Value). l ++ I64 y ∷ []) (top_is t u x f)
    ∙ append_assoc u (I64 x ∷ []) (I64 y ∷ [])

pub one_back : (s t new : List Value) (y : ℕ) → top_i64 s ≡ Some (t, y) → new ≡ t ++ I64 y ∷ [] → new ≡ s
one_back s t new y e f = f ∙ sym (top_is s t y e)

-- one of these operands
under_three : (s below : List Value) (lo hi k a b c d : ℕ)
    → s ++ I64 lo ∷ [] ++ I64 hi ∷ [] ++ I64 k ∷ [] ≡ below ++ I64 a ∷ I64 b ∷ I64 c ∷ I64 d ∷ []
    → s ≡ below ++ I64 a ∷ []
under_three s below lo hi k a b c d e =
    let t = s ++ I64 lo ∷ [] ++ I64 hi ∷ [] in
    let u = s ++ I64 lo ∷ [] in
    let one : t ≡ below ++ (I64 a ∷ I64 b ∷ I64 c ∷ []) =
    popped below (t ++ I64 k ∷ []) t (I64 a ∷ I64 b ∷ I64 c ∷ []) d k e (top_64 t k) in
    let two : u ≡ below ++ (I64 a ∷ I64 b ∷ []) =
    popped below (u ++ I64 hi ∷ []) u (I64 a ∷ I64 b ∷ []) c hi one (top_64 u hi) in
    popped below (s ++ I64 lo ∷ []) s (I64 a ∷ []) b lo two (top_64 s lo)

module _ (modules : List WModule) (st : Store) (now : Activation) (callers : List Activation) where
  abbrev here : Config
  here = Going st now callers

  -- ---- what a call that is next finds

  four_there : (g own : ℕ) (rest : List Instr) → now.rest ≡ instr.Call g ∷ rest
      → Stands modules st now.instance g own check_typed → IsWell modules here → HasFour now.stack
  four_there g own rest e h w =
      let a = arguments modules st now callers w.sound g own h.function rest (check_typed h.type) e h.callee h.typed in
      let f = four_of a.1 a.3 in
      (a.0, f.0, f.1, f.2, f.3, a.2 ∙ ap (λ (l : List Value). a.0 ++ l) f.4)

  two_there : (g own : ℕ) (rest : List Instr) (code : ℕ → Typed) → ((i : ℕ) → (code i).type.params ≡ two_types)
      → now.rest ≡ instr.Call g ∷ rest → Stands modules st now.instance g own code → IsWell modules here
      → AreI64 now.stack
  two_there g own rest code wide e h w =
      let a = arguments modules st now callers w.sound g own h.function rest (code h.type) e h.callee h.typed in
      let f = two_of a.1 (a.3 ∙ wide h.type) in
      (a.0, f.0, f.1, a.2 ∙ ap (λ (l : List Value). a.0 ++ l) f.2)

  has_four : (g : ℕ) (rest : List Instr) → now.rest ≡ instr.Call g ∷ rest
      → ∥ Means modules st now.instance g kind.Check ∥₁ → ∥ IsWell modules here ∥₁ → ∥ HasFour now.stack ∥₁
  has_four g rest e m w = ∥∥₁_elim m squashed (λ h. ∥∥₁_map w (λ a. four_there g h.0 rest e h.1 a))

  has_quotient : (g : ℕ) (rest : List Instr) → now.rest ≡ instr.Call g ∷ rest
      → ∥ Means modules st now.instance g kind.Divide ∥₁ → ∥ IsWell modules here ∥₁ → ∥ AreI64 now.stack ∥₁
  has_quotient g rest e m w = ∥∥₁_elim m squashed
      (λ h. ∥∥₁_map w (λ a. two_there g h.0 rest div_typed (λ i. refl) e h.1 a))

  has_remainder : (g : ℕ) (rest : List Instr) → now.rest ≡ instr.Call g ∷ rest
      → ∥ Means modules st now.instance g kind.Modulo ∥₁ → ∥ IsWell modules here ∥₁ → ∥ AreI64 now.stack ∥₁
  has_remainder g rest e m w = ∥∥₁_elim m squashed
      (λ h. ∥∥₁_map w (λ a. two_there g h.0 rest mod_typed (λ i. refl) e h.1 a))

  -- ---- where it leads

  -- the same function, with its code and operands written out
  pub written : (code : List Instr) (stack : List Value) → now.rest ≡ code → now.stack ≡ stack
      → with now code stack ≡ now
  written code stack e f = ap₂ (λ (c : List Instr) (s : List Value). with now c s) (sym e) (sym f)

  leads_from : (n : ℕ) (code rest : List Instr) (stack new : List Value) → now.rest ≡ code → now.stack ≡ stack
      → Leads modules n (Going st (with now code stack) callers) (Going st (with now rest new) callers)
      → Goes modules n here (Going st (with now rest new) callers)
  leads_from n code rest stack new e f l = sym l.path
      ∙ ap (λ (a : Activation). run modules n (Going st a callers)) (written code stack e f)

  leads_to : (n : ℕ) (rest : List Instr) (new last : List Value) → last ≡ new
      → Goes modules n here (Going st (with now rest new) callers)
      → Goes modules n here (Going st (with now rest last) callers)
  leads_to n rest new last e g = ap (λ (s : List Value). (Going st (with now rest s) callers, [])) e ∙ g

  did_check : (g : ℕ) (rest : List Instr) (new : List Value) (done : Bool) → now.rest ≡ instr.Call g ∷ rest
      → ∥ Means modules st now.instance g kind.Check ∥₁ → done ≡ true → Checked done now.stack new
      → Goes modules 14 here (Going st (with now rest new) callers)
  did_check g rest new false e m is h = absurd (cc is)
  did_check g rest new true e m is h =
      to_progress _ _ (λ k.
      leads_to 14 rest (h.0 ++ I64 h.1 ∷ []) new h.7
      (leads_from 14 (instr.Call g ∷ rest) rest (h.0 ++ I64 h.1 ∷ I64 h.2 ∷ I64 h.3 ∷ I64 h.4 ∷ [])
      (h.0 ++ I64 h.1 ∷ []) e h.5
      (check_returns modules st now callers g k.0 k.1.function k.1.type k.1.callee k.1.typed h.1 h.2 h.3 h.4 h.0 rest
      h.6.0 h.6.1))) m

  did_divide : (g : ℕ) (rest : List Instr) (new : List Value) (done : Bool) → now.rest ≡ instr.Call g ∷ rest
      → ∥ Means modules st now.instance g kind.Divide ∥₁ → done ≡ true → Replaced IsQuotient done now.stack new
      → Goes modules 31 here (Going st (with now rest new) callers)
  did_divide g rest new false e m is h = absurd (cc is)
  did_divide g rest new true e m is h =
      let q = h.5 in
      to_progress _ _ (λ k.
      leads_to 31 rest _ new (h.6 ∙ ap (λ (n : ℕ). h.0 ++ I64 n ∷ []) q.5)
      (leads_from 31 (instr.Call g ∷ rest) rest (h.0 ++ I64 h.1 ∷ I64 h.2 ∷ []) _ e h.4
      (div_returns modules st now callers g k.0 k.1.function k.1.type k.1.callee k.1.typed h.1 h.2 q.1 q.2 h.0 rest
      (record {
        check = k.2.function;
        type = k.2.type;
        callee = k.2.callee;
        typed = k.2.typed;
        at_least =
            q.0.0;
        at_most = q.0.1;
      }) q.3 q.4))) m

  did_modulo : (g : ℕ) (rest : List Instr) (new : List Value) (done : Bool) → now.rest ≡ instr.Call g ∷ rest
      → ∥ Means modules st now.instance g kind.Modulo ∥₁ → done ≡ true → Replaced IsRemainder done now.stack new
      → Goes modules 32 here (Going st (with now rest new) callers)
  did_modulo g rest new false e m is h = absurd (cc is)
  did_modulo g rest new true e m is h =
      let q = h.5 in
      to_progress _ _ (λ k.
      leads_to 32 rest _ new (h.6 ∙ ap (λ (n : ℕ). h.0 ++ I64 n ∷ []) q.3)
      (leads_from 32 (instr.Call g ∷ rest) rest (h.0 ++ I64 h.1 ∷ I64 h.2 ∷ []) _ e h.4
      (mod_returns modules st now callers g k.0 k.1.function k.1.type k.1.callee k.1.typed h.1 h.2 q.1 h.0 rest
      (record {
        check = k.2.function;
        type = k.2.type;
        callee = k.2.callee;
        typed = k.2.typed;
        at_least =
            q.0.0;
        at_most = q.0.1;
      }) q.2))) m

  -- check, div or mod
  pub has_arguments : (k : KnownFunction) (g : ℕ) (rest : List Instr) → now.rest ≡ instr.Call g ∷ rest
      → ∥ Means modules st now.instance g k ∥₁ → ∥ IsWell modules here ∥₁ → ∥ HasArguments k now.stack ∥₁
  has_arguments kind.Check g rest e m w = has_four g rest e m w
  has_arguments kind.Divide g rest e m w = has_quotient g rest e m w
  has_arguments kind.Modulo g rest e m w = has_remainder g rest e m w
  has_arguments kind.Fill g rest e m w = merely tt
  has_arguments kind.Copy g rest e m w = merely tt
  has_arguments kind.Other g rest e m w = merely tt

  not_done : (done : Bool) → done ≡ true → done ≡ false → ⊥
  not_done done is isnt = absurd (cc (is, isnt))

  did_kind : (k : KnownFunction) (g : ℕ) (rest : List Instr) (new : List Value) (done : Bool)
      → now.rest ≡ instr.Call g ∷ rest → ∥ Means modules st now.instance g k ∥₁ → done ≡ true
      → Calculated k done now.stack new
      → Goes modules (reductions k) here (Going st (with now rest new) callers)
  did_kind kind.Check g rest new done e m is h = did_check g rest new done e m is h
  did_kind kind.Divide g rest new done e m is h = did_divide g rest new done e m is h
  did_kind kind.Modulo g rest new done e m is h = did_modulo g rest new done e m is h
  did_kind kind.Fill g rest new done e m is h = absurd (not_done done is h.0)
  did_kind kind.Copy g rest new done e m is h = absurd (not_done done is h.0)
  did_kind kind.Other g rest new done e m is h = absurd (not_done done is h.0)

  pub did_calculate : (k : KnownFunction) (n g : ℕ) (rest : List Instr) (new : List Value) (done : Bool)
      → n ≡ reductions k → now.rest ≡ instr.Call g ∷ rest → ∥ Means modules st now.instance g k ∥₁ → done ≡ true
      → Calculated k done now.stack new
      → Goes modules n here (Going st (with now rest new) callers)
  did_calculate k n g rest new done size e m is h = did_kind k g rest new done e m is h
      ∙ ap (λ (j : ℕ). run modules j here) (sym size)

  -- a call that is left as it was
  pub did_nothing : (n : ℕ) (new : List Value) → n ≡ 0 → new ≡ now.stack
      → Goes modules n here (Going st (record now { stack = new }) callers)
  did_nothing n new e f = ap (λ (s : List Value). (Going st (record now { stack = s }) callers, [])) f
      ∙ none_made modules here ∙ ap (λ (k : ℕ). run modules k here) (sym e)

  -- ---- three constants and a call of check

  abbrev reached : (g lo hi k : ℕ) (rest : List Instr) → Activation
  reached g lo hi k rest = with now (instr.Call g ∷ rest) (now.stack ++ I64 lo ∷ [] ++ I64 hi ∷ [] ++ I64 k ∷ [])

  three : (g lo hi k : ℕ) (rest : List Instr) → now.rest ≡ bounds_before lo hi k g rest
      → run modules 3 here ≡ (Going st (reached g lo hi k rest) callers, [])
  three g lo hi k rest e =
      let from : with now (bounds_before lo hi k g rest) now.stack ≡ now =
      written (bounds_before lo hi k g rest) now.stack e refl in
      ap (λ (a : Activation). run modules 3 (Going st a callers)) (sym from)
      ∙ (computed modules 3 (Going st (with now (bounds_before lo hi k g rest) now.stack) callers)
      (Going st (reached g lo hi k rest) callers) refl).path

  module _ (table : List (List KnownFunction)) (w : ∥ Holds modules table here ∥₁) (g lo hi k : ℕ) (rest : List Instr)
      (e : now.rest ≡ bounds_before lo hi k g rest) (is : known_in table now.instance g ≡ kind.Check) where
    means : Holds modules table here → Means modules st now.instance g kind.Check
    means h = subst (Means modules st now.instance g) is (h.right now.instance g)

    number_under : Holds modules table here → IsI64 now.stack
    number_under h =
        let last = subst (λ (p : Progress). IsWell modules p.0) (three g lo hi k rest e) (ran modules 3 here h.well) in
        let m = means h in
        let a = arguments modules st (reached g lo hi k rest) callers last.sound g m.0 m.1.function rest
        (check_typed m.1.type) refl m.1.callee m.1.typed in
        let f = four_of a.1 a.3 in
        (a.0, f.0, under_three now.stack a.0 lo hi k f.0 f.1 f.2 f.3 (a.2 ∙ ap (λ (l : List Value). a.0 ++ l) f.4))

    pub has_number : ∥ IsI64 now.stack ∥₁
    has_number = ∥∥₁_map w number_under

    pub did_bounds : (t : List Value) (v : ℕ) → top_i64 now.stack ≡ Some (t, v) → IsBetween v lo hi
        → Goes modules 17 here (Going st (record now { rest = rest }) callers)
    did_bounds t v top b =
        let stack : now.stack ≡ t ++ I64 v ∷ [] = top_is now.stack t v top in
        to_progress _ _ (λ h.
        let m = means h in
        leads_to 17 rest (t ++ I64 v ∷ []) now.stack stack
        (leads_from 17 (bounds_before lo hi k g rest) rest (t ++ I64 v ∷ []) (t ++ I64 v ∷ []) e stack
        (bounds_return modules st now callers g m.0 m.1.function m.1.type m.1.callee m.1.typed v lo hi k t rest b.0
        b.1))) w

-- what the table says
means_known : (modules : List WModule) (table : List (List KnownFunction)) (st : Store) (now : Activation)
    (callers : List Activation) (g : ℕ) (k found : KnownFunction)
    → ∥ Holds modules table (Going st now callers) ∥₁ → found ≡ known_in table now.instance g → found ≡ k
    → ∥ Means modules st now.instance g k ∥₁
means_known modules table st now callers g k found h e is =
    ∥∥₁_map h (λ a. subst (Means modules st now.instance g) (sym e ∙ is) (a.right now.instance g))

-- a call that is next, of which the table says so
pub calls_known : (modules : List WModule) (table : List (List KnownFunction)) (m : Machine) (g : ℕ) (rest : List Instr)
    (k found : KnownFunction)
    → ∥ Holds modules table (going m) ∥₁ → tree m.now.rest.now ≡ instr.Call g ∷ rest
    → found ≡ known_in table m.now.instance g → found ≡ k → Calls modules m k g rest
calls_known modules table m g rest k found h next e is = record {
  next = next;
  known = means_known modules table (store_of m) (activation m.now) (callers_of m) g k found h e is;
  sound = well_of modules table (going m) h;
}

-- one reduction, where none was made before
pub once_made : {E : Type 0} (r : Result (ℕ × Reduced) E) (modules : List WModule) (old mid : Config) (m : Machine)
    (n : ℕ) → n ≡ 0 → Goes modules n old mid → IfOk r (λ p. (p.0 ≡ 1) × (progress p.1 m ≡ run modules 1 mid))
    → IfOk r (λ p. progress p.1 m ≡ run modules p.0 old)
once_made (Ok p) modules old mid m n none g h =
    let same : mid ≡ old = ap (λ (q : Progress). q.0)
    (g ∙ (ap (λ (k : ℕ). run modules k old) none ∙ run-zero modules old)) in
    h.1 ∙ (ap (run modules 1) same ∙ ap (λ (k : ℕ). run modules k old) (sym h.0))
once_made (Err e) modules old mid m n none g h = tt

-- the table speaks of functions and instances alone
module _ (modules : List WModule) (st : Store) (ms : List Memory) (gs : List Value) where
  abbrev filled : Store
  filled = record st { memories = ms; globals = gs }

  stands_filled : (m g own : ℕ) (code : ℕ → Typed) → Stands modules st m g own code → Stands modules filled m g own code
  stands_filled m g own code h = record { function = h.function; type = h.type; callee = h.callee; typed = h.typed }

  means_filled : (m g : ℕ) (k : KnownFunction) → Means modules st m g k → Means modules filled m g k
  means_filled m g kind.Other h = tt
  means_filled m g kind.Check h = (h.0, stands_filled m g h.0 _ h.1)
  means_filled m g kind.Divide h = (h.0, stands_filled m g h.0 _ h.1, stands_filled h.0 4 h.0 _ h.2)
  means_filled m g kind.Modulo h = (h.0, stands_filled m g h.0 _ h.1, stands_filled h.0 4 h.0 _ h.2)
  means_filled m g kind.Fill h = (h.0, stands_filled m g h.0 _ h.1)
  means_filled m g kind.Copy h = (h.0, stands_filled m g h.0 _ h.1)

  pub right_filled : (table : List (List KnownFunction)) → IsRight modules st table → IsRight modules filled table
  right_filled table h m g = means_filled m g (slice_index_or (slice_index_or table m []) g kind.Other) (h m g)

-- ---- fill

no_64 : (t : List Value) (m : ℕ) → top_i32 (t ++ I64 m ∷ []) ≡ None
no_64 t m = rw (split_last-push t (I64 m)) refl

-- what was on top
pub narrow_top : (s t : List Value) (n : ℕ) → top_i32 s ≡ Some (t, n) → s ≡ t ++ I32 n ∷ []
narrow_top s t n e = ⊎_elim (λ (z : s ≡ []). absurd (none-some wanted (sym (ap top_i32 z) ∙ e)))
    (λ (h : IsLast s). of h.0 h.1 h.2) (last_or_none s)
  where
    wanted : List Value × ℕ
    wanted = (t, n)

    of : (below : List Value) (v : Value) → s ≡ below ++ v ∷ [] → s ≡ t ++ I32 n ∷ []
    of below (I64 m) z = absurd (none-some wanted (sym (ap top_i32 z ∙ no_64 below m) ∙ e))
    of below (I32 m) z =
        let found : List Value × ℕ = (below, m) in
        let same : found ≡ wanted = same_Some found wanted (sym (ap top_i32 z ∙ top_32 below m) ∙ e) in
        z ∙ ap (λ (p : List Value × ℕ). p.0 ++ I32 p.1 ∷ []) same

i32_at : (v : Value) → type_of v ≡ types.I32 → (n : ℕ) × (v ≡ I32 n)
i32_at (I64 n) e = absurd (cc e)
i32_at (I32 n) e = (n, refl)

same_narrow : (a b : Value) (x y : ℕ) → a ≡ I32 x → b ≡ I32 y → a ∷ b ∷ [] ≡ I32 x ∷ I32 y ∷ []
same_narrow a b x y e f = rw (e, f) refl

abbrev narrow_types : List ValueType
narrow_types = types.I32 ∷ types.I32 ∷ []

narrow_of : (args : List Value) → map type_of args ≡ narrow_types → (x y : ℕ) × (args ≡ I32 x ∷ I32 y ∷ [])
narrow_of [] e = let l : 0 ≡ 2 = ap length e in absurd (omega (arith, l))
narrow_of (a ∷ []) e = let l : 1 ≡ 2 = ap length e in absurd (omega (arith, l))
narrow_of (a ∷ b ∷ []) e =
    let x = i32_at a (ap (λ (ts : List ValueType). slice_index_or ts 0 types.I64) e) in
    let y = i32_at b (ap (λ (ts : List ValueType). slice_index_or ts 1 types.I64) e) in
    (x.0, y.0, same_narrow a b x.0 y.0 x.1 y.1)
narrow_of (a ∷ b ∷ x ∷ xs) e = let l : suc (suc (suc (length (map type_of xs)))) ≡ 2 = ap length e in
    absurd (omega (arith, l))

-- ---- copy

same_three : (a b c : Value) (x y z : ℕ) → a ≡ I32 x → b ≡ I32 y → c ≡ I32 z
    → a ∷ b ∷ c ∷ [] ≡ I32 x ∷ I32 y ∷ I32 z ∷ []
same_three a b c x y z e f g = rw (e, f, g) refl

abbrev three_types : List ValueType
three_types = types.I32 ∷ types.I32 ∷ types.I32 ∷ []

three_of : (args : List Value) → map type_of args ≡ three_types → (x y z : ℕ) × (args ≡ I32 x ∷ I32 y ∷ I32 z ∷ [])
three_of [] e = let l : 0 ≡ 3 = ap length e in absurd (omega (arith, l))
three_of (a ∷ []) e = let l : 1 ≡ 3 = ap length e in absurd (omega (arith, l))
three_of (a ∷ b ∷ []) e = let l : 2 ≡ 3 = ap length e in absurd (omega (arith, l))
three_of (a ∷ b ∷ c ∷ []) e =
    let x = i32_at a (ap (λ (ts : List ValueType). slice_index_or ts 0 types.I64) e) in
    let y = i32_at b (ap (λ (ts : List ValueType). slice_index_or ts 1 types.I64) e) in
    let z = i32_at c (ap (λ (ts : List ValueType). slice_index_or ts 2 types.I64) e) in
    (x.0, y.0, z.0, same_three a b c x.0 y.0 z.0 x.1 y.1 z.1)
three_of (a ∷ b ∷ c ∷ x ∷ xs) e = let l : suc (suc (suc (suc (length (map type_of xs))))) ≡ 3 = ap length e in
    absurd (omega (arith, l))

third_narrow : (s : List Value) → HasThree s → IsI32 s
third_narrow s h = (
  h.0 ++ I32 h.1 ∷ I32 h.2 ∷ [],
  h.3,
  h.4
      ∙ sym (append_assoc h.0 (I32 h.1 ∷ I32 h.2 ∷ []) (I32 h.3 ∷ [])),
)

two_narrow : (s t : List Value) (n : ℕ) → top_i32 s ≡ Some (t, n) → HasThree s → AreI32 t
two_narrow s t n e h =
    let under : List Value = h.0 ++ I32 h.1 ∷ I32 h.2 ∷ [] in
    let found : List Value × ℕ = (under, h.3) in
    let wanted : List Value × ℕ = (t, n) in
    let whole : s ≡ under ++ I32 h.3 ∷ [] = h.4 ∙ sym (append_assoc h.0 (I32 h.1 ∷ I32 h.2 ∷ []) (I32 h.3 ∷ [])) in
    let same : found ≡ wanted = same_Some found wanted (sym (ap top_i32 whole ∙ top_32 under h.3) ∙ e) in
    (h.0, h.1, h.2, sym (ap (λ (p : List Value × ℕ). p.0) same))

pub topmost_narrow : (s : List Value) → ∥ HasThree s ∥₁ → ∥ IsI32 s ∥₁
topmost_narrow s h = ∥∥₁_map h (third_narrow s)

pub lower_narrow : (s t : List Value) (n : ℕ) → ∥ HasThree s ∥₁ → top_i32 s ≡ Some (t, n) → ∥ AreI32 t ∥₁
lower_narrow s t n h e = ∥∥₁_map h (two_narrow s t n e)

-- the three on top, taken one by one
three_taken : (s t u w : List Value) (k from to : ℕ) → top_i32 s ≡ Some (t, k) → top_i32 t ≡ Some (u, from)
    → top_i32 u ≡ Some (w, to) → s ≡ w ++ I32 to ∷ [] ++ I32 from ∷ [] ++ I32 k ∷ []
three_taken s t u w k from to e f g = rw (narrow_top s t k e, narrow_top t u from f, narrow_top u w to g) refl

three_on : (w : List Value) (to from k : ℕ)
    → w ++ I32 to ∷ [] ++ I32 from ∷ [] ++ I32 k ∷ [] ≡ w ++ I32 to ∷ I32 from ∷ I32 k ∷ []
three_on w to from k = ap (λ (l : List Value). l ++ I32 k ∷ []) (append_assoc w (I32 to ∷ []) (I32 from ∷ []))
    ∙ append_assoc w (I32 to ∷ I32 from ∷ []) (I32 k ∷ [])

memory_found : (st : Store) (own place : ℕ) (memory : Memory) → memory_place st own ≡ Some place
    → slice_get st.memories place ≡ Some memory → memory_of st own ≡ Some (place, memory)
memory_found st own place memory e f =
    let i = then_some (λ (j : Instance). slice_get j.memories 0) (instance_of st own) place e in
    ap (λ (o : Option Instance). option_and_then
    (λ (j : Instance). option_and_then (λ (a : ℕ). option_map (λ (m : Memory). (a, m)) (slice_get st.memories a))
    (slice_get j.memories 0)) o) i.1
    ∙ (ap (λ (o : Option ℕ). option_and_then (λ (a : ℕ). option_map (λ (m : Memory). (a, m)) (slice_get st.memories a))
    o) i.2
    ∙ ap (λ (o : Option Memory). option_map (λ (m : Memory). (place, m)) o) f)

module _ (modules : List WModule) (st : Store) (now : Activation) (callers : List Activation) where
  fill_there : (g own : ℕ) (rest : List Instr) → now.rest ≡ instr.Call g ∷ rest
      → Stands modules st now.instance g own fill_typed → IsWell modules (Going st now callers) → AreI32 now.stack
  fill_there g own rest e h w =
      let a = arguments modules st now callers w.sound g own h.function rest (fill_typed h.type) e h.callee h.typed in
      let f = narrow_of a.1 a.3 in
      (a.0, f.0, f.1, a.2 ∙ ap (λ (l : List Value). a.0 ++ l) f.2)

  pub fill_callee : (g : ℕ) → ∥ Means modules st now.instance g kind.Fill ∥₁ → IsThere (callee_at st now.instance g)
  fill_callee g m = there_by (callee_at st now.instance g)
      (λ (h : Means modules st now.instance g kind.Fill). (Own h.0 h.1.function, h.1.callee)) m

  pub has_fill : (g : ℕ) (rest : List Instr) → now.rest ≡ instr.Call g ∷ rest
      → ∥ Means modules st now.instance g kind.Fill ∥₁ → ∥ IsWell modules (Going st now callers) ∥₁
      → ∥ AreI32 now.stack ∥₁
  has_fill g rest e m w = ∥∥₁_elim m squashed (λ h. ∥∥₁_map w (λ a. fill_there g h.0 rest e h.1 a))

  same_module : (g own f a b : ℕ) → callee_at st now.instance g ≡ Some (Own own f)
      → callee_at st now.instance g ≡ Some (Own a b) → own ≡ a
  same_module g own f a b e h = ap number (same_Some (Own own f) (Own a b) (sym e ∙ h))
    where
      number : Callee → ℕ
      number (Own x y) = x
      number Put = 0
      number Stop = 0

  pub did_fill : (g own f : ℕ) (rest : List Instr) (t u : List Value) (to k n : ℕ) (ms : List Memory) (done : Bool)
      → n ≡ k → now.rest ≡ instr.Call g ∷ rest → ∥ Means modules st now.instance g kind.Fill ∥₁
      → callee_at st now.instance g ≡ Some (Own own f)
      → top_i32 now.stack ≡ Some (t, k) → top_i32 t ≡ Some (u, to) → done ≡ true
      → Changed done st own (to + k) (cleared_bytes k to) st.memories ms
      → Goes modules (n * 16 + 7) (Going st now callers) (Going (record st { memories = ms }) (with now rest u) callers)
  did_fill g own f rest t u to k n ms false size e m at top under is h = absurd (cc is)
  did_fill g own f rest t u to k n ms true size e m at top under is h =
      let stack : now.stack ≡ u ++ I32 to ∷ I32 k ∷ [] = narrow_top now.stack t k top
      ∙ (ap (λ (l : List Value). l ++ I32 k ∷ []) (narrow_top t u to under)
      ∙ append_assoc u (I32 to ∷ []) (I32 k ∷ [])) in
      to_progress _ _ (λ a.
      let mine : a.0 ≡ own = same_module g a.0 a.1.function own f a.1.callee at in
      let leads = fill_returns modules st now callers g a.0 a.1.function a.1.type h.0 h.1.memory a.1.callee a.1.typed
      (ap (memory_of st) mine ∙ memory_found st own h.0 h.1.memory h.1.at h.1.there) to k u rest h.1.reaches
      h.1.fits in
      ap (λ (l : List Memory). (Going (record st { memories = l }) (with now rest u) callers, [])) h.2
      ∙ (sym leads.path ∙ ap (λ (x : Activation). run modules (k * 16 + 7) (Going st x callers))
      (ap₂ (λ (c : List Instr) (s : List Value). with now c s) (sym e) (sym stack))
      ∙ ap (λ (j : ℕ). run modules (j * 16 + 7) (Going st now callers)) (sym size))) m

  copy_there : (g own : ℕ) (rest : List Instr) → now.rest ≡ instr.Call g ∷ rest
      → Stands modules st now.instance g own copy_typed → IsWell modules (Going st now callers) → HasThree now.stack
  copy_there g own rest e h w =
      let a = arguments modules st now callers w.sound g own h.function rest (copy_typed h.type) e h.callee h.typed in
      let f = three_of a.1 a.3 in
      (a.0, f.0, f.1, f.2, a.2 ∙ ap (λ (l : List Value). a.0 ++ l) f.3)

  pub copy_callee : (g : ℕ) → ∥ Means modules st now.instance g kind.Copy ∥₁ → IsThere (callee_at st now.instance g)
  copy_callee g m = there_by (callee_at st now.instance g)
      (λ (h : Means modules st now.instance g kind.Copy). (Own h.0 h.1.function, h.1.callee)) m

  pub has_copy : (g : ℕ) (rest : List Instr) → now.rest ≡ instr.Call g ∷ rest
      → ∥ Means modules st now.instance g kind.Copy ∥₁ → ∥ IsWell modules (Going st now callers) ∥₁
      → ∥ HasThree now.stack ∥₁
  has_copy g rest e m w = ∥∥₁_elim m squashed (λ h. ∥∥₁_map w (λ a. copy_there g h.0 rest e h.1 a))

  pub did_copy : (g own f : ℕ) (rest : List Instr) (t u w : List Value) (to from k n : ℕ) (ms : List Memory)
      (done : Bool) → n ≡ k → now.rest ≡ instr.Call g ∷ rest → ∥ Means modules st now.instance g kind.Copy ∥₁
      → callee_at st now.instance g ≡ Some (Own own f)
      → top_i32 now.stack ≡ Some (t, k) → top_i32 t ≡ Some (u, from) → top_i32 u ≡ Some (w, to) → done ≡ true
      → Changed done st own (max to from + k) (copied_bytes k to from) st.memories ms
      → Goes modules (n * 21 + 7) (Going st now callers) (Going (record st { memories = ms }) (with now rest w) callers)
  did_copy g own f rest t u w to from k n ms false size e m at top under lowest is h = absurd (cc is)
  did_copy g own f rest t u w to from k n ms true size e m at top under lowest is h =
      let stack : now.stack ≡ w ++ I32 to ∷ I32 from ∷ I32 k ∷ [] =
      three_taken now.stack t u w k from to top under lowest ∙ three_on w to from k in
      let reach = h.1.reaches in
      let target : to + k ≤ length h.1.memory.bytes = omega (arith, reach) in
      let source : from + k ≤ length h.1.memory.bytes = omega (arith, reach) in
      to_progress _ _ (λ a.
      let mine : a.0 ≡ own = same_module g a.0 a.1.function own f a.1.callee at in
      let leads = copy_returns modules st now callers g a.0 a.1.function a.1.type h.0 h.1.memory a.1.callee a.1.typed
      (ap (memory_of st) mine ∙ memory_found st own h.0 h.1.memory h.1.at h.1.there) to from k w rest target source
      h.1.small h.1.fits in
      ap (λ (l : List Memory). (Going (record st { memories = l }) (with now rest w) callers, [])) h.2
      ∙ (sym leads.path ∙ ap (λ (x : Activation). run modules (k * 21 + 7) (Going st x callers))
      (ap₂ (λ (c : List Instr) (s : List Value). with now c s) (sym e) (sym stack))
      ∙ ap (λ (j : ℕ). run modules (j * 21 + 7) (Going st now callers)) (sym size))) m

  pub three_back : (t u w last : List Value) (to from k : ℕ) → top_i32 now.stack ≡ Some (t, k)
      → top_i32 t ≡ Some (u, from) → top_i32 u ≡ Some (w, to) → last ≡ w ++ I32 to ∷ [] ++ I32 from ∷ [] ++ I32 k ∷ []
      → last ≡ now.stack
  three_back t u w last to from k top under lowest e = e ∙ sym (three_taken now.stack t u w k from to top under lowest)

  pub narrow_back : (t u last : List Value) (to k : ℕ) → top_i32 now.stack ≡ Some (t, k) → top_i32 t ≡ Some (u, to)
      → last ≡ u ++ I32 to ∷ [] ++ I32 k ∷ [] → last ≡ now.stack
  narrow_back t u last to k top under e = e
      ∙ (ap (λ (l : List Value). l ++ I32 k ∷ []) (sym (narrow_top t u to under)) ∙ sym (narrow_top now.stack t k top))

  -- all is as it was, also the memories
  pub did_no_fill : (new : List Value) (ms : List Memory) → new ≡ now.stack → ms ≡ st.memories
      → Goes modules 0 (Going st now callers) (Going (record st { memories = ms }) (record now { stack = new }) callers)
  did_no_fill new ms e f = ap₂ (λ (s : List Value) (l : List Memory).
      (Going (record st { memories = l }) (record now { stack = s }) callers, [])) e f
      ∙ none_made modules (Going st now callers)

  pub memory_left : (st : Store) (own reach : ℕ) (change : List ℕ → List ℕ) (done : Bool) (old new : List Memory)
      → done ≡ false → Changed done st own reach change old new → new ≡ old
  memory_left st own reach change false old new is h = h
  memory_left st own reach change true old new is h = absurd (cc is)

there_at : (old : List Pages) (a : ℕ) (m : Pages) → a < length old → m ≡ slice_index_or old a m
    → slice_get (map memory_from old) a ≡ Some (memory_from m)
there_at [] a m h e = absurd (omega arith)
there_at (x ∷ xs) zero m h e = ap (λ (p : Pages). Some (memory_from p)) (sym e)
there_at (x ∷ xs) (suc a) m h e = there_at xs a m (omega arith) e

-- a memory that reaches so far
found_there : (old : List Pages) (a : ℕ) (m : Pages) → Some m ≡ slice_get old a → (a < length old)
    × (slice_get (map memory_from old) a ≡ Some (memory_from m))
found_there [] a m e = absurd (none-some m (sym e))
found_there (x ∷ xs) zero m e = (omega arith, ap (λ (p : Pages). Some (memory_from p)) (sym (same_Some m x e)))
found_there (x ∷ xs) (suc a) m e = let rest = found_there xs a m e in (omega (arith, rest.0), rest.1)

pub reaching : (st : Store) (own reach : ℕ) (memories : List Pages) (place : ℕ) (found : Pages) (seen : List ℕ)
    (size : ℕ) → memory_place st own ≡ Some place → Some found ≡ slice_get memories place → seen ≡ found.bytes.items
    → size ≡ length seen → ((a : ℕ) → byte a seen < 256) → size < 2 ^ 32 → reach ≤ size → (place < length memories)
    × Reaches st own reach (map memory_from memories) place
reaching st own reach memories place found seen size at is same counted bytes fits reaches =
    let here = found_there memories place found is in
    let long : size ≡ length found.bytes.items = counted ∙ ap length same in
    let small : (a : ℕ) → byte a found.bytes.items < 256 =
    subst (λ (l : List ℕ). (a : ℕ) → byte a l < 256) same bytes in (
      here.0,
      record {
        memory = memory_from found;
        at = at;
        there = here.1;
        reaches =
            omega (arith, long, reaches);
        fits = omega (arith, long, fits);
        small = small;
      },
    )

-- a memory of which the bytes were changed
pub changed_by : (st : Store) (own place asked reach : ℕ) (change : List ℕ → List ℕ) (seen old : List Pages)
    (first new : Pages) → asked ≡ reach → seen ≡ old → (place < length seen)
    × Reaches st own asked (map memory_from seen) place → first ≡ slice_index_or old place first
    → memory_from new ≡ record (memory_from first) { bytes = change first.bytes.items }
    → Changed true st own reach change (map memory_from old) (map memory_from (slice_set old place new))
changed_by st own place asked reach change seen old first new so_far same_list found is changed =
    let both : (place < length old) × Reaches st own reach (map memory_from old) place =
    subst (λ (n : ℕ). (place < length old) × Reaches st own n (map memory_from old) place) so_far
    (subst (λ (l : List Pages). (place < length l) × Reaches st own asked (map memory_from l) place) same_list
    found) in
    let h = both.1 in
    let same : memory_from first ≡ h.memory =
    same_Some (memory_from first) h.memory (sym (there_at old place first both.0 is) ∙ h.there) in (
      place,
      h,
      map-set memory_from old place new
          ∙ ap (slice_set (map memory_from old) place)
          (changed ∙ ap (λ (m : Memory). record m { bytes = change m.bytes }) same),
    )

-- what is said of the store that has no memories yet
pub changed_filled : (done : Bool) (st : Store) (ms : List Memory) (gs : List Value) (own reach : ℕ)
    (change : List ℕ → List ℕ) (old new : List Memory) → Changed done st own reach change old new
    → Changed done (record st { memories = ms; globals = gs }) own reach change old new
changed_filled false st ms gs own reach change old new h = h
changed_filled true st ms gs own reach change old new h = (
  h.0,
  record {
    memory = h.1.memory;
    at = h.1.at;
    there = h.1.there;
    reaches = h.1.reaches;
    fits = h.1.fits;
    small =
        h.1.small;
  },
  h.2,
)
